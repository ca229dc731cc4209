-- Laws on the sizes of an image.
use mathlib.Core.Path.{◌≡◌, refl, sym, ap, ◌∙◌}
use mathlib.Core.Bool.{Bool, true, false, ◌&&◌}
use mathlib.Core.List.{List}
use Prim.Native.Nat.{ℕ, ◌+◌, ◌-◌, ◌≤◌, ◌<◌}
use native.Mathlib.Omega.{arith}
use lib.ListN.{length, get_or, length-map}
use lib.Dec.{leb}
use borrow.Author.Tests.{eq-eqb, ne_eqb, le-leb, lt-leb, leb-true, leb-false}
use Rattle.lists.specs.Elements.{all}
use Rattle.lists.proofs.Tests.{and-true, and-false}
use Rattle.edition.specs.Limits.{text_bytes, user_names, constant_count, ere_count, instruction_count, operand_depth}
use Rattle.image_format.specs.Image.{Image}
use Rattle.semantics.specs.Variables.{special_count}
use Rattle.semantics.specs.World.{variable_count}
use Rattle.semantics.specs.Check.{small_constant}
use Rattle.program_numbering.specs.Sizes.{fits}
use Rattle.program_words.specs.Words.{depth_in}
use Rattle.program_tables.specs.declared.tables.Entry.{Entry}
use Rattle.program_tables.specs.Texts.{value_in}
use Rattle.program_tables.specs.Tables.{entry_in, meant, entries_from}
use Rattle.program_image.specs.Written.{text_of, instruction_of, instructions_of}
use Rattle.program_image.specs.Pictured.{image_in}
use Rattle.program_image.specs.Fitting.{depths_fit, counts_fit, lengths_fit, sections_fit}
use Rattle.program_image.proofs.Parts.{entries-count, entries-start, entries-more, entries-end}
use Rattle.program_image.proofs.Parts.{instructions_from, instructions-count, instructions-more, instructions-end}

-- ---- depths, from instruction i on

module _ (section : List ℕ) (i n : ℕ) (h : i < n) (g : n ≤ length section) where
  pub depth-over : operand_depth < depth_in (get_or section i 0) → depths_fit (instructions_from section i n) ≡ false
  unfolding instruction_of
  depth-over d =
      ap depths_fit (instructions-more section i n h g) ∙ rw (lt-leb (depth_in (get_or section i 0)) operand_depth d)

  pub depth-within : depth_in (get_or section i 0) ≤ operand_depth
      → depths_fit (instructions_from section i n) ≡ depths_fit (instructions_from section (i + 1) n)
  unfolding instruction_of
  depth-within d =
      ap depths_fit (instructions-more section i n h g) ∙ rw (le-leb (depth_in (get_or section i 0)) operand_depth d)

pub depth-end : (section : List ℕ) (i n : ℕ) → n ≤ i → depths_fit (instructions_from section i n) ≡ true
depth-end section i n h = ap depths_fit (instructions-end section i n h)

-- ---- constants, from entry k on

module _ (s : List ℕ) (e : Entry) where
  pub number_small : e.stop ≡ 0 → small_constant (meant s true e) ≡ true
  unfolding meant
  number_small h = rw (eq-eqb e.stop 0 h)

  pub text-small : (e.stop ≡ 0 → ⊥)
      → small_constant (meant s true e) ≡ leb (length (value_in s true e.value e.stop)) text_bytes
  unfolding meant
  text-small h = rw (ne_eqb e.stop 0 h)

module _ (s table : List ℕ) where
  abbrev pub constants_fit : ℕ → ℕ → Bool
  constants_fit k n = all small_constant (entries_from s true table k n)

  pub small-start : (n : ℕ) → constants_fit 0 n ≡ constants_fit 0 (n - 0)
  small-start n = sym (ap (all small_constant) (entries-start s true table n))

  pub small-over : (k n : ℕ) → k < n → small_constant (meant s true (entry_in table k)) ≡ false
      → constants_fit k (n - k) ≡ false
  small-over k n h d = ap (all small_constant) (entries-more s true table k n h) ∙ rw d

  pub small-within : (k n : ℕ) → k < n → small_constant (meant s true (entry_in table k)) ≡ true
      → constants_fit k (n - k) ≡ constants_fit (k + 1) (n - (k + 1))
  small-within k n h d = ap (all small_constant) (entries-more s true table k n h) ∙ rw d

  pub small-end : (k n : ℕ) → n ≤ k → constants_fit k (n - k) ≡ true
  small-end k n h = ap (all small_constant) (entries-end s true table k n h)

-- ---- the whole

-- the tests in the order of the code: of sections by length, of counts, of sections by depth, of constants
in_order : (u c s e lb db lm dm ld dd : Bool)
    → ((u && (c && (s && e))) && ((lb && db) && ((lm && dm) && (ld && dd))))
    ≡ ((lb && (lm && ld)) && ((u && (c && e)) && ((db && (dm && dd)) && s)))
in_order u c s e false db lm dm ld dd = and-false (u && (c && (s && e)))
in_order u c s e true false lm dm ld dd =
    rw (
      and-false (u && (c && (s && e))),
      and-false (u && (c && e)),
      and-false (lm && ld),
    )
in_order u c s e true true false dm ld dd = and-false (u && (c && (s && e)))
in_order u c s e true true true false ld dd =
    rw (and-false (u && (c && (s && e))), and-false (u && (c && e)), and-false ld)
in_order u c s e true true true true false dd = and-false (u && (c && (s && e)))
in_order u c s e true true true true true false =
    rw (and-false (u && (c && (s && e))), and-false (u && (c && e)))
in_order false c s e true true true true true true = refl
in_order true false s e true true true true true true = refl
in_order true true true true true true true true true true = refl
in_order true true true false true true true true true true = refl
in_order true true false true true true true true true true = refl
in_order true true false false true true true true true true = refl

users-fit : (n u : ℕ) → leb u user_names ≡ leb (n + u) (n + user_names)
users-fit n u = go (leb u user_names) refl
  where
    go : (x : Bool) → leb u user_names ≡ x → x ≡ leb (n + u) (n + user_names)
    go true h =
        let l = leb-true u user_names h in
        sym (le-leb (n + u) (n + user_names) (omega (arith, l)))
    go false h =
        let l = leb-false u user_names h in
        sym (lt-leb (n + u) (n + user_names) (omega (arith, l)))

-- sizes of any image
pub fits-apart : (i : Image)
    → fits i
    ≡ (lengths_fit (length i.begin) (length i.main) (length i.end)
    && (counts_fit i.edition (variable_count i) (length i.constants) (length i.eres)
    && (sections_fit i.begin i.main i.end && all small_constant i.constants)))
unfolding fits
fits-apart i =
    in_order (leb i.users user_names) (leb (length i.constants) constant_count) (all small_constant i.constants)
    (leb (length i.eres) ere_count) (leb (length i.begin) instruction_count) (depths_fit i.begin)
    (leb (length i.main) instruction_count) (depths_fit i.main) (leb (length i.end) instruction_count)
    (depths_fit i.end)
    ∙ rw (users-fit (special_count i.edition) i.users) refl

-- what counts that fit are at most
pub counts-within : (edition variables constants eres : ℕ) → counts_fit edition variables constants eres ≡ true
    → (variables ≤ special_count edition + user_names) × (constants ≤ constant_count) × (eres ≤ ere_count)
counts-within edition variables constants eres h =
    let p = and-true (leb variables (special_count edition + user_names))
    (leb constants constant_count && leb eres ere_count) h in
    let q = and-true (leb constants constant_count) (leb eres ere_count) p.1 in (
      leb-true variables (special_count edition + user_names) p.0,
      leb-true constants constant_count q.0,
      leb-true eres ere_count q.1,
    )

module _ (edition variables : ℕ) (s constants : List ℕ) (nc : ℕ) (eres : List ℕ) (ne : ℕ) (begin : List ℕ) (nb : ℕ)
    (main : List ℕ) (nm : ℕ) (end : List ℕ) (nd : ℕ) where
  -- sizes of an image, by what the code tests
  pub fits_by : special_count edition ≤ variables → nb ≤ length begin → nm ≤ length main → nd ≤ length end
      → fits (image_in edition (variables - special_count edition) s constants nc eres ne begin nb main nm end nd)
      ≡ (lengths_fit nb nm nd
      && (counts_fit edition variables nc ne
      && (sections_fit (instructions_of begin nb) (instructions_of main nm) (instructions_of end nd)
      && constants_fit s constants 0 nc)))
  unfolding image_in
  fits_by h hb hm hd =
      let users : special_count edition + (variables - special_count edition) ≡ variables = omega (arith, h) in
      fits-apart (image_in edition (variables - special_count edition) s constants nc eres ne begin nb main nm end nd)
      ∙ rw (
        users,
        instructions-count begin nb hb,
        instructions-count main nm hm,
        instructions-count end nd hd,
        entries-count s true constants 0 nc,
        length-map (entries_from s false eres 0 ne) text_of,
        entries-count s false eres 0 ne,
      ) refl
