-- The parts of an ERE, as rows of the table.
use mathlib.Core.Path.{◌≡◌, refl, sym, ap, subst, ◌∙◌}
use mathlib.Core.Bool.{Bool, true, false, true≢false, cond}
use mathlib.Core.Logic.{◌⊎◌, inl, inr, ⊎_elim, ⊎_map, ◌↔◌}
use mathlib.Core.List.{List}
use Prim.Native.Nat.{ℕ, zero, suc, ◌+◌, ◌-◌, ◌*◌, ◌/◌, ◌%◌, ◌≤◌, ◌<◌}
use native.Mathlib.Nat.{le_refl}
use native.Mathlib.Omega.{arith}
use lib.ListN.{length, get_or}
use lib.Dec.{eqb, ltb}
use borrow.Author.Tests.{ltb-true, ltb-false, lt-ltb, eq-eqb, ne_eqb, eqb-true, eqb-false}
use Rattle.lists.proofs.Tests.{and-true, and-of}
use Rattle.ere_meaning.specs.Tree.{Ere, place, bol, eol, cat, alt, star, plus, opt}
use Rattle.ere_table.specs.Nexts.{Next, stop, go, Nexts}
use Rattle.lists.specs.Digit.{bit}
use Rattle.ere_table.specs.Table.{mem, row, join, no_place}
use Rattle.ere_table.specs.Wiring.{next_in, after_place}
use Rattle.ere_table.specs.Build.{link, with_row, link_rows, or_stop, accept, accept_at_end, single}
use Rattle.ere_table.proofs.Sets.{mem-none}
use Rattle.lists.proofs.Digits.{bit-zero, bit-pow, word-pow}
use Rattle.ere_table.proofs.Rows.{link-next, join-next, row_same, row_other, linked-in, linked-out}
use Rattle.ere_table.proofs.Parts.{Part, Same, Then, Thens, OrStop, Linked, Kept, part_same, part-cat, part-star, part-plus, part-opt, part-alt, part-bol, part-eol}

-- what may come next before a part: first where the text starts, later elsewhere
abbrev pub Entry : List ℕ → List ℕ → Nexts
Entry first later s f r = next_in (cond s first later) f r ≡ true

abbrev pub RowPart : List ℕ → ℕ → ℕ → List ℕ → List ℕ → Ere ℕ → Type 0
RowPart t lo hi first later e = Part (after_place t) lo hi (Entry first later) e

entry-link : (f₁ l₁ f₂ l₂ : List ℕ) → Same (Thens (Entry f₁ l₁) (Entry f₂ l₂)) (Entry (link f₁ f₂) (link l₁ l₂))
entry-link f₁ l₁ f₂ l₂ true f r = ((link-next f₁ f₂ f r).1, (link-next f₁ f₂ f r).0)
entry-link f₁ l₁ f₂ l₂ false f r = ((link-next l₁ l₂ f r).1, (link-next l₁ l₂ f r).0)

entry-join : (f₁ l₁ f₂ l₂ : List ℕ) → Same (λ s f r. (Entry f₁ l₁ s f r) ⊎ (Entry f₂ l₂ s f r)) (Entry (join f₁ f₂) (join l₁ l₂))
entry-join f₁ l₁ f₂ l₂ true f r = ((join-next f₁ f₂ f r).1, (join-next f₁ f₂ f r).0)
entry-join f₁ l₁ f₂ l₂ false f r = ((join-next l₁ l₂ f r).1, (join-next l₁ l₂ f r).0)

stop-word : (x : List ℕ) (q : ℕ) → q < 128 → mem (or_stop x) q ≡ mem x q
stop-word x q h = go (q / 64) (omega arith)
  where
    go : (k : ℕ) → k < 2 → bit (get_or (or_stop x) k 0) (q % 64) ≡ bit (get_or x k 0) (q % 64)
    go zero l = refl
    go (suc zero) l = refl
    go (suc (suc k)) l = absurd (omega arith)

stop-next : (x : List ℕ) (f : Bool) (r : Next) → ((next_in x f r ≡ true) ⊎ (r ≡ stop)) ↔ (next_in (or_stop x) f r ≡ true)
stop-next x true stop = (λ h. refl, λ h. inr refl)
stop-next x false stop = (λ h. refl, λ h. inr refl)
stop-next x true (go q) = (⊎_elim (λ h. h) (λ e. let z : ◌≡◌ {A = ℕ} 0 1 = cc in absurd (omega arith)), inl)
stop-next x false (go q) = (
  ⊎_elim (λ h. let z = and-true (ltb q 128) _ h in and-of (ltb q 128) _ z.0 (stop-word x q (ltb-true q 128 z.0) ∙ z.1))
      (λ e. let z : ◌≡◌ {A = ℕ} 0 1 = cc in absurd (omega arith)),
  λ h. let z = and-true (ltb q 128) _ h in inl (and-of (ltb q 128) _ z.0 (sym (stop-word x q (ltb-true q 128 z.0)) ∙ z.1)),
)

entry-stop : (f₁ l₁ : List ℕ) → Same (OrStop (Entry f₁ l₁)) (Entry (or_stop f₁) (or_stop l₁))
entry-stop f₁ l₁ true f r = stop-next f₁ f r
entry-stop f₁ l₁ false f r = stop-next l₁ f r

-- ---- the table after linking

linked : (t : List ℕ) (lo n : ℕ) (y first : List ℕ) → 3 * (lo + 2 + n) ≤ length t → Linked (after_place t) (after_place (link_rows t (lo + 2) n y)) lo (lo + n) (Entry first y)
linked t lo n y first h p l g f r =
    rw (linked-in t (lo + 2) y n (p + 2) h (omega arith) (omega arith)) (link-next (row t (p + 2)) y f r)

pub kept : (t : List ℕ) (lo n : ℕ) (y : List ℕ) (lo' hi' : ℕ) → (hi' ≤ lo) ⊎ (lo + n ≤ lo') → Kept (after_place t) (after_place (link_rows t (lo + 2) n y)) lo' hi'
kept t lo n y lo' hi' h p l g f r =
    rw (linked-out t (lo + 2) y n (p + 2) (⊎_map (λ k. omega arith) (λ k. omega arith) h)) ((λ x. x), (λ x. x))

pub rows-cat : (t : List ℕ) (lo mid hi : ℕ) (f₁ l₁ f₂ l₂ : List ℕ) (a b : Ere ℕ) → lo ≤ mid → mid ≤ hi → 3 * (mid + 2) ≤ length t
    → RowPart t lo mid f₁ l₁ a → RowPart t mid hi f₂ l₂ b → RowPart (link_rows t (lo + 2) (mid - lo) l₂) lo hi (link f₁ f₂) (link l₁ l₂) (cat a b)
rows-cat t lo mid hi f₁ l₁ f₂ l₂ a b l h g p q =
    let m : lo + (mid - lo) ≡ mid = omega arith in
    part_same _ lo hi (Thens (Entry f₁ l₁) (Entry f₂ l₂)) (Entry (link f₁ f₂) (link l₁ l₂)) _ (entry-link f₁ l₁ f₂ l₂)
    (part-cat (after_place t) (after_place (link_rows t (lo + 2) (mid - lo) l₂)) lo mid hi (Entry f₁ l₁) (Entry f₂ l₂) a b l h
    (subst (λ (x : ℕ). Linked (after_place t) (after_place (link_rows t (lo + 2) (mid - lo) l₂)) lo x (Entry f₂ l₂)) m (linked t lo (mid - lo) l₂ f₂ (omega arith)))
    (kept t lo (mid - lo) l₂ mid hi (inr (omega arith))) p q)

then-right : (X : Next → Type 0) (Y Z : Next → Type 0) → ((r : Next) → Y r ↔ Z r) → (r : Next) → Then X Y r ↔ Then X Z r
then-right X Y Z h stop = (λ t. (t.0, (h stop).0 t.1), λ t. (t.0, (h stop).1 t.1))
then-right X Y Z h (go q) = (⊎_map (λ x. x) (λ t. (t.0, (h (go q)).0 t.1)), ⊎_map (λ x. x) (λ t. (t.0, (h (go q)).1 t.1)))

linked-stop : (t : List ℕ) (lo n : ℕ) (f₁ l₁ : List ℕ) → 3 * (lo + 2 + n) ≤ length t
    → Linked (after_place t) (after_place (link_rows t (lo + 2) n (or_stop l₁))) lo (lo + n) (OrStop (Entry f₁ l₁))
linked-stop t lo n f₁ l₁ h p l g f r =
    let a = linked t lo n (or_stop l₁) (or_stop f₁) h p l g f r in
    let b = then-right (after_place t p f) (λ q. next_in (or_stop l₁) f q ≡ true) (OrStop (Entry f₁ l₁) false f) (λ q. ((stop-next l₁ f q).1, (stop-next l₁ f q).0)) r in
    (λ x. b.0 (a.0 x), λ x. a.1 (b.1 x))

pub rows-star : (t : List ℕ) (lo hi : ℕ) (f₁ l₁ : List ℕ) (a : Ere ℕ) → lo ≤ hi → 3 * (hi + 2) ≤ length t
    → RowPart t lo hi f₁ l₁ a → RowPart (link_rows t (lo + 2) (hi - lo) (or_stop l₁)) lo hi (or_stop f₁) (or_stop l₁) (star a)
rows-star t lo hi f₁ l₁ a l g p =
    let m : lo + (hi - lo) ≡ hi = omega arith in
    part_same _ lo hi (OrStop (Entry f₁ l₁)) (Entry (or_stop f₁) (or_stop l₁)) _ (entry-stop f₁ l₁)
    (part-star (after_place t) (after_place (link_rows t (lo + 2) (hi - lo) (or_stop l₁))) lo hi (Entry f₁ l₁) a
    (subst (λ (x : ℕ). Linked (after_place t) (after_place (link_rows t (lo + 2) (hi - lo) (or_stop l₁))) lo x (OrStop (Entry f₁ l₁))) m (linked-stop t lo (hi - lo) f₁ l₁ (omega arith))) p)

pub rows-plus : (t : List ℕ) (lo hi : ℕ) (f₁ l₁ : List ℕ) (a : Ere ℕ) → lo ≤ hi → 3 * (hi + 2) ≤ length t
    → RowPart t lo hi f₁ l₁ a → RowPart (link_rows t (lo + 2) (hi - lo) (or_stop l₁)) lo hi f₁ l₁ (plus a)
rows-plus t lo hi f₁ l₁ a l g p =
    let m : lo + (hi - lo) ≡ hi = omega arith in
    part-plus (after_place t) (after_place (link_rows t (lo + 2) (hi - lo) (or_stop l₁))) lo hi (Entry f₁ l₁) a
    (subst (λ (x : ℕ). Linked (after_place t) (after_place (link_rows t (lo + 2) (hi - lo) (or_stop l₁))) lo x (OrStop (Entry f₁ l₁))) m (linked-stop t lo (hi - lo) f₁ l₁ (omega arith))) p

pub rows-opt : (t : List ℕ) (lo hi : ℕ) (f₁ l₁ : List ℕ) (a : Ere ℕ) → RowPart t lo hi f₁ l₁ a → RowPart t lo hi (or_stop f₁) (or_stop l₁) (opt a)
rows-opt t lo hi f₁ l₁ a p =
    part_same _ lo hi (OrStop (Entry f₁ l₁)) (Entry (or_stop f₁) (or_stop l₁)) _ (entry-stop f₁ l₁) (part-opt (after_place t) lo hi (Entry f₁ l₁) a p)

pub rows-alt : (t : List ℕ) (lo mid hi : ℕ) (f₁ l₁ f₂ l₂ : List ℕ) (a b : Ere ℕ) → lo ≤ mid → mid ≤ hi
    → RowPart t lo mid f₁ l₁ a → RowPart t mid hi f₂ l₂ b → RowPart t lo hi (join f₁ f₂) (join l₁ l₂) (alt a b)
rows-alt t lo mid hi f₁ l₁ f₂ l₂ a b l h p q =
    part_same _ lo hi (λ s f r. (Entry f₁ l₁ s f r) ⊎ (Entry f₂ l₂ s f r)) (Entry (join f₁ f₂) (join l₁ l₂)) _ (entry-join f₁ l₁ f₂ l₂) (part-alt (after_place t) lo mid hi (Entry f₁ l₁) (Entry f₂ l₂) a b l h p q)

shifted : (q p : ℕ) → 64 ≤ q → 64 ≤ p → eqb (q - 64) (p - 64) ≡ eqb q p
shifted q p hq hp = go (eqb q p) refl
  where
    go : (b : Bool) → eqb q p ≡ b → eqb (q - 64) (p - 64) ≡ eqb q p
    go true e = let z = eqb-true q p e in eq-eqb (q - 64) (p - 64) (omega arith) ∙ sym e
    go false e = ne_eqb (q - 64) (p - 64) (λ z. eqb-false q p e (omega arith)) ∙ sym e

single-go : (p q : ℕ) → p < 128 → q < 128 → mem (single p) q ≡ eqb q p
single-go p q hp hq = go (ltb p 64) refl (q / 64) refl
  where
    go : (b : Bool) → ltb p 64 ≡ b → (k : ℕ) → q / 64 ≡ k → mem (single p) q ≡ eqb q p
    go true e zero h =
        let l = ltb-true p 64 e in
        let m : q % 64 ≡ q = omega arith in
        rw (e, h, m, word-pow p l) (bit-pow p q)
    go true e (suc zero) h = let l = ltb-true p 64 e in rw (e, h) (bit-zero (q % 64) ∙ sym (ne_eqb q p (λ z. omega arith)))
    go true e (suc (suc k)) h = absurd (omega arith)
    go false e zero h = let l = ltb-false p 64 e in rw (e, h) (bit-zero (q % 64) ∙ sym (ne_eqb q p (λ z. omega arith)))
    go false e (suc zero) h =
        let l = ltb-false p 64 e in
        let m : q % 64 ≡ q - 64 = omega arith in
        rw (e, h, m, word-pow (p - 64) (omega arith)) (bit-pow (p - 64) (q - 64) ∙ shifted q p (omega arith) l)
    go false e (suc (suc k)) h = absurd (omega arith)

single-stop : (p : ℕ) (f : Bool) → next_in (single p) f stop ≡ false
single-stop p f = go (ltb p 64) refl f
  where
    go : (b : Bool) → ltb p 64 ≡ b → (f : Bool) → next_in (single p) f stop ≡ false
    go true e true = rw e
    go true e false = rw e
    go false e true = rw e
    go false e false = rw e

single-next : (p : ℕ) → p < 128 → (f : Bool) (r : Next) → (next_in (single p) f r ≡ true) ↔ (((f ≡ false) × (r ≡ go p)) ⊎ (⊥ × (r ≡ stop)))
single-next p h f stop =
    (λ x. absurd (true≢false (sym x ∙ single-stop p f)), ⊎_elim (λ t. let e = t.1 in let z : ◌≡◌ {A = ℕ} 0 1 = cc in absurd (omega arith)) (λ t. absurd t.0))
single-next p h true (go q) = (λ x. absurd (true≢false (sym x)), ⊎_elim (λ t. absurd (true≢false t.0)) (λ t. absurd t.0))
single-next p h false (go q) = (
  λ x. let z = and-true (ltb q 128) _ x in inl (refl, ap go (eqb-true q p (sym (single-go p q h (ltb-true q 128 z.0)) ∙ z.1))),
  ⊎_elim
      (λ t. let e = t.1 in let z : q ≡ p = cc in
      and-of (ltb q 128) _ (lt-ltb q 128 (omega arith)) (single-go p q h (omega arith) ∙ eq-eqb q p z))
      (λ t. absurd t.0),
)

accept-next : (f : Bool) (r : Next) → (next_in accept f r ≡ true) ↔ (r ≡ stop)
accept-next true stop = (λ x. refl, λ x. refl)
accept-next false stop = (λ x. refl, λ x. refl)
accept-next true (go q) = (λ x. absurd (true≢false (sym x)), λ e. let z : ◌≡◌ {A = ℕ} 0 1 = cc in absurd (omega arith))
accept-next false (go q) = (
  λ x. let z = and-true (ltb q 128) _ x in absurd (true≢false (sym z.1 ∙ stop-word no_place q (ltb-true q 128 z.0) ∙ mem-none q)),
  λ e. let z : ◌≡◌ {A = ℕ} 0 1 = cc in absurd (omega arith),
)

pub rows-place : (t : List ℕ) (p : ℕ) → p < 128 → 3 * (p + 3) ≤ length t → RowPart (with_row t (p + 2) accept) p (p + 1) (single p) (single p) (place p)
rows-place t p h g = record {
  wired = λ f r. rw (row_same t (p + 2) accept (omega arith)) (accept-next f r);
  within = (le_refl p, omega arith);
  starts = starts;
}
  where
    starts : (s f : Bool) (r : Next) → (next_in (cond s (single p) (single p)) f r ≡ true) ↔ (((f ≡ false) × (r ≡ go p)) ⊎ (⊥ × (r ≡ stop)))
    starts true f r = single-next p h f r
    starts false f r = single-next p h f r

pub kept-leaf : (t : List ℕ) (p lo hi : ℕ) → (hi ≤ p) ⊎ (p < lo) → Kept (after_place t) (after_place (with_row t (p + 2) accept)) lo hi
kept-leaf t p lo hi h q l g f r = rw (row_other t (p + 2) accept (q + 2) (λ e. ⊎_elim (λ k. omega arith) (λ k. omega arith) h)) ((λ x. x), (λ x. x))

none-next : (f : Bool) (r : Next) → next_in no_place f r ≡ true → ⊥
none-next true stop h = true≢false (sym h)
none-next false stop h = true≢false (sym h)
none-next true (go q) h = true≢false (sym h)
none-next false (go q) h = let z = and-true (ltb q 128) _ h in true≢false (sym z.1 ∙ mem-none q)

none-entry : (s f : Bool) (r : Next) → Entry no_place no_place s f r → ⊥
none-entry true f r h = none-next f r h
none-entry false f r h = none-next f r h

seq-next : (x : List ℕ) (f : Bool) (r : Next) → (next_in x f r ≡ true) ↔ (next_in (link accept x) f r ≡ true)
seq-next x true stop = (λ h. (link-next accept x true stop).1 (refl, h), λ h. ((link-next accept x true stop).0 h).1)
seq-next x false stop = (λ h. (link-next accept x false stop).1 (refl, h), λ h. ((link-next accept x false stop).0 h).1)
seq-next x true (go q) = ((λ h. h), (λ h. h))
seq-next x false (go q) = (
  (λ h. (link-next accept x false (go q)).1 (inr (refl, h))),
  (λ h. ⊎_elim (λ y. absurd (no_place_lem y)) (λ t. t.1) ((link-next accept x false (go q)).0 h)),
)
  where
    no_place_lem : next_in accept false (go q) ≡ true → ⊥
    no_place_lem y =
        let z = and-true (ltb q 128) _ y in
        true≢false (sym z.1 ∙ stop-word no_place q (ltb-true q 128 z.0) ∙ mem-none q)

-- no alternatives before
pub rows-alone : (t : List ℕ) (lo hi : ℕ) (f₁ l₁ : List ℕ) (e : Ere ℕ) → RowPart t lo hi f₁ l₁ e → RowPart t lo hi (join no_place f₁) (join no_place l₁) e
rows-alone t lo hi f₁ l₁ e p =
    part_same _ lo hi (Entry f₁ l₁) (Entry (join no_place f₁) (join no_place l₁)) e
    (λ s f r. (λ x. (entry-join no_place no_place f₁ l₁ s f r).0 (inr x), λ x. ⊎_elim (λ y. absurd (none-entry s f r y)) (λ y. y) ((entry-join no_place no_place f₁ l₁ s f r).1 x))) p

-- no items before
pub rows-seq : (t : List ℕ) (lo hi : ℕ) (f₁ l₁ : List ℕ) (e : Ere ℕ) → RowPart t lo hi f₁ l₁ e → RowPart t lo hi (link accept f₁) (link accept l₁) e
rows-seq t lo hi f₁ l₁ e p = part_same _ lo hi (Entry f₁ l₁) (Entry (link accept f₁) (link accept l₁)) e same p
  where
    same : Same (Entry f₁ l₁) (Entry (link accept f₁) (link accept l₁))
    same true f r = seq-next f₁ f r
    same false f r = seq-next l₁ f r

-- ---- anchors: only accept bits

end-next : (f : Bool) (r : Next) → ((f ≡ true) × (r ≡ stop)) ↔ (next_in accept_at_end f r ≡ true)
end-next true stop = (λ t. refl, λ h. (refl, refl))
end-next false stop = (λ t. absurd (true≢false (sym t.0)), λ h. absurd (true≢false (sym h)))
end-next true (go q) = (λ t. let e = t.1 in let z : ◌≡◌ {A = ℕ} 0 1 = cc in absurd (omega arith), λ h. absurd (true≢false (sym h)))
end-next false (go q) = (λ t. absurd (true≢false (sym t.0)), λ h. absurd (none_here h))
  where
    word : (k : ℕ) → k < 2 → get_or {A = ℕ} accept_at_end k 0 ≡ 0
    word zero l = refl
    word (suc zero) l = refl
    word (suc (suc k)) l = absurd (omega arith)

    none_here : next_in accept_at_end false (go q) ≡ true → ⊥
    none_here h =
        let z = and-true (ltb q 128) _ h in
        let l = ltb-true q 128 z.0 in
        true≢false (sym z.1 ∙ ap (λ (w : ℕ). bit w (q % 64)) (word (q / 64) (omega arith)) ∙ bit-zero (q % 64))

pub rows-eol : (t : List ℕ) (lo hi : ℕ) → RowPart t lo hi accept_at_end accept_at_end eol
rows-eol t lo hi = part_same _ lo hi (λ s f r. (f ≡ true) × (r ≡ stop)) (Entry accept_at_end accept_at_end) eol same (part-eol (after_place t) lo hi)
  where
    same : Same (λ s f r. (f ≡ true) × (r ≡ stop)) (Entry accept_at_end accept_at_end)
    same true f r = end-next f r
    same false f r = end-next f r

pub rows-bol : (t : List ℕ) (lo hi : ℕ) → RowPart t lo hi accept no_place bol
rows-bol t lo hi = part_same _ lo hi (λ s f r. (s ≡ true) × (r ≡ stop)) (Entry accept no_place) bol same (part-bol (after_place t) lo hi)
  where
    same : Same (λ s f r. (s ≡ true) × (r ≡ stop)) (Entry accept no_place)
    same true f r = (λ t. (accept-next f r).1 t.1, λ h. (refl, (accept-next f r).0 h))
    same false f r = (λ t. absurd (true≢false (sym t.0)), λ h. absurd (none-next f r h))
