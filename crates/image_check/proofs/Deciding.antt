-- The sections of an image, and the whole, by what the code found from place to place.
use mathlib.Core.Path.{◌≡◌, refl, sym, ap, subst, ◌∙◌}
use mathlib.Core.Bool.{Bool, true, false, cond}
use mathlib.Core.List.{List}
use mathlib.Core.Option.{Option, some, none}
use Prim.Native.Nat.{ℕ, ◌≤◌, ◌<◌}
use native.Mathlib.Omega.{arith}
use lib.Dec.{eqb}
use lib.ListN.{length, drop, length-drop}
use borrow.Author.Tests.{le-leb, eq-eqb, eqb-true}
use Rattle.image_items.proofs.Following.{read_made}
use Rattle.image_items.specs.Header.{SectionsIn, Follows, IsHeader, HeaderAt}
use Rattle.std.specs.Prelude.{Option as Answer, Some, None}
use Rattle.lists.specs.Elements.{all_from}
use Rattle.lists.specs.Parsing.{parsed}
use Rattle.edition.specs.Limits.{user_names}
use Rattle.edition.specs.Outcomes.{done, image_malformed, image_fails_check}
use Rattle.image_format.specs.Image.{Image, image_bound}
use Rattle.image_format.specs.Reading.{from_bytes, word_up_to, counted, instruction, read_image}
use Rattle.image_format.proofs.Consequences.{reading-back}
use Rattle.semantics.specs.Moves.{Section, begin, main, end, section_of, in_main}
use Rattle.semantics.specs.Check.{instruction_checks, section_checks, check}
use Rattle.semantics.proofs.ImageSizes.{image-bytes}
use Rattle.image.specs.Copy.{is_image}
use Rattle.image_index.specs.Lists.{Fits, ListAt}
use Rattle.image_index.specs.declared.indexes.Kind.TheVariants.{Constants, Eres, Instructions}
use Rattle.image_index.specs.declared.indexes.Listed.{Listed}
use Rattle.image_items.proofs.Standing.{never}
use Rattle.image_instructions.specs.Judge.{ContextOf, Judges}
use Rattle.image_check.specs.Sections.{Decides, SectionPasses, SectionJudged, ImageJudged, SectionsJudged}
use Rattle.image_check.specs.Verdict.{judged, check_of}
use Rattle.image_instructions.specs.declared.context.Context.{Context}
use Rattle.image_items.specs.declared.header.Header.{Header}
use Rattle.image_check.proofs.Fitting.{and_both, unchecked, section-refuses, constants-fit, eres-fit, section-fits, check-all, list-refused, list-found}

-- ---- one section

module _ (context : Context) (l : List ℕ) (at : ℕ) (index : List ℕ) where
  -- the list, in the image's edition
  listed : (r : Answer Listed) → ListAt context.edition Instructions l at r index → (i : Image) (s : Section) → ContextOf context i s
      → ListAt i.edition Instructions l at r index
  listed r x i s q = subst (λ (e : ℕ). ListAt e Instructions l at r index) q.edition x

  pub section-unfit : ListAt context.edition Instructions l at None index → SectionJudged context l at None
  section-unfit x i s t q e =
      list-refused i Instructions (section_of i s) l at index t e (listed None x i s q) (λ c. section-fits i c l s)

  module _ (r : Listed) (x : ListAt context.edition Instructions l at (Some r) index) (ok : Bool) (j : Judges context index r.count ok) where
    -- the section, if it is an image's, and what it leaves
    found : (i : Image) (s : Section) (t : List ℕ) → ContextOf context i s
        → counted from_bytes (instruction from_bytes i.edition) (drop at l) ≡ parsed (section_of i s) t
        → (ok ≡ section_checks i s) × (t ≡ drop r.end l)
    found i s t q e =
        let f = list-found i Instructions (section_of i s) l at index t e r (listed (Some r) x i s q) in
        let same : ok ≡ all_from (instruction_checks i s) 0 (section_of i s) = j i s l q f.3 f.1 in
        (same ∙ rw (le-leb 1 (length (section_of i s)) f.2.some_items, le-leb _ _ f.2.few), f.0)

    pub section-failed : ok ≡ false → SectionJudged context l at None
    section-failed h i s t q e = section-refuses i s (sym (found i s t q e).0 ∙ h)

    pub section-passed : ok ≡ true → SectionPasses context l at r.end
    section-passed h =
        record {
          inside = x.1.inside;
          there = (x.0, x.1.taken);
          judged = λ i s t q e. let f = found i s t q e in (sym f.0 ∙ h, f.1);
        }

-- ---- the three sections

-- a section in front of what follows it
section-first : (context : Context) (l : List ℕ) (at b : ℕ) → SectionPasses context l at b → (i : Image) (s : Section) → ContextOf context i s
    → (K : List ℕ → Type 0) → Follows (instruction from_bytes i.edition) (section_of i s) K (drop at l)
    → (section_checks i s ≡ true) × (K (drop b l))
section-first context l at b x i s q K p =
    let f = x.judged i s p.0 q p.1 in
    (f.0, subst K f.1 p.2)

-- one part that refuses, and parts that pass
decides-no : {i : Image} (whole : Bool) → check i ≡ false → Decides i false whole
decides-no whole h = record { refused = λ _. h; passed = λ g. never refl g }

decides-all : {i : Image} (b : Bool) {p : Bool} → Decides i b p → (p ≡ true → check i ≡ true) → b ≡ check i
decides-all true d k = sym (k (d.passed refl))
decides-all false d k = sym (d.refused refl)

-- the bytes end where nothing is left
none_left : (l : List ℕ) (e : ℕ) → e ≡ length l → length (drop e l) ≡ 0
none_left l e h = omega (arith, length-drop e l)

all_taken : (l : List ℕ) (e : ℕ) → e ≤ length l → length (drop e l) ≡ 0 → e ≡ length l
all_taken l e k h = omega (arith, length-drop e l, h, k)

module _ (edition users constants eres : ℕ) where
  abbrev context_by : Bool → Context
  context_by records = record { edition = edition; users = users; constants = constants; eres = eres; main = records }

  context-of : (i : Image) (s : Section) → edition ≡ i.edition → users ≡ i.users → constants ≡ length i.constants → eres ≡ length i.eres
      → ContextOf (context_by (in_main s)) i s
  context-of i s e u c r = record { edition = e; users = u; constants = c; eres = r; nexts = refl }

  module _ (l : List ℕ) (at : ℕ) where
    pub first-refused : SectionJudged (context_by false) l at None → SectionsJudged edition users constants eres l at false
    first-refused x =
        record {
          judged = λ i e u c r p. decides-no _ (x i begin p.0 (context-of i begin e u c r) p.1);
          there = λ g. never refl g;
        }

    module _ (b : ℕ) (x : SectionPasses (context_by false) l at b) where
      -- the record section, after the first
      second : (i : Image) → edition ≡ i.edition → users ≡ i.users → constants ≡ length i.constants → eres ≡ length i.eres → SectionsIn i (drop at l)
          → (section_checks i begin ≡ true)
          × (Follows (instruction from_bytes i.edition) i.main (Follows (instruction from_bytes i.edition) i.end (λ t. length t ≡ 0)) (drop b l))
      second i e u c r p = section-first (context_by false) l at b x i begin (context-of i begin e u c r) _ p

      pub second-refused : SectionJudged (context_by true) l b None → SectionsJudged edition users constants eres l at false
      second-refused y =
          record {
            judged = λ i e u c r p.
                let q = (second i e u c r p).1 in
                decides-no _ (y i main q.0 (context-of i main e u c r) q.1);
            there = λ g. never refl g;
          }

      module _ (d : ℕ) (y : SectionPasses (context_by true) l b d) where
        -- the last one, after that
        third : (i : Image) → edition ≡ i.edition → users ≡ i.users → constants ≡ length i.constants → eres ≡ length i.eres → SectionsIn i (drop at l)
            → (section_checks i main ≡ true) × (Follows (instruction from_bytes i.edition) i.end (λ t. length t ≡ 0) (drop d l))
        third i e u c r p =
            section-first (context_by true) l b d y i main (context-of i main e u c r) _ (second i e u c r p).1

        pub third-refused : SectionJudged (context_by false) l d None → SectionsJudged edition users constants eres l at false
        third-refused z =
            record {
              judged = λ i e u c r p.
                  let q = (third i e u c r p).1 in
                  decides-no _ (z i end q.0 (context-of i end e u c r) q.1);
              there = λ g. never refl g;
            }

        pub third-judged : (f : ℕ) → SectionPasses (context_by false) l d f → (ok : Bool) → ok ≡ eqb f (length l)
            → SectionsJudged edition users constants eres l at ok
        third-judged f z ok o =
            record {
              judged = λ i e u c r p.
                  let one = (second i e u c r p).0 in
                  let two = third i e u c r p in
                  let three = section-first (context_by false) l d f z i end (context-of i end e u c r) _ two.1 in
                  let whole : ok ≡ true = o ∙ eq-eqb f (length l) (all_taken l f z.inside three.1) in
                  record {
                    refused = λ g. never g whole;
                    passed = λ g. and_both _ _ one (and_both _ _ two.0 three.0);
                  };
              there = λ g.
                  let none = none_left l f (eqb-true _ _ (sym o ∙ g)) in (
                    x.there.0,
                    y.there.0,
                    z.there.0,
                    (drop b l, x.there.1, (drop d l, y.there.1, (drop f l, z.there.1, none))),
                  );
            }

-- ---- the whole

-- an image that is read is refused
refuses : (l : List ℕ) → ((i : Image) → read_image from_bytes l ≡ some i → check i ≡ false) → ImageJudged l false
refuses l n = record { judged = λ i r. sym (n i r); there = λ g. never refl g }

pub header_refused : (l : List ℕ) → HeaderAt l None → ImageJudged l false
header_refused l x = refuses l (λ i r. absurd (x i r))

module _ (l : List ℕ) (h : Header) (x : IsHeader l h) where
  pub users-refused : user_names < h.users → ImageJudged l false
  users-refused g =
      refuses l (λ i r.
      let f = x.found i r in
      unchecked i (λ c. omega (arith, f.1, c.users, g)))

  module _ (index : List ℕ) where
    -- the constants, in the image's edition
    constants-listed : (c : Answer Listed) → ListAt h.edition Constants l h.at c index
        → (i : Image) → read_image from_bytes l ≡ some i → ListAt i.edition Constants l h.at c index
    constants-listed c y i r = subst (λ (e : ℕ). ListAt e Constants l h.at c index) (x.found i r).0 y

    pub constants-refused : ListAt h.edition Constants l h.at None index → ImageJudged l false
    constants-refused y =
        refuses l (λ i r.
        let f = x.found i r in
        list-refused i Constants i.constants l h.at index f.2.0 f.2.1 (constants-listed None y i r) (λ k. constants-fit i k l))

    module _ (c : Listed) (y : ListAt h.edition Constants l h.at (Some c) index) (places : List ℕ) where
      eres-listed : (e : Answer Listed) → ListAt h.edition Eres l c.end e places
          → (i : Image) → read_image from_bytes l ≡ some i → ListAt i.edition Eres l c.end e places
      eres-listed e z i r = subst (λ (n : ℕ). ListAt n Eres l c.end e places) (x.found i r).0 z

      -- the constants, and the EREs and sections after them
      behind : (i : Image) (r : read_image from_bytes l ≡ some i)
          → (c.count ≡ length i.constants) × (Fits i.edition Constants l i.constants)
          × (Follows (counted from_bytes (word_up_to 255)) i.eres (SectionsIn i) (drop c.end l))
      behind i r =
          let f = x.found i r in
          let k = list-found i Constants i.constants l h.at index f.2.0 f.2.1 c (constants-listed (Some c) y i r) in
          (k.1, k.2, subst (Follows (counted from_bytes (word_up_to 255)) i.eres (SectionsIn i)) k.0 f.2.2)

      pub eres-refused : ListAt h.edition Eres l c.end None places → ImageJudged l false
      eres-refused z =
          refuses l (λ i r.
          let b = (behind i r).2 in
          list-refused i Eres i.eres l c.end places b.0 b.1 (eres-listed None z i r) (λ k. eres-fit i k l))

      module _ (e : Listed) (z : ListAt h.edition Eres l c.end (Some e) places)
          (ok : Bool) (j : SectionsJudged h.edition h.users c.count e.count l e.end ok) where
        -- the image that the lists found are
        image-there : ok ≡ true → (i : Image) × (read_image from_bytes l ≡ some i)
        image-there g =
            let n = x.there in
            let s = j.there g in
            let i : Image = record {
              edition = h.edition;
              users = h.users;
              constants = y.0;
              eres = z.0;
              begin = s.0;
              main = s.1;
              end = s.2;
            } in
            (i, read_made l i (n.0, n.1, n.2, (drop h.at l, n.3, (drop c.end l, y.1.taken, (drop e.end l, z.1.taken, s.3)))))

        pub image-judged : h.users ≤ user_names → ImageJudged l ok
        image-judged u =
            record {
              judged = λ i r.
                  let f = x.found i r in
                  let b = behind i r in
                  let k = list-found i Eres i.eres l c.end places b.2.0 b.2.1 e (eres-listed (Some e) z i r) in
                  let d = j.judged i f.0 f.1 b.0 k.1 (subst (SectionsIn i) k.0 b.2.2) in
                  decides-all ok d (λ a. check-all i l (omega (arith, f.1, u)) b.1 k.2 a);
              there = image-there;
            }

-- ---- the outcome

module _ (l : List ℕ) where
  -- an accepted image is small
  pub long-refused : image_bound ≤ length l → ImageJudged l false
  long-refused h = refuses l (λ i r. unchecked i (λ c. omega (arith, image-bytes i c, ap length (reading-back l i r).1)))

  pub outcome-malformed : false ≡ is_image (read_image from_bytes l) → image_malformed ≡ check_of l
  unfolding check_of
  outcome-malformed e = by (read_image from_bytes l) e
    where
      by : (o : Option Image) → false ≡ is_image o → image_malformed ≡ judged o
      by none e = refl
      by (some i) e = never refl e

  pub outcome-accepted : ImageJudged l true → done ≡ check_of l
  unfolding check_of
  outcome-accepted j =
      let i = j.there refl in
      rw i.1 (rw (← (j.judged i.0 i.1)))

  pub outcome-rejected : true ≡ is_image (read_image from_bytes l) → ImageJudged l false → image_fails_check ≡ check_of l
  unfolding check_of
  outcome-rejected e j = by (read_image from_bytes l) refl e
    where
      by : (o : Option Image) → read_image from_bytes l ≡ o → true ≡ is_image o → image_fails_check ≡ judged o
      by none q e = never e refl
      by (some i) q e = ap (λ (b : Bool). cond b done image_fails_check) (j.judged i q)
