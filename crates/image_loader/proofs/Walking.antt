-- The lists of an image that passes the check, one after the other: each is there, and the next starts where it ends.
use mathlib.Core.Path.{◌≡◌, subst}
use mathlib.Core.Bool.{true}
use mathlib.Core.List.{List}
use mathlib.Core.Option.{some}
use Prim.Native.Nat.{ℕ}
use lib.ListN.{length, drop}
use Rattle.image_items.specs.Header.{Follows, SectionsIn, IsHeader}
use Rattle.image_format.specs.Image.{Image}
use Rattle.image_format.specs.Reading.{from_bytes, read_image}
use Rattle.semantics.specs.Moves.{Section, begin, main, end, section_of}
use Rattle.semantics.specs.Check.{check}
use Rattle.semantics.specs.Checked.{Checked}
use Rattle.image_index.specs.Lists.{ItemOf, taker_of, Fits, ListAt}
use Rattle.image_index.specs.declared.indexes.Kind.{Kind}
use Rattle.image_index.specs.declared.indexes.Kind.TheVariants.{Constants, Eres, Instructions}
use Rattle.image_index.specs.declared.indexes.Listed.{Listed}
use Rattle.image_items.proofs.Standing.{never}
use Rattle.image_items.specs.declared.header.Header.{Header}
use Rattle.image_check.proofs.Fitting.{constants-fit, eres-fit, section-fits, list-refused, list-found}
use Rattle.image_loader.specs.Loads.{Rooms, rooms, LoadsList, SectionsLoaded, LoadsAccepted}
use Rattle.image_loader.specs.declared.loading.Loaded.{Loaded}
use Rattle.std.specs.Prelude.{Option as Answer, Some, None}
use Rattle.image_loader.specs.declared.loading.Counts.{Counts}

-- ---- one list

-- by what the code found: the list, and K of what it leaves
pub record Walked (i : Image) (l : List ℕ) (k : Kind) (xs : List (ItemOf k)) (K : List ℕ → Type 0) (r : Listed) (index : List ℕ) : Type 0 where
  pub loaded : LoadsList i l k xs r.count index
  pub rest : K (drop r.end l)

module _ (i : Image) (passes : check i ≡ true) (l : List ℕ) (edition : ℕ) (e : edition ≡ i.edition) where
  module _ (k : Kind) (xs : List (ItemOf k)) (fit : Checked i → Fits i.edition k l xs) (K : List ℕ → Type 0) (at : ℕ)
      (f : Follows (taker_of i.edition k) xs K (drop at l)) (index : List ℕ) where
    listed : (r : Answer Listed) → ListAt edition k l at r index → ListAt i.edition k l at r index
    listed r = subst (λ (n : ℕ). ListAt n k l at r index) e

    -- it can't be missing
    missed : ListAt edition k l at None index → ⊥
    missed x = never (list-refused i k xs l at index f.0 f.1 (listed None x) fit) passes

    walked : (r : Listed) → ListAt edition k l at (Some r) index → Walked i l k xs K r index
    walked r x =
        let g = list-found i k xs l at index f.0 f.1 r (listed (Some r) x) in
        record { loaded = record { count = g.1; indexed = g.3 }; rest = subst K g.0 f.2 }

  module _ (s : Section) (K : List ℕ → Type 0) (at : ℕ)
      (f : Follows (taker_of i.edition Instructions) (section_of i s) K (drop at l)) (index : List ℕ) where
    section-missed : ListAt edition Instructions l at None index → ⊥
    section-missed = missed Instructions (section_of i s) (λ c. section-fits i c l s) K at f index

    section-walked : (r : Listed) → ListAt edition Instructions l at (Some r) index → Walked i l Instructions (section_of i s) K r index
    section-walked = walked Instructions (section_of i s) (λ c. section-fits i c l s) K at f index

-- ---- the three sections

abbrev Ends : Image → List ℕ → Type 0
Ends i = Follows (taker_of i.edition Instructions) i.end (λ t. length t ≡ 0)

module _ (edition : ℕ) (l : List ℕ) (at : ℕ) (bs : List ℕ) where
  pub no-begin : ListAt edition Instructions l at None bs → (r : Counts) (b m f : List ℕ) → SectionsLoaded edition l at r b m f
  no-begin x r b m f i e h p = absurd (section-missed i h l edition e begin _ at p bs x)

  module _ (b : Listed) (x : ListAt edition Instructions l at (Some b) bs) (rs : List ℕ) where
    begins-walked : (i : Image) → edition ≡ i.edition → check i ≡ true → SectionsIn i (drop at l)
        → Walked i l Instructions i.begin (Follows (taker_of i.edition Instructions) i.main (Ends i)) b bs
    begins-walked i e h p = section-walked i h l edition e begin _ at p bs b x

    pub no-main : ListAt edition Instructions l b.end None rs → (r : Counts) (c m f : List ℕ) → SectionsLoaded edition l at r c m f
    no-main y r c m f i e h p =
        absurd (section-missed i h l edition e main _ b.end (begins-walked i e h p).rest rs y)

    module _ (r : Listed) (y : ListAt edition Instructions l b.end (Some r) rs) (fs : List ℕ) where
      records-walked : (i : Image) → edition ≡ i.edition → check i ≡ true → SectionsIn i (drop at l)
          → Walked i l Instructions i.main (Ends i) r rs
      records-walked i e h p = section-walked i h l edition e main _ b.end (begins-walked i e h p).rest rs r y

      pub no-end : ListAt edition Instructions l r.end None fs → (n : Counts) (c m f : List ℕ) → SectionsLoaded edition l at n c m f
      no-end z n c m f i e h p =
          absurd (section-missed i h l edition e end _ r.end (records-walked i e h p).rest fs z)

      pub sections-loaded : (f : Listed) → ListAt edition Instructions l r.end (Some f) fs
          → SectionsLoaded edition l at (record { begin = b.count; main = r.count; end = f.count }) bs rs fs
      sections-loaded f z i e h p =
          let one = begins-walked i e h p in
          let two = records-walked i e h p in
          (one.loaded, two.loaded, (section-walked i h l edition e end _ r.end two.rest fs f z).loaded)

-- ---- the whole

module _ (l : List ℕ) (h : Header) (x : IsHeader l h) (cs : List ℕ) where
  pub no-constants : ListAt h.edition Constants l h.at None cs → (r : Loaded) (y : Rooms) → LoadsAccepted l r y
  no-constants n r y i p k =
      let f = x.found i p in
      absurd (missed i k l h.edition f.0 Constants i.constants (λ d. constants-fit i d l) _ h.at f.2 cs n)

  module _ (c : Listed) (y : ListAt h.edition Constants l h.at (Some c) cs) (es : List ℕ) where
    constants-walked : (i : Image) → read_image from_bytes l ≡ some i → check i ≡ true
        → Walked i l Constants i.constants (Follows (taker_of i.edition Eres) i.eres (SectionsIn i)) c cs
    constants-walked i r k =
        let f = x.found i r in
        walked i k l h.edition f.0 Constants i.constants (λ d. constants-fit i d l) _ h.at f.2 cs c y

    pub no-eres : ListAt h.edition Eres l c.end None es → (r : Loaded) (z : Rooms) → LoadsAccepted l r z
    no-eres n r z i p k =
        let f = x.found i p in
        absurd (missed i k l h.edition f.0 Eres i.eres (λ d. eres-fit i d l) _ c.end (constants-walked i p k).rest es n)

    module _ (e : Listed) (z : ListAt h.edition Eres l c.end (Some e) es) where
      eres-walked : (i : Image) → read_image from_bytes l ≡ some i → check i ≡ true → Walked i l Eres i.eres (SectionsIn i) e es
      eres-walked i r k =
          let f = x.found i r in
          walked i k l h.edition f.0 Eres i.eres (λ d. eres-fit i d l) _ c.end (constants-walked i r k).rest es e z

      pub image-loaded : (s : Counts) (bs rs fs : List ℕ) → SectionsLoaded h.edition l e.end s bs rs fs
          → LoadsAccepted l
          (record { edition = h.edition; users = h.users; constants = c.count; eres = e.count; begin = s.begin; main = s.main; end = s.end })
          (rooms cs es bs rs fs)
      image-loaded s bs rs fs w i r k =
          let f = x.found i r in
          let one = (constants-walked i r k).loaded in
          let two = eres-walked i r k in
          let three = w i f.0 k two.rest in
          record {
            edition = f.0;
            users = f.1;
            constant-count = one.count;
            ere-count = two.loaded.count;
            begin_count = three.0.count;
            main_count = three.1.count;
            end_count = three.2.count;
            constants = one.indexed;
            eres = two.loaded.indexed;
            begin = three.0.indexed;
            main = three.1.indexed;
            end = three.2.indexed;
          }
