-- The same without a computation: which fields a record has, one relation for each kind of separator. proofs/ shows
-- that the fields of Field.antt are these, and that no others are.
use Rattle.std.specs.Prelude.{◌≡◌, Bool, true, false, List, [], ◌∷◌, ◌++◌, ℕ, suc, ◌+◌, ◌-◌, ◌≤◌, length, drop}
use Rattle.lists.specs.Elements.{All}
use Rattle.buffer.specs.Parts.{part}
use Rattle.ere_meaning.specs.Tree.{Class, accepts, Ere}
use Rattle.ere_meaning.specs.Meaning.{found, nowhere, BestFrom}
use Rattle.splitting.specs.Field.{Span, span, is_in}

-- The bytes are no b; or some that are no b, one b, and bytes that have these fields too.
pub data ByteSplit (b : ℕ) : List ℕ → List (List ℕ) → Type 0 where
  last : {f : List ℕ} → All (is_in false (b ∷ [])) f → ByteSplit b f (f ∷ [])
  more : {f t : List ℕ} {fs : List (List ℕ)} → All (is_in false (b ∷ [])) f → ByteSplit b t fs
      → ByteSplit b (f ++ (b ∷ t)) (f ∷ fs)

-- how often b is in the bytes
pub data Occurs (b : ℕ) : ℕ → List ℕ → Type 0 where
  never : {t : List ℕ} → All (is_in false (b ∷ [])) t → Occurs b 0 t
  once_more : {n : ℕ} {f t : List ℕ} → All (is_in false (b ∷ [])) f → Occurs b n t → Occurs b (suc n) (f ++ (b ∷ t))

-- bytes after a field: none, or a blank first
pub data Behind (set : List ℕ) : List ℕ → Type 0 where
  at-end : Behind set []
  apart : {b : ℕ} {t : List ℕ} → is_in true set b ≡ true → Behind set (b ∷ t)

-- The bytes are blanks; or blanks, a field of at least one byte and no blank, and, after it, bytes that have these
-- fields too.
pub data BlankSplit (set : List ℕ) : List ℕ → List (List ℕ) → Type 0 where
  blanks : {l : List ℕ} → All (is_in true set) l → BlankSplit set l []
  word : {l t : List ℕ} {b : ℕ} {f : List ℕ} {fs : List (List ℕ)} → All (is_in true set) l → All (is_in false set) (b ∷ f)
      → Behind set t → BlankSplit set t fs → BlankSplit set (l ++ ((b ∷ f) ++ t)) ((b ∷ f) ∷ fs)

-- From a place on: no nonempty span is left and the rest is the last field; or the leftmost of the nonempty spans from
-- there on, the longest at its start, ends a field, and the others are those from its end on. `BestFrom` says that with
-- `Spans`.
pub data EreSplit (e : Ere Class) (text : List ℕ) : ℕ → List Span → Type 0 where
  last : {at : ℕ} → at ≤ length text → BestFrom accepts text e at 1 nowhere
      → EreSplit e text at (span at (length text - at) ∷ [])
  more : {at s n : ℕ} {fs : List Span} → BestFrom accepts text e at 1 (found s n) → EreSplit e text (s + n) fs
      → EreSplit e text at (span at (s - at) ∷ fs)

-- The fields, with what is before, between and after them, from a place on, put together.
abbrev pub pieces : List ℕ → ℕ → List Span → List ℕ
pieces text at [] = drop at text
pieces text at (f ∷ fs) = part at (f.start - at) text
    ++ (part f.start f.size text ++ pieces text (f.start + f.size) fs)

-- in order, none over another, from the place `at` on and up to `end`
abbrev pub Ordered : ℕ → ℕ → List Span → Type 0
Ordered end at [] = at ≤ end
Ordered end at (f ∷ fs) = (at ≤ f.start) × (Ordered end (f.start + f.size) fs)
