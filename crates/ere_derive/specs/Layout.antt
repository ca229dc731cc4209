-- Internal: cited by private contracts only. The words of rows and pairs.
use Rattle.std.specs.Prelude.{◌≡◌, List, ◌⊎◌, ℕ, ◌+◌, ◌*◌, ◌%◌, ◌≤◌, ◌<◌, length, get_or, Option, IfSome}
use Rattle.ere_table.specs.Table.{row}
use Rattle.ere_automaton.specs.Layout.{rows_at}
use Rattle.ere_classes.specs.Frames.{Frame}
use Rattle.ere_derive.specs.declared.rows.Begun.{Begun}
use Rattle.ere_sets.specs.Modes.{first_by, later_by, last_by}
use Rattle.ere_sets.specs.Growth.{Fair, Grows, Has, Leads}

-- the words at p are the row of the set s
pub record RowAt (mode : ℕ) (t bytes : List ℕ) (k : ℕ) (a : List ℕ) (n stride : ℕ) (s d : List ℕ) (p : ℕ) : Type 0 where
  pub leads : (c : ℕ) → c < k → Leads mode t a n stride s (get_or bytes c 0) (get_or d (p + c) 0)
  -- the accept bits
  pub marks : get_or d (p + k) 0 ≡ get_or s 2 0 % 4

-- what a function that may enter sets has done to sets and words: there are so many sets then, if there is room
pub record PutEntry (mode : ℕ) (t a : List ℕ) (n most stride : ℕ) (s : List ℕ) (b p : ℕ) (d : List ℕ) (r : Option ℕ)
    (a' d' : List ℕ) : Type 0 where
  pub size : length a' ≡ length a
  pub frame : Frame p (p + 1) d d'
  pub has : IfSome r (λ m. (m ≤ most) × Grows a n a' m × Leads mode t a' m stride s b (get_or d' p 0))

pub record PutRow (mode : ℕ) (t bytes : List ℕ) (k : ℕ) (a : List ℕ) (n most stride : ℕ) (s : List ℕ)
    (p : ℕ) (d : List ℕ) (r : Option ℕ) (a' d' : List ℕ) : Type 0 where
  pub size : length a' ≡ length a
  pub frame : Frame p (p + (k + 1)) d d'
  pub has : IfSome r (λ m. (m ≤ most) × Grows a n a' m × RowAt mode t bytes k a' m stride s d' p)

-- the rows of the first m of n sets
abbrev pub Rows : ℕ → List ℕ → List ℕ → ℕ → List ℕ → ℕ → ℕ → List ℕ → ℕ → Type 0
Rows mode t bytes k a n stride d m = (i : ℕ) → i < m → RowAt mode t bytes k a n stride (row a i) d (rows_at + stride * i)

pub record PutRows (mode : ℕ) (t bytes : List ℕ) (k : ℕ) (a : List ℕ) (n most stride : ℕ) (d : List ℕ)
    (r : Option ℕ) (a' d' : List ℕ) : Type 0 where
  pub frame : Frame rows_at (length d) d d'
  pub size : length a' ≡ length a
  pub has : IfSome r (λ m. (m ≤ most) × Grows a n a' m × Rows mode t bytes k a' m stride d' m)

-- two pieces of k words that share none
abbrev pub Apart : ℕ → ℕ → ℕ → ℕ → Type 0
Apart p k low high = (p + k ≤ low) ⊎ (high ≤ p)

-- q is the row of one of n states
pub record RowOf (n stride q : ℕ) : Type 0 where
  pub number : ℕ
  pub low : number < n
  pub is : q ≡ rows_at + stride * number

-- the words of a row lead to rows of n states
abbrev pub Closed : ℕ → ℕ → ℕ → List ℕ → ℕ → Type 0
Closed k n stride d p = (c : ℕ) → c < k → RowOf n stride (get_or d (p + c) 0)

-- the words at p as pairs of a row: each is the word of the row where its first class leads
abbrev pub Paired : ℕ → List ℕ → List ℕ → ℕ → ℕ → Type 0
Paired k d d' p m = (c e : ℕ) → c < m → e < k → get_or d' (p + (k + 1 + (c * k + e))) 0 ≡ get_or d (get_or d (p + c) 0 + e) 0

-- the pairs of the first m of n rows were stored
pub record PutPairs (k n stride m : ℕ) (d d' : List ℕ) : Type 0 where
  pub size : length d' ≡ length d
  pub below : (i : ℕ) → i < rows_at → get_or d' i 0 ≡ get_or d i 0
  pub kept : (i c : ℕ) → i < n → c < k + 1 → get_or d' (rows_at + stride * i + c) 0 ≡ get_or d (rows_at + stride * i + c) 0
  pub paired : (i : ℕ) → i < m → Paired k d d' (rows_at + stride * i) k

-- the sets that an automaton begins with
pub record Beginning (mode : ℕ) (t a' : List ℕ) (most count accepted later first : ℕ) : Type 0 where
  pub few : count ≤ most
  pub fair : (j : ℕ) → j < count → Fair (row a' j)
  pub is_accepted : Has a' count accepted (last_by mode)
  pub is_later : Has a' count later (later_by mode t)
  pub is-first : Has a' count first (first_by mode t)

pub record Begins (mode : ℕ) (t a : List ℕ) (most : ℕ) (r : Option Begun) (a' : List ℕ) : Type 0 where
  pub size : length a' ≡ length a
  pub begun : IfSome r (λ b. Beginning mode t a' most b.count b.accepted b.later b.first)

-- the first five words of an automaton
pub record Headed (d : List ℕ) (k first later accepted pairs : ℕ) (d' : List ℕ) : Type 0 where
  pub frame : Frame 0 5 d d'
  pub classes : get_or d' 0 0 ≡ k
  pub is-first : get_or d' 1 0 ≡ first
  pub is_later : get_or d' 2 0 ≡ later
  pub is_accepted : get_or d' 3 0 ≡ accepted
  pub is_paired : get_or d' 4 0 ≡ pairs
