-- The variables of a text are those of its tree's tables: the special ones, and then the users'.
use mathlib.Core.Path.{◌≡◌, refl, sym, ap, ◌∙◌}
use mathlib.Core.Bool.{Bool, true, false, cond, ◌||◌}
use mathlib.Core.List.{List, [], ◌∷◌, ◌++◌, map, append_assoc}
use Prim.Native.Nat.{ℕ, zero, suc, ◌+◌, ◌<◌}
use native.Mathlib.Omega.{arith}
use lib.ListN.{length, length-append, length-map}
use Rattle.lists.proofs.Tests.{clash, or-false}
use Rattle.image_format.specs.Image.{Constant, number, text}
use Rattle.program_tokens.specs.Words.{same_bytes}
use Rattle.program_tokens.specs.Tokens.{Token}
use Rattle.program_tree.specs.Tree.{Program}
use Rattle.program_reader.specs.Read.{ok}
use Rattle.program_reader.specs.Programs.{read_program}
use Rattle.program_numbering.specs.Names.{has, with_new, number_of, users_of}
use Rattle.program_numbering.specs.Numbering.{special_names, same_constant}
use Rattle.program_numbering.proofs.Numbers.{number-below}
use Rattle.program_names.specs.Walk.{NamesInOrder}
use Rattle.program_entries.specs.Named.{variable_of}
use Rattle.program_entries.specs.Variables.{special_count, specials, variables_of}

-- ---- users' names as entries mean them

-- the special variables, and then users' names
abbrev pub with_users : List (List ℕ) → List Constant
with_users l = specials ++ map text l

text-has : (l : List (List ℕ)) (v : List ℕ) → has same_constant (map text l) (text v) ≡ has same_bytes l v
unfolding has same_constant
text-has [] v = refl
text-has (w ∷ l) v = rw (text-has l v)

user-has : (l : List (List ℕ)) (v : List ℕ) → has same_constant (with_users l) (text v) ≡ has same_bytes l v
unfolding has same_constant
user-has l v = text-has l v

map_last : (l : List (List ℕ)) (v : List ℕ) → map text l ++ (text v ∷ []) ≡ map text (l ++ (v ∷ []))
map_last [] v = refl
map_last (w ∷ l) v = ap (λ (m : List Constant). text w ∷ m) (map_last l v)

-- one user's name more
abbrev added : List (List ℕ) → List ℕ → List (List ℕ)
added l v = cond (has same_bytes l v) l (l ++ (v ∷ []))

user-added : (l : List (List ℕ)) (v : List ℕ)
    → cond (has same_constant (with_users l) (text v)) (with_users l) (with_users l ++ (text v ∷ []))
    ≡ with_users (added l v)
user-added l v = rw (user-has l v) (go (has same_bytes l v))
  where
    go : (b : Bool) → cond b (with_users l) (with_users l ++ (text v ∷ [])) ≡ with_users (cond b l (l ++ (v ∷ [])))
    go true = refl
    go false =
        append_assoc specials (map text l) (text v ∷ [])
        ∙ ap (λ (m : List Constant). specials ++ m) (map_last l v)

users-new : (m l : List (List ℕ))
    → with_new same_constant (with_users l) (map text m) ≡ with_users (with_new same_bytes l m)
unfolding with_new
users-new [] l = refl
users-new (v ∷ m) l =
    ap (λ (x : List Constant). with_new same_constant x (map text m)) (user-added l v) ∙ users-new m (added l v)

module _ (edition : ℕ) (s : List ℕ) (ordered : NamesInOrder edition s) (p : Program) (t : Token)
    (read : read_program edition s ≡ ok p t) where
  pub variables-are : variables_of edition s ≡ with_users (users_of edition p)
  unfolding variables_of users_of
  variables-are =
      ap (λ (l : List (List ℕ)). with_new same_constant specials (map text l)) (ordered p t read) ∙ users-new _ []

  pub variables-count : length (variables_of edition s) ≡ special_count + length (users_of edition p)
  variables-count =
      ap length variables-are
      ∙ (length-append specials (map text (users_of edition p))
      ∙ ap (λ (n : ℕ). special_count + n) (length-map (users_of edition p) text))

-- ---- their numbers

text-number : (l : List (List ℕ)) (v : List ℕ) → number_of same_constant (map text l) (text v) ≡ number_of same_bytes l v
unfolding number_of same_constant
text-number [] v = refl
text-number (w ∷ l) v = rw (text-number l v)

number-left : (l m : List (List ℕ)) (v : List ℕ) → has same_bytes l v ≡ true
    → number_of same_bytes (l ++ m) v ≡ number_of same_bytes l v
unfolding has number_of
number-left [] m v h = absurd (clash (sym h))
number-left (w ∷ l) m v h = go (same_bytes v w) h (number-left l m v)
  where
    go : (b : Bool) → (b || has same_bytes l v) ≡ true
        → (has same_bytes l v ≡ true → number_of same_bytes (l ++ m) v ≡ number_of same_bytes l v)
        → cond b 0 (suc (number_of same_bytes (l ++ m) v)) ≡ cond b 0 (suc (number_of same_bytes l v))
    go true e f = refl
    go false e f = ap suc (f e)

number-right : (l m : List (List ℕ)) (v : List ℕ) → has same_bytes l v ≡ false
    → number_of same_bytes (l ++ m) v ≡ length l + number_of same_bytes m v
unfolding has number_of
number-right [] m v h = omega arith
number-right (w ∷ l) m v h =
    let both = or-false (same_bytes v w) (has same_bytes l v) h in
    rw both.0 (omega (arith, number-right l m v both.1))

special-number : (l : List (List ℕ)) (k : ℕ) → k < special_count → number_of same_constant (with_users l) (number k) ≡ k
unfolding number_of same_constant
special-number l zero h = refl
special-number l (suc zero) h = refl
special-number l (suc (suc zero)) h = refl
special-number l (suc (suc (suc zero))) h = refl
special-number l (suc (suc (suc (suc zero)))) h = refl
special-number l (suc (suc (suc (suc (suc zero))))) h = refl
special-number l (suc (suc (suc (suc (suc (suc zero)))))) h = refl
special-number l (suc (suc (suc (suc (suc (suc (suc k))))))) h = absurd (omega arith)

user-number : (l : List (List ℕ)) (v : List ℕ)
    → number_of same_constant (with_users l) (text v) ≡ special_count + number_of same_bytes l v
unfolding number_of same_constant
user-number l v = omega (arith, text-number l v)

-- a variable has the same number in both
pub variable-number : (l : List (List ℕ)) (v : List ℕ)
    → number_of same_constant (with_users l) (variable_of v) ≡ number_of same_bytes (special_names ++ l) v
unfolding variable_of
variable-number l v = go (has same_bytes special_names v) refl
  where
    go : (b : Bool) → has same_bytes special_names v ≡ b
        → number_of same_constant (with_users l) (cond b (number (number_of same_bytes special_names v)) (text v))
        ≡ number_of same_bytes (special_names ++ l) v
    go true e =
        special-number l (number_of same_bytes special_names v) (number-below same_bytes special_names v e)
        ∙ sym (number-left special_names l v e)
    go false e = user-number l v ∙ sym (number-right special_names l v e)
