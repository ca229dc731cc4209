-- The two sources of an image, bytes and content words, agree with how its numbers and text bytes are written.
use mathlib.Core.Path.{◌≡◌, refl}
use mathlib.Core.Bool.{Bool, true, false, cond}
use mathlib.Core.List.{List, [], ◌∷◌}
use mathlib.Core.Option.{some, none}
use Prim.Native.Nat.{ℕ, ◌≤◌, ◌<◌}
use native.Mathlib.Omega.{arith}
use lib.Dec.{leb}
use borrow.Author.Tests.{leb-true, le-leb}
use Rattle.lists.proofs.Options.{some_one, none-some}
use Rattle.lists.specs.Parsing.{Parsed, parsed}
use Rattle.image_format.specs.Formed.{Small}
use Rattle.image_format.specs.Numbers.{coded}
use Rattle.image_format.specs.Reading.{Source, word_up_to, from_bytes, from_words}
use Rattle.image_format.proofs.Numbers.{number-back, number-only}
use Rattle.image_format.proofs.Takes.{Taken, Takes, same}

-- numbers are written by `write`, text bytes as they are
pub record Agrees (source : Source) (write : ℕ → List ℕ) : Type 0 where
  pub numbers : Takes source.number Small write
  pub bytes : Takes source.byte (λ b. b < 256) (λ b. b ∷ [])

-- a number up to a bound, as it is
word-takes : (most : ℕ) → Takes (word_up_to most) (λ n. n ≤ most) (λ n. n ∷ [])
word-takes most = record { back = λ n h l. rw (le-leb n most h); only = only }
  where
    by : (n : ℕ) (l : List ℕ) (g : Parsed ℕ) (x : Bool) → leb n most ≡ x → cond x (parsed n l) none ≡ some g → Taken (λ n. n ≤ most) (λ n. n ∷ []) (n ∷ l) g
    by n l g true e h = rw (← (some_one refl h)) (leb-true n most e, refl)
    by n l g false e h = absurd (none-some h)

    only : (l : List ℕ) (g : Parsed ℕ) → word_up_to most l ≡ some g → Taken (λ n. n ≤ most) (λ n. n ∷ []) l g
    only [] g h = absurd (none-some h)
    only (n ∷ l) g h = by n l g (leb n most) refl h

pub bytes-agree : Agrees from_bytes coded
bytes-agree = record {
  numbers = record { back = number-back; only = number-only };
  bytes = same (word-takes _) (λ b h. omega arith) (λ b h. omega arith) (λ b h. refl);
}

pub words-agree : Agrees from_words (λ n. n ∷ [])
words-agree = record {
  numbers = same (word-takes _) (λ b h. omega arith) (λ b h. omega arith) (λ b h. refl);
  bytes = same (word-takes _) (λ b h. omega arith) (λ b h. omega arith) (λ b h. refl);
}
