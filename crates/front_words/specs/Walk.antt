-- Internal: cited by private contracts only. Internal: cited by contracts between crates. A walk from word to word.
use Rattle.std.specs.Prelude.{◌≡◌, List, ◌∷◌, ℕ, ◌-◌, ◌≤◌, ◌<◌, length, drop}
use Rattle.buffer.specs.Parts.{part}
use Rattle.front_words.specs.Words.{words_of, word_in}
use Rattle.front_words.specs.declared.words.Span.{Span}
use Rattle.front_words.specs.declared.words.WordEnd.{WordEnd}

-- the words from a place on are the one that starts there, and those from the next one on
pub record Ends (block : List ℕ) (at : ℕ) (w : WordEnd) : Type 0 where
  pub order : at ≤ w.end
  pub inside : w.end ≤ length block
  pub further : at < w.next
  pub within : w.next ≤ length block
  pub splits : words_of (drop at block) ≡ part at (w.end - at) block ∷ words_of (drop w.next block)

-- word k of those from a place on
pub record SpanOf (block : List ℕ) (at k : ℕ) (s : Span) : Type 0 where
  pub order : s.start ≤ s.end
  pub inside : s.end ≤ length block
  pub word : part s.start (s.end - s.start) block ≡ word_in (words_of (drop at block)) k
