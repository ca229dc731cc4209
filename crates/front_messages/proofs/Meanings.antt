-- The table of meanings, as words of a block.
use mathlib.Core.Path.{◌≡◌, refl, ap, ◌∙◌}
use mathlib.Core.List.{List, [], ◌∷◌, ◌++◌}
use Prim.Native.Nat.{ℕ, ◌-◌}
use lib.ListN.{take, drop}
use Rattle.buffer.specs.Parts.{part}
use Rattle.front_words.specs.Words.{words_of, word_in}
use Rattle.front_words.specs.Walk.{SpanOf}
use Rattle.front_words.specs.declared.words.Span.{Span}
use Rattle.front_lines.specs.Messages.{meanings}

-- words, each with a NUL after it
abbrev block : List (List ℕ) → List ℕ
block [] = []
block (w ∷ ws) = w ++ (0 ∷ block ws)

words_are : words_of (block meanings) ≡ meanings
unfolding words_of
words_are = refl

pub meaning-is : (s : Span) (outcome : ℕ) → SpanOf (block meanings) 0 outcome s
    → take (s.end - s.start) (drop s.start (block meanings)) ≡ word_in meanings outcome
unfolding part
meaning-is s outcome p = p.word ∙ ap (λ (ws : List (List ℕ)). word_in ws outcome) words_are
