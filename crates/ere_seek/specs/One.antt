-- Internal: cited by private contracts only. The automaton of one start: how far it is followed, and the longest match.
use Rattle.std.specs.Prelude.{◌≡◌, Bool, true, false, cond, ◌⊎◌, List, ℕ, suc, ◌+◌, ◌-◌, ◌%◌, ◌^◌, ◌≤◌, ◌<◌, length, get_or, eqb, leb}
use Rattle.ere_search.specs.Walk.{live_at, longest_to, longest_of}
use Rattle.ere_automaton.specs.Layout.{accepted_state, State, next_in, end_word}
use Rattle.ere_automaton.specs.Scan.{Ready}
use Rattle.ere_automaton.specs.Follows.{FollowsOne}
use Rattle.ere_seek.specs.declared.one.Reached.{Reached}

-- a match ends, by the accept bits, at the text's end (f) or not
abbrev pub accepts : ℕ → Bool → Bool
accepts bits f = cond f (leb 2 bits) (eqb (bits % 2) 1)

-- i if a match ends there in the state q, or what was best
abbrev pub better : List ℕ → ℕ → Bool → ℕ → ℕ → ℕ
better d q f i best = cond (accepts (end_word d q) f) i best

-- a start that is followed, and a byte more, at the text's end (f) or not
abbrev pub stepped : List ℕ → List ℕ → Bool → Reached → Reached
stepped d x f l =
    record {
      state = next_in d l.state (get_or x l.at 0);
      at = l.at + 1;
      best = better d (next_in d l.state (get_or x l.at 0)) f (l.at + 1) l.best;
    }

-- and two bytes more, before the text's end
abbrev pub stepped_twice : List ℕ → List ℕ → Reached → Reached
stepped_twice d x l = stepped d x false (stepped d x false l)

-- the end of the longest match from s, of at least one and fewer than n bytes; s if there is none
abbrev pub end_to : List ℕ → List ℕ → ℕ → ℕ → ℕ → ℕ
end_to t x at s n = s + (longest_to t x at 1 s n - 1)

abbrev pub end_of : List ℕ → List ℕ → ℕ → ℕ → ℕ
end_of t x at s = s + (longest_of t x at 1 s - 1)

-- the start s, at the text's start (first) or not, is followed up to l: the state there stands for what may come next,
-- and the best is the end of the longest match up to there
abbrev pub Means : List ℕ → List ℕ → ℕ → Bool → Reached → Type 0
Means d x s first l =
    (t : List ℕ) (at : ℕ) (D : FollowsOne t d) → first ≡ eqb (at + s) 0
    → (D.sets l.state ≡ live_at t x at s (l.at - s)) × (l.best ≡ end_to t x at s (suc (l.at - s)))

-- e is the end of the longest match from s; or s, if the start was not followed to the text's end
abbrev pub Ends : List ℕ → List ℕ → ℕ → Bool → ℕ → ℕ → Type 0
Ends d x s first until e =
    (t : List ℕ) (at : ℕ) → FollowsOne t d → first ≡ eqb (at + s) 0
    → (e ≡ end_of t x at s) ⊎ ((e ≡ s) × (until < length x))

-- where a start that is followed may be
pub record Bounds (x : List ℕ) (s : ℕ) (l : Reached) : Type 0 where
  pub on : s ≤ l.at
  pub inside : l.at ≤ length x
  pub from : s ≤ l.best
  pub to : l.best ≤ l.at

-- a start s that is followed to l, in a text that is not too long
pub record Begun (d : List ℕ) (k : ℕ) (x : List ℕ) (s : ℕ) (l : Reached) : Type 0 where
  pub ready : Ready d k l.state
  pub bounds : Bounds x s l
  pub small : length x < 2 ^ 63

-- from l to r by pairs: r goes on, or the longest match is known
pub record Paired (d x : List ℕ) (s until : ℕ) (l r : Reached) : Type 0 where
  pub bounds : Bounds x s r
  pub state : eqb r.state (accepted_state d) ≡ false → State d r.state
  pub goes : (first : Bool) → Means d x s first l → eqb r.state (accepted_state d) ≡ false → Means d x s first r
  pub ends : (first : Bool) → Means d x s first l → eqb r.state (accepted_state d) ≡ true
      → Ends d x s first until r.best

-- from l to the text's end
pub record Followed (d x : List ℕ) (l : Reached) (e : ℕ) : Type 0 where
  pub from : l.best ≤ e
  pub inside : e ≤ length x
  pub ends : (s : ℕ) (first : Bool) (until : ℕ) → s ≤ l.at → Means d x s first l → Ends d x s first until e

-- e is the end of the longest match from s, by Ends
pub record Longest (d x : List ℕ) (s : ℕ) (first : Bool) (until e : ℕ) : Type 0 where
  pub from : s ≤ e
  pub inside : e ≤ length x
  pub ends : Ends d x s first until e
