-- Demand 3 holds.
use mathlib.Core.Path.{◌≡◌, refl, sym, ap, subst, ◌∙◌}
use mathlib.Core.Bool.{Bool, true, false, true≢false}
use mathlib.Core.Logic.{◌↔◌, ◌⊎◌, inl, inr, ⊎_elim}
use mathlib.Core.List.{List, [], ◌∷◌, ◌++◌}
use mathlib.Core.Option.{Option, some, none}
use Prim.Native.Nat.{ℕ, zero, suc, ◌≤◌, ◌<◌}
use native.Mathlib.Omega.{arith}
use lib.ListN.{length, take, drop}
use Rattle.lists.specs.Elements.{Every}
use Rattle.lists.proofs.Options.{some_one, none-some}
use Rattle.edition.specs.Limits.{working_room}
use Rattle.edition.specs.Outcomes.{done, image_malformed, image_fails_check, budget_spent}
use Rattle.image_format.specs.Image.{Image}
use Rattle.image_format.specs.Reading.{read_image, from_bytes}
use Rattle.image_format.specs.Writing.{bytes_of}
use Rattle.values.specs.Value.{Stop}
use Rattle.semantics.specs.Feed.{Feed}
use Rattle.semantics.specs.Moves.{Config, starts_at, Move, continues, finishes, stops_at, stuck, move}
use Rattle.semantics.specs.Run.{Ending, spent, finished, stopped, no_rule, Answer, answer_of, onward, after, Ends}
use Rattle.semantics.specs.Check.{check}
use Rattle.semantics.specs.Checked.{Checked}
use Rattle.semantics.proofs.Checks.{check-exactly}
use Rattle.semantics.proofs.NeverStuck.{SoundMove, sound-move, sound-start, sound-after, never_stuck}
use Rattle.semantics.proofs.StuckExactly.{stuck-exactly}
use Rattle.semantics.proofs.Outcomes.{StopOfRun, stops_named}
use Rattle.semantics.proofs.Budget.{ends-one}
use Rattle.image_check.specs.Verdict.{judged, check_of}
use Rattle.runner.specs.Report.{result_of}
use Rattle.runner.proofs.Exactly.{run-exactly}
use Rattle.program_numbering.specs.Numbering.{image_of}
use Rattle.translation.specs.Translation.{Translation, translate_of}
use Rattle.translation.proofs.Passes.{written-passes}
use Rattle.translation.proofs.Forming.{compiled-reads}
use Rattle.sound.specs.Demand.{Verdicts, Sound, Named, Spends, Finishes, Stops, EndsAt, Answered, WholeRun}
use Rattle.sound.specs.Demand.{Writes, Demand3}

-- ---- the checker

module _ (bytes : List ℕ) where
  answers : (o : Option Image) → read_image from_bytes bytes ≡ o → check_of bytes ≡ judged o
  unfolding check_of
  answers o e = ap judged e

  read_none : read_image from_bytes bytes ≡ none → Verdicts bytes
  read_none e =
      let is : check_of bytes ≡ image_malformed = answers none e in
      record {
        passes = ((λ h. absurd (omega (arith, is, h))), (λ p. absurd (none-some (sym e ∙ p.1))));
        malformed = ((λ h. e), (λ h. is));
        fails = λ a b. absurd (b is);
      }

  module _ (i : Image) (e : read_image from_bytes bytes ≡ some i) where
    read_some : (b : Bool) → check i ≡ b → Verdicts bytes
    read_some true c =
        let is : check_of bytes ≡ done = rw c at (answers (some i) e) in
        record {
          passes = ((λ h. (i, e, (check-exactly i).0 c)), (λ p. is));
          malformed = ((λ h. absurd (omega (arith, is, h))), (λ h. absurd (none-some (sym h ∙ e))));
          fails = λ a b. absurd (a is);
        }
    read_some false c =
        let is : check_of bytes ≡ image_fails_check = rw c at (answers (some i) e) in
        record {
          passes = ((λ h. absurd (omega (arith, is, h))), (λ p. absurd (other p.0 p.1 p.2)));
          malformed = ((λ h. absurd (omega (arith, is, h))), (λ h. absurd (none-some (sym h ∙ e))));
          fails = λ a b. is;
        }
      where
        other : (j : Image) → read_image from_bytes bytes ≡ some j → Checked j → ⊥
        other j r k = true≢false (sym (subst (λ (x : Image). check x ≡ true) (some_one r e) ((check-exactly j).1 k)) ∙ c)

  pub verdicts : Verdicts bytes
  verdicts = by (read_image from_bytes bytes) refl
    where
      by : (o : Option Image) → read_image from_bytes bytes ≡ o → Verdicts bytes
      by none e = read_none e
      by (some i) e = read_some i e (check i) refl

-- ---- the definition

never : (i : Image) → check i ≡ true → (feed : Feed) (room n : ℕ) → Sound i (starts_at i feed room) n
never i ok feed room n =
    let checked = (check-exactly i).0 ok in
    let sound = sound-after i checked n (starts_at i feed room) (sound-start i checked feed room) in
    let h = never_stuck i ok feed room n in
    record {
      goes = h.0;
      complete = λ c e s.
          subst (SoundMove i) ((stuck-exactly i c).1 s) (sound-move i checked c (subst (SoundMove i) e sound));
      depth = h.1;
    }

abbrev kind_of : Move → ℕ
kind_of (continues c) = 0
kind_of (finishes c) = 1
kind_of (stops_at x c) = 2
kind_of stuck = 3

-- a run stops as one of its moves does
stop-named : (i : Image) (n : ℕ) (c : Config) (x : Stop) (d : Config) → after i n c ≡ stops_at x d → StopOfRun x
unfolding after
stop-named i zero c x d h =
    let k : kind_of (continues c) ≡ kind_of (stops_at x d) = ap kind_of h in
    absurd (omega (arith, k))
stop-named i (suc n) c x d h = by (stop-named i n) (move i c) refl h
  where
    by : ((e : Config) (x : Stop) (d : Config) → after i n e ≡ stops_at x d → StopOfRun x)
        → (m : Move) → move i c ≡ m → onward (after i n) m ≡ stops_at x d → StopOfRun x
    by r (continues e) q k = r e x d k
    by r (finishes e) q k =
        let z : kind_of (finishes e) ≡ kind_of (stops_at x d) = ap kind_of k in
        absurd (omega (arith, z))
    by r (stops_at y e) q k = stops_named i c x d (q ∙ k)
    by r stuck q k = let z : kind_of stuck ≡ kind_of (stops_at x d) = ap kind_of k in absurd (omega (arith, z))

-- ---- the runner

-- the answer with an outcome at a configuration
abbrev answer_at : ℕ → Config → Answer
answer_at o c =
    let w = c.world in
    record { outcome = o; steps = c.control.steps; records = w.feed.count; output = w.output.bytes }

module _ (i : Image) (budget : ℕ) (start : Config) where
  named : (x : Stop) (c : Config) → Stops i budget start x c → Named x.outcome
  named x c h = (stop-named i h.moves start x c h.there).outcome

  module _ (room : List ℕ) (a : Answer) where
    outcome-is : (b : Answer) → some b ≡ some a → b.outcome ≡ a.outcome
    outcome-is b h = ap (λ (x : Answer). x.outcome) (some_one refl h)

    -- by the ending that the answer is of
    to-spent : (e : Ending) → Ends i budget start e → answer_of e ≡ some a → a.outcome ≡ budget_spent
        → (c : Config) × (Spends i budget start c)
    to-spent (spent c) h is q = (c, h)
    to-spent (finished c) h is q = absurd (omega (arith, outcome-is _ is, q))
    to-spent (stopped x c) h is q = absurd (omega (arith, outcome-is _ is, q, (named x c h).0))
    to-spent no_rule h is q = absurd (none-some is)

    to-finished : (e : Ending) → Ends i budget start e → answer_of e ≡ some a → a.outcome ≡ done
        → (c : Config) × (Finishes i budget start c)
    to-finished (spent c) h is q = absurd (omega (arith, outcome-is _ is, q))
    to-finished (finished c) h is q = (c, h)
    to-finished (stopped x c) h is q = absurd (omega (arith, outcome-is _ is, q, (named x c h).0))
    to-finished no_rule h is q = absurd (none-some is)

    to-stopped : (e : Ending) → Ends i budget start e → answer_of e ≡ some a → (o : ℕ) → Named o → a.outcome ≡ o
        → (x : Stop) × (c : Config) × (Stops i budget start x c) × (x.outcome ≡ o)
    to-stopped (spent c) h is o n q = absurd (omega (arith, outcome-is _ is, q, n.0))
    to-stopped (finished c) h is o n q = absurd (omega (arith, outcome-is _ is, q, n.0))
    to-stopped (stopped x c) h is o n q = (x, c, h, outcome-is _ is ∙ q)
    to-stopped no_rule h is o n q = absurd (none-some is)

    to_one : (e : Ending) → Ends i budget start e → answer_of e ≡ some a
        → (a.outcome ≡ budget_spent) ⊎ ((a.outcome ≡ done) ⊎ (Named a.outcome))
    to_one (spent c) h is = inl (sym (outcome-is _ is))
    to_one (finished c) h is = inr (inl (sym (outcome-is _ is)))
    to_one (stopped x c) h is = inr (inr (subst Named (outcome-is _ is) (named x c h)))
    to_one no_rule h is = absurd (none-some is)

    module _ (e : Ending) (ends : Ends i budget start e) (is : answer_of e ≡ some a) where
      -- there is one ending, so that any is the answer's
      any : (f : Ending) → Ends i budget start f → answer_of f ≡ some a
      any f h = ap answer_of (ends-one i budget start f e h ends) ∙ is

      -- the answer is that at the configuration where the run ends
      point : (c : Config) → EndsAt i budget start c → (o : ℕ) × (answer_at o c ≡ a)
      point c p =
          ⊎_elim (λ h. (budget_spent, some_one refl (any (spent c) h)))
          (λ q. ⊎_elim (λ h. (done, some_one refl (any (finished c) h)))
          (λ h. (h.0.outcome, some_one refl (any (stopped h.0 c) h.1))) q) p

      at-point : {A : Type 0} (get : Answer → A) (c : Config) (p : EndsAt i budget start c)
          → get a ≡ get (answer_at (point c p).0 c)
      at-point get c p = sym (ap get (point c p).1)

      answered : Answered i budget start room (result_of room a)
      answered =
          record {
            spent = (
              to-spent e ends is,
              (λ p. sym (outcome-is _ (any (spent p.0) p.1))),
            );
            finished = (
              to-finished e ends is,
              (λ p. sym (outcome-is _ (any (finished p.0) p.1))),
            );
            stopped = λ o n. (
              to-stopped e ends is o n,
              (λ p. sym (outcome-is _ (any (stopped p.0 p.1) p.2)) ∙ p.3),
            );
            nothing_else = to_one e ends is;
            steps = at-point (λ b. b.steps);
            records = at-point (λ b. b.records);
            bytes = at-point (λ b. length b.output);
            output = at-point (λ b. b.output ++ drop (length a.output) room);
          }

whole : (bytes : List ℕ) → check_of bytes ≡ done → (feed : Feed) (room : List ℕ) (size budget : ℕ) → working_room ≤ size
    → WholeRun bytes feed room size budget
whole bytes h feed room size budget large =
    let p = (verdicts bytes).passes.0 h in
    let i = p.0 in
    let ok = (check-exactly i).1 p.2 in
    let a = run-exactly bytes i p.1 ok feed room size budget large in
    record {
      image = i;
      reads = p.1;
      sound = never i ok feed (length room);
      answer = result_of room a.answer;
      answers = a.told;
      answered = answered i budget (starts_at i feed (length room)) room a.answer a.ending a.ends a.is;
    }

-- ---- the translator

front : (l m : List ℕ) → take (length l) (l ++ m) ≡ l
front [] m = refl
front (b ∷ l) m = ap (λ (k : List ℕ). b ∷ k) (front l m)

behind : (l m : List ℕ) → drop (length l) (l ++ m) ≡ m
behind [] m = refl
behind (b ∷ l) m = behind l m

writes : (text room : List ℕ) → Every (λ b. b < 256) text → (translate_of 1 text room).outcome ≡ done
    → Writes text room (translate_of 1 text room)
writes text room bytes h =
    let w = written-passes text room h in
    let i = image_of 1 w.program in
    let l = bytes_of i in
    let again = compiled-reads text bytes w.program w.last w.reads w.fitting in
    let here = sym (front l (drop (length l) room)) in
    let reads = subst (λ (k : List ℕ). read_image from_bytes k ≡ some i) here again in
    let k = take (length l) (l ++ drop (length l) room) in
    subst (Writes text room) (sym w.answer) (record {
      program = w.program;
      last = w.last;
      reads = w.reads;
      place = refl;
      bytes = front l (drop (length l) room);
      beyond = behind l (drop (length l) room);
      image = reads;
      passes = (verdicts k).passes.1 (i, reads, (check-exactly i).0 w.passes);
    })

-- ---- the whole

pub demand-3 : Demand3
demand-3 =
    record {
      checker = verdicts;
      runner = λ bytes h feed room size budget large. whole bytes h feed room size budget (omega (arith, large));
      translator = writes;
    }
