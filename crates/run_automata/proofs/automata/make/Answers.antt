-- `make` meets its contract: the ERE of the slot is compiled, and its automata derived.
use mathlib.Core.Path.{refl}
use Prim.Native.Nat.{◌%◌}
use native.Mathlib.Omega.{arith}
use lib.Dec.{eqb, leb}
use lib.ListN.{length}
use borrow.Author.Tests.{leb-false}
use Rattle.lists.proofs.Tests.{or-false}
use Rattle.edition.specs.Limits.{ere_count}
use Rattle.run_automata.proofs.Filling.{suits-ere}
use Rattle.run_automata.proofs.automata.make.Goals as goal

pub returns-then-pairs-index : goal.returns-then-pairs-index
returns-then-pairs-index c = λ xs y. record { size = refl; inside = omega arith; fits = λ long. absurd (omega arith) }

pub compile_alone-requires : goal.compile_alone-requires
compile_alone-requires c =
    let y = c.requires.2 in
    let a = c.args in
    let n = a.k % ere_count in
    let size = length a.index.now in
    let far = (or-false (eqb a.pairs 0) (leb size n) c.if-pairs-index.false).1 in
    (omega arith, (y.0, y.1, omega (arith, y.1.room, leb-false size n far)))

pub returns : goal.returns
returns c =
    let done = c.derive.ensures in
    let t = c.compile_alone.ensures in
    λ xs y.
    record {
      size = done.size;
      inside = done.inside;
      fits = λ long. suits-ere y.few (done.suits long) (λ e i. t.serves xs e y i);
    }
