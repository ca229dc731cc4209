-- `put_span` meets its contract, by its tests.
use mathlib.Core.Path.{sym}
use Rattle.field_spans.proofs.Located.{no_room}
use Rattle.edition.specs.Limits.{field_count}
use Rattle.splitting.specs.Field.{span}
use Prim.Native.Nat.{◌+◌, ◌-◌, ◌*◌}
use lib.ListN.{length}
use borrow.Author.Tests.{lt-ltb, le-ltb, le-leb, lt-leb}
use Rattle.field_spans.proofs.spans.put_span.Goals as goal

pub returns-then-spans-lt2 : goal.returns-then-spans-lt2
returns-then-spans-lt2 c = sym (no_room c.args.first c.args.spans.now c.args.k (span c.args.start c.args.size) c.if-spans-lt2.true)

pub returns-then-k-ge-FIELDS : goal.returns-then-k-ge-FIELDS
returns-then-k-ge-FIELDS c = rw (le-ltb c.args.k field_count c.if-k-ge-FIELDS.true)

pub returns-then-k-first : goal.returns-then-k-first
returns-then-k-first c = rw (lt-ltb c.args.k field_count c.if-k-ge-FIELDS.false, lt-leb c.args.first c.args.k c.if-k-first.true)

pub returns-then-i-spans : goal.returns-then-i-spans
returns-then-i-spans c =
    let a = c.args in
    rw (lt-ltb a.k field_count c.if-k-ge-FIELDS.false, le-leb a.first a.k c.if-k-first.false, lt-ltb (2 * (a.k - a.first) + 1) (length a.spans.now) c.if-i-spans.true)

pub returns-else-i-spans : goal.returns-else-i-spans
returns-else-i-spans c =
    let a = c.args in
    rw (lt-ltb a.k field_count c.if-k-ge-FIELDS.false, le-leb a.first a.k c.if-k-first.false, le-ltb (2 * (a.k - a.first) + 1) (length a.spans.now) c.if-i-spans.false)
