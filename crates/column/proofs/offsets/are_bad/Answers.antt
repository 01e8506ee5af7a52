use Rattle.std.proofs.Common.{length, sym, ap, ◌∙◌, arith}
use Rattle.std.proofs.lemmas.List.{length-map}
use Rattle.model.proofs.SignedLaws.{back64}
use Rattle.column.proofs.OffsetLaws.{bad_falls, falls_now, falls_on, falls-end, number_at}
use Rattle.column.proofs.offsets.are_bad.Goals as goal

pub loop-offset-init : goal.loop-offset-init
loop-offset-init g c = bad_falls (g.O.Offset.numbers c.args.offsets.now) c.args.n

pub returns-then-is_below : goal.returns-then-is_below
returns-then-is_below g c =
    let l = c.loop-offset in
    let t = number_at g.O.Offset.number g.O.Offset.numbers g.met.O.Offset.numbers_are c.args.offsets.now l.offset-index c.offset-item.result c.loop-offset-test.true c.offset-item.is in
    let b = rw (back64 _ c.to_number-x.type_inv, c.to_number-x.ensures.value, t.1) at c.is_below.ensures in
    falls_now _ _ l.last l.offset-index _ t.0 l.invariant (sym b ∙ c.if-is_below.true)

pub loop-offset-preserved : goal.loop-offset-preserved
loop-offset-preserved g c =
    let l = c.loop-offset in
    let t = number_at g.O.Offset.number g.O.Offset.numbers g.met.O.Offset.numbers_are c.args.offsets.now l.offset-index c.offset-item.result c.loop-offset-test.true c.offset-item.is in
    let b = rw (back64 _ c.to_number-x.type_inv, c.to_number-x.ensures.value, t.1) at c.is_below.ensures in
    let n = rw (back64 _ c.to_number-x.type_inv, c.to_number-x.ensures.value, t.1) at c.count-last.ensures in
    rw n (falls_on _ _ l.last l.offset-index _ t.0 l.invariant (sym b ∙ c.if-is_below.false))

pub returns : goal.returns
returns g c =
    let l = c.loop-offset in
    falls-end (g.O.Offset.numbers c.args.offsets.now) c.args.n l.last l.offset-index _ (omega (arith, ap length (g.met.O.Offset.numbers_are c.args.offsets.now), length-map c.args.offsets.now g.O.Offset.number)) l.invariant
