use Rattle.std.proofs.Common.{arith, refl, ap, ◌≡◌, ℕ, ◌+◌, ◌-◌, ◌∙◌, length}
use Rattle.model.specs.Column.{Row}
use Rattle.model.specs.Form.{elems_of}
use Rattle.column.specs.Columns.{column_in}
use Rattle.column.proofs.WalkLaws.{Summing, between, sum_begun, sum_more, sum_done}
use Rattle.plain_walk.proofs.PlainLaws.{plain_at, plain_row_lem, plain-small, plain_rows_lem}
use Rattle.plain_walk.proofs.measure_rows.Goals as goal

on : (n r : ℕ) {W : ℕ → Row} {low top found : ℕ} → Summing W n low top found (r + 1) (n - r - 1) → Summing W n low top found (r + 1) (n - (r + 1))
on n r s = let e : n - r - 1 ≡ n - (r + 1) = omega arith in rw e at s

pub loop-r-init : goal.loop-r-init
loop-r-init g c =
    let e : c.row_count-n.result - 0 ≡ c.row_count-n.result = omega arith in
    record { rows = rw e (sum_begun _ _ _ _); place = c.first_offset-a.ensures }

pub overflow_sub-len : goal.overflow_sub-len
overflow_sub-len g c =
    let op = c.args.op in
    let col = column_in g.O.Offset.numbers c.args.list in
    let i = between col c.row_count-n.result c.loop-r.r c.loop-r.a c.offset_at-b.result c.requires.column c.row_count-n.ensures c.loop-r-test.true c.loop-r.invariant.place c.offset_at-b.ensures.value in
    i.rises

pub measure_row-more-requires : goal.measure_row-more-requires
measure_row-more-requires g c =
    let op = c.args.op in
    let col = column_in g.O.Offset.numbers c.args.list in
    let i = between col c.row_count-n.result c.loop-r.r c.loop-r.a c.offset_at-b.result c.requires.column c.row_count-n.ensures c.loop-r-test.true c.loop-r.invariant.place c.offset_at-b.ensures.value in
    record { column = record { inside = omega (arith, i.rises, i.inside); bits = i.elements } }

pub overflow_add-found : goal.overflow_add-found
overflow_add-found g c =
    let op = c.args.op in
    let col = column_in g.O.Offset.numbers c.args.list in
    let i = between col c.row_count-n.result c.loop-r.r c.loop-r.a c.offset_at-b.result c.requires.column c.row_count-n.ensures c.loop-r-test.true c.loop-r.invariant.place c.offset_at-b.ensures.value in
    let lim = g.O.Offset.LIMITS in
    let v = c.is_valid-valid in
    let m = c.measure_row-more in
    let s = sum_more (plain_at lim op col) c.row_count-n.result lim.offset m.result c.loop-r.a c.offset_at-b.result c.loop-r.invariant.rows (omega arith) (m.ensures ∙ ap (λ (w : Row). length (elems_of w)) (plain_row_lem lim op col c.loop-r.r c.loop-r.a c.offset_at-b.result v.result c.loop-r.invariant.place c.offset_at-b.ensures.value v.ensures)) (omega (arith, m.ensures, plain-small lim op col c.loop-r.r c.loop-r.a c.offset_at-b.result v.result c.loop-r.invariant.place c.offset_at-b.ensures.value v.ensures)) i.rises refl c.offset_at-b.ensures.upper_bound in
    omega (arith, s.small, g.met.O.Offset.limits_fit.offset)

pub loop-r-preserved : goal.loop-r-preserved
loop-r-preserved g c =
    let op = c.args.op in
    let col = column_in g.O.Offset.numbers c.args.list in
    let i = between col c.row_count-n.result c.loop-r.r c.loop-r.a c.offset_at-b.result c.requires.column c.row_count-n.ensures c.loop-r-test.true c.loop-r.invariant.place c.offset_at-b.ensures.value in
    let lim = g.O.Offset.LIMITS in
    let v = c.is_valid-valid in
    let m = c.measure_row-more in
    let s = sum_more (plain_at lim op col) c.row_count-n.result lim.offset m.result c.loop-r.a c.offset_at-b.result c.loop-r.invariant.rows (omega arith) (m.ensures ∙ ap (λ (w : Row). length (elems_of w)) (plain_row_lem lim op col c.loop-r.r c.loop-r.a c.offset_at-b.result v.result c.loop-r.invariant.place c.offset_at-b.ensures.value v.ensures)) (omega (arith, m.ensures, plain-small lim op col c.loop-r.r c.loop-r.a c.offset_at-b.result v.result c.loop-r.invariant.place c.offset_at-b.ensures.value v.ensures)) i.rises refl c.offset_at-b.ensures.upper_bound in
    record { rows = on _ _ s; place = c.offset_at-b.ensures.value }

pub returns-clause-value : goal.returns-clause-value
returns-clause-value g c =
    let op = c.args.op in
    let col = column_in g.O.Offset.numbers c.args.list in
    let lim = g.O.Offset.LIMITS in
    sum_done (plain_at lim op col) c.row_count-n.result lim.offset c.loop-r.invariant.rows (omega arith) ∙ rw (plain_rows_lem lim op col c.row_count-n.result c.row_count-n.ensures)
