-- A turn adds the length of one row, unless that passes the most that there may be.
use Rattle.std.proofs.Common.{◌≡◌, ◌+◌, ◌-◌, length, refl, arith}
use Rattle.bitmap.specs.Reads.{bits_in}
use Rattle.column.proofs.RowLaws.{len_from_le}
use Rattle.column.proofs.WalkLaws.{sum_more, sum_done}
use Rattle.view_checks.specs.Views.{view_in}
use Rattle.view_checks.proofs.ShownLaws.{view-length, counted_past, counted_all, shown-rows}
use Rattle.view_checks.proofs.ViewColumn.measure.Goals as goal

pub overflow_add-found : goal.overflow_add-found
overflow_add-found c = omega (arith, c.loop-r.invariant.small, c.row_len-found.ensures, len_from_le (bits_in c.args.self.rows) c.loop-r.r 0 c.offset_at-size.result (omega arith), c.offset_at-size.ensures.upper_bound)

pub returns-then-found-gt2147483647 : goal.returns-then-found-gt2147483647
returns-then-found-gt2147483647 c =
    let V = view_in c.args.self in
    rw (← shown-rows V (length V.offsets) refl)
    (counted_past _ _ 2147483647 c.row_len-found.result c.loop-r.invariant (omega arith) (view-length V c.loop-r.r _ _ c.offset_at-size.ensures.value c.row_len-found.ensures) (omega arith))

pub loop-r-preserved : goal.loop-r-preserved
loop-r-preserved c =
    let V = view_in c.args.self in
    let n = length V.offsets in
    let e : n - (c.loop-r.r + 1) ≡ n - c.loop-r.r - 1 = omega arith in
    let k = c.row_len-found.result in
    rw e
    (sum_more _ _ 2147483647 k c.loop-r.found (c.loop-r.found + k) c.loop-r.invariant (omega arith) (view-length V c.loop-r.r _ _ c.offset_at-size.ensures.value c.row_len-found.ensures) (omega arith) (omega arith) refl (omega arith))

pub returns : goal.returns
returns c =
    let V = view_in c.args.self in
    rw (← shown-rows V (length V.offsets) refl)
    (counted_all _ _ 2147483647 c.loop-r.found (sum_done _ _ _ c.loop-r.invariant (omega arith)) (omega arith))
