-- A turn writes the value of one row, the first of those that are left.
use Rattle.std.proofs.Common.{◌≡◌, ℕ, ◌+◌, ◌-◌, ◌<◌, ◌∷◌, ◌∙◌, arith}
use Rattle.model.specs.Basics.{tab}
use Rattle.model.specs.Column.{Elem, row_count}
use Rattle.model.proofs.TabLaws.{tab-step, tab-none}
use Rattle.column.specs.Columns.{column_in}
use Rattle.column.proofs.SameLaws.{filled_values, values_on}
use Rattle.column.proofs.WriteLaws.{written, done, fills_values}
use Rattle.value_places.specs.Values.{value_at, values_made}
use Rattle.value_places.proofs.ValueLaws.{length-made}
use Rattle.value_walk.proofs.write_values.Goals as goal

next : (W : ℕ → Elem) (r n : ℕ) → r < n → tab W r (n - r) ≡ W r ∷ tab W (r + 1) (n - (r + 1))
next W r n h = let e : n - r - 1 ≡ n - (r + 1) = omega arith in tab-step W r (n - r) (omega arith) ∙ rw e

pub loop-r-preserved : goal.loop-r-preserved
loop-r-preserved g c =
    let l = c.loop-r in
    let W = value_at c.args.op (column_in g.O.Offset.numbers c.args.list) in
    let n = row_count (g.O.Offset.numbers c.args.list.offsets.now) in
    record {
      written = written {es = tab W 0 n} {rest = tab W l.r (n - l.r)} l.invariant.written (W l.r) (tab W (l.r + 1) (n - (l.r + 1))) (next W l.r n (omega (arith, c.row_count-r-end.ensures))) c.put_value.ensures.values_after c.put_value.ensures.bits_after;
      same = values_on l.invariant.same c.put_value.ensures.same;
    }

pub returns : goal.returns
unfolding values_made
returns g c =
    let l = c.loop-r in
    let C = column_in g.O.Offset.numbers c.args.list in
    let m = length-made c.args.op C in
    filled_values
    (fills_values (done l.invariant.written (tab-none (value_at c.args.op C) l.r _ (omega (arith, c.row_count-r-end.ensures)))) (omega (arith, m, c.requires.rows_in_bounds)) (rw m c.requires.rows_in_bounds_2))
    l.invariant.same.values l.invariant.same.bits
