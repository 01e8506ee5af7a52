use Rattle.std.proofs.Common.{◌≡◌, ◌+◌, ◌-◌}
use Rattle.column.proofs.WriteLaws.{Writing}
use Rattle.column.specs.Outputs.{SameValues}
use Rattle.model.specs.Basics.{tab}
use Rattle.column.specs.Columns.{elem_in}
use Rattle.model.specs.Elements.{replaced}
use Rattle.rows.specs.Cells.{elem_of}
use Rattle.matches.proofs.replace.write_replaced.Given as goal

abbrev pub invariant-loop : goal.invariant-loop
invariant-loop l =
    let E = elem_in l.elements in
    let F = elem_of l.by.from in
    let To = elem_of l.by.to in
    let was = l.fn.out in
    (Writing (replaced l.by.limit F To (tab E l.a l.n)) l.at was.values.now was.bits.now (replaced (l.by.limit - l.counter) F To (tab E l.p l.left)) l.k l.out.values.now l.out.bits.now × SameValues was l.out)
    × (l.p + l.left ≡ l.a + l.n)
