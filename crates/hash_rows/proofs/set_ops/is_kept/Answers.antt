-- An element that is not entered was seen before; otherwise the others' table decides.
use Rattle.std.proofs.Common.{◌+◌, not, ap}
use Rattle.column.specs.Columns.{elem_in, elems_in}
use Rattle.hash_tables.proofs.TableLaws.{table_before, turned_back}
use Rattle.kept_elements.proofs.KeepLaws.{keeps_old, keeps_shared, keeps_new}
use Rattle.set_rows.specs.Runs.{run_elems}
use Rattle.hash_rows.proofs.set_ops.is_kept.Goals as goal

pub returns-then-not-enter-clause-value : goal.returns-then-not-enter-clause-value
returns-then-not-enter-clause-value c =
    let a = c.args in
    keeps_old a.shared (run_elems a.others) (elems_in a.row.column a.row.from a.k) (elem_in a.row.column (a.row.from + a.k)) (turned_back c.enter.ensures.value) (ap not c.if-not-enter.true)

pub is_listed-found-requires-clause-table : goal.is_listed-found-requires-clause-table
is_listed-found-requires-clause-table c = table_before c.requires.listed c.enter.ensures.within c.enter.auto.area

pub returns-then-shared-clause-value : goal.returns-then-shared-clause-value
returns-then-shared-clause-value c =
    let a = c.args in
    keeps_shared a.shared (run_elems a.others) (elems_in a.row.column a.row.from a.k) (elem_in a.row.column (a.row.from + a.k)) (turned_back c.enter.ensures.value) (ap not c.if-not-enter.false) c.is_listed-found.ensures c.if-shared.true

pub returns-else-shared-clause-value : goal.returns-else-shared-clause-value
returns-else-shared-clause-value c =
    let a = c.args in
    keeps_new a.shared (run_elems a.others) (elems_in a.row.column a.row.from a.k) (elem_in a.row.column (a.row.from + a.k)) (turned_back c.enter.ensures.value) (ap not c.if-not-enter.false) c.is_listed-found.ensures c.if-shared.false
