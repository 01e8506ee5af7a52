use mathlib.Core.Path.{ap}
use mathlib.Core.Bool.{false}
use lib.Dec.{ltb}
use Rattle.column.specs.Columns.{column_in, values_in}
use Rattle.model.specs.Column.{rows_of}
use Rattle.ops.specs.declared.Arity.{Arity}
use Rattle.ops.specs.Ops.{takes_of, second_limit, third_limit}
use Rattle.one_list.proofs.CutLaws.{column_serves, column-shown, call_same}
use Rattle.one_list.proofs.one_list.Goals as goal

pub column-xs-requires-clause-lies_in : goal.column-xs-requires-clause-lies_in
column-xs-requires-clause-lies_in g c = rw c.takes-k.ensures c.requires.uses.first_in

pub column-ys-requires-clause-lies_in : goal.column-ys-requires-clause-lies_in
column-ys-requires-clause-lies_in g c = rw c.takes-k.ensures c.requires.uses.second_in

pub column-zs-requires-clause-lies_in : goal.column-zs-requires-clause-lies_in
column-zs-requires-clause-lies_in g c = rw c.takes-k.ensures c.requires.uses.third_in

pub after_three-requires-clause-arguments : goal.after_three-requires-clause-arguments
after_three-requires-clause-arguments g c =
    let a = c.args in
    let A = values_in a.args.columns in
    let s = a.step in
    let u = c.requires.uses in
    rw c.requires.rows
    (record {
      first = λ t. column_serves A c.requires.bits s.first a.args.pitch a.args.rows (ltb 0 (takes_of a.op)) u.first_in (ap (λ (t : Arity). ltb 0 t.columns) c.takes-k.ensures) c.column-xs.ensures t false;
      second = λ t. column_serves A c.requires.bits s.second a.args.pitch a.args.rows (ltb 1 (takes_of a.op)) u.second_in (ap (λ (t : Arity). ltb 1 t.columns) c.takes-k.ensures) c.column-ys.ensures t (second_limit a.op);
      third = λ t. column_serves A c.requires.bits s.third a.args.pitch a.args.rows (ltb 2 (takes_of a.op)) u.third_in (ap (λ (t : Arity). ltb 2 t.columns) c.takes-k.ensures) c.column-zs.ensures t (third_limit a.op);
    })

pub returns : goal.returns
returns g c =
    let a = c.args in
    let A = values_in a.args.columns in
    let s = a.step in
    let u = c.requires.uses in
    rw (← call_same a.op (rows_of (column_in g.O.Offset.numbers a.list))
    (λ t. column-shown A c.requires.bits s.first a.args.pitch a.args.rows (ltb 0 (takes_of a.op)) u.first_in (ap (λ (t : Arity). ltb 0 t.columns) c.takes-k.ensures) c.column-xs.ensures t)
    (λ t. column-shown A c.requires.bits s.second a.args.pitch a.args.rows (ltb 1 (takes_of a.op)) u.second_in (ap (λ (t : Arity). ltb 1 t.columns) c.takes-k.ensures) c.column-ys.ensures t)
    (λ t. column-shown A c.requires.bits s.third a.args.pitch a.args.rows (ltb 2 (takes_of a.op)) u.third_in (ap (λ (t : Arity). ltb 2 t.columns) c.takes-k.ensures) c.column-zs.ensures t))
    c.after_three.ensures
