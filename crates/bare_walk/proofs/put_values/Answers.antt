use Rattle.std.proofs.Common.{arith}
use Rattle.bare_walk.proofs.BareLaws.{back_length, front_length, last-length, back_written, front-written, last_written, not_distinct}
use Rattle.bare_walk.proofs.put_values.Goals as goal

pub copy_backward-requires-clause-n_in_bounds_2 : goal.copy_backward-requires-clause-n_in_bounds_2
copy_backward-requires-clause-n_in_bounds_2 c =
    let a = c.args in
    omega (arith, back_length a.op a.values.now a.a a.n c.in-Reverse.is, c.requires.room)

pub copy_values-requires-clause-n_in_bounds_2 : goal.copy_values-requires-clause-n_in_bounds_2
copy_values-requires-clause-n_in_bounds_2 c =
    let a = c.args in
    omega (arith, c.one_less-k.ensures, front_length a.op a.values.now a.a a.n c.in-PopFront.is, c.requires.room)

pub copy_values-requires-in-PopBack-clause-n_in_bounds_2 : goal.copy_values-requires-in-PopBack-clause-n_in_bounds_2
copy_values-requires-in-PopBack-clause-n_in_bounds_2 c =
    let a = c.args in
    omega (arith, c.one_less-k.ensures, last-length a.op a.values.now a.a a.n c.in-PopBack.is, c.requires.room)

pub returns-in-Reverse : goal.returns-in-Reverse
returns-in-Reverse c =
    let a = c.args in
    back_written a.values.now a.at a.op a.a a.n c.in-Reverse.is c.copy_backward.ensures

pub returns-in-Distinct : goal.returns-in-Distinct
returns-in-Distinct c =
    not_distinct c.args.op c.in-Distinct.is c.requires.copied

pub returns-in-PopFront : goal.returns-in-PopFront
returns-in-PopFront c =
    let a = c.args in
    front-written a.values.now a.at a.op a.a a.n c.one_less-k.result c.one_less-k.ensures c.in-PopFront.is c.copy_values.ensures

pub returns-in-PopBack : goal.returns-in-PopBack
returns-in-PopBack c =
    let a = c.args in
    last_written a.values.now a.at a.op a.a a.n c.one_less-k.result c.one_less-k.ensures c.in-PopBack.is c.copy_values-in-PopBack.ensures
