-- The numbers at the front.
use mathlib.Core.Path.{sym}
use native.Mathlib.Omega.{arith}
use Rattle.recipe_bytes.proofs.RecipeLaws.{few, front_length, fronts}
use Rattle.recipe_bytes.proofs.get_numbers.Goals as goal

pub overflow_mul-n : goal.overflow_mul-n
overflow_mul-n c = let some = few c.args.numbers.now c.numbers_taken-n.result c.numbers_taken-n.ensures in omega (arith, some.1)

pub slice_bounds-fill-end : goal.slice_bounds-fill-end
slice_bounds-fill-end c = sym (front_length c.args.numbers.now c.numbers_taken-n.result c.numbers_taken-n.ensures)

pub fill-requires : goal.fill-requires
fill-requires c =
    let some = few c.args.numbers.now c.numbers_taken-n.result c.numbers_taken-n.ensures in
    let e = front_length c.args.numbers.now c.numbers_taken-n.result c.numbers_taken-n.ensures in
    omega (arith, e, some.1, c.requires)

pub returns : goal.returns
returns c = fronts c.args.numbers.now c.numbers_taken-n.result c.numbers_taken-n.ensures _ c.fill.ensures
