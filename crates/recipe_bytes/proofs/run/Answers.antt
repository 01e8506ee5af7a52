-- The recipe on decoded numbers and columns.
use Rattle.std.proofs.Common.{sym, arith}
use lib.Seq.{length-take-le}
use Rattle.column.specs.Outputs.{room_in}
use Rattle.recipe_bytes.proofs.RecipeLaws.{few, read_is, tallied_as}
use Rattle.tally.specs.Tallies.{tally_of}
use Rattle.recipe_bytes.proofs.run.Goals as goal

pub slice_bounds-numbers-end : goal.slice_bounds-numbers-end
slice_bounds-numbers-end c = omega (arith, few c.args.recipe.numbers.now _ c.numbers_taken.ensures, c.get_numbers.auto.ns)

pub slice_bounds-decoded-end : goal.slice_bounds-decoded-end
slice_bounds-decoded-end c = sym (length-take-le _ _ (omega (arith, few c.args.recipe.numbers.now _ c.numbers_taken.ensures, c.get_numbers.auto.ns)))

pub returns-clause-list_answers : goal.returns-clause-list_answers
returns-clause-list_answers c =
    let a = c.args in
    let m = c.run_recipe.ensures.list_answers in
    record {
      meets = rw (read_is a.station a.recipe.columns a.recipe.numbers.now _ _ (room_in a.one.now) (room_in a.two.now) (room_in a.out.now) c.numbers_taken.ensures c.get_numbers.ensures c.column.ensures c.column-2.ensures c.column-3.ensures) m.meets;
      same = m.same;
    }

pub returns-clause-tally_value : goal.returns-clause-tally_value
returns-clause-tally_value c =
    let a = c.args in
    tallied_as a.station (tally_of a.tally)
    (read_is a.station a.recipe.columns a.recipe.numbers.now _ _ (room_in a.one.now) (room_in a.two.now) (room_in a.out.now) c.numbers_taken.ensures c.get_numbers.ensures c.column.ensures c.column-2.ensures c.column-3.ensures)
    c.run_recipe.ensures.tally_value
