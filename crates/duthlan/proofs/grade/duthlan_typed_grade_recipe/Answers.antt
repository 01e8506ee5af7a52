-- The recipe graded, of flat slices.
use borrow.Author.Rules.{rules}
use Rattle.typed.proofs.GradedLaws.{graded_at}
use Rattle.duthlan.proofs.grade.duthlan_typed_grade_recipe.Goals as goal

pub returns-clause-graded_served : goal.returns-clause-graded_served
returns-clause-graded_served c =
    graded_at
    c.args.k
    (record { entry = c.args.grades; exit = c.args.grades })
    c.args.station
    _
    _
    _
    c.list-list.ensures
    c.list-second.ensures
    c.values-arguments.ensures
    (search rules)
    (search rules)
    (search rules)
    (search rules)
    c.recipe.ensures.graded_served.served
