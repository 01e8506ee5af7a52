use mathlib.Core.Path.{refl, sym}
use lib.ListN.{length}
use Rattle.codes.specs.Codes.{step_in}
use Rattle.step.proofs.StepLaws.{step-one, step-two, uses-none, uses-one}
use Rattle.step.proofs.take_step.Goals as goal

pub one_list-requires-clause-uses : goal.one_list-requires-clause-uses
one_list-requires-clause-uses g c =
    let a = c.args in
    let e = rw c.in-Some-One.field-0-is at c.in-Some-One.ensures in
    uses-one (step_in a.step) a.args.pitch a.args.rows (length a.args.columns.values.now) _ _ e refl c.requires.fits.uses

pub returns-in-Some-One : goal.returns-in-Some-One
returns-in-Some-One g c =
    let e = rw c.in-Some-One.field-0-is at c.in-Some-One.ensures in
    rw (step-one (step_in c.args.step) _ _ _ _ (sym e)) c.one_list.ensures

pub returns-in-Some-Two : goal.returns-in-Some-Two
returns-in-Some-Two g c =
    let e = rw c.in-Some-Two.field-0-is at c.in-Some-Two.ensures in
    rw (step-two (step_in c.args.step) _ _ _ _ (sym e)) c.after_three.ensures

pub returns-in-None : goal.returns-in-None
returns-in-None g c =
    let a = c.args in
    absurd (uses-none (step_in a.step) a.args.pitch a.args.rows (length a.args.columns.values.now) _ c.in-None.ensures refl c.requires.fits.uses)
