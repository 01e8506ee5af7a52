use Rattle.codes.proofs.CheckLaws.{wrong_first, wrong_second, wrong_third}
use Rattle.codes.proofs.check.is_wrong_step.Goals as goal

pub returns-then-is_wrong_number : goal.returns-then-is_wrong_number
returns-then-is_wrong_number c = wrong_first _ _ _ _ c.in-Some.ensures c.columns_of-k.ensures _ c.is_wrong_number.ensures c.if-is_wrong_number.true

pub returns-then-is_wrong_number-2 : goal.returns-then-is_wrong_number-2
returns-then-is_wrong_number-2 c = wrong_second _ _ _ _ c.in-Some.ensures c.columns_of-k.ensures _ _ c.is_wrong_number.ensures c.if-is_wrong_number.false c.is_wrong_number-2.ensures c.if-is_wrong_number-2.true

pub returns : goal.returns
returns c = wrong_third _ _ _ _ c.in-Some.ensures c.columns_of-k.ensures _ _ _ c.is_wrong_number.ensures c.if-is_wrong_number.false c.is_wrong_number-2.ensures c.if-is_wrong_number-2.false c.is_wrong_number-3.ensures
