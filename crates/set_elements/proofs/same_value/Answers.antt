use Rattle.set_elements.proofs.ElementLaws.{eq_bits}
use Rattle.set_elements.proofs.same_value.Goals as goal

pub returns : goal.returns
returns c = eq_bits c.args.a c.args.b c.ranges.a c.ranges.b
