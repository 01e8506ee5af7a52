use Rattle.bit_runs.proofs.TurnLaws.{turned_few}
use Rattle.bit_runs.proofs.few_turned.Goals as goal

pub returns : goal.returns
returns c =
    let t = turned_few c.args.m c.args.byte c.requires.m_bound c.requires.byte_bound c.reverse_bits.type_inv c.reverse_bits.ensures in
    record { m_value = t.0; upper_bound = t.1 }
