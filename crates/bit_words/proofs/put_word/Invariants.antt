use Rattle.std.proofs.Common.{◌+◌, drop}
use Rattle.runs.proofs.SameLaws.{Storing}
use Rattle.bit_words.proofs.put_word.Given as goal

abbrev pub invariant-loop-i : goal.invariant-loop-i
invariant-loop-i l = Storing l.bytes l.k l.initial.out (drop l.i l.bytes) (l.k + l.i) l.out
