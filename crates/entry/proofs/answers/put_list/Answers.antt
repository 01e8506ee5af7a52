-- The refusal's number, or the slots that the answer counts, as bytes.
use mathlib.Core.Path.{sym}
use native.Mathlib.Omega.{arith}
use lib.Seq.{length-take-le}
use Rattle.entry.proofs.AnswerLaws.{sent_refused, sent_made, counted, counted-bytes}
use Rattle.entry.proofs.answers.put_list.Goals as goal

pub overflow_add-n : goal.overflow_add-n
overflow_add-n c = let k = counted c.in-Ok.is c.requires in omega (arith, k.0)

pub slice_bounds-encode-end : goal.slice_bounds-encode-end
slice_bounds-encode-end c = sym (length-take-le _ _ (counted c.in-Ok.is c.requires).0)

pub encode-requires : goal.encode-requires
encode-requires c =
    let k = counted c.in-Ok.is c.requires in
    rw (length-take-le _ _ k.0) (counted-bytes c.in-Ok.is c.requires).0

pub slice_bounds-encode-end-in-Ok : goal.slice_bounds-encode-end-in-Ok
slice_bounds-encode-end-in-Ok c = sym (length-take-le _ _ (counted c.in-Ok.is c.requires).1)

pub encode-requires-in-Ok : goal.encode-requires-in-Ok
encode-requires-in-Ok c =
    let k = counted c.in-Ok.is c.requires in
    rw (length-take-le _ _ k.1) (counted-bytes c.in-Ok.is c.requires).1

pub returns-in-Err : goal.returns-in-Err
returns-in-Err c = rw c.from.ensures (sent_refused _ c.in-Err.is)

pub returns-in-Ok : goal.returns-in-Ok
returns-in-Ok c = sent_made c.in-Ok.is c.encode.ensures c.encode-in-Ok.ensures c.put_counts.ensures
