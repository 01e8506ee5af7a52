use Rattle.column.proofs.SameLaws.{wrote}
use Rattle.bitmap.specs.Reads.{bits_in}
use Rattle.std.proofs.Common.{refl, ◌+◌, ◌*◌, ℤ, List, reverse, ap, ◌∙◌, arith}
use Rattle.stores.proofs.StoreLaws.{length_back}
use Rattle.model.specs.Basics.{tab}
use Rattle.model.specs.Bitmap.{from, bit_at}
use Rattle.model.specs.Column.{elem_at}
use Rattle.null_slots.specs.Nulled.{nulled}
use Rattle.null_slots.proofs.NulledLaws.{nullable_back_written}
use Rattle.nullable_runs.proofs.SpanLaws.{covered}
use Rattle.nullable_runs.proofs.write_backward.Goals as goal

pub copy_backward-requires-clause-n_in_bounds_2 : goal.copy_backward-requires-clause-n_in_bounds_2
copy_backward-requires-clause-n_in_bounds_2 c = omega (arith, c.requires.room.values, length_back (elem_at c.args.elements.values.now (bits_in c.args.elements.bits)) c.args.a c.args.n)

pub put_nulls_back-requires-clause-n_in_bounds : goal.put_nulls_back-requires-clause-n_in_bounds
put_nulls_back-requires-clause-n_in_bounds c = let a = c.args in covered a.elements.bits.bytes.now a.elements.bits.start _ a.a a.n _ _ c.requires.column.bits c.requires.bits c.requires.column.inside (omega arith)

pub put_nulls_back-requires-clause-n_in_bounds_2 : goal.put_nulls_back-requires-clause-n_in_bounds_2
put_nulls_back-requires-clause-n_in_bounds_2 c = omega (arith, c.requires.room.values, length_back (elem_at c.args.elements.values.now (bits_in c.args.elements.bits)) c.args.a c.args.n, c.copy_backward.auto.out)

pub push_turned-requires-clause-n_in_bounds : goal.push_turned-requires-clause-n_in_bounds
push_turned-requires-clause-n_in_bounds c = let a = c.args in covered a.elements.bits.bytes.now a.elements.bits.start _ a.a a.n _ _ c.requires.column.bits c.requires.bits c.requires.column.inside (omega arith)

pub push_turned-requires-clause-n_in_bounds_2 : goal.push_turned-requires-clause-n_in_bounds_2
push_turned-requires-clause-n_in_bounds_2 c = omega (arith, c.requires.room.elements, length_back (elem_at c.args.elements.values.now (bits_in c.args.elements.bits)) c.args.a c.args.n)

pub returns : goal.returns
returns c =
    let a = c.args in
    wrote
    (nullable_back_written a.elements.values.now a.elements.bits.bytes.now a.elements.bits.start c.byte_from-byte.result c.start_from-first.result a.a (λ z. omega arith) (omega arith) a.n a.at
    (c.put_nulls_back.ensures ∙ ap (λ (r : List ℤ). nulled r a.at (reverse (tab (bit_at a.elements.bits.bytes.now) (8 * c.byte_from-byte.result + c.start_from-first.result) a.n))) c.copy_backward.ensures)
    c.push_turned.ensures) refl refl
