use Rattle.std.proofs.Common.{◌+◌, ◌-◌, ◌≡◌, ◌∙◌, refl, ap, ℕ, ℤ, List, map, take, drop}
use Rattle.std.proofs.lemmas.List.{take-map, drop-map}
use Rattle.window.proofs.rows_of.Goals as goal

-- the numbers of a part of the offsets are that part of the numbers
numbers_cut : {A : Type 0} (number : A → ℤ) (numbers : List A → List ℤ) → ((l : List A) → numbers l ≡ map number l) → (k a : ℕ) (l : List A) → numbers (take k (drop a l)) ≡ take k (drop a (numbers l))
numbers_cut number numbers are k a l = rw (are (take k (drop a l)), are l, drop-map number a l, take-map number k (drop a l)) refl

pub returns : goal.returns
returns g c =
    let l = c.args.list in
    let k = c.args.b + 1 - c.args.a in
    let o = ap g.O.Offset.numbers c.offsets_of.ensures ∙ numbers_cut g.O.Offset.number g.O.Offset.numbers g.met.O.Offset.numbers_are k c.args.a l.offsets.now in
    rw (o, c.tail.ensures) refl
