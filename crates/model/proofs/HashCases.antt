-- The operations with a work area by examples, one theorem over a table: calls with a work area of so many slots, and the number of their refusal, or 0.
use Prim.Native.Nat.{ℕ}
use mathlib.Core.Path.{◌≡◌, refl}
use mathlib.Core.Bool.{true}
use mathlib.Core.List.{List, [], ◌∷◌, map}
use Rattle.model.specs.Basics.{tab, any}
use Rattle.model.specs.Limits.{Limits, narrow}
use lib.IntN.{pos}
use Rattle.model.specs.Bitmap.{from, valid_at, short_bits}
use Rattle.model.specs.Column.{Column, column, count, elem_at, row_at, rows_of, falls, bad_offsets, refusal13, refusal2}
use Rattle.model.specs.Form.{Room, elems_of, flat}
use Rattle.model.specs.Elements.{eq_z, same_elem, is_in, firsts, unary_elems, common, set_elems}
use Rattle.model.specs.Rows.{on_row, on_rows, made_of, at_row, rows_in, row_by_row, row_made, rows_made}
use Rattle.model.specs.Refusals.{unequal, first_of, refusal_of, union_refusal, sums_refusal, rows_refusal}
use Rattle.model.specs.Outcome.{Outcome, refused, made, gate, columns_refusal, fitted, after_three}
use Rattle.model.specs.Hash.{Hashed, distinct_of, set_of, plain_of, on_hashed, lists_hashed, longest, pair_length, longest_in, short_area, hashed_shown, hashed_outcome}
use Rattle.model.specs.declared.SetOp.TheVariants.{Union, Intersect}
use Rattle.model.proofs.Cases.{lists, row}

pub record HashCase : Type 0 where
  pub call : Hashed Column
  pub slots : ℕ
  pub refusal : ℕ

abbrev gives : Hashed Column → ℕ → ℕ → HashCase
gives h n k = record { call = h; slots = n; refusal = k }

-- null over three values, then [4]
abbrev null_then_one : Column
null_then_one = lists (0 ∷ 3 ∷ 4 ∷ []) (2 ∷ []) (7 ∷ 7 ∷ 7 ∷ 4 ∷ []) []

-- [1,2], [1,2,3,4], and beside it [3], null over two values
abbrev longer : Column
longer = lists (0 ∷ 2 ∷ 6 ∷ []) [] (1 ∷ 2 ∷ 1 ∷ 2 ∷ 3 ∷ 4 ∷ []) []

abbrev beside : Column
beside = lists (0 ∷ 1 ∷ 3 ∷ []) (1 ∷ []) (3 ∷ 8 ∷ 8 ∷ []) []

-- null over a value, and []
abbrev empties : Column
empties = lists (0 ∷ 1 ∷ 1 ∷ []) (2 ∷ []) (9 ∷ []) []

pub table : List HashCase
table =
    -- exactly twice is enough, one less is not; the values of a null row do not count
    gives (distinct_of null_then_one) 2 0
    ∷ gives (distinct_of null_then_one) 1 14
    -- the longest pair of rows valid on both sides: 2 and 1
    ∷ gives (set_of Union longer beside) 6 0
    ∷ gives (set_of Union longer beside) 5 14
    ∷ gives (set_of Intersect longer beside) 6 0
    ∷ gives (set_of Intersect longer beside) 5 14
    -- distinct of [1,2], [1,2,3,4] by itself: 8
    ∷ gives (distinct_of longer) 8 0
    ∷ gives (distinct_of longer) 7 14
    -- no valid row, or only empty ones
    ∷ gives (distinct_of empties) 0 0
    ∷ gives (set_of Union empties empties) 0 0
    -- 3, 2, 1 and 13 before 14
    ∷ gives (set_of Union longer (row 1 (3 ∷ []) [])) 0 3
    ∷ gives (distinct_of (lists (0 ∷ 1 ∷ []) [] (1 ∷ 1 ∷ 1 ∷ 1 ∷ 1 ∷ 1 ∷ 1 ∷ 1 ∷ 1 ∷ []) (255 ∷ []))) 0 2
    ∷ gives (distinct_of (lists (1 ∷ 0 ∷ []) [] (1 ∷ []) [])) 0 1
    ∷ gives (distinct_of (column (pos 0 ∷ pos 1 ∷ []) (from 9 []) (pos 1 ∷ []) (from 0 []))) 0 13
    ∷ []

-- the number of a refusal, or 0
unfoldable pub number_of : {A : Type 0} → Outcome A → ℕ
number_of (refused k) = k
number_of (made a) = 0

abbrev room : Room
room = record { offsets = 9; rows = 9; values = 9; elements = 9 }

pub hashes : map (λ (x : HashCase). number_of (hashed_outcome narrow x.call x.slots room)) table ≡ map (λ (x : HashCase). x.refusal) table
unfolding table number_of
    hashed_outcome hashed_shown plain_of on_hashed lists_hashed longest pair_length longest_in short_area gate columns_refusal fitted after_three
    tab any valid_at short_bits count elem_at row_at rows_of falls bad_offsets refusal13 refusal2 elems_of flat
    eq_z same_elem is_in firsts unary_elems common set_elems on_row on_rows made_of at_row rows_in row_by_row row_made rows_made
    unequal first_of refusal_of union_refusal sums_refusal rows_refusal
hashes = refl

-- 14 before 8 and 9: of a width whose unions have at most one element, and with nothing lent
abbrev tiny : Limits
tiny = record { offset = 9; every = true; resized = 1; united = 1; outer = 1; repeated = 1 }

abbrev nothing : Room
nothing = record { offsets = 0; rows = 0; values = 0; elements = 0 }

pub fourteen_before_eight : (hashed_outcome tiny (set_of Union longer beside) 5 nothing ≡ refused 14) × (hashed_outcome tiny (set_of Union longer beside) 6 nothing ≡ refused 8)
unfolding hashed_outcome hashed_shown plain_of on_hashed lists_hashed longest pair_length longest_in short_area gate columns_refusal fitted after_three
    tab any valid_at short_bits count elem_at row_at rows_of falls bad_offsets refusal13 refusal2 elems_of flat
    eq_z same_elem is_in firsts unary_elems common set_elems on_row on_rows made_of at_row rows_in row_by_row row_made rows_made
    unequal first_of refusal_of union_refusal sums_refusal rows_refusal
fourteen_before_eight = (refl, refl)
