-- What the width of the offsets decides, 32 or 64 signed bits. Definitions take it as a parameter.
use Rattle.std.specs.Prelude.{ℕ, ◌≤◌, true, false, ℤ}
use Rattle.std.specs.Int.Signed.{mag}
use Rattle.model.specs.declared.offsets.Limits as D

-- the fields stand beside the type: the largest offset, whether every index and stride fits, and the 8s of resize, union and list-repeat
abbrev pub Limits : Type 0
Limits = D.Limits

-- "List" with 32-bit offsets
abbrev pub narrow : Limits
narrow = record { offset = 2147483647; every = false; resized = 2147483647; united = 2147483647; outer = 2147483647; repeated = 2147483647 }

-- "LargeList, with signed 64-bit offsets .. There 4 and 6 never occur. The 2147483647 limits become 1152921504606846975 for
-- resize and for repeated values, 1152921504606846974 for outer lists and 9223372036854775807 for union."
abbrev pub wide : Limits
wide = record { offset = 9223372036854775807; every = true; resized = 1152921504606846975; united = 9223372036854775807; outer = 1152921504606846974; repeated = 1152921504606846975 }

-- 18446744073709551615, which resize's running sum and a tally's counts do not pass
abbrev pub largest : ℕ
largest = 18446744073709551615

-- an offset is below 2 ^ 63 at either width, and so are the limits
pub record LimitsFit (L : Limits) : Type 0 where
  pub offset : L.offset ≤ 9223372036854775807
  pub resized : L.resized ≤ L.offset
  pub united : L.united ≤ L.offset
  pub outer : L.outer ≤ L.offset
  pub repeated : L.repeated ≤ L.offset

-- a number that an offset may be, from the smallest on: `mag` of −(n+1) is n
abbrev pub InRange : Limits → ℤ → Type 0
InRange L z = mag z ≤ L.offset
