-- Laws of list-repeat's counts and sums.
use mathlib.Core.Path.{◌≡◌, refl}
use mathlib.Core.Bool.{Bool, true, false, ◌||◌}
use Prim.Native.Nat.{ℕ, ◌+◌, ◌-◌, ◌*◌, ◌≤◌, ◌<◌}
use native.Mathlib.Omega.{arith}
use borrow.Author.Tests.{lt-ltb, le-ltb}
use lib.Dec.{ltb}
use lib.IntN.{pos}
use lib.ListN.{get_or}
use Rattle.model.specs.Basics.{tab}
use Rattle.model.specs.Bitmap.{valid_at}
use Rattle.model.specs.Column.{Column, Arguments, count, elem_at, offset_at}
use Rattle.model.specs.Limits.{Limits}
use Rattle.model.specs.Refusals.{times_of, total}
use Rattle.model.proofs.TabLaws.{tab-step, tab-none}
use Rattle.column.specs.Rows.{len_from}
use Rattle.column.proofs.WalkLaws.{between}
use Rattle.repeat_sums.specs.Counts.{Begun, Countable, times_at, repeated_at, sums}
use Rattle.model.specs.declared.Refusal.TheVariants.{TooMany}
use Rattle.std.specs.Prelude.{Ok, Err}

-- ---- what can be read can be counted

pub countable : (c : Column) (a : Arguments) → Begun c a → Countable c a
countable c a b = record {
  rising = record { step = λ r h. (between c _ r _ _ b.list refl h refl refl).rises };
  rows = b.list.rows;
  bits = b.bits;
  equal = b.equal;
}

-- ---- one count

pub times_null : (a : Arguments) (r : ℕ) → valid_at a.bits r ≡ false → 0 ≡ times_at a r
unfolding times_at times_of elem_at
times_null a r e = rw e

pub times_valid : (a : Arguments) (r : ℕ) → valid_at a.bits r ≡ true → count (get_or a.values r (pos 0)) ≡ times_at a r
unfolding times_at times_of elem_at
times_valid a r e = rw e

-- ---- the sums

total-step : (f : ℕ → ℕ) (r left : ℕ) → 0 < left → total (tab f r left) ≡ f r + total (tab f (r + 1) (left - 1))
unfolding total
total-step f r left h = rw (tab-step f r left h)

total-none : (f : ℕ → ℕ) (r left : ℕ) → left ≤ 0 → total (tab f r left) ≡ 0
unfolding total
total-none f r left h = rw (tab-none f r left h)

or_right : (a : Bool) → a || true ≡ true
or_right true = refl
or_right false = refl

module _ (L : Limits) where
  lists-over : (t v : ℕ) → L.outer < t → Err TooMany ≡ sums L t v
  unfolding sums
  lists-over t v h = rw (lt-ltb L.outer t h)

  values-over : (t v : ℕ) → L.repeated < v → Err TooMany ≡ sums L t v
  unfolding sums
  values-over t v h = rw (lt-ltb L.repeated v h, or_right (ltb L.outer t))

  both_fit : (t v x y : ℕ) → x ≡ t → y ≡ v → x ≤ L.outer → y ≤ L.repeated → Ok (record { lists = x; values = y }) ≡ sums L t v
  unfolding sums
  both_fit t v x y e f h k = rw (← e, ← f, le-ltb L.outer x h, le-ltb L.repeated y k)

-- both sums so far, those of the rows from r on being left
pub record Summing (L : Limits) (T R : ℕ → ℕ) (n lists values r left : ℕ) : Type 0 where
  pub times : lists + total (tab T r left) ≡ total (tab T 0 n)
  pub repeated : values + total (tab R r left) ≡ total (tab R 0 n)
  pub rows : r + left ≡ n
  pub few : lists ≤ L.outer
  pub small : values ≤ L.repeated

module _ (L : Limits) (T R : ℕ → ℕ) (n : ℕ) where
  pub sums_begun : Summing L T R n 0 0 0 n
  sums_begun = record { times = omega arith; repeated = omega arith; rows = omega arith; few = omega arith; small = omega arith }

  module _ {lists values r left : ℕ} (s : Summing L T R n lists values r left) where
    pub sums_done : left ≤ 0 → Ok (record { lists = lists; values = values }) ≡ sums L (total (tab T 0 n)) (total (tab R 0 n))
    sums_done h = both_fit L _ _ lists values (omega (arith, s.times, total-none T r left h)) (omega (arith, s.repeated, total-none R r left h)) s.few s.small

    module _ (t : ℕ) (h : 0 < left) (e : t ≡ T r) where
      pub sums-many : L.outer - lists < t → Err TooMany ≡ sums L (total (tab T 0 n)) (total (tab R 0 n))
      sums-many k = lists-over L _ _ (omega (arith, s.times, total-step T r left h))

      module _ (v : ℕ) (f : v ≡ R r) where
        pub sums_large : L.repeated - values < v → Err TooMany ≡ sums L (total (tab T 0 n)) (total (tab R 0 n))
        sums_large k = values-over L _ _ (omega (arith, s.repeated, total-step R r left h))

        pub sums-more : t ≤ L.outer - lists → v ≤ L.repeated - values → Summing L T R n (lists + t) (values + v) (r + 1) (left - 1)
        sums-more k l = record {
          times = omega (arith, s.times, total-step T r left h);
          repeated = omega (arith, s.repeated, total-step R r left h);
          rows = omega (arith, s.rows);
          few = omega (arith, s.few);
          small = omega (arith, s.small);
        }

-- what a row repeats, by the count and the length read
pub repeated_is : (c : Column) (a : Arguments) (r t l p q : ℕ) → t ≡ times_at a r → l ≡ len_from c.rows r p q → p ≡ offset_at c.offsets r → q ≡ offset_at c.offsets (r + 1) → t * l ≡ repeated_at c a r
unfolding repeated_at
repeated_is c a r t l p q et el ep eq = rw (et, el, ep, eq)
