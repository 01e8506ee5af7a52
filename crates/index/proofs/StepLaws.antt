-- Laws of counting by stepping.
use mathlib.Core.Path.{◌≡◌, sym, ap, ◌∙◌}
use Prim.Native.Nat.{ℕ, ◌+◌, ◌-◌, ◌*◌, ◌/◌, ◌%◌, ◌<◌, ◌≤◌}
use native.Mathlib.Omega.{arith}
use native.Mathlib.Nat.{div-eq-sub-div, mod-eq-sub-mod, mod-add-div', mul_assoc, mul_comm, add-mul-div_right}

-- one step over what is left
pub one_step : (n k : ℕ) → 0 < k → k ≤ n → ((n - k) / k + 1 ≡ n / k) × ((n - k) % k ≡ n % k)
one_step n k z h = (sym (div-eq-sub-div {m = k} {n = n} z h), sym (mod-eq-sub-mod h))

-- eight strides at once, then one by one over the rest
pub eights_counted : (n k : ℕ) → 0 < k → n / (k * 8) * 8 + n % (k * 8) / k ≡ n / k
eights_counted n k h =
    let q = n / (k * 8) in
    let t : q * 8 * k ≡ q * (k * 8) = mul_assoc q 8 k ∙ ap (λ (x : ℕ). q * x) (mul_comm 8 k) in
    let j : n % (k * 8) + q * 8 * k ≡ n = omega (arith, t, mod-add-div' n (k * 8)) in
    omega (arith, sym (add-mul-div_right (n % (k * 8)) (q * 8) {z = k} h) ∙ ap (λ (x : ℕ). x / k) j)
