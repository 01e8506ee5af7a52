-- Laws of the tally in bytes.
use mathlib.Core.Path.{◌≡◌, sym, ap, ◌∙◌}
use mathlib.Core.List.{List, [], ◌++◌, append_assoc, append-nil}
use native.Mathlib.Omega.{arith}
use Prim.Native.Nat.{ℕ, ◌+◌, ◌*◌, ◌/◌, ◌-◌, ◌≤◌}
use native.Mathlib.Nat.{add_assoc}
use Rattle.std.proofs.lemmas.List.{get_or-take, get_or-drop}
use Rattle.model.proofs.TabLaws.{tab_ext}
use Rattle.wire.specs.Bytes.{number, nat, nats}
use Rattle.wire.specs.Laws.{number_same}
use lib.ListN.{length, take, drop, length-append, length-drop}
use lib.Seq.{take_at, take_all, length-take-le, drop_at, drop-drop, drop-length}
use borrow.Rule.Slice.PartMut.{put_mid, Post-is}
use Rattle.model.specs.Column.{Row}
use Rattle.model.specs.Form.{over}
use Rattle.model.specs.Outcome.{Outcome}
use Rattle.model.specs.Tally.{Tally, tallied}
use Rattle.tally_bytes.specs.Bytes.{counts_from, tally_in, with_tally, tallied_in}

-- the counts in the part of 128 bytes from `at` on
pub counts_cut : (s : List ℕ) (at n : ℕ) → n ≡ 128 → at + 128 ≤ length s → nats 8 (take n (drop at s)) ≡ counts_from at s
unfolding nats nat counts_from
counts_cut s at n e h =
    let t : List ℕ = take 128 (drop at s) in
    let m : length t ≡ 128 = length-take-le 128 (drop at s) (omega (arith, length-drop at s)) in
    let k : length t / 8 ≡ 16 = omega arith in
    rw (e, k)
    (tab_ext (λ i. number 8 t (i * 8)) (λ i. number 8 s (at + i * 8)) 0 0 16
    (λ i l. number_same 8 t s ((0 + i) * 8) (at + (0 + i) * 8) (λ j b. rw (get_or-take 128 (drop at s) ((0 + i) * 8 + j) 0 (omega arith), get_or-drop at s ((0 + i) * 8 + j) 0, add_assoc))))

-- d is the slice after w was written, p its part from byte n on after v was written there
pub behind : (w v s d p : List ℕ) (n : ℕ) → length w ≡ n → n ≤ length d → d ≡ over w s → p ≡ over v (take (length d - n) (drop n d)) → put_mid n (length d - n) d p ≡ over (w ++ v) s
behind w v s d p n l b e g =
    let front : take n d ≡ w = ap (take n) e ∙ take_at w (drop (length w) s) n l in
    let all : take (length d - n) (drop n d) ≡ drop n d = take_all (length d - n) (drop n d) (omega (arith, length-drop n d)) in
    let rest : drop n d ≡ drop (length w) s = ap (drop n) e ∙ drop_at w (drop (length w) s) n l in
    let past : drop (length d - n) (drop n d) ≡ [] = Post-is n (length d) d b ∙ drop-length d in
    rw (front, past, g, all, rest, append-nil, append_assoc, length-append, drop-drop)

-- t is the tally that was read, u the one that was put
pub tally_put : (k : ℕ) {x y : Outcome (List Row)} {t u : Tally} (s : List ℕ) {s' : List ℕ} → s' ≡ with_tally u s → u ≡ tallied k x t → t ≡ tally_in s → y ≡ x → s' ≡ tallied_in k y s
tally_put k {x = x} s put one read h = put ∙ ap (λ w. with_tally w s) (one ∙ ap (tallied k x) read ∙ ap (λ z. tallied k z (tally_in s)) (sym h))
