-- The tally that a call put into a slice is the one that the next call reads there.
use Prim.Native.Nat.{ℕ, ◌+◌, ◌<◌}
use mathlib.Core.Path.{◌≡◌, refl, sym, ap, ◌∙◌}
use mathlib.Core.List.{List, [], ◌++◌, append_assoc}
use native.Mathlib.Omega.{arith}
use lib.ListN.{length, get_or, drop, length-append, length-set, get_or-append}
use lib.Seq.{get_or-append-add}
use Rattle.model.specs.Basics.{tab}
use Rattle.model.specs.Tally.{Sixteen, counted_at, Move, finished_at, refused_at, nobody, moved}
use Rattle.model.proofs.TabLaws.{length-tab, tab-get_or}
use Rattle.typed.specs.Tallies.{counts_at, tally_at, with_tally}

-- sixteen counts f behind w
counts_back : (w f q : List ℕ) (at : ℕ) → length w ≡ at → length f ≡ 16 → counts_at at (w ++ (f ++ q)) ≡ f
unfolding counts_at
counts_back w f q at l k =
    let g : ℕ → ℕ = λ i. get_or (w ++ (f ++ q)) (at + i) 0 in
    let each : (i : ℕ) → i < length f → g (0 + i) ≡ get_or f i 0 = λ i h.
    let e : at + (0 + i) ≡ length w + i = omega (arith, l) in
    ap (λ (j : ℕ). get_or (w ++ (f ++ q)) j 0) e ∙ get_or-append-add w (f ++ q) i 0 ∙ get_or-append f q 0 i h in
    ap (tab g 0) (sym k) ∙ tab-get_or g 0 f 0 each

tally_back : (f r s : List ℕ) → length f ≡ 16 → length r ≡ 16 → tally_at (with_tally (record { finished = f; refused = r }) s) ≡ record { finished = f; refused = r }
unfolding tally_at
tally_back f r s lf lr =
    let q = drop (length (f ++ r)) s in
    let x = counts_back [] f (r ++ q) 0 refl lf in
    let y = counts_back f r q 16 lf lr in
    rw (append_assoc, x, y)

length_at : (at : ℕ) (s : List ℕ) → length (counts_at at s) ≡ 16
unfolding counts_at
length_at at s = length-tab _ 0 16

length-counted : (k at : ℕ) (s : List ℕ) → length (counted_at k (counts_at at s)) ≡ 16
unfolding counted_at
length-counted k at s = length-set (counts_at at s) k _ ∙ length_at at s

-- a slice holds sixteen counts of each kind
pub sixteen_at : (s : List ℕ) → Sixteen (tally_at s)
unfolding tally_at
sixteen_at s = record { finished = length_at 0 s; refused = length_at 16 s }

-- s holds a tally, and a call moved it: what the next call reads in the slice is the tally moved
pub read_back : (m : Move) (s : List ℕ) → tally_at (with_tally (moved m (tally_at s)) s) ≡ moved m (tally_at s)
unfolding moved tally_at
read_back (finished_at k) s = tally_back _ _ s (length-counted k 0 s) (length_at 16 s)
read_back (refused_at k) s = tally_back _ _ s (length_at 0 s) (length-counted k 16 s)
read_back nobody s = tally_back _ _ s (length_at 0 s) (length_at 16 s)
