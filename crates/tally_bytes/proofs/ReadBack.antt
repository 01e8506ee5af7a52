-- The tally that a call put into bytes is the one that the next call reads there.
use Prim.Native.Nat.{ℕ, zero, suc, ◌+◌, ◌*◌, ◌/◌, ◌%◌, ◌^◌, ◌≤◌, ◌<◌}
use mathlib.Core.Path.{◌≡◌, refl, ap, ◌∙◌}
use mathlib.Core.Bool.{Bool, true, false}
use mathlib.Core.List.{List, [], ◌∷◌, ◌++◌, append_assoc, flat_map}
use native.Mathlib.Nat.{pow-suc}
use native.Mathlib.Omega.{arith}
use borrow.Author.Tests.{ltb-true}
use lib.Dec.{ltb}
use lib.ListN.{length, get_or, drop, length-append, length-set}
use lib.Seq.{get_or-append-add}
use Rattle.model.specs.Basics.{pick, tab, All, none, more}
use Rattle.model.specs.Limits.{largest}
use Rattle.model.specs.Tally.{Sixteen, one_more, counted_at, Move, finished_at, refused_at, nobody, moved}
use Rattle.model.proofs.TabLaws.{length-tab, tab_ext}
use Rattle.wire.specs.Bytes.{number, little_endian, bytes_of_counts}
use Rattle.wire.proofs.Lengths.{length-little_endian, length-bytes_of_counts}
use Rattle.tally_bytes.specs.Bytes.{counts_from, tally_in, with_tally}

-- ---- a number that was spelled is read again

-- w stands before
past_front : (k : ℕ) (w s : List ℕ) (i : ℕ) → number k (w ++ s) (length w + i) ≡ number k s i
unfolding number
past_front zero w s i = refl
past_front (suc k) w s i =
    let e : length w + i + 1 ≡ length w + (i + 1) = omega arith in
    rw (get_or-append-add w s i 0, e, past_front k w s (i + 1))

spelled : (k n : ℕ) (s : List ℕ) → n < 256 ^ k → number k (little_endian k n ++ s) 0 ≡ n
unfolding number little_endian
spelled zero n s h = omega arith
spelled (suc k) n s h =
    let p : 256 ^ suc k ≡ 256 ^ k * 256 = pow-suc 256 k in
    let b = past_front k (n % 256 ∷ []) (little_endian k (n / 256) ++ s) 0 in
    let i = spelled k (n / 256) s (omega arith) in
    omega (arith, b, i)

-- a count that fits its eight bytes
abbrev Fits : ℕ → Type 0
Fits n = n ≤ largest

counts_back : (f w s : List ℕ) (at : ℕ) → length w ≡ at → All Fits f → tab (λ k. number 8 (w ++ (bytes_of_counts f ++ s)) (at + k * 8)) 0 (length f) ≡ f
unfolding bytes_of_counts flat_map tab
counts_back [] w s at l none = refl
counts_back (n ∷ f) w s at l (more h a) =
    let b = little_endian 8 n in
    let rest = bytes_of_counts f ++ s in
    let e : (b ++ bytes_of_counts f) ++ s ≡ b ++ rest = append_assoc b (bytes_of_counts f) s in
    let x = bytes_of_counts (n ∷ f) ++ s in
    let z : at + 0 * 8 ≡ length w + 0 = omega arith in
    let first : number 8 (w ++ x) (at + 0 * 8) ≡ n = ap (λ (r : List ℕ). number 8 (w ++ r) (at + 0 * 8)) e ∙ ap (number 8 (w ++ (b ++ rest))) z ∙ past_front 8 w (b ++ rest) 0 ∙ spelled 8 n rest (omega arith) in
    let m : length (w ++ b) ≡ at + 8 = omega (arith, length-append w b, length-little_endian 8 n) in
    rw (first, shifted w b rest x e at (length f), counts_back f (w ++ b) s (at + 8) m a)
  where
    shifted : (w b r x : List ℕ) → x ≡ b ++ r → (at n : ℕ) → tab (λ k. number 8 (w ++ x) (at + k * 8)) 1 n ≡ tab (λ k. number 8 ((w ++ b) ++ r) (at + 8 + k * 8)) 0 n
    shifted w b r x e at n = tab_ext (λ k. number 8 (w ++ x) (at + k * 8)) (λ k. number 8 ((w ++ b) ++ r) (at + 8 + k * 8)) 1 0 n (λ i _. let q : at + (1 + i) * 8 ≡ at + 8 + (0 + i) * 8 = omega arith in rw (e, append_assoc, q))

-- ---- the tally

-- the sixteen counts of each kind, in bytes and out of them
tally_back : (f r s : List ℕ) → length f ≡ 16 → length r ≡ 16 → All Fits f → All Fits r → tally_in (with_tally (record { finished = f; refused = r }) s) ≡ record { finished = f; refused = r }
unfolding tally_in counts_from
tally_back f r s lf lr af ar =
    let w = bytes_of_counts f in
    let v = bytes_of_counts r in
    let q = drop (length (w ++ v)) s in
    let l : length w ≡ 128 = omega (arith, length-bytes_of_counts f) in
    let x = rw lf at (counts_back f [] (v ++ q) 0 refl af) in
    let y = rw lr at (counts_back r w q 128 l ar) in
    rw (append_assoc, x, y)

-- ---- the counts in bytes fit, and a call's move keeps that

-- a byte, or the 0 past the end
byte_at : (s : List ℕ) (i : ℕ) → All (λ (b : ℕ). b < 256) s → get_or s i 0 < 256
byte_at [] i none = omega arith
byte_at (b ∷ s) zero (more h a) = h
byte_at (b ∷ s) (suc i) (more h a) = byte_at s i a

number_fits : (k : ℕ) (s : List ℕ) (at : ℕ) → All (λ (b : ℕ). b < 256) s → number k s at < 256 ^ k
unfolding number
number_fits zero s at a = omega arith
number_fits (suc k) s at a =
    let p : 256 ^ suc k ≡ 256 ^ k * 256 = pow-suc 256 k in
    let b = byte_at s at a in
    let i = number_fits k s (at + 1) a in
    omega (arith, b, i)

all_tab : (f : ℕ → ℕ) (a n : ℕ) → ((k : ℕ) → Fits (f k)) → All Fits (tab f a n)
unfolding tab
all_tab f a zero h = none
all_tab f a (suc n) h = more (h a) (all_tab f (suc a) n h)

counts-fit : (at : ℕ) (s : List ℕ) → All (λ (b : ℕ). b < 256) s → All Fits (counts_from at s)
unfolding counts_from
counts-fit at s a = all_tab _ 0 16 (λ k. let h = number_fits 8 s (at + k * 8) a in omega (arith, h))

one-fits : (n : ℕ) → Fits n → Fits (one_more n)
unfolding one_more
one-fits n h = go (ltb n largest) refl
  where
    go : (b : Bool) → ltb n largest ≡ b → Fits (pick b (n + 1) n)
    go true e = let l = ltb-true n largest e in omega (arith, l)
    go false e = h

counted-fits : (s : ℕ) (ns : List ℕ) → All Fits ns → All Fits (counted_at s ns)
unfolding counted_at
counted-fits s [] none = none
counted-fits zero (n ∷ ns) (more h a) = more (one-fits n h) a
counted-fits (suc s) (n ∷ ns) (more h a) = more h (counted-fits s ns a)

length_from : (at : ℕ) (s : List ℕ) → length (counts_from at s) ≡ 16
unfolding counts_from
length_from at s = length-tab _ 0 16

length-counted : (k at : ℕ) (s : List ℕ) → length (counted_at k (counts_from at s)) ≡ 16
unfolding counted_at
length-counted k at s = length-set (counts_from at s) k _ ∙ length_from at s

-- the bytes hold sixteen counts of each kind
pub sixteen_in : (s : List ℕ) → Sixteen (tally_in s)
unfolding tally_in
sixteen_in s = record { finished = length_from 0 s; refused = length_from 128 s }

-- s holds a tally, and a call moved it: what the next call reads in the bytes put is the tally moved
pub read_back : (m : Move) (s : List ℕ) → All (λ (b : ℕ). b < 256) s → tally_in (with_tally (moved m (tally_in s)) s) ≡ moved m (tally_in s)
unfolding moved tally_in
read_back (finished_at k) s a = tally_back _ _ s (length-counted k 0 s) (length_from 128 s) (counted-fits k _ (counts-fit 0 s a)) (counts-fit 128 s a)
read_back (refused_at k) s a = tally_back _ _ s (length_from 0 s) (length-counted k 128 s) (counts-fit 0 s a) (counted-fits k _ (counts-fit 128 s a))
read_back nobody s a = tally_back _ _ s (length_from 0 s) (length_from 128 s) (counts-fit 0 s a) (counts-fit 128 s a)
