-- Laws of what replace and remove make of a row, step by step, and of how long it is.
use mathlib.Core.Bool.{Bool, true, false, ◌&&◌}
use mathlib.Core.List.{List, [], ◌∷◌, ◌++◌, append-nil}
use mathlib.Core.Path.{◌≡◌, refl, ap, ◌∙◌}
use Prim.Native.Nat.{ℕ, zero, suc, ◌+◌, ◌-◌, ◌≤◌, ◌<◌}
use native.Mathlib.Omega.{arith}
use borrow.Author.Tests.{lt-ltb}
use lib.Dec.{ltb}
use lib.ListN.{length}
use Rattle.model.proofs.TabLaws.{tab-step, tab-none}
use Rattle.model.specs.Basics.{pick, tab}
use Rattle.model.specs.Column.{Elem}
use Rattle.model.specs.Elements.{same_elem, replaced, removed}
use Rattle.rows.specs.Found.{Before}

-- ---- replace

module _ (f t : Elem) where
  replaced-zero : (es : List Elem) → replaced 0 f t es ≡ es
  unfolding replaced
  replaced-zero [] = refl
  replaced-zero (e ∷ es) = rw (replaced-zero es)

  -- no limit is left
  pub replaced_spent : (m k : ℕ) (es : List Elem) → m ≤ k → replaced (m - k) f t es ≡ es
  replaced_spent m k es h = let z : m - k ≡ 0 = omega arith in rw z (replaced-zero es)

  pub length-replaced : (m : ℕ) (es : List Elem) → length (replaced m f t es) ≡ length es
  unfolding replaced
  length-replaced m [] = refl
  length-replaced m (e ∷ es) = one (ltb 0 m && same_elem e f) (length-replaced (m - 1) es) (length-replaced m es)
    where
      one : (b : Bool) → length (replaced (m - 1) f t es) ≡ length es → length (replaced m f t es) ≡ length es → length (pick b (t ∷ replaced (m - 1) f t es) (e ∷ replaced m f t es)) ≡ suc (length es)
      one true h l = ap suc h
      one false h l = ap suc l

  module _ (E : ℕ → Elem) (m p n : ℕ) where
    replaced-none : n ≤ 0 → replaced m f t (tab E p n) ≡ []
    unfolding replaced
    replaced-none h = rw (tab-none E p n h)

    module _ (h : 0 < n) where
      replaced_hit : 0 < m → same_elem (E p) f ≡ true → replaced m f t (tab E p n) ≡ t ∷ replaced (m - 1) f t (tab E (p + 1) (n - 1))
      unfolding replaced
      replaced_hit l e = rw (tab-step E p n h, lt-ltb 0 m l, e)

      replaced-kept : 0 < m → same_elem (E p) f ≡ false → replaced m f t (tab E p n) ≡ E p ∷ replaced m f t (tab E (p + 1) (n - 1))
      unfolding replaced
      replaced-kept l e = rw (tab-step E p n h, lt-ltb 0 m l, e)

  module _ (E : ℕ → Elem) (m : ℕ) (l : 0 < m) where
    -- a run without a match comes first
    replaced_run : (p n r : ℕ) → r ≤ n → ((i : ℕ) → i < r → same_elem (E (p + i)) f ≡ false) → replaced m f t (tab E p n) ≡ tab E p r ++ replaced m f t (tab E (p + r) (n - r))
    unfolding tab
    replaced_run p n zero h e = let a : p + 0 ≡ p = omega arith in let b : n - 0 ≡ n = omega arith in rw (a, b)
    replaced_run p n (suc r) h e =
        let a : p + suc r ≡ suc p + r = omega arith in
        let b : n - suc r ≡ n - 1 - r = omega arith in
        let z : p + 0 ≡ p = omega arith in
        let s : p + 1 ≡ suc p = omega arith in
        rw (replaced-kept E m p n (omega arith) l (rw z at (e 0 (omega arith))), a, b, s)
        (ap (λ (x : List Elem). E p ∷ x) (replaced_run (suc p) (n - 1) r (omega arith) (λ i k. let q : suc p + i ≡ p + suc i = omega arith in rw q (e (suc i) (omega arith)))))

  -- k of the limit are spent
  module _ (E : ℕ → Elem) (m k : ℕ) (l : k < m) (p n r : ℕ) (b : Before (λ i. same_elem (E (p + i)) f) n r) where
    -- those before the first match come first
    pub replaced_before : replaced (m - k) f t (tab E p n) ≡ tab E p r ++ replaced (m - k) f t (tab E (p + r) (n - r))
    replaced_before = replaced_run E (m - k) (omega arith) p n r b.inside b.none

    pub replaced_all : r ≡ n → replaced (m - k) f t (tab E p n) ≡ tab E p r
    replaced_all h = replaced_before ∙ rw (replaced-none E (m - k) (p + r) (n - r) (omega arith)) (append-nil (tab E p r))

    pub replaced-next : (r ≡ n → ⊥) → replaced (m - k) f t (tab E p n) ≡ tab E p r ++ (t ∷ replaced (m - (k + 1)) f t (tab E (p + (r + 1)) (n - (r + 1))))
    replaced-next h =
        let i = b.inside in
        let q : r < n = omega arith in
        let x : p + r + 1 ≡ p + (r + 1) = omega arith in
        let y : n - r - 1 ≡ n - (r + 1) = omega arith in
        let z : m - k - 1 ≡ m - (k + 1) = omega arith in
        replaced_before ∙ rw (replaced_hit E (m - k) (p + r) (n - r) (omega arith) (omega arith) (b.found q), x, y, z)

-- ---- remove

module _ (f : Elem) where
  removed-zero : (es : List Elem) → removed 0 f es ≡ es
  unfolding removed
  removed-zero [] = refl
  removed-zero (e ∷ es) = rw (removed-zero es)

  -- no limit is left
  pub removed_spent : (m k : ℕ) (es : List Elem) → m ≤ k → removed (m - k) f es ≡ es
  removed_spent m k es h = let z : m - k ≡ 0 = omega arith in rw z (removed-zero es)

  pub length_removed : (m : ℕ) (es : List Elem) → length (removed m f es) ≤ length es
  unfolding removed
  length_removed m [] = omega arith
  length_removed m (e ∷ es) = one (ltb 0 m && same_elem e f) (length_removed (m - 1) es) (length_removed m es)
    where
      one : (b : Bool) → length (removed (m - 1) f es) ≤ length es → length (removed m f es) ≤ length es → length (pick b (removed (m - 1) f es) (e ∷ removed m f es)) ≤ suc (length es)
      one true h l = omega arith
      one false h l = omega arith

  module _ (E : ℕ → Elem) (m p n : ℕ) where
    removed-none : n ≤ 0 → removed m f (tab E p n) ≡ []
    unfolding removed
    removed-none h = rw (tab-none E p n h)

    module _ (h : 0 < n) where
      removed_hit : 0 < m → same_elem (E p) f ≡ true → removed m f (tab E p n) ≡ removed (m - 1) f (tab E (p + 1) (n - 1))
      unfolding removed
      removed_hit l e = rw (tab-step E p n h, lt-ltb 0 m l, e)

      removed-kept : 0 < m → same_elem (E p) f ≡ false → removed m f (tab E p n) ≡ E p ∷ removed m f (tab E (p + 1) (n - 1))
      unfolding removed
      removed-kept l e = rw (tab-step E p n h, lt-ltb 0 m l, e)

  module _ (E : ℕ → Elem) (m : ℕ) (l : 0 < m) where
    -- a run without a match comes first
    removed_run : (p n r : ℕ) → r ≤ n → ((i : ℕ) → i < r → same_elem (E (p + i)) f ≡ false) → removed m f (tab E p n) ≡ tab E p r ++ removed m f (tab E (p + r) (n - r))
    unfolding tab
    removed_run p n zero h e = let a : p + 0 ≡ p = omega arith in let b : n - 0 ≡ n = omega arith in rw (a, b)
    removed_run p n (suc r) h e =
        let a : p + suc r ≡ suc p + r = omega arith in
        let b : n - suc r ≡ n - 1 - r = omega arith in
        let z : p + 0 ≡ p = omega arith in
        let s : p + 1 ≡ suc p = omega arith in
        rw (removed-kept E m p n (omega arith) l (rw z at (e 0 (omega arith))), a, b, s)
        (ap (λ (x : List Elem). E p ∷ x) (removed_run (suc p) (n - 1) r (omega arith) (λ i k. let q : suc p + i ≡ p + suc i = omega arith in rw q (e (suc i) (omega arith)))))

  -- k of the limit are spent
  module _ (E : ℕ → Elem) (m k : ℕ) (l : k < m) (p n r : ℕ) (b : Before (λ i. same_elem (E (p + i)) f) n r) where
    -- those before the first match come first
    pub removed_before : removed (m - k) f (tab E p n) ≡ tab E p r ++ removed (m - k) f (tab E (p + r) (n - r))
    removed_before = removed_run E (m - k) (omega arith) p n r b.inside b.none

    pub removed_all : r ≡ n → removed (m - k) f (tab E p n) ≡ tab E p r
    removed_all h = removed_before ∙ rw (removed-none E (m - k) (p + r) (n - r) (omega arith)) (append-nil (tab E p r))

    pub removed-next : (r ≡ n → ⊥) → removed (m - k) f (tab E p n) ≡ tab E p r ++ removed (m - (k + 1)) f (tab E (p + (r + 1)) (n - (r + 1)))
    removed-next h =
        let i = b.inside in
        let q : r < n = omega arith in
        let x : p + r + 1 ≡ p + (r + 1) = omega arith in
        let y : n - r - 1 ≡ n - (r + 1) = omega arith in
        let z : m - k - 1 ≡ m - (k + 1) = omega arith in
        removed_before ∙ rw (removed_hit E (m - k) (p + r) (n - r) (omega arith) (omega arith) (b.found q), x, y, z)
