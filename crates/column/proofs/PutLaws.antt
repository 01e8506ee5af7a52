-- Laws of the writing walk.
use mathlib.Core.Path.{◌≡◌, refl, ◌∙◌}
use mathlib.Core.List.{List, [], ◌∷◌, ◌++◌, map, map-append, append_assoc, append-nil, reverse, reverse-append}
use Prim.Native.Nat.{ℕ, zero, suc, ◌+◌, ◌-◌, ◌≤◌, ◌<◌}
use native.Mathlib.Omega.{arith}
use native.Mathlib.Numerals.{add-one}
use lib.IntN.{ℤ, pos}
use lib.ListN.{length, get_or, set, drop, length-append}
use lib.Seq.{sets, set_at, drop-cons}
use Rattle.model.specs.Bitmap.{pack, pack_n}
use Rattle.bitmap.specs.Push.{push_bit, push_bits}
use Rattle.model.specs.Column.{Elem, Row}
use Rattle.model.specs.Basics.{tab}
use Rattle.model.specs.Form.{is_val, value_of, is_row, elems_of, flat, length_of, offsets_from, over, form_offsets, form_rows, form_values, form_elements}
use Rattle.column.specs.Put.{Outs, outs, put_row, put_rows, put_values, put_elements, RoomInˡ}
use Rattle.model.proofs.TabLaws.{tab-last, tab-none, length-map}
use Rattle.model.proofs.FormLaws.{length-offsets}
use Rattle.bitmap.proofs.BitLaws.{push_pack, pushes_pack}
use Rattle.column.proofs.RowLaws.{flat_append}

pub rev_step : {A : Type 0} (f : ℕ → A) (a n : ℕ) → 0 < n → reverse (tab f a n) ≡ f (a + (n - 1)) ∷ reverse (tab f a (n - 1))
rev_step f a zero h = let z : ⊥ = omega arith in absurd z
rev_step f a (suc n) h =
    let e : suc n - 1 ≡ n = omega arith in
    rw (e, tab-last, reverse-append)

pub rev_none : {A : Type 0} (f : ℕ → A) (a n : ℕ) → n ≤ 0 → reverse (tab f a n) ≡ []
rev_none f a n h = rw (tab-none f a n h)

-- ---- written over the beginning

pub set-over : {A : Type 0} (w d : List A) (x : A) → length w < length d → set (over w d) (length w) x ≡ over (w ++ (x ∷ [])) d
set-over w d x h =
    let e : length (w ++ (x ∷ [])) ≡ suc (length w) = omega (arith, length-append w (x ∷ [])) in
    rw (e, drop-cons d (length w) x h, set_at w (get_or d (length w) x) (drop (suc (length w)) d) x (length w) refl, append_assoc)

pub sets_over : {A : Type 0} (w vs d : List A) → length w + length vs ≤ length d → sets (over w d) (length w) vs ≡ over (w ++ vs) d
sets_over w [] d h = rw append-nil
sets_over w (v ∷ vs) d h =
    let e : suc (length w) ≡ length (w ++ (v ∷ [])) = omega (arith, length-append w (v ∷ [])) in
    rw (set-over w d v (omega arith), e)
    (sets_over (w ++ (v ∷ [])) vs d (omega (arith, length-append w (v ∷ []))) ∙ rw (append_assoc w (v ∷ []) vs))

-- ---- a turn of a loop that writes one element: e is the next of those that are left

module _ (es es' : List Elem) (e : Elem) (k : ℕ) (next : es ≡ e ∷ es') where
  pub values-more : (d d' G : List ℤ) → d' ≡ set d k (value_of e) → put_values d k es ≡ G → put_values d' (k + 1) es' ≡ G
  values-more d d' G w h = rw (w, add-one k) (rw next at h)

  pub elements-more : (d d' G : List ℕ) → d' ≡ push_bit d k (is_val e) → put_elements d k es ≡ G → put_elements d' (k + 1) es' ≡ G
  unfolding push_bits
  elements-more d d' G w h = rw (w, add-one k) (rw next at h)

-- ---- a turn of a loop that writes one row

pub rows_more : (ws ws' : List Row) (w : Row) (s s' G : Outs) → ws ≡ w ∷ ws' → s' ≡ put_row s w → put_rows s ws ≡ G → put_rows s' ws' ≡ G
unfolding put_rows
rows_more ws ws' w s s' G n p h = rw p (rw n at h)

-- ---- the walk writes the result form

offsets_snoc : (a : ℕ) (ps : List Row) (w : Row) → offsets_from a (map length_of (ps ++ (w ∷ []))) ≡ offsets_from a (map length_of ps) ++ (pos (a + length (flat ps) + length (elems_of w)) ∷ [])
unfolding offsets_from flat
offsets_snoc a [] w = let e : a + 0 ≡ a = omega arith in rw e
offsets_snoc a (p ∷ ps) w =
    let e : a + length (elems_of p) + length (flat ps) ≡ a + length (elems_of p ++ flat ps) = omega (arith, length-append (elems_of p) (flat ps)) in
    rw (offsets_snoc (a + length (elems_of p)) ps w, e)

pub flat_snoc : (ps : List Row) (w : Row) → flat (ps ++ (w ∷ [])) ≡ flat ps ++ elems_of w
unfolding flat
flat_snoc ps w = rw (flat_append ps (w ∷ []), append-nil)

module _ (d₁ : List ℤ) (d₂ : List ℕ) (d₃ : List ℤ) (d₄ : List ℕ) where
  abbrev pub formed : List Row → Outs
  formed ps = outs (over (form_offsets ps) d₁) (over (form_rows ps) d₂) (over (form_values (flat ps)) d₃) (over (form_elements (flat ps)) d₄) (length ps) (length (flat ps))

  abbrev pub Roomy : List Row → Type 0
  Roomy ws = RoomInˡ (length ws) (length (flat ws)) (length d₁) (length d₂) (length d₃) (length d₄)

  module _ (ps : List Row) (w : Row) (h : Roomy (ps ++ (w ∷ []))) where
    rows_then : length (ps ++ (w ∷ [])) ≡ length ps + 1
    rows_then = length-append ps (w ∷ [])

    elems_then : length (flat (ps ++ (w ∷ []))) ≡ length (flat ps) + length (elems_of w)
    elems_then = rw (flat_snoc ps w, length-append)

    one-offsets : set (over (form_offsets ps) d₁) (length ps + 1) (pos (length (flat ps) + length (elems_of w))) ≡ over (form_offsets (ps ++ (w ∷ []))) d₁
    one-offsets =
        let e : length ps + 1 ≡ length (form_offsets ps) = omega (arith, length-offsets 0 (map length_of ps), length-map length_of ps) in
        let z : 0 + length (flat ps) + length (elems_of w) ≡ length (flat ps) + length (elems_of w) = omega arith in
        rw e (set-over (form_offsets ps) d₁ (pos (length (flat ps) + length (elems_of w))) (omega (arith, h.offsets, rows_then)) ∙ rw (offsets_snoc 0 ps w, z))

    one-rows : push_bit (over (form_rows ps) d₂) (length ps) (is_row w) ≡ over (form_rows (ps ++ (w ∷ []))) d₂
    one-rows =
        rw (← length-map is_row ps)
        (push_pack (map is_row ps) (is_row w) d₂ (omega (arith, h.rows, rows_then, length-map is_row ps)) ∙ rw map-append)

    one-values : sets (over (form_values (flat ps)) d₃) (length (flat ps)) (map value_of (elems_of w)) ≡ over (form_values (flat (ps ++ (w ∷ [])))) d₃
    one-values =
        rw (← length-map value_of (flat ps))
        (sets_over (map value_of (flat ps)) (map value_of (elems_of w)) d₃ (omega (arith, h.values, elems_then, length-map value_of (flat ps), length-map value_of (elems_of w))) ∙ rw (flat_snoc ps w, map-append))

    one-elements : push_bits (over (form_elements (flat ps)) d₄) (length (flat ps)) (map is_val (elems_of w)) ≡ over (form_elements (flat (ps ++ (w ∷ [])))) d₄
    one-elements =
        rw (← length-map is_val (flat ps))
        (pushes_pack (map is_val (flat ps)) (map is_val (elems_of w)) d₄ (omega (arith, h.elements, elems_then, length-map is_val (flat ps), length-map is_val (elems_of w))) ∙ rw (flat_snoc ps w, map-append))

    put_one : put_row (formed ps) w ≡ formed (ps ++ (w ∷ []))
    put_one = rw (one-offsets, one-rows, one-values, one-elements, rows_then, elems_then)

  roomy_front : (ps ws : List Row) → Roomy (ps ++ ws) → Roomy ps
  roomy_front ps ws h =
      let a = length-append ps ws in
      let b : length (flat (ps ++ ws)) ≡ length (flat ps) + length (flat ws) = rw (flat_append ps ws, length-append) in
      record { offsets = omega (arith, h.offsets); rows = omega (arith, h.rows); values = omega (arith, h.values); elements = omega (arith, h.elements) }

  pub put_all : (ws ps : List Row) → Roomy (ps ++ ws) → put_rows (formed ps) ws ≡ formed (ps ++ ws)
  unfolding put_rows
  put_all [] ps h = rw append-nil
  put_all (w ∷ ws) ps h =
      rw (put_one ps w (roomy_front (ps ++ (w ∷ [])) ws (rw append_assoc h)))
      (put_all ws (ps ++ (w ∷ [])) (rw append_assoc h) ∙ rw (append_assoc ps (w ∷ []) ws))

  pub start-formed : 0 < length d₁ → outs (set d₁ 0 (pos 0)) d₂ d₃ d₄ 0 0 ≡ formed []
  unfolding pack pack_n flat offsets_from
  start-formed h = first d₁ h
    where
      first : (l : List ℤ) → 0 < length l → outs (set l 0 (pos 0)) d₂ d₃ d₄ 0 0 ≡ outs (over (form_offsets []) l) d₂ d₃ d₄ 0 0
      first [] h = let z : ⊥ = omega arith in absurd z
      first (x ∷ l) h = refl

  -- the whole walk
  pub walked : (ws : List Row) → Roomy ws → put_rows (outs (set d₁ 0 (pos 0)) d₂ d₃ d₄ 0 0) ws ≡ formed ws
  walked ws h = rw (start-formed (omega (arith, h.offsets))) (put_all ws [] h)
