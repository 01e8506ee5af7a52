-- The front of slices that a column was written into in result form shows the rows that it was written from.
use mathlib.Core.Path.{◌≡◌, sym, ap, ◌∙◌}
use mathlib.Core.List.{List, map}
use Prim.Native.Nat.{ℕ, ◌+◌}
use native.Mathlib.Omega.{arith}
use lib.IntN.{ℤ}
use lib.ListN.{length, drop, length-append}
use lib.Seq.{take_at}
use Rattle.model.specs.Bitmap.{bytes_for}
use Rattle.model.specs.Column.{Row, rows_of}
use Rattle.model.specs.Form.{is_val, value_of, is_row, length_of, flat, form_offsets, form_rows, form_values, form_elements, over}
use Rattle.model.proofs.TabLaws.{length-map}
use Rattle.model.proofs.FormLaws.{length-pack, length-offsets}
use Rattle.column.specs.Front.{front, AtFront}
use Rattle.column.proofs.ReadLaws.{formed, shows, formed_readable}

module _ (ws : List Row) (d₁ : List ℤ) (d₂ : List ℕ) (d₃ : List ℤ) (d₄ : List ℕ) (n m : ℕ) (e : n ≡ length ws) (f : m ≡ length (flat ws)) where
  front-over : front (over (form_offsets ws) d₁) (over (form_rows ws) d₂) (over (form_values (flat ws)) d₃) (over (form_elements (flat ws)) d₄) n m ≡ formed ws
  front-over =
      rw (
        take_at (form_offsets ws) (drop (length (form_offsets ws)) d₁) (n + 1) (omega (arith, length-offsets 0 (map length_of ws), length-map length_of ws)),
        take_at (form_rows ws) (drop (length (form_rows ws)) d₂) (bytes_for n) (length-pack (map is_row ws) ∙ ap bytes_for (length-map is_row ws ∙ sym e)),
        take_at (form_values (flat ws)) (drop (length (form_values (flat ws))) d₃) m (length-map value_of (flat ws) ∙ sym f),
        take_at (form_elements (flat ws)) (drop (length (form_elements (flat ws))) d₄) (bytes_for m) (length-pack (map is_val (flat ws)) ∙ ap bytes_for (length-map is_val (flat ws) ∙ sym f)),
      )

  pub at-front-over : AtFront n m (over (form_offsets ws) d₁) (over (form_rows ws) d₂) (over (form_values (flat ws)) d₃) (over (form_elements (flat ws)) d₄)
  at-front-over = record {
    offsets = omega (arith, length-append (form_offsets ws) (drop (length (form_offsets ws)) d₁), length-offsets 0 (map length_of ws), length-map length_of ws);
    rows = omega (arith, length-append (form_rows ws) (drop (length (form_rows ws)) d₂), length-pack (map is_row ws), length-map is_row ws);
    values = omega (arith, length-append (form_values (flat ws)) (drop (length (form_values (flat ws))) d₃), length-map value_of (flat ws));
    elements = omega (arith, length-append (form_elements (flat ws)) (drop (length (form_elements (flat ws))) d₄), length-pack (map is_val (flat ws)), length-map is_val (flat ws));
    formed = rw front-over (formed_readable ws);
  }

  pub rows-over : rows_of (front (over (form_offsets ws) d₁) (over (form_rows ws) d₂) (over (form_values (flat ws)) d₃) (over (form_elements (flat ws)) d₄) n m) ≡ ws
  rows-over = rw front-over (shows ws)
