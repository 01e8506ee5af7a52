-- What a comparison answers.
use Rattle.std.specs.Prelude.{◌≡◌, Bool, true, ◌↔◌}

-- true exactly when the two are equal
abbrev pub Same : {A : Type 0} → A → A → Bool → Type 0
Same a b r = (r ≡ true) ↔ (a ≡ b)
