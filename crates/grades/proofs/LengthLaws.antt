-- A recipe makes as many rows as its first list has.
use Prim.Native.Nat.{ℕ}
use mathlib.Core.Path.{◌≡◌, refl, ap, ◌∙◌, sym}
use mathlib.Core.Bool.{Bool, true, false}
use mathlib.Core.List.{List, [], ◌∷◌}
use lib.Dec.{eqb}
use lib.ListN.{length}
use Rattle.model.specs.Basics.{pick}
use Rattle.model.specs.Column.{Elem, Row, Column, Arguments, rows_of, shown_by}
use Rattle.model.specs.Form.{Room, flat, fits_in}
use Rattle.model.specs.Limits.{Limits}
use Rattle.model.specs.Outcome.{Outcome, refused, made, gate, fitted, after_three}
use Rattle.model.specs.Recipe.{Step, Recipe, column_of, steps_of, step_call, then_on, carried, stepped, formed_recipe, recipe_outcome, stationed}
use Rattle.model.proofs.BoolLaws.{never}
use Rattle.steps.proofs.ChainLaws.{rows-kept}

-- what a gate lets through
pub opened : (k : ℕ) (x : Outcome (List Row)) (vs : List Row) → gate k x ≡ made vs → (eqb k 0 ≡ true) × (x ≡ made vs)
unfolding gate
opened k x vs h = go (eqb k 0) refl h
  where
    go : (b : Bool) → eqb k 0 ≡ b → pick b x (refused k) ≡ made vs → (eqb k 0 ≡ true) × (x ≡ made vs)
    go true e q = (e, q)
    go false e q = never cc

fitted-rows : (ws : List Row) (l : Room) (vs : List Row) → fitted ws l ≡ made vs → length vs ≡ length ws
unfolding fitted
fitted-rows ws l vs h = go (fits_in (length ws) (length (flat ws)) l) h
  where
    go : (b : Bool) → pick b (made ws) (refused 9) ≡ made vs → length vs ≡ length ws
    go true q = let e : vs ≡ ws = cc in ap length e
    go false q = never cc

module _ (N : Limits) (rs : List Row) (col : ℕ → List Elem) (o : Room) where
  carried_rows : (s : Step) (ss : List Step) (ws : List Row) (a b : Room) (vs : List Row) → carried N s ss ws rs col a b o ≡ made vs → length vs ≡ length ws
  unfolding carried then_on
  carried_rows s [] ws a b vs h = rows-kept N s ws rs col o vs h
  carried_rows s (t ∷ ts) ws a b vs h = on (after_three N (step_call s ws rs col) a) refl (λ ws'. carried_rows t ts ws' b a vs) h
    where
      on : (x : Outcome (List Row)) → after_three N (step_call s ws rs col) a ≡ x → ((ws' : List Row) → carried N t ts ws' rs col b a o ≡ made vs → length vs ≡ length ws')
          → then_on x (λ ws'. carried N t ts ws' rs col b a o) ≡ made vs → length vs ≡ length ws
      on (refused k) e f q = never cc
      on (made ws') e f q = f ws' q ∙ rows-kept N s ws rs col a ws' e

  stepped-rows : (ss : List Step) (ws : List Row) (a b : Room) (vs : List Row) → stepped N ss ws rs col a b o ≡ made vs → length vs ≡ length ws
  unfolding stepped
  stepped-rows [] ws a b vs h = fitted-rows ws o vs h
  stepped-rows (s ∷ ss) ws a b vs h = carried_rows s ss ws a b vs h

pub recipe-rows : (N : Limits) (s : ℕ) (p : Recipe) (c d : Column) (e : Arguments) (a b o : Room) (vs : List Row) → stationed s (recipe_outcome N p c d e a b o) ≡ made vs → length vs ≡ length (rows_of c)
unfolding stationed recipe_outcome formed_recipe
recipe-rows N s p c d e a b o vs h =
    let f = (opened _ _ vs (opened _ _ vs (opened _ _ vs (opened _ _ vs h).1).1).1).1 in
    stepped-rows N (rows_of d) (column_of (shown_by e) (length (rows_of d))) o (steps_of p.numbers) (rows_of c) a b vs f
