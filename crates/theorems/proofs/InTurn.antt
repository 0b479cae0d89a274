-- Lists of calls, of any type on any state: a list in two parts, what each call keeps, and two states in step.
use mathlib.Core.Path.{◌≡◌, refl}
use mathlib.Core.List.{List, [], ◌∷◌, ◌++◌}
use Rattle.theorems.specs.Lists.{in_turn, each_call}

module _ {C A X : Type 0} (answer : C → X → A) (next : C → X → X) where
  pub turn_parted : (before later : List C) (x : X)
      → (in_turn answer next (before ++ later) x).state ≡ (in_turn answer next later (in_turn answer next before x).state).state
  unfolding in_turn
  turn_parted [] later x = refl
  turn_parted (c ∷ before) later x = turn_parted before later (next c x)

  pub each_before : (Q : C → X → Type 0) (before later : List C) (x : X) → each_call next Q (before ++ later) x → each_call next Q before x
  unfolding each_call
  each_before Q [] later x r = tt
  each_before Q (c ∷ before) later x r = (r.0, each_before Q before later (next c x) r.1)

  pub each_later : (Q : C → X → Type 0) (before later : List C) (x : X) → each_call next Q (before ++ later) x
      → each_call next Q later (in_turn answer next before x).state
  unfolding in_turn each_call
  each_later Q [] later x r = r
  each_later Q (c ∷ before) later x r = each_later Q before later (next c x) r.1

  -- a second state beside the first, in the relation R; a call keeps R and gives one answer
  module _ {Y : Type 0} (answer' : C → Y → A) (next' : C → Y → Y) (R : X → Y → Type 0)
      (kept : (c : C) (x : X) (y : Y) → R x y → (answer c x ≡ answer' c y) × R (next c x) (next' c y)) where
    pub turn_answers : (cs : List C) (x : X) (y : Y) → R x y → (in_turn answer next cs x).answers ≡ (in_turn answer' next' cs y).answers
    unfolding in_turn
    turn_answers [] x y r = refl
    turn_answers (c ∷ cs) x y r = let t = kept c x y r in λ i. t.0 i ∷ turn_answers cs (next c x) (next' c y) t.1 i

    pub turn_kept : (cs : List C) (x : X) (y : Y) → R x y → R (in_turn answer next cs x).state (in_turn answer' next' cs y).state
    unfolding in_turn
    turn_kept [] x y r = r
    turn_kept (c ∷ cs) x y r = turn_kept cs (next c x) (next' c y) (kept c x y r).1

    -- where each call has Q, the second state moves along a preorder
    module _ (Q : C → X → Type 0) (G : Y → Y → Type 0) (same : (y : Y) → G y y) (then : (x y z : Y) → G x y → G y z → G x z)
        (passes : (c : C) (x : X) (y : Y) → R x y → Q c x → G y (next' c y)) where
      pub turn_continues : (cs : List C) (x : X) (y : Y) → R x y → each_call next Q cs x → G y (in_turn answer' next' cs y).state
      unfolding in_turn each_call
      turn_continues [] x y r q = same y
      turn_continues (c ∷ cs) x y r q = then _ _ _ (passes c x y r q.0) (turn_continues cs (next c x) (next' c y) (kept c x y r).1 q.1)
