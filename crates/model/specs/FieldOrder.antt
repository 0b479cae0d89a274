-- Field order: packets compared field by field from field 0 on, 0 before 1. Nothing here asks how packets are numbered.
use Rattle.std.specs.Prelude.{List, [], ◌∷◌, Bool, false, ℕ, zero, suc, ◌+◌, ◌*◌, ◌/◌, ◌%◌, ◌^◌, eqb, ltb, length}
use Rattle.model.specs.Store.{pick}

-- whether p comes before q: it has the lower bit in the first field where they differ
unfoldable pub is_before : List ℕ → List ℕ → Bool
is_before [] q = false
is_before (a ∷ p) [] = false
is_before (a ∷ p) (b ∷ q) = pick (eqb a b) (is_before p q) (ltb a b)

-- a packet's place in this order: the number of packets of as many fields before it
unfoldable pub rank : List ℕ → ℕ
rank [] = 0
rank (b ∷ p) = b * 2 ^ length p + rank p

-- the packet of l fields whose place is n
unfoldable pub ranked : ℕ → ℕ → List ℕ
ranked zero n = []
ranked (suc l) n = n / 2 ^ l % 2 ∷ ranked l n
