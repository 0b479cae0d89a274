-- What the handle that a call between relations and sets gives means, by its operands' packets in the store S before: document 01, "The operations".
use Rattle.std.specs.Prelude.{ℕ}
use Rattle.model.specs.Store.{set, rel, Store}
use Rattle.model.specs.Packets.{contains, relates}
use Rattle.model.specs.WellFormed.{level_of}
use Rattle.model.specs.Meaning.{Den, Relates, Filter, Range, Domain, Image, Preimage}
use Rattle.store.specs.declared.image_calls.ImageCall.{ImageCall}
use Rattle.store.specs.declared.image_calls.ImageCall.TheVariants.{Fwd, Bwd, Push, Pull}
use Rattle.store.specs.declared.filter_calls.FilterCall.{FilterCall}
use Rattle.store.specs.declared.filter_calls.FilterCall.TheVariants.{Diagonal, Ifwd, Ibwd}

-- 01: "`fwd` is the range, `bwd` the domain, `push` the image, `pull` the packets with some output in the set"
unfoldable pub image_meaning : ℕ → ImageCall → Store → Store → ℕ → Type 0
image_meaning k (Fwd a) S = (let l = level_of k rel S a in Den set l (Range l (relates S a)))
image_meaning k (Bwd a) S = (let l = level_of k rel S a in Den set l (Domain l (relates S a)))
image_meaning k (Push p a) S = (let l = level_of k rel S a in Den set l (Image l (contains S p) (relates S a)))
image_meaning k (Pull a p) S = (let l = level_of k rel S a in Den set l (Preimage l (relates S a) (contains S p)))

-- 01: "`diagonal` the filter, `ifwd` everything into the set, `ibwd` its flip"
unfoldable pub filter_meaning : ℕ → FilterCall → Store → Store → ℕ → Type 0
filter_meaning k (Diagonal p) S = Relates (level_of k set S p) (Filter (contains S p))
filter_meaning k (Ifwd p) S = Relates (level_of k set S p) (λ x y. contains S p y)
filter_meaning k (Ibwd p) S = Relates (level_of k set S p) (λ x y. contains S p x)
