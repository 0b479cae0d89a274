-- `place` makes the node that `mk` makes: its returns by the laws of `Joining`.
use mathlib.Core.Path.{◌≡◌, refl, sym, ap, ◌∙◌}
use mathlib.Core.List.{List}
use Prim.Native.Nat.{ℕ, ◌*◌, ◌<◌}
use native.Mathlib.Omega.{arith}
use lib.ListN.{length}
use lib.Seq.{paste}
use Rattle.memory.specs.Rows.{row, places, places_of}
use Rattle.memory.specs.Working.{bucket}
use Rattle.memory.proofs.Rows.{place_fits, paste_row}
use Rattle.memory.proofs.Joining.{place_found, joins_found, joins_full, joins_never, joins_new}
use Rattle.memory.proofs.insert.place.Goals as goal

-- the bucket of the node that was put is that of its numbers
bucket_there : (m m' x : List ℕ) (n : ℕ) → n < places (length x) m → m' ≡ paste m (length x * n) x (length x) → bucket x ≡ bucket (row (length x) m' n)
bucket_there m m' x n l p = let c = length x in sym (ap (λ M. bucket (row c M n)) p ∙ ap bucket (paste_row c n m x refl (place_fits c m n l)))

pub returns-then-end-p : goal.returns-then-end-p
returns-then-end-p g c =
    let p = c.places_of-p.ensures ∙ ap (places_of (length c.args.nodes.now)) c.count.ensures in
    record { small = omega arith; node = λ K y z e. joins_never y (g.X.Numbers.list c.args.x) z (omega (arith, p)) }

pub overflow_cast-result : goal.overflow_cast-result
overflow_cast-result g c = omega (arith, place_found (g.X.Numbers.list c.args.x) _ _ c.search.ensures c.in-Some.is, c.places_of-p.ensures)

pub returns-in-Some : goal.returns-in-Some
returns-in-Some g c = record {
  small = omega (arith, place_found (g.X.Numbers.list c.args.x) _ _ c.search.ensures c.in-Some.is, c.places_of-p.ensures);
  node = λ K y z e. joins_found y (g.X.Numbers.list c.args.x) z e c.search.ensures c.in-Some.is;
}

pub returns-then-end-p-2 : goal.returns-then-end-p-2
returns-then-end-p-2 g c =
    let p = c.places_of-p.ensures ∙ ap (places_of (length c.args.nodes.now)) c.count.ensures in
    record {
      small = omega arith;
      node = λ K y z e. joins_full y (g.X.Numbers.list c.args.x) z e c.search.ensures c.in_default.is (omega (arith, p));
    }

pub returns : goal.returns
returns g c =
    let m = c.args.nodes.now in
    let n = c.args.n.now in
    let x = g.X.Numbers.list c.args.x in
    let p = c.places_of-p.ensures ∙ ap (places_of (length m)) c.count.ensures in
    let l : n < places (length x) m = omega (arith, p) in
    record {
      small = omega (arith, c.places_of-p.ensures);
      node = λ K y z e. joins_new y x z e c.search.ensures _ _ _ c.in_default.is l c.put.ensures c.note.ensures
          (c.link_in.ensures _ (c.hash-b.ensures.0 ∙ bucket_there m _ x n l c.put.ensures));
    }
