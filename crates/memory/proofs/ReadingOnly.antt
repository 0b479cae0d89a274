-- A program that makes no node always fits, so the function that runs it gives its value and leaves the working memory right for the same nodes.
use mathlib.Core.Path.{◌≡◌, sym, ap, ◌∙◌, subst}
use mathlib.Core.List.{List}
use mathlib.Core.Bool.{true}
use Prim.Native.Nat.{ℕ, ◌≤◌}
use lib.ListN.{length}
use lib.Dec.{leb}
use borrow.Author.Tests.{le-leb}
use Rattle.model.specs.Store.{Kind, arity, Store, nodes}
use Rattle.model.specs.Programs.{Prog, run}
use Rattle.model.specs.Safety.{Safe, ReadOnly}
use Rattle.model.proofs.ReadOnly.{run_same}
use Rattle.memory.specs.Rows.{places, plain}
use Rattle.memory.specs.Working.{Right}
use Rattle.memory.specs.Performing.{RunState, going, ends, Condition, PerformsOn}
use Rattle.memory.proofs.Rows.{plain_length}

fits : (K : Kind) (p : Prog) (S : Store) (q : ℕ) → ReadOnly p → length (nodes K S) ≤ q → leb (ends K p S) q ≡ true
unfolding ends
fits K p S q o f = le-leb _ _ (subst (λ T. length (nodes K T) ≤ q) (sym (run_same p S o)) f)

pub record Gives (K : Kind) (B : Store) (p : Prog) (m w' : List ℕ) (n h : ℕ) : Type 0 where
  pub value : h ≡ (run p (plain K B m n)).value
  pub work : Right K B w' m n

pub reads_only : {Q : Condition} {K : Kind} {p : Prog} {m w w' : List ℕ} {n : ℕ} {r : RunState} → ReadOnly p
    → PerformsOn Q K p (going n) m m w w' r → (B : Store) → Q B → n ≤ places (arity K) m → Safe p (plain K B m n) → Right K B w m n
    → Gives K B p m w' n r.h
reads_only {K = K} {p} {m} {w} {w'} {n} {r} o P B c f s R =
    let S = plain K B m n in
    let T = P.runs B c (record { room = f; live = λ _. record { safe = s; work = R } }) in
    let k : r.ok ≡ true = T.okay ∙ fits K p S (places (arity K) m) o (subst (λ z. z ≤ places (arity K) m) (sym (plain_length K B m n)) f) in
    let D = T.done k in
    let e : r.n ≡ n = sym (plain_length K B m r.n) ∙ ap (λ T. length (nodes K T)) (D.store ∙ run_same p S o) ∙ plain_length K B m n in
    record { value = D.value; work = subst (λ j. Right K B w' m j) e D.work }
