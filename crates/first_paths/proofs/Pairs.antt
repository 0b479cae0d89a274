-- The first pair, one digit after another: the digit that `first_digit` gives, and after it the first pair of the children that it names.
use mathlib.Core.Path.{◌≡◌, sym, ap, ◌∙◌, subst}
use mathlib.Core.List.{List, [], ◌∷◌}
use mathlib.Core.Bool.{Bool, true, false}
use Prim.Native.Nat.{ℕ, suc, ◌+◌, ◌*◌, ◌/◌, ◌%◌, ◌<◌}
use native.Mathlib.Omega.{arith}
use lib.ListN.{get_or}
use Rattle.model.specs.Store.{set, rel, child}
use Rattle.model.specs.Packets.{packet}
use Rattle.model.specs.WellFormed.{Held}
use Rattle.model.specs.Meaning.{Some}
use Rattle.model.specs.FirstInputs.{first_digit}
use Rattle.model.specs.FirstPair.{Through, FirstPair}
use Rattle.model.proofs.FirstDigits.{FirstDigit, first_digit_does}
use Rattle.model.proofs.FirstPair.{pair_zero}
use Rattle.model.proofs.Levels.{held_most}
use Rattle.model.proofs.Numbers.{packet_more}
use Rattle.model.proofs.Pairs.{relates_own}
use Rattle.model.proofs.ReadOnly.{first_digit_read_only}
use Rattle.model.proofs.Rules.{own, held_within}
use Rattle.memory.specs.Performing.{run_state, going, OtherNodes, PerformsOn, ReadsChildren}
use Rattle.memory.specs.Rows.{plain}
use Rattle.memory.proofs.OtherNodes.{children_of_other}
use Rattle.memory.proofs.ReadingOnly.{reads_only}
use Rattle.first_paths.specs.Digits.{bit, digit}
use Rattle.first_paths.specs.Pairs.{FindsPair}

pub pair_at_0 : {o m w : List ℕ} {l p a q n j : ℕ} → l ≡ 0 → FindsPair (OtherNodes set o j) l p a q n m w 0 0
unfolding packet
pair_at_0 {o} {m} {w} {l} {p} {a} {q} {n} {j} e = subst (λ l. FindsPair (OtherNodes set o j) l p a q n m w 0 0) (sym e)
    (record { finds = λ B c f R P A Q s. pair_zero s })

-- what is known of three handles, by other names
three : (W : ℕ → ℕ → ℕ → Type 0) {x y z x' y' z' : ℕ} → x ≡ x' → y ≡ y' → z ≡ z' → W x y z → W x' y' z'
three W {x} {y} {z} {x'} {y'} e f g t = subst (λ z. W x' y' z) g (subst (λ y. W x' y z) f (subst (λ x. W x y z) e t))

-- the digit d leads from p, a and q, of level l + 1, to the children x, y and z, whose first pair is u and v
module _ {o m w w₁ : List ℕ} {g l p a q n j x0 x1 z0 z1 y00 y01 y10 y11 x y z u v i k : ℕ} (d : ℕ)
    (eg : g ≡ suc l) (G : PerformsOn (OtherNodes set o j) set (first_digit g p a q) (going n) m m w w₁ (run_state true n d))
    (X : ReadsChildren set m p (x0 ∷ x1 ∷ [])) (Z : ReadsChildren set m q (z0 ∷ z1 ∷ [])) (Y : ReadsChildren rel o a (y00 ∷ y01 ∷ y10 ∷ y11 ∷ []))
    (ex : d / 2 < 2 → x ≡ get_or (x0 ∷ x1 ∷ []) (d / 2) 0) (ez : d % 2 < 2 → z ≡ get_or (z0 ∷ z1 ∷ []) (d % 2) 0)
    (ey : d < 4 → y ≡ get_or (y00 ∷ y01 ∷ y10 ∷ y11 ∷ []) d 0)
    (rest : FindsPair (OtherNodes set o j) l x y z n m w₁ u v)
    (ei : d / 2 < 2 → i ≡ d / 2 + 2 * u) (ek : d % 2 < 2 → k ≡ d % 2 + 2 * v) where
  D : PerformsOn (OtherNodes set o j) set (first_digit (suc l) p a q) (going n) m m w w₁ (run_state true n d)
  D = subst (λ g. PerformsOn (OtherNodes set o j) set (first_digit g p a q) (going n) m m w w₁ (run_state true n d)) eg G

  above : FindsPair (OtherNodes set o j) (suc l) p a q n m w i k
  above = record {
    finds = λ B c f R P A Q s.
        let S = plain set B m n in
        let F = R.formed in
        let E = first_digit_does l p a q F (held_most set (suc l) p F P) (own set S (suc l) p P) (relates_own S (suc l) a A) (own set S (suc l) q Q) s in
        let G = reads_only (first_digit_read_only (suc l) p a q) D B c f E.safe R in
        let T : FirstDigit l (Through S p a q) d = subst (FirstDigit l (Through S p a q)) (sym G.value) E.after.post in
        let b : d / 2 < 2 = omega (arith, T.digit) in
        let b' : d % 2 < 2 = omega arith in
        let e : 2 * (d / 2) + d % 2 ≡ d = omega arith in
        let fx : child set S p (d / 2) ≡ x = ap (λ h. get_or h (d / 2) 0) (X.kids B n f (held_within l P)) ∙ sym (ex b) in
        let fz : child set S q (d % 2) ≡ z = ap (λ h. get_or h (d % 2) 0) (Z.kids B n f (held_within l Q)) ∙ sym (ez b') in
        let fy : child rel S a (2 * (d / 2) + d % 2) ≡ y
        = ap (child rel S a) e ∙ ap (λ h. get_or h d 0) (children_of_other set m n c Y (held_within l A)) ∙ sym (ey T.digit) in
        let first = rest.finds B c f G.work (subst (Held set S l) fx (P.below (d / 2) b))
        (subst (Held rel S l) fy (A.below (2 * (d / 2) + d % 2) (let h : 2 * (d / 2) + d % 2 < 4 = omega (arith, T.digit) in h)))
        (subst (Held set S l) fz (Q.below (d % 2) b')) (three (λ x y z. Some l (λ s. Some l (λ t. Through S x y z s t))) fx fy fz T.some) in
        let next = T.next (packet l u) (packet l v)
        (three (λ x y z. FirstPair l (Through S x y z) (packet l u) (packet l v)) (sym fx) (sym fy) (sym fz) first) in
        subst (λ s. FirstPair (suc l) (Through S p a q) s (packet (suc l) k)) (sym (ap (packet (suc l)) (ei b) ∙ packet_more l (d / 2) u b))
        (subst (λ t. FirstPair (suc l) (Through S p a q) (d / 2 ∷ packet l u) t) (sym (ap (packet (suc l)) (ek b') ∙ packet_more l (d % 2) v b')) next);
  }

  digit_next : FindsPair (OtherNodes set o j) g p a q n m w i k
  digit_next = subst (λ g. FindsPair (OtherNodes set o j) g p a q n m w i k) (sym eg) above

-- so do the bits b and c that make the digit
pub pair_next : {o m w w₁ : List ℕ} {g l p a q n j x0 x1 z0 z1 y00 y01 y10 y11 x y z u v i k : ℕ} (b c : Bool) → g ≡ suc l
    → PerformsOn (OtherNodes set o j) set (first_digit g p a q) (going n) m m w w₁ (run_state true n (digit b c))
    → ReadsChildren set m p (x0 ∷ x1 ∷ []) → ReadsChildren set m q (z0 ∷ z1 ∷ []) → ReadsChildren rel o a (y00 ∷ y01 ∷ y10 ∷ y11 ∷ [])
    → x ≡ get_or (x0 ∷ x1 ∷ []) (bit b) 0 → z ≡ get_or (z0 ∷ z1 ∷ []) (bit c) 0 → y ≡ get_or (y00 ∷ y01 ∷ y10 ∷ y11 ∷ []) (digit b c) 0
    → FindsPair (OtherNodes set o j) l x y z n m w₁ u v → i ≡ bit b + 2 * u → k ≡ bit c + 2 * v → FindsPair (OtherNodes set o j) g p a q n m w i k
pair_next false false eg G X Z Y ex ez ey R ei ek = digit_next 0 eg G X Z Y (λ _. ex) (λ _. ez) (λ _. ey) R (λ _. ei) (λ _. ek)
pair_next false true eg G X Z Y ex ez ey R ei ek = digit_next 1 eg G X Z Y (λ _. ex) (λ _. ez) (λ _. ey) R (λ _. ei) (λ _. ek)
pair_next true false eg G X Z Y ex ez ey R ei ek = digit_next 2 eg G X Z Y (λ _. ex) (λ _. ez) (λ _. ey) R (λ _. ei) (λ _. ek)
pair_next true true eg G X Z Y ex ez ey R ei ek = digit_next 3 eg G X Z Y (λ _. ex) (λ _. ez) (λ _. ey) R (λ _. ei) (λ _. ek)
