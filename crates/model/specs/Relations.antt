-- The operations of relations alone, after spp.rs. `l` is the level of the operands; 01, "The operations": "Matrix rules".
use Rattle.std.specs.Prelude.{[], ◌∷◌, ℕ}
use Rattle.model.specs.Store.{rel}
use Rattle.model.specs.Programs.{is_empty, is_universal, is_identity, less, has, Prog, ret, ask, mk, ◌>>=◌}
use Rattle.model.specs.Recursion.{Op1, op1, Op2, op2, x00, x01, x10, x11, four}
use Rattle.model.specs.Operations.{one_at_depth, top_at_depth, union}

-- spp.rs, `sequence`: the product of two by two matrices
abbrev pub sequence_op : Op2
sequence_op = record {
  first = rel;
  second = rel;
  short = λ l a b node.
      ask (has is_empty rel l a) (ret a)
      (ask (has is_identity rel l b) (ret a)
      (ask (has is_empty rel l b) (ret b)
      (ask (has is_identity rel l a) (ret b) (node a b))));
  kids = λ l f a b.
      four (f (x00 a) (x00 b)) (f (x01 a) (x10 b)) (f (x00 a) (x01 b)) (f (x01 a) (x11 b)) λ a00b00 a01b10 a00b01 a01b11.
      four (f (x10 a) (x00 b)) (f (x11 a) (x10 b)) (f (x10 a) (x01 b)) (f (x11 a) (x11 b)) λ a10b00 a11b10 a10b01 a11b11.
      four (union rel l a00b00 a01b10) (union rel l a00b01 a01b11) (union rel l a10b00 a11b10) (union rel l a10b01 a11b11)
      λ r00 r01 r10 r11. mk rel (r00 ∷ r01 ∷ r10 ∷ r11 ∷ []);
}

unfoldable pub sequence : ℕ → ℕ → ℕ → Prog
sequence l a b = op2 sequence_op l a b

-- spp.rs, `star`: of the matrix (a, b; c, d), through d*
abbrev pub star_op : Op1
star_op = record {
  kind = rel;
  short = λ l x node.
      ask (has is_empty rel l x) (one_at_depth rel l)
      (ask (has is_identity rel l x) (ret x)
      (ask (has is_universal rel l x) (ret x) node));
  kids = λ l f x.
      f (x11 x) >>= λ d-star.
      sequence l (x01 x) d-star >>= λ bd-star.
      sequence l bd-star (x10 x) >>= λ bd-star-c.
      union rel l (x00 x) bd-star-c >>= λ a-plus-bdc.
      f a-plus-bdc >>= λ res-a.
      sequence l res-a bd-star >>= λ res-b.
      sequence l (x10 x) res-a >>= λ c-res-a.
      sequence l d-star c-res-a >>= λ res-c.
      sequence l res-c bd-star >>= λ res-c-bd-star.
      union rel l d-star res-c-bd-star >>= λ res-d.
      mk rel (res-a ∷ res-b ∷ res-c ∷ res-d ∷ []);
}

unfoldable pub star : ℕ → ℕ → Prog
star l a = op1 star_op l a

-- spp.rs, `flip`: "`flip` swaps x01 and x10"
abbrev pub flip_op : Op1
flip_op = record {
  kind = rel;
  short = λ l a node. ask (less a 2) (ret a) node;
  kids = λ l f x. four (f (x00 x)) (f (x01 x)) (f (x10 x)) (f (x11 x)) λ f00 f01 f10 f11. mk rel (f00 ∷ f10 ∷ f01 ∷ f11 ∷ []);
}

unfoldable pub flip : ℕ → ℕ → Prog
flip l a = op1 flip_op l a

-- spp.rs, `naive_forward` and `backward`
unfoldable pub naive_forward : ℕ → ℕ → Prog
naive_forward l a = top_at_depth l >>= λ top. sequence l top a

unfoldable pub backward : ℕ → ℕ → Prog
backward l a = top_at_depth l >>= λ top. sequence l a top
