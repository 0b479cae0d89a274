-- The operations between relations and sets, after spp.rs, and `new`. `l` is the level of the operands.
use Rattle.std.specs.Prelude.{List, [], ◌∷◌, ℕ, zero, suc, min}
use Rattle.model.specs.Store.{Store, set, rel}
use Rattle.model.specs.Programs.{is_empty, is_universal, is_identity, less, has, Prog, panic, ret, ask, look, mk, ◌>>=◌}
use Rattle.model.specs.Recursion.{Op1, op1, Op2, op2, x0, x1, x00, x01, x10, x11, four, or_else}
use Rattle.model.specs.Operations.{zero_at_depth, one_at_depth, top_at_depth, union}
use Rattle.model.specs.Relations.{flip}
use Rattle.model.specs.Sets.{intersects}

-- the set whose children are the unions of the first two and of the last two
abbrev pub two_unions : ℕ → ℕ → ℕ → ℕ → ℕ → Prog
two_unions l a b c d = union set l a b >>= λ r0. union set l c d >>= λ r1. mk set (r0 ∷ r1 ∷ [])

-- spp.rs, `fwd`: the range
abbrev pub fwd_op : Op1
fwd_op = record {
  kind = rel;
  short = λ l a node. ask (less a 2) (ret a) node;
  kids = λ l f x. four (f (x00 x)) (f (x10 x)) (f (x01 x)) (f (x11 x)) λ f00 f10 f01 f11. two_unions l f00 f10 f01 f11;
}

unfoldable pub fwd : ℕ → ℕ → Prog
fwd l a = op1 fwd_op l a

-- spp.rs, `bwd`: the domain
abbrev pub bwd_op : Op1
bwd_op = record {
  kind = rel;
  short = λ l a node. ask (less a 2) (ret a) node;
  kids = λ l f x. four (f (x00 x)) (f (x01 x)) (f (x10 x)) (f (x11 x)) λ b00 b01 b10 b11. two_unions l b00 b01 b10 b11;
}

unfoldable pub bwd : ℕ → ℕ → Prog
bwd l a = op1 bwd_op l a

-- spp.rs, `ifwd`: everything into the set; `ibwd`: its flip
abbrev pub ifwd_op : Op1
ifwd_op = record {
  kind = set;
  short = λ l p node. ask (less p 2) (ret p) node;
  kids = λ l f x. f (x0 x) >>= λ r0. f (x1 x) >>= λ r1. mk rel (r0 ∷ r1 ∷ r0 ∷ r1 ∷ []);
}

unfoldable pub ifwd : ℕ → ℕ → Prog
ifwd l p = op1 ifwd_op l p

unfoldable pub ibwd : ℕ → ℕ → Prog
ibwd l p = ifwd l p >>= λ r. flip l r

-- spp.rs, `diagonal`: the filter
abbrev pub diagonal_op : Op1
diagonal_op = record {
  kind = set;
  short = λ l p node. ask (less p 2) (ret p) node;
  kids = λ l f x. f (x0 x) >>= λ r0. f (x1 x) >>= λ r1. zero_at_depth rel l >>= λ z. mk rel (r0 ∷ z ∷ z ∷ r1 ∷ []);
}

unfoldable pub diagonal : ℕ → ℕ → Prog
diagonal l p = op1 diagonal_op l p

-- the shortcuts of `push` and `pull` on the set p and the relation a; `whole` is what a full set gives.
-- The Rust's first test is of both operands below 2: they share a level, so one says it of the other.
abbrev pub image_short : ℕ → ℕ → ℕ → Prog → Prog → Prog
image_short l p a whole node =
    ask (less p 2) (ret (min p a))
    (ask (has is_empty set l p) (ret p)
    (ask (has is_identity rel l a) (ret p)
    (ask (has is_empty rel l a) (zero_at_depth set l)
    (ask (has is_universal rel l a) (one_at_depth set l)
    (ask (has is_universal set l p) whole node)))))

-- spp.rs, `push`: the image
abbrev pub push_op : Op2
push_op = record {
  first = set;
  second = rel;
  short = λ l p a node. image_short l p a (fwd l a) (node p a);
  kids = λ l f p r.
      four (f (x0 p) (x00 r)) (f (x1 p) (x10 r)) (f (x0 p) (x01 r)) (f (x1 p) (x11 r)) λ a b c d. two_unions l a b c d;
}

unfoldable pub push : ℕ → ℕ → ℕ → Prog
push l p a = op2 push_op l p a

-- spp.rs, `pull`: the packets with some output in the set
abbrev pub pull_op : Op2
pull_op = record {
  first = rel;
  second = set;
  short = λ l a p node. image_short l p a (bwd l a) (node a p);
  kids = λ l f r p.
      four (f (x00 r) (x0 p)) (f (x10 r) (x0 p)) (f (x01 r) (x1 p)) (f (x11 r) (x1 p)) λ a b c d. two_unions l a c b d;
}

unfoldable pub pull : ℕ → ℕ → ℕ → Prog
pull l a p = op2 pull_op l a p

-- spp.rs, `has_image` and `has_path`: 1 for yes, 0 for no
abbrev pub has_image_op : Op2
has_image_op = record {
  first = set;
  second = rel;
  short = λ l p a node.
      ask (has is_empty set l p) (ret 0)
      (ask (has is_empty rel l a) (ret 0)
      (ask (has is_universal set l p) (ret 1)
      (ask (has is_identity rel l a) (ret 1)
      (ask (has is_universal rel l a) (ret 1) (node p a)))));
  kids = λ l f p r.
      or_else (f (x0 p) (x00 r)) (or_else (f (x0 p) (x01 r)) (or_else (f (x1 p) (x10 r)) (f (x1 p) (x11 r))));
}

unfoldable pub has_image : ℕ → ℕ → ℕ → Prog
has_image l p a = op2 has_image_op l p a

abbrev pub has_path_short : ℕ → ℕ → ℕ → ℕ → Prog → Prog
has_path_short l p a q node =
    ask (has is_empty set l p) (ret 0)
    (ask (has is_empty set l q) (ret 0)
    (ask (has is_empty rel l a) (ret 0)
    (ask (has is_universal rel l a) (ret 1)
    (ask (has is_identity rel l a) (intersects l p q)
    (ask (has is_universal set l q) (has_image l p a) node)))))

abbrev pub has_path_kids : (ℕ → ℕ → ℕ → Prog) → List ℕ → List ℕ → List ℕ → Prog
has_path_kids f p r q =
    or_else (f (x0 p) (x00 r) (x0 q)) (or_else (f (x0 p) (x01 r) (x1 q)) (or_else (f (x1 p) (x10 r) (x0 q)) (f (x1 p) (x11 r) (x1 q))))

unfoldable pub has_path_node : ℕ → ℕ → ℕ → ℕ → Prog
has_path_node zero p a q = panic
has_path_node (suc l) p a q = look set p λ x. look set q λ y. look rel a λ r.
    has_path_kids (λ p a q. has_path_short l p a q (has_path_node l p a q)) x r y

unfoldable pub has_path : ℕ → ℕ → ℕ → ℕ → Prog
has_path l p a q = has_path_short l p a q (has_path_node l p a q)

-- `SPPstore::new(k)`, on lists that begin empty: the sets' zero and one, then zero, one and top of the relations
abbrev pub blank : Store
blank = record { sets = []; rels = [] }

unfoldable pub new : ℕ → Prog
new k = zero_at_depth set k >>= λ sz. one_at_depth set k >>= λ so. zero_at_depth rel k >>= λ z. one_at_depth rel k >>= λ o. top_at_depth k
