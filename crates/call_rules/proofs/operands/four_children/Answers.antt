-- `four_children` answers the children's level where all are held at one below k.
use mathlib.Core.Path.{refl, ◌∙◌}
use lib.Dec.{ltb}
use borrow.Author.Tests.{lt-ltb, le-ltb}
use Rattle.memory.proofs.Rows.{plain_length}
use Rattle.call_rules.proofs.Handles.{also_no, also_yes, still_no, level_known, four_none, all_four, four_apart, four_are}
use Rattle.call_rules.proofs.operands.four_children.Goals as goal

pub returns-then-not-all_held : goal.returns-then-not-all_held
returns-then-not-all_held c K e =
    record {
      says = λ B f F. still_no _ _ (four_none K F _ _ _ _ (c.all_held.ensures K _ e (plain_length K B _ _) ∙ c.if-not-all_held.true)) _ refl;
      low = tt;
    }

pub returns-then-not-all_at : goal.returns-then-not-all_at
returns-then-not-all_at c K e =
    record {
      says = λ B f F.
          let h = c.all_held.ensures K _ e (plain_length K B _ _) ∙ c.if-not-all_held.false in
          let t = all_four _ _ _ _ h in
          let p = level_known K B _ _ c.level-l.ensures.0 e f F t.0 in
          still_no _ _ (four_apart K F _ _ _ _ h _ p (c.all_at.ensures K B _ e f F t.1 t.2 t.3 ∙ c.if-not-all_at.true)) _ refl;
      low = tt;
    }

pub returns-then-l-k : goal.returns-then-l-k
returns-then-l-k c K e =
    record {
      says = λ B f F.
          let h = c.all_held.ensures K _ e (plain_length K B _ _) ∙ c.if-not-all_held.false in
          let t = all_four _ _ _ _ h in
          let p = level_known K B _ _ c.level-l.ensures.0 e f F t.0 in
          also_no _ (λ l. ltb l _) (four_are K F _ _ _ _ h _ p (c.all_at.ensures K B _ e f F t.1 t.2 t.3
          ∙ c.if-not-all_at.false)) _ refl (le-ltb _ _ c.if-l-k.true);
      low = tt;
    }

pub returns : goal.returns
returns c K e =
    record {
      says = λ B f F.
          let h = c.all_held.ensures K _ e (plain_length K B _ _) ∙ c.if-not-all_held.false in
          let t = all_four _ _ _ _ h in
          let p = level_known K B _ _ c.level-l.ensures.0 e f F t.0 in
          also_yes _ (λ l. ltb l _) (four_are K F _ _ _ _ h _ p (c.all_at.ensures K B _ e f F t.1 t.2 t.3
          ∙ c.if-not-all_at.false)) _ refl (lt-ltb _ _ c.if-l-k.false);
      low = c.level-l.ensures.1;
    }
