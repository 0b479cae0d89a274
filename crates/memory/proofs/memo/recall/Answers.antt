-- `memory::memo::recall` meets its contract: an entry of the window that has the operation's numbers answers.
use mathlib.Core.Path.{◌∙◌}
use native.Mathlib.Omega.{arith}
use Rattle.memory.proofs.Entries.{hit, recalls_hit}
use Rattle.memory.proofs.memo.recall.Goals as goal

pub returns-in-Some : goal.returns-in-Some
returns-in-Some c =
    let a = c.args in
    let room = c.fits.ensures.yes (c.if-not-fits.false) in
    let e = c.in-Some.ensures in
    recalls_hit (λ S. hit a.work.now S c.window-i.result a.op a.level a.a a.b _ c.requires room.0 room.1 c.window-i.ensures.0
    (omega (arith, c.window-i.ensures.1, c.memo_size-entries.ensures.0)) (e.0 ∙ c.first_number-first.ensures) e.1
    (e.2 ∙ c.key-key.ensures) e.3)

pub returns : goal.returns
returns c =
    let a = c.args in
    let room = c.fits.ensures.yes (c.if-not-fits.false) in
    let e = c.in_ok-v.ensures in
    recalls_hit (λ S. hit a.work.now S c.slot.result a.op a.level a.a a.b _ c.requires room.0 room.1
    (c.slot.ensures.0 ∙ c.window-i.ensures.0)
    (omega (arith, c.slot.ensures.2, c.window-i.ensures.1, c.memo_size-entries.ensures.0)) (e.0 ∙ c.first_number-first.ensures) e.1
    (e.2 ∙ c.key-key.ensures) e.3)
