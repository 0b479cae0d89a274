-- `image_tests` knows what the properties say of an image.
use mathlib.Core.Path.{sym, ap}
use borrow.Author.Tests.{lt-ltb}
use Rattle.model.specs.Programs.{ret}
use Rattle.memory.proofs.Steps.{begin, by, yes, less_says}
use Rattle.memory.proofs.Shortcuts.{shortcuts}
use Rattle.relation_images.proofs.moves.image_tests.Goals as goal

pub returns-then-p-lt2 : goal.returns-then-p-lt2
returns-then-p-lt2 c j whole node = record { reduces = by (yes begin (less_says (lt-ltb _ 2 c.if-p-lt2.true))) (ap ret (sym c.min.ensures)) }

pub returns-then-pp : goal.returns-then-pp
returns-then-pp c j whole node = search (shortcuts, c.if-p-lt2.false, c.set_properties-pp.ensures) depth 20

pub returns-then-pa : goal.returns-then-pa
returns-then-pa c j whole node = search (shortcuts, c.if-p-lt2.false, c.set_properties-pp.ensures, c.relation_properties-pa.ensures) depth 20

pub returns-then-pa-2 : goal.returns-then-pa-2
returns-then-pa-2 c j whole node = search (shortcuts, c.if-p-lt2.false, c.set_properties-pp.ensures, c.relation_properties-pa.ensures) depth 20

pub returns-then-pa-3 : goal.returns-then-pa-3
returns-then-pa-3 c j whole node = search (shortcuts, c.if-p-lt2.false, c.set_properties-pp.ensures, c.relation_properties-pa.ensures) depth 20

pub returns-then-pp-2 : goal.returns-then-pp-2
returns-then-pp-2 c j whole node = search (shortcuts, c.if-p-lt2.false, c.set_properties-pp.ensures, c.relation_properties-pa.ensures) depth 20

pub returns : goal.returns
returns c j whole node = search (shortcuts, c.if-p-lt2.false, c.set_properties-pp.ensures, c.relation_properties-pa.ensures) depth 20
