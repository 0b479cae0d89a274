-- Four numbers written side by side are the node at its place.
use native.Mathlib.Omega.{arith}
use Rattle.memory.proofs.RelationNodes.{wrote_paste}
use Rattle.memory.proofs.relation_node.FourNumbers.put.Goals as goal

pub returns : goal.returns
returns c = let x = c.args.self in wrote_paste _ _ x.x00 x.x01 x.x10 x.x11 (omega arith)
