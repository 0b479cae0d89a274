-- `first_member` runs its program; the measure is the level.
use Rattle.first_paths.proofs.members.+first_member.Given as goal

abbrev pub decreases-first_member : goal.decreases-first_member
decreases-first_member l = l.level
