-- `star` runs its program; the measure is the level.
use Rattle.relation_products.proofs.+star.Given as goal

abbrev pub decreases-star : goal.decreases-star
decreases-star l = l.level
