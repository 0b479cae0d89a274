-- `walked` has the word of the handle's nodes; the measure is the level.
use Rattle.memory.proofs.property_words.+walked.Given as goal

abbrev pub decreases-walked : goal.decreases-walked
decreases-walked l = l.level
