-- `resolver::tree` calls itself on the two halves: the length falls.
use Rattle.std.proofs.Common.{length}
use Rattle.resolver.proofs.+tree.Given as goal

abbrev pub decreases-tree : goal.decreases-tree
decreases-tree l = length l.responses.now
