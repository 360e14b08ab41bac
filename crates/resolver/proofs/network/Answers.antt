-- At most 1,024 words pass the checks, so no word number overflows.
use native.Mathlib.Omega.{arith}
use borrow.Author.Rules.{rules}
use Rattle.machine.specs.Machine.{machine}
use Rattle.resolver.proofs.Sizes.{sized}
use Rattle.resolver.proofs.network.Goals as goal

pub tree-requires : goal.tree-requires
tree-requires c =
    let a = c.args in
    let s = sized (machine a.width a.words.now a.responses.now) (search rules) in
    omega (arith, s.few)
