-- The line's first word names the command, and what stands behind it is the command's own.
use Prim.Native.Nat.{ℕ, ◌-◌, ◌<◌}
use mathlib.Core.Path.{◌≡◌, refl}
use mathlib.Core.List.{List}
use native.Mathlib.Omega.{arith}
use lib.ListN.{take, drop}
use Rattle.text.specs.declared.Place.{Place}
use Rattle.text.specs.Words.{word_at, words_of}
use Rattle.text.proofs.Runs.{here_none, here_one}
use Rattle.array_console.specs.declared.Outcome.TheVariants as outcome
use Rattle.array_console.specs.Commands.{ended}
use Rattle.array_console.specs.Obeying.{Bench, bench, only, named, obeyed}
use Rattle.array_console.proofs.Loads.{after, after_is}
use Rattle.array_console.proofs.obey.Goals as goal

module _ (b : Bench) (line : List ℕ) (p : Place) (is : p ≡ word_at line 0) where
  none : p.from ≡ p.to → obeyed b (words_of line) ≡ only b (ended b.rack outcome.BadLine)
  unfolding obeyed
  none e = rw (here_none line 0 p is (omega arith) e)

  one : p.from < p.to → obeyed b (words_of line) ≡ named b (take (p.to - p.from) (drop p.from line)) (words_of (after line p.to))
  unfolding obeyed
  one h = rw (here_one line 0 p is (omega arith) h, after_is line p.to)

pub returns-then-word : goal.returns-then-word
returns-then-word c =
    let a = c.args in
    let n = c.next-word in
    rw (none (bench a.rack a.ones.now a.xs.now a.selectors.now) a.line.now n.result n.ensures.value (omega arith)) (record {
      value = c.ended.ensures;
      ones_after = refl;
      xs_after = refl;
      selectors_after = refl;
    })

pub returns : goal.returns
returns c =
    let a = c.args in
    let n = c.next-word in
    rw (one (bench a.rack a.ones.now a.xs.now a.selectors.now) a.line.now n.result n.ensures.value (omega arith)) (record {
      value = c.by_name.ensures.value;
      ones_after = c.by_name.ensures.ones_after;
      xs_after = c.by_name.ensures.xs_after;
      selectors_after = c.by_name.ensures.selectors_after;
    })
