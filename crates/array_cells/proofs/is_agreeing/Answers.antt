use Prim.Native.Nat.{ℕ, ◌+◌, ◌<◌}
use mathlib.Core.Path.{◌≡◌, refl, sym, ap, ap₂, ◌∙◌}
use mathlib.Core.Bool.{Bool, true, false, not}
use native.Mathlib.Numerals.{add-one}
use Rattle.laws.specs.Bits.{every}
use Rattle.laws.proofs.Bits.{every_at}
use Rattle.array.specs.Cells.{mismatch}
use Rattle.array.specs.Operations.{agrees}
use borrow.Author.Rules.{rules}
use Rattle.array_cells.proofs.is_agreeing.Goals as goal

one_more : (k : ℕ) (f : ℕ → Bool) → every k f ≡ true → f k ≡ true → every (k + 1) f ≡ true
unfolding every
one_more k f h e = rw (add-one k, e, h)

-- one place where it fails
fails : (n : ℕ) (f : ℕ → Bool) (i : ℕ) → i < n → f i ≡ false → false ≡ every n f
fails n f i g e = by (every n f) refl
  where
    by : (t : Bool) → every n f ≡ t → false ≡ every n f
    by true h = let x : true ≡ false = sym (every_at n f h i g) ∙ e in cc
    by false h = sym h

pub loop-i-init : goal.loop-i-init
unfolding every
loop-i-init c = refl

pub returns-then-is_mismatch : goal.returns-then-is_mismatch
unfolding agrees
returns-then-is_mismatch c =
    fails _ _ c.loop-i.i (search rules)
    (sym (ap not (c.is_mismatch.ensures ∙ ap₂ mismatch c.argument_at.ensures c.cell_at.ensures)) ∙ ap not c.if-is_mismatch.true)

pub loop-i-preserved : goal.loop-i-preserved
loop-i-preserved c =
    one_more c.loop-i.i _ c.loop-i.invariant
    (sym (ap not (c.is_mismatch.ensures ∙ ap₂ mismatch c.argument_at.ensures c.cell_at.ensures)) ∙ ap not c.if-is_mismatch.false)

pub returns : goal.returns
unfolding agrees
returns c =
    let e : c.loop-i.i ≡ c.args.width = search rules in sym (rw e at c.loop-i.invariant)
