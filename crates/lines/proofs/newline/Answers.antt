use Prim.Native.Nat.{ℕ, ◌+◌, ◌<◌}
use mathlib.Core.Path.{◌≡◌, refl, sym}
use mathlib.Core.List.{List, [], ◌∷◌}
use borrow.Author.Tests.{eq-eqb, ne_eqb, tests}
use lib.ListN.{length}
use Rattle.std.specs.Prelude.{Option, Some, None, MatchOption, HoldsAt}
use Rattle.std.specs.List.{AllWithin}
use Rattle.std.proofs.lemmas.Iterator.{YieldsList-from_slice, IsFirst-from_position, index_from_first}
use Rattle.text.specs.Words.{ahead}
use Rattle.lines.specs.Input.{is_plain, before_newline}
use borrow.Author.Rules.{rules}
use Rattle.lines.proofs.newline.Goals as goal

abbrev Yes : ℕ → Type 0
Yes byte = byte ≡ 10

abbrev No : ℕ → Type 0
No byte = byte ≡ 10 → ⊥

none : ahead is_plain [] ≡ 0
unfolding ahead
none = refl

hit : (b : ℕ) (s : List ℕ) → Yes b → ahead is_plain (b ∷ s) ≡ 0
unfolding ahead
hit b s e = rw (eq-eqb b 10 e)

miss : (b : ℕ) (s : List ℕ) → No b → ahead is_plain (b ∷ s) ≡ ahead is_plain s + 1
unfolding ahead
miss b s n = rw (ne_eqb b 10 n)

found : (s : List ℕ) (r : Option ℕ) → MatchOption r (AllWithin No s 0 (length s)) (λ i. (i < length s) × HoldsAt Yes s i × AllWithin No s 0 i) →
    MatchOption r (before_newline s ≡ length s) (λ end. (end ≡ before_newline s) × (end < length s))
found s None h = index_from_first (ahead is_plain) Yes No none hit miss s None h
found s (Some i) h = (sym (index_from_first (ahead is_plain) Yes No none hit miss s (Some i) h), h.0)

pub returns : goal.returns
returns c = found c.args.s.now _ (IsFirst-from_position _ _ _ Yes No c.position.ensures.ran (YieldsList-from_slice c.args.s.now cc) (λ x q k. search (rules, tests)) (λ x q k. search (rules, tests)))
