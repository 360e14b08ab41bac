-- What an operation answers and leaves, where it is turned down and where it isn't.
use Prim.Native.Nat.{ℕ}
use mathlib.Core.Path.{◌≡◌, ap₂}
use mathlib.Core.List.{List}
use Rattle.array.specs.declared.Registers.{Registers}
use Rattle.array.specs.declared.Operation.{Operation}
use Rattle.array.specs.declared.Refusal.{Refusal}
use Rattle.array.specs.declared.Answer.{Answer}
use Rattle.std.specs.Prelude.{Result, Ok}
use Rattle.array.specs.Operations.{Array, words_of, registers_after, count_of, operated}
use Rattle.array.specs.Refusals.{call_check, answer_of, after}

-- the answer, and the three buffers
abbrev pub Told : Array → Registers → Operation → Result Answer Refusal → List ℕ → List ℕ → List ℕ → Type 0
Told a r o t os xs ss = (t ≡ answer_of a r o) × ((os ≡ (after a r o).ones) × ((xs ≡ (after a r o).xs) × (ss ≡ (after a r o).selectors)))

-- the answer of these registers and this count
abbrev pub an_answer : Registers → ℕ → Answer
an_answer q k = record { registers = q; count = k }

module _ (a : Array) (r : Registers) (o : Operation) where
  module _ (h : call_check a r ≡ Ok tt) where
    pub answered : (q : Registers) (k : ℕ) → q ≡ registers_after a.width r o (words_of a) → k ≡ count_of a r o → Ok (an_answer q k) ≡ answer_of a r o
    unfolding answer_of
    answered q k eq ek = rw h (ap₂ (λ (x : Registers) (n : ℕ). Ok (an_answer x n)) eq ek)

    pub left : operated a r o ≡ after a r o
    unfolding after
    left = rw h
