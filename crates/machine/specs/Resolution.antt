-- Document 01, 'One pulse', Resolution.
use Rattle.std.specs.Prelude.{ℕ, suc, Bool, List, [], ◌∷◌, Option, Some, None}
use Rattle.laws.specs.Bits.{pick}
use Rattle.machine.specs.declared.WordSlice.{WordSlice}
use Rattle.machine.specs.Machine.{Machine, selected}

-- the lowest number, counted from k, whose element passes the test, or none
unfoldable pub lowest : (ℕ → Bool) → ℕ → List ℕ → Option WordSlice
lowest test k [] = None
lowest test k (x ∷ xs) = pick (test x) (Some (record { 0 = k })) (lowest test (suc k) xs)

-- "The lowest-numbered selected word, or none exactly if no word is selected."
unfoldable pub resolved : ℕ → ℕ → Machine → Option WordSlice
resolved key care m = lowest (selected key care) 0 m.responses
