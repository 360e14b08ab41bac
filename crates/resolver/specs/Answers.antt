-- Document 01, 'One pulse', Resolution, and 'Numbers given when a call is turned down': what resolving answers.
use Rattle.std.specs.Prelude.{length, get_or, List, Bool, true, false, ◌≡◌, ℕ, ◌<◌, Option, Some, None, Result, Ok, Err}
use Rattle.machine.specs.declared.WordSlice.{WordSlice}
use Rattle.machine.specs.declared.Refusal.{Refusal}
use Rattle.machine.specs.Machine.{Machine}
use Rattle.machine.specs.Resolution.{resolved}
use Rattle.machine.specs.Refusals.{machine_check, answer_by, number_of, also_answers}

-- "The lowest-numbered selected word, or none exactly if no word is selected."; "resolution for 1 to 3"
unfoldable pub resolution : ℕ → ℕ → Machine → Result (Option WordSlice) Refusal
resolution key care m = answer_by (machine_check m) (resolved key care m)

-- ---- each answer's number and values; "other answer fields are 0"

-- the refusal's number, 0 for none, and what it also answers; 1 if a word was found, and its number
pub record Told : Type 0 where
  pub refusal : ℕ
  pub also : ℕ
  pub found : ℕ
  pub word : ℕ

abbrev pub told : Result (Option WordSlice) Refusal → Told
told (Ok (Some k)) = record { refusal = 0; also = 0; found = 1; word = k.0 }
told (Ok None) = record { refusal = 0; also = 0; found = 0; word = 0 }
told (Err r) = record { refusal = number_of r; also = also_answers r; found = 0; word = 0 }

-- ---- words of the theorems

-- no element passes
abbrev pub NonePasses : (ℕ → Bool) → List ℕ → Type 0
NonePasses test xs = (i : ℕ) → i < length xs → test (get_or xs i 0) ≡ false

-- element i passes, and no lower one does
pub record LowestAt (test : ℕ → Bool) (xs : List ℕ) (i : ℕ) : Type 0 where
  pub within : i < length xs
  pub passes : test (get_or xs i 0) ≡ true
  pub none_lower : (j : ℕ) → j < i → test (get_or xs j 0) ≡ false
