-- A text put into a lent buffer behind the bytes that are used.
use Rattle.std.specs.Prelude.{ℕ, ◌+◌, ◌≤◌, ◌≡◌, List, length}
use Rattle.std.proofs.lemmas.List.Edits.{sets}

-- `Puts s at out now n`: where the text s has room in `out` from `at` on, it stands there `now`, and n bytes are used
abbrev pub Puts : List ℕ → ℕ → List ℕ → List ℕ → ℕ → Type 0
Puts s at out now n = at + length s ≤ length out → (n ≡ at + length s) × (now ≡ sets out at s)
