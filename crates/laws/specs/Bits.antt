-- Bits of numbers, and the number that bits make: the words in which document 01's sentences on bits are written down.
use Rattle.std.specs.Prelude.{ℕ, zero, suc, ◌+◌, ◌*◌, ◌/◌, ◌%◌, ◌^◌, Bool, true, false, ◌&&◌, eqb}

-- bit i of a number: "Bit 0 is least significant (house)."
abbrev pub bit : ℕ → ℕ → ℕ
bit x i = x / 2 ^ i % 2

-- the number of k bits, of which f 0 is the lowest
unfoldable pub number : ℕ → (ℕ → ℕ) → ℕ
number zero f = zero
number (suc k) f = f k * 2 ^ k + number k f

-- f holds at each place below k
unfoldable pub every : ℕ → (ℕ → Bool) → Bool
every zero f = true
every (suc k) f = f k && every k f

-- x where the test holds, else y
abbrev pub pick : {A : Type 0} → Bool → A → A → A
pick true x y = x
pick false x y = y

-- the bit that says whether a test holds
abbrev pub digit : Bool → ℕ
digit true = 1
digit false = 0

-- at each place: f under a one of the mask, and g elsewhere
abbrev pub under : ℕ → (ℕ → ℕ) → (ℕ → ℕ) → ℕ → ℕ
under mask f g i = pick (eqb (bit mask i) 1) (f i) (g i)
