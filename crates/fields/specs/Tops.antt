-- A width, and the top bits of its syllables: SDR's ones and bit N-1.
use Rattle.std.specs.Prelude.{ℕ, ◌-◌, ◌/◌, ◌%◌, ◌^◌, ◌≤◌, ◌<◌, ◌≡◌}
use Rattle.std.specs.Int.Bits.{bit_or}

abbrev pub tops_of : ℕ → ℕ → ℕ
tops_of n sdr = bit_or sdr (2 ^ (n - 1))

-- n is a width, t has no bit at or above it, and its highest bit is a top
pub record Topped (n t : ℕ) : Type 0 where
  pub pos : 0 < n
  pub wide : n ≤ 64
  pub within : t < 2 ^ n
  pub top : t / 2 ^ (n - 1) % 2 ≡ 1
