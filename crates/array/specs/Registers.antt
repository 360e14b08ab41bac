-- The bit control unit of source document 001: "two data registers (R1, R2) defining a data source or sink for an array operation; and one mask register (M)".
use Rattle.std.specs.Prelude.{ℕ, ◌-◌, ◌^◌}
use Rattle.array.specs.declared.Registers.{Registers}
use Rattle.array.specs.declared.Source.{Source}
use Rattle.array.specs.declared.Source.TheVariants as source
use Rattle.array.specs.declared.Mask.{Mask}
use Rattle.array.specs.declared.Mask.TheVariants as mask
use Rattle.array.specs.declared.Sink.{Sink}
use Rattle.array.specs.declared.Sink.TheVariants as sink

-- "the specified data register (R1, R2)"
abbrev pub data_of : Registers → Source → ℕ
data_of r source.R1 = r.r1
data_of r source.R2 = r.r2

-- the number whose n bits are all 1 (house, docs/DECISIONS.md 'What are "all 1's" of a mask?')
abbrev pub all_ones : ℕ → ℕ
all_ones n = 2 ^ n - 1

-- "the specified mask (M, all 1's, all 0's)"
abbrev pub mask_of : ℕ → Registers → Mask → ℕ
mask_of n r mask.M = r.m
mask_of n r mask.Ones = all_ones n
mask_of n r mask.Zeros = 0

-- "a specified register (R1, R2, M)": what it holds, and the registers after it is loaded
abbrev pub sink_of : Registers → Sink → ℕ
sink_of r sink.R1 = r.r1
sink_of r sink.R2 = r.r2
sink_of r sink.M = r.m

abbrev pub load : Sink → ℕ → Registers → Registers
load sink.R1 v r = record { r1 = v; r2 = r.r2; m = r.m }
load sink.R2 v r = record { r1 = r.r1; r2 = v; m = r.m }
load sink.M v r = record { r1 = r.r1; r2 = r.r2; m = v }
