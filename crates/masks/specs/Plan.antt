-- What a pulse works out of the panel once, as the code computes it. Document 01, 'One pulse'; document 02, request c.
use Rattle.std.specs.Prelude.{ℕ, ◌-◌, ◌^◌, ◌<◌, ◌≤◌, bit_and, bit_or, bit_xor}
use Rattle.machine.specs.declared.Panel.{Panel}
use Rattle.fields.specs.Fields.{fields, add_in, above_in}
use Rattle.fields.specs.Tops.{tops_of}
use Rattle.sweeps.specs.declared.Masks.{Masks}
use Rattle.sweeps.specs.declared.Tags.{Tags}
use Rattle.sweeps.specs.declared.Changes.{Changes}

-- numbers 2 and 4 are not given
pub record Fit (n : ℕ) (p : Panel) : Type 0 where
  pub least : 0 < n
  pub most : n ≤ 64
  pub comp : p.comp < 2 ^ n
  pub sdr : p.sdr < 2 ^ n
  pub sc1 : p.sc1 < 2 ^ n
  pub sc2 : p.sc2 < 2 ^ n
  pub mor : p.mor < 2 ^ n
  pub sc3 : p.sc3 < 2 ^ n

-- the bits of code exact, and of code larger, where SC1 is a and SC2 is b
abbrev pub exact_bits : ℕ → ℕ → ℕ
exact_bits a b = bit_xor b (bit_and a b)

abbrev pub larger_bits : ℕ → ℕ → ℕ
larger_bits a b = bit_xor a (bit_and a b)

-- what a turned word must stay below in each syllable: smaller, COMP; larger, COMP's complement; exact, the lowest exact bit. `less` is each
-- syllable of the exact bits less one.
abbrev pub limit_of : ℕ → ℕ → ℕ → ℕ → ℕ
limit_of a b c less = bit_xor (bit_xor (exact_bits a b) (bit_and (exact_bits a b) less)) (bit_xor (bit_and c a) (larger_bits a b))

-- what turns the cared bits of a word, within n bits
abbrev pub flip_of : ℕ → ℕ → ℕ → ℕ → ℕ
flip_of n a b c = bit_xor (2 ^ n - 1) (bit_xor (larger_bits a b) (bit_and c (exact_bits a b)))

-- at least is not smaller, at most is not larger: under SC3 the two codes are swapped, and at the top the contrary is wanted
unfoldable pub masks_of : ℕ → Panel → Masks
masks_of n p =
    let t = tops_of n p.sdr in
    let low = 2 ^ 64 - 1 - t in
    let care = bit_or p.sc1 p.sc2 in
    let second = bit_xor p.sc2 p.sc3 in
    let flip = flip_of n p.sc1 second p.comp in
    let limit = limit_of p.sc1 second p.comp (add_in (fields n t) (exact_bits p.sc1 second) (2 ^ n - 1) 0) in
    let need = above_in (fields n t) care 0 0 in
    record {
      topcare = bit_and care need;
      topflip = bit_and (bit_xor flip limit) need;
      lowcare = bit_and care low;
      lowflip = bit_and flip low;
      rest = bit_and limit low;
      limit = limit;
      want = bit_xor (bit_and need (2 ^ 64 - 1 - limit)) (above_in (fields n t) p.sc3 0 0);
    }

unfoldable pub tags_of : Panel → Tags
tags_of p = record { key = p.key; care = p.care; target = p.target }

unfoldable pub changes_of : ℕ → Panel → Changes
changes_of n p =
    let t = tops_of n p.sdr in
    let addend = bit_and p.comp p.mor in
    record {
      comp = p.comp;
      mor = p.mor;
      addend = addend;
      rest = bit_and addend (2 ^ 64 - 1 - t);
      low = 2 ^ 64 - 1 - t;
      tops = t;
    }
