use Prim.Native.Nat.{ℕ, ◌+◌}
use mathlib.Core.Path.{◌≡◌, ◌∙◌}
use native.Mathlib.Omega.{arith}
use lib.ListN.{take, drop}
use Rattle.machine.specs.declared.ResponseBit.{ResponseBit}
use Rattle.image_layout.specs.Sizes.{response_size, record_size, bits_at, constant_size}
use Rattle.image_layout.proofs.Format.{in_record, made}
use Rattle.image_parts.proofs.image_fields.job_at.Goals as goal

bit_made : (x y : ℕ) → x ≡ y → ◌≡◌ {A = ResponseBit} (record { 0 = x }) (record { 0 = y })
bit_made x y e = rw e

pub returns : goal.returns
returns c =
    let a = c.args in
    let b = a.image.now in
    made (take record_size (drop a.at b)) _ _ _ _ _ _ _ _ _ _ _ _ c.byte_at.ensures
    (c.response_at.ensures ∙ in_record b a.at 1 response_size (omega arith)) (c.response_at-2.ensures ∙ in_record b a.at (1 + response_size) response_size (omega arith))
    (bit_made _ _ c.byte_at-2.ensures) (bit_made _ _ c.byte_at-3.ensures)
    c.span_at.ensures c.span_at-2.ensures c.span_at-3.ensures
    c.byte_at-4.ensures c.byte_at-5.ensures c.byte_at-6.ensures
    (c.number_at.ensures.0 ∙ in_record b a.at (bits_at + 11) constant_size (omega arith))
