use mathlib.Core.Path.{sym, ◌∙◌}
use native.Mathlib.Omega.{arith}
use Rattle.image_parts.proofs.Parts.{long}
use Rattle.image.proofs.ReadCalls.{unbroken}
use Rattle.image.proofs.reading.check_read.Goals as goal

pub words_in-n-requires : goal.words_in-n-requires
words_in-n-requires c =
    let g = long c.args.image.now (sym c.scan_image.ensures ∙ unbroken c.scan_image.result (sym c.in_ok-refuse_bytes.ensures)) in
    omega (arith, g.room)
