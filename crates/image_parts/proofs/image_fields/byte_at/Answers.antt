use mathlib.Core.Path.{sym, ◌∙◌}
use lib.ListN.{drop}
use lib.Seq.{get_or-take, get_or-drop}
use Rattle.image_layout.specs.Sizes.{record_size}
use Rattle.image_parts.proofs.image_fields.byte_at.Goals as goal

pub returns : goal.returns
returns c =
    let a = c.args in
    sym (get_or-take record_size (drop a.at a.image.now) a.k 0 c.requires.1 ∙ get_or-drop a.at a.image.now a.k 0)
