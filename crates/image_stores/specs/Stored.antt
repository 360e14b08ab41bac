-- The image's sections before the job, as the code stores them one after the other.
use Rattle.std.specs.Prelude.{ℕ, List, [], ◌∷◌, ◌++◌}
use Rattle.machine.specs.Machine.{Machine}
use Rattle.image_layout.specs.Sizes.{width_size, word_size, response_size}
use Rattle.image_layout.specs.Format.{bytes, section}

-- the three sections before the job
unfoldable pub machine_bytes : Machine → List ℕ
machine_bytes m = section (bytes width_size) (m.width ∷ []) ++ (section (bytes word_size) m.words ++ section (bytes response_size) m.responses)
