-- The image read into the first entries of the machine's buffers.
use Prim.Native.Nat.{ℕ}
use mathlib.Core.Path.{◌≡◌, sym, ◌∙◌}
use mathlib.Core.List.{List}
use lib.ListN.{length, take}
use Rattle.std.specs.Prelude.{Option, Some}
use Rattle.console_commands.specs.declared.Board.{Board}
use Rattle.console_commands.specs.declared.Turn.{Turn}
use Rattle.console_storing.specs.Images.{have, read_turn, read_words, read_responses, Reading, image_length, kept, reading_turn, reading_words, reading_responses, reading_bytes}
use Rattle.console_storing.proofs.Digits.{image_holds}

-- ---- destinations that the buffers have, and others

-- the turn and the two buffers
abbrev pub Reads : Board → Option ℕ → List ℕ → ℕ → ℕ → List ℕ → List ℕ → Turn → List ℕ → List ℕ → Type 0
Reads b n image w r words responses t ws rs =
    (t ≡ read_turn b n image (have w r words responses) w r)
    × ((ws ≡ read_words n image (have w r words responses) w r words responses)
    × (rs ≡ read_responses n image (have w r words responses) w r words responses))

-- ---- the digits are bytes

-- the turn and the three buffers
abbrev pub Ends : Board → Reading → List ℕ → List ℕ → List ℕ → Turn → List ℕ → List ℕ → List ℕ → Type 0
Ends b q words responses bytes t ws rs bs =
    (t ≡ reading_turn b q words responses (length bytes))
    × ((ws ≡ reading_words q words responses (length bytes))
    × ((rs ≡ reading_responses q words responses (length bytes)) × (bs ≡ reading_bytes q bytes)))

module _ (args : List (List ℕ)) (bytes : List ℕ) (found : Option ℕ) (is : found ≡ image_length args (length bytes)) (left : List ℕ) (put : left ≡ kept args bytes)
    (b : Board) (w r : ℕ) (words responses : List ℕ) where
  abbrev Made : Turn → List ℕ → List ℕ → Type 0
  Made t ws rs = Ends b (record { words = Some w; responses = Some r; image = args }) words responses bytes t ws rs left

  pub an_image : (k : ℕ) → found ≡ Some k → (t : Turn) (ws rs : List ℕ) → Reads b (Some k) (take k left) w r words responses t ws rs → Made t ws rs
  an_image k e t ws rs told =
      let g : image_length args (length bytes) ≡ Some k = sym is ∙ e in
      let h = rw (image_holds args bytes found is left put k e).1 at told in rw g (h.0, (h.1.0, (h.1.1, put)))
