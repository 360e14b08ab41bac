-- The panel's load, both pulses, the explainer and resolution for callers in other languages: what is refused, told and left (house, but for the calls' own
-- definitions; docs/DECISIONS.md, 'The library for C').
use Rattle.std.specs.Prelude.{ℕ, not, List, [], ◌∷◌, Ok, Err}
use Rattle.machine.specs.declared.Refusal.TheVariants.{PanelTooWide}
use Rattle.machine.specs.Machine.{Machine}
use Rattle.machine.specs.Panel.{panel_of, load}
use Rattle.machine.specs.Pulse.{count_of, read_of, pulsed}
use Rattle.machine.specs.Resolution.{resolved}
use Rattle.machine.specs.Refusals.{Check, refuse, machine_check, pulse_check, answer_by, change_by, number_of, Told, told}
use Rattle.panel.specs.Numbered.{takes}
use Rattle.explainer.specs.Reasons as reasons
use Rattle.resolver.specs.Answers as resolving
use Rattle.entry_forms.specs.Numbers.{lower, panel_check, lines_of, lines_check, room_check, resolved_size}

-- ---- the panel's load: a value that its register doesn't take, or no such register, is 4

unfoldable pub load_check : List ℕ → ℕ → ℕ → Check
load_check registers k v = lower (panel_check registers) (refuse PanelTooWide (not (takes k v)))

-- a refusal's number, 0 for none
abbrev pub number_in : Check → ℕ
number_in (Ok tt) = 0
number_in (Err r) = number_of r

unfoldable pub load_number : List ℕ → ℕ → ℕ → ℕ
load_number registers k v = number_in (load_check registers k v)

unfoldable pub loaded : List ℕ → ℕ → ℕ → List ℕ
loaded registers k v = change_by (load_check registers k v) (load k v (panel_of registers)) registers

-- ---- a pulse

-- its answer as numbers, in the order of `told`
abbrev pub pulse_size : ℕ
pulse_size = 4

abbrev pub pulse_numbers : Told → List ℕ
pulse_numbers t = t.refusal ∷ t.also ∷ t.count ∷ t.read ∷ []

-- what its arguments are refused for by themselves: panel, line byte, room for the answer
abbrev pub pulse_own : List ℕ → ℕ → ℕ → Check
pulse_own registers lines room = lower (panel_check registers) (lower (lines_check lines) (room_check pulse_size room))

unfoldable pub pulse_entry : Machine → List ℕ → ℕ → ℕ → Check
pulse_entry m registers lines room = lower (pulse_own registers lines room) (pulse_check m (panel_of registers) (lines_of lines))

unfoldable pub pulse_told : Machine → List ℕ → ℕ → ℕ → Told
pulse_told m registers lines room =
    let p = panel_of registers in
    let l = lines_of lines in
    told (answer_by (pulse_entry m registers lines room) (record { count = count_of m p l; read = read_of m p l }))

unfoldable pub pulse_left : Machine → List ℕ → ℕ → ℕ → Machine
pulse_left m registers lines room = change_by (pulse_entry m registers lines room) (pulsed m (panel_of registers) (lines_of lines)) m

-- ---- the explainer

abbrev pub explained_size : ℕ
explained_size = 5

abbrev pub explained_numbers : reasons.Told → List ℕ
explained_numbers t = t.refusal ∷ t.also ∷ t.answer ∷ t.syllable ∷ t.bit ∷ []

-- what its arguments are refused for by themselves: panel, room for the answer
abbrev pub explain_own : List ℕ → ℕ → Check
explain_own registers room = lower (panel_check registers) (room_check explained_size room)

unfoldable pub explain_entry : Machine → List ℕ → ℕ → ℕ → Check
explain_entry m registers word room = lower (explain_own registers room) (reasons.explain_check m (panel_of registers) (record { 0 = word }))

unfoldable pub explained_told : Machine → List ℕ → ℕ → ℕ → reasons.Told
explained_told m registers word room =
    reasons.told (answer_by (explain_entry m registers word room) (reasons.reason_at m (panel_of registers) (record { 0 = word })))

-- ---- resolution

unfoldable pub resolved_told : ℕ → ℕ → Machine → ℕ → resolving.Told
resolved_told key care m room =
    resolving.told (answer_by (lower (room_check resolved_size room) (machine_check m)) (resolved key care m))
