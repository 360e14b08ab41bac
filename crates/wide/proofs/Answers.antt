-- What a pulse answers and leaves, where nothing is turned down and where something is.
-- Document 01, 'Numbers given when a call is turned down': "Nothing lent changes; other answer fields are 0."
use Prim.Native.Nat.{ℕ}
use mathlib.Core.Path.{◌≡◌}
use mathlib.Core.List.{List}
use lib.ListN.{get_or}
use Rattle.laws.specs.Bits.{pick}
use Rattle.machine.specs.declared.Panel.{Panel}
use Rattle.machine.specs.declared.Lines.{Lines}
use Rattle.machine.specs.declared.Refusal.{Refusal}
use Rattle.std.specs.Prelude.{Ok, Err}
use Rattle.machine.specs.Machine.{Machine}
use Rattle.machine.specs.Pulse.{count_of, read_of, pulsed}
use Rattle.machine.specs.Refusals.{pulse_check, answer_of, after}

module _ (m : Machine) (p : Panel) (l : Lines) where
  pub done : (k x : ℕ) (ws rs : List ℕ) → pulse_check m p l ≡ Ok tt → k ≡ count_of m p l → x ≡ pick l.read (get_or m.words p.address.0 0) 0
      → ws ≡ (pulsed m p l).words → rs ≡ (pulsed m p l).responses
      → (Ok (record { count = k; read = x }) ≡ answer_of m p l) × ((ws ≡ (after m p l).words) × (rs ≡ (after m p l).responses))
  unfolding answer_of after read_of
  done k x ws rs g hk hx hw hr = (rw (g, hk, hx), (rw g hw, rw g hr))

  pub turned_down : (r : Refusal) → pulse_check m p l ≡ Err r
      → (Err r ≡ answer_of m p l) × ((m.words ≡ (after m p l).words) × (m.responses ≡ (after m p l).responses))
  unfolding answer_of after
  turned_down r g = (rw g, (rw g, rw g))
