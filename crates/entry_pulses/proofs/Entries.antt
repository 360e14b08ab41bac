-- What the panel that the code hands on comes to: all of the buffer where its check passes, and what is checked always.
use Prim.Native.Nat.{ℕ}
use mathlib.Core.Path.{◌≡◌, refl, ap, ◌∙◌}
use mathlib.Core.Bool.{not}
use mathlib.Core.List.{List}
use lib.Dec.{eqb}
use lib.ListN.{length}
use borrow.Author.Tests.{eqb-true, not-false}
use Rattle.std.specs.Prelude.{Result, Ok, Err}
use Rattle.laws.specs.Bits.{pick}
use Rattle.machine.specs.declared.Panel.{Panel}
use Rattle.machine.specs.declared.WordSlice.{WordSlice}
use Rattle.machine.specs.declared.Refusal.{Refusal}
use Rattle.machine.specs.declared.Refusal.TheVariants.{Size, PanelTooWide}
use Rattle.machine.specs.declared.Answer.{Answer}
use Rattle.machine.specs.Machine.{Machine}
use Rattle.machine.specs.Panel.{panel_of, registers, load}
use Rattle.machine.specs.Pulse.{count_of, read_of}
use Rattle.machine.specs.Refusals.{Check, refuse, pulse_check, answer_of, answer_by}
use Rattle.machine.proofs.Refusals.{else_passed, not_refused}
use Rattle.panel.specs.Numbered.{takes}
use Rattle.explainer.specs.declared.Reason.{Reason}
use Rattle.explainer.specs.Reasons.{searching, explain_check, reason_at, explained}
use Rattle.entry_forms.specs.Numbers.{lower_of, lower, panel_size, panel_check, panel_in, lines_of}
use Rattle.entry_forms.proofs.Numbers.{panel_in_lem, check_in}
use Rattle.entry_pulses.specs.Entries.{load_check, loaded, pulse_own, pulse_entry, explain_own, explain_entry}

lower_passed : (c d : Check) → lower c d ≡ Ok tt → (c ≡ Ok tt) × (d ≡ Ok tt)
lower_passed (Ok tt) d h = (refl, h)
lower_passed (Err r) d h = (cc, cc)

-- ---- the panel's load

module _ (rs : List ℕ) (k v : ℕ) (e : load_check rs k v ≡ Ok tt) where
  pub load_size : length rs ≡ panel_size
  unfolding load_check
  load_size =
      let fits = (lower_passed (panel_check rs) _ e).0 in
      let long = not_refused Size _ (else_passed (refuse Size (not (eqb (length rs) panel_size))) _ fits).0 in
      eqb-true (length rs) panel_size (not-false (eqb (length rs) panel_size) long)

  pub load_passed : (p : Panel) → p ≡ panel_in rs → pick (takes k v) (load k v p) (registers p) ≡ loaded rs k v
  unfolding loaded load_check
  load_passed p ip =
      let both = lower_passed (panel_check rs) (refuse PanelTooWide (not (takes k v))) e in
      let taken = not-false (takes k v) (not_refused PanelTooWide (not (takes k v)) both.1) in
      rw (e, taken) (ap (load k v) (ip ∙ panel_in_lem rs both.0))

-- ---- a pulse

module _ (m : Machine) (rs : List ℕ) (line room : ℕ) where
  -- what the entry tells
  abbrev pub pulse_given : Result Answer Refusal
  pulse_given =
      answer_by (pulse_entry m rs line room)
      (record { count = count_of m (panel_of rs) (lines_of line); read = read_of m (panel_of rs) (lines_of line) })

  module _ (q : pulse_own rs line room ≡ Ok tt) where
    whole : panel_in rs ≡ panel_of rs
    whole = panel_in_lem rs (lower_passed (panel_check rs) _ q).0

    pub pulse_answers : answer_of m (panel_in rs) (lines_of line) ≡ pulse_given
    unfolding answer_of pulse_entry
    pulse_answers = rw q (ap (λ (p : Panel). answer_of m p (lines_of line)) whole)

  pub pulse_refuses : (why : Refusal) → pulse_own rs line room ≡ Err why
      → Err (lower_of why (pulse_check m (panel_in rs) (lines_of line))) ≡ pulse_given
  unfolding pulse_entry
  pulse_refuses why q = rw q (ap (λ (c : Check). Err (lower_of why c)) (check_in m rs (lines_of line)))

-- ---- the explainer

-- key, care and target are not judged
explain_in : (m : Machine) (rs : List ℕ) (w : WordSlice) → explain_check m (panel_in rs) w ≡ explain_check m (panel_of rs) w
unfolding explain_check
explain_in m rs w = rw (check_in m rs searching)

module _ (m : Machine) (rs : List ℕ) (w room : ℕ) where
  abbrev at : WordSlice
  at = record { 0 = w }

  -- what the entry tells
  abbrev pub explain_given : Result Reason Refusal
  explain_given = answer_by (explain_entry m rs w room) (reason_at m (panel_of rs) at)

  pub explain_answers : explain_own rs room ≡ Ok tt → explained m (panel_in rs) at ≡ explain_given
  unfolding explained explain_entry
  explain_answers q = rw q (ap (λ (p : Panel). explained m p at) (panel_in_lem rs (lower_passed (panel_check rs) _ q).0))

  pub explain_refuses : (why : Refusal) → explain_own rs room ≡ Err why
      → Err (lower_of why (explain_check m (panel_in rs) at)) ≡ explain_given
  unfolding explain_entry
  explain_refuses why q = rw q (ap (λ (c : Check). Err (lower_of why c)) (explain_in m rs at))
