-- The panel that the code hands on keeps what counts of the buffer: all of it where the buffer's check passes, and always what a pulse is
-- checked for.
use Prim.Native.Nat.{ℕ, ◌%◌, ◌^◌}
use mathlib.Core.Path.{◌≡◌, refl}
use mathlib.Core.Bool.{false, not, ◌||◌}
use mathlib.Core.List.{List}
use native.Mathlib.Nat.{mod-eq_of_lt}
use lib.Dec.{eqb}
use lib.ListN.{length, get_or}
use borrow.Author.Tests.{leb-false}
use Rattle.std.specs.Prelude.{Ok}
use Rattle.machine.specs.declared.Lines.{Lines}
use Rattle.machine.specs.declared.Refusal.TheVariants.{Size, PanelTooWide}
use Rattle.machine.specs.Machine.{Machine, response_bits}
use Rattle.machine.specs.Panel.{panel_of}
use Rattle.machine.specs.Search.{one_code, one_setting, compared_only}
use Rattle.machine.specs.Refusals.{too_wide, bad_panel, bad_codes, bad_address, refuse, pulse_check}
use Rattle.machine.proofs.Refusals.{else_passed, not_refused, or_left, or_right}
use Rattle.entry_forms.specs.Numbers.{panel_size, overflows, panel_check, panel_in}

narrow : (x : ℕ) → too_wide response_bits x ≡ false → x % 2 ^ response_bits ≡ x
narrow x h = mod-eq_of_lt (leb-false (2 ^ response_bits) x h)

pub panel_in_lem : (rs : List ℕ) → panel_check rs ≡ Ok tt → panel_in rs ≡ panel_of rs
panel_in_lem rs h =
    let any = overflows rs 5 || (overflows rs 6 || overflows rs 7) in
    let none = not_refused PanelTooWide any (else_passed (refuse Size (not (eqb (length rs) panel_size))) (refuse PanelTooWide any) h).1 in
    let late = or_right (overflows rs 5) (overflows rs 6 || overflows rs 7) none in
    rw (
      narrow (get_or rs 5 0) (or_left (overflows rs 5) (overflows rs 6 || overflows rs 7) none),
      narrow (get_or rs 6 0) (or_left (overflows rs 6) (overflows rs 7) late),
      narrow (get_or rs 7 0) (or_right (overflows rs 6) (overflows rs 7) late),
    )

-- key, care and target are no part of it
pub check_in : (m : Machine) (rs : List ℕ) (l : Lines) → pulse_check m (panel_in rs) l ≡ pulse_check m (panel_of rs) l
unfolding pulse_check bad_panel bad_codes bad_address one_code one_setting compared_only
check_in m rs l = refl
