-- What holds once nothing is turned down, and the words' change apart from the addressed word's.
-- Document 01, 'Numbers given when a call is turned down', 1 to 7; 'One pulse', multiwrite and multiadd.
use Rattle.std.specs.Prelude.{ℕ, ◌^◌, ◌<◌, ◌≡◌, true, ◌&&◌, ◌||◌, List, length, get_or}
use Rattle.machine.specs.declared.Panel.{Panel}
use Rattle.machine.specs.declared.Lines.{Lines}
use Rattle.machine.specs.declared.Refusal.TheVariants.{PanelTooWide, TwoCodes}
use Rattle.machine.specs.Machine.{selected}
use Rattle.machine.specs.Pulse.{written, added, change}
use Rattle.machine.specs.Refusals.{bad_panel, bad_codes, Check, refuse, ◌else◌, command_check}
use Rattle.fields.specs.Fields.{fields}
use Rattle.fields.specs.Codes.{unmixed_in}
use Rattle.masks.specs.Plan.{Fit}

-- 1 to 5 and 7
pub record Accepted (n : ℕ) (p : Panel) (l : Lines) (ws rs : List ℕ) : Type 0 where
  pub fit : Fit n p
  pub size : length rs ≡ length ws
  pub words : (j : ℕ) → get_or ws j 0 < 2 ^ n
  pub codes : l.search ≡ true → unmixed_in (fields n p.sdr) p.sc1 p.sc2 p.sc3 ≡ true
  pub address : (l.read || l.write || l.add) ≡ true → p.address.0 < length ws

-- 4 to 7
abbrev pub rest_check : ℕ → ℕ → Panel → Lines → Check
rest_check words n p l = refuse PanelTooWide (bad_panel n p) else refuse TwoCodes (bad_codes n p l) else command_check words p l

-- a word after multiwrite and multiadd, whichever of them are raised
unfoldable pub multi_after : ℕ → Panel → Lines → ℕ → ℕ → ℕ → ℕ
multi_after n p l k w r =
    let chosen = selected p.key p.care r in
    change n (l.multiwrite && chosen) (l.multiadd && chosen) w (written n p w) (added n p w)
