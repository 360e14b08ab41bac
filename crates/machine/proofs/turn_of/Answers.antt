-- Each arm's literal is the turn of its refusal's number.
use mathlib.Core.Path.{◌≡◌, sym, ap}
use Rattle.machine.specs.declared.Refusal.{Refusal}
use Rattle.machine.specs.Refusals.{number_of, turn}
use Rattle.machine.proofs.turn_of.Goals as goal

turns : {r why : Refusal} → why ≡ r → turn (number_of r) ≡ turn (number_of why)
turns e = ap (λ (s : Refusal). turn (number_of s)) (sym e)

pub returns-in-Size : goal.returns-in-Size
returns-in-Size c = turns c.in-Size.is

pub returns-in-Width : goal.returns-in-Width
returns-in-Width c = turns c.in-Width.is

pub returns-in-WordTooWide : goal.returns-in-WordTooWide
returns-in-WordTooWide c = turns c.in-WordTooWide.is

pub returns-in-PanelTooWide : goal.returns-in-PanelTooWide
returns-in-PanelTooWide c = turns c.in-PanelTooWide.is

pub returns-in-TwoCodes : goal.returns-in-TwoCodes
returns-in-TwoCodes c = turns c.in-TwoCodes.is

pub returns-in-WrongLines : goal.returns-in-WrongLines
returns-in-WrongLines c = turns c.in-WrongLines.is

pub returns-in-NoSuchWord : goal.returns-in-NoSuchWord
returns-in-NoSuchWord c = turns c.in-NoSuchWord.is

pub returns-in-EmptySyllable : goal.returns-in-EmptySyllable
returns-in-EmptySyllable c = turns c.in-EmptySyllable.is

pub returns-in-BeyondWord : goal.returns-in-BeyondWord
returns-in-BeyondWord c = turns c.in-BeyondWord.is

pub returns-in-Overlap : goal.returns-in-Overlap
returns-in-Overlap c = turns c.in-Overlap.is

pub returns-in-NoSuchBit : goal.returns-in-NoSuchBit
returns-in-NoSuchBit c = turns c.in-NoSuchBit.is

pub returns-in-BitsClash : goal.returns-in-BitsClash
returns-in-BitsClash c = turns c.in-BitsClash.is

pub returns-in-WrongJob : goal.returns-in-WrongJob
returns-in-WrongJob c = turns c.in-WrongJob.is

pub returns-in-Malformed : goal.returns-in-Malformed
returns-in-Malformed c = turns c.in-Malformed.is

pub returns-in-NoRoom : goal.returns-in-NoRoom
returns-in-NoRoom c = turns c.in-NoRoom.is

pub returns-in-NotShown : goal.returns-in-NotShown
returns-in-NotShown c = turns c.in-NotShown.is
