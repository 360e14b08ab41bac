-- How long the panel, a step and a reason can be.
use Prim.Native.Nat.{ℕ}
use mathlib.Core.Bool.{Bool}
use native.Mathlib.Omega.{arith}
use Rattle.machine.specs.declared.Panel.{Panel}
use Rattle.std.specs.Prelude.{Result, Ok, Err}
use Rattle.machine.specs.declared.Refusal.{Refusal}
use Rattle.explainer.specs.declared.Reason.{Reason}
use Rattle.explainer.specs.declared.Reason.TheVariants as explains
use Rattle.job_plans.specs.declared.Command.{Command}
use Rattle.listing.proofs.Lengths.{Within, both, within, either, text, number, word, byte, refused}
use Rattle.console_replies.specs.Texts.{search_text, registers_text, panel_text, step_text, why_text}

pub codes : (p : Panel) → Within (search_text p) 63
codes p = let x = both (both (word " sc1 " p.sc1) (word " sc2 " p.sc2)) (word " sc3 " p.sc3) in x

pub registers : (p : Panel) → Within (registers_text p) 126
registers p = let x = both (both (both (word "comp " p.comp) (word " sdr " p.sdr)) (codes p)) (word " mor " p.mor) in x

pub panel : (p : Panel) → Within (panel_text p) 151
panel p = let x = both (both (both (registers p) (byte " key " p.key)) (byte " care " p.care)) (byte " target " p.target) in x

pub step : (k : Command) (count : ℕ) (held : Bool) → Within (step_text k count held) 193
step k count held =
    let name = either {n = 9} k.lines.search (within 9 (omega arith) (text "search ")) (text "multiadd ") in
    let end = either {n = 6} held (within 6 (omega arith) (text " held")) (text " ended") in
    let x = both (both (both name (panel k.panel)) (number " count " count)) end in
    x

pub why : (e : Result Reason Refusal) → Within (why_text e) 61
why (Ok explains.Matched) = within 61 (omega arith) (text "matched")
why (Ok (explains.NotSelected bit)) = within 61 (omega arith) (number "not selected bit " bit.0)
why (Ok (explains.Against syllable bit)) = both (number "syllable " syllable.0) (number " against at " bit.0)
why (Ok (explains.EqualToTheBottom syllable)) = within 61 (omega arith) (both (number "syllable " syllable.0) (text " equal to the bottom"))
why (Err refusal) = within 61 (omega arith) (refused refusal)
