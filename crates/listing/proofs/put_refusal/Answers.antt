-- The refusal says whether anything follows its number, and what.
use mathlib.Core.Path.{refl}
use Rattle.machine.specs.Refusals.{value_of}
use Rattle.listing.specs.Lists.{named, syllable_text}
use Rattle.listing.proofs.Answers.{refused}
use Rattle.listing.proofs.put_refusal.Goals as goal

pub returns-in-WordTooWide : goal.returns-in-WordTooWide
returns-in-WordTooWide c = let w = c.in-WordTooWide in refused c.args.why c.number_of.result (named " word " w.word.0) c.args.out.now c.number_of.ensures.0 (rw w.is refl) c.put_named-n.ensures c.put_named.ensures

pub returns-in-Malformed : goal.returns-in-Malformed
returns-in-Malformed c = let w = c.in-Malformed in refused c.args.why c.number_of.result (named " at " w.place) c.args.out.now c.number_of.ensures.0 (rw w.is refl) c.put_named-n.ensures c.put_named-in-Malformed.ensures

pub returns-in-EmptySyllable : goal.returns-in-EmptySyllable
returns-in-EmptySyllable c = let w = c.in-EmptySyllable in refused c.args.why c.number_of.result (syllable_text (value_of w.syllable)) c.args.out.now c.number_of.ensures.0 (rw w.is refl) c.put_named-n.ensures c.put_syllable.ensures

pub returns-in-BeyondWord : goal.returns-in-BeyondWord
returns-in-BeyondWord c = let w = c.in-BeyondWord in refused c.args.why c.number_of.result (syllable_text (value_of w.syllable)) c.args.out.now c.number_of.ensures.0 (rw w.is refl) c.put_named-n.ensures c.put_syllable-in-BeyondWord.ensures

pub returns-in-Overlap : goal.returns-in-Overlap
returns-in-Overlap c = let w = c.in-Overlap in refused c.args.why c.number_of.result (syllable_text (value_of w.syllable)) c.args.out.now c.number_of.ensures.0 (rw w.is refl) c.put_named-n.ensures c.put_syllable-in-Overlap.ensures
