-- Document 01, 'The hand-out round', over show and answer alone: after k accepted answers exactly the lowest k responders have lost X,
-- the faulty ones among them carry F, every other bit of every response is as before, and the next word shown is responder k (counted
-- from 0), or none if there were k.
use Prim.Native.Nat.{ℕ, ◌≤◌, ◌<◌}
use mathlib.Core.Path.{◌≡◌, ap, ap₂, ◌∙◌}
use mathlib.Core.List.{List}
use native.Mathlib.Omega.{arith}
use lib.ListN.{length, get_or, drop}
use Rattle.laws.specs.Bits.{bit}
use Rattle.std.specs.Prelude.{Some, Ok, Err}
use Rattle.machine.specs.declared.WordSlice.{WordSlice}
use Rattle.machine.specs.declared.ResponseBit.{ResponseBit}
use Rattle.machine.specs.declared.Refusal.{Refusal}
use Rattle.machine.specs.Machine.{Machine, machine, response_bits}
use Rattle.machine.specs.Refusals.{Check, change_by}
use Rattle.rounds.specs.declared.Verdict.{Verdict}
use Rattle.rounds.specs.declared.Verdict.TheVariants.{Done, Faulty}
use Rattle.rounds.specs.Round.{shown, answered, answered_at, round_check, answer_check, after_answer}
use Rattle.rounds.specs.Handout.{responders, responder, response, NotAmong, first_of, Answers}
use Rattle.rounds.proofs.Passing.{acceptable}
use Rattle.rounds.proofs.Round.{answered_mark, answered_faulty, answered_done, same_checks}
use Rattle.rounds.proofs.Responders.{first_lowest}
use Rattle.rounds.proofs.Kept.{run}

-- ---- the theorem

pub record HandedOut (x f : ResponseBit) (vs : List Verdict) (before after : Machine) : Type 0 where
  -- "exactly the lowest k responders have lost X": k of them there were, each of them has lost it, and the others are the responders now
  pub enough : length vs ≤ length (responders x before)
  pub lost_mark : (i : ℕ) → i < length vs → bit (response after (responder x before i)) x.0 ≡ 0
  pub left : responders x after ≡ drop (length vs) (responders x before)
  -- "faulty ones carry F": those answered faulty have it, those answered done have it as before
  pub faulty_marked : (i : ℕ) → i < length vs → get_or vs i Done ≡ Faulty → bit (response after (responder x before i)) f.0 ≡ 1
  pub done_unmarked : (i : ℕ) → i < length vs → get_or vs i Done ≡ Done
      → bit (response after (responder x before i)) f.0 ≡ bit (response before (responder x before i)) f.0
  -- nothing else is changed: no other word's response, no other bit, no word
  pub other_words : (j : ℕ) → NotAmong (responders x before) (length vs) j → response after j ≡ response before j
  pub other_bits : (j b : ℕ) → b < response_bits → (b ≡ x.0 → ⊥) → (b ≡ f.0 → ⊥) → bit (response after j) b ≡ bit (response before j) b
  pub width : after.width ≡ before.width
  pub words : after.words ≡ before.words
  pub as_many : length after.responses ≡ length before.responses
  -- "the next shown is the (k+1)-th", or none
  pub next : shown x after ≡ first_of (drop (length vs) (responders x before))

pub handed_out : {x f : ResponseBit} {before after : Machine} {vs : List Verdict} → Answers x f before vs after → HandedOut x f vs before after
unfolding shown
handed_out {x} {f} {before} {after} {vs} t =
    let w = run t in
    record {
      enough = w.enough;
      lost_mark = λ i l.
          ap (λ (r : ℕ). bit r x.0) (w.judged i l) ∙ answered_mark x f (get_or vs i Done) (response before (responder x before i)) (w.fit (omega arith));
      left = w.left;
      faulty_marked = λ i l e.
          ap (λ (r : ℕ). bit r f.0) (w.judged i l ∙ ap (λ (v : Verdict). answered x f v (response before (responder x before i))) e)
          ∙ answered_faulty x f (response before (responder x before i)) (w.fit (omega arith));
      done_unmarked = λ i l e.
          ap (λ (r : ℕ). bit r f.0) (w.judged i l ∙ ap (λ (v : Verdict). answered x f v (response before (responder x before i))) e)
          ∙ answered_done x f (response before (responder x before i)) (w.fit (omega arith));
      other_words = w.others;
      other_bits = w.kept;
      width = w.width;
      words = w.words;
      as_many = w.as_many;
      next = first_lowest x 0 after.responses ∙ ap first_of w.left;
    }

-- ---- with it: a refused answer changes nothing, and a round whose bits are fit always goes on

pub refused_nothing : (x f : ResponseBit) (k : WordSlice) (v : Verdict) (m : Machine) (r : Refusal) → answer_check x f k m ≡ Err r → after_answer x f k v m ≡ m
unfolding after_answer
refused_nothing x f k v m r h = ap (λ (c : Check). change_by c (answered_at x f k v m) m) h

-- the word that show gives is accepted, for either verdict, after any accepted answers
pub goes_on : {x f : ResponseBit} {before after : Machine} {vs : List Verdict} → round_check x f before ≡ Ok tt → Answers x f before vs after
    → (k : WordSlice) → shown x after ≡ Some k → answer_check x f k after ≡ Ok tt
goes_on {x} {f} {before} {after} h t k s =
    let w = run t in
    acceptable x f k after
    (same_checks x f after.width after.words before.responses after.responses w.as_many
    ∙ ap₂ (λ (n : ℕ) (ws : List ℕ). round_check x f (machine n ws before.responses)) w.width w.words ∙ h) s
