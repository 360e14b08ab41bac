-- Document 01, 'The hand-out round': the end that a whole round's contract states is reached by accepted answers, one for each responder,
-- the lowest first, each with its verdict in the list. So all that holds of accepted answers (Handout) holds of a whole round.
use Prim.Native.Nat.{ℕ, ◌+◌}
use mathlib.Core.Path.{◌≡◌, refl, sym, ap, ◌∙◌}
use mathlib.Core.Bool.{Bool}
use mathlib.Core.List.{List, [], ◌∷◌, map}
use lib.ListN.{length, get_or, drop, length-set}
use Rattle.std.specs.Prelude.{Ok}
use Rattle.laws.specs.Bits.{pick}
use Rattle.machine.specs.declared.WordSlice.{WordSlice}
use Rattle.machine.specs.declared.ResponseBit.{ResponseBit}
use Rattle.machine.specs.Machine.{Machine, machine}
use Rattle.machine.specs.Refusals.{Check, change_by}
use Rattle.resolver.proofs.Lowest.{none_exactly}
use Rattle.rounds.specs.declared.Verdict.{Verdict}
use Rattle.rounds.specs.Round.{has, shown, answered, answered_at, round_check, answer_check, after_answer}
use Rattle.handout.specs.Whole.{says_done, verdict_of, tally, worked, is_done, is_faulty, after_ended}
use Rattle.rounds.specs.Handout.{responders, first_of, Answers, none_yet, one_more}
use Rattle.rounds.proofs.Passing.{accepted, acceptable}
use Rattle.rounds.proofs.Round.{lost, same_checks}
use Rattle.handout.proofs.Answering.{answer_whole}
use Rattle.handout.proofs.Lists.{each_all}
use Rattle.rounds.proofs.Responders.{first_lowest, first_off}
use Rattle.handout.proofs.Counted.{each_once}

-- an answer before the others
pub one_before : {x f : ResponseBit} {n e : Machine} {us : List Verdict} (k : WordSlice) (v : Verdict) (m : Machine)
    → answer_check x f k m ≡ Ok tt → n ≡ after_answer x f k v m → Answers x f n us e → Answers x f m (v ∷ us) e
one_before {x} {f} k v m h s none_yet = rw s (one_more k v none_yet h)
one_before {x} {f} k v m h s (one_more j u t g) = one_more j u (one_before k v m h s t) g

module _ (x f : ResponseBit) (vs : List ℕ) where
  -- no responder is left: the round is at its end
  at_end : (n : Machine) → responders x n ≡ [] → after_ended x f vs n ≡ n
  unfolding after_ended
  at_end n h =
      let none = (none_exactly (has x) n.responses).0 (first_lowest x 0 n.responses ∙ ap first_of h) in
      ap (machine n.width n.words)
      (each_all n.responses (worked x f vs)
      (λ i l. ap (λ (b : Bool). pick b (answered x f (verdict_of vs i) (get_or n.responses i 0)) (get_or n.responses i 0)) (none i l)))

  -- the lowest responder is answered: one less is left, the checks stand, and so does the round's end
  module _ (n : Machine) (k : ℕ) (ks : List ℕ) (h : responders x n ≡ k ∷ ks) (p : round_check x f n ≡ Ok tt) where
    word : WordSlice
    word = record { 0 = k }

    check : answer_check x f word n ≡ Ok tt
    unfolding shown word
    check = acceptable x f word n p (first_lowest x 0 n.responses ∙ ap first_of h)

    next : Machine
    next = answered_at x f word (verdict_of vs k) n

    is_next : next ≡ after_answer x f word (verdict_of vs k) n
    unfolding after_answer next
    is_next = sym (ap (λ (c : Check). change_by c (answered_at x f word (verdict_of vs k) n) n) check)

    next_left : responders x next ≡ ks
    unfolding next word
    next_left =
        let a = accepted x f word n check in
        first_off x 0 k (answered x f (verdict_of vs k) (get_or n.responses k 0)) n.responses a.low (lost x f (verdict_of vs k) (get_or n.responses k 0) a.fit)
        ∙ ap (drop 1) h

    next_passed : round_check x f next ≡ Ok tt
    unfolding next word
    next_passed = same_checks x f n.width n.words n.responses next.responses (length-set n.responses k _) ∙ p

    next_end : after_ended x f vs next ≡ after_ended x f vs n
    unfolding next word after_ended
    next_end =
        let a = accepted x f word n check in
        ap (machine n.width n.words) (answer_whole x f vs n.responses k (says_done vs k) a.fit a.low refl)

  all_answered : (ks : List ℕ) (n : Machine) → responders x n ≡ ks → round_check x f n ≡ Ok tt → Answers x f n (map (verdict_of vs) ks) (after_ended x f vs n)
  all_answered [] n h p = rw (at_end n h) none_yet
  all_answered (k ∷ ks) n h p =
      let rest = all_answered ks (next n k ks h p) (next_left n k ks h p) (next_passed n k ks h p) in
      one_before (word n k ks h p) (verdict_of vs k) n (check n k ks h p) (is_next n k ks h p) (rw (next_end n k ks h p) at rest)

  -- a whole round: every responder answered, in rising order, each with its verdict
  pub whole_round : (m : Machine) → round_check x f m ≡ Ok tt → Answers x f m (map (verdict_of vs) (responders x m)) (after_ended x f vs m)
  whole_round m p = all_answered (responders x m) m refl p

  -- and each counted once
  pub counted_once : (m : Machine) → tally (is_done x vs) 0 m.responses + tally (is_faulty x vs) 0 m.responses ≡ length (responders x m)
  counted_once m = each_once x 0 vs m.responses
