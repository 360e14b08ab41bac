-- Two rounds side by side: each is a round as if it were alone, for which the other's calls are calls that leave its bits as they are.
use Prim.Native.Nat.{ℕ}
use mathlib.Core.Path.{◌≡◌, sym, ap}
use mathlib.Core.List.{List}
use Rattle.std.specs.Prelude.{Ok}
use Rattle.machine.specs.declared.ResponseBit.{ResponseBit}
use Rattle.machine.specs.Machine.{Machine}
use Rattle.rounds.specs.Round.{Fit, round_check, reply_of, after_answer}
use Rattle.rounds.proofs.Passing.{round_fits}
use Rattle.rounds.proofs.Handout.{refused_nothing}
use Rattle.jobs.specs.Runs.{State}
use Rattle.hosts.specs.Images.{Typed}
use Rattle.hosts.specs.Rounds as events
use Rattle.hosts.specs.Rounds.{Beside, Given, Phase, Entry, Own, Hosted, Both}
use Rattle.hosts.proofs.Elsewhere.{answer_spares}
use Rattle.hosts.proofs.Standing.{standing}

-- a call of a round over Y and G, seen by a round over X and F
beside : (x f y g : ResponseBit) → Fit x f → Beside y g x → Beside y g f → {b s t : State} {image : List ℕ} {phase turn next : Phase} {vs us : List Given} {book log new : List Entry}
    → Hosted x f b s image phase vs book → Own y g us s turn log t next new → Hosted x f b t image phase vs book
unfolding reply_of
beside x f y g fit p q h (events.shows e) = h
beside x f y g fit p q h (events.asks e) = h
beside x f y g fit p q h (events.answers {s} k v e) = events.others h (events.answers_word y g k v e) (answer_spares x f fit y g p q s.machine k v e)
beside x f y g fit p q {b} {image = image} {phase = phase} {vs = vs} {book = book} h (events.refused {s} {r = r} k v e) =
    let d : record { machine = after_answer y g k v s.machine; held = s.held } ≡ s =
    ap (λ (z : Machine). record { machine = z; held = s.held }) (refused_nothing y g k v s.machine r e) in
    rw d h

module _ (x f y g : ResponseBit) (b c : State) (fine : round_check x f b.machine ≡ Ok tt) (also : round_check y g c.machine ≡ Ok tt)
    (p : Beside y g x) (q : Beside y g f) where
  pub first_alone : {s : State} {image : List ℕ} {phase turn : Phase} {vs us : List Given} {book log : List Entry}
      → Both x f y g b c s image phase vs book turn us log → Hosted x f b s image phase vs book
  first_alone (events.joins h w) = events.stores h w
  first_alone (events.first_owns t o) = events.owns (first_alone t) o
  first_alone (events.second_owns t o) = beside x f y g (round_fits x f b.machine fine) p q (first_alone t) o
  first_alone (events.both_store t w) = events.stores (first_alone t) w
  first_alone (events.both_stop t r) = events.stops (first_alone t) r
  first_alone (events.others_call t o l m) = events.others (first_alone t) o l

  y_beside : Beside x f y
  y_beside = (λ e. p.0 (sym e), λ e. q.0 (sym e))

  g_beside : Beside x f g
  g_beside = (λ e. p.1 (sym e), λ e. q.1 (sym e))

  pub second_alone : {s : State} {image : List ℕ} {phase turn : Phase} {vs us : List Given} {book log : List Entry}
      → Both x f y g b c s image phase vs book turn us log → Hosted y g c s image turn us log
  second_alone (events.joins h w) = events.opens w
  second_alone (events.first_owns t o) = beside y g x f (round_fits y g c.machine also) y_beside g_beside (second_alone t) o
  second_alone (events.second_owns t o) = events.owns (second_alone t) o
  second_alone (events.both_store t w) = events.stores (second_alone t) w
  second_alone (events.both_stop t r) = events.stops (second_alone t) r
  second_alone (events.others_call t o l m) = events.others (second_alone t) o m

  -- where the second begins, responses and job are still what their types say
  pub second_typed : Typed b → {s : State} {image : List ℕ} {phase turn : Phase} {vs us : List Given} {book log : List Entry}
      → Both x f y g b c s image phase vs book turn us log → Typed c
  second_typed typed (events.joins h w) = (standing x f b fine typed h).kinds
  second_typed typed (events.first_owns t o) = second_typed typed t
  second_typed typed (events.second_owns t o) = second_typed typed t
  second_typed typed (events.both_store t w) = second_typed typed t
  second_typed typed (events.both_stop t r) = second_typed typed t
  second_typed typed (events.others_call t o l m) = second_typed typed t
