-- Writing as a whole: its checks in order, the image's length, and the two parts stored make the image.
use Prim.Native.Nat.{ℕ, ◌+◌, ◌≤◌}
use mathlib.Core.Path.{◌≡◌, sym, ap, ap₂, ◌∙◌}
use mathlib.Core.Bool.{false, not, ◌||◌}
use mathlib.Core.List.{List, ◌++◌, append_assoc}
use native.Mathlib.Omega.{arith}
use lib.Dec.{ltb, eqb}
use lib.ListN.{length, length-append}
use lib.Seq.{sets}
use borrow.Author.Tests.{ltb-false}
use Rattle.std.specs.Prelude.{Ok, Err}
use Rattle.machine.specs.declared.Refusal.{Refusal}
use Rattle.machine.specs.declared.Refusal.TheVariants.{NoRoom}
use Rattle.machine.specs.Machine.{Machine}
use Rattle.machine.specs.Refusals.{refuse, bad_size, machine_check}
use Rattle.machine.proofs.Refusals.{sound, size_same, else_passed, not_refused, or_left, or_right}
use Rattle.jobs.specs.Runs.{State}
use Rattle.image_layout.specs.Sizes.{response_size, record_size, past_section, responses_at, image_size}
use Rattle.image_layout.specs.Format.{section, job_bytes, held_jobs, image_of}
use Rattle.image_layout.proofs.Format.{length_bytes, length_items, length_job_section}
use Rattle.image_stores.specs.Stored.{machine_bytes}
use Rattle.image_stores.proofs.Stored.{sets_append}
use Rattle.image.specs.Calls.{jobs_check, write_check, write_of, written}

-- ---- how long an image is

-- its sections before the job
abbrev pub part_size : Machine → ℕ
part_size m = past_section (responses_at (length m.words)) response_size (length m.responses)

pub length_machine : (m : Machine) → length (machine_bytes m) ≡ part_size m
unfolding machine_bytes
length_machine m = simp (length-append, length_bytes, length_items) (omega arith)

pub whole : (s : State) → image_of s ≡ machine_bytes s.machine ++ section job_bytes (held_jobs s.held)
unfolding image_of machine_bytes
whole s = simp append_assoc

pub length_image : (s : State) → length (image_of s) ≡ past_section (part_size s.machine) record_size (length (held_jobs s.held))
length_image s = rw (whole s, length-append) (omega (arith, length_machine s.machine, length_job_section (held_jobs s.held)))

pub same_size : (m : Machine) → machine_check m ≡ Ok tt → length m.responses ≡ length m.words
same_size m h = size_same (length m.words) (length m.responses) (sound m h).size

size_few : (n k : ℕ) → bad_size n k ≡ false → n ≤ 1024
unfolding bad_size
size_few n k h = ltb-false 1024 n (or_left (ltb 1024 n) (not (eqb k n)) (or_right (eqb n 0) (ltb 1024 n || not (eqb k n)) h))

pub few_words : (m : Machine) → machine_check m ≡ Ok tt → length m.words ≤ 1024
few_words m h = size_few (length m.words) (length m.responses) (sound m h).size

-- ---- room, in the code's terms: l is the length that the code found

pub write_then : (s : State) (room l : ℕ) → Ok tt ≡ machine_check s.machine → Ok tt ≡ jobs_check s.machine.width (held_jobs s.held)
    → l ≡ image_size (length s.machine.words) (length (held_jobs s.held)) → refuse NoRoom (ltb room l) ≡ write_check s room
unfolding write_check
write_then s room l e f i =
    let q : l ≡ length (image_of s) = omega (arith, i, length_image s, same_size s.machine (sym e)) in
    rw (← e, ← f, q)

-- ---- the call

pub write_room : (s : State) (room : ℕ) → write_check s room ≡ Ok tt
    → past_section (part_size s.machine) record_size (length (held_jobs s.held)) ≤ room
unfolding write_check
write_room s room e =
    let a = else_passed (machine_check s.machine) _ e in
    let b = else_passed (jobs_check s.machine.width (held_jobs s.held)) _ a.1 in
    omega (arith, length_image s, ltb-false room (length (image_of s)) (not_refused NoRoom _ b.1))

pub write_refused : (s : State) (d : List ℕ) (r : Refusal) → Err r ≡ write_check s (length d)
    → (Err r ≡ write_of s (length d)) × (d ≡ written s d)
unfolding write_of written
write_refused s d r e = (rw (← e), rw (← e))

pub write_done : (s : State) (d d1 d2 : List ℕ) (p q : ℕ) → Ok tt ≡ write_check s (length d)
    → (p ≡ part_size s.machine) × (d1 ≡ sets d 0 (machine_bytes s.machine))
    → (q ≡ past_section p record_size (length (held_jobs s.held))) × (d2 ≡ sets d1 p (section job_bytes (held_jobs s.held)))
    → (Ok q ≡ write_of s (length d)) × (d2 ≡ written s d)
unfolding write_of written
write_done s d d1 d2 p q e f g =
    let l : q ≡ length (image_of s) = omega (arith, length_image s, f.0, g.0) in
    let i : p ≡ 0 + length (machine_bytes s.machine) = omega (arith, length_machine s.machine, f.0) in
    let j : d2 ≡ sets d 0 (image_of s) =
    g.1 ∙ ap₂ (λ (x : List ℕ) (y : ℕ). sets x y (section job_bytes (held_jobs s.held))) f.1 i
    ∙ sym (sets_append (machine_bytes s.machine) (section job_bytes (held_jobs s.held)) d 0) ∙ ap (sets d 0) (sym (whole s)) in
    (rw (← e) (ap Ok l), rw (← e) j)
