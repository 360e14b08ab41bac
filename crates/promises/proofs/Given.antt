-- Demand 1: each call's check is given by its table (`Demand1`): the number and what it also answers are those of the first condition that holds, and
-- there is none where none does.
use Prim.Native.Nat.{ℕ, ◌+◌}
use mathlib.Core.Path.{◌≡◌, refl, sym, ap, ◌∙◌}
use mathlib.Core.Bool.{Bool, true, false, not, ◌||◌}
use lib.Dec.{ltb, leb, eqb}
use mathlib.Core.List.{List, [], ◌∷◌}
use lib.ListN.{length}
use Rattle.std.specs.Prelude.{Option, Some, None, Ok, Err}
use Rattle.machine.specs.declared.Panel.{Panel}
use Rattle.machine.specs.declared.Lines.{Lines}
use Rattle.machine.specs.declared.WordSlice.{WordSlice}
use Rattle.machine.specs.declared.ResponseBit.{ResponseBit}
use Rattle.machine.specs.declared.Syllable.{Syllable}
use Rattle.machine.specs.declared.Syllable.TheVariants.{A, B, P}
use Rattle.machine.specs.declared.Refusal.{Refusal}
use Rattle.machine.specs.declared.Refusal.TheVariants.{Size, Width, PanelTooWide, TwoCodes, WrongLines, NoSuchWord, EmptySyllable, BeyondWord, Overlap, NoSuchBit, BitsClash, WrongJob, NoRoom, NotShown}
use Rattle.machine.specs.Machine.{Machine, response_bits}
use Rattle.machine.specs.Resolution.{lowest}
use Rattle.machine.specs.Refusals.{Check, bad_size, bad_width, too_wide, bad_panel, bad_codes, bad_lines, bad_address, in_care, bit_check, apart_check, care_check, ◌else◌, refuse, refuse_word, machine_check, command_check, pulse_check, tells}
use Rattle.machine.proofs.Refusals.{else_assoc}
use Rattle.explainer.specs.Reasons.{searching, explain_check}
use Rattle.job_plans.specs.declared.Span.{Span}
use Rattle.job_plans.specs.declared.Job.{Job}
use Rattle.job_plans.specs.Fields.{Held, Kind, greatest, smallest, scaledAdd, product, unknown, kind_of, empty_check, beyond_check, overlaps, overlap_check, extreme_check, scaled_add_check, product_check, used_check_for, used_check, unused_zero, unused_check}
use Rattle.job_plans.specs.Places.{in_table, place_check, held_check, step_held_check}
use Rattle.jobs.specs.Calls.{is_held, free_check, start_check, step_check}
use Rattle.job_tally.specs.Totals.{is_first, first_check, total_check}
use Rattle.jobs.specs.Runs.{State}
use Rattle.image_layout.specs.Format.{image_of, held_jobs}
use Rattle.image_layout.specs.Reading.{Scanned, words_in, scanned}
use Rattle.image.specs.Calls.{jobs_check, write_check, refuse_bytes, read_check}
use Rattle.rounds.specs.Round.{other_than, shown, show_check, pair_check, answer_check, round_check}
use Rattle.promises.proofs.Demand1.{Entry, entry, first, stray, machine_table, pulse_table, explain_table, empty, beyond, shared, above_last, alike, among_care, wrong_job, pair_table, used_table, held_table, step_table, jobs_table, show_table, round_table, answer_table, start_table, steps_table, total_table, write_table, malformed, read_table, given}

-- ---- "given exactly then": each call's refusal is the first condition of its table that holds, and there is none where none does

-- a check and its part of a table, whatever follows both
record Tabled (c : Check) (table : List Entry → List Entry) : Type 0 where
  pub before : (d : Check) (es : List Entry) → given d ≡ first es → given (c else d) ≡ first (table es)

machine_first : (b₁ b₂ : Bool) (f : Option WordSlice) (c : Check) (es : List Entry) → given c ≡ first es
    → given ((refuse Size b₁ else refuse Width b₂ else refuse_word f) else c) ≡ first (entry 1 b₁ ∷ entry 2 b₂ ∷ stray f ∷ es)
unfolding first
machine_first true b₂ f c es h = refl
machine_first false true f c es h = refl
machine_first false false (Some k) c es h = refl
machine_first false false None c es h = h

-- 1 to 3
of_machine : (m : Machine) → Tabled (machine_check m) (machine_table m)
unfolding machine_check
of_machine m =
    record {
      before = machine_first (bad_size (length m.words) (length m.responses)) (bad_width m.width) (lowest (too_wide m.width) 0 m.words);
    }

-- one entry: a refusal by its condition
leaf : (r : Refusal) (b : Bool) → Tabled (refuse r b) (λ es. record { number = (tells r).0; also = (tells r).1; holds = b } ∷ es)
unfolding first
leaf r true = record { before = λ d es e. refl }
leaf r false = record { before = λ d es e. e }

infixr 20 ◌then◌
-- one after the other
◌then◌ : {c d : Check} {s t : List Entry → List Entry} → Tabled c s → Tabled d t → Tabled (c else d) (λ es. s (t es))
◌then◌ {c} {d} {s} {t} f g =
    record { before = λ e es h. ap given (else_assoc c d e) ∙ f.before (d else e) (t es) (g.before e es h) }

-- with nothing after it
whole : {c : Check} {t : List Entry → List Entry} → Tabled c t → given c ≡ first (t [])
unfolding first
whole {c} f = sym (passed_else c) ∙ f.before (Ok tt) [] refl
  where
    passed_else : (c : Check) → given (c else Ok tt) ≡ given c
    passed_else (Ok tt) = refl
    passed_else (Err r) = refl

four : (n : ℕ) (p : Panel) → Tabled (refuse PanelTooWide (bad_panel n p)) (λ es. entry 4 (bad_panel n p) ∷ es)
four n p = leaf PanelTooWide (bad_panel n p)

five : (n : ℕ) (p : Panel) (l : Lines) → Tabled (refuse TwoCodes (bad_codes n p l)) (λ es. entry 5 (bad_codes n p l) ∷ es)
five n p l = leaf TwoCodes (bad_codes n p l)

six : (l : Lines) → Tabled (refuse WrongLines (bad_lines l)) (λ es. entry 6 (bad_lines l) ∷ es)
six l = leaf WrongLines (bad_lines l)

seven : (n : ℕ) (p : Panel) (l : Lines) → Tabled (refuse NoSuchWord (bad_address n p l)) (λ es. entry 7 (bad_address n p l) ∷ es)
seven n p l = leaf NoSuchWord (bad_address n p l)

ten : (b : Bool) → Tabled (refuse NoRoom b) (λ es. entry 10 b ∷ es)
ten = leaf NoRoom

eleven : (b : Bool) → Tabled (refuse NotShown b) (λ es. entry 11 b ∷ es)
eleven = leaf NotShown

-- ---- 20 to 25, leaf by leaf

bit_leaf : (x : ResponseBit) → Tabled (bit_check x) (λ es. above_last x ∷ es)
bit_leaf x = leaf NoSuchBit (leb response_bits x.0)

apart_leaf : (x y : ResponseBit) → Tabled (apart_check x y) (λ es. alike x y ∷ es)
apart_leaf x y = leaf BitsClash (eqb x.0 y.0)

care_leaf : (care : ℕ) (x : ResponseBit) → Tabled (care_check care x) (λ es. among_care care x ∷ es)
care_leaf care x = leaf BitsClash (in_care care x)

empty_leaf : (name : Syllable) (s : Span) → Tabled (empty_check name s) (λ es. empty name s ∷ es)
empty_leaf name s = leaf (EmptySyllable name) (eqb s.width 0)

beyond_leaf : (n : ℕ) (name : Syllable) (s : Span) → Tabled (beyond_check n name s) (λ es. beyond n name s ∷ es)
beyond_leaf n name s = leaf (BeyondWord name) (ltb n (s.low.0 + s.width))

shared_leaf : (p : Span) (name : Syllable) (s : Span) → Tabled (overlap_check p name s) (λ es. shared p name s ∷ es)
shared_leaf p name s = leaf (Overlap name) (overlaps p s)

unused_leaf : (o : Job) → Tabled (unused_check o) (λ es. wrong_job (not (unused_zero o)) ∷ es)
unused_leaf o = leaf WrongJob (not (unused_zero o))

place_leaf : (o : Job) → Tabled (place_check o) (λ es. wrong_job (not (in_table o)) ∷ es)
place_leaf o = leaf WrongJob (not (in_table o))

free_leaf : (h : Held) → Tabled (free_check h) (λ es. wrong_job (is_held h) ∷ es)
free_leaf h = leaf WrongJob (is_held h)

first_leaf : (h : Held) → Tabled (first_check h) (λ es. wrong_job (not (is_first h)) ∷ es)
first_leaf h = leaf WrongJob (not (is_first h))

of_pair : (x f : ResponseBit) → Tabled (pair_check x f) (pair_table x f)
unfolding pair_check
of_pair x f = bit_leaf x then bit_leaf f then apart_leaf x f

of_extreme : (n : ℕ) (o : Job) → Tabled (extreme_check n o) (used_table greatest n o)
unfolding extreme_check
of_extreme n o =
    empty_leaf A o.a then beyond_leaf n A o.a then bit_leaf o.x then bit_leaf o.y then apart_leaf o.x o.y
    then care_leaf o.care o.x then care_leaf o.care o.y

of_scaled_add : (n : ℕ) (o : Job) → Tabled (scaled_add_check n o) (used_table scaledAdd n o)
unfolding scaled_add_check
of_scaled_add n o =
    empty_leaf A o.a then empty_leaf P o.p then beyond_leaf n A o.a then beyond_leaf n P o.p then shared_leaf o.p A o.a
    then bit_leaf o.y then care_leaf o.care o.y

of_product : (n : ℕ) (o : Job) → Tabled (product_check n o) (used_table product n o)
unfolding product_check
of_product n o =
    empty_leaf A o.a then empty_leaf B o.b then empty_leaf P o.p then beyond_leaf n A o.a then beyond_leaf n B o.b then beyond_leaf n P o.p
    then shared_leaf o.p A o.a then shared_leaf o.p B o.b then bit_leaf o.y then care_leaf o.care o.y

of_used : (n : ℕ) (o : Job) → Tabled (used_check n o) (used_table (kind_of o.kind) n o)
unfolding used_check
of_used n o = go (kind_of o.kind)
  where
    go : (k : Kind) → Tabled (used_check_for k n o) (used_table k n o)
    go greatest = of_extreme n o
    go smallest = of_extreme n o
    go scaledAdd = of_scaled_add n o
    go product = of_product n o
    go unknown = leaf WrongJob true

of_held : (n : ℕ) (o : Job) → Tabled (held_check n o) (held_table n o)
unfolding held_check
of_held n o = of_used n o then unused_leaf o then place_leaf o

of_step : (n : ℕ) (h : Held) → Tabled (step_held_check n h) (step_table n h)
of_step n None = leaf WrongJob true
of_step n (Some o) = of_held n o

of_jobs : (n : ℕ) (os : List Job) → Tabled (jobs_check n os) (jobs_table n os)
of_jobs n [] = record { before = λ d es h. h }
of_jobs n (o ∷ os) = of_held n o then of_jobs n os

-- ---- the calls

pub pulse_given : (m : Machine) (p : Panel) (l : Lines) → given (pulse_check m p l) ≡ first (pulse_table m p l)
unfolding pulse_check
pulse_given m p l =
    whole (of_machine m then four m.width p then five m.width p l then six l then seven (length m.words) p l)

-- a search by itself is given neither 6 nor 7
search_taken : (n : ℕ) (p : Panel) → Tabled (command_check n p searching) (λ es. es)
unfolding bad_lines bad_address
search_taken n p = record { before = λ d es h. h }

pub explain_given : (m : Machine) (p : Panel) (k : WordSlice) → given (explain_check m p k) ≡ first (explain_table m p k)
unfolding explain_check pulse_check bad_codes
explain_given m p k =
    whole ((of_machine m then four m.width p then five m.width p searching then search_taken (length m.words) p)
    then leaf NoSuchWord (leb (length m.words) k.0))

pub resolution_given : (m : Machine) → given (machine_check m) ≡ first (machine_table m [])
resolution_given m = whole (of_machine m)

pub show_given : (x : ResponseBit) (m : Machine) → given (show_check x m) ≡ first (show_table x m)
unfolding show_check
show_given x m = whole (of_machine m then bit_leaf x)

pub answer_given : (x f : ResponseBit) (k : WordSlice) (m : Machine) → given (answer_check x f k m) ≡ first (answer_table x f k m)
unfolding answer_check
answer_given x f k m = whole (of_machine m then of_pair x f then eleven (other_than k (shown x m)))

pub round_given : (x f : ResponseBit) (m : Machine) → given (round_check x f m) ≡ first (round_table x f m)
unfolding round_check
round_given x f m = whole (of_machine m then of_pair x f)

pub start_given : (m : Machine) (h : Held) (o : Job) → given (start_check m h o) ≡ first (start_table m h o)
unfolding start_check
start_given m h o = whole (of_machine m then of_used m.width o then free_leaf h)

pub step_given : (m : Machine) (h : Held) → given (step_check m h) ≡ first (steps_table m h)
unfolding step_check
step_given m h = whole (of_machine m then of_step m.width h)

pub total_given : (m : Machine) (h : Held) → given (total_check m h) ≡ first (total_table m h)
unfolding total_check step_check
total_given m h = whole ((of_machine m then of_step m.width h) then first_leaf h)

pub write_given : (s : State) (room : ℕ) → given (write_check s room) ≡ first (write_table s room)
unfolding write_check
write_given s room =
    whole (of_machine s.machine then of_jobs s.machine.width (held_jobs s.held) then ten (ltb room (length (image_of s))))

nine_ten : (c : Scanned) (b : Bool) → given (refuse_bytes c else refuse NoRoom b) ≡ first (malformed c ∷ entry 10 b ∷ [])
unfolding first
nine_ten (Ok tt) true = refl
nine_ten (Ok tt) false = refl
nine_ten (Err at) b = refl

pub read_given : (bs : List ℕ) (words responses : ℕ) → given (read_check bs words responses) ≡ first (read_table bs words responses)
unfolding read_check
read_given bs words responses = nine_ten (scanned bs) (ltb words (words_in bs) || ltb responses (words_in bs))
