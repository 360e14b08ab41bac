-- Figures for document 02, request d, worked out by hand: each number alone, each pair that the order decides, every kind. On three words of 8 bits,
-- responses 0.
use Prim.Native.Nat.{ℕ}
use mathlib.Core.Path.{◌≡◌, refl}
use mathlib.Core.List.{List, [], ◌∷◌, map}
use Rattle.std.specs.Prelude.{Some, None}
use Rattle.machine.specs.declared.ResponseBit.{ResponseBit}
use Rattle.machine.specs.Machine.{Machine}
use Rattle.machine.specs.Resolution.{lowest}
use Rattle.machine.specs.Refusals.{bad_size, bad_width, machine_check}
use Rattle.rounds.specs.Round.{shown, show_check, pair_check, answer_check, round_check, show_of, reply_of}
use Rattle.rounds.specs.Round as rounds
use Rattle.job_plans.specs.declared.Span.{Span}
use Rattle.job_plans.specs.declared.Job.{Job}
use Rattle.job_plans.specs.Fields.{Held, job, kind_of, extreme_check, scaled_add_check, product_check, used_check, unused_zero}
use Rattle.job_plans.specs.Places.{in_table, held_check, first}
use Rattle.jobs.specs.Calls.{start_check, start_of, step_check, step_of}
use Rattle.job_tally.specs.Totals.{pulses, total_check, total_of}
use Rattle.image_layout.specs.Format.{bytes, items, image_of}
use Rattle.image.specs.Calls.{write_check, write_of}
use Rattle.promises.proofs.Answered.{tells_resolved, tells_started, tells_stepped, tells_total, tells_wrote}

-- ---- the form of a row: what the definitions tell, and what the document states: the number, and the value of the syllable that is named

pub record Case : Type 0 where
  pub given : ℕ × ℕ
  pub stated : ℕ × ℕ

abbrev board : Machine
board = record { width = 8; words = 0x35 ∷ 0x9C ∷ 0x35 ∷ []; responses = 0 ∷ 0 ∷ 0 ∷ [] }

abbrev bit_no : ℕ → ResponseBit
bit_no k = record { 0 = k }

abbrev at : ℕ → ℕ → Span
at low width = record { low = record { 0 = low }; width = width }

abbrev none : Span
none = at 0 0

-- kind, care, X, Y, A, B and P; key and place 0
abbrev offer : ℕ → ℕ → ℕ → ℕ → Span → Span → Span → Job
offer kind care x y a b p = job kind 0 care (bit_no x) (bit_no y) a b p 0 0 0 0

-- a greatest, held at its first place
abbrev other : Held
other = Some (job 1 0 0 (bit_no 0) (bit_no 1) (at 0 4) none none 0 3 0 0)

abbrev starts : Held → Job → ℕ × ℕ → Case
starts h o stated = record { given = tells_started (start_of board h o); stated = stated }

-- a start, where one thing is wrong with the job offered, for every kind; and where nothing that the kind uses is wrong
abbrev pub alone : List Case
alone =
    starts None (offer 1 0 0 1 none none none) (20, 1)
    ∷ starts None (offer 1 0 0 1 (at 5 4) none none) (21, 1)
    ∷ starts None (offer 1 0 8 1 (at 0 4) none none) (23, 0)
    ∷ starts None (offer 1 0 0 8 (at 0 4) none none) (23, 0)
    ∷ starts None (offer 1 0 1 1 (at 0 4) none none) (24, 0)
    ∷ starts None (offer 1 1 0 1 (at 0 4) none none) (24, 0)
    ∷ starts None (offer 1 2 0 1 (at 0 4) none none) (24, 0)
    ∷ starts None (offer 2 0 0 1 none none none) (20, 1)
    ∷ starts None (offer 2 0 0 1 (at 5 4) none none) (21, 1)
    ∷ starts None (offer 2 0 8 1 (at 0 4) none none) (23, 0)
    ∷ starts None (offer 2 0 0 8 (at 0 4) none none) (23, 0)
    ∷ starts None (offer 2 0 1 1 (at 0 4) none none) (24, 0)
    ∷ starts None (offer 2 1 0 1 (at 0 4) none none) (24, 0)
    ∷ starts None (offer 2 2 0 1 (at 0 4) none none) (24, 0)
    ∷ starts None (offer 3 0 0 1 none none (at 4 4)) (20, 1)
    ∷ starts None (offer 3 0 0 1 (at 0 4) none (at 4 0)) (20, 3)
    ∷ starts None (offer 3 0 0 1 (at 8 1) none (at 0 4)) (21, 1)
    ∷ starts None (offer 3 0 0 1 (at 0 4) none (at 5 4)) (21, 3)
    ∷ starts None (offer 3 0 0 1 (at 0 4) none (at 3 4)) (22, 1)
    ∷ starts None (offer 3 0 0 8 (at 0 4) none (at 4 4)) (23, 0)
    ∷ starts None (offer 3 2 0 1 (at 0 4) none (at 4 4)) (24, 0)
    ∷ starts None (offer 4 0 0 1 none (at 2 2) (at 4 4)) (20, 1)
    ∷ starts None (offer 4 0 0 1 (at 0 2) (at 2 0) (at 4 4)) (20, 2)
    ∷ starts None (offer 4 0 0 1 (at 0 2) (at 2 2) (at 4 0)) (20, 3)
    ∷ starts None (offer 4 0 0 1 (at 7 2) (at 2 2) (at 4 3)) (21, 1)
    ∷ starts None (offer 4 0 0 1 (at 0 2) (at 7 2) (at 4 3)) (21, 2)
    ∷ starts None (offer 4 0 0 1 (at 0 2) (at 2 2) (at 5 4)) (21, 3)
    ∷ starts None (offer 4 0 0 1 (at 0 2) (at 2 2) (at 1 1)) (22, 1)
    ∷ starts None (offer 4 0 0 1 (at 0 2) (at 2 2) (at 3 4)) (22, 2)
    ∷ starts None (offer 4 0 0 255 (at 0 2) (at 2 2) (at 4 4)) (23, 0)
    ∷ starts None (offer 4 2 0 1 (at 0 2) (at 2 2) (at 4 4)) (24, 0)
    ∷ starts None (offer 0 0 0 1 (at 0 4) none none) (25, 0)
    ∷ starts None (offer 5 0 0 1 (at 0 4) none none) (25, 0)
    ∷ starts other (offer 1 0 0 1 (at 0 4) none none) (25, 0)
    ∷ starts None (offer 3 1 0 1 (at 0 4) (at 7 9) (at 4 4)) (0, 0)
    ∷ starts None (offer 1 0 0 7 (at 0 8) none (at 0 8)) (0, 0)
    ∷ starts None (offer 4 0 9 1 (at 0 2) (at 0 2) (at 2 6)) (0, 0)
    ∷ []

-- a start with several things wrong: the lowest number, and of one number A before B before P; 25 for the job that is held comes last; an unknown
-- kind gets only 25
abbrev pub together : List Case
together =
    starts None (offer 4 0 0 1 none (at 2 0) (at 4 0)) (20, 1)
    ∷ starts None (offer 4 0 0 1 (at 0 2) (at 2 0) (at 4 0)) (20, 2)
    ∷ starts None (offer 4 0 0 1 (at 7 2) (at 2 2) (at 4 0)) (20, 3)
    ∷ starts None (offer 3 0 0 1 (at 6 4) none none) (20, 3)
    ∷ starts None (offer 4 0 0 1 (at 7 2) (at 7 2) (at 7 2)) (21, 1)
    ∷ starts None (offer 4 0 0 1 (at 0 2) (at 7 2) (at 7 2)) (21, 2)
    ∷ starts None (offer 4 0 0 1 (at 0 2) (at 2 2) (at 3 6)) (21, 3)
    ∷ starts None (offer 4 0 0 1 (at 0 2) (at 2 2) (at 0 8)) (22, 1)
    ∷ starts None (offer 3 2 0 8 (at 0 4) none (at 0 4)) (22, 1)
    ∷ starts None (offer 4 2 0 1 (at 0 2) (at 2 2) (at 3 4)) (22, 2)
    ∷ starts None (offer 1 0 8 8 (at 0 4) none none) (23, 0)
    ∷ starts None (offer 1 1 0 8 (at 0 4) none none) (23, 0)
    ∷ starts other (offer 1 3 0 0 none none none) (20, 1)
    ∷ starts other (offer 4 0 0 1 (at 0 2) (at 2 2) (at 5 4)) (21, 3)
    ∷ starts other (offer 4 0 0 1 (at 0 2) (at 2 2) (at 2 2)) (22, 2)
    ∷ starts other (offer 2 0 0 9 (at 0 4) none none) (23, 0)
    ∷ starts other (offer 3 2 0 1 (at 0 4) none (at 4 4)) (24, 0)
    ∷ starts other (offer 5 255 9 9 (at 9 0) (at 9 0) (at 9 0)) (25, 0)
    ∷ []

-- ---- a held job: a step, a total, and the image written into this much room

abbrev gives : Held → ℕ × ℕ → Case
gives h stated = record { given = tells_stepped (step_of board h); stated = stated }

abbrev takes : Held → ℕ × ℕ → Case
takes h stated = record { given = tells_total (total_of board h); stated = stated }

abbrev stores : Held → ℕ → ℕ × ℕ → Case
stores h room stated = record { given = tells_wrote (write_of (record { machine = board; held = h }) room); stated = stated }

-- kind, care, Y, A, B and P, phase, i, j and c; key and X 0
abbrev holding : ℕ → ℕ → ℕ → Span → Span → Span → ℕ → ℕ → ℕ → ℕ → Held
holding kind care y a b p phase i j c = Some (job kind 0 care (bit_no 0) (bit_no y) a b p phase i j c)

-- 20 to 24 come before what is judged only after the start; what is held comes before the room
abbrev pub held : List Case
held =
    gives None (25, 0)
    ∷ takes None (25, 0)
    ∷ stores None 44 (0, 0)
    ∷ stores None 43 (10, 0)
    ∷ gives (holding 1 0 1 (at 0 4) none none 3 0 0 0) (25, 0)
    ∷ gives (holding 2 0 1 (at 0 4) none none 0 2 0 0) (25, 0)
    ∷ gives (holding 3 0 1 (at 0 4) none (at 4 4) 0 0 0 0) (25, 0)
    ∷ gives (holding 4 0 1 (at 0 2) (at 2 2) (at 4 4) 1 0 2 0) (25, 0)
    ∷ gives (holding 1 0 1 (at 0 4) (at 0 1) none 0 3 0 0) (25, 0)
    ∷ gives (holding 3 0 1 (at 0 4) none (at 4 4) 1 0 1 0) (25, 0)
    ∷ gives (holding 4 0 1 (at 0 2) (at 2 2) (at 4 4) 1 0 0 1) (25, 0)
    ∷ gives (holding 7 0 9 none none none 9 9 9 9) (25, 0)
    ∷ gives (holding 1 0 1 none none none 0 3 0 0) (20, 1)
    ∷ gives (holding 4 0 9 (at 7 2) (at 2 2) none 1 0 0 1) (20, 3)
    ∷ gives (holding 3 0 1 (at 0 4) none (at 5 4) 9 0 0 0) (21, 3)
    ∷ gives (holding 4 2 1 (at 0 2) (at 2 2) (at 3 4) 1 0 0 0) (22, 2)
    ∷ gives (holding 3 0 8 (at 0 4) none (at 4 4) 9 0 0 0) (23, 0)
    ∷ gives (holding 1 0 0 (at 0 4) none none 9 0 0 0) (24, 0)
    ∷ takes (holding 1 0 1 (at 0 4) none none 1 3 0 0) (25, 0)
    ∷ takes (holding 3 0 1 (at 0 4) none (at 4 4) 1 1 0 5) (25, 0)
    ∷ takes (holding 3 0 1 (at 6 4) none (at 0 4) 1 1 0 5) (21, 1)
    ∷ takes (holding 3 0 1 (at 0 4) none (at 4 4) 1 0 0 5) (0, 0)
    ∷ stores (holding 4 0 1 (at 0 2) none (at 4 4) 1 0 0 0) 0 (20, 2)
    ∷ stores (holding 3 0 1 (at 0 4) none (at 4 4) 0 0 0 0) 0 (25, 0)
    ∷ stores (holding 3 0 1 (at 0 4) none (at 4 4) 2 3 0 5) 65 (10, 0)
    ∷ stores (holding 3 0 1 (at 0 4) none (at 4 4) 2 3 0 5) 66 (0, 0)
    ∷ []

-- ---- the round: show by X, an answer by X and F for a word; nobody is to be shown

abbrev shows : ℕ → ℕ × ℕ → Case
shows x stated = record { given = tells_resolved (show_of (bit_no x) board); stated = stated }

abbrev answers : ℕ → ℕ → ℕ × ℕ → Case
answers x f stated = record { given = rounds.told (reply_of (bit_no x) (bit_no f) (record { 0 = 1 }) board); stated = stated }

abbrev pub round : List Case
round =
    shows 7 (0, 0)
    ∷ shows 8 (23, 0)
    ∷ shows 255 (23, 0)
    ∷ answers 8 0 (23, 0)
    ∷ answers 0 8 (23, 0)
    ∷ answers 8 8 (23, 0)
    ∷ answers 3 3 (24, 0)
    ∷ answers 0 7 (11, 0)
    ∷ []

-- ---- the statement: what the definitions tell is what the document states, in every row

abbrev shown_all : List Case → List (ℕ × ℕ)
shown_all = map (λ (r : Case). r.given)

abbrev stated_all : List Case → List (ℕ × ℕ)
stated_all = map (λ (r : Case). r.stated)

pub figures_of_d : (shown_all alone ≡ stated_all alone) × (shown_all together ≡ stated_all together)
    × (shown_all held ≡ stated_all held) × (shown_all round ≡ stated_all round)
unfolding bad_size bad_width lowest machine_check kind_of extreme_check scaled_add_check product_check used_check unused_zero in_table held_check first start_check start_of step_check step_of total_check total_of pulses bytes items image_of write_check write_of shown show_check pair_check answer_check round_check show_of reply_of
figures_of_d = (refl, refl, refl, refl)
