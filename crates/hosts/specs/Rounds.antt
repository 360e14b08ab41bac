-- Document 01, 'The hand-out round': a host's round, event by event, over machines and stored images.
use Rattle.std.specs.Prelude.{ℕ, suc, ◌<◌, ◌≡◌, List, [], ◌∷◌, ◌++◌, map, length, take, get_or, Option, Some, Result, Ok, Err}
use Rattle.laws.specs.Bits.{bit}
use Rattle.machine.specs.declared.Panel.{Panel}
use Rattle.machine.specs.declared.Lines.{Lines}
use Rattle.machine.specs.declared.WordSlice.{WordSlice}
use Rattle.machine.specs.declared.ResponseBit.{ResponseBit}
use Rattle.machine.specs.declared.Refusal.{Refusal}
use Rattle.machine.specs.Machine.{Machine}
use Rattle.machine.specs.Refusals.{pulse_check, after}
use Rattle.resolver.specs.Answers.{resolution}
use Rattle.rounds.specs.declared.Verdict.{Verdict}
use Rattle.rounds.specs.declared.Verdict.TheVariants.{Done, Faulty}
use Rattle.rounds.specs.Round.{show_of, reply_of, after_answer}
use Rattle.rounds.specs.Handout.{numbers_with, responders, response}
use Rattle.handout.specs.Whole.{report_of, after_round}
use Rattle.job_plans.specs.declared.Job.{Job}
use Rattle.job_plans.specs.declared.Command.{Command}
use Rattle.job_plans.specs.Fields.{Kind, greatest, smallest, scaledAdd, product, unknown, kind_of, Held}
use Rattle.job_tally.specs.Totals.{total_of}
use Rattle.jobs.specs.Calls.{start_of, step_of}
use Rattle.jobs.specs.Runs.{State, stepped}
use Rattle.image_layout.specs.Format.{JobFits}
use Rattle.image.specs.Calls.{write_of}
use Rattle.hosts.specs.Images.{Stores, Resumes}

-- ---- responders

-- word k has X
pub record Responder (x : ResponseBit) (m : Machine) (k : ℕ) : Type 0 where
  pub within : k < length m.responses
  pub mark : bit (response m k) x.0 ≡ 1

-- how many words below k have X
abbrev pub lower : ResponseBit → Machine → ℕ → ℕ
lower x m k = length (numbers_with x 0 (take k m.responses))

-- ---- calls that are none of the round's

-- a call that lends the machine by & only, or none of it, whatever it answers; the panel is not part of what stands
pub data Looks : State → State → Type 0 where
  shows_word : {s : State} {a : Result (Option WordSlice) Refusal} (y : ResponseBit) → show_of y s.machine ≡ a → Looks s s
  resolves : {s : State} {a : Result (Option WordSlice) Refusal} (key care : ℕ) → resolution key care s.machine ≡ a → Looks s s
  totals : {s : State} {a : Result ℕ Refusal} → total_of s.machine s.held ≡ a → Looks s s
  starts : {s : State} {q : Job} (o : Job) → JobFits o → start_of s.machine s.held o ≡ Ok q
      → Looks s (record { machine = s.machine; held = Some q })
  writes : {s : State} {a : Result ℕ Refusal} (output : List ℕ) → write_of s (length output) ≡ a → Looks s s
  loads : {s : State} (before after : Panel) → Looks s s

-- an accepted call of the library; a pulse may come with any panel, an answer and a whole round with any two bits
pub data Other : State → State → Type 0 where
  looks : {s t : State} → Looks s t → Other s t
  pulses : {s : State} (p : Panel) (l : Lines) → pulse_check s.machine p l ≡ Ok tt
      → Other s (record { machine = after s.machine p l; held = s.held })
  steps : {s : State} {k : Command} {c : ℕ} {h : Held} → step_of s.machine s.held ≡ Ok (record { command = k; count = c; held = h }) → Other s (stepped s)
  answers_word : {s : State} (y g : ResponseBit) (k : WordSlice) (v : Verdict) → reply_of y g k s.machine ≡ Ok tt
      → Other s (record { machine = after_answer y g k v s.machine; held = s.held })
  works_round : {s : State} {done faulty : ℕ} (y g : ResponseBit) (vs : List ℕ) → report_of y g vs s.machine ≡ Ok (record { done = done; faulty = faulty })
      → Other s (record { machine = after_round y g vs s.machine; held = s.held })

-- bits X and F of each response are as they were
pub record Leaves (x f : ResponseBit) (m n : Machine) : Type 0 where
  pub count : length n.responses ≡ length m.responses
  pub mark : (k : ℕ) → k < length m.responses → bit (response n k) x.0 ≡ bit (response m k) x.0
  pub fault : (k : ℕ) → k < length m.responses → bit (response n k) f.0 ≡ bit (response m k) f.0

-- bit b is none of a job's working response bits: X and Y of an extreme, Y of the others
abbrev pub ApartFor : Kind → Job → ResponseBit → Type 0
ApartFor greatest o b = (b.0 ≡ o.x.0 → ⊥) × (b.0 ≡ o.y.0 → ⊥)
ApartFor smallest o b = (b.0 ≡ o.x.0 → ⊥) × (b.0 ≡ o.y.0 → ⊥)
ApartFor scaledAdd o b = b.0 ≡ o.y.0 → ⊥
ApartFor product o b = b.0 ≡ o.y.0 → ⊥
ApartFor unknown o b = ⊥

abbrev pub Apart : Job → ResponseBit → Type 0
Apart o b = ApartFor (kind_of o.kind) o b

-- bit b is none of a round's two
abbrev pub Beside : ResponseBit → ResponseBit → ResponseBit → Type 0
Beside y g b = (b.0 ≡ y.0 → ⊥) × (b.0 ≡ g.0 → ⊥)

-- ---- the host

-- an answer given: the word that it was for, and the verdict
pub record Given : Type 0 where
  pub word : ℕ
  pub verdict : Verdict

abbrev pub words_of : List Given → List ℕ
words_of vs = map (λ (a : Given). a.word) vs

abbrev pub verdicts_of : List Given → List Verdict
verdicts_of vs = map (λ (a : Given). a.verdict) vs

-- between two calls: ready to show; a word is shown; an answer is given, and not stored
pub data Phase : Type 0 where
  ready : Phase
  showing : ℕ → Phase
  answered : Given → Phase

-- the answer that is given and not stored
abbrev pub pending : Phase → List Given
pending ready = []
pending (showing k) = []
pending (answered a) = a ∷ []

-- once an image is stored
abbrev pub settled : Phase → Phase
settled ready = ready
settled (showing k) = showing k
settled (answered a) = ready

-- the host's own book, newest first: the words shown, those shown again because the host asked again, each with the number of answers that were
-- stored then, and the stops
pub data Entry : Type 0 where
  shown : ℕ → ℕ → Entry
  asked : ℕ → ℕ → Entry
  stopped : Entry

-- `Own x f vs s phase book t next new`: one call of the round's own, while the answers vs are stored: from s, phase and book to t, next and new.
-- "The host shows before each answer"; it may ask again while a word is shown
pub data Own (x f : ResponseBit) (vs : List Given) : State → Phase → List Entry → State → Phase → List Entry → Type 0 where
  shows : {s : State} {book : List Entry} {k : WordSlice} → show_of x s.machine ≡ Ok (Some k)
      → Own x f vs s ready book s (showing k.0) (shown k.0 (length vs) ∷ book)
  asks : {s : State} {book : List Entry} {j : ℕ} {k : WordSlice} → show_of x s.machine ≡ Ok (Some k)
      → Own x f vs s (showing j) book s (showing k.0) (asked k.0 (length vs) ∷ book)
  answers : {s : State} {book : List Entry} {j : ℕ} (k : WordSlice) (v : Verdict) → reply_of x f k s.machine ≡ Ok tt
      → Own x f vs s (showing j) book (record { machine = after_answer x f k v s.machine; held = s.held }) (answered (record { word = k.0; verdict = v })) book
  refused : {s : State} {book : List Entry} {phase : Phase} {r : Refusal} (k : WordSlice) (v : Verdict) → reply_of x f k s.machine ≡ Err r
      → Own x f vs s phase book (record { machine = after_answer x f k v s.machine; held = s.held }) phase book

-- `Hosted x f b s image phase vs book`: a round over X and F that began at b; s stands now, `image` is the last stored, and vs are the answers
-- that are stored.
-- "The host shows before each answer, again after a stop .. and stores an image before the first show and after each answer, before the next show"
pub data Hosted (x f : ResponseBit) (b : State) : State → List ℕ → Phase → List Given → List Entry → Type 0 where
  opens : {output image : List ℕ} → Stores output b image → Hosted x f b b image ready [] []
  owns : {s t : State} {image : List ℕ} {phase next : Phase} {vs : List Given} {book new : List Entry} → Hosted x f b s image phase vs book
      → Own x f vs s phase book t next new → Hosted x f b t image next vs new
  stores : {s : State} {output image new : List ℕ} {phase : Phase} {vs : List Given} {book : List Entry} → Hosted x f b s image phase vs book
      → Stores output s new → Hosted x f b s new (settled phase) (vs ++ pending phase) book
  stops : {s t : State} {words responses image : List ℕ} {phase : Phase} {vs : List Given} {book : List Entry} → Hosted x f b s image phase vs book
      → Resumes words responses image t
      → Hosted x f b t image ready vs (stopped ∷ book)
  others : {s t : State} {image : List ℕ} {phase : Phase} {vs : List Given} {book : List Entry} → Hosted x f b s image phase vs book → Other s t
      → Leaves x f s.machine t.machine → Hosted x f b t image phase vs book

-- `Both x f y g b c s image phase vs book turn us log`: two rounds side by side, their calls in any order. The first, over X and F, began at b; at any
-- point of it, c, the second began, over Y and G. From there on an image that is stored is stored for both, and a stop stops both
pub data Both (x f y g : ResponseBit) (b c : State) : State → List ℕ → Phase → List Given → List Entry → Phase → List Given → List Entry → Type 0 where
  joins : {output image new : List ℕ} {phase : Phase} {vs : List Given} {book : List Entry} → Hosted x f b c image phase vs book → Stores output c new
      → Both x f y g b c c new (settled phase) (vs ++ pending phase) book ready [] []
  first_owns : {s t : State} {image : List ℕ} {phase next turn : Phase} {vs us : List Given} {book new log : List Entry}
      → Both x f y g b c s image phase vs book turn us log → Own x f vs s phase book t next new → Both x f y g b c t image next vs new turn us log
  second_owns : {s t : State} {image : List ℕ} {phase next turn : Phase} {vs us : List Given} {book new log : List Entry}
      → Both x f y g b c s image phase vs book turn us log → Own y g us s turn log t next new → Both x f y g b c t image phase vs book next us new
  both_store : {s : State} {output image new : List ℕ} {phase turn : Phase} {vs us : List Given} {book log : List Entry}
      → Both x f y g b c s image phase vs book turn us log → Stores output s new
      → Both x f y g b c s new (settled phase) (vs ++ pending phase) book (settled turn) (us ++ pending turn) log
  both_stop : {s t : State} {words responses image : List ℕ} {phase turn : Phase} {vs us : List Given} {book log : List Entry}
      → Both x f y g b c s image phase vs book turn us log → Resumes words responses image t
      → Both x f y g b c t image ready vs (stopped ∷ book) ready us (stopped ∷ log)
  others_call : {s t : State} {image : List ℕ} {phase turn : Phase} {vs us : List Given} {book log : List Entry}
      → Both x f y g b c s image phase vs book turn us log → Other s t → Leaves x f s.machine t.machine → Leaves y g s.machine t.machine
      → Both x f y g b c t image phase vs book turn us log

-- ---- "never skipped, at most one twice at each stop"

-- word k was the last one shown, after n stored answers; the host may have asked for it again
pub data Last (k n : ℕ) : List Entry → Type 0 where
  just_shown : {book : List Entry} → Last k n (shown k n ∷ book)
  asked_since : {book : List Entry} → Last k n book → Last k n (asked k n ∷ book)

-- and there was a stop since
pub data Again (k n : ℕ) : List Entry → Type 0 where
  stopped_once : {book : List Entry} → Last k n book → Again k n (stopped ∷ book)
  stopped_more : {book : List Entry} → Again k n book → Again k n (stopped ∷ book)

-- each word shown was the next responder of m, after as many stored answers as it has lower ones; or, after a stop, the last one again; or, where the
-- host asked again, the one that was shown; `many` responders have been shown
pub data Orderly (x : ResponseBit) (m : Machine) : List Entry → ℕ → Type 0 where
  nothing_yet : Orderly x m [] 0
  next : {book : List Entry} {many k : ℕ} → Orderly x m book many → Responder x m k → lower x m k ≡ many → Orderly x m (shown k many ∷ book) (suc many)
  again : {book : List Entry} {many k n : ℕ} → Orderly x m book many → Again k n book → Orderly x m (shown k n ∷ book) many
  asking : {book : List Entry} {many k n : ℕ} → Orderly x m book many → Last k n book → Orderly x m (asked k n ∷ book) many
  stop : {book : List Entry} {many : ℕ} → Orderly x m book many → Orderly x m (stopped ∷ book) many

-- word k stands in the book, shown after n stored answers
pub data Shown (k n : ℕ) : List Entry → Type 0 where
  last : {book : List Entry} → Shown k n (shown k n ∷ book)
  last_asked : {book : List Entry} → Shown k n (asked k n ∷ book)
  before : {e : Entry} {book : List Entry} → Shown k n book → Shown k n (e ∷ book)

-- ---- a round that is through: m is the first image's machine, n the one that stands

pub record Finished (x f : ResponseBit) (m n : Machine) (vs : List Given) (book : List Entry) : Type 0 where
  -- every responder is in the book, shown after exactly as many stored answers as it has lower ones; and nothing else is
  pub all_shown : (k : ℕ) → Responder x m k → Shown k (lower x m k) book
  pub only_responders : (k i : ℕ) → Shown k i book → Responder x m k × (lower x m k ≡ i)
  -- each has exactly one stored answer: these are the responders', in rising order, so that of a responder with i lower ones is number i
  pub one_answer_each : words_of vs ≡ responders x m
  -- F is 1 in the faulty ones, and elsewhere as in the first image; none has X
  pub faulty : (k : ℕ) → Responder x m k → get_or (verdicts_of vs) (lower x m k) Done ≡ Faulty → bit (response n k) f.0 ≡ 1
  pub done : (k : ℕ) → Responder x m k → get_or (verdicts_of vs) (lower x m k) Done ≡ Done → bit (response n k) f.0 ≡ bit (response m k) f.0
  pub elsewhere : (k : ℕ) → (Responder x m k → ⊥) → bit (response n k) f.0 ≡ bit (response m k) f.0
  pub none_left : (k : ℕ) → Responder x n k → ⊥
