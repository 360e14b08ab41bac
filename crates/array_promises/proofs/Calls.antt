-- Demands 1 and 2, said of the array's calls themselves: what each machine's own source promises of an operation (`Post` of the call, of its arguments
-- a, an answer r and what stands behind the lent references at exit, s) is what the demands speak of.
use Prim.Native.Nat.{ℕ}
use mathlib.Core.Path.{◌≡◌, refl, sym, ap, ◌∙◌}
use mathlib.Core.Bool.{Bool, true, false, not}
use mathlib.Core.List.{List, [], ◌∷◌}
use native.Mathlib.Omega.{arith}
use lib.Dec.{ltb}
use lib.ListN.{length}
use contract.Lifetimes.{Lfts}
use borrow.Fn.World.{ArgsD, ResD}
use borrow.Fn.Kinds.{ended_of}
use denote.Triple.Clauses.{AtExit}
use Rattle.array.proofs.Calls.{an_answer}
use Rattle.std.specs.Prelude.{Option, Some, None, Result, Ok, Err}
use Rattle.laws.specs.Bits.{pick}
use Rattle.machine.specs.declared.WordSlice.{WordSlice}
use Rattle.machine.specs.Refusals.{bad_width, ◌else◌, refuse, answer_by, change_by}
use Rattle.array.specs.declared.Registers.{Registers}
use Rattle.array.specs.declared.Operation.{Operation}
use Rattle.array.specs.declared.Refusal.{Refusal}
use Rattle.array.specs.declared.Refusal.TheVariants.{Size, Width, WordTooWide, NoCell, RegisterTooWide}
use Rattle.array.specs.declared.Answer.{Answer}
use Rattle.array.specs.Operations.{Array, array, words_of, registers_after, count_of, operated}
use Rattle.array.specs.Refusals.{bad_sizes, first_too_wide, bad_cells, bad_registers, Check, refuse_word, call_check, answer_of, after, tells, Told, told}
use Rattle.entry_forms.specs.Numbers.{tell_in}
use Rattle.array_entries.specs.Numbers.{operation_of, registers_of, answer_size, order_of, refused, turned, told_by, is_three, entry_told, numbers_of, left_by, left, loaded, registers_by, registers_left}
use Rattle.promises.proofs.Demand1.{Entry, first, stray}
use Rattle.promises.proofs.Calls.{Leaves}
use Rattle.array_promises.proofs.Demand1.{operate_table, tells_answer, operate_tells, operate_accepted, operate_unchanged}
use Rattle.array_cells.specs.contracts.operate as plain
use Rattle.array_cells.proofs.operate.Kinds as plain-kinds
use Rattle.array_cells.proofs.operate.Reads as plain-reads
use Rattle.array_wide.specs.contracts.operate as wide
use Rattle.array_wide.proofs.operate.Kinds as wide-kinds
use Rattle.array_wide.proofs.operate.Reads as wide-reads
use Rattle.array_entries.specs.contracts.dushvaneth_array_cells as plain_entry
use Rattle.array_entries.proofs.dushvaneth_array_cells.Kinds as plain-entry-kinds
use Rattle.array_entries.proofs.dushvaneth_array_cells.Reads as plain-entry-reads
use Rattle.array_entries.specs.contracts.dushvaneth_array_wide as wide-entry
use Rattle.array_entries.proofs.dushvaneth_array_wide.Kinds as wide-entry-kinds
use Rattle.array_entries.proofs.dushvaneth_array_wide.Reads as wide-entry-reads

-- an outcome of operation o on array b with registers g: the answer r, and the array n afterwards
pub record Operates (b : Array) (g : Registers) (o : Operation) (r : Result Answer Refusal) (n : Array) : Type 0 where
  pub answers : r ≡ answer_of b g o
  pub number : tells_answer r ≡ first (operate_table b g)
  pub accepted : (tells_answer r).0 ≡ 0 → call_check b g ≡ Ok tt
  pub leaves : Leaves (tells_answer r).0 b (after b g o) n

same_width : (b : Array) (g : Registers) (o : Operation) → (after b g o).width ≡ b.width
unfolding after
same_width b g o = go (call_check b g)
  where
    go : (c : Check) → (change_by c (operated b g o) b).width ≡ b.width
    go (Ok tt) = refl
    go (Err why) = refl

whole : (k : ℕ) (os xs ss : List ℕ) (n : Array) → n.width ≡ k → os ≡ n.ones → xs ≡ n.xs → ss ≡ n.selectors → array k os xs ss ≡ n
whole k os xs ss n e f g h = rw (← e, f, g, h)

an_operation : (b : Array) (g : Registers) (o : Operation) (r : Result Answer Refusal) (os xs ss : List ℕ) → r ≡ answer_of b g o → os ≡ (after b g o).ones
    → xs ≡ (after b g o).xs → ss ≡ (after b g o).selectors → Operates b g o r (array b.width os xs ss)
an_operation b g o r os xs ss e f k h =
    let t : tells_answer r ≡ first (operate_table b g) = ap tells_answer e ∙ operate_tells b g o in
    let n : array b.width os xs ss ≡ after b g o = whole b.width os xs ss (after b g o) (same_width b g o) f k h in
    record {
      answers = e;
      number = t;
      accepted = λ z. operate_accepted b g (sym (ap (λ (x : ℕ × ℕ). x.0) t) ∙ z);
      leaves = record { leaves = n; unchanged = λ z. n ∙ operate_unchanged b g o (λ y. z (ap (λ (x : ℕ × ℕ). x.0) t ∙ y)) };
    }

pub plain_meets : (κs : Lfts 3) (a : ArgsD plain.signature κs) (r : ResD plain.signature κs) (s : AtExit (ended_of 3 plain-kinds.ps plain-kinds.r) κs)
    → plain-reads.Post κs a r s
    → let b = array a.1.1.1.0 a.0.now a.1.0.now a.1.1.0.now in
    let registers = a.1.1.1.1.0 in
    let operation = a.1.1.1.1.1.0 in
    Operates b registers operation r (array b.width s.0.now s.1.0.now s.1.1.0.now)
plain_meets κs a r s h =
    an_operation (array a.1.1.1.0 a.0.now a.1.0.now a.1.1.0.now) a.1.1.1.1.0 a.1.1.1.1.1.0 r
    s.0.now s.1.0.now s.1.1.0.now h.0 h.1.0 h.1.1.0 h.1.1.1

pub wide_meets : (κs : Lfts 3) (a : ArgsD wide.signature κs) (r : ResD wide.signature κs) (s : AtExit (ended_of 3 wide-kinds.ps wide-kinds.r) κs)
    → wide-reads.Post κs a r s
    → let b = array a.1.1.1.0 a.0.now a.1.0.now a.1.1.0.now in
    let registers = a.1.1.1.1.0 in
    let operation = a.1.1.1.1.1.0 in
    Operates b registers operation r (array b.width s.0.now s.1.0.now s.1.1.0.now)
wide_meets κs a r s h =
    an_operation (array a.1.1.1.0 a.0.now a.1.0.now a.1.1.0.now) a.1.1.1.1.0 a.1.1.1.1.1.0 r
    s.0.now s.1.0.now s.1.1.0.now h.0 h.1.0 h.1.1.0 h.1.1.1

-- ---- the same two for callers in other languages, which lend the registers in a buffer `held` and name the operation by a code

abbrev pub is_bad : Option Operation → Bool
is_bad (Some o) = false
is_bad None = true

-- R1, R2 and M in their buffer
abbrev pub listed : Registers → List ℕ
listed g = g.r1 ∷ g.r2 ∷ g.m ∷ []

abbrev entry : ℕ → Bool → Entry
entry k b = record { number = k; also = 0; holds = b }

-- (house): 1 too for a buffer of registers that is not of three, 6 for a code that names no operation, and 10 for an answer's buffer without room
abbrev pub entry_table : Array → List ℕ → ℕ → ℕ → List Entry
entry_table b held code room =
    entry 1 (not (is_three held))
    ∷ entry 1 (bad_sizes (length b.ones) (length b.xs) (length b.selectors))
    ∷ entry 2 (bad_width b.width)
    ∷ stray (first_too_wide b.width (words_of b))
    ∷ entry 12 (bad_cells b.width (words_of b))
    ∷ entry 4 (bad_registers b.width (registers_of held))
    ∷ entry 6 (is_bad (operation_of code))
    ∷ entry 10 (ltb room answer_size)
    ∷ []

-- the number returned r; the array n, the registers k and the answer's buffer d afterwards, where it was `answer`
pub record Entered (b : Array) (held : List ℕ) (code : ℕ) (answer : List ℕ) (r : ℕ) (n : Array) (k d : List ℕ) : Type 0 where
  pub accepted : (first (entry_table b held code (length answer))).0 ≡ 0 → (o : Operation) → operation_of code ≡ Some o
      → let new = registers_after b.width (registers_of held) o (words_of b) in
      (r ≡ 0) × (n ≡ after b (registers_of held) o) × (k ≡ listed new)
      × (d ≡ tell_in (0 ∷ 0 ∷ new.r1 ∷ new.r2 ∷ new.m ∷ count_of b (registers_of held) o ∷ []) answer)
  pub refused : ((first (entry_table b held code (length answer))).0 ≡ 0 → ⊥)
      → let why = first (entry_table b held code (length answer)) in
      (r ≡ why.0) × (n ≡ b) × (k ≡ held) × (d ≡ tell_in (why.0 ∷ why.1 ∷ 0 ∷ 0 ∷ 0 ∷ 0 ∷ []) answer)

-- what the table gives, of the four that an entry point looks at in turn
abbrev gives : Bool → Check → Bool → Bool → ℕ × ℕ
gives false c bad low = (1, 0)
gives true (Err why) bad low = tells why
gives true (Ok tt) true low = (6, 0)
gives true (Ok tt) false true = (10, 0)
gives true (Ok tt) false false = (0, 0)

in_order : (t b₁ b₂ : Bool) (f : Option WordSlice) (b₁₂ b₄ bad low : Bool)
    → gives t (refuse Size b₁ else refuse Width b₂ else refuse_word f else refuse NoCell b₁₂ else refuse RegisterTooWide b₄) bad low
    ≡ first (entry 1 (not t) ∷ entry 1 b₁ ∷ entry 2 b₂ ∷ stray f ∷ entry 12 b₁₂ ∷ entry 4 b₄ ∷ entry 6 bad ∷ entry 10 low ∷ [])
unfolding first
in_order false b₁ b₂ f b₁₂ b₄ bad low = refl
in_order true true b₂ f b₁₂ b₄ bad low = refl
in_order true false true f b₁₂ b₄ bad low = refl
in_order true false false (Some k) b₁₂ b₄ bad low = refl
in_order true false false None true b₄ bad low = refl
in_order true false false None false true bad low = refl
in_order true false false None false false true low = refl
in_order true false false None false false false true = refl
in_order true false false None false false false false = refl

entry_given : (b : Array) (held : List ℕ) (code room : ℕ)
    → gives (is_three held) (call_check b (registers_of held)) (is_bad (operation_of code)) (ltb room answer_size) ≡ first (entry_table b held code room)
unfolding call_check
entry_given b held code room =
    in_order (is_three held) (bad_sizes (length b.ones) (length b.xs) (length b.selectors)) (bad_width b.width)
    (first_too_wide b.width (words_of b)) (bad_cells b.width (words_of b)) (bad_registers b.width (registers_of held))
    (is_bad (operation_of code)) (ltb room answer_size)

no_zero : (why : Refusal) → (tells why).0 ≡ 0 → ⊥
no_zero Size e = omega (arith, e)
no_zero Width e = omega (arith, e)
no_zero (WordTooWide k) e = omega (arith, e)
no_zero NoCell e = omega (arith, e)
no_zero RegisterTooWide e = omega (arith, e)

-- a refusal's numbers
abbrev zeros : ℕ × ℕ → Told
zeros p = record { refusal = p.0; also = p.1; registers = record { r1 = 0; r2 = 0; m = 0 }; count = 0 }

module _ (b : Array) (held : List ℕ) where
  abbrev g : Registers
  g = registers_of held

  -- what is told and left, by what is asked for and whether the registers are three
  abbrev tells_by : Bool → Result Operation ℕ → Told
  tells_by t q = pick t (told_by b g q) (refused 1)

  abbrev leaves_by : Bool → Result Operation ℕ → Array
  leaves_by t q = pick t (left_by b g q) b

  abbrev holds_by : Bool → Result Operation ℕ → List ℕ
  holds_by t q = pick t (registers_by b g q held) held

  abbrev Kept : Bool → Result Operation ℕ → ℕ × ℕ → Type 0
  Kept t q p = (tells_by t q ≡ zeros p) × (leaves_by t q ≡ b) × (holds_by t q ≡ held)

  own_number : (k : ℕ) (bad low : Bool) → gives true (Ok tt) bad low ≡ (k, 0) → Kept true (Err k) (gives true (call_check b g) bad low)
  own_number k bad low e = go (call_check b g)
    where
      go : (c : Check) → (turned c k ≡ zeros (gives true c bad low)) × (b ≡ b) × (held ≡ held)
      go (Ok tt) = (ap zeros (sym e), refl, refl)
      go (Err why) = (refl, refl, refl)

  named : (o : Operation) (low : Bool) → ((gives true (call_check b g) false low).0 ≡ 0 → ⊥)
      → Kept true (pick {A = Result Operation ℕ} low (Err 10) (Ok o)) (gives true (call_check b g) false low)
  unfolding answer_of after
  named o true z = own_number 10 false true refl
  named o false z = go (call_check b g) z
    where
      done : Answer
      done = an_answer (registers_after b.width g o (words_of b)) (count_of b g o)

      go : (c : Check) → ((gives true c false false).0 ≡ 0 → ⊥)
          → (told (answer_by c done) ≡ zeros (gives true c false false)) × (change_by c (operated b g o) b ≡ b) × (loaded (answer_by c done) held ≡ held)
      go (Ok tt) y = absurd (y refl)
      go (Err why) y = (refl, refl, refl)

  turned_down : (q : Option Operation) (room : ℕ) (t : Bool) → ((gives t (call_check b g) (is_bad q) (ltb room answer_size)).0 ≡ 0 → ⊥)
      → Kept t (order_of q room) (gives t (call_check b g) (is_bad q) (ltb room answer_size))
  turned_down q room false z = (refl, refl, refl)
  turned_down None room true z = own_number 6 true (ltb room answer_size) refl
  turned_down (Some o) room true z = named o (ltb room answer_size) z

  taken : (o : Operation) (t low : Bool) → (gives t (call_check b g) false low).0 ≡ 0
      → let new = registers_after b.width g o (words_of b) in
      let q = pick {A = Result Operation ℕ} low (Err 10) (Ok o) in
      (tells_by t q ≡ record { refusal = 0; also = 0; registers = new; count = count_of b g o })
      × (leaves_by t q ≡ after b g o) × (holds_by t q ≡ listed new)
  unfolding answer_of
  taken o false low z = absurd (omega (arith, z))
  taken o true true z = absurd (go (call_check b g) z)
    where
      go : (c : Check) → (gives true c false true).0 ≡ 0 → ⊥
      go (Ok tt) y = omega (arith, y)
      go (Err why) y = no_zero why y
  taken o true false z = go (call_check b g) z
    where
      new : Registers
      new = registers_after b.width g o (words_of b)

      go : (c : Check) → (gives true c false false).0 ≡ 0
          → (told (answer_by c (an_answer new (count_of b g o))) ≡ record { refusal = 0; also = 0; registers = new; count = count_of b g o })
          × (after b g o ≡ after b g o) × (loaded (answer_by c (an_answer new (count_of b g o))) held ≡ listed new)
      go (Ok tt) y = (refl, refl, refl)
      go (Err why) y = absurd (no_zero why y)

an_entry : (b : Array) (held : List ℕ) (code : ℕ) (answer : List ℕ) (r : ℕ) (d os xs ss k : List ℕ)
    → r ≡ (entry_told b held code (length answer)).refusal
    → d ≡ tell_in (numbers_of (entry_told b held code (length answer))) answer → os ≡ (left b held code (length answer)).ones
    → xs ≡ (left b held code (length answer)).xs → ss ≡ (left b held code (length answer)).selectors → k ≡ registers_left b held code (length answer)
    → Entered b held code answer r (array b.width os xs ss) k d
unfolding entry_told left registers_left
an_entry b held code answer r d os xs ss k e e₀ e₁ e₂ e₃ e₄ =
    let t = is_three held in
    let room = length answer in
    let low = ltb room answer_size in
    let f = entry_given b held code room in
    let n : array b.width os xs ss ≡ leaves_by b held t (order_of (operation_of code) room) =
    whole b.width os xs ss _ (wide_as t (order_of (operation_of code) room)) e₁ e₂ e₃ in
    record {
      accepted = λ z o q.
          let p =
          taken b held o t low
          (ap (λ (a : Option Operation). (gives t (call_check b (registers_of held)) (is_bad a) low).0) (sym q) ∙ ap (λ (x : ℕ × ℕ). x.0) f ∙ z) in
          let w : tells_by b held t (order_of (operation_of code) room) ≡ _ = ap (λ (a : Option Operation). tells_by b held t (order_of a room)) q ∙ p.0 in (
            e ∙ ap (λ (x : Told). x.refusal) w,
            n ∙ ap (λ (a : Option Operation). leaves_by b held t (order_of a room)) q ∙ p.1,
            e₄ ∙ ap (λ (a : Option Operation). holds_by b held t (order_of a room)) q ∙ p.2,
            e₀ ∙ ap (λ (x : Told). tell_in (numbers_of x) answer) w,
          );
      refused = λ z.
          let p = turned_down b held (operation_of code) room t (λ y. z (sym (ap (λ (x : ℕ × ℕ). x.0) f) ∙ y)) in
          let w = p.0 ∙ ap zeros f in
          (e ∙ ap (λ (x : Told). x.refusal) w, n ∙ p.1, e₄ ∙ p.2, e₀ ∙ ap (λ (x : Told). tell_in (numbers_of x) answer) w);
    }
  where
    wide_as : (t : Bool) (q : Result Operation ℕ) → (leaves_by b held t q).width ≡ b.width
    wide_as false q = refl
    wide_as true (Err number) = refl
    wide_as true (Ok o) = same_width b (registers_of held) o

pub plain_entry_meets : (κs : Lfts 5) (a : ArgsD plain_entry.signature κs) (r : ResD plain_entry.signature κs)
    (s : AtExit (ended_of 5 plain-entry-kinds.ps plain-entry-kinds.r) κs)
    → plain-entry-reads.Post κs a r s
    → let b = array a.1.1.1.1.0 a.0.now a.1.0.now a.1.1.0.now in
    let held = a.1.1.1.0.now in
    let code = a.1.1.1.1.1.0 in
    let answer = a.1.1.1.1.1.1.0.now in
    Entered b held code answer r (array b.width s.0.now s.1.0.now s.1.1.0.now) s.1.1.1.0.now
    s.1.1.1.1.1.1.0.now
plain_entry_meets κs a r s h =
    an_entry (array a.1.1.1.1.0 a.0.now a.1.0.now a.1.1.0.now) a.1.1.1.0.now a.1.1.1.1.1.0
    a.1.1.1.1.1.1.0.now r s.1.1.1.1.1.1.0.now s.0.now s.1.0.now s.1.1.0.now s.1.1.1.0.now
    h.0 h.1.0 h.1.1.0 h.1.1.1.0 h.1.1.1.1.0 h.1.1.1.1.1

pub wide_entry_meets : (κs : Lfts 5) (a : ArgsD wide-entry.signature κs) (r : ResD wide-entry.signature κs)
    (s : AtExit (ended_of 5 wide-entry-kinds.ps wide-entry-kinds.r) κs)
    → wide-entry-reads.Post κs a r s
    → let b = array a.1.1.1.1.0 a.0.now a.1.0.now a.1.1.0.now in
    let held = a.1.1.1.0.now in
    let code = a.1.1.1.1.1.0 in
    let answer = a.1.1.1.1.1.1.0.now in
    Entered b held code answer r (array b.width s.0.now s.1.0.now s.1.1.0.now) s.1.1.1.0.now
    s.1.1.1.1.1.1.0.now
wide_entry_meets κs a r s h =
    an_entry (array a.1.1.1.1.0 a.0.now a.1.0.now a.1.1.0.now) a.1.1.1.0.now a.1.1.1.1.1.0
    a.1.1.1.1.1.1.0.now r s.1.1.1.1.1.1.0.now s.0.now s.1.0.now s.1.1.0.now s.1.1.1.0.now
    h.0 h.1.0 h.1.1.0 h.1.1.1.0 h.1.1.1.1.0 h.1.1.1.1.1
