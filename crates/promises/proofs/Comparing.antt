-- Demand 2, of a search with SC3 (document 02, request c): "With a one there over a cared bit, larger becomes at least and smaller at most: equal at the
-- bottom also satisfies. Jobs set it to 0."
use Prim.Native.Nat.{ℕ, suc, ◌+◌, ◌<◌}
use mathlib.Core.Path.{◌≡◌, refl, sym, ap, ap₂, ◌∙◌}
use mathlib.Core.Bool.{Bool, true, false}
use mathlib.Core.Logic.{◌⊎◌, inl, inr, ⊎_elim}
use lib.Dec.{ltb, leb, eqb}
use borrow.Author.Tests.{not-false}
use contract.Lifetimes.{Lfts}
use borrow.Fn.World.{ArgsD, ResD}
use borrow.Fn.Kinds.{ended_of}
use denote.Triple.Clauses.{AtExit}
use Rattle.std.specs.Prelude.{Some, None, Result, Ok, Err}
use Rattle.laws.specs.Bits.{every, pick}
use Rattle.laws.proofs.Bits.{every_like, every_all, every_at}
use Rattle.machine.specs.declared.Panel.{Panel}
use Rattle.machine.specs.declared.Lines.{Lines}
use Rattle.machine.specs.declared.Refusal.{Refusal}
use Rattle.machine.specs.declared.Code.{Code}
use Rattle.machine.specs.declared.Code.TheVariants.{DontCare, Exact, Larger, Smaller}
use Rattle.machine.specs.Machine.{Machine, machine, Syllable, is_top, down_from}
use Rattle.machine.specs.Search.{code_at, by_code, each_code, or_equal, one_code, unmixed, cared, read_over, asks, satisfied}
use Rattle.machine.specs.Refusals.{Check, bad_codes, pulse_check}
use Rattle.machine.proofs.Refusals as checks
use Rattle.machine.proofs.Search.{unset, unmixed_is}
use Rattle.machine.proofs.Codes.{is_cared, one_code_lem, one_setting_lem}
use Rattle.machine.proofs.Machine.{all_down}
use Rattle.job_plans.specs.declared.Job.{Job}
use Rattle.job_plans.specs.Fields.{Held, Kind, greatest, smallest, scaledAdd, product, unknown, kind_of}
use Rattle.job_plans.specs.Commands.{opening, trial, second, command}
use Rattle.jobs.specs.declared.Stepped.{Stepped}
use Rattle.jobs.specs.Calls.{step_check, gave, given_by, step_of, told_stepped}
use Rattle.jobs.specs.contracts.step as step
use Rattle.jobs.proofs.step.Kinds as step-kinds
use Rattle.jobs.proofs.step.Reads as step-reads

-- ---- a syllable asks what any of its cared bits asks

-- where each place holds or is t, and one is t, all of them together are t
every_any : (k : ℕ) (f : ℕ → Bool) (t : Bool) → ((i : ℕ) → i < k → (f i ≡ true) ⊎ (f i ≡ t)) → (j : ℕ) → j < k → f j ≡ t → every k f ≡ t
every_any k f true each j l e = every_all k f (λ i g. ⊎_elim (λ h. h) (λ h. h) (each i g))
every_any k f false each j l e = go (every k f) refl
  where
    go : (b : Bool) → every k f ≡ b → b ≡ false
    go true h = sym (every_at k f h j l) ∙ e
    go false h = refl

module _ (p : Panel) (y : Syllable) (fair : unmixed p y ≡ true) where
  abbrev at : ℕ → Code
  at j = code_at p (y.low + j)

  abbrev set : ℕ → Bool
  set j = or_equal p (y.low + j)

  pub asked_by : (w j : ℕ) → j < y.width → (at j ≡ DontCare → ⊥) → satisfied p w y ≡ asks (at j) (set j) (read_over p y w) (read_over p y p.comp)
  unfolding satisfied
  asked_by w j hj nj = every_any y.width _ _ (λ i hi. go i hi (at i) refl) j hj refl
    where
      same : (i : ℕ) → i < y.width → (at i ≡ DontCare → ⊥)
          → asks (at i) (set i) (read_over p y w) (read_over p y p.comp) ≡ asks (at j) (set j) (read_over p y w) (read_over p y p.comp)
      same i hi ni = ap₂ (λ (d : Code) (e : Bool). asks d e (read_over p y w) (read_over p y p.comp)) (one_code_lem p y fair i j hi hj ni nj) (one_setting_lem p y fair i j hi hj ni nj)

      go : (i : ℕ) → i < y.width → (d : Code) → at i ≡ d
          → (asks (at i) (set i) (read_over p y w) (read_over p y p.comp) ≡ true)
          ⊎ (asks (at i) (set i) (read_over p y w) (read_over p y p.comp) ≡ asks (at j) (set j) (read_over p y w) (read_over p y p.comp))
      go i hi DontCare e = inl (ap (λ (d : Code). asks d (set i) (read_over p y w) (read_over p y p.comp)) e)
      go i hi Exact e = inr (same i hi (is_cared (at i) (ap (λ (d : Code). cared d 1) e)))
      go i hi Larger e = inr (same i hi (is_cared (at i) (ap (λ (d : Code). cared d 1) e)))
      go i hi Smaller e = inr (same i hi (is_cared (at i) (ap (λ (d : Code). cared d 1) e)))

-- ---- of an accepted search, and each of its syllables: the one whose top bit is bit i

module _ (m : Machine) (p : Panel) (l : Lines) (accepted : pulse_check m p l ≡ Ok tt) (raised : l.search ≡ true)
    (i : ℕ) (within : i < m.width) (top : is_top m.width p.sdr i ≡ true) where
  abbrev y : Syllable
  y = down_from p.sdr i

  pub syllable_unmixed : unmixed p y ≡ true
  unfolding bad_codes
  syllable_unmixed =
      all_down (unmixed p) m.width p.sdr i within top
      (not-false _ (rw raised at (checks.clean m p l accepted).codes))

  module _ (w j : ℕ) (inside : j < y.width) where
    -- a cared bit asks for its whole syllable
    asked : (d : Code) → cared d 1 ≡ 1 → code_at p (y.low + j) ≡ d → or_equal p (y.low + j) ≡ true → satisfied p w y ≡ asks d true (read_over p y w) (read_over p y p.comp)
    asked d c h e =
        asked_by p y syllable_unmixed w j inside (is_cared (code_at p (y.low + j)) (ap (λ (d : Code). cared d 1) h ∙ c))
        ∙ ap₂ (λ (d : Code) (e : Bool). asks d e (read_over p y w) (read_over p y p.comp)) h e

    -- "larger becomes at least": the word's number is not below COMP's
    pub at_least : code_at p (y.low + j) ≡ Larger → or_equal p (y.low + j) ≡ true → satisfied p w y ≡ leb (read_over p y p.comp) (read_over p y w)
    at_least = asked Larger refl

    -- "and smaller at most": it is not above COMP's
    pub at_most : code_at p (y.low + j) ≡ Smaller → or_equal p (y.low + j) ≡ true → satisfied p w y ≡ leb (read_over p y w) (read_over p y p.comp)
    at_most = asked Smaller refl

-- "For "at least 90 days" staff must search for larger than 89": at least a number is larger than the one before it
pub one_less : (w c : ℕ) → asks Larger true w (suc c) ≡ asks Larger false w c
one_less w c = refl

-- ---- where SC3 is 0 the search and 5 are document 01's

module _ (p : Panel) (third : p.sc3 ≡ 0) where
  -- ".. the word's number must be equal to, larger than or smaller than COMP's."
  pub as_before : (w : ℕ) (y : Syllable)
      → let u = read_over p y w in
      let v = read_over p y p.comp in
      satisfied p w y ≡ each_code p y (λ d. by_code d true (eqb u v) (ltb v u) (ltb u v))
  unfolding satisfied
  as_before w y =
      every_like y.width _ _ (λ j l. ap (λ (e : Bool). asks (code_at p (y.low + j)) e (read_over p y w) (read_over p y p.comp)) (unset p third (y.low + j)))

  -- 5: "a syllable with two codes"
  pub five_as_before : (y : Syllable) → unmixed p y ≡ one_code p y
  five_as_before = unmixed_is p third

-- ---- "Jobs set it to 0": in every command that a step answers

command_sc3 : (o : Job) → (command o).panel.sc3 ≡ 0
unfolding command
command_sc3 o = by_phase (eqb o.phase 0) (eqb o.phase 1)
  where
    trial_sc3 : (k : Kind) → (trial k o).panel.sc3 ≡ 0
    trial_sc3 greatest = refl
    trial_sc3 smallest = refl
    trial_sc3 scaledAdd = refl
    trial_sc3 product = refl
    trial_sc3 unknown = refl

    second_sc3 : (k : Kind) → (second k o).panel.sc3 ≡ 0
    second_sc3 greatest = refl
    second_sc3 smallest = refl
    second_sc3 scaledAdd = refl
    second_sc3 product = refl
    second_sc3 unknown = refl

    by_phase : (a b : Bool) → (pick a (opening o) (pick b (trial (kind_of o.kind) o) (second (kind_of o.kind) o))).panel.sc3 ≡ 0
    by_phase true b = refl
    by_phase false true = trial_sc3 (kind_of o.kind)
    by_phase false false = second_sc3 (kind_of o.kind)

-- the command that an answer tells; a refusal's fields are 0
pub step_sc3 : (κs : Lfts 2) (a : ArgsD step.signature κs) (r : ResD step.signature κs) (s : AtExit (ended_of 2 step-kinds.ps step-kinds.r) κs)
    → step-reads.Post κs a r s → (told_stepped r).given.panel.sc3 ≡ 0
unfolding step_of
step_sc3 κs a r s h =
    let m = machine a.1.1.0 a.0.now a.1.0.now in
    let o = a.1.1.1.0 in
    ap (λ (q : Result Stepped Refusal). (told_stepped q).given.panel.sc3) h.0 ∙ answered (step_check m o) m o
  where
    given : (m : Machine) (h : Held) → (told_stepped (gave m h)).given.panel.sc3 ≡ 0
    given m None = refl
    given m (Some o) = command_sc3 o

    answered : (c : Check) (m : Machine) (h : Held) → (told_stepped (given_by c (gave m h))).given.panel.sc3 ≡ 0
    answered (Ok tt) m h = given m h
    answered (Err why) m h = refl
