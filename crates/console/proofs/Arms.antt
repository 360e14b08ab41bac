-- A table of commands asked for the place of a name: the entry there, or past its end what stands for no name.
use Prim.Native.Nat.{ℕ, ◌-◌, ◌<◌, ◌≤◌}
use Prim.Native.String.{String}
use native.Mathlib.Omega.{arith}
use mathlib.Core.Path.{◌≡◌, refl}
use mathlib.Core.List.{List}
use lib.ListN.{length, get_or, take, drop, length-drop, get_or-eq_default}
use lib.Seq.{take_all}
use Rattle.text.specs.Ascii.{ascii}
use Rattle.text.specs.declared.Place.{Place}
use Rattle.text.specs.Words.{word_at, words_of, place_of}
use Rattle.text.proofs.Runs.{here_none, here_one}
use Rattle.console_commands.specs.declared.Turn.{Turn}
use Rattle.console_commands.specs.declared.Outcome.{Outcome}
use Rattle.console_commands.specs.declared.Outcome.TheVariants as outcome
use Rattle.console_commands.specs.Ends.{bad_line}
use Rattle.console.specs.Obeying.{Desk, Looked, Marked, After, among, said, unmarked, unchanged, only, lookings, looked, markings, marked, changes, changed, makings, named, on_machine, obeyed}

-- ---- any table

at_place : {A : Type 0} (names : String) (name : List ℕ) (does : List A) (other : A) (k n : ℕ) → k ≡ place_of name (words_of (ascii names)) → k ≡ n →
    among names name does other ≡ get_or does n other
at_place names name does other k n e f = rw (← e, f) refl

past_end : {A : Type 0} (names : String) (name : List ℕ) (does : List A) (other : A) (k : ℕ) → k ≡ place_of name (words_of (ascii names)) →
    length does ≤ k → among names name does other ≡ other
past_end names name does other k e h = rw (← e) (get_or-eq_default does other h)

-- ---- what a command leaves, part by part

look_parts : (a b : Looked) → a ≡ b → (out : Outcome) (bytes : List ℕ) → out ≡ b.outcome → bytes ≡ b.bytes →
    (out ≡ a.outcome) × (bytes ≡ a.bytes)
look_parts a b e out bytes f g = rw e (f, g)

mark_parts : (a b : Marked) → a ≡ b → (out : Outcome) (words responses bytes : List ℕ) → out ≡ b.outcome → words ≡ b.words →
    responses ≡ b.responses → bytes ≡ b.bytes → (out ≡ a.outcome) × ((words ≡ a.words) × ((responses ≡ a.responses) × (bytes ≡ a.bytes)))
mark_parts a b e out words responses bytes f g h i = rw e (f, (g, (h, i)))

change_parts : (a b : After) → a ≡ b → (t : Turn) (words responses bytes : List ℕ) → t ≡ b.turn → words ≡ b.words →
    responses ≡ b.responses → bytes ≡ b.bytes → (t ≡ a.turn) × ((words ≡ a.words) × ((responses ≡ a.responses) × (bytes ≡ a.bytes)))
change_parts a b e t words responses bytes f g h i = rw e (f, (g, (h, i)))

-- ---- the four tables

module _ (d : Desk) (name : List ℕ) (args : List (List ℕ)) (k : ℕ) where
  module _ (is : k ≡ place_of name (words_of (ascii "panel resolve tree show total store list room why"))) where
    looked_at : (n : ℕ) → k ≡ n → looked d name args ≡ get_or (lookings d args) n (said d outcome.BadLine)
    unfolding looked
    looked_at n f = at_place "panel resolve tree show total store list room why" name (lookings d args) (said d outcome.BadLine) k n is f

    looked_none : 9 ≤ k → looked d name args ≡ said d outcome.BadLine
    unfolding looked
    looked_none h = past_end "panel resolve tree show total store list room why" name (lookings d args) (said d outcome.BadLine) k is h

    pub look_arm : (n : ℕ) → k ≡ n → (out : Outcome) (bytes : List ℕ) →
        out ≡ (get_or (lookings d args) n (said d outcome.BadLine)).outcome → bytes ≡ (get_or (lookings d args) n (said d outcome.BadLine)).bytes →
        (out ≡ (looked d name args).outcome) × (bytes ≡ (looked d name args).bytes)
    look_arm n f = look_parts _ _ (looked_at n f)

    pub look_other : 9 ≤ k → (outcome.BadLine ≡ (looked d name args).outcome) × (d.bytes ≡ (looked d name args).bytes)
    look_other h = look_parts _ _ (looked_none h) _ _ refl refl

  module _ (is : k ≡ place_of name (words_of (ascii "word response pulse cells done faulty"))) where
    marked_at : (n : ℕ) → k ≡ n → marked d name args ≡ get_or (markings d args) n (unmarked d (looked d name args))
    unfolding marked
    marked_at n f = at_place "word response pulse cells done faulty" name (markings d args) (unmarked d (looked d name args)) k n is f

    marked_none : 6 ≤ k → marked d name args ≡ unmarked d (looked d name args)
    unfolding marked
    marked_none h = past_end "word response pulse cells done faulty" name (markings d args) (unmarked d (looked d name args)) k is h

    pub mark_arm : (n : ℕ) → k ≡ n → (out : Outcome) (words responses bytes : List ℕ) →
        out ≡ (get_or (markings d args) n (unmarked d (looked d name args))).outcome →
        words ≡ (get_or (markings d args) n (unmarked d (looked d name args))).words →
        responses ≡ (get_or (markings d args) n (unmarked d (looked d name args))).responses →
        bytes ≡ (get_or (markings d args) n (unmarked d (looked d name args))).bytes →
        (out ≡ (marked d name args).outcome) × ((words ≡ (marked d name args).words) × ((responses ≡ (marked d name args).responses) × (bytes ≡ (marked d name args).bytes)))
    mark_arm n f = mark_parts _ _ (marked_at n f)

    pub mark_other : 6 ≤ k → (out : Outcome) (bytes : List ℕ) → out ≡ (looked d name args).outcome → bytes ≡ (looked d name args).bytes →
        (out ≡ (marked d name args).outcome) × ((d.words ≡ (marked d name args).words) × ((d.responses ≡ (marked d name args).responses) × (bytes ≡ (marked d name args).bytes)))
    mark_other h out bytes f g = mark_parts _ _ (marked_none h) out _ _ bytes f refl refl g

  module _ (is : k ≡ place_of name (words_of (ascii "load job drop start step run"))) where
    changed_at : (n : ℕ) → k ≡ n → changed d name args ≡ get_or (changes d args) n (unchanged d (marked d name args))
    unfolding changed
    changed_at n f = at_place "load job drop start step run" name (changes d args) (unchanged d (marked d name args)) k n is f

    changed_none : 6 ≤ k → changed d name args ≡ unchanged d (marked d name args)
    unfolding changed
    changed_none h = past_end "load job drop start step run" name (changes d args) (unchanged d (marked d name args)) k is h

    pub change_arm : (n : ℕ) → k ≡ n → (t : Turn) (words responses bytes : List ℕ) →
        t ≡ (get_or (changes d args) n (unchanged d (marked d name args))).turn →
        words ≡ (get_or (changes d args) n (unchanged d (marked d name args))).words →
        responses ≡ (get_or (changes d args) n (unchanged d (marked d name args))).responses →
        bytes ≡ (get_or (changes d args) n (unchanged d (marked d name args))).bytes →
        (t ≡ (changed d name args).turn) × ((words ≡ (changed d name args).words) × ((responses ≡ (changed d name args).responses) × (bytes ≡ (changed d name args).bytes)))
    change_arm n f = change_parts _ _ (changed_at n f)

    pub change_other : 6 ≤ k → (out : Outcome) (words responses bytes : List ℕ) → out ≡ (marked d name args).outcome →
        words ≡ (marked d name args).words → responses ≡ (marked d name args).responses → bytes ≡ (marked d name args).bytes →
        (◌≡◌ {A = Turn} (record { board = d.board; outcome = out }) (changed d name args).turn) × ((words ≡ (changed d name args).words)
        × ((responses ≡ (changed d name args).responses) × (bytes ≡ (changed d name args).bytes)))
    change_other h out words responses bytes e f g i = change_parts _ _ (changed_none h) _ _ _ _ (rw e refl) f g i

  module _ (is : k ≡ place_of name (words_of (ascii "machine lend resume fit"))) where
    named_at : (n : ℕ) → k ≡ n → named d name args ≡ get_or (makings d args) n (on_machine d name args)
    unfolding named
    named_at n f = at_place "machine lend resume fit" name (makings d args) (on_machine d name args) k n is f

    named_none : 4 ≤ k → named d name args ≡ on_machine d name args
    unfolding named
    named_none h = past_end "machine lend resume fit" name (makings d args) (on_machine d name args) k is h

    pub name_arm : (n : ℕ) → k ≡ n → (t : Turn) (words responses bytes : List ℕ) →
        t ≡ (get_or (makings d args) n (on_machine d name args)).turn → words ≡ (get_or (makings d args) n (on_machine d name args)).words →
        responses ≡ (get_or (makings d args) n (on_machine d name args)).responses → bytes ≡ (get_or (makings d args) n (on_machine d name args)).bytes →
        (t ≡ (named d name args).turn) × ((words ≡ (named d name args).words) × ((responses ≡ (named d name args).responses) × (bytes ≡ (named d name args).bytes)))
    name_arm n f = change_parts _ _ (named_at n f)

    pub name_other : 4 ≤ k → (t : Turn) (words responses bytes : List ℕ) → t ≡ (on_machine d name args).turn → words ≡ (on_machine d name args).words →
        responses ≡ (on_machine d name args).responses → bytes ≡ (on_machine d name args).bytes →
        (t ≡ (named d name args).turn) × ((words ≡ (named d name args).words) × ((responses ≡ (named d name args).responses) × (bytes ≡ (named d name args).bytes)))
    name_other h = change_parts _ _ (named_none h)

-- ---- the name and what follows it

module _ (d : Desk) (line : List ℕ) (p : Place) (is : p ≡ word_at line 0) where
  unnamed : p.from ≡ p.to → obeyed d (words_of line) ≡ only d (bad_line d.board)
  unfolding obeyed
  unnamed e = rw (here_none line 0 p is (omega arith) e) refl

  by_name : p.from < p.to → obeyed d (words_of line) ≡
      named d (take (p.to - p.from) (drop p.from line)) (words_of (take (length line - p.to) (drop p.to line)))
  unfolding obeyed
  by_name h =
      let whole : take (length line - p.to) (drop p.to line) ≡ drop p.to line =
      take_all (length line - p.to) (drop p.to line) (omega (arith, length-drop p.to line)) in
      rw (here_one line 0 p is (omega arith) h, whole) refl

  pub obey_none : p.from ≡ p.to → (t : Turn) → t ≡ bad_line d.board → (t ≡ (obeyed d (words_of line)).turn) × ((d.words ≡ (obeyed d (words_of line)).words)
      × ((d.responses ≡ (obeyed d (words_of line)).responses) × (d.bytes ≡ (obeyed d (words_of line)).bytes)))
  obey_none e t f = change_parts _ _ (unnamed e) _ _ _ _ f refl refl refl

  pub obey_name : p.from < p.to → (t : Turn) (words responses bytes : List ℕ) →
      let a = named d (take (p.to - p.from) (drop p.from line)) (words_of (take (length line - p.to) (drop p.to line))) in
      t ≡ a.turn → words ≡ a.words → responses ≡ a.responses → bytes ≡ a.bytes →
      (t ≡ (obeyed d (words_of line)).turn) × ((words ≡ (obeyed d (words_of line)).words)
      × ((responses ≡ (obeyed d (words_of line)).responses) × (bytes ≡ (obeyed d (words_of line)).bytes)))
  obey_name h = change_parts _ _ (by_name h)
