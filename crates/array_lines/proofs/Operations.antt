-- The three operations from the choices that their lines make.
use Prim.Native.Nat.{ℕ}
use Prim.Native.String.{String}
use mathlib.Core.Bool.{Bool, true, false}
use mathlib.Core.Path.{◌≡◌, sym, ◌∙◌}
use mathlib.Core.List.{List, [], ◌∷◌}
use Rattle.std.specs.Prelude.{Some, None}
use lib.Dec.{eqb}
use Rattle.text.specs.Words.{word_at, joined, words_of}
use Rattle.array.specs.declared.Source.{Source}
use Rattle.array.specs.declared.Mask.{Mask}
use Rattle.array.specs.declared.Wanted.{Wanted}
use Rattle.array.specs.declared.Latches.{Latches}
use Rattle.array.specs.declared.Combine.{Combine}
use Rattle.array.specs.declared.Selector.{Selector}
use Rattle.array.specs.declared.Form.{Form}
use Rattle.array.specs.declared.Sink.{Sink}
use Rattle.array.specs.declared.Kind.{Kind}
use Rattle.array.specs.declared.Operation.TheVariants.{Search, Read, Write}
use Rattle.array_lines.specs.declared.Choice.{Choice}
use Rattle.array_lines.specs.Choices.{named, at, source_at, mask_at, wanted_at, latches_at, combine_at, selector_at, form_at, sink_at, kind_at, search_line, read_line, write_line}
use Rattle.array_lines.proofs.Names.{Chose, Missed, Made, none_made, one_made, place_made, missed, all_made}

-- "search3 DATA MASK WORDS SET HOW"
abbrev search_row : List String
search_row = "r1 r2" ∷ "m ones zeros" ∷ "agree disagree" ∷ "p s" ∷ "replace and or" ∷ []

module _ (line : List ℕ) where
  no_search : named search_row (words_of line) ≡ false → None ≡ search_line (words_of line)
  unfolding search_line
  no_search h = rw h

  pub search_missed_0 : Missed line 0 "r1 r2" 2 → None ≡ search_line (words_of line)
  unfolding words_of joined
  search_missed_0 h = no_search (missed (none_made line search_row) h)

  module _ (c0 : Choice) (e0 : Chose line 0 "r1 r2" 2 c0) where
    made_search_0 : Made line search_row ("m ones zeros" ∷ "agree disagree" ∷ "p s" ∷ "replace and or" ∷ []) 1 c0.to × (c0.place ≡ at (words_of line) 0 "r1 r2")
    unfolding words_of joined
    made_search_0 = (one_made (none_made line search_row) c0 e0, place_made (none_made line search_row) c0 e0)

    pub search_missed_1 : Missed line c0.to "m ones zeros" 3 → None ≡ search_line (words_of line)
    unfolding words_of joined
    search_missed_1 h = no_search (missed (made_search_0.0) h)

    module _ (c1 : Choice) (e1 : Chose line c0.to "m ones zeros" 3 c1) where
      made_search_1 : Made line search_row ("agree disagree" ∷ "p s" ∷ "replace and or" ∷ []) 2 c1.to × (c1.place ≡ at (words_of line) 1 "m ones zeros")
      unfolding words_of joined
      made_search_1 = (one_made (made_search_0.0) c1 e1, place_made (made_search_0.0) c1 e1)

      pub search_missed_2 : Missed line c1.to "agree disagree" 2 → None ≡ search_line (words_of line)
      unfolding words_of joined
      search_missed_2 h = no_search (missed (made_search_1.0) h)

      module _ (c2 : Choice) (e2 : Chose line c1.to "agree disagree" 2 c2) where
        made_search_2 : Made line search_row ("p s" ∷ "replace and or" ∷ []) 3 c2.to × (c2.place ≡ at (words_of line) 2 "agree disagree")
        unfolding words_of joined
        made_search_2 = (one_made (made_search_1.0) c2 e2, place_made (made_search_1.0) c2 e2)

        pub search_missed_3 : Missed line c2.to "p s" 2 → None ≡ search_line (words_of line)
        unfolding words_of joined
        search_missed_3 h = no_search (missed (made_search_2.0) h)

        module _ (c3 : Choice) (e3 : Chose line c2.to "p s" 2 c3) where
          made_search_3 : Made line search_row ("replace and or" ∷ []) 4 c3.to × (c3.place ≡ at (words_of line) 3 "p s")
          unfolding words_of joined
          made_search_3 = (one_made (made_search_2.0) c3 e3, place_made (made_search_2.0) c3 e3)

          pub search_missed_4 : Missed line c3.to "replace and or" 3 → None ≡ search_line (words_of line)
          unfolding words_of joined
          search_missed_4 h = no_search (missed (made_search_3.0) h)

          module _ (c4 : Choice) (e4 : Chose line c3.to "replace and or" 3 c4) where
            made_search_4 : Made line search_row ([]) 5 c4.to × (c4.place ≡ at (words_of line) 4 "replace and or")
            unfolding words_of joined
            made_search_4 = (one_made (made_search_3.0) c4 e4, place_made (made_search_3.0) c4 e4)

            module _ (none : Bool) (e : none ≡ eqb (word_at line c4.to).from (word_at line c4.to).to) where
              pub search_more : none ≡ false → None ≡ search_line (words_of line)
              search_more h = no_search (sym (all_made made_search_4.0 e) ∙ h)

              pub search_is : none ≡ true → {s : Source} {m : Mask} {w : Wanted} {d : Latches} {h : Combine} →
                  s ≡ source_at c0.place → m ≡ mask_at c1.place → w ≡ wanted_at c2.place → d ≡ latches_at c3.place → h ≡ combine_at c4.place →
                  Some (Search s m w d h) ≡ search_line (words_of line)
              unfolding search_line
              search_is t f0 f1 f2 f3 f4 =
                  rw (← all_made made_search_4.0 e, t, f0, made_search_0.1, f1, made_search_1.1, f2, made_search_2.1, f3, made_search_3.1, f4, made_search_4.1)

-- "read3 SET SENSE SINK MASK"
abbrev read_row : List String
read_row = "p s none" ∷ "true complement" ∷ "r1 r2 m" ∷ "m ones zeros" ∷ []

module _ (line : List ℕ) where
  no_read : named read_row (words_of line) ≡ false → None ≡ read_line (words_of line)
  unfolding read_line
  no_read h = rw h

  pub read_missed_0 : Missed line 0 "p s none" 3 → None ≡ read_line (words_of line)
  unfolding words_of joined
  read_missed_0 h = no_read (missed (none_made line read_row) h)

  module _ (c0 : Choice) (e0 : Chose line 0 "p s none" 3 c0) where
    made_read_0 : Made line read_row ("true complement" ∷ "r1 r2 m" ∷ "m ones zeros" ∷ []) 1 c0.to × (c0.place ≡ at (words_of line) 0 "p s none")
    unfolding words_of joined
    made_read_0 = (one_made (none_made line read_row) c0 e0, place_made (none_made line read_row) c0 e0)

    pub read_missed_1 : Missed line c0.to "true complement" 2 → None ≡ read_line (words_of line)
    unfolding words_of joined
    read_missed_1 h = no_read (missed (made_read_0.0) h)

    module _ (c1 : Choice) (e1 : Chose line c0.to "true complement" 2 c1) where
      made_read_1 : Made line read_row ("r1 r2 m" ∷ "m ones zeros" ∷ []) 2 c1.to × (c1.place ≡ at (words_of line) 1 "true complement")
      unfolding words_of joined
      made_read_1 = (one_made (made_read_0.0) c1 e1, place_made (made_read_0.0) c1 e1)

      pub read_missed_2 : Missed line c1.to "r1 r2 m" 3 → None ≡ read_line (words_of line)
      unfolding words_of joined
      read_missed_2 h = no_read (missed (made_read_1.0) h)

      module _ (c2 : Choice) (e2 : Chose line c1.to "r1 r2 m" 3 c2) where
        made_read_2 : Made line read_row ("m ones zeros" ∷ []) 3 c2.to × (c2.place ≡ at (words_of line) 2 "r1 r2 m")
        unfolding words_of joined
        made_read_2 = (one_made (made_read_1.0) c2 e2, place_made (made_read_1.0) c2 e2)

        pub read_missed_3 : Missed line c2.to "m ones zeros" 3 → None ≡ read_line (words_of line)
        unfolding words_of joined
        read_missed_3 h = no_read (missed (made_read_2.0) h)

        module _ (c3 : Choice) (e3 : Chose line c2.to "m ones zeros" 3 c3) where
          made_read_3 : Made line read_row ([]) 4 c3.to × (c3.place ≡ at (words_of line) 3 "m ones zeros")
          unfolding words_of joined
          made_read_3 = (one_made (made_read_2.0) c3 e3, place_made (made_read_2.0) c3 e3)

          module _ (none : Bool) (e : none ≡ eqb (word_at line c3.to).from (word_at line c3.to).to) where
            pub read_more : none ≡ false → None ≡ read_line (words_of line)
            read_more h = no_read (sym (all_made made_read_3.0 e) ∙ h)

            pub read_is : none ≡ true → {s : Selector} {f : Form} {k : Sink} {m : Mask} →
                s ≡ selector_at c0.place → f ≡ form_at c1.place → k ≡ sink_at c2.place → m ≡ mask_at c3.place →
                Some (Read s f k m) ≡ read_line (words_of line)
            unfolding read_line
            read_is t f0 f1 f2 f3 =
                rw (← all_made made_read_3.0 e, t, f0, made_read_0.1, f1, made_read_1.1, f2, made_read_2.1, f3, made_read_3.1)

-- "write3 KIND DATA MASK SET SENSE"
abbrev write_row : List String
write_row = "normal special" ∷ "r1 r2" ∷ "m ones zeros" ∷ "p s none" ∷ "true complement" ∷ []

module _ (line : List ℕ) where
  no_write : named write_row (words_of line) ≡ false → None ≡ write_line (words_of line)
  unfolding write_line
  no_write h = rw h

  pub write_missed_0 : Missed line 0 "normal special" 2 → None ≡ write_line (words_of line)
  unfolding words_of joined
  write_missed_0 h = no_write (missed (none_made line write_row) h)

  module _ (c0 : Choice) (e0 : Chose line 0 "normal special" 2 c0) where
    made_write_0 : Made line write_row ("r1 r2" ∷ "m ones zeros" ∷ "p s none" ∷ "true complement" ∷ []) 1 c0.to × (c0.place ≡ at (words_of line) 0 "normal special")
    unfolding words_of joined
    made_write_0 = (one_made (none_made line write_row) c0 e0, place_made (none_made line write_row) c0 e0)

    pub write_missed_1 : Missed line c0.to "r1 r2" 2 → None ≡ write_line (words_of line)
    unfolding words_of joined
    write_missed_1 h = no_write (missed (made_write_0.0) h)

    module _ (c1 : Choice) (e1 : Chose line c0.to "r1 r2" 2 c1) where
      made_write_1 : Made line write_row ("m ones zeros" ∷ "p s none" ∷ "true complement" ∷ []) 2 c1.to × (c1.place ≡ at (words_of line) 1 "r1 r2")
      unfolding words_of joined
      made_write_1 = (one_made (made_write_0.0) c1 e1, place_made (made_write_0.0) c1 e1)

      pub write_missed_2 : Missed line c1.to "m ones zeros" 3 → None ≡ write_line (words_of line)
      unfolding words_of joined
      write_missed_2 h = no_write (missed (made_write_1.0) h)

      module _ (c2 : Choice) (e2 : Chose line c1.to "m ones zeros" 3 c2) where
        made_write_2 : Made line write_row ("p s none" ∷ "true complement" ∷ []) 3 c2.to × (c2.place ≡ at (words_of line) 2 "m ones zeros")
        unfolding words_of joined
        made_write_2 = (one_made (made_write_1.0) c2 e2, place_made (made_write_1.0) c2 e2)

        pub write_missed_3 : Missed line c2.to "p s none" 3 → None ≡ write_line (words_of line)
        unfolding words_of joined
        write_missed_3 h = no_write (missed (made_write_2.0) h)

        module _ (c3 : Choice) (e3 : Chose line c2.to "p s none" 3 c3) where
          made_write_3 : Made line write_row ("true complement" ∷ []) 4 c3.to × (c3.place ≡ at (words_of line) 3 "p s none")
          unfolding words_of joined
          made_write_3 = (one_made (made_write_2.0) c3 e3, place_made (made_write_2.0) c3 e3)

          pub write_missed_4 : Missed line c3.to "true complement" 2 → None ≡ write_line (words_of line)
          unfolding words_of joined
          write_missed_4 h = no_write (missed (made_write_3.0) h)

          module _ (c4 : Choice) (e4 : Chose line c3.to "true complement" 2 c4) where
            made_write_4 : Made line write_row ([]) 5 c4.to × (c4.place ≡ at (words_of line) 4 "true complement")
            unfolding words_of joined
            made_write_4 = (one_made (made_write_3.0) c4 e4, place_made (made_write_3.0) c4 e4)

            module _ (none : Bool) (e : none ≡ eqb (word_at line c4.to).from (word_at line c4.to).to) where
              pub write_more : none ≡ false → None ≡ write_line (words_of line)
              write_more h = no_write (sym (all_made made_write_4.0 e) ∙ h)

              pub write_is : none ≡ true → {k : Kind} {s : Source} {m : Mask} {l : Selector} {f : Form} →
                  k ≡ kind_at c0.place → s ≡ source_at c1.place → m ≡ mask_at c2.place → l ≡ selector_at c3.place → f ≡ form_at c4.place →
                  Some (Write k s m l f) ≡ write_line (words_of line)
              unfolding write_line
              write_is t f0 f1 f2 f3 f4 =
                  rw (← all_made made_write_4.0 e, t, f0, made_write_0.1, f1, made_write_1.1, f2, made_write_2.1, f3, made_write_3.1, f4, made_write_4.1)
