-- The row that is added for a row of the sheet: each input is a row of the view and has a number, and no word of the store matters.
use Prim.Native.Nat.{ℕ, ◌+◌, ◌-◌, ◌≤◌, ◌<◌}
use native.Mathlib.Omega.{arith}
use mathlib.Core.Path.{◌≡◌, sym, ap, ◌∙◌}
use mathlib.Core.List.{List}
use lib.ListN.{get_or, set, replicate}
use Rattle.rules.specs.Lists.{in_room, widest}
use Rattle.rules.proofs.Lists.{room_same, Filled, filled_more}
use Rattle.trees.specs.Graph.{Graph}
use Rattle.store.specs.declared.row.Row.{Row}
use Rattle.rows.specs.Joined.{Source, source, joined, row_in}
use Rattle.rows.specs.View.{Viewed}
use Rattle.rows.specs.SheetRow.{SheetRowThere, sheet_row}
use Rattle.rows.proofs.Apart.{apart_label, apart_count, apart_input}
use Rattle.rows.proofs.Reading.{sheet_there, sheet_read}
use Rattle.rows.proofs.Rows.{in_label, in_count, in_input}
use Rattle.rows.proofs.View.{laid_plain, viewed_counts, viewed_closed}
use Rattle.rounds.specs.Classes.{class_of}
use Rattle.numbering.specs.Numbers.{row_number}
use Rattle.writing.specs.After.{input_number, new_row}
use Rattle.writing.specs.Asked.{NumberThere, InputsThere, Seen, OfSheet}
use Rattle.writing.specs.Added.{numbered_input, NewRowOf}
use Rattle.writing.proofs.Counts.{number_there}

-- ---- the loop over a row's inputs

pub input_there : (cls numbers inputs : List ℕ) (count j : ℕ) → InputsThere cls numbers inputs count → j < count → NumberThere cls numbers (get_or inputs j 0)
input_there cls numbers inputs count j i h = i.each j h

pub input_more : (cls numbers inputs : List ℕ) (count : ℕ) (found : List ℕ) (j v : ℕ) → InputsThere cls numbers inputs count → Filled (replicate widest 0) (numbered_input (class_of cls) inputs) count found j → j < count → v ≡ row_number (class_of cls) (get_or inputs j 0) → Filled (replicate widest 0) (numbered_input (class_of cls) inputs) count (set found j v) (j + 1)
input_more cls numbers inputs count found j v i s h e =
    filled_more (replicate widest 0) (numbered_input (class_of cls) inputs) count found j v s h i.few e

-- ---- the same inputs, and the same new row

pub new_row_same : (g h : Graph) (c d : ℕ → ℕ) (u : ℕ) → g.label u ≡ h.label u → g.count u ≡ h.count u → ((j : ℕ) → j < g.count u → input_number g c u j ≡ input_number h d u j) → new_row g c u ≡ new_row h d u
unfolding new_row
new_row_same g h c d u l k e =
    let i = room_same widest (input_number g c u) (input_number h d u) (g.count u) e in rw (i, l, k)

-- a row of the sheet is read without the store: it is the same whatever the words
pub words_apart : {s : Source} {table : List ℕ} → Viewed s table → (c : ℕ → ℕ) (u : ℕ) → OfSheet s.stored table u → (most : ℕ) (w : List ℕ) → new_row (joined s) c u ≡ new_row (joined (source most w s.stored s.bytes)) c u
words_apart {s} v c u o most w =
    let p = laid_plain v.laid in
    let q = source most w s.stored s.bytes in
    let h = o.past in
    let z : s.stored + (u - s.stored) ≡ u = omega arith in
    let l = rw z at (v.own (u - s.stored) (omega (arith, o.within))) in
    new_row_same (joined s) (joined q) c c u
    (sym (apart_label s p most w u h l))
    (sym (apart_count s p most w u h l))
    (λ j k. ap (row_number c) (sym (apart_input s p most w u h l j)))

-- ---- the sheet's row read, and its inputs numbered

module _ (stored : ℕ) (b table cls numbers : List ℕ) (s : Seen stored b table cls numbers) (u : ℕ) (o : OfSheet stored table u) (at : ℕ) (e : at ≡ get_or table (u - stored) 0) where
  pub seen_there : SheetRowThere b stored at
  seen_there = let p = o.past in let l = o.within in sheet_there s.view (u - stored) at (omega arith) e

  module _ (row : Row) (r : row ≡ sheet_row b stored at) where
    abbrev g : Graph
    g = joined (source s.most s.words stored b)

    read : row ≡ row_in g u
    read = sheet_read s.view u at o.past o.within e row r

    few : g.count u ≤ widest
    few = viewed_counts s.view u o.within

    counted : row.count ≡ g.count u
    counted = rw read (in_count g u)

    input : (j : ℕ) → j < row.count → get_or row.inputs j 0 ≡ g.input u j
    input j h = rw read (in_input g u few j (omega (arith, counted)))

    pub seen_inputs : InputsThere cls numbers row.inputs row.count
    seen_inputs =
        record {
          few = omega (arith, counted, few);
          each = λ j h. rw (input j h) (number_there s.counted (g.input u j) ((viewed_closed s.view).within u j o.within (omega (arith, counted))));
        }

    pub seen_made : (inputs : List ℕ) → inputs ≡ in_room widest (numbered_input (class_of cls) row.inputs) row.count → NewRowOf stored b (class_of cls) u (record { label = row.label; count = row.count; inputs = inputs })
    unfolding new_row
    seen_made inputs q = record { is = λ most w. here ∙ words_apart s.view (class_of cls) u o most w }
      where
        same : inputs ≡ in_room widest (input_number g (class_of cls) u) (g.count u)
        same = q ∙ room_same widest (numbered_input (class_of cls) row.inputs) (input_number g (class_of cls) u) row.count (λ j h. ap (row_number (class_of cls)) (input j h)) ∙ ap (in_room widest (input_number g (class_of cls) u)) counted

        here : record { label = row.label; count = row.count; inputs = inputs } ≡ new_row g (class_of cls) u
        here = let l : row.label ≡ g.label u = rw read (in_label g u) in rw (l, counted, same)
