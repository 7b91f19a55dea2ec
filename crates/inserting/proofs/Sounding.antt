-- An insert into a store that is known to be sound.
use Prim.Native.Nat.{ℕ, ◌<◌}
use native.Mathlib.Omega.{arith}
use mathlib.Core.Path.{◌≡◌, refl, sym, ap, ◌∙◌}
use mathlib.Core.List.{List}
use lib.ListN.{length, set}
use lib.Seq.{set-get_or}
use Rattle.rules.specs.Lists.{firsts}
use Rattle.rules.proofs.Writes.{over_none}
use Rattle.trees.specs.Agreement.{SameTree}
use Rattle.trees.specs.Sorting.{Sorted}
use Rattle.trees.proofs.Agreement.{same_refl, same_sym, same_trans}
use Rattle.sheet.specs.Format.{row_count_of}
use Rattle.store.specs.Layout.{in_use, room}
use Rattle.store.specs.Sound.{Sound}
use Rattle.rows.proofs.View.{store_same}
use Rattle.rows.proofs.Views.{view_store}
use Rattle.numbering.specs.Numbers.{trees_below}
use Rattle.numbering.proofs.Counting.{below_all}
use Rattle.writing.specs.After.{rows_put, store_written}
use Rattle.writing.proofs.Clauses.{rows_put_stored}
use Rattle.checking.specs.Check.{InShape}
use Rattle.fronting.specs.Together.{together, all_rows}
use Rattle.inserting.specs.Insert.{InsertSays, says_done}
use Rattle.fronting.specs.Front.{drawn_list, DrawnSays}
use Rattle.sheet.specs.declared.fault.Fault.{Fault}
use Rattle.std.specs.Prelude.{Result, Ok, Err}
use Rattle.inserting.specs.Behind.{stands}
use Rattle.inserting.proofs.Inserting.{refused_sheet, fronted}

pub sound_shape : (w : List ℕ) (stored : ℕ) → 0 < length w → Sound room w → stored ≡ in_use w → InShape w stored
sound_shape w stored h s e = record { words = h; shaped = s.shaped; counted = e }

pub sound_refused : (w b answers : List ℕ) (stored : ℕ) (table jumps : List ℕ) (r : Result ℕ Fault) (f : Fault) → InShape w stored → Sound room w → DrawnSays (drawn_list b) b 0 table jumps r → r ≡ Err f → InsertSays w b answers (record { number = f.number; added = 0; place = f.place }) w answers
sound_refused w b answers stored table jumps r f told s d q =
    refused_sheet w b answers stored table jumps r f (record { number = f.number; added = 0; place = f.place }) told d q (stands s.distinct)

-- ---- a sheet without rows

same : ℕ → ℕ
same u = u

-- each row of a sound store is the first with its tree
module _ (w b : List ℕ) (s : Sound room w) where
  apart : (u x : ℕ) → u < in_use w → x < in_use w → SameTree (together w b) u (together w b) x → u ≡ x
  apart u x h k t =
      let v = view_store {b = b} (omega arith) s.shaped in
      s.distinct.apart u x h k (same_trans (same_sym (store_same v u h)) (same_trans t (store_same v x k)))

  alone_sorted : Sorted (together w b) (in_use w) same
  unfolding same
  alone_sorted =
      record {
        exact = record { tree = λ u x h k q. rw q (same_refl (together w b) x); class = apart };
        has = λ u h. same_refl (together w b) u;
        lowest = λ u x h k t. let i = apart u x h k t in omega arith;
      }

pub sound_empty : (w b answers : List ℕ) (stored rows : ℕ) (table jumps : List ℕ) (r : Result ℕ Fault) → InShape w stored → Sound room w → DrawnSays (drawn_list b) b 0 table jumps r → r ≡ Ok rows → rows ≡ 0 → InsertSays w b answers (record { number = 0; added = 0; place = 0 }) w answers
unfolding same store_written firsts
sound_empty w b answers stored rows table jumps r told s d q z =
    let f = fronted w b stored rows table jumps r told d q in
    let none : row_count_of b ≡ 0 = sym f.passed.numbered ∙ z in
    let all : all_rows w b ≡ in_use w = omega arith in
    let trees : trees_below same (in_use w) ≡ in_use w = below_all same (in_use w) (λ u h. refl) in
    says_done {w' = w} {answers' = answers} {added = 0}
    (record {
      words = told.words;
      sound = s;
      readable = f.passed.readable;
      leads = f.passed.leads;
      straight = f.wired.straight;
      unlooped = f.wired.unlooped;
      long = omega arith;
      class = same;
      sorted = rw all (alone_sorted w b s);
      fits = rw (all, trees) s.shaped.fits;
      stored = sym (ap (λ n. set (rows_put room (together w b) same (in_use w) w n) 0 (trees_below same n)) all ∙ rw (rows_put_stored room (together w b) same (in_use w) w (in_use w) (omega arith), trees) (set-get_or w 0 0));
      answered = rw none (over_none answers);
      grown = rw (all, trees) (omega arith);
    })
