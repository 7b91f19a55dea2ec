-- Bytes that are a key are the key of a row of a sound store: the empty store that has them inserted.
use Prim.Native.Nat.{ℕ, ◌+◌, ◌<◌}
use native.Mathlib.Omega.{arith}
use mathlib.Core.Path.{◌≡◌, refl, sym, ap, ◌∙◌}
use mathlib.Core.List.{List}
use mathlib.Core.Bool.{true}
use lib.ListN.{length}
use Rattle.rules.specs.Lists.{firsts}
use Rattle.rules.specs.Writes.{over_front}
use Rattle.rules.specs.Answers.{Says, says_yes}
use Rattle.rules.proofs.Lists.{firsts_length, firsts_at}
use Rattle.trees.specs.Agreement.{SameTree, Minimal}
use Rattle.trees.specs.Sorting.{Sorted}
use Rattle.trees.proofs.Agreement.{same_refl, same_sym, same_trans}
use Rattle.trees.proofs.Matching.{renumbered_same}
use Rattle.trees.proofs.Sorting.{minimal_exact}
use Rattle.sheet.specs.Format.{row_count_of}
use Rattle.store.specs.Layout.{in_use, capacity_of, store_graph, room}
use Rattle.store.specs.Sound.{Sound}
use Rattle.store.proofs.Graphs.{shaped_closed}
use Rattle.numbering.specs.Numbers.{trees_below}
use Rattle.numbering.proofs.Counting.{below_most}
use Rattle.writing.specs.After.{store_written, answer_of}
use Rattle.walks.proofs.Lockstep.{same_key}
use Rattle.keys.specs.Sheets.{sheet_graph, IsKey, KeySays}
use Rattle.keys.specs.Bytes.{EachByte}
use Rattle.fronting.specs.Together.{together, all_rows}
use Rattle.inserting.specs.Insert.{InsertDone}
use Rattle.duties.specs.Words.{answer, KeyOfRow}
use Rattle.duties.proofs.Done.{answer_used, answer_tree, done_sound}
use Rattle.duties.proofs.Inserted.{moved, closed, key_straight, key_unlooped}
use Rattle.duties.proofs.Keys.{key_bytes, is_own_key}

abbrev itself : ℕ → ℕ
itself u = u

abbrev zero_words : ℕ → ℕ
zero_words u = 0

full_capacity : capacity_of room 6145 ≡ 1024
unfolding capacity_of
full_capacity = refl

module _ {b : List ℕ} (k : IsKey b) (each : EachByte b) (w : List ℕ) (none : in_use w ≡ 0) (long : length w ≡ 6145) where
  sound : Sound room w
  sound =
      record {
        shaped = record { fits = omega arith; rows = λ i h. absurd (omega arith) };
        distinct = record { apart = λ u v h l s. absurd (omega arith) };
      }

  -- the rows of the view are those of the sheet, all of different trees
  tree : (u : ℕ) → u < row_count_of b → SameTree (sheet_graph b) u (together w b) u
  tree u h = let z : in_use w + u ≡ u = omega arith in rw z at (renumbered_same (moved w b k) u h)

  minimal : Minimal (together w b) (all_rows w b)
  minimal =
      record {
        apart = λ u v h l s.
            let p : u < row_count_of b = omega arith in
            let q : v < row_count_of b = omega arith in
            k.distinct.apart u v p q (same_trans (tree u p) (same_trans s (same_sym (tree v q))));
      }

  sorted : Sorted (together w b) (all_rows w b) itself
  sorted =
      record {
        exact = minimal_exact minimal;
        has = λ u h. same_refl (together w b) u;
        lowest = λ u v h l s. let e = minimal.apart u v h l s in omega arith;
      }

  list : List ℕ
  list = firsts zero_words (row_count_of b)

  after : List ℕ
  after = store_written room (together w b) itself (in_use w) (all_rows w b) w

  numbers : List ℕ
  numbers = over_front (firsts (answer_of itself (in_use w)) (row_count_of b)) list

  done : InsertDone w b list after numbers (trees_below itself (all_rows w b))
  unfolding list after numbers
  done =
      let c = ap (capacity_of room) long ∙ full_capacity in
      record {
        words = omega arith;
        sound = sound;
        readable = k.readable;
        leads = k.leads;
        straight = key_straight w b k;
        unlooped = key_unlooped w b k;
        long = omega (arith, firsts_length zero_words (row_count_of b));
        class = itself;
        sorted = sorted;
        fits = omega (arith, below_most itself (all_rows w b), k.readable.few);
        stored = refl;
        answered = refl;
        grown = omega arith;
      }

  same : SameTree (sheet_graph b) 0 (store_graph room after) (answer numbers 0)
  same = same_trans (renumbered_same (moved w b k) 0 k.some) (answer_tree done 0 k.some)

  here : KeyOfRow b
  here =
      let o = done_sound done in
      let u = answer_used done 0 k.some in
      record {
        store = after;
        row = answer numbers 0;
        sound = o;
        used = u;
        key =
            sym (key_bytes (same_key (closed w b k) (shaped_closed room after o.shaped) k.some u k.distinct o.distinct same))
            ∙ is_own_key k each;
      }

-- bytes that the key test takes are the key of a row of a sound store
pub key_of_row : {b : List ℕ} → KeySays b true → KeyOfRow b
key_of_row {b} k = go k.says
  where
    go : Says (IsKey b) true → KeyOfRow b
    go (says_yes h) =
        here h k.each (firsts zero_words 6145) (firsts_at zero_words 6145 0 (omega arith)) (firsts_length zero_words 6145)
