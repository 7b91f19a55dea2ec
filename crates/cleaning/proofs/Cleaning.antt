-- Rows cleaned one after another, rising: the row of a box is read as it was, whether it has been cleaned or not.
use Rattle.std.proofs.Common.{ℕ, ◌+◌, ◌≤◌, ◌<◌, arith, add-zero, ◌≡◌, refl, sym, ap, ◌∙◌, false, List, length, set, length-set, get_or-set_same, get_or-set_other}
use native.Mathlib.Decide.{dec_lt, ℕ_discrete}
use lib.ListN.{get_or-replicate}
use lib.Seq.{sets, length-sets}
use Rattle.rules.specs.Lists.{widest}
use Rattle.wires.specs.Wires.{is_wire}
use Rattle.store.specs.Layout.{word_at, row_word, label_of, count_of, input_of}
use Rattle.store.specs.Rows.{RowThere, words_of_row}
use Rattle.store.specs.Sound.{RowShaped, Shaped}
use Rattle.store.proofs.Room.{row_there, row_positive}
use Rattle.store.proofs.Puts.{put_past, put_label, put_count, put_input, else_label, else_count, else_input}
use Rattle.mends.proofs.Left.{few_rows}
use Rattle.mends.proofs.Rooms.{row_later}
use Rattle.mends.specs.Entries.{entry_of, Marked}
use Rattle.cleaning.specs.Cleaned.{no_row, trimmed_row, box_row, CleanRowAsks, Boxed, CleanAsks, IsBox, IsNothing, RowsCleaned, Cleaned}
use Rattle.cleaning.proofs.Boxes.{box_gone, box_left, trim_label, trim_count, trim_full, trim_used, trim_unused}

module _ (most n : ℕ) (list w : List ℕ) (a : CleanAsks most n w list) where
  small : (x : ℕ) → x < n → x ≡ 4294967295 → ⊥
  small x h e = omega (arith, few_rows most n (length w) a.room)

  module _ (v : List ℕ) (u : ℕ) (s : RowsCleaned most n list w v u) where
    -- a box as it stands meanwhile says of its used part what it said
    module _ (h : u < n) (f : Marked list u → ⊥) where
      box : Boxed most n w list u
      box = a.box u h f

      own : Marked list (entry_of list u) → ⊥
      own m = small (entry_of list u) box.within (sym box.own ∙ m)

      done : entry_of list u < u → IsBox most w v (entry_of list u) (entry_of list u)
      done q = rw box.own at (s.left (entry_of list u) q own)

      later : (k : ℕ) → (entry_of list u < u → ⊥) → word_at v (row_word most (entry_of list u) + k) ≡ word_at w (row_word most (entry_of list u) + k)
      later k q = s.rest (row_word most (entry_of list u) + k) (omega (arith, row_later most u (entry_of list u) (omega arith)))

      box_label : label_of most v (entry_of list u) ≡ label_of most w (entry_of list u)
      box_label = go (dec_lt (entry_of list u) u)
        where
          go : Dec (entry_of list u < u) → label_of most v (entry_of list u) ≡ label_of most w (entry_of list u)
          go (yes q) = (done q).label
          go (no q) = rw add-zero at (later 0 q)

      box_count : count_of most v (entry_of list u) ≡ count_of most w (entry_of list u)
      box_count = go (dec_lt (entry_of list u) u)
        where
          go : Dec (entry_of list u < u) → count_of most v (entry_of list u) ≡ count_of most w (entry_of list u)
          go (yes q) = (done q).count
          go (no q) = later 1 q

      box_input : (j : ℕ) → j < count_of most w (entry_of list u) → input_of most v (entry_of list u) j ≡ input_of most w (entry_of list u) j
      box_input j l = go (dec_lt (entry_of list u) u)
        where
          go : Dec (entry_of list u < u) → input_of most v (entry_of list u) j ≡ input_of most w (entry_of list u) j
          go (yes q) = (done q).used j l
          go (no q) =
              let p : row_word most (entry_of list u) + 2 + j ≡ row_word most (entry_of list u) + (2 + j) = omega arith in
              rw p (later (2 + j) q)

    pub cleaning_asks : u < n → CleanRowAsks most v list u
    cleaning_asks h =
        record {
          box =
              record {
                entry = omega (arith, a.entries);
                limit = a.limit;
                there = λ f. row_there most v n (entry_of list u) a.limit (box h f).within (rw s.long a.room);
                few = λ f. rw (box_count h f) (box h f).few;
              };
          row = row_there most v n u a.limit h (rw s.long a.room);
        }

    module _ (h : u < n) (v' : List ℕ) (e : v' ≡ sets v (row_word most u) (words_of_row most (box_row most v list u))) where
      there : RowThere most v u
      there = (cleaning_asks h).row

      low : (f : Marked list u → ⊥) → count_of most v (entry_of list u) ≤ widest
      low f = omega (arith, box_count h f, (box h f).few, a.limit)

      full : Dec (Marked list u) → length (box_row most v list u).inputs ≡ widest
      full (yes m) = rw (box_gone most v list u m) refl
      full (no f) = rw (box_left most v list u f) (trim_full most v (entry_of list u) (low f))

      box_full : length (box_row most v list u).inputs ≡ widest
      box_full = full (ℕ_discrete (entry_of list u) 4294967295)

      here_left : (Marked list u → ⊥) → IsBox most w v' u (entry_of list u)
      here_left f =
          let t = rw (box_left most v list u f) at e in
          let y = trim_full most v (entry_of list u) (low f) in
          let r = trimmed_row most v (entry_of list u) in
          record {
            label = put_label most v v' u r there y t ∙ trim_label most v (entry_of list u) ∙ box_label h f;
            count = put_count most v v' u r there y t ∙ trim_count most v (entry_of list u) ∙ box_count h f;
            used = λ j l. put_input most v v' u r there y t j (omega (arith, (box h f).few)) ∙ trim_used most v (entry_of list u) (low f) j (omega (arith, box_count h f)) ∙ box_input h f j l;
            unused = λ j l m. put_input most v v' u r there y t j m ∙ trim_unused most v (entry_of list u) (low f) j (omega (arith, box_count h f)) (omega (arith, a.limit));
          }

      here_gone : Marked list u → IsNothing most v' u
      here_gone m =
          let t = rw (box_gone most v list u m) at e in
          record {
            label = put_label most v v' u no_row there refl t;
            count = put_count most v v' u no_row there refl t;
            inputs = λ j l. put_input most v v' u no_row there refl t j l ∙ get_or-replicate widest j 0 0 (omega (arith, a.limit));
          }

      module _ (x : ℕ) (o : x ≡ u → ⊥) where
        else_left : (c : count_of most w (entry_of list x) ≤ most) → IsBox most w v x (entry_of list x) → IsBox most w v' x (entry_of list x)
        else_left c i =
            record {
              label = else_label most v v' u (box_row most v list u) there box_full e x o ∙ i.label;
              count = else_count most v v' u (box_row most v list u) there box_full e x o ∙ i.count;
              used = λ j l. else_input most v v' u (box_row most v list u) there box_full e x o j (omega arith) ∙ i.used j l;
              unused = λ j l m. else_input most v v' u (box_row most v list u) there box_full e x o j m ∙ i.unused j l m;
            }

        else_gone : IsNothing most v x → IsNothing most v' x
        else_gone i =
            record {
              label = else_label most v v' u (box_row most v list u) there box_full e x o ∙ i.label;
              count = else_count most v v' u (box_row most v list u) there box_full e x o ∙ i.count;
              inputs = λ j l. else_input most v v' u (box_row most v list u) there box_full e x o j l ∙ i.inputs j l;
            }

      pub cleaning_more : RowsCleaned most n list w v' (u + 1)
      cleaning_more =
          record {
            some = omega arith;
            long = ap length e ∙ length-sets v (row_word most u) (words_of_row most (box_row most v list u)) ∙ s.long;
            left = λ x l f. go_left x l f (dec_lt x u);
            gone = λ x l m. go_gone x l m (dec_lt x u);
            rest = λ i l. put_past most v v' u (box_row most v list u) there box_full e i l ∙ s.rest i (omega (arith, row_later most u (u + 1) (omega arith)));
          }
        where
          go_left : (x : ℕ) → x < u + 1 → (Marked list x → ⊥) → Dec (x < u) → IsBox most w v' x (entry_of list x)
          go_left x l f (yes q) = else_left x (λ z. omega arith) (a.box x (omega arith) f).few (s.left x q f)
          go_left x l f (no q) = let z : x ≡ u = omega arith in rw z (here_left (rw z at f))

          go_gone : (x : ℕ) → x < u + 1 → Marked list x → Dec (x < u) → IsNothing most v' x
          go_gone x l m (yes q) = else_gone x (λ z. omega arith) (s.gone x q m)
          go_gone x l m (no q) = let z : x ≡ u = omega arith in rw z (here_gone (rw z at m))

  -- ---- and word 0

  pub clean_small : n < 65536
  clean_small = omega (arith, few_rows most n (length w) a.room)

  module _ (v : List ℕ) (s : RowsCleaned most n list w v n) where
    pub clean_word : 0 < length v
    clean_word = omega (arith, a.words, s.long)

    pub clean_all : (y : List ℕ) → y ≡ set v 0 n → Cleaned most n list w y
    clean_all y e =
        rw e (
        record {
          long = length-set v 0 n ∙ s.long;
          count = get_or-set_same v 0 n 0 clean_word;
          left = λ x h f. keep x (s.left x h f);
          gone = λ x h m. none x (s.gone x h m);
          past = λ i h. other i (omega (arith, row_positive most n)) ∙ s.rest i h;
        })
      where
        other : (i : ℕ) → 0 < i → word_at (set v 0 n) i ≡ word_at v i
        other i h = get_or-set_other v 0 i n 0 (λ d. omega arith)

        keep : (x : ℕ) → IsBox most w v x (entry_of list x) → IsBox most w (set v 0 n) x (entry_of list x)
        keep x i =
            let p = row_positive most x in
            record {
              label = other (row_word most x) p ∙ i.label;
              count = other (row_word most x + 1) (omega arith) ∙ i.count;
              used = λ j l. other (row_word most x + 2 + j) (omega arith) ∙ i.used j l;
              unused = λ j l m. other (row_word most x + 2 + j) (omega arith) ∙ i.unused j l m;
            }

        none : (x : ℕ) → IsNothing most v x → IsNothing most (set v 0 n) x
        none x i =
            let p = row_positive most x in
            record {
              label = other (row_word most x) p ∙ i.label;
              count = other (row_word most x + 1) (omega arith) ∙ i.count;
              inputs = λ j l. other (row_word most x + 2 + j) (omega arith) ∙ i.inputs j l;
            }

  -- ---- a cleaned store is shaped, if the boxes are no wires and their inputs are rows taken

  pub cleaned_shaped : (y : List ℕ) → Cleaned most n list w y → ((u : ℕ) → u < n → (Marked list u → ⊥) → is_wire (label_of most w (entry_of list u)) ≡ false)
      → ((u : ℕ) → u < n → (Marked list u → ⊥) → (j : ℕ) → j < count_of most w (entry_of list u) → input_of most w (entry_of list u) j < n) → Shaped most y
  cleaned_shaped y s plain used =
      record {
        fits = rw (s.count, s.long) a.room;
        rows = λ x h. rw s.count (go x (rw s.count at h) (ℕ_discrete (entry_of list x) 4294967295));
      }
    where
      go : (x : ℕ) → x < n → Dec (Marked list x) → RowShaped most y n x
      go x h (yes m) =
          let i = s.gone x h m in
          record {
            plain = rw i.label refl;
            few = omega (arith, i.count);
            used = λ j l. absurd (omega (arith, i.count));
            unused = λ j l k. i.inputs j k;
          }
      go x h (no f) =
          let i = s.left x h f in
          record {
            plain = ap is_wire i.label ∙ plain x h f;
            few = omega (arith, i.count, (a.box x h f).few);
            used = λ j l. let q : j < count_of most w (entry_of list x) = omega (arith, i.count) in omega (arith, i.used j q, used x h f j q);
            unused = λ j l k. i.unused j (omega (arith, i.count)) k;
          }
