-- The rows looked at so far stand at their numbers, and the words from the next row on as they were.
use Rattle.std.proofs.Common.{ℕ, zero, suc, ◌+◌, ◌-◌, ◌≤◌, ◌<◌, arith, ◌≡◌, refl, sym, ap, ◌∙◌, List, length, get_or, set, replicate, length-set, get_or-take, get_or-set_same, get_or-set_other}
use native.Mathlib.Decide.{dec_lt}
use lib.ListN.{get_or-replicate}
use lib.Seq.{sets, length-sets}
use Rattle.rules.specs.Lists.{widest}
use Rattle.store.specs.Layout.{word_at, row_word, label_of, count_of, input_of, store_graph}
use Rattle.store.specs.Rows.{RowThere, words_of_row}
use Rattle.store.specs.declared.row.Row.{Row}
use Rattle.store.proofs.Room.{row_there, row_positive, word_later, word_next}
use Rattle.store.proofs.Puts.{put_before, put_past, put_word, put_label, put_count, put_input, else_label, else_count, else_input}
use Rattle.numbering.specs.Numbers.{trees_below, row_number}
use Rattle.numbering.proofs.Counting.{below_none, below_first, below_known, below_most, first_below, number_first}
use Rattle.writing.specs.After.{HasRow}
use Rattle.mends.proofs.Left.{few_rows}
use Rattle.mends.proofs.Listing.{listed_gone, listed_left}
use Rattle.mends.proofs.Rooms.{row_later}
use Rattle.mends.specs.Entries.{entry_of}
use Rattle.gathering.specs.Gathered.{moved_row, MoveAsks, RowMoved, row_stays, row_moves, GatherAsks, Listing, RowsGathered, FreeAsks, RowsFreed, Finished, Gathered}
use Rattle.gathering.proofs.Moving.{moved_label, moved_count, moved_full, moved_used, moved_unused, move_there}

pub record Gathering (most n : ℕ) (list w v : List ℕ) (k u : ℕ) : Type 0 where
  pub some : u ≤ n
  pub low : k ≤ u
  pub long : length v ≡ length w
  pub rest : (i : ℕ) → row_word most u ≤ i → word_at v i ≡ word_at w i
  pub count : (c : ℕ → ℕ) → Listing most n w list c → k ≡ trees_below c u
  pub kept : (c : ℕ → ℕ) → Listing most n w list c → (x : ℕ) → x < u → c x ≡ x → HasRow most (store_graph most w) c x v (trees_below c x)

-- ---- the number of a row says whether it is the first of its tree

module _ {most n : ℕ} {w list : List ℕ} {c : ℕ → ℕ} (l : Listing most n w list c) (few : n ≤ 1024) (u : ℕ) (h : u < n) where
  is_first : entry_of list u ≡ trees_below c u → c u ≡ u
  unfolding row_number
  is_first e = go (dec_lt (c u) n)
    where
      go : Dec (c u < n) → c u ≡ u
      go (no q) = let a = listed_gone n c u (omega arith) in let b = l.entries u h in let m = below_most c u in absurd (omega arith)
      go (yes q) = at (dec_lt (c u) u)
        where
          at : Dec (c u < u) → c u ≡ u
          at (no r) = omega (arith, l.low u h q)
          at (yes r) =
              let a = listed_left n c u q in
              let b = l.entries u h in
              let o = l.own u h q in
              let f = first_below c (c u) u o r in
              absurd (number_is f (sym a ∙ sym b ∙ e))
            where
              number_is : trees_below c (c u) < trees_below c u → row_number c u ≡ trees_below c u → ⊥
              number_is f i = omega arith

  not_first : (entry_of list u ≡ trees_below c u → ⊥) → c u ≡ u → ⊥
  not_first f e = f (l.entries u h ∙ listed_left n c u (omega arith) ∙ number_first c u e)

-- ---- the loop

module _ (most n : ℕ) (list w : List ℕ) (a : GatherAsks most n w list) where
  few : n ≤ 1024
  few = few_rows most n (length w) a.room

  pub gathering_none : Gathering most n list w w 0 0
  gathering_none =
      record {
        some = omega arith;
        low = omega arith;
        long = refl;
        rest = λ i h. refl;
        count = λ c l. sym (below_none c);
        kept = λ c l x h e. absurd (omega arith);
      }

  module _ (v : List ℕ) (k u : ℕ) (s : Gathering most n list w v k u) where
    module _ (h : u < n) where
      counts : count_of most v u ≡ count_of most w u
      counts = s.rest (row_word most u + 1) (omega arith)

      inputs : (j : ℕ) → input_of most v u j ≡ input_of most w u j
      inputs j = s.rest (row_word most u + 2 + j) (omega arith)

      labels : label_of most v u ≡ label_of most w u
      labels = s.rest (row_word most u) (omega arith)

      pub gathering_asks : MoveAsks most v list u k
      gathering_asks =
          record {
            row =
                record {
                  there = row_there most v n u a.limit h (rw s.long a.room);
                  few = rw counts (a.few u h);
                  used = λ j q. rw (inputs j) (omega (arith, a.used u j h (rw counts at q), a.entries));
                };
            entry = omega (arith, a.entries);
            low = s.low;
          }

      pub gathering_more : (v' : List ℕ) (r : ℕ) → RowMoved most list u k v v' r → Gathering most n list w v' r (u + 1)
      unfolding store_graph
      gathering_more v' r (row_stays f p q) =
          rw (p, q) (
          record {
            some = omega arith;
            low = omega (arith, s.low);
            long = s.long;
            rest = λ i l. s.rest i (omega (arith, row_later most u (u + 1) (omega arith)));
            count = λ c l. s.count c l ∙ sym (below_known c u (not c l));
            kept = λ c l x b e. s.kept c l x (before c l x b e) e;
          })
        where
          not : (c : ℕ → ℕ) → Listing most n w list c → c u ≡ u → ⊥
          not c l = not_first l few u h (λ z. f (z ∙ sym (s.count c l)))

          before : (c : ℕ → ℕ) → Listing most n w list c → (x : ℕ) → x < u + 1 → c x ≡ x → x < u
          before c l x b e = go (dec_lt x u)
            where
              go : Dec (x < u) → x < u
              go (yes y) = y
              go (no y) = let z : x ≡ u = omega arith in absurd (not c l (rw z at e))
      gathering_more v' r (row_moves f p q) =
          rw q (
          record {
            some = omega arith;
            low = omega (arith, s.low);
            long = ap length p ∙ length-sets v (row_word most k) (words_of_row most (moved_row most v list u)) ∙ s.long;
            rest = λ i l. put_past most v v' k (moved_row most v list u) there full p i (omega (arith, row_later most (k + 1) (u + 1) (omega (arith, s.low)))) ∙ s.rest i (omega (arith, row_later most u (u + 1) (omega arith)));
            count = λ c l. ap (λ y. y + 1) (s.count c l) ∙ sym (below_first c u (first c l));
            kept = λ c l x b e. go c l x b e (dec_lt x u);
          })
        where
          there : RowThere most v k
          there = move_there most v list u k gathering_asks

          low : count_of most v u ≤ widest
          low = omega (arith, counts, a.few u h, a.limit)

          full : length (moved_row most v list u).inputs ≡ widest
          full = moved_full most v list u low

          first : (c : ℕ → ℕ) → Listing most n w list c → c u ≡ u
          first c l = is_first l few u h (f ∙ s.count c l)

          here : (c : ℕ → ℕ) → Listing most n w list c → HasRow most (store_graph most w) c u v' k
          here c l =
              record {
                label = put_label most v v' k (moved_row most v list u) there full p ∙ moved_label most v list u ∙ labels;
                count = put_count most v v' k (moved_row most v list u) there full p ∙ moved_count most v list u ∙ counts;
                used = λ j d. put_input most v v' k (moved_row most v list u) there full p j (omega (arith, a.few u h)) ∙ moved_used most v list u low j (omega (arith, counts)) ∙ ap (entry_of list) (inputs j) ∙ l.entries (input_of most w u j) (a.used u j h d) ∙ listed_left n c (input_of most w u j) (l.left u j h (omega (arith, first c l)) d);
                unused = λ j d b. put_input most v v' k (moved_row most v list u) there full p j b ∙ moved_unused most v list u low j (omega (arith, counts)) (omega (arith, a.limit));
              }

          keeps : (c : ℕ → ℕ) → (x : ℕ) → x < n → (trees_below c x ≡ k → ⊥) → HasRow most (store_graph most w) c x v (trees_below c x) → HasRow most (store_graph most w) c x v' (trees_below c x)
          keeps c x b o t =
              record {
                label = else_label most v v' k (moved_row most v list u) there full p (trees_below c x) o ∙ t.label;
                count = else_count most v v' k (moved_row most v list u) there full p (trees_below c x) o ∙ t.count;
                used = λ j d. else_input most v v' k (moved_row most v list u) there full p (trees_below c x) o j (omega (arith, a.few x b)) ∙ t.used j d;
                unused = λ j d m. else_input most v v' k (moved_row most v list u) there full p (trees_below c x) o j m ∙ t.unused j d m;
              }

          go : (c : ℕ → ℕ) → Listing most n w list c → (x : ℕ) → x < u + 1 → c x ≡ x → Dec (x < u) → HasRow most (store_graph most w) c x v' (trees_below c x)
          go c l x b e (yes y) = keeps c x (omega arith) (λ z. omega (arith, s.count c l, first_below c x u e y)) (s.kept c l x y e)
          go c l x b e (no y) = let z : x ≡ u = omega arith in rw (z, ← s.count c l) (here c l)

-- ---- freeing

pub record Freeing (most k n : ℕ) (w v : List ℕ) (u : ℕ) : Type 0 where
  pub some : u ≤ n
  pub low : k ≤ u
  pub long : length v ≡ length w
  pub before : (i : ℕ) → i < row_word most k → word_at v i ≡ word_at w i
  pub zero : (i : ℕ) → row_word most k ≤ i → i < row_word most u → word_at v i ≡ 0
  pub past : (i : ℕ) → row_word most u ≤ i → word_at v i ≡ word_at w i

-- the row without anything
abbrev no_row : Row
no_row = record { label = 0; count = 0; inputs = replicate widest 0 }

no_words : (most k : ℕ) → most ≤ widest → k < most + 2 → get_or (words_of_row most no_row) k 0 ≡ 0
unfolding words_of_row
no_words most zero l h = refl
no_words most (suc zero) l h = refl
no_words most (suc (suc j)) l h = get_or-take most (replicate widest 0) j 0 (omega arith) ∙ get_or-replicate widest j 0 0 (omega arith)

module _ (most k n : ℕ) (w : List ℕ) (a : FreeAsks most k n w) where
  module _ (v : List ℕ) (u : ℕ) (s : Freeing most k n w v u) where
    pub freeing_there : u < n → RowThere most v u
    freeing_there h = row_there most v n u a.limit h (rw s.long a.room)

    pub freeing_more : (v' : List ℕ) → u < n → v' ≡ sets v (row_word most u) (words_of_row most no_row) → Freeing most k n w v' (u + 1)
    freeing_more v' h p =
        record {
          some = omega arith;
          low = omega (arith, s.low);
          long = ap length p ∙ length-sets v (row_word most u) (words_of_row most no_row) ∙ s.long;
          before = λ i l. put_before most v v' u no_row there refl p i (omega (arith, row_later most k u s.low)) ∙ s.before i l;
          zero = λ i l m. go i l m (dec_lt i (row_word most u));
          past = λ i l. put_past most v v' u no_row there refl p i l ∙ s.past i (omega (arith, row_later most u (u + 1) (omega arith)));
        }
      where
        there : RowThere most v u
        there = freeing_there h

        go : (i : ℕ) → row_word most k ≤ i → i < row_word most (u + 1) → Dec (i < row_word most u) → word_at v' i ≡ 0
        go i l m (yes q) = put_before most v v' u no_row there refl p i q ∙ s.zero i l q
        go i l m (no q) =
            let d = word_next most u in
            let e : i ≡ row_word most u + (i - row_word most u) = omega arith in
            ap (word_at v') e ∙ put_word most v v' u no_row there refl p (i - row_word most u) (omega arith) ∙ no_words most (i - row_word most u) a.limit (omega arith)

-- ---- and word 0

module _ (most k n : ℕ) (w : List ℕ) (a : FreeAsks most k n w) where
  module _ (x : List ℕ) (f : RowsFreed most k n w x) where
    pub finish_word : 0 < length x
    finish_word = omega (arith, a.words, f.long)

    pub finish_all : (y : List ℕ) → y ≡ set x 0 k → Finished most k n w y
    finish_all y e =
        rw e (
        record {
          long = length-set x 0 k ∙ f.long;
          count = get_or-set_same x 0 k 0 finish_word;
          before = λ i h l. other i h ∙ f.before i l;
          zero = λ i h l. other i (omega (arith, row_positive most k)) ∙ f.zero i h l;
          past = λ i h. other i (omega (arith, row_positive most n)) ∙ f.past i h;
        })
      where
        other : (i : ℕ) → 0 < i → word_at (set x 0 k) i ≡ word_at x i
        other i h = get_or-set_other x 0 i k 0 (λ d. omega arith)

-- ---- the whole

module _ (most n : ℕ) (list w v : List ℕ) (k : ℕ) (a : GatherAsks most n w list) (s : RowsGathered most n list w v k) where
  pub gathered_free : FreeAsks most k n v
  gathered_free = record { few = few_rows most n (length w) a.room; limit = a.limit; low = s.low; words = omega (arith, a.words, s.long); room = rw s.long a.room }

  pub gathered_all : (x : List ℕ) → Finished most k n v x → Gathered most n list w x
  unfolding store_graph
  gathered_all x f =
      record {
        words = λ c l.
            record {
              long = f.long ∙ s.long;
              count = f.count ∙ s.count c l;
              kept = λ u h e. keeps c l u h e (s.kept c l u h e);
              freed = λ i p q. f.zero i (rw (s.count c l) p) q;
              past = λ i p. f.past i p ∙ s.past i p;
            };
      }
    where
      keeps : (c : ℕ → ℕ) → Listing most n w list c → (u : ℕ) → u < n → c u ≡ u → HasRow most (store_graph most w) c u v (trees_below c u) → HasRow most (store_graph most w) c u x (trees_below c u)
      keeps c l u h e t =
          let b = first_below c u n e h in
          let d = word_later most (trees_below c u) k (omega (arith, s.count c l)) in
          let p = row_positive most (trees_below c u) in
          record {
            label = f.before (row_word most (trees_below c u)) (omega arith) (omega arith) ∙ t.label;
            count = f.before (row_word most (trees_below c u) + 1) (omega arith) (omega arith) ∙ t.count;
            used = λ j y. f.before (row_word most (trees_below c u) + 2 + j) (omega arith) (omega (arith, a.few u h)) ∙ t.used j y;
            unused = λ j y z. f.before (row_word most (trees_below c u) + 2 + j) (omega arith) (omega arith) ∙ t.unused j y z;
          }
