-- What a mended store is: sound, with the trees of the rows that are not dropped, each once and in the order of the lowest old number that stood for it.
use Prim.Native.Nat.{ℕ, ◌+◌, ◌≤◌, ◌<◌}
use native.Mathlib.Omega.{arith}
use native.Mathlib.Decide.{dec_lt}
use mathlib.Core.Path.{◌≡◌, refl, sym, ap, ◌∙◌}
use mathlib.Core.Bool.{Bool, false}
use mathlib.Core.List.{List}
use mathlib.Core.Logic.{inl, inr, ◌↔◌}
use lib.ListN.{length, get_or}
use Rattle.trees.specs.Agreement.{SameTree}
use Rattle.wires.specs.Wires.{is_wire, Wire, through}
use Rattle.wires.proofs.Following.{Told, told_wire, told_plain, told}
use Rattle.wires.proofs.Skipping.{skipping_label}
use Rattle.store.specs.Layout.{in_use, label_of, capacity_of, store_graph}
use Rattle.store.specs.Sound.{RowShaped, Sound}
use Rattle.numbering.specs.Numbers.{trees_below, row_number, NumberedRows}
use Rattle.numbering.proofs.Counting.{FirstOf, number_taken, below_most, below_mono, number_first}
use Rattle.mends.specs.Dropped.{taken, Dropped, NoBox, left}
use Rattle.mends.specs.Lowest.{Lowest}
use Rattle.mends.specs.Counts.{tally, wire_of, goes_at, wire_at, merged_at}
use Rattle.mends.specs.Words.{MendedWords, listed}
use Rattle.mends.specs.Mended.{MendDone}
use Rattle.mends.proofs.Lowest.{low, own_left, number_below, left_same, left_minimal}
use Rattle.mends.proofs.Left.{taken_room, taken_few, Left, box_left, box_plain, box_tree, left_count, left_inputs}
use Rattle.mends.proofs.Listing.{listed_gone, listed_left, entry_listed}
use Rattle.mends.proofs.Sums.{Kind, goes, a_wire, a_box, kept_boxes, four_kinds}

module _ {most : ℕ} {w : List ℕ} {n : ℕ} (few : n ≤ 1024) {c : ℕ → ℕ} (s : Lowest (left most w) n (Dropped most w n) c) where
  -- ---- rows that the choice has are those that are not dropped

  pub class_left : (u : ℕ) → u < n → c u < n → Left most w n u
  class_left u h l = record { low = h; not = λ d. let e = s.goes u h d in omega arith }

  pub left_class : (u : ℕ) → Left most w n u → c u < n
  left_class u l = go (dec_lt (c u) n)
    where
      go : Dec (c u < n) → c u < n
      go (yes q) = q
      go (no q) = absurd (l.not (s.gone u l.low (omega arith)))

  pub left_closed : (u j : ℕ) → u < n → c u < n → j < (left most w).count u → ((left most w).input u j < n) × (c ((left most w).input u j) < n)
  left_closed u j h l q =
      let i = left_inputs few u (class_left u h l) j q in
      (i.low, left_class ((left most w).input u j) i)

  -- ---- the words

  module _ {w' : List ℕ} (m : MendedWords most (left most w) c n w w') where
    numbered : NumberedRows (left most w) n c (store_graph most w')
    unfolding store_graph
    numbered =
        record {
          alike = λ u h e. let r = m.kept u h e in rw (number_first c u e) (record { labels = sym r.label; counts = sym r.count });
          inputs = λ u h e j l. rw (number_first c u e) ((m.kept u h e).used j l);
        }

    pub kept_same : (u : ℕ) → u < n → c u < n → SameTree (left most w) u (store_graph most w') (row_number c u)
    kept_same = left_same s left_closed numbered

    row_kept : (k : ℕ) → FirstOf c n k → RowShaped most w' (in_use w') k
    row_kept k f =
        let u = f.row in
        let l = own_left s u f.within f.first in
        let p = class_left u f.within l in
        let r = rw f.number at (m.kept u f.within f.first) in
        record {
          plain = no_wire u p (label_of most w' k) r.label;
          few = omega (arith, r.count, left_count few u p);
          used = λ j h.
              let q : j < (left most w).count u = omega (arith, r.count) in
              let i = left_closed u j f.within l q in
              omega (arith, r.used j q, number_below s ((left most w).input u j) i.0 i.1, m.count);
          unused = λ j h q. r.unused j (omega (arith, r.count)) q;
        }
      where
        no_wire : (u : ℕ) → Left most w n u → (x : ℕ) → x ≡ (left most w).label u → is_wire x ≡ false
        no_wire u p x e = go (told (store_graph most w) (through (store_graph most w) u)) (ap is_wire (e ∙ skipping_label (store_graph most w) u))
          where
            go : {t : Bool} → Told (store_graph most w) (through (store_graph most w) u) t → is_wire x ≡ t → is_wire x ≡ false
            go (told_wire y) z = absurd (box_plain few u p y)
            go (told_plain y) z = z

    pub words_sound : n ≤ capacity_of most (length w) → Sound most w'
    words_sound room =
        record {
          shaped =
              record {
                fits = rw (m.count, m.long) (omega (arith, below_most c n));
                rows = λ k h. row_kept k (number_taken c n k (rw m.count at h));
              };
          distinct = rw m.count (left_minimal s left_closed numbered);
        }

  -- ---- kept, merged, wires and dropped

  module _ {b : ℕ → ℕ} (t : Lowest (left most w) n (NoBox most w n) b) where
    box_class : (u : ℕ) → u < n → b u < n → c u < n
    box_class u h l = go (dec_lt (c u) n)
      where
        go : Dec (c u < n) → c u < n
        go (yes q) = q
        go (no q) = let e = t.goes u h (inl (s.gone u h (omega arith))) in absurd (omega arith)

    class_box : (u : ℕ) → u < n → c u < n → (Wire (store_graph most w) u → ⊥) → b u < n
    class_box u h l p = go (dec_lt (b u) n)
      where
        no_box : NoBox most w n u → ⊥
        no_box (inl d) = (class_left u h l).not d
        no_box (inr x) = p x

        go : Dec (b u < n) → b u < n
        go (yes q) = q
        go (no q) = absurd (no_box (t.gone u h (omega arith)))

    kind : (u : ℕ) → u < n → Kind n c b (wire_of most w) u
    unfolding store_graph
    kind u h = go (dec_lt (c u) n) (told (store_graph most w) u) refl
      where
        go : Dec (c u < n) → {x : Bool} → Told (store_graph most w) u x → wire_of most w u ≡ x → Kind n c b (wire_of most w) u
        go (no q) y e = let z = t.goes u h (inl (s.gone u h (omega arith))) in goes (omega arith) (omega arith)
        go (yes q) (told_wire y) e = let z = t.goes u h (inr y) in a_wire q e (omega arith)
        go (yes q) (told_plain y) e = a_box q e (low t u h (class_box u h q y))

    pub kinds_sum : trees_below c n + tally (merged_at b) n + tally (wire_at n c (wire_of most w)) n + tally (goes_at n c) n ≡ n
    kinds_sum =
        let k = kept_boxes s t (through (store_graph most w))
        (λ u h l. (box_left few u (class_left u h l)).low)
        (λ u h l. let p = class_left u h l in let q = box_left few u p in class_box (through (store_graph most w) u) q.low (left_class (through (store_graph most w) u) q) (box_plain few u p))
        (λ u h l. box_tree few u (class_left u h l))
        box_class in
        let f = four_kinds n c b (wire_of most w) kind n (omega arith) in
        omega arith

-- ---- a store that was mended

module _ {most : ℕ} {w list w' list' : List ℕ} {dropped wires merged cleared : ℕ} (d : MendDone most w list w' list' dropped wires merged cleared) where
  abbrev rows : ℕ
  rows = taken most w

  abbrev entry : ℕ → ℕ
  entry u = get_or list' u 0

  -- the result is sound
  pub mended_sound : Sound most w'
  mended_sound = words_sound (taken_few most w) d.lowest d.stored (taken_room most w)

  -- kept, merged, wires and dropped make the count taken
  pub kept_sum : in_use w' + merged + wires + dropped ≡ taken most w
  kept_sum =
      omega (arith, kinds_sum (taken_few most w) d.lowest d.boxes, d.stored.count, d.merges, d.wired, d.drops)

  entry_is : (u : ℕ) → u < rows → entry u ≡ listed rows d.class u
  entry_is = entry_listed (listed rows d.class) rows list list' d.long d.listing

  module _ (u : ℕ) (h : u < rows) where
    number_is : d.class u < rows → entry u ≡ row_number d.class u
    number_is l = entry_is u h ∙ listed_left rows d.class u l

    number_low : d.class u < rows → entry u < in_use w'
    number_low l = omega (arith, number_is l, number_below d.lowest u h l, d.stored.count)

    -- a row that is not dropped has its tree at its entry
    pub kept_tree : (Dropped most w rows u → ⊥) → (entry u < in_use w') × SameTree (left most w) u (store_graph most w') (entry u)
    kept_tree f =
        let l = left_class (taken_few most w) d.lowest u (record { low = h; not = f }) in
        (number_low l, rw (number_is l) (kept_same (taken_few most w) d.lowest d.stored u h l))

    -- the entry is 4294967295 exactly of a row that is dropped
    pub listed_dropped : (entry u ≡ 4294967295) ↔ Dropped most w rows u
    listed_dropped = (there, back)
      where
        there : entry u ≡ 4294967295 → Dropped most w rows u
        there e = go (dec_lt (d.class u) rows)
          where
            go : Dec (d.class u < rows) → Dropped most w rows u
            go (yes q) = absurd (omega (arith, number_is q, number_below d.lowest u h q, below_most d.class rows, taken_few most w))
            go (no q) = d.lowest.gone u h (omega arith)

        back : Dropped most w rows u → entry u ≡ 4294967295
        back x = let e = d.lowest.goes u h x in entry_is u h ∙ listed_gone rows d.class u (omega arith)

  -- each row of the mended store is the entry of an old row
  pub record EntryOf (k : ℕ) : Type 0 where
    pub row : ℕ
    pub within : row < rows
    pub is : entry row ≡ k

  pub kept_all : (k : ℕ) → k < in_use w' → EntryOf k
  kept_all k h = go (number_taken d.class rows k (rw d.stored.count at h))
    where
      go : FirstOf d.class rows k → EntryOf k
      go f =
          record {
            row = f.row;
            within = f.within;
            is = number_is f.row f.within (own_left d.lowest f.row f.within f.first) ∙ number_first d.class f.row f.first ∙ f.number;
          }

  -- of two entries the smaller has the lower lowest old number
  pub kept_order : (u v : ℕ) → u < rows → v < rows → (Dropped most w rows u → ⊥) → (Dropped most w rows v → ⊥) → entry u < entry v → d.class u < d.class v
  unfolding row_number
  kept_order u v h i f g l = go (dec_lt (d.class u) (d.class v))
    where
      p : d.class u < rows
      p = left_class (taken_few most w) d.lowest u (record { low = h; not = f })

      q : d.class v < rows
      q = left_class (taken_few most w) d.lowest v (record { low = i; not = g })

      go : Dec (d.class u < d.class v) → d.class u < d.class v
      go (yes x) = x
      go (no x) =
          let a : entry u ≡ trees_below d.class (d.class u) = number_is u h p in
          let b : entry v ≡ trees_below d.class (d.class v) = number_is v i q in
          let m = below_mono d.class (d.class v) (d.class u) (omega arith) in
          absurd (omega arith)
