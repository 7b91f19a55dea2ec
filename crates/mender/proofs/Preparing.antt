-- From marks to a cleaned store: what each step asks.
use Prim.Native.Nat.{ℕ, ◌≤◌, ◌<◌}
use native.Mathlib.Omega.{arith}
use mathlib.Core.Path.{◌≡◌, refl, sym, ◌∙◌}
use mathlib.Core.Bool.{Bool, false}
use mathlib.Core.List.{List}
use lib.ListN.{length}
use Rattle.trees.specs.Agreement.{SameTree}
use Rattle.wires.specs.Wires.{is_wire, through}
use Rattle.wires.proofs.Following.{Told, told_wire, told_plain, told}
use Rattle.store.specs.Layout.{label_of, count_of, input_of, capacity_of, store_graph}
use Rattle.store.specs.Sound.{Shaped}
use Rattle.mends.specs.Dropped.{left}
use Rattle.mends.specs.Entries.{entry_of, Marked}
use Rattle.mends.proofs.Left.{taken_room, taken_few, Left, box_left, box_plain, box_own, left_few, left_input, left_inputs}
use Rattle.marking.specs.Marking.{MarkAsks, RowsMarked}
use Rattle.tallying.specs.Counted.{TallyAsks}
use Rattle.cleaning.specs.Cleaned.{Boxed, CleanAsks, Cleaned}
use Rattle.cleaning.proofs.Cleaning.{cleaned_shaped}
use Rattle.mender.specs.Steps.{MendAsks, Prepared, Zeros, FillAsks}
use Rattle.mender.proofs.Joins.{cleaned_count, cleaned_input, cleaned_same}

module _ (most n : ℕ) (w old : List ℕ) (a : MendAsks most n w old) where
  pub asks_room : n ≤ capacity_of most (length w)
  asks_room = rw a.counted (taken_room most w)

  pub asks_few : n ≤ 1024
  asks_few = rw a.counted (taken_few most w)

  pub asks_mark : MarkAsks most n w old
  asks_mark = record { some = a.some; limit = a.limit; room = asks_room; entries = a.entries }

  module _ (list : List ℕ) (m : RowsMarked most n w old list) where
    entries : n ≤ length list
    entries = omega (arith, a.entries, m.stands.long)

    pub asks_tally : (x : List ℕ) → length x ≡ length w → TallyAsks most n x list
    asks_tally x e = record { limit = a.limit; room = rw e asks_room; entries = entries }

    -- ---- rows not marked are the rows that are not dropped

    pub unmarked_left : (u : ℕ) → u < n → (Marked list u → ⊥) → Left most w n u
    unmarked_left u h f = record { low = h; not = m.left u h f }

    pub left_unmarked : (u : ℕ) → Left most w n u → Marked list u → ⊥
    left_unmarked u l x = l.not (m.dropped u l.low x)

    module _ (u : ℕ) (h : u < n) (f : Marked list u → ⊥) where
      l : Left most w n u
      l = unmarked_left u h f

      b : Left most w n (through (store_graph most w) u)
      b = box_left asks_few u l

      pub boxed : Boxed most n w list u
      boxed =
          record {
            within = rw (m.ends u h f) b.low;
            own =
                rw (m.ends u h f)
                (m.ends (through (store_graph most w) u) b.low (left_unmarked (through (store_graph most w) u) b) ∙ box_own asks_few u l);
            few = rw (m.ends u h f) (left_few (through (store_graph most w) u) b);
          }

      plain : is_wire (label_of most w (entry_of list u)) ≡ false
      unfolding store_graph
      plain = rw (m.ends u h f) (go (told (store_graph most w) (through (store_graph most w) u)))
        where
          go : {t : Bool} → Told (store_graph most w) (through (store_graph most w) u) t → t ≡ false
          go (told_wire x) = absurd (box_plain asks_few u l x)
          go (told_plain x) = refl

      inputs : (j : ℕ) → j < count_of most w (entry_of list u) → input_of most w (entry_of list u) j < n
      unfolding store_graph
      inputs = rw (m.ends u h f) (λ j q. (left_input (through (store_graph most w) u) b j q).low)

    pub asks_clean : CleanAsks most n w list
    asks_clean = record { limit = a.limit; words = a.words; room = asks_room; entries = entries; box = boxed }

    -- ---- the cleaned store

    module _ (v : List ℕ) (s : Cleaned most n list w v) where
      pub clean_shaped : Shaped most v
      clean_shaped = cleaned_shaped most n list w asks_clean v s plain inputs

      -- it has the trees of the rows that are not dropped
      pub clean_inputs : (u : ℕ) → u < n → (Marked list u → ⊥) → (j : ℕ) → j < (store_graph most v).count u → Left most w n ((store_graph most v).input u j)
      clean_inputs u h f j q =
          let k : j < (left most w).count u = omega (arith, cleaned_count most n list w v s m.ends u h f) in
          rw (cleaned_input most n list w v s m.ends u h f j k) (left_inputs asks_few u (unmarked_left u h f) j k)

      pub clean_same : (u : ℕ) → u < n → (Marked list u → ⊥) → SameTree (store_graph most v) u (left most w) u
      clean_same =
          cleaned_same most n list w v s m.ends
          (λ u h f j q. let x = clean_inputs u h f j q in (x.low, left_unmarked ((store_graph most v).input u j) x))

module _ (most n : ℕ) (w old v list : List ℕ) (dropped wires cleared : ℕ) (a : MendAsks most n w old) (p : Prepared most n w old v list dropped wires cleared) where
  pub prepared_fill : (cls numbers : List ℕ) → length cls ≡ 1024 → Zeros 1024 numbers → FillAsks most n v list cls numbers
  prepared_fill cls numbers c z =
      record {
        limit = a.limit;
        shaped = clean_shaped most n w old a list p.marked v p.cleaned;
        counted = sym p.cleaned.count;
        classes = c;
        zeros = z;
        entries = omega (arith, a.entries, p.marked.stands.long);
      }
