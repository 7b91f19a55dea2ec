-- A sound store is its own mended store.
use Prim.Native.Nat.{ℕ, zero, suc, ◌<◌}
use native.Mathlib.Omega.{arith}
use native.Mathlib.Decide.{dec_lt}
use mathlib.Core.Path.{◌≡◌, refl, sym, ap, ◌∙◌}
use mathlib.Core.Bool.{Bool, false}
use mathlib.Core.List.{List}
use mathlib.Core.Logic.{inl, inr}
use lib.ListN.{get_or}
use lib.Dec.{leb}
use borrow.Author.Tests.{le-ltb, le-leb, lt-leb, eq-eqb}
use Rattle.trees.specs.Graph.{Graph}
use Rattle.trees.specs.Agreement.{SameTree}
use Rattle.trees.proofs.Agreement.{alike_sym, same_sym, same_trans}
use Rattle.trees.proofs.Matching.{SaysSame, views_same}
use Rattle.wires.specs.Wires.{Wire}
use Rattle.wires.proofs.Skipping.{plain_alike, plain_input}
use Rattle.store.specs.Layout.{in_use, count_of, input_of, store_graph}
use Rattle.store.specs.Sound.{Sound}
use Rattle.store.proofs.Graphs.{shaped_closed}
use Rattle.numbering.specs.Numbers.{trees_below, row_number}
use Rattle.numbering.proofs.Counting.{below_all, number_first}
use Rattle.mends.specs.Lowest.{Lowest}
use Rattle.mends.specs.Dropped.{taken, Spoiled, crowded, astray, wired_wrong, looping, Dropped, NoBox, left}
use Rattle.mends.specs.Counts.{tally, total, goes_at, wire_of, wire_at, merged_at, unused_set, cleared_at}
use Rattle.writing.specs.After.{HasRow}
use Rattle.mends.specs.Words.{MendedWords, listed}
use Rattle.mends.specs.Mended.{MendDone}
use Rattle.mends.proofs.Left.{taken_all}
use Rattle.mends.proofs.Listing.{listed_left, entry_listed}
use Rattle.mends.proofs.Words.{mended_one}
use Rattle.mends.proofs.Mending.{mended_sound}

module _ {most : ℕ} {w : List ℕ} {g : Graph} {Gone : ℕ → Type 0} {c : ℕ → ℕ}
    (s : Sound most w) (says : SaysSame (store_graph most w) g (in_use w)) (o : Lowest g (in_use w) Gone c) (none : (u : ℕ) → u < in_use w → Gone u → ⊥) where
  same : (u : ℕ) → u < in_use w → SameTree (store_graph most w) u g u
  same = views_same (shaped_closed most w s.shaped) says

  -- nothing is dropped, and each row is the lowest of its tree
  stays : (u : ℕ) → u < in_use w → c u < in_use w
  stays u h = go (dec_lt (c u) (in_use w))
    where
      go : Dec (c u < in_use w) → c u < in_use w
      go (yes q) = q
      go (no q) = absurd (none u h (o.gone u h (omega arith)))

  pub own : (u : ℕ) → u < in_use w → c u ≡ u
  own u h =
      let l = stays u h in
      s.distinct.apart (c u) u l h (same_trans (same (c u) l) (same_trans (o.has u h l) (same_sym (same u h))))

  all : trees_below c (in_use w) ≡ in_use w
  all = below_all c (in_use w) own

  pub own_number : (u : ℕ) → u < in_use w → row_number c u ≡ u
  own_number u h = number_first c u (own u h) ∙ below_all c u (λ v l. own v (omega arith))

  here : (u : ℕ) → u < in_use w → HasRow most g c u w u
  unfolding store_graph
  here u h =
      let a = says.alike u h in
      let r = s.shaped.rows u h in
      record {
        label = a.labels;
        count = a.counts;
        used = λ j l.
            let k : j < count_of most w u = omega (arith, a.counts) in
            let e = says.inputs u h j k in
            e ∙ sym (rw (sym e) (own_number (input_of most w u j) (r.used j k)));
        unused = λ j l q. r.unused j (omega (arith, a.counts)) q;
      }

  pub sound_mended : MendedWords most g c (in_use w) w w
  sound_mended =
      record {
        long = refl;
        count = sym all;
        kept = λ u h e. rw (below_all c u (λ v l. own v (omega arith))) (here u h);
        freed = λ k l h. let z = rw all at l in absurd (omega arith);
        past = λ k h. refl;
      }

  pub words_unchanged : {v : List ℕ} → MendedWords most g c (in_use w) w v → v ≡ w
  words_unchanged m = mended_one m sound_mended

-- ---- a sound store that is mended

tally_none : (t : ℕ → Bool) (n : ℕ) → ((u : ℕ) → u < n → t u ≡ false) → tally t n ≡ 0
unfolding tally
tally_none t zero e = refl
tally_none t (suc n) e = rw (e n (omega arith)) (omega (arith, tally_none t n (λ u h. e u (omega arith))))

total_none : (f : ℕ → ℕ) (n : ℕ) → ((u : ℕ) → u < n → f u ≡ 0) → total f n ≡ 0
unfolding total
total_none f zero e = refl
total_none f (suc n) e = omega (arith, e n (omega arith), total_none f n (λ u h. e u (omega arith)))

module _ {most : ℕ} {w : List ℕ} (s : Sound most w) where
  sound_plain : (u : ℕ) → u < in_use w → Wire (store_graph most w) u → ⊥
  unfolding store_graph
  sound_plain u h x = let z : ◌≡◌ {A = ℕ} 0 1 = cc (x.is, (s.shaped.rows u h).plain) in omega arith

  sound_says : SaysSame (store_graph most w) (left most w) (in_use w)
  sound_says =
      record {
        alike = λ u h. alike_sym (plain_alike (store_graph most w) u (sound_plain u h));
        inputs = λ u h j l. sym (plain_input (store_graph most w) u (sound_plain u h) j);
      }

  fine : (u : ℕ) → u < in_use w → Spoiled most w (in_use w) u → ⊥
  fine u h (crowded x) = omega (arith, (s.shaped.rows u h).few)
  fine u h (astray {j} x y) = omega (arith, (s.shaped.rows u h).used j x)
  fine u h (wired_wrong x y) = sound_plain u h x
  fine u h (looping x) = sound_plain u h x.wire

  none_dropped : (u : ℕ) → u < in_use w → Dropped most w (in_use w) u → ⊥
  none_dropped u h d = fine d.row d.within d.spoiled

  none_out : (u : ℕ) → u < in_use w → NoBox most w (in_use w) u → ⊥
  none_out u h (inl d) = none_dropped u h d
  none_out u h (inr x) = sound_plain u h x

  all_taken : taken most w ≡ in_use w
  all_taken = taken_all most w s.shaped.fits

  zero_unused : (u : ℕ) → u < in_use w → tally (unused_set most w u) most ≡ 0
  zero_unused u h = tally_none (unused_set most w u) most (λ j l. go j l (dec_lt j (count_of most w u)))
    where
      go : (j : ℕ) → j < most → Dec (j < count_of most w u) → unused_set most w u j ≡ false
      go j l (yes q) = rw (lt-leb (count_of most w u) j q) refl
      go j l (no q) =
          let z = (s.shaped.rows u h).unused j (omega arith) l in
          rw (le-leb (count_of most w u) j (omega arith), eq-eqb (input_of most w u j) 0 z) refl

  module _ {list w' list' : List ℕ} {dropped wires merged cleared : ℕ} (d : MendDone most w list w' list' dropped wires merged cleared) where
    lowest : Lowest (left most w) (in_use w) (Dropped most w (in_use w)) d.class
    lowest = rw all_taken at d.lowest

    boxes : Lowest (left most w) (in_use w) (NoBox most w (in_use w)) d.box
    boxes = rw all_taken at d.boxes

    class_own : (u : ℕ) → u < in_use w → d.class u ≡ u
    class_own = own s sound_says lowest none_dropped

    box_own : (u : ℕ) → u < in_use w → d.box u ≡ u
    box_own = own s sound_says boxes none_out

    -- a sound store is unchanged
    pub sound_unchanged : w' ≡ w
    sound_unchanged = words_unchanged s sound_says lowest none_dropped (rw all_taken at d.stored)

    -- each row keeps its number
    pub sound_numbers : (u : ℕ) → u < in_use w → get_or list' u 0 ≡ u
    sound_numbers u h =
        let e = class_own u h in
        entry_listed (listed (taken most w) d.class) (taken most w) list list' d.long d.listing u (rw all_taken h)
        ∙ ap (λ n. listed n d.class u) all_taken
        ∙ listed_left (in_use w) d.class u (omega arith)
        ∙ own_number s sound_says lowest none_dropped u h

    -- and nothing is counted
    pub sound_counts : (dropped ≡ 0) × (wires ≡ 0) × (merged ≡ 0) × (cleared ≡ 0)
    sound_counts = (drops, wired, merges, clears)
      where
        left_at : (u : ℕ) → u < in_use w → leb (in_use w) (d.class u) ≡ false
        left_at u h = let e = class_own u h in lt-leb (in_use w) (d.class u) (omega arith)

        drops : dropped ≡ 0
        drops = rw all_taken at d.drops ∙ tally_none (goes_at (in_use w) d.class) (in_use w) left_at

        wired : wires ≡ 0
        wired =
            rw all_taken at d.wired
            ∙ tally_none (wire_at (in_use w) d.class (wire_of most w)) (in_use w) (λ u h. rw (left_at u h) (s.shaped.rows u h).plain)

        merges : merged ≡ 0
        merges = rw all_taken at d.merges ∙ tally_none (merged_at d.box) (in_use w) (λ u h. let e = box_own u h in le-ltb (d.box u) u (omega arith))

        clears : cleared ≡ 0
        clears =
            rw all_taken at d.clears
            ∙ total_none (cleared_at most w (in_use w) d.class) (in_use w) (λ u h. rw (left_at u h) (zero_unused u h))

-- mending once more changes nothing
pub mended_again : {most : ℕ} {w list w' list' : List ℕ} {dropped wires merged cleared : ℕ} → MendDone most w list w' list' dropped wires merged cleared
    → {again list₂ list₂' : List ℕ} {dropped₂ wires₂ merged₂ cleared₂ : ℕ} → MendDone most w' list₂ again list₂' dropped₂ wires₂ merged₂ cleared₂ → again ≡ w'
mended_again d e = sound_unchanged (mended_sound d) e
