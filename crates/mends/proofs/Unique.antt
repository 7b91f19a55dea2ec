-- A store is mended in one way: two outcomes have the same words, the same list and the same counts.
use Prim.Native.Nat.{ℕ, zero, suc, ◌≤◌, ◌<◌}
use native.Mathlib.Omega.{arith}
use native.Mathlib.Decide.{dec_lt}
use mathlib.Core.Path.{◌≡◌, refl, sym, ap, ◌∙◌}
use mathlib.Core.Bool.{Bool, false}
use mathlib.Core.List.{List}
use lib.Dec.{leb, ltb}
use Rattle.rules.specs.Pick.{pick}
use Rattle.rules.specs.Writes.{over_front}
use Rattle.rules.proofs.Lists.{firsts_same}
use Rattle.trees.specs.Graph.{Graph}
use Rattle.numbering.specs.Numbers.{trees_below, row_number}
use Rattle.mends.specs.Dropped.{taken}
use Rattle.mends.specs.Counts.{tally, total, goes_at, wire_of, wire_at, merged_at, unused_set, cleared_at}
use Rattle.writing.specs.After.{HasRow}
use Rattle.mends.specs.Words.{MendedWords, listed}
use Rattle.mends.specs.Mended.{MendDone}
use Rattle.mends.proofs.Lowest.{lowest_one}
use Rattle.mends.proofs.Left.{taken_few}
use Rattle.mends.proofs.Listing.{listed_gone, listed_left}
use Rattle.mends.proofs.Words.{mended_one}
use Rattle.mends.proofs.Mending.{left_closed}

-- ---- what is counted depends on the first n values only

pub tally_same : (s t : ℕ → Bool) (n : ℕ) → ((u : ℕ) → u < n → s u ≡ t u) → tally s n ≡ tally t n
unfolding tally
tally_same s t zero e = refl
tally_same s t (suc n) e = rw (tally_same s t n (λ u h. e u (omega arith)), e n (omega arith)) refl

pub total_same : (f g : ℕ → ℕ) (n : ℕ) → ((u : ℕ) → u < n → f u ≡ g u) → total f n ≡ total g n
unfolding total
total_same f g zero e = refl
total_same f g (suc n) e = rw (total_same f g n (λ u h. e u (omega arith)), e n (omega arith)) refl

below_same : (c d : ℕ → ℕ) (n : ℕ) → ((u : ℕ) → u < n → c u ≡ d u) → trees_below c n ≡ trees_below d n
unfolding trees_below
below_same c d zero e = refl
below_same c d (suc n) e = rw (below_same c d n (λ u h. e u (omega arith)), e n (omega arith)) refl

module _ {c d : ℕ → ℕ} {n : ℕ} (e : (u : ℕ) → u < n → c u ≡ d u) where
  below_too : (m : ℕ) → m ≤ n → trees_below c m ≡ trees_below d m
  below_too m h = below_same c d m (λ u l. e u (omega arith))

  number_too : (u : ℕ) → u < n → c u < n → row_number c u ≡ row_number d u
  unfolding row_number
  number_too u h l = below_too (c u) (omega arith) ∙ ap (trees_below d) (e u h)

  listed_too : (u : ℕ) → u < n → listed n c u ≡ listed n d u
  listed_too u h = go (dec_lt (c u) n)
    where
      q : c u ≡ d u
      q = e u h

      go : Dec (c u < n) → listed n c u ≡ listed n d u
      go (yes l) = listed_left n c u l ∙ number_too u h l ∙ sym (listed_left n d u (omega (arith, q)))
      go (no l) = listed_gone n c u (omega arith) ∙ sym (listed_gone n d u (omega (arith, q)))

  -- rows left have the same words by either choice
  words_too : {most : ℕ} {g : Graph} {w v : List ℕ} → ((u j : ℕ) → u < n → c u < n → j < g.count u → (g.input u j < n) × (c (g.input u j) < n))
      → MendedWords most g d n w v → MendedWords most g c n w v
  words_too {most} {g} {w} {v} closed m =
      record {
        long = m.long;
        count = m.count ∙ sym (below_too n (omega arith));
        kept = λ u h q. rw (below_too u (omega arith)) (row u h q (m.kept u h (sym (e u h) ∙ q)));
        freed = λ k h l. m.freed k (rw (below_too n (omega arith)) at h) l;
        past = m.past;
      }
    where
      row : (u : ℕ) → u < n → c u ≡ u → HasRow most g d u v (trees_below d u) → HasRow most g c u v (trees_below d u)
      row u h q r =
          record {
            label = r.label;
            count = r.count;
            used = λ j l. let x = closed u j h (omega arith) l in r.used j l ∙ sym (number_too (g.input u j) x.0 x.1);
            unused = r.unused;
          }

-- two outcomes are one
pub record SameMend (w₁ list₁ : List ℕ) (dropped₁ wires₁ merged₁ cleared₁ : ℕ) (w₂ list₂ : List ℕ) (dropped₂ wires₂ merged₂ cleared₂ : ℕ) : Type 0 where
  pub words : w₁ ≡ w₂
  pub lists : list₁ ≡ list₂
  pub drops : dropped₁ ≡ dropped₂
  pub wired : wires₁ ≡ wires₂
  pub merges : merged₁ ≡ merged₂
  pub clears : cleared₁ ≡ cleared₂

pub done_one : {most : ℕ} {w list w₁ list₁ w₂ list₂ : List ℕ} {dropped₁ wires₁ merged₁ cleared₁ dropped₂ wires₂ merged₂ cleared₂ : ℕ}
    → MendDone most w list w₁ list₁ dropped₁ wires₁ merged₁ cleared₁ → MendDone most w list w₂ list₂ dropped₂ wires₂ merged₂ cleared₂
    → SameMend w₁ list₁ dropped₁ wires₁ merged₁ cleared₁ w₂ list₂ dropped₂ wires₂ merged₂ cleared₂
done_one {most} {w} {list} a b =
    record {
      words = mended_one a.stored (words_too class (left_closed (taken_few most w) a.lowest) b.stored);
      lists = a.listing ∙ ap (λ l. over_front l list) (firsts_same (listed n a.class) (listed n b.class) n (listed_too class)) ∙ sym b.listing;
      drops = a.drops ∙ tally_same (goes_at n a.class) (goes_at n b.class) n (λ u h. ap (leb n) (class u h)) ∙ sym b.drops;
      wired = a.wired ∙ tally_same (wire_at n a.class (wire_of most w)) (wire_at n b.class (wire_of most w)) n (λ u h. ap (λ x. pick (leb n x) false (wire_of most w u)) (class u h)) ∙ sym b.wired;
      merges = a.merges ∙ tally_same (merged_at a.box) (merged_at b.box) n (λ u h. ap (λ x. ltb x u) (lowest_one a.boxes b.boxes u h)) ∙ sym b.merges;
      clears = a.clears ∙ total_same (cleared_at most w n a.class) (cleared_at most w n b.class) n (λ u h. ap (λ x. pick (leb n x) 0 (tally (unused_set most w u) most)) (class u h)) ∙ sym b.clears;
    }
  where
    n : ℕ
    n = taken most w

    class : (u : ℕ) → u < n → a.class u ≡ b.class u
    class = lowest_one a.lowest b.lowest
