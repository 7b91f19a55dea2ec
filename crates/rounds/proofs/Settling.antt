-- Round after round: the new classes are taken over until nothing moves, and then one class is one tree.
use Prim.Native.Nat.{ℕ, ◌≤◌, ◌<◌}
use native.Mathlib.Omega.{arith}
use native.Mathlib.Decide.{dec_lt}
use mathlib.Core.Path.{◌≡◌, refl, sym, ap, ◌∙◌}
use mathlib.Core.List.{List, []}
use lib.ListN.{length, get_or, replicate}
use lib.Seq.{ext_get_or}
use Rattle.rules.specs.Lists.{firsts}
use Rattle.rules.specs.Writes.{over_front}
use Rattle.rules.proofs.Lists.{firsts_length, firsts_at}
use Rattle.rules.proofs.Writes.{over_length, over_front_lem, over_past}
use Rattle.trees.specs.Graph.{Graph, Closed}
use Rattle.trees.specs.Sorting.{Coarse, Sorted}
use Rattle.trees.proofs.Agreement.{same_refl, same_sym}
use Rattle.rounds.specs.Rounds.{Lowered}
use Rattle.rounds.proofs.Rounds.{refined_low, refined_up, refined_lowered, refined_coarse, still_stable, sorted_of, zero_lowered, zero_coarse}
use Rattle.rounds.specs.Classes.{class_of, Stands}
use Rattle.rounds.specs.Ending.{spread}
use Rattle.rounds.proofs.Ending.{spread_same, spread_falls}
use Rattle.rounds.specs.Placing.{InRound}
use Rattle.rounds.proofs.Placing.{round_stale, stale_same, stale_first}
use Rattle.rounds.specs.Settling.{Sorting}

pub stands_refl : (n : ℕ) (l : List ℕ) → Stands n l l
stands_refl n l = record { same = refl; past = λ i h. refl }

pub stands_trans : {n : ℕ} {a b c : List ℕ} → Stands n a b → Stands n b c → Stands n a c
stands_trans p q = record { same = q.same ∙ p.same; past = λ i h. q.past i h ∙ p.past i h }

-- ---- classes with the same first values

module _ {n : ℕ} {c d : ℕ → ℕ} (same : (u : ℕ) → u < n → d u ≡ c u) where
  lowered_same : Lowered n c → Lowered n d
  lowered_same l =
      record {
        low = λ u h. omega (arith, same u h, l.low u h);
        own = λ u h.
            let b = l.low u h in
            ap d (same u h) ∙ same (c u) (omega arith) ∙ l.own u h ∙ sym (same u h);
      }

  coarse_same : {g : Graph} → Coarse g n c → Coarse g n d
  coarse_same k = record { together = λ u v h i s. same u h ∙ k.together u v h i s ∙ sym (same v i) }

-- ---- the new classes of n rows taken over

taken : (n : ℕ) → List ℕ → List ℕ → List ℕ
taken n new cls = over_front (firsts (class_of new) n) cls

module _ (n : ℕ) (new cls : List ℕ) (long : n ≤ length cls) where
  fits : length (firsts (class_of new) n) ≤ length cls
  fits = omega (arith, firsts_length (class_of new) n)

  taken_at : (u : ℕ) → u < n → class_of (taken n new cls) u ≡ class_of new u
  unfolding taken
  taken_at u h =
      over_front_lem (firsts (class_of new) n) cls fits u 0 (omega (arith, firsts_length (class_of new) n)) ∙ firsts_at (class_of new) n u h

  pub taken_stands : Stands n cls (over_front (firsts (class_of new) n) cls)
  taken_stands =
      record {
        same = over_length (firsts (class_of new) n) cls fits;
        past = λ i h. over_past (firsts (class_of new) n) cls fits i 0 (omega (arith, firsts_length (class_of new) n));
      }

-- ---- the loop

-- all rows in class 0
pub sorting_begin : (g : Graph) (n : ℕ) (old cls new links : List ℕ) → n ≤ 2048 → n ≤ length old → n ≤ length new → links ≡ replicate 4096 0 → cls ≡ over_front (firsts (class_of []) n) old → Sorting g n old cls new links
unfolding taken
sorting_begin g n old cls new links m a b d e =
    let st : Stands n old cls = rw e (taken_stands n [] old a) in
    let z : (u : ℕ) → u < n → class_of cls u ≡ 0 = zeros in
    record {
      classes = record { long = omega (arith, st.same); few = m; lowered = zero_lowered n (class_of cls) z };
      coarse = zero_coarse n (class_of cls) z g;
      new_long = b;
      stale = stale_first n cls links d (λ h. z 0 h);
      stands = st;
    }
  where
    zeros : (u : ℕ) → u < n → class_of cls u ≡ 0
    zeros u h = rw e (taken_at n [] old a u h)

module _ (g : Graph) (n : ℕ) (old cls new links new' links' : List ℕ) (closed : Closed g n) (s : Sorting g n old cls new links) (r : InRound g n cls new' links' n) where
  pub sorting_still : ((u : ℕ) → u < n → class_of new' u ≡ class_of cls u) → Sorted g n (class_of cls)
  sorting_still e = sorted_of closed s.classes.lowered s.coarse (still_stable r.refined e)

  module _ (cls' : List ℕ) (t : cls' ≡ over_front (firsts (class_of new') n) cls) where
    at : (u : ℕ) → u < n → class_of cls' u ≡ class_of new' u
    unfolding taken
    at u h = rw t (taken_at n new' cls s.classes.long u h)

    pub sorting_again : Sorting g n old cls' new' links'
    sorting_again =
        let st : Stands n cls cls' = rw t (taken_stands n new' cls s.classes.long) in
        record {
          classes =
              record {
                long = omega (arith, st.same, s.classes.long);
                few = s.classes.few;
                lowered = lowered_same at (refined_lowered r.refined);
              };
          coarse = coarse_same at (refined_coarse r.refined closed s.coarse);
          new_long = r.new_long;
          stale = stale_same n new' cls' links' at (round_stale g n cls new' links' s.classes r);
          stands = stands_trans s.stands st;
        }

    pub sorting_less : (w : ℕ) → w < n → (class_of new' w ≡ class_of cls w → ⊥) → spread n (class_of cls') < spread n (class_of cls)
    sorting_less w h f =
        rw (spread_same n (class_of new') (class_of cls') at)
        (spread_falls n (class_of cls) (class_of new')
        (record { up = refined_up r.refined s.classes.lowered; low = refined_low r.refined })
        w h f)

-- ---- one outcome

-- sorted classes are the only ones
pub sorted_class : {g : Graph} {n : ℕ} {c d : ℕ → ℕ} → Sorted g n c → Sorted g n d → (u : ℕ) → u < n → c u ≡ d u
sorted_class {g} {n} {c} {d} p q u h =
    let a = p.lowest u (d u) h (inside d q) (same_sym (q.has u h)) in
    let b = q.lowest u (c u) h (inside c p) (same_sym (p.has u h)) in
    omega arith
  where
    inside : (e : ℕ → ℕ) → Sorted g n e → e u < n
    inside e s = let l = s.lowest u u h h (same_refl g u) in omega arith

pub sorted_unique : {g : Graph} {n : ℕ} (old a b : List ℕ) → Sorted g n (class_of a) → Stands n old a → Sorted g n (class_of b) → Stands n old b → a ≡ b
sorted_unique {g} {n} old a b p s q t = ext_get_or 0 a b (s.same ∙ sym t.same) (λ i h. go i (dec_lt i n))
  where
    go : (i : ℕ) → Dec (i < n) → get_or a i 0 ≡ get_or b i 0
    go i (yes h) = sorted_class p q i h
    go i (no h) = s.past i (omega arith) ∙ sym (t.past i (omega arith))
