-- The rounds end: each that moves a row makes a class more, and there are never more classes than rows, so that n rounds and one
-- to see that nothing moves are enough. Then one class is one tree.
use Prim.Native.Nat.{ℕ, zero, suc, ◌+◌, ◌≤◌, ◌<◌}
use native.Mathlib.Omega.{arith}
use native.Mathlib.Numerals.{add-one}
use native.Mathlib.Decide.{dec_lt, ℕ_discrete}
use mathlib.Core.Path.{◌≡◌, sym, ◌∙◌}
use mathlib.Core.Bool.{Bool, true, false}
use mathlib.Core.List.{List}
use Rattle.rules.specs.Pick.{pick}
use Rattle.rules.specs.Lists.{firsts}
use Rattle.rules.specs.Answers.{Says}
use Rattle.rules.proofs.Answers.{said_yes, said_no}
use Rattle.rules.proofs.Lists.{firsts_at}
use Rattle.rules.proofs.Tested.{says_equal}
use Rattle.trees.specs.Graph.{Graph, Closed}
use Rattle.trees.specs.Sorting.{Coarse, Sorted}
use Rattle.rounds.specs.Rounds.{Refined, Lowered}
use Rattle.rounds.proofs.Rounds.{refined_low, refined_up, refined_lowered, refined_coarse, still_stable, sorted_of, zero_lowered, zero_coarse}
use Rattle.rounds.specs.Classes.{class_of}
use Rattle.numbering.specs.Numbers.{trees_below}
use Rattle.numbering.proofs.Counting.{below_none, below_first, below_known, below_most}
use Rattle.checking.proofs.Deciding.{says_all}
use Rattle.checking.proofs.Rounds.{next_classes, next_refined, still_so, settled, class_of_one, classes_of}

-- ---- a round that moves a row makes a class more

own_counts : (c : ℕ → ℕ) (n : ℕ) → c n ≡ n → trees_below c (suc n) ≡ trees_below c n + 1
own_counts c n e = rw (add-one n) at (below_first c n e)

other_counts : (c : ℕ → ℕ) (n : ℕ) → (c n ≡ n → ⊥) → trees_below c (suc n) ≡ trees_below c n
other_counts c n e = rw (add-one n) at (below_known c n e)

-- rows that are their own class stay so
record Kept (c d : ℕ → ℕ) (n : ℕ) : Type 0 where
  pub stays : (u : ℕ) → u < n → c u ≡ u → d u ≡ u

module _ (c d : ℕ → ℕ) where
  -- k classes more below row n are k more below the next row
  still_more : (k n : ℕ) → (c n ≡ n → d n ≡ n) → trees_below c n + k ≤ trees_below d n → trees_below c (suc n) + k ≤ trees_below d (suc n)
  still_more k n stay l = go (ℕ_discrete (c n) n) (ℕ_discrete (d n) n)
    where
      go : Dec (c n ≡ n) → Dec (d n ≡ n) → trees_below c (suc n) + k ≤ trees_below d (suc n)
      go (yes p) (yes q) = omega (arith, own_counts c n p, own_counts d n q)
      go (yes p) (no q) = absurd (q (stay p))
      go (no p) (yes q) = omega (arith, other_counts c n p, own_counts d n q)
      go (no p) (no q) = omega (arith, other_counts c n p, other_counts d n q)

  never_fewer : (n : ℕ) → Kept c d n → trees_below c n + 0 ≤ trees_below d n
  never_fewer zero s = omega (arith, below_none c)
  never_fewer (suc n) s =
      still_more 0 n (s.stays n (omega arith)) (never_fewer n (record { stays = λ u h. s.stays u (omega arith) }))

  one_more : (n v : ℕ) → Kept c d n → v < n → d v ≡ v → (c v ≡ v → ⊥) → trees_below c n + 1 ≤ trees_below d n
  one_more zero v s h p q = absurd (omega arith)
  one_more (suc n) v s h p q = go (dec_lt v n) (λ l. one_more n v less l p q)
    where
      less : Kept c d n
      less = record { stays = λ u l. s.stays u (omega arith) }

      go : Dec (v < n) → (v < n → trees_below c n + 1 ≤ trees_below d n) → trees_below c (suc n) + 1 ≤ trees_below d (suc n)
      go (yes l) ih = still_more 1 n (s.stays n (omega arith)) (ih l)
      go (no l) ih =
          let e : v ≡ n = omega arith in
          omega (arith, never_fewer n less, other_counts c n (rw e at q), own_counts d n (rw e at p))

  -- the class that a moved row has now is one that was none before
  moved_more : {g : Graph} {n : ℕ} → Lowered n c → Refined g c n d → (w : ℕ) → w < n → (d w ≡ c w → ⊥) → trees_below c n + 1 ≤ trees_below d n
  moved_more {n = n} l r w h f =
      let b = refined_low r w h in
      one_more n (d w)
      (record { stays = λ u k e. omega (arith, refined_up r l u k, refined_low r u k) })
      (omega arith)
      ((refined_lowered r).own w h)
      (λ e. f (sym e ∙ (r.each w h).goes.old))

  -- so a round that makes no class more moves no row
  unmoved : {g : Graph} {n : ℕ} → Lowered n c → Refined g c n d → (trees_below c n < trees_below d n → ⊥) → (u : ℕ) → u < n → d u ≡ c u
  unmoved l r same u h = go (ℕ_discrete (d u) (c u))
    where
      go : Dec (d u ≡ c u) → d u ≡ c u
      go (yes e) = e
      go (no e) = absurd (same (omega (arith, moved_more l r u h e)))

-- ---- the rounds end, and with them the rows are sorted

says_still : (n : ℕ) (cls next : List ℕ) → Says ((u : ℕ) → u < n → class_of next u ≡ class_of cls u) (still_so n cls next)
unfolding still_so
says_still n cls next = says_all n (λ u h. says_equal (class_of next u) (class_of cls u))

module _ (g : Graph) (n : ℕ) (closed : Closed g n) where
  -- the rounds left and the classes there are exceed the rows
  settled_sorted : (fuel : ℕ) (cls : List ℕ) → Lowered n (class_of cls) → Coarse g n (class_of cls) → n < fuel + trees_below (class_of cls) n → Sorted g n (class_of (settled g n fuel cls))
  unfolding settled
  settled_sorted zero cls l k enough = absurd (omega (arith, below_most (class_of cls) n))
  settled_sorted (suc fuel) cls l k enough =
      go (still_so n cls next) (says_still n cls next)
      (dec_lt (trees_below (class_of cls) n) (trees_below (class_of next) n))
      (λ more. settled_sorted fuel next (refined_lowered r) (refined_coarse r closed k) (omega arith))
    where
      next : List ℕ
      next = next_classes g n cls

      r : Refined g (class_of cls) n (class_of next)
      r = next_refined g n cls

      More : Type 0
      More = trees_below (class_of cls) n < trees_below (class_of next) n

      go : (t : Bool) → Says ((u : ℕ) → u < n → class_of next u ≡ class_of cls u) t → Dec More → (More → Sorted g n (class_of (settled g n fuel next))) → Sorted g n (class_of (pick t cls (settled g n fuel next)))
      go true s d rest = sorted_of closed l k (still_stable r (said_yes s))
      go false s (yes more) rest = rest more
      go false s (no same) rest = absurd (said_no s (unmoved (class_of cls) (class_of next) l r same))

  pub classes_sorted : Sorted g n (class_of (classes_of g n))
  unfolding classes_of
  classes_sorted =
      let z = firsts_at class_of_one n in
      settled_sorted (suc n) (firsts class_of_one n)
      (zero_lowered n (class_of (firsts class_of_one n)) z)
      (zero_coarse n (class_of (firsts class_of_one n)) z g)
      (omega arith)
