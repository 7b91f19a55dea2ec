-- The classes of n rows, reckoned: rounds from one class for all rows, until a round moves nothing.
use Prim.Native.Nat.{ℕ, zero, suc}
use mathlib.Core.Path.{◌≡◌, refl}
use mathlib.Core.Bool.{Bool, true, false, ◌&&◌}
use mathlib.Core.List.{List}
use lib.Dec.{eqb}
use Rattle.rules.specs.Pick.{pick}
use Rattle.rules.specs.Lists.{firsts}
use Rattle.rules.specs.Answers.{Says}
use Rattle.rules.proofs.Answers.{says_same, said_yes, said_no}
use Rattle.rules.proofs.Lists.{firsts_at}
use Rattle.rules.proofs.Tested.{says_equal}
use Rattle.trees.specs.Graph.{Graph}
use Rattle.rounds.specs.Rounds.{Together, LowestWith, Refined}
use Rattle.rounds.proofs.Rounds.{together_refl}
use Rattle.rounds.specs.Classes.{class_of}
use Rattle.checking.proofs.Deciding.{says_both, all_below, says_all, lowest, lowest_passes}

-- ---- a round

-- whether row w goes with row u: one old class, one label, one input count, and inputs of one class each
unfoldable pub goes_with : Graph → (ℕ → ℕ) → (w u : ℕ) → Bool
goes_with g c w u =
    eqb (c w) (c u)
    && (eqb (g.label w) (g.label u)
    && (eqb (g.count w) (g.count u) && all_below (λ j. eqb (c (g.input w j)) (c (g.input u j))) (g.count w)))

unfoldable pub round_of : Graph → (ℕ → ℕ) → ℕ → ℕ
round_of g c u = lowest (λ w. goes_with g c w u) u

unfoldable pub next_classes : Graph → ℕ → List ℕ → List ℕ
next_classes g n cls = firsts (round_of g (class_of cls)) n

module _ (g : Graph) (c : ℕ → ℕ) where
  pub says_together : (w u : ℕ) → Says (Together g c w u) (goes_with g c w u)
  unfolding goes_with
  says_together w u =
      says_same (
        (λ p. record { old = p.0; sig = record { alike = record { labels = p.1.0; counts = p.1.1.0 }; inputs = p.1.1.1 } }),
        (λ t. (t.old, (t.sig.alike.labels, (t.sig.alike.counts, t.sig.inputs)))),
      )
      (says_both (says_equal (c w) (c u))
      (λ o. says_both (says_equal (g.label w) (g.label u))
      (λ l. says_both (says_equal (g.count w) (g.count u))
      (λ k. says_all (g.count w) (λ j h. says_equal (c (g.input w j)) (c (g.input u j)))))))

  round_lowest : (u : ℕ) → LowestWith g c u (round_of g c u)
  unfolding round_of
  round_lowest u = go (goes_with g c u u) refl (says_together u u)
    where
      found : goes_with g c u u ≡ true → LowestWith g c u (lowest (λ w. goes_with g c w u) u)
      found e =
          let l = lowest_passes (λ w. goes_with g c w u) u e in
          record {
            goes = said_yes (rw l.passes at (says_together (lowest (λ w. goes_with g c w u) u) u));
            least = λ w h. said_no (rw (l.before w h) at (says_together w u));
          }

      go : (t : Bool) → goes_with g c u u ≡ t → Says (Together g c u u) t → LowestWith g c u (lowest (λ w. goes_with g c w u) u)
      go true e s = found e
      go false e s = absurd (said_no s (together_refl u))

pub next_refined : (g : Graph) (n : ℕ) (cls : List ℕ) → Refined g (class_of cls) n (class_of (next_classes g n cls))
unfolding next_classes
next_refined g n cls =
    record { each = λ u h. rw (firsts_at (round_of g (class_of cls)) n u h) (round_lowest g (class_of cls) u) }

-- ---- rounds until nothing moves

unfoldable pub still_so : ℕ → List ℕ → List ℕ → Bool
still_so n cls next = all_below (λ u. eqb (class_of next u) (class_of cls u)) n

-- the rest waits until it is asked for
unfoldable pub settled : Graph → (n fuel : ℕ) → List ℕ → List ℕ
settled g n zero cls = cls
settled g n (suc k) cls =
    let rest = settled g n k (next_classes g n cls) in pick (still_so n cls (next_classes g n cls)) cls rest

-- all rows in class 0
abbrev pub class_of_one : ℕ → ℕ
class_of_one u = 0

unfoldable pub classes_of : Graph → ℕ → List ℕ
classes_of g n = settled g n (suc n) (firsts class_of_one n)
