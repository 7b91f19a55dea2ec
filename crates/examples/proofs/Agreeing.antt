-- Whether two rows agree at a depth, reckoned.
use Prim.Native.Nat.{ℕ, zero, suc}
use mathlib.Core.Path.{◌≡◌}
use mathlib.Core.Bool.{Bool, true, false, ◌&&◌}
use lib.Dec.{eqb}
use Rattle.rules.specs.Answers.{Says}
use Rattle.rules.proofs.Answers.{says_same, said_yes, said_no}
use Rattle.rules.proofs.Tested.{says_equal}
use Rattle.trees.specs.Graph.{Graph}
use Rattle.trees.specs.Agreement.{Alike, Agree, SameTree}
use Rattle.trees.proofs.Agreement.{agree_zero, agree_build, agree_alike, agree_input}
use Rattle.checking.proofs.Deciding.{says_both, all_below, says_all}

unfoldable pub are_alike : Graph → ℕ → Graph → ℕ → Bool
are_alike g u h v = eqb (g.label u) (h.label v) && eqb (g.count u) (h.count v)

unfoldable pub agree_at : ℕ → Graph → ℕ → Graph → ℕ → Bool
agree_at zero g u h v = are_alike g u h v
agree_at (suc k) g u h v = are_alike g u h v && all_below (λ j. agree_at k g (g.input u j) h (h.input v j)) (g.count u)

module _ (g h : Graph) where
  says_alike : (u v : ℕ) → Says (Alike g u h v) (are_alike g u h v)
  unfolding are_alike
  says_alike u v =
      says_same ((λ p. record { labels = p.0; counts = p.1 }), (λ a. (a.labels, a.counts)))
      (says_both (says_equal (g.label u) (h.label v)) (λ l. says_equal (g.count u) (h.count v)))

  pub says_agree : (k u v : ℕ) → Says (Agree k g u h v) (agree_at k g u h v)
  unfolding agree_at
  says_agree zero u v = says_same (agree_zero g h u v, agree_alike g h 0 u v) (says_alike u v)
  says_agree (suc k) u v =
      says_same ((λ p. agree_build g h k u v p.0 p.1), (λ a. (agree_alike g h (suc k) u v a, agree_input g h k u v a)))
      (says_both (says_alike u v) (λ a. says_all (g.count u) (λ j l. says_agree k (g.input u j) (h.input v j))))

module _ (k : ℕ) (g : Graph) (u : ℕ) (h : Graph) (v : ℕ) where
  pub agrees : agree_at k g u h v ≡ true → Agree k g u h v
  agrees e = said_yes (rw e at (says_agree g h k u v))

  pub agrees_not : agree_at k g u h v ≡ false → Agree k g u h v → ⊥
  agrees_not e = said_no (rw e at (says_agree g h k u v))

  -- rows that do not agree at some depth have two trees
  pub two_trees : agree_at k g u h v ≡ false → SameTree g u h v → ⊥
  two_trees e s = agrees_not e (s.agree k)
