-- Laws of agreement at a depth and of the same tree: each is an equivalence across graphs,
-- and rows stand in it when they are alike and their corresponding inputs stand in it.
use Prim.Native.Nat.{ℕ, zero, suc, ◌≤◌, ◌<◌}
use native.Mathlib.Omega.{arith}
use mathlib.Core.Path.{refl, sym, ◌∙◌}
use Rattle.trees.specs.Graph.{Graph}
use Rattle.trees.specs.Agreement.{Alike, Agree, SameTree}

-- ---- rows that are alike

pub alike_refl : (g : Graph) (u : ℕ) → Alike g u g u
alike_refl g u = record { labels = refl; counts = refl }

pub alike_sym : {g h : Graph} {u v : ℕ} → Alike g u h v → Alike h v g u
alike_sym a = record { labels = sym a.labels; counts = sym a.counts }

pub alike_trans : {g h i : Graph} {u v w : ℕ} → Alike g u h v → Alike h v i w → Alike g u i w
alike_trans a b = record { labels = a.labels ∙ b.labels; counts = a.counts ∙ b.counts }

-- ---- the two clauses of agreement: no other file unfolds it

module _ (g h : Graph) where
  pub agree_zero : (u v : ℕ) → Alike g u h v → Agree 0 g u h v
  unfolding Agree
  agree_zero u v a = a

  pub agree_build : (k u v : ℕ) → Alike g u h v → ((j : ℕ) → j < g.count u → Agree k g (g.input u j) h (h.input v j)) → Agree (suc k) g u h v
  unfolding Agree
  agree_build k u v a f = (a, f)

  pub agree_input : (k u v : ℕ) → Agree (suc k) g u h v → (j : ℕ) → j < g.count u → Agree k g (g.input u j) h (h.input v j)
  unfolding Agree
  agree_input k u v a = a.1

  pub agree_alike : (k u v : ℕ) → Agree k g u h v → Alike g u h v
  unfolding Agree
  agree_alike zero u v a = a
  agree_alike (suc k) u v a = a.0

  -- ---- a greater depth says more

  pub agree_less : (m k u v : ℕ) → m ≤ k → Agree k g u h v → Agree m g u h v
  agree_less zero k u v l a = agree_zero u v (agree_alike k u v a)
  agree_less (suc m) zero u v l a = absurd (omega arith)
  agree_less (suc m) (suc k) u v l a =
      agree_build m u v (agree_alike (suc k) u v a)
      (λ j lj. agree_less m k (g.input u j) (h.input v j) (omega arith) (agree_input k u v a j lj))

-- ---- agreement at each depth is an equivalence

pub agree_refl : (g : Graph) (k u : ℕ) → Agree k g u g u
agree_refl g zero u = agree_zero g g u u (alike_refl g u)
agree_refl g (suc k) u = agree_build g g k u u (alike_refl g u) (λ j l. agree_refl g k (g.input u j))

pub agree_sym : (g h : Graph) (k u v : ℕ) → Agree k g u h v → Agree k h v g u
agree_sym g h zero u v a = agree_zero h g v u (alike_sym (agree_alike g h 0 u v a))
agree_sym g h (suc k) u v a =
    let b = agree_alike g h (suc k) u v a in
    agree_build h g k v u (alike_sym b) (λ j l. agree_sym g h k (g.input u j) (h.input v j) (agree_input g h k u v a j (omega arith)))

pub agree_trans : (g h i : Graph) (k u v w : ℕ) → Agree k g u h v → Agree k h v i w → Agree k g u i w
agree_trans g h i zero u v w a b = agree_zero g i u w (alike_trans (agree_alike g h 0 u v a) (agree_alike h i 0 v w b))
agree_trans g h i (suc k) u v w a b =
    let c = agree_alike g h (suc k) u v a in
    agree_build g i k u w (alike_trans c (agree_alike h i (suc k) v w b))
    (λ j l. agree_trans g h i k (g.input u j) (h.input v j) (i.input w j) (agree_input g h k u v a j l) (agree_input h i k v w b j (omega arith)))

-- ---- the same tree

pub same_refl : (g : Graph) (u : ℕ) → SameTree g u g u
same_refl g u = record { agree = λ k. agree_refl g k u }

pub same_sym : {g h : Graph} {u v : ℕ} → SameTree g u h v → SameTree h v g u
same_sym {g} {h} {u} {v} s = record { agree = λ k. agree_sym g h k u v (s.agree k) }

pub same_trans : {g h i : Graph} {u v w : ℕ} → SameTree g u h v → SameTree h v i w → SameTree g u i w
same_trans {g} {h} {i} {u} {v} {w} s t = record { agree = λ k. agree_trans g h i k u v w (s.agree k) (t.agree k) }

module _ {g h : Graph} {u v : ℕ} where
  pub same_alike : SameTree g u h v → Alike g u h v
  same_alike s = agree_alike g h 0 u v (s.agree 0)

  pub same_input : SameTree g u h v → (j : ℕ) → j < g.count u → SameTree g (g.input u j) h (h.input v j)
  same_input s j l = record { agree = λ k. agree_input g h k u v (s.agree (suc k)) j l }

  -- rows that are alike and whose corresponding inputs have the same trees have the same tree
  pub same_back : Alike g u h v → ((j : ℕ) → j < g.count u → SameTree g (g.input u j) h (h.input v j)) → SameTree g u h v
  same_back a s = record { agree = go }
    where
      go : (k : ℕ) → Agree k g u h v
      go zero = agree_zero g h u v a
      go (suc k) = agree_build g h k u v a (λ j l. (s j l).agree k)
