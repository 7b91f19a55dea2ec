-- Two graphs that say the same of their first n rows, which are closed: one walk, and rows of different trees in both or in neither.
use Prim.Native.Nat.{ℕ, ◌<◌}
use mathlib.Core.Path.{◌≡◌, refl, sym, ◌∙◌}
use mathlib.Core.Logic.{◌↔◌}
use lib.Seq.{ext_get_or}
use Rattle.trees.specs.Graph.{Graph, Closed}
use Rattle.trees.specs.Agreement.{SameTree, Minimal}
use Rattle.trees.proofs.Agreement.{same_sym, same_trans}
use Rattle.trees.proofs.Matching.{Matching, SaysSame, views_same}
use Rattle.walks.specs.Key.{walk_all}
use Rattle.walks.proofs.Pairing.{OneToOne, paired_single, paired_walk}

-- a row of the first n, and itself
record OneRow (n a b : ℕ) : Type 0 where
  pub within : a < n
  pub one : a ≡ b

one_to_one : (n : ℕ) → OneToOne (OneRow n)
one_to_one n = record { left = λ a b c s t. s.one ∙ sym t.one; right = λ a b c s t. sym s.one ∙ t.one }

moved_minimal : {g h : Graph} {n : ℕ} → ((u : ℕ) → u < n → SameTree g u h u) → Minimal g n → Minimal h n
moved_minimal s m =
    record { apart = λ u v p q t. m.apart u v p q (same_trans (s u p) (same_trans t (same_sym (s v q)))) }

module _ {g h : Graph} {n : ℕ} (c : Closed g n) (s : SaysSame g h n) where
  one_matching : Matching g h (OneRow n)
  one_matching =
      record {
        alike = λ a b r. rw (← r.one) (s.alike a r.within);
        inputs = λ a b r j l. record { within = c.within a j r.within l; one = rw (← r.one) (s.inputs a r.within j l) };
      }

  pub same_walks : (u : ℕ) → u < n → walk_all g n u ≡ walk_all h n u
  same_walks u p =
      let w = paired_walk one_matching (one_to_one n) (paired_single (record { within = p; one = refl })) n in
      ext_get_or 0 (walk_all g n u) (walk_all h n u) w.long (λ i q. (w.each i q).one)

  pub same_minimal : Minimal g n ↔ Minimal h n
  same_minimal = (moved_minimal (views_same c s), moved_minimal (λ u p. same_sym (views_same c s u p)))
