-- The verdict: its number is the first refusal that applies, there is one, and it depends only on the trees of the starts.
use Prim.Native.Nat.{ℕ, ◌<◌}
use mathlib.Core.Path.{◌≡◌, refl}
use mathlib.Core.List.{List}
use mathlib.Core.Logic.{inl, inr}
use Rattle.std.specs.Prelude.{Result}
use Rattle.rules.specs.Refusals.{First}
use Rattle.trees.specs.Graph.{Graph, Closed}
use Rattle.trees.specs.Agreement.{SameTree}
use Rattle.loops.proofs.SameVerdict.{unlisted_same, unheld_same}
use Rattle.judging.specs.declared.misfit.Misfit.{Misfit}
use Rattle.judging.specs.Verdicts.{SomeMarked, SomeUnlisted, SomeUnheld, verdict_refusals, verdict_number, VerdictSays, says_unlisted, says_unheld, says_fine, StartsAmong}

module _ {g : Graph} {n : ℕ} {starts : List ℕ} where
  pub verdict_first : {r : Result ℕ Misfit} → VerdictSays g n starts r → First (verdict_refusals g n starts) (verdict_number r)
  verdict_first (says_unlisted a) = record { first = inl (a, refl) }
  verdict_first (says_unheld f a) = record { first = inr (f, inl (a, refl)) }
  verdict_first (says_fine f h) = record { first = inr (f, inr (h, refl)) }

  pub verdict_unique : {r t : Result ℕ Misfit} → VerdictSays g n starts r → VerdictSays g n starts t → verdict_number r ≡ verdict_number t
  verdict_unique (says_unlisted a) (says_unlisted b) = refl
  verdict_unique (says_unlisted a) (says_unheld f b) = absurd (f a)
  verdict_unique (says_unlisted a) (says_fine f b) = absurd (f a)
  verdict_unique (says_unheld f a) (says_unlisted b) = absurd (f b)
  verdict_unique (says_unheld f a) (says_unheld h b) = refl
  verdict_unique (says_unheld f a) (says_fine h b) = absurd (b a)
  verdict_unique (says_fine f a) (says_unlisted b) = absurd (f b)
  verdict_unique (says_fine f a) (says_unheld h b) = absurd (a b)
  verdict_unique (says_fine f a) (says_fine h b) = refl

module _ {g h : Graph} {n m : ℕ} {starts others : List ℕ} where
  -- what holds of a start holds of the start that has its tree
  some_same : {P Q : ℕ → Type 0} → ((u v : ℕ) → u < n → v < m → SameTree g u h v → P u → Q v)
      → StartsAmong g n starts h m others → SomeMarked n starts P → SomeMarked m others Q
  some_same f s a =
      let b = s.each a.row a.within a.is.marked in
      record {
        row = b.row;
        within = b.within;
        is = record { marked = b.is.marked; holds = f a.row b.row a.within b.within b.is.holds a.is.holds };
      }

  pub some_unlisted_same : StartsAmong g n starts h m others → SomeUnlisted g n starts → SomeUnlisted h m others
  some_unlisted_same = some_same (λ u v k l t. (unlisted_same t).0)

  pub some_unheld_same : Closed g n → Closed h m → StartsAmong g n starts h m others → SomeUnheld g n starts → SomeUnheld h m others
  some_unheld_same c d = some_same (λ u v k l t. (unheld_same c k d l t).0)

-- starts with the same trees get the same verdict
pub verdict_trees : {g h : Graph} {n m : ℕ} {starts others : List ℕ} {r : Result ℕ Misfit} → Closed g n → Closed h m
    → StartsAmong g n starts h m others → StartsAmong h m others g n starts → VerdictSays g n starts r → VerdictSays h m others r
verdict_trees c d s t (says_unlisted a) = says_unlisted (some_unlisted_same s a)
verdict_trees c d s t (says_unheld f a) = says_unheld (λ b. f (some_unlisted_same t b)) (some_unheld_same c d s a)
verdict_trees c d s t (says_fine f e) = says_fine (λ b. f (some_unlisted_same t b)) (λ b. e (some_unheld_same d c t b))
