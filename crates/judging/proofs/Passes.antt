-- Passes over all rows by a rule, until none goes on: what one look adds to those before it, and that passes end.
use Prim.Native.Nat.{ℕ, zero, suc, ◌+◌, ◌-◌, ◌≤◌, ◌<◌}
use native.Mathlib.Omega.{arith}
use native.Mathlib.Decide.{dec_lt}
use mathlib.Core.Path.{◌≡◌, refl, ◌∙◌}
use mathlib.Core.Bool.{Bool, true, false}
use mathlib.Core.List.{List, [], ◌∷◌}
use mathlib.Core.Logic.{◌⊎◌, inl, inr}
use lib.ListN.{length, get_or, set}
use Rattle.rows.specs.Joined.{Source}
use Rattle.judging.specs.Verdicts.{state_of}
use Rattle.judging.specs.Stated.{Stated}
use Rattle.judging.specs.Moves.{Rule, Moved, moved_none, moved_more, rest, Looked, looked_moved, looked_quiet, SettledFrom}

-- ---- a row that goes on

rest_falls : (l : List ℕ) (u k : ℕ) → u < length l → get_or l u 0 ≡ k → k < 2 → rest (set l u (suc k)) < rest l
unfolding rest
rest_falls [] u k h e q = absurd (omega arith)
rest_falls (x ∷ l) zero k h e q = omega arith
rest_falls (x ∷ l) (suc u) k h e q = let i = rest_falls l u k (omega arith) e q in omega arith

pub moved_on : {rule : Rule} {a b c : List ℕ} → Moved rule a b → Moved rule b c → Moved rule a c
moved_on s moved_none = s
moved_on s (moved_more t h e p) = moved_more (moved_on s t) h e p

pub looked_one : {rule : Rule} {old : List ℕ} {a b u : ℕ} → u < length old → state_of old u ≡ rule.from → rule.may old u
    → Looked rule old a b (set old u (suc rule.from)) true
looked_one {rule} {old} {u = u} h e p = looked_moved (moved_more moved_none h e p) (rest_falls old u rule.from h e rule.low)

-- ---- a pass

-- of n places those from a up to b have been looked at
pub record Passing (rule : Rule) (n : ℕ) (old : List ℕ) (a b : ℕ) (state : List ℕ) (moved : Bool) : Type 0 where
  pub low : a ≤ b
  pub high : b ≤ n
  pub same : length state ≡ length old
  pub looked : Looked rule old a b state moved

module _ {rule : Rule} {old state new : List ℕ} {a b c d e f : ℕ} where
  join_moved : {moved : Bool} → Looked rule old a b state moved → Looked rule state c d new true → Looked rule old e f new true
  join_moved (looked_moved t l) (looked_moved q k) = looked_moved (moved_on t q) (omega arith)
  join_moved (looked_quiet t i) (looked_moved q k) = looked_moved (rw i at q) (rw i at k)

  join_kept : {moved : Bool} → ((k : ℕ) → e ≤ k → k < f → ((a ≤ k) × (k < b)) ⊎ ((c ≤ k) × (k < d)))
      → Looked rule old a b state moved → Looked rule state c d new false → Looked rule old e f new moved
  join_kept cover (looked_moved t l) (looked_quiet q i) = rw i (looked_moved t l)
  join_kept cover (looked_quiet t j) (looked_quiet q i) = looked_quiet (λ k x y. go k (cover k x y)) (i ∙ j)
    where
      go : (k : ℕ) → ((a ≤ k) × (k < b)) ⊎ ((c ≤ k) × (k < d)) → rule.quiet old k
      go k (inl x) = t k x.0 x.1
      go k (inr x) = rw j at (q k x.0 x.1)

module _ (rule : Rule) (n : ℕ) (old : List ℕ) where
  pub passing_last : (a : ℕ) → a ≡ n → Passing rule n old a n old false
  passing_last a e = record { low = omega arith; high = omega arith; same = refl; looked = looked_quiet (λ k x y. absurd (omega arith)) refl }

  module _ (a b : ℕ) (state : List ℕ) (moved : Bool) (s : Passing rule n old a b state moved) where
    pub passing_stated : (w : Source) (table : List ℕ) → Stated w table old → Stated w table state
    passing_stated w table t = record { view = t.view; long = omega (arith, t.long, s.same) }

    pub passing_row : (c : ℕ) → c < a → a - 1 < n
    passing_row c h = omega (arith, s.low, s.high)

    -- the places from c on
    all : (c : ℕ) → a ≤ c → n ≤ b → Looked rule old c n state moved
    all c h l = go s.looked
      where
        go : {m : Bool} → Looked rule old a b state m → Looked rule old c n state m
        go (looked_moved t k) = looked_moved t k
        go (looked_quiet q i) = looked_quiet (λ k x y. q k (omega arith) (omega arith)) i

    module _ (new : List ℕ) (r : Bool) (same : length new ≡ length state) where
      -- the place before
      module _ (c : ℕ) (h : c < a) (q : Looked rule state (a - 1) (a - 1 + 1) new r) where
        pub down_moved : r ≡ true → Passing rule n old (a - 1) b new true
        down_moved e =
            record { low = omega (arith, s.low); high = s.high; same = same ∙ s.same; looked = join_moved s.looked (rw e at q) }

        pub down_kept : r ≡ false → Passing rule n old (a - 1) b new moved
        down_kept e =
            record {
              low = omega (arith, s.low);
              high = s.high;
              same = same ∙ s.same;
              looked = join_kept (λ k x y. cover k x y (dec_lt k a)) s.looked (rw e at q);
            }
          where
            cover : (k : ℕ) → a - 1 ≤ k → k < b → Dec (k < a) → ((a ≤ k) × (k < b)) ⊎ ((a - 1 ≤ k) × (k < a - 1 + 1))
            cover k x y (yes l) = inr (x, omega arith)
            cover k x y (no l) = inl (omega arith, y)

  pub passed_down : (c a : ℕ) (state : List ℕ) (moved : Bool) → Passing rule n old a n state moved → a ≤ c → Looked rule old c n state moved
  passed_down c a state moved s h = all a n state moved s c h (omega arith)

-- ---- pass after pass

pub record Turning (rule : Rule) (old state : List ℕ) : Type 0 where
  pub same : length state ≡ length old
  pub moved : Moved rule old state

module _ (rule : Rule) (c n : ℕ) (old : List ℕ) where
  pub turning_none : Turning rule old old
  turning_none = record { same = refl; moved = moved_none }

  module _ (state : List ℕ) (s : Turning rule old state) where
    pub turning_stated : (w : Source) (table : List ℕ) → Stated w table old → Stated w table state
    turning_stated w table t = record { view = t.view; long = omega (arith, t.long, s.same) }

    module _ (new : List ℕ) (r : Bool) (same : length new ≡ length state) (q : Looked rule state c n new r) where
      pub turning_more : r ≡ true → Turning rule old new
      turning_more e = record { same = same ∙ s.same; moved = go (rw e at q) }
        where
          go : Looked rule state c n new true → Moved rule old new
          go (looked_moved t l) = moved_on s.moved t

      pub turning_less : r ≡ true → rest new < rest state
      turning_less e = go (rw e at q)
        where
          go : Looked rule state c n new true → rest new < rest state
          go (looked_moved t l) = l

      pub turning_done : r ≡ false → SettledFrom rule c n old new
      turning_done e = go (rw e at q)
        where
          go : Looked rule state c n new false → SettledFrom rule c n old new
          go (looked_quiet k z) = rw z (record { moved = s.moved; quiet = λ u l h. k u l h })
