-- What is gone and what is left when no more row can go: rows that are gone are on no loop without a hold, rows that are left lead to one.
use Prim.Native.Nat.{ℕ, zero, suc, ◌<◌}
use native.Mathlib.Omega.{arith}
use native.Mathlib.Decide.{dec_lt, ℕ_discrete}
use mathlib.Core.Path.{◌≡◌, sym, ◌∙◌}
use mathlib.Core.List.{List}
use mathlib.Core.Logic.{◌⊎◌, inl, inr}
use lib.ListN.{set}
use lib.Seq.{get_or-set_same, get_or-set_other}
use Rattle.trees.specs.Graph.{Graph, Closed}
use Rattle.loops.specs.Loops.{Onward, Loop, Unheld}
use Rattle.loops.proofs.Running.{Runs}
use Rattle.loops.proofs.Peeling.{Stopped, stopped_more, stopped_hold, stopped_inputs, left_loop, gone_no_loop}
use Rattle.judging.specs.Verdicts.{state_of}
use Rattle.judging.specs.Moves.{Moved, moved_none, moved_more}
use Rattle.judging.specs.Rules.{Peels, peels_hold, peels_gone, peeling, Peeled}

-- row u, one of the first n, is gone
record Away (n : ℕ) (state : List ℕ) (u : ℕ) : Type 0 where
  pub within : u < n
  pub gone : state_of state u ≡ 2

record Ends (g : Graph) (n : ℕ) (state : List ℕ) : Type 0 where
  pub depth : ℕ
  pub stopped : Stopped g (Away n state) depth

module _ (g : Graph) (n : ℕ) (c : Closed g n) where
  -- ---- what is gone

  moved_ends : {old new : List ℕ} → ((u : ℕ) → u < n → state_of old u ≡ 2 → ⊥) → Moved (peeling g) old new → Ends g n new
  unfolding peeling
  moved_ends none moved_none = record { depth = 0; stopped = record { stops = λ u x r. none u x.within x.gone } }
  moved_ends none (moved_more {mid = mid} {u = u} t h e p) = go (moved_ends none t)
    where
      go : Ends g n mid → Ends g n (set mid u 2)
      go a = record { depth = suc a.depth; stopped = record { stops = λ x y r. one x y r (ℕ_discrete x u) } }
        where
          peeled : u < n → Peels g mid u → Runs g (suc a.depth) u → ⊥
          peeled l (peels_hold q) r = stopped_hold g a.depth u q r
          peeled l (peels_gone f) r =
              stopped_inputs g a.stopped u (λ j k. record { within = c.within u j l k; gone = f j k }) r

          one : (x : ℕ) → Away n (set mid u 2) x → Runs g (suc a.depth) x → Dec (x ≡ u) → ⊥
          one x y r (yes q) = let l : u < n = omega (arith, y.within) in peeled l p (rw q at r)
          one x y r (no q) =
              (stopped_more g a.stopped).stops x (record { within = y.within; gone = sym (get_or-set_other mid u x 2 0 q) ∙ y.gone }) r

  -- ---- states of a row before and after

  -- a met row is met still, or gone
  pub moved_stays : {old new : List ℕ} → Moved (peeling g) old new → (u : ℕ) → state_of old u ≡ 1 → (state_of new u ≡ 1) ⊎ (state_of new u ≡ 2)
  unfolding peeling
  moved_stays moved_none u e = inl e
  moved_stays (moved_more {mid = mid} {u = x} t h s p) u e = go (ℕ_discrete u x) (moved_stays t u e)
    where
      go : Dec (u ≡ x) → (state_of mid u ≡ 1) ⊎ (state_of mid u ≡ 2) → (state_of (set mid x 2) u ≡ 1) ⊎ (state_of (set mid x 2) u ≡ 2)
      go (no q) (inl s) = inl (get_or-set_other mid x u 2 0 q ∙ s)
      go (no q) (inr s) = inr (get_or-set_other mid x u 2 0 q ∙ s)
      go (yes q) s = inr (rw q (get_or-set_same mid x 2 0 h))

  -- a row that is left was met
  pub moved_was : {old new : List ℕ} → Moved (peeling g) old new → (u : ℕ) → state_of new u ≡ 1 → state_of old u ≡ 1
  unfolding peeling
  moved_was moved_none u e = e
  moved_was {old} (moved_more {mid = mid} {u = x} t h s p) u e = go (ℕ_discrete u x) (λ i. moved_was t u i)
    where
      go : Dec (u ≡ x) → (state_of mid u ≡ 1 → state_of old u ≡ 1) → state_of old u ≡ 1
      go (no q) before = before (sym (get_or-set_other mid x u 2 0 q) ∙ e)
      go (yes q) before = let z : state_of (set mid x 2) u ≡ 2 = rw q (get_or-set_same mid x 2 0 h) in absurd (omega arith)

  -- a row that was not met is not met
  pub moved_seen : {old new : List ℕ} → Moved (peeling g) old new → (u : ℕ) → state_of old u ≡ 0 → state_of new u ≡ 0
  unfolding peeling
  moved_seen moved_none u e = e
  moved_seen (moved_more {mid = mid} {u = x} t h s p) u e = go (ℕ_discrete u x) (moved_seen t u e)
    where
      go : Dec (u ≡ x) → state_of mid u ≡ 0 → state_of (set mid x 2) u ≡ 0
      go (no q) z = get_or-set_other mid x u 2 0 q ∙ z
      go (yes q) z = let w : state_of mid x ≡ 0 = rw q at z in absurd (omega arith)

  -- ---- an input that is not gone, or all are

  record Kept (state : List ℕ) (u count : ℕ) : Type 0 where
    pub input : ℕ
    pub of_row : input < count
    pub kept : state_of state (g.input u input) ≡ 2 → ⊥

  kept_or : (state : List ℕ) (u count : ℕ) → Kept state u count ⊎ ((j : ℕ) → j < count → state_of state (g.input u j) ≡ 2)
  kept_or state u zero = inr (λ j h. absurd (omega arith))
  kept_or state u (suc k) = go (ℕ_discrete (state_of state (g.input u k)) 2) (kept_or state u k)
    where
      go : Dec (state_of state (g.input u k) ≡ 2) → Kept state u k ⊎ ((j : ℕ) → j < k → state_of state (g.input u j) ≡ 2)
          → Kept state u (suc k) ⊎ ((j : ℕ) → j < suc k → state_of state (g.input u j) ≡ 2)
      go (no q) r = inl (record { input = k; of_row = omega arith; kept = q })
      go (yes q) (inl a) = inl (record { input = a.input; of_row = omega (arith, a.of_row); kept = a.kept })
      go (yes q) (inr f) = inr (λ j h. last j h (dec_lt j k))
        where
          last : (j : ℕ) → j < suc k → Dec (j < k) → state_of state (g.input u j) ≡ 2
          last j h (yes l) = f j l
          last j h (no l) = let z : j ≡ k = omega arith in rw z q

  -- ---- met rows, closed under inputs

  module _ {old new : List ℕ} (p : Peeled g n old new)
      (met : (u j : ℕ) → u < n → state_of old u ≡ 1 → j < g.count u → state_of old (g.input u j) ≡ 1) where
    record Left (u : ℕ) : Type 0 where
      pub within : u < n
      pub was : state_of old u ≡ 1
      pub is : state_of new u ≡ 1

    stuck : (u : ℕ) → u < n → state_of new u ≡ 1 → Peels g new u → ⊥
    unfolding peeling
    stuck u h = (p.quiet u h).stays

    left_on : (u : ℕ) → Left u → Onward g u Left
    left_on u l = go (kept_or new u (g.count u))
      where
        go : Kept new u (g.count u) ⊎ ((j : ℕ) → j < g.count u → state_of new (g.input u j) ≡ 2) → Onward g u Left
        go (inr f) = absurd (stuck u l.within l.is (peels_gone f))
        go (inl k) =
            record {
              plain = λ h. stuck u l.within l.is (peels_hold h);
              input = k.input;
              of_row = k.of_row;
              goes = record {
                within = c.within u k.input l.within k.of_row;
                was = met u k.input l.within l.was k.of_row;
                is = one (moved_stays p.moved (g.input u k.input) (met u k.input l.within l.was k.of_row));
              };
            }
          where
            one : (state_of new (g.input u k.input) ≡ 1) ⊎ (state_of new (g.input u k.input) ≡ 2) → state_of new (g.input u k.input) ≡ 1
            one (inl s) = s
            one (inr s) = absurd (k.kept s)

    -- a row that is left was met
    pub left_was : (u : ℕ) → state_of new u ≡ 1 → state_of old u ≡ 1
    left_was = moved_was p.moved

    -- it leads to a loop without a hold
    pub left_unheld : (u : ℕ) → u < n → state_of new u ≡ 1 → Unheld g u
    left_unheld u h b = left_loop g c Left left_on u h (record { within = h; was = left_was u b; is = b })

    -- and a met row on such a loop is left
    pub loop_left : ((u : ℕ) → u < n → state_of old u ≡ 2 → ⊥) → (u : ℕ) → u < n → state_of old u ≡ 1 → Loop g u → state_of new u ≡ 1
    loop_left none u h e l = one (moved_stays p.moved u e)
      where
        one : (state_of new u ≡ 1) ⊎ (state_of new u ≡ 2) → state_of new u ≡ 1
        one (inl s) = s
        one (inr s) = let a = moved_ends none p.moved in absurd (gone_no_loop g a.stopped (record { within = h; gone = s }) l)
