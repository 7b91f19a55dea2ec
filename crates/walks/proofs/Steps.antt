-- The walk step by step: its clauses, that every place once met is kept, that it stands still when all places have been
-- visited, and how a property is carried along it.
use Prim.Native.Nat.{ℕ, zero, suc, ◌+◌, ◌≤◌, ◌<◌}
use native.Mathlib.Omega.{arith}
use native.Mathlib.Numerals.{add-one}
use native.Mathlib.Decide.{dec_lt, le_ind}
use mathlib.Core.Path.{◌≡◌, refl, sym, ap, ◌∙◌}
use mathlib.Core.List.{List}
use lib.ListN.{length, get_or}
use borrow.Author.Tests.{lt-ltb, le-ltb}
use Rattle.trees.specs.Graph.{Graph}
use Rattle.walks.specs.Walk.{meet, meet_inputs, visit, walk}
use Rattle.walks.specs.Member.{Member}
use Rattle.walks.proofs.Members.{Once, Each, Grown, Met, met, met_grown, met_member, met_once, met_each, member_at, each_member, grown_refl, grown_trans, grown_member}

-- ---- the inputs of a row

module _ (g : Graph) (u : ℕ) (l : List ℕ) where
  pub inputs_none : meet_inputs g u l 0 ≡ l
  unfolding meet_inputs
  inputs_none = refl

  pub inputs_step : (n : ℕ) → meet_inputs g u l (n + 1) ≡ meet (meet_inputs g u l n) (g.input u n)
  unfolding meet_inputs
  inputs_step n = rw add-one

  -- one input more, as an outcome
  pub inputs_met : (n : ℕ) → Met (meet_inputs g u l n) (g.input u n) (meet_inputs g u l (suc n))
  unfolding meet_inputs
  inputs_met n = met (meet_inputs g u l n) (g.input u n)

  pub inputs_grown : (n : ℕ) → Grown l (meet_inputs g u l n)
  inputs_grown zero = rw inputs_none (grown_refl l)
  inputs_grown (suc n) = grown_trans (inputs_grown n) (met_grown (inputs_met n))

  pub inputs_member : (n j : ℕ) → j < n → Member (meet_inputs g u l n) (g.input u j)
  inputs_member zero j h = absurd (omega arith)
  inputs_member (suc n) j h = go (dec_lt j n) (inputs_member n j)
    where
      go : Dec (j < n) → (j < n → Member (meet_inputs g u l n) (g.input u j)) → Member (meet_inputs g u l (suc n)) (g.input u j)
      go (yes q) ih = grown_member (met_grown (inputs_met n)) (ih q)
      go (no q) ih = let e : j ≡ n = omega arith in rw e (met_member (inputs_met n))

  pub inputs_once : Once l → (n : ℕ) → Once (meet_inputs g u l n)
  inputs_once o zero = rw inputs_none o
  inputs_once o (suc n) = met_once (inputs_met n) (inputs_once o n)

-- ---- a place visited

module _ (g : Graph) (k : ℕ) (l : List ℕ) where
  pub visit_hit : k < length l → visit g k l ≡ meet_inputs g (get_or l k 0) l (g.count (get_or l k 0))
  unfolding visit
  visit_hit h = simp (lt-ltb k (length l) h)

  pub visit_past : length l ≤ k → visit g k l ≡ l
  unfolding visit
  visit_past h = simp (le-ltb k (length l) h)

  pub visit_grown : Grown l (visit g k l)
  visit_grown = go (dec_lt k (length l))
    where
      go : Dec (k < length l) → Grown l (visit g k l)
      go (yes h) = rw (visit_hit h) (inputs_grown g (get_or l k 0) l (g.count (get_or l k 0)))
      go (no h) = rw (visit_past (omega arith)) (grown_refl l)

-- ---- the walk

module _ (g : Graph) (from : List ℕ) where
  pub walk_none : walk g from 0 ≡ from
  unfolding walk
  walk_none = refl

  pub walk_step : (k : ℕ) → walk g from (k + 1) ≡ visit g k (walk g from k)
  unfolding walk
  walk_step k = rw add-one

  next : (k : ℕ) → walk g from (suc k) ≡ visit g k (walk g from k)
  unfolding walk
  next k = refl

  pub walk_grown : (k m : ℕ) → k ≤ m → Grown (walk g from k) (walk g from m)
  walk_grown k =
      le_ind (λ m. Grown (walk g from k) (walk g from m)) (grown_refl (walk g from k))
      (λ m h r. rw next (grown_trans r (visit_grown g m (walk g from m))))

  -- all places have been visited: it stands still
  pub walk_still : (k m : ℕ) → length (walk g from k) ≤ k → k ≤ m → walk g from m ≡ walk g from k
  walk_still k m h =
      le_ind (λ m. walk g from m ≡ walk g from k) refl
      (λ m q e. next m ∙ ap (visit g m) e ∙ visit_past g m (walk g from k) (omega arith)) m

  -- two walks that stand still are one
  pub walk_one : (k m : ℕ) → length (walk g from k) ≤ k → length (walk g from m) ≤ m → walk g from k ≡ walk g from m
  walk_one k m h q = go (dec_lt k m)
    where
      go : Dec (k < m) → walk g from k ≡ walk g from m
      go (yes l) = sym (walk_still k m h (omega arith))
      go (no l) = walk_still m k q (omega arith)

  -- each input of a place visited has been met
  pub walk_visited : (k i j : ℕ) → i < k → i < length (walk g from k) → j < g.count (get_or (walk g from k) i 0) → Member (walk g from k) (g.input (get_or (walk g from k) i 0) j)
  walk_visited k i j h q = go (dec_lt i (length (walk g from i)))
    where
      go : Dec (i < length (walk g from i)) → j < g.count (get_or (walk g from k) i 0) → Member (walk g from k) (g.input (get_or (walk g from k) i 0) j)
      go (yes l) =
          rw ((walk_grown i k (omega arith)).kept i l)
          (λ c. grown_member (walk_grown (suc i) k h) (rw (next i, visit_hit g i (walk g from i) l) (inputs_member g (get_or (walk g from i) i 0) (walk g from i) _ j c)))
      go (no l) = let e = ap length (walk_still i k (omega arith) (omega arith)) in absurd (omega arith)

-- ---- what is carried along: P k j l says it of the list l when k places have been visited, and j inputs of place k met

pub record Carried (g : Graph) (P : ℕ → ℕ → List ℕ → Type 0) : Type 0 where
  pub input : (k j : ℕ) (l r : List ℕ) → k < length l → j < g.count (get_or l k 0) → P k j l → Met l (g.input (get_or l k 0) j) r → P k (suc j) r
  pub place : (k : ℕ) (l : List ℕ) → k < length l → P k (g.count (get_or l k 0)) l → P (suc k) 0 l
  pub past : (k : ℕ) (l : List ℕ) → length l ≤ k → P k 0 l → P (suc k) 0 l

module _ {g : Graph} {P : ℕ → ℕ → List ℕ → Type 0} (c : Carried g P) where
  pub carried_inputs : (k : ℕ) (l : List ℕ) → k < length l → P k 0 l → (n : ℕ) → n ≤ g.count (get_or l k 0) → P k n (meet_inputs g (get_or l k 0) l n)
  carried_inputs k l h p zero q = rw inputs_none p
  carried_inputs k l h p (suc n) q =
      let u = get_or l k 0 in
      let s = inputs_grown g u l n in
      let e = s.kept k h in
      c.input k n (meet_inputs g u l n) (meet_inputs g u l (suc n)) (omega (arith, s.longer)) (rw e q) (carried_inputs k l h p n (omega arith))
      (rw e (inputs_met g u l n))

  pub carried_visit : (k : ℕ) (l : List ℕ) → P k 0 l → P (suc k) 0 (visit g k l)
  carried_visit k l p = go (dec_lt k (length l))
    where
      go : Dec (k < length l) → P (suc k) 0 (visit g k l)
      go (yes h) =
          let n = g.count (get_or l k 0) in
          let s = inputs_grown g (get_or l k 0) l n in
          let r = carried_inputs k l h p n (omega arith) in
          rw (visit_hit g k l h) (c.place k (meet_inputs g (get_or l k 0) l n) (omega (arith, s.longer)) (rw (s.kept k h) r))
      go (no h) = rw (visit_past g k l (omega arith)) (c.past k l (omega arith) p)

  pub carried_walk : {from : List ℕ} → P 0 0 from → (k : ℕ) → P k 0 (walk g from k)
  carried_walk {from} p zero = rw walk_none p
  carried_walk {from} p (suc k) = rw next (carried_visit k (walk g from k) (carried_walk p k))

-- what holds at every step alike
pub carried_always : {g : Graph} {P : List ℕ → Type 0}
    → ((l r : List ℕ) (x j : ℕ) → Member l x → j < g.count x → P l → Met l (g.input x j) r → P r) → Carried g (λ k j l. P l)
carried_always f =
    record {
      input = λ k j l r h. f l r (get_or l k 0) j (member_at l k h);
      place = λ k l h p. p;
      past = λ k l h p. p;
    }

module _ (g : Graph) {from : List ℕ} where
  -- what goes on from a row to its inputs holds of every row met
  pub walk_each : {Q : ℕ → Type 0} → ((x j : ℕ) → Q x → j < g.count x → Q (g.input x j)) → Each Q from → (k : ℕ) → Each Q (walk g from k)
  walk_each f = carried_walk (carried_always (λ l r x j m h e s. met_each s e (f x j (each_member e m) h)))
