-- Rows below n, each once, are at most n. So a walk over closed rows meets at most the rows in use.
use Prim.Native.Nat.{ℕ, zero, suc, ◌≤◌, ◌<◌}
use native.Mathlib.Omega.{arith}
use mathlib.Core.Path.{◌≡◌}
use mathlib.Core.List.{List, [], ◌∷◌}
use mathlib.Core.Bool.{Bool, false}
use lib.ListN.{length, get_or}
use lib.Dec.{eqb}
use Rattle.rules.specs.Pick.{pick}
use Rattle.rules.specs.Answers.{Says, says_yes, says_no}
use Rattle.rules.proofs.Tested.{says_equal}
use Rattle.trees.specs.Graph.{Graph, Closed}
use Rattle.walks.specs.Walk.{has, meet, meet_inputs, walk}
use Rattle.walks.proofs.Members.{Once, Each, Met, met, met_once, met_each, each_member, single_each, meet_new, more_length}
use Rattle.walks.proofs.Steps.{Carried, carried_always, carried_walk, inputs_none, inputs_met}

-- ---- the first m values of f are below n, and no two are one

pub record Injects (f : ℕ → ℕ) (m n : ℕ) : Type 0 where
  pub below : (i : ℕ) → i < m → f i < n
  pub apart : (i k : ℕ) → i < m → k < m → f i ≡ f k → i ≡ k

-- y is x, or c where x is n
data Instead (n c x : ℕ) : ℕ → Type 0 where
  moved : x ≡ n → Instead n c x c
  stays : (x ≡ n → ⊥) → Instead n c x x

instead : (n c x : ℕ) → Instead n c x (pick (eqb x n) c x)
instead n c x = go (says_equal x n)
  where
    go : {a : Bool} → Says (x ≡ n) a → Instead n c x (pick a c x)
    go (says_yes e) = moved e
    go (says_no f) = stays f

instead_low : {n c x y : ℕ} → Instead n c x y → (x ≡ c → ⊥) → x < suc n → c < suc n → y < n
instead_low (moved e) d h k = omega arith
instead_low (stays e) d h k = omega arith

instead_one : {n c x y v w : ℕ} → Instead n c x y → Instead n c v w → (x ≡ c → ⊥) → (v ≡ c → ⊥) → y ≡ w → x ≡ v
instead_one (moved e) (moved f) d q s = omega arith
instead_one (moved e) (stays f) d q s = absurd (omega arith)
instead_one (stays e) (moved f) d q s = absurd (omega arith)
instead_one (stays e) (stays f) d q s = s

pub pigeonhole : (n m : ℕ) (f : ℕ → ℕ) → Injects f m n → m ≤ n
pigeonhole n zero f i = omega arith
pigeonhole zero (suc m) f i = absurd (omega (arith, i.below 0 (omega arith)))
pigeonhole (suc n) (suc m) f i =
    let c = f m in
    let other : (k : ℕ) → k < m → f k ≡ c → ⊥ = λ k h e. omega (arith, i.apart k m (omega arith) (omega arith) e) in
    let r = pigeonhole n m (λ k. pick (eqb (f k) n) c (f k))
    (record {
      below = λ k h. instead_low (instead n c (f k)) (other k h) (i.below k (omega arith)) (i.below m (omega arith));
      apart = λ k j h q e.
          i.apart k j (omega arith) (omega arith) (instead_one (instead n c (f k)) (instead n c (f j)) (other k h) (other j q) e);
    }) in
    omega arith

-- ---- rows below n, each once

pub record Rows (n : ℕ) (l : List ℕ) : Type 0 where
  pub once : Once l
  pub below : Each (λ x. x < n) l

pub rows_few : {n : ℕ} {l : List ℕ} → Rows n l → length l ≤ n
rows_few {n} {l} r = pigeonhole n (length l) (λ i. get_or l i 0) (record { below = r.below.each; apart = r.once.one })

pub rows_single : (n u : ℕ) → u < n → Rows n (u ∷ [])
rows_single n u h = record { once = record { one = λ i k p q e. omega arith }; below = single_each h }

pub rows_met : {n x : ℕ} {l r : List ℕ} → Rows n l → x < n → Met l x r → Rows n r
rows_met s h m = record { once = met_once m s.once; below = met_each m s.below h }

module _ {n : ℕ} {l : List ℕ} (s : Rows n l) where
  pub rows_meet : (x : ℕ) → x < n → Rows n (meet l x)
  rows_meet x h = rows_met s h (met l x)

  -- there is room for a row that is not there
  pub rows_room : (x : ℕ) → x < n → has l x ≡ false → length l < n
  rows_room x h e = let few = rows_few (rw (meet_new l x e) at (rows_meet x h)) in omega (arith, more_length l x)

  module _ {g : Graph} (c : Closed g n) where
    pub rows_inputs : (u : ℕ) → u < n → (j : ℕ) → j ≤ g.count u → Rows n (meet_inputs g u l j)
    rows_inputs u h zero q = rw inputs_none s
    rows_inputs u h (suc j) q = rows_met (rows_inputs u h j (omega arith)) (c.within u j h q) (inputs_met g u l j)

    keeps : Carried g (λ k j l. Rows n l)
    keeps = carried_always (λ l r x j m h s. rows_met s (c.within x j (each_member s.below m) h))

    pub rows_walk : (k : ℕ) → Rows n (walk g l k)
    rows_walk = carried_walk keeps s
