-- Of more values than there are numbers below n, two are the same.
use Prim.Native.Nat.{ℕ, zero, suc, ◌<◌}
use native.Mathlib.Omega.{arith}
use native.Mathlib.Decide.{dec_lt, ℕ_discrete}
use mathlib.Core.Path.{◌≡◌, sym}
use mathlib.Core.Logic.{◌⊎◌, inl, inr}
use Rattle.walks.proofs.Few.{Injects, pigeonhole}

-- two of the first m values of f are the same
pub record Repeats (f : ℕ → ℕ) (m : ℕ) : Type 0 where
  pub low : ℕ
  pub high : ℕ
  pub apart : low < high
  pub within : high < m
  pub same : f low ≡ f high

module _ (f : ℕ → ℕ) where
  -- among the first i values, one that is x, or none
  record At (i x : ℕ) : Type 0 where
    pub place : ℕ
    pub before : place < i
    pub is : f place ≡ x

  find : (i x : ℕ) → At i x ⊎ ((k : ℕ) → k < i → f k ≡ x → ⊥)
  find zero x = inr (λ k h e. omega arith)
  find (suc i) x = go (ℕ_discrete (f i) x) (find i x)
    where
      go : Dec (f i ≡ x) → At i x ⊎ ((k : ℕ) → k < i → f k ≡ x → ⊥) → At (suc i) x ⊎ ((k : ℕ) → k < suc i → f k ≡ x → ⊥)
      go (yes e) r = inl (record { place = i; before = omega arith; is = e })
      go (no e) (inl a) = inl (record { place = a.place; before = omega (arith, a.before); is = a.is })
      go (no e) (inr n) = inr (λ k h q. last k h q (dec_lt k i))
        where
          last : (k : ℕ) → k < suc i → f k ≡ x → Dec (k < i) → ⊥
          last k h q (yes l) = n k l q
          last k h q (no l) = let z : k ≡ i = omega arith in e (rw z at q)

  module _ (n : ℕ) where
    look : (m : ℕ) → ((i : ℕ) → i < m → f i < n) → Repeats f m ⊎ Injects f m n
    look zero low = inr (record { below = low; apart = λ i k h l e. absurd (omega arith) })
    look (suc m) low = go (look m (λ i h. low i (omega arith))) (find m (f m))
      where
        go : Repeats f m ⊎ Injects f m n → At m (f m) ⊎ ((k : ℕ) → k < m → f k ≡ f m → ⊥) → Repeats f (suc m) ⊎ Injects f (suc m) n
        go (inl r) a = inl (record { low = r.low; high = r.high; apart = r.apart; within = omega (arith, r.within); same = r.same })
        go (inr j) (inl a) = inl (record { low = a.place; high = m; apart = a.before; within = omega arith; same = a.is })
        go (inr j) (inr e) = inr (record { below = low; apart = λ i k h l q. one i k h l q (dec_lt i m) (dec_lt k m) })
          where
            one : (i k : ℕ) → i < suc m → k < suc m → f i ≡ f k → Dec (i < m) → Dec (k < m) → i ≡ k
            one i k h l q (yes a) (yes b) = j.apart i k a b q
            one i k h l q (yes a) (no b) = let z : k ≡ m = omega arith in absurd (e i a (rw z at q))
            one i k h l q (no a) (yes b) = let z : i ≡ m = omega arith in absurd (e k b (sym (rw z at q)))
            one i k h l q (no a) (no b) = omega arith

    pub repeated : ((i : ℕ) → i < suc n → f i < n) → Repeats f (suc n)
    repeated low = go (look (suc n) low)
      where
        go : Repeats f (suc n) ⊎ Injects f (suc n) n → Repeats f (suc n)
        go (inl r) = r
        go (inr j) = let h = pigeonhole n (suc n) f j in absurd (omega arith)
