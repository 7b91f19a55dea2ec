-- Laws of the first values of a function: their number, each of them, and how a loop writes them over the front of an array.
use Prim.Native.Nat.{ℕ, zero, suc, ◌+◌, ◌≤◌, ◌<◌}
use native.Mathlib.Omega.{arith}
use native.Mathlib.Numerals.{add-one}
use native.Mathlib.Decide.{dec_lt}
use mathlib.Core.Path.{◌≡◌, refl, ap, ap₂, ◌∙◌}
use mathlib.Core.List.{List, [], ◌∷◌, ◌++◌}
use lib.ListN.{length, get_or, set, replicate, length-append, length-set, length-replicate, get_or-replicate, get_or-append}
use lib.Seq.{get_or_at}
use Rattle.rules.specs.Writes.{over_front}
use Rattle.rules.specs.Lists.{firsts, in_room}
use Rattle.rules.proofs.Writes.{over_none, over_more, over_length, over_front_lem, over_past}

module _ (f : ℕ → ℕ) where
  pub firsts_length : (n : ℕ) → length (firsts f n) ≡ n
  unfolding firsts
  firsts_length zero = refl
  firsts_length (suc n) = length-append (firsts f n) (f n ∷ []) ∙ ap (λ k. k + 1) (firsts_length n) ∙ add-one n

  pub firsts_at : (n j : ℕ) → j < n → get_or (firsts f n) j 0 ≡ f j
  unfolding firsts
  firsts_at zero j h = absurd (omega arith)
  firsts_at (suc n) j h = go (dec_lt j n) (firsts_at n j)
    where
      go : Dec (j < n) → (j < n → get_or (firsts f n) j 0 ≡ f j) → get_or (firsts f (suc n)) j 0 ≡ f j
      go (yes q) ih = get_or-append (firsts f n) (f n ∷ []) 0 j (omega (arith, firsts_length n)) ∙ ih q
      go (no q) ih = let e : j ≡ n = omega arith in rw e (get_or_at (firsts f n) (f n) [] 0 n (firsts_length n))

-- functions with the same first values
pub firsts_same : (f g : ℕ → ℕ) (n : ℕ) → ((j : ℕ) → j < n → f j ≡ g j) → firsts f n ≡ firsts g n
unfolding firsts
firsts_same f g zero e = refl
firsts_same f g (suc n) e =
    ap₂ (λ l x. l ++ (x ∷ [])) (firsts_same f g n (λ j h. e j (omega arith))) (e n (omega arith))

-- ---- in an array with room for more

module _ (room : ℕ) (f : ℕ → ℕ) (n : ℕ) (fits : n ≤ room) where
  long : length (firsts f n) ≤ length (replicate {A = ℕ} room 0)
  long = omega (arith, firsts_length f n, length-replicate {A = ℕ} room 0)

  pub room_length : length (in_room room f n) ≡ room
  unfolding in_room
  room_length = over_length (firsts f n) (replicate room 0) long ∙ length-replicate room 0

  pub room_at : (j : ℕ) → j < n → get_or (in_room room f n) j 0 ≡ f j
  unfolding in_room
  room_at j h = over_front_lem (firsts f n) (replicate room 0) long j 0 (omega (arith, firsts_length f n)) ∙ firsts_at f n j h

  pub room_past : (j : ℕ) → n ≤ j → j < room → get_or (in_room room f n) j 0 ≡ 0
  unfolding in_room
  room_past j h k = over_past (firsts f n) (replicate room 0) long j 0 (omega (arith, firsts_length f n)) ∙ get_or-replicate room j 0 0 k

-- functions with the same first values leave the same array
pub room_same : (room : ℕ) (f g : ℕ → ℕ) (n : ℕ) → ((j : ℕ) → j < n → f j ≡ g j) → in_room room f n ≡ in_room room g n
unfolding in_room
room_same room f g n e = ap (λ l. over_front l (replicate room 0)) (firsts_same f g n e)

-- ---- a loop that writes them: j of the n values stand over the front of the old entries

pub record Filled (old : List ℕ) (f : ℕ → ℕ) (n : ℕ) (found : List ℕ) (j : ℕ) : Type 0 where
  pub some : j ≤ n
  pub same : length found ≡ length old
  pub got : found ≡ over_front (firsts f j) old

module _ (old : List ℕ) (f : ℕ → ℕ) (n : ℕ) where
  pub filled_none : Filled old f n old 0
  unfolding firsts
  filled_none = record { some = omega arith; same = refl; got = over_none old }

  pub filled_more : (found : List ℕ) (j v : ℕ) → Filled old f n found j → j < n → n ≤ length old → v ≡ f j → Filled old f n (set found j v) (j + 1)
  unfolding firsts
  filled_more found j v s h m e =
      let l = firsts_length f j in
      let more = over_more (firsts f j) old v (omega (arith, firsts_length f j)) in
      record {
        some = omega arith;
        same = length-set found j v ∙ s.same;
        got = rw (add-one, s.got, ← e) (rw l at more);
      }

  pub filled_all : (found : List ℕ) (j : ℕ) → Filled old f n found j → n ≤ j → found ≡ over_front (firsts f n) old
  filled_all found j s h = let e : j ≡ n = omega (arith, s.some) in rw e at s.got

pub filled_room : (room : ℕ) (f : ℕ → ℕ) (n : ℕ) (found : List ℕ) (j : ℕ) → Filled (replicate room 0) f n found j → n ≤ j → found ≡ in_room room f n
unfolding in_room
filled_room room f n = filled_all (replicate room 0) f n
