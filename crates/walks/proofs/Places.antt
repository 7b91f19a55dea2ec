-- Where a row stands in a list: `place_of` is its first place, the only one where rows stand once, and it is kept when the list grows.
use Prim.Native.Nat.{ℕ, zero, suc, ◌+◌, ◌≤◌, ◌<◌}
use native.Mathlib.Omega.{arith}
use native.Mathlib.Numerals.{add-one}
use mathlib.Core.Path.{◌≡◌, refl}
use mathlib.Core.List.{List, [], ◌∷◌}
use mathlib.Core.Bool.{Bool}
use lib.ListN.{length, get_or}
use Rattle.rules.specs.Pick.{pick}
use Rattle.rules.specs.Answers.{Says, says_yes, says_no}
use Rattle.rules.proofs.Tested.{says_equal}
use Rattle.walks.specs.Key.{place_of}
use Rattle.walks.specs.Member.{Member}
use Rattle.walks.proofs.Members.{Once, member_at, member_past}

-- i is the first place of the row
pub record FirstAt (l : List ℕ) (x i : ℕ) : Type 0 where
  pub within : i < length l
  pub here : get_or l i 0 ≡ x
  pub least : (k : ℕ) → k < length l → get_or l k 0 ≡ x → i ≤ k

pub place_first : {l : List ℕ} {x : ℕ} → Member l x → FirstAt l x (place_of l x)
unfolding place_of
place_first {l = []} m = absurd (omega (arith, m.within))
place_first {l = y ∷ l} {x = x} m = go (says_equal y x) place_first
  where
    later : {i : ℕ} → (y ≡ x → ⊥) → FirstAt l x i → (k : ℕ) → k < length (y ∷ l) → get_or (y ∷ l) k 0 ≡ x → suc i ≤ k
    later f i zero h e = absurd (f e)
    later f i (suc k) h e = omega (arith, i.least k (omega arith) e)

    go : {a : Bool} → Says (y ≡ x) a → (Member l x → FirstAt l x (place_of l x)) → FirstAt (y ∷ l) x (pick a 0 (place_of l x + 1))
    go (says_yes e) ih = record { within = omega arith; here = e; least = λ k h f. omega arith }
    go (says_no f) ih =
        let i = ih (member_past f m) in
        rw add-one (record { within = omega (arith, i.within); here = i.here; least = later f i })

pub first_one : {l : List ℕ} {x i k : ℕ} → FirstAt l x i → FirstAt l x k → i ≡ k
first_one {i = i} {k = k} a b = omega (arith, a.least k b.within b.here, b.least i a.within a.here)

-- under Once the first place is any
pub once_first : {l : List ℕ} → Once l → (i : ℕ) → i < length l → FirstAt l (get_or l i 0) i
once_first {l} o i h = record { within = h; here = refl; least = λ k q e. omega (arith, o.one k i q h e) }

module _ {l : List ℕ} where
  pub place_within : {x : ℕ} → Member l x → place_of l x < length l
  place_within m = (place_first m).within

  pub place_here : {x : ℕ} → Member l x → get_or l (place_of l x) 0 ≡ x
  place_here m = (place_first m).here

  pub place_at : Once l → (i : ℕ) → i < length l → place_of l (get_or l i 0) ≡ i
  place_at o i h = first_one (place_first (member_at l i h)) (once_first o i h)
