-- The list's entries: of a row that is dropped, and of one that is left.
use Prim.Native.Nat.{ℕ, ◌≤◌, ◌<◌}
use native.Mathlib.Omega.{arith}
use native.Mathlib.Decide.{dec_le}
use mathlib.Core.Path.{◌≡◌, sym, ap, ◌∙◌}
use mathlib.Core.List.{List}
use lib.ListN.{length, get_or}
use lib.Seq.{ext_get_or}
use borrow.Author.Tests.{le-leb, lt-leb}
use Rattle.rules.specs.Lists.{firsts}
use Rattle.rules.specs.Writes.{over_front}
use Rattle.rules.proofs.Lists.{firsts_length, firsts_at}
use Rattle.rules.proofs.Writes.{over_length, over_front_lem, over_past}
use Rattle.numbering.specs.Numbers.{row_number}
use Rattle.mends.specs.Words.{listed}

pub listed_gone : (n : ℕ) (c : ℕ → ℕ) (u : ℕ) → n ≤ c u → listed n c u ≡ 4294967295
unfolding listed
listed_gone n c u h = simp (le-leb _ _ h)

pub listed_left : (n : ℕ) (c : ℕ → ℕ) (u : ℕ) → c u < n → listed n c u ≡ row_number c u
unfolding listed
listed_left n c u h = simp (lt-leb _ _ h)

-- an entry of the list as it is written over the front of another
pub entry_listed : (f : ℕ → ℕ) (n : ℕ) (list list' : List ℕ) → n ≤ length list → list' ≡ over_front (firsts f n) list → (u : ℕ) → u < n → get_or list' u 0 ≡ f u
entry_listed f n list list' h e u l =
    rw e
    (over_front_lem (firsts f n) list (omega (arith, firsts_length f n)) u 0 (omega (arith, firsts_length f n)) ∙ firsts_at f n u l)

-- ---- a list is its entries over the front

pub over_is : (f : ℕ → ℕ) (n : ℕ) (old list : List ℕ) → n ≤ length old → length list ≡ length old → ((v : ℕ) → v < n → get_or list v 0 ≡ f v) → ((v : ℕ) → n ≤ v → get_or list v 0 ≡ get_or old v 0) → list ≡ over_front (firsts f n) old
over_is f n old list h same front past = ext_get_or 0 list (over_front (firsts f n) old) (same ∙ sym (over_length (firsts f n) old fits)) (λ v l. go v (dec_le n v))
  where
    fits : length (firsts f n) ≤ length old
    fits = omega (arith, firsts_length f n)

    go : (v : ℕ) → Dec (n ≤ v) → get_or list v 0 ≡ get_or (over_front (firsts f n) old) v 0
    go v (yes q) = past v q ∙ sym (over_past (firsts f n) old fits v 0 (omega (arith, firsts_length f n)))
    go v (no q) = front v (omega arith) ∙ sym (over_front_lem (firsts f n) old fits v 0 (omega (arith, firsts_length f n)) ∙ firsts_at f n v (omega arith))

-- and so over another list with the same entries past the front
pub over_other : (f : ℕ → ℕ) (n : ℕ) (old mid new : List ℕ) → n ≤ length old → length mid ≡ length old → ((v : ℕ) → n ≤ v → get_or mid v 0 ≡ get_or old v 0) → new ≡ over_front (firsts f n) mid → new ≡ over_front (firsts f n) old
over_other f n old mid new h same past e =
    over_is f n old new h (ap length e ∙ over_length (firsts f n) mid fits ∙ same) (entry_listed f n mid new (omega arith) e)
    (λ v l. ap (λ x. get_or x v 0) e ∙ over_past (firsts f n) mid fits v 0 (omega (arith, firsts_length f n)) ∙ past v l)
  where
    fits : length (firsts f n) ≤ length mid
    fits = omega (arith, firsts_length f n)
