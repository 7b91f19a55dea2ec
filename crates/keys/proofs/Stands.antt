-- A list stands at a place of a run of bytes: reading on from there gives its entries. Lists one after another stand each where the one before ends.
use Prim.Native.Nat.{ℕ, zero, suc, ◌+◌, ◌-◌, ◌≤◌, ◌<◌}
use native.Mathlib.Omega.{arith}
use native.Mathlib.Nat.{zero-add, add-zero}
use native.Mathlib.Decide.{dec_lt}
use mathlib.Core.Path.{◌≡◌, sym, ◌∙◌}
use mathlib.Core.List.{List, [], ◌∷◌, ◌++◌}
use lib.ListN.{length, take, drop, get_or, length-append, length-drop, get_or-append}
use lib.Seq.{length-take-le, get_or-append-add, get_or-drop, get_or-take, ext_get_or}

pub record Stands (b : List ℕ) (at : ℕ) (l : List ℕ) : Type 0 where
  pub reads : (i : ℕ) → i < length l → get_or b (at + i) 0 ≡ get_or l i 0

-- the same entry by another name of its place
placed : (b : List ℕ) (i j : ℕ) → i ≡ j → get_or b i 0 ≡ get_or b j 0
placed b i j e = rw e

-- ---- one list

pub stands_none : (b : List ℕ) (at : ℕ) → Stands b at []
stands_none b at = record { reads = λ i h. absurd (omega arith) }

pub stands_more : {b : List ℕ} {at c : ℕ} {l : List ℕ} → get_or b at 0 ≡ c → Stands b (at + 1) l → Stands b at (c ∷ l)
stands_more {b} {at} {c} {l} e s = record { reads = go }
  where
    go : (i : ℕ) → i < length (c ∷ l) → get_or b (at + i) 0 ≡ get_or (c ∷ l) i 0
    go zero h = rw add-zero e
    go (suc i) h = placed b (at + suc i) (at + 1 + i) (omega arith) ∙ s.reads i (omega arith)

pub stands_first : {b : List ℕ} {at c : ℕ} {l : List ℕ} → Stands b at (c ∷ l) → get_or b at 0 ≡ c
stands_first s = rw add-zero at (s.reads 0 (omega arith))

-- ---- one list after another

module _ {b : List ℕ} {at to : ℕ} (l m : List ℕ) (e : at + length l ≡ to) where
  pub stands_join : Stands b at l → Stands b to m → Stands b at (l ++ m)
  stands_join s t = record { reads = λ i h. go i h (dec_lt i (length l)) }
    where
      go : (i : ℕ) → i < length (l ++ m) → Dec (i < length l) → get_or b (at + i) 0 ≡ get_or (l ++ m) i 0
      go i h (yes q) = s.reads i q ∙ sym (get_or-append l m 0 i q)
      go i h (no q) =
          let k = i - length l in
          placed b (at + i) (to + k) (omega arith)
          ∙ t.reads k (omega (arith, length-append l m))
          ∙ sym (get_or-append-add l m k 0)
          ∙ placed (l ++ m) (length l + k) i (omega arith)

  pub stands_right : Stands b at (l ++ m) → Stands b to m
  stands_right s =
      record {
        reads = λ i h.
            placed b (to + i) (at + (length l + i)) (omega arith)
            ∙ s.reads (length l + i) (omega (arith, length-append l m))
            ∙ get_or-append-add l m i 0;
      }

pub stands_left : {b : List ℕ} {at : ℕ} (l m : List ℕ) → Stands b at (l ++ m) → Stands b at l
stands_left l m s =
    record { reads = λ i h. s.reads i (omega (arith, length-append l m)) ∙ get_or-append l m 0 i h }

-- ---- the whole, and a part of it

pub stands_whole : (b : List ℕ) → Stands b 0 b
stands_whole b = record { reads = λ i h. placed b (0 + i) i (zero-add i) }

pub stands_here : (p l q : List ℕ) → Stands (p ++ (l ++ q)) (length p) l
stands_here p l q = stands_left l q (stands_right p (l ++ q) (zero-add (length p)) (stands_whole (p ++ (l ++ q))))

pub stands_part : {b : List ℕ} {at : ℕ} {l : List ℕ} → Stands b at l → at + length l ≤ length b → l ≡ take (length l) (drop at b)
stands_part {b} {at} {l} s h =
    let n : length (take (length l) (drop at b)) ≡ length l = length-take-le (length l) (drop at b) (omega (arith, length-drop at b)) in
    ext_get_or 0 l (take (length l) (drop at b)) (sym n) (λ i k. rw (get_or-take, get_or-drop) (sym (s.reads i k)))

pub stands_all : {b l : List ℕ} → Stands b 0 l → length l ≡ length b → l ≡ b
stands_all {b} {l} s e = ext_get_or 0 l b e (λ i h. rw zero-add at (sym (s.reads i h)))
