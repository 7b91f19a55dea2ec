-- Numbers with a space before each, one after another.
use Prim.Native.Nat.{ℕ, suc, ◌+◌, ◌*◌, ◌≤◌, ◌<◌}
use native.Mathlib.Omega.{arith}
use native.Mathlib.Numerals.{add-one}
use mathlib.Core.Path.{◌≡◌, refl, sym, ap, ◌∙◌}
use mathlib.Core.List.{List, [], ◌∷◌, ◌++◌, append_assoc, append-nil}
use lib.ListN.{length, get_or, take, drop, length-append, take-append-drop}
use lib.Seq.{take-suc, take_all}
use Rattle.rules.specs.Writes.{Wrote}
use Rattle.rules.proofs.Writes.{wrote_none, wrote_length, wrote_more}
use Rattle.text.specs.Decimal.{decimal, spaced}
use Rattle.text.proofs.Digits.{decimal_four}

pub spaced_join : (a b : List ℕ) → spaced (a ++ b) ≡ spaced a ++ spaced b
unfolding spaced
spaced_join [] b = refl
spaced_join (n ∷ a) b = ap (λ (l : List ℕ). (32 ∷ decimal n) ++ l) (spaced_join a b) ∙ sym (append_assoc (32 ∷ decimal n) (spaced a) (spaced b))

spaced_one : (n : ℕ) → spaced (n ∷ []) ≡ 32 ∷ decimal n
unfolding spaced
spaced_one n = append-nil (32 ∷ decimal n)

spaced_next : (l : List ℕ) (i : ℕ) → i < length l → spaced (take (suc i) l) ≡ spaced (take i l) ++ (32 ∷ decimal (get_or l i 0))
spaced_next l i h =
    ap spaced (take-suc l i 0 h) ∙ spaced_join (take i l) (get_or l i 0 ∷ []) ∙ ap (λ (x : List ℕ). spaced (take i l) ++ x) (spaced_one (get_or l i 0))

spaced_front : (l : List ℕ) (i : ℕ) → length (spaced (take i l)) ≤ length (spaced l)
spaced_front l i =
    let e = ap (λ (x : List ℕ). length (spaced x)) (take-append-drop i l) in
    omega (arith, e, ap length (spaced_join (take i l) (drop i l)), length-append (spaced (take i l)) (spaced (drop i l)))

module _ (old : List ℕ) (at : ℕ) (numbers : List ℕ) where
  pub numbers_none : Wrote old at (spaced (take 0 numbers)) old at
  unfolding spaced
  numbers_none = wrote_none old at

  module _ (i : ℕ) (new : List ℕ) (to : ℕ) (s : Wrote old at (spaced (take i numbers)) new to) where
    pub numbers_room : at + length (spaced numbers) ≤ length old → i < length numbers → to + (1 + length (decimal (get_or numbers i 0))) ≤ length new
    numbers_room r l =
        omega (arith, s.next, spaced_front numbers (suc i), ap length (spaced_next numbers i l), length-append (spaced (take i numbers)) (32 ∷ decimal (get_or numbers i 0)), wrote_length old at (spaced (take i numbers)) new to s)

    pub numbers_more : (new' : List ℕ) (to' : ℕ) → i < length numbers → Wrote new to (32 ∷ decimal (get_or numbers i 0)) new' to' → Wrote old at (spaced (take (i + 1) numbers)) new' to'
    numbers_more new' to' l t =
        rw (add-one, spaced_next numbers i l) (wrote_more old at (spaced (take i numbers)) new to s (32 ∷ decimal (get_or numbers i 0)) new' to' t)

    pub numbers_all : length numbers ≤ i → Wrote old at (spaced numbers) new to
    numbers_all l = rw (take_all i numbers l) at s

-- ---- how long they are

pub spaced_few : (l : List ℕ) → ((i : ℕ) → i < length l → get_or l i 0 < 10000) → length (spaced l) ≤ 5 * length l
unfolding spaced
spaced_few [] h = omega arith
spaced_few (n ∷ l) h =
    omega (arith, decimal_four n (h 0 (omega arith)), length-append (32 ∷ decimal n) (spaced l), spaced_few l (λ i q. h (suc i) (omega arith)))

-- ---- a number's digits

module _ (n k : ℕ) (d : List ℕ) (e : take k d ≡ decimal n) where
  pub digits_room : (at : ℕ) (out : List ℕ) → at + length (decimal n) ≤ length out → at + length (take k d) ≤ length out
  digits_room at out r = rw e r

  pub digits_wrote : (at : ℕ) (old new : List ℕ) (to : ℕ) → Wrote old at (take k d) new to → Wrote old at (decimal n) new to
  digits_wrote at old new to s = rw e at s

-- ---- a number after a space

pub spaced_room : (old : List ℕ) (at n v : ℕ) (new : List ℕ) (past : ℕ) → Wrote old at (v ∷ []) new past → at + (1 + length (decimal n)) ≤ length old → past + length (decimal n) ≤ length new
spaced_room old at n v new past s r = omega (arith, s.next, wrote_length old at (v ∷ []) new past s)

pub spaced_wrote : (old : List ℕ) (at n : ℕ) (new : List ℕ) (past : ℕ) → Wrote old at (32 ∷ []) new past → (new' : List ℕ) (to : ℕ) → Wrote new past (decimal n) new' to → Wrote old at (32 ∷ decimal n) new' to
spaced_wrote old at n new past s new' to t = wrote_more old at (32 ∷ []) new past s (decimal n) new' to t
