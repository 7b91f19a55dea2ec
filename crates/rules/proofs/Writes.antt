-- Laws of a write over the front: the length, what stands at the front, what stands past it, and one entry more. Then bytes written one
-- after another from a place on, and over the front.
use Prim.Native.Nat.{ℕ, suc, ◌≤◌, ◌<◌, ◌+◌, ◌-◌}
use native.Mathlib.Omega.{arith}
use native.Mathlib.Numerals.{add-one}
use native.Mathlib.Nat.{zero-add, add-zero}
use mathlib.Core.Path.{◌≡◌, refl, sym, ap, ◌∙◌}
use mathlib.Core.List.{List, [], ◌∷◌, ◌++◌, append_assoc}
use lib.ListN.{length, take, drop, get_or, set, length-append, length-drop, get_or-append}
use lib.Seq.{take-append_seam, get_or-append-add, get_or-drop, drop-cons, set-append_seam, sets, sets-eq, length-sets}
use Rattle.rules.specs.Writes.{over_front, Wrote}

pub over_none : {A : Type 0} (old : List A) → old ≡ over_front [] old
unfolding over_front
over_none old = refl

module _ {A : Type 0} (new old : List A) (fits : length new ≤ length old) where
  pub over_length : length (over_front new old) ≡ length old
  unfolding over_front
  over_length = simp (length-append, length-drop) (omega arith)

  pub over_front_lem : (i : ℕ) (d : A) → i < length new → get_or (over_front new old) i d ≡ get_or new i d
  unfolding over_front
  over_front_lem i d h = get_or-append new (drop (length new) old) d i h

  pub over_past : (i : ℕ) (d : A) → length new ≤ i → get_or (over_front new old) i d ≡ get_or old i d
  unfolding over_front
  over_past i d h =
      let e : i ≡ length new + (i - length new) = omega arith in
      let at : ℕ → A = λ k. get_or (new ++ drop (length new) old) k d in
      ap at e ∙ get_or-append-add new (drop (length new) old) (i - length new) d
      ∙ get_or-drop (length new) old (i - length new) d
      ∙ ap (λ k. get_or old k d) (sym e)

-- the entry past the front is written
pub over_more : {A : Type 0} (new old : List A) (v : A) → length new < length old → set (over_front new old) (length new) v ≡ over_front (new ++ (v ∷ [])) old
unfolding over_front
over_more new old v h =
    let split = drop-cons old (length new) v h in
    let n : length (new ++ (v ∷ [])) ≡ length new + 1 = length-append new (v ∷ []) in
    rw (split, set-append_seam, n, add-one, append_assoc)

-- the front read back
pub over_take : {A : Type 0} (new old : List A) → take (length new) (over_front new old) ≡ new
unfolding over_front
over_take new old = take-append_seam new (drop (length new) old)

-- ---- bytes from a place on

sets_join : (l : List ℕ) (i : ℕ) (a b : List ℕ) → sets l i (a ++ b) ≡ sets (sets l i a) (i + length a) b
sets_join l i [] b = rw add-zero
sets_join l i (v ∷ a) b =
    let e : i + suc (length a) ≡ suc i + length a = omega arith in
    rw e (sets_join (set l i v) (suc i) a b)

pub wrote_none : (old : List ℕ) (at : ℕ) → Wrote old at [] old at
wrote_none old at = record { wrote = refl; next = omega arith }

pub wrote_one : (old : List ℕ) (at v : ℕ) → Wrote old at (v ∷ []) (set old at v) (at + 1)
wrote_one old at v = record { wrote = refl; next = refl }

module _ (old : List ℕ) (at : ℕ) (a new : List ℕ) (to : ℕ) (s : Wrote old at a new to) where
  pub wrote_length : length new ≡ length old
  wrote_length = ap length s.wrote ∙ length-sets old at a

  pub wrote_more : (b new' : List ℕ) (to' : ℕ) → Wrote new to b new' to' → Wrote old at (a ++ b) new' to'
  wrote_more b new' to' t =
      record {
        wrote = t.wrote ∙ rw (s.wrote, s.next) (sym (sets_join old at a b));
        next = omega (arith, s.next, t.next, length-append a b);
      }

pub wrote_over : (old bytes new : List ℕ) (to : ℕ) → Wrote old 0 bytes new to → length bytes ≤ length old → new ≡ over_front bytes old
unfolding over_front
wrote_over old bytes new to s h = s.wrote ∙ rw zero-add at (sets-eq bytes old 0 (omega arith))
