-- The rows put in order: the sheet's, and then one row of the store after another, if it has been met.
use Prim.Native.Nat.{ℕ, suc, ◌+◌, ◌≤◌, ◌<◌}
use native.Mathlib.Omega.{arith}
use native.Mathlib.Numerals.{add-one}
use native.Mathlib.Nat.{add-zero}
use native.Mathlib.Decide.{dec_lt}
use mathlib.Core.Path.{◌≡◌, refl, sym, ap, ◌∙◌}
use mathlib.Core.List.{List, [], ◌∷◌, ◌++◌, append_assoc, append-nil}
use mathlib.Core.Bool.{Bool, true, false, not}
use lib.ListN.{length, get_or, take, drop, set, length-set}
use lib.Seq.{get_or-set_same, get_or-set_other, take-suc-set, drop-append_seam}
use Rattle.rules.specs.Lists.{firsts}
use Rattle.rules.proofs.Writes.{over_take}
use Rattle.rules.proofs.Lists.{firsts_length, Filled, filled_more, filled_all}
use Rattle.rules.proofs.Tested.{passed_yes, passed_no}
use Rattle.walks.specs.Walk.{has}
use Rattle.walks.specs.Member.{Member}
use Rattle.walks.proofs.Members.{has_says, more_length, more_grown, more_last}
use Rattle.converts.specs.Rising.{rising_none, rising_with, rising_past}
use Rattle.converts.specs.Result.{behind, rising_inputs}
use Rattle.converts.proofs.Rising.{rising_each}
use Rattle.appending.specs.Arranged.{appended_in, Arranged, SheetFirst, Arranging}

-- ---- the sheet's rows

pub sheet_filled : (stored rows : ℕ) (old order : List ℕ) (i : ℕ) → Filled old (behind stored) rows order i → rows ≤ i → SheetFirst stored rows order
sheet_filled stored rows old order i s h =
    let l = firsts_length (behind stored) rows in
    record { first = ap (take rows) (filled_all old (behind stored) rows order i s h) ∙ rw l at (over_take (firsts (behind stored) rows) old) }

pub sheet_more : (stored rows : ℕ) (old order order' : List ℕ) (i : ℕ) → Filled old (behind stored) rows order i → i < rows → rows ≤ length old → order' ≡ set order i (stored + i) → Filled old (behind stored) rows order' (i + 1)
sheet_more stored rows old order order' i s h l e = rw e (filled_more old (behind stored) rows order i (stored + i) s h l refl)

-- ---- the store's rows

module _ {P : ℕ → Type 0} {stored rows : ℕ} {order places : List ℕ} where
  pub arranging_none : SheetFirst stored rows order → rows + stored ≤ length order → stored ≤ length places → Arranging P stored rows order places 0 0
  arranging_none s l e =
      record {
        appended = [];
        rising = rising_none;
        in_order = rw (add-zero, append-nil) s.first;
        counted = refl;
        placed = λ i h. absurd (omega arith);
        few = omega arith;
        low = omega arith;
        long = l;
        entries = e;
      }

  module _ {x k : ℕ} (s : Arranging P stored rows order places x k) (h : x < stored) where
    arranging_past : (P x → ⊥) → Arranging P stored rows order places (x + 1) k
    arranging_past n =
        record {
          appended = s.appended;
          rising = rw add-one (rising_past s.rising n);
          in_order = s.in_order;
          counted = s.counted;
          placed = s.placed;
          few = omega (arith, s.few);
          low = omega arith;
          long = s.long;
          entries = s.entries;
        }

    arranging_with : P x → Arranging P stored rows (set order (rows + k) x) (set places x (rows + k)) (x + 1) (k + 1)
    arranging_with p =
        record {
          appended = l ++ (x ∷ []);
          rising = rw add-one (rising_with s.rising p);
          in_order = in_order;
          counted = more_length l x ∙ ap (λ n. n + 1) s.counted;
          placed = λ i q. placed i q (dec_lt i k);
          few = omega (arith, s.few);
          low = omega arith;
          long = simp length-set s.long;
          entries = simp length-set s.entries;
        }
      where
        l : List ℕ
        l = s.appended

        in_order : take (rows + (k + 1)) (set order (rows + k) x) ≡ rising_inputs stored rows (l ++ (x ∷ []))
        in_order =
            let e : rows + (k + 1) ≡ suc (rows + k) = omega arith in
            rw e (take-suc-set order (rows + k) x (omega (arith, s.few, s.long))) ∙ ap (λ r. r ++ (x ∷ [])) s.in_order
            ∙ append_assoc (firsts (behind stored) rows) l (x ∷ [])

        placed : (i : ℕ) → i < k + 1 → Dec (i < k) → get_or (set places x (rows + k)) (get_or (l ++ (x ∷ [])) i 0) 0 ≡ rows + i
        placed i q (yes m) =
            let w : i < length l = omega (arith, s.counted) in
            let c = (rising_each s.rising).each i w in
            rw ((more_grown l x).kept i w) (get_or-set_other places x (get_or l i 0) (rows + k) 0 (λ e. omega (arith, c.below)) ∙ s.placed i m)
        placed i q (no m) =
            let e : i ≡ k = omega arith in
            let last : get_or (l ++ (x ∷ [])) k 0 ≡ x = rw s.counted at (more_last l x) in
            rw (e, last) (get_or-set_same places x (rows + k) 0 (omega (arith, s.entries)))

  -- when every row of the store has been looked at
  pub arranging_all : {x k : ℕ} → Arranging P stored rows order places x k → stored ≤ x → stored ≤ 1024 → Arranged P stored rows order places (rows + k)
  arranging_all {x} {k} s h low =
      record {
        rising = rw (here, all) s.rising;
        in_order = rw here s.in_order;
        counted = rw here (ap (λ n. rows + n) (sym s.counted));
        placed = λ i q. rw here (s.placed i (omega (arith, s.counted, ap length here)));
        long = omega (arith, s.few, s.low, s.long);
        entries = s.entries;
        low = low;
      }
    where
      all : stored ≡ x
      all = omega (arith, s.low)

      here : appended_in rows (rows + k) order ≡ s.appended
      here =
          ap (drop rows) s.in_order
          ∙ rw (firsts_length (behind stored) rows) at (drop-append_seam (firsts (behind stored) rows) s.appended)

-- ---- as the code has it: a test of the queue

module _ (queue : List ℕ) (filled stored rows : ℕ) (order places : List ℕ) (x k : ℕ) (s : Arranging (Member (take filled queue)) stored rows order places x k) (h : x < stored) (t : Bool) (e : t ≡ has (take filled queue) x) where
  pub row_past : not t ≡ true → Arranging (Member (take filled queue)) stored rows order places (x + 1) k
  row_past q = arranging_past s h (passed_no {r = t} (rw e (has_says (take filled queue) x)) q)

  pub row_with : (order' places' : List ℕ) → not t ≡ false → order' ≡ set order (rows + k) x → places' ≡ set places x (rows + k) → Arranging (Member (take filled queue)) stored rows order' places' (x + 1) (k + 1)
  row_with order' places' q o p = rw (o, p) (arranging_with s h (passed_yes {r = t} (rw e (has_says (take filled queue) x)) q))
