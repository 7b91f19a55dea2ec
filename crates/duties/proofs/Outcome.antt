-- Duty 1 for an insert, and that it has one outcome: refused with the first number that applies and nothing changed, or done.
use Prim.Native.Nat.{ℕ, ◌≤◌, ◌<◌}
use native.Mathlib.Omega.{arith}
use native.Mathlib.Decide.{dec_le}
use mathlib.Core.Path.{◌≡◌, refl, sym, ap, ◌∙◌}
use mathlib.Core.List.{List, [], ◌∷◌, ◌++◌}
use mathlib.Core.Logic.{◌⊎◌, inl, inr}
use lib.ListN.{length}
use lib.Dec.{leb, eqb}
use borrow.Author.Tests.{ne_eqb, le-leb, lt-leb}
use Rattle.rules.specs.Pick.{pick}
use Rattle.rules.specs.Refusals.{Refusal, ◌when◌, FirstIn, First, NoneOf}
use Rattle.rules.specs.Writes.{over_front}
use Rattle.rules.proofs.Refusals.{first_unique, none_done}
use Rattle.sheet.specs.Format.{row_count_of}
use Rattle.sheet.specs.Read.{read_sheet, fault_of}
use Rattle.sheet.specs.Points.{rows_point}
use Rattle.sheet.specs.Front.{sheet_list}
use Rattle.sheet.specs.Faults.{FaultSays, at_none, astray_of, fault_at}
use Rattle.sheet.proofs.Readable.{readable_right}
use Rattle.sheet.proofs.Within.{leads_names}
use Rattle.sheet.proofs.Faults.{fault_says}
use Rattle.store.specs.Layout.{in_use, room}
use Rattle.store.specs.Sound.{Sound}
use Rattle.writing.proofs.Same.{sorted_same, below_same, answers_same, after_same}
use Rattle.fronting.specs.Front.{wire_list}
use Rattle.fronting.specs.Together.{all_rows}
use Rattle.inserting.specs.Insert.{NoRoom, insert_refusals, InsertDone, InsertSays, says_refused, says_done}
use Rattle.inserting.specs.declared.insertion.Inserted.{Inserted}
use Rattle.duties.specs.Words.{SameOutcome}
use Rattle.duties.proofs.Done.{closed, done_sound}

-- ---- done: nothing of the list applies

pub done_refuses_none : {w b answers w' answers' : List ℕ} {added : ℕ} → InsertDone w b answers w' answers' added → NoneOf (insert_refusals w b answers)
done_refuses_none {w} {b} {answers} d =
    let n = readable_right b d.readable in
    let h = d.words in
    let l = d.long in
    (λ z. omega arith, ((λ f. f d.sound), (n.0, (n.1.0, (n.1.1.0, (leads_names b d.leads, (d.leads, (d.straight, (d.unlooped, (λ q. omega arith, (full, tt)))))))))))
  where
    full : NoRoom w b → ⊥
    full x =
        let e = below_same (sorted_same x.sorted d.sorted) (all_rows w b) (omega arith) in
        omega (arith, x.over, d.fits)

pub done_first : {w b answers w' answers' : List ℕ} {added : ℕ} → InsertDone w b answers w' answers' added → First (insert_refusals w b answers) 0
done_first {w} {b} {answers} d = none_done (insert_refusals w b answers) (done_refuses_none d)

-- the number given is the first of the list that applies, or 0
pub insert_first : {w b answers : List ℕ} {r : Inserted} {w' answers' : List ℕ} → InsertSays w b answers r w' answers' → First (insert_refusals w b answers) r.number
insert_first (says_refused f z o) = f
insert_first (says_done d) = done_first d

-- ---- the place given is the one that the words name

-- no number of the list is a fault of the sheet
abbrev pub Faultless : List Refusal → Type 0
Faultless [] = Unit
Faultless (x ∷ l) = (3 ≤ x.number → x.number ≤ 6 → ⊥) × Faultless l

-- the first of two lists, one before the other, is the first of one of them
of_either : (l m : List Refusal) (r : ℕ) → FirstIn (l ++ m) r → FirstIn l r ⊎ FirstIn m r
of_either [] m r f = inr f
of_either (x ∷ l) m r (inl p) = inl (inl p)
of_either (x ∷ l) m r (inr (c, p)) = go (of_either l m r p)
  where
    go : FirstIn l r ⊎ FirstIn m r → FirstIn (x ∷ l) r ⊎ FirstIn m r
    go (inl q) = inl (inr (c, q))
    go (inr q) = inr q

module _ (b : List ℕ) (stored : ℕ) where
  no_fault : (n : ℕ) → (3 ≤ n → n ≤ 6 → ⊥) → fault_at n b stored ≡ 0
  unfolding fault_at
  no_fault n h = go (dec_le 3 n)
    where
      go : Dec (3 ≤ n) → pick (eqb n 6) (astray_of (rows_point b (row_count_of b) stored (row_count_of b) 7)) (pick (leb 3 n) (pick (leb n 5) (fault_of (read_sheet b)) 0) 0) ≡ 0
      go (yes l) = simp (ne_eqb n 6 (λ e. h l (omega arith)), le-leb 3 n l, lt-leb n 5 (past l (dec_le n 5)))
        where
          past : 3 ≤ n → Dec (n ≤ 5) → 5 < n
          past l (yes k) = absurd (h l (omega arith))
          past l (no k) = omega arith
      go (no l) = simp (ne_eqb n 6 (λ e. omega arith), lt-leb 3 n (omega arith))

  none_at : {r : ℕ} (n : ℕ) → r ≡ n → (3 ≤ n → n ≤ 6 → ⊥) → FaultSays b stored r (fault_at r b stored)
  none_at n e h = rw (e, no_fault n h) (at_none h)

  fault_none : (m : List Refusal) {r : ℕ} → Faultless m → FirstIn m r → FaultSays b stored r (fault_at r b stored)
  fault_none [] n e = none_at 0 e (λ i k. omega arith)
  fault_none (x ∷ m) n (inl p) = none_at x.number p.1 n.0
  fault_none (x ∷ m) n (inr p) = fault_none m n.1 p.1

  -- in any list that has the sheet's refusals among others that are no faults of it
  pub fault_among : (l sheet m : List Refusal) {r : ℕ} → ((n : ℕ) → First sheet n → FaultSays b stored n (fault_at n b stored)) → Faultless l → Faultless m → FirstIn (l ++ (sheet ++ m)) r → FaultSays b stored r (fault_at r b stored)
  fault_among [] sheet m {r} says n o f = go (of_either sheet m r f)
    where
      go : FirstIn sheet r ⊎ FirstIn m r → FaultSays b stored r (fault_at r b stored)
      go (inl p) = says r (record { first = p })
      go (inr p) = fault_none m o p
  fault_among (x ∷ l) sheet m says n o (inl p) = none_at x.number p.1 n.0
  fault_among (x ∷ l) sheet m says n o (inr p) = fault_among l sheet m says n.1 o p.1

pub insert_fault : {w b answers : List ℕ} {r : Inserted} {w' answers' : List ℕ} → InsertSays w b answers r w' answers' → FaultSays b 0 r.number r.place
insert_fault {w} {b} {answers} (says_refused f z o) =
    rw o
    (fault_among b 0
    ((1 when (length w ≡ 0)) ∷ (2 when (Sound room w → ⊥)) ∷ [])
    (sheet_list b)
    (wire_list b ++ ((7 when (length answers < row_count_of b)) ∷ (8 when NoRoom w b) ∷ []))
    (λ n p. fault_says b p)
    (λ i k. omega arith, (λ i k. omega arith, tt))
    (λ i k. omega arith, (λ i k. omega arith, (λ i k. omega arith, (λ i k. omega arith, tt))))
    f.first)
insert_fault (says_done d) = at_none {number = 0} (λ i k. omega arith)

-- ---- one outcome

done_same : {w b answers v a v' a' : List ℕ} {m m' : ℕ} → InsertDone w b answers v a m → InsertDone w b answers v' a' m' → SameOutcome (record { number = 0; added = m; place = 0 }) (record { number = 0; added = m'; place = 0 }) v v' a a'
done_same {w} {b} {answers} {m = m} {m' = m'} d x =
    let c = sorted_same d.sorted x.sorted in
    let t = below_same c (all_rows w b) (omega arith) in
    let n : m ≡ m' = omega (arith, d.grown, x.grown) in
    record {
      result = rw n;
      store = d.stored ∙ after_same c (closed d) room (in_use w) w ∙ sym x.stored;
      answers = d.answered ∙ ap (λ l. over_front l answers) (answers_same c (in_use w) (row_count_of b) (omega arith)) ∙ sym x.answered;
    }

pub insert_unique : {w b answers : List ℕ} {r s : Inserted} {v v' a a' : List ℕ} → InsertSays w b answers r v a → InsertSays w b answers s v' a' → SameOutcome r s v v' a a'
insert_unique (says_refused f z o) (says_refused g y q) = let e = first_unique f g in record { result = rw (o, q, e); store = refl; answers = refl }
insert_unique (says_refused f z o) (says_done d) = absurd (z (first_unique f (done_first d)))
insert_unique (says_done d) (says_refused g y q) = absurd (y (first_unique g (done_first d)))
insert_unique (says_done d) (says_done x) = done_same d x

-- ---- whatever the outcome, a sound store with words stays one

pub stays_sound : {w b answers : List ℕ} {r : Inserted} {w' answers' : List ℕ} → Sound room w → InsertSays w b answers r w' answers' → Sound room w'
stays_sound s (says_refused f z o) = s
stays_sound s (says_done d) = done_sound d
