-- The front's answer, from what reading and pointing answered.
use Prim.Native.Nat.{ℕ, ◌≤◌}
use native.Mathlib.Omega.{arith}
use mathlib.Core.Path.{◌≡◌, refl, sym, ap, ◌∙◌}
use mathlib.Core.List.{List, [], ◌∷◌, ◌++◌}
use lib.ListN.{length}
use Rattle.rules.specs.Refusals.{Refusal, ◌when◌, NoneOf}
use Rattle.rules.proofs.Refusals.{first_here, first_later, first_front, first_past}
use Rattle.sheet.specs.Format.{row_count_of, start, store_numbers}
use Rattle.sheet.specs.Read.{fault, read_sheet, number_of, fault_of}
use Rattle.sheet.specs.declared.fault.Fault.{Fault}
use Rattle.std.specs.Prelude.{Bool, true, false, Option, Some, None, is_some, Result, Ok, Err}
use Rattle.sheet.specs.Points.{PointsNowhere, NamesStore, rows_point}
use Rattle.sheet.specs.Refusals.{Readable, sheet_refusals}
use Rattle.sheet.specs.Faults.{astray_of, fault_at}
use Rattle.sheet.proofs.Faults.{fault_read, fault_six, fault_19}
use Rattle.sheet.proofs.Readable.{sheet_first, read_readable, readable_right}
use Rattle.sheet.proofs.Outcome.{refused_number}
use Rattle.sheet.proofs.Within.{leads_names}
use Rattle.sheet.proofs.Pointed.{somewhere_none, nowhere_some, names_none, names_some}
use Rattle.sheet.specs.Front.{sheet_list, old_sheet_list, Astray, FrontSays, front_refused, front_rows}

-- 3 to 5 first, and then other refusals
read_stays : (m : List Refusal) (b : List ℕ) (stored : ℕ) (r : Result ℕ Fault) → r ≡ read_sheet b → (f : Fault) → r ≡ Err f → FrontSays (sheet_refusals b ++ m) b stored (Err f)
read_stays m b stored r e f q =
    let n : number_of (read_sheet b) ≡ f.number = ap number_of (sym e ∙ q) in
    let z = refused_number b f (sym q ∙ e) in
    let y : number_of (read_sheet b) ≡ 0 → ⊥ = λ k. z (sym n ∙ k) in
    let p : fault_of (read_sheet b) ≡ f.place = ap fault_of (sym e ∙ q) in
    front_refused
    (first_front m (rw n at (sheet_first b)) z)
    z
    (sym p ∙ sym (fault_read b stored y) ∙ ap (λ k. fault_at k b stored) n)

-- nothing of 3 to 5 applies to a readable sheet
read_past : (b : List ℕ) → Readable b → NoneOf (sheet_refusals b)
read_past b r = readable_right b r

module _ (b : List ℕ) (r : Result ℕ Fault) (e : r ≡ read_sheet b) (rows : ℕ) (q : r ≡ Ok rows) where
  pub read_readable' : Readable b × (rows ≡ row_count_of b)
  read_readable' = read_readable b rows (sym q ∙ e)

  pub read_ends : start b rows ≤ length b
  read_ends = let p = read_readable' in rw p.1 (omega (arith, p.0.whole))

  counted : (stored : ℕ) (a : Option ℕ) → a ≡ rows_point b rows stored rows 7 → a ≡ rows_point b (row_count_of b) stored (row_count_of b) 7
  counted stored a t = rw read_readable'.1 at t

-- ---- 19 and 6

some_is : (a : Option ℕ) → is_some a ≡ true → (x : ℕ) × (a ≡ Some x)
some_is None e = let z : ◌≡◌ {A = ℕ} 0 1 = cc in absurd (omega arith)
some_is (Some x) e = (x, refl)

none_is : (a : Option ℕ) → is_some a ≡ false → a ≡ None
none_is None e = refl
none_is (Some x) e = let z : ◌≡◌ {A = ℕ} 0 1 = cc in absurd (omega arith)

module _ (b : List ℕ) (r : Result ℕ Fault) (e : r ≡ read_sheet b) where
  pub read_refused : (f : Fault) → r ≡ Err f → FrontSays (sheet_list b) b 0 (Err f)
  read_refused = read_stays ((19 when NamesStore b) ∷ (6 when PointsNowhere b 0) ∷ []) b 0 r e

  module _ (rows : ℕ) (q : r ≡ Ok rows) (a : Option ℕ) (t : a ≡ rows_point b rows 0 rows 7) where
    pub points_somewhere : a ≡ None → FrontSays (sheet_list b) b 0 (Ok rows)
    points_somewhere s =
        let p = read_readable' b r e rows q in
        let n = readable_right b p.0 in
        let l = somewhere_none b 0 (sym (counted b r e rows q 0 a t) ∙ s) in
        front_rows p.1 p.0 l (n.0, (n.1.0, (n.1.1.0, (leads_names b l, (l, tt)))))

    pub points_astray : (at : ℕ) → a ≡ Some at → Astray b rows at
    points_astray at s =
        let p = read_readable' b r e rows q in
        record { readable = p.0; numbered = p.1; lost = sym (counted b r e rows q 0 a t) ∙ s }

module _ (b : List ℕ) (rows at : ℕ) (x : Astray b rows at) where
  pub astray_ends : start b rows ≤ length b
  astray_ends = rw x.numbered (omega (arith, x.readable.whole))

  module _ (a : Option ℕ) (t : a ≡ rows_point b store_numbers 0 rows 7) (r : Bool) (k : r ≡ is_some a) where
    named : a ≡ rows_point b store_numbers 0 (row_count_of b) 7
    named = rw x.numbered at t

    pub astray_six : r ≡ false → FrontSays (sheet_list b) b 0 (Err (fault 6 at))
    astray_six s =
        let n = names_none b (sym named ∙ none_is a (sym k ∙ s)) in
        front_refused
        (first_past (sheet_refusals b) (read_past b x.readable) (first_later n (first_here (nowhere_some b 0 at x.lost))))
        (λ z. omega arith)
        (ap astray_of (sym x.lost) ∙ sym (fault_six b 0))

    pub astray_names : r ≡ true → FrontSays (sheet_list b) b 0 (Err (fault 19 0))
    astray_names s =
        let p = some_is a (sym k ∙ s) in
        front_refused
        (first_past (sheet_refusals b) (read_past b x.readable) (first_here (names_some b p.0 (sym named ∙ p.1))))
        (λ z. omega arith)
        (sym (fault_19 b 0))

-- ---- the old rule

module _ (b : List ℕ) (stored : ℕ) (r : Result ℕ Fault) (e : r ≡ read_sheet b) where
  pub old_refused : (f : Fault) → r ≡ Err f → FrontSays (old_sheet_list b stored) b stored (Err f)
  old_refused = read_stays ((6 when PointsNowhere b stored) ∷ []) b stored r e

  module _ (rows : ℕ) (q : r ≡ Ok rows) (a : Option ℕ) (t : a ≡ rows_point b rows stored rows 7) where
    pub old_somewhere : a ≡ None → FrontSays (old_sheet_list b stored) b stored (Ok rows)
    old_somewhere s =
        let p = read_readable' b r e rows q in
        let n = readable_right b p.0 in
        let l = somewhere_none b stored (sym (counted b r e rows q stored a t) ∙ s) in
        front_rows p.1 p.0 l (n.0, (n.1.0, (n.1.1.0, (l, tt))))

    pub old_nowhere : (at : ℕ) → a ≡ Some at → FrontSays (old_sheet_list b stored) b stored (Err (fault 6 at))
    old_nowhere at s =
        let p = read_readable' b r e rows q in
        let c = counted b r e rows q stored a t in
        front_refused
        (first_past (sheet_refusals b) (read_past b p.0) (first_here (nowhere_some b stored at (sym c ∙ s))))
        (λ z. omega arith)
        (ap astray_of (sym s ∙ c) ∙ sym (fault_six b stored))
