-- Wires followed by a sheet's own numbers lead where they lead in the view: what 14 and 15 say of a sheet needs no store.
use Prim.Native.Nat.{ℕ, zero, suc, ◌+◌, ◌-◌, ◌≤◌, ◌<◌}
use native.Mathlib.Omega.{arith}
use native.Mathlib.Decide.{dec_lt, ℕ_discrete}
use mathlib.Core.Path.{◌≡◌, refl, sym, ap, ◌∙◌}
use mathlib.Core.Bool.{Bool, true}
use mathlib.Core.List.{List}
use borrow.Author.Tests.{lt-ltb, le-ltb, ltb-true}
use Rattle.sheet.specs.Format.{label_at, count_at, input_at, start, row_count_of, store_numbers}
use Rattle.sheet.specs.Points.{points_to}
use Rattle.wires.specs.Wires.{is_wire, Wire, follow, most_wires, through, WireLoop, WiresFit}
use Rattle.wires.proofs.Following.{Told, told_wire, told_plain, told, follow_none, follow_wire, follow_plain}
use Rattle.wires.proofs.WireLoops.{loop_wires, Astray, Kept, wires_loop}
use Rattle.rows.specs.Joined.{Source, leads_to, row_place, drawn}
use Rattle.rows.specs.View.{Laid}
use Rattle.rows.specs.Named.{named, ShortWire, SheetWireLoop}
use Rattle.rows.proofs.Leads.{leads_sheet, leads_store}
use Rattle.rows.proofs.Joined.{sheet_label, sheet_count, sheet_input}
use Rattle.rows.proofs.View.{laid_plain}

-- a number that names a row of the sheet or of the store
pub record Names (rows stored x : ℕ) : Type 0 where
  pub sheet : x < store_numbers → x < rows
  pub store : store_numbers ≤ x → x - store_numbers < stored

pub points_names : (rows stored x : ℕ) → points_to rows stored x ≡ true → Names rows stored x
unfolding points_to
points_names rows stored x e =
    record {
      sheet = λ h. ltb-true x rows (rw (lt-ltb x store_numbers h) at e);
      store = λ h. ltb-true (x - store_numbers) stored (rw (le-ltb x store_numbers h) at e);
    }

-- every input of the first so many rows names a row, and each wire among them has one input
pub record Straight (b : List ℕ) (rows stored : ℕ) : Type 0 where
  pub few : rows ≤ store_numbers
  pub points : (i j : ℕ) → i < rows → j < count_at b (start b i) → points_to rows stored (input_at b (start b i) j) ≡ true
  pub one : (i : ℕ) → i < rows → Wire (named b) i → count_at b (start b i) ≡ 1

-- ---- by the sheet's own numbers

module _ (b : List ℕ) where
  pub named_label : (x : ℕ) → x < store_numbers → (named b).label x ≡ label_at b (start b x)
  unfolding named
  named_label x h = simp (lt-ltb x store_numbers h)

  pub named_past : (x : ℕ) → store_numbers ≤ x → Wire (named b) x → ⊥
  unfolding named
  named_past x h w = let z : is_wire 0 ≡ true = rw (le-ltb x store_numbers h) at w.is in let q : ◌≡◌ {A = ℕ} 0 1 = cc in omega arith

  pub named_input : (x j : ℕ) → (named b).input x j ≡ input_at b (start b x) j
  unfolding named
  named_input x j = refl

module _ {b : List ℕ} {rows stored : ℕ} (s : Straight b rows stored) where
  pub names_row : (x : ℕ) → x < rows → Names rows stored x
  names_row x h = record { sheet = λ k. h; store = λ k. absurd (omega (arith, s.few)) }

  -- a wire is a row of the sheet
  pub wire_row : (x : ℕ) → Names rows stored x → Wire (named b) x → x < rows
  wire_row x n w = go (dec_lt x store_numbers)
    where
      go : Dec (x < store_numbers) → x < rows
      go (yes h) = n.sheet h
      go (no h) = absurd (named_past b x (omega arith) w)

  -- and its input names a row
  pub names_first : (x : ℕ) → x < rows → Wire (named b) x → Names rows stored ((named b).input x 0)
  names_first x h w =
      let c = s.one x h w in
      rw (named_input b x 0) (points_names rows stored (input_at b (start b x) 0) (s.points x 0 h (omega arith)))

  pub names_follow : (k x : ℕ) → Names rows stored x → Names rows stored (follow (named b) k x)
  names_follow zero x n = rw (follow_none (named b) x) n
  names_follow (suc k) x n = go (told (named b) x) (names_follow k ((named b).input x 0))
    where
      go : {t : Bool} → Told (named b) x t → (Names rows stored ((named b).input x 0) → Names rows stored (follow (named b) k ((named b).input x 0))) → Names rows stored (follow (named b) (suc k) x)
      go (told_wire w) ih = rw (follow_wire (named b) k x w) (ih (names_first x (wire_row x n w) w))
      go (told_plain p) ih = rw (follow_plain (named b) (suc k) x p) n

  pub names_kept : (x : ℕ) → Names rows stored x → Kept (named b) rows x
  names_kept x n = record { low = λ k w. wire_row (follow (named b) k x) (names_follow k x n) w }

-- wires that lead to a wire, after as many as can follow one another, lead to a loop of wires; and from a loop they do
module _ {b : List ℕ} where
  pub through_loop : {stored : ℕ} → Straight b (row_count_of b) stored → row_count_of b ≤ most_wires → (i : ℕ) → i < row_count_of b → Wire (named b) (through (named b) i) → SheetWireLoop b
  through_loop {stored} t few i l w = go (wires_loop (named b) (names_kept t i (names_row t i l)) few w)
    where
      go : Astray (named b) i → SheetWireLoop b
      go a =
          record {
            row = follow (named b) a.steps i;
            of_sheet = wire_row t (follow (named b) a.steps i) (names_follow t a.steps i (names_row t i l)) a.loop.wire;
            loop = a.loop;
          }

  pub loop_through : (o : SheetWireLoop b) → Wire (named b) (through (named b) o.row)
  loop_through o = loop_wires (named b) o.loop most_wires

-- ---- in the view

-- row x of the sheet, in the view
module _ (s : Source) (x : ℕ) (h : x < store_numbers) where
  place : row_place s (s.stored + x) ≡ start s.bytes x
  place = let z : s.stored + x - s.stored ≡ x = omega arith in rw z

  pub drawn_label : (drawn s).label (s.stored + x) ≡ (named s.bytes).label x
  drawn_label = sheet_label s (s.stored + x) (omega arith) ∙ ap (label_at s.bytes) place ∙ sym (named_label s.bytes x h)

  pub drawn_count : (drawn s).count (s.stored + x) ≡ count_at s.bytes (start s.bytes x)
  drawn_count = sheet_count s (s.stored + x) (omega arith) ∙ ap (count_at s.bytes) place

  pub drawn_input : (j : ℕ) → (drawn s).input (s.stored + x) j ≡ leads_to s.stored ((named s.bytes).input x j)
  drawn_input j =
      sheet_input s (s.stored + x) (omega arith) j
      ∙ ap (λ at. leads_to s.stored (input_at s.bytes at j)) place
      ∙ ap (leads_to s.stored) (sym (named_input s.bytes x j))

  pub drawn_named : Wire (drawn s) (s.stored + x) → Wire (named s.bytes) x
  drawn_named w = record { is = ap is_wire (sym drawn_label) ∙ w.is }

  pub named_drawn : Wire (named s.bytes) x → Wire (drawn s) (s.stored + x)
  named_drawn w = record { is = ap is_wire drawn_label ∙ w.is }

module _ {s : Source} {rows : ℕ} (v : Laid s rows) where
  -- a wire of the view is a row of the sheet
  pub record OfSheetWire (u : ℕ) : Type 0 where
    pub row : ℕ
    pub of_sheet : row < rows
    pub is : s.stored + row ≡ u

  pub wire_of_sheet : (u : ℕ) → u < s.stored + rows → Wire (drawn s) u → OfSheetWire u
  wire_of_sheet u h w = go (dec_lt u s.stored)
    where
      go : Dec (u < s.stored) → OfSheetWire u
      go (yes q) = absurd ((laid_plain v).plain u q w)
      go (no q) = record { row = u - s.stored; of_sheet = omega arith; is = omega arith }

  pub straight_fits : Straight s.bytes rows s.stored → WiresFit (drawn s) (s.stored + rows)
  straight_fits t = record { one = λ u h w. go u (wire_of_sheet u h w) w }
    where
      go : (u : ℕ) → OfSheetWire u → Wire (drawn s) u → (drawn s).count u ≡ 1
      go u o w =
          let l : o.row < store_numbers = omega (arith, t.few, o.of_sheet) in
          rw (← o.is) (drawn_count s o.row l ∙ t.one o.row o.of_sheet (drawn_named s o.row l (rw (sym o.is) at w)))

  module _ (t : Straight s.bytes rows s.stored) where
    pub named_follow : (k x : ℕ) → Names rows s.stored x → leads_to s.stored (follow (named s.bytes) k x) ≡ follow (drawn s) k (leads_to s.stored x)
    named_follow zero x n = ap (leads_to s.stored) (follow_none (named s.bytes) x) ∙ sym (follow_none (drawn s) (leads_to s.stored x))
    named_follow (suc k) x n = go (dec_lt x store_numbers) (named_follow k ((named s.bytes).input x 0))
      where
        go : Dec (x < store_numbers)
            → (Names rows s.stored ((named s.bytes).input x 0) → leads_to s.stored (follow (named s.bytes) k ((named s.bytes).input x 0)) ≡ follow (drawn s) k (leads_to s.stored ((named s.bytes).input x 0)))
            → leads_to s.stored (follow (named s.bytes) (suc k) x) ≡ follow (drawn s) (suc k) (leads_to s.stored x)
        go (no q) ih =
            let h : store_numbers ≤ x = omega arith in
            let e = leads_store s.stored x h in
            let p = (laid_plain v).plain (x - store_numbers) (n.store h) in
            ap (leads_to s.stored) (follow_plain (named s.bytes) (suc k) x (named_past s.bytes x h))
            ∙ sym (rw e (follow_plain (drawn s) (suc k) (x - store_numbers) p))
        go (yes h) ih = on (told (named s.bytes) x)
          where
            l : x < rows
            l = n.sheet h

            e : leads_to s.stored x ≡ s.stored + x
            e = leads_sheet s.stored x h

            on : {t : Bool} → Told (named s.bytes) x t → leads_to s.stored (follow (named s.bytes) (suc k) x) ≡ follow (drawn s) (suc k) (leads_to s.stored x)
            on (told_wire w) =
                ap (leads_to s.stored) (follow_wire (named s.bytes) k x w)
                ∙ ih (names_first t x l w)
                ∙ ap (follow (drawn s) k) (sym (drawn_input s x h 0))
                ∙ sym (follow_wire (drawn s) k (s.stored + x) (named_drawn s x h w))
                ∙ ap (follow (drawn s) (suc k)) (sym e)
            on (told_plain p) =
                ap (leads_to s.stored) (follow_plain (named s.bytes) (suc k) x p)
                ∙ e
                ∙ sym (follow_plain (drawn s) (suc k) (s.stored + x) (λ w. p (drawn_named s x h w)))
                ∙ ap (follow (drawn s) (suc k)) (sym e)

    -- a loop of wires of the view is one of the sheet
    pub loop_named : (x : ℕ) → x < rows → WireLoop (drawn s) (s.stored + x) → WireLoop (named s.bytes) x
    loop_named x h o = record { wire = drawn_named s x l o.wire; more = o.more; back = back (dec_lt (follow (named s.bytes) (suc o.more) x) store_numbers) }
      where
        l : x < store_numbers
        l = omega (arith, t.few)

        leads : leads_to s.stored (follow (named s.bytes) (suc o.more) x) ≡ s.stored + x
        leads = named_follow (suc o.more) x (names_row t x h) ∙ ap (follow (drawn s) (suc o.more)) (leads_sheet s.stored x l) ∙ o.back

        back : Dec (follow (named s.bytes) (suc o.more) x < store_numbers) → follow (named s.bytes) (suc o.more) x ≡ x
        back (yes q) = omega (arith, leads, leads_sheet s.stored (follow (named s.bytes) (suc o.more) x) q)
        back (no q) =
            let r : store_numbers ≤ follow (named s.bytes) (suc o.more) x = omega arith in
            absurd
            (omega (arith, leads, leads_store s.stored (follow (named s.bytes) (suc o.more) x) r, (names_follow t (suc o.more) x (names_row t x h)).store r))

-- ---- 14 and 15

module _ {s : Source} (v : Laid s (row_count_of s.bytes)) (none : ShortWire s.bytes → ⊥) where
  pub laid_straight : Straight s.bytes (row_count_of s.bytes) s.stored
  laid_straight = record { few = omega (arith, v.few); points = v.points; one = λ i h w. go i h w (ℕ_discrete (count_at s.bytes (start s.bytes i)) 1) }
    where
      go : (i : ℕ) → i < row_count_of s.bytes → Wire (named s.bytes) i → Dec (count_at s.bytes (start s.bytes i) ≡ 1) → count_at s.bytes (start s.bytes i) ≡ 1
      go i h w (yes e) = e
      go i h w (no e) = absurd (none (record { row = i; of_sheet = h; wire = w; counts = e }))

  -- no wire of the view has another input count
  pub laid_fits : WiresFit (drawn s) (s.stored + row_count_of s.bytes)
  laid_fits = straight_fits v laid_straight

  -- and no wires of it are a loop
  pub laid_unlooped : (SheetWireLoop s.bytes → ⊥) → (u : ℕ) → u < s.stored + row_count_of s.bytes → WireLoop (drawn s) u → ⊥
  laid_unlooped free u h o =
      let w = wire_of_sheet v u h o.wire in
      free (record { row = w.row; of_sheet = w.of_sheet; loop = loop_named v laid_straight w.row w.of_sheet (rw (sym w.is) at o) })
