-- What the converter writes where nothing is wrong, reckoned; and that the contract allows this outcome and no other.
use Prim.Native.Nat.{ℕ, zero, suc, ◌+◌, ◌<◌}
use native.Mathlib.Omega.{arith}
use mathlib.Core.Path.{◌≡◌, sym}
use mathlib.Core.Bool.{Bool, true, false}
use mathlib.Core.List.{List, [], ◌∷◌, ◌++◌}
use lib.ListN.{length}
use lib.Dec.{leb, eqb}
use Rattle.std.specs.Prelude.{None, Ok}
use borrow.Author.Tests.{leb-true}
use Rattle.rules.specs.Pick.{pick}
use Rattle.rules.specs.Answers.{Says, says_yes, says_no}
use Rattle.rules.specs.Writes.{over_front}
use Rattle.rules.proofs.Answers.{said_no, says_same}
use Rattle.rules.proofs.Tested.{says_equal}
use Rattle.trees.specs.Graph.{Graph, Closed}
use Rattle.sheet.specs.Format.{row_count_of, most_rows}
use Rattle.sheet.specs.Read.{read_sheet}
use Rattle.sheet.specs.Points.{PointsNowhere, rows_point}
use Rattle.sheet.specs.Refusals.{Readable}
use Rattle.sheet.proofs.Readable.{read_readable}
use Rattle.sheet.proofs.Pointed.{somewhere_none}
use Rattle.store.specs.Layout.{in_use, room}
use Rattle.store.specs.Sound.{Sound}
use Rattle.rows.specs.Named.{ShortWire, SheetWireLoop}
use Rattle.walks.specs.Walk.{has}
use Rattle.walks.specs.Key.{walk_all}
use Rattle.walks.specs.Member.{Member}
use Rattle.walks.proofs.Members.{has_says}
use Rattle.walks.proofs.Reached.{all_leads}
use Rattle.fronting.specs.Together.{as_drawn}
use Rattle.checking.proofs.Soundness.{is_sound, says_sound}
use Rattle.converts.specs.Rising.{Rising, rising_none, rising_with, rising_past}
use Rattle.converts.specs.Result.{FromSheet}
use Rattle.converts.specs.Convert.{result, ConvertSays, says_done, SameOutcome}
use Rattle.converts.specs.declared.outcome.Converted.{Converted}
use Rattle.converts.proofs.Against.{against_closed}
use Rattle.converts.proofs.OneOutcome.{convert_unique}
use Rattle.examples.proofs.Wires.{any_below, Found, says_any, some_short, says_short, some_looped, says_looped}

-- ---- the reckoning

-- row n of the store is met by the walk from a row of the sheet
unfoldable pub reached_from : Graph → (stored rows n : ℕ) → Bool
reached_from g stored rows n = any_below (λ i. has (walk_all g (stored + rows) (stored + i)) n) rows

-- the numbers below n that pass, rising
unfoldable pub risen : (ℕ → Bool) → ℕ → List ℕ
risen t zero = []
risen t (suc n) = pick (t n) (risen t n ++ (n ∷ [])) (risen t n)

unfoldable pub reached_rows : (w b : List ℕ) → List ℕ
reached_rows w b = risen (reached_from (as_drawn w b) (in_use w) (row_count_of b)) (in_use w)

unfoldable pub converted_sheet : (w b : List ℕ) → List ℕ
converted_sheet w b = result w b (reached_rows w b)

-- nothing before 20 is wrong with store and sheet
unfoldable pub is_convertible : (w b : List ℕ) → Bool
is_convertible w b =
    pick (eqb (length w) 0) false
    (pick (is_sound w) (pick (some_short b) false (pick (some_looped b) false true)) false)

-- ---- the contract allows it

risen_rising : {P : ℕ → Type 0} {t : ℕ → Bool} → ((n : ℕ) → Says (P n) (t n)) → (n : ℕ) → Rising P n (risen t n)
unfolding risen
risen_rising each zero = rising_none
risen_rising {P} {t} each (suc n) = go (t n) (each n) (risen_rising each n)
  where
    go : (x : Bool) → Says (P n) x → Rising P n (risen t n) → Rising P (suc n) (pick x (risen t n ++ (n ∷ [])) (risen t n))
    go true (says_yes p) r = rising_with r p
    go false (says_no q) r = rising_past r q

says_reached : {g : Graph} {stored rows : ℕ} → Closed g (stored + rows) → (n : ℕ) → Says (FromSheet g stored rows n) (reached_from g stored rows n)
unfolding reached_from
says_reached {g} {stored} {rows} c n = says_same (there, back) (says_any rows (λ i. has_says (walk_all g (stored + rows) (stored + i)) n))
  where
    there : Found (λ i. Member (walk_all g (stored + rows) (stored + i)) n) rows → FromSheet g stored rows n
    there f = let l = f.below in record { row = f.row; of_sheet = l; leads = (all_leads {u = stored + f.row} c (omega arith)).0 f.holds }

    back : FromSheet g stored rows n → Found (λ i. Member (walk_all g (stored + rows) (stored + i)) n) rows
    back f = let l = f.of_sheet in record { row = f.row; below = l; holds = (all_leads {u = stored + f.row} c (omega arith)).1 f.leads }

-- what the contract of the converter allows is this and nothing else: the number, the bytes written, the place, and the buffer after
pub record Converts (w b out : List ℕ) (number bytes place : ℕ) (out' : List ℕ) : Type 0 where
  pub allowed : ConvertSays w b out (record { number = number; bytes = bytes; place = place }) out'
  pub only : (r : Converted) (o : List ℕ) → ConvertSays w b out r o → SameOutcome r (record { number = number; bytes = bytes; place = place }) o out'

module _ {w b out out' : List ℕ} {bytes : ℕ} where
  settled : 0 < length w → Sound room w → Readable b → (PointsNowhere b (in_use w) → ⊥) → (ShortWire b → ⊥) → (SheetWireLoop b → ⊥)
      → leb (row_count_of b + length (reached_rows w b)) most_rows ≡ true → leb (length (converted_sheet w b)) (length out) ≡ true
      → over_front (converted_sheet w b) out ≡ out' → length (converted_sheet w b) ≡ bytes → ConvertSays w b out (record { number = 0; bytes = bytes; place = 0 }) out'
  unfolding reached_rows converted_sheet
  settled words sound readable leads straight unlooped few long written counted =
      says_done
      (record {
        words = words;
        sound = sound;
        readable = readable;
        leads = leads;
        straight = straight;
        unlooped = unlooped;
        rows = reached_rows w b;
        appended = record {
          rising = risen_rising
              (says_reached (against_closed (record { shaped = sound.shaped; readable = readable; leads = leads; straight = straight; unlooped = unlooped })))
              (in_use w);
        };
        few = leb-true (row_count_of b + length (reached_rows w b)) most_rows few;
        long = leb-true (length (converted_sheet w b)) (length out) long;
        written = sym written;
        counted = sym counted;
      })

  pub computed_convert : is_convertible w b ≡ true → read_sheet b ≡ Ok (row_count_of b) → rows_point b (row_count_of b) (in_use w) (row_count_of b) 7 ≡ None
      → leb (row_count_of b + length (reached_rows w b)) most_rows ≡ true → leb (length (converted_sheet w b)) (length out) ≡ true
      → over_front (converted_sheet w b) out ≡ out' → length (converted_sheet w b) ≡ bytes → Converts w b out 0 bytes 0 out'
  unfolding is_convertible
  computed_convert e read point few long written counted =
      let s = go (eqb (length w) 0) (says_equal (length w) 0) (is_sound w) (says_sound w) (some_short b) (says_short b) (some_looped b) (says_looped b (in_use w) readable leads) e in
      record { allowed = s; only = λ r o t. convert_unique t s }
    where
      readable : Readable b
      readable = (read_readable b (row_count_of b) (sym read)).0

      leads : PointsNowhere b (in_use w) → ⊥
      leads = somewhere_none b (in_use w) point

      never : false ≡ true → ⊥
      never q = let z : ◌≡◌ {A = ℕ} 0 1 = cc in omega arith

      go : (x : Bool) → Says (length w ≡ 0) x → (y : Bool) → Says (Sound room w) y → (s : Bool) → Says (ShortWire b) s → (l : Bool) → ((ShortWire b → ⊥) → Says (SheetWireLoop b) l)
          → pick x false (pick y (pick s false (pick l false true)) false) ≡ true → ConvertSays w b out (record { number = 0; bytes = bytes; place = 0 }) out'
      go true x y a s c l d q = absurd (never q)
      go false x false a s c l d q = absurd (never q)
      go false x true a true c l d q = absurd (never q)
      go false (says_no x) true (says_yes a) false (says_no c) true d q = absurd (never q)
      go false (says_no x) true (says_yes a) false (says_no c) false d q =
          settled (omega arith) a readable leads c (said_no (d c)) few long written counted
