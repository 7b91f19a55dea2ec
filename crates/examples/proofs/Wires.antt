-- Whether a wire of a sheet has not exactly one input, and whether wires are a loop, reckoned.
use Prim.Native.Nat.{ℕ, zero, suc, ◌<◌}
use native.Mathlib.Omega.{arith}
use native.Mathlib.Decide.{dec_lt, ℕ_discrete}
use mathlib.Core.Path.{◌≡◌, refl}
use mathlib.Core.Bool.{Bool, true, false, not}
use mathlib.Core.List.{List}
use lib.Dec.{eqb}
use Rattle.rules.specs.Pick.{pick}
use Rattle.rules.specs.Answers.{Says, says_yes, says_no}
use Rattle.rules.proofs.Answers.{says_same}
use Rattle.rules.proofs.Tested.{says_equal}
use Rattle.trees.specs.Graph.{Graph}
use Rattle.sheet.specs.Format.{row_count_of, start, count_at}
use Rattle.sheet.specs.Points.{PointsNowhere}
use Rattle.sheet.specs.Refusals.{Readable}
use Rattle.wires.specs.Wires.{is_wire, Wire, through, Plain}
use Rattle.rows.specs.Named.{named, ShortWire, SheetWireLoop}
use Rattle.rows.proofs.Naming.{Straight, through_loop, loop_through}
use Rattle.rows.proofs.Views.{none_astray}
use Rattle.checking.proofs.Deciding.{all_below, says_all}

-- ---- whether a row is a wire

says_box : (g : Graph) (u : ℕ) → Says (Wire g u → ⊥) (not (is_wire (g.label u)))
says_box g u = go (is_wire (g.label u)) refl
  where
    go : (t : Bool) → is_wire (g.label u) ≡ t → Says (Wire g u → ⊥) (not t)
    go true e = says_no (λ n. n (record { is = e }))
    go false e = says_yes (λ x. let z : ◌≡◌ {A = ℕ} 0 1 = cc (e, x.is) in omega arith)

-- no row is a wire
unfoldable pub are_plain : Graph → ℕ → Bool
are_plain g n = all_below (λ u. not (is_wire (g.label u))) n

pub says_plain : (g : Graph) (n : ℕ) → Says (Plain g n) (are_plain g n)
unfolding are_plain
says_plain g n = says_same ((λ f. record { plain = f }), (λ p. p.plain)) (says_all n (λ u h. says_box g u))

-- ---- whether some row passes

unfoldable pub any_below : (ℕ → Bool) → ℕ → Bool
any_below t zero = false
any_below t (suc n) = pick (t n) true (any_below t n)

pub record Found (P : ℕ → Type 0) (n : ℕ) : Type 0 where
  pub row : ℕ
  pub below : row < n
  pub holds : P row

pub says_any : {P : ℕ → Type 0} {t : ℕ → Bool} (n : ℕ) → ((j : ℕ) → Says (P j) (t j)) → Says (Found P n) (any_below t n)
unfolding any_below
says_any zero each = says_no (λ f. omega (arith, f.below))
says_any {P} {t} (suc n) each = go (t n) (each n) (says_any n each)
  where
    last : (P n → ⊥) → Found P (suc n) → Found P n
    last q f = at (dec_lt f.row n)
      where
        at : Dec (f.row < n) → Found P n
        at (yes l) = record { row = f.row; below = l; holds = f.holds }
        at (no l) = let e : f.row ≡ n = omega (arith, f.below) in absurd (q (rw e at f.holds))

    go : (x : Bool) → Says (P n) x → Says (Found P n) (any_below t n) → Says (Found P (suc n)) (pick x true (any_below t n))
    go true (says_yes p) more = says_yes (record { row = n; below = omega arith; holds = p })
    go false (says_no q) more =
        says_same ((λ f. record { row = f.row; below = omega (arith, f.below); holds = f.holds }), last q) more

-- ---- 14

abbrev Short : List ℕ → ℕ → Type 0
Short b i = Wire (named b) i × (count_at b (start b i) ≡ 1 → ⊥)

unfoldable pub short_at : List ℕ → ℕ → Bool
short_at b i = pick (is_wire ((named b).label i)) (not (eqb (count_at b (start b i)) 1)) false

unfoldable pub some_short : List ℕ → Bool
some_short b = any_below (short_at b) (row_count_of b)

says_short_row : (b : List ℕ) (i : ℕ) → Says (Short b i) (short_at b i)
unfolding short_at
says_short_row b i = go (is_wire ((named b).label i)) refl (eqb (count_at b (start b i)) 1) (says_equal (count_at b (start b i)) 1)
  where
    go : (t : Bool) → is_wire ((named b).label i) ≡ t → (u : Bool) → Says (count_at b (start b i) ≡ 1) u → Says (Short b i) (pick t (not u) false)
    go true e true (says_yes c) = says_no (λ p. p.1 c)
    go true e false (says_no c) = says_yes (record { is = e }, c)
    go false e u c = says_no (λ p. let z : ◌≡◌ {A = ℕ} 0 1 = cc (e, p.0.is) in omega arith)

pub says_short : (b : List ℕ) → Says (ShortWire b) (some_short b)
unfolding some_short
says_short b = says_same (there, back) (says_any (row_count_of b) (says_short_row b))
  where
    there : Found (Short b) (row_count_of b) → ShortWire b
    there f = record { row = f.row; of_sheet = f.below; wire = f.holds.0; counts = f.holds.1 }

    back : ShortWire b → Found (Short b) (row_count_of b)
    back x = record { row = x.row; below = x.of_sheet; holds = (x.wire, x.counts) }

-- ---- 15

unfoldable pub some_looped : List ℕ → Bool
some_looped b = any_below (λ i. is_wire ((named b).label (through (named b) i))) (row_count_of b)

says_wire : (g : Graph) (u : ℕ) → Says (Wire g u) (is_wire (g.label u))
says_wire g u = go (is_wire (g.label u)) refl
  where
    go : (t : Bool) → is_wire (g.label u) ≡ t → Says (Wire g u) t
    go true e = says_yes (record { is = e })
    go false e = says_no (λ x. let z : ◌≡◌ {A = ℕ} 0 1 = cc (e, x.is) in omega arith)

module _ (b : List ℕ) (stored : ℕ) (r : Readable b) (leads : PointsNowhere b stored → ⊥) (none : ShortWire b → ⊥) where
  one : (i : ℕ) → i < row_count_of b → Wire (named b) i → Dec (count_at b (start b i) ≡ 1) → count_at b (start b i) ≡ 1
  one i h x (yes e) = e
  one i h x (no m) = absurd (none (record { row = i; of_sheet = h; wire = x; counts = m }))

  straight : Straight b (row_count_of b) stored
  straight =
      record {
        few = omega (arith, r.few);
        points = λ i j h l. none_astray b stored i j leads h l;
        one = λ i h x. one i h x (ℕ_discrete (count_at b (start b i)) 1);
      }

  pub says_looped : Says (SheetWireLoop b) (some_looped b)
  unfolding some_looped
  says_looped = says_same (there, back) (says_any (row_count_of b) (λ i. says_wire (named b) (through (named b) i)))
    where
      there : Found (λ i. Wire (named b) (through (named b) i)) (row_count_of b) → SheetWireLoop b
      there f = through_loop straight (omega (arith, r.few)) f.row f.below f.holds

      back : SheetWireLoop b → Found (λ i. Wire (named b) (through (named b) i)) (row_count_of b)
      back o = record { row = o.row; below = o.of_sheet; holds = loop_through o }
