-- The answer: 14 from the filling; after all passes a jump that is a wire is 15, and jumps of which none is one are where the wires lead.
use Prim.Native.Nat.{ℕ, ◌<◌}
use native.Mathlib.Omega.{arith}
use mathlib.Core.Path.{◌≡◌, refl}
use mathlib.Core.Bool.{Bool, true, false, not}
use mathlib.Core.List.{List}
use lib.ListN.{length, get_or}
use borrow.Author.Tests.{not-true, not-false}
use Rattle.wires.specs.Wires.{Wire, most_wires, through}
use Rattle.wires.proofs.WireLoops.{loop_wires}
use Rattle.wires.proofs.Doubling.{jump_wire, jump_through}
use Rattle.rows.specs.Named.{named, ShortWire, SheetWireLoop}
use Rattle.rows.proofs.Naming.{named_past, names_row, names_kept, through_loop}
use Rattle.wiring.specs.Placed.{Placed}
use Rattle.wiring.specs.Jumps.{JumpsThere, Leaps, StorePlain}
use Rattle.wiring.specs.Told.{FillSays, fill_short, fill_done, EndSays, some_wire, no_wire, Followed, WiresSay, says_short, says_looped, says_fine}
use Rattle.std.specs.Prelude.{Result, Ok, Err, ⊤}
use Rattle.wiring.specs.declared.testing.WireFault.{WireFault}
use Rattle.wiring.specs.declared.testing.WireFault.TheVariants.{Short, Looped}
use Rattle.wiring.proofs.Placing.{placed_few, placed_straight}

store_plain : (b : List ℕ) → StorePlain (named b)
store_plain b = record { plain = named_past b }

module _ (b table : List ℕ) (p : Placed b table) where
  -- ---- 15

  looped : (jumps : List ℕ) → (ShortWire b → ⊥) → Leaps (named b) (length table) most_wires jumps → (i : ℕ) → i < length table → Wire (named b) (get_or jumps i 0) → SheetWireLoop b
  looped jumps none j i l w =
      through_loop (rw p.numbered at (placed_straight b table p none)) (omega (arith, placed_few b table p, p.numbered)) i (omega (arith, p.numbered)) (jump_wire (named b) (j.jump i l) w)

  -- ---- none of both

  module _ (jumps : List ℕ) (none : ShortWire b → ⊥) (j : Leaps (named b) (length table) most_wires jumps) (plain : (i : ℕ) → i < length table → Wire (named b) (get_or jumps i 0) → ⊥) where
    unlooped : SheetWireLoop b → ⊥
    unlooped x =
        let l : x.row < length table = omega (arith, x.of_sheet, p.numbered) in
        let q = j.jump x.row l in
        plain x.row l (rw q.there (loop_wires (named b) x.loop q.steps))

    ends : (i : ℕ) → i < length table → get_or jumps i 0 ≡ through (named b) i
    ends i l =
        let t = placed_straight b table p none in
        jump_through (named b) (names_kept t i (names_row t i l)) (omega (arith, placed_few b table p)) (j.jump i l) (plain i l)

  -- ---- as the code has them

  module _ (jumps : List ℕ) (r : Bool) (f : FillSays b (length table) jumps r) where
    pub tested_short : not r ≡ true → WiresSay b (length table) jumps (Err Short)
    tested_short e = go (rw (not-true r e) at f)
      where
        go : FillSays b (length table) jumps false → WiresSay b (length table) jumps (Err Short)
        go (fill_short x) = says_short x

    module _ (e : not r ≡ false) where
      filled : FillSays b (length table) jumps true
      filled = rw (not-false r e) at f

      none : ShortWire b → ⊥
      none = go filled
        where
          go : FillSays b (length table) jumps true → ShortWire b → ⊥
          go (fill_done n t j) = n

      pub tested_there : JumpsThere (length table) jumps
      tested_there = go filled
        where
          go : FillSays b (length table) jumps true → JumpsThere (length table) jumps
          go (fill_done n t j) = t

      once : Leaps (named b) (length table) 1 jumps
      once = go filled
        where
          go : FillSays b (length table) jumps true → Leaps (named b) (length table) 1 jumps
          go (fill_done n t j) = j

      module _ (new : List ℕ) (q : Bool) (o : Followed b (length table) jumps new q) where
        leaps : Leaps (named b) (length table) most_wires new
        leaps = o.doubled.of (named b) (store_plain b) once

        pub tested_looped : not q ≡ true → WiresSay b (length table) new (Err Looped)
        tested_looped z = go (rw (not-true q z) at o.says)
          where
            go : EndSays b (length table) new false → WiresSay b (length table) new (Err Looped)
            go (some_wire i l w) = says_looped none (looped new none leaps i l w)

        pub tested_fine : not q ≡ false → WiresSay b (length table) new (Ok tt)
        tested_fine z = go (rw (not-false q z) at o.says)
          where
            go : EndSays b (length table) new true → WiresSay b (length table) new (Ok tt)
            go (no_wire n) =
                says_fine none (unlooped new none leaps n)
                (record {
                  there = o.there;
                  ends = ends new none leaps n;
                  plain = λ i l x. n i l (rw (ends new none leaps n i l) x);
                })

-- ---- what an answer tells

module _ (b : List ℕ) (rows : ℕ) (jumps : List ℕ) (r : Result ⊤ WireFault) (a : WiresSay b rows jumps r) where
  pub told_short : r ≡ Err Short → ShortWire b
  told_short e = go (rw e at a)
    where
      go : WiresSay b rows jumps (Err Short) → ShortWire b
      go (says_short x) = x

  pub told_straight : (r ≡ Err Short → ⊥) → ShortWire b → ⊥
  told_straight f = go a f
    where
      go : {r : Result ⊤ WireFault} → WiresSay b rows jumps r → (r ≡ Err Short → ⊥) → ShortWire b → ⊥
      go (says_short x) f = absurd (f refl)
      go (says_looped n x) f = n
      go (says_fine n x y) f = n

  pub told_looped : r ≡ Err Looped → SheetWireLoop b
  told_looped e = go (rw e at a)
    where
      go : WiresSay b rows jumps (Err Looped) → SheetWireLoop b
      go (says_looped n x) = x

  pub told_unlooped : r ≡ Ok tt → SheetWireLoop b → ⊥
  told_unlooped e = go (rw e at a)
    where
      go : WiresSay b rows jumps (Ok tt) → SheetWireLoop b → ⊥
      go (says_fine n x y) = x

-- one answer to one sheet
pub wires_unique : {b : List ℕ} {rows rows' : ℕ} {jumps jumps' : List ℕ} {r r' : Result ⊤ WireFault} → WiresSay b rows jumps r → WiresSay b rows' jumps' r' → r ≡ r'
wires_unique (says_short x) (says_short y) = refl
wires_unique (says_short x) (says_looped n y) = absurd (n x)
wires_unique (says_short x) (says_fine n f y) = absurd (n x)
wires_unique (says_looped n x) (says_short y) = absurd (n y)
wires_unique (says_looped n x) (says_looped m y) = refl
wires_unique (says_looped n x) (says_fine m f y) = absurd (f x)
wires_unique (says_fine n f x) (says_short y) = absurd (n y)
wires_unique (says_fine n f x) (says_looped m y) = absurd (f y)
wires_unique (says_fine n f x) (says_fine m g y) = refl
