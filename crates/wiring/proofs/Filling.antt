-- The jumps filled row after row: each is where one wire leads.
use Prim.Native.Nat.{ℕ, ◌+◌, ◌≤◌, ◌<◌}
use native.Mathlib.Omega.{arith}
use native.Mathlib.Decide.{dec_lt}
use mathlib.Core.Path.{◌≡◌, refl, ◌∙◌}
use mathlib.Core.Bool.{true, false}
use mathlib.Core.List.{List}
use lib.ListN.{length, get_or, set, length-set}
use lib.Seq.{get_or-set_same, get_or-set_other}
use Rattle.sheet.specs.Format.{count_at, start, store_numbers}
use Rattle.wires.specs.Wires.{Wire, follow}
use Rattle.wires.specs.Jumps.{Jump}
use Rattle.rows.specs.Named.{named, ShortWire}
use Rattle.rows.proofs.Naming.{names_row, names_follow}
use Rattle.wiring.specs.Placed.{Placed}
use Rattle.wiring.specs.Told.{LedSays, led_short, led_to, FillSays, fill_short, fill_done}
use Rattle.std.specs.Prelude.{Option, Some, None}
use Rattle.wiring.proofs.Placing.{placed_few, placed_straight}

-- the first i rows have no short wire, and their jumps are filled
pub record FilledTo (b table old : List ℕ) (n : ℕ) (jumps : List ℕ) (i : ℕ) : Type 0 where
  pub placed : Placed b table
  pub all : n ≡ length table
  pub some : i ≤ length table
  pub same : length jumps ≡ length old
  pub long : length table ≤ length old
  pub one : (k : ℕ) → k < i → Wire (named b) k → count_at b (start b k) ≡ 1
  pub leads : (k : ℕ) → k < i → get_or jumps k 0 ≡ follow (named b) 1 k

pub filled_none : (b table jumps : List ℕ) (n : ℕ) → Placed b table → length table ≤ length jumps → n ≡ length table → FilledTo b table jumps n jumps 0
filled_none b table jumps n p h m =
    record { placed = p; all = m; some = omega arith; same = refl; long = h; one = λ k l. absurd (omega arith); leads = λ k l. absurd (omega arith) }

module _ (b table old : List ℕ) (n : ℕ) (jumps : List ℕ) (i : ℕ) (s : FilledTo b table old n jumps i) where
  m : n ≡ length table
  m = s.all

  pub filled_placed : Placed b table
  filled_placed = s.placed

  pub filled_row : i < n → i < length table
  filled_row h = omega (arith, m)

  pub filled_room : i < n → i < length jumps
  filled_room h = omega (arith, m, s.same, s.long)

  module _ (h : i < n) (r : Option ℕ) (a : LedSays b i r) where
    pub filled_short : r ≡ None → FillSays b (length table) jumps false
    filled_short e = go (rw e at a)
      where
        go : LedSays b i None → FillSays b (length table) jumps false
        go (led_short w f) = fill_short (record { row = i; of_sheet = omega (arith, m, s.placed.numbered); wire = w; counts = f })

    module _ (x : ℕ) (e : r ≡ Some x) where
      pub filled_fits : x < 65536
      filled_fits = go (rw e at a)
        where
          go : LedSays b i (Some x) → x < 65536
          go (led_to o d l) = l

      pub filled_more : (new : List ℕ) → new ≡ set jumps i x → FilledTo b table old n new (i + 1)
      filled_more new q = rw q (go (rw e at a))
        where
          here : get_or (set jumps i x) i 0 ≡ x
          here = get_or-set_same jumps i x 0 (omega (arith, m, s.same, s.long))

          other : (k : ℕ) → k < i → get_or (set jumps i x) k 0 ≡ get_or jumps k 0
          other k l = let f : k ≡ i → ⊥ = λ z. omega arith in get_or-set_other jumps i k x 0 f

          go : LedSays b i (Some x) → FilledTo b table old n (set jumps i x) (i + 1)
          go (led_to o d l) =
              record {
                placed = s.placed;
                all = m;
                some = omega (arith, m);
                same = length-set jumps i x ∙ s.same;
                long = s.long;
                one = λ k v. one k v (dec_lt k i);
                leads = λ k v. leads k v (dec_lt k i);
              }
            where
              one : (k : ℕ) → k < i + 1 → Dec (k < i) → Wire (named b) k → count_at b (start b k) ≡ 1
              one k v (yes y) = s.one k y
              one k v (no y) = let z : k ≡ i = omega arith in rw z o

              leads : (k : ℕ) → k < i + 1 → Dec (k < i) → get_or (set jumps i x) k 0 ≡ follow (named b) 1 k
              leads k v (yes y) = other k y ∙ s.leads k y
              leads k v (no y) = let z : k ≡ i = omega arith in rw z (here ∙ d)

  pub filled_all : n ≤ i → FillSays b (length table) jumps true
  filled_all h = fill_done none (record { few = omega (arith, placed_few b table s.placed); long = omega (arith, s.same, s.long); row = row }) (record { jump = jump })
    where
      all : i ≡ length table
      all = omega (arith, m, s.some)

      none : ShortWire b → ⊥
      none x = x.counts (s.one x.row (omega (arith, all, x.of_sheet, s.placed.numbered)) x.wire)

      row : (k : ℕ) → k < length table → get_or jumps k 0 < store_numbers → get_or jumps k 0 < length table
      row k l =
          let t = placed_straight b table s.placed none in
          rw (s.leads k (omega (arith, all))) (names_follow t 1 k (names_row t k l)).sheet

      jump : (k : ℕ) → k < length table → Jump (named b) 1 k (get_or jumps k 0)
      jump k l = record { steps = 1; enough = omega arith; there = s.leads k (omega (arith, all)) }
