-- Passes over the jumps, row after row, in place, and all of them.
use Prim.Native.Nat.{ℕ, zero, suc, ◌+◌, ◌-◌, ◌≤◌, ◌<◌}
use native.Mathlib.Omega.{arith}
use native.Mathlib.Numerals.{add-one}
use native.Mathlib.Decide.{dec_lt, ℕ_discrete}
use mathlib.Core.Path.{◌≡◌, refl, ap, ◌∙◌}
use mathlib.Core.List.{List}
use lib.ListN.{length, get_or, set, length-set}
use lib.Seq.{get_or-set_same, get_or-set_other}
use borrow.Author.Tests.{lt-ltb, le-ltb}
use Rattle.trees.specs.Graph.{Graph}
use Rattle.sheet.specs.Format.{store_numbers}
use Rattle.wires.specs.Wires.{most_wires}
use Rattle.wires.specs.Jumps.{Jump}
use Rattle.wires.proofs.Doubling.{jump_twice, jump_half, jump_stays}
use Rattle.wiring.specs.Jumps.{JumpsThere, Leaps, StorePlain, onward_of, Doubled, AllDoubled}

-- ---- where a jump leads on

pub onward_row : (jumps : List ℕ) (i x y : ℕ) → x ≡ get_or jumps i 0 → x < store_numbers → y ≡ get_or jumps x 0 → y ≡ onward_of jumps (get_or jumps i 0)
onward_row jumps i x y e h q = rw (← e) (simp (lt-ltb x store_numbers h) q)

pub onward_stays : (jumps : List ℕ) (i x : ℕ) → x ≡ get_or jumps i 0 → store_numbers ≤ x → x ≡ onward_of jumps (get_or jumps i 0)
onward_stays jumps i x e h = rw (← e) (simp (le-ltb x store_numbers h) refl)

pub onward_first : (rows : ℕ) (jumps : List ℕ) (i : ℕ) → JumpsThere rows jumps → i < rows → i < length jumps
onward_first rows jumps i n l = omega (arith, n.long)

pub onward_there : (rows : ℕ) (jumps : List ℕ) (i x : ℕ) → JumpsThere rows jumps → i < rows → x ≡ get_or jumps i 0 → x < store_numbers → x < length jumps
onward_there rows jumps i x n l e h = omega (arith, n.row i l (omega arith), n.long)

-- ---- the pass

-- the entries before row `passed` are jumps of twice as many wires, the others of so many
pub record Passed (g : Graph) (rows least passed : ℕ) (jumps : List ℕ) : Type 0 where
  pub twice : (i : ℕ) → i < passed → Jump g (least + least) i (get_or jumps i 0)
  pub once : (i : ℕ) → passed ≤ i → i < rows → Jump g least i (get_or jumps i 0)

pub record Passing (rows : ℕ) (old jumps : List ℕ) (i : ℕ) : Type 0 where
  pub some : i ≤ rows
  pub same : length jumps ≡ length old
  pub there : JumpsThere rows jumps
  pub passed : (g : Graph) (least : ℕ) → StorePlain g → Leaps g rows least old → Passed g rows least i jumps

pub passing_none : (rows : ℕ) (old : List ℕ) → JumpsThere rows old → Passing rows old old 0
passing_none rows old n = record { some = omega arith; same = refl; there = n; passed = λ g least p s. record { twice = λ k l. absurd (omega arith); once = λ k l. s.jump k } }

module _ (rows : ℕ) (old jumps : List ℕ) (i y : ℕ) (s : Passing rows old jumps i) (l : i < rows) (e : y ≡ onward_of jumps (get_or jumps i 0)) where
  here : get_or (set jumps i y) i 0 ≡ y
  here = get_or-set_same jumps i y 0 (omega (arith, s.there.long))

  other : (k : ℕ) → (k ≡ i → ⊥) → get_or (set jumps i y) k 0 ≡ get_or jumps k 0
  other k f = get_or-set_other jumps i k y 0 f

  on_row : get_or jumps i 0 < store_numbers → y ≡ get_or jumps (get_or jumps i 0) 0
  on_row h = e ∙ simp (lt-ltb (get_or jumps i 0) store_numbers h) refl

  on_stays : store_numbers ≤ get_or jumps i 0 → y ≡ get_or jumps i 0
  on_stays h = e ∙ simp (le-ltb (get_or jumps i 0) store_numbers h) refl

  names : (k : ℕ) → k < rows → get_or (set jumps i y) k 0 < store_numbers → get_or (set jumps i y) k 0 < rows
  names k h = go (ℕ_discrete k i)
    where
      mine : Dec (get_or jumps i 0 < store_numbers) → y < store_numbers → y < rows
      mine (yes q) z = let r = s.there.row i l q in rw (on_row q) (s.there.row (get_or jumps i 0) r (rw (on_row q) at z))
      mine (no q) z = absurd (omega (arith, on_stays (omega arith)))

      go : Dec (k ≡ i) → get_or (set jumps i y) k 0 < store_numbers → get_or (set jumps i y) k 0 < rows
      go (yes q) z = rw (q, here) (mine (dec_lt (get_or jumps i 0) store_numbers) (rw (q, here) at z))
      go (no q) z = rw (other k q) (s.there.row k h (rw (other k q) at z))

  module _ (g : Graph) (least : ℕ) (p : StorePlain g) (t : Passed g rows least i jumps) where
    any : (k : ℕ) → k < rows → Jump g least k (get_or jumps k 0)
    any k h = go (dec_lt k i)
      where
        go : Dec (k < i) → Jump g least k (get_or jumps k 0)
        go (yes q) = jump_half g (t.twice k q)
        go (no q) = t.once k (omega arith) h

    mine : Jump g (least + least) i y
    mine = go (dec_lt (get_or jumps i 0) store_numbers)
      where
        go : Dec (get_or jumps i 0 < store_numbers) → Jump g (least + least) i y
        go (yes q) = rw (on_row q) (jump_twice g (any i l) (any (get_or jumps i 0) (s.there.row i l q)))
        go (no q) = rw (on_stays (omega arith)) (jump_stays g (any i l) (p.plain (get_or jumps i 0) (omega arith)))

    more : Passed g rows least (i + 1) (set jumps i y)
    more =
        record {
          twice = λ k h. go k h (dec_lt k i);
          once = λ k h r. let f : k ≡ i → ⊥ = λ q. omega arith in rw (other k f) (t.once k (omega arith) r);
        }
      where
        go : (k : ℕ) → k < i + 1 → Dec (k < i) → Jump g (least + least) k (get_or (set jumps i y) k 0)
        go k h (yes q) = let f : k ≡ i → ⊥ = λ z. omega arith in rw (other k f) (t.twice k q)
        go k h (no q) = let z : k ≡ i = omega arith in rw (z, here) mine

  passing_more : Passing rows old (set jumps i y) (i + 1)
  passing_more =
      record {
        some = omega arith;
        same = length-set jumps i y ∙ s.same;
        there = record { few = s.there.few; long = omega (arith, length-set jumps i y, s.there.long); row = names };
        passed = λ g least p o. more g least p (s.passed g least p o);
      }

pub passing_next : (rows : ℕ) (old jumps : List ℕ) (i y : ℕ) → Passing rows old jumps i → i < rows → y ≡ onward_of jumps (get_or jumps i 0) → (new : List ℕ) → new ≡ set jumps i y → Passing rows old new (i + 1)
passing_next rows old jumps i y s l e new q = rw q (passing_more rows old jumps i y s l e)

pub passing_there : (rows : ℕ) (old jumps : List ℕ) (i : ℕ) → Passing rows old jumps i → JumpsThere rows jumps
passing_there rows old jumps i s = s.there

pub passing_room : (rows : ℕ) (old jumps : List ℕ) (i : ℕ) → Passing rows old jumps i → i < rows → i < length jumps
passing_room rows old jumps i s h = omega (arith, s.there.long)

pub passing_all : (rows : ℕ) (old jumps : List ℕ) (i : ℕ) → Passing rows old jumps i → rows ≤ i → Doubled rows old jumps
passing_all rows old jumps i s h =
    record { of = λ g least p o. record { jump = λ k l. (s.passed g least p o).twice k (omega (arith, s.some)) } }

-- ---- all passes

-- how many wires so many passes follow
unfoldable pub powers : ℕ → ℕ
powers zero = 1
powers (suc k) = powers k + powers k

powers_most : (k : ℕ) → most_wires ≤ powers (11 + k)
unfolding powers
powers_most zero = omega arith
powers_most (suc k) =
    let e : 11 + suc k ≡ suc (11 + k) = omega arith in
    let h = powers_most k in
    rw e (omega arith)

pub record Passes (rows : ℕ) (old jumps : List ℕ) (k : ℕ) : Type 0 where
  pub same : length jumps ≡ length old
  pub there : JumpsThere rows jumps
  pub grown : (g : Graph) → StorePlain g → Leaps g rows 1 old → Leaps g rows (powers k) jumps

pub passes_none : (rows : ℕ) (old : List ℕ) → JumpsThere rows old → Passes rows old old 0
unfolding powers
passes_none rows old t = record { same = refl; there = t; grown = λ g p o. o }

pub passes_there : (rows : ℕ) (old jumps : List ℕ) (k : ℕ) → Passes rows old jumps k → JumpsThere rows jumps
passes_there rows old jumps k s = s.there

pub passes_more : (rows : ℕ) (old jumps : List ℕ) (k : ℕ) (new : List ℕ) → Passes rows old jumps k → length new ≡ length jumps → JumpsThere rows new → Doubled rows jumps new → Passes rows old new (k + 1)
unfolding powers
passes_more rows old jumps k new s l t d =
    record {
      same = l ∙ s.same;
      there = t;
      grown = λ g p o. let e : powers (k + 1) ≡ powers k + powers k = ap powers (add-one k) in rw e (d.of g (powers k) p (s.grown g p o));
    }

pub passes_all : (rows : ℕ) (old jumps : List ℕ) (k : ℕ) → Passes rows old jumps k → 11 ≤ k → AllDoubled rows old jumps
passes_all rows old jumps k s h = record { of = λ g p o. record { jump = λ i l. enough g i ((s.grown g p o).jump i l) } }
  where
    most : most_wires ≤ powers k
    most = let e : 11 + (k - 11) ≡ k = omega arith in rw e at (powers_most (k - 11))

    enough : (g : Graph) (i : ℕ) → Jump g (powers k) i (get_or jumps i 0) → Jump g most_wires i (get_or jumps i 0)
    enough g i j = record { steps = j.steps; enough = omega (arith, most, j.enough); there = j.there }
