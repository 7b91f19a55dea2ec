-- The table skipped row after row, in place: a row that a jump names keeps its entry.
use Prim.Native.Nat.{ℕ, ◌+◌, ◌≤◌, ◌<◌}
use native.Mathlib.Omega.{arith}
use native.Mathlib.Decide.{dec_lt}
use mathlib.Core.Path.{◌≡◌, refl, ap, ◌∙◌}
use mathlib.Core.List.{List}
use lib.ListN.{length, get_or, set, length-set}
use lib.Seq.{get_or-set_same, get_or-set_other}
use Rattle.wiring.specs.Spots.{spot_of, Settled, Skipped}

-- ---- one entry

module _ (table jumps : List ℕ) (i : ℕ) (t : Settled (length table) jumps) (l : i < length table) where
  pub spot_room : i < length jumps
  spot_room = omega (arith, t.long)

  pub spot_there : (x : ℕ) → x ≡ get_or jumps i 0 → x < length table
  spot_there x e = rw e (t.row i l)

pub spot_is : (table jumps : List ℕ) (i x y : ℕ) → x ≡ get_or jumps i 0 → y ≡ get_or table x 0 → y ≡ spot_of table jumps i
spot_is table jumps i x y e q = rw (← e) q

-- ---- the loop

pub record SkippedTo (old jumps : List ℕ) (n : ℕ) (table : List ℕ) (i : ℕ) : Type 0 where
  pub all : n ≡ length old
  pub some : i ≤ length old
  pub same : length table ≡ length old
  pub settled : Settled (length old) jumps
  pub front : (k : ℕ) → k < i → get_or table k 0 ≡ spot_of old jumps k
  pub rest : (k : ℕ) → i ≤ k → get_or table k 0 ≡ get_or old k 0

pub skipped_none : (old jumps : List ℕ) (n : ℕ) → Settled (length old) jumps → n ≡ length old → SkippedTo old jumps n old 0
skipped_none old jumps n t m =
    record { all = m; some = omega arith; same = refl; settled = t; front = λ k l. absurd (omega arith); rest = λ k l. refl }

module _ (old jumps : List ℕ) (n : ℕ) (table : List ℕ) (i : ℕ) (s : SkippedTo old jumps n table i) where
  m : n ≡ length old
  m = s.all

  pub skipped_there : Settled (length table) jumps
  skipped_there = rw s.same s.settled

  pub skipped_row : i < n → i < length table
  skipped_row h = omega (arith, m, s.same)

  module _ (h : i < n) (at : ℕ) (e : at ≡ spot_of table jumps i) where
    -- the row that a jump names has its first entry still
    kept : get_or table (get_or jumps i 0) 0 ≡ get_or old (get_or jumps i 0) 0
    kept = go (dec_lt (get_or jumps i 0) i)
      where
        go : Dec (get_or jumps i 0 < i) → get_or table (get_or jumps i 0) 0 ≡ get_or old (get_or jumps i 0) 0
        go (yes y) = s.front (get_or jumps i 0) y ∙ ap (λ x. get_or old x 0) (s.settled.stays i (omega (arith, m)))
        go (no y) = s.rest (get_or jumps i 0) (omega arith)

    mine : at ≡ spot_of old jumps i
    mine = e ∙ kept

    pub skipped_more : (new : List ℕ) → new ≡ set table i at → SkippedTo old jumps n new (i + 1)
    skipped_more new q =
        rw q
        (record {
          all = m;
          some = omega (arith, m);
          same = length-set table i at ∙ s.same;
          settled = s.settled;
          front = λ k l. front k l (dec_lt k i);
          rest = λ k l. let f : k ≡ i → ⊥ = λ z. omega arith in get_or-set_other table i k at 0 f ∙ s.rest k (omega arith);
        })
      where
        front : (k : ℕ) → k < i + 1 → Dec (k < i) → get_or (set table i at) k 0 ≡ spot_of old jumps k
        front k l (yes y) = let f : k ≡ i → ⊥ = λ z. omega arith in get_or-set_other table i k at 0 f ∙ s.front k y
        front k l (no y) =
            let z : k ≡ i = omega arith in
            let here : get_or (set table i at) i 0 ≡ at = get_or-set_same table i at 0 (omega (arith, m, s.same)) in
            rw z (here ∙ mine)

  pub skipped_all : n ≤ i → Skipped old jumps table
  skipped_all h = record { same = s.same; spots = λ k l. s.front k (omega (arith, m)) }
