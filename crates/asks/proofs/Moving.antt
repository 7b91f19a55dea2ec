-- Bytes moved to the front, one after another: those not yet moved stand where they stood.
use Prim.Native.Nat.{ℕ, ◌+◌, ◌≤◌, ◌<◌}
use native.Mathlib.Omega.{arith}
use mathlib.Core.Path.{◌≡◌, ◌∙◌, ap}
use mathlib.Core.List.{List, ◌++◌}
use lib.ListN.{length, get_or, take, drop, set}
use lib.Seq.{take_at, length-take-le}
use Rattle.rules.specs.Lists.{firsts}
use Rattle.rules.specs.Writes.{over_front}
use Rattle.rules.proofs.Lists.{Filled, filled_none, filled_more, filled_all, firsts_length}
use Rattle.rules.proofs.Writes.{over_past, over_take}
use Rattle.requests.proofs.Runs.{byte_from, part_firsts}

-- i of n bytes from a place on stand at the front
pub record Moving (old : List ℕ) (at n : ℕ) (found : List ℕ) (i : ℕ) : Type 0 where
  pub filled : Filled old (byte_from old at) n found i
  pub fits : at + n ≤ length old

pub moving_none : (old : List ℕ) (at n : ℕ) → at + n ≤ length old → Moving old at n old 0
moving_none old at n h = record { filled = filled_none old (byte_from old at) n; fits = h }

module _ {old : List ℕ} {at n : ℕ} {found : List ℕ} {i : ℕ} (s : Moving old at n found i) where
  still : i < n → get_or found (at + i) 0 ≡ byte_from old at i
  still h =
      let l : length (firsts (byte_from old at) i) ≡ i = firsts_length (byte_from old at) i in
      let e = ap (λ (x : List ℕ). get_or x (at + i) 0) s.filled.got in
      e ∙ over_past (firsts (byte_from old at) i) old (omega (arith, s.fits)) (at + i) 0 (omega arith)

  pub moving_more : i < n → Moving old at n (set found i (get_or found (at + i) 0)) (i + 1)
  moving_more h =
      record {
        filled = filled_more old (byte_from old at) n found i (get_or found (at + i) 0) s.filled h (omega (arith, s.fits)) (still h);
        fits = s.fits;
      }

  pub moving_all : n ≤ i → take n found ≡ take n (drop at old)
  moving_all h =
      let new = firsts (byte_from old at) n in
      let l : length new ≡ n = firsts_length (byte_from old at) n in
      let t : take n (over_front new old) ≡ new = rw l at (over_take new old) in
      rw (filled_all old (byte_from old at) n found i s.filled h) (t ∙ part_firsts old at n s.fits)

-- where they stand at the front already
pub moving_nothing : (old : List ℕ) (at n : ℕ) → at ≡ 0 → take n old ≡ take n (drop at old)
moving_nothing old at n e = rw e

-- what comes behind them changes none of them
pub moved_stay : (n : ℕ) (moved rest front : List ℕ) → n ≤ length moved → take n moved ≡ front → take n (take n moved ++ rest) ≡ front
moved_stay n moved rest front h e = take_at (take n moved) rest n (length-take-le n moved h) ∙ e
