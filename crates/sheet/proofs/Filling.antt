-- The table of row places filled: each row starts where the row before it ends.
use Prim.Native.Nat.{ℕ, ◌+◌, ◌*◌, ◌≤◌, ◌<◌}
use mathlib.Core.Path.{◌≡◌, sym}
use mathlib.Core.List.{List}
use lib.ListN.{length, set}
use Rattle.rules.specs.Lists.{firsts}
use Rattle.rules.specs.Writes.{over_front}
use Rattle.rules.proofs.Lists.{Filled, filled_none, filled_more, filled_all}
use Rattle.sheet.specs.Format.{count_at, start}
use Rattle.sheet.proofs.Starts.{start_first, start_next}

pub record PlacesSoFar (b : List ℕ) (rows : ℕ) (old table : List ℕ) (at i : ℕ) : Type 0 where
  pub here : at ≡ start b i
  pub filled : Filled old (start b) rows table i

pub places_none : (b : List ℕ) (rows : ℕ) (old : List ℕ) → PlacesSoFar b rows old old 7 0
places_none b rows old = record { here = sym (start_first b); filled = filled_none old (start b) rows }

pub places_more : (b : List ℕ) (rows at i count : ℕ) (old table : List ℕ) → PlacesSoFar b rows old table at i → i < rows → rows ≤ length old → count ≡ count_at b at → PlacesSoFar b rows old (set table i at) (at + 5 + 2 * count) (i + 1)
places_more b rows at i count old table s h m e =
    record {
      here = rw (start_next, ← s.here, e);
      filled = filled_more old (start b) rows table i at s.filled h m s.here;
    }

pub places_done : (b : List ℕ) (rows at i : ℕ) (old table : List ℕ) → PlacesSoFar b rows old table at i → rows ≤ i → table ≡ over_front (firsts (start b) rows) old
places_done b rows at i old table s = filled_all old (start b) rows table i s.filled
