-- Inner: the queue has each store row that some row of the sheet leads to, and no other. g is the store and the sheet joined as drawn.
use Rattle.std.specs.Prelude.{ℕ, ◌<◌, List, get_or, take}
use Rattle.trees.specs.Graph.{Graph}
use Rattle.walks.specs.Member.{Member}
use Rattle.walker.specs.Queue.{Marked}
use Rattle.converts.specs.Result.{FromSheet}

pub record Reached (g : Graph) (stored rows : ℕ) (queue marks : List ℕ) (filled : ℕ) : Type 0 where
  pub marked : Marked stored queue marks filled
  pub from : (i : ℕ) → i < filled → FromSheet g stored rows (get_or queue i 0)
  pub all : (n : ℕ) → n < stored → FromSheet g stored rows n → Member (take filled queue) n
