-- Inner: a refusal of the sheet stands only where the store is sound.
use Rattle.std.specs.Prelude.{ℕ, List}
use Rattle.trees.specs.Agreement.{Minimal}
use Rattle.store.specs.Layout.{in_use, store_graph, room}
use Rattle.inserting.specs.declared.insertion.Inserted.{Inserted}

-- the number and its place, or 2 where two rows of the store have the same tree
pub data Behind (w : List ℕ) (number place : ℕ) : Inserted → Type 0 where
  stands : Minimal (store_graph room w) (in_use w) → Behind w number place (record { number = number; added = 0; place = place })
  twice : (Minimal (store_graph room w) (in_use w) → ⊥) → Behind w number place (record { number = 2; added = 0; place = 0 })
