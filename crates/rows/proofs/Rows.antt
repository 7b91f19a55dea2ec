-- A row of a graph by value: what stands in it. An array of inputs with room for more is determined by its entries,
-- so a store's row, of which every input word is read, and the view's, of which the used ones are, have one array.
use Prim.Native.Nat.{ℕ, ◌≤◌, ◌<◌}
use native.Mathlib.Omega.{arith}
use native.Mathlib.Decide.{dec_lt}
use mathlib.Core.Path.{◌≡◌, refl, sym, ◌∙◌}
use lib.ListN.{length, get_or}
use lib.Seq.{ext_get_or}
use Rattle.rules.specs.Lists.{in_room, widest}
use Rattle.rules.proofs.Lists.{room_length, room_at, room_past}
use Rattle.trees.specs.Graph.{Graph}
use Rattle.rows.specs.Joined.{row_in}

-- the first m values, of which those from n on are zero, are the first n values
pub room_shorter : (room : ℕ) (f g : ℕ → ℕ) (m n : ℕ) → n ≤ m → m ≤ room → ((j : ℕ) → j < n → f j ≡ g j) → ((j : ℕ) → n ≤ j → j < m → f j ≡ 0) → in_room room f m ≡ in_room room g n
room_shorter room f g m n h l same zero =
    ext_get_or 0 (in_room room f m) (in_room room g n) (long ∙ sym (room_length room g n (omega arith)))
    (λ j k. entry j (omega (arith, long)) (dec_lt j n) (dec_lt j m))
  where
    long : length (in_room room f m) ≡ room
    long = room_length room f m l

    entry : (j : ℕ) → j < room → Dec (j < n) → Dec (j < m) → get_or (in_room room f m) j 0 ≡ get_or (in_room room g n) j 0
    entry j k (yes p) q = room_at room f m l j (omega arith) ∙ same j p ∙ sym (room_at room g n (omega arith) j p)
    entry j k (no p) q = rest q ∙ sym (room_past room g n (omega arith) j (omega arith) k)
      where
        rest : Dec (j < m) → get_or (in_room room f m) j 0 ≡ 0
        rest (yes q) = room_at room f m l j q ∙ zero j (omega arith) q
        rest (no q) = room_past room f m l j (omega arith) k

module _ (g : Graph) (u : ℕ) where
  pub in_label : (row_in g u).label ≡ g.label u
  unfolding row_in
  in_label = refl

  pub in_count : (row_in g u).count ≡ g.count u
  unfolding row_in
  in_count = refl

  module _ (few : g.count u ≤ widest) where
    pub in_input : (j : ℕ) → j < g.count u → get_or (row_in g u).inputs j 0 ≡ g.input u j
    unfolding row_in
    in_input = room_at widest (g.input u) (g.count u) few

    pub in_past : (j : ℕ) → g.count u ≤ j → j < widest → get_or (row_in g u).inputs j 0 ≡ 0
    unfolding row_in
    in_past = room_past widest (g.input u) (g.count u) few
