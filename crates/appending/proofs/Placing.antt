-- The place noted of a row is its place among the rows in order.
use Prim.Native.Nat.{ℕ, ◌+◌, ◌-◌, ◌≤◌, ◌<◌}
use native.Mathlib.Omega.{arith}
use native.Mathlib.Decide.{dec_lt}
use mathlib.Core.Path.{◌≡◌, refl, sym, ap, ◌∙◌}
use mathlib.Core.List.{List}
use lib.ListN.{length, get_or, take, get_or-append}
use lib.Seq.{get_or-append-add, get_or-take, length-take-le}
use borrow.Author.Tests.{lt-ltb, le-ltb}
use Rattle.rules.specs.Lists.{firsts}
use Rattle.rules.proofs.Lists.{firsts_length, firsts_at}
use Rattle.walks.specs.Key.{place_of}
use Rattle.walks.specs.Member.{Member}
use Rattle.walks.proofs.Members.{Once}
use Rattle.walks.proofs.Places.{place_at}
use Rattle.converts.specs.Result.{behind}
use Rattle.converts.proofs.Rising.{rising_each}
use Rattle.appending.specs.Arranged.{appended_in, Arranged}
use Rattle.appending.specs.Placed.{place_put}

module _ (stored : ℕ) (places : List ℕ) (x : ℕ) where
  pub place_store : x < stored → (r : ℕ) → r ≡ get_or places x 0 → r ≡ place_put stored places x
  unfolding place_put
  place_store h r e = simp (lt-ltb x stored h) e

  pub place_sheet : stored ≤ x → x - stored ≡ place_put stored places x
  unfolding place_put
  place_sheet h = simp (le-ltb x stored h)

module _ {P : ℕ → Type 0} {stored rows : ℕ} {order places : List ℕ} {total : ℕ} (a : Arranged P stored rows order places total) where
  pub order_length : length (take total order) ≡ total
  order_length = length-take-le total order a.long

  -- the sheet's rows, and then the store's
  sheet_at : (i : ℕ) → i < rows → get_or (take total order) i 0 ≡ stored + i
  sheet_at i h =
      ap (λ l. get_or l i 0) a.in_order
      ∙ get_or-append (firsts (behind stored) rows) (appended_in rows total order) 0 i (rw (firsts_length (behind stored) rows) h)
      ∙ firsts_at (behind stored) rows i h

  store_at : (k : ℕ) → get_or (take total order) (rows + k) 0 ≡ get_or (appended_in rows total order) k 0
  store_at k =
      ap (λ l. get_or l (rows + k) 0) a.in_order
      ∙ rw (firsts_length (behind stored) rows) at (get_or-append-add (firsts (behind stored) rows) (appended_in rows total order) k 0)

  store_below : (k : ℕ) → k < length (appended_in rows total order) → get_or (appended_in rows total order) k 0 < stored
  store_below k h = ((rising_each a.rising).each k h).below

  pub order_below : (i : ℕ) → i < total → get_or order i 0 < stored + rows
  order_below i h = rw (get_or-take total order i 0 h) at (go (dec_lt i rows))
    where
      go : Dec (i < rows) → get_or (take total order) i 0 < stored + rows
      go (yes q) = omega (arith, sheet_at i q)
      go (no q) =
          let e : rows + (i - rows) ≡ i = omega arith in
          let m : get_or (take total order) i 0 ≡ get_or (appended_in rows total order) (i - rows) 0 = rw e at (store_at (i - rows)) in
          omega (arith, m, store_below (i - rows) (omega (arith, a.counted)))

  -- the row at a place has that place noted
  place_noted : (i : ℕ) → i < total → place_put stored places (get_or (take total order) i 0) ≡ i
  place_noted i h = go (dec_lt i rows)
    where
      go : Dec (i < rows) → place_put stored places (get_or (take total order) i 0) ≡ i
      go (yes q) = rw (sheet_at i q) (sym (place_sheet stored places (stored + i) (omega arith)) ∙ omega arith)
      go (no q) =
          let k = i - rows in
          let e : rows + k ≡ i = omega arith in
          let l : k < length (appended_in rows total order) = omega (arith, a.counted) in
          let x = get_or (appended_in rows total order) k 0 in
          ap (place_put stored places) (rw e at (store_at k))
          ∙ sym (place_store stored places x (store_below k l) (get_or places x 0) refl)
          ∙ a.placed k l
          ∙ e

  pub order_once : Once (take total order)
  order_once =
      record {
        one = λ i k h l e.
            sym (place_noted i (omega (arith, order_length))) ∙ ap (place_put stored places) e ∙ place_noted k (omega (arith, order_length));
      }

  pub place_found : {x : ℕ} → Member (take total order) x → place_put stored places x ≡ place_of (take total order) x
  place_found {x} m =
      rw (← m.here) (place_noted m.at (omega (arith, m.within, order_length)) ∙ sym (place_at order_once m.at m.within))
