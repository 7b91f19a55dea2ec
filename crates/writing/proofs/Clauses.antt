-- The rows put so far, clause by clause: a new row is put at its tree's number, any other leaves the words.
use Prim.Native.Nat.{ℕ, zero, suc, ◌+◌, ◌≤◌, ◌<◌}
use native.Mathlib.Omega.{arith}
use native.Mathlib.Numerals.{add-one}
use native.Mathlib.Decide.{dec_le, ℕ_discrete}
use mathlib.Core.Path.{◌≡◌, refl, ap, ◌∙◌}
use mathlib.Core.List.{List}
use mathlib.Core.Bool.{true, false}
use lib.ListN.{length}
use lib.Seq.{sets, length-sets}
use borrow.Author.Tests.{le-leb, lt-leb, eq-eqb, ne_eqb}
use Rattle.trees.specs.Graph.{Graph}
use Rattle.store.specs.Layout.{row_word}
use Rattle.store.specs.Rows.{words_of_row}
use Rattle.numbering.specs.Numbers.{trees_below}
use Rattle.writing.specs.After.{is_new, new_row, rows_put}

-- ---- whether a row is new

module _ (stored : ℕ) (c : ℕ → ℕ) (u : ℕ) where
  pub new_first : stored ≤ u → c u ≡ u → is_new stored c u ≡ true
  unfolding is_new
  new_first h e = simp (le-leb _ _ h, eq-eqb _ _ e)

  pub new_stored : u < stored → is_new stored c u ≡ false
  unfolding is_new
  new_stored h = simp (lt-leb _ _ h)

  pub new_known : (c u ≡ u → ⊥) → is_new stored c u ≡ false
  unfolding is_new
  new_known f = go (dec_le stored u)
    where
      go : Dec (stored ≤ u) → is_new stored c u ≡ false
      go (yes h) = simp (le-leb _ _ h, ne_eqb _ _ f)
      go (no h) = new_stored (omega arith)

  -- a row of the sheet that is its own class, or not new
  pub data Newness : Type 0 where
    is_new_lem : stored ≤ u → c u ≡ u → Newness
    not_new : is_new stored c u ≡ false → Newness

  pub newness : Newness
  newness = go (dec_le stored u) (ℕ_discrete (c u) u)
    where
      go : Dec (stored ≤ u) → Dec (c u ≡ u) → Newness
      go (yes h) (yes e) = is_new_lem h e
      go (yes h) (no e) = not_new (new_known e)
      go (no h) x = not_new (new_stored (omega arith))

-- ---- the rows put so far

module _ (most : ℕ) (g : Graph) (c : ℕ → ℕ) (stored : ℕ) (w : List ℕ) where
  pub rows_put_none : rows_put most g c stored w 0 ≡ w
  unfolding rows_put
  rows_put_none = refl

  pub rows_put_hit : (u : ℕ) → stored ≤ u → c u ≡ u → rows_put most g c stored w (u + 1) ≡ sets (rows_put most g c stored w u) (row_word most (trees_below c u)) (words_of_row most (new_row g c u))
  unfolding rows_put
  rows_put_hit u h e = rw (add-one, new_first stored c u h e)

  pub rows_put_miss : (u : ℕ) → is_new stored c u ≡ false → rows_put most g c stored w (u + 1) ≡ rows_put most g c stored w u
  unfolding rows_put
  rows_put_miss u e = rw (add-one, e)

  -- what each put keeps stands in the end
  pub rows_put_keep : (P : List ℕ → Type 0) (u v : ℕ) → u ≤ v → ((x : ℕ) → u ≤ x → x < v → stored ≤ x → c x ≡ x → P (rows_put most g c stored w x) → P (rows_put most g c stored w (x + 1))) → P (rows_put most g c stored w u) → P (rows_put most g c stored w v)
  rows_put_keep P u zero h keep p = let e : u ≡ 0 = omega arith in rw e at p
  rows_put_keep P u (suc v) h keep p =
      go (dec_le u v) (λ l. rows_put_keep P u v l (λ x a b. keep x a (omega arith)) p) (newness stored c v)
    where
      go : Dec (u ≤ v) → (u ≤ v → P (rows_put most g c stored w v)) → Newness stored c v → P (rows_put most g c stored w (suc v))
      go (yes l) ih (is_new_lem a e) = rw add-one at (keep v l (omega arith) a e (ih l))
      go (yes l) ih (not_new e) = rw (← add-one, rows_put_miss v e) (ih l)
      go (no l) ih x = let e : u ≡ suc v = omega arith in rw e at p

  pub rows_put_stored : (u : ℕ) → u ≤ stored → rows_put most g c stored w u ≡ w
  rows_put_stored u h =
      rows_put_keep (λ v. v ≡ w) 0 u (omega arith) (λ x a b d e r. absurd (omega arith)) rows_put_none

  pub rows_put_length : (u : ℕ) → length (rows_put most g c stored w u) ≡ length w
  rows_put_length u =
      rows_put_keep (λ v. length v ≡ length w) 0 u (omega arith)
      (λ x a b d e r. ap length (rows_put_hit x d e) ∙ length-sets (rows_put most g c stored w x) (row_word most (trees_below c x)) (words_of_row most (new_row g c x)) ∙ r)
      (ap length rows_put_none)
