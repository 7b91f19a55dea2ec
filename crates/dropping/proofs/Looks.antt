-- One row looked at.
use Rattle.std.proofs.Common.{ℕ, ◌<◌, arith, ◌≡◌, refl, sym, ap, ◌∙◌, Bool, true, false, not, List, get_or, set, eqb}
use Rattle.rules.specs.Answers.{Says, says_yes, says_no}
use Rattle.rules.proofs.Answers.{says_same}
use Rattle.rules.proofs.Tested.{passed_yes, passed_no, says_equal}
use Rattle.store.specs.Layout.{count_of, input_of}
use Rattle.mends.specs.Entries.{entry_of, Marked}
use Rattle.dropping.specs.Dropping.{InputSeen, HasMarked, RowAsks, RowDrops, row_drops, row_stays}

module _ (most : ℕ) (w list : List ℕ) (u j : ℕ) (a : InputSeen most w list u j) (x : ℕ) (p : x ≡ input_of most w u j) where
  pub input_told : (y : ℕ) → y ≡ entry_of list x → Says (Marked list (input_of most w u j)) (eqb y 4294967295)
  input_told y q =
      let e : y ≡ entry_of list (input_of most w u j) = q ∙ ap (entry_of list) p in
      says_same ((λ z. sym e ∙ z), (λ z. e ∙ z)) (says_equal y 4294967295)

-- some input is marked, or none is; the set `ranges` takes a number of its range only where a list is read at it
module _ (most : ℕ) (w list : List ℕ) (u count : ℕ) (e : count ≡ count_of most w u) where
  pub seen_told : (r : Bool) → (r ≡ true → (j : ℕ) × (j < count) × Marked list (input_of most w u j)) → (r ≡ false → (j i : ℕ) → i ≡ get_or w j 0 → j < count → Marked list (input_of most w u j) → ⊥) → Says (HasMarked most w list u) r
  seen_told true found none = let m = found refl in says_yes (record { place = m.0; used = omega (arith, m.1, e); marked = m.2 })
  seen_told false found none = says_no (λ m. none refl m.place _ refl (omega (arith, m.used, e)) m.marked)

-- ---- the row

module _ (most : ℕ) (w old : List ℕ) (u : ℕ) (a : RowAsks most w old u) (x : ℕ) (e : x ≡ entry_of old u) where
  pub look_marked : x ≡ 4294967295 → RowDrops most w old u old false
  look_marked q = row_stays (λ f m. f (sym e ∙ q)) refl

  module _ (f : x ≡ 4294967295 → ⊥) where
    module _ (r : Bool) (s : Says (HasMarked most w old u) r) where
      pub look_not : not r ≡ true → RowDrops most w old u old false
      look_not n = row_stays (λ g m. passed_no s n m) refl

      pub look_drops : not r ≡ false → RowDrops most w old u (set old u 4294967295) true
      look_drops n = row_drops (λ m. f (e ∙ m)) (passed_yes s n) refl
