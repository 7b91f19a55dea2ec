-- Rows compared by value, place by place.
use Prim.Native.Nat.{ℕ, ◌<◌}
use mathlib.Core.Path.{◌≡◌, sym, ◌∙◌}
use mathlib.Core.Bool.{Bool, false}
use mathlib.Core.List.{List}
use lib.ListN.{length}
use Rattle.rules.specs.Answers.{Says, says_yes, says_no}
use Rattle.store.specs.Layout.{label_of, count_of, input_of, room}
use Rattle.comparing.specs.Rows.{RowMarked, SamePlaces, SameRow}

-- ---- one row's inputs

pub marked_input : (w marks : List ℕ) (row j x : ℕ) → RowMarked w marks row → j < count_of room w row → x ≡ input_of room w row j → x < length marks
marked_input w marks row j x r h e = rw e (r.inputs j h)

-- ---- one row

module _ (w marks : List ℕ) (a : ℕ) (v others : List ℕ) (b : ℕ) where
  pub row_label : (x y : ℕ) → x ≡ label_of room w a → y ≡ label_of room v b → (x ≡ y → ⊥) → Says (SameRow w marks a v others b) false
  row_label x y p q f = says_no (λ s. f (p ∙ s.labels ∙ sym q))

  pub row_count : (x y : ℕ) → x ≡ count_of room w a → y ≡ count_of room v b → (x ≡ y → ⊥) → Says (SameRow w marks a v others b) false
  row_count x y p q f = says_no (λ s. f (p ∙ s.counts ∙ sym q))

  pub row_places : (x y m n : ℕ) (t : Bool) → x ≡ label_of room w a → y ≡ label_of room v b → x ≡ y → m ≡ count_of room w a → n ≡ count_of room v b → m ≡ n → Says (SamePlaces w marks a v others b m) t → Says (SameRow w marks a v others b) t
  row_places x y m n t p q e r s f (says_yes g) =
      says_yes (record { labels = sym p ∙ e ∙ q; counts = sym r ∙ f ∙ s; places = rw r at g })
  row_places x y m n t p q e r s f (says_no g) = says_no (λ z. g (rw (← r) at z.places))
