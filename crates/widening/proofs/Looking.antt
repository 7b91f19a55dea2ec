-- What looking at an old store tells: its shape first, then whether each of its rows is its own class.
use Prim.Native.Nat.{ℕ, ◌≤◌}
use native.Mathlib.Omega.{arith}
use mathlib.Core.Path.{◌≡◌, refl}
use mathlib.Core.List.{List, [], ◌∷◌}
use mathlib.Core.Bool.{Bool, true, false}
use lib.ListN.{length}
use Rattle.std.specs.Prelude.{Result, Ok, Err}
use Rattle.rules.specs.Lists.{widest}
use Rattle.rules.specs.Answers.{Says}
use Rattle.rules.proofs.Answers.{says_same, said_yes, said_no}
use Rattle.rules.proofs.Refusals.{first_here, first_later}
use Rattle.trees.specs.Agreement.{Minimal}
use Rattle.store.specs.Layout.{in_use, store_graph}
use Rattle.store.specs.Sound.{ShapeSays, says_no_words, says_broken}
use Rattle.store.specs.declared.shape.Flaw.{Flaw}
use Rattle.store.specs.declared.shape.Flaw.TheVariants.{NoWords, Broken}
use Rattle.store.proofs.ShapeAnswers.{ShapeTold, told_rows}
use Rattle.rows.specs.Joined.{source}
use Rattle.rows.specs.View.{Viewed, view_rows}
use Rattle.rows.proofs.View.{viewed_stored}
use Rattle.rows.proofs.Views.{view_store}
use Rattle.classes.specs.Settled.{SortedOver}
use Rattle.classes.specs.Own.{OwnClasses}
use Rattle.classes.proofs.Owning.{own_minimal, minimal_own}
use Rattle.widening.specs.Steps.{OldShaped, LookedSays, looked_refused, looked_rows}

-- ---- the shape's answer, and the trees'

module _ (from : ℕ) (w : List ℕ) (a : Result ℕ Flaw) (s : ShapeSays from w a) where
  pub look_flaw : (flaw : Flaw) → a ≡ Err flaw → LookedSays from w (Err flaw)
  look_flaw flaw e = go flaw (rw e at s)
    where
      go : (f : Flaw) → ShapeSays from w (Err f) → LookedSays from w (Err f)
      go NoWords (says_no_words z) = looked_refused (first_here z) (λ z. omega arith)
      go Broken (says_broken h f) = looked_refused (first_later (λ z. omega arith) (first_here (λ x. f x.shaped))) (λ z. omega arith)

  module _ (rows : ℕ) (e : a ≡ Ok rows) where
    told : ShapeTold from w rows
    told = told_rows from w a rows s e

    pub shape_told : from ≤ widest → OldShaped from w rows
    shape_told h = record { limit = h; words = told.words_there; shaped = told.shaped; counted = told.counted }

    module _ (t : Bool) (m : Says (Minimal (store_graph from w) (in_use w)) t) where
      pub look_twice : t ≡ false → LookedSays from w (Err Broken)
      look_twice q =
          looked_refused
          (first_later (λ z. omega (arith, told.words_there)) (first_here (λ x. said_no (rw q at m) x.distinct)))
          (λ z. omega arith)

      pub look_sound : t ≡ true → LookedSays from w (Ok rows)
      look_sound q =
          looked_rows
          (record {
            words = told.words_there;
            sound = record { shaped = told.shaped; distinct = said_yes (rw q at m) };
            counted = told.counted;
          })
