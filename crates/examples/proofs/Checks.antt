-- The check's number, reckoned.
use Prim.Native.Nat.{ℕ}
use mathlib.Core.Path.{◌≡◌}
use mathlib.Core.Bool.{Bool, true, false}
use mathlib.Core.List.{List}
use lib.ListN.{length}
use lib.Dec.{eqb}
use Rattle.rules.specs.Pick.{pick}
use Rattle.rules.specs.Answers.{Says, says_yes, says_no}
use Rattle.rules.specs.Refusals.{First}
use Rattle.rules.proofs.Refusals.{first_none, first_here, first_later}
use Rattle.rules.proofs.Tested.{says_equal}
use Rattle.store.specs.Layout.{room}
use Rattle.store.specs.Sound.{Sound}
use Rattle.checking.specs.Check.{check_refusals}
use Rattle.checking.proofs.Checking.{check_unique}
use Rattle.checking.proofs.Soundness.{is_sound, says_sound}

unfoldable pub check_number : List ℕ → ℕ
check_number w = pick (eqb (length w) 0) 1 (pick (is_sound w) 0 2)

pub check_reckoned : (w : List ℕ) → First (check_refusals w) (check_number w)
unfolding check_number
check_reckoned w = go (eqb (length w) 0) (says_equal (length w) 0) (is_sound w) (says_sound w)
  where
    go : (a : Bool) → Says (length w ≡ 0) a → (b : Bool) → Says (Sound room w) b → First (check_refusals w) (pick a 1 (pick b 0 2))
    go true (says_yes z) b s = first_here z
    go false (says_no z) true (says_yes s) = first_later z (first_later (λ f. f s) first_none)
    go false (says_no z) false (says_no s) = first_later z (first_here s)

-- what the contract of the check allows is this number and no other
pub record Checks (w : List ℕ) (number : ℕ) : Type 0 where
  pub allowed : First (check_refusals w) number
  pub only : (r : ℕ) → First (check_refusals w) r → r ≡ number

pub computed_check : {w : List ℕ} {number : ℕ} → check_number w ≡ number → Checks w number
computed_check {w} e =
    let f = rw e at (check_reckoned w) in
    record { allowed = f; only = λ r g. check_unique w g f }
