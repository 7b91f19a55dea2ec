-- What writing a key gives back and leaves, reckoned; and that the contract allows this outcome and no other.
use Prim.Native.Nat.{ℕ, ◌≤◌, ◌<◌}
use mathlib.Core.Path.{◌≡◌}
use mathlib.Core.Bool.{Bool, true, false}
use mathlib.Core.List.{List}
use lib.ListN.{length}
use lib.Dec.{ltb, leb, eqb}
use Rattle.rules.specs.Pick.{pick}
use Rattle.rules.specs.Answers.{Says, says_yes, says_no}
use Rattle.rules.specs.Refusals.{First}
use Rattle.rules.specs.Writes.{over_front}
use Rattle.rules.proofs.Refusals.{first_none, first_here, first_later}
use Rattle.rules.proofs.Tested.{says_below, says_equal}
use Rattle.store.specs.Layout.{in_use, room}
use Rattle.store.specs.Sound.{Sound}
use Rattle.keying.specs.Written.{key_of, write_refusals, WriteSays, write_refused, write_done}
use Rattle.keying.specs.declared.Written.{Written}
use Rattle.keying.proofs.Keying.{write_number_lem, write_bytes}
use Rattle.checking.proofs.Deciding.{says_most}
use Rattle.checking.proofs.Soundness.{is_sound, says_sound}

-- ---- the number: 1, 2, 9, 10

unfoldable pub write_number : List ℕ → ℕ → List ℕ → ℕ
write_number w row old =
    pick (eqb (length w) 0) 1
    (pick (is_sound w)
    (pick (leb (in_use w) row) 9
    (pick (ltb (length old) (length (key_of w row))) 10 0))
    2)

pub write_first : (w : List ℕ) (row : ℕ) (old : List ℕ) → First (write_refusals w row old) (write_number w row old)
unfolding write_number
write_first w row old =
    go (eqb (length w) 0) (says_equal (length w) 0)
    (is_sound w) (says_sound w)
    (leb (in_use w) row) (says_most (in_use w) row)
    (ltb (length old) (length (key_of w row))) (says_below (length old) (length (key_of w row)))
  where
    go : (a : Bool) → Says (length w ≡ 0) a
        → (b : Bool) → Says (Sound room w) b
        → (c : Bool) → Says (in_use w ≤ row) c
        → (e : Bool) → Says (length old < length (key_of w row)) e
        → First (write_refusals w row old) (pick a 1 (pick b (pick c 9 (pick e 10 0)) 2))
    go true (says_yes p) b s c q e l = first_here p
    go false (says_no p) false (says_no s) c q e l = first_later p (first_here s)
    go false (says_no p) true (says_yes s) true (says_yes q) e l = first_later p (first_later (λ f. f s) (first_here q))
    go false (says_no p) true (says_yes s) false (says_no q) true (says_yes l) =
        first_later p (first_later (λ f. f s) (first_later q (first_here l)))
    go false (says_no p) true (says_yes s) false (says_no q) false (says_no l) =
        first_later p (first_later (λ f. f s) (first_later q (first_later l first_none)))

-- ---- the outcome

pub record KeyOutcome : Type 0 where
  pub result : Written
  pub key : List ℕ

unfoldable pub write_outcome : List ℕ → ℕ → List ℕ → KeyOutcome
write_outcome w row old =
    pick (eqb (write_number w row old) 0)
    (record { result = record { number = 0; bytes = length (key_of w row) }; key = over_front (key_of w row) old })
    (record { result = record { number = write_number w row old; bytes = 0 }; key = old })

pub record WriteAllowed (w : List ℕ) (row : ℕ) (old : List ℕ) (o : KeyOutcome) : Type 0 where
  pub says : WriteSays w row old o.result o.key

pub write_allowed : (w : List ℕ) (row : ℕ) (old : List ℕ) → WriteAllowed w row old (write_outcome w row old)
unfolding write_outcome
write_allowed w row old =
    go (write_number w row old) (write_first w row old) (eqb (write_number w row old) 0) (says_equal (write_number w row old) 0)
  where
    go : (r : ℕ) → First (write_refusals w row old) r → (t : Bool) → Says (r ≡ 0) t
        → WriteAllowed w row old
        (pick t
        (record { result = record { number = 0; bytes = length (key_of w row) }; key = over_front (key_of w row) old })
        (record { result = record { number = r; bytes = 0 }; key = old }))
    go r f true (says_yes z) = record { says = write_done (rw z at f) }
    go r f false (says_no z) = record { says = write_refused f z }

pub write_reckoned : {w : List ℕ} {row : ℕ} {old : List ℕ} {r : Written} {key : List ℕ} → WriteSays w row old r key → (r ≡ (write_outcome w row old).result) × (key ≡ (write_outcome w row old).key)
write_reckoned {w} {row} {old} s =
    let t = (write_allowed w row old).says in
    (write_number_lem s t, write_bytes s t)

-- what the contract of key writing allows is this and nothing else: the number, the bytes written, and the buffer after
pub record WritesKey (w : List ℕ) (row : ℕ) (old : List ℕ) (number bytes : ℕ) (key : List ℕ) : Type 0 where
  pub allowed : WriteSays w row old (record { number = number; bytes = bytes }) key
  pub only : (r : Written) (k : List ℕ) → WriteSays w row old r k → (r ≡ record { number = number; bytes = bytes }) × (k ≡ key)

pub computed_key : {w : List ℕ} {row : ℕ} {old : List ℕ} {number bytes : ℕ} {key : List ℕ} → write_outcome w row old ≡ record { result = record { number = number; bytes = bytes }; key = key } → WritesKey w row old number bytes key
computed_key {w} {row} {old} e =
    record { allowed = (rw e at (write_allowed w row old)).says; only = λ r k t. rw e at (write_reckoned t) }
