-- What a done answer tells: the store has words and is sound. The numbers alone say that it is not unsound; that soundness is decided gives the rest.
use Prim.Native.Nat.{ℕ, ◌<◌}
use native.Mathlib.Omega.{arith}
use native.Mathlib.Decide.{dec_lt}
use mathlib.Core.Path.{◌≡◌, refl}
use mathlib.Core.Bool.{Bool, true, false}
use mathlib.Core.List.{List}
use mathlib.Core.Logic.{inl, inr}
use lib.ListN.{length}
use Rattle.rules.specs.Answers.{Says, says_yes, says_no}
use Rattle.rules.specs.Refusals.{Refusal, First}
use Rattle.rules.proofs.Refusals.{done_none}
use Rattle.store.specs.Layout.{in_use, room}
use Rattle.store.specs.Sound.{Sound}
use Rattle.checking.specs.Check.{check_refusals}
use Rattle.checking.specs.Checked.{SoundStore}
use Rattle.checking.specs.Answers.{AnswerSays, answers_refused, answers_done, Out}
use Rattle.checking.specs.declared.look.Answer.{Answer}
use Rattle.checking.proofs.Soundness.{is_sound, says_sound}

-- a store that is not unsound is sound
pub sound_known : (w : List ℕ) → ((Sound room w → ⊥) → ⊥) → Sound room w
sound_known w z = go (is_sound w) (says_sound w)
  where
    go : (b : Bool) → Says (Sound room w) b → Sound room w
    go true (says_yes s) = s
    go false (says_no n) = absurd (z n)

pub store_known : (w : List ℕ) → (length w ≡ 0 → ⊥) → ((Sound room w → ⊥) → ⊥) → SoundStore w (in_use w)
store_known w n z = record { words = omega arith; sound = sound_known w z; counted = refl }

-- a check that gives 0: the store has words and is sound
pub check_done : (w : List ℕ) → First (check_refusals w) 0 → SoundStore w (in_use w)
check_done w f =
    let n = done_none {l = check_refusals w} ((λ z. omega arith), ((λ z. omega arith), tt)) f in
    store_known w n.0 n.1.0

-- the numbers asked for are in use
pub in_first : (w : List ℕ) (row : ℕ) (v : List ℕ) (other : ℕ) → (Out w row v other → ⊥) → row < in_use w
in_first w row v other n = go (dec_lt row (in_use w))
  where
    go : Dec (row < in_use w) → row < in_use w
    go (yes h) = h
    go (no h) = absurd (n (inl (omega arith)))

pub in_second : (w : List ℕ) (row : ℕ) (v : List ℕ) (other : ℕ) → (Out w row v other → ⊥) → other < in_use v
in_second w row v other n = go (dec_lt other (in_use v))
  where
    go : Dec (other < in_use v) → other < in_use v
    go (yes h) = h
    go (no h) = absurd (n (inr (omega arith)))

-- an answer of number 0 is that of a list of which nothing applies
pub answer_done : {list : List Refusal} {P : Type 0} {a : Answer} → AnswerSays list P a → a.number ≡ 0 → First list 0
answer_done (answers_refused f z) e = absurd (z e)
answer_done (answers_done f s) e = f
