-- What looking a store over tells, and what it gives to those who go on.
use Prim.Native.Nat.{ℕ, ◌≤◌}
use native.Mathlib.Omega.{arith}
use mathlib.Core.Path.{◌≡◌}
use mathlib.Core.Bool.{Bool, true, false}
use mathlib.Core.List.{List, [], ◌∷◌}
use lib.ListN.{length}
use Rattle.std.specs.Prelude.{Result, Ok, Err}
use Rattle.rules.specs.Refusals.{Refusal, First}
use Rattle.rules.specs.Answers.{Says}
use Rattle.rules.proofs.Refusals.{first_later, first_none, first_unique}
use Rattle.rules.proofs.Answers.{said_yes, says_unique}
use Rattle.trees.specs.Agreement.{Minimal}
use Rattle.store.specs.Layout.{in_use, store_graph, room}
use Rattle.store.specs.Sound.{flaw_number, ShapeSays}
use Rattle.store.specs.declared.shape.Flaw.{Flaw}
use Rattle.store.specs.declared.shape.Flaw.TheVariants.{NoWords, Broken}
use Rattle.walker.specs.Queue.{Walkable}
use Rattle.walker.proofs.Visits.{walkable_few}
use Rattle.checking.specs.Check.{check_refusals}
use Rattle.checking.specs.Checked.{SoundStore, CheckedSays, checked_refused, checked_rows, checked_number, checked_values}
use Rattle.checking.specs.Answers.{AnswerSays, answers_refused, answers_done}
use Rattle.checking.specs.declared.look.Answer.{Answer}
use Rattle.checking.proofs.Checking.{check_flaw, check_twice, shape_told}

-- ---- a store looked over

-- no flaw has the number of done
pub flaw_some : (flaw : Flaw) → flaw_number flaw ≡ 0 → ⊥
flaw_some NoWords e = omega arith
flaw_some Broken e = omega arith

module _ (w : List ℕ) (a : Result ℕ Flaw) (s : ShapeSays room w a) where
  pub look_flaw : (flaw : Flaw) → a ≡ Err flaw → CheckedSays w (Err flaw)
  look_flaw flaw e = checked_refused (check_flaw w a s flaw e) (flaw_some flaw)

  module _ (rows : ℕ) (e : a ≡ Ok rows) (t : Bool) (m : Says (Minimal (store_graph room w) (in_use w)) t) where
    pub look_twice : t ≡ false → CheckedSays w (Err Broken)
    look_twice q = checked_refused (check_twice w a s rows e t m q) (λ z. omega arith)

    pub look_sound : t ≡ true → CheckedSays w (Ok rows)
    look_sound q =
        let o = shape_told w a s rows e in
        checked_rows (record { words = o.words; sound = record { shaped = o.shaped; distinct = said_yes (rw q at m) }; counted = o.counted })

-- ---- the number alone

pub look_number : (w : List ℕ) (a : Result ℕ Flaw) (flaw : Flaw) (number : ℕ) → CheckedSays w a → a ≡ Err flaw → number ≡ flaw_number flaw → First (check_refusals w) number
look_number w a flaw number s e n = rw n (go (rw e at s))
  where
    go : CheckedSays w (Err flaw) → First (check_refusals w) (flaw_number flaw)
    go (checked_refused f z) = f

pub look_done : (w : List ℕ) (a : Result ℕ Flaw) (rows : ℕ) → CheckedSays w a → a ≡ Ok rows → First (check_refusals w) 0
look_done w a rows s e = go (rw e at s)
  where
    go : CheckedSays w (Ok rows) → First (check_refusals w) 0
    go (checked_rows x) = let h = x.words in first_later (λ z. omega arith) (first_later (λ f. f x.sound) first_none)

-- the number of either answer, and the rows in use of a store that is sound
pub checked_first : {w : List ℕ} {a : Result ℕ Flaw} → CheckedSays w a → First (check_refusals w) (checked_number a)
checked_first (checked_refused f z) = f
checked_first (checked_rows x) = let h = x.words in first_later (λ z. omega arith) (first_later (λ f. f x.sound) first_none)

pub checked_values_lem : {w : List ℕ} {a : Result ℕ Flaw} → CheckedSays w a → checked_number a ≡ 0 → checked_values a ≡ in_use w ∷ []
checked_values_lem (checked_refused f z) e = absurd (z e)
checked_values_lem (checked_rows x) e = rw x.counted

-- ---- a sound store walked

module _ (w : List ℕ) (n : ℕ) (s : SoundStore w n) where
  pub sound_walkable : Walkable room w n
  sound_walkable = record { limit = omega arith; shaped = s.sound.shaped; counted = s.counted }

  pub sound_few : n ≤ 1024
  sound_few = walkable_few room w n sound_walkable

  pub sound_queue : (queue : List ℕ) → length queue ≡ 1024 → n ≤ length queue
  sound_queue queue l = let f = sound_few in omega arith

pub checked_sound : (w : List ℕ) (a : Result ℕ Flaw) (rows : ℕ) → CheckedSays w a → a ≡ Ok rows → SoundStore w rows
checked_sound w a rows s e = go (rw e at s)
  where
    go : CheckedSays w (Ok rows) → SoundStore w rows
    go (checked_rows x) = x

-- ---- one answer

pub answer_unique : {list : List Refusal} {P : Type 0} {a b : Answer} → AnswerSays list P a → AnswerSays list P b → a ≡ b
answer_unique (answers_refused f z) (answers_refused g y) = let e = first_unique f g in rw e
answer_unique (answers_refused f z) (answers_done g t) = absurd (z (first_unique f g))
answer_unique (answers_done f s) (answers_refused g y) = absurd (y (first_unique g f))
answer_unique (answers_done f s) (answers_done g t) = let e = says_unique s t in rw e
