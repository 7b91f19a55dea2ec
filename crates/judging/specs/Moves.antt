-- Inner: rows that go on to their next state one after another, by a rule, in passes over all rows until none goes on.
use Rattle.std.specs.Prelude.{ℕ, suc, ◌+◌, ◌-◌, ◌≤◌, ◌<◌, ◌≡◌, Bool, true, false, List, [], ◌∷◌, length, set}
use Rattle.judging.specs.Verdicts.{state_of}

-- the state that rows go on from, when a row may go on, and what is known of a place looked at where no row could
pub record Rule : Type 1 where
  pub from : ℕ
  pub low : from < 2
  pub may : List ℕ → ℕ → Type 0
  pub quiet : List ℕ → ℕ → Type 0

-- rows that went on one after another
pub data Moved (rule : Rule) (old : List ℕ) : List ℕ → Type 0 where
  moved_none : Moved rule old old
  moved_more : {mid : List ℕ} {u : ℕ} → Moved rule old mid → u < length mid → state_of mid u ≡ rule.from → rule.may mid u
      → Moved rule old (set mid u (suc rule.from))

-- how often rows can still go on
unfoldable pub rest : List ℕ → ℕ
rest [] = 0
rest (x ∷ l) = (2 - x) + rest l

-- the places from a up to b looked at: rows went on, or none could
pub data Looked (rule : Rule) (old : List ℕ) (a b : ℕ) : (new : List ℕ) → Bool → Type 0 where
  looked_moved : {new : List ℕ} → Moved rule old new → rest new < rest old → Looked rule old a b new true
  looked_quiet : {new : List ℕ} → ((k : ℕ) → a ≤ k → k < b → rule.quiet old k) → new ≡ old → Looked rule old a b new false

-- rows went on until, at the first n places, none could
pub record Settled (rule : Rule) (n : ℕ) (old new : List ℕ) : Type 0 where
  pub moved : Moved rule old new
  pub quiet : (k : ℕ) → k < n → rule.quiet new k

-- or from one place up to another
pub record SettledFrom (rule : Rule) (from to : ℕ) (old new : List ℕ) : Type 0 where
  pub moved : Moved rule old new
  pub quiet : (k : ℕ) → from ≤ k → k < to → rule.quiet new k
