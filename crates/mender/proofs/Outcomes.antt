-- The count taken, the refusals, and the memory that mending starts with.
use Prim.Native.Nat.{ℕ, zero, suc, ◌≤◌, ◌<◌}
use native.Mathlib.Omega.{arith}
use native.Mathlib.Nat.{min-eq_left, min-eq_right}
use mathlib.Core.Path.{◌≡◌, refl, sym}
use mathlib.Core.List.{List}
use lib.ListN.{length, get_or, replicate}
use Rattle.std.specs.Prelude.{Option, Some, None}
use Rattle.rules.specs.Refusals.{First}
use Rattle.rules.specs.Lists.{widest}
use Rattle.rules.proofs.Refusals.{first_here, first_later, first_unique, none_done}
use Rattle.store.specs.Layout.{in_use, capacity_of, capacity_answer}
use Rattle.store.proofs.Room.{none_words, some_words, rows_words}
use Rattle.mends.specs.Dropped.{taken}
use Rattle.mends.specs.Mended.{mend_refusals, MendDone}
use Rattle.mends.proofs.Unique.{done_one}
use Rattle.mender.specs.Says.{MendSays, mend_refused, mend_done, SameOutcome}
use Rattle.mender.specs.Steps.{MendAsks, Zeros}
use Rattle.mender.specs.declared.mending.Mended.{Mended}

-- ---- the count taken

module _ (most : ℕ) (w : List ℕ) (capacity rows : ℕ) (c : capacity ≡ capacity_of most (length w)) (r : rows ≡ in_use w) where
  pub taken_over_lem : capacity < rows → capacity ≡ taken most w
  unfolding taken
  taken_over_lem h = rw (sym c, sym r) (sym (min-eq_right (omega arith)))

  pub taken_rows : rows ≤ capacity → rows ≡ taken most w
  unfolding taken
  taken_rows h = rw (sym c, sym r) (sym (min-eq_left h))

-- ---- zeros

zeros_at : (n i : ℕ) → get_or (replicate {A = ℕ} n 0) i 0 ≡ 0
zeros_at zero i = refl
zeros_at (suc n) zero = refl
zeros_at (suc n) (suc i) = zeros_at n i

zeros_long : (n : ℕ) → length (replicate {A = ℕ} n 0) ≡ n
zeros_long zero = refl
zeros_long (suc n) = omega (arith, zeros_long n)

pub zeros_made : Zeros 1024 (replicate 1024 0)
zeros_made = record { all = zeros_long 1024; zero = zeros_at 1024 }

-- ---- refusals

module _ (most : ℕ) (w list : List ℕ) (answer : Option ℕ) (e : answer ≡ capacity_answer most (length w)) where
  pub mend_none : answer ≡ None → MendSays most w list (record { number = 1; dropped = 0; wires = 0; merged = 0; cleared = 0 }) w list
  mend_none q = mend_refused (first_here (none_words most (length w) answer e q)) (λ z. omega arith)

  module _ (capacity : ℕ) (q : answer ≡ Some capacity) where
    pub mend_words : 0 < length w
    mend_words = some_words most (length w) answer e capacity q

    pub mend_capacity : capacity ≡ capacity_of most (length w)
    mend_capacity = rows_words most (length w) answer e capacity q

    module _ (n : ℕ) (t : n ≡ taken most w) where
      pub mend_short : length list < n → MendSays most w list (record { number = 16; dropped = 0; wires = 0; merged = 0; cleared = 0 }) w list
      mend_short h =
          let s = mend_words in
          mend_refused (first_later (λ z. omega arith) (first_here (rw (sym t) h))) (λ z. omega arith)

      pub mend_asks : 0 < most → most ≤ widest → n ≤ length list → MendAsks most n w list
      mend_asks some limit h = record { some = some; limit = limit; words = mend_words; counted = t; entries = h }

-- ---- one outcome

module _ {most : ℕ} {w list : List ℕ} where
  -- nothing refuses what is done
  done_first : {w' list' : List ℕ} {dropped wires merged cleared : ℕ} → MendDone most w list w' list' dropped wires merged cleared → First (mend_refusals most w list) 0
  done_first d = none_done (mend_refusals most w list) ((λ z. omega (arith, d.words)), ((λ z. omega (arith, d.long)), tt))

  pub mend_unique : {r s : Mended} {w₁ w₂ list₁ list₂ : List ℕ} → MendSays most w list r w₁ list₁ → MendSays most w list s w₂ list₂ → SameOutcome r s w₁ w₂ list₁ list₂
  mend_unique (mend_refused a f) (mend_refused b g) = record { results = rw (first_unique a b) refl; words = refl; lists = refl }
  mend_unique (mend_refused a f) (mend_done d) = absurd (f (first_unique a (done_first d)))
  mend_unique (mend_done d) (mend_refused b g) = absurd (g (first_unique b (done_first d)))
  mend_unique (mend_done d) (mend_done e) =
      let o = done_one d e in
      record { results = rw (o.drops, o.wired, o.merges, o.clears) refl; words = o.words; lists = o.lists }
