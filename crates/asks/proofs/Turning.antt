-- The turns over the requests that stand in some bytes: each whole one is passed, and the turns end in one place.
use Prim.Native.Nat.{ℕ, ◌+◌, ◌-◌, ◌^◌, ◌≤◌, ◌<◌}
use native.Mathlib.Omega.{arith}
use mathlib.Core.Path.{◌≡◌, refl, sym, ◌∙◌, ap}
use mathlib.Core.List.{List}
use lib.ListN.{length, take, drop, length-drop}
use lib.Seq.{take_all}
use Rattle.std.specs.Prelude.{Ok, Err}
use Rattle.requests.specs.Arguments.{end_of, stopped, Inside, Reads}
use Rattle.requests.specs.Requests.{request_of, WholeRequest}
use Rattle.requests.specs.declared.argument.Stop.{Stop}
use Rattle.requests.specs.declared.argument.Argument.{Argument}
use Rattle.requests.proofs.Arguments.{not_both}
use Rattle.asks.specs.Turns.{Turns, turns_end, turns_step, Answered}

-- ---- one place where the turns end, and one reason

turns_same : {b : List ℕ} {at to to' : ℕ} → Turns b at to → Turns b at to' → to ≡ to'
turns_same (turns_end e) (turns_end e') = refl
turns_same (turns_end e) (turns_step w t) = absurd (not_both w.whole e)
turns_same (turns_step w t) (turns_end e) = absurd (not_both w.whole e)
turns_same (turns_step w t) (turns_step w' t') = turns_same t t'

pub answered_unique : {b : List ℕ} {at at' : ℕ} {s s' : Stop} → Answered b at s → Answered b at' s' → (at ≡ at') × (s ≡ s')
answered_unique {b} {s = s} {s' = s'} x y =
    let e = turns_same x.turns y.turns in
    let q : stopped s ≡ stopped s' = sym x.why ∙ ap (λ (k : ℕ). request_of (drop k b)) e ∙ y.why in
    let z : s ≡ s' = cc in
    (e, z)

-- ---- the turns so far

-- every whole request before the place was passed
pub record Going (b : List ℕ) (at : ℕ) : Type 0 where
  pub small : length b < 2 ^ 64
  pub within : at ≤ length b
  pub turns : (to : ℕ) → Turns b at to → Turns b 0 to

pub going_none : {b : List ℕ} → length b < 2 ^ 64 → Going b 0
going_none n = record { small = n; within = omega arith; turns = λ to t. t }

module _ {b : List ℕ} {at : ℕ} (s : Going b at) where
  module _ {ask : List ℕ} (from : ask ≡ drop at b) where
    pub going_over : {stop : Stop} → Reads ask (request_of ask) (Err stop) → Answered b at stop
    going_over {stop} read =
        let e : request_of (drop at b) ≡ stopped stop = rw (← from) (sym read.is) in
        record { turns = s.turns at (turns_end (rw e refl)); why = e; within = s.within }

    module _ {last : Argument} (read : Reads ask (request_of ask) (Ok last)) where
      inside : Inside ask last
      inside = read.inside

      ask_long : length ask ≡ length b - at
      ask_long = rw from (length-drop at b)

      going_within : at + last.end ≤ length b
      going_within = omega (arith, s.within, inside.ends, ask_long)

      pub going_fits : at + last.end < 2 ^ 64
      going_fits = omega (arith, s.small, going_within)

      pub going_less : length b - (at + last.end) < length b - at
      going_less = omega (arith, inside.begun, going_within)

      pub going_whole : WholeRequest ask
      going_whole = record { some = omega (arith, inside.begun, inside.ends); whole = rw (← read.is) refl }

      pub going_more : Going b (at + last.end)
      going_more =
          let e : at + last.end ≡ at + end_of (request_of (drop at b)) = rw (← from, ← read.is) refl in
          record { small = s.small; within = going_within; turns = λ to t. s.turns to (turns_step (rw from at going_whole) (rw e at t)) }

-- all that is left of some bytes
pub rest_all : (b : List ℕ) (at : ℕ) → at ≤ length b → take (length b - at) (drop at b) ≡ drop at b
rest_all b at h = take_all (length b - at) (drop at b) (simp length-drop (omega arith))
