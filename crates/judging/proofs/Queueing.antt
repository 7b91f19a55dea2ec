-- The queue of the store rows met: it has room for a row that is not met, and one more row goes to its end.
use Prim.Native.Nat.{ℕ, suc, ◌+◌, ◌<◌}
use native.Mathlib.Omega.{arith}
use native.Mathlib.Decide.{dec_lt, ℕ_discrete}
use mathlib.Core.Path.{◌≡◌, sym, ◌∙◌}
use mathlib.Core.Bool.{Bool}
use mathlib.Core.List.{List}
use lib.ListN.{length, get_or, set, length-set}
use lib.Seq.{get_or-set_same, get_or-set_other}
use lib.Dec.{ltb}
use Rattle.rules.specs.Pick.{pick}
use Rattle.rules.specs.Answers.{Says, says_yes, says_no}
use Rattle.rules.proofs.Tested.{says_below}
use Rattle.walks.proofs.Few.{pigeonhole}
use Rattle.loops.specs.Orders.{StandsIn}
use Rattle.judging.specs.Verdicts.{state_of}
use Rattle.judging.specs.Queues.{EachOnce, Queueing, Askable, Meets, met_before, meets_now}

-- ---- room

module _ {stored : ℕ} {queue : List ℕ} {filled : ℕ} (l : EachOnce stored queue filled) where
  module _ (x : ℕ) (h : x < stored) (f : (i : ℕ) → i < filled → get_or queue i 0 ≡ x → ⊥) where
    -- the queue with x behind it
    data Next (i : ℕ) : ℕ → Type 0 where
      before : i < filled → Next i (get_or queue i 0)
      last : (i < filled → ⊥) → Next i x

    next : (i : ℕ) → Next i (pick (ltb i filled) (get_or queue i 0) x)
    next i = go (says_below i filled)
      where
        go : {a : Bool} → Says (i < filled) a → Next i (pick a (get_or queue i 0) x)
        go (says_yes q) = before q
        go (says_no q) = last q

    low : {i y : ℕ} → Next i y → y < stored
    low {i} (before q) = l.within i q
    low (last q) = h

    one : {i k y z : ℕ} → i < suc filled → k < suc filled → Next i y → Next k z → y ≡ z → i ≡ k
    one {i} {k} a b (before p) (before q) e = l.apart i k p q e
    one {i} {k} a b (before p) (last q) e = absurd (f i p e)
    one {i} {k} a b (last p) (before q) e = absurd (f k q (sym e))
    one a b (last p) (last q) e = omega arith

    pub once_room : filled < stored
    once_room =
        let r = pigeonhole stored (suc filled) (λ i. pick (ltb i filled) (get_or queue i 0) x)
        (record { below = λ i a. low (next i); apart = λ i k a b e. one a b (next i) (next k) e }) in
        omega arith

-- ---- a row met

module _ (stored : ℕ) (state queue : List ℕ) (filled : ℕ) (q : Queueing stored state queue filled) (x : ℕ) (a : Askable stored state x) where
  pub meet_there : x < length state
  meet_there = a.there

  pub meet_before : (y : ℕ) → y ≡ state_of state x → (y ≡ 0 → ⊥) → Meets stored state queue filled x state queue filled
  meet_before y e f = met_before (λ z. f (e ∙ z))

  module _ (y : ℕ) (e : y ≡ state_of state x) (z : y ≡ 0) where
    unmet : state_of state x ≡ 0
    unmet = sym e ∙ z

    met_low : x < stored
    met_low = a.low unmet

    other : (i : ℕ) → i < filled → get_or queue i 0 ≡ x → ⊥
    other i h p = let m : state_of state x ≡ 1 = rw p at (q.met i h) in omega (arith, unmet)

    pub meet_short : x < 65536
    meet_short = omega (arith, met_low, q.once.few)

    pub meet_space : filled < length queue
    meet_space = let r = once_room q.once x met_low other in omega (arith, q.once.space)

    kept : (i : ℕ) → i < filled → get_or (set queue filled x) i 0 ≡ get_or queue i 0
    kept i h = get_or-set_other queue filled i x 0 (λ p. omega arith)

    end : get_or (set queue filled x) filled 0 ≡ x
    end = get_or-set_same queue filled x 0 meet_space

    within : (i : ℕ) → i < filled + 1 → Dec (i < filled) → get_or (set queue filled x) i 0 < stored
    within i h (yes l) = rw (kept i l) (q.once.within i l)
    within i h (no l) = let p : i ≡ filled = omega arith in rw (p, end) met_low

    apart : (i k : ℕ) → i < filled + 1 → k < filled + 1 → Dec (i < filled) → Dec (k < filled)
        → get_or (set queue filled x) i 0 ≡ get_or (set queue filled x) k 0 → i ≡ k
    apart i k h m (yes l) (yes r) p = q.once.apart i k l r (sym (kept i l) ∙ p ∙ kept k r)
    apart i k h m (yes l) (no r) p =
        let w : k ≡ filled = omega arith in
        absurd (other i l (sym (kept i l) ∙ p ∙ rw w end))
    apart i k h m (no l) (yes r) p =
        let w : i ≡ filled = omega arith in
        absurd (other k r (sym (kept k r) ∙ sym p ∙ rw w end))
    apart i k h m (no l) (no r) p = omega arith

    met : (i : ℕ) → i < filled + 1 → Dec (i < filled) → state_of (set state x 1) (get_or (set queue filled x) i 0) ≡ 1
    met i h (yes l) = rw (kept i l) (get_or-set_other state x (get_or queue i 0) 1 0 (other i l) ∙ q.met i l)
    met i h (no l) = let p : i ≡ filled = omega arith in rw (p, end) (get_or-set_same state x 1 0 a.there)

    all : (u : ℕ) → u < stored → (state_of (set state x 1) u ≡ 0 → ⊥) → Dec (u ≡ x) → StandsIn (set queue filled x) 0 (filled + 1) u
    all u h f (yes p) = record { place = filled; low = omega arith; high = omega arith; is = end ∙ sym p }
    all u h f (no p) =
        let s = q.all u h (λ m. f (get_or-set_other state x u 1 0 p ∙ m)) in
        record { place = s.place; low = omega arith; high = omega (arith, s.high); is = kept s.place s.high ∙ s.is }

    pub meet_now : Meets stored state queue filled x (set state x 1) (set queue filled x) (filled + 1)
    meet_now =
        meets_now {queue = set queue filled x} {now = filled + 1} unmet a.there
        (record {
          once = record {
            space = simp length-set q.once.space;
            few = q.once.few;
            least = let r = once_room q.once x met_low other in omega arith;
            within = λ i h. within i h (dec_lt i filled);
            apart = λ i k h m. apart i k h m (dec_lt i filled) (dec_lt k filled);
          };
          long = simp length-set q.long;
          met = λ i h. met i h (dec_lt i filled);
          all = λ u h f. all u h f (ℕ_discrete u x);
        })
        (record { more = omega arith; kept = kept })
