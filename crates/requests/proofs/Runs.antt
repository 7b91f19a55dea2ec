-- A run filled in from its first entry, and the bytes of a run as a part of the request.
use Prim.Native.Nat.{ℕ, ◌+◌, ◌-◌, ◌≤◌, ◌<◌}
use native.Mathlib.Omega.{arith}
use mathlib.Core.Path.{◌≡◌, sym, ◌∙◌}
use mathlib.Core.List.{List}
use lib.ListN.{length, take, drop, set, length-take, length-drop}
use lib.Seq.{take_all, ext_get_or, get_or-take, get_or-drop}
use Rattle.rules.specs.Lists.{firsts}
use Rattle.rules.specs.Writes.{over_front}
use Rattle.rules.proofs.Lists.{Filled, filled_none, filled_more, filled_all, firsts_length, firsts_at}
use Rattle.rules.proofs.Writes.{over_length, over_take}
use Rattle.sheet.specs.Bytes.{byte_at}
use Rattle.requests.specs.declared.argument.Argument.{Argument}
use Rattle.requests.specs.Runs.{bytes_in, BytesThere}

-- j of n values stand at the front of n entries
pub record Filling (old : List ℕ) (f : ℕ → ℕ) (n : ℕ) (found : List ℕ) (j : ℕ) : Type 0 where
  pub filled : Filled old f n found j
  pub lent : length old ≡ n

pub filling_none : (old : List ℕ) (f : ℕ → ℕ) (n : ℕ) → length old ≡ n → Filling old f n old 0
filling_none old f n e = record { filled = filled_none old f n; lent = e }

module _ {old : List ℕ} {f : ℕ → ℕ} {n : ℕ} {found : List ℕ} {j : ℕ} (s : Filling old f n found j) where
  pub filling_more : {v : ℕ} → j < n → v ≡ f j → Filling old f n (set found j v) (j + 1)
  filling_more {v} h e =
      let l = s.lent in
      record { filled = filled_more old f n found j v s.filled h (omega arith) e; lent = l }

  -- where all stand, there is nothing else
  pub filling_all : n ≤ j → found ≡ firsts f n
  filling_all h =
      let new = firsts f n in
      let l : length new ≡ n = firsts_length f n in
      let o : length (over_front new old) ≡ length old = over_length new old (omega (arith, s.lent)) in
      filled_all old f n found j s.filled h
      ∙ sym (take_all (length new) (over_front new old) (omega (arith, s.lent)))
      ∙ over_take new old

abbrev pub byte_from : List ℕ → (at i : ℕ) → ℕ
byte_from b at i = byte_at b (at + i)

pub part_firsts : (b : List ℕ) (at n : ℕ) → at + n ≤ length b → firsts (byte_from b at) n ≡ take n (drop at b)
part_firsts b at n h =
    let f = byte_from b at in
    let l : length (firsts f n) ≡ n = firsts_length f n in
    let d : length (take n (drop at b)) ≡ n = simp (length-take, length-drop) (omega arith) in
    ext_get_or 0 (firsts f n) (take n (drop at b)) (omega arith) (λ i q. firsts_at f n i (omega arith) ∙ sym (get_or-take n (drop at b) i 0 (omega arith) ∙ get_or-drop at b i 0))

pub part_run_lem : (b : List ℕ) (a : Argument) → BytesThere b a → take (a.end - a.at) (drop a.at b) ≡ bytes_in b a
part_run_lem b a t = let e : a.end - a.at ≡ a.count = omega (arith, t.ends) in rw e
