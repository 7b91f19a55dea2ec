-- Laws of arguments: each way through the definitions, as the code goes it.
use Prim.Native.Nat.{ℕ, ◌+◌, ◌-◌, ◌*◌, ◌≤◌, ◌<◌}
use native.Mathlib.Omega.{arith}
use mathlib.Core.Path.{◌≡◌, refl, sym}
use mathlib.Core.Bool.{Bool, true, false}
use mathlib.Core.List.{List}
use lib.ListN.{length}
use borrow.Author.Tests.{le-leb, lt-leb}
use Rattle.std.specs.Prelude.{Result, Ok, Err, IfOk}
use Rattle.sheet.specs.Bytes.{be32}
use Rattle.requests.specs.declared.argument.Stop.{Stop}
use Rattle.requests.specs.declared.argument.Stop.TheVariants.{More, Long}
use Rattle.requests.specs.declared.argument.Argument.{Argument}
use Rattle.requests.specs.Arguments.{stopped, after, Inside, Reads, number_after, body_after, words_after, bytes_after, steps_after}

pub not_both : {t : Bool} → t ≡ true → t ≡ false → ⊥
not_both {t} p q = let z : ◌≡◌ {A = ℕ} 0 1 = cc in omega arith

-- nothing stands in any bytes that cannot be read
pub stopped_reads : {b : List ℕ} {there : Result Argument Stop} {s : Stop} → there ≡ stopped s → Reads b there (stopped s)
stopped_reads e = record { is = sym e; inside = tt }

-- ---- one argument after another

module _ {b : List ℕ} {r : Result Argument Stop} (next : Argument → Result Argument Stop) where
  pub after_there : {a : Argument} {x : Result Argument Stop} → Reads b r (Ok a) → Reads b (next a) x → Reads b (after r next) x
  after_there s x = rw (← s.is) x

  pub after_stopped : {s : Stop} → Reads b r (Err s) → Reads b (after r next) (Err s)
  after_stopped s = rw (← s.is) (record { is = refl; inside = tt })

-- ---- each argument

module _ {b : List ℕ} {r : Result Argument Stop} where
  pub number_kept : {s : Stop} → r ≡ Err s → Reads b (number_after b r) (Err s)
  unfolding number_after
  number_kept w = rw w (stopped_reads refl)

  module _ (a : Argument) (w : r ≡ Ok a) (o : IfOk r (Inside b)) where
    before_inside : Inside b a
    before_inside = rw w at o

    pub number_more : length b - a.end < 4 → Reads b (number_after b r) (stopped More)
    unfolding number_after
    number_more h = let i = before_inside in rw w (stopped_reads (simp (lt-leb (a.end + 4) (length b) (omega (arith, i.ends)))))

    pub number_there : {n : ℕ} → 4 ≤ length b - a.end → n ≡ be32 b a.end → n < 4294967296 → Reads b (number_after b r) (Ok (record { at = a.end; count = n; end = a.end + 4 }))
    unfolding number_after
    number_there h q l =
        let i = before_inside in
        rw w (record {
          is = simp (le-leb (a.end + 4) (length b) (omega (arith, i.ends)), q);
          inside = record { ends = omega (arith, i.ends); begun = omega arith; small = l };
        })

module _ (b : List ℕ) (a : Argument) (i : Inside b a) (most size : ℕ) where
  pub body_long : most < a.count → Reads b (body_after b a most size) (stopped Long)
  unfolding body_after
  body_long h = stopped_reads (simp (lt-leb a.count most h))

  pub body_more : a.count ≤ most → length b - a.end < size → Reads b (body_after b a most size) (stopped More)
  unfolding body_after
  body_more h l = stopped_reads (simp (le-leb a.count most h, lt-leb (a.end + size) (length b) (omega (arith, i.ends))))

  pub body_there : a.count ≤ most → size ≤ length b - a.end → Reads b (body_after b a most size) (Ok (record { at = a.end; count = a.count; end = a.end + size }))
  unfolding body_after
  body_there h l =
      record {
        is = simp (le-leb a.count most h, le-leb (a.end + size) (length b) (omega (arith, i.ends)));
        inside = record { ends = omega (arith, i.ends); begun = omega (arith, i.begun); small = i.small };
      }

module _ (b : List ℕ) (r : Result Argument Stop) where
  module _ {h : Argument} (n : Reads b (number_after b r) (Ok h)) {x : Result Argument Stop} where
    pub words_read : Reads b (body_after b h 8192 (4 * h.count)) x → Reads b (words_after b r) x
    words_read s = after_there (λ h. body_after b h 8192 (4 * h.count)) n s

    pub bytes_read : Reads b (body_after b h 65536 h.count) x → Reads b (bytes_after b r) x
    bytes_read s = after_there (λ h. body_after b h 65536 h.count) n s

    pub steps_read : Reads b (body_after b h 65536 0) x → Reads b (steps_after b r) x
    steps_read s = after_there (λ h. body_after b h 65536 0) n s

  module _ {s : Stop} (n : Reads b (number_after b r) (Err s)) where
    pub words_stopped : Reads b (words_after b r) (Err s)
    words_stopped = after_stopped (λ h. body_after b h 8192 (4 * h.count)) n

    pub bytes_stopped : Reads b (bytes_after b r) (Err s)
    bytes_stopped = after_stopped (λ h. body_after b h 65536 h.count) n

    pub steps_stopped : Reads b (steps_after b r) (Err s)
    steps_stopped = after_stopped (λ h. body_after b h 65536 0) n
