-- A conversion has one outcome: refused with the first number that applies and nothing changed, or done.
use Prim.Native.Nat.{ℕ, ◌+◌, ◌≤◌}
use native.Mathlib.Omega.{arith}
use mathlib.Core.Path.{◌≡◌, refl, sym, ap, ◌∙◌}
use mathlib.Core.List.{List}
use lib.ListN.{length, take}
use Rattle.rules.specs.Refusals.{First, NoneOf}
use Rattle.rules.specs.Writes.{over_front}
use Rattle.rules.proofs.Refusals.{first_unique, none_done}
use Rattle.rules.proofs.Writes.{over_take}
use Rattle.sheet.specs.Format.{row_count_of}
use Rattle.sheet.proofs.Readable.{readable_right}
use Rattle.converts.specs.Convert.{Appended, result, TooManyRows, ShortBuffer, convert_refusals, ConvertDone, ConvertSays, says_refused, says_done, SameOutcome}
use Rattle.converts.specs.declared.outcome.Converted.{Converted}
use Rattle.converts.proofs.Rising.{rising_one}

-- the rows appended are the only ones
pub appended_one : {w b l m : List ℕ} → Appended w b l → Appended w b m → l ≡ m
appended_one p q = rising_one p.rising q.rising

module _ {w b l : List ℕ} (p : Appended w b l) where
  pub not_many : row_count_of b + length l ≤ 1024 → TooManyRows w b → ⊥
  not_many few x = let e = ap length (appended_one p x.appended) in omega (arith, x.over)

  pub not_short : {out : List ℕ} → length (result w b l) ≤ length out → ShortBuffer w b out → ⊥
  not_short long x = let e = ap (λ m. length (result w b m)) (appended_one p x.appended) in omega (arith, x.short)

-- ---- done: nothing of the list applies

pub done_refuses_none : {w b out out' : List ℕ} {bytes : ℕ} → ConvertDone w b out out' bytes → NoneOf (convert_refusals w b out)
done_refuses_none {b = b} d =
    let n = readable_right b d.readable in
    let h = d.words in
    (λ z. omega arith, ((λ f. f d.sound), (n.0, (n.1.0, (n.1.1.0, (d.leads, (d.straight, (d.unlooped, (not_many d.appended d.few, (not_short d.appended d.long, tt))))))))))

pub done_first : {w b out out' : List ℕ} {bytes : ℕ} → ConvertDone w b out out' bytes → First (convert_refusals w b out) 0
done_first {w} {b} {out} d = none_done (convert_refusals w b out) (done_refuses_none d)

-- the number given is the first of the list that applies, or 0
pub convert_first : {w b out out' : List ℕ} {r : Converted} → ConvertSays w b out r out' → First (convert_refusals w b out) r.number
convert_first (says_refused f z o) = f
convert_first (says_done d) = done_first d

-- ---- a refusal writes nothing, and what is done stands at the front of the buffer

pub refused_stands : {w b out out' : List ℕ} {r : Converted} → ConvertSays w b out r out' → (r.number ≡ 0 → ⊥) → out' ≡ out
refused_stands (says_refused f z o) n = refl
refused_stands (says_done d) n = absurd (n refl)

pub refused_none : {w b out out' : List ℕ} {r : Converted} → ConvertSays w b out r out' → (r.number ≡ 0 → ⊥) → r.bytes ≡ 0
refused_none (says_refused f z o) n = refl
refused_none (says_done d) n = absurd (n refl)

pub convert_done : {w b out out' : List ℕ} {r : Converted} → ConvertSays w b out r out' → r.number ≡ 0 → ConvertDone w b out out' r.bytes
convert_done (says_refused f z o) e = absurd (z e)
convert_done (says_done d) e = d

pub done_front : {w b out out' : List ℕ} {bytes : ℕ} (d : ConvertDone w b out out' bytes) → take bytes out' ≡ result w b d.rows
done_front {w} {b} {out} d = rw (d.written, d.counted) (over_take (result w b d.rows) out)

-- ---- one outcome

done_same : {w b out x y : List ℕ} {m n : ℕ} → ConvertDone w b out x m → ConvertDone w b out y n → SameOutcome (record { number = 0; bytes = m; place = 0 }) (record { number = 0; bytes = n; place = 0 }) x y
done_same {w} {b} {out} {m = m} {n = n} d e =
    let l = appended_one d.appended e.appended in
    let c : m ≡ n = d.counted ∙ ap (λ k. length (result w b k)) l ∙ sym e.counted in
    record { given = rw c; buffer = d.written ∙ ap (λ k. over_front (result w b k) out) l ∙ sym e.written }

pub convert_unique : {w b out : List ℕ} {r s : Converted} {x y : List ℕ} → ConvertSays w b out r x → ConvertSays w b out s y → SameOutcome r s x y
convert_unique (says_refused f z o) (says_refused g y q) = let e = first_unique f g in record { given = rw (o, q, e); buffer = refl }
convert_unique (says_refused f z o) (says_done d) = absurd (z (first_unique f (done_first d)))
convert_unique (says_done d) (says_refused g y q) = absurd (y (first_unique g (done_first d)))
convert_unique (says_done d) (says_done e) = done_same d e
