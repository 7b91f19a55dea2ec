-- A walk has one outcome: two stores that it may leave are equal, and so are two answer lists and two texts. So an input has one text.
use Prim.Native.Nat.{ℕ, ◌-◌, ◌<◌}
use native.Mathlib.Omega.{arith}
use native.Mathlib.Decide.{dec_lt}
use mathlib.Core.Path.{◌≡◌, refl, sym, ap, ap₂, ◌∙◌}
use mathlib.Core.List.{List, ◌++◌}
use lib.ListN.{length}
use Rattle.rules.specs.Writes.{over_front}
use Rattle.bundle.specs.Reading.{place_reached, sheet_of, ReadWhole}
use Rattle.bundle.proofs.Reading.{read_once}
use Rattle.duties.proofs.Outcome.{insert_unique}
use Rattle.listing.specs.Lines.{rest_line}
use Rattle.listing.specs.Ran.{Took, Ran, ran_none, ran_more, RanWhole, SameWalk}
use Rattle.listing.specs.Prints.{Prints, prints_long, prints_walk, Printed}

-- the same sheet into the same store
took_same : {p : ℕ} {w s a v v' c c' l l' : List ℕ} → Took p w s a v c l → Took p w s a v' c' l' → SameWalk v v' c c' l l'
took_same {p} {s = s} {c = c} t x =
    let e = insert_unique t.says x.says in
    record {
      store = e.store;
      answers = e.answers;
      text = t.said ∙ rw (e.result, e.answers) (sym x.said);
    }

-- as many sheets of the same bundle
steps_same : {bundle w a : List ℕ} {n m : ℕ} {v v' c c' t t' : List ℕ} → Ran bundle w a n v c t → Ran bundle w a m v' c' t' → n ≡ m → SameWalk v v' c c' t t'
steps_same ran_none ran_none e = record { store = refl; answers = refl; text = refl }
steps_same ran_none (ran_more r l t) e = absurd (omega arith)
steps_same (ran_more r l t) ran_none e = absurd (omega arith)
steps_same (ran_more {sheets = n} r l t) (ran_more {sheets = m} r' l' t') e =
    let k : n ≡ m = omega arith in
    let s = steps_same r r' k in
    let q = took_same (rw (s.store, s.answers, k) at t) t' in
    record { store = q.store; answers = q.answers; text = ap₂ (λ (a : List ℕ) (b : List ℕ). a ++ b) s.text q.text }

-- each sheet inserted is one of the reading, and they are all of it
ran_each : {bundle w a : List ℕ} {n : ℕ} {v c t : List ℕ} → Ran bundle w a n v c t → (i : ℕ) → i < n → 0 < length (sheet_of bundle i)
ran_each ran_none i h = absurd (omega arith)
ran_each {bundle} (ran_more {sheets = n} r l t) i h = go (dec_lt i n) (λ q. ran_each r i q)
  where
    go : Dec (i < n) → (i < n → 0 < length (sheet_of bundle i)) → 0 < length (sheet_of bundle i)
    go (yes q) ih = ih q
    go (no q) ih = let e : i ≡ n = omega arith in rw e l

pub walk_reads : {bundle w a v c t : List ℕ} → (x : RanWhole bundle w a v c t) → ReadWhole bundle x.sheets
walk_reads x = record { each = ran_each x.ran; over = x.over }

pub walk_unique : {bundle w a v v' c c' t t' : List ℕ} → RanWhole bundle w a v c t → RanWhole bundle w a v' c' t' → SameWalk v v' c c' t t'
walk_unique {bundle} x y =
    let n = read_once (walk_reads x) (walk_reads y) in
    let s = steps_same x.ran y.ran n in
    record {
      store = s.store;
      answers = s.answers;
      text = x.said ∙ ap₂ (λ (l : List ℕ) (k : ℕ). l ++ rest_line (length bundle - place_reached bundle k)) s.text n ∙ sym y.said;
    }

-- an input has one text, and the program one outcome
pub text_unique : {input t t' : List ℕ} → Prints input t → Prints input t' → t ≡ t'
text_unique (prints_long l) (prints_long k) = refl
text_unique (prints_long l) (prints_walk k x) = absurd (omega arith)
text_unique (prints_walk l x) (prints_long k) = absurd (omega arith)
text_unique (prints_walk l x) (prints_walk k y) = (walk_unique x y).text

pub printed_unique : {input old new new' : List ℕ} {used used' : ℕ} → Printed input old new used → Printed input old new' used' → (new ≡ new') × (used ≡ used')
printed_unique {old = old} x y =
    let e = text_unique x.says y.says in
    (x.there ∙ ap (λ (t : List ℕ). over_front t old) e ∙ sym y.there, x.long ∙ ap length e ∙ sym y.long)
