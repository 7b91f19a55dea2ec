-- Signatures by value: their inputs have classes, and equal signatures are the signatures of rows that go together.
use Prim.Native.Nat.{ℕ, ◌+◌, ◌*◌, ◌≤◌, ◌<◌}
use native.Mathlib.Omega.{arith}
use native.Mathlib.Decide.{dec_lt}
use mathlib.Core.Path.{◌≡◌, refl, sym, ap, ◌∙◌}
use mathlib.Core.List.{List}
use mathlib.Core.Bool.{true, false}
use lib.ListN.{length, get_or}
use Rattle.rules.specs.Lists.{widest}
use Rattle.rules.specs.Answers.{Says, says_yes, says_no}
use Rattle.rules.proofs.Lists.{room_at, room_past}
use Rattle.trees.specs.Graph.{Graph}
use Rattle.store.specs.declared.row.Row.{Row}
use Rattle.rows.specs.Joined.{Source, joined, row_in}
use Rattle.rows.specs.View.{view_rows}
use Rattle.rows.proofs.Rows.{in_label, in_count, in_input, in_past}
use Rattle.rows.proofs.View.{viewed_counts, viewed_closed}
use Rattle.rounds.specs.Rounds.{SameSig}
use Rattle.rounds.specs.Classes.{class_of}
use Rattle.rounds.specs.Buckets.{packed, input_class, room_class, classes_in, bucket_of, bucket_in}
use Rattle.rounds.proofs.Buckets.{packed_none, packed_small, packed_same, packed_more, packed_each, classes_same}
use Rattle.signatures.specs.Inside.{InputsInside, Sighted}
use Rattle.signatures.specs.Signed.{class_at, signature_in}
use Rattle.signatures.specs.declared.signature.Signature.{Signature}

-- ---- a row by value

module _ (s : Source) (table cls : List ℕ) (o : Sighted s table cls) (u : ℕ) (h : u < view_rows s table) (row : Row) (e : row ≡ row_in (joined s) u) where
  few : (joined s).count u ≤ widest
  few = viewed_counts o.view u h

  counted : row.count ≡ (joined s).count u
  counted = rw e (in_count (joined s) u)

  input : (j : ℕ) → j < row.count → get_or row.inputs j 0 ≡ (joined s).input u j
  input j q = rw e (in_input (joined s) u few j (omega (arith, counted)))

  past : (j : ℕ) → (joined s).count u ≤ j → j < widest → get_or row.inputs j 0 ≡ 0
  past j q l = rw e (in_past (joined s) u few j q l)

  pub row_inside : InputsInside cls row.inputs
  row_inside = record { each = λ j q. go j (omega arith) (dec_lt j ((joined s).count u)) }
    where
      go : (j : ℕ) → j < widest → Dec (j < (joined s).count u) → get_or row.inputs j 0 < length cls
      go j q (yes l) =
          let v = input j (omega (arith, counted)) in
          let c = (viewed_closed o.view).within u j h l in
          omega (arith, o.classes.long)
      go j q (no l) = let z = past j (omega arith) q in omega (arith, o.classes.long)

  pub row_signed : (k : ℕ) → k ≡ packed (class_at cls row.inputs) 4 → ◌≡◌ {A = Signature} (record { label = row.label; count = row.count; classes = k }) (signature_in (joined s) (class_of cls) u)
  unfolding signature_in classes_in
  row_signed k q =
      let a : row.label ≡ (joined s).label u = rw e (in_label (joined s) u) in
      let d : k ≡ packed (room_class (joined s) (class_of cls) u) 4 =
      q ∙ packed_same (class_at cls row.inputs) (room_class (joined s) (class_of cls) u) 4 (λ j l. class j (omega arith) (dec_lt j ((joined s).count u))) in
      rw (a, counted, d) refl
    where
      first : class_of cls 0 ≡ 0
      first = omega (arith, o.classes.lowered.low 0 (omega arith))

      class : (j : ℕ) → j < widest → Dec (j < (joined s).count u) → class_at cls row.inputs j ≡ room_class (joined s) (class_of cls) u j
      class j l (yes q) =
          ap (class_of cls) (input j (omega (arith, counted))) ∙ sym (room_at widest (input_class (joined s) (class_of cls) u) ((joined s).count u) few j q)
      class j l (no q) =
          ap (class_of cls) (past j (omega arith) l) ∙ first ∙ sym (room_past widest (input_class (joined s) (class_of cls) u) ((joined s).count u) few j (omega arith) l)

-- ---- the classes packed one after another

pub record Packing (cls inputs : List ℕ) (j found : ℕ) : Type 0 where
  pub some : j ≤ 4
  pub made : found ≡ packed (class_at cls inputs) j
  pub each : (i : ℕ) → i < j → class_at cls inputs i < 65536

pub packing_none : (cls inputs : List ℕ) → Packing cls inputs 0 0
packing_none cls inputs =
    record {
      some = omega arith;
      made = packed_none (class_at cls inputs);
      each = λ i h. absurd (omega arith);
    }

module _ (cls inputs : List ℕ) (j found : ℕ) (p : Packing cls inputs j found) where
  pub packing_small : j < 4 → found < 281474976710656
  packing_small h = rw p.made (packed_small (class_at cls inputs) j p.each h)

  pub packing_more : (x : ℕ) → j < 4 → x ≡ class_at cls inputs j → x < 65536 → Packing cls inputs (j + 1) (found * 65536 + x)
  packing_more x h e l =
      record {
        some = omega arith;
        made = packed_more (class_at cls inputs) j found x p.made e;
        each = λ i q. go i q (dec_lt i j);
      }
    where
      go : (i : ℕ) → i < j + 1 → Dec (i < j) → class_at cls inputs i < 65536
      go i q (yes m) = p.each i m
      go i q (no m) = let y : i ≡ j = omega arith in rw (y, sym e) l

  pub packing_all : 4 ≤ j → found ≡ packed (class_at cls inputs) 4
  packing_all h = let i : j ≡ 4 = omega (arith, p.some) in p.made ∙ ap (packed (class_at cls inputs)) i

-- ---- signatures compared

module _ (a b : Signature) where
  pub labels_part : (a.label ≡ b.label → ⊥) → Says (a ≡ b) false
  labels_part f = says_no (λ s. f (ap (λ y. y.label) s))

  pub counts_part : (a.count ≡ b.count → ⊥) → Says (a ≡ b) false
  counts_part f = says_no (λ s. f (ap (λ y. y.count) s))

  pub classes_part : (a.classes ≡ b.classes → ⊥) → Says (a ≡ b) false
  classes_part f = says_no (λ s. f (ap (λ y. y.classes) s))

  pub all_same : a.label ≡ b.label → a.count ≡ b.count → a.classes ≡ b.classes → Says (a ≡ b) true
  all_same e q s = says_yes (rw (e, q, s) refl)

-- ---- signatures of rows

-- classes have 16 bits
pub record Sixteen (g : Graph) (c : ℕ → ℕ) (v : ℕ) : Type 0 where
  pub few : g.count v ≤ widest
  pub small : (j : ℕ) → j < g.count v → c (g.input v j) < 65536

module _ (g : Graph) (c : ℕ → ℕ) (u h : ℕ) (few : Sixteen g c u) (fewer : Sixteen g c h) where
  room_small : (v : ℕ) → Sixteen g c v → (j : ℕ) → j < widest → room_class g c v j < 65536
  room_small v x j l = go (dec_lt j (g.count v))
    where
      go : Dec (j < g.count v) → room_class g c v j < 65536
      go (yes q) = rw (room_at widest (input_class g c v) (g.count v) x.few j q) (x.small j q)
      go (no q) = rw (room_past widest (input_class g c v) (g.count v) x.few j (omega arith) l) (omega arith)

  pub signature_sig : signature_in g c u ≡ signature_in g c h → SameSig g c h u
  unfolding signature_in classes_in
  signature_sig s =
      let l : g.label u ≡ g.label h = ap (λ y. y.label) s in
      let n : g.count u ≡ g.count h = ap (λ y. y.count) s in
      let k : packed (room_class g c u) 4 ≡ packed (room_class g c h) 4 = ap (λ y. y.classes) s in
      record {
        alike = record { labels = sym l; counts = sym n };
        inputs = λ j q.
            let a = fewer.few in
            let e = packed_each (room_class g c u) (room_class g c h) 4 (λ i r. room_small u few i (omega arith)) (λ i r. room_small h fewer i (omega arith)) k j (omega arith) in
            sym (room_at widest (input_class g c h) (g.count h) fewer.few j q) ∙ sym e ∙ room_at widest (input_class g c u) (g.count u) few.few j (omega arith);
      }

  pub sig_signature : SameSig g c h u → signature_in g c u ≡ signature_in g c h
  unfolding signature_in
  sig_signature s = rw (sym s.alike.labels, sym s.alike.counts, sym (classes_same g c h u s)) refl

pub signed_bucket : (g : Graph) (c : ℕ → ℕ) (u b : ℕ) (sig : Signature) → sig ≡ signature_in g c u → b ≡ bucket_of sig.label sig.count sig.classes → b ≡ bucket_in g c u
unfolding signature_in bucket_in
signed_bucket g c u b sig e q = rw e at q

pub sixteen : (s : Source) (table cls : List ℕ) → Sighted s table cls → (v : ℕ) → v < view_rows s table → Sixteen (joined s) (class_of cls) v
sixteen s table cls o v h =
    record {
      few = viewed_counts o.view v h;
      small = λ j q.
          let i = (viewed_closed o.view).within v j h q in
          omega (arith, o.classes.lowered.low ((joined s).input v j) i, o.classes.few);
    }
