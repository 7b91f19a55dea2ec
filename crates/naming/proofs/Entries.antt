-- Entries of a row's inputs: whether all of them are named, and their names in one number.
use Prim.Native.Nat.{ℕ, ◌+◌, ◌*◌, ◌≤◌, ◌<◌}
use native.Mathlib.Omega.{arith}
use native.Mathlib.Decide.{dec_lt}
use mathlib.Core.Path.{◌≡◌, refl, sym, ap, ◌∙◌}
use mathlib.Core.List.{List}
use mathlib.Core.Bool.{true, false}
use lib.ListN.{length, get_or}
use borrow.Author.Tests.{lt-ltb, le-ltb}
use Rattle.rules.specs.Lists.{widest}
use Rattle.rules.specs.Answers.{Says, says_yes, says_no}
use Rattle.rules.proofs.Lists.{room_at, room_past}
use Rattle.trees.specs.Graph.{Graph}
use Rattle.store.specs.declared.row.Row.{Row}
use Rattle.rows.specs.Joined.{Source, joined, row_in}
use Rattle.rows.specs.View.{Viewed, view_rows}
use Rattle.rows.proofs.Rows.{in_label, in_count, in_input}
use Rattle.rows.proofs.View.{viewed_counts, viewed_closed}
use Rattle.rounds.specs.Classes.{class_of}
use Rattle.rounds.specs.Buckets.{packed, input_class, room_class, classes_in}
use Rattle.rounds.proofs.Buckets.{packed_none, packed_small, packed_same, packed_more}
use Rattle.naming.specs.Entries.{entry_at, EntriesInside}
use Rattle.naming.specs.InNaming.{InputsNamed}
use Rattle.signatures.specs.Signed.{class_at, signature_in}
use Rattle.signatures.specs.declared.signature.Signature.{Signature}

module _ (cls inputs : List ℕ) (count past j : ℕ) where
  pub entry_in : (x : ℕ) → j < count → x ≡ class_at cls inputs j → x ≡ entry_at cls inputs count past j
  unfolding entry_at
  entry_in x h e = simp (lt-ltb _ _ h) e

  pub entry_past : count ≤ j → past ≡ entry_at cls inputs count past j
  unfolding entry_at
  entry_past h = simp (le-ltb _ _ h) refl

  pub entry_inside : EntriesInside cls inputs count → j < count → get_or inputs j 0 < length cls
  entry_inside e h = e.each j h

-- ---- a row by value

module _ (s : Source) (table cls : List ℕ) (view : Viewed s table) (long : view_rows s table ≤ length cls) (u : ℕ) (h : u < view_rows s table) (row : Row) (e : row ≡ row_in (joined s) u) where
  few : (joined s).count u ≤ widest
  few = viewed_counts view u h

  counted : row.count ≡ (joined s).count u
  counted = rw e (in_count (joined s) u)

  input : (j : ℕ) → j < row.count → get_or row.inputs j 0 ≡ (joined s).input u j
  input j q = rw e (in_input (joined s) u few j (omega (arith, counted)))

  pub entries_inside : EntriesInside cls row.inputs row.count
  entries_inside =
      record {
        each = λ j q.
            let v = input j q in
            let c = (viewed_closed view).within u j h (omega (arith, counted)) in
            omega (arith, long);
      }

  pub named_signed : (k : ℕ) → k ≡ packed (entry_at cls row.inputs row.count 0) 4 → ◌≡◌ {A = Signature} (record { label = row.label; count = row.count; classes = k }) (signature_in (joined s) (class_of cls) u)
  unfolding signature_in classes_in
  named_signed k q =
      let a : row.label ≡ (joined s).label u = rw e (in_label (joined s) u) in
      let d : k ≡ packed (room_class (joined s) (class_of cls) u) 4 =
      q ∙ packed_same (entry_at cls row.inputs row.count 0) (room_class (joined s) (class_of cls) u) 4 (λ j l. class j (omega arith) (dec_lt j ((joined s).count u))) in
      rw (a, counted, d) refl
    where
      class : (j : ℕ) → j < widest → Dec (j < (joined s).count u) → entry_at cls row.inputs row.count 0 j ≡ room_class (joined s) (class_of cls) u j
      class j l (yes q) =
          let i : j < row.count = omega (arith, counted) in
          sym (entry_in cls row.inputs row.count 0 j (class_at cls row.inputs j) i refl) ∙ ap (class_of cls) (input j i) ∙ sym (room_at widest (input_class (joined s) (class_of cls) u) ((joined s).count u) few j q)
      class j l (no q) =
          sym (entry_past cls row.inputs row.count 0 j (omega (arith, counted))) ∙ sym (room_past widest (input_class (joined s) (class_of cls) u) ((joined s).count u) few j (omega arith) l)

-- ---- whether all are named

-- the first j inputs of row u are named
pub record InputsLooked (g : Graph) (marks inputs : List ℕ) (count u j : ℕ) : Type 0 where
  pub inside : EntriesInside marks inputs count
  pub counted : count ≡ g.count u
  pub few : g.count u ≤ widest
  pub input : (i : ℕ) → i < count → get_or inputs i 0 ≡ g.input u i
  pub done : (i : ℕ) → i < j → entry_at marks inputs count 1 i ≡ 1

pub looked_none : (s : Source) (table marks : List ℕ) (view : Viewed s table) (long : view_rows s table ≤ length marks) (u : ℕ) (h : u < view_rows s table) (row : Row) (e : row ≡ row_in (joined s) u) → InputsLooked (joined s) marks row.inputs row.count u 0
looked_none s table marks view long u h row e =
    record {
      inside = entries_inside s table marks view long u h row e;
      counted = counted s table marks view long u h row e;
      few = few s table marks view long u h row e;
      input = input s table marks view long u h row e;
      done = λ i q. absurd (omega arith);
    }

module _ (g : Graph) (marks inputs : List ℕ) (count u j : ℕ) (l : InputsLooked g marks inputs count u j) where
  pub looked_inside : EntriesInside marks inputs count
  looked_inside = l.inside

  pub looked_more : (x : ℕ) → x ≡ entry_at marks inputs count 1 j → x ≡ 1 → InputsLooked g marks inputs count u (j + 1)
  looked_more x e q =
      record {
        inside = l.inside;
        counted = l.counted;
        few = l.few;
        input = l.input;
        done = λ i h. go i h (dec_lt i j);
      }
    where
      go : (i : ℕ) → i < j + 1 → Dec (i < j) → entry_at marks inputs count 1 i ≡ 1
      go i h (yes a) = l.done i a
      go i h (no a) = let y : i ≡ j = omega arith in rw y (sym e ∙ q)

  pub looked_bare : (x : ℕ) → x ≡ entry_at marks inputs count 1 j → (x ≡ 1 → ⊥) → Says (InputsNamed g marks u) false
  looked_bare x e f = says_no (λ n. go n (dec_lt j count))
    where
      go : InputsNamed g marks u → Dec (j < count) → ⊥
      go n (yes q) = f (e ∙ sym (entry_in marks inputs count 1 j (class_at marks inputs j) q refl) ∙ ap (class_of marks) (l.input j q) ∙ n.each j (omega (arith, l.counted)))
      go n (no q) = f (e ∙ sym (entry_past marks inputs count 1 j (omega arith)))

  pub looked_all : widest ≤ j → Says (InputsNamed g marks u) true
  looked_all h =
      says_yes
      (record {
        each = λ i q.
            let c : i < count = omega (arith, l.counted) in
            ap (class_of marks) (sym (l.input i c)) ∙ entry_in marks inputs count 1 i (class_at marks inputs i) c refl ∙ l.done i (omega (arith, l.few));
      })

-- ---- the names in one number

pub record NamesPacked (cls inputs : List ℕ) (count j found : ℕ) : Type 0 where
  pub some : j ≤ 4
  pub made : found ≡ packed (entry_at cls inputs count 0) j
  pub each : (i : ℕ) → i < j → entry_at cls inputs count 0 i < 65536

pub names_none : (cls inputs : List ℕ) (count : ℕ) → NamesPacked cls inputs count 0 0
names_none cls inputs count =
    record {
      some = omega arith;
      made = packed_none (entry_at cls inputs count 0);
      each = λ i h. absurd (omega arith);
    }

module _ (cls inputs : List ℕ) (count j found : ℕ) (p : NamesPacked cls inputs count j found) where
  pub names_small : j < 4 → found < 281474976710656
  names_small h = rw p.made (packed_small (entry_at cls inputs count 0) j p.each h)

  pub names_more : (x : ℕ) → j < 4 → x ≡ entry_at cls inputs count 0 j → x < 65536 → NamesPacked cls inputs count (j + 1) (found * 65536 + x)
  names_more x h e l =
      record {
        some = omega arith;
        made = packed_more (entry_at cls inputs count 0) j found x p.made e;
        each = λ i q. go i q (dec_lt i j);
      }
    where
      go : (i : ℕ) → i < j + 1 → Dec (i < j) → entry_at cls inputs count 0 i < 65536
      go i q (yes m) = p.each i m
      go i q (no m) = let y : i ≡ j = omega arith in rw (y, sym e) l

  pub names_all : 4 ≤ j → found ≡ packed (entry_at cls inputs count 0) 4
  names_all h = let i : j ≡ 4 = omega (arith, p.some) in p.made ∙ ap (packed (entry_at cls inputs count 0)) i
