-- The front told: refused by the sheet's bytes, by its wires, or passed.
use Prim.Native.Nat.{ℕ, ◌≤◌, ◌<◌}
use native.Mathlib.Omega.{arith}
use mathlib.Core.Path.{◌≡◌, ap, ◌∙◌}
use mathlib.Core.List.{List, ◌++◌}
use mathlib.Core.Logic.{inl, inr}
use lib.ListN.{length, take, get_or}
use Rattle.rules.specs.Lists.{firsts}
use Rattle.rules.specs.Writes.{over_front}
use Rattle.rules.specs.Refusals.{Refusal, FirstIn}
use Rattle.rules.proofs.Refusals.{first_here, first_later, first_front, first_past}
use Rattle.rules.proofs.Lists.{firsts_length, firsts_at}
use Rattle.rules.proofs.Writes.{over_length, over_take}
use Rattle.sheet.specs.Format.{start}
use Rattle.sheet.specs.Front.{sheet_list, old_sheet_list, FrontSays, front_refused, front_rows}
use Rattle.sheet.specs.Faults.{fault_at}
use Rattle.sheet.proofs.Readable.{start_few}
use Rattle.sheet.specs.Read.{fault}
use Rattle.sheet.specs.declared.fault.Fault.{Fault}
use Rattle.std.specs.Prelude.{Result, Ok, Err, ⊤}
use Rattle.wiring.specs.Placed.{Placed}
use Rattle.wiring.specs.Told.{WiresSay, says_short, says_looped, says_fine}
use Rattle.wiring.specs.declared.testing.WireFault.{WireFault}
use Rattle.wiring.specs.declared.testing.WireFault.TheVariants.{Short, Looped}
use Rattle.fronting.specs.Front.{wire_list, drawn_list, old_drawn_list, Passed, ToldSays, told_refused, told_rows, DrawnSays, drawn_refused, drawn_rows}

-- 14 and 15 are no fault at a byte
nowhere : (b : List ℕ) (stored n : ℕ) → FirstIn (wire_list b) n → (n ≡ 0 → ⊥) → 0 ≡ fault_at n b stored
unfolding fault_at
nowhere b stored n (inl p) z = rw p.1
nowhere b stored n (inr (x, inl p)) z = rw p.1
nowhere b stored n (inr (x, inr p)) z = absurd (z p.1)

-- ---- the bytes and the inputs, by either list

module _ (l : List Refusal) (b : List ℕ) (stored : ℕ) (r : Result ℕ Fault) (s : FrontSays l b stored r) where
  stays : (table jumps : List ℕ) (f : Fault) → r ≡ Err f → DrawnSays (l ++ wire_list b) b stored table jumps (Err f)
  stays table jumps f e = go (rw e at s)
    where
      go : FrontSays l b stored (Err f) → DrawnSays (l ++ wire_list b) b stored table jumps (Err f)
      go (front_refused l z p) = drawn_refused (first_front (wire_list b) l z) z p

  pub front_passed : (rows : ℕ) → r ≡ Ok rows → Passed b stored rows
  front_passed rows e = go (rw e at s)
    where
      go : FrontSays l b stored (Ok rows) → Passed b stored rows
      go (front_rows n x m c) = record { numbered = n; readable = x; leads = m }

  then : (rows : ℕ) → r ≡ Ok rows → (table jumps : List ℕ) (t : Result ℕ Fault) → ToldSays b stored table jumps t → DrawnSays (l ++ wire_list b) b stored table jumps t
  then rows e table jumps t a = go (rw e at s) a
    where
      go : FrontSays l b stored (Ok rows) → {t : Result ℕ Fault} → ToldSays b stored table jumps t → DrawnSays (l ++ wire_list b) b stored table jumps t
      go (front_rows n x m c) (told_refused {r = k} f z) = drawn_refused (first_past l c f) z (nowhere b stored k f.first z)
      go (front_rows n x m c) (told_rows h) = drawn_rows h

module _ (b : List ℕ) (r : Result ℕ Fault) (s : FrontSays (sheet_list b) b 0 r) where
  pub front_stays : (table jumps : List ℕ) (f : Fault) → r ≡ Err f → DrawnSays (drawn_list b) b 0 table jumps (Err f)
  front_stays = stays (sheet_list b) b 0 r s

  pub front_told : (rows : ℕ) → r ≡ Ok rows → (table jumps : List ℕ) (t : Result ℕ Fault) → ToldSays b 0 table jumps t → DrawnSays (drawn_list b) b 0 table jumps t
  front_told = then (sheet_list b) b 0 r s

module _ (b : List ℕ) (stored : ℕ) (r : Result ℕ Fault) (s : FrontSays (old_sheet_list b stored) b stored r) where
  pub old_stays : (table jumps : List ℕ) (f : Fault) → r ≡ Err f → DrawnSays (old_drawn_list b stored) b stored table jumps (Err f)
  old_stays = stays (old_sheet_list b stored) b stored r s

  pub old_told : (rows : ℕ) → r ≡ Ok rows → (table jumps : List ℕ) (t : Result ℕ Fault) → ToldSays b stored table jumps t → DrawnSays (old_drawn_list b stored) b stored table jumps t
  old_told = then (old_sheet_list b stored) b stored r s

-- ---- the wires

module _ (b : List ℕ) (stored rows : ℕ) (p : Passed b stored rows) where
  pub passed_few : rows ≤ 1024
  passed_few = let n = p.readable.few in omega (arith, p.numbered)

  pub passed_end : start b rows ≤ length b
  passed_end = rw p.numbered (omega (arith, p.readable.whole))

  pub passed_low : start b rows < 65536
  passed_low = rw p.numbered (start_few b p.readable)

  pub passed_fit : (table : List ℕ) → length table ≡ 1024 → rows ≤ length table
  passed_fit table l = let m = passed_few in omega arith

  module _ (old table part : List ℕ) (e : table ≡ over_front (firsts (start b) rows) old) (q : part ≡ take rows table) where
    places : take rows table ≡ firsts (start b) rows
    places = let n = firsts_length (start b) rows in ap (take rows) e ∙ rw n at (over_take (firsts (start b) rows) old)

    room : length old ≡ 1024 → rows ≤ length table
    room l =
        let n = firsts_length (start b) rows in
        let m = over_length (firsts (start b) rows) old (omega (arith, passed_few)) in
        omega (arith, ap length e, passed_few)

    filled : part ≡ firsts (start b) rows
    filled = q ∙ places

    pub passed_long : length part ≡ rows
    passed_long = ap length filled ∙ firsts_length (start b) rows

    pub passed_placed : Placed b part
    passed_placed =
        record {
          stored = stored;
          readable = p.readable;
          leads = p.leads;
          numbered = passed_long ∙ p.numbered;
          places = λ i h. ap (λ t. get_or t i 0) filled ∙ firsts_at (start b) rows i (omega (arith, passed_long));
        }

    pub passed_jumps : (jumps : List ℕ) → 1024 ≤ length jumps → length part ≤ length jumps
    passed_jumps jumps l = omega (arith, passed_long, passed_few)

    module _ (jumps : List ℕ) (r : Result ⊤ WireFault) (s : WiresSay b (length part) jumps r) where
      pub wires_short : (e : WireFault) → r ≡ Err e → e ≡ Short → ToldSays b stored table jumps (Err (fault 14 0))
      wires_short e u k = go (rw (u, k) at s)
        where
          go : WiresSay b (length part) jumps (Err Short) → ToldSays b stored table jumps (Err (fault 14 0))
          go (says_short x) = told_refused (first_here x) (λ z. omega arith)

      pub wires_looped : (e : WireFault) → r ≡ Err e → e ≡ Looped → ToldSays b stored table jumps (Err (fault 15 0))
      wires_looped e u k = go (rw (u, k) at s)
        where
          go : WiresSay b (length part) jumps (Err Looped) → ToldSays b stored table jumps (Err (fault 15 0))
          go (says_looped n x) = told_refused (first_later n (first_here x)) (λ z. omega arith)

      pub wires_fine : length old ≡ 1024 → r ≡ Ok tt → ToldSays b stored table jumps (Ok rows)
      wires_fine l u = go (rw u at s)
        where
          go : WiresSay b (length part) jumps (Ok tt) → ToldSays b stored table jumps (Ok rows)
          go (says_fine n f x) =
              told_rows (record { passed = p; wired = record { straight = n; unlooped = f; ends = rw passed_long at x }; few = room l; places = places })
