-- The walk over a bundle, sheet by sheet: the store stays sound, the place in the bundle moves on, and the lines stand one after another.
use Prim.Native.Nat.{ℕ, ◌+◌, ◌-◌, ◌*◌, ◌≤◌, ◌<◌}
use native.Mathlib.Omega.{arith}
use native.Mathlib.Numerals.{add-one}
use mathlib.Core.Path.{◌≡◌, refl, sym, ap, ◌∙◌}
use mathlib.Core.List.{List, [], ◌++◌}
use lib.ListN.{length, take}
use denote.Ref.{Bor}
use Rattle.rules.specs.Writes.{Wrote}
use Rattle.rules.proofs.Writes.{wrote_none, wrote_more}
use Rattle.sheet.specs.Format.{row_count_of}
use Rattle.inserting.specs.Insert.{InsertSays, says_refused, says_done}
use Rattle.inserting.specs.declared.insertion.Inserted.{Inserted}
use Rattle.bundle.specs.Shown.{Shows, shown_at, place_after}
use Rattle.bundle.specs.Reading.{place_reached, sheet_of}
use Rattle.bundle.proofs.Showing.{shows_within, shows_after}
use Rattle.bundle.proofs.Reading.{place_zero, place_again, shown_long}
use Rattle.duties.proofs.Outcome.{stays_sound}
use Rattle.listing.specs.Lines.{line_of, rows_told, rest_line}
use Rattle.listing.specs.Ran.{Empty, Standing, Ran, ran_none, ran_more}
use Rattle.listing.specs.Prints.{most_bytes, most_text}
use Rattle.listing.specs.Walked.{Headed, Room, TookLine, Walked}
use Rattle.listing.proofs.Lengths.{answers_length, told_done, told_none, line_few, rest_few, ran_short}

-- ---- one sheet: a done one has a head, and an answer for each of its rows; its line has room

pub two_there : {number : ℕ} {b : List ℕ} → Headed number b → number ≡ 0 → 5 + 2 ≤ length b
two_there h e = h.head e

pub told_two : (number n : ℕ) (b : List ℕ) → number ≡ 0 → n ≡ row_count_of b → n ≡ rows_told number b
told_two number n b e q = q ∙ sym (told_done number b e)

pub told_zero : (number : ℕ) (b : List ℕ) → (number ≡ 0 → ⊥) → 0 ≡ rows_told number b
told_zero number b e = sym (told_none number b e)

pub headed : {w b a : List ℕ} {r : Inserted} {w' a' : List ℕ} → InsertSays w b a r w' a' → Headed r.number b
headed (says_refused f z o) = record { head = λ e. absurd (z e) }
headed (says_done d) = record { head = λ e. d.readable.long }

pub told_within : {w b a : List ℕ} {r : Inserted} {w' a' : List ℕ} {n : ℕ} → InsertSays w b a r w' a' → n ≡ rows_told r.number b → n ≤ length a'
told_within {b = b} (says_refused {r = k} f z o) q = omega (arith, told_none k b z)
told_within {b = b} (says_done d) q = omega (arith, told_done 0 b refl, d.long, answers_length (says_done d))

module _ {w b a : List ℕ} {r : Inserted} {w' a' : List ℕ} {n : ℕ} (s : InsertSays w b a r w' a') (q : n ≡ rows_told r.number b) where
  pub line_room : {place used : ℕ} {out : List ℕ} → Room place b out used → used + length (line_of place r.number r.added (take n a')) ≤ length out
  line_room {place} m = omega (arith, m.room, rw (sym q) at (line_few place r m.low m.long s))

  pub line_took : {place used to : ℕ} {out out' : List ℕ} → Wrote out used (line_of place r.number r.added (take n a')) out' to → TookLine place w b a w' a' out used out' to
  line_took {place} t =
      record {
        line = line_of place r.number r.added (take n a');
        took = record { inserted = r; says = s; said = ap (λ (k : ℕ). line_of place r.number r.added (take k a')) q };
        wrote = t;
      }

-- ---- the walk

-- a store without rows is sound
pub empty_standing : {w : List ℕ} → Empty w → Standing w
empty_standing {w} e =
    let n = e.none in
    record {
      words = e.words;
      sound = record {
        shaped = record { fits = omega arith; rows = λ i h. absurd (omega arith) };
        distinct = record { apart = λ u v h k s. absurd (omega arith) };
      };
    }

-- so many sheets of the bundle were inserted, the reader stands past them, and their lines stand in `out`
pub record Running (bundle w₀ a₀ out₀ w a out : List ℕ) (used sheets at : ℕ) : Type 0 where
  pub lines : List ℕ
  pub ran : Ran bundle w₀ a₀ sheets w a lines
  pub wrote : Wrote out₀ 0 lines out used
  pub here : at ≡ place_reached bundle sheets
  pub standing : Standing w
  pub few : 4 * sheets ≤ at
  pub within : at ≤ length bundle
  pub bytes : length bundle ≤ most_bytes
  pub room : most_text ≤ length out₀
  pub store_long : length w ≡ length w₀
  pub answers_long : length a ≡ length a₀
  pub out_long : length out ≡ length out₀

pub running_none : {bundle w a out : List ℕ} → Empty w → length bundle ≤ most_bytes → most_text ≤ length out → Running bundle w a out w a out 0 0 0
running_none {bundle} {w} {a} {out} e b h =
    record {
      lines = [];
      ran = ran_none;
      wrote = wrote_none out 0;
      here = sym (place_zero bundle);
      standing = empty_standing e;
      few = omega arith;
      within = omega arith;
      bytes = b;
      room = h;
      store_long = refl;
      answers_long = refl;
      out_long = refl;
    }

-- the reader shows a part, and `to` is where it moves
module _ {bundle part : Bor (List ℕ)} {w₀ a₀ out₀ w a out : List ℕ} {used sheets at : ℕ} (s : Running bundle.now w₀ a₀ out₀ w a out used sheets at) (p : Shows bundle at part) where
  is_sheet : part.now ≡ sheet_of bundle.now sheets
  is_sheet = p.bytes ∙ ap (shown_at bundle.now) s.here

  moved_to : {to : ℕ} → to ≡ place_after bundle.now at → to ≡ at + length part.now
  moved_to m = m ∙ sym (shows_after p refl)

  four : (length part.now ≡ 0 → ⊥) → 4 ≤ length part.now
  four n = let e = ap length p.bytes in omega (arith, shown_long bundle.now at (omega arith))

  pub running_less : {to : ℕ} → (length part.now ≡ 0 → ⊥) → to ≡ place_after bundle.now at → length bundle.now - to < length bundle.now - at
  running_less n m = omega (arith, moved_to m, shows_within p s.within)

  pub running_room : (length part.now ≡ 0 → ⊥) → Room (sheets + 1) part.now out used
  running_room n =
      let b = s.bytes in
      let f = s.few in
      let t = (ran_short s.bytes s.ran).short in
      let h = s.here in
      let k = shows_within p s.within in
      record {
        low = omega (arith, four n);
        long = four n;
        room = omega (arith, s.room, s.out_long, s.wrote.next);
      }

  pub running_more : {w' a' out' : List ℕ} {used' to : ℕ} → (length part.now ≡ 0 → ⊥) → to ≡ place_after bundle.now at → TookLine (sheets + 1) w part.now a w' a' out used out' used' → length w' ≡ length w → length a' ≡ length a → length out' ≡ length out → Running bundle.now w₀ a₀ out₀ w' a' out' used' (sheets + 1) to
  running_more {w'} {a'} {out'} {used'} n m t lw la lo =
      let f = s.few in
      let q = s.standing.words in
      let e = moved_to m in
      let g : 0 < length part.now = omega arith in
      let r = t.took in
      rw (add-one sheets)
      (record {
        lines = s.lines ++ t.line;
        ran = ran_more s.ran (rw is_sheet at g) (rw (is_sheet, add-one sheets) at r);
        wrote = wrote_more out₀ 0 s.lines out used s.wrote t.line out' used' t.wrote;
        here = m ∙ ap (place_after bundle.now) s.here ∙ sym (place_again bundle.now sheets);
        standing = record { words = omega arith; sound = stays_sound s.standing.sound r.says };
        few = omega (arith, four n);
        within = omega (arith, shows_within p s.within);
        bytes = s.bytes;
        room = s.room;
        store_long = omega (arith, s.store_long);
        answers_long = omega (arith, s.answers_long);
        out_long = omega (arith, s.out_long);
      })

-- ---- the last line

pub running_rest : {bundle w₀ a₀ out₀ w a out : List ℕ} {used sheets at : ℕ} → Running bundle w₀ a₀ out₀ w a out used sheets at → used + length (rest_line (length bundle - at)) ≤ length out
running_rest {bundle} {at = at} s =
    let f = rest_few (length bundle - at) (omega (arith, s.bytes)) in
    let q = (ran_short s.bytes s.ran).short in
    omega (arith, s.bytes, s.room, s.out_long, s.here, s.wrote.next, s.within)

pub running_whole : {bundle part : Bor (List ℕ)} {w₀ a₀ out₀ w a out out' : List ℕ} {used sheets at to : ℕ} → Running bundle.now w₀ a₀ out₀ w a out used sheets at → Shows bundle at part → length part.now ≡ 0 → Wrote out used (rest_line (length bundle.now - at)) out' to → Walked bundle.now w₀ a₀ out₀ w a out' to
running_whole {bundle} {out₀ = out₀} {out = out} {out' = out'} {used = used} {sheets = sheets} {at = at} {to = to} s p n t =
    let v = wrote_more out₀ 0 s.lines out used s.wrote (rest_line (length bundle.now - at)) out' to t in
    record {
      text = s.lines ++ rest_line (length bundle.now - at);
      ran = record {
        sheets = sheets;
        lines = s.lines;
        ran = s.ran;
        over = rw (is_sheet s p) at n;
        said = ap (λ (k : ℕ). s.lines ++ rest_line (length bundle.now - k)) s.here;
      };
      wrote = v;
      fits = omega (arith, running_rest s, s.out_long, t.next, v.next);
    }
