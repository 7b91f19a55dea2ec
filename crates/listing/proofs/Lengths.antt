-- How long the lines are: nine bytes for each four of the sheet, and eleven for the last line.
use Prim.Native.Nat.{ℕ, zero, suc, ◌+◌, ◌*◌, ◌≤◌, ◌<◌}
use native.Mathlib.Omega.{arith}
use native.Mathlib.Decide.{ℕ_discrete}
use native.Mathlib.Numerals.{add-one}
use borrow.Author.Tests.{eq-eqb, ne_eqb}
use mathlib.Core.Path.{◌≡◌, refl, sym, ap, ◌∙◌}
use mathlib.Core.List.{List, [], ◌∷◌, ◌++◌}
use mathlib.Core.Logic.{inl, inr}
use lib.ListN.{length, get_or, take, length-append}
use lib.Seq.{length-take-le, get_or-take}
use Rattle.rules.specs.Lists.{firsts}
use Rattle.rules.specs.Refusals.{FirstIn, First}
use Rattle.rules.proofs.Lists.{firsts_length}
use Rattle.rules.proofs.Writes.{over_length}
use Rattle.text.specs.Decimal.{decimal, spaced}
use Rattle.text.proofs.Digits.{decimal_one, decimal_four, decimal_five}
use Rattle.text.proofs.Numbers.{spaced_few}
use Rattle.sheet.specs.Format.{row_count_of, row_end, start}
use Rattle.sheet.specs.Refusals.{Readable}
use Rattle.sheet.proofs.Starts.{start_first, start_next}
use Rattle.store.specs.Layout.{in_use, capacity_of, room}
use Rattle.writing.specs.After.{answer_of}
use Rattle.bundle.specs.Reading.{place_reached}
use Rattle.bundle.proofs.Reading.{place_next, place_inside, shown_long}
use Rattle.inserting.specs.Insert.{insert_refusals, InsertDone, InsertSays, says_refused, says_done}
use Rattle.inserting.specs.declared.insertion.Inserted.{Inserted}
use Rattle.duties.proofs.Settled.{right_readable}
use Rattle.duties.proofs.Done.{done_sound, done_added, answer_used}
use Rattle.listing.specs.Lines.{line_of, rows_told, rest_word, rest_line}
use Rattle.listing.specs.Ran.{Ran, ran_none, ran_more}
use Rattle.listing.specs.Prints.{most_bytes}
use Rattle.listing.proofs.Putting.{rest_empty, rest_parts}

-- ---- rows of at least five bytes

starts_up : (b : List ℕ) (n : ℕ) → 7 + 5 * n ≤ start b n
starts_up b zero = omega (arith, start_first b)
starts_up b (suc n) =
    let e : start b (suc n) ≡ row_end b (start b n) = rw add-one at (start_next b n) in
    omega (arith, starts_up b n)

rows_short : {b : List ℕ} → Readable b → 7 + 5 * row_count_of b ≤ length b
rows_short {b} r = omega (arith, starts_up b (row_count_of b), r.whole)

-- ---- the number given back is one digit, or it tells of a row, and so the sheet has at least twelve bytes

data Digits (b : List ℕ) (r : ℕ) : Type 0 where
  one_digit : r < 10 → Digits b r
  of_row : r < 10000 → 12 ≤ length b → Digits b r

module _ (w b a : List ℕ) where
  digits : {r : ℕ} → FirstIn (insert_refusals w b a) r → Digits b r
  digits (inl (x, q)) = one_digit (omega arith)
  digits (inr (i, inl (x, q))) = one_digit (omega arith)
  digits (inr (i, inr (s, inl (x, q)))) = one_digit (omega arith)
  digits (inr (i, inr (s, inr (l, inl (x, q))))) = one_digit (omega arith)
  digits (inr (i, inr (s, inr (l, inr (m, inl (x, q)))))) = one_digit (omega arith)
  digits (inr (i, inr (s, inr (l, inr (m, inr (k, inl (x, q))))))) = of_row (omega arith) (omega (arith, rows_short (right_readable b l m k), x.of_sheet))
  digits (inr (i, inr (s, inr (l, inr (m, inr (k, inr (n, inl (x, q)))))))) = one_digit (omega arith)
  digits (inr (i, inr (s, inr (l, inr (m, inr (k, inr (n, inr (p, inl (x, q))))))))) = of_row (omega arith) (omega (arith, rows_short (right_readable b l m k), x.of_sheet))
  digits (inr (i, inr (s, inr (l, inr (m, inr (k, inr (n, inr (p, inr (c, inl (x, q)))))))))) = of_row (omega arith) (omega (arith, rows_short (right_readable b l m k), x.of_sheet))
  digits (inr (i, inr (s, inr (l, inr (m, inr (k, inr (n, inr (p, inr (c, inr (e, inl (x, q))))))))))) = one_digit (omega arith)
  digits (inr (i, inr (s, inr (l, inr (m, inr (k, inr (n, inr (p, inr (c, inr (e, inr (y, inl (x, q)))))))))))) = one_digit (omega arith)
  digits (inr (i, inr (s, inr (l, inr (m, inr (k, inr (n, inr (p, inr (c, inr (e, inr (y, inr (x, q)))))))))))) = one_digit (omega arith)

capacity_few : (most words : ℕ) → capacity_of most words ≤ 1024
unfolding capacity_of
capacity_few most words = omega arith

-- ---- the answer list keeps its length

pub answers_length : {w b a : List ℕ} {r : Inserted} {w' a' : List ℕ} → InsertSays w b a r w' a' → length a ≡ length a'
answers_length (says_refused f z o) = refl
answers_length {w} {b} {a} (says_done d) =
    let l = firsts (answer_of d.class (in_use w)) (row_count_of b) in
    sym (ap length d.answered ∙ over_length l a (omega (arith, firsts_length (answer_of d.class (in_use w)) (row_count_of b), d.long)))

-- ---- the rows whose numbers are told

pub told_done : (number : ℕ) (b : List ℕ) → number ≡ 0 → rows_told number b ≡ row_count_of b
unfolding rows_told
told_done number b e = simp (eq-eqb number 0 e)

pub told_none : (number : ℕ) (b : List ℕ) → (number ≡ 0 → ⊥) → rows_told number b ≡ 0
unfolding rows_told
told_none number b e = simp (ne_eqb number 0 e)

-- ---- a sheet's line

line_length : (place number added : ℕ) (rows : List ℕ) → length (line_of place number added rows) ≡ length (decimal place) + (length (decimal number) + (length (decimal added) + (length (spaced rows) + 3)))
unfolding line_of spaced
line_length place number added rows =
    omega (arith, length-append (decimal place ++ spaced (number ∷ added ∷ rows)) (10 ∷ []), length-append (decimal place) (spaced (number ∷ added ∷ rows)), length-append (32 ∷ decimal number) (spaced (added ∷ rows)), length-append (32 ∷ decimal added) (spaced rows))

module _ (place : ℕ) (low : place < 10000) (w b a : List ℕ) where
  refused_few : {r : ℕ} → First (insert_refusals w b a) r → 4 ≤ length b → 4 * length (line_of place r 0 []) ≤ 9 * length b
  unfolding spaced
  refused_few {r} f l = go (digits w b a f.first)
    where
      go : Digits b r → 4 * length (line_of place r 0 []) ≤ 9 * length b
      go (one_digit n) = omega (arith, line_length place r 0 [], decimal_four place low, decimal_one r n, decimal_one 0 (omega arith))
      go (of_row n k) = omega (arith, line_length place r 0 [], decimal_four place low, decimal_four r n, decimal_one 0 (omega arith))

  done_few : {w' a' : List ℕ} {added : ℕ} → InsertDone w b a w' a' added → length a ≡ length a' → length (line_of place 0 added (take (row_count_of b) a')) ≤ 12 + 5 * row_count_of b
  done_few {w'} {a'} {added} d same =
      let c = capacity_few room (length w') in
      let u = (done_sound d).shaped.fits in
      let k = length-take-le (row_count_of b) a' (omega (arith, d.long)) in
      let each : (i : ℕ) → i < length (take (row_count_of b) a') → get_or (take (row_count_of b) a') i 0 < 10000 = λ i h. rw (get_or-take (row_count_of b) a' i 0 (omega arith)) (omega (arith, answer_used d i (omega arith))) in
      omega (arith, line_length place 0 added (take (row_count_of b) a'), decimal_four place low, decimal_one 0 (omega arith), decimal_four added (omega (arith, done_added d)), spaced_few (take (row_count_of b) a') each)

pub line_few : (place : ℕ) {w b a : List ℕ} (r : Inserted) {w' a' : List ℕ} → place < 10000 → 4 ≤ length b → InsertSays w b a r w' a' → 4 * length (line_of place r.number r.added (take (rows_told r.number b) a')) ≤ 9 * length b
line_few place {w} {b} {a} r low l (says_refused f z o) = rw (told_none r.number b z) (refused_few place low w b a f l)
line_few place {w} {b} {a} r low l (says_done d) = rw (told_done 0 b refl) (omega (arith, done_few place low w b a d (answers_length (says_done d)), rows_short d.readable))

-- ---- the last line

pub rest_few : (n : ℕ) → n < 100000 → length (rest_line n) ≤ 11
rest_few n h = go (ℕ_discrete n 0)
  where
    go : Dec (n ≡ 0) → length (rest_line n) ≤ 11
    go (yes e) = omega (arith, (rest_empty [] 0 n e).next)
    go (no e) =
        rw (rest_parts n e)
        (omega (arith, decimal_five n h, length-append (rest_word ++ decimal n) (10 ∷ []), length-append rest_word (decimal n)))

-- ---- the lines of a walk

-- so many sheets: how few they are for the bytes read, and how short their lines
pub record Short (bundle : List ℕ) (sheets : ℕ) (lines : List ℕ) : Type 0 where
  pub few : 4 * sheets ≤ place_reached bundle sheets
  pub short : 4 * length lines ≤ 9 * place_reached bundle sheets

pub ran_short : {bundle w a : List ℕ} {n : ℕ} {v c t : List ℕ} → length bundle ≤ most_bytes → Ran bundle w a n v c t → Short bundle n t
ran_short {bundle} h ran_none = record { few = omega arith; short = omega arith }
ran_short {bundle} h (ran_more {sheets = n} {lines = t} {line = l} r g k) =
    let s = ran_short h r in
    let p = place_next bundle n in
    let i = place_inside bundle (suc n) in
    let four = shown_long bundle (place_reached bundle n) g in
    let m = line_few (suc n) k.inserted (omega (arith, s.few)) four k.says in
    record {
      few = omega (arith, s.few);
      short = omega (arith, s.short, length-append t l, ap length k.said);
    }
