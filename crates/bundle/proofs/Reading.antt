-- Reading a bundle from its start until the empty part: nothing is skipped, nothing is shown twice, and the reading ends.
use Prim.Native.Nat.{ℕ, zero, suc, ◌+◌, ◌*◌, ◌≤◌, ◌<◌}
use native.Mathlib.Omega.{arith}
use native.Mathlib.Decide.{dec_lt, dec_le}
use borrow.Author.Count.{below_more}
use mathlib.Core.Path.{◌≡◌, refl, sym, ap, ◌∙◌}
use mathlib.Core.List.{List, [], ◌∷◌, ◌++◌, append-nil, append_assoc}
use lib.ListN.{length, take, drop, length-drop, take-append-drop}
use lib.Seq.{take-add}
use denote.Ref.{Bor}
use Rattle.sheet.specs.Bundle.{next_length}
use Rattle.sheet.proofs.NextLength.{NextIs, none, sheet, next_is, next_part}
use Rattle.bundle.specs.Shown.{shown_at, place_after}
use Rattle.bundle.specs.Readers.{set_at}
use Rattle.bundle.specs.Reading.{reader_of, place_reached, sheet_of, visited, parts_joined, ReadWhole, ShownOnce, ReadThrough}
use Rattle.bundle.proofs.Showing.{shown_past, shown_within}

-- ---- one step

module _ (bundle : List ℕ) (at : ℕ) where
  shown_length : length (shown_at bundle at) ≡ next_length (drop at bundle)
  unfolding shown_at
  shown_length = next_part (drop at bundle) (shown_at bundle at) refl

  -- what is shown begins at the place
  pub shown_begins : shown_at bundle at ≡ take (length (shown_at bundle at)) (drop at bundle)
  unfolding shown_at
  shown_begins = ap (λ (n : ℕ). take n (drop at bundle)) (sym shown_length)

  -- a part that is not empty has its length field
  pub shown_long : 0 < length (shown_at bundle at) → 4 ≤ length (shown_at bundle at)
  shown_long h = go (next_is (drop at bundle))
    where
      go : NextIs (drop at bundle) → 4 ≤ length (shown_at bundle at)
      go (none e) = absurd (omega (arith, shown_length))
      go (sheet k l) = omega (arith, shown_length)

-- ---- the places

module _ (bundle : List ℕ) where
  pub place_zero : place_reached bundle 0 ≡ 0
  unfolding place_reached
  place_zero = refl

  pub place_again : (n : ℕ) → place_reached bundle (suc n) ≡ place_after bundle (place_reached bundle n)
  unfolding place_reached
  place_again n = refl

  -- each part begins where the one before it ended
  pub place_next : (n : ℕ) → place_reached bundle (suc n) ≡ place_reached bundle n + length (sheet_of bundle n)
  unfolding place_reached place_after
  place_next n = refl

  pub place_inside : (n : ℕ) → place_reached bundle n ≤ length bundle
  place_inside zero = omega (arith, place_zero)
  place_inside (suc n) = omega (arith, place_next n, shown_within bundle (place_reached bundle n) (place_inside n))

  pub place_up : (i j : ℕ) → i ≤ j → place_reached bundle i ≤ place_reached bundle j
  place_up i zero h = let e : i ≡ 0 = omega arith in rw e (omega arith)
  place_up i (suc j) h = go (dec_le i j) (place_up i j)
    where
      go : Dec (i ≤ j) → (i ≤ j → place_reached bundle i ≤ place_reached bundle j) → place_reached bundle i ≤ place_reached bundle (suc j)
      go (yes q) ih = omega (arith, ih q, place_next j)
      go (no q) ih = let e : i ≡ suc j = omega arith in rw e (omega arith)

-- the reader's place is the one said
pub reader_place : (bundle : Bor (List ℕ)) (n : ℕ) → reader_of bundle n ≡ set_at bundle (place_reached bundle.now n)
unfolding reader_of place_reached
reader_place bundle zero = refl
reader_place bundle (suc n) = rw (reader_place bundle n)

-- ---- the parts visited, one after another, are the bundle's front; what is left over follows

joined_more : (parts : List (List ℕ)) (part : List ℕ) → parts_joined (parts ++ (part ∷ [])) ≡ parts_joined parts ++ part
unfolding parts_joined
joined_more [] part = append-nil part
joined_more (p ∷ parts) part = ap (λ (l : List ℕ). p ++ l) (joined_more parts part) ∙ sym (append_assoc p (parts_joined parts) part)

module _ (bundle : List ℕ) where
  pub joined_front : (n : ℕ) → parts_joined (visited bundle n) ≡ take (place_reached bundle n) bundle
  unfolding visited parts_joined
  joined_front zero = rw (place_zero bundle)
  joined_front (suc n) =
      let p = place_reached bundle n in
      let m = length (sheet_of bundle n) in
      joined_more (visited bundle n) (sheet_of bundle n)
      ∙ ap (λ (l : List ℕ). l ++ sheet_of bundle n) (joined_front n)
      ∙ ap (λ (l : List ℕ). take p bundle ++ l) (shown_begins bundle p)
      ∙ sym (take-add p m bundle)
      ∙ ap (λ (k : ℕ). take k bundle) (sym (place_next bundle n))

  pub joined_rest : (n : ℕ) → parts_joined (visited bundle n) ++ drop (place_reached bundle n) bundle ≡ bundle
  joined_rest n = rw (joined_front n) (take-append-drop (place_reached bundle n) bundle)

-- ---- each byte of the front is in one part, and in no other

module _ (bundle : List ℕ) where
  one_part : (j i k : ℕ) → place_reached bundle i ≤ j → j < place_reached bundle (suc i) → place_reached bundle k ≤ j → j < place_reached bundle (suc k) → k ≤ i
  one_part j i k a b c d = go (dec_le k i)
    where
      go : Dec (k ≤ i) → k ≤ i
      go (yes q) = q
      go (no q) = absurd (omega (arith, place_up bundle (suc i) k (omega arith)))

  pub shown_once : (n j : ℕ) → j < place_reached bundle n → ShownOnce bundle n j
  shown_once zero j h = absurd (omega (arith, place_zero bundle))
  shown_once (suc n) j h = go (dec_lt j (place_reached bundle n)) (shown_once n j)
    where
      go : Dec (j < place_reached bundle n) → (j < place_reached bundle n → ShownOnce bundle n j) → ShownOnce bundle (suc n) j
      go (yes q) ih =
          let s = ih q in
          record { sheet = s.sheet; before = omega (arith, s.before); from = s.from; to = s.to; only = s.only }
      go (no q) ih =
          let f : place_reached bundle n ≤ j = omega arith in
          record {
            sheet = n;
            before = omega arith;
            from = f;
            to = h;
            only = λ k a b. omega (arith, one_part j n k f h a b, one_part j k n a b f h);
          }

-- ---- the reading ends

module _ {bundle : List ℕ} where
  -- each step moves by at least four bytes
  pub moves_on : {n : ℕ} → ReadWhole bundle n → (i : ℕ) → i < n → place_reached bundle i + 4 ≤ place_reached bundle (suc i)
  moves_on r i h = omega (arith, place_next bundle i, shown_long bundle (place_reached bundle i) (r.each i h))

  pub few_sheets : {n : ℕ} → ReadWhole bundle n → (i : ℕ) → i ≤ n → 4 * i ≤ place_reached bundle i
  few_sheets r zero h = omega arith
  few_sheets r (suc i) h = omega (arith, moves_on r i (omega arith), few_sheets r i (omega arith))

  -- after one number of sheets, and no other
  ends_first : {n m : ℕ} → ReadWhole bundle n → ReadWhole bundle m → n < m → ⊥
  ends_first r s h = omega (arith, r.over, s.each _ h)

  pub read_once : {n m : ℕ} → ReadWhole bundle n → ReadWhole bundle m → n ≡ m
  read_once r s = omega (arith, ends_first r s, ends_first s r)

  -- from then on the reader stays
  pub read_stays : {n : ℕ} → ReadWhole bundle n → (i : ℕ) → n ≤ i → place_reached bundle i ≡ place_reached bundle n
  read_stays {n} r zero h = let e : n ≡ 0 = omega arith in rw e
  read_stays {n} r (suc i) h = go (dec_le n i) (read_stays r i)
    where
      go : Dec (n ≤ i) → (n ≤ i → place_reached bundle i ≡ place_reached bundle n) → place_reached bundle (suc i) ≡ place_reached bundle n
      go (yes q) ih = omega (arith, rw (ih q) at (place_next bundle i), r.over)
      go (no q) ih = let e : n ≡ suc i = omega arith in rw e

record Ends (bundle : List ℕ) : Type 0 where
  pub sheets : ℕ
  pub whole : ReadWhole bundle sheets

-- k bytes are left, at most
read_from : (bundle : List ℕ) (k n : ℕ) → length bundle ≤ place_reached bundle n + k → ((i : ℕ) → i < n → 0 < length (sheet_of bundle i)) → Ends bundle
read_from bundle zero n h each = record { sheets = n; whole = record { each = each; over = rw (shown_past bundle (place_reached bundle n) (omega arith)) } }
read_from bundle (suc k) n h each = go (dec_lt 0 (length (sheet_of bundle n))) (read_from bundle k (suc n))
  where
    go : Dec (0 < length (sheet_of bundle n)) → (length bundle ≤ place_reached bundle (suc n) + k → ((i : ℕ) → i < suc n → 0 < length (sheet_of bundle i)) → Ends bundle) → Ends bundle
    go (no q) ih = record { sheets = n; whole = record { each = each; over = omega arith } }
    go (yes q) ih = ih (omega (arith, place_next bundle n)) (λ i l. below_more (λ j. 0 < length (sheet_of bundle j)) n each q i (omega arith))

-- ---- the theorem

pub read_through : (bundle : List ℕ) → ReadThrough bundle
read_through bundle =
    let e = read_from bundle (length bundle) 0 (omega arith) (λ i h. absurd (omega arith)) in
    record {
      sheets = e.sheets;
      whole = e.whole;
      front = joined_front bundle e.sheets;
      rest = joined_rest bundle e.sheets;
      left = simp length-drop (omega (arith, place_inside bundle e.sheets));
      begins = λ i. shown_begins bundle (place_reached bundle i);
      ends = place_next bundle;
      moves = moves_on e.whole;
      once = shown_once bundle e.sheets;
    }
