-- The arguments that the code reads one after another are those of the request.
use Prim.Native.Nat.{ℕ, ◌<◌}
use native.Mathlib.Omega.{arith}
use mathlib.Core.Path.{◌≡◌, refl}
use mathlib.Core.List.{List}
use mathlib.Core.Logic.{◌⊎◌, inl, inr}
use lib.ListN.{length}
use borrow.Author.Tests.{lt-ltb, le-ltb, ne_eqb}
use Rattle.std.specs.Prelude.{Result, Ok, Err}
use Rattle.sheet.specs.Bytes.{byte_at}
use Rattle.requests.specs.declared.argument.Stop.{Stop}
use Rattle.requests.specs.declared.argument.Stop.TheVariants.{More, What}
use Rattle.requests.specs.declared.argument.Argument.{Argument}
use Rattle.requests.specs.Arguments.{opening, stopped, Inside, Reads, number_after, words_after, bytes_after, steps_after}
use Rattle.requests.proofs.Arguments.{stopped_reads, number_kept, words_stopped, bytes_stopped, steps_stopped as steps_still}
use Rattle.requests.specs.Requests.{store_of, bytes_of, sheet_of, list_of, row_of, buffer_of, second_of, other_of, part_of, place_asked, steps_of, numbers_of, channels_of, values_of, output_of, result_of, last_of, request_of, InsertRead, KeyRead, CompareRead, PartRead, ReaderRead, MendRead, RunRead, ConvertRead}

module _ {b : List ℕ} where
  pub opening_inside : {a : Argument} → a ≡ opening → 0 < length b → Inside b a
  opening_inside e h = rw e (record { ends = omega arith; begun = omega arith; small = omega arith })

  pub store_read : {a : Argument} {r : Result Argument Stop} → a ≡ opening → Reads b (words_after b (Ok a)) r → Reads b (store_of b) r
  unfolding store_of
  store_read e s = rw e at s

  pub bytes_asked_lem : {a : Argument} {r : Result Argument Stop} → a ≡ opening → Reads b (bytes_after b (Ok a)) r → Reads b (bytes_of b) r
  unfolding bytes_of
  bytes_asked_lem e s = rw e at s

  -- ---- an argument is the one after what was read before it

  module _ {a r : Result Argument Stop} where
    pub sheet_there : Reads b (store_of b) a → Reads b (bytes_after b a) r → Reads b (sheet_of b) r
    unfolding sheet_of
    sheet_there s x = rw s.is at x

    pub list_there : Reads b (sheet_of b) a → Reads b (words_after b a) r → Reads b (list_of b) r
    unfolding list_of
    list_there s x = rw s.is at x

    pub row_there : Reads b (store_of b) a → Reads b (number_after b a) r → Reads b (row_of b) r
    unfolding row_of
    row_there s x = rw s.is at x

    pub buffer_there : Reads b (row_of b) a → Reads b (bytes_after b a) r → Reads b (buffer_of b) r
    unfolding buffer_of
    buffer_there s x = rw s.is at x

    pub second_there : Reads b (row_of b) a → Reads b (words_after b a) r → Reads b (second_of b) r
    unfolding second_of
    second_there s x = rw s.is at x

    pub other_there : Reads b (second_of b) a → Reads b (number_after b a) r → Reads b (other_of b) r
    unfolding other_of
    other_there s x = rw s.is at x

    pub part_there : Reads b (row_of b) a → Reads b (number_after b a) r → Reads b (part_of b) r
    unfolding part_of
    part_there s x = rw s.is at x

    pub place_there : Reads b (bytes_of b) a → Reads b (number_after b a) r → Reads b (place_asked b) r
    unfolding place_asked
    place_there s x = rw s.is at x

    pub steps_there : Reads b (place_asked b) a → Reads b (steps_after b a) r → Reads b (steps_of b) r
    unfolding steps_of
    steps_there s x = rw s.is at x

    pub numbers_there : Reads b (store_of b) a → Reads b (words_after b a) r → Reads b (numbers_of b) r
    unfolding numbers_of
    numbers_there s x = rw s.is at x

    pub channels_there : Reads b (row_of b) a → Reads b (number_after b a) r → Reads b (channels_of b) r
    unfolding channels_of
    channels_there s x = rw s.is at x

    pub values_there : Reads b (channels_of b) a → Reads b (words_after b a) r → Reads b (values_of b) r
    unfolding values_of
    values_there s x = rw s.is at x

    pub output_there : Reads b (values_of b) a → Reads b (words_after b a) r → Reads b (output_of b) r
    unfolding output_of
    output_there s x = rw s.is at x

    pub result_there : Reads b (sheet_of b) a → Reads b (bytes_after b a) r → Reads b (result_of b) r
    unfolding result_of
    result_there s x = rw s.is at x

  -- ---- an argument after one that cannot be read: it says why

  module _ {s : Stop} where
    number_still : Reads b (number_after b (Err s)) (Err s)
    number_still = number_kept refl

    words_still : Reads b (words_after b (Err s)) (Err s)
    words_still = words_stopped b (Err s) number_still

    bytes_still : Reads b (bytes_after b (Err s)) (Err s)
    bytes_still = bytes_stopped b (Err s) number_still

    pub sheet_stopped : Reads b (store_of b) (Err s) → Reads b (sheet_of b) (Err s)
    sheet_stopped e = sheet_there e bytes_still

    pub list_stopped : Reads b (sheet_of b) (Err s) → Reads b (list_of b) (Err s)
    list_stopped e = list_there e words_still

    pub row_stopped : Reads b (store_of b) (Err s) → Reads b (row_of b) (Err s)
    row_stopped e = row_there e number_still

    pub buffer_stopped : Reads b (row_of b) (Err s) → Reads b (buffer_of b) (Err s)
    buffer_stopped e = buffer_there e bytes_still

    pub second_stopped : Reads b (row_of b) (Err s) → Reads b (second_of b) (Err s)
    second_stopped e = second_there e words_still

    pub other_stopped : Reads b (second_of b) (Err s) → Reads b (other_of b) (Err s)
    other_stopped e = other_there e number_still

    pub part_stopped : Reads b (row_of b) (Err s) → Reads b (part_of b) (Err s)
    part_stopped e = part_there e number_still

    pub place_stopped : Reads b (bytes_of b) (Err s) → Reads b (place_asked b) (Err s)
    place_stopped e = place_there e number_still

    pub steps_stopped : Reads b (place_asked b) (Err s) → Reads b (steps_of b) (Err s)
    steps_stopped e = steps_there e (steps_still b (Err s) number_still)

    pub numbers_stopped : Reads b (store_of b) (Err s) → Reads b (numbers_of b) (Err s)
    numbers_stopped e = numbers_there e words_still

    pub channels_stopped : Reads b (row_of b) (Err s) → Reads b (channels_of b) (Err s)
    channels_stopped e = channels_there e number_still

    pub values_stopped : Reads b (channels_of b) (Err s) → Reads b (values_of b) (Err s)
    values_stopped e = values_there e words_still

    pub output_stopped : Reads b (values_of b) (Err s) → Reads b (output_of b) (Err s)
    output_stopped e = output_there e words_still

    pub result_stopped : Reads b (sheet_of b) (Err s) → Reads b (result_of b) (Err s)
    result_stopped e = result_there e bytes_still

  -- ---- all of a request

  module _ {store : Result Argument Stop} (s : Reads b (store_of b) store) where
    pub insert_read : {sheet list : Result Argument Stop} → Reads b (bytes_after b store) sheet → Reads b (words_after b sheet) list → InsertRead b (record { store = store; sheet = sheet; list = list })
    insert_read x y = let x' = sheet_there s x in record { store = s; sheet = x'; list = list_there x' y }

    pub convert_read : {sheet buffer : Result Argument Stop} → Reads b (bytes_after b store) sheet → Reads b (bytes_after b sheet) buffer → ConvertRead b (record { store = store; sheet = sheet; buffer = buffer })
    convert_read x y = let x' = sheet_there s x in record { store = s; sheet = x'; buffer = result_there x' y }

    pub mend_read : {list : Result Argument Stop} → Reads b (words_after b store) list → MendRead b (record { store = store; list = list })
    mend_read x = record { store = s; list = numbers_there s x }

    pub key_read : {row buffer : Result Argument Stop} → Reads b (number_after b store) row → Reads b (bytes_after b row) buffer → KeyRead b (record { store = store; row = row; buffer = buffer })
    key_read x y = let x' = row_there s x in record { store = s; row = x'; buffer = buffer_there x' y }

    pub compare_read : {row second other : Result Argument Stop} → Reads b (number_after b store) row → Reads b (words_after b row) second → Reads b (number_after b second) other → CompareRead b (record { store = store; row = row; second = second; other = other })
    compare_read x y z =
        let x' = row_there s x in
        let y' = second_there x' y in
        record { store = s; row = x'; second = y'; other = other_there y' z }

    pub part_read : {whole part : Result Argument Stop} → Reads b (number_after b store) whole → Reads b (number_after b whole) part → PartRead b (record { store = store; whole = whole; part = part })
    part_read x y = let x' = row_there s x in record { store = s; whole = x'; part = part_there x' y }

    pub run_read : {row channels values output : Result Argument Stop} → Reads b (number_after b store) row → Reads b (number_after b row) channels → Reads b (words_after b channels) values → Reads b (words_after b values) output → RunRead b (record { store = store; row = row; channels = channels; values = values; output = output })
    run_read x y z v =
        let x' = row_there s x in
        let y' = channels_there x' y in
        let z' = values_there y' z in
        record { store = s; row = x'; channels = y'; values = z'; output = output_there z' v }

  pub reader_read : {bundle place steps : Result Argument Stop} → Reads b (bytes_of b) bundle → Reads b (number_after b bundle) place → Reads b (steps_after b place) steps → ReaderRead b (record { bundle = bundle; place = place; steps = steps })
  reader_read s x y = let x' = place_there s x in record { bundle = s; place = x'; steps = steps_there x' y }

-- ---- the request of each kind

-- none of the thirteen
pub record Unknown (kind : ℕ) : Type 0 where
  pub one : kind ≡ 1 → ⊥
  pub two : kind ≡ 2 → ⊥
  pub three : kind ≡ 3 → ⊥
  pub four : kind ≡ 4 → ⊥
  pub five : kind ≡ 5 → ⊥
  pub six : kind ≡ 6 → ⊥
  pub seven : kind ≡ 7 → ⊥
  pub eight : kind ≡ 8 → ⊥
  pub nine : kind ≡ 9 → ⊥
  pub ten : kind ≡ 10 → ⊥
  pub eleven : kind ≡ 11 → ⊥
  pub twelve : kind ≡ 12 → ⊥
  pub thirteen : kind ≡ 13 → ⊥

pub request_none : {b : List ℕ} → length b ≡ 0 → Reads b (request_of b) (stopped More)
unfolding request_of
request_none {b} h = stopped_reads (simp (le-ltb 0 (length b) (omega arith)))

-- the last argument of its kind; of a kind that is none of these there is none
pub request_last : (kind : ℕ) (b : List ℕ) → (length b ≡ 0 → ⊥) → byte_at b 0 ≡ kind → request_of b ≡ last_of kind b
unfolding request_of
request_last kind b some k = simp (lt-ltb 0 (length b) (omega (arith, some)), k)

pub of_kind : (kind : ℕ) {b : List ℕ} {r : Result Argument Stop} → (length b ≡ 0 → ⊥) → byte_at b 0 ≡ kind → Reads b (last_of kind b) r → Reads b (request_of b) r
of_kind kind {b} some k s = rw (request_last kind b some k) s

module _ {b : List ℕ} (some : length b ≡ 0 → ⊥) where
  pub of_bytes : {r : Result Argument Stop} → (byte_at b 0 ≡ 4) ⊎ ((byte_at b 0 ≡ 7) ⊎ (byte_at b 0 ≡ 9)) → Reads b (bytes_of b) r → Reads b (request_of b) r
  unfolding last_of
  of_bytes (inl k) = of_kind 4 some k
  of_bytes (inr (inl k)) = of_kind 7 some k
  of_bytes (inr (inr k)) = of_kind 9 some k

  pub of_insert : {r : Result Argument Stop} → (byte_at b 0 ≡ 2) ⊎ (byte_at b 0 ≡ 10) → Reads b (list_of b) r → Reads b (request_of b) r
  unfolding last_of
  of_insert (inl k) = of_kind 2 some k
  of_insert (inr k) = of_kind 10 some k

  pub of_none : Unknown (byte_at b 0) → Reads b (request_of b) (stopped What)
  unfolding last_of
  of_none u =
      let k = byte_at b 0 in
      let q : last_of k b ≡ stopped What = simp (ne_eqb k 1 u.one, ne_eqb k 2 u.two, ne_eqb k 3 u.three, ne_eqb k 4 u.four, ne_eqb k 5 u.five, ne_eqb k 6 u.six, ne_eqb k 7 u.seven, ne_eqb k 8 u.eight, ne_eqb k 9 u.nine, ne_eqb k 10 u.ten, ne_eqb k 11 u.eleven, ne_eqb k 12 u.twelve, ne_eqb k 13 u.thirteen) in
      of_kind k some refl (stopped_reads q)
