-- How long a request can be: one that needs more bytes has under 163,853 of them, so that a window of as many has room for more.
use Prim.Native.Nat.{ℕ, ◌+◌, ◌*◌, ◌≤◌, ◌<◌}
use native.Mathlib.Omega.{arith}
use mathlib.Core.Path.{◌≡◌, refl}
use mathlib.Core.Bool.{Bool, true, false}
use mathlib.Core.List.{List}
use lib.ListN.{length}
use lib.Dec.{ltb, eqb}
use borrow.Author.Tests.{ltb-false}
use Rattle.std.specs.Prelude.{Result, Ok, Err}
use Rattle.rules.specs.Pick.{pick}
use Rattle.sheet.specs.Bytes.{byte_at}
use Rattle.requests.specs.declared.argument.Stop.{Stop}
use Rattle.requests.specs.declared.argument.Stop.TheVariants.{More, Long, What}
use Rattle.requests.specs.declared.argument.Argument.{Argument}
use Rattle.requests.specs.Arguments.{stopped, opening, after, number_after, body_after, words_after, bytes_after, steps_after}
use Rattle.requests.specs.Requests.{store_of, bytes_of, sheet_of, list_of, row_of, buffer_of, second_of, other_of, part_of, place_asked, steps_of, numbers_of, channels_of, values_of, output_of, result_of, last_of, request_of}
use Rattle.requests.proofs.There.{NumberWay, number_short, number_read, number_way, BodyWay, body_long, body_short, body_read, body_way}

-- an argument that is there ends by byte m, and one that needs more bytes has fewer than m
record By (b : List ℕ) (r : Result Argument Stop) (m : ℕ) : Type 0 where
  pub ends : (a : Argument) → r ≡ Ok a → a.end ≤ m
  pub more : r ≡ stopped More → length b < m

by_stopped : {b : List ℕ} {m : ℕ} (s : Stop) → (s ≡ More → length b < m) → By b (stopped s) m
by_stopped s l = record { ends = λ a e. absurd (let z : ⊥ = cc in z); more = λ e. l (let z : s ≡ More = cc in z) }

by_there : {b : List ℕ} {m : ℕ} (a : Argument) → a.end ≤ m → By b (Ok a) m
by_there a l = record { ends = λ x e. let z : a ≡ x = cc in rw (← z) l; more = λ e. absurd (let z : ⊥ = cc in z) }

module _ (b : List ℕ) where
  by_later : (r : Result Argument Stop) (m n : ℕ) → By b r m → m ≤ n → By b r n
  by_later r m n s h = record { ends = λ a e. omega (arith, s.ends a e); more = λ e. omega (arith, s.more e) }

  by_after : (r : Result Argument Stop) (next : Argument → Result Argument Stop) (m k : ℕ) → m ≤ k → By b r m → ((a : Argument) → a.end ≤ m → By b (next a) k) → By b (after r next) k
  by_after (Ok a) next m k h s n = n a (s.ends a refl)
  by_after (Err e) next m k h s n = by_stopped e (λ q. omega (arith, s.more (rw q)))

module _ (b : List ℕ) where
  number_by : (r : Result Argument Stop) (m : ℕ) → By b r m → By b (number_after b r) (m + 4)
  unfolding number_after
  number_by (Err e) m s = by_stopped e (λ q. omega (arith, s.more (rw q)))
  number_by (Ok a) m s = go (number_way b a)
    where
      go : {x : Result Argument Stop} → NumberWay b a x → By b x (m + 4)
      go (number_short l) = by_stopped More (λ e. omega (arith, s.ends a refl))
      go (number_read l) = by_there _ (omega (arith, s.ends a refl))

module _ (b : List ℕ) (a : Argument) (m : ℕ) (s : a.end ≤ m) where
  body_by : (most size k : ℕ) → (a.count ≤ most → size ≤ k) → By b (body_after b a most size) (m + k)
  body_by most size k h = go (body_way b a most size)
    where
      go : {x : Result Argument Stop} → BodyWay b a most size x → By b x (m + k)
      go body_long = by_stopped Long (λ e. absurd (let z : ⊥ = cc in z))
      go (body_short l n) = by_stopped More (λ e. omega (arith, h l))
      go (body_read l n) = by_there _ (omega (arith, h l))

module _ (b : List ℕ) (r : Result Argument Stop) (m : ℕ) (s : By b r m) where
  words_by : By b (words_after b r) (m + 4 + 32768)
  words_by = by_after b (number_after b r) (λ h. body_after b h 8192 (4 * h.count)) (m + 4) (m + 4 + 32768) (omega arith) (number_by b r m s) (λ h l. body_by b h (m + 4) l 8192 (4 * h.count) 32768 (λ f. omega arith))

  bytes_by : By b (bytes_after b r) (m + 4 + 65536)
  bytes_by = by_after b (number_after b r) (λ h. body_after b h 65536 h.count) (m + 4) (m + 4 + 65536) (omega arith) (number_by b r m s) (λ h l. body_by b h (m + 4) l 65536 h.count 65536 (λ f. f))

  steps_by : By b (steps_after b r) (m + 4)
  steps_by = by_after b (number_after b r) (λ h. body_after b h 65536 0) (m + 4) (m + 4) (omega arith) (number_by b r m s) (λ h l. by_later b (body_after b h 65536 0) (m + 4 + 0) (m + 4) (body_by b h (m + 4) l 65536 0 0 (λ f. omega arith)) (omega arith))

module _ (b : List ℕ) where
  opening_by : By b (Ok opening) 1
  opening_by = by_there opening (omega arith)

  store_by : By b (store_of b) 32773
  unfolding store_of
  store_by = words_by b (Ok opening) 1 opening_by

  first_by : By b (bytes_of b) 65541
  unfolding bytes_of
  first_by = bytes_by b (Ok opening) 1 opening_by

  list_by : By b (list_of b) 131085
  unfolding list_of sheet_of
  list_by = words_by b (sheet_of b) 98313 (bytes_by b (store_of b) 32773 store_by)

  result_by : By b (result_of b) 163853
  unfolding result_of sheet_of
  result_by = bytes_by b (sheet_of b) 98313 (bytes_by b (store_of b) 32773 store_by)

  numbers_by : By b (numbers_of b) 65545
  unfolding numbers_of
  numbers_by = words_by b (store_of b) 32773 store_by

  row_by : By b (row_of b) 32777
  unfolding row_of
  row_by = number_by b (store_of b) 32773 store_by

  buffer_by : By b (buffer_of b) 98317
  unfolding buffer_of
  buffer_by = bytes_by b (row_of b) 32777 row_by

  other_by : By b (other_of b) 65553
  unfolding other_of second_of
  other_by = number_by b (second_of b) 65549 (words_by b (row_of b) 32777 row_by)

  part_by : By b (part_of b) 32781
  unfolding part_of
  part_by = number_by b (row_of b) 32777 row_by

  output_by : By b (output_of b) 98325
  unfolding output_of values_of channels_of
  output_by =
      let c = number_by b (row_of b) 32777 row_by in
      words_by b (values_of b) 65553 (words_by b (channels_of b) 32781 c)

  last_steps_by : By b (steps_of b) 65549
  unfolding steps_of place_asked
  last_steps_by = steps_by b (place_asked b) 65545 (number_by b (bytes_of b) 65541 first_by)

  pick_by : {x y : Result Argument Stop} (m : ℕ) (t : Bool) → m ≤ 163853 → By b x m → By b y 163853 → By b (pick t x y) 163853
  pick_by {x} m true h s r = by_later b x m 163853 s h
  pick_by m false h s r = r

  last_by : (kind : ℕ) → By b (last_of kind b) 163853
  unfolding last_of
  last_by k =
      pick_by 32773 (eqb k 1) (omega arith) store_by
      (pick_by 131085 (eqb k 2) (omega arith) list_by
      (pick_by 98317 (eqb k 3) (omega arith) buffer_by
      (pick_by 65541 (eqb k 4) (omega arith) first_by
      (pick_by 65553 (eqb k 5) (omega arith) other_by
      (pick_by 32781 (eqb k 6) (omega arith) part_by
      (pick_by 65541 (eqb k 7) (omega arith) first_by
      (pick_by 65549 (eqb k 8) (omega arith) last_steps_by
      (pick_by 65541 (eqb k 9) (omega arith) first_by
      (pick_by 131085 (eqb k 10) (omega arith) list_by
      (pick_by 65545 (eqb k 11) (omega arith) numbers_by
      (pick_by 98325 (eqb k 12) (omega arith) output_by
      (pick_by 163853 (eqb k 13) (omega arith) result_by
      (by_stopped What (λ e. absurd (let z : ⊥ = cc in z)))))))))))))))

  request_by : By b (request_of b) 163853
  unfolding request_of
  request_by = go (ltb 0 (length b)) refl
    where
      go : (t : Bool) → ltb 0 (length b) ≡ t → By b (pick t (last_of (byte_at b 0) b) (stopped More)) 163853
      go true e = last_by (byte_at b 0)
      go false e = by_stopped More (λ q. omega (arith, ltb-false 0 (length b) e))

  pub request_fits : request_of b ≡ stopped More → length b < 163853
  request_fits = request_by.more
