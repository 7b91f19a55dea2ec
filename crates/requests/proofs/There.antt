-- What a whole request tells of its arguments: they are all there, and so are their runs.
use Prim.Native.Nat.{ℕ, ◌+◌, ◌*◌, ◌≤◌, ◌<◌}
use native.Mathlib.Omega.{arith}
use native.Mathlib.Decide.{ℕ_discrete}
use mathlib.Core.Path.{◌≡◌, refl, sym}
use mathlib.Core.Bool.{Bool, true, false}
use mathlib.Core.List.{List}
use lib.ListN.{length}
use lib.Dec.{leb}
use borrow.Author.Tests.{leb-true, leb-false}
use Rattle.std.specs.Prelude.{Result, Ok, Err, IsOk, MatchResult}
use Rattle.rules.specs.Pick.{pick}
use Rattle.sheet.specs.Bytes.{byte_at, be32}
use Rattle.requests.specs.declared.argument.Stop.{Stop}
use Rattle.requests.specs.declared.argument.Stop.TheVariants.{More, Long, What}
use Rattle.requests.specs.declared.argument.Argument.{Argument}
use Rattle.requests.specs.declared.asked.InsertAsked.{InsertAsked}
use Rattle.requests.specs.declared.asked.KeyAsked.{KeyAsked}
use Rattle.requests.specs.declared.asked.CompareAsked.{CompareAsked}
use Rattle.requests.specs.declared.asked.PartAsked.{PartAsked}
use Rattle.requests.specs.declared.asked.ReaderAsked.{ReaderAsked}
use Rattle.requests.specs.declared.asked.MendAsked.{MendAsked}
use Rattle.requests.specs.declared.asked.RunAsked.{RunAsked}
use Rattle.requests.specs.declared.asked.ConvertAsked.{ConvertAsked}
use Rattle.requests.specs.Arguments.{is_whole, stopped, opening, after, number_after, body_after, words_after, bytes_after, steps_after, Reads}
use Rattle.requests.specs.Requests.{store_of, bytes_of, sheet_of, list_of, row_of, buffer_of, second_of, other_of, part_of, place_asked, steps_of, numbers_of, channels_of, values_of, output_of, result_of, last_of, request_of, WholeRequest, Asked}
use Rattle.requests.specs.Runs.{WordsThere, BytesThere, StoreThere, OneRunThere, InsertThere, KeyThere, CompareThere, PartThere, ReaderThere, MendThere, RunThere, ConvertThere}
use Rattle.requests.proofs.Arguments.{not_both}
use Rattle.requests.proofs.Requests.{Unknown, request_last, of_none}

-- ---- the ways in which reading an argument can end

pub data NumberWay (b : List ℕ) (a : Argument) : Result Argument Stop → Type 0 where
  number_short : length b < a.end + 4 → NumberWay b a (stopped More)
  number_read : a.end + 4 ≤ length b → NumberWay b a (Ok (record { at = a.end; count = be32 b a.end; end = a.end + 4 }))

pub number_way : (b : List ℕ) (a : Argument) → NumberWay b a (number_after b (Ok a))
unfolding number_after
number_way b a = go (leb (a.end + 4) (length b)) refl
  where
    go : (u : Bool) → leb (a.end + 4) (length b) ≡ u → NumberWay b a (pick u (Ok (record { at = a.end; count = be32 b a.end; end = a.end + 4 })) (stopped More))
    go false l = number_short (leb-false _ _ l)
    go true l = number_read (leb-true _ _ l)

pub data BodyWay (b : List ℕ) (a : Argument) (most size : ℕ) : Result Argument Stop → Type 0 where
  body_long : BodyWay b a most size (stopped Long)
  body_short : a.count ≤ most → length b < a.end + size → BodyWay b a most size (stopped More)
  body_read : a.count ≤ most → a.end + size ≤ length b → BodyWay b a most size (Ok (record { at = a.end; count = a.count; end = a.end + size }))

pub body_way : (b : List ℕ) (a : Argument) (most size : ℕ) → BodyWay b a most size (body_after b a most size)
unfolding body_after
body_way b a most size = go (leb a.count most) refl (leb (a.end + size) (length b)) refl
  where
    go : (u : Bool) → leb a.count most ≡ u → (v : Bool) → leb (a.end + size) (length b) ≡ v → BodyWay b a most size (pick u (pick v (Ok (record { at = a.end; count = a.count; end = a.end + size })) (stopped More)) (stopped Long))
    go false l v m = body_long
    go true l false m = body_short (leb-true _ _ l) (leb-false _ _ m)
    go true l true m = body_read (leb-true _ _ l) (leb-true _ _ m)

-- an argument read after another: the one before it is there
pub record Behind (r : Result Argument Stop) (next : Argument → Result Argument Stop) (x : Argument) : Type 0 where
  pub before : Argument
  pub there : r ≡ Ok before
  pub read : next before ≡ Ok x

pub behind : (r : Result Argument Stop) (next : Argument → Result Argument Stop) {x : Argument} → after r next ≡ Ok x → Behind r next x
behind (Ok a) next e = record { before = a; there = refl; read = e }
behind (Err s) next e = absurd (let z : ⊥ = cc in z)

-- ---- a run that is read is there

module _ (b : List ℕ) (r : Result Argument Stop) {x : Argument} where
  words_there : words_after b r ≡ Ok x → WordsThere b x
  words_there e = let h = behind (number_after b r) (λ h. body_after b h 8192 (4 * h.count)) e in go h.before (body_way b h.before 8192 (4 * h.before.count)) h.read
    where
      go : (h : Argument) {y : Result Argument Stop} → BodyWay b h 8192 (4 * h.count) y → y ≡ Ok x → WordsThere b x
      go h body_long q = absurd (let z : ⊥ = cc in z)
      go h (body_short l m) q = absurd (let z : ⊥ = cc in z)
      go h (body_read l m) q = let z : x ≡ record { at = h.end; count = h.count; end = h.end + 4 * h.count } = cc in rw z (record { few = l; within = m })

  bytes_there : bytes_after b r ≡ Ok x → BytesThere b x
  bytes_there e = let h = behind (number_after b r) (λ h. body_after b h 65536 h.count) e in go h.before (body_way b h.before 65536 h.before.count) h.read
    where
      go : (h : Argument) {y : Result Argument Stop} → BodyWay b h 65536 h.count y → y ≡ Ok x → BytesThere b x
      go h body_long q = absurd (let z : ⊥ = cc in z)
      go h (body_short l m) q = absurd (let z : ⊥ = cc in z)
      go h (body_read l m) q = let z : x ≡ record { at = h.end; count = h.count; end = h.end + h.count } = cc in rw z (record { few = l; within = m; ends = refl })

  steps_few : steps_after b r ≡ Ok x → x.count ≤ 65536
  steps_few e = let h = behind (number_after b r) (λ h. body_after b h 65536 0) e in go h.before (body_way b h.before 65536 0) h.read
    where
      go : (h : Argument) {y : Result Argument Stop} → BodyWay b h 65536 0 y → y ≡ Ok x → x.count ≤ 65536
      go h body_long q = absurd (let z : ⊥ = cc in z)
      go h (body_short l m) q = absurd (let z : ⊥ = cc in z)
      go h (body_read l m) q = let z : x ≡ record { at = h.end; count = h.count; end = h.end + 0 } = cc in rw z l

-- ---- an argument that is there: so are those before it

module _ (b : List ℕ) where
  number_before : (r : Result Argument Stop) → is_whole (number_after b r) ≡ true → is_whole r ≡ true
  unfolding number_after
  number_before (Ok a) e = refl
  number_before (Err s) e = e

  body_before : (r : Result Argument Stop) (next : Argument → Result Argument Stop) → is_whole (after (number_after b r) next) ≡ true → is_whole r ≡ true
  unfolding number_after
  body_before (Ok a) next e = refl
  body_before (Err s) next e = e

  words_before : (r : Result Argument Stop) → is_whole (words_after b r) ≡ true → is_whole r ≡ true
  words_before r = body_before r (λ h. body_after b h 8192 (4 * h.count))

  bytes_before : (r : Result Argument Stop) → is_whole (bytes_after b r) ≡ true → is_whole r ≡ true
  bytes_before r = body_before r (λ h. body_after b h 65536 h.count)

  steps_before : (r : Result Argument Stop) → is_whole (steps_after b r) ≡ true → is_whole r ≡ true
  steps_before r = body_before r (λ h. body_after b h 65536 0)

-- ---- the runs of each kind

module _ {b : List ℕ} where
  store_there : {x : Argument} → Reads b (store_of b) (Ok x) → WordsThere b x
  unfolding store_of
  store_there s = words_there b (Ok opening) (sym s.is)

  bytes_run_there : {x : Argument} → Reads b (bytes_of b) (Ok x) → BytesThere b x
  unfolding bytes_of
  bytes_run_there s = bytes_there b (Ok opening) (sym s.is)

  pub check_there : {r : Argument} → Reads b (store_of b) (Ok r) → StoreThere b r
  check_there s = record { read = s; store = store_there s }

  pub one_run_there : {r : Argument} → Reads b (bytes_of b) (Ok r) → OneRunThere b r
  one_run_there s = record { read = s; bytes = bytes_run_there s }

  pub insert_there : {r : InsertAsked} → Reads b (store_of b) (Ok r.store) → Reads b (sheet_of b) (Ok r.sheet) → Reads b (list_of b) (Ok r.list) → InsertThere b r
  unfolding sheet_of list_of
  insert_there s x y =
      record {
        read = record { store = s; sheet = x; list = y };
        store = store_there s;
        sheet = bytes_there b (store_of b) (sym x.is);
        list = words_there b (sheet_of b) (sym y.is);
      }

  pub key_there : {r : KeyAsked} → Reads b (store_of b) (Ok r.store) → Reads b (row_of b) (Ok r.row) → Reads b (buffer_of b) (Ok r.buffer) → KeyThere b r
  unfolding buffer_of
  key_there s x y =
      record {
        read = record { store = s; row = x; buffer = y };
        store = store_there s;
        buffer = bytes_there b (row_of b) (sym y.is);
      }

  pub compare_there : {r : CompareAsked} → Reads b (store_of b) (Ok r.store) → Reads b (row_of b) (Ok r.row) → Reads b (second_of b) (Ok r.second) → Reads b (other_of b) (Ok r.other) → CompareThere b r
  unfolding second_of
  compare_there s x y z =
      record {
        read = record { store = s; row = x; second = y; other = z };
        store = store_there s;
        second = words_there b (row_of b) (sym y.is);
      }

  pub part_there : {r : PartAsked} → Reads b (store_of b) (Ok r.store) → Reads b (row_of b) (Ok r.whole) → Reads b (part_of b) (Ok r.part) → PartThere b r
  part_there s x y =
      record {
        read = record { store = s; whole = x; part = y };
        store = store_there s;
      }

  pub reader_there : {r : ReaderAsked} → Reads b (bytes_of b) (Ok r.bundle) → Reads b (place_asked b) (Ok r.place) → Reads b (steps_of b) (Ok r.steps) → ReaderThere b r
  unfolding steps_of
  reader_there s x y =
      record {
        read = record { bundle = s; place = x; steps = y };
        bundle = bytes_run_there s;
        few = steps_few b (place_asked b) (sym y.is);
      }

  pub mend_there : {r : MendAsked} → Reads b (store_of b) (Ok r.store) → Reads b (numbers_of b) (Ok r.list) → MendThere b r
  unfolding numbers_of
  mend_there s x =
      record {
        read = record { store = s; list = x };
        store = store_there s;
        list = words_there b (store_of b) (sym x.is);
      }

  pub run_there : {r : RunAsked} → Reads b (store_of b) (Ok r.store) → Reads b (row_of b) (Ok r.row) → Reads b (channels_of b) (Ok r.channels) → Reads b (values_of b) (Ok r.values) → Reads b (output_of b) (Ok r.output) → RunThere b r
  unfolding values_of output_of
  run_there s x y z v =
      record {
        read = record { store = s; row = x; channels = y; values = z; output = v };
        store = store_there s;
        values = words_there b (channels_of b) (sym z.is);
        output = words_there b (values_of b) (sym v.is);
      }

  pub convert_there : {r : ConvertAsked} → Reads b (store_of b) (Ok r.store) → Reads b (sheet_of b) (Ok r.sheet) → Reads b (result_of b) (Ok r.buffer) → ConvertThere b r
  unfolding sheet_of result_of
  convert_there s x y =
      record {
        read = record { store = s; sheet = x; buffer = y };
        store = store_there s;
        sheet = bytes_there b (store_of b) (sym x.is);
        buffer = bytes_there b (sheet_of b) (sym y.is);
      }

-- ---- a whole request is read: what its last argument is tells

pub last_whole : {b : List ℕ} {kind : ℕ} → Asked b kind → is_whole (last_of kind b) ≡ true
last_whole {b} {kind} a = rw (request_last kind b (λ e. omega (arith, a.some)) a.starts) at a.whole

pub argument_whole : {b : List ℕ} {last : Result Argument Stop} (r : Result Argument Stop) → is_whole last ≡ true → Reads b last r → IsOk r
argument_whole (Ok a) w s = refl
argument_whole (Err e) w s = absurd (not_both w (rw (← s.is) refl))

pub arguments_whole : {A : Type 0} (b : List ℕ) (P : A → Type 0) (last : Result Argument Stop) (r : Result A Stop) → is_whole last ≡ true → MatchResult r P (λ e. Reads b last (Err e)) → IsOk r
arguments_whole b P last (Ok a) w s = refl
arguments_whole b P last (Err e) w s = argument_whole (Err e) w s

-- ---- where an argument is there, so is the one before it

module _ (b : List ℕ) where
  pub before_sheet : is_whole (sheet_of b) ≡ true → is_whole (store_of b) ≡ true
  unfolding sheet_of
  before_sheet = bytes_before b (store_of b)

  pub before_list : is_whole (list_of b) ≡ true → is_whole (sheet_of b) ≡ true
  unfolding list_of
  before_list = words_before b (sheet_of b)

  pub before_row : is_whole (row_of b) ≡ true → is_whole (store_of b) ≡ true
  unfolding row_of
  before_row = number_before b (store_of b)

  pub before_buffer : is_whole (buffer_of b) ≡ true → is_whole (row_of b) ≡ true
  unfolding buffer_of
  before_buffer = bytes_before b (row_of b)

  pub before_second : is_whole (second_of b) ≡ true → is_whole (row_of b) ≡ true
  unfolding second_of
  before_second = words_before b (row_of b)

  pub before_other : is_whole (other_of b) ≡ true → is_whole (second_of b) ≡ true
  unfolding other_of
  before_other = number_before b (second_of b)

  pub before_part : is_whole (part_of b) ≡ true → is_whole (row_of b) ≡ true
  unfolding part_of
  before_part = number_before b (row_of b)

  pub before_place : is_whole (place_asked b) ≡ true → is_whole (bytes_of b) ≡ true
  unfolding place_asked
  before_place = number_before b (bytes_of b)

  pub before_steps : is_whole (steps_of b) ≡ true → is_whole (place_asked b) ≡ true
  unfolding steps_of
  before_steps = steps_before b (place_asked b)

  pub before_numbers : is_whole (numbers_of b) ≡ true → is_whole (store_of b) ≡ true
  unfolding numbers_of
  before_numbers = words_before b (store_of b)

  pub before_channels : is_whole (channels_of b) ≡ true → is_whole (row_of b) ≡ true
  unfolding channels_of
  before_channels = number_before b (row_of b)

  pub before_values : is_whole (values_of b) ≡ true → is_whole (channels_of b) ≡ true
  unfolding values_of
  before_values = words_before b (channels_of b)

  pub before_output : is_whole (output_of b) ≡ true → is_whole (values_of b) ≡ true
  unfolding output_of
  before_output = words_before b (values_of b)

  pub before_result : is_whole (result_of b) ≡ true → is_whole (sheet_of b) ≡ true
  unfolding result_of
  before_result = bytes_before b (sheet_of b)

-- ---- a whole request is one of the thirteen

pub of_thirteen : {b : List ℕ} → WholeRequest b → (byte_at b 0 ≡ 1 → ⊥) → (byte_at b 0 ≡ 2 → ⊥) → (byte_at b 0 ≡ 3 → ⊥) → (byte_at b 0 ≡ 4 → ⊥) → (byte_at b 0 ≡ 5 → ⊥) → (byte_at b 0 ≡ 6 → ⊥) → (byte_at b 0 ≡ 7 → ⊥) → (byte_at b 0 ≡ 8 → ⊥) → (byte_at b 0 ≡ 9 → ⊥) → (byte_at b 0 ≡ 10 → ⊥) → (byte_at b 0 ≡ 11 → ⊥) → (byte_at b 0 ≡ 12 → ⊥) → Asked b 13
of_thirteen {b} w n₁ n₂ n₃ n₄ n₅ n₆ n₇ n₈ n₉ n₁₀ n₁₁ n₁₂ = go (ℕ_discrete (byte_at b 0) 13)
  where
    go : Dec (byte_at b 0 ≡ 13) → Asked b 13
    go (yes k) = record { some = w.some; starts = k; whole = w.whole }
    go (no k) =
        let u : Unknown (byte_at b 0) = record { one = n₁; two = n₂; three = n₃; four = n₄; five = n₅; six = n₆; seven = n₇; eight = n₈; nine = n₉; ten = n₁₀; eleven = n₁₁; twelve = n₁₂; thirteen = k } in
        let r : Reads b (request_of b) (stopped What) = of_none (λ e. omega (arith, w.some)) u in
        absurd (not_both w.whole (rw (← r.is) refl))
