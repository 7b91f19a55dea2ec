-- The requests: which arguments each has, by the byte that it starts with.
use Rattle.std.specs.Prelude.{ℕ, ◌<◌, ◌≡◌, true, List, length, ltb, eqb, Result, Ok}
use Rattle.rules.specs.Pick.{pick}
use Rattle.sheet.specs.Bytes.{byte_at}
use Rattle.requests.specs.declared.argument.Stop.{Stop}
use Rattle.requests.specs.declared.argument.Stop.TheVariants.{More, What}
use Rattle.requests.specs.declared.argument.Argument.{Argument}
use Rattle.requests.specs.declared.asked.InsertParts.{InsertParts}
use Rattle.requests.specs.declared.asked.KeyParts.{KeyParts}
use Rattle.requests.specs.declared.asked.CompareParts.{CompareParts}
use Rattle.requests.specs.declared.asked.PartParts.{PartParts}
use Rattle.requests.specs.declared.asked.ReaderParts.{ReaderParts}
use Rattle.requests.specs.declared.asked.MendParts.{MendParts}
use Rattle.requests.specs.declared.asked.RunParts.{RunParts}
use Rattle.requests.specs.declared.asked.ConvertParts.{ConvertParts}
use Rattle.requests.specs.Arguments.{is_whole, opening, stopped, number_after, words_after, bytes_after, steps_after, Reads}

-- the first argument: a store's words, or bytes
unfoldable pub store_of : List ℕ → Result Argument Stop
store_of b = words_after b (Ok opening)

unfoldable pub bytes_of : List ℕ → Result Argument Stop
bytes_of b = bytes_after b (Ok opening)

-- insert: words, sheet, answers
unfoldable pub sheet_of : List ℕ → Result Argument Stop
sheet_of b = bytes_after b (store_of b)

unfoldable pub list_of : List ℕ → Result Argument Stop
list_of b = words_after b (sheet_of b)

-- key: words, row, buffer
unfoldable pub row_of : List ℕ → Result Argument Stop
row_of b = number_after b (store_of b)

unfoldable pub buffer_of : List ℕ → Result Argument Stop
buffer_of b = bytes_after b (row_of b)

-- compare: words, row, words, row
unfoldable pub second_of : List ℕ → Result Argument Stop
second_of b = words_after b (row_of b)

unfoldable pub other_of : List ℕ → Result Argument Stop
other_of b = number_after b (second_of b)

-- part of: words, whole, part
unfoldable pub part_of : List ℕ → Result Argument Stop
part_of b = number_after b (row_of b)

-- reader: bundle, at, steps
unfoldable pub place_asked : List ℕ → Result Argument Stop
place_asked b = number_after b (bytes_of b)

unfoldable pub steps_of : List ℕ → Result Argument Stop
steps_of b = steps_after b (place_asked b)

-- mend: words, list
unfoldable pub numbers_of : List ℕ → Result Argument Stop
numbers_of b = words_after b (store_of b)

-- run: words, row, channel count, values, output
unfoldable pub channels_of : List ℕ → Result Argument Stop
channels_of b = number_after b (row_of b)

unfoldable pub values_of : List ℕ → Result Argument Stop
values_of b = words_after b (channels_of b)

unfoldable pub output_of : List ℕ → Result Argument Stop
output_of b = words_after b (values_of b)

-- convert: words, sheet, buffer
unfoldable pub result_of : List ℕ → Result Argument Stop
result_of b = bytes_after b (sheet_of b)

-- the last argument of the request of a kind: check, insert, key, is a key, compare, part of, next, reader, read a sheet, strict insert, mend,
-- run, convert
unfoldable pub last_of : (kind : ℕ) → List ℕ → Result Argument Stop
last_of kind b =
    pick (eqb kind 1) (store_of b)
    (pick (eqb kind 2) (list_of b)
    (pick (eqb kind 3) (buffer_of b)
    (pick (eqb kind 4) (bytes_of b)
    (pick (eqb kind 5) (other_of b)
    (pick (eqb kind 6) (part_of b)
    (pick (eqb kind 7) (bytes_of b)
    (pick (eqb kind 8) (steps_of b)
    (pick (eqb kind 9) (bytes_of b)
    (pick (eqb kind 10) (list_of b)
    (pick (eqb kind 11) (numbers_of b)
    (pick (eqb kind 12) (output_of b)
    (pick (eqb kind 13) (result_of b) (stopped What)))))))))))))

-- the request at the front of some bytes, by its last argument
unfoldable pub request_of : List ℕ → Result Argument Stop
request_of b = pick (ltb 0 (length b)) (last_of (byte_at b 0) b) (stopped More)

-- a whole request
pub record WholeRequest (b : List ℕ) : Type 0 where
  pub some : 0 < length b
  pub whole : is_whole (request_of b) ≡ true

-- a whole request of a kind
pub record Asked (b : List ℕ) (kind : ℕ) : Type 0 where
  pub some : 0 < length b
  pub starts : byte_at b 0 ≡ kind
  pub whole : is_whole (request_of b) ≡ true

-- each argument read is the one that is there, or why there is none
pub record InsertRead (b : List ℕ) (r : InsertParts) : Type 0 where
  pub store : Reads b (store_of b) r.store
  pub sheet : Reads b (sheet_of b) r.sheet
  pub list : Reads b (list_of b) r.list

pub record KeyRead (b : List ℕ) (r : KeyParts) : Type 0 where
  pub store : Reads b (store_of b) r.store
  pub row : Reads b (row_of b) r.row
  pub buffer : Reads b (buffer_of b) r.buffer

pub record CompareRead (b : List ℕ) (r : CompareParts) : Type 0 where
  pub store : Reads b (store_of b) r.store
  pub row : Reads b (row_of b) r.row
  pub second : Reads b (second_of b) r.second
  pub other : Reads b (other_of b) r.other

pub record PartRead (b : List ℕ) (r : PartParts) : Type 0 where
  pub store : Reads b (store_of b) r.store
  pub whole : Reads b (row_of b) r.whole
  pub part : Reads b (part_of b) r.part

pub record ReaderRead (b : List ℕ) (r : ReaderParts) : Type 0 where
  pub bundle : Reads b (bytes_of b) r.bundle
  pub place : Reads b (place_asked b) r.place
  pub steps : Reads b (steps_of b) r.steps

pub record MendRead (b : List ℕ) (r : MendParts) : Type 0 where
  pub store : Reads b (store_of b) r.store
  pub list : Reads b (numbers_of b) r.list

pub record RunRead (b : List ℕ) (r : RunParts) : Type 0 where
  pub store : Reads b (store_of b) r.store
  pub row : Reads b (row_of b) r.row
  pub channels : Reads b (channels_of b) r.channels
  pub values : Reads b (values_of b) r.values
  pub output : Reads b (output_of b) r.output

pub record ConvertRead (b : List ℕ) (r : ConvertParts) : Type 0 where
  pub store : Reads b (store_of b) r.store
  pub sheet : Reads b (sheet_of b) r.sheet
  pub buffer : Reads b (result_of b) r.buffer
