-- What a run holds. A word is 4 bytes, big-endian; in a signed run it is a signed number of 32 bits.
use Rattle.std.specs.Prelude.{ℕ, ◌+◌, ◌-◌, ◌*◌, ◌≤◌, ◌≡◌, List, map, length, take, drop, ltb, ℤ, pos, negsuc, Ok}
use Rattle.rules.specs.Pick.{pick}
use Rattle.rules.specs.Lists.{firsts}
use Rattle.sheet.specs.Bytes.{be32}
use Rattle.requests.specs.declared.argument.Argument.{Argument}
use Rattle.requests.specs.declared.asked.InsertAsked.{InsertAsked}
use Rattle.requests.specs.declared.asked.KeyAsked.{KeyAsked}
use Rattle.requests.specs.declared.asked.CompareAsked.{CompareAsked}
use Rattle.requests.specs.declared.asked.PartAsked.{PartAsked}
use Rattle.requests.specs.declared.asked.ReaderAsked.{ReaderAsked}
use Rattle.requests.specs.declared.asked.MendAsked.{MendAsked}
use Rattle.requests.specs.declared.asked.RunAsked.{RunAsked}
use Rattle.requests.specs.declared.asked.ConvertAsked.{ConvertAsked}
use Rattle.requests.specs.Arguments.{Reads}
use Rattle.requests.specs.Requests.{store_of, bytes_of, InsertRead, KeyRead, CompareRead, PartRead, ReaderRead, MendRead, RunRead, ConvertRead}

abbrev pub word_at : List ℕ → (at i : ℕ) → ℕ
word_at b at i = be32 b (at + 4 * i)

abbrev pub words_in : List ℕ → Argument → List ℕ
words_in b a = firsts (word_at b a.at) a.count

-- a word as a signed number: its bits are those of the number in two's complement
unfoldable pub signed_of : ℕ → ℤ
signed_of x = pick (ltb x 2147483648) (pos x) (negsuc (4294967295 - x))

abbrev pub signed_in : List ℕ → Argument → List ℤ
signed_in b a = map signed_of (words_in b a)

abbrev pub bytes_in : List ℕ → Argument → List ℕ
bytes_in b a = take a.count (drop a.at b)

-- a run that is there, and has no more entries than it may have
pub record WordsThere (b : List ℕ) (a : Argument) : Type 0 where
  pub few : a.count ≤ 8192
  pub within : a.at + 4 * a.count ≤ length b

pub record BytesThere (b : List ℕ) (a : Argument) : Type 0 where
  pub few : a.count ≤ 65536
  pub within : a.at + a.count ≤ length b
  pub ends : a.end ≡ a.at + a.count

-- the arguments of a request are read, and its runs are there
pub record StoreThere (b : List ℕ) (r : Argument) : Type 0 where
  pub read : Reads b (store_of b) (Ok r)
  pub store : WordsThere b r

pub record OneRunThere (b : List ℕ) (r : Argument) : Type 0 where
  pub read : Reads b (bytes_of b) (Ok r)
  pub bytes : BytesThere b r

pub record InsertThere (b : List ℕ) (r : InsertAsked) : Type 0 where
  pub read : InsertRead b (record { store = Ok r.store; sheet = Ok r.sheet; list = Ok r.list })
  pub store : WordsThere b r.store
  pub sheet : BytesThere b r.sheet
  pub list : WordsThere b r.list

pub record KeyThere (b : List ℕ) (r : KeyAsked) : Type 0 where
  pub read : KeyRead b (record { store = Ok r.store; row = Ok r.row; buffer = Ok r.buffer })
  pub store : WordsThere b r.store
  pub buffer : BytesThere b r.buffer

pub record CompareThere (b : List ℕ) (r : CompareAsked) : Type 0 where
  pub read : CompareRead b (record { store = Ok r.store; row = Ok r.row; second = Ok r.second; other = Ok r.other })
  pub store : WordsThere b r.store
  pub second : WordsThere b r.second

pub record PartThere (b : List ℕ) (r : PartAsked) : Type 0 where
  pub read : PartRead b (record { store = Ok r.store; whole = Ok r.whole; part = Ok r.part })
  pub store : WordsThere b r.store

pub record ReaderThere (b : List ℕ) (r : ReaderAsked) : Type 0 where
  pub read : ReaderRead b (record { bundle = Ok r.bundle; place = Ok r.place; steps = Ok r.steps })
  pub bundle : BytesThere b r.bundle
  pub few : r.steps.count ≤ 65536

pub record MendThere (b : List ℕ) (r : MendAsked) : Type 0 where
  pub read : MendRead b (record { store = Ok r.store; list = Ok r.list })
  pub store : WordsThere b r.store
  pub list : WordsThere b r.list

pub record RunThere (b : List ℕ) (r : RunAsked) : Type 0 where
  pub read : RunRead b (record { store = Ok r.store; row = Ok r.row; channels = Ok r.channels; values = Ok r.values; output = Ok r.output })
  pub store : WordsThere b r.store
  pub values : WordsThere b r.values
  pub output : WordsThere b r.output

pub record ConvertThere (b : List ℕ) (r : ConvertAsked) : Type 0 where
  pub read : ConvertRead b (record { store = Ok r.store; sheet = Ok r.sheet; buffer = Ok r.buffer })
  pub store : WordsThere b r.store
  pub sheet : BytesThere b r.sheet
  pub buffer : BytesThere b r.buffer
