-- The arguments of a request, one after another: a number is 4 bytes, a run is a 4-byte count and its entries.
use Rattle.std.specs.Prelude.{ℕ, ◌+◌, ◌*◌, ◌≤◌, ◌<◌, ◌≡◌, Bool, true, false, List, length, leb, Result, Ok, Err, IfOk}
use Rattle.rules.specs.Pick.{pick}
use Rattle.sheet.specs.Bytes.{be32}
use Rattle.requests.specs.declared.argument.Stop.{Stop}
use Rattle.requests.specs.declared.argument.Stop.TheVariants.{More, Long}
use Rattle.requests.specs.declared.argument.Argument.{Argument}

abbrev pub is_whole : Result Argument Stop → Bool
is_whole (Ok a) = true
is_whole (Err s) = false

abbrev pub stopped : Stop → Result Argument Stop
stopped s = Err s

-- where an argument ends; of what cannot be read this is 0
abbrev pub end_of : Result Argument Stop → ℕ
end_of (Ok a) = a.end
end_of (Err s) = 0

abbrev pub opening : Argument
opening = record { at = 0; count = 0; end = 1 }

-- what is read after an argument; one that cannot be read passes on why
abbrev pub after : Result Argument Stop → (Argument → Result Argument Stop) → Result Argument Stop
after (Ok a) next = next a
after (Err s) next = stopped s

-- a number after an argument
unfoldable pub number_after : List ℕ → Result Argument Stop → Result Argument Stop
number_after b r = after r (λ a.
    pick (leb (a.end + 4) (length b))
    (Ok (record { at = a.end; count = be32 b a.end; end = a.end + 4 }))
    (stopped More))

-- a count and then so many bytes; a count over the limit is too long, whatever follows
unfoldable pub body_after : List ℕ → Argument → (most size : ℕ) → Result Argument Stop
body_after b a most size =
    pick (leb a.count most)
    (pick (leb (a.end + size) (length b))
    (Ok (record { at = a.end; count = a.count; end = a.end + size }))
    (stopped More))
    (stopped Long)

-- at most 8,192 words, of 4 bytes each
abbrev pub words_after : List ℕ → Result Argument Stop → Result Argument Stop
words_after b r = after (number_after b r) (λ h. body_after b h 8192 (4 * h.count))

-- at most 65,536 bytes
abbrev pub bytes_after : List ℕ → Result Argument Stop → Result Argument Stop
bytes_after b r = after (number_after b r) (λ h. body_after b h 65536 h.count)

-- a number that is at most 65,536: steps, after which no bytes follow
abbrev pub steps_after : List ℕ → Result Argument Stop → Result Argument Stop
steps_after b r = after (number_after b r) (λ h. body_after b h 65536 0)

-- an argument ends within the bytes, after the request's own byte, and its count has 32 bits
pub record Inside (b : List ℕ) (a : Argument) : Type 0 where
  pub ends : a.end ≤ length b
  pub begun : 0 < a.end
  pub small : a.count < 4294967296

-- what is read is the argument that is there, or why there is none
pub record Reads (b : List ℕ) (there r : Result Argument Stop) : Type 0 where
  pub is : r ≡ there
  pub inside : IfOk r (Inside b)
