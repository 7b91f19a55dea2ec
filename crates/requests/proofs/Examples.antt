-- Requests read, computed: whole, cut in the count and in the run, too long, unknown; the words of a run, and its signed numbers.
use Prim.Native.Nat.{ℕ}
use mathlib.Core.Path.{◌≡◌, refl}
use mathlib.Core.List.{List, [], ◌∷◌}
use lib.ListN.{take}
use lib.IntN.{pos, negsuc}
use Rattle.std.specs.Prelude.{Result, Ok, Err}
use Rattle.rules.specs.Lists.{firsts}
use Rattle.sheet.specs.Bytes.{be16, be32}
use Rattle.requests.specs.declared.argument.Stop.{Stop}
use Rattle.requests.specs.declared.argument.Stop.TheVariants.{More, Long, What}
use Rattle.requests.specs.declared.argument.Argument.{Argument}
use Rattle.requests.specs.Arguments.{stopped, number_after, body_after}
use Rattle.requests.specs.Requests.{store_of, bytes_of, sheet_of, list_of, row_of, numbers_of, channels_of, values_of, output_of, result_of, place_asked, steps_of, last_of, request_of}
use Rattle.requests.specs.Runs.{words_in, bytes_in, signed_of, signed_in}

there : (at count end : ℕ) → Result Argument Stop
there a c e = Ok (record { at = a; count = c; end = e })

-- what an argument holds, if it is there
read : {A : Type 0} → (Argument → List A) → Result Argument Stop → List A
read f (Ok a) = f a
read f (Err s) = []

-- a check of one word, and what follows is not looked at
one : List ℕ
one = 1 ∷ 0 ∷ 0 ∷ 0 ∷ 1 ∷ 0 ∷ 6 ∷ 0 ∷ 2 ∷ 9 ∷ []

-- a reader over two bytes, from place 1, three steps
steps : List ℕ
steps = 8 ∷ 0 ∷ 0 ∷ 0 ∷ 2 ∷ 7 ∷ 5 ∷ 0 ∷ 0 ∷ 0 ∷ 1 ∷ 0 ∷ 0 ∷ 0 ∷ 3 ∷ []

-- a reader over no bytes, from place 0, so many steps
stepping : (a b c d : ℕ) → List ℕ
stepping a b c d = 8 ∷ 0 ∷ 0 ∷ 0 ∷ 0 ∷ 0 ∷ 0 ∷ 0 ∷ 0 ∷ a ∷ b ∷ c ∷ d ∷ []

-- a run over no words, row 0, one channel, values 1 and -2, room for one output
ticking : List ℕ
ticking = 12 ∷ 0 ∷ 0 ∷ 0 ∷ 0 ∷ 0 ∷ 0 ∷ 0 ∷ 0 ∷ 0 ∷ 0 ∷ 0 ∷ 1 ∷ 0 ∷ 0 ∷ 0 ∷ 2 ∷ 0 ∷ 0 ∷ 0 ∷ 1 ∷ 255 ∷ 255 ∷ 255 ∷ 254 ∷ 0 ∷ 0 ∷ 0 ∷ 1 ∷ 0 ∷ 0 ∷ 0 ∷ 9 ∷ []

-- a conversion over no words, a sheet of two bytes, a buffer of one
converting : List ℕ
converting = 13 ∷ 0 ∷ 0 ∷ 0 ∷ 0 ∷ 0 ∷ 0 ∷ 0 ∷ 2 ∷ 7 ∷ 5 ∷ 0 ∷ 0 ∷ 0 ∷ 1 ∷ 9 ∷ []

asked : (request_of one ≡ there 5 1 9)
    × (request_of steps ≡ there 15 3 15)
    × (request_of [] ≡ stopped More)
    × (request_of (1 ∷ 0 ∷ 0 ∷ 0 ∷ []) ≡ stopped More)
    × (request_of (1 ∷ 0 ∷ 0 ∷ 0 ∷ 1 ∷ 0 ∷ 6 ∷ 0 ∷ []) ≡ stopped More)
    × (request_of (1 ∷ 0 ∷ 0 ∷ 32 ∷ 0 ∷ []) ≡ stopped More)
    × (request_of (1 ∷ 0 ∷ 0 ∷ 32 ∷ 1 ∷ []) ≡ stopped Long)
    × (request_of (4 ∷ 0 ∷ 1 ∷ 0 ∷ 0 ∷ []) ≡ stopped More)
    × (request_of (4 ∷ 0 ∷ 1 ∷ 0 ∷ 1 ∷ []) ≡ stopped Long)
    × (request_of (stepping 0 1 0 0) ≡ there 13 65536 13)
    × (request_of (stepping 0 1 0 1) ≡ stopped Long)
    × (request_of (8 ∷ 0 ∷ 0 ∷ 0 ∷ 0 ∷ 0 ∷ 0 ∷ 0 ∷ 0 ∷ 255 ∷ 255 ∷ 255 ∷ []) ≡ stopped More)
    × (request_of (0 ∷ []) ≡ stopped What)
    × (request_of (9 ∷ 0 ∷ 0 ∷ 0 ∷ 1 ∷ []) ≡ stopped More)
    × (request_of (9 ∷ 0 ∷ 0 ∷ 0 ∷ 0 ∷ []) ≡ there 5 0 5)
    × (request_of (10 ∷ 0 ∷ 0 ∷ 0 ∷ 0 ∷ 0 ∷ 0 ∷ 0 ∷ 0 ∷ 0 ∷ 0 ∷ 0 ∷ []) ≡ stopped More)
    × (request_of (10 ∷ 0 ∷ 0 ∷ 0 ∷ 0 ∷ 0 ∷ 0 ∷ 0 ∷ 0 ∷ 0 ∷ 0 ∷ 0 ∷ 0 ∷ []) ≡ there 13 0 13)
    × (request_of (11 ∷ 0 ∷ 0 ∷ 0 ∷ 0 ∷ 0 ∷ 0 ∷ 0 ∷ []) ≡ stopped More)
    × (request_of (11 ∷ 0 ∷ 0 ∷ 0 ∷ 0 ∷ 0 ∷ 0 ∷ 0 ∷ 0 ∷ []) ≡ there 9 0 9)
    × (request_of ticking ≡ there 29 1 33)
    × (request_of (take 32 ticking) ≡ stopped More)
    × (request_of converting ≡ there 15 1 16)
    × (request_of (take 15 converting) ≡ stopped More)
    × (request_of (14 ∷ []) ≡ stopped What)
unfolding there one steps stepping ticking converting firsts be16 be32 number_after body_after store_of bytes_of sheet_of list_of row_of numbers_of channels_of values_of output_of result_of place_asked steps_of last_of request_of
asked = (refl, refl, refl, refl, refl, refl, refl, refl, refl, refl, refl, refl, refl, refl, refl, refl, refl, refl, refl, refl, refl, refl, refl, refl)

held : (read (words_in one) (store_of one) ≡ 393218 ∷ []) × (read (bytes_in steps) (bytes_of steps) ≡ 7 ∷ 5 ∷ [])
unfolding read one steps firsts be16 be32 number_after body_after store_of bytes_of
held = (refl, refl)

signed : (read (signed_in ticking) (values_of ticking) ≡ pos 1 ∷ negsuc 1 ∷ [])
    × (signed_of 2147483647 ≡ pos 2147483647)
    × (signed_of 2147483648 ≡ negsuc 2147483647)
    × (signed_of 4294967295 ≡ negsuc 0)
unfolding read ticking signed_of firsts be16 be32 number_after body_after store_of row_of channels_of values_of
signed = (refl, refl, refl, refl)
