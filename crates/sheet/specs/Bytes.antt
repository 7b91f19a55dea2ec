-- Big-endian numbers of a run of bytes. A byte past the end reads as 0.
use Rattle.std.specs.Prelude.{ℕ, ◌+◌, ◌*◌, List, get_or}

abbrev pub byte_at : List ℕ → ℕ → ℕ
byte_at b at = get_or b at 0

unfoldable pub be16 : List ℕ → ℕ → ℕ
be16 b at = byte_at b at * 256 + byte_at b (at + 1)

unfoldable pub be32 : List ℕ → ℕ → ℕ
be32 b at = be16 b at * 65536 + be16 b (at + 2)
