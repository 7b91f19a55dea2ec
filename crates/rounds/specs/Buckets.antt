-- Inner: the bucket of a row, a number below 2,048 made of its signature.
use Rattle.std.specs.Prelude.{ℕ, zero, suc, ◌+◌, ◌*◌, ◌/◌, ◌%◌, get_or}
use Rattle.rules.specs.Lists.{in_room, widest}
use Rattle.trees.specs.Graph.{Graph}

unfoldable pub packed : (ℕ → ℕ) → ℕ → ℕ
packed f zero = 0
packed f (suc n) = packed f n * 65536 + f n

-- of label, input count and the classes of the inputs
unfoldable pub bucket_of : (label count classes : ℕ) → ℕ
bucket_of label count classes =
    ((label * 415926535 + count * 271828183 + (classes % 4294967296 * 314159265 + classes / 4294967296 * 141421357)) / 262144) % 2048

-- the class of input j of row u
abbrev pub input_class : Graph → (ℕ → ℕ) → (u j : ℕ) → ℕ
input_class g c u j = c (g.input u j)

-- and zero past them
abbrev pub room_class : Graph → (ℕ → ℕ) → (u j : ℕ) → ℕ
room_class g c u j = get_or (in_room widest (input_class g c u) (g.count u)) j 0

-- the classes of all of them, in 64 bits
unfoldable pub classes_in : Graph → (ℕ → ℕ) → ℕ → ℕ
classes_in g c u = packed (room_class g c u) 4

-- of row u of a graph
unfoldable pub bucket_in : Graph → (ℕ → ℕ) → ℕ → ℕ
bucket_in g c u = bucket_of (g.label u) (g.count u) (classes_in g c u)
