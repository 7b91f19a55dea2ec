-- What the test of a sheet's wires answers: 14, 15, or where the wires of each row lead.
use Rattle.std.specs.Prelude.{ℕ, ◌<◌, ◌≡◌, Bool, true, false, List, [], get_or, Option, Some, None, Result, Ok, Err, ⊤}
use Rattle.sheet.specs.Format.{count_at, start}
use Rattle.wires.specs.Wires.{Wire, follow, through}
use Rattle.rows.specs.Named.{named, ShortWire, SheetWireLoop}
use Rattle.wiring.specs.Jumps.{JumpsThere, Leaps, AllDoubled}
use Rattle.wiring.specs.declared.testing.WireFault.{WireFault}
use Rattle.wiring.specs.declared.testing.WireFault.TheVariants.{Short, Looped}

-- ---- inner

-- row i is a wire without exactly one input; or it is none, or one with one, and one wire leads to x
pub data LedSays (b : List ℕ) (i : ℕ) : Option ℕ → Type 0 where
  led_short : Wire (named b) i → (count_at b (start b i) ≡ 1 → ⊥) → LedSays b i None
  led_to : {x : ℕ} → (Wire (named b) i → count_at b (start b i) ≡ 1) → x ≡ follow (named b) 1 i → x < 65536 → LedSays b i (Some x)

-- some wire of the sheet has not exactly one input; or none, and the jumps are filled
pub data FillSays (b : List ℕ) (rows : ℕ) (jumps : List ℕ) : Bool → Type 0 where
  fill_short : ShortWire b → FillSays b rows jumps false
  fill_done : (ShortWire b → ⊥) → JumpsThere rows jumps → Leaps (named b) rows 1 jumps → FillSays b rows jumps true

-- some jump is a wire; or none
pub data EndSays (b : List ℕ) (rows : ℕ) (jumps : List ℕ) : Bool → Type 0 where
  some_wire : (i : ℕ) → i < rows → Wire (named b) (get_or jumps i 0) → EndSays b rows jumps false
  no_wire : ((i : ℕ) → i < rows → Wire (named b) (get_or jumps i 0) → ⊥) → EndSays b rows jumps true

-- all passes were made, and what the ends say
pub record Followed (b : List ℕ) (rows : ℕ) (old new : List ℕ) (r : Bool) : Type 0 where
  pub there : JumpsThere rows new
  pub doubled : AllDoubled rows old new
  pub says : EndSays b rows new r

-- ---- the answer

-- the jumps say where the wires of each row lead to, in the sheet's own numbers, and none leads to a wire
pub record Ends (b : List ℕ) (rows : ℕ) (jumps : List ℕ) : Type 0 where
  pub there : JumpsThere rows jumps
  pub ends : (i : ℕ) → i < rows → get_or jumps i 0 ≡ through (named b) i
  pub plain : (i : ℕ) → i < rows → Wire (named b) (through (named b) i) → ⊥

-- 14 goes before 15
pub data WiresSay (b : List ℕ) (rows : ℕ) (jumps : List ℕ) : Result ⊤ WireFault → Type 0 where
  says_short : ShortWire b → WiresSay b rows jumps (Err Short)
  says_looped : (ShortWire b → ⊥) → SheetWireLoop b → WiresSay b rows jumps (Err Looped)
  says_fine : (ShortWire b → ⊥) → (SheetWireLoop b → ⊥) → Ends b rows jumps → WiresSay b rows jumps (Ok tt)

-- the number of the table that each answer has; none has values
abbrev pub wires_number : Result ⊤ WireFault → ℕ
wires_number (Ok fine) = 0
wires_number (Err Short) = 14
wires_number (Err Looped) = 15

abbrev pub wires_values : Result ⊤ WireFault → List ℕ
wires_values (Ok fine) = []
wires_values (Err Short) = []
wires_values (Err Looped) = []
