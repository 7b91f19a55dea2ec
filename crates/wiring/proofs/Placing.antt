-- A row of a readable sheet at its place: its bytes are there, and what is read of it is the row of the sheet's own graph.
use Prim.Native.Nat.{ℕ, ◌+◌, ◌*◌, ◌≤◌, ◌<◌}
use native.Mathlib.Omega.{arith}
use native.Mathlib.Decide.{ℕ_discrete}
use mathlib.Core.Path.{◌≡◌, sym, ap, ◌∙◌}
use mathlib.Core.Bool.{Bool, true, false}
use mathlib.Core.List.{List}
use lib.ListN.{length, get_or}
use Rattle.rules.specs.Answers.{Says, says_yes, says_no}
use Rattle.rules.proofs.Answers.{said_yes, said_no}
use Rattle.sheet.specs.Bytes.{byte_at, be32}
use Rattle.sheet.specs.Format.{label_at, count_at, input_at, row_count_of, start}
use Rattle.sheet.proofs.Starts.{row_inside}
use Rattle.wires.specs.Wires.{is_wire, Wire}
use Rattle.wires.proofs.Following.{follow_none, follow_wire, follow_plain}
use Rattle.rows.specs.Named.{named, ShortWire}
use Rattle.rows.proofs.Views.{none_astray}
use Rattle.rows.proofs.Naming.{Straight, named_label, named_input}
use Rattle.wiring.specs.Placed.{Placed}
use Rattle.wiring.specs.Told.{LedSays, led_short, led_to}
use Rattle.std.specs.Prelude.{Some, None}

module _ (b table : List ℕ) (p : Placed b table) where
  pub placed_few : length table ≤ 1024
  placed_few = omega (arith, p.numbered, p.readable.few)

  -- every input points somewhere, and with no short wire each wire has one
  pub placed_straight : (ShortWire b → ⊥) → Straight b (length table) p.stored
  placed_straight none =
      rw p.numbered
      (record {
        few = omega (arith, p.readable.few);
        points = λ i j l k. none_astray b p.stored i j p.leads l k;
        one = λ i l w. one i l w (ℕ_discrete (count_at b (start b i)) 1);
      })
    where
      one : (i : ℕ) → i < row_count_of b → Wire (named b) i → Dec (count_at b (start b i) ≡ 1) → count_at b (start b i) ≡ 1
      one i l w (yes e) = e
      one i l w (no e) = absurd (none (record { row = i; of_sheet = l; wire = w; counts = e }))

  module _ (i : ℕ) (l : i < length table) (at : ℕ) (e : at ≡ get_or table i 0) where
    place : at ≡ start b i
    place = e ∙ p.places i l

    whole : at + 5 + 2 * count_at b at ≤ length b
    whole = omega (arith, row_inside b i (row_count_of b) at place (omega (arith, p.numbered)), p.readable.whole)

    pub placed_label : at + 4 ≤ length b
    placed_label = omega (arith, whole)

    pub placed_count : at + 4 < length b
    placed_count = omega (arith, whole)

    -- ---- the label

    pub wire_told : (label : ℕ) (r : Bool) → label ≡ be32 b at → r ≡ is_wire label → Says (Wire (named b) i) r
    wire_told label r q t = go r (t ∙ ap is_wire (q ∙ ap (label_at b) place ∙ sym (named_label b i (omega (arith, placed_few)))))
      where
        go : (r : Bool) → r ≡ is_wire ((named b).label i) → Says (Wire (named b) i) r
        go true t = says_yes (record { is = sym t })
        go false t = says_no (λ x. let z : ◌≡◌ {A = ℕ} 0 1 = cc (t, x.is) in omega arith)

    -- ---- a wire's inputs

    module _ (w : Wire (named b) i) (count : ℕ) (c : count ≡ byte_at b (at + 4)) where
      pub wire_short : (count ≡ 1 → ⊥) → LedSays b i None
      wire_short f = led_short w (λ q. f (c ∙ ap (count_at b) place ∙ q))

      pub wire_input : count ≡ 1 → at + 5 + 2 * 1 ≤ length b
      wire_input q = omega (arith, whole)

      pub wire_to : (x : ℕ) → count ≡ 1 → x ≡ input_at b at 0 → x < 65536 → LedSays b i (Some x)
      wire_to x q d h =
          led_to (λ v. sym (ap (count_at b) place) ∙ sym c ∙ q)
          (d ∙ ap (λ y. input_at b y 0) place ∙ sym (named_input b i 0) ∙ sym (follow_wire (named b) 0 i w ∙ follow_none (named b) ((named b).input i 0)))
          h

  pub wire_is : (i : ℕ) (r : Bool) → Says (Wire (named b) i) r → r ≡ true → Wire (named b) i
  wire_is i r s q = said_yes (rw q at s)

  -- a row that is no wire
  pub plain_to : (i : ℕ) → i < length table → (r : Bool) → Says (Wire (named b) i) r → r ≡ false → LedSays b i (Some i)
  plain_to i l r s q =
      let no : Wire (named b) i → ⊥ = said_no (rw q at s) in
      led_to (λ w. absurd (no w)) (sym (follow_plain (named b) 1 i no)) (omega (arith, placed_few))
