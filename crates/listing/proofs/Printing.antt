-- What is put for an input: `long`, or the text of the walk.
use Prim.Native.Nat.{ℕ, ◌≤◌, ◌<◌}
use native.Mathlib.Omega.{arith}
use mathlib.Core.List.{List}
use lib.ListN.{length}
use Rattle.rules.specs.Writes.{Wrote}
use Rattle.rules.proofs.Writes.{wrote_length, wrote_over}
use Rattle.listing.specs.Lines.{long_line}
use Rattle.listing.specs.Prints.{most_bytes, most_text, empty_store, no_answers, prints_long, prints_walk, Printed}
use Rattle.listing.specs.Walked.{Walked}

pub long_within : {out out' : List ℕ} {to : ℕ} → most_text ≤ length out → Wrote out 0 long_line out' to → to ≤ length out'
long_within {out} {out'} {to} r s = omega (arith, s.next, wrote_length out 0 long_line out' to s)

pub printed_long : {input out out' : List ℕ} {to : ℕ} → most_bytes < length input → most_text ≤ length out → Wrote out 0 long_line out' to → Printed input out out' to
printed_long {input} {out} {out'} {to} l r s =
    record { text = long_line; says = prints_long l; there = wrote_over out long_line out' to s (omega arith); long = omega (arith, s.next) }

module _ {input out out' w a : List ℕ} {to : ℕ} (s : Walked input empty_store no_answers out w a out' to) where
  pub walk_within : to ≤ length out'
  walk_within = omega (arith, s.wrote.next, s.fits, wrote_length out 0 s.text out' to s.wrote)

  pub printed_walk : length input ≤ most_bytes → Printed input out out' to
  printed_walk l =
      record {
        text = s.text;
        says = prints_walk l s.ran;
        there = wrote_over out s.text out' to s.wrote s.fits;
        long = omega (arith, s.wrote.next);
      }
