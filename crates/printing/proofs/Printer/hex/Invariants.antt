-- A write that has failed is not forgotten.
use Rattle.std.proofs.Common.{IsOk}
use Rattle.printing.proofs.Printer.hex.Given as goal

abbrev pub invariant-loop-b : goal.invariant-loop-b
invariant-loop-b l = IsOk l.self.so_far → IsOk l.initial.self.so_far
