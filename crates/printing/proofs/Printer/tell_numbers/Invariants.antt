-- A write that has failed is not forgotten.
use Rattle.std.proofs.Common.{IsOk}
use Rattle.printing.proofs.Printer.tell_numbers.Given as goal

abbrev pub invariant-loop-n : goal.invariant-loop-n
invariant-loop-n g l = IsOk l.self.so_far → IsOk l.initial.self.so_far
