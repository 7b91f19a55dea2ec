-- What the sheet reader answers, as a number and a place.
use Prim.Native.Nat.{ℕ}
use mathlib.Core.Path.{◌≡◌, refl}
use mathlib.Core.List.{List}
use Rattle.std.specs.Prelude.{Result, Ok, Err}
use Rattle.sheet.specs.Read.{read_sheet, number_of, fault_of}
use Rattle.sheet.specs.declared.fault.Fault.{Fault}

module _ (b : List ℕ) (r : Result ℕ Fault) (e : r ≡ read_sheet b) where
  module _ (rows : ℕ) (q : r ≡ Ok rows) where
    pub read_number : 0 ≡ number_of (read_sheet b)
    read_number = rw (← e, q) refl

    pub read_none : 0 ≡ fault_of (read_sheet b)
    read_none = rw (← e, q) refl

  module _ (f : Fault) (q : r ≡ Err f) where
    pub refused_as : f.number ≡ number_of (read_sheet b)
    refused_as = rw (← e, q) refl

    pub refused_at : f.place ≡ fault_of (read_sheet b)
    refused_at = rw (← e, q) refl
