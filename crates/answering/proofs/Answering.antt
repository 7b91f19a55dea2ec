-- What an operation says of the runs lent to it, it says of the runs in the request: they are the same.
use Prim.Native.Nat.{ℕ}
use mathlib.Core.Path.{◌≡◌}
use mathlib.Core.Bool.{Bool}
use mathlib.Core.List.{List}
use lib.ListN.{length, take}
use lib.IntN.{ℤ}
use denote.Ref.{Bor}
use Rattle.std.specs.Prelude.{Result}
use Rattle.rules.specs.Refusals.{First}
use Rattle.sheet.specs.Bundle.{next_length, NextSheet}
use Rattle.sheet.proofs.NextLength.{next_part}
use Rattle.sheet.specs.Read.{read_sheet}
use Rattle.sheet.specs.declared.fault.Fault.{Fault}
use Rattle.checking.specs.Check.{check_refusals}
use Rattle.inserting.specs.Insert.{InsertSays}
use Rattle.strict.specs.Strict.{StrictSays}
use Rattle.store.specs.Layout.{room}
use Rattle.mender.specs.Says.{MendSays}
use Rattle.mender.specs.declared.mending.Mended.{Mended}
use Rattle.running.specs.Run.{RunSays}
use Rattle.converts.specs.Convert.{ConvertSays}
use Rattle.converts.specs.declared.outcome.Converted.{Converted}
use Rattle.inserting.specs.declared.insertion.Inserted.{Inserted}
use Rattle.checking.specs.declared.look.Answer.{Answer}
use Rattle.keys.specs.Sheets.{KeySays}
use Rattle.keying.specs.Written.{WriteSays}
use Rattle.keying.specs.declared.Written.{Written}
use Rattle.requests.specs.Runs.{words_in}
use Rattle.requests.specs.declared.asked.CompareAsked.{CompareAsked}
use Rattle.requests.specs.declared.asked.PartAsked.{PartAsked}
use Rattle.answering.specs.Answered.{SaysSame, CompareSays, SaysPart, PartSays}

pub check_said : {w run : List ℕ} {r : ℕ} → w ≡ run → First (check_refusals w) r → First (check_refusals run) r
check_said e h = rw e at h

module _ {w store : List ℕ} (e : w ≡ store) where
  pub insert_said : {s sheet a list w' a' : List ℕ} {r : Inserted} → s ≡ sheet → a ≡ list → InsertSays w s a r w' a' → InsertSays store sheet list r w' a'
  insert_said f g h = rw (e, f, g) at h

  pub strict_said : {s sheet a list w' a' : List ℕ} {r : Inserted} → s ≡ sheet → a ≡ list → StrictSays w s a r w' a' → StrictSays store sheet list r w' a'
  strict_said f g h = rw (e, f, g) at h

  pub mend_said : {a list w' a' : List ℕ} {r : Mended} → a ≡ list → MendSays room w a r w' a' → MendSays room store list r w' a'
  mend_said g h = rw (e, g) at h

  pub write_said : {k buffer k' : List ℕ} {row : ℕ} {r : Written} → k ≡ buffer → WriteSays w row k r k' → WriteSays store row buffer r k'
  write_said f h = rw (e, f) at h

  pub run_said : {row channels r : ℕ} {v values o output o' : List ℤ} → v ≡ values → o ≡ output → RunSays w row channels v o r o' → RunSays store row channels values output r o'
  run_said f g h = rw (e, f, g) at h

  pub convert_said : {s sheet k buffer k' : List ℕ} {r : Converted} → s ≡ sheet → k ≡ buffer → ConvertSays w s k r k' → ConvertSays store sheet buffer r k'
  convert_said f g h = rw (e, f, g) at h

pub read_said : {s run : List ℕ} {r : Result ℕ Fault} → s ≡ run → r ≡ read_sheet s → r ≡ read_sheet run
read_said e h = rw e at h

pub key_said : {s run : List ℕ} {t : Bool} → s ≡ run → KeySays s t → KeySays run t
key_said e h = rw e at h

pub compare_said : (b : List ℕ) (a : CompareAsked) {w v : List ℕ} {r : Answer} → w ≡ words_in b a.store → v ≡ words_in b a.second → SaysSame w a.row.count v a.other.count r → CompareSays b a r
compare_said b a e f h = record { says = rw (e, f) at h }

pub part_said : (b : List ℕ) (a : PartAsked) {w : List ℕ} {r : Answer} → w ≡ words_in b a.store → SaysPart w a.part.count a.whole.count r → PartSays b a r
part_said b a e h = record { says = rw e at h }

pub next_said : {bundle part : Bor (List ℕ)} {run : List ℕ} → bundle.now ≡ run → NextSheet bundle part → length part.now ≡ next_length run
next_said {bundle} {part} {run} e n =
    let q : part.now ≡ take (next_length run) run = rw e at n.bytes in
    next_part run part.now q
