-- Whether bytes are a key, reckoned.
use Prim.Native.Nat.{ℕ}
use mathlib.Core.Path.{◌≡◌, refl}
use mathlib.Core.Bool.{Bool, false, ◌&&◌}
use mathlib.Core.List.{List}
use lib.Dec.{ltb}
use Rattle.std.specs.Prelude.{Result, Ok, Err}
use Rattle.rules.specs.Lists.{firsts}
use Rattle.rules.specs.Answers.{Says}
use Rattle.rules.proofs.Answers.{says_same}
use Rattle.rules.proofs.Tested.{says_below}
use Rattle.trees.specs.Graph.{Closed}
use Rattle.sheet.specs.Format.{row_count_of}
use Rattle.sheet.specs.Points.{PointsNowhere}
use Rattle.sheet.specs.Refusals.{Readable}
use Rattle.walks.specs.Key.{walk_all}
use Rattle.keys.specs.Sheets.{sheet_graph, itself, IsKey}
use Rattle.sheet.proofs.Within.{input_within}
use Rattle.sheet.specs.Front.{sheet_list, FrontSays, front_rows}
use Rattle.sheet.specs.declared.fault.Fault.{Fault}
use Rattle.keytest.proofs.Answering.{key_refused, key_unique}
use Rattle.checking.proofs.Deciding.{says_both, same_list, says_list}
use Rattle.checking.proofs.Soundness.{are_distinct, says_distinct}
use Rattle.examples.proofs.Fronts.{front_of, front_reckoned}
use Rattle.examples.proofs.Wires.{are_plain, says_plain}

-- some row, no wire, no two rows of the same tree, and the walk's order
unfoldable pub rows_are_key : List ℕ → Bool
rows_are_key b =
    ltb 0 (row_count_of b)
    && (are_plain (sheet_graph b) (row_count_of b)
    && (are_distinct (sheet_graph b) (row_count_of b)
    && same_list (walk_all (sheet_graph b) (row_count_of b) 0) (firsts itself (row_count_of b))))

unfoldable pub key_behind : List ℕ → Result ℕ Fault → Bool
key_behind b (Err f) = false
key_behind b (Ok rows) = rows_are_key b

-- a sheet that is not refused, beside no store
unfoldable pub key_answer : List ℕ → Bool
key_answer b = key_behind b (front_of b)

says_rows : (b : List ℕ) → Readable b → (PointsNowhere b 0 → ⊥) → Says (IsKey b) (rows_are_key b)
unfolding rows_are_key sheet_graph
says_rows b readable leads =
    says_same (
      (λ p. record { readable = readable; some = p.0; leads = leads; plain = p.1.0; distinct = p.1.1.0; ordered = p.1.1.1 }),
      (λ k. (k.some, (k.plain, (k.distinct, k.ordered)))),
    )
    (says_both (says_below 0 (row_count_of b))
    (λ s. says_both (says_plain (sheet_graph b) (row_count_of b))
    (λ p. says_both (says_distinct (sheet_graph b) (row_count_of b) closed)
    (λ d. says_list (walk_all (sheet_graph b) (row_count_of b) 0) (firsts itself (row_count_of b))))))
  where
    closed : Closed (sheet_graph b) (row_count_of b)
    closed = record { within = λ u j h l. input_within b leads u j h l }

pub key_reckoned : (b : List ℕ) → Says (IsKey b) (key_answer b)
unfolding key_answer key_behind
key_reckoned b = go (front_of b) (front_reckoned b)
  where
    go : (r : Result ℕ Fault) → FrontSays (sheet_list b) b 0 r → Says (IsKey b) (key_behind b r)
    go (Err f) s = key_refused b (Err f) s f refl
    go (Ok rows) (front_rows c r l m) = says_rows b r l

-- what the contract of the key test allows is this answer and no other
pub record KeyTested (b : List ℕ) (answer : Bool) : Type 0 where
  pub allowed : Says (IsKey b) answer
  pub only : (t : Bool) → Says (IsKey b) t → t ≡ answer

pub computed_key_test : {b : List ℕ} {answer : Bool} → key_answer b ≡ answer → KeyTested b answer
computed_key_test {b} e =
    let s = rw e at (key_reckoned b) in
    record { allowed = s; only = λ t k. key_unique k s }
