-- The starred examples of 01 as one theorem, in its order and words, each closed by computing. A line on an operation says what its
-- contract allows: this outcome, memory after it included, and no other.
use Prim.Native.Nat.{ℕ, ◌*◌}
use mathlib.Core.Path.{refl}
use mathlib.Core.Bool.{true, false}
use mathlib.Core.List.{List, [], ◌∷◌, ◌++◌}
use lib.ListN.{replicate}
use Rattle.rules.specs.Lists.{firsts, in_room}
use Rattle.rules.specs.Writes.{over_front}
use Rattle.trees.specs.Agreement.{Agree, SameTree}
use Rattle.trees.proofs.Examples.{three_rows, two_counts}
use Rattle.sheet.specs.Bytes.{be16, be32}
use Rattle.sheet.specs.Format.{start}
use Rattle.sheet.specs.Read.{limit_of, row_fits, rows_from, by_limit, read_sheet}
use Rattle.sheet.specs.Points.{points_to, inputs_point, rows_point}
use Rattle.sheet.proofs.Examples.{sheet_a, sheet_b, sheet_d, empty_sheet}
use Rattle.store.specs.Layout.{row_word, capacity_of, store_graph}
use Rattle.store.specs.Rows.{words_of_row}
use Rattle.store.proofs.Examples.{one_hold, two_holds}
use Rattle.wires.specs.Wires.{follow, skipping}
use Rattle.rows.specs.Joined.{leads_to, drawn, joined}
use Rattle.rows.specs.Named.{named}
use Rattle.rows.proofs.Examples.{three_stored, of_store}
use Rattle.numbering.specs.Numbers.{trees_below, row_number}
use Rattle.writing.specs.After.{is_new, new_row, rows_put, store_written, answer_of}
use Rattle.walks.specs.Walk.{has, meet, meet_inputs, visit, walk}
use Rattle.walks.specs.Key.{place_of, keyed}
use Rattle.keys.specs.Bytes.{bytes16, bytes32, inputs_bytes, row_bytes, rows_bytes, sheet_bytes}
use Rattle.keys.specs.Sheets.{sheet_graph}
use Rattle.checking.proofs.Deciding.{all_below, lowest, same_list}
use Rattle.checking.proofs.Rounds.{goes_with, round_of, next_classes, still_so, settled, classes_of}
use Rattle.examples.proofs.Agreeing.{are_alike, agree_at, agrees, agrees_not, two_trees}
use Rattle.checking.proofs.Soundness.{input_is_shaped, row_is_shaped, is_shaped, are_own, are_distinct, is_sound}
use Rattle.examples.proofs.Checks.{check_number, Checks, computed_check}
use Rattle.examples.proofs.Fronts.{front_astray, front_pointed, front_read, front_of}
use Rattle.examples.proofs.Wires.{are_plain, any_below, short_at, some_short, some_looped}
use Rattle.examples.proofs.Inserting.{refused_outcome, done_outcome, back_outcome, behind_outcome, insert_outcome, Inserts, computed_insert}
use Rattle.examples.proofs.KeyTesting.{rows_are_key, key_behind, key_answer, KeyTested, computed_key_test}
use Rattle.converts.specs.Result.{converted}
use Rattle.examples.proofs.Converting.{reached_from, risen, reached_rows, converted_sheet, is_convertible, Converts, computed_convert}
use Rattle.examples.proofs.KeyWriting.{write_number, write_outcome, WritesKey, computed_key}

-- ---- stores: words past the used rows may hold anything, here 7

-- no row in use, and room for so many
abbrev empty_store : ℕ → List ℕ
empty_store rows = 0 ∷ replicate (6 * rows) 7

-- the one-turn hold, and room for one row more
abbrev hold_stored : List ℕ
hold_stored = one_hold ++ replicate 6 7

-- D's rows
abbrev d_stored : List ℕ
d_stored =
    3
    ∷ 196608 ∷ 2 ∷ 1 ∷ 2 ∷ 0 ∷ 0
    ∷ 65537 ∷ 0 ∷ 0 ∷ 0 ∷ 0 ∷ 0
    ∷ 131112 ∷ 0 ∷ 0 ∷ 0 ∷ 0 ∷ 0 ∷ []

-- channel 1, constant 40, their difference, and room for one row more
abbrev three_roomy : List ℕ
three_roomy = three_stored ++ replicate 6 7

-- the same, with constant 40 less channel 1
abbrev four_stored : List ℕ
four_stored =
    4
    ∷ 65537 ∷ 0 ∷ 0 ∷ 0 ∷ 0 ∷ 0
    ∷ 131112 ∷ 0 ∷ 0 ∷ 0 ∷ 0 ∷ 0
    ∷ 196608 ∷ 2 ∷ 0 ∷ 1 ∷ 0 ∷ 0
    ∷ 196608 ∷ 2 ∷ 1 ∷ 0 ∷ 0 ∷ 0 ∷ []

-- two rows of one label, one with no input and one with itself
abbrev counts_stored : List ℕ
counts_stored = 2 ∷ 393216 ∷ 0 ∷ 0 ∷ 0 ∷ 0 ∷ 0 ∷ 393216 ∷ 1 ∷ 1 ∷ 0 ∷ 0 ∷ 0 ∷ []

-- ---- sheets

-- an old sheet: one row, the difference with inputs 32769 and 32768 (of_store is the one with 32768 and 32769)
abbrev turned_difference : List ℕ
turned_difference = 0 ∷ 0 ∷ 0 ∷ 12 ∷ 1 ∷ 0 ∷ 1 ∷ 0 ∷ 3 ∷ 0 ∷ 0 ∷ 2 ∷ 128 ∷ 1 ∷ 128 ∷ 0 ∷ []

-- D with the two inputs of its row 0 turned
abbrev turned_d : List ℕ
turned_d =
    0 ∷ 0 ∷ 0 ∷ 22 ∷ 1 ∷ 0 ∷ 3
    ∷ 0 ∷ 3 ∷ 0 ∷ 0 ∷ 2 ∷ 0 ∷ 2 ∷ 0 ∷ 1
    ∷ 0 ∷ 1 ∷ 0 ∷ 1 ∷ 0
    ∷ 0 ∷ 2 ∷ 0 ∷ 40 ∷ 0 ∷ []

-- channel 1
abbrev lone_channel : List ℕ
lone_channel = 0 ∷ 0 ∷ 0 ∷ 8 ∷ 1 ∷ 0 ∷ 1 ∷ 0 ∷ 1 ∷ 0 ∷ 1 ∷ 0 ∷ []

-- the two rows of one label
abbrev counts_sheet : List ℕ
counts_sheet = 0 ∷ 0 ∷ 0 ∷ 15 ∷ 1 ∷ 0 ∷ 2 ∷ 0 ∷ 6 ∷ 0 ∷ 0 ∷ 0 ∷ 0 ∷ 6 ∷ 0 ∷ 0 ∷ 1 ∷ 0 ∷ 1 ∷ []

-- a buffer of so many bytes
abbrev buffer : ℕ → List ℕ
buffer bytes = replicate bytes 9

-- ---- the table. An insert: store, sheet, answer list; the number, the rows added, the place; store and answer list after

pub record StarredExamples : Type 0 where
  -- Sheet A, one-turn hold. Into an empty store: number 0, one added.
  pub a_into_empty : Inserts (empty_store 2) sheet_a (9 ∷ 9 ∷ []) 0 1 0 hold_stored (0 ∷ 9 ∷ [])
  -- Sheet B, two turns. Both rows get 0, one added. B is not a key; A is.
  pub b_into_empty : Inserts (empty_store 2) sheet_b (9 ∷ 9 ∷ 9 ∷ []) 0 1 0 hold_stored (0 ∷ 0 ∷ 9 ∷ [])
  pub b_no_key : KeyTested sheet_b false
  pub a_key : KeyTested sheet_a true
  -- Sheet D, channel 1 less constant 40. Into an empty store: 0, 1, 2. D is a key.
  pub d_into_empty : Inserts (empty_store 3) sheet_d (9 ∷ 9 ∷ 9 ∷ 9 ∷ []) 0 3 0 d_stored (0 ∷ 1 ∷ 2 ∷ 9 ∷ [])
  pub d_key : KeyTested sheet_d true
  -- A store whose rows 0, 1, 2 are channel 1, constant 40, their difference: row 2's key is D (26 bytes). A 25-byte buffer: 10.
  pub key_of_difference : WritesKey three_roomy 2 (buffer 26) 0 26 sheet_d
  pub short_buffer : WritesKey three_roomy 2 (buffer 25) 10 0 (buffer 25)
  -- Into that store, a one-row difference with inputs 32768 and 32769: 19, and so with inputs 32769 and 32768. Converted beside that store the
  -- first is D (26 bytes): numbers 2, 0 and 1, none added. The second is D with its two inputs turned: a new tree.
  pub converted_difference : Converts three_roomy of_store (buffer 27) 0 26 0 (sheet_d ++ (9 ∷ []))
  pub converted_turned : Converts three_roomy turned_difference (buffer 27) 0 26 0 (turned_d ++ (9 ∷ []))
  pub old_difference : Inserts three_roomy of_store (9 ∷ 9 ∷ []) 19 0 0 three_roomy (9 ∷ 9 ∷ [])
  pub old_turned : Inserts three_roomy turned_difference (9 ∷ 9 ∷ []) 19 0 0 three_roomy (9 ∷ 9 ∷ [])
  pub known_difference : Inserts three_roomy sheet_d (9 ∷ 9 ∷ 9 ∷ []) 0 0 0 three_roomy (2 ∷ 0 ∷ 1 ∷ [])
  pub new_difference : Inserts three_roomy turned_d (9 ∷ 9 ∷ 9 ∷ []) 0 1 0 four_stored (3 ∷ 0 ∷ 1 ∷ [])
  -- Empty sheet: done, none added, not a key.
  pub empty_into_empty : Inserts (empty_store 2) empty_sheet (9 ∷ []) 0 0 0 (empty_store 2) (9 ∷ [])
  pub empty_into_three : Inserts three_roomy empty_sheet [] 0 0 0 three_roomy []
  pub empty_no_key : KeyTested empty_sheet false
  -- Words 2, 393216, 1, 0, 0, 0, 0, 393216, 1, 1, 0, 0, 0: two one-turn holds, refused 2.
  pub two_holds_checked : Checks two_holds 2
  pub two_holds_insert : Inserts two_holds sheet_a (9 ∷ []) 2 0 0 two_holds (9 ∷ [])
  pub two_holds_key : WritesKey two_holds 0 (buffer 14) 2 0 (buffer 14)
  -- A store of 7 words holding the one-turn hold: B is done, a lone channel is 8.
  pub full_known : Inserts one_hold sheet_b (9 ∷ 9 ∷ []) 0 0 0 one_hold (0 ∷ 0 ∷ [])
  pub full_new : Inserts one_hold lone_channel (9 ∷ []) 8 0 0 one_hold (9 ∷ [])
  -- Rows hold to 1, hold to 2, channel: rows 0 and 1 agree at depth 0, not at 1.
  pub agree_at_zero : Agree 0 three_rows 0 three_rows 1
  pub part_at_one : Agree 1 three_rows 0 three_rows 1 → ⊥
  -- Equal label, 0 inputs and 1 input: two trees.
  pub counts_part : SameTree two_counts 0 two_counts 1 → ⊥
  pub counts_inserted : Inserts (empty_store 2) counts_sheet (9 ∷ 9 ∷ []) 0 2 0 counts_stored (0 ∷ 1 ∷ [])

pub table : StarredExamples
unfolding firsts in_room over_front be16 be32 start limit_of row_fits rows_from by_limit read_sheet points_to inputs_point rows_point row_word capacity_of store_graph words_of_row leads_to drawn joined follow skipping named are_plain any_below short_at some_short some_looped trees_below row_number is_new new_row rows_put store_written answer_of has meet meet_inputs visit walk place_of keyed bytes16 bytes32 inputs_bytes row_bytes rows_bytes sheet_bytes sheet_graph all_below lowest same_list goes_with round_of next_classes still_so settled classes_of are_alike agree_at input_is_shaped row_is_shaped is_shaped are_own are_distinct is_sound check_number front_astray front_pointed front_read front_of refused_outcome done_outcome back_outcome behind_outcome insert_outcome rows_are_key key_behind key_answer write_number write_outcome converted reached_from risen reached_rows converted_sheet is_convertible
table =
    record {
      a_into_empty = computed_insert refl;
      b_into_empty = computed_insert refl;
      b_no_key = computed_key_test refl;
      a_key = computed_key_test refl;
      d_into_empty = computed_insert refl;
      d_key = computed_key_test refl;
      key_of_difference = computed_key refl;
      short_buffer = computed_key refl;
      converted_difference = computed_convert refl refl refl refl refl refl refl;
      converted_turned = computed_convert refl refl refl refl refl refl refl;
      old_difference = computed_insert refl;
      old_turned = computed_insert refl;
      known_difference = computed_insert refl;
      new_difference = computed_insert refl;
      empty_into_empty = computed_insert refl;
      empty_into_three = computed_insert refl;
      empty_no_key = computed_key_test refl;
      two_holds_checked = computed_check refl;
      two_holds_insert = computed_insert refl;
      two_holds_key = computed_key refl;
      full_known = computed_insert refl;
      full_new = computed_insert refl;
      agree_at_zero = agrees 0 three_rows 0 three_rows 1 refl;
      part_at_one = agrees_not 1 three_rows 0 three_rows 1 refl;
      counts_part = two_trees 0 two_counts 0 two_counts 1 refl;
      counts_inserted = computed_insert refl;
    }

-- ---- where a sheet is wrong. Two rows of one label: the second starts at byte 12, its input count is byte 16, its input bytes 17 and 18

abbrev astray_input : List ℕ
astray_input = 0 ∷ 0 ∷ 0 ∷ 15 ∷ 1 ∷ 0 ∷ 2 ∷ 0 ∷ 6 ∷ 0 ∷ 0 ∷ 0 ∷ 0 ∷ 6 ∷ 0 ∷ 0 ∷ 1 ∷ 0 ∷ 2 ∷ []

abbrev five_inputs : List ℕ
five_inputs = 0 ∷ 0 ∷ 0 ∷ 15 ∷ 1 ∷ 0 ∷ 2 ∷ 0 ∷ 6 ∷ 0 ∷ 0 ∷ 0 ∷ 0 ∷ 6 ∷ 0 ∷ 0 ∷ 5 ∷ 0 ∷ 1 ∷ []

abbrev sheet_and_byte : List ℕ
sheet_and_byte = 0 ∷ 0 ∷ 0 ∷ 16 ∷ 1 ∷ 0 ∷ 2 ∷ 0 ∷ 6 ∷ 0 ∷ 0 ∷ 0 ∷ 0 ∷ 6 ∷ 0 ∷ 0 ∷ 1 ∷ 0 ∷ 1 ∷ 0 ∷ []

abbrev version_three : List ℕ
version_three = 0 ∷ 0 ∷ 0 ∷ 3 ∷ 3 ∷ 0 ∷ 0 ∷ []

abbrev many_rows : List ℕ
many_rows = 0 ∷ 0 ∷ 0 ∷ 3 ∷ 1 ∷ 4 ∷ 1 ∷ []

abbrev cut_sheet : List ℕ
cut_sheet = 0 ∷ 0 ∷ 0 ∷ 4 ∷ 1 ∷ 0 ∷ 0 ∷ []

pub record PlaceExamples : Type 0 where
  -- 3 at the length field, 4 at byte 4
  pub cut_short : Inserts (empty_store 2) cut_sheet [] 3 0 0 (empty_store 2) []
  pub version_three_lem : Inserts (empty_store 2) version_three [] 4 0 4 (empty_store 2) []
  -- 5 at the row count, at the row, or at the first byte left over
  pub many_rows_lem : Inserts (empty_store 2) many_rows [] 5 0 5 (empty_store 2) []
  pub five_inputs_lem : Inserts (empty_store 2) five_inputs (9 ∷ 9 ∷ []) 5 0 12 (empty_store 2) (9 ∷ 9 ∷ [])
  pub byte_left : Inserts (empty_store 2) sheet_and_byte (9 ∷ 9 ∷ []) 5 0 19 (empty_store 2) (9 ∷ 9 ∷ [])
  -- 6 at the input
  pub astray_input_lem : Inserts (empty_store 2) astray_input (9 ∷ 9 ∷ []) 6 0 17 (empty_store 2) (9 ∷ 9 ∷ [])
  -- and 0 where the store is refused, whatever the sheet has
  pub store_first : Inserts two_holds astray_input (9 ∷ 9 ∷ []) 2 0 0 two_holds (9 ∷ 9 ∷ [])

pub places : PlaceExamples
unfolding firsts in_room over_front be16 be32 start limit_of row_fits rows_from by_limit read_sheet points_to inputs_point rows_point row_word capacity_of store_graph words_of_row leads_to drawn joined follow skipping named are_plain any_below short_at some_short some_looped trees_below row_number is_new new_row rows_put store_written answer_of has meet meet_inputs visit walk place_of keyed bytes16 bytes32 inputs_bytes row_bytes rows_bytes sheet_bytes sheet_graph all_below lowest same_list goes_with round_of next_classes still_so settled classes_of are_alike agree_at input_is_shaped row_is_shaped is_shaped are_own are_distinct is_sound check_number front_astray front_pointed front_read front_of refused_outcome done_outcome back_outcome behind_outcome insert_outcome rows_are_key key_behind key_answer write_number write_outcome
places =
    record {
      cut_short = computed_insert refl;
      version_three_lem = computed_insert refl;
      many_rows_lem = computed_insert refl;
      five_inputs_lem = computed_insert refl;
      byte_left = computed_insert refl;
      astray_input_lem = computed_insert refl;
      store_first = computed_insert refl;
    }

-- ---- wires. A channel of setting 0 behind a wire, the wire drawn first; a wire that feeds itself; a wire of no inputs

abbrev wired_channel : List ℕ
wired_channel = 0 ∷ 0 ∷ 0 ∷ 15 ∷ 1 ∷ 0 ∷ 2 ∷ 0 ∷ 7 ∷ 0 ∷ 0 ∷ 1 ∷ 0 ∷ 1 ∷ 0 ∷ 1 ∷ 0 ∷ 0 ∷ 0 ∷ []

abbrev self_wire : List ℕ
self_wire = 0 ∷ 0 ∷ 0 ∷ 10 ∷ 1 ∷ 0 ∷ 1 ∷ 0 ∷ 7 ∷ 0 ∷ 0 ∷ 1 ∷ 0 ∷ 0 ∷ []

abbrev open_wire : List ℕ
open_wire = 0 ∷ 0 ∷ 0 ∷ 8 ∷ 1 ∷ 0 ∷ 1 ∷ 0 ∷ 7 ∷ 0 ∷ 0 ∷ 0 ∷ []

-- a store whose one row is a wire that feeds itself, with room for one more
abbrev wire_stored : List ℕ
wire_stored = 1 ∷ 458752 ∷ 1 ∷ 0 ∷ 0 ∷ 0 ∷ 0 ∷ 0 ∷ 0 ∷ 0 ∷ 0 ∷ 0 ∷ 0 ∷ []

abbrev channel_stored : List ℕ
channel_stored = 1 ∷ 65536 ∷ 0 ∷ 0 ∷ 0 ∷ 0 ∷ 0 ∷ 7 ∷ 7 ∷ 7 ∷ 7 ∷ 7 ∷ 7 ∷ []

pub record WireExamples : Type 0 where
  -- a wire drawn first takes the next number for what it leads to, and the row written is that row
  pub wire_first : Inserts (empty_store 2) wired_channel (9 ∷ 9 ∷ []) 0 1 0 channel_stored (0 ∷ 0 ∷ [])
  -- beside a store that has the tree nothing is added
  pub wire_known : Inserts channel_stored wired_channel (9 ∷ 9 ∷ []) 0 0 0 channel_stored (0 ∷ 0 ∷ [])
  -- 14, and 15
  pub open_wire_lem : Inserts (empty_store 2) open_wire (9 ∷ []) 14 0 0 (empty_store 2) (9 ∷ [])
  pub self_wire_lem : Inserts (empty_store 2) self_wire (9 ∷ []) 15 0 0 (empty_store 2) (9 ∷ [])
  -- a store with a wire is not sound, and bytes with a wire are no key
  pub wire_stored_lem : Checks wire_stored 2
  pub wire_no_key : KeyTested wired_channel false

pub wires : WireExamples
unfolding firsts in_room over_front be16 be32 start limit_of row_fits rows_from by_limit read_sheet points_to inputs_point rows_point row_word capacity_of store_graph words_of_row leads_to drawn joined follow skipping named are_plain any_below short_at some_short some_looped trees_below row_number is_new new_row rows_put store_written answer_of has meet meet_inputs visit walk place_of keyed bytes16 bytes32 inputs_bytes row_bytes rows_bytes sheet_bytes sheet_graph all_below lowest same_list goes_with round_of next_classes still_so settled classes_of are_alike agree_at input_is_shaped row_is_shaped is_shaped are_own are_distinct is_sound check_number front_astray front_pointed front_read front_of refused_outcome done_outcome back_outcome behind_outcome insert_outcome rows_are_key key_behind key_answer write_number write_outcome
wires =
    record {
      wire_first = computed_insert refl;
      wire_known = computed_insert refl;
      open_wire_lem = computed_insert refl;
      self_wire_lem = computed_insert refl;
      wire_stored_lem = computed_check refl;
      wire_no_key = computed_key_test refl;
    }
