-- Keys, from the definitions, and readable sheets that are none: for their trees, for want of a row, and for their order.
use Prim.Native.Nat.{ℕ, zero, suc, ◌/◌, ◌%◌, ◌<◌}
use native.Mathlib.Omega.{arith}
use mathlib.Core.Path.{◌≡◌, refl, sym, ap, ◌∙◌}
use mathlib.Core.List.{List, [], ◌∷◌}
use mathlib.Core.Bool.{true, false}
use Rattle.rules.specs.Lists.{firsts}
use Rattle.trees.specs.Agreement.{Alike}
use Rattle.trees.proofs.Agreement.{same_alike}
use Rattle.trees.proofs.Matching.{Matching, matching_same}
use Rattle.sheet.specs.Bytes.{be16, be32}
use Rattle.sheet.specs.Format.{start}
use Rattle.sheet.specs.Points.{points_to, inputs_point, rows_point}
use Rattle.sheet.proofs.Readable.{read_readable}
use Rattle.sheet.proofs.Pointed.{somewhere_none}
use Rattle.sheet.proofs.Examples.{sheet_a, sheet_b, sheet_d, empty_sheet, reading}
use Rattle.wires.specs.Wires.{is_wire}
use Rattle.walks.specs.Walk.{has, meet, meet_inputs, visit, walk}
use Rattle.walks.specs.Key.{walk_all}
use Rattle.keys.specs.Sheets.{sheet_graph, IsKey}

-- D with its two inputs the other way round
abbrev pub turned_d : List ℕ
turned_d =
    0 ∷ 0 ∷ 0 ∷ 22 ∷ 1 ∷ 0 ∷ 3
    ∷ 0 ∷ 3 ∷ 0 ∷ 0 ∷ 2 ∷ 0 ∷ 2 ∷ 0 ∷ 1
    ∷ 0 ∷ 1 ∷ 0 ∷ 1 ∷ 0
    ∷ 0 ∷ 2 ∷ 0 ∷ 40 ∷ 0 ∷ []

-- the orders of the walks
pub orders :
    (walk_all (sheet_graph sheet_a) 1 0 ≡ 0 ∷ [])
    × (walk_all (sheet_graph sheet_d) 3 0 ≡ 0 ∷ 1 ∷ 2 ∷ [])
    × (walk_all (sheet_graph turned_d) 3 0 ≡ 0 ∷ 2 ∷ 1 ∷ [])
unfolding be16 be32 start sheet_graph has meet meet_inputs visit walk
orders = (refl, refl, refl)

-- ---- A and D are keys

never : false ≡ true → ⊥
never e = let z : ◌≡◌ {A = ℕ} 0 1 = cc in omega arith

plain_a : (u : ℕ) → u < 1 → is_wire ((sheet_graph sheet_a).label u) ≡ true → ⊥
unfolding be16 be32 start sheet_graph
plain_a zero h e = never e
plain_a (suc u) h e = absurd (omega arith)

plain_d : (u : ℕ) → u < 3 → is_wire ((sheet_graph sheet_d).label u) ≡ true → ⊥
unfolding be16 be32 start sheet_graph
plain_d zero h e = never e
plain_d (suc zero) h e = never e
plain_d (suc (suc zero)) h e = never e
plain_d (suc (suc (suc u))) h e = absurd (omega arith)

pub key_a : IsKey sheet_a
unfolding be16 be32 start firsts points_to inputs_point rows_point
key_a =
    record {
      readable = (read_readable sheet_a 1 (sym reading.0)).0;
      some = omega arith;
      leads = somewhere_none sheet_a 0 refl;
      plain = record { plain = λ u h x. plain_a u h x.is };
      distinct = record { apart = λ u v h k t. omega arith };
      ordered = orders.0;
    }

-- D's labels are of kinds 3, 1 and 2
kind : ℕ → ℕ
kind x = x / 65536 % 3

kind_row : (u : ℕ) → u < 3 → kind ((sheet_graph sheet_d).label u) ≡ u
unfolding be16 be32 start sheet_graph kind
kind_row zero h = refl
kind_row (suc zero) h = refl
kind_row (suc (suc zero)) h = refl
kind_row (suc (suc (suc u))) h = absurd (omega arith)

pub key_d : IsKey sheet_d
unfolding be16 be32 start firsts points_to inputs_point rows_point
key_d =
    record {
      readable = (read_readable sheet_d 3 (sym reading.2)).0;
      some = omega arith;
      leads = somewhere_none sheet_d 0 refl;
      plain = record { plain = λ u h x. plain_d u h x.is };
      distinct = record { apart = λ u v h k t. sym (kind_row u h) ∙ ap kind (same_alike t).labels ∙ kind_row v k };
      ordered = orders.1;
    }

-- ---- B's two rows have the same tree, the empty sheet has no row, and turned D is not in order

data Turns : ℕ → ℕ → Type 0 where
  first : Turns 0 1
  second : Turns 1 0

turning : Matching (sheet_graph sheet_b) (sheet_graph sheet_b) Turns
unfolding be16 be32 start sheet_graph
turning = record { alike = alike; inputs = inputs }
  where
    alike : (u v : ℕ) → Turns u v → Alike (sheet_graph sheet_b) u (sheet_graph sheet_b) v
    alike u v first = record { labels = refl; counts = refl }
    alike u v second = record { labels = refl; counts = refl }

    inputs : (u v : ℕ) → Turns u v → (j : ℕ) → j < (sheet_graph sheet_b).count u → Turns ((sheet_graph sheet_b).input u j) ((sheet_graph sheet_b).input v j)
    inputs u v first zero h = second
    inputs u v first (suc j) h = absurd (omega arith)
    inputs u v second zero h = first
    inputs u v second (suc j) h = absurd (omega arith)

pub no_key_b : IsKey sheet_b → ⊥
unfolding be16
no_key_b k = let e = k.distinct.apart 0 1 (omega arith) (omega arith) (matching_same turning first) in omega arith

pub no_key_empty : IsKey empty_sheet → ⊥
unfolding be16
no_key_empty k = omega (arith, k.some)

pub no_key_turned : IsKey turned_d → ⊥
unfolding be16 firsts
no_key_turned k =
    let e : ◌≡◌ {A = List ℕ} (0 ∷ 2 ∷ 1 ∷ []) (0 ∷ 1 ∷ 2 ∷ []) = sym orders.2 ∙ k.ordered in
    let z : ◌≡◌ {A = ℕ} 2 1 = cc in
    omega arith
