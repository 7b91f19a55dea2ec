-- The bytes go by the rows: graphs that say the same of their first rows are written as the same bytes, and the same bytes are of as many
-- rows, of which the graphs say the same.
use Prim.Native.Nat.{ℕ, zero, suc, ◌≤◌, ◌<◌}
use native.Mathlib.Omega.{arith}
use mathlib.Core.Path.{◌≡◌, refl, sym, ap, ap₂, ◌∙◌}
use mathlib.Core.List.{◌++◌}
use Rattle.trees.specs.Graph.{Graph}
use Rattle.trees.specs.Agreement.{Alike}
use Rattle.trees.proofs.Matching.{SaysSame}
use Rattle.sheet.specs.Format.{row_count_of, start}
use Rattle.keys.specs.Bytes.{bytes16, inputs_bytes, row_bytes, rows_bytes, sheet_bytes}
use Rattle.keys.proofs.Rows.{ReadsRow}
use Rattle.keys.proofs.Readback.{written_count, written_row}

inputs_same : (g h : Graph) (k m : ℕ) → ((j : ℕ) → j < m → g.input k j ≡ h.input k j) → inputs_bytes g k m ≡ inputs_bytes h k m
unfolding inputs_bytes
inputs_same g h k zero e = refl
inputs_same g h k (suc m) e =
    ap₂ (λ l x. l ++ bytes16 x) (inputs_same g h k m (λ j l. e j (omega arith))) (e m (omega arith))

module _ {g h : Graph} {n : ℕ} (s : SaysSame g h n) where
  row_same : (k : ℕ) → k < n → row_bytes g k ≡ row_bytes h k
  unfolding row_bytes
  row_same k l = rw (inputs_same g h k (g.count k) (s.inputs k l), (s.alike k l).labels, (s.alike k l).counts)

  rows_same : (m : ℕ) → m ≤ n → rows_bytes g m ≡ rows_bytes h m
  unfolding rows_bytes
  rows_same zero l = refl
  rows_same (suc m) l = ap₂ (λ p q. p ++ q) (rows_same m (omega arith)) (row_same m (omega arith))

  pub bytes_same : sheet_bytes g n ≡ sheet_bytes h n
  unfolding sheet_bytes
  bytes_same = rw (rows_same n (omega arith))

-- ---- and back

pub same_bytes : (g h : Graph) (n m : ℕ) → sheet_bytes g n ≡ sheet_bytes h m → (n ≡ m) × SaysSame g h n
same_bytes g h n m e = (many, record { alike = alike; inputs = inputs })
  where
    many : n ≡ m
    many = sym (written_count g n) ∙ ap row_count_of e ∙ written_count h m

    ours : (k : ℕ) → k < n → ReadsRow (sheet_bytes h m) (start (sheet_bytes h m) k) g k
    ours k l = rw e at (written_row g n k l)

    theirs : (k : ℕ) → k < n → ReadsRow (sheet_bytes h m) (start (sheet_bytes h m) k) h k
    theirs k l = written_row h m k (omega (arith, many))

    alike : (k : ℕ) → k < n → Alike g k h k
    alike k l = record { labels = sym (ours k l).label ∙ (theirs k l).label; counts = sym (ours k l).count ∙ (theirs k l).count }

    inputs : (k : ℕ) → k < n → (j : ℕ) → j < g.count k → g.input k j ≡ h.input k j
    inputs k l j i = sym ((ours k l).input j i) ∙ (theirs k l).input j (rw (alike k l).counts at i)
