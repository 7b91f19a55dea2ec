-- The words of a mended store. g is the rows left, c u the lowest of them with the tree of row u.
use Rattle.std.specs.Prelude.{ℕ, ◌≤◌, ◌<◌, ◌≡◌, List, length, leb}
use Rattle.rules.specs.Pick.{pick}
use Rattle.trees.specs.Graph.{Graph}
use Rattle.store.specs.Layout.{word_at, in_use, row_word}
use Rattle.numbering.specs.Numbers.{trees_below, row_number}
use Rattle.writing.specs.After.{HasRow}

-- w becomes v: word 0 counts the trees, each tree is kept once at its number, rows freed below the n taken are zero, and the words past those stand
pub record MendedWords (most : ℕ) (g : Graph) (c : ℕ → ℕ) (n : ℕ) (w v : List ℕ) : Type 0 where
  pub long : length v ≡ length w
  pub count : in_use v ≡ trees_below c n
  pub kept : (u : ℕ) → u < n → c u ≡ u → HasRow most g c u v (trees_below c u)
  pub freed : (k : ℕ) → row_word most (trees_below c n) ≤ k → k < row_word most n → word_at v k ≡ 0
  pub past : (k : ℕ) → row_word most n ≤ k → word_at v k ≡ word_at w k

-- the list's entry of an old number: its tree's number, or 4294967295 where the row is dropped
unfoldable pub listed : (n : ℕ) → (ℕ → ℕ) → ℕ → ℕ
listed n c u = pick (leb n (c u)) 4294967295 (row_number c u)
