-- The order of paths (003, 1.31, its second line read with n < m): shorter first, then by the first step that differs.
use Rattle.std.specs.Prelude.{ℕ, ◌<◌, ◌≡◌, List, [], ◌∷◌, ◌⊎◌, length}

infix 50 ◌≤lex◌
infix 50 ◌≤path◌
-- ε comes before all; np before mq where n < m, or n = m and p before q
unfoldable pub ◌≤lex◌ : List ℕ → List ℕ → Type 0
[] ≤lex q = Unit
(n ∷ p) ≤lex [] = ⊥
(n ∷ p) ≤lex (m ∷ q) = (n < m) ⊎ ((n ≡ m) × (p ≤lex q))

-- |p| < |q|, or |p| = |q| and p ≤lex q
unfoldable pub ◌≤path◌ : List ℕ → List ℕ → Type 0
p ≤path q = (length p < length q) ⊎ ((length p ≡ length q) × (p ≤lex q))
