-- The arms of the matches: what an operation's arm gives, and what the rest leaves.
use Prim.Native.Nat.{ℕ}
use native.Mathlib.Decide.{ℕ_discrete}
use mathlib.Core.Path.{◌≡◌, sym, ap, ◌∙◌}
use mathlib.Core.List.{List}
use borrow.Author.Tests.{ne_eqb}
use lib.IntN.{ℤ, pos}
use mir.Syntax.{w32}
use mir.Val.{SFits}
use mir.ValLaws.{to_z-of_z}
use Rattle.counts.proofs.Reading.{back}
use Rattle.running.specs.Results.{result_of}
use Rattle.results.specs.Parts.{of_two, of_inputs}

-- what a call gave and ensured to fit, read back
read : {r z : ℤ} → (r ≡ z) × SFits w32 r → back w32 r ≡ z
read {r} p = to_z-of_z w32 r p.1 ∙ p.0

module _ {a b : ℤ} (f : SFits w32 a) (g : SFits w32 b) where
  two_same : (o : ℕ) → of_two o (back w32 a) (back w32 b) ≡ of_two o a b
  two_same o = ap (λ (v : ℤ). of_two o v (back w32 b)) (to_z-of_z w32 a f) ∙ ap (of_two o a) (to_z-of_z w32 b g)

  pub two_arm : (k : ℕ) {o : ℕ} {r : ℤ} → o ≡ k → (r ≡ of_two k (back w32 a) (back w32 b)) × SFits w32 r → back w32 r ≡ of_two o a b
  two_arm k e p = read p ∙ two_same k ∙ ap (λ (n : ℕ). of_two n a b) (sym e)

  pub two_rest : (o : ℕ) → (o ≡ 3 → ⊥) → (o ≡ 4 → ⊥) → (o ≡ 8 → ⊥) → (o ≡ 9 → ⊥) → pos 0 ≡ of_two o a b
  unfolding of_two
  two_rest o m n p q = simp (ne_eqb o 3 m, ne_eqb o 4 n, ne_eqb o 8 p, ne_eqb o 9 q)

  module _ {c d : ℤ} (h : SFits w32 c) (i : SFits w32 d) where
    inputs_same : (o s : ℕ) → of_inputs o s (back w32 a) (back w32 b) (back w32 c) (back w32 d) ≡ of_inputs o s a b c d
    inputs_same o s =
        ap (λ (v : ℤ). of_inputs o s v (back w32 b) (back w32 c) (back w32 d)) (to_z-of_z w32 a f)
        ∙ ap (λ (v : ℤ). of_inputs o s a v (back w32 c) (back w32 d)) (to_z-of_z w32 b g)
        ∙ ap (λ (v : ℤ). of_inputs o s a b v (back w32 d)) (to_z-of_z w32 c h)
        ∙ ap (λ (v : ℤ). of_inputs o s a b c v) (to_z-of_z w32 d i)

    pub inputs_arm : (k s : ℕ) {o : ℕ} {r : ℤ} → o ≡ k → (r ≡ of_inputs k s (back w32 a) (back w32 b) (back w32 c) (back w32 d)) × SFits w32 r
        → back w32 r ≡ of_inputs o s a b c d
    inputs_arm k s e p = read p ∙ inputs_same k s ∙ ap (λ (n : ℕ). of_inputs n s a b c d) (sym e)

    pub inputs_rest : (o s : ℕ) {r : ℤ} → (o ≡ 5 → ⊥) → (o ≡ 10 → ⊥) → (o ≡ 11 → ⊥) → (o ≡ 12 → ⊥) → (r ≡ of_two o (back w32 a) (back w32 b)) × SFits w32 r
        → back w32 r ≡ of_inputs o s a b c d
    unfolding of_inputs
    inputs_rest o s m n p q e = simp (ne_eqb o 5 m, ne_eqb o 10 n, ne_eqb o 11 p, ne_eqb o 12 q) (read e ∙ two_same o)

module _ (s : ℕ) (channels : List ℤ) (held : ℤ) (x : ℕ → ℤ) where
  pub result_arm : (k : ℕ) {o : ℕ} {r : ℤ} → o ≡ k → (r ≡ result_of k s channels held x) × SFits w32 r → back w32 r ≡ result_of o s channels held x
  result_arm k e p = read p ∙ ap (λ (n : ℕ). result_of n s channels held x) (sym e)

  -- the operations that are computed of inputs
  parts : (o : ℕ) → (o ≡ 1 → ⊥) → (o ≡ 2 → ⊥) → (o ≡ 6 → ⊥) → of_inputs o s (x 0) (x 1) (x 2) (x 3) ≡ result_of o s channels held x
  unfolding of_inputs of_two result_of
  parts o m n p = go (ℕ_discrete o 5) (ℕ_discrete o 10) (ℕ_discrete o 11) (ℕ_discrete o 12)
    where
      go : Dec (o ≡ 5) → Dec (o ≡ 10) → Dec (o ≡ 11) → Dec (o ≡ 12) → of_inputs o s (x 0) (x 1) (x 2) (x 3) ≡ result_of o s channels held x
      go (yes e) g h i = rw e
      go (no f) (yes e) h i = rw e
      go (no f) (no g) (yes e) i = rw e
      go (no f) (no g) (no h) (yes e) = rw e
      go (no f) (no g) (no h) (no i) =
          simp (ne_eqb o 1 m, ne_eqb o 2 n, ne_eqb o 6 p, ne_eqb o 5 f, ne_eqb o 10 g, ne_eqb o 11 h, ne_eqb o 12 i)

  pub result_rest : (o : ℕ) {r : ℤ} → (o ≡ 1 → ⊥) → (o ≡ 2 → ⊥) → (o ≡ 6 → ⊥) → SFits w32 (x 0) → SFits w32 (x 1) → SFits w32 (x 2) → SFits w32 (x 3)
      → (r ≡ of_inputs o s (back w32 (x 0)) (back w32 (x 1)) (back w32 (x 2)) (back w32 (x 3))) × SFits w32 r → back w32 r ≡ result_of o s channels held x
  result_rest o m n p a b c d e = read e ∙ inputs_same a b c d o s ∙ parts o m n p
