-- Laws of following wires.
use Prim.Native.Nat.{ℕ, zero, suc, ◌+◌, ◌<◌}
use native.Mathlib.Omega.{arith}
use mathlib.Core.Path.{◌≡◌, refl, sym, ◌∙◌}
use mathlib.Core.Bool.{Bool, true, false}
use Rattle.rules.specs.Pick.{pick}
use Rattle.trees.specs.Graph.{Graph, Closed}
use Rattle.wires.specs.Wires.{is_wire, Wire, follow, most_wires, through, WiresFit}

-- row u is a wire, or it is not
pub data Told (g : Graph) (u : ℕ) : Bool → Type 0 where
  told_wire : Wire g u → Told g u true
  told_plain : (Wire g u → ⊥) → Told g u false

pub told : (g : Graph) (u : ℕ) → Told g u (is_wire (g.label u))
told g u = go (is_wire (g.label u)) refl
  where
    go : (t : Bool) → is_wire (g.label u) ≡ t → Told g u t
    go true e = told_wire (record { is = e })
    go false e = told_plain (λ w. let z : ◌≡◌ {A = ℕ} 0 1 = cc (w.is, e) in omega arith)

module _ (g : Graph) where
  -- ---- the clauses: no other law unfolds following

  pub follow_none : (u : ℕ) → follow g 0 u ≡ u
  unfolding follow
  follow_none u = refl

  pub follow_wire : (k u : ℕ) → Wire g u → follow g (suc k) u ≡ follow g k (g.input u 0)
  unfolding follow
  follow_wire k u w = rw w.is

  pub follow_plain : (k u : ℕ) → (Wire g u → ⊥) → follow g k u ≡ u
  unfolding follow
  follow_plain zero u p = refl
  follow_plain (suc k) u p = go (told g u)
    where
      go : {t : Bool} → Told g u t → pick t (follow g k (g.input u 0)) u ≡ u
      go (told_wire w) = absurd (p w)
      go (told_plain q) = refl

  -- ---- following on

  pub follow_add : (a b u : ℕ) → follow g (b + a) u ≡ follow g a (follow g b u)
  follow_add a zero u = let z : 0 + a ≡ a = omega arith in rw (z, follow_none u)
  follow_add a (suc b) u = go (told g u) (follow_add a b (g.input u 0))
    where
      z : suc b + a ≡ suc (b + a)
      z = omega arith

      go : {t : Bool} → Told g u t → follow g (b + a) (g.input u 0) ≡ follow g a (follow g b (g.input u 0)) → follow g (suc b + a) u ≡ follow g a (follow g (suc b) u)
      go (told_wire w) ih = rw (z, follow_wire (b + a) u w, follow_wire b u w) ih
      go (told_plain p) ih = rw (follow_plain (suc b + a) u p, follow_plain (suc b) u p, follow_plain a u p)

  -- a wire after so many steps was one before them
  pub follow_earlier : (a b u : ℕ) → Wire g (follow g (a + b) u) → Wire g (follow g a u)
  follow_earlier a b u w = go (told g (follow g a u))
    where
      go : {t : Bool} → Told g (follow g a u) t → Wire g (follow g a u)
      go (told_wire x) = x
      go (told_plain p) = rw (follow_add b a u, follow_plain b (follow g a u) p) at w

  -- ---- wires lead to rows

  pub follow_low : {n : ℕ} → Closed g n → WiresFit g n → (k u : ℕ) → u < n → follow g k u < n
  follow_low c f zero u h = rw (follow_none u) h
  follow_low {n} c f (suc k) u h = go (told g u) (follow_low c f k (g.input u 0))
    where
      go : {t : Bool} → Told g u t → (g.input u 0 < n → follow g k (g.input u 0) < n) → follow g (suc k) u < n
      go (told_wire w) ih = let e = f.one u h w in rw (follow_wire k u w) (ih (c.within u 0 h (omega arith)))
      go (told_plain p) ih = rw (follow_plain (suc k) u p) h

  -- ---- a wire leads where its input leads

  pub through_wire : (u : ℕ) → (Wire g (through g u) → ⊥) → Wire g u → through g (g.input u 0) ≡ through g u
  through_wire u ends w =
      let on : through g u ≡ follow g 2047 (g.input u 0) = follow_wire 2047 u w in
      follow_add 1 2047 (g.input u 0) ∙ follow_plain 1 (follow g 2047 (g.input u 0)) (λ x. ends (rw on x)) ∙ sym on

  pub through_plain : (u : ℕ) → (Wire g u → ⊥) → through g u ≡ u
  through_plain u p = follow_plain most_wires u p
