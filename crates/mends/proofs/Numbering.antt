-- Numbering row by row: a class gets its number when its first row left is met.
use Prim.Native.Nat.{ℕ, ◌+◌, ◌≤◌, ◌<◌}
use native.Mathlib.Omega.{arith}
use native.Mathlib.Decide.{dec_lt, ℕ_discrete}
use mathlib.Core.Path.{◌≡◌, sym, ap, ◌∙◌}
use Rattle.trees.specs.Graph.{Graph}
use Rattle.trees.specs.Agreement.{SameTree}
use Rattle.numbering.specs.Numbers.{trees_below, row_number}
use Rattle.numbering.proofs.Counting.{below_first, below_known, number_first, number_class}
use Rattle.mends.specs.Lowest.{Lowest}
use Rattle.mends.proofs.Lowest.{low, class_same}

-- a row left below u that has class h
pub record Owner (n : ℕ) (c cls : ℕ → ℕ) (u h : ℕ) : Type 0 where
  pub row : ℕ
  pub before : row < u
  pub left : c row < n
  pub class : cls row ≡ h

-- numbers h is 0 where no row left below u has class h, else one more than the number of each
pub record Numbering (n : ℕ) (c cls numbers : ℕ → ℕ) (count u : ℕ) : Type 0 where
  pub counted : count ≡ trees_below c u
  pub fresh : (h : ℕ) → numbers h ≡ 0 → Owner n c cls u h → ⊥
  pub owned : (h : ℕ) → (numbers h ≡ 0 → ⊥) → Owner n c cls u h
  pub known : (v : ℕ) → v < u → c v < n → numbers (cls v) ≡ row_number c v + 1

-- one more given
pub record Given (numbers numbers' : ℕ → ℕ) (h k : ℕ) : Type 0 where
  pub here : numbers' h ≡ k
  pub else : (i : ℕ) → (i ≡ h → ⊥) → numbers' i ≡ numbers i

owner_on : {n : ℕ} {c cls : ℕ → ℕ} {u h : ℕ} → Owner n c cls u h → Owner n c cls (u + 1) h
owner_on o = record { row = o.row; before = omega (arith, o.before); left = o.left; class = o.class }

module _ {g : Graph} {n : ℕ} {Gone : ℕ → Type 0} {c cls : ℕ → ℕ} (s : Lowest g n Gone c)
    (tree : (u v : ℕ) → u < n → v < n → c u < n → c v < n → cls u ≡ cls v → SameTree g u g v)
    (class : (u v : ℕ) → u < n → v < n → c u < n → c v < n → SameTree g u g v → cls u ≡ cls v)
    (numbers : ℕ → ℕ) (count u : ℕ) (h : u < n) (i : Numbering n c cls numbers count u) where
  -- an owner after row u is one before it, or row u
  data Before (k : ℕ) : Type 0 where
    earlier : Owner n c cls u k → Before k
    this : c u < n → cls u ≡ k → Before k

  before : {k : ℕ} → Owner n c cls (u + 1) k → Before k
  before {k} o = go (dec_lt o.row u)
    where
      go : Dec (o.row < u) → Before k
      go (yes q) = earlier (record { row = o.row; before = q; left = o.left; class = o.class })
      go (no q) = let e : o.row ≡ u = omega (arith, o.before) in this (rw e at o.left) (rw e at o.class)

  -- a row that goes changes nothing
  pub numbering_gone : n ≤ c u → Numbering n c cls numbers count (u + 1)
  numbering_gone l =
      record {
        counted = i.counted ∙ sym (below_known c u (λ e. omega arith));
        fresh = λ k z o. go k z (before o);
        owned = λ k z. owner_on (i.owned k z);
        known = λ v q m. at v m (dec_lt v u) q;
      }
    where
      go : (k : ℕ) → numbers k ≡ 0 → Before k → ⊥
      go k z (earlier o) = i.fresh k z o
      go k z (this m q) = omega arith

      at : (v : ℕ) → c v < n → Dec (v < u) → v < u + 1 → numbers (cls v) ≡ row_number c v + 1
      at v m (yes q) r = i.known v q m
      at v m (no q) r = let e : v ≡ u = omega arith in let x = rw e at m in absurd (omega arith)

  -- the class has a number: it is the row's
  module _ (l : c u < n) (z : numbers (cls u) ≡ 0 → ⊥) where
    o : Owner n c cls u (cls u)
    o = i.owned (cls u) z

    same : c o.row ≡ c u
    same =
        let b = o.before in
        class_same s o.row u (omega arith) h o.left l (tree o.row u (omega arith) h o.left l o.class)

    pub known_here : numbers (cls u) ≡ row_number c u + 1
    known_here = ap numbers (sym o.class) ∙ i.known o.row o.before o.left ∙ ap (λ x. x + 1) (number_class c o.row u same)

    later : c u ≡ u → ⊥
    later e =
        let b = o.before in
        let r = low s o.row (omega arith) o.left in
        let q = same in omega arith

    pub numbering_known : Numbering n c cls numbers count (u + 1)
    numbering_known =
        record {
          counted = i.counted ∙ sym (below_known c u later);
          fresh = λ k y x. go k y (before x);
          owned = λ k y. owner_on (i.owned k y);
          known = λ v q m. at v m (dec_lt v u) q;
        }
      where
        go : (k : ℕ) → numbers k ≡ 0 → Before k → ⊥
        go k y (earlier x) = i.fresh k y x
        go k y (this m q) = z (ap numbers q ∙ y)

        at : (v : ℕ) → c v < n → Dec (v < u) → v < u + 1 → numbers (cls v) ≡ row_number c v + 1
        at v m (yes q) r = i.known v q m
        at v m (no q) r = let e : v ≡ u = omega arith in rw e known_here

  -- the class has none: the row is its first, and takes the next
  module _ (l : c u < n) (z : numbers (cls u) ≡ 0) where
    first : c u ≡ u
    first = go (dec_lt (c u) u)
      where
        go : Dec (c u < u) → c u ≡ u
        go (yes q) =
            let k = s.stays u h l in
            absurd (i.fresh (cls u) z (record { row = c u; before = q; left = k; class = class (c u) u l h k l (s.has u h l) }))
        go (no q) = let b = low s u h l in omega arith

    pub new_number : row_number c u ≡ count
    new_number = number_first c u first ∙ sym i.counted

    pub numbering_new : (numbers' : ℕ → ℕ) → Given numbers numbers' (cls u) (count + 1) → Numbering n c cls numbers' (count + 1) (u + 1)
    numbering_new numbers' x =
        record {
          counted = ap (λ y. y + 1) i.counted ∙ sym (below_first c u first);
          fresh = λ k y o. go k y (before o) (ℕ_discrete k (cls u));
          owned = λ k y. own_of k y (ℕ_discrete k (cls u));
          known = λ v q m. at v m (dec_lt v u) q;
        }
      where
        go : (k : ℕ) → numbers' k ≡ 0 → Before k → Dec (k ≡ cls u) → ⊥
        go k y b (yes e) = let w : numbers' (cls u) ≡ 0 = rw e at y in omega (arith, x.here)
        go k y (earlier o) (no e) = i.fresh k (sym (x.else k e) ∙ y) o
        go k y (this m q) (no e) = e (sym q)

        own_of : (k : ℕ) → (numbers' k ≡ 0 → ⊥) → Dec (k ≡ cls u) → Owner n c cls (u + 1) k
        own_of k y (yes e) = record { row = u; before = omega arith; left = l; class = sym e }
        own_of k y (no e) = owner_on (i.owned k (λ w. y (x.else k e ∙ w)))

        at : (v : ℕ) → c v < n → Dec (v < u) → v < u + 1 → numbers' (cls v) ≡ row_number c v + 1
        at v m (no q) r = let e : v ≡ u = omega arith in rw e (x.here ∙ ap (λ y. y + 1) (sym new_number))
        at v m (yes q) r = x.else (cls v) other ∙ i.known v q m
          where
            other : cls v ≡ cls u → ⊥
            other e = i.fresh (cls u) z (record { row = v; before = q; left = m; class = e })
