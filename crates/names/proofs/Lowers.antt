-- Names lowered: the class of a row is the lowest row with its mark and name. Rows are taken from below, and an entry for each mark
-- and name holds the first row that had it, and one more.
use Prim.Native.Nat.{ℕ, suc, ◌+◌, ◌≤◌, ◌<◌}
use native.Mathlib.Omega.{arith}
use native.Mathlib.Decide.{ℕ_discrete}
use mathlib.Core.Path.{◌≡◌, refl, sym, ap, ◌∙◌}
use borrow.Author.Tests.{eq-eqb, ne_eqb}
use Rattle.names.specs.Naming.{Lowering}
use Rattle.names.specs.Lowers.{key_of}

pub key_named : (m mark : ℕ → ℕ) (v : ℕ) → mark v ≡ 1 → key_of m mark v ≡ m v
unfolding key_of
key_named m mark v e = simp (eq-eqb (mark v) 1 e) (omega arith)

pub key_bare : (m mark : ℕ → ℕ) (v : ℕ) → (mark v ≡ 1 → ⊥) → key_of m mark v ≡ m v + 2048
unfolding key_of
key_bare m mark v f = simp (ne_eqb (mark v) 1 f) refl

-- it tells both where marks are 0 or 1 and names are small
module _ (m mark : ℕ → ℕ) (u v : ℕ) (few : m u < 2048) (fewer : m v < 2048) (mu : mark u ≤ 1) (mv : mark v ≤ 1) where
  pub key_each : key_of m mark u ≡ key_of m mark v → (mark u ≡ mark v) × (m u ≡ m v)
  key_each e = go (ℕ_discrete (mark u) 1) (ℕ_discrete (mark v) 1)
    where
      go : Dec (mark u ≡ 1) → Dec (mark v ≡ 1) → (mark u ≡ mark v) × (m u ≡ m v)
      go (yes p) (yes q) = (p ∙ sym q, omega (arith, key_named m mark u p, key_named m mark v q))
      go (yes p) (no q) = absurd (omega (arith, key_named m mark u p, key_bare m mark v q))
      go (no p) (yes q) = absurd (omega (arith, key_bare m mark u p, key_named m mark v q))
      go (no p) (no q) = (omega arith, omega (arith, key_bare m mark u p, key_bare m mark v q))

  pub key_small : key_of m mark u < 4096
  key_small = go (ℕ_discrete (mark u) 1)
    where
      go : Dec (mark u ≡ 1) → key_of m mark u < 4096
      go (yes p) = omega (arith, key_named m mark u p)
      go (no p) = omega (arith, key_bare m mark u p)

pub key_same : (m mark : ℕ → ℕ) (u v : ℕ) → mark u ≡ mark v → m u ≡ m v → key_of m mark u ≡ key_of m mark v
unfolding key_of
key_same m mark u v a b = rw (a, b) refl

-- h is the lowest row with the key of row v
pub record LowestKey (key : ℕ → ℕ) (v h : ℕ) : Type 0 where
  pub low : h ≤ v
  pub same : key h ≡ key v
  pub least : (w : ℕ) → w < h → key w ≡ key v → ⊥

-- the first u rows are lowered
pub record Lowers (key m d entry : ℕ → ℕ) (u : ℕ) : Type 0 where
  pub rest : (v : ℕ) → u ≤ v → d v ≡ m v
  pub done : (v : ℕ) → v < u → LowestKey key v (d v)
  pub none : (k v : ℕ) → entry k ≡ 0 → v < u → key v ≡ k → ⊥
  pub first : (k h : ℕ) → entry k ≡ suc h → (h < u) × (key h ≡ k) × ((w : ℕ) → w < h → key w ≡ k → ⊥)

pub lowers_none : (key m entry : ℕ → ℕ) → ((k : ℕ) → entry k ≡ 0) → Lowers key m m entry 0
lowers_none key m entry z =
    record {
      rest = λ v h. refl;
      done = λ v h. absurd (omega arith);
      none = λ k v e h. absurd (omega arith);
      first = λ k h e. absurd (omega (arith, z k));
    }

module _ {key m d d' entry : ℕ → ℕ} {u x : ℕ} (l : Lowers key m d entry u) (here : d' u ≡ x) (other : (v : ℕ) → (v ≡ u → ⊥) → d' v ≡ d v) where
  done' : LowestKey key u x → (v : ℕ) → v < u + 1 → LowestKey key v (d' v)
  done' p v h = go (ℕ_discrete v u)
    where
      go : Dec (v ≡ u) → LowestKey key v (d' v)
      go (yes e) = rw (e, here) p
      go (no e) = rw (other v e) (l.done v (omega arith))

  -- with the first row that had the key
  pub lowers_with : (entry' : ℕ → ℕ) → ((k : ℕ) → entry' k ≡ entry k) → entry (key u) ≡ suc x → Lowers key m d' entry' (u + 1)
  lowers_with entry' same e =
      let f = l.first (key u) x e in
      record {
        rest = λ v h. other v (λ i. omega arith) ∙ l.rest v (omega arith);
        done = done' (record { low = omega (arith, f.0); same = f.1; least = f.2 });
        none = λ k v z h q. go k v (sym (same k) ∙ z) h q (ℕ_discrete v u);
        first = λ k h q. let t = l.first k h (sym (same k) ∙ q) in (omega (arith, t.0), t.1, t.2);
      }
    where
      go : (k v : ℕ) → entry k ≡ 0 → v < u + 1 → key v ≡ k → Dec (v ≡ u) → ⊥
      go k v z h q (yes i) =
          let w : key u ≡ k = rw i at q in
          let y : entry (key u) ≡ 0 = rw w z in
          omega (arith, y, e)
      go k v z h q (no i) = l.none k v z (omega arith) q

  -- as the first row that has it
  pub lowers_new : (entry' : ℕ → ℕ) → entry (key u) ≡ 0 → entry' (key u) ≡ suc u → ((k : ℕ) → (k ≡ key u → ⊥) → entry' k ≡ entry k) → x ≡ u → Lowers key m d' entry' (u + 1)
  lowers_new entry' z e same i =
      record {
        rest = λ v h. other v (λ q. omega arith) ∙ l.rest v (omega arith);
        done = done' (rw i (record { low = omega arith; same = refl; least = λ w h q. l.none (key u) w z h q }));
        none = λ k v y h q. none' k v y h q (ℕ_discrete k (key u)) (ℕ_discrete v u);
        first = λ k h q. first' k h q (ℕ_discrete k (key u));
      }
    where
      none' : (k v : ℕ) → entry' k ≡ 0 → v < u + 1 → key v ≡ k → Dec (k ≡ key u) → Dec (v ≡ u) → ⊥
      none' k v y h q (yes a) b = let w : entry' (key u) ≡ 0 = rw (sym a) y in omega (arith, w, e)
      none' k v y h q (no a) (yes b) = a (sym q ∙ ap key b)
      none' k v y h q (no a) (no b) = l.none k v (sym (same k a) ∙ y) (omega arith) q

      first' : (k h : ℕ) → entry' k ≡ suc h → Dec (k ≡ key u) → (h < u + 1) × (key h ≡ k) × ((w : ℕ) → w < h → key w ≡ k → ⊥)
      first' k h q (yes a) =
          let w : entry' (key u) ≡ suc h = rw (sym a) q in
          let f : h ≡ u = omega (arith, w, e) in
          rw f (omega arith, sym a, λ v y r. l.none (key u) v z y (r ∙ a))
      first' k h q (no a) = let t = l.first k h (sym (same k a) ∙ q) in (omega (arith, t.0), t.1, t.2)

-- all rows lowered
pub lowers_all : {n : ℕ} {m mark d entry : ℕ → ℕ} → ((u : ℕ) → u < n → m u < 2048) → ((u : ℕ) → u < n → mark u ≤ 1) → Lowers (key_of m mark) m d entry n → Lowering n m mark d
lowers_all {n} {m} {mark} {d} {entry} few small l =
    record {
      low = λ u h. (l.done u h).low;
      marks = λ u h. (both u h).0;
      same = λ u h. (both u h).1;
      least = λ u v h q a b. (l.done u h).least v q (key_same m mark v u a b);
    }
  where
    both : (u : ℕ) → u < n → (mark (d u) ≡ mark u) × (m (d u) ≡ m u)
    both u h =
        let t = l.done u h in
        let i : d u < n = omega (arith, t.low) in
        key_each m mark (d u) u (few (d u) i) (few u h) (small (d u) i) (small u h) t.same
