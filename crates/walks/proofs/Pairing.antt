-- Two walks in lock-step. Rows of two graphs are paired one to one, paired rows are alike and their inputs are paired: then walks
-- from paired rows have paired rows at each place.
use Prim.Native.Nat.{ℕ, zero, suc, ◌≤◌, ◌<◌}
use native.Mathlib.Omega.{arith}
use native.Mathlib.Decide.{dec_lt}
use mathlib.Core.Path.{◌≡◌, refl, sym}
use mathlib.Core.List.{List, [], ◌∷◌, ◌++◌}
use lib.ListN.{length, get_or}
use Rattle.trees.specs.Graph.{Graph}
use Rattle.trees.proofs.Matching.{Matching}
use Rattle.walks.specs.Walk.{meet_inputs, visit, walk}
use Rattle.walks.specs.Key.{place_of}
use Rattle.walks.specs.Member.{Member}
use Rattle.walks.proofs.Members.{Met, known, new, more_length, more_grown, more_last}
use Rattle.walks.proofs.Places.{FirstAt, place_first, first_one}
use Rattle.walks.proofs.Steps.{inputs_none, inputs_met, visit_hit, visit_past}

-- one row is paired with at most one row, either way
pub record OneToOne (R : ℕ → ℕ → Type 0) : Type 0 where
  pub left : (a b c : ℕ) → R a c → R b c → a ≡ b
  pub right : (a b c : ℕ) → R a b → R a c → b ≡ c

-- paired place by place
pub record Paired (R : ℕ → ℕ → Type 0) (l r : List ℕ) : Type 0 where
  pub long : length l ≡ length r
  pub each : (i : ℕ) → i < length l → R (get_or l i 0) (get_or r i 0)

module _ {R : ℕ → ℕ → Type 0} (o : OneToOne R) {l r : List ℕ} (p : Paired R l r) {a b : ℕ} (s : R a b) where
  -- a row stands first where its pair does
  paired_first : {i : ℕ} → FirstAt l a i → FirstAt r b i
  paired_first {i} f =
      record {
        within = omega (arith, p.long, f.within);
        here = o.right a (get_or r i 0) b (rw f.here at (p.each i f.within)) s;
        least = λ k h e. let q : k < length l = omega (arith, p.long) in f.least k q (o.left (get_or l k 0) a b (rw e at (p.each k q)) s);
      }

  pub paired_member : Member l a → Member r b
  paired_member m =
      let f = paired_first (place_first m) in
      record { at = place_of l a; within = f.within; here = f.here }

  pub paired_place : Member l a → place_of l a ≡ place_of r b
  paired_place m = first_one (paired_first (place_first m)) (place_first (paired_member m))

pub paired_single : {R : ℕ → ℕ → Type 0} {a b : ℕ} → R a b → Paired R (a ∷ []) (b ∷ [])
paired_single {R} {a} {b} s = record { long = refl; each = each }
  where
    each : (i : ℕ) → i < length (a ∷ []) → R (get_or (a ∷ []) i 0) (get_or (b ∷ []) i 0)
    each zero h = s
    each (suc i) h = absurd (omega arith)

-- ---- the other way round

pub turned_one : {R : ℕ → ℕ → Type 0} → OneToOne R → OneToOne (λ a b. R b a)
turned_one o = record { left = λ a b c s t. o.right c a b s t; right = λ a b c s t. o.left b c a s t }

pub turned_paired : {R : ℕ → ℕ → Type 0} {l r : List ℕ} → Paired R l r → Paired (λ a b. R b a) r l
turned_paired p = record { long = sym p.long; each = λ i h. p.each i (omega (arith, p.long)) }

module _ {R : ℕ → ℕ → Type 0} {l r : List ℕ} (p : Paired R l r) {a b : ℕ} (s : R a b) where
  paired_more : Paired R (l ++ (a ∷ [])) (r ++ (b ∷ []))
  paired_more = record { long = omega (arith, more_length l a, more_length r b, p.long); each = λ i h. go i h (dec_lt i (length l)) }
    where
      go : (i : ℕ) → i < length (l ++ (a ∷ [])) → Dec (i < length l) → R (get_or (l ++ (a ∷ [])) i 0) (get_or (r ++ (b ∷ [])) i 0)
      go i h (yes k) = rw ((more_grown l a).kept i k, (more_grown r b).kept i (omega (arith, p.long))) (p.each i k)
      go i h (no k) =
          let e : i ≡ length l = omega (arith, more_length l a) in
          rw (e, more_last l a, p.long, more_last r b) s

  -- meeting paired rows keeps the pairing
  paired_met : OneToOne R → {v w : List ℕ} → Met l a v → Met r b w → Paired R v w
  paired_met o (known m) (known n) = p
  paired_met o (known m) (new n) = absurd (n (paired_member o p s m))
  paired_met o (new m) (known n) = absurd (m (paired_member (turned_one o) (turned_paired p) s n))
  paired_met o (new m) (new n) = paired_more

-- ---- along the walk

module _ {g h : Graph} {R : ℕ → ℕ → Type 0} (m : Matching g h R) (o : OneToOne R) where
  pub paired_inputs : {l r : List ℕ} → Paired R l r → {a b : ℕ} → R a b → (n : ℕ) → n ≤ g.count a → Paired R (meet_inputs g a l n) (meet_inputs h b r n)
  paired_inputs p s zero q = simp inputs_none p
  paired_inputs {l} {r} p {a} {b} s (suc n) q =
      paired_met (paired_inputs p s n (omega arith)) (m.inputs a b s n q) o (inputs_met g a l n) (inputs_met h b r n)

  pub paired_visit : (k : ℕ) {l r : List ℕ} → Paired R l r → Paired R (visit g k l) (visit h k r)
  paired_visit k {l} {r} p = go (dec_lt k (length l))
    where
      go : Dec (k < length l) → Paired R (visit g k l) (visit h k r)
      go (yes q) =
          let s = p.each k q in
          rw (visit_hit g k l q, visit_hit h k r (omega (arith, p.long)), ← (m.alike (get_or l k 0) (get_or r k 0) s).counts)
          (paired_inputs p s (g.count (get_or l k 0)) (omega arith))
      go (no q) = rw (visit_past g k l (omega arith), visit_past h k r (omega (arith, p.long))) p

  pub paired_walk : {l r : List ℕ} → Paired R l r → (k : ℕ) → Paired R (walk g l k) (walk h r k)
  unfolding walk
  paired_walk p zero = p
  paired_walk p (suc k) = paired_visit k (paired_walk p k)
