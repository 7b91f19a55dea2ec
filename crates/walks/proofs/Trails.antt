-- The paths by which the walk meets rows. The path of a row met at input j of place k is that of place k with j put at its end.
-- Along the walk, paths lead to their rows, they rise from place to place, and the path to be tried next comes after them all.
use Prim.Native.Nat.{ℕ, suc, ◌<◌}
use native.Mathlib.Omega.{arith}
use native.Mathlib.Decide.{dec_lt}
use mathlib.Core.Path.{◌≡◌, refl, ◌∙◌}
use mathlib.Core.List.{List, [], ◌∷◌, ◌++◌}
use lib.ListN.{length, get_or}
use lib.Dec.{ltb}
use borrow.Author.Tests.{lt-ltb, le-ltb}
use Rattle.rules.specs.Pick.{pick}
use Rattle.trees.specs.Graph.{Graph}
use Rattle.trees.specs.Paths.{row, reach}
use Rattle.trees.specs.PathOrder.{◌≤path◌}
use Rattle.trees.proofs.Paths.{reach_here, reach_hit, reach_append}
use Rattle.trees.proofs.PathOrder.{path_refl, shorter_never_later}
use Rattle.walks.specs.Walk.{walk}
use Rattle.walks.specs.Member.{Member}
use Rattle.walks.proofs.Members.{Grown, Met, known, new, single_each, grown_refl, more_length, more_grown, more_last}
use Rattle.walks.proofs.Steps.{Carried, carried_walk}
use Rattle.walks.proofs.LastStep.{Before, before_of, before_trans, before_next, before_last, last_before}

-- row x has been met, by a path no later than q
pub record MetBy (l : List ℕ) (paths : ℕ → List ℕ) (x : ℕ) (q : List ℕ) : Type 0 where
  pub at : ℕ
  pub within : at < length l
  pub here : get_or l at 0 ≡ x
  pub early : paths at ≤path q

-- input m of place a has been met when k places have been visited, and j inputs of place k met
pub data Tried (k j a m : ℕ) : Type 0 where
  place : a < k → Tried k j a m
  input : a ≡ k → m < j → Tried k j a m

-- paths lead to the places, and they rise
pub record Trail (g : Graph) (u : ℕ) (l : List ℕ) (paths : ℕ → List ℕ) : Type 0 where
  pub there : (i : ℕ) → i < length l → reach g u (paths i) ≡ row (get_or l i 0)
  pub rising : (i k : ℕ) → i < k → k < length l → Before (paths i) (paths k)

-- and so far all of them come before the path to be tried next, and an input tried has been met by its path or an earlier one
pub record SoFar (g : Graph) (u k j : ℕ) (l : List ℕ) : Type 0 where
  pub paths : ℕ → List ℕ
  pub start : paths 0 ≡ []
  pub trail : Trail g u l paths
  pub ahead : k < length l → (i : ℕ) → i < length l → Before (paths i) (paths k ++ (j ∷ []))
  pub tried : (a m : ℕ) → Tried k j a m → a < length l → m < g.count (get_or l a 0) → MetBy l paths (g.input (get_or l a 0) m) (paths a ++ (m ∷ []))

-- ---- one input more

-- the places of l keep their paths
record Kept (l r : List ℕ) (ps qs : ℕ → List ℕ) : Type 0 where
  rows : Grown l r
  same : (i : ℕ) → i < length l → qs i ≡ ps i

kept_met : {l r : List ℕ} {ps qs : ℕ → List ℕ} {x : ℕ} {q : List ℕ} → Kept l r ps qs → MetBy l ps x q → MetBy r qs x q
kept_met k b =
    record {
      at = b.at;
      within = omega (arith, b.within, k.rows.longer);
      here = k.rows.kept b.at b.within ∙ b.here;
      early = rw (k.same b.at b.within) b.early;
    }

module _ {g : Graph} {u k j : ℕ} {l : List ℕ} (s : SoFar g u k j l) (h : k < length l) where
  -- when input j of place k has been met, all paths are at most the path tried
  input_next : {r : List ℕ} {qs : ℕ → List ℕ} → Kept l r s.paths qs → Trail g u r qs → ((i : ℕ) → i < length r → qs i ≤path (s.paths k ++ (j ∷ [])))
      → Member r (g.input (get_or l k 0) j) → SoFar g u k (suc j) r
  input_next {r} {qs} kept t low x =
      record {
        paths = qs;
        start = kept.same 0 (omega arith) ∙ s.start;
        trail = t;
        ahead = λ p i q. before_next (low i q) (rw (kept.same k h) (last_before (s.paths k) j (suc j) (omega arith)));
        tried = tried;
      }
    where
      MetThen : ℕ → ℕ → Type 0
      MetThen a m = m < g.count (get_or r a 0) → MetBy r qs (g.input (get_or r a 0) m) (qs a ++ (m ∷ []))

      old : (a m : ℕ) → Tried k j a m → a < length l → MetThen a m
      old a m t la = rw (kept.rows.kept a la, kept.same a la) (λ c. kept_met kept (s.tried a m t la c))

      now : MetThen k j
      now = rw (kept.rows.kept k h, kept.same k h) (λ c. record { at = x.at; within = x.within; here = x.here; early = low x.at x.within })

      split : (a m : ℕ) → a ≡ k → m < suc j → Dec (m < j) → MetThen a m
      split a m e l (yes q) = old a m (input e q) (omega arith)
      split a m e l (no q) = let f : m ≡ j = omega arith in rw (e, f) now

      tried : (a m : ℕ) → Tried k (suc j) a m → a < length r → MetThen a m
      tried a m (place q) la = old a m (place q) (omega arith)
      tried a m (input e q) la = split a m e q (dec_lt m j)

  module _ (c : j < g.count (get_or l k 0)) where
    tried_there : reach g u (s.paths k ++ (j ∷ [])) ≡ row (g.input (get_or l k 0) j)
    tried_there =
        reach_append g u (s.paths k) (j ∷ []) (s.trail.there k h) ∙ reach_hit g (get_or l k 0) j [] c ∙ reach_here g (g.input (get_or l k 0) j)

    input_known : Member l (g.input (get_or l k 0) j) → SoFar g u k (suc j) l
    input_known =
        input_next (record { rows = grown_refl l; same = λ i q. refl }) s.trail (λ i q. (s.ahead h i q).first)

    -- a new place takes the path tried
    input_new : SoFar g u k (suc j) (l ++ (g.input (get_or l k 0) j ∷ []))
    input_new = input_next kept trail low (record { at = length l; within = omega (arith, more_length l x); here = more_last l x })
      where
        x : ℕ
        x = g.input (get_or l k 0) j

        q : List ℕ
        q = s.paths k ++ (j ∷ [])

        qs : ℕ → List ℕ
        qs i = pick (ltb i (length l)) (s.paths i) q

        kept : Kept l (l ++ (x ∷ [])) s.paths qs
        kept = record { rows = more_grown l x; same = λ i p. simp (lt-ltb i (length l) p) }

        end : (i : ℕ) → i < length (l ++ (x ∷ [])) → (i < length l → ⊥) → i ≡ length l
        end i p n = omega (arith, more_length l x)

        last : qs (length l) ≡ q
        last = simp (le-ltb (length l) (length l) (omega arith))

        low : (i : ℕ) → i < length (l ++ (x ∷ [])) → qs i ≤path q
        low i p = go (dec_lt i (length l))
          where
            go : Dec (i < length l) → qs i ≤path q
            go (yes w) = rw (kept.same i w) (s.ahead h i w).first
            go (no w) = rw (end i p w, last) (path_refl q)

        trail : Trail g u (l ++ (x ∷ [])) qs
        trail = record { there = λ i p. there i p (dec_lt i (length l)); rising = λ i m e p. rising i m e p (dec_lt m (length l)) }
          where
            there : (i : ℕ) → i < length (l ++ (x ∷ [])) → Dec (i < length l) → reach g u (qs i) ≡ row (get_or (l ++ (x ∷ [])) i 0)
            there i p (yes w) = rw (kept.same i w, (more_grown l x).kept i w) (s.trail.there i w)
            there i p (no w) = rw (end i p w, last, more_last l x) tried_there

            rising : (i m : ℕ) → i < m → m < length (l ++ (x ∷ [])) → Dec (m < length l) → Before (qs i) (qs m)
            rising i m e p (yes w) = rw (kept.same i (omega arith), kept.same m w) (s.trail.rising i m e w)
            rising i m e p (no w) = let f = end m p w in rw (kept.same i (omega arith), f, last) (s.ahead h i (omega arith))

  input_met : {r : List ℕ} → j < g.count (get_or l k 0) → Met l (g.input (get_or l k 0) j) r → SoFar g u k (suc j) r
  input_met c (known m) = input_known c m
  input_met c (new n) = input_new c

-- ---- the next place

tried_none : {k a m : ℕ} → Tried k 0 a m → a < k
tried_none (place q) = q
tried_none (input e q) = absurd (omega arith)

tried_all : {k j a m : ℕ} → a < suc k → (a ≡ k → m < j) → Tried k j a m
tried_all {k} {j} {a} {m} h f = go (dec_lt a k)
  where
    go : Dec (a < k) → Tried k j a m
    go (yes q) = place q
    go (no q) = let e : a ≡ k = omega arith in input e (f e)

next_place : {g : Graph} {u k j : ℕ} {l : List ℕ} (s : SoFar g u k j l) → (suc k < length l → (i : ℕ) → i < length l → Before (s.paths i) (s.paths (suc k) ++ (0 ∷ [])))
    → ((a m : ℕ) → a < suc k → a < length l → m < g.count (get_or l a 0) → Tried k j a m) → SoFar g u (suc k) 0 l
next_place s ahead all =
    record {
      paths = s.paths;
      start = s.start;
      trail = s.trail;
      ahead = ahead;
      tried = λ a m t la c. s.tried a m (all a m (tried_none t) la c) la c;
    }

carried : (g : Graph) (u : ℕ) → Carried g (SoFar g u)
carried g u =
    record {
      input = λ k j l r h c s m. input_met s h c m;
      place = λ k l h s. next_place s
          (λ p i q. before_trans (s.ahead h i q) (before_last (s.trail.rising k (suc k) (omega arith) p) (g.count (get_or l k 0)) 0))
          (λ a m p q c. tried_all p (λ e. rw e at c));
      past = λ k l h s. next_place s (λ p. absurd (omega arith)) (λ a m p q c. tried_all p (λ e. absurd (omega arith)));
    }

begin : (g : Graph) (u : ℕ) → SoFar g u 0 0 (u ∷ [])
begin g u =
    record {
      paths = λ i. [];
      start = refl;
      trail =
          record {
            there = (single_each {Q = λ x. reach g u [] ≡ row x} (reach_here g u)).each;
            rising = λ i k h q. absurd (omega arith);
          };
      ahead = λ h i q. before_of [] (0 ∷ []) (shorter_never_later [] (0 ∷ []) (omega arith));
      tried = λ a m t la c. absurd (omega (arith, tried_none t));
    }

pub walk_trail : (g : Graph) (u k : ℕ) → SoFar g u k 0 (walk g (u ∷ []) k)
walk_trail g u = carried_walk (carried g u) (begin g u)
