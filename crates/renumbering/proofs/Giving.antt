-- The rows so far have their numbers in the list, and their classes theirs.
use Rattle.std.proofs.Common.{ℕ, ◌+◌, ◌-◌, ◌≤◌, ◌<◌, arith, ◌≡◌, refl, sym, ap, ◌∙◌, List, length, get_or, set, length-set, get_or-set_same, get_or-set_other}
use native.Mathlib.Decide.{dec_le}
use Rattle.trees.specs.Graph.{Graph}
use Rattle.rounds.specs.Classes.{class_of}
use Rattle.numbering.proofs.Counting.{below_none}
use Rattle.mends.specs.Words.{listed}
use Rattle.mends.specs.Entries.{Marked}
use Rattle.mends.proofs.Listing.{listed_gone, listed_left, over_is}
use Rattle.mends.proofs.Numbering.{Numbering, Given, numbering_gone, numbering_known, numbering_new, known_here, new_number}
use Rattle.renumbering.specs.Numbered.{RowNumbered, row_gone, row_known, row_new, NumberAsks, Chosen, NumbersGiven}

-- ---- one row

module _ (list cls numbers : List ℕ) (u k : ℕ) where
  pub told_gone : get_or list u 0 ≡ 4294967295 → RowNumbered cls u k list numbers list numbers k
  told_gone e = row_gone e refl refl refl

  module _ (h x : ℕ) (l : get_or list u 0 ≡ 4294967295 → ⊥) (p : h ≡ class_of cls u) (q : x ≡ get_or numbers h 0) where
    pub told_known : (x ≡ 0 → ⊥) → RowNumbered cls u k list numbers (set list u (x - 1)) numbers k
    told_known f =
        let e : x ≡ get_or numbers (class_of cls u) 0 = q ∙ ap (λ y. get_or numbers y 0) p in
        row_known l (λ z. f (e ∙ z)) (ap (λ y. set list u (y - 1)) e) refl refl

    pub told_new : x ≡ 0 → RowNumbered cls u k list numbers (set list u k) (set numbers h (k + 1)) (k + 1)
    told_new z =
        let e : x ≡ get_or numbers (class_of cls u) 0 = q ∙ ap (λ y. get_or numbers y 0) p in
        row_new l (sym e ∙ z) refl (ap (λ y. set numbers y (k + 1)) p) refl

-- ---- the loop

pub record Giving (n : ℕ) (cls old numbers₀ list numbers : List ℕ) (k u : ℕ) : Type 0 where
  pub some : u ≤ n
  pub few : k ≤ u
  pub same : length list ≡ length old
  pub same_numbers : length numbers ≡ length numbers₀
  pub past : (v : ℕ) → u ≤ v → get_or list v 0 ≡ get_or old v 0
  pub given : (g : Graph) (c : ℕ → ℕ) → Chosen g n old cls c → Numbering n c (class_of cls) (class_of numbers) k u
  pub filled : (g : Graph) (c : ℕ → ℕ) → Chosen g n old cls c → (v : ℕ) → v < u → get_or list v 0 ≡ listed n c v

module _ (n : ℕ) (old cls numbers₀ : List ℕ) (a : NumberAsks n old cls numbers₀) where
  pub giving_none : Giving n cls old numbers₀ old numbers₀ 0 0
  giving_none =
      record {
        some = omega arith;
        few = omega arith;
        same = refl;
        past = λ v h. refl;
        same_numbers = refl;
        given = λ g c s.
            record {
              counted = sym (below_none c);
              fresh = λ h z o. omega (arith, o.before);
              owned = λ h f. absurd (f (a.zero h));
              known = λ v q m. absurd (omega arith);
            };
        filled = λ g c s v h. absurd (omega arith);
      }

  module _ (list numbers : List ℕ) (k u : ℕ) (s : Giving n cls old numbers₀ list numbers k u) where
    inside : u < n → class_of cls u < length numbers
    inside h = omega (arith, a.within u h, s.same_numbers)

    pub giving_more : (list' numbers' : List ℕ) (r : ℕ) → u < n → RowNumbered cls u k list numbers list' numbers' r → Giving n cls old numbers₀ list' numbers' r (u + 1)
    giving_more list' numbers' r h (row_gone e p q z) =
        rw (p, q, z) (
        record {
          some = omega arith;
          few = omega (arith, s.few);
          same = s.same;
          past = λ v l. s.past v (omega arith);
          same_numbers = s.same_numbers;
          given = λ g c x. numbering_gone x.lowest x.tree x.class (class_of numbers) k u h (s.given g c x) (out g c x);
          filled = λ g c x v l. go g c x v l (dec_le u v);
        })
      where
        marked : Marked old u
        marked = sym (s.past u (omega arith)) ∙ e

        out : (g : Graph) (c : ℕ → ℕ) → Chosen g n old cls c → n ≤ c u
        out g c x = omega (arith, x.lowest.goes u h marked)

        go : (g : Graph) (c : ℕ → ℕ) → Chosen g n old cls c → (v : ℕ) → v < u + 1 → Dec (u ≤ v) → get_or list v 0 ≡ listed n c v
        go g c x v l (yes q) = let z : v ≡ u = omega arith in rw z (e ∙ sym (listed_gone n c u (out g c x)))
        go g c x v l (no q) = s.filled g c x v (omega arith)
    giving_more list' numbers' r h (row_known f y p q z) =
        rw (p, q, z) (
        record {
          some = omega arith;
          few = omega (arith, s.few);
          same = length-set list u (get_or numbers (class_of cls u) 0 - 1) ∙ s.same;
          past = λ v l. get_or-set_other list u v (get_or numbers (class_of cls u) 0 - 1) 0 (λ d. omega arith) ∙ s.past v (omega arith);
          same_numbers = s.same_numbers;
          given = λ g c x. numbering_known x.lowest x.tree x.class (class_of numbers) k u h (s.given g c x) (left g c x) y;
          filled = λ g c x v l. go g c x v l (dec_le u v);
        })
      where
        left : (g : Graph) (c : ℕ → ℕ) → Chosen g n old cls c → c u < n
        left g c x = at (dec_le n (c u))
          where
            at : Dec (n ≤ c u) → c u < n
            at (yes d) = absurd (f (s.past u (omega arith) ∙ x.lowest.gone u h d))
            at (no d) = omega arith

        go : (g : Graph) (c : ℕ → ℕ) → Chosen g n old cls c → (v : ℕ) → v < u + 1 → Dec (u ≤ v) → get_or (set list u (get_or numbers (class_of cls u) 0 - 1)) v 0 ≡ listed n c v
        go g c x v l (yes d) =
            let t : v ≡ u = omega arith in
            let i = known_here x.lowest x.tree x.class (class_of numbers) k u h (s.given g c x) (left g c x) y in
            let b = get_or-set_same list u (get_or numbers (class_of cls u) 0 - 1) 0 (omega (arith, a.entries, s.same)) in
            let m = listed_left n c u (left g c x) in
            rw t (omega arith)
        go g c x v l (no d) = get_or-set_other list u v (get_or numbers (class_of cls u) 0 - 1) 0 (λ t. omega arith) ∙ s.filled g c x v (omega arith)
    giving_more list' numbers' r h (row_new f y p q z) =
        rw (p, q, z) (
        record {
          some = omega arith;
          few = omega (arith, s.few);
          same = length-set list u k ∙ s.same;
          past = λ v l. get_or-set_other list u v k 0 (λ d. omega arith) ∙ s.past v (omega arith);
          same_numbers = length-set numbers (class_of cls u) (k + 1) ∙ s.same_numbers;
          given = λ g c x. numbering_new x.lowest x.tree x.class (class_of numbers) k u h (s.given g c x) (left g c x) y (class_of (set numbers (class_of cls u) (k + 1))) more;
          filled = λ g c x v l. go g c x v l (dec_le u v);
        })
      where
        left : (g : Graph) (c : ℕ → ℕ) → Chosen g n old cls c → c u < n
        left g c x = at (dec_le n (c u))
          where
            at : Dec (n ≤ c u) → c u < n
            at (yes d) = absurd (f (s.past u (omega arith) ∙ x.lowest.gone u h d))
            at (no d) = omega arith

        more : Given (class_of numbers) (class_of (set numbers (class_of cls u) (k + 1))) (class_of cls u) (k + 1)
        more =
            record {
              here = get_or-set_same numbers (class_of cls u) (k + 1) 0 (inside h);
              else = λ i d. get_or-set_other numbers (class_of cls u) i (k + 1) 0 d;
            }

        go : (g : Graph) (c : ℕ → ℕ) → Chosen g n old cls c → (v : ℕ) → v < u + 1 → Dec (u ≤ v) → get_or (set list u k) v 0 ≡ listed n c v
        go g c x v l (yes d) =
            let t : v ≡ u = omega arith in
            let i = new_number x.lowest x.tree x.class (class_of numbers) k u h (s.given g c x) (left g c x) y in
            let b = get_or-set_same list u k 0 (omega (arith, a.entries, s.same)) in
            let m = listed_left n c u (left g c x) in
            rw t (omega arith)
        go g c x v l (no d) = get_or-set_other list u v k 0 (λ t. omega arith) ∙ s.filled g c x v (omega arith)

    pub giving_all : n ≤ u → NumbersGiven n cls old list k
    giving_all h =
        let e : u ≡ n = omega (arith, s.some) in
        record {
          long = s.same;
          listing = λ g c x. over_is (listed n c) n old list a.entries s.same (λ v l. s.filled g c x v (omega arith)) (λ v l. s.past v (omega arith));
          count = λ g c x. rw e at (s.given g c x).counted;
        }
