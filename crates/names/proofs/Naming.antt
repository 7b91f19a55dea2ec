-- Rows named between rounds. Some whole classes are taken as they are; any other row is named by its signature once all its inputs have
-- names, inputs first. Rows of one tree are never parted, whichever classes are taken and in whatever order rows are named.
use Prim.Native.Nat.{ℕ, zero, suc, ◌≤◌, ◌<◌}
use native.Mathlib.Omega.{arith}
use native.Mathlib.Decide.{dec_lt, ℕ_discrete}
use mathlib.Core.Path.{◌≡◌, refl, sym, ◌∙◌}
use lib.Dec.{eqb}
use borrow.Author.Tests.{eq-eqb, ne_eqb}
use Rattle.rules.specs.Pick.{pick}
use Rattle.trees.specs.Graph.{Graph, Closed}
use Rattle.trees.specs.Agreement.{SameTree}
use Rattle.trees.specs.Sorting.{Coarse}
use Rattle.trees.proofs.Agreement.{same_sym, same_alike, same_input}
use Rattle.rounds.specs.Rounds.{SameSig, Lowered}
use Rattle.names.specs.Naming.{Lowering, Naming}

-- a row without a name has an input without one, or a signature that no named row has
pub record Named (g : Graph) (n : ℕ) (m mark : ℕ → ℕ) : Type 0 where
  pub naming : Naming g n m mark
  pub left : (u v : ℕ) → u < n → v < n → (mark u ≡ 1 → ⊥) → ((j : ℕ) → j < g.count u → mark (g.input u j) ≡ 1) → mark v ≡ 1 → 0 < naming.rank v → SameSig g m v u → ⊥

module _ {g : Graph} {n : ℕ} {m mark : ℕ → ℕ} (closed : Closed g n) (e : Named g n m mark) where
  abbrev o : Naming g n m mark
  o = e.naming

  step : (k u v : ℕ) → o.rank u < suc k → u < n → v < n → mark u ≡ 1 → SameTree g u g v → ((x y : ℕ) → o.rank x < k → x < n → y < n → mark x ≡ 1 → SameTree g x g y → (mark y ≡ 1) × (m x ≡ m y)) → (mark v ≡ 1) × (m u ≡ m v)
  step k u v r h i d s ih = go (ℕ_discrete (o.rank u) 0) (ℕ_discrete (mark v) 1) (ℕ_discrete (o.rank v) 0)
    where
      together : o.old u ≡ o.old v
      together = o.coarse.together u v h i s

      deep : (o.rank u ≡ 0 → ⊥) → (j : ℕ) → j < g.count u → (mark (g.input v j) ≡ 1) × (m (g.input u j) ≡ m (g.input v j))
      deep z j q =
          let a = same_alike s in
          let b = o.below u j h d (omega arith) q in
          ih (g.input u j) (g.input v j) (omega (arith, b.1, r)) (closed.within u j h q) (closed.within v j i (omega (arith, a.counts))) b.0 (same_input s j q)

      sig : (o.rank u ≡ 0 → ⊥) → SameSig g m u v
      sig z = record { alike = same_alike s; inputs = λ j q. (deep z j q).1 }

      go : Dec (o.rank u ≡ 0) → Dec (mark v ≡ 1) → Dec (o.rank v ≡ 0) → (mark v ≡ 1) × (m u ≡ m v)
      go (yes z) x y =
          let w = o.whole u v h i together d z in
          (w.0, o.taken u h d z ∙ together ∙ sym (o.taken v i w.0 w.1))
      go (no z) (yes q) (yes y) = let w = o.whole v u i h (sym together) q y in absurd (z w.1)
      go (no z) (yes q) (no y) = (q, o.names u v h i d q (omega arith) (omega arith) (sig z))
      go (no z) (no q) y =
          let a = same_alike s in
          let late : 0 < o.rank u = omega arith in
          absurd (e.left v u i h q (λ j l. (deep z j (omega (arith, a.counts))).0) d late (sig z))

  -- a row of the tree of a named row is named, and has its name
  named_by : (k u v : ℕ) → o.rank u < k → u < n → v < n → mark u ≡ 1 → SameTree g u g v → (mark v ≡ 1) × (m u ≡ m v)
  named_by zero u v r h i d s = absurd (omega arith)
  named_by (suc k) u v r h i d s = step k u v r h i d s (λ x y a b c f t. named_by k x y a b c f t)

  -- names and marks together part no rows of one tree
  pub named_one : (u v : ℕ) → u < n → v < n → SameTree g u g v → (mark u ≡ 1 → mark v ≡ 1) × (m u ≡ m v)
  named_one u v h i s = go (ℕ_discrete (mark u) 1) (ℕ_discrete (mark v) 1)
    where
      go : Dec (mark u ≡ 1) → Dec (mark v ≡ 1) → (mark u ≡ 1 → mark v ≡ 1) × (m u ≡ m v)
      go (yes p) q = let r = named_by (suc (o.rank u)) u v (omega arith) h i p s in (λ x. r.0, r.1)
      go (no p) (yes q) = let r = named_by (suc (o.rank v)) v u (omega arith) i h q (same_sym s) in absurd (p r.0)
      go (no p) (no q) = (λ x. absurd (p x), o.waits u h p ∙ o.coarse.together u v h i s ∙ sym (o.waits v i q))

module _ {n : ℕ} {m mark d : ℕ → ℕ} (l : Lowering n m mark d) where
  pub lowering_one : (u v : ℕ) → u < n → v < n → mark u ≡ mark v → m u ≡ m v → d u ≡ d v
  lowering_one u v h i a b = go (dec_lt (d u) (d v)) (dec_lt (d v) (d u))
    where
      go : Dec (d u < d v) → Dec (d v < d u) → d u ≡ d v
      go (yes p) q = absurd (l.least v (d u) i p (l.marks u h ∙ a) (l.same u h ∙ b))
      go (no p) (yes q) = absurd (l.least u (d v) h q (l.marks v i ∙ sym a) (l.same v i ∙ sym b))
      go (no p) (no q) = omega arith

  pub lowering_lowered : Lowered n d
  lowering_lowered =
      record {
        low = l.low;
        own = λ u h. let b = l.low u h in lowering_one (d u) u (omega arith) h (l.marks u h) (l.same u h);
      }

-- marks are 0 or 1 when all is named: the new classes part no rows of one tree
pub named_coarse : {g : Graph} {n : ℕ} {m mark d : ℕ → ℕ} → Closed g n → Named g n m mark → ((u : ℕ) → u < n → mark u ≤ 1) → Lowering n m mark d → Coarse g n d
named_coarse {g} {n} {m} {mark} {d} c e b l = record { together = together }
  where
    together : (u v : ℕ) → u < n → v < n → SameTree g u g v → d u ≡ d v
    together u v h i s =
        let p = named_one c e u v h i s in
        let q = named_one c e v u i h (same_sym s) in
        lowering_one l u v h i (marked (ℕ_discrete (mark u) 1) (ℕ_discrete (mark v) 1) p.0 q.0) p.1
      where
        marked : Dec (mark u ≡ 1) → Dec (mark v ≡ 1) → (mark u ≡ 1 → mark v ≡ 1) → (mark v ≡ 1 → mark u ≡ 1) → mark u ≡ mark v
        marked (yes x) y f k = x ∙ sym (f x)
        marked (no x) (yes y) f k = absurd (x (k y))
        marked (no x) (no y) f k = omega (arith, b u h, b v i)

-- marks that go by class begin a naming
pub naming_begin : {g : Graph} {n : ℕ} {c mark : ℕ → ℕ} → Coarse g n c → ((u v : ℕ) → u < n → v < n → c u ≡ c v → mark u ≡ 1 → mark v ≡ 1) → Naming g n c mark
naming_begin {g} {n} {c} {mark} k w =
    record {
      old = c;
      rank = λ u. 0;
      most = 0;
      few = λ u. omega arith;
      coarse = k;
      waits = λ u h f. refl;
      taken = λ u h d z. refl;
      whole = λ u v h i q d z. (w u v h i q d, refl);
      below = λ u j h d z. absurd (omega arith);
      names = λ u v h i d f z. absurd (omega arith);
    }

-- ---- one row more

-- m and mark with the name x for row u, all else as it was
pub record NamedRow (m mark m' mark' : ℕ → ℕ) (u x : ℕ) : Type 0 where
  pub here : m' u ≡ x
  pub marked : mark' u ≡ 1
  pub same : (v : ℕ) → (v ≡ u → ⊥) → m' v ≡ m v
  pub kept : (v : ℕ) → (v ≡ u → ⊥) → mark' v ≡ mark v

-- the name of row u: that of every named row with its signature
pub record NameOf (g : Graph) (n : ℕ) (m mark rank : ℕ → ℕ) (u x : ℕ) : Type 0 where
  pub all : (v : ℕ) → v < n → mark v ≡ 1 → 0 < rank v → SameSig g m v u → m v ≡ x

later : (rank : ℕ → ℕ) (most u v : ℕ) → ℕ
later rank most u v = pick (eqb v u) (suc most) (rank v)

later_here : (rank : ℕ → ℕ) (most u : ℕ) → later rank most u u ≡ suc most
unfolding later
later_here rank most u = simp (eq-eqb u u refl) refl

later_other : (rank : ℕ → ℕ) (most u v : ℕ) → (v ≡ u → ⊥) → later rank most u v ≡ rank v
unfolding later
later_other rank most u v f = simp (ne_eqb v u f) refl

module _ {g : Graph} {n : ℕ} {m mark m' mark' : ℕ → ℕ} {u x : ℕ} (r : Naming g n m mark) (inside : u < n) (bare : mark u ≡ 1 → ⊥) (ready : (j : ℕ) → j < g.count u → mark (g.input u j) ≡ 1) (name : NameOf g n m mark r.rank u x) (p : NamedRow m mark m' mark' u x) where
  other : (v : ℕ) → mark v ≡ 1 → v ≡ u → ⊥
  other v d q = bare (rw q at d)

  pub rank' : ℕ → ℕ
  rank' = later r.rank r.most u

  was : (v : ℕ) → (v ≡ u → ⊥) → mark' v ≡ 1 → mark v ≡ 1
  was v f d = sym (p.kept v f) ∙ d

  pub here : rank' u ≡ suc r.most
  unfolding rank'
  here = later_here r.rank r.most u

  pub there : (v : ℕ) → (v ≡ u → ⊥) → rank' v ≡ r.rank v
  unfolding rank'
  there v f = later_other r.rank r.most u v f

  few' : (v : ℕ) → rank' v ≤ suc r.most
  few' v = go (ℕ_discrete v u)
    where
      go : Dec (v ≡ u) → rank' v ≤ suc r.most
      go (yes q) = rw q (omega (arith, here))
      go (no q) = omega (arith, there v q, r.few v)

  -- what is said of the inputs of a row that has them named
  inputs_named : (v : ℕ) → v < n → mark' v ≡ 1 → 0 < rank' v → (j : ℕ) → j < g.count v → mark (g.input v j) ≡ 1
  inputs_named v h d z j q = go (ℕ_discrete v u)
    where
      go : Dec (v ≡ u) → mark (g.input v j) ≡ 1
      go (yes e) = rw e (ready j (rw e at q))
      go (no e) = (r.below v j h (was v e d) (omega (arith, there v e)) q).0

  back : (v w : ℕ) → v < n → w < n → mark' v ≡ 1 → mark' w ≡ 1 → 0 < rank' v → 0 < rank' w → SameSig g m' v w → SameSig g m v w
  back v w h i d f y z s =
      record {
        alike = s.alike;
        inputs = λ j q.
            let a = inputs_named v h d y j q in
            let b = inputs_named w i f z j (omega (arith, s.alike.counts)) in
            sym (p.same (g.input v j) (other (g.input v j) a)) ∙ s.inputs j q ∙ p.same (g.input w j) (other (g.input w j) b);
      }

  -- and the other way: a signature of named rows stays
  pub fore : (v w : ℕ) → v < n → w < n → mark' v ≡ 1 → mark' w ≡ 1 → 0 < rank' v → 0 < rank' w → SameSig g m v w → SameSig g m' v w
  fore v w h i d f y z s =
      record {
        alike = s.alike;
        inputs = λ j q.
            let a = inputs_named v h d y j q in
            let b = inputs_named w i f z j (omega (arith, s.alike.counts)) in
            p.same (g.input v j) (other (g.input v j) a) ∙ s.inputs j q ∙ sym (p.same (g.input w j) (other (g.input w j) b));
      }

  -- the names of a named row's inputs stay
  pub inputs_kept : (v : ℕ) → v < n → mark' v ≡ 1 → 0 < rank' v → (j : ℕ) → j < g.count v → m' (g.input v j) ≡ m (g.input v j)
  inputs_kept v h d z j q = p.same (g.input v j) (other (g.input v j) (inputs_named v h d z j q))

  turned : {a : ℕ → ℕ} {v w : ℕ} → SameSig g a v w → SameSig g a w v
  turned s = record { alike = record { labels = sym s.alike.labels; counts = sym s.alike.counts }; inputs = λ j q. sym (s.inputs j (omega (arith, s.alike.counts))) }

  pub naming_more : Naming g n m' mark'
  naming_more =
      record {
        old = r.old;
        rank = rank';
        most = suc r.most;
        few = few';
        coarse = r.coarse;
        waits = λ v h f. let e = unlike v f in p.same v e ∙ r.waits v h (λ d. f (p.kept v e ∙ d));
        taken = λ v h d z. let e = early v z in p.same v e ∙ r.taken v h (was v e d) (sym (there v e) ∙ z);
        whole = λ v w h i q d z.
            let e = early v z in
            let k = r.whole v w h i q (was v e d) (sym (there v e) ∙ z) in
            let f = other w k.0 in
            (p.kept w f ∙ k.0, there w f ∙ k.1);
        below = λ v j h d z q. under v j h d z q (ℕ_discrete v u);
        names = λ v w h i d f y z s. one v w h i d f y z (back v w h i d f y z s) (ℕ_discrete v u) (ℕ_discrete w u);
      }
    where
      unlike : (v : ℕ) → (mark' v ≡ 1 → ⊥) → v ≡ u → ⊥
      unlike v f q = f (rw q p.marked)

      early : (v : ℕ) → rank' v ≡ 0 → v ≡ u → ⊥
      early v z q = let k : rank' u ≡ 0 = rw q at z in omega (arith, here)

      under : (v j : ℕ) → v < n → mark' v ≡ 1 → 0 < rank' v → j < g.count v → Dec (v ≡ u) → (mark' (g.input v j) ≡ 1) × (rank' (g.input v j) < rank' v)
      under v j h d z q (yes e) =
          let a = inputs_named v h d z j q in
          let f = other (g.input v j) a in
          let k : rank' v ≡ suc r.most = rw e here in
          (p.kept (g.input v j) f ∙ a, omega (arith, there (g.input v j) f, r.few (g.input v j)))
      under v j h d z q (no e) =
          let b = r.below v j h (was v e d) (omega (arith, there v e)) q in
          let f = other (g.input v j) b.0 in
          (p.kept (g.input v j) f ∙ b.0, omega (arith, there v e, there (g.input v j) f, b.1))

      one : (v w : ℕ) → v < n → w < n → mark' v ≡ 1 → mark' w ≡ 1 → 0 < rank' v → 0 < rank' w → SameSig g m v w → Dec (v ≡ u) → Dec (w ≡ u) → m' v ≡ m' w
      one v w h i d f y z s (yes a) (yes b) = rw (a, b) refl
      one v w h i d f y z s (yes a) (no b) =
          let k = name.all w i (was w b f) (omega (arith, there w b)) (turned (rw a at s)) in
          rw a (p.here ∙ sym k ∙ sym (p.same w b))
      one v w h i d f y z s (no a) (yes b) =
          let k = name.all v h (was v a d) (omega (arith, there v a)) (rw b at s) in
          rw b (p.same v a ∙ k ∙ sym p.here)
      one v w h i d f y z s (no a) (no b) =
          p.same v a ∙ r.names v w h i (was v a d) (was w b f) (omega (arith, there v a)) (omega (arith, there w b)) s ∙ sym (p.same w b)

  pub naming_rank : naming_more.rank ≡ rank'
  unfolding naming_more
  naming_rank = refl

-- ---- other marks for rows without a name

module _ {g : Graph} {n : ℕ} {m mark mark' : ℕ → ℕ} (r : Naming g n m mark) (fore : (v : ℕ) → mark v ≡ 1 → mark' v ≡ 1) (back : (v : ℕ) → mark' v ≡ 1 → mark v ≡ 1) where
  pub naming_marks : Naming g n m mark'
  naming_marks =
      record {
        old = r.old;
        rank = r.rank;
        most = r.most;
        few = r.few;
        coarse = r.coarse;
        waits = λ u h f. r.waits u h (λ d. f (fore u d));
        taken = λ u h d z. r.taken u h (back u d) z;
        whole = λ u v h i q d z. let w = r.whole u v h i q (back u d) z in (fore v w.0, w.1);
        below = λ u j h d z q. let w = r.below u j h (back u d) z q in (fore (g.input u j) w.0, w.1);
        names = λ u v h i d f y z s. r.names u v h i (back u d) (back v f) y z s;
      }

  pub marks_rank : naming_marks.rank ≡ r.rank
  unfolding naming_marks
  marks_rank = refl

pub begin_rank : {g : Graph} {n : ℕ} {c mark : ℕ → ℕ} (k : Coarse g n c) (w : (u v : ℕ) → u < n → v < n → c u ≡ c v → mark u ≡ 1 → mark v ≡ 1) (u : ℕ) → (naming_begin k w).rank u ≡ 0
unfolding naming_begin
begin_rank k w u = refl
