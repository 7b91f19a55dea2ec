-- A round: rows of one old class stay together where their signatures are equal, and a class's number is its lowest row.
-- Rows of one tree are never parted; when a round parts nothing, one class is one tree.
use Prim.Native.Nat.{ℕ, suc, ◌≤◌, ◌<◌}
use native.Mathlib.Omega.{arith}
use native.Mathlib.Decide.{dec_le}
use mathlib.Core.Path.{◌≡◌, refl, sym, ◌∙◌}
use Rattle.trees.specs.Graph.{Graph, Closed}
use Rattle.trees.specs.Agreement.{Agree}
use Rattle.trees.specs.Sorting.{Stable, Coarse, Sorted}
use Rattle.trees.proofs.Agreement.{alike_refl, alike_sym, alike_trans, same_alike, same_input, agree_build, agree_input, agree_alike, agree_less}
use Rattle.trees.proofs.Sorting.{exact_of}
use Rattle.rounds.specs.Rounds.{Lowered, Refined, SameSig, Together}

-- ---- going together is an equivalence

module _ {g : Graph} {c : ℕ → ℕ} where
  pub sig_sym : {u v : ℕ} → SameSig g c u v → SameSig g c v u
  sig_sym s = record { alike = alike_sym s.alike; inputs = λ j h. sym (s.inputs j (omega (arith, s.alike.counts))) }

  pub together_refl : (u : ℕ) → Together g c u u
  together_refl u = record { old = refl; sig = record { alike = alike_refl g u; inputs = λ j h. refl } }

  pub together_sym : {u v : ℕ} → Together g c u v → Together g c v u
  together_sym t = record { old = sym t.old; sig = sig_sym t.sig }

  pub together_trans : {u v w : ℕ} → Together g c u v → Together g c v w → Together g c u w
  together_trans s t =
      record {
        old = s.old ∙ t.old;
        sig =
            record {
              alike = alike_trans s.sig.alike t.sig.alike;
              inputs = λ j h. s.sig.inputs j h ∙ t.sig.inputs j (omega (arith, s.sig.alike.counts));
            };
      }

  -- ---- what a round gives

  module _ {n : ℕ} {d : ℕ → ℕ} (r : Refined g c n d) where
    pub refined_low : (u : ℕ) → u < n → d u ≤ u
    refined_low u h = go (dec_le (d u) u)
      where
        go : Dec (d u ≤ u) → d u ≤ u
        go (yes q) = q
        go (no q) = absurd ((r.each u h).least u (omega arith) (together_refl u))

    below : (u v : ℕ) → u < n → v < n → Together g c u v → d u ≤ d v
    below u v h k t = go (dec_le (d u) (d v))
      where
        go : Dec (d u ≤ d v) → d u ≤ d v
        go (yes q) = q
        go (no q) = absurd ((r.each u h).least (d v) (omega arith) (together_trans (r.each v k).goes (together_sym t)))

    pub refined_one : (u v : ℕ) → u < n → v < n → Together g c u v → d u ≡ d v
    refined_one u v h k t = let a = below u v h k t in let b = below v u k h (together_sym t) in omega arith

    pub one_together : (u v : ℕ) → u < n → v < n → d u ≡ d v → Together g c u v
    one_together u v h k e = together_trans (together_sym (r.each u h).goes) (rw (sym e) at (r.each v k).goes)

    pub refined_lowered : Lowered n d
    refined_lowered =
        record {
          low = refined_low;
          own = λ u h. let l = refined_low u h in refined_one (d u) u (omega arith) h (r.each u h).goes;
        }

    -- classes only rise
    pub refined_up : Lowered n c → (u : ℕ) → u < n → c u ≤ d u
    refined_up l u h =
        let b = refined_low u h in
        let o = (r.each u h).goes.old in
        let p = l.low (d u) (omega arith) in
        omega arith

    -- rows of one tree stay together
    pub refined_coarse : Closed g n → Coarse g n c → Coarse g n d
    refined_coarse cl k =
        record {
          together = λ u v h i s.
              let a = same_alike s in
              refined_one u v h i
              (record {
                old = k.together u v h i s;
                sig =
                    record {
                      alike = a;
                      inputs = λ j q.
                          k.together (g.input u j) (g.input v j) (cl.within u j h q) (cl.within v j i (omega (arith, a.counts))) (same_input s j q);
                    };
              });
        }

    -- where nothing has moved, rows of one class have one signature
    pub still_stable : ((u : ℕ) → u < n → d u ≡ c u) → Stable g n c
    still_stable e =
        record {
          alike = λ u v h k q. (one_together u v h k (e u h ∙ q ∙ sym (e v k))).sig.alike;
          inputs = λ u v h k q. (one_together u v h k (e u h ∙ q ∙ sym (e v k))).sig.inputs;
        }

    -- classes that are agreement at depth k become agreement at depth k + 1
    pub refined_depth : Closed g n → (k : ℕ) → ((u v : ℕ) → u < n → v < n → c u ≡ c v → Agree k g u g v) → ((u v : ℕ) → u < n → v < n → Agree k g u g v → c u ≡ c v) → (u v : ℕ) → u < n → v < n → (d u ≡ d v → Agree (suc k) g u g v) × (Agree (suc k) g u g v → d u ≡ d v)
    refined_depth cl k to from u v h i = (
      λ e.
          let t = one_together u v h i e in
          agree_build g g k u v t.sig.alike (λ j q. to (g.input u j) (g.input v j) (cl.within u j h q) (cl.within v j i (omega (arith, t.sig.alike.counts))) (t.sig.inputs j q)),
      λ a.
          let s = agree_alike g g (suc k) u v a in
          refined_one u v h i
          (record {
            old = from u v h i (agree_less g g k (suc k) u v (omega arith) a);
            sig =
                record {
                  alike = s;
                  inputs = λ j q. from (g.input u j) (g.input v j) (cl.within u j h q) (cl.within v j i (omega (arith, s.counts))) (agree_input g g k u v a j q);
                };
          }),
    )

-- ---- the end: stable, coarse and by lowest rows is sorted

pub sorted_of : {g : Graph} {n : ℕ} {c : ℕ → ℕ} → Closed g n → Lowered n c → Coarse g n c → Stable g n c → Sorted g n c
sorted_of {g} {n} {c} cl l k s =
    let e = exact_of cl s k in
    record {
      exact = e;
      has = λ u h. let b = l.low u h in e.tree (c u) u (omega arith) h (l.own u h);
      lowest = λ u v h i t. let b = l.low v i in let q = e.class u v h i t in omega arith;
    }

-- ---- the beginning: all rows in class 0

module _ (n : ℕ) (c : ℕ → ℕ) (z : (u : ℕ) → u < n → c u ≡ 0) where
  pub zero_lowered : Lowered n c
  zero_lowered =
      record {
        low = λ u h. omega (arith, z u h);
        own = λ u h. z (c u) (omega (arith, z u h)) ∙ sym (z u h);
      }

  pub zero_coarse : (g : Graph) → Coarse g n c
  zero_coarse g = record { together = λ u v h k s. z u h ∙ sym (z v k) }
