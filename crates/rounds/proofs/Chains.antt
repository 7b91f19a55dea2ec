-- Chains of new heads. A head is a row that is its own class, and a round's new head was none before it. New heads are chained by
-- bucket, from the latest back; rows of one signature are of one bucket, so that a row looks along one chain only.
use Prim.Native.Nat.{ℕ, ◌+◌, ◌≤◌, ◌<◌}
use native.Mathlib.Omega.{arith}
use native.Mathlib.Decide.{dec_lt, ℕ_discrete}
use mathlib.Core.Path.{◌≡◌, refl, sym, ◌∙◌}
use mathlib.Core.List.{List}
use lib.ListN.{length, set}
use lib.Seq.{get_or-set_same, get_or-set_other}
use Rattle.trees.specs.Graph.{Graph}
use Rattle.rounds.specs.Classes.{class_of}
use Rattle.rounds.specs.Rounds.{SameSig, Together, LowestWith, Refined, Lowered}
use Rattle.rounds.proofs.Rounds.{together_refl, together_sym, together_trans, refined_low, refined_one, refined_lowered}
use Rattle.rounds.specs.Chains.{Chain, NewHead, Pointed, Seeking}

-- a bucket for each signature
pub record Bucketed (g : Graph) (k c : ℕ → ℕ) (n : ℕ) : Type 0 where
  pub small : (u : ℕ) → u < n → k u < 2048
  pub one : (u v : ℕ) → u < n → v < n → SameSig g c u v → k u ≡ k v

-- no row after p is a new head of a bucket, if p says the latest
pointed_after : {k c d : ℕ → ℕ} {b m p : ℕ} → Pointed k c d b m p → (w : ℕ) → p < w → w < m → NewHead c d w → k w ≡ b → ⊥
pointed_after {k} {c} {d} {b} {m} {p} o w q l h e = go (ℕ_discrete p 0)
  where
    go : Dec (p ≡ 0) → ⊥
    go (yes z) = o.none z w l h e
    go (no z) = (o.some z).after w q l h e

module _ {g : Graph} {k c d : ℕ → ℕ} {u n : ℕ} (r : Refined g c u d) (bk : Bucketed g k c n) (inside : u < n) where
  -- a head that goes with the row is the lowest row that does
  pub head_lowest : {h : ℕ} → h < u → d h ≡ h → Together g c h u → LowestWith g c u h
  head_lowest {h} l e t =
      record {
        goes = t;
        least = λ w q s.
            let low = refined_low r w (omega arith) in
            let one = refined_one r w h (omega arith) l (together_trans s (together_sym t)) in
            omega arith;
      }

  pub seek_begin : {start next : ℕ → ℕ} → Chain k c d start next u → Seeking g k c d u (start (k u))
  seek_begin {start} ch =
      let o = ch.starts (k u) (bk.small u inside) in
      record {
        below = λ z. (o.some z).below;
        new = λ z. (o.some z).new;
        bucket = λ z. (o.some z).bucket;
        passed = λ w q l h t. pointed_after o w q l h (bk.one w u (omega arith) inside t.sig);
      }

  module _ {p : ℕ} (s : Seeking g k c d u p) where
    pub seek_on : {start next : ℕ → ℕ} → Chain k c d start next u → (p ≡ 0 → ⊥) → (Together g c p u → ⊥) → Seeking g k c d u (next p)
    seek_on {start} {next} ch z f =
        record {
          below = λ y. omega (arith, (o.some y).below, l);
          new = λ y. (o.some y).new;
          bucket = λ y. (o.some y).bucket ∙ s.bucket z;
          passed = λ w q m h t. go w q m h t (dec_lt w p) (dec_lt p w);
        }
      where
        l : p < u
        l = s.below z

        o : Pointed k c d (k p) p (next p)
        o = ch.nexts p l (s.new z)

        go : (w : ℕ) → next p < w → w < u → NewHead c d w → Together g c w u → Dec (w < p) → Dec (p < w) → ⊥
        go w q m h t (yes x) y = pointed_after o w q x h (bk.one w u (omega arith) inside t.sig ∙ sym (s.bucket z))
        go w q m h t (no x) (yes y) = s.passed w y m h t
        go w q m h t (no x) (no y) = let i : w ≡ p = omega arith in f (rw i at t)

    -- the chain goes back
    pub seek_less : {start next : ℕ → ℕ} → Chain k c d start next u → (p ≡ 0 → ⊥) → next p < p
    seek_less {start} {next} ch z = go (ℕ_discrete (next p) 0)
      where
        go : Dec (next p ≡ 0) → next p < p
        go (yes y) = omega arith
        go (no y) = ((ch.nexts p (s.below z) (s.new z)).some y).below

    -- the head with the row's signature
    pub seek_found : (p ≡ 0 → ⊥) → Together g c p u → LowestWith g c u p
    seek_found z t = head_lowest (s.below z) (s.new z).head t

    -- the lowest row of the old class does not go with the row, and no new head does
    pub seek_none : Lowered (u + 1) c → (c u ≡ u → ⊥) → (SameSig g c (c u) u → ⊥) → p ≡ 0 → LowestWith g c u u
    seek_none lo late f z = record { goes = together_refl u; least = λ v q t. go v q (ℕ_discrete (c (d v)) (d v)) (dec_lt 0 (d v)) t }
      where
        go : (v : ℕ) → v < u → Dec (c (d v) ≡ d v) → Dec (0 < d v) → Together g c v u → ⊥
        go v q (yes e) x t =
            let b = together_trans (r.each v q).goes t in
            let i : d v ≡ c u = sym e ∙ b.old in
            f (rw i at b.sig)
        go v q (no e) (yes x) t =
            let low = refined_low r v q in
            s.passed (d v) (omega arith) (omega arith) (record { head = (refined_lowered r).own v q; late = e }) (together_trans (r.each v q).goes t)
        go v q (no e) (no x) t =
            let low = lo.low (d v) (omega arith) in
            e (omega arith)

-- a row that is the lowest of its old class is the first that goes with itself
pub first_lowest : {g : Graph} {c : ℕ → ℕ} {u : ℕ} → Lowered (u + 1) c → c u ≡ u → LowestWith g c u u
first_lowest {g} {c} {u} l e =
    record {
      goes = together_refl u;
      least = λ w q t. let b = l.low w (omega arith) in let o = t.old in omega arith;
    }

-- ---- one row more

-- e is d with the class v for row u
pub record Put (d e : ℕ → ℕ) (u v : ℕ) : Type 0 where
  pub same : (w : ℕ) → w < u → e w ≡ d w
  pub here : e u ≡ v

pub refined_more : {g : Graph} {c d e : ℕ → ℕ} {u v : ℕ} → Refined g c u d → Put d e u v → LowestWith g c u v → Refined g c (u + 1) e
refined_more {g} {c} {d} {e} {u} {v} r p l = record { each = λ w q. go w q (dec_lt w u) }
  where
    go : (w : ℕ) → w < u + 1 → Dec (w < u) → LowestWith g c w (e w)
    go w q (yes k) = rw (p.same w k) (r.each w k)
    go w q (no k) = let i : w ≡ u = omega arith in rw (i, p.here) l

module _ {c d e : ℕ → ℕ} {u v : ℕ} (p : Put d e u v) where
  was_new : (w : ℕ) → w < u → NewHead c e w → NewHead c d w
  was_new w l h = record { head = sym (p.same w l) ∙ h.head; late = h.late }

  is_new_lem : (w : ℕ) → w < u → NewHead c d w → NewHead c e w
  is_new_lem w l h = record { head = p.same w l ∙ h.head; late = h.late }

  kept_pointed : {k : ℕ → ℕ} {b m x : ℕ} → m ≤ u → Pointed k c d b m x → Pointed k c e b m x
  kept_pointed {k} {b} {m} {x} q o =
      record {
        none = λ z w l h i. o.none z w l (was_new w (omega arith) h) i;
        some = λ z.
            let t = o.some z in
            record {
              below = t.below;
              new = is_new_lem x (omega (arith, t.below)) t.new;
              bucket = t.bucket;
              after = λ w a l h i. t.after w a l (was_new w (omega arith) h) i;
            };
      }

  -- the row is no new head of the bucket
  more_pointed : {k : ℕ → ℕ} {b x : ℕ} → (NewHead c e u → k u ≡ b → ⊥) → Pointed k c d b u x → Pointed k c e b (u + 1) x
  more_pointed {k} {b} {x} f o =
      record {
        none = λ z w l h i. ends z w l h i (dec_lt w u);
        some = λ z.
            record {
              below = omega (arith, (s.some z).below);
              new = (s.some z).new;
              bucket = (s.some z).bucket;
              after = λ w a l h i. lasts z w a l h i (dec_lt w u);
            };
      }
    where
      s : Pointed k c e b u x
      s = kept_pointed (omega arith) o

      here : (w : ℕ) → w ≡ u → NewHead c e w → k w ≡ b → ⊥
      here w j h i = f (rw j at h) (rw j at i)

      ends : x ≡ 0 → (w : ℕ) → w < u + 1 → NewHead c e w → k w ≡ b → Dec (w < u) → ⊥
      ends z w l h i (yes m) = s.none z w m h i
      ends z w l h i (no m) = here w (omega arith) h i

      lasts : (x ≡ 0 → ⊥) → (w : ℕ) → x < w → w < u + 1 → NewHead c e w → k w ≡ b → Dec (w < u) → ⊥
      lasts z w a l h i (yes m) = (s.some z).after w a m h i
      lasts z w a l h i (no m) = here w (omega arith) h i

module _ {k c d e start next : ℕ → ℕ} {u v : ℕ} (ch : Chain k c d start next u) (p : Put d e u v) where
  -- the row is no new head
  pub chain_kept : (NewHead c e u → ⊥) → Chain k c e start next (u + 1)
  chain_kept f =
      record {
        starts = λ b l. more_pointed p (λ h i. f h) (ch.starts b l);
        nexts = λ h l n. go h l n (dec_lt h u);
      }
    where
      go : (h : ℕ) → h < u + 1 → NewHead c e h → Dec (h < u) → Pointed k c e (k h) h (next h)
      go h l n (yes m) = kept_pointed p (omega arith) (ch.nexts h m (was_new p h m n))
      go h l n (no m) = let j : h ≡ u = omega arith in absurd (f (rw j at n))

  -- the row is a new head, and comes before the others of its bucket
  pub chain_more : (start' next' : ℕ → ℕ) → NewHead c e u → k u < 2048 → start' (k u) ≡ u → ((b : ℕ) → b < 2048 → (b ≡ k u → ⊥) → start' b ≡ start b) → next' u ≡ start (k u) → ((h : ℕ) → h < u → next' h ≡ next h) → (u ≡ 0 → ⊥) → Chain k c e start' next' (u + 1)
  chain_more start' next' new small first others link links some =
      record {
        starts = λ b l. begins b l (ℕ_discrete b (k u));
        nexts = λ h l n. go h l n (dec_lt h u);
      }
    where
      begins : (b : ℕ) → b < 2048 → Dec (b ≡ k u) → Pointed k c e b (u + 1) (start' b)
      begins b l (yes i) =
          rw (i, first)
          (record {
            none = λ z. absurd (some z);
            some = λ z. record { below = omega arith; new = new; bucket = refl; after = λ w a m h j. absurd (omega arith) };
          })
      begins b l (no i) = rw (others b l i) (more_pointed p (λ h j. i (sym j)) (ch.starts b l))

      go : (h : ℕ) → h < u + 1 → NewHead c e h → Dec (h < u) → Pointed k c e (k h) h (next' h)
      go h l n (yes m) = rw (links h m) (kept_pointed p (omega arith) (ch.nexts h m (was_new p h m n)))
      go h l n (no m) = let j : h ≡ u = omega arith in rw (j, link) (kept_pointed p (omega arith) (ch.starts (k u) small))

-- ---- stores

pub set_put : (l : List ℕ) (u v : ℕ) → u < length l → Put (class_of l) (class_of (set l u v)) u v
set_put l u v h =
    record { same = λ w q. get_or-set_other l u w v 0 (λ e. omega arith); here = get_or-set_same l u v 0 h }
