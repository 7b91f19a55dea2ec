-- A round over arrays: the rows before u are placed, and the next row is placed by one of three ways.
use Prim.Native.Nat.{ℕ, ◌+◌, ◌≤◌, ◌<◌}
use native.Mathlib.Omega.{arith}
use native.Mathlib.Decide.{ℕ_discrete}
use mathlib.Core.Path.{◌≡◌, refl, sym, ap, ◌∙◌}
use mathlib.Core.List.{List}
use mathlib.Core.Logic.{◌⊎◌, inl, inr}
use lib.ListN.{length, set, length-set, replicate, length-replicate, get_or-replicate}
use borrow.Author.Tests.{eq-eqb, ne_eqb}
use lib.Seq.{get_or-set_same, get_or-set_other}
use Rattle.trees.specs.Graph.{Graph}
use Rattle.rounds.specs.Rounds.{SameSig, Together, LowestWith, Lowered}
use Rattle.rounds.proofs.Rounds.{refined_low}
use Rattle.rounds.specs.Classes.{class_of}
use Rattle.rounds.proofs.Chains.{Put, Bucketed, head_lowest, seek_begin, seek_on, seek_less, seek_found, seek_none, first_lowest, refined_more, chain_kept, chain_more, set_put}
use Rattle.rounds.specs.Chains.{NewHead}
use Rattle.rounds.specs.Buckets.{bucket_in}
use Rattle.rounds.proofs.Buckets.{buckets}
use Rattle.rounds.specs.Placing.{Classes, Headed, InRound, SeekingIn, Stale, head_in, start_of}

pub round_begin : (g : Graph) (n : ℕ) (cls new links : List ℕ) → n ≤ length new → Stale n cls links → InRound g n cls new links 0
round_begin g n cls new links a e =
    record {
      some = omega arith;
      new_long = a;
      links_long = e.long;
      refined = record { each = λ u h. absurd (omega arith) };
      headed = record { inside = e.inside; each = λ some b l. inl (e.old some b l) };
      chain = λ some.
          record {
            starts = λ x l. record { none = λ z w q. absurd (omega arith); some = λ z. absurd (z (simp (eq-eqb _ _ (e.old some x l)) refl)) };
            nexts = λ h q k. absurd (omega arith);
          };
    }

module _ (g : Graph) (n : ℕ) (cls new links : List ℕ) (u : ℕ) (o : Classes n cls) (r : InRound g n cls new links u) (h : u < n) where
  lows : Lowered (u + 1) (class_of cls)
  lows =
      record {
        low = λ w q. o.lowered.low w (omega arith);
        own = λ w q. o.lowered.own w (omega arith);
      }

  bucketed : Bucketed g (bucket_in g (class_of cls)) (class_of cls) n
  bucketed = buckets g (class_of cls) n

  new_put : (v : ℕ) → Put (class_of new) (class_of (set new u v)) u v
  new_put v = set_put new u v (omega (arith, r.new_long))

  some_rows : 0 < n
  some_rows = omega arith

  -- the buckets' heads with one row more placed
  kept_headed : (v : ℕ) → Headed n cls (set new u v) links (u + 1)
  kept_headed v = record { inside = r.headed.inside; each = λ some b l. go (head_in links b) (r.headed.each some b l) }
    where
      go : (k : ℕ) → (class_of cls k ≡ k) ⊎ ((k < u) × (class_of new k ≡ k)) → (class_of cls k ≡ k) ⊎ ((k < u + 1) × (class_of (set new u v) k ≡ k))
      go k (inl e) = inl e
      go k (inr e) = let q = e.0 in inr (omega arith, get_or-set_other new u k v 0 (λ i. omega arith) ∙ e.1)

  -- the row goes with an earlier head, or is the lowest of its old class
  placed : (v : ℕ) → LowestWith g (class_of cls) u v → (NewHead (class_of cls) (class_of (set new u v)) u → ⊥) → InRound g n cls (set new u v) links (u + 1)
  placed v l f =
      record {
        some = omega arith;
        new_long = simp length-set r.new_long;
        links_long = r.links_long;
        refined = refined_more r.refined (new_put v) l;
        headed = kept_headed v;
        chain = λ some. chain_kept (r.chain some) (new_put v) f;
      }

  -- the lowest of its old class
  pub place_first : (x : ℕ) → x ≡ class_of cls u → x ≡ u → InRound g n cls (set new u u) links (u + 1)
  place_first x e i =
      let own : class_of cls u ≡ u = sym e ∙ i in
      placed u (first_lowest lows own) (λ k. k.late own)

  -- with a head before it
  pub place_with : (v : ℕ) → v < u → LowestWith g (class_of cls) u v → InRound g n cls (set new u v) links (u + 1)
  place_with v l s = placed v s (λ k. let e = sym (new_put v).here ∙ k.head in omega arith)

  -- the lowest row of its old class is a head, and one that it goes with if the signatures are equal
  pub with_old : (x : ℕ) → x ≡ class_of cls u → (x ≡ u → ⊥) → SameSig g (class_of cls) x u → LowestWith g (class_of cls) u x
  with_old x e f s =
      let b = lows.low u (omega arith) in
      let i : class_of cls x ≡ x = rw (sym e) at (lows.own u (omega arith)) in
      let l : x < u = omega arith in
      let q = (r.refined.each x l).goes.old in
      let up = lows.low (class_of new x) (omega (arith, refined_low r.refined x l)) in
      head_lowest r.refined bucketed h l (omega (arith, refined_low r.refined x l)) (record { old = i ∙ e; sig = s })

  pub seek_first : (b p : ℕ) → b ≡ bucket_in g (class_of cls) u → p ≡ start_of cls links b → SeekingIn g cls new u p
  seek_first b p e i = rw (i, e) (seek_begin r.refined bucketed h (r.chain some_rows))

  module _ (p : ℕ) (s : SeekingIn g cls new u p) (z : p ≡ 0 → ⊥) where
    pub seek_next : (x : ℕ) → (Together g (class_of cls) p u → ⊥) → x ≡ class_of links p → SeekingIn g cls new u x
    seek_next x f e = rw e (seek_on r.refined bucketed h s (r.chain some_rows) z f)

    pub next_less : (x : ℕ) → x ≡ class_of links p → x < p
    next_less x e = rw e (seek_less r.refined bucketed h s (r.chain some_rows) z)

    pub seek_with : Together g (class_of cls) p u → LowestWith g (class_of cls) u p
    seek_with t = seek_found r.refined bucketed h s z t

  -- no head has its signature
  pub seek_over : (x p : ℕ) → SeekingIn g cls new u p → p ≡ 0 → x ≡ class_of cls u → (x ≡ u → ⊥) → (SameSig g (class_of cls) x u → ⊥) → LowestWith g (class_of cls) u u
  seek_over x p s z e f m = seek_none r.refined bucketed h s lows (λ i. f (e ∙ i)) (λ t. m (rw e t)) z

  -- it becomes a head, and comes before the others of its bucket
  module _ (b : ℕ) (e : b ≡ bucket_in g (class_of cls) u) (f : class_of cls u ≡ u → ⊥) where
    x : ℕ
    x = start_of cls links b

    linked : List ℕ
    linked = set (set links u x) (2048 + b) u

    small : b < 2048
    small = rw e (bucketed.small u h)

    head_here : head_in linked b ≡ u
    unfolding linked
    head_here =
        let few = o.few in
        let long = r.links_long in
        get_or-set_same (set links u x) (2048 + b) u 0 (simp length-set (omega (arith, small)))

    head_other : (a : ℕ) → (a ≡ b → ⊥) → head_in linked a ≡ head_in links a
    unfolding linked
    head_other a i =
        let few = o.few in
        get_or-set_other (set links u x) (2048 + b) (2048 + a) u 0 (λ j. i (omega arith)) ∙ get_or-set_other links u (2048 + a) x 0 (λ j. omega arith)

    more_headed : Headed n cls (set new u u) linked (u + 1)
    more_headed = record { inside = λ some a l. within some a l (ℕ_discrete a b); each = λ some a l. go some a l (ℕ_discrete a b) }
      where
        within : 0 < n → (a : ℕ) → a < 2048 → Dec (a ≡ b) → head_in linked a < n
        within some a l (yes i) = rw (i, head_here) h
        within some a l (no i) = rw (head_other a i) (r.headed.inside some a l)

        go : 0 < n → (a : ℕ) → a < 2048 → Dec (a ≡ b) → (class_of cls (head_in linked a) ≡ head_in linked a) ⊎ ((head_in linked a < u + 1) × (class_of (set new u u) (head_in linked a) ≡ head_in linked a))
        go some a l (yes i) = rw (i, head_here) (inr (omega arith, (new_put u).here))
        go some a l (no i) = rw (head_other a i) ((kept_headed u).each some a l)

    start_here : start_of cls linked b ≡ u
    start_here = rw head_here (simp (ne_eqb _ _ f) refl)

    start_other : (a : ℕ) → (a ≡ b → ⊥) → start_of cls linked a ≡ start_of cls links a
    start_other a i = rw (head_other a i) refl

    link_here : class_of linked u ≡ x
    unfolding linked
    link_here =
        let few = o.few in
        let long = r.links_long in
        get_or-set_other (set links u x) (2048 + b) u u 0 (λ i. omega arith) ∙ get_or-set_same links u x 0 (omega arith)

    link_other : (v : ℕ) → v < u → class_of linked v ≡ class_of links v
    unfolding linked
    link_other v q =
        let few = o.few in
        get_or-set_other (set links u x) (2048 + b) v u 0 (λ i. omega arith) ∙ get_or-set_other links u v x 0 (λ i. omega arith)

    pub place_new : LowestWith g (class_of cls) u u → InRound g n cls (set new u u) (set (set links u (start_of cls links b)) (2048 + b) u) (u + 1)
    unfolding linked x
    place_new l =
        let low = lows.low u (omega arith) in
        record {
          some = omega arith;
          new_long = simp length-set r.new_long;
          links_long = simp length-set r.links_long;
          refined = refined_more r.refined (new_put u) l;
          headed = more_headed;
          chain = λ some.
              chain_more (r.chain some) (new_put u) (start_of cls linked) (class_of linked)
              (record { head = (new_put u).here; late = f })
              (rw (sym e) small)
              (rw (sym e) start_here)
              (λ a m i. start_other a (λ j. i (j ∙ e)))
              (link_here ∙ ap (start_of cls links) e)
              link_other
              (λ i. f (omega arith));
        }

-- the round is over: every bucket's head is one of the new classes
pub round_stale : (g : Graph) (n : ℕ) (cls new links : List ℕ) → Classes n cls → InRound g n cls new links n → Stale n new links
round_stale g n cls new links o r =
    record {
      long = r.links_long;
      inside = r.headed.inside;
      old = λ some b l. go (head_in links b) (r.headed.inside some b l) (r.headed.each some b l);
    }
  where
    go : (k : ℕ) → k < n → (class_of cls k ≡ k) ⊎ ((k < n) × (class_of new k ≡ k)) → class_of new k ≡ k
    go k h (inl e) =
        let q = (r.refined.each k h).goes.old in
        let low = refined_low r.refined k h in
        let up = o.lowered.low (class_of new k) (omega arith) in
        omega arith
    go k h (inr e) = e.1

-- the same heads in classes with the same first values
pub stale_same : (n : ℕ) (c d links : List ℕ) → ((u : ℕ) → u < n → class_of d u ≡ class_of c u) → Stale n c links → Stale n d links
stale_same n c d links e s =
    record {
      long = s.long;
      inside = s.inside;
      old = λ some b l. e (head_in links b) (s.inside some b l) ∙ s.old some b l;
    }

-- before the first round every link is 0, and so is the class of row 0
pub stale_first : (n : ℕ) (cls links : List ℕ) → links ≡ replicate 4096 0 → (0 < n → class_of cls 0 ≡ 0) → Stale n cls links
stale_first n cls links e z =
    record {
      long = rw e (omega (arith, length-replicate {A = ℕ} 4096 0));
      inside = λ some b l. rw (zero_head b l) some;
      old = λ some b l. rw (zero_head b l) (z some);
    }
  where
    zero_head : (b : ℕ) → b < 2048 → head_in links b ≡ 0
    zero_head b l = rw e (get_or-replicate 4096 (2048 + b) 0 0 (omega arith))
