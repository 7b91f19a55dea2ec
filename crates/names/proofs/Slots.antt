-- Slots of names: a named head stands in one of the 64 slots from its bucket on, and the slots before it were taken when it came.
-- A slot is never given up, so that a row looks from its bucket on until it meets its signature or an empty slot.
use Prim.Native.Nat.{ℕ, suc, ◌<◌}
use native.Mathlib.Omega.{arith}
use native.Mathlib.Decide.{dec_lt, ℕ_discrete}
use mathlib.Core.Path.{◌≡◌, refl, sym, ap, ◌∙◌}
use mathlib.Core.Logic.{◌⊎◌, inl, inr}
use Rattle.trees.specs.Graph.{Graph}
use Rattle.trees.proofs.Agreement.{alike_refl, alike_trans}
use Rattle.rounds.specs.Rounds.{SameSig}
use Rattle.rounds.proofs.Rounds.{sig_sym}
use Rattle.names.specs.Naming.{Naming}
use Rattle.names.proofs.Naming.{NameOf, NamedRow}
use Rattle.names.specs.Slots.{Passed, Slots, Stood, place}

pub sig_trans : {g : Graph} {m : ℕ → ℕ} {u v w : ℕ} → SameSig g m u v → SameSig g m v w → SameSig g m u w
sig_trans s t = record { alike = alike_trans s.alike t.alike; inputs = λ j q. s.inputs j q ∙ t.inputs j (omega (arith, s.alike.counts)) }

module _ {g : Graph} {n : ℕ} {m mark rank bucket slot : ℕ → ℕ} (o : Slots g n m mark rank bucket slot) (one : (v u : ℕ) → SameSig g m v u → bucket v ≡ bucket u) where
  -- nothing was met: no named row has the signature
  pub none_named : (u k : ℕ) → Passed g m slot (bucket u) u k → (k ≡ 64) ⊎ (slot (place (bucket u) k) ≡ 0) → (v : ℕ) → v < n → mark v ≡ 1 → 0 < rank v → SameSig g m v u → ⊥
  none_named u k p e v h d z s = go (o.stood v h d z) e
    where
      go : Stood g m slot (bucket v) v → (k ≡ 64) ⊎ (slot (place (bucket u) k) ≡ 0) → ⊥
      go t (inl full) = p.apart t.step (m v) (omega (arith, t.near)) (rw (one v u s) at t.here) (sig_trans t.sig s)
      go t (inr bare) = at (dec_lt t.step k) (dec_lt k t.step)
        where
          at : Dec (t.step < k) → Dec (k < t.step) → ⊥
          at (yes q) x = p.apart t.step (m v) q (rw (one v u s) at t.here) (sig_trans t.sig s)
          at (no q) (yes x) = t.before k x (rw (one v u s) bare)
          at (no q) (no x) =
              let i : t.step ≡ k = omega arith in
              let w : slot (place (bucket u) k) ≡ suc (m v) = rw (sym i) (rw (one v u s) at t.here) in
              omega (arith, w, bare)

  -- a holder with the signature: its number is the name of every named row that has it
  pub name_met : (r : Naming g n m mark) → r.rank ≡ rank → (u p h : ℕ) → slot p ≡ suc h → SameSig g m h u → NameOf g n m mark rank u h
  name_met r e u p h q s =
      record {
        all = λ v i d z t.
            let k = o.holders p h q in
            r.names v h i k.0 d k.1 (rw e z) (rw e k.2) (sig_trans t (sig_sym s)) ∙ k.3;
      }

-- ---- one row more

module _ {g : Graph} {n : ℕ} {m mark m' mark' rank rank' bucket bucket' slot : ℕ → ℕ} {u x : ℕ} (o : Slots g n m mark rank bucket slot) (p : NamedRow m mark m' mark' u x) (inside : u < n) (bare : mark u ≡ 1 → ⊥) (there : (v : ℕ) → (v ≡ u → ⊥) → rank' v ≡ rank v) (late : 0 < rank' u) (fore : (v w : ℕ) → v < n → w < n → mark' v ≡ 1 → mark' w ≡ 1 → 0 < rank' v → 0 < rank' w → SameSig g m v w → SameSig g m' v w) (moved : (v : ℕ) → v < n → mark' v ≡ 1 → 0 < rank' v → bucket' v ≡ bucket v) where
  -- what is said of a holder stays
  held : (h : ℕ) → (h < n) × (mark h ≡ 1) × (0 < rank h) × (m h ≡ h) → (h < n) × (mark' h ≡ 1) × (0 < rank' h) × (m' h ≡ h)
  held h k =
      let f : h ≡ u → ⊥ = λ q. bare (rw q at k.1) in
      (k.0, p.kept h f ∙ k.1, omega (arith, there h f, k.2), p.same h f ∙ k.3)

  -- a row named before: its head and the signature
  sig_kept : (v : ℕ) → (v ≡ u → ⊥) → v < n → mark' v ≡ 1 → 0 < rank' v → (q : ℕ) → slot q ≡ suc (m v) → SameSig g m (m v) v → SameSig g m' (m' v) v
  sig_kept v f h d z q e s =
      let k = held (m v) (o.holders q (m v) e) in
      rw (p.same v f) (fore (m v) v k.0 h k.1 d k.2 z s)

  was : (v : ℕ) → (v ≡ u → ⊥) → mark' v ≡ 1 → mark v ≡ 1
  was v f d = sym (p.kept v f) ∙ d

  -- the row has the name of a head that was there
  pub slots_with : (q h : ℕ) → slot q ≡ suc h → x ≡ h → SameSig g m h u → bucket h ≡ bucket u → Slots g n m' mark' rank' bucket' slot
  slots_with q h e y s b =
      record {
        holders = λ a k w. held k (o.holders a k w);
        stood = λ v i d z. go v i d z (ℕ_discrete v u);
      }
    where
      go : (v : ℕ) → v < n → mark' v ≡ 1 → 0 < rank' v → Dec (v ≡ u) → Stood g m' slot (bucket' v) v
      go v i d z (yes c) =
          let k = o.holders q h e in
          let l = held h k in
          let t = o.stood h k.0 k.1 k.2 in
          let name : m' v ≡ h = rw c (p.here ∙ y) in
          let place' : bucket' v ≡ bucket h = moved v i d z ∙ (rw c (sym b)) in
          record {
            step = t.step;
            near = t.near;
            here = rw (place', name) (t.here ∙ ap suc k.3);
            sig = rw name (fore h v l.0 i l.1 d l.2 z (rw c s));
            before = λ a w. rw place' (t.before a w);
          }
      go v i d z (no c) =
          let t = o.stood v i (was v c d) (omega (arith, there v c)) in
          record {
            step = t.step;
            near = t.near;
            here = rw (moved v i d z, p.same v c) t.here;
            sig = sig_kept v c i d z (place (bucket v) t.step) t.here t.sig;
            before = λ a w. rw (moved v i d z) (t.before a w);
          }

  -- the row is a head in an empty slot
  module _ (slot' : ℕ → ℕ) (k : ℕ) (near : k < 64) (passed : Passed g m slot (bucket u) u k) (void : slot (place (bucket u) k) ≡ 0) (filled : slot' (place (bucket u) k) ≡ suc u) (others : (q : ℕ) → (q ≡ place (bucket u) k → ⊥) → slot' q ≡ slot q) (own : x ≡ u) where
    other_slot : (q : ℕ) → slot' q ≡ 0 → slot q ≡ 0
    other_slot q e = go (ℕ_discrete q (place (bucket u) k))
      where
        go : Dec (q ≡ place (bucket u) k) → slot q ≡ 0
        go (yes c) = rw c void
        go (no c) = sym (others q c) ∙ e

    never : (q h : ℕ) → slot q ≡ suc h → q ≡ place (bucket u) k → ⊥
    never q h e c = let w : slot (place (bucket u) k) ≡ suc h = rw (sym c) e in omega (arith, w, void)

    pub slots_new : Slots g n m' mark' rank' bucket' slot'
    slots_new =
        record {
          holders = λ q h e. hold q h e (ℕ_discrete q (place (bucket u) k));
          stood = λ v i d z. go v i d z (ℕ_discrete v u);
        }
      where
        hold : (q h : ℕ) → slot' q ≡ suc h → Dec (q ≡ place (bucket u) k) → (h < n) × (mark' h ≡ 1) × (0 < rank' h) × (m' h ≡ h)
        hold q h e (yes c) =
            let w : slot' (place (bucket u) k) ≡ suc h = rw (sym c) e in
            let i : h ≡ u = omega (arith, w, filled) in
            rw i (inside, p.marked, late, p.here ∙ own)
        hold q h e (no c) = held h (o.holders q h (sym (others q c) ∙ e))

        go : (v : ℕ) → v < n → mark' v ≡ 1 → 0 < rank' v → Dec (v ≡ u) → Stood g m' slot' (bucket' v) v
        go v i d z (yes c) =
            let name : m' v ≡ u = rw c (p.here ∙ own) in
            let place' : bucket' v ≡ bucket u = moved v i d z ∙ (ap bucket c) in
            record {
              step = k;
              near = near;
              here = rw (place', name) filled;
              sig = rw (name, c) (record { alike = alike_refl g u; inputs = λ j q. refl });
              before = λ a w e. passed.taken a w (other_slot (place (bucket u) a) (rw (sym place') e));
            }
        go v i d z (no c) =
            let t = o.stood v i (was v c d) (omega (arith, there v c)) in
            record {
              step = t.step;
              near = t.near;
              here = rw (moved v i d z, p.same v c) (others (place (bucket v) t.step) (never (place (bucket v) t.step) (m v) t.here) ∙ t.here);
              sig = sig_kept v c i d z (place (bucket v) t.step) t.here t.sig;
              before = λ a w e. t.before a w (other_slot (place (bucket v) a) (rw (sym (moved v i d z)) e));
            }

-- ---- the same slots, with other marks for rows without a name

pub slots_marks : {g : Graph} {n : ℕ} {m mark mark' rank bucket slot slot' : ℕ → ℕ} → Slots g n m mark rank bucket slot → ((v : ℕ) → mark v ≡ 1 → mark' v ≡ 1) → ((v : ℕ) → mark' v ≡ 1 → mark v ≡ 1) → ((p : ℕ) → slot' p ≡ slot p) → Slots g n m mark' rank bucket slot'
slots_marks {g} {n} {m} {mark} {mark'} {rank} {bucket} {slot} {slot'} o fore back same =
    record {
      holders = λ p h e. let k = o.holders p h (sym (same p) ∙ e) in (k.0, fore h k.1, k.2, k.3);
      stood = λ v h d z. stays v (o.stood v h (back v d) z);
    }
  where
    stays : (v : ℕ) → Stood g m slot (bucket v) v → Stood g m slot' (bucket v) v
    stays v t =
        record {
          step = t.step;
          near = t.near;
          here = same (place (bucket v) t.step) ∙ t.here;
          sig = t.sig;
          before = λ i l e. t.before i l (sym (same (place (bucket v) i)) ∙ e);
        }

-- no row has a name yet but for its class
pub slots_none : {g : Graph} {n : ℕ} {m mark rank bucket slot : ℕ → ℕ} → ((u : ℕ) → rank u ≡ 0) → ((p : ℕ) → slot p ≡ 0) → Slots g n m mark rank bucket slot
slots_none f z =
    record {
      holders = λ p h e. absurd (omega (arith, z p));
      stood = λ v h d q. absurd (omega (arith, f v));
    }
