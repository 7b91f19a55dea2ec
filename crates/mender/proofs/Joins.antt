-- A cleaned store has the trees of the rows left, and gathered it is the mended store.
use Prim.Native.Nat.{ℕ, ◌<◌}
use native.Mathlib.Omega.{arith}
use mathlib.Core.Path.{◌≡◌, sym, ap, ◌∙◌}
use mathlib.Core.List.{List}
use Rattle.trees.specs.Agreement.{SameTree}
use Rattle.trees.proofs.Matching.{Renumbered, renumbered_same}
use Rattle.store.specs.Layout.{store_graph}
use Rattle.numbering.specs.Numbers.{trees_below, row_number}
use Rattle.writing.specs.After.{HasRow}
use Rattle.mends.specs.Words.{MendedWords}
use Rattle.mends.specs.Entries.{entry_of, Marked}
use Rattle.wires.specs.Wires.{through, skipping}
use Rattle.cleaning.specs.Cleaned.{IsBox, Cleaned}

module _ (most n : ℕ) (list w v : List ℕ) (s : Cleaned most n list w v) (ends : (u : ℕ) → u < n → (Marked list u → ⊥) → entry_of list u ≡ through (store_graph most w) u) where
  module _ (u : ℕ) (h : u < n) (f : Marked list u → ⊥) where
    box : IsBox most w v u (through (store_graph most w) u)
    box = rw (ends u h f) at (s.left u h f)

    pub cleaned_label : (store_graph most v).label u ≡ (skipping (store_graph most w)).label u
    unfolding store_graph skipping
    cleaned_label = box.label

    pub cleaned_count : (store_graph most v).count u ≡ (skipping (store_graph most w)).count u
    unfolding store_graph skipping
    cleaned_count = box.count

    pub cleaned_input : (j : ℕ) → j < (skipping (store_graph most w)).count u → (store_graph most v).input u j ≡ (skipping (store_graph most w)).input u j
    unfolding store_graph skipping
    cleaned_input j l = box.used j l

  -- the trees of rows left, whose inputs are rows left
  pub cleaned_same : ((u : ℕ) → u < n → (Marked list u → ⊥) → (j : ℕ) → j < (store_graph most v).count u → ((store_graph most v).input u j < n) × (Marked list ((store_graph most v).input u j) → ⊥)) → (u : ℕ) → u < n → (Marked list u → ⊥) → SameTree (store_graph most v) u (skipping (store_graph most w)) u
  cleaned_same closed u h f = renumbered_same r u (h, f)
    where
      r : Renumbered (store_graph most v) (λ u. (u < n) × (Marked list u → ⊥)) (skipping (store_graph most w)) (λ u. u)
      r =
          record {
            alike = λ u p. record { labels = cleaned_label u p.0 p.1; counts = cleaned_count u p.0 p.1 };
            inputs = λ u p j l. sym (cleaned_input u p.0 p.1 j (omega (arith, cleaned_count u p.0 p.1)));
            stays = λ u p j l. closed u p.0 p.1 j l;
          }

  -- what is gathered from the cleaned store is the mended store of the first
  pub gathered_mended : (c : ℕ → ℕ) (x : List ℕ) → ((u : ℕ) → u < n → c u < n → Marked list u → ⊥) → MendedWords most (store_graph most v) c n v x → MendedWords most (skipping (store_graph most w)) c n w x
  gathered_mended c x left m =
      record {
        long = m.long ∙ s.long;
        count = m.count;
        kept = λ u h e. turn u h (left u h (omega arith)) (m.kept u h e);
        freed = m.freed;
        past = λ k h. m.past k h ∙ s.past k h;
      }
    where
      turn : (u : ℕ) → u < n → (Marked list u → ⊥) → HasRow most (store_graph most v) c u x (trees_below c u) → HasRow most (skipping (store_graph most w)) c u x (trees_below c u)
      turn u h f t =
          let k = cleaned_count u h f in
          record {
            label = t.label ∙ cleaned_label u h f;
            count = t.count ∙ k;
            used = λ j l. t.used j (omega arith) ∙ ap (row_number c) (cleaned_input u h f j l);
            unused = λ j l q. t.unused j (omega arith) q;
          }
