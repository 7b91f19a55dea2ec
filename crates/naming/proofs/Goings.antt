-- Naming goes on: named rows stay named, and marks and links of rows without a name may change.
use Prim.Native.Nat.{ℕ, ◌<◌}
use native.Mathlib.Omega.{arith}
use native.Mathlib.Decide.{ℕ_discrete}
use mathlib.Core.Path.{◌≡◌, refl, sym, ◌∙◌}
use mathlib.Core.List.{List}
use lib.ListN.{length, set, length-set}
use lib.Seq.{get_or-set_same, get_or-set_other}
use Rattle.rows.specs.Joined.{Source}
use Rattle.rows.specs.View.{view_rows}
use Rattle.rounds.specs.Classes.{class_of}
use Rattle.rounds.proofs.Settling.{stands_refl, stands_trans}
use Rattle.names.proofs.Naming.{naming_marks, marks_rank}
use Rattle.names.proofs.Slots.{slots_marks}
use Rattle.naming.specs.InNaming.{slot_of, InNaming, Went}

pub went_on : (s : Source) (table cls marks cls₁ marks₁ links₁ cls₂ marks₂ links₂ : List ℕ) → Went s table cls marks cls₁ marks₁ links₁ → Went s table cls₁ marks₁ cls₂ marks₂ links₂ → Went s table cls marks cls₂ marks₂ links₂
went_on s table cls marks cls₁ marks₁ links₁ cls₂ marks₂ links₂ a b =
    record {
      naming = b.naming;
      stands = stands_trans a.stands b.stands;
      kept = λ u h d. b.kept u h (a.kept u h d);
    }

module _ (s : Source) (table cls marks links : List ℕ) (o : InNaming s table cls marks links) where
  pub went_none : Went s table cls marks cls marks links
  went_none = record { naming = o; stands = stands_refl (view_rows s table) cls; kept = λ u h d. d }

  -- other marks for rows without a name, and other entries of rows in the links
  pub changed : (marks' links' : List ℕ) → length marks' ≡ length marks → length links' ≡ 4096 → ((v : ℕ) → class_of marks v ≡ 1 → class_of marks' v ≡ 1) → ((v : ℕ) → class_of marks' v ≡ 1 → class_of marks v ≡ 1) → ((p : ℕ) → slot_of links' p ≡ slot_of links p) → InNaming s table cls marks' links'
  changed marks' links' l k fore back same =
      record {
        view = o.view;
        naming = naming_marks o.naming fore back;
        slots = rw (marks_rank o.naming fore back) (slots_marks o.slots fore back same);
        cls_long = o.cls_long;
        marks_long = omega (arith, o.marks_long);
        links_long = k;
        inside = o.inside;
      }

  module _ (u x : ℕ) (bare : class_of marks u ≡ 1 → ⊥) (other : x ≡ 1 → ⊥) where
    pub mark_fore : (v : ℕ) → class_of marks v ≡ 1 → class_of (set marks u x) v ≡ 1
    mark_fore v d = go (ℕ_discrete v u)
      where
        go : Dec (v ≡ u) → class_of (set marks u x) v ≡ 1
        go (yes e) = absurd (bare (rw e at d))
        go (no e) = get_or-set_other marks u v x 0 (λ q. e (omega arith)) ∙ d

    pub mark_back : u < view_rows s table → (v : ℕ) → class_of (set marks u x) v ≡ 1 → class_of marks v ≡ 1
    mark_back h v d = go (ℕ_discrete v u)
      where
        go : Dec (v ≡ u) → class_of marks v ≡ 1
        go (yes e) = absurd (other (sym (get_or-set_same marks u x 0 (omega (arith, h, o.marks_long))) ∙ (rw e at d)))
        go (no e) = sym (get_or-set_other marks u v x 0 (λ q. e (omega arith))) ∙ d

    pub marked_anew : u < view_rows s table → (marks' : List ℕ) → marks' ≡ set marks u x → InNaming s table cls marks' links
    marked_anew h marks' e = rw e (changed (set marks u x) links (length-set marks u x) o.links_long mark_fore (mark_back h) (λ p. refl))
