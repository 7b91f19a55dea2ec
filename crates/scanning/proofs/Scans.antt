-- Rows looked at one after another, each named if it can be.
use Prim.Native.Nat.{ℕ, ◌+◌, ◌≤◌, ◌<◌}
use native.Mathlib.Omega.{arith}
use native.Mathlib.Decide.{ℕ_discrete}
use mathlib.Core.Path.{◌≡◌, refl, sym, ◌∙◌}
use mathlib.Core.List.{List}
use mathlib.Core.Bool.{Bool, true, false}
use lib.ListN.{set}
use lib.Seq.{get_or-set_same, get_or-set_other}
use Rattle.rules.specs.Answers.{Says}
use Rattle.rules.proofs.Answers.{said_yes, said_no}
use Rattle.rows.specs.Joined.{Source, joined}
use Rattle.rows.specs.View.{view_rows}
use Rattle.rounds.specs.Classes.{class_of}
use Rattle.rounds.proofs.Settling.{stands_refl, stands_trans}
use Rattle.naming.specs.InNaming.{InNaming, InputsNamed, Nameable, Went, NameSays, says_named, says_unnamed}
use Rattle.naming.proofs.Goings.{went_none, mark_fore, marked_anew}
use Rattle.scanning.specs.Scanned.{MarkChanged, LeftAt, ScanRow, row_named, row_left, ScanMore, more_now, more_before, ScanTo, to_some, to_none}

module _ (s : Source) (table cls marks links : List ℕ) (o : InNaming s table cls marks links) where
  -- ---- one row looked at

  module _ (u : ℕ) (h : u < view_rows s table) (y : ℕ) (e : y ≡ class_of marks u) where
    pub scan_known : y ≡ 1 → ScanRow s table cls marks links cls marks links u false
    scan_known z =
        row_left o refl refl (record { others = λ v f. refl; fore = λ d. d; back = λ d. d })
        (record { few = omega arith; full = λ f n. absurd (f (sym e ∙ z)) })

    module _ (f : y ≡ 1 → ⊥) (marks₁ : List ℕ) (w : marks₁ ≡ set marks u 0) where
      bare : class_of marks u ≡ 1 → ⊥
      bare d = f (e ∙ d)

      zero_not : ◌≡◌ {A = ℕ} 0 1 → ⊥
      zero_not q = omega arith

      pub scan_opened : InNaming s table cls marks₁ links
      scan_opened = marked_anew s table cls marks links o u 0 bare zero_not h marks₁ w

      opened : class_of marks₁ u ≡ 0
      opened = rw w (get_or-set_same marks u 0 0 (omega (arith, h, o.marks_long)))

      changes : MarkChanged marks marks₁ u
      changes =
          record {
            others = λ v q. rw w (get_or-set_other marks u v 0 0 (λ i. q (omega arith)));
            fore = λ d. absurd (bare d);
            back = λ d. absurd (omega (arith, opened));
          }

      pub scan_nameable : (t : Bool) → Says (InputsNamed (joined s) marks₁ u) t → t ≡ true → Nameable s table marks₁ u
      scan_nameable t a q = record { row = h; bare = λ d. omega (arith, opened); named = said_yes (rw q at a) }

      pub scan_unready : (t : Bool) → Says (InputsNamed (joined s) marks₁ u) t → t ≡ false → ScanRow s table cls marks links cls marks₁ links u false
      scan_unready t a q =
          row_left scan_opened refl refl changes
          (record { few = omega (arith, opened); full = λ d n. absurd (said_no (rw q at a) n) })

      pub scan_tried : (cls' marks' links' : List ℕ) (t : Bool) → NameSays s table cls marks₁ links cls' marks' links' u t → ScanRow s table cls marks links cls' marks' links' u t
      scan_tried cls' marks' links' t (says_named a d) =
          row_named
          (record {
            naming = a.naming;
            stands = a.stands;
            kept = λ v i q. a.kept v i (rw w (mark_fore s table cls marks links o u 0 bare zero_not v q));
          })
          bare d
      scan_tried cls' marks' links' t (says_unnamed c d l p) =
          rw (c, d, l)
          (row_left scan_opened refl refl changes
          (record { few = omega (arith, opened); full = λ q n. p }))

-- ---- row after row

module _ (s : Source) (table cls marks links cls' marks' links' : List ℕ) (u : ℕ) (t : Bool) (r : ScanRow s table cls marks links cls' marks' links' u t) (some : Bool) where
  pub scan_now : t ≡ true → ScanMore s table cls marks links cls' marks' links' u some true
  scan_now e = more_now (rw e at r)

  pub scan_before : t ≡ false → ScanMore s table cls marks links cls' marks' links' u some some
  scan_before e = more_before (rw e at r)

module _ (s : Source) (table cls marks links : List ℕ) where
  pub scan_none : InNaming s table cls marks links → ScanTo s table cls marks links cls marks links 0 false
  scan_none o = to_none (went_none s table cls marks links o) refl refl (λ v d. d) (λ v h. absurd (omega arith))

  module _ (cls₁ marks₁ links₁ : List ℕ) (u : ℕ) (some : Bool) (a : ScanTo s table cls marks links cls₁ marks₁ links₁ u some) where
    pub scan_going : InNaming s table cls₁ marks₁ links₁
    scan_going = go some a
      where
        go : (b : Bool) → ScanTo s table cls marks links cls₁ marks₁ links₁ u b → InNaming s table cls₁ marks₁ links₁
        go b (to_some w x h f d) = w.naming
        go b (to_none w c l k e) = w.naming

    scan_went : Went s table cls marks cls₁ marks₁ links₁
    scan_went = go some a
      where
        go : (b : Bool) → ScanTo s table cls marks links cls₁ marks₁ links₁ u b → Went s table cls marks cls₁ marks₁ links₁
        go b (to_some w x h f d) = w
        go b (to_none w c l k e) = w

    module _ (cls₂ marks₂ links₂ : List ℕ) where
      joined_went : Went s table cls₁ marks₁ cls₂ marks₂ links₂ → Went s table cls marks cls₂ marks₂ links₂
      joined_went w =
          record {
            naming = w.naming;
            stands = stands_trans scan_went.stands w.stands;
            kept = λ v h d. w.kept v h (scan_went.kept v h d);
          }

      module _ (o : InNaming s table cls₂ marks₂ links₂) (c : cls₂ ≡ cls₁) (l : links₂ ≡ links₁) (m : MarkChanged marks₁ marks₂ u) (e : LeftAt (joined s) cls₂ marks₂ links₂ u) where
        mark_up : (v : ℕ) → class_of marks₁ v ≡ 1 → class_of marks₂ v ≡ 1
        mark_up v d = go (ℕ_discrete v u)
          where
            go : Dec (v ≡ u) → class_of marks₂ v ≡ 1
            go (yes i) = rw i (m.fore (rw i at d))
            go (no i) = m.others v i ∙ d

        mark_down : (v : ℕ) → class_of marks₂ v ≡ 1 → class_of marks₁ v ≡ 1
        mark_down v d = go (ℕ_discrete v u)
          where
            go : Dec (v ≡ u) → class_of marks₁ v ≡ 1
            go (yes i) = rw i (m.back (rw i at d))
            go (no i) = sym (m.others v i) ∙ d

        changed_went : Went s table cls₁ marks₁ cls₂ marks₂ links₂
        changed_went = record { naming = o; stands = rw c (stands_refl (view_rows s table) cls₁); kept = λ v h d. mark_up v d }

        lefts : ((v : ℕ) → v < u → LeftAt (joined s) cls₁ marks₁ links₁ v) → (v : ℕ) → v < u + 1 → LeftAt (joined s) cls₂ marks₂ links₂ v
        lefts f v h = go (ℕ_discrete v u)
          where
            go : Dec (v ≡ u) → LeftAt (joined s) cls₂ marks₂ links₂ v
            go (yes i) = rw i e
            go (no i) =
                let b = f v (omega arith) in
                record {
                  few = rw (m.others v i) b.few;
                  full = λ d n. rw (c, l) (b.full (λ q. d (mark_up v q)) (record { each = λ j q. mark_down ((joined s).input v j) (n.each j q) }));
                }

      pub scan_on : u < view_rows s table → (t : Bool) → ScanMore s table cls₁ marks₁ links₁ cls₂ marks₂ links₂ u some t → ScanTo s table cls marks links cls₂ marks₂ links₂ (u + 1) t
      scan_on h t (more_now (row_named w f d)) = to_some (joined_went w) u h (λ q. f (scan_went.kept u h q)) d
      scan_on h t (more_before (row_left o c l m e)) = go some a
        where
          go : (b : Bool) → ScanTo s table cls marks links cls₁ marks₁ links₁ u b → ScanTo s table cls marks links cls₂ marks₂ links₂ (u + 1) b
          go b (to_some w x i f d) = to_some (joined_went (changed_went o c l m e)) x i f (mark_up o c l m e x d)
          go b (to_none w y z k n) = to_none (joined_went (changed_went o c l m e)) (c ∙ y) (l ∙ z) (λ v d. k v (mark_down o c l m e v d)) (lefts o c l m e n)

    pub scan_over : (n : ℕ) → n ≡ view_rows s table → u ≤ n → n ≤ u → ScanTo s table cls marks links cls₁ marks₁ links₁ (view_rows s table) some
    scan_over n e h i = let q : u ≡ view_rows s table = omega arith in rw (sym q) a
