-- A walk changes marks of rows without a name and their links, and names rows that can be named.
use Prim.Native.Nat.{ℕ, ◌+◌, ◌/◌, ◌%◌, ◌<◌}
use native.Mathlib.Omega.{arith}
use mathlib.Core.Path.{◌≡◌, refl, sym, ◌∙◌}
use mathlib.Core.List.{List}
use mathlib.Core.Bool.{Bool, true}
use lib.ListN.{length, get_or, set, length-set}
use lib.Seq.{get_or-set_same, get_or-set_other}
use Rattle.rules.specs.Answers.{Says}
use Rattle.rules.specs.Lists.{widest}
use Rattle.rules.proofs.Answers.{said_yes}
use Rattle.store.specs.declared.row.Row.{Row}
use Rattle.rows.specs.Joined.{Source, joined, row_in}
use Rattle.rows.specs.View.{Viewed, view_rows}
use Rattle.rows.proofs.Rows.{in_count, in_input}
use Rattle.rows.proofs.View.{viewed_few, viewed_counts, viewed_closed}
use Rattle.rounds.specs.Classes.{class_of}
use Rattle.rounds.proofs.Settling.{stands_refl}
use Rattle.naming.specs.InNaming.{InNaming, InputsNamed, Nameable, Went, NameSays, says_named, says_unnamed}
use Rattle.visits.specs.Walked.{Bare, InputOr, DownSays, down_stays, down_enters}
use Rattle.naming.proofs.Goings.{changed, mark_fore, marked_anew, went_on}

module _ (s : Source) (table cls marks links : List ℕ) (o : InNaming s table cls marks links) where
  pub row_link : (u : ℕ) → u < view_rows s table → u < length links
  row_link u h = omega (arith, viewed_few o.view, o.links_long)

  -- another mark for a row without a name
  pub went_mark : (u x : ℕ) → u < view_rows s table → (class_of marks u ≡ 1 → ⊥) → (x ≡ 1 → ⊥) → (marks' : List ℕ) → marks' ≡ set marks u x → Went s table cls marks cls marks' links
  went_mark u x h f g marks' e =
      record {
        naming = marked_anew s table cls marks links o u x f g h marks' e;
        stands = stands_refl (view_rows s table) cls;
        kept = λ v i d. rw e (mark_fore s table cls marks links o u x f g v d);
      }

  three : ◌≡◌ {A = ℕ} 3 1 → ⊥
  three q = omega arith

  two : ◌≡◌ {A = ℕ} 2 1 → ⊥
  two q = omega arith

  -- ---- a row visited

  module _ (u : ℕ) (b : Bare s table marks u) (marks₁ : List ℕ) (w : marks₁ ≡ set marks u 3) where
    pub visit_left : Went s table cls marks cls marks₁ links
    visit_left = went_mark u 3 b.row b.bare three marks₁ w

    pub visit_opened : InNaming s table cls marks₁ links
    visit_opened = visit_left.naming

    three' : class_of marks₁ u ≡ 3
    three' = rw w (get_or-set_same marks u 3 0 (omega (arith, b.row, o.marks_long)))

    pub visit_nameable : (t : Bool) → Says (InputsNamed (joined s) marks₁ u) t → t ≡ true → Nameable s table marks₁ u
    visit_nameable t a q = record { row = b.row; bare = λ d. omega (arith, three'); named = said_yes (rw q at a) }

    pub visit_named : (cls' marks' links' : List ℕ) (t : Bool) → NameSays s table cls marks₁ links cls' marks' links' u t → Went s table cls marks cls' marks' links'
    visit_named cls' marks' links' t (says_named a d) = went_on s table cls marks cls marks₁ links cls' marks' links' visit_left a
    visit_named cls' marks' links' t (says_unnamed c d l p) = rw (c, d, l) visit_left

  -- ---- a step

  module _ (u : ℕ) (h : u < view_rows s table) (y : ℕ) (e : y ≡ class_of marks u) where
    pub step_bare : y % 4 ≡ 2 → Bare s table marks u
    step_bare q = record { row = h; bare = λ d. omega arith }

    module _ (x : ℕ) (i : InputOr s table (y / 4) x) (l : x < 2048) where
      pub step_asks : (u < length marks) × (x < length marks) × (x < length links) × (u < 65536) × (y + 4 < 65536)
      step_asks =
          let few = viewed_few o.view in
          let long = o.marks_long in
          let links_long = o.links_long in
          let a = i.inside l in
          let b = i.few l in
          (omega arith, omega arith, omega arith, omega arith, omega arith)

    pub step_down : y % 4 ≡ 2 → (x : ℕ) → InputOr s table (y / 4) x → x < 2048 → (marks' links' : List ℕ) → DownSays marks links marks' links' u (y + 4) x → Went s table cls marks cls marks' links'
    step_down q x n l marks' links' (down_stays a c) = rw c (went_mark u (y + 4) h (step_bare q).bare (λ i. omega arith) marks' a)
    step_down q x n l marks' links' (down_enters z a c) = entered
      where
        first : Went s table cls marks cls (set marks u (y + 4)) links
        first = went_mark u (y + 4) h (step_bare q).bare (λ i. omega arith) (set marks u (y + 4)) refl

        entered : Went s table cls marks cls marks' links'
        entered = go (enters first.naming)
          where
            enters : InNaming s table cls (set marks u (y + 4)) links → Went s table cls (set marks u (y + 4)) cls marks' links
            enters i =
                record {
                  naming = marked_anew s table cls (set marks u (y + 4)) links i x 2 (λ d. omega (arith, z)) two (n.inside l) marks' a;
                  stands = stands_refl (view_rows s table) cls;
                  kept = λ v k d. rw a (mark_fore s table cls (set marks u (y + 4)) links i x 2 (λ m. omega (arith, z)) two v d);
                }

            go : Went s table cls (set marks u (y + 4)) cls marks' links → Went s table cls marks cls marks' links'
            go k =
                record {
                  naming = rw c (changed s table cls marks' links k.naming marks' (set links x u) refl (length-set links x u ∙ o.links_long) (λ v d. d) (λ v d. d) (λ p. get_or-set_other links x (2048 + p) u 0 (λ i. omega (arith, l))));
                  stands = stands_refl (view_rows s table) cls;
                  kept = λ v i d. k.kept v i (first.kept v i d);
                }

    -- ---- a walk begins

    pub walk_enters : y ≡ 0 → (marks' links' : List ℕ) → marks' ≡ set marks u 2 → links' ≡ set links u 2048 → Went s table cls marks cls marks' links'
    walk_enters z marks' links' a c = go (went_mark u 2 h (λ d. omega arith) two marks' a)
      where
        go : Went s table cls marks cls marks' links → Went s table cls marks cls marks' links'
        go k =
            record {
              naming = rw c (changed s table cls marks' links k.naming marks' (set links u 2048) refl (length-set links u 2048 ∙ o.links_long) (λ v d. d) (λ v d. d) (λ p. get_or-set_other links u (2048 + p) 2048 0 (λ i. omega (arith, h, viewed_few o.view))));
              stands = stands_refl (view_rows s table) cls;
              kept = k.kept;
            }

    pub walk_entered : y ≡ 0 → (marks' links' : List ℕ) → marks' ≡ set marks u 2 → links' ≡ set links u 2048 → InNaming s table cls marks' links'
    walk_entered z marks' links' a c = (walk_enters z marks' links' a c).naming

-- ---- down

module _ (marks links marks₁ : List ℕ) (u mark x y : ℕ) (w : marks₁ ≡ set marks u mark) (e : y ≡ class_of marks₁ x) where
  pub down_not : DownSays marks links marks₁ links u mark x
  down_not = down_stays w refl

  pub down_on : y ≡ 0 → (marks₂ links₂ : List ℕ) → marks₂ ≡ set marks₁ x 2 → links₂ ≡ set links x u → DownSays marks links marks₂ links₂ u mark x
  down_on z marks₂ links₂ a b = down_enters (rw w at (sym e ∙ z)) (rw w at a) b

-- ---- an input

module _ (s : Source) (table : List ℕ) (v : Viewed s table) (u : ℕ) (h : u < view_rows s table) (row : Row) (r : row ≡ row_in (joined s) u) (j : ℕ) where
  counted : row.count ≡ (joined s).count u
  counted = rw r (in_count (joined s) u)

  pub input_room : j < row.count → j < widest
  input_room l = omega (arith, counted, viewed_counts v u h)

  pub input_there : j < row.count → InputOr s table j (get_or row.inputs j 0)
  input_there l =
      let a : get_or row.inputs j 0 ≡ (joined s).input u j = rw r (in_input (joined s) u (viewed_counts v u h) j (omega (arith, counted))) in
      record {
        inside = λ q. omega (arith, a, (viewed_closed v).within u j h (omega (arith, counted)));
        few = λ q. input_room l;
      }

pub input_over : (s : Source) (table : List ℕ) (j : ℕ) → InputOr s table j 2048
input_over s table j = record { inside = λ q. absurd (omega arith); few = λ q. absurd (omega arith) }
