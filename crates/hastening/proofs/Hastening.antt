-- From marks that go by class to classes again.
use Prim.Native.Nat.{ℕ, ◌+◌, ◌≤◌, ◌<◌}
use native.Mathlib.Omega.{arith}
use native.Mathlib.Decide.{dec_lt}
use mathlib.Core.Path.{◌≡◌, refl, sym, ◌∙◌}
use mathlib.Core.List.{List, []}
use mathlib.Core.Logic.{inl}
use mathlib.Core.Bool.{Bool, true, false}
use lib.ListN.{length, get_or-eq_default}
use Rattle.rules.specs.Lists.{firsts}
use Rattle.rules.specs.Writes.{over_front}
use Rattle.rules.proofs.Lists.{firsts_length, firsts_at}
use Rattle.rules.proofs.Writes.{over_length, over_front_lem}
use Rattle.rows.specs.Joined.{Source, joined}
use Rattle.rows.specs.View.{view_rows}
use Rattle.rows.proofs.View.{viewed_few, viewed_closed}
use Rattle.rounds.specs.Classes.{class_of}
use Rattle.rounds.specs.Rounds.{Lowered}
use Rattle.rounds.proofs.Settling.{stands_refl, stands_trans}
use Rattle.names.proofs.Naming.{Named, naming_begin, begin_rank, named_coarse, lowering_lowered}
use Rattle.names.proofs.Slots.{slots_none, none_named}
use Rattle.names.specs.Waiting.{waiting}
use Rattle.names.proofs.Waiting.{waiting_most, waiting_falls}
use Rattle.naming.specs.InNaming.{InNaming, Went}
use Rattle.scanning.specs.Scanned.{ScanTo, to_some, to_none}
use Rattle.hastening.specs.Lowerings.{Emptied, Lowerable, LoweredFrom}
use Rattle.hastening.specs.Chosen.{Chosen, AllNamed, TurnSays, turn_on, turn_over}
use Rattle.hastening.specs.Ready.{Underway}
use Rattle.naming.proofs.Names.{one_bucket}
use Rattle.naming.proofs.Goings.{went_on}

-- ---- links emptied

pub emptied : (old links : List ℕ) → length old ≡ 4096 → links ≡ over_front (firsts (class_of []) 4096) old → Emptied links
emptied old links e q = record { long = long; zeros = λ k. go k (dec_lt k 4096) }
  where
    fits : length (firsts (class_of []) 4096) ≤ length old
    fits = omega (arith, firsts_length (class_of []) 4096)

    long : length links ≡ 4096
    long = rw q (over_length (firsts (class_of []) 4096) old fits ∙ e)

    go : (k : ℕ) → Dec (k < 4096) → class_of links k ≡ 0
    go k (yes h) = rw q (over_front_lem (firsts (class_of []) 4096) old fits k 0 (omega (arith, firsts_length (class_of []) 4096)) ∙ firsts_at (class_of []) 4096 k h)
    go k (no h) = get_or-eq_default links 0 (omega (arith, long))

-- ---- named

pub naming_from : (s : Source) (table cls marks links links' : List ℕ) → Chosen s table cls marks links → Emptied links' → InNaming s table cls marks links'
naming_from s table cls marks links links' c z =
    record {
      view = c.view;
      naming = naming_begin c.coarse by;
      slots = slots_none (begin_rank c.coarse by) (λ p. z.zeros (2048 + p));
      cls_long = c.classes.long;
      marks_long = c.marks_long;
      links_long = z.long;
      inside = λ u h. omega (arith, c.classes.lowered.low u h);
    }
  where
    by : (u v : ℕ) → u < view_rows s table → v < view_rows s table → class_of cls u ≡ class_of cls v → class_of marks u ≡ 1 → class_of marks v ≡ 1
    by u v h i e d = sym (c.classed.one u v h i e) ∙ d

pub turned : (s : Source) (table cls marks cls₁ marks₁ links₁ cls₂ marks₂ links₂ : List ℕ) (t : Bool) → Went s table cls marks cls₁ marks₁ links₁ → ScanTo s table cls₁ marks₁ links₁ cls₂ marks₂ links₂ (view_rows s table) t → TurnSays s table cls marks cls₂ marks₂ links₂ t
turned s table cls marks cls₁ marks₁ links₁ cls₂ marks₂ links₂ t w (to_some v x h f d) =
    let most = waiting_most (view_rows s table) (class_of marks) (class_of marks₁) (record { kept = w.kept }) in
    let less = waiting_falls (view_rows s table) (class_of marks₁) (class_of marks₂) (record { kept = v.kept }) x h f d in
    turn_on (went_on s table cls marks cls₁ marks₁ links₁ cls₂ marks₂ links₂ w v) (omega arith)
turned s table cls marks cls₁ marks₁ links₁ cls₂ marks₂ links₂ t w (to_none v c l k n) =
    turn_over (record { naming = v.naming; stands = stands_trans w.stands v.stands; left = n })

module _ (s : Source) (table old marks₀ cls marks links : List ℕ) (w : Went s table old marks₀ cls marks links) (cls' marks' links' : List ℕ) (t : Bool) (a : TurnSays s table cls marks cls' marks' links' t) where
  pub named_on : t ≡ true → Went s table old marks₀ cls' marks' links'
  named_on e = go (rw e at a)
    where
      go : TurnSays s table cls marks cls' marks' links' true → Went s table old marks₀ cls' marks' links'
      go (turn_on v l) = went_on s table old marks₀ cls marks links cls' marks' links' w v

  pub named_less : t ≡ true → waiting (view_rows s table) (class_of marks') < waiting (view_rows s table) (class_of marks)
  named_less e = go (rw e at a)
    where
      go : TurnSays s table cls marks cls' marks' links' true → waiting (view_rows s table) (class_of marks') < waiting (view_rows s table) (class_of marks)
      go (turn_on v l) = l

  pub named_all : t ≡ false → AllNamed s table old cls' marks' links'
  named_all e = go (rw e at a)
    where
      go : TurnSays s table cls marks cls' marks' links' false → AllNamed s table old cls' marks' links'
      go (turn_over n) = record { naming = n.naming; stands = stands_trans w.stands n.stands; left = n.left }

-- ---- lowered

module _ (s : Source) (table old cls marks links : List ℕ) (a : AllNamed s table old cls marks links) where
  pub named_lowerable : (n : ℕ) → n ≡ view_rows s table → Lowerable n cls marks
  named_lowerable n e =
      rw e
      (record {
        few = viewed_few a.naming.view;
        cls_long = a.naming.cls_long;
        marks_long = a.naming.marks_long;
        inside = a.naming.inside;
        small = λ u h. (a.left u h).few;
      })

  named : Named (joined s) (view_rows s table) (class_of cls) (class_of marks)
  named =
      record {
        naming = a.naming.naming;
        left = λ u v h i f r d z t.
            none_named a.naming.slots (one_bucket (joined s) (class_of cls)) u 64 ((a.left u h).full f (record { each = r })) (inl refl) v i d z t;
      }

  pub hastened : (n : ℕ) → n ≡ view_rows s table → (cls' links' : List ℕ) → LoweredFrom n cls marks cls' → Emptied links' → Underway s table old cls' marks links'
  hastened n e cls' links' l z =
      let k : LoweredFrom (view_rows s table) cls marks cls' = rw e at l in
      let low : Lowered (view_rows s table) (class_of cls') = lowering_lowered k.lowering in
      record {
        ready =
            record {
              view = a.naming.view;
              sorting =
                  record {
                    classes =
                        record {
                          long = omega (arith, k.stands.same, a.naming.cls_long);
                          few = viewed_few a.naming.view;
                          lowered = low;
                        };
                    coarse = named_coarse (viewed_closed a.naming.view) named (λ u h. (a.left u h).few) k.lowering;
                    new_long = a.naming.marks_long;
                    stale =
                        record {
                          long = omega (arith, z.long);
                          inside = λ some b h. omega (arith, z.zeros (2048 + b));
                          old = λ some b h. rw (z.zeros (2048 + b)) (omega (arith, low.low 0 some));
                        };
                    stands = stands_refl (view_rows s table) cls';
                  };
            };
        stands = stands_trans a.stands k.stands;
      }
