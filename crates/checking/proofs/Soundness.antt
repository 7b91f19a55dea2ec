-- Whether a store is sound, reckoned.
use Prim.Native.Nat.{ℕ, ◌≤◌, ◌<◌}
use native.Mathlib.Omega.{arith}
use native.Mathlib.Decide.{dec_lt}
use mathlib.Core.Path.{◌≡◌, refl}
use mathlib.Core.Bool.{Bool, true, false, not, ◌&&◌}
use mathlib.Core.List.{List}
use lib.ListN.{length}
use lib.Dec.{ltb, leb, eqb}
use borrow.Author.Tests.{lt-ltb, le-ltb}
use Rattle.rules.specs.Pick.{pick}
use Rattle.rules.specs.Answers.{Says, says_yes, says_no}
use Rattle.rules.proofs.Answers.{says_same}
use Rattle.rules.proofs.Tested.{says_equal}
use Rattle.trees.specs.Graph.{Graph, Closed}
use Rattle.trees.specs.Agreement.{Minimal}
use Rattle.wires.specs.Wires.{is_wire}
use Rattle.store.specs.Layout.{in_use, label_of, count_of, input_of, capacity_of, store_graph, room}
use Rattle.store.specs.Sound.{InputShaped, RowShaped, Shaped, Sound}
use Rattle.store.proofs.Graphs.{shaped_closed}
use Rattle.store.proofs.Shapes.{used_says, unused_says}
use Rattle.rounds.specs.Classes.{class_of}
use Rattle.classes.specs.Own.{OwnClasses}
use Rattle.classes.proofs.Owning.{own_distinct}
use Rattle.checking.proofs.Deciding.{says_both, says_most, all_below, says_all}
use Rattle.checking.proofs.Rounds.{classes_of}
use Rattle.checking.proofs.Classes.{classes_sorted}

-- ---- the shape

unfoldable pub input_is_shaped : List ℕ → (n j : ℕ) → Bool
input_is_shaped w n j = pick (ltb j (count_of room w n)) (ltb (input_of room w n j) (in_use w)) (eqb (input_of room w n j) 0)

unfoldable pub row_is_shaped : List ℕ → ℕ → Bool
row_is_shaped w n = not (is_wire (label_of room w n)) && (leb (count_of room w n) room && all_below (input_is_shaped w n) room)

unfoldable pub is_shaped : List ℕ → Bool
is_shaped w = leb (in_use w) (capacity_of room (length w)) && all_below (row_is_shaped w) (in_use w)

says_not : (t : Bool) → Says (t ≡ false) (not t)
says_not true = says_no (λ e. let z : ◌≡◌ {A = ℕ} 0 1 = cc in omega arith)
says_not false = says_yes refl

module _ (w : List ℕ) where
  says_input : (n j : ℕ) → Says (InputShaped room w (in_use w) n j) (input_is_shaped w n j)
  unfolding input_is_shaped
  says_input n j = go (dec_lt j (count_of room w n))
    where
      go : Dec (j < count_of room w n) → Says (InputShaped room w (in_use w) n j) (pick (ltb j (count_of room w n)) (ltb (input_of room w n j) (in_use w)) (eqb (input_of room w n j) 0))
      go (yes h) = rw (lt-ltb j (count_of room w n) h) (used_says room w (in_use w) n j (input_of room w n j) (count_of room w n) refl refl h)
      go (no h) =
          let l : count_of room w n ≤ j = omega arith in
          rw (le-ltb j (count_of room w n) l) (unused_says room w (in_use w) n j (input_of room w n j) (count_of room w n) refl refl l)

  says_row : (n : ℕ) → Says (RowShaped room w (in_use w) n) (row_is_shaped w n)
  unfolding row_is_shaped
  says_row n =
      says_same (
        (λ p. record { plain = p.0; few = p.1.0; used = λ j h. (p.1.1 j (omega (arith, p.1.0))).used h; unused = λ j h l. (p.1.1 j l).unused h }),
        (λ r. (r.plain, (r.few, λ j l. record { used = r.used j; unused = λ h. r.unused j h l }))),
      )
      (says_both (says_not (is_wire (label_of room w n))) (λ p. says_both (says_most (count_of room w n) room) (λ f. says_all room (λ j h. says_input n j))))

  pub says_shaped : Says (Shaped room w) (is_shaped w)
  unfolding is_shaped
  says_shaped =
      says_same ((λ p. record { fits = p.0; rows = p.1 }), (λ s. (s.fits, s.rows)))
      (says_both (says_most (in_use w) (capacity_of room (length w))) (λ f. says_all (in_use w) (λ n h. says_row n)))

-- ---- no two rows of the same tree: each row is its own class

unfoldable pub are_own : List ℕ → ℕ → Bool
are_own cls n = all_below (λ u. eqb (class_of cls u) u) n

unfoldable pub are_distinct : Graph → ℕ → Bool
are_distinct g n = are_own (classes_of g n) n

says_own : (cls : List ℕ) (n : ℕ) → Says (OwnClasses n cls) (are_own cls n)
unfolding are_own
says_own cls n =
    says_same ((λ f. record { own = f }), (λ o. o.own)) (says_all n (λ u h. says_equal (class_of cls u) u))

pub says_distinct : (g : Graph) (n : ℕ) → Closed g n → Says (Minimal g n) (are_distinct g n)
unfolding are_distinct
says_distinct g n closed = says_same (own_distinct (classes_sorted g n closed)) (says_own (classes_of g n) n)

-- ---- both

unfoldable pub is_sound : List ℕ → Bool
is_sound w = is_shaped w && are_distinct (store_graph room w) (in_use w)

pub says_sound : (w : List ℕ) → Says (Sound room w) (is_sound w)
unfolding is_sound
says_sound w =
    says_same ((λ p. record { shaped = p.0; distinct = p.1 }), (λ s. (s.shaped, s.distinct)))
    (says_both (says_shaped w) (λ s. says_distinct (store_graph room w) (in_use w) (shaped_closed room w s)))
