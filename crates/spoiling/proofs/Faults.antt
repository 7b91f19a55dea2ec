-- A row looked at by itself, and all rows.
use Rattle.std.proofs.Common.{ℕ, ◌+◌, ◌≤◌, ◌<◌, arith, ◌≡◌, refl, sym, ap, ◌∙◌, Bool, true, false, not, eqb, List, length, get_or, set, length-set, get_or-set_same, get_or-set_other}
use native.Mathlib.Decide.{ℕ_discrete}
use Rattle.rules.specs.Answers.{Says, says_yes, says_no}
use Rattle.rules.proofs.Answers.{says_same, said_yes, said_no}
use Rattle.store.specs.Layout.{label_of, count_of, input_of, store_graph}
use Rattle.store.specs.Rows.{RowThere}
use Rattle.store.proofs.Room.{row_there}
use Rattle.wires.specs.Wires.{is_wire, Wire}
use Rattle.mends.specs.Entries.{entry_of, Marked}
use Rattle.spoiling.specs.Own.{AstrayInput, WrongWire, OwnFault, crowded, astray, wired_wrong, OwnAsks, OwnMarked, MarkSays, mark_bad, mark_good}

-- some input is astray, or each is a row taken; the set `ranges` takes a number of its range only where a list is read at it
module _ (most : ℕ) (w : List ℕ) (rows u count : ℕ) (e : count ≡ count_of most w u) where
  pub astray_told : (r : Bool) → (r ≡ true → (j : ℕ) × (j < count) × (rows ≤ input_of most w u j)) → (r ≡ false → (j i : ℕ) → i ≡ get_or w j 0 → j < count → input_of most w u j < rows) → Says (AstrayInput most w rows u) r
  astray_told true found inside = let m = found refl in says_yes (record { place = m.0; used = omega (arith, m.1, e); past = m.2 })
  astray_told false found inside = says_no (λ m. let h = inside refl m.place _ refl (omega (arith, m.used, e)) in omega (arith, m.past))

pub wire_told : (most : ℕ) (w : List ℕ) (u x : ℕ) (r : Bool) → x ≡ label_of most w u → r ≡ is_wire x → Says (Wire (store_graph most w) u) r
unfolding store_graph
wire_told most w u x r e q = rw q (go (is_wire x) refl)
  where
    go : (t : Bool) → is_wire x ≡ t → Says (Wire (store_graph most w) u) t
    go true z = says_yes (record { is = ap is_wire (sym e) ∙ z })
    go false z = says_no (λ y. let o : ◌≡◌ {A = ℕ} 0 1 = cc (y.is, ap is_wire e, z) in omega arith)

module _ (most : ℕ) (w : List ℕ) (u x : ℕ) (e : x ≡ count_of most w u) where
  pub wrong_not : x ≡ 1 → Says (WrongWire most w u) (not (eqb x 1))
  wrong_not q = rw q (says_no (λ m. m.count (sym e ∙ q)))

  pub wrong_told : (x ≡ 1 → ⊥) → (r : Bool) → Says (Wire (store_graph most w) u) r → Says (WrongWire most w u) r
  wrong_told f r s = says_same ((λ m. record { wire = m; count = λ q. f (e ∙ q) }), (λ m. m.wire)) s

module _ (most : ℕ) (w : List ℕ) (rows u x : ℕ) (t : RowThere most w u) (e : x ≡ count_of most w u) where
  pub own_crowded : most < x → Says (OwnFault most w rows u) true
  own_crowded h = says_yes (crowded (omega arith))

  module _ (few : x ≤ most) (r : Bool) (s : Says (WrongWire most w u) r) where
    pub own_wrong : r ≡ true → Says (OwnFault most w rows u) r
    own_wrong q = rw q (says_yes (wired_wrong (said_yes (rw q at s))))

    pub own_told : r ≡ false → (b : Bool) → Says (AstrayInput most w rows u) b → Says (OwnFault most w rows u) b
    own_told q b d = says_same (astray, back) d
      where
        back : OwnFault most w rows u → AstrayInput most w rows u
        back (crowded h) = absurd (omega arith)
        back (astray m) = m
        back (wired_wrong m) = absurd (said_no (rw q at s) m)

-- ---- the mark

module _ (most : ℕ) (w : List ℕ) (rows : ℕ) (old : List ℕ) (u : ℕ) (r : Bool) (s : Says (OwnFault most w rows u) r) where
  pub mark_yes : r ≡ true → MarkSays most w rows old u (set old u 4294967295)
  mark_yes e = mark_bad (said_yes (rw e at s)) refl

  pub mark_no : r ≡ false → MarkSays most w rows old u (set old u 0)
  mark_no e = mark_good (said_no (rw e at s)) refl

-- ---- all rows

module _ (most n : ℕ) (w old : List ℕ) (a : OwnAsks most n w old) where
  module _ (list : List ℕ) (u : ℕ) (s : OwnMarked most n w old list u) where
    pub own_there : u < n → RowThere most w u
    own_there h = row_there most w n u a.limit h a.room

    pub own_entry : u < n → u < length list
    own_entry h = omega (arith, a.entries, s.long)

    module _ (h : u < n) where
      set_row : (y : ℕ) → (y ≡ 4294967295 → OwnFault most w n u) → ((y ≡ 4294967295 → ⊥) → OwnFault most w n u → ⊥) → OwnMarked most n w old (set list u y) (u + 1)
      set_row y yes_row no_row =
          record {
            some = omega arith;
            long = length-set list u y ∙ s.long;
            fault = λ x l m. bad x l m (ℕ_discrete x u);
            fine = λ x l f. good x l f (ℕ_discrete x u);
            rest = λ x l. other x (λ z. omega arith) ∙ s.rest x (omega arith);
          }
        where
          here : entry_of (set list u y) u ≡ y
          here = get_or-set_same list u y 0 (own_entry h)

          other : (x : ℕ) → (x ≡ u → ⊥) → entry_of (set list u y) x ≡ entry_of list x
          other x d = get_or-set_other list u x y 0 d

          bad : (x : ℕ) → x < u + 1 → Marked (set list u y) x → Dec (x ≡ u) → OwnFault most w n x
          bad x l m (yes z) = rw z (yes_row (sym here ∙ (rw z at m)))
          bad x l m (no z) = s.fault x (omega arith) (sym (other x z) ∙ m)

          good : (x : ℕ) → x < u + 1 → (Marked (set list u y) x → ⊥) → Dec (x ≡ u) → OwnFault most w n x → ⊥
          good x l f (yes z) = rw z (no_row (λ k. f (rw z (here ∙ k))))
          good x l f (no z) = s.fine x (omega arith) (λ k. f (other x z ∙ k))

      pub own_more : (new : List ℕ) → MarkSays most w n list u new → OwnMarked most n w old new (u + 1)
      own_more new (mark_bad m z) = rw z (set_row 4294967295 (λ k. m) (λ f. absurd (f refl)))
      own_more new (mark_good f z) = rw z (set_row 0 (λ k. absurd (omega arith)) (λ k. f))
