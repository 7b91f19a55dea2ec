-- Members of a list of rows: the test `has`, lists that grow at the end, and what meeting a row does to the list, all by places.
use Prim.Native.Nat.{ℕ, zero, suc, ◌+◌, ◌≤◌, ◌<◌}
use native.Mathlib.Omega.{arith}
use native.Mathlib.Decide.{dec_lt}
use mathlib.Core.Path.{◌≡◌, refl, sym, ap, ◌∙◌}
use mathlib.Core.List.{List, [], ◌∷◌, ◌++◌}
use mathlib.Core.Bool.{Bool, true, false}
use lib.ListN.{length, get_or, length-append, get_or-append}
use lib.Seq.{get_or_at}
use Rattle.rules.specs.Pick.{pick}
use Rattle.rules.specs.Answers.{Says, says_yes, says_no}
use Rattle.rules.proofs.Answers.{says_unique, said_no}
use Rattle.rules.proofs.Tested.{says_equal}
use Rattle.walks.specs.Walk.{has, meet}
use Rattle.walks.specs.Member.{Member}

-- two places of one row are one
pub record Once (l : List ℕ) : Type 0 where
  pub one : (i k : ℕ) → i < length l → k < length l → get_or l i 0 ≡ get_or l k 0 → i ≡ k

-- every place holds a row of which Q holds
pub record Each (Q : ℕ → Type 0) (l : List ℕ) : Type 0 where
  pub each : (i : ℕ) → i < length l → Q (get_or l i 0)

-- the list has grown at the end: every place is kept
pub record Grown (l r : List ℕ) : Type 0 where
  pub longer : length l ≤ length r
  pub kept : (i : ℕ) → i < length l → get_or r i 0 ≡ get_or l i 0

-- ---- members

pub member_at : (l : List ℕ) (i : ℕ) → i < length l → Member l (get_or l i 0)
member_at l i h = record { at = i; within = h; here = refl }

pub each_member : {Q : ℕ → Type 0} {l : List ℕ} {x : ℕ} → Each Q l → Member l x → Q x
each_member {Q} e m = rw m.here at (e.each m.at m.within)

pub single_each : {Q : ℕ → Type 0} {u : ℕ} → Q u → Each Q (u ∷ [])
single_each {Q} {u} q = record { each = each }
  where
    each : (i : ℕ) → i < length (u ∷ []) → Q (get_or (u ∷ []) i 0)
    each zero h = q
    each (suc i) h = absurd (omega arith)

-- past a first row that is another one
module _ {l : List ℕ} {x y : ℕ} (other : y ≡ x → ⊥) where
  past : (i : ℕ) → i < length (y ∷ l) → get_or (y ∷ l) i 0 ≡ x → Member l x
  past zero h e = absurd (other e)
  past (suc i) h e = record { at = i; within = omega arith; here = e }

  pub member_past : Member (y ∷ l) x → Member l x
  member_past m = past m.at m.within m.here

-- ---- the test

pub has_says : (l : List ℕ) (x : ℕ) → Says (Member l x) (has l x)
unfolding has
has_says [] x = says_no (λ m. omega (arith, m.within))
has_says (y ∷ l) x = go (says_equal y x) (has_says l x)
  where
    go : {a b : Bool} → Says (y ≡ x) a → Says (Member l x) b → Says (Member (y ∷ l) x) (pick a true b)
    go (says_yes e) s = says_yes (record { at = 0; within = omega arith; here = e })
    go (says_no f) (says_yes m) = says_yes (record { at = suc m.at; within = omega (arith, m.within); here = m.here })
    go (says_no f) (says_no n) = says_no (λ m. n (member_past f m))

pub has_yes : {l : List ℕ} {x : ℕ} → Member l x → has l x ≡ true
has_yes {l} {x} m = says_unique (has_says l x) (says_yes m)

pub has_no : {l : List ℕ} {x : ℕ} → (Member l x → ⊥) → has l x ≡ false
has_no {l} {x} n = says_unique (has_says l x) (says_no n)

pub no_has : (l : List ℕ) (x : ℕ) → has l x ≡ false → Member l x → ⊥
no_has l x e = said_no (rw e at (has_says l x))

-- ---- a list that has grown

pub grown_refl : (l : List ℕ) → Grown l l
grown_refl l = record { longer = omega arith; kept = λ i h. refl }

module _ {l r : List ℕ} (g : Grown l r) where
  pub grown_trans : {s : List ℕ} → Grown r s → Grown l s
  grown_trans h =
      record {
        longer = omega (arith, g.longer, h.longer);
        kept = λ i k. h.kept i (omega (arith, g.longer)) ∙ g.kept i k;
      }

  pub grown_member : {x : ℕ} → Member l x → Member r x
  grown_member m =
      record {
        at = m.at;
        within = omega (arith, m.within, g.longer);
        here = g.kept m.at m.within ∙ m.here;
      }

-- ---- a row met

-- the list when row x has been met: the same if x was there, else with x at the end
pub data Met (l : List ℕ) (x : ℕ) : List ℕ → Type 0 where
  known : Member l x → Met l x l
  new : (Member l x → ⊥) → Met l x (l ++ (x ∷ []))

pub met : (l : List ℕ) (x : ℕ) → Met l x (meet l x)
unfolding meet
met l x = go (has_says l x)
  where
    go : {a : Bool} → Says (Member l x) a → Met l x (pick a l (l ++ (x ∷ [])))
    go (says_yes m) = known m
    go (says_no n) = new n

module _ (l : List ℕ) (x : ℕ) where
  pub meet_in : has l x ≡ true → meet l x ≡ l
  unfolding meet
  meet_in e = rw e

  pub meet_new : has l x ≡ false → meet l x ≡ l ++ (x ∷ [])
  unfolding meet
  meet_new e = rw e

  -- the places of a list with one row more
  pub more_length : length (l ++ (x ∷ [])) ≡ length l + 1
  more_length = length-append l (x ∷ [])

  pub more_grown : Grown l (l ++ (x ∷ []))
  more_grown =
      record {
        longer = omega (arith, more_length);
        kept = λ i h. get_or-append l (x ∷ []) 0 i h;
      }

  pub more_last : get_or (l ++ (x ∷ [])) (length l) 0 ≡ x
  more_last = get_or_at l x [] 0 (length l) refl

  pub more_each : {Q : ℕ → Type 0} → Each Q l → Q x → Each Q (l ++ (x ∷ []))
  more_each {Q} e q = record { each = λ i h. go i h (dec_lt i (length l)) }
    where
      go : (i : ℕ) → i < length (l ++ (x ∷ [])) → Dec (i < length l) → Q (get_or (l ++ (x ∷ [])) i 0)
      go i h (yes k) = rw (more_grown.kept i k) (e.each i k)
      go i h (no k) = let j : i ≡ length l = omega (arith, more_length) in rw (j, more_last) q

  -- the new row stands at the new place only
  last_only : (Member l x → ⊥) → (i : ℕ) → i < length (l ++ (x ∷ [])) → get_or (l ++ (x ∷ [])) i 0 ≡ x → i ≡ length l
  last_only n i h e = go (dec_lt i (length l))
    where
      go : Dec (i < length l) → i ≡ length l
      go (yes k) = absurd (n (record { at = i; within = k; here = sym (more_grown.kept i k) ∙ e }))
      go (no k) = omega (arith, more_length)

  more_once : (Member l x → ⊥) → Once l → Once (l ++ (x ∷ []))
  more_once n o = record { one = λ i k hi hk e. go i k hi hk e (dec_lt i (length l)) (dec_lt k (length l)) }
    where
      r : List ℕ
      r = l ++ (x ∷ [])

      -- a row that stands at the new place stands at no other
      other : (i k : ℕ) → i < length r → k < length r → get_or r i 0 ≡ get_or r k 0 → (i < length l → ⊥) → i ≡ k
      other i k hi hk e q =
          let j : i ≡ length l = omega (arith, more_length) in
          j ∙ sym (last_only n k hk (sym e ∙ ap (λ w. get_or r w 0) j ∙ more_last))

      go : (i k : ℕ) → i < length r → k < length r → get_or r i 0 ≡ get_or r k 0 → Dec (i < length l) → Dec (k < length l) → i ≡ k
      go i k hi hk e (yes p) (yes q) = o.one i k p q (sym (more_grown.kept i p) ∙ e ∙ more_grown.kept k q)
      go i k hi hk e (yes p) (no q) = sym (other k i hk hi (sym e) q)
      go i k hi hk e (no p) q = other i k hi hk e p

module _ {l : List ℕ} {x : ℕ} where
  pub met_grown : {r : List ℕ} → Met l x r → Grown l r
  met_grown (known m) = grown_refl l
  met_grown (new n) = more_grown l x

  pub met_member : {r : List ℕ} → Met l x r → Member r x
  met_member (known m) = m
  met_member (new n) = record { at = length l; within = omega (arith, more_length l x); here = more_last l x }

  pub met_once : {r : List ℕ} → Met l x r → Once l → Once r
  met_once (known m) o = o
  met_once (new n) o = more_once l x n o

  pub met_each : {Q : ℕ → Type 0} {r : List ℕ} → Met l x r → Each Q l → Q x → Each Q r
  met_each (known m) e q = e
  met_each (new n) e q = more_each l x e q
