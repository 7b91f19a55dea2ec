-- Sorted classes of all rows give the lowest row of each tree among those that are not out.
use Prim.Native.Nat.{ℕ, zero, suc, ◌≤◌, ◌<◌}
use native.Mathlib.Omega.{arith}
use native.Mathlib.Decide.{dec_lt}
use mathlib.Core.Path.{◌≡◌, refl, sym, ap, ◌∙◌}
use mathlib.Core.Bool.{Bool, true, false}
use borrow.Author.Tests.{lt-ltb, le-ltb, eq-eqb, eqb-true}
use Rattle.rules.specs.Answers.{Says, says_yes, says_no}
use Rattle.trees.specs.Graph.{Graph}
use Rattle.trees.specs.Agreement.{SameTree}
use Rattle.trees.specs.Sorting.{Sorted}
use Rattle.trees.proofs.Agreement.{same_sym, same_trans}
use Rattle.mends.specs.Lowest.{Lowest}
use Rattle.mends.specs.Least.{least, keeps, chosen}

-- ---- the least

record IsLeast (t : ℕ → Bool) (n r : ℕ) : Type 0 where
  most : r ≤ n
  holds : r < n → t r ≡ true
  lowest : (v : ℕ) → v < n → t v ≡ true → r ≤ v

least_is : (t : ℕ → Bool) (n : ℕ) → IsLeast t n (least t n)
unfolding least
least_is t zero = record { most = omega arith; holds = λ h. absurd (omega arith); lowest = λ v h. absurd (omega arith) }
least_is t (suc n) = go (least_is t n) (dec_lt (least t n) n) (t n) refl
  where
    go : IsLeast t n (least t n) → Dec (least t n < n) → (x : Bool) → t n ≡ x → IsLeast t (suc n) (least t (suc n))
    go i (yes h) x e = rw (lt-ltb (least t n) n h) (record { most = omega arith; holds = λ k. i.holds h; lowest = λ v k q. below v q (dec_lt v n) })
      where
        below : (v : ℕ) → t v ≡ true → Dec (v < n) → least t n ≤ v
        below v q (yes k) = i.lowest v k q
        below v q (no k) = omega arith
    go i (no h) true e =
        rw (le-ltb (least t n) n (omega arith), e)
        (record { most = omega arith; holds = λ k. e; lowest = λ v k q. below v q (dec_lt v n) })
      where
        below : (v : ℕ) → t v ≡ true → Dec (v < n) → n ≤ v
        below v q (yes k) = omega (arith, i.lowest v k q)
        below v q (no k) = omega arith
    go i (no h) false e =
        rw (le-ltb (least t n) n (omega arith), e)
        (record { most = omega arith; holds = λ k. absurd (omega arith); lowest = λ v k q. below v k q (dec_lt v n) })
      where
        below : (v : ℕ) → v < suc n → t v ≡ true → Dec (v < n) → suc n ≤ v
        below v j q (yes k) = absurd (omega (arith, i.lowest v k q))
        below v j q (no k) = let z : v ≡ n = omega arith in let p : true ≡ false = sym q ∙ ap t z ∙ e in let y : ◌≡◌ {A = ℕ} 0 1 = cc in absurd (omega arith)

-- ---- chosen rows

module _ {s g : Graph} {n : ℕ} {Gone : ℕ → Type 0} (out : ℕ → Bool) (c : ℕ → ℕ)
    (told : (u : ℕ) → u < n → Says (Gone u) (out u)) (o : Sorted s n c) (same : (u : ℕ) → u < n → out u ≡ false → SameTree s u g u) where
  in_chosen : (u : ℕ) → out u ≡ false → chosen out c n u ≡ least (keeps out c u) n
  unfolding chosen
  in_chosen u e = rw e refl

  out_chosen : (u : ℕ) → out u ≡ true → chosen out c n u ≡ n
  unfolding chosen
  out_chosen u e = rw e refl

  keeps_true : (u v : ℕ) → out v ≡ false → c v ≡ c u → keeps out c u v ≡ true
  keeps_true u v e q = rw e (eq-eqb (c v) (c u) q)

  data Kept (u v : ℕ) : Type 0 where
    kept : out v ≡ false → c v ≡ c u → Kept u v

  true_keeps : (u v : ℕ) → keeps out c u v ≡ true → Kept u v
  true_keeps u v e = go (out v) refl
    where
      go : (x : Bool) → out v ≡ x → Kept u v
      go true q = let p : false ≡ true = rw q at e in let y : ◌≡◌ {A = ℕ} 0 1 = cc in absurd (omega arith)
      go false q = kept q (eqb-true (c v) (c u) (rw q at e))

  -- a row that is not out has a row chosen, and one that is out has none
  data Is (u : ℕ) : Type 0 where
    is_out : out u ≡ true → chosen out c n u ≡ n → Is u
    is_in : out u ≡ false → chosen out c n u < n → Kept u (chosen out c n u) → Is u

  is : (u : ℕ) → u < n → Is u
  is u h = go (out u) refl
    where
      go : (x : Bool) → out u ≡ x → Is u
      go true e = is_out e (out_chosen u e)
      go false e =
          let l = least_is (keeps out c u) n in
          let b = l.lowest u h (keeps_true u u e refl) in
          let k : least (keeps out c u) n < n = omega arith in
          is_in e (rw (in_chosen u e) k) (rw (in_chosen u e) (true_keeps u (least (keeps out c u) n) (l.holds k)))

  pub chosen_lowest : Lowest g n Gone (chosen out c n)
  chosen_lowest = record { goes = goes; gone = gone; stays = stays; has = has; lowest = lowest }
    where
      not_both : {u : ℕ} → out u ≡ true → out u ≡ false → ⊥
      not_both {u} e f = let p : true ≡ false = sym e ∙ f in let y : ◌≡◌ {A = ℕ} 0 1 = cc in omega arith

      said : {u : ℕ} {x : Bool} → Says (Gone u) x → Gone u → out u ≡ x → out u ≡ true
      said (says_yes p) q e = e
      said (says_no f) q e = absurd (f q)

      goes : (u : ℕ) → u < n → Gone u → chosen out c n u ≡ n
      goes u h q = out_chosen u (said (told u h) q refl)

      gone : (u : ℕ) → u < n → n ≤ chosen out c n u → Gone u
      gone u h l = at (is u h)
        where
          yes_of : {x : Bool} → Says (Gone u) x → x ≡ true → Gone u
          yes_of (says_yes p) e = p
          yes_of (says_no f) e = let y : ◌≡◌ {A = ℕ} 0 1 = cc in absurd (omega arith)

          at : Is u → Gone u
          at (is_out e q) = yes_of (told u h) e
          at (is_in e q k) = absurd (omega arith)

      stays : (u : ℕ) → u < n → chosen out c n u < n → chosen out c n (chosen out c n u) < n
      stays u h l = at (is u h)
        where
          at : Is u → chosen out c n (chosen out c n u) < n
          at (is_out e q) = absurd (omega arith)
          at (is_in e q (kept f k)) = on (is (chosen out c n u) l)
            where
              on : Is (chosen out c n u) → chosen out c n (chosen out c n u) < n
              on (is_out d r) = absurd (not_both d f)
              on (is_in d r x) = r

      has : (u : ℕ) → u < n → chosen out c n u < n → SameTree g (chosen out c n u) g u
      has u h l = at (is u h)
        where
          at : Is u → SameTree g (chosen out c n u) g u
          at (is_out e q) = absurd (omega arith)
          at (is_in e q (kept f k)) =
              same_trans (same_sym (same (chosen out c n u) l f)) (same_trans (o.exact.tree (chosen out c n u) u l h k) (same u h e))

      lowest : (u v : ℕ) → u < n → v < n → chosen out c n u < n → chosen out c n v < n → SameTree g u g v → chosen out c n u ≤ v
      lowest u v h i l m t = at (is u h) (is v i)
        where
          at : Is u → Is v → chosen out c n u ≤ v
          at (is_out e q) y = absurd (omega arith)
          at (is_in e q k) (is_out d r) = absurd (omega arith)
          at (is_in e q k) (is_in d r x) =
              let z = o.exact.class v u i h (same_trans (same v i d) (same_trans (same_sym t) (same_sym (same u h e)))) in
              rw (in_chosen u e) ((least_is (keeps out c u) n).lowest v i (keeps_true u v d z))
