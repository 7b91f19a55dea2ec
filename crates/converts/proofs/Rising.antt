-- Rising lists: one for each P, with exactly the numbers of which P holds, each once.
use Prim.Native.Nat.{ℕ, suc, ◌≤◌, ◌<◌}
use native.Mathlib.Omega.{arith}
use native.Mathlib.Decide.{dec_lt}
use mathlib.Core.Path.{◌≡◌, refl, sym, ap, ◌∙◌}
use mathlib.Core.List.{List, [], ◌∷◌, ◌++◌}
use lib.ListN.{length, get_or, take}
use lib.Seq.{length-take-le, get_or-take}
use Rattle.walks.specs.Member.{Member}
use Rattle.walks.proofs.Members.{Once, Each, new, met_once, member_at, each_member, grown_member, more_length, more_grown, more_last, more_each}
use Rattle.walks.proofs.Places.{place_within, place_here}
use Rattle.walks.proofs.Few.{Rows, rows_few, pigeonhole}
use Rattle.walks.specs.Key.{place_of}
use Rattle.converts.specs.Rising.{Rising, rising_none, rising_with, rising_past}

pub rising_one : {P : ℕ → Type 0} {n : ℕ} {l m : List ℕ} → Rising P n l → Rising P n m → l ≡ m
rising_one rising_none rising_none = refl
rising_one {n = suc n} (rising_with r p) (rising_with s q) = ap (λ x. x ++ (n ∷ [])) (rising_one r s)
rising_one (rising_with r p) (rising_past s q) = absurd (q p)
rising_one (rising_past r p) (rising_with s q) = absurd (p q)
rising_one (rising_past r p) (rising_past s q) = rising_one r s

-- each entry is a number below n of which P holds
pub record Chosen (P : ℕ → Type 0) (n x : ℕ) : Type 0 where
  pub below : x < n
  pub holds : P x

chosen_more : {P : ℕ → Type 0} {n : ℕ} {l : List ℕ} → Each (Chosen P n) l → Each (Chosen P (suc n)) l
chosen_more e = record { each = λ i h. let c = e.each i h in record { below = omega (arith, c.below); holds = c.holds } }

pub rising_each : {P : ℕ → Type 0} {n : ℕ} {l : List ℕ} → Rising P n l → Each (Chosen P n) l
rising_each rising_none = record { each = λ i h. absurd (omega arith) }
rising_each {n = suc n} (rising_with {l = l} r p) = more_each l n (chosen_more (rising_each r)) (record { below = omega arith; holds = p })
rising_each (rising_past r p) = chosen_more (rising_each r)

-- and every such number is an entry
pub rising_member : {P : ℕ → Type 0} {n : ℕ} {l : List ℕ} → Rising P n l → (x : ℕ) → x < n → P x → Member l x
rising_member rising_none x h p = absurd (omega arith)
rising_member {P} {n = suc n} (rising_with {l = l} r q) x h p = go (dec_lt x n) (λ k. rising_member r x k p)
  where
    go : Dec (x < n) → (x < n → Member l x) → Member (l ++ (n ∷ [])) x
    go (yes k) ih = grown_member (more_grown l n) (ih k)
    go (no k) ih =
        let e : x ≡ n = omega arith in
        record { at = length l; within = omega (arith, more_length l n); here = more_last l n ∙ sym e }
rising_member {P} {n = suc n} (rising_past {l = l} r q) x h p = go (dec_lt x n) (λ k. rising_member r x k p)
  where
    go : Dec (x < n) → (x < n → Member l x) → Member l x
    go (yes k) ih = ih k
    go (no k) ih = let e : x ≡ n = omega arith in absurd (q (rw e at p))

-- ---- each stands once, and so they are at most n

pub rising_once : {P : ℕ → Type 0} {n : ℕ} {l : List ℕ} → Rising P n l → Once l
rising_once rising_none = record { one = λ i k h q e. absurd (omega arith) }
rising_once {n = suc n} (rising_with {l = l} r p) = met_once {x = n} (new (λ m. omega (arith, (each_member (rising_each r) m).below))) (rising_once r)
rising_once (rising_past r p) = rising_once r

pub rising_rows : {P : ℕ → Type 0} {n : ℕ} {l : List ℕ} → Rising P n l → Rows n l
rising_rows r = record { once = rising_once r; below = record { each = λ i h. ((rising_each r).each i h).below } }

pub rising_few : {P : ℕ → Type 0} {n : ℕ} {l : List ℕ} → Rising P n l → length l ≤ n
rising_few r = rows_few (rising_rows r)

-- ---- as many as in any list that has each of them once

-- a list without doubles is no longer than one that has its members
pub members_few : {a b : List ℕ} → Once a → ((x : ℕ) → Member a x → Member b x) → length a ≤ length b
members_few {a} {b} o has =
    pigeonhole (length b) (length a) (λ i. place_of b (get_or a i 0))
    (record {
      below = λ i h. place_within (has (get_or a i 0) (member_at a i h));
      apart = λ i k h q e.
          o.one i k h q
          (sym (place_here (has (get_or a i 0) (member_at a i h))) ∙ ap (λ j. get_or b j 0) e ∙ place_here (has (get_or a k 0) (member_at a k q)));
    })

pub rising_length : {P : ℕ → Type 0} {n : ℕ} {l q : List ℕ} → Rising P n l → Once q → Each (Chosen P n) q → ((x : ℕ) → x < n → P x → Member q x) → length l ≡ length q
rising_length r o e all =
    let short = members_few (rising_once r) (λ x m. let c = each_member (rising_each r) m in all x c.below c.holds) in
    let long = members_few o (λ x m. let c = each_member e m in rising_member r x c.below c.holds) in
    omega arith

-- the same of the front of a longer list, by its places
pub rising_filled : {P : ℕ → Type 0} {n : ℕ} {l : List ℕ} (queue : List ℕ) (filled : ℕ) → Rising P n l → filled ≤ length queue → ((i : ℕ) → i < filled → Chosen P n (get_or queue i 0)) → ((i k : ℕ) → i < filled → k < filled → get_or queue i 0 ≡ get_or queue k 0 → i ≡ k) → ((x : ℕ) → x < n → P x → Member (take filled queue) x) → length l ≡ filled
rising_filled {P} {n} queue filled r fits each one all =
    let long = length-take-le filled queue fits in
    rising_length r
    (record {
      one = λ i k h q e.
          one i k (omega arith) (omega arith) (sym (get_or-take filled queue i 0 (omega arith)) ∙ e ∙ get_or-take filled queue k 0 (omega arith));
    })
    (record { each = λ i h. let h' : i < filled = omega arith in rw (get_or-take filled queue i 0 h') (each i h') })
    all
    ∙ long
