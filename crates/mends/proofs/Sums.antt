-- Kept, merged, wires and dropped make the count taken.
use Prim.Native.Nat.{ℕ, zero, suc, ◌+◌, ◌≤◌, ◌<◌}
use native.Mathlib.Omega.{arith}
use native.Mathlib.Numerals.{add-one}
use native.Mathlib.Decide.{dec_lt, ℕ_discrete}
use mathlib.Core.Path.{◌≡◌, refl, sym, ap, ◌∙◌}
use mathlib.Core.Bool.{Bool, true, false}
use lib.Dec.{ltb}
use borrow.Author.Tests.{lt-ltb, le-ltb, le-leb, lt-leb}
use Rattle.rules.specs.Pick.{pick}
use Rattle.trees.specs.Graph.{Graph}
use Rattle.trees.specs.Agreement.{SameTree}
use Rattle.trees.proofs.Agreement.{same_refl, same_sym, same_trans}
use Rattle.numbering.specs.Numbers.{trees_below}
use Rattle.numbering.proofs.Counting.{below_none, below_first, below_known, first_below, number_once}
use Rattle.walks.proofs.Few.{pigeonhole}
use Rattle.mends.specs.Lowest.{Lowest}
use Rattle.mends.specs.Counts.{tally, goes_at, wire_at, merged_at}
use Rattle.mends.proofs.Lowest.{own, class_same, own_left}

-- ---- the row that has a number, as a function

unfoldable spot : (ℕ → ℕ) → (n k : ℕ) → ℕ
spot c zero k = 0
spot c (suc n) k = pick (ltb k (trees_below c n)) (spot c n k) n

record Spot (c : ℕ → ℕ) (n k r : ℕ) : Type 0 where
  within : r < n
  first : c r ≡ r
  number : trees_below c r ≡ k

spot_is : (c : ℕ → ℕ) (n k : ℕ) → k < trees_below c n → Spot c n k (spot c n k)
unfolding spot
spot_is c zero k h = absurd (omega (arith, below_none c))
spot_is c (suc n) k h = go (dec_lt k (trees_below c n)) (ℕ_discrete (c n) n) (spot_is c n k)
  where
    go : Dec (k < trees_below c n) → Dec (c n ≡ n) → (k < trees_below c n → Spot c n k (spot c n k)) → Spot c (suc n) k (spot c (suc n) k)
    go (yes q) x ih = let f = ih q in rw (lt-ltb k (trees_below c n) q) (record { within = omega (arith, f.within); first = f.first; number = f.number })
    go (no q) (yes e) ih =
        let s : trees_below c (suc n) ≡ trees_below c n + 1 = rw add-one at (below_first c n e) in
        rw (le-ltb k (trees_below c n) (omega arith)) (record { within = omega arith; first = e; number = omega arith })
    go (no q) (no e) ih = let s : trees_below c (suc n) ≡ trees_below c n = rw add-one at (below_known c n e) in absurd (omega arith)

-- ---- two choices that have the same trees number as many

-- e u is a row with the tree of row u that the other choice has
record Meets (g : Graph) (n : ℕ) (c b e : ℕ → ℕ) : Type 0 where
  within : (u : ℕ) → u < n → c u < n → e u < n
  left : (u : ℕ) → u < n → c u < n → b (e u) < n
  tree : (u : ℕ) → u < n → c u < n → SameTree g (e u) g u

fewer : {g : Graph} {n : ℕ} {A B : ℕ → Type 0} {c b : ℕ → ℕ} → Lowest g n A c → Lowest g n B b → (e : ℕ → ℕ) → Meets g n c b e → trees_below c n ≤ trees_below b n
fewer {g} {n} {A} {B} {c} {b} s t e m = pigeonhole (trees_below b n) (trees_below c n) (λ k. trees_below b (b (e (spot c n k)))) (record { below = inside; apart = once })
  where
    inside : (k : ℕ) → k < trees_below c n → trees_below b (b (e (spot c n k))) < trees_below b n
    inside k h =
        let p = spot_is c n k h in
        let l = own_left s (spot c n k) p.within p.first in
        let x = m.within (spot c n k) p.within l in
        let y = m.left (spot c n k) p.within l in
        first_below b (b (e (spot c n k))) n (own t (e (spot c n k)) x y) y

    once : (i k : ℕ) → i < trees_below c n → k < trees_below c n → trees_below b (b (e (spot c n i))) ≡ trees_below b (b (e (spot c n k))) → i ≡ k
    once i k h j q =
        let p = spot_is c n i h in
        let r = spot_is c n k j in
        let u = spot c n i in
        let v = spot c n k in
        let l = own_left s u p.within p.first in
        let o = own_left s v r.within r.first in
        let x = m.within u p.within l in
        let y = m.within v r.within o in
        let a = m.left u p.within l in
        let d = m.left v r.within o in
        let z = number_once b (b (e u)) (b (e v)) (own t (e u) x a) (own t (e v) y d) q in
        let f : SameTree g (b (e u)) g u = same_trans (t.has (e u) x a) (m.tree u p.within l) in
        let w : SameTree g (b (e v)) g v = same_trans (t.has (e v) y d) (m.tree v r.within o) in
        let k' : SameTree g (b (e v)) g u = rw z at f in
        let same = class_same s u v p.within r.within l o (same_trans (same_sym k') w) in
        let eq : u ≡ v = sym p.first ∙ same ∙ r.first in
        sym p.number ∙ ap (trees_below c) eq ∙ r.number

-- rows left, and boxes: each row left leads to a box with its tree, and each box is left
pub kept_boxes : {g : Graph} {n : ℕ} {A B : ℕ → Type 0} {c b : ℕ → ℕ} → Lowest g n A c → Lowest g n B b → (e : ℕ → ℕ)
    → ((u : ℕ) → u < n → c u < n → e u < n) → ((u : ℕ) → u < n → c u < n → b (e u) < n) → ((u : ℕ) → u < n → c u < n → SameTree g (e u) g u)
    → ((u : ℕ) → u < n → b u < n → c u < n) → trees_below c n ≡ trees_below b n
kept_boxes {g} s t e p q r back =
    let a = fewer s t e (record { within = p; left = q; tree = r }) in
    let d = fewer t s (λ u. u) (record { within = λ u h l. h; left = back; tree = λ u h l. same_refl g u }) in
    omega arith

-- ---- each row is one of four

pub data Kind (n : ℕ) (c b : ℕ → ℕ) (wire : ℕ → Bool) (u : ℕ) : Type 0 where
  goes : n ≤ c u → n ≤ b u → Kind n c b wire u
  a_wire : c u < n → wire u ≡ true → n ≤ b u → Kind n c b wire u
  a_box : c u < n → wire u ≡ false → b u ≤ u → Kind n c b wire u

abbrev four : (n : ℕ) → (c b : ℕ → ℕ) → (ℕ → Bool) → ℕ → ℕ
four n c b wire m = trees_below b m + tally (merged_at b) m + tally (wire_at n c wire) m + tally (goes_at n c) m

tally_yes : (t : ℕ → Bool) (m : ℕ) → t m ≡ true → tally t (suc m) ≡ tally t m + 1
unfolding tally
tally_yes t m e = rw e refl

tally_no : (t : ℕ → Bool) (m : ℕ) → t m ≡ false → tally t (suc m) ≡ tally t m
unfolding tally
tally_no t m e = rw e (omega arith)

pub four_kinds : (n : ℕ) (c b : ℕ → ℕ) (wire : ℕ → Bool) → ((u : ℕ) → u < n → Kind n c b wire u) → (m : ℕ) → m ≤ n → four n c b wire m ≡ m
unfolding tally
four_kinds n c b wire k zero h = omega (arith, below_none b)
four_kinds n c b wire k (suc m) h = go (k m h) (ℕ_discrete (b m) m) (four_kinds n c b wire k m (omega arith))
  where
    go : Kind n c b wire m → Dec (b m ≡ m) → four n c b wire m ≡ m → four n c b wire (suc m) ≡ suc m
    go (goes x y) d ih =
        let o : trees_below b (suc m) ≡ trees_below b m = rw add-one at (below_known b m (λ e. omega arith)) in
        let p = tally_no (merged_at b) m (le-ltb (b m) m (omega arith)) in
        let q = tally_no (wire_at n c wire) m (rw (le-leb n (c m) x) refl) in
        let r = tally_yes (goes_at n c) m (le-leb n (c m) x) in
        omega arith
    go (a_wire x z y) d ih =
        let o : trees_below b (suc m) ≡ trees_below b m = rw add-one at (below_known b m (λ e. omega arith)) in
        let p = tally_no (merged_at b) m (le-ltb (b m) m (omega arith)) in
        let q = tally_yes (wire_at n c wire) m (rw (lt-leb n (c m) x) z) in
        let r = tally_no (goes_at n c) m (lt-leb n (c m) x) in
        omega arith
    go (a_box x z y) (yes e) ih =
        let o : trees_below b (suc m) ≡ trees_below b m + 1 = rw add-one at (below_first b m e) in
        let p = tally_no (merged_at b) m (le-ltb (b m) m (omega arith)) in
        let q = tally_no (wire_at n c wire) m (rw (lt-leb n (c m) x) z) in
        let r = tally_no (goes_at n c) m (lt-leb n (c m) x) in
        omega arith
    go (a_box x z y) (no e) ih =
        let o : trees_below b (suc m) ≡ trees_below b m = rw add-one at (below_known b m e) in
        let p = tally_yes (merged_at b) m (lt-ltb (b m) m (omega arith)) in
        let q = tally_no (wire_at n c wire) m (rw (lt-leb n (c m) x) z) in
        let r = tally_no (goes_at n c) m (lt-leb n (c m) x) in
        omega arith
