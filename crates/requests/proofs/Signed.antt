-- Signed numbers: a word read as one, and a run of them filled in from its first entry.
use Prim.Native.Nat.{ℕ, suc, ◌+◌, ◌-◌, ◌≤◌, ◌<◌}
use native.Mathlib.Omega.{arith}
use native.Mathlib.Decide.{ℕ_discrete}
use mathlib.Core.Path.{◌≡◌, refl, sym, ap, ◌∙◌, subst}
use mathlib.Core.List.{List}
use lib.ListN.{length, get_or, set, length-set, length-map, get_or-map}
use lib.Seq.{ext_get_or, get_or-set_same, get_or-set_other}
use lib.IntN.{ℤ, pos, negsuc}
use lib.Dec.{ltb}
use mathlib.Core.Bool.{Bool, true, false}
use borrow.Author.Tests.{lt-ltb, le-ltb, ltb-true, ltb-false}
use Rattle.std.proofs.Math.Facts.{to_z-neg}
use mir.Syntax.{w32}
use mir.Val.{SFits, to_z, of_z}
use mir.ValLaws.{to_z-of_z, to_z_pos}
use Rattle.rules.specs.Lists.{firsts}
use Rattle.rules.proofs.Lists.{firsts_length, firsts_at}
use Rattle.requests.specs.declared.argument.Argument.{Argument}
use Rattle.requests.specs.Runs.{word_at, signed_of, signed_in}

-- ---- a word

signed_low : {x : ℕ} → x < 2147483648 → (to_z w32 x ≡ signed_of x) × SFits w32 (to_z w32 x)
unfolding signed_of
signed_low {x} l =
    let e = to_z_pos w32 x l in
    (e ∙ simp (lt-ltb x 2147483648 l), subst (SFits w32) (sym e) (record { sfits = l }))

signed_high : {x : ℕ} → 2147483648 ≤ x → x < 4294967296 → (to_z w32 x ≡ signed_of x) × SFits w32 (to_z w32 x)
unfolding signed_of
signed_high {x} h l =
    let k = 4294967295 - x in
    let q : 4294967296 - suc k ≡ x = omega arith in
    let m : to_z w32 (4294967296 - suc k) ≡ negsuc k = to_z-neg w32 k (omega arith) in
    let e : to_z w32 x ≡ negsuc k = rw q at m in
    (e ∙ simp (le-ltb x 2147483648 h), subst (SFits w32) (sym e) (record { sfits = omega arith }))

signed_word : {x : ℕ} → x < 4294967296 → (to_z w32 x ≡ signed_of x) × SFits w32 (to_z w32 x)
signed_word {x} l = go (ltb x 2147483648) refl
  where
    go : (t : Bool) → ltb x 2147483648 ≡ t → (to_z w32 x ≡ signed_of x) × SFits w32 (to_z w32 x)
    go true p = signed_low (ltb-true _ _ p)
    go false p = signed_high (ltb-false _ _ p) l

pub signed_cast : {x y : ℕ} {r : ℤ} → r ≡ to_z w32 y → y ≡ x → x < 4294967296 → (to_z w32 (of_z w32 r) ≡ signed_of x) × SFits w32 (to_z w32 (of_z w32 r))
signed_cast {x} {y} {r} k q l =
    let e = rw q at k in
    let g = signed_word l in
    let f : SFits w32 r = rw e g.1 in
    rw (to_z-of_z w32 r f, e) g

-- ---- a run

-- i numbers of a run stand at the front of as many entries as it has
pub record FillingSigned (b : List ℕ) (a : Argument) (found : List ℤ) (i : ℕ) : Type 0 where
  pub some : i ≤ a.count
  pub long : length found ≡ a.count
  pub each : (j : ℕ) → j < i → get_or found j (pos 0) ≡ signed_of (word_at b a.at j)

pub signed_none : (b : List ℕ) (a : Argument) (old : List ℤ) → length old ≡ a.count → FillingSigned b a old 0
signed_none b a old e = record { some = omega arith; long = e; each = λ j l. absurd (omega arith) }

module _ {b : List ℕ} {a : Argument} {found : List ℤ} {i : ℕ} (s : FillingSigned b a found i) where
  pub signed_more : {w : ℕ} {x : ℤ} → i < a.count → w ≡ word_at b a.at i → (x ≡ signed_of w) × SFits w32 x → FillingSigned b a (set found i (to_z w32 (of_z w32 x))) (i + 1)
  signed_more {w} {x} h e q =
      rw (to_z-of_z w32 x q.1)
      (record { some = omega arith; long = length-set found i x ∙ s.long; each = λ j l. go j l (ℕ_discrete j i) })
    where
      go : (j : ℕ) → j < i + 1 → Dec (j ≡ i) → get_or (set found i x) j (pos 0) ≡ signed_of (word_at b a.at j)
      go j l (yes k) = rw k (get_or-set_same found i x (pos 0) (omega (arith, s.long)) ∙ q.0 ∙ ap signed_of e)
      go j l (no k) = get_or-set_other found i j x (pos 0) k ∙ s.each j (omega arith)

  -- where all stand, they are the run's
  pub signed_all : a.count ≤ i → found ≡ signed_in b a
  unfolding signed_of
  signed_all h =
      let f = word_at b a.at in
      let n = a.count in
      let l : length (firsts f n) ≡ n = firsts_length f n in
      let m : length (signed_in b a) ≡ n = length-map (firsts f n) signed_of ∙ l in
      ext_get_or (pos 0) found (signed_in b a) (s.long ∙ sym m) (λ j k. s.each j (omega (arith, s.long)) ∙ sym (get_or-map signed_of (firsts f n) j 0 ∙ ap signed_of (firsts_at f n j (omega (arith, s.long)))))
