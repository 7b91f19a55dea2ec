-- Row after row is lowered.
use Prim.Native.Nat.{ℕ, ◌+◌, ◌-◌, ◌≤◌, ◌<◌}
use native.Mathlib.Omega.{arith}
use mathlib.Core.Path.{◌≡◌, refl, sym, ap, ◌∙◌}
use mathlib.Core.List.{List}
use lib.ListN.{length, set, length-set}
use lib.Seq.{get_or-set_same, get_or-set_other}
use Rattle.rounds.specs.Classes.{class_of}
use Rattle.names.specs.Lowers.{key_of}
use Rattle.names.proofs.Lowers.{key_named, key_bare, key_small, Lowers, lowers_none, lowers_with, lowers_new, lowers_all}
use Rattle.hastening.specs.Lowerings.{Emptied, Lowerable, LoweredFrom, FirstSays, first_new, first_old}

module _ (cls marks : List ℕ) (u x y : ℕ) (e : x ≡ class_of cls u) (q : y ≡ class_of marks u) where
  pub key_of_named : y ≡ 1 → x ≡ key_of (class_of cls) (class_of marks) u
  key_of_named z = e ∙ sym (key_named (class_of cls) (class_of marks) u (sym q ∙ z))

  pub key_of_bare : (y ≡ 1 → ⊥) → x + 2048 ≡ key_of (class_of cls) (class_of marks) u
  key_of_bare f = ap (λ k. k + 2048) e ∙ sym (key_bare (class_of cls) (class_of marks) u (λ d. f (q ∙ d)))

module _ (links links' : List ℕ) (k u h : ℕ) (e : h ≡ class_of links k) where
  pub first_none : h ≡ 0 → links' ≡ set links k (u + 1) → FirstSays links links' k u u
  first_none z w = first_new (sym e ∙ z) w refl

pub first_some : (links : List ℕ) (k u h : ℕ) → h ≡ class_of links k → (h ≡ 0 → ⊥) → FirstSays links links k u (h - 1)
first_some links k u h e f = first_old (omega arith) refl

-- the first u rows are lowered
pub record LoweredTo (n : ℕ) (old marks cls links : List ℕ) (u : ℕ) : Type 0 where
  pub some : u ≤ n
  pub same : length cls ≡ length old
  pub links_long : length links ≡ 4096
  pub lowers : Lowers (key_of (class_of old) (class_of marks)) (class_of old) (class_of cls) (class_of links) u
  pub past : (i : ℕ) → n ≤ i → class_of cls i ≡ class_of old i

module _ (n : ℕ) (old marks links₀ : List ℕ) (o : Lowerable n old marks) (z : Emptied links₀) where
  pub lowered_none : LoweredTo n old marks old links₀ 0
  lowered_none =
      record {
        some = omega arith;
        same = refl;
        links_long = z.long;
        lowers = lowers_none (key_of (class_of old) (class_of marks)) (class_of old) (class_of links₀) z.zeros;
        past = λ i h. refl;
      }

  module _ (cls links : List ℕ) (u : ℕ) (l : LoweredTo n old marks cls links u) where
    pub lower_row : u < n → u < length cls
    lower_row h = omega (arith, l.same, o.cls_long)

    pub lower_mark : u < n → u < length marks
    lower_mark h = omega (arith, o.marks_long)

    pub lower_few : u < n → u < 2048
    lower_few h = omega (arith, o.few)

    module _ (h : u < n) (k : ℕ) (e : k ≡ key_of (class_of cls) (class_of marks) u) where
      was : k ≡ key_of (class_of old) (class_of marks) u
      unfolding key_of
      was = let c = l.lowers.rest u (omega arith) in rw c at e

      pub key_inside : k < length links
      key_inside =
          let i = o.inside u h in
          let f = o.few in
          let m : class_of old u < 2048 = omega arith in
          let s = o.small u h in
          omega (arith, was, key_small (class_of old) (class_of marks) u u m m s s, l.links_long)

      pub lowered_more : (x : ℕ) (links' cls' : List ℕ) → FirstSays links links' k u x → cls' ≡ set cls u x → LoweredTo n old marks cls' links' (u + 1)
      lowered_more x links' cls' f w = rw w (go f)
        where
          long : u < length cls
          long = lower_row h

          put : class_of (set cls u x) u ≡ x
          put = get_or-set_same cls u x 0 long

          others : (v : ℕ) → (v ≡ u → ⊥) → class_of (set cls u x) v ≡ class_of cls v
          others v q = get_or-set_other cls u v x 0 (λ i. q (omega arith))

          all : length links' ≡ 4096 → Lowers (key_of (class_of old) (class_of marks)) (class_of old) (class_of (set cls u x)) (class_of links') (u + 1) → LoweredTo n old marks (set cls u x) links' (u + 1)
          all a b =
              record {
                some = omega arith;
                same = length-set cls u x ∙ l.same;
                links_long = a;
                lowers = b;
                past = λ i q. others i (λ y. omega arith) ∙ l.past i q;
              }

          go : FirstSays links links' k u x → LoweredTo n old marks (set cls u x) links' (u + 1)
          go (first_new x' q r) =
              let in' = key_inside in
              all (q' q) (rw q (lowers_new l.lowers put others (class_of (set links k (u + 1))) (rw (sym was) x') (rw (sym was) (get_or-set_same links k (u + 1) 0 in' ∙ (omega arith))) (λ i y. get_or-set_other links k i (u + 1) 0 (λ r. y (rw (sym was) (omega arith)))) r))
            where
              q' : links' ≡ set links k (u + 1) → length links' ≡ 4096
              q' q = rw q (length-set links k (u + 1) ∙ l.links_long)
          go (first_old x' q) = all (rw q l.links_long) (rw q (lowers_with l.lowers put others (class_of links) (λ i. refl) (rw (sym was) x')))

    pub lowered_all : n ≤ u → LoweredFrom n old marks cls
    lowered_all h =
        let i : u ≡ n = omega (arith, l.some) in
        record {
          lowering = lowers_all (λ v q. omega (arith, o.inside v q, o.few)) o.small (rw i at l.lowers);
          stands = record { same = l.same; past = l.past };
        }
