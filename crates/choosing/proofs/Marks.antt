-- Each row's mark is the flag of its class.
use Prim.Native.Nat.{ℕ, ◌+◌, ◌≤◌, ◌<◌}
use native.Mathlib.Omega.{arith}
use native.Mathlib.Decide.{ℕ_discrete}
use mathlib.Core.Path.{◌≡◌, refl, sym, ap, ◌∙◌}
use mathlib.Core.List.{List}
use lib.ListN.{length, set, length-set}
use lib.Seq.{get_or-set_same, get_or-set_other}
use Rattle.rounds.specs.Classes.{class_of}
use Rattle.rounds.specs.Placing.{Classes}
use Rattle.choosing.specs.Marked.{ByClass, FlagAt}

-- a class is a row
pub flag_made : (n : ℕ) (cls : List ℕ) (u x : ℕ) → Classes n cls → u < n → x ≡ class_of cls u → FlagAt cls u (2048 + x)
flag_made n cls u x o h e = record { there = ap (λ y. 2048 + y) e; small = omega (arith, o.lowered.low u h, o.few) }

pub flag_inside : (cls links : List ℕ) (u k : ℕ) → FlagAt cls u k → length links ≡ 4096 → k < length links
flag_inside cls links u k f e = omega (arith, f.small)

pub flag_within : (cls links old : List ℕ) (u k : ℕ) → FlagAt cls u k → length links ≡ length old → length old ≡ 4096 → k < length links
flag_within cls links old u k f i e = omega (arith, f.small)

-- the first u rows have the flags of their classes
pub record Marking (n : ℕ) (cls links old marks : List ℕ) (u : ℕ) : Type 0 where
  pub some : u ≤ n
  pub same : length marks ≡ length old
  pub done : (v : ℕ) → v < u → class_of marks v ≡ class_of links (2048 + class_of cls v)

pub marking_none : (n : ℕ) (cls links old : List ℕ) → Marking n cls links old old 0
marking_none n cls links old = record { some = omega arith; same = refl; done = λ v h. absurd (omega arith) }

module _ (n : ℕ) (cls links old marks : List ℕ) (u : ℕ) (long : n ≤ length old) (m : Marking n cls links old marks u) where
  pub marking_more : (k x : ℕ) (marks' : List ℕ) → u < n → FlagAt cls u k → x ≡ class_of links k → marks' ≡ set marks u x → Marking n cls links old marks' (u + 1)
  marking_more k x marks' h f q t =
      rw t
      (record {
        some = omega arith;
        same = length-set marks u x ∙ m.same;
        done = λ v l. go v l (ℕ_discrete v u);
      })
    where
      go : (v : ℕ) → v < u + 1 → Dec (v ≡ u) → class_of (set marks u x) v ≡ class_of links (2048 + class_of cls v)
      go v l (yes i) = rw i (get_or-set_same marks u x 0 (omega (arith, m.same)) ∙ q ∙ ap (class_of links) f.there)
      go v l (no i) = get_or-set_other marks u v x 0 (λ z. omega arith) ∙ m.done v (omega arith)

  pub marking_all : n ≤ u → ByClass n cls marks
  marking_all h = record { one = λ v w a b e. m.done v (omega arith) ∙ ap (λ y. class_of links (2048 + y)) e ∙ sym (m.done w (omega arith)) }
