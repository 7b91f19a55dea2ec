-- Zeros are the classes that all rows begin with.
use Rattle.std.proofs.Common.{◌≡◌, ℕ, zero, suc, ◌≤◌, List, [], ◌∷◌, ◌++◌, length, take, drop, refl, replicate, ap, ◌∙◌, add-one, sym}
use Rattle.std.proofs.lemmas.List.{replicate-append-replicate}
use lib.Seq.{length-take-le}
use Rattle.rules.specs.Lists.{firsts}
use Rattle.rules.specs.Writes.{over_front}
use Rattle.rules.proofs.Lists.{firsts_length}
use Rattle.rounds.specs.Classes.{class_of}

pub zeros : (n : ℕ) → firsts (class_of []) n ≡ replicate n 0
unfolding firsts
zeros zero = refl
zeros (suc n) = ap (λ l. l ++ (0 ∷ [])) (zeros n) ∙ replicate-append-replicate n 1 0 ∙ ap (λ k. replicate k 0) (add-one n)

pub cleared : (cls ys : List ℕ) (n : ℕ) → n ≤ length cls → ys ≡ replicate (length (take n cls)) 0 → ys ++ drop n cls ≡ over_front (firsts (class_of []) n) cls
unfolding over_front
cleared cls ys n h e =
    let l : ys ≡ firsts (class_of []) n = e ∙ ap (λ k. replicate k 0) (length-take-le n cls h) ∙ sym (zeros n) in
    rw (l, firsts_length (class_of []) n) refl
