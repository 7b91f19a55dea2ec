-- Jumps: for each row a row that at least so many wires lead to. One pass over them makes them twice as many, whatever was passed already.
use Prim.Native.Nat.{ℕ, ◌+◌, ◌-◌, ◌≤◌}
use native.Mathlib.Omega.{arith}
use mathlib.Core.Path.{◌≡◌, sym, ap, ◌∙◌}
use mathlib.Core.Bool.{Bool}
use Rattle.trees.specs.Graph.{Graph}
use Rattle.wires.specs.Wires.{Wire, follow, most_wires, through}
use Rattle.wires.specs.Jumps.{Jump}
use Rattle.wires.proofs.Following.{Told, told_wire, told_plain, told, follow_add, follow_plain, follow_earlier}
use Rattle.wires.proofs.WireLoops.{loop_wires, Astray, Kept, wires_loop}

module _ (g : Graph) where
  pub jump_twice : {least u v x : ℕ} → Jump g least u v → Jump g least v x → Jump g (least + least) u x
  jump_twice {least} {u} {v} {x} a b =
      record {
        steps = a.steps + b.steps;
        enough = omega (arith, a.enough, b.enough);
        there = b.there ∙ ap (follow g b.steps) a.there ∙ sym (follow_add g b.steps a.steps u);
      }

  pub jump_half : {least u v : ℕ} → Jump g (least + least) u v → Jump g least u v
  jump_half j = record { steps = j.steps; enough = omega (arith, j.enough); there = j.there }

  -- from a row that is no wire none lead on
  pub jump_stays : {least more u v : ℕ} → Jump g least u v → (Wire g v → ⊥) → Jump g more u v
  jump_stays {least} {more} {u} {v} j p =
      record {
        steps = j.steps + more;
        enough = omega arith;
        there = sym (follow_add g more j.steps u ∙ ap (follow g more) (sym j.there) ∙ follow_plain g more v p);
      }

  -- with enough of them: a wire there is a wire that wires lead to for ever
  pub jump_wire : {u v : ℕ} → Jump g most_wires u v → Wire g v → Wire g (through g u)
  jump_wire {u} {v} j w =
      let e : most_wires + (j.steps - most_wires) ≡ j.steps = omega (arith, j.enough) in
      follow_earlier g most_wires (j.steps - most_wires) u (rw (e, sym j.there) w)

  -- and a row that is no wire is where the wires lead
  pub jump_through : {n u v : ℕ} → Kept g n u → n ≤ most_wires → Jump g most_wires u v → (Wire g v → ⊥) → v ≡ through g u
  jump_through {n} {u} {v} a few j p = go (told g (through g u))
    where
      e : most_wires + (j.steps - most_wires) ≡ j.steps
      e = omega (arith, j.enough)

      round : Astray g u → v ≡ through g u
      round a =
          let s : j.steps + a.steps ≡ a.steps + j.steps = omega arith in
          let stays : follow g (j.steps + a.steps) u ≡ v =
          follow_add g a.steps j.steps u ∙ ap (follow g a.steps) (sym j.there) ∙ follow_plain g a.steps v p in
          let on : follow g (a.steps + j.steps) u ≡ follow g j.steps (follow g a.steps u) = follow_add g j.steps a.steps u in
          absurd (p (rw (sym (sym (ap (λ k. follow g k u) s ∙ on) ∙ stays)) (loop_wires g a.loop j.steps)))

      go : {t : Bool} → Told g (through g u) t → v ≡ through g u
      go (told_wire w) = round (wires_loop g a few w)
      go (told_plain q) =
          j.there ∙ ap (λ k. follow g k u) (sym e) ∙ follow_add g (j.steps - most_wires) most_wires u ∙ follow_plain g (j.steps - most_wires) (through g u) q
