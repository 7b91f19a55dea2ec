-- Where more bytes are needed there is room for them.
use Prim.Native.Nat.{ℕ, ◌-◌, ◌≤◌}
use native.Mathlib.Omega.{arith}
use mathlib.Core.Path.{◌≡◌, ap, ◌∙◌}
use mathlib.Core.List.{List}
use lib.ListN.{length, take, drop, length-drop}
use lib.Seq.{length-take-le}
use Rattle.requests.specs.declared.argument.Stop.{Stop}
use Rattle.requests.specs.declared.argument.Stop.TheVariants.{More}
use Rattle.requests.specs.Arguments.{stopped}
use Rattle.requests.proofs.Fits.{request_fits}
use Rattle.asks.specs.Turns.{Answered}
use Rattle.asks.specs.Window.{Roomy}

-- where the request at a place is not whole there is room for more of it
pub roomy : (window : List ℕ) (held : ℕ) {at : ℕ} {stop : Stop} → 163853 ≤ length window → held ≤ length window → Answered (take held window) at stop → Roomy (length window) stop at held
roomy window held {at} wide inside d =
    let long = length-take-le held window inside in
    let among : at ≤ held = omega (arith, d.within) in
    record {
      among = among;
      inside = inside;
      more = λ e.
          let f = request_fits (drop at (take held window)) (d.why ∙ ap (λ (s : Stop). stopped s) e) in
          let l : length (drop at (take held window)) ≡ held - at = length-drop at (take held window) ∙ rw long in
          omega arith;
    }

-- the same of the part that is held, where the request needs more bytes
pub roomy_held : (window : List ℕ) (held : ℕ) {part : List ℕ} {at : ℕ} {stop : Stop} → 163853 ≤ length window → held ≤ length window → part ≡ take held window → Answered part at stop → stop ≡ More → Roomy (length window) More at held
roomy_held window held wide inside p d m = rw (← m) (roomy window held wide inside (rw (← p) d))
