-- Requests one after another in some bytes, to the first that is not whole.
use Rattle.std.specs.Prelude.{ℕ, ◌+◌, ◌≤◌, ◌≡◌, false, List, length, drop}
use Rattle.requests.specs.Arguments.{is_whole, end_of, stopped}
use Rattle.requests.specs.Requests.{request_of, WholeRequest}
use Rattle.requests.specs.declared.argument.Stop.{Stop}

-- from one place to another: each whole request is passed, and the one at the end is not whole
pub data Turns (b : List ℕ) : (from to : ℕ) → Type 0 where
  turns_end : {at : ℕ} → is_whole (request_of (drop at b)) ≡ false → Turns b at at
  turns_step : {at to : ℕ} → WholeRequest (drop at b) → Turns b (at + end_of (request_of (drop at b))) to → Turns b at to

-- all requests up to a place were passed, and why the one there was not
pub record Answered (b : List ℕ) (at : ℕ) (stop : Stop) : Type 0 where
  pub turns : Turns b 0 at
  pub why : request_of (drop at b) ≡ stopped stop
  pub within : at ≤ length b
