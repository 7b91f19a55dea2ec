-- Recorded counts run through the chain of a row: every outcome, for every input.
use Rattle.std.specs.Prelude.{ℕ, ◌*◌, ◌/◌, ◌%◌, ◌≤◌, ◌<◌, ◌≡◌, List, [], ◌∷◌, ◌⊎◌, length, get_or, take, drop, ℤ, pos}
use Rattle.rules.specs.Refusals.{Refusal, ◌when◌, First}
use Rattle.trees.specs.Graph.{Graph}
use Rattle.trees.specs.Paths.{Leads}
use Rattle.loops.specs.Operations.{operation_of, setting_of, channel}
use Rattle.loops.specs.Catalogue.{Unlisted}
use Rattle.loops.specs.Loops.{Unheld}
use Rattle.store.specs.Layout.{in_use, store_graph, room}
use Rattle.store.specs.Sound.{Sound}
use Rattle.running.specs.Values.{value}

-- the channels of tick t: values stand tick after tick, in each channel 0 first
unfoldable pub trace : (values : List ℤ) → (channels t : ℕ) → List ℤ
trace values channels t = take channels (drop (t * channels) values)

unfoldable pub ticks : (values : List ℤ) → (channels : ℕ) → ℕ
ticks values channels = length values / channels

-- row u leads to a channel whose setting is not below the channel count
pub record ChannelAstray (g : Graph) (u channels : ℕ) : Type 0 where
  pub row : ℕ
  pub leads : Leads g u row
  pub reads : operation_of (g.label row) ≡ channel
  pub astray : channels ≤ setting_of (g.label row)

-- 17: the channel count is outside 1 to 8, n values are no whole ticks, or a channel reached is not there
abbrev pub NoTrace : Graph → (row channels n : ℕ) → Type 0
NoTrace g row channels n = (channels < 1) ⊎ ((8 < channels) ⊎ ((n % channels ≡ 0 → ⊥) ⊎ ChannelAstray g row channels))

abbrev pub run_refusals : (w : List ℕ) → (row channels : ℕ) → (values output : List ℤ) → List Refusal
run_refusals w row channels values output =
    (1 when (length w ≡ 0))
    ∷ (2 when (Sound room w → ⊥))
    ∷ (9 when (in_use w ≤ row))
    ∷ (12 when Unlisted (store_graph room w) row)
    ∷ (13 when Unheld (store_graph room w) row)
    ∷ (17 when NoTrace (store_graph room w) row channels (length values))
    ∷ (18 when (length output < ticks values channels))
    ∷ []

-- one output a tick, and entries past the ticks stand
pub record RunDone (w : List ℕ) (row channels : ℕ) (values output output' : List ℤ) : Type 0 where
  pub long : length output' ≡ length output
  pub each : (t : ℕ) → t < ticks values channels → get_or output' t (pos 0) ≡ value (store_graph room w) (trace values channels) t row
  pub past : (t : ℕ) → ticks values channels ≤ t → get_or output' t (pos 0) ≡ get_or output t (pos 0)

-- refused with the first number that applies, and nothing is changed; or done
pub data RunSays (w : List ℕ) (row channels : ℕ) (values output : List ℤ) : ℕ → List ℤ → Type 0 where
  run_refusal : {r : ℕ} → First (run_refusals w row channels values output) r → (r ≡ 0 → ⊥) → RunSays w row channels values output r output
  run_done : {output' : List ℤ} → First (run_refusals w row channels values output) 0 → RunDone w row channels values output output'
      → RunSays w row channels values output 0 output'
