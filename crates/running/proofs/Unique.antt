-- A run has one outcome; and where it is done, every row that it looks at settles.
use Prim.Native.Nat.{ℕ, ◌/◌, ◌+◌, ◌-◌, ◌<◌}
use native.Mathlib.Omega.{arith}
use native.Mathlib.Decide.{dec_lt}
use native.Mathlib.Nat.{min-le_left}
use mathlib.Core.Path.{◌≡◌, refl, sym, ◌∙◌}
use mathlib.Core.List.{List}
use lib.ListN.{length, get_or}
use lib.Seq.{ext_get_or}
use lib.IntN.{ℤ, pos}
use Rattle.rules.specs.Refusals.{First, NoneOf, Numbered}
use Rattle.rules.proofs.Refusals.{first_unique, done_none}
use Rattle.trees.specs.Paths.{Leads}
use Rattle.trees.proofs.Paths.{leads_within, leads_trans}
use Rattle.store.specs.Layout.{capacity_of, store_graph, room}
use Rattle.store.specs.Sound.{Sound}
use Rattle.store.proofs.Graphs.{shaped_closed}
use Rattle.running.specs.Run.{ticks, run_refusals, RunDone, RunSays, run_refusal, run_done}
use Rattle.running.proofs.Steps.{Settles, unlooped_settles}

module _ {w : List ℕ} {row channels : ℕ} {values output : List ℤ} where
  -- what is done leaves one output
  pub done_unique : {a b : List ℤ} → RunDone w row channels values output a → RunDone w row channels values output b → a ≡ b
  done_unique {a} {b} x y = ext_get_or (pos 0) a b (x.long ∙ sym y.long) (λ t l. go t (dec_lt t (ticks values channels)))
    where
      go : (t : ℕ) → Dec (t < ticks values channels) → get_or a t (pos 0) ≡ get_or b t (pos 0)
      go t (yes l) = x.each t l ∙ sym (y.each t l)
      go t (no l) = x.past t (omega arith) ∙ sym (y.past t (omega arith))

  -- number and output are determined
  pub run_unique : {r q : ℕ} {a b : List ℤ} → RunSays w row channels values output r a → RunSays w row channels values output q b → (r ≡ q) × (a ≡ b)
  run_unique (run_refusal f z) (run_refusal g y) = (first_unique f g, refl)
  run_unique (run_refusal f z) (run_done g y) = absurd (z (first_unique f g))
  run_unique (run_done f z) (run_refusal g y) = absurd (y (first_unique g f))
  run_unique (run_done f z) (run_done g y) = (refl, done_unique z y)

-- where no refusal applies, each row that the asked one leads to settles
module _ (w : List ℕ) (row channels : ℕ) (values output : List ℤ) where
  numbered : Numbered (run_refusals w row channels values output)
  numbered =
      ((λ z. omega arith), ((λ z. omega arith), ((λ z. omega arith), ((λ z. omega arith), ((λ z. omega arith), ((λ z. omega arith), ((λ z. omega arith), tt)))))))

  pub done_settles : First (run_refusals w row channels values output) 0 → {u : ℕ} → Leads (store_graph room w) row u → Settles (store_graph room w) u
  unfolding capacity_of
  done_settles f {u} l =
      let n = done_none numbered f in
      record { stops = λ r. n.1.0 (λ s. (go n s).stops r) }
    where
      go : NoneOf (run_refusals w row channels values output) → Sound room w → Settles (store_graph room w) u
      go n s =
          let c = shaped_closed room w s.shaped in
          let fits = s.shaped.fits in
          let low = min-le_left 1024 ((length w - 1) / (room + 2)) in
          let here = n.1.1.0 in
          let plain = n.1.1.1.1.0 in
          unlooped_settles c (omega arith) (leads_within c (omega arith) l)
          (λ x. plain (record { row = x.row; leads = leads_trans l x.leads; loop = x.loop }))
