-- Two runs on one trace, of rows of the same tree in two stores: the same number, and the same outputs.
use Prim.Native.Nat.{ℕ, ◌≤◌, ◌<◌}
use native.Mathlib.Omega.{arith}
use mathlib.Core.Path.{◌≡◌, refl, sym, ap, subst, ◌∙◌}
use mathlib.Core.List.{List, [], ◌∷◌}
use mathlib.Core.Logic.{◌↔◌, inl, inr}
use native.Mathlib.Decide.{dec_lt}
use lib.ListN.{length, get_or, get_or-eq_default}
use lib.Seq.{ext_get_or}
use lib.IntN.{ℤ, pos}
use Rattle.rules.specs.Refusals.{Refusal, FirstIn, First}
use Rattle.rules.proofs.Refusals.{first_unique}
use Rattle.trees.specs.Graph.{Graph}
use Rattle.trees.specs.Agreement.{SameTree}
use Rattle.trees.proofs.Agreement.{same_sym, same_alike}
use Rattle.trees.proofs.Paths.{Followed, same_reach}
use Rattle.loops.specs.Operations.{operation_of, setting_of}
use Rattle.loops.proofs.SameVerdict.{unlisted_same, unheld_same}
use Rattle.store.specs.Layout.{in_use, store_graph, room}
use Rattle.store.specs.Sound.{Sound}
use Rattle.store.proofs.Graphs.{shaped_closed}
use Rattle.running.specs.Run.{trace, ticks, ChannelAstray, NoTrace, run_refusals, RunDone, RunSays, run_refusal, run_done}
use Rattle.running.proofs.Same.{value_same}

-- ---- the outputs

module _ {w v : List ℕ} {row row₂ channels : ℕ} {values output output' lent lent' : List ℤ} where
  -- at every tick
  pub run_same : SameTree (store_graph room w) row (store_graph room v) row₂
      → RunDone w row channels values output output' → RunDone v row₂ channels values lent lent'
      → (t : ℕ) → t < ticks values channels → get_or output' t (pos 0) ≡ get_or lent' t (pos 0)
  run_same s a b t l = a.each t l ∙ value_same (trace values channels) t row row₂ s ∙ sym (b.each t l)

  -- and whole, where the same output was lent
  pub run_same_output : SameTree (store_graph room w) row (store_graph room v) row₂
      → RunDone w row channels values output output' → RunDone v row₂ channels values lent lent'
      → output ≡ lent → output' ≡ lent'
  run_same_output s a b e =
      ext_get_or (pos 0) output' lent' (a.long ∙ ap length e ∙ sym b.long) (λ t l. go t (dec_lt t (ticks values channels)))
    where
      go : (t : ℕ) → Dec (t < ticks values channels) → get_or output' t (pos 0) ≡ get_or lent' t (pos 0)
      go t (yes l) = run_same s a b t l
      go t (no l) = a.past t (omega arith) ∙ ap (λ o. get_or o t (pos 0)) e ∙ sym (b.past t (omega arith))

-- ---- the number

astray_to : {g h : Graph} {u v channels : ℕ} → SameTree g u h v → ChannelAstray g u channels → ChannelAstray h v channels
astray_to {g} {h} {u} {v} {channels} s x = go (same_reach s x.leads.path x.leads.there)
  where
    go : Followed g x.row h v x.leads.path → ChannelAstray h v channels
    go f =
        let e = (same_alike f.same).labels in
        record {
          row = f.end;
          leads = record { path = x.leads.path; there = f.there };
          reads = sym (ap operation_of e) ∙ x.reads;
          astray = subst (λ label. channels ≤ setting_of label) e x.astray;
        }

-- a row leads to a channel that is not there exactly where a row of the same tree does
pub astray_same : {g h : Graph} {u v channels : ℕ} → SameTree g u h v → ChannelAstray g u channels ↔ ChannelAstray h v channels
astray_same s = (astray_to s, astray_to (same_sym s))

no_trace_to : {g h : Graph} {u v channels : ℕ} (n : ℕ) → SameTree g u h v → NoTrace g u channels n → NoTrace h v channels n
no_trace_to n s (inl a) = inl a
no_trace_to n s (inr (inl a)) = inr (inl a)
no_trace_to n s (inr (inr (inl a))) = inr (inr (inl a))
no_trace_to n s (inr (inr (inr a))) = inr (inr (inr (astray_to s a)))

-- refusals with the same numbers, each applying where the other does
abbrev SameTests : List Refusal → List Refusal → Type 0
SameTests [] [] = Unit
SameTests [] (y ∷ m) = ⊥
SameTests (x ∷ l) [] = ⊥
SameTests (x ∷ l) (y ∷ m) = (x.number ≡ y.number) × (x.applies ↔ y.applies) × SameTests l m

first_same : (l m : List Refusal) (r : ℕ) → SameTests l m → FirstIn l r → FirstIn m r
first_same [] [] r s f = f
first_same [] (y ∷ m) r s f = elim s [ ]
first_same (x ∷ l) [] r s f = elim s [ ]
first_same (x ∷ l) (y ∷ m) r s (inl a) = inl (s.1.0 a.0, a.1 ∙ s.0)
first_same (x ∷ l) (y ∷ m) r s (inr a) = inr ((λ b. a.0 (s.1.1 b)), first_same l m r s.2 a.1)

module _ {w v : List ℕ} {row row₂ : ℕ} (channels : ℕ) (values output lent : List ℤ) (a : Sound room w) (b : Sound room v) (l : row < in_use w)
    (m : row₂ < in_use v) (s : SameTree (store_graph room w) row (store_graph room v) row₂) where
  there : (x : List ℕ) (u : ℕ) → u < in_use x → length x ≡ 0 → ⊥
  there x u h z = let e = get_or-eq_default x 0 {n = 0} (omega arith) in omega arith

  same_tests : (length output < ticks values channels ↔ length lent < ticks values channels)
      → SameTests (run_refusals w row channels values output) (run_refusals v row₂ channels values lent)
  same_tests long = (
    refl,
    ((λ z. absurd (there w row l z)), (λ z. absurd (there v row₂ m z))),
    (
      refl,
      ((λ z. absurd (z a)), (λ z. absurd (z b))),
      (
        refl,
        ((λ z. absurd (omega arith)), (λ z. absurd (omega arith))),
        (
          refl,
          unlisted_same s,
          (
            refl,
            unheld_same (shaped_closed room w a.shaped) l (shaped_closed room v b.shaped) m s,
            (
              refl,
              (no_trace_to (length values) s, no_trace_to (length values) (same_sym s)),
              (refl, long, tt),
            ),
          ),
        ),
      ),
    ),
  )

  -- rows in use of sound stores, with the same tree: the two runs are refused with the same number or both are done, where both outputs are
  -- too short or neither is
  pub run_number_same : (length output < ticks values channels ↔ length lent < ticks values channels)
      → (r : ℕ) → First (run_refusals w row channels values output) r → First (run_refusals v row₂ channels values lent) r
  run_number_same long r f =
      record { first = first_same (run_refusals w row channels values output) (run_refusals v row₂ channels values lent) r (same_tests long) f.first }

  -- so it is where both are long enough
  pub run_number_long : ticks values channels ≤ length output → ticks values channels ≤ length lent
      → (r : ℕ) → First (run_refusals w row channels values output) r → First (run_refusals v row₂ channels values lent) r
  run_number_long x y = run_number_same ((λ z. absurd (omega arith)), (λ z. absurd (omega arith)))

-- whole outcomes: the same number, and the same output where the same was lent
pub run_says_same : {w v : List ℕ} {row row₂ channels r q : ℕ} {values output a b : List ℤ} → Sound room w → Sound room v → row < in_use w → row₂ < in_use v
    → SameTree (store_graph room w) row (store_graph room v) row₂ → RunSays w row channels values output r a → RunSays v row₂ channels values output q b → (r ≡ q) × (a ≡ b)
run_says_same {channels = channels} {values = values} {output} x y l m s (run_refusal {r = r} f z) (run_refusal g k) =
    (first_unique (run_number_same channels values output output x y l m s ((λ h. h), (λ h. h)) r f) g, refl)
run_says_same {channels = channels} {values = values} {output} x y l m s (run_refusal {r = r} f z) (run_done g k) =
    absurd (z (first_unique (run_number_same channels values output output x y l m s ((λ h. h), (λ h. h)) r f) g))
run_says_same {channels = channels} {values = values} {output} x y l m s (run_done f z) (run_refusal g k) =
    absurd (k (first_unique g (run_number_same channels values output output x y l m s ((λ h. h), (λ h. h)) 0 f)))
run_says_same x y l m s (run_done f z) (run_done g k) = (refl, run_same_output s z k refl)
