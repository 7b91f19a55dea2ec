-- The outcomes of a run, each from what led to it.
use Prim.Native.Nat.{ℕ, ◌%◌, ◌/◌, ◌≤◌, ◌<◌}
use native.Mathlib.Omega.{arith}
use native.Mathlib.Decide.{dec_lt}
use mathlib.Core.Path.{◌≡◌}
use mathlib.Core.Bool.{Bool, true, false, not}
use mathlib.Core.List.{List, [], ◌∷◌}
use mathlib.Core.Logic.{inl, inr}
use lib.ListN.{length, get_or}
use lib.IntN.{ℤ}
use lib.Dec.{eqb}
use Rattle.std.specs.Prelude.{Result, Ok, Err}
use Rattle.rules.specs.Refusals.{Refusal, First, ◌when◌}
use Rattle.rules.specs.Answers.{Says, says_yes, says_no}
use Rattle.rules.proofs.Answers.{said_yes, said_no, says_same}
use Rattle.rules.proofs.Tested.{passed_yes, passed_no, says_equal}
use Rattle.rules.proofs.Refusals.{first_here, first_later, first_none, first_front}
use Rattle.loops.specs.Catalogue.{Unlisted}
use Rattle.loops.specs.Loops.{Unheld}
use Rattle.loops.specs.Orders.{StandsIn}
use Rattle.trees.proofs.Paths.{leads_self}
use Rattle.store.specs.Layout.{in_use, store_graph, room}
use Rattle.checking.specs.Checked.{SoundStore, CheckedSays, checked_refused}
use Rattle.store.specs.Sound.{flaw_number}
use Rattle.store.specs.declared.shape.Flaw.{Flaw}
use Rattle.checking.proofs.Looking.{sound_walkable, sound_few}
use Rattle.judging.specs.declared.misfit.Misfit.{Misfit}
use Rattle.judging.specs.declared.misfit.Misfit.TheVariants.{NotListed, NotHeld}
use Rattle.ordering.specs.Order.{Orderable, OrderSays, order_unlisted, order_unheld, order_fine}
use Rattle.running.specs.Run.{ticks, NoTrace, run_refusals, RunSays, run_refusal, run_done}
use Rattle.ticking.specs.Memory.{Lined}
use Rattle.ticking.specs.Outcomes.{Outputs, SomeAstray}
use Rattle.runner.specs.Steps.{WholeTicks, Chained, Traced}

-- ---- whole ticks

module _ (channels count : ℕ) where
  pub ticks_none : channels < 1 → Says (WholeTicks channels count) false
  ticks_none h = says_no (λ w. let l = w.some in omega arith)

  pub ticks_many : 8 < channels → Says (WholeTicks channels count) false
  ticks_many h = says_no (λ w. let l = w.few in omega arith)

  pub ticks_whole : 1 ≤ channels → channels ≤ 8 → Says (WholeTicks channels count) (eqb (count % channels) 0)
  ticks_whole h l =
      says_same ((λ e. record { some = omega arith; few = l; whole = e }), (λ w. w.whole)) (says_equal (count % channels) 0)

-- ---- the store and the row

module _ (w : List ℕ) (row channels : ℕ) (values output : List ℤ) where
  behind : List Refusal
  behind =
      (9 when (in_use w ≤ row))
      ∷ (12 when Unlisted (store_graph room w) row)
      ∷ (13 when Unheld (store_graph room w) row)
      ∷ (17 when NoTrace (store_graph room w) row channels (length values))
      ∷ (18 when (length output < ticks values channels))
      ∷ []

  pub run_store : (a : Result ℕ Flaw) (flaw : Flaw) (number : ℕ) → CheckedSays w a → a ≡ Err flaw → number ≡ flaw_number flaw → RunSays w row channels values output number output
  unfolding behind
  run_store a flaw number s e q = rw q (go (rw e at s))
    where
      go : CheckedSays w (Err flaw) → RunSays w row channels values output (flaw_number flaw) output
      go (checked_refused f z) = run_refusal (first_front behind f z) z

  module _ (n : ℕ) (s : SoundStore w n) where
    past : {r : ℕ} → First behind r → First (run_refusals w row channels values output) r
    unfolding behind
    past f = let h = s.words in first_later (λ z. omega arith) (first_later (λ x. x s.sound) f)

    pub run_out : n ≤ row → RunSays w row channels values output 9 output
    unfolding behind
    run_out h = run_refusal (past (first_here (omega (arith, s.counted)))) (λ z. omega arith)

    module _ (h : row < n) where
      used : {l : List Refusal} {r : ℕ} → First l r → First ((9 when (in_use w ≤ row)) ∷ l) r
      used f = first_later (λ x. omega (arith, s.counted)) f

      module _ (queue : List ℕ) (r : Result ℕ Misfit) (o : OrderSays (store_graph room w) n row queue r) where
        pub run_unlisted : (x : Misfit) → r ≡ Err x → x ≡ NotListed → RunSays w row channels values output 12 output
        unfolding behind
        run_unlisted x e q = go (rw (e, q) at o)
          where
            go : OrderSays (store_graph room w) n row queue (Err NotListed) → RunSays w row channels values output 12 output
            go (order_unlisted u) = run_refusal (past (used (first_here u))) (λ z. omega arith)

        pub run_unheld : (x : Misfit) → r ≡ Err x → x ≡ NotHeld → RunSays w row channels values output 13 output
        unfolding behind
        run_unheld x e q = go (rw (e, q) at o)
          where
            go : OrderSays (store_graph room w) n row queue (Err NotHeld) → RunSays w row channels values output 13 output
            go (order_unheld f u) = run_refusal (past (used (first_later f (first_here u)))) (λ z. omega arith)

-- ---- the row

module _ (w : List ℕ) (n row : ℕ) (s : SoundStore w n) (h : row < n) where
  pub run_orderable : (state queue : List ℕ) → length state ≡ 1024 → length queue ≡ 1024 → Orderable room w n row state queue
  run_orderable state queue a b =
      let f = sound_few w n s in
      record {
        limit = omega arith;
        shaped = s.sound.shaped;
        counted = s.counted;
        used = h;
        states = omega arith;
        places = omega arith;
      }

  module _ (queue : List ℕ) (r : Result ℕ Misfit) (o : OrderSays (store_graph room w) n row queue r) where
    pub run_chained : (filled : ℕ) → r ≡ Ok filled → length queue ≡ 1024 → Chained w n row queue filled
    run_chained filled e l = go (rw e at o)
      where
        go : OrderSays (store_graph room w) n row queue (Ok filled) → Chained w n row queue filled
        go (order_fine f g i) =
            let k = sound_few w n s in
            record { store = s; used = h; listed = f; held = g; order = i; long = omega arith }

-- ---- the trace

module _ (w : List ℕ) (n row : ℕ) (queue : List ℕ) (filled : ℕ) (c : Chained w n row queue filled) where
  pub chain_lined : (most : ℕ) → most ≡ room → Lined most w n queue filled
  chain_lined most e =
      rw e
      (record {
        shaped = sound_walkable w n c.store;
        long = omega (arith, c.order.few, c.long);
        few = omega (arith, c.order.few, c.order.low);
        within = c.order.within;
        ordered = c.order.ordered;
      })

  pub chain_stands : StandsIn queue 0 filled row
  chain_stands = c.order.all row (leads_self (store_graph room w) row)

  module _ (channels : ℕ) (values output : List ℤ) where
    onward : {r : ℕ} → First ((17 when NoTrace (store_graph room w) row channels (length values)) ∷ (18 when (length output < ticks values channels)) ∷ []) r
        → First (run_refusals w row channels values output) r
    unfolding behind
    onward f = past w row channels values output n c.store (used w row channels values output n c.store c.used (first_later c.listed (first_later c.held f)))

    module _ (r : Bool) (s : Says (WholeTicks channels (length values)) r) where
      pub fits_broken : not r ≡ true → Says (NoTrace (store_graph room w) row channels (length values)) true
      fits_broken e = says_yes (go (passed_no s e) (dec_lt channels 1) (dec_lt 8 channels))
        where
          go : (WholeTicks channels (length values) → ⊥) → Dec (channels < 1) → Dec (8 < channels) → NoTrace (store_graph room w) row channels (length values)
          go f (yes h) l = inl h
          go f (no h) (yes l) = inr (inl l)
          go f (no h) (no l) = inr (inr (inl (λ z. f (record { some = omega arith; few = omega arith; whole = z }))))

      pub fits_told : not r ≡ false → (most : ℕ) → most ≡ room → (t : Bool) → Says (SomeAstray (store_graph most w) queue filled channels) (not t)
          → Says (NoTrace (store_graph room w) row channels (length values)) (not t)
      fits_told e most roomy t a = says_same (there, back) (rw roomy at a)
        where
          whole : WholeTicks channels (length values)
          whole = passed_yes s e

          there : SomeAstray (store_graph room w) queue filled channels → NoTrace (store_graph room w) row channels (length values)
          there x =
              inr (inr (inr
              (record {
                row = get_or queue x.place 0;
                leads = c.order.led x.place x.within;
                reads = x.row_astray.reads;
                astray = x.row_astray.astray;
              })))

          back : NoTrace (store_graph room w) row channels (length values) → SomeAstray (store_graph room w) queue filled channels
          back (inl h) = let l = whole.some in absurd (omega arith)
          back (inr (inl h)) = let l = whole.few in absurd (omega arith)
          back (inr (inr (inl f))) = absurd (f whole.whole)
          back (inr (inr (inr x))) = go (c.order.all x.row x.leads)
            where
              go : StandsIn queue 0 filled x.row → SomeAstray (store_graph room w) queue filled channels
              go p =
                  record { place = p.place; within = p.high; row_astray = record { reads = rw p.is x.reads; astray = rw p.is x.astray } }

    module _ (t : Bool) (a : Says (NoTrace (store_graph room w) row channels (length values)) (not t)) where
      pub run_no_trace : not t ≡ true → RunSays w row channels values output 17 output
      run_no_trace q = run_refusal (onward (first_here (said_yes (rw q at a)))) (λ z. omega arith)

      module _ (q : not t ≡ false) where
        fits : NoTrace (store_graph room w) row channels (length values) → ⊥
        fits = said_no (rw q at a)

        pub run_some : 0 < channels
        run_some = go (dec_lt channels 1)
          where
            go : Dec (channels < 1) → 0 < channels
            go (yes h) = absurd (fits (inl h))
            go (no h) = omega arith

        pub run_short : length output < length values / channels → RunSays w row channels values output 18 output
        unfolding ticks
        run_short h = run_refusal (onward (first_later fits (first_here h))) (λ z. omega arith)

        module _ (h : length values / channels ≤ length output) where
          pub run_traced : Traced w n row channels values queue filled output
          unfolding ticks
          run_traced = record { chain = c; some = run_some; room_there = h }

          pub run_all : (most : ℕ) → most ≡ room → (new : List ℤ) → Outputs (store_graph most w) row channels values output new → RunSays w row channels values output 0 new
          unfolding ticks
          run_all most roomy new o =
              let p = rw roomy at o in
              run_done (onward (first_later fits (first_later (λ z. omega arith) first_none)))
              (record { long = p.long; each = p.each; past = p.past })
