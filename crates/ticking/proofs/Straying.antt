-- Whether a channel among the queue's rows is not there.
use Prim.Native.Nat.{ℕ, ◌+◌, ◌/◌, ◌%◌, ◌≤◌, ◌<◌}
use native.Mathlib.Omega.{arith}
use native.Mathlib.Decide.{ℕ_discrete}
use mathlib.Core.Path.{◌≡◌, refl, sym, ap, subst, ◌∙◌}
use mathlib.Core.List.{List, [], ◌∷◌}
use mathlib.Core.Bool.{Bool, true, false}
use lib.ListN.{get_or}
use lib.Dec.{leb}
use borrow.Author.Tests.{leb-true, leb-false}
use Rattle.rules.specs.Answers.{Says, says_yes, says_no}
use Rattle.rules.proofs.Answers.{said_yes, said_no, says_same}
use Rattle.trees.specs.Graph.{Graph}
use Rattle.trees.specs.Paths.{Leads, reach, row}
use Rattle.trees.proofs.Paths.{reach_here, reach_first}
use Rattle.loops.specs.Orders.{StandsIn, Ordered}
use Rattle.store.specs.Layout.{label_of, store_graph}
use Rattle.running.specs.Run.{ChannelAstray}
use Rattle.ticking.specs.Outcomes.{Astray, SomeAstray}

-- ---- one row

says_most : (a b : ℕ) → Says (a ≤ b) (leb a b)
says_most a b = go (leb a b) refl
  where
    go : (t : Bool) → leb a b ≡ t → Says (a ≤ b) t
    go true p = says_yes (leb-true a b p)
    go false p = says_no (λ h. let l = leb-false a b p in omega arith)

module _ (most : ℕ) (w : List ℕ) (u channels label : ℕ) (e : label ≡ label_of most w u) where
  pub other_row : (label / 65536 ≡ 1 → ⊥) → Says (Astray (store_graph most w) channels u) false
  unfolding store_graph
  other_row z = says_no (λ a. z (ap (λ x. x / 65536) e ∙ a.reads))

  pub channel_row : (label / 65536 ≡ 1) → Says (Astray (store_graph most w) channels u) (leb channels (label % 65536))
  unfolding store_graph
  channel_row z =
      says_same (
        (λ h. record { reads = sym (ap (λ x. x / 65536) e) ∙ z; astray = subst (λ x. channels ≤ x % 65536) e h }),
        (λ a. subst (λ x. channels ≤ x % 65536) (sym e) a.astray),
      )
      (says_most channels (label % 65536))

-- ---- the queue's rows

-- none of the first k is astray
pub record NoneAstray (g : Graph) (queue : List ℕ) (filled channels k : ℕ) : Type 0 where
  pub some : k ≤ filled
  pub none : (i : ℕ) → i < k → Astray g channels (get_or queue i 0) → ⊥

module _ (g : Graph) (queue : List ℕ) (filled channels : ℕ) where
  pub astray_none : NoneAstray g queue filled channels 0
  astray_none = record { some = omega arith; none = λ i h a. omega arith }

  module _ (k x : ℕ) (s : NoneAstray g queue filled channels k) (h : k < filled) (e : x ≡ get_or queue k 0) (r : Bool) (a : Says (Astray g channels x) r) where
    pub astray_here : r ≡ true → Says (SomeAstray g queue filled channels) true
    astray_here q = says_yes (record { place = k; within = h; row_astray = subst (Astray g channels) e (said_yes (rw q at a)) })

    pub astray_more : r ≡ false → NoneAstray g queue filled channels (k + 1)
    astray_more q = record { some = omega arith; none = λ i l. go i l (ℕ_discrete i k) }
      where
        go : (i : ℕ) → i < k + 1 → Dec (i ≡ k) → Astray g channels (get_or queue i 0) → ⊥
        go i l (yes z) b = said_no (rw q at a) (rw (e, ← z) b)
        go i l (no z) b = s.none i (omega arith) b

  pub astray_all : (k : ℕ) → NoneAstray g queue filled channels k → filled ≤ k → Says (SomeAstray g queue filled channels) false
  astray_all k s h = says_no (λ a. s.none a.place (omega (arith, a.within)) a.row_astray)

-- ---- rows that a row leads to

module _ {g : Graph} {queue : List ℕ} {filled : ℕ} (o : Ordered g queue filled) where
  follows : (p : List ℕ) (u v : ℕ) → StandsIn queue 0 filled u → reach g u p ≡ row v → StandsIn queue 0 filled v
  follows [] u v s e = let q : u ≡ v = cc (reach_here g u) in rw q at s
  follows (m ∷ p) u v s e =
      let f = reach_first g u m p e in
      let z = s.is in
      let l : m < g.count (get_or queue s.place 0) = rw z f.0 in
      let t = o.all s.place m s.high l in
      follows p (g.input u m) v (rw z at t) f.1

  -- an order has every row that one of its rows leads to
  pub led_stands : {u v : ℕ} → StandsIn queue 0 filled u → Leads g u v → StandsIn queue 0 filled v
  led_stands {u} {v} s l = follows l.path u v s l.there

  -- so a channel reached that is not there stands among them
  pub channel_some : {u channels : ℕ} → StandsIn queue 0 filled u → ChannelAstray g u channels → SomeAstray g queue filled channels
  channel_some {u} {channels} s a = go (led_stands s a.leads)
    where
      go : StandsIn queue 0 filled a.row → SomeAstray g queue filled channels
      go t = record { place = t.place; within = t.high; row_astray = rw t.is (record { reads = a.reads; astray = a.astray }) }

-- and the other way, where the row leads to all of them
pub some_channel : {g : Graph} {queue : List ℕ} {filled channels u : ℕ} → ((k : ℕ) → k < filled → Leads g u (get_or queue k 0)) → SomeAstray g queue filled channels → ChannelAstray g u channels
some_channel {queue = queue} leads a =
    record { row = get_or queue a.place 0; leads = leads a.place a.within; reads = a.row_astray.reads; astray = a.row_astray.astray }
