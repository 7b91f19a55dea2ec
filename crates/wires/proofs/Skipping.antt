-- Trees read with wires skipped: a row that is no wire is read as it stands, a wire has the tree of what it leads to, and where there are no wires nothing changes.
use Prim.Native.Nat.{ℕ, ◌<◌}
use mathlib.Core.Path.{◌≡◌, refl, sym, ap}
use Rattle.trees.specs.Graph.{Graph, Closed}
use Rattle.trees.specs.Agreement.{Alike, SameTree}
use Rattle.trees.proofs.Agreement.{same_refl, same_back}
use Rattle.trees.proofs.Matching.{SaysSame, views_same}
use Rattle.wires.specs.Wires.{Wire, most_wires, through, skipping, Plain, WiresFit}
use Rattle.wires.proofs.Following.{follow_low, through_wire, through_plain}

module _ (g : Graph) where
  pub skipping_label : (u : ℕ) → (skipping g).label u ≡ g.label (through g u)
  unfolding skipping
  skipping_label u = refl

  pub skipping_count : (u : ℕ) → (skipping g).count u ≡ g.count (through g u)
  unfolding skipping
  skipping_count u = refl

  pub skipping_input : (u j : ℕ) → (skipping g).input u j ≡ g.input (through g u) j
  unfolding skipping
  skipping_input u j = refl

  -- rows that lead to one row have one tree
  pub through_same : (u v : ℕ) → through g u ≡ through g v → SameTree (skipping g) u (skipping g) v
  unfolding skipping
  through_same u v e =
      same_back (record { labels = ap g.label e; counts = ap g.count e })
      (λ j l. let i : g.input (through g u) j ≡ g.input (through g v) j = ap (λ x. g.input x j) e in rw i (same_refl (skipping g) (g.input (through g v) j)))

  -- a wire row has the tree of what it leads to
  pub wire_tree : (u : ℕ) → (Wire g (through g u) → ⊥) → Wire g u → SameTree (skipping g) u (skipping g) (g.input u 0)
  wire_tree u ends w = through_same u (g.input u 0) (sym (through_wire g u ends w))

  -- a row that is no wire has its own label, input count and inputs
  module _ (u : ℕ) (p : Wire g u → ⊥) where
    pub plain_alike : Alike (skipping g) u g u
    unfolding skipping
    plain_alike = record { labels = ap g.label (through_plain g u p); counts = ap g.count (through_plain g u p) }

    pub plain_input : (j : ℕ) → (skipping g).input u j ≡ g.input u j
    unfolding skipping
    plain_input j = ap (λ x. g.input x j) (through_plain g u p)

  module _ {n : ℕ} (c : Closed g n) where
    pub skipping_closed : WiresFit g n → Closed (skipping g) n
    unfolding skipping
    skipping_closed f = record { within = λ u j h l. c.within (through g u) j (follow_low g c f most_wires u h) l }

    -- where there are no wires nothing changes
    module _ (p : Plain g n) where
      pub plain_says : SaysSame (skipping g) g n
      plain_says = record { alike = λ u h. plain_alike u (p.plain u h); inputs = λ u h j l. plain_input u (p.plain u h) j }

      pub plain_fits : WiresFit g n
      plain_fits = record { one = λ u h w. absurd (p.plain u h w) }

      pub plain_same : (u : ℕ) → u < n → SameTree (skipping g) u g u
      plain_same = views_same (skipping_closed plain_fits) plain_says
