-- A sheet row whose wires lead to a sheet row is read without the store: it is the same row beside whatever words.
use Prim.Native.Nat.{ℕ, zero, suc, ◌≤◌, ◌<◌}
use native.Mathlib.Omega.{arith}
use native.Mathlib.Decide.{dec_lt}
use mathlib.Core.Path.{◌≡◌, sym, ap, ◌∙◌}
use mathlib.Core.Bool.{Bool}
use mathlib.Core.List.{List}
use Rattle.wires.specs.Wires.{is_wire, Wire, follow, most_wires, through, skipping, Plain}
use Rattle.wires.proofs.Following.{Told, told_wire, told_plain, told, follow_none, follow_wire, follow_plain}
use Rattle.rows.specs.Joined.{Source, source, drawn, joined}
use Rattle.rows.proofs.Joined.{sheet_label, sheet_count, sheet_input}

module _ (s : Source) (plain : Plain (drawn s) s.stored) (most : ℕ) (w : List ℕ) where
  abbrev other : Source
  other = source most w s.stored s.bytes

  same_label : (u : ℕ) → s.stored ≤ u → (drawn s).label u ≡ (drawn other).label u
  same_label u h = sheet_label s u h ∙ sym (sheet_label other u h)

  same_input : (u j : ℕ) → s.stored ≤ u → (drawn s).input u j ≡ (drawn other).input u j
  same_input u j h = sheet_input s u h j ∙ sym (sheet_input other u h j)

  follow_apart : (k u : ℕ) → s.stored ≤ u → s.stored ≤ follow (drawn s) k u → follow (drawn other) k u ≡ follow (drawn s) k u
  follow_apart zero u h l = follow_none (drawn other) u ∙ sym (follow_none (drawn s) u)
  follow_apart (suc k) u h l = go (told (drawn s) u) (follow_apart k ((drawn s).input u 0))
    where
      go : {t : Bool} → Told (drawn s) u t
          → (s.stored ≤ (drawn s).input u 0 → s.stored ≤ follow (drawn s) k ((drawn s).input u 0) → follow (drawn other) k ((drawn s).input u 0) ≡ follow (drawn s) k ((drawn s).input u 0))
          → follow (drawn other) (suc k) u ≡ follow (drawn s) (suc k) u
      go (told_plain p) ih =
          follow_plain (drawn other) (suc k) u (λ q. p (record { is = ap is_wire (same_label u h) ∙ q.is })) ∙ sym (follow_plain (drawn s) (suc k) u p)
      go (told_wire q) ih = on (dec_lt ((drawn s).input u 0) s.stored)
        where
          y : Wire (drawn other) u
          y = record { is = ap is_wire (sym (same_label u h)) ∙ q.is }

          e : follow (drawn s) (suc k) u ≡ follow (drawn s) k ((drawn s).input u 0)
          e = follow_wire (drawn s) k u q

          on : Dec ((drawn s).input u 0 < s.stored) → follow (drawn other) (suc k) u ≡ follow (drawn s) (suc k) u
          on (yes b) = absurd (omega (arith, e ∙ follow_plain (drawn s) k ((drawn s).input u 0) (plain.plain ((drawn s).input u 0) b)))
          on (no b) =
              follow_wire (drawn other) k u y
              ∙ ap (follow (drawn other) k) (sym (same_input u 0 h))
              ∙ ih (omega arith) (rw e at l)
              ∙ sym e

  module _ (u : ℕ) (h : s.stored ≤ u) (l : s.stored ≤ through (drawn s) u) where
    end : through (drawn other) u ≡ through (drawn s) u
    end = follow_apart most_wires u h l

    pub apart_label : (joined other).label u ≡ (joined s).label u
    unfolding joined skipping
    apart_label = ap (drawn other).label end ∙ sym (same_label (through (drawn s) u) l)

    pub apart_count : (joined other).count u ≡ (joined s).count u
    unfolding joined skipping
    apart_count = ap (drawn other).count end ∙ sheet_count other (through (drawn s) u) l ∙ sym (sheet_count s (through (drawn s) u) l)

    pub apart_input : (j : ℕ) → (joined other).input u j ≡ (joined s).input u j
    unfolding joined skipping
    apart_input j = ap (λ x. (drawn other).input x j) end ∙ sym (same_input (through (drawn s) u) j l)
