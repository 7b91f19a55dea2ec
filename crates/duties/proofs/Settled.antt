-- What is not refuted, where it can be decided: a store that is not unsound is sound, and a sheet with nothing listed wrong is readable.
use Prim.Native.Nat.{ℕ, ◌≤◌, ◌<◌}
use native.Mathlib.Omega.{arith}
use native.Mathlib.Decide.{dec_le, dec_lt, ℕ_discrete}
use mathlib.Core.Path.{◌≡◌, refl}
use mathlib.Core.Bool.{Bool, true, false}
use mathlib.Core.List.{List}
use mathlib.Core.Logic.{inl, inr}
use Rattle.sheet.specs.Read.{most_inputs}
use Rattle.sheet.specs.Refusals.{WrongLength, WrongVersion, WrongRows, Readable}
use Rattle.wires.specs.Wires.{is_wire}
use Rattle.store.specs.Layout.{label_of, room}
use Rattle.store.specs.Sound.{Sound}

settled : {a b : ℕ} → ((a ≡ b → ⊥) → ⊥) → a ≡ b
settled {a} {b} h = go (ℕ_discrete a b)
  where
    go : Dec (a ≡ b) → a ≡ b
    go (yes e) = e
    go (no n) = absurd (h n)

at_most : {a b : ℕ} → ((a ≤ b → ⊥) → ⊥) → a ≤ b
at_most {a} {b} h = go (dec_le a b)
  where
    go : Dec (a ≤ b) → a ≤ b
    go (yes e) = e
    go (no n) = absurd (h n)

below : {a b : ℕ} → ((a < b → ⊥) → ⊥) → a < b
below {a} {b} h = go (dec_lt a b)
  where
    go : Dec (a < b) → a < b
    go (yes e) = e
    go (no n) = absurd (h n)

no_yes : (t : Bool) → ((t ≡ false → ⊥) → ⊥) → t ≡ false
no_yes true h = absurd (h (λ e. let z : ◌≡◌ {A = ℕ} 0 1 = cc in omega arith))
no_yes false h = refl

pub not_unsound : (w : List ℕ) → ((Sound room w → ⊥) → ⊥) → Sound room w
not_unsound w h =
    record {
      shaped = record {
        fits = at_most (λ n. h (λ s. n s.shaped.fits));
        rows = λ i l. record {
          plain = no_yes (is_wire (label_of room w i)) (λ n. h (λ s. n (s.shaped.rows i l).plain));
          few = at_most (λ n. h (λ s. n (s.shaped.rows i l).few));
          used = λ j q. below (λ n. h (λ s. n ((s.shaped.rows i l).used j q)));
          unused = λ j q m. settled (λ n. h (λ s. n ((s.shaped.rows i l).unused j q m)));
        };
      };
      distinct = record { apart = λ u v p q t. settled (λ n. h (λ s. n (s.distinct.apart u v p q t))) };
    }

pub right_readable : (b : List ℕ) → (WrongLength b → ⊥) → (WrongVersion b → ⊥) → (WrongRows (most_inputs b) b → ⊥) → Readable b
right_readable b long version rows =
    record {
      long = at_most (λ n. long (inl (omega (arith, n))));
      counted = settled (λ n. long (inr n));
      version = settled version;
      few = at_most (λ n. rows (inl (omega (arith, n))));
      within = λ i l. at_most (λ n. rows (inr (inl (record { row = i; of_sheet = l; crowded = omega (arith, n) }))));
      whole = settled (λ n. rows (inr (inr n)));
    }
