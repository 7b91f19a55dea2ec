-- Number 11 was for a key of more than 1,024 rows. It is not used: no store and no number led to it, and the list without it gives the same numbers.
use Prim.Native.Nat.{ℕ, ◌≤◌, ◌<◌}
use native.Mathlib.Omega.{arith}
use mathlib.Core.Path.{◌≡◌}
use mathlib.Core.List.{List, [], ◌∷◌}
use mathlib.Core.Logic.{inl, inr, ◌↔◌}
use lib.ListN.{length}
use Rattle.rules.specs.Refusals.{Refusal, ◌when◌, FirstIn, First}
use Rattle.store.specs.Layout.{in_use, room}
use Rattle.store.specs.Sound.{Sound}
use Rattle.keying.specs.Written.{walk_of, key_of, write_refusals}
use Rattle.keying.proofs.Keying.{key_rows}

module _ (w : List ℕ) (row : ℕ) (key : List ℕ) where
  -- the list that key writing had
  abbrev pub old_refusals : List Refusal
  old_refusals =
      (1 when (length w ≡ 0))
      ∷ (2 when (Sound room w → ⊥))
      ∷ (9 when (in_use w ≤ row))
      ∷ (11 when (1024 < length (walk_of w row)))
      ∷ (10 when (length key < length (key_of w row)))
      ∷ []

  -- where 2 and 9 do not apply, 11 does not
  few : ((Sound room w → ⊥) → ⊥) → (in_use w ≤ row → ⊥) → 1024 < length (walk_of w row) → ⊥
  few s h l = s (λ x. let k = key_rows {row = row} x (omega arith) in omega arith)

  never : FirstIn old_refusals 11 → ⊥
  never (inl p) = let e = p.1 in omega arith
  never (inr (p, inl q)) = let e = q.1 in omega arith
  never (inr (p, inr (q, inl r))) = let e = r.1 in omega arith
  never (inr (p, inr (q, inr (r, inl s)))) = few q r s.0
  never (inr (p, inr (q, inr (r, inr (s, inl t))))) = let e = t.1 in omega arith
  never (inr (p, inr (q, inr (r, inr (s, inr t))))) = omega arith

  -- no store and no number lead to 11
  pub eleven_never : First old_refusals 11 → ⊥
  eleven_never f = never f.first

  without : {r : ℕ} → FirstIn old_refusals r → FirstIn (write_refusals w row key) r
  without (inl p) = inl p
  without (inr (p, inl q)) = inr (p, inl q)
  without (inr (p, inr (q, inl r))) = inr (p, inr (q, inl r))
  without (inr (p, inr (q, inr (r, inl s)))) = absurd (few q r s.0)
  without (inr (p, inr (q, inr (r, inr (s, t))))) = inr (p, inr (q, inr (r, t)))

  back : {r : ℕ} → FirstIn (write_refusals w row key) r → FirstIn old_refusals r
  back (inl p) = inl p
  back (inr (p, inl q)) = inr (p, inl q)
  back (inr (p, inr (q, inl r))) = inr (p, inr (q, inl r))
  back (inr (p, inr (q, inr (r, t)))) = inr (p, inr (q, inr (r, inr (few q r, t))))

  -- and without it every answer is what it was
  pub eleven_same : {r : ℕ} → First old_refusals r ↔ First (write_refusals w row key) r
  eleven_same = (λ f. record { first = without f.first }, λ f. record { first = back f.first })
