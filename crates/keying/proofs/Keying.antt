-- What each step of writing a key leads to.
use Prim.Native.Nat.{ℕ, ◌≤◌, ◌<◌}
use native.Mathlib.Omega.{arith}
use native.Mathlib.Decide.{dec_lt}
use mathlib.Core.Path.{◌≡◌, refl, ap, ◌∙◌}
use mathlib.Core.List.{List, [], ◌∷◌}
use lib.ListN.{length, take}
use Rattle.std.specs.Prelude.{Result, Err}
use Rattle.rules.specs.Refusals.{First, ◌when◌}
use Rattle.rules.specs.Writes.{over_front}
use Rattle.rules.proofs.Refusals.{first_here, first_later, first_none, first_front, first_unique, done_none}
use Rattle.store.specs.Layout.{in_use, store_graph, room}
use Rattle.store.specs.Sound.{Sound}
use Rattle.store.proofs.Graphs.{shaped_closed}
use Rattle.walks.specs.Key.{walk_all, keyed}
use Rattle.keys.specs.Bytes.{sheet_bytes}
use Rattle.walker.specs.Queue.{Queued}
use Rattle.walker.proofs.Visits.{walkable_few}
use Rattle.keywriter.specs.Asked.{Held}
use Rattle.keywriter.proofs.Places.{held_of, held_sheet}
use Rattle.checking.specs.Checked.{SoundStore, CheckedSays, checked_refused}
use Rattle.store.specs.Sound.{flaw_number}
use Rattle.store.specs.declared.shape.Flaw.{Flaw}
use Rattle.checking.proofs.Looking.{sound_walkable}
use Rattle.checking.proofs.Done.{store_known}
use Rattle.walks.proofs.Reached.{all_few}
use Rattle.keying.specs.Written.{walk_of, key_of, write_refusals, WriteSays, write_refused, write_done}
use Rattle.keying.specs.declared.Written.{Written}

-- the key of a row in use of a sound store has at most 1,024 rows
pub key_rows : {w : List ℕ} {row : ℕ} → Sound room w → row < in_use w → length (walk_of w row) ≤ 1024
key_rows {w} {row} s h =
    let f = all_few (shaped_closed room w s.shaped) h in
    omega (arith, walkable_few room w (in_use w) (record { limit = omega arith; shaped = s.shaped; counted = refl }))

module _ (w : List ℕ) (n row : ℕ) (s : SoundStore w n) where
  past : (old : List ℕ) {r : ℕ} → First ((9 when (in_use w ≤ row)) ∷ (10 when (length old < length (key_of w row))) ∷ []) r → First (write_refusals w row old) r
  past old f = let h = s.words in first_later (λ z. omega arith) (first_later (λ x. x s.sound) f)

  pub row_out : (old : List ℕ) → n ≤ row → WriteSays w row old (record { number = 9; bytes = 0 }) old
  row_out old h = write_refused (past old (first_here (omega (arith, s.counted)))) (λ z. omega arith)

  module _ (queue marks : List ℕ) (filled : ℕ) (h : row < n) (q : Queued n queue marks filled (walk_all (store_graph room w) n row)) where
    pub walked_held : Held room w n queue marks filled
    walked_held = held_of room w n row queue marks filled (sound_walkable w n s) h q

    walked_key : sheet_bytes (keyed (store_graph room w) (take filled queue)) filled ≡ key_of w row
    walked_key = held_sheet room w n row queue marks filled q ∙ ap (λ m. sheet_bytes (keyed (store_graph room w) (walk_all (store_graph room w) m row)) (length (walk_all (store_graph room w) m row))) s.counted

    module _ (need : ℕ) (old : List ℕ) (e : need ≡ length (sheet_bytes (keyed (store_graph room w) (take filled queue)) filled)) where
      pub key_short : length old < need → WriteSays w row old (record { number = 10; bytes = 0 }) old
      key_short l =
          let k = ap length walked_key in
          write_refused
          (past old (first_later (λ x. omega (arith, s.counted)) (first_here (omega arith))))
          (λ z. omega arith)

      pub key_written_lem : (key : List ℕ) → need ≤ length old → key ≡ over_front (sheet_bytes (keyed (store_graph room w) (take filled queue)) filled) old → WriteSays w row old (record { number = 0; bytes = need }) key
      key_written_lem key l k =
          let p = ap length walked_key in
          let b : need ≡ length (key_of w row) = e ∙ p in
          let v : key ≡ over_front (key_of w row) old = k ∙ ap (λ x. over_front x old) walked_key in
          rw (b, v)
          (write_done
          (past old (first_later (λ x. omega (arith, s.counted)) (first_later (λ x. omega arith) first_none))))

pub store_refused : (w : List ℕ) (row : ℕ) (old : List ℕ) (a : Result ℕ Flaw) (flaw : Flaw) (number : ℕ) → CheckedSays w a → a ≡ Err flaw → number ≡ flaw_number flaw → WriteSays w row old (record { number = number; bytes = 0 }) old
store_refused w row old a flaw number s e n = rw n (go (rw e at s))
  where
    go : CheckedSays w (Err flaw) → WriteSays w row old (record { number = flaw_number flaw; bytes = 0 }) old
    go (checked_refused f z) =
        write_refused
        (first_front ((9 when (in_use w ≤ row)) ∷ (10 when (length old < length (key_of w row))) ∷ []) f z)
        z

-- ---- one outcome

pub write_number_lem : {w : List ℕ} {row : ℕ} {old : List ℕ} {a b : Written} {x y : List ℕ} → WriteSays w row old a x → WriteSays w row old b y → a ≡ b
write_number_lem (write_refused f z) (write_refused g y) = let e = first_unique f g in rw e
write_number_lem (write_refused f z) (write_done g) = absurd (z (first_unique f g))
write_number_lem (write_done f) (write_refused g y) = absurd (y (first_unique g f))
write_number_lem (write_done f) (write_done g) = refl

pub write_bytes : {w : List ℕ} {row : ℕ} {old : List ℕ} {a b : Written} {x y : List ℕ} → WriteSays w row old a x → WriteSays w row old b y → x ≡ y
write_bytes (write_refused f z) (write_refused g y) = refl
write_bytes (write_refused f z) (write_done g) = absurd (z (first_unique f g))
write_bytes (write_done f) (write_refused g y) = absurd (y (first_unique g f))
write_bytes (write_done f) (write_done g) = refl

-- ---- a done key: the store has words and is sound, and the row is in use

pub record KeyDone (w : List ℕ) (row : ℕ) : Type 0 where
  pub store : SoundStore w (in_use w)
  pub used : row < in_use w

pub write_sound : {w : List ℕ} {row : ℕ} {old : List ℕ} {a : Written} {x : List ℕ} → WriteSays w row old a x → a.number ≡ 0 → KeyDone w row
write_sound (write_refused f z) e = absurd (z e)
write_sound {w} {row} {old} (write_done f) e =
    let n = done_none {l = write_refusals w row old} ((λ z. omega arith), ((λ z. omega arith), ((λ z. omega arith), ((λ z. omega arith), tt)))) f in
    record { store = store_known w n.0 n.1.0; used = go (dec_lt row (in_use w)) n.1.1.0 }
  where
    go : Dec (row < in_use w) → (in_use w ≤ row → ⊥) → row < in_use w
    go (yes h) m = h
    go (no h) m = absurd (m (omega arith))
