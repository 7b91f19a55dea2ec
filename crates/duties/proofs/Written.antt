-- What writing a key leaves, done: the key of a row of a sound store at the buffer's front.
use Prim.Native.Nat.{ℕ, ◌≤◌, ◌<◌}
use native.Mathlib.Omega.{arith}
use mathlib.Core.Path.{◌≡◌, refl, sym, ◌∙◌}
use mathlib.Core.List.{List, [], ◌∷◌}
use mathlib.Core.Logic.{◌↔◌}
use lib.ListN.{length, take, drop}
use lib.Seq.{take-append_seam}
use Rattle.rules.specs.Refusals.{NoneOf, Numbered}
use Rattle.rules.specs.Writes.{over_front}
use Rattle.rules.proofs.Refusals.{none_done, done_none, first_unique}
use Rattle.trees.specs.Agreement.{SameTree}
use Rattle.trees.proofs.Agreement.{same_sym, same_trans}
use Rattle.sheet.specs.Format.{row_count_of}
use Rattle.store.specs.Layout.{in_use, store_graph, room}
use Rattle.store.specs.Sound.{Sound}
use Rattle.keys.specs.Sheets.{sheet_graph, IsKey}
use Rattle.inserting.specs.Insert.{InsertSays}
use Rattle.inserting.specs.declared.insertion.Inserted.{Inserted}
use Rattle.keying.specs.Written.{key_of, write_refusals, WriteSays, write_refused, write_done}
use Rattle.keying.specs.declared.Written.{Written}
use Rattle.duties.specs.Words.{KeyKnown}
use Rattle.duties.proofs.Settled.{not_unsound}
use Rattle.duties.proofs.Inserted.{key_known}
use Rattle.duties.proofs.Keys.{key_reads, key_is_key, keys_equal}

-- the buffer's front is the key
pub record HasKey (w : List ℕ) (a : ℕ) (r : Written) (key : List ℕ) : Type 0 where
  pub done : r.number ≡ 0
  pub bytes : take r.bytes key ≡ key_of w a

take_over_lem : (k old : List ℕ) → take (length k) (over_front k old) ≡ k
unfolding over_front
take_over_lem k old = take-append_seam k (drop (length k) old)

-- a store with a row in use has words
pub has_words : (w : List ℕ) (a : ℕ) → a < in_use w → 0 < length w
has_words [] a p = absurd (omega (arith, p))
has_words (x ∷ l) a p = omega arith

-- into a buffer long enough it is written
pub key_there : {w old : List ℕ} {a : ℕ} {key : List ℕ} {r : Written} → Sound room w → a < in_use w → length (key_of w a) ≤ length old → WriteSays w a old r key → HasKey w a r key
key_there {w} {old} {a = a} s p l (write_refused f z) = absurd (z (first_unique f (none_done (write_refusals w a old) none)))
  where
    none : NoneOf (write_refusals w a old)
    none = let h = has_words w a p in (λ e. omega arith, ((λ n. n s), ((λ n. omega arith), (λ n. omega arith, tt))))
key_there {w} {old} {a = a} s p l (write_done f) = record { done = refl; bytes = take_over_lem (key_of w a) old }

-- no number of the list is 0
numbered : (w : List ℕ) (a : ℕ) (old : List ℕ) → Numbered (write_refusals w a old)
numbered w a old = ((λ z. omega arith), ((λ z. omega arith), ((λ z. omega arith), ((λ z. omega arith), tt))))

pub write_none : {w old : List ℕ} {a : ℕ} {key : List ℕ} {r : Written} → WriteSays w a old r key → r.number ≡ 0 → NoneOf (write_refusals w a old)
write_none (write_refused f z) e = absurd (z e)
write_none {w} {old} {a = a} (write_done f) e = done_none (numbered w a old) f

-- what is done: the store was sound, the row in use, and the key is there
pub record Wrote (w : List ℕ) (a : ℕ) (r : Written) (key : List ℕ) : Type 0 where
  pub sound : Sound room w
  pub used : a < in_use w
  pub has : HasKey w a r key

pub write_wrote : {w old : List ℕ} {a : ℕ} {key : List ℕ} {r : Written} → WriteSays w a old r key → r.number ≡ 0 → Wrote w a r key
write_wrote (write_refused f z) e = absurd (z e)
write_wrote {w} {old} {a = a} (write_done f) e =
    let n = done_none (numbered w a old) f in
    record {
      sound = not_unsound w n.1.0;
      used = omega (arith, n.1.1.0);
      has = record { done = refl; bytes = take_over_lem (key_of w a) old };
    }

-- ---- a key written is a key, and read back it yields its tree

module _ {w key : List ℕ} {a : ℕ} {r : Written} (x : Wrote w a r key) where
  pub written_key : IsKey (take r.bytes key)
  written_key = rw x.has.bytes (key_is_key x.sound x.used)

  pub written_reads : SameTree (store_graph room w) a (sheet_graph (take r.bytes key)) 0
  written_reads = rw x.has.bytes (key_reads x.sound x.used)

-- ---- two keys written are equal byte for byte exactly when the rows agree at every depth

pub written_equal : {w v key key' : List ℕ} {a b : ℕ} {r r' : Written} → Wrote w a r key → Wrote v b r' key' → SameTree (store_graph room w) a (store_graph room v) b ↔ (take r.bytes key ≡ take r'.bytes key')
written_equal x y =
    let e = keys_equal x.sound y.sound x.used y.used in
    let c = x.has.bytes in
    let d = y.has.bytes in
    ((λ h. c ∙ e.0 h ∙ sym d), (λ h. e.1 (sym c ∙ h ∙ d)))

-- ---- a key written, inserted into a store that has its tree

pub written_known : {w key v answers : List ℕ} {a m : ℕ} {k : Written} {r : Inserted} {v' answers' : List ℕ} → Wrote w a k key → Sound room v → m < in_use v → row_count_of (take k.bytes key) ≤ length answers → InsertSays v (take k.bytes key) answers r v' answers' → SameTree (store_graph room w) a (store_graph room v) m → KeyKnown v m r v' answers'
written_known {key = key} {v = v} {m = m} {k = k} x t q l i s =
    key_known v (take k.bytes key) (written_key x) t q (same_trans (same_sym (written_reads x)) s) (has_words v m q) l i
