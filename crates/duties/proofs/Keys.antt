-- Keys of rows of sound stores: what they are read back as, when they are equal, and that they are keys.
use Prim.Native.Nat.{ℕ, ◌<◌}
use mathlib.Core.Path.{◌≡◌, sym, ap, ◌∙◌}
use mathlib.Core.List.{List}
use mathlib.Core.Logic.{◌↔◌}
use lib.ListN.{length, get_or}
use Rattle.trees.specs.Graph.{Graph, Closed}
use Rattle.trees.specs.Agreement.{SameTree}
use Rattle.trees.proofs.Agreement.{same_trans}
use Rattle.trees.proofs.Matching.{SaysSame, views_same}
use Rattle.sheet.specs.Format.{row_count_of}
use Rattle.store.specs.Layout.{in_use, store_graph, room}
use Rattle.store.specs.Sound.{Sound}
use Rattle.wires.specs.Wires.{Plain}
use Rattle.store.proofs.Graphs.{shaped_closed, shaped_plain}
use Rattle.walks.specs.Key.{walk_all, key_graph}
use Rattle.walks.proofs.Reached.{walk_first, all_rows_lem}
use Rattle.walks.proofs.Keyed.{keyed_label, keyed_count, key_first, key_closed, key_minimal, key_walk}
use Rattle.walks.proofs.Lockstep.{SameKey, same_key, key_same, own_key}
use Rattle.keys.specs.Bytes.{sheet_bytes, EachByte}
use Rattle.keys.specs.Sheets.{sheet_graph, IsKey}
use Rattle.keys.proofs.Readback.{Writable, written_count, written_says, written_readable, written_leads}
use Rattle.keys.proofs.Rewritten.{rewritten, readable_writable}
use Rattle.keys.proofs.SameBytes.{bytes_same, same_bytes}
use Rattle.walks.proofs.Views.{same_walks, same_minimal}
use Rattle.keying.specs.Written.{walk_of, key_of}
use Rattle.keying.proofs.Keying.{key_rows}

-- ---- keys as rows and as bytes

says_key : {g h : Graph} {n m : ℕ} → SameKey g h n m → SaysSame g h n
says_key k =
    record {
      alike = λ i l. record { labels = k.labels i l; counts = k.counts i l };
      inputs = λ i l j. k.inputs i j l;
    }

key_says : {g h : Graph} {n m : ℕ} → n ≡ m → SaysSame g h n → SameKey g h n m
key_says e s =
    record {
      rows = e;
      labels = λ i l. (s.alike i l).labels;
      counts = λ i l. (s.alike i l).counts;
      inputs = λ i j l. s.inputs i l j;
    }

pub key_bytes : {g h : Graph} {n m : ℕ} → SameKey g h n m → sheet_bytes g n ≡ sheet_bytes h m
key_bytes {h = h} k = bytes_same (says_key k) ∙ ap (sheet_bytes h) k.rows

module _ {w : List ℕ} {a : ℕ} (s : Sound room w) (p : a < in_use w) where
  closed : Closed (store_graph room w) (in_use w)
  closed = shaped_closed room w s.shaped

  -- a key read back yields its tree, at its row 0
  pub key_reads : SameTree (store_graph room w) a (sheet_graph (key_of w a)) 0
  key_reads =
      same_trans
      (key_first closed p)
      (views_same
      (key_closed closed p)
      (written_says (key_graph (store_graph room w) (in_use w) a) (length (walk_of w a)))
      0
      (walk_first (store_graph room w) a (in_use w)).0)

  -- a key is a key
  low : (k : ℕ) → k < length (walk_of w a) → get_or (walk_of w a) k 0 < in_use w
  low k h = (all_rows_lem closed p).below.each k h

  writable : Writable (key_graph (store_graph room w) (in_use w) a) (length (walk_of w a))
  unfolding store_graph
  writable =
      record {
        rows = key_rows s p;
        counts = λ k h. rw (keyed_count (store_graph room w) (walk_of w a) k) (s.shaped.rows (get_or (walk_of w a) k 0) (low k h)).few;
        inputs = λ k j h. (key_closed closed p).within k j h;
      }

  -- a sound store has no wires, and so its keys have none
  key_plain : {h : Graph} → SaysSame (key_graph (store_graph room w) (in_use w) a) h (length (walk_of w a)) → Plain h (length (walk_of w a))
  key_plain says =
      record {
        plain = λ u l x.
            (shaped_plain room w s.shaped).plain (get_or (walk_of w a) u 0) (low u l)
            (record { is = rw (keyed_label (store_graph room w) (walk_of w a) u) at (rw (← (says.alike u l).labels) at x.is) });
      }

  pub key_is_key : IsKey (key_of w a)
  key_is_key =
      let g = key_graph (store_graph room w) (in_use w) a in
      let n = length (walk_of w a) in
      let c = key_closed closed p in
      let says = written_says g n in
      let e = written_count g n in
      record {
        readable = written_readable writable;
        some = rw e (walk_first (store_graph room w) a (in_use w)).0;
        leads = written_leads writable;
        plain = rw e (key_plain says);
        distinct = rw e ((same_minimal c says).0 (key_minimal closed p s.distinct));
        ordered = rw e (sym (same_walks c says 0 (walk_first (store_graph room w) a (in_use w)).0) ∙ key_walk closed p);
      }

-- ---- duty 3: equal byte for byte exactly when the rows have the same tree

module _ {w v : List ℕ} {a b : ℕ} (s : Sound room w) (t : Sound room v) (p : a < in_use w) (q : b < in_use v) where
  pub keys_equal : SameTree (store_graph room w) a (store_graph room v) b ↔ (key_of w a ≡ key_of v b)
  keys_equal = (there, back)
    where
      there : SameTree (store_graph room w) a (store_graph room v) b → key_of w a ≡ key_of v b
      there x = key_bytes (same_key (closed s p) (closed t q) p q s.distinct t.distinct x)

      back : key_of w a ≡ key_of v b → SameTree (store_graph room w) a (store_graph room v) b
      back e =
          let k = same_bytes (key_graph (store_graph room w) (in_use w) a) (key_graph (store_graph room v) (in_use v) b) (length (walk_of w a)) (length (walk_of v b)) e in
          key_same (closed s p) (closed t q) p q (key_says k.0 k.1)

-- ---- bytes that are their own key

-- bytes that are a key are the key of their row 0
pub is_own_key : {b : List ℕ} → IsKey b → EachByte b → sheet_bytes (key_graph (sheet_graph b) (row_count_of b) 0) (length (walk_all (sheet_graph b) (row_count_of b) 0)) ≡ b
is_own_key {b} k e =
    let f = readable_writable k.readable k.leads in
    let c : Closed (sheet_graph b) (row_count_of b) = record { within = λ u j. f.inputs u j } in
    key_bytes (own_key c k.some k.ordered) ∙ rewritten k.readable e
