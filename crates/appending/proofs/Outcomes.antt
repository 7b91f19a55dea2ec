-- From the store rows reached and the rows in order to what the converter says: which rows are appended, that they are too many (20) or few
-- enough, that the buffer is too short (10), and what the result is.
use Prim.Native.Nat.{ℕ, suc, ◌+◌, ◌≤◌, ◌<◌}
use native.Mathlib.Omega.{arith}
use mathlib.Core.Path.{◌≡◌, refl, sym, ap, ◌∙◌}
use mathlib.Core.List.{List}
use lib.ListN.{length, get_or, take}
use lib.Seq.{get_or-take, length-take-le}
use Rattle.trees.specs.Graph.{Graph}
use Rattle.sheet.specs.Format.{row_count_of, most_rows}
use Rattle.store.specs.Layout.{room}
use Rattle.rows.specs.Joined.{source, drawn}
use Rattle.rows.specs.Tabled.{Tabled}
use Rattle.walks.specs.Member.{Member}
use Rattle.converts.specs.Rising.{Rising, rising_none, rising_with, rising_past}
use Rattle.converts.specs.Result.{FromSheet}
use Rattle.converts.specs.Convert.{Appended, result, TooManyRows, ShortBuffer}
use Rattle.converts.proofs.Rising.{rising_one}
use Rattle.reaching.specs.Reached.{Reached}
use Rattle.appending.specs.Arranged.{appended_in, Arranged}
use Rattle.appending.specs.Asked.{Ready, result_of}

-- ---- the rows met are those that the sheet leads to

rising_same : {P Q : ℕ → Type 0} {n : ℕ} {l : List ℕ} → ((x : ℕ) → x < n → P x → Q x) → ((x : ℕ) → x < n → Q x → P x) → Rising P n l → Rising Q n l
rising_same f g rising_none = rising_none
rising_same {n = suc n} f g (rising_with r p) =
    rising_with (rising_same (λ x h. f x (omega arith)) (λ x h. g x (omega arith)) r) (f n (omega arith) p)
rising_same {n = suc n} f g (rising_past r p) =
    rising_past (rising_same (λ x h. f x (omega arith)) (λ x h. g x (omega arith)) r) (λ q. p (g n (omega arith) q))

pub arranged_reached : {g : Graph} {stored rows total : ℕ} (queue : List ℕ) {marks order places : List ℕ} (filled : ℕ) → Reached g stored rows queue marks filled → Arranged (Member (take filled queue)) stored rows order places total → Arranged (FromSheet g stored rows) stored rows order places total
arranged_reached {g} {stored} {rows} {total} queue {order = order} filled s a =
    record {
      rising = rising_same (λ x h m. met m) (λ x h f. s.all x h f) a.rising;
      in_order = a.in_order;
      counted = a.counted;
      placed = a.placed;
      long = a.long;
      entries = a.entries;
      low = a.low;
    }
  where
    met : {x : ℕ} → Member (take filled queue) x → FromSheet g stored rows x
    met {x} m =
        let n = length-take-le filled queue (omega (arith, s.marked.few, s.marked.queue_long)) in
        let h : m.at < filled = omega (arith, m.within) in
        let e : get_or queue m.at 0 ≡ x = sym (get_or-take filled queue m.at 0 h) ∙ m.here in
        rw e at (s.from m.at h)

-- ---- what the converter says

module _ (w b : List ℕ) (stored : ℕ) (table order places : List ℕ) (total : ℕ) (t : Tabled w b stored table) (queue marks : List ℕ) (filled : ℕ) (s : Reached (drawn (source room w stored b)) stored (length table) queue marks filled) (a : Arranged (Member (take filled queue)) stored (length table) order places total) where
  pub ready_rows : total ≤ 1024 → Ready (source room w stored b) table order places total
  ready_rows h = record { tabled = t; roomy = refl; arranged = arranged_reached queue filled s a; few = h }

  appended : Appended w b (appended_in (length table) total order)
  appended = record { rising = rw (← t.front.counted, ← t.front.numbered) (arranged_reached queue filled s a).rising }

  -- 20
  pub rows_many : 1024 < total → TooManyRows w b
  rows_many h =
      record {
        rows = appended_in (length table) total order;
        appended = appended;
        over = rw (← t.front.numbered) (omega (arith, a.counted));
      }

module _ (w b : List ℕ) (stored : ℕ) (table order places : List ℕ) (total : ℕ) (s : Ready (source room w stored b) table order places total) where
  pub ready_appended : Appended w b (appended_in (length table) total order)
  ready_appended = record { rising = rw (← s.tabled.front.counted, ← s.tabled.front.numbered) s.arranged.rising }

  pub ready_few : row_count_of b + length (appended_in (length table) total order) ≤ most_rows
  ready_few = rw (← s.tabled.front.numbered) (omega (arith, s.arranged.counted, s.few))

  pub ready_result : result_of (source room w stored b) table order total ≡ result w b (appended_in (length table) total order)
  ready_result = rw (← s.tabled.front.counted, ← s.tabled.front.numbered) refl

  -- 10
  pub buffer_short : (out : List ℕ) (need : ℕ) → need ≡ length (result_of (source room w stored b) table order total) → length out < need → ShortBuffer w b out
  buffer_short out need e h =
      record {
        rows = appended_in (length table) total order;
        appended = ready_appended;
        short = rw (← ready_result) (omega arith);
      }

  -- and no other rows are appended, so that neither applies otherwise
  pub rows_allowed : TooManyRows w b → ⊥
  rows_allowed m =
      omega (arith, m.over, ready_few, ap length (rising_one m.appended.rising ready_appended.rising))

  pub buffer_enough : (out : List ℕ) (need : ℕ) → need ≡ length (result_of (source room w stored b) table order total) → need ≤ length out → ShortBuffer w b out → ⊥
  buffer_enough out need e h m =
      let q = rising_one m.appended.rising ready_appended.rising in
      omega (arith, m.short, ap (λ l. length (result w b l)) q, ap length ready_result)
