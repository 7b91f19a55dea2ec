-- A key inserted into a sound store that has its tree: row 0 gets the tree's number, and no row is added.
use Prim.Native.Nat.{ℕ, ◌+◌, ◌-◌, ◌≤◌, ◌<◌}
use native.Mathlib.Omega.{arith}
use mathlib.Core.Path.{◌≡◌, refl, sym, ap, ◌∙◌}
use mathlib.Core.List.{List}
use lib.ListN.{length}
use lib.Seq.{ext_get_or}
use native.Mathlib.Decide.{dec_lt}
use Rattle.trees.specs.Graph.{Closed}
use Rattle.trees.specs.Agreement.{SameTree}
use Rattle.trees.specs.Paths.{Leads}
use Rattle.trees.proofs.Agreement.{same_sym, same_trans}
use Rattle.trees.proofs.Matching.{Renumbered, renumbered_same}
use Rattle.trees.proofs.Paths.{Followed, same_reach, leads_within}
use Rattle.rules.specs.Refusals.{NoneOf}
use Rattle.rules.proofs.Refusals.{none_done, first_unique}
use Rattle.sheet.specs.Format.{row_count_of, start, label_at, count_at, input_at}
use Rattle.sheet.proofs.Readable.{readable_right}
use Rattle.store.specs.Layout.{in_use, word_at, row_word, store_graph, room}
use Rattle.store.specs.Sound.{Sound}
use Rattle.rows.specs.View.{Viewed}
use Rattle.rows.proofs.View.{store_same}
use Rattle.rows.specs.Named.{ShortWire, SheetWireLoop}
use Rattle.numbering.specs.Numbers.{trees_below}
use Rattle.numbering.proofs.Counting.{FirstOf, number_taken, below_most}
use Rattle.store.proofs.Graphs.{shaped_closed}
use Rattle.rows.specs.Joined.{Source, source, leads_to, row_place, drawn, joined}
use Rattle.rows.proofs.Joined.{sheet_label, sheet_count, sheet_input}
use Rattle.rows.proofs.Leads.{leads_sheet}
use Rattle.walks.proofs.Reached.{all_leads}
use Rattle.keys.specs.Sheets.{sheet_graph, IsKey}
use Rattle.sheet.proofs.Within.{input_within, leads_names}
use Rattle.wires.specs.Wires.{Wire}
use Rattle.wires.proofs.Skipping.{plain_alike, plain_input}
use Rattle.keytest.proofs.Boxes.{named_sheet}
use Rattle.keytest.proofs.Scanning.{firsts_member}
use Rattle.fronting.specs.Together.{together, all_rows}
use Rattle.inserting.specs.Insert.{NoRoom, InsertDone, insert_refusals, InsertSays, says_refused, says_done}
use Rattle.inserting.specs.declared.insertion.Inserted.{Inserted}
use Rattle.duties.specs.Words.{answer, EarlierRow, KeyKnown}
use Rattle.duties.proofs.Firsts.{spots, view_of}
use Rattle.duties.proofs.Done.{known_number, added_given, done_added, old_words, past_words, same_length}

-- a sheet row's tree stands in the store
record Known (w b : List ℕ) (i : ℕ) : Type 0 where
  pub row : ℕ
  pub used : row < in_use w
  pub tree : SameTree (together w b) (in_use w + i) (store_graph room w) row

module _ (w b : List ℕ) (k : IsKey b) where
  s : Source
  s = source room w (in_use w) b

  place : (u : ℕ) → row_place (source room w (in_use w) b) (in_use w + u) ≡ start b u
  place u = let z : in_use w + u - in_use w ≡ u = omega arith in rw z

  drawn_label : (u : ℕ) → (drawn s).label (in_use w + u) ≡ label_at b (start b u)
  unfolding s
  drawn_label u = sheet_label s (in_use w + u) (omega arith) ∙ ap (label_at b) (place u)

  -- none of its rows is a wire
  drawn_box : (u : ℕ) → u < row_count_of b → Wire (drawn s) (in_use w + u) → ⊥
  unfolding sheet_graph
  drawn_box u h x = k.plain.plain u h (record { is = rw (drawn_label u) at x.is })

  -- the sheet's rows stand behind the store's, with their trees
  pub moved : Renumbered (sheet_graph b) (λ u. u < row_count_of b) (together w b) (λ u. in_use w + u)
  unfolding s sheet_graph joined
  moved =
      record {
        alike = λ u h. record {
          labels = sym ((plain_alike (drawn s) (in_use w + u) (drawn_box u h)).labels ∙ drawn_label u);
          counts = sym ((plain_alike (drawn s) (in_use w + u) (drawn_box u h)).counts ∙ sheet_count s (in_use w + u) (omega arith) ∙ ap (count_at b) (place u));
        };
        inputs = λ u h j l.
            let i = input_within b k.leads u j h l in
            plain_input (drawn s) (in_use w + u) (drawn_box u h) j
            ∙ sheet_input s (in_use w + u) (omega arith) j
            ∙ ap (λ at. leads_to (in_use w) (input_at b at j)) (place u)
            ∙ leads_sheet (in_use w) (input_at b (start b u) j) (omega (arith, k.readable.few));
        stays = λ u h j l. input_within b k.leads u j h l;
      }

  pub closed : Closed (sheet_graph b) (row_count_of b)
  unfolding sheet_graph
  closed = record { within = λ u j h l. input_within b k.leads u j h l }

  -- every row of a key is led to from its row 0
  led : (i : ℕ) → i < row_count_of b → Leads (sheet_graph b) 0 i
  led i h = (all_leads closed k.some).0 (rw k.ordered (firsts_member h))

  -- a key holds no wires, and so 14 and 15 do not apply
  pub key_straight : ShortWire b → ⊥
  key_straight x = k.plain.plain x.row x.of_sheet (named_sheet b x.row (omega (arith, x.of_sheet, k.readable.few)) x.wire)

  pub key_unlooped : SheetWireLoop b → ⊥
  key_unlooped x = k.plain.plain x.row x.of_sheet (named_sheet b x.row (omega (arith, x.of_sheet, k.readable.few)) x.loop.wire)

  module _ (o : Sound room w) {m : ℕ} (p : m < in_use w) (t : SameTree (sheet_graph b) 0 (store_graph room w) m) where
    -- so every row has its tree in the store
    known : (i : ℕ) → i < row_count_of b → Known w b i
    known i h = go (same_reach t (led i h).path (led i h).there)
      where
        go : Followed (sheet_graph b) i (store_graph room w) m (led i h).path → Known w b i
        go f =
            record {
              row = f.end;
              used = leads_within (shaped_closed room w o.shaped) p (record { path = (led i h).path; there = f.there });
              tree = same_trans (same_sym (renumbered_same moved i h)) f.same;
            }

    -- and no row of the sheet is the first with its tree: there is room
    room_left : NoRoom w b → ⊥
    room_left x = go (dec_lt (in_use w) (trees_below x.class (all_rows w b)))
      where
        view : Viewed (source room w (in_use w) b) (spots w b)
        view = view_of (record { sound = o; readable = k.readable; leads = k.leads; straight = key_straight; unlooped = key_unlooped })

        first : FirstOf x.class (all_rows w b) (in_use w) → ⊥
        first f = at (dec_lt f.row (in_use w))
          where
            low : (i : ℕ) → f.row ≡ in_use w + i → Known w b i → ⊥
            low i e n =
                let l = x.sorted.lowest f.row n.row f.within (omega (arith, n.used)) (rw e (same_trans n.tree (same_sym (store_same view n.row n.used)))) in
                omega (arith, f.first, n.used)

            at : Dec (f.row < in_use w) → ⊥
            at (yes q) = let l = below_most x.class f.row in omega (arith, f.number)
            at (no q) = low (f.row - in_use w) (omega arith) (known (f.row - in_use w) (omega (arith, f.within)))

        go : Dec (in_use w < trees_below x.class (all_rows w b)) → ⊥
        go (yes q) = first (number_taken x.class (all_rows w b) (in_use w) q)
        go (no q) = omega (arith, x.over, o.shaped.fits)

    module _ {answers : List ℕ} where
      module _ {w' answers' : List ℕ} {added : ℕ} (d : InsertDone w b answers w' answers' added) where
        number : answer answers' 0 ≡ m
        number = known_number d 0 m k.some p (same_trans (same_sym (renumbered_same moved 0 k.some)) t)

        adds_none : added ≡ 0
        adds_none = go (dec_lt 0 added)
          where
            taken : EarlierRow answers' (row_count_of b) (in_use w) → ⊥
            taken e =
                let n = known e.row e.before in
                let a = known_number d e.row n.row e.before n.used n.tree in
                omega (arith, e.given, n.used)

            go : Dec (0 < added) → added ≡ 0
            go (yes h) = absurd (taken (added_given d (in_use w) (omega arith) (omega (arith, done_added d))))
            go (no h) = omega arith

        leaves : w' ≡ w
        leaves = ext_get_or 0 w' w (same_length d) (λ i h. go i (dec_lt 0 i) (dec_lt i (row_word room (in_use w))))
          where
            count : in_use w' ≡ in_use w
            count = omega (arith, done_added d, adds_none)

            go : (i : ℕ) → Dec (0 < i) → Dec (i < row_word room (in_use w)) → word_at w' i ≡ word_at w i
            go i (yes q) (yes l) = old_words d i q l
            go i (yes q) (no l) = past_words d i (rw count (omega arith))
            go i (no q) l = let z : i ≡ 0 = omega arith in rw z count

      -- given an answer list long enough: done, the tree's number for row 0, no row added, and the store word for word as it was
      pub key_known : {r : Inserted} {w' answers' : List ℕ} → 0 < length w → row_count_of b ≤ length answers → InsertSays w b answers r w' answers' → KeyKnown w m r w' answers'
      key_known h l (says_refused f z place) = absurd (z (first_unique f (none_done (insert_refusals w b answers) none)))
        where
          none : NoneOf (insert_refusals w b answers)
          none =
              let n = readable_right b k.readable in
              (λ z. omega arith, ((λ f. f o), (n.0, (n.1.0, (n.1.1.0, (leads_names b k.leads, (k.leads, (key_straight, (key_unlooped, (λ q. omega arith, (room_left, tt)))))))))))
      key_known h l (says_done d) = record { done = refl; none = adds_none d; first = number d; store = leaves d }
