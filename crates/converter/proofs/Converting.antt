-- The outcomes of converting, each from what led to it.
use Prim.Native.Nat.{ℕ, ◌≤◌, ◌<◌}
use native.Mathlib.Omega.{arith}
use mathlib.Core.Path.{◌≡◌, refl, sym, ap, ◌∙◌}
use mathlib.Core.List.{List, [], ◌∷◌, ◌++◌}
use mathlib.Core.Logic.{inl, inr}
use lib.ListN.{length, take}
use Rattle.std.specs.Prelude.{Result, Ok, Err}
use Rattle.rules.specs.Refusals.{First, FirstIn, ◌when◌}
use Rattle.rules.specs.Writes.{over_front}
use Rattle.rules.proofs.Lists.{firsts_length}
use Rattle.rules.proofs.Refusals.{first_here, first_later, first_front, first_past}
use Rattle.sheet.specs.Format.{start}
use Rattle.sheet.specs.Points.{PointsNowhere}
use Rattle.sheet.specs.Faults.{fault_at}
use Rattle.sheet.specs.declared.fault.Fault.{Fault}
use Rattle.sheet.proofs.Faults.{fault_1, fault_2}
use Rattle.sheet.proofs.Readable.{readable_right}
use Rattle.store.specs.Layout.{in_use, room}
use Rattle.store.specs.Sound.{flaw_number}
use Rattle.store.specs.declared.shape.Flaw.{Flaw}
use Rattle.rows.specs.Joined.{source, drawn}
use Rattle.rows.specs.View.{Drawn}
use Rattle.rows.proofs.Tabling.{tabled_drawn}
use Rattle.walks.specs.Member.{Member}
use Rattle.fronting.specs.Front.{old_drawn_list, Fronting, DrawnSays, drawn_refused, drawn_rows}
use Rattle.checking.specs.Check.{check_refusals}
use Rattle.checking.specs.Checked.{SoundStore, CheckedSays, checked_refused}
use Rattle.checking.proofs.Looking.{sound_few}
use Rattle.converts.specs.Convert.{TooManyRows, ShortBuffer, convert_refusals, ConvertSays, says_refused, says_done}
use Rattle.reaching.specs.Reached.{Reached}
use Rattle.appending.specs.Arranged.{appended_in, Arranged}
use Rattle.appending.specs.Asked.{Ready, result_of}
use Rattle.appending.proofs.Outcomes.{rows_many, ready_rows, ready_appended, ready_few, ready_result, buffer_short, rows_allowed}
use Rattle.converter.specs.Opened.{Opened}

-- 20 and 10 are no fault at a byte
fault_20 : (b : List ℕ) (stored : ℕ) → fault_at 20 b stored ≡ 0
unfolding fault_at
fault_20 b stored = refl

fault_10 : (b : List ℕ) (stored : ℕ) → fault_at 10 b stored ≡ 0
unfolding fault_at
fault_10 b stored = refl

-- ---- the store refused

pub store_refused : (w b out : List ℕ) (a : Result ℕ Flaw) (flaw : Flaw) (number : ℕ) → CheckedSays w a → a ≡ Err flaw → number ≡ flaw_number flaw → ConvertSays w b out (record { number = number; bytes = 0; place = 0 }) out
store_refused w b out a flaw number s e n = rw n (go (rw e at s))
  where
    nowhere : (number : ℕ) → FirstIn (check_refusals w) number → (number ≡ 0 → ⊥) → 0 ≡ fault_at number b (in_use w)
    nowhere number (inl p) z = rw p.1 (sym (fault_1 b (in_use w)))
    nowhere number (inr (p, inl q)) z = rw q.1 (sym (fault_2 b (in_use w)))
    nowhere number (inr (p, inr (q, r))) z = absurd (z r)

    go : CheckedSays w (Err flaw) → ConvertSays w b out (record { number = flaw_number flaw; bytes = 0; place = 0 }) out
    go (checked_refused f z) =
        says_refused
        (first_front (old_drawn_list b (in_use w) ++ ((20 when TooManyRows w b) ∷ (10 when ShortBuffer w b out) ∷ [])) f z)
        z
        (nowhere (flaw_number flaw) f.first z)

-- ---- the sheet refused

module _ (w b : List ℕ) (stored : ℕ) (table jumps : List ℕ) (r : Result ℕ Fault) (s : SoundStore w stored) (d : DrawnSays (old_drawn_list b stored) b stored table jumps r) where
  pub sheet_refused : (out : List ℕ) (f : Fault) → r ≡ Err f → ConvertSays w b out (record { number = f.number; bytes = 0; place = f.place }) out
  sheet_refused out f e = go (rw e at d)
    where
      go : DrawnSays (old_drawn_list b stored) b stored table jumps (Err f) → ConvertSays w b out (record { number = f.number; bytes = 0; place = f.place }) out
      go (drawn_refused x z p) =
          let h = s.words in
          says_refused
          (first_later (λ q. omega arith)
          (first_later (λ n. n s.sound)
          (first_front ((20 when TooManyRows w b) ∷ (10 when ShortBuffer w b out) ∷ []) (rw s.counted at x) z)))
          z
          (rw s.counted at p)

  -- ---- or passed

  module _ (rows : ℕ) (e : r ≡ Ok rows) where
    fronted : Fronting b stored rows table jumps
    fronted = go (rw e at d)
      where
        go : DrawnSays (old_drawn_list b stored) b stored table jumps (Ok rows) → Fronting b stored rows table jumps
        go (drawn_rows x) = x

    pub fronted_few : rows ≤ length table
    fronted_few = fronted.few

    pub fronted_opened : (part : List ℕ) → part ≡ take rows table → Opened w b stored part
    fronted_opened part q =
        record {
          store = s;
          tabled = record {
            front =
                rw long
                (record {
                  words = s.words;
                  shaped = s.sound.shaped;
                  counted = s.counted;
                  readable = fronted.passed.readable;
                  numbered = fronted.passed.numbered;
                  leads = fronted.passed.leads;
                });
            places = rw long (q ∙ fronted.places);
          };
          straight = fronted.wired.straight;
          unlooped = fronted.wired.unlooped;
        }
      where
        long : length part ≡ rows
        long = ap length (q ∙ fronted.places) ∙ firsts_length (start b) rows

-- ---- the rows

module _ (w b : List ℕ) (stored : ℕ) (table : List ℕ) (o : Opened w b stored table) where
  pub opened_drawn : (most : ℕ) → most ≡ room → Drawn (source most w stored b) table
  opened_drawn most m = rw m (tabled_drawn w b stored table o.tabled)

  pub opened_stored : stored ≤ 1024
  opened_stored = sound_few w stored o.store

  pub opened_queue : (queue : List ℕ) → length queue ≡ 1024 → stored ≤ length queue
  opened_queue queue l = let f = opened_stored in omega arith

  -- nothing before 20 applies
  past : (out : List ℕ) {r : ℕ} → First ((20 when TooManyRows w b) ∷ (10 when ShortBuffer w b out) ∷ []) r → First (convert_refusals w b out) r
  past out f =
      let h = o.store.words in
      let n = readable_right b o.tabled.front.readable in
      first_later (λ q. omega arith)
      (first_later (λ n. n o.store.sound)
      (first_past (old_drawn_list b (in_use w)) (n.0, (n.1.0, (n.1.1.0, (leads, (o.straight, (o.unlooped, tt)))))) f))
    where
      leads : PointsNowhere b (in_use w) → ⊥
      leads = rw o.store.counted at o.tabled.front.leads

  module _ (order places : List ℕ) (total : ℕ) where
    pub too_many : (most : ℕ) (queue marks out : List ℕ) (filled : ℕ) → most ≡ room → Reached (drawn (source most w stored b)) stored (length table) queue marks filled → Arranged (Member (take filled queue)) stored (length table) order places total → 1024 < total → ConvertSays w b out (record { number = 20; bytes = 0; place = 0 }) out
    too_many most queue marks out filled m s a h =
        says_refused
        (past out (first_here (rows_many w b stored table order places total o.tabled queue marks filled (rw m at s) a h)))
        (λ z. omega arith)
        (sym (fault_20 b (in_use w)))

    pub all_ready : (most : ℕ) (queue marks : List ℕ) (filled : ℕ) → most ≡ room → Reached (drawn (source most w stored b)) stored (length table) queue marks filled → Arranged (Member (take filled queue)) stored (length table) order places total → total ≤ 1024 → Ready (source most w stored b) table order places total
    all_ready most queue marks filled m s a h =
        rw m (ready_rows w b stored table order places total o.tabled queue marks filled (rw m at s) a h)

    module _ (most : ℕ) (ready : Ready (source most w stored b) table order places total) (need : ℕ) (is : need ≡ length (result_of (source most w stored b) table order total)) where
      s : Ready (source room w stored b) table order places total
      s = rw ready.roomy at ready

      e : need ≡ length (result_of (source room w stored b) table order total)
      e = rw ready.roomy at is

      pub too_short : (out : List ℕ) → length out < need → ConvertSays w b out (record { number = 10; bytes = 0; place = 0 }) out
      too_short out h =
          says_refused
          (past out
          (first_later (rows_allowed w b stored table order places total s)
          (first_here (buffer_short w b stored table order places total s out need e h))))
          (λ z. omega arith)
          (sym (fault_10 b (in_use w)))

      pub converted_done : (out out' : List ℕ) → need ≤ length out → out' ≡ over_front (result_of (source most w stored b) table order total) out → ConvertSays w b out (record { number = 0; bytes = need; place = 0 }) out'
      converted_done out out' h q =
          let same = ready_result w b stored table order places total s in
          let over : out' ≡ over_front (result_of (source room w stored b) table order total) out = rw ready.roomy at q in
          says_done
          (record {
            words = o.store.words;
            sound = o.store.sound;
            readable = o.tabled.front.readable;
            leads = rw o.store.counted at o.tabled.front.leads;
            straight = o.straight;
            unlooped = o.unlooped;
            rows = appended_in (length table) total order;
            appended = ready_appended w b stored table order places total s;
            few = ready_few w b stored table order places total s;
            long = omega (arith, e, ap length same);
            written = over ∙ ap (λ x. over_front x out) same;
            counted = e ∙ ap length same;
          })
