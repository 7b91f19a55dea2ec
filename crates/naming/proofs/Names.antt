-- A row looks for its signature among the named rows, and is named.
use Prim.Native.Nat.{ℕ, suc, ◌+◌, ◌-◌, ◌%◌, ◌≤◌, ◌<◌}
use native.Mathlib.Omega.{arith}
use native.Mathlib.Decide.{dec_lt, ℕ_discrete}
use mathlib.Core.Path.{◌≡◌, refl, sym, ap, ◌∙◌}
use mathlib.Core.List.{List}
use mathlib.Core.Logic.{inr}
use mathlib.Core.Bool.{Bool, true, false}
use lib.ListN.{length, set, length-set}
use lib.Seq.{get_or-set_same, get_or-set_other}
use Rattle.rules.specs.Answers.{Says}
use Rattle.rules.proofs.Answers.{said_yes, said_no}
use Rattle.trees.specs.Graph.{Graph}
use Rattle.rows.specs.Joined.{Source, joined}
use Rattle.rows.specs.View.{view_rows}
use Rattle.rows.proofs.View.{viewed_counts, viewed_closed, viewed_few}
use Rattle.rounds.specs.Classes.{class_of}
use Rattle.rounds.specs.Rounds.{SameSig}
use Rattle.rounds.specs.Buckets.{bucket_of, bucket_in}
use Rattle.rounds.proofs.Buckets.{buckets, bucket_kept}
use Rattle.names.proofs.Naming.{NameOf, NamedRow, naming_more, naming_rank, rank', here, there, fore, inputs_kept}
use Rattle.names.specs.Slots.{Slots, place}
use Rattle.names.proofs.Slots.{none_named, name_met, slots_with, slots_new}
use Rattle.naming.specs.InNaming.{slot_of, InNaming, Nameable, PassedIn, Probing, SlotSays, says_same, says_free, says_full, Went, NameSays, says_named, says_unnamed}
use Rattle.signatures.specs.Signed.{signature_in}
use Rattle.signatures.specs.declared.signature.Signature.{Signature}
use Rattle.naming.specs.declared.naming.Slot.{Slot}
use Rattle.naming.specs.declared.naming.Slot.TheVariants.{Same, Free, Full}
use Rattle.signatures.proofs.Values.{Sixteen, signature_sig, sig_signature, signed_bucket}

-- rows of one signature are of one bucket
pub one_bucket : (g : Graph) (c : ℕ → ℕ) (v u : ℕ) → SameSig g c v u → bucket_in g c v ≡ bucket_in g c u
one_bucket g c v u s = (buckets g c (suc (v + u))).one v u (omega arith) (omega arith) s

-- the first k slots were passed
pub record ProbedTo (g : Graph) (cls links : List ℕ) (u k : ℕ) : Type 0 where
  pub few : k ≤ 64
  pub passed : PassedIn g cls links u k

pub probed_none : (g : Graph) (cls links : List ℕ) (u : ℕ) → ProbedTo g cls links u 0
probed_none g cls links u = record { few = omega arith; passed = record { taken = λ i h. absurd (omega arith); apart = λ i h l. absurd (omega arith) } }

pub probed_all : (g : Graph) (cls links : List ℕ) (u k : ℕ) → ProbedTo g cls links u k → 64 ≤ k → SlotSays g cls links u Full
probed_all g cls links u k t h = let i : k ≡ 64 = omega (arith, t.few) in says_full (rw i at t.passed)

module _ (s : Source) (table cls marks links : List ℕ) (o : InNaming s table cls marks links) where
  sixteen : (v : ℕ) → v < view_rows s table → Sixteen (joined s) (class_of cls) v
  sixteen v h =
      record {
        few = viewed_counts o.view v h;
        small = λ j q.
            let i = (viewed_closed o.view).within v j h q in
            omega (arith, o.inside ((joined s).input v j) i, viewed_few o.view);
      }

  pub slot_inside : (b k : ℕ) → 2048 + (b + k) % 2048 < length links
  slot_inside b k = omega (arith, o.links_long)

  module _ (u : ℕ) (h : u < view_rows s table) (sig : Signature) (b : ℕ) (r : Probing (joined s) cls u sig b) (k : ℕ) (t : ProbedTo (joined s) cls links u k) (l : k < 64) (x : ℕ) (q : x ≡ class_of links (2048 + (b + k) % 2048)) where
    at : (b + k) % 2048 ≡ place (bucket_in (joined s) (class_of cls) u) k
    at = rw r.bucket refl

    pub met_free : x ≡ 0 → SlotSays (joined s) cls links u (Free ((b + k) % 2048))
    met_free z = says_free k l t.passed at (sym q ∙ z)

    module _ (z : x ≡ 0 → ⊥) where
      held : slot_of links ((b + k) % 2048) ≡ suc (x - 1)
      held = omega arith

      pub holder_row : x - 1 < view_rows s table
      holder_row = (o.slots.holders ((b + k) % 2048) (x - 1) held).0

      module _ (head : Signature) (i : head ≡ signature_in (joined s) (class_of cls) (x - 1)) (w : Bool) (m : Says (sig ≡ head) w) where
        pub met_same : w ≡ true → SlotSays (joined s) cls links u (Same (x - 1))
        met_same e =
            says_same ((b + k) % 2048) held
            (signature_sig (joined s) (class_of cls) u (x - 1) (sixteen u h) (sixteen (x - 1) holder_row) (sym r.signed ∙ said_yes (rw e at m) ∙ i))

        other : w ≡ false → SameSig (joined s) (class_of cls) (x - 1) u → ⊥
        other e y =
            said_no (rw e at m) (r.signed ∙ sig_signature (joined s) (class_of cls) u (x - 1) (sixteen u h) (sixteen (x - 1) holder_row) y ∙ sym i)

        pub probed_more : w ≡ false → ProbedTo (joined s) cls links u (k + 1)
        probed_more e =
            record {
              few = omega arith;
              passed =
                  record {
                    taken = λ a y. filled a y (dec_lt a k);
                    apart = λ a v y d. parted a v y d (dec_lt a k);
                  };
            }
          where
            filled : (a : ℕ) → a < k + 1 → Dec (a < k) → slot_of links (place (bucket_in (joined s) (class_of cls) u) a) ≡ 0 → ⊥
            filled a y (yes c) n = t.passed.taken a c n
            filled a y (no c) n =
                let f : a ≡ k = omega arith in
                let y : slot_of links (place (bucket_in (joined s) (class_of cls) u) k) ≡ 0 = rw (sym f) n in
                z (q ∙ ap (slot_of links) at ∙ y)

            parted : (a v : ℕ) → a < k + 1 → slot_of links (place (bucket_in (joined s) (class_of cls) u) a) ≡ suc v → Dec (a < k) → SameSig (joined s) (class_of cls) v u → ⊥
            parted a v y d (yes c) n = t.passed.apart a v c d n
            parted a v y d (no c) n =
                let f : a ≡ k = omega arith in
                let j : slot_of links (place (bucket_in (joined s) (class_of cls) u) k) ≡ suc v = rw (sym f) d in
                let x' : x ≡ suc v = q ∙ ap (slot_of links) at ∙ j in
                let v' : v ≡ x - 1 = omega arith in
                other e (rw v' at n)

  pub probing : (u : ℕ) (sig : Signature) (b : ℕ) → sig ≡ signature_in (joined s) (class_of cls) u → b ≡ bucket_of sig.label sig.count sig.classes → b < 2048 → Probing (joined s) cls u sig b
  probing u sig b e q l = record { signed = e; bucket = signed_bucket (joined s) (class_of cls) u b sig e q; small = l }

-- ---- a row named

module _ (s : Source) (table cls marks links : List ℕ) (o : InNaming s table cls marks links) (u : ℕ) (a : Nameable s table marks u) where
  module _ (x : ℕ) (small : x < view_rows s table) (name : NameOf (joined s) (view_rows s table) (class_of cls) (class_of marks) o.naming.rank u x) where
    row : NamedRow (class_of cls) (class_of marks) (class_of (set cls u x)) (class_of (set marks u 1)) u x
    row =
        record {
          here = get_or-set_same cls u x 0 (omega (arith, a.row, o.cls_long));
          marked = get_or-set_same marks u 1 0 (omega (arith, a.row, o.marks_long));
          same = λ v f. get_or-set_other cls u v x 0 (λ e. f (omega arith));
          kept = λ v f. get_or-set_other marks u v 1 0 (λ e. f (omega arith));
        }

    later : ℕ → ℕ
    later = rank' o.naming a.row a.bare a.named.each name row

    late : 0 < later u
    unfolding later
    late = omega (arith, here o.naming a.row a.bare a.named.each name row)

    moved : (v : ℕ) → v < view_rows s table → class_of (set marks u 1) v ≡ 1 → 0 < later v → bucket_in (joined s) (class_of (set cls u x)) v ≡ bucket_in (joined s) (class_of cls) v
    unfolding later
    moved v h d z = bucket_kept (joined s) (class_of cls) (class_of (set cls u x)) v (inputs_kept o.naming a.row a.bare a.named.each name row v h d z)

    module _ (links' : List ℕ) (long : length links' ≡ 4096) (slots : Slots (joined s) (view_rows s table) (class_of (set cls u x)) (class_of (set marks u 1)) later (bucket_in (joined s) (class_of (set cls u x))) (slot_of links')) where
      went : Went s table cls marks (set cls u x) (set marks u 1) links'
      unfolding later
      went =
          record {
            naming =
                record {
                  view = o.view;
                  naming = naming_more o.naming a.row a.bare a.named.each name row;
                  slots = rw (naming_rank o.naming a.row a.bare a.named.each name row) slots;
                  cls_long = simp length-set o.cls_long;
                  marks_long = simp length-set o.marks_long;
                  links_long = long;
                  inside = λ v h. within v h (ℕ_discrete v u);
                };
            stands =
                record {
                  same = length-set cls u x;
                  past = λ i h. get_or-set_other cls u i x 0 (λ e. omega (arith, a.row));
                };
            kept = λ v h d. row.kept v (λ e. a.bare (rw e at d)) ∙ d;
          }
        where
          within : (v : ℕ) → v < view_rows s table → Dec (v ≡ u) → class_of (set cls u x) v < view_rows s table
          within v h (yes e) = rw (e, row.here) small
          within v h (no e) = rw (row.same v e) (o.inside v h)

  pub row_few : u < 2048
  row_few = omega (arith, a.row, viewed_few o.view)

  pub row_small : u < 65536
  row_small = omega (arith, row_few)

  module _ (p : Slot) (m : SlotSays (joined s) cls links u p) where
    pub same_small : (h : ℕ) → p ≡ Same h → h < 65536
    same_small h e = go (rw e at m)
      where
        go : SlotSays (joined s) cls links u (Same h) → h < 65536
        go (says_same q t y) = omega (arith, (o.slots.holders q h t).0, viewed_few o.view)

    pub free_small : (k : ℕ) → p ≡ Free k → k < 2048
    free_small k e = go (rw e at m)
      where
        go : SlotSays (joined s) cls links u (Free k) → k < 2048
        go (says_free i l t q z) = omega arith

    pub named_same : (h : ℕ) (cls' marks' : List ℕ) → p ≡ Same h → cls' ≡ set cls u h → marks' ≡ set marks u 1 → NameSays s table cls marks links cls' marks' links u true
    unfolding later
    named_same h cls' marks' e c d = go (rw e at m)
      where
        go : SlotSays (joined s) cls links u (Same h) → NameSays s table cls marks links cls' marks' links u true
        go (says_same q t y) =
            let small = (o.slots.holders q h t).0 in
            let met = name_met o.slots (one_bucket (joined s) (class_of cls)) o.naming refl u q h t y in
            let kept = slots_with o.slots (row h small met) a.row a.bare
            (there o.naming a.row a.bare a.named.each met (row h small met)) (late h small met)
            (fore o.naming a.row a.bare a.named.each met (row h small met)) (moved h small met)
            q h t refl y (one_bucket (joined s) (class_of cls) h u y) in
            rw (c, d) (says_named (went h small met links o.links_long kept) (row h small met).marked)

    pub named_new : (k : ℕ) (cls' marks' links' : List ℕ) → p ≡ Free k → cls' ≡ set cls u u → marks' ≡ set marks u 1 → links' ≡ set links (2048 + k) (u + 1) → NameSays s table cls marks links cls' marks' links' u true
    unfolding later
    named_new k cls' marks' links' e c d f = go (rw e at m)
      where
        go : SlotSays (joined s) cls links u (Free k) → NameSays s table cls marks links cls' marks' links' u true
        go (says_free i l t q z) =
            let void : slot_of links (place (bucket_in (joined s) (class_of cls) u) i) ≡ 0 = rw q at z in
            let met : NameOf (joined s) (view_rows s table) (class_of cls) (class_of marks) o.naming.rank u u =
            record { all = λ v h b y n. absurd (none_named o.slots (one_bucket (joined s) (class_of cls)) u i t (inr void) v h b y n) } in
            let filled : slot_of (set links (2048 + k) (u + 1)) (place (bucket_in (joined s) (class_of cls) u) i) ≡ suc u =
            rw (sym q) (get_or-set_same links (2048 + k) (u + 1) 0 (omega (arith, o.links_long)) ∙ (omega arith)) in
            let others : (r : ℕ) → (r ≡ place (bucket_in (joined s) (class_of cls) u) i → ⊥) → slot_of (set links (2048 + k) (u + 1)) r ≡ slot_of links r =
            λ r n. get_or-set_other links (2048 + k) (2048 + r) (u + 1) 0 (λ y. n (omega arith)) in
            let kept = slots_new o.slots (row u a.row met) a.row a.bare
            (there o.naming a.row a.bare a.named.each met (row u a.row met)) (late u a.row met)
            (fore o.naming a.row a.bare a.named.each met (row u a.row met)) (moved u a.row met)
            (slot_of (set links (2048 + k) (u + 1))) i l t void filled others refl in
            rw (c, d, f) (says_named (went u a.row met (set links (2048 + k) (u + 1)) (simp length-set o.links_long) kept) (row u a.row met).marked)

    pub named_none : p ≡ Full → NameSays s table cls marks links cls marks links u false
    named_none e = go (rw e at m)
      where
        go : SlotSays (joined s) cls links u Full → NameSays s table cls marks links cls marks links u false
        go (says_full t) = says_unnamed refl refl refl t
