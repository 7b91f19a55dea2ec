-- A row finds its place: it goes with the lowest row of its old class, with a new head of its chain, or is a new head itself.
use Rattle.std.proofs.Common.{◌≡◌, ℕ, ◌+◌, ◌<◌, ◌≤◌, Bool, true, false, List, length, set, sym, refl, ap, ◌∙◌, arith, eq-eqb, ne_eqb}
use Rattle.rules.specs.Answers.{Says, says_yes, says_no}
use Rattle.rules.proofs.Answers.{said_yes, said_no}
use Rattle.trees.specs.Graph.{Graph}
use Rattle.rows.specs.Joined.{Source, joined}
use Rattle.rows.specs.View.{view_rows}
use Rattle.rounds.specs.Rounds.{SameSig, Together}
use Rattle.rounds.specs.Classes.{class_of}
use Rattle.rounds.specs.Buckets.{bucket_of}
use Rattle.rounds.specs.Placing.{head_in, start_of}
use Rattle.rounds.proofs.Placing.{place_first, place_with, place_new, with_old, seek_first, seek_next, next_less, seek_with, seek_over}
use Rattle.signatures.specs.Inside.{Sighted}
use Rattle.refining.specs.Seeking.{Round, Later, GoesWith, SeekingAt, Sought, PlaceSays, says_with, says_new}
use Rattle.signatures.specs.Signed.{signature_in}
use Rattle.signatures.specs.declared.signature.Signature.{Signature}
use Rattle.refining.specs.declared.round.Place.{Place}
use Rattle.refining.specs.declared.round.Place.TheVariants.{With, New}
use Rattle.signatures.proofs.Values.{signature_sig, sig_signature, signed_bucket, sixteen}

-- ---- what is seen at a head

module _ (g : Graph) (c : ℕ → ℕ) (sig : Signature) (old h x : ℕ) (e : x ≡ c h) where
  pub other_class : (x ≡ old → ⊥) → Says (GoesWith g c sig old h) false
  other_class f = says_no (λ s. f (e ∙ s.class))

  pub one_class : (t : Bool) (head : Signature) → x ≡ old → head ≡ signature_in g c h → Says (sig ≡ head) t → Says (GoesWith g c sig old h) t
  one_class t head i q s = go t (rw q at s)
    where
      go : (b : Bool) → Says (sig ≡ signature_in g c h) b → Says (GoesWith g c sig old h) b
      go b (says_yes p) = says_yes (record { class = sym e ∙ i; same = p })
      go b (says_no f) = says_no (λ p. f p.same)

-- ---- the walk

module _ (s : Source) (table cls new links : List ℕ) (sig : Signature) (old u h : ℕ) (o : Sighted s table cls) (a : SeekingAt s table cls new links sig old u h) where
  module _ (z : h ≡ 0 → ⊥) where
    pub seek_row : h < view_rows s table
    seek_row = let b = a.seeking.below z in let r = a.later.row in omega arith

    pub seek_link : h < length links
    seek_link = let b = seek_row in let l = a.later.round.links_long in let few = o.classes.few in omega arith

    together : GoesWith (joined s) (class_of cls) sig old h → Together (joined s) (class_of cls) h u
    together p =
        record {
          old = p.class ∙ a.later.class;
          sig = signature_sig (joined s) (class_of cls) u h (sixteen s table cls o u a.later.row) (sixteen s table cls o h seek_row) (rw a.signed at p.same);
        }

    goes : Together (joined s) (class_of cls) h u → GoesWith (joined s) (class_of cls) sig old h
    goes t =
        record {
          class = t.old ∙ sym a.later.class;
          same = rw a.signed (sig_signature (joined s) (class_of cls) u h (sixteen s table cls o u a.later.row) (sixteen s table cls o h seek_row) t.sig);
        }

    module _ (t : Bool) (p : Says (GoesWith (joined s) (class_of cls) sig old h) t) where
      pub sought_here : t ≡ true → Sought (joined s) cls new u h
      sought_here e =
          record {
            below = a.seeking.below;
            found = λ y. seek_with (joined s) (view_rows s table) cls new links u o.classes a.later.round a.later.row h a.seeking y (together (said_yes (rw e at p)));
            none = λ y. absurd (z y);
          }

      module _ (e : t ≡ false) (x : ℕ) (q : x ≡ class_of links h) where
        pub seek_further : SeekingAt s table cls new links sig old u x
        seek_further =
            record {
              later = a.later;
              signed = a.signed;
              seeking = seek_next (joined s) (view_rows s table) cls new links u o.classes a.later.round a.later.row h a.seeking z x (λ y. said_no (rw e at p) (goes y)) q;
            }

        pub seek_nearer : x < h
        seek_nearer = next_less (joined s) (view_rows s table) cls new links u o.classes a.later.round a.later.row h a.seeking z x q

  pub sought_none : h ≡ 0 → Sought (joined s) cls new u 0
  sought_none z =
      record {
        below = λ y. absurd (y refl);
        found = λ y. absurd (y refl);
        none = λ y. rw z at a.seeking;
      }

-- ---- the head of a bucket is a row

pub bucket_inside : (s : Source) (table cls new links : List ℕ) (u b : ℕ) → Sighted s table cls → Round s table cls new links u → u < view_rows s table → b < 2048 → head_in links b < length cls
bucket_inside s table cls new links u b o r h l =
    let some : 0 < view_rows s table = omega arith in
    omega (arith, r.headed.inside some b l, o.classes.long)

-- where a bucket's chain begins
pub start_stale : (cls links : List ℕ) (b h x : ℕ) → h ≡ head_in links b → x ≡ class_of cls h → x ≡ h → 0 ≡ start_of cls links b
start_stale cls links b h x e q i =
    let y : class_of cls (head_in links b) ≡ head_in links b = rw (sym e) (sym q ∙ i) in
    simp (eq-eqb _ _ y) refl

pub start_new : (cls links : List ℕ) (b h x : ℕ) → h ≡ head_in links b → x ≡ class_of cls h → (x ≡ h → ⊥) → h ≡ start_of cls links b
start_new cls links b h x e q f =
    let y : class_of cls (head_in links b) ≡ head_in links b → ⊥ = λ z. f (q ∙ (rw e z)) in
    simp (ne_eqb _ _ y) e

-- ---- a place found

pub with_a_new : (g : Graph) (cls new : List ℕ) (u r : ℕ) → Sought g cls new u r → (r ≡ 0 → ⊥) → PlaceSays g (class_of cls) u (With r)
with_a_new g cls new u r m z = says_with (m.below z) (m.found z)

module _ (s : Source) (table cls new links : List ℕ) (u old : ℕ) (o : Sighted s table cls) (l : Later s table cls new links u old) where
  pub old_row : old < view_rows s table
  old_row = let b = o.classes.lowered.low u l.row in let r = l.row in let e = l.class in omega arith

  module _ (sig : Signature) (e : sig ≡ signature_in (joined s) (class_of cls) u) where
    module _ (head : Signature) (q : head ≡ signature_in (joined s) (class_of cls) old) (t : Bool) (p : Says (sig ≡ head) t) where
      same_sig : sig ≡ head → SameSig (joined s) (class_of cls) old u
      same_sig m = signature_sig (joined s) (class_of cls) u old (sixteen s table cls o u l.row) (sixteen s table cls o old old_row) (rw (sym q) (rw (sym e) m))

      sig_same : SameSig (joined s) (class_of cls) old u → sig ≡ head
      sig_same m = rw (e, q) (sig_signature (joined s) (class_of cls) u old (sixteen s table cls o u l.row) (sixteen s table cls o old old_row) m)

      pub with_the_old : t ≡ true → PlaceSays (joined s) (class_of cls) u (With old)
      with_the_old y =
          let b = o.classes.lowered.low u l.row in
          let late = l.late in
          let class = l.class in
          let low : old < u = omega arith in
          says_with low (with_old (joined s) (view_rows s table) cls new links u o.classes l.round l.row old l.class l.late (same_sig (said_yes (rw y at p))))

      pub as_a_new : t ≡ false → (b r : ℕ) → b ≡ bucket_of sig.label sig.count sig.classes → b < 2048 → Sought (joined s) cls new u r → r ≡ 0 → PlaceSays (joined s) (class_of cls) u (New b)
      as_a_new y b r k small m z =
          says_new (signed_bucket (joined s) (class_of cls) u b sig e k) small
          (seek_over (joined s) (view_rows s table) cls new links u o.classes l.round l.row old 0 (m.none z) refl l.class l.late (λ x. said_no (rw y at p) (sig_same x)))

    pub seek_from : (b p : ℕ) → b ≡ bucket_of sig.label sig.count sig.classes → p ≡ start_of cls links b → SeekingAt s table cls new links sig old u p
    seek_from b p k i =
        record {
          later = l;
          signed = e;
          seeking = seek_first (joined s) (view_rows s table) cls new links u o.classes l.round l.row b p (signed_bucket (joined s) (class_of cls) u b sig e k) i;
        }

-- ---- a row placed

module _ (s : Source) (table cls new links : List ℕ) (u old : ℕ) (o : Sighted s table cls) (r : Round s table cls new links u) (h : u < view_rows s table) (e : old ≡ class_of cls u) where
  pub placed_first : (new' : List ℕ) → old ≡ u → new' ≡ set new u u → Round s table cls new' links (u + 1)
  placed_first new' i w = rw w (place_first (joined s) (view_rows s table) cls new links u o.classes r h old e i)

  module _ (f : old ≡ u → ⊥) where
    pub is_later : Later s table cls new links u old
    is_later = record { row = h; round = r; class = e; late = f }

    module _ (p : Place) (m : PlaceSays (joined s) (class_of cls) u p) where
      pub head_small : (k : ℕ) → p ≡ With k → k < 65536
      head_small k q = go (rw q at m)
        where
          go : PlaceSays (joined s) (class_of cls) u (With k) → k < 65536
          go (says_with l x) = let few = o.classes.few in omega arith

      pub bucket_below : (b : ℕ) → p ≡ New b → b < 2048
      bucket_below b q = go (rw q at m)
        where
          go : PlaceSays (joined s) (class_of cls) u (New b) → b < 2048
          go (says_new k l x) = l

      pub placed_with : (k : ℕ) (new' : List ℕ) → p ≡ With k → new' ≡ set new u k → Round s table cls new' links (u + 1)
      placed_with k new' q w = go (rw q at m)
        where
          go : PlaceSays (joined s) (class_of cls) u (With k) → Round s table cls new' links (u + 1)
          go (says_with l x) = rw w (place_with (joined s) (view_rows s table) cls new links u o.classes r h k l x)

      pub head_inside : (b : ℕ) → p ≡ New b → head_in links b < length cls
      head_inside b q = bucket_inside s table cls new links u b o r h (bucket_below b q)

      pub placed_new : (b : ℕ) (new' links' : List ℕ) → p ≡ New b → new' ≡ set new u u → links' ≡ set (set links u (start_of cls links b)) (2048 + b) u → Round s table cls new' links' (u + 1)
      placed_new b new' links' q w v = go (rw q at m)
        where
          go : PlaceSays (joined s) (class_of cls) u (New b) → Round s table cls new' links' (u + 1)
          go (says_new k l x) = rw (w, v) (place_new (joined s) (view_rows s table) cls new links u o.classes r h b k (λ i. f (e ∙ i)) x)

-- a new head comes first in its bucket
pub links_begun : (cls links links₁ links₂ : List ℕ) (u b x : ℕ) → x ≡ start_of cls links b → links₁ ≡ set links u x → links₂ ≡ set links₁ (2048 + b) u → links₂ ≡ set (set links u (start_of cls links b)) (2048 + b) u
links_begun cls links links₁ links₂ u b x e q i = i ∙ ap (λ l. set l (2048 + b) u) (q ∙ ap (set links u) e)

-- ---- all rows

pub rows_placed : (s : Source) (table cls new links : List ℕ) (u n : ℕ) → Round s table cls new links u → n ≡ view_rows s table → n ≤ u → Round s table cls new links (view_rows s table)
rows_placed s table cls new links u n r e h =
    let i : u ≡ view_rows s table = omega (arith, r.some) in
    rw i at r
