-- The loops over all rows before and after the passes.
use Rattle.std.proofs.Common.{ℕ, ◌+◌, ◌≤◌, ◌<◌, arith, ◌≡◌, refl, sym, ap, ◌∙◌, Bool, true, false, List, length, set, length-set, get_or-set_same, get_or-set_other}
use native.Mathlib.Decide.{dec_lt, ℕ_discrete}
use Rattle.rules.specs.Answers.{Says}
use Rattle.rules.proofs.Answers.{said_yes, said_no}
use Rattle.store.specs.Layout.{input_of, store_graph}
use Rattle.store.proofs.Room.{row_there}
use Rattle.wires.specs.Wires.{Wire, follow, most_wires}
use Rattle.wires.proofs.Following.{follow_none, follow_wire, follow_plain}
use Rattle.mends.proofs.Left.{few_rows}
use Rattle.mends.specs.Entries.{entry_of, Marked}
use Rattle.wires.proofs.Doubling.{jump_wire}
use Rattle.jumping.specs.Jumps.{Jumps, Named, SameMarks, Doubled, Led, EndAsks, EndRow, end_marked, end_box, end_wire, EndlessAsks, Ended, FirstAsks, FirstRow, first_marked, first_left, JumpsAsk}
use Rattle.jumping.proofs.Passes.{eleven}

-- ---- endless wires

module _ (most n : ℕ) (w old : List ℕ) (a : EndlessAsks most n w old) where
  pub ended_none : Ended most n w old old 0
  ended_none =
      record {
        some = omega arith;
        long = refl;
        marks = λ x m. m;
        stands = λ x f. refl;
        box = λ x h. absurd (omega arith);
        wire = λ x h. absurd (omega arith);
        rest = λ x h. refl;
      }

  module _ (list : List ℕ) (u : ℕ) (s : Ended most n w old list u) where
    module _ (h : u < n) where
      was : Marked old u → Marked list u
      was m = s.rest u (omega arith) ∙ m

      pub ended_asks : EndAsks most w list u
      ended_asks =
          record {
            entry = omega (arith, a.named.long, s.long);
            there = λ f. rw (s.rest u (omega arith)) (row_there most w n (entry_of old u) a.limit (a.named.row u h (λ m. f (was m))) a.room);
          }

      pub ended_more : (new : List ℕ) → EndRow most w list u new → Ended most n w old new (u + 1)
      ended_more new (end_marked m z) =
          rw z (record {
            some = omega arith;
            long = s.long;
            marks = s.marks;
            stands = s.stands;
            box = λ x l f. go x l f (dec_lt x u);
            wire = λ x l f k. ow x l f k (dec_lt x u);
            rest = λ x l. s.rest x (omega arith);
          })
        where
          go : (x : ℕ) → x < u + 1 → (Marked list x → ⊥) → Dec (x < u) → Wire (store_graph most w) (entry_of list x) → ⊥
          go x l f (yes q) = s.box x q f
          go x l f (no q) = let y : x ≡ u = omega arith in absurd (f (rw y m))

          ow : (x : ℕ) → x < u + 1 → (Marked old x → ⊥) → Marked list x → Dec (x < u) → Wire (store_graph most w) (entry_of old x)
          ow x l f k (yes q) = s.wire x q f k
          ow x l f k (no q) = absurd (f (sym (s.rest x (omega arith)) ∙ k))
      ended_more new (end_box f b z) =
          rw z (record {
            some = omega arith;
            long = s.long;
            marks = s.marks;
            stands = s.stands;
            box = λ x l d. go x l d (dec_lt x u);
            wire = λ x l d k. ow x l d k (dec_lt x u);
            rest = λ x l. s.rest x (omega arith);
          })
        where
          go : (x : ℕ) → x < u + 1 → (Marked list x → ⊥) → Dec (x < u) → Wire (store_graph most w) (entry_of list x) → ⊥
          go x l d (yes q) = s.box x q d
          go x l d (no q) = let y : x ≡ u = omega arith in rw y b

          ow : (x : ℕ) → x < u + 1 → (Marked old x → ⊥) → Marked list x → Dec (x < u) → Wire (store_graph most w) (entry_of old x)
          ow x l d k (yes q) = s.wire x q d k
          ow x l d k (no q) = absurd (d (sym (s.rest x (omega arith)) ∙ k))
      ended_more new (end_wire f b z) =
          rw z (record {
            some = omega arith;
            long = length-set list u 4294967295 ∙ s.long;
            marks = λ x m. mark x m (ℕ_discrete x u);
            stands = λ x d. stand x d (ℕ_discrete x u);
            box = λ x l d. go x l d (ℕ_discrete x u);
            wire = λ x l d k. ow x l d k (ℕ_discrete x u);
            rest = λ x l. other x (λ y. omega arith) ∙ s.rest x (omega arith);
          })
        where
          here : Marked (set list u 4294967295) u
          here = get_or-set_same list u 4294967295 0 (omega (arith, a.named.long, s.long))

          other : (x : ℕ) → (x ≡ u → ⊥) → entry_of (set list u 4294967295) x ≡ entry_of list x
          other x d = get_or-set_other list u x 4294967295 0 d

          mark : (x : ℕ) → Marked old x → Dec (x ≡ u) → Marked (set list u 4294967295) x
          mark x m (yes y) = rw y here
          mark x m (no y) = other x y ∙ s.marks x m

          stand : (x : ℕ) → (Marked (set list u 4294967295) x → ⊥) → Dec (x ≡ u) → entry_of (set list u 4294967295) x ≡ entry_of old x
          stand x d (yes y) = absurd (d (rw y here))
          stand x d (no y) = other x y ∙ s.stands x (λ m. d (other x y ∙ m))

          go : (x : ℕ) → x < u + 1 → (Marked (set list u 4294967295) x → ⊥) → Dec (x ≡ u) → Wire (store_graph most w) (entry_of (set list u 4294967295) x) → ⊥
          go x l d (yes y) = absurd (d (rw y here))
          go x l d (no y) = rw (other x y) (s.box x (omega arith) (λ m. d (other x y ∙ m)))

          ow : (x : ℕ) → x < u + 1 → (Marked old x → ⊥) → Marked (set list u 4294967295) x → Dec (x ≡ u) → Wire (store_graph most w) (entry_of old x)
          ow x l d k (yes y) = rw (y, ← s.rest u (omega arith)) b
          ow x l d k (no y) = s.wire x (omega arith) d (sym (other x y) ∙ k)

    pub ended_all : n ≤ u → Ended most n w old list n
    ended_all h = let e : u ≡ n = omega (arith, s.some) in rw e at s

-- ---- one wire

module _ (most : ℕ) (w : List ℕ) (u : ℕ) (r : Bool) (s : Says (Wire (store_graph most w) u) r) where
  pub next_wire : (x : ℕ) → r ≡ true → x ≡ input_of most w u 0 → x ≡ follow (store_graph most w) 1 u
  unfolding store_graph
  next_wire x e q = q ∙ sym (follow_wire (store_graph most w) 0 u (said_yes (rw e at s)) ∙ follow_none (store_graph most w) (input_of most w u 0))

  pub next_plain : r ≡ false → u ≡ follow (store_graph most w) 1 u
  next_plain e = sym (follow_plain (store_graph most w) 1 u (said_no (rw e at s)))

module _ (most : ℕ) (w old : List ℕ) (u x : ℕ) (e : x ≡ entry_of old u) where
  pub first_stays : x ≡ 4294967295 → FirstRow most w old u old
  first_stays q = first_marked (sym e ∙ q) refl

  pub first_goes : (y : ℕ) → (x ≡ 4294967295 → ⊥) → y ≡ follow (store_graph most w) 1 u → FirstRow most w old u (set old u y)
  first_goes y f q = first_left (λ m. f (e ∙ m)) (ap (set old u) q)

pub record Firsts (most n : ℕ) (w old list : List ℕ) (u : ℕ) : Type 0 where
  pub some : u ≤ n
  pub same : length list ≡ length old
  pub marks : SameMarks n old list
  pub done : (x : ℕ) → x < u → (Marked list x → ⊥) → entry_of list x ≡ follow (store_graph most w) 1 x
  pub rest : (x : ℕ) → u ≤ x → entry_of list x ≡ entry_of old x

module _ (most n : ℕ) (w old : List ℕ) (a : JumpsAsk most n w old) where
  pub firsts_none : Firsts most n w old old 0
  firsts_none =
      record { some = omega arith; same = refl; marks = record { long = refl; past = λ u h. refl; to = λ x m. m; from = λ x m. m }; done = λ x h. absurd (omega arith); rest = λ x h. refl }

  module _ (list : List ℕ) (u : ℕ) (s : Firsts most n w old list u) where
    module _ (h : u < n) where
      pub firsts_asks : FirstAsks most w list u
      firsts_asks = record { entry = omega (arith, a.entries, s.same); there = row_there most w n u a.limit h a.room; inputs = a.some }

      pub firsts_more : (new : List ℕ) → FirstRow most w list u new → Firsts most n w old new (u + 1)
      firsts_more new (first_marked m z) =
          rw z (record { some = omega arith; same = s.same; marks = s.marks; done = λ x l f. go x l f (dec_lt x u); rest = λ x l. s.rest x (omega arith) })
        where
          go : (x : ℕ) → x < u + 1 → (Marked list x → ⊥) → Dec (x < u) → entry_of list x ≡ follow (store_graph most w) 1 x
          go x l f (yes q) = s.done x q f
          go x l f (no q) = let y : x ≡ u = omega arith in absurd (f (rw y m))
      firsts_more new (first_left f z) =
          rw z (record {
            some = omega arith;
            same = length-set list u y ∙ s.same;
            marks = record { long = length-set list u y ∙ s.same; past = λ x l. other x (λ q. omega arith) ∙ s.marks.past x l; to = λ x m. to x (s.marks.to x m) (ℕ_discrete x u); from = λ x m. s.marks.from x (from x m (ℕ_discrete x u)) };
            done = λ x l d. go x l d (ℕ_discrete x u);
            rest = λ x l. other x (λ q. omega arith) ∙ s.rest x (omega arith);
          })
        where
          y : ℕ
          y = follow (store_graph most w) 1 u

          low : y < n
          low = a.within u h (λ m. f (s.marks.to u m))

          here : entry_of (set list u y) u ≡ y
          here = get_or-set_same list u y 0 (omega (arith, a.entries, s.same))

          other : (x : ℕ) → (x ≡ u → ⊥) → entry_of (set list u y) x ≡ entry_of list x
          other x d = get_or-set_other list u x y 0 d

          to : (x : ℕ) → Marked list x → Dec (x ≡ u) → Marked (set list u y) x
          to x m (yes q) = absurd (f (rw q at m))
          to x m (no q) = other x q ∙ m

          from : (x : ℕ) → Marked (set list u y) x → Dec (x ≡ u) → Marked list x
          from x m (yes q) = let k : y ≡ 4294967295 = sym here ∙ (rw q at m) in absurd (omega (arith, low, few_rows most n (length w) a.room))
          from x m (no q) = sym (other x q) ∙ m

          go : (x : ℕ) → x < u + 1 → (Marked (set list u y) x → ⊥) → Dec (x ≡ u) → entry_of (set list u y) x ≡ follow (store_graph most w) 1 x
          go x l d (yes q) = rw q here
          go x l d (no q) = other x q ∙ s.done x (omega arith) (λ m. d (other x q ∙ m))

    module _ (h : n ≤ u) where
      at : (x : ℕ) → x < n → (Marked list x → ⊥) → entry_of list x ≡ follow (store_graph most w) 1 x
      at x l f = s.done x (omega arith) f

      pub firsts_named : Named n list
      firsts_named =
          record {
            long = omega (arith, a.entries, s.same);
            row = λ x l f. rw (at x l f) (a.within x l (λ m. f (s.marks.to x m)));
            left = λ x l f m. a.left x l (λ k. f (s.marks.to x k)) (s.marks.from (follow (store_graph most w) 1 x) (rw (at x l f) at m));
          }

      pub firsts_jumps : Jumps (store_graph most w) n 1 list
      firsts_jumps = record { each = λ x l f. record { steps = 1; enough = omega arith; there = at x l f } }

    pub firsts_marks : SameMarks n old list
    firsts_marks = s.marks

-- ---- all of it

module _ (most n : ℕ) (w old : List ℕ) (first : List ℕ) (m₁ : SameMarks n old first) (j : Jumps (store_graph most w) n 1 first)
    (doubles : List ℕ) (m₂ : SameMarks n first doubles) (d : Doubled n first doubles 11) where
  far : Jumps (store_graph most w) n most_wires doubles
  far = rw eleven at (d.of (store_graph most w) 1 j)

  pub led_all : (new : List ℕ) → Ended most n w doubles new n → Led most n w old new
  led_all new e =
      record {
        long = e.long ∙ m₂.long ∙ m₁.long;
        past = λ u h. e.rest u h ∙ m₂.past u h ∙ m₁.past u h;
        marks = λ u m. e.marks u (m₂.to u (m₁.to u m));
        jump = λ u h f. rw (e.stands u f) (far.each u h (λ m. f (e.marks u m)));
        box = λ u h f. e.box u h f;
        endless = λ u h f m.
            let g : Marked doubles u → ⊥ = λ k. f (m₁.from u (m₂.from u k)) in
            jump_wire (store_graph most w) (far.each u h g) (e.wire u h g m);
      }
