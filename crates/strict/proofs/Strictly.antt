-- The outcomes of a strict insert, from what the shape, the front, judging and the plain insert answered.
use Prim.Native.Nat.{ℕ, ◌<◌}
use native.Mathlib.Omega.{arith}
use mathlib.Core.Path.{◌≡◌, sym}
use mathlib.Core.List.{List, [], ◌∷◌, ◌++◌}
use lib.ListN.{length}
use Rattle.rules.specs.Refusals.{Refusal, ◌when◌, First, NoneOf}
use Rattle.rules.proofs.Refusals.{first_here, first_later, first_front, first_past}
use Rattle.sheet.specs.Format.{row_count_of}
use Rattle.sheet.specs.Faults.{fault_at}
use Rattle.sheet.proofs.Faults.{fault_1, fault_2}
use Rattle.sheet.specs.Points.{PointsNowhere}
use Rattle.sheet.proofs.Readable.{readable_right}
use Rattle.sheet.proofs.Within.{leads_names}
use Rattle.std.specs.Prelude.{Result, Ok, Err, ⊤}
use Rattle.sheet.specs.declared.fault.Fault.{Fault}
use Rattle.store.specs.Layout.{room}
use Rattle.store.specs.Sound.{Sound, ShapeSays, says_no_words, says_broken, flaw_number}
use Rattle.store.specs.declared.shape.Flaw.{Flaw}
use Rattle.store.specs.declared.shape.Flaw.TheVariants.{NoWords, Broken}
use Rattle.rows.specs.Tabled.{Tabled}
use Rattle.fronting.specs.Front.{drawn_list, Wired, DrawnSays, drawn_refused}
use Rattle.checking.specs.Check.{InShape}
use Rattle.inserting.specs.Insert.{NoRoom, insert_refusals, InsertSays, says_refused, says_done}
use Rattle.inserting.specs.Behind.{Behind, stands, twice}
use Rattle.inserting.specs.declared.insertion.Inserted.{Inserted}
use Rattle.duties.proofs.Outcome.{done_first}
use Rattle.strict.specs.Strict.{verdicts, strict_refusals, StrictSays, strict_refused, strict_done}
use Rattle.strict.specs.Judged.{JudgedSays, judged_refused, judged_fine}
use Rattle.strict.proofs.Between.{first_between}

-- what both inserts test first, and last
abbrev before : (w b : List ℕ) → List Refusal
before w b = (1 when (length w ≡ 0)) ∷ (2 when (Sound room w → ⊥)) ∷ drawn_list b

abbrev pub behind : (w b answers : List ℕ) → List Refusal
behind w b answers = (7 when (length answers < row_count_of b)) ∷ (8 when NoRoom w b) ∷ []

-- ---- the store refused by its shape

module _ (w b answers : List ℕ) (a : Result ℕ Flaw) (s : ShapeSays room w a) where
  pub strict_flaw : (flaw : Flaw) (number : ℕ) → a ≡ Err flaw → number ≡ flaw_number flaw → StrictSays w b answers (record { number = number; added = 0; place = 0 }) w answers
  strict_flaw flaw number e n = rw n (go flaw (rw e at s))
    where
      go : (f : Flaw) → ShapeSays room w (Err f) → StrictSays w b answers (record { number = flaw_number f; added = 0; place = 0 }) w answers
      go NoWords (says_no_words z) = strict_refused (first_here z) (λ q. omega arith) (sym (fault_1 b 0))
      go Broken (says_broken h f) =
          strict_refused (first_later (λ z. omega arith) (first_here (λ x. f x.shaped))) (λ q. omega arith) (sym (fault_2 b 0))

-- ---- a refusal of the sheet stands only where the store is sound

module _ (w b answers : List ℕ) (stored : ℕ) (told : InShape w stored) where
  -- a number that the sheet has beside a sound store
  refused_with : (number place : ℕ) (i : Inserted) → First (drawn_list b ++ (verdicts b ++ behind w b answers)) number → (number ≡ 0 → ⊥) → place ≡ fault_at number b 0 → Behind w number place i → StrictSays w b answers i w answers
  refused_with number place i f z p k = go k
    where
      go : {x : Inserted} → Behind w number place x → StrictSays w b answers x w answers
      go (stands m) =
          let h = told.words in
          strict_refused
          (first_later (λ q. omega arith) (first_later (λ n. n (record { shaped = told.shaped; distinct = m })) f))
          z
          p
      go (twice m) =
          let h = told.words in
          strict_refused (first_later (λ q. omega arith) (first_here (λ x. m x.distinct))) (λ q. omega arith) (sym (fault_2 b 0))

  pub strict_front : (table jumps : List ℕ) (r : Result ℕ Fault) (f : Fault) (i : Inserted) → DrawnSays (drawn_list b) b 0 table jumps r → r ≡ Err f → Behind w f.number f.place i → StrictSays w b answers i w answers
  strict_front table jumps r f i s e k = go (rw e at s)
    where
      go : DrawnSays (drawn_list b) b 0 table jumps (Err f) → StrictSays w b answers i w answers
      go (drawn_refused l z p) =
          refused_with f.number f.place i
          (first_front (verdicts b ++ behind w b answers) l z)
          z
          p
          k

-- ---- the verdict, and the plain insert behind it

pub tabled_shape : (w b : List ℕ) (stored : ℕ) (table : List ℕ) → Tabled w b stored table → InShape w stored
tabled_shape w b stored table t = record { words = t.front.words; shaped = t.front.shaped; counted = t.front.counted }

module _ (w b answers : List ℕ) (stored : ℕ) (table jumps : List ℕ) (t : Tabled w b stored table) (own : PointsNowhere b 0 → ⊥) (x : Wired b (length table) jumps) (q : Result ⊤ Fault) (s : JudgedSays b q) where
  -- nothing before 12 applies
  past : {r : ℕ} → First (verdicts b ++ behind w b answers) r → First (drawn_list b ++ (verdicts b ++ behind w b answers)) r
  past g =
      let n = readable_right b t.front.readable in
      first_past (drawn_list b) (n.0, (n.1.0, (n.1.1.0, (leads_names b own, (own, (x.straight, (x.unlooped, tt))))))) g

  pub strict_no : (f : Fault) (i : Inserted) → q ≡ Err f → Behind w f.number f.place i → StrictSays w b answers i w answers
  strict_no f i e k = go (rw e at s)
    where
      go : JudgedSays b (Err f) → StrictSays w b answers i w answers
      go (judged_refused l z p) =
          refused_with w b answers stored (tabled_shape w b stored table t) f.number f.place i (past (first_front (behind w b answers) l z)) z p k

-- where neither 12 nor 13 applies, both inserts have one number
module _ (w b answers : List ℕ) where
  none_between : {r : ℕ} → NoneOf (verdicts b) → First (insert_refusals w b answers) r → First (strict_refusals w b answers) r
  none_between n f = first_between (before w b) (verdicts b) (behind w b answers) n f

  pub strict_goes_on : (q : Result ⊤ Fault) → JudgedSays b q → q ≡ Ok tt → (r : Inserted) (w' answers' : List ℕ) → InsertSays w b answers r w' answers' → StrictSays w b answers r w' answers'
  strict_goes_on q s e r w' answers' i = go (rw e at s) i
    where
      go : JudgedSays b (Ok tt) → {r : Inserted} {w' answers' : List ℕ} → InsertSays w b answers r w' answers' → StrictSays w b answers r w' answers'
      go (judged_fine n) (says_refused f z p) = strict_refused (none_between n f) z p
      go (judged_fine n) (says_done d) = strict_done (none_between n (done_first d)) d
