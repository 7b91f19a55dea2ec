-- The answers of part-of, each from what led to it.
use Prim.Native.Nat.{ℕ, ◌≤◌, ◌<◌}
use native.Mathlib.Omega.{arith}
use mathlib.Core.Path.{◌≡◌}
use mathlib.Core.Bool.{Bool, false}
use mathlib.Core.List.{List, [], ◌∷◌}
use mathlib.Core.Logic.{inl, inr}
use lib.ListN.{take}
use Rattle.std.specs.Prelude.{Result, Err}
use Rattle.rules.specs.Refusals.{◌when◌, First}
use Rattle.rules.specs.Answers.{Says}
use Rattle.rules.proofs.Refusals.{first_here, first_later, first_none, first_front, done_none}
use Rattle.rules.proofs.Answers.{says_same}
use Rattle.trees.specs.Graph.{Closed}
use Rattle.trees.specs.Paths.{Leads}
use Rattle.store.specs.Layout.{in_use, store_graph, room}
use Rattle.store.proofs.Graphs.{shaped_closed}
use Rattle.walks.specs.Walk.{has}
use Rattle.walks.specs.Key.{walk_all}
use Rattle.walks.proofs.Members.{has_says}
use Rattle.walks.proofs.Reached.{all_leads}
use Rattle.walker.specs.Queue.{Queued}
use Rattle.checking.specs.Checked.{SoundStore, CheckedSays, checked_refused}
use Rattle.checking.specs.Answers.{AnswerSays, answers_refused, answers_done, Out}
use Rattle.parts.specs.Parts.{part_refusals}
use Rattle.checking.specs.declared.look.Answer.{Answer}
use Rattle.store.specs.Sound.{flaw_number}
use Rattle.store.specs.declared.shape.Flaw.{Flaw}
use Rattle.checking.proofs.Done.{store_known, in_first, in_second, answer_done}

module _ (w : List ℕ) (n : ℕ) (s : SoundStore w n) where
  pub leads_says : (whole part : ℕ) (queue marks : List ℕ) (filled : ℕ) (t : Bool) → whole < n → Queued n queue marks filled (walk_all (store_graph room w) n whole) → t ≡ has (take filled queue) part → Says (Leads (store_graph room w) whole part) t
  leads_says whole part queue marks filled t h q e =
      let c : Closed (store_graph room w) n = rw s.counted (shaped_closed room w s.sound.shaped) in
      rw (e, q.rows) (says_same (all_leads c h) (has_says (walk_all (store_graph room w) n whole) part))

  -- ---- part-of

  module _ (part whole : ℕ) where
    past : {r : ℕ} → First ((9 when Out w part w whole) ∷ []) r → First (part_refusals w part whole) r
    past f = let h = s.words in first_later (λ z. omega arith) (first_later (λ x. x s.sound) f)

    pub part_out : n ≤ part → AnswerSays (part_refusals w part whole) (Leads (store_graph room w) whole part) (record { number = 9; yes = false })
    part_out h = answers_refused (past (first_here (inl (omega (arith, s.counted))))) (λ z. omega arith)

    pub whole_out : n ≤ whole → AnswerSays (part_refusals w part whole) (Leads (store_graph room w) whole part) (record { number = 9; yes = false })
    whole_out h = answers_refused (past (first_here (inr (omega (arith, s.counted))))) (λ z. omega arith)

    pub part_done : (t : Bool) → part < n → whole < n → Says (Leads (store_graph room w) whole part) t → AnswerSays (part_refusals w part whole) (Leads (store_graph room w) whole part) (record { number = 0; yes = t })
    part_done t h k q = answers_done (past (first_later out first_none)) q
      where
        out : Out w part w whole → ⊥
        out (inl l) = omega (arith, s.counted)
        out (inr l) = omega (arith, s.counted)

pub part_refused : (w : List ℕ) (part whole : ℕ) (a : Result ℕ Flaw) (flaw : Flaw) (number : ℕ) → CheckedSays w a → a ≡ Err flaw → number ≡ flaw_number flaw → AnswerSays (part_refusals w part whole) (Leads (store_graph room w) whole part) (record { number = number; yes = false })
part_refused w part whole a flaw number s e n = rw n (go (rw e at s))
  where
    go : CheckedSays w (Err flaw) → AnswerSays (part_refusals w part whole) (Leads (store_graph room w) whole part) (record { number = flaw_number flaw; yes = false })
    go (checked_refused f z) = answers_refused (first_front ((9 when Out w part w whole) ∷ []) f z) z

-- ---- a done answer: the store has words and is sound, and both rows are in use

pub record PartDone (w : List ℕ) (part whole : ℕ) : Type 0 where
  pub store : SoundStore w (in_use w)
  pub part_used : part < in_use w
  pub whole_used : whole < in_use w

pub part_sound : {w : List ℕ} {part whole : ℕ} {P : Type 0} {a : Answer} → AnswerSays (part_refusals w part whole) P a → a.number ≡ 0 → PartDone w part whole
part_sound {w} {part} {whole} s e =
    let n = done_none {l = part_refusals w part whole} ((λ z. omega arith), ((λ z. omega arith), ((λ z. omega arith), tt))) (answer_done s e) in
    record {
      store = store_known w n.0 n.1.0;
      part_used = in_first w part w whole n.1.1.0;
      whole_used = in_second w part w whole n.1.1.0;
    }
