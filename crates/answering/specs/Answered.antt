-- What the answers to the yes-or-no questions say of a request's stores and numbers.
use Rattle.std.specs.Prelude.{ℕ, List}
use Rattle.trees.specs.Agreement.{SameTree}
use Rattle.trees.specs.Paths.{Leads}
use Rattle.store.specs.Layout.{store_graph, room}
use Rattle.checking.specs.Answers.{AnswerSays}
use Rattle.comparing.specs.Refused.{compare_refusals}
use Rattle.parts.specs.Parts.{part_refusals}
use Rattle.checking.specs.declared.look.Answer.{Answer}
use Rattle.requests.specs.Runs.{words_in}
use Rattle.requests.specs.declared.asked.CompareAsked.{CompareAsked}
use Rattle.requests.specs.declared.asked.PartAsked.{PartAsked}

-- whether two rows have the same tree
abbrev pub SaysSame : (first : List ℕ) (row : ℕ) (second : List ℕ) (other : ℕ) → Answer → Type 0
SaysSame first row second other r =
    AnswerSays (compare_refusals first row second other) (SameTree (store_graph room first) row (store_graph room second) other) r

pub record CompareSays (b : List ℕ) (a : CompareAsked) (r : Answer) : Type 0 where
  pub says : SaysSame (words_in b a.store) a.row.count (words_in b a.second) a.other.count r

-- whether a path leads from the whole to the part
abbrev pub SaysPart : (w : List ℕ) (part whole : ℕ) → Answer → Type 0
SaysPart w part whole r = AnswerSays (part_refusals w part whole) (Leads (store_graph room w) whole part) r

pub record PartSays (b : List ℕ) (a : PartAsked) (r : Answer) : Type 0 where
  pub says : SaysPart (words_in b a.store) a.part.count a.whole.count r
