-- Inner: the rows left numbered by their classes, and what that gives for every choice of the lowest rows.
use Rattle.std.specs.Prelude.{ℕ, ◌+◌, ◌-◌, ◌≤◌, ◌<◌, ◌≡◌, List, length, get_or, set}
use Rattle.rules.specs.Lists.{firsts}
use Rattle.rules.specs.Writes.{over_front}
use Rattle.trees.specs.Graph.{Graph}
use Rattle.trees.specs.Agreement.{SameTree}
use Rattle.rounds.specs.Classes.{class_of}
use Rattle.numbering.specs.Numbers.{trees_below}
use Rattle.mends.specs.Lowest.{Lowest}
use Rattle.mends.specs.Words.{listed}
use Rattle.mends.specs.Entries.{Marked}

-- ---- one row

-- row u has an entry and a class, and its class a number
pub record RowAsks (list cls numbers : List ℕ) (u k : ℕ) : Type 0 where
  pub entry : u < length list
  pub class : u < length cls
  pub number : class_of cls u < length numbers
  pub few : k < 65535

-- row u is marked; or its class has a number; or it takes the next
pub data RowNumbered (cls : List ℕ) (u k : ℕ) (list numbers : List ℕ) : (list' numbers' : List ℕ) → ℕ → Type 0 where
  row_gone : {list' numbers' : List ℕ} {r : ℕ} → Marked list u → list' ≡ list → numbers' ≡ numbers → r ≡ k → RowNumbered cls u k list numbers list' numbers' r
  row_known : {list' numbers' : List ℕ} {r : ℕ} → (Marked list u → ⊥) → (get_or numbers (class_of cls u) 0 ≡ 0 → ⊥) → list' ≡ set list u (get_or numbers (class_of cls u) 0 - 1) → numbers' ≡ numbers → r ≡ k → RowNumbered cls u k list numbers list' numbers' r
  row_new : {list' numbers' : List ℕ} {r : ℕ} → (Marked list u → ⊥) → get_or numbers (class_of cls u) 0 ≡ 0 → list' ≡ set list u k → numbers' ≡ set numbers (class_of cls u) (k + 1) → r ≡ k + 1 → RowNumbered cls u k list numbers list' numbers' r

-- ---- all rows

-- the first n rows have an entry and a class each, and no class has a number yet
pub record NumberAsks (n : ℕ) (list cls numbers : List ℕ) : Type 0 where
  pub few : n ≤ 1024
  pub entries : n ≤ length list
  pub classes : n ≤ length cls
  pub within : (u : ℕ) → u < n → class_of cls u < length numbers
  pub zero : (h : ℕ) → get_or numbers h 0 ≡ 0

-- c gives each row not marked the lowest of them with its tree, and trees are classes
pub record Chosen (g : Graph) (n : ℕ) (list cls : List ℕ) (c : ℕ → ℕ) : Type 0 where
  pub lowest : Lowest g n (Marked list) c
  pub tree : (u v : ℕ) → u < n → v < n → c u < n → c v < n → class_of cls u ≡ class_of cls v → SameTree g u g v
  pub class : (u v : ℕ) → u < n → v < n → c u < n → c v < n → SameTree g u g v → class_of cls u ≡ class_of cls v

-- for each such choice the list is that of the mended store, and r the kept count
pub record NumbersGiven (n : ℕ) (cls list list' : List ℕ) (r : ℕ) : Type 0 where
  pub long : length list' ≡ length list
  pub listing : (g : Graph) (c : ℕ → ℕ) → Chosen g n list cls c → list' ≡ over_front (firsts (listed n c) n) list
  pub count : (g : Graph) (c : ℕ → ℕ) → Chosen g n list cls c → r ≡ trees_below c n
