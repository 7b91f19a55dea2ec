-- The verdict depends only on the trees: rows of the same tree lead to unlisted rows both or neither, and to loops without a hold both or neither.
use Prim.Native.Nat.{ℕ, zero, suc, ◌<◌}
use native.Mathlib.Omega.{arith}
use mathlib.Core.Path.{sym, ap, ◌∙◌}
use mathlib.Core.Logic.{◌↔◌}
use Rattle.trees.specs.Graph.{Graph, Closed}
use Rattle.trees.specs.Agreement.{Alike, SameTree}
use Rattle.trees.specs.Paths.{Leads}
use Rattle.trees.proofs.Agreement.{alike_sym, same_sym, same_alike, same_input}
use Rattle.trees.proofs.Paths.{Followed, same_reach, leads_within, leads_trans}
use Rattle.loops.specs.Operations.{operation_of}
use Rattle.loops.specs.Catalogue.{inputs_of, Listed, Unlisted}
use Rattle.loops.specs.Loops.{Unheld}
use Rattle.loops.proofs.Running.{Runs, runs_none, runs_on, runs_first, loop_runs, runs_loop}

listed_same : {g h : Graph} {u v : ℕ} → Alike g u h v → Listed g u → Listed h v
listed_same a l =
    let e = ap (λ x. inputs_of (operation_of x)) a.labels in
    record { known = λ q. l.known (e ∙ q); counts = sym a.counts ∙ l.counts ∙ e }

module _ {g h : Graph} where
  pub runs_same : (k : ℕ) {u v : ℕ} → SameTree g u h v → Runs g k u → Runs h k v
  runs_same zero {u} {v} s r = runs_none h v
  runs_same (suc k) {u} {v} s r =
      let o = runs_first g k u r in
      let a = same_alike s in
      runs_on h k v
      (record {
        plain = λ x. o.plain (record { is = ap operation_of a.labels ∙ x.is });
        input = o.input;
        of_row = let n = a.counts in let l = o.of_row in omega arith;
        goes = runs_same k (same_input s o.input o.of_row) o.goes;
      })

  unlisted_to : {u v : ℕ} → SameTree g u h v → Unlisted g u → Unlisted h v
  unlisted_to {u} {v} s x = go (same_reach s x.leads.path x.leads.there)
    where
      go : Followed g x.row h v x.leads.path → Unlisted h v
      go f =
          record {
            row = f.end;
            leads = record { path = x.leads.path; there = f.there };
            wrong = λ l. x.wrong (listed_same (alike_sym (same_alike f.same)) l);
          }

  unheld_to : {n u v : ℕ} → Closed h n → v < n → SameTree g u h v → Unheld g u → Unheld h v
  unheld_to {n} {u} {v} c l s x = go (same_reach s x.leads.path x.leads.there)
    where
      go : Followed g x.row h v x.leads.path → Unheld h v
      go f =
          let p : Leads h v f.end = record { path = x.leads.path; there = f.there } in
          let y = runs_loop h c (leads_within c l p) (runs_same n f.same (loop_runs g x.loop n)) in
          record { row = y.row; leads = leads_trans p y.leads; loop = y.loop }

-- the verdict on a row depends only on its tree
pub unlisted_same : {g h : Graph} {u v : ℕ} → SameTree g u h v → Unlisted g u ↔ Unlisted h v
unlisted_same s = (unlisted_to s, unlisted_to (same_sym s))

pub unheld_same : {g h : Graph} {n m u v : ℕ} → Closed g n → u < n → Closed h m → v < m → SameTree g u h v → Unheld g u ↔ Unheld h v
unheld_same c a d b s = (unheld_to d b s, unheld_to c a (same_sym s))
