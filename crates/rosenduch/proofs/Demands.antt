-- The three demands. Each field is one theorem: demand 1 by the definitions' lines, demand 2 by fit and by the machine's steps, demand 3 by the tree of the lowest rule.
use mathlib.Core.Path.{◌≡◌}
use Prim.Native.Nat.{◌<◌}
use native.Mathlib.Omega.{arith}
use Rattle.term.specs.declared.answer.Answer.TheVariants.{Done}
use Rattle.term.specs.Answer.{Answered, answered}
use Rattle.rosenduch.specs.Operations.{Operations, Promised}
use Rattle.rosenduch.specs.Demands.{Demand1, Demand2, Demand3}
use Rattle.rosenduch.proofs.Refusals.{refuses_bad}
use Rattle.rosenduch.proofs.Zeros.{leaves_zeros}
use Rattle.rosenduch.proofs.OneRule.{as_dedukti_front, matches_rule, builds_left, built_then, matched_then}
use Rattle.rosenduch.proofs.Trees.{compiles_tree, finds_by_tree}
use Rattle.rosenduch.proofs.Roots.{rewrites_root, rewrites_by_tree}
use Rattle.rosenduch.proofs.Runs.{runs_by_tree, runs_by_fit}

below_ten : (said : Answered) → said ≡ answered Done → said.number < 10
below_ten said e = rw e (omega arith)

module _ (ops : Operations) (kept : Promised ops) where
  pub demand_1 : Demand1 ops
  demand_1 = record { refuses_bad = refuses_bad ops kept; leaves_zeros = leaves_zeros ops kept }

  pub demand_2 : Demand2 ops
  demand_2 =
      record {
        dedukti = λ book number rule term g f i. as_dedukti_front book g number rule f term i;
        matches = λ book number rule term g f i room o p. matches_rule book number rule term g f i room o (kept.match_rule book number term room o p);
        rewrites = λ book tree term k i room o p. rewrites_root ops kept book tree term k i room o (kept.rewrite_root book tree term room o p);
        rewrites_by = λ book tree term g i room o p. rewrites_by_tree book tree term g i room o (kept.rewrite_root book tree term room o p);
        simplifies = λ book tree term k i budget room o p. runs_by_fit ops kept book tree k term i budget room o (kept.simplify book tree term budget room o p);
        simplifies_by = λ book tree term g i budget room o p. runs_by_tree book tree term g i budget room o (kept.simplify book tree term budget room o p);
        builds = λ book number rule g f b i room o p. builds_left book number rule g f b i room o (kept.build_left book number _ _ room o p);
        built_matched = λ book number bodies lengths l room o p d. (
            let k = built_then book number bodies lengths l room o (kept.build_left book number bodies lengths room o p) d in
            (k.0, k.1, λ more h m q. k.2 more h m (kept.match_rule book number k.0 more m q))
            );
        matched_built = λ book number term room m p d. (
            let i = (((refuses_bad ops kept).match_rule book number term room m p).3 (below_ten m.said d)).1 in
            let k = matched_then book number term i room m (kept.match_rule book number term room m p) d in
            (k.0, k.1, λ more h o q. k.2 more h o (kept.build_left book number k.0 m.lengths more o q))
            );
      }

  pub demand_3 : Demand3 ops
  demand_3 =
      record {
        compiles = compiles_tree ops kept;
        finds = λ book tree term k i room o p. finds_by_tree ops kept book tree k term i room o (kept.match_tree tree term room o p);
      }
