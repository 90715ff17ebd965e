-- The sum is that of the lengths before, and each of them is a word.
use Rattle.std.proofs.Common.{rules, tests, of_calls, ◌≡◌, ◌≤◌, ◌*◌, ◌∙◌, take, arith}
use Rattle.std.specs.List.{sum_by}
use Rattle.std.proofs.lemmas.Iterator.{YieldsList-from_slice, YieldsList-from_map}
use Rattle.std.proofs.lemmas.Iterator.Consumers.{sum_by_from_yields_List, fits_by_from_yields_list}
use Rattle.fit.specs.Build.{start_of}
use Rattle.fit.proofs.Lengths.{summed, start_small}
use Rattle.fit.proofs.build.start_of.Goals as goal

pub sum-requires : goal.sum-requires
sum-requires c =
    let ns = take c.args.x c.args.lengths.now in
    let all : sum_by (λ n. n) ns ≡ start_of c.args.lengths.now c.args.x = summed c.args.lengths.now c.args.x (omega arith) in
    let small : start_of c.args.lengths.now c.args.x ≤ c.args.x * 4294967295 = start_small c.args.lengths.now c.args.x (λ i. omega (arith, c.type_inv.lengths i)) in
    record {
      can = search of_calls;
      finite = search of_calls;
      fits = fits_by_from_yields_list (λ n. n) ns c.map.result 18446744073709551616
          (YieldsList-from_map _ (λ n. n) (YieldsList-from_slice ns cc) c.map.ensures.closure (λ x r q k. search (rules, tests)))
          (rw all (omega (arith, small)));
    }

pub returns : goal.returns
returns c =
    let ns = take c.args.x c.args.lengths.now in
    sum_by_from_yields_List (λ n. n) ns c.map.result _ c.sum.ensures.ran
    (YieldsList-from_map _ (λ n. n) (YieldsList-from_slice ns cc) c.map.ensures.closure (λ x r q k. search (rules, tests)))
    ∙ summed c.args.lengths.now c.args.x (omega arith)
