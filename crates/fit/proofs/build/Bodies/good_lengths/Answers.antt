-- `build::good_lengths` meets its contract: the sum, and then that each length after those of the variables is zero.
use Rattle.std.proofs.Common.{eqb, drop, ne_eqb, sym, ◌∙◌, rules, tests}
use Rattle.std.proofs.lemmas.Iterator.{YieldsList-from_slice}
use Rattle.std.proofs.lemmas.Iterator.Adapters.{YieldsList-from_skip}
use Rattle.std.proofs.lemmas.Iterator.Search.{all_from_yields_List}
use Rattle.fit.proofs.Lengths.{zeros_all, lengths_other, lengths_sum}
use Rattle.fit.proofs.build.Bodies.good_lengths.Goals as goal

pub returns-then-start_of-self : goal.returns-then-start_of-self
returns-then-start_of-self c =
    let s = c.args in
    all_from_yields_List (λ n. eqb n 0) _ _ _ c.all.ensures.ran (YieldsList-from_skip s.vars (YieldsList-from_slice s.self.now.lengths.now cc) (cc)) (λ x b q k. search (rules, tests))
    ∙ zeros_all (drop s.vars s.self.now.lengths.now) ∙ sym (lengths_sum s.vars s.self.now.words.now s.self.now.lengths.now (sym c.start_of.ensures ∙ c.if-start_of-self.true))

pub returns-else-start_of-self : goal.returns-else-start_of-self
returns-else-start_of-self c =
    let s = c.args in
    ne_eqb _ _ c.if-start_of-self.false ∙ lengths_other s.vars s.self.now.words.now s.self.now.lengths.now (λ e. c.if-start_of-self.false (c.start_of.ensures ∙ e))
