-- What a crate above may cite of this one, and nothing else.

-- Where compiling is done, the output is the tree of an accepted book and then zeros, and the length said is the tree's.
pub use Rattle.compiler.proofs.CompiledDone.{TreeMade, done_made, compiled_lies, compiled_short}
-- All that compiling hands back gives its parts, and they give it.
pub use Rattle.compiler.proofs.Outcomes.{compile_parts, compile_came_lem}
-- Compiling, judgement by judgement: a bad book, a tree with room, and what is left of a refusal.
pub use Rattle.compiler.proofs.Judgements.{compile_answer_lem, compile_bad_book, compile_writes, compile_zeros}
