-- `first::head_block` meets its contract: the book is refused as compiling answers, or its tree is there and the head is written.
use native.Mathlib.Omega.{arith}
use mathlib.Core.Path.{◌≡◌}
use mathlib.Core.List.{[]}
use Rattle.compiler.specs.Compiled.{compile_answer, compile_words, compile_length}
use Rattle.compiler.proofs.Laws.{compile_parts}
use Rattle.simplify.proofs.FirstBlocks.{place_small, made, head_refused, head_made}
use Rattle.simplify.proofs.first.head_block.Goals.{After-compile-compiled}
use Rattle.simplify.proofs.first.head_block.Goals as goal

-- what compiling answered, wrote and counted
parts : (c : After-compile-compiled)
    → let r = c.compile-compiled in
    let book = c.args.book.now in
    (r.result.answer ≡ compile_answer 16384 book) × (r.new.out ≡ compile_words 16384 book) × (r.result.words ≡ compile_length 16384 book)
parts c = let r = c.compile-compiled in rw c.told-tree at (compile_parts _ _ r.result.answer r.result.words _ r.ensures)

pub write_refusal-requires : goal.write_refusal-requires
write_refusal-requires c =
    let p = parts (goal.at.write_refusal-requires c).After-compile-compiled in
    place_small c.args.book.now 0 [] [] [] _ p.0

pub returns-then-number-ge-FIRST_REFUSAL : goal.returns-then-number-ge-FIRST_REFUSAL
returns-then-number-ge-FIRST_REFUSAL c =
    let p = parts (goal.at.returns-then-number-ge-FIRST_REFUSAL c).After-compile-compiled in
    head_refused c.args.book.now c.args.at _ c.args.out.now _ _ p.0 c.write_refusal.result
    (omega (arith, c.number.ensures, c.if-number-ge-FIRST_REFUSAL.true)) c.write_refusal.ensures

pub write_head-requires : goal.write_head-requires
write_head-requires c =
    let p = parts (goal.at.write_head-requires c).After-compile-compiled in
    let m = made c.args.book.now 0 [] [] [] _ p.0 (omega (arith, c.number.ensures, c.if-number-ge-FIRST_REFUSAL.false)) in
    (c.requires.0, omega (arith, p.2, m.said, m.within))

pub returns : goal.returns
returns c =
    let p = parts (goal.at.returns c).After-compile-compiled in
    head_made c.args.book.now c.args.at _ c.args.out.now _ _ p.0 c.write_head.result c.compile-compiled.result.words
    (omega (arith, c.number.ensures, c.if-number-ge-FIRST_REFUSAL.false)) p.1 p.2 c.write_head.ensures
