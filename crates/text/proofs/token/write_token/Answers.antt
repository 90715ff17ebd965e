-- `token::write_token` meets its contract: the rank tells the letter and what follows it.
use Rattle.std.proofs.Common.{arith, sym, ◌∙◌}
use Rattle.text.proofs.KindTexts.{symbol_text, abstraction_text, variable_text, pattern_text, no_text}
use Rattle.text.proofs.Wrote.{wrote_first, wrote_byte, wrote_nothing}
use Rattle.text.proofs.token.write_token.Goals as goal

pub returns-in-0 : goal.returns-in-0
returns-in-0 c = rw (symbol_text c.args.w (sym c.table_rank.ensures ∙ c.in-0.is)) (wrote_first _ _ _ _ c.put.new.out _ _ c.put.ensures c.write_dotted.ensures)

pub returns-in-1 : goal.returns-in-1
returns-in-1 c = rw (abstraction_text c.args.w (sym c.table_rank.ensures ∙ c.in-1.is)) (wrote_byte _ _ _ _ c.put-in-1.ensures)

pub returns-in-2 : goal.returns-in-2
returns-in-2 c = rw (variable_text c.args.w (sym c.table_rank.ensures ∙ c.in-2.is)) (wrote_first _ _ _ _ c.put-in-2.new.out _ _ c.put-in-2.ensures (rw c.id_of.ensures at c.write_number.ensures))

pub returns-in-3 : goal.returns-in-3
returns-in-3 c = rw (pattern_text c.args.w (sym c.table_rank.ensures ∙ c.in-3.is)) (wrote_first _ _ _ _ c.put-in-3.new.out _ _ c.put-in-3.ensures c.write_dotted-in-3.ensures)

pub returns-in_default : goal.returns-in_default
returns-in_default c =
    rw (no_text c.args.w (λ e. omega (arith, e, c.table_rank.ensures)) (λ e. omega (arith, e, c.table_rank.ensures)) (λ e. omega (arith, e, c.table_rank.ensures)) (λ e. omega (arith, e, c.table_rank.ensures)))
    (wrote_nothing _ _)
