use Rattle.std.proofs.Common.{◌≡◌, ℕ, ◌+◌, ◌-◌, ◌*◌, ◌≤◌, List, ◌++◌, get_or, drop}
use Rattle.std.specs.Prelude.{Ok}
use Rattle.book.specs.Book.{judge}
use Rattle.text.specs.BookText.{rules_text}
use Rattle.text.proofs.Wrote.{Wrote}
use Rattle.text.proofs.write_book.write_rules.Given as goal

-- what was written and what is left are the rules
abbrev pub invariant-loop-number : goal.invariant-loop-number
invariant-loop-number l = record {
  near : l.to ≤ l.at + 2000 * l.number;
  inside : l.a ≤ 1 + 131 * l.number;
  good : judge l.number (get_or l.book 0 0 - l.number) (drop l.a l.book) ≡ Ok tt;
  bs : List ℕ;
  wrote : Wrote l.initial.out l.at l.to l.out bs;
  rest : rules_text 0 (get_or l.book 0 0) (drop 1 l.book) ≡ bs ++ rules_text l.number (get_or l.book 0 0 - l.number) (drop l.a l.book);
}
