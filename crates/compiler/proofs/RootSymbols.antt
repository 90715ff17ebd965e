-- The root of a row is a symbol, and the word at the row's first spot says which, and how many arguments it has.
use mathlib.Core.Path.{◌≡◌, ap, ◌∙◌}
use mathlib.Core.Bool.{true}
use mathlib.Core.List.{List, []}
use mathlib.Core.Option.{some}
use Prim.Native.Nat.{ℕ, ◌*◌, ◌<◌}
use lib.ListN.{get_or}
use Rattle.term.specs.Word.{Head, symbol, word, count_of, ident_of, InTable}
use Rattle.term.proofs.Laws.{count_word_lem, ident_word, count_symbol, ident_symbol}
use Rattle.book.specs.Book.{Rule, rule_at}
use Rattle.fit.specs.Left.{Left, part}
use Rattle.fit.specs.Front.{root_arguments}
use Rattle.fit.specs.Constraint.{Place}
use Rattle.fit.specs.Match.{left_in}
use Rattle.fit.proofs.Laws.{accepted_good, accepted_root, good_part, root_arguments_lem}
use Rattle.tree.specs.Path.{Uncovered, OnPath}
use Rattle.compiler.specs.Told.Tables.{is_free}
use Rattle.compiler.specs.Told.Stands.{LeftAt, Stands}

pub record RootSymbol (fixed : List ℕ) (r : ℕ) (left : Left) : Type 0 where
  pub ident : ℕ
  pub arguments : ℕ
  pub kids : Left
  pub rest : Left
  pub is : left ≡ part (symbol ident arguments) kids rest
  pub table : InTable (symbol ident arguments)
  pub idents : ident_of (get_or fixed (r * 64) 0) ≡ ident
  pub counts : count_of (get_or fixed (r * 64) 0) ≡ arguments
  pub arguments_are : root_arguments left ≡ arguments

word_there : (fixed nums : List ℕ) (us : List Uncovered) (k : ℕ) (p : Place) (i d : ℕ) (h : Head) (kids rest : Left) → LeftAt fixed nums us k p i d (part h kids rest) → get_or fixed k 0 ≡ word h
unfolding LeftAt
word_there fixed nums us k p i d h kids rest l = l.0

pub root_symbol_lem : (book fixed nums marks : List ℕ) (count : ℕ) (path : OnPath) → Stands book fixed nums marks count path → (r : ℕ) (rule : Rule) → r < 64 → is_free marks r ≡ true → rule_at book r ≡ some rule
    → RootSymbol fixed r (left_in rule)
root_symbol_lem book fixed nums marks count path s r rule low free is =
    let t = accepted_root book s.accepted r rule is in
    let h = symbol t.ident t.arguments in
    let g = good_part rule.vars 0 h t.kids t.rest (rw t.is at (accepted_good book s.accepted r rule is).good) in
    let w : get_or fixed (r * 64) 0 ≡ word h = word_there fixed nums path.uncovered (r * 64) [] 0 0 h t.kids t.rest (rw t.is at (s.rows r rule low free is).here) in
    record {
      ident = t.ident;
      arguments = t.arguments;
      kids = t.kids;
      rest = t.rest;
      is = t.is;
      table = g.0;
      idents = ap ident_of w ∙ ident_word h g.0 ∙ ident_symbol t.ident t.arguments;
      counts = ap count_of w ∙ count_word_lem h g.0 ∙ count_symbol t.ident t.arguments;
      arguments_are = ap root_arguments t.is ∙ root_arguments_lem h t.kids t.rest ∙ count_symbol t.ident t.arguments;
    }
