-- The clauses of the definitions on rules, as equations, for a crate that does not open them.
use mathlib.Core.Path.{◌≡◌, refl}
use mathlib.Core.Bool.{true, false, ◌&&◌}
use mathlib.Core.List.{[]}
use mathlib.Core.Option.{some}
use Prim.Native.Nat.{ℕ, suc}
use lib.Dec.{leb}
use Rattle.term.specs.Word.{Head, symbol, abstraction, variable, pattern}
use Rattle.term.specs.Row.{Row, nothing, node}
use Rattle.book.specs.Rule.{id_before, ids_of, list_for, left_shape, root_symbol, right_shape}

pub ids_nothing : ids_of nothing ≡ some []
unfolding ids_of
ids_nothing = refl

pub ids_node : (h : Head) (kids rest : Row) → ids_of (node h kids rest) ≡ id_before h (ids_of rest)
unfolding ids_of
ids_node h kids rest = refl

pub left_nothing : (d : ℕ) → left_shape d nothing ≡ true
unfolding left_shape
left_nothing d = refl

pub left_symbol : (d i c : ℕ) (kids rest : Row) → left_shape d (node (symbol i c) kids rest) ≡ left_shape d kids && left_shape d rest
unfolding left_shape
left_symbol d i c kids rest = refl

pub left_abstraction : (d : ℕ) (kids rest : Row) → left_shape d (node abstraction kids rest) ≡ left_shape (suc d) kids && left_shape d rest
unfolding left_shape
left_abstraction d kids rest = refl

pub left_variable : (d i : ℕ) (kids rest : Row) → left_shape d (node (variable i) kids rest) ≡ false
unfolding left_shape
left_variable d i kids rest = refl

pub left_pattern : (d i c : ℕ) (kids rest : Row) → left_shape d (node (pattern i c) kids rest) ≡ list_for d (ids_of kids) && left_shape d rest
unfolding left_shape
left_pattern d i c kids rest = refl

pub root_nothing : root_symbol nothing ≡ false
unfolding root_symbol
root_nothing = refl

pub root_symbol_lem : (i c : ℕ) (kids rest : Row) → root_symbol (node (symbol i c) kids rest) ≡ true
unfolding root_symbol
root_symbol_lem i c kids rest = refl

pub root_abstraction : (kids rest : Row) → root_symbol (node abstraction kids rest) ≡ false
unfolding root_symbol
root_abstraction kids rest = refl

pub root_variable : (i : ℕ) (kids rest : Row) → root_symbol (node (variable i) kids rest) ≡ false
unfolding root_symbol
root_variable i kids rest = refl

pub root_pattern : (i c : ℕ) (kids rest : Row) → root_symbol (node (pattern i c) kids rest) ≡ false
unfolding root_symbol
root_pattern i c kids rest = refl

pub right_nothing : (d : ℕ) → right_shape d nothing ≡ true
unfolding right_shape
right_nothing d = refl

pub right_symbol : (d i c : ℕ) (kids rest : Row) → right_shape d (node (symbol i c) kids rest) ≡ right_shape d kids && right_shape d rest
unfolding right_shape
right_symbol d i c kids rest = refl

pub right_abstraction : (d : ℕ) (kids rest : Row) → right_shape d (node abstraction kids rest) ≡ right_shape (suc d) kids && right_shape d rest
unfolding right_shape
right_abstraction d kids rest = refl

pub right_variable : (d i : ℕ) (kids rest : Row) → right_shape d (node (variable i) kids rest) ≡ leb i d && right_shape d rest
unfolding right_shape
right_variable d i kids rest = refl

pub right_pattern : (d i c : ℕ) (kids rest : Row) → right_shape d (node (pattern i c) kids rest) ≡ right_shape d kids && right_shape d rest
unfolding right_shape
right_pattern d i c kids rest = refl

pub ruleset rule-clauses = (
  ids_nothing,
  ids_node,
  left_nothing,
  left_symbol,
  left_abstraction,
  left_variable,
  left_pattern,
  root_nothing,
  root_symbol_lem,
  root_abstraction,
  root_variable,
  root_pattern,
  right_nothing,
  right_symbol,
  right_abstraction,
  right_variable,
  right_pattern,
)
