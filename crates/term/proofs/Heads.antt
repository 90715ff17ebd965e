-- What renumbering does to each head, and what is said of every variable of a row, node by node, for a crate that does not open them.
use mathlib.Core.Path.{◌≡◌, refl}
use Prim.Native.Nat.{ℕ}
use Rattle.term.specs.Word.{Head, symbol, abstraction, variable, pattern, InTable}
use Rattle.term.specs.Row.{Row, node}
use Rattle.term.specs.Renumber.{inside, renumber_head}
use Rattle.term.proofs.Renumbers.{EveryHead, Every, IsId}

pub renumber_symbol : (m : ℕ → ℕ → ℕ) (e i c : ℕ) → renumber_head m e (symbol i c) ≡ symbol i c
unfolding renumber_head
renumber_symbol m e i c = refl

pub renumber_abstraction : (m : ℕ → ℕ → ℕ) (e : ℕ) → renumber_head m e abstraction ≡ abstraction
unfolding renumber_head
renumber_abstraction m e = refl

pub renumber_variable : (m : ℕ → ℕ → ℕ) (e i : ℕ) → renumber_head m e (variable i) ≡ variable (m e i)
unfolding renumber_head
renumber_variable m e i = refl

pub renumber_pattern : (m : ℕ → ℕ → ℕ) (e i c : ℕ) → renumber_head m e (pattern i c) ≡ pattern i c
unfolding renumber_head
renumber_pattern m e i c = refl

pub inside_variable : (i e : ℕ) → inside (variable i) e ≡ e
unfolding inside
inside_variable i e = refl

pub variable_id : (i : ℕ) → InTable (variable i) → IsId i
unfolding InTable
variable_id i t = t

pub id_variable : (i : ℕ) → IsId i → InTable (variable i)
unfolding InTable
id_variable i t = t

pub every_parts : (P : ℕ → ℕ → Type 0) (e : ℕ) (h : Head) (kids rest : Row) → Every P e (node h kids rest) → EveryHead P e h × Every P (inside h e) kids × Every P e rest
unfolding Every
every_parts P e h kids rest p = p
