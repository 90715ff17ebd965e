-- The clauses of the definitions on rows, as equations, for a crate that does not open them.
use mathlib.Core.Path.{◌≡◌, refl}
use mathlib.Core.List.{List, [], ◌∷◌, ◌++◌}
use Prim.Native.Nat.{ℕ, suc, max, ◌≤◌}
use native.Mathlib.Omega.{arith}
use Rattle.term.specs.Word.{Head, symbol, abstraction, variable, pattern, kind, rank, count, ident, word, InTable}
use Rattle.term.specs.Row.{Row, nothing, node, width, words, nesting, ranks, Formed, ◌⧺◌}
use Rattle.term.specs.Renumber.{inside, renumber_head, renumber, to_term, id_term}

pub kind_symbol : (i c : ℕ) → kind (symbol i c) ≡ 0
unfolding kind
kind_symbol i c = refl

pub kind_abstraction : kind abstraction ≡ 1
unfolding kind
kind_abstraction = refl

pub kind_variable : (i : ℕ) → kind (variable i) ≡ 2
unfolding kind
kind_variable i = refl

pub kind_pattern : (i c : ℕ) → kind (pattern i c) ≡ 3
unfolding kind
kind_pattern i c = refl

pub rank_symbol : (i c : ℕ) → rank (symbol i c) ≡ 0
unfolding rank
rank_symbol i c = refl

pub rank_abstraction : rank abstraction ≡ 1
unfolding rank
rank_abstraction = refl

pub rank_variable : (i : ℕ) → rank (variable i) ≡ 2
unfolding rank
rank_variable i = refl

pub rank_pattern : (i c : ℕ) → rank (pattern i c) ≡ 3
unfolding rank
rank_pattern i c = refl

-- what is of a term has no pattern variable's kind
pub no_pattern : (h : Head) → rank h ≤ 2 → kind h ≡ 3 → ⊥
unfolding rank kind
no_pattern (symbol i c) r k = omega arith
no_pattern abstraction r k = omega arith
no_pattern (variable i) r k = omega arith
no_pattern (pattern i c) r k = omega arith

pub count_symbol : (i c : ℕ) → count (symbol i c) ≡ c
unfolding count
count_symbol i c = refl

pub count_abstraction : count abstraction ≡ 1
unfolding count
count_abstraction = refl

pub count_variable : (i : ℕ) → count (variable i) ≡ 0
unfolding count
count_variable i = refl

pub count_pattern : (i c : ℕ) → count (pattern i c) ≡ c
unfolding count
count_pattern i c = refl

pub ident_variable : (i : ℕ) → ident (variable i) ≡ i
unfolding ident
ident_variable i = refl

pub ident_pattern : (i c : ℕ) → ident (pattern i c) ≡ i
unfolding ident
ident_pattern i c = refl

pub inside_symbol : (i c e : ℕ) → inside (symbol i c) e ≡ e
unfolding inside
inside_symbol i c e = refl

pub inside_abstraction : (e : ℕ) → inside abstraction e ≡ suc e
unfolding inside
inside_abstraction e = refl

pub inside_pattern : (x c e : ℕ) → inside (pattern x c) e ≡ e
unfolding inside
inside_pattern x c e = refl

pub ruleset head-clauses = (
  kind_symbol,
  kind_abstraction,
  kind_variable,
  kind_pattern,
  rank_symbol,
  rank_abstraction,
  rank_variable,
  rank_pattern,
  count_symbol,
  count_abstraction,
  count_variable,
  count_pattern,
  ident_variable,
  ident_pattern,
  inside_symbol,
  inside_abstraction,
)

pub pattern_few : (x c : ℕ) → InTable (pattern x c) → (c ≤ 4) × (x ≤ 15)
unfolding InTable
pattern_few x c t = t

pub abstraction_in_table : InTable abstraction
unfolding InTable
abstraction_in_table = tt

pub words_nothing : words nothing ≡ []
unfolding words
words_nothing = refl

pub words_node : (h : Head) (kids rest : Row) → words (node h kids rest) ≡ word h ∷ (words kids ++ words rest)
unfolding words
words_node h kids rest = refl

pub width_nothing : width nothing ≡ 0
unfolding width
width_nothing = refl

pub width_node : (h : Head) (kids rest : Row) → width (node h kids rest) ≡ suc (width rest)
unfolding width
width_node h kids rest = refl

pub nesting_nothing : nesting nothing ≡ 0
unfolding nesting
nesting_nothing = refl

pub nesting_node : (h : Head) (kids rest : Row) → nesting (node h kids rest) ≡ max (suc (nesting kids)) (nesting rest)
unfolding nesting
nesting_node h kids rest = refl

pub ranks_nothing : ranks nothing ≡ 0
unfolding ranks
ranks_nothing = refl

pub ranks_node : (h : Head) (kids rest : Row) → ranks (node h kids rest) ≡ max (rank h) (max (ranks kids) (ranks rest))
unfolding ranks
ranks_node h kids rest = refl

pub join_nothing_left : (g : Row) → nothing ⧺ g ≡ g
unfolding ◌⧺◌
join_nothing_left g = refl

pub join_node : (h : Head) (kids rest g : Row) → node h kids rest ⧺ g ≡ node h kids (rest ⧺ g)
unfolding ◌⧺◌
join_node h kids rest g = refl

pub renumber_nothing : (m : ℕ → ℕ → ℕ) (e : ℕ) → renumber m e nothing ≡ nothing
unfolding renumber
renumber_nothing m e = refl

pub renumber_node : (m : ℕ → ℕ → ℕ) (e : ℕ) (h : Head) (kids rest : Row)
    → renumber m e (node h kids rest) ≡ node (renumber_head m e h) (renumber m (inside h e) kids) (renumber m e rest)
unfolding renumber
renumber_node m e h kids rest = refl

pub term_is : (d : ℕ) (ys : List ℕ) (b : Row) → to_term d ys b ≡ renumber (id_term d ys) 0 b
unfolding to_term
term_is d ys b = refl

pub ruleset row-clauses = (
  words_nothing,
  words_node,
  width_nothing,
  width_node,
  nesting_nothing,
  nesting_node,
  ranks_nothing,
  ranks_node,
  join_nothing_left,
  join_node,
)

-- a node of the table, with as many children as it counts
pub record FormedNode (h : Head) (kids rest : Row) : Type 0 where
  pub table : InTable h
  pub full : width kids ≡ count h
  pub below : Formed kids
  pub beside : Formed rest

pub formed_nothing : Formed nothing
unfolding Formed
formed_nothing = tt

pub formed_node : (h : Head) (kids rest : Row) → Formed (node h kids rest) → FormedNode h kids rest
unfolding Formed
formed_node h kids rest p = record { table = p.0; full = p.1; below = p.2; beside = p.3 }

pub node_formed : (h : Head) (kids rest : Row) → FormedNode h kids rest → Formed (node h kids rest)
unfolding Formed
node_formed h kids rest p = (p.table, p.full, p.below, p.beside)
