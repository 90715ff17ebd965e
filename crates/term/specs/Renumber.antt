-- Document 01, "Renumbering": a pattern variable with the list ys under d abstractions, its body, and the part of a term that it stands for.
use Rattle.std.specs.Prelude.{ℕ, zero, suc, ◌+◌, ◌-◌, ◌≤◌, ◌≡◌, Bool, true, false, ◌&&◌, List, [], ◌∷◌, length, get_or, leb, eqb}
use Rattle.std.proofs.Math.Option.{Option, none, some}
use Rattle.term.specs.Word.{Head, symbol, abstraction, variable, pattern, pick}
use Rattle.term.specs.Row.{Row, nothing, node}

-- which j has yj = y, counted from 1; 0 where y is not in the list
abbrev pub position_b : Bool → ℕ → ℕ
position_b true p = 1
position_b false zero = 0
position_b false (suc p) = suc (suc p)

unfoldable pub position : ℕ → List ℕ → ℕ
position y [] = 0
position y (z ∷ zs) = position_b (eqb y z) (position y zs)

-- distinct ids within 1..d
unfoldable pub Listed : ℕ → List ℕ → Type 0
Listed d [] = Unit {0}
Listed d (y ∷ ys) = (1 ≤ y) × (y ≤ d) × (position y ys ≡ 0) × Listed d ys

-- the list of a pattern variable: at most 4 of them
pub record GoodList (d : ℕ) (ys : List ℕ) : Type 0 where
  pub few : length ys ≤ 4
  pub listed : Listed d ys

-- the same as a test
unfoldable pub listed : ℕ → List ℕ → Bool
listed d [] = true
listed d (y ∷ ys) = (leb 1 y && leb y d) && (eqb (position y ys) 0 && listed d ys)

unfoldable pub good_list : ℕ → List ℕ → Bool
good_list d ys = leb (length ys) 4 && listed d ys

-- the three cases of an id: one's own, a parameter or an abstraction passed, outside
abbrev pub three : Bool → Bool → ℕ → ℕ → ℕ → ℕ
three true b own inner outside = own
three false true own inner outside = inner
three false false own inner outside = outside

-- body to term: i ≤ e stays; e+j becomes e+yj; larger i becomes i−k+d
unfoldable pub id_term : ℕ → List ℕ → ℕ → ℕ → ℕ
id_term d ys e i = three (leb i e) (leb i (e + length ys)) i (e + get_or ys (i - e - 1) 0) (i - length ys + d)

-- e+j for the parameter j; no id where there is none
abbrev pub parameter : ℕ → ℕ → ℕ
parameter e zero = 0
parameter e (suc j) = e + suc j

-- term to body: i ≤ e stays; e < i ≤ e+d needs i−e = yj and becomes e+j; larger i becomes i−d+k. No variable has the id 0: it says that i−e is not in the list.
unfoldable pub id_body : ℕ → List ℕ → ℕ → ℕ → ℕ
id_body d ys e i = three (leb i e) (leb i (e + d)) i (parameter e (position (i - e) ys)) (i - d + length ys)

-- how many abstractions stand around the children of a head under e
unfoldable pub inside : Head → ℕ → ℕ
inside (symbol i c) e = e
inside abstraction e = suc e
inside (variable i) e = e
inside (pattern i c) e = e

-- each variable i under e abstractions of the row's own becomes m e i
unfoldable pub renumber_head : (ℕ → ℕ → ℕ) → ℕ → Head → Head
renumber_head m e (symbol i c) = symbol i c
renumber_head m e abstraction = abstraction
renumber_head m e (variable i) = variable (m e i)
renumber_head m e (pattern i c) = pattern i c

unfoldable pub renumber : (ℕ → ℕ → ℕ) → ℕ → Row → Row
renumber m e nothing = nothing
renumber m e (node h kids rest) = node (renumber_head m e h) (renumber m (inside h e) kids) (renumber m e rest)

-- each variable gets an id
unfoldable pub named_head : (ℕ → ℕ → ℕ) → ℕ → Head → Bool
named_head m e (symbol i c) = true
named_head m e abstraction = true
named_head m e (variable i) = leb 1 (m e i)
named_head m e (pattern i c) = true

unfoldable pub named : (ℕ → ℕ → ℕ) → ℕ → Row → Bool
named m e nothing = true
named m e (node h kids rest) = named_head m e h && (named m (inside h e) kids && named m e rest)

unfoldable pub to_term : ℕ → List ℕ → Row → Row
to_term d ys b = renumber (id_term d ys) 0 b

unfoldable pub closed : ℕ → List ℕ → Row → Bool
closed d ys t = named (id_body d ys) 0 t

unfoldable pub to_body : ℕ → List ℕ → Row → Option Row
to_body d ys t = pick (closed d ys t) (some (renumber (id_body d ys) 0 t)) none

-- no id is over 65,535: no id where it would be
unfoldable pub within : ℕ → ℕ
within i = pick (leb i 65535) i 0

unfoldable pub id_term_within : ℕ → List ℕ → ℕ → ℕ → ℕ
id_term_within d ys e i = within (id_term d ys e i)

-- no id passes 65,535 when a body is turned into a term
unfoldable pub ids_within : ℕ → List ℕ → Row → Bool
ids_within d ys b = named (id_term_within d ys) 0 b
