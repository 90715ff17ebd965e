-- The heads of the root Switch: each is in the table, and a head that some row covers, with at most 15 arguments, is among them.
use mathlib.Core.Path.{◌≡◌, refl, ◌∙◌}
use mathlib.Core.Bool.{Bool, true, false, ◌&&◌}
use mathlib.Core.List.{List, [], ◌∷◌, ◌++◌}
use mathlib.Core.Option.{Option, none, some}
use mathlib.Core.Logic.{◌⊎◌, inl, inr}
use Prim.Native.Nat.{ℕ, zero, suc, ◌+◌, ◌-◌, ◌≤◌, ◌<◌}
use native.Mathlib.Omega.{arith}
use native.Mathlib.Decide.{dec_le}
use lib.Dec.{eqb, leb}
use borrow.Author.Tests.{leb-true, leb-false, eqb-true, eqb-false, eq-eqb}
use Rattle.term.specs.Word.{Head, symbol, abstraction, variable, pattern, pick, InTable}
use Rattle.term.specs.Row.{Row}
use Rattle.term.proofs.Laws.{symbol_table, symbol_few}
use Rattle.fit.specs.Constraint.{is_head}
use Rattle.tree.specs.Rows.{RuleRow, head_here}
use Rattle.tree.specs.Root.{most_arguments, without_id, add_symbol, root_symbols, lesser, smallest, counts_from, heads_of, root_heads}
use Rattle.tree.proofs.Firsts.{NoHead}
use Rattle.tree.proofs.Finds.{InTables}

-- a row has the symbol with so many arguments at its root
abbrev pub Stands : ℕ → ℕ → List RuleRow → Type 0
Stands i b [] = ⊥
Stands i b (row ∷ rows) = (head_here row.left ≡ some (symbol i b)) ⊎ Stands i b rows

-- ---- its smallest count is no more
lesser_own : (i b n : ℕ) → lesser (some (symbol i b)) i n ≤ b
lesser_own i b n = rw (eq-eqb i i refl) (go (leb b n) refl)
  where
    go : (c : Bool) → leb b n ≡ c → pick c b n ≤ b
    go true e = omega arith
    go false e = omega (arith, leb-false b n e)

lesser_less : (o : Option Head) (i n : ℕ) → lesser o i n ≤ n
lesser_less none i n = omega arith
lesser_less (some (symbol j c)) i n = go (eqb j i) (leb c n) refl
  where
    go : (a b : Bool) → leb c n ≡ b → pick (a && b) c n ≤ n
    go true true e = leb-true c n e
    go true false e = omega arith
    go false b e = omega arith
lesser_less (some abstraction) i n = omega arith
lesser_less (some (variable j)) i n = omega arith
lesser_less (some (pattern j c)) i n = omega arith

pub smallest_less : (i b : ℕ) (rows : List RuleRow) → Stands i b rows → smallest i rows ≤ b
unfolding smallest
smallest_less i b [] s = absurd s
smallest_less i b (row ∷ rows) (inl e) = rw e (lesser_own i b (smallest i rows))
smallest_less i b (row ∷ rows) (inr s) = omega (arith, lesser_less (head_here row.left) i (smallest i rows), smallest_less i b rows s)

-- ---- it is among the symbols
abbrev HasId : ℕ → List ℕ → Type 0
HasId i [] = ⊥
HasId i (j ∷ js) = (j ≡ i) ⊎ HasId i js

without_has : (i j : ℕ) → eqb j i ≡ false → (ks : List ℕ) → HasId i ks → HasId i (without_id j ks)
unfolding without_id
without_has i j e [] h = absurd h
without_has i j e (k ∷ ks) h = go (eqb j k) refl h (without_has i j e ks)
  where
    go : (b : Bool) → eqb j k ≡ b → HasId i (k ∷ ks) → (HasId i ks → HasId i (without_id j ks)) → HasId i (pick b (without_id j ks) (k ∷ without_id j ks))
    go true q (inl z) r = absurd (eqb-false j i e (eqb-true j k q ∙ z))
    go true q (inr z) r = r z
    go false q (inl z) r = inl z
    go false q (inr z) r = inr (r z)

add_has : (i : ℕ) (o : Option Head) (is : List ℕ) → HasId i is → HasId i (add_symbol o is)
add_has i none is h = h
add_has i (some (symbol j c)) is h = go (eqb j i) refl
  where
    go : (b : Bool) → eqb j i ≡ b → HasId i (j ∷ without_id j is)
    go true e = inl (eqb-true j i e)
    go false e = inr (without_has i j e is h)
add_has i (some abstraction) is h = h
add_has i (some (variable j)) is h = h
add_has i (some (pattern j c)) is h = h

symbols_have : (i b : ℕ) (rows : List RuleRow) → Stands i b rows → HasId i (root_symbols rows)
unfolding root_symbols
symbols_have i b [] s = absurd s
symbols_have i b (row ∷ rows) (inl e) = rw e (inl refl)
symbols_have i b (row ∷ rows) (inr s) = add_has i (head_here row.left) (root_symbols rows) (symbols_have i b rows s)

-- ---- so where none of the heads stands, this one does not
no_left : (hs gs : List Head) (f : Row) → NoHead (hs ++ gs) f → NoHead hs f
no_left [] gs f n = tt
no_left (h ∷ hs) gs f n = (n.0, no_left hs gs f n.1)

no_right : (hs gs : List Head) (f : Row) → NoHead (hs ++ gs) f → NoHead gs f
no_right [] gs f n = n
no_right (h ∷ hs) gs f n = no_right hs gs f n.1

no_count : (f : Row) (i a more c : ℕ) → NoHead (counts_from i c more) f → c ≤ a → a < c + more → is_head (symbol i a) f ≡ false
unfolding counts_from
no_count f i a zero c n l h = absurd (omega arith)
no_count f i a (suc more) c n l h = go (dec_le (suc c) a) (λ q. no_count f i a more (suc c) n.1 q (omega arith))
  where
    go : Dec (suc c ≤ a) → (suc c ≤ a → is_head (symbol i a) f ≡ false) → is_head (symbol i a) f ≡ false
    go (yes q) r = r q
    go (no q) r = let z : c ≡ a = omega arith in rw z at n.0

no_head_of : (rows : List RuleRow) (f : Row) (i a : ℕ) → smallest i rows ≤ a → a ≤ most_arguments → (is : List ℕ) → HasId i is → NoHead (heads_of rows is) f → is_head (symbol i a) f ≡ false
unfolding heads_of
no_head_of rows f i a l m [] h n = absurd h
no_head_of rows f i a l m (j ∷ is) (inl e) n =
    let k : NoHead (counts_from i (smallest i rows) (suc most_arguments - smallest i rows)) f =
    rw e at (no_left (counts_from j (smallest j rows) (suc most_arguments - smallest j rows)) (heads_of rows is) f n) in
    no_count f i a (suc most_arguments - smallest i rows) (smallest i rows) k l (omega arith)
no_head_of rows f i a l m (j ∷ is) (inr h) n =
    no_head_of rows f i a l m is h (no_right (counts_from j (smallest j rows) (suc most_arguments - smallest j rows)) (heads_of rows is) f n)

pub no_root_head : (rows : List RuleRow) (f : Row) → NoHead (root_heads rows) f → (i b a : ℕ) → Stands i b rows → b ≤ a → a ≤ most_arguments → is_head (symbol i a) f ≡ false
unfolding root_heads
no_root_head rows f n i b a s l m =
    no_head_of rows f i a (omega (arith, smallest_less i b rows s, l)) m (root_symbols rows) (symbols_have i b rows s) n

-- ---- the heads are in the table
abbrev AllIds : List ℕ → Type 0
AllIds [] = Unit {0}
AllIds (i ∷ is) = (i ≤ 1023) × AllIds is

abbrev pub HeadIn : Option Head → Type 0
HeadIn none = Unit {0}
HeadIn (some h) = InTable h

-- the heads at the roots of rows are in the table
abbrev pub RootsIn : List RuleRow → Type 0
RootsIn [] = Unit {0}
RootsIn (row ∷ rows) = HeadIn (head_here row.left) × RootsIn rows

ids_without : (i : ℕ) (js : List ℕ) → AllIds js → AllIds (without_id i js)
unfolding without_id
ids_without i [] a = tt
ids_without i (j ∷ js) a = go (eqb i j) (ids_without i js a.1)
  where
    go : (b : Bool) → AllIds (without_id i js) → AllIds (pick b (without_id i js) (j ∷ without_id i js))
    go true r = r
    go false r = (a.0, r)

ids_add : (o : Option Head) → HeadIn o → (is : List ℕ) → AllIds is → AllIds (add_symbol o is)
ids_add none t is a = a
ids_add (some (symbol i c)) t is a = ((symbol_few i c t).1, ids_without i is a)
ids_add (some abstraction) t is a = a
ids_add (some (variable i)) t is a = a
ids_add (some (pattern i c)) t is a = a

root_ids : (rows : List RuleRow) → RootsIn rows → AllIds (root_symbols rows)
unfolding root_symbols
root_ids [] a = tt
root_ids (row ∷ rows) a = ids_add (head_here row.left) a.0 (root_symbols rows) (root_ids rows a.1)

tables_join : (hs gs : List Head) → InTables hs → InTables gs → InTables (hs ++ gs)
tables_join [] gs a b = b
tables_join (h ∷ hs) gs a b = (a.0, tables_join hs gs a.1 b)

counts_table : (i : ℕ) → i ≤ 1023 → (more c : ℕ) → c + more ≤ suc most_arguments → InTables (counts_from i c more)
unfolding counts_from
counts_table i l zero c m = tt
counts_table i l (suc more) c m = (symbol_table i c (omega arith) l, counts_table i l more (suc c) (omega arith))

counts_none : (i n : ℕ) → InTables (counts_from i n 0)
unfolding counts_from
counts_none i n = tt

counts_all : (i n : ℕ) → i ≤ 1023 → InTables (counts_from i n (suc most_arguments - n))
counts_all i n l = go (dec_le n (suc most_arguments))
  where
    go : Dec (n ≤ suc most_arguments) → InTables (counts_from i n (suc most_arguments - n))
    go (yes q) = counts_table i l (suc most_arguments - n) n (omega arith)
    go (no q) = let z : suc most_arguments - n ≡ 0 = omega arith in rw z (counts_none i n)

heads_table : (rows : List RuleRow) (is : List ℕ) → AllIds is → InTables (heads_of rows is)
unfolding heads_of
heads_table rows [] a = tt
heads_table rows (i ∷ is) a =
    tables_join (counts_from i (smallest i rows) (suc most_arguments - smallest i rows)) (heads_of rows is) (counts_all i (smallest i rows) a.0) (heads_table rows is a.1)

pub root_heads_table : (rows : List RuleRow) → RootsIn rows → InTables (root_heads rows)
unfolding root_heads
root_heads_table rows a = heads_table rows (root_symbols rows) (root_ids rows a)
