-- The list of a pattern variable: what is found in words is the row's.
use mathlib.Core.Path.{◌≡◌, refl, sym, ap}
use mathlib.Core.Bool.{Bool, true, false}
use mathlib.Core.List.{List, ◌++◌}
use mathlib.Core.Option.{Option, none, some}
use Prim.Native.Nat.{ℕ, suc, ◌≤◌, ◌<◌}
use native.Mathlib.Omega.{arith}
use lib.Dec.{leb}
use lib.ListN.{length}
use borrow.Author.Tests.{le-leb, leb-false}
use Rattle.term.specs.Word.{Head, symbol, abstraction, variable, pattern, pick}
use Rattle.term.specs.Row.{Row, nothing, node, width, words, Formed}
use Rattle.term.specs.Renumber.{good_list}
use Rattle.term.proofs.Laws.{never, width_nothing, width_node, good_true}
use Rattle.book.specs.Rule.{id_before, ids_of, list_for}
use Rattle.book.specs.Told.Ids.{variable_ids, list_in}
use Rattle.book.proofs.SideLaws.{ids_row, ids_length}

-- an id for each tree
abbrev AsManyO : Row → Option (List ℕ) → Type 0
AsManyO kids none = Unit {0}
AsManyO kids (some ys) = length ys ≡ width kids

as_many_head : (h : Head) (kids rest : Row) (o : Option (List ℕ)) → AsManyO rest o → AsManyO (node h kids rest) (id_before h o)
as_many_head (symbol i c) kids rest o e = tt
as_many_head abstraction kids rest o e = tt
as_many_head (variable i) kids rest none e = tt
as_many_head (variable i) kids rest (some ys) e = rw (width_node (variable i) kids rest) (ap suc e)
as_many_head (pattern i c) kids rest o e = tt

as_many : (kids : Row) → AsManyO kids (ids_of kids)
unfolding ids_of
as_many nothing = sym width_nothing
as_many (node h kids rest) = as_many_head h kids rest (ids_of rest) (as_many rest)

-- a row of variables has an id for each tree, and a word
pub ids_counted : (kids : Row) → Formed kids → (ys : List ℕ) → ids_of kids ≡ some ys → (length ys ≡ width kids) × (length (words kids) ≡ width kids)
ids_counted kids f ys e = (rw e at (as_many kids), ids_length kids ys f e)

list_some : (d : ℕ) (o : Option (List ℕ)) → list_for d o ≡ true → (ys : List ℕ) × (o ≡ some ys) × (good_list d ys ≡ true)
list_some d none e = never (cc)
list_some d (some ys) e = (ys, refl, e)

-- more than four are no list, whatever they are
list_long : (d : ℕ) (kids : Row) → Formed kids → 4 < width kids → list_for d (ids_of kids) ≡ false
list_long d kids f h = go (list_for d (ids_of kids)) refl
  where
    go : (b : Bool) → list_for d (ids_of kids) ≡ b → b ≡ false
    go true e =
        let s = list_some d (ids_of kids) e in
        absurd (omega (arith, (good_true d s.0 s.2).few, ids_counted kids f s.0 s.1))
    go false e = refl

-- the list found where a row lies is the row's
pub list_row_lem : (d : ℕ) (kids : Row) → Formed kids → (after : List ℕ) → list_for d (list_in (width kids) (words kids ++ after)) ≡ list_for d (ids_of kids)
unfolding list_in
list_row_lem d kids f after = go (leb (width kids) 4) refl
  where
    go : (b : Bool) → leb (width kids) 4 ≡ b → list_for d (pick b (variable_ids (width kids) (words kids ++ after)) none) ≡ list_for d (ids_of kids)
    go true e = rw (ids_row kids after f)
    go false e = sym (list_long d kids f (leb-false (width kids) 4 e))

pub list_found : (kids : Row) → Formed kids → width kids ≤ 4 → (after : List ℕ) → list_in (width kids) (words kids ++ after) ≡ ids_of kids
unfolding list_in
list_found kids f few after = rw (le-leb (width kids) 4 few) (ids_row kids after f)

pub list_counted : (d : ℕ) (kids : Row) → Formed kids → list_for d (ids_of kids) ≡ true → length (words kids) ≡ width kids
list_counted d kids f e = let s = list_some d (ids_of kids) e in (ids_counted kids f s.0 s.1).1
