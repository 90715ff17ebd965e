-- The root Switch finds the first row that fits the term without the arguments set aside: below the root a row asks nothing of the arguments beyond its own,
-- and what it asks of its own it asks of the front as of the term.
use mathlib.Core.Path.{◌≡◌, refl, sym, ap, ap₂, ◌∙◌, fun_ext}
use mathlib.Core.Bool.{Bool, true, false, ◌&&◌}
use mathlib.Core.List.{List, [], ◌∷◌, ◌++◌}
use mathlib.Core.Option.{Option, none, some}
use mathlib.Core.Logic.{inl, inr}
use Prim.Native.Nat.{ℕ, zero, suc, ◌+◌, ◌≤◌, ◌<◌}
use native.Mathlib.Omega.{arith}
use lib.Dec.{ltb}
use lib.ListN.{get_or}
use borrow.Author.Tests.{eq-eqb, eqb-true}
use Rattle.std.specs.Prelude.{Ok}
use Rattle.term.specs.Word.{Head, symbol, word, count, pick, InTable}
use Rattle.term.specs.Row.{Row, nothing, node, width, Formed, firsts}
use Rattle.term.specs.Part.{is_some, same_o}
use Rattle.term.specs.Renumber.{inside}
use Rattle.term.proofs.Laws.{never, count_symbol, inside_symbol, symbol_few, formed_node, width_nothing}
use Rattle.book.specs.Book.{Rule, check_book, rule_at}
use Rattle.fit.specs.Left.{Left, end, hole, part, wide}
use Rattle.fit.specs.Fit.{matching}
use Rattle.fit.specs.Match.{left_in}
use Rattle.fit.specs.Front.{root_arguments, front, aside, matching_front, covers}
use Rattle.fit.specs.Constraint.{Place, tree, under, tree_at, is_head, shape_fits, Occurrence, occurrences, first_of, Constraint, closed_at, same_at, constraints, body_here}
use Rattle.fit.specs.Lowest.{Fitting, or_next}
use Rattle.fit.proofs.Laws.{GoodRule, accepted_good, Each, each_join, first_each, Names, EachNames, constraints_name, good_part, wide_end, wide_hole, wide_part, shape_end, shape_hole, shape_part, under_root, at_child, tree_first, head_node, occurrences_end, occurrences_part}
use Rattle.fit.proofs.Laws.{front_symbol, aside_node, front_formed, width_front, matching_front_lem, root_arguments_lem, Through, through_argument, tree_front, under_front, tree_at_front, shape_front, through_each, SymbolRoot, accepted_root, uncovered_none, CoveredAs, covered_as}
use Rattle.tree.specs.Told.Covered.{Waiting, Covered}
use Rattle.tree.specs.Path.{place_numbered, children_from, marked, enter, root, start}
use Rattle.tree.specs.Rows.{RuleRow, sub, below, subs_under, head_here, constraints_left}
use Rattle.tree.specs.Compile.{entering, compile, row_then, book_rows}
use Rattle.tree.specs.Find.{root_part, part_of, inside_of, enter_part, body_or}
use Rattle.tree.specs.Root.{root_heads, setting_aside, root_case_rows, root_cases, root_tree, book_tree}
use Rattle.tree.proofs.Basics.{same_head}
use Rattle.tree.proofs.Clauses.{inside_of_lem}
use Rattle.tree.proofs.Subs.{subs_from, from_hole, from_part, from_start}
use Rattle.tree.proofs.Parts.{depth_under, depth_at, parts_at, enter_parts, body_there}
use Rattle.tree.proofs.Fits.{open_fits, sub_hole, sub_part, child_open, no_children_open}
use Rattle.tree.proofs.Holds.{holds_in, all_in, unstruck_none}
use Rattle.tree.proofs.Covers.{waiting_after, child_waits, children_covered}
use Rattle.tree.proofs.Firsts.{Live, AllLive, row_fits, first_body, row_bodies, or_first, fitting, first_fit, NoHead}
use Rattle.tree.proofs.Finds.{find, find_case, InTables, entering_places, find_first}
use Rattle.tree.proofs.Books.{AllGood, first_match, live_start, root_parts, start_open, first_match_lem, good_rows}
use Rattle.tree.proofs.RootHeads.{Stands, no_root_head, HeadIn, RootsIn, root_heads_table}

-- the first row whose left side fits the term without the arguments set aside
unfoldable pub first_front : Row → List RuleRow → Option Fitting
first_front t [] = none
first_front t (row ∷ rows) = or_next row.number (aside (root_arguments row.left) t) (matching_front row.left t) (first_front t rows)

-- ---- the root of a good rule
-- a symbol with as many sub-patterns as it counts, and nothing beside it
pub record Rooted (left : Left) : Type 0 where
  pub ident : ℕ
  pub arguments : ℕ
  pub kids : Left
  pub is : left ≡ part (symbol ident arguments) kids end
  pub full : wide kids ≡ arguments
  pub table : InTable (symbol ident arguments)

none_beside : (k : Left) → wide k ≡ 0 → k ≡ end
none_beside end e = refl
none_beside (hole x ys rest) e = absurd (omega (arith, wide_hole x ys rest, e))
none_beside (part h kids rest) e = absurd (omega (arith, wide_part h kids rest, e))

pub rooted : (vars : ℕ) (left : Left) → GoodRule vars left → SymbolRoot left → Rooted left
rooted vars left g s =
    let h = symbol s.ident s.arguments in
    let q = good_part vars 0 h s.kids s.rest (rw s.is at g.good) in
    let o : wide (part h s.kids s.rest) ≡ 1 = rw s.is at g.one in
    record {
      ident = s.ident;
      arguments = s.arguments;
      kids = s.kids;
      is = s.is ∙ ap (part h s.kids) (none_beside s.rest (omega (arith, wide_part h s.kids s.rest, o)));
      full = q.1 ∙ count_symbol s.ident s.arguments;
      table = q.0;
    }

-- ---- open places: nothing is asked of children beyond the row's own
wider_open : (t : Row) (left : Left) (p : Place) (i : ℕ) (k : Left) → subs_from i (subs_under left p) ≡ k → (c : ℕ) → wide k ≤ c → open_fits t left (children_from p i c) ≡ shape_fits t p i k
wider_open t left p i end e c l = no_children_open t left p i c e ∙ sym (shape_end t p i)
wider_open t left p i (hole x ys rest) e zero l = absurd (omega (arith, wide_hole x ys rest, l))
wider_open t left p i (hole x ys rest) e (suc c) l =
    let a = from_hole (subs_under left p) i x ys rest e in
    rw (child_open t left p i c, a.0, sub_hole t (i ∷ p) x ys end, shape_hole t p i x ys rest)
    (wider_open t left p (suc i) rest a.1 c (omega (arith, wide_hole x ys rest, l)))
wider_open t left p i (part h kids rest) e zero l = absurd (omega (arith, wide_part h kids rest, l))
wider_open t left p i (part h kids rest) e (suc c) l =
    let a = from_part (subs_under left p) i h kids rest e in
    rw (
      child_open t left p i c,
      a.0,
      sub_part t (i ∷ p) h kids end,
      shape_part t p i h kids rest,
      wider_open t left p (suc i) rest a.1 c (omega (arith, wide_part h kids rest, l)),
    )

entered_open : (t : Row) (left : Left) (c : ℕ) → open_fits t left (enter 0 c (root ∷ [])) ≡ open_fits t left (children_from (0 ∷ []) 0 c)
unfolding open_fits enter marked place_numbered
entered_open t left c = refl

root_subs : (h : Head) (kids rest : Left) → subs_under (part h kids rest) (0 ∷ []) ≡ kids
unfolding subs_under below sub
root_subs h kids rest = refl

-- the arguments of the root stay
stays : (b : ℕ) (kids : Left) → wide kids ≡ b → (j : ℕ) → j < 0 + wide kids → Through b (j ∷ 0 ∷ [])
stays b kids n j l = through_argument b j (omega (arith, n, l))

-- the shape of a left side whose root stands there
shape_root : (f : Row) (h : Head) (ts rs : Row) → f ≡ node h ts rs → (kids : Left) → shape_fits f [] 0 (part h kids end) ≡ shape_fits f (0 ∷ []) 0 kids
shape_root f h ts rs e kids =
    let a : tree_at f (0 ∷ []) ≡ node h ts nothing = at_child f 0 [] ∙ ap (λ (g : Row). tree g 0) (under_root f ∙ e) ∙ tree_first h ts rs in
    let z : is_head h (tree_at f (0 ∷ [])) ≡ true = ap (is_head h) a ∙ head_node h h ts nothing ∙ eq-eqb (word h) (word h) refl in
    shape_part f [] 0 h kids end ∙ rw (z, shape_end f [] 1) (and_last (shape_fits f (0 ∷ []) 0 kids))
  where
    and_last : (a : Bool) → (true && a) && true ≡ a
    and_last true = refl
    and_last false = refl

one_wide : (h : Head) (kids : Left) → wide (part h kids end) ≡ 1
one_wide h kids = wide_part h kids end ∙ ap suc wide_end

open_front : (j b a : ℕ) (ts rs : Row) → b ≤ a → (kids : Left) → wide kids ≡ b
    → open_fits (node (symbol j a) ts rs) (part (symbol j b) kids end) (enter 0 a (root ∷ [])) ≡ open_fits (front b (node (symbol j a) ts rs)) (part (symbol j b) kids end) (root ∷ [])
open_front j b a ts rs l kids n =
    entered_open (node (symbol j a) ts rs) (part (symbol j b) kids end) a
    ∙ wider_open (node (symbol j a) ts rs) (part (symbol j b) kids end) (0 ∷ []) 0 kids (from_start (subs_under (part (symbol j b) kids end) (0 ∷ [])) ∙ root_subs (symbol j b) kids end) a (omega (arith, n, l))
    ∙ sym (shape_front b (node (symbol j a) ts rs) (0 ∷ []) 0 kids (stays b kids n))
    ∙ sym (shape_root (front b (node (symbol j a) ts rs)) (symbol j b) (firsts b ts) rs (front_symbol b j a ts rs l) kids)
    ∙ sym (start_open (front b (node (symbol j a) ts rs)) (part (symbol j b) kids end) (one_wide (symbol j b) kids))

-- ---- bodies at places below the arguments that stay
depth_node : (h : Head) (ts rs : Row) → depth_under (node h ts rs) (0 ∷ []) ≡ inside h 0
unfolding depth_under
depth_node h ts rs = rw (under_root (node h ts rs), tree_first h ts rs) (inside_of_lem h ts nothing 0)

pub same_depth : (j b a : ℕ) (ts rs : Row) → b ≤ a → depth_under (front b (node (symbol j a) ts rs)) (0 ∷ []) ≡ depth_under (node (symbol j a) ts rs) (0 ∷ [])
same_depth j b a ts rs l =
    ap (λ (f : Row). depth_under f (0 ∷ [])) (front_symbol b j a ts rs l)
    ∙ depth_node (symbol j b) (firsts b ts) rs ∙ inside_symbol j b 0 ∙ sym (depth_node (symbol j a) ts rs ∙ inside_symbol j a 0)

module _ (b : ℕ) (t : Row) (d : depth_under (front b t) (0 ∷ []) ≡ depth_under t (0 ∷ [])) where
  depth_more : (i : ℕ) (p : Place) → tree (under (front b t) p) i ≡ tree (under t p) i → depth_under (front b t) p ≡ depth_under t p → depth_under (front b t) (i ∷ p) ≡ depth_under t (i ∷ p)
  unfolding depth_under
  depth_more i p e q = ap₂ inside_of e q

  depth_inner : (k : ℕ) → k < b → (q : Place) → depth_under (front b t) (q ++ (k ∷ 0 ∷ [])) ≡ depth_under t (q ++ (k ∷ 0 ∷ []))
  depth_inner k l [] = depth_more k (0 ∷ []) (tree_front b k l t) d
  depth_inner k l (i ∷ q) =
      depth_more i (q ++ (k ∷ 0 ∷ [])) (ap (λ (f : Row). tree f i) (under_front b t (q ++ (k ∷ 0 ∷ [])) (record { inner = q; argument = k; few = l; is = refl }))) (depth_inner k l q)

  depth_at_inner : (k : ℕ) → k < b → (q : Place) → depth_at (front b t) (q ++ (k ∷ 0 ∷ [])) ≡ depth_at t (q ++ (k ∷ 0 ∷ []))
  unfolding depth_at
  depth_at_inner k l [] = d
  depth_at_inner k l (i ∷ q) = depth_inner k l q

  pub depth_front : (p : Place) → Through b p → depth_at (front b t) p ≡ depth_at t p
  depth_front p s = rw s.is at (depth_at_inner s.argument s.few s.inner)

  body_front : (p : Place) → Through b p → (ys : List ℕ) → body_there (front b t) p ys ≡ body_there t p ys
  unfolding body_there
  body_front p s ys = ap₂ (λ (e : ℕ) (f : Row). body_here e ys f) (depth_front p s) (tree_at_front b t p s)

  holds_front : (c : Constraint) → Names (λ o. Through b o.place) c → holds_in (front b t) c ≡ holds_in t c
  unfolding holds_in
  holds_front (closed_at o) s = ap is_some (body_front o.place s o.list)
  holds_front (same_at f o) s = ap₂ same_o (body_front f.place s.0 f.list) (body_front o.place s.1 o.list)

  all_front : (cs : List Constraint) → EachNames (λ o. Through b o.place) cs → all_in (front b t) cs ≡ all_in t cs
  unfolding all_in
  all_front [] s = refl
  all_front (c ∷ cs) s = ap₂ ◌&&◌ (holds_front c s.0) (all_front cs s.1)

  first_front_lem : (os : List Occurrence) → Each (λ o. Through b o.place) os → (x : ℕ) (r : Option Occurrence) → first_of x os ≡ r → first_body (front b t) r ≡ first_body t r
  first_front_lem os s x none e = refl
  first_front_lem os s x (some o) e = ap body_or (body_front o.place (first_each (λ q. Through b q.place) x os o s e) o.list)

  bodies_front : (row : RuleRow) → Each (λ o. Through b o.place) (occurrences [] 0 0 row.left) → row_bodies (front b t) row ≡ row_bodies t row
  unfolding row_bodies
  bodies_front row s =
      fun_ext (λ x. ap (λ (f : Row). pick (ltb x row.vars) f nothing) (first_front_lem (occurrences [] 0 0 row.left) s x (first_of x (occurrences [] 0 0 row.left)) refl))

-- the occurrences of a left side are below the arguments of its root
through_left : (j b : ℕ) (kids : Left) → wide kids ≡ b → Each (λ o. Through b o.place) (occurrences [] 0 0 (part (symbol j b) kids end))
through_left j b kids n =
    rw (occurrences_part [] 0 0 (symbol j b) kids end, occurrences_end [] 1 0)
    (each_join (λ o. Through b o.place) (occurrences (0 ∷ []) 0 (inside (symbol j b) 0) kids) []
    (through_each b (0 ∷ []) 0 (inside (symbol j b) 0) kids (stays b kids n)) tt)

-- ---- a row that covers the root
module _ (j b a : ℕ) (ts rs : Row) (l : b ≤ a) (row : RuleRow) (kids : Left) (e : row.left ≡ part (symbol j b) kids end) (n : wide kids ≡ b) where
  pub opens : open_fits (node (symbol j a) ts rs) row.left (enter 0 a (root ∷ [])) ≡ open_fits (front b (node (symbol j a) ts rs)) row.left (root ∷ [])
  opens = inner row.left e
    where
      inner : (left : Left) → left ≡ part (symbol j b) kids end
          → open_fits (node (symbol j a) ts rs) left (enter 0 a (root ∷ [])) ≡ open_fits (front b (node (symbol j a) ts rs)) left (root ∷ [])
      inner left z = rw z (open_front j b a ts rs l kids n)

  pub named : Each (λ o. Through b o.place) (occurrences [] 0 0 row.left)
  named = inner row.left e
    where
      inner : (left : Left) → left ≡ part (symbol j b) kids end → Each (λ o. Through b o.place) (occurrences [] 0 0 left)
      inner left z = rw z (through_left j b kids n)

  -- what it asks below the root is what it asks of the front at the start
  pub row_front : row_fits (node (symbol j a) ts rs) (entering 0 (symbol j a) start) row ≡ row_fits (front b (node (symbol j a) ts rs)) start row
  unfolding row_fits entering constraints_left
  row_front =
      rw (count_symbol j a, unstruck_none (constraints row.left))
      (ap₂ ◌&&◌ opens (sym (all_front b (node (symbol j a) ts rs) (same_depth j b a ts rs l) (constraints row.left) (constraints_name (λ o. Through b o.place) row.left named))))

  fitting_front : fitting (front b (node (symbol j a) ts rs)) row ≡ fitting (node (symbol j a) ts rs) row
  fitting_front = ap (λ (c : ℕ → Row). record { number = row.number; aside = row.aside; bodies = c }) (bodies_front b (node (symbol j a) ts rs) (same_depth j b a ts rs l) row named)

  matching_is : matching_front row.left (node (symbol j a) ts rs) ≡ matching row.left (front b (node (symbol j a) ts rs))
  matching_is =
      matching_front_lem row.left (node (symbol j a) ts rs)
      ∙ ap (λ (m : ℕ). matching row.left (front m (node (symbol j a) ts rs))) (ap root_arguments e ∙ root_arguments_lem (symbol j b) kids end ∙ count_symbol j b)

first_only : (f : Row) → Formed f → width f ≡ 1 → (row : RuleRow) → GoodRule row.vars row.left → or_first (row_fits f start row) (fitting f row) none ≡ or_next row.number row.aside (matching row.left f) none
unfolding first_fit first_match
first_only f w one row g = first_match_lem f w one (row ∷ []) (g, tt)

then_any : (b : Bool) (f : Fitting) (number n : ℕ) (o : Option (ℕ → Row)) → or_first b f none ≡ or_next number n o none → (p q : Option Fitting) → p ≡ q → or_first b f p ≡ or_next number n o q
then_any true f number n none e p q r = never (cc)
then_any true f number n (some c) e p q r = e
then_any false f number n none e p q r = r
then_any false f number n (some c) e p q r = never (cc)

covered_step : (j b a : ℕ) (ts rs : Row) → b ≤ a → (row : RuleRow) (kids : Left) → row.left ≡ part (symbol j b) kids end → wide kids ≡ b → GoodRule row.vars row.left
    → Formed (node (symbol j a) ts rs) → width (node (symbol j a) ts rs) ≡ 1 → (p q : Option Fitting) → p ≡ q
    → or_first (row_fits (node (symbol j a) ts rs) (entering 0 (symbol j a) start) row) (fitting (node (symbol j a) ts rs) row) p ≡ or_next row.number row.aside (matching_front row.left (node (symbol j a) ts rs)) q
covered_step j b a ts rs l row kids e n g w one p q r =
    ap₂ (λ (c : Bool) (f : Fitting). or_first c f p) (row_front j b a ts rs l row kids e n) (sym (fitting_front j b a ts rs l row kids e n))
    ∙ then_any (row_fits (front b (node (symbol j a) ts rs)) start row) (fitting (front b (node (symbol j a) ts rs)) row) row.number row.aside (matching row.left (front b (node (symbol j a) ts rs)))
    (first_only (front b (node (symbol j a) ts rs)) (front_formed b (node (symbol j a) ts rs) w) (width_front b (node (symbol j a) ts rs) ∙ one) row g) p q r
    ∙ ap (λ (o : Option (ℕ → Row)). or_next row.number row.aside o q) (sym (matching_is j b a ts rs l row kids e n))

-- ---- rows
-- the root of each row's left side is a symbol
abbrev pub AllRooted : List RuleRow → Type 0
AllRooted [] = Unit {0}
AllRooted (row ∷ rows) = Rooted row.left × AllRooted rows

pub all_rooted : (rows : List RuleRow) → AllRooted rows → RootsIn rows
all_rooted [] a = tt
all_rooted (row ∷ rows) a = (inner row.left a.0, all_rooted rows a.1)
  where
    inner : (left : Left) → Rooted left → HeadIn (head_here left)
    inner left r = rw r.is r.table

row_covered : (g : Head) (ts rs : Row) → Formed (node g ts rs) → width (node g ts rs) ≡ 1 → (row : RuleRow) → GoodRule row.vars row.left → Rooted row.left → covers row.left g ≡ true
    → (p q : Option Fitting) → p ≡ q
    → or_first (row_fits (node g ts rs) (entering 0 g start) row) (fitting (node g ts rs) row) p ≡ or_next row.number row.aside (matching_front row.left (node g ts rs)) q
row_covered g ts rs w one row good r e p q same =
    let c = covered_as r.ident r.arguments r.kids end g (rw r.is at e) in
    inner g c.arguments c.is c.few w one
  where
    inner : (g : Head) (a : ℕ) → g ≡ symbol r.ident a → r.arguments ≤ a → Formed (node g ts rs) → width (node g ts rs) ≡ 1
        → or_first (row_fits (node g ts rs) (entering 0 g start) row) (fitting (node g ts rs) row) p ≡ or_next row.number row.aside (matching_front row.left (node g ts rs)) q
    inner g a z l w one = rw z (covered_step r.ident r.arguments a ts rs l row r.kids r.is r.full good (rw z at w) (rw z at one) p q same)

row_uncovered : (g : Head) (ts rs : Row) → Formed (node g ts rs) → (left : Left) → Rooted left → covers left g ≡ false → matching_front left (node g ts rs) ≡ none
row_uncovered g ts rs w left r e =
    ap (λ (k : Left). matching_front k (node g ts rs)) r.is ∙ uncovered_none r.ident r.arguments r.kids end g ts rs r.table w (rw r.is at e)

-- below the case of the term's root the first row that fits is the first that fits the front
pub first_root : (g : Head) (ts rs : Row) → Formed (node g ts rs) → width (node g ts rs) ≡ 1 → (rows : List RuleRow) → AllGood rows → AllRooted rows
    → first_fit (node g ts rs) (entering 0 g start) (root_case_rows g rows) ≡ first_front (node g ts rs) rows
unfolding first_fit first_front root_case_rows
first_root g ts rs w one [] a s = refl
first_root g ts rs w one (row ∷ rows) a s = go (covers row.left g) refl (first_root g ts rs w one rows a.1 s.1)
  where
    go : (c : Bool) → covers row.left g ≡ c → first_fit (node g ts rs) (entering 0 g start) (root_case_rows g rows) ≡ first_front (node g ts rs) rows
        → first_fit (node g ts rs) (entering 0 g start) (pick c (setting_aside g row ∷ root_case_rows g rows) (root_case_rows g rows)) ≡ or_next row.number (aside (root_arguments row.left) (node g ts rs)) (matching_front row.left (node g ts rs)) (first_front (node g ts rs) rows)
    go true e r =
        rw (aside_node (root_arguments row.left) g ts rs)
        (row_covered g ts rs w one (setting_aside g row) a.0 s.0 e (first_fit (node g ts rs) (entering 0 g start) (root_case_rows g rows)) (first_front (node g ts rs) rows) r)
    go false e r = r ∙ ap (λ (o : Option (ℕ → Row)). or_next row.number (aside (root_arguments row.left) (node g ts rs)) o (first_front (node g ts rs) rows)) (sym (row_uncovered g ts rs w row.left s.0 e))

-- ---- the rows of a case are live on its path
child_waiting : (a j : ℕ) → j < a → Waiting (j ∷ 0 ∷ []) (enter 0 a (root ∷ []))
unfolding enter place_numbered
child_waiting a j l = waiting_after (j ∷ 0 ∷ []) (marked 0 (root ∷ [])) (children_from (0 ∷ []) 0 a) (child_waits (0 ∷ []) a 0 j (omega arith) (omega arith))

root_covered : (left : Left) (r : Rooted left) (a : ℕ) → r.arguments ≤ a → Covered (enter 0 a (root ∷ [])) [] 0 left
root_covered left r a l = inner left r.is
  where
    inner : (k : Left) → k ≡ part (symbol r.ident r.arguments) r.kids end → Covered (enter 0 a (root ∷ [])) [] 0 k
    inner k z = rw z (inr (children_covered (enter 0 a (root ∷ [])) (0 ∷ []) a (child_waiting a) 0 r.kids (omega (arith, r.full, l))), tt)

pub live_covered : (g : Head) (row : RuleRow) → GoodRule row.vars row.left → Rooted row.left → covers row.left g ≡ true → Live (enter 0 (count g) (root ∷ [])) row
live_covered g row good r e =
    let c = covered_as r.ident r.arguments r.kids end g (rw r.is at e) in
    let n : count g ≡ c.arguments = ap count c.is ∙ count_symbol r.ident c.arguments in
    let l = live_start row good in
    record { full = l.full; covered = root_covered row.left r (count g) (omega (arith, n, c.few)); lists = l.lists; there = l.there }

live_root : (g : Head) (rows : List RuleRow) → AllGood rows → AllRooted rows → AllLive (enter 0 (count g) (root ∷ [])) (root_case_rows g rows)
unfolding root_case_rows
live_root g [] a s = tt
live_root g (row ∷ rows) a s = go (covers row.left g) refl (live_root g rows a.1 s.1)
  where
    go : (c : Bool) → covers row.left g ≡ c → AllLive (enter 0 (count g) (root ∷ [])) (root_case_rows g rows)
        → AllLive (enter 0 (count g) (root ∷ [])) (pick c (setting_aside g row ∷ root_case_rows g rows) (root_case_rows g rows))
    go true e r = (live_covered g (setting_aside g row) a.0 s.0 e, r)
    go false e r = r

-- ---- the case of the term's root
root_here_lem : (g : Head) (ts rs : Row) → is_head g (tree_at (node g ts rs) (place_numbered 0 (root ∷ []))) ≡ true
unfolding place_numbered
root_here_lem g ts rs =
    ap (is_head g) (at_child (node g ts rs) 0 [] ∙ ap (λ (f : Row). tree f 0) (under_root (node g ts rs)) ∙ tree_first g ts rs)
    ∙ head_node g g ts nothing ∙ eq-eqb (word g) (word g) refl

pub root_entered : (g : Head) (ts rs : Row) → Formed (node g ts rs) → width (node g ts rs) ≡ 1 → enter_part 0 (root_part (node g ts rs)) ≡ parts_at (node g ts rs) (entering 0 g start).uncovered
root_entered g ts rs w one =
    ap (enter_part 0) (sym (root_parts (node g ts rs) one))
    ∙ enter_parts (node g ts rs) w g (formed_node g ts rs w).table (root ∷ []) 0 (root_here_lem g ts rs)
    ∙ ap (parts_at (node g ts rs)) (sym (entering_places 0 g start))

case_right : (g : Head) (ts rs : Row) → Formed (node g ts rs) → width (node g ts rs) ≡ 1 → (rows : List RuleRow) → AllGood rows → AllRooted rows
    → find (compile (entering 0 g start) (root_case_rows g rows)) (enter_part 0 (root_part (node g ts rs))) ≡ first_front (node g ts rs) rows
case_right g ts rs w one rows a s =
    ap (find (compile (entering 0 g start) (root_case_rows g rows))) (root_entered g ts rs w one)
    ∙ find_first (node g ts rs) w (entering 0 g start) (root_case_rows g rows) (rw (entering_places 0 g start) (live_root g rows a s))
    ∙ first_root g ts rs w one rows a s

-- a case is taken where its head stands there, the default where none does
root_cases_lem : (rows : List RuleRow) (t : Row) (x : Option Fitting) (hs : List Head) → InTables hs → (NoHead hs t → none ≡ x)
    → ((h : Head) → InTable h → is_head h t ≡ true → find (compile (entering 0 h start) (root_case_rows h rows)) (enter_part 0 (root_part t)) ≡ x)
    → find_case (root_cases rows hs) 0 (root_part t) none ≡ x
unfolding find_case root_cases part_of
root_cases_lem rows t x [] i d c = d tt
root_cases_lem rows t x (h ∷ hs) i d c = go (is_head h t) refl (λ q. root_cases_lem rows t x hs i.1 q c)
  where
    go : (b : Bool) → is_head h t ≡ b → ((NoHead hs t → none ≡ x) → find_case (root_cases rows hs) 0 (root_part t) none ≡ x)
        → pick b (find (compile (entering 0 h start) (root_case_rows h rows)) (enter_part 0 (root_part t))) (find_case (root_cases rows hs) 0 (root_part t) none) ≡ x
    go true e r = c h i.0 e
    go false e r = r (λ m. d (e, m))

-- ---- the default
module _ (all : List RuleRow) (g : Head) (ts rs : Row) (w : Formed (node g ts rs)) (m : NoHead (root_heads all) (node g ts rs)) where
  no_root : (j b : ℕ) → Stands j b all → CoveredAs j b g → ⊥
  no_root j b s c =
      let k : InTable (symbol j c.arguments) = rw c.is at (formed_node g ts rs w).table in
      let z = no_root_head all (node g ts rs) m j b c.arguments s c.few (symbol_few j c.arguments k).0 in
      let y : is_head (symbol j c.arguments) (node g ts rs) ≡ true = head_node (symbol j c.arguments) g ts rs ∙ eq-eqb (word (symbol j c.arguments)) (word g) (ap word (sym c.is)) in
      never (cc)

  row_none : (left : Left) → Rooted left → ((i b : ℕ) → head_here left ≡ some (symbol i b) → Stands i b all) → matching_front left (node g ts rs) ≡ none
  row_none left r inn = go (covers left g) refl
    where
      go : (c : Bool) → covers left g ≡ c → matching_front left (node g ts rs) ≡ none
      go true e = absurd (no_root r.ident r.arguments (inn r.ident r.arguments (ap head_here r.is)) (covered_as r.ident r.arguments r.kids end g (rw r.is at e)))
      go false e = row_uncovered g ts rs w left r e

  pub none_first : (rows : List RuleRow) → AllRooted rows → ((i b : ℕ) → Stands i b rows → Stands i b all) → first_front (node g ts rs) rows ≡ none
  unfolding first_front
  none_first [] s inn = refl
  none_first (row ∷ rows) s inn = rw (row_none row.left s.0 (λ i b z. inn i b (inl z))) (none_first rows s.1 (λ i b z. inn i b (inr z)))

-- ---- THE THEOREM: the tree of a book's rows finds the first that fits the term without the arguments set aside, with its bodies
pub head_is_root : (h g : Head) (ts rs : Row) → InTable h → Formed (node g ts rs) → is_head h (node g ts rs) ≡ true → g ≡ h
head_is_root h g ts rs i w e = sym (same_head h g i (formed_node g ts rs w).table (eqb-true (word h) (word g) (sym (head_node h g ts rs) ∙ e)))

root_switch : (g : Head) (ts rs : Row) → Formed (node g ts rs) → width (node g ts rs) ≡ 1 → (rows : List RuleRow) → AllGood rows → AllRooted rows
    → find_case (root_cases rows (root_heads rows)) 0 (root_part (node g ts rs)) none ≡ first_front (node g ts rs) rows
root_switch g ts rs w one rows a s =
    root_cases_lem rows (node g ts rs) (first_front (node g ts rs) rows) (root_heads rows) (root_heads_table rows (all_rooted rows s))
    (λ m. sym (none_first rows g ts rs w m rows s (λ i b z. z)))
    (λ h i e. inner h (head_is_root h g ts rs i w e))
  where
    inner : (h : Head) → g ≡ h → find (compile (entering 0 h start) (root_case_rows h rows)) (enter_part 0 (root_part (node g ts rs))) ≡ first_front (node g ts rs) rows
    inner h z = rw (← z) (case_right g ts rs w one rows a s)

pub root_tree_first : (t : Row) → Formed t → width t ≡ 1 → (rows : List RuleRow) → AllGood rows → AllRooted rows → find (root_tree rows) (root_part t) ≡ first_front t rows
unfolding find root_tree first_front
root_tree_first nothing w one rows a s = absurd (omega (arith, width_nothing, one))
root_tree_first (node g ts rs) w one [] a s = refl
root_tree_first (node g ts rs) w one (row ∷ rows) a s = root_switch g ts rs w one (row ∷ rows) a s

-- ---- the rows of an accepted book
module _ (book : List ℕ) (accepted : check_book book ≡ Ok tt) where
  rooted_then : (number : ℕ) (rows : List RuleRow) → AllRooted rows → (o : Option Rule) → rule_at book number ≡ o → AllRooted (row_then number o rows)
  rooted_then number rows s none e = s
  rooted_then number rows s (some rule) e = (rooted rule.vars (left_in rule) (accepted_good book accepted number rule e) (accepted_root book accepted number rule e), s)

  pub rooted_rows : (more number : ℕ) → AllRooted (book_rows book number more)
  unfolding book_rows
  rooted_rows zero number = tt
  rooted_rows (suc more) number = rooted_then number (book_rows book (suc number) more) (rooted_rows more (suc number)) (rule_at book number) refl

  pub first_of_tree : (t : Row) → Formed t → width t ≡ 1 → find (book_tree book) (root_part t) ≡ first_front t (book_rows book 0 (get_or book 0 0))
  unfolding book_tree
  first_of_tree t w one = root_tree_first t w one (book_rows book 0 (get_or book 0 0)) (good_rows book (accepted_good book accepted) (get_or book 0 0) 0) (rooted_rows (get_or book 0 0) 0)
