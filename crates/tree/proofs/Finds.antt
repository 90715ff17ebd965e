-- The tree of rows finds the first row that fits: each node keeps it, and the rows grow smaller.
use mathlib.Core.Path.{◌≡◌, refl, sym, ap, ◌∙◌, fun_ext}
use mathlib.Core.Bool.{Bool, true, false}
use mathlib.Core.List.{List, [], ◌∷◌}
use mathlib.Core.Option.{Option, none, some}
use Prim.Native.Nat.{ℕ, zero, suc, ◌+◌, ◌≤◌, ◌<◌}
use native.Mathlib.Omega.{arith}
use lib.Dec.{eqb, ltb}
use borrow.Author.Tests.{lt-ltb, le-ltb, ltb-true, ltb-false}
use Rattle.term.specs.Word.{Head, word, count, pick, InTable}
use Rattle.term.specs.Row.{Row, nothing, Formed}
use Rattle.term.specs.Part.{is_some, same_o}
use Rattle.fit.specs.Left.{part}
use Rattle.fit.specs.Constraint.{Place, tree_at, is_head, Occurrence, occurrences, first_of, Constraint, closed_at, same_at, constraints}
use Rattle.fit.specs.Lowest.{Fitting}
use Rattle.fit.proofs.Laws.{Each, first_each, IsThere, Names, EachNames, constraints_name}
use Rattle.tree.specs.Tree.{Tree, Fail, Leaf, Switch, Closed, Same, Cases, NoCase, Case}
use Rattle.tree.specs.Told.Covered.{Within}
use Rattle.tree.specs.Path.{Uncovered, OnPath, place_numbered, enter}
use Rattle.tree.specs.Rows.{RuleRow, subs_under, head_at, lowest_open, constraints_left, size}
use Rattle.tree.specs.Compile.{without, add_head, heads, case_rows, default_rows, entering, holding, rows_without, test_of, variable_at, variables_from, leaf_of, cases_of, node_of, step, compile}
use Rattle.tree.specs.Find.{PartAt, part_of, enter_part, body_for, body_or, leaf_body, leaf_fitting}
use Rattle.tree.proofs.Subs.{from_start, subs_root, head_headed, Full, full_at}
use Rattle.tree.proofs.Parts.{parts_at, part_of_lem, enter_parts, body_number}
use Rattle.tree.proofs.Fits.{OpenAt, open_at, variables_fit}
use Rattle.tree.proofs.Holds.{holds_in, all_in, ListIs, names_unstruck}
use Rattle.tree.proofs.Sizes.{case_less, default_less, yes_less, no_less}
use Rattle.tree.proofs.Knot.{compile_is}
use Rattle.tree.proofs.Covers.{all_within}
use Rattle.tree.proofs.Firsts.{Live, AllLive, row_fits, first_body, row_bodies, fitting, first_fit, live_case, first_case, NoHead, live_default, first_default, first_yes, live_without, first_no}

-- ---- what a tree finds in a term: the rule and its bodies, or none
-- "A Switch takes the first case whose head is the term's word there, else the default. Closed says yes when the body exists, Same when both bodies exist and are equal."
unfoldable mutual
  pub find : Tree → List PartAt → Option Fitting
  find Fail ps = none
  find (Leaf leaf) ps = some (leaf_fitting ps leaf)
  find (Switch n cs default) ps = find_case cs n ps (find default ps)
  find (Closed n ys ifYes ifNo) ps = pick (is_some (body_for ps n ys)) (find ifYes ps) (find ifNo ps)
  find (Same n m ys zs ifYes ifNo) ps = pick (same_o (body_for ps n ys) (body_for ps m zs)) (find ifYes ps) (find ifNo ps)

  pub find_case : Cases → ℕ → List PartAt → Option Fitting → Option Fitting
  find_case NoCase n ps other = other
  find_case (Case h x cs) n ps other = pick (is_head h (part_of n ps).part) (find x (enter_part n ps)) (find_case cs n ps other)

-- ---- Leaf: each variable has the body at its first occurrence
abbrev pub AllWithin : List Uncovered → List Occurrence → Type 0
AllWithin us os = Each (λ o. Within o.place us) os

pub leaf_first : (t : Row) (us : List Uncovered) (os : List Occurrence) → AllWithin us os → (x : ℕ) (r : Option Occurrence) → first_of x os ≡ r → IsThere r
    → body_or (body_for (parts_at t us) (variable_at us r).at (variable_at us r).list) ≡ first_body t r
leaf_first t us os a x none e h = absurd h
leaf_first t us os a x (some o) e h = ap body_or (body_number t us o.place o.list (first_each (λ q. Within q.place us) x os o a e))

next_less : (x more : ℕ) → ltb (suc x) (suc more) ≡ ltb x more
next_less x more = go (ltb x more) refl
  where
    go : (b : Bool) → ltb x more ≡ b → ltb (suc x) (suc more) ≡ b
    go true e = lt-ltb (suc x) (suc more) (omega (arith, ltb-true x more e))
    go false e = le-ltb (suc x) (suc more) (omega (arith, ltb-false x more e))

leaf_body_lem : (t : Row) (us : List Uncovered) (os : List Occurrence) → AllWithin us os → (more y : ℕ) → ((z : ℕ) → y ≤ z → z < y + more → IsThere (first_of z os)) → (x z : ℕ) → z ≡ y + x
    → leaf_body (parts_at t us) (variables_from us os y more) x ≡ pick (ltb x more) (first_body t (first_of z os)) nothing
unfolding leaf_body variables_from
leaf_body_lem t us os a zero y h x z e = rw (le-ltb x 0 (omega arith))
leaf_body_lem t us os a (suc more) y h zero z e =
    let q : z ≡ y = omega arith in
    rw (lt-ltb 0 (suc more) (omega arith), q) (leaf_first t us os a y (first_of y os) refl (h y (omega arith) (omega arith)))
leaf_body_lem t us os a (suc more) y h (suc x) z e =
    rw (next_less x more) (leaf_body_lem t us os a more (suc y) (λ w l k. h w (omega arith) (omega arith)) x z (omega arith))

pub leaf_bodies : (t : Row) (us : List Uncovered) (row : RuleRow) → Live us row → AllWithin us (occurrences [] 0 0 row.left)
    → leaf_body (parts_at t us) (variables_from us (occurrences [] 0 0 row.left) 0 row.vars) ≡ row_bodies t row
unfolding row_bodies
leaf_bodies t us row l a =
    fun_ext (λ x. leaf_body_lem t us (occurrences [] 0 0 row.left) a row.vars 0 (λ z q r. l.there z (omega arith)) x x (omega arith))

-- ---- Closed and Same: the test says what the constraint says
find_test : (t : Row) (us : List Uncovered) (c : Constraint) → Names (λ o. Within o.place us) c → (a b : Tree)
    → find (test_of c us a b) (parts_at t us) ≡ pick (holds_in t c) (find a (parts_at t us)) (find b (parts_at t us))
unfolding test_of find holds_in
find_test t us (closed_at o) w a b = rw (body_number t us o.place o.list w)
find_test t us (same_at f o) w a b = rw (body_number t us f.place f.list w.0, body_number t us o.place o.list w.1)

-- ---- Switch: heads of the table
abbrev pub InTables : List Head → Type 0
InTables [] = Unit {0}
InTables (h ∷ hs) = InTable h × InTables hs

tables_without : (h : Head) (hs : List Head) → InTables hs → InTables (without h hs)
unfolding without
tables_without h [] a = tt
tables_without h (g ∷ gs) a = go (eqb (word h) (word g)) (tables_without h gs a.1)
  where
    go : (b : Bool) → InTables (without h gs) → InTables (pick b (without h gs) (g ∷ without h gs))
    go true r = r
    go false r = (a.0, r)

pub tables_add : (row : RuleRow) (p : Place) → Full row.left → (o : Option Head) → head_at row.left p ≡ o → (hs : List Head) → InTables hs → InTables (add_head o hs)
tables_add row p f none e hs a = a
tables_add row p f (some h) e hs a =
    let x = head_headed row.left p h e in
    let w : Full (part h x.kids x.rest) = rw x.is at (full_at row.left p f) in
    (w.0, tables_without h hs a)

pub heads_tables : (us : List Uncovered) (p : Place) (rows : List RuleRow) → AllLive us rows → InTables (heads p rows)
unfolding heads
heads_tables us p [] a = tt
heads_tables us p (row ∷ rows) a = tables_add row p a.0.full (head_at row.left p) refl (heads p rows) (heads_tables us p rows a.1)

-- a case is taken where its head stands there, the default where none does
find_cases : (make : OnPath → List RuleRow → Tree) (path : OnPath) (rows : List RuleRow) (n : ℕ) (ps : List PartAt) (other x : Option Fitting) (hs : List Head) → InTables hs
    → (NoHead hs (part_of n ps).part → other ≡ x)
    → ((h : Head) → InTable h → is_head h (part_of n ps).part ≡ true → find (make (entering n h path) (case_rows (place_numbered n path.uncovered) h rows)) (enter_part n ps) ≡ x)
    → find_case (cases_of make path rows n hs) n ps other ≡ x
unfolding find_case cases_of
find_cases make path rows n ps other x [] i d c = d tt
find_cases make path rows n ps other x (h ∷ hs) i d c = go (is_head h (part_of n ps).part) refl (λ q. find_cases make path rows n ps other x hs i.1 q c)
  where
    go : (b : Bool) → is_head h (part_of n ps).part ≡ b → ((NoHead hs (part_of n ps).part → other ≡ x) → find_case (cases_of make path rows n hs) n ps other ≡ x)
        → pick b (find (make (entering n h path) (case_rows (place_numbered n path.uncovered) h rows)) (enter_part n ps)) (find_case (cases_of make path rows n hs) n ps other) ≡ x
    go true e r = c h i.0 e
    go false e r = r (λ m. d (e, m))

-- ---- one node
abbrev RightBelow : Row → (OnPath → List RuleRow → Tree) → ℕ → Type 0
RightBelow t make n = (path : OnPath) (rows : List RuleRow) → size path rows < n → AllLive path.uncovered rows → find (make path rows) (parts_at t path.uncovered) ≡ first_fit t path rows

pub entering_places : (n : ℕ) (h : Head) (path : OnPath) → (entering n h path).uncovered ≡ enter n (count h) path.uncovered
unfolding entering
entering_places n h path = refl

pub first_fits : (t : Row) (path : OnPath) (row : RuleRow) (rows : List RuleRow) → lowest_open row.left path.uncovered ≡ none → constraints_left path row ≡ [] → first_fit t path (row ∷ rows) ≡ some (fitting t row)
unfolding first_fit row_fits all_in
first_fits t path row rows e q = rw (variables_fit t row.left path.uncovered e, q)

pub row_within : (path : OnPath) (row : RuleRow) → Live path.uncovered row → lowest_open row.left path.uncovered ≡ none → AllWithin path.uncovered (occurrences [] 0 0 row.left)
row_within path row l e = all_within row.left path.uncovered e [] 0 0 row.left (from_start (subs_under row.left []) ∙ subs_root row.left) l.covered

-- the first of the constraints left names what the row's constraints name
pub first_named : (P : Occurrence → Type 0) (path : OnPath) (row : RuleRow) (c : Constraint) (cs : List Constraint) → EachNames P (constraints row.left) → constraints_left path row ≡ c ∷ cs → Names P c
unfolding constraints_left
first_named P path row c cs a e = inner (rw e at (names_unstruck P path.held (constraints row.left) a))
  where
    inner : EachNames P (c ∷ cs) → Names P c
    inner z = z.0

module _ (t : Row) (w : Formed t) (make : OnPath → List RuleRow → Tree) where
  leaf_right : (path : OnPath) (row : RuleRow) (rows : List RuleRow) → Live path.uncovered row → lowest_open row.left path.uncovered ≡ none → constraints_left path row ≡ []
      → find (leaf_of path.uncovered row) (parts_at t path.uncovered) ≡ first_fit t path (row ∷ rows)
  unfolding find leaf_of
  leaf_right path row rows l e q =
      ap (λ (b : ℕ → Row). some (record { number = row.number; aside = row.aside; bodies = b })) (leaf_bodies t path.uncovered row l (row_within path row l e))
      ∙ sym (first_fits t path row rows e q)

  test_right : (path : OnPath) (rows : List RuleRow) (c : Constraint) → Names ListIs c → AllLive path.uncovered rows → (a b : Option Fitting)
      → a ≡ first_fit t (holding c path) rows → b ≡ first_fit t path (rows_without c path rows) → (h : Bool) → holds_in t c ≡ h → pick h a b ≡ first_fit t path rows
  test_right path rows c n l a b p q true e = p ∙ first_yes t path c n e rows l
  test_right path rows c n l a b p q false e = q ∙ first_no t path c n e rows l

  switch_right : (path : OnPath) (row : RuleRow) (rows : List RuleRow) → AllLive path.uncovered (row ∷ rows) → RightBelow t make (size path (row ∷ rows))
      → (n : ℕ) → OpenAt row.left path.uncovered n
      → find (Switch n (cases_of make path (row ∷ rows) n (heads (place_numbered n path.uncovered) (row ∷ rows))) (make path (default_rows (place_numbered n path.uncovered) (row ∷ rows)))) (parts_at t path.uncovered)
      ≡ first_fit t path (row ∷ rows)
  unfolding find
  switch_right path row rows l r n o =
      let us = path.uncovered in
      find_cases make path (row ∷ rows) n (parts_at t us) (find (make path (default_rows (place_numbered n us) (row ∷ rows))) (parts_at t us)) (first_fit t path (row ∷ rows)) (heads (place_numbered n us) (row ∷ rows))
      (heads_tables us (place_numbered n us) (row ∷ rows) l)
      (λ m. r path (default_rows (place_numbered n us) (row ∷ rows)) (default_less path row rows n o) (live_default us (place_numbered n us) (row ∷ rows) l)
      ∙ first_default t path n o.new (row ∷ rows) l (rw (part_of_lem t us n) at m))
      (λ h i b. let c : is_head h (tree_at t (place_numbered n us)) ≡ true = rw (part_of_lem t us n) at b in
      ap (find (make (entering n h path) (case_rows (place_numbered n us) h (row ∷ rows)))) (enter_parts t w h i us n c ∙ ap (parts_at t) (sym (entering_places n h path)))
      ∙ r (entering n h path) (case_rows (place_numbered n us) h (row ∷ rows)) (case_less path row rows n h o) (rw (entering_places n h path) (live_case us n h i (row ∷ rows) l))
      ∙ first_case t path n o.new h i c (row ∷ rows) l)

  node_right : (path : OnPath) (row : RuleRow) (rows : List RuleRow) → AllLive path.uncovered (row ∷ rows) → RightBelow t make (size path (row ∷ rows))
      → (o : Option ℕ) → lowest_open row.left path.uncovered ≡ o → (cs : List Constraint) → constraints_left path row ≡ cs
      → find (node_of make path row (row ∷ rows) o cs) (parts_at t path.uncovered) ≡ first_fit t path (row ∷ rows)
  unfolding node_of holding
  node_right path row rows l r none e [] q = leaf_right path row rows l.0 e q
  node_right path row rows l r none e (c ∷ cs) q =
      let n = first_named (λ o. Within o.place path.uncovered) path row c cs (constraints_name (λ o. Within o.place path.uncovered) row.left (row_within path row l.0 e)) q in
      let i = first_named ListIs path row c cs l.0.lists q in
      find_test t path.uncovered c n (make (holding c path) (row ∷ rows)) (make path (rows_without c path (row ∷ rows)))
      ∙ test_right path (row ∷ rows) c i l (find (make (holding c path) (row ∷ rows)) (parts_at t path.uncovered)) (find (make path (rows_without c path (row ∷ rows))) (parts_at t path.uncovered))
      (r (holding c path) (row ∷ rows) (yes_less path row rows c cs q) l)
      (r path (rows_without c path (row ∷ rows)) (no_less path row rows c cs q) (live_without path.uncovered c path (row ∷ rows) l))
      (holds_in t c) refl
  node_right path row rows l r (some n) e cs q = switch_right path row rows l r n (open_at row.left path.uncovered n e)

  pub step_right : (path : OnPath) (rows : List RuleRow) → AllLive path.uncovered rows → RightBelow t make (size path rows) → find (step make path rows) (parts_at t path.uncovered) ≡ first_fit t path rows
  unfolding step find first_fit
  step_right path [] l r = refl
  step_right path (row ∷ rows) l r = node_right path row rows l r (lowest_open row.left path.uncovered) refl (constraints_left path row) refl

-- THE THEOREM: the tree of rows finds the first row that fits
find_by : (t : Row) → Formed t → (n : ℕ) → RightBelow t compile n
find_by t w zero path rows h l = absurd (omega arith)
find_by t w (suc n) path rows h l =
    ap (λ (x : Tree). find x (parts_at t path.uncovered)) (compile_is path rows)
    ∙ step_right t w compile path rows l (λ p rs q k. find_by t w n p rs (omega arith) k)

pub find_first : (t : Row) → Formed t → (path : OnPath) (rows : List RuleRow) → AllLive path.uncovered rows → find (compile path rows) (parts_at t path.uncovered) ≡ first_fit t path rows
find_first t w path rows l = find_by t w (suc (size path rows)) path rows (omega arith) l
