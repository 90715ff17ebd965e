-- The tree of rows is walked soundly in every term, to the first row that fits.
use mathlib.Core.Path.{◌≡◌, refl, sym, ap, ap₂, ◌∙◌}
use mathlib.Core.Bool.{Bool, true, false}
use mathlib.Core.List.{List, [], ◌∷◌}
use mathlib.Core.Option.{Option, none, some}
use mathlib.Core.Logic.{◌⊎◌, inl, inr}
use Prim.Native.Nat.{ℕ, zero, suc, ◌+◌, ◌≤◌, ◌<◌}
use native.Mathlib.Omega.{arith}
use lib.ListN.{length}
use Rattle.std.specs.Prelude.{Ok}
use Rattle.term.specs.Word.{Head, pick, InTable}
use Rattle.term.specs.Row.{Row, width, Formed}
use Rattle.term.specs.Part.{is_some, same_o}
use Rattle.term.proofs.Laws.{never}
use Rattle.book.specs.Rule.{counted}
use Rattle.book.specs.Book.{Rule, check_book, rule_at}
use Rattle.book.proofs.Laws.{book_rule, book_rules, rule_number}
use Rattle.fit.specs.Fit.{matching}
use Rattle.fit.specs.Constraint.{Place, tree_at, is_head, Occurrence, occurrences, first_of, Constraint, closed_at, same_at, constraints}
use Rattle.fit.specs.Match.{left_in}
use Rattle.fit.specs.Front.{root_arguments}
use Rattle.fit.specs.Lowest.{Fitting}
use Rattle.fit.proofs.Laws.{GoodRule, is_match, Each, first_each, IsThere, Names, EachNames, constraints_name, FirstBody, matched_first, accepted_good, occurs_first, OneVariable, constraints_one, first_variable, Counted, rule_counted}
use Rattle.tree.specs.Tree.{counts_of, LeafNode, Tree, Switch, Case}
use Rattle.tree.specs.Told.Covered.{Within}
use Rattle.tree.specs.Path.{Uncovered, OnPath, place_numbered, number_in, start}
use Rattle.tree.specs.Rows.{RuleRow, head_at, lowest_open, has, unstruck, constraints_left, size}
use Rattle.tree.specs.Compile.{heads, in_case, case_rows, in_default, default_rows, entering, holding, rows_without, test_of, variable_at, variables_from, leaf_node_of, leaf_of, cases_of, node_of, step, compile, row_then, book_rows}
use Rattle.tree.specs.Find.{part_of, enter_part, body_for}
use Rattle.tree.proofs.Parts.{depth_at, parts_at, part_of_lem, depth_of_lem, enter_parts, number_place, number_less, length_parts, body_number, DepthIs}
use Rattle.tree.proofs.Fits.{open_fits, entered_of, OpenAt, open_at, variables_fit}
use Rattle.tree.proofs.Holds.{holds_in, all_in, ListIs, GoodListIs, good_lists, body_there_lem}
use Rattle.tree.proofs.Sizes.{case_less, default_less, yes_less, no_less}
use Rattle.tree.proofs.Knot.{compile_is}
use Rattle.tree.proofs.Firsts.{Live, AllLive, row_fits, first_fit, live_entered, case_open, case_fits, first_case, NoHead, first_default, yes_row, first_yes, first_no}
use Rattle.tree.proofs.Finds.{InTables, heads_tables, leaf_bodies, AllWithin, row_within, first_named, first_fits, entering_places}
use Rattle.tree.proofs.TreeClauses.{many_variables}
use Rattle.tree.proofs.Books.{start_fits}
use Rattle.tree.proofs.Walks.{SoundVariable, AllSound, SoundPlace, Takes, takes_first, takes_later, NoneTaken, no_cases, other_case, Walks, fails, ends, takes, defaults, closed_yes, closed_no, same_yes, same_no}

-- the two lists of an equality are as long
abbrev pub OneLength : List Constraint → Type 0
OneLength [] = Unit {0}
OneLength (closed_at o ∷ cs) = OneLength cs
OneLength (same_at f o ∷ cs) = (length o.list ≡ length f.list) × OneLength cs

one_after : (c : Constraint) (cs : List Constraint) → OneLength (c ∷ cs) → OneLength cs
one_after (closed_at o) cs a = a
one_after (same_at f o) cs a = a.1

one_before : (c : Constraint) (cs ds : List Constraint) → OneLength (c ∷ cs) → OneLength ds → OneLength (c ∷ ds)
one_before (closed_at o) cs ds a b = b
one_before (same_at f o) cs ds a b = (a.0, b)

one_unstruck : (held cs : List Constraint) → OneLength cs → OneLength (unstruck held cs)
unfolding unstruck
one_unstruck held [] a = tt
one_unstruck held (c ∷ cs) a = go (has c held) (one_unstruck held cs (one_after c cs a))
  where
    go : (b : Bool) → OneLength (unstruck held cs) → OneLength (pick b (unstruck held cs) (c ∷ unstruck held cs))
    go true r = r
    go false r = one_before c cs (unstruck held cs) a r

first_one : (path : OnPath) (row : RuleRow) (c : Constraint) (cs : List Constraint) → OneLength (constraints row.left) → constraints_left path row ≡ c ∷ cs → OneLength (c ∷ cs)
unfolding constraints_left
first_one path row c cs a e = rw e at (one_unstruck path.held (constraints row.left) a)

-- what a rule of a book has
pub record RowFacts (vars : ℕ → ℕ) (fits : LeafNode → Bool) (row : RuleRow) : Type 0 where
  pub good : GoodRule row.vars row.left
  pub low : row.number < 64
  pub few : row.vars ≤ 16
  pub as_many : row.vars ≡ vars row.number
  pub counts : (us : List Uncovered) → fits (leaf_node_of us row) ≡ true
  pub one : OneLength (constraints row.left)

module _ (vars : ℕ → ℕ) (fits : LeafNode → Bool) (t : Row) (w : Formed t) (wide : width t ≡ 1) where
  -- what is known of a row on a path: where the term has the shape that is left in it, its places have the depths they are written with; where it fits, its variables have bodies
  pub record Known (path : OnPath) (row : RuleRow) : Type 0 where
    pub live : Live path.uncovered row
    pub facts : RowFacts vars fits row
    pub deep : open_fits t row.left path.uncovered ≡ true → Each (DepthIs t) (occurrences [] 0 0 row.left)
    pub bodies : row_fits t path row ≡ true → (b : ℕ → Row) × ((x : ℕ) → FirstBody t (first_of x (occurrences [] 0 0 row.left)) (b x))

  abbrev pub AllKnown : OnPath → List RuleRow → Type 0
  AllKnown path [] = Unit {0}
  AllKnown path (row ∷ rows) = Known path row × AllKnown path rows

  all_live : (path : OnPath) (rows : List RuleRow) → AllKnown path rows → AllLive path.uncovered rows
  all_live path [] a = tt
  all_live path (row ∷ rows) a = (a.0.live, all_live path rows a.1)

  -- ---- what is known is kept
  known_entered : (path : OnPath) (n : ℕ) → entered_of n path.uncovered ≡ false → (h : Head) → InTable h → is_head h (tree_at t (place_numbered n path.uncovered)) ≡ true
      → (row : RuleRow) → Known path row → in_case (head_at row.left (place_numbered n path.uncovered)) h ≡ true → Known (entering n h path) row
  known_entered path n new h i here row k b =
      record {
        live = rw (entering_places n h path) (live_entered path.uncovered n h i row k.live b);
        facts = k.facts;
        deep = rw (entering_places n h path) (λ e. k.deep (sym (case_open t path n new h i here row k.live (head_at row.left (place_numbered n path.uncovered)) refl b) ∙ e));
        bodies = λ e. k.bodies (sym (case_fits t path n new h i here row k.live b) ∙ e);
      }

  known_case : (path : OnPath) (n : ℕ) → entered_of n path.uncovered ≡ false → (h : Head) → InTable h → is_head h (tree_at t (place_numbered n path.uncovered)) ≡ true
      → (rows : List RuleRow) → AllKnown path rows → AllKnown (entering n h path) (case_rows (place_numbered n path.uncovered) h rows)
  unfolding case_rows
  known_case path n new h i here [] a = tt
  known_case path n new h i here (row ∷ rows) a = go (in_case (head_at row.left (place_numbered n path.uncovered)) h) refl (known_case path n new h i here rows a.1)
    where
      go : (b : Bool) → in_case (head_at row.left (place_numbered n path.uncovered)) h ≡ b → AllKnown (entering n h path) (case_rows (place_numbered n path.uncovered) h rows)
          → AllKnown (entering n h path) (pick b (row ∷ case_rows (place_numbered n path.uncovered) h rows) (case_rows (place_numbered n path.uncovered) h rows))
      go true e r = (known_entered path n new h i here row a.0 e, r)
      go false e r = r

  known_default : (path : OnPath) (p : Place) (rows : List RuleRow) → AllKnown path rows → AllKnown path (default_rows p rows)
  unfolding default_rows
  known_default path p [] a = tt
  known_default path p (row ∷ rows) a = go (in_default (head_at row.left p)) (known_default path p rows a.1)
    where
      go : (b : Bool) → AllKnown path (default_rows p rows) → AllKnown path (pick b (row ∷ default_rows p rows) (default_rows p rows))
      go true r = (a.0, r)
      go false r = r

  known_without : (path : OnPath) (c : Constraint) (rows : List RuleRow) → AllKnown path rows → AllKnown path (rows_without c path rows)
  unfolding rows_without
  known_without path c [] a = tt
  known_without path c (row ∷ rows) a = go (has c (constraints_left path row)) (known_without path c rows a.1)
    where
      go : (b : Bool) → AllKnown path (rows_without c path rows) → AllKnown path (pick b (rows_without c path rows) (row ∷ rows_without c path rows))
      go true r = r
      go false r = (a.0, r)

  held_row : (path : OnPath) (c : Constraint) → Names ListIs c → holds_in t c ≡ true → (row : RuleRow) → Known path row → Known (holding c path) row
  unfolding holding
  held_row path c n h row k = record { live = k.live; facts = k.facts; deep = k.deep; bodies = λ e. k.bodies (sym (yes_row t path c n h row k.live) ∙ e) }

  known_holding : (path : OnPath) (c : Constraint) → Names ListIs c → holds_in t c ≡ true → (rows : List RuleRow) → AllKnown path rows → AllKnown (holding c path) rows
  known_holding path c n h [] a = tt
  known_holding path c n h (row ∷ rows) a = (held_row path c n h row a.0, known_holding path c n h rows a.1)

  -- ---- places and lists
  place_sound : (us : List Uncovered) (o : Occurrence) → Within o.place us → DepthIs t o → GoodListIs o → SoundPlace (parts_at t us) (number_in o.place us) o.list
  place_sound us o i d g =
      let e : (part_of (number_in o.place us) (parts_at t us)).depth ≡ o.depth = depth_of_lem t us (number_in o.place us) ∙ ap (depth_at t) (number_place o.place us i) ∙ sym d in
      record { here = omega (arith, length_parts t us, number_less o.place us i); list = rw e g }

  row_depths : (path : OnPath) (row : RuleRow) → Known path row → lowest_open row.left path.uncovered ≡ none → Each (DepthIs t) (occurrences [] 0 0 row.left)
  row_depths path row k e = k.deep (variables_fit t row.left path.uncovered e)

  row_lists : (row : RuleRow) → RowFacts vars fits row → Each GoodListIs (occurrences [] 0 0 row.left)
  row_lists row f = good_lists row.vars [] 0 0 row.left f.good.good

  -- ---- Leaf
  body_some : (o : Option Row) (b : Row) → o ≡ some b → is_some o ≡ true
  body_some o b e = ap is_some e

  variable_sound : (us : List Uncovered) (os : List Occurrence) → AllWithin us os → Each (DepthIs t) os → Each GoodListIs os → (x : ℕ) (b : Row) (r : Option Occurrence) → first_of x os ≡ r → IsThere r → FirstBody t r b
      → SoundVariable (parts_at t us) (variable_at us r)
  variable_sound us os i d g x b none e h f = absurd h
  variable_sound us os i d g x b (some o) e h f =
      let within = first_each (λ q. Within q.place us) x os o i e in
      let deep = first_each (DepthIs t) x os o d e in
      let s = place_sound us o within deep (first_each GoodListIs x os o g e) in
      record { here = s.here; list = s.list; body = body_some (body_for (parts_at t us) (number_in o.place us) o.list) b (body_number t us o.place o.list within ∙ body_there_lem t o deep ∙ f) }

  variables_sound : (us : List Uncovered) (os : List Occurrence) → AllWithin us os → Each (DepthIs t) os → Each GoodListIs os → (b : ℕ → Row) → ((x : ℕ) → FirstBody t (first_of x os) (b x))
      → (more y : ℕ) → ((z : ℕ) → y ≤ z → z < y + more → IsThere (first_of z os)) → AllSound (parts_at t us) (variables_from us os y more)
  unfolding variables_from
  variables_sound us os i d g b f zero y h = tt
  variables_sound us os i d g b f (suc more) y h =
      (variable_sound us os i d g y (b y) (first_of y os) refl (h y (omega arith) (omega arith)) (f y), variables_sound us os i d g b f more (suc y) (λ z p q. h z (omega arith) (omega arith)))

  row_fits_lem : (path : OnPath) (row : RuleRow) → lowest_open row.left path.uncovered ≡ none → constraints_left path row ≡ [] → row_fits t path row ≡ true
  unfolding row_fits all_in
  row_fits_lem path row e q = rw (variables_fit t row.left path.uncovered e, q)

  leaf_way : (path : OnPath) (row : RuleRow) (rows : List RuleRow) → Known path row → lowest_open row.left path.uncovered ≡ none → constraints_left path row ≡ []
      → Walks vars fits (leaf_of path.uncovered row) (parts_at t path.uncovered) (first_fit t path (row ∷ rows))
  unfolding leaf_of
  leaf_way path row rows k e q =
      let us = path.uncovered in
      let os = occurrences [] 0 0 row.left in
      let m = k.bodies (row_fits_lem path row e q) in
      let i = row_within path row k.live e in
      let n : length (variables_from us os 0 row.vars) ≡ row.vars = many_variables us os row.vars 0 in
      let few : length (variables_from us os 0 row.vars) ≤ 16 = omega (arith, n, k.facts.few) in
      let s = variables_sound us os i (row_depths path row k e) (row_lists row k.facts) m.0 m.1 row.vars 0 (λ z a b. k.live.there z (omega arith)) in
      rw (first_fits t path row rows e q, ← leaf_bodies t us row k.live i)
      (ends {leaf = leaf_node_of us row} k.facts.low few (n ∙ k.facts.as_many) (k.facts.counts us) s)

  -- ---- Closed and Same
  test_way : (us : List Uncovered) (c : Constraint) → Names (λ o. Within o.place us) c → Names (DepthIs t) c → Names GoodListIs c → (cs : List Constraint) → OneLength (c ∷ cs) → (a b : Tree) (r : Option Fitting)
      → (h : Bool) → holds_in t c ≡ h → (h ≡ true → Walks vars fits a (parts_at t us) r) → (h ≡ false → Walks vars fits b (parts_at t us) r) → Walks vars fits (test_of c us a b) (parts_at t us) r
  unfolding test_of holds_in
  test_way us (closed_at o) i d g cs l a b r true e p q = closed_yes (place_sound us o i d g) (ap is_some (body_number t us o.place o.list i) ∙ e) (p refl)
  test_way us (closed_at o) i d g cs l a b r false e p q = closed_no (place_sound us o i d g) (ap is_some (body_number t us o.place o.list i) ∙ e) (q refl)
  test_way us (same_at f o) i d g cs l a b r true e p q =
      same_yes (place_sound us f i.0 d.0 g.0) (place_sound us o i.1 d.1 g.1) l.0
      (ap₂ same_o (body_number t us f.place f.list i.0) (body_number t us o.place o.list i.1) ∙ e) (p refl)
  test_way us (same_at f o) i d g cs l a b r false e p q =
      same_no (place_sound us f i.0 d.0 g.0) (place_sound us o i.1 d.1 g.1) l.0
      (ap₂ same_o (body_number t us f.place f.list i.0) (body_number t us o.place o.list i.1) ∙ e) (q refl)

  -- ---- Switch
  cases_way : (make : OnPath → List RuleRow → Tree) (path : OnPath) (rows : List RuleRow) (n : ℕ) (f : Row) (hs : List Head) → InTables hs
      → ((h : Head) × InTable h × (is_head h f ≡ true) × Takes f (cases_of make path rows n hs) (make (entering n h path) (case_rows (place_numbered n path.uncovered) h rows)))
      ⊎ (NoneTaken f (cases_of make path rows n hs) × NoHead hs f)
  unfolding cases_of
  cases_way make path rows n f [] i = inr (no_cases, tt)
  cases_way make path rows n f (h ∷ hs) i = go (is_head h f) refl (cases_way make path rows n f hs i.1)
    where
      go : (b : Bool) → is_head h f ≡ b
          → ((g : Head) × InTable g × (is_head g f ≡ true) × Takes f (cases_of make path rows n hs) (make (entering n g path) (case_rows (place_numbered n path.uncovered) g rows)))
          ⊎ (NoneTaken f (cases_of make path rows n hs) × NoHead hs f)
          → ((g : Head) × InTable g × (is_head g f ≡ true) × Takes f (Case h (make (entering n h path) (case_rows (place_numbered n path.uncovered) h rows)) (cases_of make path rows n hs)) (make (entering n g path) (case_rows (place_numbered n path.uncovered) g rows)))
          ⊎ (NoneTaken f (Case h (make (entering n h path) (case_rows (place_numbered n path.uncovered) h rows)) (cases_of make path rows n hs)) × NoHead (h ∷ hs) f)
      go true e r = inl (h, i.0, e, takes_first e)
      go false e (inl x) = inl (x.0, x.1, x.2, takes_later e x.3)
      go false e (inr x) = inr (other_case e x.0, (e, x.1))

  -- a number that was not entered is one of a place
  entered_less : (us : List Uncovered) (n : ℕ) → entered_of n us ≡ false → n < length us
  unfolding entered_of
  entered_less [] n e = never (cc)
  entered_less (u ∷ us) zero e = omega arith
  entered_less (u ∷ us) (suc n) e = omega (arith, entered_less us n e)

  entered_part_lem : (us : List Uncovered) (n : ℕ) → entered_of n us ≡ false → (part_of n (parts_at t us)).entered ≡ false
  unfolding entered_of part_of parts_at
  entered_part_lem [] n e = never (cc)
  entered_part_lem (u ∷ us) zero e = e
  entered_part_lem (u ∷ us) (suc n) e = entered_part_lem us n e

  abbrev WaysBelow : (OnPath → List RuleRow → Tree) → ℕ → Type 0
  WaysBelow make n = (path : OnPath) (rows : List RuleRow) → size path rows < n → AllKnown path rows → Walks vars fits (make path rows) (parts_at t path.uncovered) (first_fit t path rows)

  taken_way : (make : OnPath → List RuleRow → Tree) (path : OnPath) (row : RuleRow) (rows : List RuleRow) → AllKnown path (row ∷ rows) → WaysBelow make (size path (row ∷ rows))
      → (n : ℕ) → OpenAt row.left path.uncovered n → (h : Head) → InTable h → is_head h (tree_at t (place_numbered n path.uncovered)) ≡ true
      → Walks vars fits (make (entering n h path) (case_rows (place_numbered n path.uncovered) h (row ∷ rows))) (enter_part n (parts_at t path.uncovered)) (first_fit t path (row ∷ rows))
  taken_way make path row rows k r n o h i here =
      rw (enter_parts t w h i path.uncovered n here, ← entering_places n h path, ← first_case t path n o.new h i here (row ∷ rows) (all_live path (row ∷ rows) k))
      (r (entering n h path) (case_rows (place_numbered n path.uncovered) h (row ∷ rows)) (case_less path row rows n h o) (known_case path n o.new h i here (row ∷ rows) k))

  yes_way : (make : OnPath → List RuleRow → Tree) (path : OnPath) (row : RuleRow) (rows : List RuleRow) → AllKnown path (row ∷ rows) → WaysBelow make (size path (row ∷ rows))
      → (c : Constraint) (cs : List Constraint) → constraints_left path row ≡ c ∷ cs → Names ListIs c → holds_in t c ≡ true
      → Walks vars fits (make (holding c path) (row ∷ rows)) (parts_at t path.uncovered) (first_fit t path (row ∷ rows))
  unfolding holding
  yes_way make path row rows k r c cs q i h =
      rw (first_yes t path c i h (row ∷ rows) (all_live path (row ∷ rows) k)) at (r (holding c path) (row ∷ rows) (yes_less path row rows c cs q) (known_holding path c i h (row ∷ rows) k))

  switch_way : (make : OnPath → List RuleRow → Tree) (path : OnPath) (row : RuleRow) (rows : List RuleRow) → AllKnown path (row ∷ rows) → WaysBelow make (size path (row ∷ rows))
      → (n : ℕ) → OpenAt row.left path.uncovered n
      → Walks vars fits (Switch n (cases_of make path (row ∷ rows) n (heads (place_numbered n path.uncovered) (row ∷ rows))) (make path (default_rows (place_numbered n path.uncovered) (row ∷ rows)))) (parts_at t path.uncovered)
      (first_fit t path (row ∷ rows))
  switch_way make path row rows k r n o =
      go (cases_way make path (row ∷ rows) n (part_of n (parts_at t path.uncovered)).part (heads (place_numbered n path.uncovered) (row ∷ rows))
      (heads_tables path.uncovered (place_numbered n path.uncovered) (row ∷ rows) (all_live path (row ∷ rows) k)))
    where
      us : List Uncovered
      us = path.uncovered

      less : n < length (parts_at t us)
      less = omega (arith, length_parts t us, entered_less us n o.new)

      go : ((h : Head) × InTable h × (is_head h (part_of n (parts_at t us)).part ≡ true)
          × Takes (part_of n (parts_at t us)).part (cases_of make path (row ∷ rows) n (heads (place_numbered n us) (row ∷ rows))) (make (entering n h path) (case_rows (place_numbered n us) h (row ∷ rows))))
          ⊎ (NoneTaken (part_of n (parts_at t us)).part (cases_of make path (row ∷ rows) n (heads (place_numbered n us) (row ∷ rows))) × NoHead (heads (place_numbered n us) (row ∷ rows)) (part_of n (parts_at t us)).part)
          → Walks vars fits (Switch n (cases_of make path (row ∷ rows) n (heads (place_numbered n us) (row ∷ rows))) (make path (default_rows (place_numbered n us) (row ∷ rows)))) (parts_at t us) (first_fit t path (row ∷ rows))
      go (inl x) =
          let here : is_head x.0 (tree_at t (place_numbered n us)) ≡ true = rw (part_of_lem t us n) at x.2 in
          takes less (entered_part_lem us n o.new) x.3
          (taken_way make path row rows k r n o x.0 x.1 here)
      go (inr x) =
          defaults less x.0
          (rw (first_default t path n o.new (row ∷ rows) (all_live path (row ∷ rows) k) (rw (part_of_lem t us n) at x.1)) at
          (r path (default_rows (place_numbered n us) (row ∷ rows)) (default_less path row rows n o) (known_default path (place_numbered n us) (row ∷ rows) k)))

  node_way : (make : OnPath → List RuleRow → Tree) (path : OnPath) (row : RuleRow) (rows : List RuleRow) → AllKnown path (row ∷ rows) → WaysBelow make (size path (row ∷ rows))
      → (o : Option ℕ) → lowest_open row.left path.uncovered ≡ o → (cs : List Constraint) → constraints_left path row ≡ cs
      → Walks vars fits (node_of make path row (row ∷ rows) o cs) (parts_at t path.uncovered) (first_fit t path (row ∷ rows))
  unfolding node_of
  node_way make path row rows k r none e [] q = leaf_way path row rows k.0 e q
  node_way make path row rows k r none e (c ∷ cs) q =
      let us = path.uncovered in
      let live = all_live path (row ∷ rows) k in
      let i = first_named ListIs path row c cs k.0.live.lists q in
      test_way us c
      (first_named (λ o. Within o.place us) path row c cs (constraints_name (λ o. Within o.place us) row.left (row_within path row k.0.live e)) q)
      (first_named (DepthIs t) path row c cs (constraints_name (DepthIs t) row.left (row_depths path row k.0 e)) q)
      (first_named GoodListIs path row c cs (constraints_name GoodListIs row.left (row_lists row k.0.facts)) q)
      cs (first_one path row c cs k.0.facts.one q)
      (make (holding c path) (row ∷ rows)) (make path (rows_without c path (row ∷ rows))) (first_fit t path (row ∷ rows)) (holds_in t c) refl
      (λ h. yes_way make path row rows k r c cs q i h)
      (λ h. rw (first_no t path c i h (row ∷ rows) live) at (r path (rows_without c path (row ∷ rows)) (no_less path row rows c cs q) (known_without path c (row ∷ rows) k)))
  node_way make path row rows k r (some n) e cs q = switch_way make path row rows k r n (open_at row.left path.uncovered n e)

  step_way : (make : OnPath → List RuleRow → Tree) (path : OnPath) (rows : List RuleRow) → AllKnown path rows → WaysBelow make (size path rows) → Walks vars fits (step make path rows) (parts_at t path.uncovered) (first_fit t path rows)
  unfolding step first_fit
  step_way make path [] k r = fails
  step_way make path (row ∷ rows) k r = node_way make path row rows k r (lowest_open row.left path.uncovered) refl (constraints_left path row) refl

  way_by : (n : ℕ) → WaysBelow compile n
  way_by zero path rows h k = absurd (omega arith)
  way_by (suc n) path rows h k = rw (compile_is path rows) (step_way compile path rows k (λ p rs q l. way_by n p rs (omega arith) l))

  -- the tree of rows that are known is walked to the first that fits
  pub path_walks : (path : OnPath) (rows : List RuleRow) → AllKnown path rows → Walks vars fits (compile path rows) (parts_at t path.uncovered) (first_fit t path rows)
  path_walks path rows k = way_by (suc (size path rows)) path rows (omega arith) k

  -- ---- a path begins
  some_match : (o : Option (ℕ → Row)) → is_match o ≡ true → (b : ℕ → Row) × (o ≡ some b)
  some_match none e = never (cc)
  some_match (some b) e = (b, refl)

  pub start_bodies : (row : RuleRow) → GoodRule row.vars row.left → row_fits t start row ≡ true → (b : ℕ → Row) × ((x : ℕ) → FirstBody t (first_of x (occurrences [] 0 0 row.left)) (b x))
  start_bodies row g e =
      let m = some_match (matching row.left t) (sym (start_fits t w wide row g) ∙ e) in
      (m.0, λ x. matched_first row.vars row.left t m.0 x g.good (g.one ∙ sym wide) w m.1)

  -- what each row has, however many arguments are set aside for it of so many at the root
  abbrev pub AllFacts : ℕ → List RuleRow → Type 0
  AllFacts a [] = Unit {0}
  AllFacts a (row ∷ rows) = ((n : ℕ) → n + root_arguments row.left ≡ a → RowFacts vars fits (record { number = row.number; vars = row.vars; left = row.left; aside = n })) × AllFacts a rows

-- ---- the rows of an accepted book
-- the counts of the variables from x on
abbrev pub CountsAre : List ℕ → ℕ → List ℕ → Type 0
CountsAre left x [] = Unit {0}
CountsAre left x (k ∷ ks) = (counted x left ≡ suc k) × CountsAre left (suc x) ks

abbrev pub vars_of : Option Rule → ℕ
vars_of none = 0
vars_of (some rule) = rule.vars

abbrev pub vars_in : List ℕ → ℕ → ℕ
vars_in book number = vars_of (rule_at book number)

-- what is asked of a Leaf, at a root with so many arguments, holds for the rules of the book
abbrev pub FitsBook : List ℕ → ℕ → (LeafNode → Bool) → Type 0
FitsBook book a fits = (leaf : LeafNode) (rule : Rule) → rule_at book leaf.rule ≡ some rule → length leaf.variables ≡ rule.vars → CountsAre rule.left 0 (counts_of leaf.variables)
    → leaf.aside + root_arguments (left_in rule) ≡ a → fits leaf ≡ true

one_length : (ws : List ℕ) (cs : List Constraint) → EachNames (Counted ws) cs → OneVariable cs → OneLength cs
one_length ws [] a b = tt
one_length ws (closed_at o ∷ cs) a b = one_length ws cs a.1 b
one_length ws (same_at f o ∷ cs) a b =
    let z : counted f.var ws ≡ counted o.var ws = ap (λ (x : ℕ). counted x ws) b.0 in
    (omega (arith, z, a.0.0, a.0.1), one_length ws cs a.1 b.1)

first_count : (ws : List ℕ) (us : List Uncovered) (os : List Occurrence) → Each (Counted ws) os → (x : ℕ) (r : Option Occurrence) → first_of x os ≡ r → IsThere r → counted x ws ≡ suc (length (variable_at us r).list)
first_count ws us os a x none e h = absurd h
first_count ws us os a x (some o) e h = rw (first_variable x os o e) at (first_each (Counted ws) x os o a e)

counts_are : (ws : List ℕ) (us : List Uncovered) (os : List Occurrence) → Each (Counted ws) os → (more y : ℕ) → ((z : ℕ) → y ≤ z → z < y + more → IsThere (first_of z os)) → CountsAre ws y (counts_of (variables_from us os y more))
unfolding counts_of variables_from
counts_are ws us os a zero y h = tt
counts_are ws us os a (suc more) y h =
    (first_count ws us os a y (first_of y os) refl (h y (omega arith) (omega arith)), counts_are ws us os a more (suc y) (λ z p q. h z (omega arith) (omega arith)))

module _ (book : List ℕ) (accepted : check_book book ≡ Ok tt) (a : ℕ) (fits : LeafNode → Bool) (ok : FitsBook book a fits) where
  rule_facts : (number : ℕ) (rule : Rule) → rule_at book number ≡ some rule → (n : ℕ) → n + root_arguments (left_in rule) ≡ a
      → RowFacts (vars_in book) fits (record { number = number; vars = rule.vars; left = left_in rule; aside = n })
  rule_facts number rule e n sum =
      let f = book_rule book number rule accepted e in
      let g = accepted_good book accepted number rule e in
      let c = rule_counted rule f in
      record {
        good = g;
        low = omega (arith, rule_number book number rule e, (book_rules book accepted).1);
        few = f.few;
        as_many = sym (ap vars_of e);
        counts = λ us. ok (leaf_node_of us (record { number = number; vars = rule.vars; left = left_in rule; aside = n })) rule e (many_variables us (occurrences [] 0 0 (left_in rule)) rule.vars 0)
            (counts_are rule.left us (occurrences [] 0 0 (left_in rule)) c rule.vars 0 (λ z p q. occurs_first z [] 0 0 (left_in rule) (g.all z (omega arith)))) sum;
        one = one_length rule.left (constraints (left_in rule)) (constraints_name (Counted rule.left) (left_in rule) c) (constraints_one (left_in rule));
      }

  module _ (t : Row) (w : Formed t) (wide : width t ≡ 1) where
    facts_then : (number : ℕ) (rows : List RuleRow) → AllFacts (vars_in book) fits t w wide a rows → (o : Option Rule) → rule_at book number ≡ o → AllFacts (vars_in book) fits t w wide a (row_then number o rows)
    facts_then number rows s none e = s
    facts_then number rows s (some rule) e = (rule_facts number rule e, s)

    pub book_facts : (more number : ℕ) → AllFacts (vars_in book) fits t w wide a (book_rows book number more)
    unfolding book_rows
    book_facts zero number = tt
    book_facts (suc more) number = facts_then number (book_rows book (suc number) more) (book_facts more (suc number)) (rule_at book number) refl
