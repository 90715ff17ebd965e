-- The tree of a book, with the root Switch of its own, is walked soundly to the first rule that fits the term without the arguments set aside: below the root a row
-- that covers it names only places that the front has too, at the same depths and with the same parts.
use mathlib.Core.Path.{◌≡◌, refl, sym, ap, ◌∙◌}
use mathlib.Core.Bool.{Bool, true, false}
use mathlib.Core.List.{List, [], ◌∷◌}
use mathlib.Core.Option.{Option, none, some}
use mathlib.Core.Logic.{◌⊎◌, inl, inr}
use Prim.Native.Nat.{ℕ, ◌+◌, ◌-◌, ◌≤◌, ◌<◌}
use native.Mathlib.Omega.{arith}
use lib.ListN.{length, get_or}
use Rattle.std.specs.Prelude.{Ok}
use Rattle.term.specs.Word.{Head, symbol, abstraction, variable, pattern, count, pick, InTable}
use Rattle.term.specs.Row.{Row, nothing, node, width, Formed}
use Rattle.term.proofs.Laws.{never, count_symbol, width_nothing}
use Rattle.book.specs.Book.{check_book}
use Rattle.fit.specs.Left.{Left, end, part, wide}
use Rattle.fit.specs.Front.{root_arguments, front, covers}
use Rattle.fit.specs.Lowest.{lowest_front}
use Rattle.fit.specs.Constraint.{Place, is_head, Occurrence, occurrences, first_of, body_here, body_at}
use Rattle.fit.proofs.Laws.{accepted_good, root_arguments_lem, Each, first_each, FirstBody, body_at_lem, front_formed, width_front, Through, tree_at_front, covered_as}
use Rattle.tree.specs.Tree.{LeafNode, Fail, Switch, Case}
use Rattle.tree.specs.Path.{start}
use Rattle.tree.specs.Rows.{RuleRow}
use Rattle.tree.specs.Compile.{entering, compile, book_rows}
use Rattle.tree.specs.Find.{root_count, root_part, part_of, enter_part}
use Rattle.tree.specs.Root.{root_heads, setting_aside, root_case_rows, root_cases, root_tree, book_tree}
use Rattle.tree.proofs.Parts.{depth_at, DepthIs}
use Rattle.tree.proofs.Firsts.{NoHead}
use Rattle.tree.proofs.Finds.{InTables, entering_places}
use Rattle.tree.proofs.Books.{AllGood, start_open, depths_start, good_rows}
use Rattle.tree.proofs.Walks.{Takes, takes_first, takes_later, NoneTaken, no_cases, other_case, Walks, fails, takes, defaults}
use Rattle.tree.proofs.Ways.{RowFacts, Known, AllKnown, path_walks, start_bodies, AllFacts, vars_in, FitsBook, book_facts}
use Rattle.tree.proofs.RootHeads.{root_heads_table}
use Rattle.tree.proofs.RootLowest.{front_lowest}
use Rattle.tree.proofs.Roots.{first_front, Rooted, AllRooted, all_rooted, same_depth, depth_front, opens, named, row_front, live_covered, first_root, root_entered, none_first, head_is_root, rooted_rows}

-- ---- what the front has at the places that stay, the term has there
module _ (b : ℕ) (t : Row) (d : (p : Place) → Through b p → depth_at (front b t) p ≡ depth_at t p) where
  depths_stay : (os : List Occurrence) → Each (λ o. Through b o.place) os → Each (DepthIs (front b t)) os → Each (DepthIs t) os
  depths_stay [] s a = tt
  depths_stay (o ∷ os) s a = (a.0 ∙ d o.place s.0, depths_stay os s.1 a.1)

  body_stays : (o : Occurrence) → Through b o.place → body_at t o ≡ body_at (front b t) o
  body_stays o s = body_at_lem t o ∙ ap (λ (f : Row). body_here o.depth o.list f) (sym (tree_at_front b t o.place s)) ∙ sym (body_at_lem (front b t) o)

  first_stays : (os : List Occurrence) → Each (λ o. Through b o.place) os → (x : ℕ) (c : Row) (r : Option Occurrence) → first_of x os ≡ r → FirstBody (front b t) r c → FirstBody t r c
  first_stays os s x c none e f = f
  first_stays os s x c (some o) e f = body_stays o (first_each (λ q. Through b q.place) x os o s e) ∙ f

-- what is set aside and what stays are all arguments of a root that is covered
few_enough : (g : Head) (left : Left) → Rooted left → covers left g ≡ true → count g - root_arguments left + root_arguments left ≡ count g
few_enough g left r e =
    let c = covered_as r.ident r.arguments r.kids end g (rw r.is at e) in
    let n : count g ≡ c.arguments = ap count c.is ∙ count_symbol r.ident c.arguments in
    let b : root_arguments left ≡ r.arguments = ap root_arguments r.is ∙ root_arguments_lem (symbol r.ident r.arguments) r.kids end ∙ count_symbol r.ident r.arguments in
    omega (arith, n, b, c.few)

-- ---- a row that covers the root is known below it
module _ (vars : ℕ → ℕ) (fits : LeafNode → Bool) where
  covered_known : (j b a : ℕ) (ts rs : Row) → b ≤ a → (w : Formed (node (symbol j a) ts rs)) (one : width (node (symbol j a) ts rs) ≡ 1) (row : RuleRow) (kids : Left) → row.left ≡ part (symbol j b) kids end → wide kids ≡ b
      → RowFacts vars fits row → Rooted row.left → covers row.left (symbol j a) ≡ true → Known vars fits (node (symbol j a) ts rs) w one (entering 0 (symbol j a) start) row
  covered_known j b a ts rs l w one row kids e n f r c =
      record {
        live = rw (entering_places 0 (symbol j a) start) (live_covered (symbol j a) row f.good r c);
        facts = f;
        deep = rw (entering_places 0 (symbol j a) start, count_symbol j a) (λ q. depths_stay b t deep os inn (depths_start (front b t) v u row f.good (sym (start_open (front b t) row.left f.good.one) ∙ sym (opens j b a ts rs l row kids e n) ∙ q)));
        bodies = λ q. let m = start_bodies vars fits (front b t) v u row f.good (sym (row_front j b a ts rs l row kids e n) ∙ q) in (m.0, λ x. first_stays b t deep os inn x (m.0 x) (first_of x os) refl (m.1 x));
      }
    where
      t : Row
      t = node (symbol j a) ts rs

      v : Formed (front b t)
      v = front_formed b t w

      u : width (front b t) ≡ 1
      u = width_front b t ∙ one

      os : List Occurrence
      os = occurrences [] 0 0 row.left

      inn : Each (λ o. Through b o.place) os
      inn = named j b a ts rs l row kids e n

      deep : (p : Place) → Through b p → depth_at (front b t) p ≡ depth_at t p
      deep = depth_front b t (same_depth j b a ts rs l)

  same_symbol : (i a j b : ℕ) → symbol i a ≡ symbol j b → (i ≡ j) × (a ≡ b)
  same_symbol i a j b e = (cc, cc)

  row_known : (g : Head) (ts rs : Row) (w : Formed (node g ts rs)) (one : width (node g ts rs) ≡ 1) (row : RuleRow) → RowFacts vars fits row → Rooted row.left → covers row.left g ≡ true
      → Known vars fits (node g ts rs) w one (entering 0 g start) row
  row_known (symbol i a) ts rs w one row f r e =
      let c = covered_as r.ident r.arguments r.kids end (symbol i a) (rw r.is at e) in
      let z = same_symbol i a r.ident c.arguments c.is in
      covered_known i r.arguments a ts rs (omega (arith, z.1, c.few)) w one row r.kids (r.is ∙ ap (λ (k : ℕ). part (symbol k r.arguments) r.kids end) (sym z.0)) r.full f r e
  row_known abstraction ts rs w one row f r e =
      let c = (covered_as r.ident r.arguments r.kids end abstraction (rw r.is at e)).is in
      never (cc)
  row_known (variable i) ts rs w one row f r e =
      let c = (covered_as r.ident r.arguments r.kids end (variable i) (rw r.is at e)).is in
      never (cc)
  row_known (pattern i k) ts rs w one row f r e =
      let c = (covered_as r.ident r.arguments r.kids end (pattern i k) (rw r.is at e)).is in
      never (cc)

  case_known : (g : Head) (ts rs : Row) (w : Formed (node g ts rs)) (one : width (node g ts rs) ≡ 1) (rows : List RuleRow) → AllGood rows → AllFacts vars fits (node g ts rs) w one (count g) rows → AllRooted rows
      → AllKnown vars fits (node g ts rs) w one (entering 0 g start) (root_case_rows g rows)
  unfolding root_case_rows
  case_known g ts rs w one [] good a s = tt
  case_known g ts rs w one (row ∷ rows) good a s = go (covers row.left g) refl (case_known g ts rs w one rows good.1 a.1 s.1)
    where
      go : (c : Bool) → covers row.left g ≡ c → AllKnown vars fits (node g ts rs) w one (entering 0 g start) (root_case_rows g rows)
          → AllKnown vars fits (node g ts rs) w one (entering 0 g start) (pick c (setting_aside g row ∷ root_case_rows g rows) (root_case_rows g rows))
      go true e r = (row_known g ts rs w one (setting_aside g row) (a.0 (count g - root_arguments row.left) (few_enough g row.left s.0 e)) s.0 e, r)
      go false e r = r

  -- ---- the case of the term's root
  case_walks : (g : Head) (ts rs : Row) (w : Formed (node g ts rs)) (one : width (node g ts rs) ≡ 1) (rows : List RuleRow) → AllGood rows → AllFacts vars fits (node g ts rs) w one (count g) rows → AllRooted rows → (h : Head) → g ≡ h
      → Walks vars fits (compile (entering 0 h start) (root_case_rows h rows)) (enter_part 0 (root_part (node g ts rs))) (first_front (node g ts rs) rows)
  case_walks g ts rs w one rows good a s h z =
      rw (← z, root_entered g ts rs w one, ← first_root g ts rs w one rows good s)
      (path_walks vars fits (node g ts rs) w one (entering 0 g start) (root_case_rows g rows) (case_known g ts rs w one rows good a s))

  -- the first case whose head stands there, or none
  root_way : (rows : List RuleRow) (f : Row) (hs : List Head) → InTables hs
      → ((h : Head) × InTable h × (is_head h f ≡ true) × Takes f (root_cases rows hs) (compile (entering 0 h start) (root_case_rows h rows))) ⊎ (NoneTaken f (root_cases rows hs) × NoHead hs f)
  unfolding root_cases
  root_way rows f [] i = inr (no_cases, tt)
  root_way rows f (h ∷ hs) i = go (is_head h f) refl (root_way rows f hs i.1)
    where
      go : (b : Bool) → is_head h f ≡ b
          → ((g : Head) × InTable g × (is_head g f ≡ true) × Takes f (root_cases rows hs) (compile (entering 0 g start) (root_case_rows g rows))) ⊎ (NoneTaken f (root_cases rows hs) × NoHead hs f)
          → ((g : Head) × InTable g × (is_head g f ≡ true) × Takes f (Case h (compile (entering 0 h start) (root_case_rows h rows)) (root_cases rows hs)) (compile (entering 0 g start) (root_case_rows g rows)))
          ⊎ (NoneTaken f (Case h (compile (entering 0 h start) (root_case_rows h rows)) (root_cases rows hs)) × NoHead (h ∷ hs) f)
      go true e r = inl (h, i.0, e, takes_first e)
      go false e (inl x) = inl (x.0, x.1, x.2, takes_later e x.3)
      go false e (inr x) = inr (other_case e x.0, (e, x.1))

  switch_walks : (g : Head) (ts rs : Row) (w : Formed (node g ts rs)) (one : width (node g ts rs) ≡ 1) (rows : List RuleRow) → AllGood rows → AllFacts vars fits (node g ts rs) w one (count g) rows → AllRooted rows
      → Walks vars fits (Switch 0 (root_cases rows (root_heads rows)) Fail) (root_part (node g ts rs)) (first_front (node g ts rs) rows)
  unfolding part_of
  switch_walks g ts rs w one rows good a s = go (root_way rows t (root_heads rows) (root_heads_table rows (all_rooted rows s)))
    where
      t : Row
      t = node g ts rs

      less : 0 < length (root_part t)
      less = omega arith

      go : ((h : Head) × InTable h × (is_head h t ≡ true) × Takes t (root_cases rows (root_heads rows)) (compile (entering 0 h start) (root_case_rows h rows))) ⊎ (NoneTaken t (root_cases rows (root_heads rows)) × NoHead (root_heads rows) t)
          → Walks vars fits (Switch 0 (root_cases rows (root_heads rows)) Fail) (root_part t) (first_front t rows)
      go (inl x) = takes less refl x.3 (case_walks g ts rs w one rows good a s x.0 (head_is_root x.0 g ts rs x.1 w x.2))
      go (inr x) = rw (none_first rows g ts rs w x.1 rows s (λ i b z. z)) (defaults less x.0 fails)

  -- the tree of the rows of rules is walked soundly, to the first rule that fits the term without the arguments set aside
  pub root_walks : (t : Row) (w : Formed t) (one : width t ≡ 1) (rows : List RuleRow) → AllGood rows → AllFacts vars fits t w one (root_count t) rows → AllRooted rows → Walks vars fits (root_tree rows) (root_part t) (first_front t rows)
  unfolding root_tree first_front root_count
  root_walks nothing w one rows good a s = absurd (omega (arith, width_nothing, one))
  root_walks (node g ts rs) w one [] good a s = fails
  root_walks (node g ts rs) w one (row ∷ rows) good a s = switch_walks g ts rs w one (row ∷ rows) good a s

-- ---- an accepted book
module _ (book : List ℕ) (accepted : check_book book ≡ Ok tt) (t : Row) (w : Formed t) (wide : width t ≡ 1) (fits : LeafNode → Bool) (ok : FitsBook book (root_count t) fits) where
  -- THE THEOREM: the tree of an accepted book is walked soundly in every term, to the lowest rule that fits the term without the arguments set aside
  pub book_walks : Walks (vars_in book) fits (book_tree book) (root_part t) (lowest_front book 0 (get_or book 0 0) t)
  unfolding book_tree
  book_walks =
      let n = get_or book 0 0 in
      rw (front_lowest book t n 0) at
      (root_walks (vars_in book) fits t w wide (book_rows book 0 n) (good_rows book (accepted_good book accepted) n 0) (book_facts book accepted (root_count t) fits ok t w wide n 0) (rooted_rows book accepted n 0))
