-- Over a layout the walk is the walk of the tree, with the visits in the tree, and never damaged; over the layout of an accepted book's tree it finds the lowest rule that fits the
-- term without the arguments set aside.
use mathlib.Core.Path.{◌≡◌, refl, ap, ◌∙◌}
use mathlib.Core.Bool.{Bool, true, false}
use mathlib.Core.List.{List, [], ◌∷◌}
use mathlib.Core.Option.{Option, none, some}
use Prim.Native.Nat.{ℕ, suc, ◌+◌, ◌≤◌, ◌<◌}
use native.Mathlib.Omega.{arith}
use lib.Dec.{eqb}
use lib.ListN.{length, get_or}
use borrow.Author.Tests.{le-leb, eq-eqb}
use Rattle.std.specs.Prelude.{Ok}
use Rattle.term.specs.Word.{pick}
use Rattle.term.specs.Row.{Row, width, Formed}
use Rattle.term.specs.Part.{is_some, same_o}
use Rattle.term.proofs.Laws.{and_both}
use Rattle.book.specs.Rule.{counted}
use Rattle.book.specs.Book.{check_book}
use Rattle.fit.specs.Lowest.{Fitting, lowest_front}
use Rattle.tree.specs.Tree.{LeafNode, counts_of, Tree, Cases}
use Rattle.tree.specs.Root.{book_tree}
use Rattle.tree.specs.Find.{PartAt, root_count, root_part, part_of, enter_part, body_for, leaf_fitting}
use Rattle.tree.proofs.Laws.{Lies, lies_inside, switch_lies, closed_lies, same_lies, Takes, takes_first, takes_later, NoneTaken, no_cases, other_case, Walks, fails, ends, takes, defaults, closed_yes, closed_no, same_yes, same_no, CountsAre, vars_in, FitsBook, book_walks}
use Rattle.walk.specs.Walk.{Walked, NoneFits, RuleFits, Next, Ends, Goes, go_to, next_at, follow, walk_from, walk, visits_after, visits_from, visits, counts_fit, left_count, book_fits, no_book}
use Rattle.walk.specs.Visits.{visits_in, visits_in_cases}
use Rattle.walk.proofs.Nodes.{goes, next_fail, next_leaf, case_taken, next_case, next_default, next_closed, next_same}
use Rattle.walk.proofs.Steps.{walk_is}
use Rattle.walk.proofs.Visits.{visits_is, visits_walked}
use Rattle.walk.proofs.RootCounts.{left_counts}

-- how a walk ends that finds this: `vars` says how many variables a rule has
abbrev pub walked_of : (ℕ → ℕ) → Option Fitting → Walked
walked_of vars none = NoneFits
walked_of vars (some f) = RuleFits f (vars f.number)

-- the visits below the case that is taken, and below the default
cases_taken : (f : Row) (cs : Cases) (x : Tree) (ps : List PartAt) (other : ℕ) → Takes f cs x → visits_in_cases cs f ps other ≡ visits_in x ps
unfolding visits_in
cases_taken f cs x ps other (takes_first {h = h} {x = y} {cs = ds} e) = rw e
cases_taken f cs x ps other (takes_later {h = h} {x = z} {y = y} {cs = ds} e t) = rw e (cases_taken f ds y ps other t)

cases_passed : (f : Row) (cs : Cases) (ps : List PartAt) (other : ℕ) → NoneTaken f cs → visits_in_cases cs f ps other ≡ other
unfolding visits_in
cases_passed f cs ps other no_cases = refl
cases_passed f cs ps other (other_case {h = h} {x = x} {cs = ds} e n) = rw e (cases_passed f ds ps other n)

module _ (vars : ℕ → ℕ) (fits : LeafNode → Bool) (table : List ℕ) where
  -- the walk from an address ends so, after so many visits
  abbrev pub Ended : ℕ → List PartAt → Walked → ℕ → Type 0
  Ended at ps w v = (walk_from fits table at ps ≡ w) × (visits_from table at ps ≡ v)

  -- where a node leads
  ends_at : (at : ℕ) (ps : List PartAt) (w u : Walked) → next_at fits table at ps ≡ Ends w → w ≡ u → Ended at ps u 1
  ends_at at ps w u e q =
      (walk_is fits table at ps ∙ ap (follow (walk_from fits table)) e ∙ q, visits_is table fits at ps ∙ ap (λ (next : Next). suc (visits_after (visits_from table) next)) e)

  leads_to : (at to : ℕ) (ps qs : List PartAt) (w : Walked) (v : ℕ) → next_at fits table at ps ≡ Goes to qs → Ended to qs w v → Ended at ps w (suc v)
  leads_to at to ps qs w v e q = (
    walk_is fits table at ps ∙ ap (follow (walk_from fits table)) e ∙ q.0,
    visits_is table fits at ps ∙ ap (λ (next : Next). suc (visits_after (visits_from table) next)) e ∙ ap suc q.1,
  )

  test_leads : (at yes_at no_at : ℕ) (ps : List PartAt) (b : Bool) (test : Bool) → test ≡ b → at < pick b yes_at no_at → pick b yes_at no_at < length table
      → next_at fits table at ps ≡ go_to table at (pick test yes_at no_at) ps → next_at fits table at ps ≡ Goes (pick b yes_at no_at) ps
  test_leads at yes_at no_at ps b test e l i q = q ∙ ap (λ (x : Bool). go_to table at (pick x yes_at no_at) ps) e ∙ goes table at (pick b yes_at no_at) ps l i

  laid : (tree : Tree) (ps : List PartAt) (r : Option Fitting) → Walks vars fits tree ps r → (at : ℕ) → Lies table at tree → Ended at ps (walked_of vars r) (visits_in tree ps)
  unfolding visits_in
  laid tree ps r (fails {ps = qs}) at l = ends_at at qs NoneFits NoneFits (next_fail fits table at qs l) refl
  laid tree ps r (ends {ps = qs} {leaf = leaf} low few many fit s) at l =
      ends_at at qs (RuleFits (leaf_fitting qs leaf) (length leaf.variables)) (RuleFits (leaf_fitting qs leaf) (vars leaf.rule))
      (next_leaf fits table at qs leaf l low few fit s) (ap (RuleFits (leaf_fitting qs leaf)) many)
  laid tree ps r (takes {ps = qs} {r = s} {n = n} {cs = cs} {x = x} {default = d} less new t w) at l =
      let k = switch_lies table at n cs d l in
      let c = case_taken table (part_of n qs).part cs x (k.other ∷ k.after) t k.next k.cases in
      rw (cases_taken (part_of n qs).part cs x (enter_part n qs) (visits_in d qs) t)
      (leads_to at c.to qs (enter_part n qs) (walked_of vars s) (visits_in x (enter_part n qs)) (next_case fits table at qs n cs d x k less new c) (laid x (enter_part n qs) s w c.to c.lies))
  laid tree ps r (defaults {ps = qs} {r = s} {n = n} {cs = cs} {default = d} less t w) at l =
      let k = switch_lies table at n cs d l in
      rw (cases_passed (part_of n qs).part cs (enter_part n qs) (visits_in d qs) t)
      (leads_to at k.other qs qs (walked_of vars s) (visits_in d qs) (next_default fits table at qs n cs d k less t) (laid d qs s w k.other k.otherwise))
  laid tree ps r (closed_yes {ps = qs} {r = s} {n = n} {ys = ys} {ifYes = a} {ifNo = b} p e w) at l =
      let k = closed_lies table at n ys a b l in
      rw e
      (leads_to at k.yes_at qs qs (walked_of vars s) (visits_in a qs)
      (test_leads at k.yes_at k.no_at qs true (is_some (body_for qs n ys)) e k.later_yes (lies_inside table k.yes_at a k.yes_lies) (next_closed fits table at qs n ys a b k p))
      (laid a qs s w k.yes_at k.yes_lies))
  laid tree ps r (closed_no {ps = qs} {r = s} {n = n} {ys = ys} {ifYes = a} {ifNo = b} p e w) at l =
      let k = closed_lies table at n ys a b l in
      rw e
      (leads_to at k.no_at qs qs (walked_of vars s) (visits_in b qs)
      (test_leads at k.yes_at k.no_at qs false (is_some (body_for qs n ys)) e k.later_no (lies_inside table k.no_at b k.no_lies) (next_closed fits table at qs n ys a b k p))
      (laid b qs s w k.no_at k.no_lies))
  laid tree ps r (same_yes {ps = qs} {r = s} {n = n} {m = m} {ys = ys} {zs = zs} {ifYes = a} {ifNo = b} p q z e w) at l =
      let k = same_lies table at n m ys zs a b l in
      rw e
      (leads_to at k.yes_at qs qs (walked_of vars s) (visits_in a qs)
      (test_leads at k.yes_at k.no_at qs true (same_o (body_for qs n ys) (body_for qs m zs)) e k.later_yes (lies_inside table k.yes_at a k.yes_lies) (next_same fits table at qs n m ys zs a b k p q z))
      (laid a qs s w k.yes_at k.yes_lies))
  laid tree ps r (same_no {ps = qs} {r = s} {n = n} {m = m} {ys = ys} {zs = zs} {ifYes = a} {ifNo = b} p q z e w) at l =
      let k = same_lies table at n m ys zs a b l in
      rw e
      (leads_to at k.no_at qs qs (walked_of vars s) (visits_in b qs)
      (test_leads at k.yes_at k.no_at qs false (same_o (body_for qs n ys) (body_for qs m zs)) e k.later_no (lies_inside table k.no_at b k.no_lies) (next_same fits table at qs n m ys zs a b k p q z))
      (laid b qs s w k.no_at k.no_lies))

  module _ (tree : Tree) (ps : List PartAt) (r : Option Fitting) (w : Walks vars fits tree ps r) (at : ℕ) (l : Lies table at tree) where
    pub walk_laid : walk_from fits table at ps ≡ walked_of vars r
    walk_laid = (laid tree ps r w at l).0

    pub visits_laid : visits_from table at ps ≡ visits_in tree ps
    visits_laid = (laid tree ps r w at l).1

  -- over a table that begins with a tree that is walked soundly in a term
  pub visits_begun : (tree : Tree) (t : Row) (r : Option Fitting) → Walks vars fits tree (root_part t) r → length table ≤ 16384 → Lies table 0 tree → visits table t ≡ visits_in tree (root_part t)
  visits_begun tree t r w short l = visits_walked table t short ∙ visits_laid tree (root_part t) r w 0 l

-- ---- what is asked of a Leaf
none_given : (book : List ℕ) (a : ℕ) → FitsBook book a (no_book a)
unfolding no_book
none_given book a leaf rule e n c s = le-leb leaf.aside a (omega (arith, s))

counts_fit_lem : (left : List ℕ) (x : ℕ) (ks : List ℕ) → CountsAre left x ks → counts_fit left x ks ≡ true
unfolding counts_fit
counts_fit_lem left x [] c = refl
counts_fit_lem left x (k ∷ ks) c = and_both (eqb (counted x left) (suc k)) (counts_fit left (suc x) ks) (eq-eqb (counted x left) (suc k) c.0) (counts_fit_lem left (suc x) ks c.1)

book_given : (book : List ℕ) → check_book book ≡ Ok tt → (a : ℕ) → FitsBook book a (book_fits book a)
unfolding book_fits
book_given book accepted a leaf rule e n c s =
    let l : leaf.aside + left_count rule.left ≡ a = rw (left_counts book accepted leaf.rule rule e) s in
    rw (e, eq-eqb (length leaf.variables) rule.vars n, eq-eqb (leaf.aside + left_count rule.left) a l) (counts_fit_lem rule.left 0 (counts_of leaf.variables) c)

-- ---- a table that begins with an accepted book's tree, whatever follows it
module _ (book : List ℕ) (accepted : check_book book ≡ Ok tt) (t : Row) (formed : Formed t) (one : width t ≡ 1) where
  begun : (fits : ℕ → LeafNode → Bool) → FitsBook book (root_count t) (fits (root_count t)) → (table : List ℕ) → length table ≤ 16384 → Lies table 0 (book_tree book)
      → walk fits table t ≡ walked_of (vars_in book) (lowest_front book 0 (get_or book 0 0) t)
  unfolding walk
  begun fits ok table short l =
      rw (le-leb (length table) 16384 short)
      (walk_laid (vars_in book) (fits (root_count t)) table (book_tree book) (root_part t) (lowest_front book 0 (get_or book 0 0) t) (book_walks book accepted t formed one (fits (root_count t)) ok) 0 l)

  -- with no book given
  pub begun_alone : (table : List ℕ) → length table ≤ 16384 → Lies table 0 (book_tree book) → walk no_book table t ≡ walked_of (vars_in book) (lowest_front book 0 (get_or book 0 0) t)
  begun_alone = begun no_book (none_given book (root_count t))

  -- with the book given too
  pub begun_with : (table : List ℕ) → length table ≤ 16384 → Lies table 0 (book_tree book) → walk (book_fits book) table t ≡ walked_of (vars_in book) (lowest_front book 0 (get_or book 0 0) t)
  begun_with = begun (book_fits book) (book_given book accepted (root_count t))

  -- the visits are those in the book's tree
  pub begun_visits : (table : List ℕ) → length table ≤ 16384 → Lies table 0 (book_tree book) → visits table t ≡ visits_in (book_tree book) (root_part t)
  begun_visits table short l =
      visits_begun (vars_in book) (no_book (root_count t)) table (book_tree book) t (lowest_front book 0 (get_or book 0 0) t)
      (book_walks book accepted t formed one (no_book (root_count t)) (none_given book (root_count t))) short l
