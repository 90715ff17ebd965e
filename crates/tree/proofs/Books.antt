-- What a row asks at the start of a path is that its rule fits: so the first row that fits there is the first whose left side matches.
use mathlib.Core.Path.{◌≡◌, refl, sym, ap, ◌∙◌, fun_ext}
use mathlib.Core.Bool.{Bool, true, false, ◌&&◌}
use mathlib.Core.List.{List, [], ◌∷◌}
use mathlib.Core.Option.{Option, none, some}
use Prim.Native.Nat.{ℕ, zero, suc}
use native.Mathlib.Omega.{arith}
use lib.Dec.{ltb}
use borrow.Author.Tests.{ltb-false}
use Rattle.term.specs.Word.{pick}
use Rattle.term.specs.Row.{Row, nothing, node, width, Formed}
use Rattle.term.proofs.Laws.{and_left, width_nothing, width_node}
use Rattle.book.specs.Book.{Rule, rule_at}
use Rattle.fit.specs.Left.{Left, wide}
use Rattle.fit.specs.Fit.{matching}
use Rattle.fit.specs.Match.{left_in}
use Rattle.fit.specs.Constraint.{tree, shape_fits, Occurrence, occurrences, first_of, constraints, all_hold}
use Rattle.fit.specs.Lowest.{Fitting, or_next}
use Rattle.fit.proofs.Laws.{GoodRule, is_match, fits_constraints, under_root, at_child, tree_first, Each, first_each, constraints_name, occurs_first, beyond_first, FirstBody, matched_first}
use Rattle.tree.specs.Path.{children_from, root, start}
use Rattle.tree.specs.Rows.{RuleRow, subs_under, constraints_left}
use Rattle.tree.specs.Compile.{row_then, book_rows}
use Rattle.tree.specs.Find.{root_part, body_or}
use Rattle.tree.proofs.Subs.{from_start, subs_root, good_full}
use Rattle.tree.proofs.Parts.{depth_under, depth_at, parts_at, DepthIs, depths_are}
use Rattle.tree.proofs.Fits.{open_fits, children_open}
use Rattle.tree.proofs.Holds.{all_in, ListIs, lists_are, unstruck_none, body_there_lem, all_is}
use Rattle.tree.proofs.Covers.{start_covered}
use Rattle.tree.proofs.Firsts.{Live, row_fits, first_body, row_bodies, or_first, fitting, first_fit}

-- each row is a good rule
abbrev pub AllGood : List RuleRow → Type 0
AllGood [] = Unit {0}
AllGood (row ∷ rows) = GoodRule row.vars row.left × AllGood rows

-- the first row whose left side matches the term
unfoldable pub first_match : Row → List RuleRow → Option Fitting
first_match t [] = none
first_match t (row ∷ rows) = or_next row.number row.aside (matching row.left t) (first_match t rows)

-- ---- a path begins
pub live_start : (row : RuleRow) → GoodRule row.vars row.left → Live (root ∷ []) row
live_start row g =
    record {
      full = good_full row.vars 0 row.left g.good;
      covered = start_covered row.left g.one;
      lists = constraints_name ListIs row.left (lists_are row.vars [] 0 0 row.left g.good);
      there = λ x h. occurs_first x [] 0 0 row.left (g.all x h);
    }

empty : (f : Row) → width f ≡ 0 → f ≡ nothing
empty nothing e = refl
empty (node h kids rest) e = absurd (omega (arith, width_node h kids rest, e))

one_tree : (t : Row) → width t ≡ 1 → tree t 0 ≡ t
one_tree nothing e = absurd (omega (arith, width_nothing, e))
one_tree (node h kids rest) e =
    let r : rest ≡ nothing = empty rest (omega (arith, width_node h kids rest, e)) in
    tree_first h kids rest ∙ ap (node h kids) (sym r)

pub root_parts : (t : Row) → width t ≡ 1 → parts_at t (root ∷ []) ≡ root_part t
unfolding parts_at depth_at depth_under
root_parts t one = rw (at_child t 0 [], under_root t, one_tree t one)

only_root : (t : Row) (left : Left) → open_fits t left (children_from [] 0 1) ≡ open_fits t left (root ∷ [])
unfolding children_from
only_root t left = refl

pub start_open : (t : Row) (left : Left) → wide left ≡ 1 → open_fits t left (root ∷ []) ≡ shape_fits t [] 0 left
start_open t left one = sym (children_open t left [] 0 left (from_start (subs_under left []) ∙ subs_root left) ∙ rw one (only_root t left))

-- ---- what a row asks at the start is that its rule fits
module _ (t : Row) (w : Formed t) (one : width t ≡ 1) where
  depth_root : depth_under t [] ≡ 0
  unfolding depth_under
  depth_root = refl

  pub depths_start : (row : RuleRow) → GoodRule row.vars row.left → shape_fits t [] 0 row.left ≡ true → Each (DepthIs t) (occurrences [] 0 0 row.left)
  depths_start row g s = depths_are t w [] 0 0 row.left (good_full row.vars 0 row.left g.good) depth_root s

  pub start_fits : (row : RuleRow) → GoodRule row.vars row.left → row_fits t start row ≡ is_match (matching row.left t)
  unfolding row_fits constraints_left
  start_fits row g =
      rw (start_open t row.left g.one, unstruck_none (constraints row.left), fits_constraints row.vars row.left t g.good (g.one ∙ sym one) w)
      (go (shape_fits t [] 0 row.left) refl)
    where
      go : (b : Bool) → shape_fits t [] 0 row.left ≡ b → b && all_in t (constraints row.left) ≡ b && all_hold t (constraints row.left)
      go true s = all_is t (constraints row.left) (constraints_name (DepthIs t) row.left (depths_start row g s))
      go false s = refl

  -- the bodies are those of matching
  first_body_lem : (row : RuleRow) → Each (DepthIs t) (occurrences [] 0 0 row.left) → (x : ℕ) (b : Row) (r : Option Occurrence) → first_of x (occurrences [] 0 0 row.left) ≡ r → FirstBody t r b → first_body t r ≡ b
  first_body_lem row d x b none e f = sym f
  first_body_lem row d x b (some o) e f = ap body_or (body_there_lem t o (first_each (DepthIs t) x (occurrences [] 0 0 row.left) o d e) ∙ f)

  body_at_start : (row : RuleRow) → GoodRule row.vars row.left → Each (DepthIs t) (occurrences [] 0 0 row.left) → (b : ℕ → Row) → matching row.left t ≡ some b → (x : ℕ) → row_bodies t row x ≡ b x
  unfolding row_bodies
  body_at_start row g d b e x = go (ltb x row.vars) refl
    where
      found : FirstBody t (first_of x (occurrences [] 0 0 row.left)) (b x)
      found = matched_first row.vars row.left t b x g.good (g.one ∙ sym one) w e

      go : (c : Bool) → ltb x row.vars ≡ c → pick c (first_body t (first_of x (occurrences [] 0 0 row.left))) nothing ≡ b x
      go true q = first_body_lem row d x (b x) (first_of x (occurrences [] 0 0 row.left)) refl found
      go false q = sym (rw (beyond_first row.vars x [] 0 0 row.left g.good (ltb-false x row.vars q)) at found)

  pub match_shape : (row : RuleRow) → GoodRule row.vars row.left → (b : ℕ → Row) → matching row.left t ≡ some b → shape_fits t [] 0 row.left ≡ true
  match_shape row g b e =
      and_left (shape_fits t [] 0 row.left) (all_hold t (constraints row.left))
      (sym (fits_constraints row.vars row.left t g.good (g.one ∙ sym one) w) ∙ ap is_match e)

  row_step : (row : RuleRow) → GoodRule row.vars row.left → (o : Option (ℕ → Row)) → matching row.left t ≡ o → (p q : Option Fitting) → p ≡ q
      → or_first (is_match o) (fitting t row) p ≡ or_next row.number row.aside o q
  row_step row g none e p q r = r
  row_step row g (some b) e p q r =
      ap (λ (c : ℕ → Row). some (record { number = row.number; aside = row.aside; bodies = c })) (fun_ext (body_at_start row g (depths_start row g (match_shape row g b e)) b e))

  pub first_match_lem : (rows : List RuleRow) → AllGood rows → first_fit t start rows ≡ first_match t rows
  unfolding first_fit first_match
  first_match_lem [] a = refl
  first_match_lem (row ∷ rows) a =
      rw (start_fits row a.0) (row_step row a.0 (matching row.left t) refl (first_fit t start rows) (first_match t rows) (first_match_lem rows a.1))

-- ---- the rows of a book
good_then : (book : List ℕ) (number : ℕ) (rows : List RuleRow) → ((n : ℕ) (rule : Rule) → rule_at book n ≡ some rule → GoodRule rule.vars (left_in rule)) → AllGood rows
    → (o : Option Rule) → rule_at book number ≡ o → AllGood (row_then number o rows)
good_then book number rows g a none e = a
good_then book number rows g a (some rule) e = (g number rule e, a)

pub good_rows : (book : List ℕ) → ((n : ℕ) (rule : Rule) → rule_at book n ≡ some rule → GoodRule rule.vars (left_in rule)) → (more number : ℕ) → AllGood (book_rows book number more)
unfolding book_rows
good_rows book g zero number = tt
good_rows book g (suc more) number = good_then book number (book_rows book (suc number) more) g (good_rows book g more (suc number)) (rule_at book number) refl
