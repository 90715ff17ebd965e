-- A row of a left side that stands, and what each way through the building walk tells of it.
use mathlib.Core.Path.{◌≡◌, refl, sym, ap, ◌∙◌}
use mathlib.Core.List.{List, ◌++◌}
use Prim.Native.Nat.{ℕ, suc, ◌+◌, ◌-◌, ◌≤◌, ◌<◌}
use native.Mathlib.Omega.{arith}
use lib.ListN.{length}
use Rattle.term.specs.Word.{Head, symbol, abstraction, variable, pattern, InTable}
use Rattle.term.specs.Row.{Row, nothing, node, width, words, ranks, ◌⧺◌}
use Rattle.term.specs.Renumber.{inside, to_term}
use Rattle.term.proofs.Laws.{width_node, width_join, ranks_nothing, ranks_node, ranks_join, rank_symbol, rank_abstraction, words_nothing, abstraction_in_table, join_nothing, term_keeps, inside_symbol, inside_abstraction}
use Rattle.book.specs.Rule.{ids_of}
use Rattle.std.specs.Prelude.{Some, None}
use Rattle.fit.specs.Left.{Left, end, hole, part, ids_or, left_of}
use Rattle.fit.specs.Fit.{build}
use Rattle.fit.specs.Told.Told.{LeftRow, LeftStands, Offsets}
use Rattle.fit.specs.Build.{words_at, given_bodies}
use Rattle.fit.specs.Told.BuildWalk.{Given, BothBuilt, LeftBuilt}
use Rattle.fit.proofs.Basics.{tree_before}
use Rattle.fit.proofs.FitRow.{length_split, LeftFirst, left_first}
use Rattle.fit.proofs.Standing.{term_standing}
use Rattle.fit.proofs.Building.{row_none, row_first_over, row_then_lem}

-- ---- building, tree by tree
build_split : (vars : ℕ) (b : ℕ → Row) (d : ℕ) (h : Head) (kids rest : Row) → LeftRow vars d (node h kids rest)
    → build b d (left_of (node h kids rest)) ≡ build b d (left_of (node h kids nothing)) ⧺ build b d (left_of rest)
unfolding build left_of LeftRow
build_split vars b d (symbol i c) kids rest p = sym (tree_before (symbol i c) (build b (inside (symbol i c) d) (left_of kids)) (build b d (left_of rest)))
build_split vars b d abstraction kids rest p = sym (tree_before abstraction (build b (inside abstraction d) (left_of kids)) (build b d (left_of rest)))
build_split vars b d (variable i) kids rest p = absurd p
build_split vars b d (pattern x c) kids rest p =
    ap (λ (r : Row). r ⧺ build b d (left_of rest)) (sym (join_nothing (to_term d (ids_or (ids_of kids)) (b x))))

build_end : (b : ℕ → Row) (d : ℕ) → build b d (left_of nothing) ≡ nothing
unfolding build left_of
build_end b d = refl

pub build_part : (b : ℕ → Row) (d : ℕ) (h : Head) (k : Left) → build b d (part h k end) ≡ node h (build b (inside h d) k) nothing
unfolding build
build_part b d h k = refl

pub build_hole : (b : ℕ → Row) (d x : ℕ) (ys : List ℕ) → build b d (hole x ys end) ≡ to_term d ys (b x)
unfolding build
build_hole b d x ys = join_nothing (to_term d ys (b x))

-- as many trees are built as stand there
pub wide_built : (vars : ℕ) (b : ℕ → Row) → ((x : ℕ) → x < vars → width (b x) ≡ 1) → (d : ℕ) (p : Row) → LeftRow vars d p → width (build b d (left_of p)) ≡ width p
unfolding build left_of LeftRow
wide_built vars b one d nothing p = refl
wide_built vars b one d (node (symbol i c) kids rest) p =
    width_node (symbol i c) (build b (inside (symbol i c) d) (left_of kids)) (build b d (left_of rest)) ∙ ap suc (wide_built vars b one d rest p.3) ∙ sym (width_node (symbol i c) kids rest)
wide_built vars b one d (node abstraction kids rest) p =
    width_node abstraction (build b (inside abstraction d) (left_of kids)) (build b d (left_of rest)) ∙ ap suc (wide_built vars b one d rest p.2) ∙ sym (width_node abstraction kids rest)
wide_built vars b one d (node (variable i) kids rest) p = absurd p
wide_built vars b one d (node (pattern x c) kids rest) p =
    let t = to_term d (ids_or (ids_of kids)) (b x) in
    omega (arith, width_join t (build b d (left_of rest)), (term_keeps d (ids_or (ids_of kids)) (b x)).wide, one x p.1, wide_built vars b one d rest p.5, width_node (pattern x c) kids rest)

-- of a term's ranks
pub ranks_built : (vars : ℕ) (b : ℕ → Row) → ((x : ℕ) → x < vars → ranks (b x) ≤ 2) → (d : ℕ) (p : Row) → LeftRow vars d p → ranks (build b d (left_of p)) ≤ 2
unfolding build left_of LeftRow
ranks_built vars b few d nothing p = omega (arith, ranks_nothing)
ranks_built vars b few d (node (symbol i c) kids rest) p =
    omega (arith, ranks_node (symbol i c) (build b (inside (symbol i c) d) (left_of kids)) (build b d (left_of rest)), rank_symbol i c, ranks_built vars b few (inside (symbol i c) d) kids (rw (inside_symbol i c d) p.2), ranks_built vars b few d rest p.3)
ranks_built vars b few d (node abstraction kids rest) p =
    omega (arith, ranks_node abstraction (build b (inside abstraction d) (left_of kids)) (build b d (left_of rest)), rank_abstraction, ranks_built vars b few (inside abstraction d) kids (rw (inside_abstraction d) p.1), ranks_built vars b few d rest p.2)
ranks_built vars b few d (node (variable i) kids rest) p = absurd p
ranks_built vars b few d (node (pattern x c) kids rest) p =
    let t = to_term d (ids_or (ids_of kids)) (b x) in
    omega (arith, ranks_join t (build b d (left_of rest)), (term_keeps d (ids_or (ids_of kids)) (b x)).rank, few x p.1, ranks_built vars b few d rest p.5)

-- each body is one tree
pub given_one : (vars : ℕ) (bodies lengths : List ℕ) → Given vars bodies lengths → (x : ℕ) → x < vars → width (given_bodies bodies lengths x) ≡ 1
unfolding given_bodies
given_one vars bodies lengths g x h = (term_standing (words_at bodies lengths x) (g.terms x h)).wide

pub in_table : (vars d : ℕ) (h : Head) (kids : Row) → LeftRow vars d (node h kids nothing) → InTable h
unfolding LeftRow
in_table vars d (symbol i c) kids p = p.0
in_table vars d abstraction kids p = abstraction_in_table
in_table vars d (variable i) kids p = absurd p
in_table vars d (pattern x c) kids p = p.0

-- ---- a row by its first tree and the rest
both_first_over : (levels : ℕ) (out : List ℕ) (to : ℕ) (mid done : List ℕ) (f g : Row) (i j : ℕ) → BothBuilt levels out to mid f i None → BothBuilt levels out to done (f ⧺ g) j None
both_first_over levels out to mid done f g i j over = row_first_over levels out to f g mid done over

both_then : (levels : ℕ) (out : List ℕ) (to : ℕ) (mid done : List ℕ) (f g : Row) (i j a b : ℕ) → BothBuilt levels out to mid f i (Some (a, b)) → (r : Offsets)
    → BothBuilt levels mid b done g j r → BothBuilt levels out to done (f ⧺ g) j r
both_then levels out to mid done f g i j a b x (Some (c, e)) y = (y.0, row_then_lem levels out to f g mid b x.1 done (Some e) y.1)
both_then levels out to mid done f g i j a b x None y = row_then_lem levels out to f g mid b x.1 done None y

module _ (d levels count : ℕ) (left : List ℕ) (at : ℕ) (bodies lengths out : List ℕ) (to : ℕ) where
  pub build_none : count ≡ 0 → LeftBuilt d levels count left at bodies lengths out to out (Some (at, to))
  unfolding LeftBuilt
  build_none z vars p after s g l = shown p (s.wide ∙ z)
    where
      shown : (p : Row) → width p ≡ 0 → BothBuilt levels out to out (build (given_bodies bodies lengths) d (left_of p)) (at + length (words p)) (Some (at, to))
      shown nothing w =
          let n : length (words nothing) ≡ 0 = ap length words_nothing in
          rw (build_end (given_bodies bodies lengths) d) (omega (arith, n), row_none levels out to l)
      shown (node h kids rest) w = absurd (omega (arith, w, width_node h kids rest))

  module _ (z : count ≡ 0 → ⊥) where
    pub build_deep : (done : List ℕ) → levels ≡ 0 → LeftBuilt d levels count left at bodies lengths out to done None
    unfolding LeftBuilt
    build_deep done e vars p after s g l = absurd (omega (arith, e, (left_first vars d levels count left at z p after s).levelled))

    pub build_ended : (done : List ℕ) → length left ≤ at → LeftBuilt d levels count left at bodies lengths out to done None
    unfolding LeftBuilt
    build_ended done e vars p after s g l = absurd (omega (arith, e, (left_first vars d levels count left at z p after s).within))

    pub build_stuck : (mid : List ℕ) → LeftBuilt d levels 1 left at bodies lengths out to mid None → LeftBuilt d levels count left at bodies lengths out to mid None
    unfolding LeftBuilt
    build_stuck mid told vars p after s g l = shown (left_first vars d levels count left at z p after s)
      where
        shown : LeftFirst vars d levels count left at p after → BothBuilt levels out to mid (build (given_bodies bodies lengths) d (left_of p)) (at + length (words p)) None
        shown f =
            let good : LeftRow vars d (node f.head f.children f.right) = rw f.is at s.good in
            rw (f.is, build_split vars (given_bodies bodies lengths) d f.head f.children f.right good)
            (both_first_over levels out to mid mid (build (given_bodies bodies lengths) d (left_of (node f.head f.children nothing))) (build (given_bodies bodies lengths) d (left_of f.right)) 0 0
            (told vars (node f.head f.children nothing) (words f.right ++ after) f.alone g l))

    pub build_more : (mid : List ℕ) (a b : ℕ) → LeftBuilt d levels 1 left at bodies lengths out to mid (Some (a, b)) → (done : List ℕ) (r : Offsets)
        → LeftBuilt d levels (count - 1) left a bodies lengths mid b done r → LeftBuilt d levels count left at bodies lengths out to done r
    unfolding LeftBuilt
    build_more mid a b told done r rest vars p after s g l = shown (left_first vars d levels count left at z p after s)
      where
        shown : LeftFirst vars d levels count left at p after → BothBuilt levels out to done (build (given_bodies bodies lengths) d (left_of p)) (at + length (words p)) r
        shown f =
            let good : LeftRow vars d (node f.head f.children f.right) = rw f.is at s.good in
            let x = told vars (node f.head f.children nothing) (words f.right ++ after) f.alone g l in
            let beside : LeftStands vars d levels (count - 1) left a f.right after = rw x.0 f.beside in
            let y = rest vars f.right after beside g x.1.3 in
            let n : a + length (words f.right) ≡ at + length (words (node f.head f.children f.right)) = omega (arith, x.0, length_split f.head f.children f.right) in
            rw (f.is, build_split vars (given_bodies bodies lengths) d f.head f.children f.right good)
            (both_then levels out to mid done (build (given_bodies bodies lengths) d (left_of (node f.head f.children nothing))) (build (given_bodies bodies lengths) d (left_of f.right))
            (at + length (words (node f.head f.children nothing))) (at + length (words (node f.head f.children f.right))) a b x r (rw n at y))
