-- Writing a left side is building it: the children of its pattern variables are variables, and a body with variables for its parameters is renumbered.
use mathlib.Core.Path.{◌≡◌, refl, sym, ap, ap₂, ◌∙◌}
use mathlib.Core.Bool.{Bool, true, false, ◌&&◌}
use mathlib.Core.List.{List, [], ◌∷◌}
use mathlib.Core.Option.{Option, none, some}
use Prim.Native.Nat.{ℕ, zero, suc, ◌+◌, ◌-◌, ◌≤◌, ◌<◌}
use native.Mathlib.Omega.{arith}
use lib.Dec.{leb}
use lib.ListN.{length, get_or}
use borrow.Author.Tests.{leb-true, leb-false, le-leb, lt-leb, ltb-true}
use Rattle.std.specs.Prelude.{Ok}
use Rattle.term.specs.Word.{Head, symbol, abstraction, variable, pattern, count}
use Rattle.term.specs.Row.{Row, nothing, node, width, Formed, ◌⧺◌}
use Rattle.term.specs.Renumber.{GoodList, Listed, id_term, inside, renumber, to_term, to_body}
use Rattle.term.proofs.Laws.{never, and_left, and_right, inside_symbol, inside_abstraction, inside_pattern, count_variable, join_nothing, width_node, width_nothing, formed_node, everywhere, term_is, term_own, term_inner, term_outside, term_body, listed_range, good_true}
use Rattle.book.specs.Rule.{id_before, ids_of, list_for, left_shape, side_limits}
use Rattle.book.specs.Told.Occurs.{below_head, below_vars}
use Rattle.book.specs.Book.{Rule, check_book, rule_at}
use Rattle.book.proofs.Laws.{ids_nothing, ids_node, left_symbol, left_abstraction, left_variable, left_pattern, below_node, RuleFacts, book_rule}
use Rattle.fit.specs.Left.{ids_or, left_of}
use Rattle.fit.specs.Fit.{WithinTerm, build, matching}
use Rattle.fit.specs.Match.{tree_of, left_in}
use Rattle.fit.specs.Constraint.{tree}
use Rattle.fit.proofs.Laws.{tree_first, tree_later, left_of_nothing, left_of_symbol, left_of_abstraction, left_of_pattern, left_in_lem, tree_of_lem, build_end, build_hole, build_part, sound, matched_built, accepted_good}
use Rattle.steps.specs.Right.{shifted, single, replaced, in_body, written_tree, write}
use Rattle.steps.proofs.Replaced.{tree_before, none_wide, renumber_single, replaced_same, replaced_single}

-- ---- clauses
pub write_nothing : (b : ℕ → Row) (d : ℕ) → write b d nothing ≡ nothing
unfolding write
write_nothing b d = refl

pub write_node : (b : ℕ → Row) (d : ℕ) (h : Head) (kids rest : Row) → write b d (node h kids rest) ≡ written_tree b d h (write b (inside h d) kids) ⧺ write b d rest
unfolding write
write_node b d h kids rest = refl

pub write_pattern : (b : ℕ → Row) (d x c : ℕ) (kids rest : Row) → write b d (node (pattern x c) kids rest) ≡ replaced (in_body d (write b d kids)) 0 (b x) ⧺ write b d rest
write_pattern b d x c kids rest =
    write_node b d (pattern x c) kids rest
    ∙ ap (λ (e : ℕ). replaced (in_body d (write b e kids)) 0 (b x) ⧺ write b d rest) (inside_pattern x c d)

pub shifted_is : (e : ℕ) (t : Row) → shifted e t ≡ renumber (id_term e []) 0 t
unfolding shifted
shifted_is e t = term_is e [] t

pub shifted_single : (e i : ℕ) → 1 ≤ i → shifted e (single i) ≡ single (e + i)
shifted_single e i h =
    shifted_is e (single i) ∙ renumber_single (id_term e []) 0 i ∙ ap single (term_outside e [] 0 i (omega arith) ∙ omega arith)

-- ---- the three cases of an id in a body
module _ (d : ℕ) (children : Row) (e i : ℕ) where
  pub in_own : i ≤ e → in_body d children e i ≡ single i
  unfolding in_body
  in_own h = rw (le-leb i e h)

  pub in_inner : e < i → i ≤ e + width children → in_body d children e i ≡ shifted e (tree children (i - e - 1))
  unfolding in_body
  in_inner h l = rw (lt-leb i e h, le-leb i (e + width children) l)

  pub in_outside : e + width children < i → in_body d children e i ≡ single (i - width children + d)
  unfolding in_body
  in_outside h = rw (lt-leb i e (omega arith), lt-leb i (e + width children) h)

pub data IdCase (e k i : ℕ) : Type 0 where
  own : i ≤ e → IdCase e k i
  inner : e < i → i ≤ e + k → IdCase e k i
  outside : e + k < i → IdCase e k i

pub id_case : (e k i : ℕ) → IdCase e k i
id_case e k i = go (leb i e) (leb i (e + k)) refl refl
  where
    go : (a b : Bool) → leb i e ≡ a → leb i (e + k) ≡ b → IdCase e k i
    go true b p q = own (leb-true i e p)
    go false true p q = inner (leb-false i e p) (leb-true i (e + k) q)
    go false false p q = outside (leb-false i (e + k) q)

-- ---- the children of a pattern variable of a left side
unfoldable pub list_row : List ℕ → Row
list_row [] = nothing
list_row (y ∷ ys) = node (variable y) nothing (list_row ys)

pub list_is : (f : Row) → Formed f → (ys : List ℕ) → ids_of f ≡ some ys → f ≡ list_row ys
unfolding list_row
list_is nothing p ys e = ended ys (sym ids_nothing ∙ e)
  where
    ended : (ys : List ℕ) → some [] ≡ some ys → nothing ≡ list_row ys
    ended [] q = refl
    ended (z ∷ zs) q = let q' : ◌≡◌ {A = List ℕ} [] (z ∷ zs) = cc in never (cc)
list_is (node h kids rest) p ys e =
    go h (ids_of rest) refl (formed_node h kids rest p).full (sym (ids_node h kids rest) ∙ e) (λ zs q. list_is rest (formed_node h kids rest p).beside zs q)
  where
    more : (i : ℕ) (zs ys : List ℕ) → some (i ∷ zs) ≡ some ys → (k : Row) → k ≡ nothing → rest ≡ list_row zs → node (variable i) k rest ≡ list_row ys
    more i zs ys q k n r = let q' : ◌≡◌ {A = List ℕ} (i ∷ zs) ys = cc in rw (← q', n, r)

    go : (g : Head) (o : Option (List ℕ)) → ids_of rest ≡ o → width kids ≡ count g → id_before g o ≡ some ys
        → ((zs : List ℕ) → ids_of rest ≡ some zs → rest ≡ list_row zs) → node g kids rest ≡ list_row ys
    go (symbol i c) o q w z r = never (cc)
    go abstraction o q w z r = never (cc)
    go (pattern i c) o q w z r = never (cc)
    go (variable i) none q w z r = never (cc)
    go (variable i) (some zs) q w z r = more i zs ys z kids (none_wide kids (w ∙ count_variable i)) (r zs q)

pub width_list : (ys : List ℕ) → width (list_row ys) ≡ length ys
unfolding list_row
width_list [] = width_nothing
width_list (y ∷ ys) = width_node (variable y) nothing (list_row ys) ∙ ap suc (width_list ys)

pub tree_list : (ys : List ℕ) (j : ℕ) → j < length ys → tree (list_row ys) j ≡ single (get_or ys j 0)
unfolding list_row
tree_list [] j h = absurd (omega arith)
tree_list (y ∷ ys) zero h = tree_first (variable y) nothing (list_row ys)
tree_list (y ∷ ys) (suc j) h = tree_later (variable y) nothing (list_row ys) j ∙ tree_list ys j (omega arith)

-- a right side's own variables stay
pub list_written : (b : ℕ → Row) (d : ℕ) (ys : List ℕ) → write b d (list_row ys) ≡ list_row ys
unfolding list_row
list_written b d [] = write_nothing b d
list_written b d (y ∷ ys) =
    write_node b d (variable y) nothing (list_row ys)
    ∙ rw (write_nothing b (inside (variable y) d), list_written b d ys) (tree_before (variable y) nothing (list_row ys))

-- a body with the list's variables for its parameters is the term that it stands for
pub body_list_lem : (d : ℕ) (ys : List ℕ) → ((j : ℕ) → j < length ys → 1 ≤ get_or ys j 0) → (t : Row) → Formed t → replaced (in_body d (list_row ys)) 0 t ≡ to_term d ys t
body_list_lem d ys g t f =
    replaced_same (in_body d (list_row ys)) (λ e i. single (id_term d ys e i)) 0 t
    (everywhere (λ e i. in_body d (list_row ys) e i ≡ single (id_term d ys e i)) (λ e i. go e i (id_case e (length ys) i)) 0 t)
    ∙ replaced_single (id_term d ys) 0 t f ∙ sym (term_is d ys t)
  where
    w : width (list_row ys) ≡ length ys
    w = width_list ys

    go : (e i : ℕ) → IdCase e (length ys) i → in_body d (list_row ys) e i ≡ single (id_term d ys e i)
    go e i (own h) = in_own d (list_row ys) e i h ∙ ap single (sym (term_own d ys e i h))
    go e i (inner h l) =
        in_inner d (list_row ys) e i h (omega (arith, w, l))
        ∙ ap (shifted e) (tree_list ys (i - e - 1) (omega arith))
        ∙ shifted_single e (get_or ys (i - e - 1) 0) (g (i - e - 1) (omega arith))
        ∙ ap single (sym (term_inner d ys e i h l))
    go e i (outside h) =
        in_outside d (list_row ys) e i (omega (arith, w, h))
        ∙ ap single (ap (λ (k : ℕ). i - k + d) w ∙ sym (term_outside d ys e i h))

-- ---- "a variable with no parameters under n abstractions of the right side is the body shifted by n"
pub written_alone : (b : ℕ → Row) (d x c : ℕ) → Formed (b x) → write b d (node (pattern x c) nothing nothing) ≡ shifted d (b x)
unfolding shifted list_row
written_alone b d x c f =
    write_pattern b d x c nothing nothing
    ∙ rw (write_nothing b d) (join_nothing (replaced (in_body d nothing) 0 (b x)) ∙ body_list_lem d [] (λ j h. absurd (omega arith)) (b x) f)

-- n abstractions around a row
unfoldable pub abstractions : ℕ → Row → Row
abstractions zero r = r
abstractions (suc n) r = node abstraction (abstractions n r) nothing

pub written_under : (b : ℕ → Row) (x c : ℕ) → Formed (b x) → (n d : ℕ) → write b d (abstractions n (node (pattern x c) nothing nothing)) ≡ abstractions n (shifted (n + d) (b x))
unfolding abstractions
written_under b x c f zero d = written_alone b d x c f ∙ ap (λ (e : ℕ). shifted e (b x)) (omega arith)
written_under b x c f (suc n) d =
    write_node b d abstraction (abstractions n (node (pattern x c) nothing nothing)) nothing
    ∙ rw (write_nothing b d, inside_abstraction d, written_under b x c f n (suc d))
    (join_nothing (node abstraction (abstractions n (shifted (n + suc d) (b x))) nothing)
    ∙ ap (λ (e : ℕ). node abstraction (abstractions n (shifted e (b x))) nothing) (omega arith))

-- ---- "parameters given back in their own order are the term again"
pub given_back : (b : ℕ → Row) (d x c : ℕ) (ys : List ℕ) → Listed d ys → Formed (b x) → (t : Row) → to_body d ys t ≡ some (b x)
    → write b d (node (pattern x c) (list_row ys) nothing) ≡ t
given_back b d x c ys g f t e =
    write_pattern b d x c (list_row ys) nothing
    ∙ rw (list_written b d ys, write_nothing b d) (join_nothing (replaced (in_body d (list_row ys)) 0 (b x)) ∙ body_list_lem d ys (λ j h. (listed_range d ys g j h).0) (b x) f ∙ term_body d ys t (b x) e)

-- ---- a left side is also a right side
list_good : (d : ℕ) (o : Option (List ℕ)) → list_for d o ≡ true → GoodList d (ids_or o) × (o ≡ some (ids_or o))
list_good d none e = never (cc)
list_good d (some ys) e = (good_true d ys e, refl)

module _ (vars : ℕ) (b : ℕ → Row) (formed : (x : ℕ) → x < vars → Formed (b x)) where
  below_rest : (h : Head) (kids rest : Row) → below_vars vars (node h kids rest) ≡ true → (below_head vars h ≡ true) × (below_vars vars kids ≡ true) × (below_vars vars rest ≡ true)
  below_rest h kids rest q =
      let e = sym (below_node vars h kids rest) ∙ q in
      let r = and_right (below_head vars h) (below_vars vars kids && below_vars vars rest) e in
      (and_left (below_head vars h) (below_vars vars kids && below_vars vars rest) e, and_left (below_vars vars kids) (below_vars vars rest) r, and_right (below_vars vars kids) (below_vars vars rest) r)

  -- writing it is building it, for all bodies
  pub write_left : (d : ℕ) (p : Row) → Formed p → left_shape d p ≡ true → below_vars vars p ≡ true → write b d p ≡ build b d (left_of p)
  write_left d nothing f s q = write_nothing b d ∙ sym (ap (build b d) left_of_nothing ∙ build_end b d)
  write_left d (node (symbol i c) kids rest) f s q =
      let n = formed_node (symbol i c) kids rest f in
      let e = sym (left_symbol d i c kids rest) ∙ s in
      let r = below_rest (symbol i c) kids rest q in
      write_node b d (symbol i c) kids rest
      ∙ tree_before (symbol i c) (write b (inside (symbol i c) d) kids) (write b d rest)
      ∙ ap₂ (node (symbol i c))
      (ap (λ (a : ℕ). write b a kids) (inside_symbol i c d) ∙ write_left d kids n.below (and_left (left_shape d kids) (left_shape d rest) e) r.1
      ∙ ap (λ (a : ℕ). build b a (left_of kids)) (sym (inside_symbol i c d)))
      (write_left d rest n.beside (and_right (left_shape d kids) (left_shape d rest) e) r.2)
      ∙ sym (ap (build b d) (left_of_symbol i c kids rest) ∙ build_part b d (symbol i c) (left_of kids) (left_of rest))
  write_left d (node abstraction kids rest) f s q =
      let n = formed_node abstraction kids rest f in
      let e = sym (left_abstraction d kids rest) ∙ s in
      let r = below_rest abstraction kids rest q in
      write_node b d abstraction kids rest
      ∙ tree_before abstraction (write b (inside abstraction d) kids) (write b d rest)
      ∙ ap₂ (node abstraction)
      (ap (λ (a : ℕ). write b a kids) (inside_abstraction d) ∙ write_left (suc d) kids n.below (and_left (left_shape (suc d) kids) (left_shape d rest) e) r.1
      ∙ ap (λ (a : ℕ). build b a (left_of kids)) (sym (inside_abstraction d)))
      (write_left d rest n.beside (and_right (left_shape (suc d) kids) (left_shape d rest) e) r.2)
      ∙ sym (ap (build b d) (left_of_abstraction kids rest) ∙ build_part b d abstraction (left_of kids) (left_of rest))
  write_left d (node (variable i) kids rest) f s q = never (let z = left_variable d i kids rest in cc)
  write_left d (node (pattern x c) kids rest) f s q =
      let n = formed_node (pattern x c) kids rest f in
      let e = sym (left_pattern d x c kids rest) ∙ s in
      let r = below_rest (pattern x c) kids rest q in
      let g = list_good d (ids_of kids) (and_left (list_for d (ids_of kids)) (left_shape d rest) e) in
      let k : write b d kids ≡ list_row (ids_or (ids_of kids)) = ap (write b d) (list_is kids n.below (ids_or (ids_of kids)) g.1) ∙ list_written b d (ids_or (ids_of kids)) in
      write_pattern b d x c kids rest
      ∙ ap₂ ◌⧺◌
      (ap (λ (ts : Row). replaced (in_body d ts) 0 (b x)) k ∙ body_list_lem d (ids_or (ids_of kids)) (λ j h. (listed_range d (ids_or (ids_of kids)) g.0.listed j h).0) (b x) (formed x (ltb-true x vars r.0)))
      (write_left d rest n.beside (and_right (list_for d (ids_of kids)) (left_shape d rest) e) r.2)
      ∙ sym (ap (build b d) (left_of_pattern x c kids rest) ∙ build_hole b d x (ids_or (ids_of kids)) (left_of rest))

-- so a match written back is the term again
module _ (book : List ℕ) (accepted : check_book book ≡ Ok tt) (number : ℕ) (rule : Rule) (found : rule_at book number ≡ some rule) where
  facts : RuleFacts rule
  facts = book_rule book number rule accepted found

  -- writing a rule's left side is building it
  pub left_written : (b : ℕ → Row) → ((x : ℕ) → x < rule.vars → Formed (b x)) → write b 0 (tree_of rule.left) ≡ build b 0 (left_in rule)
  left_written b f =
      ap (write b 0) (tree_of_lem side_limits rule.left facts.left_tree)
      ∙ write_left rule.vars b f 0 facts.left_tree.tree facts.left_tree.formed facts.left_shape facts.left_below
      ∙ ap (build b 0) (sym (left_in_lem rule facts.left_tree))

  pub match_written : (t : Row) → WithinTerm t → (b : ℕ → Row) → matching (left_in rule) t ≡ some b → write b 0 (tree_of rule.left) ≡ t
  match_written t w b e =
      let g = accepted_good book accepted number rule found in
      let s = sound rule.vars (left_in rule) g t w b e in
      left_written b (λ x h. (s.bodies x h).within.formed) ∙ matched_built rule.vars (left_in rule) g.good t w b e
