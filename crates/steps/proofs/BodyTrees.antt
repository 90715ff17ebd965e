-- One tree of a body that stands: a variable is what it stands for, any other word is written before its children. A pattern variable is its whole body.
use mathlib.Core.Path.{◌≡◌, refl, sym, ap, ◌∙◌}
use mathlib.Core.List.{List, ◌++◌}
use Prim.Native.Nat.{ℕ, ◌+◌, ◌-◌, ◌≤◌, ◌<◌}
use native.Mathlib.Omega.{arith}
use lib.ListN.{length, get_or, set, drop, take-append-drop}
use Rattle.term.specs.Word
use Rattle.term.specs.Word.{Head, symbol, abstraction, variable, pattern, rank, word, InTable, kind_of, count_of, ident_of}
use Rattle.term.specs.Row.{Row, nothing, node, width, words}
use Rattle.term.specs.Renumber.{inside}
use Rattle.term.specs.Told.Walk.{inside_word}
use Rattle.term.proofs.Laws.{words_nothing, width_nothing, width_node, nesting_node, ranks_node, formed_node, kind_word, count_word_lem, kind_symbol, kind_abstraction, kind_pattern, count_variable, inside_is}
use Rattle.fit.specs.Told.Told.{TermStands}
use Rattle.fit.specs.Build.{start_of}
use Rattle.fit.proofs.Laws.{row_full, row_node, words_tree, head_at_lem, term_first, words_at_are}
use Rattle.std.specs.Prelude.{Option, Some, None, MatchOption}
use Rattle.std.specs.Option.{IsSomeAnd}
use Rattle.steps.specs.Right.{replaced}
use Rattle.steps.specs.Told.Told.{RightRow, variable_in}
use Rattle.steps.specs.Told.Under.{Place, lowered, ids_in}
use Rattle.steps.specs.Told.RightWalk.{BodiesStand, PatternTold, VariableTold, BothWritten, BodyTold}
use Rattle.steps.proofs.Replaced.{none_wide}
use Rattle.steps.proofs.Depths.{length_ids}
use Rattle.steps.proofs.BodyLaws.{width_body, variable_tree, node_tree}

module _ (bodies : List ℕ) (from : ℕ) where
  pub record OneBody (q : Row) (beyond : List ℕ) : Type 0 where
    pub head : Head
    pub kids : Row
    pub is : q ≡ node head kids nothing
    pub table : InTable head
    pub full : width kids ≡ Word.count head
    pub low : rank head ≤ 2
    pub word_is : word head ≡ get_or bodies from 0
    pub below : TermStands (count_of (get_or bodies from 0)) bodies (from + 1) kids beyond
    pub long : length (words q) ≡ 1 + length (words kids)

  one_node : (h : Head) (kids : Row) (beyond : List ℕ) → TermStands 1 bodies from (node h kids nothing) beyond → OneBody (node h kids nothing) beyond
  one_node h kids beyond s =
      let a = head_at_lem from bodies h kids beyond (term_first 1 bodies from (λ z. omega (arith, z)) (node h kids nothing) beyond s).within s.same in
      let f = formed_node h kids nothing s.formed in
      let n = ranks_node h kids nothing in
      record {
        head = h;
        kids = kids;
        is = refl;
        table = f.table;
        full = f.full;
        low = omega (arith, s.few, n);
        word_is = a.0;
        below = record {
          formed = f.below;
          few = omega (arith, s.few, n);
          low = omega (arith, s.low, nesting_node h kids nothing);
          wide = f.full ∙ sym (count_word_lem h f.table) ∙ ap count_of a.0;
          same = a.1;
        };
        long = ap length (words_tree h kids) ∙ omega arith;
      }

  pub one_body : (q : Row) (beyond : List ℕ) → TermStands 1 bodies from q beyond → OneBody q beyond
  one_body nothing beyond s = absurd (omega (arith, s.wide, width_nothing))
  one_body (node h kids nothing) beyond s = one_node h kids beyond s
  one_body (node h kids (node g ks rest)) beyond s = absurd (omega (arith, s.wide, width_node h kids (node g ks rest), width_node g ks rest))

both_node : (levels : ℕ) (out : List ℕ) (to : ℕ) (h : Head) (kids : Row) (i j : ℕ) → InTable h → width kids ≡ Word.count h → 1 ≤ levels → i ≡ j → (done : List ℕ) (r : Option (ℕ × ℕ))
    → BothWritten (levels - 1) (set out to (word h)) (to + 1) done kids i r → BothWritten levels out to done (node h kids nothing) j r
both_node levels out to h kids i j t w l e done (Some (a, c)) r = (r.0 ∙ e, row_node levels out to h kids t w l done (Some c) r.1)
both_node levels out to h kids i j t w l e done None r = row_node levels out to h kids t w l done None r

-- a variable has no children
no_count : (h : Head) → InTable h → kind_of (word h) ≡ 2 → Word.count h ≡ 0
no_count (symbol i c) t q = absurd (omega (arith, q, kind_word (symbol i c) t, kind_symbol i c))
no_count abstraction t q = absurd (omega (arith, q, kind_word abstraction t, kind_abstraction))
no_count (variable i) t q = count_variable i
no_count (pattern x c) t q = absurd (omega (arith, q, kind_word (pattern x c) t, kind_pattern x c))

module _ (u : Place) (e count levels : ℕ) (right : List ℕ) (at : ℕ) (bodies : List ℕ) (from : ℕ) (lengths out : List ℕ) (to : ℕ) where
  -- ---- a variable
  module _ (two : kind_of (get_or bodies from 0) ≡ 2) (done : List ℕ) where
    stands_for : (m : ℕ → ℕ → Row) (q : Row) (beyond : List ℕ) → OneBody bodies from q beyond → replaced m e q ≡ m e (ident_of (get_or bodies from 0))
    stands_for m q beyond x =
        ap (replaced m e) x.is ∙ variable_tree m e x.head x.kids x.table (ap kind_of x.word_is ∙ two) ∙ ap (λ (w : ℕ). m e (ident_of w)) x.word_is

    one_word : (q : Row) (beyond : List ℕ) → OneBody bodies from q beyond → length (words q) ≡ 1
    one_word q beyond x =
        let n : x.kids ≡ nothing = none_wide x.kids (x.full ∙ no_count x.head x.table (ap kind_of x.word_is ∙ two)) in
        let z : length (words x.kids) ≡ 0 = ap (λ (r : Row). length (words r)) n ∙ ap length words_nothing in
        omega (arith, x.long, z)

    pub body_stands_for : (c : ℕ) → VariableTold u e count levels (ident_of (get_or bodies from 0)) right at bodies lengths out to done (Some c)
        → BodyTold u e count levels 1 right at bodies from lengths out to done (Some (from + 1, c))
    unfolding BodyTold VariableTold
    body_stands_for c told vars k b kids after q beyond s g t l =
        let x = one_body bodies from q beyond t in
        (omega (arith, one_word q beyond x), rw (stands_for (variable_in b u.depth (ids_in u) kids) q beyond x) (told vars k b kids after s g l))

    pub body_stands_stuck : VariableTold u e count levels (ident_of (get_or bodies from 0)) right at bodies lengths out to done None
        → BodyTold u e count levels 1 right at bodies from lengths out to done None
    unfolding BodyTold VariableTold
    body_stands_stuck told vars k b kids after q beyond s g t l =
        rw (stands_for (variable_in b u.depth (ids_in u) kids) q beyond (one_body bodies from q beyond t)) (told vars k b kids after s g l)

  -- ---- a symbol or abstraction
  module _ (no_variable : kind_of (get_or bodies from 0) ≡ 2 → ⊥) where
    node_is : (m : ℕ → ℕ → Row) (q : Row) (beyond : List ℕ) (x : OneBody bodies from q beyond) → replaced m e q ≡ node x.head (replaced m (inside x.head e) x.kids) nothing
    node_is m q beyond x =
        ap (replaced m e) x.is ∙ node_tree m e x.head x.kids x.table x.low (λ z. no_variable (ap kind_of (sym x.word_is) ∙ z))

    pub body_deep : (done : List ℕ) → levels ≡ 0 → BodyTold u e count levels 1 right at bodies from lengths out to done None
    unfolding BodyTold
    body_deep done z vars k b kids after q beyond s g t l = shown (one_body bodies from q beyond t)
      where
        shown : OneBody bodies from q beyond → BothWritten levels out to done (replaced (variable_in b u.depth (ids_in u) kids) e q) (from + length (words q)) None
        shown x =
            rw (node_is (variable_in b u.depth (ids_in u) kids) q beyond x)
            (λ f n r. omega (arith, n, z, nesting_node x.head (replaced (variable_in b u.depth (ids_in u) kids) (inside x.head e) x.kids) nothing))

    pub body_full : (done : List ℕ) → 4096 ≤ to → BodyTold u e count levels 1 right at bodies from lengths out to done None
    unfolding BodyTold
    body_full done h vars k b kids after q beyond s g t l = shown (one_body bodies from q beyond t)
      where
        shown : OneBody bodies from q beyond → BothWritten levels out to done (replaced (variable_in b u.depth (ids_in u) kids) e q) (from + length (words q)) None
        shown x =
            rw (node_is (variable_in b u.depth (ids_in u) kids) q beyond x)
            (row_full levels out to x.head (replaced (variable_in b u.depth (ids_in u) kids) (inside x.head e) x.kids) done h)

    pub body_inner : 1 ≤ levels → to < 4096 → (done : List ℕ) (r : Option (ℕ × ℕ))
        → BodyTold (lowered u) (inside_word (get_or bodies from 0) e) count (levels - 1) (count_of (get_or bodies from 0)) right at bodies (from + 1) lengths (set out to (get_or bodies from 0)) (to + 1) done r
        → BodyTold u e count levels 1 right at bodies from lengths out to done r
    unfolding BodyTold
    body_inner one room done r told vars k b kids after q beyond s g t l = shown (one_body bodies from q beyond t)
      where
        shown : OneBody bodies from q beyond → BothWritten levels out to done (replaced (variable_in b u.depth (ids_in u) kids) e q) (from + length (words q)) r
        shown x =
            let m = variable_in b u.depth (ids_in u) kids in
            let passed : inside x.head e ≡ inside_word (get_or bodies from 0) e = sym (inside_is x.head e x.table) ∙ ap (λ (w : ℕ). inside_word w e) x.word_is in
            let n : RightRow vars k (length (ids_in u)) kids = rw (length_ids u.depth u.marks u.own) s.good in
            let w : width (replaced m (inside x.head e) x.kids) ≡ Word.count x.head = width_body vars k b (λ y h. (g.body y h).one) u.depth (ids_in u) kids n (inside x.head e) x.kids ∙ x.full in
            rw (node_is (variable_in b u.depth (ids_in u) kids) q beyond x)
            (both_node levels out to x.head (replaced m (inside x.head e) x.kids) (from + 1 + length (words x.kids)) (from + length (words q)) x.table w one (omega (arith, x.long)) done r
            (rw (passed, x.word_is) (told vars k b kids after x.kids beyond s g x.below (omega (arith, room)))))

-- ---- the body of a pattern variable
pub whole_body : (bodies lengths : List ℕ) (x vars : ℕ) (b : ℕ → Row) → BodiesStand vars bodies lengths b → x < vars
    → TermStands 1 bodies (start_of lengths x) (b x) (drop (get_or lengths x 0) (drop (start_of lengths x) bodies))
whole_body bodies lengths x vars b g l =
    let i = g.body x l in
    let n = drop (start_of lengths x) bodies in
    record {
      formed = i.within.formed;
      few = i.within.few;
      low = i.within.low;
      wide = i.one;
      same = sym (take-append-drop (get_or lengths x 0) n) ∙ ap (λ (ws : List ℕ). ws ++ drop (get_or lengths x 0) (drop (start_of lengths x) bodies)) (sym (g.same x l ∙ words_at_are bodies lengths x));
    }

module _ (u : Place) (levels w : ℕ) (right : List ℕ) (at : ℕ) (bodies lengths out : List ℕ) (to : ℕ) (done : List ℕ) where
  pub pattern_none : 16 ≤ ident_of w → PatternTold u levels w right at bodies lengths out to done None
  unfolding PatternTold
  pattern_none h vars k b kids after s g x l = absurd (omega (arith, h, x, g.few))

  pattern_wrote : (a c : ℕ) → BodyTold u 0 (count_of w) levels 1 right at bodies (start_of lengths (ident_of w)) lengths out to done (Some (a, c)) → PatternTold u levels w right at bodies lengths out to done (Some c)
  unfolding PatternTold BodyTold
  pattern_wrote a c told vars k b kids after s g x l =
      (told vars k b kids after (b (ident_of w)) (drop (get_or lengths (ident_of w) 0) (drop (start_of lengths (ident_of w)) bodies)) s g (whole_body bodies lengths (ident_of w) vars b g x) l).1

  pattern_stuck : BodyTold u 0 (count_of w) levels 1 right at bodies (start_of lengths (ident_of w)) lengths out to done None → PatternTold u levels w right at bodies lengths out to done None
  unfolding PatternTold BodyTold
  pattern_stuck told vars k b kids after s g x l =
      told vars k b kids after (b (ident_of w)) (drop (get_or lengths (ident_of w) 0) (drop (start_of lengths (ident_of w)) bodies)) s g (whole_body bodies lengths (ident_of w) vars b g x) l

  -- of the offsets after the body and after what it writes only the second is told
  pub pattern_told : (o : Option (ℕ × ℕ)) → BodyTold u 0 (count_of w) levels 1 right at bodies (start_of lengths (ident_of w)) lengths out to done o
      → (r : Option ℕ) → MatchOption o (r ≡ None) (λ x. IsSomeAnd r (λ k. k ≡ x.1)) → PatternTold u levels w right at bodies lengths out to done r
  pattern_told (Some x) told (Some c) m = rw m (pattern_wrote x.0 x.1 told)
  pattern_told (Some x) told None m = absurd m
  pattern_told None told r m = rw m (pattern_stuck told)
