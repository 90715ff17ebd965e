-- What is said of simplifying without trees settles the answer, the rules of the steps and the term: the lowest offset, the lowest rule there and its bodies are the only ones, so
-- each step has one outcome, and so has a run. The visits it does not settle: these are of the tree.
use mathlib.Core.Path.{◌≡◌, refl, sym, ap, ap₂, ◌∙◌}
use mathlib.Core.Bool.{Bool, true, false}
use mathlib.Core.List.{List, [], ◌∷◌}
use mathlib.Core.Option.{Option, none, some}
use Prim.Native.Nat.{ℕ, zero, suc, ◌≤◌, ◌<◌}
use native.Mathlib.Omega.{arith}
use lib.Dec.{ltb}
use lib.ListN.{length, get_or}
use borrow.Author.Tests.{ltb-true, ltb-false}
use Rattle.std.specs.Prelude.{Ok}
use Rattle.term.specs.declared.answer.Answer.{Answer}
use Rattle.term.specs.declared.answer.Answer.TheVariants.{CannotTake}
use Rattle.term.specs.Word.{Head, symbol, abstraction, variable, pattern}
use Rattle.term.specs.Row.{Row, nothing, node, ◌⧺◌}
use Rattle.term.specs.Renumber.{inside}
use Rattle.term.proofs.Laws.{never}
use Rattle.book.specs.Book.{Rule, check_book, rule_at}
use Rattle.fit.specs.Fit.{IsBody}
use Rattle.fit.specs.Match.{tree_of, left_in}
use Rattle.fit.specs.Lowest.{Fitting, aside_o}
use Rattle.fit.specs.Build.{within_limits}
use Rattle.fit.proofs.Laws.{front_unique, accepted_good, LowestFrontIs, LowestFrontFits}
use Rattle.steps.specs.Right.{replaced, in_body, written_tree, write}
use Rattle.steps.specs.Told.Told.{RightHead, RightRow}
use Rattle.steps.specs.Arguments.{with_aside}
use Rattle.steps.specs.Rewrite.{right_in, set_aside, many_aside, rewritten}
use Rattle.steps.specs.Offset.{part_at, spliced}
use Rattle.steps.specs.Step.{Nowhere, FoundAt}
use Rattle.steps.specs.Simplify.{Search, Run, Stopped, Ended, simplify_steps}
use Rattle.steps.proofs.Writing.{write_nothing, write_node}
use Rattle.steps.proofs.RightRows.{parameters_of, accepted_right}
use Rattle.steps.proofs.Steps.{part_term, rule_writes, spliced_term}
use Rattle.steps.proofs.Demand.{FirstFit, OneStep, Reaches, Rested, normal, unfinished, TooLarge, TooMany, Barred, large, many, Simplified}

-- ---- writing asks for the bodies of the rule's variables alone
module _ (vars : ℕ) (k : ℕ → ℕ) (b c : ℕ → Row) (same : (x : ℕ) → x < vars → b x ≡ c x) where
  same_tree : (d : ℕ) (h : Head) (children : Row) → RightHead vars k d h → written_tree b d h children ≡ written_tree c d h children
  same_tree d (symbol i n) children r = refl
  same_tree d abstraction children r = refl
  same_tree d (variable i) children r = refl
  same_tree d (pattern x n) children r = ap (replaced (in_body d children) 0) (same x r.0)

  pub write_same : (d : ℕ) (p : Row) → RightRow vars k d p → write b d p ≡ write c d p
  unfolding RightRow
  write_same d nothing r = write_nothing b d ∙ sym (write_nothing c d)
  write_same d (node h kids rest) r =
      write_node b d h kids rest
      ∙ ap₂ ◌⧺◌ (ap (written_tree b d h) (write_same (inside h d) kids r.3) ∙ same_tree d h (write c (inside h d) kids) r.2) (write_same d rest r.4)
      ∙ sym (write_node c d h kids rest)

-- ---- two numbers of which neither is smaller
equal_numbers : (n m : ℕ) → (n < m → ⊥) → (m < n → ⊥) → n ≡ m
equal_numbers n m a b = go (ltb n m) (ltb m n) refl refl
  where
    go : (p q : Bool) → ltb n m ≡ p → ltb m n ≡ q → n ≡ m
    go true q e f = absurd (a (ltb-true n m e))
    go false true e f = absurd (b (ltb-true m n f))
    go false false e f = let x = ltb-false n m e in let y = ltb-false m n f in omega arith

-- ---- the rules of a trace, and the same end: refused with one answer, or one answer and one term, after steps by the same rules
abbrev pub rules_of : List Search → List ℕ
rules_of [] = []
rules_of (s ∷ trace) = s.rule ∷ rules_of trace

abbrev pub SameEnd : Run → Run → Type 0
SameEnd (Stopped x k a) (Stopped y l c) = (a ≡ c) × (rules_of x ≡ rules_of y)
SameEnd (Stopped x k a) (Ended y l c w) = ⊥
SameEnd (Ended x k a v) (Stopped y l c) = ⊥
SameEnd (Ended x k a v) (Ended y l c w) = (a ≡ c) × (rules_of x ≡ rules_of y) × (v ≡ w)

many_rules : (trace : List Search) → length (rules_of trace) ≡ length trace
many_rules [] = refl
many_rules (s ∷ trace) = ap suc (many_rules trace)

same_long : (x y : List Search) → rules_of x ≡ rules_of y → length x ≡ length y
same_long x y e = sym (many_rules x) ∙ ap length e ∙ many_rules y

-- as many steps
pub same_steps : (r s : Run) → SameEnd r s → simplify_steps r ≡ simplify_steps s
unfolding simplify_steps
same_steps (Stopped x k a) (Stopped y l c) e = same_long x y e.1
same_steps (Stopped x k a) (Ended y l c w) e = absurd e
same_steps (Ended x k a v) (Stopped y l c) e = absurd e
same_steps (Ended x k a v) (Ended y l c w) e = same_long x y e.1

module _ (book : List ℕ) (accepted : check_book book ≡ Ok tt) where
  -- ---- the lowest rule that fits a term, and its bodies, are the only ones
  module _ (p : Row) (i : IsBody p) (f g : Fitting) (a : LowestFrontFits book 0 (get_or book 0 0) p f) (c : LowestFrontFits book 0 (get_or book 0 0) p g) where
    same_number_lem : f.number ≡ g.number
    same_number_lem =
        equal_numbers f.number g.number
        (λ l. c.earlier f.number (omega arith) l a.rule a.found f.bodies a.fits)
        (λ l. a.earlier g.number (omega arith) l c.rule c.found g.bodies c.fits)

    same_rule : a.rule ≡ c.rule
    same_rule = let e : some a.rule ≡ some c.rule = sym a.found ∙ ap (rule_at book) same_number_lem ∙ c.found in cc

    same_bodies : (x : ℕ) → x < a.rule.vars → f.bodies x ≡ g.bodies x
    same_bodies x h =
        front_unique a.rule.vars (left_in a.rule) (accepted_good book accepted f.number a.rule a.found) p i f.bodies g.bodies a.fits
        (rw same_rule c.fits) x h

    same_right : write f.bodies 0 (right_in (rule_at book f.number)) ≡ write g.bodies 0 (right_in (rule_at book g.number))
    same_right =
        let r = accepted_right book accepted f.number a.rule a.found in
        ap (λ (o : Option Rule). write f.bodies 0 (right_in o)) a.found
        ∙ write_same a.rule.vars (parameters_of a.rule.left) f.bodies g.bodies same_bodies 0 (tree_of a.rule.right) r.0
        ∙ ap (λ (o : Option Rule). write g.bodies 0 (right_in o)) (sym a.found ∙ ap (rule_at book) same_number_lem)

    -- what they make of the term, and how many arguments they set aside
    pub same_written : rewritten book p f ≡ rewritten book p g
    unfolding rewritten
    same_written = ap₂ with_aside same_right (ap (λ (n : ℕ). set_aside (rule_at book n) p) same_number_lem)

    pub same_aside : many_aside book p f ≡ many_aside book p g
    same_aside = ap (λ (n : ℕ). aside_o (rule_at book n) p) same_number_lem

  -- ---- the lowest offset is the only one
  fits_none : (p : Row) (f : Fitting) → LowestFrontFits book 0 (get_or book 0 0) p f → LowestFrontIs book 0 (get_or book 0 0) p none → ⊥
  fits_none p f a n =
      n f.number (omega arith) a.below a.rule a.found f.bodies a.fits

  nowhere_found : (t : Row) (at : ℕ) (f : Fitting) → FirstFit book t Nowhere → FirstFit book t (FoundAt at f) → ⊥
  nowhere_found t at f n a = fits_none (part_at t at) f a.1 (n at a.0)

  module _ (t : Row) (i : IsBody t) (m n : ℕ) (f g : Fitting) (a : FirstFit book t (FoundAt m f)) (c : FirstFit book t (FoundAt n g)) where
    same_offset : m ≡ n
    same_offset = equal_numbers m n (λ l. fits_none (part_at t m) f a.1 (c.2 m l)) (λ l. fits_none (part_at t n) g c.1 (a.2 n l))

    at_one : LowestFrontFits book 0 (get_or book 0 0) (part_at t m) g
    at_one = rw same_offset c.1

    same_lowest : f.number ≡ g.number
    same_lowest = same_number_lem (part_at t m) (part_term t i m a.0) f g a.1 at_one

    pub same_made : rewritten book (part_at t m) f ≡ rewritten book (part_at t n) g
    same_made =
        same_written (part_at t m) (part_term t i m a.0) f g
        a.1 at_one
        ∙ ap (λ (k : ℕ). rewritten book (part_at t k) g) same_offset

    pub same_many : many_aside book (part_at t m) f ≡ many_aside book (part_at t n) g
    same_many =
        same_aside (part_at t m) (part_term t i m a.0) f g
        a.1 at_one
        ∙ ap (λ (k : ℕ). many_aside book (part_at t k) g) same_offset

    pub same_spliced : (u v : Row) → rewritten book (part_at t m) f ≡ some u → rewritten book (part_at t n) g ≡ some v → spliced t m u ≡ spliced t n v
    same_spliced u v x y = let z : u ≡ v = (let q = same_made in cc) in ap₂ (spliced t) same_offset z

  -- a step has one rule and one outcome, and that is a term
  pub one_outcome : (rule other : ℕ) (t u v : Row) → IsBody t → OneStep book rule t u → OneStep book other t v → (rule ≡ other) × (u ≡ v)
  one_outcome rule other t u v i a c = (
    a.number ∙ same_lowest t i a.at c.at a.fitting c.fitting a.first c.first ∙ sym c.number,
    a.is ∙ same_spliced t i a.at c.at a.fitting c.fitting a.first c.first a.new c.new a.writes c.writes ∙ sym c.is,
  )

  outcome_term : (rule : ℕ) (t u : Row) → IsBody t → OneStep book rule t u → IsBody u
  outcome_term rule t u i s =
      let l = s.first.1 in
      rw s.is
      (spliced_term book accepted book t i s.at s.first.0 s.new
      (rule_writes book accepted book s.fitting l.rule l.found (λ x h. l.fits.bodies x h) (part_at t s.at) (part_term t i s.at s.first.0) s.new s.writes)
      (sym (ap within_limits s.is) ∙ s.within))

  -- ---- a run has one end
  data Halts (budget n : ℕ) (v : Row) : Type 0 where
    full : n ≡ budget → Halts budget n v
    stuck : ((rule : ℕ) (u : Row) → OneStep book rule v u → ⊥) → Halts budget n v

  halts_less : (budget n : ℕ) (v : Row) → Halts (suc budget) (suc n) v → Halts budget n v
  halts_less budget n v (full e) = full (omega arith)
  halts_less budget n v (stuck s) = stuck s

  no_first : (budget m rule : ℕ) (t u : Row) → Halts budget 0 t → OneStep book rule t u → suc m ≤ budget → ⊥
  no_first budget m rule t u (full e) s l = omega arith
  no_first budget m rule t u (stuck h) s l = h rule u s

  one_end : (budget : ℕ) (x y : List Search) (t v w : Row) → IsBody t → Reaches book x t v → Reaches book y t w → length x ≤ budget → length y ≤ budget
      → Halts budget (length x) v → Halts budget (length y) w → (length x ≡ length y) × (v ≡ w) × (rules_of x ≡ rules_of y)
  unfolding Reaches
  one_end budget [] [] t v w i r s a c h k = (refl, sym r ∙ s, refl)
  one_end budget [] (q ∷ y) t v w i r s a c h k = absurd (no_first budget (length y) q.rule t s.0 (rw (sym r) at h) s.1 c)
  one_end budget (p ∷ x) [] t v w i r s a c h k = absurd (no_first budget (length x) p.rule t r.0 (rw (sym s) at k) r.1 a)
  one_end zero (p ∷ x) (q ∷ y) t v w i r s a c h k = absurd (omega arith)
  one_end (suc budget) (p ∷ x) (q ∷ y) t v w i r s a c h k =
      let e = one_outcome p.rule q.rule t r.0 s.0 i r.1 s.1 in
      let o =
      one_end budget x y r.0 v w (outcome_term p.rule t r.0 i r.1) r.2 (rw e.1 s.2) (omega arith) (omega arith) (halts_less budget (length x) v h) (halts_less budget (length y) w k) in
      (ap suc o.0, o.1, ap₂ ◌∷◌ e.0 o.2)

  rested_halts : (budget n : ℕ) (v : Row) (a : Answer) → Rested book budget n v a → Halts budget n v
  rested_halts budget n v a (normal e f) = stuck (λ rule u s. nowhere_found v s.at s.fitting f s.first)
  rested_halts budget n v a (unfinished e m at f p) = full m

  large_halts : (budget n : ℕ) (v : Row) (a : Answer) → IsBody v → TooLarge book budget n v a → Halts budget n v
  large_halts budget n v a i l =
      stuck (λ rule u s.
      let e = s.is ∙ same_spliced v i s.at l.at s.fitting l.fitting s.first l.first s.new l.new s.writes l.writes in
      let q : within_limits (spliced v l.at l.new) ≡ true = sym (ap within_limits e) ∙ s.within in
      let z = l.large in
      never (cc))

  many_halts : (budget n : ℕ) (v : Row) (a : Answer) → IsBody v → TooMany book budget n v a → Halts budget n v
  many_halts budget n v a i l =
      stuck (λ rule u s.
      let e = same_made v i s.at l.at s.fitting l.fitting s.first l.first in
      let x = s.writes in
      let z = l.refuses in
      never (cc))

  barred_halts : (budget n : ℕ) (v : Row) (a : Answer) → IsBody v → Barred book budget n v a → Halts budget n v
  barred_halts budget n v a i (large l) = large_halts budget n v a i l
  barred_halts budget n v a i (many l) = many_halts budget n v a i l

  reached_term : (trace : List Search) (t v : Row) → IsBody t → Reaches book trace t v → IsBody v
  unfolding Reaches
  reached_term [] t v i r = rw r at i
  reached_term (s ∷ trace) t v i r = reached_term trace r.0 v (outcome_term s.rule t r.0 i r.1) r.2

  -- ---- the answer at the end
  same_answer : (budget n : ℕ) (v : Row) (a c : Answer) → Rested book budget n v a → Rested book budget n v c → a ≡ c
  same_answer budget n v a c (normal e f) (normal g h) = e ∙ sym g
  same_answer budget n v a c (normal e f) (unfinished g m at x y) = absurd (nowhere_found v at x f y)
  same_answer budget n v a c (unfinished e m at x y) (normal g h) = absurd (nowhere_found v at x h y)
  same_answer budget n v a c (unfinished e m at x y) (unfinished g o to z u) = e ∙ sym g

  not_both : (budget n : ℕ) (v : Row) (a c : Answer) → Rested book budget n v a → Barred book budget n v c → ⊥
  not_both budget n v a c (normal e f) (large l) = nowhere_found v l.at l.fitting f l.first
  not_both budget n v a c (normal e f) (many l) = nowhere_found v l.at l.fitting f l.first
  not_both budget n v a c (unfinished e m at x y) (large l) = omega (arith, m, l.left)
  not_both budget n v a c (unfinished e m at x y) (many l) = omega (arith, m, l.left)

  not_large : (budget n : ℕ) (v : Row) (a c : Answer) → IsBody v → TooLarge book budget n v a → TooMany book budget n v c → ⊥
  not_large budget n v a c i x y =
      let e = same_made v i x.at y.at x.fitting y.fitting x.first y.first in
      let p = x.writes in
      let q = y.refuses in
      never (cc)

  same_refusal : (budget n : ℕ) (v : Row) (a c : Answer) → IsBody v → Barred book budget n v a → Barred book budget n v c → a ≡ c
  same_refusal budget n v a c i (large x) (large y) = x.answer ∙ sym y.answer
  same_refusal budget n v a c i (large x) (many y) = absurd (not_large budget n v a c i x y)
  same_refusal budget n v a c i (many x) (large y) = absurd (not_large budget n v c a i y x)
  same_refusal budget n v a c i (many x) (many y) =
      x.answer ∙ ap CannotTake (same_many v i x.at y.at x.fitting y.fitting x.first y.first) ∙ sym y.answer

  -- two runs of which this is said end as one
  pub one_run : (budget : ℕ) (t : Row) → IsBody t → (r s : Run) → Simplified book budget t r → Simplified book budget t s → SameEnd r s
  one_run budget t i (Ended x k a v) (Ended y l c w) p q =
      let e = one_end budget x y t v w i p.0 q.0 p.1 q.1 (rested_halts budget (length x) v a p.2) (rested_halts budget (length y) w c q.2) in
      (same_answer budget (length x) v a c p.2 (rw (e.0, e.1) q.2), e.2, e.1)
  one_run budget t i (Ended x k a v) (Stopped y l c) p q =
      let e =
      one_end budget x y t v q.0 i p.0 q.1 p.1 q.2 (rested_halts budget (length x) v a p.2) (barred_halts budget (length y) q.0 c (reached_term y t q.0 i q.1) q.3) in
      not_both budget (length y) q.0 a c (rw (e.0, e.1) at p.2) q.3
  one_run budget t i (Stopped x k a) (Ended y l c w) p q =
      let e =
      one_end budget y x t w p.0 i q.0 p.1 q.1 p.2 (rested_halts budget (length y) w c q.2) (barred_halts budget (length x) p.0 a (reached_term x t p.0 i p.1) p.3) in
      not_both budget (length x) p.0 c a (rw (e.0, e.1) at q.2) p.3
  one_run budget t i (Stopped x k a) (Stopped y l c) p q =
      let e = one_end budget x y t p.0 q.0 i p.1 q.1 p.2 q.2 (barred_halts budget (length x) p.0 a (reached_term x t p.0 i p.1) p.3)
      (barred_halts budget (length y) q.0 c (reached_term y t q.0 i q.1) q.3) in
      (same_refusal budget (length x) p.0 a c (reached_term x t p.0 i p.1) p.3 (rw (e.0, e.1) q.3), e.2)
