-- Demand 3 seen from here: with a table that begins with the tree of an accepted book, as what compiling leaves does, each step is at the lowest offset at which some rule fits at all, by the lowest rule that fits there.
-- So simplifying is read without trees: rules, bodies, offsets and limits.
use mathlib.Core.Path.{◌≡◌, refl, sym, ap, ◌∙◌}
use mathlib.Core.Bool.{Bool, true, false}
use mathlib.Core.List.{List, [], ◌∷◌}
use mathlib.Core.Option.{Option, none, some}
use Prim.Native.Nat.{ℕ, ◌≤◌, ◌<◌}
use native.Mathlib.Omega.{arith}
use lib.ListN.{length, get_or}
use Rattle.std.specs.Prelude.{Ok}
use Rattle.term.specs.declared.answer.Answer.{Answer}
use Rattle.term.specs.declared.answer.Answer.TheVariants.{Done, BudgetUsed, Over, CannotTake}
use Rattle.term.specs.Word.{pick}
use Rattle.term.specs.Row.{Row, words}
use Rattle.term.specs.Check.{IsTerm, term_limits}
use Rattle.term.proofs.Laws.{never, tree_good}
use Rattle.book.specs.Book.{check_book}
use Rattle.book.proofs.Laws.{good_accepted}
use Rattle.fit.specs.Fit.{IsBody}
use Rattle.fit.specs.Lowest.{Fitting, lowest_front}
use Rattle.fit.specs.Build.{within_limits}
use Rattle.fit.proofs.Laws.{term_is_body, body_is_term, tree_of_lem, LowestFrontIs, book_lowest_front}
use Rattle.tree.specs.Root.{book_tree}
use Rattle.tree.proofs.Laws.{Lies, vars_in}
use Rattle.walk.specs.Walk.{NoneFits, RuleFits, DamagedAt, walk, book_fits}
use Rattle.walk.proofs.Laws.{walked_of, begun_with}
use Rattle.steps.specs.Rewrite.{many_aside, rewritten, walked_root, rewrite_root}
use Rattle.steps.specs.Offset.{part_at, spliced}
use Rattle.steps.specs.Step.{Sought, Nowhere, FoundAt, Broken, lowest_offset, Stepped, Rests, Becomes, Refused, whole_within, step_taken, step_found, step}
use Rattle.steps.specs.Simplify.{Search, Run, Stopped, Ended, simplify_by, simplify}
use Rattle.steps.proofs.Steps.{SeekIs, lowest_offset_is, part_term, step_term, StepsTo, EndsAs, rests, used, StopsAs, broken, cannot, over, RunIs, run_is, steps_term}

module _ (book : List ℕ) where
  -- the lowest of the book's rules for which some bodies, of all there could be, turn its left side into the tree at an offset without the arguments set aside, with their number and these bodies; none only where there is none
  abbrev pub FitsAt : Row → ℕ → Option Fitting → Type 0
  FitsAt t at o = LowestFrontIs book 0 (get_or book 0 0) (part_at t at) o

  -- the lowest offset at which some rule fits, and the lowest rule that fits there
  abbrev pub FirstFit : Row → Sought → Type 0
  FirstFit t Nowhere = (k : ℕ) → k < length (words t) → FitsAt t k none
  FirstFit t (FoundAt at f) = (at < length (words t)) × FitsAt t at (some f) × ((k : ℕ) → k < at → FitsAt t k none)
  FirstFit t (Broken address) = ⊥

  -- one step by the rule of a number: the part there becomes what the rule makes of it, and the whole is within the limits
  pub record OneStep (rule : ℕ) (t u : Row) : Type 0 where
    pub at : ℕ
    pub fitting : Fitting
    pub number : rule ≡ fitting.number
    pub first : FirstFit t (FoundAt at fitting)
    pub new : Row
    pub writes : rewritten book (part_at t at) fitting ≡ some new
    pub is : u ≡ spliced t at new
    pub within : within_limits u ≡ true

  -- steps by the rules of these searches; what the searches visited is not said, since that is of the tree
  unfoldable pub Reaches : List Search → Row → Row → Type 0
  Reaches [] t v = t ≡ v
  Reaches (s ∷ trace) t v = (u : Row) × OneStep s.rule t u × Reaches trace u v

  -- no rule fits anywhere, or the budget is used and a rule still fits
  pub data Rested (budget n : ℕ) (v : Row) (a : Answer) : Type 0 where
    normal : a ≡ Done → FirstFit v Nowhere → Rested budget n v a
    unfinished : a ≡ BudgetUsed → n ≡ budget → (at : ℕ) (f : Fitting) → FirstFit v (FoundAt at f) → Rested budget n v a

  -- the next step is over the limits
  pub record TooLarge (budget n : ℕ) (v : Row) (a : Answer) : Type 0 where
    pub answer : a ≡ Over
    pub left : n < budget
    pub at : ℕ
    pub fitting : Fitting
    pub first : FirstFit v (FoundAt at fitting)
    pub new : Row
    pub writes : rewritten book (part_at v at) fitting ≡ some new
    pub large : within_limits (spliced v at new) ≡ false

  -- what the next step writes cannot take the arguments set aside, which the answer counts
  pub record TooMany (budget n : ℕ) (v : Row) (a : Answer) : Type 0 where
    pub at : ℕ
    pub fitting : Fitting
    pub answer : a ≡ CannotTake (many_aside book (part_at v at) fitting)
    pub left : n < budget
    pub first : FirstFit v (FoundAt at fitting)
    pub refuses : rewritten book (part_at v at) fitting ≡ none

  -- why no step is made, though the budget has one
  pub data Barred (budget n : ℕ) (v : Row) (a : Answer) : Type 0 where
    large : TooLarge budget n v a → Barred budget n v a
    many : TooMany budget n v a → Barred budget n v a

  abbrev pub Simplified : ℕ → Row → Run → Type 0
  Simplified budget t (Stopped trace last a) = (v : Row) × Reaches trace t v × (length trace ≤ budget) × Barred budget (length trace) v a
  Simplified budget t (Ended trace last a v) = Reaches trace t v × (length trace ≤ budget) × Rested budget (length trace) v a

-- ---- a table that begins with an accepted book's tree, whatever follows it
module _ (book : List ℕ) (accepted : check_book book ≡ Ok tt) (table : List ℕ) (short : length table ≤ 16384) (lies : Lies table 0 (book_tree book)) where
  abbrev best : Row → Option Fitting
  best p = lowest_front book 0 (get_or book 0 0) p

  looks : (p : Row) → IsBody p → walk (book_fits book) table p ≡ walked_of (vars_in book) (best p)
  looks p i = begun_with book accepted p i.within.formed i.one table short lies

  best_is : (p : Row) → IsBody p → LowestFrontIs book 0 (get_or book 0 0) p (best p)
  best_is p i = book_lowest_front book accepted (words p) (body_is_term p i)

  -- ---- what a walk says is what fits
  none_of : (o : Option Fitting) → walked_of (vars_in book) o ≡ NoneFits → o ≡ none
  none_of none e = refl
  none_of (some f) e = never (cc)

  some_of : (o : Option Fitting) (f : Fitting) (n : ℕ) → walked_of (vars_in book) o ≡ RuleFits f n → o ≡ some f
  some_of none f n e = never (cc)
  some_of (some g) f n e = cc

  never_damaged : (o : Option Fitting) (address : ℕ) → walked_of (vars_in book) o ≡ DamagedAt address → ⊥
  never_damaged none address e = never (cc)
  never_damaged (some f) address e = never (cc)

  module _ (t : Row) (i : IsBody t) where
    none_at : (k : ℕ) → k < length (words t) → walk (book_fits book) table (part_at t k) ≡ NoneFits → FitsAt book t k none
    none_at k l e =
        let p = part_term t i k l in
        rw (none_of (best (part_at t k)) (sym (looks (part_at t k) p) ∙ e)) at (best_is (part_at t k) p)

    first_fit_lem : (s : Sought) → SeekIs (walk (book_fits book) table) t 0 (length (words t)) s → FirstFit book t s
    first_fit_lem Nowhere p = λ k l. none_at k l (p k (omega arith) l)
    first_fit_lem (FoundAt at f) p =
        let q = part_term t i at p.1.inside in (
          p.1.inside,
          rw (some_of (best (part_at t at)) f p.0 (sym (looks (part_at t at) q) ∙ p.1.here)) at (best_is (part_at t at) q),
          λ k l. none_at k (omega (arith, l, p.1.inside)) (p.1.earlier k (omega arith) l),
        )
    first_fit_lem (Broken address) p =
        let q = part_term t i p.0 p.1.inside in
        never_damaged (best (part_at t p.0)) address (sym (looks (part_at t p.0) q) ∙ p.1.here)

    -- the walk is at the lowest offset at which some rule fits, with the lowest rule that fits there; it meets no damage
    pub compiled_offset : FirstFit book t (lowest_offset book table t)
    compiled_offset = first_fit_lem (lowest_offset book table t) (lowest_offset_is book table t)

    compiled_found : (s : Sought) → lowest_offset book table t ≡ s → FirstFit book t s
    compiled_found s e = rw e at compiled_offset

    abbrev StepO : Stepped → Type 0
    StepO Rests = FirstFit book t Nowhere
    StepO (Becomes rule u) = OneStep book rule t u
    StepO (Refused a) = Barred book 1 0 t a

    step_o : (s : Sought) → lowest_offset book table t ≡ s → StepO (step_found book t s)
    unfolding whole_within
    step_o Nowhere e = compiled_found Nowhere e
    step_o (FoundAt at f) e = taken (rewritten book (part_at t at) f) refl
      where
        first : FirstFit book t (FoundAt at f)
        first = compiled_found (FoundAt at f) e

        go : (u : Row) → rewritten book (part_at t at) f ≡ some u → (b : Bool) → within_limits (spliced t at u) ≡ b → StepO (pick b (Becomes f.number (spliced t at u)) (Refused Over))
        go u w true q = record { at = at; fitting = f; number = refl; first = first; new = u; writes = w; is = refl; within = q }
        go u w false q = large (record { answer = refl; left = omega arith; at = at; fitting = f; first = first; new = u; writes = w; large = q })

        taken : (o : Option Row) → rewritten book (part_at t at) f ≡ o → StepO (step_taken t at f.number (many_aside book (part_at t at) f) o)
        taken none w = many (record { at = at; fitting = f; answer = refl; left = omega arith; first = first; refuses = w })
        taken (some u) w = go u w (within_limits (spliced t at u)) refl
    step_o (Broken address) e = absurd (compiled_found (Broken address) e)

    pub compiled_step : StepO (step book table t)
    unfolding step
    compiled_step = step_o (lowest_offset book table t) refl

  -- ---- simplifying
  reaches : (trace : List Search) (t v : Row) → IsBody t → StepsTo book table trace t v → Reaches book trace t v
  unfolding Reaches StepsTo
  reaches [] t v i s = s
  reaches (x ∷ trace) t v i s =
      (s.0, rw s.1 at (compiled_step t i), reaches trace s.0 v (step_term book accepted table x.rule t s.0 i s.1) s.3)

  rested : (budget n : ℕ) (v : Row) (a : Answer) → IsBody v → EndsAs book table budget n v a → Rested book budget n v a
  rested budget n v a i (rests e q) = normal e (rw q at (compiled_offset v i))
  rested budget n v a i (used e m at f q) = unfinished e m at f (rw q at (compiled_offset v i))

  barred : (budget n : ℕ) (v : Row) (a : Answer) → IsBody v → StopsAs book table budget n v a → Barred book budget n v a
  barred budget n v a i (broken address e q) = absurd (rw q at (compiled_offset v i))
  barred budget n v a i (cannot at f e m q w) = many (record { at = at; fitting = f; answer = e; left = m; first = rw q at (compiled_offset v i); refuses = w })
  barred budget n v a i (over e m at f q u w z) = large (record { answer = e; left = m; at = at; fitting = f; first = rw q at (compiled_offset v i); new = u; writes = w; large = z })

  run_of : (budget : ℕ) (t : Row) → IsBody t → (r : Run) → RunIs book table budget t r → Simplified book budget t r
  run_of budget t i (Stopped trace last a) r =
      (r.0, reaches trace t r.0 i r.1, r.2, barred budget (length trace) r.0 a (steps_term book table accepted trace t r.0 i r.1) r.3)
  run_of budget t i (Ended trace last a v) r =
      (reaches trace t v i r.0, r.1, rested budget (length trace) v a (steps_term book table accepted trace t v i r.0) r.2)

  module _ (ws : List ℕ) (term : IsTerm ws) where
    -- simplifying a term with the compiled tree: as many steps as it says, each at the lowest offset at which some rule fits, to a term in which none fits, or as far as the budget, the arguments set aside or the limits go
    pub compiled_simplify : (budget : ℕ) → Simplified book budget term.tree (simplify book table budget ws)
    unfolding simplify
    compiled_simplify budget =
        rw (good_accepted book accepted, tree_good term_limits ws term, tree_of_lem term_limits ws term)
        (run_of budget term.tree (term_is_body ws term) (simplify_by book table budget term.tree) (run_is book table budget term.tree))

    -- rewriting at the root with the compiled tree: by the lowest rule that fits
    pub compiled_root : rewrite_root book table ws ≡ walked_root book term.tree (walked_of (vars_in book) (lowest_front book 0 (get_or book 0 0) term.tree))
    unfolding rewrite_root
    compiled_root = rw (good_accepted book accepted, tree_good term_limits ws term, tree_of_lem term_limits ws term) (ap (walked_root book term.tree) (looks term.tree (term_is_body ws term)))
