-- Rewriting at the root and simplifying, judgement by judgement: the book, the term, and then the walk or the run. Each is one line of a definition; that a damaged node or a refused step stops a run is one induction over the steps before it.
use mathlib.Core.Path.{◌≡◌, refl, sym, ap, ap₂, ◌∙◌}
use mathlib.Core.Bool.{Bool, true, false}
use mathlib.Core.List.{List, [], ◌∷◌}
use mathlib.Core.Option.{Option, none, some}
use Prim.Native.Nat.{ℕ, zero, suc, ◌+◌, ◌≤◌, ◌<◌}
use native.Mathlib.Omega.{arith}
use lib.Dec.{leb}
use lib.ListN.{length, replicate}
use Rattle.std.specs.Prelude.{Ok, Err}
use Rattle.term.specs.declared.answer.Answer.{Answer}
use Rattle.term.specs.declared.answer.Answer.TheVariants.{BudgetUsed, BadTerm, BadBook, Short, Damaged, Over, CannotTake}
use Rattle.term.specs.Word.{pick}
use Rattle.term.specs.Row.{Row, nothing, words, Formed}
use Rattle.term.specs.Check.{check, term_limits}
use Rattle.term.specs.Part.{padded}
use Rattle.book.specs.Book.{Rule, check_book, rule_at}
use Rattle.book.proofs.Laws.{good_accepted, bad_refused}
use Rattle.fit.specs.Match.{tree_of, left_in}
use Rattle.fit.specs.Front.{root_arguments, aside, aside_arguments}
use Rattle.fit.specs.Lowest.{Fitting}
use Rattle.fit.specs.Build.{within_limits, refused}
use Rattle.fit.proofs.Laws.{width_aside}
use Rattle.walk.specs.Walk.{walk, visits, book_fits}
use Rattle.steps.specs.Right.{write}
use Rattle.steps.specs.Arguments.{with_aside}
use Rattle.steps.specs.Rewrite.{many_aside, rewritten, walked_root, rewrite_root, root_visits}
use Rattle.steps.specs.Offset.{part_at, spliced}
use Rattle.steps.specs.Step.{Sought, Nowhere, FoundAt, Broken, lowest_offset, search_visits, Stepped, Rests, Becomes, Refused, whole_within, step_taken, step_found, step}
use Rattle.steps.specs.Simplify.{Search, found, Stopped, Ended, one_more, budget_used, after_step, simplify_by, simplify, simplify_answer, simplify_words, all_visits, simplify_steps, simplify_visits}
use Rattle.steps.proofs.Replaced.{none_wide}
use Rattle.steps.proofs.Arguments.{nothing_aside}
use Rattle.steps.proofs.Steps.{StepsTo}

-- what a rule of the book makes of a term: its right side with the arguments set aside, and with nothing set aside its right side alone
module _ (book : List ℕ) (t : Row) (f : Fitting) (rule : Rule) (e : rule_at book f.number ≡ some rule) where
  pub rule_writes_right : rewritten book t f ≡ with_aside (write f.bodies 0 (tree_of rule.right)) (aside_arguments (root_arguments (left_in rule)) t)
  unfolding rewritten
  rule_writes_right = rw e

  pub rule_aside : many_aside book t f ≡ aside (root_arguments (left_in rule)) t
  rule_aside = rw e

  pub none_aside_writes : Formed t → many_aside book t f ≡ 0 → rewritten book t f ≡ some (write f.bodies 0 (tree_of rule.right))
  none_aside_writes w z =
      let n : aside_arguments (root_arguments (left_in rule)) t ≡ nothing =
      none_wide (aside_arguments (root_arguments (left_in rule)) t) (width_aside (root_arguments (left_in rule)) t w ∙ sym rule_aside ∙ z) in
      rule_writes_right ∙ ap (with_aside (write f.bodies 0 (tree_of rule.right))) n ∙ nothing_aside (write f.bodies 0 (tree_of rule.right))

-- ---- rewriting at the root
module _ (book table ws : List ℕ) where
  pub rewrite_bad_book : (at : ℕ) → check_book book ≡ Err at → rewrite_root book table ws ≡ refused (BadBook at)
  unfolding rewrite_root
  rewrite_bad_book at e = rw (bad_refused book at e)

  pub rewrite_bad_term : check_book book ≡ Ok tt → (at : ℕ) → check term_limits ws ≡ Err at → rewrite_root book table ws ≡ refused (BadTerm at)
  unfolding rewrite_root
  rewrite_bad_term g at e = rw (good_accepted book g, e)

  pub rewrite_walked : check_book book ≡ Ok tt → check term_limits ws ≡ Ok tt → rewrite_root book table ws ≡ walked_root book (tree_of ws) (walk (book_fits book) table (tree_of ws))
  unfolding rewrite_root
  rewrite_walked g e = rw (good_accepted book g, e)

  -- the visits of its one walk, none before it
  pub root_visits_bad_book : (at : ℕ) → check_book book ≡ Err at → root_visits book table ws ≡ 0
  unfolding root_visits
  root_visits_bad_book at e = rw (bad_refused book at e)

  pub root_visits_bad_term : check_book book ≡ Ok tt → (at : ℕ) → check term_limits ws ≡ Err at → root_visits book table ws ≡ 0
  unfolding root_visits
  root_visits_bad_term g at e = rw (good_accepted book g, e)

  pub root_visits_lem : check_book book ≡ Ok tt → check term_limits ws ≡ Ok tt → root_visits book table ws ≡ visits table (tree_of ws)
  unfolding root_visits
  root_visits_lem g e = rw (good_accepted book g, e)

  -- ---- simplifying
  module _ (budget : ℕ) where
    pub simplify_bad_book : (at : ℕ) → check_book book ≡ Err at → simplify book table budget ws ≡ Stopped [] 0 (BadBook at)
    unfolding simplify
    simplify_bad_book at e = rw (bad_refused book at e)

    pub simplify_bad_term : check_book book ≡ Ok tt → (at : ℕ) → check term_limits ws ≡ Err at → simplify book table budget ws ≡ Stopped [] 0 (BadTerm at)
    unfolding simplify
    simplify_bad_term g at e = rw (good_accepted book g, e)

    pub simplify_runs : check_book book ≡ Ok tt → check term_limits ws ≡ Ok tt → simplify book table budget ws ≡ simplify_by book table budget (tree_of ws)
    unfolding simplify
    simplify_runs g e = rw (good_accepted book g, e)

-- what is answered, left and counted of a run
module _ (room : ℕ) (trace : List Search) (last : ℕ) (a : Answer) where
  pub stopped_run : (simplify_answer room (Stopped trace last a) ≡ a) × (simplify_words room (Stopped trace last a) ≡ replicate room 0)
      × (simplify_steps (Stopped trace last a) ≡ length trace) × (simplify_visits (Stopped trace last a) ≡ all_visits trace + last)
  unfolding simplify_answer simplify_words simplify_steps simplify_visits
  stopped_run = (refl, refl, refl, refl)

  pub ended_run : (t : Row) → (simplify_answer room (Ended trace last a t) ≡ pick (leb (length (words t)) room) a Short) × (simplify_words room (Ended trace last a t) ≡ padded room (words t))
      × (simplify_steps (Ended trace last a t) ≡ length trace) × (simplify_visits (Ended trace last a t) ≡ all_visits trace + last)
  unfolding simplify_answer simplify_words simplify_steps simplify_visits
  ended_run t = (refl, refl, refl, refl)

-- ---- steps one after the other
module _ (book table : List ℕ) where
  pub steps_none : (t v : Row) → StepsTo book table [] t v → t ≡ v
  unfolding StepsTo
  steps_none t v s = s

  pub steps_more : (x : Search) (trace : List Search) (t v : Row) → StepsTo book table (x ∷ trace) t v
      → (u : Row) × (step book table t ≡ Becomes x.rule u) × (x.visits ≡ search_visits book table t) × StepsTo book table trace u v
  unfolding StepsTo
  steps_more x trace t v s = s

  pub none_steps : (t : Row) → StepsTo book table [] t t
  unfolding StepsTo
  none_steps t = refl

  pub more_steps : (trace : List Search) (rule : ℕ) (t u v : Row) → step book table t ≡ Becomes rule u → StepsTo book table trace u v
      → StepsTo book table (found rule (search_visits book table t) ∷ trace) t v
  unfolding StepsTo
  more_steps trace rule t u v e s = (u, e, refl, s)

  -- a step is made by the rule that the walk finds at the lowest offset, where the whole is within the limits
  module _ (t : Row) where
    abbrev MadeBy : Stepped → Type 0
    MadeBy Rests = Unit {0}
    MadeBy (Becomes rule u) = (at : ℕ) × (f : Fitting) × (lowest_offset book table t ≡ FoundAt at f) × (new : Row) × (rewritten book (part_at t at) f ≡ some new) × (u ≡ spliced t at new) × (within_limits u ≡ true) × (rule ≡ f.number)
    MadeBy (Refused a) = Unit {0}

    made_by_lem : (s : Sought) → lowest_offset book table t ≡ s → MadeBy (step_found book t s)
    unfolding whole_within
    made_by_lem Nowhere e = tt
    made_by_lem (FoundAt at f) e = taken (rewritten book (part_at t at) f) refl
      where
        go : (u : Row) → rewritten book (part_at t at) f ≡ some u → (b : Bool) → within_limits (spliced t at u) ≡ b → MadeBy (pick b (Becomes f.number (spliced t at u)) (Refused Over))
        go u w true q = (at, f, e, u, w, refl, q, refl)
        go u w false q = tt

        taken : (o : Option Row) → rewritten book (part_at t at) f ≡ o → MadeBy (step_taken t at f.number (many_aside book (part_at t at) f) o)
        taken none w = tt
        taken (some u) w = go u w (within_limits (spliced t at u)) refl
    made_by_lem (Broken address) e = tt

    pub step_made : (rule : ℕ) (u : Row) → step book table t ≡ Becomes rule u
        → (at : ℕ) × (f : Fitting) × (lowest_offset book table t ≡ FoundAt at f) × (new : Row) × (rewritten book (part_at t at) f ≡ some new) × (u ≡ spliced t at new) × (within_limits u ≡ true)
        × (rule ≡ f.number)
    unfolding step
    step_made rule u e = rw e at (made_by_lem (lowest_offset book table t) refl)

    pub makes_step : (at : ℕ) (f : Fitting) → lowest_offset book table t ≡ FoundAt at f → (new : Row) → rewritten book (part_at t at) f ≡ some new → within_limits (spliced t at new) ≡ true
        → step book table t ≡ Becomes f.number (spliced t at new)
    unfolding step whole_within
    makes_step at f e new q w = rw (e, q, w)

    -- refused where that cannot take the arguments set aside, and then where it is over the limits
    pub cannot_step : (at : ℕ) (f : Fitting) → lowest_offset book table t ≡ FoundAt at f → rewritten book (part_at t at) f ≡ none → step book table t ≡ Refused (CannotTake (many_aside book (part_at t at) f))
    unfolding step
    cannot_step at f e q = rw (e, q)

    pub over_step : (at : ℕ) (f : Fitting) → lowest_offset book table t ≡ FoundAt at f → (new : Row) → rewritten book (part_at t at) f ≡ some new → within_limits (spliced t at new) ≡ false
        → step book table t ≡ Refused Over
    unfolding step whole_within
    over_step at f e new q w = rw (e, q, w)

-- the search of a step, by what is said of it
one_search : (x : Search) (n : ℕ) → x.visits ≡ n → found x.rule n ≡ x
one_search x n e = ap (found x.rule) (sym e)

-- ---- a damaged node stops a run, after the steps before it
module _ (book table : List ℕ) (address : ℕ) where
  refuses_step : (t : Row) → lowest_offset book table t ≡ Broken address → (budget : ℕ) → simplify_by book table budget t ≡ Stopped [] (search_visits book table t) (Damaged address)
  unfolding simplify_by step
  refuses_step t e zero = ap (budget_used t (search_visits book table t)) e
  refuses_step t e (suc budget) = ap (λ s. after_step (simplify_by book table budget) t (search_visits book table t) (step_found book t s)) e

  pub damage_stops : (trace : List Search) (budget : ℕ) (t v : Row) → StepsTo book table trace t v → length trace ≤ budget → lowest_offset book table v ≡ Broken address
      → simplify_by book table budget t ≡ Stopped trace (search_visits book table v) (Damaged address)
  unfolding StepsTo simplify_by
  damage_stops [] budget t v s l e = refuses_step t (rw s e) budget ∙ ap (λ (u : Row). Stopped [] (search_visits book table u) (Damaged address)) s
  damage_stops (x ∷ trace) zero t v s l e = absurd (omega arith)
  damage_stops (x ∷ trace) (suc budget) t v s l e =
      ap (after_step (simplify_by book table budget) t (search_visits book table t)) s.1
      ∙ ap₂ one_more (one_search x (search_visits book table t) s.2) (damage_stops trace budget s.0 v s.3 (omega arith) e)

-- ---- a step that is refused stops a run, after the steps before it; where the budget is used it is not looked at
module _ (book table : List ℕ) where
  pub refusal_stops : (a : Answer) (trace : List Search) (budget : ℕ) (t v : Row) → StepsTo book table trace t v → length trace < budget → step book table v ≡ Refused a
      → simplify_by book table budget t ≡ Stopped trace (search_visits book table v) a
  unfolding StepsTo simplify_by
  refusal_stops a [] zero t v s l e = absurd (omega arith)
  refusal_stops a [] (suc budget) t v s l e =
      ap (after_step (simplify_by book table budget) t (search_visits book table t)) (ap (step book table) s ∙ e) ∙ ap (λ (u : Row). Stopped [] (search_visits book table u) a) s
  refusal_stops a (x ∷ trace) zero t v s l e = absurd (omega arith)
  refusal_stops a (x ∷ trace) (suc budget) t v s l e =
      ap (after_step (simplify_by book table budget) t (search_visits book table t)) s.1
      ∙ ap₂ one_more (one_search x (search_visits book table t) s.2) (refusal_stops a trace budget s.0 v s.3 (omega arith) e)

  pub used_first : (at : ℕ) (f : Fitting) (trace : List Search) (t v : Row) → StepsTo book table trace t v → lowest_offset book table v ≡ FoundAt at f
      → simplify_by book table (length trace) t ≡ Ended trace (search_visits book table v) BudgetUsed v
  unfolding StepsTo simplify_by
  used_first at f [] t v s e =
      ap (budget_used t (search_visits book table t)) (ap (lowest_offset book table) s ∙ e) ∙ ap (λ (u : Row). Ended [] (search_visits book table u) BudgetUsed u) s
  used_first at f (x ∷ trace) t v s e =
      ap (after_step (simplify_by book table (length trace)) t (search_visits book table t)) s.1
      ∙ ap₂ one_more (one_search x (search_visits book table t) s.2) (used_first at f trace s.0 v s.3 e)
