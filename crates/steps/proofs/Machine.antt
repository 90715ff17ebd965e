-- The machine is one machine: what is simplified is a term, simplifying it again makes no step, and a run that its budget cut short goes on from the term so far.
use mathlib.Core.Path.{◌≡◌, sym, ap, ap₂, ◌∙◌}
use mathlib.Core.List.{List, [], ◌∷◌}
use Prim.Native.Nat.{ℕ, zero, suc, ◌+◌}
use native.Mathlib.Omega.{arith}
use lib.ListN.{length}
use Rattle.std.specs.Prelude.{Ok}
use Rattle.term.specs.declared.answer.Answer.{Answer}
use Rattle.term.specs.declared.answer.Answer.TheVariants.{Done, BudgetUsed}
use Rattle.term.specs.Row.{Row, words}
use Rattle.term.specs.Check.{IsTerm, term_limits}
use Rattle.term.proofs.Laws.{never, tree_good}
use Rattle.book.specs.Book.{check_book}
use Rattle.book.proofs.Laws.{good_accepted}
use Rattle.fit.specs.Fit.{IsBody}
use Rattle.fit.proofs.Laws.{term_is_body, body_is_term, tree_of_lem}
use Rattle.steps.specs.Step.{Sought, Nowhere, FoundAt, Broken, lowest_offset, search_visits, Stepped, Rests, Becomes, Refused, step}
use Rattle.steps.specs.Simplify.{Search, found, Run, Stopped, Ended, one_more, budget_used, after_step, simplify_by, simplify}
use Rattle.steps.proofs.Steps.{EndsAs, rests, used, run_is, steps_term}

-- a run after the steps of a trace
abbrev pub traced_after : List Search → Run → Run
traced_after [] r = r
traced_after (s ∷ trace) r = one_more s (traced_after trace r)

module _ (book table : List ℕ) where
  -- ---- where no offset has a rule, simplifying makes no step, after one search
  pub simplified_still : (budget : ℕ) (v : Row) → lowest_offset book table v ≡ Nowhere → simplify_by book table budget v ≡ Ended [] (search_visits book table v) Done v
  unfolding simplify_by step
  simplified_still zero v e = rw e
  simplified_still (suc budget) v e = rw e

  done_nowhere : (budget n : ℕ) (v : Row) → EndsAs book table budget n v Done → lowest_offset book table v ≡ Nowhere
  done_nowhere budget n v (rests e q) = q
  done_nowhere budget n v (used e m at f q) = never (cc)

  pub done_still : (budget : ℕ) (trace : List Search) (last : ℕ) (t v : Row) → simplify_by book table budget t ≡ Ended trace last Done v → lowest_offset book table v ≡ Nowhere
  done_still budget trace last t v e = done_nowhere budget (length trace) v (rw e at (run_is book table budget t)).2

  -- ---- a run that was cut short goes on: its trace, and then the run from the term so far, whose first search is the last of the run that was cut
  cut_now : (t v : Row) (n : ℕ) (trace : List Search) (last : ℕ) (s : Sought) → budget_used t n s ≡ Ended trace last BudgetUsed v → (trace ≡ []) × (t ≡ v)
  cut_now t v n trace last Nowhere e = never (cc)
  cut_now t v n trace last (FoundAt at f) e = (cc, cc)
  cut_now t v n trace last (Broken address) e = never (cc)

  pub goes_on : (m n : ℕ) (trace : List Search) (last : ℕ) (t v : Row) → simplify_by book table m t ≡ Ended trace last BudgetUsed v → length trace ≡ m
      → simplify_by book table (m + n) t ≡ traced_after trace (simplify_by book table n v)
  unfolding simplify_by
  goes_on zero n trace last t v e k =
      let z : 0 + n ≡ n = omega arith in
      let c = cut_now t v (search_visits book table t) trace last (lowest_offset book table t) e in
      rw (z, c.0, c.1)
  goes_on (suc m) n [] last t v e k = absurd (omega (arith, k))
  goes_on (suc m) n (x ∷ trace) last t v e k =
      let z : suc m + n ≡ suc (m + n) = omega arith in
      ap (λ (k : ℕ). simplify_by book table k t) z ∙ go (step book table t) e (λ u q. goes_on m n trace last u v q (omega (arith, k)))
    where
      one_less_lem : (s : Search) (r : Run) → one_more s r ≡ Ended (x ∷ trace) last BudgetUsed v → (s ≡ x) × (r ≡ Ended trace last BudgetUsed v)
      one_less_lem s (Stopped y l a) e = never (cc)
      one_less_lem s (Ended y l a w) e = (cc, cc)

      go : (s : Stepped) → after_step (simplify_by book table m) t (search_visits book table t) s ≡ Ended (x ∷ trace) last BudgetUsed v
          → ((u : Row) → simplify_by book table m u ≡ Ended trace last BudgetUsed v → simplify_by book table (m + n) u ≡ traced_after trace (simplify_by book table n v))
          → after_step (simplify_by book table (m + n)) t (search_visits book table t) s ≡ one_more x (traced_after trace (simplify_by book table n v))
      go Rests q ih = never (cc)
      go (Becomes rule u) q ih =
          let c = one_less_lem (found rule (search_visits book table t)) (simplify_by book table m u) q in
          ap₂ one_more c.0 (ih u c.1)
      go (Refused a) q ih = never (cc)

-- ---- over words: an accepted book, any tree, any term
module _ (book : List ℕ) (accepted : check_book book ≡ Ok tt) (table : List ℕ) where
  simplify_is : (budget : ℕ) (ws : List ℕ) (i : IsTerm ws) → simplify book table budget ws ≡ simplify_by book table budget i.tree
  unfolding simplify
  simplify_is budget ws i = rw (good_accepted book accepted, tree_good term_limits ws i, tree_of_lem term_limits ws i)

  simplify_words_lem : (budget : ℕ) (v : Row) → IsBody v → simplify book table budget (words v) ≡ simplify_by book table budget v
  simplify_words_lem budget v i = simplify_is budget (words v) (body_is_term v i)

  module _ (budget : ℕ) (trace : List Search) (last : ℕ) (a : Answer) (v : Row) (ws : List ℕ) (i : IsTerm ws) (e : simplify book table budget ws ≡ Ended trace last a v) where
    by_row : simplify_by book table budget i.tree ≡ Ended trace last a v
    by_row = sym (simplify_is budget ws i) ∙ e

    -- what is simplified is a term
    pub result_term : IsBody v
    result_term = steps_term book table accepted trace i.tree v (term_is_body ws i) (rw by_row at (run_is book table budget i.tree)).0

    -- simplifying it again makes no step: it makes the last search once more
    pub simplify_again : a ≡ Done → (more : ℕ) → simplify book table more (words v) ≡ Ended [] last Done v
    simplify_again d more =
        simplify_words_lem more v result_term
        ∙ simplified_still book table more v (done_still book table budget trace last i.tree v (rw d at by_row))
        ∙ ap (λ (n : ℕ). Ended [] n Done v) (sym (rw by_row at (run_is book table budget i.tree)).3)

    -- a run that its budget cut short goes on from the term so far
    pub simplify_on : a ≡ BudgetUsed → length trace ≡ budget → (more : ℕ) → simplify book table (budget + more) ws ≡ traced_after trace (simplify book table more (words v))
    simplify_on d f more =
        simplify_is (budget + more) ws i
        ∙ goes_on book table budget more trace last i.tree v (rw d at by_row) f
        ∙ ap (traced_after trace) (sym (simplify_words_lem more v result_term))
