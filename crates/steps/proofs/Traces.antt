-- The trace of a run has one search for each step, and each found a rule of the book, since the walk finds no other; the visits said are the sum over the
-- trace and those of the last search, and they are few, since a search makes 4,096 walks of 16,385 nodes at most. For every tree, whole or damaged.
use mathlib.Core.Path.{◌≡◌, refl}
use mathlib.Core.List.{List, [], ◌∷◌}
use mathlib.Core.Option.{some}
use Prim.Native.Nat.{ℕ, ◌+◌, ◌*◌, ◌≤◌}
use native.Mathlib.Omega.{arith}
use lib.ListN.{length}
use Rattle.std.specs.Prelude.{Result, Ok, Err}
use Rattle.term.specs.Row.{Row, words}
use Rattle.term.specs.Check.{check, term_limits}
use Rattle.term.proofs.Laws.{good_tree}
use Rattle.book.specs.Book.{Rule, check_book, rule_at}
use Rattle.book.specs.Accept.{accept}
use Rattle.book.proofs.Laws.{good_accepted, bad_refused}
use Rattle.fit.specs.Fit.{IsBody}
use Rattle.fit.specs.Lowest.{Fitting}
use Rattle.fit.proofs.Laws.{term_is_body, tree_of_lem}
use Rattle.tree.specs.Find.{root_count}
use Rattle.walk.specs.Walk.{RuleFits, walk, book_fits}
use Rattle.walk.proofs.Laws.{FoundSound, walk_sound, fits_rule}
use Rattle.steps.specs.Offset.{part_at}
use Rattle.steps.specs.Step.{FoundAt, Becomes, step}
use Rattle.steps.specs.Simplify.{Search, Run, Stopped, Ended, simplify_by, run_with_term, run_with_book, simplify, trace_of, last_visits, all_visits, simplify_steps, simplify_visits}
use Rattle.steps.proofs.Steps.{SeekIs, lowest_offset_is, part_term, step_term, StepsTo, RunIs, run_is, steps_term}
use Rattle.steps.proofs.Seeks.{term_few}
use Rattle.steps.proofs.Judgements.{step_made}

-- ---- what is said of a run, of its trace
pub trace_steps : (run : Run) → simplify_steps run ≡ length (trace_of run)
unfolding simplify_steps
trace_steps run = refl

pub trace_visits : (run : Run) → simplify_visits run ≡ all_visits (trace_of run) + last_visits run
unfolding simplify_visits
trace_visits run = refl

-- ---- each search found a rule of the book
abbrev pub EachFound : List ℕ → List Search → Type 0
EachFound book [] = Unit {0}
EachFound book (s ∷ trace) = ((rule : Rule) × (rule_at book s.rule ≡ some rule)) × EachFound book trace

module _ (book table : List ℕ) where
  walked_rule_lem : (p : Row) → IsBody p → (f : Fitting) (n : ℕ) → walk (book_fits book) table p ≡ RuleFits f n → (number : ℕ) → number ≡ f.number → (rule : Rule) × (rule_at book number ≡ some rule)
  walked_rule_lem p i f n e number q =
      let s : FoundSound (book_fits book (root_count p)) (RuleFits f n) = rw e at (walk_sound (book_fits book) table p i) in
      let r = fits_rule book (root_count p) (record { rule = f.number; aside = f.aside; variables = s.0 }) s.2 in
      (r.0, rw q r.1)

  step_rule : (number : ℕ) (t u : Row) → IsBody t → step book table t ≡ Becomes number u → (rule : Rule) × (rule_at book number ≡ some rule)
  step_rule number t u i e =
      let m = step_made book table t number u e in
      let k : SeekIs (walk (book_fits book) table) t 0 (length (words t)) (FoundAt m.0 m.1) = rw m.2 at (lowest_offset_is book table t) in
      walked_rule_lem (part_at t m.0) (part_term t i m.0 k.1.inside) m.1 k.0 k.1.here number m.7

  module _ (accepted : check_book book ≡ Ok tt) where
    pub trace_rules : (trace : List Search) (t v : Row) → IsBody t → StepsTo book table trace t v → EachFound book trace
    unfolding StepsTo
    trace_rules [] t v i s = tt
    trace_rules (x ∷ trace) t v i s =
        (step_rule x.rule t s.0 i s.1, trace_rules trace s.0 v (step_term book accepted table x.rule t s.0 i s.1) s.3)

    -- ---- how many nodes the searches visit
    pub trace_few : (trace : List Search) (t v : Row) → IsBody t → StepsTo book table trace t v → all_visits trace ≤ 67112960 * length trace
    unfolding StepsTo
    trace_few [] t v i s = omega arith
    trace_few (x ∷ trace) t v i s =
        omega (arith, s.2, term_few book table t i, trace_few trace s.0 v (step_term book accepted table x.rule t s.0 i s.1) s.3)

  -- ---- every run
  abbrev pub TraceIs : Run → Type 0
  TraceIs run = EachFound book (trace_of run) × (simplify_visits run ≤ 67112960 * (simplify_steps run + 1))

  module _ (accepted : check_book book ≡ Ok tt) (budget : ℕ) (t : Row) (i : IsBody t) where
    run_trace : (run : Run) → RunIs book table budget t run → TraceIs run
    unfolding simplify_steps simplify_visits
    run_trace (Stopped trace last a) r =
        let few = term_few book table r.0 (steps_term book table accepted trace t r.0 i r.1) in
        (trace_rules accepted trace t r.0 i r.1, omega (arith, r.4, few, trace_few accepted trace t r.0 i r.1))
    run_trace (Ended trace last a v) r =
        let few = term_few book table v (steps_term book table accepted trace t v i r.0) in
        (trace_rules accepted trace t v i r.0, omega (arith, r.3, few, trace_few accepted trace t v i r.0))

  pub simplify_trace : (budget : ℕ) (ws : List ℕ) → EachFound book (trace_of (simplify book table budget ws)) × (simplify_visits (simplify book table budget ws) ≤ 67112960 * (simplify_steps (simplify book table budget ws) + 1))
  unfolding simplify simplify_steps simplify_visits
  simplify_trace budget ws = by_book_lem (check_book book) refl
    where
      by_term_lem : check_book book ≡ Ok tt → (c : Result (Unit {0}) ℕ) → check term_limits ws ≡ c → TraceIs (run_with_term book table budget ws c)
      by_term_lem g (Ok _) e =
          let i = good_tree term_limits (omega arith) ws e in
          rw (tree_of_lem term_limits ws i) (run_trace g budget i.tree (term_is_body ws i) (simplify_by book table budget i.tree) (run_is book table budget i.tree))
      by_term_lem g (Err at) e = (tt, omega arith)

      by_book_lem : (c : Result (Unit {0}) ℕ) → check_book book ≡ c → TraceIs (run_with_book book table budget ws (accept book))
      by_book_lem (Ok _) e = rw (good_accepted book e) (by_term_lem e (check term_limits ws) refl)
      by_book_lem (Err at) e = rw (bad_refused book at e) (tt, omega arith)
