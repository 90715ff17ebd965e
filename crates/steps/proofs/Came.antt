-- What comes back, as one record, says the answer and every further result, since an answer is known by its number and place; and these say the record.
use mathlib.Core.Path.{◌≡◌, ap}
use mathlib.Core.List.{List}
use Prim.Native.Nat.{ℕ}
use Rattle.term.specs.declared.answer.Answer.{Answer}
use Rattle.term.specs.Answer.{answered}
use Rattle.term.proofs.Laws.{answered_same}
use Rattle.steps.specs.Rewrite.{rewrite_root, root_answer, root_words, root_visits, RewriteRootOutcome, rewrite_root_came, rewrite_root_gives}
use Rattle.steps.specs.Simplify.{simplify, simplify_answer, simplify_words, simplify_steps, simplify_visits, SimplifyOutcome, simplify_came, simplify_gives}
use Rattle.steps.specs.declared.simplify.Simplified.{Simplified}
use Rattle.steps.proofs.Roots.{BuiltTold}
use Rattle.steps.proofs.Runs.{RunTold}

-- ---- rewriting at the root
module _ (book tree term : List ℕ) (room : ℕ) (r : Answer) (visits : ℕ) (out : List ℕ) where
  pub rewrite_root_came_lem : BuiltTold room (rewrite_root book tree term) r out → visits ≡ root_visits book tree term → rewrite_root_came (answered r) visits out ≡ rewrite_root_gives book tree term room
  unfolding rewrite_root_gives
  rewrite_root_came_lem t v = rw (t.0, v, t.1)

  pub came_rewrite_root : rewrite_root_came (answered r) visits out ≡ rewrite_root_gives book tree term room
      → (r ≡ root_answer room book tree term) × (out ≡ root_words room book tree term) × (visits ≡ root_visits book tree term)
  unfolding rewrite_root_gives
  came_rewrite_root e =
      (answered_same r (root_answer room book tree term) (ap (λ (o : RewriteRootOutcome). o.said) e), ap (λ (o : RewriteRootOutcome). o.out) e, ap (λ (o : RewriteRootOutcome). o.visits) e)

-- ---- simplifying
module _ (book tree term : List ℕ) (budget room : ℕ) (r : Simplified) (out : List ℕ) where
  pub simplify_came_lem : RunTold room (simplify book tree budget term) r out → simplify_came (answered r.answer) r.steps r.visits out ≡ simplify_gives book tree term budget room
  unfolding simplify_gives
  simplify_came_lem t = rw (t.0, t.1, t.2, t.3)

  pub came_simplify : simplify_came (answered r.answer) r.steps r.visits out ≡ simplify_gives book tree term budget room
      → (r.answer ≡ simplify_answer room (simplify book tree budget term)) × (out ≡ simplify_words room (simplify book tree budget term)) × (r.steps ≡ simplify_steps (simplify book tree budget term))
      × (r.visits ≡ simplify_visits (simplify book tree budget term))
  unfolding simplify_gives
  came_simplify e = (
    answered_same r.answer (simplify_answer room (simplify book tree budget term)) (ap (λ (o : SimplifyOutcome). o.said) e),
    ap (λ (o : SimplifyOutcome). o.out) e,
    ap (λ (o : SimplifyOutcome). o.steps) e,
    ap (λ (o : SimplifyOutcome). o.visits) e,
  )
