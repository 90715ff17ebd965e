-- Simplifying: a run of the machine is a run of steps as the page defines them, by the walk for every tree; with the compiled tree each walk finds
-- the lowest rule that fits, so the run is one by fit alone.
use mathlib.Core.Path.{◌≡◌, refl, sym, ap, ◌∙◌}
use mathlib.Core.Bool.{true}
use mathlib.Core.List.{List, [], ◌∷◌}
use mathlib.Core.Option.{Option, none, some}
use mathlib.Core.Logic.{◌⊎◌, inl, inr}
use Prim.Native.Nat.{ℕ, zero, suc, ◌≤◌, ◌<◌}
use native.Mathlib.Omega.{arith}
use native.Mathlib.Decide.{dec_le}
use lib.Dec.{leb}
use lib.ListN.{length}
use borrow.Author.Tests.{le-leb, lt-leb}
use Rattle.std.specs.Prelude.{Ok}
use Rattle.term.specs.declared.answer.Answer.{Answer}
use Rattle.term.specs.declared.answer.Answer.TheVariants.{Short}
use Rattle.term.specs.Answer.{Answered, answered}
use Rattle.term.specs.Word.{pick}
use Rattle.term.specs.Row.{Row, words}
use Rattle.term.specs.Check.{IsTerm, term_limits}
use Rattle.term.specs.Part.{padded}
use Rattle.term.proofs.Laws.{tree_good, padded_fits}
use Rattle.book.specs.Book.{check_book}
use Rattle.fit.specs.Fit.{IsBody}
use Rattle.fit.specs.Front.{root_arguments, aside}
use Rattle.fit.specs.Match.{tree_of, left_in}
use Rattle.fit.specs.Lowest.{Fitting}
use Rattle.fit.specs.Build.{within_limits}
use Rattle.fit.proofs.Laws.{term_is_body, tree_of_lem}
use Rattle.steps.specs.Rewrite.{many_aside, rewritten}
use Rattle.steps.specs.Offset.{part_at, spliced}
use Rattle.steps.specs.Step.{Nowhere, FoundAt, lowest_offset, Becomes}
use Rattle.steps.specs.Simplify.{Search, Run, Stopped, Ended, simplify_by, simplify_answer, simplify_words, simplify_steps, SimplifyOutcome, simplify_gives}
use Rattle.steps.proofs.Laws.{StepsTo, EndsAs, StopsAs, RunIs, run_is, part_term, step_term, FirstFit, compiled_offset, rule_writes_right, rule_aside, simplify_runs, stopped_run, ended_run, steps_none, steps_more, step_made, makes_step}
use Rattle.steps.proofs.Laws as machine
use Rattle.rosenduch.specs.Operations.{Operations, Promised}
use Rattle.rosenduch.specs.Steps.{Leads, Ends, rests, used, Gives, given, short, over, cannot, broken, Runs, RestsBy, NextBy, CannotBy, BreaksBy, RestsFit, FirstRule, writes, NextFit, CannotFit, BreaksNever}
use Rattle.rosenduch.specs.Demands.{CompiledTree}
use Rattle.rosenduch.proofs.Given.{run_given}
use Rattle.rosenduch.proofs.Trees.{accepted_book, tree_lies, tree_short}
use Rattle.rosenduch.proofs.Fitted.{nothing_fits, lowest_fit, only_bodies}

-- ---- by any tree
module _ (book tree : List ℕ) where
  abbrev LeadsBy : ℕ → Row → Row → Type 0
  LeadsBy = Leads (NextBy book tree)

  abbrev EndsBy : ℕ → ℕ → Row → Answered → Type 0
  EndsBy = Ends (RestsBy book tree) (NextBy book tree) (CannotBy book tree)

  abbrev GivesBy : ℕ → ℕ → Row → SimplifyOutcome → Type 0
  GivesBy = Gives (RestsBy book tree) (NextBy book tree) (CannotBy book tree) (BreaksBy book tree)

  abbrev RunsBy : ℕ → ℕ → Row → SimplifyOutcome → Type 0
  RunsBy = Runs (RestsBy book tree) (NextBy book tree) (CannotBy book tree) (BreaksBy book tree)

  leads : (trace : List Search) (t v : Row) → StepsTo book tree trace t v → LeadsBy (length trace) t v
  unfolding Leads
  leads [] t v s = steps_none book tree t v s
  leads (x ∷ trace) t v s =
      let k = steps_more book tree x trace t v s in
      let m = step_made book tree t x.rule k.0 k.1 in
      (k.0, (m.0, m.1, m.2, m.3, m.4, m.5), m.6, leads trace k.0 v k.3)

  ends : (budget n : ℕ) (v : Row) (a : Answer) → EndsAs book tree budget n v a → EndsBy budget n v (answered a)
  ends budget n v a (machine.rests e q) = rests (ap answered e) q
  ends budget n v a (machine.used e m at f q) = used (ap answered e) m (go (rewritten book (part_at v at) f) refl)
    where
      go : (r : Option Row) → rewritten book (part_at v at) f ≡ r → ((u : Row) × NextBy book tree v u) ⊎ ((k : ℕ) × CannotBy book tree v k)
      go none z = inr (many_aside book (part_at v at) f, (at, f, q, z, refl))
      go (some r) z = inl (spliced v at r, (at, f, q, r, z, refl))

  -- the numbers that are said are those of the run
  led : (steps n : ℕ) (t v : Row) → steps ≡ n → LeadsBy n t v → LeadsBy steps t v
  led steps n t v e l = rw e l

  ended : (budget steps n : ℕ) (v : Row) (said a : Answered) → steps ≡ n → said ≡ a → EndsBy budget n v a → EndsBy budget steps v said
  ended budget steps n v said a e q x = rw (e, q) x

  module _ (budget room : ℕ) (t : Row) (o : SimplifyOutcome) where
    gives_end : (n : ℕ) (a : Answer) (v : Row) → o.steps ≡ n → EndsBy budget n v (answered a)
        → o.said ≡ answered (pick (leb (length (words v)) room) a Short) → o.out ≡ padded room (words v) → GivesBy budget room v o
    gives_end n a v e x p q = go (dec_le (length (words v)) room)
      where
        go : Dec (length (words v) ≤ room) → GivesBy budget room v o
        go (yes h) =
            let s = p ∙ ap (λ b. answered (pick b a Short)) (le-leb (length (words v)) room h) in
            given (ended budget o.steps n v o.said (answered a) e s x) (record { fits = h; words_are = q ∙ padded_fits room (words v) h })
        go (no h) =
            let w : room < length (words v) = omega arith in
            short (answered a) (ended budget o.steps n v (answered a) (answered a) e refl x) w (p ∙ ap (λ b. answered (pick b a Short)) (lt-leb (length (words v)) room w))

    gives_stop : (n : ℕ) (a : Answer) (v : Row) → o.steps ≡ n → o.said ≡ answered a → StopsAs book tree budget n v a → GivesBy budget room v o
    gives_stop n a v e p (machine.broken address q x) = broken address x (p ∙ ap answered q)
    gives_stop n a v e p (machine.cannot at f q m x z) = cannot (omega (arith, e, m)) (many_aside book (part_at v at) f) (at, f, x, z, refl) (p ∙ ap answered q)
    gives_stop n a v e p (machine.over q m at f x u z w) = over (omega (arith, e, m)) (spliced v at u) (at, f, x, u, z, refl) w (p ∙ ap answered q)

    run_by : (run : Run) → RunIs book tree budget t run → o.said ≡ answered (simplify_answer room run) → o.out ≡ simplify_words room run → o.steps ≡ simplify_steps run → RunsBy budget room t o
    run_by (Ended trace last a v) i p q s =
        let n = length trace in
        let k = ended_run room trace last a v in
        let e = s ∙ k.2 in
        record {
          last = v;
          counted = led o.steps n t v e (leads trace t v i.0);
          within = omega (arith, e, i.1);
          gives = gives_end n a v e (ends budget n v a i.2) (p ∙ ap answered k.0) (q ∙ k.1);
        }
    run_by (Stopped trace last a) i p q s =
        let n = length trace in
        let k = stopped_run room trace last a in
        let e = s ∙ k.2 in
        record {
          last = i.0;
          counted = led o.steps n t i.0 e (leads trace t i.0 i.1);
          within = omega (arith, e, i.2);
          gives = gives_stop n a i.0 e (p ∙ ap answered k.0) i.3;
        }

  pub runs_by_tree : (term : List ℕ) → check_book book ≡ Ok tt → IsTerm term → (budget room : ℕ) (o : SimplifyOutcome) → o ≡ simplify_gives book tree term budget room
      → Runs (RestsBy book tree) (NextBy book tree) (CannotBy book tree) (BreaksBy book tree) budget room (tree_of term) o
  runs_by_tree term g i budget room o p =
      let q = p ∙ run_given book tree term budget room in
      let e = simplify_runs book tree term budget g (tree_good term_limits term i) in
      run_by budget room (tree_of term) o (simplify_by book tree budget (tree_of term)) (run_is book tree budget (tree_of term))
      (ap (λ (x : SimplifyOutcome). x.said) q ∙ ap (λ (x : Run). answered (simplify_answer room x)) e)
      (ap (λ (x : SimplifyOutcome). x.out) q ∙ ap (simplify_words room) e)
      (ap (λ (x : SimplifyOutcome). x.steps) q ∙ ap simplify_steps e)

-- ---- by the compiled tree
module _ (ops : Operations) (kept : Promised ops) (book tree : List ℕ) (k : CompiledTree ops book tree) where
  abbrev accepted : check_book book ≡ Ok tt
  accepted = accepted_book ops kept book tree k

  first : (t : Row) → IsBody t → FirstFit book t (lowest_offset book tree t)
  first t i = compiled_offset book accepted tree (tree_short ops kept book tree k) (tree_lies ops kept book tree k) t i

  nothing_at : (t : Row) → IsBody t → RestsBy book tree t → RestsFit book t
  nothing_at t i e at h = nothing_fits book accepted (part_at t at) (part_term t i at h) (rested at h)
    where
      rested : FirstFit book t Nowhere
      rested = rw e at (first t i)

  -- what the walk finds is the lowest rule that fits at the lowest offset where one does
  first_rule : (t : Row) → IsBody t → (at : ℕ) (f : Fitting) → lowest_offset book tree t ≡ FoundAt at f
      → (r : FirstRule book t) × (rewritten book (part_at t at) f ≡ writes book t r) × (many_aside book (part_at t at) f ≡ aside (root_arguments (left_in r.rule)) (part_at t r.at)) × (r.at ≡ at)
  first_rule t i at f e = shown (rw e at (first t i))
    where
      shown : FirstFit book t (FoundAt at f)
          → (r : FirstRule book t) × (rewritten book (part_at t at) f ≡ writes book t r) × (many_aside book (part_at t at) f ≡ aside (root_arguments (left_in r.rule)) (part_at t r.at)) × (r.at ≡ at)
      shown k =
          let s = lowest_fit book accepted (part_at t at) (part_term t i at k.0) f k.1 in (
            record {
              at = at;
              inside = k.0;
              earlier = λ j h. nothing_fits book accepted (part_at t j) (part_term t i j (omega (arith, h, k.0))) (k.2 j h);
              number = f.number;
              rule = s.0;
              bodies = f.bodies;
              lowest = s.1;
              only = only_bodies book accepted (part_at t at) (part_term t i at k.0) f.number s.0 f.bodies s.1;
            },
            rule_writes_right book (part_at t at) f s.0 s.1.is,
            rule_aside book (part_at t at) f s.0 s.1.is,
            refl,
          )

  next_fit : (t u : Row) → IsBody t → NextBy book tree t u → NextFit book t u
  next_fit t u i x =
      let k = first_rule t i x.0 x.1 x.2 in
      (k.0, x.3, sym k.1 ∙ x.4, x.5 ∙ ap (λ (n : ℕ). spliced t n x.3) (sym k.3))

  cannot_fit : (t : Row) (m : ℕ) → IsBody t → CannotBy book tree t m → CannotFit book t m
  cannot_fit t m i x =
      let k = first_rule t i x.0 x.1 x.2 in
      (k.0, sym k.1 ∙ x.3, x.4 ∙ k.2)

  breaks_never : (t : Row) (at : ℕ) → IsBody t → BreaksBy book tree t at → ⊥
  breaks_never t at i e = rw e at (first t i)

  next_term : (t u : Row) → IsBody t → NextBy book tree t u → within_limits u ≡ true → IsBody u
  next_term t u i x w =
      let v : within_limits (spliced t x.0 x.3) ≡ true = sym (ap within_limits x.5) ∙ w in
      step_term book accepted tree x.1.number t u i (makes_step book tree t x.0 x.1 x.2 x.3 x.4 v ∙ ap (Becomes x.1.number) (sym x.5))

  abbrev LeadsFit : ℕ → Row → Row → Type 0
  LeadsFit = Leads (NextFit book)

  leads_fit : (n : ℕ) (t v : Row) → IsBody t → LeadsBy book tree n t v → LeadsFit n t v × IsBody v
  unfolding Leads
  leads_fit zero t v i l = (l, rw l at i)
  leads_fit (suc n) t v i l =
      let m = leads_fit n l.0 v (next_term t l.0 i l.1 l.2) l.3 in
      ((l.0, next_fit t l.0 i l.1, l.2, m.0), m.1)

  ends_fit : (budget n : ℕ) (v : Row) (a : Answered) → IsBody v → EndsBy book tree budget n v a → Ends (RestsFit book) (NextFit book) (CannotFit book) budget n v a
  ends_fit budget n v a i (rests e q) = rests e (nothing_at v i q)
  ends_fit budget n v a i (used e m x) = used e m (go x)
    where
      go : ((u : Row) × NextBy book tree v u) ⊎ ((k : ℕ) × CannotBy book tree v k) → ((u : Row) × NextFit book v u) ⊎ ((k : ℕ) × CannotFit book v k)
      go (inl y) = inl (y.0, next_fit v y.0 i y.1)
      go (inr y) = inr (y.0, cannot_fit v y.0 i y.1)

  gives_fit : (budget room : ℕ) (v : Row) (o : SimplifyOutcome) → IsBody v → GivesBy book tree budget room v o → Gives (RestsFit book) (NextFit book) (CannotFit book) BreaksNever budget room v o
  gives_fit budget room v o i (given x l) = given (ends_fit budget o.steps v o.said i x) l
  gives_fit budget room v o i (short a x h e) = short a (ends_fit budget o.steps v a i x) h e
  gives_fit budget room v o i (over h u x w e) = over h u (next_fit v u i x) w e
  gives_fit budget room v o i (cannot h m x e) = cannot h m (cannot_fit v m i x) e
  gives_fit budget room v o i (broken at x e) = absurd (breaks_never v at i x)

  pub runs_by_fit : (term : List ℕ) → IsTerm term → (budget room : ℕ) (o : SimplifyOutcome) → o ≡ simplify_gives book tree term budget room
      → Runs (RestsFit book) (NextFit book) (CannotFit book) BreaksNever budget room (tree_of term) o
  runs_by_fit term i budget room o p =
      let x = runs_by_tree book tree term accepted i budget room o p in
      let l = leads_fit o.steps (tree_of term) x.last (term_body term i) x.counted in
      record { last = x.last; counted = l.0; within = x.within; gives = gives_fit budget room x.last o l.1 x.gives }
    where
      term_body : (ws : List ℕ) → IsTerm ws → IsBody (tree_of ws)
      term_body ws j = rw (tree_of_lem term_limits ws j) (term_is_body ws j)
