-- A step is at the lowest offset where the walk finds a rule, and leaves a term; simplifying makes as many steps as it says, and ends where it says. For every tree, whole or damaged.
use mathlib.Core.Path.{◌≡◌, refl, ap, ◌∙◌}
use mathlib.Core.Bool.{Bool, true, false}
use mathlib.Core.List.{List, [], ◌∷◌, ◌++◌}
use mathlib.Core.Option.{Option, none, some}
use Prim.Native.Nat.{ℕ, zero, suc, ◌+◌, ◌≤◌, ◌<◌}
use native.Mathlib.Omega.{arith}
use lib.Dec.{eqb}
use lib.ListN.{length, length-append}
use borrow.Author.Tests.{eqb-true, eqb-false}
use Rattle.std.specs.Prelude.{Ok}
use Rattle.term.specs.declared.answer.Answer.{Answer}
use Rattle.term.specs.declared.answer.Answer.TheVariants.{Done, BudgetUsed, Damaged, Over, CannotTake}
use Rattle.term.specs.Word.{pick}
use Rattle.term.specs.Row.{Row, width, words, ranks}
use Rattle.book.specs.Book.{Rule, check_book, rule_at}
use Rattle.fit.specs.Fit.{IsBody}
use Rattle.fit.specs.Lowest.{Fitting}
use Rattle.fit.specs.Match.{tree_of, left_in}
use Rattle.fit.specs.Front.{root_arguments, aside_arguments}
use Rattle.fit.specs.Build.{within_limits}
use Rattle.tree.specs.Find.{root_count}
use Rattle.walk.specs.Walk.{Walked, NoneFits, RuleFits, DamagedAt, walk, book_fits}
use Rattle.walk.proofs.Laws.{FoundSound, walk_sound, fits_rule}
use Rattle.steps.specs.Right.{write}
use Rattle.steps.specs.Arguments.{with_aside}
use Rattle.steps.specs.Rewrite.{many_aside, rewritten}
use Rattle.steps.specs.Offset.{part_at, spliced}
use Rattle.steps.specs.Step.{Sought, Nowhere, FoundAt, Broken, or_later, seek_rule, lowest_offset, search_visits, Stepped, Rests, Becomes, Refused, whole_within, step_taken, step_found, step}
use Rattle.steps.specs.Simplify.{Search, found, Run, Stopped, Ended, one_more, budget_used, after_step, simplify_by}
use Rattle.steps.proofs.RightRows.{parameters_of, accepted_right}
use Rattle.steps.proofs.Shaped.{Shaped, formed_shaped, width_written, few_written, shaped_written, limits_within}
use Rattle.steps.proofs.Arguments.{aside_wide, aside_shaped, aside_few, aside_is}
use Rattle.steps.proofs.Offsets.{split, part_of_lem, splice_keeps}

-- ---- the lowest offset
module _ (look : Row → Walked) (t : Row) where
  abbrev pub NoneFrom : ℕ → ℕ → Type 0
  NoneFrom from last = (k : ℕ) → from ≤ k → k < last → look (part_at t k) ≡ NoneFits

  -- the first offset at which the walk does not end in "none"
  pub record FirstAt (from last at : ℕ) (w : Walked) : Type 0 where
    pub later : from ≤ at
    pub inside : at < last
    pub here : look (part_at t at) ≡ w
    pub earlier : NoneFrom from at

  abbrev pub SeekIs : ℕ → ℕ → Sought → Type 0
  SeekIs from last Nowhere = NoneFrom from last
  SeekIs from last (FoundAt at f) = (n : ℕ) × FirstAt from last at (RuleFits f n)
  SeekIs from last (Broken address) = (at : ℕ) × FirstAt from last at (DamagedAt address)

  none_more : (from last : ℕ) → look (part_at t from) ≡ NoneFits → NoneFrom (suc from) last → NoneFrom from last
  none_more from last e more k a b = go (eqb k from) refl
    where
      go : (c : Bool) → eqb k from ≡ c → look (part_at t k) ≡ NoneFits
      go true q = rw (eqb-true k from q) e
      go false q = let d : k ≡ from → ⊥ = eqb-false k from q in more k (omega arith) b

  first_more : (from last at : ℕ) (w : Walked) → look (part_at t from) ≡ NoneFits → FirstAt (suc from) last at w → FirstAt from last at w
  first_more from last at w e p = record { later = omega (arith, p.later); inside = p.inside; here = p.here; earlier = none_more from at e p.earlier }

  seek_one : (from last : ℕ) → from < last → (w : Walked) → look (part_at t from) ≡ w → (s : Sought) → SeekIs (suc from) last s → SeekIs from last (or_later from w s)
  seek_one from last l NoneFits e Nowhere p = none_more from last e p
  seek_one from last l NoneFits e (FoundAt at f) p = (p.0, first_more from last at (RuleFits f p.0) e p.1)
  seek_one from last l NoneFits e (Broken address) p = (p.0, first_more from last p.0 (DamagedAt address) e p.1)
  seek_one from last l (RuleFits f n) e s p = (n, record { later = omega arith; inside = l; here = e; earlier = λ k a b. absurd (omega arith) })
  seek_one from last l (DamagedAt address) e s p = (from, record { later = omega arith; inside = l; here = e; earlier = λ k a b. absurd (omega arith) })

  pub seek_is : (more from : ℕ) → SeekIs from (from + more) (seek_rule look t from more)
  unfolding seek_rule
  seek_is zero from = λ k a b. absurd (omega arith)
  seek_is (suc more) from =
      let e : suc from + more ≡ from + suc more = omega arith in
      seek_one from (from + suc more) (omega arith) (look (part_at t from)) refl (seek_rule look t (suc from) more) (rw e at (seek_is more (suc from)))

pub lowest_offset_is : (book table : List ℕ) (t : Row) → SeekIs (walk (book_fits book) table) t 0 (length (words t)) (lowest_offset book table t)
unfolding lowest_offset
lowest_offset_is book table t =
    let e : 0 + length (words t) ≡ length (words t) = omega arith in
    rw e at (seek_is (walk (book_fits book) table) t (length (words t)) 0)

-- ---- a part of a term is a term
pub part_term : (t : Row) → IsBody t → (at : ℕ) → at < length (words t) → IsBody (part_at t at)
part_term t i at l =
    let p = part_of_lem t at l in
    let s = split t at l in
    let n : length (words t) ≡ length s.before + (length (words (part_at t at)) + length s.after) =
    ap length s.whole ∙ length-append s.before (words (part_at t at) ++ s.after) ∙ ap (λ (n : ℕ). length s.before + n) (length-append (words (part_at t at)) s.after) in
    let w = i.within in
    record {
      one = p.one;
      within = record { formed = p.formed w.formed; few = omega (arith, p.few, w.few); low = omega (arith, p.low, w.low); short = omega (arith, n, w.short) };
    }

module _ (book : List ℕ) (accepted : check_book book ≡ Ok tt) (table : List ℕ) where
  -- ---- what a rule that is found makes of a term is one term, but for its limits
  pub record Wrote (u : Row) : Type 0 where
    pub one : width u ≡ 1
    pub few : ranks u ≤ 2
    pub shaped : Shaped u

  right_writes : (f : Fitting) (rule : Rule) → rule_at book f.number ≡ some rule → ((x : ℕ) → x < rule.vars → IsBody (f.bodies x)) → Wrote (write f.bodies 0 (tree_of rule.right))
  right_writes f rule e b =
      let r = accepted_right book accepted f.number rule e in
      let k = parameters_of rule.left in
      let w : (x : ℕ) → x < rule.vars → width (f.bodies x) ≡ 1 = λ x h. (b x h).one in
      record {
        one = width_written rule.vars f.bodies w k 0 (tree_of rule.right) r.0 ∙ r.1;
        few = few_written rule.vars f.bodies w k (λ x h. (b x h).within.few) 0 (tree_of rule.right) r.0;
        shaped = shaped_written rule.vars f.bodies w k (λ x h. (b x h).within.formed) 0 (tree_of rule.right) r.0;
      }

  pub rule_writes : (f : Fitting) (rule : Rule) → rule_at book f.number ≡ some rule → ((x : ℕ) → x < rule.vars → IsBody (f.bodies x))
      → (p : Row) → IsBody p → (u : Row) → rewritten book p f ≡ some u → Wrote u
  unfolding rewritten
  rule_writes f rule e b p i u q =
      let r = right_writes f rule e b in
      let o = aside_is (root_arguments (left_in rule)) p i in
      let v = write f.bodies 0 (tree_of rule.right) in
      let more = aside_arguments (root_arguments (left_in rule)) p in
      let w : with_aside (write f.bodies 0 (tree_of rule.right)) (aside_arguments (root_arguments (left_in rule)) p) ≡ some u = rw e at q in
      record {
        one = aside_wide v more u w ∙ r.one;
        few = aside_few v more u w r.few o.few;
        shaped = aside_shaped v more u w r.shaped (formed_shaped more o.formed);
      }

  pub found_writes : (p : Row) → IsBody p → (f : Fitting) (n : ℕ) → walk (book_fits book) table p ≡ RuleFits f n → (u : Row) → rewritten book p f ≡ some u → Wrote u
  found_writes p i f n e =
      let s : FoundSound (book_fits book (root_count p)) (RuleFits f n) = rw e at (walk_sound (book_fits book) table p i) in
      let r = fits_rule book (root_count p) (record { rule = f.number; aside = f.aside; variables = s.0 }) s.2 in
      rule_writes f r.0 r.1 (λ x h. s.3 x (omega (arith, s.1, r.2, h))) p i

  -- ---- a step leaves a term
  abbrev LeavesTerm : Stepped → Type 0
  LeavesTerm Rests = Unit {0}
  LeavesTerm (Becomes rule u) = IsBody u
  LeavesTerm (Refused a) = Unit {0}

  pub spliced_term : (t : Row) → IsBody t → (at : ℕ) → at < length (words t) → (u : Row) → Wrote u → within_limits (spliced t at u) ≡ true → IsBody (spliced t at u)
  spliced_term t i at l u w e =
      let k = splice_keeps t at l u in
      let n = limits_within (spliced t at u) (k.shaped (formed_shaped t i.within.formed) w.shaped w.one) e in
      record {
        one = k.wide w.one ∙ i.one;
        within = record { formed = n.0; few = omega (arith, k.few, i.within.few, w.few); low = n.1; short = n.2 };
      }

  step_leaves : (t : Row) → IsBody t → (s : Sought) → SeekIs (walk (book_fits book) table) t 0 (length (words t)) s → LeavesTerm (step_found book t s)
  unfolding whole_within
  step_leaves t i Nowhere p = tt
  step_leaves t i (FoundAt at f) p = taken (rewritten book (part_at t at) f) refl
    where
      go : (u : Row) → rewritten book (part_at t at) f ≡ some u → (b : Bool) → within_limits (spliced t at u) ≡ b → LeavesTerm (pick b (Becomes f.number (spliced t at u)) (Refused Over))
      go u w true e = spliced_term t i at p.1.inside u (found_writes (part_at t at) (part_term t i at p.1.inside) f p.0 p.1.here u w) e
      go u w false e = tt

      taken : (o : Option Row) → rewritten book (part_at t at) f ≡ o → LeavesTerm (step_taken t at f.number (many_aside book (part_at t at) f) o)
      taken none w = tt
      taken (some u) w = go u w (within_limits (spliced t at u)) refl
  step_leaves t i (Broken address) p = tt

  pub step_term : (rule : ℕ) (t u : Row) → IsBody t → step book table t ≡ Becomes rule u → IsBody u
  unfolding step
  step_term rule t u i e = rw e at (step_leaves t i (lowest_offset book table t) (lowest_offset_is book table t))

-- ---- simplifying
module _ (book table : List ℕ) where
  -- the steps of these searches lead from a term to another
  unfoldable pub StepsTo : List Search → Row → Row → Type 0
  StepsTo [] t v = t ≡ v
  StepsTo (s ∷ trace) t v = (u : Row) × (step book table t ≡ Becomes s.rule u) × (s.visits ≡ search_visits book table t) × StepsTo trace u v

  -- how it ends: no offset has a rule, or the budget is used and one still has
  pub data EndsAs (budget n : ℕ) (v : Row) (a : Answer) : Type 0 where
    rests : a ≡ Done → lowest_offset book table v ≡ Nowhere → EndsAs budget n v a
    used : a ≡ BudgetUsed → n ≡ budget → (at : ℕ) (f : Fitting) → lowest_offset book table v ≡ FoundAt at f → EndsAs budget n v a

  -- how it is refused: a walk met a damaged node before any offset with a rule, what the next step writes cannot take the arguments set aside, or that step
  -- would be over the limits
  pub data StopsAs (budget n : ℕ) (v : Row) (a : Answer) : Type 0 where
    broken : (address : ℕ) → a ≡ Damaged address → lowest_offset book table v ≡ Broken address → StopsAs budget n v a
    cannot : (at : ℕ) (f : Fitting) → a ≡ CannotTake (many_aside book (part_at v at) f) → n < budget → lowest_offset book table v ≡ FoundAt at f → rewritten book (part_at v at) f ≡ none → StopsAs budget n v a
    over : a ≡ Over → n < budget → (at : ℕ) (f : Fitting) → lowest_offset book table v ≡ FoundAt at f → (u : Row) → rewritten book (part_at v at) f ≡ some u → within_limits (spliced v at u) ≡ false
        → StopsAs budget n v a

  abbrev pub RunIs : ℕ → Row → Run → Type 0
  RunIs budget t (Stopped trace last a) = (v : Row) × StepsTo trace t v × (length trace ≤ budget) × StopsAs budget (length trace) v a × (last ≡ search_visits book table v)
  RunIs budget t (Ended trace last a v) = StepsTo trace t v × (length trace ≤ budget) × EndsAs budget (length trace) v a × (last ≡ search_visits book table v)

  last_look : (t : Row) (s : Sought) → lowest_offset book table t ≡ s → RunIs 0 t (budget_used t (search_visits book table t) s)
  unfolding StepsTo
  last_look t Nowhere e = (refl, omega arith, rests refl e, refl)
  last_look t (FoundAt at f) e = (refl, omega arith, used refl refl at f e, refl)
  last_look t (Broken address) e = (t, refl, omega arith, broken address refl e, refl)

  abbrev StepWhy : ℕ → Row → Stepped → Type 0
  StepWhy budget t Rests = lowest_offset book table t ≡ Nowhere
  StepWhy budget t (Becomes rule u) = Unit {0}
  StepWhy budget t (Refused a) = StopsAs (suc budget) 0 t a

  found_why : (budget : ℕ) (t : Row) (s : Sought) → lowest_offset book table t ≡ s → StepWhy budget t (step_found book t s)
  unfolding whole_within
  found_why budget t Nowhere e = e
  found_why budget t (FoundAt at f) e = taken (rewritten book (part_at t at) f) refl
    where
      go : (u : Row) → rewritten book (part_at t at) f ≡ some u → (b : Bool) → within_limits (spliced t at u) ≡ b → StepWhy budget t (pick b (Becomes f.number (spliced t at u)) (Refused Over))
      go u w true q = tt
      go u w false q = over refl (omega arith) at f e u w q

      taken : (o : Option Row) → rewritten book (part_at t at) f ≡ o → StepWhy budget t (step_taken t at f.number (many_aside book (part_at t at) f) o)
      taken none w = cannot at f refl (omega arith) e w
      taken (some u) w = go u w (within_limits (spliced t at u)) refl
  found_why budget t (Broken address) e = broken address refl e

  step_why : (budget : ℕ) (t : Row) → StepWhy budget t (step book table t)
  unfolding step
  step_why budget t = found_why budget t (lowest_offset book table t) refl

  ends_more : (budget n : ℕ) (v : Row) (a : Answer) → EndsAs budget n v a → EndsAs (suc budget) (suc n) v a
  ends_more budget n v a (rests e q) = rests e q
  ends_more budget n v a (used e m at f q) = used e (ap suc m) at f q

  stops_more : (budget n : ℕ) (v : Row) (a : Answer) → StopsAs budget n v a → StopsAs (suc budget) (suc n) v a
  stops_more budget n v a (broken address e q) = broken address e q
  stops_more budget n v a (cannot at f e m q w) = cannot at f e (omega (arith, m)) q w
  stops_more budget n v a (over e m at f q u w z) = over e (omega (arith, m)) at f q u w z

  one_step_more : (budget rule : ℕ) (t u : Row) → step book table t ≡ Becomes rule u → (r : Run) → RunIs budget u r → RunIs (suc budget) t (one_more (found rule (search_visits book table t)) r)
  unfolding StepsTo
  one_step_more budget rule t u e (Stopped trace last a) r = (r.0, (u, e, refl, r.1), omega (arith, r.2), stops_more budget (length trace) r.0 a r.3, r.4)
  one_step_more budget rule t u e (Ended trace last a v) r = ((u, e, refl, r.0), omega (arith, r.1), ends_more budget (length trace) v a r.2, r.3)

  after_step_lem : (budget : ℕ) (more : Row → Run) → ((u : Row) → RunIs budget u (more u)) → (t : Row) (s : Stepped) → step book table t ≡ s → StepWhy budget t s
      → RunIs (suc budget) t (after_step more t (search_visits book table t) s)
  unfolding StepsTo
  after_step_lem budget more ih t Rests e w = (refl, omega arith, rests refl w, refl)
  after_step_lem budget more ih t (Becomes rule u) e w = one_step_more budget rule t u e (more u) (ih u)
  after_step_lem budget more ih t (Refused a) e w = (t, refl, omega arith, w, refl)

  -- the searches of the trace are those of its steps, no more than the budget, and simplifying ends as it says
  pub run_is : (budget : ℕ) (t : Row) → RunIs budget t (simplify_by book table budget t)
  unfolding simplify_by
  run_is zero t = last_look t (lowest_offset book table t) refl
  run_is (suc budget) t = after_step_lem budget (simplify_by book table budget) (λ u. run_is budget u) t (step book table t) refl (step_why budget t)

  -- every term on the way is a term
  pub steps_term : check_book book ≡ Ok tt → (trace : List Search) (t v : Row) → IsBody t → StepsTo trace t v → IsBody v
  unfolding StepsTo
  steps_term g [] t v i s = rw s at i
  steps_term g (x ∷ trace) t v i s = steps_term g trace s.0 v (step_term book g table x.rule t s.0 i s.1) s.3
