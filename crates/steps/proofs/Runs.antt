-- A run in the work area: the steps and visits made so far and what is left to run give the whole run.
use mathlib.Core.Path.{◌≡◌, refl, sym, ap, ap₂, ◌∙◌}
use mathlib.Core.List.{List, []}
use mathlib.Core.Option.{Option, none, some}
use Prim.Native.Nat.{ℕ, zero, suc, ◌+◌, ◌*◌, ◌-◌, ◌≤◌}
use native.Mathlib.Omega.{arith}
use lib.ListN.{length, take, replicate}
use lib.Seq.{length-take-le, take-length, take-take}
use borrow.Author.Tests.{le-leb}
use Rattle.term.specs.declared.answer.Answer.{Answer}
use Rattle.term.specs.declared.answer.Answer.TheVariants as answer
use Rattle.term.specs.Row.{Row, words}
use Rattle.term.specs.Check.{IsTerm, check, term_limits}
use Rattle.term.specs.Part.{padded}
use Rattle.term.proofs.Laws.{never, padded_fits}
use Rattle.book.specs.Accept.{accept}
use Rattle.book.specs.Book.{check_book}
use Rattle.fit.specs.Match.{tree_of}
use Rattle.fit.proofs.Laws.{body_is_term, tree_of_lem}
use Rattle.steps.specs.Offset.{part_at}
use Rattle.steps.specs.Rewrite.{many_aside, rewritten}
use Rattle.steps.specs.Step.{Sought, Nowhere, FoundAt, Broken, lowest_offset, search_visits, Stepped, Rests, Becomes, Refused, step}
use Rattle.steps.specs.Simplify.{found, Run, Stopped, Ended, one_more, budget_used, after_step, simplify_by, run_with_term, run_with_book, simplify, simplify_answer, simplify_words, simplify_steps, simplify_visits}
use Rattle.std.specs.Prelude as prelude
use Rattle.std.specs.Prelude.{Some, None, Result, Ok, Err}
use Rattle.steps.specs.declared.simplify.Ran.{Ran}
use Rattle.steps.specs.declared.simplify.Simplified.{Simplified}
use Rattle.steps.specs.Told.Operations.{asked, given_answer, TakenTold, LowestTold, MoveTold, RanTold, used_answer, used_size, UsedTold, looked_at}
use Rattle.steps.proofs.Asked.{sound_book, sound_term}
use Rattle.steps.proofs.Steps.{step_term}
use Rattle.steps.proofs.Seeks.{tree_body, tree_words_lem, term_few}

-- ---- a step before a run, with its visits
told_more : (n v rule m : ℕ) (run : Run) (r : Ran) (area : List ℕ) → RanTold (n + 1) (v + m) run r area → RanTold n v (one_more (found rule m) run) r area
told_more n v rule m (Stopped trace last a) r area t = (t.0, omega (arith, t.1), omega (arith, t.2), t.3)
told_more n v rule m (Ended trace last a u) r area t = (t.0, omega (arith, t.1), omega (arith, t.2), t.3, t.4)

-- ---- how a run ends, after so many steps and visits and a search with so many more
module _ (n v m : ℕ) (area : List ℕ) (r : Ran) (steps : r.steps ≡ n) (visits : r.visits ≡ v + m) where
  ended_told : (a : Answer) (t : Row) → r.answer ≡ a → r.size ≤ length area → take r.size area ≡ words t → RanTold n v (Ended [] m a t) r area
  ended_told a t e l w = (e, omega (arith, steps), omega (arith, visits), l, w)

  stopped_told : (a : Answer) → r.answer ≡ a → r.size ≡ 0 → RanTold n v (Stopped [] m a) r area
  stopped_told a e w = (e, omega (arith, steps), omega (arith, visits), w)

-- ---- the budget is used: what the last search found decides
module _ (book table ws : List ℕ) (i : IsTerm ws) (n v m : ℕ) (new : List ℕ) (r : Ran) where
  whole_told : (a : Answer) → r.answer ≡ a → r.steps ≡ n → r.visits ≡ v + m → r.size ≡ length ws → RanTold n v (Ended [] m a (tree_of ws)) r ws
  whole_told a e s y z = ended_told n v m ws r s y a (tree_of ws) e (omega (arith, z)) (ap (λ (k : ℕ). take k ws) z ∙ take-length ws ∙ sym (tree_words_lem ws i))

  -- a rule was found, whatever it would write
  used_found : (k : ℕ) (o : Option Row) (at : ℕ) (w : Result ℕ Answer) → TakenTold k o new w → (used_answer (Some (at, w)) ≡ answer.BudgetUsed) × (used_size (length ws) (Some (at, w)) ≡ length ws)
  used_found k none at w l = rw l (refl, refl)
  used_found k (some u) at (Ok x) l = (refl, refl)
  used_found k (some u) at (Err a) l = rw l.0 (refl, refl)

  by_search : (s : Sought) (w : prelude.Option (ℕ × Result ℕ Answer)) → LowestTold book (tree_of ws) s new w → UsedTold w n (v + m) (length ws) r → RanTold n v (budget_used (tree_of ws) m s) r ws
  unfolding LowestTold
  by_search Nowhere w l u = let q = rw l at u in whole_told answer.Done q.0 q.1 q.2 q.3
  by_search (FoundAt a f) None l u = absurd l
  by_search (FoundAt a f) (Some (at, w)) l u =
      let q = used_found (many_aside book (part_at (tree_of ws) a) f) (rewritten book (part_at (tree_of ws) a) f) at w l.1 in
      whole_told answer.BudgetUsed (u.0 ∙ q.0) u.1 u.2 (u.3 ∙ q.1)
  by_search (Broken address) None l u = absurd l
  by_search (Broken address) (Some (at, w)) l u = let q = rw l at u in stopped_told n v m ws r q.1 q.2 (answer.Damaged address) q.0 q.3

pub look_told : (book table ws : List ℕ) → IsTerm ws → (n v : ℕ) (new : List ℕ) (w : prelude.Option (ℕ × Result ℕ Answer)) → LowestTold book (tree_of ws) (lowest_offset book table (tree_of ws)) new w
    → (m : ℕ) → m ≡ search_visits book table (tree_of ws) → (r : Ran) → UsedTold w n (v + m) (length ws) r → RanTold n v (looked_at book table (tree_of ws)) r ws
look_told book table ws i n v new w l m e r u =
    by_search book table ws i n v (search_visits book table (tree_of ws)) new r (lowest_offset book table (tree_of ws)) w l (rw e at u)

pub look_few : (book table ws : List ℕ) → IsTerm ws → (m : ℕ) → m ≡ search_visits book table (tree_of ws) → m ≤ 67112960
look_few book table ws i m e = omega (arith, e, term_few book table (tree_of ws) (tree_body ws i))

-- what is told of the first words of the area is told of the area
shorter : (n v : ℕ) (run : Run) (r : Ran) (size : ℕ) (area : List ℕ) → size ≤ length area → RanTold n v run r (take size area) → RanTold n v run r area
shorter n v (Stopped trace last a) r size area l t = t
shorter n v (Ended trace last a u) r size area l t =
    let k : r.size ≤ size = omega (arith, t.3, length-take-le size area l) in
    (t.0, t.1, t.2, omega (arith, k, l), sym (take-take r.size size area k) ∙ t.4)

-- ---- the loop: what is told of the run that is left, after the steps and visits made, is told of the whole run
pub record Running (book table : List ℕ) (budget : ℕ) (start : Row) (area : List ℕ) (size left made : ℕ) : Type 0 where
  pub long : length area ≡ 4096
  pub few : size ≤ 4096
  pub term : IsTerm (take size area)
  pub below : left ≤ budget
  pub visited : made ≤ 67112960 * (budget - left)
  pub tells : (r : Ran) (last : List ℕ) → RanTold (budget - left) made (simplify_by book table left (tree_of (take size area))) r last → RanTold 0 0 (simplify_by book table budget start) r last

module _ (book : List ℕ) (accepted : check_book book ≡ Ok tt) (table : List ℕ) (budget : ℕ) (start : Row) (area : List ℕ) (size left made : ℕ) (run : Running book table budget start area size left made) where
  abbrev t : Row
  t = tree_of (take size area)

  -- the visits of the next search
  module _ (m : ℕ) (visits : m ≡ search_visits book table (tree_of (take size area))) where
    pub search_short : m ≤ 67112960
    search_short = omega (arith, visits, term_few book table t (tree_body (take size area) run.term))

    module _ (some_left : left ≡ 0 → ⊥) where
      next_is : (k : ℕ) → k ≡ left → simplify_by book table left t ≡ after_step (simplify_by book table (left - 1)) t m (step book table t)
      unfolding simplify_by
      next_is zero e = absurd (some_left (sym e))
      next_is (suc k) e = let y : suc k - 1 ≡ k = omega arith in rw (← e, y, visits)

      told_next : (s : Stepped) → step book table t ≡ s → (r : Ran) (last : List ℕ) → RanTold (budget - left) made (after_step (simplify_by book table (left - 1)) t m s) r last
          → RanTold 0 0 (simplify_by book table budget start) r last
      told_next s e r last x = run.tells r last (rw (next_is left refl ∙ ap (after_step (simplify_by book table (left - 1)) t m) e) x)

      module _ (after : List ℕ) (long : length after ≡ length area) where
        pub run_more : (n : ℕ) → MoveTold (step book table (tree_of (take size area))) area after (Ok (Some n)) → Running book table budget start after n (left - 1) (made + m)
        unfolding MoveTold
        run_more n x = go (step book table t) refl x
          where
            go : (s : Stepped) → step book table t ≡ s → MoveTold s area after (Ok (Some n)) → Running book table budget start after n (left - 1) (made + m)
            go Rests e x = never (cc)
            go (Becomes rule u) e x =
                let y : n ≡ x.0 = cc x.1 in
                let w : take n after ≡ words u = rw y x.3 in
                let b = body_is_term u (step_term book accepted table rule t u (tree_body (take size area) run.term) e) in
                let q : tree_of (take n after) ≡ u = ap tree_of w ∙ tree_of_lem term_limits (words u) b in
                let k : budget - (left - 1) ≡ budget - left + 1 = omega (arith, some_left, run.below) in
                record {
                  long = long ∙ run.long;
                  few = omega (arith, y, x.2);
                  term = rw w b;
                  below = omega (arith, run.below);
                  visited = omega (arith, run.visited, search_short, k);
                  tells = λ r last o. told_next (Becomes rule u) e r last (told_more (budget - left) made rule m (simplify_by book table (left - 1) u) r last (rw (q, k) at o));
                }
            go (Refused a) e x = never (cc)

        module _ (r : Ran) (steps : r.steps ≡ budget - left) (seen : r.visits ≡ made + m) where
          pub run_rests : MoveTold (step book table (tree_of (take size area))) area after (Ok None) → r.answer ≡ answer.Done → r.size ≡ size → RanTold 0 0 (simplify_by book table budget start) r after
          unfolding MoveTold
          run_rests x done same = go (step book table t) refl x
            where
              go : (s : Stepped) → step book table t ≡ s → MoveTold s area after (Ok None) → RanTold 0 0 (simplify_by book table budget start) r after
              go Rests e x =
                  let w : take r.size after ≡ words t = ap₂ (λ (n : ℕ) (l : List ℕ). take n l) same x.1 ∙ sym (tree_words_lem (take size area) run.term) in
                  told_next Rests e r after (ended_told (budget - left) made m after r steps seen answer.Done t done (omega (arith, same, long, run.long, run.few)) w)
              go (Becomes rule u) e x = never (cc x.1)
              go (Refused a) e x = never (cc)

          pub run_refused : MoveTold (step book table (tree_of (take size area))) area after (Err r.answer) → r.size ≡ 0 → RanTold 0 0 (simplify_by book table budget start) r after
          unfolding MoveTold
          run_refused x none_left = go (step book table t) refl x
            where
              go : (s : Stepped) → step book table t ≡ s → MoveTold s area after (Err r.answer) → RanTold 0 0 (simplify_by book table budget start) r after
              go Rests e x = never (cc)
              go (Becomes rule u) e x = never (cc x.1)
              go (Refused a) e x = told_next (Refused a) e r after (stopped_told (budget - left) made m after r steps seen a (cc) none_left)

  pub run_used : left ≡ 0 → (r : Ran) → RanTold budget made (looked_at book table (tree_of (take size area))) r (take size area) → RanTold 0 0 (simplify_by book table budget start) r area
  unfolding simplify_by
  run_used z r w =
      let y : budget - 0 ≡ budget = omega arith in
      let q = shorter budget made (looked_at book table t) r size area (omega (arith, run.long, run.few)) w in
      run.tells r area (rw (z, y) q)

-- ---- the term copied into the area
-- ---- the answer, the steps, the visits and the words that are given
abbrev pub RunTold : ℕ → Run → Simplified → List ℕ → Type 0
RunTold room run r out = (r.answer ≡ simplify_answer room run) × (out ≡ simplify_words room run) × (r.steps ≡ simplify_steps run) × (r.visits ≡ simplify_visits run)

pub run_given : (room : ℕ) (run : Run) (ran : Ran) (area : List ℕ) → RanTold 0 0 run ran area → (r : Simplified) (out : List ℕ)
    → (r.answer ≡ given_answer room (take ran.size area) ran.answer) × (out ≡ padded room (take ran.size area)) → r.steps ≡ ran.steps → r.visits ≡ ran.visits → RunTold room run r out
unfolding simplify_answer simplify_words simplify_steps simplify_visits
run_given room (Stopped trace last a) ran area t r out g s v =
    let z : take ran.size area ≡ [] = ap (λ (m : ℕ). take m area) t.3 in
    let y : room - 0 ≡ room = omega arith in
    (g.0 ∙ rw (z, t.0) (rw (le-leb 0 room (omega arith))), g.1 ∙ rw z (padded_fits room [] (omega arith) ∙ rw y), omega (arith, s, t.1), omega (arith, v, t.2))
run_given room (Ended trace last a u) ran area t r out g s v = (g.0 ∙ rw (t.4, t.0), g.1 ∙ rw t.4, omega (arith, s, t.1), omega (arith, v, t.2))

-- ---- the book and the term
module _ (room : ℕ) (book table ws : List ℕ) (budget : ℕ) (r : Simplified) (out : List ℕ) where
  stopped_run : (a b : Answer) → b ≡ a → r.answer ≡ a → r.steps ≡ 0 → r.visits ≡ 0 → out ≡ replicate room 0 → RunTold room (Stopped [] 0 b) r out
  unfolding simplify_answer simplify_words simplify_steps simplify_visits
  stopped_run a b y q s v c = (q ∙ sym y, c, s, omega (arith, v))

  pub simplify_refused : (a : Answer) → asked (accept book) (check term_limits ws) ≡ Err a → r.answer ≡ a → r.steps ≡ 0 → r.visits ≡ 0 → out ≡ replicate room 0
      → RunTold room (simplify book table budget ws) r out
  unfolding simplify
  simplify_refused a e q s v c = by_book_lem (accept book) e
    where
      by_term_lem : (c : Result (Unit {0}) ℕ) → asked (Ok tt) c ≡ Err a → RunTold room (run_with_term book table budget ws c) r out
      by_term_lem (Ok _) e = never (cc)
      by_term_lem (Err at) e = stopped_run a (answer.BadTerm at) (cc) q s v c

      by_book_lem : (b : Result (Unit {0}) Answer) → asked b (check term_limits ws) ≡ Err a → RunTold room (run_with_book book table budget ws b) r out
      by_book_lem (Ok _) e = by_term_lem (check term_limits ws) e
      by_book_lem (Err d) e = stopped_run a d (cc) q s v c

  pub simplify_run : asked (accept book) (check term_limits ws) ≡ Ok tt → RunTold room (simplify_by book table budget (tree_of ws)) r out → RunTold room (simplify book table budget ws) r out
  unfolding simplify
  simplify_run e t = rw (sound_book book ws e, sound_term book ws e) t
