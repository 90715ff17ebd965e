-- Demand 3, over the tree of an accepted book and what matching by it answers and leaves: the walk ends with the lowest rule that
-- fits the term without the arguments set aside, and counts these.
use mathlib.Core.Path.{◌≡◌, refl, sym, ap, ◌∙◌}
use mathlib.Core.List.{List}
use mathlib.Core.Option.{Option, none, some}
use Prim.Native.Nat.{ℕ, suc, ◌≤◌, ◌<◌}
use native.Mathlib.Omega.{arith}
use native.Mathlib.Decide.{dec_le}
use lib.Dec.{leb}
use lib.ListN.{length, get_or}
use borrow.Author.Tests.{le-leb}
use Rattle.std.specs.Prelude.{Ok}
use Rattle.term.specs.declared.answer.Answer.TheVariants.{Done, NoFit, Short}
use Rattle.term.specs.Answer.{Answered, answered}
use Rattle.term.specs.Word.{pick}
use Rattle.term.specs.Row.{Row}
use Rattle.term.specs.Check.{IsTerm, check, term_limits}
use Rattle.term.proofs.Laws.{good_tree}
use Rattle.book.specs.Book.{Rule, check_book, rule_at}
use Rattle.book.proofs.Laws.{rule_number}
use Rattle.fit.specs.Match.{tree_of, left_in, body_list, length_list, fitted}
use Rattle.fit.specs.Front.{root_arguments, aside, FitsFront}
use Rattle.fit.specs.Lowest.{Fitting, lowest_front}
use Rattle.fit.proofs.Laws.{term_is_body, tree_of_lem, front_unique, LowestFrontIs, LowestFrontFits, accepted_good, book_lowest_front, refused_answer, fitted_room, fitted_short, same_bodies}
use Rattle.tree.specs.Root.{book_tree}
use Rattle.tree.proofs.Laws.{Lies, vars_of, vars_in}
use Rattle.walk.specs.Walk.{walk, visits, no_book}
use Rattle.walk.specs.ByTree.{walked_match, walked_rule, match_tree, match_tree_rule, match_tree_visits, MatchTreeOutcome, rule_gives, match_tree_gives}
use Rattle.walk.specs.Demand.{NothingFits, LowestFit, OnlyBodies, Names, TreeFinds}
use Rattle.walk.proofs.Laid.{walked_of, begun_alone}

-- ---- answers with two numbers are two
abbrev said_of : MatchTreeOutcome → Answered
said_of o = o.said

module _ (s : Answered) where
  none_done : s ≡ answered NoFit → s ≡ answered Done → ⊥
  none_done p q = let z : ◌≡◌ {A = ℕ} 1 0 = ap (λ (a : Answered). a.number) (sym p ∙ q) in omega arith

  none_short : s ≡ answered NoFit → s ≡ answered Short → ⊥
  none_short p q = let z : ◌≡◌ {A = ℕ} 1 13 = ap (λ (a : Answered). a.number) (sym p ∙ q) in omega arith

  done_short : s ≡ answered Done → s ≡ answered Short → ⊥
  done_short p q = let z : ◌≡◌ {A = ℕ} 0 13 = ap (λ (a : Answered). a.number) (sym p ∙ q) in omega arith

module _ (book : List ℕ) (accepted : check_book book ≡ Ok tt) (ws : List ℕ) (term : IsTerm ws) where
  one_fit : (rule : Rule) (number : ℕ) → rule_at book number ≡ some rule → (b c : ℕ → Row) → FitsFront rule.vars (left_in rule) (tree_of ws) b
      → FitsFront rule.vars (left_in rule) (tree_of ws) c → (x : ℕ) → x < rule.vars → b x ≡ c x
  one_fit rule number e b c f g =
      front_unique rule.vars (left_in rule) (accepted_good book accepted number rule e) term.tree (term_is_body ws term) b c (rw (tree_of_lem term_limits ws term) at f) (rw (tree_of_lem term_limits ws term) at g)

  pub only_fit : (number : ℕ) (rule : Rule) (b : ℕ → Row) → LowestFit book ws number rule b → OnlyBodies ws rule b
  only_fit number rule b l c f = one_fit rule number l.is c b f l.fits

  -- the lowest rule in `fit`'s words is the lowest in those of the demand
  lowest_fit : (f : Fitting) → LowestFrontFits book 0 (get_or book 0 0) term.tree f → (rule : Rule) × LowestFit book ws f.number rule f.bodies × (f.aside ≡ aside (root_arguments (left_in rule)) (tree_of ws))
  lowest_fit f l = (
    l.rule,
    record {
      is = l.found;
      fits = rw (tree_of_lem term_limits ws term) l.fits;
      lowest = λ m h rule e b g. l.earlier m (omega arith) h rule e b (rw (tree_of_lem term_limits ws term) at g);
    },
    rw (tree_of_lem term_limits ws term) l.counts,
  )

-- ---- over words that begin with the tree of an accepted book and are within a tree's words
module _ (book : List ℕ) (accepted : check_book book ≡ Ok tt) (tree : List ℕ) (lies : Lies tree 0 (book_tree book)) (short : length tree ≤ 16384) (ws : List ℕ) (good : check term_limits ws ≡ Ok tt) where
  abbrev term : IsTerm ws
  term = good_tree term_limits (omega arith) ws good

  abbrev best : Option Fitting
  best = lowest_front book 0 (get_or book 0 0) term.tree

  walked : walk no_book tree (tree_of ws) ≡ walked_of (vars_in book) best
  walked = rw (tree_of_lem term_limits ws term) (begun_alone book accepted term.tree term.formed term.one tree short lies)

  module _ (room : ℕ) (o : MatchTreeOutcome) (came : o ≡ match_tree_gives tree ws room) where
    gave : (f : Option Fitting) → best ≡ f → o ≡ rule_gives room (walked_match (walked_of (vars_in book) f)) (walked_rule room (walked_of (vars_in book) f)) (visits tree (tree_of ws))
    unfolding match_tree_gives match_tree match_tree_rule match_tree_visits
    gave f e = came ∙ rw (good, walked, e)

    -- no rule fits
    finds_none : best ≡ none → LowestFrontIs book 0 (get_or book 0 0) term.tree none → TreeFinds book ws room o
    finds_none e l =
        let a : o.said ≡ answered NoFit = ap said_of (gave none e) ∙ ap answered (refused_answer room NoFit) in
        record {
          none_fits = λ z. nothing;
          none_said = λ z. a;
          found = λ z. absurd (none_done o.said a z);
          named = λ number rule b f h. absurd (nothing number rule f.is b f.fits);
          short = λ number rule b f h. absurd (nothing number rule f.is b f.fits);
        }
      where
        nothing : NothingFits book ws
        nothing number rule q b f = l number (omega arith) (rule_number book number rule q) rule q b (rw (tree_of_lem term_limits ws term) at f)

    -- a rule fits: what is answered and left is by its bodies
    module _ (f : Fitting) (e : best ≡ some f) (rule : Rule) (low : LowestFit book ws f.number rule f.bodies) (counted : f.aside ≡ aside (root_arguments (left_in rule)) (tree_of ws)) where
      vars : vars_in book f.number ≡ rule.vars
      vars = ap vars_of low.is

      abbrev long : ℕ
      long = length (body_list f.bodies 0 rule.vars)

      by_rule_lem : o ≡ rule_gives room (fitted rule.vars f.aside f.bodies) (pick (leb long room) f.number 0) (visits tree (tree_of ws))
      by_rule_lem = rw vars at (gave (some f) e)

      with_room : long ≤ room → Names ws room f.number rule f.bodies o
      with_room h =
          let g = fitted_room room rule.vars f.aside f.bodies h in
          record {
            answers = ap said_of by_rule_lem ∙ ap answered g.0;
            number_is = ap (λ (p : MatchTreeOutcome). p.rule) by_rule_lem ∙ rw (le-leb long room h);
            counts = ap (λ (p : MatchTreeOutcome). p.aside) by_rule_lem ∙ g.3 ∙ counted;
            gives = record { bodies_are = ap (λ (p : MatchTreeOutcome). p.bodies) by_rule_lem ∙ g.1; lengths_are = ap (λ (p : MatchTreeOutcome). p.lengths) by_rule_lem ∙ g.2 };
            only = only_fit book accepted ws term f.number rule f.bodies low;
          }

      without_room : room < long → o.said ≡ answered Short
      without_room h = ap said_of by_rule_lem ∙ ap answered (fitted_short room rule.vars f.aside f.bodies h)

      not_none : o.said ≡ answered NoFit → ⊥
      not_none z = go (dec_le long room)
        where
          go : Dec (long ≤ room) → ⊥
          go (yes h) = none_done o.said z (with_room h).answers
          go (no h) = none_short o.said z (without_room (omega arith))

      found_it : o.said ≡ answered Done → (rule : Rule) × (b : ℕ → Row) × LowestFit book ws o.rule rule b × Names ws room o.rule rule b o
      found_it z = go (dec_le long room)
        where
          go : Dec (long ≤ room) → (rule : Rule) × (b : ℕ → Row) × LowestFit book ws o.rule rule b × Names ws room o.rule rule b o
          go (yes h) = let n = with_room h in (rule, f.bodies, rw n.number_is low, record { answers = n.answers; number_is = refl; counts = n.counts; gives = n.gives; only = n.only })
          go (no h) = absurd (done_short o.said z (without_room (omega arith)))

      -- no other rule is the lowest, and it has no other bodies
      module _ (number : ℕ) (other : Rule) (b : ℕ → Row) (g : LowestFit book ws number other b) where
        same_number_lem : number ≡ f.number
        same_number_lem = go (dec_le (suc number) f.number) (dec_le (suc f.number) number)
          where
            go : Dec (suc number ≤ f.number) → Dec (suc f.number ≤ number) → number ≡ f.number
            go (yes h) d = absurd (low.lowest number h other g.is b g.fits)
            go (no h) (yes k) = absurd (g.lowest f.number k rule low.is f.bodies low.fits)
            go (no h) (no k) = omega arith

        same_rule : rule ≡ other
        same_rule =
            let s : rule_at book f.number ≡ some other = rw same_number_lem at g.is in
            let x = low.is in
            cc

        abbrev Same : Type 0
        Same = (body_list b 0 other.vars ≡ body_list f.bodies 0 rule.vars) × (length_list b 0 other.vars ≡ length_list f.bodies 0 rule.vars)

        same_lists : Same
        same_lists =
            let fits : FitsFront rule.vars (left_in rule) (tree_of ws) b = rw same_rule g.fits in
            rw (← same_rule)
            (same_bodies b f.bodies rule.vars 0 (λ x a k. only_fit book accepted ws term f.number rule f.bodies low b fits x (omega arith)))

        named_it : length (body_list b 0 other.vars) ≤ room → Names ws room number other b o
        named_it h =
            let n = with_room (rw same_lists.0 at h) in
            record {
              answers = n.answers;
              number_is = n.number_is ∙ sym same_number_lem;
              counts = rw (← same_rule) n.counts;
              gives = record { bodies_are = rw same_lists.0 n.gives.bodies_are; lengths_are = rw (same_lists.1, ← same_rule) n.gives.lengths_are };
              only = only_fit book accepted ws term number other b g;
            }

        short_it : room < length (body_list b 0 other.vars) → o.said ≡ answered Short
        short_it h = without_room (rw same_lists.0 at h)

    -- THE THEOREM
    pub tree_finds : TreeFinds book ws room o
    tree_finds = go best refl (book_lowest_front book accepted ws term)
      where
        go : (f : Option Fitting) → best ≡ f → LowestFrontIs book 0 (get_or book 0 0) term.tree f → TreeFinds book ws room o
        go none e l = finds_none e l
        go (some f) e l =
            let k = lowest_fit book accepted ws term f l in
            record {
              none_fits = λ z. absurd (not_none f e k.0 k.1 k.2 z);
              none_said = λ n. absurd (n f.number k.0 k.1.is f.bodies k.1.fits);
              found = found_it f e k.0 k.1 k.2;
              named = named_it f e k.0 k.1 k.2;
              short = short_it f e k.0 k.1 k.2;
            }
