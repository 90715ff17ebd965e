-- Rewriting at the root: any tree's walk finds a rule, which writes its right side; the compiled tree finds the lowest rule that fits, and what that rule writes depends on its only bodies.
use mathlib.Core.Path.{◌≡◌, refl, sym, ap, ap₂, ◌∙◌}
use mathlib.Core.List.{List}
use mathlib.Core.Option.{Option, none, some}
use Prim.Native.Nat.{ℕ}
use lib.ListN.{get_or}
use Rattle.std.specs.Prelude.{Ok}
use Rattle.term.specs.declared.answer.Answer.TheVariants.{NoFit, CannotTake}
use Rattle.term.specs.Answer.{Answered, answered}
use Rattle.term.specs.Row.{Row, words}
use Rattle.term.specs.Check.{IsTerm, term_limits}
use Rattle.term.proofs.Laws.{tree_good}
use Rattle.book.specs.Book.{Rule, check_book, rule_at}
use Rattle.fit.specs.Fit.{IsBody}
use Rattle.fit.specs.Front.{root_arguments, aside, aside_arguments}
use Rattle.fit.specs.Match.{tree_of, left_in}
use Rattle.fit.specs.Lowest.{Fitting, lowest_front}
use Rattle.fit.specs.Build.{Built, refused, build_answer, build_words}
use Rattle.fit.proofs.Laws.{term_is_body, tree_of_lem, LowestFrontIs, book_lowest_front, refused_built}
use Rattle.tree.proofs.Laws.{vars_in}
use Rattle.walk.specs.Walk.{Walked, NoneFits, RuleFits, walk, book_fits}
use Rattle.walk.specs.Demand.{NothingFits, LowestFit, OnlyBodies}
use Rattle.walk.proofs.Laws.{walked_of, only_fit}
use Rattle.steps.specs.Right.{write}
use Rattle.steps.specs.Arguments.{with_aside}
use Rattle.steps.specs.Rewrite.{many_aside, rewritten, taken_root, walked_root, rewrite_root, RewriteRootOutcome, rewrite_root_gives}
use Rattle.steps.proofs.Laws.{parameters_of, accepted_right, write_same, rule_writes_right, rule_aside, compiled_root, rewrite_walked}
use Rattle.rosenduch.specs.Operations.{Operations, Promised}
use Rattle.rosenduch.specs.Demands.{CompiledTree, WrittenOr, RuleWritten, RewritesRoot, RewritesBy}
use Rattle.rosenduch.proofs.OneRule.{none_cannot, is_written, never_none}
use Rattle.rosenduch.proofs.Given.{root_given}
use Rattle.rosenduch.proofs.Trees.{accepted_book, tree_lies, tree_short}
use Rattle.rosenduch.proofs.Fitted.{nothing_fits, lowest_fit, same_rule, same_bodies}

-- ---- what was built is answered and left
module _ (book tree term : List ℕ) (room : ℕ) (o : RewriteRootOutcome) (p : o ≡ rewrite_root_gives book tree term room) where
  said_is : (b : Built) → rewrite_root book tree term ≡ b → o.said ≡ answered (build_answer room b)
  said_is b e = ap (λ (q : RewriteRootOutcome). q.said) (p ∙ root_given book tree term room) ∙ ap (λ (x : Built). answered (build_answer room x)) e

  out_is : (b : Built) → rewrite_root book tree term ≡ b → o.out ≡ build_words room b
  out_is b e = ap (λ (q : RewriteRootOutcome). q.out) (p ∙ root_given book tree term room) ∙ ap (build_words room) e

-- ---- what takes the arguments set aside is written, or their number is said
taken_written : (room n : ℕ) (r : Option Row) (said : Answered) (out : List ℕ) → said ≡ answered (build_answer room (taken_root n r)) → out ≡ build_words room (taken_root n r) → WrittenOr room n r said out
taken_written room n none said out p q = p ∙ ap answered (refused_built room (CannotTake n)).0
taken_written room n (some t) said out p q = is_written room t said out p q

taken_fits : (room n : ℕ) (r : Option Row) (said : Answered) (out : List ℕ) → said ≡ answered (build_answer room (taken_root n r)) → out ≡ build_words room (taken_root n r) → said ≡ answered NoFit → ⊥
taken_fits room n none said out p q z = none_cannot said n z (p ∙ ap answered (refused_built room (CannotTake n)).0)
taken_fits room n (some t) said out p q z = never_none room t said out p q z

-- what a rule with its bodies makes of a term
abbrev taken : Rule → Row → (ℕ → Row) → Built
taken rule t b = let own = root_arguments (left_in rule) in taken_root (aside own t) (with_aside (write b 0 (tree_of rule.right)) (aside_arguments own t))

taken_same : (t : Row) (b c : ℕ → Row) (mine rule : Rule) → mine ≡ rule → write b 0 (tree_of mine.right) ≡ write c 0 (tree_of mine.right) → taken mine t b ≡ taken rule t c
taken_same t b c mine rule z w = rw (← z, w)

taken_by : (book : List ℕ) (t : Row) (f : Fitting) (rule : Rule) → rule_at book f.number ≡ some rule → taken_root (many_aside book t f) (rewritten book t f) ≡ taken rule t f.bodies
taken_by book t f rule e = ap₂ taken_root (rule_aside book t f rule e) (rule_writes_right book t f rule e)

-- ---- by the compiled tree
module _ (ops : Operations) (kept : Promised ops) (book tree term : List ℕ) (k : CompiledTree ops book tree) (i : IsTerm term) where
  body : IsBody i.tree
  body = term_is_body term i

  -- of the tree's words, and of the words given
  of_words : (number : ℕ) (rule : Rule) (b : ℕ → Row) → LowestFit book (words i.tree) number rule b → LowestFit book term number rule b
  of_words number rule b low = rw i.same low

  same_tree : tree_of term ≡ i.tree
  same_tree = tree_of_lem term_limits term i

  abbrev accepted : check_book book ≡ Ok tt
  accepted = accepted_book ops kept book tree k

  abbrev best : Option Fitting
  best = lowest_front book 0 (get_or book 0 0) i.tree

  root_is_lem : (o : Option Fitting) → best ≡ o → rewrite_root book tree term ≡ walked_root book i.tree (walked_of (vars_in book) o)
  root_is_lem o e = compiled_root book accepted tree (tree_short ops kept book tree k) (tree_lies ops kept book tree k) term i ∙ ap (λ q. walked_root book i.tree (walked_of (vars_in book) q)) e

  module _ (room : ℕ) (o : RewriteRootOutcome) (p : o ≡ rewrite_root_gives book tree term room) where
    when_none : best ≡ none → LowestFrontIs book 0 (get_or book 0 0) i.tree none → RewritesRoot book term room o
    when_none e l =
        record {
          none_fits = λ z. no;
          none_said = λ z. said_is book tree term room o p (refused NoFit) (root_is_lem none e) ∙ ap answered (refused_built room NoFit).0;
          written = λ number rule b f. absurd (no number rule f.is b f.fits);
        }
      where
        no : NothingFits book term
        no = rw i.same (nothing_fits book accepted i.tree body l)

    module _ (f : Fitting) (e : best ≡ some f) (own : Rule) (low : LowestFit book term f.number own f.bodies) where
      -- what the lowest rule makes of the term is what the tree's rule makes of it
      made : (number : ℕ) (rule : Rule) (b : ℕ → Row) → LowestFit book term number rule b → rewrite_root book tree term ≡ taken rule (tree_of term) b
      made number rule b also =
          let same = same_rule book term f.number number own rule f.bodies b low also in
          let r = accepted_right book accepted f.number own low.is in
          root_is_lem (some f) e ∙ taken_by book i.tree f own low.is
          ∙ taken_same i.tree f.bodies b own rule same
          (write_same own.vars (parameters_of own.left) f.bodies b
          (same_bodies book term f.number number own rule f.bodies b low also (only_fit book accepted term i number rule b also)) 0 (tree_of own.right) r.0)
          ∙ ap (λ (t : Row). taken rule t b) (sym same_tree)

      written_by : (number : ℕ) (rule : Rule) (b : ℕ → Row) → LowestFit book term number rule b → OnlyBodies term rule b × RuleWritten rule term b room o.said o.out
      written_by number rule b also =
          let w = made number rule b also in
          let m = root_arguments (left_in rule) in (
            only_fit book accepted term i number rule b also,
            taken_written room (aside m (tree_of term)) (with_aside (write b 0 (tree_of rule.right)) (aside_arguments m (tree_of term))) o.said o.out
                (said_is book tree term room o p (taken rule (tree_of term) b) w) (out_is book tree term room o p (taken rule (tree_of term) b) w),
          )

      when_some : RewritesRoot book term room o
      when_some =
          let w = root_is_lem (some f) e in
          let n = many_aside book i.tree f in
          let r = rewritten book i.tree f in
          record {
            none_fits = λ z. absurd (taken_fits room n r o.said o.out (said_is book tree term room o p (taken_root n r) w) (out_is book tree term room o p (taken_root n r) w) z);
            none_said = λ k. absurd (k f.number own low.is f.bodies low.fits);
            written = written_by;
          }

    pub rewrites_root : RewritesRoot book term room o
    rewrites_root = go best refl (book_lowest_front book accepted term i)
      where
        go : (m : Option Fitting) → best ≡ m → LowestFrontIs book 0 (get_or book 0 0) i.tree m → RewritesRoot book term room o
        go none e l = when_none e l
        go (some f) e l =
            let s = lowest_fit book accepted i.tree body f l in
            when_some f e s.0 (of_words f.number s.0 f.bodies s.1)

-- ---- by any tree
module _ (book tree term : List ℕ) (good : check_book book ≡ Ok tt) (i : IsTerm term) (room : ℕ) (o : RewriteRootOutcome) (p : o ≡ rewrite_root_gives book tree term room) where
  walked : (w : Walked) → walk (book_fits book) tree (tree_of term) ≡ w → rewrite_root book tree term ≡ walked_root book (tree_of term) w
  walked w e = rewrite_walked book tree term good (tree_good term_limits term i) ∙ ap (walked_root book (tree_of term)) e

  found_writes : (f : Fitting) (n : ℕ) (rule : Rule) → walk (book_fits book) tree (tree_of term) ≡ RuleFits f n → rule_at book f.number ≡ some rule
      → RuleWritten rule term f.bodies room o.said o.out
  found_writes f n rule e q =
      let w = walked (RuleFits f n) e ∙ taken_by book (tree_of term) f rule q in
      let m = root_arguments (left_in rule) in
      taken_written room (aside m (tree_of term)) (with_aside (write f.bodies 0 (tree_of rule.right)) (aside_arguments m (tree_of term))) o.said o.out
      (said_is book tree term room o p (taken rule (tree_of term) f.bodies) w) (out_is book tree term room o p (taken rule (tree_of term) f.bodies) w)

  pub rewrites_by_tree : RewritesBy book tree term room o
  rewrites_by_tree = record { none_found = λ e. said_is book tree term room o p (refused NoFit) (walked NoneFits e) ∙ ap answered (refused_built room NoFit).0; written = found_writes }
