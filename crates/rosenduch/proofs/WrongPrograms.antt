-- The wrong programs are shut out: of each, what it gives on its input and what the definition gives differ in one number that was computed.
use mathlib.Core.Path.{◌≡◌, refl, sym, ap, ◌∙◌}
use mathlib.Core.List.{List}
use Prim.Native.Nat.{ℕ, ◌-◌}
use native.Mathlib.Omega.{arith}
use lib.ListN.{get_or}
use Rattle.term.specs.declared.answer.Answer.{Answer}
use Rattle.term.specs.declared.answer.Answer.TheVariants.{Done}
use Rattle.term.specs.Answer.{Answered}
use Rattle.term.specs.Part.{padded}
use Rattle.term.proofs.Laws.{answered_same, apart}
use Rattle.book.specs.Marked.{book_a}
use Rattle.fit.specs.Match.{MatchRuleOutcome, match_rule_gives}
use Rattle.tree.specs.Layout.{tree_words}
use Rattle.compiler.specs.Compiled.{CompileOutcome, compile_gives}
use Rattle.walk.specs.ByTree.{MatchTreeOutcome, match_tree_gives}
use Rattle.mend.proofs.Laws.{wrong_repairs}
use Rattle.steps.specs.Rewrite.{RewriteRootOutcome}
use Rattle.steps.specs.Simplify.{SimplifyOutcome, simplify_gives}
use Rattle.rosenduch.specs.WrongFronts.{silent_rule, silent_tree, WrongFronts}
use Rattle.rosenduch.specs.WrongVisits.{match_without_last, WrongVisits}
use Rattle.rosenduch.specs.WrongPrograms.{only_refuses, same_body, only_rule0, only_none, hands_back, one_step, invents_count, drops_row, passes_earlier_row, WrongTree, AllShutOut}
use Rattle.rosenduch.specs.Inputs.{p1, p3, p6, first_term, two_rows, second_fits, exchanged}
use Rattle.rosenduch.proofs.Computed.{matches_computed, trees_computed, runs_computed, compilers_computed, fronts_computed, visits_computed}

abbrev second : MatchRuleOutcome → ℕ
second o = get_or o.bodies 1 0

abbrev said_number_lem : MatchRuleOutcome → ℕ
said_number_lem o = o.said.number

only_refuses_lem : (a : Answer) → (a ≡ Done → ⊥) → only_refuses a book_a 0 p1 1 ≡ match_rule_gives book_a 0 p1 1 → ⊥
unfolding only_refuses
only_refuses_lem a d e = d (answered_same a Done (ap (λ (o : MatchRuleOutcome). o.said) e ∙ matches_computed.0))

same_body_lem : (body : List ℕ) → same_body body book_a 1 p3 2 ≡ match_rule_gives book_a 1 p3 2 → same_body body book_a 1 p6 2 ≡ match_rule_gives book_a 1 p6 2 → ⊥
unfolding same_body
same_body_lem body e f =
    apart (second (match_rule_gives book_a 1 p3 2)) (second (match_rule_gives book_a 1 p6 2)) 0 7 matches_computed.1 matches_computed.2 (λ z. omega (arith, z)) (sym (ap second e) ∙ ap second f)

only_rule_0 : only_rule0 (tree_words book_a) p3 1 ≡ match_tree_gives (tree_words book_a) p3 1 → ⊥
unfolding only_rule0
only_rule_0 e = apart 0 (match_tree_gives (tree_words book_a) p3 1).rule 0 1 refl trees_computed.0 (λ z. omega (arith, z)) (ap (λ (o : MatchTreeOutcome). o.rule) e)

only_none_lem : only_none (tree_words book_a) p1 1 ≡ match_tree_gives (tree_words book_a) p1 1 → ⊥
unfolding only_none
only_none_lem e = apart 1 (match_tree_gives (tree_words book_a) p1 1).said.number 1 0 refl trees_computed.1 (λ z. omega (arith, z)) (ap (λ (o : MatchTreeOutcome). o.said.number) e)

abbrev first_word : SimplifyOutcome → ℕ
first_word o = get_or o.out 0 0

hands_back_lem : (said : Answered) (steps visits : ℕ) → hands_back said steps visits book_a (tree_words book_a) first_term 1000 6 ≡ simplify_gives book_a (tree_words book_a) first_term 1000 6 → ⊥
unfolding hands_back
hands_back_lem said steps visits e =
    apart (get_or (padded 6 first_term) 0 0) (first_word (simplify_gives book_a (tree_words book_a) first_term 1000 6)) 131074 7 runs_computed.0 runs_computed.1 (λ z. omega (arith, z)) (ap first_word e)

one_step_lem : one_step book_a (tree_words book_a) first_term 1000 6 ≡ simplify_gives book_a (tree_words book_a) first_term 1000 6 → ⊥
unfolding one_step
one_step_lem e =
    apart (first_word (simplify_gives book_a (tree_words book_a) first_term 1 6)) (first_word (simplify_gives book_a (tree_words book_a) first_term 1000 6)) 131074 7 runs_computed.2 runs_computed.1
    (λ z. omega (arith, z)) (ap first_word e)

invents_count_lem : (count : ℕ) → (count ≡ 2 → ⊥) → invents_count count book_a (tree_words book_a) first_term 1000 6 ≡ simplify_gives book_a (tree_words book_a) first_term 1000 6 → ⊥
unfolding invents_count
invents_count_lem count d e = d (ap (λ (o : SimplifyOutcome). o.steps) e ∙ runs_computed.3)

-- where the matches differ, so do the trees
wrong_tree : (wrong : (book : List ℕ) (room : ℕ) → CompileOutcome) (book term : List ℕ)
    → (match_tree_gives (wrong book 1024).out term 2 ≡ match_tree_gives (compile_gives book 1024).out term 2 → ⊥) → WrongTree wrong book term
wrong_tree wrong book term d = record { compiled = λ e. d (ap (λ (c : CompileOutcome). match_tree_gives c.out term 2) e); matched = d }

drops_row_lem : match_tree_gives (drops_row two_rows 1024).out second_fits 2 ≡ match_tree_gives (compile_gives two_rows 1024).out second_fits 2 → ⊥
drops_row_lem e = apart _ _ 1 0 compilers_computed.0 compilers_computed.1 (λ z. omega (arith, z)) (ap (λ (o : MatchTreeOutcome). o.said.number) e)

passes_earlier_row_lem : match_tree_gives (passes_earlier_row exchanged 1024).out p6 2 ≡ match_tree_gives (compile_gives exchanged 1024).out p6 2 → ⊥
passes_earlier_row_lem e = apart _ _ 2 1 compilers_computed.2 compilers_computed.3 (λ z. omega (arith, z)) (ap (λ (o : MatchTreeOutcome). o.rule) e)

-- ---- rules for a front part of the arguments
wrong_fronts : WrongFronts
unfolding silent_rule silent_tree
wrong_fronts =
    let c = fronts_computed in
    record {
      equal_counts = λ e. apart _ _ 1 0 c.0 c.1 (λ z. omega (arith, z)) (ap said_number_lem e);
      fewer_arguments = λ e. apart _ _ 0 1 c.2 c.3 (λ z. omega (arith, z)) (ap said_number_lem e);
      silent_rule = λ e. apart 0 _ 0 1 refl c.4 (λ z. omega (arith, z)) (ap (λ (o : MatchRuleOutcome). o.aside) e);
      silent_tree = λ e. apart 0 _ 0 1 refl c.5 (λ z. omega (arith, z)) (ap (λ (o : MatchTreeOutcome). o.aside) e);
      put_first = λ e. apart _ _ 8 7 c.6 c.7 (λ z. omega (arith, z)) (ap (λ (o : RewriteRootOutcome). get_or o.out 1 0) e);
      arguments_forgotten = λ e. apart _ _ 0 8 c.8 c.9 (λ z. omega (arith, z)) (ap (λ (o : RewriteRootOutcome). get_or o.out 2 0) e);
      limits_first = λ e. apart _ _ 15 18 c.10 c.11 (λ z. omega (arith, z)) (ap (λ (o : RewriteRootOutcome). o.said.number) e);
    }

-- ---- the nodes visited
abbrev run_visits : SimplifyOutcome → ℕ
run_visits o = o.visits

wrong_visits : WrongVisits
unfolding match_without_last
wrong_visits =
    let c = visits_computed in
    record {
      match_without_last = λ e. apart _ _ 2 3 (ap (λ (n : ℕ). n - 1) c.0) c.0 (λ z. omega (arith, z)) (ap (λ (o : MatchTreeOutcome). o.visits) e);
      without_last = λ e. apart _ _ 8 12 c.2 c.1 (λ z. omega (arith, z)) (ap run_visits e);
      settled_once = λ e. apart _ _ 11 12 c.3 c.1 (λ z. omega (arith, z)) (ap run_visits e);
      without_last_search = λ e. apart _ _ 10 12 c.4 c.1 (λ z. omega (arith, z)) (ap run_visits e);
    }

pub all_shut_out : AllShutOut
all_shut_out =
    record {
      only_refuses = only_refuses_lem;
      same_body = same_body_lem;
      only_rule_0 = only_rule_0;
      only_none = only_none_lem;
      hands_back = hands_back_lem;
      one_step = one_step_lem;
      invents_count = invents_count_lem;
      raw_words_P7 = λ e. apart _ _ 1 0 matches_computed.3 matches_computed.4 (λ z. omega (arith, z)) (ap said_number_lem e);
      raw_words_P10 = λ e. apart _ _ 0 1 matches_computed.5 matches_computed.6 (λ z. omega (arith, z)) (ap said_number_lem e);
      closed_against_all = λ e. apart _ _ 1 0 matches_computed.7 matches_computed.8 (λ z. omega (arith, z)) (ap said_number_lem e);
      second_uncounted = λ e. apart _ _ 1 0 matches_computed.9 matches_computed.10 (λ z. omega (arith, z)) (ap said_number_lem e);
      drops_row = wrong_tree drops_row two_rows second_fits drops_row_lem;
      passes_earlier_row = wrong_tree passes_earlier_row exchanged p6 passes_earlier_row_lem;
      wrong_repairs = wrong_repairs;
      wrong_fronts = wrong_fronts;
      wrong_visits = wrong_visits;
    }
