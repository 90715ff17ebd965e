-- Document 01's marked exercises, and what the wrong programs and the definitions give on the inputs of the table, computed from the definitions.
use mathlib.Core.Path.{◌≡◌, refl}
use mathlib.Core.List.{[], ◌∷◌}
use lib.ListN.{length, take, get_or}
use Rattle.term.specs.declared.answer.Answer.TheVariants.{Done}
use Rattle.term.specs.Answer.{answered}
use Rattle.term.specs.Part.{padded}
use Rattle.book.specs.Marked.{book_a, book_b}
use Rattle.fit.specs.Match.{match_rule_gives}
use Rattle.tree.specs.Root.{book_tree}
use Rattle.tree.specs.Layout.{tree_words}
use Rattle.compiler.specs.Compiled.{compile_gives}
use Rattle.walk.specs.ByTree.{match_tree_gives}
use Rattle.steps.specs.Simplify.{simplify_gives}
use Rattle.rosenduch.specs.Marked.{marked, AllAsMarked, fails_in, MarkedExercises}
use Rattle.steps.specs.Rewrite.{rewrite_root_gives}
use Rattle.rosenduch.specs.WrongFronts.{equal_counts, fewer_arguments, rewrites_by, put_first, forgotten, limits_first, one_more, one_less, two_fronts, taking, over_and_cannot}
use Rattle.rosenduch.specs.WrongPrograms.{raw_words, closed_against_all, second_uncounted, drops_row, passes_earlier_row}
use Rattle.rosenduch.specs.Inputs.{p1, p3, p6, p7, p10, in_loops, first_term, two_rows, second_fits, exchanged}
use Rattle.rosenduch.specs.WrongVisits.{counts_by, without_last, settled_once, without_last_search}
use Rattle.term.specs.Check as term-check
use Rattle.term.specs.Checked as term-checked
use Rattle.term.specs.Part as term_part
use Rattle.term.specs.Renumber as term-renumber
use Rattle.term.specs.Row as term-row
use Rattle.term.specs.Word as term_word
use Rattle.book.specs.Accept as book-accept
use Rattle.book.specs.Book as book-book
use Rattle.book.specs.Marked as book-marked
use Rattle.book.specs.Rule as book_rule
use Rattle.fit.specs.Build as fit-build
use Rattle.fit.specs.Constraint as fit-constraint
use Rattle.fit.specs.Dedukti as fit-dedukti
use Rattle.fit.specs.Fit as fit-fit
use Rattle.fit.specs.Front as fit-front
use Rattle.fit.specs.Left as fit-left
use Rattle.fit.specs.Lowest as fit-lowest
use Rattle.fit.specs.Match as fit-match
use Rattle.tree.specs.Compile as tree-compile
use Rattle.tree.specs.Find as tree-find
use Rattle.tree.specs.Layout as tree-layout
use Rattle.tree.specs.Path as tree-path
use Rattle.tree.specs.Root as tree-root
use Rattle.tree.specs.Rows as tree-rows
use Rattle.tree.specs.Tree as tree-tree
use Rattle.compiler.specs.Compiled as compiler-compiled
use Rattle.walk.specs.ByTree as walk-bytree
use Rattle.walk.specs.Visits as walk-visits
use Rattle.walk.specs.Walk as walk-walk
use Rattle.steps.specs.Arguments as steps-arguments
use Rattle.steps.specs.Offset as steps-offset
use Rattle.steps.specs.Rewrite as steps-rewrite
use Rattle.steps.specs.Right as steps-right
use Rattle.steps.specs.Simplify as steps-simplify
use Rattle.steps.specs.Step as steps-step
use Rattle.rosenduch.specs.Inputs as rosenduch-inputs
use Rattle.rosenduch.specs.Marked as rosenduch-marked
use Rattle.rosenduch.specs.WrongFronts as rosenduch-wrongfronts
use Rattle.rosenduch.specs.WrongPrograms as rosenduch-wrongprograms
use Rattle.rosenduch.specs.WrongVisits as rosenduch-wrongvisits

tree_begins : take 7 (tree_words book_a) ≡ 2 ∷ 0 ∷ 29 ∷ 131074 ∷ 62 ∷ 196610 ∷ 75 ∷ []
unfolding term-check.may_stand term-check.settle term-check.scan term-check.check term-checked.check_term_gives term_part.past term_part.part_end term_part.part term_part.body_of term_part.has_body term_part.same_words term_part.same_body term_part.written term_part.padded term_part.body_answer term_part.body_words term_part.term_below term_part.write_below_gives term-renumber.position term-renumber.Listed term-renumber.listed term-renumber.good_list term-renumber.id_term term-renumber.id_body term-renumber.inside term-renumber.renumber_head term-renumber.renumber term-renumber.named_head term-renumber.named term-renumber.to_term term-renumber.closed term-renumber.to_body term-renumber.within term-renumber.id_term_within term-renumber.ids_within term-row.width term-row.words term-row.nesting term-row.ranks term-row.Formed term-row.◌⧺◌ term-row.firsts term-row.others term-row.read term_word.kind term_word.rank term_word.count term_word.ident term_word.word term_word.InTable term_word.head_with term_word.head_of book-accept.accept book-accept.check_book_gives book-book.rule_of book-book.judge book-book.check_book book-book.nth_rule book-book.rule_at book-book.sound book-book.together book-book.book_of book-marked.s book-marked.l book-marked.v book-marked.m book-marked.book_a book-marked.book_b book_rule.ids_of book_rule.left_shape book_rule.root_symbol book_rule.right_shape book_rule.counted book_rule.one_count book_rule.all_occur book_rule.no_other book_rule.good_left book_rule.good_right book_rule.good_rule fit-build.start_of fit-build.words_at fit-build.given_bodies fit-build.all_zero fit-build.good_lengths fit-build.check_bodies fit-build.largest fit-build.within_limits fit-build.limited fit-build.build_left fit-build.build_answer fit-build.build_words fit-build.build_left_gives fit-constraint.tree fit-constraint.children_of fit-constraint.under fit-constraint.tree_at fit-constraint.is_head fit-constraint.shape_fits fit-constraint.occurrences fit-constraint.closeds fit-constraint.first_of fit-constraint.sames fit-constraint.constraints fit-constraint.body_here fit-constraint.body_at fit-constraint.holds fit-constraint.all_hold fit-dedukti.free fit-dedukti.Within fit-fit.build fit-fit.found fit-fit.body_in fit-fit.all_same fit-fit.matching fit-front.root_arguments fit-front.front fit-front.aside fit-front.aside_arguments fit-front.with_arguments fit-front.matching_front fit-front.covers fit-left.left_of fit-left.wide fit-left.deep fit-left.occurs fit-left.GoodLeft fit-lowest.lowest fit-lowest.lowest_front fit-match.tree_of fit-match.left_in fit-match.body_list fit-match.length_list fit-match.match_rule fit-match.match_answer fit-match.match_aside fit-match.match_words fit-match.match_lengths fit-match.match_rule_gives tree-compile.without tree-compile.heads tree-compile.case_rows tree-compile.default_rows tree-compile.entering tree-compile.holding tree-compile.rows_without tree-compile.test_of tree-compile.variables_from tree-compile.leaf_of tree-compile.cases_of tree-compile.node_of tree-compile.step tree-compile.compile_by tree-compile.compile tree-compile.book_rows tree-find.root_count tree-find.part_of tree-find.marked_part tree-find.child_parts tree-find.inside_of tree-find.enter_part tree-find.body_for tree-find.leaf_body tree-find.total tree-layout.variable_words tree-layout.case_count tree-layout.long tree-layout.long_cases tree-layout.case_heads tree-layout.layout tree-layout.layout_cases tree-layout.tree_words tree-path.place_numbered tree-path.number_in tree-path.children_from tree-path.marked tree-path.enter tree-root.without_id tree-root.root_symbols tree-root.smallest tree-root.counts_from tree-root.heads_of tree-root.root_heads tree-root.root_case_rows tree-root.root_cases tree-root.root_tree tree-root.book_tree tree-rows.sub tree-rows.below tree-rows.subs_under tree-rows.sub_at tree-rows.head_at tree-rows.lowest_open tree-rows.is_in tree-rows.among tree-rows.same_constraint tree-rows.has tree-rows.unstruck tree-rows.constraints_left tree-rows.words_of tree-rows.words_left tree-rows.size tree-tree.counts_of compiler-compiled.has_room compiler-compiled.compile_answer compiler-compiled.compile_words compiler-compiled.compile_length compiler-compiled.compile_gives walk-bytree.match_tree walk-bytree.match_tree_rule walk-bytree.match_tree_visits walk-bytree.match_tree_gives walk-visits.visits_in walk-visits.visits_in_cases walk-walk.go_to walk-walk.variables_in walk-walk.sound_variable walk-walk.sound_variables walk-walk.leaf_node walk-walk.is_word walk-walk.case_of walk-walk.switch_node walk-walk.closed_node walk-walk.same_node walk-walk.node_at walk-walk.next_at walk-walk.walk_by walk-walk.walk_from walk-walk.walk walk-walk.visits_by walk-walk.visits_from walk-walk.visits walk-walk.counts_fit walk-walk.book_fits walk-walk.no_book steps-arguments.takes steps-arguments.with_aside steps-offset.part_at steps-offset.spliced steps-rewrite.rewritten steps-rewrite.rewrite_root steps-rewrite.root_visits steps-rewrite.rewrite_root_gives steps-right.shifted steps-right.replaced steps-right.in_body steps-right.write steps-simplify.simplify_by steps-simplify.simplify steps-simplify.simplify_answer steps-simplify.simplify_words steps-simplify.simplify_steps steps-simplify.simplify_visits steps-simplify.simplify_gives steps-step.seek_rule steps-step.lowest_offset steps-step.seek_visits steps-step.search_visits steps-step.whole_within steps-step.step rosenduch-inputs.p1 rosenduch-inputs.p3 rosenduch-inputs.p6 rosenduch-inputs.p7 rosenduch-inputs.p10 rosenduch-inputs.in_loops rosenduch-inputs.first_term rosenduch-inputs.exchanged rosenduch-inputs.two_rows rosenduch-inputs.second_fits rosenduch-marked.marked rosenduch-marked.AllAsMarked rosenduch-marked.fails_in rosenduch-marked.fails_in_cases rosenduch-wrongfronts.equal_counts rosenduch-wrongfronts.first_parts rosenduch-wrongfronts.cut_to rosenduch-wrongfronts.matching_fewer rosenduch-wrongfronts.fewer_arguments rosenduch-wrongfronts.silent_rule rosenduch-wrongfronts.silent_tree rosenduch-wrongfronts.rewrites_by rosenduch-wrongfronts.with_first rosenduch-wrongfronts.one_more rosenduch-wrongfronts.one_less rosenduch-wrongfronts.two_fronts rosenduch-wrongfronts.taking rosenduch-wrongfronts.over_and_cannot rosenduch-wrongprograms.only_refuses rosenduch-wrongprograms.same_body rosenduch-wrongprograms.found_by rosenduch-wrongprograms.raw_matching rosenduch-wrongprograms.raw_words rosenduch-wrongprograms.id_listed rosenduch-wrongprograms.body_against_all rosenduch-wrongprograms.matching_against_all rosenduch-wrongprograms.closed_against_all rosenduch-wrongprograms.body_uncounted rosenduch-wrongprograms.uncounted_same rosenduch-wrongprograms.matching_uncounted rosenduch-wrongprograms.second_uncounted rosenduch-wrongprograms.only_rule0 rosenduch-wrongprograms.only_none rosenduch-wrongprograms.made_by rosenduch-wrongprograms.root_cases_by rosenduch-wrongprograms.compile_by rosenduch-wrongprograms.own_rows rosenduch-wrongprograms.own_cases rosenduch-wrongprograms.drops_row rosenduch-wrongprograms.all_variable rosenduch-wrongprograms.passes_earlier_row rosenduch-wrongprograms.hands_back rosenduch-wrongprograms.one_step rosenduch-wrongprograms.invents_count rosenduch-wrongvisits.match_without_last rosenduch-wrongvisits.count_by rosenduch-wrongvisits.counts_by rosenduch-wrongvisits.without_last_search
tree_begins = refl

tree_has : length (tree_words book_a) ≡ 725
unfolding term-check.may_stand term-check.settle term-check.scan term-check.check term-checked.check_term_gives term_part.past term_part.part_end term_part.part term_part.body_of term_part.has_body term_part.same_words term_part.same_body term_part.written term_part.padded term_part.body_answer term_part.body_words term_part.term_below term_part.write_below_gives term-renumber.position term-renumber.Listed term-renumber.listed term-renumber.good_list term-renumber.id_term term-renumber.id_body term-renumber.inside term-renumber.renumber_head term-renumber.renumber term-renumber.named_head term-renumber.named term-renumber.to_term term-renumber.closed term-renumber.to_body term-renumber.within term-renumber.id_term_within term-renumber.ids_within term-row.width term-row.words term-row.nesting term-row.ranks term-row.Formed term-row.◌⧺◌ term-row.firsts term-row.others term-row.read term_word.kind term_word.rank term_word.count term_word.ident term_word.word term_word.InTable term_word.head_with term_word.head_of book-accept.accept book-accept.check_book_gives book-book.rule_of book-book.judge book-book.check_book book-book.nth_rule book-book.rule_at book-book.sound book-book.together book-book.book_of book-marked.s book-marked.l book-marked.v book-marked.m book-marked.book_a book-marked.book_b book_rule.ids_of book_rule.left_shape book_rule.root_symbol book_rule.right_shape book_rule.counted book_rule.one_count book_rule.all_occur book_rule.no_other book_rule.good_left book_rule.good_right book_rule.good_rule fit-build.start_of fit-build.words_at fit-build.given_bodies fit-build.all_zero fit-build.good_lengths fit-build.check_bodies fit-build.largest fit-build.within_limits fit-build.limited fit-build.build_left fit-build.build_answer fit-build.build_words fit-build.build_left_gives fit-constraint.tree fit-constraint.children_of fit-constraint.under fit-constraint.tree_at fit-constraint.is_head fit-constraint.shape_fits fit-constraint.occurrences fit-constraint.closeds fit-constraint.first_of fit-constraint.sames fit-constraint.constraints fit-constraint.body_here fit-constraint.body_at fit-constraint.holds fit-constraint.all_hold fit-dedukti.free fit-dedukti.Within fit-fit.build fit-fit.found fit-fit.body_in fit-fit.all_same fit-fit.matching fit-front.root_arguments fit-front.front fit-front.aside fit-front.aside_arguments fit-front.with_arguments fit-front.matching_front fit-front.covers fit-left.left_of fit-left.wide fit-left.deep fit-left.occurs fit-left.GoodLeft fit-lowest.lowest fit-lowest.lowest_front fit-match.tree_of fit-match.left_in fit-match.body_list fit-match.length_list fit-match.match_rule fit-match.match_answer fit-match.match_aside fit-match.match_words fit-match.match_lengths fit-match.match_rule_gives tree-compile.without tree-compile.heads tree-compile.case_rows tree-compile.default_rows tree-compile.entering tree-compile.holding tree-compile.rows_without tree-compile.test_of tree-compile.variables_from tree-compile.leaf_of tree-compile.cases_of tree-compile.node_of tree-compile.step tree-compile.compile_by tree-compile.compile tree-compile.book_rows tree-find.root_count tree-find.part_of tree-find.marked_part tree-find.child_parts tree-find.inside_of tree-find.enter_part tree-find.body_for tree-find.leaf_body tree-find.total tree-layout.variable_words tree-layout.case_count tree-layout.long tree-layout.long_cases tree-layout.case_heads tree-layout.layout tree-layout.layout_cases tree-layout.tree_words tree-path.place_numbered tree-path.number_in tree-path.children_from tree-path.marked tree-path.enter tree-root.without_id tree-root.root_symbols tree-root.smallest tree-root.counts_from tree-root.heads_of tree-root.root_heads tree-root.root_case_rows tree-root.root_cases tree-root.root_tree tree-root.book_tree tree-rows.sub tree-rows.below tree-rows.subs_under tree-rows.sub_at tree-rows.head_at tree-rows.lowest_open tree-rows.is_in tree-rows.among tree-rows.same_constraint tree-rows.has tree-rows.unstruck tree-rows.constraints_left tree-rows.words_of tree-rows.words_left tree-rows.size tree-tree.counts_of compiler-compiled.has_room compiler-compiled.compile_answer compiler-compiled.compile_words compiler-compiled.compile_length compiler-compiled.compile_gives walk-bytree.match_tree walk-bytree.match_tree_rule walk-bytree.match_tree_visits walk-bytree.match_tree_gives walk-visits.visits_in walk-visits.visits_in_cases walk-walk.go_to walk-walk.variables_in walk-walk.sound_variable walk-walk.sound_variables walk-walk.leaf_node walk-walk.is_word walk-walk.case_of walk-walk.switch_node walk-walk.closed_node walk-walk.same_node walk-walk.node_at walk-walk.next_at walk-walk.walk_by walk-walk.walk_from walk-walk.walk walk-walk.visits_by walk-walk.visits_from walk-walk.visits walk-walk.counts_fit walk-walk.book_fits walk-walk.no_book steps-arguments.takes steps-arguments.with_aside steps-offset.part_at steps-offset.spliced steps-rewrite.rewritten steps-rewrite.rewrite_root steps-rewrite.root_visits steps-rewrite.rewrite_root_gives steps-right.shifted steps-right.replaced steps-right.in_body steps-right.write steps-simplify.simplify_by steps-simplify.simplify steps-simplify.simplify_answer steps-simplify.simplify_words steps-simplify.simplify_steps steps-simplify.simplify_visits steps-simplify.simplify_gives steps-step.seek_rule steps-step.lowest_offset steps-step.seek_visits steps-step.search_visits steps-step.whole_within steps-step.step rosenduch-inputs.p1 rosenduch-inputs.p3 rosenduch-inputs.p6 rosenduch-inputs.p7 rosenduch-inputs.p10 rosenduch-inputs.in_loops rosenduch-inputs.first_term rosenduch-inputs.exchanged rosenduch-inputs.two_rows rosenduch-inputs.second_fits rosenduch-marked.marked rosenduch-marked.AllAsMarked rosenduch-marked.fails_in rosenduch-marked.fails_in_cases rosenduch-wrongfronts.equal_counts rosenduch-wrongfronts.first_parts rosenduch-wrongfronts.cut_to rosenduch-wrongfronts.matching_fewer rosenduch-wrongfronts.fewer_arguments rosenduch-wrongfronts.silent_rule rosenduch-wrongfronts.silent_tree rosenduch-wrongfronts.rewrites_by rosenduch-wrongfronts.with_first rosenduch-wrongfronts.one_more rosenduch-wrongfronts.one_less rosenduch-wrongfronts.two_fronts rosenduch-wrongfronts.taking rosenduch-wrongfronts.over_and_cannot rosenduch-wrongprograms.only_refuses rosenduch-wrongprograms.same_body rosenduch-wrongprograms.found_by rosenduch-wrongprograms.raw_matching rosenduch-wrongprograms.raw_words rosenduch-wrongprograms.id_listed rosenduch-wrongprograms.body_against_all rosenduch-wrongprograms.matching_against_all rosenduch-wrongprograms.closed_against_all rosenduch-wrongprograms.body_uncounted rosenduch-wrongprograms.uncounted_same rosenduch-wrongprograms.matching_uncounted rosenduch-wrongprograms.second_uncounted rosenduch-wrongprograms.only_rule0 rosenduch-wrongprograms.only_none rosenduch-wrongprograms.made_by rosenduch-wrongprograms.root_cases_by rosenduch-wrongprograms.compile_by rosenduch-wrongprograms.own_rows rosenduch-wrongprograms.own_cases rosenduch-wrongprograms.drops_row rosenduch-wrongprograms.all_variable rosenduch-wrongprograms.passes_earlier_row rosenduch-wrongprograms.hands_back rosenduch-wrongprograms.one_step rosenduch-wrongprograms.invents_count rosenduch-wrongvisits.match_without_last rosenduch-wrongvisits.count_by rosenduch-wrongvisits.counts_by rosenduch-wrongvisits.without_last_search
tree_has = refl

fails : fails_in (book_tree book_a) ≡ 45
unfolding term-check.may_stand term-check.settle term-check.scan term-check.check term-checked.check_term_gives term_part.past term_part.part_end term_part.part term_part.body_of term_part.has_body term_part.same_words term_part.same_body term_part.written term_part.padded term_part.body_answer term_part.body_words term_part.term_below term_part.write_below_gives term-renumber.position term-renumber.Listed term-renumber.listed term-renumber.good_list term-renumber.id_term term-renumber.id_body term-renumber.inside term-renumber.renumber_head term-renumber.renumber term-renumber.named_head term-renumber.named term-renumber.to_term term-renumber.closed term-renumber.to_body term-renumber.within term-renumber.id_term_within term-renumber.ids_within term-row.width term-row.words term-row.nesting term-row.ranks term-row.Formed term-row.◌⧺◌ term-row.firsts term-row.others term-row.read term_word.kind term_word.rank term_word.count term_word.ident term_word.word term_word.InTable term_word.head_with term_word.head_of book-accept.accept book-accept.check_book_gives book-book.rule_of book-book.judge book-book.check_book book-book.nth_rule book-book.rule_at book-book.sound book-book.together book-book.book_of book-marked.s book-marked.l book-marked.v book-marked.m book-marked.book_a book-marked.book_b book_rule.ids_of book_rule.left_shape book_rule.root_symbol book_rule.right_shape book_rule.counted book_rule.one_count book_rule.all_occur book_rule.no_other book_rule.good_left book_rule.good_right book_rule.good_rule fit-build.start_of fit-build.words_at fit-build.given_bodies fit-build.all_zero fit-build.good_lengths fit-build.check_bodies fit-build.largest fit-build.within_limits fit-build.limited fit-build.build_left fit-build.build_answer fit-build.build_words fit-build.build_left_gives fit-constraint.tree fit-constraint.children_of fit-constraint.under fit-constraint.tree_at fit-constraint.is_head fit-constraint.shape_fits fit-constraint.occurrences fit-constraint.closeds fit-constraint.first_of fit-constraint.sames fit-constraint.constraints fit-constraint.body_here fit-constraint.body_at fit-constraint.holds fit-constraint.all_hold fit-dedukti.free fit-dedukti.Within fit-fit.build fit-fit.found fit-fit.body_in fit-fit.all_same fit-fit.matching fit-front.root_arguments fit-front.front fit-front.aside fit-front.aside_arguments fit-front.with_arguments fit-front.matching_front fit-front.covers fit-left.left_of fit-left.wide fit-left.deep fit-left.occurs fit-left.GoodLeft fit-lowest.lowest fit-lowest.lowest_front fit-match.tree_of fit-match.left_in fit-match.body_list fit-match.length_list fit-match.match_rule fit-match.match_answer fit-match.match_aside fit-match.match_words fit-match.match_lengths fit-match.match_rule_gives tree-compile.without tree-compile.heads tree-compile.case_rows tree-compile.default_rows tree-compile.entering tree-compile.holding tree-compile.rows_without tree-compile.test_of tree-compile.variables_from tree-compile.leaf_of tree-compile.cases_of tree-compile.node_of tree-compile.step tree-compile.compile_by tree-compile.compile tree-compile.book_rows tree-find.root_count tree-find.part_of tree-find.marked_part tree-find.child_parts tree-find.inside_of tree-find.enter_part tree-find.body_for tree-find.leaf_body tree-find.total tree-layout.variable_words tree-layout.case_count tree-layout.long tree-layout.long_cases tree-layout.case_heads tree-layout.layout tree-layout.layout_cases tree-layout.tree_words tree-path.place_numbered tree-path.number_in tree-path.children_from tree-path.marked tree-path.enter tree-root.without_id tree-root.root_symbols tree-root.smallest tree-root.counts_from tree-root.heads_of tree-root.root_heads tree-root.root_case_rows tree-root.root_cases tree-root.root_tree tree-root.book_tree tree-rows.sub tree-rows.below tree-rows.subs_under tree-rows.sub_at tree-rows.head_at tree-rows.lowest_open tree-rows.is_in tree-rows.among tree-rows.same_constraint tree-rows.has tree-rows.unstruck tree-rows.constraints_left tree-rows.words_of tree-rows.words_left tree-rows.size tree-tree.counts_of compiler-compiled.has_room compiler-compiled.compile_answer compiler-compiled.compile_words compiler-compiled.compile_length compiler-compiled.compile_gives walk-bytree.match_tree walk-bytree.match_tree_rule walk-bytree.match_tree_visits walk-bytree.match_tree_gives walk-visits.visits_in walk-visits.visits_in_cases walk-walk.go_to walk-walk.variables_in walk-walk.sound_variable walk-walk.sound_variables walk-walk.leaf_node walk-walk.is_word walk-walk.case_of walk-walk.switch_node walk-walk.closed_node walk-walk.same_node walk-walk.node_at walk-walk.next_at walk-walk.walk_by walk-walk.walk_from walk-walk.walk walk-walk.visits_by walk-walk.visits_from walk-walk.visits walk-walk.counts_fit walk-walk.book_fits walk-walk.no_book steps-arguments.takes steps-arguments.with_aside steps-offset.part_at steps-offset.spliced steps-rewrite.rewritten steps-rewrite.rewrite_root steps-rewrite.root_visits steps-rewrite.rewrite_root_gives steps-right.shifted steps-right.replaced steps-right.in_body steps-right.write steps-simplify.simplify_by steps-simplify.simplify steps-simplify.simplify_answer steps-simplify.simplify_words steps-simplify.simplify_steps steps-simplify.simplify_visits steps-simplify.simplify_gives steps-step.seek_rule steps-step.lowest_offset steps-step.seek_visits steps-step.search_visits steps-step.whole_within steps-step.step rosenduch-inputs.p1 rosenduch-inputs.p3 rosenduch-inputs.p6 rosenduch-inputs.p7 rosenduch-inputs.p10 rosenduch-inputs.in_loops rosenduch-inputs.first_term rosenduch-inputs.exchanged rosenduch-inputs.two_rows rosenduch-inputs.second_fits rosenduch-marked.marked rosenduch-marked.AllAsMarked rosenduch-marked.fails_in rosenduch-marked.fails_in_cases rosenduch-wrongfronts.equal_counts rosenduch-wrongfronts.first_parts rosenduch-wrongfronts.cut_to rosenduch-wrongfronts.matching_fewer rosenduch-wrongfronts.fewer_arguments rosenduch-wrongfronts.silent_rule rosenduch-wrongfronts.silent_tree rosenduch-wrongfronts.rewrites_by rosenduch-wrongfronts.with_first rosenduch-wrongfronts.one_more rosenduch-wrongfronts.one_less rosenduch-wrongfronts.two_fronts rosenduch-wrongfronts.taking rosenduch-wrongfronts.over_and_cannot rosenduch-wrongprograms.only_refuses rosenduch-wrongprograms.same_body rosenduch-wrongprograms.found_by rosenduch-wrongprograms.raw_matching rosenduch-wrongprograms.raw_words rosenduch-wrongprograms.id_listed rosenduch-wrongprograms.body_against_all rosenduch-wrongprograms.matching_against_all rosenduch-wrongprograms.closed_against_all rosenduch-wrongprograms.body_uncounted rosenduch-wrongprograms.uncounted_same rosenduch-wrongprograms.matching_uncounted rosenduch-wrongprograms.second_uncounted rosenduch-wrongprograms.only_rule0 rosenduch-wrongprograms.only_none rosenduch-wrongprograms.made_by rosenduch-wrongprograms.root_cases_by rosenduch-wrongprograms.compile_by rosenduch-wrongprograms.own_rows rosenduch-wrongprograms.own_cases rosenduch-wrongprograms.drops_row rosenduch-wrongprograms.all_variable rosenduch-wrongprograms.passes_earlier_row rosenduch-wrongprograms.hands_back rosenduch-wrongprograms.one_step rosenduch-wrongprograms.invents_count rosenduch-wrongvisits.match_without_last rosenduch-wrongvisits.count_by rosenduch-wrongvisits.counts_by rosenduch-wrongvisits.without_last_search
fails = refl

all_as_marked : AllAsMarked marked
unfolding term-check.may_stand term-check.settle term-check.scan term-check.check term-checked.check_term_gives term_part.past term_part.part_end term_part.part term_part.body_of term_part.has_body term_part.same_words term_part.same_body term_part.written term_part.padded term_part.body_answer term_part.body_words term_part.term_below term_part.write_below_gives term-renumber.position term-renumber.Listed term-renumber.listed term-renumber.good_list term-renumber.id_term term-renumber.id_body term-renumber.inside term-renumber.renumber_head term-renumber.renumber term-renumber.named_head term-renumber.named term-renumber.to_term term-renumber.closed term-renumber.to_body term-renumber.within term-renumber.id_term_within term-renumber.ids_within term-row.width term-row.words term-row.nesting term-row.ranks term-row.Formed term-row.◌⧺◌ term-row.firsts term-row.others term-row.read term_word.kind term_word.rank term_word.count term_word.ident term_word.word term_word.InTable term_word.head_with term_word.head_of book-accept.accept book-accept.check_book_gives book-book.rule_of book-book.judge book-book.check_book book-book.nth_rule book-book.rule_at book-book.sound book-book.together book-book.book_of book-marked.s book-marked.l book-marked.v book-marked.m book-marked.book_a book-marked.book_b book_rule.ids_of book_rule.left_shape book_rule.root_symbol book_rule.right_shape book_rule.counted book_rule.one_count book_rule.all_occur book_rule.no_other book_rule.good_left book_rule.good_right book_rule.good_rule fit-build.start_of fit-build.words_at fit-build.given_bodies fit-build.all_zero fit-build.good_lengths fit-build.check_bodies fit-build.largest fit-build.within_limits fit-build.limited fit-build.build_left fit-build.build_answer fit-build.build_words fit-build.build_left_gives fit-constraint.tree fit-constraint.children_of fit-constraint.under fit-constraint.tree_at fit-constraint.is_head fit-constraint.shape_fits fit-constraint.occurrences fit-constraint.closeds fit-constraint.first_of fit-constraint.sames fit-constraint.constraints fit-constraint.body_here fit-constraint.body_at fit-constraint.holds fit-constraint.all_hold fit-dedukti.free fit-dedukti.Within fit-fit.build fit-fit.found fit-fit.body_in fit-fit.all_same fit-fit.matching fit-front.root_arguments fit-front.front fit-front.aside fit-front.aside_arguments fit-front.with_arguments fit-front.matching_front fit-front.covers fit-left.left_of fit-left.wide fit-left.deep fit-left.occurs fit-left.GoodLeft fit-lowest.lowest fit-lowest.lowest_front fit-match.tree_of fit-match.left_in fit-match.body_list fit-match.length_list fit-match.match_rule fit-match.match_answer fit-match.match_aside fit-match.match_words fit-match.match_lengths fit-match.match_rule_gives tree-compile.without tree-compile.heads tree-compile.case_rows tree-compile.default_rows tree-compile.entering tree-compile.holding tree-compile.rows_without tree-compile.test_of tree-compile.variables_from tree-compile.leaf_of tree-compile.cases_of tree-compile.node_of tree-compile.step tree-compile.compile_by tree-compile.compile tree-compile.book_rows tree-find.root_count tree-find.part_of tree-find.marked_part tree-find.child_parts tree-find.inside_of tree-find.enter_part tree-find.body_for tree-find.leaf_body tree-find.total tree-layout.variable_words tree-layout.case_count tree-layout.long tree-layout.long_cases tree-layout.case_heads tree-layout.layout tree-layout.layout_cases tree-layout.tree_words tree-path.place_numbered tree-path.number_in tree-path.children_from tree-path.marked tree-path.enter tree-root.without_id tree-root.root_symbols tree-root.smallest tree-root.counts_from tree-root.heads_of tree-root.root_heads tree-root.root_case_rows tree-root.root_cases tree-root.root_tree tree-root.book_tree tree-rows.sub tree-rows.below tree-rows.subs_under tree-rows.sub_at tree-rows.head_at tree-rows.lowest_open tree-rows.is_in tree-rows.among tree-rows.same_constraint tree-rows.has tree-rows.unstruck tree-rows.constraints_left tree-rows.words_of tree-rows.words_left tree-rows.size tree-tree.counts_of compiler-compiled.has_room compiler-compiled.compile_answer compiler-compiled.compile_words compiler-compiled.compile_length compiler-compiled.compile_gives walk-bytree.match_tree walk-bytree.match_tree_rule walk-bytree.match_tree_visits walk-bytree.match_tree_gives walk-visits.visits_in walk-visits.visits_in_cases walk-walk.go_to walk-walk.variables_in walk-walk.sound_variable walk-walk.sound_variables walk-walk.leaf_node walk-walk.is_word walk-walk.case_of walk-walk.switch_node walk-walk.closed_node walk-walk.same_node walk-walk.node_at walk-walk.next_at walk-walk.walk_by walk-walk.walk_from walk-walk.walk walk-walk.visits_by walk-walk.visits_from walk-walk.visits walk-walk.counts_fit walk-walk.book_fits walk-walk.no_book steps-arguments.takes steps-arguments.with_aside steps-offset.part_at steps-offset.spliced steps-rewrite.rewritten steps-rewrite.rewrite_root steps-rewrite.root_visits steps-rewrite.rewrite_root_gives steps-right.shifted steps-right.replaced steps-right.in_body steps-right.write steps-simplify.simplify_by steps-simplify.simplify steps-simplify.simplify_answer steps-simplify.simplify_words steps-simplify.simplify_steps steps-simplify.simplify_visits steps-simplify.simplify_gives steps-step.seek_rule steps-step.lowest_offset steps-step.seek_visits steps-step.search_visits steps-step.whole_within steps-step.step rosenduch-inputs.p1 rosenduch-inputs.p3 rosenduch-inputs.p6 rosenduch-inputs.p7 rosenduch-inputs.p10 rosenduch-inputs.in_loops rosenduch-inputs.first_term rosenduch-inputs.exchanged rosenduch-inputs.two_rows rosenduch-inputs.second_fits rosenduch-marked.marked rosenduch-marked.AllAsMarked rosenduch-marked.fails_in rosenduch-marked.fails_in_cases rosenduch-wrongfronts.equal_counts rosenduch-wrongfronts.first_parts rosenduch-wrongfronts.cut_to rosenduch-wrongfronts.matching_fewer rosenduch-wrongfronts.fewer_arguments rosenduch-wrongfronts.silent_rule rosenduch-wrongfronts.silent_tree rosenduch-wrongfronts.rewrites_by rosenduch-wrongfronts.with_first rosenduch-wrongfronts.one_more rosenduch-wrongfronts.one_less rosenduch-wrongfronts.two_fronts rosenduch-wrongfronts.taking rosenduch-wrongfronts.over_and_cannot rosenduch-wrongprograms.only_refuses rosenduch-wrongprograms.same_body rosenduch-wrongprograms.found_by rosenduch-wrongprograms.raw_matching rosenduch-wrongprograms.raw_words rosenduch-wrongprograms.id_listed rosenduch-wrongprograms.body_against_all rosenduch-wrongprograms.matching_against_all rosenduch-wrongprograms.closed_against_all rosenduch-wrongprograms.body_uncounted rosenduch-wrongprograms.uncounted_same rosenduch-wrongprograms.matching_uncounted rosenduch-wrongprograms.second_uncounted rosenduch-wrongprograms.only_rule0 rosenduch-wrongprograms.only_none rosenduch-wrongprograms.made_by rosenduch-wrongprograms.root_cases_by rosenduch-wrongprograms.compile_by rosenduch-wrongprograms.own_rows rosenduch-wrongprograms.own_cases rosenduch-wrongprograms.drops_row rosenduch-wrongprograms.all_variable rosenduch-wrongprograms.passes_earlier_row rosenduch-wrongprograms.hands_back rosenduch-wrongprograms.one_step rosenduch-wrongprograms.invents_count rosenduch-wrongvisits.match_without_last rosenduch-wrongvisits.count_by rosenduch-wrongvisits.counts_by rosenduch-wrongvisits.without_last_search
all_as_marked = ((refl, refl), ((refl, refl), ((refl, refl), ((refl, refl), ((refl, refl), ((refl, refl), ((refl, refl), ((refl, refl), ((refl, refl), ((refl, refl), tt))))))))))

pub marked_exercises : MarkedExercises
marked_exercises = record { tree_begins = tree_begins; tree_has = tree_has; fails = fails; matches = all_as_marked }

-- ---- matching one rule: rightly, by raw words, and against all variables
pub matches_computed :
    ((match_rule_gives book_a 0 p1 1).said ≡ answered Done)
    × (get_or (match_rule_gives book_a 1 p3 2).bodies 1 0 ≡ 0)
    × (get_or (match_rule_gives book_a 1 p6 2).bodies 1 0 ≡ 7)
    × ((raw_words book_b 0 p7 1).said.number ≡ 1)
    × ((match_rule_gives book_b 0 p7 1).said.number ≡ 0)
    × ((raw_words book_b 0 p10 1).said.number ≡ 0)
    × ((match_rule_gives book_b 0 p10 1).said.number ≡ 1)
    × ((closed_against_all book_a 1 p3 1).said.number ≡ 1)
    × ((match_rule_gives book_a 1 p3 1).said.number ≡ 0)
    × ((second_uncounted book_b 0 in_loops 2).said.number ≡ 1)
    × ((match_rule_gives book_b 0 in_loops 2).said.number ≡ 0)
unfolding term-check.may_stand term-check.settle term-check.scan term-check.check term-checked.check_term_gives term_part.past term_part.part_end term_part.part term_part.body_of term_part.has_body term_part.same_words term_part.same_body term_part.written term_part.padded term_part.body_answer term_part.body_words term_part.term_below term_part.write_below_gives term-renumber.position term-renumber.Listed term-renumber.listed term-renumber.good_list term-renumber.id_term term-renumber.id_body term-renumber.inside term-renumber.renumber_head term-renumber.renumber term-renumber.named_head term-renumber.named term-renumber.to_term term-renumber.closed term-renumber.to_body term-renumber.within term-renumber.id_term_within term-renumber.ids_within term-row.width term-row.words term-row.nesting term-row.ranks term-row.Formed term-row.◌⧺◌ term-row.firsts term-row.others term-row.read term_word.kind term_word.rank term_word.count term_word.ident term_word.word term_word.InTable term_word.head_with term_word.head_of book-accept.accept book-accept.check_book_gives book-book.rule_of book-book.judge book-book.check_book book-book.nth_rule book-book.rule_at book-book.sound book-book.together book-book.book_of book-marked.s book-marked.l book-marked.v book-marked.m book-marked.book_a book-marked.book_b book_rule.ids_of book_rule.left_shape book_rule.root_symbol book_rule.right_shape book_rule.counted book_rule.one_count book_rule.all_occur book_rule.no_other book_rule.good_left book_rule.good_right book_rule.good_rule fit-build.start_of fit-build.words_at fit-build.given_bodies fit-build.all_zero fit-build.good_lengths fit-build.check_bodies fit-build.largest fit-build.within_limits fit-build.limited fit-build.build_left fit-build.build_answer fit-build.build_words fit-build.build_left_gives fit-constraint.tree fit-constraint.children_of fit-constraint.under fit-constraint.tree_at fit-constraint.is_head fit-constraint.shape_fits fit-constraint.occurrences fit-constraint.closeds fit-constraint.first_of fit-constraint.sames fit-constraint.constraints fit-constraint.body_here fit-constraint.body_at fit-constraint.holds fit-constraint.all_hold fit-dedukti.free fit-dedukti.Within fit-fit.build fit-fit.found fit-fit.body_in fit-fit.all_same fit-fit.matching fit-front.root_arguments fit-front.front fit-front.aside fit-front.aside_arguments fit-front.with_arguments fit-front.matching_front fit-front.covers fit-left.left_of fit-left.wide fit-left.deep fit-left.occurs fit-left.GoodLeft fit-lowest.lowest fit-lowest.lowest_front fit-match.tree_of fit-match.left_in fit-match.body_list fit-match.length_list fit-match.match_rule fit-match.match_answer fit-match.match_aside fit-match.match_words fit-match.match_lengths fit-match.match_rule_gives tree-compile.without tree-compile.heads tree-compile.case_rows tree-compile.default_rows tree-compile.entering tree-compile.holding tree-compile.rows_without tree-compile.test_of tree-compile.variables_from tree-compile.leaf_of tree-compile.cases_of tree-compile.node_of tree-compile.step tree-compile.compile_by tree-compile.compile tree-compile.book_rows tree-find.root_count tree-find.part_of tree-find.marked_part tree-find.child_parts tree-find.inside_of tree-find.enter_part tree-find.body_for tree-find.leaf_body tree-find.total tree-layout.variable_words tree-layout.case_count tree-layout.long tree-layout.long_cases tree-layout.case_heads tree-layout.layout tree-layout.layout_cases tree-layout.tree_words tree-path.place_numbered tree-path.number_in tree-path.children_from tree-path.marked tree-path.enter tree-root.without_id tree-root.root_symbols tree-root.smallest tree-root.counts_from tree-root.heads_of tree-root.root_heads tree-root.root_case_rows tree-root.root_cases tree-root.root_tree tree-root.book_tree tree-rows.sub tree-rows.below tree-rows.subs_under tree-rows.sub_at tree-rows.head_at tree-rows.lowest_open tree-rows.is_in tree-rows.among tree-rows.same_constraint tree-rows.has tree-rows.unstruck tree-rows.constraints_left tree-rows.words_of tree-rows.words_left tree-rows.size tree-tree.counts_of compiler-compiled.has_room compiler-compiled.compile_answer compiler-compiled.compile_words compiler-compiled.compile_length compiler-compiled.compile_gives walk-bytree.match_tree walk-bytree.match_tree_rule walk-bytree.match_tree_visits walk-bytree.match_tree_gives walk-visits.visits_in walk-visits.visits_in_cases walk-walk.go_to walk-walk.variables_in walk-walk.sound_variable walk-walk.sound_variables walk-walk.leaf_node walk-walk.is_word walk-walk.case_of walk-walk.switch_node walk-walk.closed_node walk-walk.same_node walk-walk.node_at walk-walk.next_at walk-walk.walk_by walk-walk.walk_from walk-walk.walk walk-walk.visits_by walk-walk.visits_from walk-walk.visits walk-walk.counts_fit walk-walk.book_fits walk-walk.no_book steps-arguments.takes steps-arguments.with_aside steps-offset.part_at steps-offset.spliced steps-rewrite.rewritten steps-rewrite.rewrite_root steps-rewrite.root_visits steps-rewrite.rewrite_root_gives steps-right.shifted steps-right.replaced steps-right.in_body steps-right.write steps-simplify.simplify_by steps-simplify.simplify steps-simplify.simplify_answer steps-simplify.simplify_words steps-simplify.simplify_steps steps-simplify.simplify_visits steps-simplify.simplify_gives steps-step.seek_rule steps-step.lowest_offset steps-step.seek_visits steps-step.search_visits steps-step.whole_within steps-step.step rosenduch-inputs.p1 rosenduch-inputs.p3 rosenduch-inputs.p6 rosenduch-inputs.p7 rosenduch-inputs.p10 rosenduch-inputs.in_loops rosenduch-inputs.first_term rosenduch-inputs.exchanged rosenduch-inputs.two_rows rosenduch-inputs.second_fits rosenduch-marked.marked rosenduch-marked.AllAsMarked rosenduch-marked.fails_in rosenduch-marked.fails_in_cases rosenduch-wrongfronts.equal_counts rosenduch-wrongfronts.first_parts rosenduch-wrongfronts.cut_to rosenduch-wrongfronts.matching_fewer rosenduch-wrongfronts.fewer_arguments rosenduch-wrongfronts.silent_rule rosenduch-wrongfronts.silent_tree rosenduch-wrongfronts.rewrites_by rosenduch-wrongfronts.with_first rosenduch-wrongfronts.one_more rosenduch-wrongfronts.one_less rosenduch-wrongfronts.two_fronts rosenduch-wrongfronts.taking rosenduch-wrongfronts.over_and_cannot rosenduch-wrongprograms.only_refuses rosenduch-wrongprograms.same_body rosenduch-wrongprograms.found_by rosenduch-wrongprograms.raw_matching rosenduch-wrongprograms.raw_words rosenduch-wrongprograms.id_listed rosenduch-wrongprograms.body_against_all rosenduch-wrongprograms.matching_against_all rosenduch-wrongprograms.closed_against_all rosenduch-wrongprograms.body_uncounted rosenduch-wrongprograms.uncounted_same rosenduch-wrongprograms.matching_uncounted rosenduch-wrongprograms.second_uncounted rosenduch-wrongprograms.only_rule0 rosenduch-wrongprograms.only_none rosenduch-wrongprograms.made_by rosenduch-wrongprograms.root_cases_by rosenduch-wrongprograms.compile_by rosenduch-wrongprograms.own_rows rosenduch-wrongprograms.own_cases rosenduch-wrongprograms.drops_row rosenduch-wrongprograms.all_variable rosenduch-wrongprograms.passes_earlier_row rosenduch-wrongprograms.hands_back rosenduch-wrongprograms.one_step rosenduch-wrongprograms.invents_count rosenduch-wrongvisits.match_without_last rosenduch-wrongvisits.count_by rosenduch-wrongvisits.counts_by rosenduch-wrongvisits.without_last_search
matches_computed = (refl, refl, refl, refl, refl, refl, refl, refl, refl, refl, refl)

-- ---- matching by the tree
pub trees_computed :
    ((match_tree_gives (tree_words book_a) p3 1).rule ≡ 1)
    × ((match_tree_gives (tree_words book_a) p1 1).said.number ≡ 0)
unfolding term-check.may_stand term-check.settle term-check.scan term-check.check term-checked.check_term_gives term_part.past term_part.part_end term_part.part term_part.body_of term_part.has_body term_part.same_words term_part.same_body term_part.written term_part.padded term_part.body_answer term_part.body_words term_part.term_below term_part.write_below_gives term-renumber.position term-renumber.Listed term-renumber.listed term-renumber.good_list term-renumber.id_term term-renumber.id_body term-renumber.inside term-renumber.renumber_head term-renumber.renumber term-renumber.named_head term-renumber.named term-renumber.to_term term-renumber.closed term-renumber.to_body term-renumber.within term-renumber.id_term_within term-renumber.ids_within term-row.width term-row.words term-row.nesting term-row.ranks term-row.Formed term-row.◌⧺◌ term-row.firsts term-row.others term-row.read term_word.kind term_word.rank term_word.count term_word.ident term_word.word term_word.InTable term_word.head_with term_word.head_of book-accept.accept book-accept.check_book_gives book-book.rule_of book-book.judge book-book.check_book book-book.nth_rule book-book.rule_at book-book.sound book-book.together book-book.book_of book-marked.s book-marked.l book-marked.v book-marked.m book-marked.book_a book-marked.book_b book_rule.ids_of book_rule.left_shape book_rule.root_symbol book_rule.right_shape book_rule.counted book_rule.one_count book_rule.all_occur book_rule.no_other book_rule.good_left book_rule.good_right book_rule.good_rule fit-build.start_of fit-build.words_at fit-build.given_bodies fit-build.all_zero fit-build.good_lengths fit-build.check_bodies fit-build.largest fit-build.within_limits fit-build.limited fit-build.build_left fit-build.build_answer fit-build.build_words fit-build.build_left_gives fit-constraint.tree fit-constraint.children_of fit-constraint.under fit-constraint.tree_at fit-constraint.is_head fit-constraint.shape_fits fit-constraint.occurrences fit-constraint.closeds fit-constraint.first_of fit-constraint.sames fit-constraint.constraints fit-constraint.body_here fit-constraint.body_at fit-constraint.holds fit-constraint.all_hold fit-dedukti.free fit-dedukti.Within fit-fit.build fit-fit.found fit-fit.body_in fit-fit.all_same fit-fit.matching fit-front.root_arguments fit-front.front fit-front.aside fit-front.aside_arguments fit-front.with_arguments fit-front.matching_front fit-front.covers fit-left.left_of fit-left.wide fit-left.deep fit-left.occurs fit-left.GoodLeft fit-lowest.lowest fit-lowest.lowest_front fit-match.tree_of fit-match.left_in fit-match.body_list fit-match.length_list fit-match.match_rule fit-match.match_answer fit-match.match_aside fit-match.match_words fit-match.match_lengths fit-match.match_rule_gives tree-compile.without tree-compile.heads tree-compile.case_rows tree-compile.default_rows tree-compile.entering tree-compile.holding tree-compile.rows_without tree-compile.test_of tree-compile.variables_from tree-compile.leaf_of tree-compile.cases_of tree-compile.node_of tree-compile.step tree-compile.compile_by tree-compile.compile tree-compile.book_rows tree-find.root_count tree-find.part_of tree-find.marked_part tree-find.child_parts tree-find.inside_of tree-find.enter_part tree-find.body_for tree-find.leaf_body tree-find.total tree-layout.variable_words tree-layout.case_count tree-layout.long tree-layout.long_cases tree-layout.case_heads tree-layout.layout tree-layout.layout_cases tree-layout.tree_words tree-path.place_numbered tree-path.number_in tree-path.children_from tree-path.marked tree-path.enter tree-root.without_id tree-root.root_symbols tree-root.smallest tree-root.counts_from tree-root.heads_of tree-root.root_heads tree-root.root_case_rows tree-root.root_cases tree-root.root_tree tree-root.book_tree tree-rows.sub tree-rows.below tree-rows.subs_under tree-rows.sub_at tree-rows.head_at tree-rows.lowest_open tree-rows.is_in tree-rows.among tree-rows.same_constraint tree-rows.has tree-rows.unstruck tree-rows.constraints_left tree-rows.words_of tree-rows.words_left tree-rows.size tree-tree.counts_of compiler-compiled.has_room compiler-compiled.compile_answer compiler-compiled.compile_words compiler-compiled.compile_length compiler-compiled.compile_gives walk-bytree.match_tree walk-bytree.match_tree_rule walk-bytree.match_tree_visits walk-bytree.match_tree_gives walk-visits.visits_in walk-visits.visits_in_cases walk-walk.go_to walk-walk.variables_in walk-walk.sound_variable walk-walk.sound_variables walk-walk.leaf_node walk-walk.is_word walk-walk.case_of walk-walk.switch_node walk-walk.closed_node walk-walk.same_node walk-walk.node_at walk-walk.next_at walk-walk.walk_by walk-walk.walk_from walk-walk.walk walk-walk.visits_by walk-walk.visits_from walk-walk.visits walk-walk.counts_fit walk-walk.book_fits walk-walk.no_book steps-arguments.takes steps-arguments.with_aside steps-offset.part_at steps-offset.spliced steps-rewrite.rewritten steps-rewrite.rewrite_root steps-rewrite.root_visits steps-rewrite.rewrite_root_gives steps-right.shifted steps-right.replaced steps-right.in_body steps-right.write steps-simplify.simplify_by steps-simplify.simplify steps-simplify.simplify_answer steps-simplify.simplify_words steps-simplify.simplify_steps steps-simplify.simplify_visits steps-simplify.simplify_gives steps-step.seek_rule steps-step.lowest_offset steps-step.seek_visits steps-step.search_visits steps-step.whole_within steps-step.step rosenduch-inputs.p1 rosenduch-inputs.p3 rosenduch-inputs.p6 rosenduch-inputs.p7 rosenduch-inputs.p10 rosenduch-inputs.in_loops rosenduch-inputs.first_term rosenduch-inputs.exchanged rosenduch-inputs.two_rows rosenduch-inputs.second_fits rosenduch-marked.marked rosenduch-marked.AllAsMarked rosenduch-marked.fails_in rosenduch-marked.fails_in_cases rosenduch-wrongfronts.equal_counts rosenduch-wrongfronts.first_parts rosenduch-wrongfronts.cut_to rosenduch-wrongfronts.matching_fewer rosenduch-wrongfronts.fewer_arguments rosenduch-wrongfronts.silent_rule rosenduch-wrongfronts.silent_tree rosenduch-wrongfronts.rewrites_by rosenduch-wrongfronts.with_first rosenduch-wrongfronts.one_more rosenduch-wrongfronts.one_less rosenduch-wrongfronts.two_fronts rosenduch-wrongfronts.taking rosenduch-wrongfronts.over_and_cannot rosenduch-wrongprograms.only_refuses rosenduch-wrongprograms.same_body rosenduch-wrongprograms.found_by rosenduch-wrongprograms.raw_matching rosenduch-wrongprograms.raw_words rosenduch-wrongprograms.id_listed rosenduch-wrongprograms.body_against_all rosenduch-wrongprograms.matching_against_all rosenduch-wrongprograms.closed_against_all rosenduch-wrongprograms.body_uncounted rosenduch-wrongprograms.uncounted_same rosenduch-wrongprograms.matching_uncounted rosenduch-wrongprograms.second_uncounted rosenduch-wrongprograms.only_rule0 rosenduch-wrongprograms.only_none rosenduch-wrongprograms.made_by rosenduch-wrongprograms.root_cases_by rosenduch-wrongprograms.compile_by rosenduch-wrongprograms.own_rows rosenduch-wrongprograms.own_cases rosenduch-wrongprograms.drops_row rosenduch-wrongprograms.all_variable rosenduch-wrongprograms.passes_earlier_row rosenduch-wrongprograms.hands_back rosenduch-wrongprograms.one_step rosenduch-wrongprograms.invents_count rosenduch-wrongvisits.match_without_last rosenduch-wrongvisits.count_by rosenduch-wrongvisits.counts_by rosenduch-wrongvisits.without_last_search
trees_computed = (refl, refl)

-- ---- simplifying: the term itself, the run, one step of it
pub runs_computed :
    (get_or (padded 6 first_term) 0 0 ≡ 131074)
    × (get_or (simplify_gives book_a (tree_words book_a) first_term 1000 6).out 0 0 ≡ 7)
    × (get_or (simplify_gives book_a (tree_words book_a) first_term 1 6).out 0 0 ≡ 131074)
    × ((simplify_gives book_a (tree_words book_a) first_term 1000 6).steps ≡ 2)
unfolding term-check.may_stand term-check.settle term-check.scan term-check.check term-checked.check_term_gives term_part.past term_part.part_end term_part.part term_part.body_of term_part.has_body term_part.same_words term_part.same_body term_part.written term_part.padded term_part.body_answer term_part.body_words term_part.term_below term_part.write_below_gives term-renumber.position term-renumber.Listed term-renumber.listed term-renumber.good_list term-renumber.id_term term-renumber.id_body term-renumber.inside term-renumber.renumber_head term-renumber.renumber term-renumber.named_head term-renumber.named term-renumber.to_term term-renumber.closed term-renumber.to_body term-renumber.within term-renumber.id_term_within term-renumber.ids_within term-row.width term-row.words term-row.nesting term-row.ranks term-row.Formed term-row.◌⧺◌ term-row.firsts term-row.others term-row.read term_word.kind term_word.rank term_word.count term_word.ident term_word.word term_word.InTable term_word.head_with term_word.head_of book-accept.accept book-accept.check_book_gives book-book.rule_of book-book.judge book-book.check_book book-book.nth_rule book-book.rule_at book-book.sound book-book.together book-book.book_of book-marked.s book-marked.l book-marked.v book-marked.m book-marked.book_a book-marked.book_b book_rule.ids_of book_rule.left_shape book_rule.root_symbol book_rule.right_shape book_rule.counted book_rule.one_count book_rule.all_occur book_rule.no_other book_rule.good_left book_rule.good_right book_rule.good_rule fit-build.start_of fit-build.words_at fit-build.given_bodies fit-build.all_zero fit-build.good_lengths fit-build.check_bodies fit-build.largest fit-build.within_limits fit-build.limited fit-build.build_left fit-build.build_answer fit-build.build_words fit-build.build_left_gives fit-constraint.tree fit-constraint.children_of fit-constraint.under fit-constraint.tree_at fit-constraint.is_head fit-constraint.shape_fits fit-constraint.occurrences fit-constraint.closeds fit-constraint.first_of fit-constraint.sames fit-constraint.constraints fit-constraint.body_here fit-constraint.body_at fit-constraint.holds fit-constraint.all_hold fit-dedukti.free fit-dedukti.Within fit-fit.build fit-fit.found fit-fit.body_in fit-fit.all_same fit-fit.matching fit-front.root_arguments fit-front.front fit-front.aside fit-front.aside_arguments fit-front.with_arguments fit-front.matching_front fit-front.covers fit-left.left_of fit-left.wide fit-left.deep fit-left.occurs fit-left.GoodLeft fit-lowest.lowest fit-lowest.lowest_front fit-match.tree_of fit-match.left_in fit-match.body_list fit-match.length_list fit-match.match_rule fit-match.match_answer fit-match.match_aside fit-match.match_words fit-match.match_lengths fit-match.match_rule_gives tree-compile.without tree-compile.heads tree-compile.case_rows tree-compile.default_rows tree-compile.entering tree-compile.holding tree-compile.rows_without tree-compile.test_of tree-compile.variables_from tree-compile.leaf_of tree-compile.cases_of tree-compile.node_of tree-compile.step tree-compile.compile_by tree-compile.compile tree-compile.book_rows tree-find.root_count tree-find.part_of tree-find.marked_part tree-find.child_parts tree-find.inside_of tree-find.enter_part tree-find.body_for tree-find.leaf_body tree-find.total tree-layout.variable_words tree-layout.case_count tree-layout.long tree-layout.long_cases tree-layout.case_heads tree-layout.layout tree-layout.layout_cases tree-layout.tree_words tree-path.place_numbered tree-path.number_in tree-path.children_from tree-path.marked tree-path.enter tree-root.without_id tree-root.root_symbols tree-root.smallest tree-root.counts_from tree-root.heads_of tree-root.root_heads tree-root.root_case_rows tree-root.root_cases tree-root.root_tree tree-root.book_tree tree-rows.sub tree-rows.below tree-rows.subs_under tree-rows.sub_at tree-rows.head_at tree-rows.lowest_open tree-rows.is_in tree-rows.among tree-rows.same_constraint tree-rows.has tree-rows.unstruck tree-rows.constraints_left tree-rows.words_of tree-rows.words_left tree-rows.size tree-tree.counts_of compiler-compiled.has_room compiler-compiled.compile_answer compiler-compiled.compile_words compiler-compiled.compile_length compiler-compiled.compile_gives walk-bytree.match_tree walk-bytree.match_tree_rule walk-bytree.match_tree_visits walk-bytree.match_tree_gives walk-visits.visits_in walk-visits.visits_in_cases walk-walk.go_to walk-walk.variables_in walk-walk.sound_variable walk-walk.sound_variables walk-walk.leaf_node walk-walk.is_word walk-walk.case_of walk-walk.switch_node walk-walk.closed_node walk-walk.same_node walk-walk.node_at walk-walk.next_at walk-walk.walk_by walk-walk.walk_from walk-walk.walk walk-walk.visits_by walk-walk.visits_from walk-walk.visits walk-walk.counts_fit walk-walk.book_fits walk-walk.no_book steps-arguments.takes steps-arguments.with_aside steps-offset.part_at steps-offset.spliced steps-rewrite.rewritten steps-rewrite.rewrite_root steps-rewrite.root_visits steps-rewrite.rewrite_root_gives steps-right.shifted steps-right.replaced steps-right.in_body steps-right.write steps-simplify.simplify_by steps-simplify.simplify steps-simplify.simplify_answer steps-simplify.simplify_words steps-simplify.simplify_steps steps-simplify.simplify_visits steps-simplify.simplify_gives steps-step.seek_rule steps-step.lowest_offset steps-step.seek_visits steps-step.search_visits steps-step.whole_within steps-step.step rosenduch-inputs.p1 rosenduch-inputs.p3 rosenduch-inputs.p6 rosenduch-inputs.p7 rosenduch-inputs.p10 rosenduch-inputs.in_loops rosenduch-inputs.first_term rosenduch-inputs.exchanged rosenduch-inputs.two_rows rosenduch-inputs.second_fits rosenduch-marked.marked rosenduch-marked.AllAsMarked rosenduch-marked.fails_in rosenduch-marked.fails_in_cases rosenduch-wrongfronts.equal_counts rosenduch-wrongfronts.first_parts rosenduch-wrongfronts.cut_to rosenduch-wrongfronts.matching_fewer rosenduch-wrongfronts.fewer_arguments rosenduch-wrongfronts.silent_rule rosenduch-wrongfronts.silent_tree rosenduch-wrongfronts.rewrites_by rosenduch-wrongfronts.with_first rosenduch-wrongfronts.one_more rosenduch-wrongfronts.one_less rosenduch-wrongfronts.two_fronts rosenduch-wrongfronts.taking rosenduch-wrongfronts.over_and_cannot rosenduch-wrongprograms.only_refuses rosenduch-wrongprograms.same_body rosenduch-wrongprograms.found_by rosenduch-wrongprograms.raw_matching rosenduch-wrongprograms.raw_words rosenduch-wrongprograms.id_listed rosenduch-wrongprograms.body_against_all rosenduch-wrongprograms.matching_against_all rosenduch-wrongprograms.closed_against_all rosenduch-wrongprograms.body_uncounted rosenduch-wrongprograms.uncounted_same rosenduch-wrongprograms.matching_uncounted rosenduch-wrongprograms.second_uncounted rosenduch-wrongprograms.only_rule0 rosenduch-wrongprograms.only_none rosenduch-wrongprograms.made_by rosenduch-wrongprograms.root_cases_by rosenduch-wrongprograms.compile_by rosenduch-wrongprograms.own_rows rosenduch-wrongprograms.own_cases rosenduch-wrongprograms.drops_row rosenduch-wrongprograms.all_variable rosenduch-wrongprograms.passes_earlier_row rosenduch-wrongprograms.hands_back rosenduch-wrongprograms.one_step rosenduch-wrongprograms.invents_count rosenduch-wrongvisits.match_without_last rosenduch-wrongvisits.count_by rosenduch-wrongvisits.counts_by rosenduch-wrongvisits.without_last_search
runs_computed = (refl, refl, refl, refl)

-- ---- compiling, and matching by what was compiled
pub compilers_computed :
    ((match_tree_gives (drops_row two_rows 1024).out second_fits 2).said.number ≡ 1)
    × ((match_tree_gives (compile_gives two_rows 1024).out second_fits 2).said.number ≡ 0)
    × ((match_tree_gives (passes_earlier_row exchanged 1024).out p6 2).rule ≡ 2)
    × ((match_tree_gives (compile_gives exchanged 1024).out p6 2).rule ≡ 1)
unfolding term-check.may_stand term-check.settle term-check.scan term-check.check term-checked.check_term_gives term_part.past term_part.part_end term_part.part term_part.body_of term_part.has_body term_part.same_words term_part.same_body term_part.written term_part.padded term_part.body_answer term_part.body_words term_part.term_below term_part.write_below_gives term-renumber.position term-renumber.Listed term-renumber.listed term-renumber.good_list term-renumber.id_term term-renumber.id_body term-renumber.inside term-renumber.renumber_head term-renumber.renumber term-renumber.named_head term-renumber.named term-renumber.to_term term-renumber.closed term-renumber.to_body term-renumber.within term-renumber.id_term_within term-renumber.ids_within term-row.width term-row.words term-row.nesting term-row.ranks term-row.Formed term-row.◌⧺◌ term-row.firsts term-row.others term-row.read term_word.kind term_word.rank term_word.count term_word.ident term_word.word term_word.InTable term_word.head_with term_word.head_of book-accept.accept book-accept.check_book_gives book-book.rule_of book-book.judge book-book.check_book book-book.nth_rule book-book.rule_at book-book.sound book-book.together book-book.book_of book-marked.s book-marked.l book-marked.v book-marked.m book-marked.book_a book-marked.book_b book_rule.ids_of book_rule.left_shape book_rule.root_symbol book_rule.right_shape book_rule.counted book_rule.one_count book_rule.all_occur book_rule.no_other book_rule.good_left book_rule.good_right book_rule.good_rule fit-build.start_of fit-build.words_at fit-build.given_bodies fit-build.all_zero fit-build.good_lengths fit-build.check_bodies fit-build.largest fit-build.within_limits fit-build.limited fit-build.build_left fit-build.build_answer fit-build.build_words fit-build.build_left_gives fit-constraint.tree fit-constraint.children_of fit-constraint.under fit-constraint.tree_at fit-constraint.is_head fit-constraint.shape_fits fit-constraint.occurrences fit-constraint.closeds fit-constraint.first_of fit-constraint.sames fit-constraint.constraints fit-constraint.body_here fit-constraint.body_at fit-constraint.holds fit-constraint.all_hold fit-dedukti.free fit-dedukti.Within fit-fit.build fit-fit.found fit-fit.body_in fit-fit.all_same fit-fit.matching fit-front.root_arguments fit-front.front fit-front.aside fit-front.aside_arguments fit-front.with_arguments fit-front.matching_front fit-front.covers fit-left.left_of fit-left.wide fit-left.deep fit-left.occurs fit-left.GoodLeft fit-lowest.lowest fit-lowest.lowest_front fit-match.tree_of fit-match.left_in fit-match.body_list fit-match.length_list fit-match.match_rule fit-match.match_answer fit-match.match_aside fit-match.match_words fit-match.match_lengths fit-match.match_rule_gives tree-compile.without tree-compile.heads tree-compile.case_rows tree-compile.default_rows tree-compile.entering tree-compile.holding tree-compile.rows_without tree-compile.test_of tree-compile.variables_from tree-compile.leaf_of tree-compile.cases_of tree-compile.node_of tree-compile.step tree-compile.compile_by tree-compile.compile tree-compile.book_rows tree-find.root_count tree-find.part_of tree-find.marked_part tree-find.child_parts tree-find.inside_of tree-find.enter_part tree-find.body_for tree-find.leaf_body tree-find.total tree-layout.variable_words tree-layout.case_count tree-layout.long tree-layout.long_cases tree-layout.case_heads tree-layout.layout tree-layout.layout_cases tree-layout.tree_words tree-path.place_numbered tree-path.number_in tree-path.children_from tree-path.marked tree-path.enter tree-root.without_id tree-root.root_symbols tree-root.smallest tree-root.counts_from tree-root.heads_of tree-root.root_heads tree-root.root_case_rows tree-root.root_cases tree-root.root_tree tree-root.book_tree tree-rows.sub tree-rows.below tree-rows.subs_under tree-rows.sub_at tree-rows.head_at tree-rows.lowest_open tree-rows.is_in tree-rows.among tree-rows.same_constraint tree-rows.has tree-rows.unstruck tree-rows.constraints_left tree-rows.words_of tree-rows.words_left tree-rows.size tree-tree.counts_of compiler-compiled.has_room compiler-compiled.compile_answer compiler-compiled.compile_words compiler-compiled.compile_length compiler-compiled.compile_gives walk-bytree.match_tree walk-bytree.match_tree_rule walk-bytree.match_tree_visits walk-bytree.match_tree_gives walk-visits.visits_in walk-visits.visits_in_cases walk-walk.go_to walk-walk.variables_in walk-walk.sound_variable walk-walk.sound_variables walk-walk.leaf_node walk-walk.is_word walk-walk.case_of walk-walk.switch_node walk-walk.closed_node walk-walk.same_node walk-walk.node_at walk-walk.next_at walk-walk.walk_by walk-walk.walk_from walk-walk.walk walk-walk.visits_by walk-walk.visits_from walk-walk.visits walk-walk.counts_fit walk-walk.book_fits walk-walk.no_book steps-arguments.takes steps-arguments.with_aside steps-offset.part_at steps-offset.spliced steps-rewrite.rewritten steps-rewrite.rewrite_root steps-rewrite.root_visits steps-rewrite.rewrite_root_gives steps-right.shifted steps-right.replaced steps-right.in_body steps-right.write steps-simplify.simplify_by steps-simplify.simplify steps-simplify.simplify_answer steps-simplify.simplify_words steps-simplify.simplify_steps steps-simplify.simplify_visits steps-simplify.simplify_gives steps-step.seek_rule steps-step.lowest_offset steps-step.seek_visits steps-step.search_visits steps-step.whole_within steps-step.step rosenduch-inputs.p1 rosenduch-inputs.p3 rosenduch-inputs.p6 rosenduch-inputs.p7 rosenduch-inputs.p10 rosenduch-inputs.in_loops rosenduch-inputs.first_term rosenduch-inputs.exchanged rosenduch-inputs.two_rows rosenduch-inputs.second_fits rosenduch-marked.marked rosenduch-marked.AllAsMarked rosenduch-marked.fails_in rosenduch-marked.fails_in_cases rosenduch-wrongfronts.equal_counts rosenduch-wrongfronts.first_parts rosenduch-wrongfronts.cut_to rosenduch-wrongfronts.matching_fewer rosenduch-wrongfronts.fewer_arguments rosenduch-wrongfronts.silent_rule rosenduch-wrongfronts.silent_tree rosenduch-wrongfronts.rewrites_by rosenduch-wrongfronts.with_first rosenduch-wrongfronts.one_more rosenduch-wrongfronts.one_less rosenduch-wrongfronts.two_fronts rosenduch-wrongfronts.taking rosenduch-wrongfronts.over_and_cannot rosenduch-wrongprograms.only_refuses rosenduch-wrongprograms.same_body rosenduch-wrongprograms.found_by rosenduch-wrongprograms.raw_matching rosenduch-wrongprograms.raw_words rosenduch-wrongprograms.id_listed rosenduch-wrongprograms.body_against_all rosenduch-wrongprograms.matching_against_all rosenduch-wrongprograms.closed_against_all rosenduch-wrongprograms.body_uncounted rosenduch-wrongprograms.uncounted_same rosenduch-wrongprograms.matching_uncounted rosenduch-wrongprograms.second_uncounted rosenduch-wrongprograms.only_rule0 rosenduch-wrongprograms.only_none rosenduch-wrongprograms.made_by rosenduch-wrongprograms.root_cases_by rosenduch-wrongprograms.compile_by rosenduch-wrongprograms.own_rows rosenduch-wrongprograms.own_cases rosenduch-wrongprograms.drops_row rosenduch-wrongprograms.all_variable rosenduch-wrongprograms.passes_earlier_row rosenduch-wrongprograms.hands_back rosenduch-wrongprograms.one_step rosenduch-wrongprograms.invents_count rosenduch-wrongvisits.match_without_last rosenduch-wrongvisits.count_by rosenduch-wrongvisits.counts_by rosenduch-wrongvisits.without_last_search
compilers_computed = (refl, refl, refl, refl)

-- ---- rules for a front part of the arguments
pub fronts_computed :
    ((equal_counts book_a 0 one_more 1).said.number ≡ 1)
    × ((match_rule_gives book_a 0 one_more 1).said.number ≡ 0)
    × ((fewer_arguments book_a 0 one_less 1).said.number ≡ 0)
    × ((match_rule_gives book_a 0 one_less 1).said.number ≡ 1)
    × ((match_rule_gives book_a 0 one_more 1).aside ≡ 1)
    × ((match_tree_gives (tree_words two_fronts) taking 1).aside ≡ 1)
    × (get_or (rewrites_by put_first two_fronts (tree_words two_fronts) taking 3).out 1 0 ≡ 8)
    × (get_or (rewrite_root_gives two_fronts (tree_words two_fronts) taking 3).out 1 0 ≡ 7)
    × (get_or (rewrites_by forgotten two_fronts (tree_words two_fronts) taking 3).out 2 0 ≡ 0)
    × (get_or (rewrite_root_gives two_fronts (tree_words two_fronts) taking 3).out 2 0 ≡ 8)
    × ((rewrites_by limits_first two_fronts (tree_words two_fronts) over_and_cannot 3).said.number ≡ 15)
    × ((rewrite_root_gives two_fronts (tree_words two_fronts) over_and_cannot 3).said.number ≡ 18)
unfolding term-check.may_stand term-check.settle term-check.scan term-check.check term-checked.check_term_gives term_part.past term_part.part_end term_part.part term_part.body_of term_part.has_body term_part.same_words term_part.same_body term_part.written term_part.padded term_part.body_answer term_part.body_words term_part.term_below term_part.write_below_gives term-renumber.position term-renumber.Listed term-renumber.listed term-renumber.good_list term-renumber.id_term term-renumber.id_body term-renumber.inside term-renumber.renumber_head term-renumber.renumber term-renumber.named_head term-renumber.named term-renumber.to_term term-renumber.closed term-renumber.to_body term-renumber.within term-renumber.id_term_within term-renumber.ids_within term-row.width term-row.words term-row.nesting term-row.ranks term-row.Formed term-row.◌⧺◌ term-row.firsts term-row.others term-row.read term_word.kind term_word.rank term_word.count term_word.ident term_word.word term_word.InTable term_word.head_with term_word.head_of book-accept.accept book-accept.check_book_gives book-book.rule_of book-book.judge book-book.check_book book-book.nth_rule book-book.rule_at book-book.sound book-book.together book-book.book_of book-marked.s book-marked.l book-marked.v book-marked.m book-marked.book_a book-marked.book_b book_rule.ids_of book_rule.left_shape book_rule.root_symbol book_rule.right_shape book_rule.counted book_rule.one_count book_rule.all_occur book_rule.no_other book_rule.good_left book_rule.good_right book_rule.good_rule fit-build.start_of fit-build.words_at fit-build.given_bodies fit-build.all_zero fit-build.good_lengths fit-build.check_bodies fit-build.largest fit-build.within_limits fit-build.limited fit-build.build_left fit-build.build_answer fit-build.build_words fit-build.build_left_gives fit-constraint.tree fit-constraint.children_of fit-constraint.under fit-constraint.tree_at fit-constraint.is_head fit-constraint.shape_fits fit-constraint.occurrences fit-constraint.closeds fit-constraint.first_of fit-constraint.sames fit-constraint.constraints fit-constraint.body_here fit-constraint.body_at fit-constraint.holds fit-constraint.all_hold fit-dedukti.free fit-dedukti.Within fit-fit.build fit-fit.found fit-fit.body_in fit-fit.all_same fit-fit.matching fit-front.root_arguments fit-front.front fit-front.aside fit-front.aside_arguments fit-front.with_arguments fit-front.matching_front fit-front.covers fit-left.left_of fit-left.wide fit-left.deep fit-left.occurs fit-left.GoodLeft fit-lowest.lowest fit-lowest.lowest_front fit-match.tree_of fit-match.left_in fit-match.body_list fit-match.length_list fit-match.match_rule fit-match.match_answer fit-match.match_aside fit-match.match_words fit-match.match_lengths fit-match.match_rule_gives tree-compile.without tree-compile.heads tree-compile.case_rows tree-compile.default_rows tree-compile.entering tree-compile.holding tree-compile.rows_without tree-compile.test_of tree-compile.variables_from tree-compile.leaf_of tree-compile.cases_of tree-compile.node_of tree-compile.step tree-compile.compile_by tree-compile.compile tree-compile.book_rows tree-find.root_count tree-find.part_of tree-find.marked_part tree-find.child_parts tree-find.inside_of tree-find.enter_part tree-find.body_for tree-find.leaf_body tree-find.total tree-layout.variable_words tree-layout.case_count tree-layout.long tree-layout.long_cases tree-layout.case_heads tree-layout.layout tree-layout.layout_cases tree-layout.tree_words tree-path.place_numbered tree-path.number_in tree-path.children_from tree-path.marked tree-path.enter tree-root.without_id tree-root.root_symbols tree-root.smallest tree-root.counts_from tree-root.heads_of tree-root.root_heads tree-root.root_case_rows tree-root.root_cases tree-root.root_tree tree-root.book_tree tree-rows.sub tree-rows.below tree-rows.subs_under tree-rows.sub_at tree-rows.head_at tree-rows.lowest_open tree-rows.is_in tree-rows.among tree-rows.same_constraint tree-rows.has tree-rows.unstruck tree-rows.constraints_left tree-rows.words_of tree-rows.words_left tree-rows.size tree-tree.counts_of compiler-compiled.has_room compiler-compiled.compile_answer compiler-compiled.compile_words compiler-compiled.compile_length compiler-compiled.compile_gives walk-bytree.match_tree walk-bytree.match_tree_rule walk-bytree.match_tree_visits walk-bytree.match_tree_gives walk-visits.visits_in walk-visits.visits_in_cases walk-walk.go_to walk-walk.variables_in walk-walk.sound_variable walk-walk.sound_variables walk-walk.leaf_node walk-walk.is_word walk-walk.case_of walk-walk.switch_node walk-walk.closed_node walk-walk.same_node walk-walk.node_at walk-walk.next_at walk-walk.walk_by walk-walk.walk_from walk-walk.walk walk-walk.visits_by walk-walk.visits_from walk-walk.visits walk-walk.counts_fit walk-walk.book_fits walk-walk.no_book steps-arguments.takes steps-arguments.with_aside steps-offset.part_at steps-offset.spliced steps-rewrite.rewritten steps-rewrite.rewrite_root steps-rewrite.root_visits steps-rewrite.rewrite_root_gives steps-right.shifted steps-right.replaced steps-right.in_body steps-right.write steps-simplify.simplify_by steps-simplify.simplify steps-simplify.simplify_answer steps-simplify.simplify_words steps-simplify.simplify_steps steps-simplify.simplify_visits steps-simplify.simplify_gives steps-step.seek_rule steps-step.lowest_offset steps-step.seek_visits steps-step.search_visits steps-step.whole_within steps-step.step rosenduch-inputs.p1 rosenduch-inputs.p3 rosenduch-inputs.p6 rosenduch-inputs.p7 rosenduch-inputs.p10 rosenduch-inputs.in_loops rosenduch-inputs.first_term rosenduch-inputs.exchanged rosenduch-inputs.two_rows rosenduch-inputs.second_fits rosenduch-marked.marked rosenduch-marked.AllAsMarked rosenduch-marked.fails_in rosenduch-marked.fails_in_cases rosenduch-wrongfronts.equal_counts rosenduch-wrongfronts.first_parts rosenduch-wrongfronts.cut_to rosenduch-wrongfronts.matching_fewer rosenduch-wrongfronts.fewer_arguments rosenduch-wrongfronts.silent_rule rosenduch-wrongfronts.silent_tree rosenduch-wrongfronts.rewrites_by rosenduch-wrongfronts.with_first rosenduch-wrongfronts.one_more rosenduch-wrongfronts.one_less rosenduch-wrongfronts.two_fronts rosenduch-wrongfronts.taking rosenduch-wrongfronts.over_and_cannot rosenduch-wrongprograms.only_refuses rosenduch-wrongprograms.same_body rosenduch-wrongprograms.found_by rosenduch-wrongprograms.raw_matching rosenduch-wrongprograms.raw_words rosenduch-wrongprograms.id_listed rosenduch-wrongprograms.body_against_all rosenduch-wrongprograms.matching_against_all rosenduch-wrongprograms.closed_against_all rosenduch-wrongprograms.body_uncounted rosenduch-wrongprograms.uncounted_same rosenduch-wrongprograms.matching_uncounted rosenduch-wrongprograms.second_uncounted rosenduch-wrongprograms.only_rule0 rosenduch-wrongprograms.only_none rosenduch-wrongprograms.made_by rosenduch-wrongprograms.root_cases_by rosenduch-wrongprograms.compile_by rosenduch-wrongprograms.own_rows rosenduch-wrongprograms.own_cases rosenduch-wrongprograms.drops_row rosenduch-wrongprograms.all_variable rosenduch-wrongprograms.passes_earlier_row rosenduch-wrongprograms.hands_back rosenduch-wrongprograms.one_step rosenduch-wrongprograms.invents_count rosenduch-wrongvisits.match_without_last rosenduch-wrongvisits.count_by rosenduch-wrongvisits.counts_by rosenduch-wrongvisits.without_last_search
fronts_computed = (refl, refl, refl, refl, refl, refl, refl, refl, refl, refl, refl, refl)

-- ---- the nodes visited
pub visits_computed :
    ((match_tree_gives (tree_words book_a) p1 1).visits ≡ 3)
    × ((simplify_gives book_a (tree_words book_a) first_term 1000 6).visits ≡ 12)
    × ((counts_by without_last book_a (tree_words book_a) first_term 1000 6).visits ≡ 8)
    × ((counts_by settled_once book_a (tree_words book_a) first_term 1000 6).visits ≡ 11)
    × ((without_last_search book_a (tree_words book_a) first_term 1000 6).visits ≡ 10)
unfolding term-check.may_stand term-check.settle term-check.scan term-check.check term-checked.check_term_gives term_part.past term_part.part_end term_part.part term_part.body_of term_part.has_body term_part.same_words term_part.same_body term_part.written term_part.padded term_part.body_answer term_part.body_words term_part.term_below term_part.write_below_gives term-renumber.position term-renumber.Listed term-renumber.listed term-renumber.good_list term-renumber.id_term term-renumber.id_body term-renumber.inside term-renumber.renumber_head term-renumber.renumber term-renumber.named_head term-renumber.named term-renumber.to_term term-renumber.closed term-renumber.to_body term-renumber.within term-renumber.id_term_within term-renumber.ids_within term-row.width term-row.words term-row.nesting term-row.ranks term-row.Formed term-row.◌⧺◌ term-row.firsts term-row.others term-row.read term_word.kind term_word.rank term_word.count term_word.ident term_word.word term_word.InTable term_word.head_with term_word.head_of book-accept.accept book-accept.check_book_gives book-book.rule_of book-book.judge book-book.check_book book-book.nth_rule book-book.rule_at book-book.sound book-book.together book-book.book_of book-marked.s book-marked.l book-marked.v book-marked.m book-marked.book_a book-marked.book_b book_rule.ids_of book_rule.left_shape book_rule.root_symbol book_rule.right_shape book_rule.counted book_rule.one_count book_rule.all_occur book_rule.no_other book_rule.good_left book_rule.good_right book_rule.good_rule fit-build.start_of fit-build.words_at fit-build.given_bodies fit-build.all_zero fit-build.good_lengths fit-build.check_bodies fit-build.largest fit-build.within_limits fit-build.limited fit-build.build_left fit-build.build_answer fit-build.build_words fit-build.build_left_gives fit-constraint.tree fit-constraint.children_of fit-constraint.under fit-constraint.tree_at fit-constraint.is_head fit-constraint.shape_fits fit-constraint.occurrences fit-constraint.closeds fit-constraint.first_of fit-constraint.sames fit-constraint.constraints fit-constraint.body_here fit-constraint.body_at fit-constraint.holds fit-constraint.all_hold fit-dedukti.free fit-dedukti.Within fit-fit.build fit-fit.found fit-fit.body_in fit-fit.all_same fit-fit.matching fit-front.root_arguments fit-front.front fit-front.aside fit-front.aside_arguments fit-front.with_arguments fit-front.matching_front fit-front.covers fit-left.left_of fit-left.wide fit-left.deep fit-left.occurs fit-left.GoodLeft fit-lowest.lowest fit-lowest.lowest_front fit-match.tree_of fit-match.left_in fit-match.body_list fit-match.length_list fit-match.match_rule fit-match.match_answer fit-match.match_aside fit-match.match_words fit-match.match_lengths fit-match.match_rule_gives tree-compile.without tree-compile.heads tree-compile.case_rows tree-compile.default_rows tree-compile.entering tree-compile.holding tree-compile.rows_without tree-compile.test_of tree-compile.variables_from tree-compile.leaf_of tree-compile.cases_of tree-compile.node_of tree-compile.step tree-compile.compile_by tree-compile.compile tree-compile.book_rows tree-find.root_count tree-find.part_of tree-find.marked_part tree-find.child_parts tree-find.inside_of tree-find.enter_part tree-find.body_for tree-find.leaf_body tree-find.total tree-layout.variable_words tree-layout.case_count tree-layout.long tree-layout.long_cases tree-layout.case_heads tree-layout.layout tree-layout.layout_cases tree-layout.tree_words tree-path.place_numbered tree-path.number_in tree-path.children_from tree-path.marked tree-path.enter tree-root.without_id tree-root.root_symbols tree-root.smallest tree-root.counts_from tree-root.heads_of tree-root.root_heads tree-root.root_case_rows tree-root.root_cases tree-root.root_tree tree-root.book_tree tree-rows.sub tree-rows.below tree-rows.subs_under tree-rows.sub_at tree-rows.head_at tree-rows.lowest_open tree-rows.is_in tree-rows.among tree-rows.same_constraint tree-rows.has tree-rows.unstruck tree-rows.constraints_left tree-rows.words_of tree-rows.words_left tree-rows.size tree-tree.counts_of compiler-compiled.has_room compiler-compiled.compile_answer compiler-compiled.compile_words compiler-compiled.compile_length compiler-compiled.compile_gives walk-bytree.match_tree walk-bytree.match_tree_rule walk-bytree.match_tree_visits walk-bytree.match_tree_gives walk-visits.visits_in walk-visits.visits_in_cases walk-walk.go_to walk-walk.variables_in walk-walk.sound_variable walk-walk.sound_variables walk-walk.leaf_node walk-walk.is_word walk-walk.case_of walk-walk.switch_node walk-walk.closed_node walk-walk.same_node walk-walk.node_at walk-walk.next_at walk-walk.walk_by walk-walk.walk_from walk-walk.walk walk-walk.visits_by walk-walk.visits_from walk-walk.visits walk-walk.counts_fit walk-walk.book_fits walk-walk.no_book steps-arguments.takes steps-arguments.with_aside steps-offset.part_at steps-offset.spliced steps-rewrite.rewritten steps-rewrite.rewrite_root steps-rewrite.root_visits steps-rewrite.rewrite_root_gives steps-right.shifted steps-right.replaced steps-right.in_body steps-right.write steps-simplify.simplify_by steps-simplify.simplify steps-simplify.simplify_answer steps-simplify.simplify_words steps-simplify.simplify_steps steps-simplify.simplify_visits steps-simplify.simplify_gives steps-step.seek_rule steps-step.lowest_offset steps-step.seek_visits steps-step.search_visits steps-step.whole_within steps-step.step rosenduch-inputs.p1 rosenduch-inputs.p3 rosenduch-inputs.p6 rosenduch-inputs.p7 rosenduch-inputs.p10 rosenduch-inputs.in_loops rosenduch-inputs.first_term rosenduch-inputs.exchanged rosenduch-inputs.two_rows rosenduch-inputs.second_fits rosenduch-marked.marked rosenduch-marked.AllAsMarked rosenduch-marked.fails_in rosenduch-marked.fails_in_cases rosenduch-wrongfronts.equal_counts rosenduch-wrongfronts.first_parts rosenduch-wrongfronts.cut_to rosenduch-wrongfronts.matching_fewer rosenduch-wrongfronts.fewer_arguments rosenduch-wrongfronts.silent_rule rosenduch-wrongfronts.silent_tree rosenduch-wrongfronts.rewrites_by rosenduch-wrongfronts.with_first rosenduch-wrongfronts.one_more rosenduch-wrongfronts.one_less rosenduch-wrongfronts.two_fronts rosenduch-wrongfronts.taking rosenduch-wrongfronts.over_and_cannot rosenduch-wrongprograms.only_refuses rosenduch-wrongprograms.same_body rosenduch-wrongprograms.found_by rosenduch-wrongprograms.raw_matching rosenduch-wrongprograms.raw_words rosenduch-wrongprograms.id_listed rosenduch-wrongprograms.body_against_all rosenduch-wrongprograms.matching_against_all rosenduch-wrongprograms.closed_against_all rosenduch-wrongprograms.body_uncounted rosenduch-wrongprograms.uncounted_same rosenduch-wrongprograms.matching_uncounted rosenduch-wrongprograms.second_uncounted rosenduch-wrongprograms.only_rule0 rosenduch-wrongprograms.only_none rosenduch-wrongprograms.made_by rosenduch-wrongprograms.root_cases_by rosenduch-wrongprograms.compile_by rosenduch-wrongprograms.own_rows rosenduch-wrongprograms.own_cases rosenduch-wrongprograms.drops_row rosenduch-wrongprograms.all_variable rosenduch-wrongprograms.passes_earlier_row rosenduch-wrongprograms.hands_back rosenduch-wrongprograms.one_step rosenduch-wrongprograms.invents_count rosenduch-wrongvisits.match_without_last rosenduch-wrongvisits.count_by rosenduch-wrongvisits.counts_by rosenduch-wrongvisits.without_last_search
visits_computed = (refl, refl, refl, refl, refl)
