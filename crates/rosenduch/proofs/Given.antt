-- What each operation gives, part by part: the laws of the crates below, each read from the record to its parts.
use mathlib.Core.Path.{◌≡◌, refl, sym}
use mathlib.Core.List.{List}
use Prim.Native.Nat.{ℕ}
use Rattle.term.specs.Answer.{answered}
use Rattle.fit.specs.Match.{match_rule, match_answer, match_aside, match_words, match_lengths, match_rule_came, match_rule_gives}
use Rattle.fit.specs.Build.{build_left, build_answer, build_words, build_left_came, build_left_gives}
use Rattle.fit.proofs.Laws.{match_came, build_came}
use Rattle.compiler.specs.Compiled.{compile_answer, compile_words, compile_length, compile_came, compile_gives}
use Rattle.compiler.proofs.Laws.{compile_came_lem}
use Rattle.walk.specs.ByTree.{match_tree, match_tree_rule, match_tree_visits, match_tree_came, match_tree_gives}
use Rattle.walk.proofs.Laws.{tree_came}
use Rattle.steps.specs.Rewrite.{rewrite_root, root_visits, rewrite_root_came, rewrite_root_gives}
use Rattle.steps.specs.Simplify.{simplify, simplify_answer, simplify_words, simplify_steps, simplify_visits, simplify_came, simplify_gives}
use Rattle.steps.proofs.Laws.{rewrite_root_came_lem, simplify_came_lem}

pub match_given : (book : List ℕ) (number : ℕ) (term : List ℕ) (room : ℕ)
    → match_rule_gives book number term room
    ≡ match_rule_came (answered (match_answer room (match_rule book number term))) (match_aside room (match_rule book number term)) (match_words room (match_rule book number term)) (match_lengths room (match_rule book number term))
match_given book number term room = sym (match_came book number term room _ _ _ _ (refl, refl, refl) refl)

pub build_given : (book : List ℕ) (number : ℕ) (bodies lengths : List ℕ) (room : ℕ)
    → build_left_gives book number bodies lengths room
    ≡ build_left_came (answered (build_answer room (build_left book number bodies lengths))) (build_words room (build_left book number bodies lengths))
build_given book number bodies lengths room = sym (build_came book number bodies lengths room _ _ (refl, refl))

pub compile_given : (book : List ℕ) (room : ℕ) → compile_gives book room ≡ compile_came (answered (compile_answer room book)) (compile_length room book) (compile_words room book)
compile_given book room = sym (compile_came_lem book room _ _ _ refl refl refl)

pub tree_given : (tree term : List ℕ) (room : ℕ)
    → match_tree_gives tree term room
    ≡ match_tree_came (answered (match_answer room (match_tree tree term))) (match_tree_rule room tree term) (match_aside room (match_tree tree term)) (match_tree_visits tree term) (match_words room (match_tree tree term)) (match_lengths room (match_tree tree term))
tree_given tree term room = sym (tree_came _ _ _ _ _ _ tree term room refl refl refl refl refl refl)

pub root_given : (book tree term : List ℕ) (room : ℕ)
    → rewrite_root_gives book tree term room
    ≡ rewrite_root_came (answered (build_answer room (rewrite_root book tree term))) (root_visits book tree term) (build_words room (rewrite_root book tree term))
root_given book tree term room = sym (rewrite_root_came_lem book tree term room _ _ _ (refl, refl) refl)

pub run_given : (book tree term : List ℕ) (budget room : ℕ)
    → simplify_gives book tree term budget room
    ≡ simplify_came (answered (simplify_answer room (simplify book tree budget term))) (simplify_steps (simplify book tree budget term)) (simplify_visits (simplify book tree budget term)) (simplify_words room (simplify book tree budget term))
run_given book tree term budget room =
    let run = simplify book tree budget term in
    sym (simplify_came_lem book tree term budget room (record { answer = simplify_answer room run; steps = simplify_steps run; visits = simplify_visits run }) (simplify_words room run) (refl, refl, refl, refl))
