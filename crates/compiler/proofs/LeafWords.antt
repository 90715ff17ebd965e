-- Where only pattern variables are open each occurrence has a number: so the words that the tables give for a row are those of its Leaf.
use mathlib.Core.Path.{◌≡◌, refl, sym, ap, ap₂, ◌∙◌}
use mathlib.Core.Bool.{true}
use mathlib.Core.List.{List, [], ◌∷◌, ◌++◌}
use mathlib.Core.Option.{Option, none, some}
use Prim.Native.Nat.{ℕ, zero, suc, ◌+◌, ◌-◌, ◌*◌, ◌≤◌, ◌<◌}
use native.Mathlib.Omega.{arith}
use lib.ListN.{length}
use Rattle.book.specs.Book.{Rule, rule_at}
use Rattle.fit.specs.Constraint.{Occurrence, occurrences, first_of}
use Rattle.fit.specs.Front.{root_arguments}
use Rattle.fit.specs.Match.{left_in}
use Rattle.fit.proofs.Laws.{accepted_good, GoodRule, IsThere, occurs_first, Each, first_each}
use Rattle.tree.specs.Path.{Uncovered, OnPath, number_in}
use Rattle.tree.specs.Told.Covered.{Within}
use Rattle.tree.specs.Rows.{subs_under, lowest_open}
use Rattle.tree.specs.Tree.{LeafVariable}
use Rattle.tree.specs.Compile.{variable_at, variables_from, leaf_node_of, leaf_of}
use Rattle.tree.specs.Layout.{variable_words, layout}
use Rattle.compiler.specs.Told.Tables.{is_free, root_has, size_at, occurrence_words, variable_spot, leaf_from, leaf_words}
use Rattle.compiler.specs.Told.Stands.{RowStands, Stands}
use Rattle.tree.proofs.Laws.{variables_none, variables_more, from_none, from_more, leaf_of_lem, many_variables, leaf_laid, from_start, subs_root, all_within}
use Rattle.compiler.proofs.RowsLeft.{row_of_rule}
use Rattle.compiler.proofs.RootSymbols.{root_symbol_lem}
use Rattle.compiler.proofs.SpotOccurrences.{row_spot, row_variable_spot}
use Rattle.compiler.proofs.SpotWords.{spot_words}

-- ---- the variables of a Leaf
-- a variable occurs, and its first spot has the words of its first occurrence
record VariableIs (fixed nums : List ℕ) (us : List Uncovered) (os : List Occurrence) (r x : ℕ) : Type 0 where
  first : Occurrence
  is : first_of x os ≡ some first
  words : occurrence_words fixed nums (variable_spot fixed r x) ≡ number_in first.place us ∷ length first.list ∷ first.list

variable_words_lem : (us : List Uncovered) (o : Occurrence) (q : Option Occurrence) → q ≡ some o → (vs : List LeafVariable)
    → variable_words (variable_at us q ∷ vs) ≡ (number_in o.place us ∷ length o.list ∷ o.list) ++ variable_words vs
variable_words_lem us o q e vs = rw e (variables_more (variable_at us (some o)) vs)

leaf_variables : (fixed nums : List ℕ) (us : List Uncovered) (os : List Occurrence) (r vars : ℕ) → ((x : ℕ) → x < vars → VariableIs fixed nums us os r x)
    → (more x : ℕ) → x + more ≤ vars → leaf_from fixed nums r x more ≡ variable_words (variables_from us os x more)
unfolding leaf_from
leaf_variables fixed nums us os r vars f zero x l = sym (ap variable_words (from_none us os x) ∙ variables_none)
leaf_variables fixed nums us os r vars f (suc more) x l =
    let v = f x (omega arith) in
    ap₂ ◌++◌ v.words (leaf_variables fixed nums us os r vars f more (suc x) (omega arith)) ∙ sym (ap variable_words (from_more us os x more) ∙ variable_words_lem us v.first (first_of x os) v.is (variables_from us os (suc x) more))

-- ---- THE LAW of leaves
module _ (book fixed nums marks : List ℕ) (count : ℕ) (path : OnPath) (s : Stands book fixed nums marks count path)
    (r : ℕ) (rule : Rule) (low : r < 64) (free : is_free marks r ≡ true) (is : rule_at book r ≡ some rule) (covered : lowest_open (left_in rule) path.uncovered ≡ none) where
  abbrev us : List Uncovered
  us = path.uncovered

  abbrev os : List Occurrence
  os = occurrences [] 0 0 (left_in rule)

  row : RowStands fixed nums marks path r rule.vars (left_in rule)
  row = s.rows r rule low free is

  good : GoodRule rule.vars (left_in rule)
  good = accepted_good book s.accepted r rule is

  within : Each (λ o. Within o.place us) os
  within = all_within (left_in rule) us covered [] 0 0 (left_in rule) (from_start (subs_under (left_in rule) []) ∙ subs_root (left_in rule)) row.covered

  variable_is : (x : ℕ) → x < rule.vars → VariableIs fixed nums us os r x
  variable_is x h = go (first_of x os) refl (occurs_first x [] 0 0 (left_in rule) (good.all x h))
    where
      go : (q : Option Occurrence) → first_of x os ≡ q → IsThere q → VariableIs fixed nums us os r x
      go none e t = absurd t
      go (some o) e t =
          record {
            first = o;
            is = e;
            words = spot_words fixed nums us (r * 64) (r * 64 + 64) (variable_spot fixed r x) o
                (row_spot book fixed nums marks count path s r rule low free is (variable_spot fixed r x) o (row_variable_spot book fixed nums marks count path s r rule low free is x o e))
                (first_each (λ q. Within q.place us) x os o within e);
          }

  -- the row's own arguments are those that its root word counts
  root_own : size_at fixed (r * 64) ≡ root_arguments (left_in rule)
  root_own =
      let t = root_symbol_lem book fixed nums marks count path s r rule low free is in
      t.counts ∙ sym t.arguments_are

  leaf_words_lem : (at : ℕ) → layout at (leaf_of us (row_of_rule marks r rule)) ≡ 1 ∷ r ∷ rule.vars ∷ (root_has marks - root_arguments (left_in rule)) ∷ variable_words (variables_from us os 0 rule.vars)
  leaf_words_lem at =
      ap (layout at) (leaf_of_lem us (row_of_rule marks r rule)) ∙ leaf_laid at (leaf_node_of us (row_of_rule marks r rule))
      ∙ ap (λ (n : ℕ). 1 ∷ r ∷ n ∷ (root_has marks - root_arguments (left_in rule)) ∷ variable_words (variables_from us os 0 rule.vars)) (many_variables us os rule.vars 0)

  pub leaf_is : (at : ℕ) → leaf_words fixed nums marks r ≡ layout at (leaf_of us (row_of_rule marks r rule))
  unfolding leaf_words
  leaf_is at =
      rw (row.variables, root_own)
      (ap (λ (ws : List ℕ). 1 ∷ r ∷ rule.vars ∷ (root_has marks - root_arguments (left_in rule)) ∷ ws) (leaf_variables fixed nums us os r rule.vars variable_is rule.vars 0 (omega arith)) ∙ sym (leaf_words_lem at))
