-- The child j of a pattern variable in the words of a right side: it begins after the j−1 children before it, and is a row of a right side itself.
use mathlib.Core.Path.{◌≡◌, sym, ap, ◌∙◌}
use mathlib.Core.List.{List, ◌++◌, append_assoc}
use Prim.Native.Nat.{ℕ, zero, suc, ◌<◌}
use native.Mathlib.Omega.{arith}
use lib.ListN.{length, drop}
use lib.Seq.{drop-append_seam}
use Rattle.term.specs.Row.{Row, nothing, node, width, words, Formed, ◌⧺◌}
use Rattle.term.specs.Renumber.{inside}
use Rattle.term.specs.Part.{past}
use Rattle.term.proofs.Laws.{width_nothing, width_node, words_join, join_nothing_left, join_node, formed_nothing, node_formed, past_words}
use Rattle.fit.specs.Constraint.{tree}
use Rattle.fit.proofs.Laws.{tree_nothing, tree_first, tree_later}
use Rattle.steps.specs.Told.Told.{RightRow}
use Rattle.steps.proofs.Replaced.{tree_before}

module _ (vars : ℕ) (k : ℕ → ℕ) where
  pub right_formed : (d : ℕ) (p : Row) → RightRow vars k d p → Formed p
  unfolding RightRow
  right_formed d nothing r = formed_nothing
  right_formed d (node h kids rest) r =
      node_formed h kids rest (record { table = r.0; full = r.1; below = right_formed (inside h d) kids r.3; beside = right_formed d rest r.4 })

  pub right_tree : (d : ℕ) (p : Row) → RightRow vars k d p → (j : ℕ) → RightRow vars k d (tree p j)
  unfolding RightRow
  right_tree d nothing r j = rw (tree_nothing j) tt
  right_tree d (node h kids rest) r zero = rw (tree_first h kids rest) (r.0, r.1, r.2, r.3, tt)
  right_tree d (node h kids rest) r (suc j) = rw (tree_later h kids rest j) (right_tree d rest r.4 j)

  -- the children before it, and those after it
  pub record ChildAt (d : ℕ) (kids : Row) (j : ℕ) : Type 0 where
    pub front : Row
    pub back : Row
    pub is : kids ≡ front ⧺ (tree kids j ⧺ back)
    pub wide : width front ≡ j
    pub row : RightRow vars k d front

  pub child_at_lem : (d : ℕ) (kids : Row) → RightRow vars k d kids → (j : ℕ) → j < width kids → ChildAt d kids j
  unfolding RightRow
  child_at_lem d nothing r j l = absurd (omega (arith, width_nothing))
  child_at_lem d (node h ks rest) r zero l =
      record {
        front = nothing;
        back = rest;
        is = sym (join_nothing_left (tree (node h ks rest) 0 ⧺ rest) ∙ ap (λ (t : Row). t ⧺ rest) (tree_first h ks rest) ∙ tree_before h ks rest);
        wide = width_nothing;
        row = tt;
      }
  child_at_lem d (node h ks rest) r (suc j) l =
      let c = child_at_lem d rest r.4 j (omega (arith, width_node h ks rest)) in
      record {
        front = node h ks c.front;
        back = c.back;
        is =
            ap (node h ks) c.is ∙ ap (λ (t : Row). node h ks (c.front ⧺ (t ⧺ c.back))) (sym (tree_later h ks rest j))
            ∙ sym (join_node h ks c.front (tree (node h ks rest) (suc j) ⧺ c.back));
        wide = width_node h ks c.front ∙ ap suc c.wide;
        row = (r.0, r.1, r.2, r.3, c.row);
      }

  -- in words: past j trees the child stands
  module _ (d : ℕ) (kids : Row) (r : RightRow vars k d kids) (j : ℕ) (l : j < width kids) (after : List ℕ) where
    abbrev behind : List ℕ
    behind = words (child_at_lem d kids r j l).back ++ after

    split_words : words kids ++ after ≡ words (child_at_lem d kids r j l).front ++ (words (tree kids j) ++ behind)
    split_words =
        let c = child_at_lem d kids r j l in
        ap (λ (t : Row). words t ++ after) c.is
        ∙ ap (λ (ws : List ℕ). ws ++ after) (words_join c.front (tree kids j ⧺ c.back) ∙ ap (λ (ws : List ℕ). words c.front ++ ws) (words_join (tree kids j) c.back))
        ∙ append_assoc (words c.front) (words (tree kids j) ++ words c.back) after
        ∙ ap (λ (ws : List ℕ). words c.front ++ ws) (append_assoc (words (tree kids j)) (words c.back) after)

    child_past : past j (words kids ++ after) ≡ length (words (child_at_lem d kids r j l).front)
    child_past =
        let c = child_at_lem d kids r j l in
        ap (past j) split_words ∙ ap (λ (n : ℕ). past n (words c.front ++ (words (tree kids j) ++ behind))) (sym c.wide)
        ∙ past_words c.front (right_formed d c.front c.row) (words (tree kids j) ++ behind)

    pub child_stands : drop (past j (words kids ++ after)) (words kids ++ after) ≡ words (tree kids j) ++ behind
    child_stands =
        let c = child_at_lem d kids r j l in
        ap (λ (n : ℕ). drop n (words kids ++ after)) child_past
        ∙ ap (drop (length (words c.front))) split_words
        ∙ drop-append_seam (words c.front) (words (tree kids j) ++ behind)
