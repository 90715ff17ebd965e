-- Trees of a right side that stand in its words: the first of a row, and the child j. Each ends where its counts say, since its nodes have as many children as they count.
use mathlib.Core.Path.{◌≡◌, refl, sym, ap, ◌∙◌}
use mathlib.Core.List.{List, ◌∷◌, ◌++◌, append_assoc}
use Prim.Native.Nat.{ℕ, zero, suc, ◌+◌, ◌-◌, ◌≤◌, ◌<◌}
use native.Mathlib.Omega.{arith}
use lib.ListN.{length, drop, get_or, length-drop}
use Rattle.term.specs.Word
use Rattle.term.specs.Word.{Head, word, InTable, count_of}
use Rattle.term.specs.Row.{Row, nothing, node, width, words, Formed}
use Rattle.term.specs.Renumber.{inside}
use Rattle.term.specs.Part.{past, part_end}
use Rattle.term.proofs.Laws.{words_node, width_nothing, width_node, nesting_nothing, nesting_node, count_word_lem, past_words, part_past, part_short, inside_le}
use Rattle.fit.specs.Constraint.{tree}
use Rattle.fit.proofs.Laws.{tree_first, tree_later, further, words_tree, head_at_lem}
use Rattle.steps.specs.Told.Told.{RightHead, RightRow}
use Rattle.steps.specs.Told.RightWalk.{next_tree, child_at, RightStands}
use Rattle.steps.proofs.Children.{right_formed}

-- ---- offsets
pub next_within : (right : List ℕ) (at : ℕ) → at ≤ length right → next_tree right at ≤ length right
next_within right at h = omega (arith, h, part_short (drop at right), length-drop at right)

pub child_none : (right : List ℕ) (at : ℕ) → child_at right at 0 ≡ at
unfolding child_at
child_none right at = refl

pub child_next : (right : List ℕ) (at j : ℕ) → child_at right at (suc j) ≡ child_at right (next_tree right at) j
unfolding child_at
child_next right at j = refl

pub child_later : (right : List ℕ) (j at : ℕ) → at ≤ child_at right at j
child_later right zero at = rw (child_none right at) (omega arith)
child_later right (suc j) at = let r = child_later right j (next_tree right at) in rw (child_next right at j) (omega (arith, r))

pub child_onward : (right : List ℕ) (at j r : ℕ) → r ≡ child_at right at j → at ≤ r
child_onward right at j r e = rw e (child_later right j at)

pub next_step : (right : List ℕ) (at r : ℕ) → at ≤ length right → r ≡ next_tree right at → r ≤ length right
next_step right at r h e = rw e (next_within right at h)

pub next_later : (right : List ℕ) (at a r : ℕ) → at ≤ a → r ≡ next_tree right a → at ≤ r
next_later right at a r h e = omega (arith, h, e)

pub child_step : (right : List ℕ) (at more : ℕ) → (more ≡ 0 → ⊥) → (r : ℕ) → r ≡ next_tree right at → child_at right at more ≡ child_at right r (more - 1)
child_step right at zero z r e = absurd (z refl)
child_step right at (suc m) z r e = let p : suc m - 1 ≡ m = omega arith in child_next right at m ∙ rw (p, e)

pub child_end : (right : List ℕ) (at more : ℕ) → more ≡ 0 → child_at right at more ≡ at
child_end right at more z = rw z (child_none right at)

-- ---- a row by its first tree
pub split_words : (h : Head) (kids rest : Row) (after : List ℕ) → words (node h kids rest) ++ after ≡ words (node h kids nothing) ++ (words rest ++ after)
split_words h kids rest after = rw (words_node h kids rest, words_tree h kids) (ap (word h ∷◌) (append_assoc (words kids) (words rest) after))

begins : (at : ℕ) (ws : List ℕ) (h : Head) (kids rest : Row) (after : List ℕ) → drop at ws ≡ words (node h kids rest) ++ after → at < length ws
begins at ws h kids rest after e =
    let n : length (drop at ws) ≡ suc (length ((words kids ++ words rest) ++ after)) = ap length e ∙ rw (words_node h kids rest) in
    omega (arith, n, length-drop at ws)

pub tree_ends : (t : Row) → Formed t → width t ≡ 1 → (ws after : List ℕ) → ws ≡ words t ++ after → part_end ws ≡ length (words t)
tree_ends t f w ws after e =
    let p : past 1 (words t ++ after) ≡ length (words t) = rw w at (past_words t f after) in
    part_past ws ∙ ap (past 1) e ∙ p

module _ (vars : ℕ) (k : ℕ → ℕ) (own : ℕ) (right : List ℕ) where
  right_alone : (h : Head) (kids rest : Row) → RightRow vars k own (node h kids rest) → RightRow vars k own (node h kids nothing) × RightRow vars k own rest
  unfolding RightRow
  right_alone h kids rest r = ((r.0, r.1, r.2, r.3, tt), r.4)

  module _ (count at : ℕ) (h : Head) (kids rest : Row) (after : List ℕ) (s : RightStands vars k own count right at (node h kids rest) after) where
    first_alone : RightStands vars k own 1 right at (node h kids nothing) (words rest ++ after)
    first_alone =
        record {
          good = (right_alone h kids rest s.good).0;
          low = omega (arith, s.low, nesting_node h kids rest, nesting_node h kids nothing, nesting_nothing);
          wide = width_node h kids nothing ∙ ap suc width_nothing;
          same = s.same ∙ split_words h kids rest after;
        }

    first_ends : part_end (drop at right) ≡ length (words (node h kids nothing))
    first_ends = tree_ends (node h kids nothing) (right_formed vars k own (node h kids nothing) first_alone.good) first_alone.wide (drop at right) (words rest ++ after) first_alone.same

    first_beside : RightStands vars k own (count - 1) right (next_tree right at) rest after
    first_beside =
        record {
          good = (right_alone h kids rest s.good).1;
          low = omega (arith, s.low, nesting_node h kids rest);
          wide = omega (arith, s.wide, width_node h kids rest);
          same =
              ap (λ (n : ℕ). drop (at + n) right) first_ends
              ∙ further at (length (words (node h kids nothing))) right (words (node h kids nothing)) (words rest ++ after) first_alone.same refl;
        }

  pub record RightFirst (count at : ℕ) (p : Row) (after : List ℕ) : Type 0 where
    pub head : Head
    pub children : Row
    pub rest : Row
    pub is : p ≡ node head children rest
    pub alone : RightStands vars k own 1 right at (node head children nothing) (words rest ++ after)
    pub beside : RightStands vars k own (count - 1) right (next_tree right at) rest after
    pub within : at < length right
    pub shallow : own < 16

  pub right_first : (count at : ℕ) → (count ≡ 0 → ⊥) → (p : Row) (after : List ℕ) → RightStands vars k own count right at p after → RightFirst count at p after
  right_first count at z nothing after s = absurd (z (sym s.wide ∙ width_nothing))
  right_first count at z (node h kids rest) after s =
      record {
        head = h;
        children = kids;
        rest = rest;
        is = refl;
        alone = first_alone count at h kids rest after s;
        beside = first_beside count at h kids rest after s;
        within = begins at right h kids rest after s.same;
        shallow = omega (arith, s.low, nesting_node h kids rest);
      }

  -- ---- one tree: its head, and its children behind it
  pub record OneTree (at : ℕ) (p : Row) (after : List ℕ) : Type 0 where
    pub head : Head
    pub kids : Row
    pub is : p ≡ node head kids nothing
    pub table : InTable head
    pub full : width kids ≡ Word.count head
    pub here : RightHead vars k own head
    pub word_is : word head ≡ get_or right at 0
    pub below : RightStands vars k (inside head own) (count_of (get_or right at 0)) right (at + 1) kids after

  one_node : (at : ℕ) (h : Head) (kids : Row) (after : List ℕ) → RightStands vars k own 1 right at (node h kids nothing) after → OneTree at (node h kids nothing) after
  unfolding RightRow
  one_node at h kids after s =
      let a = head_at_lem at right h kids after (begins at right h kids nothing after s.same) s.same in
      let g = s.good in
      record {
        head = h;
        kids = kids;
        is = refl;
        table = g.0;
        full = g.1;
        here = g.2;
        word_is = a.0;
        below = record {
          good = g.3;
          low = omega (arith, s.low, inside_le h own, nesting_node h kids nothing);
          wide = g.1 ∙ sym (count_word_lem h g.0) ∙ ap count_of a.0;
          same = a.1;
        };
      }

  pub one_tree : (at : ℕ) (p : Row) (after : List ℕ) → RightStands vars k own 1 right at p after → OneTree at p after
  one_tree at nothing after s = absurd (omega (arith, s.wide, width_nothing))
  one_tree at (node h kids nothing) after s = one_node at h kids after s
  one_tree at (node h kids (node g ks rest)) after s = absurd (omega (arith, s.wide, width_node h kids (node g ks rest), width_node g ks rest))

  -- ---- the child j
  pub child_stands_at : (j count at : ℕ) (kids : Row) (after : List ℕ) → RightStands vars k own count right at kids after → j < width kids
      → (behind : List ℕ) × RightStands vars k own 1 right (child_at right at j) (tree kids j) behind
  child_stands_at j count at nothing after s l = absurd (omega (arith, l, width_nothing))
  child_stands_at zero count at (node h ks rest) after s l =
      (words rest ++ after, rw (tree_first h ks rest, child_none right at) (first_alone count at h ks rest after s))
  child_stands_at (suc j) count at (node h ks rest) after s l =
      let r = child_stands_at j (count - 1) (next_tree right at) rest after (first_beside count at h ks rest after s) (omega (arith, l, width_node h ks rest)) in
      (r.0, rw (tree_later h ks rest j, child_next right at j) r.1)
