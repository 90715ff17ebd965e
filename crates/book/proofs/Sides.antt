-- The sides of a rule: from what a walk tells to what is asked of a side.
use mathlib.Core.Path.{◌≡◌, refl, sym, ap, ◌∙◌}
use mathlib.Core.Bool.{Bool, true, false, ◌&&◌}
use mathlib.Core.List.{List, [], ◌++◌, append-nil}
use mathlib.Core.Option.{some}
use Prim.Native.Nat.{ℕ, suc, ◌+◌}
use native.Mathlib.Omega.{arith}
use lib.Dec.{ltb, eqb}
use lib.ListN.{length, get_or}
use borrow.Author.Tests.{lt-ltb}
use Rattle.std.specs.Prelude.{Result, Ok, Err, is_ok, Option, Some, None, is_some}
use Rattle.term.specs.Word.{Head, symbol, abstraction, variable, pattern, pick, word, InTable, kind_of}
use Rattle.term.specs.Row.{Row, nothing, node, width, words, Formed, read}
use Rattle.term.specs.Check.{IsTree, check}
use Rattle.term.proofs.Laws.{never, and_left, good_tree, read_words_lem, words_node, width_nothing, formed_node, kind_word, kind_symbol, kind_abstraction, kind_variable, kind_pattern}
use Rattle.book.specs.declared.shape.Side.{Side}
use Rattle.book.specs.declared.shape.Side.TheVariants.{Left, Right}
use Rattle.book.specs.Rule.{side_limits, root_symbol, left_shape, right_shape, shaped, no_other, all_occur, one_count, good_left, good_right}
use Rattle.book.specs.Told.Shape.{shape_of, SideTold}
use Rattle.book.proofs.Clauses.{root_symbol_lem, root_abstraction, root_variable, root_pattern}

-- what an answer says of the shape
stuck_false : (b : Bool) (a : ℕ) → None ≡ pick b (Some a) None → b ≡ false
stuck_false true a e = never (cc)
stuck_false false a e = refl

done_true : (b : Bool) (a c : ℕ) → Some c ≡ pick b (Some a) None → b ≡ true
done_true true a c e = refl
done_true false a c e = never (cc)

-- a side that is good is a tree, and is read as that tree
pub side_tree : (ws : List ℕ) → check side_limits ws ≡ Ok tt → IsTree side_limits ws
side_tree ws g = good_tree side_limits (omega arith) ws g

pub tree_read : (ws : List ℕ) (i : IsTree side_limits ws) → read 1 ws ≡ some (i.tree, [])
tree_read ws i =
    let a : ws ≡ words i.tree ++ [] = i.same ∙ sym (append-nil _) in
    rw a (rw i.one at (read_words_lem i.tree i.formed []))

module _ (side : Side) (ws : List ℕ) (g : check side_limits ws ≡ Ok tt) where
  told_shape : (r : _) → SideTold side 0 16 1 ws 0 r → r ≡ pick (shape_of side 0 (side_tree ws g).tree) (Some (0 + length (words (side_tree ws g).tree))) None
  unfolding SideTold
  told_shape r told =
      let i = side_tree ws g in
      told i.tree [] (record { formed = i.formed; low = i.low; wide = i.one; same = i.same ∙ sym (append-nil _) })

  pub side_good : (a : ℕ) → SideTold side 0 16 1 ws 0 (Some a) → true ≡ is_ok (check side_limits ws) && shaped (shape_of side 0) (read 1 ws)
  side_good a told = sym (rw (g, tree_read ws (side_tree ws g)) (done_true _ _ a (told_shape (Some a) told)))

  pub side_unshaped : SideTold side 0 16 1 ws 0 None → false ≡ is_ok (check side_limits ws) && shaped (shape_of side 0) (read 1 ws)
  side_unshaped told = sym (rw (g, tree_read ws (side_tree ws g)) (stuck_false _ _ (told_shape None told)))

  pub side_told : (r : Option ℕ) → SideTold side 0 16 1 ws 0 r → is_some r ≡ is_ok (check side_limits ws) && shaped (shape_of side 0) (read 1 ws)
  side_told None told = side_unshaped told
  side_told (Some a) told = side_good a told

pub side_no_tree : (side : Side) (ws : List ℕ) (at : ℕ) → check side_limits ws ≡ Err at → false ≡ is_ok (check side_limits ws) && shaped (shape_of side 0) (read 1 ws)
side_no_tree side ws at e = sym (rw e)

-- ---- the root
root_head_lem : (h : Head) (kids rest : Row) → InTable h → root_symbol (node h kids rest) ≡ eqb (kind_of (word h)) 0
root_head_lem (symbol i c) kids rest t = rw (kind_word (symbol i c) t, kind_symbol i c) (root_symbol_lem i c kids rest)
root_head_lem abstraction kids rest t = rw (kind_word abstraction t, kind_abstraction) (root_abstraction kids rest)
root_head_lem (variable i) kids rest t = rw (kind_word (variable i) t, kind_variable i) (root_variable i kids rest)
root_head_lem (pattern i c) kids rest t = rw (kind_word (pattern i c) t, kind_pattern i c) (root_pattern i c kids rest)

root_row : (f : Row) → Formed f → width f ≡ 1 → root_symbol f ≡ ltb 0 (length (words f)) && eqb (kind_of (get_or (words f) 0 0)) 0
root_row nothing p w = absurd (omega (arith, width_nothing))
root_row (node h kids rest) p w =
    rw (words_node h kids rest, lt-ltb 0 (suc (length (words kids ++ words rest))) (omega arith)) (root_head_lem h kids rest (formed_node h kids rest p).table)

root_tree_lem : (ws : List ℕ) → IsTree side_limits ws → shaped root_symbol (read 1 ws) ≡ ltb 0 (length ws) && eqb (kind_of (get_or ws 0 0)) 0
root_tree_lem ws i =
    rw (tree_read ws i)
    (root_row i.tree i.formed i.one ∙ ap (λ (v : List ℕ). ltb 0 (length v) && eqb (kind_of (get_or v 0 0)) 0) (sym i.same))

pub good_is : (c : Result (Unit {0}) ℕ) → is_ok c ≡ true → c ≡ Ok tt
good_is (Ok _) e = refl
good_is (Err at) e = never (cc)

pub root_is_lem : (ws : List ℕ) (s : Bool) → is_ok (check side_limits ws) && s ≡ true
    → shaped root_symbol (read 1 ws) ≡ ltb 0 (length ws) && eqb (kind_of (get_or ws 0 0)) 0
root_is_lem ws s e =
    root_tree_lem ws (side_tree ws (good_is (check side_limits ws) (and_left (is_ok (check side_limits ws)) s e)))

-- ---- a left side
swap : (g r l n : Bool) → g && (r && (l && n)) ≡ (g && l) && (r && n)
swap false r l n = refl
swap true false false n = refl
swap true false true n = refl
swap true true l n = refl

-- the root is asked only of a tree
rooted : (ws : List ℕ) (s rest : Bool) → s ≡ is_ok (check side_limits ws) && shaped (shape_of Left 0) (read 1 ws)
    → s && (shaped root_symbol (read 1 ws) && rest) ≡ s && ((ltb 0 (length ws) && eqb (kind_of (get_or ws 0 0)) 0) && rest)
rooted ws true rest e = rw (root_is_lem ws (shaped (shape_of Left 0) (read 1 ws)) (sym e))
rooted ws false rest e = refl

pub left_parts : (vars : ℕ) (ws : List ℕ) → good_left vars ws
    ≡ (is_ok (check side_limits ws) && shaped (shape_of Left 0) (read 1 ws))
    && ((ltb 0 (length ws) && eqb (kind_of (get_or ws 0 0)) 0) && (no_other vars ws && (all_occur vars ws && one_count ws ws)))
unfolding good_left shape_of
left_parts vars ws =
    swap (is_ok (check side_limits ws)) (shaped root_symbol (read 1 ws)) (shaped (left_shape 0) (read 1 ws)) (no_other vars ws && (all_occur vars ws && one_count ws ws))
    ∙ rooted ws (is_ok (check side_limits ws) && shaped (left_shape 0) (read 1 ws)) (no_other vars ws && (all_occur vars ws && one_count ws ws)) refl

-- ---- a right side, and a rule
and_assoc : (a b c : Bool) → a && (b && c) ≡ (a && b) && c
and_assoc true b c = refl
and_assoc false b c = refl

pub right_parts : (left right : List ℕ) → good_right left right
    ≡ (is_ok (check side_limits right) && shaped (shape_of Right 0) (read 1 right)) && one_count left right
unfolding good_right shape_of
right_parts left right = and_assoc (is_ok (check side_limits right)) (shaped (right_shape 0) (read 1 right)) (one_count left right)
