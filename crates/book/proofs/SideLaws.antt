-- Sides of rules in words: the list of a pattern variable, and what is told of a row by its first tree and the rest.
use mathlib.Core.Path.{◌≡◌, refl, sym, ap, ◌∙◌}
use mathlib.Core.Bool.{Bool, true, false, ◌&&◌}
use mathlib.Core.List.{List, ◌∷◌, ◌++◌, append_assoc, append-nil}
use mathlib.Core.Option.{Option, none, some}
use Prim.Native.Nat.{ℕ, suc, ◌+◌, ◌-◌, ◌≤◌, ◌<◌}
use native.Mathlib.Omega.{arith}
use native.Mathlib.Numerals.{add-one}
use lib.Dec.{leb, eqb}
use lib.ListN.{length, drop, get_or, length-append, length-drop}
use lib.Seq.{drop-cons, drop-drop, drop_at}
use borrow.Author.Tests.{le-leb}
use Rattle.std.specs.Prelude.{Option as StdOption, Some, None}
use Rattle.term.specs.Word
use Rattle.term.specs.Word.{Head, symbol, abstraction, variable, pattern, pick, kind, kind_of, count_of, ident_of, word, InTable, head_of}
use Rattle.term.specs.Row.{Row, nothing, node, width, words, Formed}
use Rattle.term.specs.Renumber.{inside}
use Rattle.term.specs.Told.Walk.{inside_word}
use Rattle.term.proofs.Laws.{never, words_node, words_nothing, width_node, width_nothing, nesting_node, nesting_nothing, FormedNode, formed_node, node_formed, formed_nothing, count_word_lem, kind_word, ident_word, head_word_lem, inside_is, kind_symbol, kind_abstraction, kind_variable, kind_pattern, count_variable, count_pattern, ident_variable, inside_symbol, inside_abstraction, inside_pattern, pattern_few}
use Rattle.book.specs.declared.shape.Side.{Side}
use Rattle.book.specs.declared.shape.Side.TheVariants.{Left, Right}
use Rattle.book.specs.declared.shape.Front.{Front}
use Rattle.book.specs.declared.shape.Front.TheVariants.{Past, Inside}
use Rattle.book.specs.Rule.{id_before, ids_of, list_for, left_shape, right_shape}
use Rattle.book.specs.Told.Ids.{variable_ids, list_in}
use Rattle.book.specs.Told.Shape.{shape_of, front_of, SideStands, SideTold}

-- ---- the list in words is the list in the row
none_width : (f : Row) → width f ≡ 0 → f ≡ nothing
none_width nothing e = refl
none_width (node h kids rest) e = absurd (omega (arith, width_node h kids rest, e))

id_step : (h : Head) (kids rest : Row) (after : List ℕ) → Formed (node h kids rest) → variable_ids (width rest) (words rest ++ after) ≡ ids_of rest
    → id_before h (variable_ids (width rest) ((words kids ++ words rest) ++ after)) ≡ id_before h (ids_of rest)
id_step (symbol i c) kids rest after f e = refl
id_step abstraction kids rest after f e = refl
id_step (variable i) kids rest after f e =
    let k : kids ≡ nothing = none_width kids ((formed_node (variable i) kids rest f).full ∙ count_variable i) in
    rw (k, words_nothing, e)
id_step (pattern i c) kids rest after f e = refl

pub ids_row : (f : Row) (after : List ℕ) → Formed f → variable_ids (width f) (words f ++ after) ≡ ids_of f
unfolding variable_ids ids_of
ids_row nothing after p = rw width_nothing
ids_row (node h kids rest) after p =
    let n = formed_node h kids rest p in
    rw (width_node h kids rest, words_node h kids rest, head_word_lem h n.table) (id_step h kids rest after p (ids_row rest after n.beside))

-- a row of variables has a word for each
length_step : (h : Head) (kids rest : Row) (ys : List ℕ) (o : Option (List ℕ)) → Formed (node h kids rest) → ((zs : List ℕ) → o ≡ some zs → length (words rest) ≡ width rest)
    → id_before h o ≡ some ys → length (words (node h kids rest)) ≡ width (node h kids rest)
length_step (symbol i c) kids rest ys o f r e = never (cc)
length_step abstraction kids rest ys o f r e = never (cc)
length_step (variable i) kids rest ys none f r e = never (cc)
length_step (variable i) kids rest ys (some zs) f r e =
    let k : kids ≡ nothing = none_width kids ((formed_node (variable i) kids rest f).full ∙ count_variable i) in
    let w : words (node (variable i) kids rest) ≡ word (variable i) ∷ words rest = words_node (variable i) kids rest ∙ ap (λ (l : List ℕ). word (variable i) ∷ (l ++ words rest)) (ap words k ∙ words_nothing) in
    rw (w, width_node (variable i) kids rest) (ap suc (r zs refl))
length_step (pattern i c) kids rest ys o f r e = never (cc)

pub ids_length : (f : Row) (ys : List ℕ) → Formed f → ids_of f ≡ some ys → length (words f) ≡ width f
unfolding ids_of
ids_length nothing ys p e = ap length words_nothing ∙ sym width_nothing
ids_length (node h kids rest) ys p e =
    length_step h kids rest ys (ids_of rest) p (λ zs q. ids_length rest zs (formed_node h kids rest p).beside q) e

list_is : (c : ℕ) (kids : Row) (after : List ℕ) → c ≤ 4 → Formed kids → width kids ≡ c → list_in c (words kids ++ after) ≡ ids_of kids
unfolding list_in
list_is c kids after l f w = rw (le-leb c 4 l, ← w) (ids_row kids after f)

-- ---- the first tree of a row
further : (at n : ℕ) (ws x y : List ℕ) → drop at ws ≡ x ++ y → length x ≡ n → drop (at + n) ws ≡ y
further at n ws x y e h = sym (drop-drop n at ws) ∙ rw e (drop_at x y n h)

words_tree : (h : Head) (kids : Row) → words (node h kids nothing) ≡ word h ∷ words kids
words_tree h kids = words_node h kids nothing ∙ rw words_nothing (ap (word h ∷◌) (append-nil (words kids)))

split_words : (h : Head) (kids rest : Row) (after : List ℕ) → words (node h kids rest) ++ after ≡ words (node h kids nothing) ++ (words rest ++ after)
split_words h kids rest after = rw (words_node h kids rest, words_tree h kids) (ap (word h ∷◌) (append_assoc (words kids) (words rest) after))

length_split : (h : Head) (kids rest : Row) → length (words (node h kids rest)) ≡ length (words (node h kids nothing)) + length (words rest)
length_split h kids rest =
    let a : length (words (node h kids rest)) ≡ suc (length (words kids) + length (words rest)) = ap length (words_node h kids rest) ∙ ap suc (length-append (words kids) (words rest)) in
    let b : length (words (node h kids nothing)) ≡ suc (length (words kids)) = ap length (words_tree h kids) in
    omega (arith, a, b)

pub record SideFirst (levels count : ℕ) (ws : List ℕ) (at : ℕ) (f : Row) (after : List ℕ) : Type 0 where
  pub head : Head
  pub children : Row
  pub right : Row
  pub is : f ≡ node head children right
  pub alone : SideStands levels 1 ws at (node head children nothing) (words right ++ after)
  pub beside : SideStands levels (count - 1) ws (at + length (words (node head children nothing))) right after
  pub within : at < length ws
  pub levelled : 1 ≤ levels

module _ (levels count : ℕ) (ws : List ℕ) (at : ℕ) (z : count ≡ 0 → ⊥) where
  first : (f : Row) (after : List ℕ) → SideStands levels count ws at f after → SideFirst levels count ws at f after
  first nothing after s = absurd (z (sym s.wide ∙ width_nothing))
  first (node h kids rest) after s =
      let e : drop at ws ≡ words (node h kids nothing) ++ (words rest ++ after) = s.same ∙ split_words h kids rest after in
      let g = formed_node h kids rest s.formed in
      let n : length (drop at ws) ≡ suc (length ((words kids ++ words rest) ++ after)) = ap length s.same ∙ rw (words_node h kids rest) in
      record {
        head = h;
        children = kids;
        right = rest;
        is = refl;
        alone = record {
          formed = node_formed h kids nothing (record { table = g.table; full = g.full; below = g.below; beside = formed_nothing });
          low = omega (arith, s.low, nesting_node h kids rest, nesting_node h kids nothing, nesting_nothing);
          wide = width_node h kids nothing ∙ ap suc width_nothing;
          same = e;
        };
        beside = record {
          formed = g.beside;
          low = omega (arith, s.low, nesting_node h kids rest);
          wide = omega (arith, s.wide, width_node h kids rest);
          same = further at (length (words (node h kids nothing))) ws (words (node h kids nothing)) (words rest ++ after) e refl;
        };
        within = omega (arith, n, length-drop at ws);
        levelled = omega (arith, s.low, nesting_node h kids rest);
      }

-- ---- shapes, tree by tree
and_split : (a b : Bool) → a && b ≡ (a && true) && b
and_split true b = refl
and_split false b = refl

shape_split : (side : Side) (d : ℕ) (h : Head) (kids rest : Row) → shape_of side d (node h kids rest) ≡ shape_of side d (node h kids nothing) && shape_of side d rest
unfolding shape_of left_shape right_shape
shape_split Left d (symbol i c) kids rest = and_split (left_shape d kids) (left_shape d rest)
shape_split Left d abstraction kids rest = and_split (left_shape (suc d) kids) (left_shape d rest)
shape_split Left d (variable i) kids rest = refl
shape_split Left d (pattern i c) kids rest = and_split (list_for d (ids_of kids)) (left_shape d rest)
shape_split Right d (symbol i c) kids rest = and_split (right_shape d kids) (right_shape d rest)
shape_split Right d abstraction kids rest = and_split (right_shape (suc d) kids) (right_shape d rest)
shape_split Right d (variable i) kids rest = and_split (leb i d) (right_shape d rest)
shape_split Right d (pattern i c) kids rest = and_split (right_shape d kids) (right_shape d rest)

shape_nothing : (side : Side) (d : ℕ) → shape_of side d nothing ≡ true
unfolding shape_of left_shape right_shape
shape_nothing Left d = refl
shape_nothing Right d = refl

-- a step that is told by a test
picked_done : (b : Bool) (n m : ℕ) → Some n ≡ pick b (Some m) None → (b ≡ true) × (n ≡ m)
picked_done true n m e = (refl, cc)
picked_done false n m e = never (cc)

picked_stuck : (b : Bool) (m : ℕ) → None ≡ pick b (Some m) None → b ≡ false
picked_stuck true m e = never (cc)
picked_stuck false m e = refl

module _ (side : Side) (d levels count : ℕ) (ws : List ℕ) (at : ℕ) where
  pub side_none : count ≡ 0 → SideTold side d levels count ws at (Some at)
  unfolding SideTold
  side_none z f after s =
      let e : f ≡ nothing = none_width f (s.wide ∙ z) in
      let n : at + length (words f) ≡ at = omega (arith, ap (λ (x : Row). length (words x)) e, ap length words_nothing) in
      rw (n, e, shape_nothing side d)

  module _ (z : count ≡ 0 → ⊥) where
    pub side_deep : levels ≡ 0 → SideTold side d levels count ws at None
    unfolding SideTold
    side_deep l f after s = absurd (omega (arith, l, (first levels count ws at z f after s).levelled))

    pub side_ended : length ws ≤ at → SideTold side d levels count ws at None
    unfolding SideTold
    side_ended l f after s = absurd (omega (arith, l, (first levels count ws at z f after s).within))

    pub side_stuck : SideTold side d levels 1 ws at None → SideTold side d levels count ws at None
    unfolding SideTold
    side_stuck told f after s = shown (first levels count ws at z f after s)
      where
        shown : SideFirst levels count ws at f after → None ≡ pick (shape_of side d f) (Some (at + length (words f))) None
        shown x =
            let n : shape_of side d (node x.head x.children nothing) ≡ false = picked_stuck _ _ (told (node x.head x.children nothing) (words x.right ++ after) x.alone) in
            rw (x.is, shape_split side d x.head x.children x.right, n)

    pub side_more : (a : ℕ) → SideTold side d levels 1 ws at (Some a) → (r : StdOption ℕ) → SideTold side d levels (count - 1) ws a r → SideTold side d levels count ws at r
    unfolding SideTold
    side_more a told r rest f after s = shown (first levels count ws at z f after s)
      where
        shown : SideFirst levels count ws at f after → r ≡ pick (shape_of side d f) (Some (at + length (words f))) None
        shown x =
            let n : (shape_of side d (node x.head x.children nothing) ≡ true) × (a ≡ at + length (words (node x.head x.children nothing))) = picked_done _ _ _ (told (node x.head x.children nothing) (words x.right ++ after) x.alone) in
            let m = rest x.right after (rw n.1 x.beside) in
            let l : a + length (words x.right) ≡ at + length (words (node x.head x.children x.right)) = omega (arith, n.1, length_split x.head x.children x.right) in
            rw (x.is, shape_split side d x.head x.children x.right, n.0, ← l) m

-- ---- one tree
pub record Lone (levels : ℕ) (ws : List ℕ) (at : ℕ) (f : Row) (after : List ℕ) : Type 0 where
  pub head : Head
  pub children : Row
  pub is : f ≡ node head children nothing
  pub word_is : word head ≡ get_or ws at 0
  pub formed : FormedNode head children nothing
  pub below : SideStands (levels - 1) (count_of (get_or ws at 0)) ws (at + 1) children after
  pub count_is : Word.count head ≡ count_of (get_or ws at 0)
  pub long : length (words f) ≡ 1 + length (words children)

lone : (levels : ℕ) (ws : List ℕ) (at : ℕ) → at < length ws → (f : Row) (after : List ℕ) → SideStands levels 1 ws at f after → Lone levels ws at f after
lone levels ws at l nothing after s = absurd (omega (arith, s.wide, width_nothing))
lone levels ws at l (node h kids rest) after s =
    let k : rest ≡ nothing = none_width rest (omega (arith, s.wide, width_node h kids rest)) in
    let g = formed_node h kids rest s.formed in
    let c : drop at ws ≡ get_or ws at 0 ∷ drop (suc at) ws = drop-cons ws at 0 l in
    let w : words (node h kids rest) ≡ word h ∷ words kids = ap (λ (r : Row). words (node h kids r)) k ∙ words_tree h kids in
    let q : drop at ws ≡ word h ∷ (words kids ++ after) = s.same ∙ ap (λ (x : List ℕ). x ++ after) w in
    let e : word h ≡ get_or ws at 0 = cc in
    let n : Word.count h ≡ count_of (get_or ws at 0) = sym (count_word_lem h g.table) ∙ ap count_of e in
    record {
      head = h;
      children = kids;
      is = ap (node h kids) k;
      word_is = e;
      formed = record { table = g.table; full = g.full; below = g.below; beside = formed_nothing };
      below = record { formed = g.below; low = omega (arith, s.low, nesting_node h kids rest); wide = g.full ∙ n; same = rw add-one (cc) };
      count_is = n;
      long = ap length w ∙ omega arith;
    }

-- what a front says of the tree's shape
data FrontIs (side : Side) (d : ℕ) (h : Head) (kids : Row) : StdOption Front → Type 0 where
  past : (n : ℕ) → shape_of side d (node h kids nothing) ≡ true → n ≡ 1 + length (words kids) → FrontIs side d h kids (Some (Past n))
  goes : shape_of side d (node h kids nothing) ≡ shape_of side (inside h d) kids → FrontIs side d h kids (Some Inside)
  stops : shape_of side d (node h kids nothing) ≡ false → FrontIs side d h kids None

and_true : (a : Bool) → a && true ≡ a
and_true true = refl
and_true false = refl

list_front : (d x c : ℕ) (kids : Row) (o : Option (List ℕ)) → Formed kids → width kids ≡ c → ids_of kids ≡ o → FrontIs Left d (pattern x c) kids (pick (list_for d o) (Some (Past (1 + c))) None)
unfolding shape_of left_shape
list_front d x c kids none f w e = stops (rw e)
list_front d x c kids (some ys) f w e = go (list_for d (some ys)) refl
  where
    go : (b : Bool) → list_for d (some ys) ≡ b → FrontIs Left d (pattern x c) kids (pick b (Some (Past (1 + c))) None)
    go true q = past (1 + c) (rw (e, q)) (omega (arith, ids_length kids ys f e, w))
    go false q = stops (rw (e, q))

front_is : (side : Side) (d : ℕ) (h : Head) (kids : Row) (after : List ℕ) → FormedNode h kids nothing → FrontIs side d h kids (front_of side d (word h) (words kids ++ after))
unfolding shape_of left_shape right_shape front_of
front_is Left d (symbol i c) kids after g = rw (kind_word (symbol i c) g.table, kind_symbol i c) (goes (rw (inside_symbol i c d) (and_true (left_shape d kids))))
front_is Left d abstraction kids after g = rw (kind_word abstraction g.table, kind_abstraction) (goes (rw (inside_abstraction d) (and_true (left_shape (suc d) kids))))
front_is Left d (variable i) kids after g = rw (kind_word (variable i) g.table, kind_variable i) (stops refl)
front_is Left d (pattern x c) kids after g =
    let w : width kids ≡ c = g.full ∙ count_pattern x c in
    let l : list_in c (words kids ++ after) ≡ ids_of kids = list_is c kids after (pattern_few x c g.table).0 g.below w in
    rw (kind_word (pattern x c) g.table, kind_pattern x c, count_word_lem (pattern x c) g.table, count_pattern x c, l) (list_front d x c kids (ids_of kids) g.below w refl)
front_is Right d (symbol i c) kids after g = rw (kind_word (symbol i c) g.table, kind_symbol i c) (goes (rw (inside_symbol i c d) (and_true (right_shape d kids))))
front_is Right d abstraction kids after g = rw (kind_word abstraction g.table, kind_abstraction) (goes (rw (inside_abstraction d) (and_true (right_shape (suc d) kids))))
front_is Right d (variable i) kids after g = rw (kind_word (variable i) g.table, kind_variable i, ident_word (variable i) g.table, ident_variable i) (go (leb i d) refl)
  where
    none_below : kids ≡ nothing
    none_below = none_width kids (g.full ∙ count_variable i)

    go : (b : Bool) → leb i d ≡ b → FrontIs Right d (variable i) kids (pick b (Some (Past 1)) None)
    go true e = past 1 (rw e) (omega (arith, ap (λ (x : Row). length (words x)) none_below, ap length words_nothing))
    go false e = stops (rw e)
front_is Right d (pattern x c) kids after g = rw (kind_word (pattern x c) g.table, kind_pattern x c) (goes (rw (inside_pattern x c d) (and_true (right_shape d kids))))

module _ (side : Side) (d levels : ℕ) (ws : List ℕ) (at : ℕ) (l : at < length ws) where
  front_at : (f : Row) (after : List ℕ) (x : Lone levels ws at f after) → FrontIs side d x.head x.children (front_of side d (get_or ws at 0) (drop (at + 1) ws))
  front_at f after x = rw (← x.word_is, x.below.same) (front_is side d x.head x.children after x.formed)

  pub tree_past : (n : ℕ) → front_of side d (get_or ws at 0) (drop (at + 1) ws) ≡ Some (Past n) → SideTold side d levels 1 ws at (Some (at + n))
  unfolding SideTold
  tree_past n e f after s = shown (lone levels ws at l f after s)
    where
      shown : Lone levels ws at f after → Some (at + n) ≡ pick (shape_of side d f) (Some (at + length (words f))) None
      shown x = go (rw e at (front_at f after x))
        where
          go : FrontIs side d x.head x.children (Some (Past n)) → Some (at + n) ≡ pick (shape_of side d f) (Some (at + length (words f))) None
          go (past m a b) = let q : at + length (words f) ≡ at + n = omega (arith, b, x.long) in rw (q, x.is, a)

  pub tree_bad : front_of side d (get_or ws at 0) (drop (at + 1) ws) ≡ None → SideTold side d levels 1 ws at None
  unfolding SideTold
  tree_bad e f after s = shown (lone levels ws at l f after s)
    where
      shown : Lone levels ws at f after → None ≡ pick (shape_of side d f) (Some (at + length (words f))) None
      shown x = go (rw e at (front_at f after x))
        where
          go : FrontIs side d x.head x.children None → None ≡ pick (shape_of side d f) (Some (at + length (words f))) None
          go (stops a) = rw (x.is, a)

  pub tree_inside : front_of side d (get_or ws at 0) (drop (at + 1) ws) ≡ Some Inside → (r : StdOption ℕ)
      → SideTold side (inside_word (get_or ws at 0) d) (levels - 1) (count_of (get_or ws at 0)) ws (at + 1) r → SideTold side d levels 1 ws at r
  unfolding SideTold
  tree_inside e r told f after s = shown (lone levels ws at l f after s)
    where
      shown : Lone levels ws at f after → r ≡ pick (shape_of side d f) (Some (at + length (words f))) None
      shown x = go (rw e at (front_at f after x))
        where
          go : FrontIs side d x.head x.children (Some Inside) → r ≡ pick (shape_of side d f) (Some (at + length (words f))) None
          go (goes a) =
              let i : inside x.head d ≡ inside_word (get_or ws at 0) d = sym (inside_is x.head d x.formed.table) ∙ ap (λ (w : ℕ). inside_word w d) x.word_is in
              let q : at + length (words f) ≡ at + 1 + length (words x.children) = omega (arith, x.long) in
              rw (q, x.is, a, i) (told x.children after x.below)

pub past_small : (side : Side) (d w : ℕ) (ws : List ℕ) (n : ℕ) → front_of side d w ws ≡ Some (Past n) → n ≤ 256
unfolding front_of
past_small Left d w ws n e = go (eqb (kind_of w) 2) (eqb (kind_of w) 3) (list_for d (list_in (count_of w) ws)) e
  where
    go : (a b c : Bool) → pick a None (pick b (pick c (Some (Past (1 + count_of w))) None) (Some Inside)) ≡ Some (Past n) → n ≤ 256
    go true b c q = never (cc)
    go false true true q = let z : 1 + count_of w ≡ n = cc in omega arith
    go false true false q = never (cc)
    go false false c q = never (cc)
past_small Right d w ws n e = go (eqb (kind_of w) 2) (leb (ident_of w) d) e
  where
    go : (a b : Bool) → pick a (pick b (Some (Past 1)) None) (Some Inside) ≡ Some (Past n) → n ≤ 256
    go true true q = let z : ◌≡◌ {A = ℕ} 1 n = cc in omega arith
    go true false q = never (cc)
    go false b q = never (cc)
