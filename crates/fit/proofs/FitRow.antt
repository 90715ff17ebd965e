-- Rows of a left side and of a term that stand side by side: their first trees, and what is told of a row by its first tree and the rest.
use mathlib.Core.Path.{◌≡◌, refl, sym, ap, ◌∙◌}
use mathlib.Core.Bool.{Bool, true, false}
use mathlib.Core.List.{List, [], ◌∷◌, ◌++◌, append_assoc, append-nil}
use mathlib.Core.Option.{Option, none, some}
use Prim.Native.Nat.{ℕ, suc, ◌+◌, ◌-◌, ◌≤◌, ◌<◌}
use native.Mathlib.Omega.{arith}
use lib.Dec.{eqb}
use lib.ListN.{length, drop, length-append, length-drop}
use lib.Seq.{drop-drop, drop_at}
use Rattle.term.specs.Word.{Head, symbol, abstraction, variable, pattern, word}
use Rattle.term.specs.Row.{Row, nothing, node, width, words}
use Rattle.term.specs.Renumber.{inside, to_body}
use Rattle.term.proofs.Laws.{words_node, words_nothing, width_node, width_nothing, nesting_node, nesting_nothing, ranks_node, ranks_nothing, formed_node, node_formed, formed_nothing}
use Rattle.book.specs.Rule.{ids_of}
use Rattle.std.specs.Prelude.{Some, None}
use Rattle.fit.specs.Left.{ids_or, left_of}
use Rattle.fit.specs.Fit.{Found, body_then, both_found, only_if, found, all_same}
use Rattle.fit.specs.Told.Told.{LeftRow, LeftStands, TermStands, Knows, agreed_from, FitTold, Offsets}
use Rattle.fit.proofs.Agreed.{both_agreed, left_disagreed, right_disagreed}

pub further : (at n : ℕ) (ws x y : List ℕ) → drop at ws ≡ x ++ y → length x ≡ n → drop (at + n) ws ≡ y
further at n ws x y e h = sym (drop-drop n at ws) ∙ rw e (drop_at x y n h)

pub words_tree : (h : Head) (kids : Row) → words (node h kids nothing) ≡ word h ∷ words kids
words_tree h kids = words_node h kids nothing ∙ rw words_nothing (ap (word h ∷◌) (append-nil (words kids)))

split_words : (h : Head) (kids rest : Row) (after : List ℕ) → words (node h kids rest) ++ after ≡ words (node h kids nothing) ++ (words rest ++ after)
split_words h kids rest after = rw (words_node h kids rest, words_tree h kids) (ap (word h ∷◌) (append_assoc (words kids) (words rest) after))

-- ---- found, tree by tree
pub both_end : (o : Option Found) → both_found o (some []) ≡ o
both_end none = refl
both_end (some l) = ap some (append-nil l)

then_split : (x : ℕ) (b : Option Row) (o : Option Found) → body_then x b o ≡ both_found (body_then x b (some [])) o
then_split x none o = refl
then_split x (some b) none = refl
then_split x (some b) (some l) = refl

only_split : (c : Bool) (o q : Option Found) → only_if c (both_found o q) ≡ both_found (only_if c (both_found o (some []))) q
only_split true o q = rw (both_end o)
only_split false o q = refl

found_split : (vars d : ℕ) (h : Head) (kids rest : Row) (g : Head) (ts rs : Row) → LeftRow vars d (node h kids rest)
    → found d (left_of (node h kids rest)) (node g ts rs) ≡ both_found (found d (left_of (node h kids nothing)) (node g ts nothing)) (found d (left_of rest) rs)
unfolding found left_of LeftRow
found_split vars d (symbol i c) kids rest g ts rs p = only_split (eqb (word (symbol i c)) (word g)) (found (inside (symbol i c) d) (left_of kids) ts) (found d (left_of rest) rs)
found_split vars d abstraction kids rest g ts rs p = only_split (eqb (word abstraction) (word g)) (found (inside abstraction d) (left_of kids) ts) (found d (left_of rest) rs)
found_split vars d (variable i) kids rest g ts rs p = absurd p
found_split vars d (pattern x c) kids rest g ts rs p = then_split x (to_body d (ids_or (ids_of kids)) (node g ts nothing)) (found d (left_of rest) rs)

-- ---- the first tree of a row of a left side
left_alone : (vars d : ℕ) (h : Head) (kids rest : Row) → LeftRow vars d (node h kids rest) → LeftRow vars d (node h kids nothing) × LeftRow vars d rest
unfolding LeftRow
left_alone vars d (symbol i c) kids rest p = ((p.0, p.1, p.2, tt), p.3)
left_alone vars d abstraction kids rest p = ((p.0, p.1, tt), p.2)
left_alone vars d (variable i) kids rest p = absurd p
left_alone vars d (pattern x c) kids rest p = ((p.0, p.1, p.2, p.3, p.4, tt), p.5)

pub record LeftFirst (vars d levels count : ℕ) (left : List ℕ) (at : ℕ) (p : Row) (after : List ℕ) : Type 0 where
  pub head : Head
  pub children : Row
  pub right : Row
  pub is : p ≡ node head children right
  pub alone : LeftStands vars d levels 1 left at (node head children nothing) (words right ++ after)
  pub beside : LeftStands vars d levels (count - 1) left (at + length (words (node head children nothing))) right after
  pub within : at < length left
  pub levelled : 1 ≤ levels

pub record TermFirst (count : ℕ) (term : List ℕ) (to : ℕ) (t : Row) (beyond : List ℕ) : Type 0 where
  pub head : Head
  pub children : Row
  pub right : Row
  pub is : t ≡ node head children right
  pub alone : TermStands 1 term to (node head children nothing) (words right ++ beyond)
  pub beside : TermStands (count - 1) term (to + length (words (node head children nothing))) right beyond
  pub within : to < length term

begins : (at : ℕ) (ws : List ℕ) (h : Head) (kids rest : Row) (after : List ℕ) → drop at ws ≡ words (node h kids rest) ++ after → at < length ws
begins at ws h kids rest after e =
    let n : length (drop at ws) ≡ suc (length ((words kids ++ words rest) ++ after)) = ap length e ∙ rw (words_node h kids rest) in
    omega (arith, n, length-drop at ws)

module _ (vars d levels count : ℕ) (left : List ℕ) (at : ℕ) (z : count ≡ 0 → ⊥) where
  pub left_first : (p : Row) (after : List ℕ) → LeftStands vars d levels count left at p after → LeftFirst vars d levels count left at p after
  left_first nothing after s = absurd (z (sym s.wide ∙ width_nothing))
  left_first (node h kids rest) after s =
      let e : drop at left ≡ words (node h kids nothing) ++ (words rest ++ after) = s.same ∙ split_words h kids rest after in
      let g = left_alone vars d h kids rest s.good in
      record {
        head = h;
        children = kids;
        right = rest;
        is = refl;
        alone = record { good = g.0; low = omega (arith, s.low, nesting_node h kids rest, nesting_node h kids nothing, nesting_nothing); wide = width_node h kids nothing ∙ ap suc width_nothing; same = e };
        beside = record { good = g.1; low = omega (arith, s.low, nesting_node h kids rest); wide = omega (arith, s.wide, width_node h kids rest); same = further at (length (words (node h kids nothing))) left (words (node h kids nothing)) (words rest ++ after) e refl };
        within = begins at left h kids rest after s.same;
        levelled = omega (arith, s.low, nesting_node h kids rest);
      }

module _ (count : ℕ) (term : List ℕ) (to : ℕ) (z : count ≡ 0 → ⊥) where
  pub term_first : (t : Row) (beyond : List ℕ) → TermStands count term to t beyond → TermFirst count term to t beyond
  term_first nothing beyond s = absurd (z (sym s.wide ∙ width_nothing))
  term_first (node h kids rest) beyond s =
      let e : drop to term ≡ words (node h kids nothing) ++ (words rest ++ beyond) = s.same ∙ split_words h kids rest beyond in
      let f = formed_node h kids rest s.formed in
      record {
        head = h;
        children = kids;
        right = rest;
        is = refl;
        alone = record {
          formed = node_formed h kids nothing (record { table = f.table; full = f.full; below = f.below; beside = formed_nothing });
          few = omega (arith, s.few, ranks_node h kids rest, ranks_node h kids nothing, ranks_nothing);
          low = omega (arith, s.low, nesting_node h kids rest, nesting_node h kids nothing, nesting_nothing);
          wide = width_node h kids nothing ∙ ap suc width_nothing;
          same = e;
        };
        beside = record {
          formed = f.beside;
          few = omega (arith, s.few, ranks_node h kids rest);
          low = omega (arith, s.low, nesting_node h kids rest);
          wide = omega (arith, s.wide, width_node h kids rest);
          same = further to (length (words (node h kids nothing))) term (words (node h kids nothing)) (words rest ++ beyond) e refl;
        };
        within = begins to term h kids rest beyond s.same;
      }

-- ---- a row by its first tree and the rest
pub length_split : (h : Head) (kids rest : Row) → length (words (node h kids rest)) ≡ length (words (node h kids nothing)) + length (words rest)
length_split h kids rest =
    let a : length (words (node h kids rest)) ≡ suc (length (words kids) + length (words rest)) = ap length (words_node h kids rest) ∙ ap suc (length-append (words kids) (words rest)) in
    let b : length (words (node h kids nothing)) ≡ suc (length (words kids)) = ap length (words_tree h kids) in
    omega (arith, a, b)

module _ (vars d levels count : ℕ) (left : List ℕ) (at : ℕ) (term : List ℕ) (to : ℕ) (table : List ℕ) where
  pub fit_none : count ≡ 0 → FitTold vars d levels count left at term to table table (Some (at, to))
  unfolding FitTold found left_of all_same
  fit_none z p after t beyond l s u k = shown p t (s.wide ∙ z) (u.wide ∙ z)
    where
      shown : (p t : Row) → width p ≡ 0 → width t ≡ 0 → (m : Found) × (agreed_from l (found d (left_of p) t) ≡ some m) × Knows left term table (l ++ m) × (at ≡ at + length (words p)) × (to ≡ to + length (words t))
      shown nothing nothing a b =
          let n : length (words nothing) ≡ 0 = ap length words_nothing in
          ([], refl, rw append-nil k, omega (arith, n), omega (arith, n))
      shown nothing (node h ks rs) a b = absurd (omega (arith, b, width_node h ks rs))
      shown (node h ks rs) t a b = absurd (omega (arith, a, width_node h ks rs))

  module _ (z : count ≡ 0 → ⊥) where
    pub fit_deep : (done : List ℕ) → levels ≡ 0 → FitTold vars d levels count left at term to table done None
    unfolding FitTold
    fit_deep done e p after t beyond l s u k = absurd (omega (arith, e, (left_first vars d levels count left at z p after s).levelled))

    pub fit_left_ended : (done : List ℕ) → length left ≤ at → FitTold vars d levels count left at term to table done None
    unfolding FitTold
    fit_left_ended done e p after t beyond l s u k = absurd (omega (arith, e, (left_first vars d levels count left at z p after s).within))

    pub fit_term_ended : (done : List ℕ) → length term ≤ to → FitTold vars d levels count left at term to table done None
    unfolding FitTold
    fit_term_ended done e p after t beyond l s u k = absurd (omega (arith, e, (term_first count term to z t beyond u).within))

    -- the first trees do not fit
    pub fit_stuck : (mid : List ℕ) → FitTold vars d levels 1 left at term to table mid None → FitTold vars d levels count left at term to table mid None
    unfolding FitTold
    fit_stuck mid told p after t beyond l s u k = shown (left_first vars d levels count left at z p after s) (term_first count term to z t beyond u)
      where
        shown : LeftFirst vars d levels count left at p after → TermFirst count term to t beyond → agreed_from l (found d (left_of p) t) ≡ none
        shown f g =
            let good : LeftRow vars d (node f.head f.children f.right) = rw f.is at s.good in
            rw (f.is, g.is, found_split vars d f.head f.children f.right g.head g.children g.right good)
            (left_disagreed l (found d (left_of (node f.head f.children nothing)) (node g.head g.children nothing)) (found d (left_of f.right) g.right) (told (node f.head f.children nothing) (words f.right ++ after) (node g.head g.children nothing) (words g.right ++ beyond) l f.alone g.alone k))

    -- the first trees fit, and so the answer is that of the rest
    module _ (mid : List ℕ) (a b : ℕ) (told : FitTold vars d levels 1 left at term to table mid (Some (a, b))) (done : List ℕ) where
      module _ (p : Row) (after : List ℕ) (t : Row) (beyond : List ℕ) (l : Found) (s : LeftStands vars d levels count left at p after) (u : TermStands count term to t beyond) (k : Knows left term table l)
          (f : LeftFirst vars d levels count left at p after) (g : TermFirst count term to t beyond) where
        first_found : Option Found
        first_found = found d (left_of (node f.head f.children nothing)) (node g.head g.children nothing)

        first_told : (m : Found) × (agreed_from l first_found ≡ some m) × Knows left term mid (l ++ m)
            × (a ≡ at + length (words (node f.head f.children nothing))) × (b ≡ to + length (words (node g.head g.children nothing)))
        unfolding FitTold first_found
        first_told = told (node f.head f.children nothing) (words f.right ++ after) (node g.head g.children nothing) (words g.right ++ beyond) l f.alone g.alone k

        whole_found : found d (left_of p) t ≡ both_found first_found (found d (left_of f.right) g.right)
        unfolding first_found
        whole_found =
            let good : LeftRow vars d (node f.head f.children f.right) = rw f.is at s.good in
            rw (f.is, g.is) (found_split vars d f.head f.children f.right g.head g.children g.right good)

        left_beside : LeftStands vars d levels (count - 1) left a f.right after
        left_beside = rw first_told.3 f.beside

        term_beside : TermStands (count - 1) term b g.right beyond
        term_beside = rw first_told.4 g.beside

        pub rest_done : (c e : ℕ) → FitTold vars d levels (count - 1) left a term b mid done (Some (c, e))
            → (m : Found) × (agreed_from l (found d (left_of p) t) ≡ some m) × Knows left term done (l ++ m) × (c ≡ at + length (words p)) × (e ≡ to + length (words t))
        unfolding FitTold
        rest_done c e rest =
            let r = rest f.right after g.right beyond (l ++ first_told.0) left_beside term_beside first_told.2 in (
              first_told.0 ++ r.0,
              rw whole_found (both_agreed l first_told.0 first_found (found d (left_of f.right) g.right) first_told.1 r.0 r.1),
              rw append_assoc at r.2,
              omega (arith, r.3, first_told.3, ap (λ (x : Row). length (words x)) f.is, length_split f.head f.children f.right),
              omega (arith, r.4, first_told.4, ap (λ (x : Row). length (words x)) g.is, length_split g.head g.children g.right),
            )

        pub rest_stuck : FitTold vars d levels (count - 1) left a term b mid done None → agreed_from l (found d (left_of p) t) ≡ none
        unfolding FitTold
        rest_stuck rest =
            rw whole_found
            (right_disagreed l first_told.0 first_found (found d (left_of f.right) g.right) first_told.1
            (rest f.right after g.right beyond (l ++ first_told.0) left_beside term_beside first_told.2))

      pub fit_more : (r : Offsets) → FitTold vars d levels (count - 1) left a term b mid done r → FitTold vars d levels count left at term to table done r
      unfolding FitTold
      fit_more (Some (c, e)) rest =
          λ p after t beyond l s u k. rest_done p after t beyond l s u k (left_first vars d levels count left at z p after s) (term_first count term to z t beyond u) c e rest
      fit_more None rest =
          λ p after t beyond l s u k. rest_stuck p after t beyond l s u k (left_first vars d levels count left at z p after s) (term_first count term to z t beyond u) rest
