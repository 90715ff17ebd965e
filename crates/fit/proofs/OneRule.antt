-- One rule over one term: where the term's root is covered the walk begins below it with nothing found, finds what matching finds over the arguments that stay, and every variable of the rule is among it.
use mathlib.Core.Path.{◌≡◌, refl, sym, ap, ap₂, ◌∙◌}
use mathlib.Core.Bool.{Bool, true, false, ◌&&◌, ◌||◌}
use mathlib.Core.List.{List, [], ◌++◌, append_assoc}
use mathlib.Core.Option.{Option, none, some}
use Prim.Native.Nat.{ℕ, ◌+◌, ◌-◌, ◌*◌, ◌≤◌, ◌<◌, max}
use native.Mathlib.Omega.{arith}
use lib.Dec.{eqb, leb}
use lib.ListN.{length, drop, get_or, replicate}
use borrow.Author.Tests.{leb-true}
use Rattle.term.specs.declared.answer.Answer.{Answer}
use Rattle.term.specs.declared.answer.Answer.TheVariants as answer
use Rattle.term.specs.Answer.{answered}
use Rattle.term.specs.Word.{Head, symbol, abstraction, variable, pattern, word, count, kind_of, count_of, ident_of, pick, InTable}
use Rattle.term.specs.Row.{Row, nothing, node, width, words, ranks, nesting, Formed, firsts, others}
use Rattle.term.specs.Renumber.{inside, to_body}
use Rattle.term.proofs.Laws.{never, and_right, zero_at, kind_word, count_word_lem, ident_word, kind_symbol, kind_abstraction, kind_variable, kind_pattern, count_symbol, ident_symbol, inside_symbol, formed_node, nesting_node, nesting_join, ranks_node, ranks_join, words_join, firsts_others, width_firsts, formed_firsts}
use Rattle.book.specs.Rule.{root_symbol}
use Rattle.book.proofs.Laws.{root_abstraction, root_variable, root_pattern}
use Rattle.std.specs.Prelude.{Some, None}
use Rattle.fit.specs.declared.rules.RuleMatch.{RuleMatch}
use Rattle.fit.specs.Left.{Left, end, hole, part, left_of, occurs}
use Rattle.fit.specs.Fit.{Found, body_then, both_found, only_if, found, body_in, all_same, agreed, matching}
use Rattle.fit.specs.Front.{root_arguments, front, aside, matching_front, covers}
use Rattle.fit.specs.Match.{body_list, fitted, fitted_o, match_answer, match_aside, match_words, match_lengths, match_rule_came, matched_came}
use Rattle.fit.specs.Told.Told.{LeftStands, TermStands, slot, present, Knows, agreed_from, FitTold, BodiesTold, covered_word, RuleTold}
use Rattle.fit.proofs.Basics.{single, Single}
use Rattle.fit.proofs.Agreed.{present_join}
use Rattle.fit.proofs.Inner.{InnerRow, inner_row, head_at_lem, found_inner}
use Rattle.fit.proofs.Fronts.{front_symbol, aside_node, matching_front_lem, root_arguments_lem, uncovered_none, CoveredAs, covered_as}

-- ---- a cleared table knows nothing
pub knows_nothing : (left term table : List ℕ) → table ≡ replicate 48 0 → Knows left term table []
unfolding present
knows_nothing left term table e =
    record {
      size = ap length e;
      new = λ x h z. refl;
      seen = λ x at h z. let w : slot table x 0 ≡ 0 = ap (λ (r : List ℕ). get_or r (3 * x + 0) 0) e ∙ zero_at 48 (3 * x + 0) in absurd (omega (arith, w, z));
    }

-- ---- every variable that occurs is found
abbrev PresentO : ℕ → Option Found → Type 0
PresentO x none = Unit {0}
PresentO x (some k) = present x k ≡ true

present_hole : (x y : ℕ) (occ : Bool) (b : Option Row) (q : Option Found) → eqb x y || occ ≡ true → (occ ≡ true → PresentO x q) → PresentO x (body_then y b q)
unfolding present
present_hole x y occ none q e r = tt
present_hole x y occ (some b) none e r = tt
present_hole x y occ (some b) (some k) e r = go (eqb x y) e
  where
    go : (c : Bool) → c || occ ≡ true → c || present x k ≡ true
    go true z = refl
    go false z = r z

present_part : (x : ℕ) (c occ more : Bool) (o q : Option Found) → occ || more ≡ true → (occ ≡ true → PresentO x o) → (more ≡ true → PresentO x q) → PresentO x (only_if c (both_found o q))
present_part x false occ more o q e r s = tt
present_part x true occ more none q e r s = tt
present_part x true occ more (some k) none e r s = tt
present_part x true occ more (some k) (some m) e r s = present_join x k m ∙ go occ e r
  where
    behind : (c : Bool) → c || true ≡ true
    behind true = refl
    behind false = refl

    go : (b : Bool) → b || more ≡ true → (b ≡ true → present x k ≡ true) → present x k || present x m ≡ true
    go true z f = rw (f refl)
    go false z f = rw (s z) (behind (present x k))

present_found : (x d : ℕ) (p : Left) (t : Row) → occurs x p ≡ true → PresentO x (found d p t)
unfolding occurs found
present_found x d end nothing e = never (cc)
present_found x d end (node g ts rs) e = tt
present_found x d (hole y ys rest) nothing e = tt
present_found x d (hole y ys rest) (node g ts rs) e =
    present_hole x y (occurs x rest) (to_body d ys (node g ts nothing)) (found d rest rs) e (λ z. present_found x d rest rs z)
present_found x d (part h kids rest) nothing e = tt
present_found x d (part h kids rest) (node g ts rs) e =
    present_part x (eqb (word h) (word g)) (occurs x kids) (occurs x rest) (found (inside h d) kids ts) (found d rest rs) e
    (λ z. present_found x (inside h d) kids ts z) (λ z. present_found x d rest rs z)

-- ---- what is found after nothing is what matching finds
found_agreed : (o : Option Found) (k : Found) → agreed_from [] o ≡ some k → (o ≡ some k) × (agreed o ≡ some (body_in k))
found_agreed none k e = never (cc)
found_agreed (some l) k e = go (all_same l l) refl e
  where
    go : (b : Bool) → all_same l l ≡ b → pick b (some l) none ≡ some k → (some l ≡ some k) × (pick (all_same l l) (some (body_in l)) none ≡ some (body_in k))
    go true z q = let r : l ≡ k = cc in (q, rw (z, r))
    go false z q = never (cc)

found_disagreed : (o : Option Found) → agreed_from [] o ≡ none → agreed o ≡ none
found_disagreed none e = refl
found_disagreed (some l) e = go (all_same l l) refl e
  where
    go : (b : Bool) → all_same l l ≡ b → pick b (some l) none ≡ none → pick (all_same l l) (some (body_in l)) none ≡ none
    go true z q = never (cc)
    go false z q = rw z

-- ---- the roots: the left side's is a symbol, and the term's is covered or is not
record Roots (vars : ℕ) (left term : List ℕ) (p t : Row) : Type 0 where
  ident : ℕ
  arguments : ℕ
  kids : Row
  head : Head
  parts : Row
  left_is : p ≡ node (symbol ident arguments) kids nothing
  term_is : t ≡ node head parts nothing
  row : InnerRow vars 0 (symbol ident arguments) kids
  formed : Formed (node head parts nothing)
  left_word : word (symbol ident arguments) ≡ get_or left 0 0
  term_word : word head ≡ get_or term 0 0
  left_rest : drop 1 left ≡ words kids ++ []
  term_rest : drop 1 term ≡ words parts ++ []

symbol_head : (h : Head) (kids rest : Row) → root_symbol (node h kids rest) ≡ true → (i : ℕ) × (c : ℕ) × (h ≡ symbol i c)
symbol_head (symbol i c) kids rest e = (i, c, refl)
symbol_head abstraction kids rest e = never (let z = root_abstraction kids rest in cc)
symbol_head (variable i) kids rest e = never (let z = root_variable i kids rest in cc)
symbol_head (pattern i c) kids rest e = never (let z = root_pattern i c kids rest in cc)

roots : (vars : ℕ) (left term : List ℕ) (p t : Row) → LeftStands vars 0 16 1 left 0 p [] → root_symbol p ≡ true → TermStands 1 term 0 t [] → 0 < length left → 0 < length term → Roots vars left term p t
roots vars left term p t s q u ll lt = made (single p s.wide) (single t u.wide)
  where
    made : Single p → Single t → Roots vars left term p t
    made x y =
        let k = symbol_head x.head x.children nothing (rw x.is at q) in
        let z : p ≡ node (symbol k.0 k.1) x.children nothing = x.is ∙ ap (λ (h : Head). node h x.children nothing) k.2 in
        let a = head_at_lem 0 left (symbol k.0 k.1) x.children [] ll (s.same ∙ ap (λ (r : Row). words r ++ []) z) in
        let b = head_at_lem 0 term y.head y.children [] lt (u.same ∙ ap (λ (r : Row). words r ++ []) y.is) in
        record {
          ident = k.0;
          arguments = k.1;
          kids = x.children;
          head = y.head;
          parts = y.children;
          left_is = z;
          term_is = y.is;
          row = inner_row vars 0 (symbol k.0 k.1) x.children (λ e. absurd (omega (arith, e, kind_symbol k.0 k.1))) (rw z at s.good);
          formed = rw y.is at u.formed;
          left_word = a.0;
          term_word = b.0;
          left_rest = a.1;
          term_rest = b.1;
        }

covered_is : (j b : ℕ) (kids rest : Left) (g : Head) → InTable (symbol j b) → InTable g → covered_word (word (symbol j b)) (word g) ≡ covers (part (symbol j b) kids rest) g
unfolding covers
covered_is j b kids rest (symbol i a) u v =
    ap₂ ◌&&◌ (ap (λ (k : ℕ). eqb k 0) (kind_word (symbol i a) v ∙ kind_symbol i a))
    (ap₂ ◌&&◌ (ap₂ eqb (ident_word (symbol j b) u ∙ ident_symbol j b) (ident_word (symbol i a) v ∙ ident_symbol i a))
    (ap₂ leb (count_word_lem (symbol j b) u ∙ count_symbol j b) (count_word_lem (symbol i a) v ∙ count_symbol i a)))
covered_is j b kids rest abstraction u v = rw (kind_word abstraction v ∙ kind_abstraction)
covered_is j b kids rest (variable i) u v = rw (kind_word (variable i) v ∙ kind_variable i)
covered_is j b kids rest (pattern i c) u v = rw (kind_word (pattern i c) v ∙ kind_pattern i c)

-- where a word is covered it counts no fewer
pub covers_count : (w v : ℕ) → covered_word w v ≡ true → count_of w ≤ count_of v
covers_count w v e =
    leb-true (count_of w) (count_of v)
    (and_right (eqb (ident_of w) (ident_of v)) (leb (count_of w) (count_of v)) (and_right (eqb (kind_of v) 0) (eqb (ident_of w) (ident_of v) && leb (count_of w) (count_of v)) e))

-- a variable of a left side whose root is a symbol occurs below it
occurs_below : (y : ℕ) (h : Head) (kids k : Left) → k ≡ part h kids end → occurs y k ≡ true → occurs y kids ≡ true
unfolding occurs
occurs_below y h kids k z e = go (occurs y kids) (rw z at e)
  where
    go : (c : Bool) → c || false ≡ true → c ≡ true
    go true q = refl
    go false q = q

-- ---- what comes back where nothing was found, and where bodies were
module _ (room vars n : ℕ) (o : Option (ℕ → Row)) (x : Answer) (k : ℕ) (bodies lengths : List ℕ) where
  came_none : o ≡ none → x ≡ answer.NoFit → k ≡ 0 → bodies ≡ replicate room 0 → lengths ≡ replicate 16 0 → match_rule_came (answered x) k bodies lengths ≡ matched_came room (fitted_o vars n o)
  unfolding match_answer match_aside match_words match_lengths
  came_none e a s b l = rw (e, a, s, b, l)

  came_some : (b : ℕ → Row) → o ≡ some b → (c : Bool) → leb (length (body_list b 0 vars)) room ≡ c → x ≡ pick c answer.Done answer.Short → k ≡ pick c n 0
      → bodies ≡ match_words room (fitted vars n b) → lengths ≡ match_lengths room (fitted vars n b) → match_rule_came (answered x) k bodies lengths ≡ matched_came room (fitted_o vars n o)
  unfolding match_answer match_aside
  came_some b e c z a s w l = rw (e, a, s, w, l, z)

module _ (vars : ℕ) (left term : List ℕ) (room : ℕ) (p t : Row) (s : LeftStands vars 0 16 1 left 0 p []) (u : TermStands 1 term 0 t []) (x : Roots vars left term p t) where
  abbrev root : Head
  root = symbol x.ident x.arguments

  left_of_lem : left_of p ≡ part root (left_of x.kids) end
  left_of_lem = ap left_of x.left_is ∙ x.row.is

  arguments_are : root_arguments (left_of p) ≡ x.arguments
  arguments_are = ap root_arguments left_of_lem ∙ root_arguments_lem root (left_of x.kids) end ∙ count_symbol x.ident x.arguments

  counted : count_of (get_or left 0 0) ≡ x.arguments
  counted = sym (ap count_of x.left_word) ∙ count_word_lem root x.row.table ∙ count_symbol x.ident x.arguments

  head_table : InTable x.head
  head_table = (formed_node x.head x.parts nothing x.formed).table

  aside_is : aside (root_arguments (left_of p)) t ≡ count_of (get_or term 0 0) - count_of (get_or left 0 0)
  aside_is =
      ap₂ aside arguments_are x.term_is ∙ aside_node x.arguments x.head x.parts nothing
      ∙ ap₂ (λ (a b : ℕ). a - b) (sym (count_word_lem x.head head_table) ∙ ap count_of x.term_word) (sym counted)

  covered_so : covered_word (get_or left 0 0) (get_or term 0 0) ≡ covers (part root (left_of x.kids) end) x.head
  covered_so = ap₂ covered_word (sym x.left_word) (sym x.term_word) ∙ covered_is x.ident x.arguments (left_of x.kids) end x.head x.row.table head_table

  -- the root is not covered
  none_found : covered_word (get_or left 0 0) (get_or term 0 0) ≡ false → matching_front (left_of p) t ≡ none
  none_found e =
      ap₂ matching_front left_of_lem x.term_is
      ∙ uncovered_none x.ident x.arguments (left_of x.kids) end x.head x.parts nothing x.row.table x.formed (sym covered_so ∙ e)

  -- the root is covered: its first arguments stand beside those of the left side
  module _ (e : covered_word (get_or left 0 0) (get_or term 0 0) ≡ true) where
    same_root : CoveredAs x.ident x.arguments x.head
    same_root = covered_as x.ident x.arguments (left_of x.kids) end x.head (sym covered_so ∙ e)

    abbrev stay : Row
    stay = firsts x.arguments x.parts

    abbrev go : Row
    go = others x.arguments x.parts

    front_found : matching_front (left_of p) t ≡ agreed (found 0 (left_of x.kids) stay)
    unfolding matching
    front_found =
        let a : t ≡ node (symbol x.ident same_root.arguments) x.parts nothing = x.term_is ∙ ap (λ (h : Head). node h x.parts nothing) same_root.is in
        matching_front_lem (left_of p) t ∙ ap₂ (λ (l : Left) (f : Row). matching l f) left_of_lem (ap₂ front arguments_are a ∙ front_symbol x.arguments x.ident same_root.arguments x.parts nothing same_root.few)
        ∙ ap agreed (found_inner 0 root root (left_of x.kids) stay refl ∙ ap (λ (d : ℕ). found d (left_of x.kids) stay) (inside_symbol x.ident x.arguments 0))

    left_below : LeftStands vars 0 15 (count_of (get_or left 0 0)) left 1 x.kids []
    left_below =
        let n : nesting (node root x.kids nothing) ≤ 16 = rw x.left_is at s.low in
        record {
          good = rw (inside_symbol x.ident x.arguments 0) at x.row.below;
          low = omega (arith, n, nesting_node root x.kids nothing);
          wide = x.row.full ∙ count_symbol x.ident x.arguments ∙ sym counted;
          same = x.left_rest;
        }

    term_below_lem : TermStands (count_of (get_or left 0 0)) term 1 stay (words go ++ [])
    term_below_lem =
        let f = formed_node x.head x.parts nothing x.formed in
        let m : width x.parts ≡ same_root.arguments = f.full ∙ ap count same_root.is ∙ count_symbol x.ident same_root.arguments in
        let k : ranks (node x.head x.parts nothing) ≤ 2 = rw x.term_is at u.few in
        let n : nesting (node x.head x.parts nothing) ≤ 64 = rw x.term_is at u.low in
        let r : ranks x.parts ≡ max (ranks stay) (ranks go) = ap ranks (sym (firsts_others x.arguments x.parts)) ∙ ranks_join stay go in
        let l : nesting x.parts ≡ max (nesting stay) (nesting go) = ap nesting (sym (firsts_others x.arguments x.parts)) ∙ nesting_join stay go in
        record {
          formed = formed_firsts x.arguments x.parts f.below;
          few = omega (arith, k, ranks_node x.head x.parts nothing, r);
          low = omega (arith, n, nesting_node x.head x.parts nothing, l);
          wide = width_firsts x.arguments x.parts (omega (arith, m, same_root.few)) ∙ sym counted;
          same =
              x.term_rest ∙ ap (λ (f : Row). words f ++ []) (sym (firsts_others x.arguments x.parts))
              ∙ ap (λ (w : List ℕ). w ++ []) (words_join stay go) ∙ append_assoc (words stay) (words go) [];
        }

module _ (vars : ℕ) (left term table : List ℕ) (cleared : table ≡ replicate 48 0) (ll : 0 < length left) (lt : 0 < length term) (room : ℕ) where
  -- the term's root is not the symbol, or has fewer arguments
  pub rule_other : covered_word (get_or left 0 0) (get_or term 0 0) ≡ false → (bodies lengths : List ℕ) → bodies ≡ replicate room 0 → lengths ≡ replicate 16 0
      → (r : RuleMatch) → r.answer ≡ answer.NoFit → r.aside ≡ 0 → RuleTold vars left term room bodies lengths r
  unfolding RuleTold
  rule_other e bodies lengths b l r a n p t s q u all =
      came_none room vars (aside (root_arguments (left_of p)) t) (matching_front (left_of p) t) r.answer r.aside bodies lengths
      (none_found vars left term room p t s u (roots vars left term p t s q u ll lt) e) a n b l

  module _ (e : covered_word (get_or left 0 0) (get_or term 0 0) ≡ true) (done : List ℕ) where
    -- the first arguments do not fit
    pub rule_stuck : FitTold vars 0 15 (count_of (get_or left 0 0)) left 1 term 1 table done None
        → (bodies lengths : List ℕ) → bodies ≡ replicate room 0 → lengths ≡ replicate 16 0 → (r : RuleMatch) → r.answer ≡ answer.NoFit → r.aside ≡ 0 → RuleTold vars left term room bodies lengths r
    unfolding FitTold RuleTold
    rule_stuck told bodies lengths b l r a n p t s q u all = shown (roots vars left term p t s q u ll lt)
      where
        shown : Roots vars left term p t → match_rule_came (answered r.answer) r.aside bodies lengths ≡ matched_came room (fitted_o vars (aside (root_arguments (left_of p)) t) (matching_front (left_of p) t))
        shown x =
            let f = told x.kids [] (firsts x.arguments x.parts) (words (others x.arguments x.parts) ++ []) []
            (left_below vars left term room p t s u x e) (term_below_lem vars left term room p t s u x e) (knows_nothing left term table cleared) in
            came_none room vars (aside (root_arguments (left_of p)) t) (matching_front (left_of p) t) r.answer r.aside bodies lengths
            (front_found vars left term room p t s u x e ∙ found_disagreed (found 0 (left_of x.kids) (firsts x.arguments x.parts)) f) a n b l

    -- the rule fits, and its bodies are those of the table
    pub rule_fits_lem : (i j : ℕ) → FitTold vars 0 15 (count_of (get_or left 0 0)) left 1 term 1 table done (Some (i, j))
        → (bodies lengths : List ℕ) (d : Bool) → BodiesTold vars left term done room bodies lengths d → (c : Bool) → d ≡ c
        → (r : RuleMatch) → r.answer ≡ pick c answer.Done answer.Short → r.aside ≡ pick c (count_of (get_or term 0 0) - count_of (get_or left 0 0)) 0
        → RuleTold vars left term room bodies lengths r
    unfolding FitTold BodiesTold RuleTold
    rule_fits_lem i j told bodies lengths d wrote c y r a n p t s q u all = shown (roots vars left term p t s q u ll lt)
      where
        shown : Roots vars left term p t → match_rule_came (answered r.answer) r.aside bodies lengths ≡ matched_came room (fitted_o vars (aside (root_arguments (left_of p)) t) (matching_front (left_of p) t))
        shown x =
            let f = told x.kids [] (firsts x.arguments x.parts) (words (others x.arguments x.parts) ++ []) []
            (left_below vars left term room p t s u x e) (term_below_lem vars left term room p t s u x e) (knows_nothing left term table cleared) in
            let m = found_agreed (found 0 (left_of x.kids) (firsts x.arguments x.parts)) f.0 f.1 in
            let w = wrote f.0 f.2
            (λ y h. rw m.0 at (present_found y 0 (left_of x.kids) (firsts x.arguments x.parts) (occurs_below y (symbol x.ident x.arguments) (left_of x.kids) (left_of p) (left_of_lem vars left term room p t s u x) (all y h))))
            (aside (root_arguments (left_of p)) t) in
            came_some room vars (aside (root_arguments (left_of p)) t) (matching_front (left_of p) t) r.answer r.aside bodies lengths (body_in f.0)
            (front_found vars left term room p t s u x e ∙ m.1) c (w.0 ∙ y) a (n ∙ ap (λ (k : ℕ). pick c k 0) (sym (aside_is vars left term room p t s u x))) w.1 w.2
