-- What the first word of a term or of a left side counts is how many arguments its root has: a word counts what its head does.
use mathlib.Core.Path.{◌≡◌, sym, ap, ◌∙◌}
use mathlib.Core.Bool.{true}
use mathlib.Core.List.{List, [], ◌∷◌, ◌++◌, append-nil}
use mathlib.Core.Option.{some}
use Prim.Native.Nat.{ℕ, ◌-◌, ◌<◌}
use native.Mathlib.Omega.{arith}
use lib.ListN.{length, get_or}
use Rattle.std.specs.Prelude.{Ok}
use Rattle.term.specs.Word.{Head, symbol, abstraction, variable, pattern, count, word, count_of}
use Rattle.term.specs.Row.{Row, nothing, node, words, width, Formed}
use Rattle.term.proofs.Laws.{never, count_word_lem, words_node, formed_node}
use Rattle.book.specs.Rule.{root_symbol}
use Rattle.book.specs.Book.{Rule, check_book, rule_at}
use Rattle.book.proofs.Laws.{root_abstraction, root_variable, root_pattern, book_rule}
use Rattle.fit.specs.Left.{left_of}
use Rattle.fit.specs.Match.{left_in}
use Rattle.fit.specs.Fit.{IsBody}
use Rattle.fit.specs.Front.{root_arguments, aside}
use Rattle.fit.specs.Lowest.{aside_o}
use Rattle.fit.proofs.Laws.{left_of_symbol, left_in_lem, root_arguments_lem, aside_node}
use Rattle.tree.specs.Tree.{LeafNode}
use Rattle.tree.specs.Find.{root_count}
use Rattle.tree.proofs.Laws.{root_count_lem}
use Rattle.walk.specs.Walk.{left_count, book_fits}
use Rattle.walk.specs.Told.State.{part_from, Parted}
use Rattle.walk.proofs.Uncovered.{one_tree, from_stands}
use Rattle.walk.proofs.Sound.{fits_rule}

-- the first word of one tree, whatever follows
first_counts : (f : Row) → Formed f → width f ≡ 1 → (after ws : List ℕ) → ws ≡ words f ++ after → (h : Head) × (kids : Row) × (f ≡ node h kids nothing) × (count_of (get_or ws 0 0) ≡ count h)
first_counts f formed one after ws e =
    let o = one_tree f one in
    let h = o.0 in
    let w : words f ≡ word h ∷ (words o.1 ++ words nothing) = ap words o.2 ∙ words_node h o.1 nothing in
    let g : get_or ws 0 0 ≡ word h = ap (λ (l : List ℕ). get_or l 0 0) (e ∙ ap (λ (l : List ℕ). l ++ after) w) in
    (h, o.1, o.2, ap count_of g ∙ count_word_lem h (formed_node h o.1 nothing (rw o.2 at formed)).table)

-- the part that the words begin with
pub part_counts : (ws : List ℕ) → Parted ws → 0 < length ws → count_of (get_or ws 0 0) ≡ root_count (part_from ws 0)
part_counts ws p n =
    let b = p.begins 0 n in
    let c = first_counts b.0 b.2.formed b.2.wide b.1 ws b.2.same in
    c.3 ∙ sym (ap root_count (from_stands ws 0 b.0 b.1 p.short b.2 ∙ c.2) ∙ root_count_lem c.0 c.1 nothing)

-- a left side whose root is a symbol
symbol_counts : (h : Head) (kids : Row) → root_symbol (node h kids nothing) ≡ true → root_arguments (left_of (node h kids nothing)) ≡ count h
symbol_counts (symbol i c) kids e = ap root_arguments (left_of_symbol i c kids nothing) ∙ root_arguments_lem (symbol i c) (left_of kids) (left_of nothing)
symbol_counts abstraction kids e = never (let z = root_abstraction kids nothing in cc)
symbol_counts (variable i) kids e = never (let z = root_variable i kids nothing in cc)
symbol_counts (pattern i c) kids e = never (let z = root_pattern i c kids nothing in cc)

pub left_counts : (book : List ℕ) → check_book book ≡ Ok tt → (number : ℕ) (rule : Rule) → rule_at book number ≡ some rule → left_count rule.left ≡ root_arguments (left_in rule)
left_counts book accepted number rule e =
    let f = book_rule book number rule accepted e in
    let i = f.left_tree in
    let c = first_counts i.tree i.formed i.one [] rule.left (i.same ∙ sym (append-nil (words i.tree))) in
    c.3 ∙ sym (ap root_arguments (left_in_lem rule i ∙ ap left_of c.2) ∙ symbol_counts c.0 c.1 (rw c.2 at f.left_root))

-- where a Leaf fits an accepted book, it holds what the root has more than the left side of its rule
pub aside_is : (book : List ℕ) → check_book book ≡ Ok tt → (t : Row) → IsBody t → (leaf : LeafNode) → book_fits book (root_count t) leaf ≡ true → leaf.aside ≡ aside_o (rule_at book leaf.rule) t
aside_is book accepted t i leaf e =
    let r = fits_rule book (root_count t) leaf e in
    let o = one_tree t i.one in
    let b = root_arguments (left_in r.0) in
    let c : root_count t ≡ count o.0 = ap root_count o.2 ∙ root_count_lem o.0 o.1 nothing in
    let a : aside b t ≡ count o.0 - b = ap (aside b) o.2 ∙ aside_node b o.0 o.1 nothing in
    rw r.1 (omega (arith, r.3, left_counts book accepted leaf.rule r.0 r.1, c, a))
