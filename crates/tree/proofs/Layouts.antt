-- A tree's layout has as many words as the tree is long, and each subtree lies at the address that its node names.
use mathlib.Core.Path.{◌≡◌, refl, sym, ap, ◌∙◌}
use mathlib.Core.List.{List, [], ◌∷◌, ◌++◌, append_assoc}
use Prim.Native.Nat.{ℕ, suc, ◌+◌, ◌*◌, ◌-◌, ◌≤◌, ◌<◌}
use native.Mathlib.Omega.{arith}
use lib.ListN.{length, drop, length-append, length-drop}
use lib.Seq.{drop-drop, drop-append_seam}
use Rattle.term.specs.Word.{Head, word}
use Rattle.tree.specs.Tree.{LeafVariable, LeafNode, Tree, Fail, Leaf, Switch, Closed, Same, Cases, NoCase, Case}
use Rattle.tree.specs.Root.{book_tree}
use Rattle.tree.specs.Layout.{tree_words, variable_words, case_count, long, long_cases, case_heads, layout, layout_cases}

-- ---- clauses
pub variables_none : variable_words [] ≡ []
unfolding variable_words
variables_none = refl

pub variables_more : (v : LeafVariable) (vs : List LeafVariable) → variable_words (v ∷ vs) ≡ v.at ∷ length v.list ∷ (v.list ++ variable_words vs)
unfolding variable_words
variables_more v vs = refl

pub count_none : case_count NoCase ≡ 0
unfolding case_count
count_none = refl

pub count_case : (h : Head) (x : Tree) (cs : Cases) → case_count (Case h x cs) ≡ suc (case_count cs)
unfolding case_count
count_case h x cs = refl

pub heads_none : (at : ℕ) → case_heads at NoCase ≡ []
unfolding case_heads
heads_none at = refl

pub heads_case : (at : ℕ) (h : Head) (x : Tree) (cs : Cases) → case_heads at (Case h x cs) ≡ word h ∷ at ∷ case_heads (at + long x) cs
unfolding case_heads
heads_case at h x cs = refl

pub leaf_laid : (at : ℕ) (leaf : LeafNode) → layout at (Leaf leaf) ≡ 1 ∷ leaf.rule ∷ length leaf.variables ∷ leaf.aside ∷ variable_words leaf.variables
unfolding layout
leaf_laid at leaf = refl

pub fail_long : long Fail ≡ 1
unfolding long
fail_long = refl

pub fail_layout : (at : ℕ) → layout at Fail ≡ 0 ∷ []
unfolding layout
fail_layout at = refl

pub no_case : (a : ℕ) → (long_cases NoCase ≡ 0) × (case_heads a NoCase ≡ []) × (layout_cases a NoCase ≡ [])
unfolding long case_heads layout
no_case a = (refl, refl, refl)

pub one_case : (a : ℕ) (h : Head) (x : Tree) (cs : Cases)
    → (long_cases (Case h x cs) ≡ long x + long_cases cs) × (case_heads a (Case h x cs) ≡ word h ∷ a ∷ case_heads (a + long x) cs) × (layout_cases a (Case h x cs) ≡ layout a x ++ layout_cases (a + long x) cs)
unfolding long case_heads layout
one_case a h x cs = (refl, refl, refl)

pub switch_long : (n : ℕ) (cs : Cases) (d : Tree) → long (Switch n cs d) ≡ 4 + 2 * case_count cs + long_cases cs + long d
unfolding long
switch_long n cs d = refl

pub switch_laid : (at n : ℕ) (cs : Cases) (d : Tree)
    → layout at (Switch n cs d)
    ≡ 2 ∷ n ∷ case_count cs ∷ (case_heads (at + 4 + 2 * case_count cs) cs ++ ((at + 4 + 2 * case_count cs + long_cases cs) ∷ (layout_cases (at + 4 + 2 * case_count cs) cs ++ layout (at + 4 + 2 * case_count cs + long_cases cs) d)))
unfolding layout
switch_laid at n cs d = refl

pub length_heads : (at : ℕ) (cs : Cases) → length (case_heads at cs) ≡ 2 * case_count cs
unfolding case_heads case_count
length_heads at NoCase = refl
length_heads at (Case h x cs) = omega (arith, length_heads (at + long x) cs)

-- ---- length
case_length : (at : ℕ) (x : Tree) (cs : Cases) → length (layout at x) ≡ long x → length (layout_cases (at + long x) cs) ≡ long_cases cs → length (layout at x ++ layout_cases (at + long x) cs) ≡ long x + long_cases cs
case_length at x cs p q = omega (arith, length-append (layout at x) (layout_cases (at + long x) cs), p, q)

switch_length : (next : ℕ) (cs : Cases) (default : Tree) → length (layout_cases next cs) ≡ long_cases cs → length (layout (next + long_cases cs) default) ≡ long default
    → suc (suc (suc (length (case_heads next cs ++ ((next + long_cases cs) ∷ (layout_cases next cs ++ layout (next + long_cases cs) default)))))) ≡ 4 + 2 * case_count cs + long_cases cs + long default
switch_length next cs default p q =
    omega (arith, length-append (case_heads next cs) ((next + long_cases cs) ∷ (layout_cases next cs ++ layout (next + long_cases cs) default)), length-append (layout_cases next cs) (layout (next + long_cases cs) default), length_heads next cs, p, q)

test_length : (next : ℕ) (ys : List ℕ) (a b : Tree) → length (layout next a) ≡ long a → length (layout (next + long a) b) ≡ long b
    → suc (suc (suc (length (ys ++ (next ∷ (next + long a) ∷ (layout next a ++ layout (next + long a) b)))))) ≡ 5 + length ys + long a + long b
test_length next ys a b p q =
    omega (arith, length-append ys (next ∷ (next + long a) ∷ (layout next a ++ layout (next + long a) b)), length-append (layout next a) (layout (next + long a) b), p, q)

tests_length : (next : ℕ) (ys zs : List ℕ) (a b : Tree) → length (layout next a) ≡ long a → length (layout (next + long a) b) ≡ long b
    → suc (suc (suc (suc (length (ys ++ (zs ++ (next ∷ (next + long a) ∷ (layout next a ++ layout (next + long a) b)))))))) ≡ 6 + length ys + length zs + long a + long b
tests_length next ys zs a b p q =
    omega (arith, length-append ys (zs ++ (next ∷ (next + long a) ∷ (layout next a ++ layout (next + long a) b))), length-append zs (next ∷ (next + long a) ∷ (layout next a ++ layout (next + long a) b)), length-append (layout next a) (layout (next + long a) b), p, q)

mutual
  unfolding layout long

  pub length_layout : (at : ℕ) (t : Tree) → length (layout at t) ≡ long t
  length_layout at Fail = refl
  length_layout at (Leaf leaf) = omega arith
  length_layout at (Switch n cs default) =
      switch_length (at + 4 + 2 * case_count cs) cs default
      (length_cases (at + 4 + 2 * case_count cs) cs) (length_layout (at + 4 + 2 * case_count cs + long_cases cs) default)
  length_layout at (Closed n ys ifYes ifNo) =
      test_length (at + 5 + length ys) ys ifYes ifNo
      (length_layout (at + 5 + length ys) ifYes) (length_layout (at + 5 + length ys + long ifYes) ifNo)
  length_layout at (Same n m ys zs ifYes ifNo) =
      tests_length (at + 6 + length ys + length zs) ys zs ifYes ifNo
      (length_layout (at + 6 + length ys + length zs) ifYes) (length_layout (at + 6 + length ys + length zs + long ifYes) ifNo)

  pub length_cases : (at : ℕ) (cs : Cases) → length (layout_cases at cs) ≡ long_cases cs
  length_cases at NoCase = refl
  length_cases at (Case h x cs) = case_length at x cs (length_layout at x) (length_cases (at + long x) cs)

pub long_some : (t : Tree) → 1 ≤ long t
unfolding long
long_some Fail = omega arith
long_some (Leaf leaf) = omega arith
long_some (Switch n cs default) = omega arith
long_some (Closed n ys ifYes ifNo) = omega arith
long_some (Same n m ys zs ifYes ifNo) = omega arith

-- ---- a tree lies at an address of a table
abbrev pub Lies : List ℕ → ℕ → Tree → Type 0
Lies table at t = (after : List ℕ) × (drop at table ≡ layout at t ++ after)

-- it is inside
pub lies_inside : (table : List ℕ) (at : ℕ) (t : Tree) → Lies table at t → at < length table
lies_inside table at t l =
    let e : length table - at ≡ length (layout at t ++ l.0) = sym (length-drop at table) ∙ ap length l.1 in
    omega (arith, e, length-append (layout at t) l.0, length_layout at t, long_some t)

append-nil : (l : List ℕ) → l ++ [] ≡ l
append-nil [] = refl
append-nil (x ∷ l) = ap (x ∷◌) (append-nil l)

pub whole_lies : (t : Tree) → Lies (layout 0 t) 0 t
whole_lies t = ([], sym (append-nil (layout 0 t)))

-- what follows so many words of what lies at an address
lies_past : (table : List ℕ) (at to : ℕ) (pre rest : List ℕ) → drop at table ≡ pre ++ rest → to ≡ at + length pre → drop to table ≡ rest
lies_past table at to pre rest e z =
    rw z (sym (drop-drop (length pre) at table) ∙ ap (drop (length pre)) e ∙ drop-append_seam pre rest)

pub fail_lies : (table : List ℕ) (at : ℕ) → Lies table at Fail → (after : List ℕ) × (drop at table ≡ 0 ∷ after)
unfolding layout
fail_lies table at l = l

pub leaf_lies : (table : List ℕ) (at : ℕ) (leaf : LeafNode) → Lies table at (Leaf leaf)
    → (after : List ℕ) × (drop at table ≡ 1 ∷ leaf.rule ∷ length leaf.variables ∷ leaf.aside ∷ (variable_words leaf.variables ++ after))
unfolding layout
leaf_lies table at leaf l = l

-- the trees of the cases lie one after the other
abbrev pub CasesLie : List ℕ → ℕ → Cases → Type 0
CasesLie table at NoCase = Unit {0}
CasesLie table at (Case h x cs) = Lies table at x × CasesLie table (at + long x) cs

cases_lie : (table : List ℕ) (at : ℕ) (cs : Cases) (after : List ℕ) → drop at table ≡ layout_cases at cs ++ after → CasesLie table at cs
unfolding layout
cases_lie table at NoCase after e = tt
cases_lie table at (Case h x cs) after e =
    let q : drop at table ≡ layout at x ++ (layout_cases (at + long x) cs ++ after) = e ∙ append_assoc (layout at x) (layout_cases (at + long x) cs) after in
    ((layout_cases (at + long x) cs ++ after, q), cases_lie table (at + long x) cs after (lies_past table at (at + long x) (layout at x) (layout_cases (at + long x) cs ++ after) q (omega (arith, length_layout at x))))

pub record SwitchLies (table : List ℕ) (at n : ℕ) (cs : Cases) (default : Tree) : Type 0 where
  pub next : ℕ
  pub other : ℕ
  pub after : List ℕ
  pub words : drop at table ≡ 2 ∷ n ∷ case_count cs ∷ (case_heads next cs ++ (other ∷ after))
  pub cases : CasesLie table next cs
  pub otherwise : Lies table other default
  pub later : at < next
  pub later_other : at < other

pub switch_lies : (table : List ℕ) (at n : ℕ) (cs : Cases) (default : Tree) → Lies table at (Switch n cs default) → SwitchLies table at n cs default
unfolding layout
switch_lies table at n cs default l =
    let next = at + 4 + 2 * case_count cs in
    let other = next + long_cases cs in
    let body : List ℕ = layout_cases next cs ++ layout other default in
    let e : drop at table ≡ 2 ∷ n ∷ case_count cs ∷ (case_heads next cs ++ (other ∷ (body ++ l.0))) =
    l.1 ∙ ap (λ (ws : List ℕ). 2 ∷ n ∷ case_count cs ∷ ws) (append_assoc (case_heads next cs) (other ∷ body) l.0) in
    let pre : List ℕ = 2 ∷ n ∷ case_count cs ∷ (case_heads next cs ++ (other ∷ [])) in
    let q : drop at table ≡ pre ++ (body ++ l.0) = e ∙ ap (λ (ws : List ℕ). 2 ∷ n ∷ case_count cs ∷ ws) (sym (append_assoc (case_heads next cs) (other ∷ []) (body ++ l.0))) in
    let c : drop next table ≡ body ++ l.0 = lies_past table at next pre (body ++ l.0) q (omega (arith, length-append (case_heads next cs) (other ∷ []), length_heads next cs)) in
    let d : drop next table ≡ layout_cases next cs ++ (layout other default ++ l.0) = c ∙ append_assoc (layout_cases next cs) (layout other default) l.0 in
    let o : drop other table ≡ layout other default ++ l.0 = lies_past table next other (layout_cases next cs) (layout other default ++ l.0) d (omega (arith, length_cases next cs)) in
    record {
      next = next;
      other = other;
      after = body ++ l.0;
      words = e;
      cases = cases_lie table next cs (layout other default ++ l.0) d;
      otherwise = (l.0, o);
      later = omega arith;
      later_other = omega arith;
    }

pub record ClosedLies (table : List ℕ) (at n : ℕ) (ys : List ℕ) (a b : Tree) : Type 0 where
  pub yes_at : ℕ
  pub no_at : ℕ
  pub after : List ℕ
  pub words : drop at table ≡ 3 ∷ n ∷ length ys ∷ (ys ++ (yes_at ∷ no_at ∷ after))
  pub yes_lies : Lies table yes_at a
  pub no_lies : Lies table no_at b
  pub later_yes : at < yes_at
  pub later_no : at < no_at

-- two trees after the words before them
two_lie : (table : List ℕ) (at next : ℕ) (pre : List ℕ) (a b : Tree) (after : List ℕ) → drop at table ≡ pre ++ ((layout next a ++ layout (next + long a) b) ++ after) → next ≡ at + length pre
    → Lies table next a × Lies table (next + long a) b
two_lie table at next pre a b after e z =
    let c : drop next table ≡ (layout next a ++ layout (next + long a) b) ++ after = lies_past table at next pre ((layout next a ++ layout (next + long a) b) ++ after) e z in
    let d : drop next table ≡ layout next a ++ (layout (next + long a) b ++ after) = c ∙ append_assoc (layout next a) (layout (next + long a) b) after in
    ((layout (next + long a) b ++ after, d), (after, lies_past table next (next + long a) (layout next a) (layout (next + long a) b ++ after) d (omega (arith, length_layout next a))))

pub closed_lies : (table : List ℕ) (at n : ℕ) (ys : List ℕ) (a b : Tree) → Lies table at (Closed n ys a b) → ClosedLies table at n ys a b
unfolding layout
closed_lies table at n ys a b l =
    let next = at + 5 + length ys in
    let body : List ℕ = layout next a ++ layout (next + long a) b in
    let e : drop at table ≡ 3 ∷ n ∷ length ys ∷ (ys ++ (next ∷ (next + long a) ∷ (body ++ l.0))) =
    l.1 ∙ ap (λ (ws : List ℕ). 3 ∷ n ∷ length ys ∷ ws) (append_assoc ys (next ∷ (next + long a) ∷ body) l.0) in
    let pre : List ℕ = 3 ∷ n ∷ length ys ∷ (ys ++ (next ∷ (next + long a) ∷ [])) in
    let q : drop at table ≡ pre ++ (body ++ l.0) = e ∙ ap (λ (ws : List ℕ). 3 ∷ n ∷ length ys ∷ ws) (sym (append_assoc ys (next ∷ (next + long a) ∷ []) (body ++ l.0))) in
    let t = two_lie table at next pre a b l.0 q (omega (arith, length-append ys (next ∷ (next + long a) ∷ []))) in
    record {
      yes_at = next;
      no_at = next + long a;
      after = body ++ l.0;
      words = e;
      yes_lies = t.0;
      no_lies = t.1;
      later_yes = omega arith;
      later_no = omega arith;
    }

pub record SameLies (table : List ℕ) (at n m : ℕ) (ys zs : List ℕ) (a b : Tree) : Type 0 where
  pub yes_at : ℕ
  pub no_at : ℕ
  pub after : List ℕ
  pub words : drop at table ≡ 4 ∷ n ∷ m ∷ length ys ∷ (ys ++ (zs ++ (yes_at ∷ no_at ∷ after)))
  pub yes_lies : Lies table yes_at a
  pub no_lies : Lies table no_at b
  pub later_yes : at < yes_at
  pub later_no : at < no_at

pub same_lies : (table : List ℕ) (at n m : ℕ) (ys zs : List ℕ) (a b : Tree) → Lies table at (Same n m ys zs a b) → SameLies table at n m ys zs a b
unfolding layout
same_lies table at n m ys zs a b l =
    let next = at + 6 + length ys + length zs in
    let body : List ℕ = layout next a ++ layout (next + long a) b in
    let s : (ys ++ (zs ++ (next ∷ (next + long a) ∷ body))) ++ l.0 ≡ ys ++ (zs ++ (next ∷ (next + long a) ∷ (body ++ l.0))) =
    append_assoc ys (zs ++ (next ∷ (next + long a) ∷ body)) l.0 ∙ ap (ys ++◌) (append_assoc zs (next ∷ (next + long a) ∷ body) l.0) in
    let e : drop at table ≡ 4 ∷ n ∷ m ∷ length ys ∷ (ys ++ (zs ++ (next ∷ (next + long a) ∷ (body ++ l.0)))) =
    l.1 ∙ ap (λ (ws : List ℕ). 4 ∷ n ∷ m ∷ length ys ∷ ws) s in
    let pre : List ℕ = 4 ∷ n ∷ m ∷ length ys ∷ (ys ++ (zs ++ (next ∷ (next + long a) ∷ []))) in
    let u : ys ++ (zs ++ (next ∷ (next + long a) ∷ (body ++ l.0))) ≡ (ys ++ (zs ++ (next ∷ (next + long a) ∷ []))) ++ (body ++ l.0) =
    ap (ys ++◌) (sym (append_assoc zs (next ∷ (next + long a) ∷ []) (body ++ l.0))) ∙ sym (append_assoc ys (zs ++ (next ∷ (next + long a) ∷ [])) (body ++ l.0)) in
    let q : drop at table ≡ pre ++ (body ++ l.0) = e ∙ ap (λ (ws : List ℕ). 4 ∷ n ∷ m ∷ length ys ∷ ws) u in
    let t = two_lie table at next pre a b l.0 q (omega (arith, length-append ys (zs ++ (next ∷ (next + long a) ∷ [])), length-append zs (next ∷ (next + long a) ∷ []))) in
    record {
      yes_at = next;
      no_at = next + long a;
      after = body ++ l.0;
      words = e;
      yes_lies = t.0;
      no_lies = t.1;
      later_yes = omega arith;
      later_no = omega arith;
    }

pub tree_words_lem : (book : List ℕ) → tree_words book ≡ layout 0 (book_tree book)
unfolding tree_words
tree_words_lem book = refl
