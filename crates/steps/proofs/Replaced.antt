-- A row for each variable of a row: like renumbering, it is what it does to each variable, and the two go together variable by variable.
use mathlib.Core.Path.{◌≡◌, refl, sym, ap, ap₂, ◌∙◌}
use Prim.Native.Nat.{ℕ, ◌+◌}
use native.Mathlib.Omega.{arith}
use native.Mathlib.Nat.{add-suc}
use Rattle.term.specs.Word.{Head, symbol, abstraction, variable, pattern, count}
use Rattle.term.specs.Row.{Row, nothing, node, width, Formed, ◌⧺◌}
use Rattle.term.specs.Renumber.{inside, renumber_head, renumber}
use Rattle.term.proofs.Laws.{inside_symbol, inside_abstraction, inside_variable, inside_pattern, count_variable, renumber_symbol, renumber_abstraction, renumber_variable, renumber_pattern, renumber_nothing, renumber_node, renumber_join, join_nothing_left, join_node, join_join, width_node, formed_node, EveryHead, Every, every_parts}
use Rattle.steps.specs.Right.{single, replaced_tree, replaced}

-- a tree before a row
pub tree_before : (h : Head) (kids rest : Row) → node h kids nothing ⧺ rest ≡ node h kids rest
tree_before h kids rest = join_node h kids nothing rest ∙ ap (node h kids) (join_nothing_left rest)

pub none_wide : (f : Row) → width f ≡ 0 → f ≡ nothing
none_wide nothing e = refl
none_wide (node h kids rest) e = absurd (omega (arith, width_node h kids rest, e))

-- ---- renumbering that begins under more abstractions
pub inside_more : (h : Head) (d e : ℕ) → inside h (d + e) ≡ d + inside h e
inside_more (symbol i c) d e = rw (inside_symbol i c (d + e), inside_symbol i c e)
inside_more abstraction d e = rw (inside_abstraction (d + e), inside_abstraction e) (sym (add-suc d e))
inside_more (variable i) d e = rw (inside_variable i (d + e), inside_variable i e)
inside_more (pattern x c) d e = rw (inside_pattern x c (d + e), inside_pattern x c e)

head_more : (n : ℕ → ℕ → ℕ) (d e : ℕ) (h : Head) → renumber_head n (d + e) h ≡ renumber_head (λ f i. n (d + f) i) e h
head_more n d e (symbol i c) = renumber_symbol n (d + e) i c ∙ sym (renumber_symbol (λ f i. n (d + f) i) e i c)
head_more n d e abstraction = renumber_abstraction n (d + e) ∙ sym (renumber_abstraction (λ f i. n (d + f) i) e)
head_more n d e (variable i) = renumber_variable n (d + e) i ∙ sym (renumber_variable (λ f i. n (d + f) i) e i)
head_more n d e (pattern x c) = renumber_pattern n (d + e) x c ∙ sym (renumber_pattern (λ f i. n (d + f) i) e x c)

pub renumber_more : (n : ℕ → ℕ → ℕ) (d e : ℕ) (r : Row) → renumber n (d + e) r ≡ renumber (λ f i. n (d + f) i) e r
renumber_more n d e nothing = renumber_nothing n (d + e) ∙ sym (renumber_nothing (λ f i. n (d + f) i) e)
renumber_more n d e (node h kids rest) =
    renumber_node n (d + e) h kids rest
    ∙ rw (inside_more h d e, head_more n d e h, renumber_more n d (inside h e) kids, renumber_more n d e rest)
    (sym (renumber_node (λ f i. n (d + f) i) e h kids rest))

pub renumber_single : (n : ℕ → ℕ → ℕ) (e i : ℕ) → renumber n e (single i) ≡ single (n e i)
renumber_single n e i =
    renumber_node n e (variable i) nothing nothing
    ∙ rw (renumber_variable n e i, renumber_nothing n (inside (variable i) e), renumber_nothing n e)

-- ---- clauses
pub replaced_nothing : (m : ℕ → ℕ → Row) (e : ℕ) → replaced m e nothing ≡ nothing
unfolding replaced
replaced_nothing m e = refl

pub replaced_node : (m : ℕ → ℕ → Row) (e : ℕ) (h : Head) (kids rest : Row)
    → replaced m e (node h kids rest) ≡ replaced_tree (m e) h (replaced m (inside h e) kids) ⧺ replaced m e rest
unfolding replaced
replaced_node m e h kids rest = refl

pub replaced_join : (m : ℕ → ℕ → Row) (e : ℕ) (f g : Row) → replaced m e (f ⧺ g) ≡ replaced m e f ⧺ replaced m e g
replaced_join m e nothing g = rw (join_nothing_left g, replaced_nothing m e) (sym (join_nothing_left (replaced m e g)))
replaced_join m e (node h kids rest) g =
    ap (replaced m e) (join_node h kids rest g) ∙ replaced_node m e h kids (rest ⧺ g)
    ∙ ap (λ (r : Row). replaced_tree (m e) h (replaced m (inside h e) kids) ⧺ r) (replaced_join m e rest g)
    ∙ sym (join_join (replaced_tree (m e) h (replaced m (inside h e) kids)) (replaced m e rest) (replaced m e g))
    ∙ ap (λ (r : Row). r ⧺ replaced m e g) (sym (replaced_node m e h kids rest))

-- ---- the same rows for the same variables
same_tree : (m n : ℕ → Row) (e : ℕ) (h : Head) (kids : Row) → EveryHead (λ e i. m i ≡ n i) e h → replaced_tree m h kids ≡ replaced_tree n h kids
same_tree m n e (symbol i c) kids p = refl
same_tree m n e abstraction kids p = refl
same_tree m n e (variable i) kids p = p
same_tree m n e (pattern x c) kids p = refl

head_here_lem : (P : ℕ → ℕ → Type 0) (e : ℕ) (h : Head) → EveryHead P e h → EveryHead (λ f i. P e i) e h
head_here_lem P e (symbol i c) p = tt
head_here_lem P e abstraction p = tt
head_here_lem P e (variable i) p = p
head_here_lem P e (pattern x c) p = tt

pub replaced_same : (m n : ℕ → ℕ → Row) (e : ℕ) (t : Row) → Every (λ e i. m e i ≡ n e i) e t → replaced m e t ≡ replaced n e t
replaced_same m n e nothing p = replaced_nothing m e ∙ sym (replaced_nothing n e)
replaced_same m n e (node h kids rest) p =
    let q = every_parts (λ e i. m e i ≡ n e i) e h kids rest p in
    replaced_node m e h kids rest
    ∙ ap₂ ◌⧺◌
    (ap (replaced_tree (m e) h) (replaced_same m n (inside h e) kids q.1)
    ∙ same_tree (m e) (n e) e h (replaced n (inside h e) kids) (head_here_lem (λ e i. m e i ≡ n e i) e h q.0))
    (replaced_same m n e rest q.2)
    ∙ sym (replaced_node n e h kids rest)

-- ---- a variable for each variable is a renumbering
single_tree : (n : ℕ → ℕ → ℕ) (e : ℕ) (h : Head) (kids : Row) → width kids ≡ count h
    → replaced_tree (λ i. single (n e i)) h (renumber n (inside h e) kids) ≡ node (renumber_head n e h) (renumber n (inside h e) kids) nothing
single_tree n e (symbol i c) kids w = rw (renumber_symbol n e i c)
single_tree n e abstraction kids w = rw (renumber_abstraction n e)
single_tree n e (variable i) kids w =
    rw (renumber_variable n e i, none_wide kids (w ∙ count_variable i), renumber_nothing n (inside (variable i) e))
single_tree n e (pattern x c) kids w = rw (renumber_pattern n e x c)

pub replaced_single : (n : ℕ → ℕ → ℕ) (e : ℕ) (t : Row) → Formed t → replaced (λ e i. single (n e i)) e t ≡ renumber n e t
replaced_single n e nothing f = replaced_nothing (λ e i. single (n e i)) e ∙ sym (renumber_nothing n e)
replaced_single n e (node h kids rest) f =
    let w = formed_node h kids rest f in
    replaced_node (λ e i. single (n e i)) e h kids rest
    ∙ ap₂ ◌⧺◌
    (ap (replaced_tree (λ i. single (n e i)) h) (replaced_single n (inside h e) kids w.below) ∙ single_tree n e h kids w.full)
    (replaced_single n e rest w.beside)
    ∙ tree_before (renumber_head n e h) (renumber n (inside h e) kids) (renumber n e rest)
    ∙ sym (renumber_node n e h kids rest)

-- ---- replaced, then renumbered
node_renumbered : (n : ℕ → ℕ → ℕ) (d e : ℕ) (h : Head) (kids : Row) → renumber_head n (d + e) h ≡ h
    → renumber n (d + e) (node h kids nothing) ≡ node h (renumber n (d + inside h e) kids) nothing
node_renumbered n d e h kids s =
    renumber_node n (d + e) h kids nothing ∙ rw (s, inside_more h d e, renumber_nothing n (d + e))

renumbered_tree : (n : ℕ → ℕ → ℕ) (m : ℕ → Row) (d e : ℕ) (h : Head) (kids : Row)
    → renumber n (d + e) (replaced_tree m h kids) ≡ replaced_tree (λ i. renumber n (d + e) (m i)) h (renumber n (d + inside h e) kids)
renumbered_tree n m d e (symbol i c) kids = node_renumbered n d e (symbol i c) kids (renumber_symbol n (d + e) i c)
renumbered_tree n m d e abstraction kids = node_renumbered n d e abstraction kids (renumber_abstraction n (d + e))
renumbered_tree n m d e (variable i) kids = refl
renumbered_tree n m d e (pattern x c) kids = node_renumbered n d e (pattern x c) kids (renumber_pattern n (d + e) x c)

pub then_renumbered : (n : ℕ → ℕ → ℕ) (m : ℕ → ℕ → Row) (d e : ℕ) (t : Row)
    → renumber n (d + e) (replaced m e t) ≡ replaced (λ f i. renumber n (d + f) (m f i)) e t
then_renumbered n m d e nothing =
    ap (renumber n (d + e)) (replaced_nothing m e) ∙ renumber_nothing n (d + e) ∙ sym (replaced_nothing (λ f i. renumber n (d + f) (m f i)) e)
then_renumbered n m d e (node h kids rest) =
    ap (renumber n (d + e)) (replaced_node m e h kids rest)
    ∙ renumber_join n (d + e) (replaced_tree (m e) h (replaced m (inside h e) kids)) (replaced m e rest)
    ∙ ap₂ ◌⧺◌
    (renumbered_tree n (m e) d e h (replaced m (inside h e) kids)
    ∙ ap (replaced_tree (λ i. renumber n (d + e) (m e i)) h) (then_renumbered n m d (inside h e) kids))
    (then_renumbered n m d e rest)
    ∙ sym (replaced_node (λ f i. renumber n (d + f) (m f i)) e h kids rest)

-- ---- renumbered, then replaced
inside_same : (n : ℕ → ℕ → ℕ) (k e : ℕ) (h : Head) → inside (renumber_head n k h) e ≡ inside h e
inside_same n k e (symbol i c) = ap (λ (h : Head). inside h e) (renumber_symbol n k i c)
inside_same n k e abstraction = ap (λ (h : Head). inside h e) (renumber_abstraction n k)
inside_same n k e (variable i) =
    ap (λ (h : Head). inside h e) (renumber_variable n k i) ∙ inside_variable (n k i) e ∙ sym (inside_variable i e)
inside_same n k e (pattern x c) = ap (λ (h : Head). inside h e) (renumber_pattern n k x c)

tree_renumbered : (m : ℕ → Row) (n : ℕ → ℕ → ℕ) (k : ℕ) (h : Head) (kids : Row) → replaced_tree m (renumber_head n k h) kids ≡ replaced_tree (λ i. m (n k i)) h kids
tree_renumbered m n k (symbol i c) kids = rw (renumber_symbol n k i c)
tree_renumbered m n k abstraction kids = rw (renumber_abstraction n k)
tree_renumbered m n k (variable i) kids = rw (renumber_variable n k i)
tree_renumbered m n k (pattern x c) kids = rw (renumber_pattern n k x c)

pub after_renumbered : (m : ℕ → ℕ → Row) (n : ℕ → ℕ → ℕ) (k e : ℕ) (t : Row)
    → replaced m e (renumber n (k + e) t) ≡ replaced (λ f i. m f (n (k + f) i)) e t
after_renumbered m n k e nothing = ap (replaced m e) (renumber_nothing n (k + e)) ∙ replaced_nothing m e ∙ sym (replaced_nothing (λ f i. m f (n (k + f) i)) e)
after_renumbered m n k e (node h kids rest) =
    ap (replaced m e) (renumber_node n (k + e) h kids rest)
    ∙ replaced_node m e (renumber_head n (k + e) h) (renumber n (inside h (k + e)) kids) (renumber n (k + e) rest)
    ∙ ap₂ ◌⧺◌
    (ap₂ (λ (f : ℕ) (a : ℕ). replaced_tree (m e) (renumber_head n (k + e) h) (replaced m f (renumber n a kids))) (inside_same n (k + e) e h) (inside_more h k e)
    ∙ ap (replaced_tree (m e) (renumber_head n (k + e) h)) (after_renumbered m n k (inside h e) kids)
    ∙ tree_renumbered (m e) n (k + e) h (replaced (λ f i. m f (n (k + f) i)) (inside h e) kids))
    (after_renumbered m n k e rest)
    ∙ sym (replaced_node (λ f i. m f (n (k + f) i)) e h kids rest)
