-- Renumbering: a row keeps its shape, and what it does to a row is what it does to each variable.
use mathlib.Core.Path.{◌≡◌, refl, sym, ap, ◌∙◌}
use mathlib.Core.Bool.{true}
use Prim.Native.Nat.{ℕ, suc, ◌+◌, ◌≤◌, ◌<◌, max}
use native.Mathlib.Omega.{arith}
use native.Mathlib.Nat.{le-max_left, le-max_right}
use lib.ListN.{length, length-append}
use borrow.Author.Tests.{leb-true, le-leb}
use Rattle.term.specs.Word.{Head, symbol, abstraction, variable, pattern, rank, count, InTable}
use Rattle.term.specs.Row.{Row, nothing, node, width, words, nesting, ranks, Formed, ◌⧺◌}
use Rattle.term.specs.Renumber.{inside, renumber_head, renumber, named_head, named}
use Rattle.term.proofs.Words.{and_left, and_right, and_both}

-- ---- the shape stays
module _ (m : ℕ → ℕ → ℕ) where
  pub rank_renumber : (e : ℕ) (h : Head) → rank (renumber_head m e h) ≡ rank h
  unfolding renumber_head rank
  rank_renumber e (symbol i c) = refl
  rank_renumber e abstraction = refl
  rank_renumber e (variable i) = refl
  rank_renumber e (pattern i c) = refl

  pub count_renumber : (e : ℕ) (h : Head) → count (renumber_head m e h) ≡ count h
  unfolding renumber_head count
  count_renumber e (symbol i c) = refl
  count_renumber e abstraction = refl
  count_renumber e (variable i) = refl
  count_renumber e (pattern i c) = refl

  pub inside_renumber : (e : ℕ) (h : Head) (a : ℕ) → inside (renumber_head m e h) a ≡ inside h a
  unfolding renumber_head inside
  inside_renumber e (symbol i c) a = refl
  inside_renumber e abstraction a = refl
  inside_renumber e (variable i) a = refl
  inside_renumber e (pattern i c) a = refl

  pub width_renumber : (e : ℕ) (f : Row) → width (renumber m e f) ≡ width f
  unfolding renumber width
  width_renumber e nothing = refl
  width_renumber e (node h kids rest) = ap suc (width_renumber e rest)

  pub length_renumber : (e : ℕ) (f : Row) → length (words (renumber m e f)) ≡ length (words f)
  unfolding renumber words
  length_renumber e nothing = refl
  length_renumber e (node h kids rest) =
      rw (length-append, length-append, length_renumber (inside h e) kids, length_renumber e rest)

  pub nesting_renumber : (e : ℕ) (f : Row) → nesting (renumber m e f) ≡ nesting f
  unfolding renumber nesting
  nesting_renumber e nothing = refl
  nesting_renumber e (node h kids rest) = rw (nesting_renumber (inside h e) kids, nesting_renumber e rest)

  pub ranks_renumber : (e : ℕ) (f : Row) → ranks (renumber m e f) ≡ ranks f
  unfolding renumber ranks
  ranks_renumber e nothing = refl
  ranks_renumber e (node h kids rest) = rw (rank_renumber e h, ranks_renumber (inside h e) kids, ranks_renumber e rest)

  pub renumber_join : (e : ℕ) (f g : Row) → renumber m e (f ⧺ g) ≡ renumber m e f ⧺ renumber m e g
  unfolding renumber ◌⧺◌
  renumber_join e nothing g = refl
  renumber_join e (node h kids rest) g = ap (node (renumber_head m e h) (renumber m (inside h e) kids)) (renumber_join e rest g)

-- ---- every variable i under e abstractions of the row's own
abbrev pub EveryHead : (ℕ → ℕ → Type 0) → ℕ → Head → Type 0
EveryHead P e (symbol i c) = Unit {0}
EveryHead P e abstraction = Unit {0}
EveryHead P e (variable i) = P e i
EveryHead P e (pattern i c) = Unit {0}

unfoldable pub Every : (ℕ → ℕ → Type 0) → ℕ → Row → Type 0
Every P e nothing = Unit {0}
Every P e (node h kids rest) = EveryHead P e h × Every P (inside h e) kids × Every P e rest

module _ (P Q : ℕ → ℕ → Type 0) where
  implied_head : ((e i : ℕ) → P e i → Q e i) → (e : ℕ) (h : Head) → EveryHead P e h → EveryHead Q e h
  implied_head f e (symbol i c) p = tt
  implied_head f e abstraction p = tt
  implied_head f e (variable i) p = f e i p
  implied_head f e (pattern i c) p = tt

  pub implied : ((e i : ℕ) → P e i → Q e i) → (e : ℕ) (r : Row) → Every P e r → Every Q e r
  unfolding Every
  implied f e nothing p = tt
  implied f e (node h kids rest) p = (implied_head f e h p.0, implied f (inside h e) kids p.1, implied f e rest p.2)

  both_head : (e : ℕ) (h : Head) → EveryHead P e h → EveryHead Q e h → EveryHead (λ e i. P e i × Q e i) e h
  both_head e (symbol i c) p q = tt
  both_head e abstraction p q = tt
  both_head e (variable i) p q = (p, q)
  both_head e (pattern i c) p q = tt

  pub both : (e : ℕ) (r : Row) → Every P e r → Every Q e r → Every (λ e i. P e i × Q e i) e r
  unfolding Every
  both e nothing p q = tt
  both e (node h kids rest) p q = (both_head e h p.0 q.0, both (inside h e) kids p.1 q.1, both e rest p.2 q.2)

everywhere_head : (P : ℕ → ℕ → Type 0) → ((e i : ℕ) → P e i) → (e : ℕ) (h : Head) → EveryHead P e h
everywhere_head P f e (symbol i c) = tt
everywhere_head P f e abstraction = tt
everywhere_head P f e (variable i) = f e i
everywhere_head P f e (pattern i c) = tt

pub everywhere : (P : ℕ → ℕ → Type 0) → ((e i : ℕ) → P e i) → (e : ℕ) (r : Row) → Every P e r
unfolding Every
everywhere P f e nothing = tt
everywhere P f e (node h kids rest) = (everywhere_head P f e h, everywhere P f (inside h e) kids, everywhere P f e rest)

-- a variable lies under fewer abstractions than the row nests
pub inside_le : (h : Head) (e : ℕ) → inside h e ≤ suc e
unfolding inside
inside_le (symbol i c) e = omega arith
inside_le abstraction e = omega arith
inside_le (variable i) e = omega arith
inside_le (pattern i c) e = omega arith

shallow_head : (n e : ℕ) → e < n → (h : Head) → EveryHead (λ e i. e < n) e h
shallow_head n e l (symbol i c) = tt
shallow_head n e l abstraction = tt
shallow_head n e l (variable i) = l
shallow_head n e l (pattern i c) = tt

pub shallow : (n e : ℕ) (r : Row) → e + nesting r ≤ n → Every (λ e i. e < n) e r
unfolding Every nesting
shallow n e nothing l = tt
shallow n e (node h kids rest) l =
    let a : suc (nesting kids) ≤ max (suc (nesting kids)) (nesting rest) = le-max_left _ _ in
    let b : nesting rest ≤ max (suc (nesting kids)) (nesting rest) = le-max_right _ _ in
    (shallow_head n e (omega arith) h, shallow n (inside h e) kids (omega (arith, inside_le h e)), shallow n e rest (omega arith))

-- ---- renumbering, variable by variable
agree_head : (m n : ℕ → ℕ → ℕ) (e : ℕ) (h : Head) → EveryHead (λ e i. m e i ≡ n e i) e h → renumber_head m e h ≡ renumber_head n e h
unfolding renumber_head
agree_head m n e (symbol i c) p = refl
agree_head m n e abstraction p = refl
agree_head m n e (variable i) p = ap variable p
agree_head m n e (pattern i c) p = refl

pub agree : (m n : ℕ → ℕ → ℕ) (e : ℕ) (r : Row) → Every (λ e i. m e i ≡ n e i) e r → renumber m e r ≡ renumber n e r
unfolding Every renumber
agree m n e nothing p = refl
agree m n e (node h kids rest) p = rw (agree_head m n e h p.0, agree m n (inside h e) kids p.1, agree m n e rest p.2)

same_head : (m : ℕ → ℕ → ℕ) (e : ℕ) (h : Head) → EveryHead (λ e i. m e i ≡ i) e h → renumber_head m e h ≡ h
unfolding renumber_head
same_head m e (symbol i c) p = refl
same_head m e abstraction p = refl
same_head m e (variable i) p = ap variable p
same_head m e (pattern i c) p = refl

pub unmoved : (m : ℕ → ℕ → ℕ) (e : ℕ) (r : Row) → Every (λ e i. m e i ≡ i) e r → renumber m e r ≡ r
unfolding Every renumber
unmoved m e nothing p = refl
unmoved m e (node h kids rest) p = rw (same_head m e h p.0, unmoved m (inside h e) kids p.1, unmoved m e rest p.2)

twice_head : (m n : ℕ → ℕ → ℕ) (e : ℕ) (h : Head) → renumber_head n e (renumber_head m e h) ≡ renumber_head (λ e i. n e (m e i)) e h
unfolding renumber_head
twice_head m n e (symbol i c) = refl
twice_head m n e abstraction = refl
twice_head m n e (variable i) = refl
twice_head m n e (pattern i c) = refl

pub twice : (m n : ℕ → ℕ → ℕ) (e : ℕ) (r : Row) → renumber n e (renumber m e r) ≡ renumber (λ e i. n e (m e i)) e r
unfolding renumber
twice m n e nothing = refl
twice m n e (node h kids rest) = rw (inside_renumber m e h e, twice_head m n e h, twice m n (inside h e) kids, twice m n e rest)

-- ---- each variable gets an id
named_head_true : (m : ℕ → ℕ → ℕ) (e : ℕ) (h : Head) → named_head m e h ≡ true → EveryHead (λ e i. 1 ≤ m e i) e h
unfolding named_head
named_head_true m e (symbol i c) p = tt
named_head_true m e abstraction p = tt
named_head_true m e (variable i) p = leb-true 1 (m e i) p
named_head_true m e (pattern i c) p = tt

pub named_true : (m : ℕ → ℕ → ℕ) (e : ℕ) (r : Row) → named m e r ≡ true → Every (λ e i. 1 ≤ m e i) e r
unfolding named Every
named_true m e nothing p = tt
named_true m e (node h kids rest) p =
    let q = and_right (named_head m e h) _ p in (
      named_head_true m e h (and_left _ _ p),
      named_true m (inside h e) kids (and_left _ _ q),
      named_true m e rest (and_right (named m (inside h e) kids) _ q),
    )

true_named_head : (m : ℕ → ℕ → ℕ) (e : ℕ) (h : Head) → EveryHead (λ e i. 1 ≤ m e i) e h → named_head m e h ≡ true
unfolding named_head
true_named_head m e (symbol i c) p = refl
true_named_head m e abstraction p = refl
true_named_head m e (variable i) p = le-leb 1 (m e i) p
true_named_head m e (pattern i c) p = refl

pub true_named : (m : ℕ → ℕ → ℕ) (e : ℕ) (r : Row) → Every (λ e i. 1 ≤ m e i) e r → named m e r ≡ true
unfolding named Every
true_named m e nothing p = refl
true_named m e (node h kids rest) p =
    and_both _ _ (true_named_head m e h p.0) (and_both _ _ (true_named m (inside h e) kids p.1) (true_named m e rest p.2))

every_head_renumber : (P : ℕ → ℕ → Type 0) (m : ℕ → ℕ → ℕ) (e : ℕ) (h : Head) → EveryHead (λ e i. P e (m e i)) e h → EveryHead P e (renumber_head m e h)
unfolding renumber_head
every_head_renumber P m e (symbol i c) p = tt
every_head_renumber P m e abstraction p = tt
every_head_renumber P m e (variable i) p = p
every_head_renumber P m e (pattern i c) p = tt

pub every_renumber : (P : ℕ → ℕ → Type 0) (m : ℕ → ℕ → ℕ) (e : ℕ) (r : Row) → Every (λ e i. P e (m e i)) e r → Every P e (renumber m e r)
unfolding renumber Every
every_renumber P m e nothing p = tt
every_renumber P m e (node h kids rest) p =
    (every_head_renumber P m e h p.0, rw (inside_renumber m e h e) (every_renumber P m (inside h e) kids p.1), every_renumber P m e rest p.2)

-- ---- the table
abbrev pub IsId : ℕ → Type 0
IsId i = (1 ≤ i) × (i ≤ 65535)

table_ids : (e : ℕ) (h : Head) → InTable h → EveryHead (λ e i. IsId i) e h
unfolding InTable
table_ids e (symbol i c) p = tt
table_ids e abstraction p = tt
table_ids e (variable i) p = p
table_ids e (pattern i c) p = tt

pub formed_ids : (e : ℕ) (r : Row) → Formed r → Every (λ e i. IsId i) e r
unfolding Formed Every
formed_ids e nothing p = tt
formed_ids e (node h kids rest) p = (table_ids e h p.0, formed_ids (inside h e) kids p.2, formed_ids e rest p.3)

table_renumber : (m : ℕ → ℕ → ℕ) (e : ℕ) (h : Head) → InTable h → EveryHead (λ e i. IsId (m e i)) e h → InTable (renumber_head m e h)
unfolding InTable renumber_head
table_renumber m e (symbol i c) t p = t
table_renumber m e abstraction t p = t
table_renumber m e (variable i) t p = p
table_renumber m e (pattern i c) t p = t

pub formed_renumber : (m : ℕ → ℕ → ℕ) (e : ℕ) (r : Row) → Formed r → Every (λ e i. IsId (m e i)) e r → Formed (renumber m e r)
unfolding Formed Every renumber
formed_renumber m e nothing t p = tt
formed_renumber m e (node h kids rest) t p = (
  table_renumber m e h t.0 p.0,
  width_renumber m (inside h e) kids ∙ t.1 ∙ sym (count_renumber m e h),
  formed_renumber m (inside h e) kids t.2 p.1,
  formed_renumber m e rest t.3 p.2,
)

table_renumbered : (m : ℕ → ℕ → ℕ) (e : ℕ) (h : Head) → InTable (renumber_head m e h) → EveryHead (λ e i. IsId (m e i)) e h
unfolding InTable renumber_head
table_renumbered m e (symbol i c) t = tt
table_renumbered m e abstraction t = tt
table_renumbered m e (variable i) t = t
table_renumbered m e (pattern i c) t = tt

pub formed_renumbered : (m : ℕ → ℕ → ℕ) (e : ℕ) (r : Row) → Formed (renumber m e r) → Every (λ e i. IsId (m e i)) e r
unfolding Formed Every renumber
formed_renumbered m e nothing t = tt
formed_renumbered m e (node h kids rest) t =
    (table_renumbered m e h t.0, formed_renumbered m (inside h e) kids t.2, formed_renumbered m e rest t.3)
