-- Rows and their words: words are uniquely readable, both ways.
use mathlib.Core.Path.{◌≡◌, refl, sym, ap, ap₂, ◌∙◌}
use mathlib.Core.List.{List, [], ◌∷◌, ◌++◌, append_assoc}
use mathlib.Core.Option.{Option, none, some}
use Prim.Native.Nat.{ℕ, zero, suc, ◌+◌, ◌≤◌, max}
use native.Mathlib.Omega.{arith}
use native.Mathlib.Nat.{suc-add, zero-add, add-zero}
use Rattle.term.specs.Word.{Head, count, head_of}
use Rattle.term.specs.Row.{Row, nothing, node, width, words, nesting, ranks, Formed, ◌⧺◌, firsts, others, Got, got_node, count_o, read}
use Rattle.term.proofs.Words.{head_word_lem, WordIs, word_head}

-- ---- two rows side by side
pub join_nothing : (f : Row) → f ⧺ nothing ≡ f
unfolding ◌⧺◌
join_nothing nothing = refl
join_nothing (node h kids rest) = ap (node h kids) (join_nothing rest)

pub join_join : (f g k : Row) → (f ⧺ g) ⧺ k ≡ f ⧺ (g ⧺ k)
unfolding ◌⧺◌
join_join nothing g k = refl
join_join (node h kids rest) g k = ap (node h kids) (join_join rest g k)

pub width_join : (f g : Row) → width (f ⧺ g) ≡ width f + width g
unfolding ◌⧺◌ width
width_join nothing g = sym (zero-add (width g))
width_join (node h kids rest) g = rw (width_join rest g, suc-add)

pub words_join : (f g : Row) → words (f ⧺ g) ≡ words f ++ words g
unfolding ◌⧺◌ words
words_join nothing g = refl
words_join (node h kids rest) g = rw (words_join rest g, append_assoc)

pub formed_join : (f g : Row) → Formed f → Formed g → Formed (f ⧺ g)
unfolding ◌⧺◌ Formed
formed_join nothing g p q = q
formed_join (node h kids rest) g p q = (p.0, p.1, p.2, formed_join rest g p.3 q)

pub nesting_join : (f g : Row) → nesting (f ⧺ g) ≡ max (nesting f) (nesting g)
unfolding ◌⧺◌ nesting
nesting_join nothing g = omega arith
nesting_join (node h kids rest) g = omega (arith, nesting_join rest g)

pub ranks_join : (f g : Row) → ranks (f ⧺ g) ≡ max (ranks f) (ranks g)
unfolding ◌⧺◌ ranks
ranks_join nothing g = omega arith
ranks_join (node h kids rest) g = omega (arith, ranks_join rest g)

-- ---- the first trees and the others
pub firsts_join : (f g : Row) → firsts (width f) (f ⧺ g) ≡ f
unfolding ◌⧺◌ firsts width
firsts_join nothing nothing = refl
firsts_join nothing (node h kids rest) = refl
firsts_join (node h kids rest) g = ap (node h kids) (firsts_join rest g)

pub others_join : (f g : Row) → others (width f) (f ⧺ g) ≡ g
unfolding ◌⧺◌ others width
others_join nothing nothing = refl
others_join nothing (node h kids rest) = refl
others_join (node h kids rest) g = others_join rest g

pub firsts_others : (n : ℕ) (f : Row) → firsts n f ⧺ others n f ≡ f
unfolding ◌⧺◌ firsts others
firsts_others n nothing = refl
firsts_others zero (node h kids rest) = refl
firsts_others (suc n) (node h kids rest) = ap (node h kids) (firsts_others n rest)

pub width_firsts : (n : ℕ) (f : Row) → n ≤ width f → width (firsts n f) ≡ n
unfolding firsts width
width_firsts n nothing h = omega arith
width_firsts zero (node h kids rest) l = refl
width_firsts (suc n) (node h kids rest) l = ap suc (width_firsts n rest (omega arith))

pub width_others : (n m : ℕ) (f : Row) → width f ≡ n + m → width (others n f) ≡ m
unfolding others width
width_others n m nothing h = omega arith
width_others zero m (node h kids rest) e = omega arith
width_others (suc n) m (node h kids rest) e = width_others n m rest (omega arith)

pub formed_firsts : (n : ℕ) (f : Row) → Formed f → Formed (firsts n f)
unfolding firsts Formed
formed_firsts n nothing p = tt
formed_firsts zero (node h kids rest) p = tt
formed_firsts (suc n) (node h kids rest) p = (p.0, p.1, p.2, formed_firsts n rest p.3)

pub formed_others : (n : ℕ) (f : Row) → Formed f → Formed (others n f)
unfolding others Formed
formed_others n nothing p = tt
formed_others zero (node h kids rest) p = p
formed_others (suc n) (node h kids rest) p = formed_others n rest p.3

-- the clauses of their definitions, and all trees of a row
pub firsts_nothing : (n : ℕ) → firsts n nothing ≡ nothing
unfolding firsts
firsts_nothing n = refl

pub firsts_none : (f : Row) → firsts 0 f ≡ nothing
unfolding firsts
firsts_none nothing = refl
firsts_none (node h kids rest) = refl

pub firsts_node : (n : ℕ) (h : Head) (kids rest : Row) → firsts (suc n) (node h kids rest) ≡ node h kids (firsts n rest)
unfolding firsts
firsts_node n h kids rest = refl

pub others_none : (f : Row) → others 0 f ≡ f
unfolding others
others_none nothing = refl
others_none (node h kids rest) = refl

pub others_node : (n : ℕ) (h : Head) (kids rest : Row) → others (suc n) (node h kids rest) ≡ others n rest
unfolding others
others_node n h kids rest = refl

pub firsts_all : (f : Row) → firsts (width f) f ≡ f
unfolding firsts width
firsts_all nothing = refl
firsts_all (node h kids rest) = ap (node h kids) (firsts_all rest)

pub others_all : (f : Row) → others (width f) f ≡ nothing
unfolding others width
others_all nothing = refl
others_all (node h kids rest) = others_all rest

-- ---- what is written is read
abbrev before : Row → Got → Got
before f none = none
before f (some p) = some (f ⧺ p.0, p.1)

before_before : (f g : Row) (o : Got) → before f (before g o) ≡ before (f ⧺ g) o
before_before f g none = refl
before_before f g (some p) = rw join_join

before_nothing : (o : Got) → before nothing o ≡ o
unfolding ◌⧺◌
before_nothing none = refl
before_nothing (some p) = refl

before_node : (h : Head) (kids rest : Row) (o : Got) → width kids ≡ count h → got_node (some h) (before (kids ⧺ rest) o) ≡ before (node h kids rest) o
unfolding ◌⧺◌
before_node h kids rest none e = refl
before_node h kids rest (some p) e = rw (← e, join_join, firsts_join, others_join)

read_joined : (f : Row) → Formed f → (n : ℕ) (ws : List ℕ) → read (width f + n) (words f ++ ws) ≡ before f (read n ws)
unfolding read words width Formed
read_joined nothing p n ws = rw (zero-add, before_nothing)
read_joined (node h kids rest) p n ws =
    rw (
      suc-add (width rest) n,
      append_assoc (words kids) (words rest) ws,
      head_word_lem h p.0,
      ← p.1,
      read_joined kids p.2 (width rest + n) (words rest ++ ws),
      read_joined rest p.3 n ws,
      before_before kids rest (read n ws),
    )
    (before_node h kids rest (read n ws) p.1)

read_none : (ws : List ℕ) → read 0 ws ≡ some (nothing, ws)
unfolding read
read_none [] = refl
read_none (w ∷ ws) = refl

-- reading the words of a row gives the row, and the words after it
pub read_words_lem : (f : Row) → Formed f → (ws : List ℕ) → read (width f) (words f ++ ws) ≡ some (f, ws)
read_words_lem f p ws = rw (read_none, join_nothing, add-zero) at (read_joined f p 0 ws)

-- ---- what is read has those words
pub record Reads (n : ℕ) (ws : List ℕ) (f : Row) (after : List ℕ) : Type 0 where
  pub same : words f ++ after ≡ ws
  pub wide : width f ≡ n
  pub formed : Formed f

abbrev ReadsO : ℕ → List ℕ → Got → Type 0
ReadsO n ws none = Unit {0}
ReadsO n ws (some p) = Reads n ws p.0 p.1

reads_node : (w n : ℕ) (ws : List ℕ) (x : Option Head) (o : Got) → WordIs w x → ReadsO (count_o x + n) ws o → ReadsO (suc n) (w ∷ ws) (got_node x o)
unfolding words width Formed
reads_node w n ws none o e r = tt
reads_node w n ws (some h) none e r = tt
reads_node w n ws (some h) (some p) e r =
    let c = count h in
    let f = p.0 in
    record {
      same = ap₂ ◌∷◌ e.0 (rw (← words_join (firsts c f) (others c f), firsts_others) r.same);
      wide = ap suc (width_others c n f r.wide);
      formed = (e.1, width_firsts c f (omega arith), formed_firsts c f r.formed, formed_others c f r.formed);
    }

reads : (n : ℕ) (ws : List ℕ) → ReadsO n ws (read n ws)
unfolding read words width Formed
reads zero [] = record { same = refl; wide = refl; formed = tt }
reads (suc n) [] = tt
reads zero (w ∷ ws) = record { same = refl; wide = refl; formed = tt }
reads (suc n) (w ∷ ws) = reads_node w n ws (head_of w) (read (count_o (head_of w) + n) ws) (word_head w) (reads (count_o (head_of w) + n) ws)

pub words_read : (n : ℕ) (ws : List ℕ) (f : Row) (after : List ℕ) → read n ws ≡ some (f, after) → Reads n ws f after
words_read n ws f after e = rw e at (reads n ws)

-- two rows of one width that begin the same words are one row
pub words_unique : (f g : Row) (s t : List ℕ) → Formed f → Formed g → width f ≡ width g → words f ++ s ≡ words g ++ t → (f ≡ g) × (s ≡ t)
words_unique f g s t p q wide same = pair_of (read_words_lem f p s) (rw (← same, ← wide) at (read_words_lem g q t))
  where
    pair_of : {o : Got} → o ≡ some (f, s) → o ≡ some (g, t) → (f ≡ g) × (s ≡ t)
    pair_of a b = let e : ◌≡◌ {A = Got} (some (f, s)) (some (g, t)) = sym a ∙ b in
        let q : ◌≡◌ {A = Row × List ℕ} (f, s) (g, t) = cc in (ap (λ (x : Row × List ℕ). x.0) q, ap (λ (x : Row × List ℕ). x.1) q)
