-- Good words end by themselves: a good term or book that begins the same words as another one is that one. A term ends where its counts say, and a book where the lengths of its rules say.
use mathlib.Core.Path.{◌≡◌, refl, sym, ap, ◌∙◌}
use mathlib.Core.List.{List, [], ◌∷◌, ◌++◌, append_assoc}
use mathlib.Core.Option.{none, some}
use Prim.Native.Nat.{ℕ, zero, suc}
use native.Mathlib.Omega.{arith}
use lib.ListN.{length, take}
use lib.Seq.{take_at}
use Rattle.std.specs.Prelude.{Ok}
use Rattle.term.specs.Check.{IsTree, check, term_limits}
use Rattle.term.specs.Part.{part_end}
use Rattle.term.proofs.Laws.{never, good_tree, part_ends}
use Rattle.book.specs.Book.{Rule, rule_of, judge, check_book}
use Rattle.book.proofs.Laws.{words_rule, rule_words_lem, judge_over, check_empty}
use Rattle.text.specs.Number.{Read}
use Rattle.text.specs.BookText.{rule_words}
use Rattle.text.proofs.BookWrites.{Next, next_rule, book_judged}

-- what was read from the front of one text is one, and so is the text after it
pub same_read : {A : Type 0} (o : Read A) (a b : A) (us ts : List ℕ) → o ≡ some (a, us) → o ≡ some (b, ts) → (a ≡ b) × (us ≡ ts)
same_read none a b us ts p q = never (cc)
same_read {A} (some (c, vs)) a b us ts p q =
    let x : ◌≡◌ {A = A × List ℕ} (c, vs) (a, us) = cc in
    let y : ◌≡◌ {A = A × List ℕ} (c, vs) (b, ts) = cc in
    (sym (ap (λ (z : A × List ℕ). z.0) x) ∙ ap (λ (z : A × List ℕ). z.0) y, sym (ap (λ (z : A × List ℕ). z.1) x) ∙ ap (λ (z : A × List ℕ). z.1) y)

-- ---- terms
pub term_ends : (ws after : List ℕ) → check term_limits ws ≡ Ok tt → part_end (ws ++ after) ≡ length ws
term_ends ws after g = of_tree (good_tree term_limits (omega arith) ws g)
  where
    of_tree : IsTree term_limits ws → part_end (ws ++ after) ≡ length ws
    of_tree t =
        part_ends 64 (ws ++ after) t.tree after
        (record { formed = t.formed; few = t.few; low = t.low; wide = t.one; same = ap (λ (x : List ℕ). x ++ after) t.same })
        ∙ sym (ap (λ (x : List ℕ). length x) t.same)

pub term_front : (ws vs after beyond : List ℕ) → check term_limits ws ≡ Ok tt → check term_limits vs ≡ Ok tt → ws ++ after ≡ vs ++ beyond → ws ≡ vs
term_front ws vs after beyond g k e =
    let n : length vs ≡ length ws = sym (term_ends vs beyond k) ∙ ap (λ (x : List ℕ). part_end x) (sym e) ∙ term_ends ws after g in
    sym (take_at ws after (length ws) refl) ∙ ap (λ (x : List ℕ). take (length ws) x) e ∙ take_at vs beyond (length ws) n

-- ---- books
rule_before : (ws : List ℕ) (rule : Rule) (rest after : List ℕ) → rule_of ws ≡ some (rule, rest) → rule_of (ws ++ after) ≡ some (rule, rest ++ after)
rule_before ws rule rest after e =
    ap (λ (x : List ℕ). rule_of (x ++ after)) (rule_words_lem ws rule rest e)
    ∙ ap (λ (x : List ℕ). rule_of x) (append_assoc (rule_words rule.vars rule.left rule.right) rest after)
    ∙ words_rule rule.vars rule.left rule.right (rest ++ after)

-- the first rules are the same, and what stands after them
rule_front : (number more : ℕ) (ws vs after beyond : List ℕ) (n : Next number more ws) (m : Next number more vs) → ws ++ after ≡ vs ++ beyond
    → (n.rule ≡ m.rule) × (n.rest ++ after ≡ m.rest ++ beyond)
rule_front number more ws vs after beyond n m e =
    same_read (rule_of (ws ++ after)) n.rule m.rule (n.rest ++ after) (m.rest ++ beyond)
    (rule_before ws n.rule n.rest after n.is)
    (ap (λ (x : List ℕ). rule_of x) e ∙ rule_before vs m.rule m.rest beyond m.is)

rules_front : (more number : ℕ) (ws vs after beyond : List ℕ) → judge number more ws ≡ Ok tt → judge number more vs ≡ Ok tt → ws ++ after ≡ vs ++ beyond → ws ≡ vs
rules_front zero number [] [] after beyond g k e = refl
rules_front zero number [] (v ∷ vs) after beyond g k e = never (let z = judge_over number v vs in cc)
rules_front zero number (w ∷ ws) vs after beyond g k e = never (let z = judge_over number w ws in cc)
rules_front (suc more) number ws vs after beyond g k e =
    go (next_rule number more ws g) (next_rule number more vs k) (λ us ts a b i j q. rules_front more (suc number) us ts a b i j q)
  where
    go : (n : Next number more ws) (m : Next number more vs)
        → ((us ts a b : List ℕ) → judge (suc number) more us ≡ Ok tt → judge (suc number) more ts ≡ Ok tt → us ++ a ≡ ts ++ b → us ≡ ts) → ws ≡ vs
    go n m again =
        let f = rule_front number more ws vs after beyond n m e in
        let r : n.rest ≡ m.rest = again n.rest m.rest after beyond n.others m.others f.1 in
        rule_words_lem ws n.rule n.rest n.is
        ∙ ap (λ (x : Rule). rule_words x.vars x.left x.right ++ n.rest) f.0
        ∙ ap (λ (x : List ℕ). rule_words m.rule.vars m.rule.left m.rule.right ++ x) r
        ∙ sym (rule_words_lem vs m.rule m.rest m.is)

pub book_front : (ws vs after beyond : List ℕ) → check_book ws ≡ Ok tt → check_book vs ≡ Ok tt → ws ++ after ≡ vs ++ beyond → ws ≡ vs
book_front [] vs after beyond g k e = never (let z = check_empty in cc)
book_front (n ∷ ws) [] after beyond g k e = never (let z = check_empty in cc)
book_front (n ∷ ws) (m ∷ vs) after beyond g k e =
    let p : n ≡ m = cc in
    let q : ws ++ after ≡ vs ++ beyond = cc in
    let r : judge 0 n vs ≡ Ok tt = rw (← p) at (book_judged (m ∷ vs) k).2 in
    let s : ws ≡ vs = rules_front n 0 ws vs after beyond (book_judged (n ∷ ws) g).2 r q in
    cc
