-- One turn of writing the rules of an accepted book: the next rule lies at the offset, and what was written and what is left are the text.
use mathlib.Core.Path.{◌≡◌, sym, ap, ◌∙◌}
use mathlib.Core.List.{List, [], ◌++◌}
use Prim.Native.Nat.{ℕ, suc, ◌+◌, ◌-◌, ◌≤◌, ◌<◌}
use native.Mathlib.Omega.{arith}
use lib.ListN.{length, get_or, take, drop}
use Rattle.std.specs.Prelude.{Ok}
use Rattle.book.specs.Book.{judge}
use Rattle.text.specs.BookText.{rule_text, rules_text}
use Rattle.book.proofs.Laws.{rule_words_lem}
use Rattle.text.proofs.BookWrites.{Next, next_rule, lies_vars, lies_left, lies_right, lies_length, left_part, right_part, after_part, rules_next, rule_short}
use Rattle.text.proofs.Wrote.{Wrote}

-- the next rule lies at the offset a of a book
pub record Turn (book : List ℕ) (count number a : ℕ) : Type 0 where
  pub next : Next number (count - (number + 1)) (drop a book)
  pub vars_few : get_or book a 0 ≤ 16
  pub left_few : get_or book (a + 1) 0 ≤ 64
  pub right_few : get_or book (a + 2) 0 ≤ 64
  pub fits : a + 3 + get_or book (a + 1) 0 + get_or book (a + 2) 0 ≤ length book
  pub vars_here : get_or book a 0 ≡ next.rule.vars
  pub left_here : take (a + 3 + get_or book (a + 1) 0 - (a + 3)) (drop (a + 3) book) ≡ next.rule.left
  pub right_here : take (a + 3 + get_or book (a + 1) 0 + get_or book (a + 2) 0 - (a + 3 + get_or book (a + 1) 0)) (drop (a + 3 + get_or book (a + 1) 0) book) ≡ next.rule.right
  pub after : drop (a + 3 + get_or book (a + 1) 0 + get_or book (a + 2) 0) book ≡ next.rest

module _ (book : List ℕ) (count number a : ℕ) where
  turn_at : Next number (count - (number + 1)) (drop a book) → Turn book count number a
  turn_at n =
      let v = n.rule.vars in
      let l = n.rule.left in
      let r = n.rule.right in
      let e : drop a book ≡ _ = rule_words_lem (drop a book) n.rule n.rest n.is in
      let lv = lies_vars book a v l r n.rest e in
      let ll = lies_left book a v l r n.rest e in
      let lr = lies_right book a v l r n.rest e in
      record {
        next = n;
        vars_few = omega (arith, lv, n.few);
        left_few = omega (arith, ll, n.left_few);
        right_few = omega (arith, lr, n.right_few);
        fits = omega (arith, ll, lr, lies_length book a v l r n.rest e);
        vars_here = lv;
        left_here = rw ll (left_part book a v l r n.rest e);
        right_here = rw (ll, lr) (right_part book a v l r n.rest e);
        after = rw (ll, lr) (after_part book a v l r n.rest e);
      }

  pub turn : number < count → judge number (count - number) (drop a book) ≡ Ok tt → Turn book count number a
  turn h g =
      let z : count - number ≡ suc (count - (number + 1)) = omega arith in turn_at (next_rule number (count - (number + 1)) (drop a book) (rw z at g))

  module _ (t : Turn book count number a) where
    pub turn_judged : judge (number + 1) (count - (number + 1)) (drop (a + 3 + get_or book (a + 1) 0 + get_or book (a + 2) 0) book) ≡ Ok tt
    turn_judged = let z : number + 1 ≡ suc number = omega arith in rw t.after (ap (λ (x : ℕ). judge x (count - (number + 1)) t.next.rest) z ∙ t.next.others)

    pub turn_text : (bs text : List ℕ) → number < count → text ≡ bs ++ rules_text number (count - number) (drop a book)
        → text ≡ (bs ++ rule_text number t.next.rule []) ++ rules_text (number + 1) (count - (number + 1)) (drop (a + 3 + get_or book (a + 1) 0 + get_or book (a + 2) 0) book)
    turn_text bs text h e =
        let z : count - number ≡ suc (count - (number + 1)) = omega arith in
        let y : number + 1 ≡ suc number = omega arith in
        rw t.after
        (rules_next number (count - (number + 1)) (drop a book) t.next.rest bs text t.next.rule t.next.is (rw z at e)
        ∙ ap (λ (x : ℕ). (bs ++ rule_text number t.next.rule []) ++ rules_text x (count - (number + 1)) t.next.rest) (sym y))

    pub turn_wrote : (mid done : List ℕ) (to end : ℕ)
        → Wrote mid to end done (rule_text number (record { vars = get_or book a 0; left = take (a + 3 + get_or book (a + 1) 0 - (a + 3)) (drop (a + 3) book); right = take (a + 3 + get_or book (a + 1) 0 + get_or book (a + 2) 0 - (a + 3 + get_or book (a + 1) 0)) (drop (a + 3 + get_or book (a + 1) 0) book) }) [])
        → Wrote mid to end done (rule_text number t.next.rule [])
    turn_wrote mid done to end w = rw (t.vars_here, t.left_here, t.right_here) at w

    pub turn_short : number ≤ 63 → length (rule_text number t.next.rule []) ≤ 2000
    turn_short h = rule_short number t.next.rule h t.next.few t.next.left_few t.next.right_few

-- before the first rule
pub begun_judged : (n : ℕ) (ws : List ℕ) → judge 0 n ws ≡ Ok tt → judge 0 (n - 0) ws ≡ Ok tt
begun_judged n ws g = let z : n - 0 ≡ n = omega arith in rw z g

pub begun_text : (n : ℕ) (ws : List ℕ) → rules_text 0 n ws ≡ [] ++ rules_text 0 (n - 0) ws
begun_text n ws = let z : n - 0 ≡ n = omega arith in rw z
