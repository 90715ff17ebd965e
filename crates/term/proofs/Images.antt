-- The images of ids and words, case by case as the code finds them.
use mathlib.Core.Path.{◌≡◌, refl, sym, ap, ap₂, ◌∙◌}
use mathlib.Core.Bool.{Bool, true, false, ◌&&◌}
use mathlib.Core.List.{List}
use mathlib.Core.Option.{Option, none, some}
use Prim.Native.Nat.{ℕ, zero, suc, ◌+◌, ◌-◌, ◌≤◌, ◌<◌}
use native.Mathlib.Omega.{arith}
use lib.Dec.{leb, eqb}
use lib.ListN.{length, get_or}
use borrow.Author.Tests.{le-leb, lt-leb, leb-true}
use Rattle.term.specs.declared.image.Way.{Way}
use Rattle.term.specs.declared.image.Way.TheVariants.{ToBody, ToTerm}
use Rattle.std.specs.Prelude.{Some, None}
use Rattle.term.specs.Word.{Head, symbol, abstraction, variable, pattern, pick, kind, rank, count, ident, word, InTable, ident_of, kind_of, head_of}
use Rattle.term.specs.Check.{rank_or}
use Rattle.term.specs.Renumber.{position, parameter, three, id_term, id_body, within, id_term_within, inside, renumber_head, named_head}
use Rattle.term.specs.Told.Walk.{image, image_of, inside_word}
use Rattle.term.proofs.Words.{never, and_left, and_right, WordIs, word_head, head_word_lem, head_is_lem, kind_word}
use Rattle.term.proofs.Lists.{position_le}
use Rattle.term.proofs.Bodies.{term_own, term_inner, term_outside, body_own, body_inner, body_outside}

-- ---- ids
module _ (d : ℕ) (ys : List ℕ) (e i : ℕ) where
  pub body_id_own : i ≤ e → i ≡ id_body d ys e i
  body_id_own h = sym (body_own d ys e i h)

  pub body_id_none : e < i → i - e ≤ d → position (i - e) ys ≡ 0 → 0 ≡ id_body d ys e i
  body_id_none h l z = sym (body_inner d ys e i h (omega arith) ∙ rw z)

  pub body_id_inner : e < i → i - e ≤ d → (position (i - e) ys ≡ 0 → ⊥) → e + position (i - e) ys ≡ id_body d ys e i
  body_id_inner h l n = sym (body_inner d ys e i h (omega arith) ∙ given (position (i - e) ys) n)
    where
      given : (p : ℕ) → (p ≡ 0 → ⊥) → parameter e p ≡ e + p
      given zero z = absurd (z refl)
      given (suc p) z = refl

  pub body_id_outside : e < i → d < i - e → i - d + length ys ≡ id_body d ys e i
  body_id_outside h l = sym (body_outside d ys e i (omega arith))

  pub term_id_own : i ≤ e → i ≤ 65535 → i ≡ id_term_within d ys e i
  unfolding id_term_within within
  term_id_own h l = sym (rw (term_own d ys e i h, le-leb i 65535 l))

  pub term_id_inner : e < i → i - e ≤ length ys → within (e + get_or ys (i - e - 1) 0) ≡ id_term_within d ys e i
  unfolding id_term_within
  term_id_inner h l = sym (ap within (term_inner d ys e i h (omega arith)))

  pub term_id_outside : e < i → length ys < i - e → within (i - length ys + d) ≡ id_term_within d ys e i
  unfolding id_term_within
  term_id_outside h l = sym (ap within (term_outside d ys e i (omega arith)))

-- an image fits a word's id but for the few that a list has
within_small : (i : ℕ) → within i ≤ 65535
unfolding within
within_small i = go (leb i 65535) refl
  where
    go : (b : Bool) → leb i 65535 ≡ b → pick b i 0 ≤ 65535
    go true e = leb-true i 65535 e
    go false e = omega arith

pub image_small : (way : Way) (d : ℕ) (ys : List ℕ) (e i : ℕ) → length ys ≤ 4 → e ≤ 64 → i ≤ 65535 → image way d ys e i ≤ 65539
unfolding image id_term_within id_body
image_small ToTerm d ys e i k s t = omega (arith, within_small (id_term d ys e i))
image_small ToBody d ys e i k s t = go (leb i e) (leb i (e + d))
  where
    at_position : (p : ℕ) → p ≤ 4 → parameter e p ≤ 65539
    at_position zero h = omega arith
    at_position (suc p) h = omega arith

    go : (a b : Bool) → three a b i (parameter e (position (i - e) ys)) (i - d + length ys) ≤ 65539
    go true b = omega arith
    go false true = at_position (position (i - e) ys) (omega (arith, position_le (i - e) ys))
    go false false = omega arith

-- ---- words
module _ (m : ℕ → ℕ → ℕ) (e : ℕ) where
  pub image_none : (o : Option Head) → 2 < rank_or 4 o → None ≡ image_of m e o
  unfolding image_of
  image_none none h = refl
  image_none (some x) h = rw (lt-leb (rank x) 2 h)

  pub image_other : (w : ℕ) (o : Option Head) → WordIs w o → rank_or 4 o ≤ 2 → (rank_or 4 o ≡ 2 → ⊥) → Some w ≡ image_of m e o
  unfolding image_of named_head renumber_head rank
  image_other w none i h n = absurd (omega arith)
  image_other w (some (symbol a c)) i h n = ap Some (sym i.0)
  image_other w (some abstraction) i h n = ap Some (sym i.0)
  image_other w (some (variable a)) i h n = absurd (n refl)
  image_other w (some (pattern a c)) i h n = absurd (omega arith)

  -- the id of a variable's word
  variable_is : (w : ℕ) (o : Option Head) → WordIs w o → rank_or 4 o ≡ 2 → o ≡ some (variable (ident_of w))
  unfolding kind rank word count ident InTable
  variable_is w none i h = absurd (omega arith)
  variable_is w (some (symbol a c)) i h = absurd (omega arith)
  variable_is w (some abstraction) i h = absurd (omega arith)
  variable_is w (some (variable a)) i h =
      let q : a ≡ ident_of w = omega (arith, i.0, i.1.1) in ap (λ (x : ℕ). some (variable x)) q
  variable_is w (some (pattern a c)) i h = absurd (omega arith)

  pub image_variable : (w : ℕ) (o : Option Head) → WordIs w o → rank_or 4 o ≡ 2 → (i : ℕ) → i ≡ m e (ident_of w) → (i ≡ 0 → ⊥) → Some (33554432 + i) ≡ image_of m e o
  unfolding image_of named_head renumber_head kind rank word count ident
  image_variable w o g h i q n = sym (rw (variable_is w o g h, ← q, le-leb 1 i (omega (arith, n))))

  pub image_no_id : (w : ℕ) (o : Option Head) → WordIs w o → rank_or 4 o ≡ 2 → m e (ident_of w) ≡ 0 → None ≡ image_of m e o
  unfolding image_of named_head renumber_head rank
  image_no_id w o g h q = sym (rw (variable_is w o g h, q))

  -- what a word with an image is
  pub record Imaged (w v : ℕ) : Type 0 where
    pub head : Head
    pub is : head_of w ≡ some head
    pub low : rank head ≤ 2
    pub some_id : named_head m e head ≡ true
    pub out : v ≡ word (renumber_head m e head)

  pub imaged : (w v : ℕ) → image_of m e (head_of w) ≡ Some v → Imaged w v
  unfolding image_of
  imaged w v q = found (head_of w) refl q
    where
      picked : (h : Head) (b : Bool) → leb (rank h) 2 && named_head m e h ≡ b → pick b (Some (word (renumber_head m e h))) None ≡ Some v → head_of w ≡ some h → Imaged w v
      picked h true r q s =
          record {
            head = h;
            is = s;
            low = leb-true (rank h) 2 (and_left _ _ r);
            some_id = and_right (leb (rank h) 2) _ r;
            out = cc;
          }
      picked h false r q s = never (cc)

      found : (o : Option Head) → head_of w ≡ o → image_of m e o ≡ Some v → Imaged w v
      found none s q = never (cc)
      found (some h) s q = picked h (leb (rank h) 2 && named_head m e h) refl q s

  -- a head of a term whose word has no image has no id
  pub no_image : (h : Head) → InTable h → rank h ≤ 2 → image_of m e (head_of (word h)) ≡ None → named_head m e h ≡ false
  unfolding image_of
  no_image h t l q = picked (named_head m e h) refl (rw (head_word_lem h t, le-leb (rank h) 2 l) at q)
    where
      picked : (b : Bool) → named_head m e h ≡ b → pick b (Some (word (renumber_head m e h))) None ≡ None → named_head m e h ≡ false
      picked true r q = never (cc)
      picked false r q = r

pub inside_is : (h : Head) (e : ℕ) → InTable h → inside_word (word h) e ≡ inside h e
unfolding inside_word kind inside
inside_is h e t = rw (kind_word h t) (go h)
  where
    go : (h : Head) → pick (eqb (kind h) 1) (e + 1) e ≡ inside h e
    go (symbol i c) = refl
    go abstraction = omega arith
    go (variable i) = refl
    go (pattern i c) = refl

-- the abstractions around the children of a word with an image
pub inside_imaged : (m : ℕ → ℕ → ℕ) (e w v : ℕ) (i : Imaged m e w v) → inside_word w e ≡ inside i.head e
inside_imaged m e w v i = let h = head_is_lem w i.head i.is in rw (← h.0) (inside_is i.head e h.1)

pub inside_small : (w e : ℕ) → inside_word w e ≤ e + 1
unfolding inside_word
inside_small w e = go (eqb (kind_of w) 1)
  where
    go : (b : Bool) → pick b (e + 1) e ≤ e + 1
    go true = omega arith
    go false = omega arith

-- heads of a term whose images are the same word have the same image
pub same_image_lem : (m n : ℕ → ℕ → ℕ) (e : ℕ) (h g : Head) → InTable h → InTable g → rank h ≤ 2 → rank g ≤ 2
    → word (renumber_head m e h) ≡ word (renumber_head n e g) → renumber_head m e h ≡ renumber_head n e g
unfolding InTable kind rank renumber_head word count ident
same_image_lem m n e (symbol i c) (symbol j b) s t k l q =
    let x : i ≡ j = omega arith in let y : c ≡ b = omega arith in ap₂ symbol x y
same_image_lem m n e (symbol i c) abstraction s t k l q = absurd (omega arith)
same_image_lem m n e (symbol i c) (variable j) s t k l q = absurd (omega arith)
same_image_lem m n e (symbol i c) (pattern j b) s t k l q = absurd (omega arith)
same_image_lem m n e abstraction (symbol j b) s t k l q = absurd (omega arith)
same_image_lem m n e abstraction abstraction s t k l q = refl
same_image_lem m n e abstraction (variable j) s t k l q = absurd (omega arith)
same_image_lem m n e abstraction (pattern j b) s t k l q = absurd (omega arith)
same_image_lem m n e (variable i) (symbol j b) s t k l q = absurd (omega arith)
same_image_lem m n e (variable i) abstraction s t k l q = absurd (omega arith)
same_image_lem m n e (variable i) (variable j) s t k l q = let x : m e i ≡ n e j = omega arith in ap variable x
same_image_lem m n e (variable i) (pattern j b) s t k l q = absurd (omega arith)
same_image_lem m n e (pattern i c) g s t k l q = absurd (omega arith)

-- the head of a word of a variable
pub variable_word : (w : ℕ) → rank_or 4 (head_of w) ≡ 2 → head_of w ≡ some (variable (ident_of w))
variable_word w e = variable_is (λ e i. i) 0 w (head_of w) (word_head w) e
