-- Comparing two parts: what is left of both passes gives the answer, one law for each way through the loops of left_open.
use mathlib.Core.Path.{◌≡◌, refl, sym, ap, ap₂, ◌∙◌}
use mathlib.Core.Bool.{Bool, true, false, ◌&&◌}
use mathlib.Core.List.{List, [], ◌∷◌}
use mathlib.Core.Option.{Option, none, some}
use Prim.Native.Nat.{ℕ, zero, suc, ◌+◌, ◌-◌, ◌≤◌, ◌<◌}
use native.Mathlib.Omega.{arith}
use native.Mathlib.Numerals.{add-one}
use lib.Dec.{eqb, ltb}
use lib.ListN.{length, drop, get_or, set, length-set, drop_of_length-le}
use lib.Seq.{drop-cons, get_or-set_same, get_or-set_other}
use borrow.Author.Tests.{eqb-true, eqb-false, eq-eqb, ne_eqb, leb-true, ltb-true, ltb-false}
use Rattle.std.specs.Prelude.{Option as StdOption, Some, None}
use Rattle.term.specs.declared.same.Met.{Met}
use Rattle.term.specs.declared.same.Met.TheVariants.{Both, Neither, Apart}
use Rattle.term.specs.Word.{Head, pick, count, count_of, ident_of, head_of}
use Rattle.term.specs.Row.{Row}
use Rattle.term.specs.Check.{rank_or}
use Rattle.term.specs.Renumber.{position, good_list, id_body, inside, renumber_head}
use Rattle.term.specs.Part.{body_of, same_words, same_o, same_body}
use Rattle.term.specs.Told.Walk.{image_of, same_image, inside_word, inner_word, meets, meeting}
use Rattle.term.proofs.Words.{never, and_left, and_right, head_is_lem, count_word_lem, word_head}
use Rattle.term.proofs.Lists.{Sought, found_here, found_nowhere, found_later, sought_next}
use Rattle.term.proofs.Renumbers.{count_renumber, inside_renumber}
use Rattle.term.proofs.Images.{body_id_none, body_id_inner, image_variable, image_no_id, Imaged, imaged, inside_imaged, inside_small, same_image_lem}
use Rattle.term.proofs.Pass.{Level, level, settle, near, ahead, images, words_of, images_body}

-- ---- what both passes meet
pub same_met : Option (List ℕ) → Option (List ℕ) → Bool
same_met none p = false
same_met (some us) none = false
same_met (some us) (some vs) = same_words us vs

met_is : (o p : Option Row) → same_o o p ≡ same_met (words_of o) (words_of p)
unfolding same_met
met_is none p = refl
met_is (some b) none = refl
met_is (some b) (some a) = refl

met_none : (o : Option (List ℕ)) → same_met o none ≡ false
unfolding same_met
met_none none = refl
met_none (some us) = refl

met_like : (v : ℕ) (o p : Option (List ℕ)) → same_met (ahead (Some v) o) (ahead (Some v) p) ≡ same_met o p
unfolding same_words same_met ahead
met_like v none p = refl
met_like v (some us) none = refl
met_like v (some us) (some vs) = rw (eq-eqb v v refl)

met_unlike : (i j : StdOption ℕ) (o p : Option (List ℕ)) → same_image i j ≡ false → same_met (ahead i o) (ahead j p) ≡ false
unfolding same_words same_image same_met ahead
met_unlike None j o p e = refl
met_unlike (Some v) None o p e = met_none (ahead (Some v) o)
met_unlike (Some v) (Some u) none p e = refl
met_unlike (Some v) (Some u) (some us) none e = refl
met_unlike (Some v) (Some u) (some us) (some vs) e = rw e

-- the one image of two words
like : (i j : StdOption ℕ) → same_image i j ≡ true → (v : ℕ) × (i ≡ Some v) × (j ≡ Some v)
unfolding same_image
like None j q = never (cc)
like (Some v) None q = never (cc)
like (Some v) (Some u) q = (v, refl, ap Some (sym (eqb-true v u q)))

-- two words with one image have as many children, under as many abstractions
count_of_lem : (m : ℕ → ℕ → ℕ) (e w v : ℕ) (i : Imaged m e w v) → count_of w ≡ count (renumber_head m e i.head)
count_of_lem m e w v i =
    let h = head_is_lem w i.head i.is in
    ap count_of (sym h.0) ∙ count_word_lem i.head h.1 ∙ sym (count_renumber m e i.head)

inside_of_lem : (m : ℕ → ℕ → ℕ) (e w v : ℕ) (i : Imaged m e w v) → inside_word w e ≡ inside (renumber_head m e i.head) e
inside_of_lem m e w v i = inside_imaged m e w v i ∙ sym (inside_renumber m e i.head e)

one_head : (m n : ℕ → ℕ → ℕ) (e w x v : ℕ) (i : Imaged m e w v) (j : Imaged n e x v) → renumber_head m e i.head ≡ renumber_head n e j.head
one_head m n e w x v i j =
    same_image_lem m n e i.head j.head (head_is_lem w i.head i.is).1 (head_is_lem x j.head j.is).1 i.low j.low (sym i.out ∙ j.out)

alike : (m n : ℕ → ℕ → ℕ) (e w x v : ℕ) → Imaged m e w v → Imaged n e x v → (count_of w ≡ count_of x) × (inside_word w e ≡ inside_word x e)
alike m n e w x v i j = (
  count_of_lem m e w v i ∙ ap count (one_head m n e w x v i j) ∙ sym (count_of_lem n e x v j),
  inside_of_lem m e w v i ∙ ap (λ (h : Head). inside h e) (one_head m n e w x v i j) ∙ sym (inside_of_lem n e x v j),
)

-- ---- the arrays are the open levels
-- the first n of the arrays, the last first
pub opens : ℕ → List ℕ → List ℕ → List Level
opens zero left under = []
opens (suc n) left under = level (get_or left n 0) (get_or under n 0) ∷ opens n left under

length_opens : (n : ℕ) (left under : List ℕ) → length (opens n left under) ≡ n
unfolding opens
length_opens zero left under = refl
length_opens (suc n) left under = ap suc (length_opens n left under)

opens_set : (n : ℕ) (left under : List ℕ) (i v j x : ℕ) → n ≤ i → n ≤ j → opens n (set left i v) (set under j x) ≡ opens n left under
unfolding opens
opens_set zero left under i v j x h l = refl
opens_set (suc n) left under i v j x h l =
    rw (get_or-set_other left i n v 0 (λ e. omega arith), get_or-set_other under j n x 0 (λ e. omega arith), opens_set n left under i v j x (omega arith) (omega arith))

opens_left : (n : ℕ) (left under : List ℕ) (i v : ℕ) → n ≤ i → opens n (set left i v) under ≡ opens n left under
unfolding opens
opens_left zero left under i v h = refl
opens_left (suc n) left under i v h = rw (get_or-set_other left i n v 0 (λ e. omega arith), opens_left n left under i v (omega arith))

pub closed_level : (n : ℕ) (left under : List ℕ) → (n ≡ 0 → ⊥) → get_or left (n - 1) 0 ≡ 0 → settle (opens n left under) ≡ settle (opens (n - 1) left under)
unfolding settle opens
closed_level zero left under z e = absurd (z refl)
closed_level (suc m) left under z e = let p : suc m - 1 ≡ m = omega arith in rw p (let q : get_or left m 0 ≡ 0 = rw p at e in rw q)

settled : (k e : ℕ) (s : List Level) → (k ≡ 0 → ⊥) → settle (level k e ∷ s) ≡ level k e ∷ s
unfolding settle
settled zero e s z = absurd (z refl)
settled (suc k) e s z = refl

opened : (n : ℕ) (left under : List ℕ) → (n ≡ 0 → ⊥) → (get_or left (n - 1) 0 ≡ 0 → ⊥)
    → settle (opens n left under) ≡ level (get_or left (n - 1) 0) (get_or under (n - 1) 0) ∷ opens (n - 1) left under
unfolding opens
opened zero left under z e = absurd (z refl)
opened (suc m) left under z e = let p : suc m - 1 ≡ m = omega arith in rw p (settled (get_or left m 0) (get_or under m 0) (opens m left under) (rw p at e))

push : (n : ℕ) (left under : List ℕ) (u v x : ℕ) → (n ≡ 0 → ⊥) → n < length left → n < length under
    → opens (n + 1) (set (set left (n - 1) u) n v) (set under n x) ≡ level v x ∷ level u (get_or under (n - 1) 0) ∷ opens (n - 1) left under
unfolding opens
push zero left under u v x z h l = absurd (z refl)
push (suc m) left under u v x z h l =
    let p : suc m - 1 ≡ m = omega arith in
    rw (
      p,
      add-one (suc m),
      get_or-set_same (set left m u) (suc m) v 0 (simp length-set (omega arith)),
      get_or-set_same under (suc m) x 0 l,
      get_or-set_other (set left m u) (suc m) m v 0 (λ e. omega arith),
      get_or-set_other under (suc m) m x 0 (λ e. omega arith),
      get_or-set_same left m u 0 (omega arith),
      opens_set m (set left m u) under (suc m) v (suc m) x (omega arith) (omega arith),
      opens_left m left under m u (omega arith),
    )

-- no more abstractions stand around a level than there are levels around it
abbrev pub Low : ℕ → List ℕ → Type 0
Low n under = (i : ℕ) → i < n → get_or under i 0 ≤ i

pub low_next : (n : ℕ) (under : List ℕ) (x : ℕ) → Low n under → n < length under → x ≤ n → Low (n + 1) (set under n x)
low_next n under x h l b i s = go (eqb i n) refl
  where
    go : (t : Bool) → eqb i n ≡ t → get_or (set under n x) i 0 ≤ i
    go true e = let q : i ≡ n = eqb-true i n e in rw (q, get_or-set_same under n x 0 l) b
    go false e = rw (get_or-set_other under n i x 0 (eqb-false i n e)) (h i (let q = eqb-false i n e in omega arith))

pub low_first : (under : List ℕ) → Low 1 (0 ∷ under)
low_first under zero h = omega arith
low_first under (suc i) h = absurd (omega arith)

-- the children of a word of the innermost level
pub low_inside : (n : ℕ) (under : List ℕ) (w x : ℕ) → Low n under → (n ≡ 0 → ⊥) → x ≡ inside_word w (get_or under (n - 1) 0) → x ≤ n
low_inside n under w x h z e = omega (arith, e, inside_small w (get_or under (n - 1) 0), h (n - 1) (omega (arith, z)), z)

-- ---- the pass
module _ (d : ℕ) (ys ws : List ℕ) (c : ℕ) (zs vs : List ℕ) where
  -- what is left to compare, where n levels lie in the arrays
  abbrev pub Rest : ℕ → ℕ → List ℕ → List ℕ → Type 0
  Rest at n left under =
      same_body d ys ws c zs vs ≡ same_met (images (id_body d ys) at (settle (opens n left under)) (drop at ws)) (images (id_body c zs) at (settle (opens n left under)) (drop at vs))

  pub start : good_list d ys ≡ true → good_list c zs ≡ true → (left under : List ℕ) → Rest 0 1 (1 ∷ left) (0 ∷ under)
  unfolding settle opens same_body
  start g h left under = met_is (body_of d ys ws) (body_of c zs vs) ∙ ap₂ same_met (sym (images_body d ys ws g)) (sym (images_body c zs vs h))

  -- the answer where some levels are left open
  pub differ : (n : ℕ) → (n ≡ 0 → ⊥) → same_body d ys ws c zs vs ≡ false → eqb n 0 ≡ same_body d ys ws c zs vs
  differ n z e = rw (e, ne_eqb n 0 z)

  all_met : (m : ℕ → ℕ → ℕ) (at : ℕ) (us : List ℕ) → images m at [] us ≡ some []
  unfolding images
  all_met m at [] = refl
  all_met m at (u ∷ us) = refl

  module _ (at n : ℕ) (left under : List ℕ) (rest : Rest at n left under) where
    pub whole : n ≡ 0 → eqb n 0 ≡ same_body d ys ws c zs vs
    unfolding settle opens same_words same_met
    whole z = sym (rest ∙ rw z (ap₂ same_met (all_met (id_body d ys) at (drop at ws)) (all_met (id_body c zs) at (drop at vs))))

    pub closed : (n ≡ 0 → ⊥) → get_or left (n - 1) 0 ≡ 0 → Rest at (n - 1) left under
    closed z e = rest ∙ rw (closed_level n left under z e)

    module _ (z : n ≡ 0 → ⊥) (k : get_or left (n - 1) 0 ≡ 0 → ⊥) where
      -- the abstractions around the innermost level, and the levels around it
      abbrev around : ℕ
      around = get_or under (n - 1) 0

      abbrev outer : List Level
      outer = opens (n - 1) left under

      open_level : same_body d ys ws c zs vs
          ≡ same_met (images (id_body d ys) at (level (get_or left (n - 1) 0) around ∷ outer) (drop at ws)) (images (id_body c zs) at (level (get_or left (n - 1) 0) around ∷ outer) (drop at vs))
      open_level = rest ∙ rw (opened n left under z k)

      depth : suc (length outer) ≡ n
      depth = omega (arith, length_opens (n - 1) left under, z)

      no_word : (m : ℕ → ℕ → ℕ) (us : List ℕ) → length us ≤ at → images m at (level (get_or left (n - 1) 0) around ∷ outer) (drop at us) ≡ none
      unfolding images
      no_word m us h = rw (drop_of_length-le us h)

      a_word : (m : ℕ → ℕ → ℕ) (us : List ℕ) (b : Bool) → at < length us → near at n ≡ b
          → images m at (level (get_or left (n - 1) 0) around ∷ outer) (drop at us)
          ≡ pick b (ahead (image_of m around (head_of (get_or us at 0))) (images m (at + 1) (settle (level (count_of (get_or us at 0)) (inside_word (get_or us at 0) around) ∷ level (get_or left (n - 1) 0 - 1) around ∷ outer)) (drop (suc at) us))) none
      unfolding images
      a_word m us b h q = rw (drop-cons us at 0 h, depth, q)

      -- a word is missing, or too far, or too deep
      pub stopped : ltb at (length ws) && (ltb at (length vs) && near at n) ≡ false → same_body d ys ws c zs vs ≡ false
      unfolding same_met
      stopped q = open_level ∙ go (ltb at (length ws)) (ltb at (length vs)) (near at n) refl refl refl q
        where
          go : (a b g : Bool) → ltb at (length ws) ≡ a → ltb at (length vs) ≡ b → near at n ≡ g → a && (b && g) ≡ false
              → same_met (images (id_body d ys) at (level (get_or left (n - 1) 0) around ∷ outer) (drop at ws)) (images (id_body c zs) at (level (get_or left (n - 1) 0) around ∷ outer) (drop at vs)) ≡ false
          go false b g i j h r = rw (no_word (id_body d ys) ws (ltb-false at (length ws) i))
          go true false g i j h r = rw (no_word (id_body c zs) vs (ltb-false at (length vs) j)) (met_none (images (id_body d ys) at (level (get_or left (n - 1) 0) around ∷ outer) (drop at ws)))
          go true true false i j h r = rw (a_word (id_body d ys) ws false (ltb-true at (length ws) i) h)
          go true true true i j h r = never (cc)

      module _ (stand : ltb at (length ws) && (ltb at (length vs) && near at n) ≡ true) where
        here : at < length ws
        here = ltb-true at (length ws) (and_left (ltb at (length ws)) _ stand)

        there : at < length vs
        there = ltb-true at (length vs) (and_left (ltb at (length vs)) _ (and_right (ltb at (length ws)) _ stand))

        is_near : near at n ≡ true
        is_near = and_right (ltb at (length vs)) _ (and_right (ltb at (length ws)) _ stand)

        pub unlike : same_image (image_of (id_body d ys) around (head_of (get_or ws at 0))) (image_of (id_body c zs) around (head_of (get_or vs at 0))) ≡ false → same_body d ys ws c zs vs ≡ false
        unlike q =
            open_level ∙ rw (a_word (id_body d ys) ws true here is_near, a_word (id_body c zs) vs true there is_near) (met_unlike _ _ _ _ q)

        pub entered : n < length left → n < length under
            → same_image (image_of (id_body d ys) around (head_of (get_or ws at 0))) (image_of (id_body c zs) around (head_of (get_or vs at 0))) ≡ true
            → (u : ℕ) → u ≡ count_of (get_or ws at 0)
            → (x : ℕ) → x ≡ inside_word (get_or ws at 0) around
            → Rest (at + 1) (n + 1) (set (set left (n - 1) (get_or left (n - 1) 0 - 1)) n u) (set under n x)
        entered h l q u j x i =
            shown (like (image_of (id_body d ys) around (head_of (get_or ws at 0))) (image_of (id_body c zs) around (head_of (get_or vs at 0))) q)
          where
            shown : (v : ℕ) × (image_of (id_body d ys) around (head_of (get_or ws at 0)) ≡ Some v) × (image_of (id_body c zs) around (head_of (get_or vs at 0)) ≡ Some v)
                → Rest (at + 1) (n + 1) (set (set left (n - 1) (get_or left (n - 1) 0 - 1)) n u) (set under n x)
            shown v =
                let a = alike (id_body d ys) (id_body c zs) around (get_or ws at 0) (get_or vs at 0) v.0 (imaged (id_body d ys) around (get_or ws at 0) v.0 v.1) (imaged (id_body c zs) around (get_or vs at 0) v.0 v.2) in
                open_level
                ∙ rw (
                  a_word (id_body d ys) ws true here is_near,
                  a_word (id_body c zs) vs true there is_near,
                  v.1,
                  v.2,
                  ← a.0,
                  ← a.1,
                  push n left under (get_or left (n - 1) 0 - 1) u x z h l,
                  j,
                  i,
                  add-one at,
                )
                (met_like v.0 _ _)

-- ---- two variables in parameter range
abbrev at_parameter : ℕ → ℕ → StdOption ℕ
at_parameter e zero = None
at_parameter e (suc j) = Some (33554432 + (e + suc j))

pub record Inner (d e w : ℕ) : Type 0 where
  pub variable : rank_or 4 (head_of w) ≡ 2
  pub above : e < ident_of w
  pub within : ident_of w - e ≤ d

pub is_inner : (d e w : ℕ) → inner_word d e w ≡ true → Inner d e w
unfolding inner_word
is_inner d e w q =
    let r = and_right (eqb (rank_or 4 (head_of w)) 2) _ q in
    record {
      variable = eqb-true (rank_or 4 (head_of w)) 2 (and_left (eqb (rank_or 4 (head_of w)) 2) _ q);
      above = ltb-true e (ident_of w) (and_left (ltb e (ident_of w)) _ r);
      within = leb-true (ident_of w - e) d (and_right (ltb e (ident_of w)) _ r);
    }

inner_image : (d : ℕ) (ys : List ℕ) (e w : ℕ) → Inner d e w → image_of (id_body d ys) e (head_of w) ≡ at_parameter e (position (ident_of w - e) ys)
inner_image d ys e w i = go (position (ident_of w - e) ys) refl
  where
    go : (p : ℕ) → position (ident_of w - e) ys ≡ p → image_of (id_body d ys) e (head_of w) ≡ at_parameter e p
    go zero q =
        sym (image_no_id (id_body d ys) e w (head_of w) (word_head w) i.variable (sym (body_id_none d ys e (ident_of w) i.above i.within q)))
    go (suc j) q =
        sym (image_variable (id_body d ys) e w (head_of w) (word_head w) i.variable (e + suc j)
        (rw q at (body_id_inner d ys e (ident_of w) i.above i.within (λ z. omega arith))) (λ z. omega arith))

parameters_same : (e j p q : ℕ) → p ≡ suc j → q ≡ suc j → same_image (at_parameter e p) (at_parameter e q) ≡ true
unfolding same_image
parameters_same e j p q x y = rw (x, y) (eq-eqb (33554432 + (e + suc j)) (33554432 + (e + suc j)) refl)

parameters_differ : (e p q : ℕ) → ((p ≡ 0 → ⊥) → p ≡ q → ⊥) → same_image (at_parameter e p) (at_parameter e q) ≡ false
unfolding same_image
parameters_differ e zero q h = refl
parameters_differ e (suc a) zero h = refl
parameters_differ e (suc a) (suc b) h = ne_eqb (33554432 + (e + suc a)) (33554432 + (e + suc b)) (λ x. h (λ z. omega arith) (omega arith))

-- what both lists have at a place where neither had it before, by what was met there
module _ (ys : List ℕ) (y : ℕ) (zs : List ℕ) (z : ℕ) (j : ℕ) (s : Sought y ys j) (t : Sought z zs j) where
  abbrev MetIs : Met → Type 0
  MetIs Both = (position y ys ≡ suc j) × (position z zs ≡ suc j)
  MetIs Neither = (j < length ys) × Sought y ys (j + 1) × Sought z zs (j + 1)
  MetIs Apart = (position y ys ≡ 0 → ⊥) → position y ys ≡ position z zs → ⊥

  met_told : MetIs (meeting ys y zs z j)
  unfolding meeting meets
  met_told = go (ltb j (length ys)) (ltb j (length zs)) (eqb y (get_or ys j 0)) (eqb z (get_or zs j 0)) refl refl refl refl
    where
      go : (a b g h : Bool) → ltb j (length ys) ≡ a → ltb j (length zs) ≡ b → eqb y (get_or ys j 0) ≡ g → eqb z (get_or zs j 0) ≡ h → MetIs (pick (a && b) (meets g h) Apart)
      go false b g h p q r o = λ n e. n (sym (found_nowhere y ys j s (ltb-false j (length ys) p)))
      go true false g h p q r o = λ n e. n (e ∙ sym (found_nowhere z zs j t (ltb-false j (length zs) q)))
      go true true true true p q r o = (
        sym (found_here y ys j s (ltb-true j (length ys) p) (eqb-true y _ r)) ∙ add-one j,
        sym (found_here z zs j t (ltb-true j (length zs) q) (eqb-true z _ o)) ∙ add-one j,
      )
      go true true true false p q r o = λ n e.
          found_later z zs j t (ltb-true j (length zs) q) (eqb-false z _ o) (sym e ∙ sym (found_here y ys j s (ltb-true j (length ys) p) (eqb-true y _ r)))
      go true true false true p q r o = λ n e.
          found_later y ys j s (ltb-true j (length ys) p) (eqb-false y _ r) (e ∙ sym (found_here z zs j t (ltb-true j (length zs) q) (eqb-true z _ o)))
      go true true false false p q r o = (
        ltb-true j (length ys) p,
        sought_next y ys j s (ltb-true j (length ys) p) (eqb-false y _ r),
        sought_next z zs j t (ltb-true j (length zs) q) (eqb-false z _ o),
      )

  pub met_neither : meeting ys y zs z j ≡ Neither → (j < length ys) × Sought y ys (j + 1) × Sought z zs (j + 1)
  met_neither e = rw e at met_told

module _ (d : ℕ) (ys : List ℕ) (c : ℕ) (zs : List ℕ) (e w x j : ℕ) (i : Inner d e w) (o : Inner c e x) (s : Sought (ident_of w - e) ys j) (t : Sought (ident_of x - e) zs j) where
  pub met_both : meeting ys (ident_of w - e) zs (ident_of x - e) j ≡ Both → same_image (image_of (id_body d ys) e (head_of w)) (image_of (id_body c zs) e (head_of x)) ≡ true
  met_both q =
      let a : (position (ident_of w - e) ys ≡ suc j) × (position (ident_of x - e) zs ≡ suc j) = rw q at (met_told ys (ident_of w - e) zs (ident_of x - e) j s t) in
      rw (inner_image d ys e w i, inner_image c zs e x o) (parameters_same e j _ _ a.0 a.1)

  pub met_apart : meeting ys (ident_of w - e) zs (ident_of x - e) j ≡ Apart → same_image (image_of (id_body d ys) e (head_of w)) (image_of (id_body c zs) e (head_of x)) ≡ false
  met_apart q =
      rw (inner_image d ys e w i, inner_image c zs e x o) (parameters_differ e _ _ (rw q at (met_told ys (ident_of w - e) zs (ident_of x - e) j s t)))

-- what the tests before a turn give
pub stands_near : (at n a b : ℕ) → ltb at a && (ltb at b && near at n) ≡ true → (at < a) × (at < b) × (n ≤ 64)
stands_near at n a b e =
    let r = and_right (ltb at a) _ e in
    (ltb-true at a (and_left (ltb at a) _ e), ltb-true at b (and_left (ltb at b) _ r), leb-true n 64 (and_right (ltb at 4096) _ (and_right (ltb at b) _ r)))
