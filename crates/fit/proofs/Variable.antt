-- One pattern variable of a left side, over one tree of the term.
use mathlib.Core.Path.{◌≡◌, refl, sym, ap, ◌∙◌}
use mathlib.Core.Bool.{Bool, true, false, ◌||◌}
use mathlib.Core.List.{List, [], ◌∷◌, ◌++◌}
use mathlib.Core.Option.{some}
use Prim.Native.Nat.{ℕ, suc, ◌+◌, ◌*◌, ◌≤◌, ◌<◌}
use native.Mathlib.Omega.{arith}
use native.Mathlib.Decide.{ℕ_discrete}
use lib.ListN.{length, drop, get_or, set, length-set}
use lib.Seq.{get_or-set_same, get_or-set_other}
use borrow.Author.Tests.{eq-eqb, ne_eqb}
use Rattle.term.specs.Word.{count_of}
use Rattle.term.specs.Row.{Row}
use Rattle.term.specs.Part.{body_of}
use Rattle.fit.specs.Fit.{Found, body_in}
use Rattle.book.specs.Told.Ids.{list_in}
use Rattle.fit.specs.Told.Told.{slot, present, Seen, Knows, recorded}
use Rattle.fit.proofs.Agreed.{body_present, body_absent, present_join}

-- ---- the table after a first occurrence
module _ (table : List ℕ) (size : length table ≡ 48) (x a b c : ℕ) (low : x < 16) where
  slot_other : (y i : ℕ) → i < 3 → (y ≡ x → ⊥) → slot (recorded table x a b c) y i ≡ slot table y i
  slot_other y i l n =
      get_or-set_other (set (set table (3 * x) a) (3 * x + 1) b) (3 * x + 2) (3 * y + i) c 0 (λ e. n (omega arith))
      ∙ get_or-set_other (set table (3 * x) a) (3 * x + 1) (3 * y + i) b 0 (λ e. n (omega arith))
      ∙ get_or-set_other table (3 * x) (3 * y + i) a 0 (λ e. n (omega arith))

  slot_0 : slot (recorded table x a b c) x 0 ≡ a
  slot_0 =
      get_or-set_other (set (set table (3 * x) a) (3 * x + 1) b) (3 * x + 2) (3 * x + 0) c 0 (λ e. omega arith)
      ∙ get_or-set_other (set table (3 * x) a) (3 * x + 1) (3 * x + 0) b 0 (λ e. omega arith)
      ∙ (let z : 3 * x + 0 ≡ 3 * x = omega arith in rw z (get_or-set_same table (3 * x) a 0 (omega arith)))

  slot_1 : slot (recorded table x a b c) x 1 ≡ b
  slot_1 =
      get_or-set_other (set (set table (3 * x) a) (3 * x + 1) b) (3 * x + 2) (3 * x + 1) c 0 (λ e. omega arith)
      ∙ get_or-set_same (set table (3 * x) a) (3 * x + 1) b 0 (rw length-set (omega arith))

  slot_2 : slot (recorded table x a b c) x 2 ≡ c
  slot_2 = get_or-set_same (set (set table (3 * x) a) (3 * x + 1) b) (3 * x + 2) c 0 (rw (length-set, length-set) (omega arith))

  recorded_size : length (recorded table x a b c) ≡ 48
  recorded_size = simp length-set size

present_last : (x : ℕ) (l : Found) (b : Row) → present x (l ++ ((x, b) ∷ [])) ≡ true
unfolding present
present_last x l b = present_join x l ((x, b) ∷ []) ∙ rw (eq-eqb x x refl) (go (present x l))
  where
    go : (c : Bool) → c || true ≡ true
    go true = refl
    go false = refl

present_same : (y x : ℕ) (l : Found) (b : Row) → (y ≡ x → ⊥) → present y (l ++ ((x, b) ∷ [])) ≡ present y l
unfolding present
present_same y x l b n = present_join y l ((x, b) ∷ []) ∙ rw (ne_eqb y x n) (go (present y l))
  where
    go : (c : Bool) → c || false ≡ c
    go true = refl
    go false = refl

-- what is seen stays seen when more is found behind it
seen_more : (left term table : List ℕ) (l m : Found) (x at : ℕ) → Seen left term table l x at → Seen left term table (l ++ m) x at
seen_more left term table l m x at s =
    record {
      list = s.list;
      listed = s.listed;
      within = s.within;
      inside = s.inside;
      body = s.body ∙ ap some (sym (body_present x l m s.here));
      here = present_join x l m ∙ rw s.here;
    }

is_true : (c : Bool) → (c ≡ false → ⊥) → c ≡ true
is_true true n = refl
is_true false n = absurd (n refl)

-- a variable that was there already
pub knows_again : (left term table : List ℕ) (l : Found) (x at : ℕ) (b : Row) → x < 16 → slot table x 0 ≡ suc at → Knows left term table l → Knows left term table (l ++ ((x, b) ∷ []))
knows_again left term table l x at b low e k =
    record {
      size = k.size;
      new = λ y h z. present_same y x l b (λ q. let w : slot table x 0 ≡ 0 = rw q at z in omega arith) ∙ k.new y h z;
      seen = λ y a h z. seen_more left term table l ((x, b) ∷ []) y a (k.seen y a h z);
    }

-- a variable that is recorded
pub knows_new : (left term table : List ℕ) (l : Found) (x to at d : ℕ) (ys : List ℕ) (b : Row) → x < 16 → slot table x 0 ≡ 0 → Knows left term table l
    → at < length left → to ≤ length term → list_in (count_of (get_or left at 0)) (drop (at + 1) left) ≡ some ys → body_of d ys (drop to term) ≡ some b
    → Knows left term (recorded table x (to + 1) at d) (l ++ ((x, b) ∷ []))
unfolding body_in
knows_new left term table l x to at d ys b low e k la lt li bo =
    record { size = recorded_size table k.size x (to + 1) at d low; new = new; seen = λ y a h z. seen y a h z (ℕ_discrete y x) }
  where
    s0 : slot (recorded table x (to + 1) at d) x 0 ≡ to + 1
    s0 = slot_0 table k.size x (to + 1) at d low

    new : (y : ℕ) → y < 16 → slot (recorded table x (to + 1) at d) y 0 ≡ 0 → present y (l ++ ((x, b) ∷ [])) ≡ false
    new y h z =
        let n : y ≡ x → ⊥ = λ q. let w : slot (recorded table x (to + 1) at d) x 0 ≡ 0 = rw q at z in omega (arith, s0, w) in
        present_same y x l b n ∙ k.new y h (sym (slot_other table k.size x (to + 1) at d low y 0 (omega arith) n) ∙ z)

    body_is : body_in (l ++ ((x, b) ∷ [])) x ≡ b
    body_is = body_absent x l ((x, b) ∷ []) (k.new x low e) ∙ rw (eq-eqb x x refl)

    mine : (a : ℕ) → slot (recorded table x (to + 1) at d) x 0 ≡ suc a → Seen left term (recorded table x (to + 1) at d) (l ++ ((x, b) ∷ [])) x a
    mine a z =
        let q : a ≡ to = omega (arith, s0, z) in
        let s1 = slot_1 table k.size x (to + 1) at d low in
        let s2 = slot_2 table k.size x (to + 1) at d low in
        record {
          list = ys;
          listed = rw s1 li;
          within = rw s1 la;
          inside = rw q lt;
          body = rw (s2, q, body_is) bo;
          here = present_last x l b;
        }

    others : (y a : ℕ) → (y ≡ x → ⊥) → y < 16 → slot (recorded table x (to + 1) at d) y 0 ≡ suc a → Seen left term (recorded table x (to + 1) at d) (l ++ ((x, b) ∷ [])) y a
    others y a n h z =
        let s = seen_more left term table l ((x, b) ∷ []) y a (k.seen y a h (sym (slot_other table k.size x (to + 1) at d low y 0 (omega arith) n) ∙ z)) in
        record {
          list = s.list;
          listed = rw (slot_other table k.size x (to + 1) at d low y 1 (omega arith) n) s.listed;
          within = rw (slot_other table k.size x (to + 1) at d low y 1 (omega arith) n) s.within;
          inside = s.inside;
          body = rw (slot_other table k.size x (to + 1) at d low y 2 (omega arith) n) s.body;
          here = s.here;
        }

    seen : (y a : ℕ) → y < 16 → slot (recorded table x (to + 1) at d) y 0 ≡ suc a → Dec (y ≡ x) → Seen left term (recorded table x (to + 1) at d) (l ++ ((x, b) ∷ [])) y a
    seen y a h z (yes q) = rw q (mine a (rw q at z))
    seen y a h z (no n) = others y a n h z
