-- The same constraint by the tables is the same constraint: equal numbers are equal places where one of them is uncovered, and equal words are equal ids.
use mathlib.Core.Path.{◌≡◌, refl, sym, ap, ap₂, ◌∙◌}
use mathlib.Core.Bool.{Bool, true, false, ◌&&◌, ◌||◌}
use mathlib.Core.List.{List, [], ◌∷◌}
use Prim.Native.Nat.{ℕ, suc, ◌+◌, ◌-◌, ◌<◌}
use native.Mathlib.Omega.{arith}
use lib.Dec.{eqb, ltb}
use lib.ListN.{length, get_or}
use borrow.Author.Tests.{eqb-true, eqb-false, eq-eqb, ne_eqb, lt-ltb, le-ltb}
use Rattle.term.specs.Word.{variable, word, pick}
use Rattle.term.specs.Part.{same_words}
use Rattle.term.proofs.Laws.{word_variable, same_words_lem, words_same, same_none, same_more}
use Rattle.fit.specs.Constraint.{Occurrence, closed_at, same_at}
use Rattle.tree.specs.Path.{OnPath, number_in}
use Rattle.tree.specs.Told.Covered.{numbered_as, Within}
use Rattle.tree.specs.Rows.{is_in, among, same_constraint}
use Rattle.compiler.specs.Told.Tables.{first_at, first_spot, listed, size_at, in_list, not_in, among_at, differ_at, same_list, same_number, same_closed, same_same, same_name}
use Rattle.compiler.specs.Told.Stands.{ListAt, Stands}
use Rattle.tree.proofs.Laws.{in_none, in_more, among_none, among_more, closed_both, same_both, numbered_within, both_ways}
use Rattle.compiler.proofs.Strikes.{number_only}
use Rattle.compiler.proofs.SpotOccurrences.{SpotIs, spot_count}

-- ---- lists
word_one : (y z : ℕ) → word (variable z) ≡ word (variable y) → y ≡ z
word_one y z e = omega (arith, e, word_variable y, word_variable z)

variable_same : (y z : ℕ) → eqb (word (variable z)) (word (variable y)) ≡ eqb y z
variable_same y z =
    both_ways (eqb (word (variable z)) (word (variable y))) (eqb y z) (λ e. eq-eqb y z (word_one y z (eqb-true (word (variable z)) (word (variable y)) e)))
    (λ e. eq-eqb (word (variable z)) (word (variable y)) (ap (λ x. word (variable x)) (sym (eqb-true y z e))))

eqb_turned : (x y : ℕ) → eqb x y ≡ eqb y x
eqb_turned x y = both_ways (eqb x y) (eqb y x) (λ e. eq-eqb y x (sym (eqb-true x y e))) (λ e. eq-eqb x y (sym (eqb-true y x e)))

in_from : (fixed nums : List ℕ) (k y : ℕ) (zs : List ℕ) (j : ℕ) → ListAt fixed nums (k + 1 + j) zs
    → ltb (first_at (λ i. eqb (listed fixed k i) (word (variable y))) j (length zs)) (j + length zs) ≡ is_in y zs
unfolding ListAt first_at
in_from fixed nums k y [] j l = le-ltb j (j + 0) (omega arith) ∙ sym (in_none y)
in_from fixed nums k y (z ∷ zs) j l =
    let a : suc (k + 1 + j) ≡ k + 1 + suc j = omega arith in
    let t : ListAt fixed nums (k + 1 + suc j) zs = rw a at l.2 in
    let b : suc j + length zs ≡ j + suc (length zs) = omega arith in
    let e : eqb (listed fixed k j) (word (variable y)) ≡ eqb y z = ap (λ w. eqb w (word (variable y))) l.0 ∙ variable_same y z in
    rw (in_more y z zs, e) (go (eqb y z) (rw b at (in_from fixed nums k y zs (suc j) t)))
  where
    go : (b : Bool) → ltb (first_at (λ i. eqb (listed fixed k i) (word (variable y))) (suc j) (length zs)) (j + suc (length zs)) ≡ is_in y zs
        → ltb (pick b j (first_at (λ i. eqb (listed fixed k i) (word (variable y))) (suc j) (length zs))) (j + suc (length zs)) ≡ b || is_in y zs
    go true i = lt-ltb j (j + suc (length zs)) (omega arith)
    go false i = i

pub in_list_lem : (fixed nums : List ℕ) (k y : ℕ) (zs : List ℕ) → ListAt fixed nums (suc k) zs → size_at fixed k ≡ length zs → in_list fixed (word (variable y)) k ≡ is_in y zs
unfolding in_list
in_list_lem fixed nums k y zs l e =
    let a : suc k ≡ k + 1 + 0 = omega arith in
    let t : ListAt fixed nums (k + 1 + 0) zs = rw a at l in
    let o : 0 + length zs ≡ length zs = omega arith in
    rw e (rw o at (in_from fixed nums k y zs 0 t))

among_from : (fixed nums : List ℕ) (a b : ℕ) (ys zs : List ℕ) (j : ℕ) → ListAt fixed nums (a + 1 + j) ys → ListAt fixed nums (suc b) zs → size_at fixed b ≡ length zs
    → eqb (first_at (not_in fixed a b) j (length ys)) (j + length ys) ≡ among ys zs
unfolding ListAt first_at
among_from fixed nums a b [] zs j l m e = eq-eqb j (j + 0) (omega arith) ∙ sym (among_none zs)
among_from fixed nums a b (y ∷ ys) zs j l m e =
    let x : suc (a + 1 + j) ≡ a + 1 + suc j = omega arith in
    let t : ListAt fixed nums (a + 1 + suc j) ys = rw x at l.2 in
    let v : suc j + length ys ≡ j + suc (length ys) = omega arith in
    let i : in_list fixed (listed fixed a j) b ≡ is_in y zs = ap (λ w. in_list fixed w b) l.0 ∙ in_list_lem fixed nums b y zs m e in
    rw (among_more y ys zs, i) (go (is_in y zs) (rw v at (among_from fixed nums a b ys zs (suc j) t m e)))
  where
    go : (c : Bool) → eqb (first_at (not_in fixed a b) (suc j) (length ys)) (j + suc (length ys)) ≡ among ys zs
        → eqb (pick (pick c false true) j (first_at (not_in fixed a b) (suc j) (length ys))) (j + suc (length ys)) ≡ c && among ys zs
    go true i = i
    go false i = ne_eqb j (j + suc (length ys)) (λ e. omega (arith, e))

pub among_is : (fixed nums : List ℕ) (a b : ℕ) (ys zs : List ℕ) → ListAt fixed nums (suc a) ys → ListAt fixed nums (suc b) zs → size_at fixed a ≡ length ys → size_at fixed b ≡ length zs → among_at fixed a b ≡ among ys zs
unfolding among_at
among_is fixed nums a b ys zs l m e f =
    let x : suc a ≡ a + 1 + 0 = omega arith in
    let t : ListAt fixed nums (a + 1 + 0) ys = rw x at l in
    let o : 0 + length ys ≡ length ys = omega arith in
    rw e (rw o at (among_from fixed nums a b ys zs 0 t m f))

differ_from : (fixed nums : List ℕ) (a b : ℕ) (ys zs : List ℕ) (j : ℕ) → length ys ≡ length zs → ListAt fixed nums (a + 1 + j) ys → ListAt fixed nums (b + 1 + j) zs
    → eqb (first_at (differ_at fixed a b) j (length ys)) (j + length ys) ≡ same_words ys zs
unfolding ListAt first_at
differ_from fixed nums a b [] [] j e l m = eq-eqb j (j + 0) (omega arith) ∙ sym same_none
differ_from fixed nums a b [] (z ∷ zs) j e l m = absurd (omega (arith, e))
differ_from fixed nums a b (y ∷ ys) [] j e l m = absurd (omega (arith, e))
differ_from fixed nums a b (y ∷ ys) (z ∷ zs) j e l m =
    let x : suc (a + 1 + j) ≡ a + 1 + suc j = omega arith in
    let u : suc (b + 1 + j) ≡ b + 1 + suc j = omega arith in
    let t : ListAt fixed nums (a + 1 + suc j) ys = rw x at l.2 in
    let w : ListAt fixed nums (b + 1 + suc j) zs = rw u at m.2 in
    let v : suc j + length ys ≡ j + suc (length ys) = omega arith in
    let i : eqb (listed fixed a j) (listed fixed b j) ≡ eqb z y = ap₂ eqb l.0 m.0 ∙ variable_same z y in
    rw (same_more y z ys zs, i, eqb_turned z y) (go (eqb y z) (rw v at (differ_from fixed nums a b ys zs (suc j) (omega (arith, e)) t w)))
  where
    go : (c : Bool) → eqb (first_at (differ_at fixed a b) (suc j) (length ys)) (j + suc (length ys)) ≡ same_words ys zs
        → eqb (pick (pick c false true) j (first_at (differ_at fixed a b) (suc j) (length ys))) (j + suc (length ys)) ≡ c && same_words ys zs
    go true i = i
    go false i = ne_eqb j (j + suc (length ys)) (λ e. omega (arith, e))

pub same_list_lem : (fixed nums : List ℕ) (a b : ℕ) (ys zs : List ℕ) → ListAt fixed nums (suc a) ys → ListAt fixed nums (suc b) zs → size_at fixed a ≡ length ys → size_at fixed b ≡ length zs → same_list fixed a b ≡ same_words ys zs
unfolding same_list
same_list_lem fixed nums a b ys zs l m e f = rw (e, f) (go (eqb (length ys) (length zs)) refl)
  where
    go : (c : Bool) → eqb (length ys) (length zs) ≡ c → c && eqb (first_at (differ_at fixed a b) 0 (length ys)) (length ys) ≡ same_words ys zs
    go true q =
        let x : suc a ≡ a + 1 + 0 = omega arith in
        let u : suc b ≡ b + 1 + 0 = omega arith in
        let o : 0 + length ys ≡ length ys = omega arith in
        let t : ListAt fixed nums (a + 1 + 0) ys = rw x at l in
        let w : ListAt fixed nums (b + 1 + 0) zs = rw u at m in
        rw o at (differ_from fixed nums a b ys zs 0 (eqb-true (length ys) (length zs) q) t w)
    go false q = sym (other (same_words ys zs) refl)
      where
        other : (d : Bool) → same_words ys zs ≡ d → d ≡ false
        other true h = absurd (eqb-false (length ys) (length zs) q (ap length (same_words_lem ys zs h)))
        other false h = refl

-- ---- the same constraint, whichever is named first
-- ---- names of constraints
pub same_closed_name : (fixed nums : List ℕ) (a b : ℕ) → a < 4096 → same_name fixed nums (4160 + a) (4160 + b) ≡ same_closed fixed nums a b
unfolding same_name
same_closed_name fixed nums a b h =
    let x : 4160 + a - 4160 ≡ a = omega arith in
    let y : 4160 + b - 4160 ≡ b = omega arith in
    rw (lt-ltb (4160 + a) 8256 (omega arith), x, y)

pub same_same_name : (fixed nums : List ℕ) (a b : ℕ) → same_name fixed nums (8256 + a) (8256 + b) ≡ same_same fixed nums a b
unfolding same_name
same_same_name fixed nums a b =
    let x : 8256 + a - 8256 ≡ a = omega arith in
    let y : 8256 + b - 8256 ≡ b = omega arith in
    rw (le-ltb (8256 + a) 8256 (omega arith), x, y)

-- ---- THE LAWS of the same constraint, where the occurrences of the first are uncovered
module _ (book fixed nums marks : List ℕ) (count : ℕ) (path : OnPath) (s : Stands book fixed nums marks count path) (from to from' to' : ℕ) where
  abbrev First : ℕ → Occurrence → Type 0
  First k o = SpotIs fixed nums path.uncovered from to k o

  abbrev Second : ℕ → Occurrence → Type 0
  Second k o = SpotIs fixed nums path.uncovered from' to' k o

  same_number_lem : (a b : ℕ) (o q : Occurrence) → First a o → Second b q → Within o.place path.uncovered → same_number nums a b ≡ same_words o.place q.place
  same_number_lem a b o q x y w =
      both_ways (same_number nums a b) (same_words o.place q.place) (λ e. there (eqb-true (get_or nums a 0) (get_or nums b 0) e)) (λ e. eq-eqb (get_or nums a 0) (get_or nums b 0) (back (same_words_lem o.place q.place e)))
    where
      there : get_or nums a 0 ≡ get_or nums b 0 → same_words o.place q.place ≡ true
      there e =
          let n = number_in o.place path.uncovered in
          let u = numbered_within path.uncovered o.place w in
          let v : numbered_as q.place path.uncovered ≡ suc n = sym y.number ∙ sym e ∙ x.number ∙ u in
          let z : o.place ≡ q.place = number_only book fixed nums marks count path s n o.place u ∙ sym (number_only book fixed nums marks count path s n q.place v) in
          rw z (words_same q.place)

      back : o.place ≡ q.place → get_or nums a 0 ≡ get_or nums b 0
      back z = x.number ∙ ap (λ p. numbered_as p path.uncovered) z ∙ sym y.number

  pub same_closed_lem : (a b : ℕ) (o q : Occurrence) → First a o → Second b q → Within o.place path.uncovered → same_closed fixed nums a b ≡ same_constraint (closed_at o) (closed_at q)
  unfolding same_closed
  same_closed_lem a b o q x y w =
      let e = spot_count fixed nums path.uncovered from to a o x in
      let f = spot_count fixed nums path.uncovered from' to' b q y in
      rw (closed_both o q, same_number_lem a b o q x y w, among_is fixed nums a b o.list q.list x.listed y.listed e f, among_is fixed nums b a q.list o.list y.listed x.listed f e)

  pub same_same_lem : (a b : ℕ) (f o g q : Occurrence) → First (first_spot fixed a) f → First a o → Second (first_spot fixed b) g → Second b q → Within f.place path.uncovered → Within o.place path.uncovered
      → same_same fixed nums a b ≡ same_constraint (same_at f o) (same_at g q)
  unfolding same_same
  same_same_lem a b f o g q x1 x y1 y w1 w =
      let c1 = spot_count fixed nums path.uncovered from to (first_spot fixed a) f x1 in
      let c = spot_count fixed nums path.uncovered from to a o x in
      let d1 = spot_count fixed nums path.uncovered from' to' (first_spot fixed b) g y1 in
      let d = spot_count fixed nums path.uncovered from' to' b q y in
      rw (
        same_both f o g q,
        same_number_lem (first_spot fixed a) (first_spot fixed b) f g x1 y1 w1,
        same_number_lem a b o q x y w,
        same_list_lem fixed nums (first_spot fixed a) (first_spot fixed b) f.list g.list x1.listed y1.listed c1 d1,
        same_list_lem fixed nums a b o.list q.list x.listed y.listed c d,
      )
