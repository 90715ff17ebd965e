-- The heads that the tables give, row after row, are the heads at the place over all rows, in order of first appearance.
use mathlib.Core.Path.{◌≡◌, refl, sym, ap, ap₂, ◌∙◌}
use mathlib.Core.Bool.{Bool, true, false, ◌&&◌, not}
use mathlib.Core.List.{List, [], ◌∷◌}
use mathlib.Core.Option.{Option, none, some}
use Prim.Native.Nat.{ℕ, zero, suc, ◌+◌, ◌≤◌, ◌<◌}
use native.Mathlib.Omega.{arith}
use lib.Dec.{eqb}
use lib.ListN.{length}
use borrow.Author.Tests.{eqb-true, eqb-false, eq-eqb, ne_eqb}
use Rattle.term.specs.Word.{Head, word, pick}
use Rattle.term.proofs.Laws.{never}
use Rattle.book.specs.Book.{Rule, rule_at}
use Rattle.fit.specs.Constraint.{Place}
use Rattle.fit.specs.Match.{left_in}
use Rattle.tree.specs.Path.{OnPath, place_numbered}
use Rattle.tree.specs.Rows.{head_at}
use Rattle.tree.specs.Compile.{without, add_head, heads}
use Rattle.compiler.specs.Told.Tables.{first_at, is_free, root_has, has_head, head_word, new_head, is_head_word, count_heads, head_kind}
use Rattle.compiler.specs.Told.Stands.{row_if, rows_left, Stands}
use Rattle.tree.proofs.Laws.{heads_no, without_none, without_more, heads_row}
use Rattle.compiler.proofs.CasesLaid.{heads_from, head_words, heads_step, heads_skip, many_heads}
use Rattle.compiler.proofs.SpotHeads.{head_or}
use Rattle.compiler.proofs.RowsLeft.{row_of_rule}
use Rattle.compiler.proofs.Strikes.{row_head, head_kinds}
use Rattle.compiler.proofs.TableLaws.{head_there}

-- ---- one row more
pub first_more : (p : ℕ → Bool) (m i : ℕ) → eqb (first_at p i (suc m)) (i + suc m) ≡ eqb (first_at p i m) (i + m) && not (p (i + m))
unfolding first_at
first_more p zero i =
    let z : i + 0 ≡ i = omega arith in
    rw (z, eq-eqb i i refl) (go (p i))
  where
    go : (b : Bool) → eqb (pick b i (suc i)) (i + 1) ≡ not b
    go true = ne_eqb i (i + 1) (λ e. omega (arith, e))
    go false = eq-eqb (suc i) (i + 1) (omega arith)
first_more p (suc m) i = go (p i) (first_more p m (suc i))
  where
    go : (b : Bool) → eqb (pick (p (suc i)) (suc i) (first_at p (suc (suc i)) m)) (suc i + suc m) ≡ eqb (first_at p (suc i) m) (suc i + m) && not (p (suc i + m))
        → eqb (pick b i (pick (p (suc i)) (suc i) (first_at p (suc (suc i)) m))) (i + suc (suc m)) ≡ eqb (pick b i (first_at p (suc i) m)) (i + suc m) && not (p (i + suc m))
    go true e = rw (ne_eqb i (i + suc (suc m)) (λ x. omega (arith, x)), ne_eqb i (i + suc m) (λ x. omega (arith, x)))
    go false e =
        let x : i + suc (suc m) ≡ suc i + suc m = omega arith in
        let y : i + suc m ≡ suc i + m = omega arith in
        rw (x, y) e

-- ---- heads that pass a test on their words
unfoldable kept_heads : (ℕ → Bool) → List Head → List Head
kept_heads p [] = []
kept_heads p (h ∷ hs) = pick (p (word h)) (h ∷ kept_heads p hs) (kept_heads p hs)

kept_without : (p q : ℕ → Bool) (h : Head) → ((w : ℕ) → q w ≡ p w && not (eqb (word h) w)) → (hs : List Head) → kept_heads p (without h hs) ≡ kept_heads q hs
unfolding kept_heads
kept_without p q h e [] = ap (kept_heads p) (without_none h)
kept_without p q h e (g ∷ gs) = ap (kept_heads p) (without_more h g gs) ∙ rw (e (word g)) (go (eqb (word h) (word g)) (kept_without p q h e gs))
  where
    go : (b : Bool) → kept_heads p (without h gs) ≡ kept_heads q gs
        → kept_heads p (pick b (without h gs) (g ∷ without h gs)) ≡ pick (p (word g) && not b) (g ∷ kept_heads q gs) (kept_heads q gs)
    go true i = i ∙ falls (p (word g))
      where
        falls : (a : Bool) → kept_heads q gs ≡ pick (a && false) (g ∷ kept_heads q gs) (kept_heads q gs)
        falls true = refl
        falls false = refl
    go false i = holds (p (word g)) i
      where
        holds : (a : Bool) → kept_heads p (without h gs) ≡ kept_heads q gs → pick a (g ∷ kept_heads p (without h gs)) (kept_heads p (without h gs)) ≡ pick (a && true) (g ∷ kept_heads q gs) (kept_heads q gs)
        holds true i = ap (g ∷◌) i
        holds false i = i

-- heads have words that are not 33554432
abbrev AllHeads : List Head → Type 0
AllHeads [] = Unit {0}
AllHeads (h ∷ hs) = (is_head_word (word h) ≡ true) × AllHeads hs

all_kept_lem : (p : ℕ → Bool) → ((w : ℕ) → is_head_word w ≡ true → p w ≡ true) → (hs : List Head) → AllHeads hs → kept_heads p hs ≡ hs
unfolding kept_heads
all_kept_lem p e [] a = refl
all_kept_lem p e (h ∷ hs) a = rw (e (word h) a.0, all_kept_lem p e hs a.1)

all_without : (h : Head) (hs : List Head) → AllHeads hs → AllHeads (without h hs)
all_without h [] a = rw (without_none h) tt
all_without h (g ∷ gs) a = rw (without_more h g gs) (go (eqb (word h) (word g)) (all_without h gs a.1))
  where
    go : (b : Bool) → AllHeads (without h gs) → AllHeads (pick b (without h gs) (g ∷ without h gs))
    go true i = i
    go false i = (a.0, i)

kind_is_head : (w : ℕ) → head_kind w ≡ true → is_head_word w ≡ true
kind_is_head w l = rw (ne_eqb w 33554432 (head_there w l))

kept_first : (p : ℕ → Bool) (h : Head) (hs : List Head) → kept_heads p (h ∷ hs) ≡ pick (p (word h)) (h ∷ kept_heads p hs) (kept_heads p hs)
unfolding kept_heads
kept_first p h hs = refl

kept_same : (p q : ℕ → Bool) → ((w : ℕ) → p w ≡ q w) → (hs : List Head) → kept_heads p hs ≡ kept_heads q hs
unfolding kept_heads
kept_same p q e [] = refl
kept_same p q e (h ∷ hs) = rw (e (word h), kept_same p q e hs)

-- ---- how many heads there are
pub heads_counted : (fixed nums marks : List ℕ) (n : ℕ) → count_heads fixed nums marks n ≡ length (heads_from (new_head fixed nums marks n) 0 64)
unfolding count_heads
heads_counted fixed nums marks n = many_heads (new_head fixed nums marks n) 64 0

-- ---- a row with a new head
pub new_head_row : (fixed nums marks : List ℕ) (n r : ℕ) → is_head_word (new_head fixed nums marks n r) ≡ true → (is_free marks r ≡ true) × (head_word fixed nums r n ≡ new_head fixed nums marks n r)
unfolding new_head
new_head_row fixed nums marks n r e = go (is_free marks r) (eqb (first_at (has_head fixed nums marks n (head_word fixed nums r n)) 0 r) r) e
  where
    go : (a b : Bool) → is_head_word (pick a (pick b (head_word fixed nums r n) 33554432) 33554432) ≡ true
        → (a ≡ true) × (head_word fixed nums r n ≡ pick a (pick b (head_word fixed nums r n) 33554432) 33554432)
    go true true q = (refl, refl)
    go true false q = never (cc)
    go false b q = never (cc)

-- ---- words that no row before r has at the place
abbrev is_new : List ℕ → List ℕ → List ℕ → ℕ → ℕ → ℕ → Bool
is_new fixed nums marks n r w = eqb (first_at (has_head fixed nums marks n w) 0 r) r

abbrev is_new_head : List ℕ → List ℕ → List ℕ → ℕ → ℕ → ℕ → Bool
is_new_head fixed nums marks n r w = is_new fixed nums marks n r w && is_head_word w

new_more : (fixed nums marks : List ℕ) (n r w : ℕ) → is_new fixed nums marks n (suc r) w ≡ is_new fixed nums marks n r w && not (has_head fixed nums marks n w r)
new_more fixed nums marks n r w =
    let z : 0 + suc r ≡ suc r = omega arith in
    let y : 0 + r ≡ r = omega arith in
    rw (z, y) at (first_more (has_head fixed nums marks n w) r 0)

new_start : (fixed nums marks : List ℕ) (n w : ℕ) → is_new fixed nums marks n 0 w ≡ true
unfolding first_at
new_start fixed nums marks n w = refl

-- a row that is struck, or has no head there, changes nothing
new_struck : (fixed nums marks : List ℕ) (n r : ℕ) → is_free marks r ≡ false → (w : ℕ) → is_new_head fixed nums marks n r w ≡ is_new_head fixed nums marks n (suc r) w
new_struck fixed nums marks n r f w = rw (new_more fixed nums marks n r w, f) (go (is_new fixed nums marks n r w))
  where
    go : (a : Bool) → a && is_head_word w ≡ (a && true) && is_head_word w
    go true = refl
    go false = refl

new_unheaded : (fixed nums marks : List ℕ) (n r : ℕ) → is_free marks r ≡ true → head_word fixed nums r n ≡ 33554432 → (w : ℕ) → is_new_head fixed nums marks n r w ≡ is_new_head fixed nums marks n (suc r) w
new_unheaded fixed nums marks n r f e w = rw (new_more fixed nums marks n r w, f, e) (go (is_new fixed nums marks n r w) (eqb w 33554432) refl)
  where
    go : (a b : Bool) → eqb w 33554432 ≡ b → a && pick b false true ≡ (a && not (eqb 33554432 w)) && pick b false true
    go false b q = refl
    go true true q = rw (eq-eqb 33554432 w (sym (eqb-true w 33554432 q)))
    go true false q = rw (ne_eqb 33554432 w (λ x. eqb-false w 33554432 q (sym x)))

new_headed : (fixed nums marks : List ℕ) (n r v : ℕ) → is_free marks r ≡ true → head_word fixed nums r n ≡ v → (w : ℕ) → is_new_head fixed nums marks n (suc r) w ≡ is_new_head fixed nums marks n r w && not (eqb v w)
new_headed fixed nums marks n r v f e w = rw (new_more fixed nums marks n r w, f, e) (go (is_new fixed nums marks n r w) (not (eqb v w)) (is_head_word w))
  where
    go : (a b c : Bool) → (a && b) && c ≡ (a && c) && b
    go true true true = refl
    go true true false = refl
    go true false true = refl
    go true false false = refl
    go false b c = refl

-- ---- what a row adds
struck_head : (fixed nums marks : List ℕ) (n r : ℕ) → is_free marks r ≡ false → is_head_word (new_head fixed nums marks n r) ≡ false
unfolding new_head
struck_head fixed nums marks n r f = rw f

free_head_lem : (fixed nums marks : List ℕ) (n r v : ℕ) → is_free marks r ≡ true → head_word fixed nums r n ≡ v → new_head fixed nums marks n r ≡ pick (is_new fixed nums marks n r v) v 33554432
unfolding new_head
free_head_lem fixed nums marks n r v f e = rw (f, e)

words_first : (h : Head) (hs : List Head) → head_words (h ∷ hs) ≡ word h ∷ head_words hs
unfolding head_words
words_first h hs = refl

module _ (fixed nums marks : List ℕ) (n r more : ℕ) (hs : List Head) (rest : head_words (kept_heads (is_new_head fixed nums marks n (suc r)) hs) ≡ heads_from (new_head fixed nums marks n) (suc r) more) where
  adds_struck : is_free marks r ≡ false → head_words (kept_heads (is_new_head fixed nums marks n r) hs) ≡ heads_from (new_head fixed nums marks n) r (suc more)
  adds_struck f =
      ap head_words (kept_same (is_new_head fixed nums marks n r) (is_new_head fixed nums marks n (suc r)) (new_struck fixed nums marks n r f) hs)
      ∙ rest ∙ sym (heads_skip (new_head fixed nums marks n) r more (struck_head fixed nums marks n r f))

  adds_none : is_free marks r ≡ true → head_word fixed nums r n ≡ 33554432 → head_words (kept_heads (is_new_head fixed nums marks n r) hs) ≡ heads_from (new_head fixed nums marks n) r (suc more)
  adds_none f e =
      ap head_words (kept_same (is_new_head fixed nums marks n r) (is_new_head fixed nums marks n (suc r)) (new_unheaded fixed nums marks n r f e) hs)
      ∙ rest ∙ sym (heads_skip (new_head fixed nums marks n) r more (rw (free_head_lem fixed nums marks n r 33554432 f e) (go (is_new fixed nums marks n r 33554432))))
    where
      go : (b : Bool) → is_head_word (pick b 33554432 33554432) ≡ false
      go true = refl
      go false = refl

  adds_some : (h : Head) → is_free marks r ≡ true → head_word fixed nums r n ≡ word h → head_kind (word h) ≡ true
      → head_words (kept_heads (is_new_head fixed nums marks n r) (h ∷ without h hs)) ≡ heads_from (new_head fixed nums marks n) r (suc more)
  adds_some h f e l =
      rw (
        kept_first (is_new_head fixed nums marks n r) h (without h hs),
        kept_without (is_new_head fixed nums marks n r) (is_new_head fixed nums marks n (suc r)) h (new_headed fixed nums marks n r (word h) f e) hs,
        kind_is_head (word h) l,
      )
      (go (is_new fixed nums marks n r (word h)) (free_head_lem fixed nums marks n r (word h) f e))
    where
      go : (b : Bool) → new_head fixed nums marks n r ≡ pick b (word h) 33554432
          → head_words (pick (b && true) (h ∷ kept_heads (is_new_head fixed nums marks n (suc r)) hs) (kept_heads (is_new_head fixed nums marks n (suc r)) hs)) ≡ heads_from (new_head fixed nums marks n) r (suc more)
      go true q =
          words_first h (kept_heads (is_new_head fixed nums marks n (suc r)) hs) ∙ ap₂ ◌∷◌ (sym q) rest
          ∙ sym (heads_step (new_head fixed nums marks n) r more (ap is_head_word q ∙ kind_is_head (word h) l))
      go false q = rest ∙ sym (heads_skip (new_head fixed nums marks n) r more (ap is_head_word q))

none_from : (fixed nums marks : List ℕ) (n r : ℕ) (p : Place) → head_words (kept_heads (is_new_head fixed nums marks n r) (heads p [])) ≡ heads_from (new_head fixed nums marks n) r 0
unfolding kept_heads head_words heads_from
none_from fixed nums marks n r p = ap (λ (hs : List Head). head_words (kept_heads (is_new_head fixed nums marks n r) hs)) (heads_no p)

-- ---- THE LAWS of heads
module _ (book fixed nums marks : List ℕ) (count : ℕ) (path : OnPath) (s : Stands book fixed nums marks count path) where
  module _ (n : ℕ) (known : n < count) where
    abbrev at : Place
    at = place_numbered n path.uncovered

    all_heads : (more r : ℕ) → r + more ≤ 64 → AllHeads (heads at (rows_left book marks r more))
    unfolding rows_left
    all_heads zero r l = rw (heads_no at) tt
    all_heads (suc more) r l = go (is_free marks r) refl (rule_at book r) refl (all_heads more (suc r) (omega arith))
      where
        go : (a : Bool) → is_free marks r ≡ a → (o : Option Rule) → rule_at book r ≡ o → AllHeads (heads at (rows_left book marks (suc r) more))
            → AllHeads (heads at (row_if a (root_has marks) r o (rows_left book marks (suc r) more)))
        go false f o e i = i
        go true f none e i = i
        go true f (some rule) e i = rw (heads_row at (row_of_rule marks r rule) (rows_left book marks (suc r) more)) (added (head_at (left_in rule) at) refl)
          where
            added : (o : Option Head) → head_at (left_in rule) at ≡ o → AllHeads (add_head o (heads at (rows_left book marks (suc r) more)))
            added none q = i
            added (some h) q =
                (kind_is_head (word h) (head_kinds book fixed nums marks count path s n known r rule (omega arith) f e h q), all_without h (heads at (rows_left book marks (suc r) more)) i)

    heads_from_lem : (more r : ℕ) → r + more ≤ 64 → head_words (kept_heads (is_new_head fixed nums marks n r) (heads at (rows_left book marks r more))) ≡ heads_from (new_head fixed nums marks n) r more
    unfolding rows_left
    heads_from_lem zero r l = none_from fixed nums marks n r at
    heads_from_lem (suc more) r l = go (is_free marks r) refl (rule_at book r) refl (heads_from_lem more (suc r) (omega arith))
      where
        go : (a : Bool) → is_free marks r ≡ a → (o : Option Rule) → rule_at book r ≡ o
            → head_words (kept_heads (is_new_head fixed nums marks n (suc r)) (heads at (rows_left book marks (suc r) more))) ≡ heads_from (new_head fixed nums marks n) (suc r) more
            → head_words (kept_heads (is_new_head fixed nums marks n r) (heads at (row_if a (root_has marks) r o (rows_left book marks (suc r) more)))) ≡ heads_from (new_head fixed nums marks n) r (suc more)
        go false f o e i = adds_struck fixed nums marks n r more (heads at (rows_left book marks (suc r) more)) i f
        go true f none e i = never (let z = s.absent r (omega arith) e in cc)
        go true f (some rule) e i =
            rw (heads_row at (row_of_rule marks r rule) (rows_left book marks (suc r) more))
            (added (head_at (left_in rule) at) refl (row_head book fixed nums marks count path s n known r rule (omega arith) f e))
          where
            added : (o : Option Head) → head_at (left_in rule) at ≡ o → head_word fixed nums r n ≡ head_or (head_at (left_in rule) at)
                → head_words (kept_heads (is_new_head fixed nums marks n r) (add_head o (heads at (rows_left book marks (suc r) more)))) ≡ heads_from (new_head fixed nums marks n) r (suc more)
            added none q w = adds_none fixed nums marks n r more (heads at (rows_left book marks (suc r) more)) i f (w ∙ ap head_or q)
            added (some h) q w =
                adds_some fixed nums marks n r more (heads at (rows_left book marks (suc r) more)) i h f (w ∙ ap head_or q)
                (head_kinds book fixed nums marks count path s n known r rule (omega arith) f e h q)

  pub new_heads : (n : ℕ) → n < count → head_words (heads (place_numbered n path.uncovered) (rows_left book marks 0 64)) ≡ heads_from (new_head fixed nums marks n) 0 64
  new_heads n known = ap head_words (sym (all_kept_lem (is_new_head fixed nums marks n 0) (λ w e. rw (new_start fixed nums marks n w, e)) _ (all_heads n known 64 0 (omega arith)))) ∙ heads_from_lem n known 64 0 (omega arith)

  -- the row in which a head first appears
  pub record NewHeadIs (n r : ℕ) : Type 0 where
    pub rule : Rule
    pub head : Head
    pub is : rule_at book r ≡ some rule
    pub free : is_free marks r ≡ true
    pub there : head_at (left_in rule) (place_numbered n path.uncovered) ≡ some head
    pub words : word head ≡ new_head fixed nums marks n r

  pub new_head_is : (n r : ℕ) → n < count → r < 64 → is_head_word (new_head fixed nums marks n r) ≡ true → NewHeadIs n r
  new_head_is n r known l e = let t = new_head_row fixed nums marks n r e in go t.0 t.1 (rule_at book r) refl
    where
      go : is_free marks r ≡ true → head_word fixed nums r n ≡ new_head fixed nums marks n r → (o : Option Rule) → rule_at book r ≡ o → NewHeadIs n r
      go f w none q = never (let z = s.absent r l q in cc)
      go f w (some rule) q = headed (head_at (left_in rule) (place_numbered n path.uncovered)) refl (sym (row_head book fixed nums marks count path s n known r rule l f q) ∙ w)
        where
          headed : (o : Option Head) → head_at (left_in rule) (place_numbered n path.uncovered) ≡ o → head_or (head_at (left_in rule) (place_numbered n path.uncovered)) ≡ new_head fixed nums marks n r → NewHeadIs n r
          headed none z y = let x : is_head_word (new_head fixed nums marks n r) ≡ false = ap is_head_word (sym y ∙ ap head_or z) in never (cc)
          headed (some h) z y = record { rule = rule; head = h; is = q; free = f; there = z; words = sym (ap head_or z) ∙ y }
