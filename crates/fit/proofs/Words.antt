-- Fit, word for word: bodies that give the term's words give the term, and matching finds them.
use mathlib.Core.Path.{◌≡◌, refl, sym, ap, ◌∙◌}
use mathlib.Core.Bool.{Bool, true, false, ◌||◌}
use mathlib.Core.List.{List, [], ◌∷◌, ◌++◌}
use mathlib.Core.Option.{Option, none, some}
use Prim.Native.Nat.{ℕ, suc, ◌+◌, ◌≤◌, ◌<◌, max}
use native.Mathlib.Omega.{arith}
use native.Mathlib.Nat.{le-max_left, le-max_right}
use lib.Dec.{eqb}
use borrow.Author.Tests.{eqb-true}
use Rattle.term.specs.Word.{word, pick}
use Rattle.term.specs.Row.{Row, nothing, node, width, words}
use Rattle.term.specs.Renumber.{inside, to_term, to_body}
use Rattle.term.proofs.Laws.{never, Near, near_unique, near_nothing, near_node, near_join, term_near, term_keeps, width_join, width_node, width_nothing, inside_le}
use Rattle.fit.specs.Left.{Left, end, hole, part, wide, deep, GoodLeft, occurs}
use Rattle.fit.specs.Fit.{build, WithinTerm, IsBody, Fits, Found, body_then, both_found, only_if, found, body_in, all_same, agreed, matching}
use Rattle.fit.proofs.Found.{given}
use Rattle.fit.proofs.Matching.{Is, FirstIs, first_is_lem, found_bodies, matched_built, built_matched}

-- ---- what is built is near a term
width_build : (vars : ℕ) (b : ℕ → Row) → ((x : ℕ) → x < vars → IsBody (b x)) → (d : ℕ) (p : Left) → GoodLeft vars d p → width (build b d p) ≡ wide p
unfolding build wide GoodLeft
width_build vars b i d end g = width_nothing
width_build vars b i d (hole x ys rest) g =
    width_join (to_term d ys (b x)) (build b d rest)
    ∙ rw ((term_keeps d ys (b x)).wide, (i x g.0).one, width_build vars b i d rest g.2) (omega arith)
width_build vars b i d (part h kids rest) g = width_node h (build b (inside h d) kids) (build b d rest) ∙ ap suc (width_build vars b i d rest g.4)

near_build : (vars : ℕ) (b : ℕ → Row) → ((x : ℕ) → x < vars → IsBody (b x)) → (d : ℕ) (p : Left) → GoodLeft vars d p → d + deep p ≤ 4096 → Near (build b d p)
unfolding build deep GoodLeft
near_build vars b i d end g l = near_nothing
near_build vars b i d (hole x ys rest) g l =
    let j = i x g.0 in
    near_join (to_term d ys (b x)) (build b d rest) (term_near d ys g.1 (omega arith) (b x) j.within.formed j.within.few j.within.low) (near_build vars b i d rest g.2 l)
near_build vars b i d (part h kids rest) g l =
    let k : suc (deep kids) ≤ max (suc (deep kids)) (deep rest) = le-max_left _ _ in
    let r : deep rest ≤ max (suc (deep kids)) (deep rest) = le-max_right _ _ in
    near_node h (build b (inside h d) kids) (build b d rest) g.0 g.2 (width_build vars b i (inside h d) kids g.3 ∙ g.1)
    (near_build vars b i (inside h d) kids g.3 (omega (arith, inside_le h d)))
    (near_build vars b i d rest g.4 (omega arith))

-- ---- every variable that occurs has the body of its first occurrence
pub or_either : {A : Type 0} (a b : Bool) → a || b ≡ true → (a ≡ true → A) → (b ≡ true → A) → A
or_either true b e f g = f refl
or_either false b e f g = g e

is_join : (b : ℕ → Row) (l k m : Found) → Is b l (k ++ m) → Is b l k × Is b l m
is_join b l [] m i = (tt, i)
is_join b l (p ∷ k) m i = let j = is_join b l k m i.1 in ((i.0, j.0), j.1)

first_body_lem : (b : ℕ → Row) (l : Found) (x : ℕ) (p : Left) → occurs x p ≡ true → Is b l (given b p) → body_in l x ≡ b x
unfolding occurs given
first_body_lem b l x end e i = never (cc)
first_body_lem b l x (hole y ys rest) e i =
    or_either (eqb x y) (occurs x rest) e (λ q. let z = eqb-true x y q in rw z i.0) (λ q. first_body_lem b l x rest q i.1)
first_body_lem b l x (part h kids rest) e i =
    let j = is_join b l (given b kids) (given b rest) i in
    or_either (occurs x kids) (occurs x rest) e (λ q. first_body_lem b l x kids q j.0) (λ q. first_body_lem b l x rest q j.1)

-- ---- what matching finds for a variable that occurs is a body
first_join : (l k m : Found) → FirstIs l (k ++ m) → FirstIs l k × FirstIs l m
first_join l [] m f = (tt, f)
first_join l (p ∷ k) m f = let j = first_join l k m f.1 in ((f.0, j.0), j.1)

abbrev BodyO : ℕ → Option Found → Type 0
BodyO x none = Unit {0}
BodyO x (some k) = (l : Found) → FirstIs l k → IsBody (body_in l x)

body_hole : (x y : ℕ) (occ : Bool) (b : Option Row) (q : Option Found) → eqb x y || occ ≡ true → (occ ≡ true → BodyO x q) → BodyO x (body_then y b q)
body_hole x y occ none q e r = tt
body_hole x y occ (some b) none e r = tt
body_hole x y occ (some b) (some k) e r =
    λ l f. or_either (eqb x y) occ e (λ z. let w = eqb-true x y z in rw w f.0) (λ z. r z l f.1)

body_part : (x : ℕ) (c occ more : Bool) (o q : Option Found) → occ || more ≡ true → (occ ≡ true → BodyO x o) → (more ≡ true → BodyO x q) → BodyO x (only_if c (both_found o q))
body_part x false occ more o q e r s = tt
body_part x true occ more none q e r s = tt
body_part x true occ more (some k) none e r s = tt
body_part x true occ more (some k) (some m) e r s =
    λ l f. let j = first_join l k m f in or_either occ more e (λ z. r z l j.0) (λ z. s z l j.1)

body_found : (x d : ℕ) (p : Left) (t : Row) → occurs x p ≡ true → BodyO x (found d p t)
unfolding occurs found
body_found x d end nothing e = never (cc)
body_found x d end (node g ts rs) e = tt
body_found x d (hole y ys rest) nothing e = tt
body_found x d (hole y ys rest) (node g ts rs) e =
    body_hole x y (occurs x rest) (to_body d ys (node g ts nothing)) (found d rest rs) e (λ z. body_found x d rest rs z)
body_found x d (part h kids rest) nothing e = tt
body_found x d (part h kids rest) (node g ts rs) e =
    body_part x (eqb (word h) (word g)) (occurs x kids) (occurs x rest) (found (inside h d) kids ts) (found d rest rs) e
    (λ z. body_found x (inside h d) kids ts z) (λ z. body_found x d rest rs z)

-- ---- the theorems
pub record GoodRule (vars : ℕ) (left : Left) : Type 0 where
  pub good : GoodLeft vars 0 left
  pub one : wide left ≡ 1
  pub low : deep left ≤ 16
  pub all : (x : ℕ) → x < vars → occurs x left ≡ true

module _ (vars : ℕ) (left : Left) (rule : GoodRule vars left) where
  -- bodies that turn the left side into the words of a term turn it into that term
  pub same_term : (t : Row) → WithinTerm t → width t ≡ 1 → (b : ℕ → Row) → Fits vars left (words t) b → build b 0 left ≡ t
  same_term t w one b f =
      (near_unique (build b 0 left) t [] [] (near_build vars b f.bodies 0 left rule.good (omega (arith, rule.low))) w.formed w.few
      (width_build vars b f.bodies 0 left rule.good ∙ rule.one ∙ sym one) (ap (λ (l : List ℕ). l ++ []) f.same)).0

  abbrev BodiesO : Option (ℕ → Row) → Type 0
  BodiesO none = Unit {0}
  BodiesO (some b) = (x : ℕ) → x < vars → IsBody (b x)

  matched_bodies : (t : Row) → WithinTerm t → (o : Option Found) → found 0 left t ≡ o → BodiesO (agreed o)
  matched_bodies t w none e = tt
  matched_bodies t w (some l) e = picked (all_same l l)
    where
      picked : (c : Bool) → BodiesO (pick c (some (body_in l)) none)
      picked true = λ x h. let k : BodyO x (some l) = rw e at (body_found x 0 left t (rule.all x h)) in k l (first_is_lem l (found_bodies vars 0 left t l rule.good w e))
      picked false = tt

  -- sound: what matching finds fits
  pub sound : (t : Row) → WithinTerm t → (b : ℕ → Row) → matching left t ≡ some b → Fits vars left (words t) b
  unfolding matching
  sound t w b e =
      record {
        bodies = rw e at (matched_bodies t w (found 0 left t) refl);
        same = ap words (matched_built vars left rule.good t w b e);
      }

  -- complete, and the bodies are the only ones
  pub complete : (t : Row) → WithinTerm t → width t ≡ 1 → (b : ℕ → Row) → Fits vars left (words t) b
      → (c : ℕ → Row) × (matching left t ≡ some c) × ((x : ℕ) → x < vars → c x ≡ b x)
  complete t w one b f =
      let m = built_matched vars left rule.good b f.bodies in
      let s = same_term t w one b f in
      (m.0, rw s at m.1, λ x h. ap (λ (g : ℕ → Row). g x) m.3 ∙ first_body_lem b (given b left) x left (rule.all x h) m.2)

  pub unique : (t : Row) → WithinTerm t → width t ≡ 1 → (b c : ℕ → Row) → Fits vars left (words t) b → Fits vars left (words t) c → (x : ℕ) → x < vars → b x ≡ c x
  unique t w one b c f g x h =
      let m = complete t w one b f in
      let n = complete t w one c g in
      let e : some m.0 ≡ some n.0 = sym m.1 ∙ n.1 in
      let q : m.0 ≡ n.0 = cc in
      sym (m.2 x h) ∙ ap (λ (k : ℕ → Row). k x) q ∙ n.2 x h

  pub none_fits : (t : Row) → WithinTerm t → width t ≡ 1 → matching left t ≡ none → (b : ℕ → Row) → Fits vars left (words t) b → ⊥
  none_fits t w one e b f = let m = complete t w one b f in let z : ◌≡◌ {A = ℕ} 0 1 = cc in omega arith
