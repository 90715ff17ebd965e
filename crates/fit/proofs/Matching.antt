-- Matching is sound and complete for fit, and the bodies are the only ones.
use mathlib.Core.Path.{◌≡◌, refl, sym, ap, ◌∙◌}
use mathlib.Core.Bool.{Bool, true, false}
use mathlib.Core.List.{List, [], ◌∷◌, ◌++◌}
use mathlib.Core.Option.{Option, none, some}
use Prim.Native.Nat.{ℕ, suc, ◌+◌, ◌<◌}
use native.Mathlib.Omega.{arith}
use lib.Dec.{eqb}
use lib.ListN.{length, length-append}
use borrow.Author.Tests.{eqb-true, eq-eqb}
use Rattle.term.specs.Word.{Head, word, pick}
use Rattle.term.specs.Row.{Row, nothing, node, width, words}
use Rattle.term.specs.Check.{IsTerm}
use Rattle.term.specs.Renumber.{GoodList, inside, to_body}
use Rattle.term.specs.Part.{same_words}
use Rattle.term.proofs.Laws.{and_left, and_right, and_both, body_keeps, body_formed, formed_node, node_formed, formed_nothing, words_unique, same_words_lem, words_same, words_node, words_nothing, width_node, width_nothing, ranks_node, ranks_nothing, nesting_node, nesting_nothing}
use Rattle.fit.specs.Left.{Left, end, hole, part, GoodLeft}
use Rattle.fit.specs.Fit.{build, WithinTerm, IsBody, Found, body_then, both_found, only_if, found, body_b, body_in, all_same, agreed, matching}
use Rattle.fit.proofs.Found.{given, Agree, agree_given, found_build, found_builds}

-- ---- a term, its rows and its parts
pub tree_within : (ws : List ℕ) (i : IsTerm ws) → WithinTerm i.tree
tree_within ws i = record { formed = i.formed; few = i.few; low = i.low; short = rw (← i.same) i.short }

-- a term is a body, and a body's words are one term
pub term_is_body : (ws : List ℕ) (i : IsTerm ws) → IsBody i.tree
term_is_body ws i = record { one = i.one; within = tree_within ws i }

abbrev pub body_is_term : (b : Row) → IsBody b → IsTerm (words b)
body_is_term b i =
    let w = i.within in
    record { tree = b; one = i.one; formed = w.formed; few = w.few; low = w.low; short = w.short; same = refl }

-- the rows and the first tree of a row within a term
long_node : (h : Head) (kids rest : Row) → length (words (node h kids rest)) ≡ suc (length (words kids) + length (words rest))
long_node h kids rest = ap length (words_node h kids rest) ∙ ap suc (length-append (words kids) (words rest))

pub kids_within : (h : Head) (kids rest : Row) → WithinTerm (node h kids rest) → WithinTerm kids
kids_within h kids rest w =
    let n = formed_node h kids rest w.formed in
    record {
      formed = n.below;
      few = omega (arith, ranks_node h kids rest, w.few);
      low = omega (arith, nesting_node h kids rest, w.low);
      short = omega (arith, long_node h kids rest, w.short);
    }

pub rest_within : (h : Head) (kids rest : Row) → WithinTerm (node h kids rest) → WithinTerm rest
rest_within h kids rest w =
    let n = formed_node h kids rest w.formed in
    record {
      formed = n.beside;
      few = omega (arith, ranks_node h kids rest, w.few);
      low = omega (arith, nesting_node h kids rest, w.low);
      short = omega (arith, long_node h kids rest, w.short);
    }

pub first_within : (h : Head) (kids rest : Row) → WithinTerm (node h kids rest) → WithinTerm (node h kids nothing)
first_within h kids rest w =
    let n = formed_node h kids rest w.formed in
    let z : length (words nothing) ≡ 0 = ap length words_nothing in
    record {
      formed = node_formed h kids nothing (record { table = n.table; full = n.full; below = n.below; beside = formed_nothing });
      few = omega (arith, ranks_node h kids rest, ranks_node h kids nothing, ranks_nothing, w.few);
      low = omega (arith, nesting_node h kids rest, nesting_node h kids nothing, nesting_nothing, w.low);
      short = omega (arith, long_node h kids rest, long_node h kids nothing, z, w.short);
    }

-- ---- what is found in a term is bodies
abbrev pub AllBodies : Found → Type 0
AllBodies [] = Unit {0}
AllBodies (p ∷ l) = IsBody p.1 × AllBodies l

all_join : (l k : Found) → AllBodies l → AllBodies k → AllBodies (l ++ k)
all_join [] k a c = c
all_join (p ∷ l) k a c = (a.0, all_join l k a.1 c)

abbrev AllO : Option Found → Type 0
AllO none = Unit {0}
AllO (some l) = AllBodies l

-- the body of one tree of a term is itself one term
pub part_body : (d : ℕ) (ys : List ℕ) (t : Row) → GoodList d ys → width t ≡ 1 → WithinTerm t → (b : Row) → to_body d ys t ≡ some b → IsBody b
part_body d ys t g one w b e =
    let k = body_keeps d ys t b e in
    record {
      one = k.wide ∙ one;
      within =
          record {
            formed = body_formed d ys g t b w.formed w.low e;
            few = omega (arith, k.rank, w.few);
            low = omega (arith, k.deep, w.low);
            short = omega (arith, k.long, w.short);
          };
    }

all_hole : (d x : ℕ) (ys : List ℕ) (t : Row) → GoodList d ys → width t ≡ 1 → WithinTerm t → (o : Option Row) (q : Option Found) → to_body d ys t ≡ o → AllO q → AllO (body_then x o q)
all_hole d x ys t g one w none q e a = tt
all_hole d x ys t g one w (some b) none e a = tt
all_hole d x ys t g one w (some b) (some l) e a = (part_body d ys t g one w b e, a)

all_part : (c : Bool) (o q : Option Found) → AllO o → AllO q → AllO (only_if c (both_found o q))
all_part false o q a b = tt
all_part true none q a b = tt
all_part true (some l) none a b = tt
all_part true (some l) (some k) a b = all_join l k a b

all_bodies : (vars d : ℕ) (p : Left) (t : Row) → GoodLeft vars d p → WithinTerm t → AllO (found d p t)
unfolding found GoodLeft
all_bodies vars d end nothing g w = tt
all_bodies vars d end (node h ts rs) g w = tt
all_bodies vars d (hole x ys rest) nothing g w = tt
all_bodies vars d (hole x ys rest) (node h ts rs) g w =
    all_hole d x ys (node h ts nothing) g.1 (width_node h ts nothing ∙ ap suc width_nothing) (first_within h ts rs w)
    (to_body d ys (node h ts nothing)) (found d rest rs) refl (all_bodies vars d rest rs g.2 (rest_within h ts rs w))
all_bodies vars d (part h kids rest) nothing g w = tt
all_bodies vars d (part h kids rest) (node i ts rs) g w =
    all_part (eqb (word h) (word i)) (found (inside h d) kids ts) (found d rest rs)
    (all_bodies vars (inside h d) kids ts g.3 (kids_within i ts rs w)) (all_bodies vars d rest rs g.4 (rest_within i ts rs w))

pub found_bodies : (vars d : ℕ) (p : Left) (t : Row) (l : Found) → GoodLeft vars d p → WithinTerm t → found d p t ≡ some l → AllBodies l
found_bodies vars d p t l g w e = rw e at (all_bodies vars d p t g w)

-- ---- the first body of each variable
same_body_lem : (b c : Row) → IsBody b → IsBody c → same_words (words b) (words c) ≡ true → b ≡ c
same_body_lem b c i j e =
    (words_unique b c [] [] i.within.formed j.within.formed (i.one ∙ sym j.one) (ap (λ (l : List ℕ). l ++ []) (same_words_lem (words b) (words c) e))).0

-- the first body of a variable of the list is one of its bodies
abbrev pub FirstIs : Found → Found → Type 0
FirstIs l [] = Unit {0}
FirstIs l (p ∷ k) = IsBody (body_in l p.0) × FirstIs l k

first_more : (p : ℕ × Row) → IsBody p.1 → (l k : Found) → FirstIs l k → FirstIs (p ∷ l) k
unfolding body_in
first_more p i l [] f = tt
first_more p i l (q ∷ k) f = (go (eqb q.0 p.0) refl, first_more p i l k f.1)
  where
    go : (b : Bool) → eqb q.0 p.0 ≡ b → IsBody (body_b (eqb q.0 p.0) p.1 (body_in l q.0))
    go true e = rw e i
    go false e = rw e f.0

pub first_is_lem : (l : Found) → AllBodies l → FirstIs l l
unfolding body_in
first_is_lem [] a = tt
first_is_lem (p ∷ l) a = (rw (eq-eqb p.0 p.0 refl) a.0, first_more p a.0 l l (first_is_lem l a.1))

agree_same : (l k : Found) → FirstIs l k → AllBodies k → all_same l k ≡ true → Agree (body_in l) k
unfolding all_same
agree_same l [] f a e = tt
agree_same l (p ∷ k) f a e =
    (same_body_lem (body_in l p.0) p.1 f.0 a.0 (and_left _ _ e), agree_same l k f.1 a.1 (and_right (same_words (words (body_in l p.0)) (words p.1)) _ e))

-- bodies that agree with the list are its first bodies
abbrev pub Is : (ℕ → Row) → Found → Found → Type 0
Is b l [] = Unit {0}
Is b l (p ∷ k) = (body_in l p.0 ≡ b p.0) × Is b l k

is_more : (b : ℕ → Row) (q : ℕ × Row) → b q.0 ≡ q.1 → (l k : Found) → Is b l k → Is b (q ∷ l) k
unfolding body_in
is_more b q h l [] i = tt
is_more b q h l (p ∷ k) i = (go (eqb p.0 q.0) refl, is_more b q h l k i.1)
  where
    go : (c : Bool) → eqb p.0 q.0 ≡ c → body_b (eqb p.0 q.0) q.1 (body_in l p.0) ≡ b p.0
    go true e = rw e (sym h ∙ ap b (sym (eqb-true p.0 q.0 e)))
    go false e = rw e i.0

pub agree_is : (b : ℕ → Row) (l : Found) → Agree b l → Is b l l
unfolding body_in
agree_is b [] a = tt
agree_is b (p ∷ l) a = (rw (eq-eqb p.0 p.0 refl) (sym a.0), is_more b p a.0 l l (agree_is b l a.1))

is_same_lem : (b : ℕ → Row) (l k : Found) → Is b l k → Agree b k → all_same l k ≡ true
unfolding all_same
is_same_lem b l [] i a = refl
is_same_lem b l (p ∷ k) i a = rw (i.0, a.0) (and_both _ _ (words_same (words p.1)) (is_same_lem b l k i.1 a.1))

-- ---- the theorems on trees
module _ (vars : ℕ) (left : Left) (good : GoodLeft vars 0 left) where
  abbrev SoundO : Row → Option (ℕ → Row) → Type 0
  SoundO t none = Unit {0}
  SoundO t (some b) = build b 0 left ≡ t

  sound : (t : Row) → WithinTerm t → (o : Option Found) → found 0 left t ≡ o → SoundO t (agreed o)
  sound t w none e = tt
  sound t w (some l) e = go (all_same l l) refl
    where
      a : AllBodies l
      a = found_bodies vars 0 left t l good w e

      go : (c : Bool) → all_same l l ≡ c → SoundO t (pick c (some (body_in l)) none)
      go true q = found_builds vars (body_in l) 0 left t l good w.formed e (agree_same l l (first_is_lem l a) a q)
      go false q = tt

  -- what matching finds builds the term
  pub matched_built : (t : Row) → WithinTerm t → (b : ℕ → Row) → matching left t ≡ some b → build b 0 left ≡ t
  unfolding matching
  matched_built t w b e = rw e at (sound t w (found 0 left t) refl)

  -- what bodies build is matched, with their bodies at every occurrence
  pub built_matched : (b : ℕ → Row) → ((x : ℕ) → x < vars → IsBody (b x)) → (c : ℕ → Row) × (matching left (build b 0 left) ≡ some c) × Is b (given b left) (given b left) × (c ≡ body_in (given b left))
  unfolding matching
  built_matched b i =
      let l = given b left in
      let a = agree_given b left in
      let s : all_same (given b left) (given b left) ≡ true = is_same_lem b (given b left) (given b left) (agree_is b (given b left) a) a in
      (body_in (given b left), rw (found_build vars b i 0 left good, s), agree_is b (given b left) a, refl)
