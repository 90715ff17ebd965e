-- Matching a left side that was built finds its bodies, and what is found builds the term.
use mathlib.Core.Path.{◌≡◌, refl, ◌∙◌}
use mathlib.Core.Bool.{Bool, true, false}
use mathlib.Core.List.{List, [], ◌∷◌, ◌++◌}
use mathlib.Core.Option.{Option, none, some}
use Prim.Native.Nat.{ℕ, ◌<◌}
use lib.Dec.{eqb}
use borrow.Author.Tests.{eqb-true, eq-eqb}
use Rattle.term.specs.Word.{Head, word}
use Rattle.term.specs.Row.{Row, nothing, node, Formed, ◌⧺◌}
use Rattle.term.specs.Renumber.{inside, to_term, to_body}
use Rattle.term.proofs.Laws.{body_term, term_body, term_keeps, formed_node}
use Rattle.fit.specs.Left.{Left, end, hole, part, GoodLeft}
use Rattle.fit.specs.Fit.{build, IsBody, Found, body_then, both_found, only_if, found}
use Rattle.fit.proofs.Basics.{single, Single, tree_before, same_word}

-- a tree stands where a pattern variable is
found_tree : (d x : ℕ) (ys : List ℕ) (rest : Left) (t rs : Row) → Single t → found d (hole x ys rest) (t ⧺ rs) ≡ body_then x (to_body d ys t) (found d rest rs)
unfolding found
found_tree d x ys rest t rs s = rw (s.is, tree_before s.head s.children rs)

-- the bodies at the occurrences, as bodies for the variables give them
unfoldable pub given : (ℕ → Row) → Left → Found
given b end = []
given b (hole x ys rest) = (x, b x) ∷ given b rest
given b (part h kids rest) = given b kids ++ given b rest

pub found_build : (vars : ℕ) (b : ℕ → Row) → ((x : ℕ) → x < vars → IsBody (b x)) → (d : ℕ) (p : Left) → GoodLeft vars d p → found d p (build b d p) ≡ some (given b p)
unfolding found build given GoodLeft
found_build vars b i d end g = refl
found_build vars b i d (hole x ys rest) g =
    let j = i x g.0 in
    found_tree d x ys rest (to_term d ys (b x)) (build b d rest) (single (to_term d ys (b x)) ((term_keeps d ys (b x)).wide ∙ j.one))
    ∙ rw (body_term d ys g.1.listed (b x) j.within.formed, found_build vars b i d rest g.2)
found_build vars b i d (part h kids rest) g =
    rw (eq-eqb (word h) (word h) refl, found_build vars b i (inside h d) kids g.3, found_build vars b i d rest g.4)

-- bodies that agree with what was found
abbrev pub Agree : (ℕ → Row) → Found → Type 0
Agree b [] = Unit {0}
Agree b (p ∷ l) = (b p.0 ≡ p.1) × Agree b l

agree_left : (b : ℕ → Row) (l k : Found) → Agree b (l ++ k) → Agree b l
agree_left b [] k a = tt
agree_left b (p ∷ l) k a = (a.0, agree_left b l k a.1)

agree_right : (b : ℕ → Row) (l k : Found) → Agree b (l ++ k) → Agree b k
agree_right b [] k a = a
agree_right b (p ∷ l) k a = agree_right b l k a.1

agree_join : (b : ℕ → Row) (l k : Found) → Agree b l → Agree b k → Agree b (l ++ k)
agree_join b [] k a c = c
agree_join b (p ∷ l) k a c = (a.0, agree_join b l k a.1 c)

pub agree_given : (b : ℕ → Row) (p : Left) → Agree b (given b p)
unfolding given
agree_given b end = tt
agree_given b (hole x ys rest) = (refl, agree_given b rest)
agree_given b (part h kids rest) = agree_join b (given b kids) (given b rest) (agree_given b kids) (agree_given b rest)

-- what was found, if anything, builds the term
abbrev Builds : (ℕ → Row) → ℕ → Left → Row → Option Found → Type 0
Builds b d p t none = Unit {0}
Builds b d p t (some l) = Agree b l → build b d p ≡ t

builds_hole : (b : ℕ → Row) (d x : ℕ) (ys : List ℕ) (rest : Left) (g : Head) (ts rs : Row) (o : Option Row) (q : Option Found)
    → to_body d ys (node g ts nothing) ≡ o → Builds b d rest rs q → Builds b d (hole x ys rest) (node g ts rs) (body_then x o q)
unfolding build
builds_hole b d x ys rest g ts rs none q e h = tt
builds_hole b d x ys rest g ts rs (some c) none e h = tt
builds_hole b d x ys rest g ts rs (some c) (some l) e h =
    λ a. rw (a.0, term_body d ys (node g ts nothing) c e, h a.1) (tree_before g ts rs)

builds_part : (b : ℕ → Row) (d : ℕ) (h g : Head) (kids rest : Left) (ts rs : Row) (c : Bool) → (c ≡ true → h ≡ g) → (o q : Option Found)
    → Builds b (inside h d) kids ts o → Builds b d rest rs q → Builds b d (part h kids rest) (node g ts rs) (only_if c (both_found o q))
unfolding build
builds_part b d h g kids rest ts rs false e o q i j = tt
builds_part b d h g kids rest ts rs true e none q i j = tt
builds_part b d h g kids rest ts rs true e (some l) none i j = tt
builds_part b d h g kids rest ts rs true e (some l) (some k) i j =
    λ a. rw (i (agree_left b l k a), j (agree_right b l k a), e refl)

builds : (vars : ℕ) (b : ℕ → Row) (d : ℕ) (p : Left) (t : Row) → GoodLeft vars d p → Formed t → Builds b d p t (found d p t)
unfolding found build GoodLeft
builds vars b d end nothing g f = λ a. refl
builds vars b d end (node h ts rs) g f = tt
builds vars b d (hole x ys rest) nothing g f = tt
builds vars b d (hole x ys rest) (node h ts rs) g f =
    builds_hole b d x ys rest h ts rs (to_body d ys (node h ts nothing)) (found d rest rs) refl (builds vars b d rest rs g.2 (formed_node h ts rs f).beside)
builds vars b d (part h kids rest) nothing g f = tt
builds vars b d (part h kids rest) (node i ts rs) g f =
    let n = formed_node i ts rs f in
    builds_part b d h i kids rest ts rs (eqb (word h) (word i)) (λ e. same_word h i g.0 n.table (eqb-true (word h) (word i) e))
    (found (inside h d) kids ts) (found d rest rs) (builds vars b (inside h d) kids ts g.3 n.below) (builds vars b d rest rs g.4 n.beside)

pub found_builds : (vars : ℕ) (b : ℕ → Row) (d : ℕ) (p : Left) (t : Row) (l : Found) → GoodLeft vars d p → Formed t → found d p t ≡ some l → Agree b l → build b d p ≡ t
found_builds vars b d p t l g f e = rw e at (builds vars b d p t g f)
