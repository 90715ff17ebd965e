-- The cases of a Switch whose heads are found one after the other: each is written before the others, and what is told of those that are left tells of all.
use mathlib.Core.Path.{◌≡◌, refl, sym, ap, ◌∙◌}
use mathlib.Core.Bool.{Bool, true, false}
use mathlib.Core.List.{List, [], ◌∷◌, ◌++◌}
use Prim.Native.Nat.{ℕ, zero, suc, ◌+◌, ◌-◌, ◌*◌, ◌≤◌, ◌<◌}
use native.Mathlib.Omega.{arith}
use lib.ListN.{length, set, length-append}
use lib.Seq.{sets}
use Rattle.std.specs.Prelude.{Option, Some, None}
use Rattle.term.specs.Word.{Head, word, pick}
use Rattle.term.proofs.Laws.{never}
use Rattle.tree.specs.Tree.{Tree, Cases, NoCase, Case}
use Rattle.tree.specs.Path.{OnPath}
use Rattle.tree.specs.Layout.{case_count, long, long_cases, case_heads, layout, layout_cases}
use Rattle.compiler.specs.Told.Tables.{many_at, is_head_word}
use Rattle.compiler.specs.Told.NodeTold.{OneTold, AllTold}
use Rattle.tree.proofs.Laws.{count_none, count_case, length_heads, length_layout, no_case, one_case, InTables}
use Rattle.compiler.proofs.NodeWords.{case_words}

-- ---- the heads that are new, from number r on
unfoldable pub heads_from : (ℕ → ℕ) → ℕ → ℕ → List ℕ
heads_from new r zero = []
heads_from new r (suc more) =
    pick (is_head_word (new r)) (new r ∷ heads_from new (suc r) more) (heads_from new (suc r) more)

unfoldable pub head_words : List Head → List ℕ
head_words [] = []
head_words (h ∷ hs) = word h ∷ head_words hs

pub heads_end : (new : ℕ → ℕ) (r : ℕ) → heads_from new r 0 ≡ []
unfolding heads_from
heads_end new r = refl

pub heads_step : (new : ℕ → ℕ) (r more : ℕ) → is_head_word (new r) ≡ true
    → heads_from new r (suc more) ≡ new r ∷ heads_from new (suc r) more
unfolding heads_from
heads_step new r more e = rw e

pub heads_skip : (new : ℕ → ℕ) (r more : ℕ) → is_head_word (new r) ≡ false
    → heads_from new r (suc more) ≡ heads_from new (suc r) more
unfolding heads_from
heads_skip new r more e = rw e

pub heads_few : (new : ℕ → ℕ) (r more : ℕ) → length (heads_from new r more) ≤ more
unfolding heads_from
heads_few new r zero = omega arith
heads_few new r (suc more) = go (is_head_word (new r)) (heads_few new (suc r) more)
  where
    go : (b : Bool) → length (heads_from new (suc r) more) ≤ more
        → length (pick b (new r ∷ heads_from new (suc r) more) (heads_from new (suc r) more)) ≤ suc more
    go true l = omega arith
    go false l = omega arith

pub many_heads : (new : ℕ → ℕ) (more r : ℕ) → many_at (λ k. is_head_word (new k)) r more ≡ length (heads_from new r more)
unfolding heads_from many_at
many_heads new zero r = refl
many_heads new (suc more) r = rw (many_heads new more (suc r)) (go (is_head_word (new r)))
  where
    go : (b : Bool) → pick b 1 0 + length (heads_from new (suc r) more)
        ≡ length (pick b (new r ∷ heads_from new (suc r) more) (heads_from new (suc r) more))
    go true = omega arith
    go false = omega arith

-- ---- the cases of the heads from number r on, of so many
unfoldable pub CasesLeft : (OnPath → Type 0) → (OnPath → List Head → Cases) → (ℕ → ℕ) → ℕ → ℕ → ℕ → ℕ → ℕ → List ℕ → List ℕ → Option ℕ → Type 0
CasesLeft stands cases new all limit r to a out done (Some b) =
    (path : OnPath) → stands path → (hs : List Head) → head_words hs ≡ heads_from new r (all - r) → InTables hs → to + 1 + 2 * length hs ≤ a
    → (b ≡ a + long_cases (cases path hs)) × (done ≡ sets (sets out to (case_heads a (cases path hs) ++ (b ∷ []))) a (layout_cases a (cases path hs)))
CasesLeft stands cases new all limit r to a out done None =
    (path : OnPath) → stands path → (hs : List Head) → head_words hs ≡ heads_from new r (all - r) → InTables hs → to + 1 + 2 * length hs ≤ a → limit < a + long_cases (cases path hs)

pub words_none : head_words [] ≡ []
unfolding head_words
words_none = refl

pub words_more : (h : Head) (hs : List Head) → head_words (h ∷ hs) ≡ word h ∷ head_words hs
unfolding head_words
words_more h hs = refl

pub words_many : (hs : List Head) → length (head_words hs) ≡ length hs
unfolding head_words
words_many [] = refl
words_many (h ∷ hs) = ap suc (words_many hs)

list_parts : (x y : ℕ) (xs ys : List ℕ) → x ∷ xs ≡ y ∷ ys → (x ≡ y) × (xs ≡ ys)
list_parts x y xs ys e = (cc, cc)

module _ (stands : OnPath → Type 0) (tree : OnPath → Head → Tree) (cases : OnPath → List Head → Cases) (none_case : (path : OnPath) → cases path [] ≡ NoCase)
    (one_more_lem : (path : OnPath) (h : Head) (hs : List Head) → cases path (h ∷ hs) ≡ Case h (tree path h) (cases path hs)) (new : ℕ → ℕ) (all limit r to a : ℕ) (out : List ℕ) where
  count_cases : (path : OnPath) (hs : List Head) → case_count (cases path hs) ≡ length hs
  count_cases path [] = ap case_count (none_case path) ∙ count_none
  count_cases path (h ∷ hs) = ap case_count (one_more_lem path h hs) ∙ count_case h (tree path h) (cases path hs) ∙ ap suc (count_cases path hs)

  -- no rows are left: the default's address follows
  pub cases_end : all ≤ r → (done : List ℕ) → done ≡ set out to a → CasesLeft stands cases new all limit r to a out done (Some a)
  unfolding CasesLeft
  cases_end h done e path s hs q t l = ended hs (q ∙ ap (heads_from new r) z ∙ heads_end new r)
    where
      z : all - r ≡ 0
      z = omega arith

      ended : (hs : List Head) → head_words hs ≡ []
          → (a ≡ a + long_cases (cases path hs)) × (done ≡ sets (sets out to (case_heads a (cases path hs) ++ (a ∷ []))) a (layout_cases a (cases path hs)))
      ended [] q = let c = no_case a in rw (none_case path, c.0, c.1, c.2) (omega arith, e)
      ended (h ∷ hs) q = let y : word h ∷ head_words hs ≡ [] = sym (words_more h hs) ∙ q in never (cc)

  heads_on : r < all → is_head_word (new r) ≡ false → heads_from new r (all - r) ≡ heads_from new (r + 1) (all - (r + 1))
  heads_on h e =
      let z : all - r ≡ suc (all - (r + 1)) = omega arith in
      let y : r + 1 ≡ suc r = omega arith in
      ap (heads_from new r) z ∙ heads_skip new r (all - (r + 1)) e ∙ ap (λ k. heads_from new k (all - (r + 1))) (sym y)

  -- a row without a new head
  pub cases_skip : r < all → is_head_word (new r) ≡ false → (done : List ℕ) (x : Option ℕ) → CasesLeft stands cases new all limit (r + 1) to a out done x
      → CasesLeft stands cases new all limit r to a out done x
  unfolding CasesLeft
  cases_skip h e done (Some b) told = λ path s hs q t l. told path s hs (q ∙ heads_on h e) t l
  cases_skip h e done None told = λ path s hs q t l. told path s hs (q ∙ heads_on h e) t l

  -- the heads from a row with a new head on: it, and those after it
  record HeadsAre (hs : List Head) : Type 0 where
    head : Head
    later : List Head
    are : hs ≡ head ∷ later
    here : word head ≡ new r
    rest : head_words later ≡ heads_from new (r + 1) (all - (r + 1))

  heads_are : r < all → is_head_word (new r) ≡ true → (hs : List Head) → head_words hs ≡ heads_from new r (all - r) → HeadsAre hs
  heads_are h e hs q =
      let z : all - r ≡ suc (all - (r + 1)) = omega arith in
      let y : r + 1 ≡ suc r = omega arith in
      split hs (q ∙ ap (heads_from new r) z ∙ heads_step new r (all - (r + 1)) e ∙ ap (λ k. new r ∷ heads_from new k (all - (r + 1))) (sym y))
    where
      split : (hs : List Head) → head_words hs ≡ new r ∷ heads_from new (r + 1) (all - (r + 1)) → HeadsAre hs
      split [] q = let y : [] ≡ new r ∷ heads_from new (r + 1) (all - (r + 1)) = sym words_none ∙ q in never (cc)
      split (h ∷ hs) q =
          let y = list_parts (word h) (new r) (head_words hs) (heads_from new (r + 1) (all - (r + 1))) (sym (words_more h hs) ∙ q) in
          record { head = h; later = hs; are = refl; here = y.0; rest = y.1 }

  module _ (few : r < all) (w : ℕ) (is : w ≡ new r) (head : is_head_word w ≡ true) where
    split_heads : (hs : List Head) → head_words hs ≡ heads_from new r (all - r) → HeadsAre hs
    split_heads hs q = heads_are few (ap is_head_word (sym is) ∙ head) hs q

    -- its tree is over the limit
    pub cases_stuck : (two three done : List ℕ) → OneTold stands tree limit a w two three None → CasesLeft stands cases new all limit r to a out done None
    unfolding OneTold CasesLeft
    cases_stuck two three done told path s hs q t l = over (split_heads hs q) t
      where
        over : HeadsAre hs → InTables hs → limit < a + long_cases (cases path hs)
        over x t =
            let i : InTables (x.head ∷ x.later) = rw x.are at t in
            rw (x.are, one_more_lem path x.head x.later, (one_case a x.head (tree path x.head) (cases path x.later)).0)
            (omega (arith, told path s x.head (x.here ∙ sym is) i.0))

    module _ (next : ℕ) (one two three : List ℕ) (first : one ≡ set out to w) (second : two ≡ set one (to + 1) a) (told : OneTold stands tree limit a w two three (Some next)) where
      -- its tree is written
      record Written (path : OnPath) (hs : List Head) : Type 0 where
        x : HeadsAre hs
        good : InTables x.later
        split : cases path hs ≡ Case x.head (tree path x.head) (cases path x.later)
        fits : length hs ≡ suc (length x.later)
        ends : next ≡ a + long (tree path x.head)
        wrote : three ≡ sets two a (layout a (tree path x.head))

      written : (path : OnPath) → stands path → (hs : List Head) → head_words hs ≡ heads_from new r (all - r) → InTables hs → Written path hs
      unfolding OneTold
      written path s hs q t =
          let x = split_heads hs q in
          let i : InTables (x.head ∷ x.later) = rw x.are at t in
          let y = told path s x.head (x.here ∙ sym is) i.0 in
          record { x = x; good = i.1; split = ap (cases path) x.are ∙ one_more_lem path x.head x.later; fits = ap length x.are; ends = y.0; wrote = y.1 }

      -- the other cases stand after it
      pub cases_next : (done : List ℕ) (v : Option ℕ) → CasesLeft stands cases new all limit (r + 1) (to + 2) next three done v → CasesLeft stands cases new all limit r to a out done v
      unfolding CasesLeft
      cases_next done None after = λ path s hs q t l. over path hs (written path s hs q t) (λ y i k. after path s y.later y.rest i k) l
        where
          over : (path : OnPath) (hs : List Head) (y : Written path hs) → ((x : HeadsAre hs) → InTables x.later → to + 2 + 1 + 2 * length x.later ≤ next → limit < next + long_cases (cases path x.later))
              → to + 1 + 2 * length hs ≤ a → limit < a + long_cases (cases path hs)
          over path hs y after l =
              rw (y.split, (one_case a y.x.head (tree path y.x.head) (cases path y.x.later)).0)
              (omega (arith, y.ends, after y.x y.good (omega (arith, y.ends, y.fits, l))))
      cases_next done (Some b) after = λ path s hs q t l. whole path hs (written path s hs q t) (λ y i k. after path s y.later y.rest i k) l
        where
          whole : (path : OnPath) (hs : List Head) (y : Written path hs)
              → ((x : HeadsAre hs) → InTables x.later → to + 2 + 1 + 2 * length x.later ≤ next → (b ≡ next + long_cases (cases path x.later))
              × (done ≡ sets (sets three (to + 2) (case_heads next (cases path x.later) ++ (b ∷ []))) next (layout_cases next (cases path x.later))))
              → to + 1 + 2 * length hs ≤ a
              → (b ≡ a + long_cases (cases path hs)) × (done ≡ sets (sets out to (case_heads a (cases path hs) ++ (b ∷ []))) a (layout_cases a (cases path hs)))
          whole path hs y after l =
              let first-tree = tree path y.x.head in
              let cs = cases path y.x.later in
              let o = one_case a y.x.head first-tree cs in
              let k = after y.x y.good (omega (arith, y.ends, y.fits, l)) in
              let room : to + 2 + length (case_heads (a + long first-tree) cs ++ (b ∷ [])) ≤ a = omega (arith, length-append (case_heads (a + long first-tree) cs) (b ∷ []), length_heads (a + long first-tree) cs, count_cases path y.x.later, y.fits, l) in
              rw (y.split, o.0, o.1, o.2, y.x.here, ← is)
              (omega (arith, k.0, y.ends), case_words out (layout a first-tree) (case_heads (a + long first-tree) cs) (layout_cases (a + long first-tree) cs) to a w b room one two three done first second y.wrote (moved path hs y k.1))
            where
              moved : (path : OnPath) (hs : List Head) (y : Written path hs)
                  → done ≡ sets (sets three (to + 2) (case_heads next (cases path y.x.later) ++ (b ∷ []))) next (layout_cases next (cases path y.x.later))
                  → done ≡ sets (sets three (to + 2) (case_heads (a + long (tree path y.x.head)) (cases path y.x.later) ++ (b ∷ []))) (a + length (layout a (tree path y.x.head)))
                  (layout_cases (a + long (tree path y.x.head)) (cases path y.x.later))
              moved path hs y p = p ∙ rw (y.ends, length_layout a (tree path y.x.head))

whole : (new : ℕ → ℕ) (all : ℕ) → heads_from new 0 all ≡ heads_from new 0 (all - 0)
whole new all = let z : all - 0 ≡ all = omega arith in rw z

-- THE LAW of the cases: from the first number on they are all
pub all_told : (stands : OnPath → Type 0) (cases : OnPath → List Head → Cases) (new : ℕ → ℕ) (all limit slot at : ℕ) (out done : List ℕ) (v : Option ℕ) (hs : OnPath → List Head)
    → ((path : OnPath) → stands path → (head_words (hs path) ≡ heads_from new 0 all) × InTables (hs path) × (slot + 1 + 2 * length (hs path) ≤ at))
    → CasesLeft stands cases new all limit 0 slot at out done v → AllTold stands (λ path. cases path (hs path)) limit slot at out done v
unfolding CasesLeft AllTold
all_told stands cases new all limit slot at out done (Some b) hs are told = λ path s. let x = are path s in told path s (hs path) (x.0 ∙ whole new all) x.1 x.2
all_told stands cases new all limit slot at out done None hs are told = λ path s. let x = are path s in told path s (hs path) (x.0 ∙ whole new all) x.1 x.2
