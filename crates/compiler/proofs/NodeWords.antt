-- A node's addresses are written when its subtrees are: words set at other offsets may be set in any order, so what is left is the node's layout.
use mathlib.Core.Path.{◌≡◌, refl, sym, ap, ◌∙◌}
use mathlib.Core.List.{List, [], ◌∷◌, ◌++◌}
use Prim.Native.Nat.{ℕ, suc, ◌+◌, ◌≤◌, ◌<◌}
use native.Mathlib.Omega.{arith}
use lib.ListN.{length, set}
use lib.Seq.{sets, set_comm}
use Rattle.compiler.proofs.WordLaws.{sets_join}

-- ---- the order of writing
set_past : (us l : List ℕ) (i j v : ℕ) → j < i → set (sets l i us) j v ≡ sets (set l j v) i us
set_past [] l i j v h = refl
set_past (u ∷ us) l i j v h = set_past us (set l i u) (suc i) j v (omega arith) ∙ ap (λ (x : List ℕ). sets x (suc i) us) (set_comm l i j u v (λ e. omega (arith, e)))

sets_past : (vs us l : List ℕ) (i j : ℕ) → j + length vs ≤ i → sets (sets l i us) j vs ≡ sets (sets l j vs) i us
sets_past [] us l i j h = refl
sets_past (v ∷ vs) us l i j h = ap (λ (x : List ℕ). sets x (suc j) vs) (set_past us l i j v (omega arith)) ∙ sets_past vs us (set l j v) i (suc j) (omega arith)

-- ---- a test: its front, the two addresses, the two trees
pub test_words : (out front a b : List ℕ) (at slot next : ℕ) → slot ≡ at + length front → next ≡ slot + 2 + length a → (one two three four five : List ℕ)
    → one ≡ sets out at front → two ≡ set one slot (slot + 2) → three ≡ sets two (slot + 2) a → four ≡ set three (slot + 1) next → five ≡ sets four next b
    → five ≡ sets out at (front ++ ((slot + 2) ∷ next ∷ (a ++ b)))
test_words out front a b at slot next z y one two three four five p q r s t =
    let x : slot + 1 ≡ suc slot = omega arith in
    let w : slot + 2 ≡ suc (suc slot) = omega arith in
    let last : four ≡ sets (set two (slot + 1) next) (slot + 2) a = s ∙ ap (λ (l : List ℕ). set l (slot + 1) next) r ∙ set_past a two (slot + 2) (slot + 1) next (omega arith) in
    let whole : sets out at (front ++ ((slot + 2) ∷ next ∷ (a ++ b))) ≡ sets one slot ((slot + 2) ∷ next ∷ (a ++ b)) = sets_join front ((slot + 2) ∷ next ∷ (a ++ b)) out at ∙ rw (p, z) in
    t ∙ ap (λ (l : List ℕ). sets l next b) last ∙ after x w ∙ sym whole
  where
    after : slot + 1 ≡ suc slot → slot + 2 ≡ suc (suc slot) → sets (sets (set two (slot + 1) next) (slot + 2) a) next b ≡ sets one slot ((slot + 2) ∷ next ∷ (a ++ b))
    after x w = sym (sets_join a b (set (set one slot (slot + 2)) (suc slot) next) (suc (suc slot)) ∙ rw (q, x, y, w))

-- ---- a Switch: three words, heads and addresses, the default's address, the trees of the cases and of the default
pub switch_words : (out heads trees other : List ℕ) (at n cases first b : ℕ) → first ≡ at + 4 + length heads → b ≡ first + length trees → (one two three four five : List ℕ)
    → one ≡ set out at 2 → two ≡ set one (at + 1) n → three ≡ set two (at + 2) cases → four ≡ sets (sets three (at + 3) (heads ++ (b ∷ []))) first trees → five ≡ sets four b other
    → five ≡ sets out at (2 ∷ n ∷ cases ∷ (heads ++ (b ∷ (trees ++ other))))
switch_words out heads trees other at n cases first b z y one two three four five p q r s t =
    let u : at + 1 ≡ suc at = omega arith in
    let v : at + 2 ≡ suc (suc at) = omega arith in
    let w : at + 3 ≡ suc (suc (suc at)) = omega arith in
    let x : first ≡ suc (at + 3 + length heads) = omega (arith, z) in
    let front : three ≡ sets out at (2 ∷ n ∷ cases ∷ []) = r ∙ rw (q, p, u, v) in
    t ∙ ap (λ (l : List ℕ). sets l b other) s ∙ sym (whole x) ∙ rw (front, w)
  where
    whole : first ≡ suc (at + 3 + length heads) → sets three (at + 3) (heads ++ (b ∷ (trees ++ other))) ≡ sets (sets (sets three (at + 3) (heads ++ (b ∷ []))) first trees) b other
    whole x =
        sets_join heads (b ∷ (trees ++ other)) three (at + 3)
        ∙ sets_join trees other (set (sets three (at + 3) heads) (at + 3 + length heads) b) (suc (at + 3 + length heads))
        ∙ rw (sets_join heads (b ∷ []) three (at + 3), y, x)

-- ---- one case: its head and address, its tree, then the other cases
pub case_words : (out tree heads trees : List ℕ) (to a w b : ℕ) → to + 2 + length (heads ++ (b ∷ [])) ≤ a → (one two three last : List ℕ)
    → one ≡ set out to w → two ≡ set one (to + 1) a → three ≡ sets two a tree → last ≡ sets (sets three (to + 2) (heads ++ (b ∷ []))) (a + length tree) trees
    → last ≡ sets (sets out to (w ∷ a ∷ (heads ++ (b ∷ [])))) a (tree ++ trees)
case_words out tree heads trees to a w b h one two three last p q r s =
    let u : to + 1 ≡ suc to = omega arith in
    let v : to + 2 ≡ suc (suc to) = omega arith in
    let front : two ≡ set (set out to w) (suc to) a = q ∙ rw (p, u) in
    s ∙ ap (λ (l : List ℕ). sets (sets l (to + 2) (heads ++ (b ∷ []))) (a + length tree) trees) r
    ∙ ap (λ (l : List ℕ). sets l (a + length tree) trees) (sets_past (heads ++ (b ∷ [])) tree two a (to + 2) h)
    ∙ sym (sets_join tree trees (sets two (to + 2) (heads ++ (b ∷ []))) a)
    ∙ rw (front, v)
