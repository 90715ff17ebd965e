-- Lines of definitions that crates above cite, one law each.
use mathlib.Core.Path.{◌≡◌, refl}
use mathlib.Core.List.{List, [], ◌∷◌, ◌++◌}
use mathlib.Core.Option.{none}
use Prim.Native.Nat.{ℕ, suc, ◌+◌, ◌≤◌}
use native.Mathlib.Omega.{arith}
use lib.Dec.{eqb, leb}
use lib.ListN.{length, get_or, take, drop, replicate}
use Rattle.term.specs.declared.answer.Answer.{Answer}
use Rattle.term.specs.declared.answer.Answer.TheVariants.{Done, Short}
use Rattle.term.specs.Word.{Head, pick}
use Rattle.term.specs.Row.{Row, words}
use Rattle.term.specs.Part.{padded}
use Rattle.fit.specs.Left.{Left, hole, part, deep}
use Rattle.fit.specs.Constraint.{Occurrence, occurrences, first_b, first_of, closed_at, closeds, same_then, sames, constraints}
use Rattle.fit.specs.Match.{body_list, length_list}
use Rattle.fit.specs.Build.{start_of, words_at, refused, built, build_answer, build_words}

-- ---- how deep a left side is
pub deep_hole : (x : ℕ) (ys : List ℕ) (rest : Left) → deep (hole x ys rest) ≡ deep rest
unfolding deep
deep_hole x ys rest = refl

pub deep_part : (h : Head) (kids rest : Left) → (suc (deep kids) ≤ deep (part h kids rest)) × (deep rest ≤ deep (part h kids rest))
unfolding deep
deep_part h kids rest = (omega arith, omega arith)

-- ---- the first occurrence of a variable
pub first_nothing : (x : ℕ) → first_of x [] ≡ none
unfolding first_of
first_nothing x = refl

pub first_here : (x : ℕ) (o : Occurrence) (os : List Occurrence) → first_of x (o ∷ os) ≡ first_b (eqb x o.var) o (first_of x os)
unfolding first_of
first_here x o os = refl

-- ---- constraints
pub closeds_none : closeds [] ≡ []
unfolding closeds
closeds_none = refl

pub closeds_more : (o : Occurrence) (os : List Occurrence) → closeds (o ∷ os) ≡ pick (eqb (length o.list) o.depth) (closeds os) (closed_at o ∷ closeds os)
unfolding closeds
closeds_more o os = refl

pub sames_none : (earlier : List Occurrence) → sames earlier [] ≡ []
unfolding sames
sames_none earlier = refl

pub sames_more : (earlier : List Occurrence) (o : Occurrence) (os : List Occurrence) → sames earlier (o ∷ os) ≡ same_then (first_of o.var earlier) o (sames (earlier ++ (o ∷ [])) os)
unfolding sames
sames_more earlier o os = refl

pub constraints_are : (left : Left) → constraints left ≡ closeds (occurrences [] 0 0 left) ++ sames [] (occurrences [] 0 0 left)
unfolding constraints
constraints_are left = refl

-- ---- bodies in variable order
pub bodies_none : (b : ℕ → Row) (x : ℕ) → body_list b x 0 ≡ []
unfolding body_list
bodies_none b x = refl

pub bodies_more : (b : ℕ → Row) (x n : ℕ) → body_list b x (suc n) ≡ words (b x) ++ body_list b (suc x) n
unfolding body_list
bodies_more b x n = refl

pub lengths_none : (b : ℕ → Row) (x : ℕ) → length_list b x 0 ≡ []
unfolding length_list
lengths_none b x = refl

pub lengths_more : (b : ℕ → Row) (x n : ℕ) → length_list b x (suc n) ≡ length (words (b x)) ∷ length_list b (suc x) n
unfolding length_list
lengths_more b x n = refl

pub start_none : (lengths : List ℕ) → start_of lengths 0 ≡ 0
unfolding start_of
start_none lengths = refl

pub start_more : (lengths : List ℕ) (x : ℕ) → start_of lengths (suc x) ≡ start_of lengths x + get_or lengths x 0
unfolding start_of
start_more lengths x = refl

pub words_at_are : (bodies lengths : List ℕ) (x : ℕ) → words_at bodies lengths x ≡ take (get_or lengths x 0) (drop (start_of lengths x) bodies)
unfolding words_at
words_at_are bodies lengths x = refl

-- ---- what is answered and left of what was built
pub refused_built : (room : ℕ) (a : Answer) → (build_answer room (refused a) ≡ a) × (build_words room (refused a) ≡ replicate room 0)
unfolding build_answer build_words
refused_built room a = (refl, refl)

pub built_built : (room : ℕ) (t : Row) → (build_answer room (built t) ≡ pick (leb (length (words t)) room) Done Short) × (build_words room (built t) ≡ padded room (words t))
unfolding build_answer build_words
built_built room t = (refl, refl)
