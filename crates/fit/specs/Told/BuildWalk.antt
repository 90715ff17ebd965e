-- What the walk that builds a left side tells.
use Rattle.std.specs.Prelude.{ℕ, ◌+◌, ◌≤◌, ◌<◌, ◌≡◌, List, length, Ok, Option, Some, None}
use Rattle.std.specs.Borrow.{Bor}
use Rattle.std.proofs.Math.Option.{some}
use Rattle.std.proofs.lemmas.List.Edits.{sets}
use Rattle.term.specs.declared.answer.Answer.{Answer}
use Rattle.term.specs.Word.{count_of, ident_of}
use Rattle.term.specs.Row.{Row, words, nesting, Formed}
use Rattle.term.specs.Check.{check, term_limits}
use Rattle.term.specs.Renumber.{GoodList, to_term}
use Rattle.book.specs.Told.Ids.{list_in}
use Rattle.book.specs.Book.{Rule, rule_at}
use Rattle.book.specs.Accept.{accept}
use Rattle.fit.specs.Left.{left_of}
use Rattle.fit.specs.Fit.{build}
use Rattle.fit.specs.Match.{tree_of}
use Rattle.fit.specs.Told.Told.{LeftStands, Offsets}
use Rattle.fit.specs.Build.{start_of, words_at, given_bodies, build_left, build_answer, build_words}

-- ---- a row is written from an offset on: the offset after it, or it is over the limits with so many levels left
abbrev pub RowBuilt : ℕ → List ℕ → ℕ → List ℕ → Row → Option ℕ → Type 0
RowBuilt levels out to done t (Some b) =
    Formed t × (nesting t ≤ levels) × (b ≡ to + length (words t)) × (b ≤ 4096) × (done ≡ sets out to (words t))
RowBuilt levels out to done t None = Formed t → nesting t ≤ levels → to + length (words t) ≤ 4096 → ⊥

-- the bodies that were judged good
pub record Given (vars : ℕ) (bodies lengths : List ℕ) : Type 0 where
  pub few : vars ≤ 16
  pub sums : start_of lengths 16 ≡ length bodies
  pub terms : (x : ℕ) → x < vars → check term_limits (words_at bodies lengths x) ≡ Ok tt

-- ---- the words of a variable's body, where they do not run past the list
unfoldable pub BodyAt : List ℕ → List ℕ → ℕ → Option (Bor (List ℕ)) → Type 0
BodyAt bodies lengths x (Some body) = body.now ≡ words_at bodies lengths x
BodyAt bodies lengths x None = length bodies < start_of lengths (x + 1)

-- ---- a body under d abstractions with the list ys
unfoldable pub BodyBuilt : ℕ → List ℕ → ℕ → List ℕ → List ℕ → ℕ → List ℕ → Option ℕ → Type 0
BodyBuilt d ys levels body out to done r =
    GoodList d ys → check term_limits body ≡ Ok tt → RowBuilt levels out to done (to_term d ys (tree_of body)) r

-- ---- a pattern variable's word, before the words of its list
unfoldable pub HoleBuilt : ℕ → List ℕ → ℕ → ℕ → List ℕ → List ℕ → List ℕ → ℕ → List ℕ → Option ℕ → Type 0
HoleBuilt w after d levels bodies lengths out to done r =
    (vars : ℕ) (ys : List ℕ) → Given vars bodies lengths → ident_of w < vars → list_in (count_of w) after ≡ some ys → GoodList d ys
    → RowBuilt levels out to done (to_term d ys (given_bodies bodies lengths (ident_of w))) r

-- ---- so many trees of a left side: the offsets after them and after what they build
abbrev pub BothBuilt : ℕ → List ℕ → ℕ → List ℕ → Row → ℕ → Offsets → Type 0
BothBuilt levels out to done t end (Some (a, b)) = (a ≡ end) × RowBuilt levels out to done t (Some b)
BothBuilt levels out to done t end None = RowBuilt levels out to done t None

unfoldable pub LeftBuilt : ℕ → ℕ → ℕ → List ℕ → ℕ → List ℕ → List ℕ → List ℕ → ℕ → List ℕ → Offsets → Type 0
LeftBuilt d levels count left at bodies lengths out to done r =
    (vars : ℕ) (p : Row) (after : List ℕ) → LeftStands vars d levels count left at p after → Given vars bodies lengths → to ≤ 4096
    → BothBuilt levels out to done (build (given_bodies bodies lengths) d (left_of p)) (at + length (words p)) r

-- ---- a rule of an accepted book, by its variables and its left side: what is answered and left
unfoldable pub RuleBuilt : ℕ → List ℕ → List ℕ → List ℕ → ℕ → Answer → List ℕ → Type 0
RuleBuilt vars left bodies lengths room answer done =
    (book : List ℕ) (number : ℕ) (rule : Rule) → accept book ≡ Ok tt → rule_at book number ≡ some rule → rule.vars ≡ vars → rule.left ≡ left
    → (answer ≡ build_answer room (build_left book number bodies lengths)) × (done ≡ build_words room (build_left book number bodies lengths))
