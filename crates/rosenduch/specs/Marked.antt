-- Document 01, "Marked exercises": the tree of book A, which document 02 gives its size, and P1 to P10 as one table, under one claim.
use Rattle.std.specs.Prelude.{ℕ, ◌+◌, ◌≡◌, List, [], ◌∷◌, length, take, get_or}
use Rattle.std.proofs.Math.Option.{Option, none, some}
use Rattle.book.specs.Book.{Rule, rule_at}
use Rattle.book.specs.Marked.{s, l, v, book_a, book_b}
use Rattle.fit.specs.Match.{tree_of, body_list}
use Rattle.fit.specs.Lowest.{Fitting, lowest_front}
use Rattle.tree.specs.Tree.{Tree, Fail, Leaf, Switch, Closed, Same, Cases, NoCase, Case}
use Rattle.tree.specs.Root.{book_tree}
use Rattle.tree.specs.Layout.{tree_words}
use Rattle.walk.specs.Walk.{Walked, NoneFits, RuleFits, DamagedAt, walk, no_book}

-- a rule's number and its bodies in words, or none
abbrev pub Seen : Type 0
Seen = Option (ℕ × List ℕ)

-- a row of the table: a book, a term, and what is marked of them
pub record Marked : Type 0 where
  pub book : List ℕ
  pub term : List ℕ
  pub seen : Seen

abbrev pub mark : List ℕ → List ℕ → Seen → Marked
mark book term seen = record { book = book; term = term; seen = seen }

unfoldable pub marked : List Marked
marked =
    mark book_a (s 2 2 ∷ s 7 0 ∷ s 7 0 ∷ []) (some (0, s 7 0 ∷ []))
    ∷ mark book_a (s 2 2 ∷ s 7 0 ∷ s 8 0 ∷ []) none
    ∷ mark book_a (s 3 1 ∷ l ∷ v 2 ∷ []) (some (1, v 1 ∷ []))
    ∷ mark book_a (s 3 1 ∷ l ∷ v 1 ∷ []) none
    ∷ mark book_a (s 3 1 ∷ l ∷ s 4 1 ∷ v 1 ∷ []) (some (2, v 1 ∷ []))
    ∷ mark book_a (s 3 1 ∷ l ∷ s 4 1 ∷ s 7 0 ∷ []) (some (1, s 4 1 ∷ s 7 0 ∷ []))
    ∷ mark book_b (s 6 2 ∷ l ∷ v 1 ∷ l ∷ l ∷ v 2 ∷ []) (some (0, v 1 ∷ []))
    ∷ mark book_b (s 6 2 ∷ l ∷ v 1 ∷ l ∷ l ∷ v 1 ∷ []) none
    ∷ mark book_b (s 6 2 ∷ l ∷ v 2 ∷ l ∷ l ∷ v 3 ∷ []) (some (0, v 2 ∷ []))
    ∷ mark book_b (s 6 2 ∷ l ∷ v 2 ∷ l ∷ l ∷ v 2 ∷ []) none
    ∷ []

-- ---- what the definitions say of a book and a term
abbrev pub vars_or : Option Rule → ℕ
vars_or none = 0
vars_or (some rule) = rule.vars

abbrev pub fit_seen : List ℕ → Option Fitting → Seen
fit_seen book none = none
fit_seen book (some f) = some (f.number, body_list f.bodies 0 (vars_or (rule_at book f.number)))

-- none where the walk met damage
abbrev pub walk_seen : Walked → Option Seen
walk_seen NoneFits = some none
walk_seen (RuleFits f n) = some (some (f.number, body_list f.bodies 0 n))
walk_seen (DamagedAt at) = none

-- the lowest rule that fits, and the walk over the book's tree, give what is marked
abbrev pub AsMarked : Marked → Type 0
AsMarked row =
    (fit_seen row.book (lowest_front row.book 0 (get_or row.book 0 0) (tree_of row.term)) ≡ row.seen)
    × (walk_seen (walk no_book (tree_words row.book) (tree_of row.term)) ≡ some row.seen)

unfoldable pub AllAsMarked : List Marked → Type 0
AllAsMarked [] = Unit {0}
AllAsMarked (row ∷ rows) = AsMarked row × AllAsMarked rows

-- how many nodes of a tree are Fail
unfoldable mutual
  pub fails_in : Tree → ℕ
  fails_in Fail = 1
  fails_in (Leaf leaf) = 0
  fails_in (Switch n cs default) = fails_in_cases cs + fails_in default
  fails_in (Closed n ys ifYes ifNo) = fails_in ifYes + fails_in ifNo
  fails_in (Same n m ys zs ifYes ifNo) = fails_in ifYes + fails_in ifNo

  pub fails_in_cases : Cases → ℕ
  fails_in_cases NoCase = 0
  fails_in_cases (Case h x cs) = fails_in x + fails_in_cases cs

pub record MarkedExercises : Type 0 where
  -- a Switch at the root with the counts 2 to 15 of symbol 2 and 1 to 15 of symbol 3, the tree of `s2.2` at 62 and that of `s2.3` at 75
  pub tree_begins : take 7 (tree_words book_a) ≡ 2 ∷ 0 ∷ 29 ∷ 131074 ∷ 62 ∷ 196610 ∷ 75 ∷ []
  -- "Book A's tree then has 725 words", "with 45 of them Fails"
  pub tree_has : length (tree_words book_a) ≡ 725
  pub fails : fails_in (book_tree book_a) ≡ 45
  -- "Matches, proved as marked"
  pub matches : AllAsMarked marked
