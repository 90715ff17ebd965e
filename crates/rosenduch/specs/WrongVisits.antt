-- Document 02, "Count the nodes visited": the wrong programs to which it tempts. Each is a function from inputs to all that comes back, and on the input of its
-- row it does not give what the definition gives. Each is wrong only as its name says.
use Rattle.std.specs.Prelude.{ℕ, zero, suc, ◌+◌, ◌-◌, ◌≡◌, Bool, true, false, ◌&&◌, List, eqb, length, Result, Ok, Err}
use Rattle.term.specs.declared.answer.Answer.{Answer}
use Rattle.term.specs.Word.{pick}
use Rattle.term.specs.Row.{Row, words}
use Rattle.term.specs.Check.{check, term_limits}
use Rattle.book.specs.Accept.{accept}
use Rattle.book.specs.Marked.{book_a}
use Rattle.fit.specs.Match.{tree_of}
use Rattle.tree.specs.Layout.{tree_words}
use Rattle.walk.specs.Walk.{Walked, NoneFits, RuleFits, DamagedAt, walk, visits, book_fits}
use Rattle.walk.specs.ByTree.{MatchTreeOutcome, match_tree_came, match_tree_gives}
use Rattle.steps.specs.Step.{seek_visits, Stepped, Rests, Becomes, Refused, step}
use Rattle.steps.specs.Simplify.{trace_of, all_visits, simplify, SimplifyOutcome, simplify_came, simplify_gives}
use Rattle.rosenduch.specs.Inputs.{p1, first_term}

-- ==== matching by the tree

-- the last node left out
unfoldable pub match_without_last : (tree term : List ℕ) (room : ℕ) → MatchTreeOutcome
match_without_last tree term room = let o = match_tree_gives tree term room in match_tree_came o.said o.rule o.aside (o.visits - 1) o.bodies o.lengths

-- ==== simplifying, with another count of the nodes of a walk

abbrev pub Counting : Type 0
Counting = (book tree : List ℕ) → Row → ℕ

abbrev pub after_count : (Row → ℕ) → Stepped → ℕ
after_count more Rests = 0
after_count more (Becomes rule u) = more u
after_count more (Refused a) = 0

unfoldable pub count_by : Counting → (book tree : List ℕ) → ℕ → Row → ℕ
count_by nodes book tree zero t = seek_visits (walk (book_fits book) tree) (nodes book tree) t 0 (length (words t))
count_by nodes book tree (suc budget) t =
    seek_visits (walk (book_fits book) tree) (nodes book tree) t 0 (length (words t)) + after_count (count_by nodes book tree budget) (step book tree t)

abbrev pub count_term : Counting → (book tree term : List ℕ) → ℕ → Result (Unit {0}) ℕ → ℕ
count_term nodes book tree term budget (Ok _) = count_by nodes book tree budget (tree_of term)
count_term nodes book tree term budget (Err at) = 0

abbrev pub count_book : Counting → (book tree term : List ℕ) → ℕ → Result (Unit {0}) Answer → ℕ
count_book nodes book tree term budget (Ok _) = count_term nodes book tree term budget (check term_limits term)
count_book nodes book tree term budget (Err a) = 0

unfoldable pub counts_by : Counting → (book tree term : List ℕ) (budget room : ℕ) → SimplifyOutcome
counts_by nodes book tree term budget room =
    let o = simplify_gives book tree term budget room in
    simplify_came o.said o.steps (count_book nodes book tree term budget (accept book)) o.out

-- the last node left out
abbrev pub without_last : Counting
without_last book tree t = visits tree t - 1

-- an offset that the root settles counted once
abbrev pub is_none : Walked → Bool
is_none NoneFits = true
is_none (RuleFits f n) = false
is_none (DamagedAt at) = false

abbrev pub settled_once : Counting
settled_once book tree t = pick (is_none (walk (book_fits book) tree t) && eqb (visits tree t) 2) 1 (visits tree t)

-- the last search left out
unfoldable pub without_last_search : (book tree term : List ℕ) (budget room : ℕ) → SimplifyOutcome
without_last_search book tree term budget room =
    let o = simplify_gives book tree term budget room in
    simplify_came o.said o.steps (all_visits (trace_of (simplify book tree budget term))) o.out

-- ==== the claim
pub record WrongVisits : Type 0 where
  pub match_without_last : match_without_last (tree_words book_a) p1 1 ≡ match_tree_gives (tree_words book_a) p1 1 → ⊥
  pub without_last : counts_by without_last book_a (tree_words book_a) first_term 1000 6 ≡ simplify_gives book_a (tree_words book_a) first_term 1000 6 → ⊥
  pub settled_once : counts_by settled_once book_a (tree_words book_a) first_term 1000 6 ≡ simplify_gives book_a (tree_words book_a) first_term 1000 6 → ⊥
  pub without_last_search : without_last_search book_a (tree_words book_a) first_term 1000 6 ≡ simplify_gives book_a (tree_words book_a) first_term 1000 6 → ⊥
