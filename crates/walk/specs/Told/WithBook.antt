-- What a walk with a book answers and leaves. "Where a book is given too, a Leaf whose rule, n or counts don't fit it is damaged", and one with any other
-- number set aside than what the root of the part has more than that of the left side.
use Rattle.std.specs.Prelude.{ℕ, ◌+◌, ◌-◌, ◌≤◌, ◌≡◌, Bool, true, false, List, ◌++◌, eqb, length, get_or, drop, replicate, Option, None, Some, Result, Ok, Err}
use Rattle.std.proofs.Math.Option as maths
use Rattle.term.specs.Row.{Row}
use Rattle.fit.specs.Match.{body_list, length_list}
use Rattle.tree.specs.Tree.{LeafVariable, counts_of, LeafNode}
use Rattle.walk.specs.Walk.{Walked, NoneFits, RuleFits, DamagedAt, variables_in, leaf_read, is_word, walk, visits, counts_fit, book_fits}
use Rattle.walk.specs.Told.State.{part_from}

-- the walk with a book over the part that the words begin with
abbrev pub book_walk : List ℕ → List ℕ → List ℕ → Walked
book_walk book table ws = walk (book_fits book) table (part_from ws 0)

-- the nodes that it visits
abbrev pub book_visits : List ℕ → List ℕ → ℕ
book_visits table ws = visits table (part_from ws 0)

-- whether the counts of variables that were read are those of a left side, from a variable on
abbrev pub counts_in : List ℕ → ℕ → maths.Option (List LeafVariable) → Bool
counts_in left x maths.none = false
counts_in left x (maths.some vs) = counts_fit left x (counts_of vs)

-- whether a Leaf that was read fits the book, by the root's count
abbrev pub read_fits : List ℕ → ℕ → maths.Option LeafNode → Bool
read_fits book a maths.none = false
read_fits book a (maths.some leaf) = book_fits book a leaf

-- whether the Leaf at an address fits the book, by the root's count
unfoldable pub leaf_fits : List ℕ → ℕ → List ℕ → ℕ → Bool
leaf_fits book a table at = read_fits book a (leaf_read (get_or table (at + 1) 0) (get_or table (at + 3) 0) (variables_in (get_or table (at + 2) 0) (drop (at + 4) table)))

-- what is told of a tree's root and a word: where it is true, no rule fits a term that begins with the word, and two nodes are visited: the
-- root and its default
abbrev pub SkipTold : List ℕ → ℕ → Bool → Type 0
SkipTold table w true = (fits : ℕ → LeafNode → Bool) (t : Row) → ((v : ℕ) → is_word v t ≡ eqb v w) → length table ≤ 16384 → (walk fits table t ≡ NoneFits) × (visits table t ≡ 2)
SkipTold table w false = Unit {0}

-- 16 bodies of at most 4,096 words always have room in 65,536 words: the bodies in variable order and their lengths, zeros after them
unfoldable pub BookWalked : Walked → Result (Option ℕ) ℕ → List ℕ → List ℕ → Type 0
BookWalked NoneFits r bodies lengths = (r ≡ Ok None) × (bodies ≡ replicate 65536 0) × (lengths ≡ replicate 16 0)
BookWalked (RuleFits f n) r bodies lengths =
    (r ≡ Ok (Some f.number)) × (bodies ≡ body_list f.bodies 0 n ++ replicate (65536 - length (body_list f.bodies 0 n)) 0)
    × (lengths ≡ length_list f.bodies 0 n ++ replicate (16 - n) 0)
BookWalked (DamagedAt at) r bodies lengths = (r ≡ Err at) × (bodies ≡ replicate 65536 0) × (lengths ≡ replicate 16 0)
