-- Document 01, "Words": a word is kind × 16,777,216 + count × 65,536 + id, and the table says which words there are.
use Rattle.std.specs.Prelude.{ℕ, ◌+◌, ◌*◌, ◌/◌, ◌%◌, ◌≤◌, Bool, true, false, ◌&&◌, leb, eqb}
use Rattle.std.proofs.Math.Option.{Option, none, some}

abbrev pub pick : {A : Type 0} → Bool → A → A → A
pick true a b = a
pick false a b = b

-- what a node is without its children: the rows of the table, with id and count
pub data Head : Type 0 where
  symbol : ℕ → ℕ → Head
  abstraction : Head
  variable : ℕ → Head
  pattern : ℕ → ℕ → Head

unfoldable pub kind : Head → ℕ
kind (symbol i c) = 0
kind abstraction = 1
kind (variable i) = 2
kind (pattern i c) = 3

-- where a head may stand, in order: up to 1 it fixes what stands in a left side, up to 2 it is a term's, and 3 is a pattern variable's
unfoldable pub rank : Head → ℕ
rank (symbol i c) = 0
rank abstraction = 1
rank (variable i) = 2
rank (pattern i c) = 3

-- the largest rank of a head in a term, and in a side
abbrev pub term_rank : ℕ
term_rank = 2

abbrev pub side_rank : ℕ
side_rank = 3

unfoldable pub count : Head → ℕ
count (symbol i c) = c
count abstraction = 1
count (variable i) = 0
count (pattern i c) = c

unfoldable pub ident : Head → ℕ
ident (symbol i c) = i
ident abstraction = 0
ident (variable i) = i
ident (pattern i c) = i

unfoldable pub word : Head → ℕ
unfolding kind count ident
word h = kind h * 16777216 + count h * 65536 + ident h

-- the ranges of the table
unfoldable pub InTable : Head → Type 0
InTable (symbol i c) = (c ≤ 15) × (i ≤ 1023)
InTable abstraction = Unit {0}
InTable (variable i) = (1 ≤ i) × (i ≤ 65535)
InTable (pattern i c) = (c ≤ 4) × (i ≤ 15)

-- the parts of a word
abbrev pub kind_of : ℕ → ℕ
kind_of w = w / 16777216

abbrev pub count_of : ℕ → ℕ
count_of w = w / 65536 % 256

abbrev pub ident_of : ℕ → ℕ
ident_of w = w % 65536

-- the head with these parts, where the table has it
unfoldable pub head_with : ℕ → ℕ → ℕ → Option Head
head_with k c i =
    pick (eqb k 0) (pick (leb c 15 && leb i 1023) (some (symbol i c)) none)
    (pick (eqb k 1) (pick (eqb c 1 && eqb i 0) (some abstraction) none)
    (pick (eqb k 2) (pick (eqb c 0 && leb 1 i) (some (variable i)) none)
    (pick (eqb k 3) (pick (leb c 4 && leb i 15) (some (pattern i c)) none)
    none)))

-- the head of a word; none where the word breaks the table
unfoldable pub head_of : ℕ → Option Head
head_of w = head_with (kind_of w) (count_of w) (ident_of w)
