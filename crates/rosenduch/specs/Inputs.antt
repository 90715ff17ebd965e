-- The inputs of the table of wrong programs.
use Rattle.std.specs.Prelude.{ℕ, List, [], ◌∷◌}
use Rattle.book.specs.Marked.{s, l, v, m}

-- P1, P3, P6, P7, P10, and the program's first term
unfoldable pub p1 : List ℕ
p1 = s 2 2 ∷ s 7 0 ∷ s 7 0 ∷ []

unfoldable pub p3 : List ℕ
p3 = s 3 1 ∷ l ∷ v 2 ∷ []

unfoldable pub p6 : List ℕ
p6 = s 3 1 ∷ l ∷ s 4 1 ∷ s 7 0 ∷ []

unfoldable pub p7 : List ℕ
p7 = s 6 2 ∷ l ∷ v 1 ∷ l ∷ l ∷ v 2 ∷ []

unfoldable pub p10 : List ℕ
p10 = s 6 2 ∷ l ∷ v 2 ∷ l ∷ l ∷ v 2 ∷ []

-- P7 with a loop in each part that names its own stop
unfoldable pub in_loops : List ℕ
in_loops = s 6 2 ∷ l ∷ l ∷ v 1 ∷ l ∷ l ∷ l ∷ v 1 ∷ []

unfoldable pub first_term : List ℕ
first_term = s 2 2 ∷ s 3 1 ∷ l ∷ s 7 0 ∷ s 7 0 ∷ []

-- book A with rules 1 and 2 exchanged
unfoldable pub exchanged : List ℕ
exchanged = 3
    ∷ 1 ∷ 3 ∷ 1 ∷ s 2 2 ∷ m 0 0 ∷ m 0 0 ∷ m 0 0
    ∷ 1 ∷ 5 ∷ 5 ∷ s 3 1 ∷ l ∷ s 4 1 ∷ m 0 1 ∷ v 1 ∷ s 4 1 ∷ s 3 1 ∷ l ∷ m 0 1 ∷ v 1
    ∷ 1 ∷ 3 ∷ 1 ∷ s 3 1 ∷ l ∷ m 0 0 ∷ m 0 0
    ∷ []

-- `s1.2 s2.0 s3.0` and `s1.2 m0.0 s4.0`, and a term that fits the second alone, in the first's case
unfoldable pub two_rows : List ℕ
two_rows = 2 ∷ 0 ∷ 3 ∷ 1 ∷ s 1 2 ∷ s 2 0 ∷ s 3 0 ∷ s 2 0 ∷ 1 ∷ 3 ∷ 1 ∷ s 1 2 ∷ m 0 0 ∷ s 4 0 ∷ m 0 0 ∷ []

unfoldable pub second_fits : List ℕ
second_fits = s 1 2 ∷ s 2 0 ∷ s 4 0 ∷ []
