-- Numbering the children of rows, as its loops meet it.
use mathlib.Core.Path.{◌≡◌, refl, sym, ap, ◌∙◌}
use mathlib.Core.List.{List}
use Prim.Native.Nat.{ℕ, zero, suc, ◌+◌, ◌-◌, ◌≤◌, ◌<◌}
use native.Mathlib.Omega.{arith}
use lib.Dec.{eqb}
use lib.ListN.{get_or, set, take, drop}
use borrow.Author.Tests.{lt-ltb, le-ltb, eq-eqb, ne_eqb}
use Rattle.term.specs.Part.{part_end}
use Rattle.compiler.specs.Told.Tables.{head_word, spot_at, next_child, children_numbered, spot_numbered, row_numbered, rows_numbered}
use Rattle.tree.proofs.Laws.{and_false}

pub next_over : (fixed : List ℕ) (child to words : ℕ) → words ≡ part_end (take (to - child) (drop child fixed)) → to - child < words → to ≡ next_child fixed child to
unfolding next_child
next_over fixed child to words e h = rw (← e, lt-ltb (to - child) words h)

pub next_in : (fixed : List ℕ) (child to words : ℕ) → words ≡ part_end (take (to - child) (drop child fixed)) → words ≤ to - child → child + words ≡ next_child fixed child to
unfolding next_child
next_in fixed child to words e h = rw (← e, le-ltb (to - child) words h)

pub numbered_stop : (fixed : List ℕ) (to v child m : ℕ) (nums all : List ℕ) → all ≡ children_numbered fixed to v child m nums → to ≤ child → nums ≡ all
unfolding children_numbered
numbered_stop fixed to v child zero nums all e h = sym e
numbered_stop fixed to v child (suc m) nums all e h = sym (rw (le-ltb child to h) at e)

pub numbered_end : (fixed : List ℕ) (to v child m : ℕ) (nums all : List ℕ) → all ≡ children_numbered fixed to v child m nums → m ≡ 0 → nums ≡ all
unfolding children_numbered
numbered_end fixed to v child m nums all e h = sym (rw h at e)

numbered_step : (fixed : List ℕ) (to v child m : ℕ) (nums : List ℕ) → child < to → children_numbered fixed to v child (suc m) nums ≡ children_numbered fixed to (suc v) (next_child fixed child to) m (set nums child v)
unfolding children_numbered
numbered_step fixed to v child m nums h = rw (lt-ltb child to h)

pub numbered_next : (fixed : List ℕ) (to first j child c : ℕ) (nums all : List ℕ) → j < c → child < to → all ≡ children_numbered fixed to (first + 1 + j) child (c - j) nums
    → (next : ℕ) → next ≡ next_child fixed child to → all ≡ children_numbered fixed to (first + 1 + (j + 1)) next (c - (j + 1)) (set nums child (first + 1 + j))
numbered_next fixed to first j child c nums all h l e next q =
    let z : c - j ≡ suc (c - (j + 1)) = omega arith in
    let y : first + 1 + (j + 1) ≡ suc (first + 1 + j) = omega arith in
    e ∙ ap (λ (m : ℕ). children_numbered fixed to (first + 1 + j) child m nums) z ∙ numbered_step fixed to (first + 1 + j) child (c - (j + 1)) nums l ∙ rw (y, q)

pub row_struck : (fixed marks : List ℕ) (n first r : ℕ) (nums : List ℕ) → (get_or marks r 0 ≡ 0 → ⊥) → nums ≡ row_numbered fixed marks n first r nums
unfolding row_numbered
row_struck fixed marks n first r nums e = rw (ne_eqb (get_or marks r 0) 0 e)

pub row_unheaded : (fixed marks : List ℕ) (n first r : ℕ) (nums : List ℕ) (w : ℕ) → w ≡ head_word fixed nums r n → w ≡ 33554432 → nums ≡ row_numbered fixed marks n first r nums
unfolding row_numbered
row_unheaded fixed marks n first r nums w e q = rw (← e, eq-eqb w 33554432 q, and_false (eqb (get_or marks r 0) 0))

pub row_numbered_lem : (fixed marks : List ℕ) (n first r : ℕ) (nums : List ℕ) (w k : ℕ) (done : List ℕ) → get_or marks r 0 ≡ 0 → w ≡ head_word fixed nums r n → (w ≡ 33554432 → ⊥) → k ≡ spot_at nums r n
    → done ≡ spot_numbered fixed k first nums → done ≡ row_numbered fixed marks n first r nums
unfolding row_numbered
row_numbered_lem fixed marks n first r nums w k done z e q s d = d ∙ rw (eq-eqb (get_or marks r 0) 0 z, ← e, ne_eqb w 33554432 q, ← s)

-- a row with a head at the place has a spot there
pub headed_spot : (fixed nums : List ℕ) (r n w : ℕ) → w ≡ head_word fixed nums r n → (w ≡ 33554432 → ⊥) → spot_at nums r n ≡ 4096 → ⊥
unfolding head_word
headed_spot fixed nums r n w e q s = q (e ∙ rw (eq-eqb (spot_at nums r n) 4096 s))

rows_step : (fixed marks : List ℕ) (n first r m : ℕ) (nums : List ℕ) → rows_numbered fixed marks n first r (suc m) nums ≡ rows_numbered fixed marks n first (suc r) m (row_numbered fixed marks n first r nums)
unfolding rows_numbered
rows_step fixed marks n first r m nums = refl

pub rows_next : (fixed marks : List ℕ) (n first r : ℕ) (nums all done : List ℕ) → r < 64 → all ≡ rows_numbered fixed marks n first r (64 - r) nums → done ≡ row_numbered fixed marks n first r nums
    → all ≡ rows_numbered fixed marks n first (r + 1) (64 - (r + 1)) done
rows_next fixed marks n first r nums all done h e q =
    let z : 64 - r ≡ suc (64 - (r + 1)) = omega arith in
    let y : r + 1 ≡ suc r = omega arith in
    e ∙ ap (λ (m : ℕ). rows_numbered fixed marks n first r m nums) z ∙ rows_step fixed marks n first r (64 - (r + 1)) nums ∙ rw (y, q)

pub rows_end : (fixed marks : List ℕ) (n first r m : ℕ) (nums all : List ℕ) → all ≡ rows_numbered fixed marks n first r m nums → m ≡ 0 → nums ≡ all
unfolding rows_numbered
rows_end fixed marks n first r m nums all e h = sym (rw h at e)
