-- One variable written: it is a row of one word, formed just where it has an id within 65,535.
use mathlib.Core.Path.{◌≡◌, sym, ap, ◌∙◌}
use mathlib.Core.List.{List, ◌++◌}
use Prim.Native.Nat.{ℕ, suc, ◌+◌, ◌-◌, ◌*◌, ◌≤◌, ◌<◌}
use native.Mathlib.Omega.{arith}
use lib.ListN.{length, set}
use Rattle.std.specs.Prelude.{Some}
use Rattle.term.specs.Word.{variable, word}
use Rattle.term.specs.Row.{nothing, words, nesting, Formed}
use Rattle.term.proofs.Laws.{width_nothing, nesting_node, words_node, count_variable, formed_node, variable_id, id_variable, word_variable}
use Rattle.fit.specs.Told.BuildWalk.{RowBuilt}
use Rattle.fit.proofs.Laws.{row_none, row_node}
use Rattle.steps.specs.Right.{single}

module _ (i levels : ℕ) (out : List ℕ) (to : ℕ) where
  -- what is within the limits has a level and a word of room left, and an id
  pub single_needs : Formed (single i) → nesting (single i) ≤ levels → to + length (words (single i)) ≤ 4096 → (1 ≤ levels) × (to < 4096) × (1 ≤ i) × (i < 65536)
  single_needs f n l =
      let id = variable_id i (formed_node (variable i) nothing nothing f).table in
      let one : length (words (single i)) ≡ suc (length (words nothing ++ words nothing)) = ap length (words_node (variable i) nothing nothing) in
      (omega (arith, n, nesting_node (variable i) nothing nothing), omega (arith, l, one), id.0, omega (arith, id.1))

  pub single_wrote : 1 ≤ levels → to < 4096 → 1 ≤ i → i < 65536 → (done : List ℕ) → done ≡ set out to (2 * 16777216 + i) → RowBuilt levels out to done (single i) (Some (to + 1))
  single_wrote l h a c done e =
      let v : 2 * 16777216 + i ≡ word (variable i) = omega (arith, word_variable i) in
      let w : done ≡ set out to (word (variable i)) = e ∙ ap (set out to) v in
      rw w
      (row_node levels out to (variable i) nothing (id_variable i (a, omega (arith, c))) (width_nothing ∙ sym (count_variable i)) l (set out to (word (variable i))) (Some (to + 1))
      (row_none (levels - 1) (set out to (word (variable i))) (to + 1) (omega (arith, h))))
