-- The ways through the tree of the rows that are not struck: the room is used up, no row is left, the first row has an open place with a head, a constraint
-- is left in it, or it is a Leaf.
use mathlib.Core.Path.{◌≡◌, refl, sym, ◌∙◌}
use mathlib.Core.Bool.{Bool, true, false}
use mathlib.Core.List.{List}
use Prim.Native.Nat.{ℕ, zero, suc, ◌+◌, ◌-◌, ◌*◌, ◌≤◌, ◌<◌}
use native.Mathlib.Omega.{arith}
use lib.ListN.{length, get_or, set}
use lib.Seq.{sets}
use Rattle.std.specs.Prelude.{Some, None}
use Rattle.term.specs.Word.{pick}
use Rattle.compiler.specs.Told.Tables.{first_row, lowest_from, first_constraint, first_at, is_free, leaf_words}
use Rattle.compiler.specs.Told.Stands.{TreeReady}
use Rattle.compiler.specs.Told.NodeTold.{SwitchReady, TestReady}
use Rattle.compiler.proofs.ToldNodes.{full_told, fail_told, leaf_told}
use Rattle.compiler.proofs.Readies.{leaf_long, low_numbers, few_variables}
use Rattle.compiler.proofs.TestRuns.{Subtree}

first_most : (p : ℕ → Bool) (more i : ℕ) → first_at p i more ≤ i + more
unfolding first_at
first_most p zero i = omega arith
first_most p (suc more) i = go (p i) (first_most p more (suc i))
  where
    go : (b : Bool) → first_at p (suc i) more ≤ suc i + more → pick b i (first_at p (suc i) more) ≤ i + suc more
    go true l = omega arith
    go false l = omega (arith, l)

pub row_few : (marks : List ℕ) (r : ℕ) → (r ≡ 64 → ⊥) → r ≡ first_row marks → r < 64
unfolding first_row
row_few marks r n e = omega (arith, e, n, first_most (is_free marks) 64 0)

module _ (fixed nums marks : List ℕ) (limit count at : ℕ) (t : TreeReady fixed nums marks limit count at) (out : List ℕ) where
  pub tree_full : limit ≤ at → (done : List ℕ) → Subtree fixed nums marks limit count at out done nums marks None
  tree_full h done = (λ book. full_told book fixed nums marks limit count at out done h, tt)

  module _ (room : at < limit) (r : ℕ) (is : r ≡ first_row marks) where
    pub tree_fails : r ≡ 64 → (done : List ℕ) (a : ℕ) → done ≡ set out at 0 → a ≡ at + 1 → Subtree fixed nums marks limit count at out done nums marks (Some a)
    tree_fails e done a p q = (λ book. fail_told book fixed nums marks limit count at out (omega (arith, e, is)) done a p q, (refl, refl, omega (arith, q), omega (arith, q)))

    module _ (few : r < 64) where
      few_entry : first_row marks < 64
      few_entry = omega (arith, is, few)

      pub lowest_needs : (r < 64) × ((k : ℕ) → get_or nums k 0 ≤ 4096)
      lowest_needs = (few, low_numbers fixed nums marks limit count at t)

      module _ (n : ℕ) (lowest : n ≡ lowest_from fixed nums marks (r * 64) 64 0) where
        lowest_entry : n ≡ lowest_from fixed nums marks (first_row marks * 64) 64 0
        lowest_entry = lowest ∙ rw is

        pub switch_needs : (n ≡ 0 → ⊥) → SwitchReady fixed nums marks limit count at (n - 1)
        switch_needs h = let z : suc (n - 1) ≡ n = omega (arith, h) in record { ready = t; room = room; first = few_entry; lowest = z ∙ lowest_entry }

        module _ (none_open : n ≡ 0) (id : ℕ) (first : id ≡ first_constraint fixed marks r) where
          first_entry : id ≡ first_constraint fixed marks (first_row marks)
          first_entry = first ∙ rw is

          pub test_needs : (id ≡ 0 → ⊥) → TestReady fixed nums marks limit count at id
          test_needs h = record { ready = t; room = room; first = few_entry; none_open = sym lowest_entry ∙ none_open; is = first_entry; some_left = h }

          pub leaf_needs : (at ≤ 16384) × (r < 64) × (get_or fixed (8192 + r) 0 ≤ 16)
          leaf_needs = (omega (arith, room, t.within.0), few, rw is (few_variables fixed nums marks limit count at t few_entry))

          pub tree_leaf : id ≡ 0 → (done : List ℕ) (a : ℕ) → done ≡ sets out at (leaf_words fixed nums marks r) → a ≡ at + length (leaf_words fixed nums marks r) → Subtree fixed nums marks limit count at out done nums marks (Some a)
          tree_leaf e done a p q = (
            λ book. leaf_told book fixed nums marks limit count at out few_entry (sym lowest_entry ∙ none_open) (sym first_entry ∙ e) done a (p ∙ rw is) (q ∙ rw is),
            (refl, refl, omega (arith, q), omega (arith, q, room, leaf_long fixed nums marks r leaf_needs.2)),
          )
