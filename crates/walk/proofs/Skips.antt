-- Where the root of the tree has no case for a term's word, and its default is a Fail, no rule fits after these two nodes: no state is needed to say so.
use mathlib.Core.Path.{◌≡◌, ap, ◌∙◌}
use mathlib.Core.Bool.{Bool}
use mathlib.Core.List.{List, ◌∷◌}
use mathlib.Core.Option.{none}
use Prim.Native.Nat.{ℕ, suc, ◌*◌, ◌≤◌, ◌<◌}
use lib.ListN.{length, get_or}
use lib.Seq.{drop-cons}
use borrow.Author.Tests.{le-leb, lt-ltb}
use Rattle.term.specs.Row.{Row}
use Rattle.tree.specs.Tree.{LeafNode}
use Rattle.tree.specs.Find.{PartAt, root_count, root_part, part_of}
use Rattle.tree.proofs.Laws.{part_root}
use Rattle.walk.specs.Walk.{NoneFits, Next, Goes, go_to, case_of, switch_node, node_at, next_at, follow, walk_from, walk, visits_after, visits_from, visits}
use Rattle.walk.proofs.Steps.{walk_is}
use Rattle.walk.proofs.Visits.{visits_is, visits_walked}

fails_at : (fits : LeafNode → Bool) (table : List ℕ) (to : ℕ) (ps : List PartAt) → to < length table → get_or table to 0 ≡ 0 → (walk_from fits table to ps ≡ NoneFits) × (visits_from table to ps ≡ 1)
unfolding next_at node_at
fails_at fits table to ps l z = (walk_is fits table to ps ∙ rw (drop-cons table to 0 l, z), visits_is table fits to ps ∙ rw (drop-cons table to 0 l, z))

-- the word has no case at the root, a Switch on the place 0, and the default is a Fail
module _ (table : List ℕ) (t : Row) (cases : ℕ) (ws : List ℕ) (root : table ≡ 2 ∷ 0 ∷ cases ∷ ws) (room : 2 * cases < length ws) (other : case_of t cases ws ≡ none) where
  abbrev default : ℕ
  default = get_or ws (2 * cases) 0

  root_next : (fits : LeafNode → Bool) → 0 < default → default < length table → next_at fits table 0 (root_part t) ≡ Goes default (root_part t)
  unfolding next_at node_at switch_node go_to
  root_next fits later inside =
      let c : case_of (part_of 0 (root_part t)).part cases ws ≡ none = ap (λ (p : PartAt). case_of p.part cases ws) (part_root t) ∙ other in
      ap (node_at fits table 0 (root_part t)) root ∙ rw (lt-ltb (2 * cases) (length ws) room, c, lt-ltb 0 default later, lt-ltb default (length table) inside)

  pub no_case : (fits : ℕ → LeafNode → Bool) → length table ≤ 16384 → 0 < default → default < length table → get_or table default 0 ≡ 0 → (walk fits table t ≡ NoneFits) × (visits table t ≡ 2)
  unfolding walk
  no_case fits short later inside fail =
      let asked = fits (root_count t) in
      let f = fails_at asked table default (root_part t) inside fail in (
        rw (le-leb (length table) 16384 short) (walk_is asked table 0 (root_part t) ∙ ap (follow (walk_from asked table)) (root_next asked later inside) ∙ f.0),
        visits_walked table t short ∙ visits_is table asked 0 (root_part t) ∙ ap (λ (next : Next). suc (visits_after (visits_from table) next)) (root_next asked later inside) ∙ ap suc f.1,
      )
