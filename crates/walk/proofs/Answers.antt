-- What matching by the tree answers and leaves, way by way: the term, the length of the tree, and then how the walk ended.
use mathlib.Core.Path.{◌≡◌, refl, sym, ◌∙◌}
use mathlib.Core.Bool.{Bool, true, false}
use mathlib.Core.List.{List}
use Prim.Native.Nat.{ℕ, ◌+◌, ◌≤◌, ◌<◌}
use native.Mathlib.Omega.{arith}
use lib.ListN.{length, get_or, replicate, drop, length-drop}
use lib.Seq.{drop-drop}
use borrow.Author.Tests.{le-leb, lt-leb}
use Rattle.std.specs.Prelude.{Ok, Err}
use Rattle.term.specs.declared.answer.Answer.{Answer}
use Rattle.term.specs.declared.answer.Answer.TheVariants as answer
use Rattle.term.specs.Answer.{answered}
use Rattle.term.specs.Word.{count_of}
use Rattle.term.specs.Row.{Row, nothing, words, width}
use Rattle.term.specs.Check.{IsTerm, check, term_limits}
use Rattle.term.proofs.Laws.{good_tree, term_part, part_begins, words_node}
use Rattle.fit.specs.Match.{tree_of, refused}
use Rattle.fit.proofs.Laws.{tree_of_lem, refused_leaves, refused_aside, fitted_aside}
use Rattle.tree.specs.Tree.{LeafNode}
use Rattle.tree.specs.Find.{root_count, root_part}
use Rattle.walk.specs.Walk.{NoneFits, DamagedAt, walk_from, walk, visits, no_book}
use Rattle.walk.specs.declared.state.Walk.{Walk}
use Rattle.walk.specs.declared.state.Stands.{Stands}
use Rattle.walk.specs.declared.state.Stands.TheVariants as stands
use Rattle.walk.specs.declared.by_tree.TreeMatch.{TreeMatch}
use Rattle.walk.specs.Told.State.{part_from, places_of, Parted, Holds, leaf_rule, LeafSound, LeafFound, Stood, Standing, WalkTold, walked_here, visits_here, walked_gives, FindsNone, LeafWritten}
use Rattle.walk.specs.ByTree.{match_tree, match_tree_rule, match_tree_visits, MatchTreeOutcome, match_tree_came, rule_gives, match_tree_gives}
use Rattle.walk.proofs.Uncovered.{one_tree}
use Rattle.walk.proofs.Outcomes.{rule_came}
use Rattle.walk.proofs.Visits.{visits_walked, visits_long}
use Rattle.walk.proofs.RootCounts.{part_counts}

-- ---- where no rule is found, cleared outputs are what is left
refuses : (room : ℕ) (bodies lengths : List ℕ) (r : TreeMatch) → bodies ≡ replicate room 0 → lengths ≡ replicate 16 0 → (a : Answer) (v : ℕ) → FindsNone a v r
    → match_tree_came (answered r.answer) r.rule r.aside r.visits bodies lengths ≡ rule_gives room (refused a) 0 v
refuses room bodies lengths r b l a v f =
    let q = refused_leaves room a bodies lengths b l in
    rule_came r.answer r.rule r.aside r.visits bodies lengths room (refused a) 0 v (f.0 ∙ q.0) f.1 (f.2 ∙ sym (refused_aside room a)) f.3 q.1 q.2

-- ---- how the walk ended
module _ (table term : List ℕ) (s : Walk) (t : WalkTold table term s) where
  abbrev asked : LeafNode → Bool
  asked = no_book (root_count (part_from term 0))

  pub ended_holds : Holds term s
  unfolding WalkTold Standing
  ended_holds = t.0.0

  pub ended_visits : s.visits ≡ visits_here table term
  unfolding WalkTold
  ended_visits = t.2

  pub ended_none : s.stands ≡ stands.NoRule → (fits : LeafNode → Bool) → walk_from fits table 0 (root_part (part_from term 0)) ≡ NoneFits
  unfolding WalkTold Standing
  ended_none z fits = let e : Stood table term (λ fits. walk_from fits table 0 (root_part (part_from term 0))) s stands.NoRule = rw z at t.0.1 in e fits

  pub ended_damaged : (s.stands ≡ stands.NoRule → ⊥) → (s.stands ≡ stands.Rule → ⊥) → (fits : LeafNode → Bool) → walk_from fits table 0 (root_part (part_from term 0)) ≡ DamagedAt s.at
  unfolding WalkTold Standing
  ended_damaged a b fits = go s.stands t.1 a b t.0.1
    where
      go : (n : Stands) → (n ≡ stands.Going → ⊥) → (n ≡ stands.NoRule → ⊥) → (n ≡ stands.Rule → ⊥) → Stood table term (λ fits. walk_from fits table 0 (root_part (part_from term 0))) s n → walk_from fits table 0 (root_part (part_from term 0)) ≡ DamagedAt s.at
      go stands.Going x y z e = absurd (x refl)
      go stands.NoRule x y z e = absurd (y refl)
      go stands.Rule x y z e = absurd (z refl)
      go stands.Damaged x y z e = e fits

  module _ (z : s.stands ≡ stands.Rule) where
    pub ended_leaf : LeafFound table term (λ fits. walk_from fits table 0 (root_part (part_from term 0))) s
    unfolding WalkTold Standing
    ended_leaf = go s.stands z t.0.1
      where
        go : (n : Stands) → n ≡ stands.Rule → Stood table term (λ fits. walk_from fits table 0 (root_part (part_from term 0))) s n → LeafFound table term (λ fits. walk_from fits table 0 (root_part (part_from term 0))) s
        go n z e = rw z at e

    pub ended_sound : LeafSound table term s
    ended_sound = ended_leaf.leaf

    module _ (parted : Parted term) (some_words : 0 < length term) (a : ℕ) (arguments : a ≡ count_of (get_or term 0 0)) where
      root_counts : root_count (part_from term 0) ≡ a
      root_counts = sym (arguments ∙ part_counts term parted some_words)

      ended_over : a < get_or table (s.at + 3) 0 → walked_here table term ≡ DamagedAt s.at
      unfolding no_book
      ended_over l = ended_leaf.ends asked ∙ rw (root_counts, lt-leb (get_or table (s.at + 3) 0) a l)

      ended_rule : get_or table (s.at + 3) 0 ≤ a → walked_here table term ≡ leaf_rule table (places_of term s) s.at
      unfolding no_book
      ended_rule l = ended_leaf.ends asked ∙ rw (root_counts, le-leb (get_or table (s.at + 3) 0) a l)

  -- ---- what is answered and left
  module _ (room : ℕ) (bodies lengths : List ℕ) (r : TreeMatch) where
    abbrev Gives : Type 0
    Gives = match_tree_came (answered r.answer) r.rule r.aside r.visits bodies lengths ≡ walked_gives room (walked_here table term) (visits_here table term)

    -- it answers after the visits of the walk
    after_walk : (a : Answer) → FindsNone a s.visits r → FindsNone a (visits_here table term) r
    after_walk a f = (f.0, f.1, f.2, f.3 ∙ ended_visits)

    module _ (b : bodies ≡ replicate room 0) (l : lengths ≡ replicate 16 0) where
      pub match_none : s.stands ≡ stands.NoRule → FindsNone answer.NoFit s.visits r → Gives
      unfolding walked_gives
      match_none z f = rw (ended_none z asked) (refuses room bodies lengths r b l answer.NoFit (visits_here table term) (after_walk answer.NoFit f))

      pub match_damaged : (s.stands ≡ stands.NoRule → ⊥) → (s.stands ≡ stands.Rule → ⊥) → FindsNone (answer.Damaged s.at) s.visits r → Gives
      unfolding walked_gives
      match_damaged y z f = rw (ended_damaged y z asked) (refuses room bodies lengths r b l (answer.Damaged s.at) (visits_here table term) (after_walk (answer.Damaged s.at) f))

      pub match_over : s.stands ≡ stands.Rule → Parted term → 0 < length term → (a : ℕ) → a ≡ count_of (get_or term 0 0) → a < get_or table (s.at + 3) 0 → FindsNone (answer.Damaged s.at) s.visits r → Gives
      unfolding walked_gives
      match_over z p n a c k f = rw (ended_over z p n a c k) (refuses room bodies lengths r b l (answer.Damaged s.at) (visits_here table term) (after_walk (answer.Damaged s.at) f))

    module _ (z : s.stands ≡ stands.Rule) (parted : Parted term) (some_words : 0 < length term) (a : ℕ) (arguments : a ≡ count_of (get_or term 0 0)) (within : get_or table (s.at + 3) 0 ≤ a) (fits : Bool)
        (w : LeafWritten table term s room bodies lengths fits) where
      pub match_short : fits ≡ false → FindsNone answer.Short s.visits r → Gives
      unfolding walked_gives LeafWritten
      match_short f u =
          rw (ended_rule z parted some_words a arguments within)
          (rule_came r.answer r.rule r.aside r.visits bodies lengths room _ _ _ (u.0 ∙ rw f at w.1) (rw (w.0, f) u.1) (u.2 ∙ sym (fitted_aside room _ _ _ false (w.0 ∙ f))) (u.3 ∙ ended_visits) w.2 w.3)

      pub match_done : fits ≡ true → r.answer ≡ answer.Done → r.rule ≡ get_or table (s.at + 1) 0 → r.aside ≡ get_or table (s.at + 3) 0 → r.visits ≡ s.visits → Gives
      unfolding walked_gives LeafWritten
      match_done f y u v n =
          rw (ended_rule z parted some_words a arguments within)
          (rule_came r.answer r.rule r.aside r.visits bodies lengths room _ _ _ (y ∙ rw f at w.1) (rw (w.0, f) u) (v ∙ sym (fitted_aside room _ _ _ true (w.0 ∙ f))) (n ∙ ended_visits) w.2 w.3)

-- ---- the words of a term from an offset on
pub tail_parted : (ws : List ℕ) → IsTerm ws → (at : ℕ) → Parted (drop at ws)
tail_parted ws t at =
    record {
      begins = λ i h. rw (drop-drop i at ws) (part_begins ws t (at + i) (omega (arith, h, length-drop at ws)));
      short = omega (arith, t.short, length-drop at ws);
    }

-- ---- the term
some_words : (t : Row) → width t ≡ 1 → 0 < length (words t)
some_words t e = let o = one_tree t e in rw (o.2, words_node o.0 o.1 nothing) (omega arith)

module _ (table ws : List ℕ) (room : ℕ) where
  module _ (good : check term_limits ws ≡ Ok tt) where
    is_term : IsTerm ws
    is_term = good_tree term_limits (omega arith) ws good

    pub term_parted : Parted ws
    term_parted = record { begins = part_begins ws is_term; short = is_term.short }

    pub term_some : 0 < length ws
    term_some = rw is_term.same (some_words is_term.tree is_term.one)

    part_tree : part_from ws 0 ≡ tree_of ws
    unfolding part_from
    part_tree = rw (term_part ws is_term) (sym (tree_of_lem term_limits ws is_term))

    walk_here : length table ≤ 16384 → walk no_book table (tree_of ws) ≡ walked_here table ws
    unfolding walk
    walk_here l = rw (le-leb (length table) 16384 l, part_tree)

    visits_here_lem : length table ≤ 16384 → visits table (tree_of ws) ≡ visits_here table ws
    visits_here_lem l = visits_walked table (tree_of ws) l ∙ rw part_tree

    pub match_walked : length table ≤ 16384 → (o : MatchTreeOutcome) → o ≡ walked_gives room (walked_here table ws) (visits_here table ws) → o ≡ match_tree_gives table ws room
    unfolding match_tree match_tree_rule match_tree_visits walked_gives match_tree_gives
    match_walked l o w = rw (good, walk_here l, visits_here_lem l) w

  module _ (bodies lengths : List ℕ) (r : TreeMatch) (b : bodies ≡ replicate room 0) (l : lengths ≡ replicate 16 0) where
    pub match_bad_term : (at : ℕ) → check term_limits ws ≡ Err at → FindsNone (answer.BadTerm at) 0 r → match_tree_came (answered r.answer) r.rule r.aside r.visits bodies lengths ≡ match_tree_gives table ws room
    unfolding match_tree match_tree_rule match_tree_visits match_tree_gives
    match_bad_term at e f = rw e (refuses room bodies lengths r b l (answer.BadTerm at) 0 f)

    pub match_long : check term_limits ws ≡ Ok tt → 16384 < length table → FindsNone (answer.Damaged 16384) 0 r
        → match_tree_came (answered r.answer) r.rule r.aside r.visits bodies lengths ≡ match_tree_gives table ws room
    unfolding match_tree match_tree_rule match_tree_visits match_tree_gives walk
    match_long e k f = rw (e, visits_long table (tree_of ws) k, lt-leb (length table) 16384 k) (refuses room bodies lengths r b l (answer.Damaged 16384) 0 f)
