-- The lowest offset, sought word by word: what is left to seek gives the answer, and the visits made and those left are all, since the walk over the words from an offset on is the walk over the part there.
use mathlib.Core.Path.{◌≡◌, refl, sym, ap, ◌∙◌}
use mathlib.Core.List.{List}
use Prim.Native.Nat.{ℕ, zero, suc, ◌+◌, ◌*◌, ◌-◌, ◌≤◌, ◌<◌}
use native.Mathlib.Omega.{arith}
use lib.ListN.{length, drop, length-drop}
use Rattle.term.specs.Row.{Row, words}
use Rattle.term.specs.Check.{IsTerm, term_limits}
use Rattle.term.proofs.Laws.{never}
use Rattle.fit.specs.Fit.{IsBody}
use Rattle.fit.specs.Match.{tree_of}
use Rattle.fit.proofs.Laws.{term_is_body, tree_of_lem}
use Rattle.walk.specs.Walk.{Walked, NoneFits, RuleFits, DamagedAt, walk, visits, book_fits}
use Rattle.walk.specs.Told.State.{part_from}
use Rattle.walk.specs.Told.WithBook.{book_walk, book_visits}
use Rattle.walk.proofs.Laws.{from_stands, visits_few}
use Rattle.steps.specs.Offset.{part_at}
use Rattle.steps.specs.Step.{Sought, or_later, seek_rule, lowest_offset, later_visits, seek_visits, search_visits}
use Rattle.std.specs.Prelude.{Option, Some, None, Result}
use Rattle.term.specs.declared.answer.Answer.{Answer}
use Rattle.steps.specs.Told.Operations.{RewriteTold, LowestTold}
use Rattle.steps.proofs.Offsets as offsets

-- ---- a term's words and its tree
module _ (ws : List ℕ) (i : IsTerm ws) where
  pub tree_body : IsBody (tree_of ws)
  tree_body = rw (tree_of_lem term_limits ws i) (term_is_body ws i)

  pub tree_words_lem : words (tree_of ws) ≡ ws
  tree_words_lem = ap words (tree_of_lem term_limits ws i) ∙ sym i.same

  pub part_there : (at : ℕ) → at < length ws → part_from (drop at ws) 0 ≡ part_at (tree_of ws) at
  part_there at l =
      let t = tree_of ws in
      let b = tree_body in
      let k : at < length (words t) = rw tree_words_lem l in
      let s = rw tree_words_lem at (offsets.part_stands t at k b.within.formed b.within.few b.within.low) in
      from_stands (drop at ws) 0 (part_at t at) _ (omega (arith, length-drop at ws, i.short)) s

-- ---- what one offset tells
module _ (book : List ℕ) (t : Row) (at : ℕ) (later : Sought) (new : List ℕ) where
  abbrev p : Row
  p = part_at t at

  -- the search goes on
  pub told_none : (w : Walked) → RewriteTold book (part_at t at) w new None → (or_later at w later ≡ later) × ((n : ℕ) → later_visits w n ≡ n)
  unfolding RewriteTold
  told_none NoneFits x = (refl, λ n. refl)
  told_none (RuleFits f m) x = absurd x
  told_none (DamagedAt a) x = never (cc)

  -- the search ends here
  pub told_ends : (w : Walked) (r : Result ℕ Answer) → RewriteTold book (part_at t at) w new (Some r) → LowestTold book t (or_later at w later) new (Some (at, r)) × ((n : ℕ) → later_visits w n ≡ 0)
  unfolding RewriteTold LowestTold
  told_ends NoneFits r x = never (cc)
  told_ends (RuleFits f m) r x = ((refl, x), λ n. refl)
  told_ends (DamagedAt a) r x = (cc, λ n. refl)

-- ---- the loop
abbrev pub left_to_seek : List ℕ → List ℕ → List ℕ → ℕ → Sought
left_to_seek book table ws at = seek_rule (walk (book_fits book) table) (tree_of ws) at (length ws - at)

abbrev pub left_to_visit : List ℕ → List ℕ → List ℕ → ℕ → ℕ
left_to_visit book table ws at = seek_visits (walk (book_fits book) table) (visits table) (tree_of ws) at (length ws - at)

-- what is left to seek gives the answer, and the visits made and those left to make are all
pub record Seeking (book table ws : List ℕ) (at made : ℕ) : Type 0 where
  pub same : lowest_offset book table (tree_of ws) ≡ left_to_seek book table ws at
  pub all : search_visits book table (tree_of ws) ≡ made + left_to_visit book table ws at
  pub few : made ≤ 16385 * at

module _ (book table ws : List ℕ) (i : IsTerm ws) where
  abbrev look : Row → Walked
  look = walk (book_fits book) table

  pub seek_start : Seeking book table ws 0 0
  unfolding lowest_offset search_visits
  seek_start =
      let z : length ws - 0 ≡ length ws = omega arith in
      let y : left_to_visit book table ws 0 ≡ 0 + left_to_visit book table ws 0 = omega arith in
      record { same = rw (tree_words_lem ws i, z); all = rw (tree_words_lem ws i, z) (rw z at y); few = omega arith }

  module _ (at made : ℕ) (l : length ws ≤ at) (new : List ℕ) (s : Seeking book table ws at made) where
    pub seek_end : LowestTold book (tree_of ws) (lowest_offset book table (tree_of ws)) new None
    unfolding seek_rule LowestTold
    seek_end = let z : length ws - at ≡ 0 = omega arith in rw (s.same, z) refl

    pub end_visits : made ≡ search_visits book table (tree_of ws)
    unfolding seek_visits
    end_visits =
        let z : length ws - at ≡ 0 = omega arith in
        let n : left_to_visit book table ws at ≡ 0 = rw z refl in
        omega (arith, s.all, n)

  module _ (at : ℕ) (l : at < length ws) where
    one_more_lem : (m : ℕ) → m ≡ length ws - at → left_to_seek book table ws at ≡ or_later at (look (part_at (tree_of ws) at)) (seek_rule look (tree_of ws) (suc at) (length ws - at - 1))
    unfolding seek_rule
    one_more_lem zero e = absurd (omega (arith, e))
    one_more_lem (suc m) e = let y : suc m - 1 ≡ m = omega arith in rw (← e, y)

    more_visits : (m : ℕ) → m ≡ length ws - at
        → left_to_visit book table ws at
        ≡ visits table (part_at (tree_of ws) at) + later_visits (look (part_at (tree_of ws) at)) (seek_visits look (visits table) (tree_of ws) (suc at) (length ws - at - 1))
    unfolding seek_visits
    more_visits zero e = absurd (omega (arith, e))
    more_visits (suc m) e = let y : suc m - 1 ≡ m = omega arith in rw (← e, y)

    seek_here : left_to_seek book table ws at ≡ or_later at (book_walk book table (drop at ws)) (left_to_seek book table ws (at + 1))
    seek_here =
        let y : suc at ≡ at + 1 = omega arith in
        let z : length ws - at - 1 ≡ length ws - (at + 1) = omega arith in
        one_more_lem (length ws - at) refl ∙ rw (part_there ws i at l, y, z)

    visits_here_lem : left_to_visit book table ws at ≡ book_visits table (drop at ws) + later_visits (book_walk book table (drop at ws)) (left_to_visit book table ws (at + 1))
    visits_here_lem =
        let y : suc at ≡ at + 1 = omega arith in
        let z : length ws - at - 1 ≡ length ws - (at + 1) = omega arith in
        more_visits (length ws - at) refl ∙ rw (part_there ws i at l, y, z)

  -- ---- one turn: the part at an offset, with the visits of its walk
  module _ (at made : ℕ) (l : at < length ws) (s : Seeking book table ws at made) (part : List ℕ) (p : part ≡ drop at ws) (new : List ℕ) (n : ℕ) (v : n ≡ book_visits table part) where
    abbrev here : Walked
    here = book_walk book table (drop at ws)

    abbrev later : Sought
    later = left_to_seek book table ws (at + 1)

    at_part : (r : Option (Result ℕ Answer)) → RewriteTold book (part_from part 0) (book_walk book table part) new r → RewriteTold book (part_at (tree_of ws) at) (book_walk book table (drop at ws)) new r
    at_part r x =
        let e = part_there ws i at l in
        let y : RewriteTold book (part_from (drop at ws) 0) (book_walk book table (drop at ws)) new r = rw p at x in
        rw (sym e) y

    here_visits : n ≡ book_visits table (drop at ws)
    here_visits = rw p at v

    pub seek_more : RewriteTold book (part_from part 0) (book_walk book table part) new None → Seeking book table ws (at + 1) (made + n)
    seek_more x =
        let q = told_none book (tree_of ws) at later new here (at_part None x) in
        record { same = s.same ∙ seek_here at l ∙ q.0; all = omega (arith, s.all, visits_here_lem at l, here_visits, q.1 (left_to_visit book table ws (at + 1))); few = omega (arith, s.few, v, visits_few table (part_from part 0)) }

    module _ (r : Result ℕ Answer) (x : RewriteTold book (part_from part 0) (book_walk book table part) new (Some r)) where
      pub seek_found : LowestTold book (tree_of ws) (lowest_offset book table (tree_of ws)) new (Some (at, r))
      seek_found = rw (s.same ∙ seek_here at l) (told_ends book (tree_of ws) at later new here r (at_part (Some r) x)).0

      pub found_visits : made + n ≡ search_visits book table (tree_of ws)
      found_visits = omega (arith, s.all, visits_here_lem at l, here_visits, (told_ends book (tree_of ws) at later new here r (at_part (Some r) x)).1 (left_to_visit book table ws (at + 1)))

-- ---- how many nodes a search can visit
seek_few : (look : Row → Walked) (nodes : Row → ℕ) → ((p : Row) → nodes p ≤ 16385) → (t : Row) (at more : ℕ) → seek_visits look nodes t at more ≤ 16385 * more
unfolding seek_visits
seek_few look nodes h t at zero = omega arith
seek_few look nodes h t at (suc more) = omega (arith, h (part_at t at), go (look (part_at t at)), seek_few look nodes h t (suc at) more)
  where
    go : (w : Walked) → later_visits w (seek_visits look nodes t (suc at) more) ≤ seek_visits look nodes t (suc at) more
    go NoneFits = omega arith
    go (RuleFits f n) = omega arith
    go (DamagedAt a) = omega arith

pub search_few : (book table : List ℕ) (t : Row) → search_visits book table t ≤ 16385 * length (words t)
unfolding search_visits
search_few book table t = seek_few (walk (book_fits book) table) (visits table) (visits_few table) t 0 (length (words t))

-- 4,096 walks of 16,385 nodes
pub term_few : (book table : List ℕ) (t : Row) → IsBody t → search_visits book table t ≤ 67112960
term_few book table t i = omega (arith, search_few book table t, i.within.short)

-- a walk makes them few more
pub walk_few : (table part : List ℕ) (n : ℕ) → n ≡ book_visits table part → n ≤ 16385
walk_few table part n e = omega (arith, e, visits_few table (part_from part 0))

pub some_left : (ws : List ℕ) (at : ℕ) → at < length ws → 0 < length (drop at ws)
some_left ws at l = rw (length-drop at ws) (omega arith)
