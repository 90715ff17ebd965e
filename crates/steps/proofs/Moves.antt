-- A step in the work area is a step of the definition: the words spliced are those of the term with the part replaced, and checking them judges its limits.
use mathlib.Core.Path.{◌≡◌, refl, sym, ap, ◌∙◌}
use mathlib.Core.Bool.{Bool, true, false}
use mathlib.Core.List.{List, ◌++◌}
use mathlib.Core.Option.{Option, none, some}
use Prim.Native.Nat.{ℕ, ◌+◌, ◌≤◌, ◌<◌}
use native.Mathlib.Omega.{arith}
use lib.ListN.{length, take, drop, length-append}
use Rattle.term.specs.declared.answer.Answer.{Answer}
use Rattle.term.specs.declared.answer.Answer.TheVariants as answer
use Rattle.term.specs.Row.{Row, words}
use Rattle.term.specs.Check.{IsTerm, check, term_limits}
use Rattle.term.specs.Part.{part_end}
use Rattle.term.proofs.Laws.{never, good_tree}
use Rattle.book.specs.Book.{check_book}
use Rattle.fit.specs.Lowest.{Fitting}
use Rattle.fit.specs.Match.{tree_of}
use Rattle.fit.specs.Build.{within_limits}
use Rattle.fit.proofs.Laws.{within_limits_lem}
use Rattle.walk.specs.Walk.{walk, book_fits}
use Rattle.steps.specs.Rewrite.{many_aside, rewritten}
use Rattle.steps.specs.Offset.{part_at, spliced}
use Rattle.steps.specs.Told.Area.{spliced_words, SpliceTold}
use Rattle.steps.specs.Step.{Sought, Nowhere, FoundAt, Broken, lowest_offset, whole_within, step_taken, step_found, step}
use Rattle.std.specs.Prelude as prelude
use Rattle.std.specs.Prelude.{Some, None, Result, Ok, Err, MatchResult}
use Rattle.std.specs.Result.{IsOkAnd, is_err}
use Rattle.steps.specs.Told.Operations.{TakenTold, LowestTold, ReplaceTold, MoveTold}
use Rattle.steps.proofs.Shaped.{formed_shaped, limits_within}
use Rattle.steps.proofs.Offsets.{spliced_words_lem, part_end_lem, splice_keeps}
use Rattle.steps.proofs.Limits.{splice_nests, within_part, check_within, within_check}
use Rattle.steps.proofs.Steps.{SeekIs, lowest_offset_is, part_term, Wrote, found_writes}
use Rattle.steps.proofs.Seeks.{tree_body, tree_words_lem}

-- ---- a part replaced
module _ (ws : List ℕ) (at : ℕ) (new area : List ℕ) where
  abbrev whole : List ℕ
  whole = spliced_words ws at new

  pub replace_long : SpliceTold ws at new area None → ReplaceTold (spliced_words ws at new) area (Err answer.Over)
  unfolding SpliceTold
  replace_long l = (refl, λ g. let i = good_tree term_limits (omega arith) whole g in omega (arith, l, i.short))

  module _ (size : ℕ) (s : SpliceTold ws at new area (Some size)) where
    pub replace_few : size ≤ 4096
    unfolding SpliceTold
    replace_few = s.1

    pub replace_bad : is_err (check term_limits (take size area)) ≡ true → ReplaceTold (spliced_words ws at new) area (Err answer.Over)
    unfolding SpliceTold
    replace_bad e = (refl, λ g. let z : check term_limits (take size area) ≡ Ok tt = ap (check term_limits) s.2 ∙ g in let no = rw z at e in never (cc))

    pub replace_good : is_err (check term_limits (take size area)) ≡ false → ReplaceTold (spliced_words ws at new) area (Ok size)
    unfolding SpliceTold
    replace_good e = (good (check term_limits whole) (rw s.2 at e), s.1, s.2)
      where
        good : (c : Result (Unit {0}) ℕ) → is_err c ≡ false → c ≡ Ok tt
        good (Ok _) e = refl
        good (Err at) e = never (cc)

-- ---- the term with the part replaced
module _ (book : List ℕ) (accepted : check_book book ≡ Ok tt) (table ws : List ℕ) (i : IsTerm ws) where
  abbrev t : Row
  t = tree_of ws

  abbrev sought : Sought
  sought = lowest_offset book table (tree_of ws)

  module _ (at : ℕ) (f : Fitting) (k : SeekIs (walk (book_fits book) table) (tree_of ws) 0 (length (words (tree_of ws))) (FoundAt at f)) (u : Row) (made : rewritten book (part_at (tree_of ws) at) f ≡ some u) where
    abbrev v : Row
    v = spliced (tree_of ws) at u

    inside : at < length (words t)
    inside = k.1.inside

    writes : Wrote book accepted table u
    writes = found_writes book accepted table (part_at t at) (part_term t (tree_body ws i) at inside) f k.0 k.1.here u made

    words_are : spliced_words ws at (words u) ≡ words v
    unfolding spliced_words
    words_are =
        let b = tree_body ws i in
        let e : part_end (drop at ws) ≡ length (words (part_at t at)) = rw (tree_words_lem ws i) at (part_end_lem t at inside b.within.formed b.within.few b.within.low) in
        let s = rw (tree_words_lem ws i) at (spliced_words_lem t at inside u) in
        rw e (sym s)

    new_within : check term_limits (words v) ≡ Ok tt → within_limits u ≡ true → within_limits v ≡ true
    new_within g e =
        let n = limits_within u writes.shaped e in
        check_within v ((splice_nests t at inside u).formed (tree_body ws i).within.formed n.0 writes.one) ((splice_keeps t at inside u).wide writes.one ∙ (tree_body ws i).one) g

    new_over : (check term_limits (words v) ≡ Ok tt → ⊥) → within_limits v ≡ false
    new_over n = go (within_limits v) refl
      where
        go : (b : Bool) → within_limits v ≡ b → within_limits v ≡ false
        go true e =
            let s = splice_keeps t at inside u in
            absurd (n (within_check v (s.shaped (formed_shaped t (tree_body ws i).within.formed) writes.shaped writes.one) (s.wide writes.one ∙ (tree_body ws i).one) (omega (arith, s.few, (tree_body ws i).within.few, writes.few)) e))
        go false e = e

    part_short : length (words u) ≤ length (words v)
    part_short =
        let rest = drop (at + length (words (part_at t at))) (words t) in
        omega (arith, ap length (spliced_words_lem t at inside u), length-append (take at (words t)) (words u ++ rest), length-append (words u) rest)

    pub found_over : within_limits u ≡ false → within_limits v ≡ false
    found_over n = go (within_limits v) refl
      where
        go : (b : Bool) → within_limits v ≡ b → within_limits v ≡ false
        go true e =
            let q = within_part t (tree_body ws i) at inside u writes.one writes.shaped e in
            let m : within_limits u ≡ true = within_limits_lem u q.0 (omega (arith, q.1)) (omega (arith, q.2, part_short)) in
            never (cc)
        go false e = e

    pub found_inside : at < length ws
    found_inside = rw (tree_words_lem ws i) at inside

    pub found_to : (n : ℕ) (new area : List ℕ) → within_limits u ≡ true → take n new ≡ words u → (size : ℕ) → ReplaceTold (spliced_words ws at (take n new)) area (Ok size)
        → (within_limits v ≡ true) × (size ≤ 4096) × (take size area ≡ words v)
    found_to n new area e w size r =
        let q = rw (w, words_are) at r in
        (new_within q.0 e, q.1, q.2)

    pub found_refused : (n : ℕ) (new area : List ℕ) → take n new ≡ words u → (a : Answer) → ReplaceTold (spliced_words ws at (take n new)) area (Err a) → (within_limits v ≡ false) × (a ≡ answer.Over)
    found_refused n new area w a r =
        let q = rw (w, words_are) at r in
        (new_over q.1, q.0)

  -- ---- a step, by what was sought
  abbrev Sees : Sought → Type 0
  Sees s = SeekIs (walk (book_fits book) table) (tree_of ws) 0 (length (words (tree_of ws))) s

  abbrev made_of : ℕ → Fitting → Option Row
  made_of at f = rewritten book (part_at (tree_of ws) at) f

  abbrev many : ℕ → Fitting → ℕ
  many at f = many_aside book (part_at (tree_of ws) at) f

  module _ (new before area : List ℕ) where
    pub move_rests : LowestTold book (tree_of ws) (lowest_offset book table (tree_of ws)) new None → area ≡ before → MoveTold (step book table (tree_of ws)) before area (Ok None)
    unfolding step LowestTold MoveTold
    move_rests l e = go sought l
      where
        go : (s : Sought) → LowestTold book (tree_of ws) s new None → MoveTold (step_found book t s) before area (Ok None)
        go Nowhere l = (refl, e)
        go (FoundAt a f) l = absurd l
        go (Broken address) l = absurd l

    pub move_refused : (at : ℕ) (b : Answer) → LowestTold book (tree_of ws) (lowest_offset book table (tree_of ws)) new (Some (at, Err b)) → MoveTold (step book table (tree_of ws)) before area (Err b)
    unfolding step LowestTold MoveTold whole_within
    move_refused at b l = go sought (lowest_offset_is book table t) l
      where
        taken : (a : ℕ) (f : Fitting) → Sees (FoundAt a f) → (o : Option Row) → made_of a f ≡ o → TakenTold (many a f) o new (Err b) → MoveTold (step_taken t a f.number (many a f) o) before area (Err b)
        taken a f k none q l = let y : b ≡ answer.CannotTake (many a f) = cc in ap (λ (a : Answer). Err a) y
        taken a f k (some u) q l = rw (found_over a f k u q l.1, l.0) refl

        go : (s : Sought) → Sees s → LowestTold book (tree_of ws) s new (Some (at, Err b)) → MoveTold (step_found book t s) before area (Err b)
        go Nowhere k l = never (cc)
        go (FoundAt a f) k l = taken a f k (made_of a f) refl l.1
        go (Broken address) k l = let y : b ≡ answer.Damaged address = cc in ap (λ (a : Answer). Err a) y

    module _ (at n : ℕ) (l : LowestTold book (tree_of ws) (lowest_offset book table (tree_of ws)) new (Some (at, Ok n))) where
      pub move_inside : (at < length ws) × (n ≤ 4096)
      unfolding LowestTold
      move_inside = go sought (lowest_offset_is book table t) l
        where
          taken : (a : ℕ) (f : Fitting) → Sees (FoundAt a f) → at ≡ a → (o : Option Row) → made_of a f ≡ o → TakenTold (many a f) o new (Ok n) → (at < length ws) × (n ≤ 4096)
          taken a f k e none q l = never (cc)
          taken a f k e (some u) q l = (rw e (found_inside a f k u q), l.2)

          go : (s : Sought) → Sees s → LowestTold book (tree_of ws) s new (Some (at, Ok n)) → (at < length ws) × (n ≤ 4096)
          go Nowhere k l = never (cc)
          go (FoundAt a f) k l = taken a f k l.0 (made_of a f) refl l.1
          go (Broken b) k l = never (cc)

      -- what replacing the part comes to is the step's
      pub move_replaced : (r : Result ℕ Answer) → ReplaceTold (spliced_words ws at (take n new)) area r
          → (m : Result (prelude.Option ℕ) Answer) → MatchResult r (λ size. IsOkAnd m (λ k. k ≡ Some size)) (λ a. m ≡ Err a) → MoveTold (step book table (tree_of ws)) before area m
      unfolding step LowestTold MoveTold whole_within
      move_replaced r p m moved = go sought (lowest_offset_is book table t) l
        where
          put : (a : ℕ) (f : Fitting) → Sees (FoundAt a f) → at ≡ a → (u : Row) → made_of a f ≡ some u → TakenTold (many a f) (some u) new (Ok n)
              → (r : Result ℕ Answer) → ReplaceTold (spliced_words ws at (take n new)) area r
              → (m : Result (prelude.Option ℕ) Answer) → MatchResult r (λ size. IsOkAnd m (λ k. k ≡ Some size)) (λ a. m ≡ Err a) → MoveTold (step_taken t a f.number (many a f) (some u)) before area m
          put a f k e u q l (Ok size) p (Ok to) moved =
              let x = found_to a f k u q n new area l.0 l.3 size (rw e at p) in
              rw (x.0, moved) (size, refl, x.1, x.2)
          put a f k e u q l (Ok size) p (Err b) moved = absurd moved
          put a f k e u q l (Err b) p m moved =
              let x = found_refused a f k u q n new area l.3 b (rw e at p) in
              rw (x.0, moved, x.1) refl

          taken : (a : ℕ) (f : Fitting) → Sees (FoundAt a f) → at ≡ a → (o : Option Row) → made_of a f ≡ o → TakenTold (many a f) o new (Ok n) → MoveTold (step_taken t a f.number (many a f) o) before area m
          taken a f k e none q l = never (cc)
          taken a f k e (some u) q l = put a f k e u q l r p m moved

          go : (s : Sought) → Sees s → LowestTold book (tree_of ws) s new (Some (at, Ok n)) → MoveTold (step_found book t s) before area m
          go Nowhere k l = never (cc)
          go (FoundAt a f) k l = taken a f k l.0 (made_of a f) refl l.1
          go (Broken b) k l = never (cc)
