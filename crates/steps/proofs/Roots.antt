-- What rewriting at the root answers and leaves, way by way: the book, the term, and then how the walk and the rule ended.
use mathlib.Core.Path.{◌≡◌, refl, sym, ap, ◌∙◌}
use mathlib.Core.List.{List}
use mathlib.Core.Option.{Option, none, some}
use Prim.Native.Nat.{ℕ, ◌≤◌, ◌<◌}
use native.Mathlib.Omega.{arith}
use lib.ListN.{length, take, replicate}
use Rattle.term.specs.declared.answer.Answer.{Answer}
use Rattle.term.specs.declared.answer.Answer.TheVariants as answer
use Rattle.term.specs.Row.{Row, words}
use Rattle.term.specs.Check.{IsTerm, check, term_limits}
use Rattle.term.specs.Part.{padded}
use Rattle.term.proofs.Laws.{never, term_part, part_is, part_begins}
use Rattle.book.specs.Accept.{accept}
use Rattle.fit.specs.Match.{tree_of}
use Rattle.fit.specs.Build.{Built, refused, built, build_answer, build_words}
use Rattle.fit.proofs.Laws.{tree_of_lem, limited_is, refused_built, built_built}
use Rattle.walk.specs.Walk.{Walked, NoneFits, RuleFits, DamagedAt, visits}
use Rattle.walk.specs.ByTree.{term_visits}
use Rattle.walk.specs.Told.State.{part_from, Parted}
use Rattle.walk.specs.Told.WithBook.{book_walk, book_visits}
use Rattle.walk.proofs.Laws.{from_stands}
use Rattle.steps.specs.Rewrite.{many_aside, rewritten, taken_root, walked_root, root_with_term, root_with_book, rewrite_root, sound_visits, root_visits}
use Rattle.std.specs.Prelude.{Some, None, Ok, Err, Result}
use Rattle.steps.specs.Told.Operations.{asked, TakenTold, RewriteTold, given_answer}
use Rattle.steps.proofs.Shaped.{some_long}
use Rattle.steps.proofs.Asked.{sound_book, sound_term, is_term}

abbrev pub BuiltTold : ℕ → Built → Answer → List ℕ → Type 0
BuiltTold room b r out = (r ≡ build_answer room b) × (out ≡ build_words room b)

-- ---- what the term's words are
module _ (ws : List ℕ) (i : IsTerm ws) where
  pub term_parted : Parted ws
  term_parted = record { begins = part_begins ws i; short = i.short }

  pub term_some : 0 < length ws
  term_some = omega (arith, ap length i.same, some_long i.tree i.one)

  pub whole_part : part_from ws 0 ≡ tree_of ws
  whole_part = let s = part_is ws i.tree (term_part ws i) in from_stands ws 0 i.tree s.0 i.short s.1 ∙ sym (tree_of_lem term_limits ws i)

-- ---- a refusal leaves zeros, a row that was built its words
refused_told : (room : ℕ) (a : Answer) (out : List ℕ) → out ≡ replicate room 0 → BuiltTold room (refused a) a out
refused_told room a out c = let q = refused_built room a in (sym q.0, c ∙ sym q.1)

built_told : (room : ℕ) (u : Row) (r : Answer) (out : List ℕ) → (r ≡ given_answer room (words u) answer.Done) × (out ≡ padded room (words u)) → BuiltTold room (built u) r out
built_told room u r out g = let q = built_built room u in (g.0 ∙ sym q.0, g.1 ∙ sym q.1)

-- ---- how the walk and the rule ended
module _ (book : List ℕ) (t : Row) (room : ℕ) (area out : List ℕ) where
  module _ (c : out ≡ replicate room 0) where
    pub root_none : (w : Walked) → RewriteTold book t w area None → BuiltTold room (walked_root book t w) answer.NoFit out
    unfolding RewriteTold
    root_none NoneFits x = refused_told room answer.NoFit out c
    root_none (RuleFits f n) x = absurd x
    root_none (DamagedAt at) x = never (cc)

    pub root_refuses : (w : Walked) (a : Answer) → RewriteTold book t w area (Some (Err a)) → BuiltTold room (walked_root book t w) a out
    unfolding RewriteTold
    root_refuses NoneFits a x = never (cc)
    root_refuses (RuleFits f n) a x = go (rewritten book t f) x
      where
        go : (o : Option Row) → TakenTold (many_aside book t f) o area (Err a) → BuiltTold room (taken_root (many_aside book t f) o) a out
        go none x = let y : a ≡ answer.CannotTake (many_aside book t f) = cc in rw y (refused_told room (answer.CannotTake (many_aside book t f)) out c)
        go (some u) x = rw (limited_is u, x.1, x.0) (refused_told room answer.Over out c)
    root_refuses (DamagedAt at) a x = let y : a ≡ answer.Damaged at = cc in rw y (refused_told room (answer.Damaged at) out c)

  pub root_few : (w : Walked) (n : ℕ) → RewriteTold book t w area (Some (Ok n)) → n ≤ 4096
  unfolding RewriteTold
  root_few NoneFits n x = never (cc)
  root_few (RuleFits f m) n x = go (rewritten book t f) x
    where
      go : (o : Option Row) → TakenTold (many_aside book t f) o area (Ok n) → n ≤ 4096
      go none x = never (cc)
      go (some u) x = x.2
  root_few (DamagedAt at) n x = never (cc)

  pub root_wrote : (w : Walked) (n : ℕ) → RewriteTold book t w area (Some (Ok n))
      → (r : Answer) → (r ≡ given_answer room (take n area) answer.Done) × (out ≡ padded room (take n area)) → BuiltTold room (walked_root book t w) r out
  unfolding RewriteTold
  root_wrote NoneFits n x r g = never (cc)
  root_wrote (RuleFits f m) n x r g = go (rewritten book t f) x
    where
      go : (o : Option Row) → TakenTold (many_aside book t f) o area (Ok n) → BuiltTold room (taken_root (many_aside book t f) o) r out
      go none x = never (cc)
      go (some u) x = rw (limited_is u, x.0) (built_told room u r out (rw x.3 at g))
  root_wrote (DamagedAt at) n x r g = never (cc)

-- ---- the book and the term
module _ (room : ℕ) (book table ws : List ℕ) where
  pub root_refused : (out : List ℕ) → out ≡ replicate room 0 → (a : Answer) → asked (accept book) (check term_limits ws) ≡ Err a → BuiltTold room (rewrite_root book table ws) a out
  unfolding rewrite_root
  root_refused out c a e = by_book_lem (accept book) e
    where
      by_term_lem : (t : Result (Unit {0}) ℕ) → asked (Ok tt) t ≡ Err a → BuiltTold room (root_with_term book table ws t) a out
      by_term_lem (Ok _) e = never (cc)
      by_term_lem (Err at) e = let y : answer.BadTerm at ≡ a = cc in rw y (refused_told room a out c)

      by_book_lem : (b : Result (Unit {0}) Answer) → asked b (check term_limits ws) ≡ Err a → BuiltTold room (root_with_book book table ws b) a out
      by_book_lem (Ok _) e = by_term_lem (check term_limits ws) e
      by_book_lem (Err d) e = let y : d ≡ a = cc in rw y (refused_told room a out c)

  pub root_walked : asked (accept book) (check term_limits ws) ≡ Ok tt → (r : Answer) (out : List ℕ) → BuiltTold room (walked_root book (part_from ws 0) (book_walk book table ws)) r out
      → BuiltTold room (rewrite_root book table ws) r out
  unfolding rewrite_root
  root_walked e r out t =
      let p : part_from ws 0 ≡ tree_of ws = whole_part ws (is_term book ws e) in
      rw (sound_book book ws e, sound_term book ws e) (rw p at t)

  -- ---- the visits of the one walk, none before it
  pub refused_visits : (a : Answer) → asked (accept book) (check term_limits ws) ≡ Err a → 0 ≡ root_visits book table ws
  unfolding root_visits
  refused_visits a e = by_book_lem (accept book) e
    where
      by_term_lem : (t : Result (Unit {0}) ℕ) → asked (Ok tt) t ≡ Err a → 0 ≡ term_visits t (visits table (tree_of ws))
      by_term_lem (Ok _) e = never (cc)
      by_term_lem (Err at) e = refl

      by_book_lem : (b : Result (Unit {0}) Answer) → asked b (check term_limits ws) ≡ Err a → 0 ≡ sound_visits table ws b
      by_book_lem (Ok _) e = by_term_lem (check term_limits ws) e
      by_book_lem (Err d) e = refl

  pub walked_visits : asked (accept book) (check term_limits ws) ≡ Ok tt → (n : ℕ) → n ≡ book_visits table ws → n ≡ root_visits book table ws
  unfolding root_visits
  walked_visits e n v =
      let p : part_from ws 0 ≡ tree_of ws = whole_part ws (is_term book ws e) in
      rw (sound_book book ws e, sound_term book ws e) (rw p at v)
