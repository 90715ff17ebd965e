-- Demand 2 over words: building a left side and then matching gives the bodies back, whatever arguments follow, and building from the bodies of a match gives the term without the arguments set aside.
use mathlib.Core.Path.{◌≡◌, refl, sym, ap, ap₂, ◌∙◌}
use mathlib.Core.Bool.{Bool, true, false}
use mathlib.Core.List.{List, ◌++◌}
use mathlib.Core.Option.{Option, none, some}
use Prim.Native.Nat.{ℕ, ◌-◌, ◌≤◌, ◌<◌}
use native.Mathlib.Omega.{arith}
use lib.ListN.{length, replicate}
use Rattle.std.specs.Prelude.{Result, Ok, Err}
use Rattle.term.specs.declared.answer.Answer.{Answer}
use Rattle.term.specs.declared.answer.Answer.TheVariants.{Done, Over}
use Rattle.term.specs.Row.{Row, nothing, width, words, ranks, nesting, Formed}
use Rattle.term.specs.Word.{pick}
use Rattle.term.specs.Check.{check, term_limits}
use Rattle.term.specs.Renumber.{inside}
use Rattle.term.proofs.Laws.{never, tree_good, good_tree, width_nothing}
use Rattle.book.specs.Book.{Rule, rule_at}
use Rattle.book.specs.Accept.{accept}
use Rattle.book.proofs.Laws.{book_rule, refusal_number}
use Rattle.fit.specs.Left.{Left, end, hole, part, GoodLeft}
use Rattle.fit.specs.Fit.{build, IsBody}
use Rattle.fit.specs.Front.{root_arguments, front, aside, with_arguments, matching_front, FitsFront}
use Rattle.fit.specs.Match.{tree_of, left_in, body_list, length_list, Matched, refused, fitted, fitted_o, with_term, with_rule, with_book, match_rule}
use Rattle.fit.specs.Build as building
use Rattle.fit.specs.Build.{words_at, given_bodies, good_lengths, check_bodies, Built, built, within_limits, limited, with_bodies, with_lengths, build_left}
use Rattle.fit.specs.Told.BuildWalk.{Given}
use Rattle.fit.proofs.Matching.{term_is_body, body_is_term}
use Rattle.fit.proofs.Words.{GoodRule}
use Rattle.fit.proofs.Accepted.{tree_of_lem, accepted_good}
use Rattle.fit.proofs.Fronts.{with_nothing, front_body, SymbolRoot, accepted_root}
use Rattle.fit.proofs.FrontFits.{front_sound, front_built, built_aside, built_front}
use Rattle.fit.proofs.Asked.{sound_good, match_asked, build_asked}
use Rattle.fit.proofs.Lengths.{sum_lengths, given_good}
use Rattle.fit.proofs.BuildAnswers.{given_body, term_within, one, few}
use Rattle.fit.proofs.Limits.{within_limits_lem}
use Rattle.fit.proofs.BodyLists.{bodies_back, lengths_back, list_lengths, list_words, list_bodies}

-- what refuses a book is not Done
no_refusal : (book : List ℕ) (a : Answer) → accept book ≡ Err a → a ≡ Done → ⊥
no_refusal book a e z = let n = rw z at (refusal_number book a e) in absurd (omega (arith, n))

-- ---- what was asked where a term was built, and that no refusal is Done
pub record BuiltIs (book : List ℕ) (number : ℕ) (bodies lengths : List ℕ) (t : Row) : Type 0 where
  rule : Rule
  accepted : accept book ≡ Ok tt
  found : rule_at book number ≡ some rule
  lengths_good : good_lengths rule.vars bodies lengths ≡ true
  bodies_good : check_bodies bodies lengths 0 rule.vars ≡ Ok tt
  is : build (given_bodies bodies lengths) 0 (left_in rule) ≡ t
  good : within_limits t ≡ true

module _ (book : List ℕ) (number : ℕ) (bodies lengths : List ℕ) where
  abbrev pub BuiltO : Built → Type 0
  BuiltO (building.refused a) = a ≡ Done → ⊥
  BuiltO (built t) = BuiltIs book number bodies lengths t

  with_limits : (rule : Rule) → accept book ≡ Ok tt → rule_at book number ≡ some rule → good_lengths rule.vars bodies lengths ≡ true → check_bodies bodies lengths 0 rule.vars ≡ Ok tt
      → (c : Bool) → within_limits (build (given_bodies bodies lengths) 0 (left_in rule)) ≡ c → BuiltO (pick c (built (build (given_bodies bodies lengths) 0 (left_in rule))) (building.refused Over))
  with_limits rule a f l b true e = record { rule = rule; accepted = a; found = f; lengths_good = l; bodies_good = b; is = refl; good = e }
  with_limits rule a f l b false e = λ z. never (cc)

  with_bodies_lem : (rule : Rule) → accept book ≡ Ok tt → rule_at book number ≡ some rule → good_lengths rule.vars bodies lengths ≡ true
      → (c : Result (Unit {0}) ℕ) → check_bodies bodies lengths 0 rule.vars ≡ c → BuiltO (with_bodies rule bodies lengths c)
  unfolding limited
  with_bodies_lem rule a f l (Ok _) e = with_limits rule a f l e (within_limits (build (given_bodies bodies lengths) 0 (left_in rule))) refl
  with_bodies_lem rule a f l (Err x) e = λ z. never (cc)

  with_lengths_lem : (rule : Rule) → accept book ≡ Ok tt → rule_at book number ≡ some rule → (c : Bool) → good_lengths rule.vars bodies lengths ≡ c → BuiltO (with_lengths rule bodies lengths c)
  with_lengths_lem rule a f true e = with_bodies_lem rule a f e (check_bodies bodies lengths 0 rule.vars) refl
  with_lengths_lem rule a f false e = λ z. never (cc)

  with_rule_lem : accept book ≡ Ok tt → (o : Option Rule) → rule_at book number ≡ o → BuiltO (building.with_rule number bodies lengths o)
  with_rule_lem a none e = λ z. never (cc)
  with_rule_lem a (some rule) e = with_lengths_lem rule a e (good_lengths rule.vars bodies lengths) refl

  with_book_lem : (c : Result (Unit {0}) Answer) → accept book ≡ c → BuiltO (building.with_book book number bodies lengths c)
  with_book_lem (Ok _) e = with_rule_lem e (rule_at book number) refl
  with_book_lem (Err a) e = no_refusal book a e

  pub built_o : BuiltO (build_left book number bodies lengths)
  unfolding build_left
  built_o = with_book_lem (accept book) refl

  built_is : (t : Row) → build_left book number bodies lengths ≡ built t → BuiltIs book number bodies lengths t
  built_is t e = rw e at built_o

-- ---- what was asked where a term was matched, and that no refusal is Done
pub record MatchedIs (book : List ℕ) (number : ℕ) (ws : List ℕ) (vars n : ℕ) (b : ℕ → Row) : Type 0 where
  rule : Rule
  accepted : accept book ≡ Ok tt
  found : rule_at book number ≡ some rule
  good : check term_limits ws ≡ Ok tt
  vars_is : rule.vars ≡ vars
  aside_is : aside (root_arguments (left_in rule)) (tree_of ws) ≡ n
  fits : matching_front (left_in rule) (tree_of ws) ≡ some b

module _ (book : List ℕ) (number : ℕ) (ws : List ℕ) where
  abbrev pub MatchedO : Matched → Type 0
  MatchedO (refused a) = a ≡ Done → ⊥
  MatchedO (fitted vars n b) = MatchedIs book number ws vars n b

  with_fit : (rule : Rule) → accept book ≡ Ok tt → rule_at book number ≡ some rule → check term_limits ws ≡ Ok tt
      → (o : Option (ℕ → Row)) → matching_front (left_in rule) (tree_of ws) ≡ o → MatchedO (fitted_o rule.vars (aside (root_arguments (left_in rule)) (tree_of ws)) o)
  with_fit rule a f g none e = λ z. never (cc)
  with_fit rule a f g (some b) e = record { rule = rule; accepted = a; found = f; good = g; vars_is = refl; aside_is = refl; fits = e }

  with_term_lem : (rule : Rule) → accept book ≡ Ok tt → rule_at book number ≡ some rule → (c : Result (Unit {0}) ℕ) → check term_limits ws ≡ c → MatchedO (with_term rule ws c)
  with_term_lem rule a f (Ok _) e = with_fit rule a f e (matching_front (left_in rule) (tree_of ws)) refl
  with_term_lem rule a f (Err at) e = λ z. never (cc)

  term_rule_lem : accept book ≡ Ok tt → (o : Option Rule) → rule_at book number ≡ o → MatchedO (with_rule number ws o)
  term_rule_lem a none e = λ z. never (cc)
  term_rule_lem a (some rule) e = with_term_lem rule a e (check term_limits ws) refl

  term_book : (c : Result (Unit {0}) Answer) → accept book ≡ c → MatchedO (with_book book number ws c)
  term_book (Ok _) e = term_rule_lem e (rule_at book number) refl
  term_book (Err a) e = no_refusal book a e

  pub matched_o : MatchedO (match_rule book number ws)
  unfolding match_rule
  matched_o = term_book (accept book) refl

  matched_is : (vars n : ℕ) (b : ℕ → Row) → match_rule book number ws ≡ fitted vars n b → MatchedIs book number ws vars n b
  matched_is vars n b e = rw e at matched_o

-- ---- built, then matched
-- a body's words are one term, and the tree that they are is the body
pub body_good : (b : Row) → IsBody b → check term_limits (words b) ≡ Ok tt
body_good b i = tree_good term_limits (words b) (body_is_term b i)

pub body_tree : (b : Row) → IsBody b → tree_of (words b) ≡ b
body_tree b i = tree_of_lem term_limits (words b) (body_is_term b i)

-- a term is matched with the bodies of these words and lengths, and so many arguments are set aside
abbrev pub BackAgain : List ℕ → ℕ → List ℕ → List ℕ → Row → ℕ → Type 0
BackAgain book number bodies lengths t n =
    (vars : ℕ) × (b : ℕ → Row) × (match_rule book number (words t) ≡ fitted vars n b) × (body_list b 0 vars ≡ bodies) × (length_list b 0 vars ++ replicate (16 - vars) 0 ≡ lengths)

module _ (book : List ℕ) (number : ℕ) (bodies lengths : List ℕ) (t : Row) (i : BuiltIs book number bodies lengths t) where
  given : Given i.rule.vars bodies lengths
  given = given_good i.rule.vars bodies lengths (book_rule book number i.rule (sound_good book i.accepted) i.found).few (sum_lengths i.rule.vars bodies lengths i.lengths_good).0 i.bodies_good

  -- what was built is one term
  one_term : IsBody t
  one_term =
      let c : within_limits (build (given_bodies bodies lengths) 0 (left_in i.rule)) ≡ true = rw i.is i.good in
      let w = term_within book number i.rule i.accepted i.found bodies lengths i.lengths_good i.bodies_good c in
      let o = one book number i.rule i.accepted i.found bodies lengths i.lengths_good i.bodies_good in
      let k = few book number i.rule i.accepted i.found bodies lengths i.lengths_good i.bodies_good in
      rw i.is at (whole (build (given_bodies bodies lengths) 0 (left_in i.rule)) o w.0 k w.1 w.2)
    where
      whole : (r : Row) → width r ≡ 1 → Formed r → ranks r ≤ 2 → nesting r ≤ 64 → length (words r) ≤ 4096 → IsBody r
      whole r o f k n l = record { one = o; within = record { formed = f; few = k; low = n; short = l } }

  given_words : (x : ℕ) → x < i.rule.vars → words (given_bodies bodies lengths x) ≡ words_at bodies lengths x
  unfolding given_bodies
  given_words x h =
      let j = good_tree term_limits (omega arith) (words_at bodies lengths x) (given.terms x h) in
      ap words (tree_of_lem term_limits (words_at bodies lengths x) j) ∙ sym j.same

  good_rule_lem : GoodRule i.rule.vars (left_in i.rule)
  good_rule_lem = accepted_good book (sound_good book i.accepted) number i.rule i.found

  root : SymbolRoot (left_in i.rule)
  root = accepted_root book (sound_good book i.accepted) number i.rule i.found

  same_term : IsBody (build (given_bodies bodies lengths) 0 (left_in i.rule))
  same_term = rw i.is one_term

  module _ (more : Row) (whole : IsBody (with_arguments t more)) where
    asked : match_rule book number (words (with_arguments t more))
        ≡ fitted_o i.rule.vars (aside (root_arguments (left_in i.rule)) (with_arguments t more)) (matching_front (left_in i.rule) (with_arguments t more))
    asked =
        match_asked book number (words (with_arguments t more)) i.accepted i.rule i.found (body_good (with_arguments t more) whole)
        ∙ ap (λ (r : Row). fitted_o i.rule.vars (aside (root_arguments (left_in i.rule)) r) (matching_front (left_in i.rule) r)) (body_tree (with_arguments t more) whole)

    many : aside (root_arguments (left_in i.rule)) (with_arguments t more) ≡ width more
    many =
        ap (λ (r : Row). aside (root_arguments (left_in i.rule)) (with_arguments r more)) (sym i.is)
        ∙ built_aside i.rule.vars (left_in i.rule) good_rule_lem root (given_bodies bodies lengths) (λ x h. given_body bodies lengths x (given.terms x h)) same_term more

    back : length lengths ≡ 16 → BackAgain book number bodies lengths (with_arguments t more) (width more)
    back l =
        let z = (sum_lengths i.rule.vars bodies lengths i.lengths_good).1 in
        let m = built_front i.rule.vars (left_in i.rule) good_rule_lem root (given_bodies bodies lengths) (λ x h. given_body bodies lengths x (given.terms x h)) same_term more in
        let e : matching_front (left_in i.rule) (with_arguments t more) ≡ some m.0 = ap (λ (r : Row). matching_front (left_in i.rule) (with_arguments r more)) (sym i.is) ∙ m.1 in
        let same : (x : ℕ) → x < i.rule.vars → words (m.0 x) ≡ words_at bodies lengths x = λ x h. ap words (m.2 x h) ∙ given_words x h in (
          i.rule.vars,
          m.0,
          asked ∙ ap₂ (fitted_o i.rule.vars) many e,
          bodies_back i.rule.vars bodies lengths given m.0 same z,
          lengths_back i.rule.vars bodies lengths given m.0 same z l,
        )

-- what is built, with any arguments at its end with which it is a term, is matched with the bodies, and these arguments are set aside
pub built_with_matched : (book : List ℕ) (number : ℕ) (bodies lengths : List ℕ) → length lengths ≡ 16 → (t : Row) → build_left book number bodies lengths ≡ built t
    → (more : Row) → IsBody (with_arguments t more) → BackAgain book number bodies lengths (with_arguments t more) (width more)
built_with_matched book number bodies lengths l t e more w = back book number bodies lengths t (built_is book number bodies lengths t e) more w l

-- "Building a left side from given bodies, when the result is within the limits and there is room, and then matching it gives those bodies back"
pub built_then_matched : (book : List ℕ) (number : ℕ) (bodies lengths : List ℕ) → length lengths ≡ 16 → (t : Row) → build_left book number bodies lengths ≡ built t
    → BackAgain book number bodies lengths t 0
built_then_matched book number bodies lengths l t e =
    let w : IsBody (with_arguments t nothing) = rw (with_nothing t) (one_term book number bodies lengths t (built_is book number bodies lengths t e)) in
    rw (with_nothing t, width_nothing) at (built_with_matched book number bodies lengths l t e nothing w)

-- ---- matched, then built
-- what is built depends on the bodies of its variables only
pub build_agree : (vars : ℕ) (f g : ℕ → Row) → ((x : ℕ) → x < vars → f x ≡ g x) → (d : ℕ) (p : Left) → GoodLeft vars d p → build f d p ≡ build g d p
unfolding build GoodLeft
build_agree vars f g e d end q = refl
build_agree vars f g e d (hole x ys rest) q = rw (e x q.0, build_agree vars f g e d rest q.2)
build_agree vars f g e d (part h kids rest) q = rw (build_agree vars f g e (inside h d) kids q.3, build_agree vars f g e d rest q.4)

module _ (book : List ℕ) (number : ℕ) (ws : List ℕ) (vars n : ℕ) (b : ℕ → Row) (i : MatchedIs book number ws vars n b) where
  -- the term that the words are
  record Term (t : Row) : Type 0 where
    same : words t ≡ ws
    body : IsBody t

  term : Term (tree_of ws)
  term =
      let j = good_tree term_limits (omega arith) ws i.good in
      rw (tree_of_lem term_limits ws j)
      (record { same = sym j.same; body = term_is_body ws j })

  rule_good : GoodRule i.rule.vars (left_in i.rule)
  rule_good = accepted_good book (sound_good book i.accepted) number i.rule i.found

  few_vars : i.rule.vars ≤ 16
  few_vars = (book_rule book number i.rule (sound_good book i.accepted) i.found).few

  -- the term without the arguments set aside
  abbrev the_front : Row
  the_front = front (root_arguments (left_in i.rule)) (tree_of ws)

  fits_front : FitsFront i.rule.vars (left_in i.rule) (tree_of ws) b
  fits_front = front_sound i.rule.vars (left_in i.rule) rule_good (tree_of ws) term.body b i.fits

  bodies_are : (x : ℕ) → x < i.rule.vars → IsBody (b x)
  bodies_are = fits_front.bodies

  abbrev bodies : List ℕ
  bodies = body_list b 0 i.rule.vars

  abbrev lengths : List ℕ
  lengths = length_list b 0 i.rule.vars ++ replicate (16 - i.rule.vars) 0

  given_are : (x : ℕ) → x < i.rule.vars → given_bodies bodies lengths x ≡ b x
  unfolding given_bodies
  given_are x h = ap tree_of (list_words i.rule.vars b few_vars x h) ∙ body_tree (b x) (bodies_are x h)

  builds : build (given_bodies bodies lengths) 0 (left_in i.rule) ≡ the_front
  builds =
      build_agree i.rule.vars (given_bodies bodies lengths) b given_are 0 (left_in i.rule) rule_good.good
      ∙ front_built i.rule.vars (left_in i.rule) rule_good (tree_of ws) term.body b fits_front

  rebuilt : build_left book number bodies lengths ≡ built the_front
  unfolding limited
  rebuilt =
      let l = list_lengths i.rule.vars b few_vars in
      let c = list_bodies i.rule.vars b few_vars (λ x h. body_good (b x) (bodies_are x h)) in
      let w = (front_body (root_arguments (left_in i.rule)) (tree_of ws) term.body).within in
      let g : within_limits the_front ≡ true = within_limits_lem the_front w.formed w.low w.short in
      build_asked book number bodies lengths i.accepted i.rule i.found l c ∙ rw (builds, g)

-- "building from the bodies of a match, given room, gives" "the term without the arguments set aside", which the answer counts
pub record BuiltAgain (book : List ℕ) (number : ℕ) (ws : List ℕ) (vars n : ℕ) (b : ℕ → Row) : Type 0 where
  pub rule : Rule
  pub found : rule_at book number ≡ some rule
  pub counts : n ≡ aside (root_arguments (left_in rule)) (tree_of ws)
  pub is : build_left book number (body_list b 0 vars) (length_list b 0 vars ++ replicate (16 - vars) 0) ≡ built (front (root_arguments (left_in rule)) (tree_of ws))

pub matched_then_built : (book : List ℕ) (number : ℕ) (ws : List ℕ) (vars n : ℕ) (b : ℕ → Row) → match_rule book number ws ≡ fitted vars n b → BuiltAgain book number ws vars n b
matched_then_built book number ws vars n b e = shown (matched_is book number ws vars n b e)
  where
    shown : MatchedIs book number ws vars n b → BuiltAgain book number ws vars n b
    shown i = record { rule = i.rule; found = i.found; counts = sym i.aside_is; is = ap (λ (v : ℕ). build_left book number (body_list b 0 v) (length_list b 0 v ++ replicate (16 - v) 0)) (sym i.vars_is) ∙ rebuilt book number ws vars n b i }
