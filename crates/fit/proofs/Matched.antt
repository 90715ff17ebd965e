-- What matching one rule answers, way by way: the book, the rule, the term, and then the walk.
use mathlib.Core.Path.{◌≡◌, sym, ap, ◌∙◌}
use mathlib.Core.Bool.{true}
use mathlib.Core.List.{List, []}
use mathlib.Core.Option.{some}
use Prim.Native.Nat.{ℕ, ◌-◌, ◌≤◌, ◌<◌}
use native.Mathlib.Omega.{arith}
use lib.ListN.{length, take, drop, replicate}
use Rattle.std.specs.Prelude.{Ok, Err, Some, None}
use Rattle.term.specs.declared.answer.Answer.{Answer}
use Rattle.term.specs.declared.answer.Answer.TheVariants as answer
use Rattle.term.specs.Answer.{answered}
use Rattle.term.specs.Check.{check, term_limits}
use Rattle.term.proofs.Laws.{good_tree}
use Rattle.book.specs.declared.book.Sides.{Sides}
use Rattle.book.specs.Rule.{root_symbol, side_limits}
use Rattle.book.specs.Book.{Rule, check_book, rule_at}
use Rattle.book.specs.Accept.{accept}
use Rattle.book.specs.Told.Found.{sides_at}
use Rattle.book.proofs.Laws.{RuleFacts, book_rule, SidesAre, sides_rule, sides_none}
use Rattle.fit.specs.declared.rules.RuleMatch.{RuleMatch}
use Rattle.fit.specs.Match.{tree_of, left_in, refused, match_rule, match_answer, match_aside, match_words, match_lengths, match_rule_came, matched_came, match_rule_gives}
use Rattle.fit.specs.Told.Told.{RuleTold}
use Rattle.fit.proofs.Accepted.{tree_of_lem, accepted_good}
use Rattle.fit.proofs.FitRow.{left_first, term_first}
use Rattle.fit.proofs.Standing.{accepted_stands, term_standing}
use Rattle.fit.proofs.Asked.{sound_good, match_refused, match_unknown, match_wrong, match_asked}
use Rattle.fit.proofs.Outcomes.{match_came}

-- the left side in the book's words
abbrev pub left_words : List ℕ → Sides → List ℕ
left_words book sides = take (sides.right - sides.left) (drop sides.left book)

module _ (book : List ℕ) (number : ℕ) (ws : List ℕ) (room : ℕ) where
  -- a refusal leaves zeros
  module _ (bodies lengths : List ℕ) (z : bodies ≡ replicate room 0) (y : lengths ≡ replicate 16 0) where
    refused_zeros : (a : Answer) → match_rule book number ws ≡ refused a → (r : RuleMatch) → (r.answer ≡ a) × (r.aside ≡ 0)
        → match_rule_came (answered r.answer) r.aside bodies lengths ≡ match_rule_gives book number ws room
    unfolding match_answer match_aside match_words match_lengths
    refused_zeros a e r q = match_came book number ws room r.answer r.aside bodies lengths (rw e (q.0, z, y)) (rw e q.1)

    pub match_bad_book : (a : Answer) → accept book ≡ Err a → (r : RuleMatch) → (r.answer ≡ a) × (r.aside ≡ 0)
        → match_rule_came (answered r.answer) r.aside bodies lengths ≡ match_rule_gives book number ws room
    match_bad_book a e = refused_zeros a (match_refused book number ws a e)

    module _ (accepted : accept book ≡ Ok tt) where
      pub match_no_rule : sides_at book number ≡ None → (r : RuleMatch) → (r.answer ≡ answer.NoRule number) × (r.aside ≡ 0)
          → match_rule_came (answered r.answer) r.aside bodies lengths ≡ match_rule_gives book number ws room
      match_no_rule e = refused_zeros (answer.NoRule number) (match_unknown book number ws accepted (sides_none book number e))

      pub match_bad_term : (sides : Sides) → sides_at book number ≡ Some sides → (at : ℕ) → check term_limits ws ≡ Err at
          → (r : RuleMatch) → (r.answer ≡ answer.BadTerm at) × (r.aside ≡ 0) → match_rule_came (answered r.answer) r.aside bodies lengths ≡ match_rule_gives book number ws room
      match_bad_term sides e at t = let r = sides_rule book number sides e in refused_zeros (answer.BadTerm at) (match_wrong book number ws accepted r.0 r.1 at t)

  -- what the walk needs of the rule and the term, and what it tells of them
  module _ (accepted : accept book ≡ Ok tt) (sides : Sides) (e : sides_at book number ≡ Some sides) where
    good_book : check_book book ≡ Ok tt
    good_book = sound_good book accepted

    rule_found : (rule : Rule) × (rule_at book number ≡ some rule) × SidesAre book rule sides
    rule_found = sides_rule book number sides e

    facts : RuleFacts rule_found.0
    facts = book_rule book number rule_found.0 good_book rule_found.1

    pub sides_few : sides.vars ≤ 16
    sides_few = omega (arith, rule_found.2.vars_is, facts.few)

    pub sides_lie : (sides.left ≤ sides.right) × (sides.right ≤ length book)
    sides_lie = (rule_found.2.left_first, omega (arith, rule_found.2.right_next, rule_found.2.within))

    pub left_short : length (left_words book sides) ≤ 64
    left_short = rw rule_found.2.left_is facts.left_tree.short

    pub left_begins : 0 < length (left_words book sides)
    left_begins =
        rw rule_found.2.left_is
        (left_first rule_found.0.vars 0 16 1 rule_found.0.left 0 (λ z. absurd (omega (arith, z))) (tree_of rule_found.0.left) [] (accepted_stands book good_book number rule_found.0 rule_found.1)).within

    left_root : root_symbol (tree_of rule_found.0.left) ≡ true
    left_root = rw (tree_of_lem side_limits rule_found.0.left facts.left_tree) facts.left_root

    module _ (good : check term_limits ws ≡ Ok tt) where
      pub term_begins : 0 < length ws
      term_begins = (term_first 1 ws 0 (λ z. absurd (omega (arith, z))) (tree_of ws) [] (term_standing ws good)).within

      pub term_short : length ws ≤ 4096
      term_short = (good_tree term_limits (omega arith) ws good).short

      pub match_fits : (bodies lengths : List ℕ) (r : RuleMatch) → RuleTold sides.vars (left_words book sides) ws room bodies lengths r
          → match_rule_came (answered r.answer) r.aside bodies lengths ≡ match_rule_gives book number ws room
      unfolding RuleTold left_in match_rule_gives
      match_fits bodies lengths r told =
          let rule = rule_found.0 in
          let i = rule_found.2 in
          let u : RuleTold rule.vars rule.left ws room bodies lengths r = rw (i.vars_is, i.left_is) at told in
          u (tree_of rule.left) (tree_of ws) (accepted_stands book good_book number rule rule_found.1) left_root (term_standing ws good) (accepted_good book good_book number rule rule_found.1).all
          ∙ ap (matched_came room) (sym (match_asked book number ws accepted rule rule_found.1 good))
