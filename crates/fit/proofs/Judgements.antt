-- Matching one rule and building a left side, judgement by judgement, of a book that is good: such a book is accepted.
use mathlib.Core.Path.{◌≡◌, refl, sym, ap, ap₂, ◌∙◌}
use mathlib.Core.Bool.{Bool, true, false}
use mathlib.Core.List.{List, ◌++◌}
use mathlib.Core.Option.{none, some}
use Prim.Native.Nat.{ℕ, ◌-◌, ◌≤◌, ◌<◌}
use native.Mathlib.Omega.{arith}
use lib.Dec.{leb}
use lib.ListN.{length, replicate}
use borrow.Author.Tests.{leb-false}
use Rattle.std.specs.Prelude.{Ok, Err}
use Rattle.term.specs.declared.answer.Answer.TheVariants.{Done, BadTerm, BadBook, Short, NoRule}
use Rattle.term.specs.Answer.{number_of}
use Rattle.term.specs.Word.{Head, count, pick}
use Rattle.term.specs.Row.{Row, node, Formed}
use Rattle.term.specs.Check.{check, term_limits}
use Rattle.term.proofs.Laws.{padded_short, good_tree}
use Rattle.book.specs.Book.{Rule, check_book, rule_at}
use Rattle.book.proofs.Laws.{book_rule, good_accepted, bad_refused}
use Rattle.fit.specs.Fit.{build, IsBody, matching}
use Rattle.fit.specs.Front.{root_arguments, front, aside, matching_front}
use Rattle.fit.specs.Match.{tree_of, left_in, body_list, length_list, Matched, refused, fitted, fitted_o, match_rule, match_answer, match_aside, match_words, match_lengths}
use Rattle.fit.specs.Build as building
use Rattle.fit.specs.Build.{given_bodies, good_lengths, check_bodies, limited, build_left}
use Rattle.fit.proofs.Accepted.{tree_of_lem, accepted_good}
use Rattle.fit.proofs.Fronts.{aside_node, matching_front_lem, front_same}
use Rattle.fit.proofs.Asked.{match_refused, match_unknown, match_wrong, match_asked, build_refused, build_unknown, build_wrong_lengths, build_wrong_body, build_asked}
use Rattle.fit.proofs.BodyLists.{list_lengths, list_words, list_bodies}
use Rattle.fit.proofs.RoundTrip.{build_agree, body_good, body_tree}

-- ---- matching one rule
module _ (book : List ℕ) (number : ℕ) (ws : List ℕ) where
  pub match_bad_book : (at : ℕ) → check_book book ≡ Err at → match_rule book number ws ≡ refused (BadBook at)
  match_bad_book at e = match_refused book number ws (BadBook at) (bad_refused book at e)

  pub match_no_rule : check_book book ≡ Ok tt → rule_at book number ≡ none → match_rule book number ws ≡ refused (NoRule number)
  match_no_rule g e = match_unknown book number ws (good_accepted book g) e

  module _ (good : check_book book ≡ Ok tt) (rule : Rule) (found : rule_at book number ≡ some rule) where
    pub match_bad_term : (at : ℕ) → check term_limits ws ≡ Err at → match_rule book number ws ≡ refused (BadTerm at)
    match_bad_term at e = match_wrong book number ws (good_accepted book good) rule found at e

    pub match_one_rule : check term_limits ws ≡ Ok tt → match_rule book number ws ≡ fitted_o rule.vars (aside (root_arguments (left_in rule)) (tree_of ws)) (matching_front (left_in rule) (tree_of ws))
    match_one_rule e = match_asked book number ws (good_accepted book good) rule found e

    -- where the term's root has just as many arguments as the left side, the whole term is matched
    pub match_whole : check term_limits ws ≡ Ok tt → (g : Head) (ts rs : Row) → tree_of ws ≡ node g ts rs → root_arguments (left_in rule) ≡ count g
        → match_rule book number ws ≡ fitted_o rule.vars 0 (matching (left_in rule) (tree_of ws))
    match_whole e g ts rs z n =
        let i = good_tree term_limits (omega arith) ws e in
        let w : Formed (node g ts rs) = rw (sym (tree_of_lem term_limits ws i) ∙ z) at i.formed in
        match_one_rule e
        ∙ ap₂ (fitted_o rule.vars)
        (ap₂ aside n z ∙ aside_node (count g) g ts rs ∙ omega arith)
        (matching_front_lem (left_in rule) (tree_of ws) ∙ ap (matching (left_in rule)) (ap₂ front n z ∙ front_same g ts rs w ∙ sym z))

-- a refusal leaves zeros
pub match_zeros : (room : ℕ) (m : Matched) → 10 ≤ number_of (match_answer room m) → (match_words room m ≡ replicate room 0) × (match_lengths room m ≡ replicate 16 0) × (match_aside room m ≡ 0)
unfolding match_answer match_aside match_words match_lengths
match_zeros room (refused a) h = (refl, refl, refl)
match_zeros room (fitted vars n b) h = go (leb (length (body_list b 0 vars)) room) refl h
  where
    go : (c : Bool) → leb (length (body_list b 0 vars)) room ≡ c → 10 ≤ number_of (pick c Done Short)
        → (match_words room (fitted vars n b) ≡ replicate room 0) × (match_lengths room (fitted vars n b) ≡ replicate 16 0) × (match_aside room (fitted vars n b) ≡ 0)
    go true e k = absurd (omega (arith, k))
    go false e k = (padded_short room (body_list b 0 vars) (leb-false (length (body_list b 0 vars)) room e), rw e, rw e)

-- ---- building a left side
module _ (book : List ℕ) (number : ℕ) (bodies lengths : List ℕ) where
  pub build_bad_book : (at : ℕ) → check_book book ≡ Err at → build_left book number bodies lengths ≡ building.refused (BadBook at)
  build_bad_book at e = build_refused book number bodies lengths (BadBook at) (bad_refused book at e)

  pub build_no_rule : check_book book ≡ Ok tt → rule_at book number ≡ none → build_left book number bodies lengths ≡ building.refused (NoRule number)
  build_no_rule g e = build_unknown book number bodies lengths (good_accepted book g) e

  module _ (good : check_book book ≡ Ok tt) (rule : Rule) (found : rule_at book number ≡ some rule) where
    pub build_bad_lengths : good_lengths rule.vars bodies lengths ≡ false → build_left book number bodies lengths ≡ building.refused (BadTerm 16)
    build_bad_lengths e = build_wrong_lengths book number bodies lengths (good_accepted book good) rule found e

    pub build_bad_body : good_lengths rule.vars bodies lengths ≡ true → (x : ℕ) → check_bodies bodies lengths 0 rule.vars ≡ Err x → build_left book number bodies lengths ≡ building.refused (BadTerm x)
    build_bad_body l x e = build_wrong_body book number bodies lengths (good_accepted book good) rule found l x e

    pub build_from : good_lengths rule.vars bodies lengths ≡ true → check_bodies bodies lengths 0 rule.vars ≡ Ok tt
        → build_left book number bodies lengths ≡ limited (build (given_bodies bodies lengths) 0 (left_in rule))
    build_from l e = build_asked book number bodies lengths (good_accepted book good) rule found l e

-- bodies in variable order, with their lengths, build what they turn the left side into
module _ (book : List ℕ) (number : ℕ) (rule : Rule) (good : check_book book ≡ Ok tt) (found : rule_at book number ≡ some rule) (b : ℕ → Row) (terms : (x : ℕ) → x < rule.vars → IsBody (b x)) where
  abbrev bodies : List ℕ
  bodies = body_list b 0 rule.vars

  abbrev lengths : List ℕ
  lengths = length_list b 0 rule.vars ++ replicate (16 - rule.vars) 0

  few : rule.vars ≤ 16
  few = (book_rule book number rule good found).few

  given_back : (x : ℕ) → x < rule.vars → given_bodies bodies lengths x ≡ b x
  unfolding given_bodies
  given_back x h = ap tree_of (list_words rule.vars b few x h) ∙ body_tree (b x) (terms x h)

  pub build_given : build_left book number (body_list b 0 rule.vars) (length_list b 0 rule.vars ++ replicate (16 - rule.vars) 0) ≡ limited (build b 0 (left_in rule))
  build_given =
      build_from book number bodies lengths good rule found (list_lengths rule.vars b few) (list_bodies rule.vars b few (λ x h. body_good (b x) (terms x h)))
      ∙ ap limited (build_agree rule.vars (given_bodies bodies lengths) b given_back 0 (left_in rule) (accepted_good book good number rule found).good)
