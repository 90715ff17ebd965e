-- What building answers and leaves: each way out of the walk over a rule's left side is the one that the definition takes.
use mathlib.Core.Path.{◌≡◌, refl, sym, ◌∙◌}
use mathlib.Core.Bool.{Bool, true, false}
use mathlib.Core.List.{List, []}
use mathlib.Core.Option.{none, some}
use Prim.Native.Nat.{ℕ, ◌-◌, ◌≤◌, ◌<◌}
use native.Mathlib.Omega.{arith}
use lib.ListN.{length, take, drop, replicate}
use lib.Seq.{sets}
use borrow.Author.Tests.{le-leb, lt-leb}
use Rattle.std.specs.Prelude.{Result, Ok, Err, Some, None}
use Rattle.term.specs.declared.answer.Answer.{Answer}
use Rattle.term.specs.declared.answer.Answer.TheVariants as answer
use Rattle.term.specs.Answer.{answered}
use Rattle.term.specs.Word.{pick}
use Rattle.term.specs.Row.{Row, width, words, ranks, nesting, Formed}
use Rattle.term.specs.Check.{check, term_limits}
use Rattle.term.proofs.Laws.{good_tree, wrote, no_room}
use Rattle.book.specs.Book.{Rule, check_book, rule_at}
use Rattle.book.specs.Accept.{accept}
use Rattle.book.specs.Told.Found.{sides_at}
use Rattle.book.specs.declared.book.Sides.{Sides}
use Rattle.book.proofs.Laws.{book_rule, sides_rule}
use Rattle.fit.specs.Fit.{build, IsBody}
use Rattle.fit.specs.Match.{tree_of, left_in}
use Rattle.fit.specs.Told.Told.{LeftStands}
use Rattle.fit.specs.Build.{start_of, words_at, given_bodies, good_lengths, check_bodies, Built, refused, built, within_limits, limited, build_left, build_answer, build_words, build_left_came, build_left_gives}
use Rattle.fit.specs.Told.BuildWalk.{Given, LeftBuilt, RuleBuilt}
use Rattle.fit.proofs.Accepted.{tree_of_lem}
use Rattle.fit.proofs.Standing.{accepted_stands}
use Rattle.fit.proofs.Lengths.{sum_lengths, given_good}
use Rattle.fit.proofs.BuildRow.{wide_built, ranks_built, given_one}
use Rattle.fit.proofs.Matching.{term_is_body}
use Rattle.fit.proofs.Limits.{limits_within, within_limits_lem}
use Rattle.fit.proofs.Asked.{sound_good, build_refused, build_unknown, build_wrong_lengths, build_wrong_body, build_asked}
use Rattle.fit.proofs.Outcomes.{BuildAnswered, build_came}

-- ---- a body that was judged good
pub given_body : (bodies lengths : List ℕ) (x : ℕ) → check term_limits (words_at bodies lengths x) ≡ Ok tt → IsBody (given_bodies bodies lengths x)
unfolding given_bodies
given_body bodies lengths x c =
    let i = good_tree term_limits (omega arith) (words_at bodies lengths x) c in
    rw (tree_of_lem term_limits (words_at bodies lengths x) i)
    (term_is_body (words_at bodies lengths x) i)

-- zeros after a refusal
refused_is : (room : ℕ) (b : Built) (a : Answer) (done : List ℕ) → b ≡ refused a → done ≡ replicate room 0 → BuildAnswered room b a done
unfolding build_answer build_words
refused_is room b a done e z = rw e (refl, z)

built_is : (room : ℕ) (b : Built) (t : Row) (done : List ℕ) → b ≡ built t → length (words t) ≤ room → done ≡ sets (replicate room 0) 0 (words t) → BuildAnswered room b answer.Done done
unfolding build_answer build_words
built_is room b t done e h z = rw (e, le-leb (length (words t)) room h) (refl, (wrote room (words t) done h z).1)

short_is : (room : ℕ) (b : Built) (t : Row) (done : List ℕ) → b ≡ built t → room < length (words t) → done ≡ replicate room 0 → BuildAnswered room b answer.Short done
unfolding build_answer build_words
short_is room b t done e h z = rw (e, lt-leb (length (words t)) room h) (refl, z ∙ (no_room room (words t) h).1)

module _ (book : List ℕ) (number : ℕ) (bodies lengths : List ℕ) (room : ℕ) (done : List ℕ) (z : done ≡ replicate room 0) where
  pub bad_book : (a : Answer) → accept book ≡ Err a → build_left_came (answered a) done ≡ build_left_gives book number bodies lengths room
  bad_book a e =
      build_came book number bodies lengths room a done (refused_is room (build_left book number bodies lengths) a done (build_refused book number bodies lengths a e) z)

  pub no_rule : accept book ≡ Ok tt → rule_at book number ≡ none → build_left_came (answered (answer.NoRule number)) done ≡ build_left_gives book number bodies lengths room
  no_rule g e =
      build_came book number bodies lengths room (answer.NoRule number) done
      (refused_is room (build_left book number bodies lengths) (answer.NoRule number) done (build_unknown book number bodies lengths g e) z)

module _ (book : List ℕ) (number : ℕ) (rule : Rule) (accepted : accept book ≡ Ok tt) (found : rule_at book number ≡ some rule) (bodies lengths : List ℕ) where
  module _ (lengths_good : good_lengths rule.vars bodies lengths ≡ true) where
    module _ (bodies_good : check_bodies bodies lengths 0 rule.vars ≡ Ok tt) where
      good_book : check_book book ≡ Ok tt
      good_book = sound_good book accepted

      asked : build_left book number bodies lengths ≡ limited (build (given_bodies bodies lengths) 0 (left_in rule))
      asked = build_asked book number bodies lengths accepted rule found lengths_good bodies_good

      given : Given rule.vars bodies lengths
      given = given_good rule.vars bodies lengths (book_rule book number rule good_book found).few (sum_lengths rule.vars bodies lengths lengths_good).0 bodies_good

      abbrev pub result : Row
      result = build (given_bodies bodies lengths) 0 (left_in rule)

      stands : LeftStands rule.vars 0 64 1 rule.left 0 (tree_of rule.left) []
      stands =
          let s = accepted_stands book good_book number rule found in
          record { good = s.good; low = omega (arith, s.low); wide = s.wide; same = s.same }

      pub one : width result ≡ 1
      unfolding left_in
      one = wide_built rule.vars (given_bodies bodies lengths) (given_one rule.vars bodies lengths given) 0 (tree_of rule.left) stands.good ∙ stands.wide

      pub few : ranks result ≤ 2
      unfolding left_in
      few = ranks_built rule.vars (given_bodies bodies lengths) (λ x h. (given_body bodies lengths x (given.terms x h)).within.few) 0 (tree_of rule.left) stands.good

      -- what is within the limits is built
      pub within_is : Formed result → nesting result ≤ 64 → length (words result) ≤ 4096 → build_left book number bodies lengths ≡ built result
      unfolding limited
      within_is f n l = asked ∙ rw (within_limits_lem result f n l)

      pub term_within : within_limits result ≡ true → Formed result × (nesting result ≤ 64) × (length (words result) ≤ 4096)
      unfolding left_in
      term_within e =
          limits_within rule.vars (given_bodies bodies lengths) (given_one rule.vars bodies lengths given) (λ x h. (given_body bodies lengths x (given.terms x h)).within.formed)
          0 (tree_of rule.left) stands.good e

      pub over_is : (Formed result → nesting result ≤ 64 → length (words result) ≤ 4096 → ⊥) → build_left book number bodies lengths ≡ refused answer.Over
      unfolding limited
      over_is n = asked ∙ go (within_limits result) refl
        where
          go : (c : Bool) → within_limits result ≡ c → pick c (built result) (refused answer.Over) ≡ refused answer.Over
          go true e = let t = term_within e in absurd (n t.0 t.1 t.2)
          go false e = refl

      -- what the walk told of the whole left side
      module _ (out done : List ℕ) where
        told_over : LeftBuilt 0 64 1 rule.left 0 bodies lengths out 0 done None → build_left book number bodies lengths ≡ refused answer.Over
        unfolding LeftBuilt left_in
        told_over told =
            let t = told rule.vars (tree_of rule.left) [] stands given (omega arith) in
            over_is (λ f n l. t f n (omega (arith, l)))

        record Raised (n : ℕ) : Type 0 where
          is : build_left book number bodies lengths ≡ built result
          long : n ≡ length (words result)
          done_is : done ≡ sets out 0 (words result)

        told_built : (a n : ℕ) → LeftBuilt 0 64 1 rule.left 0 bodies lengths out 0 done (Some (a, n)) → Raised n
        unfolding LeftBuilt left_in
        told_built a n told =
            let t = (told rule.vars (tree_of rule.left) [] stands given (omega arith)).1 in
            record { is = within_is t.0 t.1 (omega (arith, t.2, t.3)); long = omega (arith, t.2); done_is = t.4 }

-- ---- each way out, for every rule of an accepted book with these variables and this left side
module _ (vars : ℕ) (left bodies lengths : List ℕ) (room : ℕ) where
  pub rule_lengths : good_lengths vars bodies lengths ≡ false → (done : List ℕ) → done ≡ replicate room 0 → RuleBuilt vars left bodies lengths room (answer.BadTerm 16) done
  unfolding RuleBuilt
  rule_lengths e done z book number rule a f v l =
      refused_is room (build_left book number bodies lengths) (answer.BadTerm 16) done (build_wrong_lengths book number bodies lengths a rule f (rw v e)) z

  module _ (good : good_lengths vars bodies lengths ≡ true) where
    -- the lengths sum to the bodies
    judged : (c : Result (Unit {0}) ℕ) → (start_of lengths 16 ≡ length bodies → c ≡ check_bodies bodies lengths 0 vars) → check_bodies bodies lengths 0 vars ≡ c
    judged c e = sym (e (sum_lengths vars bodies lengths good).0)

    pub rule_body : (x : ℕ) → (start_of lengths 16 ≡ length bodies → Err x ≡ check_bodies bodies lengths 0 vars) → (done : List ℕ) → done ≡ replicate room 0
        → RuleBuilt vars left bodies lengths room (answer.BadTerm x) done
    unfolding RuleBuilt
    rule_body x e done z book number rule a f v l =
        refused_is room (build_left book number bodies lengths) (answer.BadTerm x) done (build_wrong_body book number bodies lengths a rule f (rw v good) x (rw v (judged (Err x) e))) z

    module _ (e : start_of lengths 16 ≡ length bodies → Ok tt ≡ check_bodies bodies lengths 0 vars) (out done : List ℕ) where
      pub rule_over : LeftBuilt 0 64 1 left 0 bodies lengths out 0 done None → (last : List ℕ) → last ≡ replicate room 0 → RuleBuilt vars left bodies lengths room answer.Over last
      unfolding RuleBuilt
      rule_over told last z book number rule a f v l =
          refused_is room (build_left book number bodies lengths) answer.Over last
          (told_over book number rule a f bodies lengths (rw v good) (rw v (judged (Ok tt) e)) out done (rw l told)) z

      module _ (a n : ℕ) (told : LeftBuilt 0 64 1 left 0 bodies lengths out 0 done (Some (a, n))) where
        pub rule_wrote : out ≡ replicate room 0 → n ≤ room → RuleBuilt vars left bodies lengths room answer.Done done
        unfolding RuleBuilt
        rule_wrote z h book number rule g f v l =
            let t = told_built book number rule g f bodies lengths (rw v good) (rw v (judged (Ok tt) e)) out done a n (rw l told) in
            built_is room (build_left book number bodies lengths) _ done t.is (omega (arith, h, t.long)) (rw z at t.done_is)

        pub rule_short : room < n → (last : List ℕ) → last ≡ replicate room 0 → RuleBuilt vars left bodies lengths room answer.Short last
        unfolding RuleBuilt
        rule_short h last z book number rule g f v l =
            let t = told_built book number rule g f bodies lengths (rw v good) (rw v (judged (Ok tt) e)) out done a n (rw l told) in
            short_is room (build_left book number bodies lengths) _ last t.is (omega (arith, h, t.long)) z

-- the rule that was found in the book
module _ (book : List ℕ) (number : ℕ) (accepted : accept book ≡ Ok tt) (s : Sides) (found : sides_at book number ≡ Some s) where
  pub few_vars : s.vars ≤ 16
  few_vars =
      let r = sides_rule book number s found in
      omega (arith, r.2.vars_is, (book_rule book number r.0 (sound_good book accepted) r.1).few)

  pub of_rule : (bodies lengths : List ℕ) (room : ℕ) (a : Answer) (done : List ℕ) → RuleBuilt s.vars (take (s.right - s.left) (drop s.left book)) bodies lengths room a done
      → build_left_came (answered a) done ≡ build_left_gives book number bodies lengths room
  unfolding RuleBuilt
  of_rule bodies lengths room a done told =
      let r = sides_rule book number s found in
      build_came book number bodies lengths room a done (told book number r.0 accepted r.1 (sym r.2.vars_is) (sym r.2.left_is))
