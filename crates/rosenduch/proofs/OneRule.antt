-- Demand 2 of one rule: what matching finds is sound, complete and unique for fit, and building and matching undo each other.
use mathlib.Core.Path.{◌≡◌, refl, sym, ap, ◌∙◌}
use mathlib.Core.Bool.{Bool, true, false}
use mathlib.Core.List.{List, ◌++◌}
use mathlib.Core.Option.{Option, none, some}
use Prim.Native.Nat.{ℕ, ◌-◌, ◌≤◌, ◌<◌}
use native.Mathlib.Omega.{arith}
use native.Mathlib.Decide.{dec_le}
use lib.Dec.{leb}
use lib.ListN.{length, replicate}
use borrow.Author.Tests.{le-leb, lt-leb}
use Rattle.std.specs.Prelude.{Ok}
use Rattle.term.specs.declared.answer.Answer.{Answer}
use Rattle.term.specs.declared.answer.Answer.TheVariants.{Done, NoFit, Short, Over, CannotTake}
use Rattle.term.specs.Answer.{Answered, saying, answered}
use Rattle.term.specs.Word.{symbol, abstraction, variable, pattern, pick}
use Rattle.term.specs.Row.{Row, nothing, node, words, Formed}
use Rattle.term.specs.Check.{IsTerm, term_limits}
use Rattle.term.proofs.Laws.{count_symbol, tree_good, padded_fits, answered_same}
use Rattle.book.specs.Book.{Rule, check_book, rule_at}
use Rattle.fit.specs.Fit.{build, IsBody}
use Rattle.fit.specs.Front.{root_arguments, front, aside, matching_front, FitsFront}
use Rattle.fit.specs.Match.{tree_of, left_in, body_list, length_list, GivesBodies, fitted_o, match_rule, match_answer, match_aside, match_words, match_lengths, MatchRuleOutcome, matched_came, match_rule_gives}
use Rattle.fit.specs.Build.{within_limits, Built, refused, built, limited, build_left, build_answer, build_words, BuildLeftOutcome, build_left_gives}
use Rattle.fit.proofs.Laws.{term_is_body, body_is_term, front_body, as_dedukti, GoodRule, front_sound, front_unique, front_none, front_nothing, front_same, front_fewer, front_abstraction, front_variable, front_pattern, aside_node, tree_of_lem, accepted_good, refused_answer, fitted_room, fitted_short, same_bodies, limited_is, refused_built, built_built, match_one_rule, build_given as build-of, build_match, match_build}
use Rattle.fit.specs.Dedukti.{AsDedukti}
use Rattle.tree.specs.Find.{root_count}
use Rattle.tree.proofs.Laws.{root_count_lem}
use Rattle.walk.specs.Demand.{OnlyBodies}
use Rattle.rosenduch.specs.Steps.{Leaves}
use Rattle.rosenduch.specs.Demands.{without_aside, Counts, MatchesRule, Written}
use Rattle.rosenduch.proofs.Given.{match_given, build_given}

-- ---- what is said with two numbers is two
module _ (said : Answered) where
  differ : (n m i j : ℕ) → (n ≡ m → ⊥) → said ≡ saying n i → said ≡ saying m j → ⊥
  differ n m i j d p q = d (ap (λ (a : Answered). a.number) (sym p ∙ q))

  pub none_done : said ≡ answered NoFit → said ≡ answered Done → ⊥
  none_done = differ 1 0 0 0 (λ e. omega (arith, e))

  pub none_short : said ≡ answered NoFit → said ≡ answered Short → ⊥
  none_short = differ 1 13 0 0 (λ e. omega (arith, e))

  pub done_short : said ≡ answered Done → said ≡ answered Short → ⊥
  done_short = differ 0 13 0 0 (λ e. omega (arith, e))

  pub none_over : said ≡ answered NoFit → said ≡ answered Over → ⊥
  none_over = differ 1 15 0 0 (λ e. omega (arith, e))

  pub none_cannot : (n : ℕ) → said ≡ answered NoFit → said ≡ answered (CannotTake n) → ⊥
  none_cannot n = differ 1 18 0 n (λ e. omega (arith, e))

module _ (book : List ℕ) (number : ℕ) (rule : Rule) (term : List ℕ) (accepted : check_book book ≡ Ok tt) (found : rule_at book number ≡ some rule) (i : IsTerm term) where
  body : IsBody i.tree
  body = term_is_body term i

  abbrev own : ℕ
  own = root_arguments (left_in rule)

  good_rule_lem : GoodRule rule.vars (left_in rule)
  good_rule_lem = accepted_good book accepted number rule found

  matched : (o : Option (ℕ → Row)) → matching_front (left_in rule) i.tree ≡ o → match_rule book number term ≡ fitted_o rule.vars (aside own (tree_of term)) o
  matched o e =
      match_one_rule book number term accepted rule found (tree_good term_limits term i)
      ∙ ap (λ (t : Row). fitted_o rule.vars (aside own (tree_of term)) (matching_front (left_in rule) t)) (tree_of_lem term_limits term i)
      ∙ ap (fitted_o rule.vars (aside own (tree_of term))) e

  -- the same fit, of the tree and of the words given
  of_tree : (b : ℕ → Row) → FitsFront rule.vars (left_in rule) (tree_of term) b → FitsFront rule.vars (left_in rule) i.tree b
  of_tree b f = rw (tree_of_lem term_limits term i) at f

  module _ (room : ℕ) (o : MatchRuleOutcome) (p : o ≡ match_rule_gives book number term room) where
    came : o ≡ matched_came room (match_rule book number term)
    came = p ∙ match_given book number term room

    says : (a : Answer) → match_answer room (match_rule book number term) ≡ a → o.said ≡ answered a
    says a e = ap (λ (q : MatchRuleOutcome). q.said) came ∙ ap answered e

    -- no bodies
    module _ (e : matching_front (left_in rule) i.tree ≡ none) where
      no_bodies : (b : ℕ → Row) → FitsFront rule.vars (left_in rule) (tree_of term) b → ⊥
      no_bodies b f = front_none rule.vars (left_in rule) good_rule_lem i.tree body e b (of_tree b f)

      says_none : o.said ≡ answered NoFit
      says_none = says NoFit (ap (match_answer room) (matched none e) ∙ refused_answer room NoFit)

      when_none : MatchesRule rule term room o
      when_none =
          record {
            none_fits = λ z. no_bodies;
            none_said = λ z. says_none;
            found = λ z. absurd (none_done o.said says_none z);
            given = λ b f h. absurd (no_bodies b f);
            short = λ b f h. absurd (no_bodies b f);
          }

    -- these bodies
    module _ (b : ℕ → Row) (e : matching_front (left_in rule) i.tree ≡ some b) where
      fits_tree : FitsFront rule.vars (left_in rule) i.tree b
      fits_tree = front_sound rule.vars (left_in rule) good_rule_lem i.tree body b e

      fits : FitsFront rule.vars (left_in rule) (tree_of term) b
      fits = rw (tree_of_lem term_limits term i) fits_tree

      only : OnlyBodies term rule b
      only c f x h = front_unique rule.vars (left_in rule) good_rule_lem i.tree body c b (of_tree c f) fits_tree x h

      with_room : length (body_list b 0 rule.vars) ≤ room → (o.said ≡ answered Done) × Counts rule term o.aside × GivesBodies room rule.vars b o.bodies o.lengths
      with_room h =
          let m = matched (some b) e in
          let g = fitted_room room rule.vars (aside own (tree_of term)) b h in (
            says Done (ap (match_answer room) m ∙ g.0),
            ap (λ (q : MatchRuleOutcome). q.aside) came ∙ ap (match_aside room) m ∙ g.3,
            record {
              bodies_are = ap (λ (q : MatchRuleOutcome). q.bodies) came ∙ ap (match_words room) m ∙ g.1;
              lengths_are = ap (λ (q : MatchRuleOutcome). q.lengths) came ∙ ap (match_lengths room) m ∙ g.2;
            },
          )

      without_room : room < length (body_list b 0 rule.vars) → o.said ≡ answered Short
      without_room h = says Short (ap (match_answer room) (matched (some b) e) ∙ fitted_short room rule.vars (aside own (tree_of term)) b h)

      not_none : o.said ≡ answered NoFit → ⊥
      not_none z = go (dec_le (length (body_list b 0 rule.vars)) room)
        where
          go : Dec (length (body_list b 0 rule.vars) ≤ room) → ⊥
          go (yes h) = none_done o.said z (with_room h).0
          go (no h) = none_short o.said z (without_room (omega arith))

      found_them : o.said ≡ answered Done → (b : ℕ → Row) × FitsFront rule.vars (left_in rule) (tree_of term) b × OnlyBodies term rule b × Counts rule term o.aside × GivesBodies room rule.vars b o.bodies o.lengths
      found_them z = go (dec_le (length (body_list b 0 rule.vars)) room)
        where
          go : Dec (length (body_list b 0 rule.vars) ≤ room) → (b : ℕ → Row) × FitsFront rule.vars (left_in rule) (tree_of term) b × OnlyBodies term rule b × Counts rule term o.aside × GivesBodies room rule.vars b o.bodies o.lengths
          go (yes h) = (b, fits, only, (with_room h).1, (with_room h).2)
          go (no h) = absurd (done_short o.said z (without_room (omega arith)))

      -- other bodies that fit are these
      same : (c : ℕ → Row) → FitsFront rule.vars (left_in rule) (tree_of term) c
          → (body_list c 0 rule.vars ≡ body_list b 0 rule.vars) × (length_list c 0 rule.vars ≡ length_list b 0 rule.vars)
      same c f = same_bodies c b rule.vars 0 (λ x a k. only c f x (omega arith))

      given_them : (c : ℕ → Row) → FitsFront rule.vars (left_in rule) (tree_of term) c → length (body_list c 0 rule.vars) ≤ room
          → (o.said ≡ answered Done) × Counts rule term o.aside × GivesBodies room rule.vars c o.bodies o.lengths
      given_them c f h =
          let s = same c f in
          let w = with_room (rw s.0 at h) in
          (w.0, w.1, record { bodies_are = rw s.0 w.2.bodies_are; lengths_are = rw s.1 w.2.lengths_are })

      short_of : (c : ℕ → Row) → FitsFront rule.vars (left_in rule) (tree_of term) c → room < length (body_list c 0 rule.vars) → o.said ≡ answered Short
      short_of c f h = without_room (rw (same c f).0 at h)

      when_some : MatchesRule rule term room o
      when_some =
          record {
            none_fits = λ z. absurd (not_none z);
            none_said = λ n. absurd (n b fits);
            found = found_them;
            given = given_them;
            short = short_of;
          }

    pub matches_rule : MatchesRule rule term room o
    matches_rule = go (matching_front (left_in rule) i.tree) refl
      where
        go : (m : Option (ℕ → Row)) → matching_front (left_in rule) i.tree ≡ m → MatchesRule rule term room o
        go none e = when_none e
        go (some b) e = when_some b e

-- ---- a row that is built or written
module _ (room : ℕ) (t : Row) (said : Answered) (out : List ℕ) (p : said ≡ answered (build_answer room (limited t))) (q : out ≡ build_words room (limited t)) where
  module _ (w : within_limits t ≡ true) where
    limited_within : limited t ≡ built t
    limited_within = limited_is t ∙ ap (λ b. pick b (built t) (refused Over)) w

    within_answer : said ≡ answered (pick (leb (length (words t)) room) Done Short)
    within_answer = p ∙ ap answered (ap (build_answer room) limited_within ∙ (built_built room t).0)

    leaves_row : length (words t) ≤ room → (said ≡ answered Done) × Leaves room t out
    leaves_row h = (
      within_answer ∙ ap (λ b. answered (pick b Done Short)) (le-leb (length (words t)) room h),
      record { fits = h; words_are = q ∙ ap (build_words room) limited_within ∙ (built_built room t).1 ∙ padded_fits room (words t) h },
    )

    short_row : room < length (words t) → said ≡ answered Short
    short_row h = within_answer ∙ ap (λ b. answered (pick b Done Short)) (lt-leb (length (words t)) room h)

  over_row : within_limits t ≡ false → said ≡ answered Over
  over_row w = p ∙ ap answered (ap (build_answer room) (limited_is t ∙ ap (λ b. pick b (built t) (refused Over)) w) ∙ (refused_built room Over).0)

  pub is_written : Written room t said out
  is_written = record { done = leaves_row; short = short_row; over = over_row }

  -- "no rule fits" is not among these
  pub never_none : said ≡ answered NoFit → ⊥
  never_none z = go (within_limits t) refl (dec_le (length (words t)) room)
    where
      go : (c : Bool) → within_limits t ≡ c → Dec (length (words t) ≤ room) → ⊥
      go false w d = none_over said z (over_row w)
      go true w (yes h) = none_done said z (leaves_row w h).0
      go true w (no h) = none_short said z (short_row w (omega arith))

pub builds_left : (book : List ℕ) (number : ℕ) (rule : Rule) → check_book book ≡ Ok tt → rule_at book number ≡ some rule
    → (b : ℕ → Row) → ((x : ℕ) → x < rule.vars → IsBody (b x))
    → (room : ℕ) (o : BuildLeftOutcome) → o ≡ build_left_gives book number (body_list b 0 rule.vars) (length_list b 0 rule.vars ++ replicate (16 - rule.vars) 0) room
    → Written room (build b 0 (left_in rule)) o.said o.out
builds_left book number rule g f b i room o p =
    let e = p ∙ build_given book number (body_list b 0 rule.vars) (length_list b 0 rule.vars ++ replicate (16 - rule.vars) 0) room in
    let l = build-of book number rule g f b i in
    is_written room (build b 0 (left_in rule)) o.said o.out
    (ap (λ (q : BuildLeftOutcome). q.said) e ∙ ap (λ (x : Built). answered (build_answer room x)) l)
    (ap (λ (q : BuildLeftOutcome). q.out) e ∙ ap (build_words room) l)

-- ---- built, then matched; matched, then built
pub built_then : (book : List ℕ) (number : ℕ) (bodies lengths : List ℕ) → length lengths ≡ 16
    → (room : ℕ) (o : BuildLeftOutcome) → o ≡ build_left_gives book number bodies lengths room → o.said ≡ answered Done
    → (term : List ℕ) × (o.out ≡ term ++ replicate (room - length term) 0)
    × ((more : ℕ) → length bodies ≤ more → (m : MatchRuleOutcome) → m ≡ match_rule_gives book number term more
    → (m.said ≡ answered Done) × (m.aside ≡ 0) × (m.bodies ≡ bodies ++ replicate (more - length bodies) 0) × (m.lengths ≡ lengths))
built_then book number bodies lengths l room o p d =
    let e = p ∙ build_given book number bodies lengths room in
    let k = build_match book number bodies lengths l room (answered_same _ Done (sym (ap (λ (q : BuildLeftOutcome). q.said) e) ∙ d)) in (
      k.0,
      ap (λ (q : BuildLeftOutcome). q.out) e ∙ k.1,
      λ more h m q. (
          let f = q ∙ match_given book number k.0 more in
          let x = k.2 more h in (
            ap (λ (y : MatchRuleOutcome). y.said) f ∙ ap answered x.0,
            ap (λ (y : MatchRuleOutcome). y.aside) f ∙ x.3,
            ap (λ (y : MatchRuleOutcome). y.bodies) f ∙ x.1,
            ap (λ (y : MatchRuleOutcome). y.lengths) f ∙ x.2,
          )
          ),
    )

-- document 001's rules, of the term without the arguments set aside
pub as_dedukti_front : (book : List ℕ) → check_book book ≡ Ok tt → (number : ℕ) (rule : Rule) → rule_at book number ≡ some rule → (term : List ℕ) → IsTerm term
    → AsDedukti rule.vars (left_in rule) (words (front (root_arguments (left_in rule)) (tree_of term)))
as_dedukti_front book g number rule f term i =
    let t = front (root_arguments (left_in rule)) i.tree in
    rw (tree_of_lem term_limits term i) (as_dedukti book g number rule f (words t) (body_is_term t (front_body (root_arguments (left_in rule)) i.tree (term_is_body term i))))

-- the front of as many arguments as are not set aside
front_rest : (b : ℕ) (t : Row) → Formed t → front (root_count t - aside b t) t ≡ front b t
front_rest b nothing w = front_nothing _ ∙ sym (front_nothing b)
front_rest b (node (symbol i a) kids rest) w = go (dec_le b a)
  where
    t : Row
    t = node (symbol i a) kids rest

    rest_is : root_count t - aside b t ≡ a - (a - b)
    rest_is = rw (root_count_lem (symbol i a) kids rest, aside_node b (symbol i a) kids rest, count_symbol i a)

    go : Dec (b ≤ a) → front (root_count t - aside b t) t ≡ front b t
    go (yes l) = let z : a - (a - b) ≡ b = omega (arith, l) in ap (λ (n : ℕ). front n t) (rest_is ∙ z)
    go (no l) =
        let z : a - (a - b) ≡ a = omega (arith, l) in
        ap (λ (n : ℕ). front n t) (rest_is ∙ z ∙ sym (count_symbol i a)) ∙ front_same (symbol i a) kids rest w ∙ sym (front_fewer b i a kids rest (omega (arith, l)))
front_rest b (node abstraction kids rest) w = front_abstraction _ kids rest ∙ sym (front_abstraction b kids rest)
front_rest b (node (variable i) kids rest) w = front_variable _ i kids rest ∙ sym (front_variable b i kids rest)
front_rest b (node (pattern i c) kids rest) w = front_pattern _ i c kids rest ∙ sym (front_pattern b i c kids rest)

pub matched_then : (book : List ℕ) (number : ℕ) (term : List ℕ) → IsTerm term
    → (room : ℕ) (m : MatchRuleOutcome) → m ≡ match_rule_gives book number term room → m.said ≡ answered Done
    → (given : List ℕ) × (m.bodies ≡ given ++ replicate (room - length given) 0)
    × ((more : ℕ) → length (without_aside m.aside term) ≤ more → (o : BuildLeftOutcome) → o ≡ build_left_gives book number given m.lengths more
    → (o.said ≡ answered Done) × (o.out ≡ without_aside m.aside term ++ replicate (more - length (without_aside m.aside term)) 0))
matched_then book number term i room m p d =
    let e = p ∙ match_given book number term room in
    let k = match_build book number term room (answered_same _ Done (sym (ap (λ (y : MatchRuleOutcome). y.said) e) ∙ d)) in
    let n : m.aside ≡ aside (root_arguments (left_in k.rule)) (tree_of term) = ap (λ (y : MatchRuleOutcome). y.aside) e ∙ k.counts in
    let t : Formed (tree_of term) = rw (tree_of_lem term_limits term i) i.formed in
    let w : without_aside m.aside term ≡ words (front (root_arguments (left_in k.rule)) (tree_of term)) = ap (λ (j : ℕ). without_aside j term) n ∙ ap words (front_rest (root_arguments (left_in k.rule)) (tree_of term) t) in (
      k.bodies,
      ap (λ (y : MatchRuleOutcome). y.bodies) e ∙ k.left,
      λ more h o q. (
          let f = q ∙ build_given book number k.bodies m.lengths more in
          let l = ap (λ (y : MatchRuleOutcome). build_left book number k.bodies y.lengths) e in
          let x = k.builds more (rw w at h) in (
            ap (λ (y : BuildLeftOutcome). y.said) f ∙ ap (λ (b : Built). answered (build_answer more b)) l ∙ ap answered x.0,
            ap (λ (y : BuildLeftOutcome). y.out) f ∙ ap (build_words more) l ∙ x.1 ∙ rw w,
          )
          ),
    )
