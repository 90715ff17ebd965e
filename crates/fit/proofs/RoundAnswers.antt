-- Demand 2 over what the operations answer and leave: what was built and left is matched with its bodies, and of what was matched and left the term without the arguments set aside is built.
use mathlib.Core.Path.{◌≡◌, refl, ap, ◌∙◌}
use mathlib.Core.Bool.{Bool, true, false}
use mathlib.Core.List.{List, ◌++◌}
use mathlib.Core.Option.{some}
use Prim.Native.Nat.{ℕ, ◌-◌, ◌≤◌}
use lib.Dec.{leb}
use lib.ListN.{length, replicate}
use borrow.Author.Tests.{leb-true, le-leb}
use Rattle.term.specs.declared.answer.Answer.TheVariants.{Done, Short}
use Rattle.term.specs.Word.{pick}
use Rattle.term.specs.Row.{Row, width, words}
use Rattle.term.proofs.Laws.{never, padded_fits}
use Rattle.book.specs.Book.{Rule, rule_at}
use Rattle.fit.specs.Fit.{IsBody}
use Rattle.fit.specs.Front.{root_arguments, front, aside, with_arguments}
use Rattle.fit.specs.Match.{tree_of, left_in, body_list, length_list, Matched, refused, fitted, match_rule, match_answer, match_aside, match_words, match_lengths}
use Rattle.fit.specs.Build as building
use Rattle.fit.specs.Build.{Built, built, build_left, build_answer, build_words}
use Rattle.fit.proofs.Fitted.{fitted_room}
use Rattle.fit.proofs.RoundTrip.{BuiltO, MatchedO, built_o, matched_o, BackAgain, built_then_matched, built_with_matched, matched_then_built}

fits : (n room : ℕ) → pick (leb n room) Done Short ≡ Done → n ≤ room
fits n room e = go (leb n room) refl e
  where
    go : (c : Bool) → leb n room ≡ c → pick c Done Short ≡ Done → n ≤ room
    go true q z = leb-true n room q
    go false q z = never (cc)

-- ---- building
record DoneBuilt (book : List ℕ) (number : ℕ) (bodies lengths : List ℕ) (room : ℕ) : Type 0 where
  term : Row
  is : build_left book number bodies lengths ≡ built term
  room_for : length (words term) ≤ room

done_built : (book : List ℕ) (number : ℕ) (bodies lengths : List ℕ) (room : ℕ) → build_answer room (build_left book number bodies lengths) ≡ Done → DoneBuilt book number bodies lengths room
unfolding build_answer
done_built book number bodies lengths room e = go (build_left book number bodies lengths) refl (built_o book number bodies lengths) e
  where
    go : (b : Built) → build_left book number bodies lengths ≡ b → BuiltO book number bodies lengths b → build_answer room b ≡ Done → DoneBuilt book number bodies lengths room
    go (building.refused a) q n z = absurd (n z)
    go (built t) q n z = record { term = t; is = q; room_for = fits (length (words t)) room z }

built_room : (b : Built) (t : Row) (room : ℕ) → b ≡ built t → length (words t) ≤ room → (build_answer room b ≡ Done) × (build_words room b ≡ words t ++ replicate (room - length (words t)) 0)
unfolding build_answer build_words
built_room b t room e h = rw (e, le-leb (length (words t)) room h) (refl, padded_fits room (words t) h)

-- ---- matching
record DoneMatched (book : List ℕ) (number : ℕ) (ws : List ℕ) (room : ℕ) : Type 0 where
  vars : ℕ
  many : ℕ
  bodies : ℕ → Row
  is : match_rule book number ws ≡ fitted vars many bodies
  room_for : length (body_list bodies 0 vars) ≤ room

done_matched : (book : List ℕ) (number : ℕ) (ws : List ℕ) (room : ℕ) → match_answer room (match_rule book number ws) ≡ Done → DoneMatched book number ws room
unfolding match_answer
done_matched book number ws room e = go (match_rule book number ws) refl (matched_o book number ws) e
  where
    go : (m : Matched) → match_rule book number ws ≡ m → MatchedO book number ws m → match_answer room m ≡ Done → DoneMatched book number ws room
    go (refused a) q n z = absurd (n z)
    go (fitted vars k b) q n z = record { vars = vars; many = k; bodies = b; is = q; room_for = fits (length (body_list b 0 vars)) room z }

matched_room : (m : Matched) (vars n : ℕ) (b : ℕ → Row) (room : ℕ) → m ≡ fitted vars n b → length (body_list b 0 vars) ≤ room
    → (match_answer room m ≡ Done) × (match_words room m ≡ body_list b 0 vars ++ replicate (room - length (body_list b 0 vars)) 0) × (match_lengths room m ≡ length_list b 0 vars ++ replicate (16 - vars) 0)
    × (match_aside room m ≡ n)
matched_room m vars n b room e h = rw e (fitted_room room vars n b h)

-- a term is matched with the bodies of these words and lengths wherever they have room, and so many arguments are set aside
abbrev pub MatchedAgain : List ℕ → ℕ → List ℕ → List ℕ → List ℕ → ℕ → Type 0
MatchedAgain book number bodies lengths ws n =
    (more : ℕ) → length bodies ≤ more
    → (match_answer more (match_rule book number ws) ≡ Done) × (match_words more (match_rule book number ws) ≡ bodies ++ replicate (more - length bodies) 0) × (match_lengths more (match_rule book number ws) ≡ lengths)
    × (match_aside more (match_rule book number ws) ≡ n)

again : (book : List ℕ) (number : ℕ) (bodies lengths : List ℕ) (t : Row) (n : ℕ) → BackAgain book number bodies lengths t n → MatchedAgain book number bodies lengths (words t) n
again book number bodies lengths t n m more h =
    let r = matched_room (match_rule book number (words t)) m.0 n m.1 more m.2 (rw m.3 h) in
    (r.0, rw m.3 at r.1, r.2 ∙ m.4, r.3)

-- ---- "Building a left side from given bodies, when the result is within the limits and there is room, and then matching it gives those bodies back"
pub build_match : (book : List ℕ) (number : ℕ) (bodies lengths : List ℕ) → length lengths ≡ 16 → (room : ℕ) → build_answer room (build_left book number bodies lengths) ≡ Done
    → (ws : List ℕ) × (build_words room (build_left book number bodies lengths) ≡ ws ++ replicate (room - length ws) 0) × MatchedAgain book number bodies lengths ws 0
build_match book number bodies lengths l room e = shown (done_built book number bodies lengths room e)
  where
    shown : DoneBuilt book number bodies lengths room
        → (ws : List ℕ) × (build_words room (build_left book number bodies lengths) ≡ ws ++ replicate (room - length ws) 0) × MatchedAgain book number bodies lengths ws 0
    shown d = (
      words d.term,
      (built_room (build_left book number bodies lengths) d.term room d.is d.room_for).1,
      again book number bodies lengths d.term 0 (built_then_matched book number bodies lengths l d.term d.is),
    )

-- what is built is one tree, and with any arguments at its end with which it is a term it is matched with the bodies, these arguments set aside
pub build_with_match : (book : List ℕ) (number : ℕ) (bodies lengths : List ℕ) → length lengths ≡ 16 → (room : ℕ) → build_answer room (build_left book number bodies lengths) ≡ Done
    → (t : Row) × (build_words room (build_left book number bodies lengths) ≡ words t ++ replicate (room - length (words t)) 0)
    × ((more : Row) → IsBody (with_arguments t more) → MatchedAgain book number bodies lengths (words (with_arguments t more)) (width more))
build_with_match book number bodies lengths l room e = shown (done_built book number bodies lengths room e)
  where
    shown : DoneBuilt book number bodies lengths room
        → (t : Row) × (build_words room (build_left book number bodies lengths) ≡ words t ++ replicate (room - length (words t)) 0)
        × ((more : Row) → IsBody (with_arguments t more) → MatchedAgain book number bodies lengths (words (with_arguments t more)) (width more))
    shown d = (
      d.term,
      (built_room (build_left book number bodies lengths) d.term room d.is d.room_for).1,
      λ more w. again book number bodies lengths (with_arguments d.term more) (width more) (built_with_matched book number bodies lengths l d.term d.is more w),
    )

-- ---- "building from the bodies of a match, given room, gives" "the term without the arguments set aside", which the answer counts
pub record BuildsFront (book : List ℕ) (number : ℕ) (ws : List ℕ) (room : ℕ) : Type 0 where
  pub rule : Rule
  pub found : rule_at book number ≡ some rule
  pub counts : match_aside room (match_rule book number ws) ≡ aside (root_arguments (left_in rule)) (tree_of ws)
  pub bodies : List ℕ
  pub left : match_words room (match_rule book number ws) ≡ bodies ++ replicate (room - length bodies) 0
  pub builds : (more : ℕ) → length (words (front (root_arguments (left_in rule)) (tree_of ws))) ≤ more
      → (build_answer more (build_left book number bodies (match_lengths room (match_rule book number ws))) ≡ Done)
      × (build_words more (build_left book number bodies (match_lengths room (match_rule book number ws)))
      ≡ words (front (root_arguments (left_in rule)) (tree_of ws)) ++ replicate (more - length (words (front (root_arguments (left_in rule)) (tree_of ws)))) 0)

pub match_build : (book : List ℕ) (number : ℕ) (ws : List ℕ) (room : ℕ) → match_answer room (match_rule book number ws) ≡ Done → BuildsFront book number ws room
match_build book number ws room e = shown (done_matched book number ws room e)
  where
    shown : DoneMatched book number ws room → BuildsFront book number ws room
    shown d =
        let r = matched_room (match_rule book number ws) d.vars d.many d.bodies room d.is d.room_for in
        let t = matched_then_built book number ws d.vars d.many d.bodies d.is in
        let q : build_left book number (body_list d.bodies 0 d.vars) (match_lengths room (match_rule book number ws)) ≡ built (front (root_arguments (left_in t.rule)) (tree_of ws)) = ap (build_left book number (body_list d.bodies 0 d.vars)) r.2 ∙ t.is in
        record {
          rule = t.rule;
          found = t.found;
          counts = r.3 ∙ t.counts;
          bodies = body_list d.bodies 0 d.vars;
          left = r.1;
          builds = λ more h. built_room (build_left book number (body_list d.bodies 0 d.vars) (match_lengths room (match_rule book number ws))) (front (root_arguments (left_in t.rule)) (tree_of ws)) more q h;
        }
