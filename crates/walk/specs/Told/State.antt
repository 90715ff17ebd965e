-- What the walk's state in memory stands for: the places uncovered so far, as parts of the words.
use Rattle.std.specs.Prelude.{ℕ, zero, suc, ◌+◌, ◌-◌, ◌≤◌, ◌<◌, ◌≡◌, Bool, true, false, List, [], ◌∷◌, ◌++◌, length, get_or, drop, replicate, leb, Option as StdOption, Some, None, unwrap_or}
use Rattle.std.proofs.Math.Option.{Option, none, some}
use Rattle.term.specs.Word.{pick}
use Rattle.term.specs.Row.{Row, words, nesting}
use Rattle.term.specs.Told.Walk.{Stands}
use Rattle.term.specs.Part.{part, body_of}
use Rattle.term.specs.declared.answer.Answer.{Answer}
use Rattle.term.specs.declared.answer.Answer.TheVariants.{Done, Short}
use Rattle.fit.specs.Match.{body_list, fitted, match_answer, match_words, match_lengths}
use Rattle.tree.specs.Tree.{LeafVariable, LeafNode}
use Rattle.tree.specs.Find.{PartAt, root_count, root_part, enter_part, body_or, leaf_body, leaf_fitting, total}
use Rattle.walk.specs.Walk.{Walked, NoneFits, RuleFits, DamagedAt, Next, Ends, Goes, unless, go_to, variables_in, sound_variables, case_next, switch_node, closed_node, same_node, leaf_node, next_at, walk_from, visits_from, no_book}
use Rattle.walk.specs.ByTree.{walked_match, walked_rule, MatchTreeOutcome, rule_gives}
use Rattle.walk.specs.declared.state.Walk.{Walk}
use Rattle.walk.specs.declared.state.Stands as state
use Rattle.walk.specs.declared.state.Stands.TheVariants as stands
use Rattle.walk.specs.declared.by_tree.TreeMatch.{TreeMatch}
use Rattle.walk.specs.declared.decide.Decision.{Decision}
use Rattle.walk.specs.declared.decide.Decision.TheVariants.{Enter, Go, Stop}

abbrev pub stopped_as : Walk → state.Stands → Walk
stopped_as s how = record { offsets = s.offsets; depths = s.depths; entered = s.entered; count = s.count; at = s.at; stands = how; visits = s.visits }

abbrev pub moved_to : Walk → ℕ → Walk
moved_to s to = record { offsets = s.offsets; depths = s.depths; entered = s.entered; count = s.count; at = to; stands = s.stands; visits = s.visits }

abbrev pub entry_at : Walk
entry_at = record { offsets = replicate 4096 0; depths = replicate 4096 0; entered = replicate 4096 false; count = 1; at = 0; stands = stands.Going; visits = 0 }

-- the part that begins at an offset of the words
unfoldable pub part_from : List ℕ → ℕ → Row
part_from term at = body_or (part (drop at term))

unfoldable pub place_in : List ℕ → List ℕ → List ℕ → List Bool → ℕ → PartAt
place_in term offsets depths entered n = record { part = part_from term (get_or offsets n 0); depth = get_or depths n 0; entered = get_or entered n false }

-- so many places from a number on
unfoldable pub places_from : (ℕ → PartAt) → ℕ → ℕ → List PartAt
places_from place n zero = []
places_from place n (suc more) = place n ∷ places_from place (suc n) more

abbrev pub places_of : List ℕ → Walk → List PartAt
places_of term s = places_from (place_in term s.offsets s.depths s.entered) 0 s.count

-- ---- each offset of the words begins a part, as in a term and in what follows an offset of a term
pub record Parted (term : List ℕ) : Type 0 where
  pub begins : (at : ℕ) → at < length term → (f : Row) × (after : List ℕ) × Stands 64 1 (drop at term) 0 f after
  pub short : length term ≤ 4096

-- the places lie in the words, and with what can still be uncovered below them they are no more than the words
pub record Holds (term : List ℕ) (s : Walk) : Type 0 where
  pub offsets_long : length s.offsets ≡ 4096
  pub depths_long : length s.depths ≡ 4096
  pub entered_long : length s.entered ≡ 4096
  pub within : (n : ℕ) → n < s.count → get_or s.offsets n 0 < length term
  pub low : (n : ℕ) → n < s.count → get_or s.depths n 0 + nesting (part_from term (get_or s.offsets n 0)) ≤ 64
  pub few : s.count ≤ length term
  pub room : total (places_of term s) ≤ length term

-- whether the variables of a Leaf were read and are sound
abbrev pub sound_leaf : List PartAt → Option (List LeafVariable) → Bool
sound_leaf ps none = false
sound_leaf ps (some vs) = sound_variables ps vs

-- ---- what a node says, as the state has it afterwards, whether a book is given or not
abbrev pub variables_or : Option (List LeafVariable) → List LeafVariable
variables_or none = []
variables_or (some vs) = vs

-- the Leaf at an address
abbrev pub leaf_in : List ℕ → ℕ → LeafNode
leaf_in table at = record { rule = get_or table (at + 1) 0; aside = get_or table (at + 3) 0; variables = variables_or (variables_in (get_or table (at + 2) 0) (drop (at + 4) table)) }

-- the rule of a Leaf at an address, with what is set aside and its bodies
abbrev pub leaf_rule : List ℕ → List PartAt → ℕ → Walked
leaf_rule table ps at = RuleFits (leaf_fitting ps (leaf_in table at)) (get_or table (at + 2) 0)

-- a Leaf where each variable has a body
pub record LeafSound (table term : List ℕ) (s : Walk) : Type 0 where
  pub inside : s.at + 4 ≤ length table
  pub few : get_or table (s.at + 2) 0 ≤ 16
  pub sound : sound_leaf (places_of term s) (variables_in (get_or table (s.at + 2) 0) (drop (s.at + 4) table)) ≡ true

pub record LeafAt (table term : List ℕ) (next : (LeafNode → Bool) → Next) (s : Walk) : Type 0 where
  pub leaf : LeafSound table term s
  pub ends : (fits : LeafNode → Bool) → next fits ≡ unless (fits (leaf_in table s.at)) s.at (Ends (leaf_rule table (places_of term s) s.at))

abbrev pub Said : List ℕ → List ℕ → ((LeafNode → Bool) → Next) → Walk → state.Stands → Type 0
Said table term next s stands.Going = (fits : LeafNode → Bool) → next fits ≡ Goes s.at (places_of term s)
Said table term next s stands.NoRule = (fits : LeafNode → Bool) → next fits ≡ Ends NoneFits
Said table term next s stands.Rule = LeafAt table term next s
Said table term next s stands.Damaged = (fits : LeafNode → Bool) → next fits ≡ Ends (DamagedAt s.at)

-- the state after a place was entered
pub record EnterTold (term : List ℕ) (s : Walk) (n to : ℕ) (r : Walk) : Type 0 where
  pub holds : Holds term r
  pub places : places_of term r ≡ enter_part n (places_of term s)
  pub there : r.at ≡ to
  pub same : r.stands ≡ s.stands
  pub visited : r.visits ≡ s.visits

-- ---- what a node says, as it is decided before the state is handed on
unfoldable pub Decided : List ℕ → List ℕ → ((LeafNode → Bool) → Next) → Walk → Decision → Type 0
Decided table term next s (Enter n to) = (n < s.count) × (get_or s.entered n false ≡ false) × ((fits : LeafNode → Bool) → next fits ≡ Goes to (enter_part n (places_of term s)))
Decided table term next s (Go to) = (fits : LeafNode → Bool) → next fits ≡ Goes to (places_of term s)
Decided table term next s (Stop how) = Said table term next s how

-- what is decided where none is a damaged node
abbrev pub or_damaged : StdOption Decision → Decision
or_damaged d = unwrap_or d (Stop stands.Damaged)

abbrev pub NodeDecided : List ℕ → List ℕ → Walk → Decision → Type 0
NodeDecided table term s d = Decided table term (λ fits. next_at fits table s.at (places_of term s)) s d

abbrev pub SwitchDecided : List ℕ → List ℕ → Walk → Decision → Type 0
SwitchDecided table term s d = Decided table term (λ fits. switch_node table s.at (places_of term s) (drop (s.at + 1) table)) s d

abbrev pub ClosedDecided : List ℕ → List ℕ → Walk → Decision → Type 0
ClosedDecided table term s d = Decided table term (λ fits. closed_node table s.at (places_of term s) (drop (s.at + 1) table)) s d

abbrev pub SameDecided : List ℕ → List ℕ → Walk → Decision → Type 0
SameDecided table term s d = Decided table term (λ fits. same_node table s.at (places_of term s) (drop (s.at + 1) table)) s d

abbrev pub LeafDecided : List ℕ → List ℕ → Walk → Decision → Type 0
LeafDecided table term s d = Decided table term (λ fits. leaf_node fits s.at (places_of term s) (drop (s.at + 1) table)) s d

-- an address and a case, for every state that is there
abbrev pub GoTold : List ℕ → ℕ → ℕ → Decision → Type 0
GoTold table at to d = (term : List ℕ) (s : Walk) → s.at ≡ at → Decided table term (λ fits. go_to table s.at to (places_of term s)) s d

abbrev pub CaseTaken : List ℕ → ℕ → ℕ → Bool → ℕ → Decision → Type 0
CaseTaken table at n entered to d = (term : List ℕ) (s : Walk) → Parted term → Holds term s → s.at ≡ at → n < s.count → get_or s.entered n false ≡ entered
    → Decided table term (λ fits. case_next table s.at n (places_of term s) 0 (some to)) s d

-- ---- how a walk stands: it goes on from here, or it ended
pub record LeafFound (table term : List ℕ) (walked : (LeafNode → Bool) → Walked) (s : Walk) : Type 0 where
  pub leaf : LeafSound table term s
  pub ends : (fits : LeafNode → Bool) → walked fits ≡ pick (fits (leaf_in table s.at)) (leaf_rule table (places_of term s) s.at) (DamagedAt s.at)

abbrev pub Stood : List ℕ → List ℕ → ((LeafNode → Bool) → Walked) → Walk → state.Stands → Type 0
Stood table term walked s stands.Going = (fits : LeafNode → Bool) → walked fits ≡ walk_from fits table s.at (places_of term s)
Stood table term walked s stands.NoRule = (fits : LeafNode → Bool) → walked fits ≡ NoneFits
Stood table term walked s stands.Rule = LeafFound table term walked s
Stood table term walked s stands.Damaged = (fits : LeafNode → Bool) → walked fits ≡ DamagedAt s.at

unfoldable pub Standing : List ℕ → List ℕ → ((LeafNode → Bool) → Walked) → Walk → Type 0
Standing table term walked s = Holds term s × Stood table term walked s s.stands

-- the visits of the walk over the part that the words begin with, of which so many were made
abbrev pub visits_here : List ℕ → List ℕ → ℕ
visits_here table term = visits_from table 0 (root_part (part_from term 0))

-- whether a walk that stands so goes on
abbrev pub goes_on : state.Stands → Bool
goes_on stands.Going = true
goes_on stands.NoRule = false
goes_on stands.Rule = false
goes_on stands.Damaged = false

unfoldable pub Visited : List ℕ → List ℕ → Walk → Type 0
Visited table term s = s.visits + pick (goes_on s.stands) (visits_from table s.at (places_of term s)) 0 ≡ visits_here table term

-- the walk over the part that the words begin with, once it ended
unfoldable pub WalkTold : List ℕ → List ℕ → Walk → Type 0
WalkTold table term r = Standing table term (λ fits. walk_from fits table 0 (root_part (part_from term 0))) r × (r.stands ≡ stands.Going → ⊥) × (r.visits ≡ visits_here table term)

-- the same where no book is given, and what it gives in a room for bodies
abbrev pub walked_here : List ℕ → List ℕ → Walked
walked_here table term = walk_from (no_book (root_count (part_from term 0))) table 0 (root_part (part_from term 0))

unfoldable pub walked_gives : ℕ → Walked → ℕ → MatchTreeOutcome
walked_gives room w visits = rule_gives room (walked_match w) (walked_rule room w) visits

-- the answer where no rule is found, or where its bodies have no room
abbrev pub FindsNone : Answer → ℕ → TreeMatch → Type 0
FindsNone a visits r = (r.answer ≡ a) × (r.rule ≡ 0) × (r.aside ≡ 0) × (r.visits ≡ visits)

-- ---- the body of a part in a lent slice, zeros after it; none where there is no room for it
unfoldable pub PartWritten : ℕ → List ℕ → List ℕ → List ℕ → List ℕ → StdOption ℕ → Type 0
PartWritten d ys ws out done (Some n) =
    (b : Row) × (body_of d ys ws ≡ some b) × (n ≡ length (words b)) × (n ≤ length out) × (n ≤ length ws) × (done ≡ words b ++ replicate (length out - n) 0)
PartWritten d ys ws out done None = (b : Row) → body_of d ys ws ≡ some b → length out < length (words b)

-- the bodies of a Leaf: true where they have room
unfoldable pub LeafWritten : List ℕ → List ℕ → Walk → ℕ → List ℕ → List ℕ → Bool → Type 0
LeafWritten table term s room bodies lengths r =
    let vars = get_or table (s.at + 2) 0 in
    let b = leaf_body (places_of term s) (leaf_in table s.at).variables in
    let m = fitted vars (leaf_in table s.at).aside b in
    (leb (length (body_list b 0 vars)) room ≡ r) × (pick r Done Short ≡ match_answer room m) × (bodies ≡ match_words room m) × (lengths ≡ match_lengths room m)
