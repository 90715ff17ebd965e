-- Document 01, "Walking": the walk over any list of words, whole or damaged. A Leaf holds what document 02's E2 adds to it.
use Rattle.std.specs.Prelude.{ℕ, zero, suc, ◌+◌, ◌*◌, ◌-◌, Bool, true, false, ◌&&◌, not, List, [], ◌∷◌, eqb, leb, ltb, length, get_or, take, drop}
use Rattle.std.proofs.Math.Option.{Option, none, some}
use Rattle.term.specs.Word.{word, count_of, pick}
use Rattle.term.specs.Row.{Row, nothing, node}
use Rattle.term.specs.Renumber.{good_list}
use Rattle.term.specs.Part.{is_some, same_o}
use Rattle.book.specs.Rule.{counted}
use Rattle.book.specs.Book.{Rule, rule_at}
use Rattle.fit.specs.Lowest.{Fitting}
use Rattle.tree.specs.Tree.{LeafVariable, counts_of, LeafNode}
use Rattle.tree.specs.Find.{PartAt, root_count, root_part, part_of, enter_part, body_for, leaf_fitting}

-- how a walk ends: no rule; a rule with the number of arguments set aside and its bodies, and how many variables it has; a damaged node at an address
pub data Walked : Type 0 where
  NoneFits : Walked
  RuleFits : Fitting → ℕ → Walked
  DamagedAt : ℕ → Walked

-- what a node says: the walk ends there, or goes on at an address with these places uncovered
pub data Next : Type 0 where
  Ends : Walked → Next
  Goes : ℕ → List PartAt → Next

-- the node at an address is damaged unless the test holds
abbrev pub unless : Bool → ℕ → Next → Next
unless true at next = next
unless false at next = Ends (DamagedAt at)

-- "the taken address isn't later and inside"
unfoldable pub go_to : List ℕ → ℕ → ℕ → List PartAt → Next
go_to table at to ps = unless (ltb at to && ltb to (length table)) at (Goes to ps)

-- ---- Leaf: rule, n, "after n, how many arguments are set aside", then for each variable the place, k, the list
abbrev pub variable_then : LeafVariable → Option (List LeafVariable) → Option (List LeafVariable)
variable_then v none = none
variable_then v (some vs) = some (v ∷ vs)

-- none where it runs past the table
unfoldable pub variables_in : ℕ → List ℕ → Option (List LeafVariable)
variables_in zero ws = some []
variables_in (suc n) [] = none
variables_in (suc n) (p ∷ []) = none
variables_in (suc n) (p ∷ k ∷ ws) = pick (leb k (length ws)) (variable_then (record { at = p; list = take k ws }) (variables_in n (drop k ws))) none

-- "a place isn't uncovered, .., k > 4, a list isn't distinct ids within 1..d, .. or one of its parts has no body"
unfoldable pub sound_variable : List PartAt → LeafVariable → Bool
sound_variable ps v =
    ltb v.at (length ps)
    && (leb (length v.list) 4
    && (good_list (part_of v.at ps).depth v.list
    && is_some (body_for ps v.at v.list)))

unfoldable pub sound_variables : List PartAt → List LeafVariable → Bool
sound_variables ps [] = true
sound_variables ps (v ∷ vs) = sound_variable ps v && sound_variables ps vs

-- the Leaf of a rule, where its variables were read
abbrev pub leaf_read : (rule aside : ℕ) → Option (List LeafVariable) → Option LeafNode
leaf_read rule aside none = none
leaf_read rule aside (some vs) = some (record { rule = rule; aside = aside; variables = vs })

abbrev pub leaf_with : (LeafNode → Bool) → ℕ → List PartAt → ℕ → Option LeafNode → Next
leaf_with fits at ps n none = Ends (DamagedAt at)
leaf_with fits at ps n (some leaf) =
    unless (sound_variables ps leaf.variables) at
    (unless (fits leaf) at
    (Ends (RuleFits (leaf_fitting ps leaf) n)))

unfoldable pub leaf_node : (LeafNode → Bool) → ℕ → List PartAt → List ℕ → Next
leaf_node fits at ps [] = Ends (DamagedAt at)
leaf_node fits at ps (rule ∷ []) = Ends (DamagedAt at)
leaf_node fits at ps (rule ∷ n ∷ []) = Ends (DamagedAt at)
leaf_node fits at ps (rule ∷ n ∷ aside ∷ ws) =
    unless (ltb rule 64) at (unless (leb n 16) at (leaf_with fits at ps n (leaf_read rule aside (variables_in n ws))))

-- ---- Switch: place, cases, (head word, address) each, default address
unfoldable pub is_word : ℕ → Row → Bool
is_word w nothing = false
is_word w (node h kids rest) = eqb w (word h)

-- "the first case whose head is the term's word there", by its address
unfoldable pub case_of : Row → ℕ → List ℕ → Option ℕ
case_of f zero ws = none
case_of f (suc more) [] = none
case_of f (suc more) (w ∷ []) = none
case_of f (suc more) (w ∷ to ∷ ws) = pick (is_word w f) (some to) (case_of f more ws)

-- "else the default"; "a case is taken at a place already entered"
abbrev pub case_next : List ℕ → ℕ → ℕ → List PartAt → ℕ → Option ℕ → Next
case_next table at n ps default none = go_to table at default ps
case_next table at n ps default (some to) = unless (not (part_of n ps).entered) at (go_to table at to (enter_part n ps))

unfoldable pub switch_node : List ℕ → ℕ → List PartAt → List ℕ → Next
switch_node table at ps [] = Ends (DamagedAt at)
switch_node table at ps (n ∷ []) = Ends (DamagedAt at)
switch_node table at ps (n ∷ cases ∷ ws) =
    unless (ltb n (length ps)) at
    (unless (ltb (2 * cases) (length ws)) at
    (case_next table at n ps (get_or ws (2 * cases) 0) (case_of (part_of n ps).part cases ws)))

-- ---- Closed: place, k, list, yes, no
unfoldable pub closed_node : List ℕ → ℕ → List PartAt → List ℕ → Next
closed_node table at ps [] = Ends (DamagedAt at)
closed_node table at ps (n ∷ []) = Ends (DamagedAt at)
closed_node table at ps (n ∷ k ∷ ws) =
    unless (ltb n (length ps)) at
    (unless (leb k 4) at
    (unless (ltb (k + 1) (length ws)) at
    (unless (good_list (part_of n ps).depth (take k ws)) at
    (go_to table at (pick (is_some (body_for ps n (take k ws))) (get_or ws k 0) (get_or ws (k + 1) 0)) ps))))

-- ---- Same: place, place, k, list, list, yes, no
unfoldable pub same_node : List ℕ → ℕ → List PartAt → List ℕ → Next
same_node table at ps [] = Ends (DamagedAt at)
same_node table at ps (n ∷ []) = Ends (DamagedAt at)
same_node table at ps (n ∷ m ∷ []) = Ends (DamagedAt at)
same_node table at ps (n ∷ m ∷ k ∷ ws) =
    unless (ltb n (length ps)) at
    (unless (ltb m (length ps)) at
    (unless (leb k 4) at
    (unless (ltb (k + k + 1) (length ws)) at
    (unless (good_list (part_of n ps).depth (take k ws)) at
    (unless (good_list (part_of m ps).depth (take k (drop k ws))) at
    (go_to table at
    (pick (same_o (body_for ps n (take k ws)) (body_for ps m (take k (drop k ws)))) (get_or ws (k + k) 0) (get_or ws (k + k + 1) 0)) ps))))))

-- ---- a node: "its tag isn't 0..4, it runs past the table"
unfoldable pub node_at : (LeafNode → Bool) → List ℕ → ℕ → List PartAt → List ℕ → Next
node_at fits table at ps [] = Ends (DamagedAt at)
node_at fits table at ps (tag ∷ ws) =
    pick (eqb tag 0) (Ends NoneFits)
    (pick (eqb tag 1) (leaf_node fits at ps ws)
    (pick (eqb tag 2) (switch_node table at ps ws)
    (pick (eqb tag 3) (closed_node table at ps ws)
    (pick (eqb tag 4) (same_node table at ps ws)
    (Ends (DamagedAt at))))))

unfoldable pub next_at : (LeafNode → Bool) → List ℕ → ℕ → List PartAt → Next
next_at fits table at ps = node_at fits table at ps (drop at table)

-- ---- "The walk begins at 0 and carries the places uncovered so far from node to node."
abbrev pub follow : (ℕ → List PartAt → Walked) → Next → Walked
follow go (Ends w) = w
follow go (Goes to ps) = go to ps

-- each address is later, so there are as many nodes at most as words after it
unfoldable pub walk_by : ℕ → (LeafNode → Bool) → List ℕ → ℕ → List PartAt → Walked
walk_by zero fits table at ps = DamagedAt at
walk_by (suc n) fits table at ps = follow (walk_by n fits table) (next_at fits table at ps)

unfoldable pub walk_from : (LeafNode → Bool) → List ℕ → ℕ → List PartAt → Walked
walk_from fits table at ps = walk_by (suc (length table - at)) fits table at ps

-- a table longer than 16,384 words is damaged at 16,384; what is asked of a Leaf is asked by the root's count
unfoldable pub walk : (ℕ → LeafNode → Bool) → List ℕ → Row → Walked
walk fits table t = pick (leb (length table) 16384) (walk_from (fits (root_count t)) table 0 (root_part t)) (DamagedAt 16384)

-- ---- document 02, E7: "the number of nodes the walk visited, the last node included"; nothing that is asked of a Leaf changes it
abbrev pub visits_after : (ℕ → List PartAt → ℕ) → Next → ℕ
visits_after go (Ends w) = 0
visits_after go (Goes to ps) = go to ps

unfoldable pub visits_by : ℕ → List ℕ → ℕ → List PartAt → ℕ
visits_by zero table at ps = 0
visits_by (suc n) table at ps = suc (visits_after (visits_by n table) (next_at (λ leaf. true) table at ps))

unfoldable pub visits_from : List ℕ → ℕ → List PartAt → ℕ
visits_from table at ps = visits_by (suc (length table - at)) table at ps

-- a table longer than 16,384 words is not walked
unfoldable pub visits : List ℕ → Row → ℕ
visits table t = pick (leb (length table) 16384) (visits_from table 0 (root_part t)) 0

-- ---- "Where a book is given too, a Leaf whose rule, n or counts don't fit it is damaged", and "with a book any other number than a−b"
unfoldable pub counts_fit : List ℕ → ℕ → List ℕ → Bool
counts_fit left x [] = true
counts_fit left x (k ∷ ks) = eqb (counted x left) (suc k) && counts_fit left (suc x) ks

-- how many arguments the root of a left side has: what its first word counts
abbrev pub left_count : List ℕ → ℕ
left_count left = count_of (get_or left 0 0)

abbrev pub rule_fits : Option Rule → ℕ → LeafNode → Bool
rule_fits none a leaf = false
rule_fits (some rule) a leaf =
    eqb (length leaf.variables) rule.vars && (eqb (leaf.aside + left_count rule.left) a && counts_fit rule.left 0 (counts_of leaf.variables))

unfoldable pub book_fits : List ℕ → ℕ → LeafNode → Bool
book_fits book a leaf = rule_fits (rule_at book leaf.rule) a leaf

-- no book is given: "more than the root's count .. is damage"
unfoldable pub no_book : ℕ → LeafNode → Bool
no_book a leaf = leb leaf.aside a
