-- What the walk over a left side and a term tells, and what its table of first occurrences says.
use Rattle.std.specs.Prelude.{ℕ, suc, ◌+◌, ◌-◌, ◌*◌, ◌≤◌, ◌<◌, ◌≡◌, Bool, true, false, ◌&&◌, ◌||◌, List, [], ◌∷◌, ◌++◌, eqb, leb, length, take, drop, get_or, set, replicate, Option as StdOption, Some, None}
use Rattle.std.proofs.Math.Option.{Option, none, some}
use Rattle.term.specs.Word.{symbol, abstraction, variable, pattern, pick, count, kind_of, count_of, ident_of, InTable}
use Rattle.term.specs.Row.{Row, nothing, node, width, words, ranks, nesting, Formed}
use Rattle.term.specs.Renumber.{GoodList}
use Rattle.term.specs.Part.{body_of, same_words, part_end}
use Rattle.term.specs.Answer.{answered}
use Rattle.book.specs.Rule.{ids_of, root_symbol}
use Rattle.fit.specs.declared.fitting.First.{First}
use Rattle.fit.specs.declared.rules.RuleMatch.{RuleMatch}
use Rattle.fit.specs.Left.{left_of, occurs}
use Rattle.fit.specs.Fit.{Found, found, body_in, all_same}
use Rattle.fit.specs.Front.{root_arguments, aside, matching_front}
use Rattle.fit.specs.Match.{body_list, fitted, fitted_o, match_words, match_lengths, match_rule_came, matched_came}
use Rattle.book.specs.Told.Ids.{list_in}

-- ---- a row of a left side, in the words of a book
unfoldable pub LeftRow : ℕ → ℕ → Row → Type 0
LeftRow vars d nothing = Unit {0}
LeftRow vars d (node (symbol i c) kids rest) = InTable (symbol i c) × (width kids ≡ c) × LeftRow vars d kids × LeftRow vars d rest
LeftRow vars d (node abstraction kids rest) = (width kids ≡ 1) × LeftRow vars (suc d) kids × LeftRow vars d rest
LeftRow vars d (node (variable i) kids rest) = ⊥
LeftRow vars d (node (pattern x c) kids rest) =
    InTable (pattern x c) × (x < vars) × (width kids ≡ c) × Formed kids × ((ys : List ℕ) × (ids_of kids ≡ some ys) × GoodList d ys) × LeftRow vars d rest

pub record LeftStands (vars d levels count : ℕ) (left : List ℕ) (at : ℕ) (p : Row) (after : List ℕ) : Type 0 where
  pub good : LeftRow vars d p
  pub low : nesting p ≤ levels
  pub wide : width p ≡ count
  pub same : drop at left ≡ words p ++ after

pub record TermStands (count : ℕ) (term : List ℕ) (at : ℕ) (t : Row) (after : List ℕ) : Type 0 where
  pub formed : Formed t
  pub few : ranks t ≤ 2
  pub low : nesting t ≤ 64
  pub wide : width t ≡ count
  pub same : drop at term ≡ words t ++ after

-- ---- the table: for each variable, one more than the offset of its first part, the offset of its word, its depth
abbrev pub slot : List ℕ → ℕ → ℕ → ℕ
slot table x i = get_or table (3 * x + i) 0

unfoldable pub present : ℕ → Found → Bool
present x [] = false
present x (p ∷ l) = eqb x p.0 || present x l

pub record Seen (left term table : List ℕ) (l : Found) (x at : ℕ) : Type 0 where
  pub list : List ℕ
  pub listed : list_in (count_of (get_or left (slot table x 1) 0)) (drop (slot table x 1 + 1) left) ≡ some list
  pub within : slot table x 1 < length left
  pub inside : at ≤ length term
  pub body : body_of (slot table x 2) list (drop at term) ≡ some (body_in l x)
  pub here : present x l ≡ true

pub record Knows (left term table : List ℕ) (l : Found) : Type 0 where
  pub size : length table ≡ 48
  pub new : (x : ℕ) → x < 16 → slot table x 0 ≡ 0 → present x l ≡ false
  pub seen : (x at : ℕ) → x < 16 → slot table x 0 ≡ suc at → Seen left term table l x at

-- a variable's first occurrence as the table has it; one that lies outside the words was never met
pub record FirstIs (left term table : List ℕ) (x : ℕ) (first : First) : Type 0 where
  pub met : slot table x 0 ≡ suc first.at
  pub inside : first.at ≤ length term
  pub passed : first.depth ≡ slot table x 2
  pub listed : list_in (count_of (get_or left (slot table x 1) 0)) (drop (slot table x 1 + 1) left) ≡ some (take first.k first.ids)
  pub four : length first.ids ≡ 4
  pub few : first.k ≤ 4

unfoldable pub FirstTold : List ℕ → List ℕ → List ℕ → ℕ → StdOption First → Type 0
FirstTold left term table x (Some first) = FirstIs left term table x first
FirstTold left term table x None = (l : Found) → Knows left term table l → present x l ≡ false

-- the table after a variable's first occurrence
abbrev pub recorded : List ℕ → ℕ → ℕ → ℕ → ℕ → List ℕ
recorded table x part word depth = set (set (set table (3 * x) part) (3 * x + 1) word) (3 * x + 2) depth

-- whether a part with this list has the body of its variable's first occurrence
unfoldable pub FirstSame : List ℕ → List ℕ → List ℕ → ℕ → ℕ → List ℕ → ℕ → Bool → Type 0
FirstSame left term table x d ys to r =
    (l : Found) (b : Row) → Knows left term table l → present x l ≡ true → body_of d ys (drop to term) ≡ some b → r ≡ same_words (words (body_in l x)) (words b)

-- ---- what is found after l, where each body is that of its variable's first occurrence
abbrev pub agreed_from : Found → Option Found → Option Found
agreed_from l none = none
agreed_from l (some k) = pick (all_same (l ++ k) k) (some k) none

-- the offsets after a row of the left side and after its row of the term
abbrev pub Offsets : Type 0
Offsets = StdOption (ℕ × ℕ)

unfoldable pub FitTold : ℕ → ℕ → ℕ → ℕ → List ℕ → ℕ → List ℕ → ℕ → List ℕ → List ℕ → Offsets → Type 0
FitTold vars d levels count left at term to table done (Some (a, b)) =
    (p : Row) (after : List ℕ) (t : Row) (beyond : List ℕ) (l : Found)
    → LeftStands vars d levels count left at p after → TermStands count term to t beyond → Knows left term table l
    → (k : Found) × (agreed_from l (found d (left_of p) t) ≡ some k) × Knows left term done (l ++ k) × (a ≡ at + length (words p)) × (b ≡ to + length (words t))
FitTold vars d levels count left at term to table done None =
    (p : Row) (after : List ℕ) (t : Row) (beyond : List ℕ) (l : Found)
    → LeftStands vars d levels count left at p after → TermStands count term to t beyond → Knows left term table l
    → agreed_from l (found d (left_of p) t) ≡ none

-- the same of one pattern variable, which asks for no level
abbrev pub VariableTold : ℕ → ℕ → List ℕ → ℕ → List ℕ → ℕ → List ℕ → List ℕ → Offsets → Type 0
VariableTold vars d left at term to table done r = (levels : ℕ) → FitTold vars d levels 1 left at term to table done r

-- the same once its list was read: the part has a body, and shares it with the first occurrence of its variable
abbrev pub shared_ends : List ℕ → ℕ → List ℕ → ℕ → Bool → Offsets
shared_ends left at term to true = Some (at + 1 + count_of (get_or left at 0), to + part_end (drop to term))
shared_ends left at term to false = None

pub record SharesTold (d : ℕ) (left : List ℕ) (at : ℕ) (term : List ℕ) (to : ℕ) (ys table done : List ℕ) (r : Bool) : Type 0 where
  pub inside : r ≡ true → part_end (drop to term) ≤ length (drop to term)
  pub told : (vars : ℕ) → vars ≤ 16 → list_in (count_of (get_or left at 0)) (drop (at + 1) left) ≡ some ys
      → VariableTold vars d left at term to table done (shared_ends left at term to r)

-- ---- the bodies of the variables, in order, as the table has them
-- the body of one variable in a lent slice, zeros after it; none where there is no room for it
unfoldable pub FirstWritten : List ℕ → List ℕ → List ℕ → ℕ → List ℕ → List ℕ → StdOption ℕ → Type 0
FirstWritten left term table x out done (Some n) =
    (n ≤ length out) × (n ≤ length term)
    × ((l : Found) → Knows left term table l → present x l ≡ true → (n ≡ length (words (body_in l x))) × (done ≡ words (body_in l x) ++ replicate (length out - n) 0))
FirstWritten left term table x out done None = (l : Found) → Knows left term table l → present x l ≡ true → length out < length (words (body_in l x))

-- the bodies of all variables and their lengths, and whether there is room for them
unfoldable pub BodiesTold : ℕ → List ℕ → List ℕ → List ℕ → ℕ → List ℕ → List ℕ → Bool → Type 0
BodiesTold vars left term table room bodies lengths r =
    (l : Found) → Knows left term table l → ((x : ℕ) → x < vars → present x l ≡ true) → (n : ℕ)
    → (leb (length (body_list (body_in l) 0 vars)) room ≡ r) × (bodies ≡ match_words room (fitted vars n (body_in l))) × (lengths ≡ match_lengths room (fitted vars n (body_in l)))

-- the second word is the symbol of the first, with no fewer arguments
abbrev pub covered_word : ℕ → ℕ → Bool
covered_word w v = eqb (kind_of v) 0 && (eqb (ident_of w) (ident_of v) && leb (count_of w) (count_of v))

-- one rule over one term
unfoldable pub RuleTold : ℕ → List ℕ → List ℕ → ℕ → List ℕ → List ℕ → RuleMatch → Type 0
RuleTold vars left term room bodies lengths r =
    (p t : Row) → LeftStands vars 0 16 1 left 0 p [] → root_symbol p ≡ true → TermStands 1 term 0 t [] → ((x : ℕ) → x < vars → occurs x (left_of p) ≡ true)
    → match_rule_came (answered r.answer) r.aside bodies lengths ≡ matched_came room (fitted_o vars (aside (root_arguments (left_of p)) t) (matching_front (left_of p) t))
