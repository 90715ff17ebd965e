-- Document 001, section 2.1: "Matching a term t against a pattern p whose bound variables are in the set V, written p ⪯_V t". Its four rules, beside their text, with the two readings that document 01 fixes.
-- Patterns are left sides, and terms are rows: a row is the tuple (t1 … tn), and so is a left side. V are the d abstractions passed inside the left side, 1 the innermost.
use Rattle.std.specs.Prelude.{ℕ, suc, ◌-◌, ◌≤◌, ◌≡◌, List, [], ◌∷◌, ◌++◌, ltb}
use Rattle.std.proofs.Math.Option.{Option, some}
use Rattle.term.specs.Word.{Head, symbol, abstraction, variable, pattern, pick}
use Rattle.term.specs.Row.{Row, nothing, node}
use Rattle.term.specs.Renumber.{position, inside, to_body}
use Rattle.fit.specs.Left.{Left, end, hole, part}
use Rattle.fit.specs.Fit.{Fits}
use Rattle.fit.specs.Match.{tree_of}

-- ---- FV(t): what a row names outside itself, counted from where it stands. Under e abstractions of its own, an id above e is free.
abbrev pub free_head : ℕ → Head → List ℕ
free_head e (symbol i c) = []
free_head e abstraction = []
free_head e (variable i) = pick (ltb e i) ((i - e) ∷ []) []
free_head e (pattern i c) = []

unfoldable pub free : ℕ → Row → List ℕ
free e nothing = []
free e (node h kids rest) = free_head e h ++ (free (inside h e) kids ++ free e rest)

-- y is in the list
abbrev pub In : ℕ → List ℕ → Type 0
In y ys = 1 ≤ position y ys

-- "FV(t) ∩ V ⊆ {y}". Document 01: "Its prose for BinCl drops the set V; here only the abstractions passed inside the left side count, as in (MatchFv)": those are 1..d, and a free id above d counts for nothing.
unfoldable pub Within : (d : ℕ) (ys fv : List ℕ) → Type 0
Within d ys [] = Unit {0}
Within d ys (y ∷ fv) = (y ≤ d → In y ys) × Within d ys fv

-- ---- a pattern variable with its list, under d abstractions, over a term
pub record Met : Type 0 where
  pub var : ℕ
  pub depth : ℕ
  pub list : List ℕ
  pub term : Row

abbrev pub met : ℕ → ℕ → List ℕ → Row → Met
met x d ys t = record { var = x; depth = d; list = ys; term = t }

-- ---- (p1 … pn) ⪯_V (t1 … tn), with the pattern variables met, in prefix order
pub data Filters : ℕ → Left → Row → List Met → Type 0 where
  -- "(p1 … pn) ⪯_V (t1 … tn) iff ∀i, pi ⪯_V ti ∧ .." (MatchTuple): as many terms as patterns, each with its own. A tuple ends here, and each rule below has the rest of its tuple beside it.
  match_tuple : {d : ℕ} → Filters d end nothing []
  -- "$x[y] ⪯_V t iff FV(t) ∩ V ⊆ {y}" (MatchFv)
  match_fv : {d x : ℕ} {ys : List ℕ} {h : Head} {kids ts : Row} {ps : Left} {ms : List Met} → Within d ys (free 0 (node h kids nothing)) → Filters d ps ts ms
      → Filters d (hole x ys ps) (node h kids ts) (met x d ys (node h kids nothing) ∷ ms)
  -- "f p1 … pn ⪯_V f t1 … tn iff (p1 … pn) ⪯_V (t1 … tn)" (MatchSymb)
  match_symb : {d f n : ℕ} {qs ps : Left} {us ts : Row} {ls ms : List Met} → Filters d qs us ls → Filters d ps ts ms
      → Filters d (part (symbol f n) qs ps) (node (symbol f n) us ts) (ls ++ ms)
  -- "λy, p ⪯_V λy : A, t iff p ⪯_{V ∪ {y}} t" (MatchAbst)
  match_abst : {d : ℕ} {qs ps : Left} {us ts : Row} {ls ms : List Met} → Filters (suc d) qs us ls → Filters d ps ts ms
      → Filters d (part abstraction qs ps) (node abstraction us ts) (ls ++ ms)

-- ---- ".. ∧ ∀j, pi = pj ⇒ ti = tj" (MatchTuple). Document 01: "(MatchTuple) compares only neighbours in one tuple; here all occurrences of a variable in a left side share one body": pi = pj is one variable, anywhere in the left side, and ti = tj one body.
abbrev pub body_met : Met → Option Row
body_met m = to_body m.depth m.list m.term

abbrev pub EachMet : (Met → Type 0) → List Met → Type 0
EachMet P [] = Unit {0}
EachMet P (m ∷ ms) = P m × EachMet P ms

abbrev pub SameBody : Met → Met → Type 0
SameBody m n = m.var ≡ n.var → body_met m ≡ body_met n

abbrev pub OneBody : List Met → Type 0
OneBody ms = EachMet (λ m. EachMet (SameBody m) ms) ms

-- ---- the left side matches the term
pub record DeduktiMatches (left : Left) (t : Row) : Type 0 where
  pub mets : List Met
  pub filters : Filters 0 left t mets
  pub one : OneBody mets

-- each pattern variable was met with its body
abbrev pub Bodies : (ℕ → Row) → List Met → Type 0
Bodies b ms = EachMet (λ m. body_met m ≡ some (b m.var)) ms

-- ---- the rules hold exactly where some bodies fit, and the bodies are the same
pub record AsDedukti (vars : ℕ) (left : Left) (term : List ℕ) : Type 0 where
  pub matches : (b : ℕ → Row) → Fits vars left term b → (m : DeduktiMatches left (tree_of term)) × Bodies b m.mets
  pub fits : (m : DeduktiMatches left (tree_of term)) → (b : ℕ → Row) × Fits vars left term b × Bodies b m.mets
