-- The first row that fits, seen from a path: a case, the default, yes and no keep it.
use mathlib.Core.Path.{◌≡◌, refl, ap, ◌∙◌}
use mathlib.Core.Bool.{Bool, true, false, ◌&&◌}
use mathlib.Core.List.{List, [], ◌∷◌}
use mathlib.Core.Option.{Option, none, some}
use Prim.Native.Nat.{ℕ, ◌<◌}
use native.Mathlib.Omega.{arith}
use lib.Dec.{eqb, ltb}
use borrow.Author.Tests.{eqb-true}
use Rattle.term.specs.Word.{Head, word, count, pick, InTable}
use Rattle.term.specs.Row.{Row, nothing}
use Rattle.term.proofs.Laws.{never}
use Rattle.fit.specs.Left.{Left, part, wide}
use Rattle.fit.specs.Constraint.{Place, tree_at, is_head, Occurrence, occurrences, first_of, Constraint, constraints}
use Rattle.fit.specs.Lowest.{Fitting}
use Rattle.fit.proofs.Laws.{IsThere, Names, EachNames}
use Rattle.tree.specs.Told.Covered.{Covered}
use Rattle.tree.specs.Path.{Uncovered, OnPath, place_numbered, enter}
use Rattle.tree.specs.Rows.{RuleRow, subs_under, sub_at, head_here, head_at, has, unstruck, constraints_left}
use Rattle.tree.specs.Compile.{without, add_head, heads, in_case, case_rows, in_default, default_rows, entering, holding, rows_without}
use Rattle.tree.specs.Find.{body_or}
use Rattle.tree.proofs.Basics.{and_false, other_head, same_head}
use Rattle.tree.proofs.Subs.{from_start, subs_root, head_sub, head_headed, Full, full_at}
use Rattle.tree.proofs.Parts.{body_there}
use Rattle.tree.proofs.Fits.{open_fits, entered_of, open_split, other_fits, enter_none_fits, enter_some_fits}
use Rattle.tree.proofs.Holds.{holds_in, all_in, ListIs, strike_in, has_fails, names_unstruck}
use Rattle.tree.proofs.Covers.{enter_covered}

-- what is known of a row on a path
pub record Live (us : List Uncovered) (row : RuleRow) : Type 0 where
  pub full : Full row.left
  pub covered : Covered us [] 0 row.left
  pub lists : EachNames ListIs (constraints row.left)
  pub there : (x : ℕ) → x < row.vars → IsThere (first_of x (occurrences [] 0 0 row.left))

abbrev pub AllLive : List Uncovered → List RuleRow → Type 0
AllLive us [] = Unit {0}
AllLive us (row ∷ rows) = Live us row × AllLive us rows

-- what a row asks of a term
unfoldable pub row_fits : Row → OnPath → RuleRow → Bool
row_fits t path row = open_fits t row.left path.uncovered && all_in t (constraints_left path row)

-- the bodies at the first occurrences of its variables
abbrev pub first_body : Row → Option Occurrence → Row
first_body t none = nothing
first_body t (some o) = body_or (body_there t o.place o.list)

unfoldable pub row_bodies : Row → RuleRow → ℕ → Row
row_bodies t row x = pick (ltb x row.vars) (first_body t (first_of x (occurrences [] 0 0 row.left))) nothing

abbrev pub or_first : Bool → Fitting → Option Fitting → Option Fitting
or_first true f o = some f
or_first false f o = o

abbrev pub fitting : Row → RuleRow → Fitting
fitting t row = record { number = row.number; aside = row.aside; bodies = row_bodies t row }

unfoldable pub first_fit : Row → OnPath → List RuleRow → Option Fitting
first_fit t path [] = none
first_fit t path (row ∷ rows) = or_first (row_fits t path row) (fitting t row) (first_fit t path rows)

-- ---- a case
case_count : (left : Left) → Full left → (h : Head) → InTable h → (p : Place) → in_case (head_at left p) h ≡ true → (g : Head) (kids rest : Left) → sub_at left p ≡ part g kids rest → wide kids ≡ count h
case_count left f h i p b g kids rest e =
    let w : Full (part g kids rest) = rw e at (full_at left p f) in
    let s : head_at left p ≡ some g = head_sub left p ∙ ap head_here e in
    let z : eqb (word g) (word h) ≡ true = rw s at b in
    w.1 ∙ ap count (same_head g h w.0 i (eqb-true (word g) (word h) z))

pub live_entered : (us : List Uncovered) (n : ℕ) (h : Head) → InTable h → (row : RuleRow) → Live us row → in_case (head_at row.left (place_numbered n us)) h ≡ true → Live (enter n (count h) us) row
live_entered us n h i row l b =
    record {
      full = l.full;
      covered = enter_covered row.left us n (count h) (λ g kids rest z. omega (arith, case_count row.left l.full h i (place_numbered n us) b g kids rest z)) [] 0 row.left (from_start (subs_under row.left []) ∙ subs_root row.left) l.covered;
      lists = l.lists;
      there = l.there;
    }

pub live_case : (us : List Uncovered) (n : ℕ) (h : Head) → InTable h → (rows : List RuleRow) → AllLive us rows → AllLive (enter n (count h) us) (case_rows (place_numbered n us) h rows)
unfolding case_rows
live_case us n h i [] a = tt
live_case us n h i (row ∷ rows) a = go (in_case (head_at row.left (place_numbered n us)) h) refl (live_case us n h i rows a.1)
  where
    go : (b : Bool) → in_case (head_at row.left (place_numbered n us)) h ≡ b → AllLive (enter n (count h) us) (case_rows (place_numbered n us) h rows)
        → AllLive (enter n (count h) us) (pick b (row ∷ case_rows (place_numbered n us) h rows) (case_rows (place_numbered n us) h rows))
    go true e r = (live_entered us n h i row a.0 e, r)
    go false e r = r

module _ (t : Row) (path : OnPath) (n : ℕ) (new : entered_of n path.uncovered ≡ false) where
  misfit : (row : RuleRow) → Live path.uncovered row → (g : Head) → head_at row.left (place_numbered n path.uncovered) ≡ some g → is_head g (tree_at t (place_numbered n path.uncovered)) ≡ false
      → InTable g → row_fits t path row ≡ false
  unfolding row_fits
  misfit row l g e b i =
      rw (open_split t row.left path.uncovered n new, other_fits t row.left l.full g i (place_numbered n path.uncovered) g e b)

  module _ (h : Head) (i : InTable h) (here : is_head h (tree_at t (place_numbered n path.uncovered)) ≡ true) where
    pub case_open : (row : RuleRow) → Live path.uncovered row → (o : Option Head) → head_at row.left (place_numbered n path.uncovered) ≡ o → in_case o h ≡ true
        → open_fits t row.left (enter n (count h) path.uncovered) ≡ open_fits t row.left path.uncovered
    case_open row l none e b = enter_none_fits t row.left l.full h i path.uncovered n (count h) new here e
    case_open row l (some g) e b = enter_some_fits t row.left l.full h i path.uncovered n new here g e (eqb-true (word g) (word h) b)

    pub case_fits : (row : RuleRow) → Live path.uncovered row → in_case (head_at row.left (place_numbered n path.uncovered)) h ≡ true → row_fits t (entering n h path) row ≡ row_fits t path row
    unfolding row_fits entering constraints_left
    case_fits row l b = rw (case_open row l (head_at row.left (place_numbered n path.uncovered)) refl b)

    case_misfit : (row : RuleRow) → Live path.uncovered row → (o : Option Head) → head_at row.left (place_numbered n path.uncovered) ≡ o → in_case o h ≡ false → row_fits t path row ≡ false
    case_misfit row l none e b = never (cc)
    case_misfit row l (some g) e b =
        let x = head_headed row.left (place_numbered n path.uncovered) g e in
        let w : Full (part g x.kids x.rest) = rw x.is at (full_at row.left (place_numbered n path.uncovered) l.full) in
        misfit row l g e (other_head g h (tree_at t (place_numbered n path.uncovered)) here ∙ b) w.0

    pub first_case : (rows : List RuleRow) → AllLive path.uncovered rows → first_fit t (entering n h path) (case_rows (place_numbered n path.uncovered) h rows) ≡ first_fit t path rows
    unfolding first_fit case_rows
    first_case [] a = refl
    first_case (row ∷ rows) a = go (in_case (head_at row.left (place_numbered n path.uncovered)) h) refl (first_case rows a.1)
      where
        go : (b : Bool) → in_case (head_at row.left (place_numbered n path.uncovered)) h ≡ b → first_fit t (entering n h path) (case_rows (place_numbered n path.uncovered) h rows) ≡ first_fit t path rows
            → first_fit t (entering n h path) (pick b (row ∷ case_rows (place_numbered n path.uncovered) h rows) (case_rows (place_numbered n path.uncovered) h rows)) ≡ or_first (row_fits t path row) (fitting t row) (first_fit t path rows)
        go true e r = rw (case_fits row a.0 e, r)
        go false e r = rw (case_misfit row a.0 (head_at row.left (place_numbered n path.uncovered)) refl e) r

-- ---- the default
abbrev pub NoHead : List Head → Row → Type 0
NoHead [] f = Unit {0}
NoHead (h ∷ hs) f = (is_head h f ≡ false) × NoHead hs f

same_misses : (h g : Head) (f : Row) → is_head h f ≡ false → eqb (word h) (word g) ≡ true → is_head g f ≡ false
same_misses h g f e s = go (is_head g f) refl
  where
    go : (b : Bool) → is_head g f ≡ b → b ≡ false
    go false q = refl
    go true q = never (let z : is_head h f ≡ true = other_head h g f q ∙ s in cc)

no_head_with : (h : Head) (f : Row) → is_head h f ≡ false → (hs : List Head) → NoHead (without h hs) f → NoHead hs f
unfolding without
no_head_with h f e [] n = tt
no_head_with h f e (g ∷ gs) n = go (eqb (word h) (word g)) refl n (no_head_with h f e gs)
  where
    go : (b : Bool) → eqb (word h) (word g) ≡ b → NoHead (pick b (without h gs) (g ∷ without h gs)) f → (NoHead (without h gs) f → NoHead gs f) → NoHead (g ∷ gs) f
    go true q m r = (same_misses h g f e q, r m)
    go false q m r = (m.0, r m.1)

pub live_default : (us : List Uncovered) (p : Place) (rows : List RuleRow) → AllLive us rows → AllLive us (default_rows p rows)
unfolding default_rows
live_default us p [] a = tt
live_default us p (row ∷ rows) a = go (in_default (head_at row.left p)) (live_default us p rows a.1)
  where
    go : (b : Bool) → AllLive us (default_rows p rows) → AllLive us (pick b (row ∷ default_rows p rows) (default_rows p rows))
    go true r = (a.0, r)
    go false r = r

module _ (t : Row) (path : OnPath) (n : ℕ) (new : entered_of n path.uncovered ≡ false) where
  default_step : (row : RuleRow) → Live path.uncovered row → (rows : List RuleRow) (hs : List Head) (o : Option Head) → head_at row.left (place_numbered n path.uncovered) ≡ o
      → NoHead (add_head o hs) (tree_at t (place_numbered n path.uncovered)) → (NoHead hs (tree_at t (place_numbered n path.uncovered)) → first_fit t path (default_rows (place_numbered n path.uncovered) rows) ≡ first_fit t path rows)
      → first_fit t path (pick (in_default o) (row ∷ default_rows (place_numbered n path.uncovered) rows) (default_rows (place_numbered n path.uncovered) rows)) ≡ or_first (row_fits t path row) (fitting t row) (first_fit t path rows)
  unfolding first_fit
  default_step row l rows hs none e m r = rw (r m)
  default_step row l rows hs (some g) e m r =
      let x = head_headed row.left (place_numbered n path.uncovered) g e in
      let w : Full (part g x.kids x.rest) = rw x.is at (full_at row.left (place_numbered n path.uncovered) l.full) in
      rw (misfit t path n new row l g e m.0 w.0) (r (no_head_with g (tree_at t (place_numbered n path.uncovered)) m.0 hs m.1))

  pub first_default : (rows : List RuleRow) → AllLive path.uncovered rows → NoHead (heads (place_numbered n path.uncovered) rows) (tree_at t (place_numbered n path.uncovered))
      → first_fit t path (default_rows (place_numbered n path.uncovered) rows) ≡ first_fit t path rows
  unfolding first_fit default_rows heads
  first_default [] a m = refl
  first_default (row ∷ rows) a m =
      default_step row a.0 rows (heads (place_numbered n path.uncovered) rows) (head_at row.left (place_numbered n path.uncovered)) refl m (first_default rows a.1)

-- ---- yes
pub yes_row : (t : Row) (path : OnPath) (c : Constraint) → Names ListIs c → holds_in t c ≡ true → (row : RuleRow) → Live path.uncovered row → row_fits t (holding c path) row ≡ row_fits t path row
unfolding row_fits holding constraints_left
yes_row t path c n h row l = ap (open_fits t row.left path.uncovered &&◌) (strike_in t c n path.held h (constraints row.left) l.lists)

pub first_yes : (t : Row) (path : OnPath) (c : Constraint) → Names ListIs c → holds_in t c ≡ true → (rows : List RuleRow) → AllLive path.uncovered rows → first_fit t (holding c path) rows ≡ first_fit t path rows
unfolding first_fit
first_yes t path c n h [] a = refl
first_yes t path c n h (row ∷ rows) a = rw (yes_row t path c n h row a.0, first_yes t path c n h rows a.1)

-- ---- no
pub live_without : (us : List Uncovered) (c : Constraint) (path : OnPath) (rows : List RuleRow) → AllLive us rows → AllLive us (rows_without c path rows)
unfolding rows_without
live_without us c path [] a = tt
live_without us c path (row ∷ rows) a = go (has c (constraints_left path row)) (live_without us c path rows a.1)
  where
    go : (b : Bool) → AllLive us (rows_without c path rows) → AllLive us (pick b (rows_without c path rows) (row ∷ rows_without c path rows))
    go true r = r
    go false r = (a.0, r)

no_row : (t : Row) (path : OnPath) (c : Constraint) → Names ListIs c → holds_in t c ≡ false → (row : RuleRow) → Live path.uncovered row → has c (constraints_left path row) ≡ true → row_fits t path row ≡ false
unfolding row_fits constraints_left
no_row t path c n h row l e =
    rw (has_fails t c n h (unstruck path.held (constraints row.left)) (names_unstruck ListIs path.held (constraints row.left) l.lists) e)
    (and_false (open_fits t row.left path.uncovered))

pub first_no : (t : Row) (path : OnPath) (c : Constraint) → Names ListIs c → holds_in t c ≡ false → (rows : List RuleRow) → AllLive path.uncovered rows
    → first_fit t path (rows_without c path rows) ≡ first_fit t path rows
unfolding first_fit rows_without
first_no t path c n h [] a = refl
first_no t path c n h (row ∷ rows) a = go (has c (constraints_left path row)) refl (first_no t path c n h rows a.1)
  where
    go : (b : Bool) → has c (constraints_left path row) ≡ b → first_fit t path (rows_without c path rows) ≡ first_fit t path rows
        → first_fit t path (pick b (rows_without c path rows) (row ∷ rows_without c path rows)) ≡ or_first (row_fits t path row) (fitting t row) (first_fit t path rows)
    go true e r = rw (no_row t path c n h row a.0 e) r
    go false e r = rw r
