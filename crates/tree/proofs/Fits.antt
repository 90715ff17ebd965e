-- What a row asks of a term, seen from a path: a Switch and a test keep the rows that fit.
use mathlib.Core.Path.{◌≡◌, refl, sym, ap, ◌∙◌}
use mathlib.Core.Bool.{Bool, true, false, ◌&&◌}
use mathlib.Core.List.{List, [], ◌∷◌, ◌++◌}
use mathlib.Core.Option.{Option, none, some}
use Prim.Native.Nat.{ℕ, zero, suc}
use borrow.Author.Tests.{eq-eqb}
use Rattle.term.specs.Word.{Head, word, count, pick, InTable}
use Rattle.term.specs.Row.{Row}
use Rattle.term.proofs.Laws.{never}
use Rattle.fit.specs.Left.{Left, end, hole, part, wide}
use Rattle.fit.specs.Constraint.{Place, tree_at, is_head, shape_fits}
use Rattle.fit.proofs.Laws.{at_root_lem, head_nothing, shape_end, shape_hole, shape_part, wide_end, wide_hole, wide_part}
use Rattle.tree.specs.Path.{Uncovered, place_numbered, children_from, marked, enter}
use Rattle.tree.specs.Rows.{sub, subs_under, sub_at, head_here, head_at, next_number, open_here, lowest_open}
use Rattle.tree.proofs.Basics.{and_assoc, and_swap, same_head, other_head}
use Rattle.tree.proofs.Subs.{subs_from, from_end, from_hole, from_part, from_start, sub_child, head_sub, head_headed, none_below, headed_below, root_unheaded, Full, full_at}

-- a sub-pattern fits the part at its place
unfoldable pub sub_fits : Row → Place → Left → Bool
sub_fits t p end = true
sub_fits t p (hole x ys rest) = true
sub_fits t p (part h kids rest) = is_head h (tree_at t p) && shape_fits t p 0 kids

-- the sub-patterns at the open places fit
unfoldable pub open_fits : Row → Left → List Uncovered → Bool
open_fits t left [] = true
open_fits t left (u ∷ us) = pick u.entered true (sub_fits t u.place (sub_at left u.place)) && open_fits t left us

-- whether the place of a number was entered; a number of no place counts as entered
unfoldable pub entered_of : ℕ → List Uncovered → Bool
entered_of n [] = true
entered_of zero (u ∷ us) = u.entered
entered_of (suc n) (u ∷ us) = entered_of n us

open_join : (t : Row) (left : Left) (us vs : List Uncovered) → open_fits t left (us ++ vs) ≡ open_fits t left us && open_fits t left vs
unfolding open_fits
open_join t left [] vs = refl
open_join t left (u ∷ us) vs =
    rw (open_join t left us vs) (sym (and_assoc (pick u.entered true (sub_fits t u.place (sub_at left u.place))) (open_fits t left us) (open_fits t left vs)))

-- an open place, and the others
pub open_split : (t : Row) (left : Left) (us : List Uncovered) (n : ℕ) → entered_of n us ≡ false
    → open_fits t left us ≡ sub_fits t (place_numbered n us) (sub_at left (place_numbered n us)) && open_fits t left (marked n us)
unfolding open_fits entered_of place_numbered marked
open_split t left [] n e = never (cc)
open_split t left (u ∷ us) zero e = rw e
open_split t left (u ∷ us) (suc n) e =
    rw (open_split t left us n e)
    (and_swap (pick u.entered true (sub_fits t u.place (sub_at left u.place))) (sub_fits t (place_numbered n us) (sub_at left (place_numbered n us))) (open_fits t left (marked n us)))

-- ---- the children of a place
sub_end : (t : Row) (p : Place) → sub_fits t p end ≡ true
unfolding sub_fits
sub_end t p = refl

pub sub_hole : (t : Row) (p : Place) (x : ℕ) (ys : List ℕ) (rest : Left) → sub_fits t p (hole x ys rest) ≡ true
unfolding sub_fits
sub_hole t p x ys rest = refl

pub sub_part : (t : Row) (p : Place) (h : Head) (kids rest : Left) → sub_fits t p (part h kids rest) ≡ is_head h (tree_at t p) && shape_fits t p 0 kids
unfolding sub_fits
sub_part t p h kids rest = refl

pub child_open : (t : Row) (left : Left) (p : Place) (i more : ℕ) → open_fits t left (children_from p i (suc more)) ≡ sub_fits t (i ∷ p) (sub (subs_under left p) i) && open_fits t left (children_from p (suc i) more)
unfolding open_fits children_from
child_open t left p i more = rw (sub_child left i p)

no_child_open : (t : Row) (left : Left) (p : Place) (i : ℕ) → open_fits t left (children_from p i 0) ≡ true
unfolding open_fits children_from
no_child_open t left p i = refl

pub children_open : (t : Row) (left : Left) (p : Place) (i : ℕ) (k : Left) → subs_from i (subs_under left p) ≡ k → shape_fits t p i k ≡ open_fits t left (children_from p i (wide k))
children_open t left p i end e = shape_end t p i ∙ sym (rw wide_end (no_child_open t left p i))
children_open t left p i (hole x ys rest) e =
    let a = from_hole (subs_under left p) i x ys rest e in
    rw (wide_hole x ys rest, child_open t left p i (wide rest), a.0, sub_hole t (i ∷ p) x ys end, shape_hole t p i x ys rest)
    (children_open t left p (suc i) rest a.1)
children_open t left p i (part h kids rest) e =
    let a = from_part (subs_under left p) i h kids rest e in
    rw (wide_part h kids rest, child_open t left p i (wide rest), a.0, sub_part t (i ∷ p) h kids end, shape_part t p i h kids rest, children_open t left p (suc i) rest a.1)

pub no_children_open : (t : Row) (left : Left) (p : Place) (i more : ℕ) → subs_from i (subs_under left p) ≡ end → open_fits t left (children_from p i more) ≡ true
no_children_open t left p i zero e = no_child_open t left p i
no_children_open t left p i (suc more) e =
    let a = from_end (subs_under left p) i e in
    rw (child_open t left p i more, a.0, sub_end t (i ∷ p)) (no_children_open t left p (suc i) more a.1)

-- ---- Switch: where the term has the head h at the place of a number
module _ (t : Row) (left : Left) (f : Full left) (h : Head) (i : InTable h) where
  unheaded_fits : (k : Left) (p : Place) → head_here k ≡ none → sub_fits t p k ≡ true
  unheaded_fits end p e = sub_end t p
  unheaded_fits (hole x ys rest) p e = sub_hole t p x ys rest
  unheaded_fits (part g kids rest) p e = never (cc)

  -- the row has no head there
  enter_none : (p : Place) → is_head h (tree_at t p) ≡ true → head_at left p ≡ none → (c : ℕ) → open_fits t left (children_from p 0 c) ≡ sub_fits t p (sub_at left p)
  enter_none [] e n c = never (let z = ap (is_head h) (at_root_lem t) in let y = head_nothing h in cc)
  enter_none (j ∷ q) e n c =
      no_children_open t left (j ∷ q) 0 c (from_start (subs_under left (j ∷ q)) ∙ none_below left j q n)
      ∙ sym (unheaded_fits (sub_at left (j ∷ q)) (j ∷ q) (sym (head_sub left (j ∷ q)) ∙ n))

  -- the row has a head with this word
  enter_some : (p : Place) → is_head h (tree_at t p) ≡ true → (g : Head) → head_at left p ≡ some g → word g ≡ word h
      → open_fits t left (children_from p 0 (count h)) ≡ sub_fits t p (sub_at left p)
  enter_some [] e g n z = never (let y = root_unheaded left in cc)
  enter_some (j ∷ q) e g n z =
      let x = head_headed left (j ∷ q) g n in
      let w : Full (part g x.kids x.rest) = rw x.is at (full_at left (j ∷ q) f) in
      let c : wide x.kids ≡ count h = w.1 ∙ ap count (same_head g h w.0 i z) in
      let o = children_open t left (j ∷ q) 0 x.kids (from_start (subs_under left (j ∷ q)) ∙ headed_below left j q g x) in
      let b : is_head g (tree_at t (j ∷ q)) ≡ true = other_head g h (tree_at t (j ∷ q)) e ∙ eq-eqb (word g) (word h) z in
      rw (x.is, sub_part t (j ∷ q) g x.kids x.rest, b, ← c) (sym o)

  -- the row has another head
  pub other_fits : (p : Place) (g : Head) → head_at left p ≡ some g → is_head g (tree_at t p) ≡ false → sub_fits t p (sub_at left p) ≡ false
  other_fits p g n b =
      let x = head_headed left p g n in
      rw (x.is, sub_part t p g x.kids x.rest, b)

  enter_open : (us : List Uncovered) (n c : ℕ) → entered_of n us ≡ false → open_fits t left (children_from (place_numbered n us) 0 c) ≡ sub_fits t (place_numbered n us) (sub_at left (place_numbered n us))
      → open_fits t left (enter n c us) ≡ open_fits t left us
  unfolding enter
  enter_open us n c e q =
      rw (open_join t left (marked n us) (children_from (place_numbered n us) 0 c), q, open_split t left us n e)
      (turned (open_fits t left (marked n us)) (sub_fits t (place_numbered n us) (sub_at left (place_numbered n us))))
    where
      turned : (a b : Bool) → a && b ≡ b && a
      turned true true = refl
      turned true false = refl
      turned false true = refl
      turned false false = refl

  pub enter_none_fits : (us : List Uncovered) (n c : ℕ) → entered_of n us ≡ false → is_head h (tree_at t (place_numbered n us)) ≡ true → head_at left (place_numbered n us) ≡ none
      → open_fits t left (enter n c us) ≡ open_fits t left us
  enter_none_fits us n c e b q = enter_open us n c e (enter_none (place_numbered n us) b q c)

  pub enter_some_fits : (us : List Uncovered) (n : ℕ) → entered_of n us ≡ false → is_head h (tree_at t (place_numbered n us)) ≡ true → (g : Head) → head_at left (place_numbered n us) ≡ some g → word g ≡ word h
      → open_fits t left (enter n (count h) us) ≡ open_fits t left us
  enter_some_fits us n e b g q z = enter_open us n (count h) e (enter_some (place_numbered n us) b g q z)

-- ---- the lowest open place with a symbol or abstraction
pub record OpenAt (left : Left) (us : List Uncovered) (n : ℕ) : Type 0 where
  pub new : entered_of n us ≡ false
  pub head : Head
  pub is : head_at left (place_numbered n us) ≡ some head

abbrev OpenO : Left → List Uncovered → Option ℕ → Type 0
OpenO left us none = Unit {0}
OpenO left us (some n) = OpenAt left us n

open_next : (left : Left) (u : Uncovered) (us : List Uncovered) (o : Option ℕ) → OpenO left us o → OpenO left (u ∷ us) (next_number o)
unfolding entered_of place_numbered
open_next left u us none a = tt
open_next left u us (some n) a = record { new = a.new; head = a.head; is = a.is }

open_step : (left : Left) (u : Uncovered) (us : List Uncovered) (b : Bool) → u.entered ≡ b → (h : Option Head) → head_at left u.place ≡ h → (o : Option ℕ) → OpenO left us o
    → OpenO left (u ∷ us) (open_here b h o)
unfolding entered_of place_numbered
open_step left u us true e h q o a = open_next left u us o a
open_step left u us false e none q o a = open_next left u us o a
open_step left u us false e (some h) q o a = record { new = e; head = h; is = q }

opens : (left : Left) (us : List Uncovered) → OpenO left us (lowest_open left us)
unfolding lowest_open
opens left [] = tt
opens left (u ∷ us) = open_step left u us u.entered refl (head_at left u.place) refl (lowest_open left us) (opens left us)

pub open_at : (left : Left) (us : List Uncovered) (n : ℕ) → lowest_open left us ≡ some n → OpenAt left us n
open_at left us n e = rw e at (opens left us)

-- none: only pattern variables are open
next_none : (o : Option ℕ) → next_number o ≡ none → o ≡ none
next_none none e = refl
next_none (some n) e = never (cc)

here_none : (b : Bool) (h : Option Head) (o : Option ℕ) → open_here b h o ≡ none → ((b ≡ false → h ≡ none)) × (o ≡ none)
here_none true h o e = (λ q. never (cc), next_none o e)
here_none false none o e = (λ q. refl, next_none o e)
here_none false (some h) o e = never (cc)

pub none_here : (left : Left) (u : Uncovered) (us : List Uncovered) → lowest_open left (u ∷ us) ≡ none → (u.entered ≡ false → head_at left u.place ≡ none) × (lowest_open left us ≡ none)
unfolding lowest_open
none_here left u us e = here_none u.entered (head_at left u.place) (lowest_open left us) e

sub_unheaded : (t : Row) (k : Left) (p : Place) → head_here k ≡ none → sub_fits t p k ≡ true
sub_unheaded t end p e = sub_end t p
sub_unheaded t (hole x ys rest) p e = sub_hole t p x ys rest
sub_unheaded t (part g kids rest) p e = never (cc)

pub variables_fit : (t : Row) (left : Left) (us : List Uncovered) → lowest_open left us ≡ none → open_fits t left us ≡ true
unfolding open_fits
variables_fit t left [] e = refl
variables_fit t left (u ∷ us) e =
    let a = none_here left u us e in
    rw (variables_fit t left us a.1) (go u.entered a.0)
  where
    go : (b : Bool) → (b ≡ false → head_at left u.place ≡ none) → pick b true (sub_fits t u.place (sub_at left u.place)) && true ≡ true
    go true q = refl
    go false q = rw (sub_unheaded t (sub_at left u.place) u.place (sym (head_sub left u.place) ∙ q refl))
