-- Sub-patterns of a left side: what stands at the places below a place is what stands beside one another there.
use mathlib.Core.Path.{◌≡◌, refl, sym, ap, ◌∙◌}
use mathlib.Core.List.{List, [], ◌∷◌}
use mathlib.Core.Option.{none, some}
use Prim.Native.Nat.{ℕ, zero, suc}
use Rattle.term.specs.Word.{Head, count, InTable}
use Rattle.term.specs.Renumber.{inside}
use Rattle.term.proofs.Laws.{never}
use Rattle.fit.specs.Left.{Left, end, hole, part, wide, GoodLeft}
use Rattle.fit.specs.Constraint.{Place}
use Rattle.fit.proofs.Laws.{good_hole, good_part}
use Rattle.tree.specs.Rows.{sub, below, subs_under, sub_at, head_here, head_at}

-- the sub-patterns from number i on
unfoldable pub subs_from : ℕ → Left → Left
subs_from zero k = k
subs_from (suc i) end = end
subs_from (suc i) (hole x ys rest) = subs_from i rest
subs_from (suc i) (part h kids rest) = subs_from i rest

from_end_end : (i : ℕ) → subs_from i end ≡ end
unfolding subs_from
from_end_end zero = refl
from_end_end (suc i) = refl

pub from_end : (k : Left) (i : ℕ) → subs_from i k ≡ end → (sub k i ≡ end) × (subs_from (suc i) k ≡ end)
unfolding subs_from sub
from_end end i e = (refl, refl)
from_end (hole x ys rest) zero e = never (cc)
from_end (hole x ys rest) (suc i) e = go rest i (from_end rest i e)
  where
    go : (k : Left) (i : ℕ) → (sub k i ≡ end) × (subs_from (suc i) k ≡ end) → (sub k i ≡ end) × (subs_from (suc i) k ≡ end)
    go k i p = p
from_end (part h kids rest) zero e = never (cc)
from_end (part h kids rest) (suc i) e = go rest i (from_end rest i e)
  where
    go : (k : Left) (i : ℕ) → (sub k i ≡ end) × (subs_from (suc i) k ≡ end) → (sub k i ≡ end) × (subs_from (suc i) k ≡ end)
    go k i p = p

pub from_hole : (k : Left) (i x : ℕ) (ys : List ℕ) (rest : Left) → subs_from i k ≡ hole x ys rest → (sub k i ≡ hole x ys end) × (subs_from (suc i) k ≡ rest)
unfolding subs_from sub
from_hole end i x ys rest e = never (let z = from_end_end i in cc)
from_hole (hole y zs r) zero x ys rest e =
    let a : y ≡ x = cc in let b : zs ≡ ys = cc in let c : r ≡ rest = cc in (rw (a, b), c)
from_hole (hole y zs r) (suc i) x ys rest e = go r i (from_hole r i x ys rest e)
  where
    go : (k : Left) (i : ℕ) → (sub k i ≡ hole x ys end) × (subs_from (suc i) k ≡ rest) → (sub k i ≡ hole x ys end) × (subs_from (suc i) k ≡ rest)
    go k i p = p
from_hole (part h kids r) zero x ys rest e = never (cc)
from_hole (part h kids r) (suc i) x ys rest e = go r i (from_hole r i x ys rest e)
  where
    go : (k : Left) (i : ℕ) → (sub k i ≡ hole x ys end) × (subs_from (suc i) k ≡ rest) → (sub k i ≡ hole x ys end) × (subs_from (suc i) k ≡ rest)
    go k i p = p

pub from_part : (k : Left) (i : ℕ) (h : Head) (kids rest : Left) → subs_from i k ≡ part h kids rest → (sub k i ≡ part h kids end) × (subs_from (suc i) k ≡ rest)
unfolding subs_from sub
from_part end i h kids rest e = never (let z = from_end_end i in cc)
from_part (part g ks r) zero h kids rest e =
    let a : g ≡ h = cc in let b : ks ≡ kids = cc in let c : r ≡ rest = cc in (rw (a, b), c)
from_part (part g ks r) (suc i) h kids rest e = go r i (from_part r i h kids rest e)
  where
    go : (k : Left) (i : ℕ) → (sub k i ≡ part h kids end) × (subs_from (suc i) k ≡ rest) → (sub k i ≡ part h kids end) × (subs_from (suc i) k ≡ rest)
    go k i p = p
from_part (hole y zs r) zero h kids rest e = never (cc)
from_part (hole y zs r) (suc i) h kids rest e = go r i (from_part r i h kids rest e)
  where
    go : (k : Left) (i : ℕ) → (sub k i ≡ part h kids end) × (subs_from (suc i) k ≡ rest) → (sub k i ≡ part h kids end) × (subs_from (suc i) k ≡ rest)
    go k i p = p

pub from_start : (k : Left) → subs_from 0 k ≡ k
unfolding subs_from
from_start k = refl

-- ---- the clauses at places
pub subs_root : (left : Left) → subs_under left [] ≡ left
unfolding subs_under
subs_root left = refl

pub subs_child : (left : Left) (i : ℕ) (p : Place) → subs_under left (i ∷ p) ≡ below (sub_at left (i ∷ p))
unfolding subs_under sub_at
subs_child left i p = refl

pub sub_child : (left : Left) (i : ℕ) (p : Place) → sub_at left (i ∷ p) ≡ sub (subs_under left p) i
unfolding sub_at
sub_child left i p = refl

pub head_sub : (left : Left) (p : Place) → head_at left p ≡ head_here (sub_at left p)
unfolding head_at
head_sub left p = refl

-- a sub-pattern with a head
pub record Headed (h : Head) (k : Left) : Type 0 where
  pub kids : Left
  pub rest : Left
  pub is : k ≡ part h kids rest

headed : (k : Left) (h : Head) → head_here k ≡ some h → Headed h k
headed end h e = never (cc)
headed (hole x ys rest) h e = never (cc)
headed (part g kids rest) h e = let z : g ≡ h = cc in record { kids = kids; rest = rest; is = rw z }

pub head_headed : (left : Left) (p : Place) (h : Head) → head_at left p ≡ some h → Headed h (sub_at left p)
head_headed left p h e = headed (sub_at left p) h (sym (head_sub left p) ∙ e)

-- a pattern variable stands there or above, and nothing stands below
unheaded : (k : Left) → head_here k ≡ none → below k ≡ end
unfolding below
unheaded end e = refl
unheaded (hole x ys rest) e = refl
unheaded (part h kids rest) e = never (cc)

pub none_below : (left : Left) (i : ℕ) (p : Place) → head_at left (i ∷ p) ≡ none → subs_under left (i ∷ p) ≡ end
none_below left i p e = subs_child left i p ∙ unheaded (sub_at left (i ∷ p)) (sym (head_sub left (i ∷ p)) ∙ e)

pub headed_below : (left : Left) (i : ℕ) (p : Place) (h : Head) (x : Headed h (sub_at left (i ∷ p))) → subs_under left (i ∷ p) ≡ x.kids
unfolding below
headed_below left i p h x = subs_child left i p ∙ ap below x.is

pub root_unheaded : (left : Left) → head_at left [] ≡ none
unfolding head_at sub_at
root_unheaded left = refl

-- ---- heads of the table have as many sub-patterns as they count
abbrev pub Full : Left → Type 0
Full end = Unit {0}
Full (hole x ys rest) = Full rest
Full (part h kids rest) = InTable h × (wide kids ≡ count h) × Full kids × Full rest

pub good_full : (vars d : ℕ) (k : Left) → GoodLeft vars d k → Full k
good_full vars d end g = tt
good_full vars d (hole x ys rest) g = good_full vars d rest (good_hole vars d x ys rest g).2
good_full vars d (part h kids rest) g =
    let q = good_part vars d h kids rest g in
    (q.0, q.1, good_full vars (inside h d) kids q.3, good_full vars d rest q.4)

full_sub : (k : Left) (i : ℕ) → Full k → Full (sub k i)
unfolding sub
full_sub end i f = tt
full_sub (hole x ys rest) zero f = tt
full_sub (hole x ys rest) (suc i) f = full_sub rest i f
full_sub (part h kids rest) zero f = (f.0, f.1, f.2, tt)
full_sub (part h kids rest) (suc i) f = full_sub rest i f.3

full_below : (k : Left) → Full k → Full (below k)
unfolding below
full_below end f = tt
full_below (hole x ys rest) f = tt
full_below (part h kids rest) f = f.2

full_under : (left : Left) (p : Place) → Full left → Full (subs_under left p)
unfolding subs_under
full_under left [] f = f
full_under left (i ∷ p) f = full_below (sub (subs_under left p) i) (full_sub (subs_under left p) i (full_under left p f))

pub full_at : (left : Left) (p : Place) → Full left → Full (sub_at left p)
unfolding sub_at
full_at left [] f = tt
full_at left (i ∷ p) f = full_sub (subs_under left p) i (full_under left p f)
