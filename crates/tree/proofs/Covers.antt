-- A row's sub-patterns stand at uncovered places or below open ones; so where only pattern variables are open, each occurrence has a number.
use mathlib.Core.Path.{◌≡◌, refl, ap, ◌∙◌}
use mathlib.Core.Bool.{false}
use mathlib.Core.List.{List, [], ◌∷◌, ◌++◌}
use mathlib.Core.Option.{none, some}
use mathlib.Core.Logic.{◌⊎◌, inl, inr}
use Prim.Native.Nat.{ℕ, zero, suc, ◌+◌, ◌≤◌, ◌<◌}
use native.Mathlib.Omega.{arith}
use native.Mathlib.Decide.{dec_le}
use Rattle.term.specs.Word.{Head}
use Rattle.term.specs.Renumber.{inside}
use Rattle.term.proofs.Laws.{never}
use Rattle.fit.specs.Left.{Left, end, hole, part, wide}
use Rattle.fit.specs.Constraint.{Place, occurrences}
use Rattle.fit.proofs.Laws.{wide_hole, wide_part, occurrences_end, occurrences_hole, occurrences_part, Each, each_join}
use Rattle.tree.specs.Told.Covered.{Within, Waiting, Covered}
use Rattle.tree.specs.Path.{Uncovered, place_numbered, children_from, marked, enter, root}
use Rattle.tree.specs.Rows.{subs_under, sub_at, head_here, head_at, lowest_open}
use Rattle.tree.proofs.Subs.{subs_from, from_hole, from_part, from_start, sub_child, head_sub, headed_below}
use Rattle.tree.proofs.Fits.{none_here}

waiting_within : (p : Place) (us : List Uncovered) → Waiting p us → Within p us
waiting_within p [] w = absurd w
waiting_within p (u ∷ us) (inl w) = inl w.0
waiting_within p (u ∷ us) (inr w) = inr (waiting_within p us w)

within_before : (p : Place) (us vs : List Uncovered) → Within p us → Within p (us ++ vs)
within_before p [] vs w = absurd w
within_before p (u ∷ us) vs (inl w) = inl w
within_before p (u ∷ us) vs (inr w) = inr (within_before p us vs w)

waiting_before : (p : Place) (us vs : List Uncovered) → Waiting p us → Waiting p (us ++ vs)
waiting_before p [] vs w = absurd w
waiting_before p (u ∷ us) vs (inl w) = inl w
waiting_before p (u ∷ us) vs (inr w) = inr (waiting_before p us vs w)

pub waiting_after : (p : Place) (us vs : List Uncovered) → Waiting p vs → Waiting p (us ++ vs)
waiting_after p [] vs w = w
waiting_after p (u ∷ us) vs w = inr (waiting_after p us vs w)

within_marked : (p : Place) (us : List Uncovered) (n : ℕ) → Within p us → Within p (marked n us)
unfolding marked
within_marked p [] n w = absurd w
within_marked p (u ∷ us) zero w = w
within_marked p (u ∷ us) (suc n) (inl w) = inl w
within_marked p (u ∷ us) (suc n) (inr w) = inr (within_marked p us n w)

-- the one that is entered waits no longer
waiting_marked : (p : Place) (us : List Uncovered) (n : ℕ) → Waiting p us → Waiting p (marked n us) ⊎ (place_numbered n us ≡ p)
unfolding marked place_numbered
waiting_marked p [] n w = absurd w
waiting_marked p (u ∷ us) zero (inl w) = inr w.0
waiting_marked p (u ∷ us) zero (inr w) = inl (inr w)
waiting_marked p (u ∷ us) (suc n) (inl w) = inl (inl w)
waiting_marked p (u ∷ us) (suc n) (inr w) = go (waiting_marked p us n w)
  where
    go : Waiting p (marked n us) ⊎ (place_numbered n us ≡ p) → Waiting p (u ∷ marked n us) ⊎ (place_numbered n us ≡ p)
    go (inl x) = inl (inr x)
    go (inr x) = inr x

pub child_waits : (p : Place) (more i j : ℕ) → i ≤ j → j < i + more → Waiting (j ∷ p) (children_from p i more)
unfolding children_from
child_waits p zero i j l h = absurd (omega arith)
child_waits p (suc more) i j l h = go (dec_le (suc i) j) (λ q. child_waits p more (suc i) j q (omega arith))
  where
    go : Dec (suc i ≤ j) → (suc i ≤ j → Waiting (j ∷ p) (children_from p (suc i) more)) → (((i ∷ p) ≡ (j ∷ p)) × (false ≡ false)) ⊎ Waiting (j ∷ p) (children_from p (suc i) more)
    go (yes q) r = inr (r q)
    go (no q) r = let z : i ≡ j = omega arith in inl (ap (◌∷ p) z, refl)

pub children_covered : (us : List Uncovered) (p : Place) (c : ℕ) → ((j : ℕ) → j < c → Waiting (j ∷ p) us) → (i : ℕ) (k : Left) → i + wide k ≤ c → Covered us p i k
children_covered us p c w i end l = tt
children_covered us p c w i (hole x ys rest) l =
    (waiting_within (i ∷ p) us (w i (omega (arith, l, wide_hole x ys rest))), children_covered us p c w (suc i) rest (omega (arith, l, wide_hole x ys rest)))
children_covered us p c w i (part h kids rest) l =
    (inl (w i (omega (arith, l, wide_part h kids rest))), children_covered us p c w (suc i) rest (omega (arith, l, wide_part h kids rest)))

-- a path begins with all of a left side below the root
pub start_covered : (left : Left) → wide left ≡ 1 → Covered (root ∷ []) [] 0 left
start_covered left e = children_covered (root ∷ []) [] 1 only 0 left (omega (arith, e))
  where
    only : (j : ℕ) → j < 1 → Waiting (j ∷ []) (root ∷ [])
    only j h = let z : ◌≡◌ {A = ℕ} 0 j = omega arith in inl (ap (◌∷ []) z, refl)

sub_of : (left : Left) (p : Place) (i : ℕ) (h : Head) (kids rest : Left) → subs_from i (subs_under left p) ≡ part h kids rest
    → (sub_at left (i ∷ p) ≡ part h kids end) × (subs_under left (i ∷ p) ≡ kids) × (subs_from (suc i) (subs_under left p) ≡ rest)
sub_of left p i h kids rest e =
    let a = from_part (subs_under left p) i h kids rest e in
    let s : sub_at left (i ∷ p) ≡ part h kids end = sub_child left i p ∙ a.0 in
    (s, headed_below left i p h (record { kids = kids; rest = end; is = s }), a.1)

-- entering a node keeps what is covered, where the row's head there has no more sub-patterns
module _ (left : Left) (us : List Uncovered) (n c : ℕ) (fits : (h : Head) (kids rest : Left) → sub_at left (place_numbered n us) ≡ part h kids rest → wide kids ≤ c) where
  new_waits : (j : ℕ) → j < c → Waiting (j ∷ place_numbered n us) (enter n c us)
  unfolding enter
  new_waits j h = waiting_after (j ∷ place_numbered n us) (marked n us) (children_from (place_numbered n us) 0 c) (child_waits (place_numbered n us) c 0 j (omega arith) (omega arith))

  keep_within : (p : Place) → Within p us → Within p (enter n c us)
  unfolding enter
  keep_within p w = within_before p (marked n us) (children_from (place_numbered n us) 0 c) (within_marked p us n w)

  keep_waiting : (p : Place) → Waiting p us → Waiting p (enter n c us) ⊎ (place_numbered n us ≡ p)
  unfolding enter
  keep_waiting p w = go (waiting_marked p us n w)
    where
      go : Waiting p (marked n us) ⊎ (place_numbered n us ≡ p) → Waiting p (marked n us ++ children_from (place_numbered n us) 0 c) ⊎ (place_numbered n us ≡ p)
      go (inl x) = inl (waiting_before p (marked n us) (children_from (place_numbered n us) 0 c) x)
      go (inr x) = inr x

  part_covered : (p : Place) (i : ℕ) (h : Head) (kids : Left) → sub_at left (i ∷ p) ≡ part h kids end → Waiting (i ∷ p) (enter n c us) ⊎ (place_numbered n us ≡ i ∷ p)
      → Waiting (i ∷ p) (enter n c us) ⊎ Covered (enter n c us) (i ∷ p) 0 kids
  part_covered p i h kids s (inl w) = inl w
  part_covered p i h kids s (inr z) =
      let l : wide kids ≤ c = fits h kids end (ap (sub_at left) z ∙ s) in
      inr (children_covered (enter n c us) (i ∷ p) c (λ j q. rw z at (new_waits j q)) 0 kids (omega (arith, l)))

  pub enter_covered : (p : Place) (i : ℕ) (k : Left) → subs_from i (subs_under left p) ≡ k → Covered us p i k → Covered (enter n c us) p i k
  enter_covered p i end e v = tt
  enter_covered p i (hole x ys rest) e v =
      (keep_within (i ∷ p) v.0, enter_covered p (suc i) rest (from_hole (subs_under left p) i x ys rest e).1 v.1)
  enter_covered p i (part h kids rest) e v =
      let a = sub_of left p i h kids rest e in
      (go v.0 a.0 (enter_covered (i ∷ p) 0 kids (from_start (subs_under left (i ∷ p)) ∙ a.1)), enter_covered p (suc i) rest a.2 v.1)
    where
      go : Waiting (i ∷ p) us ⊎ Covered us (i ∷ p) 0 kids → sub_at left (i ∷ p) ≡ part h kids end → (Covered us (i ∷ p) 0 kids → Covered (enter n c us) (i ∷ p) 0 kids)
          → Waiting (i ∷ p) (enter n c us) ⊎ Covered (enter n c us) (i ∷ p) 0 kids
      go (inl w) s r = part_covered p i h kids s (keep_waiting (i ∷ p) w)
      go (inr w) s r = inr (r w)

-- ---- only pattern variables are open
waiting_none : (left : Left) (us : List Uncovered) (p : Place) → lowest_open left us ≡ none → Waiting p us → head_at left p ≡ none
waiting_none left [] p e w = absurd w
waiting_none left (u ∷ us) p e (inl w) = rw w.0 at ((none_here left u us e).0 w.1)
waiting_none left (u ∷ us) p e (inr w) = waiting_none left us p (none_here left u us e).1 w

pub all_within : (left : Left) (us : List Uncovered) → lowest_open left us ≡ none → (p : Place) (i d : ℕ) (k : Left) → subs_from i (subs_under left p) ≡ k → Covered us p i k
    → Each (λ o. Within o.place us) (occurrences p i d k)
all_within left us o p i d end e v = rw (occurrences_end p i d) tt
all_within left us o p i d (hole x ys rest) e v =
    rw (occurrences_hole p i d x ys rest) (v.0, all_within left us o p (suc i) d rest (from_hole (subs_under left p) i x ys rest e).1 v.1)
all_within left us o p i d (part h kids rest) e v =
    let a = sub_of left p i h kids rest e in
    rw (occurrences_part p i d h kids rest)
    (each_join (λ q. Within q.place us) (occurrences (i ∷ p) 0 (inside h d) kids) (occurrences p (suc i) d rest)
    (all_within left us o (i ∷ p) 0 (inside h d) kids (from_start (subs_under left (i ∷ p)) ∙ a.1) (go v.0 a.0))
    (all_within left us o p (suc i) d rest a.2 v.1))
  where
    go : Waiting (i ∷ p) us ⊎ Covered us (i ∷ p) 0 kids → sub_at left (i ∷ p) ≡ part h kids end → Covered us (i ∷ p) 0 kids
    go (inl w) s = never (let z = waiting_none left us (i ∷ p) o w in let y : head_at left (i ∷ p) ≡ some h = head_sub left (i ∷ p) ∙ ap head_here s in cc)
    go (inr w) s = w
