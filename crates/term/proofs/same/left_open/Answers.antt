-- `same::left_open` meets its contract: what is left of both passes gives the answer, at every turn; and in a turn neither list has, before the
-- place j, the id that is sought in it.
use native.Mathlib.Omega.{arith}
use mathlib.Core.Path.{◌≡◌, refl, sym, ◌∙◌}
use mathlib.Core.Bool.{◌&&◌, true}
use Prim.Native.Nat.{ℕ, ◌+◌, ◌-◌, ◌≤◌, ◌<◌}
use lib.Dec.{ltb}
use lib.ListN.{length, get_or, set, replicate, length-set}
use Rattle.term.specs.Word.{ident_of, head_of}
use Rattle.term.specs.Renumber.{id_body}
use Rattle.term.specs.Told.Walk.{image_of, same_image, inner_word, meeting}
use Rattle.term.proofs.Words.{and_left, and_right}
use Rattle.term.proofs.Lists.{good_true, Sought, sought_first}
use Rattle.term.proofs.Pass.{near}
use Rattle.term.proofs.Compare.{Rest, Low, low_first, low_next, low_inside, start, whole, closed, stopped, unlike, entered, differ, Inner, is_inner, met_neither, met_both, met_apart, stands_near}
use Rattle.term.proofs.same.left_open.Goals.{After-inside_word, After-met_at, Else-not-both_stand, In-Neither, Then-both_inner}
use Rattle.term.proofs.same.left_open.Goals as goal

-- both parts have a word there
stood : (c : Else-not-both_stand)
    → let q = c.pass in
    let a = c.args in
    ltb q.at (length a.words.now) && (ltb q.at (length a.others.now) && near q.at q.depth) ≡ true
stood c = cc

within : (c : Else-not-both_stand)
    → let q = c.pass in
    let a = c.args in
    (q.at < length a.words.now) × (q.at < length a.others.now) × (q.depth ≤ 64)
within c = stands_near _ _ _ _ (stood c)

-- no more abstractions than levels
around : (c : Else-not-both_stand) → let q = c.pass in get_or q.under (q.depth - 1) 0 ≤ 64
around c = let q = c.pass in omega (arith, q.invariant.4 (q.depth - 1) (omega arith), within c)

-- the words have the same image: a level is entered
next : (c : After-inside_word)
    → let q = c.pass in
    let a = c.args in
    let w = get_or a.words.now q.at 0 in
    let e = get_or q.under (q.depth - 1) 0 in
    let left = set (set q.left (q.depth - 1) (get_or q.left (q.depth - 1) 0 - 1)) q.depth c.count_of.result in
    let under = set q.under q.depth c.inside_word.result in
    same_image (image_of (id_body a.d a.list.now) e (head_of w)) (image_of (id_body a.c a.ids.now) e (head_of (get_or a.others.now q.at 0))) ≡ true
    → (length left ≡ 65) × (length under ≡ 65) × (q.depth + 1 ≤ 65) × (q.at + 1 ≤ length a.words.now) × Low (q.depth + 1) under
    × Rest a.d a.list.now a.words.now a.c a.ids.now a.others.now (q.at + 1) (q.depth + 1) left under
next c same =
    let q = c.pass in
    let a = c.args in
    let s : ltb q.at (length a.words.now) && (ltb q.at (length a.others.now) && near q.at q.depth) ≡ true = cc in
    let n : (q.at < length a.words.now) × (q.at < length a.others.now) × (q.depth ≤ 64) = stands_near _ _ _ _ s in
    let z = c.pass-test.true in
    let l : length q.left ≡ 65 = q.invariant.0 in
    let u : length q.under ≡ 65 = q.invariant.1 in
    let i = c.inside_word.ensures in (
      simp length-set q.invariant.0,
      simp length-set q.invariant.1,
      omega (arith, n),
      omega (arith, n),
      low_next q.depth q.under c.inside_word.result q.invariant.4 (omega (arith, n, u)) (low_inside q.depth q.under (get_or a.words.now q.at 0) c.inside_word.result q.invariant.4 z i),
      entered a.d a.list.now a.words.now a.c a.ids.now a.others.now q.at q.depth q.left q.under q.invariant.5 z c.if-left-depth-eq0.false s
          (omega (arith, n, l)) (omega (arith, n, u)) same c.count_of.result c.count_of.ensures c.inside_word.result i,
    )

-- both words are variables in parameter range
inner : (c : Then-both_inner)
    → let q = c.pass in
    let a = c.args in
    Inner a.d (get_or q.under (q.depth - 1) 0) (get_or a.words.now q.at 0)
inner c = is_inner _ _ _ (and_left _ (inner_word _ _ (get_or c.args.others.now c.pass.at 0)) (sym c.both_inner.ensures ∙ c.if-both_inner.true))

inner_other : (c : Then-both_inner)
    → let q = c.pass in
    let a = c.args in
    Inner a.c (get_or q.under (q.depth - 1) 0) (get_or a.others.now q.at 0)
inner_other c = is_inner _ _ _ (and_right (inner_word _ _ (get_or c.args.words.now c.pass.at 0)) _ (sym c.both_inner.ensures ∙ c.if-both_inner.true))

-- what was met of the two ids at j
met : (c : After-met_at)
    → let q = c.pass in
    let a = c.args in
    let e = get_or q.under (q.depth - 1) 0 in
    c.met_at.result ≡ meeting a.list.now (ident_of (get_or a.words.now q.at 0) - e) a.ids.now (ident_of (get_or a.others.now q.at 0) - e) c.loop-j.j
met c = rw (c.id_of.ensures, c.id_of-in-loop-j.ensures) at c.met_at.ensures

-- neither list has its id at j
further : (c : In-Neither)
    → let q = c.pass in
    let a = c.args in
    let e = get_or q.under (q.depth - 1) 0 in
    let j = c.loop-j.j in
    (j < length a.list.now) × Sought (ident_of (get_or a.words.now q.at 0) - e) a.list.now (j + 1) × Sought (ident_of (get_or a.others.now q.at 0) - e) a.ids.now (j + 1)
further c = let p = c.loop-j in met_neither _ _ _ _ _ p.invariant.1 p.invariant.2 (sym (rw (c.id_of.ensures, c.id_of-in-loop-j.ensures) at c.met_at.ensures) ∙ c.in-Neither.is)

pub pass-init : goal.pass-init
pass-init c = (refl, refl, omega arith, omega arith, low_first (replicate {A = ℕ} 64 0), start _ _ _ _ _ _ c.requires.0 c.requires.1 _ _)

pub pass-preserved-then-left-depth-eq0 : goal.pass-preserved-then-left-depth-eq0
pass-preserved-then-left-depth-eq0 c =
    let q = c.pass in
    (q.invariant.0, q.invariant.1, omega arith, q.invariant.3, λ i h. q.invariant.4 i (omega arith), closed _ _ _ _ _ _ _ _ _ _ q.invariant.5 c.pass-test.true c.if-left-depth-eq0.true)

pub loop-j-init : goal.loop-j-init
loop-j-init c = (omega arith, sought_first _ _, sought_first _ _)

pub overflow_sub-id_of : goal.overflow_sub-id_of
overflow_sub-id_of c = omega (arith, (inner (goal.at.overflow_sub-id_of c).Then-both_inner).above, c.id_of.ensures)

pub overflow_sub-id_of-in-loop-j : goal.overflow_sub-id_of-in-loop-j
overflow_sub-id_of-in-loop-j c = omega (arith, (inner_other (goal.at.overflow_sub-id_of-in-loop-j c).Then-both_inner).above, c.id_of-in-loop-j.ensures)

pub loop-j-smaller : goal.loop-j-smaller
loop-j-smaller c = omega (arith, (further (goal.at.loop-j-smaller c).In-Neither).0)

pub loop-j-preserved : goal.loop-j-preserved
loop-j-preserved c = let n = further (goal.at.loop-j-preserved c).In-Neither in (omega (arith, n.0), n.1, n.2)

pub pass-preserved-in-Both : goal.pass-preserved-in-Both
pass-preserved-in-Both c =
    let p = c.loop-j in
    next (goal.at.pass-preserved-in-Both c).After-inside_word (met_both _ _ _ _ _ _ _ _ (inner (goal.at.pass-preserved-in-Both c).Then-both_inner) (inner_other (goal.at.pass-preserved-in-Both c).Then-both_inner) p.invariant.1 p.invariant.2 (sym (met (goal.at.pass-preserved-in-Both c).After-met_at) ∙ c.in-Both.is))

pub same_word-requires : goal.same_word-requires
same_word-requires c = ((good_true _ _ c.requires.0).few, (good_true _ _ c.requires.1).few, around (goal.at.same_word-requires c).Else-not-both_stand)

pub pass-preserved : goal.pass-preserved
pass-preserved c = next (goal.at.pass-preserved c).After-inside_word (cc)

pub returns-after-pass : goal.returns-after-pass
returns-after-pass c = whole _ _ _ _ _ _ _ _ _ _ c.pass.invariant.5 c.pass-test.false

pub returns-then-not-both_stand : goal.returns-then-not-both_stand
returns-then-not-both_stand c =
    let z = c.pass-test.true in
    differ _ _ _ _ _ _ _ z (stopped _ _ _ _ _ _ _ _ _ _ c.pass.invariant.5 z c.if-left-depth-eq0.false (cc))

pub returns-in-Apart : goal.returns-in-Apart
returns-in-Apart c =
    let q = c.pass in
    let w = goal.at.returns-in-Apart c in
    differ _ _ _ _ _ _ (q.depth + 1) (λ z. omega arith)
    (unlike _ _ _ _ _ _ _ _ _ _ q.invariant.5 c.pass-test.true c.if-left-depth-eq0.false (stood w.Else-not-both_stand)
    (met_apart _ _ _ _ _ _ _ _ (inner w.Then-both_inner) (inner_other w.Then-both_inner) c.loop-j.invariant.1 c.loop-j.invariant.2 (sym (met w.After-met_at) ∙ c.in-Apart.is)))

pub returns-then-not-same_word : goal.returns-then-not-same_word
returns-then-not-same_word c =
    differ _ _ _ _ _ _ (c.pass.depth + 1) (λ z. omega arith)
    (unlike _ _ _ _ _ _ _ _ _ _ c.pass.invariant.5 c.pass-test.true c.if-left-depth-eq0.false (stood (goal.at.returns-then-not-same_word c).Else-not-both_stand) (cc))
