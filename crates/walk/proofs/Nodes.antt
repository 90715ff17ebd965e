-- What a node of a laid-out tree says: each test holds, and the address that is taken is that of the subtree.
use mathlib.Core.Path.{◌≡◌, refl, sym, ap, ◌∙◌}
use mathlib.Core.Bool.{Bool, true, false}
use mathlib.Core.List.{List, [], ◌∷◌, ◌++◌, append_assoc}
use mathlib.Core.Option.{none, some}
use Prim.Native.Nat.{ℕ, ◌+◌, ◌*◌, ◌≤◌, ◌<◌}
use native.Mathlib.Omega.{arith}
use lib.Dec.{leb}
use lib.ListN.{length, get_or, take, drop, length-append}
use lib.Seq.{take-append_seam, drop-append_seam, get_or-append-add}
use borrow.Author.Tests.{lt-ltb, le-leb}
use Rattle.term.specs.Word.{Head, word, pick}
use Rattle.term.specs.Row.{Row, nothing, node}
use Rattle.term.specs.Part.{is_some, same_o}
use Rattle.term.proofs.Laws.{and_both, true_good}
use Rattle.fit.specs.Constraint.{is_head}
use Rattle.fit.proofs.Laws.{head_nothing, head_node}
use Rattle.tree.specs.Tree.{LeafVariable, LeafNode, Tree, Fail, Leaf, Cases, NoCase, Case}
use Rattle.tree.specs.Find.{PartAt, part_of, enter_part, body_for, leaf_fitting}
use Rattle.tree.specs.Layout.{variable_words, case_count, long, case_heads}
use Rattle.tree.proofs.Laws.{variables_more, count_none, count_case, heads_case, length_heads, Lies, lies_inside, fail_lies, leaf_lies, CasesLie, SwitchLies, ClosedLies, SameLies, SoundVariable, AllSound, SoundPlace, Takes, takes_first, takes_later, NoneTaken, no_cases, other_case}
use Rattle.walk.specs.Walk.{NoneFits, RuleFits, Ends, Goes, go_to, variables_in, sound_variable, sound_variables, leaf_node, is_word, case_of, case_next, switch_node, closed_node, same_node, node_at, next_at}

-- an address that is later and inside
pub goes : (table : List ℕ) (at to : ℕ) (ps : List PartAt) → at < to → to < length table → go_to table at to ps ≡ Goes to ps
unfolding go_to
goes table at to ps l i = rw (lt-ltb at to l, lt-ltb to (length table) i)

-- ---- words after a list
default_at : (xs : List ℕ) (x : ℕ) (after : List ℕ) (n : ℕ) → length xs ≡ n → get_or (xs ++ (x ∷ after)) n 0 ≡ x
default_at xs x after n e = let z : n ≡ length xs + 0 = omega (arith, e) in rw z (get_or-append-add xs (x ∷ after) 0 0)

second_at : (xs : List ℕ) (x y : ℕ) (after : List ℕ) → get_or (xs ++ (x ∷ y ∷ after)) (length xs + 1) 0 ≡ y
second_at xs x y after = get_or-append-add xs (x ∷ y ∷ after) 1 0

-- ---- Fail
pub next_fail : (fits : LeafNode → Bool) (table : List ℕ) (at : ℕ) (ps : List PartAt) → Lies table at Fail → next_at fits table at ps ≡ Ends NoneFits
unfolding next_at node_at
next_fail fits table at ps l = rw (fail_lies table at l).1

-- ---- Leaf
list_fits : (xs ys : List ℕ) → leb (length xs) (length (xs ++ ys)) ≡ true
list_fits xs ys = le-leb (length xs) (length (xs ++ ys)) (omega (arith, length-append xs ys))

pub variables_read : (vs : List LeafVariable) (after : List ℕ) → variables_in (length vs) (variable_words vs ++ after) ≡ some vs
unfolding variables_in
variables_read [] after = refl
variables_read (v ∷ vs) after =
    rw (variables_more v vs, append_assoc v.list (variable_words vs) after, list_fits v.list (variable_words vs ++ after), take-append_seam v.list (variable_words vs ++ after), drop-append_seam v.list (variable_words vs ++ after), variables_read vs after)

variable_sound : (ps : List PartAt) (v : LeafVariable) → SoundVariable ps v → sound_variable ps v ≡ true
unfolding sound_variable
variable_sound ps v s =
    rw (lt-ltb v.at (length ps) s.here, le-leb (length v.list) 4 s.list.few, true_good (part_of v.at ps).depth v.list s.list, s.body)

variables_sound : (ps : List PartAt) (vs : List LeafVariable) → AllSound ps vs → sound_variables ps vs ≡ true
unfolding sound_variables
variables_sound ps [] a = refl
variables_sound ps (v ∷ vs) a = and_both (sound_variable ps v) (sound_variables ps vs) (variable_sound ps v a.0) (variables_sound ps vs a.1)

pub next_leaf : (fits : LeafNode → Bool) (table : List ℕ) (at : ℕ) (ps : List PartAt) (leaf : LeafNode) → Lies table at (Leaf leaf) → leaf.rule < 64 → length leaf.variables ≤ 16
    → fits leaf ≡ true → AllSound ps leaf.variables → next_at fits table at ps ≡ Ends (RuleFits (leaf_fitting ps leaf) (length leaf.variables))
unfolding next_at node_at leaf_node
next_leaf fits table at ps leaf l low few f s =
    let e = leaf_lies table at leaf l in
    let g : fits (record { rule = leaf.rule; aside = leaf.aside; variables = leaf.variables }) ≡ true = f in
    rw (e.1, lt-ltb leaf.rule 64 low, le-leb (length leaf.variables) 16 few, variables_read leaf.variables e.0, variables_sound ps leaf.variables s, g)

-- ---- Switch
pub word_head : (h : Head) (f : Row) → is_word (word h) f ≡ is_head h f
unfolding is_word
word_head h nothing = sym (head_nothing h)
word_head h (node g kids rest) = sym (head_node h g kids rest)

-- the case that is taken
pub record Taken (table : List ℕ) (at : ℕ) (f : Row) (cs : Cases) (x : Tree) (more : List ℕ) : Type 0 where
  pub to : ℕ
  pub is : case_of f (case_count cs) (case_heads at cs ++ more) ≡ some to
  pub lies : Lies table to x
  pub later_or_same : at ≤ to

first_case : (f : Row) (at : ℕ) (h : Head) (x : Tree) (cs : Cases) (more : List ℕ) → is_head h f ≡ true → case_of f (case_count (Case h x cs)) (case_heads at (Case h x cs) ++ more) ≡ some at
unfolding case_of
first_case f at h x cs more e = rw (count_case h x cs, heads_case at h x cs, word_head h f, e)

later_case : (f : Row) (at : ℕ) (h : Head) (x : Tree) (cs : Cases) (more : List ℕ) → is_head h f ≡ false
    → case_of f (case_count (Case h x cs)) (case_heads at (Case h x cs) ++ more) ≡ case_of f (case_count cs) (case_heads (at + long x) cs ++ more)
unfolding case_of
later_case f at h x cs more e = rw (count_case h x cs, heads_case at h x cs, word_head h f, e)

no_case : (f : Row) (at : ℕ) (more : List ℕ) → case_of f (case_count NoCase) (case_heads at NoCase ++ more) ≡ none
unfolding case_of
no_case f at more = rw count_none

pub case_taken : (table : List ℕ) (f : Row) (cs : Cases) (x : Tree) (more : List ℕ) → Takes f cs x → (at : ℕ) → CasesLie table at cs → Taken table at f cs x more
case_taken table f cs x more (takes_first {h = h} {x = y} {cs = ds} e) at l =
    record { to = at; is = first_case f at h y ds more e; lies = l.0; later_or_same = omega arith }
case_taken table f cs x more (takes_later {h = h} {x = z} {y = y} {cs = ds} e t) at l =
    let r = case_taken table f ds y more t (at + long z) l.1 in
    record { to = r.to; is = later_case f at h z ds more e ∙ r.is; lies = r.lies; later_or_same = omega (arith, r.later_or_same) }

pub none_taken : (f : Row) (cs : Cases) (more : List ℕ) → NoneTaken f cs → (at : ℕ) → case_of f (case_count cs) (case_heads at cs ++ more) ≡ none
none_taken f cs more no_cases at = no_case f at more
none_taken f cs more (other_case {h = h} {x = x} {cs = ds} e n) at = later_case f at h x ds more e ∙ none_taken f ds more n (at + long x)

-- the words of a Switch
switch_words : (fits : LeafNode → Bool) (table : List ℕ) (at : ℕ) (ps : List PartAt) (n : ℕ) (cs : Cases) (default : Tree) (s : SwitchLies table at n cs default) → n < length ps
    → next_at fits table at ps ≡ case_next table at n ps s.other (case_of (part_of n ps).part (case_count cs) (case_heads s.next cs ++ (s.other ∷ s.after)))
unfolding next_at node_at switch_node
switch_words fits table at ps n cs default s l =
    let k : length (case_heads s.next cs) ≡ 2 * case_count cs = length_heads s.next cs in
    let m : 2 * case_count cs < length (case_heads s.next cs ++ (s.other ∷ s.after)) = omega (arith, length-append (case_heads s.next cs) (s.other ∷ s.after), k) in
    rw (s.words, lt-ltb n (length ps) l, lt-ltb (2 * case_count cs) (length (case_heads s.next cs ++ (s.other ∷ s.after))) m, default_at (case_heads s.next cs) s.other s.after (2 * case_count cs) k)

pub next_case : (fits : LeafNode → Bool) (table : List ℕ) (at : ℕ) (ps : List PartAt) (n : ℕ) (cs : Cases) (default x : Tree) → (s : SwitchLies table at n cs default) → n < length ps
    → (part_of n ps).entered ≡ false → (r : Taken table s.next (part_of n ps).part cs x (s.other ∷ s.after)) → next_at fits table at ps ≡ Goes r.to (enter_part n ps)
next_case fits table at ps n cs default x s l e r =
    switch_words fits table at ps n cs default s l
    ∙ rw (r.is, e) (goes table at r.to (enter_part n ps) (omega (arith, s.later, r.later_or_same)) (lies_inside table r.to x r.lies))

pub next_default : (fits : LeafNode → Bool) (table : List ℕ) (at : ℕ) (ps : List PartAt) (n : ℕ) (cs : Cases) (default : Tree) → (s : SwitchLies table at n cs default) → n < length ps
    → NoneTaken (part_of n ps).part cs → next_at fits table at ps ≡ Goes s.other ps
next_default fits table at ps n cs default s l t =
    switch_words fits table at ps n cs default s l
    ∙ rw (none_taken (part_of n ps).part cs (s.other ∷ s.after) t s.next) (goes table at s.other ps s.later_other (lies_inside table s.other default s.otherwise))

-- ---- Closed
pub next_closed : (fits : LeafNode → Bool) (table : List ℕ) (at : ℕ) (ps : List PartAt) (n : ℕ) (ys : List ℕ) (a b : Tree) → (s : ClosedLies table at n ys a b) → SoundPlace ps n ys
    → next_at fits table at ps ≡ go_to table at (pick (is_some (body_for ps n ys)) s.yes_at s.no_at) ps
unfolding next_at node_at closed_node
next_closed fits table at ps n ys a b s p =
    let more : List ℕ = s.yes_at ∷ s.no_at ∷ s.after in
    let m : length ys + 1 < length (ys ++ (s.yes_at ∷ s.no_at ∷ s.after)) = omega (arith, length-append ys (s.yes_at ∷ s.no_at ∷ s.after)) in
    rw (
      s.words,
      lt-ltb n (length ps) p.here,
      le-leb (length ys) 4 p.list.few,
      lt-ltb (length ys + 1) (length (ys ++ (s.yes_at ∷ s.no_at ∷ s.after))) m,
      take-append_seam ys (s.yes_at ∷ s.no_at ∷ s.after),
      true_good (part_of n ps).depth ys p.list,
      default_at ys s.yes_at (s.no_at ∷ s.after) (length ys) refl,
      second_at ys s.yes_at s.no_at s.after,
    )

-- ---- Same
-- the words after two lists of one length
two_lists : (ys zs : List ℕ) → length zs ≡ length ys → (more : List ℕ) → (i : ℕ) → get_or (ys ++ (zs ++ more)) (length ys + length ys + i) 0 ≡ get_or more i 0
two_lists ys zs z more i =
    let k : length ys + length ys + i ≡ length ys + (length zs + i) = omega (arith, z) in
    rw k (get_or-append-add ys (zs ++ more) (length zs + i) 0 ∙ get_or-append-add zs more i 0)

second_list : (ys zs : List ℕ) → length zs ≡ length ys → (more : List ℕ) → take (length ys) (zs ++ more) ≡ zs
second_list ys zs z more = rw (← z) (take-append_seam zs more)

same_words_lem : (fits : LeafNode → Bool) (table : List ℕ) (at : ℕ) (ps : List PartAt) (n m : ℕ) (ys zs : List ℕ) (yes_at no_at : ℕ) (after : List ℕ)
    → drop at table ≡ 4 ∷ n ∷ m ∷ length ys ∷ (ys ++ (zs ++ (yes_at ∷ no_at ∷ after))) → SoundPlace ps n ys → SoundPlace ps m zs → length zs ≡ length ys
    → next_at fits table at ps ≡ go_to table at (pick (same_o (body_for ps n ys) (body_for ps m zs)) yes_at no_at) ps
unfolding next_at node_at same_node
same_words_lem fits table at ps n m ys zs yes_at no_at after e p q z =
    let ws : List ℕ = ys ++ (zs ++ (yes_at ∷ no_at ∷ after)) in
    let l : length ys + length ys + 1 < length (ys ++ (zs ++ (yes_at ∷ no_at ∷ after))) = omega (arith, length-append ys (zs ++ (yes_at ∷ no_at ∷ after)), length-append zs (yes_at ∷ no_at ∷ after), z) in
    let y : get_or (ys ++ (zs ++ (yes_at ∷ no_at ∷ after))) (length ys + length ys) 0 ≡ yes_at = ap (λ (i : ℕ). get_or (ys ++ (zs ++ (yes_at ∷ no_at ∷ after))) i 0) (omega arith) ∙ two_lists ys zs z (yes_at ∷ no_at ∷ after) 0 in
    rw (
      e,
      lt-ltb n (length ps) p.here,
      lt-ltb m (length ps) q.here,
      le-leb (length ys) 4 p.list.few,
      lt-ltb (length ys + length ys + 1) (length (ys ++ (zs ++ (yes_at ∷ no_at ∷ after)))) l,
      take-append_seam ys (zs ++ (yes_at ∷ no_at ∷ after)),
      drop-append_seam ys (zs ++ (yes_at ∷ no_at ∷ after)),
      second_list ys zs z (yes_at ∷ no_at ∷ after),
      true_good (part_of n ps).depth ys p.list,
      true_good (part_of m ps).depth zs q.list,
      y,
      two_lists ys zs z (yes_at ∷ no_at ∷ after) 1,
    )

pub next_same : (fits : LeafNode → Bool) (table : List ℕ) (at : ℕ) (ps : List PartAt) (n m : ℕ) (ys zs : List ℕ) (a b : Tree) → (s : SameLies table at n m ys zs a b) → SoundPlace ps n ys → SoundPlace ps m zs
    → length zs ≡ length ys → next_at fits table at ps ≡ go_to table at (pick (same_o (body_for ps n ys) (body_for ps m zs)) s.yes_at s.no_at) ps
next_same fits table at ps n m ys zs a b s p q z =
    same_words_lem fits table at ps n m ys zs s.yes_at s.no_at s.after s.words p q z
