-- The arguments set aside, in words: they are the last words of the part, and behind what is written they are the last words again.
use mathlib.Core.Path.{◌≡◌, refl, sym, ap, ◌∙◌}
use mathlib.Core.List.{List, ◌∷◌, ◌++◌}
use Prim.Native.Nat.{ℕ, zero, suc, ◌+◌, ◌-◌, ◌≤◌, ◌<◌}
use native.Mathlib.Omega.{arith}
use lib.ListN.{length, get_or, take, drop, set, length-append, length-set}
use lib.Seq.{length-take-le, take-length, take_at, take-paste, take-set-lt, set_split, paste}
use Rattle.std.specs.Prelude.{Some, None}
use Rattle.term.specs.Word
use Rattle.term.specs.Word.{Head, word, InTable, count_of}
use Rattle.term.specs.Row.{Row, nothing, node, width, words, Formed, others}
use Rattle.term.specs.Told.Walk.{Stands}
use Rattle.term.specs.Part.{part_end}
use Rattle.term.proofs.Laws.{words_node, width_nothing, width_node, count_word_lem, formed_nothing, formed_node, node_formed, others_none, others_node, part_ends, part_short}
use Rattle.fit.specs.Front.{aside, aside_arguments}
use Rattle.fit.proofs.Laws.{further, words_tree, head_at_lem, aside_node, aside_arguments_node, width_aside}
use Rattle.walk.specs.Told.State.{part_from, Parted}
use Rattle.walk.proofs.Laws.{from_stands, parted_body}
use Rattle.steps.specs.Told.RightWalk.{next_tree, child_at}
use Rattle.steps.specs.Told.Aside.{AttachTold}
use Rattle.steps.proofs.Replaced.{none_wide}
use Rattle.steps.proofs.RightTrees.{child_none, child_next, split_words, tree_ends}

-- ---- arguments behind what was written
module _ (new : List ℕ) (n first : ℕ) (arguments : List ℕ) (long : length new ≡ 4096) where
  pub attach_over : 4096 < n + length arguments → (done : List ℕ) → AttachTold new n first arguments done None
  unfolding AttachTold
  attach_over l done = l

  pub attach_done : n ≤ 4096 → length arguments ≤ 4096 - n → (done : List ℕ) → done ≡ paste (set new 0 first) n arguments (length arguments)
      → AttachTold new n first arguments done (Some (n + length arguments))
  unfolding AttachTold
  attach_done l m done e = (refl, omega (arith, l, m), are)
    where
      are : 0 < n → take (n + length arguments) done ≡ first ∷ (drop 1 (take n new) ++ arguments)
      are some =
          ap (take (n + length arguments)) e
          ∙ take-paste (set new 0 first) n arguments (length arguments) (omega (arith, l, long, length-set new 0 first)) (omega arith)
          ∙ ap (λ (ws : List ℕ). take n (set new 0 first) ++ ws) (take-length arguments)
          ∙ ap (λ (ws : List ℕ). ws ++ arguments) (take-set-lt n new 0 first some ∙ set_split (take n new) 0 first (omega (arith, some, length-take-le n new (omega (arith, l, long)))))

-- ---- the trees after the first j
others_stand : (j : ℕ) (f : Row) → Formed f → j ≤ width f → (ws : List ℕ) (at : ℕ) (after : List ℕ) → drop at ws ≡ words f ++ after
    → (child_at ws at j + length (words (others j f)) ≡ at + length (words f)) × (drop (child_at ws at j) ws ≡ words (others j f) ++ after)
others_stand zero f w l ws at after e = rw (others_none f, child_none ws at) (refl, e)
others_stand (suc j) nothing w l ws at after e = absurd (omega (arith, l, width_nothing))
others_stand (suc j) (node h kids rest) w l ws at after e =
    let g = formed_node h kids rest w in
    let first = node h kids nothing in
    let s : drop at ws ≡ words (node h kids nothing) ++ (words rest ++ after) = e ∙ split_words h kids rest after in
    let ends : part_end (drop at ws) ≡ length (words (node h kids nothing)) =
    tree_ends first (node_formed h kids nothing (record { table = g.table; full = g.full; below = g.below; beside = formed_nothing })) (width_node h kids nothing ∙ ap suc width_nothing) (drop at ws) (words rest ++ after) s in
    let next : drop (next_tree ws at) ws ≡ words rest ++ after = ap (λ (n : ℕ). drop (at + n) ws) ends ∙ further at (length (words first)) ws (words first) (words rest ++ after) s refl in
    let r = others_stand j rest g.beside (omega (arith, l, width_node h kids rest)) ws (next_tree ws at) after next in
    let long : length (words (node h kids rest)) ≡ length (words (node h kids nothing)) + length (words rest) =
    omega (arith, ap length (words_node h kids rest), length-append (words kids) (words rest), ap length (words_tree h kids)) in
    rw (others_node j h kids rest, child_next ws at j) (omega (arith, r.0, long, ends), r.1)

-- ---- the part that the words begin with
record PartHere (part : List ℕ) : Type 0 where
  head : Head
  kids : Row
  after : List ℕ
  is : part_from part 0 ≡ node head kids nothing
  table : InTable head
  full : width kids ≡ Word.count head
  below : Formed kids
  first : word head ≡ get_or part 0 0
  behind : drop 1 part ≡ words kids ++ after
  ends : part_end part ≡ 1 + length (words kids)

module _ (part : List ℕ) (parted : Parted part) (some_words : 0 < length part) where
  node_here : (h : Head) (kids : Row) (after : List ℕ) → Stands 64 1 part 0 (node h kids nothing) after → PartHere part
  node_here h kids after s =
      let a = head_at_lem 0 part h kids after some_words s.same in
      let f = formed_node h kids nothing s.formed in
      record {
        head = h;
        kids = kids;
        after = after;
        is = from_stands part 0 (node h kids nothing) after parted.short s;
        table = f.table;
        full = f.full;
        below = f.below;
        first = a.0;
        behind = a.1;
        ends = part_ends 64 part (node h kids nothing) after s ∙ ap length (words_tree h kids) ∙ omega arith;
      }

  here : (t : Row) (after : List ℕ) → Stands 64 1 part 0 t after → PartHere part
  here nothing after s = absurd (omega (arith, s.wide, width_nothing))
  here (node h kids nothing) after s = node_here h kids after s
  here (node h kids (node g ks rest)) after s = absurd (omega (arith, s.wide, width_node h kids (node g ks rest), width_node g ks rest))

  part_here : PartHere part
  part_here = let b = parted.begins 0 some_words in here b.0 b.1 b.2

  module _ (b : ℕ) where
    -- they are as many as the root counts after the first b
    pub aside_many : aside b (part_from part 0) ≡ count_of (get_or part 0 0) - b
    aside_many =
        let p = part_here in
        ap (aside b) p.is ∙ aside_node b p.head p.kids nothing ∙ ap (λ (n : ℕ). n - b) (sym (count_word_lem p.head p.table) ∙ ap count_of p.first)

    pub aside_width : width (aside_arguments b (part_from part 0)) ≡ count_of (get_or part 0 0) - b
    aside_width = width_aside b (part_from part 0) (parted_body part parted some_words).within.formed ∙ aside_many

    pub aside_none : count_of (get_or part 0 0) ≤ b → aside_arguments b (part_from part 0) ≡ nothing
    aside_none l = none_wide (aside_arguments b (part_from part 0)) (omega (arith, l, aside_width))

    module _ (l : b ≤ count_of (get_or part 0 0)) where
      stand : (child_at part 1 b + length (words (aside_arguments b (part_from part 0))) ≡ part_end part) × (p : PartHere part) × (drop (child_at part 1 b) part ≡ words (aside_arguments b (part_from part 0)) ++ p.after)
      stand =
          let p = part_here in
          let n : count_of (get_or part 0 0) ≡ width p.kids = sym (ap count_of p.first) ∙ count_word_lem p.head p.table ∙ sym p.full in
          let a : aside_arguments b (part_from part 0) ≡ others b p.kids = ap (aside_arguments b) p.is ∙ aside_arguments_node b p.head p.kids nothing in
          let o = others_stand b p.kids p.below (omega (arith, l, n)) part 1 p.after p.behind in
          rw a (o.0 ∙ sym p.ends, p, o.1)

      -- from the argument b to the part's end
      pub aside_lies : (child_at part 1 b ≤ part_end part) × (part_end part ≤ length part)
      aside_lies = (omega (arith, stand.0), part_short part)

      pub aside_words : (from end : ℕ) → from ≡ child_at part 1 b → end ≡ part_end part → take (end - from) (drop from part) ≡ words (aside_arguments b (part_from part 0))
      aside_words from end e f =
          let s = stand in
          let n : length (words (aside_arguments b (part_from part 0))) ≡ end - from = omega (arith, s.0, e, f) in
          ap (take (end - from)) (ap (λ (k : ℕ). drop k part) e ∙ s.2) ∙ take_at (words (aside_arguments b (part_from part 0))) s.1.after (end - from) n
