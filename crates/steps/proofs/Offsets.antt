-- Offsets of a term's words and its tree say the same: the part at an offset is read there, and replacing it replaces its words and no others.
use mathlib.Core.Path.{◌≡◌, refl, sym, ap, ap₂, ◌∙◌}
use mathlib.Core.Bool.{Bool, true, false}
use mathlib.Core.List.{List, [], ◌∷◌, ◌++◌, append_assoc, append-nil}
use mathlib.Core.Option.{some}
use Prim.Native.Nat.{ℕ, zero, suc, ◌+◌, ◌-◌, ◌≤◌, ◌<◌, max}
use native.Mathlib.Omega.{arith}
use lib.Dec.{ltb}
use lib.ListN.{length, take, drop, length-append}
use lib.Seq.{take_at, drop_at}
use borrow.Author.Tests.{ltb-true, ltb-false, lt-ltb, le-ltb}
use Rattle.term.specs.Word.{Head, word}
use Rattle.term.specs.Row.{Row, nothing, node, width, words, nesting, ranks, Formed, ◌⧺◌, read}
use Rattle.term.specs.Told.Walk.{Stands}
use Rattle.term.specs.Part.{part_end}
use Rattle.term.proofs.Laws.{words_nothing, words_node, words_join, width_nothing, width_node, width_join, nesting_node, nesting_nothing, ranks_node, ranks_nothing, ranks_join, formed_node, formed_nothing, node_formed, read_words_lem, part_ends}
use Rattle.steps.specs.Offset.{part_at, spliced}
use Rattle.steps.proofs.Shaped.{Shaped, shaped_join}

-- ---- an offset is a node's own, one of its children's, or one of what stands to its right
long_node : (h : Head) (kids rest : Row) → length (words (node h kids rest)) ≡ suc (length (words kids) + length (words rest))
long_node h kids rest = ap length (words_node h kids rest) ∙ ap suc (length-append (words kids) (words rest))

module _ (P : Row → ℕ → Type 0)
    (here : (h : Head) (kids rest : Row) → P (node h kids rest) 0)
    (below : (h : Head) (kids rest : Row) (at : ℕ) → at < length (words kids) → P kids at → P (node h kids rest) (suc at))
    (beside : (h : Head) (kids rest : Row) (at : ℕ) → length (words kids) ≤ at → P rest (at - length (words kids)) → P (node h kids rest) (suc at)) where
  pub at_offset : (t : Row) (at : ℕ) → at < length (words t) → P t at
  at_offset nothing at l = let z : length (words nothing) ≡ 0 = ap length words_nothing in absurd (omega (arith, z))
  at_offset (node h kids rest) zero l = here h kids rest
  at_offset (node h kids rest) (suc at) l =
      go (ltb at (length (words kids))) refl (λ q. at_offset kids at q)
      (λ q. at_offset rest (at - length (words kids)) (omega (arith, long_node h kids rest)))
    where
      go : (b : Bool) → ltb at (length (words kids)) ≡ b → (at < length (words kids) → P kids at)
          → (length (words kids) ≤ at → P rest (at - length (words kids))) → P (node h kids rest) (suc at)
      go true e f g = let q = ltb-true at (length (words kids)) e in below h kids rest at q (f q)
      go false e f g = let q = ltb-false at (length (words kids)) e in beside h kids rest at q (g q)

-- ---- clauses
module _ (h : Head) (kids rest : Row) where
  pub part_first : part_at (node h kids rest) 0 ≡ node h kids nothing
  unfolding part_at
  part_first = refl

  pub splice_first : (u : Row) → spliced (node h kids rest) 0 u ≡ u ⧺ rest
  unfolding spliced
  splice_first u = refl

  module _ (at : ℕ) (l : at < length (words kids)) where
    pub part_below : part_at (node h kids rest) (suc at) ≡ part_at kids at
    unfolding part_at
    part_below = rw (lt-ltb at (length (words kids)) l)

    pub splice_below : (u : Row) → spliced (node h kids rest) (suc at) u ≡ node h (spliced kids at u) rest
    unfolding spliced
    splice_below u = rw (lt-ltb at (length (words kids)) l)

  module _ (at : ℕ) (l : length (words kids) ≤ at) where
    pub part_beside : part_at (node h kids rest) (suc at) ≡ part_at rest (at - length (words kids))
    unfolding part_at
    part_beside = rw (le-ltb at (length (words kids)) l)

    pub splice_beside : (u : Row) → spliced (node h kids rest) (suc at) u ≡ node h kids (spliced rest (at - length (words kids)) u)
    unfolding spliced
    splice_beside u = rw (le-ltb at (length (words kids)) l)

-- ---- the words before a part and those after it
pub record Split (t : Row) (at : ℕ) : Type 0 where
  pub before : List ℕ
  pub after : List ℕ
  pub long : length before ≡ at
  pub whole : words t ≡ before ++ (words (part_at t at) ++ after)
  pub new : (u : Row) → words (spliced t at u) ≡ before ++ (words u ++ after)

split_here : (h : Head) (kids rest : Row) → Split (node h kids rest) 0
split_here h kids rest =
    record {
      before = [];
      after = words rest;
      long = refl;
      whole =
          words_node h kids rest
          ∙ ap (λ (ws : List ℕ). word h ∷ (ws ++ words rest)) (sym (append-nil (words kids)) ∙ ap (λ (ws : List ℕ). words kids ++ ws) (sym words_nothing))
          ∙ ap (λ (ws : List ℕ). ws ++ words rest) (sym (ap words (part_first h kids rest) ∙ words_node h kids nothing));
      new = λ u. ap words (splice_first h kids rest u) ∙ words_join u rest;
    }

split_below : (h : Head) (kids rest : Row) (at : ℕ) → at < length (words kids) → Split kids at → Split (node h kids rest) (suc at)
split_below h kids rest at l s =
    let r : (ws : List ℕ) → (s.before ++ (ws ++ s.after)) ++ words rest ≡ s.before ++ (ws ++ (s.after ++ words rest)) =
    λ ws. append_assoc s.before (ws ++ s.after) (words rest) ∙ ap (λ (vs : List ℕ). s.before ++ vs) (append_assoc ws s.after (words rest)) in
    record {
      before = word h ∷ s.before;
      after = s.after ++ words rest;
      long = ap suc s.long;
      whole =
          words_node h kids rest
          ∙ ap (word h ∷◌) (ap (λ (ws : List ℕ). ws ++ words rest) s.whole ∙ r (words (part_at kids at)))
          ∙ ap (λ (t : Row). word h ∷ (s.before ++ (words t ++ (s.after ++ words rest)))) (sym (part_below h kids rest at l));
      new = λ u.
          ap words (splice_below h kids rest at l u)
          ∙ words_node h (spliced kids at u) rest
          ∙ ap (word h ∷◌) (ap (λ (ws : List ℕ). ws ++ words rest) (s.new u) ∙ r (words u));
    }

split_beside : (h : Head) (kids rest : Row) (at : ℕ) → length (words kids) ≤ at → Split rest (at - length (words kids)) → Split (node h kids rest) (suc at)
split_beside h kids rest at l s =
    record {
      before = word h ∷ (words kids ++ s.before);
      after = s.after;
      long = ap suc (length-append (words kids) s.before ∙ omega (arith, s.long));
      whole =
          words_node h kids rest
          ∙ ap (word h ∷◌) (ap (λ (ws : List ℕ). words kids ++ ws) s.whole ∙ sym (append_assoc (words kids) s.before (words (part_at rest (at - length (words kids))) ++ s.after)))
          ∙ ap (λ (t : Row). word h ∷ ((words kids ++ s.before) ++ (words t ++ s.after))) (sym (part_beside h kids rest at l));
      new = λ u.
          ap words (splice_beside h kids rest at l u)
          ∙ words_node h kids (spliced rest (at - length (words kids)) u)
          ∙ ap (word h ∷◌) (ap (λ (ws : List ℕ). words kids ++ ws) (s.new u) ∙ sym (append_assoc (words kids) s.before (words u ++ s.after)));
    }

pub split : (t : Row) (at : ℕ) → at < length (words t) → Split t at
split = at_offset Split split_here split_below split_beside

-- ---- in words: what lies before the offset, the part, what lies after it
module _ (t : Row) (at : ℕ) (l : at < length (words t)) where
  abbrev pub end_at : ℕ
  end_at = at + length (words (part_at t at))

  before_is : take at (words t) ≡ (split t at l).before
  before_is = let s = split t at l in rw s.whole (take_at s.before (words (part_at t at) ++ s.after) at s.long)

  part_then : drop at (words t) ≡ words (part_at t at) ++ (split t at l).after
  part_then = let s = split t at l in ap (drop at) s.whole ∙ drop_at s.before (words (part_at t at) ++ s.after) at s.long

  after_is : drop end_at (words t) ≡ (split t at l).after
  after_is =
      let s = split t at l in
      ap (drop end_at) (s.whole ∙ sym (append_assoc s.before (words (part_at t at)) s.after))
      ∙ drop_at (s.before ++ words (part_at t at)) s.after end_at (length-append s.before (words (part_at t at)) ∙ ap (λ (n : ℕ). n + length (words (part_at t at))) s.long)

  pub part_words : drop at (words t) ≡ words (part_at t at) ++ drop end_at (words t)
  part_words = part_then ∙ ap (λ (ws : List ℕ). words (part_at t at) ++ ws) (sym after_is)

  pub spliced_words_lem : (u : Row) → words (spliced t at u) ≡ take at (words t) ++ (words u ++ drop end_at (words t))
  spliced_words_lem u = (split t at l).new u ∙ ap₂ (λ (xs : List ℕ) (ys : List ℕ). xs ++ (words u ++ ys)) (sym before_is) (sym after_is)

-- ---- a part of a term is a term
pub record PartOf (t p : Row) : Type 0 where
  pub one : width p ≡ 1
  pub formed : Formed t → Formed p
  pub few : ranks p ≤ ranks t
  pub low : nesting p ≤ nesting t

abbrev PartThere : Row → ℕ → Type 0
PartThere t at = PartOf t (part_at t at)

part_here : (h : Head) (kids rest : Row) → PartThere (node h kids rest) 0
part_here h kids rest =
    rw (part_first h kids rest)
    (record {
      one = width_node h kids nothing ∙ ap suc width_nothing;
      formed = λ f. let n = formed_node h kids rest f in node_formed h kids nothing (record { table = n.table; full = n.full; below = n.below; beside = formed_nothing });
      few = omega (arith, ranks_node h kids rest, ranks_node h kids nothing, ranks_nothing);
      low = omega (arith, nesting_node h kids rest, nesting_node h kids nothing, nesting_nothing);
    })

part_of_kids : (h : Head) (kids rest : Row) (at : ℕ) → at < length (words kids) → PartThere kids at → PartThere (node h kids rest) (suc at)
part_of_kids h kids rest at l p =
    rw (part_below h kids rest at l)
    (record {
      one = p.one;
      formed = λ f. p.formed (formed_node h kids rest f).below;
      few = omega (arith, ranks_node h kids rest, p.few);
      low = omega (arith, nesting_node h kids rest, p.low);
    })

part_of_rest : (h : Head) (kids rest : Row) (at : ℕ) → length (words kids) ≤ at → PartThere rest (at - length (words kids)) → PartThere (node h kids rest) (suc at)
part_of_rest h kids rest at l p =
    rw (part_beside h kids rest at l)
    (record {
      one = p.one;
      formed = λ f. p.formed (formed_node h kids rest f).beside;
      few = omega (arith, ranks_node h kids rest, p.few);
      low = omega (arith, nesting_node h kids rest, p.low);
    })

pub part_of_lem : (t : Row) (at : ℕ) → at < length (words t) → PartOf t (part_at t at)
part_of_lem = at_offset PartThere part_here part_of_kids part_of_rest

-- the part is what is read at the offset, and ends where its counts say
module _ (t : Row) (at : ℕ) (l : at < length (words t)) (f : Formed t) where
  pub part_read : read 1 (drop at (words t)) ≡ some (part_at t at, drop (end_at t at l) (words t))
  part_read =
      let p = part_of_lem t at l in
      ap (read 1) (part_words t at l) ∙ ap (λ (n : ℕ). read n (words (part_at t at) ++ drop (end_at t at l) (words t))) (sym p.one)
      ∙ read_words_lem (part_at t at) (p.formed f) (drop (end_at t at l) (words t))

  pub part_stands : ranks t ≤ 2 → nesting t ≤ 64 → Stands 64 1 (drop at (words t)) 0 (part_at t at) (drop (end_at t at l) (words t))
  part_stands k n =
      let p = part_of_lem t at l in
      record { formed = p.formed f; few = omega (arith, k, p.few); low = omega (arith, n, p.low); wide = p.one; same = part_words t at l }

  pub part_end_lem : ranks t ≤ 2 → nesting t ≤ 64 → part_end (drop at (words t)) ≡ length (words (part_at t at))
  part_end_lem k n = part_ends 64 (drop at (words t)) (part_at t at) (drop (end_at t at l) (words t)) (part_stands k n)

-- ---- what a term with a part replaced keeps
pub record Spliced (t u v : Row) : Type 0 where
  pub wide : width u ≡ 1 → width v ≡ width t
  pub shaped : Shaped t → Shaped u → width u ≡ 1 → Shaped v
  pub few : ranks v ≤ max (ranks t) (ranks u)

abbrev SplicedThere : Row → ℕ → Type 0
SplicedThere t at = (u : Row) → Spliced t u (spliced t at u)

splice_here : (h : Head) (kids rest : Row) → SplicedThere (node h kids rest) 0
unfolding Shaped
splice_here h kids rest u =
    rw (splice_first h kids rest u)
    (record {
      wide = λ w. width_join u rest ∙ omega (arith, w, width_node h kids rest);
      shaped = λ s a w. shaped_join u rest a s.3;
      few = omega (arith, ranks_join u rest, ranks_node h kids rest);
    })

splice_kids : (h : Head) (kids rest : Row) (at : ℕ) → at < length (words kids) → SplicedThere kids at → SplicedThere (node h kids rest) (suc at)
unfolding Shaped
splice_kids h kids rest at l p u =
    let q = p u in
    rw (splice_below h kids rest at l u)
    (record {
      wide = λ w. width_node h (spliced kids at u) rest ∙ sym (width_node h kids rest);
      shaped = λ s a w. (s.0, q.wide w ∙ s.1, q.shaped s.2 a w, s.3);
      few = omega (arith, ranks_node h (spliced kids at u) rest, ranks_node h kids rest, q.few);
    })

splice_rest : (h : Head) (kids rest : Row) (at : ℕ) → length (words kids) ≤ at → SplicedThere rest (at - length (words kids)) → SplicedThere (node h kids rest) (suc at)
unfolding Shaped
splice_rest h kids rest at l p u =
    let q = p u in
    rw (splice_beside h kids rest at l u)
    (record {
      wide = λ w. width_node h kids (spliced rest (at - length (words kids)) u) ∙ ap suc (q.wide w) ∙ sym (width_node h kids rest);
      shaped = λ s a w. (s.0, s.1, s.2, q.shaped s.3 a w);
      few = omega (arith, ranks_node h kids (spliced rest (at - length (words kids)) u), ranks_node h kids rest, q.few);
    })

pub splice_keeps : (t : Row) (at : ℕ) → at < length (words t) → (u : Row) → Spliced t u (spliced t at u)
splice_keeps = at_offset SplicedThere splice_here splice_kids splice_rest
