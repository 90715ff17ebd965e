-- `check` finds a list of words good just where they are the words of one tree within the limits.
use mathlib.Core.Path.{◌≡◌, refl, sym, ap, ◌∙◌}
use mathlib.Core.List.{List, [], ◌∷◌, ◌++◌, append_assoc, append-nil}
use mathlib.Core.Bool.{Bool, true, false}
use mathlib.Core.Option.{Option, none, some}
use Prim.Native.Nat.{ℕ, zero, suc, ◌+◌, ◌-◌, ◌≤◌, ◌<◌, max}
use native.Mathlib.Omega.{arith}
use native.Mathlib.Nat.{suc-add, zero-add, add-zero, le-max_left, le-max_right}
use lib.ListN.{length, length-append}
use lib.Dec.{leb}
use borrow.Author.Tests.{lt-ltb, le-leb, leb-true, ltb-true}
use Rattle.std.specs.Prelude.{Ok, Err}
use Rattle.term.specs.Word.{Head, pick, rank, count, word, InTable, count_of, head_of}
use Rattle.term.specs.Row.{Row, nothing, node, width, words, nesting, ranks, Formed}
use Rattle.term.specs.Check.{Limits, IsTree, rank_or, may_stand, settle, scan, check}
use Rattle.term.proofs.Words.{never, and_left, and_right, and_both, head_word_lem, head_is_lem, count_word_lem}

module _ (limits : Limits) where
  -- a head of the table may stand where its rank, the nesting and the offset are within the limits
  stands : (at n : ℕ) (h : Head) → InTable h → rank h ≤ limits.ranks → n ≤ limits.nesting → at < limits.length → may_stand limits at n (word h) ≡ true
  unfolding may_stand
  stands at n h t k d l =
      rw (head_word_lem h t)
      (and_both _ _ (le-leb (rank h) limits.ranks k) (and_both _ _ (le-leb n limits.nesting d) (lt-ltb at limits.length l)))

  -- the words of a row are passed over
  passed : (f : Row) (at n : ℕ) (s t : List ℕ) → Formed f → ranks f ≤ limits.ranks → nesting f + length s ≤ limits.nesting
      → at + length (words f) ≤ limits.length
      → scan limits at (settle ((width f + n) ∷ s)) (words f ++ t) ≡ scan limits (at + length (words f)) (settle (n ∷ s)) t
  unfolding scan settle width words Formed nesting ranks
  passed nothing at n s t p k d l = rw (zero-add n, add-zero at)
  passed (node h kids rest) at n s t p k d l =
      let hk : suc (nesting kids) ≤ max (suc (nesting kids)) (nesting rest) = le-max_left _ _ in
      let hr : nesting rest ≤ max (suc (nesting kids)) (nesting rest) = le-max_right _ _ in
      let ls : length (words kids ++ words rest) ≡ length (words kids) + length (words rest) = length-append (words kids) (words rest) in
      let q : suc (width rest + n) - 1 ≡ width rest + n = omega arith in
      let c : count_of (word h) ≡ width kids + 0 = omega (arith, count_word_lem h p.0, p.1) in
      let e : at + suc (length (words kids ++ words rest)) ≡ at + 1 + length (words kids) + length (words rest) = omega arith in
      rw (suc-add (width rest) n, stands at (suc (length s)) h p.0 (omega arith) (omega arith) (omega arith), q, c, append_assoc (words kids) (words rest) t, e)
      (passed kids (at + 1) 0 ((width rest + n) ∷ s) (words rest ++ t) p.2 (omega arith) (omega arith) (omega arith)
      ∙ passed rest (at + 1 + length (words kids)) n s t p.3 (omega arith) (omega arith) (omega arith))

  pub tree_good : (ws : List ℕ) → IsTree limits ws → check limits ws ≡ Ok tt
  unfolding check scan settle
  tree_good ws i =
      let l : length (words i.tree) ≤ limits.length = rw i.same at i.short in
      let e : width i.tree + 0 ≡ 1 = omega (arith, i.one) in
      let a : ws ≡ words i.tree ++ [] = i.same ∙ sym (append-nil _) in
      rw a (rw e at (passed i.tree 0 0 [] [] i.formed i.few (omega (arith, i.low)) (omega (arith, l))))

  -- the words are those of a row for each open level
  Parsed : List ℕ → List ℕ → Type 0
  Parsed [] ws = ws ≡ []
  Parsed (k ∷ s) ws =
      (f : Row) × (t : List ℕ) × Formed f × (ranks f ≤ limits.ranks) × (width f ≡ k) × (nesting f + length s ≤ limits.nesting) × (ws ≡ words f ++ t) × Parsed s t

  unsettle : (s ws : List ℕ) → length s ≤ limits.nesting + 1 → Parsed (settle s) ws → Parsed s ws
  unfolding Parsed settle words width Formed nesting ranks
  unsettle [] ws d p = p
  unsettle (zero ∷ s) ws d p = (nothing, ws, tt, omega arith, refl, omega arith, refl, unsettle s ws (omega arith) p)
  unsettle (suc k ∷ s) ws d p = p

  Open : List ℕ → Type 0
  Open [] = Unit {0}
  Open (k ∷ s) = 1 ≤ k

  settle_open : (s : List ℕ) → Open (settle s)
  unfolding settle Open
  settle_open [] = tt
  settle_open (zero ∷ s) = settle_open s
  settle_open (suc k ∷ s) = omega arith

  -- what a word that may stand is
  record Stood (at n w : ℕ) : Type 0 where
    head : Head
    is : word head ≡ w
    table : InTable head
    allowed : rank head ≤ limits.ranks
    low : n ≤ limits.nesting
    near : at < limits.length

module _ (limits : Limits) (few : limits.ranks ≤ 3) where
  stood : (at n w : ℕ) → may_stand limits at n w ≡ true → Stood limits at n w
  unfolding may_stand
  stood at n w e = found (head_of w) refl
    where
      k : leb (rank_or 4 (head_of w)) limits.ranks ≡ true
      k = and_left _ _ e

      found : (o : Option Head) → head_of w ≡ o → Stood limits at n w
      found none q = absurd (let h : 4 ≤ limits.ranks = leb-true 4 limits.ranks (rw q at k) in omega arith)
      found (some h) q =
          let i = head_is_lem w h q in
          let r = and_right (leb (rank_or 4 (head_of w)) limits.ranks) _ e in
          record {
            head = h;
            is = i.0;
            table = i.1;
            allowed = leb-true _ _ (rw q at k);
            low = leb-true _ _ (and_left _ _ r);
            near = ltb-true _ _ (and_right (leb n limits.nesting) _ r);
          }

  -- what a scan that finds one tree went through
  record Passed (at k : ℕ) (s : List ℕ) (w : ℕ) (ws : List ℕ) : Type 0 where
    here : Stood limits at (length (k ∷ s)) w
    next : scan limits (at + 1) (settle (count_of w ∷ (k - 1) ∷ s)) ws ≡ Ok tt

  went : (at k : ℕ) (s : List ℕ) (w : ℕ) (ws : List ℕ) → scan limits at (k ∷ s) (w ∷ ws) ≡ Ok tt → Passed at k s w ws
  unfolding scan
  went at k s w ws g = picked (may_stand limits at (length (k ∷ s)) w) refl g
    where
      picked : (b : Bool) → may_stand limits at (length (k ∷ s)) w ≡ b
          → pick b (scan limits (at + 1) (settle (count_of w ∷ (k - 1) ∷ s)) ws) (Err at) ≡ Ok tt → Passed at k s w ws
      picked true e g = record { here = stood at (length (k ∷ s)) w e; next = g }
      picked false e g = never (cc)

  built : (at k : ℕ) (s : List ℕ) (w : ℕ) (ws : List ℕ) → 1 ≤ k → Stood limits at (length (k ∷ s)) w → Parsed limits (count_of w ∷ (k - 1) ∷ s) ws → Parsed limits (k ∷ s) (w ∷ ws)
  unfolding Parsed words width Formed nesting ranks
  built at k s w ws o g p =
      let r = p.7 in
      let c : count g.head ≡ count_of w = sym (count_word_lem g.head g.table) ∙ ap count_of g.is in (
        node g.head p.0 r.0,
        r.1,
        (g.table, p.4 ∙ sym c, p.2, r.2),
        omega (arith, g.allowed, p.3, r.3),
        omega (arith, r.4),
        omega (arith, p.5, r.5, g.low),
        rw (p.6, r.6, g.is, append_assoc (words p.0) (words r.0) r.1),
        r.7,
      )

  parsed : (ws : List ℕ) (at : ℕ) (s : List ℕ) → Open limits s → scan limits at s ws ≡ Ok tt → Parsed limits s ws
  unfolding scan Parsed Open
  parsed [] at [] o g = refl
  parsed [] at (k ∷ s) o g = never (cc)
  parsed (w ∷ ws) at [] o g = never (cc)
  parsed (w ∷ ws) at (k ∷ s) o g =
      let i = went at k s w ws g in
      built at k s w ws o i.here
      (unsettle limits (count_of w ∷ (k - 1) ∷ s) ws (omega (arith, i.here.low)) (parsed ws (at + 1) (settle (count_of w ∷ (k - 1) ∷ s)) (settle_open limits (count_of w ∷ (k - 1) ∷ s)) i.next))

  few_words : (ws : List ℕ) (at : ℕ) (s : List ℕ) → at ≤ limits.length → scan limits at s ws ≡ Ok tt → at + length ws ≤ limits.length
  unfolding scan
  few_words [] at s a g = omega arith
  few_words (w ∷ ws) at [] a g = never (cc)
  few_words (w ∷ ws) at (k ∷ s) a g =
      let i = went at k s w ws g in
      omega (arith, few_words ws (at + 1) (settle (count_of w ∷ (k - 1) ∷ s)) (omega (arith, i.here.near)) i.next)

  pub good_tree : (ws : List ℕ) → check limits ws ≡ Ok tt → IsTree limits ws
  unfolding check Parsed settle
  good_tree ws g =
      let p = parsed ws 0 (1 ∷ []) (settle_open limits (1 ∷ [])) g in
      record {
        tree = p.0;
        one = p.4;
        formed = p.2;
        few = p.3;
        low = omega (arith, p.5);
        short = omega (arith, few_words ws 0 (1 ∷ []) (omega arith) g);
        same = p.6 ∙ rw (p.7, append-nil (words p.0));
      }
