-- What the walk with a book answers and leaves, way by way: how the walk ended, and whether the book has the Leaf. A body is a term, so there is room for 16.
use mathlib.Core.Path.{◌≡◌, sym, ap, ◌∙◌}
use mathlib.Core.Bool.{Bool, true, false, not}
use mathlib.Core.List.{List, ◌∷◌, ◌++◌}
use Prim.Native.Nat.{ℕ, zero, suc, ◌+◌, ◌*◌, ◌-◌, ◌≤◌, ◌<◌}
use native.Mathlib.Omega.{arith}
use lib.Dec.{eqb}
use lib.ListN.{length, get_or, drop, replicate, length-append, length-drop}
use lib.Seq.{drop-cons, get_or-drop}
use borrow.Author.Tests.{le-leb, lt-leb}
use Rattle.std.specs.Prelude.{Option, Some, None, Result, Ok, Err}
use Rattle.std.specs.Option.{is_some}
use Rattle.term.specs.Word.{word, count_of, pick}
use Rattle.term.specs.Row.{Row, nothing, words}
use Rattle.term.proofs.Laws.{never, words_node}
use Rattle.fit.specs.Fit.{IsBody}
use Rattle.fit.specs.Match.{body_list}
use Rattle.fit.proofs.Laws.{bodies_none, bodies_more, fitted_room}
use Rattle.tree.specs.Tree.{LeafNode}
use Rattle.tree.specs.Find.{root_count, root_part, leaf_body}
use Rattle.walk.specs.Walk.{Walked, NoneFits, RuleFits, DamagedAt, variables_in, is_word, walk_from, walk, book_fits}
use Rattle.walk.specs.Told.Taken.{CaseTold}
use Rattle.walk.specs.declared.state.Walk.{Walk}
use Rattle.walk.specs.declared.state.Stands.TheVariants as stands
use Rattle.walk.specs.declared.with_book.BookWalk.{BookWalk}
use Rattle.walk.specs.Told.State.{part_from, places_of, Parted, leaf_in, leaf_rule, WalkTold, LeafWritten}
use Rattle.walk.specs.Told.WithBook.{book_walk, book_visits, leaf_fits, SkipTold, BookWalked}
use Rattle.walk.proofs.Uncovered.{one_tree, from_stands}
use Rattle.walk.proofs.Visits.{visits_walked, visits_long}
use Rattle.walk.proofs.Answers.{ended_visits, ended_none, ended_damaged, ended_leaf, ended_sound}
use Rattle.walk.proofs.Sound.{FoundSound, walk_sound}
use Rattle.walk.proofs.Skips.{no_case}
use Rattle.walk.proofs.BookLeaf.{judged_by}
use Rattle.walk.proofs.RootCounts.{part_counts}

-- ---- the root of the tree
module _ (table : List ℕ) (w : ℕ) (long : 3 ≤ length table) (tag : get_or table 0 0 ≡ 2) (place : get_or table 1 0 ≡ 0) where
  abbrev cases : ℕ
  cases = get_or table 2 0

  abbrev default : ℕ
  default = get_or table (3 + 2 * cases) 0

  root_is_lem : table ≡ 2 ∷ 0 ∷ cases ∷ drop 3 table
  root_is_lem =
      drop-cons table 0 0 (omega arith)
      ∙ ap (λ (ws : List ℕ). get_or table 0 0 ∷ ws) (drop-cons table 1 0 (omega arith) ∙ ap (λ (ws : List ℕ). get_or table 1 0 ∷ ws) (drop-cons table 2 0 (omega arith)))
      ∙ rw (tag, place)

  skips_root : 2 * cases < length table - 3 → (default ≡ 0 → ⊥) → default < length table → get_or table default 0 ≡ 0 → CaseTold w cases (drop 3 table) None → SkipTold table w true
  skips_root room later inside fail none_taken fits t is short =
      let d : get_or (drop 3 table) (2 * cases) 0 ≡ default = get_or-drop 3 table (2 * cases) 0 in
      no_case table t cases (drop 3 table) root_is_lem (rw (length-drop 3 table) room) (sym (none_taken t is)) fits short
      (rw d (omega (arith, later))) (rw d inside) (rw d fail)

  pub skips_told : 2 * cases < length table - 3 → (default ≡ 0 → ⊥) → default < length table → get_or table default 0 ≡ 0 → (t : Option ℕ) → CaseTold w cases (drop 3 table) t → (b : Bool) → is_some t ≡ not b
      → SkipTold table w b
  skips_told room later inside fail None told true e = skips_root room later inside fail told
  skips_told room later inside fail (Some to) told true e = never (cc)
  skips_told room later inside fail t told false e = tt

-- ---- the part that the words begin with
module _ (ws : List ℕ) (parted : Parted ws) (some_words : 0 < length ws) where
  pub parted_body : IsBody (part_from ws 0)
  parted_body =
      let b = parted.begins 0 some_words in
      let s = b.2 in
      rw (from_stands ws 0 b.0 b.1 parted.short s)
      (record {
        one = s.wide;
        within = record { formed = s.formed; few = s.few; low = s.low; short = omega (arith, parted.short, ap length s.same, length-append (words b.0) b.1) };
      })

  pub part_word : (v : ℕ) → is_word v (part_from ws 0) ≡ eqb v (get_or ws 0 0)
  unfolding is_word
  part_word v =
      let b = parted.begins 0 some_words in
      let o = one_tree b.0 b.2.wide in
      let e : ws ≡ words b.0 ++ b.1 = b.2.same in
      let f : words b.0 ≡ word o.0 ∷ (words o.1 ++ words nothing) = ap words o.2 ∙ words_node o.0 o.1 nothing in
      let g : get_or ws 0 0 ≡ word o.0 = ap (λ (l : List ℕ). get_or l 0 0) (e ∙ ap (λ (l : List ℕ). l ++ b.1) f) in
      rw (from_stands ws 0 b.0 b.1 parted.short b.2, o.2, g)

-- ---- so many bodies have room
bodies_room : (b : ℕ → Row) (x n : ℕ) → ((y : ℕ) → x ≤ y → y < x + n → length (words (b y)) ≤ 4096) → length (body_list b x n) ≤ 4096 * n
bodies_room b x zero h = let e : length (body_list b x 0) ≡ 0 = ap length (bodies_none b x) in omega (arith, e)
bodies_room b x (suc n) h =
    let r = bodies_room b (suc x) n (λ y l m. h y (omega arith) (omega arith)) in
    let e : length (body_list b x (suc n)) ≡ length (words (b x)) + length (body_list b (suc x) n) = ap length (bodies_more b x n) ∙ length-append (words (b x)) (body_list b (suc x) n) in
    omega (arith, e, h x (omega arith) (omega arith), r)

pub sixteen_room : (b : ℕ → Row) (n : ℕ) → n ≤ 16 → ((x : ℕ) → x < n → IsBody (b x)) → length (body_list b 0 n) ≤ 65536
sixteen_room b n few i = omega (arith, few, bodies_room b 0 n (λ y l m. (i y (omega arith)).within.short))

-- ---- what is answered and left
module _ (book table ws : List ℕ) (short : length table ≤ 16384) where
  abbrev asked : LeafNode → Bool
  asked = book_fits book (root_count (part_from ws 0))

  walk_here : book_walk book table ws ≡ walk_from asked table 0 (root_part (part_from ws 0))
  unfolding walk
  walk_here = rw (le-leb (length table) 16384 short)

  pub with_visits : (s : Walk) → WalkTold table ws s → s.visits ≡ book_visits table ws
  with_visits s t = ended_visits table ws s t ∙ sym (visits_walked table (part_from ws 0) short)

  module _ (s : Walk) (t : WalkTold table ws s) (r : Result (Option ℕ) ℕ) (bodies lengths : List ℕ) where
    module _ (b : bodies ≡ replicate 65536 0) (l : lengths ≡ replicate 16 0) where
      pub with_none : s.stands ≡ stands.NoRule → r ≡ Ok None → BookWalked (book_walk book table ws) r bodies lengths
      unfolding BookWalked
      with_none z e = rw (walk_here ∙ ended_none table ws s t z asked) (e, b, l)

      pub with_damaged : (s.stands ≡ stands.NoRule → ⊥) → (s.stands ≡ stands.Rule → ⊥) → r ≡ Err s.at → BookWalked (book_walk book table ws) r bodies lengths
      unfolding BookWalked
      with_damaged y z e = rw (walk_here ∙ ended_damaged table ws s t y z asked) (e, b, l)

    module _ (z : s.stands ≡ stands.Rule) (parted : Parted ws) (some_words : 0 < length ws) (a : ℕ) (arguments : a ≡ count_of (get_or ws 0 0)) where
      ended_here : book_walk book table ws ≡ pick (leaf_fits book a table s.at) (leaf_rule table (places_of ws s) s.at) (DamagedAt s.at)
      unfolding leaf_fits
      ended_here =
          let f = ended_leaf table ws s t z in
          walk_here ∙ f.ends asked ∙ rw (← (arguments ∙ part_counts ws parted some_words))
          (ap (λ (b : Bool). pick b (leaf_rule table (places_of ws s) s.at) (DamagedAt s.at))
          (judged_by book a (get_or table (s.at + 1) 0) (get_or table (s.at + 3) 0) (places_of ws s) (variables_in (get_or table (s.at + 2) 0) (drop (s.at + 4) table)) f.leaf.sound))

      pub with_unfit : bodies ≡ replicate 65536 0 → lengths ≡ replicate 16 0 → leaf_fits book a table s.at ≡ false → r ≡ Err s.at → BookWalked (book_walk book table ws) r bodies lengths
      unfolding BookWalked
      with_unfit b l f e = rw (ended_here, f) (e, b, l)

      module _ (f : leaf_fits book a table s.at ≡ true) where
        abbrev vars : ℕ
        vars = get_or table (s.at + 2) 0

        abbrev body : ℕ → Row
        body = leaf_body (places_of ws s) (leaf_in table s.at).variables

        found_here : book_walk book table ws ≡ leaf_rule table (places_of ws s) s.at
        found_here = ended_here ∙ rw f

        body_terms : (x : ℕ) → x < vars → IsBody (body x)
        body_terms =
            let q : FoundSound asked (leaf_rule table (places_of ws s) s.at) = rw found_here at (walk_sound (book_fits book) table (part_from ws 0) (parted_body ws parted some_words)) in
            q.3

        pub with_rule_lem : (room : ℕ) → room ≡ 65536 → (fits : Bool) → LeafWritten table ws s room bodies lengths fits → r ≡ Ok (Some (get_or table (s.at + 1) 0)) → BookWalked (book_walk book table ws) r bodies lengths
        unfolding BookWalked LeafWritten
        with_rule_lem room u fits w e =
            let q = fitted_room 65536 vars (leaf_in table s.at).aside body (sixteen_room body vars (ended_sound table ws s t z).few body_terms) in
            rw found_here (e, w.2 ∙ rw u q.1, w.3 ∙ rw u q.2)

-- ---- before the walk
module _ (book table ws : List ℕ) (r : Result (Option ℕ) ℕ) (bodies lengths : List ℕ) (b : bodies ≡ replicate 65536 0) (l : lengths ≡ replicate 16 0) where
  pub with_long : 16384 < length table → r ≡ Err 16384 → BookWalked (book_walk book table ws) r bodies lengths × (0 ≡ book_visits table ws)
  unfolding BookWalked walk
  with_long h e = (rw (lt-leb (length table) 16384 h) (e, b, l), sym (visits_long table (part_from ws 0) h))

  pub with_skip : length table ≤ 16384 → Parted ws → 0 < length ws → (skip : Bool) → skip ≡ true → SkipTold table (get_or ws 0 0) skip → r ≡ Ok None
      → BookWalked (book_walk book table ws) r bodies lengths × (2 ≡ book_visits table ws)
  unfolding BookWalked
  with_skip h p n skip z k e =
      let q : SkipTold table (get_or ws 0 0) true = rw z at k in
      let k = q (book_fits book) (part_from ws 0) (part_word ws p n) h in
      (rw k.0 (e, b, l), sym k.1)

-- ---- the promise of the walk with a book settles its answer, its visits and every lent word
found_settled : (w : Walked) (r q : Result (Option ℕ) ℕ) (b c l m : List ℕ) → BookWalked w r b l → BookWalked w q c m → (r ≡ q) × (b ≡ c) × (l ≡ m)
unfolding BookWalked
found_settled NoneFits r q b c l m x y = (x.0 ∙ sym y.0, x.1 ∙ sym y.1, x.2 ∙ sym y.2)
found_settled (RuleFits f n) r q b c l m x y = (x.0 ∙ sym y.0, x.1 ∙ sym y.1, x.2 ∙ sym y.2)
found_settled (DamagedAt at) r q b c l m x y = (x.0 ∙ sym y.0, x.1 ∙ sym y.1, x.2 ∙ sym y.2)

pub book_settled : (w : Walked) (v : ℕ) (r q : BookWalk) (b c l m : List ℕ) → BookWalked w r.found b l × (r.visits ≡ v) → BookWalked w q.found c m × (q.visits ≡ v) → (r ≡ q) × (b ≡ c) × (l ≡ m)
book_settled w v r q b c l m x y =
    let e = found_settled w r.found q.found b c l m x.0 y.0 in
    (same r.found q.found r.visits q.visits e.0 (x.1 ∙ sym y.1), e.1, e.2)
  where
    same : (f g : Result (Option ℕ) ℕ) (n k : ℕ) → f ≡ g → n ≡ k → ◌≡◌ {A = BookWalk} (record { found = f; visits = n }) (record { found = g; visits = k })
    same f g n k e z = rw (e, z)
