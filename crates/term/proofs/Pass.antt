-- One pass over the words of a part, with the levels that are open, meets the words of its body: it meets those of every row that stands
-- there, and where it comes to its end a row stands there.
use mathlib.Core.Path.{◌≡◌, refl, sym, ap, ◌∙◌}
use mathlib.Core.Bool.{Bool, true, false, ◌&&◌}
use mathlib.Core.List.{List, [], ◌∷◌, ◌++◌, append_assoc, append-nil}
use mathlib.Core.Option.{Option, none, some}
use Prim.Native.Nat.{ℕ, zero, suc, ◌+◌, ◌-◌, ◌≤◌, ◌<◌, max}
use native.Mathlib.Omega.{arith}
use native.Mathlib.Nat.{suc-add, zero-add, add-zero, le-max_left, le-max_right}
use lib.ListN.{length, length-append}
use lib.Dec.{leb, ltb}
use borrow.Author.Tests.{lt-ltb, le-leb, leb-true, ltb-true}
use Rattle.std.specs.Prelude.{Option as StdOption, Some, None}
use Rattle.term.specs.Word.{Head, pick, rank, count, word, InTable, count_of, head_of}
use Rattle.term.specs.Row.{Row, nothing, node, width, words, nesting, ranks, Formed}
use Rattle.term.specs.Renumber.{good_list, id_body, inside, renumber_head, renumber, named_head, named, closed}
use Rattle.term.specs.Part.{body_of}
use Rattle.term.specs.Told.Walk.{image_of, inside_word, Stands}
use Rattle.term.proofs.Words.{never, and_left, and_right, and_both, head_is_lem, head_word_lem, count_word_lem}
use Rattle.term.proofs.Images.{Imaged, imaged, inside_is, inside_imaged}
use Rattle.term.proofs.Bodies.{closed_body, body_is}
use Rattle.term.proofs.Answers.{part_stands, BodyIs, body_of_lem}

-- an open level: the number of its trees that are still to begin, and the abstractions around them
pub data Level : Type 0 where
  level : ℕ → ℕ → Level

-- a level with no trees to begin is closed
unfoldable pub settle : List Level → List Level
settle [] = []
settle (level zero e ∷ s) = settle s
settle (level (suc k) e ∷ s) = level (suc k) e ∷ s

-- a word at an offset, where so many levels are open, is within what a term may have
abbrev pub near : ℕ → ℕ → Bool
near at n = ltb at 4096 && leb n 64

unfoldable pub ahead : StdOption ℕ → Option (List ℕ) → Option (List ℕ)
ahead None o = none
ahead (Some v) none = none
ahead (Some v) (some vs) = some (v ∷ vs)

-- the images of the words from offset `at` on, until no level is open; none where a word is missing, has none, or is not near
unfoldable pub images : (ℕ → ℕ → ℕ) → ℕ → List Level → List ℕ → Option (List ℕ)
images m at [] [] = some []
images m at [] (w ∷ ws) = some []
images m at (level k e ∷ s) [] = none
images m at (level k e ∷ s) (w ∷ ws) =
    pick (near at (suc (length s)))
    (ahead (image_of m e (head_of w)) (images m (at + 1) (settle (level (count_of w) (inside_word w e) ∷ level (k - 1) e ∷ s)) ws))
    none

-- ---- a row that stands is passed over
before : List ℕ → Option (List ℕ) → Option (List ℕ)
before us none = none
before us (some vs) = some (us ++ vs)

before_none : (o : Option (List ℕ)) → before [] o ≡ o
unfolding before
before_none none = refl
before_none (some vs) = refl

before_before : (us vs : List ℕ) (o : Option (List ℕ)) → before us (before vs o) ≡ before (us ++ vs) o
unfolding before
before_before us vs none = refl
before_before us vs (some ts) = ap some (sym (append_assoc us vs ts))

ahead_before : (v : ℕ) (us : List ℕ) (o : Option (List ℕ)) → ahead (Some v) (before us o) ≡ before (v ∷ us) o
unfolding ahead before
ahead_before v us none = refl
ahead_before v us (some ts) = refl

module _ (m : ℕ → ℕ → ℕ) where
  stepped : (at k e : ℕ) (s : List Level) (w : ℕ) (ws : List ℕ) (v : ℕ) → near at (suc (length s)) ≡ true → image_of m e (head_of w) ≡ Some v
      → images m at (level k e ∷ s) (w ∷ ws) ≡ ahead (Some v) (images m (at + 1) (settle (level (count_of w) (inside_word w e) ∷ level (k - 1) e ∷ s)) ws)
  unfolding images
  stepped at k e s w ws v n i = rw (n, i)

  image_of_lem : (e : ℕ) (h : Head) → InTable h → rank h ≤ 2 → named_head m e h ≡ true → image_of m e (head_of (word h)) ≡ Some (word (renumber_head m e h))
  unfolding image_of
  image_of_lem e h t k n = rw (head_word_lem h t, le-leb (rank h) 2 k, n)

  is_near : (at n : ℕ) → at < 4096 → n ≤ 64 → near at n ≡ true
  is_near at n h l = and_both _ _ (lt-ltb at 4096 h) (le-leb n 64 l)

  -- a head before its children and the trees to its right
  node_passed : (h : Head) (kids rest : Row) (at k e : ℕ) (s : List Level) (t ks rs : List ℕ) (o : Option (List ℕ))
      → InTable h → rank h ≤ 2 → width kids ≡ count_of (word h) → at < 4096 → length s < 64 → named_head m e h ≡ true
      → images m (at + 1) (settle (level (width kids + 0) (inside h e) ∷ level (width rest + k) e ∷ s)) (words kids ++ (words rest ++ t)) ≡ before ks (before rs o)
      → images m at (level (suc (width rest + k)) e ∷ s) (word h ∷ (words kids ++ (words rest ++ t))) ≡ before (word (renumber_head m e h) ∷ (ks ++ rs)) o
  node_passed h kids rest at k e s t ks rs o p r c a d n q =
      let j : suc (width rest + k) - 1 ≡ width rest + k = omega arith in
      let b : count_of (word h) ≡ width kids + 0 = omega (arith, c) in
      stepped at (suc (width rest + k)) e s (word h) (words kids ++ (words rest ++ t)) (word (renumber_head m e h)) (is_near at (suc (length s)) a (omega arith)) (image_of_lem e h p r n)
      ∙ rw (j, b, inside_is h e p, q, before_before ks rs o) (ahead_before (word (renumber_head m e h)) (ks ++ rs) o)

  passed : (f : Row) (at k e : ℕ) (s : List Level) (t : List ℕ) → Formed f → ranks f ≤ 2 → nesting f + length s ≤ 64 → at + length (words f) ≤ 4096 → named m e f ≡ true
      → images m at (settle (level (width f + k) e ∷ s)) (words f ++ t) ≡ before (words (renumber m e f)) (images m (at + length (words f)) (settle (level k e ∷ s)) t)
  unfolding settle width words Formed nesting ranks renumber named
  passed nothing at k e s t p r d l n = rw (zero-add k, add-zero at) (sym (before_none _))
  passed (node h kids rest) at k e s t p r d l n =
      let hk : suc (nesting kids) ≤ max (suc (nesting kids)) (nesting rest) = le-max_left _ _ in
      let hr : nesting rest ≤ max (suc (nesting kids)) (nesting rest) = le-max_right _ _ in
      let ls : length (words kids ++ words rest) ≡ length (words kids) + length (words rest) = length-append (words kids) (words rest) in
      let a : at + suc (length (words kids ++ words rest)) ≡ at + 1 + length (words kids) + length (words rest) = omega arith in
      let x = and_right (named_head m e h) _ n in
      rw (suc-add (width rest) k, append_assoc (words kids) (words rest) t, a)
      (node_passed h kids rest at k e s t (words (renumber m (inside h e) kids)) (words (renumber m e rest)) _
      p.0 (omega arith) (p.1 ∙ sym (count_word_lem h p.0)) (omega arith) (omega arith) (and_left (named_head m e h) _ n)
      (passed kids (at + 1) 0 (inside h e) (level (width rest + k) e ∷ s) (words rest ++ t) p.2 (omega arith) (omega arith) (omega arith) (and_left (named m (inside h e) kids) _ x)
      ∙ ap (before (words (renumber m (inside h e) kids)))
      (passed rest (at + 1 + length (words kids)) k e s t p.3 (omega arith) (omega arith) (omega arith) (and_right (named m (inside h e) kids) _ x))))

  -- ---- where the pass comes to its end, a row stands for each open level
  Parsed : ℕ → List Level → List ℕ → Type 0
  Parsed at [] ws = Unit {0}
  Parsed at (level k e ∷ s) ws =
      (f : Row) × (t : List ℕ) × Formed f × (ranks f ≤ 2) × (width f ≡ k) × (nesting f + length s ≤ 64) × (named m e f ≡ true) × (at + length (words f) ≤ 4096) × (ws ≡ words f ++ t)
      × Parsed (at + length (words f)) s t

  unsettle : (s : List Level) (at : ℕ) (ws : List ℕ) → at ≤ 4096 → length s ≤ 65 → Parsed at (settle s) ws → Parsed at s ws
  unfolding Parsed settle words width Formed nesting ranks named
  unsettle [] at ws a d p = p
  unsettle (level zero e ∷ s) at ws a d p = (nothing, ws, tt, omega arith, refl, omega arith, refl, omega arith, refl, rw (add-zero at) (unsettle s at ws a (omega arith) p))
  unsettle (level (suc k) e ∷ s) at ws a d p = p

  Open : List Level → Type 0
  Open [] = Unit {0}
  Open (level k e ∷ s) = 1 ≤ k

  settle_open : (s : List Level) → Open (settle s)
  unfolding settle Open
  settle_open [] = tt
  settle_open (level zero e ∷ s) = settle_open s
  settle_open (level (suc k) e ∷ s) = omega arith

  built : (at k e : ℕ) (s : List Level) (w : ℕ) (ws : List ℕ) (v : ℕ) → 1 ≤ k → suc (length s) ≤ 64 → Imaged m e w v
      → Parsed (at + 1) (level (count_of w) (inside_word w e) ∷ level (k - 1) e ∷ s) ws → Parsed at (level k e ∷ s) (w ∷ ws)
  unfolding Parsed words width Formed nesting ranks named
  built at k e s w ws v o d i p =
      let r = p.9 in
      let h = head_is_lem w i.head i.is in
      let c : count i.head ≡ count_of w = sym (count_word_lem i.head h.1) ∙ ap count_of h.0 in
      let ls : length (words p.0 ++ words r.0) ≡ length (words p.0) + length (words r.0) = length-append (words p.0) (words r.0) in
      let a : at + suc (length (words p.0 ++ words r.0)) ≡ at + 1 + length (words p.0) + length (words r.0) = omega arith in
      let n : named m (inside i.head e) p.0 ≡ true = rw (inside_imaged m e w v i) at p.6 in (
        node i.head p.0 r.0,
        r.1,
        (h.1, p.4 ∙ sym c, p.2, r.2),
        omega (arith, i.low, p.3, r.3),
        omega (arith, r.4),
        omega (arith, p.5, r.5),
        and_both _ _ i.some_id (and_both _ _ n r.6),
        omega (arith, a, r.7),
        rw (p.8, r.8, h.0, append_assoc (words p.0) (words r.0) r.1),
        rw a r.9,
      )

  abbrev ParsedO : ℕ → List Level → List ℕ → Option (List ℕ) → Type 0
  ParsedO at s ws none = Unit {0}
  ParsedO at s ws (some us) = Parsed at s ws

  built_on : (at k e : ℕ) (s : List Level) (w : ℕ) (ws : List ℕ) (b : Bool) (i : StdOption ℕ) (o : Option (List ℕ)) → 1 ≤ k → near at (suc (length s)) ≡ b → image_of m e (head_of w) ≡ i
      → (at + 1 ≤ 4096 → length s ≤ 63 → ParsedO (at + 1) (level (count_of w) (inside_word w e) ∷ level (k - 1) e ∷ s) ws o) → ParsedO at (level k e ∷ s) (w ∷ ws) (pick b (ahead i o) none)
  unfolding ahead
  built_on at k e s w ws false i o l n q p = tt
  built_on at k e s w ws true None o l n q p = tt
  built_on at k e s w ws true (Some v) none l n q p = tt
  built_on at k e s w ws true (Some v) (some us) l n q p =
      let a = ltb-true at 4096 (and_left (ltb at 4096) _ n) in
      let d = leb-true (suc (length s)) 64 (and_right (ltb at 4096) _ n) in
      built at k e s w ws v l d (imaged m e w v q) (p (omega arith) (omega arith))

  unsettled_o : (s : List Level) (at : ℕ) (ws : List ℕ) (o : Option (List ℕ)) → at ≤ 4096 → length s ≤ 65 → ParsedO at (settle s) ws o → ParsedO at s ws o
  unsettled_o s at ws none a d p = tt
  unsettled_o s at ws (some us) a d p = unsettle s at ws a d p

  parsed : (ws : List ℕ) (at : ℕ) (s : List Level) → Open s → ParsedO at s ws (images m at s ws)
  unfolding images Parsed Open
  parsed [] at [] o = tt
  parsed [] at (level k e ∷ s) o = tt
  parsed (w ∷ ws) at [] o = tt
  parsed (w ∷ ws) at (level k e ∷ s) o =
      let next : List Level = level (count_of w) (inside_word w e) ∷ level (k - 1) e ∷ s in
      built_on at k e s w ws (near at (suc (length s))) (image_of m e (head_of w)) (images m (at + 1) (settle next) ws) o refl refl
      (λ a d. unsettled_o next (at + 1) ws (images m (at + 1) (settle next) ws) a (omega arith) (parsed ws (at + 1) (settle next) (settle_open next)))

  is_parsed : (ws us : List ℕ) → images m 0 (level 1 0 ∷ []) ws ≡ some us → Parsed 0 (level 1 0 ∷ []) ws
  unfolding Open
  is_parsed ws us e = rw e at (parsed ws 0 (level 1 0 ∷ []) (omega arith))

-- ---- the body of the part that the words begin with
abbrev pub words_of : Option Row → Option (List ℕ)
words_of none = none
words_of (some b) = some (words b)

module _ (d : ℕ) (ys ws : List ℕ) (g : good_list d ys ≡ true) where
  body_met_lem : (b : Row) → body_of d ys ws ≡ some b → images (id_body d ys) 0 (level 1 0 ∷ []) ws ≡ some (words b)
  unfolding images settle closed before
  body_met_lem b e = shown (body_of_lem d ys ws b e)
    where
      ended : (at : ℕ) (t : List ℕ) → images (id_body d ys) at (settle (level 0 0 ∷ [])) t ≡ some []
      ended at [] = refl
      ended at (w ∷ t) = refl

      shown : BodyIs d ys ws b → images (id_body d ys) 0 (level 1 0 ∷ []) ws ≡ some (words b)
      shown i =
          let p = body_is d ys i.tree b i.body in
          let x : width i.tree + 0 ≡ 1 = omega (arith, i.stands.wide) in
          rw i.stands.same
          ((rw x at (passed (id_body d ys) i.tree 0 0 0 [] i.after i.stands.formed i.stands.few (omega (arith, i.stands.low)) (omega (arith, i.short)) p.0))
          ∙ ap (before (words (renumber (id_body d ys) 0 i.tree))) (ended (0 + length (words i.tree)) i.after)
          ∙ ap some (append-nil (words (renumber (id_body d ys) 0 i.tree)) ∙ ap words p.1))

  met_body : (us : List ℕ) → images (id_body d ys) 0 (level 1 0 ∷ []) ws ≡ some us → (b : Row) × (body_of d ys ws ≡ some b)
  unfolding Parsed body_of closed
  met_body us e = shown (is_parsed (id_body d ys) ws us e)
    where
      shown : Parsed (id_body d ys) 0 (level 1 0 ∷ []) ws → (b : Row) × (body_of d ys ws ≡ some b)
      shown p =
          let s : Stands 64 1 ws 0 p.0 p.1 = record { formed = p.2; few = p.3; low = omega (arith, p.5); wide = p.4; same = p.8 } in
          (renumber (id_body d ys) 0 p.0, rw (g, part_stands ws p.0 p.1 (omega (arith, p.7)) s) (closed_body d ys p.0 p.6))

  pub images_body : images (id_body d ys) 0 (level 1 0 ∷ []) ws ≡ words_of (body_of d ys ws)
  images_body = found (body_of d ys ws) refl
    where
      missing : body_of d ys ws ≡ none → (o : Option (List ℕ)) → images (id_body d ys) 0 (level 1 0 ∷ []) ws ≡ o → o ≡ none
      missing e none q = refl
      missing e (some us) q = let b = (met_body us q).1 in never (cc)

      found : (o : Option Row) → body_of d ys ws ≡ o → images (id_body d ys) 0 (level 1 0 ∷ []) ws ≡ words_of o
      found none e = missing e (images (id_body d ys) 0 (level 1 0 ∷ []) ws) refl
      found (some b) e = body_met_lem b e
