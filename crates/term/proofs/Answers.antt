-- From what a walk tells of the part that the words begin with to what the operations answer and leave.
use mathlib.Core.Path.{◌≡◌, refl, sym, ap, ◌∙◌}
use mathlib.Core.Bool.{Bool, true, false, ◌&&◌}
use mathlib.Core.List.{List, [], ◌∷◌, ◌++◌, append-nil}
use mathlib.Core.Option.{Option, none, some}
use Prim.Native.Nat.{ℕ, zero, suc, ◌+◌, ◌-◌, ◌≤◌, ◌<◌}
use native.Mathlib.Omega.{arith}
use native.Mathlib.Nat.{zero-add, sub-zero, suc-sub-suc}
use lib.Dec.{leb, eqb}
use lib.ListN.{length, drop, replicate, length-replicate, length-append, length-drop}
use lib.Seq.{sets, sets-eq}
use borrow.Author.Tests.{le-leb, lt-leb, leb-true, leb-false, eqb-true, eq-eqb}
use Rattle.std.specs.Prelude.{Ok, Err, Some, None}
use Rattle.term.specs.declared.part.Unwritten.TheVariants.{NoBody, Short}
use Rattle.term.specs.Word.{pick}
use Rattle.term.specs.Row.{Row, width, words, ranks, nesting, Formed, Got, read}
use Rattle.term.specs.Check.{IsTerm}
use Rattle.term.specs.Renumber.{GoodList, good_list, id_body, renumber, closed, to_body}
use Rattle.term.specs.Part.{part_end, of_term, part, body_o, body_of, is_some, has_body, same_words, same_o, same_body, written, padded, body_answer, body_words}
use Rattle.term.specs.Told.Walk.{Stands, RowTold}
use Rattle.term.proofs.Words.{never, and_left, and_right, and_both}
use Rattle.term.proofs.Rows.{Reads, read_words_lem, words_read, words_unique}
use Rattle.term.proofs.Parts.{part_ends}
use Rattle.term.proofs.Lists.{good_true, true_good}
use Rattle.term.proofs.Renumbers.{length_renumber}
use Rattle.term.proofs.Bodies.{closed_body, open_body, body_formed, body_keeps}

-- ---- the part that the words begin with
pub read_stands : (n : ℕ) (ws : List ℕ) (f : Row) (after : List ℕ) → Stands n 1 ws 0 f after → read 1 ws ≡ some (f, after)
read_stands n ws f after s = rw s.same (rw s.wide at (read_words_lem f s.formed after))

pub part_stands : (ws : List ℕ) (f : Row) (after : List ℕ) → length (words f) ≤ 4096 → Stands 64 1 ws 0 f after → part ws ≡ some f
unfolding part
part_stands ws f after l s = rw (read_stands 64 ws f after s, le-leb (ranks f) 2 s.few, le-leb (nesting f) 64 s.low, le-leb (length (words f)) 4096 l)

-- what stands there has too many words for a term
part_long : (ws : List ℕ) (f : Row) (after : List ℕ) → 4096 < length (words f) → Stands 64 1 ws 0 f after → part ws ≡ none
unfolding part
part_long ws f after l s = rw (read_stands 64 ws f after s, le-leb (ranks f) 2 s.few, le-leb (nesting f) 64 s.low, lt-leb (length (words f)) 4096 l)

abbrev StandsO : List ℕ → Option Row → Type 0
StandsO ws none = Unit {0}
StandsO ws (some f) = (after : List ℕ) × Stands 64 1 ws 0 f after × (length (words f) ≤ 4096)

part_stood : (ws : List ℕ) → StandsO ws (part ws)
unfolding part
part_stood ws = found (read 1 ws) refl
  where
    picked : (p : Row × List ℕ) → Reads 1 ws p.0 p.1 → (b : Bool) → leb (ranks p.0) 2 && (leb (nesting p.0) 64 && leb (length (words p.0)) 4096) ≡ b → StandsO ws (pick b (some p.0) none)
    picked p r true e = (
      p.1,
      record {
        formed = r.formed;
        few = leb-true _ _ (and_left _ _ e);
        low = leb-true _ _ (and_left _ _ (and_right (leb (ranks p.0) 2) _ e));
        wide = r.wide;
        same = sym r.same;
      },
      leb-true _ _ (and_right (leb (nesting p.0) 64) _ (and_right (leb (ranks p.0) 2) _ e)),
    )
    picked p r false e = tt

    found : (o : Got) → read 1 ws ≡ o → StandsO ws (of_term o)
    found none e = tt
    found (some p) e = picked p (words_read 1 ws p.0 p.1 e) (leb (ranks p.0) 2 && (leb (nesting p.0) 64 && leb (length (words p.0)) 4096)) refl

pub part_is : (ws : List ℕ) (f : Row) → part ws ≡ some f → (after : List ℕ) × Stands 64 1 ws 0 f after × (length (words f) ≤ 4096)
part_is ws f e = rw e at (part_stood ws)

pub term_part : (ws : List ℕ) (i : IsTerm ws) → part ws ≡ some i.tree
term_part ws i =
    part_stands ws i.tree [] (rw i.same at i.short)
    (record { formed = i.formed; few = i.few; low = i.low; wide = i.one; same = i.same ∙ sym (append-nil (words i.tree)) })

-- ---- what is written into a cleared slice
drop_zeros : (k n : ℕ) → k ≤ n → drop k (replicate n 0) ≡ replicate {A = ℕ} (n - k) 0
drop_zeros zero n h = rw sub-zero
drop_zeros (suc k) zero h = absurd (omega arith)
drop_zeros (suc k) (suc n) h = rw suc-sub-suc (drop_zeros k n (omega arith))

-- cleared again, after what kept the length
pub cleared : (room n : ℕ) (last : List ℕ) → n ≡ room → last ≡ replicate n 0 → last ≡ replicate room 0
cleared room n last h e = e ∙ ap (λ (k : ℕ). replicate k 0) h

module _ (room : ℕ) (ws : List ℕ) where
  pub wrote : (out : List ℕ) → length ws ≤ room → out ≡ sets (replicate room 0) 0 ws → (Ok (length ws) ≡ written room ws) × (out ≡ padded room ws)
  unfolding written padded
  wrote out h e =
      let s : 0 + length ws ≤ length {A = ℕ} (replicate room 0) = rw length-replicate (omega arith) in
      rw (le-leb (length ws) room h) (refl, e ∙ sets-eq ws (replicate room 0) 0 s ∙ rw (zero-add (length ws), drop_zeros (length ws) room h))

  pub no_room : room < length ws → (Err Short ≡ written room ws) × (replicate room 0 ≡ padded room ws)
  unfolding written padded
  no_room h = rw (lt-leb (length ws) room h) (refl, refl)

-- ---- bodies
module _ (d : ℕ) (ys ws : List ℕ) where
  pub no_list : good_list d ys ≡ false → body_of d ys ws ≡ none
  unfolding body_of
  no_list g = rw g

  module _ (g : good_list d ys ≡ true) (out done : List ℕ) where
    pub told_body : (a : ℕ) → RowTold (id_body d ys) 0 64 1 ws 0 out done (Some a) → a ≤ 4096
        → (b : Row) × (body_of d ys ws ≡ some b) × (a ≡ length (words b)) × (done ≡ sets out 0 (words b))
    unfolding RowTold body_of closed
    told_body a told few =
        let b = renumber (id_body d ys) 0 told.0 in (
          b,
          rw (g, part_stands ws told.0 told.1 (omega (arith, told.4, few)) told.2) (closed_body d ys told.0 told.3),
          omega (arith, told.4, length_renumber (id_body d ys) 0 told.0),
          told.5,
        )

    pub told_long : (a : ℕ) → RowTold (id_body d ys) 0 64 1 ws 0 out done (Some a) → 4096 < a → body_of d ys ws ≡ none
    unfolding RowTold body_of
    told_long a told many = rw (g, part_long ws told.0 told.1 (omega (arith, told.4, many)) told.2)

    pub told_none : RowTold (id_body d ys) 0 64 1 ws 0 out done None → body_of d ys ws ≡ none
    unfolding RowTold body_of closed
    told_none told = rw g (found (part ws) refl)
      where
        found : (o : Option Row) → part ws ≡ o → body_o d ys o ≡ none
        found none e = refl
        found (some f) e = let s = part_is ws f e in open_body d ys f (told f s.0 s.1)

  pub is_some_lem : (b : Row) → body_of d ys ws ≡ some b → true ≡ has_body d ys ws
  unfolding has_body
  is_some_lem b e = sym (rw e)

  pub is_none : body_of d ys ws ≡ none → false ≡ has_body d ys ws
  unfolding has_body
  is_none e = sym (rw e)

  pub told_closed : good_list d ys ≡ true → (out done : List ℕ) (a : ℕ) → RowTold (id_body d ys) 0 64 1 ws 0 out done (Some a) → leb a 4096 ≡ has_body d ys ws
  told_closed g out done a told = go (leb a 4096) refl
    where
      go : (b : Bool) → leb a 4096 ≡ b → b ≡ has_body d ys ws
      go true e = let b = told_body g out done a told (leb-true a 4096 e) in is_some_lem b.0 b.1
      go false e = is_none (told_long g out done a told (leb-false a 4096 e))

  pub some_is : has_body d ys ws ≡ true → (b : Row) × (body_of d ys ws ≡ some b)
  unfolding has_body
  some_is h = go (body_of d ys ws) h
    where
      go : (o : Option Row) → is_some o ≡ true → (b : Row) × (o ≡ some b)
      go none q = never (cc)
      go (some b) q = (b, refl)

  pub none_is : has_body d ys ws ≡ false → body_of d ys ws ≡ none
  unfolding has_body
  none_is h = go (body_of d ys ws) h
    where
      go : (o : Option Row) → is_some o ≡ false → o ≡ none
      go none q = refl
      go (some b) q = never (cc)

  -- what write_body answers and leaves, where its slice was cleared before the walk and after a refusal
  module _ (room : ℕ) where
    pub body_none : (out : List ℕ) → out ≡ replicate room 0 → body_of d ys ws ≡ none
        → (Err NoBody ≡ body_answer room (body_of d ys ws)) × (out ≡ body_words room (body_of d ys ws))
    unfolding body_answer body_words
    body_none out z e = rw e (refl, z)

    module _ (g : good_list d ys ≡ true) (out done : List ℕ) (n : ℕ) (z : out ≡ replicate room 0) (told : RowTold (id_body d ys) 0 64 1 ws 0 out done (Some n)) where
      pub body_wrote : n ≤ 4096 → n ≤ room → (Ok n ≡ body_answer room (body_of d ys ws)) × (done ≡ body_words room (body_of d ys ws))
      unfolding body_answer body_words
      body_wrote few h = shown (told_body g out done n told few)
        where
          shown : (b : Row) × (body_of d ys ws ≡ some b) × (n ≡ length (words b)) × (done ≡ sets out 0 (words b))
              → (Ok n ≡ body_answer room (body_of d ys ws)) × (done ≡ body_words room (body_of d ys ws))
          shown t = rw (t.1, t.2) (wrote room (words t.0) done (omega (arith, t.2)) (rw (← z) t.3))

      pub body_short : n ≤ 4096 → room < n → (last : List ℕ) → last ≡ replicate room 0 → (Err Short ≡ body_answer room (body_of d ys ws)) × (last ≡ body_words room (body_of d ys ws))
      unfolding body_answer body_words
      body_short few h last l = shown (told_body g out done n told few)
        where
          shown : (b : Row) × (body_of d ys ws ≡ some b) × (n ≡ length (words b)) × (done ≡ sets out 0 (words b))
              → (Err Short ≡ body_answer room (body_of d ys ws)) × (last ≡ body_words room (body_of d ys ws))
          shown t = let r = no_room room (words t.0) (omega (arith, t.2)) in rw t.1 (r.0, l ∙ r.1)

-- ---- what a body of a part is
pub record BodyIs (d : ℕ) (ys ws : List ℕ) (b : Row) : Type 0 where
  pub list : GoodList d ys
  pub tree : Row
  pub after : List ℕ
  pub stands : Stands 64 1 ws 0 tree after
  pub short : length (words tree) ≤ 4096
  pub body : to_body d ys tree ≡ some b

pub body_of_lem : (d : ℕ) (ys ws : List ℕ) (b : Row) → body_of d ys ws ≡ some b → BodyIs d ys ws b
unfolding body_of
body_of_lem d ys ws b e = listed (good_list d ys) refl e
  where
    found : good_list d ys ≡ true → (o : Option Row) → part ws ≡ o → body_o d ys o ≡ some b → BodyIs d ys ws b
    found g none p q = never (cc)
    found g (some t) p q =
        let s = part_is ws t p in record { list = good_true d ys g; tree = t; after = s.0; stands = s.1; short = s.2; body = q }

    listed : (c : Bool) → good_list d ys ≡ c → pick c (body_o d ys (part ws)) none ≡ some b → BodyIs d ys ws b
    listed true g q = found g (part ws) refl q
    listed false g q = never (cc)

pub of_body : (d : ℕ) (ys ws : List ℕ) (b : Row) → BodyIs d ys ws b → body_of d ys ws ≡ some b
unfolding body_of
of_body d ys ws b i = rw (true_good d ys i.list, part_stands ws i.tree i.after i.short i.stands) i.body

-- the body of the part that the words begin with, by the part
pub body_stands : (d : ℕ) (ys ws : List ℕ) (t : Row) (after : List ℕ) → GoodList d ys → length (words t) ≤ 4096 → Stands 64 1 ws 0 t after → body_of d ys ws ≡ to_body d ys t
unfolding body_of
body_stands d ys ws t after g l s = rw (true_good d ys g, part_stands ws t after l s)

-- it is one tree of the table, as long and as deep as the part
pub body_tree : (d : ℕ) (ys ws : List ℕ) (b : Row) → BodyIs d ys ws b → Formed b × (width b ≡ 1)
body_tree d ys ws b i = (
  body_formed d ys i.list i.tree b i.stands.formed i.stands.low i.body,
  (body_keeps d ys i.tree b i.body).wide ∙ i.stands.wide,
)

-- the body of a part of a term is a term, as long as the part
pub part_body : (ws : List ℕ) → IsTerm ws → (at d : ℕ) (ys : List ℕ) (b : Row) → body_of d ys (drop at ws) ≡ some b → IsTerm (words b) × (length (words b) ≡ part_end (drop at ws))
part_body ws i at d ys b e = shown (body_of_lem d ys (drop at ws) b e)
  where
    shown : BodyIs d ys (drop at ws) b → IsTerm (words b) × (length (words b) ≡ part_end (drop at ws))
    shown j =
        let k = body_keeps d ys j.tree b j.body in
        let t = body_tree d ys (drop at ws) b j in
        let n : length (words j.tree) + length j.after ≡ length ws - at = sym (length-append (words j.tree) j.after) ∙ sym (ap length j.stands.same) ∙ length-drop at ws in (
          record {
            tree = b;
            one = t.1;
            formed = t.0;
            few = omega (arith, k.rank, j.stands.few);
            low = omega (arith, k.deep, j.stands.low);
            short = omega (arith, k.long, n, i.short);
            same = refl;
          },
          k.long ∙ sym (part_ends 64 (drop at ws) j.tree j.after j.stands),
        )

-- ---- two parts
pub same_words_lem : (ws vs : List ℕ) → same_words ws vs ≡ true → ws ≡ vs
unfolding same_words
same_words_lem [] [] e = refl
same_words_lem [] (v ∷ vs) e = never (cc)
same_words_lem (w ∷ ws) [] e = never (cc)
same_words_lem (w ∷ ws) (v ∷ vs) e = let x = eqb-true w v (and_left _ _ e) in let y = same_words_lem ws vs (and_right (eqb w v) _ e) in cc

pub words_same : (ws : List ℕ) → same_words ws ws ≡ true
unfolding same_words
words_same [] = refl
words_same (w ∷ ws) = and_both _ _ (eq-eqb w w refl) (words_same ws)

module _ (d : ℕ) (ys ws : List ℕ) (c : ℕ) (zs vs : List ℕ) where
  pub not_left : body_of d ys ws ≡ none → false ≡ same_body d ys ws c zs vs
  unfolding same_body
  not_left e = sym (rw e)

  pub not_right : body_of c zs vs ≡ none → false ≡ same_body d ys ws c zs vs
  unfolding same_body
  not_right e = go (body_of d ys ws)
    where
      go : (o : Option Row) → false ≡ same_o o (body_of c zs vs)
      go none = refl
      go (some b) = sym (rw e)

  -- sameness of two parts is sameness of their bodies
  pub same_bodies : same_body d ys ws c zs vs ≡ true → (b : Row) × (body_of d ys ws ≡ some b) × (body_of c zs vs ≡ some b)
  unfolding same_body
  same_bodies e = go (body_of d ys ws) (body_of c zs vs) refl refl e
    where
      go : (o p : Option Row) → body_of d ys ws ≡ o → body_of c zs vs ≡ p → same_o o p ≡ true → (b : Row) × (o ≡ some b) × (p ≡ some b)
      go none p i j q = never (cc)
      go (some b) none i j q = never (cc)
      go (some b) (some a) i j q =
          let s = body_tree d ys ws b (body_of_lem d ys ws b i) in
          let t = body_tree c zs vs a (body_of_lem c zs vs a j) in
          let x : a ≡ b = (words_unique a b [] [] t.0 s.0 (t.1 ∙ sym s.1) (ap (λ (l : List ℕ). l ++ []) (sym (same_words_lem (words b) (words a) q)))).0 in
          (b, refl, ap some x)

  pub same_by_words : (b a : Row) → body_of d ys ws ≡ some b → body_of c zs vs ≡ some a → same_body d ys ws c zs vs ≡ same_words (words b) (words a)
  unfolding same_body
  same_by_words b a i j = rw (i, j)

  pub bodies_same : (b : Row) → body_of d ys ws ≡ some b → body_of c zs vs ≡ some b → same_body d ys ws c zs vs ≡ true
  unfolding same_body
  bodies_same b i j = rw (i, j) (words_same (words b))
