-- What a Leaf says of a state, and its bodies written one after the other.
use mathlib.Core.Path.{◌≡◌, refl, sym, ap, ◌∙◌}
use mathlib.Core.Bool.{Bool, true, false}
use mathlib.Core.List.{List, [], ◌∷◌, ◌++◌, append_assoc}
use mathlib.Core.Option.{Option, none, some}
use Prim.Native.Nat.{ℕ, suc, ◌+◌, ◌-◌, ◌≤◌, ◌<◌}
use native.Mathlib.Omega.{arith}
use lib.Dec.{ltb}
use lib.ListN.{length, get_or, take, drop, set, replicate, length-drop, length-append, length-replicate, replicate-append-replicate}
use lib.Seq.{drop-append_seam, length-take-le}
use borrow.Author.Tests.{ltb-true, ltb-false, lt-ltb, le-ltb, le-leb, lt-leb}
use Rattle.std.specs.Prelude.{Option as StdOption, Result, Ok, Err, Some, None}
use Rattle.std.specs.Result.{result_ok}
use Rattle.std.specs.Bool.{then_some}
use Rattle.term.specs.declared.part.Unwritten.{Unwritten}
use Rattle.term.specs.Row.{Row, words}
use Rattle.term.specs.Part.{part_end, is_some, body_of, written, body_answer, body_words}
use Rattle.term.proofs.Laws.{never, part_ends, body_of_lem, body_keeps, answer_fits, body_answer_lem, body_words_lem, padded_fits, written_fits}
use Rattle.fit.specs.Match.{body_list}
use Rattle.fit.proofs.Laws.{SoMany, many_start, many_short, many_done, many_more}
use Rattle.tree.specs.Tree.{LeafVariable, LeafNode}
use Rattle.tree.specs.Find.{PartAt, body_or, leaf_body, leaf_fitting}
use Rattle.tree.proofs.Laws.{leaf_first, leaf_later}
use Rattle.walk.specs.Walk.{DamagedAt, Next, Ends, unless, RuleFits, variables_in, sound_variables, leaf_read, leaf_with, leaf_node}
use Rattle.walk.specs.declared.state.Walk.{Walk}
use Rattle.walk.specs.declared.state.Stands.TheVariants as stands
use Rattle.walk.specs.declared.decide.Decision.TheVariants.{Stop}
use Rattle.walk.specs.Told.State.{places_of, Parted, Holds, sound_leaf, variables_or, leaf_in, LeafSound, LeafDecided, or_damaged, PartWritten, LeafWritten}
use Rattle.walk.proofs.Tells.{decided_damaged, decided_rule}
use Rattle.walk.proofs.Uncovered.{place_body}
use Rattle.walk.proofs.Judged.{three_words}
use Rattle.walk.proofs.Variables.{FirstRead, first_read}

-- ---- the node
module _ (fits : LeafNode → Bool) (at : ℕ) (ps : List PartAt) where
  leaf_short : (ws : List ℕ) → length ws < 3 → leaf_node fits at ps ws ≡ Ends (DamagedAt at)
  unfolding leaf_node
  leaf_short [] h = refl
  leaf_short (n ∷ []) h = refl
  leaf_short (n ∷ k ∷ []) h = refl
  leaf_short (n ∷ k ∷ m ∷ ws) h = absurd (omega arith)

  module _ (rule n aside : ℕ) (ws : List ℕ) where
    leaf_high : 64 ≤ rule → leaf_node fits at ps (rule ∷ n ∷ aside ∷ ws) ≡ Ends (DamagedAt at)
    unfolding leaf_node
    leaf_high h = rw (le-ltb rule 64 h)

    leaf_many : rule < 64 → 16 < n → leaf_node fits at ps (rule ∷ n ∷ aside ∷ ws) ≡ Ends (DamagedAt at)
    unfolding leaf_node
    leaf_many l h = rw (lt-ltb rule 64 l, lt-leb n 16 h)

    leaf_is : rule < 64 → n ≤ 16 → leaf_node fits at ps (rule ∷ n ∷ aside ∷ ws) ≡ leaf_with fits at ps n (leaf_read rule aside (variables_in n ws))
    unfolding leaf_node
    leaf_is l h = rw (lt-ltb rule 64 l, le-leb n 16 h)

  module _ (rule n aside : ℕ) where
    with_unsound : (o : Option (List LeafVariable)) → sound_leaf ps o ≡ false → leaf_with fits at ps n (leaf_read rule aside o) ≡ Ends (DamagedAt at)
    with_unsound none e = refl
    with_unsound (some vs) e = rw e

    abbrev leaf_of : Option (List LeafVariable) → LeafNode
    leaf_of o = record { rule = rule; aside = aside; variables = variables_or o }

    with_sound : (o : Option (List LeafVariable)) → sound_leaf ps o ≡ true → leaf_with fits at ps n (leaf_read rule aside o) ≡ unless (fits (leaf_of o)) at (Ends (RuleFits (leaf_fitting ps (leaf_of o)) n))
    with_sound none e = never (cc)
    with_sound (some vs) e = rw e

module _ (table term : List ℕ) (s : Walk) where
  abbrev nexts : (LeafNode → Bool) → Next
  nexts fits = leaf_node fits s.at (places_of term s) (drop (s.at + 1) table)

  leaf_ends : ((fits : LeafNode → Bool) → nexts fits ≡ Ends (DamagedAt s.at)) → LeafDecided table term s (Stop stands.Damaged)
  leaf_ends e = decided_damaged table term nexts s e

  pub leaf_node_cut : s.at < length table → length table - s.at < 4 → LeafDecided table term s (Stop stands.Damaged)
  leaf_node_cut i l = leaf_ends (λ fits. leaf_short fits s.at (places_of term s) (drop (s.at + 1) table) (rw (length-drop (s.at + 1) table) (omega arith)))

  module _ (long : s.at + 4 ≤ length table) where
    abbrev rule : ℕ
    rule = get_or table (s.at + 1) 0

    abbrev number : ℕ
    number = get_or table (s.at + 2) 0

    abbrev aside : ℕ
    aside = get_or table (s.at + 3) 0

    abbrev after : List ℕ
    after = drop (s.at + 4) table

    pub leaf_rule_high : 64 ≤ get_or table (s.at + 1) 0 → LeafDecided table term s (Stop stands.Damaged)
    leaf_rule_high l = leaf_ends (λ fits. rw (three_words table s.at long) (leaf_high fits s.at (places_of term s) rule number aside after l))

    module _ (low : get_or table (s.at + 1) 0 < 64) where
      pub leaf_vars_many : 16 < get_or table (s.at + 2) 0 → LeafDecided table term s (Stop stands.Damaged)
      leaf_vars_many l = leaf_ends (λ fits. rw (three_words table s.at long) (leaf_many fits s.at (places_of term s) rule number aside after low l))

      module _ (few : get_or table (s.at + 2) 0 ≤ 16) where
        leaf_next_is : (fits : LeafNode → Bool) → nexts fits ≡ leaf_with fits s.at (places_of term s) number (leaf_read rule aside (variables_in number after))
        leaf_next_is fits = rw (three_words table s.at long) (leaf_is fits s.at (places_of term s) rule number aside after low few)

        leaf_unsound : false ≡ sound_leaf (places_of term s) (variables_in (get_or table (s.at + 2) 0) (drop (s.at + 4) table)) → LeafDecided table term s (Stop stands.Damaged)
        leaf_unsound u = leaf_ends (λ fits. leaf_next_is fits ∙ with_unsound fits s.at (places_of term s) rule number aside (variables_in number after) (sym u))

        leaf_found : true ≡ sound_leaf (places_of term s) (variables_in (get_or table (s.at + 2) 0) (drop (s.at + 4) table)) → LeafDecided table term s (Stop stands.Rule)
        leaf_found u =
            decided_rule table term nexts s
            (record {
              leaf = record { inside = long; few = few; sound = sym u };
              ends = λ fits. leaf_next_is fits ∙ with_sound fits s.at (places_of term s) rule number aside (variables_in number after) (sym u);
            })

        pub leaf_told : (b : Bool) → b ≡ sound_leaf (places_of term s) (variables_in (get_or table (s.at + 2) 0) (drop (s.at + 4) table)) → LeafDecided table term s (or_damaged (then_some b (Stop stands.Rule)))
        leaf_told true u = leaf_found u
        leaf_told false u = leaf_unsound u

-- ---- one body
short_written : (room : ℕ) (ws : List ℕ) (r : Result ℕ Unwritten) → r ≡ written room ws → ((n : ℕ) → r ≡ Ok n → ⊥) → room < length ws
short_written room ws r e n = go (ltb room (length ws)) refl
  where
    go : (b : Bool) → ltb room (length ws) ≡ b → room < length ws
    go true z = ltb-true room (length ws) z
    go false z = absurd (n (length ws) (e ∙ written_fits room ws (ltb-false room (length ws) z)))

body_long : (d : ℕ) (ys ws : List ℕ) (b : Row) → body_of d ys ws ≡ some b → length (words b) ≤ length ws
body_long d ys ws b e =
    let i = body_of_lem d ys ws b e in
    omega (arith, (body_keeps d ys i.tree b i.body).long, ap length i.stands.same, length-append (words i.tree) i.after)

module _ (d : ℕ) (ys ws out done : List ℕ) where
  pub written_bounds : (n : ℕ) → PartWritten d ys ws out done (Some n) → (n ≤ length out) × (n ≤ length ws)
  unfolding PartWritten
  written_bounds n u = (u.3, u.4)

  part_written : (n : ℕ) → Ok n ≡ body_answer (length out) (body_of d ys ws) → done ≡ body_words (length out) (body_of d ys ws) → PartWritten d ys ws out done (Some n)
  unfolding PartWritten
  part_written n e w = shown (answer_fits (length out) (body_of d ys ws) n (sym e))
    where
      shown : (b : Row) × (body_of d ys ws ≡ some b) × (n ≡ length (words b)) × (length (words b) ≤ length out)
          → (b : Row) × (body_of d ys ws ≡ some b) × (n ≡ length (words b)) × (n ≤ length out) × (n ≤ length ws) × (done ≡ words b ++ replicate (length out - n) 0)
      shown a = (
        a.0,
        a.1,
        a.2,
        omega (arith, a.2, a.3),
        omega (arith, a.2, body_long d ys ws a.0 a.1),
        w ∙ ap (body_words (length out)) a.1 ∙ body_words_lem (length out) a.0 ∙ padded_fits (length out) (words a.0) a.3 ∙ ap (λ (m : ℕ). words a.0 ++ replicate (length out - m) 0) (sym a.2),
      )

-- ---- a body has as many words as its part: so many of a cleared slice are lent, and the zeros after them stay
body_ends : (d : ℕ) (ys ws : List ℕ) (b : Row) → body_of d ys ws ≡ some b → length (words b) ≡ part_end ws
body_ends d ys ws b e =
    let i = body_of_lem d ys ws b e in
    (body_keeps d ys i.tree b i.body).long ∙ sym (part_ends 64 ws i.tree i.after i.stands)

zeros_after : (out : List ℕ) (end : ℕ) → end ≤ length out → out ≡ replicate (length out) 0 → drop end out ≡ replicate (length out - end) 0
zeros_after out end l z =
    let zeros : ℕ → List ℕ = λ n. replicate n 0 in
    let k : length out ≡ end + (length out - end) = omega arith in
    ap (drop end) (z ∙ ap zeros k ∙ sym (replicate-append-replicate {A = ℕ} end (length out - end) 0))
    ∙ ap (λ (n : ℕ). drop n (zeros end ++ zeros (length out - end))) (sym (length-replicate {A = ℕ} end 0))
    ∙ drop-append_seam (zeros end) (zeros (length out - end))

module _ (d : ℕ) (ys ws out : List ℕ) (end : ℕ) (ends : end ≡ part_end ws) where
  pub part_none : length out < end → (done : List ℕ) → PartWritten d ys ws out done None
  unfolding PartWritten
  part_none l done b i = omega (arith, ends, l, body_ends d ys ws b i)

  module _ (l : end ≤ length out) where
    abbrev lent : List ℕ
    lent = take end out

    long : length lent ≡ end
    long = length-take-le end out l

    pub part_lent_short : (r : Result ℕ Unwritten) → r ≡ body_answer (length lent) (body_of d ys ws) → ((n : ℕ) → r ≡ Ok n → ⊥) → (done : List ℕ) → PartWritten d ys ws out done None
    unfolding PartWritten
    part_lent_short r e n done b i =
        let s = short_written (length lent) (words b) r (e ∙ ap (body_answer (length lent)) i ∙ body_answer_lem (length lent) b) n in
        absurd (omega (arith, s, long, ends, body_ends d ys ws b i))

    pub part_lent : out ≡ replicate (length out) 0 → (front : List ℕ) (n : ℕ) → Ok n ≡ body_answer (length lent) (body_of d ys ws) → front ≡ body_words (length lent) (body_of d ys ws)
        → PartWritten d ys ws out (front ++ drop end out) (Some n)
    unfolding PartWritten
    part_lent z front n e w = shown (part_written d ys ws lent front n e w)
      where
        shown : PartWritten d ys ws lent front (Some n)
            → (b : Row) × (body_of d ys ws ≡ some b) × (n ≡ length (words b)) × (n ≤ length out) × (n ≤ length ws) × (front ++ drop end out ≡ words b ++ replicate (length out - n) 0)
        shown a = (
          a.0,
          a.1,
          a.2,
          omega (arith, a.3, long, l),
          a.4,
          rest a.0 a.3 a.5,
        )
          where
            rest : (b : Row) → n ≤ length lent → front ≡ words b ++ replicate (length lent - n) 0 → front ++ drop end out ≡ words b ++ replicate (length out - n) 0
            rest b f q =
                let k : length lent - n + (length out - end) ≡ length out - n = omega (arith, f, long, l) in
                ap (λ (x : List ℕ). x ++ drop end out) q
                ∙ append_assoc (words b) (replicate (length lent - n) 0) (drop end out)
                ∙ ap (λ (x : List ℕ). words b ++ x) (ap (λ (x : List ℕ). replicate (length lent - n) 0 ++ x) (zeros_after out end l z) ∙ replicate-append-replicate {A = ℕ} (length lent - n) (length out - end) 0 ∙ ap (λ (m : ℕ). replicate m 0) k)

    pub part_said : out ≡ replicate (length out) 0 → (front : List ℕ) (r : Result ℕ Unwritten) → r ≡ body_answer (length lent) (body_of d ys ws) → front ≡ body_words (length lent) (body_of d ys ws)
        → PartWritten d ys ws out (front ++ drop end out) (result_ok r)
    part_said z front (Ok n) e w = part_lent z front n e w
    part_said z front (Err u) e w = part_lent_short (Err u) e (λ n q. never (cc)) (front ++ drop end out)

-- the lists and the words, as they are lent
pub part_at : (d : ℕ) (ys zs ws vs out done : List ℕ) (r q : StdOption ℕ) → ys ≡ zs → ws ≡ vs → r ≡ q → PartWritten d ys ws out done r → PartWritten d zs vs out done q
part_at d ys zs ws vs out done r q e f g w = rw (e, f, g) at w

-- ---- all bodies
some_body : (o : Option Row) → is_some o ≡ true → (b : Row) × (o ≡ some b)
some_body none e = never (cc)
some_body (some b) e = (b, refl)

pub record Writing (table term : List ℕ) (s : Walk) (room : ℕ) (bodies lengths : List ℕ) (at to x : ℕ) : Type 0 where
  pub many : SoMany (get_or table (s.at + 2) 0) (leaf_body (places_of term s) (leaf_in table s.at).variables) room bodies lengths to x
  pub rest : List LeafVariable
  pub read : variables_in (get_or table (s.at + 2) 0 - x) (drop at table) ≡ some rest
  pub sound : sound_variables (places_of term s) rest ≡ true
  pub follows : (y : ℕ) → leaf_body (places_of term s) (leaf_in table s.at).variables (x + y) ≡ leaf_body (places_of term s) rest y

module _ (table term : List ℕ) (s : Walk) (p : Parted term) (h : Holds term s) (l : LeafSound table term s) (room : ℕ) where
  abbrev vars : ℕ
  vars = get_or table (s.at + 2) 0

  abbrev body : ℕ → Row
  body = leaf_body (places_of term s) (leaf_in table s.at).variables

  pub writing_start : (bodies lengths : List ℕ) → length bodies ≡ room → bodies ≡ replicate room 0 → lengths ≡ replicate 16 0 → Writing table term s room bodies lengths (s.at + 4) 0 0
  writing_start bodies lengths n c e = go (variables_in vars (drop (s.at + 4) table)) refl l.sound
    where
      go : (o : Option (List LeafVariable)) → variables_in vars (drop (s.at + 4) table) ≡ o → sound_leaf (places_of term s) o ≡ true → Writing table term s room bodies lengths (s.at + 4) 0 0
      go none q u = never (cc)
      go (some vs) q u =
          let z : vars - 0 ≡ vars = omega arith in
          record {
            many = many_start vars body room l.few bodies lengths n c e;
            rest = vs;
            read = rw z q;
            sound = u;
            follows = λ y. let w : 0 + y ≡ y = omega arith in rw (w, q);
          }

  module _ (bodies lengths : List ℕ) (at to x : ℕ) (w : Writing table term s room bodies lengths at to x) where
    pub writing_done : vars ≤ x → LeafWritten table term s room bodies lengths true
    unfolding LeafWritten
    writing_done i = let q = many_done vars body room l.few bodies lengths to x w.many i (leaf_in table s.at).aside in (q.0, q.1.0, q.1.1, q.1.2)

    module _ (i : x < vars) where
      abbrev first : FirstRead table term s at (vars - x) w.rest
      first = first_read table term s p h at (vars - x) w.rest (λ z. omega (arith, z)) w.read w.sound

      pub writing_first : FirstRead table term s at (vars - x) w.rest
      writing_first = first

      abbrev place : ℕ
      place = get_or table at 0

      abbrev list : List ℕ
      list = take (get_or table (at + 1) 0) (drop (at + 2) table)

      abbrev depth : ℕ
      depth = get_or s.depths place 0

      abbrev part : List ℕ
      part = drop (get_or s.offsets place 0) term

      body_is : (f : FirstRead table term s at (vars - x) w.rest) → (b : Row) → body_of depth list part ≡ some b → body x ≡ b
      body_is f b e =
          let z : x + 0 ≡ x = omega arith in
          let q : body x ≡ leaf_body (places_of term s) w.rest 0 = rw z at (w.follows 0) in
          q ∙ ap (λ (vs : List LeafVariable). leaf_body (places_of term s) vs 0) f.is ∙ leaf_first (places_of term s) (record { at = place; list = list }) f.others
          ∙ ap body_or (place_body term s p h place f.here list f.good ∙ e)

      has_one : (f : FirstRead table term s at (vars - x) w.rest) → (b : Row) × (body_of depth list part ≡ some b)
      has_one f = some_body (body_of depth list part) (sym (ap is_some (place_body term s p h place f.here list f.good)) ∙ f.has)

      -- what is left of the room is still cleared
      pub writing_zeros : (out : List ℕ) → out ≡ drop to bodies → out ≡ replicate (length out) 0
      writing_zeros out o =
          let q : drop to bodies ≡ replicate (room - to) 0 =
          ap (drop to) w.many.written ∙ ap (λ (n : ℕ). drop n (body_list body 0 x ++ replicate (room - to) 0)) w.many.there ∙ drop-append_seam (body_list body 0 x) (replicate (room - to) 0) in
          let k : length out ≡ room - to = ap length (o ∙ q) ∙ length-replicate {A = ℕ} (room - to) 0 in
          o ∙ q ∙ ap (λ (n : ℕ). replicate n 0) (sym k)

      pub writing_short : (out done : List ℕ) → length out ≡ room - to → PartWritten depth list part out done None
          → (cleared zeros : List ℕ) → cleared ≡ replicate room 0 → zeros ≡ replicate 16 0 → LeafWritten table term s room cleared zeros false
      unfolding LeafWritten PartWritten
      writing_short out done o u cleared zeros c z =
          let b = has_one first in
          let e = body_is first b.0 b.1 in
          let k = u b.0 b.1 in
          let q = many_short vars body room l.few bodies lengths to x w.many i (omega (arith, o, k, ap (λ (r : Row). length (words r)) e)) cleared zeros c z (leaf_in table s.at).aside in
          (q.0, q.1.0, q.1.1, q.1.2)

      module _ (out done post : List ℕ) (n : ℕ) (o : length out ≡ room - to) (long : length done ≡ length out) (nothing-after : post ≡ []) (u : PartWritten depth list part out done (Some n)) where
        pub written_few : n ≤ room - to
        unfolding PartWritten
        written_few = omega (arith, u.3, o)

        pub writing_more : Writing table term s room (take to bodies ++ (done ++ post)) (set lengths x n) (at + 2 + get_or table (at + 1) 0) (to + n) (x + 1)
        unfolding PartWritten
        writing_more =
            let e = body_is first u.0 u.1 in
            let y : vars - (x + 1) ≡ vars - x - 1 = omega arith in
            record {
              many =
                  many_more vars body room l.few bodies lengths to x w.many i out done post n o long nothing-after (u.2 ∙ ap (λ (r : Row). length (words r)) (sym e)) u.3
                  (u.5 ∙ ap (λ (r : Row). words r ++ replicate (length out - n) 0) (sym e));
              rest = first.others;
              read = rw y first.read;
              sound = first.sound;
              follows = λ m. next m;
            }
          where
            next : (m : ℕ) → body (x + 1 + m) ≡ leaf_body (places_of term s) first.others m
            next m =
                let z : x + 1 + m ≡ x + suc m = omega arith in
                rw z (w.follows (suc m) ∙ ap (λ (vs : List LeafVariable). leaf_body (places_of term s) vs (suc m)) first.is ∙ leaf_later (places_of term s) (record { at = place; list = list }) first.others m)
