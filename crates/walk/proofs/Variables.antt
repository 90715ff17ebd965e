-- The variables of a Leaf, one after the other: what is left gives the answer.
use mathlib.Core.Path.{◌≡◌, refl, sym, ap, ◌∙◌}
use mathlib.Core.Bool.{Bool, true, false, ◌&&◌}
use mathlib.Core.List.{List, [], ◌∷◌}
use mathlib.Core.Option.{Option, none, some}
use Prim.Native.Nat.{ℕ, zero, suc, ◌+◌, ◌-◌, ◌≤◌, ◌<◌}
use native.Mathlib.Omega.{arith}
use lib.Dec.{leb, ltb}
use lib.ListN.{length, get_or, take, drop, length-drop}
use lib.Seq.{drop-cons, drop-drop, length-take-le}
use borrow.Author.Tests.{ltb-true, leb-true, leb-false, lt-ltb, le-ltb, le-leb, lt-leb}
use Rattle.term.specs.Renumber.{good_list}
use Rattle.term.specs.Part.{is_some, has_body}
use Rattle.term.proofs.Laws.{never, and_left, and_right, body_of_lem, some_is, true_good}
use Rattle.tree.specs.Tree.{LeafVariable}
use Rattle.tree.specs.Find.{PartAt, part_of, body_for}
use Rattle.walk.specs.Walk.{variable_then, variables_in, sound_variable, sound_variables}
use Rattle.walk.specs.declared.state.Walk.{Walk}
use Rattle.walk.specs.Told.State.{places_of, Parted, Holds, sound_leaf}
use Rattle.walk.proofs.Uncovered.{held_length, place_depth, place_body, has_body_lem}

sound_then : (ps : List PartAt) (v : LeafVariable) (o : Option (List LeafVariable)) → sound_leaf ps (variable_then v o) ≡ sound_variable ps v && sound_leaf ps o
unfolding sound_variables
sound_then ps v none = go (sound_variable ps v)
  where
    go : (b : Bool) → false ≡ b && false
    go true = refl
    go false = refl
sound_then ps v (some vs) = refl

pub sound_parts : (ps : List PartAt) (v : LeafVariable) → sound_variable ps v ≡ true
    → (v.at < length ps) × (good_list (part_of v.at ps).depth v.list ≡ true) × (is_some (body_for ps v.at v.list) ≡ true)
unfolding sound_variable
sound_parts ps v e =
    let a = and_right (ltb v.at (length ps)) (leb (length v.list) 4 && (good_list (part_of v.at ps).depth v.list && is_some (body_for ps v.at v.list))) e in
    let b = and_right (leb (length v.list) 4) (good_list (part_of v.at ps).depth v.list && is_some (body_for ps v.at v.list)) a in (
      ltb-true v.at (length ps) (and_left (ltb v.at (length ps)) (leb (length v.list) 4 && (good_list (part_of v.at ps).depth v.list && is_some (body_for ps v.at v.list))) e),
      and_left (good_list (part_of v.at ps).depth v.list) (is_some (body_for ps v.at v.list)) b,
      and_right (good_list (part_of v.at ps).depth v.list) (is_some (body_for ps v.at v.list)) b,
    )

more_sound : (ps : List PartAt) (v : LeafVariable) (vs : List LeafVariable) → sound_variables ps (v ∷ vs) ≡ true → sound_variable ps v && sound_variables ps vs ≡ true
unfolding sound_variables
more_sound ps v vs e = e

pub variables_none : (ps : List PartAt) (n : ℕ) (ws : List ℕ) → n ≡ 0 → true ≡ sound_leaf ps (variables_in n ws)
unfolding variables_in sound_variables
variables_none ps zero ws z = refl
variables_none ps (suc n) ws z = absurd (omega arith)

pub variables_cut : (ps : List PartAt) (n : ℕ) (ws : List ℕ) → (n ≡ 0 → ⊥) → length ws < 2 → variables_in n ws ≡ none
unfolding variables_in
variables_cut ps zero ws z l = absurd (z refl)
variables_cut ps (suc n) [] z l = refl
variables_cut ps (suc n) (p ∷ []) z l = refl
variables_cut ps (suc n) (p ∷ k ∷ ws) z l = absurd (omega arith)

module _ (table : List ℕ) (at n : ℕ) (some_left : n ≡ 0 → ⊥) where
  pub leaf_cut : (ps : List PartAt) → at ≤ length table → length table - at < 2 → false ≡ sound_leaf ps (variables_in n (drop at table))
  leaf_cut ps i l = rw (variables_cut ps n (drop at table) some_left (rw (length-drop at table) l))

  module _ (two : at + 2 ≤ length table) where
    abbrev place : ℕ
    place = get_or table at 0

    abbrev count : ℕ
    count = get_or table (at + 1) 0

    abbrev var : LeafVariable
    var = record { at = place; list = take count (drop (at + 2) table) }

    words_are : drop at table ≡ place ∷ count ∷ drop (at + 2) table
    words_are =
        let z : suc at ≡ at + 1 = omega arith in
        let y : suc (at + 1) ≡ at + 2 = omega arith in
        drop-cons table at 0 (omega arith) ∙ ap (place ∷◌) (rw z (drop-cons table (at + 1) 0 (omega arith) ∙ rw y))

    pub variables_past : length table - (at + 2) < count → variables_in n (drop at table) ≡ none
    unfolding variables_in
    variables_past l = rw words_are (go n some_left)
      where
        go : (n : ℕ) → (n ≡ 0 → ⊥) → variables_in n (place ∷ count ∷ drop (at + 2) table) ≡ none
        go zero z = absurd (z refl)
        go (suc n) z = rw (length-drop (at + 2) table, lt-leb count (length table - (at + 2)) l)

    pub leaf_past : (ps : List PartAt) → length table - (at + 2) < count → false ≡ sound_leaf ps (variables_in n (drop at table))
    leaf_past ps l = rw (variables_past l)

    module _ (inside : count ≤ length table - (at + 2)) where
      pub variables_are : variables_in n (drop at table) ≡ variable_then var (variables_in (n - 1) (drop (at + 2 + count) table))
      unfolding variables_in
      variables_are = rw words_are (go n some_left)
        where
          go : (n : ℕ) → (n ≡ 0 → ⊥) → variables_in n (place ∷ count ∷ drop (at + 2) table) ≡ variable_then var (variables_in (n - 1) (drop (at + 2 + count) table))
          go zero z = absurd (z refl)
          go (suc n) z =
              let y : suc n - 1 ≡ n = omega arith in
              rw (length-drop (at + 2) table, le-leb count (length table - (at + 2)) inside, drop-drop count (at + 2) table, y)

      list_long : length (take count (drop (at + 2) table)) ≡ count
      list_long = length-take-le count (drop (at + 2) table) (rw (length-drop (at + 2) table) inside)

      unsound : (ps : List PartAt) → sound_variable ps var ≡ false → false ≡ sound_leaf ps (variables_in n (drop at table))
      unsound ps e = rw (variables_are) (sym (sound_then ps var (variables_in (n - 1) (drop (at + 2 + count) table)) ∙ rw e))

      pub leaf_over : (ps : List PartAt) → 4 < count → false ≡ sound_leaf ps (variables_in n (drop at table))
      unfolding sound_variable
      leaf_over ps l = unsound ps (rw (list_long, lt-leb count 4 l) (go (ltb place (length ps))))
        where
          go : (b : Bool) → b && false ≡ false
          go true = refl
          go false = refl

      module _ (term : List ℕ) (s : Walk) (p : Parted term) (h : Holds term s) where
        pub leaf_uncovered : s.count ≤ place → false ≡ sound_leaf (places_of term s) (variables_in n (drop at table))
        unfolding sound_variable
        leaf_uncovered l = unsound (places_of term s) (rw (held_length term s p h, le-ltb place s.count l))

        module _ (few : count ≤ 4) (i : place < s.count) where
          abbrev depth : ℕ
          depth = get_or s.depths place 0

          abbrev part : List ℕ
          part = drop (get_or s.offsets place 0) term

          abbrev list : List ℕ
          list = take count (drop (at + 2) table)

          sound_is : sound_variable (places_of term s) var ≡ has_body depth list part
          unfolding sound_variable
          sound_is =
              rw (held_length term s p h, lt-ltb place s.count i, list_long, le-leb count 4 few, place_depth term s p h place i) (go (good_list depth list) refl)
            where
              none_is : good_list depth list ≡ false → has_body depth list part ≡ false
              none_is g = say (has_body depth list part) refl
                where
                  say : (b : Bool) → has_body depth list part ≡ b → b ≡ false
                  say true e = let x = some_is depth list part e in let y = true_good depth list (body_of_lem depth list part x.0 x.1).list in never (cc)
                  say false e = refl

              go : (b : Bool) → good_list depth list ≡ b → b && is_some (body_for (places_of term s) place list) ≡ has_body depth list part
              go true g = ap is_some (place_body term s p h place i list g) ∙ has_body_lem depth list part
              go false g = sym (none_is g)

          lent : take (at + 2 + count - (at + 2)) (drop (at + 2) table) ≡ list
          lent = let z : at + 2 + count - (at + 2) ≡ count = omega arith in rw z

          -- the words of the part are lent, and what was asked of them is said
          module _ (ws : List ℕ) (l : ws ≡ part) (b : Bool) (q : b ≡ has_body depth (take (at + 2 + count - (at + 2)) (drop (at + 2) table)) ws) where
            asked : b ≡ has_body depth list part
            asked = q ∙ rw (lent, l)

            pub leaf_open : b ≡ false → false ≡ sound_leaf (places_of term s) (variables_in n (drop at table))
            leaf_open e = unsound (places_of term s) (sound_is ∙ sym asked ∙ e)

            pub leaf_next : b ≡ true → sound_leaf (places_of term s) (variables_in n (drop at table)) ≡ sound_leaf (places_of term s) (variables_in (n - 1) (drop (at + 2 + count) table))
            leaf_next e =
                rw (variables_are) (sound_then (places_of term s) var (variables_in (n - 1) (drop (at + 2 + count) table)) ∙ rw (sound_is ∙ sym asked ∙ e))

-- ---- what was read and is sound
pub record FirstRead (table term : List ℕ) (s : Walk) (at n : ℕ) (vs : List LeafVariable) : Type 0 where
  pub two : at + 2 ≤ length table
  pub inside : get_or table (at + 1) 0 ≤ length table - (at + 2)
  pub here : get_or table at 0 < s.count
  pub good : good_list (get_or s.depths (get_or table at 0) 0) (take (get_or table (at + 1) 0) (drop (at + 2) table)) ≡ true
  pub others : List LeafVariable
  pub is : vs ≡ record { at = get_or table at 0; list = take (get_or table (at + 1) 0) (drop (at + 2) table) } ∷ others
  pub read : variables_in (n - 1) (drop (at + 2 + get_or table (at + 1) 0) table) ≡ some others
  pub has : is_some (body_for (places_of term s) (get_or table at 0) (take (get_or table (at + 1) 0) (drop (at + 2) table))) ≡ true
  pub sound : sound_variables (places_of term s) others ≡ true

module _ (table term : List ℕ) (s : Walk) (p : Parted term) (h : Holds term s) (at n : ℕ) (vs : List LeafVariable) (some_left : n ≡ 0 → ⊥)
    (read : variables_in n (drop at table) ≡ some vs) (sound : sound_variables (places_of term s) vs ≡ true) where
  first_two : at + 2 ≤ length table
  first_two = go (leb (at + 2) (length table)) refl
    where
      go : (b : Bool) → leb (at + 2) (length table) ≡ b → at + 2 ≤ length table
      go true e = leb-true _ _ e
      go false e =
          let z = variables_cut (places_of term s) n (drop at table) some_left (rw (length-drop at table) (omega (arith, leb-false (at + 2) (length table) e))) in
          never (cc)

  first_inside : get_or table (at + 1) 0 ≤ length table - (at + 2)
  first_inside = go (leb (get_or table (at + 1) 0) (length table - (at + 2))) refl
    where
      go : (b : Bool) → leb (get_or table (at + 1) 0) (length table - (at + 2)) ≡ b → get_or table (at + 1) 0 ≤ length table - (at + 2)
      go true e = leb-true _ _ e
      go false e = let z = variables_past table at n some_left first_two (leb-false (get_or table (at + 1) 0) (length table - (at + 2)) e) in never (cc)

  pub first_read : FirstRead table term s at n vs
  first_read = go (variables_in (n - 1) (drop (at + 2 + get_or table (at + 1) 0) table)) refl
    where
      var : LeafVariable
      var = record { at = get_or table at 0; list = take (get_or table (at + 1) 0) (drop (at + 2) table) }

      made : (others : List LeafVariable) → variables_in (n - 1) (drop (at + 2 + get_or table (at + 1) 0) table) ≡ some others → vs ≡ var ∷ others
          → sound_variable (places_of term s) var && sound_variables (places_of term s) others ≡ true → FirstRead table term s at n vs
      made others r e q =
          let v = and_left (sound_variable (places_of term s) var) (sound_variables (places_of term s) others) q in
          let o = and_right (sound_variable (places_of term s) var) (sound_variables (places_of term s) others) q in
          let t = sound_parts (places_of term s) var v in
          let i : get_or table at 0 < s.count = omega (arith, t.0, held_length term s p h) in
          record {
            two = first_two;
            inside = first_inside;
            here = i;
            good = rw (place_depth term s p h (get_or table at 0) i) at t.1;
            others = others;
            is = e;
            read = r;
            has = t.2;
            sound = o;
          }

      go : (o : Option (List LeafVariable)) → variables_in (n - 1) (drop (at + 2 + get_or table (at + 1) 0) table) ≡ o → FirstRead table term s at n vs
      go none e = let z = variables_are table at n some_left first_two first_inside in let y = ap (variable_then var) e in never (cc)
      go (some others) e =
          let z : some vs ≡ some (var ∷ others) = sym read ∙ variables_are table at n some_left first_two first_inside ∙ ap (variable_then var) e in
          let w : vs ≡ var ∷ others = cc in
          let q : sound_variables (places_of term s) (var ∷ others) ≡ true = rw w at sound in
          made others e w (more_sound (places_of term s) var others q)
