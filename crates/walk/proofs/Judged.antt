-- What Switch, Closed and Same say of a state: one law for each way through the code.
use mathlib.Core.Path.{◌≡◌, refl, sym, ap, ◌∙◌}
use mathlib.Core.Bool.{Bool, true, false, not, ◌&&◌}
use mathlib.Core.List.{List, [], ◌∷◌}
use mathlib.Core.Option.{Option, some}
use Prim.Native.Nat.{ℕ, suc, ◌+◌, ◌*◌, ◌-◌, ◌≤◌, ◌<◌}
use native.Mathlib.Omega.{arith}
use lib.Dec.{leb, ltb}
use lib.ListN.{length, get_or, take, drop, length-drop}
use lib.Seq.{drop-cons, get_or-drop}
use borrow.Author.Tests.{lt-ltb, le-ltb}
use Rattle.std.specs.Prelude.{Some, None}
use Rattle.std.specs.Prelude as std
use Rattle.std.specs.Bool.{then_some}
use Rattle.term.specs.Word.{pick}
use Rattle.term.specs.Renumber.{good_list}
use Rattle.term.specs.Part.{is_some, has_body, same_o, same_body}
use Rattle.tree.specs.Find.{PartAt, part_of, body_for}
use Rattle.walk.specs.Walk.{DamagedAt, Next, Ends, unless, go_to, is_word, case_of, case_next, switch_node, closed_node, same_node}
use Rattle.walk.specs.declared.state.Walk.{Walk}
use Rattle.walk.specs.declared.state.Stands.TheVariants as stands
use Rattle.walk.specs.Told.Taken.{address_of, CaseTold, closed_taken, same_taken}
use Rattle.walk.specs.declared.decide.Decision.{Decision}
use Rattle.walk.specs.declared.decide.Decision.TheVariants.{Enter, Stop}
use Rattle.walk.specs.Told.State.{places_of, Parted, Holds, Decided, GoTold, CaseTaken, SwitchDecided, ClosedDecided, SameDecided, or_damaged}
use Rattle.walk.proofs.Tells.{decided_same, decided_damaged}
use Rattle.walk.proofs.Uncovered.{held_length, place_depth, place_entered, place_body, has_body_lem, same_body_is}
use Rattle.walk.proofs.Entering.{opened}

-- ---- the words of a node
pub two_words : (table : List ℕ) (at : ℕ) → at + 3 ≤ length table → drop (at + 1) table ≡ get_or table (at + 1) 0 ∷ get_or table (at + 2) 0 ∷ drop (at + 3) table
two_words table at h =
    let z : suc (at + 1) ≡ at + 2 = omega arith in
    let y : suc (at + 2) ≡ at + 3 = omega arith in
    drop-cons table (at + 1) 0 (omega arith) ∙ ap (get_or table (at + 1) 0 ∷◌) (rw z (drop-cons table (at + 2) 0 (omega arith) ∙ rw y))

pub three_words : (table : List ℕ) (at : ℕ) → at + 4 ≤ length table → drop (at + 1) table ≡ get_or table (at + 1) 0 ∷ get_or table (at + 2) 0 ∷ get_or table (at + 3) 0 ∷ drop (at + 4) table
three_words table at h =
    let y : suc (at + 3) ≡ at + 4 = omega arith in
    two_words table at (omega arith) ∙ ap (λ (l : List ℕ). get_or table (at + 1) 0 ∷ get_or table (at + 2) 0 ∷ l) (drop-cons table (at + 3) 0 (omega arith) ∙ rw y)

-- ---- an address that is taken, or none
abbrev taken_next : List ℕ → ℕ → List PartAt → std.Option ℕ → Next
taken_next table at ps (Some to) = go_to table at to ps
taken_next table at ps None = Ends (DamagedAt at)

module _ (table : List ℕ) (at : ℕ) (ps : List PartAt) where
  closed_short : (ws : List ℕ) → length ws < 2 → closed_node table at ps ws ≡ Ends (DamagedAt at)
  unfolding closed_node
  closed_short [] h = refl
  closed_short (n ∷ []) h = refl
  closed_short (n ∷ k ∷ ws) h = absurd (omega arith)

  closed_nowhere : (n k : ℕ) (ws : List ℕ) → length ps ≤ n → closed_node table at ps (n ∷ k ∷ ws) ≡ Ends (DamagedAt at)
  unfolding closed_node
  closed_nowhere n k ws h = rw (le-ltb n (length ps) h)

  closed_is : (n k : ℕ) (ws : List ℕ) (d : ℕ) (part : List ℕ) → n < length ps → (part_of n ps).depth ≡ d
      → ((ys : List ℕ) → good_list d ys ≡ true → is_some (body_for ps n ys) ≡ has_body d ys part) → closed_node table at ps (n ∷ k ∷ ws) ≡ taken_next table at ps (closed_taken d part k ws)
  unfolding closed_node closed_taken
  closed_is n k ws d part l e b = rw (lt-ltb n (length ps) l, e) (go (leb k 4) (ltb (k + 1) (length ws)) (good_list d (take k ws)) refl)
    where
      go : (x y z : Bool) → good_list d (take k ws) ≡ z
          → unless x at (unless y at (unless z at (go_to table at (pick (is_some (body_for ps n (take k ws))) (get_or ws k 0) (get_or ws (k + 1) 0)) ps)))
          ≡ taken_next table at ps (pick x (pick y (pick z (Some (pick (has_body d (take k ws) part) (get_or ws k 0) (get_or ws (k + 1) 0))) None) None) None)
      go false y z q = refl
      go true false z q = refl
      go true true false q = refl
      go true true true q = rw (b (take k ws) q)

  same_short : (ws : List ℕ) → length ws < 3 → same_node table at ps ws ≡ Ends (DamagedAt at)
  unfolding same_node
  same_short [] h = refl
  same_short (n ∷ []) h = refl
  same_short (n ∷ m ∷ []) h = refl
  same_short (n ∷ m ∷ k ∷ ws) h = absurd (omega arith)

  same_nowhere : (n m k : ℕ) (ws : List ℕ) → length ps ≤ n → same_node table at ps (n ∷ m ∷ k ∷ ws) ≡ Ends (DamagedAt at)
  unfolding same_node
  same_nowhere n m k ws h = rw (le-ltb n (length ps) h)

  same_next_nowhere : (n m k : ℕ) (ws : List ℕ) → n < length ps → length ps ≤ m → same_node table at ps (n ∷ m ∷ k ∷ ws) ≡ Ends (DamagedAt at)
  unfolding same_node
  same_next_nowhere n m k ws l h = rw (lt-ltb n (length ps) l, le-ltb m (length ps) h)

  same_is : (n m k : ℕ) (ws : List ℕ) (d : ℕ) (part : List ℕ) (c : ℕ) (other : List ℕ) → n < length ps → m < length ps → (part_of n ps).depth ≡ d → (part_of m ps).depth ≡ c
      → ((ys zs : List ℕ) → good_list d ys ≡ true → good_list c zs ≡ true → same_o (body_for ps n ys) (body_for ps m zs) ≡ same_body d ys part c zs other)
      → same_node table at ps (n ∷ m ∷ k ∷ ws) ≡ taken_next table at ps (same_taken d part c other k ws)
  unfolding same_node same_taken
  same_is n m k ws d part c other l i e f b =
      rw (lt-ltb n (length ps) l, lt-ltb m (length ps) i, e, f) (go (leb k 4) (ltb (k + k + 1) (length ws)) (good_list d (take k ws)) (good_list c (take k (drop k ws))) refl refl)
    where
      go : (x y z w : Bool) → good_list d (take k ws) ≡ z → good_list c (take k (drop k ws)) ≡ w
          → unless x at (unless y at (unless z at (unless w at
          (go_to table at (pick (same_o (body_for ps n (take k ws)) (body_for ps m (take k (drop k ws)))) (get_or ws (k + k) 0) (get_or ws (k + k + 1) 0)) ps))))
          ≡ taken_next table at ps (pick x (pick y (pick z (pick w (Some (pick (same_body d (take k ws) part c (take k (drop k ws)) other) (get_or ws (k + k) 0) (get_or ws (k + k + 1) 0))) None) None) None) None)
      go false y z w q u = refl
      go true false z w q u = refl
      go true true false w q u = refl
      go true true true false q u = refl
      go true true true true q u = rw (b (take k ws) (take k (drop k ws)) q u)

  switch_short : (ws : List ℕ) → length ws < 2 → switch_node table at ps ws ≡ Ends (DamagedAt at)
  unfolding switch_node
  switch_short [] h = refl
  switch_short (n ∷ []) h = refl
  switch_short (n ∷ k ∷ ws) h = absurd (omega arith)

  switch_nowhere : (n k : ℕ) (ws : List ℕ) → length ps ≤ n → switch_node table at ps (n ∷ k ∷ ws) ≡ Ends (DamagedAt at)
  unfolding switch_node
  switch_nowhere n k ws h = rw (le-ltb n (length ps) h)

  switch_over : (n k : ℕ) (ws : List ℕ) → n < length ps → length ws ≤ 2 * k → switch_node table at ps (n ∷ k ∷ ws) ≡ Ends (DamagedAt at)
  unfolding switch_node
  switch_over n k ws l h = rw (lt-ltb n (length ps) l, le-ltb (2 * k) (length ws) h)

  switch_is : (n k : ℕ) (ws : List ℕ) (o : Option ℕ) → n < length ps → 2 * k < length ws → o ≡ case_of (part_of n ps).part k ws
      → switch_node table at ps (n ∷ k ∷ ws) ≡ case_next table at n ps (get_or ws (2 * k) 0) o
  unfolding switch_node
  switch_is n k ws o l h e = rw (lt-ltb n (length ps) l, lt-ltb (2 * k) (length ws) h, e)

-- ---- a state
module _ (table term : List ℕ) (s : Walk) (p : Parted term) (h : Holds term s) where
  abbrev held : List PartAt
  held = places_of term s

  abbrev place : ℕ
  place = get_or table (s.at + 1) 0

  damaged : (next : Next) → next ≡ Ends (DamagedAt s.at) → Decided table term (λ fits. next) s (Stop stands.Damaged)
  damaged next e = decided_damaged table term (λ fits. next) s (λ fits. e)

  -- Closed
  module _ (inside : s.at < length table) where
    pub closed_cut : length table - s.at < 3 → ClosedDecided table term s (Stop stands.Damaged)
    closed_cut l = damaged _ (closed_short table s.at held (drop (s.at + 1) table) (rw (length-drop (s.at + 1) table) (omega arith)))

    pub same_cut : length table - s.at < 4 → SameDecided table term s (Stop stands.Damaged)
    same_cut l = damaged _ (same_short table s.at held (drop (s.at + 1) table) (rw (length-drop (s.at + 1) table) (omega arith)))

    pub switch_cut : length table - s.at < 3 → SwitchDecided table term s (Stop stands.Damaged)
    switch_cut l = damaged _ (switch_short table s.at held (drop (s.at + 1) table) (rw (length-drop (s.at + 1) table) (omega arith)))

  module _ (long : s.at + 3 ≤ length table) where
    pub closed_uncovered : s.count ≤ place → ClosedDecided table term s (Stop stands.Damaged)
    closed_uncovered l =
        damaged _ (rw (two_words table s.at long) (closed_nowhere table s.at held place (get_or table (s.at + 2) 0) (drop (s.at + 3) table) (omega (arith, held_length term s p h))))

    pub switch_uncovered : s.count ≤ place → SwitchDecided table term s (Stop stands.Damaged)
    switch_uncovered l =
        damaged _ (rw (two_words table s.at long) (switch_nowhere table s.at held place (get_or table (s.at + 2) 0) (drop (s.at + 3) table) (omega (arith, held_length term s p h))))

    module _ (i : place < s.count) where
      here : place < length held
      here = omega (arith, held_length term s p h)

      -- the words of the part are lent, and the address is what was taken for them
      module _ (part : List ℕ) (l : part ≡ drop (get_or s.offsets place 0) term) (t : std.Option ℕ) (e : t ≡ closed_taken (get_or s.depths place 0) part (get_or table (s.at + 2) 0) (drop (s.at + 3) table)) where
        closed_next : closed_node table s.at held (drop (s.at + 1) table) ≡ taken_next table s.at held t
        closed_next =
            rw (two_words table s.at long, e, l)
            (closed_is table s.at held place (get_or table (s.at + 2) 0) (drop (s.at + 3) table) (get_or s.depths place 0) (drop (get_or s.offsets place 0) term) here (place_depth term s p h place i)
            (λ ys g. ap is_some (place_body term s p h place i ys g) ∙ has_body_lem (get_or s.depths place 0) ys (drop (get_or s.offsets place 0) term)))

        pub closed_goes : (to : ℕ) → t ≡ Some to → (d : Decision) → GoTold table s.at to d → ClosedDecided table term s d
        closed_goes to q d g = decided_same table term _ (λ fits. go_to table s.at to held) s d (λ fits. closed_next ∙ ap (taken_next table s.at held) q) (g term s refl)

        pub closed_damaged : t ≡ None → ClosedDecided table term s (Stop stands.Damaged)
        closed_damaged q = damaged _ (closed_next ∙ ap (taken_next table s.at held) q)

      -- Switch
      pub switch_past : length table - (s.at + 3) ≤ 2 * get_or table (s.at + 2) 0 → SwitchDecided table term s (Stop stands.Damaged)
      switch_past l =
          damaged _
          (rw (two_words table s.at long)
          (switch_over table s.at held place (get_or table (s.at + 2) 0) (drop (s.at + 3) table) here (rw (length-drop (s.at + 3) table) l)))

      module _ (fits : 2 * get_or table (s.at + 2) 0 < length table - (s.at + 3)) (t : std.Option ℕ)
          (c : CaseTold (get_or term (get_or s.offsets place 0) 0) (get_or table (s.at + 2) 0) (drop (s.at + 3) table) t) where
        switch_next : switch_node table s.at held (drop (s.at + 1) table) ≡ case_next table s.at place held (get_or (drop (s.at + 3) table) (2 * get_or table (s.at + 2) 0) 0) (address_of t)
        unfolding is_word
        switch_next =
            let q = opened term s p h place i in
            rw (two_words table s.at long)
            (switch_is table s.at held place (get_or table (s.at + 2) 0) (drop (s.at + 3) table) (address_of t) here (rw (length-drop (s.at + 3) table) fits)
            (c (part_of place held).part (λ v. rw (q.is, q.first))))

        pub switch_goes : t ≡ None → (d : Decision) → GoTold table s.at (get_or table (s.at + 3 + 2 * get_or table (s.at + 2) 0) 0) d → SwitchDecided table term s d
        switch_goes q d g =
            decided_same table term _ (λ fits. go_to table s.at (get_or table (s.at + 3 + 2 * get_or table (s.at + 2) 0) 0) held) s d
            (λ fits. switch_next ∙ rw (q, get_or-drop (s.at + 3) table (2 * get_or table (s.at + 2) 0) 0)) (g term s refl)

        pub switch_takes : (to : ℕ) → t ≡ Some to → (d : Decision) → CaseTaken table s.at place (get_or s.entered place false) to d → SwitchDecided table term s d
        switch_takes to q d g = decided_same table term _ (λ fits. case_next table s.at place held 0 (some to)) s d (λ fits. switch_next ∙ rw q) (g term s p h refl i refl)

  -- Same
  module _ (long : s.at + 4 ≤ length table) where
    abbrev other : ℕ
    other = get_or table (s.at + 2) 0

    pub same_uncovered : s.count ≤ place → SameDecided table term s (Stop stands.Damaged)
    same_uncovered l =
        damaged _ (rw (three_words table s.at long) (same_nowhere table s.at held place other (get_or table (s.at + 3) 0) (drop (s.at + 4) table) (omega (arith, held_length term s p h))))

    module _ (i : place < s.count) where
      pub same_next_uncovered : s.count ≤ other → SameDecided table term s (Stop stands.Damaged)
      same_next_uncovered l =
          damaged _
          (rw (three_words table s.at long)
          (same_next_nowhere table s.at held place other (get_or table (s.at + 3) 0) (drop (s.at + 4) table) (omega (arith, held_length term s p h)) (omega (arith, held_length term s p h))))

      -- the words of the parts are lent, and the address is what was taken for them
      module _ (j : other < s.count) (part part-2 : List ℕ) (l : part ≡ drop (get_or s.offsets place 0) term) (m : part-2 ≡ drop (get_or s.offsets other 0) term) (t : std.Option ℕ)
          (e : t ≡ same_taken (get_or s.depths place 0) part (get_or s.depths other 0) part-2 (get_or table (s.at + 3) 0) (drop (s.at + 4) table)) where
        same_next : same_node table s.at held (drop (s.at + 1) table) ≡ taken_next table s.at held t
        same_next =
            rw (three_words table s.at long, e, l, m)
            (same_is table s.at held place other (get_or table (s.at + 3) 0) (drop (s.at + 4) table) (get_or s.depths place 0) (drop (get_or s.offsets place 0) term) (get_or s.depths other 0)
            (drop (get_or s.offsets other 0) term) (omega (arith, held_length term s p h)) (omega (arith, held_length term s p h)) (place_depth term s p h place i) (place_depth term s p h other j)
            (λ ys zs g k.
            rw (place_body term s p h place i ys g, place_body term s p h other j zs k)
            (same_body_is (get_or s.depths place 0) ys (drop (get_or s.offsets place 0) term) (get_or s.depths other 0) zs (drop (get_or s.offsets other 0) term))))

        pub same_goes : (to : ℕ) → t ≡ Some to → (d : Decision) → GoTold table s.at to d → SameDecided table term s d
        same_goes to q d g = decided_same table term _ (λ fits. go_to table s.at to held) s d (λ fits. same_next ∙ ap (taken_next table s.at held) q) (g term s refl)

        pub same_damaged : t ≡ None → SameDecided table term s (Stop stands.Damaged)
        same_damaged q = damaged _ (same_next ∙ ap (taken_next table s.at held) q)

  -- a case
  module _ (n : ℕ) (i : n < s.count) (to : ℕ) where
    abbrev CaseDecided : Decision → Type 0
    CaseDecided d = Decided table term (λ fits. case_next table s.at n held 0 (some to)) s d

    case_entered : get_or s.entered n false ≡ true → CaseDecided (Stop stands.Damaged)
    case_entered o = damaged _ (rw (place_entered term s p h n i, o))

    module _ (o : get_or s.entered n false ≡ false) where
      case_out : (ltb s.at to && ltb to (length table)) ≡ false → CaseDecided (Stop stands.Damaged)
      unfolding go_to
      case_out l = damaged _ (rw (place_entered term s p h n i, o, l))

      case_in : (ltb s.at to && ltb to (length table)) ≡ true → CaseDecided (Enter n to)
      unfolding go_to Decided
      case_in l = (i, o, λ fits. rw (place_entered term s p h n i, o, l))

    -- whether it was entered before, and whether the address leads on
    pub case_told : (entered b : Bool) → get_or s.entered n false ≡ entered → b ≡ (not entered && (ltb s.at to && ltb to (length table))) → CaseDecided (or_damaged (then_some b (Enter n to)))
    case_told true b o e = rw e (case_entered o)
    case_told false true o e = case_in o (sym e)
    case_told false false o e = case_out o (sym e)
