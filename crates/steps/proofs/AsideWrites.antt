-- A right side with the arguments set aside: its root tells whether it takes them, and with them it is within the limits just where it is so without them and all have room.
use mathlib.Core.Path.{◌≡◌, refl, sym, ap, ◌∙◌}
use mathlib.Core.Bool.{Bool, true, false, ◌&&◌}
use mathlib.Core.List.{List, [], ◌∷◌, ◌++◌, append-nil}
use mathlib.Core.Option.{some}
use Prim.Native.Nat.{ℕ, ◌+◌, ◌*◌, ◌-◌, ◌≤◌, ◌<◌}
use native.Mathlib.Omega.{arith}
use lib.Dec.{leb}
use lib.ListN.{length, get_or, take, drop}
use lib.Seq.{take_at, sets-eq}
use borrow.Author.Tests.{leb-true, le-leb, lt-leb}
use Rattle.term.specs.Word.{symbol, abstraction, variable, pattern, word, count_of}
use Rattle.term.specs.Row.{Row, nothing, node, width, words, nesting}
use Rattle.term.proofs.Laws.{never, and_left, and_right, and_both, count_word_lem, count_symbol, words_node}
use Rattle.fit.specs.Front.{aside, aside_arguments, with_arguments}
use Rattle.fit.specs.Build.{largest, within_limits}
use Rattle.fit.proofs.Laws.{within_limits_is, within_limits_lem}
use Rattle.walk.specs.Told.State.{part_from, Parted}
use Rattle.walk.proofs.Laws.{parted_body}
use Rattle.steps.specs.Right.{write}
use Rattle.steps.specs.Arguments.{takes, with_aside}
use Rattle.std.specs.Prelude.{Some, None, Ok, Err, Option}
use Rattle.std.specs.Option.{ok_or}
use Rattle.term.specs.declared.answer.Answer.TheVariants as answer
use Rattle.steps.specs.Told.Told.{RightRow}
use Rattle.steps.specs.Told.RightWalk.{BodiesStand, WrittenWithin, RightWritten, RightStands}
use Rattle.steps.specs.Told.Aside.{root_is, RootTold, AttachTold}
use Rattle.steps.specs.Told.Operations.{RowWritten, TakenTold, FrontWritten}
use Rattle.steps.proofs.Shaped.{some_long, Shaped, width_written, shaped_written, limits_within}
use Rattle.steps.proofs.Arguments.{nothing_aside, takes_aside, refuses_aside, Taken, taken, aside_is}
use Rattle.steps.proofs.AsideWords.{aside_many, aside_width, aside_none}

-- ---- within the limits there is room
pub within_short : (t : Row) → within_limits t ≡ true → length (words t) ≤ 4096
within_short t e = leb-true (length (words t)) 4096 (and_left (leb (length (words t)) 4096) (leb (nesting t) 64 && leb (largest t) 65535) (sym (within_limits_is t) ∙ e))

within_low : (t : Row) → within_limits t ≡ true → (nesting t ≤ 64) × (largest t ≤ 65535)
within_low t e =
    let q : leb (nesting t) 64 && leb (largest t) 65535 ≡ true = and_right (leb (length (words t)) 4096) (leb (nesting t) 64 && leb (largest t) 65535) (sym (within_limits_is t) ∙ e) in
    (leb-true (nesting t) 64 (and_left (leb (nesting t) 64) (leb (largest t) 65535) q), leb-true (largest t) 65535 (and_right (leb (nesting t) 64) (leb (largest t) 65535) q))

low_within : (t : Row) → length (words t) ≤ 4096 → nesting t ≤ 64 → largest t ≤ 65535 → within_limits t ≡ true
low_within t l n m =
    within_limits_is t
    ∙ and_both (leb (length (words t)) 4096) (leb (nesting t) 64 && leb (largest t) 65535) (le-leb (length (words t)) 4096 l)
    (and_both (leb (nesting t) 64) (leb (largest t) 65535) (le-leb (nesting t) 64 n) (le-leb (largest t) 65535 m))

not_within : (t : Row) → (within_limits t ≡ true → ⊥) → within_limits t ≡ false
not_within t n = go (within_limits t) refl
  where
    go : (b : Bool) → within_limits t ≡ b → b ≡ false
    go true e = absurd (n e)
    go false e = refl

-- ---- what stands in front
wrote_within : (out done : List ℕ) → length out ≡ 4096 → (t : Row) (r : Option ℕ) → WrittenWithin out done t r → RowWritten t done (ok_or r answer.Over)
wrote_within out done long t (Some n) w =
    let s = within_short t w.0 in
    let z : 0 + length (words t) ≡ length (words t) = omega arith in
    let e : done ≡ words t ++ drop (length (words t)) out = w.2 ∙ sets-eq (words t) out 0 (omega arith) ∙ rw z in
    (w.0, w.1, omega (arith, w.1), ap (take n) e ∙ take_at (words t) (drop (length (words t)) out) n (sym w.1))
wrote_within out done long t None w = (refl, w)

-- ---- the root tells
root_refuses : (t more : Row) → None ≡ root_is t → takes t more ≡ false
unfolding takes root_is
root_refuses nothing more e = refl
root_refuses (node (symbol i c) kids rest) more e = never (cc)
root_refuses (node abstraction kids rest) more e = refl
root_refuses (node (variable i) kids rest) more e = refl
root_refuses (node (pattern x c) kids rest) more e = refl

record SymbolThere (t more : Row) (w : ℕ) : Type 0 where
  tells : takes t more ≡ leb (count_of w + width more) 15
  first : get_or (words t) 0 0 ≡ w

root_symbol_there : (t more : Row) (w : ℕ) → Shaped t → Some w ≡ root_is t → SymbolThere t more w
unfolding takes root_is Shaped
root_symbol_there nothing more w s e = never (cc)
root_symbol_there (node (symbol i c) kids rest) more w s e =
    let z : w ≡ word (symbol i c) = cc in
    let n : count_of w ≡ c = ap count_of z ∙ count_word_lem (symbol i c) s.0 ∙ count_symbol i c in
    record { tells = ap (λ (k : ℕ). leb (k + width more) 15) (sym n); first = ap (λ (ws : List ℕ). get_or ws 0 0) (words_node (symbol i c) kids rest) ∙ sym z }
root_symbol_there (node abstraction kids rest) more w s e = never (cc)
root_symbol_there (node (variable i) kids rest) more w s e = never (cc)
root_symbol_there (node (pattern x c) kids rest) more w s e = never (cc)

module _ (right : List ℕ) (b : ℕ) (part : List ℕ) (parted : Parted part) (some_words : 0 < length part) (bodies lengths : List ℕ) where
  abbrev t : Row
  t = part_from part 0

  abbrev more : Row
  more = aside_arguments b (part_from part 0)

  -- ---- nothing is set aside
  pub front_plain : count_of (get_or part 0 0) ≤ b → (out done : List ℕ) → length out ≡ 4096 → (r : Option ℕ) → RightWritten right bodies lengths out done r
      → FrontWritten right b part bodies lengths done (ok_or r answer.Over)
  unfolding RightWritten FrontWritten
  front_plain l out done long r told vars k bs p good one low same g =
      rw (aside_none part parted some_words b l, nothing_aside (write bs 0 p)) (wrote_within out done long (write bs 0 p) r (told vars k bs p good one low same g))

  -- ---- some are
  module _ (m : ℕ) (many : m ≡ count_of (get_or part 0 0) - b) (some-aside : b < count_of (get_or part 0 0)) where
    wide : width more ≡ m
    wide = aside_width part parted some_words b ∙ sym many

    refused_told : (u : Row) → takes u more ≡ false → (out : List ℕ) → TakenTold (aside b t) (with_aside u more) out (Err (answer.CannotTake m))
    refused_told u e out = rw (refuses_aside u more (omega (arith, wide, many, some-aside)) e) (ap (λ (n : ℕ). Err (answer.CannotTake n)) (many ∙ sym (aside_many part parted some_words b)))

    module _ (vars : ℕ) (k : ℕ → ℕ) (bs : ℕ → Row) (p : Row) (good : RightRow vars k 0 p) (one : width p ≡ 1) (low : nesting p ≤ 16) (same : words p ≡ right) (g : BodiesStand vars bodies lengths bs) where
      abbrev u : Row
      u = write bs 0 p

      stands : RightStands vars k 0 1 right 0 p []
      stands = record { good = good; low = omega (arith, low); wide = one; same = sym same ∙ sym (append-nil (words p)) }

      shaped : Shaped u
      shaped = shaped_written vars bs (λ x h. (g.body x h).one) k (λ x h. (g.body x h).within.formed) 0 p good

      single : width u ≡ 1
      single = width_written vars bs (λ x h. (g.body x h).one) k 0 p good ∙ one

      there : (w : ℕ) → RootTold right 0 bodies lengths (Some w) → SymbolThere u more w
      unfolding RootTold
      there w root = root_symbol_there u more w shaped (root vars k bs p [] stands g)

      full : (w : ℕ) → RootTold right 0 bodies lengths (Some w) → 15 < count_of w + m → takes u more ≡ false
      full w root l = (there w root).tells ∙ lt-leb (count_of w + width more) 15 (omega (arith, l, wide))

      module _ (w : ℕ) (root : RootTold right 0 bodies lengths (Some w)) (room : count_of w + m ≤ 15) where
        takes_them : takes u more ≡ true
        takes_them = (there w root).tells ∙ le-leb (count_of w + width more) 15 (omega (arith, room, wide))

        abbrev s : Row
        s = with_arguments u more

        with_them : with_aside u more ≡ some s
        with_them = takes_aside u more (omega (arith, wide, many, some-aside)) takes_them

        as_taken : Taken u more s
        as_taken = taken u more takes_them

        over : within_limits u ≡ false → within_limits s ≡ false
        over e =
            not_within s (λ q.
            let l = within_low s q in
            let h = as_taken in
            let z : within_limits u ≡ true = low_within u (omega (arith, h.long, within_short s q)) (omega (arith, h.deep, l.0)) (omega (arith, h.large, l.1)) in
            never (cc))

        module _ (out mid : List ℕ) (n : ℕ) (x : RowWritten u mid (Ok n)) (arguments : List ℕ) (are : arguments ≡ words more) (first : ℕ) (grows : first ≡ w + m * 65536) (done : List ℕ) where
          long : length (words s) ≡ n + length arguments
          long = omega (arith, as_taken.long, x.1, ap length are)

          attached_words : take n mid ≡ words u → first ∷ (drop 1 (take n mid) ++ arguments) ≡ words s
          attached_words e =
              let h = as_taken in
              let f : first ≡ h.first = omega (arith, grows, h.grown, (there w root).first, wide) in
              rw (e, are, f) (sym (h.same single))

          attached : (r : Option ℕ) → AttachTold mid n first arguments done r → RowWritten s done (ok_or r answer.Over)
          unfolding AttachTold
          attached (Some size) a =
              let h = as_taken in
              let l = limits_within u shaped x.0 in
              let o = aside_is b t (parted_body part parted some_words) in
              let z : size ≡ length (words s) = omega (arith, a.0, long) in (
                within_limits_lem s (h.formed l.0 o.formed) (omega (arith, h.deep, l.1, o.low)) (omega (arith, z, a.1)),
                z,
                a.1,
                a.2 (omega (arith, x.1, some_long u single)) ∙ attached_words x.3,
              )
          attached None a = (refl, not_within s (λ q. omega (arith, within_short s q, long, a)))

    pub front_other : RootTold right 0 bodies lengths None → (out : List ℕ) → FrontWritten right b part bodies lengths out (Err (answer.CannotTake m))
    unfolding RootTold FrontWritten
    front_other root out vars k bs p good one low same g =
        refused_told (write bs 0 p) (root_refuses (write bs 0 p) more (root vars k bs p [] (stands vars k bs p good one low same g) g)) out

    module _ (w : ℕ) (root : RootTold right 0 bodies lengths (Some w)) where
      pub front_full : 15 < count_of w + m → (out : List ℕ) → FrontWritten right b part bodies lengths out (Err (answer.CannotTake m))
      unfolding FrontWritten
      front_full l out vars k bs p good one low same g = refused_told (write bs 0 p) (full vars k bs p good one low same g w root l) out

      module _ (room : count_of w + m ≤ 15) where
        pub front_over : (out done : List ℕ) → RightWritten right bodies lengths out done None → FrontWritten right b part bodies lengths done (Err answer.Over)
        unfolding RightWritten FrontWritten
        front_over out done told vars k bs p good one low same g =
            rw (with_them vars k bs p good one low same g w root room) (refl, over vars k bs p good one low same g w root room (told vars k bs p good one low same g))

        pub front_attached : (out mid : List ℕ) → length out ≡ 4096 → (n : ℕ) → RightWritten right bodies lengths out mid (Some n) → (arguments : List ℕ) → arguments ≡ words (aside_arguments b (part_from part 0))
            → (first : ℕ) → first ≡ w + m * 65536 → (done : List ℕ) (r : Option ℕ) → AttachTold mid n first arguments done r → FrontWritten right b part bodies lengths done (ok_or r answer.Over)
        unfolding RightWritten FrontWritten
        front_attached out mid long n told arguments are first grows done r a vars k bs p good one low same g =
            let x = wrote_within out mid long (write bs 0 p) (Some n) (told vars k bs p good one low same g) in
            rw (with_them vars k bs p good one low same g w root room) (attached vars k bs p good one low same g w root room out mid n x arguments are first grows done r a)
