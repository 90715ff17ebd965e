-- Bodies of any kind one after the other: what was written are the bodies so far, and zeros after them.
use mathlib.Core.Path.{◌≡◌, refl, sym, ap, ap₂, ◌∙◌}
use mathlib.Core.Bool.{true, false}
use mathlib.Core.List.{List, [], ◌∷◌, ◌++◌, append_assoc, append-nil}
use Prim.Native.Nat.{ℕ, zero, suc, ◌+◌, ◌-◌, ◌≤◌, ◌<◌}
use native.Mathlib.Omega.{arith}
use native.Mathlib.Numerals.{add-one}
use lib.Dec.{leb}
use lib.ListN.{length, length-append, length-set, take, set, replicate}
use lib.Seq.{length-take-le, take_at}
use borrow.Author.Tests.{le-leb, lt-leb}
use Rattle.term.specs.declared.answer.Answer.{Answer}
use Rattle.term.specs.declared.answer.Answer.TheVariants as answer
use Rattle.term.specs.Row.{Row, words}
use Rattle.term.specs.Part.{padded}
use Rattle.term.proofs.Laws.{padded_fits, padded_short}
use Rattle.fit.specs.Match.{body_list, length_list, Matched, refused, fitted, match_answer, match_words, match_lengths}

-- ---- one body more
pub body_more : (b : ℕ → Row) (x n : ℕ) → body_list b x (suc n) ≡ body_list b x n ++ words (b (x + n))
unfolding body_list
body_more b x zero = let z : x + 0 ≡ x = omega arith in rw (z, append-nil (words (b x)))
body_more b x (suc n) =
    let z : x + suc n ≡ suc x + n = omega arith in
    rw z (ap (λ (r : List ℕ). words (b x) ++ r) (body_more b (suc x) n) ∙ sym (append_assoc (words (b x)) (body_list b (suc x) n) (words (b (suc x + n)))))

pub length_more : (b : ℕ → Row) (x n : ℕ) → length_list b x (suc n) ≡ length_list b x n ++ (length (words (b (x + n))) ∷ [])
unfolding length_list
length_more b x zero = let z : x + 0 ≡ x = omega arith in rw z
length_more b x (suc n) = let z : x + suc n ≡ suc x + n = omega arith in rw z (ap (λ (r : List ℕ). length (words (b x)) ∷ r) (length_more b (suc x) n))

pub lengths_long : (b : ℕ → Row) (x n : ℕ) → length (length_list b x n) ≡ n
unfolding length_list
lengths_long b x zero = refl
lengths_long b x (suc n) = ap suc (lengths_long b (suc x) n)

-- the bodies of the first variables are no longer than all
pub body_longer : (b : ℕ → Row) (x n m : ℕ) → n ≤ m → length (body_list b x n) ≤ length (body_list b x m)
unfolding body_list
body_longer b x zero m h = omega arith
body_longer b x (suc n) zero h = absurd (omega arith)
body_longer b x (suc n) (suc m) h =
    omega (arith, body_longer b (suc x) n m (omega arith), length-append (words (b x)) (body_list b (suc x) n), length-append (words (b x)) (body_list b (suc x) m))

-- a word set behind a list
pub set_behind : (xs : List ℕ) (v z : ℕ) (ys : List ℕ) → set (xs ++ (z ∷ ys)) (length xs) v ≡ xs ++ (v ∷ ys)
set_behind [] v z ys = refl
set_behind (x ∷ xs) v z ys = ap (λ (r : List ℕ). x ∷ r) (set_behind xs v z ys)

-- a part put behind the words before it, to the end
pub joined_long : (room at : ℕ) (bodies out part post : List ℕ) → length bodies ≡ room → at ≤ room → length out ≡ room - at → length part ≡ length out → post ≡ []
    → length (take at bodies ++ (part ++ post)) ≡ room
joined_long room at bodies out part post n h o long e =
    length-append (take at bodies) (part ++ post)
    ∙ rw (e, append-nil part, length-take-le at bodies (omega (arith, n, h))) (omega (arith, long, o, h))

-- what is answered and left
abbrev pub Leaves : ℕ → Matched → Answer → List ℕ → List ℕ → Type 0
Leaves room m r bodies lengths = (r ≡ match_answer room m) × (bodies ≡ match_words room m) × (lengths ≡ match_lengths room m)

pub refused_leaves : (room : ℕ) (a : Answer) (bodies lengths : List ℕ) → bodies ≡ replicate room 0 → lengths ≡ replicate 16 0 → Leaves room (refused a) a bodies lengths
unfolding match_answer match_words match_lengths
refused_leaves room a bodies lengths b l = (refl, b, l)

pub record SoMany (vars : ℕ) (b : ℕ → Row) (room : ℕ) (bodies lengths : List ℕ) (at x : ℕ) : Type 0 where
  pub long : length bodies ≡ room
  pub sixteen : length lengths ≡ 16
  pub within : at ≤ room
  pub below : x ≤ vars
  pub there : at ≡ length (body_list b 0 x)
  pub written : bodies ≡ body_list b 0 x ++ replicate (room - at) 0
  pub counted : lengths ≡ length_list b 0 x ++ replicate (16 - x) 0

module _ (vars : ℕ) (b : ℕ → Row) (room : ℕ) (few : vars ≤ 16) where
  pub many_start : (bodies lengths : List ℕ) → length bodies ≡ room → bodies ≡ replicate room 0 → lengths ≡ replicate 16 0 → SoMany vars b room bodies lengths 0 0
  unfolding body_list length_list
  many_start bodies lengths n c e =
      record {
        long = n;
        sixteen = ap length e;
        within = omega arith;
        below = omega arith;
        there = refl;
        written = c ∙ (let z : room - 0 ≡ room = omega arith in rw z);
        counted = e;
      }

  module _ (bodies lengths : List ℕ) (at x : ℕ) (s : SoMany vars b room bodies lengths at x) where
    bodies_next : body_list b 0 (suc x) ≡ body_list b 0 x ++ words (b x)
    bodies_next = body_more b 0 x ∙ (let y : 0 + x ≡ x = omega arith in rw y)

    more_long : length (body_list b 0 (suc x)) ≡ length (body_list b 0 x) + length (words (b x))
    more_long = ap length bodies_next ∙ length-append (body_list b 0 x) (words (b x))

    -- where the next body finds no room, all bodies find none
    over_room : x < vars → room - at < length (words (b x)) → room < length (body_list b 0 vars)
    over_room h w = omega (arith, more_long, body_longer b 0 (suc x) vars (omega arith), w, s.there, s.within)

    pub many_short : x < vars → room - at < length (words (b x)) → (cleared zeros : List ℕ) → cleared ≡ replicate room 0 → zeros ≡ replicate 16 0 → (n : ℕ)
        → (leb (length (body_list b 0 vars)) room ≡ false) × Leaves room (fitted vars n b) answer.Short cleared zeros
    unfolding match_answer match_words match_lengths
    many_short h w cleared zeros c z n =
        let o = over_room h w in
        let l = lt-leb (length (body_list b 0 vars)) room o in
        (l, rw l (refl, c ∙ sym (padded_short room (body_list b 0 vars) o), z))

    -- all bodies are written
    pub many_done : vars ≤ x → (n : ℕ) → (leb (length (body_list b 0 vars)) room ≡ true) × Leaves room (fitted vars n b) answer.Done bodies lengths
    unfolding match_answer match_words match_lengths
    many_done h n =
        let e : x ≡ vars = omega (arith, s.below) in
        let room-left : length (body_list b 0 x) ≤ room = omega (arith, s.there, s.within) in
        let fits : length (body_list b 0 vars) ≤ room = rw e at room-left in
        let l = le-leb (length (body_list b 0 vars)) room fits in
        (l, rw l (refl, rw e at (shown s.there s.written), rw e at s.counted))
      where
        shown : at ≡ length (body_list b 0 x) → bodies ≡ body_list b 0 x ++ replicate (room - at) 0 → bodies ≡ padded room (body_list b 0 x)
        shown a c =
            c ∙ ap (λ (n : ℕ). body_list b 0 x ++ replicate (room - n) 0) a
            ∙ sym (padded_fits room (body_list b 0 x) (omega (arith, a, s.within)))

    -- the next body behind the others
    module _ (h : x < vars) (out part post : List ℕ) (n : ℕ) (o : length out ≡ room - at) (long : length part ≡ length out) (nothing-after : post ≡ [])
        (is : n ≡ length (words (b x))) (room_for : n ≤ length out) (w : part ≡ words (b x) ++ replicate (length out - n) 0) where
      joined : List ℕ
      joined = take at bodies ++ (part ++ post)

      at_next : at + n ≡ length (body_list b 0 (suc x))
      at_next = omega (arith, more_long, s.there, is)

      words_next : joined ≡ body_list b 0 (suc x) ++ replicate (room - (at + n)) 0
      unfolding joined
      words_next =
          let t : take at bodies ≡ body_list b 0 x = ap (take at) s.written ∙ take_at (body_list b 0 x) (replicate (room - at) 0) at (sym s.there) in
          let z : length out - n ≡ room - (at + n) = omega (arith, o) in
          let e : part ++ post ≡ words (b x) ++ replicate (room - (at + n)) 0 = ap (λ (r : List ℕ). part ++ r) nothing-after ∙ append-nil part ∙ w ∙ ap (λ (m : ℕ). words (b x) ++ replicate m 0) z in
          ap₂ (λ (c d : List ℕ). c ++ d) t e
          ∙ sym (append_assoc (body_list b 0 x) (words (b x)) (replicate (room - (at + n)) 0))
          ∙ ap (λ (r : List ℕ). r ++ replicate (room - (at + n)) 0) (sym bodies_next)

      lengths_next : set lengths x n ≡ length_list b 0 (suc x) ++ replicate (16 - suc x) 0
      lengths_next =
          let l = length_list b 0 x in
          let z : 16 - x ≡ suc (16 - suc x) = omega arith in
          let e : lengths ≡ l ++ (0 ∷ replicate (16 - suc x) 0) = s.counted ∙ ap (λ (m : ℕ). l ++ replicate m 0) z in
          let g : set (l ++ (0 ∷ replicate (16 - suc x) 0)) x n ≡ l ++ (n ∷ replicate (16 - suc x) 0) = rw (lengths_long b 0 x) at (set_behind l n 0 (replicate (16 - suc x) 0)) in
          let y : 0 + x ≡ x = omega arith in
          ap (λ (r : List ℕ). set r x n) e ∙ g
          ∙ sym (append_assoc l (n ∷ []) (replicate (16 - suc x) 0))
          ∙ ap (λ (r : List ℕ). r ++ replicate (16 - suc x) 0) (ap (λ (m : ℕ). l ++ (m ∷ [])) is ∙ sym (length_more b 0 x ∙ rw y))

      pub many_more : SoMany vars b room (take at bodies ++ (part ++ post)) (set lengths x n) (at + n) (x + 1)
      unfolding joined
      many_more =
          rw (add-one x)
          (record {
            long = joined_long room at bodies out part post s.long s.within o long nothing-after;
            sixteen = simp length-set s.sixteen;
            within = omega (arith, room_for, o, s.within);
            below = omega arith;
            there = at_next;
            written = words_next;
            counted = lengths_next;
          })
