-- What is written one after the other is written as one: `set` past the end changes nothing, so no room has to be known.
use mathlib.Core.Path.{◌≡◌, refl, sym, ap, ◌∙◌}
use mathlib.Core.List.{List, [], ◌∷◌, ◌++◌}
use Prim.Native.Nat.{ℕ, zero, suc, ◌+◌, ◌-◌, ◌/◌, ◌%◌, ◌≤◌, ◌<◌}
use native.Mathlib.Nat.{add-zero, add-suc, suc-add}
use native.Mathlib.Omega.{arith}
use lib.ListN.{length, set, get_or, take, length-append, length-set}
use lib.Seq.{sets, take-suc, length-take-le}
use Rattle.std.proofs.lemmas.List.{set_past}
use Rattle.text.specs.Number.{decimal}
use Rattle.text.proofs.Numbers.{decimal_one, decimal_more}

pub sets_append : {A : Type 0} (us vs l : List A) (i : ℕ) → sets l i (us ++ vs) ≡ sets (sets l i us) (i + length us) vs
sets_append [] vs l i = rw add-zero
sets_append (u ∷ us) vs l i = rw (add-suc i (length us), ← suc-add i (length us)) (sets_append us vs (set l i u) (suc i))

-- from `at` to `to` the bytes bs were written
abbrev pub Wrote : List ℕ → ℕ → ℕ → List ℕ → List ℕ → Type 0
Wrote out at to done bs = (to ≡ at + length bs) × (done ≡ sets out at bs)

pub wrote_nothing : (out : List ℕ) (at : ℕ) → Wrote out at at out []
wrote_nothing out at = (omega arith, refl)

pub wrote_then : (out : List ℕ) (at to end : ℕ) (mid done us vs : List ℕ) → Wrote out at to mid us → Wrote mid to end done vs → Wrote out at end done (us ++ vs)
wrote_then out at to end mid done us vs p q =
    (rw (length-append us vs) (omega (arith, p.0, q.0)), q.1 ∙ rw (p.1, p.0) (sym (sets_append us vs out at)))

pub wrote_byte : (out : List ℕ) (at b : ℕ) (done : List ℕ) → done ≡ set out at b → Wrote out at (at + 1) done (b ∷ [])
wrote_byte out at b done e = (refl, e)

pub wrote_first : (out : List ℕ) (at b to : ℕ) (mid done bs : List ℕ) → mid ≡ set out at b → Wrote mid (at + 1) to done bs → Wrote out at to done (b ∷ bs)
wrote_first out at b to mid done bs e q = wrote_then out at (at + 1) to mid done (b ∷ []) bs (wrote_byte out at b mid e) q

-- what would stand past the end is not written
sets_past : {A : Type 0} (vs l : List A) (i : ℕ) → length l ≤ i → sets l i vs ≡ l
sets_past [] l i h = refl
sets_past (v ∷ vs) l i h = rw (set_past l i v h) (sets_past vs l (suc i) (omega arith))

sets_room : {A : Type 0} (vs l : List A) (i n : ℕ) → length l ≤ i + n → sets l i (take n vs) ≡ sets l i vs
sets_room [] l i zero h = refl
sets_room [] l i (suc n) h = refl
sets_room (v ∷ vs) l i zero h = sym (sets_past (v ∷ vs) l i (omega arith))
sets_room (v ∷ vs) l i (suc n) h = sets_room vs (set l i v) (suc i) n (rw (length-set l i v) (omega arith))

module _ {A : Type 0} (items out now : List A) (at to : ℕ) (before : at ≤ to) (e : now ≡ sets out at (take (to - at) items)) where
  -- one more of those that are passed
  pub item_next : (x : A) → to - at < length items → x ≡ get_or items (to - at) x → set now to x ≡ sets out at (take (to + 1 - at) items)
  item_next x h g =
      let i = to - at in
      let l : length (take i items) ≡ i = length-take-le i items (omega arith) in
      let q : get_or items i x ≡ x = sym g in
      let next : to + 1 - at ≡ suc i = omega arith in
      let here : to ≡ at + length (take i items) = omega (arith, l) in
      rw (e, next, take-suc items i x h, q) (sym (sets_append (take i items) (x ∷ []) out at ∙ ap (λ k. set (sets out at (take i items)) k x) (sym here)))

  -- there is no room for what was not passed
  pub items_end : length out ≤ to → now ≡ sets out at items
  items_end h = e ∙ sets_room items out at (to - at) (omega arith)

-- one word more after those that lie from `to` on
pub word_after : (ws out mid done : List ℕ) (to n w : ℕ) → length ws ≡ n → mid ≡ sets out to ws → done ≡ set mid (to + n) w → done ≡ sets out to (ws ++ (w ∷ []))
word_after ws out mid done to n w l e d = d ∙ rw (e, ← l) (sym (sets_append ws (w ∷ []) out to))

-- ---- numbers
pub one_digit : (out : List ℕ) (at n : ℕ) (done : List ℕ) → n < 10 → done ≡ set out at (48 + n) → Wrote out at (at + 1) done (decimal n)
one_digit out at n done h e = rw (decimal_one n h) (wrote_byte out at (48 + n) done e)

pub more_digits : (out : List ℕ) (at last n : ℕ) (mid done : List ℕ) → 10 ≤ n → Wrote out at last mid (decimal (n / 10)) → done ≡ set mid last (48 + n % 10)
    → Wrote out at (last + 1) done (decimal n)
more_digits out at last n mid done h p e =
    rw (decimal_more n h) (wrote_then out at last (last + 1) mid done (decimal (n / 10)) ((48 + n % 10) ∷ []) p (wrote_byte mid last (48 + n % 10) done e))
