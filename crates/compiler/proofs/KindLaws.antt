-- What the definitions say of a constraint's place in the marks, kind by kind: closedness is named below 8256, equality from there on.
use Rattle.std.specs.Prelude.{ℕ, ◌+◌, ◌-◌, ◌*◌, ◌≤◌, ◌<◌, ◌≡◌, Bool, true, false, ◌||◌, ◌/◌, zero, suc, List, length, set, ltb, Option, Some, None}
use mathlib.Core.Path.{refl, ap, ◌∙◌}
use native.Mathlib.Omega.{arith}
use mathlib.Core.Bool.{cond}
use borrow.Author.Tests.{lt-ltb, le-ltb, ltb-true}
use Rattle.std.specs.Option.{option_map, MatchOption}
use Rattle.std.specs.List.{list_any, find, range_with_len}
use Rattle.std.proofs.lemmas.List.Edits.{sets}
use Rattle.term.specs.Word.{pick}
use Rattle.compiler.proofs.TableLaws.{some_gives}
use Rattle.compiler.proofs.Searches.{row_has_is, first_from_is, first_constraint_is}
use Rattle.compiler.proofs.WordLaws.{front_closed, front_same}
use Rattle.compiler.specs.declared.constraint.Constraint.{Constraint}
use Rattle.compiler.specs.declared.constraint.Kind.{Kind}
use Rattle.compiler.specs.declared.constraint.Kind.TheVariants.{Closed, Same}
use Rattle.compiler.specs.Told.Tables.{marks_of, mark_at, mark_or, row_of, first_at, unless, is_closed, is_same, is_constraint, is_left, first_from, first_constraint, first_spot, size_at, ids_at, number_at, occurrence_words, front_words, same_closed, same_same, same_name, kind_from, left_same, row_has}

under : (k : ℕ) → k < 4096 → ltb (4160 + k) 8256 ≡ true
under k h = lt-ltb (4160 + k) 8256 (omega arith)

over : (k : ℕ) → ltb (8256 + k) 8256 ≡ false
over k = le-ltb (8256 + k) 8256 (omega arith)

less : (k : ℕ) → 4160 + k - 4160 ≡ k
less k = omega arith

less_same : (k : ℕ) → 8256 + k - 8256 ≡ k
less_same k = omega arith

pub closed_constraint : (fixed : List ℕ) (k : ℕ) → k < 4096 → is_closed fixed k ≡ is_constraint fixed (4160 + k)
unfolding is_constraint
closed_constraint fixed k h = rw (under k h, less k)

pub same_constraint : (fixed : List ℕ) (k : ℕ) → is_same fixed k ≡ is_constraint fixed (8256 + k)
unfolding is_constraint
same_constraint fixed k = rw (over k, less_same k)

pub closed_names : (fixed nums : List ℕ) (a b : ℕ) → a < 4096 → same_closed fixed nums a b ≡ same_name fixed nums (4160 + a) (4160 + b)
unfolding same_name
closed_names fixed nums a b h = rw (under a h, less a, less b)

pub same_names : (fixed nums : List ℕ) (a b : ℕ) → same_same fixed nums a b ≡ same_name fixed nums (8256 + a) (8256 + b)
unfolding same_name
same_names fixed nums a b = rw (over a, less_same a, less_same b)

pub kind_is : (kind : Kind) (k : ℕ) → k < 4096 → kind_from (marks_of kind + k) ≡ marks_of kind
kind_is Closed k h = rw (under k h)
kind_is Same k h = rw (over k)

pub marks_within : (kind : Kind) → (4160 ≤ marks_of kind) × (marks_of kind ≤ 8256)
marks_within Closed = (omega arith, omega arith)
marks_within Same = (omega arith, omega arith)

pub row_spot : (from k : ℕ) → k / 64 ≡ row_of from (from + k)
row_spot from k =
    let z : k ≡ from + k - from = omega arith in
    ap (λ (y : ℕ). y / 64) z

-- ---- a search over the spots of a row is a search over their places in the marks
any_shift : (q : ℕ → Bool) (f i n : ℕ) → list_any (λ k. q (f + k)) (range_with_len i n) ≡ list_any q (range_with_len (f + i) n)
any_shift q f i zero = refl
any_shift q f i (suc n) =
    let z : f + i + 1 ≡ f + (i + 1) = omega arith in
    rw z (ap (λ (b : Bool). q (f + i) || b) (any_shift q f (i + 1) n))

find_shift : (q : ℕ → Bool) (f i n : ℕ) → option_map (λ k. f + k) (find (λ k. q (f + k)) (range_with_len i n)) ≡ find q (range_with_len (f + i) n)
find_shift q f i zero = refl
find_shift q f i (suc n) =
    let z : f + i + 1 ≡ f + (i + 1) = omega arith in
    rw z (go (q (f + i)) (find_shift q f (i + 1) n))
  where
    go : (b : Bool) → option_map (λ k. f + k) (find (λ k. q (f + k)) (range_with_len (i + 1) n)) ≡ find q (range_with_len (f + (i + 1)) n)
        → option_map (λ k. f + k) (cond b (Some i) (find (λ k. q (f + k)) (range_with_len (i + 1) n))) ≡ cond b (Some (f + i)) (find q (range_with_len (f + (i + 1)) n))
    go true e = refl
    go false e = e

pub row_has_spots : (fixed nums marks : List ℕ) (own : Constraint) (r : ℕ)
    → list_any (λ k. left_same fixed nums marks (mark_at own) (marks_of own.kind + k)) (range_with_len (r * 64) 64) ≡ row_has fixed nums marks (mark_at own) r
row_has_spots fixed nums marks own r =
    any_shift (left_same fixed nums marks (mark_at own)) (marks_of own.kind) (r * 64) 64
    ∙ rw (kind_is own.kind own.spot own.within) at (row_has_is fixed nums marks (mark_at own) r)

pub first_in_spots : (fixed marks : List ℕ) (kind : Kind) (r : ℕ) (o : Option ℕ) → o ≡ find (λ k. is_left fixed marks (marks_of kind + k)) (range_with_len (r * 64) 64)
    → option_map (λ k. marks_of kind + k) o ≡ unless 0 (first_from fixed marks (marks_of kind) r)
first_in_spots fixed marks kind r o e =
    ap (option_map (λ k. marks_of kind + k)) e ∙ find_shift (is_left fixed marks) (marks_of kind) (r * 64) 64
    ∙ first_from_is fixed marks (marks_of kind) r (omega (arith, (marks_within kind).0))

-- the spot of what was found is one of the row's
pub first_low : (fixed marks : List ℕ) (kind : Kind) (r k : ℕ) → r < 64 → Some (marks_of kind + k) ≡ unless 0 (first_from fixed marks (marks_of kind) r) → k < 4096
unfolding first_from
first_low fixed marks kind r k h e =
    go (first_at (λ o. is_left fixed marks (marks_of kind + r * 64 + o)) 0 64) (ltb (first_at (λ o. is_left fixed marks (marks_of kind + r * 64 + o)) 0 64) 64) refl
    (some_gives 0 (first_from fixed marks (marks_of kind) r) (marks_of kind + k) e).0
  where
    go : (o : ℕ) (b : Bool) → ltb o 64 ≡ b → marks_of kind + k ≡ pick b (marks_of kind + r * 64 + o) 0 → k < 4096
    go o true q p = omega (arith, h, p, ltb-true o 64 q)
    go o false q p = omega (arith, p, (marks_within kind).0)

pub first_of_kinds : (fixed marks : List ℕ) (r : ℕ) (o a : Option Constraint) → mark_or a ≡ unless 0 (first_from fixed marks 4160 r)
    → MatchOption a (mark_or o ≡ unless 0 (first_from fixed marks 8256 r)) (λ x. o ≡ Some x) → mark_or o ≡ unless 0 (first_constraint fixed marks r)
first_of_kinds fixed marks r o None e m = first_constraint_is fixed marks r (mark_or o) None e m
first_of_kinds fixed marks r o (Some x) e m = first_constraint_is fixed marks r (mark_or o) (Some (mark_at x)) e (ap mark_or m)

-- ---- a test up to its addresses
pub closed_front : (fixed nums out : List ℕ) (at k : ℕ) (first done : List ℕ) (a : ℕ) → k < 4096 → first ≡ set out at 3 → done ≡ sets first (at + 1) (occurrence_words fixed nums k)
    → a ≡ at + 1 + 2 + size_at fixed k → (done ≡ sets out at (front_words fixed nums (4160 + k))) × (a ≡ at + length (front_words fixed nums (4160 + k)))
closed_front fixed nums out at k first done a h p q s = front_closed fixed nums out at (4160 + k) first done a (omega arith) p (rw (less k) q) (rw (less k) s)

pub same_front : (fixed nums out : List ℕ) (at k f : ℕ) (a b c d e done : List ℕ) (n m g h : ℕ) → f ≡ first_spot fixed k → g ≡ number_at nums f → h ≡ number_at nums k
    → a ≡ set out at 4 → b ≡ set a (at + 1) g → c ≡ set b (at + 2) h → d ≡ set c (at + 3) (size_at fixed f) → e ≡ sets d (at + 4) (ids_at fixed f)
    → n ≡ at + 4 + size_at fixed f → done ≡ sets e n (ids_at fixed k) → m ≡ n + size_at fixed k
    → (done ≡ sets out at (front_words fixed nums (8256 + k))) × (m ≡ at + length (front_words fixed nums (8256 + k)))
same_front fixed nums out at k f a b c d e done n m g h z g1 h1 p q r s t u v w =
    front_same fixed nums out at (8256 + k) f a b c d e done n m g h (omega arith) (rw (less_same k) z) g1 (rw (less_same k) h1) p q r s t u (rw (less_same k) v) (rw (less_same k) w)
