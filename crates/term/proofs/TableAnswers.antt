-- From the lengths that the code wrote to what the operations on tables answer and leave: a good list of words is one formed tree, whose table they are.
use mathlib.Core.Path.{◌≡◌, refl, sym, ap, ◌∙◌}
use mathlib.Core.Bool.{Bool, true, false, not, cond}
use mathlib.Core.List.{List, [], ◌∷◌}
use Prim.Native.Nat.{ℕ, suc, min, ◌+◌, ◌≤◌, ◌<◌}
use native.Mathlib.Omega.{arith}
use native.Mathlib.Numerals.{add-one}
use lib.Dec.{ltb, eqb}
use lib.ListN.{length, take, drop, replicate, length-replicate}
use lib.Seq.{sets, sets-eq, take-append_seam}
use borrow.Author.Tests.{le-leb, lt-leb, eq-eqb, ne_eqb, eqb-true}
use Rattle.std.specs.Prelude.{Ok, Err, Option, Some, None}
use Rattle.std.specs.List.{position_from, position_or_len, zip}
use Rattle.std.proofs.lemmas.Iterator.Adapters.{position_from-zero}
use Rattle.term.specs.declared.answer.Answer.{Answer}
use Rattle.term.specs.declared.answer.Answer.TheVariants.{Done, BadTerm, Short, Disagree}
use Rattle.term.specs.Answer.{answered}
use Rattle.term.specs.Word.{pick}
use Rattle.term.specs.Check.{check, term_limits, IsTerm}
use Rattle.term.specs.Lengths.{lengths_of, table_of, part_lengths, LengthsOutcome, lengths_came, table_made, lengths_gives, agreed, table_checked, check_lengths_gives}
use Rattle.term.proofs.Words.{never}
use Rattle.term.proofs.Trees.{good_tree}
use Rattle.term.proofs.Answers.{term_part, wrote, no_room}
use Rattle.term.proofs.Answering.{answered_same}
use Rattle.term.proofs.Settled.{settled}
use Rattle.term.proofs.Tables.{part_lengths_many, lengths_parts}

-- ---- the table of a term in words
pub term_table : (ws : List ℕ) (i : IsTerm ws) → table_of ws ≡ lengths_of i.tree
unfolding table_of
term_table ws i = rw (term_part ws i)

good_table : (ws : List ℕ) → check term_limits ws ≡ Ok tt → table_of ws ≡ part_lengths ws
good_table ws g = shown (good_tree term_limits (omega arith) ws g)
  where
    shown : IsTerm ws → table_of ws ≡ part_lengths ws
    shown i = term_table ws i ∙ sym (lengths_parts i.tree i.formed) ∙ ap part_lengths (sym i.same)

pub good_few : (ws : List ℕ) → check term_limits ws ≡ Ok tt → length ws ≤ 4096
good_few ws g = (good_tree term_limits (omega arith) ws g).short

-- ---- what making a table answers and leaves
module _ (ws : List ℕ) (room : ℕ) (out : List ℕ) (z : out ≡ replicate room 0) where
  pub lengths_bad : (at : ℕ) → check term_limits ws ≡ Err at → lengths_came (answered (BadTerm at)) out ≡ lengths_gives ws room
  unfolding lengths_gives
  lengths_bad at b = rw (b, z)

  module _ (g : check term_limits ws ≡ Ok tt) where
    pub lengths_short : room < length ws → lengths_came (answered Short) out ≡ lengths_gives ws room
    unfolding lengths_gives
    lengths_short h =
        let l : room < length (part_lengths ws) = omega (arith, part_lengths_many ws, h) in
        rw (g, good_table ws g, lt-leb (length (part_lengths ws)) room l, z, (no_room room (part_lengths ws) l).1)

    pub lengths_done : (done : List ℕ) → length ws ≤ room → done ≡ sets out 0 (part_lengths ws) → lengths_came (answered Done) done ≡ lengths_gives ws room
    unfolding lengths_gives
    lengths_done done h e =
        let l : length (part_lengths ws) ≤ room = omega (arith, part_lengths_many ws, h) in
        rw (g, good_table ws g, le-leb (length (part_lengths ws)) room l, (wrote room (part_lengths ws) done l (rw z at e)).1)

-- ---- agree: where the first pair of entries differs, or which table ends first
abbrev differ : ℕ × ℕ → Bool
differ p = not (eqb p.0 p.1)

abbrev pub told : Option ℕ → ℕ → ℕ → Answer
told (Some k) n m = Disagree k
told None n m = pick (eqb n m) Done (Disagree (min n m))

pub none_same : (n m : ℕ) → n ≡ m → Done ≡ told None n m
none_same n m e = sym (rw (eq-eqb n m e))

pub none_other : (n m : ℕ) → (n ≡ m → ⊥) → Disagree (min n m) ≡ told None n m
none_other n m e = sym (rw (ne_eqb n m e))

agreed_told : (at : ℕ) (ns ms : List ℕ) → told (position_from differ at (zip ns ms)) (at + length ns) (at + length ms) ≡ agreed at ns ms
unfolding agreed
agreed_told at [] [] = rw (eq-eqb (at + 0) (at + 0) refl)
agreed_told at [] (m ∷ ms) = rw (ne_eqb (at + 0) (at + suc (length ms)) (λ e. omega (arith, e))) (ap Disagree (omega arith))
agreed_told at (n ∷ ns) [] = rw (ne_eqb (at + suc (length ns)) (at + 0) (λ e. omega (arith, e))) (ap Disagree (omega arith))
agreed_told at (n ∷ ns) (m ∷ ms) = go (eqb n m) (agreed_told (at + 1) ns ms)
  where
    go : (b : Bool) → told (position_from differ (at + 1) (zip ns ms)) (at + 1 + length ns) (at + 1 + length ms) ≡ agreed (at + 1) ns ms
        → told (cond (not b) (Some at) (position_from differ (at + 1) (zip ns ms))) (at + suc (length ns)) (at + suc (length ms))
        ≡ pick b (agreed (suc at) ns ms) (Disagree at)
    go true e =
        let a : at + suc (length ns) ≡ at + 1 + length ns = omega arith in
        let b : at + suc (length ms) ≡ at + 1 + length ms = omega arith in
        rw (a, b, ← add-one at) e
    go false e = refl

pub agreed_found : (ns ms : List ℕ) (o : Option ℕ)
    → o ≡ cond (ltb (position_or_len (λ (p : ℕ × ℕ). not (eqb p.0 p.1)) (zip ns ms)) (length (zip ns ms))) (Some (position_or_len (λ (p : ℕ × ℕ). not (eqb p.0 p.1)) (zip ns ms))) None
    → told o (length ns) (length ms) ≡ agreed 0 ns ms
agreed_found ns ms o e =
    let a : 0 + length ns ≡ length ns = omega arith in
    let b : 0 + length ms ≡ length ms = omega arith in
    rw (e, position_from-zero differ (zip ns ms)) (rw (a, b) at (agreed_told 0 ns ms))

-- two tables agree just where they are the same
pub agreed_same : (at : ℕ) (ns ms : List ℕ) → agreed at ns ms ≡ Done → ns ≡ ms
unfolding agreed
agreed_same at [] [] e = refl
agreed_same at [] (m ∷ ms) e = never (cc)
agreed_same at (n ∷ ns) [] e = never (cc)
agreed_same at (n ∷ ns) (m ∷ ms) e = go (eqb n m) refl (agreed_same (suc at) ns ms) e
  where
    go : (b : Bool) → eqb n m ≡ b → (agreed (suc at) ns ms ≡ Done → ns ≡ ms) → pick b (agreed (suc at) ns ms) (Disagree at) ≡ Done → n ∷ ns ≡ m ∷ ms
    go true q later d = let x = eqb-true n m q in let y = later d in cc
    go false q later d = never (cc)

pub same_agreed : (at : ℕ) (ns : List ℕ) → agreed at ns ns ≡ Done
unfolding agreed
same_agreed at [] = refl
same_agreed at (n ∷ ns) = rw (eq-eqb n n refl) (same_agreed (suc at) ns)

-- ---- what checking a table answers
pub check_lengths_bad : (ws table : List ℕ) (at : ℕ) → check term_limits ws ≡ Err at → answered (BadTerm at) ≡ check_lengths_gives ws table
unfolding check_lengths_gives
check_lengths_bad ws table at b = rw b

first_entries : (vs l : List ℕ) → length vs ≤ length l → take (length vs) (sets l 0 vs) ≡ vs
first_entries vs l h = rw (sets-eq vs l 0 (omega arith)) (take-append_seam vs (drop (0 + length vs) l))

pub check_lengths_good : (ws table right : List ℕ) (a : Answer) → check term_limits ws ≡ Ok tt → right ≡ sets (replicate 4096 0) 0 (part_lengths ws)
    → a ≡ agreed 0 (take (length ws) right) table → answered a ≡ check_lengths_gives ws table
unfolding check_lengths_gives
check_lengths_good ws table right a g r e = rw (g, e, good_table ws g, table_of_lem)
  where
    many : length (part_lengths ws) ≤ length {A = ℕ} (replicate 4096 0)
    many = rw (length-replicate {A = ℕ} 4096 0) (omega (arith, part_lengths_many ws, good_few ws g))

    table_of_lem : take (length ws) right ≡ part_lengths ws
    table_of_lem = rw (r, ← part_lengths_many ws) (first_entries (part_lengths ws) (replicate 4096 0) many)

-- the definitions as equations
pub lengths_is : (term : List ℕ) (room : ℕ) → lengths_gives term room ≡ table_made term room (check term_limits term)
unfolding lengths_gives
lengths_is term room = refl

pub check_lengths_is : (term table : List ℕ) → check_lengths_gives term table ≡ answered (table_checked term table (check term_limits term))
unfolding check_lengths_gives
check_lengths_is term table = refl

-- the promises settle what comes back
pub lengths_settled : (term : List ℕ) (room : ℕ) (a b : Answer) (out done : List ℕ) → lengths_came (answered a) out ≡ lengths_gives term room
    → lengths_came (answered b) done ≡ lengths_gives term room → (a ≡ b) × (out ≡ done)
lengths_settled term room a b out done p q =
    let e = settled (lengths_gives term room) (lengths_came (answered a) out) (lengths_came (answered b) done) p q in
    (answered_same a b (ap (λ (o : LengthsOutcome). o.said) e), ap (λ (o : LengthsOutcome). o.out) e)

pub check_lengths_settled : (term table : List ℕ) (a b : Answer) → answered a ≡ check_lengths_gives term table → answered b ≡ check_lengths_gives term table → a ≡ b
check_lengths_settled term table a b p q = answered_same a b (settled (check_lengths_gives term table) (answered a) (answered b) p q)
