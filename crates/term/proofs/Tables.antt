-- The table of a row: to read it at an offset is to pass over the part that begins there, since a formed row's counts say where each tree ends.
use mathlib.Core.Path.{◌≡◌, refl, ap}
use mathlib.Core.List.{List, [], ◌∷◌, ◌++◌, append_assoc, append-nil}
use Prim.Native.Nat.{ℕ, zero, suc, ◌<◌}
use native.Mathlib.Omega.{arith}
use native.Mathlib.Nat.{add-zero}
use lib.ListN.{length, drop, get_or, length-append}
use Rattle.term.specs.Word.{Head, word}
use Rattle.term.specs.Row.{Row, nothing, node, width, words, Formed, ◌⧺◌}
use Rattle.term.specs.Part.{past, part_end}
use Rattle.term.specs.Lengths.{lengths_of, part_lengths}
use Rattle.term.proofs.Words.{count_word_lem}
use Rattle.term.proofs.Parts.{past_words}

-- ---- the clauses
pub lengths_nothing : lengths_of nothing ≡ []
unfolding lengths_of
lengths_nothing = refl

pub lengths_node : (h : Head) (kids rest : Row) → lengths_of (node h kids rest) ≡ suc (length (words kids)) ∷ (lengths_of kids ++ lengths_of rest)
unfolding lengths_of words
lengths_node h kids rest = rw (append-nil (words kids))

pub lengths_join : (f g : Row) → lengths_of (f ⧺ g) ≡ lengths_of f ++ lengths_of g
unfolding ◌⧺◌ lengths_of
lengths_join nothing g = refl
lengths_join (node h kids rest) g = rw (lengths_join rest g, append_assoc (lengths_of kids) (lengths_of rest) (lengths_of g))

-- an entry for each offset
pub lengths_many : (f : Row) → length (lengths_of f) ≡ length (words f)
unfolding lengths_of words
lengths_many nothing = refl
lengths_many (node h kids rest) =
    omega (arith, length-append (lengths_of kids) (lengths_of rest), length-append (words kids) (words rest), lengths_many kids, lengths_many rest)

-- ---- by the counts alone
pub part_lengths_many : (ws : List ℕ) → length (part_lengths ws) ≡ length ws
unfolding part_lengths
part_lengths_many [] = refl
part_lengths_many (w ∷ ws) = ap suc (part_lengths_many ws)

pub part_length_at : (ws : List ℕ) (at : ℕ) → at < length ws → get_or (part_lengths ws) at 0 ≡ part_end (drop at ws)
unfolding part_lengths
part_length_at [] at h = absurd (omega arith)
part_length_at (w ∷ ws) zero h = refl
part_length_at (w ∷ ws) (suc at) h = part_length_at ws at (omega arith)

-- what stands behind an offset has the entries behind it
pub part_lengths_drop : (at : ℕ) (ws : List ℕ) → part_lengths (drop at ws) ≡ drop at (part_lengths ws)
unfolding part_lengths
part_lengths_drop zero ws = refl
part_lengths_drop (suc at) [] = refl
part_lengths_drop (suc at) (w ∷ ws) = part_lengths_drop at ws

first_length : (h : Head) (kids rest : Row) → Formed (node h kids rest) → (ws : List ℕ)
    → part_end (word h ∷ ((words kids ++ words rest) ++ ws)) ≡ suc (length (words kids))
unfolding part_end past Formed
first_length h kids rest p ws =
    rw (append_assoc (words kids) (words rest) ws, count_word_lem h p.0, ← p.1, add-zero (width kids))
    (ap suc (past_words kids p.2 (words rest ++ ws)))

-- a row's table stands before that of what follows it
pub joined_lengths : (f : Row) → Formed f → (ws : List ℕ) → part_lengths (words f ++ ws) ≡ lengths_of f ++ part_lengths ws
unfolding part_lengths words Formed
joined_lengths nothing p ws = rw lengths_nothing
joined_lengths (node h kids rest) p ws =
    rw (lengths_node h kids rest, first_length h kids rest p ws, append_assoc (words kids) (words rest) ws)
    (rw (joined_lengths kids p.2 (words rest ++ ws), joined_lengths rest p.3 ws, append_assoc (lengths_of kids) (lengths_of rest) (part_lengths ws)))

pub lengths_parts : (f : Row) → Formed f → part_lengths (words f) ≡ lengths_of f
unfolding part_lengths
lengths_parts f p = rw (append-nil (words f), append-nil (lengths_of f)) at (joined_lengths f p [])

-- to read the table is to pass over the part
pub length_at : (f : Row) → Formed f → (at : ℕ) → at < length (words f) → get_or (lengths_of f) at 0 ≡ part_end (drop at (words f))
length_at f p at h = rw (← lengths_parts f p) (part_length_at (words f) at h)
