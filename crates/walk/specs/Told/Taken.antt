-- The address that a node takes, by the words of the parts that it names.
use Rattle.std.specs.Prelude.{ℕ, ◌+◌, List, ◌≡◌, eqb, leb, ltb, length, get_or, take, drop, Option, None, Some}
use Rattle.std.proofs.Math.Option as maths
use Rattle.term.specs.Word.{pick}
use Rattle.term.specs.Row.{Row}
use Rattle.term.specs.Renumber.{good_list}
use Rattle.term.specs.Part.{has_body, same_body}
use Rattle.walk.specs.Walk.{is_word, case_of}

-- the address, as the walk's definitions have it
abbrev pub address_of : Option ℕ → maths.Option ℕ
address_of (Some to) = maths.some to
address_of None = maths.none

-- what is told of the cases, for a part with this word
abbrev pub CaseTold : ℕ → ℕ → List ℕ → Option ℕ → Type 0
CaseTold w cases ws r = (f : Row) → ((v : ℕ) → is_word v f ≡ eqb v w) → address_of r ≡ case_of f cases ws

-- Closed over a part under d abstractions: the words from its list on
unfoldable pub closed_taken : ℕ → List ℕ → ℕ → List ℕ → Option ℕ
closed_taken d part k ws =
    pick (leb k 4)
    (pick (ltb (k + 1) (length ws))
    (pick (good_list d (take k ws))
    (Some (pick (has_body d (take k ws) part) (get_or ws k 0) (get_or ws (k + 1) 0)))
    None) None) None

-- Same over two parts
unfoldable pub same_taken : ℕ → List ℕ → ℕ → List ℕ → ℕ → List ℕ → Option ℕ
same_taken d part c other k ws =
    pick (leb k 4)
    (pick (ltb (k + k + 1) (length ws))
    (pick (good_list d (take k ws))
    (pick (good_list c (take k (drop k ws)))
    (Some (pick (same_body d (take k ws) part c (take k (drop k ws)) other) (get_or ws (k + k) 0) (get_or ws (k + k + 1) 0)))
    None) None) None) None
