-- What the walk over a side of a rule tells of its shape.
use Rattle.std.specs.Prelude.{ℕ, ◌+◌, ◌≤◌, ◌≡◌, Bool, List, ◌++◌, leb, eqb, length, drop, Option, Some, None}
use Rattle.term.specs.Word.{pick, kind_of, count_of, ident_of}
use Rattle.term.specs.Row.{Row, width, words, nesting, Formed}
use Rattle.book.specs.declared.shape.Side.{Side}
use Rattle.book.specs.declared.shape.Side.TheVariants.{Left, Right}
use Rattle.book.specs.declared.shape.Front.{Front}
use Rattle.book.specs.declared.shape.Front.TheVariants.{Past, Inside}
use Rattle.book.specs.Rule.{left_shape, right_shape, list_for}
use Rattle.book.specs.Told.Ids.{list_in}

unfoldable pub shape_of : Side → ℕ → Row → Bool
shape_of Left = left_shape
shape_of Right = right_shape

-- a word and the words after it: past it and its list, inside it, or no such word on this side
unfoldable pub front_of : Side → ℕ → ℕ → List ℕ → Option Front
front_of Left d w ws =
    pick (eqb (kind_of w) 2) None
    (pick (eqb (kind_of w) 3) (pick (list_for d (list_in (count_of w) ws)) (Some (Past (1 + count_of w))) None) (Some Inside))
front_of Right d w ws = pick (eqb (kind_of w) 2) (pick (leb (ident_of w) d) (Some (Past 1)) None) (Some Inside)

-- so many trees stand at an offset of the words
pub record SideStands (levels count : ℕ) (ws : List ℕ) (at : ℕ) (f : Row) (after : List ℕ) : Type 0 where
  pub formed : Formed f
  pub low : nesting f ≤ levels
  pub wide : width f ≡ count
  pub same : drop at ws ≡ words f ++ after

unfoldable pub SideTold : Side → ℕ → ℕ → ℕ → List ℕ → ℕ → Option ℕ → Type 0
SideTold side d levels count ws at r =
    (f : Row) (after : List ℕ) → SideStands levels count ws at f after → r ≡ pick (shape_of side d f) (Some (at + length (words f))) None
