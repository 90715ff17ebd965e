-- What a walk over a row of trees in words tells, tree after tree, one call a level.
use Rattle.std.specs.Prelude.{ℕ, ◌+◌, ◌-◌, ◌≤◌, ◌≡◌, Bool, true, false, ◌&&◌, List, ◌++◌, leb, ltb, eqb, length, drop, get_or, Option as StdOption, Some, None}
use Rattle.std.proofs.Math.Option.{Option, none, some}
use Rattle.std.proofs.lemmas.List.Edits.{sets}
use Rattle.term.specs.declared.image.Way.{Way}
use Rattle.term.specs.declared.image.Way.TheVariants.{ToBody, ToTerm}
use Rattle.term.specs.declared.same.Met.{Met}
use Rattle.term.specs.declared.same.Met.TheVariants.{Both, Neither, Apart}
use Rattle.term.specs.Word.{Head, pick, rank, term_rank, kind_of, ident_of, head_of, word}
use Rattle.term.specs.Check.{rank_or}
use Rattle.term.specs.Row.{Row, width, words, ranks, nesting, Formed}
use Rattle.term.specs.Renumber.{id_body, id_term_within, renumber_head, renumber, named_head, named}

-- an id's image, 0 where it has none
unfoldable pub image : Way → ℕ → List ℕ → ℕ → ℕ → ℕ
image ToBody d ys = id_body d ys
image ToTerm d ys = id_term_within d ys

-- a word's image, where it is a term's word and its id has one
unfoldable pub image_of : (ℕ → ℕ → ℕ) → ℕ → Option Head → StdOption ℕ
image_of m e none = None
image_of m e (some h) = pick (leb (rank h) term_rank && named_head m e h) (Some (word (renumber_head m e h))) None

-- two words have images, and the same
unfoldable pub same_image : StdOption ℕ → StdOption ℕ → Bool
same_image None j = false
same_image (Some v) None = false
same_image (Some v) (Some u) = eqb v u

-- a word is a variable i with e < i ≤ e+d
unfoldable pub inner_word : ℕ → ℕ → ℕ → Bool
inner_word d e w = eqb (rank_or 4 (head_of w)) 2 && (ltb e (ident_of w) && leb (ident_of w - e) d)

-- what two lists have at the place j, where y is sought in the one and z in the other
unfoldable pub meets : Bool → Bool → Met
meets true true = Both
meets true false = Apart
meets false true = Apart
meets false false = Neither

unfoldable pub meeting : List ℕ → ℕ → List ℕ → ℕ → ℕ → Met
meeting ys y zs z j = pick (ltb j (length ys) && ltb j (length zs)) (meets (eqb y (get_or ys j 0)) (eqb z (get_or zs j 0))) Apart

-- the abstractions around the children of a word
unfoldable pub inside_word : ℕ → ℕ → ℕ
inside_word w e = pick (eqb (kind_of w) 1) (e + 1) e

-- `count` trees of a term, nesting at most so many levels, stand at an offset of the words
pub record Stands (levels count : ℕ) (ws : List ℕ) (at : ℕ) (f : Row) (after : List ℕ) : Type 0 where
  pub formed : Formed f
  pub few : ranks f ≤ term_rank
  pub low : nesting f ≤ levels
  pub wide : width f ≡ count
  pub same : drop at ws ≡ words f ++ after

-- a row's images are written at the same offset, and where it ends; none where no row stands there, or one of its ids has no image
unfoldable pub RowTold : (ℕ → ℕ → ℕ) → ℕ → ℕ → ℕ → List ℕ → ℕ → List ℕ → List ℕ → StdOption ℕ → Type 0
RowTold m e levels count ws at out done (Some a) =
    (f : Row) × (after : List ℕ) × Stands levels count ws at f after × (named m e f ≡ true) × (a ≡ at + length (words f)) × (done ≡ sets out at (words (renumber m e f)))
RowTold m e levels count ws at out done None =
    (f : Row) (after : List ℕ) → Stands levels count ws at f after → named m e f ≡ false
