-- What a crate above may cite of this one, and nothing else.

-- The walk is one node and then the walk from the next, which is later and inside.
pub use Rattle.walk.proofs.Steps.{Later, later_next, walk_is}
-- So are the visits, whatever is asked of a Leaf, and there are 16,385 at most; none over a table that is too long.
pub use Rattle.walk.proofs.Visits.{visits_is, visits_walked, visits_long, visits_few}
-- No more places are uncovered than the term has words.
pub use Rattle.walk.proofs.Places.{Keeps, keeps_next}
-- Over a layout the walk is the walk of the tree and never damaged; over the layout of an accepted book's tree it finds the lowest rule that fits the term
-- without the arguments set aside.
pub use Rattle.walk.proofs.Laid.{walked_of, walk_laid, begun_alone, begun_with}
-- Over a layout the visits are those in the tree.
pub use Rattle.walk.proofs.Laid.{visits_laid, visits_begun, begun_visits}
-- Demand 3, of what compiling leaves and matching hands back, said without trees: the lowest rule that fits the term without the arguments set
-- aside, with their number and the only bodies.
pub use Rattle.walk.proofs.Demand3.{tree_finds, only_fit}
-- What matching by the tree hands back, as one outcome and part by part.
pub use Rattle.walk.proofs.Outcomes.{tree_came, tree_answer, tree_rule, tree_aside, tree_visits, tree_bodies, tree_lengths}
-- Each offset of a term begins a part, also in the words from an offset on: what the walk asks of its words.
pub use Rattle.walk.proofs.Answers.{tail_parted}
-- On every walk a rule that is found has bodies; with a book it is one of the book's rules, with as many variables, and what the root has more is set aside.
pub use Rattle.walk.proofs.Sound.{FoundSound, walk_sound, fits_rule}
pub use Rattle.walk.proofs.RootCounts.{part_counts, left_counts, aside_is}
-- Where the root has no case for the term's word, and its default is a Fail, no rule fits after two visits.
pub use Rattle.walk.proofs.Skips.{no_case}
-- The part that such words begin with is one term, and 16 bodies have room in 65,536 words: what a walk with a book rests on.
pub use Rattle.walk.proofs.BookEnds.{parted_body, sixteen_room}
-- Where a term stands, it is the part from there.
pub use Rattle.walk.proofs.Uncovered.{from_stands}
-- What the promise of the walk with a book says, by its answer.
pub use Rattle.walk.proofs.BookAnswers.{walked_none, walked_damaged, walked_rule_lem}
-- The promise of the walk with a book settles its answer, its visits and every lent word.
pub use Rattle.walk.proofs.BookEnds.{book_settled}
-- Matching by the tree, judgement by judgement: the term, and then the walk.
pub use Rattle.walk.proofs.Judgements.{tree_bad_term, tree_walked, bad_term_visits, term_visits_lem}
