-- The walk from a body to a term tells what it stands for, or that it stands for none, and then the slice is cleared.
use Rattle.std.proofs.Common.{rules, ◌≡◌, ℕ, List, true, false, replicate, length, Option, Some, None, is_some}
use Rattle.term.specs.declared.image.Way.TheVariants.{ToTerm}
use Rattle.term.specs.Part.{below_came, write_below_gives}
use Rattle.term.specs.Told.Walk.{image, RowTold}
use Rattle.term.proofs.Words.{never}
use Rattle.term.proofs.Answers.{cleared}
use Rattle.term.proofs.Imaged.{below_done, below_stuck}
use Rattle.term.proofs.part.write_below.Goals as goal

module _ (levels d : ℕ) (list body out done : List ℕ) (r : Option ℕ) (told : RowTold (image ToTerm d list) 0 levels 1 body 0 out done r) where
  written : is_some r ≡ true → below_came r done ≡ write_below_gives levels d list body out
  written e = go r told e
    where
      go : (r : Option ℕ) → RowTold (image ToTerm d list) 0 levels 1 body 0 out done r → is_some r ≡ true → below_came r done ≡ write_below_gives levels d list body out
      go None t e = never (cc)
      go (Some n) t e = below_done levels d list body out done n t

  stuck : (last : List ℕ) → is_some r ≡ false → last ≡ replicate (length out) 0 → below_came r last ≡ write_below_gives levels d list body out
  stuck last e z = go r told e
    where
      go : (r : Option ℕ) → RowTold (image ToTerm d list) 0 levels 1 body 0 out done r → is_some r ≡ false → below_came r last ≡ write_below_gives levels d list body out
      go None t e = below_stuck levels d list body out done last t z
      go (Some n) t e = never (cc)

pub returns-then-is_none : goal.returns-then-is_none
returns-then-is_none c =
    let s = c.args in
    stuck s.levels s.d s.list.now s.body.now s.out.now _ _ c.renumber_row-written.ensures _ (search rules)
    (cleared _ _ _ c.renumber_row-written.auto.out c.clear.ensures)

pub returns-else-is_none : goal.returns-else-is_none
returns-else-is_none c =
    let s = c.args in
    written s.levels s.d s.list.now s.body.now s.out.now _ _ c.renumber_row-written.ensures (search rules)
