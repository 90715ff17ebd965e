-- The book is judged, and the tree of an accepted book is written with cleared marks.
use mathlib.Core.Path.{refl, sym, ap, ◌∙◌}
use Prim.Native.Nat.{ℕ}
use lib.ListN.{length, replicate}
use Rattle.compiler.proofs.CompileLaws.{compile_refused}
use Rattle.compiler.proofs.compile.compile.Goals as goal

pub returns-in-Err : goal.returns-in-Err
returns-in-Err c = let s = c.args in compile_refused (length s.out.now) s.book.now _ _ (sym c.accept_book.ensures ∙ c.in-Err.is) c.clear.ensures

pub compile_good-requires : goal.compile_good-requires
compile_good-requires c = (
  sym c.accept_book.ensures ∙ c.in_default.is,
  refl,
  c.clear.ensures ∙ ap (λ (n : ℕ). replicate n 0) (sym c.clear.auto.out),
)
