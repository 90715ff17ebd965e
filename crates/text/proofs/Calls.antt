-- What `get` tells of the byte at an offset of a text: it is the text's byte there, or the text ends before; and what `ok_or` tells of the option that it was asked of.
use mathlib.Core.Path.{◌≡◌, refl, sym, ◌∙◌}
use mathlib.Core.Bool.{true, false}
use mathlib.Core.List.{List}
use Prim.Native.Nat.{ℕ, ◌≤◌, ◌<◌}
use native.Mathlib.Omega.{arith}
use lib.Dec.{ltb}
use lib.ListN.{length, get_or}
use borrow.Author.Tests.{ltb-true, ltb-false}
use Rattle.std.specs.Prelude.{Option, Some, None, Result, Ok, Err, ok_or}
use Rattle.std.proofs.lemmas.List.{get_or_default}

module _ (bs : List ℕ) (i : ℕ) where
  pub byte_there : (b : ℕ) → true ≡ ltb i (length bs) → b ≡ get_or bs i b → (i < length bs) × (get_or bs i 0 ≡ b)
  byte_there b t e = let h = ltb-true i (length bs) (sym t) in (h, get_or_default bs i 0 b h ∙ sym e)

  pub byte_past : false ≡ ltb i (length bs) → length bs ≤ i
  byte_past t = ltb-false i (length bs) (sym t)

pub some_asked : {A E : Type 0} (o : Option A) (e : E) (x : A) → ◌≡◌ {A = Result A E} (Ok x) (ok_or o e) → o ≡ Some x
some_asked None e x q = grind arith
some_asked (Some y) e x q = grind arith

pub none_asked : {A E : Type 0} (o : Option A) (e d : E) → ◌≡◌ {A = Result A E} (Err d) (ok_or o e) → (o ≡ None) × (d ≡ e)
none_asked None e d q = (refl, grind arith)
none_asked (Some y) e d q = grind arith
