-- A promise that is an equation with a definition settles what comes back: two results that meet it are equal.
use mathlib.Core.Path.{◌≡◌, sym, ◌∙◌}

pub settled : {A : Type 0} (x r s : A) → r ≡ x → s ≡ x → r ≡ s
settled x r s p q = p ∙ sym q
