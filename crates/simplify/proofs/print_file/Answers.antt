-- `print_file` is safe and ends: what is ready for the terms lies within the lent words.
use native.Mathlib.Omega.{arith}
use Rattle.simplify.proofs.print_file.Goals as goal

pub shared_ref_as_front-print_terms : goal.shared_ref_as_front-print_terms
shared_ref_as_front-print_terms c = omega (arith, (c.first_block-first.ensures.ready c.in-Some.ready c.in-Some.is).book_fits)

pub shared_ref_as_front-print_terms-in-Some : goal.shared_ref_as_front-print_terms-in-Some
shared_ref_as_front-print_terms-in-Some c = omega (arith, (c.first_block-first.ensures.ready c.in-Some.ready c.in-Some.is).tree_fits)

pub print_terms-requires : goal.print_terms-requires
print_terms-requires c = let g = c.first_block-first.ensures.ready c.in-Some.ready c.in-Some.is in (g.inside, g.short, omega (arith, g.from_zero))
