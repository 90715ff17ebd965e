use Rattle.text.proofs.number.+write_number.Given as goal

-- the number falls
abbrev pub decreases-write_number : goal.decreases-write_number
decreases-write_number l = l.n
