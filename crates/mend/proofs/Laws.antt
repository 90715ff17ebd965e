-- What a crate above may cite of this one, and nothing else.

-- What a repair keeps and drops; the new book as the list of its rules.
pub use Rattle.mend.proofs.Keeps.{keeps}
pub use Rattle.mend.proofs.Repairing.{new_book_of}
-- Every repaired text has room in 131,088 bytes.
pub use Rattle.mend.proofs.Sizes.{repaired_short}
-- All that comes back, as an answer and what is left, both ways; in that room, what came by mail decides which it is.
pub use Rattle.mend.proofs.Outcomes.{repair_gives, repair_said, repair_came, repair_told, Mended, Mends, repair_mends}
-- What an answer of 0 tells; zeros with every other.
pub use Rattle.mend.proofs.Answers.{Written, repair_bad_line, repair_done, repair_zeros}
-- The wrong programs for it are shut out.
pub use Rattle.mend.proofs.WrongRepairs.{wrong_repairs}
