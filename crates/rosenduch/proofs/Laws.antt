-- What a crate above may cite of this one, and nothing else.

-- The three demands, of any thirteen operations that hand back what the definitions give; and that what is given settles what comes back.
pub use Rattle.rosenduch.proofs.Demands.{demand_1, demand_2, demand_3}
pub use Rattle.rosenduch.proofs.Settled.{settles}
-- Repairing a book.
pub use Rattle.rosenduch.proofs.Repairs.{repairs}
-- Book A's tree, and P1 to P10, as marked.
pub use Rattle.rosenduch.proofs.Computed.{marked_exercises}
-- The wrong programs that document 01 names are shut out.
pub use Rattle.rosenduch.proofs.WrongPrograms.{all_shut_out}
