-- What a crate above may cite of this one, and nothing else.

-- The three demands, of the code; and that what comes back is settled by what is given.
pub use Rattle.demands.proofs.Demands.{demand_1, demand_2, demand_3, all_settled}
-- What repairing a book hands back.
pub use Rattle.demands.proofs.Demands.{all_repaired}
