-- The three demands, of the code: of the thirteen functions for Rust and of the thirteen for C. The words are in crate `rosenduch`, specs/Demands.antt.
use Rattle.rosenduch.specs.Operations.{Settles}
use Rattle.rosenduch.specs.Demands as words
use Rattle.rosenduch.specs.Repairs.{Repairs}
use Rattle.demands.specs.Rust.{RustAsksNothing, RustMeets, rust}
use Rattle.demands.specs.C.{CAsksNothing, CMeets, for_c}

pub record Demand1 : Type 2 where
  -- "Every entry takes every input, whole or damaged,"
  pub rust_takes_every_input : RustAsksNothing
  pub c_takes_every_input : CAsksNothing
  -- "and comes to an end."
  pub rust_ends : RustMeets
  pub c_ends : CMeets
  -- "Bad terms, books, trees and texts are refused by number. After a refusal each lent output holds only zeros."
  pub rust_refuses : words.Demand1 rust
  pub c_refuses : words.Demand1 for_c

pub record Demand2 : Type 0 where
  pub of_rust : words.Demand2 rust
  pub of_c : words.Demand2 for_c

pub record Demand3 : Type 0 where
  pub of_rust : words.Demand3 rust
  pub of_c : words.Demand3 for_c

-- "that two results meeting it are equal is proved": all that comes back is settled by what is given
pub record Settled : Type 0 where
  pub of_rust : Settles rust
  pub of_c : Settles for_c

-- document 02's E1, of the code
pub record Repaired : Type 0 where
  pub of_rust : Repairs rust
  pub of_c : Repairs for_c
