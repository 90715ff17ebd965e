-- The three demands, of the code: what a function hands back is what the definition gives, and of that crate `rosenduch` proves the demands.
use Rattle.rosenduch.proofs.Laws as laws
use Rattle.demands.specs.Rust.{rust}
use Rattle.demands.specs.C.{for_c}
use Rattle.demands.specs.Demands.{Demand1, Demand2, Demand3, Settled, Repaired}
use Rattle.demands.proofs.Rust.{rust_asks_nothing, rust_meets, rust_promised}
use Rattle.demands.proofs.C.{c_asks_nothing, c_meets, c_promised}

pub demand_1 : Demand1
demand_1 =
    record {
      rust_takes_every_input = rust_asks_nothing;
      c_takes_every_input = c_asks_nothing;
      rust_ends = rust_meets;
      c_ends = c_meets;
      rust_refuses = laws.demand_1 rust rust_promised;
      c_refuses = laws.demand_1 for_c c_promised;
    }

pub demand_2 : Demand2
demand_2 = record { of_rust = laws.demand_2 rust rust_promised; of_c = laws.demand_2 for_c c_promised }

pub demand_3 : Demand3
demand_3 = record { of_rust = laws.demand_3 rust rust_promised; of_c = laws.demand_3 for_c c_promised }

pub all_settled : Settled
all_settled = record { of_rust = laws.settles rust rust_promised; of_c = laws.settles for_c c_promised }

pub all_repaired : Repaired
all_repaired = record { of_rust = laws.repairs rust rust_promised; of_c = laws.repairs for_c c_promised }
