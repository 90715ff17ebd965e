-- What a contract asks, and what a call under it hands back, as the toolchain reads a contract: n lifetimes, the parameters' kinds, the result's kind,
-- what is required (`Pre`) and what is ensured (`Post`).
use Rattle.std.specs.Prelude.{ℕ, List}
use contract.Lifetimes.{Lfts}
use denote.Triple.Clauses.{AtExit}
use borrow.Fn.Kinds.{ParamKind, ResultKind, In, Out, Dens, res_t, ended_of}

-- nothing is asked: whatever the arguments are, what is required of them holds
abbrev pub AsksNothing : (n : ℕ) (ps : List (ParamKind n)) → In n ps → Type 0
AsksNothing n ps Pre = (lifetimes : Lfts n) (given : Dens lifetimes ps) → Pre lifetimes given

-- the arguments, the result, and the arguments afterwards, as the contract ensures them
pub record Call (n : ℕ) (ps : List (ParamKind n)) (r : ResultKind n) (Post : Out n ps r) : Type 0 where
  pub lifetimes : Lfts n
  pub given : Dens lifetimes ps
  pub result : (res_t r lifetimes).Denot
  pub after : AtExit (ended_of n ps r) lifetimes
  pub ensured : Post lifetimes given result after
