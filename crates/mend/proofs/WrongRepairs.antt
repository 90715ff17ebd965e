-- The wrong programs are shut out: of each, what it gives on its input and what the definition gives differ in one number that was computed.
use mathlib.Core.Path.{ap}
use Prim.Native.Nat.{ℕ}
use native.Mathlib.Omega.{arith}
use lib.ListN.{get_or}
use Rattle.term.proofs.Laws.{apart}
use Rattle.mend.specs.Repair.{RepairBookOutcome, repair_book_gives}
use Rattle.mend.specs.WrongRepairs.{keeps65, compares_kept, new_first, drops_after_bad, first_bad, sixty_five, WrongRepairs}
use Rattle.mend.proofs.Computed.{first_bad_computed, sixty_five_computed}

abbrev byte_at : ℕ → RepairBookOutcome → ℕ
byte_at at o = get_or o.out at 0

abbrev said_number : RepairBookOutcome → ℕ
said_number o = o.said.number

pub wrong_repairs : WrongRepairs
wrong_repairs =
    record {
      keeps_65 = λ e. apart (said_number (keeps65 sixty_five 3005)) (said_number (repair_book_gives sixty_five 3005)) 13 0 sixty_five_computed.1 sixty_five_computed.0 (λ z. omega (arith, z)) (ap said_number e);
      compares_kept = λ e. apart (byte_at 69 (compares_kept first_bad 100)) (byte_at 69 (repair_book_gives first_bad 100)) 114 0 first_bad_computed.5 first_bad_computed.4 (λ z. omega (arith, z)) (ap (byte_at 69) e);
      new_first = λ e. apart (byte_at 65 (new_first first_bad 100)) (byte_at 65 (repair_book_gives first_bad 100)) 48 49 first_bad_computed.1 first_bad_computed.0 (λ z. omega (arith, z)) (ap (byte_at 65) e);
      drops_after_bad = λ e. apart (byte_at 13 (drops_after_bad first_bad 100)) (byte_at 13 (repair_book_gives first_bad 100)) 48 49 first_bad_computed.3 first_bad_computed.2 (λ z. omega (arith, z)) (ap (byte_at 13) e);
    }
