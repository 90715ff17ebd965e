-- `book::sides_from` meets its contract: one law for each way.
use native.Mathlib.Omega.{arith}
use Rattle.book.proofs.Places.{place_short, place_over, place_found}
use Rattle.book.proofs.book.sides_from.Goals as goal

pub returns-then-words-at : goal.returns-then-words-at
returns-then-words-at c = place_short c.args.words.now c.args.at (omega arith)

pub returns-then-room-lt-HEADER : goal.returns-then-room-lt-HEADER
returns-then-room-lt-HEADER c =
    place_short c.args.words.now c.args.at c.if-room-lt-HEADER.true

pub returns-then-room-left_size : goal.returns-then-room-left_size
returns-then-room-left_size c =
    place_over c.args.words.now c.args.at (omega (arith, c.if-room-lt-HEADER.false, c.if-words-at.false)) c.if-room-left_size.true

pub returns : goal.returns
returns c =
    place_found c.args.words.now c.args.at (omega (arith, c.if-room-lt-HEADER.false, c.if-words-at.false)) c.if-room-left_size.false
