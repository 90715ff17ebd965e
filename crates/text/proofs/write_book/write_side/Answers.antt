-- `write_book::write_side` meets its contract: the key and then the line of tokens.
use Rattle.text.proofs.BookWrites.{side_wrote}
use Rattle.text.proofs.write_book.write_side.Goals as goal

pub returns : goal.returns
returns c = side_wrote c.args.out.now c.put_key-to.new.out _ c.args.key.now c.args.words.now c.args.at _ _ c.put_key-to.ensures c.write_line.ensures
