-- What is given settles all that comes back: it is what the definition gives.
use Rattle.term.proofs.Laws.{settled}
use Rattle.rosenduch.specs.Operations.{Operations, Promised, Settles}

pub settles : (ops : Operations) → Promised ops → Settles ops
settles ops kept =
    record {
      check_term = λ words o p x y. settled _ o p (kept.check_term words o x) (kept.check_term words p y);
      check_book = λ book o p x y. settled _ o p (kept.check_book book o x) (kept.check_book book p y);
      match_rule = λ book number term room o p x y. settled _ o p (kept.match_rule book number term room o x) (kept.match_rule book number term room p y);
      build_left = λ book number bodies lengths room o p x y. settled _ o p (kept.build_left book number bodies lengths room o x) (kept.build_left book number bodies lengths room p y);
      compile = λ book room o p x y. settled _ o p (kept.compile book room o x) (kept.compile book room p y);
      match_tree = λ tree term room o p x y. settled _ o p (kept.match_tree tree term room o x) (kept.match_tree tree term room p y);
      rewrite_root = λ book tree term room o p x y. settled _ o p (kept.rewrite_root book tree term room o x) (kept.rewrite_root book tree term room p y);
      simplify = λ book tree term budget room o p x y. settled _ o p (kept.simplify book tree term budget room o x) (kept.simplify book tree term budget room p y);
      read_book = λ text room o p x y. settled _ o p (kept.read_book text room o x) (kept.read_book text room p y);
      write_book = λ book room o p x y. settled _ o p (kept.write_book book room o x) (kept.write_book book room p y);
      repair_book = λ text room o p x y. settled _ o p (kept.repair_book text room o x) (kept.repair_book text room p y);
      read_term = λ text room o p x y. settled _ o p (kept.read_term text room o x) (kept.read_term text room p y);
      write_term = λ term room o p x y. settled _ o p (kept.write_term term room o x) (kept.write_term term room p y);
    }
