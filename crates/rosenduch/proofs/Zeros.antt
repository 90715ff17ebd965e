-- After a refusal each lent output holds zeros: a refusal writes none, and what had no room is answered with 13 and left as zeros.
use mathlib.Core.Path.{◌≡◌, refl, ap, ◌∙◌}
use mathlib.Core.Bool.{Bool, true, false}
use mathlib.Core.List.{List, []}
use Prim.Native.Nat.{ℕ, ◌≤◌, ◌<◌}
use native.Mathlib.Omega.{arith}
use lib.Dec.{leb}
use lib.ListN.{length, replicate}
use borrow.Author.Tests.{leb-false}
use Rattle.std.specs.Prelude.{Result, Ok, Err}
use Rattle.term.specs.declared.answer.Answer.{Answer}
use Rattle.term.specs.declared.answer.Answer.TheVariants.{Done, BadTerm, BadBook, Short}
use Rattle.term.specs.Answer.{Answered, number_of, answered}
use Rattle.term.specs.Word.{pick}
use Rattle.term.specs.Row.{Row, words}
use Rattle.term.specs.Check.{check, term_limits}
use Rattle.term.specs.Part.{padded}
use Rattle.term.proofs.Laws.{padded_short}
use Rattle.book.specs.Book.{check_book}
use Rattle.fit.specs.Match.{tree_of, match_rule, match_answer, MatchRuleOutcome}
use Rattle.fit.specs.Build.{Built, refused, built, build_left, build_answer, build_words, BuildLeftOutcome}
use Rattle.fit.proofs.Laws.{refused_built, built_built, match_zeros}
use Rattle.compiler.specs.Compiled.{compile_answer, CompileOutcome}
use Rattle.compiler.proofs.Laws.{compile_zeros}
use Rattle.walk.specs.ByTree.{match_tree, MatchTreeOutcome}
use Rattle.steps.specs.Rewrite.{rewrite_root, RewriteRootOutcome}
use Rattle.steps.specs.Simplify.{Run, Stopped, Ended, simplify_by, simplify, simplify_answer, simplify_words, SimplifyOutcome}
use Rattle.steps.proofs.Laws.{EndsAs, rests, used, RunIs, run_is, simplify_bad_book, simplify_bad_term, simplify_runs, stopped_run, ended_run}
use Rattle.text.specs.TermText.{term_said, read_answer, write_answer, ReadTermOutcome, WriteTermOutcome}
use Rattle.text.specs.Mail.{mail_said}
use Rattle.mend.specs.Repair.{repair_answer, RepairBookOutcome}
use Rattle.mend.proofs.Laws.{repair_gives, repair_zeros}
use Rattle.text.specs.BookText.{book_said, read_book_answer, write_book_answer, ReadBookOutcome, WriteBookOutcome}
use Rattle.text.proofs.Laws.{read_term_gives_lem, write_term_gives_lem, read_book_gives_lem, write_book_gives_lem, read_term_zeros, write_term_zeros, read_book_zeros, write_book_zeros}
use Rattle.rosenduch.specs.Operations.{Operations, Promised}
use Rattle.rosenduch.specs.Demands.{LeavesZeros}
use Rattle.rosenduch.proofs.Given.{match_given, build_given, compile_given, tree_given, root_given, run_given}

-- an answer that is another has its number
moved : (r a : Answer) → r ≡ a → 10 ≤ number_of r → 10 ≤ number_of a
moved r a e h = rw e at h

-- and so has what is said
told : (said : Answered) (a : Answer) → said ≡ answered a → 10 ≤ said.number → 10 ≤ number_of a
told said a e h = omega (arith, h, ap (λ (q : Answered). q.number) e)

-- what was to be given is refused only for want of room
padded_zeros : (room : ℕ) (ws : List ℕ) (a : Answer) → number_of a < 10 → 10 ≤ number_of (pick (leb (length ws) room) a Short) → padded room ws ≡ replicate room 0
padded_zeros room ws a low h = go (leb (length ws) room) refl h
  where
    go : (b : Bool) → leb (length ws) room ≡ b → 10 ≤ number_of (pick b a Short) → padded room ws ≡ replicate room 0
    go true e k = absurd (omega (arith, k, low))
    go false e k = padded_short room ws (leb-false (length ws) room e)

-- ---- building and rewriting
built_zeros : (room : ℕ) (b : Built) → 10 ≤ number_of (build_answer room b) → build_words room b ≡ replicate room 0
built_zeros room (refused a) h = (refused_built room a).1
built_zeros room (built t) h =
    let q = built_built room t in
    q.1 ∙ padded_zeros room (words t) Done (omega arith) (moved (build_answer room (built t)) (pick (leb (length (words t)) room) Done Short) q.0 h)

-- ---- simplifying
module _ (room : ℕ) where
  run_zeros : (book tree : List ℕ) (budget : ℕ) (t : Row) (run : Run) → RunIs book tree budget t run → 10 ≤ number_of (simplify_answer room run) → simplify_words room run ≡ replicate room 0
  run_zeros book tree budget t (Stopped trace last a) i h = (stopped_run room trace last a).1
  run_zeros book tree budget t (Ended trace last a v) i h =
      let q = ended_run room trace last a v in
      q.1 ∙ padded_zeros room (words v) a (low i.2) (moved (simplify_answer room (Ended trace last a v)) (pick (leb (length (words v)) room) a Short) q.0 h)
    where
      low : EndsAs book tree budget (length trace) v a → number_of a < 10
      low (rests e x) = rw e (omega arith)
      low (used e m at f x) = rw e (omega arith)

  stopped_zeros : (run : Run) (a : Answer) → run ≡ Stopped [] 0 a → simplify_words room run ≡ replicate room 0
  stopped_zeros run a e = ap (simplify_words room) e ∙ (stopped_run room [] 0 a).1

  simplify_zeros : (book tree term : List ℕ) (budget : ℕ) → 10 ≤ number_of (simplify_answer room (simplify book tree budget term)) → simplify_words room (simplify book tree budget term) ≡ replicate room 0
  simplify_zeros book tree term budget h = with_book_lem (check_book book) refl
    where
      with_term_lem : check_book book ≡ Ok tt → (c : Result (Unit {0}) ℕ) → check term_limits term ≡ c → simplify_words room (simplify book tree budget term) ≡ replicate room 0
      with_term_lem g (Err at) e = stopped_zeros (simplify book tree budget term) (BadTerm at) (simplify_bad_term book tree term budget g at e)
      with_term_lem g (Ok _) e =
          let q = simplify_runs book tree term budget g e in
          ap (simplify_words room) q
          ∙ run_zeros book tree budget (tree_of term) (simplify_by book tree budget (tree_of term)) (run_is book tree budget (tree_of term)) (moved _ _ (ap (simplify_answer room) q) h)

      with_book_lem : (c : Result (Unit {0}) ℕ) → check_book book ≡ c → simplify_words room (simplify book tree budget term) ≡ replicate room 0
      with_book_lem (Err at) e = stopped_zeros (simplify book tree budget term) (BadBook at) (simplify_bad_book book tree term budget at e)
      with_book_lem (Ok _) e = with_term_lem e (check term_limits term) refl

-- what is refused is not done
not_done : (r : Answer) → 10 ≤ number_of r → r ≡ Done → ⊥
not_done r h e = let k : 10 ≤ 0 = rw e at h in absurd (omega (arith, k))

pub leaves_zeros : (ops : Operations) → Promised ops → LeavesZeros ops
leaves_zeros ops kept =
    record {
      match_rule = λ book number term room o p. (
          let e = kept.match_rule book number term room o p ∙ match_given book number term room in (
            λ h. ap (λ (q : MatchRuleOutcome). q.bodies) e ∙ (match_zeros room (match_rule book number term) (told o.said (match_answer room (match_rule book number term)) (ap (λ (q : MatchRuleOutcome). q.said) e) h)).0,
            λ h. ap (λ (q : MatchRuleOutcome). q.lengths) e ∙ (match_zeros room (match_rule book number term) (told o.said (match_answer room (match_rule book number term)) (ap (λ (q : MatchRuleOutcome). q.said) e) h)).1,
          )
          );
      build_left = λ book number bodies lengths room o p h. (
          let e = kept.build_left book number bodies lengths room o p ∙ build_given book number bodies lengths room in
          ap (λ (q : BuildLeftOutcome). q.out) e ∙ built_zeros room (build_left book number bodies lengths) (told o.said (build_answer room (build_left book number bodies lengths)) (ap (λ (q : BuildLeftOutcome). q.said) e) h)
          );
      compile = λ book room o p h. (
          let e = kept.compile book room o p ∙ compile_given book room in
          ap (λ (q : CompileOutcome). q.out) e ∙ compile_zeros room book (told o.said (compile_answer room book) (ap (λ (q : CompileOutcome). q.said) e) h)
          );
      match_tree = λ tree term room o p. (
          let e = kept.match_tree tree term room o p ∙ tree_given tree term room in (
            λ h. ap (λ (q : MatchTreeOutcome). q.bodies) e ∙ (match_zeros room (match_tree tree term) (told o.said (match_answer room (match_tree tree term)) (ap (λ (q : MatchTreeOutcome). q.said) e) h)).0,
            λ h. ap (λ (q : MatchTreeOutcome). q.lengths) e ∙ (match_zeros room (match_tree tree term) (told o.said (match_answer room (match_tree tree term)) (ap (λ (q : MatchTreeOutcome). q.said) e) h)).1,
          )
          );
      rewrite_root = λ book tree term room o p h. (
          let e = kept.rewrite_root book tree term room o p ∙ root_given book tree term room in
          ap (λ (q : RewriteRootOutcome). q.out) e ∙ built_zeros room (rewrite_root book tree term) (told o.said (build_answer room (rewrite_root book tree term)) (ap (λ (q : RewriteRootOutcome). q.said) e) h)
          );
      simplify = λ book tree term budget room o p h. (
          let e = kept.simplify book tree term budget room o p ∙ run_given book tree term budget room in
          ap (λ (q : SimplifyOutcome). q.out) e ∙ simplify_zeros room book tree term budget (told o.said (simplify_answer room (simplify book tree budget term)) (ap (λ (q : SimplifyOutcome). q.said) e) h)
          );
      read_book = λ text room o p h. (
          let e = kept.read_book text room o p ∙ read_book_gives_lem text room in
          ap (λ (q : ReadBookOutcome). q.out) e ∙ read_book_zeros room (book_said text) (not_done (read_book_answer room (book_said text)) (told o.said (read_book_answer room (book_said text)) (ap (λ (q : ReadBookOutcome). q.said) e) h))
          );
      write_book = λ book room o p h. (
          let e = kept.write_book book room o p ∙ write_book_gives_lem book room in
          ap (λ (q : WriteBookOutcome). q.out) e ∙ write_book_zeros room book (not_done (write_book_answer room book) (told o.said (write_book_answer room book) (ap (λ (q : WriteBookOutcome). q.said) e) h))
          );
      repair_book = λ text room o p h. (
          let e = kept.repair_book text room o p ∙ repair_gives text room in
          ap (λ (q : RepairBookOutcome). q.out) e ∙ repair_zeros room (mail_said text) (not_done (repair_answer room (mail_said text)) (told o.said (repair_answer room (mail_said text)) (ap (λ (q : RepairBookOutcome). q.said) e) h))
          );
      read_term = λ text room o p h. (
          let e = kept.read_term text room o p ∙ read_term_gives_lem text room in
          ap (λ (q : ReadTermOutcome). q.out) e ∙ read_term_zeros room (term_said text) (not_done (read_answer room (term_said text)) (told o.said (read_answer room (term_said text)) (ap (λ (q : ReadTermOutcome). q.said) e) h))
          );
      write_term = λ term room o p h. (
          let e = kept.write_term term room o p ∙ write_term_gives_lem term room in
          ap (λ (q : WriteTermOutcome). q.out) e ∙ write_term_zeros room term (not_done (write_answer room term) (told o.said (write_answer room term) (ap (λ (q : WriteTermOutcome). q.said) e) h))
          );
    }
