-- Bad inputs are refused by number: each judgement is one line of an operation's definition, and an answer below 10 leaves no judgement that failed.
use mathlib.Core.Path.{◌≡◌, refl, sym, ap, ◌∙◌}
use mathlib.Core.Bool.{Bool, true, false}
use mathlib.Core.List.{List, [], ◌∷◌}
use lib.ListN.{length}
use mathlib.Core.Option.{Option, none, some}
use Prim.Native.Nat.{ℕ, zero, suc, ◌≤◌, ◌<◌}
use native.Mathlib.Omega.{arith}
use Rattle.std.specs.Prelude.{Result, Ok, Err}
use Rattle.term.specs.declared.answer.Answer.{Answer}
use Rattle.term.specs.declared.answer.Answer.TheVariants.{BadTerm, BadBook, Damaged, NoRule}
use Rattle.term.specs.Answer.{Answered, saying, answered}
use Rattle.term.specs.Checked.{checked_term, check_term_gives}
use Rattle.term.specs.Row.{Row}
use Rattle.term.specs.Check.{IsTerm, check, term_limits}
use Rattle.term.proofs.Laws.{good_tree, check_term_is}
use Rattle.book.specs.Accept.{accept_answer, check_book_gives}
use Rattle.book.specs.Book.{Rule, check_book, rule_at}
use Rattle.book.proofs.Laws.{bad_refused, check_book_is}
use Rattle.fit.specs.Match.{tree_of, Matched, refused, match_rule, match_answer, MatchRuleOutcome}
use Rattle.fit.specs.Build as building
use Rattle.fit.specs.Build.{good_lengths, check_bodies, within_limits, Built, build_left, build_answer, BuildLeftOutcome}
use Rattle.fit.proofs.Laws.{refused_answer, refused_built, match_bad_book, match_no_rule, match_bad_term, build_bad_book, build_no_rule, build_bad_lengths, build_bad_body}
use Rattle.compiler.specs.Compiled.{CompileOutcome, compile_answer}
use Rattle.compiler.proofs.Laws.{compile_bad_book}
use Rattle.walk.specs.Walk.{DamagedAt, walk, no_book, book_fits}
use Rattle.walk.specs.ByTree.{walked_match, match_tree, MatchTreeOutcome}
use Rattle.walk.proofs.Laws.{tree_bad_term, tree_walked}
use Rattle.steps.specs.Rewrite.{walked_root, rewrite_root, RewriteRootOutcome}
use Rattle.steps.specs.Offset.{spliced}
use Rattle.steps.specs.Step.{search_visits, Becomes}
use Rattle.steps.specs.Simplify.{Search, found, Run, Stopped, simplify, simplify_answer, simplify_steps, SimplifyOutcome}
use Rattle.steps.proofs.Laws.{StepsTo, rewrite_bad_book, rewrite_bad_term, rewrite_walked, simplify_bad_book, simplify_bad_term, simplify_runs, stopped_run, none_steps, more_steps, makes_step, damage_stops}
use Rattle.text.specs.TermText.{Said, says, bad_line, term_said, read_answer, write_answer, ReadTermOutcome, WriteTermOutcome}
use Rattle.text.specs.Mail.{Mail, mail_is, bad_mail, mail_said}
use Rattle.mend.specs.Repair.{repair_answer, RepairBookOutcome}
use Rattle.mend.proofs.Laws.{repair_gives, repair_bad_line}
use Rattle.text.specs.BookText.{book_said, read_book_answer, write_book_answer, ReadBookOutcome, WriteBookOutcome}
use Rattle.text.proofs.Laws.{read_term_gives_lem, write_term_gives_lem, read_book_gives_lem, write_book_gives_lem, read_bad_line, read_bad_term, write_bad_term, read_bad_book_line, read_bad_book, write_bad_book}
use Rattle.rosenduch.specs.Operations.{Operations, Promised}
use Rattle.rosenduch.specs.Steps.{Leads, NextBy, BreaksBy}
use Rattle.rosenduch.specs.Demands.{BookJudged, RuleJudged, TermJudged, RefusesBad}
use Rattle.rosenduch.proofs.Given.{match_given, build_given, compile_given, tree_given, root_given, run_given}

-- ---- a refused match, a refused building, a stopped run
refused_says : (room : ℕ) (m : Matched) (said : Answered) (a : Answer) → said ≡ answered (match_answer room m) → m ≡ refused a → said ≡ answered a
refused_says room m said a p e = p ∙ ap answered (ap (match_answer room) e ∙ refused_answer room a)

unbuilt_says : (room : ℕ) (b : Built) (said : Answered) (a : Answer) → said ≡ answered (build_answer room b) → b ≡ building.refused a → said ≡ answered a
unbuilt_says room b said a p e = p ∙ ap answered (ap (build_answer room) e ∙ (refused_built room a).0)

stopped_says : (room : ℕ) (trace : List Search) (last : ℕ) (run : Run) (said : Answered) (a : Answer) → said ≡ answered (simplify_answer room run) → run ≡ Stopped trace last a → said ≡ answered a
stopped_says room trace last run said a p e = p ∙ ap answered (ap (simplify_answer room) e ∙ (stopped_run room trace last a).0)

-- ---- below 10, each judgement was passed
all_good : (c : Result (Unit {0}) ℕ) → ((at : ℕ) → c ≡ Err at → ⊥) → c ≡ Ok tt
all_good (Ok _) f = refl
all_good (Err at) f = absurd (f at refl)

is_true : (b : Bool) → (b ≡ false → ⊥) → b ≡ true
is_true true f = refl
is_true false f = absurd (f refl)

is_term : (ws : List ℕ) → check term_limits ws ≡ Ok tt → IsTerm ws
is_term ws e = good_tree term_limits (omega arith) ws e

module _ (said : Answered) (low : said.number < 10) where
  not_refused : (number at : ℕ) → 10 ≤ number → said ≡ saying number at → ⊥
  not_refused number at h s = omega (arith, low, h, ap (λ (a : Answered). a.number) s)

  book_good : (book : List ℕ) → BookJudged book said → check_book book ≡ Ok tt
  book_good book j = all_good (check_book book) (λ at e. not_refused 12 at (omega arith) (j at e))

  term_good : (ws : List ℕ) → TermJudged ws said → check term_limits ws ≡ Ok tt
  term_good ws j = all_good (check term_limits ws) (λ at e. not_refused 11 at (omega arith) (j at e))

  term_is : (ws : List ℕ) → TermJudged ws said → IsTerm ws
  term_is ws j = is_term ws (term_good ws j)

  rule_there : (book : List ℕ) (number : ℕ) → check_book book ≡ Ok tt → RuleJudged book number said → (rule : Rule) × (rule_at book number ≡ some rule)
  rule_there book number g j = go (rule_at book number) refl
    where
      go : (o : Option Rule) → rule_at book number ≡ o → (rule : Rule) × (rule_at book number ≡ some rule)
      go none e = absurd (not_refused 16 number (omega arith) (j g e))
      go (some rule) e = (rule, e)

-- ---- checks
check_term : (words : List ℕ) (said : Answered) → said ≡ check_term_gives words → TermJudged words said × (said.number < 10 → IsTerm words)
check_term words said p = (judged, λ low. term_is said low words judged)
  where
    judged : TermJudged words said
    judged at e = p ∙ check_term_is words ∙ ap (λ (c : Result (Unit {0}) ℕ). answered (checked_term c)) e

check_book_lem : (book : List ℕ) (said : Answered) → said ≡ check_book_gives book → BookJudged book said × (said.number < 10 → check_book book ≡ Ok tt)
check_book_lem book said p = (judged, λ low. book_good said low book judged)
  where
    judged : BookJudged book said
    judged at e = p ∙ check_book_is book ∙ ap (λ (a : Result (Unit {0}) Answer). answered (accept_answer a)) (bad_refused book at e)

-- ---- matching one rule
module _ (book : List ℕ) (number : ℕ) (term : List ℕ) (room : ℕ) (said : Answered) (p : said ≡ answered (match_answer room (match_rule book number term))) where
  match_book : BookJudged book said
  match_book at e = refused_says room (match_rule book number term) said (BadBook at) p (match_bad_book book number term at e)

  match_rule_lem : RuleJudged book number said
  match_rule_lem g e = refused_says room (match_rule book number term) said (NoRule number) p (match_no_rule book number term g e)

  match_term : (rule : Rule) → check_book book ≡ Ok tt → rule_at book number ≡ some rule → TermJudged term said
  match_term rule g f at e = refused_says room (match_rule book number term) said (BadTerm at) p (match_bad_term book number term g rule f at e)

  match_passes : said.number < 10 → (check_book book ≡ Ok tt) × IsTerm term
  match_passes low =
      let g = book_good said low book match_book in
      let f = rule_there said low book number g match_rule_lem in
      (g, term_is said low term (match_term f.0 g f.1))

-- ---- building a left side
module _ (book : List ℕ) (number : ℕ) (bodies lengths : List ℕ) (room : ℕ) (said : Answered) (p : said ≡ answered (build_answer room (build_left book number bodies lengths))) where
  build_book : BookJudged book said
  build_book at e = unbuilt_says room (build_left book number bodies lengths) said (BadBook at) p (build_bad_book book number bodies lengths at e)

  build_rule : RuleJudged book number said
  build_rule g e = unbuilt_says room (build_left book number bodies lengths) said (NoRule number) p (build_no_rule book number bodies lengths g e)

  module _ (rule : Rule) (g : check_book book ≡ Ok tt) (f : rule_at book number ≡ some rule) where
    build_lengths : good_lengths rule.vars bodies lengths ≡ false → said ≡ saying 11 16
    build_lengths e = unbuilt_says room (build_left book number bodies lengths) said (BadTerm 16) p (build_bad_lengths book number bodies lengths g rule f e)

    build_bodies : good_lengths rule.vars bodies lengths ≡ true → (x : ℕ) → check_bodies bodies lengths 0 rule.vars ≡ Err x → said ≡ saying 11 x
    build_bodies l x e = unbuilt_says room (build_left book number bodies lengths) said (BadTerm x) p (build_bad_body book number bodies lengths g rule f l x e)

  build_passes : said.number < 10 → (check_book book ≡ Ok tt) × ((rule : Rule) → rule_at book number ≡ some rule → (good_lengths rule.vars bodies lengths ≡ true) × (check_bodies bodies lengths 0 rule.vars ≡ Ok tt))
  build_passes low =
      let g = book_good said low book build_book in (
        g,
        λ rule f. (
            let l = is_true (good_lengths rule.vars bodies lengths) (λ e. not_refused said low 11 16 (omega arith) (build_lengths rule g f e)) in
            (l, all_good (check_bodies bodies lengths 0 rule.vars) (λ x e. not_refused said low 11 x (omega arith) (build_bodies rule g f l x e)))
            ),
      )

-- ---- the tree
compile_book : (book : List ℕ) (room : ℕ) (said : Answered) → said ≡ answered (compile_answer room book) → BookJudged book said
compile_book book room said p at e = p ∙ ap answered (compile_bad_book room book at e)

module _ (tree term : List ℕ) (room : ℕ) (said : Answered) (p : said ≡ answered (match_answer room (match_tree tree term))) where
  tree_term : TermJudged term said
  tree_term at e = refused_says room (match_tree tree term) said (BadTerm at) p (tree_bad_term tree term at e)

  tree_damaged : (at : ℕ) → check term_limits term ≡ Ok tt → walk no_book tree (tree_of term) ≡ DamagedAt at → said ≡ saying 14 at
  tree_damaged at g e = refused_says room (match_tree tree term) said (Damaged at) p (tree_walked tree term g ∙ ap walked_match e)

-- ---- rewriting at the root
module _ (book tree term : List ℕ) (room : ℕ) (said : Answered) (p : said ≡ answered (build_answer room (rewrite_root book tree term))) where
  root_book : BookJudged book said
  root_book at e = unbuilt_says room (rewrite_root book tree term) said (BadBook at) p (rewrite_bad_book book tree term at e)

  root_term : check_book book ≡ Ok tt → TermJudged term said
  root_term g at e = unbuilt_says room (rewrite_root book tree term) said (BadTerm at) p (rewrite_bad_term book tree term g at e)

  root_damaged : (at : ℕ) → check_book book ≡ Ok tt → check term_limits term ≡ Ok tt → walk (book_fits book) tree (tree_of term) ≡ DamagedAt at → said ≡ saying 14 at
  root_damaged at g h e = unbuilt_says room (rewrite_root book tree term) said (Damaged at) p (rewrite_walked book tree term g h ∙ ap (walked_root book (tree_of term)) e)

  root_passes : said.number < 10 → (check_book book ≡ Ok tt) × IsTerm term
  root_passes low = let g = book_good said low book root_book in (g, term_is said low term (root_term g))

-- ---- simplifying
module _ (book tree : List ℕ) where
  -- steps that are led through are steps of the machine
  leads_steps : (n : ℕ) (t v : Row) → Leads (NextBy book tree) n t v → (trace : List Search) × (length trace ≡ n) × StepsTo book tree trace t v
  unfolding Leads
  leads_steps zero t v l = ([], refl, rw (sym l) (none_steps book tree t))
  leads_steps (suc n) t v l =
      let u = l.0 in
      let x = l.1 in
      let w : within_limits (spliced t x.0 x.3) ≡ true = sym (ap within_limits x.5) ∙ l.2 in
      let r = leads_steps n u v l.3 in (
        found x.1.number (search_visits book tree t) ∷ r.0,
        ap suc r.1,
        more_steps book tree r.0 x.1.number t u v (makes_step book tree t x.0 x.1 x.2 x.3 x.4 w ∙ ap (Becomes x.1.number) (sym x.5)) r.2,
      )

  module _ (term : List ℕ) (budget room : ℕ) (said : Answered) (p : said ≡ answered (simplify_answer room (simplify book tree budget term))) where
    run_book : BookJudged book said
    run_book at e = stopped_says room [] 0 (simplify book tree budget term) said (BadBook at) p (simplify_bad_book book tree term budget at e)

    run_term : check_book book ≡ Ok tt → TermJudged term said
    run_term g at e = stopped_says room [] 0 (simplify book tree budget term) said (BadTerm at) p (simplify_bad_term book tree term budget g at e)

    run_passes : said.number < 10 → (check_book book ≡ Ok tt) × IsTerm term
    run_passes low = let g = book_good said low book run_book in (g, term_is said low term (run_term g))

    run_damaged : (n at : ℕ) (v : Row) → check_book book ≡ Ok tt → check term_limits term ≡ Ok tt
        → Leads (NextBy book tree) n (tree_of term) v → n ≤ budget → BreaksBy book tree v at
        → (steps : ℕ) → steps ≡ simplify_steps (simplify book tree budget term) → (steps ≡ n) × (said ≡ saying 14 at)
    run_damaged n at v g h l few e steps s =
        let r = leads_steps n (tree_of term) v l in
        let last = search_visits book tree v in
        let run : simplify book tree budget term ≡ Stopped r.0 last (Damaged at) =
        simplify_runs book tree term budget g h ∙ damage_stops book tree at r.0 budget (tree_of term) v r.2 (omega (arith, r.1, few)) e in
        (s ∙ ap simplify_steps run ∙ (stopped_run room r.0 last (Damaged at)).2 ∙ r.1, stopped_says room r.0 last (simplify book tree budget term) said (Damaged at) p run)

-- ---- text
module _ (text : List ℕ) (room : ℕ) (said : Answered) where
  module _ (p : said ≡ answered (read_book_answer room (book_said text))) where
    book_line_lem : (at : ℕ) → book_said text ≡ bad_line at → said ≡ saying 10 at
    book_line_lem at e = p ∙ ap answered (ap (read_book_answer room) e ∙ (read_bad_book_line room at).0)

    book_said_lem : (book : List ℕ) → book_said text ≡ says book → BookJudged book said
    book_said_lem book e at b = p ∙ ap answered (ap (read_book_answer room) e ∙ (read_bad_book room book at b).0)

    book_passes : said.number < 10 → (book : List ℕ) × (book_said text ≡ says book) × (check_book book ≡ Ok tt)
    book_passes low = go (book_said text) refl
      where
        go : (s : Said) → book_said text ≡ s → (book : List ℕ) × (book_said text ≡ says book) × (check_book book ≡ Ok tt)
        go (says book) e = (book, e, book_good said low book (book_said_lem book e))
        go (bad_line at) e = absurd (not_refused said low 10 at (omega arith) (book_line_lem at e))

  module _ (p : said ≡ answered (read_answer room (term_said text))) where
    term_line_lem : (at : ℕ) → term_said text ≡ bad_line at → said ≡ saying 10 at
    term_line_lem at e = p ∙ ap answered (ap (read_answer room) e ∙ (read_bad_line room at).0)

    term_said_lem : (term : List ℕ) → term_said text ≡ says term → TermJudged term said
    term_said_lem term e at b = p ∙ ap answered (ap (read_answer room) e ∙ (read_bad_term room term at b).0)

    term_passes : said.number < 10 → (term : List ℕ) × (term_said text ≡ says term) × IsTerm term
    term_passes low = go (term_said text) refl
      where
        go : (s : Said) → term_said text ≡ s → (term : List ℕ) × (term_said text ≡ says term) × IsTerm term
        go (says term) e = (term, e, term_is said low term (term_said_lem term e))
        go (bad_line at) e = absurd (not_refused said low 10 at (omega arith) (term_line_lem at e))

module _ (text : List ℕ) (room : ℕ) (said : Answered) (p : said ≡ answered (repair_answer room (mail_said text))) where
  mail_line : (at : ℕ) → mail_said text ≡ bad_mail at → said ≡ saying 10 at
  mail_line at e = p ∙ ap answered (ap (repair_answer room) e ∙ (repair_bad_line room at).0)

  mail_passes : said.number < 10 → (stated : ℕ) × (rules : List (List ℕ)) × (mail_said text ≡ mail_is stated rules)
  mail_passes low = go (mail_said text) refl
    where
      go : (m : Mail) → mail_said text ≡ m → (stated : ℕ) × (rules : List (List ℕ)) × (mail_said text ≡ mail_is stated rules)
      go (mail_is stated rules) e = (stated, rules, e)
      go (bad_mail at) e = absurd (not_refused said low 10 at (omega arith) (mail_line at e))

write_book : (book : List ℕ) (room : ℕ) (said : Answered) → said ≡ answered (write_book_answer room book) → BookJudged book said
write_book book room said p at e = p ∙ ap answered (write_bad_book room book at e).0

write_term : (term : List ℕ) (room : ℕ) (said : Answered) → said ≡ answered (write_answer room term) → TermJudged term said
write_term term room said p at e = p ∙ ap answered (write_bad_term room term at e).0

pub refuses_bad : (ops : Operations) → Promised ops → RefusesBad ops
refuses_bad ops kept =
    record {
      check_term = λ words said p. check_term words said (kept.check_term words said p);
      check_book = λ book said p. check_book_lem book said (kept.check_book book said p);
      match_rule = λ book number term room o p. (
          let e = ap (λ (q : MatchRuleOutcome). q.said) (kept.match_rule book number term room o p ∙ match_given book number term room) in (
            match_book book number term room o.said e,
            match_rule_lem book number term room o.said e,
            match_term book number term room o.said e,
            match_passes book number term room o.said e,
          )
          );
      build_left = λ book number bodies lengths room o p. (
          let e = ap (λ (q : BuildLeftOutcome). q.said) (kept.build_left book number bodies lengths room o p ∙ build_given book number bodies lengths room) in (
            build_book book number bodies lengths room o.said e,
            build_rule book number bodies lengths room o.said e,
            build_lengths book number bodies lengths room o.said e,
            build_bodies book number bodies lengths room o.said e,
            build_passes book number bodies lengths room o.said e,
          )
          );
      compile = λ book room o p. (
          let e = ap (λ (q : CompileOutcome). q.said) (kept.compile book room o p ∙ compile_given book room) in
          let judged = compile_book book room o.said e in
          (judged, λ low. book_good o.said low book judged)
          );
      match_tree = λ tree term room o p. (
          let e = ap (λ (q : MatchTreeOutcome). q.said) (kept.match_tree tree term room o p ∙ tree_given tree term room) in
          let judged = tree_term tree term room o.said e in
          (judged, tree_damaged tree term room o.said e, λ low. term_is o.said low term judged)
          );
      rewrite_root = λ book tree term room o p. (
          let e = ap (λ (q : RewriteRootOutcome). q.said) (kept.rewrite_root book tree term room o p ∙ root_given book tree term room) in (
            root_book book tree term room o.said e,
            root_term book tree term room o.said e,
            root_damaged book tree term room o.said e,
            root_passes book tree term room o.said e,
          )
          );
      simplify = λ book tree term budget room o p. (
          let q = kept.simplify book tree term budget room o p ∙ run_given book tree term budget room in
          let e = ap (λ (x : SimplifyOutcome). x.said) q in (
            run_book book tree term budget room o.said e,
            run_term book tree term budget room o.said e,
            λ n at v g h l few b. run_damaged book tree term budget room o.said e n at v g h l few b o.steps (ap (λ (x : SimplifyOutcome). x.steps) q),
            run_passes book tree term budget room o.said e,
          )
          );
      read_book = λ text room o p. (
          let e = ap (λ (q : ReadBookOutcome). q.said) (kept.read_book text room o p ∙ read_book_gives_lem text room) in
          (book_line_lem text room o.said e, book_said_lem text room o.said e, book_passes text room o.said e)
          );
      write_book = λ book room o p. (
          let judged = write_book book room o.said (ap (λ (q : WriteBookOutcome). q.said) (kept.write_book book room o p ∙ write_book_gives_lem book room)) in
          (judged, λ low. book_good o.said low book judged)
          );
      repair_book = λ text room o p. (
          let e = ap (λ (q : RepairBookOutcome). q.said) (kept.repair_book text room o p ∙ repair_gives text room) in
          (mail_line text room o.said e, mail_passes text room o.said e)
          );
      read_term = λ text room o p. (
          let e = ap (λ (q : ReadTermOutcome). q.said) (kept.read_term text room o p ∙ read_term_gives_lem text room) in
          (term_line_lem text room o.said e, term_said_lem text room o.said e, term_passes text room o.said e)
          );
      write_term = λ term room o p. (
          let judged = write_term term room o.said (ap (λ (q : WriteTermOutcome). q.said) (kept.write_term term room o p ∙ write_term_gives_lem term room)) in
          (judged, λ low. term_is o.said low term judged)
          );
    }
