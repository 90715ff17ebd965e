-- What a caller hands on of the compiler's output is the tree and zeros after it: the output of compiling into that much room. So what is proved of compiling holds of it.
use mathlib.Core.Path.{◌≡◌, refl, sym, ap, ◌∙◌}
use mathlib.Core.List.{List, ◌∷◌, ◌++◌}
use Prim.Native.Nat.{ℕ, zero, suc, ◌+◌, ◌-◌, ◌≤◌}
use native.Mathlib.Omega.{arith}
use lib.ListN.{length, take, replicate}
use lib.Seq.{take-append-add}
use Rattle.std.specs.Prelude.{Ok}
use Rattle.term.specs.declared.answer.Answer.TheVariants.{Done}
use Rattle.term.specs.Answer.{answered}
use Rattle.term.specs.Check.{IsTerm, term_limits}
use Rattle.term.proofs.Laws.{tree_good, answered_same}
use Rattle.book.specs.Book.{check_book}
use Rattle.tree.specs.Root.{book_tree}
use Rattle.tree.specs.Layout.{tree_words}
use Rattle.tree.proofs.Laws.{Lies}
use Rattle.compiler.specs.Compiled.{compile_answer, compile_words, compile_length, CompileOutcome, compile_came}
use Rattle.compiler.proofs.Laws.{TreeMade, done_made, compiled_lies, compiled_short, compile_writes}
use Rattle.walk.specs.Demand.{TreeFinds}
use Rattle.walk.specs.ByTree.{MatchTreeOutcome, match_tree_gives}
use Rattle.walk.proofs.Laws.{tree_finds}
use Rattle.rosenduch.specs.Operations.{Operations, Promised}
use Rattle.rosenduch.specs.Demands.{CompiledTree}
use Rattle.rosenduch.proofs.Given.{compile_given}

take_zeros : (j m : ℕ) → take {A = ℕ} j (replicate m 0) ≡ replicate (m - (m - j)) 0
take_zeros zero m = let e : m - (m - 0) ≡ 0 = omega arith in rw e
take_zeros (suc j) zero = let e : 0 - (0 - suc j) ≡ 0 = omega arith in rw e
take_zeros (suc j) (suc m) =
    let e : suc m - (suc m - suc j) ≡ suc (m - (m - j)) = omega arith in
    rw e (ap (λ (l : List ℕ). 0 ∷ l) (take_zeros j m))

less_both : (a b n : ℕ) → n ≤ a → n ≤ b → a - n - (b - n) ≡ a - b
less_both a b n h k = omega (arith, h, k)

less_swapped : (a b c : ℕ) → a - b - c ≡ a - c - b
less_swapped a b c = omega arith

take_padded : (ws : List ℕ) (room many : ℕ) → length ws ≤ room → length ws ≤ many
    → take many (ws ++ replicate (room - length ws) 0) ≡ ws ++ replicate (room - (room - many) - length ws) 0
take_padded ws room many h k =
    let e : many ≡ length ws + (many - length ws) = omega (arith, k) in
    let n : room - length ws - (room - length ws - (many - length ws)) ≡ room - (room - many) - length ws =
    ap (λ (i : ℕ). room - length ws - i) (less_both room many (length ws) h k) ∙ less_swapped room (length ws) (room - many) in
    ap (λ (i : ℕ). take i (ws ++ replicate (room - length ws) 0)) e
    ∙ take-append-add ws (replicate (room - length ws) 0) (many - length ws)
    ∙ ap (ws ++◌) (take_zeros (many - length ws) (room - length ws) ∙ ap (λ (i : ℕ). replicate {A = ℕ} i 0) n)

module _ (ops : Operations) (kept : Promised ops) (book tree : List ℕ) (k : CompiledTree ops book tree) where
  given : k.o ≡ compile_came (answered (compile_answer k.room book)) (compile_length k.room book) (compile_words k.room book)
  given = kept.compile book k.room k.o k.came ∙ compile_given book k.room

  made : TreeMade k.room book
  made = done_made k.room book (answered_same _ Done (sym (ap (λ (q : CompileOutcome). q.said) given) ∙ k.done))

  pub accepted_book : check_book book ≡ Ok tt
  accepted_book = made.accepted

  -- the words handed on, as room
  abbrev cut : ℕ
  cut = k.room - (k.room - k.many)

  whole : length (tree_words book) ≤ k.many
  whole = omega (arith, k.whole, ap (λ (q : CompileOutcome). q.words) given, made.said)

  written : (compile_answer cut book ≡ Done) × (compile_words cut book ≡ tree_words book ++ replicate (cut - length (tree_words book)) 0)
  written = compile_writes cut book accepted_book made.within (omega (arith, made.fits, whole))

  small : cut ≤ 16384
  small = omega (arith, k.small)

  cut_is : tree ≡ compile_words cut book
  cut_is =
      k.is ∙ ap (take k.many) (ap (λ (q : CompileOutcome). q.out) given ∙ made.words)
      ∙ take_padded (tree_words book) k.room k.many made.fits whole
      ∙ sym written.1

  pub tree_lies : Lies tree 0 (book_tree book)
  tree_lies = rw cut_is (compiled_lies book cut written.0)

  pub tree_short : length tree ≤ 16384
  tree_short = rw cut_is (compiled_short book cut written.0 small)

  pub finds_by_tree : (term : List ℕ) → IsTerm term → (room : ℕ) (o : MatchTreeOutcome) → o ≡ match_tree_gives tree term room → TreeFinds book term room o
  finds_by_tree term i room o p = tree_finds book accepted_book tree tree_lies tree_short term (tree_good term_limits term i) room o p

pub compiles_tree : (ops : Operations) → Promised ops → (book : List ℕ) → check_book book ≡ Ok tt → length (tree_words book) ≤ 16384
    → (room : ℕ) → length (tree_words book) ≤ room → (o : CompileOutcome) → ops.compile book room o → (o.said ≡ answered Done) × CompiledTree ops book (take o.words o.out)
compiles_tree ops kept book g s room h o p =
    let q = kept.compile book room o p ∙ compile_given book room in
    let d = (compile_writes room book g s h).0 in
    let e = ap (λ (x : CompileOutcome). x.said) q ∙ ap answered d in
    let n = ap (λ (x : CompileOutcome). x.words) q ∙ (done_made room book d).said in
    (e, record { room = room; o = o; came = p; done = e; many = o.words; whole = omega arith; small = omega (arith, n, s); is = refl })
