-- The heads that the tables give for the root, row after row and count after count, are those of the root Switch.
use mathlib.Core.Path.{◌≡◌, refl, sym, ap, ap₂, ◌∙◌}
use mathlib.Core.Bool.{Bool, true, false, ◌&&◌, not}
use mathlib.Core.List.{List, [], ◌∷◌, ◌++◌}
use mathlib.Core.Option.{Option, none, some}
use Prim.Native.Nat.{ℕ, zero, suc, ◌+◌, ◌-◌, ◌*◌, ◌/◌, ◌%◌, ◌≤◌, ◌<◌}
use native.Mathlib.Omega.{arith}
use lib.Dec.{eqb, leb}
use lib.ListN.{length}
use borrow.Author.Tests.{ne_eqb, le-leb, lt-leb, leb-true}
use Rattle.term.specs.Word.{Head, symbol, pick}
use Rattle.term.proofs.Laws.{never, word_symbol, symbol_few}
use Rattle.book.specs.Book.{Rule, rule_at}
use Rattle.fit.specs.Left.{Left}
use Rattle.fit.specs.Match.{left_in}
use Rattle.tree.specs.Path.{OnPath}
use Rattle.tree.specs.Rows.{RuleRow, head_here}
use Rattle.tree.specs.Root.{without_id, add_symbol, root_symbols, lesser, smallest, counts_from, heads_of, root_heads}
use Rattle.compiler.specs.Told.Tables.{first_at, is_free, root_has, is_head_word, size_at, root_ident, has_symbol, lesser_of, smallest_from, count_word, root_word, count_roots}
use Rattle.compiler.specs.Told.Stands.{row_if, rows_left, Stands}
use Rattle.compiler.specs.Told.RootTold.{RootHead}
use Rattle.tree.proofs.Laws.{without_id_none, without_id_more, symbols_none, symbols_row, smallest_none, smallest_row, no_counts, more_counts, heads_of_none, heads_of_more, root_heads_are, HeadIn, RootsIn, root_heads_table, InTables}
use Rattle.compiler.proofs.RowsLeft.{row_of_rule, rows_step, rows_ended}
use Rattle.compiler.proofs.CasesLaid.{heads_from, head_words, heads_end, heads_step, heads_skip, many_heads, words_none, words_more, words_many}
use Rattle.compiler.proofs.NewHeads.{first_more}
use Rattle.compiler.proofs.RootSymbols.{RootSymbol, root_symbol_lem}

-- ---- symbols that pass a test
unfoldable kept_ids : (ℕ → Bool) → List ℕ → List ℕ
kept_ids p [] = []
kept_ids p (i ∷ is) = pick (p i) (i ∷ kept_ids p is) (kept_ids p is)

kept_none : (p : ℕ → Bool) → kept_ids p [] ≡ []
unfolding kept_ids
kept_none p = refl

kept_first : (p : ℕ → Bool) (i : ℕ) (is : List ℕ) → kept_ids p (i ∷ is) ≡ pick (p i) (i ∷ kept_ids p is) (kept_ids p is)
unfolding kept_ids
kept_first p i is = refl

kept_all : (p : ℕ → Bool) → ((i : ℕ) → p i ≡ true) → (is : List ℕ) → kept_ids p is ≡ is
unfolding kept_ids
kept_all p e [] = refl
kept_all p e (i ∷ is) = rw (e i, kept_all p e is)

kept_same : (p q : ℕ → Bool) → ((i : ℕ) → p i ≡ q i) → (is : List ℕ) → kept_ids p is ≡ kept_ids q is
unfolding kept_ids
kept_same p q e [] = refl
kept_same p q e (i ∷ is) = rw (e i, kept_same p q e is)

kept_without : (p q : ℕ → Bool) (j : ℕ) → ((i : ℕ) → q i ≡ p i && not (eqb j i)) → (is : List ℕ) → kept_ids p (without_id j is) ≡ kept_ids q is
unfolding kept_ids
kept_without p q j e [] = ap (kept_ids p) (without_id_none j)
kept_without p q j e (i ∷ is) = ap (kept_ids p) (without_id_more j i is) ∙ rw (e i) (go (eqb j i) (kept_without p q j e is))
  where
    go : (b : Bool) → kept_ids p (without_id j is) ≡ kept_ids q is → kept_ids p (pick b (without_id j is) (i ∷ without_id j is)) ≡ pick (p i && not b) (i ∷ kept_ids q is) (kept_ids q is)
    go true r = r ∙ falls (p i)
      where
        falls : (a : Bool) → kept_ids q is ≡ pick (a && false) (i ∷ kept_ids q is) (kept_ids q is)
        falls true = refl
        falls false = refl
    go false r = holds (p i) r
      where
        holds : (a : Bool) → kept_ids p (without_id j is) ≡ kept_ids q is → pick a (i ∷ kept_ids p (without_id j is)) (kept_ids p (without_id j is)) ≡ pick (a && true) (i ∷ kept_ids q is) (kept_ids q is)
        holds true r = ap (i ∷◌) r
        holds false r = r

-- ---- the symbols that the tables give, from row r on
-- no row before r has this symbol
abbrev is_new_at : List ℕ → List ℕ → ℕ → ℕ → Bool
is_new_at fixed marks r i = eqb (first_at (has_symbol fixed marks i) 0 r) r

unfoldable symbols_from : List ℕ → List ℕ → ℕ → ℕ → List ℕ
symbols_from fixed marks r zero = []
symbols_from fixed marks r (suc more) =
    pick (is_free marks r && is_new_at fixed marks r (root_ident fixed r)) (root_ident fixed r ∷ symbols_from fixed marks (suc r) more) (symbols_from fixed marks (suc r) more)

new_more : (fixed marks : List ℕ) (r i : ℕ) → is_new_at fixed marks (suc r) i ≡ is_new_at fixed marks r i && not (has_symbol fixed marks i r)
new_more fixed marks r i =
    let z : 0 + suc r ≡ suc r = omega arith in
    let y : 0 + r ≡ r = omega arith in
    rw (z, y) at (first_more (has_symbol fixed marks i) r 0)

new_start : (fixed marks : List ℕ) (i : ℕ) → is_new_at fixed marks 0 i ≡ true
unfolding first_at
new_start fixed marks i = refl

new_struck : (fixed marks : List ℕ) (r : ℕ) → is_free marks r ≡ false → (i : ℕ) → is_new_at fixed marks r i ≡ is_new_at fixed marks (suc r) i
new_struck fixed marks r f i = sym (new_more fixed marks r i ∙ rw f (go (is_new_at fixed marks r i)))
  where
    go : (b : Bool) → b && true ≡ b
    go true = refl
    go false = refl

new_free : (fixed marks : List ℕ) (r : ℕ) → is_free marks r ≡ true → (i : ℕ) → is_new_at fixed marks (suc r) i ≡ is_new_at fixed marks r i && not (eqb (root_ident fixed r) i)
new_free fixed marks r f i = new_more fixed marks r i ∙ rw f

symbols_end : (fixed marks : List ℕ) (r : ℕ) → symbols_from fixed marks r 0 ≡ []
unfolding symbols_from
symbols_end fixed marks r = refl

symbols_step : (fixed marks : List ℕ) (r more : ℕ)
    → symbols_from fixed marks r (suc more) ≡ pick (is_free marks r && is_new_at fixed marks r (root_ident fixed r)) (root_ident fixed r ∷ symbols_from fixed marks (suc r) more) (symbols_from fixed marks (suc r) more)
unfolding symbols_from
symbols_step fixed marks r more = refl

-- ---- the smallest count
smallest_zero : (fixed marks : List ℕ) (i r : ℕ) → smallest_from fixed marks i r 0 ≡ 16
unfolding smallest_from
smallest_zero fixed marks i r = refl

smallest_next : (fixed marks : List ℕ) (i r more : ℕ) → smallest_from fixed marks i r (suc more) ≡ lesser_of (has_symbol fixed marks i r) (size_at fixed (r * 64)) (smallest_from fixed marks i (suc r) more)
unfolding smallest_from
smallest_next fixed marks i r more = refl

lesser_most : (b : Bool) (c n : ℕ) → lesser_of b c n ≤ n
lesser_most b c n = go b (leb c n) refl
  where
    go : (b l : Bool) → leb c n ≡ l → pick (b && l) c n ≤ n
    go true true e = leb-true c n e
    go true false e = omega arith
    go false l e = omega arith

smallest_most : (fixed marks : List ℕ) (i more r : ℕ) → smallest_from fixed marks i r more ≤ 16
smallest_most fixed marks i zero r = omega (arith, smallest_zero fixed marks i r)
smallest_most fixed marks i (suc more) r =
    omega (arith, smallest_next fixed marks i r more, lesser_most (has_symbol fixed marks i r) (size_at fixed (r * 64)) (smallest_from fixed marks i (suc r) more), smallest_most fixed marks i more (suc r))

-- ---- the cases of one row
heads_split : (new : ℕ → ℕ) (m n k : ℕ) → heads_from new k (m + n) ≡ heads_from new k m ++ heads_from new (k + m) n
heads_split new zero n k =
    let z : 0 + n ≡ n = omega arith in
    let y : k + 0 ≡ k = omega arith in
    rw (z, y, heads_end new k)
heads_split new (suc m) n k =
    let z : suc m + n ≡ suc (m + n) = omega arith in
    let y : k + suc m ≡ suc k + m = omega arith in
    rw (z, y) (go (is_head_word (new k)) refl (heads_split new m n (suc k)))
  where
    go : (b : Bool) → is_head_word (new k) ≡ b → heads_from new (suc k) (m + n) ≡ heads_from new (suc k) m ++ heads_from new (suc k + m) n
        → heads_from new k (suc (m + n)) ≡ heads_from new k (suc m) ++ heads_from new (suc k + m) n
    go true e r = rw (heads_step new k (m + n) e, heads_step new k m e, r)
    go false e r = rw (heads_skip new k (m + n) e, heads_skip new k m e, r)

none_from : (new : ℕ → ℕ) (m k : ℕ) → ((j : ℕ) → k ≤ j → j < k + m → is_head_word (new j) ≡ false) → heads_from new k m ≡ []
none_from new zero k e = heads_end new k
none_from new (suc m) k e = heads_skip new k m (e k (omega arith) (omega arith)) ∙ none_from new m (suc k) (λ j l h. e j (omega arith) (omega arith))

module _ (fixed marks : List ℕ) (r : ℕ) where
  abbrev word_at : ℕ → ℕ
  word_at k = root_word fixed marks k

  word_at_lem : (c : ℕ) → c < 16
      → word_at (r * 16 + c) ≡ pick (is_free marks r) (pick (is_new_at fixed marks r (root_ident fixed r)) (count_word (smallest_from fixed marks (root_ident fixed r) 0 64) c (root_ident fixed r)) 33554432) 33554432
  unfolding root_word
  word_at_lem c l =
      let z : (r * 16 + c) / 16 ≡ r = omega arith in
      let y : (r * 16 + c) % 16 ≡ c = omega arith in
      rw (z, y)

  other_cases : is_free marks r && is_new_at fixed marks r (root_ident fixed r) ≡ false → heads_from word_at (r * 16) 16 ≡ []
  other_cases e =
      none_from word_at 16 (r * 16)
      (λ j l h. let z : r * 16 + (j - r * 16) ≡ j = omega (arith, l) in ap is_head_word (ap word_at (sym z) ∙ word_at_lem (j - r * 16) (omega (arith, l, h)) ∙ go (is_free marks r) (is_new_at fixed marks r (root_ident fixed r)) e (j - r * 16)))
    where
      go : (a b : Bool) → a && b ≡ false → (c : ℕ) → pick a (pick b (count_word (smallest_from fixed marks (root_ident fixed r) 0 64) c (root_ident fixed r)) 33554432) 33554432 ≡ 33554432
      go true true q c = never (cc)
      go true false q c = refl
      go false b q c = refl

  module _ (i : ℕ) (is : root_ident fixed r ≡ i) (few : i ≤ 1023) (new : is_free marks r && is_new_at fixed marks r (root_ident fixed r) ≡ true) where
    abbrev least : ℕ
    least = smallest_from fixed marks i 0 64

    counted : (c : ℕ) → c < 16 → word_at (r * 16 + c) ≡ count_word least c i
    counted c l = word_at_lem c l ∙ go (is_free marks r) (is_new_at fixed marks r (root_ident fixed r)) new ∙ rw is
      where
        go : (a b : Bool) → a && b ≡ true
            → pick a (pick b (count_word (smallest_from fixed marks (root_ident fixed r) 0 64) c (root_ident fixed r)) 33554432) 33554432 ≡ count_word (smallest_from fixed marks (root_ident fixed r) 0 64) c (root_ident fixed r)
        go true true q = refl
        go true false q = never (cc)
        go false b q = never (cc)

    high : (m c : ℕ) → c + m ≡ 16 → least ≤ c → heads_from word_at (r * 16 + c) m ≡ head_words (counts_from i c m)
    high zero c e l = heads_end word_at (r * 16 + c) ∙ sym (ap head_words (no_counts i c) ∙ words_none)
    high (suc m) c e l =
        let w : word_at (r * 16 + c) ≡ c * 65536 + i = counted c (omega arith) ∙ rw (le-leb least c l) in
        let z : suc (r * 16 + c) ≡ r * 16 + suc c = omega arith in
        let h : is_head_word (word_at (r * 16 + c)) ≡ true = ap is_head_word w ∙ rw (ne_eqb (c * 65536 + i) 33554432 (λ q. omega (arith, q, e, few))) in
        heads_step word_at (r * 16 + c) m h ∙ ap₂ ◌∷◌ (w ∙ sym (word_symbol i c)) (ap (λ (k : ℕ). heads_from word_at k m) z ∙ high m (suc c) (omega arith) (omega arith))
        ∙ sym (ap head_words (more_counts i c m) ∙ words_more (symbol i c) (counts_from i (suc c) m))

    low : heads_from word_at (r * 16) least ≡ []
    low =
        none_from word_at least (r * 16)
        (λ j l h. let z : r * 16 + (j - r * 16) ≡ j = omega (arith, l) in
        ap is_head_word (ap word_at (sym z) ∙ counted (j - r * 16) (omega (arith, l, h, smallest_most fixed marks i 64 0)) ∙ fewer (j - r * 16) (omega (arith, l, h))))
      where
        fewer : (c : ℕ) → c < least → count_word least c i ≡ 33554432
        fewer c l = rw (lt-leb least c l)

    -- the row in which the symbol first appears has all its cases
    own_cases_lem : heads_from word_at (r * 16) 16 ≡ head_words (counts_from i least (16 - least))
    own_cases_lem =
        let z : 16 ≡ least + (16 - least) = omega (arith, smallest_most fixed marks i 64 0) in
        ap (heads_from word_at (r * 16)) z ∙ heads_split word_at least (16 - least) (r * 16) ∙ rw low (high (16 - least) least (sym z) (omega arith))

words_join : (hs gs : List Head) → head_words (hs ++ gs) ≡ head_words hs ++ head_words gs
words_join [] gs = rw words_none
words_join (h ∷ hs) gs = words_more h (hs ++ gs) ∙ rw (words_more h hs, words_join hs gs)

-- ---- THE LAWS of the root's heads
module _ (book fixed nums marks : List ℕ) (count : ℕ) (path : OnPath) (s : Stands book fixed nums marks count path) where
  abbrev rows_from : ℕ → ℕ → List RuleRow
  rows_from r more = rows_left book marks r more

  smallest_is : (i more r : ℕ) → r + more ≤ 64 → smallest_from fixed marks i r more ≡ smallest i (rows_from r more)
  smallest_is i zero r l = smallest_zero fixed marks i r ∙ sym (ap (smallest i) (rows_ended book marks r) ∙ smallest_none i)
  smallest_is i (suc more) r l = smallest_next fixed marks i r more ∙ go (is_free marks r) refl (rule_at book r) refl (smallest_is i more (suc r) (omega arith)) ∙ sym (ap (smallest i) (rows_step book marks r more))
    where
      go : (a : Bool) → is_free marks r ≡ a → (o : Option Rule) → rule_at book r ≡ o → smallest_from fixed marks i (suc r) more ≡ smallest i (rows_from (suc r) more)
          → lesser_of (is_free marks r && eqb (root_ident fixed r) i) (size_at fixed (r * 64)) (smallest_from fixed marks i (suc r) more)
          ≡ smallest i (row_if (is_free marks r) (root_has marks) r (rule_at book r) (rows_from (suc r) more))
      go false f o e q = rw f q
      go true f none e q = never (let z = s.absent r (omega arith) e in cc)
      go true f (some rule) e q = rw (f, e) (there (root_symbol_lem book fixed nums marks count path s r rule (omega arith) f e))
        where
          there : RootSymbol fixed r (left_in rule)
              → lesser_of (true && eqb (root_ident fixed r) i) (size_at fixed (r * 64)) (smallest_from fixed marks i (suc r) more) ≡ smallest i (row_of_rule marks r rule ∷ rows_from (suc r) more)
          there t = rw (t.idents, t.counts, q) (sym (smallest_row i (row_of_rule marks r rule) (rows_from (suc r) more) ∙ ap (λ (x : Left). lesser (head_here x) i (smallest i (rows_from (suc r) more))) t.is))

  symbols_are : (more r : ℕ) → r + more ≤ 64 → kept_ids (is_new_at fixed marks r) (root_symbols (rows_from r more)) ≡ symbols_from fixed marks r more
  symbols_are zero r l = ap (kept_ids (is_new_at fixed marks r)) (ap root_symbols (rows_ended book marks r) ∙ symbols_none) ∙ kept_none (is_new_at fixed marks r) ∙ sym (symbols_end fixed marks r)
  symbols_are (suc more) r l =
      ap (λ (rows : List RuleRow). kept_ids (is_new_at fixed marks r) (root_symbols rows)) (rows_step book marks r more) ∙ go (is_free marks r) refl (rule_at book r) refl (symbols_are more (suc r) (omega arith))
      ∙ sym (symbols_step fixed marks r more)
    where
      go : (a : Bool) → is_free marks r ≡ a → (o : Option Rule) → rule_at book r ≡ o → kept_ids (is_new_at fixed marks (suc r)) (root_symbols (rows_from (suc r) more)) ≡ symbols_from fixed marks (suc r) more
          → kept_ids (is_new_at fixed marks r) (root_symbols (row_if a (root_has marks) r o (rows_from (suc r) more)))
          ≡ pick (a && is_new_at fixed marks r (root_ident fixed r)) (root_ident fixed r ∷ symbols_from fixed marks (suc r) more) (symbols_from fixed marks (suc r) more)
      go false f o e q = kept_same (is_new_at fixed marks r) (is_new_at fixed marks (suc r)) (new_struck fixed marks r f) (root_symbols (rows_from (suc r) more)) ∙ q
      go true f none e q = never (let z = s.absent r (omega arith) e in cc)
      go true f (some rule) e q = there (root_symbol_lem book fixed nums marks count path s r rule (omega arith) f e)
        where
          there : RootSymbol fixed r (left_in rule) → kept_ids (is_new_at fixed marks r) (root_symbols (row_of_rule marks r rule ∷ rows_from (suc r) more))
              ≡ pick (true && is_new_at fixed marks r (root_ident fixed r)) (root_ident fixed r ∷ symbols_from fixed marks (suc r) more) (symbols_from fixed marks (suc r) more)
          there t =
              ap (kept_ids (is_new_at fixed marks r))
              (symbols_row (row_of_rule marks r rule) (rows_from (suc r) more) ∙ ap (λ (x : Left). add_symbol (head_here x) (root_symbols (rows_from (suc r) more))) t.is
              ∙ ap (λ (x : ℕ). x ∷ without_id x (root_symbols (rows_from (suc r) more))) (sym t.idents))
              ∙ kept_first (is_new_at fixed marks r) (root_ident fixed r) (without_id (root_ident fixed r) (root_symbols (rows_from (suc r) more)))
              ∙ ap (λ (is : List ℕ). pick (is_new_at fixed marks r (root_ident fixed r)) (root_ident fixed r ∷ is) is)
              (kept_without (is_new_at fixed marks r) (is_new_at fixed marks (suc r)) (root_ident fixed r) (new_free fixed marks r f) (root_symbols (rows_from (suc r) more)) ∙ q)

  all_symbols : root_symbols (rows_from 0 64) ≡ symbols_from fixed marks 0 64
  all_symbols = sym (kept_all (is_new_at fixed marks 0) (new_start fixed marks) (root_symbols (rows_from 0 64))) ∙ symbols_are 64 0 (omega arith)

  -- a new symbol is one that the table has
  new_table : (r : ℕ) → r < 64 → is_free marks r ≡ true → root_ident fixed r ≤ 1023
  new_table r l f = go (rule_at book r) refl
    where
      go : (o : Option Rule) → rule_at book r ≡ o → root_ident fixed r ≤ 1023
      go none e = never (let z = s.absent r l e in cc)
      go (some rule) e = let t = root_symbol_lem book fixed nums marks count path s r rule l f e in omega (arith, t.idents, (symbol_few t.ident t.arguments t.table).1)

  heads_are : (more r : ℕ) → r + more ≤ 64 → head_words (heads_of (rows_from 0 64) (symbols_from fixed marks r more)) ≡ heads_from (root_word fixed marks) (r * 16) (more * 16)
  heads_are zero r l = ap (λ (is : List ℕ). head_words (heads_of (rows_from 0 64) is)) (symbols_end fixed marks r) ∙ ap head_words (heads_of_none (rows_from 0 64)) ∙ words_none ∙ sym (heads_end (root_word fixed marks) (r * 16))
  heads_are (suc more) r l =
      let z : suc more * 16 ≡ 16 + more * 16 = omega arith in
      let y : r * 16 + 16 ≡ suc r * 16 = omega arith in
      ap (λ (is : List ℕ). head_words (heads_of (rows_from 0 64) is)) (symbols_step fixed marks r more)
      ∙ go (is_free marks r && is_new_at fixed marks r (root_ident fixed r)) refl (heads_are more (suc r) (omega arith))
      ∙ sym (ap (heads_from (root_word fixed marks) (r * 16)) z ∙ heads_split (root_word fixed marks) 16 (more * 16) (r * 16) ∙ ap (λ (k : ℕ). heads_from (root_word fixed marks) (r * 16) 16 ++ heads_from (root_word fixed marks) k (more * 16)) y)
    where
      free_of : (a b : Bool) → a && b ≡ true → a ≡ true
      free_of true b e = refl
      free_of false b e = never (cc)

      go : (b : Bool) → is_free marks r && is_new_at fixed marks r (root_ident fixed r) ≡ b → head_words (heads_of (rows_from 0 64) (symbols_from fixed marks (suc r) more)) ≡ heads_from (root_word fixed marks) (suc r * 16) (more * 16)
          → head_words (heads_of (rows_from 0 64) (pick b (root_ident fixed r ∷ symbols_from fixed marks (suc r) more) (symbols_from fixed marks (suc r) more)))
          ≡ heads_from (root_word fixed marks) (r * 16) 16 ++ heads_from (root_word fixed marks) (suc r * 16) (more * 16)
      go true e q =
          let f = free_of (is_free marks r) (is_new_at fixed marks r (root_ident fixed r)) e in
          let c = own_cases_lem fixed marks r (root_ident fixed r) refl (new_table r (omega arith) f) e in
          let least : smallest_from fixed marks (root_ident fixed r) 0 64 ≡ smallest (root_ident fixed r) (rows_from 0 64) = smallest_is (root_ident fixed r) 64 0 (omega arith) in
          ap head_words (heads_of_more (rows_from 0 64) (root_ident fixed r) (symbols_from fixed marks (suc r) more))
          ∙ words_join (counts_from (root_ident fixed r) (smallest (root_ident fixed r) (rows_from 0 64)) (16 - smallest (root_ident fixed r) (rows_from 0 64))) (heads_of (rows_from 0 64) (symbols_from fixed marks (suc r) more))
          ∙ ap₂ ◌++◌ (ap (λ (n : ℕ). head_words (counts_from (root_ident fixed r) n (16 - n))) (sym least) ∙ sym c) q
      go false e q = q ∙ ap (◌++ heads_from (root_word fixed marks) (suc r * 16) (more * 16)) (sym (other_cases fixed marks r e))

  pub root_words_lem : head_words (root_heads (rows_from 0 64)) ≡ heads_from (root_word fixed marks) 0 1024
  root_words_lem = ap head_words (root_heads_are (rows_from 0 64) ∙ ap (heads_of (rows_from 0 64)) all_symbols) ∙ heads_are 64 0 (omega arith)

  roots_in : (more r : ℕ) → r + more ≤ 64 → RootsIn (rows_from r more)
  roots_in zero r l = rw (rows_ended book marks r) tt
  roots_in (suc more) r l = rw (rows_step book marks r more) (go (is_free marks r) refl (rule_at book r) refl (roots_in more (suc r) (omega arith)))
    where
      go : (a : Bool) → is_free marks r ≡ a → (o : Option Rule) → rule_at book r ≡ o → RootsIn (rows_from (suc r) more) → RootsIn (row_if a (root_has marks) r o (rows_from (suc r) more))
      go false f o e q = q
      go true f none e q = q
      go true f (some rule) e q = (there (root_symbol_lem book fixed nums marks count path s r rule (omega arith) f e), q)
        where
          there : RootSymbol fixed r (left_in rule) → HeadIn (head_here (left_in rule))
          there t = rw t.is t.table

  pub root_tables : InTables (root_heads (rows_from 0 64))
  root_tables = root_heads_table (rows_from 0 64) (roots_in 64 0 (omega arith))

  pub root_many : length (root_heads (rows_from 0 64)) ≡ count_roots fixed marks
  unfolding count_roots
  root_many = sym (words_many (root_heads (rows_from 0 64))) ∙ ap length root_words_lem ∙ sym (many_heads (root_word fixed marks) 1024 0)

  -- the head of a case
  pub root_head_lem : (k w : ℕ) → k < 1024 → w ≡ root_word fixed marks k → is_head_word w ≡ true → RootHead w
  root_head_lem k w l e h =
      let z : k / 16 * 16 + k % 16 ≡ k = omega arith in
      let q : w ≡ root_word fixed marks (k / 16 * 16 + k % 16) = e ∙ ap (root_word fixed marks) (sym z) in
      go (is_free marks (k / 16)) refl (is_new_at fixed marks (k / 16) (root_ident fixed (k / 16))) (leb (smallest_from fixed marks (root_ident fixed (k / 16)) 0 64) (k % 16)) (q ∙ word_at_lem fixed marks (k / 16) (k % 16) (omega arith))
    where
      go : (a : Bool) → is_free marks (k / 16) ≡ a → (b c : Bool) → w ≡ pick a (pick b (pick c (k % 16 * 65536 + root_ident fixed (k / 16)) 33554432) 33554432) 33554432 → RootHead w
      go true f true true q =
          record {
            ident = root_ident fixed (k / 16);
            arguments = k % 16;
            few = omega arith;
            low = new_table (k / 16) (omega arith) f;
            is = word_symbol (root_ident fixed (k / 16)) (k % 16) ∙ sym q;
          }
      go true f true false q = never (let y : is_head_word w ≡ false = ap is_head_word q in cc)
      go true f false c q = never (let y : is_head_word w ≡ false = ap is_head_word q in cc)
      go false f b c q = never (let y : is_head_word w ≡ false = ap is_head_word q in cc)
