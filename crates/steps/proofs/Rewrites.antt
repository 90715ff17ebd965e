-- A part rewritten: the walk with the book gives a rule of the book and its bodies one after the other, so its right side is written from them.
use mathlib.Core.Path.{◌≡◌, refl, sym, ap, ◌∙◌}
use mathlib.Core.Bool.{true}
use mathlib.Core.List.{List, ◌++◌, append_assoc}
use mathlib.Core.Option.{none, some}
use Prim.Native.Nat.{ℕ, zero, suc, ◌+◌, ◌-◌, ◌≤◌, ◌<◌}
use native.Mathlib.Omega.{arith}
use lib.ListN.{length, get_or, take, drop, replicate, length-append, length-drop, length-replicate, replicate-append-replicate}
use lib.Seq.{length-take-le, get_or-take, drop-cons, take-append_seam, drop-append_seam, drop-append-add}
use Rattle.term.specs.Word.{symbol, abstraction, variable, pattern, count_of}
use Rattle.term.specs.Row.{Row, nothing, node, words, nesting, Formed}
use Rattle.term.proofs.Laws.{never, zero_at, words_node, count_word_lem, formed_node}
use Rattle.book.specs.declared.book.Sides.{Sides}
use Rattle.book.specs.Rule.{root_symbol, side_limits}
use Rattle.book.specs.Book.{Rule, check_book, rule_at}
use Rattle.book.specs.Told.Found.{sides_at}
use Rattle.book.proofs.Laws.{SidesAre, sides_rule, sides_none, book_rule, root_nothing, root_abstraction, root_variable, root_pattern}
use Rattle.fit.specs.Left.{left_of}
use Rattle.fit.specs.Fit.{IsBody}
use Rattle.fit.specs.Match.{tree_of, left_in, body_list, length_list}
use Rattle.fit.specs.Lowest.{Fitting}
use Rattle.fit.specs.Front.{root_arguments}
use Rattle.fit.specs.Build.{start_of, words_at}
use Rattle.fit.proofs.Laws.{tree_of_lem, left_in_lem, left_of_symbol, root_arguments_lem, bodies_none, bodies_more, lengths_none, lengths_more, start_none, start_more, words_at_are}
use Rattle.tree.specs.Find.{root_count}
use Rattle.walk.specs.Walk.{Walked, RuleFits, book_fits}
use Rattle.walk.specs.Told.State.{part_from, Parted}
use Rattle.walk.specs.Told.WithBook.{book_walk, BookWalked}
use Rattle.walk.proofs.Laws.{FoundSound, walk_sound, fits_rule, parted_body, walked_none, walked_damaged, walked_rule_lem}
use Rattle.steps.specs.Rewrite.{many_aside, rewritten}
use Rattle.steps.specs.Told.RightWalk.{BodiesStand}
use Rattle.std.specs.Prelude.{Some, None, Result, Err, Ok}
use Rattle.term.specs.declared.answer.Answer.{Answer}
use Rattle.term.specs.declared.answer.Answer.TheVariants as answer
use Rattle.steps.specs.Told.Operations.{Cleared, TakenTold, FrontWritten, RuleWritten, RewriteTold}
use Rattle.steps.proofs.RightRows.{parameters_of, accepted_right}
use Rattle.steps.proofs.Shaped.{some_long}

-- ---- bodies one after the other, with zeros after them
length_next : (b : ℕ → Row) (y n : ℕ) → length (body_list b y (suc n)) ≡ length (words (b y)) + length (body_list b (suc y) n)
length_next b y n = ap length (bodies_more b y n) ∙ length-append (words (b y)) (body_list b (suc y) n)

length_more : (b : ℕ → Row) (y x : ℕ) → length (body_list b y (suc x)) ≡ length (body_list b y x) + length (words (b (y + x)))
length_more b y zero =
    let z : y + 0 ≡ y = omega arith in
    let e : length (body_list b y 0) ≡ 0 = ap length (bodies_none b y) in
    let f : length (body_list b (suc y) 0) ≡ 0 = ap length (bodies_none b (suc y)) in
    rw z (omega (arith, length_next b y 0, e, f))
length_more b y (suc x) =
    let z : suc y + x ≡ y + suc x = omega arith in
    let r : length (body_list b (suc y) (suc x)) ≡ length (body_list b (suc y) x) + length (words (b (y + suc x))) = rw z at (length_more b (suc y) x) in
    omega (arith, r, length_next b y (suc x), length_next b y x)

length_at : (b : ℕ → Row) (zs : List ℕ) (y n x : ℕ) → x < n → get_or (length_list b y n ++ zs) x 0 ≡ length (words (b (y + x)))
length_at b zs y zero x l = absurd (omega arith)
length_at b zs y (suc n) zero l = let z : y + 0 ≡ y = omega arith in rw (z, lengths_more b y n)
length_at b zs y (suc n) (suc x) l =
    let z : suc y + x ≡ y + suc x = omega arith in
    let r : get_or (length_list b (suc y) n ++ zs) x 0 ≡ length (words (b (y + suc x))) = rw z at (length_at b zs (suc y) n x (omega arith)) in
    rw (lengths_more b y n) r

words_there : (b : ℕ → Row) (zs : List ℕ) (y n x : ℕ) → x < n → take (length (words (b (y + x)))) (drop (length (body_list b y x)) (body_list b y n ++ zs)) ≡ words (b (y + x))
words_there b zs y zero x l = absurd (omega arith)
words_there b zs y (suc n) zero l =
    let z : y + 0 ≡ y = omega arith in
    rw (z, bodies_none b y, bodies_more b y n, append_assoc (words (b y)) (body_list b (suc y) n) zs) (take-append_seam (words (b y)) (body_list b (suc y) n ++ zs))
words_there b zs y (suc n) (suc x) l =
    let z : suc y + x ≡ y + suc x = omega arith in
    let e : drop (length (body_list b y (suc x))) (body_list b y (suc n) ++ zs) ≡ drop (length (body_list b (suc y) x)) (body_list b (suc y) n ++ zs) =
    rw (length_next b y x, bodies_more b y n, append_assoc (words (b y)) (body_list b (suc y) n) zs) (drop-append-add (words (b y)) (body_list b (suc y) n ++ zs) (length (body_list b (suc y) x))) in
    rw e (rw z at (words_there b zs (suc y) n x (omega arith)))

module _ (b : ℕ → Row) (n : ℕ) (zs os : List ℕ) where
  starts : (x : ℕ) → x ≤ n → start_of (length_list b 0 n ++ os) x ≡ length (body_list b 0 x)
  starts zero l = start_none (length_list b 0 n ++ os) ∙ sym (ap length (bodies_none b 0))
  starts (suc x) l =
      let z : 0 + x ≡ x = omega arith in
      let m : length (body_list b 0 (suc x)) ≡ length (body_list b 0 x) + length (words (b x)) = rw z at (length_more b 0 x) in
      let g : get_or (length_list b 0 n ++ os) x 0 ≡ length (words (b x)) = rw z at (length_at b os 0 n x (omega arith)) in
      omega (arith, start_more (length_list b 0 n ++ os) x, m, g, starts x (omega arith))

  stands_at : (x : ℕ) → x < n → words (b x) ≡ words_at (body_list b 0 n ++ zs) (length_list b 0 n ++ os) x
  stands_at x l =
      let z : 0 + x ≡ x = omega arith in
      let g : get_or (length_list b 0 n ++ os) x 0 ≡ length (words (b x)) = rw z at (length_at b os 0 n x l) in
      let w : take (length (words (b x))) (drop (length (body_list b 0 x)) (body_list b 0 n ++ zs)) ≡ words (b x) = rw z at (words_there b zs 0 n x l) in
      sym (words_at_are (body_list b 0 n ++ zs) (length_list b 0 n ++ os) x ∙ rw (g, starts x (omega arith)) w)

-- ---- the words that the bodies used are all that is to be cleared
-- a cleared slice knows its length
pub zeros_long : (out : List ℕ) (room : ℕ) → out ≡ replicate room 0 → length out ≡ room
zeros_long out room e = ap length e ∙ length-replicate {A = ℕ} room 0

length_past : (b : ℕ → Row) (os : List ℕ) (y n x : ℕ) → get_or (length_list b y n ++ os) (n + x) 0 ≡ get_or os x 0
length_past b os y zero x = let z : 0 + x ≡ x = omega arith in rw (z, lengths_none b y)
length_past b os y (suc n) x = let z : suc n + x ≡ suc (n + x) = omega arith in rw (z, lengths_more b y n) (length_past b os (suc y) n x)

many_lengths : (b : ℕ → Row) (y n : ℕ) → length (length_list b y n) ≡ n
many_lengths b y zero = ap length (lengths_none b y)
many_lengths b y (suc n) = ap length (lengths_more b y n) ∙ ap suc (many_lengths b (suc y) n)

module _ (b : ℕ → Row) (n : ℕ) where
  start_past : (more k : ℕ) → start_of (length_list b 0 n ++ replicate more 0) (n + k) ≡ length (body_list b 0 n)
  start_past more zero = let z : n + 0 ≡ n = omega arith in rw z (starts b n (replicate more 0) (replicate more 0) n (omega arith))
  start_past more (suc k) =
      let z : n + suc k ≡ suc (n + k) = omega arith in
      let ls = length_list b 0 n ++ replicate more 0 in
      rw z (omega (arith, start_more ls (n + k), length_past b (replicate more 0) 0 n k, zero_at more k, start_past more k))

  abbrev used : ℕ
  used = length (body_list b 0 n)

  module _ (bodies lengths : List ℕ) (e : bodies ≡ body_list b 0 n ++ replicate (65536 - length (body_list b 0 n)) 0) (l : lengths ≡ length_list b 0 n ++ replicate (16 - n) 0)
      (long : length bodies ≡ 65536) (sixteen : length lengths ≡ 16) where
    few_bodies : n ≤ 16
    few_bodies = omega (arith, sixteen, ap length l, length-append (length_list b 0 n) (replicate (16 - n) 0), many_lengths b 0 n, length-replicate {A = ℕ} (16 - n) 0)

    used_is : start_of lengths 16 ≡ used
    used_is = let z : n + (16 - n) ≡ 16 = omega (arith, few_bodies) in ap (λ (ls : List ℕ). start_of ls 16) l ∙ rw z at (start_past (16 - n) (16 - n))

    used_few : used ≤ 65536
    used_few = omega (arith, long, ap length e, length-append (body_list b 0 n) (replicate (65536 - used) 0))

    rest_zeros : replicate used 0 ++ drop used bodies ≡ replicate 65536 0
    rest_zeros =
        let z : used + (65536 - used) ≡ 65536 = omega (arith, used_few) in
        ap (λ (ws : List ℕ). replicate used 0 ++ drop used ws) e
        ∙ ap (λ (ws : List ℕ). replicate used 0 ++ ws) (drop-append_seam (body_list b 0 n) (replicate (65536 - used) 0))
        ∙ replicate-append-replicate used (65536 - used) 0
        ∙ ap (λ (k : ℕ). replicate k 0) z

    used_zeros : (start_of lengths 16 ≤ length bodies) × (replicate (start_of lengths 16) 0 ++ drop (start_of lengths 16) bodies ≡ replicate 65536 0)
    used_zeros = rw used_is (omega (arith, used_few, long), rest_zeros)

pub used_cleared : (w : Walked) (number : ℕ) (bodies lengths : List ℕ) → BookWalked w (Ok (Some number)) bodies lengths → length bodies ≡ 65536 → length lengths ≡ 16
    → (start_of lengths 16 ≤ length bodies) × (replicate (start_of lengths 16) 0 ++ drop (start_of lengths 16) bodies ≡ replicate 65536 0)
used_cleared w number bodies lengths k long sixteen = let q = walked_rule_lem w number bodies lengths k in used_zeros q.0.bodies q.1 bodies lengths q.4 q.5 long sixteen

-- ---- how many arguments the root of a left side has, by its first word
root_counts : (t : Row) → Formed t → root_symbol t ≡ true → root_arguments (left_of t) ≡ count_of (get_or (words t) 0 0)
root_counts nothing f e = never (let z = root_nothing in cc)
root_counts (node (symbol i c) kids rest) f e =
    ap root_arguments (left_of_symbol i c kids rest)
    ∙ root_arguments_lem (symbol i c) (left_of kids) (left_of rest)
    ∙ sym (ap (λ (ws : List ℕ). count_of (get_or ws 0 0)) (words_node (symbol i c) kids rest) ∙ count_word_lem (symbol i c) (formed_node (symbol i c) kids rest f).table)
root_counts (node abstraction kids rest) f e = never (let z = root_abstraction kids rest in cc)
root_counts (node (variable i) kids rest) f e = never (let z = root_variable i kids rest in cc)
root_counts (node (pattern x c) kids rest) f e = never (let z = root_pattern x c kids rest in cc)

first_word : (ws side : List ℕ) (from n : ℕ) → take n (drop from ws) ≡ side → 0 < length side → from < length ws → 0 < n → get_or ws from 0 ≡ get_or side 0 0
first_word ws side from n e l h m =
    sym (ap (λ (k : List ℕ). get_or k 0 0) (sym e) ∙ get_or-take n (drop from ws) 0 0 m ∙ ap (λ (k : List ℕ). get_or k 0 0) (drop-cons ws from 0 h))

-- ---- the right side of a rule, with the arguments that it sets aside
module _ (book : List ℕ) (accepted : check_book book ≡ Ok tt) (number : ℕ) (part bodies lengths out : List ℕ) where
  pub rule_absent : sides_at book number ≡ None → (r : Result ℕ Answer) → RuleWritten book number part bodies lengths out r
  unfolding RuleWritten
  rule_absent e r rule q = let z : rule_at book number ≡ none = sides_none book number e in never (cc)

  module _ (s : Sides) (e : sides_at book number ≡ Some s) where
    pub right_lies : (s.right ≤ s.end) × (s.end ≤ length book)
    right_lies = let q = (sides_rule book number s e).2 in (q.right_next, q.within)

    abbrev rule_there : (rule : Rule) × (rule_at book number ≡ some rule) × SidesAre book rule s
    rule_there = sides_rule book number s e

    left_some : (s.left < s.right) × (0 < length rule_there.0.left)
    left_some =
        let q = rule_there.2 in
        let i = (book_rule book number rule_there.0 accepted rule_there.1).left_tree in
        let n : 0 < length rule_there.0.left = omega (arith, ap length i.same, some_long i.tree i.one) in
        let m : length (take (s.right - s.left) (drop s.left book)) ≡ s.right - s.left =
        length-take-le (s.right - s.left) (drop s.left book) (omega (arith, length-drop s.left book, q.left_first, q.right_next, q.within)) in
        (omega (arith, n, m, ap length q.left_is), n)

    pub left_lies : s.left < length book
    left_lies = let q = rule_there.2 in omega (arith, left_some.0, q.right_next, q.within)

    left_counts : root_arguments (left_in rule_there.0) ≡ count_of (get_or book s.left 0)
    left_counts =
        let f = book_rule book number rule_there.0 accepted rule_there.1 in
        let i = f.left_tree in
        ap root_arguments (left_in_lem rule_there.0 i)
        ∙ root_counts i.tree i.formed f.left_root
        ∙ ap (λ (ws : List ℕ). count_of (get_or ws 0 0)) (sym i.same)
        ∙ ap count_of (sym (first_word book rule_there.0.left s.left (s.right - s.left) rule_there.2.left_is left_some.1 left_lies (omega (arith, left_some.0))))

    pub rule_written : (b : ℕ) → b ≡ count_of (get_or book s.left 0) → (r : Result ℕ Answer) → FrontWritten (take (s.end - s.right) (drop s.right book)) b part bodies lengths out r
        → RuleWritten book number part bodies lengths out r
    unfolding RuleWritten
    rule_written b c r w rule q =
        let a = rule_there in
        let i : a.0 ≡ rule = some_same a.0 rule (sym a.1 ∙ q) in
        rw (← i) (rw (a.2.right_is, c ∙ sym left_counts) at w)
      where
        some_same : (u v : Rule) → some u ≡ some v → u ≡ v
        some_same u v z = cc

-- ---- a part
module _ (book : List ℕ) where
  pub at_none : (t : Row) (w : Walked) (bodies lengths out : List ℕ) → BookWalked w (Ok None) bodies lengths → RewriteTold book t w out None × Cleared bodies lengths
  unfolding RewriteTold
  at_none t w bodies lengths out b = let q = walked_none w bodies lengths b in (rw q.0 refl, (q.1, q.2))

  pub at_damaged : (t : Row) (w : Walked) (address : ℕ) (bodies lengths out : List ℕ) → BookWalked w (Err address) bodies lengths → RewriteTold book t w out (Some (Err (answer.Damaged address))) × Cleared bodies lengths
  unfolding RewriteTold
  at_damaged t w address bodies lengths out b = let q = walked_damaged w address bodies lengths b in (rw q.0 refl, (q.1, q.2))

  module _ (accepted : check_book book ≡ Ok tt) (table ws : List ℕ) (parted : Parted ws) (some_words : 0 < length ws) where
    rule_told : (f : Fitting) (n : ℕ) (rule : Rule) → rule_at book f.number ≡ some rule → n ≡ rule.vars → ((x : ℕ) → x < n → IsBody (f.bodies x))
        → (bodies lengths : List ℕ) → bodies ≡ body_list f.bodies 0 n ++ replicate (65536 - length (body_list f.bodies 0 n)) 0 → lengths ≡ length_list f.bodies 0 n ++ replicate (16 - n) 0
        → (out : List ℕ) (r : Result ℕ Answer) → RuleWritten book f.number ws bodies lengths out r → TakenTold (many_aside book (part_from ws 0) f) (rewritten book (part_from ws 0) f) out r
    unfolding RuleWritten FrontWritten rewritten
    rule_told f n rule e vars terms bodies lengths b l out r w =
        let facts = book_rule book f.number rule accepted e in
        let right = facts.right_tree in
        let t : tree_of rule.right ≡ right.tree = tree_of_lem side_limits rule.right right in
        let a = accepted_right book accepted f.number rule e in
        let stand : BodiesStand rule.vars bodies lengths f.bodies =
        record {
          few = facts.few;
          body = λ x h. terms x (omega (arith, vars, h));
          same = λ x h. rw (b, l) (stands_at f.bodies n (replicate (65536 - length (body_list f.bodies 0 n)) 0) (replicate (16 - n) 0) x (omega (arith, vars, h)));
        } in
        let low : nesting (tree_of rule.right) ≤ 16 = rw t right.low in
        rw e (w rule e rule.vars (parameters_of rule.left) f.bodies (tree_of rule.right) a.0 a.1 low (ap words t ∙ sym right.same) stand)

    found_told : (f : Fitting) (n : ℕ) → FoundSound (book_fits book (root_count (part_from ws 0))) (RuleFits f n) → (bodies lengths : List ℕ) → bodies ≡ body_list f.bodies 0 n ++ replicate (65536 - length (body_list f.bodies 0 n)) 0
        → lengths ≡ length_list f.bodies 0 n ++ replicate (16 - n) 0 → (out : List ℕ) (r : Result ℕ Answer) → RuleWritten book f.number ws bodies lengths out r
        → TakenTold (many_aside book (part_from ws 0) f) (rewritten book (part_from ws 0) f) out r
    found_told f n fs bodies lengths b l out r w =
        let q = fits_rule book (root_count (part_from ws 0)) (record { rule = f.number; aside = f.aside; variables = fs.0 }) fs.2 in
        rule_told f n q.0 q.1 (sym fs.1 ∙ q.2) fs.3 bodies lengths b l out r w

    pub at_rule : (number : ℕ) (bodies lengths : List ℕ) → BookWalked (book_walk book table ws) (Ok (Some number)) bodies lengths → (out : List ℕ)
        → (r : Result ℕ Answer) → RuleWritten book number ws bodies lengths out r → RewriteTold book (part_from ws 0) (book_walk book table ws) out (Some r)
    unfolding RewriteTold
    at_rule number bodies lengths k out r w =
        let q = walked_rule_lem (book_walk book table ws) number bodies lengths k in
        go (book_walk book table ws) (walk_sound (book_fits book) table (part_from ws 0) (parted_body ws parted some_words)) q.0 q.1 q.2 q.3 q.4 q.5
      where
        go : (v : Walked) → FoundSound (book_fits book (root_count (part_from ws 0))) v → (f : Fitting) (n : ℕ) → v ≡ RuleFits f n → number ≡ f.number
            → bodies ≡ body_list f.bodies 0 n ++ replicate (65536 - length (body_list f.bodies 0 n)) 0 → lengths ≡ length_list f.bodies 0 n ++ replicate (16 - n) 0
            → RewriteTold book (part_from ws 0) v out (Some r)
        go v s f n e y b l = rw e (found_told f n (rw e at s) bodies lengths b l out r (rw y at w))
