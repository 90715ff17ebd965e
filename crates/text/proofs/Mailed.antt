-- The rules of a text that came by mail, one after the other: each takes bytes away, so that as many rules as bytes are always enough, and reading them is
-- one rule and then the rest. A text that says a book says its rules by mail too, since its numbers are the positions.
use mathlib.Core.Path.{◌≡◌, refl, ap, ◌∙◌}
use mathlib.Core.Bool.{Bool, true, false}
use mathlib.Core.List.{List, [], ◌∷◌, ◌++◌}
use mathlib.Core.Option.{Option, none, some}
use Prim.Native.Nat.{ℕ, zero, suc, ◌+◌, ◌*◌, ◌≤◌, ◌<◌}
use native.Mathlib.Omega.{arith}
use lib.Dec.{leb, eqb}
use lib.ListN.{length, length-append}
use borrow.Author.Tests.{leb-true, le-leb, lt-leb}
use Rattle.term.specs.Word.{pick}
use Rattle.term.proofs.Laws.{never}
use Rattle.book.specs.Book.{together, book_of}
use Rattle.book.proofs.Laws.{Whole, AllWhole, whole_words, together_nothing, together_rule, book_words}
use Rattle.text.specs.Number.{Read}
use Rattle.text.specs.TermText.{Said, says, bad_line}
use Rattle.text.specs.BookText.{book_line, rules_key, rule_key, vars_key, left_key, right_key, number_text, side_text, keyed, number_line, side_line, Rules, rules_are, bad_at, right_then, left_then, vars_then, rule_then, rule_read, behind, then_rules, rules_read, count_then, book_then, book_read, book_alone, book_said}
use Rattle.text.specs.Mail.{any_then, any_rule_read, Present, rules_present, bad_present, and_present, present_then, present_in, present_read, Mail, mail_is, bad_mail, stating, stated_then, mail_then, mail_said}
use Rattle.text.proofs.BookLines.{key_is, number_line_back, number_line_is, side_line_is}

-- ---- one rule: its words, and how much shorter the text after it is
number_longer : (key : List ℕ) (n : ℕ) (rest : List ℕ) → length key + length rest ≤ length (number_text key n rest)
unfolding number_text
number_longer key n rest = simp length-append (omega arith)

side_longer : (key ws rest : List ℕ) → length key + length rest ≤ length (side_text key ws rest)
unfolding side_text
side_longer key ws rest = simp length-append (omega arith)

-- of the words of one rule, or of the line that is not in form
abbrev OneIs : ℕ → ℕ → Rules → Type 0
OneIs position bytes (rules_are ws rest) = Whole ws × (21 + length rest ≤ bytes)
OneIs position bytes (bad_at line) = line ≤ 4 * position + 6

module _ (position : ℕ) (bs : List ℕ) where
  right_one : (v : ℕ) (left after : List ℕ) → 15 + length after ≤ length bs → (o : Read (List ℕ)) → side_line right_key after ≡ o → OneIs position (length bs) (right_then position v left o)
  right_one v left after h none q = omega arith
  right_one v left after h (some p) q =
      let l = side_longer right_key p.0 p.1 in
      let e = ap length (side_line_is right_key after p.0 p.1 q).0 in
      (whole_words v left p.0, omega (arith, l, e, h))

  left_one : (v : ℕ) (after : List ℕ) → 10 + length after ≤ length bs → (o : Read (List ℕ)) → side_line left_key after ≡ o → OneIs position (length bs) (left_then position v o)
  left_one v after h none q = omega arith
  left_one v after h (some p) q =
      let l = side_longer left_key p.0 p.1 in
      let e = ap length (side_line_is left_key after p.0 p.1 q).0 in
      right_one v p.0 p.1 (omega (arith, l, e, h)) (side_line right_key p.1) refl

  vars_one : (after : List ℕ) → 5 + length after ≤ length bs → (o : Read ℕ) → number_line vars_key 16 after ≡ o → OneIs position (length bs) (vars_then position o)
  vars_one after h none q = omega arith
  vars_one after h (some p) q =
      let l = number_longer vars_key p.0 p.1 in
      let e = ap length (number_line_is vars_key 16 after p.0 p.1 q).0 in
      left_one p.0 p.1 (omega (arith, l, e, h)) (side_line left_key p.1) refl

  any_one : (o : Read ℕ) → number_line rule_key 65535 bs ≡ o → OneIs position (length bs) (any_then position o)
  any_one none q = omega arith
  any_one (some p) q =
      let l = number_longer rule_key p.0 p.1 in
      let e = ap length (number_line_is rule_key 65535 bs p.0 p.1 q).0 in
      vars_one p.1 (omega (arith, l, e)) (number_line vars_key 16 p.1) refl

  one_is : OneIs position (length bs) (any_rule_read position bs)
  unfolding any_rule_read
  one_is = any_one (number_line rule_key 65535 bs) refl

  pub rule_whole : (ws rest : List ℕ) → any_rule_read position bs ≡ rules_are ws rest → Whole ws × (21 + length rest ≤ length bs)
  rule_whole ws rest e = rw e at one_is

  pub line_within : (line : ℕ) → any_rule_read position bs ≡ bad_at line → line ≤ 4 * position + 6
  line_within line e = rw e at one_is

-- ---- as many rules as bytes are enough
then_same : (f g : List ℕ → Present) (o : Rules) → ((ws rest : List ℕ) → o ≡ rules_are ws rest → f rest ≡ g rest) → present_then f o ≡ present_then g o
then_same f g (rules_are ws rest) h = ap (and_present ws) (h ws rest refl)
then_same f g (bad_at line) h = refl

enough : (f g position : ℕ) (bs : List ℕ) → length bs ≤ f → length bs ≤ g → present_in f position bs ≡ present_in g position bs
unfolding present_in
enough zero zero position bs h k = refl
enough zero (suc g) position [] h k = refl
enough zero (suc g) position (b ∷ bs) h k = absurd (omega arith)
enough (suc f) zero position [] h k = refl
enough (suc f) zero position (b ∷ bs) h k = absurd (omega arith)
enough (suc f) (suc g) position [] h k = refl
enough (suc f) (suc g) position (b ∷ bs) h k =
    then_same (present_in f (suc position)) (present_in g (suc position)) (any_rule_read position (b ∷ bs))
    (λ ws rest e. let s = (rule_whole position (b ∷ bs) ws rest e).1 in enough f g (suc position) rest (omega (arith, s)) (omega (arith, s)))

pub present_end : (position : ℕ) → present_read position [] ≡ rules_present []
unfolding present_read present_in
present_end position = refl

pub present_bad : (position : ℕ) (bs : List ℕ) (line : ℕ) → 0 < length bs → any_rule_read position bs ≡ bad_at line → present_read position bs ≡ bad_present line
unfolding present_read present_in
present_bad position [] line h e = absurd (omega arith)
present_bad position (b ∷ bs) line h e = rw e

pub present_more : (position : ℕ) (bs ws rest : List ℕ) → 0 < length bs → any_rule_read position bs ≡ rules_are ws rest → present_read position bs ≡ and_present ws (present_read (suc position) rest)
unfolding present_read present_in
present_more position [] ws rest h e = absurd (omega arith)
present_more position (b ∷ bs) ws rest h e =
    let s = (rule_whole position (b ∷ bs) ws rest e).1 in
    rw e (ap (and_present ws) (enough (length bs) (length rest) (suc position) rest (omega (arith, s)) (omega arith)))

-- ---- all that are present
abbrev AllAre : ℕ → ℕ → Present → Type 0
AllAre position bytes (rules_present rules) = AllWhole rules × (21 * length rules ≤ bytes)
AllAre position bytes (bad_present line) = line ≤ 4 * position + 6 + bytes

and_all_lem : (position bytes left : ℕ) (ws : List ℕ) → Whole ws → 21 + left ≤ bytes → (o : Present) → AllAre (suc position) left o → AllAre position bytes (and_present ws o)
and_all_lem position bytes left ws w h (rules_present rules) a = ((w, a.0), omega (arith, a.1, h))
and_all_lem position bytes left ws w h (bad_present line) a = omega (arith, a, h)

then_all : (position : ℕ) (bs : List ℕ) (f : List ℕ → Present) → ((rest : List ℕ) → length rest < length bs → AllAre (suc position) (length rest) (f rest)) → (o : Rules)
    → OneIs position (length bs) o → AllAre position (length bs) (present_then f o)
then_all position bs f again (rules_are ws rest) i = and_all_lem position (length bs) (length rest) ws i.0 i.1 (f rest) (again rest (omega (arith, i.1)))
then_all position bs f again (bad_at line) i = omega (arith, i)

in_all : (most position : ℕ) (bs : List ℕ) → AllAre position (length bs) (present_in most position bs)
unfolding present_in
in_all zero position bs = (tt, omega arith)
in_all (suc most) position [] = (tt, omega arith)
in_all (suc most) position (b ∷ bs) =
    then_all position (b ∷ bs) (present_in most (suc position)) (λ rest h. in_all most (suc position) rest) (any_rule_read position (b ∷ bs)) (one_is position (b ∷ bs))

present_all : (position : ℕ) (bs : List ℕ) → AllAre position (length bs) (present_read position bs)
unfolding present_read
present_all position bs = in_all (length bs) position bs

-- ---- the whole text
pub record MailFacts (bytes stated : ℕ) (rules : List (List ℕ)) : Type 0 where
  pub whole : AllWhole rules
  pub few : 21 * length rules ≤ bytes
  pub within : stated ≤ 65535

abbrev MailAre : ℕ → Mail → Type 0
MailAre bytes (mail_is stated rules) = MailFacts bytes stated rules
MailAre bytes (bad_mail line) = line ≤ 6 + bytes

stating_are : (bytes left stated : ℕ) → stated ≤ 65535 → left ≤ bytes → (o : Present) → AllAre 0 left o → MailAre bytes (stating stated o)
stating_are bytes left stated s h (rules_present rules) a = record { whole = a.0; few = omega (arith, a.1); within = s }
stating_are bytes left stated s h (bad_present line) a = omega (arith, a)

stated_are : (bytes : ℕ) (bs : List ℕ) → length bs ≤ bytes → (o : Read ℕ) → number_line rules_key 65535 bs ≡ o → MailAre bytes (stated_then o)
stated_are bytes bs h none q = omega arith
stated_are bytes bs h (some p) q =
    let k = number_line_is rules_key 65535 bs p.0 p.1 q in
    let l = number_longer rules_key p.0 p.1 in
    let e = ap length k.0 in
    stating_are bytes (length p.1) p.0 k.1 (omega (arith, l, e, h)) (present_read 0 p.1) (present_all 0 p.1)

mail_then_are : (bs : List ℕ) (o : Option (List ℕ)) → keyed book_line bs ≡ o → MailAre (length bs) (mail_then o)
mail_then_are bs none q = omega arith
mail_then_are bs (some after) q = let e = ap length (key_is book_line bs after q) in stated_are (length bs) after (omega (arith, e)) (number_line rules_key 65535 after) refl

mail_are : (bs : List ℕ) → MailAre (length bs) (mail_said bs)
unfolding mail_said
mail_are bs = go (leb (length bs) 65536)
  where
    go : (b : Bool) → MailAre (length bs) (pick b (mail_then (keyed book_line bs)) (bad_mail 0))
    go true = mail_then_are bs (keyed book_line bs) refl
    go false = omega arith

pub mail_facts : (bs : List ℕ) (stated : ℕ) (rules : List (List ℕ)) → mail_said bs ≡ mail_is stated rules → MailFacts (length bs) stated rules
mail_facts bs stated rules e = rw e at (mail_are bs)

pub mail_line : (bs : List ℕ) (line : ℕ) → mail_said bs ≡ bad_mail line → line ≤ 6 + length bs
mail_line bs line e = rw e at (mail_are bs)

-- a text over 65,536 bytes says nothing
pub mail_bytes : (bs : List ℕ) (stated : ℕ) (rules : List (List ℕ)) → mail_said bs ≡ mail_is stated rules → length bs ≤ 65536
unfolding mail_said
mail_bytes bs stated rules e = go (leb (length bs) 65536) refl e
  where
    go : (b : Bool) → leb (length bs) 65536 ≡ b → pick b (mail_then (keyed book_line bs)) (bad_mail 0) ≡ mail_is stated rules → length bs ≤ 65536
    go true q z = leb-true (length bs) 65536 q
    go false q z = never (cc)

-- ---- what each way through the reading says
module _ (bs : List ℕ) where
  pub mail_long : 65536 < length bs → mail_said bs ≡ bad_mail 0
  unfolding mail_said
  mail_long h = rw (lt-leb (length bs) 65536 h)

  module _ (h : length bs ≤ 65536) where
    pub mail_no_book : keyed book_line bs ≡ none → mail_said bs ≡ bad_mail 1
    unfolding mail_said
    mail_no_book e = rw (le-leb (length bs) 65536 h, e)

    module _ (after : List ℕ) (k : keyed book_line bs ≡ some after) where
      pub mail_no_count : number_line rules_key 65535 after ≡ none → mail_said bs ≡ bad_mail 2
      unfolding mail_said
      mail_no_count e = rw (le-leb (length bs) 65536 h, k, e)

      pub mail_stating : (stated : ℕ) (rest : List ℕ) → number_line rules_key 65535 after ≡ some (stated, rest) → mail_said bs ≡ stating stated (present_read 0 rest)
      unfolding mail_said
      mail_stating stated rest e = rw (le-leb (length bs) 65536 h, k, e)

-- ---- a book's own text
number_wider : (key : List ℕ) (most n : ℕ) (bs rest : List ℕ) → most ≤ 65535 → number_line key most bs ≡ some (n, rest) → number_line key 65535 bs ≡ some (n, rest)
number_wider key most n bs rest h e =
    let k = number_line_is key most bs n rest e in
    ap (number_line key 65535) k.0 ∙ number_line_back key 65535 n rest (omega (arith, k.1))

any_strict : (number : ℕ) (bs ws rest : List ℕ) → rule_read number bs ≡ rules_are ws rest → any_rule_read number bs ≡ rules_are ws rest
unfolding rule_read any_rule_read
any_strict number bs ws rest e = go (number_line rule_key 63 bs) refl e
  where
    go : (o : Read ℕ) → number_line rule_key 63 bs ≡ o → rule_then number o ≡ rules_are ws rest → any_then number (number_line rule_key 65535 bs) ≡ rules_are ws rest
    go none q z = never (cc)
    go (some p) q z = same (eqb p.0 number) z
      where
        same : (b : Bool) → pick b (vars_then number (number_line vars_key 16 p.1)) (bad_at (4 * number + 3)) ≡ rules_are ws rest → any_then number (number_line rule_key 65535 bs) ≡ rules_are ws rest
        same true y = rw (number_wider rule_key 63 p.0 bs p.1 (omega arith) q) y
        same false y = never (cc)

-- so many rules in words, as they are read by mail where the text ends after them
abbrev ByMail : ℕ → ℕ → List ℕ → List ℕ → Type 0
ByMail number more bs ws = (rules : List (List ℕ)) × (present_read number bs ≡ rules_present rules) × (together rules ≡ ws) × (length rules ≡ more)

abbrev StrictBy : ℕ → ℕ → List ℕ → Rules → Type 0
StrictBy number more bs (rules_are ws []) = ByMail number more bs ws
StrictBy number more bs (rules_are ws (b ∷ rest)) = Unit {0}
StrictBy number more bs (bad_at line) = Unit {0}

behind_by : (number more : ℕ) (bs vs after : List ℕ) → 0 < length bs → any_rule_read number bs ≡ rules_are vs after → (o : Rules) → StrictBy (suc number) more after o
    → StrictBy number (suc more) bs (behind vs o)
behind_by number more bs vs after h e (rules_are ws []) t = (
  vs ∷ t.0,
  present_more number bs vs after h e ∙ rw t.1,
  together_rule vs t.0 ∙ ap (λ (x : List ℕ). vs ++ x) t.2,
  ap suc t.3,
)
behind_by number more bs vs after h e (rules_are ws (b ∷ rest)) t = tt
behind_by number more bs vs after h e (bad_at line) t = tt

then_by : (number more : ℕ) (bs : List ℕ) → ((after : List ℕ) → StrictBy (suc number) more after (rules_read (suc number) more after)) → (o : Rules) → rule_read number bs ≡ o
    → StrictBy number (suc more) bs (then_rules (rules_read (suc number) more) o)
then_by number more bs again (rules_are vs after) e =
    let a = any_strict number bs vs after e in
    let s = (rule_whole number bs vs after a).1 in
    behind_by number more bs vs after (omega (arith, s)) a (rules_read (suc number) more after) (again after)
then_by number more bs again (bad_at line) e = tt

rules_by : (more number : ℕ) (bs : List ℕ) → StrictBy number more bs (rules_read number more bs)
unfolding rules_read
rules_by zero number [] = ([], present_end number, together_nothing, refl)
rules_by zero number (b ∷ bs) = tt
rules_by (suc more) number bs = then_by number more bs (λ after. rules_by more (suc number) after) (rule_read number bs) refl

-- what a text says as a book, it says by mail, and its rules are as many as it states
abbrev BookBy : List ℕ → Said → Type 0
BookBy bs (says ws) = (rules : List (List ℕ)) × (mail_then (keyed book_line bs) ≡ mail_is (length rules) rules) × (book_of rules ≡ ws)
BookBy bs (bad_line at) = Unit {0}

counted_by : (bs after : List ℕ) (n : ℕ) (rest : List ℕ) → keyed book_line bs ≡ some after → number_line rules_key 65535 after ≡ some (n, rest) → (o : Rules) → StrictBy 0 n rest o
    → BookBy bs (book_alone (behind (n ∷ []) o))
counted_by bs after n rest k e (rules_are ws []) t =
    let l : length t.0 ≡ n = t.3 in (
      t.0,
      rw (k, e, t.1, l),
      book_words t.0 ∙ rw (t.2, l),
    )
counted_by bs after n rest k e (rules_are ws (b ∷ more)) t = tt
counted_by bs after n rest k e (bad_at line) t = tt

count_by_lem : (bs after : List ℕ) → keyed book_line bs ≡ some after → (o : Read ℕ) → number_line rules_key 64 after ≡ o → BookBy bs (book_alone (count_then o))
count_by_lem bs after k none e = tt
count_by_lem bs after k (some p) e =
    counted_by bs after p.0 p.1 k (number_wider rules_key 64 p.0 after p.1 (omega arith) e) (rules_read 0 p.0 p.1) (rules_by p.0 0 p.1)

line_by : (bs : List ℕ) (o : Option (List ℕ)) → keyed book_line bs ≡ o → BookBy bs (book_alone (book_then o))
line_by bs none k = tt
line_by bs (some after) k = count_by_lem bs after k (number_line rules_key 64 after) refl

pub book_mail : (bs ws : List ℕ) → book_said bs ≡ says ws → (rules : List (List ℕ)) × (mail_said bs ≡ mail_is (length rules) rules) × (book_of rules ≡ ws)
unfolding book_said book_read mail_said
book_mail bs ws e = go (leb (length bs) 65536) refl e
  where
    go : (b : Bool) → leb (length bs) 65536 ≡ b → pick b (book_alone (book_read bs)) (bad_line 0) ≡ says ws
        → (rules : List (List ℕ)) × (mail_said bs ≡ mail_is (length rules) rules) × (book_of rules ≡ ws)
    go true q z = let t : BookBy bs (says ws) = rw z at (line_by bs (keyed book_line bs) refl) in (t.0, rw q t.1, t.2)
    go false q z = never (cc)
