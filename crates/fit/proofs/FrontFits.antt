-- To match a front is to match a term, the one without the arguments set aside: so what is sound, complete and unique of matching is so of fronts.
use mathlib.Core.Path.{◌≡◌, refl, sym, ap, ap₂, ◌∙◌}
use mathlib.Core.Bool.{Bool, true, false}
use mathlib.Core.List.{List}
use mathlib.Core.Option.{Option, none, some}
use Prim.Native.Nat.{ℕ, zero, suc, ◌+◌, ◌-◌, ◌≤◌, ◌<◌}
use native.Mathlib.Omega.{arith}
use native.Mathlib.Decide.{dec_le}
use lib.ListN.{get_or}
use Rattle.std.specs.Prelude.{Ok}
use Rattle.term.specs.Word.{Head, symbol, count, InTable}
use Rattle.term.specs.Row.{Row, node, width, Formed, ◌⧺◌}
use Rattle.term.specs.Check.{IsTerm}
use Rattle.term.specs.Renumber.{inside}
use Rattle.term.proofs.Laws.{never, count_symbol, formed_node, firsts_join, others_join}
use Rattle.book.specs.Book.{Rule, check_book, rule_at}
use Rattle.fit.specs.Left.{Left, part}
use Rattle.fit.specs.Fit.{build, IsBody, matching}
use Rattle.fit.specs.Match.{left_in}
use Rattle.fit.specs.Lowest.{Fitting, or_next, matching_o, lowest, matching_front_o, aside_o, lowest_front}
use Rattle.fit.specs.Front.{root_arguments, front, aside, aside_arguments, with_arguments, matching_front, covers, FitsFront}
use Rattle.fit.proofs.Matching.{term_is_body}
use Rattle.fit.proofs.Words.{GoodRule, same_term, sound, complete, unique, none_fits}
use Rattle.fit.proofs.Accepted.{accepted_good}
use Rattle.fit.proofs.Above.{good_part}
use Rattle.fit.proofs.Clauses.{build_part}
use Rattle.fit.proofs.Fronts.{front_symbol, aside_node, aside_arguments_node, with_arguments_symbol, matching_front_lem, root_arguments_lem, front_body, front_and_aside, SymbolRoot, accepted_root, uncovered_none, covered_as, as_before}

-- ---- one rule and one term
module _ (vars : ℕ) (left : Left) (rule : GoodRule vars left) (t : Row) (i : IsBody t) where
  the_front : IsBody (front (root_arguments left) t)
  the_front = front_body (root_arguments left) t i

  -- sound: what is found fits the term without the arguments set aside
  pub front_sound : (b : ℕ → Row) → matching_front left t ≡ some b → FitsFront vars left t b
  front_sound b e = sound vars left rule (front (root_arguments left) t) the_front.within b (sym (matching_front_lem left t) ∙ e)

  -- complete, and the bodies are the only ones
  pub front_complete : (b : ℕ → Row) → FitsFront vars left t b → (c : ℕ → Row) × (matching_front left t ≡ some c) × ((x : ℕ) → x < vars → c x ≡ b x)
  front_complete b f =
      let m = complete vars left rule (front (root_arguments left) t) the_front.within the_front.one b f in
      (m.0, matching_front_lem left t ∙ m.1, m.2)

  pub front_unique : (b c : ℕ → Row) → FitsFront vars left t b → FitsFront vars left t c → (x : ℕ) → x < vars → b x ≡ c x
  front_unique b c f g = unique vars left rule (front (root_arguments left) t) the_front.within the_front.one b c f g

  -- none is found exactly where none fit
  pub front_none : matching_front left t ≡ none → (b : ℕ → Row) → FitsFront vars left t b → ⊥
  front_none e = none_fits vars left rule (front (root_arguments left) t) the_front.within the_front.one (sym (matching_front_lem left t) ∙ e)

  pub none_front : ((b : ℕ → Row) → FitsFront vars left t b → ⊥) → matching_front left t ≡ none
  none_front n = go (matching_front left t) refl
    where
      go : (o : Option (ℕ → Row)) → matching_front left t ≡ o → o ≡ none
      go none e = refl
      go (some b) e = absurd (n b (front_sound b e))

  -- the bodies build the term without the arguments set aside, and with these put back the term
  pub front_built : (b : ℕ → Row) → FitsFront vars left t b → build b 0 left ≡ front (root_arguments left) t
  front_built b f = same_term vars left rule (front (root_arguments left) t) the_front.within the_front.one b f

  pub built_and_aside : (b : ℕ → Row) → FitsFront vars left t b → with_arguments (build b 0 left) (aside_arguments (root_arguments left) t) ≡ t
  built_and_aside b f =
      ap (λ (r : Row). with_arguments r (aside_arguments (root_arguments left) t)) (front_built b f) ∙ front_and_aside (root_arguments left) t i.within.formed

-- ---- arguments put at the end are set aside again
own_arguments : (i c : ℕ) (kids rest : Row) → Formed (node (symbol i c) kids rest) → width kids ≡ c
own_arguments i c kids rest w = (formed_node (symbol i c) kids rest w).full ∙ count_symbol i c

pub front_with : (i c : ℕ) (kids rest more : Row) → Formed (node (symbol i c) kids rest) → front c (with_arguments (node (symbol i c) kids rest) more) ≡ node (symbol i c) kids rest
front_with i c kids rest more w =
    ap (front c) (with_arguments_symbol i c kids rest more)
    ∙ front_symbol c i (c + width more) (kids ⧺ more) rest (omega arith)
    ∙ ap (λ (f : Row). node (symbol i c) f rest) (rw (own_arguments i c kids rest w) at (firsts_join kids more))

pub aside_with : (i c : ℕ) (kids rest more : Row) → Formed (node (symbol i c) kids rest) → aside_arguments c (with_arguments (node (symbol i c) kids rest) more) ≡ more
aside_with i c kids rest more w =
    ap (aside_arguments c) (with_arguments_symbol i c kids rest more)
    ∙ aside_arguments_node c (symbol i (c + width more)) (kids ⧺ more) rest
    ∙ rw (own_arguments i c kids rest w) at (others_join kids more)

pub many_with : (i c : ℕ) (kids rest more : Row) → aside c (with_arguments (node (symbol i c) kids rest) more) ≡ width more
many_with i c kids rest more =
    ap (aside c) (with_arguments_symbol i c kids rest more) ∙ aside_node c (symbol i (c + width more)) (kids ⧺ more) rest ∙ ap (λ (n : ℕ). n - c) (count_symbol i (c + width more)) ∙ omega arith

-- so what bodies build is matched with them, whatever arguments follow
module _ (vars : ℕ) (left : Left) (rule : GoodRule vars left) (root : SymbolRoot left) (b : ℕ → Row) (bodies : (x : ℕ) → x < vars → IsBody (b x)) (i : IsBody (build b 0 left)) (more : Row) where
  front_again : front (root_arguments left) (with_arguments (build b 0 left) more) ≡ build b 0 left
  front_again = inner left root.is i.within.formed
    where
      h : Head
      h = symbol root.ident root.arguments

      inner : (k : Left) → k ≡ part h root.kids root.rest → Formed (build b 0 k) → front (root_arguments k) (with_arguments (build b 0 k) more) ≡ build b 0 k
      inner k z w =
          let p : build b 0 k ≡ node h (build b (inside h 0) root.kids) (build b 0 root.rest) = ap (build b 0) z ∙ build_part b 0 h root.kids root.rest in
          let n : root_arguments k ≡ root.arguments = ap root_arguments z ∙ root_arguments_lem h root.kids root.rest ∙ count_symbol root.ident root.arguments in
          rw (p, n) (front_with root.ident root.arguments (build b (inside h 0) root.kids) (build b 0 root.rest) more (rw p at w))

  -- and those arguments are as many as are set aside
  pub built_aside : aside (root_arguments left) (with_arguments (build b 0 left) more) ≡ width more
  built_aside =
      let h = symbol root.ident root.arguments in
      let p : build b 0 left ≡ node h (build b (inside h 0) root.kids) (build b 0 root.rest) = ap (build b 0) root.is ∙ build_part b 0 h root.kids root.rest in
      let n : root_arguments left ≡ root.arguments = ap root_arguments root.is ∙ root_arguments_lem h root.kids root.rest ∙ count_symbol root.ident root.arguments in
      ap₂ (λ (k : ℕ) (t : Row). aside k (with_arguments t more)) n p ∙ many_with root.ident root.arguments (build b (inside h 0) root.kids) (build b 0 root.rest) more

  pub built_front : (c : ℕ → Row) × (matching_front left (with_arguments (build b 0 left) more) ≡ some c) × ((x : ℕ) → x < vars → c x ≡ b x)
  built_front =
      let m = complete vars left rule (build b 0 left) i.within i.one b (record { bodies = bodies; same = refl }) in
      (m.0, matching_front_lem left (with_arguments (build b 0 left) more) ∙ ap (matching left) front_again ∙ m.1, m.2)

-- ---- the lowest rule
pub lowest_front_zero : (book : List ℕ) (number : ℕ) (t : Row) → lowest_front book number 0 t ≡ none
unfolding lowest_front
lowest_front_zero book number t = refl

pub lowest_front_more : (book : List ℕ) (number more : ℕ) (t : Row)
    → lowest_front book number (suc more) t ≡ or_next number (aside_o (rule_at book number) t) (matching_front_o (rule_at book number) t) (lowest_front book (suc number) more t)
unfolding lowest_front
lowest_front_more book number more t = refl

-- no bodies at all turn the left side of the rule of this number into the term without the arguments set aside
abbrev pub NoFront : List ℕ → ℕ → Row → Type 0
NoFront book number t = (rule : Rule) → rule_at book number ≡ some rule → (b : ℕ → Row) → FitsFront rule.vars (left_in rule) t b → ⊥

pub record LowestFrontFits (book : List ℕ) (number last : ℕ) (t : Row) (f : Fitting) : Type 0 where
  pub rule : Rule
  pub found : rule_at book f.number ≡ some rule
  pub fits : FitsFront rule.vars (left_in rule) t f.bodies
  pub counts : f.aside ≡ aside (root_arguments (left_in rule)) t
  pub later : number ≤ f.number
  pub below : f.number < last
  pub earlier : (r : ℕ) → number ≤ r → r < f.number → NoFront book r t

-- the lowest of the rules from `number` to `last` that fits the term without the arguments set aside, with their number and its bodies, or none
abbrev pub LowestFrontIs : List ℕ → ℕ → ℕ → Row → Option Fitting → Type 0
LowestFrontIs book number last t none = (r : ℕ) → number ≤ r → r < last → NoFront book r t
LowestFrontIs book number last t (some f) = LowestFrontFits book number last t f

module _ (book : List ℕ) (t : Row) (i : IsBody t) (good : (r : ℕ) (rule : Rule) → rule_at book r ≡ some rule → GoodRule rule.vars (left_in rule)) where
  no_front : (r : ℕ) (o : Option Rule) → rule_at book r ≡ o → matching_front_o o t ≡ none → NoFront book r t
  no_front r none e m rule q b f = let z : ◌≡◌ {A = ℕ} 0 1 = cc in omega arith
  no_front r (some p) e m rule q b f =
      let z : p ≡ rule = cc in
      front_none p.vars (left_in p) (good r p e) t i m b (rw z f)

  front_here : (number last : ℕ) → number < last → (o : Option Rule) (b : ℕ → Row) → rule_at book number ≡ o → matching_front_o o t ≡ some b
      → LowestFrontFits book number last t (record { number = number; aside = aside_o o t; bodies = b })
  front_here number last l none b e m = never (cc)
  front_here number last l (some rule) b e m =
      record {
        rule = rule;
        found = e;
        fits = front_sound rule.vars (left_in rule) (good number rule e) t i b m;
        counts = refl;
        later = omega arith;
        below = l;
        earlier = λ r a c. absurd (omega arith);
      }

  from_next : (number last : ℕ) → NoFront book number t → (r : ℕ) → number ≤ r → ((s : ℕ) → suc number ≤ s → s < last → NoFront book s t) → r < last → NoFront book r t
  from_next number last here r l next h = go (dec_le (suc number) r)
    where
      go : Dec (suc number ≤ r) → NoFront book r t
      go (yes p) = next r p h
      go (no p) = let z : r ≡ number = omega arith in rw z here

  step : (number last : ℕ) → number < last → (o : Option (ℕ → Row)) → matching_front_o (rule_at book number) t ≡ o → (q : Option Fitting) → LowestFrontIs book (suc number) last t q
      → LowestFrontIs book number last t (or_next number (aside_o (rule_at book number) t) o q)
  step number last l none e none h = λ r a b. from_next number last (no_front number (rule_at book number) refl e) r a h b
  step number last l none e (some f) h =
      record {
        rule = h.rule;
        found = h.found;
        fits = h.fits;
        counts = h.counts;
        later = omega (arith, h.later);
        below = h.below;
        earlier = λ r a b. from_next number f.number (no_front number (rule_at book number) refl e) r a h.earlier b;
      }
  step number last l (some b) e q h = front_here number last l (rule_at book number) b refl e

  pub lowest_front_is : (more number : ℕ) → LowestFrontIs book number (number + more) t (lowest_front book number more t)
  unfolding lowest_front
  lowest_front_is zero number = λ r a b. absurd (omega arith)
  lowest_front_is (suc more) number =
      let e : suc number + more ≡ number + suc more = omega arith in
      step number (number + suc more) (omega arith) (matching_front_o (rule_at book number) t) refl (lowest_front book (suc number) more t) (rw e at (lowest_front_is more (suc number)))

-- of all the rules of an accepted book, the lowest that fits
pub book_lowest_front : (book : List ℕ) → check_book book ≡ Ok tt → (ws : List ℕ) (i : IsTerm ws) → LowestFrontIs book 0 (get_or book 0 0) i.tree (lowest_front book 0 (get_or book 0 0) i.tree)
book_lowest_front book accepted ws i =
    let e : 0 + get_or book 0 0 ≡ get_or book 0 0 = omega arith in
    rw e at (lowest_front_is book i.tree (term_is_body ws i) (accepted_good book accepted) (get_or book 0 0) 0)

-- ---- with just as many arguments at every root that is covered, all is as before
-- a left side that covers a root has just as many arguments
abbrev pub JustAsMany : Left → Head → Type 0
JustAsMany left g = covers left g ≡ true → root_arguments left ≡ count g

aside_itself : (g : Head) (ts rs : Row) → aside (count g) (node g ts rs) ≡ 0
unfolding aside
aside_itself g ts rs = omega arith

-- what fits covers the root
part_covers : (j b : ℕ) (kids rest : Left) (g : Head) (ts rs : Row) → InTable (symbol j b) → Formed (node g ts rs) → (c : ℕ → Row)
    → matching_front (part (symbol j b) kids rest) (node g ts rs) ≡ some c → covers (part (symbol j b) kids rest) g ≡ true
part_covers j b kids rest g ts rs u w c m = go (covers (part (symbol j b) kids rest) g) refl
  where
    go : (x : Bool) → covers (part (symbol j b) kids rest) g ≡ x → x ≡ true
    go true e = refl
    go false e = never (let y = uncovered_none j b kids rest g ts rs u w e in cc)

same_symbol : (j b : ℕ) (kids rest : Left) (g : Head) → covers (part (symbol j b) kids rest) g ≡ true → b ≡ count g → symbol j b ≡ g
same_symbol j b kids rest g e n =
    let s = covered_as j b kids rest g e in
    let k : b ≡ s.arguments = n ∙ ap count s.is ∙ count_symbol j s.arguments in
    ap (symbol j) k ∙ sym s.is

module _ (left : Left) (root : SymbolRoot left) (table : InTable (symbol root.ident root.arguments)) (g : Head) (ts rs : Row) (w : Formed (node g ts rs)) where
  pub found_covers : (c : ℕ → Row) → matching_front left (node g ts rs) ≡ some c → covers left g ≡ true
  found_covers c m = inner left root.is m
    where
      inner : (k : Left) → k ≡ part (symbol root.ident root.arguments) root.kids root.rest → matching_front k (node g ts rs) ≡ some c → covers k g ≡ true
      inner k z m = rw z (part_covers root.ident root.arguments root.kids root.rest g ts rs table w c (rw z at m))

  pub aside_before : JustAsMany left g → (c : ℕ → Row) → matching_front left (node g ts rs) ≡ some c → aside (root_arguments left) (node g ts rs) ≡ 0
  aside_before few c m = ap (λ (n : ℕ). aside n (node g ts rs)) (few (found_covers c m)) ∙ aside_itself g ts rs

  pub match_before : JustAsMany left g → matching_front left (node g ts rs) ≡ matching left (node g ts rs)
  match_before few = inner left root.is few
    where
      inner : (k : Left) → k ≡ part (symbol root.ident root.arguments) root.kids root.rest → JustAsMany k g → matching_front k (node g ts rs) ≡ matching k (node g ts rs)
      inner k z few =
          rw z
          (as_before root.ident root.arguments root.kids root.rest g ts rs table w
          (λ e. same_symbol root.ident root.arguments root.kids root.rest g e
          (sym (root_arguments_lem (symbol root.ident root.arguments) root.kids root.rest ∙ count_symbol root.ident root.arguments) ∙ (rw z at few) e)))

module _ (book : List ℕ) (accepted : check_book book ≡ Ok tt) (g : Head) (ts rs : Row) (w : Formed (node g ts rs)) (few : (r : ℕ) (rule : Rule) → rule_at book r ≡ some rule → JustAsMany (left_in rule) g) where
  table_of_lem : (number : ℕ) (rule : Rule) (e : rule_at book number ≡ some rule)
      → InTable (symbol (accepted_root book accepted number rule e).ident (accepted_root book accepted number rule e).arguments)
  table_of_lem number rule e =
      let s = accepted_root book accepted number rule e in
      (good_part rule.vars 0 (symbol s.ident s.arguments) s.kids s.rest (rw s.is at (accepted_good book accepted number rule e).good)).0

  rule_before : (number : ℕ) (rule : Rule) → rule_at book number ≡ some rule → (o : Option (ℕ → Row)) → matching_front (left_in rule) (node g ts rs) ≡ o
      → (p : Option Fitting) (q : Option Fitting) → p ≡ q
      → or_next number (aside (root_arguments (left_in rule)) (node g ts rs)) o p ≡ or_next number 0 o q
  rule_before number rule e none m p q r = r
  rule_before number rule e (some b) m p q r =
      ap (λ (n : ℕ). some (record { number = number; aside = n; bodies = b }))
      (aside_before (left_in rule) (accepted_root book accepted number rule e) (table_of_lem number rule e) g ts rs w (few number rule e) b m)

  step_before : (number : ℕ) (o : Option Rule) → rule_at book number ≡ o → (p : Option Fitting) (q : Option Fitting) → p ≡ q
      → or_next number (aside_o o (node g ts rs)) (matching_front_o o (node g ts rs)) p ≡ or_next number 0 (matching_o o (node g ts rs)) q
  step_before number none e p q r = r
  step_before number (some rule) e p q r =
      rule_before number rule e (matching_front (left_in rule) (node g ts rs)) refl p q r
      ∙ ap (λ (m : Option (ℕ → Row)). or_next number 0 m q)
      (match_before (left_in rule) (accepted_root book accepted number rule e) (table_of_lem number rule e) g ts rs w (few number rule e))

  pub lowest_before : (more number : ℕ) → lowest_front book number more (node g ts rs) ≡ lowest book number more (node g ts rs)
  unfolding lowest_front lowest
  lowest_before zero number = refl
  lowest_before (suc more) number =
      step_before number (rule_at book number) refl (lowest_front book (suc number) more (node g ts rs)) (lowest book (suc number) more (node g ts rs)) (lowest_before more (suc number))
