-- Document 001's rules hold exactly where some bodies fit. What bodies build is met with them, occurrence by occurrence; and where the rules hold each part met has a body, since it names nothing but its list, and one body for each variable builds the term.
use mathlib.Core.Path.{◌≡◌, refl, sym, ap, ◌∙◌}
use mathlib.Core.Bool.{Bool, true, false, ◌||◌}
use mathlib.Core.List.{List, [], ◌∷◌, ◌++◌}
use mathlib.Core.Option.{Option, none, some}
use Prim.Native.Nat.{ℕ, suc, ◌≤◌, ◌<◌}
use native.Mathlib.Omega.{arith}
use lib.Dec.{eqb}
use borrow.Author.Tests.{eqb-true, eq-eqb}
use Rattle.std.specs.Prelude.{Ok}
use Rattle.term.specs.Word.{Head, symbol, abstraction, variable, pattern, rank}
use Rattle.term.specs.Row.{Row, nothing, node, width, words, ◌⧺◌}
use Rattle.term.specs.Check.{IsTerm, term_limits}
use Rattle.term.specs.Renumber.{inside, to_term, to_body}
use Rattle.term.proofs.Laws.{never, body_term, term_body, term_keeps, width_nothing, width_node, rank_variable, rank_pattern, inside_symbol, inside_abstraction}
use Rattle.book.specs.Book.{Rule, check_book, rule_at}
use Rattle.fit.specs.Left.{Left, end, hole, part, occurs, GoodLeft}
use Rattle.fit.specs.Fit.{build, WithinTerm, IsBody, Fits, body_b}
use Rattle.fit.specs.Match.{tree_of, left_in}
use Rattle.fit.specs.Dedukti.{free, Within, Met, met, Filters, match_tuple, match_fv, match_symb, match_abst, body_met, EachMet, SameBody, DeduktiMatches, Bodies, AsDedukti}
use Rattle.fit.proofs.Basics.{single, tree_before}
use Rattle.fit.proofs.Matching.{term_is_body, kids_within, rest_within, first_within, part_body}
use Rattle.fit.proofs.Words.{GoodRule, or_either, same_term}
use Rattle.fit.proofs.Accepted.{tree_of_lem, accepted_good}
use Rattle.fit.proofs.Free.{body_free, free_body}

-- ---- what is said of each that was met
met_join : (P : Met → Type 0) (ls ms : List Met) → EachMet P ls → EachMet P ms → EachMet P (ls ++ ms)
met_join P [] ms p q = q
met_join P (l ∷ ls) ms p q = (p.0, met_join P ls ms p.1 q)

met_left : (P : Met → Type 0) (ls ms : List Met) → EachMet P (ls ++ ms) → EachMet P ls
met_left P [] ms p = tt
met_left P (l ∷ ls) ms p = (p.0, met_left P ls ms p.1)

met_right : (P : Met → Type 0) (ls ms : List Met) → EachMet P (ls ++ ms) → EachMet P ms
met_right P [] ms p = p
met_right P (l ∷ ls) ms p = met_right P ls ms p.1

abbrev HasBody : Met → Type 0
HasBody m = (c : Row) × (body_met m ≡ some c)

abbrev BodyIs : (ℕ → Row) → Met → Type 0
BodyIs b m = body_met m ≡ some (b m.var)

-- ---- what bodies build is met with them
record MetBy (b : ℕ → Row) (d : ℕ) (p : Left) (t : Row) : Type 0 where
  mets : List Met
  filters : Filters d p t mets
  bodies : Bodies b mets

module _ (b : ℕ → Row) where
  hole_met : (d x : ℕ) (ys : List ℕ) (rest : Left) (h : Head) (kids rs : Row) → to_body d ys (node h kids nothing) ≡ some (b x) → Within d ys (free 0 (node h kids nothing))
      → MetBy b d rest rs → MetBy b d (hole x ys rest) (node h kids rs)
  hole_met d x ys rest h kids rs e w m = record { mets = met x d ys (node h kids nothing) ∷ m.mets; filters = match_fv w m.filters; bodies = (e, m.bodies) }

  tree_met : (d x : ℕ) (ys : List ℕ) (rest : Left) (h : Head) (kids t rs : Row) → t ≡ node h kids nothing → to_body d ys t ≡ some (b x) → Within d ys (free 0 t)
      → MetBy b d rest rs → MetBy b d (hole x ys rest) (t ⧺ rs)
  tree_met d x ys rest h kids t rs z e w m = rw (z, tree_before h kids rs) (hole_met d x ys rest h kids rs (rw z at e) (rw z at w) m)

  symbol_met : (d f n : ℕ) (kids rest : Left) (us ts : Row) → MetBy b d kids us → MetBy b d rest ts → MetBy b d (part (symbol f n) kids rest) (node (symbol f n) us ts)
  symbol_met d f n kids rest us ts m k =
      record { mets = m.mets ++ k.mets; filters = match_symb m.filters k.filters; bodies = met_join (BodyIs b) m.mets k.mets m.bodies k.bodies }

  abstraction_met : (d : ℕ) (kids rest : Left) (us ts : Row) → MetBy b (suc d) kids us → MetBy b d rest ts → MetBy b d (part abstraction kids rest) (node abstraction us ts)
  abstraction_met d kids rest us ts m k =
      record { mets = m.mets ++ k.mets; filters = match_abst m.filters k.filters; bodies = met_join (BodyIs b) m.mets k.mets m.bodies k.bodies }

  part_met : (d : ℕ) (h : Head) (kids rest : Left) (us ts : Row) → rank h ≤ 1 → MetBy b (inside h d) kids us → MetBy b d rest ts → MetBy b d (part h kids rest) (node h us ts)
  part_met d (symbol f n) kids rest us ts l m k = symbol_met d f n kids rest us ts (rw (inside_symbol f n d) at m) k
  part_met d abstraction kids rest us ts l m k = abstraction_met d kids rest us ts (rw (inside_abstraction d) at m) k
  part_met d (variable i) kids rest us ts l m k = absurd (omega (arith, rank_variable i, l))
  part_met d (pattern x c) kids rest us ts l m k = absurd (omega (arith, rank_pattern x c, l))

  built_met : (vars : ℕ) → ((x : ℕ) → x < vars → IsBody (b x)) → (d : ℕ) (p : Left) → GoodLeft vars d p → MetBy b d p (build b d p)
  unfolding build GoodLeft
  built_met vars i d end g = record { mets = []; filters = match_tuple; bodies = tt }
  built_met vars i d (hole x ys rest) g =
      let j = i x g.0 in
      let s = single (to_term d ys (b x)) ((term_keeps d ys (b x)).wide ∙ j.one) in
      let e = body_term d ys g.1.listed (b x) j.within.formed in
      tree_met d x ys rest s.head s.children (to_term d ys (b x)) (build b d rest) s.is e (body_free d ys (to_term d ys (b x)) (b x) e j.within.formed) (built_met vars i d rest g.2)
  built_met vars i d (part h kids rest) g =
      part_met d h kids rest (build b (inside h d) kids) (build b d rest) g.2 (built_met vars i (inside h d) kids g.3) (built_met vars i d rest g.4)

-- bodies that are met are one for each variable
each_same : (b : ℕ → Row) (m : Met) → BodyIs b m → (ks : List Met) → Bodies b ks → EachMet (SameBody m) ks
each_same b m e [] s = tt
each_same b m e (k ∷ ks) s = (λ q. e ∙ ap (λ (x : ℕ). some (b x)) q ∙ sym s.0, each_same b m e ks s.1)

all_same_lem : (b : ℕ → Row) (ms ks : List Met) → Bodies b ms → Bodies b ks → EachMet (λ m. EachMet (SameBody m) ms) ks
all_same_lem b ms [] s r = tt
all_same_lem b ms (k ∷ ks) s r = (each_same b k r.0 ms s, all_same_lem b ms ks s r.1)

-- ---- what the rules hold of is built by the bodies met
filters_built : (b : ℕ → Row) (d : ℕ) (p : Left) (t : Row) (ms : List Met) → Filters d p t ms → Bodies b ms → build b d p ≡ t
unfolding build
filters_built b d p t ms (match_tuple {d = e}) s = refl
filters_built b d p t ms (match_fv {d = e} {x = x} {ys = ys} {h = h} {kids = kids} {ts = ts} {ps = ps} {ms = ns} w r) s =
    rw (term_body e ys (node h kids nothing) (b x) s.0, filters_built b e ps ts ns r s.1) (tree_before h kids ts)
filters_built b d p t ms (match_symb {d = e} {f = f} {n = n} {qs = qs} {ps = ps} {us = us} {ts = ts} {ls = ls} {ms = ns} q r) s =
    rw (inside_symbol f n e, filters_built b e qs us ls q (met_left (BodyIs b) ls ns s), filters_built b e ps ts ns r (met_right (BodyIs b) ls ns s))
filters_built b d p t ms (match_abst {d = e} {qs = qs} {ps = ps} {us = us} {ts = ts} {ls = ls} {ms = ns} q r) s =
    rw (inside_abstraction e, filters_built b (suc e) qs us ls q (met_left (BodyIs b) ls ns s), filters_built b e ps ts ns r (met_right (BodyIs b) ls ns s))

-- the body of each variable that occurs is itself one term
filters_bodies : (vars : ℕ) (b : ℕ → Row) (d : ℕ) (p : Left) (t : Row) (ms : List Met) → Filters d p t ms → GoodLeft vars d p → WithinTerm t → Bodies b ms
    → (z : ℕ) → occurs z p ≡ true → IsBody (b z)
unfolding occurs GoodLeft
filters_bodies vars b d p t ms (match_tuple {d = e}) g w s z o = never (cc)
filters_bodies vars b d p t ms (match_fv {d = e} {x = x} {ys = ys} {h = h} {kids = kids} {ts = ts} {ps = ps} {ms = ns} v r) g w s z o =
    or_either (eqb z x) (occurs z ps) o
    (λ q. let y = eqb-true z x q in rw y (part_body e ys (node h kids nothing) g.1 (width_node h kids nothing ∙ ap suc width_nothing) (first_within h kids ts w) (b x) s.0))
    (λ q. filters_bodies vars b e ps ts ns r g.2 (rest_within h kids ts w) s.1 z q)
filters_bodies vars b d p t ms (match_symb {d = e} {f = f} {n = n} {qs = qs} {ps = ps} {us = us} {ts = ts} {ls = ls} {ms = ns} q r) g w s z o =
    or_either (occurs z qs) (occurs z ps) o
    (λ y. filters_bodies vars b e qs us ls q (rw (inside_symbol f n e) at g).3 (kids_within (symbol f n) us ts w) (met_left (BodyIs b) ls ns s) z y)
    (λ y. filters_bodies vars b e ps ts ns r g.4 (rest_within (symbol f n) us ts w) (met_right (BodyIs b) ls ns s) z y)
filters_bodies vars b d p t ms (match_abst {d = e} {qs = qs} {ps = ps} {us = us} {ts = ts} {ls = ls} {ms = ns} q r) g w s z o =
    or_either (occurs z qs) (occurs z ps) o
    (λ y. filters_bodies vars b (suc e) qs us ls q (rw (inside_abstraction e) at g).3 (kids_within abstraction us ts w) (met_left (BodyIs b) ls ns s) z y)
    (λ y. filters_bodies vars b e ps ts ns r g.4 (rest_within abstraction us ts w) (met_right (BodyIs b) ls ns s) z y)

-- ---- where the rules hold, each part met has a body
filters_closed : (vars d : ℕ) (p : Left) (t : Row) (ms : List Met) → Filters d p t ms → GoodLeft vars d p → WithinTerm t → EachMet HasBody ms
unfolding GoodLeft
filters_closed vars d p t ms (match_tuple {d = e}) g w = tt
filters_closed vars d p t ms (match_fv {d = e} {x = x} {ys = ys} {h = h} {kids = kids} {ts = ts} {ps = ps} {ms = ns} v r) g w =
    let a = first_within h kids ts w in
    (free_body e ys g.1 (node h kids nothing) a.formed a.low v, filters_closed vars e ps ts ns r g.2 (rest_within h kids ts w))
filters_closed vars d p t ms (match_symb {d = e} {f = f} {n = n} {qs = qs} {ps = ps} {us = us} {ts = ts} {ls = ls} {ms = ns} q r) g w =
    met_join HasBody ls ns (filters_closed vars e qs us ls q (rw (inside_symbol f n e) at g).3 (kids_within (symbol f n) us ts w)) (filters_closed vars e ps ts ns r g.4 (rest_within (symbol f n) us ts w))
filters_closed vars d p t ms (match_abst {d = e} {qs = qs} {ps = ps} {us = us} {ts = ts} {ls = ls} {ms = ns} q r) g w =
    met_join HasBody ls ns (filters_closed vars (suc e) qs us ls q (rw (inside_abstraction e) at g).3 (kids_within abstraction us ts w)) (filters_closed vars e ps ts ns r g.4 (rest_within abstraction us ts w))

-- ---- the body of a variable is that of its first occurrence
abbrev or_nothing : Option Row → Row
or_nothing none = nothing
or_nothing (some c) = c

unfoldable first_met : List Met → ℕ → Row
first_met [] x = nothing
first_met (m ∷ ms) x = body_b (eqb x m.var) (or_nothing (body_met m)) (first_met ms x)

unfoldable among : ℕ → List Met → Bool
among x [] = false
among x (m ∷ ms) = eqb x m.var || among x ms

first_met_lem : (x : ℕ) (c : Row) (ms : List Met) → EachMet (λ n. x ≡ n.var → body_met n ≡ some c) ms → among x ms ≡ true → first_met ms x ≡ c
unfolding first_met among
first_met_lem x c [] p e = never (cc)
first_met_lem x c (m ∷ ms) p e = go (eqb x m.var) refl (first_met_lem x c ms p.1) e
  where
    go : (k : Bool) → eqb x m.var ≡ k → (among x ms ≡ true → first_met ms x ≡ c) → k || among x ms ≡ true → body_b k (or_nothing (body_met m)) (first_met ms x) ≡ c
    go true z r q = ap or_nothing (p.0 (eqb-true x m.var z))
    go false z r q = r q

later : (a b : Bool) → b ≡ true → a || b ≡ true
later true b e = refl
later false b e = e

among_each : (ms ks : List Met) → ((x : ℕ) → among x ks ≡ true → among x ms ≡ true) → EachMet (λ m. among m.var ms ≡ true) ks
unfolding among
among_each ms [] f = tt
among_each ms (k ∷ ks) f = (f k.var (rw (eq-eqb k.var k.var refl)), among_each ms ks (λ x e. f x (later (eqb x k.var) (among x ks) e)))

same_some : (k : Met) (c : Row) → body_met k ≡ some c → (ms : List Met) → EachMet (SameBody k) ms → EachMet (λ n. k.var ≡ n.var → body_met n ≡ some c) ms
same_some k c e [] s = tt
same_some k c e (m ∷ ms) s = (λ q. sym (s.0 q) ∙ e, same_some k c e ms s.1)

first_one : (ms : List Met) (k : Met) → EachMet (SameBody k) ms → HasBody k → among k.var ms ≡ true → BodyIs (first_met ms) k
first_one ms k s h a = h.1 ∙ ap some (sym (first_met_lem k.var h.0 ms (same_some k h.0 h.1 ms s) a))

bodies_first : (ms ks : List Met) → EachMet (λ m. EachMet (SameBody m) ms) ks → EachMet HasBody ks → EachMet (λ m. among m.var ms ≡ true) ks → Bodies (first_met ms) ks
bodies_first ms [] o h a = tt
bodies_first ms (k ∷ ks) o h a = (first_one ms k o.0 h.0 a.0, bodies_first ms ks o.1 h.1 a.1)

-- ---- the theorem, of a tree and then of a term in words
module _ (vars : ℕ) (left : Left) (rule : GoodRule vars left) (t : Row) (w : WithinTerm t) (one : width t ≡ 1) where
  whole : (b : ℕ → Row) (u : Row) → MetBy b 0 left u → (m : DeduktiMatches left u) × Bodies b m.mets
  whole b u m = (record { mets = m.mets; filters = m.filters; one = all_same_lem b m.mets m.mets m.bodies m.bodies }, m.bodies)

  tree_matches : (b : ℕ → Row) → Fits vars left (words t) b → (m : DeduktiMatches left t) × Bodies b m.mets
  tree_matches b f = rw (same_term vars left rule t w one b f) at (whole b (build b 0 left) (built_met b vars f.bodies 0 left rule.good))

  tree_fits : (m : DeduktiMatches left t) → (b : ℕ → Row) × Fits vars left (words t) b × Bodies b m.mets
  tree_fits m =
      let s = bodies_first m.mets m.mets m.one (filters_closed vars 0 left t m.mets m.filters rule.good w) (among_each m.mets m.mets (λ x e. e)) in (
        first_met m.mets,
        record {
          bodies = λ x h. filters_bodies vars (first_met m.mets) 0 left t m.mets m.filters rule.good w s x (rule.all x h);
          same = ap words (filters_built (first_met m.mets) 0 left t m.mets m.filters s);
        },
        s,
      )

record TermTree (ws : List ℕ) (t : Row) : Type 0 where
  same : words t ≡ ws
  body : IsBody t

term_tree : (ws : List ℕ) → IsTerm ws → TermTree ws (tree_of ws)
term_tree ws i =
    rw (tree_of_lem term_limits ws i)
    (record { same = sym i.same; body = term_is_body ws i })

pub as_dedukti : (book : List ℕ) → check_book book ≡ Ok tt → (number : ℕ) (rule : Rule) → rule_at book number ≡ some rule → (term : List ℕ) → IsTerm term
    → AsDedukti rule.vars (left_in rule) term
as_dedukti book accepted number rule e term i =
    shown (accepted_good book accepted number rule e) (term_tree term i)
  where
    shown : GoodRule rule.vars (left_in rule) → TermTree term (tree_of term) → AsDedukti rule.vars (left_in rule) term
    shown r k =
        record {
          matches = λ b f. tree_matches rule.vars (left_in rule) r (tree_of term) k.body.within k.body.one b (rw k.same f);
          fits = λ m. rw k.same at (tree_fits rule.vars (left_in rule) r (tree_of term) k.body.within k.body.one m);
        }
