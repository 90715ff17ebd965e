-- Arguments at the end of a symbol stand beside its own: so what is written with them is as large as both together, and formed where both are.
use mathlib.Core.Path.{◌≡◌, refl, sym, ap, ◌∙◌}
use mathlib.Core.Bool.{Bool, true, false, ◌&&◌}
use mathlib.Core.List.{◌∷◌, ◌++◌, append-nil}
use mathlib.Core.Option.{none, some}
use Prim.Native.Nat.{ℕ, suc, ◌+◌, ◌*◌, ◌≤◌, ◌<◌, max}
use native.Mathlib.Omega.{arith}
use lib.Dec.{leb}
use lib.ListN.{length, length-append, get_or, drop}
use borrow.Author.Tests.{leb-true}
use Rattle.term.specs.Word.{symbol, abstraction, variable, pattern, word}
use Rattle.term.specs.Row.{Row, nothing, node, width, words, nesting, ranks, Formed, ◌⧺◌, firsts, others}
use Rattle.term.proofs.Laws.{never, count_symbol, width_nothing, width_node, width_join, words_nothing, words_node, words_join, nesting_node, nesting_join, ranks_node, ranks_join, rank_symbol, join_nothing_left, join_node, formed_node, node_formed, formed_join, symbol_table, symbol_few, word_symbol, firsts_others, formed_others}
use Rattle.fit.specs.Build.{largest, within_limits}
use Rattle.fit.specs.Fit.{IsBody}
use Rattle.fit.specs.Front.{aside_arguments, with_arguments}
use Rattle.fit.proofs.Laws.{aside_arguments_node, with_arguments_symbol, largest_nothing, largest_node, within_limits_is}
use Rattle.steps.specs.Arguments.{takes, with_aside}
use Rattle.steps.proofs.Replaced.{none_wide}
use Rattle.steps.proofs.Shaped.{Shaped, shaped_join}

-- ---- what takes the arguments is a symbol with room for them
pub record TakesAs (r more : Row) : Type 0 where
  pub ident : ℕ
  pub arguments : ℕ
  pub kids : Row
  pub rest : Row
  pub is : r ≡ node (symbol ident arguments) kids rest
  pub few : arguments + width more ≤ 15

pub takes_as : (r more : Row) → takes r more ≡ true → TakesAs r more
unfolding takes
takes_as nothing more e = never (cc)
takes_as (node (symbol i c) kids rest) more e = record { ident = i; arguments = c; kids = kids; rest = rest; is = refl; few = leb-true (c + width more) 15 e }
takes_as (node abstraction kids rest) more e = never (cc)
takes_as (node (variable i) kids rest) more e = never (cc)
takes_as (node (pattern i c) kids rest) more e = never (cc)

-- ---- with nothing set aside there is no refusal; otherwise it is refused just where it cannot take them
pub nothing_aside : (r : Row) → with_aside r nothing ≡ some r
unfolding with_aside
nothing_aside r = refl

pub takes_aside : (r more : Row) → 0 < width more → takes r more ≡ true → with_aside r more ≡ some (with_arguments r more)
unfolding with_aside
takes_aside r nothing l e = absurd (omega (arith, l, width_nothing))
takes_aside r (node h kids rest) l e = rw e

pub refuses_aside : (r more : Row) → 0 < width more → takes r more ≡ false → with_aside r more ≡ none
unfolding with_aside
refuses_aside r nothing l e = absurd (omega (arith, l, width_nothing))
refuses_aside r (node h kids rest) l e = rw e

-- ---- what is written with them
largest_join : (f g : Row) → largest (f ⧺ g) ≡ max (largest f) (largest g)
largest_join nothing g = rw (join_nothing_left g) (omega (arith, largest_nothing))
largest_join (node h kids rest) g =
    rw (join_node h kids rest g) (omega (arith, largest_node h kids (rest ⧺ g), largest_node h kids rest, largest_join rest g))

long_node : (i c : ℕ) (kids rest : Row) → length (words (node (symbol i c) kids rest)) ≡ suc (length (words kids) + length (words rest))
long_node i c kids rest = ap length (words_node (symbol i c) kids rest) ∙ ap suc (length-append (words kids) (words rest))

-- its first word alone is another, and the words of the arguments follow
pub record Taken (r more s : Row) : Type 0 where
  pub wide : width s ≡ width r
  pub first : ℕ
  pub grown : first ≡ get_or (words r) 0 0 + width more * 65536
  pub same : width r ≡ 1 → words s ≡ first ∷ (drop 1 (words r) ++ words more)
  pub long : length (words s) ≡ length (words r) + length (words more)
  pub deep : nesting s ≡ max (nesting r) (suc (nesting more))
  pub rank : ranks s ≡ max (ranks r) (ranks more)
  pub large : largest s ≡ max (largest r) (largest more)
  pub formed : Formed r → Formed more → Formed s
  pub shaped : Shaped r → Shaped more → Shaped s

module _ (i c : ℕ) (kids rest more : Row) (few : c + width more ≤ 15) where
  node_words : width (node (symbol i c) kids rest) ≡ 1
      → words (node (symbol i (c + width more)) (kids ⧺ more) rest) ≡ word (symbol i (c + width more)) ∷ (drop 1 (words (node (symbol i c) kids rest)) ++ words more)
  node_words one =
      let z : rest ≡ nothing = none_wide rest (omega (arith, width_node (symbol i c) kids rest, one)) in
      rw (z, words_node (symbol i (c + width more)) (kids ⧺ more) nothing, words_node (symbol i c) kids nothing, words_nothing, words_join kids more, append-nil (words kids), append-nil (words kids ++ words more))

  node_taken_formed : Formed (node (symbol i c) kids rest) → Formed more → Formed (node (symbol i (c + width more)) (kids ⧺ more) rest)
  node_taken_formed f g =
      let n = formed_node (symbol i c) kids rest f in
      node_formed (symbol i (c + width more)) (kids ⧺ more) rest
      (record {
        table = symbol_table i (c + width more) few (symbol_few i c n.table).1;
        full = omega (arith, width_join kids more, n.full, count_symbol i c, count_symbol i (c + width more));
        below = formed_join kids more n.below g;
        beside = n.beside;
      })

  node_taken_shaped : Shaped (node (symbol i c) kids rest) → Shaped more → Shaped (node (symbol i (c + width more)) (kids ⧺ more) rest)
  unfolding Shaped
  node_taken_shaped f g = (
    symbol_table i (c + width more) few (symbol_few i c f.0).1,
    omega (arith, width_join kids more, f.1, count_symbol i c, count_symbol i (c + width more)),
    shaped_join kids more f.2 g,
    f.3,
  )

  node_long : length (words (node (symbol i (c + width more)) (kids ⧺ more) rest)) ≡ length (words (node (symbol i c) kids rest)) + length (words more)
  node_long =
      omega (arith, long_node i c kids rest, long_node i (c + width more) (kids ⧺ more) rest, ap length (words_join kids more) ∙ length-append (words kids) (words more))

  node_grown : word (symbol i (c + width more)) ≡ get_or (words (node (symbol i c) kids rest)) 0 0 + width more * 65536
  node_grown = rw (words_node (symbol i c) kids rest) (omega (arith, word_symbol i c, word_symbol i (c + width more)))

  node_taken : Taken (node (symbol i c) kids rest) more (node (symbol i (c + width more)) (kids ⧺ more) rest)
  node_taken =
      record {
        wide = width_node (symbol i (c + width more)) (kids ⧺ more) rest ∙ sym (width_node (symbol i c) kids rest);
        first = word (symbol i (c + width more));
        grown = node_grown;
        same = node_words;
        long = node_long;
        deep = omega (arith, nesting_node (symbol i c) kids rest, nesting_node (symbol i (c + width more)) (kids ⧺ more) rest, nesting_join kids more);
        rank = omega (arith, ranks_node (symbol i c) kids rest, ranks_node (symbol i (c + width more)) (kids ⧺ more) rest, ranks_join kids more, rank_symbol i c, rank_symbol i (c + width more));
        large = omega (arith, largest_node (symbol i c) kids rest, largest_node (symbol i (c + width more)) (kids ⧺ more) rest, largest_join kids more);
        formed = node_taken_formed;
        shaped = node_taken_shaped;
      }

pub taken : (r more : Row) → takes r more ≡ true → Taken r more (with_arguments r more)
taken r more e = inner r (takes_as r more e).is
  where
    inner : (k : Row) → k ≡ node (symbol (takes_as r more e).ident (takes_as r more e).arguments) (takes_as r more e).kids (takes_as r more e).rest → Taken k more (with_arguments k more)
    inner k z =
        let a = takes_as r more e in
        rw (z, with_arguments_symbol a.ident a.arguments a.kids a.rest more) (node_taken a.ident a.arguments a.kids a.rest more a.few)

-- ---- what comes of it, whether arguments are set aside or not
pub aside_taken : (r more s : Row) → 0 < width more → with_aside r more ≡ some s → Taken r more s
aside_taken r more s l e = go (takes r more) refl
  where
    go : (c : Bool) → takes r more ≡ c → Taken r more s
    go true q = let z : with_arguments r more ≡ s = (let y = takes_aside r more l q in cc) in rw (← z) (taken r more q)
    go false q = never (let y = refuses_aside r more l q in cc)

pub refused_aside : (r more : Row) → with_aside r more ≡ none → (0 < width more) × (takes r more ≡ false)
refused_aside r nothing e = never (let y = nothing_aside r in cc)
refused_aside r (node h kids rest) e = (l, go (takes r (node h kids rest)) refl)
  where
    l : 0 < width (node h kids rest)
    l = omega (arith, width_node h kids rest)

    go : (c : Bool) → takes r (node h kids rest) ≡ c → c ≡ false
    go true q = never (let y = takes_aside r (node h kids rest) l q in cc)
    go false q = refl

aside_case : (P : Row → Type 0) (r more s : Row) → with_aside r more ≡ some s → P r → (Taken r more s → P s) → P s
aside_case P r nothing s e p f = let z : r ≡ s = (let y = nothing_aside r in cc) in rw (← z) p
aside_case P r (node h kids rest) s e p f = f (aside_taken r (node h kids rest) s (omega (arith, width_node h kids rest)) e)

module _ (r more s : Row) (e : with_aside r more ≡ some s) where
  pub aside_wide : width s ≡ width r
  aside_wide = aside_case (λ f. width f ≡ width r) r more s e refl (λ t. t.wide)

  pub aside_formed : Formed r → Formed more → Formed s
  aside_formed f g = aside_case (λ k. Formed k) r more s e f (λ t. t.formed f g)

  pub aside_shaped : Shaped r → Shaped more → Shaped s
  aside_shaped f g = aside_case (λ k. Shaped k) r more s e f (λ t. t.shaped f g)

  pub aside_few : ranks r ≤ 2 → ranks more ≤ 2 → ranks s ≤ 2
  aside_few a b = aside_case (λ k. ranks k ≤ 2) r more s e a (λ t. omega (arith, t.rank, a, b))

  -- the limits of the whole, from what was written and the arguments
  pub aside_limits : 0 < width more
      → within_limits s ≡ leb (length (words r) + length (words more)) 4096 && (leb (max (nesting r) (suc (nesting more))) 64 && leb (max (largest r) (largest more)) 65535)
  aside_limits l = let t = aside_taken r more s l e in within_limits_is s ∙ rw (t.long, t.deep, t.large)

-- ---- the arguments set aside of a term
pub record AsideIs (more : Row) : Type 0 where
  pub formed : Formed more
  pub few : ranks more ≤ 2
  pub low : suc (nesting more) ≤ 64

pub aside_is : (b : ℕ) (t : Row) → IsBody t → AsideIs (aside_arguments b t)
aside_is b nothing i = absurd (omega (arith, i.one, width_nothing))
aside_is b (node h kids rest) i =
    let r : ranks kids ≡ max (ranks (firsts b kids)) (ranks (others b kids)) = ap ranks (sym (firsts_others b kids)) ∙ ranks_join (firsts b kids) (others b kids) in
    let n : nesting kids ≡ max (nesting (firsts b kids)) (nesting (others b kids)) = ap nesting (sym (firsts_others b kids)) ∙ nesting_join (firsts b kids) (others b kids) in
    let w = i.within in
    rw (aside_arguments_node b h kids rest)
    (record {
      formed = formed_others b kids (formed_node h kids rest w.formed).below;
      few = omega (arith, ranks_node h kids rest, r, w.few);
      low = omega (arith, nesting_node h kids rest, n, w.low);
    })
