-- The words of an occurrence in a node, read from the tables, are the number of its place and its list.
use mathlib.Core.Path.{◌≡◌, refl, ap, ap₂, ◌∙◌}
use mathlib.Core.List.{List, [], ◌∷◌}
use Prim.Native.Nat.{ℕ, suc, ◌+◌}
use native.Mathlib.Omega.{arith}
use lib.ListN.{length}
use Rattle.term.specs.Word.{ident_of}
use Rattle.fit.specs.Constraint.{Occurrence}
use Rattle.tree.specs.Path.{Uncovered, number_in}
use Rattle.tree.specs.Told.Covered.{Within}
use Rattle.compiler.specs.Told.Tables.{ids_from, ids_at, number_at, occurrence_words}
use Rattle.compiler.specs.Told.Stands.{ListAt}
use Rattle.tree.proofs.Laws.{numbered_within}
use Rattle.compiler.proofs.SpotOccurrences.{AllIds, SpotIs, spot_count, variable_ident}

ids_from_lem : (fixed nums ys : List ℕ) (k j : ℕ) → ListAt fixed nums (k + 1 + j) ys → AllIds ys → ids_from fixed k j (length ys) ≡ ys
unfolding ListAt ids_from
ids_from_lem fixed nums [] k j l a = refl
ids_from_lem fixed nums (y ∷ ys) k j l a =
    let z : suc (k + 1 + j) ≡ k + 1 + suc j = omega arith in
    let t : ListAt fixed nums (k + 1 + suc j) ys = rw z at l.2 in
    ap₂ ◌∷◌ (ap ident_of l.0 ∙ variable_ident y a.0) (ids_from_lem fixed nums ys k (suc j) t a.1)

module _ (fixed nums : List ℕ) (us : List Uncovered) (from to k : ℕ) (o : Occurrence) (s : SpotIs fixed nums us from to k o) where
  pub spot_ids : ids_at fixed k ≡ o.list
  spot_ids =
      let z : suc k ≡ k + 1 + 0 = omega arith in
      let l : ListAt fixed nums (k + 1 + 0) o.list = rw z at s.listed in
      ap (ids_from fixed k 0) (spot_count fixed nums us from to k o s) ∙ ids_from_lem fixed nums o.list k 0 l s.ids

  pub spot_number : Within o.place us → number_at nums k ≡ number_in o.place us
  spot_number w = omega (arith, s.number, numbered_within us o.place w)

  pub spot_words : Within o.place us → occurrence_words fixed nums k ≡ number_in o.place us ∷ length o.list ∷ o.list
  spot_words w = ap₂ ◌∷◌ (spot_number w) (ap₂ ◌∷◌ (spot_count fixed nums us from to k o s) spot_ids)
