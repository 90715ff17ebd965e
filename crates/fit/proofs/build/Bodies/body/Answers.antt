-- `build::Bodies::body` meets its contract: from where the words before it end, as many as its length says.
use Rattle.std.proofs.Common.{◌≡◌, ℕ, ◌+◌, ◌<◌, ◌≤◌, ◌⊎◌, inl, inr, Option, Some, None, MatchOption, List, length, slice_range, ◌∙◌, arith}
use Rattle.std.specs.Borrow.{Bor}
use Rattle.fit.specs.Build.{start_of}
use Rattle.fit.specs.Told.BuildWalk.{BodyAt}
use Rattle.fit.proofs.Lengths.{start_next, body_words_lem}
use Rattle.fit.proofs.build.Bodies.body.Goals as goal

-- what `get` gives between two starts
between : (bodies lengths : List ℕ) (x i j : ℕ) → i ≡ start_of lengths x → j ≡ start_of lengths (x + 1) → (r : Option (Bor (List ℕ)))
    → MatchOption r ((j < i) ⊎ (length bodies < j)) (λ b. (i ≤ j) × (j ≤ length bodies) × (b.now ≡ slice_range bodies i j) × (length b.now + i ≡ j)) → BodyAt bodies lengths x r
unfolding BodyAt
between bodies lengths x i j e f (Some b) told = told.2 ∙ rw (e, f) (body_words_lem bodies lengths x)
between bodies lengths x i j e f None (inl h) = absurd (omega (arith, h, e, f, start_next lengths x))
between bodies lengths x i j e f None (inr h) = rw f at h

pub returns : goal.returns
returns c = between c.args.self.now.words.now c.args.self.now.lengths.now c.args.x _ _ c.start_of.ensures c.start_of-2.ensures _ c.get.ensures.lookup.0
