-- What came so far and what the read gave are the bytes that the text begins with now.
use Rattle.std.proofs.Common.{◌≡◌, ℕ, ◌+◌, ◌-◌, ◌≤◌, List, ◌++◌, rules, length, take, sym, ap, ◌∙◌, subst, le_refl, drop_at, length-take-le}
use Rattle.std.proofs.lemmas.Slice.{take-put_mid_below}
use Rattle.std.proofs.KnownBytes.{Consumes-trans}
use Rattle.std.specs.Io.KnownBytes.{Consumes}
use borrow.Rule.Slice.PartMut.{put_mid, post_of}
use lib.Seq.{take-add, take-append-le}
use Rattle.streams.proofs.standard.read_all.Goals as goal

took : (a k n : ℕ) (xs ys : List ℕ) → a ≤ length xs → n ≤ length ys → take a xs ++ take n ys ≡ take (a + n) (put_mid a k xs ys)
took a k n xs ys within fits =
    let after = post_of a k xs in
    ap (λ l. l ++ take n ys) (sym (take-put_mid_below a k xs ys a (le_refl a) within))
    ∙ ap (λ l. take a (put_mid a k xs ys) ++ l) (sym (ap (take n) (drop_at (take a xs) (ys ++ after) a (length-take-le a xs within)) ∙ take-append-le n ys after fits))
    ∙ sym (take-add a n (put_mid a k xs ys))

pub loop-n-preserved : goal.loop-n-preserved
loop-n-preserved g c =
    let n = c.loop-n.n in
    let more = c.in_ok-more.more in
    let text = c.loop-n.text in
    let part = c.read.new.buf in
    let within = c.loop-n.invariant.0 in
    let fits : more ≤ length part = search rules in
    (search rules, search rules, subst (Consumes _ _) (took n (length text - n) more text part within fits) (Consumes-trans _ _ _ _ _ c.loop-n.invariant.2 c.in_ok-more.ensures.bytes.0))
