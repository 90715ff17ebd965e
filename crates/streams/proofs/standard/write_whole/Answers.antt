-- What was written so far and what the write took are the bytes up to where they are written now.
use Rattle.std.proofs.Common.{◌≡◌, ◌+◌, ◌-◌, ◌++◌, rules, length, take, drop, sym, ap, ◌∙◌, subst}
use Rattle.std.proofs.lemmas.List.{take_rest}
use Rattle.std.proofs.KnownBytes.{Appends-trans}
use Rattle.std.specs.Io.KnownBytes.{Appends}
use lib.Seq.{take-add}
use Rattle.streams.proofs.standard.write_whole.Goals as goal

pub loop-done-preserved : goal.loop-done-preserved
loop-done-preserved g c =
    let bytes = c.args.bytes.now in
    let done = c.loop-done.done in
    let more = c.in_ok-more.more in
    let taken : take more (take (length bytes - done) (drop done bytes)) ≡ take more (drop done bytes) = ap (take more) (take_rest bytes done) in
    let whole : take done bytes ++ take more (take (length bytes - done) (drop done bytes)) ≡ take (done + more) bytes =
    ap (λ l. take done bytes ++ l) taken ∙ sym (take-add done more bytes) in
    (search rules, subst (Appends _ _) whole (Appends-trans _ _ _ _ _ c.loop-done.invariant.1 c.in_ok-more.ensures.bytes))
