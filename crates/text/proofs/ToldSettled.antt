-- What reading from an offset tells settles its answer: the reading of the text is one, and an offset within the text is known by what stands after it.
use mathlib.Core.Path.{◌≡◌, refl, sym, ap, ◌∙◌}
use mathlib.Core.List.{List}
use mathlib.Core.Option.{some}
use Prim.Native.Nat.{ℕ, ◌-◌, ◌≤◌}
use native.Mathlib.Omega.{arith}
use lib.ListN.{length, drop, length-drop}
use Rattle.std.specs.Prelude.{Option, Some, None, Result, Ok, Err}
use Rattle.term.specs.Word.{Head, word}
use Rattle.term.proofs.Laws.{never}
use Rattle.text.specs.Number.{Read}
use Rattle.text.specs.BookText.{side_line, Rules, rules_are, bad_at}
use Rattle.text.specs.Line.{line}
use Rattle.text.specs.Told.Told.{NumberIs, HeadIs, LineTold}
use Rattle.text.specs.Told.BookTold.{KeyTold, SideTold, RulesTold}
use Rattle.text.proofs.Fronts.{same_read}

same_end : (bs : List ℕ) (next other : ℕ) → next ≤ length bs → other ≤ length bs → drop next bs ≡ drop other bs → next ≡ other
same_end bs next other h l e =
    let n : length bs - next ≡ length bs - other = sym (length-drop next bs) ∙ ap (λ (x : List ℕ). length x) e ∙ length-drop other bs in omega arith

pub number_settled : (o : List ℕ → Read ℕ) (most : ℕ) (bs : List ℕ) (at : ℕ) (r s : Option (ℕ × ℕ)) → NumberIs o most bs at r → NumberIs o most bs at s → r ≡ s
number_settled o most bs at (Some (n, next)) (Some (m, other)) p q =
    let k = same_read (o (drop at bs)) n m (drop next bs) (drop other bs) p.0 q.0 in
    let v = k.0 in
    let e = same_end bs next other p.3 q.3 k.1 in
    cc
number_settled o most bs at (Some (n, next)) None p q = never (let e = p.0 in cc)
number_settled o most bs at None (Some (m, other)) p q = never (let e = q.0 in cc)
number_settled o most bs at None None p q = refl

pub token_settled : (o : List ℕ → Read Head) (bs : List ℕ) (at : ℕ) (r s : Option (ℕ × ℕ)) → HeadIs o bs at r → HeadIs o bs at s → r ≡ s
token_settled o bs at (Some (w, next)) (Some (v, other)) p q =
    let k = same_read (o (drop at bs)) p.0 q.0 (drop next bs) (drop other bs) p.2 q.2 in
    let z : w ≡ v = p.1 ∙ ap (λ (h : Head). word h) k.0 ∙ sym q.1 in
    let e = same_end bs next other p.4 q.4 k.1 in
    cc
token_settled o bs at (Some (w, next)) None p q = never (let e = p.2 in cc)
token_settled o bs at None (Some (v, other)) p q = never (let e = q.2 in cc)
token_settled o bs at None None p q = refl

pub key_settled : (key bs : List ℕ) (at : ℕ) (r s : Option ℕ) → KeyTold key bs at r → KeyTold key bs at s → r ≡ s
key_settled key bs at (Some next) (Some other) p q =
    let a : some (drop next bs) ≡ some (drop other bs) = sym p.0 ∙ q.0 in
    let e = same_end bs next other p.2 q.2 (cc) in
    cc
key_settled key bs at (Some next) None p q = never (let e = p.0 in cc)
key_settled key bs at None (Some other) p q = never (let e = q.0 in cc)
key_settled key bs at None None p q = refl

-- the words of a line, read as o: how many, and where it ends
line_read : (o : Read (List ℕ)) (bs : List ℕ) (n m next other : ℕ) (ws vs : List ℕ) → o ≡ some (ws, drop next bs) → o ≡ some (vs, drop other bs)
    → length ws ≡ n → length vs ≡ m → next ≤ length bs → other ≤ length bs → ◌≡◌ {A = Option (ℕ × ℕ)} (Some (n, next)) (Some (m, other))
line_read o bs n m next other ws vs p q a b h l =
    let k = same_read o ws vs (drop next bs) (drop other bs) p q in
    let z : n ≡ m = sym a ∙ ap (λ (x : List ℕ). length x) k.0 ∙ b in
    let e = same_end bs next other h l k.1 in
    cc

pub line_settled : (most : ℕ) (bs : List ℕ) (at to : ℕ) (out done last : List ℕ) (r s : Option (ℕ × ℕ)) → LineTold most bs at to out done r → LineTold most bs at to out last s → r ≡ s
line_settled most bs at to out done last (Some (n, next)) (Some (m, other)) p q =
    line_read (line most (drop at bs)) bs n m next other p.0 q.0 p.1 q.1 p.2 q.2 p.4 q.4
line_settled most bs at to out done last (Some (n, next)) None p q = never (let e = p.1 in cc)
line_settled most bs at to out done last None (Some (m, other)) p q = never (let e = q.1 in cc)
line_settled most bs at to out done last None None p q = refl

pub side_settled : (key bs : List ℕ) (at to : ℕ) (out done last : List ℕ) (r s : Option (ℕ × ℕ)) → SideTold key bs at to out done r → SideTold key bs at to out last s → r ≡ s
side_settled key bs at to out done last (Some (n, next)) (Some (m, other)) p q =
    line_read (side_line key (drop at bs)) bs n m next other p.0 q.0 p.1 q.1 p.2 q.2 p.4 q.4
side_settled key bs at to out done last (Some (n, next)) None p q = never (let e = p.1 in cc)
side_settled key bs at to out done last None (Some (m, other)) p q = never (let e = q.1 in cc)
side_settled key bs at to out done last None None p q = refl

pub rules_settled : (o : List ℕ → Rules) (most : ℕ) (bs : List ℕ) (at to : ℕ) (out done last : List ℕ) (r s : Result (ℕ × ℕ) ℕ)
    → RulesTold o most bs at to out done r → RulesTold o most bs at to out last s → r ≡ s
rules_settled o most bs at to out done last (Ok (n, next)) (Ok (m, other)) p q =
    let a : rules_are p.0 (drop next bs) ≡ rules_are q.0 (drop other bs) = sym p.1 ∙ q.1 in
    let w : p.0 ≡ q.0 = cc in
    let z : n ≡ m = sym p.2 ∙ ap (λ (x : List ℕ). length x) w ∙ q.2 in
    let e = same_end bs next other p.4 q.4 (cc) in
    cc
rules_settled o most bs at to out done last (Ok (n, next)) (Err at-line) p q = never (let e = p.1 in cc)
rules_settled o most bs at to out done last (Err at-line) (Ok (m, other)) p q = never (let e = q.1 in cc)
rules_settled o most bs at to out done last (Err one_line) (Err at-line) p q = let e : bad_at one_line ≡ bad_at at-line = sym p ∙ q in cc
