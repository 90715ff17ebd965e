-- An Option that a function must have is refused, by `ok_or` and `?`, only where it is none, and with the answer that was given for that.
use mathlib.Core.Path.{◌≡◌, refl}
use mathlib.Core.Bool.{true, false}
use Rattle.std.specs.Prelude.{Option, Some, None, Result, Ok, Err, MatchResult}
use Rattle.std.specs.Option.{ok_or}
use Rattle.std.specs.Result.{IsErrAnd, is_err}
use Rattle.term.specs.declared.answer.Answer.{Answer}

pub refused_as : {T U : Type 0} (o : Option T) (a e : Answer) (r : Result U Answer) → Err e ≡ ok_or o a → IsErrAnd r (λ (y : Answer). y ≡ e) → r ≡ Err a
refused_as (Some x) a e r q h = absurd (cc)
refused_as None a e (Ok y) q h = absurd h
refused_as None a e (Err y) q h = cc

-- and a Result that `map_err` gives one answer for, only where it is an error
pub mapped_as : {T U E : Type 0} (r : Result T E) (m : Result T Answer) (a b : Answer) (q : Result U Answer) → MatchResult r (λ x. m ≡ Ok x) (λ _. IsErrAnd m (λ y. y ≡ a)) → m ≡ Err b
    → IsErrAnd q (λ y. y ≡ b) → (is_err r ≡ true) × (q ≡ Err a)
mapped_as (Ok x) m a b q k e h = absurd (cc)
mapped_as (Err x) (Ok y) a b q k e h = absurd k
mapped_as (Err x) (Err y) a b (Ok z) k e h = absurd h
mapped_as (Err x) (Err y) a b (Err z) k e h = (refl, cc)

pub kept_as : {T E : Type 0} (r : Result T E) (m : Result T Answer) (a : Answer) (x : T) → MatchResult r (λ x. m ≡ Ok x) (λ _. IsErrAnd m (λ y. y ≡ a)) → m ≡ Ok x → is_err r ≡ false
kept_as (Ok x) m a y k e = refl
kept_as (Err x) (Ok y) a z k e = absurd k
kept_as (Err x) (Err y) a z k e = absurd (cc)
