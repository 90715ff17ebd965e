-- What an operation answers and leaves, and the record of all that comes back, say the same, both ways: an answer is told by its number and place.
use mathlib.Core.Path.{◌≡◌, refl, sym, ap, ◌∙◌}
use mathlib.Core.List.{List}
use Prim.Native.Nat.{ℕ}
use Rattle.term.specs.declared.answer.Answer.{Answer}
use Rattle.term.specs.Answer.{answered}
use Rattle.term.proofs.Laws.{answered_same}
use Rattle.text.specs.TermText.{term_said, read_answer, read_words, write_answer, write_bytes, ReadTermOutcome, read_term_came, read_term_gives, WriteTermOutcome, write_term_came, write_term_gives}
use Rattle.text.specs.BookText.{book_said, read_book_answer, read_book_words, write_book_answer, write_book_bytes, ReadBookOutcome, read_book_came, read_book_gives, WriteBookOutcome, write_book_came, write_book_gives}

module _ (text : List ℕ) (room : ℕ) where
  pub read_term_gives_lem : read_term_gives text room ≡ read_term_came (answered (read_answer room (term_said text))) (read_words room (term_said text))
  unfolding read_term_gives
  read_term_gives_lem = refl

  pub read_term_said : (a : Answer) → (read_term_gives text room).said ≡ answered a → read_answer room (term_said text) ≡ a
  read_term_said a e = answered_same (read_answer room (term_said text)) a (ap (λ (o : ReadTermOutcome). o.said) (sym read_term_gives_lem) ∙ e)

  module _ (r : Answer) (out : List ℕ) where
    pub read_term_came_lem : (r ≡ read_answer room (term_said text)) × (out ≡ read_words room (term_said text)) → read_term_came (answered r) out ≡ read_term_gives text room
    read_term_came_lem e = rw (read_term_gives_lem, e.0, e.1)

    pub read_term_told : read_term_came (answered r) out ≡ read_term_gives text room → (r ≡ read_answer room (term_said text)) × (out ≡ read_words room (term_said text))
    read_term_told e =
        let f = e ∙ read_term_gives_lem in
        (answered_same r (read_answer room (term_said text)) (ap (λ (o : ReadTermOutcome). o.said) f), ap (λ (o : ReadTermOutcome). o.out) f)

module _ (term : List ℕ) (room : ℕ) where
  pub write_term_gives_lem : write_term_gives term room ≡ write_term_came (answered (write_answer room term)) (write_bytes room term)
  unfolding write_term_gives
  write_term_gives_lem = refl

  pub write_term_said : (a : Answer) → (write_term_gives term room).said ≡ answered a → write_answer room term ≡ a
  write_term_said a e = answered_same (write_answer room term) a (ap (λ (o : WriteTermOutcome). o.said) (sym write_term_gives_lem) ∙ e)

  module _ (r : Answer) (out : List ℕ) where
    pub write_term_came_lem : (r ≡ write_answer room term) × (out ≡ write_bytes room term) → write_term_came (answered r) out ≡ write_term_gives term room
    write_term_came_lem e = rw (write_term_gives_lem, e.0, e.1)

    pub write_term_told : write_term_came (answered r) out ≡ write_term_gives term room → (r ≡ write_answer room term) × (out ≡ write_bytes room term)
    write_term_told e =
        let f = e ∙ write_term_gives_lem in
        (answered_same r (write_answer room term) (ap (λ (o : WriteTermOutcome). o.said) f), ap (λ (o : WriteTermOutcome). o.out) f)

module _ (text : List ℕ) (room : ℕ) where
  pub read_book_gives_lem : read_book_gives text room ≡ read_book_came (answered (read_book_answer room (book_said text))) (read_book_words room (book_said text))
  unfolding read_book_gives
  read_book_gives_lem = refl

  pub read_book_said : (a : Answer) → (read_book_gives text room).said ≡ answered a → read_book_answer room (book_said text) ≡ a
  read_book_said a e = answered_same (read_book_answer room (book_said text)) a (ap (λ (o : ReadBookOutcome). o.said) (sym read_book_gives_lem) ∙ e)

  module _ (r : Answer) (out : List ℕ) where
    pub read_book_came_lem : (r ≡ read_book_answer room (book_said text)) × (out ≡ read_book_words room (book_said text)) → read_book_came (answered r) out ≡ read_book_gives text room
    read_book_came_lem e = rw (read_book_gives_lem, e.0, e.1)

    pub read_book_told : read_book_came (answered r) out ≡ read_book_gives text room → (r ≡ read_book_answer room (book_said text)) × (out ≡ read_book_words room (book_said text))
    read_book_told e =
        let f = e ∙ read_book_gives_lem in
        (answered_same r (read_book_answer room (book_said text)) (ap (λ (o : ReadBookOutcome). o.said) f), ap (λ (o : ReadBookOutcome). o.out) f)

module _ (book : List ℕ) (room : ℕ) where
  pub write_book_gives_lem : write_book_gives book room ≡ write_book_came (answered (write_book_answer room book)) (write_book_bytes room book)
  unfolding write_book_gives
  write_book_gives_lem = refl

  pub write_book_said : (a : Answer) → (write_book_gives book room).said ≡ answered a → write_book_answer room book ≡ a
  write_book_said a e = answered_same (write_book_answer room book) a (ap (λ (o : WriteBookOutcome). o.said) (sym write_book_gives_lem) ∙ e)

  module _ (r : Answer) (out : List ℕ) where
    pub write_book_came_lem : (r ≡ write_book_answer room book) × (out ≡ write_book_bytes room book) → write_book_came (answered r) out ≡ write_book_gives book room
    write_book_came_lem e = rw (write_book_gives_lem, e.0, e.1)

    pub write_book_told : write_book_came (answered r) out ≡ write_book_gives book room → (r ≡ write_book_answer room book) × (out ≡ write_book_bytes room book)
    write_book_told e =
        let f = e ∙ write_book_gives_lem in
        (answered_same r (write_book_answer room book) (ap (λ (o : WriteBookOutcome). o.said) f), ap (λ (o : WriteBookOutcome). o.out) f)
