-- What compiling answers, leaves and says, way by way: the book, and then whether the tree that the tables stand for has room.
use mathlib.Core.Path.{◌≡◌, refl, sym, ap, ◌∙◌}
use mathlib.Core.Bool.{Bool, true, false, ◌&&◌}
use mathlib.Core.List.{List}
use Prim.Native.Nat.{ℕ, ◌-◌, ◌≤◌, ◌<◌}
use native.Mathlib.Omega.{arith}
use lib.Dec.{leb}
use lib.ListN.{length, get_or, replicate}
use lib.Seq.{sets}
use borrow.Author.Tests.{le-leb, leb-true}
use Rattle.std.specs.Prelude.{Ok, Err, Some, None}
use Rattle.term.specs.declared.answer.Answer.{Answer}
use Rattle.term.specs.declared.answer.Answer.TheVariants as answer
use Rattle.term.specs.Answer.{answered}
use Rattle.term.proofs.Laws.{wrote, zero_at}
use Rattle.book.specs.Accept.{accept}
use Rattle.book.proofs.Laws.{good_accepted}
use Rattle.tree.specs.Path.{start}
use Rattle.tree.specs.Compile.{book_rows}
use Rattle.tree.specs.Root.{root_tree, book_tree}
use Rattle.tree.specs.Layout.{tree_words, long, layout}
use Rattle.compiler.specs.Told.Stands.{rows_left, Stands}
use Rattle.compiler.specs.Told.RootTold.{RootTold}
use Rattle.compiler.specs.Compiled.{has_room, compile_answer, compile_words, compile_length, compile_came, compile_gives}
use Rattle.tree.proofs.Laws.{length_layout, tree_words_lem, book_tree_is}

-- ---- room
room_there : (room : ℕ) (ws : List ℕ) → length ws ≤ room - (room - 16384) → has_room room ws ≡ true
unfolding has_room
room_there room ws h = rw (le-leb (length ws) 16384 (omega (arith, h)), le-leb (length ws) room (omega (arith, h)))

no_room_there : (room : ℕ) (ws : List ℕ) → room - (room - 16384) < length ws → has_room room ws ≡ false
unfolding has_room
no_room_there room ws h = go (leb (length ws) 16384) refl (leb (length ws) room) refl
  where
    go : (a : Bool) → leb (length ws) 16384 ≡ a → (b : Bool) → leb (length ws) room ≡ b → a && b ≡ false
    go true p true q = absurd (omega (arith, h, leb-true (length ws) 16384 p, leb-true (length ws) room q))
    go true p false q = refl
    go false p b q = refl

-- ---- the operation
module _ (room : ℕ) (book out : List ℕ) where
  pub compile_refused : (a : Answer) → accept book ≡ Err a → out ≡ replicate room 0 → compile_came (answered a) 0 out ≡ compile_gives book room
  unfolding compile_gives compile_answer compile_words compile_length
  compile_refused a r e = rw r (ap (compile_came (answered a) 0) e)

  module _ (sound : accept book ≡ Ok tt) where
    wrote_tree : length (tree_words book) ≤ room - (room - 16384) → out ≡ sets (replicate room 0) 0 (tree_words book) → compile_came (answered answer.Done) (length (tree_words book)) out ≡ compile_gives book room
    unfolding compile_gives compile_answer compile_words compile_length
    wrote_tree h e =
        rw (sound, room_there room (tree_words book) h) (ap (compile_came (answered answer.Done) (length (tree_words book))) (wrote room (tree_words book) out (omega (arith, h)) e).1)

    short_tree : room - (room - 16384) < length (tree_words book) → out ≡ replicate room 0 → compile_came (answered answer.Short) 0 out ≡ compile_gives book room
    unfolding compile_gives compile_answer compile_words compile_length
    short_tree h e = rw (sound, no_room_there room (tree_words book) h) (ap (compile_came (answered answer.Short) 0) e)

-- ---- what is told of the tree at the start of a path
module _ (book fixed nums marks : List ℕ) (stands : Stands book fixed nums marks 1 start) (rows : rows_left book marks 0 64 ≡ book_rows book 0 (get_or book 0 0)) where
  tree_is : root_tree (rows_left book marks 0 64) ≡ book_tree book
  tree_is = ap root_tree rows ∙ sym (book_tree_is book)

  words_are : layout 0 (root_tree (rows_left book marks 0 64)) ≡ tree_words book
  words_are = ap (layout 0) tree_is ∙ sym (tree_words_lem book)

  long_is : long (root_tree (rows_left book marks 0 64)) ≡ length (tree_words book)
  long_is = sym (length_layout 0 (root_tree (rows_left book marks 0 64))) ∙ ap length words_are

  sound : accept book ≡ Ok tt
  sound = good_accepted book stands.accepted

  module _ (room limit : ℕ) (most : limit ≡ room - (room - 16384)) (out done : List ℕ) (clear : out ≡ replicate room 0) where
    told_long : (a : ℕ) → RootTold book fixed nums marks limit out done (Some a) → (a ≡ length (tree_words book)) × (done ≡ sets (replicate room 0) 0 (tree_words book))
    unfolding RootTold
    told_long a t =
        let s = t stands in
        (omega (arith, s.0, long_is), s.1 ∙ rw (words_are, clear))

    pub compile_done : (a : ℕ) → RootTold book fixed nums marks limit out done (Some a) → a ≤ limit → compile_came (answered answer.Done) a done ≡ compile_gives book room
    compile_done a t h = let s = told_long a t in rw s.0 (wrote_tree room book done sound (omega (arith, h, s.0, most)) s.1)

    pub compile_over : (a : ℕ) → RootTold book fixed nums marks limit out done (Some a) → limit < a → (last : List ℕ) → last ≡ replicate room 0 → compile_came (answered answer.Short) 0 last ≡ compile_gives book room
    compile_over a t h last z = short_tree room book last sound (omega (arith, h, (told_long a t).0, most)) z

    pub compile_stuck : RootTold book fixed nums marks limit out done None → (last : List ℕ) → last ≡ replicate room 0 → compile_came (answered answer.Short) 0 last ≡ compile_gives book room
    unfolding RootTold
    compile_stuck t last z = short_tree room book last sound (omega (arith, t stands, long_is, most)) z

-- ---- cleared tables
pub zeros_clear : (n : ℕ) (l : List ℕ) → l ≡ replicate n 0 → (k : ℕ) → get_or l k 0 ≡ 0
zeros_clear n l e k = ap (λ (v : List ℕ). get_or v k 0) e ∙ zero_at n k
