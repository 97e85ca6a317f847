-- What is read of a row of values with tails stands where it says.
use Rattle.std.proofs.Common.{List}
use Rattle.std.specs.List.{All}
use Rattle.np_lex.specs.Tokens.{Lexeme, Item, right}
use Rattle.np_read.specs.Marks.{Marking, Fits}
use Rattle.np_read.specs.ItemReaders.{Reader}
use Rattle.np_read.proofs.Spelled.{Gets, weaker}
use Rattle.np_read.proofs.Marked.{Marked, Placed, plain, is_plain}
use Rattle.np_words.specs.TailedRows.{tailed_row}
use Rattle.np_words.proofs.TailedKept.{GoodEntry, print_row, Kept, row_kept}

module _ {A : Type 0} (P : A → Type 0) (f : A → Marking) (p : Reader A) where
  marked_kept : ((items : List Item) → Gets (Marked P f items) (p items)) → (items : List Item) → Gets (Kept Fits P f items) (p items)
  marked_kept placed items = weaker (Marked P f items) (Kept Fits P f items) (p items) (λ a rest h. record { good = h.good; kept = h.fits }) (placed items)

  kept_marked : ((items : List Item) → Gets (Kept Fits P f items) (p items)) → (items : List Item) → Gets (Marked P f items) (p items)
  kept_marked keeps items = weaker (Kept Fits P f items) (Marked P f items) (p items) (λ a rest h. record { good = h.good; fits = h.kept }) (keeps items)

module _ {A B : Type 0} {P : A → Type 0} {Q : B → Type 0} {f : A → Marking} {g : B → Marking} {p : Reader A} {q : Reader B} where
  pub placed_tailed : (lexeme : Lexeme) → Placed P f p → Placed Q g q → Placed (All (GoodEntry P Q)) (print_row f (plain lexeme) (plain right) g) (tailed_row p lexeme q)
  placed_tailed lexeme one two = record {
    placed =
        kept_marked (All (GoodEntry P Q)) (print_row f (plain lexeme) (plain right) g) (tailed_row p lexeme q)
        (row_kept Fits P Q f g lexeme plain (λ marker item rest ms others is e. (is_plain item marker is, e)) p q (marked_kept P f p one.placed) (marked_kept Q g q two.placed));
  }
