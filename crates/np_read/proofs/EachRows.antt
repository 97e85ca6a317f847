-- Rows by a printer of any tokens, and values that are the same but for their places.
use Rattle.std.proofs.Common.{◌≡◌, List, [], ◌∷◌, map, refl, sym, ap, ◌∙◌}
use Rattle.std.specs.List.{All}
use Rattle.np_lex.specs.Tokens.{Lexeme, right}
use Rattle.np_read.specs.Faults.{onto}
use Rattle.np_read.specs.Marks.{each}
use Rattle.np_read.specs.Printers.{Printed, all}
use Rattle.np_read.specs.ItemReaders.{Reader, further, row}
use Rattle.np_read.proofs.Good.{Starting}
use Rattle.np_read.proofs.Spelled.{Reads, Spelled, Back, weaker, weaker_find, Avoids, AllSame, HasOne, reads_row, reads_some}

pub each_all : {A : Type 0} (f : A → Printed) (xs : List A) (ls : List Lexeme) → each f xs ls ≡ all f xs ls
each_all f [] ls = refl
each_all f (x ∷ xs) ls = ap (f x) (each_all f xs ls)

module _ {A : Type 0} {P : A → Type 0} {f : A → Printed} {S : A → A → Type 0} {p : Reader A} where
  -- by another printer that prints the same
  pub reads_again : (again : A → Printed) → ((a : A) (ls : List Lexeme) → P a → again a ls ≡ f a ls) → Reads P f S p → Reads P again S p
  reads_again again prints one = record {
    sound = λ items.
        weaker (Spelled P f items) (Spelled P again items) (p items)
        (λ a rest h. record { good = h.good; spelled = λ ls others e. h.spelled ls others e ∙ ap (λ (all_of : List Lexeme). onto all_of others) (sym (prints a ls h.good)) }) (one.sound items);
    back = λ items a ls others h e. one.back items a ls others h (e ∙ ap (λ (all_of : List Lexeme). onto all_of others) (prints a ls h));
  }

  -- by a relation that follows
  pub reads_weaker : (T : A → A → Type 0) → ((a b : A) → S a b → T a b) → Reads P f S p → Reads P f T p
  reads_weaker T follows one = record {
    sound = one.sound;
    back = λ items a ls others h e.
        weaker_find (Back S a (onto ls others)) (Back T a (onto ls others)) (p items) (λ b rest m. record { same = follows b a m.same; left_are = m.left_are }) (one.back items a ls others h e);
  }

-- two lists are the same where their values are, each made into something
pub all_mapped : {A B : Type 0} (f : A → B) (xs ys : List A) → AllSame (λ a b. f a ≡ f b) xs ys → map f xs ≡ map f ys
all_mapped f [] [] h = refl
all_mapped f [] (y ∷ ys) h = absurd h
all_mapped f (x ∷ xs) [] h = absurd h
all_mapped {B = B} f (x ∷ xs) (y ∷ ys) h = ap (λ (z : B). z ∷ map f xs) h.0 ∙ ap (λ (zs : List B). f y ∷ zs) (all_mapped f xs ys h.1)

module _ {A B : Type 0} {P : A → Type 0} {f : A → Printed} {p : Reader A} (bare : A → B) (starting : Starting p) (reads : Reads P f (λ a b. bare a ≡ bare b) p) (avoids : Avoids right p) where
  pub reads_each_row : Reads (All P) (λ (xs : List A) (ls : List Lexeme). each f xs (right ∷ ls)) (λ (xs ys : List A). map bare xs ≡ map bare ys) (row p)
  reads_each_row =
      reads_again (λ xs ls. each f xs (right ∷ ls)) (λ xs ls h. each_all f xs (right ∷ ls))
      (reads_weaker (λ xs ys. map bare xs ≡ map bare ys) (all_mapped bare) (reads_row starting reads avoids))

  -- one value at least
  pub reads_each_some : Reads (λ (xs : List A). HasOne xs × All P xs) (λ (xs : List A) (ls : List Lexeme). each f xs (right ∷ ls)) (λ (xs ys : List A). map bare xs ≡ map bare ys) (further p (row p))
  reads_each_some =
      reads_again (λ xs ls. each f xs (right ∷ ls)) (λ xs ls h. each_all f xs (right ∷ ls))
      (reads_weaker (λ xs ys. map bare xs ≡ map bare ys) (all_mapped bare) (reads_some starting reads avoids))
