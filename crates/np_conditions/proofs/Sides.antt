-- A value that keeps the place of its first token beside what is read.
use Rattle.std.proofs.Common.{◌≡◌, inl, inr, ℕ, List, [], ◌∷◌, ◌++◌, Ok, Err, refl, sym, ap, subst, ◌∙◌}
use Rattle.std.specs.List.{AllByRecursion}
use Rattle.np_lex.specs.declared.token.Place.{Place}
use Rattle.np_lex.specs.Tokens.{Lexeme, Item}
use Rattle.np_read.specs.Faults.{onto}
use Rattle.np_read.specs.Marks.{Mark, Marking, Fits}
use Rattle.np_read.specs.Printers.{Printed}
use Rattle.np_read.specs.ItemReaders.{Outcome, Reader, and_then, made}
use Rattle.np_read.proofs.Good.{Goes, Branch, Tries, Starts}
use Rattle.np_read.proofs.GoodParts.{good_made}
use Rattle.np_read.proofs.Marked.{Marked, Placed}
use Rattle.np_read.proofs.Spelled.{Spelled, Back, Reads, then_at, then_find}
use Rattle.np_conditions.specs.ConditionForm.{place_in}
use Rattle.np_words.specs.Text.{marked}
use Rattle.np_words.proofs.ExprBegins.{Begins}

module _ {A B : Type 0} (make : A → Place → B) (p : Reader A) where
  -- the value with the place of its first token
  abbrev pub kept : Reader B
  kept items = made (λ a. make a (place_in items)) p items

  -- ---- good

  branch_kept : (k : ℕ) (item : Item) → Branch k p item → Branch k kept item
  branch_kept k item (inl refuses) = inl (λ rest. ap (λ (x : Outcome A). and_then x (λ a last. Ok (make a item.place, last))) (refuses rest))
  branch_kept k item (inr good) = inr (good_made k (λ a. make a item.place) (λ rest. p (item ∷ rest)) good)

  pub tries_kept : (k : ℕ) → Tries k p → Tries k kept
  tries_kept k tries = record {
    nothing = ap (λ (x : Outcome A). and_then x (λ a last. Ok (make a (place_in []), last))) tries.nothing;
    each = λ item. branch_kept k item (tries.each item);
  }

  goes_kept : (more : List Item) (a : A) → p [] ≡ Err [] → ((other : List Item) → p (more ++ other) ≡ Ok (a, other)) → Goes kept []
  goes_kept [] a nothing reads = absurd (let yes = reads [] in cc)
  goes_kept (item ∷ more) a nothing reads = record {
    more = item ∷ more;
    value = make a item.place;
    reads = λ other. ap (λ (x : Outcome A). and_then x (λ b last. Ok (make b item.place, last))) (reads other);
  }

  pub starts_kept : (k : ℕ) → Starts k p → Starts k kept
  starts_kept k starts = record { tries = tries_kept k starts.tries; some = goes_kept starts.some.more starts.some.value starts.tries.nothing starts.some.reads }

  pub kept_refuses : (items : List Item) → p items ≡ Err items → kept items ≡ Err items
  kept_refuses items refuses = ap (λ (x : Outcome A). and_then x (λ a last. Ok (make a (place_in items), last))) refuses

  -- ---- what is read is spelled so, and back

  -- a value that is made of a good one
  abbrev pub MadeAt : (A → Type 0) → B → Type 0
  MadeAt P b = (a : A) × (place : Place) × (make a place ≡ b) × P a

  module _ {P : A → Type 0} {f : A → Printed} {S : A → A → Type 0} (print : B → Printed) (T : B → B → Type 0) where
    pub reads_kept : ((a : A) (place : Place) (ls : List Lexeme) → print (make a place) ls ≡ f a ls) → ((a b : A) (at also : Place) → S a b → T (make a at) (make b also)) → Reads P f S p → Reads (λ (b : B). MadeAt P b) print T kept
    reads_kept prints same one = record {
      sound = λ items.
          then_at (Spelled P f items) (Spelled (λ b. MadeAt P b) print items) (λ a rest. Ok (make a (place_in items), rest)) (p items) (one.sound items)
          (λ a rest h. record { good = (a, place_in items, refl, h.good); spelled = λ ls others e. h.spelled ls others e ∙ ap (λ (all_of : List Lexeme). onto all_of others) (sym (prints a (place_in items) ls)) });
      back = λ items b ls others h e.
          then_find (Back S h.0 (onto ls others)) (Back T b (onto ls others)) (λ a rest. Ok (make a (place_in items), rest)) (p items)
          (one.back items h.0 ls others h.3 (e ∙ ap (λ (c : B). onto (print c ls) others) (sym h.2) ∙ ap (λ (all_of : List Lexeme). onto all_of others) (prints h.0 h.1 ls)))
          (λ a rest m. record { same = subst (T (make a (place_in items))) h.2 (same a h.0 (place_in items) h.1 m.same); left_are = m.left_are });
    }

  -- ---- it stands where it says

  module _ {P : A → Type 0} (marks : A → List Place → Marking) (print : B → Marking) where
    pub placed_kept : ((a : A) (place : Place) (ms : List Mark) → print (make a place) ms ≡ marks a (place ∷ []) ms)
        → ((a : A) (items : List Item) (ms : List Mark) (others : List Item) → P a → Fits items (marks a [] ms) others → Fits items (marks a (place_in items ∷ []) ms) others)
        → Placed P (λ (a : A) (ms : List Mark). marks a [] ms) p → Placed (λ (b : B). MadeAt P b) print kept
    placed_kept same more one = record {
      placed = λ items.
          then_at (Marked P (λ a ms. marks a [] ms) items) (Marked (λ b. MadeAt P b) print items) (λ a rest. Ok (make a (place_in items), rest)) (p items) (one.placed items)
          (λ a rest h. record {
            good = (a, place_in items, refl, h.good);
            fits = λ ms others e. subst (λ (all_of : List Mark). Fits items all_of others) (sym (same a (place_in items) ms)) (more a items ms others h.good (h.fits ms others e));
          });
    }

-- ---- one place more for the first token

all_more : (place : Place) (own : List Place) → AllByRecursion (λ q. q ≡ place) (own ++ []) → AllByRecursion (λ q. q ≡ place) (own ++ place ∷ [])
all_more place [] h = (refl, tt)
all_more place (q ∷ own) h = (h.0, all_more place own h.1)

fits_more : (items : List Item) (lexeme : Lexeme) (own : List Place) (rest : List Mark) (others : List Item) → Fits items (marked (own ++ []) lexeme ∷ rest) others → Fits items (marked (own ++ place_in items ∷ []) lexeme ∷ rest) others
fits_more [] lexeme own rest others h = h
fits_more (item ∷ items) lexeme own rest others h = (record { piece = h.0.piece; places = all_more item.place own h.0.places }, h.1)

-- it stands at the place of the first item too
pub begins_more : (shown : List Place → List Mark) → Begins marked shown → (items others : List Item) → Fits items (shown []) others → Fits items (shown (place_in items ∷ [])) others
begins_more shown begins items others h =
    subst (λ (all_of : List Mark). Fits items all_of others) (sym (begins.is (place_in items ∷ [])))
    (fits_more items begins.lexeme begins.own begins.rest others (subst (λ (all_of : List Mark). Fits items all_of others) (begins.is []) h))
