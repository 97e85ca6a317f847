-- What may be missing is read as it is spelled, and stands where it says.
use Rattle.std.proofs.Common.{◌≡◌, inl, inr, ℕ, false, List, [], ◌∷◌, Option, None, Some, refl, ap, subst}
use Rattle.std.specs.Option.{option_map}
use Rattle.np_lex.specs.Tokens.{Lexeme}
use Rattle.np_read.specs.Marks.{Marking}
use Rattle.np_read.specs.Same.{same_lexeme}
use Rattle.np_read.specs.Printers.{Printed}
use Rattle.np_read.specs.ItemReaders.{Reader, both, made}
use Rattle.np_read.proofs.Good.{Good, Starts, good_of}
use Rattle.np_read.proofs.GoodParts.{either_nothing, starts_either, starts_made, good_made, good_both}
use Rattle.np_read.proofs.Spelled.{Reads, Avoids, Made, GoodPair, reads_both, reads_made, reads_same}
use Rattle.np_read.proofs.Marked.{Placed, plain, placed_both, placed_made, placed_same}
use Rattle.np_read.proofs.PlacedParts.{Refuses, MadeOr, made_refuses, either_refuses, reads_either_made, placed_either_made}
use Rattle.np_syntax.specs.SectionText.{IfGiven}
use Rattle.np_syntax.specs.SectionForm.{given}
use Rattle.np_syntax.proofs.Declarations.{other_lexeme}

-- a value where it is given, after this token
abbrev pub print_given : {T A : Type 0} → T → (A → List T → List T) → Option A → List T → List T
print_given token f None ts = ts
print_given token f (Some a) ts = token ∷ f a ts

abbrev pub print_both : {T A B : Type 0} → T → (A → List T → List T) → (B → List T → List T) → Option A × B → List T → List T
print_both token f g x ts = print_given token f x.0 (g x.1 ts)

abbrev pub GoodGiven : {A B : Type 0} → (A → Type 0) → (B → Type 0) → Option A × B → Type 0
GoodGiven P Q x = IfGiven P x.0 × Q x.1

-- the same but for places
abbrev pub SameGiven : {A B : Type 0} → (A → A) → (B → B → Type 0) → Option A × B → Option A × B → Type 0
SameGiven bare T x y = (option_map bare x.0 ≡ option_map bare y.0) × T x.1 y.1

abbrev with_some : {A B : Type 0} → A × B → Option A × B
with_some x = (Some x.0, x.1)

abbrev with_none : {A B : Type 0} → B → Option A × B
with_none b = (None, b)

module _ {A B : Type 0} (P : A → Type 0) (Q : B → Type 0) where
  abbrev EitherWay : Option A × B → Type 0
  EitherWay = MadeOr with_some (GoodPair P Q) (Made with_none Q)

  to_given : (x : Option A × B) → EitherWay x → GoodGiven P Q x
  to_given x (inl h) = subst (GoodGiven P Q) h.2 h.4
  to_given x (inr h) = subst (GoodGiven P Q) h.1 (tt, h.2)

  from_given_by : (o : Option A) (b : B) → IfGiven P o → Q b → EitherWay (o, b)
  from_given_by None b h k = inr (b, refl, k)
  from_given_by (Some a) b h k = inl (tt, (a, b), refl, tt, (h, k))

  from_given : (x : Option A × B) → GoodGiven P Q x → EitherWay x
  from_given x h = from_given_by x.0 x.1 h.0 h.1

module _ {A B : Type 0} (lexeme : Lexeme) (p : Reader A) (q : Reader B) where
  pub starts_given : (k : ℕ) → Good k p → Starts k q → Starts k (given lexeme p q)
  starts_given k one two =
      starts_either k lexeme (made with_some (both p q)) (made with_none q) (good_made k with_some (both p q) (good_both k p q one (good_of k q two))) (starts_made k with_none q two).tries

  pub given_nothing : Refuses (given lexeme p q) []
  given_nothing = either_nothing lexeme (made with_some (both p q)) (made with_none q)

  pub given_avoids : (other : Lexeme) → same_lexeme other lexeme ≡ false → Avoids other q → Avoids other (given lexeme p q)
  given_avoids other differ avoids item items is =
      either_refuses lexeme (made with_some (both p q)) (made with_none q) item items (other_lexeme other lexeme item.piece differ is) (made_refuses with_none q (item ∷ items) (avoids item items is))

module _ {A B : Type 0} {P : A → Type 0} {Q : B → Type 0} {f : A → Printed} {g : B → Printed} {T : B → B → Type 0} {p : Reader A} {q : Reader B} where
  pub reads_given : (lexeme : Lexeme) (bare : A → A) → Reads P f (λ a b. bare a ≡ bare b) p → Reads Q g T q → Refuses q [] → Avoids lexeme q → Reads (GoodGiven P Q) (print_both lexeme f g) (SameGiven bare T) (given lexeme p q)
  reads_given lexeme bare one two nothing avoids =
      reads_same (GoodGiven P Q) (to_given P Q) (from_given P Q)
      (reads_either_made lexeme with_some (λ x ls. refl) (λ x y h. (ap (λ (a : A). Some a) h.0, h.1)) (reads_both one two)
      (reads_made with_none (print_both lexeme f g) (SameGiven bare T) (λ b ls. refl) (λ a b h. (refl, h)) two)
      (made_refuses with_none q [] nothing) (λ item items is. made_refuses with_none q (item ∷ items) (avoids item items is)))

module _ {A B : Type 0} {P : A → Type 0} {Q : B → Type 0} {f : A → Marking} {g : B → Marking} {p : Reader A} {q : Reader B} where
  pub placed_given : (lexeme : Lexeme) → Placed P f p → Placed Q g q → Placed (GoodGiven P Q) (print_both (plain lexeme) f g) (given lexeme p q)
  placed_given lexeme one two =
      placed_same (GoodGiven P Q) (to_given P Q)
      (placed_either_made lexeme with_some (λ x ms. refl) (placed_both one two) (placed_made with_none (print_both (plain lexeme) f g) (λ b ms. refl) two))
