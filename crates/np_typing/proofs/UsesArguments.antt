-- Arguments one after the other: no fault so far, and what they stand for so far.
use Rattle.std.proofs.Common.{◌≡◌, ℕ, zero, suc, ◌+◌, ◌<◌, List, [], ◌∷◌, ◌++◌, map, take, drop, length, get_or, refl, sym, ap, ◌∙◌, arith}
use Rattle.std.proofs.lemmas.List.{length-map, drop_more, map_more}
use Rattle.np_words.specs.declared.word.Word.{Word}
use Rattle.np_words.specs.declared.word.Ident.{Ident}
use Rattle.np_words.specs.declared.word.Ident.TheVariants as ident
use Rattle.np_names.specs.declared.fault.TypeFault.{TypeFault}
use Rattle.np_names.specs.Answers.{IsFirst}
use Rattle.np_typing.specs.Scopes.{Scope}
use Rattle.np_typing.specs.Uses.{argument_faults, arguments_faults}
use Rattle.np_names.proofs.Answering.{first_front}
use Rattle.np_typing.proofs.UsesAnswers.{first_same}

-- the next argument
pub arguments_more : (scope : Scope) (wanted : List ℕ) (idents : List Ident) (i : ℕ) (x : Ident)
    → i < length wanted → length wanted ≡ length idents → x ≡ get_or idents i x
    → arguments_faults scope (drop i wanted) (drop i idents) ≡ argument_faults scope (get_or wanted i 0) x ++ arguments_faults scope (drop (i + 1) wanted) (drop (i + 1) idents)
arguments_more scope wanted idents i x within same is =
    let inside : i < length idents = omega arith in
    ap (λ ws. arguments_faults scope ws (drop i idents)) (drop_more wanted i 0 within)
    ∙ ap (λ xs. arguments_faults scope (get_or wanted i 0 ∷ drop (i + 1) wanted) xs) (drop_more idents i x inside)
    ∙ ap (λ y. argument_faults scope (get_or wanted i 0) y ++ arguments_faults scope (drop (i + 1) wanted) (drop (i + 1) idents)) (sym is)

-- the next argument has no fault
pub arguments_left : (scope : Scope) (wanted : List ℕ) (idents : List Ident) (i : ℕ) (x : Ident) (all : List TypeFault)
    → i < length wanted → length wanted ≡ length idents → x ≡ get_or idents i x
    → all ≡ arguments_faults scope (drop i wanted) (drop i idents) → argument_faults scope (get_or wanted i 0) x ≡ []
    → all ≡ arguments_faults scope (drop (i + 1) wanted) (drop (i + 1) idents)
arguments_left scope wanted idents i x all within same is so_far none =
    so_far ∙ arguments_more scope wanted idents i x within same is
    ∙ ap (λ fs. fs ++ arguments_faults scope (drop (i + 1) wanted) (drop (i + 1) idents)) none

-- it has one
pub arguments_fault : (scope : Scope) (wanted : List ℕ) (idents : List Ident) (i : ℕ) (x : Ident) (all : List TypeFault) (fault : TypeFault)
    → i < length wanted → length wanted ≡ length idents → x ≡ get_or idents i x
    → all ≡ arguments_faults scope (drop i wanted) (drop i idents) → IsFirst (argument_faults scope (get_or wanted i 0) x) fault
    → IsFirst all fault
arguments_fault scope wanted idents i x all fault within same is so_far h =
    first_same _ _ fault (so_far ∙ arguments_more scope wanted idents i x within same is) (first_front (argument_faults scope (get_or wanted i 0) x) (arguments_faults scope (drop (i + 1) wanted) (drop (i + 1) idents)) fault h)

-- what a list gives, with one more
pub mapped_more : {X Y : Type 0} (f : X → Y) (xs : List X) (ys : List Y) (i : ℕ) (x : X) (y : Y)
    → i < length xs → x ≡ get_or xs i x → ys ≡ map f (take i xs) → y ≡ f x → ys ++ y ∷ [] ≡ map f (take (i + 1) xs)
mapped_more f xs ys i x y within is so_far one =
    ap (λ zs. zs ++ y ∷ []) so_far ∙ ap (λ z. map f (take i xs) ++ z ∷ []) (one ∙ ap f is) ∙ sym (map_more f xs i x within)

-- words as names
pub get_or-names : (words : List Word) (i : ℕ) (w : Word) → i < length words → get_or (map ident.Name words) i (ident.Name w) ≡ ident.Name (get_or words i w)
get_or-names [] i w within = refl
get_or-names (x ∷ words) zero w within = refl
get_or-names (x ∷ words) (suc i) w within = get_or-names words i w (omega arith)

-- as many names as words
pub same_length : (wanted : List ℕ) (words : List Word) → length wanted ≡ length words → length wanted ≡ length (map ident.Name words)
same_length wanted words e = e ∙ sym (length-map words ident.Name)

-- the next word as a name
pub name_at : (wanted : List ℕ) (words : List Word) (i : ℕ) (w : Word) → i < length wanted → length wanted ≡ length words → w ≡ get_or words i w
    → ident.Name w ≡ get_or (map ident.Name words) i (ident.Name w)
name_at wanted words i w within same is =
    ap ident.Name is ∙ sym (get_or-names words i w (omega arith))
