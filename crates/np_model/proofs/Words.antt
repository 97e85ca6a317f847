-- The test of reserved words decides which they are.
use Rattle.std.proofs.Common.{◌≡◌, ℕ, refl, sym, Decides, List}
use Rattle.std.specs.List.{Contains, list_any}
use Rattle.std.specs.Str.{bytes_eq}
use Rattle.std.proofs.lemmas.List.Elements.{Decides-contains}
use Rattle.std.proofs.lemmas.Bool.Decides.{Decides-by_or}
use Rattle.std.proofs.lemmas.Slice.Eq.{bytes_eq-Decides}
use Rattle.np_model.specs.Names.{reserved, is_reserved}

-- a word of a list passes the test
listed : (text : List ℕ) (words : List (List ℕ)) → Decides (list_any (bytes_eq text) words) (Contains words text)
listed text words =
    Decides-contains words text (list_any (bytes_eq text) words)
    (Decides-by_or (bytes_eq text) (λ w. w ≡ text) (list_any (bytes_eq text))
    (λ w. (λ e. sym ((bytes_eq-Decides text w).0 e), λ e. (bytes_eq-Decides text w).1 (sym e))) refl (λ _ _. refl) words)

pub is_reserved-Decides : (text : List ℕ) → Decides (is_reserved text) (Contains reserved text)
is_reserved-Decides text = listed text reserved
