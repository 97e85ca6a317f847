-- Two cuts of one list.
use Rattle.std.proofs.Common.{◌≡◌, List, [], ◌∷◌, ◌++◌, refl, sym, ap, ◌∙◌}

-- of two elements of one list, the first is before the second, or they are at the same place, or the second is before the first
pub data Cuts {A : Type 0} (front : List A) (x : A) (other_front : List A) (y : A) : Type 0 where
  before : (middle : List A) → other_front ≡ front ++ x ∷ middle → Cuts front x other_front y
  here : front ≡ other_front → x ≡ y → Cuts front x other_front y
  later : (middle : List A) → front ≡ other_front ++ y ∷ middle → Cuts front x other_front y

module _ {A : Type 0} where
  pub heads : (x y : A) (xs ys : List A) → x ∷ xs ≡ y ∷ ys → x ≡ y
  heads x y xs ys e = cc

  pub tails : (x y : A) (xs ys : List A) → x ∷ xs ≡ y ∷ ys → xs ≡ ys
  tails x y xs ys e = cc

  one_more : (w z : A) (front : List A) (x : A) (other_front : List A) (y : A) → w ≡ z → Cuts front x other_front y → Cuts (w ∷ front) x (z ∷ other_front) y
  one_more w z front x other_front y same (before middle is) = before middle (ap (λ (v : A). v ∷ other_front) (sym same) ∙ ap (λ (vs : List A). w ∷ vs) is)
  one_more w z front x other_front y same (here is also) = here (ap (λ (v : A). v ∷ front) same ∙ ap (λ (vs : List A). z ∷ vs) is) also
  one_more w z front x other_front y same (later middle is) = later middle (ap (λ (v : A). v ∷ front) same ∙ ap (λ (vs : List A). z ∷ vs) is)

  pub cuts : (front : List A) (x : A) (after other_front : List A) (y : A) (other_after : List A) → front ++ x ∷ after ≡ other_front ++ y ∷ other_after → Cuts front x other_front y
  cuts [] x after [] y other_after e = here refl (heads x y after other_after e)
  cuts [] x after (z ∷ other_front) y other_after e = before other_front (ap (λ (v : A). v ∷ other_front) (sym (heads x z after (other_front ++ y ∷ other_after) e)))
  cuts (w ∷ front) x after [] y other_after e = later front (ap (λ (v : A). v ∷ front) (heads w y (front ++ x ∷ after) other_after e))
  cuts (w ∷ front) x after (z ∷ other_front) y other_after e =
      one_more w z front x other_front y (heads w z (front ++ x ∷ after) (other_front ++ y ∷ other_after) e)
      (cuts front x after other_front y other_after (tails w z (front ++ x ∷ after) (other_front ++ y ∷ other_after) e))
