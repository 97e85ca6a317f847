-- Two flat states that stand for one state are the same.
use Rattle.std.proofs.Common.{◌≡◌, ℕ, zero, suc, ◌≤◌, ◌<◌, Bool, true, false, ◌||◌, ◌==◌, pos, refl, sym, ◌∙◌, ap, ap₂, subst, arith, List, [], ◌∷◌, length, get_or, All, inl, inr, eq-eqb, ne_eqb}
use Rattle.std.specs.Prelude.{slice_get, Some, ◌⊎◌}
use Rattle.std.proofs.lemmas.Bool.{false≢true, cases_order, cases_lt, eqb-true}
use Rattle.std.proofs.lemmas.List.{same_lists, get_or_default}
use Rattle.std.proofs.lemmas.List.Folds.{list_any_none}
use Rattle.np_frac.specs.Field.{same_whole}
use Rattle.np_model.specs.declared.task.Atom.{Atom}
use Rattle.np_model.specs.declared.task.Term.{Term}
use Rattle.np_flat.specs.Flats.{IsAscending}
use Rattle.np_flat.specs.States.{has, value_at}
use Rattle.np_flat.proofs.Ascending.{above_first, ascending_rest}
use Rattle.np_scale.specs.Laws.{StandsForOne}

-- ---- ascending numbers with the same members

-- no number below the first is among ascending ones
below_none : (n : ℕ) (xs : List ℕ) → All (λ x. n < x) xs → has xs n ≡ false
below_none n xs above = list_any_none (λ m. m == n) xs (λ k d h. ne_eqb (get_or xs k d) n (other (get_or xs k d) (above k d h)))
  where
    other : (m : ℕ) → n < m → m ≡ n → ⊥
    other m h e = omega arith

has_first : (x : ℕ) (xs : List ℕ) → has (x ∷ xs) x ≡ true
has_first x xs = ap (λ b. b || has xs x) (eq-eqb x x refl)

abbrev HaveSame : List ℕ → List ℕ → Type 0
HaveSame xs ys = (n : ℕ) → has xs n ≡ has ys n

nil_cons : (y : ℕ) (ys : List ℕ) → HaveSame [] (y ∷ ys) → false ≡ true
nil_cons y ys same = same y ∙ has_first y ys

-- the first is the same
less_first : (x y : ℕ) (xs ys : List ℕ) → IsAscending (y ∷ ys) → HaveSame (x ∷ xs) (y ∷ ys) → x < y → ⊥
less_first x y xs ys up same less =
    false≢true (sym (ap (λ b. b || has ys x) (ne_eqb y x (other x y less)) ∙ below_none x ys (λ k d h. through x y (get_or ys k d) less (above_first y ys up k d h))) ∙ sym (same x) ∙ has_first x xs)
  where
    other : (x y : ℕ) → x < y → y ≡ x → ⊥
    other x y h e = omega arith

    through : (x y z : ℕ) → x < y → y < z → x < z
    through x y z h j = omega arith

-- and so are the others
rest_same : (x : ℕ) (xs ys : List ℕ) → IsAscending (x ∷ xs) → IsAscending (x ∷ ys) → HaveSame (x ∷ xs) (x ∷ ys) → HaveSame xs ys
rest_same x xs ys up down same n = by (x == n) refl (same n)
  where
    by : (b : Bool) → (x == n) ≡ b → (b || has xs n) ≡ (b || has ys n) → has xs n ≡ has ys n
    by false other e = e
    by true is e = at_first xs up ∙ sym (at_first ys down)
      where
        at_first : (zs : List ℕ) → IsAscending (x ∷ zs) → has zs n ≡ false
        at_first zs rise = subst (λ m. has zs m ≡ false) (eqb-true x n is) (below_none x zs (above_first x zs rise))

pub same_numbers : (xs ys : List ℕ) → IsAscending xs → IsAscending ys → HaveSame xs ys → xs ≡ ys
same_numbers [] [] up down same = refl
same_numbers [] (y ∷ ys) up down same = absurd (false≢true (nil_cons y ys same))
same_numbers (x ∷ xs) [] up down same = absurd (false≢true (nil_cons x xs (λ n. sym (same n))))
same_numbers (x ∷ xs) (y ∷ ys) up down same = by (cases_order x y) (λ e. same_numbers xs ys (ascending_rest x xs up) (ascending_rest y ys down) (rest_same x xs ys up (subst (λ m. IsAscending (m ∷ ys)) (sym e) down) (λ n. same n ∙ ap (λ m. has (m ∷ ys) n) (sym e))))
  where
    by : (x ≡ y) ⊎ ((x < y) ⊎ (y < x)) → (x ≡ y → xs ≡ ys) → (x ∷ xs) ≡ (y ∷ ys)
    by (inl e) rest = ap₂ (λ m ms. m ∷ ms) e (rest e)
    by (inr (inl less)) rest = absurd (less_first x y xs ys down same less)
    by (inr (inr less)) rest = absurd (less_first y x ys xs up (λ n. sym (same n)) less)

-- ---- facts and values

-- what is at a place
item : {A : Type 0} (xs : List A) (n : ℕ) → n < length xs → (a : A) × (slice_get xs n ≡ Some a)
item [] n h = absurd (omega arith)
item (x ∷ xs) zero h = (x, refl)
item (x ∷ xs) (suc n) h = item xs n (omega arith)

-- a number past the limit is in no list of numbers below it
past_none : (limit n : ℕ) (xs : List ℕ) → All (λ x. x < limit) xs → limit ≤ n → has xs n ≡ false
past_none limit n xs within past = list_any_none (λ m. m == n) xs (λ k d h. ne_eqb (get_or xs k d) n (other (get_or xs k d) (within k d h)))
  where
    other : (m : ℕ) → m < limit → m ≡ n → ⊥
    other m h e = omega arith

pub stands_for_one : StandsForOne
stands_for_one flat s f g h k = λ i. record { facts = same_facts i; values = same_values i }
  where
    same_has : HaveSame f.facts g.facts
    same_has n = by (cases_lt n (length flat.facts))
      where
        by : (n < length flat.facts) ⊎ (length flat.facts ≤ n) → has f.facts n ≡ has g.facts n
        by (inl within) = at (item flat.facts n within)
          where
            at : (a : Atom) × (slice_get flat.facts n ≡ Some a) → has f.facts n ≡ has g.facts n
            at p = h.facts n p.0 p.1 ∙ sym (k.facts n p.0 p.1)
        by (inr past) = past_none (length flat.facts) n f.facts h.state.facts_are.within past ∙ sym (past_none (length flat.facts) n g.facts k.state.facts_are.within past)

    same_facts : f.facts ≡ g.facts
    same_facts = same_numbers f.facts g.facts h.state.facts_are.ascending k.state.facts_are.ascending same_has

    same_value : (n : ℕ) → n < length flat.values → value_at f.values n ≡ value_at g.values n
    same_value n within = at (item flat.values n within)
      where
        at : (t : Term) × (slice_get flat.values n ≡ Some t) → value_at f.values n ≡ value_at g.values n
        at p = same_whole (value_at f.values n) (value_at g.values n) (h.values n p.0 p.1 ∙ sym (k.values n p.0 p.1))

    same_values : f.values ≡ g.values
    same_values =
        same_lists f.values g.values (h.state.count ∙ sym k.state.count)
        (λ n d within. get_or_default f.values n d (pos 0) within ∙ same_value n (subst (λ m. n < m) h.state.count within) ∙ sym (get_or_default g.values n d (pos 0) (subst (λ m. n < m) (h.state.count ∙ sym k.state.count) within)))
