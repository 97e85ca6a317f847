-- Where following parents leads, and which objects fit which parameters.
use Rattle.std.proofs.Common.{◌≡◌, ◌≢◌, ℕ, zero, suc, ◌<◌, ◌≤◌, false, true, refl, sym, ◌∙◌, ap, ap₂, List, [], ◌∷◌, length, map, drop, get_or, eq-eqb}
use Rattle.std.specs.Prelude.{◌||◌, ◌&&◌, ◌==◌}
use Rattle.std.proofs.Math.Bool.{and-false}
use Rattle.std.proofs.Math.Seq.{drop-cons}
use Rattle.std.proofs.lemmas.List.{drop_all}
use Rattle.np_model.specs.declared.task.TypeName.{TypeName}
use Rattle.np_model.specs.declared.task.Object.{Object}
use Rattle.np_model.specs.Types.{parent_of, leads_within, type_of, fits, all_fit}

pub leads_on : (types : List TypeName) (n m at over : ℕ) → n ≡ suc m → (at == over) ≡ false → leads_within types n at over ≡ leads_within types m (parent_of types at) over
leads_on types n m at over e h = rw (e, h) refl

pub leads_here : (types : List TypeName) (n m at over : ℕ) → n ≡ suc m → at ≡ over → leads_within types n at over ≡ true
leads_here types n m at over e h = rw (e, eq-eqb at over h) refl

-- a type that is its own parent leads to itself alone
pub leads_nowhere : (types : List TypeName) (n at over : ℕ) → parent_of types at ≡ at → (at == over) ≡ false → leads_within types n at over ≡ false
leads_nowhere types zero at over e h = h
leads_nowhere types (suc n) at over e h =
    ap (λ b. b || leads_within types n (parent_of types at) over) h ∙ ap (λ k. leads_within types n k over) e ∙ leads_nowhere types n at over e h

-- one for each of the parameters, where the first fits
pub fit_on : (types : List TypeName) (own : List Object) (wanted given : List ℕ) (i : ℕ) (w g : ℕ) → i < length wanted → i < length given → w ≡ get_or wanted i w → g ≡ get_or given i g
    → fits types w (type_of own g) ≡ true
    → all_fit types (drop i wanted) (map (type_of own) (drop i given)) ≡ all_fit types (drop (suc i) wanted) (map (type_of own) (drop (suc i) given))
fit_on types own wanted given i w g a b e f h =
    ap₂ (λ ws gs. all_fit types ws (map (type_of own) gs)) (drop-cons wanted i w a) (drop-cons given i g b)
    ∙ ap₂ (λ x y. fits types x (type_of own y) && all_fit types (drop (suc i) wanted) (map (type_of own) (drop (suc i) given))) (sym e) (sym f)
    ∙ ap (λ c. c && all_fit types (drop (suc i) wanted) (map (type_of own) (drop (suc i) given))) h

-- and where it doesn't
pub fit_none : (types : List TypeName) (own : List Object) (wanted given : List ℕ) (i : ℕ) (w g : ℕ) → i < length wanted → i < length given → w ≡ get_or wanted i w → g ≡ get_or given i g
    → fits types w (type_of own g) ≡ false
    → all_fit types (drop i wanted) (map (type_of own) (drop i given)) ≡ false
fit_none types own wanted given i w g a b e f h =
    ap₂ (λ ws gs. all_fit types ws (map (type_of own) gs)) (drop-cons wanted i w a) (drop-cons given i g b)
    ∙ ap₂ (λ x y. fits types x (type_of own y) && all_fit types (drop (suc i) wanted) (map (type_of own) (drop (suc i) given))) (sym e) (sym f)
    ∙ ap (λ c. c && all_fit types (drop (suc i) wanted) (map (type_of own) (drop (suc i) given))) h

-- lists of different lengths don't fit
pub fit_length : (types : List TypeName) (own : List Object) (wanted given : List ℕ) → length wanted ≢ length given → all_fit types wanted (map (type_of own) given) ≡ false
fit_length types own [] [] h = absurd (h refl)
fit_length types own [] (g ∷ given) h = refl
fit_length types own (w ∷ wanted) [] h = refl
fit_length types own (w ∷ wanted) (g ∷ given) h =
    ap (λ b. fits types w (type_of own g) && b) (fit_length types own wanted given (λ e. h (ap suc e))) ∙ and-false (fits types w (type_of own g))

-- and past the last one of both they do
pub fit_past : (types : List TypeName) (own : List Object) (wanted given : List ℕ) (i : ℕ) → length wanted ≤ i → length given ≤ i → all_fit types (drop i wanted) (map (type_of own) (drop i given)) ≡ true
fit_past types own wanted given i a b = ap₂ (λ ws gs. all_fit types ws (map (type_of own) gs)) (drop_all i wanted a) (drop_all i given b)
