-- One turn after another.
use Rattle.std.proofs.Common.{◌≡◌, ℕ, suc, ◌+◌, ◌<◌, Option, Some, None, length, map, refl, sym, ap, subst, ◌∙◌, arith}
use Rattle.std.proofs.lemmas.List.{length-map, get_or-map}
use Rattle.np_frac.specs.Fractions.{times}
use Rattle.np_frac.specs.Checked.{reciprocal}
use Rattle.np_simplex.specs.declared.choice.Course.TheVariants.{Best, Ray, Turn}
use Rattle.np_simplex.specs.Tableau.{at, blank, line_at, Tableau, leaver, pivot, cleared, entering, leaving, next_from, next_of, next, turned, run}
use Rattle.np_simplex.specs.Tableau.{IsSized}
use Rattle.np_simplex.proofs.Least.{LeavingIs, IsLeast, leaving_is}
use Rattle.np_simplex.proofs.Lines.{length-less}
use Rattle.np_simplex.proofs.Shapes.{shaped_set}

-- what a turn is
pub record IsTurn (last e r : ℕ) (t : Tableau) : Type 0 where
  pub enters : entering last t ≡ Some e
  pub leaves : IsLeast last e t.lines (length t.lines) r

pub turn_parts : (last : ℕ) (t : Tableau) (e r : ℕ) → next last t ≡ Turn e r → IsTurn last e r t
turn_parts last t e r h = by_column (entering last t) refl h
  where
    by_line : (d : ℕ) (o : Option ℕ) → entering last t ≡ Some d → LeavingIs last d t.lines (length t.lines) o → next_from d o ≡ Turn e r
        → IsTurn last e r t
    by_line d None q g k = cc
    by_line d (Some s) q g k =
        let de : d ≡ e = cc in let sr : s ≡ r = cc in
        record {
          enters = q ∙ ap (λ i. Some i) de;
          leaves = subst (λ i. IsLeast last i t.lines (length t.lines) r) de
              (subst (λ j. IsLeast last d t.lines (length t.lines) j) sr g);
        }

    by_column : (o : Option ℕ) → entering last t ≡ o → next_of last t o ≡ Turn e r → IsTurn last e r t
    by_column None q k = cc
    by_column (Some d) q k = by_line d (leaving last d t.lines (length t.lines)) q (leaving_is last d t.lines (length t.lines)) k

-- a pivot keeps how many numbers there are
pub pivot_sized : (w : ℕ) (t : Tableau) (e r : ℕ) → IsSized w t → r < length t.lines → IsSized w (pivot t e r)
pivot_sized w t e r h l = record {
  top = length-less t.top (at t.top e) (leaver t e r) (h.top ∙ sym long) ∙ h.top;
  shaped = shaped_set w (map (cleared e (leaver t e r)) t.lines) r (record { basic = e; numbers = leaver t e r })
      (record {
        is = λ k b. ap (λ x. length x.numbers) (get_or-map (cleared e (leaver t e r)) t.lines k blank blank (few k b))
            ∙ length-less (line_at t.lines k).numbers (at (line_at t.lines k).numbers e) (leaver t e r) (h.shaped.is k (few k b) ∙ sym long)
            ∙ h.shaped.is k (few k b);
      }) long;
}
  where
    long : length (leaver t e r) ≡ w
    long = length-map (line_at t.lines r).numbers (λ x. times x (reciprocal (at (line_at t.lines r).numbers e))) ∙ h.shaped.is r l

    few : (k : ℕ) → k < length (map (cleared e (leaver t e r)) t.lines) → k < length t.lines
    few k b = omega (arith, length-map t.lines (cleared e (leaver t e r)))

-- one more pivot
pub run_more : (last : ℕ) (begin t new : Tableau) (k e r : ℕ) → t ≡ run last begin k → next last t ≡ Turn e r → new ≡ pivot t e r
    → new ≡ run last begin (k + 1)
run_more last begin t new k e r h n p =
    p ∙ sym (ap (λ i. run last begin i) (let s : k + 1 ≡ suc k = omega arith in s) ∙ ap (λ x. turned x (next last x)) (sym h)
    ∙ ap (λ c. turned t c) n)

-- what a best end is
pub best_parts : (last : ℕ) (t : Tableau) → next last t ≡ Best → entering last t ≡ None
best_parts last t h = by_column (entering last t) refl h
  where
    by_line : (d : ℕ) (o : Option ℕ) → next_from d o ≡ Best → entering last t ≡ None
    by_line d None k = cc
    by_line d (Some s) k = cc

    by_column : (o : Option ℕ) → entering last t ≡ o → next_of last t o ≡ Best → entering last t ≡ None
    by_column None q k = q
    by_column (Some d) q k = by_line d (leaving last d t.lines (length t.lines)) k

-- what a ray is
pub record IsRayEnd (last e : ℕ) (t : Tableau) : Type 0 where
  pub enters : entering last t ≡ Some e
  pub none : LeavingIs last e t.lines (length t.lines) None

pub ray_parts : (last : ℕ) (t : Tableau) (e : ℕ) → next last t ≡ Ray e → IsRayEnd last e t
ray_parts last t e h = by_column (entering last t) refl h
  where
    by_line : (d : ℕ) (o : Option ℕ) → entering last t ≡ Some d → LeavingIs last d t.lines (length t.lines) o → next_from d o ≡ Ray e
        → IsRayEnd last e t
    by_line d None q g k = let de : d ≡ e = cc in record {
      enters = q
          ∙ ap (λ i. Some i) de;
      none = subst (λ i. LeavingIs last i t.lines (length t.lines) None) de g;
    }
    by_line d (Some s) q g k = cc

    by_column : (o : Option ℕ) → entering last t ≡ o → next_of last t o ≡ Ray e → IsRayEnd last e t
    by_column None q k = cc
    by_column (Some d) q k = by_line d (leaving last d t.lines (length t.lines)) q (leaving_is last d t.lines (length t.lines)) k
