-- The promises at the ends of a run.
use Rattle.std.proofs.Common.{◌≡◌, ℕ, ◌+◌, ◌<◌, ℤ, pos, List, [], ◌∷◌, ◌++◌, length, map, get_or, sym, ap, subst, ◌∙◌, arith}
use Rattle.np_frac.specs.Fractions.{Fraction, whole}
use Rattle.np_simplex.specs.Tableau.{nought, Tableau, column, unit, start, IsEnd, IsSized, best_weights}
use Rattle.np_simplex.specs.Answers.{IsBest, IsRay}
use Rattle.np_simplex.specs.Promises.{IsAnswer, IsRead, IsWithin, IsFromRun, most_pivots}
use Rattle.np_simplex.specs.declared.choice.End.{End}
use Rattle.np_simplex.specs.declared.choice.End.TheVariants as ends
use Rattle.np_simplex.specs.declared.program.LpAnswer.{LpAnswer}
use Rattle.np_simplex.specs.declared.program.LpAnswer.TheVariants.{Best, Ray}
use Rattle.np_simplex.proofs.Pivots.{IsReached}
use Rattle.std.specs.List.{range_with_len}
use Rattle.std.proofs.lemmas.List.{length-append, length-map}
use Rattle.std.proofs.lemmas.List.FromFn.{length-map-range_with_len}
use Rattle.np_simplex.proofs.Begin.{start_reached, run_reached, entering_before, start_line, start_lines, length-column, length-unit}
use Rattle.np_simplex.proofs.Ends.{best_end, ray_end}
use Rattle.np_simplex.proofs.Turns.{best_parts, ray_parts}

-- an end is reached
end_reached : (rows : List (List ℤ)) (right : List ℤ) (costs : List ℕ) (most : ℕ) (t : Tableau) (end : End) → length right ≡ length rows
    → IsEnd (length rows + length costs) most (start rows right costs) t end
    → IsReached (length rows) (length rows + length costs) (start rows right costs) t
end_reached rows right costs most t end e h = subst (λ x. IsReached (length rows) (length rows + length costs) (start rows right costs) x) (sym h.is)
    (run_reached (length rows) (length rows + length costs) (start rows right costs) h.pivots (start_reached rows right costs e))

-- the column of a ray
pub end_within : (last most : ℕ) (begin t : Tableau) (end : End) → IsEnd last most begin t end → IsWithin last end
end_within last most begin t ends.Best h = tt
end_within last most begin t (ends.Ray e) h = entering_before last t e (ray_parts last t e h.ends).enters

-- what is read off an end meets the inequalities
pub answered : {N : Type 0} (value : N → Fraction) (rows : List (List ℤ)) (right : List ℤ) (costs : List ℕ) (most : ℕ) (t : Tableau) (end : End)
    (answer : LpAnswer N) → length right ≡ length rows → ((i : ℕ) → i < length rows → length (get_or rows i []) ≡ length costs)
    → IsEnd (length rows + length costs) most (start rows right costs) t end → IsRead value (length rows) (length costs) t end answer
    → IsAnswer value rows right costs answer
answered value rows right costs most t ends.Best (Best weights counts) e wide h r =
    subst (λ x. IsBest rows right costs x (map value counts.items)) (sym r.0)
    (subst (λ y. IsBest rows right costs (best_weights (length rows) (length rows + length costs) t) y) (sym r.1)
    (best_end rows right costs t e wide (end_reached rows right costs most t ends.Best e h) (best_parts (length rows + length costs) t h.ends)))
answered value rows right costs most t ends.Best (Ray weights) e wide h r = absurd r
answered value rows right costs most t (ends.Ray c) (Best weights counts) e wide h r = absurd r
answered value rows right costs most t (ends.Ray c) (Ray weights) e wide h r =
    subst (λ x. IsRay rows right costs x) (sym r)
    (ray_end rows right costs t c e (end_reached rows right costs most t (ends.Ray c) e h) (ray_parts (length rows + length costs) t c h.ends).enters
    (end_within (length rows + length costs) most (start rows right costs) t (ends.Ray c) h)
    (ray_parts (length rows + length costs) t c h.ends).none)

-- the same where the numbers of rows and columns and the first tableau are known by equations
pub answered_at : {N : Type 0} (value : N
    → Fraction) (rows : List (List ℤ)) (right : List ℤ) (costs : List ℕ) (most : ℕ) (begin t : Tableau) (end : End) (answer : LpAnswer N) (m n : ℕ)
    → m ≡ length rows → n ≡ length costs → begin ≡ start rows right costs → length right ≡ length rows
    → ((i : ℕ) → i < length rows → length (get_or rows i []) ≡ length costs) → IsEnd (m + n) most begin t end → IsRead value m n t end answer
    → IsAnswer value rows right costs answer
answered_at value rows right costs most begin t end answer m n em en eb e wide h r =
    answered value rows right costs most t end answer e wide
    (subst (λ x. IsEnd x most (start rows right costs) t end) (ap (λ x. x + n) em
    ∙ ap (λ y. length rows + y) en) (subst (λ b. IsEnd (m + n) most b t end) eb h))
    (subst (λ y. IsRead value (length rows) y t end answer) en (subst (λ x. IsRead value x n t end answer) em r))

-- the first tableau has a column per row, one per step and a last one
pub start_sized : (rows : List (List ℤ)) (right : List ℤ) (costs : List ℕ) (w : ℕ) → length right ≡ length rows → w ≡ length rows + length costs + 1
    → IsSized w (start rows right costs)
start_sized rows right costs w e ew = record {
  top = length-append (map whole right) (map (λ k. nought) (range_with_len 0 (length costs + 1)))
      ∙ omega (arith, length-map right whole, length-map-range_with_len {X = Fraction} (λ k. nought) 0 (length costs + 1));
  shaped = record {
    is = λ k l. ap (λ x. length x.numbers) (start_line rows right costs k (omega (arith, start_lines rows right costs)))
        ∙ length-append (column rows k) (unit (length costs) k ++ whole (pos (get_or costs k 0)) ∷ [])
        ∙ ap (λ x. length (column rows k) + x) (length-append (unit (length costs) k) (whole (pos (get_or costs k 0)) ∷ []))
        ∙ added (length (column rows k)) (length (unit (length costs) k)) (length-column rows k) (length-unit (length costs) k);
  };
}
  where
    added : (a b : ℕ) → a ≡ length rows → b ≡ length costs → a + (b + 1) ≡ w
    added a b f g = omega arith

-- and it is read off the end of the run
pub from_run : {N : Type 0} (value : N → Fraction) (rows : List (List ℤ)) (right : List ℤ) (costs : List ℕ) (begin t : Tableau) (end : End)
    (answer : LpAnswer N) (m n : ℕ) → m ≡ length rows → n ≡ length costs → begin ≡ start rows right costs
    → IsEnd (m + n) (most_pivots m n) begin t end → IsRead value m n t end answer → IsFromRun value rows right costs answer
from_run value rows right costs begin t end answer m n em en eb h r = record {
  tableau = t;
  end = end;
  ends = subst (λ y. IsEnd (length rows + y) (most_pivots (length rows) y) (start rows right costs) t end) en
      (subst (λ x. IsEnd (x + n) (most_pivots x n) (start rows right costs) t end) em (subst (λ b. IsEnd (m + n) (most_pivots m n) b t end) eb h));
  read = subst (λ y. IsRead value (length rows) y t end answer) en (subst (λ x. IsRead value x n t end answer) em r);
}
