-- Where a sure arithmetic may refuse in a run.
use Rattle.std.proofs.Common.{ℕ, ◌+◌, ◌^◌, ◌<◌, ℤ, pos, List, length, get_or, sym, ap, subst, ◌∙◌, arith}
use Rattle.np_frac.specs.Sizes.{size}
use Rattle.np_simplex.specs.Tableau.{at, line_at, Tableau, start}
use Rattle.np_simplex.specs.Widths.{HasPast, in_top_line, in_a_line, HasWide, in_wide_top, in_wide_line, IsUnfit, in_right, in_step, in_coefficients}
use Rattle.np_simplex.specs.Widths.{in_cost}
use Rattle.np_simplex.proofs.Begin.{start_line, start_lines, at_cost}
use Rattle.np_simplex.proofs.Wide.{negated_past, whole_past, refused_side, refused_coefficient}

-- a number whose negation is wide
pub number_past : (t : Tableau) → HasWide t → HasPast (2 ^ 125) t
number_past t (in_wide_top d) = in_top_line d.column (negated_past (at t.top d.column) d.wide)
number_past t (in_wide_line d) = in_a_line d.place d.column d.within (negated_past (at (line_at t.lines d.place).numbers d.column) d.wide)

-- a number of the start that doesn't fit
pub unfit_start : (rows : List (List ℤ)) (right : List ℤ) (costs : List ℕ) → IsUnfit rows right costs → HasPast (2 ^ 125) (start rows right costs)
unfit_start rows right costs (in_right d) = refused_side rows right costs d.place d.within d.unfit
unfit_start rows right costs (in_step j l (in_coefficients d)) = refused_coefficient rows right costs d.place j d.within l d.unfit
unfit_start rows right costs (in_step j l (in_cost d)) = in_a_line j (length rows + length costs) (omega (arith, start_lines rows right costs))
    (subst (λ x. 2 ^ 125 < size x) (sym (ap (λ x. at x.numbers (length rows + length costs)) (start_line rows right costs j l)
    ∙ at_cost rows costs j)) (whole_past (pos (get_or costs j 0)) d))
