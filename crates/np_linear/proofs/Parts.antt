-- Parts taken in one after another.
use Rattle.std.proofs.Common.{◌≡◌, ℕ, suc, ◌<◌, refl, List, drop, length, map, Bool, Ok, Result}
use Rattle.std.specs.Prelude.{slice_index_or}
use Rattle.np_model.specs.declared.task.Sum.{Sum}
use Rattle.np_linear.specs.declared.linear.Linear.{Linear}
use Rattle.np_linear.specs.declared.finding.Finding.{Finding}
use Rattle.np_linear.specs.Linears.{with_part, parts_from}
use Rattle.np_linear.proofs.Places.{drop_at}

pub parts_step : (adds : Bool) (f : Sum → Result Linear Finding) (l : Linear) (xs : List Sum) (i : ℕ) (x : Sum) (r t : Linear)
    → i < length xs → x ≡ slice_index_or xs i x → f x ≡ Ok r → with_part adds l r ≡ Ok t
    → parts_from adds l (map f (drop i xs)) ≡ parts_from adds t (map f (drop (suc i) xs))
parts_step adds f l xs i x r t h e one two = rw (drop_at xs i x h e, one, two) refl
