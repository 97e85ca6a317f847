-- Types, and which objects fit which parameters.
use Rattle.std.specs.Prelude.{ℕ, zero, suc, Bool, false, ◌||◌, ◌==◌, List, length, slice_get, Option, option_map}
use Rattle.std.specs.Option.{option_map_or}
use Rattle.std.specs.Cmp.Lexicographic.{pointwise}
use Rattle.np_model.specs.declared.task.TypeName.{TypeName}
use Rattle.np_model.specs.declared.task.Object.{Object}

-- the type that a type lies under; a number that names no type stands for itself
abbrev pub parent_of : List TypeName → ℕ → ℕ
parent_of types of = option_map_or (λ t. t.parent) (slice_get types of) of

-- whether following parents at most so many times leads from a type to another
abbrev pub leads_within : List TypeName → ℕ → ℕ → ℕ → Bool
leads_within types zero of over = of == over
leads_within types (suc n) of over = (of == over) || leads_within types n (parent_of types of) over

-- whether a type is the other or lies under it: following parents at most as many times as there are types leads there
abbrev pub is_under : List TypeName → ℕ → ℕ → Bool
is_under types of over = leads_within types (length types) of over

-- the type of an object
abbrev pub type_of : List Object → ℕ → Option ℕ
type_of objects n = option_map (λ o. o.of) (slice_get objects n)

-- whether what has this type fits a parameter of the wanted type
abbrev pub fits : List TypeName → ℕ → Option ℕ → Bool
fits types wanted given = option_map_or (λ of. is_under types of wanted) given false

-- whether what has these types fits the parameters, one for each
abbrev pub all_fit : List TypeName → List ℕ → List (Option ℕ) → Bool
all_fit types wanted given = pointwise (fits types) wanted given
