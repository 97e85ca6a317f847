-- When a condition holds in a state, as in PDDL 2.1 (Fox and Long 2003).
-- This project's own: a comparison of a missing value doesn't hold, nor does the comparison turned round.
use Rattle.std.specs.Prelude.{ℕ, Bool, true, false, not, ◌==◌, List, Option, Some, None}
use Rattle.std.specs.List.{list_all}
use Rattle.std.specs.Ordering.{is_lt, is_gt, is_le, is_ge, is_eq}
use Rattle.np_frac.specs.Fractions.{Fraction, fraction_cmp}
use Rattle.np_model.specs.declared.task.Op.{Op}
use Rattle.np_model.specs.declared.task.Op.TheVariants.{Less, Greater, AtMost, AtLeast, Equal}
use Rattle.np_model.specs.declared.task.Cond.{Cond}
use Rattle.np_model.specs.declared.task.Cond.TheVariants.{Atom, Same, Compare}
use Rattle.np_model.specs.Ground.{object_of, atom_of}
use Rattle.np_model.specs.States.{State}
use Rattle.np_model.specs.Values.{value_of, of_both}

-- whether two numbers compare so
abbrev pub compares : Op → Fraction → Fraction → Bool
compares Less x y = is_lt (fraction_cmp x y)
compares Greater x y = is_gt (fraction_cmp x y)
compares AtMost x y = is_le (fraction_cmp x y)
compares AtLeast x y = is_ge (fraction_cmp x y)
compares Equal x y = is_eq (fraction_cmp x y)

-- the comparison turned round, which `not` round an order comparison stands for: not less is at least.
-- `Equal` isn't an order comparison, none turns it round, and it stays
abbrev pub turned : Op → Op
turned Less = AtLeast
turned Greater = AtMost
turned AtMost = Greater
turned AtLeast = Less
turned Equal = Equal

-- whether it is an order comparison
abbrev pub is_order : Op → Bool
is_order Less = true
is_order Greater = true
is_order AtMost = true
is_order AtLeast = true
is_order Equal = false

-- an answer that isn't there is no yes
abbrev pub is_yes : Option Bool → Bool
is_yes None = false
is_yes (Some b) = b

-- the answer itself, or the contrary where the flag is false
abbrev pub with_sign : Bool → Bool → Bool
with_sign true b = b
with_sign false b = not b

-- whether a condition holds, where the parameters stand for these objects; a comparison with a side without a value doesn't
abbrev pub holds : List ℕ → State → Cond → Bool
holds objects s (Atom positive predicate refs) = with_sign positive (s.has (atom_of objects predicate refs))
holds objects s (Same positive a b) = with_sign positive (object_of objects a == object_of objects b)
holds objects s (Compare op x y) = is_yes (of_both (compares op) (value_of objects s x) (value_of objects s y))

-- whether all of the conditions hold
abbrev pub all_hold : List ℕ → State → List Cond → Bool
all_hold objects s conditions = list_all (holds objects s) conditions
