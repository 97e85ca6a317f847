-- The members of a cut ascend, and the items of a right proof have allowed rows.
use borrow.Author.Tests.{leb-true}
use Rattle.std.proofs.Common.{arith, ◌≡◌, ℕ, suc, ◌<◌, ◌≤◌, ◌^◌, true, ◌&&◌, nat_le, nat_lt, List, [], ◌∷◌, All}
use Rattle.std.specs.List.{list_all}
use Rattle.std.proofs.lemmas.Bool.{and_parts, false≢true}
use Rattle.std.proofs.lemmas.List.Elements.{All-cons}
use Rattle.std.proofs.lemmas.List.Kept.{AllPairs-cons}
use Rattle.np_flat.specs.declared.parts.Parts.{Parts}
use Rattle.np_flat.specs.Flats.{IsAscending}
use Rattle.np_count.specs.declared.proof.Row.{Row}
use Rattle.np_count.specs.Rows.{are_between, is_cut, is_allowed}
use Rattle.np_count.specs.Bounds.{is_small, is_item}

-- numbers from the least on
all_from : (limit least under : ℕ) (us : List ℕ) → under < least → are_between limit least us ≡ true → All (λ n. under < n) us
all_from limit least under [] low between = λ k d lt. absurd (omega arith)
all_from limit least under (u ∷ us) low between =
    let parts = and_parts (nat_le least u) (nat_lt u limit && are_between limit (suc u) us) between in
    let rest = and_parts (nat_lt u limit) (are_between limit (suc u) us) parts.1 in
    let at : least ≤ u = leb-true least u parts.0 in
    All-cons (λ n. under < n) u us (omega arith) (all_from limit (suc u) under us (omega arith) rest.1)

ascends_from : (limit least : ℕ) (us : List ℕ) → are_between limit least us ≡ true → IsAscending us
ascends_from limit least [] between = λ i j d lt within. absurd (omega arith)
ascends_from limit least (u ∷ us) between =
    let parts = and_parts (nat_le least u) (nat_lt u limit && are_between limit (suc u) us) between in
    let rest = and_parts (nat_lt u limit) (are_between limit (suc u) us) parts.1 in
    AllPairs-cons (λ m n. m < n) u us (all_from limit (suc u) u us (omega arith) rest.1) (ascends_from limit (suc u) us rest.1)

pub cut_ascends : (limit : ℕ) (us : List ℕ) → is_cut limit us ≡ true → IsAscending us
cut_ascends limit [] cut = absurd (false≢true cut)
cut_ascends limit (u ∷ us) cut = ascends_from limit 0 (u ∷ us) cut

pub rows_allowed : (task : Parts) (items : List (ℕ × Row)) → list_all (is_item task) items ≡ true → All (λ (i : ℕ × Row). is_allowed task i.1 ≡ true) items
rows_allowed task [] all = λ k d lt. absurd (omega arith)
rows_allowed task (i ∷ is) all =
    let parts = and_parts (is_item task i) (list_all (is_item task) is) all in
    let weighed = and_parts (nat_lt 0 i.0) (nat_lt i.0 (2 ^ 62) && (is_small i.1 && is_allowed task i.1)) parts.0 in
    let limited = and_parts (nat_lt i.0 (2 ^ 62)) (is_small i.1 && is_allowed task i.1) weighed.1 in
    let small = and_parts (is_small i.1) (is_allowed task i.1) limited.1 in
    All-cons (λ (i : ℕ × Row). is_allowed task i.1 ≡ true) i is small.1 (rows_allowed task is parts.1)
