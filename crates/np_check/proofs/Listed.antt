-- Numbers in the places of their subgoals are the table that is listed.
use Rattle.std.proofs.Common.{◌≡◌, ℕ, suc, ◌+◌, ◌<◌, ◌≤◌, ◌^◌, ◌==◌, cond, List, [], ◌∷◌, map, length, All, refl, sym, ap, ◌∙◌, subst, inl, inr, arith, Some, None, get_or, ◌⊎◌, eq-eqb, ne_eqb, if◌then◌else◌, IsTrue, le-leb}
use Rattle.std.specs.Prelude.{slice_set}
use Rattle.std.proofs.lemmas.Bool.{cases_eq}
use Rattle.std.proofs.lemmas.List.{get_or_past, get_or-set_same, get_or-set_other, get_or-map, length-set, length-map, drop_all}
use Rattle.std.proofs.lemmas.List.Elements.{All-nil, All-cons, All-head, All-tail, All-weaker}
use Rattle.std.proofs.lemmas.Option.{same_Some, none-some}
use Rattle.np_flat.specs.declared.state.FlatState.{FlatState}
use Rattle.np_flat.specs.declared.parts.Parts.{Parts}
use Rattle.np_flat.specs.Flats.{AreNumbers, IsFlat}
use Rattle.np_table.specs.Tables.{IsTable, reach, at}
use Rattle.np_table.specs.Listed.{entry_in}
use Rattle.np_table.specs.Tables as table
use Rattle.np_table.proofs.Listing.{same_table, same_reach}
use Rattle.np_cert.specs.declared.certificate.Limit.{Limit}
use Rattle.np_cert.specs.declared.certificate.Limit.TheVariants.{Number, Absent}
use Rattle.np_cert.specs.declared.certificate.Entry.{Entry}
use Rattle.np_cert.specs.Valid.{at_most, is_small, as_entry, as_limit, IsTabled}
use Rattle.np_check.specs.Listed.{AreListed, IsFilled, put_all}
use Rattle.np_check.proofs.Ascending.{AreFrom, IsRest, none_from, all_from, head_from, tail_from, rest_more, rest_fault}

abbrev subgoals_of : List (ℕ × Limit) → List ℕ
subgoals_of listed = map (λ x. x.0) listed

-- the entry that is listed for this subgoal, or else this one
abbrev entry_or : List (ℕ × Limit) → ℕ → table.Entry → table.Entry
entry_or [] q e = e
entry_or (x ∷ xs) q e = if x.0 == q then as_entry x.1 else entry_or xs q e

or_zero : (xs : List (ℕ × Limit)) (q : ℕ) → entry_or xs q (Some 0) ≡ entry_in as_entry xs q
or_zero [] q = refl
or_zero (x ∷ xs) q = ap (λ e. cond (x.0 == q) (as_entry x.1) e) (or_zero xs q)

less_other : (m n : ℕ) → m < n → n ≡ m → ⊥
less_other m n h e = omega arith

-- what is below all that are listed isn't listed
absent : (xs : List (ℕ × Limit)) (q : ℕ) (e : table.Entry) → All (λ n. q < n) (subgoals_of xs) → entry_or xs q e ≡ e
absent [] q e above = refl
absent (x ∷ xs) q e above =
    ap (λ b. cond b (as_entry x.1) (entry_or xs q e)) (ne_eqb x.0 q (less_other q x.0 (All-head (λ n. q < n) x.0 (subgoals_of xs) above)))
    ∙ absent xs q e (All-tail (λ n. q < n) x.0 (subgoals_of xs) above)

more_other : (m n : ℕ) → m < n → m ≡ n → ⊥
more_other m n h e = omega arith

-- nor is what is above all
pub absent_past : (xs : List (ℕ × Limit)) (q : ℕ) → All (λ n. n < q) (subgoals_of xs) → entry_in as_entry xs q ≡ Some 0
absent_past [] q below = refl
absent_past (x ∷ xs) q below =
    ap (λ b. cond b (as_entry x.1) (entry_in as_entry xs q)) (ne_eqb x.0 q (more_other x.0 q (All-head (λ n. n < q) x.0 (subgoals_of xs) below)))
    ∙ absent_past xs q (All-tail (λ n. n < q) x.0 (subgoals_of xs) below)

-- after the first, all are above it
later : (x : ℕ × Limit) (xs : List (ℕ × Limit)) (least limit : ℕ) → AreFrom least limit (subgoals_of (x ∷ xs)) → All (λ n. x.0 < n) (subgoals_of xs)
later x xs least limit h = All-weaker (λ n. x.0 + 1 ≤ n) (λ n. x.0 < n) (λ n le. omega arith) (subgoals_of xs) (tail_from least limit x.0 (subgoals_of xs) h).late

-- each subgoal has what is listed for it, or what it had before
put_all_at : (xs : List (ℕ × Limit)) (numbers : List table.Entry) (least q : ℕ) → AreFrom least (length numbers) (subgoals_of xs) → at (put_all xs numbers) q ≡ entry_or xs q (at numbers q)
put_all_at [] numbers least q h = refl
put_all_at (x ∷ xs) numbers least q h =
    put_all_at xs set_one (x.0 + 1) q (subst (λ k. AreFrom (x.0 + 1) k (subgoals_of xs)) (sym (length-set numbers x.0 (as_entry x.1))) (tail_from least (length numbers) x.0 (subgoals_of xs) h))
    ∙ elim (cases_eq x.0 q) [
      | inl same ↦
          absent xs q (at set_one q) (subst (λ k. All (λ n. k < n) (subgoals_of xs)) same (later x xs least (length numbers) h))
          ∙ subst (λ k. at set_one k ≡ as_entry x.1) same (get_or-set_same numbers x.0 (as_entry x.1) None (head_from least (length numbers) x.0 (subgoals_of xs) h).1)
          ∙ sym (ap (λ b. cond b (as_entry x.1) (entry_or xs q (at numbers q))) (eq-eqb x.0 q same))
      | inr other ↦
          ap (entry_or xs q) (get_or-set_other numbers x.0 q (as_entry x.1) None (λ e. other (sym e)))
          ∙ sym (ap (λ b. cond b (as_entry x.1) (entry_or xs q (at numbers q))) (ne_eqb x.0 q other))
    ]
  where
    set_one : List table.Entry
    set_one = slice_set numbers x.0 (as_entry x.1)

-- as many as before
put_all_count : (xs : List (ℕ × Limit)) (numbers : List table.Entry) → length (put_all xs numbers) ≡ length numbers
put_all_count [] numbers = refl
put_all_count (x ∷ xs) numbers = put_all_count xs (slice_set numbers x.0 (as_entry x.1)) ∙ length-set numbers x.0 (as_entry x.1)

zero_at : (numbers : List table.Entry) (q : ℕ) → All (λ e. e ≡ Some 0) numbers → q < length numbers → at numbers q ≡ Some 0
zero_at numbers q all lt = all q None lt

-- zeros, and then what is listed
pub filled : (subgoals : ℕ) (listed : List (ℕ × Limit)) (zeros : List table.Entry) → AreListed subgoals listed → length zeros ≡ subgoals → All (λ e. e ≡ Some 0) zeros → IsFilled subgoals listed (put_all listed zeros)
filled subgoals listed zeros are count all = record {
  count = put_all_count listed zeros ∙ count;
  same = λ q lt.
      put_all_at listed zeros 0 q (all_from (length zeros) (subgoals_of listed) (subst (λ k. AreNumbers k (subgoals_of listed)) (sym count) are.ascending))
      ∙ ap (entry_or listed q) (zero_at zeros q all (omega (arith, count)))
      ∙ or_zero listed q;
}

module _ (task : Parts) (s : FlatState) (flat : IsFlat task) (listed : List (ℕ × Limit)) (numbers : List table.Entry) (ascending : AreNumbers (length task.subgoals) (subgoals_of listed)) (is : IsFilled (length task.subgoals) listed numbers) where
  -- both are tables, or none is
  pub listed_table : IsTable task s (at numbers) → IsTable task s (entry_in as_entry listed)
  listed_table h = same_table task s (at numbers) (entry_in as_entry listed) flat is.same past h
    where
      less : (n q : ℕ) → n < length task.subgoals → length task.subgoals ≤ q → n < q
      less n q lt ge = omega arith

      past : (q n : ℕ) → length task.subgoals ≤ q → entry_in as_entry listed q ≡ Some n → n < 2 ^ 62
      past q n ge there =
          let zero : 0 ≡ n = same_Some 0 n (sym (absent_past listed q (All-weaker (λ m. m < length task.subgoals) (λ m. m < q) (λ m lt. less m q lt ge) (subgoals_of listed) ascending.within)) ∙ there) in omega arith

  pub filled_table : IsTable task s (entry_in as_entry listed) → IsTable task s (at numbers)
  filled_table h = same_table task s (entry_in as_entry listed) (at numbers) flat (λ q lt. sym (is.same q lt)) past h
    where
      past : (q n : ℕ) → length task.subgoals ≤ q → at numbers q ≡ Some n → n < 2 ^ 62
      past q n ge there = absurd (none-some n (sym (get_or_past numbers q None (omega (arith, is.count))) ∙ there))

  -- and they reach as far in the goal
  pub goal_reach : reach (at numbers) task.goal ≡ reach (entry_in as_entry listed) task.goal
  goal_reach = same_reach task s (at numbers) (entry_in as_entry listed) flat is.same task.goal flat.goal.within

  module _ (e : Entry) (of : e.state ≡ s) where
    -- so a table supports the bound of an entry exactly where the numbers are a table that reaches far enough
    pub tabled_bound : IsTabled task e listed → IsTrue (at_most e.bound (as_limit (reach (at numbers) task.goal)))
    tabled_bound h = subst (λ r. IsTrue (at_most e.bound (as_limit r))) (sym goal_reach) h.bounded

    pub tabled_table : IsTabled task e listed → IsTable task s (at numbers)
    tabled_table h = filled_table (subst (λ t. IsTable task t (entry_in as_entry listed)) of h.table)

    pub tabled_by : IsTrue (at_most e.bound (as_limit (reach (at numbers) task.goal))) → IsTable task s (at numbers) → IsTabled task e listed
    tabled_by far h = record {
      subgoals = ascending;
      table = subst (λ t. IsTable task t (entry_in as_entry listed)) (sym of) (listed_table h);
      bounded = subst (λ r. IsTrue (at_most e.bound (as_limit r))) goal_reach far;
    }

-- ---- ascending subgoals, one after the other

module _ (limit : ℕ) (listed : List (ℕ × Limit)) (i least : ℕ) (d : ℕ × Limit) where
  pub listed_more : i < length listed → least ≤ (get_or listed i d).0 → (get_or listed i d).0 < limit → IsRest limit (subgoals_of listed) i least → IsRest limit (subgoals_of listed) (i + 1) ((get_or listed i d).0 + 1)
  listed_more lt =
      subst (λ k. least ≤ k → k < limit → IsRest limit (subgoals_of listed) i least → IsRest limit (subgoals_of listed) (i + 1) (k + 1))
      (get_or-map (λ (x : ℕ × Limit). x.0) listed i d 0 lt)
      (rest_more limit (subgoals_of listed) i least (omega (arith, length-map listed (λ (x : ℕ × Limit). x.0))))

  pub listed_fault : i < length listed → ((get_or listed i d).0 < least) ⊎ (limit ≤ (get_or listed i d).0) → IsRest limit (subgoals_of listed) i least → AreNumbers limit (subgoals_of listed) → ⊥
  listed_fault lt =
      subst (λ k. (k < least) ⊎ (limit ≤ k) → IsRest limit (subgoals_of listed) i least → AreNumbers limit (subgoals_of listed) → ⊥)
      (get_or-map (λ (x : ℕ × Limit). x.0) listed i d 0 lt)
      (rest_fault limit (subgoals_of listed) i least (omega (arith, length-map listed (λ (x : ℕ × Limit). x.0))))

  pub listed_end : length listed ≤ i → IsRest limit (subgoals_of listed) i least → AreNumbers limit (subgoals_of listed)
  listed_end past h =
      h.1 (subst (AreFrom least limit) (sym (drop_all i (subgoals_of listed) (omega (arith, length-map listed (λ (x : ℕ × Limit). x.0))))) (none_from least limit))

  pub listed_within : i < length listed → AreNumbers limit (subgoals_of listed) → (get_or listed i d).0 < limit
  listed_within lt h = subst (λ k. k < limit) (get_or-map (λ (x : ℕ × Limit). x.0) listed i d 0 lt) (h.within i 0 (omega (arith, length-map listed (λ (x : ℕ × Limit). x.0))))

-- ---- what a table lists is small

entry_small : (x : Limit) → ((n : ℕ) → as_entry x ≡ Some n → n < 2 ^ 62) → IsTrue (is_small x)
entry_small (Number n) h = let lt : n < 2 ^ 62 = h n refl in le-leb (suc n) (2 ^ 62) (omega arith)
entry_small Absent h = refl

all_small : (xs : List (ℕ × Limit)) (least limit : ℕ) → AreFrom least limit (subgoals_of xs) → ((q n : ℕ) → entry_in as_entry xs q ≡ Some n → n < 2 ^ 62) → All (λ x. IsTrue (is_small x.1)) xs
all_small [] least limit from small = All-nil (λ (x : ℕ × Limit). IsTrue (is_small x.1))
all_small (x ∷ xs) least limit from small =
    All-cons (λ (y : ℕ × Limit). IsTrue (is_small y.1)) x xs
    (entry_small x.1 (λ n is. small x.0 n (ap (λ b. cond b (as_entry x.1) (entry_in as_entry xs x.0)) (eq-eqb x.0 x.0 refl) ∙ is)))
    (all_small xs (x.0 + 1) limit (tail_from least limit x.0 (subgoals_of xs) from) rest)
  where
    rest : (q n : ℕ) → entry_in as_entry xs q ≡ Some n → n < 2 ^ 62
    rest q n there = elim (cases_eq x.0 q) [
      | inl same ↦
          let none : entry_in as_entry xs q ≡ Some 0 = sym (or_zero xs q) ∙ absent xs q (Some 0) (subst (λ k. All (λ m. k < m) (subgoals_of xs)) same (later x xs least limit from)) in
          let zero : 0 ≡ n = same_Some 0 n (sym none ∙ there) in omega arith
      | inr other ↦ small q n (ap (λ b. cond b (as_entry x.1) (entry_in as_entry xs q)) (ne_eqb x.0 q other) ∙ there)
    ]

pub tabled_listed : (task : Parts) (e : Entry) (listed : List (ℕ × Limit)) → IsTabled task e listed → AreListed (length task.subgoals) listed
tabled_listed task e listed h = record {
  ascending = h.subgoals;
  small = all_small listed 0 (length task.subgoals) (all_from (length task.subgoals) (subgoals_of listed) h.subgoals) h.table.small;
}
