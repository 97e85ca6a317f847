-- What is marked stays in the heap.
use Rattle.std.proofs.Common.{◌≡◌, ℕ, ◌+◌, ◌≤◌, ◌==◌, Bool, true, false, cond, List, set, sym, ap, ◌∙◌, inl, inr, arith, eq-eqb}
use Rattle.std.proofs.lemmas.Bool.{cases_eq}
use Rattle.std.proofs.lemmas.List.{get_or-set_other}
use Rattle.np_relax.specs.Closed.{on}

-- one more is put in and marked
pub put_waits : (marks : List Bool) (subgoal : ℕ) (before now : ℕ → ℕ) → ((q : ℕ) → now q ≡ cond (subgoal == q) 1 0 + before q) → ((q : ℕ) → on marks q ≡ true → 1 ≤ before q)
    → (q : ℕ) → on (set marks subgoal true) q ≡ true → 1 ≤ now q
put_waits marks subgoal before now more waits q marked = elim (cases_eq q subgoal) [
  | inl same ↦ first (before q) (now q) (more q ∙ ap (λ b. cond b 1 0 + before q) (eq-eqb subgoal q (sym same)))
  | inr other ↦ rest (cond (subgoal == q) 1 0) (before q) (now q) (more q) (waits q (sym (get_or-set_other marks subgoal q true false other) ∙ marked))
]
  where
    first : (x y : ℕ) → y ≡ 1 + x → 1 ≤ y
    first x y e = omega arith

    rest : (a x y : ℕ) → y ≡ a + x → 1 ≤ x → 1 ≤ y
    rest a x y e h = omega arith
