use Rattle.std.proofs.Common.{◌≡◌, ℕ, Bool, true, length, List, Result, Ok, Err, refl, sym, ap, ◌∙◌, subst, true≢false, IsTrue, ◌↔◌}
use Rattle.std.specs.Prelude.{IfOk}
use Rattle.np_flat.specs.declared.parts.Parts.{Parts}
use Rattle.np_table.specs.Tables.{IsTable, reach, at}
use Rattle.np_table.specs.Tables as table
use Rattle.np_cert.specs.declared.certificate.Limit.{Limit}
use Rattle.np_cert.specs.Valid.{at_most, as_limit}
use Rattle.np_check.specs.Listed.{IsFilled}
use Rattle.np_check.proofs.Listed.{tabled_bound, tabled_table, tabled_by}
use Rattle.np_check.proofs.tables.decide.Goals as goal

far_as : (most : table.Entry) (limit : Limit) (ns numbers : List table.Entry) (qs goal : List ℕ) → most ≡ reach (at ns) qs → ns ≡ numbers → qs ≡ goal → limit ≡ as_limit most → limit ≡ as_limit (reach (at numbers) goal)
far_as most limit ns numbers qs goal is same whole made = made ∙ ap as_limit (is ∙ ap (λ xs. reach (at xs) qs) same ∙ ap (reach (at numbers)) whole)

-- a verdict on one thing is one on another that is true with it
judged_as : {E : Type 0} (P Q : Type 0) (r : Result Bool E) → (P → Q) → (Q → P) → IfOk r (λ good. IsTrue good ↔ P) → IfOk r (λ good. IsTrue good ↔ Q)
judged_as P Q (Ok good) to from is = (λ yes. to (is.0 yes), λ q. is.1 (from q))
judged_as P Q (Err e) to from is = is

pub returns-then-not-at_most : goal.returns-then-not-at_most
returns-then-not-at_most c =
    let task = c.args.flat.now in
    let numbers = c.fill.new.numbers.items in
    let count : c.len.result ≡ length task.subgoals = c.len.ensures ∙ ap (λ (p : Parts). length p.subgoals) c.parts-parts.ensures.parts in
    let filled : IsFilled (length task.subgoals) c.args.listed.now numbers = subst (λ n. IsFilled n c.args.listed.now numbers) count c.in_ok-fill.ensures in
    let far : c.as_limit.result ≡ as_limit (reach (at numbers) task.goal) =
    far_as c.reached-most.result c.as_limit.result c.as_slice.result.now numbers c.as_slice-2.result.now task.goal c.reached-most.ensures c.as_slice.ensures.value
    (c.as_slice-2.ensures ∙ ap (λ (p : Parts). p.goal) c.parts-parts.ensures.parts) c.as_limit.ensures
    in
    let result : c.at_most.result ≡ at_most c.args.entry.now.bound (as_limit (reach (at numbers) task.goal)) = c.at_most.ensures ∙ ap (at_most c.args.entry.now.bound) far in (
      λ yes. absurd (true≢false (sym yes)),
      λ is.
          absurd
          (true≢false
          (sym (tabled_bound task c.args.entry.now.state c.parts-parts.ensures.kept c.args.listed.now numbers c.requires.listed.ascending filled c.args.entry.now refl is) ∙ sym result ∙ c.if-not-at_most.true)),
    )

pub returns : goal.returns
returns c =
    let task = c.args.flat.now in
    let entry = c.args.entry.now in
    let listed = c.args.listed.now in
    let numbers = c.fill.new.numbers.items in
    let kept = c.parts-parts.ensures.kept in
    let ascending = c.requires.listed.ascending in
    let count : c.len.result ≡ length task.subgoals = c.len.ensures ∙ ap (λ (p : Parts). length p.subgoals) c.parts-parts.ensures.parts in
    let filled : IsFilled (length task.subgoals) listed numbers = subst (λ n. IsFilled n listed numbers) count c.in_ok-fill.ensures in
    let far : c.as_limit.result ≡ as_limit (reach (at numbers) task.goal) =
    far_as c.reached-most.result c.as_limit.result c.as_slice.result.now numbers c.as_slice-2.result.now task.goal c.reached-most.ensures c.as_slice.ensures.value
    (c.as_slice-2.ensures ∙ ap (λ (p : Parts). p.goal) c.parts-parts.ensures.parts) c.as_limit.ensures
    in
    let result : at_most entry.bound (as_limit (reach (at numbers) task.goal)) ≡ true = ap (at_most entry.bound) (sym far) ∙ sym c.at_most.ensures ∙ c.if-not-at_most.false in
    let same : at c.as_slice-3.result.now ≡ at numbers = ap at c.as_slice-3.ensures.value in
    judged_as _ _ c.is_table.result
    (λ h. tabled_by task entry.state kept listed numbers ascending filled entry refl result (subst (IsTable task entry.state) same h))
    (λ is. subst (IsTable task entry.state) (sym same) (tabled_table task entry.state kept listed numbers ascending filled entry refl is))
    c.is_table.ensures
