use Rattle.std.proofs.Common.{◌≡◌, length, sym, ap, ◌∙◌, subst, true≢false}
use Rattle.np_flat.specs.declared.parts.Parts.{Parts}
use Rattle.np_check.specs.Listed.{AreListed}
use Rattle.np_check.proofs.Listed.{tabled_listed}
use Rattle.np_check.proofs.tables.Tables.is_tabled.Goals as goal

pub returns-then-not-are_listed : goal.returns-then-not-are_listed
returns-then-not-are_listed c =
    let count : length c.args.flat.now.subgoals ≡ c.len.result = sym (c.len.ensures ∙ ap (λ (p : Parts). length p.subgoals) c.parts.ensures.parts) in (
      λ yes. absurd (true≢false (sym yes)),
      λ is.
          absurd
          (true≢false
          (sym (c.are_listed.ensures.1 (subst (λ n. AreListed n c.args.listed.now) count (tabled_listed c.args.flat.now c.args.entry.now c.args.listed.now is))) ∙ c.if-not-are_listed.true)),
    )
