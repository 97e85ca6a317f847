use Rattle.std.proofs.Common.{◌≡◌, ℕ, zero, suc, ◌<◌, ◌++◌, ◌∷◌, [], List, length, set, get_or, refl, ap, sym, ◌∙◌, arith}
use Rattle.std.specs.Prelude.{Vec}
use Rattle.std.specs.declared.alloc.Global.{Global}
use Rattle.np_flat.specs.Readers.{row, rows}
use Rattle.np_relax.proofs.needing.put_at.Goals as goal

rows_set : (t : List (Vec ℕ Global)) (i : ℕ) (v : Vec ℕ Global) → rows (set t i v) ≡ set (rows t) i v.items
rows_set [] i v = refl
rows_set (x ∷ xs) zero v = refl
rows_set (x ∷ xs) (suc i) v = ap (λ ys. x.items ∷ ys) (rows_set xs i v)

rows_at : (t : List (Vec ℕ Global)) (i : ℕ) (d : Vec ℕ Global) → i < length (rows t) → row (rows t) i ≡ (get_or t i d).items
rows_at [] i d h = absurd (omega arith)
rows_at (x ∷ xs) zero d h = refl
rows_at (x ∷ xs) (suc i) d h = rows_at xs i d (omega arith)

pub returns : goal.returns
returns c =
    rows_set c.args.table.now.items c.args.place c.push.new.self
    ∙ ap (set (rows c.args.table.now.items) c.args.place)
    (c.in_ok-push.ensures.items ∙ ap (λ (xs : List ℕ). xs ++ c.args.number ∷ []) (ap (λ (v : Vec ℕ Global). v.items) c.index_mut.ensures.value ∙ sym (rows_at c.args.table.now.items c.args.place c.index_mut.result.now c.requires)))
