-- Expressions of a task that are allowed, by their parts.
use Rattle.std.proofs.Common.{◌≡◌, ℕ, suc, ◌≤◌, max, Bool, true, List, [], ◌∷◌, map, ◌∙◌, arith}
use Rattle.std.specs.List.{AllByRecursion, list_all}
use Rattle.std.proofs.lemmas.Bool.{and_from, le-leb}
use Rattle.np_frac.specs.Fractions.{Fraction}
use Rattle.np_model.specs.declared.task.Ref.{Ref}
use Rattle.np_model.specs.declared.task.Sum.{Sum}
use Rattle.np_model.specs.declared.task.Sum.TheVariants as sum
use Rattle.np_model.specs.declared.task.TaskParts.{TaskParts}
use Rattle.np_model.specs.Tasks.{is_use, is_fixed, is_sum, has_parts, depth_of, depth_from, largest}
use Rattle.np_model.specs.Values.{every_read}
use Rattle.np_model.proofs.Expressions.{fold-Number, fold-Value, fold-Minus, fold-Sub, fold-Div, fold-Add, fold-Mul}
use Rattle.np_typing.proofs.keeping.UsedLists.{each_weaker, all_true}

-- what it reads is allowed, its operators nest at most so deep, and in an amount it reads static functions alone
pub record IsFine (task : TaskParts) (parameters : List ℕ) (in_amount : Bool) (depth : ℕ) (s : Sum) : Type 0 where
  pub reads : every_read (is_use task task.functions parameters) s ≡ true
  pub deep : depth_of s ≤ depth
  pub static : in_amount ≡ true → every_read (λ f _. is_fixed task.functions f) s ≡ true

largest_below : (depth : ℕ) (ss : List Sum) → AllByRecursion (λ s. depth_of s ≤ depth) ss → largest (map depth_of ss) ≤ depth
largest_below depth [] h = omega arith
largest_below depth (s ∷ ss) h = let less = largest_below depth ss h.1 in let one = h.0 in omega (arith, less, one)

module _ (task : TaskParts) (parameters : List ℕ) (in_amount : Bool) where
  abbrev Fine : ℕ → Sum → Type 0
  Fine = IsFine task parameters in_amount

  pub fine_number : (depth : ℕ) (x : Fraction) → IsFine task parameters in_amount depth (sum.Number x)
  fine_number depth x = record {
    reads = fold-Number _ _ x;
    deep = let e : depth_of (sum.Number x) ≡ 0 = fold-Number ℕ depth_from x in omega (arith, e);
    static = λ is. fold-Number _ _ x;
  }

  pub fine_value : (depth function : ℕ) (refs : List Ref) → is_use task task.functions parameters function refs ≡ true
      → (in_amount ≡ true → is_fixed task.functions function ≡ true) → IsFine task parameters in_amount depth (sum.Value function refs)
  fine_value depth function refs fits fixed = record {
    reads = fold-Value _ _ function refs ∙ fits;
    deep = let e : depth_of (sum.Value function refs) ≡ 0 = fold-Value ℕ depth_from function refs in omega (arith, e);
    static = λ is. fold-Value _ _ function refs ∙ fixed is;
  }

  pub fine_minus : (depth : ℕ) (s : Sum) → IsFine task parameters in_amount depth s → IsFine task parameters in_amount (suc depth) (sum.Minus s)
  fine_minus depth s h = record {
    reads = fold-Minus _ _ s ∙ h.reads;
    deep = let e : depth_of (sum.Minus s) ≡ suc (depth_of s) = fold-Minus ℕ depth_from s in omega (arith, e, h.deep);
    static = λ is. fold-Minus _ _ s ∙ h.static is;
  }

  pub fine_sub : (depth : ℕ) (s t : Sum) → IsFine task parameters in_amount depth s → IsFine task parameters in_amount depth t
      → IsFine task parameters in_amount (suc depth) (sum.Sub s t)
  fine_sub depth s t h k = record {
    reads = fold-Sub _ _ s t ∙ and_from _ _ h.reads k.reads;
    deep = let e : depth_of (sum.Sub s t) ≡ suc (max (depth_of s) (depth_of t)) = fold-Sub ℕ depth_from s t in omega (arith, e, h.deep, k.deep);
    static = λ is. fold-Sub _ _ s t ∙ and_from _ _ (h.static is) (k.static is);
  }

  pub fine_div : (depth : ℕ) (s t : Sum) → IsFine task parameters in_amount depth s → IsFine task parameters in_amount depth t
      → IsFine task parameters in_amount (suc depth) (sum.Div s t)
  fine_div depth s t h k = record {
    reads = fold-Div _ _ s t ∙ and_from _ _ h.reads k.reads;
    deep = let e : depth_of (sum.Div s t) ≡ suc (max (depth_of s) (depth_of t)) = fold-Div ℕ depth_from s t in omega (arith, e, h.deep, k.deep);
    static = λ is. fold-Div _ _ s t ∙ and_from _ _ (h.static is) (k.static is);
  }

  all_read : (depth : ℕ) (ss : List Sum) → AllByRecursion (Fine depth) ss → list_all (λ b. b) (map (every_read (is_use task task.functions parameters)) ss) ≡ true
  all_read depth ss h = all_true (every_read (is_use task task.functions parameters)) ss (each_weaker (Fine depth) _ (λ s f. f.reads) ss h)

  all_static : (depth : ℕ) (ss : List Sum) → AllByRecursion (Fine depth) ss → in_amount ≡ true
      → list_all (λ b. b) (map (every_read (λ f _. is_fixed task.functions f)) ss) ≡ true
  all_static depth ss h is = all_true (every_read (λ f _. is_fixed task.functions f)) ss (each_weaker (Fine depth) _ (λ s f. f.static is) ss h)

  all_deep : (depth : ℕ) (ss : List Sum) → AllByRecursion (Fine depth) ss → largest (map depth_of ss) ≤ depth
  all_deep depth ss h = largest_below depth ss (each_weaker (Fine depth) _ (λ s f. f.deep) ss h)

  pub fine_add : (depth : ℕ) (ss : List Sum) → AllByRecursion (IsFine task parameters in_amount depth) ss
      → IsFine task parameters in_amount (suc depth) (sum.Add ss)
  fine_add depth ss h = record {
    reads = fold-Add _ _ ss ∙ all_read depth ss h;
    deep = let e : depth_of (sum.Add ss) ≡ suc (largest (map depth_of ss)) = fold-Add ℕ depth_from ss in let below = all_deep depth ss h in omega (arith, e, below);
    static = λ is. fold-Add _ _ ss ∙ all_static depth ss h is;
  }

  pub fine_mul : (depth : ℕ) (ss : List Sum) → AllByRecursion (IsFine task parameters in_amount depth) ss
      → IsFine task parameters in_amount (suc depth) (sum.Mul ss)
  fine_mul depth ss h = record {
    reads = fold-Mul _ _ ss ∙ all_read depth ss h;
    deep = let e : depth_of (sum.Mul ss) ≡ suc (largest (map depth_of ss)) = fold-Mul ℕ depth_from ss in let below = all_deep depth ss h in omega (arith, e, below);
    static = λ is. fold-Mul _ _ ss ∙ all_static depth ss h is;
  }

  pub fine_is_sum : (depth : ℕ) (s : Sum) → depth ≤ 256 → has_parts s ≡ true → IsFine task parameters in_amount depth s → is_sum task parameters s ≡ true
  fine_is_sum depth s few parts h = and_from _ _ h.reads (and_from _ _ parts (le-leb _ _ (omega (arith, few, h.deep))))
