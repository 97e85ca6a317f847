-- How much an expression, a condition or an effect has, which is no more than its tokens.
use Rattle.std.proofs.Common.{◌≡◌, ℕ, suc, ◌+◌, ◌≤◌, Bool, true, false, arith, List, [], ◌∷◌, ◌++◌, length, length-append, map}
use Rattle.std.specs.Prelude.{All}
use Rattle.std.specs.List.{flat_map}
use Rattle.std.proofs.lemmas.List.Elements.{All-nil, All-cons, All-head, All-tail, All-weaker}
use Rattle.np_lex.specs.declared.token.Place.{Place}
use Rattle.np_lex.specs.Tokens.{Lexeme}
use Rattle.np_read.specs.Marks.{each}
use Rattle.np_words.specs.declared.word.Word.{Word}
use Rattle.np_words.specs.declared.word.Ident.{Ident}
use Rattle.np_words.specs.declared.word.Ident.TheVariants as ident
use Rattle.np_words.specs.declared.expr.Expr.{Expr, map-Expr}
use Rattle.np_words.specs.declared.expr.Expr.TheFolds.{fold-Expr, fold-roll-Expr}
use Rattle.np_words.specs.declared.expr.Expr.TheOpen.{Expr-F}
use Rattle.np_words.specs.declared.expr.Expr.TheViews.{roll-Expr}
use Rattle.np_conditions.specs.declared.condition.Side.{Side}
use Rattle.np_conditions.specs.declared.condition.Side.TheVariants as side
use Rattle.np_conditions.specs.declared.condition.Condition.{Condition, map-Condition}
use Rattle.np_conditions.specs.declared.condition.Condition.TheFolds.{fold-Condition, fold-roll-Condition}
use Rattle.np_conditions.specs.declared.condition.Condition.TheOpen.{Condition-F}
use Rattle.np_conditions.specs.declared.condition.Condition.TheViews.{roll-Condition}
use Rattle.np_conditions.specs.declared.effect.Effect.{Effect, map-Effect}
use Rattle.np_conditions.specs.declared.effect.Effect.TheFolds.{fold-Effect, fold-roll-Effect}
use Rattle.np_conditions.specs.declared.effect.Effect.TheOpen.{Effect-F}
use Rattle.np_conditions.specs.declared.effect.Effect.TheViews.{roll-Effect}
use Rattle.np_conditions.specs.ConditionText.{condition, condition_step, side_text}
use Rattle.np_conditions.specs.EffectText.{effect, effect_step, target_text}
use Rattle.np_words.specs.ExprText.{expr, expr_at, expr_step}
use Rattle.np_words.specs.Text.{Printer, spelled, right, identifier, call}
use Rattle.np_typing.specs.Scopes.{Scope}
use Rattle.np_typing.specs.Resolved.{conditions_of, conditions_from, effects_of, effects_from}
use Rattle.np_typing.proofs.keeping.DeclaredInduction.{each_expr, each_condition, each_effect}

-- ---- sums

-- the sum of what items count
abbrev pub total : {A : Type 0} → (A → ℕ) → List A → ℕ
total f [] = 0
total f (x ∷ xs) = f x + total f xs

pub total_append : {A : Type 0} (f : A → ℕ) (xs ys : List A) → total f (xs ++ ys) ≡ total f xs + total f ys
total_append f [] ys = omega arith
total_append f (x ∷ xs) ys = let h = total_append f xs ys in omega arith

-- each is at most the sum
pub each_within : {A : Type 0} (f : A → ℕ) (xs : List A) → All (λ x. f x ≤ total f xs) xs
each_within f [] = All-nil (λ x. f x ≤ 0)
each_within f (x ∷ xs) =
    All-cons (λ y. f y ≤ f x + total f xs) x xs (omega arith)
    (All-weaker (λ y. f y ≤ total f xs) (λ y. f y ≤ f x + total f xs) (λ y h. omega arith) xs (each_within f xs))

-- lists that are each no longer than a count are so together
pub flat_map_within : {A B : Type 0} (f : A → List B) (count : A → ℕ) (xs : List A) → All (λ x. length (f x) ≤ count x) xs → length (flat_map f xs) ≤ total count xs
flat_map_within f count [] h = omega arith
flat_map_within f count (x ∷ xs) h =
    let a = All-head (λ y. length (f y) ≤ count y) x xs h in
    let b = flat_map_within f count xs (All-tail (λ y. length (f y) ≤ count y) x xs h) in
    let e = length-append (f x) (flat_map f xs) in omega arith

-- ---- what a printer adds

-- it puts at least so many tokens before the others
abbrev pub Adds : {T : Type 0} → ℕ → Printer T → Type 0
Adds {T} n print = (rest : List T) → n + length rest ≤ length (print rest)

pub each_adds : {A T : Type 0} (count : A → ℕ) (print : A → List T → List T) (xs : List A) → All (λ x. Adds (count x) (print x)) xs → Adds (total count xs) (each print xs)
each_adds count print [] h rest = omega arith
each_adds count print (x ∷ xs) h rest =
    let a = All-head (λ y. Adds (count y) (print y)) x xs h (each print xs rest) in
    let b = each_adds count print xs (All-tail (λ y. Adds (count y) (print y)) x xs h) rest in omega arith

-- and no fewer
pub adds_some : {T : Type 0} (n : ℕ) (print : Printer T) → Adds n print → Adds 0 print
adds_some n print h rest = let a = h rest in omega arith

-- the same of parts that are made before
parts_add : {A B T : Type 0} (count : A → ℕ) (made : A → B) (print : B → List T → List T) (xs : List A) → All (λ x. Adds (count x) (print (made x))) xs
    → Adds (total (λ n. n) (map count xs)) (each print (map made xs))
parts_add count made print [] h rest = omega arith
parts_add count made print (x ∷ xs) h rest =
    let a = All-head (λ y. Adds (count y) (print (made y))) x xs h (each print (map made xs) rest) in
    let b = parts_add count made print xs (All-tail (λ y. Adds (count y) (print (made y))) x xs h) rest in omega arith

-- ---- sizes

abbrev pub expr_size_from : Expr-F ℕ → ℕ
expr_size_from (Expr-F.Number d) = 1
expr_size_from (Expr-F.Bare w) = 1
expr_size_from (Expr-F.Call w idents) = 1
expr_size_from (Expr-F.Minus x) = suc x
expr_size_from (Expr-F.Sub x y) = suc (x + y)
expr_size_from (Expr-F.Div x y) = suc (x + y)
expr_size_from (Expr-F.Add parts) = suc (total (λ n. n) parts)
expr_size_from (Expr-F.Mul parts) = suc (total (λ n. n) parts)

abbrev pub expr_size : Expr → ℕ
expr_size = fold-Expr ℕ expr_size_from

abbrev pub side_size : Side → ℕ
side_size (side.Expr v place) = expr_size v
side_size (side.Variable w) = 1

abbrev pub condition_size_from : Condition-F ℕ → ℕ
condition_size_from Condition-F.Nothing = 1
condition_size_from (Condition-F.And parts) = suc (total (λ n. n) parts)
condition_size_from (Condition-F.Atom w idents) = 1
condition_size_from (Condition-F.NotAtom w idents) = 1
condition_size_from (Condition-F.Compare op a b) = suc (expr_size a + expr_size b)
condition_size_from (Condition-F.NotCompare op a b) = suc (expr_size a + expr_size b)
condition_size_from (Condition-F.Equal l r) = suc (side_size l + side_size r)
condition_size_from (Condition-F.NotSame i j) = 1

abbrev pub condition_size : Condition → ℕ
condition_size = fold-Condition ℕ condition_size_from

abbrev pub effect_size_from : Effect-F ℕ → ℕ
effect_size_from Effect-F.Nothing = 1
effect_size_from (Effect-F.And parts) = suc (total (λ n. n) parts)
effect_size_from (Effect-F.Add w idents) = 1
effect_size_from (Effect-F.Delete w idents) = 1
effect_size_from (Effect-F.Increase w idents alone v) = suc (expr_size v)
effect_size_from (Effect-F.Decrease w idents alone v) = suc (expr_size v)

abbrev pub effect_size : Effect → ℕ
effect_size = fold-Effect ℕ effect_size_from

-- ---- they are at most the tokens

abbrev Shown : Type 0
Shown = List Place → Printer Lexeme

identifier_adds : (i : Ident) → Adds 0 (identifier spelled i)
identifier_adds (ident.Name w) rest = omega arith
identifier_adds (ident.Variable w) rest = omega arith

idents_add : (idents : List Ident) → Adds 0 (each (identifier spelled) idents)
idents_add idents = adds_some (total (λ _. 0) idents) (each (identifier spelled) idents) (each_adds (λ _. 0) (identifier spelled) idents (λ k d h. identifier_adds _))

call_adds : (w : Word) (idents : List Ident) → Adds 1 (call spelled w idents)
call_adds w idents rest = let a = idents_add idents (right spelled rest) in omega arith

abbrev ExprAdds : Expr → Type 0
ExprAdds v = (places : List Place) → Adds (expr_size v) (expr_at spelled v places)

expr_at_level : (x : Expr-F Expr)
    → ((places : List Place) → Adds (expr_size_from (map-Expr Expr ℕ expr_size x)) (expr_step spelled (map-Expr Expr Shown (expr_at spelled) x) places))
    → ExprAdds (roll-Expr x)
expr_at_level x h places rest = rw (fold-roll-Expr ℕ expr_size_from x, fold-roll-Expr Shown (expr_step spelled) x) (h places rest)

pub expr_adds : (v : Expr) (places : List Place) → Adds (expr_size v) (expr_at spelled v places)
expr_adds = each_expr ExprAdds (record {
  number = λ d. expr_at_level (Expr-F.Number d) (λ places rest. omega arith);
  bare = λ w. expr_at_level (Expr-F.Bare w) (λ places rest. omega arith);
  call = λ w idents. expr_at_level (Expr-F.Call w idents) (λ places rest. let a = idents_add idents (right spelled rest) in omega arith);
  minus = λ a p. expr_at_level (Expr-F.Minus a) (λ places rest. let h = p [] (right spelled rest) in omega arith);
  sub = λ a b p q. expr_at_level (Expr-F.Sub a b) (λ places rest. let h = q [] (right spelled rest) in let k = p [] (expr_at spelled b [] (right spelled rest)) in omega arith);
  div = λ a b p q. expr_at_level (Expr-F.Div a b) (λ places rest. let h = q [] (right spelled rest) in let k = p [] (expr_at spelled b [] (right spelled rest)) in omega arith);
  add = λ parts p. expr_at_level (Expr-F.Add parts) (λ places rest.
      let h = parts_add expr_size (expr_at spelled) (λ (part : Shown). part []) parts (All-weaker ExprAdds (λ v. Adds (expr_size v) (expr_at spelled v [])) (λ v k. k []) parts p) (right spelled rest) in omega arith);
  mul = λ parts p. expr_at_level (Expr-F.Mul parts) (λ places rest.
      let h = parts_add expr_size (expr_at spelled) (λ (part : Shown). part []) parts (All-weaker ExprAdds (λ v. Adds (expr_size v) (expr_at spelled v [])) (λ v k. k []) parts p) (right spelled rest) in omega arith);
})

side_adds : (s : Side) → Adds (side_size s) (side_text spelled s)
side_adds (side.Expr v place) rest = expr_adds v (place ∷ []) rest
side_adds (side.Variable w) rest = omega arith

abbrev ConditionAdds : Condition → Type 0
ConditionAdds c = Adds (condition_size c) (condition spelled c)

condition_at_level : (x : Condition-F Condition)
    → Adds (condition_size_from (map-Condition Condition ℕ condition_size x)) (condition_step spelled (map-Condition Condition (Printer Lexeme) (condition spelled) x))
    → ConditionAdds (roll-Condition x)
condition_at_level x h rest = rw (fold-roll-Condition ℕ condition_size_from x, fold-roll-Condition (Printer Lexeme) (condition_step spelled) x) (h rest)

pub condition_adds : (c : Condition) → Adds (condition_size c) (condition spelled c)
condition_adds = each_condition ConditionAdds (record {
  nothing = condition_at_level Condition-F.Nothing (λ rest. omega arith);
  both = λ parts p. condition_at_level (Condition-F.And parts) (λ rest.
      let h = parts_add condition_size (condition spelled) (λ (part : Printer Lexeme). part) parts p (right spelled rest) in omega arith);
  atom = λ w idents. condition_at_level (Condition-F.Atom w idents) (λ rest. call_adds w idents rest);
  not_atom = λ w idents. condition_at_level (Condition-F.NotAtom w idents) (λ rest. let h = call_adds w idents (right spelled rest) in omega arith);
  compare = λ op a b. condition_at_level (Condition-F.Compare op a b) (λ rest.
      let h = expr_adds b [] (right spelled rest) in let k = expr_adds a [] (expr spelled b (right spelled rest)) in omega arith);
  not_compare = λ op a b. condition_at_level (Condition-F.NotCompare op a b) (λ rest.
      let h = expr_adds b [] (right spelled (right spelled rest)) in let k = expr_adds a [] (expr spelled b (right spelled (right spelled rest))) in omega arith);
  equal = λ l r. condition_at_level (Condition-F.Equal l r) (λ rest.
      let h = side_adds r (right spelled rest) in let k = side_adds l (side_text spelled r (right spelled rest)) in omega arith);
  not_same = λ i j. condition_at_level (Condition-F.NotSame i j) (λ rest.
      let h = identifier_adds j (right spelled (right spelled rest)) in let k = identifier_adds i (identifier spelled j (right spelled (right spelled rest))) in omega arith);
})

target_adds : (w : Word) (idents : List Ident) (alone : Bool) → Adds 0 (target_text spelled w idents alone)
target_adds w idents true rest = omega arith
target_adds w idents false rest = let h = call_adds w idents rest in omega arith

abbrev EffectAdds : Effect → Type 0
EffectAdds e = Adds (effect_size e) (effect spelled e)

effect_at_level : (x : Effect-F Effect)
    → Adds (effect_size_from (map-Effect Effect ℕ effect_size x)) (effect_step spelled (map-Effect Effect (Printer Lexeme) (effect spelled) x))
    → EffectAdds (roll-Effect x)
effect_at_level x h rest = rw (fold-roll-Effect ℕ effect_size_from x, fold-roll-Effect (Printer Lexeme) (effect_step spelled) x) (h rest)

pub effect_adds : (e : Effect) → Adds (effect_size e) (effect spelled e)
effect_adds = each_effect EffectAdds (record {
  nothing = effect_at_level Effect-F.Nothing (λ rest. omega arith);
  both = λ parts p. effect_at_level (Effect-F.And parts) (λ rest.
      let h = parts_add effect_size (effect spelled) (λ (part : Printer Lexeme). part) parts p (right spelled rest) in omega arith);
  adds = λ w idents. effect_at_level (Effect-F.Add w idents) (λ rest. call_adds w idents rest);
  deletes = λ w idents. effect_at_level (Effect-F.Delete w idents) (λ rest. let h = call_adds w idents (right spelled rest) in omega arith);
  increases = λ w idents alone v. effect_at_level (Effect-F.Increase w idents alone v) (λ rest.
      let h = expr_adds v [] (right spelled rest) in let k = target_adds w idents alone (expr spelled v (right spelled rest)) in omega arith);
  decreases = λ w idents alone v. effect_at_level (Effect-F.Decrease w idents alone v) (λ rest.
      let h = expr_adds v [] (right spelled rest) in let k = target_adds w idents alone (expr spelled v (right spelled rest)) in omega arith);
})

-- ---- what they stand for is no longer

parts_few : {A B : Type 0} (size : A → ℕ) (made : A → List B) (xs : List A) → All (λ x. length (made x) ≤ size x) xs → length (flat_map (λ part. part) (map made xs)) ≤ total (λ n. n) (map size xs)
parts_few size made [] h = omega arith
parts_few size made (x ∷ xs) h =
    let a = All-head (λ y. length (made y) ≤ size y) x xs h in
    let b = parts_few size made xs (All-tail (λ y. length (made y) ≤ size y) x xs h) in
    let e = length-append (made x) (flat_map (λ part. part) (map made xs)) in omega arith

module _ (scope : Scope) where
  abbrev FewConditions : Condition → Type 0
  FewConditions c = length (conditions_of scope c) ≤ condition_size c

  few_at_level : (x : Condition-F Condition) → length (conditions_from scope (map-Condition Condition _ (conditions_of scope) x)) ≤ condition_size_from (map-Condition Condition ℕ condition_size x) → FewConditions (roll-Condition x)
  few_at_level x h = rw (fold-roll-Condition ℕ condition_size_from x, fold-roll-Condition _ (conditions_from scope) x) h

  pub conditions_few : (c : Condition) → length (conditions_of scope c) ≤ condition_size c
  conditions_few = each_condition FewConditions (record {
    nothing = few_at_level Condition-F.Nothing (omega arith);
    both = λ parts p. few_at_level (Condition-F.And parts) (let h = parts_few condition_size (conditions_of scope) parts p in omega arith);
    atom = λ w idents. few_at_level (Condition-F.Atom w idents) (omega arith);
    not_atom = λ w idents. few_at_level (Condition-F.NotAtom w idents) (omega arith);
    compare = λ op a b. few_at_level (Condition-F.Compare op a b) (omega arith);
    not_compare = λ op a b. few_at_level (Condition-F.NotCompare op a b) (omega arith);
    equal = λ l r. few_at_level (Condition-F.Equal l r) (omega arith);
    not_same = λ i j. few_at_level (Condition-F.NotSame i j) (omega arith);
  })

  abbrev FewEffects : Effect → Type 0
  FewEffects e = length (effects_of scope e) ≤ effect_size e

  few_effects_at_level : (x : Effect-F Effect) → length (effects_from scope (map-Effect Effect _ (effects_of scope) x)) ≤ effect_size_from (map-Effect Effect ℕ effect_size x) → FewEffects (roll-Effect x)
  few_effects_at_level x h = rw (fold-roll-Effect ℕ effect_size_from x, fold-roll-Effect _ (effects_from scope) x) h

  pub effects_few : (e : Effect) → length (effects_of scope e) ≤ effect_size e
  effects_few = each_effect FewEffects (record {
    nothing = few_effects_at_level Effect-F.Nothing (omega arith);
    both = λ parts p. few_effects_at_level (Effect-F.And parts) (let h = parts_few effect_size (effects_of scope) parts p in omega arith);
    adds = λ w idents. few_effects_at_level (Effect-F.Add w idents) (omega arith);
    deletes = λ w idents. few_effects_at_level (Effect-F.Delete w idents) (omega arith);
    increases = λ w idents alone v. few_effects_at_level (Effect-F.Increase w idents alone v) (omega arith);
    decreases = λ w idents alone v. few_effects_at_level (Effect-F.Decrease w idents alone v) (omega arith);
  })
