-- Conditions: their text, and which of them have one.
use Rattle.std.specs.Prelude.{ℕ, zero, suc, List, [], ◌∷◌, map, All, codes}
use Rattle.np_lex.specs.declared.token.Place.{Place}
use Rattle.np_lex.specs.Tokens.{Lexeme}
use Rattle.np_read.specs.Marks.{each}
use Rattle.np_words.specs.declared.expr.Expr.{Expr}
use Rattle.np_conditions.specs.declared.condition.Op.{Op}
use Rattle.np_conditions.specs.declared.condition.Op.TheVariants.{Less, Greater, AtMost, AtLeast}
use Rattle.np_conditions.specs.declared.condition.Side.{Side}
use Rattle.np_conditions.specs.declared.condition.Side.TheVariants as side
use Rattle.np_conditions.specs.declared.condition.Condition.{Condition, out-Condition}
use Rattle.np_conditions.specs.declared.condition.Condition.TheFolds.{fold-Condition}
use Rattle.np_conditions.specs.declared.condition.Condition.TheOpen.{Condition-F}
use Rattle.np_conditions.specs.declared.condition.Condition.TheVariants as c
use Rattle.np_words.specs.Bare.{nowhere, bare_word, bare_ident}
use Rattle.np_words.specs.ExprText.{expr, expr_at, IsExpr, bare_expr}
use Rattle.np_words.specs.Text.{Printer, left, right, fixed_name, operator, variable, identifier, call}
use Rattle.np_words.specs.Written.{IsWord, IsIdent, IsCall}

-- ---- the text

abbrev pub op_text : Op → List ℕ
op_text Less = codes "<"
op_text Greater = codes ">"
op_text AtMost = codes "<="
op_text AtLeast = codes ">="

module _ {T : Type 0} (token : List Place → Lexeme → T) where
  -- one side of `=`: the place that it keeps is that of its first token
  abbrev pub side_text : Side → Printer T
  side_text (side.Expr v place) rest = expr_at token v (place ∷ []) rest
  side_text (side.Variable w) rest = variable token w rest

  -- a comparison, in brackets
  abbrev pub comparison : Op → Expr → Expr → Printer T
  comparison op a b rest = left token (operator token (op_text op) (expr token a (expr token b (right token rest))))

  -- what `not` encloses, and its bracket
  abbrev pub negation : Printer T → Printer T
  negation inner rest = left token (fixed_name token (codes "not") (inner (right token rest)))

  -- the text of a condition, by the texts of its parts
  abbrev pub condition_step : Condition-F (Printer T) → Printer T
  condition_step Condition-F.Nothing rest = left token (right token rest)
  condition_step (Condition-F.And parts) rest = left token (fixed_name token (codes "and") (each (λ part. part) parts (right token rest)))
  condition_step (Condition-F.Atom w idents) rest = call token w idents rest
  condition_step (Condition-F.NotAtom w idents) rest = negation (call token w idents) rest
  condition_step (Condition-F.Compare op a b) rest = comparison op a b rest
  condition_step (Condition-F.NotCompare op a b) rest = negation (comparison op a b) rest
  condition_step (Condition-F.Equal l r) rest = left token (operator token (codes "=") (side_text l (side_text r (right token rest))))
  condition_step (Condition-F.NotSame i j) rest = negation (λ ts. left token (operator token (codes "=") (identifier token i (identifier token j (right token ts))))) rest

  abbrev pub condition : Condition → Printer T
  condition = fold-Condition (Printer T) condition_step

-- ---- which have a text

abbrev pub IsSide : ℕ → Side → Type 0
IsSide depth (side.Expr v place) = IsExpr depth v
IsSide depth (side.Variable w) = IsWord w

-- a bracket can still be opened, and this holds of what it encloses
abbrev pub InBracket : (ℕ → Type 0) → ℕ → Type 0
InBracket P zero = ⊥
InBracket P (suc depth) = P depth

-- a condition by its parts, in whose bracket so many more may be opened
abbrev pub IsConditionOf : ℕ → (Condition → Type 0) → Condition-F Condition → Type 0
IsConditionOf depth P Condition-F.Nothing = Unit {0}
IsConditionOf depth P (Condition-F.And parts) = All P parts
IsConditionOf depth P (Condition-F.Atom w idents) = IsCall w idents
IsConditionOf depth P (Condition-F.NotAtom w idents) = InBracket (λ _. IsCall w idents) depth
IsConditionOf depth P (Condition-F.Compare op a b) = IsExpr depth a × IsExpr depth b
IsConditionOf depth P (Condition-F.NotCompare op a b) = InBracket (λ d. IsExpr d a × IsExpr d b) depth
IsConditionOf depth P (Condition-F.Equal l r) = IsSide depth l × IsSide depth r
IsConditionOf depth P (Condition-F.NotSame i j) = InBracket (λ _. IsIdent i × IsIdent j) depth

-- a condition in which brackets nest at most so deep
abbrev pub IsCondition : ℕ → Condition → Type 0
IsCondition zero v = ⊥
IsCondition (suc depth) v = IsConditionOf depth (IsCondition depth) (out-Condition v)

-- ---- the same without places

abbrev pub bare_side : Side → Side
bare_side (side.Expr v place) = side.Expr (bare_expr v) nowhere
bare_side (side.Variable w) = side.Variable (bare_word w)

abbrev pub bare_step : Condition-F Condition → Condition
bare_step Condition-F.Nothing = c.Nothing
bare_step (Condition-F.And parts) = c.And parts
bare_step (Condition-F.Atom w idents) = c.Atom (bare_word w) (map bare_ident idents)
bare_step (Condition-F.NotAtom w idents) = c.NotAtom (bare_word w) (map bare_ident idents)
bare_step (Condition-F.Compare op a b) = c.Compare op (bare_expr a) (bare_expr b)
bare_step (Condition-F.NotCompare op a b) = c.NotCompare op (bare_expr a) (bare_expr b)
bare_step (Condition-F.Equal l r) = c.Equal (bare_side l) (bare_side r)
bare_step (Condition-F.NotSame i j) = c.NotSame (bare_ident i) (bare_ident j)

abbrev pub bare_condition : Condition → Condition
bare_condition = fold-Condition Condition bare_step
