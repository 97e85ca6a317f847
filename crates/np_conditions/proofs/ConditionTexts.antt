-- The text of each condition, by its parts, and the same without places.
use Rattle.std.proofs.Common.{◌≡◌, List, map, sym, ap, subst, ◌∙◌, codes}
use Rattle.np_lex.specs.declared.token.Place.{Place}
use Rattle.np_lex.specs.Tokens.{Lexeme}
use Rattle.np_read.specs.Marks.{each}
use Rattle.np_words.specs.declared.word.Word.{Word}
use Rattle.np_words.specs.declared.word.Ident.{Ident}
use Rattle.np_words.specs.declared.expr.Expr.{Expr}
use Rattle.np_conditions.specs.declared.condition.Op.{Op}
use Rattle.np_conditions.specs.declared.condition.Side.{Side}
use Rattle.np_conditions.specs.declared.condition.Condition.{Condition, out-Condition}
use Rattle.np_conditions.specs.declared.condition.Condition.TheFolds.{fold-Condition, fold-roll-Condition}
use Rattle.np_conditions.specs.declared.condition.Condition.TheOpen.{Condition-F}
use Rattle.np_conditions.specs.declared.condition.Condition.TheVariants as c
use Rattle.np_conditions.specs.declared.condition.Condition.TheViews.{roll-Condition, roll-out-Condition}
use Rattle.np_words.specs.Bare.{bare_word, bare_ident}
use Rattle.np_words.specs.ExprText.{bare_expr}
use Rattle.np_conditions.specs.ConditionText.{side_text, comparison, negation, condition_step, condition, bare_side, bare_step, bare_condition}
use Rattle.np_words.specs.Text.{Printer, left, right, fixed_name, operator, identifier, call}
use Rattle.np_words.proofs.ExprTexts.{tail_of, each_map}

module _ {T : Type 0} (token : List Place → Lexeme → T) where
  -- by its level
  level : (v : Condition) (x : Condition-F Condition) → roll-Condition x ≡ v → (shown : Printer T) → fold-Condition (Printer T) (condition_step token) (roll-Condition x) ≡ shown → (ts : List T) → condition token v ts ≡ shown ts
  level v x is shown folds ts = ap (λ (w : Condition). condition token w ts) (sym is) ∙ ap (λ (f : Printer T). f ts) folds

  pub text_nothing : (ts : List T) → condition token c.Nothing ts ≡ left token (right token ts)
  text_nothing = level c.Nothing Condition-F.Nothing c.rolls-Nothing _ (fold-roll-Condition (Printer T) (condition_step token) Condition-F.Nothing)

  abbrev itself : Printer T → Printer T
  itself shown = shown

  pub text_and : (parts : List Condition) (ts : List T) → condition token (c.And parts) ts ≡ left token (fixed_name token (codes "and") (each (condition token) parts (right token ts)))
  text_and parts ts =
      level (c.And parts) (Condition-F.And parts) (c.rolls-And parts) _ (fold-roll-Condition (Printer T) (condition_step token) (Condition-F.And parts)) ts
      ∙ ap (λ (rest : List T). left token (fixed_name token (codes "and") rest)) (each_map (condition token) itself parts (right token ts))

  pub text_atom : (w : Word) (idents : List Ident) (ts : List T) → condition token (c.Atom w idents) ts ≡ call token w idents ts
  text_atom w idents = level (c.Atom w idents) (Condition-F.Atom w idents) (c.rolls-Atom w idents) _ (fold-roll-Condition (Printer T) (condition_step token) (Condition-F.Atom w idents))

  pub text_not_atom : (w : Word) (idents : List Ident) (ts : List T) → condition token (c.NotAtom w idents) ts ≡ negation token (call token w idents) ts
  text_not_atom w idents =
      level (c.NotAtom w idents) (Condition-F.NotAtom w idents) (c.rolls-NotAtom w idents) _ (fold-roll-Condition (Printer T) (condition_step token) (Condition-F.NotAtom w idents))

  pub text_compare : (op : Op) (a b : Expr) (ts : List T) → condition token (c.Compare op a b) ts ≡ comparison token op a b ts
  text_compare op a b = level (c.Compare op a b) (Condition-F.Compare op a b) (c.rolls-Compare op a b) _ (fold-roll-Condition (Printer T) (condition_step token) (Condition-F.Compare op a b))

  pub text_not_compare : (op : Op) (a b : Expr) (ts : List T) → condition token (c.NotCompare op a b) ts ≡ negation token (comparison token op a b) ts
  text_not_compare op a b =
      level (c.NotCompare op a b) (Condition-F.NotCompare op a b) (c.rolls-NotCompare op a b) _ (fold-roll-Condition (Printer T) (condition_step token) (Condition-F.NotCompare op a b))

  pub text_equal : (l r : Side) (ts : List T) → condition token (c.Equal l r) ts ≡ left token (operator token (codes "=") (side_text token l (side_text token r (right token ts))))
  text_equal l r = level (c.Equal l r) (Condition-F.Equal l r) (c.rolls-Equal l r) _ (fold-roll-Condition (Printer T) (condition_step token) (Condition-F.Equal l r))

  pub text_not_same : (i j : Ident) (ts : List T)
      → condition token (c.NotSame i j) ts ≡ negation token (λ rest. left token (operator token (codes "=") (identifier token i (identifier token j (right token rest))))) ts
  text_not_same i j = level (c.NotSame i j) (Condition-F.NotSame i j) (c.rolls-NotSame i j) _ (fold-roll-Condition (Printer T) (condition_step token) (Condition-F.NotSame i j))

  -- each condition begins with a bracket
  opened : (v w : Condition) → w ≡ v → (ts rest : List T) → condition token w ts ≡ left token rest → condition token v ts ≡ left token (tail_of (condition token v ts))
  opened v w is ts rest so =
      subst (λ (u : Condition). condition token u ts ≡ left token (tail_of (condition token u ts))) is (so ∙ sym (ap (λ (all_of : List T). left token (tail_of all_of)) so))

  opens_by : (x : Condition-F Condition) (v : Condition) → roll-Condition x ≡ v → (ts : List T) → condition token v ts ≡ left token (tail_of (condition token v ts))
  opens_by Condition-F.Nothing v is ts = opened v c.Nothing (sym c.rolls-Nothing ∙ is) ts _ (text_nothing ts)
  opens_by (Condition-F.And parts) v is ts = opened v (c.And parts) (sym (c.rolls-And parts) ∙ is) ts _ (text_and parts ts)
  opens_by (Condition-F.Atom w idents) v is ts = opened v (c.Atom w idents) (sym (c.rolls-Atom w idents) ∙ is) ts _ (text_atom w idents ts)
  opens_by (Condition-F.NotAtom w idents) v is ts = opened v (c.NotAtom w idents) (sym (c.rolls-NotAtom w idents) ∙ is) ts _ (text_not_atom w idents ts)
  opens_by (Condition-F.Compare op a b) v is ts = opened v (c.Compare op a b) (sym (c.rolls-Compare op a b) ∙ is) ts _ (text_compare op a b ts)
  opens_by (Condition-F.NotCompare op a b) v is ts = opened v (c.NotCompare op a b) (sym (c.rolls-NotCompare op a b) ∙ is) ts _ (text_not_compare op a b ts)
  opens_by (Condition-F.Equal l r) v is ts = opened v (c.Equal l r) (sym (c.rolls-Equal l r) ∙ is) ts _ (text_equal l r ts)
  opens_by (Condition-F.NotSame i j) v is ts = opened v (c.NotSame i j) (sym (c.rolls-NotSame i j) ∙ is) ts _ (text_not_same i j ts)

  pub opens : (v : Condition) (ts : List T) → condition token v ts ≡ left token (tail_of (condition token v ts))
  opens v ts = opens_by (out-Condition v) v (roll-out-Condition v) ts

-- ---- the same without places

bare_by : (v : Condition) (x : Condition-F Condition) → roll-Condition x ≡ v → (w : Condition) → bare_condition (roll-Condition x) ≡ w → bare_condition v ≡ w
bare_by v x is w folds = ap bare_condition (sym is) ∙ folds

pub bare_nothing : bare_condition c.Nothing ≡ c.Nothing
bare_nothing = bare_by c.Nothing Condition-F.Nothing c.rolls-Nothing _ (fold-roll-Condition Condition bare_step Condition-F.Nothing)

pub bare_and : (parts : List Condition) → bare_condition (c.And parts) ≡ c.And (map bare_condition parts)
bare_and parts = bare_by (c.And parts) (Condition-F.And parts) (c.rolls-And parts) _ (fold-roll-Condition Condition bare_step (Condition-F.And parts))

pub bare_atom : (w : Word) (idents : List Ident) → bare_condition (c.Atom w idents) ≡ c.Atom (bare_word w) (map bare_ident idents)
bare_atom w idents = bare_by (c.Atom w idents) (Condition-F.Atom w idents) (c.rolls-Atom w idents) _ (fold-roll-Condition Condition bare_step (Condition-F.Atom w idents))

pub bare_not_atom : (w : Word) (idents : List Ident) → bare_condition (c.NotAtom w idents) ≡ c.NotAtom (bare_word w) (map bare_ident idents)
bare_not_atom w idents = bare_by (c.NotAtom w idents) (Condition-F.NotAtom w idents) (c.rolls-NotAtom w idents) _ (fold-roll-Condition Condition bare_step (Condition-F.NotAtom w idents))

pub bare_compare : (op : Op) (a b : Expr) → bare_condition (c.Compare op a b) ≡ c.Compare op (bare_expr a) (bare_expr b)
bare_compare op a b = bare_by (c.Compare op a b) (Condition-F.Compare op a b) (c.rolls-Compare op a b) _ (fold-roll-Condition Condition bare_step (Condition-F.Compare op a b))

pub bare_not_compare : (op : Op) (a b : Expr) → bare_condition (c.NotCompare op a b) ≡ c.NotCompare op (bare_expr a) (bare_expr b)
bare_not_compare op a b =
    bare_by (c.NotCompare op a b) (Condition-F.NotCompare op a b) (c.rolls-NotCompare op a b) _ (fold-roll-Condition Condition bare_step (Condition-F.NotCompare op a b))

pub bare_equal : (l r : Side) → bare_condition (c.Equal l r) ≡ c.Equal (bare_side l) (bare_side r)
bare_equal l r = bare_by (c.Equal l r) (Condition-F.Equal l r) (c.rolls-Equal l r) _ (fold-roll-Condition Condition bare_step (Condition-F.Equal l r))

pub bare_not_same : (i j : Ident) → bare_condition (c.NotSame i j) ≡ c.NotSame (bare_ident i) (bare_ident j)
bare_not_same i j = bare_by (c.NotSame i j) (Condition-F.NotSame i j) (c.rolls-NotSame i j) _ (fold-roll-Condition Condition bare_step (Condition-F.NotSame i j))
