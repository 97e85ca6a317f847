-- Two lexemes that test as the same are the same.
use Rattle.std.proofs.Common.{◌≡◌, ℕ, Bool, true, ◌&&◌, List, refl, ap, ◌∙◌}
use Rattle.std.specs.Str.{bytes_eq}
use Rattle.std.proofs.lemmas.Slice.Eq.{bytes_eq-Decides}
use Rattle.np_lex.specs.Tokens.{Lexeme}
use Rattle.np_lex.specs.declared.token.Kind.{Kind}
use Rattle.np_lex.specs.declared.token.Kind.TheVariants.{Left, Right, Name, Variable, Keyword, Colon, Number, Op}
use Rattle.np_read.specs.Same.{same_kind, same_lexeme}

pub same_kind_true : (a b : Kind) → same_kind a b ≡ true → a ≡ b
same_kind_true Left Left e = refl
same_kind_true Right Right e = refl
same_kind_true Name Name e = refl
same_kind_true Variable Variable e = refl
same_kind_true Keyword Keyword e = refl
same_kind_true Colon Colon e = refl
same_kind_true Number Number e = refl
same_kind_true Op Op e = refl
same_kind_true _ _ e = absurd cc

pub same_kind-refl : (a : Kind) → same_kind a a ≡ true
same_kind-refl Left = refl
same_kind-refl Right = refl
same_kind-refl Name = refl
same_kind-refl Variable = refl
same_kind-refl Keyword = refl
same_kind-refl Colon = refl
same_kind-refl Number = refl
same_kind-refl Op = refl

pub both_true : (a b : Bool) → (a && b) ≡ true → (a ≡ true) × (b ≡ true)
both_true true true e = (refl, refl)
both_true _ _ e = absurd cc

pub same_lexeme_is : (found lexeme : Lexeme) → same_lexeme found lexeme ≡ true → found ≡ lexeme
same_lexeme_is found lexeme e =
    let h = both_true (same_kind found.kind lexeme.kind) (bytes_eq found.text lexeme.text) e in
    let kinds : found.kind ≡ lexeme.kind = same_kind_true found.kind lexeme.kind h.0 in
    let texts : found.text ≡ lexeme.text = (bytes_eq-Decides found.text lexeme.text).0 h.1 in
    ap (λ (k : Kind). record { kind = k; text = found.text }) kinds ∙ ap (λ (t : List ℕ). record { kind = lexeme.kind; text = t }) texts

pub same_lexeme-refl : (lexeme : Lexeme) → same_lexeme lexeme lexeme ≡ true
same_lexeme-refl lexeme =
    ap (λ (b : Bool). b && bytes_eq lexeme.text lexeme.text) (same_kind-refl lexeme.kind) ∙ (bytes_eq-Decides lexeme.text lexeme.text).1 refl
