-- What a text spells has at most as many tokens as the text has bytes.
use Rattle.std.proofs.Common.{◌≡◌, ℕ, zero, suc, ◌-◌, ◌^◌, ◌≤◌, true≢false, Bool, true, false, List, [], ◌∷◌, length, Option, None, Some, refl, sym, ap, subst, arith}
use Rattle.std.specs.Option.{option_map}
use Rattle.std.proofs.lemmas.Option.{same_Some}
use Rattle.np_lex.specs.Tokens.{Next, taken, bad_at, ended, Item, Lexeme, item_then, items_within, items_from, next_from}
use Rattle.np_read.specs.Lexemes.{lexemes_in, lexemes}
use Rattle.np_syntax.specs.declared.domain.Domain.{Domain}
use Rattle.np_syntax.specs.Domains.{IsDomain, domain_text}
use Rattle.np_words.specs.Texts.{IsSpelled}
use Rattle.np_problem.specs.declared.problem.Problem.{Problem}
use Rattle.np_problem.specs.ProblemText.{IsProblem}
use Rattle.np_problem.specs.Problems.{problem_text}
use Rattle.np_typing.specs.Typing.{IsSpelledPair}

abbrev is_some : {A : Type 0} → Option A → Bool
is_some None = false
is_some (Some x) = true

none_is_not : {A : Type 0} (x : A) → None ≡ Some x → ⊥
none_is_not x e = true≢false (sym (ap is_some e))

-- one lexeme before others
one_more : (most : ℕ) (l : Lexeme) (o : Option (List Lexeme)) → ((ls : List Lexeme) → o ≡ Some ls → length ls ≤ most) → (ls : List Lexeme) → option_map (λ xs. l ∷ xs) o ≡ Some ls → length ls ≤ suc most
one_more most l None few ls e = absurd (none_is_not ls e)
one_more most l (Some xs) few ls e = let n = few xs refl in subst (λ (x : List Lexeme). length x ≤ suc most) (same_Some (l ∷ xs) ls e) (omega (arith, n))

module _ (text : List ℕ) where
  -- what comes next, with those after it
  next_few : (most : ℕ) (next : Next) (later : ℕ → List Item) → ((after : ℕ) (ls : List Lexeme) → lexemes_in (later after) ≡ Some ls → length ls ≤ most)
      → (ls : List Lexeme) → lexemes_in (item_then text next later) ≡ Some ls → length ls ≤ suc most
  next_few most (taken span) later few ls e = one_more most _ (lexemes_in (later span.to)) (few span.to) ls e
  next_few most (bad_at offset) later few ls e = absurd (none_is_not ls e)
  next_few most ended later few ls e = subst (λ (x : List Lexeme). length x ≤ suc most) (same_Some [] ls e) (omega arith)

  within_few : (most offset : ℕ) (ls : List Lexeme) → lexemes_in (items_within most text offset) ≡ Some ls → length ls ≤ most
  unfolding items_within
  within_few zero offset ls e = subst (λ (x : List Lexeme). length x ≤ 0) (same_Some [] ls e) (omega arith)
  within_few (suc most) offset ls e = next_few most (next_from text offset) (λ after. items_within most text after) (within_few most) ls e

-- a text has at most as many lexemes as bytes
few_lexemes : (text : List ℕ) (ls : List Lexeme) → lexemes text ≡ Some ls → length ls ≤ length text
unfolding items_from
few_lexemes text ls e = let few = within_few text (length text - 0) 0 ls e in omega (arith, few)

-- a domain and a problem that two texts of at most 2^24 bytes spell have fewer than 2^31 tokens together
pub spelled_pair : (first second : List ℕ) (d : Domain) (p : Problem) → IsSpelled IsDomain domain_text first d → IsSpelled IsProblem problem_text second p
    → length first ≤ 2 ^ 24 → length second ≤ 2 ^ 24 → IsSpelledPair d p
spelled_pair first second d p domain problem short either =
    let few = few_lexemes first (domain_text d) domain.lexemes_are in
    let few_either = few_lexemes second (problem_text p) problem.lexemes_are in
    record {
      is_domain = domain.is_value;
      short_domain = domain.short;
      is_problem = problem.is_value;
      short_problem = problem.short;
      few = omega (arith, few, few_either, short, either);
    }
