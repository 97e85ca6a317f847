-- Symbols that were looked up.
use Rattle.std.proofs.Common.{◌≡◌, ℕ, suc, Bool, true, false, ◌||◌, List, [], ◌∷◌, bytes_eq, if◌then◌else◌, None, Some, refl, ap, ◌∙◌}
use Rattle.std.specs.List.{slice_get}
use Rattle.np_model.specs.declared.task.Signature.{Signature}
use Rattle.np_names.specs.Names.{is_among, number_of}
use Rattle.np_declared.specs.Symbols.{symbol_names}

-- a name that no symbol has numbers none
pub unlisted : (symbols : List Signature) (name : List ℕ) → is_among name (symbol_names symbols) ≡ false → slice_get symbols (number_of (symbol_names symbols) name) ≡ None
unlisted [] name h = refl
unlisted (s ∷ symbols) name h = by (bytes_eq name s.name) (unlisted symbols name) h
  where
    by : (b : Bool) → (is_among name (symbol_names symbols) ≡ false → slice_get symbols (number_of (symbol_names symbols) name) ≡ None)
        → (b || is_among name (symbol_names symbols)) ≡ false
        → slice_get (s ∷ symbols) (if b then 0 else suc (number_of (symbol_names symbols) name)) ≡ None
    by true f e = absurd cc
    by false f e = f e

-- what a look-up answers where there is no such name
pub not_found : (symbols : List Signature) (names : List (List ℕ)) (name : List ℕ) → names ≡ symbol_names symbols
    → None ≡ (if is_among name names then Some (number_of names name) else None)
    → slice_get symbols (number_of (symbol_names symbols) name) ≡ None
not_found symbols names name e h =
    by (is_among name (symbol_names symbols)) refl (h ∙ ap (λ ns. if is_among name ns then Some (number_of ns name) else None) e)
  where
    by : (b : Bool) → is_among name (symbol_names symbols) ≡ b
        → None ≡ (if b then Some (number_of (symbol_names symbols) name) else None)
        → slice_get symbols (number_of (symbol_names symbols) name) ≡ None
    by true q r = absurd cc
    by false q r = unlisted symbols name q

-- and where there is
pub found_number : (symbols : List Signature) (names : List (List ℕ)) (name : List ℕ) (n : ℕ) → names ≡ symbol_names symbols
    → Some n ≡ (if is_among name names then Some (number_of names name) else None)
    → n ≡ number_of (symbol_names symbols) name
found_number symbols names name n e h =
    by (is_among name names) h ∙ ap (λ ns. number_of ns name) e
  where
    by : (b : Bool) → Some n ≡ (if b then Some (number_of names name) else None) → n ≡ number_of names name
    by true r = cc
    by false r = absurd cc
