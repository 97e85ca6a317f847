-- How the maps of names grow, and what is found so far.
use Rattle.std.proofs.Common.{◌≡◌, ℕ, suc, ◌+◌, ◌<◌, ◌≤◌, Bool, true, false, cond, refl, sym, ◌∙◌, ap, arith, List, [], ◌∷◌, ◌++◌, drop, length, get_or, Option, Some, None, append_assoc}
use Rattle.std.specs.Borrow.{Bor}
use Rattle.std.specs.HashMap.{HashMap, get}
use Rattle.std.specs.Option.{option_map}
use Rattle.std.specs.Prelude.{option_and_then}
use Rattle.std.specs.Str.{bytes_eq}
use Rattle.std.proofs.Math.Seq.{drop-cons}
use Rattle.std.proofs.lemmas.List.{append-nil, drop_all}
use Rattle.std.proofs.lemmas.Slice.Eq.{bytes_eq-Decides}
use Rattle.np_words.specs.declared.word.Word.{Word}
use Rattle.np_plan.specs.Numbers.{number_from, HasNumbersFrom, numbers_of}

-- ---- maps

either_way : (a b : Bool) → (a ≡ true → b ≡ true) → (b ≡ true → a ≡ true) → a ≡ b
either_way true b f g = sym (f refl)
either_way false true f g = g refl
either_way false false f g = refl

-- the test doesn't care for the order of the two
same_swapped : (a b : List ℕ) → bytes_eq a b ≡ bytes_eq b a
same_swapped a b =
    either_way (bytes_eq a b) (bytes_eq b a) (λ e. (bytes_eq-Decides b a).1 (sym ((bytes_eq-Decides a b).0 e))) (λ e. (bytes_eq-Decides a b).1 (sym ((bytes_eq-Decides b a).0 e)))

-- one more name before the others
pub numbers_more : {S : Type 0} (old new : HashMap (Bor (List ℕ)) ℕ S) (names : List (List ℕ)) (i n : ℕ) (name : Bor (List ℕ)) (d : List ℕ) → i + 1 ≡ n → i < length names → name.now ≡ get_or names i d
    → ((q : Bor (List ℕ)) → get (λ x y. bytes_eq x.now y.now) new q ≡ cond (bytes_eq name.now q.now) (Some i) (get (λ x y. bytes_eq x.now y.now) old q))
    → HasNumbersFrom n old (drop n names) → HasNumbersFrom i new (drop i names)
numbers_more old new names i n name d one within is updates before q =
    let next : suc i ≡ n = omega arith in
    let plain : i + 1 ≡ suc i = omega arith in
    updates q
    ∙ ap (λ (b : Bool). cond b (Some i) (get (λ x y. bytes_eq x.now y.now) old q)) (same_swapped name.now q.now ∙ ap (bytes_eq q.now) is)
    ∙ ap (λ (o : Option ℕ). cond (bytes_eq q.now (get_or names i d)) (Some i) o) (before q ∙ ap (λ (m : ℕ). number_from m (drop m names) q.now) (sym next) ∙ ap (λ (m : ℕ). number_from m (drop (suc i) names) q.now) (sym plain))
    ∙ ap (λ (xs : List (List ℕ)). number_from i xs q.now) (sym (drop-cons names i d within))

-- ---- numbers of words

-- what is found so far, before what is still looked up
abbrev pub before_numbers : List ℕ → Option (List ℕ) → Option (List ℕ)
before_numbers front rest = option_map (λ ns. front ++ ns) rest

pub none_before : (o : Option (List ℕ)) → before_numbers [] o ≡ o
none_before None = refl
none_before (Some ns) = refl

more_before : (front : List ℕ) (n : ℕ) (o : Option (List ℕ)) → before_numbers front (option_map (λ ns. n ∷ ns) o) ≡ before_numbers (front ++ n ∷ []) o
more_before front n None = refl
more_before front n (Some ns) = ap (λ (xs : List ℕ). Some xs) (sym (append_assoc front (n ∷ []) ns))

module _ (names : List (List ℕ)) (words : List Word) (i : ℕ) (w : Word) (within : i < length words) (is : w ≡ get_or words i w) where
  next_word : drop i words ≡ w ∷ drop (i + 1) words
  next_word =
      let plain : suc i ≡ i + 1 = omega arith in
      drop-cons words i w within ∙ ap (λ (x : Word). x ∷ drop (suc i) words) (sym is) ∙ ap (λ (k : ℕ). w ∷ drop k words) plain

  abbrev after_first : Option ℕ → Option (List ℕ)
  after_first o = option_and_then (λ n. option_map (λ ns. n ∷ ns) (numbers_of names (drop (i + 1) words))) o

  -- a word more
  pub word_found : (front : List ℕ) (n : ℕ) (total : Option (List ℕ)) → number_from 0 names w.text ≡ Some n → before_numbers front (numbers_of names (drop i words)) ≡ total → before_numbers (front ++ n ∷ []) (numbers_of names (drop (i + 1) words)) ≡ total
  word_found front n total found so_far =
      sym (more_before front n (numbers_of names (drop (i + 1) words))) ∙ ap (before_numbers front) (sym (ap (numbers_of names) next_word ∙ ap after_first found)) ∙ so_far

  -- a word that is no name
  pub word_missing : (front : List ℕ) (total : Option (List ℕ)) → number_from 0 names w.text ≡ None → before_numbers front (numbers_of names (drop i words)) ≡ total → None ≡ total
  word_missing front total missing so_far = sym (ap (before_numbers front) (ap (numbers_of names) next_word ∙ ap after_first missing)) ∙ so_far

-- all words
pub words_done : (names : List (List ℕ)) (words : List Word) (i : ℕ) (front : List ℕ) (total : Option (List ℕ)) → length words ≤ i → before_numbers front (numbers_of names (drop i words)) ≡ total → Some front ≡ total
words_done names words i front total past so_far =
    ap (λ (xs : List ℕ). Some xs) (sym (append-nil front)) ∙ sym (ap (λ (ws : List Word). before_numbers front (numbers_of names ws)) (drop_all i words past)) ∙ so_far
