-- Which numbers a filter and a row of bits have.
use Rattle.std.proofs.Common.{◌≡◌, ℕ, ◌+◌, ◌<◌, Bool, true, false, ◌||◌, ◌&&◌, not, eqb, List, [], ◌∷◌, ◌++◌, length, replicate, get_or, refl, sym, ap, ◌∙◌, subst, arith}
use Rattle.std.specs.Prelude.{filter, slice_get, Some, if◌then◌else◌}
use Rattle.std.specs.List.{range_with_len}
use Rattle.std.proofs.lemmas.Bool.{eqb-true, eq-eqb}
use Rattle.std.proofs.lemmas.List.{length-replicate, get_or-replicate, map-id, append-nil}
use Rattle.std.proofs.lemmas.List.FromFn.{length-range_with_len, get_or-range_with_len, get_or-map-range_with_len, length-map-range_with_len, fill_by_all, filter_of_map_range_with_len_more}
use Rattle.std.proofs.lemmas.List.Folds.{list_any_at}
use Rattle.std.proofs.lemmas.Option.{get_or_from_slice_get}
use Rattle.np_flat.specs.declared.parts.FlatStep.{FlatStep}
use Rattle.np_flat.specs.States.{has, facts_after}
use Rattle.np_flat.proofs.Ascending.{has_put_all}
use Rattle.np_blind.specs.Bits.{bit, IsSet, AreFactsAfter}
use Rattle.np_blind.specs.Readings.{true_numbers, bits_of}

and_true : (a : Bool) → (a && true) ≡ a
and_true true = refl
and_true false = refl

and_false : (a : Bool) → (a && false) ≡ false
and_false true = refl
and_false false = refl

-- a bit that is read
pub bit_some : (bits : List Bool) (p : ℕ) (b : Bool) → slice_get bits p ≡ Some b → bit bits p ≡ b
bit_some bits p b e = get_or_from_slice_get bits p b false e

-- a filter has what the list has and the test passes
pub has_filter : (f : ℕ → Bool) (xs : List ℕ) (n : ℕ) → has (filter f xs) n ≡ (f n && has xs n)
has_filter f [] n = sym (and_false (f n))
has_filter f (x ∷ xs) n = by (f x) refl (eqb x n) refl (has_filter f xs n)
  where
    by : (b : Bool) → f x ≡ b → (c : Bool) → eqb x n ≡ c → has (filter f xs) n ≡ (f n && has xs n) → has (if b then x ∷ filter f xs else filter f xs) n ≡ (f n && (c || has xs n))
    by true p true q rest =
        let here : f n ≡ true = subst (λ m. f m ≡ true) (eqb-true x n q) p in
        rw (q, here) refl
    by true p false q rest = rw q rest
    by false p true q rest =
        let here : f n ≡ false = subst (λ m. f m ≡ false) (eqb-true x n q) p in
        rest ∙ rw here refl
    by false p false q rest = rest

-- a range from 0 has the numbers below its length
pub has_range : (n p : ℕ) → p < n → has (range_with_len 0 n) p ≡ true
has_range n p h =
    let at : get_or (range_with_len 0 n) p 0 ≡ 0 + p = get_or-range_with_len 0 n p 0 h in
    let zero_and : 0 + p ≡ p = omega arith in
    list_any_at (λ m. eqb m p) (range_with_len 0 n) p 0 (subst (λ l. p < l) (sym (length-range_with_len 0 n)) h) (eq-eqb (get_or (range_with_len 0 n) p 0) p (at ∙ zero_and))

-- the true numbers are those of the true bits
pub has_true : (bits : List Bool) (p : ℕ) → p < length bits → has (true_numbers bits) p ≡ bit bits p
has_true bits p h =
    has_filter (bit bits) (range_with_len 0 (length bits)) p
    ∙ ap (λ b. bit bits p && b) (has_range (length bits) p h)
    ∙ and_true (bit bits p)

pub bit_of : (count : ℕ) (numbers : List ℕ) (p : ℕ) → p < count → bit (bits_of count numbers) p ≡ has numbers p
bit_of count numbers p h = get_or-map-range_with_len (has numbers) 0 count p p false h (omega arith)

pub length-bits_of : (count : ℕ) (numbers : List ℕ) → length (bits_of count numbers) ≡ count
length-bits_of count numbers = length-map-range_with_len (has numbers) 0 count

-- bits that are those of the numbers
pub same_bits : (bits : List Bool) (count : ℕ) (numbers : List ℕ) → length bits ≡ count → ((p : ℕ) → p < count → bit bits p ≡ has numbers p) → bits ≡ bits_of count numbers
same_bits bits count numbers long each = fill_by_all (has numbers) bits count false long each

-- the bits after a step are those of the facts after it
pub facts_are : (step : FlatStep) (old new : List Bool) → AreFactsAfter step old new → new ≡ bits_of (length old) (facts_after step (true_numbers old))
facts_are step old new after =
    same_bits new (length old) (facts_after step (true_numbers old)) after.count
    (λ p h.
    after.each p h
    ∙ ap (λ b. has step.adds p || (not (has step.deletes p) && b)) (sym (has_true old p h))
    ∙ ap (λ b. has step.adds p || b) (sym (has_filter (λ q. not (has step.deletes q)) (true_numbers old) p))
    ∙ sym (has_put_all step.adds (filter (λ q. not (has step.deletes q)) (true_numbers old)) p))

-- a deletion and then an addition
pub set_twice : (step : FlatStep) (old middle new : List Bool) → IsSet false step.deletes old middle → IsSet true step.adds middle new → AreFactsAfter step old new
set_twice step old middle new deleted added = record {
  count = added.count ∙ deleted.count;
  each = λ p h. added.each p (subst (λ n. p < n) (sym deleted.count) h) ∙ ap (λ b. if has step.adds p then true else b) (deleted.each p h) ∙ both (has step.adds p) (has step.deletes p) (bit old p);
}
  where
    both : (a d b : Bool) → (if a then true else (if d then false else b)) ≡ (a || (not d && b))
    both true d b = refl
    both false true b = refl
    both false false b = refl

-- with none true before, the bits that are set are those of the numbers
pub set_none : (count : ℕ) (numbers : List ℕ) (old new : List Bool) → old ≡ replicate count false → IsSet true numbers old new → new ≡ bits_of count numbers
set_none count numbers old new none set =
    let long : length old ≡ count = ap length none ∙ length-replicate count false in
    same_bits new count numbers (set.count ∙ long)
    (λ p h. set.each p (subst (λ n. p < n) (sym long) h) ∙ ap (λ b. if has numbers p then true else b) (ap (λ bits. bit bits p) none ∙ get_or-replicate count p false false h) ∙ itself (has numbers p))
  where
    itself : (b : Bool) → (if b then true else false) ≡ b
    itself true = refl
    itself false = refl

-- one bit more
pub true_more : (bits : List Bool) (n : ℕ) (b : Bool) → slice_get bits n ≡ Some b → filter (bit bits) (range_with_len 0 (n + 1)) ≡ filter (bit bits) (range_with_len 0 n) ++ (if b then n ∷ [] else [])
true_more bits n b e =
    ap (filter (bit bits)) (sym (map-id (range_with_len 0 (n + 1))))
    ∙ filter_of_map_range_with_len_more (bit bits) (λ (m : ℕ). m) 0 n n (omega arith)
    ∙ ap (λ xs. filter (bit bits) xs ++ (if bit bits n then n ∷ [] else [])) (map-id (range_with_len 0 n))
    ∙ ap (λ c. filter (bit bits) (range_with_len 0 n) ++ (if c then n ∷ [] else [])) (bit_some bits n b e)

-- the numbers so far, with the next one where its bit is true
pub next_true : (bits : List Bool) (n : ℕ) (b : Bool) (old new : List ℕ) → slice_get bits n ≡ Some b → b ≡ true → old ≡ filter (bit bits) (range_with_len 0 n) → new ≡ old ++ n ∷ [] → new ≡ filter (bit bits) (range_with_len 0 (n + 1))
next_true bits n b old new at on so_far e = e ∙ ap (λ xs. xs ++ n ∷ []) so_far ∙ sym (true_more bits n true (at ∙ ap Some on))

pub next_false : (bits : List Bool) (n : ℕ) (b : Bool) (old new : List ℕ) → slice_get bits n ≡ Some b → b ≡ false → old ≡ filter (bit bits) (range_with_len 0 n) → new ≡ old → new ≡ filter (bit bits) (range_with_len 0 (n + 1))
next_false bits n b old new at off so_far e = e ∙ so_far ∙ sym (true_more bits n false (at ∙ ap Some off) ∙ append-nil (filter (bit bits) (range_with_len 0 n)))
