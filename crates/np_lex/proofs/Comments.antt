-- A comment runs up to the end of its line.
use Rattle.std.proofs.Common.{◌≡◌, ℕ, suc, ◌+◌, ◌-◌, ◌<◌, Bool, true, false, cond, not, List, [], ◌∷◌, length, get_or, take, drop, refl, sym, ◌∙◌, ap, subst, arith, length-drop}
use Rattle.std.specs.List.{position_or_len}
use Rattle.std.proofs.lemmas.Bool.{eqb-true}
use Rattle.std.proofs.lemmas.List.{take_rest, drop-drop, get_or-drop}
use Rattle.np_lex.specs.Blanks.{is_line_feed, blanks_from, blank_length}

-- one byte of a comment, by whether it is a line feed
comment_step : (b : ℕ) (bs : List ℕ) (ends : Bool) → is_line_feed b ≡ ends → blanks_from true bs ≡ position_or_len is_line_feed bs + blank_length (drop (position_or_len is_line_feed bs) bs) → blanks_from true (b ∷ bs) ≡ cond (not ends) (1 + position_or_len is_line_feed bs) 0 + blank_length (drop (cond (not ends) (1 + position_or_len is_line_feed bs) 0) (b ∷ bs))
comment_step b bs true e rest = subst (λ n. blanks_from true (n ∷ bs) ≡ 0 + blank_length (n ∷ bs)) (sym (eqb-true b 10 e)) (omega arith)
comment_step b bs false e rest =
    let more : 1 + position_or_len is_line_feed bs ≡ suc (position_or_len is_line_feed bs) = omega arith in
    rw (e, more) (omega (arith, rest))

-- what a comment's bytes and what follows them add up to
pub blanks_from-comment : (bs : List ℕ) → blanks_from true bs ≡ position_or_len is_line_feed bs + blank_length (drop (position_or_len is_line_feed bs) bs)
blanks_from-comment [] = omega arith
blanks_from-comment (b ∷ bs) = comment_step b bs (is_line_feed b) refl (blanks_from-comment bs)

-- a leading comment, and the blanks after it
pub blank_length-comment : (bs : List ℕ) → 0 < length bs → get_or bs 0 0 ≡ 59 → blank_length bs ≡ position_or_len is_line_feed bs + blank_length (drop (position_or_len is_line_feed bs) bs)
blank_length-comment [] some begins = absurd (omega arith)
blank_length-comment (b ∷ bs) some begins =
    let more : 1 + position_or_len is_line_feed bs ≡ suc (position_or_len is_line_feed bs) = omega arith in
    subst (λ n. blank_length (n ∷ bs) ≡ position_or_len is_line_feed (n ∷ bs) + blank_length (drop (position_or_len is_line_feed (n ∷ bs)) (n ∷ bs))) (sym begins)
    (rw more (omega (arith, blanks_from-comment bs)))

-- a comment has a byte
comment-some : (bs : List ℕ) → 0 < length bs → get_or bs 0 0 ≡ 59 → 0 < position_or_len is_line_feed bs
comment-some [] some begins = absurd (omega arith)
comment-some (b ∷ bs) some begins = subst (λ n. 0 < position_or_len is_line_feed (n ∷ bs)) (sym begins) (omega arith)

-- passing a comment of k bytes: there are some, and the blanks that are left are those after it
pub record PassesComment (bytes : List ℕ) (n k : ℕ) : Type 0 where
  pub some : 0 < k
  pub so_far : (n + k) + blank_length (drop (n + k) bytes) ≡ n + blank_length (drop n bytes)

-- where a comment begins, its line's length is passed
pub passes_comment : (bytes : List ℕ) (n k : ℕ) → n < length bytes → get_or bytes n 0 ≡ 59 → k ≡ position_or_len is_line_feed (take (length bytes - n) (drop n bytes)) → PassesComment bytes n k
passes_comment bytes n k within begins e =
    let rest : List ℕ = drop n bytes in
    let k_is : k ≡ position_or_len is_line_feed rest = e ∙ ap (position_or_len is_line_feed) (take_rest bytes n) in
    let some : 0 < length rest = omega (arith, length-drop n bytes) in
    let zero_more : n + 0 ≡ n = omega arith in
    let begins_so : get_or rest 0 0 ≡ 59 = get_or-drop n bytes 0 0 ∙ ap (λ i. get_or bytes i 0) zero_more ∙ begins in
    let passed : blank_length rest ≡ k + blank_length (drop (n + k) bytes) =
    blank_length-comment rest some begins_so ∙ ap (λ i. i + blank_length (drop i rest)) (sym k_is) ∙ ap (λ l. k + blank_length l) (drop-drop k n bytes) in
    record { some = omega (arith, comment-some rest some begins_so); so_far = omega (arith, passed) }
