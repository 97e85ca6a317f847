-- What is between tokens.
use Rattle.std.specs.Prelude.{ℕ, suc, Bool, true, false, not, ◌==◌, ◌||◌, List, [], ◌∷◌, if◌then◌else◌}

-- a space, a tab, a carriage return or a line feed
abbrev pub is_blank : ℕ → Bool
is_blank b = b == 32 || b == 9 || b == 13 || b == 10

-- a line feed, which ends a line
abbrev pub is_line_feed : ℕ → Bool
is_line_feed b = b == 10

-- how many leading bytes belong to blanks and comments, where the first byte is in a comment or not: within a comment each byte
-- belongs to it, up to the line feed; outside of one, a blank does, and ';', which begins a comment
abbrev pub blanks_from : Bool → List ℕ → ℕ
blanks_from in_comment [] = 0
blanks_from true (b ∷ bs) = suc (blanks_from (not (is_line_feed b)) bs)
blanks_from false (b ∷ bs) =
    if b == 59 then suc (blanks_from true bs)
    else (if is_blank b then suc (blanks_from false bs)
    else 0)

-- how many leading bytes belong to blanks and comments
abbrev pub blank_length : List ℕ → ℕ
blank_length bytes = blanks_from false bytes
