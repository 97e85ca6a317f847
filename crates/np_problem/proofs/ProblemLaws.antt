-- The text of a problem: what is read is spelled so, and back, and it stands at its places.
use Rattle.std.proofs.Common.{◌≡◌, ℕ, List, [], ◌∷◌, map, refl, subst, codes}
use Rattle.std.specs.List.{All}
use Rattle.np_lex.specs.declared.token.Place.{Place}
use Rattle.np_lex.specs.Tokens.{left, right, named}
use Rattle.np_problem.specs.declared.problem.Problem.{Problem}
use Rattle.np_problem.specs.declared.problem.ProblemSection.{ProblemSection}
use Rattle.np_problem.specs.ProblemForm.{last_name, section, named_sections, problem}
use Rattle.np_problem.specs.ProblemText.{IsSection, IsProblem, bare_section, bare_problem}
use Rattle.np_problem.specs.ProblemText as printed
use Rattle.np_problem.proofs.Sections.{good_name, starting_section, section_ends, reads_last_name, reads_section, placed_last_name, placed_section}
use Rattle.np_read.specs.Marks.{each}
use Rattle.np_read.specs.ItemReaders.{Reader, expect, open_with, after, both, row}
use Rattle.np_read.specs.PlacedReaders.{placed}
use Rattle.np_read.proofs.EachRows.{reads_each_row}
use Rattle.np_read.proofs.Good.{Good, good_of}
use Rattle.np_read.proofs.GoodParts.{starts_expect, starts_open, good_after, good_both, good_made, good_row}
use Rattle.np_read.proofs.Marked.{Placed, plain, placed_expect, placed_open, placed_same, placed_both, placed_made, placed_after, placed_row}
use Rattle.np_read.proofs.PlacedParts.{IsAnyPlace, starts_placed, reads_placed, placed_placed}
use Rattle.np_read.proofs.Spelled.{Reads, Made, GoodPair, SamePair, reads_expect, reads_open, reads_same, reads_both, reads_made, reads_after}
use Rattle.np_words.specs.declared.word.Word.{Word}
use Rattle.np_words.specs.Bare.{nowhere}
use Rattle.np_words.specs.Text.{spelled, marked}
use Rattle.np_words.specs.Written.{IsName}
use Rattle.np_words.proofs.ReadingWords.{SameWord}

abbrev Named : Type 0
Named = Word × List ProblemSection

abbrev problem_of : Place × Named → Problem
problem_of x = record { name = x.1.0; sections = x.1.1; place = x.0 }

abbrev GoodNamed : Named → Type 0
GoodNamed = GoodPair IsName (All IsSection)

abbrev FromPlace : Problem → Type 0
FromPlace = Made problem_of (GoodPair IsAnyPlace GoodNamed)

problem_is : (p : Problem) → FromPlace p → IsProblem p
problem_is p h = subst IsProblem h.1 h.2.1

is_problem : (p : Problem) → IsProblem p → FromPlace p
is_problem p h = ((p.place, (p.name, p.sections)), refl, (tt, h))

-- ---- good

good_named : (k : ℕ) → Good k named_sections
unfolding named_sections
good_named k = good_both k last_name (row section) (good_name k) (good_row section starting_section k)

abbrev after_word : Reader Named
after_word = after (open_with (named (codes "problem"))) named_sections

abbrev after_left : Reader Named
after_left = after (expect (named (codes "define"))) after_word

good_after_left : (k : ℕ) → Good k after_left
good_after_left k =
    good_after k (expect (named (codes "define"))) after_word (good_of k (expect (named (codes "define"))) (starts_expect k (named (codes "define"))))
    (good_after k (open_with (named (codes "problem"))) named_sections (good_of k (open_with (named (codes "problem"))) (starts_open k (named (codes "problem")))) (good_named k))

pub good_problem : (k : ℕ) → Good k problem
unfolding problem
good_problem k =
    good_made k problem_of (both (placed left) after_left) (good_both k (placed left) after_left (good_of k (placed left) (starts_placed k left)) (good_after_left k))

-- ---- read as it is spelled

-- the same but for places
abbrev pub SameProblem : Problem → Problem → Type 0
SameProblem a b = bare_problem a ≡ bare_problem b

reads_named : Reads GoodNamed (λ (x : Named) ls. named x.0.text ∷ right ∷ each (printed.section spelled) x.1 (right ∷ ls)) (SamePair SameWord (λ xs ys. map bare_section xs ≡ map bare_section ys)) named_sections
unfolding named_sections
reads_named = reads_both reads_last_name (reads_each_row bare_section starting_section reads_section section_ends)

pub reads_problem : Reads IsProblem (printed.problem spelled) SameProblem problem
unfolding problem
reads_problem =
    reads_same IsProblem problem_is is_problem
    (reads_made problem_of (printed.problem spelled) SameProblem (λ x ls. refl) (λ x y h i. record { name = h.1.0 i; sections = h.1.1 i; place = nowhere })
    (reads_both (reads_placed left) (reads_after (reads_expect (named (codes "define"))) (reads_after (reads_open (named (codes "problem"))) reads_named))))

-- ---- at its places

placed_named : Placed GoodNamed (λ (x : Named) ms. marked (x.0.place ∷ []) (named x.0.text) ∷ plain right ∷ each (printed.section marked) x.1 (plain right ∷ ms)) named_sections
unfolding named_sections
placed_named = placed_both placed_last_name (placed_row placed_section)

pub placed_problem : Placed IsProblem (printed.problem marked) problem
unfolding problem
placed_problem =
    placed_same IsProblem problem_is
    (placed_made problem_of (printed.problem marked) (λ x ms. refl)
    (placed_both (placed_placed left) (placed_after (placed_expect (named (codes "define"))) (placed_after (placed_open (named (codes "problem"))) placed_named))))
