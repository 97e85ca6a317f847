-- Of one text one problem is read.
use Rattle.std.proofs.Common.{◌≡◌, ℕ, List}
use Rattle.np_lex.specs.Tokens.{items_of}
use Rattle.np_problem.specs.declared.problem.Problem.{Problem}
use Rattle.np_problem.specs.ProblemForm.{problem}
use Rattle.np_problem.specs.Problems.{IsRead}
use Rattle.np_syntax.proofs.OneRead.{one_value}

pub one_read : (bytes : List ℕ) (p q : Problem) → IsRead bytes p → IsRead bytes q → p ≡ q
one_read bytes p q first second = one_value problem (items_of bytes) p first q second
