-- The words of the commands.
use Rattle.std.specs.Prelude.{ℕ, ◌+◌, ◌-◌, ◌*◌, ◌^◌, Bool, ◌&&◌, not, List, [], ◌∷◌, Option, Some, None, codes, nat_le, if◌then◌else◌}
use Rattle.std.specs.Char.{is_ascii_digit}
use Rattle.std.specs.Option.{option_map, option_or}
use Rattle.std.specs.Str.{bytes_eq}

-- the names of the pair of files that a command reads first
pub record Inputs : Type 0 where
  pub domain : List ℕ
  pub problem : List ℕ

-- what `solve` is told: the pair, the two files that it puts, and how many states it may expand
pub record Solve : Type 0 where
  pub inputs : Inputs
  pub plan : List ℕ
  pub certificate : List ℕ
  pub nodes : ℕ

-- what `check` is told: the pair, the certificate, and the plan, where it is told one
pub record Check : Type 0 where
  pub inputs : Inputs
  pub certificate : List ℕ
  pub plan : Option (List ℕ)

-- what `run` is told: the pair, and the plan
pub record Run : Type 0 where
  pub inputs : Inputs
  pub plan : List ℕ

-- what a command is told
pub data Command : Type 0 where
  solving : Solve → Command
  checking : Check → Command
  running : Run → Command
  listing : Inputs → Command

-- the number that decimal digits stand for after a number that is already read; none where a byte is no digit
abbrev pub number_from : ℕ → List ℕ → Option ℕ
number_from n [] = Some n
number_from n (byte ∷ bytes) = if is_ascii_digit byte then number_from (n * 10 + (byte - 48)) bytes else None

-- a number, where it is at most 2^24, which is the greatest budget
abbrev pub at_most_all : Option ℕ → Option ℕ
at_most_all None = None
at_most_all (Some n) = if nat_le n (2 ^ 24) then Some n else None

-- a number from 1 to the greatest budget in decimal digits without a leading zero
abbrev pub nodes_of : List ℕ → Option ℕ
nodes_of [] = None
nodes_of (first ∷ bytes) = if nat_le first 48 then None else at_most_all (number_from 0 (first ∷ bytes))

-- the names that are written differ from each other and from those that are read
abbrev pub is_apart : List ℕ → List ℕ → List ℕ → List ℕ → Bool
is_apart domain problem plan certificate =
    not (bytes_eq plan domain) && (not (bytes_eq plan problem) && (not (bytes_eq certificate domain)
    && (not (bytes_eq certificate problem) && not (bytes_eq plan certificate))))

-- where the words name a budget, it is this
abbrev pub budget_of : List (List ℕ) → Option ℕ
budget_of [] = Some 100000
budget_of (word ∷ []) = nodes_of word
budget_of (word ∷ other ∷ words) = None

-- `solve DOMAIN PROBLEM PLAN CERT [NODES]`
abbrev pub solve_of : List (List ℕ) → Option Solve
solve_of (command ∷ domain ∷ problem ∷ plan ∷ certificate ∷ words) =
    if bytes_eq command (codes "solve") && is_apart domain problem plan certificate
    then option_map (λ nodes. record { inputs = record { domain = domain; problem = problem }; plan = plan; certificate = certificate; nodes = nodes }) (budget_of words)
    else None
solve_of words = None

-- where the words name a plan, it is this
abbrev pub plan_of : List (List ℕ) → Option (Option (List ℕ))
plan_of [] = Some None
plan_of (word ∷ []) = Some (Some word)
plan_of (word ∷ other ∷ words) = None

-- `check DOMAIN PROBLEM CERT [PLAN]`
abbrev pub check_of : List (List ℕ) → Option Check
check_of (command ∷ domain ∷ problem ∷ certificate ∷ words) =
    if bytes_eq command (codes "check")
    then option_map (λ plan. record { inputs = record { domain = domain; problem = problem }; certificate = certificate; plan = plan }) (plan_of words)
    else None
check_of words = None

-- `run DOMAIN PROBLEM PLAN`
abbrev pub run_of : List (List ℕ) → Option Run
run_of (command ∷ domain ∷ problem ∷ plan ∷ []) =
    if bytes_eq command (codes "run") then Some (record { inputs = record { domain = domain; problem = problem }; plan = plan }) else None
run_of words = None

-- `list DOMAIN PROBLEM`
abbrev pub list_of : List (List ℕ) → Option Inputs
list_of (command ∷ domain ∷ problem ∷ []) = if bytes_eq command (codes "list") then Some (record { domain = domain; problem = problem }) else None
list_of words = None

-- the command that the words fit; they never fit two
abbrev pub command_of : List (List ℕ) → Option Command
command_of words =
    option_or (option_map solving (solve_of words)) (option_or (option_map checking (check_of words))
    (option_or (option_map running (run_of words)) (option_map listing (list_of words))))
