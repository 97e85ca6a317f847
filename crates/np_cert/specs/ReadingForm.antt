-- How each part of a certificate is read.
use Rattle.std.specs.Prelude.{ℕ, zero, suc, ◌^◌, ℤ, pos, negsuc, ◌==◌, ◌&&◌, nat_lt, List, [], ◌∷◌, Option, None, Some, codes, decimal, bytes_eq, if◌then◌else◌}
use Rattle.std.specs.Option.{option_map}
use Rattle.std.specs.Str.Parse.{digits_value}
use Rattle.np_lex.specs.Tokens.{left, right, named, numeral}
use Rattle.np_count.specs.declared.proof.Row.{Row}
use Rattle.np_count.specs.declared.proof.Row.TheVariants.{Demand, Flow, FlowNot, Floor, Cut}
use Rattle.np_count.specs.declared.proof.Proof.{Proof}
use Rattle.np_cert.specs.declared.certificate.Limit.{Limit}
use Rattle.np_cert.specs.declared.certificate.Limit.TheVariants.{Number, Absent}
use Rattle.np_cert.specs.declared.certificate.Why.{Why}
use Rattle.np_cert.specs.declared.certificate.Why.TheVariants as why
use Rattle.np_cert.specs.declared.certificate.Entry.{Entry}
use Rattle.np_cert.specs.declared.certificate.Certificate.{Certificate}
use Rattle.np_cert.specs.Text.{most}
use Rattle.np_read.specs.ItemReaders.{Reader, pure, expect, number_by, either, open_with, after, before, both, made, further}
use Rattle.np_read.specs.ItemReaders as readers

-- the number below the bound that the text is the decimal of
unfoldable pub natural_of : ℕ → List ℕ → Option ℕ
natural_of bound text =
    if nat_lt (digits_value 10 text) bound && bytes_eq (decimal (digits_value 10 text)) text then Some (digits_value 10 text) else None

-- the number below zero of this size; a size of 0 has none
abbrev pub below_zero : Option ℕ → Option ℤ
below_zero None = None
below_zero (Some zero) = None
below_zero (Some (suc n)) = Some (negsuc n)

-- the number that the text says: after `-` one below 0
unfoldable pub integer_of : List ℕ → Option ℤ
integer_of [] = None
integer_of (first ∷ digits) = if first == 45 then below_zero (natural_of most digits) else option_map pos (natural_of most (first ∷ digits))

unfoldable pub natural : ℕ → Reader ℕ
natural bound = number_by (natural_of bound)

unfoldable pub integer : Reader ℤ
integer = number_by integer_of

-- a number, or `none`
unfoldable pub limit : Reader Limit
limit = either (named (codes "none")) (pure Absent) (made (λ n. Number n) (natural most))

-- a number of a proof
abbrev pub number : Reader ℕ
number = natural (2 ^ 64)

-- a number and the closing bracket
unfoldable pub last_number : Reader ℕ
last_number = before number (expect right)

-- what follows the words `demand`, `flow` and `flow-not`
unfoldable pub demand : Reader Row
demand = made (λ n. Demand n) last_number

unfoldable pub flow : Reader Row
flow = made (λ n. Flow n) last_number

unfoldable pub flow_not : Reader Row
flow_not = made (λ n. FlowNot n) last_number

-- what follows the word `floor`
unfoldable pub floor : Reader Row
floor = before (made (λ x. Floor x.0 x.1) (both number integer)) (expect right)

-- what follows the word `cut`
unfoldable pub cut : Reader Row
cut = made (λ us. Cut us) (further number (readers.row number))

-- the kinds of rows, each with those that are tried after it: the kind, its numbers, and the closing bracket
unfoldable pub from_cut : Reader Row
from_cut = after (expect (named (codes "cut"))) cut

unfoldable pub from_floor : Reader Row
from_floor = either (named (codes "floor")) floor from_cut

unfoldable pub from_flow_not : Reader Row
from_flow_not = either (named (codes "flow-not")) flow_not from_floor

unfoldable pub from_flow : Reader Row
from_flow = either (named (codes "flow")) flow from_flow_not

unfoldable pub row : Reader Row
row = either (named (codes "demand")) demand from_flow

-- (weight row)
unfoldable pub item : Reader (ℕ × Row)
item = after (expect left) (both number row)

-- (proof divisor item ..)
unfoldable pub proof : Reader Proof
proof = after (open_with (named (codes "proof"))) (made (λ x. record { divisor = x.0; items = x.1 }) (both number (readers.row item)))

-- (proofs proof ..)
unfoldable pub proofs : Reader (List Proof)
proofs = after (open_with (named (codes "proofs"))) (readers.row proof)

-- (subgoal limit)
unfoldable pub number_of : Reader (ℕ × Limit)
number_of = after (expect left) (before (both (natural most) limit) (expect right))

-- what follows the word `table`
unfoldable pub table : Reader Why
table = made (λ ns. why.Table ns) (readers.row number_of)

-- a proof's number and the closing bracket
unfoldable pub proof_number : Reader Why
proof_number = before (made (λ n. why.Proof n) (natural most)) (expect right)

-- what follows the bracket of a reason
unfoldable pub proof_or_table : Reader Why
proof_or_table = either (named (codes "proof")) proof_number (after (expect (named (codes "table"))) table)

-- (proof number) or (table (subgoal limit) ..)
unfoldable pub long_reason : Reader Why
long_reason = after (expect left) proof_or_table

-- expanded, (proof number), or (table (subgoal limit) ..)
unfoldable pub reason : Reader Why
reason = either (named (codes "expanded")) (pure why.Expanded) long_reason

-- (facts fact ..)
unfoldable pub facts : Reader (List ℕ)
facts = after (open_with (named (codes "facts"))) (readers.row (natural (2 ^ 32)))

-- (values value ..)
unfoldable pub values : Reader (List ℤ)
values = after (open_with (named (codes "values"))) (readers.row integer)

-- (entry facts values bound reason)
unfoldable pub entry : Reader Entry
entry =
    after (open_with (named (codes "entry"))) (before (made (λ x. record { state = record { facts = x.0; values = x.1.0 }; bound = x.1.1.0; why = x.1.1.1 })
    (both facts (both values (both limit reason)))) (expect right))

-- (claim limit)
unfoldable pub claim : Reader Limit
claim = after (open_with (named (codes "claim"))) (before limit (expect right))

-- (entries entry ..)
unfoldable pub entries : Reader (List Entry)
entries = after (open_with (named (codes "entries"))) (readers.row entry)

-- (certificate 1 claim proofs entries)
unfoldable pub certificate : Reader Certificate
certificate =
    after (open_with (named (codes "certificate"))) (after (expect (numeral (codes "1")))
    (before (made (λ x. record { claim = x.0; proofs = x.1.0; entries = x.1.1 }) (both claim (both proofs entries))) (expect right)))
