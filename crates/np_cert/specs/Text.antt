-- The text of certificates: each has one list of lexemes, and bytes spell it where theirs are these. The format is this project's own.
use Rattle.std.specs.Prelude.{◌≡◌, ℕ, ◌^◌, ◌<◌, ℤ, pos, negsuc, suc, unsigned_abs, ⊤, List, [], ◌++◌, length, All, Some, codes, decimal}
use Rattle.np_lex.specs.Tokens.{Lexeme}
use Rattle.np_read.specs.Lexemes.{lexemes}
use Rattle.np_read.specs.Printers.{Printed, all, left, right, name, number}
use Rattle.np_count.specs.declared.proof.Row.{Row}
use Rattle.np_count.specs.declared.proof.Row.TheVariants.{Demand, Flow, FlowNot, Floor, Cut}
use Rattle.np_count.specs.declared.proof.Proof.{Proof}
use Rattle.np_cert.specs.declared.certificate.Limit.{Limit}
use Rattle.np_cert.specs.declared.certificate.Limit.TheVariants.{Number, Absent}
use Rattle.np_cert.specs.declared.certificate.Why.{Why}
use Rattle.np_cert.specs.declared.certificate.Why.TheVariants as why
use Rattle.np_cert.specs.declared.certificate.Entry.{Entry}
use Rattle.np_cert.specs.declared.certificate.Certificate.{Certificate}

-- a number without sign, and without a leading zero other than 0 itself
abbrev pub natural : ℕ → Printed
natural n = number (decimal n)

-- such a number, or one above 0 after `-`
abbrev pub integer_text : ℤ → List ℕ
integer_text (pos n) = decimal n
integer_text (negsuc n) = codes "-" ++ decimal (suc n)

abbrev pub integer : ℤ → Printed
integer n = number (integer_text n)

-- a number, or `none`
abbrev pub limit : Limit → Printed
limit (Number n) = natural n
limit Absent = name (codes "none")

-- the kind of a row and its numbers, up to the bracket that closes it
abbrev pub row : Row → Printed
row (Demand form) rest = name (codes "demand") (natural form (right rest))
row (Flow fact) rest = name (codes "flow") (natural fact (right rest))
row (FlowNot fact) rest = name (codes "flow-not") (natural fact (right rest))
row (Floor form least) rest = name (codes "floor") (natural form (integer least (right rest)))
row (Cut subgoals) rest = name (codes "cut") (all natural subgoals (right rest))

-- (weight kind number ..)
abbrev pub item : ℕ × Row → Printed
item weighted rest = left (natural weighted.0 (row weighted.1 rest))

-- (proof divisor item ..)
abbrev pub proof : Proof → Printed
proof p rest = left (name (codes "proof") (natural p.divisor (all item p.items (right rest))))

-- (subgoal limit)
abbrev pub number_of : ℕ × Limit → Printed
number_of numbered rest = left (natural numbered.0 (limit numbered.1 (right rest)))

-- expanded, (proof number), or (table (subgoal limit) ..)
abbrev pub reason : Why → Printed
reason why.Expanded rest = name (codes "expanded") rest
reason (why.Proof number) rest = left (name (codes "proof") (natural number (right rest)))
reason (why.Table numbers) rest = left (name (codes "table") (all number_of numbers (right rest)))

-- (entry (facts fact ..) (values value ..) bound reason)
abbrev pub entry : Entry → Printed
entry e rest =
    left (name (codes "entry")
    (left (name (codes "facts") (all natural e.state.facts (right
    (left (name (codes "values") (all integer e.state.values (right
    (limit e.bound (reason e.why (right rest))))))))))))

-- (certificate 1 (claim limit) (proofs proof ..) (entries entry ..))
abbrev pub certificate : Certificate → List Lexeme
certificate c =
    left (name (codes "certificate") (natural 1
    (left (name (codes "claim") (limit c.claim (right
    (left (name (codes "proofs") (all proof c.proofs (right
    (left (name (codes "entries") (all entry c.entries (right (right [])))))))))))))))

-- the numbers of proofs that aren't floors are below 2^64, those of facts in entries below 2^32, and all others below 10^38 in size
abbrev pub IsWord : ℕ → Type 0
IsWord n = n < 2 ^ 64

abbrev pub most : ℕ
most = 10 ^ 38

abbrev pub IsLimit : Limit → Type 0
IsLimit (Number n) = n < most
IsLimit Absent = ⊤

-- a cut has at least one member
abbrev pub IsWrittenRow : Row → Type 0
IsWrittenRow (Demand form) = IsWord form
IsWrittenRow (Flow fact) = IsWord fact
IsWrittenRow (FlowNot fact) = IsWord fact
IsWrittenRow (Floor form least) = IsWord form × (unsigned_abs least < most)
IsWrittenRow (Cut subgoals) = (0 < length subgoals) × All IsWord subgoals

abbrev pub IsWrittenItem : ℕ × Row → Type 0
IsWrittenItem weighted = IsWord weighted.0 × IsWrittenRow weighted.1

abbrev pub IsWrittenProof : Proof → Type 0
IsWrittenProof p = IsWord p.divisor × All IsWrittenItem p.items

abbrev pub IsWrittenNumber : ℕ × Limit → Type 0
IsWrittenNumber numbered = (numbered.0 < most) × IsLimit numbered.1

abbrev pub IsWrittenReason : Why → Type 0
IsWrittenReason why.Expanded = ⊤
IsWrittenReason (why.Proof number) = number < most
IsWrittenReason (why.Table numbers) = All IsWrittenNumber numbers

-- an entry with numbers in their bounds
pub record IsWrittenEntry (e : Entry) : Type 0 where
  pub facts : All (λ p. p < 2 ^ 32) e.state.facts
  pub values : All (λ v. unsigned_abs v < most) e.state.values
  pub bound : IsLimit e.bound
  pub reason : IsWrittenReason e.why

-- a certificate with numbers in their bounds and no empty cut, so that there are bytes that spell it
pub record IsWritten (c : Certificate) : Type 0 where
  pub claim : IsLimit c.claim
  pub proofs : All IsWrittenProof c.proofs
  pub entries : All IsWrittenEntry c.entries

-- the bytes spell this certificate
pub record Spells (bytes : List ℕ) (c : Certificate) : Type 0 where
  pub written : IsWritten c
  pub lexemes_are : lexemes bytes ≡ Some (certificate c)

-- a certificate of the thin form: no proofs, and each entry by expansion
pub record IsThin (c : Certificate) : Type 0 where
  pub no_proofs : c.proofs ≡ []
  pub by_expansion : All (λ e. e.why ≡ why.Expanded) c.entries
