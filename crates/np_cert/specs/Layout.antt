-- The layout of printed certificates, this project's own: one space between tokens, none after `(` and before `)`, and a line feed in place of the
-- space before the proofs, the entries, each proof and each entry, and one at the end.
use Rattle.std.specs.Prelude.{ℕ, ℤ, List, ◌++◌, codes, decimal}
use Rattle.std.specs.List.{flat_map}
use Rattle.np_count.specs.declared.proof.Row.{Row}
use Rattle.np_count.specs.declared.proof.Row.TheVariants.{Demand, Flow, FlowNot, Floor, Cut}
use Rattle.np_count.specs.declared.proof.Proof.{Proof}
use Rattle.np_cert.specs.declared.certificate.Limit.{Limit}
use Rattle.np_cert.specs.declared.certificate.Limit.TheVariants.{Number, Absent}
use Rattle.np_cert.specs.declared.certificate.Why.{Why}
use Rattle.np_cert.specs.declared.certificate.Why.TheVariants as why
use Rattle.np_cert.specs.declared.certificate.Entry.{Entry}
use Rattle.np_cert.specs.declared.certificate.Certificate.{Certificate}
use Rattle.np_cert.specs.Text.{integer_text}

abbrev pub limit_text : Limit → List ℕ
limit_text (Number n) = decimal n
limit_text Absent = codes "none"

-- a number after its space
abbrev pub natural_text : ℕ → List ℕ
natural_text n = codes " " ++ decimal n

abbrev pub value_text : ℤ → List ℕ
value_text v = codes " " ++ integer_text v

abbrev pub row_text : Row → List ℕ
row_text (Demand form) = codes " demand" ++ natural_text form
row_text (Flow fact) = codes " flow" ++ natural_text fact
row_text (FlowNot fact) = codes " flow-not" ++ natural_text fact
row_text (Floor form least) = codes " floor" ++ natural_text form ++ value_text least
row_text (Cut subgoals) = codes " cut" ++ flat_map natural_text subgoals

abbrev pub item_text : ℕ × Row → List ℕ
item_text weighted = codes " (" ++ decimal weighted.0 ++ row_text weighted.1 ++ codes ")"

abbrev pub proof_text : Proof → List ℕ
proof_text p = codes "\n(proof " ++ decimal p.divisor ++ flat_map item_text p.items ++ codes ")"

abbrev pub number_text : ℕ × Limit → List ℕ
number_text numbered = codes " (" ++ decimal numbered.0 ++ codes " " ++ limit_text numbered.1 ++ codes ")"

abbrev pub reason_text : Why → List ℕ
reason_text why.Expanded = codes " expanded"
reason_text (why.Proof number) = codes " (proof " ++ decimal number ++ codes ")"
reason_text (why.Table numbers) = codes " (table" ++ flat_map number_text numbers ++ codes ")"

abbrev pub entry_text : Entry → List ℕ
entry_text e =
    codes "\n(entry (facts" ++ flat_map natural_text e.state.facts ++ codes ") (values" ++ flat_map value_text e.state.values ++ codes ") "
    ++ limit_text e.bound ++ reason_text e.why ++ codes ")"

-- what comes before the entries
abbrev pub head_text : Limit → List Proof → List ℕ
head_text claim proofs = codes "(certificate 1 (claim " ++ limit_text claim ++ codes ")\n(proofs" ++ flat_map proof_text proofs ++ codes ")\n(entries"

-- what comes after them
abbrev pub end_text : List ℕ
end_text = codes "))\n"

abbrev pub certificate_text : Certificate → List ℕ
certificate_text c = head_text c.claim c.proofs ++ flat_map entry_text c.entries ++ end_text
