-- The readers of a certificate go by the next item, and are good.
use Rattle.std.proofs.Common.{ℕ, ◌^◌, arith, codes}
use Rattle.np_lex.specs.Tokens.{left, right, named, numeral}
use Rattle.np_count.specs.declared.proof.Row.TheVariants.{Demand, Flow, FlowNot, Floor, Cut}
use Rattle.np_cert.specs.declared.certificate.Limit.TheVariants.{Number, Absent}
use Rattle.np_cert.specs.declared.certificate.Why.TheVariants as why
use Rattle.np_cert.specs.Text.{most}
use Rattle.np_cert.specs.ReadingForm.{natural, integer, limit, number, last_number, demand, flow, flow_not, floor, cut, from_cut, from_floor, from_flow_not, from_flow, row, item, proof, proofs, number_of, table, proof_number, proof_or_table, long_reason, reason, facts, values, entry, claim, entries, certificate}
use Rattle.np_read.specs.ItemReaders.{Reader, pure, expect, open_with, after, before, both, made, further}
use Rattle.np_read.specs.ItemReaders as steps
use Rattle.np_read.proofs.Good.{Good, Starting, good_pure, good_of}
use Rattle.np_read.proofs.GoodParts.{starts_expect, starts_open, starts_either, starts_after, starts_made, good_after, good_before, good_both, good_made, good_row, starts_further}
use Rattle.np_cert.proofs.ReadingNumbers.{starts_natural, starts_integer}

pub starting_fact : Starting (natural (2 ^ 32))
starting_fact k = starts_natural k (2 ^ 32) (omega arith) (omega arith)

pub starting_number : Starting number
starting_number k = starts_natural k (2 ^ 64) (omega arith) (omega arith)

starting_natural : Starting (natural most)
starting_natural k = starts_natural k most (omega arith) (omega arith)

closes : (k : ℕ) → Good k (expect right)
closes k = good_of k (expect right) (starts_expect k right)

starting_limit : Starting limit
unfolding limit
starting_limit k =
    starts_either k (named (codes "none")) (pure Absent) (made (λ n. Number n) (natural most)) (good_pure k Absent)
    (starts_made k (λ n. Number n) (natural most) (starting_natural k)).tries

-- ---- proofs

good_last_number : (k : ℕ) → Good k last_number
unfolding last_number
good_last_number k = good_before k number (expect right) (good_of k number (starting_number k)) (closes k)

good_demand : (k : ℕ) → Good k demand
unfolding demand
good_demand k = good_made k (λ n. Demand n) last_number (good_last_number k)

good_flow : (k : ℕ) → Good k flow
unfolding flow
good_flow k = good_made k (λ n. Flow n) last_number (good_last_number k)

good_flow_not : (k : ℕ) → Good k flow_not
unfolding flow_not
good_flow_not k = good_made k (λ n. FlowNot n) last_number (good_last_number k)

good_floor : (k : ℕ) → Good k floor
unfolding floor
good_floor k =
    good_before k (made (λ x. Floor x.0 x.1) (both number integer)) (expect right)
    (good_made k (λ x. Floor x.0 x.1) (both number integer) (good_both k number integer (good_of k number (starting_number k)) (good_of k integer (starts_integer k)))) (closes k)

good_cut : (k : ℕ) → Good k cut
unfolding cut
good_cut k =
    good_made k (λ us. Cut us) (further number (steps.row number)) (good_of k (further number (steps.row number)) (starts_further number starting_number k))

starting_from_cut : Starting from_cut
unfolding from_cut
starting_from_cut k = starts_after k (expect (named (codes "cut"))) cut (starts_expect k (named (codes "cut"))) (good_cut k)

starting_from_floor : Starting from_floor
unfolding from_floor
starting_from_floor k = starts_either k (named (codes "floor")) floor from_cut (good_floor k) (starting_from_cut k).tries

starting_from_flow_not : Starting from_flow_not
unfolding from_flow_not
starting_from_flow_not k = starts_either k (named (codes "flow-not")) flow_not from_floor (good_flow_not k) (starting_from_floor k).tries

starting_from_flow : Starting from_flow
unfolding from_flow
starting_from_flow k = starts_either k (named (codes "flow")) flow from_flow_not (good_flow k) (starting_from_flow_not k).tries

starting_row : Starting row
unfolding row
starting_row k = starts_either k (named (codes "demand")) demand from_flow (good_demand k) (starting_from_flow k).tries

pub starting_item : Starting item
unfolding item
starting_item k =
    starts_after k (expect left) (both number row) (starts_expect k left)
    (good_both k number row (good_of k number (starting_number k)) (good_of k row (starting_row k)))

pub starting_proof : Starting proof
unfolding proof
starting_proof k =
    starts_after k (open_with (named (codes "proof"))) (made (λ x. record { divisor = x.0; items = x.1 }) (both number (steps.row item))) (starts_open k (named (codes "proof")))
    (good_made k (λ x. record { divisor = x.0; items = x.1 }) (both number (steps.row item)) (good_both k number (steps.row item) (good_of k number (starting_number k)) (good_row item starting_item k)))

starting_proofs : Starting proofs
unfolding proofs
starting_proofs k = starts_after k (open_with (named (codes "proofs"))) (steps.row proof) (starts_open k (named (codes "proofs"))) (good_row proof starting_proof k)

-- ---- entries

pub starting_number_of : Starting number_of
unfolding number_of
starting_number_of k =
    starts_after k (expect left) (before (both (natural most) limit) (expect right)) (starts_expect k left)
    (good_before k (both (natural most) limit) (expect right) (good_both k (natural most) limit (good_of k (natural most) (starting_natural k)) (good_of k limit (starting_limit k))) (closes k))

good_table : (k : ℕ) → Good k table
unfolding table
good_table k = good_made k (λ ns. why.Table ns) (steps.row number_of) (good_row number_of starting_number_of k)

good_proof_number : (k : ℕ) → Good k proof_number
unfolding proof_number
good_proof_number k =
    good_before k (made (λ n. why.Proof n) (natural most)) (expect right) (good_made k (λ n. why.Proof n) (natural most) (good_of k (natural most) (starting_natural k))) (closes k)

starting_proof_or_table : Starting proof_or_table
unfolding proof_or_table
starting_proof_or_table k =
    starts_either k (named (codes "proof")) proof_number (after (expect (named (codes "table"))) table) (good_proof_number k)
    (starts_after k (expect (named (codes "table"))) table (starts_expect k (named (codes "table"))) (good_table k)).tries

starting_long_reason : Starting long_reason
unfolding long_reason
starting_long_reason k = starts_after k (expect left) proof_or_table (starts_expect k left) (good_of k proof_or_table (starting_proof_or_table k))

starting_reason : Starting reason
unfolding reason
starting_reason k = starts_either k (named (codes "expanded")) (pure why.Expanded) long_reason (good_pure k why.Expanded) (starting_long_reason k).tries

starting_facts : Starting facts
unfolding facts
starting_facts k =
    starts_after k (open_with (named (codes "facts"))) (steps.row (natural (2 ^ 32))) (starts_open k (named (codes "facts"))) (good_row (natural (2 ^ 32)) starting_fact k)

starting_values : Starting values
unfolding values
starting_values k = starts_after k (open_with (named (codes "values"))) (steps.row integer) (starts_open k (named (codes "values"))) (good_row integer starts_integer k)

pub starting_entry : Starting entry
unfolding entry
starting_entry k =
    starts_after k (open_with (named (codes "entry"))) _ (starts_open k (named (codes "entry")))
    (good_before k _ (expect right)
    (good_made k _ (both facts (both values (both limit reason)))
    (good_both k facts (both values (both limit reason)) (good_of k facts (starting_facts k))
    (good_both k values (both limit reason) (good_of k values (starting_values k))
    (good_both k limit reason (good_of k limit (starting_limit k)) (good_of k reason (starting_reason k)))))) (closes k))

-- ---- certificates

starting_claim : Starting claim
unfolding claim
starting_claim k =
    starts_after k (open_with (named (codes "claim"))) (before limit (expect right)) (starts_open k (named (codes "claim")))
    (good_before k limit (expect right) (good_of k limit (starting_limit k)) (closes k))

starting_entries : Starting entries
unfolding entries
starting_entries k = starts_after k (open_with (named (codes "entries"))) (steps.row entry) (starts_open k (named (codes "entries"))) (good_row entry starting_entry k)

starting_certificate : Starting certificate
unfolding certificate
starting_certificate k =
    starts_after k (open_with (named (codes "certificate"))) _ (starts_open k (named (codes "certificate")))
    (good_after k (expect (numeral (codes "1"))) _ (good_of k (expect (numeral (codes "1"))) (starts_expect k (numeral (codes "1"))))
    (good_before k _ (expect right)
    (good_made k _ (both claim (both proofs entries))
    (good_both k claim (both proofs entries) (good_of k claim (starting_claim k))
    (good_both k proofs entries (good_of k proofs (starting_proofs k)) (good_of k entries (starting_entries k))))) (closes k)))

pub good_certificate : (k : ℕ) → Good k certificate
good_certificate k = good_of k certificate (starting_certificate k)
