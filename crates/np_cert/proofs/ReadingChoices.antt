-- Where a word comes next, what follows it is read; else the lexer tries the next kind.
use Rattle.std.proofs.Common.{◌≡◌, codes}
use Rattle.np_lex.specs.declared.reading.Lexer.{Lexer}
use Rattle.np_lex.specs.Tokens.{named}
use Rattle.np_lex.specs.Lexers.{items_left, Takes, Leaves}
use Rattle.np_read.specs.ItemReaders.{pure, expect, after}
use Rattle.np_read.proofs.ItemLexing.{first_taken, second_taken}
use Rattle.np_cert.specs.declared.certificate.Why.TheVariants as why
use Rattle.np_cert.specs.ReadingForm.{demand, flow, flow_not, floor, from_cut, from_floor, from_flow_not, from_flow, row, table, proof_number, proof_or_table, long_reason, reason}
use Rattle.np_cert.proofs.ReadingForms.{after_nothing, cut_nothing, floor_nothing, flow_not_nothing, flow_nothing, long_nothing}

module _ (old new : Lexer) where
  pub floor_taken : Takes old new (named (codes "floor")) → from_floor (items_left old) ≡ floor (items_left new)
  unfolding from_floor
  floor_taken takes = first_taken (named (codes "floor")) floor from_cut old new takes

  pub floor_left : Leaves old new (λ found. found ≡ named (codes "floor")) → from_floor (items_left old) ≡ from_cut (items_left new)
  unfolding from_floor
  floor_left leaves = second_taken (named (codes "floor")) floor from_cut old new cut_nothing leaves

  pub flow_not_taken : Takes old new (named (codes "flow-not")) → from_flow_not (items_left old) ≡ flow_not (items_left new)
  unfolding from_flow_not
  flow_not_taken takes = first_taken (named (codes "flow-not")) flow_not from_floor old new takes

  pub flow_not_left : Leaves old new (λ found. found ≡ named (codes "flow-not")) → from_flow_not (items_left old) ≡ from_floor (items_left new)
  unfolding from_flow_not
  flow_not_left leaves = second_taken (named (codes "flow-not")) flow_not from_floor old new floor_nothing leaves

  pub flow_taken : Takes old new (named (codes "flow")) → from_flow (items_left old) ≡ flow (items_left new)
  unfolding from_flow
  flow_taken takes = first_taken (named (codes "flow")) flow from_flow_not old new takes

  pub flow_left : Leaves old new (λ found. found ≡ named (codes "flow")) → from_flow (items_left old) ≡ from_flow_not (items_left new)
  unfolding from_flow
  flow_left leaves = second_taken (named (codes "flow")) flow from_flow_not old new flow_not_nothing leaves

  pub demand_taken : Takes old new (named (codes "demand")) → row (items_left old) ≡ demand (items_left new)
  unfolding row
  demand_taken takes = first_taken (named (codes "demand")) demand from_flow old new takes

  pub demand_left : Leaves old new (λ found. found ≡ named (codes "demand")) → row (items_left old) ≡ from_flow (items_left new)
  unfolding row
  demand_left leaves = second_taken (named (codes "demand")) demand from_flow old new flow_nothing leaves

  pub proof_taken : Takes old new (named (codes "proof")) → proof_or_table (items_left old) ≡ proof_number (items_left new)
  unfolding proof_or_table
  proof_taken takes = first_taken (named (codes "proof")) proof_number (after (expect (named (codes "table"))) table) old new takes

  pub proof_left : Leaves old new (λ found. found ≡ named (codes "proof")) → proof_or_table (items_left old) ≡ after (expect (named (codes "table"))) table (items_left new)
  unfolding proof_or_table
  proof_left leaves = second_taken (named (codes "proof")) proof_number (after (expect (named (codes "table"))) table) old new (after_nothing (named (codes "table")) table) leaves

  pub expanded_taken : Takes old new (named (codes "expanded")) → reason (items_left old) ≡ pure why.Expanded (items_left new)
  unfolding reason
  expanded_taken takes = first_taken (named (codes "expanded")) (pure why.Expanded) long_reason old new takes

  pub expanded_left : Leaves old new (λ found. found ≡ named (codes "expanded")) → reason (items_left old) ≡ long_reason (items_left new)
  unfolding reason
  expanded_left leaves = second_taken (named (codes "expanded")) (pure why.Expanded) long_reason old new long_nothing leaves
