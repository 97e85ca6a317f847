-- The text of the entries of expanded nodes.
use Rattle.std.proofs.Common.{◌≡◌, ℕ, ◌+◌, ◌<◌, ◌≤◌, [], List, ◌++◌, length, take, get_or, Some, slice_get, refl, sym, ap, ◌∙◌}
use Rattle.std.specs.List.{flat_map}
use Rattle.std.proofs.lemmas.Grind.{flat_map-append}
use Rattle.std.proofs.lemmas.List.{append_assoc, take_all}
use Rattle.np_state.specs.StateValues.{StateValue}
use Rattle.np_search.specs.declared.tree.Node.{Node}
use Rattle.np_cert.specs.declared.certificate.Limit.{Limit}
use Rattle.np_cert.specs.declared.certificate.Entry.{Entry}
use Rattle.np_cert.specs.Layout.{head_text, entry_text, end_text, certificate_text}
use Rattle.np_evidence.specs.Entries.{entries_at, entries_of, certificate_of}
use Rattle.np_evidence.proofs.EntryLists.{one_read}

-- the text up to the end of these entries
abbrev pub text_up_to : Limit → List Entry → List ℕ
text_up_to claim entries = head_text claim [] ++ flat_map entry_text entries

module _ (claim : Limit) (states : List StateValue) (nodes : List Node) (i : ℕ) (old new : List ℕ) (so_far : old ≡ text_up_to claim (entries_of claim (take i states) (take i nodes))) where
  -- a node's entry is added
  pub text_read : (s : StateValue) (node : Node) → slice_get states i ≡ Some s → i < length nodes → node ≡ get_or nodes i node → new ≡ old ++ flat_map entry_text (entries_at claim s node)
      → new ≡ text_up_to claim (entries_of claim (take (i + 1) states) (take (i + 1) nodes))
  text_read s node there within read pushed =
      let before = entries_of claim (take i states) (take i nodes) in
      let at = entries_at claim s node in
      let more = one_read claim states nodes i s node before (before ++ at) there within read refl refl in
      pushed ∙ ap (λ (text : List ℕ). text ++ flat_map entry_text at) so_far
      ∙ append_assoc (head_text claim []) (flat_map entry_text before) (flat_map entry_text at)
      ∙ ap (λ (text : List ℕ). head_text claim [] ++ text) (sym (flat_map-append entry_text before at))
      ∙ ap (text_up_to claim) more

  -- after all of them comes the end
  pub text_ended : length nodes ≤ i → length states ≤ i → new ≡ old ++ end_text → new ≡ certificate_text (certificate_of claim states nodes)
  text_ended no_node no_state pushed =
      pushed ∙ ap (λ (text : List ℕ). text ++ end_text) so_far
      ∙ ap (λ (ss : List StateValue). head_text claim [] ++ flat_map entry_text (entries_of claim ss (take i nodes)) ++ end_text) (take_all i states no_state)
      ∙ ap (λ (ns : List Node). head_text claim [] ++ flat_map entry_text (entries_of claim states ns) ++ end_text) (take_all i nodes no_node)
