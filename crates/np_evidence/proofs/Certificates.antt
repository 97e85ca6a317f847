-- The certificate of the expanded nodes of a search, with the search's claim.
use Rattle.std.proofs.Common.{◌≡◌, ℕ, ◌^◌, ◌≤◌, true, List, IsTrue, refl, sym, subst}
use Rattle.np_state.specs.StateValues.{StateValue}
use Rattle.np_space.specs.declared.bound.Bound.{Bound}
use Rattle.np_search.specs.declared.tree.Node.{Node}
use Rattle.np_search.specs.Frontiers.{IsKeptAt}
use Rattle.np_flat.specs.declared.parts.Parts.{Parts}
use Rattle.np_flat.specs.Flats.{IsFlat}
use Rattle.np_cert.specs.declared.certificate.Why.TheVariants as why
use Rattle.np_cert.specs.declared.certificate.Entry.{Entry}
use Rattle.np_cert.specs.Layout.{certificate_text}
use Rattle.np_cert.specs.Valid.{is_small}
use Rattle.np_cert.proofs.Printing.{certificate_text_spells}
use Rattle.np_evidence.specs.Certified.{IsExpandedEntry, IsCertifiedBy}
use Rattle.np_evidence.specs.Entries.{entry_of, certificate_of}
use Rattle.np_evidence.proofs.Bounds.{limit_of}
use Rattle.np_evidence.proofs.EntryLists.{entries_all, entries_count}
use Rattle.np_evidence.proofs.Nodes.{IsRightIn, kept_reaches, expanded_due}
use Rattle.np_evidence.proofs.Valid.{certificate_valid, certificate_written}

module _ (task : Parts) (flat : IsFlat task) (states : List StateValue) (nodes : List Node) (claim : Bound) (n : ℕ) (few : n ≤ 2 ^ 24) (right : IsRightIn task states nodes claim n) where
  entry_expanded : (i : ℕ) (s : StateValue) (node : Node) → IsKeptAt states nodes i s node → node.expanded ≡ true → IsExpandedEntry task (limit_of claim) (entry_of (limit_of claim) s node.cost)
  entry_expanded i s node kept expanded = record {
    cost = node.cost;
    reached = kept_reaches task flat states nodes claim n few right i s node kept;
    due = expanded_due task flat states nodes claim n few right i s node kept expanded;
    no_goal = (right.frontier.closed i s node kept expanded).no_goal;
    left = refl;
  }

  pub certified : IsTrue (is_small (limit_of claim))
      → IsCertifiedBy task n (limit_of claim) (certificate_text (certificate_of (limit_of claim) states nodes)) (certificate_of (limit_of claim) states nodes)
  certified small = record {
    spelled = certificate_text_spells (certificate_of (limit_of claim) states nodes) (certificate_written task flat states nodes claim n few right small);
    layout = refl;
    claim_is = refl;
    valid = certificate_valid task flat states nodes claim n few right small;
    thin = record { no_proofs = refl; by_expansion = entries_all (λ (e : Entry). e.why ≡ why.Expanded) (limit_of claim) states nodes (λ i s node kept expanded. refl) };
    expanded = entries_all (IsExpandedEntry task (limit_of claim)) (limit_of claim) states nodes entry_expanded;
    few = subst (λ (m : ℕ). m ≤ n) (sym (entries_count (limit_of claim) states nodes right.one_node)) right.few;
  }
