use Rattle.std.proofs.Common.{◌≡◌, ◌++◌, ℕ, ℤ, List, ◌∙◌, ap, append_assoc, codes}
use Rattle.std.specs.List.{flat_map}
use Rattle.np_cert.specs.Layout.{natural_text, value_text}
use Rattle.np_cert.proofs.print.push_entry.Goals as goal

-- eight texts that are added one after the other
added : (text a b c d e f g h t1 t2 t3 t4 t5 t6 t7 t8 : List ℕ) → t1 ≡ text ++ a → t2 ≡ t1 ++ b → t3 ≡ t2 ++ c → t4 ≡ t3 ++ d → t5 ≡ t4 ++ e → t6 ≡ t5 ++ f → t7 ≡ t6 ++ g → t8 ≡ t7 ++ h → t8 ≡ text ++ (a ++ b ++ c ++ d ++ e ++ f ++ g ++ h)
added text a b c d e f g h t1 t2 t3 t4 t5 t6 t7 t8 h1 h2 h3 h4 h5 h6 h7 h8 =
    h8 ∙ ap (λ t. t ++ h) (h7 ∙ ap (λ t. t ++ g) (h6 ∙ ap (λ t. t ++ f) (h5 ∙ ap (λ t. t ++ e) (h4 ∙ ap (λ t. t ++ d) (h3 ∙ ap (λ t. t ++ c) (h2 ∙ ap (λ t. t ++ b) h1)))))) ∙ simp append_assoc

pub returns : goal.returns
returns c =
    let facts = c.in_ok-push_facts.ensures ∙ ap (λ (ps : List ℕ). c.extend_from_slice.new.self.items ++ flat_map natural_text ps) c.as_slice.ensures in
    let values = c.in_ok-push_values.ensures ∙ ap (λ (vs : List ℤ). c.extend_from_slice-2.new.self.items ++ flat_map value_text vs) c.as_slice-2.ensures in
    added c.args.text.now.items _ _ _ _ _ _ _ (codes ")") _ _ _ _ _ _ _ _ c.in_ok-extend_from_slice.ensures.items facts c.in_ok-extend_from_slice-2.ensures.items values c.in_ok-extend_from_slice-3.ensures.items c.in_ok-push_limit.ensures c.in_ok-push_reason.ensures c.in_ok-push.ensures.items
