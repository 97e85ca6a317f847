-- The bounds that the entries of expanded nodes give.
use Rattle.std.proofs.Common.{◌≡◌, ℕ, zero, suc, Bool, true, false, cond, List, [], ◌∷◌, Some, slice_get, refl, sym, ap, ◌∙◌, arith}
use Rattle.std.proofs.lemmas.Option.{same_Some, none-some}
use Rattle.np_state.specs.StateValues.{StateValue}
use Rattle.np_search.specs.declared.tree.Node.{Node}
use Rattle.np_flat.specs.declared.state.FlatState.{FlatState}
use Rattle.np_flat.specs.Same.{same_state, same_state-Decides}
use Rattle.np_blind.specs.Readings.{flat_of}
use Rattle.np_cert.specs.declared.certificate.Limit.{Limit}
use Rattle.np_cert.specs.declared.certificate.Limit.TheVariants.{Number}
use Rattle.np_cert.specs.declared.certificate.Entry.{Entry}
use Rattle.np_cert.specs.Valid.{bound_at}
use Rattle.np_evidence.specs.Certified.{less}
use Rattle.np_evidence.specs.Entries.{entries_of}
use Rattle.np_evidence.proofs.EntryLists.{head_yes, head_no, AreApart}

-- unequal states
apart_false : (a b : FlatState) → (a ≡ b → ⊥) → same_state a b ≡ false
apart_false a b apart = by (same_state a b) refl
  where
    by : (o : Bool) → same_state a b ≡ o → o ≡ false
    by false e = refl
    by true e = absurd (apart ((same_state-Decides a b).0 e))

module _ (claim : Limit) (x : StateValue) (xs : List StateValue) (y : Node) (ys : List Node) where
  -- the head doesn't count for another state
  skip : (t : FlatState) → (flat_of x ≡ t → ⊥) → bound_at (entries_of claim (x ∷ xs) (y ∷ ys)) t ≡ bound_at (entries_of claim xs ys) t
  skip t apart = by y.expanded refl
    where
      by : (b : Bool) → y.expanded ≡ b → bound_at (entries_of claim (x ∷ xs) (y ∷ ys)) t ≡ bound_at (entries_of claim xs ys) t
      by false is = ap (λ (es : List Entry). bound_at es t) (head_no claim x xs y ys is)
      by true is =
          ap (λ (es : List Entry). bound_at es t) (head_yes claim x xs y ys is)
          ∙ ap (λ (o : Bool). cond o (less claim y.cost) (bound_at (entries_of claim xs ys) t)) (apart_false (flat_of x) t apart)

  -- the head's own state
  own : bound_at (entries_of claim xs ys) (flat_of x) ≡ Number 0 → bound_at (entries_of claim (x ∷ xs) (y ∷ ys)) (flat_of x) ≡ cond y.expanded (less claim y.cost) (Number 0)
  own rest = by y.expanded refl
    where
      by : (b : Bool) → y.expanded ≡ b → bound_at (entries_of claim (x ∷ xs) (y ∷ ys)) (flat_of x) ≡ cond b (less claim y.cost) (Number 0)
      by false is = ap (λ (es : List Entry). bound_at es (flat_of x)) (head_no claim x xs y ys is) ∙ rest
      by true is =
          ap (λ (es : List Entry). bound_at es (flat_of x)) (head_yes claim x xs y ys is)
          ∙ ap (λ (o : Bool). cond o (less claim y.cost) (bound_at (entries_of claim xs ys) (flat_of x))) ((same_state-Decides (flat_of x) (flat_of x)).1 refl)

-- a state that none is read as has no entry
bound_none : (claim : Limit) (states : List StateValue) (nodes : List Node) (t : FlatState) → ((i : ℕ) (s : StateValue) → slice_get states i ≡ Some s → flat_of s ≡ t → ⊥)
    → bound_at (entries_of claim states nodes) t ≡ Number 0
bound_none claim [] nodes t apart = refl
bound_none claim (x ∷ xs) [] t apart = refl
bound_none claim (x ∷ xs) (y ∷ ys) t apart = skip claim x xs y ys t (apart 0 x refl) ∙ bound_none claim xs ys t (λ i s h. apart (suc i) s h)

-- the bound of a kept state: what its path cost leaves of the claim if it is expanded, else 0
pub bound_kept : (claim : Limit) (states : List StateValue) (nodes : List Node) → AreApart states → (i : ℕ) (s : StateValue) (node : Node) → slice_get states i ≡ Some s → slice_get nodes i ≡ Some node
    → bound_at (entries_of claim states nodes) (flat_of s) ≡ cond node.expanded (less claim node.cost) (Number 0)
bound_kept claim [] nodes apart i s node hs hn = absurd (none-some s hs)
bound_kept claim (x ∷ xs) [] apart i s node hs hn = absurd (none-some node hn)
bound_kept claim (x ∷ xs) (y ∷ ys) apart zero s node hs hn =
    ap (λ (v : StateValue). bound_at (entries_of claim (x ∷ xs) (y ∷ ys)) (flat_of v)) (sym (same_Some x s hs))
    ∙ own claim x xs y ys (bound_none claim xs ys (flat_of x) (λ j t h e. let places : 0 ≡ suc j = apart 0 (suc j) x t refl h (sym e) in omega (arith, places)))
    ∙ ap (λ (n : Node). cond n.expanded (less claim n.cost) (Number 0)) (same_Some y node hn)
bound_kept claim (x ∷ xs) (y ∷ ys) apart (suc i) s node hs hn =
    skip claim x xs y ys (flat_of s) (λ e. let places : 0 ≡ suc i = apart 0 (suc i) x s refl hs e in omega (arith, places))
    ∙ bound_kept claim xs ys (λ j k u v hu hv e. let places : suc j ≡ suc k = apart (suc j) (suc k) u v hu hv e in omega (arith, places)) i s node hs hn
