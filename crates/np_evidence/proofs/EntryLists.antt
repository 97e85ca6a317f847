-- The list of the entries of expanded nodes.
use Rattle.std.proofs.Common.{◌≡◌, ℕ, zero, suc, ◌+◌, ◌<◌, Bool, true, false, cond, List, [], ◌∷◌, ◌++◌, length, take, get_or, All, Some, slice_get, refl, sym, ap, ◌∙◌, subst, arith}
use Rattle.std.proofs.lemmas.List.{append_assoc, append-nil}
use Rattle.std.proofs.lemmas.List.Sums.{sum_by-append}
use Rattle.std.proofs.lemmas.Option.{same_Some, none-some, slice_get_read, slice_get-get_or}
use Rattle.std.proofs.Math.Numerals.{add-one}
use Rattle.np_state.specs.StateValues.{StateValue}
use Rattle.np_search.specs.declared.tree.Node.{Node}
use Rattle.np_search.specs.Frontiers.{IsKeptAt}
use Rattle.np_search.specs.Outcomes.{expanded_count}
use Rattle.np_blind.specs.Readings.{flat_of}
use Rattle.np_cert.specs.declared.certificate.Limit.{Limit}
use Rattle.np_cert.specs.declared.certificate.Entry.{Entry}
use Rattle.np_evidence.specs.Entries.{entry_of, entries_at, entries_of}

-- the entries up to a node and of it
pub one_more : (claim : Limit) (states : List StateValue) (nodes : List Node) (i : ℕ) (s : StateValue) (node : Node) → slice_get states i ≡ Some s → slice_get nodes i ≡ Some node
    → entries_of claim (take (suc i) states) (take (suc i) nodes) ≡ entries_of claim (take i states) (take i nodes) ++ entries_at claim s node
one_more claim [] nodes i s node hs hn = absurd (none-some s hs)
one_more claim (x ∷ xs) [] i s node hs hn = absurd (none-some node hn)
one_more claim (x ∷ xs) (y ∷ ys) zero s node hs hn =
    append-nil (entries_at claim x y) ∙ ap (λ (v : StateValue). entries_at claim v y) (same_Some x s hs) ∙ ap (entries_at claim s) (same_Some y node hn)
one_more claim (x ∷ xs) (y ∷ ys) (suc i) s node hs hn =
    ap (λ (es : List Entry). entries_at claim x y ++ es) (one_more claim xs ys i s node hs hn)
    ∙ sym (append_assoc (entries_at claim x y) (entries_of claim (take i xs) (take i ys)) (entries_at claim s node))

-- the same, as a loop reads them
pub one_read : (claim : Limit) (states : List StateValue) (nodes : List Node) (i : ℕ) (s : StateValue) (node : Node) (old new : List Entry) → slice_get states i ≡ Some s
    → i < length nodes → node ≡ get_or nodes i node
    → old ≡ entries_of claim (take i states) (take i nodes) → new ≡ old ++ entries_at claim s node → new ≡ entries_of claim (take (i + 1) states) (take (i + 1) nodes)
one_read claim states nodes i s node old new hs within read so_far pushed =
    pushed ∙ ap (λ (es : List Entry). es ++ entries_at claim s node) so_far
    ∙ sym (one_more claim states nodes i s node hs (slice_get_read nodes (length nodes) i node refl within read))
    ∙ ap (λ (n : ℕ). entries_of claim (take n states) (take n nodes)) (sym (add-one i))

-- an entry of the list is that of an expanded node
pub record IsFrom (claim : Limit) (states : List StateValue) (nodes : List Node) (e : Entry) : Type 0 where
  pub i : ℕ
  pub s : StateValue
  pub node : Node
  pub kept : IsKeptAt states nodes i s node
  pub expanded : node.expanded ≡ true
  pub is : entry_of claim s node.cost ≡ e

-- the head of the lists, where the node is expanded and where it isn't
module _ (claim : Limit) (x : StateValue) (xs : List StateValue) (y : Node) (ys : List Node) where
  pub head_yes : y.expanded ≡ true → entries_of claim (x ∷ xs) (y ∷ ys) ≡ entry_of claim x y.cost ∷ entries_of claim xs ys
  head_yes e = ap (λ (b : Bool). cond b (entry_of claim x y.cost ∷ []) [] ++ entries_of claim xs ys) e

  pub head_no : y.expanded ≡ false → entries_of claim (x ∷ xs) (y ∷ ys) ≡ entries_of claim xs ys
  head_no e = ap (λ (b : Bool). cond b (entry_of claim x y.cost ∷ []) [] ++ entries_of claim xs ys) e

  later : (e : Entry) → IsFrom claim xs ys e → IsFrom claim (x ∷ xs) (y ∷ ys) e
  later e f = record { i = suc f.i; s = f.s; node = f.node; kept = record { state = f.kept.state; found = f.kept.found }; expanded = f.expanded; is = f.is }

pub entry_from : (claim : Limit) (states : List StateValue) (nodes : List Node) (k : ℕ) (e : Entry) → slice_get (entries_of claim states nodes) k ≡ Some e → IsFrom claim states nodes e
entry_from claim [] nodes k e h = absurd (none-some e h)
entry_from claim (x ∷ xs) [] k e h = absurd (none-some e h)
entry_from claim (x ∷ xs) (y ∷ ys) k e h = by y.expanded refl k (entry_from claim xs ys)
  where
    by : (b : Bool) → y.expanded ≡ b → (j : ℕ) → ((m : ℕ) (d : Entry) → slice_get (entries_of claim xs ys) m ≡ Some d → IsFrom claim xs ys d) → IsFrom claim (x ∷ xs) (y ∷ ys) e
    by false is j more = later claim x xs y ys e (more k e (ap (λ (es : List Entry). slice_get es k) (sym (head_no claim x xs y ys is)) ∙ h))
    by true is j more = at k (ap (λ (es : List Entry). slice_get es k) (sym (head_yes claim x xs y ys is)) ∙ h)
      where
        at : (m : ℕ) → slice_get (entry_of claim x y.cost ∷ entries_of claim xs ys) m ≡ Some e → IsFrom claim (x ∷ xs) (y ∷ ys) e
        at zero g = record { i = 0; s = x; node = y; kept = record { state = refl; found = refl }; expanded = is; is = same_Some (entry_of claim x y.cost) e g }
        at (suc m) g = later claim x xs y ys e (more m e g)

-- what holds of the entries of expanded nodes holds of all in the list
pub entries_all : (P : Entry → Type 0) (claim : Limit) (states : List StateValue) (nodes : List Node)
    → ((i : ℕ) (s : StateValue) (node : Node) → IsKeptAt states nodes i s node → node.expanded ≡ true → P (entry_of claim s node.cost)) → All P (entries_of claim states nodes)
entries_all P claim states nodes each = λ k d lt.
    let e = get_or (entries_of claim states nodes) k d in
    let f = entry_from claim states nodes k e (slice_get-get_or (entries_of claim states nodes) k d lt) in
    subst P f.is (each f.i f.s f.node f.kept f.expanded)

-- as many entries as expanded nodes
pub entries_count : (claim : Limit) (states : List StateValue) (nodes : List Node) → length nodes ≡ length states → length (entries_of claim states nodes) ≡ expanded_count nodes
entries_count claim [] [] same = refl
entries_count claim [] (y ∷ ys) same = absurd (omega arith)
entries_count claim (x ∷ xs) [] same = absurd (omega arith)
entries_count claim (x ∷ xs) (y ∷ ys) same = by y.expanded refl (entries_count claim xs ys (omega arith))
  where
    count : expanded_count (y ∷ ys) ≡ (0 + cond y.expanded 1 0) + expanded_count ys
    count = sum_by-append (λ (node : Node). cond node.expanded 1 0) (y ∷ []) ys

    by : (b : Bool) → y.expanded ≡ b → length (entries_of claim xs ys) ≡ expanded_count ys → length (entries_of claim (x ∷ xs) (y ∷ ys)) ≡ expanded_count (y ∷ ys)
    by true is rest =
        let first : length (entries_of claim (x ∷ xs) (y ∷ ys)) ≡ suc (length (entries_of claim xs ys)) = ap length (head_yes claim x xs y ys is) in
        let one : ◌≡◌ {A = ℕ} (cond y.expanded 1 0) 1 = ap (λ (b : Bool). cond b 1 0) is in
        omega (arith, first, rest, one, count)
    by false is rest =
        let first : length (entries_of claim (x ∷ xs) (y ∷ ys)) ≡ length (entries_of claim xs ys) = ap length (head_no claim x xs y ys is) in
        let none : ◌≡◌ {A = ℕ} (cond y.expanded 1 0) 0 = ap (λ (b : Bool). cond b 1 0) is in
        omega (arith, first, rest, none, count)

-- no two states are read as one
abbrev pub AreApart : List StateValue → Type 0
AreApart states = (i j : ℕ) (s t : StateValue) → slice_get states i ≡ Some s → slice_get states j ≡ Some t → flat_of s ≡ flat_of t → i ≡ j

-- then no two entries have one state
pub no_repeat : (claim : Limit) (states : List StateValue) (nodes : List Node) → AreApart states → (k m : ℕ) (a b : Entry) → k < m → slice_get (entries_of claim states nodes) k ≡ Some a
    → slice_get (entries_of claim states nodes) m ≡ Some b → a.state ≡ b.state → ⊥
no_repeat claim [] nodes apart k m a b before ha hb same = none-some a ha
no_repeat claim (x ∷ xs) [] apart k m a b before ha hb same = none-some a ha
no_repeat claim (x ∷ xs) (y ∷ ys) apart k m a b before ha hb same =
    by y.expanded refl (no_repeat claim xs ys (λ i j s t hs ht e. let p : suc i ≡ suc j = apart (suc i) (suc j) s t hs ht e in omega (arith, p)))
  where
    by : (o : Bool) → y.expanded ≡ o → ((i j : ℕ) (c d : Entry) → i < j → slice_get (entries_of claim xs ys) i ≡ Some c → slice_get (entries_of claim xs ys) j ≡ Some d → c.state ≡ d.state → ⊥) → ⊥
    by false is more =
        more k m a b before (ap (λ (es : List Entry). slice_get es k) (sym (head_no claim x xs y ys is)) ∙ ha) (ap (λ (es : List Entry). slice_get es m) (sym (head_no claim x xs y ys is)) ∙ hb) same
    by true is more =
        at k m before (ap (λ (es : List Entry). slice_get es k) (sym (head_yes claim x xs y ys is)) ∙ ha) (ap (λ (es : List Entry). slice_get es m) (sym (head_yes claim x xs y ys is)) ∙ hb)
      where
        at : (i j : ℕ) → i < j → slice_get (entry_of claim x y.cost ∷ entries_of claim xs ys) i ≡ Some a → slice_get (entry_of claim x y.cost ∷ entries_of claim xs ys) j ≡ Some b → ⊥
        at zero zero lt p q = omega (arith, lt)
        at (suc i) zero lt p q = omega (arith, lt)
        at (suc i) (suc j) lt p q = more i j a b (omega (arith, lt)) p q same
        at zero (suc j) lt p q =
            let f = entry_from claim xs ys j b q in
            let one : flat_of x ≡ flat_of f.s = ap (λ (e : Entry). e.state) (same_Some (entry_of claim x y.cost) a p) ∙ same ∙ sym (ap (λ (e : Entry). e.state) f.is) in
            let places : 0 ≡ suc f.i = apart 0 (suc f.i) x f.s refl f.kept.state one in
            omega (arith, places)
