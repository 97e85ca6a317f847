-- Readers that go by the items alone: what they took is taken whatever follows, a fault stays one whatever follows, and what is before a
-- fault is completed by something that is read.
use Rattle.std.proofs.Common.{◌≡◌, ℕ, suc, ◌≤◌, ◌<◌, ◌⊎◌, inl, inr, List, [], ◌∷◌, ◌++◌, length, Option, None, Some, Ok, Err, refl, sym, ap, subst, ◌∙◌, append_assoc, arith}
use Rattle.std.proofs.lemmas.List.{length-append}
use Rattle.np_lex.specs.Tokens.{Item}
use Rattle.np_read.specs.ItemReaders.{Outcome, Reader, and_then, pure, refuse, chosen, by_next}

-- what was taken, and that it is taken whatever follows
pub record Took {A : Type 0} (p : Reader A) (items rest : List Item) (a : A) : Type 0 where
  pub text : List Item
  pub cut : items ≡ text ++ rest
  pub again : (other : List Item) → p (text ++ other) ≡ Ok (a, other)

-- something that begins so is read
pub record Goes {A : Type 0} (p : Reader A) (front : List Item) : Type 0 where
  pub more : List Item
  pub value : A
  pub reads : (other : List Item) → p ((front ++ more) ++ other) ≡ Ok (value, other)

-- what is before the fault, and that the fault stays one whatever follows
pub record Stopped {A : Type 0} (p : Reader A) (items rest : List Item) : Type 0 where
  pub front : List Item
  pub cut : items ≡ front ++ rest
  pub goes : Goes p front
  pub same : (item : Item) (after other : List Item) → rest ≡ item ∷ after → p (front ++ item ∷ other) ≡ Err (item ∷ other)

-- a good reader, on at most so many items
pub record Good {A : Type 0} (k : ℕ) (p : Reader A) : Type 0 where
  pub some : Goes p []
  pub took : (items rest : List Item) (a : A) → length items ≤ k → p items ≡ Ok (a, rest) → Took p items rest a
  pub stopped : (items rest : List Item) → length items ≤ k → p items ≡ Err rest → Stopped p items rest

-- after this item: it is the fault, or what follows it is read by a good reader of at most so many items
abbrev pub Branch : {A : Type 0} → ℕ → Reader A → Item → Type 0
Branch k p item = ((rest : List Item) → p (item ∷ rest) ≡ Err (item ∷ rest)) ⊎ Good k (λ rest. p (item ∷ rest))

-- a reader that goes by the next item; it may refuse everything
pub record Tries {A : Type 0} (k : ℕ) (p : Reader A) : Type 0 where
  pub nothing : p [] ≡ Err []
  pub each : (item : Item) → Branch k p item

-- a reader that goes by the next item, and reads something
pub record Starts {A : Type 0} (k : ℕ) (p : Reader A) : Type 0 where
  pub tries : Tries k p
  pub some : Goes p []

-- the same on any number of items
abbrev pub Starting : {A : Type 0} → Reader A → Type 0
Starting p = (k : ℕ) → Starts k p

-- ---- results

abbrev ok_of : {A : Type 0} → A → List Item → Outcome A
ok_of a rest = Ok (a, rest)

pub ok_value : {A : Type 0} (a b : A) (x y : List Item) → ok_of a x ≡ ok_of b y → a ≡ b
ok_value {A = A} a b x y e = let p : (a, x) ≡ (b, y) = cc in ap (λ (q : A × List Item). q.0) p

pub ok_rest : {A : Type 0} (a b : A) (x y : List Item) → ok_of a x ≡ ok_of b y → x ≡ y
ok_rest {A = A} a b x y e = let p : (a, x) ≡ (b, y) = cc in ap (λ (q : A × List Item). q.1) p

pub took_shorter : {A : Type 0} {p : Reader A} {items rest : List Item} {a : A} → Took p items rest a → length rest ≤ length items
took_shorter {rest = rest} t = omega (arith, ap length t.cut, length-append t.text rest)

-- ---- nothing is read

pub good_pure : {A : Type 0} (k : ℕ) (a : A) → Good k (pure a)
good_pure k a = record {
  some = record { more = []; value = a; reads = λ other. refl };
  took = λ items rest b le e. record {
    text = [];
    cut = ok_rest a b items rest e;
    again = λ other. ap (λ c. Ok (c, other)) (ok_value a b items rest e);
  };
  stopped = λ items rest le e. absurd cc;
}

-- ---- by the next item

module _ {A : Type 0} (k : ℕ) (p : Reader A) where
  head_took : (item : Item) → Branch k p item → (items rest : List Item) (a : A) → length items ≤ k → p (item ∷ items) ≡ Ok (a, rest) → Took p (item ∷ items) rest a
  head_took item (inl refuses) items rest a le e = absurd (let h = refuses items in cc)
  head_took item (inr good) items rest a le e =
      let h = good.took items rest a le e in
      record { text = item ∷ h.text; cut = ap (λ (x : List Item). item ∷ x) h.cut; again = h.again }

  head_stopped : (item : Item) → Branch k p item → Goes p [] → (items rest : List Item) → length items ≤ k → p (item ∷ items) ≡ Err rest → Stopped p (item ∷ items) rest
  head_stopped item (inl refuses) some items rest le e =
      let is : item ∷ items ≡ rest = let h = refuses items in cc in
      record {
        front = [];
        cut = is;
        goes = some;
        same = λ u after other eq. let here : item ≡ u = cc in subst (λ (v : Item). p (v ∷ other) ≡ Err (v ∷ other)) here (refuses other);
      }
  head_stopped item (inr good) some items rest le e =
      let h = good.stopped items rest le e in
      record {
        front = item ∷ h.front;
        cut = ap (λ (x : List Item). item ∷ x) h.cut;
        goes = record { more = h.goes.more; value = h.goes.value; reads = h.goes.reads };
        same = h.same;
      }

  took_by : Starts k p → (items rest : List Item) (a : A) → length items ≤ suc k → p items ≡ Ok (a, rest) → Took p items rest a
  took_by starts [] rest a le e = absurd (let h = starts.tries.nothing in cc)
  took_by starts (item ∷ items) rest a le e = head_took item (starts.tries.each item) items rest a (omega arith) e

  stopped_by : Starts k p → (items rest : List Item) → length items ≤ suc k → p items ≡ Err rest → Stopped p items rest
  stopped_by starts [] rest le e =
      let is : [] ≡ rest = let h = starts.tries.nothing in cc in
      record { front = []; cut = is; goes = starts.some; same = λ u after other eq. absurd cc }
  stopped_by starts (item ∷ items) rest le e = head_stopped item (starts.tries.each item) starts.some items rest (omega arith) e

  -- it is good, on one item more
  pub good_starts : Starts k p → Good (suc k) p
  good_starts starts = record { some = starts.some; took = took_by starts; stopped = stopped_by starts }

  pub good_of : Starts k p → Good k p
  good_of starts = record {
    some = starts.some;
    took = λ items rest a le e. took_by starts items rest a (omega arith) e;
    stopped = λ items rest le e. stopped_by starts items rest (omega arith) e;
  }

  -- what is left is shorter
  shorter_by : (item : Item) → Branch k p item → (items rest : List Item) (a : A) → length items ≤ k → p (item ∷ items) ≡ Ok (a, rest) → length rest ≤ length items
  shorter_by item (inl refuses) items rest a le e = absurd (let h = refuses items in cc)
  shorter_by item (inr good) items rest a le e = took_shorter (good.took items rest a le e)

pub is_shorter : {A : Type 0} (p : Reader A) → Starting p → (items : List Item) (a : A) (rest : List Item) → p items ≡ Ok (a, rest) → length rest < length items
is_shorter p starting [] a rest e = absurd (let h = (starting 0).tries.nothing in cc)
is_shorter p starting (item ∷ items) a rest e =
    let k = length items in
    omega (arith, shorter_by k p item ((starting k).tries.each item) items rest a (omega arith) e)

module _ {A B : Type 0} (k : ℕ) (value : Item → Option B) (follow : B → Reader A) (goods : (b : B) → Good k (follow b)) where
  or_other : (other : Reader A) (item : Item) → Branch k other item → value item ≡ None → Branch k (by_next value follow other) item
  or_other other item (inl refuses) is = inl (λ rest. ap (λ (o : Option B). chosen o follow (other (item ∷ rest)) rest) is ∙ refuses rest)
  or_other other item (inr good) is = inr (subst (λ (o : Option B). Good k (λ rest. chosen o follow (other (item ∷ rest)) rest)) (sym is) good)

  branch_by : (other : Reader A) (item : Item) → Branch k other item → (o : Option B) → value item ≡ o → Branch k (by_next value follow other) item
  branch_by other item branch None is = or_other other item branch is
  branch_by other item branch (Some b) is = inr (subst (λ (o : Option B). Good k (λ rest. chosen o follow (other (item ∷ rest)) rest)) (sym is) (goods b))

  pub tries_next : (other : Reader A) → Tries k other → Tries k (by_next value follow other)
  tries_next other tries = record { nothing = refl; each = λ item. branch_by other item (tries.each item) (value item) refl }

  -- an item that says something
  pub starts_next : (other : Reader A) → Tries k other → (item : Item) (b : B) → value item ≡ Some b → Starts k (by_next value follow other)
  starts_next other tries item b is = record {
    tries = tries_next other tries;
    some = record {
      more = item ∷ (goods b).some.more;
      value = (goods b).some.value;
      reads = λ rest.
          ap (λ (o : Option B). chosen o follow (other (item ∷ ((goods b).some.more ++ rest))) ((goods b).some.more ++ rest)) is ∙ (goods b).some.reads rest;
    };
  }

pub tries_refuse : {A : Type 0} (k : ℕ) → Tries {A = A} k refuse
tries_refuse k = record { nothing = refl; each = λ item. inl (λ rest. refl) }

-- ---- one after the other

module _ {A B : Type 0} (k : ℕ) (p : Reader A) (follow : A → Reader B) (goods : (a : A) → Good k (follow a)) where
  abbrev joined : Reader B
  joined items = and_then (p items) follow

  then_goes : (front : List Item) → Goes p front → Goes joined front
  then_goes front g =
      let after = (goods g.value).some in
      record {
        more = g.more ++ after.more;
        value = after.value;
        reads = λ other.
            let regrouped : (front ++ (g.more ++ after.more)) ++ other ≡ (front ++ g.more) ++ (after.more ++ other) = simp append_assoc in
            ap joined regrouped ∙ ap (λ (x : Outcome A). and_then x follow) (g.reads (after.more ++ other)) ∙ after.reads other;
      }

  then_took : Good k p → (items rest : List Item) (b : B) (x : Outcome A) → length items ≤ k → p items ≡ x → and_then x follow ≡ Ok (b, rest) → Took joined items rest b
  then_took good items rest b (Ok x) le is e =
      let one = good.took items x.1 x.0 le is in
      let two = (goods x.0).took x.1 rest b (omega (arith, took_shorter one)) e in
      record {
        text = one.text ++ two.text;
        cut = one.cut ∙ ap (λ (r : List Item). one.text ++ r) two.cut ∙ sym (append_assoc one.text two.text rest);
        again = λ other. ap joined (append_assoc one.text two.text other) ∙ ap (λ (y : Outcome A). and_then y follow) (one.again (two.text ++ other)) ∙ two.again other;
      }
  then_took good items rest b (Err r) le is e = absurd cc

  then_stopped : Good k p → (items rest : List Item) (x : Outcome A) → length items ≤ k → p items ≡ x → and_then x follow ≡ Err rest → Stopped joined items rest
  then_stopped good items rest (Ok x) le is e =
      let one = good.took items x.1 x.0 le is in
      let two = (goods x.0).stopped x.1 rest (omega (arith, took_shorter one)) e in
      record {
        front = one.text ++ two.front;
        cut = one.cut ∙ ap (λ (r : List Item). one.text ++ r) two.cut ∙ sym (append_assoc one.text two.front rest);
        goes = record {
          more = two.goes.more;
          value = two.goes.value;
          reads = λ other.
              let regrouped : ((one.text ++ two.front) ++ two.goes.more) ++ other ≡ one.text ++ ((two.front ++ two.goes.more) ++ other) = simp append_assoc in
              ap joined regrouped ∙ ap (λ (y : Outcome A). and_then y follow) (one.again ((two.front ++ two.goes.more) ++ other)) ∙ two.goes.reads other;
        };
        same = λ item after other eq. ap joined (append_assoc one.text two.front (item ∷ other)) ∙ ap (λ (y : Outcome A). and_then y follow) (one.again (two.front ++ item ∷ other)) ∙ two.same item after other eq;
      }
  then_stopped good items rest (Err r) le is e =
      let same_rest : r ≡ rest = cc in
      let one = good.stopped items rest le (is ∙ ap (λ (w : List Item). Err w) same_rest) in
      record {
        front = one.front;
        cut = one.cut;
        goes = then_goes one.front one.goes;
        same = λ item after other eq. ap (λ (y : Outcome A). and_then y follow) (one.same item after other eq);
      }

  pub good_then : Good k p → Good k joined
  good_then good = record {
    some = then_goes [] good.some;
    took = λ items rest b le e. then_took good items rest b (p items) le refl e;
    stopped = λ items rest le e. then_stopped good items rest (p items) le refl e;
  }

module _ {A B : Type 0} (k : ℕ) (p : Reader A) (follow : A → Reader B) (goods : (a : A) → Good k (follow a)) where
  branch_then : (item : Item) → Branch k p item → Branch k (λ items. and_then (p items) follow) item
  branch_then item (inl refuses) = inl (λ rest. ap (λ (x : Outcome A). and_then x follow) (refuses rest))
  branch_then item (inr good) = inr (good_then k (λ rest. p (item ∷ rest)) follow goods good)

  pub tries_then : Tries k p → Tries k (λ items. and_then (p items) follow)
  tries_then tries = record { nothing = ap (λ (x : Outcome A). and_then x follow) tries.nothing; each = λ item. branch_then item (tries.each item) }

  pub starts_then : Starts k p → Starts k (λ items. and_then (p items) follow)
  starts_then starts = record { tries = tries_then starts.tries; some = then_goes k p follow goods [] starts.some }
