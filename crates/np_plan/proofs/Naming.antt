-- Each line names one step at most, and it is found by the numbers of the names.
use Rattle.std.proofs.Common.{◌≡◌, ℕ, zero, suc, ◌+◌, ◌-◌, ◌<◌, ◌≤◌, Bool, true, false, cond, List, [], ◌∷◌, ◌++◌, map, length, Option, None, Some, refl, sym, ap, subst, ◌∙◌, arith, ◌⊎◌, inl, inr}
use Rattle.std.specs.Prelude.{IsTrue, slice_get, option_and_then}
use Rattle.std.specs.Option.{option_map}
use Rattle.std.specs.Str.{bytes_eq}
use Rattle.std.proofs.lemmas.Option.{slice_get-map, slice_get_within, get_or_from_slice_get, same_Some}
use Rattle.std.proofs.lemmas.Slice.Eq.{bytes_eq-Decides}
use Rattle.np_model.specs.declared.task.Action.{Action}
use Rattle.np_model.specs.declared.task.Object.{Object}
use Rattle.np_model.specs.declared.task.Step.{Step}
use Rattle.np_model.specs.declared.task.TaskParts.{TaskParts}
use Rattle.np_model.specs.Steps.{is_step}
use Rattle.np_model.specs.Tasks.{AreDistinct, IsTask}
use Rattle.np_words.specs.declared.word.Word.{Word}
use Rattle.np_plan.specs.declared.plan.PlanLine.{PlanLine}
use Rattle.np_plan.specs.Numbers.{number_from, numbers_of, if_step, step_of}
use Rattle.np_plan.specs.Plans.{object_name, Names, NameAll}

-- ---- numbers of names

-- the number that is found is of this name
number_by : (x name : List ℕ) (xs : List (List ℕ)) (n k : ℕ) (same : Bool) → bytes_eq name x ≡ same → ((m : ℕ) → number_from (n + 1) xs name ≡ Some m → (n + 1 ≤ m) × (slice_get xs (m - (n + 1)) ≡ Some name)) → cond same (Some n) (number_from (n + 1) xs name) ≡ Some k
    → (n ≤ k) × (slice_get (x ∷ xs) (k - n) ≡ Some name)
number_by x name xs n k true e rest is =
    let here : n ≡ k = cc in
    let none : 0 ≡ k - n = omega arith in
    (omega arith, ap (slice_get (x ∷ xs)) (sym none) ∙ ap (λ (y : List ℕ). Some y) (sym ((bytes_eq-Decides name x).0 e)))
number_by x name xs n k false e rest is =
    let h = rest k is in
    let more : suc (k - (n + 1)) ≡ k - n = omega (arith, h.0) in
    (omega (arith, h.0), ap (slice_get (x ∷ xs)) (sym more) ∙ h.1)

number_found : (names : List (List ℕ)) (name : List ℕ) (n k : ℕ) → number_from n names name ≡ Some k → (n ≤ k) × (slice_get names (k - n) ≡ Some name)
number_found [] name n k e = absurd cc
number_found (x ∷ xs) name n k e = number_by x name xs n k (bytes_eq name x) refl (λ m is. number_found xs name (n + 1) m is) e

pub number_names : (names : List (List ℕ)) (name : List ℕ) (k : ℕ) → number_from 0 names name ≡ Some k → slice_get names k ≡ Some name
number_names names name k e = let same : k - 0 ≡ k = omega arith in ap (slice_get names) (sym same) ∙ (number_found names name 0 k e).1

-- a name that is there is found
missing_by : (x name : List ℕ) (xs : List (List ℕ)) (n k : ℕ) (same : Bool) → bytes_eq name x ≡ same → ((m : ℕ) → number_from (n + 1) xs name ≡ None → slice_get xs m ≡ Some name → ⊥) → cond same (Some n) (number_from (n + 1) xs name) ≡ None → slice_get (x ∷ xs) k ≡ Some name → ⊥
missing_by x name xs n k true e rest is there = cc
missing_by x name xs n zero false e rest is there = let h = (bytes_eq-Decides name x).1 (sym (same_Some _ _ there)) in cc
missing_by x name xs n (suc k) false e rest is there = rest k is there

number_missing : (names : List (List ℕ)) (name : List ℕ) (n k : ℕ) → number_from n names name ≡ None → slice_get names k ≡ Some name → ⊥
number_missing [] name n k e there = cc
number_missing (x ∷ xs) name n k e there = missing_by x name xs n k (bytes_eq name x) refl (λ m is here. number_missing xs name (n + 1) m is here) e there

apart : (names : List (List ℕ)) → AreDistinct names → (name : List ℕ) (j k : ℕ) → slice_get names j ≡ Some name → slice_get names k ≡ Some name → j < k → ⊥
apart names distinct name j k e f less =
    distinct j k name less (slice_get_within names k name f) (get_or_from_slice_get names j name name e ∙ sym (get_or_from_slice_get names k name name f))

alone : (names : List (List ℕ)) → AreDistinct names → (name : List ℕ) (j k : ℕ) → slice_get names j ≡ Some name → slice_get names k ≡ Some name → j ≡ k
alone names distinct name j k e f = by (order j k)
  where
    order : (a b : ℕ) → (a ≡ b) ⊎ ((a < b) ⊎ (b < a))
    order zero zero = inl refl
    order zero (suc b) = inr (inl (omega arith))
    order (suc a) zero = inr (inr (omega arith))
    order (suc a) (suc b) = more (order a b)
      where
        more : (a ≡ b) ⊎ ((a < b) ⊎ (b < a)) → (suc a ≡ suc b) ⊎ ((suc a < suc b) ⊎ (suc b < suc a))
        more (inl e) = inl (ap suc e)
        more (inr (inl lt)) = inr (inl (omega arith))
        more (inr (inr lt)) = inr (inr (omega arith))

    by : (j ≡ k) ⊎ ((j < k) ⊎ (k < j)) → j ≡ k
    by (inl same) = same
    by (inr (inl lt)) = absurd (apart names distinct name j k e f lt)
    by (inr (inr lt)) = absurd (apart names distinct name k j f e lt)

number_back_by : (names : List (List ℕ)) → AreDistinct names → (name : List ℕ) (k : ℕ) → slice_get names k ≡ Some name → (o : Option ℕ) → number_from 0 names name ≡ o → o ≡ Some k
number_back_by names distinct name k there None e = absurd (number_missing names name 0 k e there)
number_back_by names distinct name k there (Some j) e = ap (λ (n : ℕ). Some n) (alone names distinct name j k (number_names names name j e) there)

pub number_back : (names : List (List ℕ)) → AreDistinct names → (name : List ℕ) (k : ℕ) → slice_get names k ≡ Some name → number_from 0 names name ≡ Some k
number_back names distinct name k there = number_back_by names distinct name k there (number_from 0 names name) refl

-- ---- numbers of words

abbrev texts : List Word → List (Option (List ℕ))
texts ws = map (λ w. Some w.text) ws

abbrev named_by : List (List ℕ) → List ℕ → List (Option (List ℕ))
named_by names ns = map (slice_get names) ns

words_by : (names : List (List ℕ)) (w : Word) (ws : List Word) (ns : List ℕ) (first : Option ℕ) (rest : Option (List ℕ)) → number_from 0 names w.text ≡ first → ((ms : List ℕ) → rest ≡ Some ms → named_by names ms ≡ texts ws) → option_and_then (λ n. option_map (λ ms. n ∷ ms) rest) first ≡ Some ns
    → named_by names ns ≡ texts (w ∷ ws)
words_by names w ws ns None rest e more is = absurd cc
words_by names w ws ns (Some n) None e more is = absurd cc
words_by names w ws ns (Some n) (Some ms) e more is =
    let same : n ∷ ms ≡ ns = same_Some _ _ is in
    ap (named_by names) (sym same) ∙ ap (λ (x : Option (List ℕ)). x ∷ named_by names ms) (number_names names w.text n e) ∙ ap (λ (xs : List (Option (List ℕ))). Some w.text ∷ xs) (more ms refl)

pub numbers_name : (names : List (List ℕ)) (ws : List Word) (ns : List ℕ) → numbers_of names ws ≡ Some ns → named_by names ns ≡ texts ws
numbers_name names [] ns e = ap (named_by names) (sym (same_Some _ _ e))
numbers_name names (w ∷ ws) ns e = words_by names w ws ns (number_from 0 names w.text) (numbers_of names ws) refl (λ ms is. numbers_name names ws ms is) e

head_same : (a b : Option (List ℕ)) (xs ys : List (Option (List ℕ))) → a ∷ xs ≡ b ∷ ys → a ≡ b
head_same a b xs ys e = cc

tail_same : (a b : Option (List ℕ)) (xs ys : List (Option (List ℕ))) → a ∷ xs ≡ b ∷ ys → xs ≡ ys
tail_same a b xs ys e = cc

pub numbers_back : (names : List (List ℕ)) → AreDistinct names → (ws : List Word) (ns : List ℕ) → named_by names ns ≡ texts ws → numbers_of names ws ≡ Some ns
numbers_back names distinct [] [] e = refl
numbers_back names distinct [] (n ∷ ns) e = absurd cc
numbers_back names distinct (w ∷ ws) [] e = absurd cc
numbers_back names distinct (w ∷ ws) (n ∷ ns) e =
    let first = number_back names distinct w.text n (head_same (slice_get names n) (Some w.text) (named_by names ns) (texts ws) e) in
    let rest = numbers_back names distinct ws ns (tail_same (slice_get names n) (Some w.text) (named_by names ns) (texts ws) e) in
    ap (λ (o : Option ℕ). option_and_then (λ m. option_map (λ ms. m ∷ ms) (numbers_of names ws)) o) first ∙ ap (λ (o : Option (List ℕ)). option_map (λ ms. n ∷ ms) o) rest

-- ---- steps

abbrev action_names : TaskParts → List (List ℕ)
action_names task = map (λ (a : Action). a.name) task.actions

abbrev object_names : TaskParts → List (List ℕ)
object_names task = map (λ (o : Object). o.name) task.objects

objects_named : (task : TaskParts) (ns : List ℕ) → named_by (object_names task) ns ≡ map (object_name task) ns
objects_named task [] = refl
objects_named task (n ∷ ns) =
    ap (λ (x : Option (List ℕ)). x ∷ named_by (object_names task) ns) (slice_get-map (λ (o : Object). o.name) task.objects n)
    ∙ ap (λ (xs : List (Option (List ℕ))). object_name task n ∷ xs) (objects_named task ns)

if_step_is : (task : TaskParts) (step s : Step) (good : Bool) → is_step task step ≡ good → cond good (Some step) None ≡ Some s → (step ≡ s) × IsTrue (is_step task step)
if_step_is task step s true e is = (same_Some _ _ is, e)
if_step_is task step s false e is = absurd cc

step_by : (task : TaskParts) (l : PlanLine) (s : Step) (action : Option ℕ) (objects : Option (List ℕ)) → number_from 0 (action_names task) l.action.text ≡ action → numbers_of (object_names task) l.objects ≡ objects
    → option_and_then (λ a. option_and_then (λ os. if_step task (record { action = a; objects = os })) objects) action ≡ Some s → Names task l s
step_by task l s None objects e f is = absurd cc
step_by task l s (Some a) None e f is = absurd cc
step_by task l s (Some a) (Some os) e f is =
    let step : Step = record { action = a; objects = os } in
    let h = if_step_is task step s (is_step task step) refl is in
    subst (Names task l) h.0 (record {
      action = sym (slice_get-map (λ (x : Action). x.name) task.actions a) ∙ number_names (action_names task) l.action.text a e;
      objects = sym (objects_named task os) ∙ numbers_name (object_names task) l.objects os f;
      is_step = h.1;
    })

module _ (task : TaskParts) (l : PlanLine) where
  abbrev by_objects : ℕ → Option (List ℕ) → Option Step
  by_objects a os = option_and_then (λ ns. if_step task (record { action = a; objects = ns })) os

  abbrev by_action : Option ℕ → Option Step
  by_action a = option_and_then (λ n. by_objects n (numbers_of (object_names task) l.objects)) a

  pub no_action : None ≡ number_from 0 (action_names task) l.action.text → None ≡ step_of task l
  no_action e = ap by_action e

  module _ (a : ℕ) (action : Some a ≡ number_from 0 (action_names task) l.action.text) where
    pub no_objects : None ≡ numbers_of (object_names task) l.objects → None ≡ step_of task l
    no_objects e = ap (by_objects a) e ∙ ap by_action action

    module _ (os : List ℕ) (objects : Some os ≡ numbers_of (object_names task) l.objects) where
      abbrev step : Step
      step = record { action = a; objects = os }

      with_test : (good : Bool) → is_step task step ≡ good → cond good (Some step) None ≡ step_of task l
      with_test good e = ap (λ (b : Bool). cond b (Some step) None) (sym e) ∙ ap (by_objects a) objects ∙ ap by_action action

      pub no_step : is_step task step ≡ false → None ≡ step_of task l
      no_step e = with_test false e

      pub a_step : is_step task step ≡ true → Some step ≡ step_of task l
      a_step e = with_test true e

-- what is found is named
pub step_named : (task : TaskParts) (l : PlanLine) (s : Step) → step_of task l ≡ Some s → Names task l s
step_named task l s e = step_by task l s (number_from 0 (action_names task) l.action.text) (numbers_of (object_names task) l.objects) refl refl e

-- what is named is found
pub step_found : (task : TaskParts) → IsTask task → (l : PlanLine) (s : Step) → Names task l s → step_of task l ≡ Some s
step_found task good l s h =
    let first = number_back (action_names task) good.named.actions.distinct l.action.text s.action (slice_get-map (λ (x : Action). x.name) task.actions s.action ∙ h.action) in
    let rest = numbers_back (object_names task) good.named.objects.distinct l.objects s.objects (objects_named task s.objects ∙ h.objects) in
    ap (λ (o : Option ℕ). option_and_then (λ a. option_and_then (λ os. if_step task (record { action = a; objects = os })) (numbers_of (object_names task) l.objects)) o) first
    ∙ ap (λ (o : Option (List ℕ)). option_and_then (λ os. if_step task (record { action = s.action; objects = os })) o) rest
    ∙ ap (λ (b : Bool). cond b (Some s) None) h.is_step

pub step_unnamed : (task : TaskParts) → IsTask task → (l : PlanLine) → step_of task l ≡ None → (s : Step) → Names task l s → ⊥
step_unnamed task good l e s h = let found = step_found task good l s h in cc

pub one_step : (task : TaskParts) → IsTask task → (l : PlanLine) (s t : Step) → Names task l s → Names task l t → s ≡ t
one_step task good l s t h k = same_Some _ _ (sym (step_found task good l s h) ∙ step_found task good l t k)

-- ---- lists of lines

pub one_list : (task : TaskParts) → IsTask task → (ls : List PlanLine) (ss ts : List Step) → NameAll task ls ss → NameAll task ls ts → ss ≡ ts
one_list task good [] [] [] h k = refl
one_list task good [] [] (t ∷ ts) h k = absurd k
one_list task good [] (s ∷ ss) ts h k = absurd h
one_list task good (l ∷ ls) [] ts h k = absurd h
one_list task good (l ∷ ls) (s ∷ ss) [] h k = absurd k
one_list task good (l ∷ ls) (s ∷ ss) (t ∷ ts) h k =
    ap (λ (x : Step). x ∷ ss) (one_step task good l s t h.0 k.0) ∙ ap (λ (xs : List Step). t ∷ xs) (one_list task good ls ss ts h.1 k.1)

pub same_length : (task : TaskParts) (ls : List PlanLine) (ss : List Step) → NameAll task ls ss → length ls ≡ length ss
same_length task [] [] h = refl
same_length task [] (s ∷ ss) h = absurd h
same_length task (l ∷ ls) [] h = absurd h
same_length task (l ∷ ls) (s ∷ ss) h = ap suc (same_length task ls ss h.1)

pub one_more : (task : TaskParts) (ls : List PlanLine) (ss : List Step) (l : PlanLine) (s : Step) → NameAll task ls ss → Names task l s → NameAll task (ls ++ l ∷ []) (ss ++ s ∷ [])
one_more task [] [] l s h k = (k, tt)
one_more task [] (t ∷ ss) l s h k = absurd h
one_more task (m ∷ ls) [] l s h k = absurd h
one_more task (m ∷ ls) (t ∷ ss) l s h k = (h.0, one_more task ls ss l s h.1 k)

-- a line among others that name steps names one
pub middle_names : (task : TaskParts) (front : List PlanLine) (l : PlanLine) (after : List PlanLine) (ss : List Step) → NameAll task (front ++ l ∷ after) ss → (s : Step) × Names task l s
middle_names task [] l after [] h = absurd h
middle_names task [] l after (s ∷ ss) h = (s, h.0)
middle_names task (m ∷ front) l after [] h = absurd h
middle_names task (m ∷ front) l after (s ∷ ss) h = middle_names task front l after ss h.1
