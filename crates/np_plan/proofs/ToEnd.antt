-- Values up to the end of a text: they are read by the items alone, what is read is spelled so and back, and it stands at its places.
use Rattle.std.proofs.Common.{◌≡◌, ◌⊎◌, inl, inr, ℕ, zero, suc, ◌≤◌, List, [], ◌∷◌, length, Option, None, Ok, Err, refl, sym, ap, subst, ◌∙◌, arith}
use Rattle.std.specs.List.{All}
use Rattle.std.proofs.lemmas.List.Elements.{All-nil, All-cons, All-head, All-tail}
use Rattle.np_lex.specs.Tokens.{Lexeme, Piece, word, bad, end, Item}
use Rattle.np_read.specs.Faults.{pieces_in, onto}
use Rattle.np_read.specs.Marks.{Mark, Marking, Fits, each}
use Rattle.np_read.specs.Printers.{Printed}
use Rattle.np_read.specs.ItemReaders.{Outcome, Reader, and_then, pure, refuse, chosen, ended, further}
use Rattle.np_read.proofs.Good.{Took, Goes, Stopped, Good, Tries, Starts, Starting, good_pure, good_starts, is_shorter, starts_next, good_then, tries_then}
use Rattle.np_read.proofs.GoodParts.{at}
use Rattle.np_read.proofs.Spelled.{Gets, Finds, Spelled, Back, Reads, AllSame, then_at, then_find, head_is, tail_is}
use Rattle.np_read.proofs.Marked.{Marked, Placed}
use Rattle.np_plan.specs.PlanForm.{end_or, turns_to_end, to_end}

-- ---- the end, or something else

pub is_end : (piece : Piece) → (piece ≡ end) ⊎ (piece ≡ end → ⊥)
is_end (word lexeme) = inr (λ e. cc)
is_end bad = inr (λ e. cc)
is_end end = inl refl

not_ended : (piece : Piece) → (piece ≡ end → ⊥) → ended piece ≡ None
not_ended (word lexeme) never = refl
not_ended bad never = refl
not_ended end never = absurd (never refl)

module _ {A : Type 0} (other : Reader (List A)) where
  pub end_taken : (item : Item) (items : List Item) → item.piece ≡ end → end_or other (item ∷ items) ≡ Ok ([], items)
  unfolding end_or
  end_taken item items is = ap (λ (p : Piece). chosen (ended p) (λ _. pure []) (other (item ∷ items)) items) is

  pub end_other : (item : Item) (items : List Item) → (item.piece ≡ end → ⊥) → end_or other (item ∷ items) ≡ other (item ∷ items)
  unfolding end_or
  end_other item items never = ap (λ (o : Option (Unit {0})). chosen o (λ _. pure []) (other (item ∷ items)) items) (not_ended item.piece never)

  pub end_nothing : end_or other [] ≡ Err []
  unfolding end_or
  end_nothing = refl

end_same : {A : Type 0} (second third : Reader (List A)) (items : List Item) → second items ≡ third items → end_or second items ≡ end_or third items
unfolding end_or
end_same second third [] e = refl
end_same {A = A} second third (item ∷ items) e = ap (λ (o : Outcome (List A)). chosen (ended item.piece) (λ _. pure []) o items) e

-- ---- by the items alone

module _ {A : Type 0} (p : Reader A) (starting : Starting p) where
  nothing_within : (most : ℕ) → turns_to_end most p [] ≡ Err []
  nothing_within zero = end_nothing refuse
  nothing_within (suc most) = end_nothing (further p (turns_to_end most p))

  further_same : (f g : Reader (List A)) (x : Outcome A) → ((a : A) (rest : List Item) → x ≡ Ok (a, rest) → f rest ≡ g rest) → and_then x (λ a rest. and_then (f rest) (λ more last. Ok (a ∷ more, last))) ≡ and_then x (λ a rest. and_then (g rest) (λ more last. Ok (a ∷ more, last)))
  further_same f g (Ok x) same = ap (λ (o : Outcome (List A)). and_then o (λ more last. Ok (x.0 ∷ more, last))) (same x.0 x.1 refl)
  further_same f g (Err r) same = refl

  turns_agree : (k j : ℕ) (items : List Item) → length items ≤ k → length items ≤ j → turns_to_end k p items ≡ turns_to_end j p items
  turns_agree k j [] le lf = nothing_within k ∙ sym (nothing_within j)
  turns_agree zero j (item ∷ items) le lf = absurd (omega arith)
  turns_agree (suc k) zero (item ∷ items) le lf = absurd (omega arith)
  turns_agree (suc k) (suc j) (item ∷ items) le lf =
      end_same (further p (turns_to_end k p)) (further p (turns_to_end j p)) (item ∷ items)
      (further_same (turns_to_end k p) (turns_to_end j p) (p (item ∷ items))
      (λ a rest e. let less = is_shorter p starting (item ∷ items) a rest e in turns_agree k j rest (omega arith) (omega arith)))

  -- what is read at each item
  pub to_end_at : (items : List Item) → to_end p items ≡ end_or (further p (to_end p)) items
  unfolding to_end
  to_end_at [] = end_nothing refuse ∙ sym (end_nothing (further p (to_end p)))
  to_end_at (item ∷ items) =
      end_same (further p (turns_to_end (length items) p)) (further p (to_end p)) (item ∷ items)
      (further_same (turns_to_end (length items) p) (to_end p) (p (item ∷ items))
      (λ a rest e. let less = is_shorter p starting (item ∷ items) a rest e in turns_agree (length items) (length rest) rest (omega arith) (omega arith)))

  same_reader : to_end p ≡ end_or (further p (to_end p))
  same_reader = λ i items. to_end_at items i

  further_tries : (k : ℕ) → Good k (to_end p) → Tries k (further p (to_end p))
  further_tries k good =
      tries_then k p (λ a rest. and_then (to_end p rest) (λ more last. Ok (a ∷ more, last)))
      (λ a. good_then k (to_end p) (λ more last. Ok (a ∷ more, last)) (λ more. good_pure k (a ∷ more)) good) (starting k).tries

  starts_by : (k : ℕ) → Good k (to_end p) → Starts k (end_or (further p (to_end p)))
  unfolding end_or
  starts_by k good = starts_next k (λ item. ended item.piece) (λ _. pure []) (λ _. good_pure k []) (further p (to_end p)) (further_tries k good) (at end) tt refl

  -- the end alone is read
  pub end_alone : (other : List Item) → to_end p (at end ∷ other) ≡ Ok ([], other)
  end_alone other = to_end_at (at end ∷ other) ∙ end_taken (further p (to_end p)) (at end) other refl

  to_end_goes : Goes (to_end p) []
  to_end_goes = record { more = at end ∷ []; value = []; reads = end_alone }

  pub to_end_nothing : to_end p [] ≡ Err []
  to_end_nothing = to_end_at [] ∙ end_nothing (further p (to_end p))

  took_none : (items rest : List Item) (a : List A) → length items ≤ 0 → to_end p items ≡ Ok (a, rest) → Took (to_end p) items rest a
  took_none [] rest a le e = absurd (let h = to_end_nothing in cc)
  took_none (item ∷ items) rest a le e = absurd (omega arith)

  stopped_none : (items rest : List Item) → length items ≤ 0 → to_end p items ≡ Err rest → Stopped (to_end p) items rest
  stopped_none [] rest le e =
      let is : [] ≡ rest = let h = to_end_nothing in cc in
      record { front = []; cut = is; goes = to_end_goes; same = λ u after other eq. absurd cc }
  stopped_none (item ∷ items) rest le e = absurd (omega arith)

  good_to_end : (k : ℕ) → Good k (to_end p)
  good_to_end zero = record { some = to_end_goes; took = took_none; stopped = stopped_none }
  good_to_end (suc k) = subst (Good (suc k)) (sym same_reader) (good_starts k (end_or (further p (to_end p))) (starts_by k (good_to_end k)))

  pub starting_to_end : Starting (to_end p)
  starting_to_end k = subst (Starts k) (sym same_reader) (starts_by k (good_to_end k))

-- ---- what is spelled before the end

-- the value is good, and is spelled before the end
pub record SpelledToEnd {A : Type 0} (P : A → Type 0) (spelling : A → List Lexeme) (items : List Item) (a : A) (rest : List Item) : Type 0 where
  pub good : P a
  pub spelled : pieces_in items ≡ onto (spelling a) (end ∷ pieces_in rest)

-- what is read is spelled so before the end, and what is spelled so is read
pub record ReadsToEnd {A : Type 0} (P : A → Type 0) (spelling : A → List Lexeme) (Same : A → A → Type 0) (p : Reader A) : Type 0 where
  pub sound : (items : List Item) → Gets (SpelledToEnd P spelling items) (p items)
  pub back : (items : List Item) (a : A) (others : List Piece) → P a → pieces_in items ≡ onto (spelling a) (end ∷ others) → Finds (Back Same a others) (p items)

-- the reader refuses the end
abbrev pub AvoidsEnd : {A : Type 0} → Reader A → Type 0
AvoidsEnd p = (item : Item) (items : List Item) → item.piece ≡ end → p (item ∷ items) ≡ Err (item ∷ items)

module _ {A : Type 0} {P : A → Type 0} {f : A → Printed} {S : A → A → Type 0} {p : Reader A} (starting : Starting p) (reads : Reads P f S p) (avoids : AvoidsEnd p) where
  abbrev spelling : List A → List Lexeme
  spelling xs = each f xs []

  abbrev Sound : List Item → List A → List Item → Type 0
  Sound items = SpelledToEnd (All P) spelling items

  ends_by : (second : Reader (List A)) (item : Item) (items : List Item) → (item.piece ≡ end) ⊎ (item.piece ≡ end → ⊥) → Gets (Sound (item ∷ items)) (second (item ∷ items)) → Gets (Sound (item ∷ items)) (end_or second (item ∷ items))
  ends_by second item items (inl is) h =
      subst (Gets (Sound (item ∷ items))) (sym (end_taken second item items is)) (record { good = All-nil P; spelled = ap (λ (piece : Piece). piece ∷ pieces_in items) is })
  ends_by second item items (inr never) h = subst (Gets (Sound (item ∷ items))) (sym (end_other second item items never)) h

  ends : (second : Reader (List A)) (items : List Item) → Gets (Sound items) (second items) → Gets (Sound items) (end_or second items)
  ends second [] h = subst (Gets (Sound [])) (sym (end_nothing second)) tt
  ends second (item ∷ items) h = ends_by second item items (is_end item.piece) h

  further_sound : (others_read : Reader (List A)) → ((items : List Item) → Gets (Sound items) (others_read items)) → (items : List Item) → Gets (Sound items) (further p others_read items)
  further_sound others_read sound items =
      then_at (Spelled P f items) (Sound items) (λ a rest. and_then (others_read rest) (λ more last. Ok (a ∷ more, last))) (p items) (reads.sound items)
      (λ a rest h. then_at (Sound rest) (Sound items) (λ more last. Ok (a ∷ more, last)) (others_read rest) (sound rest)
      (λ more last k. record { good = All-cons P a more h.good k.good; spelled = h.spelled (spelling more) (end ∷ pieces_in last) k.spelled }))

  turns_sound : (most : ℕ) (items : List Item) → Gets (Sound items) (turns_to_end most p items)
  turns_sound zero items = ends refuse items tt
  turns_sound (suc most) items = ends (further p (turns_to_end most p)) items (further_sound (turns_to_end most p) (turns_sound most) items)

  to_end_sound : (items : List Item) → Gets (Sound items) (to_end p items)
  unfolding to_end
  to_end_sound items = turns_sound (length items) items

  further_avoids : (others_read : Reader (List A)) → AvoidsEnd (further p others_read)
  further_avoids others_read item items is = ap (λ (x : Outcome A). and_then x (λ a rest. and_then (others_read rest) (λ more last. Ok (a ∷ more, last)))) (avoids item items is)

  end_back : (items : List Item) (others : List Piece) → pieces_in items ≡ end ∷ others → Finds (Back (AllSame S) [] others) (to_end p items)
  end_back [] others e = absurd cc
  end_back (item ∷ items) others e =
      let is = head_is item.piece end (pieces_in items) others e in
      subst (Finds (Back (AllSame S) [] others)) (sym (to_end_at p starting (item ∷ items) ∙ end_taken (further p (to_end p)) item items is))
      (record { same = tt; left_are = tail_is item.piece end (pieces_in items) others e })

  -- where a value is read, the text goes on
  goes_on_by : (items : List Item) (Q : List A → List Item → Type 0) → Finds Q (further p (to_end p) items) → Finds Q (to_end p items)
  goes_on_by [] Q finds = absurd (subst (Finds Q) (ap (λ (x : Outcome A). and_then x (λ a rest. and_then (to_end p rest) (λ more last. Ok (a ∷ more, last)))) (starting 0).tries.nothing) finds)
  goes_on_by (item ∷ items) Q finds =
      let never : item.piece ≡ end → ⊥ = λ is. subst (Finds Q) (further_avoids (to_end p) item items is) finds in
      subst (Finds Q) (sym (to_end_at p starting (item ∷ items) ∙ end_other (further p (to_end p)) item items never)) finds

  to_end_back : (xs : List A) (items : List Item) (others : List Piece) → All P xs → pieces_in items ≡ onto (spelling xs) (end ∷ others) → Finds (Back (AllSame S) xs others) (to_end p items)
  to_end_back [] items others h e = end_back items others e
  to_end_back (a ∷ xs) items others h e =
      goes_on_by items (Back (AllSame S) (a ∷ xs) others)
      (then_find (Back S a (onto (spelling xs) (end ∷ others))) (Back (AllSame S) (a ∷ xs) others) (λ b rest. and_then (to_end p rest) (λ more last. Ok (b ∷ more, last))) (p items)
      (reads.back items a (spelling xs) (end ∷ others) (All-head P a xs h) e)
      (λ b rest m. then_find (Back (AllSame S) xs others) (Back (AllSame S) (a ∷ xs) others) (λ more last. Ok (b ∷ more, last)) (to_end p rest) (to_end_back xs rest others (All-tail P a xs h) m.left_are)
      (λ more last n. record { same = (m.same, n.same); left_are = n.left_are })))

  pub reads_to_end : ReadsToEnd (All P) spelling (AllSame S) (to_end p)
  reads_to_end = record { sound = to_end_sound; back = λ items xs others h e. to_end_back xs items others h e }

-- ---- places

-- the marks of the value fit the items
abbrev pub Stands : {A : Type 0} → (A → List Mark) → List Item → A → Type 0
Stands marks items a = (rest : List Item) × Fits items (marks a) rest

module _ {A : Type 0} {P : A → Type 0} {f : A → Marking} {p : Reader A} (placed : Placed P f p) where
  abbrev marks_of : List A → List Mark
  marks_of xs = each f xs []

  abbrev Stand : List Item → List A → List Item → Type 0
  Stand items xs rest = Stands marks_of items xs

  none_stands : (items : List Item) → Stands marks_of items []
  none_stands items = (items, refl)

  stands_by : (second : Reader (List A)) (item : Item) (items : List Item) → (item.piece ≡ end) ⊎ (item.piece ≡ end → ⊥) → Gets (Stand (item ∷ items)) (second (item ∷ items)) → Gets (Stand (item ∷ items)) (end_or second (item ∷ items))
  stands_by second item items (inl is) h = subst (Gets (Stand (item ∷ items))) (sym (end_taken second item items is)) (none_stands (item ∷ items))
  stands_by second item items (inr never) h = subst (Gets (Stand (item ∷ items))) (sym (end_other second item items never)) h

  stands : (second : Reader (List A)) (items : List Item) → Gets (Stand items) (second items) → Gets (Stand items) (end_or second items)
  stands second [] h = subst (Gets (Stand [])) (sym (end_nothing second)) tt
  stands second (item ∷ items) h = stands_by second item items (is_end item.piece) h

  further_stands : (others_read : Reader (List A)) → ((items : List Item) → Gets (Stand items) (others_read items)) → (items : List Item) → Gets (Stand items) (further p others_read items)
  further_stands others_read stood items =
      then_at (Marked P f items) (Stand items) (λ a rest. and_then (others_read rest) (λ more last. Ok (a ∷ more, last))) (p items) (placed.placed items)
      (λ a rest h. then_at (Stand rest) (Stand items) (λ more last. Ok (a ∷ more, last)) (others_read rest) (stood rest)
      (λ more last k. (k.0, h.fits (marks_of more) k.0 k.1)))

  turns_stand : (most : ℕ) (items : List Item) → Gets (Stand items) (turns_to_end most p items)
  turns_stand zero items = stands refuse items tt
  turns_stand (suc most) items = stands (further p (turns_to_end most p)) items (further_stands (turns_to_end most p) (turns_stand most) items)

  pub to_end_stands : (items : List Item) → Gets (λ xs rest. Stands marks_of items xs) (to_end p items)
  unfolding to_end
  to_end_stands items = turns_stand (length items) items
