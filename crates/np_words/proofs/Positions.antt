-- The items of a text stand one after the other.
use Rattle.std.proofs.Common.{◌≡◌, ℕ, false, zero, suc, ◌+◌, ◌-◌, ◌<◌, ◌≤◌, List, [], ◌∷◌, ◌++◌, length, drop, Option, None, Some, refl, sym, ap, subst, ◌∙◌, arith, length-drop}
use Rattle.np_lex.specs.declared.token.Kind.{Kind}
use Rattle.np_lex.specs.Blanks.{blank_length}
use Rattle.np_lex.specs.FirstToken.{first_token}
use Rattle.np_lex.specs.Tokens.{taken_at, begun_at, next_from, Item, item_then, items_within, items_from, items_of}
use Rattle.np_lex.proofs.Streams.{TakesUpTo, first_token-range, blanks_from-le}

-- each item is at this offset or after it, and after those before it
abbrev pub Rising : ℕ → List Item → Type 0
Rising n [] = Unit {0}
Rising n (item ∷ items) = (n ≤ item.place.offset) × Rising (suc item.place.offset) items

rising_less : (m n : ℕ) (items : List Item) → m ≤ n → Rising n items → Rising m items
rising_less m n [] le h = tt
rising_less m n (item ∷ items) le h = (omega (arith, h.0), h.1)

module _ (text : List ℕ) (later : ℕ → List Item) (rising : (offset : ℕ) → offset ≤ length text → Rising offset (later offset)) where
  rising_taken : (n start : ℕ) (m : ℕ) (found : Option (Kind × ℕ)) → n ≤ start → start + m ≤ length text → TakesUpTo m found → Rising n (item_then text (taken_at start found) later)
  rising_taken n start m None le within range = (le, tt)
  rising_taken n start m (Some token) le within range =
      let h = range.range in
      (le, rising_less (suc start) (start + token.1) (later (start + token.1)) (omega (arith, h.0)) (rising (start + token.1) (omega (arith, h.1))))

  rising_begun : (n start : ℕ) (rest : List ℕ) → n ≤ start → start + length rest ≡ length text → Rising n (item_then text (begun_at start rest) later)
  rising_begun n start [] le within = (omega (arith, within), tt)
  rising_begun n start (b ∷ bs) le within = rising_taken n start (length (b ∷ bs)) (first_token (b ∷ bs)) le (omega (arith, within)) (first_token-range (b ∷ bs))

  rising_then : (offset : ℕ) → offset ≤ length text → Rising offset (item_then text (next_from text offset) later)
  rising_then offset le =
      let blanks : ℕ = blank_length (drop offset text) in
      let start : ℕ = offset + blanks in
      let short : blanks ≤ length (drop offset text) = blanks_from-le false (drop offset text) in
      rising_begun offset start (drop start text) (omega arith) (omega (arith, length-drop start text, length-drop offset text, short))

rising_within : (most : ℕ) (text : List ℕ) (offset : ℕ) → offset ≤ length text → Rising offset (items_within most text offset)
unfolding items_within
rising_within zero text offset le = (le, tt)
rising_within (suc most) text offset le = rising_then text (items_within most text) (rising_within most text) offset le

pub rising_of : (text : List ℕ) → Rising 0 (items_of text)
unfolding items_from
rising_of text = rising_within (length text - 0) text 0 (omega arith)

-- ---- two cuts of one list

-- an item is after those before it
pub rising_front : (n : ℕ) (front : List Item) (item : Item) (after : List Item) → Rising n (front ++ item ∷ after) → n ≤ item.place.offset
rising_front n [] item after h = h.0
rising_front n (x ∷ front) item after h = omega (arith, h.0, rising_front (suc x.place.offset) front item after h.1)

-- of two items of one list, the one that is before the other has more items after it
pub data Cuts (front : List Item) (item : Item) (other_front : List Item) (other : Item) : Type 0 where
  before : (middle : List Item) → other_front ≡ front ++ item ∷ middle → item.place.offset < other.place.offset → Cuts front item other_front other
  here : front ≡ other_front → item ≡ other → Cuts front item other_front other
  later : (middle : List Item) → front ≡ other_front ++ other ∷ middle → other.place.offset < item.place.offset → Cuts front item other_front other

cut_first : (n : ℕ) (item other : Item) (after front other_after : List Item) → Rising n (item ∷ after) → item ∷ after ≡ front ++ other ∷ other_after → Cuts [] item front other
cut_first n item other after [] other_after h e = here refl (let same : item ≡ other = cc in same)
cut_first n item other after (y ∷ ys) other_after h e =
    let same : item ≡ y = cc in
    let rest : after ≡ ys ++ other ∷ other_after = cc in
    before ys (ap (λ (z : Item). z ∷ ys) (sym same)) (rising_front (suc item.place.offset) ys other other_after (subst (Rising (suc item.place.offset)) rest h.1))

cut_more : (x y : Item) (front : List Item) (item : Item) (other_front : List Item) (other : Item) → x ≡ y → Cuts front item other_front other → Cuts (x ∷ front) item (y ∷ other_front) other
cut_more x y front item other_front other same (before middle is less) = before middle (ap (λ (z : Item). z ∷ other_front) (sym same) ∙ ap (λ (zs : List Item). x ∷ zs) is) less
cut_more x y front item other_front other same (here is also) = here (ap (λ (z : Item). z ∷ front) same ∙ ap (λ (zs : List Item). y ∷ zs) is) also
cut_more x y front item other_front other same (later middle is less) = later middle (ap (λ (z : Item). z ∷ front) same ∙ ap (λ (zs : List Item). y ∷ zs) is) less

pub cuts : (n : ℕ) (front : List Item) (item : Item) (after other_front : List Item) (other : Item) (other_after : List Item) → Rising n (front ++ item ∷ after) → front ++ item ∷ after ≡ other_front ++ other ∷ other_after → Cuts front item other_front other
cuts n [] item after other_front other other_after h e = cut_first n item other after other_front other_after h e
cuts n (x ∷ front) item after [] other other_after h e =
    let same : x ≡ other = cc in
    later front (ap (λ (z : Item). z ∷ front) same) (subst (λ (z : Item). z.place.offset < item.place.offset) same (rising_front (suc x.place.offset) front item after h.1))
cuts n (x ∷ front) item after (y ∷ other_front) other other_after h e =
    let same : x ≡ y = cc in
    let rest : front ++ item ∷ after ≡ other_front ++ other ∷ other_after = cc in
    cut_more x y front item other_front other same (cuts (suc x.place.offset) front item after other_front other other_after h.1 rest)
