-- The words `module` of a text, item by item.
use Rattle.std.proofs.Common.{◌≡◌, ◌⊎◌, inl, inr, ℕ, zero, suc, List, [], ◌∷◌, Bool, true, false, cond, Option, Some, None, drop, slice_get, refl, sym, ap, ◌∙◌}
use Rattle.std.specs.Option.{option_map_or}
use Rattle.rtl_lex.specs.declared.place.Place.{Place}
use Rattle.rtl_lex.specs.Items.{AreItems, Leads, Seen}
use Rattle.rtl_lex.specs.Place.{IsPlaceIn, start}
use Rattle.design_edit.specs.Places.{is_module_word, module_place, module_words}

-- the word that is sought is the one of this number among the items from a place on
pub record Seeks (text : List ℕ) (number : ℕ) (from : Place) (line : Bool) (left : ℕ) : Type 0 where
  pub inside : IsPlaceIn text from
  pub same :
      (items : List Seen) → AreItems items text start false →
      (others : List Seen) × AreItems others (drop from.at text) from line × (module_place others left ≡ module_place items number)

pub seeks_begin : (text : List ℕ) (number : ℕ) → IsPlaceIn text start → Seeks text number start false number
seeks_begin text number inside = record { inside = inside; same = λ items are. (items, are, refl) }

passed : (i : Seen) (others : List Seen) (left : ℕ) → is_module_word i.sort ≡ false → module_place (i ∷ others) left ≡ module_place others left
passed i others left none = ap (λ (b : Bool). option_map_or (λ (s : Seen). s.place) (slice_get (cond b (i ∷ module_words others) (module_words others)) left) start) none

counted : (i : Seen) (others : List Seen) (left : ℕ) → is_module_word i.sort ≡ true → module_place (i ∷ others) (suc left) ≡ module_place others left
counted i others left is = ap (λ (b : Bool). option_map_or (λ (s : Seen). s.place) (slice_get (cond b (i ∷ module_words others) (module_words others)) (suc left)) start) is

reached : (i : Seen) (others : List Seen) → is_module_word i.sort ≡ true → module_place (i ∷ others) zero ≡ i.place
reached i others is = ap (λ (b : Bool). option_map_or (λ (s : Seen). s.place) (slice_get (cond b (i ∷ module_words others) (module_words others)) zero) start) is

-- how many words are left behind an item
abbrev pub IsLeft : Bool → ℕ → ℕ → Type 0
IsLeft true left after = left ≡ suc after
IsLeft false left after = left ≡ after

head_of : (text : List ℕ) (items : List Seen) (i : Seen) (rest : Option (Place × Bool)) → Leads items i rest text → (others : List Seen) × (items ≡ i ∷ others)
head_of text items i None leads = ([], leads)
head_of text items i (Some at) leads = (leads.0, leads.1)

module _ {text : List ℕ} {number : ℕ} {from : Place} {line : Bool} {left : ℕ} where
  -- an item behind which others stand
  pub seeks_on : Seeks text number from line left → (i : Seen) (place : Place) (ended : Bool) (after : ℕ)
      → ((items : List Seen) → AreItems items (drop from.at text) from line → Leads items i (Some (place, ended)) text)
      → IsPlaceIn text place → IsLeft (is_module_word i.sort) left after → Seeks text number place ended after
  seeks_on h i place ended after leads inside is = record {
    inside = inside;
    same = λ items are.
        let here = h.same items are in
        let next = leads here.0 here.1 in
        (next.0, next.2, by next.0 (is_module_word i.sort) refl is ∙ sym (ap (λ (l : List Seen). module_place l left) next.1) ∙ here.2);
  }
    where
      by : (others : List Seen) (b : Bool) → is_module_word i.sort ≡ b → IsLeft b left after → module_place others after ≡ module_place (i ∷ others) left
      by others true word e = sym (ap (module_place (i ∷ others)) e ∙ counted i others after word)
      by others false word e = sym (ap (module_place (i ∷ others)) e ∙ passed i others after word)

  -- the item is the word
  pub seeks_found : Seeks text number from line left → (i : Seen) (rest : Option (Place × Bool))
      → ((items : List Seen) → AreItems items (drop from.at text) from line → Leads items i rest text)
      → is_module_word i.sort ≡ true → left ≡ 0 → (items : List Seen) → AreItems items text start false → i.place ≡ module_place items number
  seeks_found h i rest leads word none items are =
      let here = h.same items are in
      let first = head_of text here.0 i rest (leads here.0 here.1) in
      sym (ap (λ (n : ℕ). module_place here.0 n) none ∙ ap (λ (l : List Seen). module_place l zero) first.1 ∙ reached i first.0 word) ∙ here.2

  -- no item stands behind, and it is not the word
  pub seeks_none : Seeks text number from line left → (i : Seen)
      → ((items : List Seen) → AreItems items (drop from.at text) from line → Leads items i None text)
      → (is_module_word i.sort ≡ false) ⊎ ((after : ℕ) × (left ≡ suc after)) → (items : List Seen) → AreItems items text start false → start ≡ module_place items number
  seeks_none h i leads other items are =
      let here = h.same items are in
      let only = leads here.0 here.1 in
      by other ∙ sym (ap (λ (l : List Seen). module_place l left) only) ∙ here.2
    where
      nothing : (l : ℕ) → is_module_word i.sort ≡ false → start ≡ module_place (i ∷ []) l
      nothing l word = sym (passed i [] l word ∙ none l)
        where
          none : (l : ℕ) → module_place [] l ≡ start
          none l = refl

      later : (b : Bool) → is_module_word i.sort ≡ b → (after : ℕ) → start ≡ module_place (i ∷ []) (suc after)
      later true word after = sym (counted i [] after word)
      later false word after = nothing (suc after) word

      by : (is_module_word i.sort ≡ false) ⊎ ((after : ℕ) × (left ≡ suc after)) → start ≡ module_place (i ∷ []) left
      by (inl word) = nothing left word
      by (inr more) = later (is_module_word i.sort) refl more.0 ∙ ap (module_place (i ∷ [])) (sym more.1)
