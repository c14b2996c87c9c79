-- When nothing new is marked, the marked cells are those that are kept.
use Rattle.std.proofs.Common.{◌≡◌, ◌≢◌, ℕ, zero, suc, ◌+◌, ◌<◌, ◌≤◌, Bool, true, false, if◌then◌else◌, List, [], ◌∷◌, ◌++◌, length, get_or, set, replicate, Option, Some, None, ◌⊎◌, inl, inr, ⊎_elim, refl, sym, ◌∙◌, ap, subst, arith}
use Rattle.std.proofs.Common.{eqb}
use Rattle.std.proofs.lemmas.Bool.{eqb-false, eqb-true}
use Rattle.std.specs.Prelude.{slice_get}
use Rattle.std.proofs.lemmas.List.{get_or-set_other, get_or-set_same, get_or_append_left, length-append, length-replicate, length-set}
use Rattle.rtl_ir.specs.Types.{Ports}
use Rattle.rtl_ir.specs.declared.cell.Cell.{Cell}
use Rattle.rtl_ir.specs.declared.module.Module.{Module}
use Rattle.net_model.specs.Lists.{In}
use Rattle.net_model.proofs.Members.{In-cases, In-left, In-right}
use Rattle.opt_clean.specs.Kept.{input_bits}
use Rattle.opt_clean.specs.Linked.{cell_places}
use Rattle.opt_clean.specs.Marking.{IsMarking, KeepsReads, Marking, after_cell, after_next, after_place, mark_place, mark_places}
use Rattle.opt_clean.specs.Wires.{mark_count}

-- one more mark
count_more : (ts : List Bool) (i : ℕ) → get_or ts i true ≡ false → mark_count (set ts i true) ≡ mark_count ts + 1
count_more [] i e = absurd (cc)
count_more (true ∷ ts) zero e = absurd (cc)
count_more (false ∷ ts) zero e = omega arith
count_more (true ∷ ts) (suc i) e = omega (arith, count_more ts i e)
count_more (false ∷ ts) (suc i) e = omega (arith, count_more ts i e)

within : (ts : List Bool) (i : ℕ) → get_or ts i true ≡ false → i < length ts
within [] i e = absurd (cc)
within (t ∷ ts) zero e = omega arith
within (t ∷ ts) (suc i) e = omega (arith, within ts i e)

pub count_few : (ts : List Bool) → mark_count ts ≤ length ts
count_few [] = omega arith
count_few (true ∷ ts) = omega (arith, count_few ts)
count_few (false ∷ ts) = omega (arith, count_few ts)

-- a test by either default
pub either : (ts : List Bool) (i : ℕ) → i < length ts → get_or ts i true ≡ true → get_or ts i false ≡ true
either [] i h e = absurd (omega arith)
either (t ∷ ts) zero h e = e
either (t ∷ ts) (suc i) h e = either ts i (omega (arith, h)) e

decide : (i j : ℕ) → (i ≡ j) ⊎ (i ≢ j)
decide i j = by (eqb i j) refl
  where
    by : (t : Bool) → eqb i j ≡ t → (i ≡ j) ⊎ (i ≢ j)
    by true e = inl (eqb-true i j e)
    by false e = inr (eqb-false i j e)

-- a mark stays
mark_stays : (s : Marking) (p j : ℕ) → get_or s.marks j true ≡ true → get_or (mark_place s p).marks j true ≡ true
mark_stays s p j e = by (get_or s.marks p true) refl
  where
    by : (t : Bool) → get_or s.marks p true ≡ t → get_or (if t then s else record { marks = set s.marks p true; order = s.order ++ p ∷ [] }).marks j true ≡ true
    by true f = e
    by false f = ⊎_elim (λ i. ap (λ n. get_or (set s.marks p true) n true) i ∙ get_or-set_same s.marks p true true (within s.marks p f)) (λ n. get_or-set_other s.marks p j true true n ∙ e) (decide j p)

marks_stay : (s : Marking) (ps : List ℕ) (j : ℕ) → get_or s.marks j true ≡ true → get_or (mark_places s ps).marks j true ≡ true
marks_stay s [] j e = e
marks_stay s (p ∷ ps) j e = marks_stay (mark_place s p) ps j (mark_stays s p j e)

mark_is : (s : Marking) (p : ℕ) → get_or (mark_place s p).marks p true ≡ true
mark_is s p = by (get_or s.marks p true) refl
  where
    by : (t : Bool) → get_or s.marks p true ≡ t → get_or (if t then s else record { marks = set s.marks p true; order = s.order ++ p ∷ [] }).marks p true ≡ true
    by true f = f
    by false f = get_or-set_same s.marks p true true (within s.marks p f)

pub marks_are : (s : Marking) (ps : List ℕ) (j : ℕ) → In j ps → get_or (mark_places s ps).marks j true ≡ true
marks_are s [] j i = absurd i
marks_are s (p ∷ ps) j (inl e) = marks_stay (mark_place s p) ps j (subst (λ n. get_or (mark_place s p).marks n true ≡ true) (sym e) (mark_is s p))
marks_are s (p ∷ ps) j (inr i) = marks_are (mark_place s p) ps j i

module _ (ports : Ports) (m : Module) (cells : List Cell) (kept : List Bool) where
  -- the order only grows
  order_grows : (s : Marking) (p : ℕ) → length s.order ≤ length (mark_place s p).order
  order_grows s p = by (get_or s.marks p true)
    where
      by : (t : Bool) → length s.order ≤ length (if t then s else record { marks = set s.marks p true; order = s.order ++ p ∷ [] }).order
      by true = omega arith
      by false = omega (arith, length-append s.order (p ∷ []))

  order_stays : (s : Marking) (p k : ℕ) → k < length s.order → get_or (mark_place s p).order k 0 ≡ get_or s.order k 0
  order_stays s p k h = by (get_or s.marks p true)
    where
      by : (t : Bool) → get_or (if t then s else record { marks = set s.marks p true; order = s.order ++ p ∷ [] }).order k 0 ≡ get_or s.order k 0
      by true = refl
      by false = get_or_append_left s.order (p ∷ []) 0 k h

  -- one that is to be kept is marked
  keeps_one : (initial : List ℕ) (s : Marking) (next p : ℕ) → next ≤ length s.order → get_or kept p false ≡ true → IsMarking ports m cells kept initial s next → IsMarking ports m cells kept initial (mark_place s p) next
  keeps_one initial s next p le is h = by (get_or s.marks p true) refl
    where
      by : (t : Bool) → get_or s.marks p true ≡ t → IsMarking ports m cells kept initial (if t then s else record { marks = set s.marks p true; order = s.order ++ p ∷ [] }) next
      by true e = h
      by false e = record {
        long = length-set s.marks p true ∙ h.long;
        each = omega (arith, count_more s.marks p e, length-append s.order (p ∷ []), h.each);
        listed = λ i f. ⊎_elim
            (λ same. In-right i s.order (p ∷ []) (inl same))
            (λ other. In-left i s.order (p ∷ []) (h.listed i (sym (get_or-set_other s.marks p i true false other) ∙ f)))
            (decide i p);
        sound = λ i j. ⊎_elim (λ l. h.sound i l) (λ r. ⊎_elim (λ same. subst (λ n. get_or kept n false ≡ true) (sym same) is) (λ none. absurd none) r) (In-cases i s.order (p ∷ []) j);
        begun = λ i j. ⊎_elim
            (λ same. ap (λ n. get_or (set s.marks p true) n true) same ∙ get_or-set_same s.marks p true true (within s.marks p e))
            (λ other. get_or-set_other s.marks p i true true other ∙ h.begun i j)
            (decide i p);
        done = λ k lt long c at i j.
            let short : k < length s.order = omega (arith, lt, le) in
            let old : get_or s.marks i true ≡ true = h.done k lt short c (ap (slice_get cells) (sym (get_or_append_left s.order (p ∷ []) 0 k short)) ∙ at) i j in
            ⊎_elim
            (λ same. ap (λ n. get_or (set s.marks p true) n true) same ∙ get_or-set_same s.marks p true true (within s.marks p e))
            (λ other. get_or-set_other s.marks p i true true other ∙ old)
            (decide i p);
      }

  keeps_all : (initial : List ℕ) (s : Marking) (next : ℕ) (ps : List ℕ) → next ≤ length s.order → ((p : ℕ) → In p ps → get_or kept p false ≡ true) → IsMarking ports m cells kept initial s next → IsMarking ports m cells kept initial (mark_places s ps) next
  keeps_all initial s next [] le is h = h
  keeps_all initial s next (p ∷ ps) le is h =
      keeps_all initial (mark_place s p) next ps (omega (arith, le, order_grows s p)) (λ q i. is q (inr i)) (keeps_one initial s next p le (is p (inl refl)) h)

  orders_stay : (s : Marking) (ps : List ℕ) (k : ℕ) → k < length s.order → get_or (mark_places s ps).order k 0 ≡ get_or s.order k 0
  orders_stay s [] k h = refl
  orders_stay s (p ∷ ps) k h = orders_stay (mark_place s p) ps k (omega (arith, h, order_grows s p)) ∙ order_stays s p k h

  -- one more cell of the order has marked what it reads
  pub next_step : (initial : List ℕ) (s : Marking) (next : ℕ) → KeepsReads ports m cells kept → IsMarking ports m cells kept initial s next → IsMarking ports m cells kept initial (after_next ports m cells s next) (next + 1)
  next_step initial s next reads h = by (slice_get s.order next) refl
    where
      -- nothing new is marked, and what is read has been
      same : ((c : Cell) → next < length s.order → slice_get cells (get_or s.order next 0) ≡ Some c → ⊥) → IsMarking ports m cells kept initial s (next + 1)
      same none = record {
        long = h.long;
        each = h.each;
        listed = h.listed;
        sound = h.sound;
        begun = h.begun;
        done = λ k lt long c at i j. ⊎_elim
            (λ e. absurd (none c (subst (λ n. n < length s.order) e long) (subst (λ n. slice_get cells (get_or s.order n 0) ≡ Some c) e at)))
            (λ n. h.done k (omega (arith, lt, n)) long c at i j)
            (decide k next);
      }

      found : (xs : List ℕ) (k p : ℕ) → slice_get xs k ≡ Some p → (k < length xs) × (get_or xs k 0 ≡ p) × In p xs
      found [] k p e = absurd (cc)
      found (x ∷ xs) zero p e = let is : x ≡ p = cc in (omega arith, is, inl (sym is))
      found (x ∷ xs) (suc k) p e = let r = found xs k p e in (omega (arith, r.0), r.1, inr r.2)

      lost : (xs : List ℕ) (k : ℕ) → slice_get xs k ≡ None → k < length xs → ⊥
      lost [] k e lt = absurd (omega arith)
      lost (x ∷ xs) zero e lt = absurd (cc)
      lost (x ∷ xs) (suc k) e lt = lost xs k e (omega (arith, lt))

      cell : (p : ℕ) → (next < length s.order) × (get_or s.order next 0 ≡ p) × In p s.order → (o : Option Cell) → slice_get cells p ≡ o → IsMarking ports m cells kept initial (after_cell ports m s o) (next + 1)
      cell p at None e = same (λ c lt f. let no : None ≡ Some c = sym e ∙ ap (slice_get cells) (sym at.1) ∙ f in absurd (cc))
      cell p at (Some c) e =
          let ps : List ℕ = cell_places ports m (input_bits ports c) in
          let is : (q : ℕ) → In q ps → get_or kept q false ≡ true = λ q i. reads p c e (h.sound p at.2) q i in
          let le : next ≤ length s.order = omega (arith, at.0) in
          let more : IsMarking ports m cells kept initial (mark_places s ps) next = keeps_all initial s next ps le is h in
          record {
            long = more.long;
            each = more.each;
            listed = more.listed;
            sound = more.sound;
            begun = more.begun;
            done = λ k lt long d f i j. ⊎_elim
                (λ here. let place : get_or (mark_places s ps).order k 0 ≡ p = ap (λ n. get_or (mark_places s ps).order n 0) here ∙ orders_stay s ps next at.0 ∙ at.1 in
                let both : Some c ≡ Some d = sym e ∙ ap (slice_get cells) (sym place) ∙ f in
                let one : c ≡ d = cc in
                marks_are s ps i (subst (λ (z : Cell). In i (cell_places ports m (input_bits ports z))) (sym one) j))
                (λ n. more.done k (omega (arith, lt, n)) long d f i j)
                (decide k next);
          }

      by : (o : Option ℕ) → slice_get s.order next ≡ o → IsMarking ports m cells kept initial (after_place ports m cells s o) (next + 1)
      by None e = same (λ c lt f. lost s.order next e lt)
      by (Some p) e = cell p (found s.order next p e) (slice_get cells p) refl

  -- at the start
  pub started : (count : ℕ) (initial : List ℕ) → count ≡ length cells → ((p : ℕ) → In p initial → get_or kept p false ≡ true) → IsMarking ports m cells kept initial (mark_places (record { marks = replicate count false; order = [] }) initial) 0
  started count initial e is =
      let none : Marking = record { marks = replicate count false; order = [] } in
      let first : IsMarking ports m cells kept [] none 0 = record {
        long = length-replicate count false ∙ e;
        each = no_marks count;
        listed = λ i f. absurd (not_marked count i f);
        sound = λ i j. absurd j;
        begun = λ i j. absurd j;
        done = λ k lt long c at i j. absurd (omega (arith, lt));
      } in
      let all : IsMarking ports m cells kept [] (mark_places none initial) 0 = keeps_all [] none 0 initial (omega arith) is first in
      record {
        long = all.long;
        each = all.each;
        listed = all.listed;
        sound = all.sound;
        begun = λ i j. marks_are none initial i j;
        done = all.done;
      }
    where
      no_marks : (n : ℕ) → mark_count (replicate n false) ≡ 0
      no_marks zero = refl
      no_marks (suc n) = omega (arith, no_marks n)

      not_marked : (n i : ℕ) → get_or (replicate n false) i false ≡ true → ⊥
      not_marked zero i f = absurd (cc)
      not_marked (suc n) zero f = absurd (cc)
      not_marked (suc n) (suc i) f = not_marked n i f
