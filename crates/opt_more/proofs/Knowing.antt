-- What is known of where ways end stays so where a cell is changed.
use Rattle.std.proofs.Common.{◌≡◌, ℕ, zero, suc, ◌+◌, ◌<◌, ◌≤◌, arith, Bool, true, false, List, [], ◌∷◌, length, map, Option, Some, None, ◌⊎◌, inl, inr, refl, sym, ◌∙◌, ap, subst}
use Rattle.std.specs.Prelude.{◌&&◌, nat_eq, if◌then◌else◌, slice_index_or}
use Rattle.std.specs.Arc.{arc_value}
use Rattle.std.specs.HashMap.{get_by}
use Rattle.std.specs.Str.{bytes_eq}
use Rattle.std.proofs.lemmas.Bool.{and_parts, eqb-true}
use Rattle.std.proofs.lemmas.Slice.Eq.{bytes_eq-Decides}
use Rattle.cell_types.specs.PinName.{pin_text}
use Rattle.cell_types.specs.declared.pin_name.PinName.{PinName}
use Rattle.cell_types.specs.declared.pin_name.PinName.TheVariants.{S, Y}
use Rattle.rtl_sig.specs.declared.sig.SigBit.{SigBit}
use Rattle.rtl_ir.specs.Follow.{follow}
use Rattle.rtl_ir.specs.Parameters.{signal_at}
use Rattle.rtl_ir.specs.Signals.{same_signal}
use Rattle.rtl_ir.specs.declared.cell.Cell.{Cell}
use Rattle.rtl_ir.specs.declared.module.Link.{Link}
use Rattle.pass_laws.proofs.SamePlaces.{signal_is}
use Rattle.opt_expr.specs.Places.{place_of}
use Rattle.opt_more.specs.Ends.{AreEnds, EndsAt, IsKnown, LeadsTo}
use Rattle.opt_more.specs.Muxtree.{arm_of, chooses_as, gives_as, now_at, standing_now, walk_by, walked, way_on}
use Rattle.opt_more.specs.declared.ends.Arm.{Arm}
use Rattle.opt_more.specs.declared.ends.End.{End}
use Rattle.opt_more.proofs.MuxSteps.{slots_long}
use Rattle.opt_more.proofs.Walks.{further_leads, leads_by, stays_at}

-- what a cell has at an arm, followed
abbrev pub arm_at : PinName → List Link → Cell → List SigBit
arm_at arm links c = map (follow links) (signal_at c.pins (pin_text arm))

module _ (links : List Link) where
  -- a cell that chooses as another does has its type and its select
  pub chosen : (c e : Cell) → chooses_as links c e ≡ true → (e.kind_name ≡ c.kind_name) × (map (follow links) (signal_at e.pins (pin_text S)) ≡ signal_at c.pins (pin_text S))
  chosen c e h =
      let two = and_parts (bytes_eq e.kind_name c.kind_name) (same_signal (map (follow links) (signal_at e.pins (pin_text S))) (signal_at c.pins (pin_text S))) h in
      ((bytes_eq-Decides e.kind_name c.kind_name).0 two.0, signal_is _ _ two.1)

  -- the ways of a cell are those of another one that a third chooses as, too
  module _ (arm : PinName) (cells : List Cell) (slots : List (Option Cell)) (c d e : Cell) (one : chooses_as links c e ≡ true) (two : chooses_as links d e ≡ true) where
    kinds : c.kind_name ≡ d.kind_name
    kinds = sym (chosen c e one).0 ∙ (chosen d e two).0

    selects : signal_at c.pins (pin_text S) ≡ signal_at d.pins (pin_text S)
    selects = sym (chosen c e one).1 ∙ (chosen d e two).1

    same_way : (word : List SigBit) (o : Option Cell) → arm_of arm links c word o ≡ arm_of arm links d word o
    same_way word None = refl
    same_way word (Some f) =
        λ i. if (bytes_eq f.kind_name (kinds i) && same_signal (map (follow links) (signal_at f.pins (pin_text S))) (selects i)) && same_signal (signal_at f.pins (pin_text Y)) word then Some (arm_at arm links f) else None

    pub same_ways : way_on arm cells slots links c ≡ way_on arm cells slots links d
    same_ways = λ i word. same_way word (now_at slots (place_of cells word)) i

-- the cell whose turn it is becomes another; all others stay
pub turned : (done : List (Option Cell)) (old new : Cell) (rest : List Cell) (at : ℕ) → (slice_index_or (standing_now done new rest) at None ≡ slice_index_or (standing_now done old rest) at None) ⊎ ((slice_index_or (standing_now done old rest) at None ≡ Some old) × (slice_index_or (standing_now done new rest) at None ≡ Some new))
turned [] old new rest zero = inr (refl, refl)
turned [] old new rest (suc at) = inl refl
turned (slot ∷ done) old new rest zero = inl refl
turned (slot ∷ done) old new rest (suc at) = turned done old new rest at

-- a cell becomes one that chooses as it does, whose arm leads where its own leads
pub record IsChange (arm : PinName) (cells : List Cell) (slots : List (Option Cell)) (links : List Link) (old new : Cell) : Type 0 where
  pub kind : new.kind_name ≡ old.kind_name
  pub select : map (follow links) (signal_at new.pins (pin_text S)) ≡ map (follow links) (signal_at old.pins (pin_text S))
  pub output : signal_at new.pins (pin_text Y) ≡ signal_at old.pins (pin_text Y)
  pub leads : (arm_at arm links new ≡ arm_at arm links old) ⊎ ((c : Cell) × (chooses_as links c old ≡ true) × (arm_at arm links new ≡ walked arm cells slots links c (length slots) (arm_at arm links old)))

module _ (arm : PinName) (cells : List Cell) (links : List Link) (done : List (Option Cell)) (rest : List Cell) (old new : Cell) (change : IsChange arm cells (standing_now done old rest) links old new) where
  abbrev before : List (Option Cell)
  before = standing_now done old rest

  abbrev after : List (Option Cell)
  after = standing_now done new rest

  abbrev most : ℕ
  most = length before

  gives_same : (c : Cell) (word : List SigBit) → gives_as links c word new ≡ gives_as links c word old
  gives_same c word = λ i. (bytes_eq (change.kind i) c.kind_name && same_signal (change.select i) (signal_at c.pins (pin_text S))) && same_signal (change.output i) word

  chooses_same : (c : Cell) → chooses_as links c new ≡ chooses_as links c old
  chooses_same c = λ i. bytes_eq (change.kind i) c.kind_name && same_signal (change.select i) (signal_at c.pins (pin_text S))

  gives_chooses : (c : Cell) (word : List SigBit) (e : Cell) → gives_as links c word e ≡ true → chooses_as links c e ≡ true
  gives_chooses c word e h = (and_parts (chooses_as links c e) (same_signal (signal_at e.pins (pin_text Y)) word) h).0

  module _ (c : Cell) where
    abbrev on : List SigBit → Option (List SigBit)
    on = way_on arm cells before links c

    abbrev further : List SigBit → Option (List SigBit)
    further = way_on arm cells after links c

    abbrev Ahead : List SigBit → Option ℕ → Type 0
    Ahead word o =
        (arm_of arm links c word (now_at after o) ≡ arm_of arm links c word (now_at before o))
        ⊎ ((next : List SigBit) × (arm_of arm links c word (now_at before o) ≡ Some next) × (arm_of arm links c word (now_at after o) ≡ Some (walk_by on most next)))

    given : (word : List SigBit) (t : Bool) → gives_as links c word old ≡ t
        → (arm_at arm links new ≡ arm_at arm links old) ⊎ ((d : Cell) × (chooses_as links d old ≡ true) × (arm_at arm links new ≡ walked arm cells before links d most (arm_at arm links old)))
        → ((if t then Some (arm_at arm links new) else None) ≡ (if t then Some (arm_at arm links old) else None))
        ⊎ ((next : List SigBit) × ((if t then Some (arm_at arm links old) else None) ≡ Some next) × ((if t then Some (arm_at arm links new) else None) ≡ Some (walk_by on most next)))
    given word false f leads = inl refl
    given word true f (inl same) = inl (ap Some same)
    given word true f (inr k) =
        inr (arm_at arm links old, refl, ap Some (k.2 ∙ ap (λ z. walk_by z most (arm_at arm links old)) (same_ways links arm cells before k.0 c old k.1 (gives_chooses c word old f))))

    ahead_at : (word : List SigBit) (o : Option ℕ) → Ahead word o
    ahead_at word None = inl refl
    ahead_at word (Some at) = by (turned done old new rest at)
      where
        by : (slice_index_or after at None ≡ slice_index_or before at None) ⊎ ((slice_index_or before at None ≡ Some old) × (slice_index_or after at None ≡ Some new)) → Ahead word (Some at)
        by (inl same) = inl (ap (arm_of arm links c word) same)
        by (inr k) = join (given word (gives_as links c word old) refl change.leads)
          where
            here : arm_of arm links c word (now_at before (Some at)) ≡ (if gives_as links c word old then Some (arm_at arm links old) else None)
            here = ap (arm_of arm links c word) k.0

            there : arm_of arm links c word (now_at after (Some at)) ≡ (if gives_as links c word old then Some (arm_at arm links new) else None)
            there = ap (arm_of arm links c word) k.1 ∙ ap (λ t. if t then Some (arm_at arm links new) else None) (gives_same c word)

            join : ((if gives_as links c word old then Some (arm_at arm links new) else None) ≡ (if gives_as links c word old then Some (arm_at arm links old) else None))
                ⊎ ((next : List SigBit) × ((if gives_as links c word old then Some (arm_at arm links old) else None) ≡ Some next) × ((if gives_as links c word old then Some (arm_at arm links new) else None) ≡ Some (walk_by on most next))) → Ahead word (Some at)
            join (inl e) = inl (there ∙ e ∙ sym here)
            join (inr q) = inr (q.0, here ∙ q.1, there ∙ q.2)

    pub ahead : (word : List SigBit) → (further word ≡ on word) ⊎ ((next : List SigBit) × (on word ≡ Some next) × (further word ≡ Some (walk_by on most next)))
    ahead word = ahead_at word (place_of cells word)

    goes_on : (steps : ℕ) → steps ≤ most → (from word : List SigBit) → LeadsTo on steps from word → LeadsTo further steps from word
    goes_on steps le from word h = further_leads on further most ahead steps le from word h

    -- from the arm of the cell itself
    from_itself : (steps : ℕ) (word : List SigBit) → steps ≤ most → chooses_as links c old ≡ true → LeadsTo on steps (arm_at arm links old) word
        → (arm_at arm links new ≡ arm_at arm links old) ⊎ ((d : Cell) × (chooses_as links d old ≡ true) × (arm_at arm links new ≡ walked arm cells before links d most (arm_at arm links old)))
        → LeadsTo further steps (arm_at arm links new) word
    from_itself steps word le chooses h (inl same) = subst (λ z. LeadsTo further steps z word) (sym same) (goes_on steps le (arm_at arm links old) word h)
    from_itself steps word le chooses h (inr k) =
        let ends : EndsAt further word = (goes_on steps le (arm_at arm links old) word h).1 in
        let there : arm_at arm links new ≡ word = k.2 ∙ ap (λ z. walk_by z most (arm_at arm links old)) (same_ways links arm cells before k.0 c old k.1 chooses) ∙ leads_by on steps most (arm_at arm links old) word h le in
        subst (λ z. LeadsTo further steps z word) (sym there) (stays_at further steps word ends, ends)

  still_known : (place steps : ℕ) (word : List SigBit) → steps ≤ most → IsKnown arm cells before links place steps word → IsKnown arm cells after links place steps word
  still_known place steps word le known c e at chooses = by (turned done old new rest place)
    where
      by : (slice_index_or after place None ≡ slice_index_or before place None) ⊎ ((slice_index_or before place None ≡ Some old) × (slice_index_or after place None ≡ Some new)) → LeadsTo (further c) steps (arm_at arm links e) word
      by (inl same) = goes_on c steps le (arm_at arm links e) word (known c e (sym same ∙ at) chooses)
      by (inr k) =
          let one : new ≡ e = (let both : Some new ≡ Some e = sym k.1 ∙ at in cc) in
          let chooses' : chooses_as links c old ≡ true = sym (chooses_same c) ∙ ap (chooses_as links c) one ∙ chooses in
          subst (λ z. LeadsTo (further c) steps (arm_at arm links z) word) one (from_itself c steps word le chooses' (known c old k.0 chooses') change.leads)

  -- what is known of the arm stays so
  pub ends_stay : (known : Arm) → known.name ≡ arm → AreEnds known cells before links → AreEnds known cells after links
  ends_stay known name ends = record {
    known = λ place end here. subst (λ z. IsKnown z cells after links place end.steps (arc_value end.word)) (sym name) (still_known place end.steps (arc_value end.word) (let lt = ends.few place end here in omega (arith, lt)) (subst (λ z. IsKnown z cells before links place end.steps (arc_value end.word)) name (ends.known place end here)));
    few = λ place end here.
        let lt = ends.few place end here in
        let one : length before ≡ (length done + 1) + length rest = slots_long arm links done old rest in
        let two : length after ≡ (length done + 1) + length rest = slots_long arm links done new rest in
        omega (arith, lt, one, two);
  }

-- one end more is known
pub one_more : (old new : Arm) (place : ℕ) (end : End) (cells : List Cell) (slots : List (Option Cell)) (links : List Link) → new.name ≡ old.name → ((p : ℕ) → get_by (nat_eq p) new.ends ≡ (if nat_eq p place then Some end else get_by (nat_eq p) old.ends)) → IsKnown old.name cells slots links place end.steps (arc_value end.word) → end.steps < length slots → AreEnds old cells slots links → AreEnds new cells slots links
one_more old new place end cells slots links name put known lt ends = record {
  known = λ p q here. subst (λ z. IsKnown z cells slots links p q.steps (arc_value q.word)) (sym name) ((by p q (nat_eq p place) refl (sym (put p) ∙ here)).0);
  few = λ p q here. (by p q (nat_eq p place) refl (sym (put p) ∙ here)).1;
}
  where
    by : (p : ℕ) (q : End) (t : Bool) → nat_eq p place ≡ t → (if t then Some end else get_by (nat_eq p) old.ends) ≡ Some q → IsKnown old.name cells slots links p q.steps (arc_value q.word) × (q.steps < length slots)
    by p q true f e =
        let there : end ≡ q = cc in
        let here : place ≡ p = sym (eqb-true p place f) in
        subst (λ z. IsKnown old.name cells slots links p z.steps (arc_value z.word) × (z.steps < length slots)) there (subst (λ z. IsKnown old.name cells slots links z end.steps (arc_value end.word)) here known, lt)
    by p q false f e = (ends.known p q e, ends.few p q e)
