-- One more write port of a memory.
use Rattle.std.proofs.Common.{◌≡◌, ℕ, ◌+◌, max, Bool, true, false, cond, not, ◌||◌, List, [], ◌∷◌, ◌++◌, map, Option, Some, None, refl, sym, ◌∙◌, ap, subst, arith, append_assoc, append-nil, length-append}
use Rattle.std.specs.Prelude.{unwrap_or, ◌==◌}
use Rattle.std.specs.Bool.{nat_eq}
use Rattle.std.specs.HashSet.{HashSet, Updates}
use Rattle.std.specs.List.{list_any}
use Rattle.std.proofs.lemmas.List.{map-append}
use Rattle.std.proofs.lemmas.List.Folds.{list_any-append}
use Rattle.std.proofs.lemmas.Bool.{not-false}
use Rattle.rtl_ir.specs.declared.cell.Cell.{Cell}
use Rattle.rtl_ir.specs.declared.module.Link.{Link}
use Rattle.rtl_ir.specs.declared.store.Store.{Store}
use Rattle.rtl_ir.specs.WritePorts as rtl
use Rattle.rtl_ir.specs.WritePorts.{EventLine, WritePort, cell_port, clashes, clockings_of, event_clocking, next_port, same_clocking}
use Rattle.memory_check.specs.declared.clocks.Clocking.{Clocking}
use Rattle.memory_check.specs.declared.ports.Ports.{Ports}
use Rattle.memory_check.specs.Clocks.{followed}
use Rattle.memory_check.specs.Ports.{Agree, HasCells, HasLines, Holds, unlike}
use Rattle.memory_check.proofs.Same.{clocking_same}

next_more : (ports : List WritePort) (p : WritePort) → next_port (ports ++ p ∷ []) ≡ max (p.number + 1) (next_port ports)
next_more [] p = refl
next_more (q ∷ ports) p = rw (next_more ports p) (omega arith)

module _ (links : List Link) (clockings : List rtl.Clocking) (c : rtl.Clocking) where
  alike : (d : rtl.Clocking) (x : Bool) → clashes d (clockings ++ c ∷ []) ≡ (clashes d clockings || (not (same_clocking d c) || false))
  alike d x = list_any-append (λ (other : rtl.Clocking). not (same_clocking d other)) clockings (c ∷ [])

  twice : (x : Bool) → (x || (x || false)) ≡ x
  twice true = refl
  twice false = refl

  once : (x : Bool) → (false || (x || false)) ≡ x
  once true = refl
  once false = refl

  -- a port that acts as the first one does, or is the first
  pub agree_more : (first : Option Clocking) (own : Clocking) → followed links own ≡ c → Agree links first clockings → unlike links first c ≡ false
      → Agree links (Some (unwrap_or first own)) (clockings ++ c ∷ [])
  agree_more None own is all like d =
      alike d true ∙ (λ i. all d i || (not (same_clocking d c) || false)) ∙ once (not (same_clocking d c)) ∙ (λ i. not (same_clocking d (sym is i)))
  agree_more (Some first) own is all like d =
      let same : c ≡ followed links first = clocking_same c (followed links first) (not-false _ like) in
      alike d true ∙ (λ i. all d i || (not (same_clocking d (same i)) || false)) ∙ twice (not (same_clocking d (followed links first)))

-- a number is put beside those of the ports
pub holds_more : {S : Type 0} (old new : HashSet ℕ S) (n : ℕ) (ports : List WritePort) (p : WritePort) → Updates nat_eq old new n true → p.number ≡ n → Holds old ports → Holds new (ports ++ p ∷ [])
holds_more old new n ports p put is holds q =
    put.0 q ∙ (λ i. cond (n == q) true (holds q i)) ∙ by (n == q) (list_any (λ (r : WritePort). r.number == q) ports)
    ∙ (λ i. list_any (λ (r : WritePort). r.number == q) ports || ((sym is i == q) || false))
    ∙ sym (list_any-append (λ (r : WritePort). r.number == q) ports (p ∷ []))
  where
    by : (b x : Bool) → cond b true x ≡ (x || (b || false))
    by true true = refl
    by true false = refl
    by false true = refl
    by false false = refl

module _ (links : List Link) (old new : Ports) (s : Store) (ports : List WritePort) (own : Clocking) where
  -- a cell is noted
  pub cell_noted : (c : Cell) (n : ℕ) → n ≡ (cell_port links c).number → followed links own ≡ (cell_port links c).clocking → HasCells links old s ports → unlike links old.first (cell_port links c).clocking ≡ false
      → new.store ≡ old.store → Holds new.numbers (ports ++ cell_port links c ∷ []) → new.next ≡ max (n + 1) old.next → new.first ≡ Some (unwrap_or old.first own)
      → HasCells links new s (ports ++ cell_port links c ∷ [])
  cell_noted c n is own_is has like kept numbers next first = record {
    store = ap (λ (r : _). r.now) kept ∙ has.store;
    numbers = numbers;
    next = next ∙ (λ i. max (is i + 1) (has.next i)) ∙ sym (next_more ports (cell_port links c));
    first = subst (λ f. Agree links f (map (λ (p : WritePort). p.clocking) (ports ++ cell_port links c ∷ []))) (sym first)
        (subst (Agree links (Some (unwrap_or old.first own))) (sym (map-append (λ (p : WritePort). p.clocking) ports (cell_port links c ∷ [])))
        (agree_more links (map (λ (p : WritePort). p.clocking) ports) (cell_port links c).clocking old.first own own_is has.first like));
  }

  clockings_more : (lines : List EventLine) (l : EventLine) → clockings_of links ports (lines ++ l ∷ []) ≡ clockings_of links ports lines ++ event_clocking links l.event ∷ []
  clockings_more lines l =
      ap (λ cs. map (λ (p : WritePort). p.clocking) ports ++ cs) (map-append (λ (k : EventLine). event_clocking links k.event) lines (l ∷ []))
      ∙ sym (append_assoc (map (λ (p : WritePort). p.clocking) ports) (map (λ (k : EventLine). event_clocking links k.event) lines) (event_clocking links l.event ∷ []))

  -- a line is noted
  pub line_noted : (lines : List EventLine) (l : EventLine) (n : ℕ) → n ≡ old.next → followed links own ≡ event_clocking links l.event → HasLines links old s ports lines → unlike links old.first (event_clocking links l.event) ≡ false
      → new.store ≡ old.store → new.next ≡ max (n + 1) old.next → new.first ≡ Some (unwrap_or old.first own)
      → HasLines links new s ports (lines ++ l ∷ [])
  line_noted lines l n is own_is has like kept next first = record {
    store = ap (λ (r : _). r.now) kept ∙ has.store;
    next =
        let had = has.next in
        let more = length-append lines (l ∷ []) in
        omega arith;
    first = subst (λ f. Agree links f (clockings_of links ports (lines ++ l ∷ []))) (sym first)
        (subst (Agree links (Some (unwrap_or old.first own))) (sym (clockings_more lines l))
        (agree_more links (clockings_of links ports lines) (event_clocking links l.event) old.first own own_is has.first like));
  }

-- all write cells of a module are noted, and no line
pub no_line : (links : List Link) (entry : Ports) (s : Store) (ports : List WritePort) → HasCells links entry s ports → HasLines links entry s ports []
no_line links entry s ports has = record {
  store = has.store;
  next = let had = has.next in omega arith;
  first = subst (Agree links entry.first) (sym (append-nil (map (λ (p : WritePort). p.clocking) ports))) has.first;
}
