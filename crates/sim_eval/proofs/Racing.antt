-- What bits that hold, and bits of processes with two edges, have.
use Rattle.std.proofs.Common.{◌≡◌, Bool, true, false, Some, List, [], ◌∷◌, length, get_or, map, refl, sym, ◌∙◌, ap, subst}
use Rattle.std.specs.List.{AllByRecursion, list_all}
use Rattle.std.proofs.lemmas.Bool.{and_parts}
use Rattle.rtl_bits.specs.declared.bit.Bit.{Bit}
use Rattle.rtl_bits.specs.declared.bit.Bit.TheVariants.{X}
use Rattle.cell_gate.specs.Control.{active_of, edge_of, pick_of, was_of}
use Rattle.cell_types.specs.declared.level.Level.{Level}
use Rattle.rtl_ir.specs.Flat.Place.{Place}
use Rattle.net_model.specs.declared.order.Order.TheVariants.{Together, Released}
use Rattle.net_model.specs.Order.{Manner}
use Rattle.net_model.specs.Picked.{held_of}
use Rattle.net_model.specs.Race.{raced_of}
use Rattle.net_model.specs.Run as run
use Rattle.net_model.specs.Valuation.{read}
use Rattle.net_model.specs.Value.{clocked_at, edge_at, level_bit, value_of}
use Rattle.flat_net.specs.declared.choices.Tree.{Tree}
use Rattle.flat_net.specs.declared.leaves.HeldBit.{HeldBit}
use Rattle.flat_net.specs.declared.leaves.Raced.{Raced}
use Rattle.flat_net.specs.declared.net.Point.{Point}
use Rattle.flat_net.specs.Parts.{held_row, raced_row, value_pick}
use Rattle.flat_net.specs.Points.{AreApart, place_at, point_of}
use Rattle.flat_net.specs.Within.{IsHeldBitWithin, IsPointWithin}
use Rattle.sim_eval.specs.declared.clocked.Clocked.{Clocked}
use Rattle.sim_eval.specs.declared.raced.Race.{Race}
use Rattle.sim_eval.specs.declared.walk.Leaves.TheVariants.{Marks, Owned, Values}
use Rattle.sim_eval.specs.Advance.{Advances}
use Rattle.sim_eval.specs.Leaves.{comes_to}
use Rattle.sim_eval.specs.Numbers.{number_read}
use Rattle.sim_eval.specs.Race.{AreRaced, IsClocked, IsRace, held_has, raced_fact, start_fact}
use Rattle.sim_eval.specs.Shown.{shown}
use Rattle.sim_eval.specs.Walk.{followed, leaf_of}
use Rattle.sim_eval.proofs.Bridges.{read_same}
use Rattle.sim_eval.proofs.Expanding.{source_same}
use Rattle.sim_eval.proofs.Tables.{found_at}
use Rattle.sim_eval.proofs.Taking.{advances_known, advances_more, advances_none, fact_of}

-- a bit that may hold
pub held_same : (ps : List Place) (before inputs values : List Bit) (manner : Manner) (tree : Tree) (b : HeldBit) (holds old new value : Bit) → AreApart ps → length ps ≡ length before → length ps ≡ length values → IsHeldBitWithin (length ps) tree.width b → holds ≡ comes_to ps values X (Marks b.number) tree.root tree.width b.source → old ≡ get_or before b.number X → new ≡ number_read values b.source.from → value ≡ held_of holds old new → value_of (held_row ps tree b).driver (run.Step (shown ps before) inputs manner) (shown ps values) ≡ value
held_same ps before inputs values manner tree b holds old new value apart was same within mark o n is =
    let old_is = found_at X ps before b.number apart was within.0 ∙ sym o in
    let new_is = read_same ps values apart same b.source.from within.1.0 ∙ sym n in
    (λ i. held_of (sym mark i) (old_is i) (new_is i)) ∙ sym is

-- the edge of a point
pub edge_same : (ps : List Place) (before now : List Bit) (first : Bool) (p : Point) (level : Level) → AreApart ps → length ps ≡ length before → length ps ≡ length now → IsPointWithin (length ps) p → edge_of (active_of level (was_of first (number_read before p))) (active_of level (number_read now p)) ≡ edge_at (shown ps before) (shown ps now) first (point_of ps p) level
edge_same ps before now first p level apart was same within =
    let b = read_same ps before apart was p within in
    let n = read_same ps now apart same p within in
    (λ i. edge_of (active_of level (was_of first (sym b i))) (active_of level (sym n i)))

-- what the tree bits come to may be said of another bit that the reset equals
pub raced_at_reset : (ps : List Place) (before : List Bit) (raced : Raced) (a b : Bit) (bits : List Bit) → a ≡ b → AreRaced ps before raced a bits → AreRaced ps before raced b bits
raced_at_reset ps before raced a b bits e h = subst (λ z. AreRaced ps before raced z bits) e h

-- a bit of a process with two edges
pub raced_same : (ps : List Place) (before now : List Bit) (first : Bool) (raced : Raced) (race : Race) (b : HeldBit) (was is active old value : Bit) → AreApart ps → length ps ≡ length before → IsRace ps before first raced now race → IsHeldBitWithin (length ps) raced.tree.width b → was ≡ followed (leaf_of Values before) (Some race.was.items) b.source → is ≡ followed (leaf_of Values before) (Some race.is.items) b.source → active ≡ followed (leaf_of Values before) (Some race.active.items) b.source → old ≡ get_or before b.number X → value ≡ raced_of race.clock_edge race.reset_edge was is active old → value ≡ (raced_fact ps before Together first raced now b).value
raced_same ps before now first raced race b was is active old value apart same h within w s a o v =
    let root = raced.tree.root in
    let width = raced.tree.width in
    let was_is = w ∙ source_same ps before apart same (was_of first (read (shown ps before) (point_of ps raced.reset))) Values tt root width race.was.items h.was b.source within.1 in
    let is_is = s ∙ source_same ps before apart same (read (shown ps now) (point_of ps raced.reset)) Values tt root width race.is.items h.is b.source within.1 in
    let active_is = a ∙ source_same ps before apart same (level_bit raced.reset_level) Values tt root width race.active.items h.active b.source within.1 in
    let old_is = o ∙ sym (found_at X ps before b.number apart same within.0) in
    v ∙ (λ i. raced_of (h.clock_edge i) (h.reset_edge i) (was_is i) (is_is i) (active_is i) (old_is i))

-- what the clock makes of a bit of a process with two edges whose clock acts before the reset
abbrev pub taken_at : List Place → List Bit → Clocked → HeldBit → Bit
taken_at ps before clocked b =
    pick_of clocked.edge (followed (leaf_of Values before) (Some clocked.was.items) b.source) (get_or before b.number X)

-- such a bit, where this is its value under the active reset
pub clocked_same : (ps : List Place) (before now : List Bit) (first : Bool) (raced : Raced) (clocked : Clocked) (b : HeldBit) (under value : Bit) → AreApart ps → length ps ≡ length before → IsClocked ps before first raced now clocked → IsHeldBitWithin (length ps) raced.tree.width b
    → under ≡ comes_to ps before (level_bit raced.reset_level) (Owned b.number (taken_at ps before clocked b)) raced.tree.root raced.tree.width b.source
    → value ≡ pick_of clocked.active under (taken_at ps before clocked b)
    → value ≡ (raced_fact ps before Released first raced now b).value
clocked_same ps before now first raced clocked b under value apart same h within u v =
    let root = raced.tree.root in
    let width = raced.tree.width in
    let reset = level_bit raced.reset_level in
    let was_is = source_same ps before apart same (was_of first (read (shown ps before) (point_of ps raced.reset))) Values tt root width clocked.was.items h.was b.source within.1 in
    let old_is = sym (found_at X ps before b.number apart same within.0) in
    let taken_is : taken_at ps before clocked b ≡ clocked_at (shown ps before) (shown ps now) first (point_of ps raced.clock) raced.clock_level (point_of ps raced.reset) (value_pick ps raced.tree b) (place_at ps b.number) = (λ i. pick_of (h.edge i) (was_is i) (old_is i)) in
    v
    ∙ (ap (λ z. pick_of clocked.active z (taken_at ps before clocked b)) u
    ∙ (λ i. pick_of (h.active i) (comes_to ps before reset (Owned b.number (taken_is i)) root width b.source) (taken_is i)))

-- the facts of the bits of a process with two edges: before the first step
pub facts_started : (ps : List Place) (raced : Raced) (now : List Bit) (bits : List HeldBit) → map (start_fact ps) bits ≡ map (fact_of run.Start (shown ps now)) (map (raced_row ps raced) bits)
facts_started ps raced now [] = refl
facts_started ps raced now (b ∷ bits) = ap (λ z. start_fact ps b ∷ z) (facts_started ps raced now bits)

-- and in a step
pub facts_raced : (ps : List Place) (before inputs : List Bit) (manner : Manner) (raced : Raced) (now : List Bit) (bits : List HeldBit) → map (raced_fact ps before manner.order manner.first raced now) bits ≡ map (fact_of (run.Step (shown ps before) inputs manner) (shown ps now)) (map (raced_row ps raced) bits)
facts_raced ps before inputs manner raced now [] = refl
facts_raced ps before inputs manner raced now (b ∷ bits) =
    ap (λ z. raced_fact ps before manner.order manner.first raced now b ∷ z) (facts_raced ps before inputs manner raced now bits)

-- bits that have values are led nowhere
pub advances_had : (ps : List Place) (t : run.Time Place) (raced : Raced) (now : List Bit) → AreApart ps → length ps ≡ length now → (bits : List HeldBit) → AllByRecursion (IsHeldBitWithin (length ps) raced.tree.width) bits → list_all (held_has now) bits ≡ true → Advances ps t (map (raced_row ps raced) bits) now now false
advances_had ps t raced now apart same [] h e = advances_none ps t now
advances_had ps t raced now apart same (b ∷ bits) h e =
    let p = and_parts (held_has now b) (list_all (held_has now) bits) e in
    advances_more ps t (raced_row ps raced b ∷ []) (map (raced_row ps raced) bits) now now now false false
    (advances_known ps t (raced_row ps raced b) now b.number apart same h.0.0 refl p.0)
    (advances_had ps t raced now apart same bits h.1 p.1)
