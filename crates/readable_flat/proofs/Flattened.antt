-- One replacement after another leaves a module whose items a text can give.
use Rattle.std.proofs.Common.{◌≡◌, ℕ, zero, suc, ◌≤◌, Bool, true, false, cond, ◌&&◌, List, [], ◌∷◌, ◌++◌, length, map, Option, Some, None, inl, inr, refl, sym, ◌∙◌, ap, subst, arith}
use Rattle.std.specs.Prelude.{nat_le, unwrap_or}
use Rattle.std.specs.List.{All, IsDistinct}
use Rattle.std.proofs.lemmas.Bool.{and_parts, leb-true}
use Rattle.std.proofs.lemmas.List.Elements.{All-append, All-cons, All-nil, All-weaker}
use Rattle.rtl_sig.specs.Names.{AreDistinct}
use Rattle.rtl_ir.specs.declared.cell.Cell.{Cell}
use Rattle.rtl_ir.specs.declared.module.Module.{Module}
use Rattle.rtl_ir.specs.declared.wire.Wire.{Wire}
use Rattle.rtl_ir.specs.Build.{Building, building_of}
use Rattle.rtl_ir.specs.Empty.{empty_module}
use Rattle.rtl_ir.specs.Flat.Tree.{named}
use Rattle.net_index.specs.Builder.{IsInLimits, building_from}
use Rattle.net_index.specs.Numbering.{bit_count, widths_of}
use Rattle.net_model.specs.Within.{Each}
use Rattle.rtl_readable.specs.Readable.{IsCell, IsLink, IsName, IsParameter, IsProcess, IsStore, IsWire, item_names}
use Rattle.rtl_readable.proofs.Counting.{distinct_from_times, item_times, times_from_distinct}
use Rattle.rtl_readable.proofs.Grown.{grown_cell, grown_link, grown_process}
use Rattle.readable_laws.specs.Extends.{HasReadableItems}
use Rattle.readable_laws.proofs.Extending.{no_attributes}
use Rattle.flat_pass.specs.Flat.{after_one, child_of, first_instance, flat_after, flat_of, is_within, links_of, put_all, put_cell, put_store, put_wire, replaced, turn_by}
use Rattle.flat_pass.proofs.Closed.{stored, wired}
use Rattle.flat_pass.proofs.Fresh.{IsFresh, fresh_at_first}
use Rattle.flat_pass.proofs.Melted.{after, after_is, around, cells_new, copying_new, stores_new, wires_new}
use Rattle.flat_pass.proofs.OneGoes.{named_in}
use Rattle.flat_pass.proofs.Partners.{Paired, WireCopied, wire_name, wires_paired}
use Rattle.flat_pass.proofs.Taking.{Split, first_split, rest_in, some_same, taken_in}
use Rattle.readable_flat.proofs.Copies.{cells_read, cells_rise, renamed_read, stores_read, stores_rise, wires_read}
use Rattle.readable_flat.proofs.Distinct.{IsOpen, around_open, cells_open, stores_open, wires_open}
use Rattle.readable_flat.proofs.Links.{all_at, links_read}

each_all : {A : Type 0} (P : A → Type 0) (xs : List A) → Each P xs → All P xs
each_all P [] each = All-nil P
each_all P (x ∷ xs) each = All-cons P x xs (each x (inl refl)) (each_all P xs (λ y i. each y (inr i)))

-- ---- one replacement

module _ (bb : Building) (f : Cell) (rest : List Cell) (n : Module) (taken : Split f rest bb.body.cells) (own : HasReadableItems bb.body) (fresh : IsFresh bb) (child : HasReadableItems n) (few : (replaced n f (around bb f rest n)).next ≤ 1000000000) where
  few_cells : (put_all (put_cell (copying_new bb f rest n)) n.cells (stored n f (around bb f rest n))).next ≤ 1000000000
  unfolding replaced
  few_cells = few

  few_stores : (put_all (put_store f.name) n.memories (wired n f (around bb f rest n))).next ≤ 1000000000
  few_stores =
      omega (arith, few_cells, cells_rise (copying_new bb f rest n) n.cells (stored n f (around bb f rest n)))

  few_wires : (put_all (put_wire f.name) n.wires (around bb f rest n)).next ≤ 1000000000
  few_wires = omega (arith, few_stores, stores_rise f.name n.memories (wired n f (around bb f rest n)))

  instance_is : IsCell bb.body.wires f
  instance_is = all_at (IsCell bb.body.wires) bb.body.cells own.cells f (taken_in f rest bb.body.cells taken)

  paired : Paired WireCopied n.wires (wires_new bb f rest n)
  paired = wires_paired f.name n.wires (around bb f rest n)

  rest_cells : All (IsCell (bb.body.wires ++ wires_new bb f rest n)) rest
  rest_cells =
      All-weaker (IsCell bb.body.wires) (IsCell (bb.body.wires ++ wires_new bb f rest n)) (grown_cell (wires_new bb f rest n) bb.body.wires) rest
      (each_all (IsCell bb.body.wires) rest (λ c i. all_at (IsCell bb.body.wires) bb.body.cells own.cells c (rest_in f rest bb.body.cells taken c i)))

  new_cells : All (IsCell (bb.body.wires ++ wires_new bb f rest n)) (cells_new bb f rest n)
  new_cells =
      cells_read (copying_new bb f rest n) bb.body.wires (wires_new bb f rest n) n.wires paired refl
      (λ name h. renamed_read f.name n.memories (wired n f (around bb f rest n)) name instance_is.name child.memories few_stores h)
      instance_is.name n.cells (stored n f (around bb f rest n)) child.cells few_cells

  child_wires : AreDistinct (map wire_name n.wires)
  child_wires =
      distinct_from_times (map wire_name n.wires) (λ name. omega (arith, item_times name n, times_from_distinct (item_names n) child.distinct name))

  open_cells : IsOpen (put_all (put_cell (copying_new bb f rest n)) n.cells (stored n f (around bb f rest n)))
  open_cells =
      cells_open (copying_new bb f rest n) n.cells (stored n f (around bb f rest n))
      (stores_open f.name n.memories (wired n f (around bb f rest n))
      (wires_open f.name n.wires (around bb f rest n)
      (around_open bb f rest taken (record { fresh = fresh; distinct = own.distinct })) few_wires) few_stores) few_cells

  open_after : IsOpen (replaced n f (around bb f rest n))
  unfolding replaced
  open_after = record {
    fresh = record { positive = open_cells.fresh.positive; below = open_cells.fresh.below };
    distinct = open_cells.distinct;
  }

  after_items : HasReadableItems (after bb f rest n)
  after_items =
      let wires : List Wire = bb.body.wires ++ wires_new bb f rest n in
      record {
        id = own.id;
        attributes = own.attributes;
        parameters = own.parameters;
        wires = All-append IsWire bb.body.wires (wires_new bb f rest n) own.wires (wires_read f.name n.wires (around bb f rest n) instance_is.name child.wires few_wires);
        memories = All-append IsStore bb.body.memories (stores_new bb f rest n) own.memories (stores_read f.name n.memories (wired n f (around bb f rest n)) instance_is.name child.memories few_stores);
        cells = All-append (IsCell wires) rest (cells_new bb f rest n) rest_cells new_cells;
        processes = All-weaker (IsProcess bb.body.wires) (IsProcess wires) (grown_process (wires_new bb f rest n) bb.body.wires) bb.body.processes own.processes;
        links = All-append (IsLink wires) bb.body.links (links_of (length bb.body.wires) n f.pins)
            (All-weaker (IsLink bb.body.wires) (IsLink wires) (grown_link (wires_new bb f rest n) bb.body.wires) bb.body.links own.links)
            (links_read bb.body.wires (wires_new bb f rest n) n.wires paired f.pins instance_is.pins n refl child_wires child.wires child.links);
        distinct = subst (λ (m : Module). AreDistinct (item_names m)) (after_is bb f rest n) open_after.distinct;
      }

  pub items_after : HasReadableItems (replaced n f (around bb f rest n)).body
  items_after = subst HasReadableItems (sym (after_is bb f rest n)) after_items

  pub fresh_after : IsFresh (replaced n f (around bb f rest n))
  fresh_after = open_after.fresh

-- ---- a module that is within the limits

pub within_limits : (b : Building) → is_within b ≡ true → IsInLimits b
unfolding is_within
within_limits b e =
    let cells = and_parts (nat_le (length b.body.cells) 1048576) (nat_le (bit_count (widths_of b.body.wires)) 4194304 && nat_le b.next 1000000000) e in
    let bits = and_parts (nat_le (bit_count (widths_of b.body.wires)) 4194304) (nat_le b.next 1000000000) cells.1 in
    record {
      cells = leb-true (length b.body.cells) 1048576 cells.0;
      bits = leb-true (bit_count (widths_of b.body.wires)) 4194304 bits.0;
      names = leb-true b.next 1000000000 bits.1;
    }

-- ---- all replacements

-- a module in which there is nothing
nothing : (id : List ℕ) → IsName id → HasReadableItems (empty_module id)
unfolding IsDistinct
nothing id is = record {
  id = is;
  attributes = no_attributes;
  parameters = All-nil IsParameter;
  wires = All-nil IsWire;
  memories = All-nil IsStore;
  cells = All-nil (IsCell []);
  processes = All-nil (IsProcess []);
  links = All-nil (IsLink []);
  distinct = tt;
}

-- what is kept from one replacement to the next
record IsStep (b : Building) : Type 0 where
  items : HasReadableItems b.body
  fresh : IsFresh b

module _ (below : List Module) (readable : Each HasReadableItems below) where
  child_items : (id : List ℕ) → IsName id → HasReadableItems (child_of below id)
  child_items id is = by (named below id) refl
    where
      by : (o : Option Module) → named below id ≡ o → HasReadableItems (unwrap_or o (empty_module id))
      by None e = nothing id is
      by (Some n) e = readable n (named_in below id n e)

  one_step : (b : Building) (r : Cell × List Cell) → IsStep b → first_instance b.body.cells ≡ Some r → is_within (after_one below b r) ≡ true → IsStep (after_one below b r)
  one_step b r step e w = record {
    items = items_after b r.0 r.1 n taken step.items step.fresh items few;
    fresh = fresh_after b r.0 r.1 n taken step.items step.fresh items few;
  }
    where
      n : Module
      n = child_of below r.0.kind_name

      taken : Split r.0 r.1 b.body.cells
      taken = first_split b.body.cells r e

      items : HasReadableItems n
      items =
          child_items r.0.kind_name (all_at (IsCell b.body.wires) b.body.cells step.items.cells r.0 (taken_in r.0 r.1 b.body.cells taken)).kind_name

      few : (replaced n r.0 (around b r.0 r.1 n)).next ≤ 1000000000
      few = (within_limits (after_one below b r) w).names

  all_steps : (fuel : ℕ) (b : Building) (c : Module) → IsStep b → flat_after fuel below b ≡ Some c → HasReadableItems c
  unfolding flat_after
  all_steps zero b c step e = by (first_instance b.body.cells) e
    where
      none : (t : Bool) → cond t None None ≡ Some c → ⊥
      none true g = absurd cc
      none false g = absurd cc

      by : (o : Option (Cell × List Cell)) → turn_by (λ after. None) below b o ≡ Some c → HasReadableItems c
      by None g = subst HasReadableItems (some_same b.body c g) step.items
      by (Some r) g = absurd (none (is_within (after_one below b r)) g)
  all_steps (suc fuel) b c step e =
      by (first_instance b.body.cells) refl e (λ a s g. all_steps fuel a c s g)
    where
      one : (r : Cell × List Cell) (t : Bool) → first_instance b.body.cells ≡ Some r → is_within (after_one below b r) ≡ t → cond t (flat_after fuel below (after_one below b r)) None ≡ Some c → ((a : Building) → IsStep a → flat_after fuel below a ≡ Some c → HasReadableItems c) → HasReadableItems c
      one r true q w g later = later (after_one below b r) (one_step b r step q w) g
      one r false q w g later = absurd cc

      by : (o : Option (Cell × List Cell)) → first_instance b.body.cells ≡ o → turn_by (flat_after fuel below) below b o ≡ Some c → ((a : Building) → IsStep a → flat_after fuel below a ≡ Some c → HasReadableItems c) → HasReadableItems c
      by None q g later = subst HasReadableItems (some_same b.body c g) step.items
      by (Some r) q g later = one r (is_within (after_one below b r)) q refl g later

pub flat_reads : (below : List Module) (m n : Module) → HasReadableItems m → Each HasReadableItems below → flat_of below m ≡ Some n → HasReadableItems n
unfolding flat_of
flat_reads below m n is all e =
    all_steps below all 1048576 (building_of m) n (record { items = is; fresh = fresh_at_first m }) e

-- ---- and the limits

fits_after : (below : List Module) (fuel : ℕ) (b : Building) (c : Module) → IsInLimits (building_from 0 b.body) → flat_after fuel below b ≡ Some c → IsInLimits (building_from 0 c)
unfolding flat_after
fits_after below zero b c fits e = by (first_instance b.body.cells) e
  where
    none : (t : Bool) → cond t None None ≡ Some c → ⊥
    none true g = absurd cc
    none false g = absurd cc

    by : (o : Option (Cell × List Cell)) → turn_by (λ after. None) below b o ≡ Some c → IsInLimits (building_from 0 c)
    by None g = subst (λ (m : Module). IsInLimits (building_from 0 m)) (some_same b.body c g) fits
    by (Some r) g = absurd (none (is_within (after_one below b r)) g)
fits_after below (suc fuel) b c fits e = by (first_instance b.body.cells) e (λ a s g. fits_after below fuel a c s g)
  where
    one : (r : Cell × List Cell) (t : Bool) → is_within (after_one below b r) ≡ t → cond t (flat_after fuel below (after_one below b r)) None ≡ Some c → ((a : Building) → IsInLimits (building_from 0 a.body) → flat_after fuel below a ≡ Some c → IsInLimits (building_from 0 c)) → IsInLimits (building_from 0 c)
    one r true w g later =
        let limits = within_limits (after_one below b r) w in
        later (after_one below b r) (record { cells = limits.cells; bits = limits.bits; names = omega arith }) g
    one r false w g later = absurd cc

    by : (o : Option (Cell × List Cell)) → turn_by (flat_after fuel below) below b o ≡ Some c → ((a : Building) → IsInLimits (building_from 0 a.body) → flat_after fuel below a ≡ Some c → IsInLimits (building_from 0 c)) → IsInLimits (building_from 0 c)
    by None g later = subst (λ (m : Module). IsInLimits (building_from 0 m)) (some_same b.body c g) fits
    by (Some r) g later = one r (is_within (after_one below b r)) refl g later

pub flat_fits : (below : List Module) (m n : Module) → IsInLimits (building_from 0 m) → flat_of below m ≡ Some n → IsInLimits (building_from 0 n)
unfolding flat_of
flat_fits below m n fits e = fits_after below 1048576 (building_of m) n fits e

-- ---- and the processes, which stay

processes_kept : (below : List Module) (b : Building) (r : Cell × List Cell) → (after_one below b r).body.processes ≡ b.body.processes
processes_kept below b r =
    ap (λ (m : Module). m.processes) (after_is b r.0 r.1 (child_of below r.0.kind_name))

processes_after : (below : List Module) (fuel : ℕ) (b : Building) (c : Module) → flat_after fuel below b ≡ Some c → c.processes ≡ b.body.processes
unfolding flat_after
processes_after below zero b c e = by (first_instance b.body.cells) e
  where
    none : (t : Bool) → cond t None None ≡ Some c → ⊥
    none true g = absurd cc
    none false g = absurd cc

    by : (o : Option (Cell × List Cell)) → turn_by (λ after. None) below b o ≡ Some c → c.processes ≡ b.body.processes
    by None g = ap (λ (m : Module). m.processes) (sym (some_same b.body c g))
    by (Some r) g = absurd (none (is_within (after_one below b r)) g)
processes_after below (suc fuel) b c e =
    by (first_instance b.body.cells) e (λ a g. processes_after below fuel a c g)
  where
    one : (r : Cell × List Cell) (t : Bool) → cond t (flat_after fuel below (after_one below b r)) None ≡ Some c → ((a : Building) → flat_after fuel below a ≡ Some c → c.processes ≡ a.body.processes) → c.processes ≡ b.body.processes
    one r true g later = later (after_one below b r) g ∙ processes_kept below b r
    one r false g later = absurd cc

    by : (o : Option (Cell × List Cell)) → turn_by (flat_after fuel below) below b o ≡ Some c → ((a : Building) → flat_after fuel below a ≡ Some c → c.processes ≡ a.body.processes) → c.processes ≡ b.body.processes
    by None g later = ap (λ (m : Module). m.processes) (sym (some_same b.body c g))
    by (Some r) g later = one r (is_within (after_one below b r)) g later

pub flat_processes : (below : List Module) (m n : Module) → flat_of below m ≡ Some n → n.processes ≡ m.processes
unfolding flat_of
flat_processes below m n e = processes_after below 1048576 (building_of m) n e
