-- Steps that add to a module: none, two in turn, a wire, a cell, a cell with the wire that it drives, a connection.
use Rattle.std.proofs.Common.{◌≡◌, ℕ, zero, suc, ◌+◌, ◌<◌, ◌≤◌, List, [], ◌∷◌, ◌++◌, length, Some, refl, sym, ◌∙◌, ap, subst, append_assoc, arith}
use Rattle.std.specs.Prelude.{IsSomeAnd, map, slice_get}
use Rattle.std.specs.List.{All, IsDistinct, range_with_len}
use Rattle.std.proofs.lemmas.List.{append-nil, length-map}
use Rattle.std.proofs.lemmas.List.Elements.{All-append, All-cons, All-nil, All-weaker}
use Rattle.rtl_sig.specs.Names.{AreDistinct}
use Rattle.rtl_sig.specs.declared.sig.SigBit.{SigBit}
use Rattle.rtl_sig.specs.declared.sig.SigBit.TheVariants.{Wire as OnWire}
use Rattle.rtl_ir.specs.Build.{Building, building_of, fresh_wire, inner_wire, made_name, made_number, new_cell, new_driver, new_link, pin_of, whole}
use Rattle.rtl_ir.specs.Signals.{bits_of_wire}
use Rattle.rtl_ir.specs.declared.cell.Cell.{Cell}
use Rattle.rtl_ir.specs.declared.cell.CellParam.{CellParam}
use Rattle.rtl_ir.specs.declared.cell.Pin.{Pin}
use Rattle.rtl_ir.specs.declared.module.Link.{Link}
use Rattle.rtl_ir.specs.declared.module.Module.{Module}
use Rattle.rtl_ir.specs.declared.value.Attribute.{Attribute}
use Rattle.rtl_ir.specs.declared.wire.Wire.{Wire}
use Rattle.net_model.proofs.Members.{map-append}
use Rattle.rtl_readable.specs.Changing.{cell_names, times}
use Rattle.rtl_readable.specs.Readable.{AreAttributes, IsAttribute, IsBitOf, IsCell, IsCellParam, IsLink, IsName, IsPin, IsProcess, IsSignal, IsWire, item_names}
use Rattle.rtl_readable.proofs.Counting.{distinct_from_times, item_times, times_from_distinct, times_more}
use Rattle.rtl_readable.proofs.Grown.{grown_bit, grown_cell, grown_link, grown_pin, grown_process, grown_signal}
use Rattle.readable_laws.specs.Extends.{Extends, HasReadableItems, further, made_names, wire_names}
use Rattle.readable_laws.proofs.Fresh.{made_is_name, names_split, none_made, old_low, once_made}

-- what is good in a module is good in one that has more
module _ (b c : Building) (k : Extends b c) where
  wires_later : c.body.wires ≡ b.body.wires ++ k.fresh
  wires_later = ap (λ (m : Module). m.wires) k.body

  pub bit_later : (s : SigBit) → IsBitOf b.body.wires s → IsBitOf c.body.wires s
  bit_later s is = subst (λ ws. IsBitOf ws s) (sym wires_later) (grown_bit k.fresh b.body.wires s is)

  pub signal_later : (signal : List SigBit) → IsSignal b.body.wires signal → IsSignal c.body.wires signal
  signal_later signal is = subst (λ ws. IsSignal ws signal) (sym wires_later) (grown_signal k.fresh b.body.wires signal is)

  pub pins_later : (pins : List Pin) → All (IsPin b.body.wires) pins → All (IsPin c.body.wires) pins
  pins_later pins all =
      subst (λ ws. All (IsPin ws) pins) (sym wires_later) (All-weaker (IsPin b.body.wires) (IsPin (b.body.wires ++ k.fresh)) (grown_pin k.fresh b.body.wires) pins all)

  pub cells_later : (cells : List Cell) → All (IsCell b.body.wires) cells → All (IsCell c.body.wires) cells
  cells_later cells all =
      subst (λ ws. All (IsCell ws) cells) (sym wires_later) (All-weaker (IsCell b.body.wires) (IsCell (b.body.wires ++ k.fresh)) (grown_cell k.fresh b.body.wires) cells all)

  pub links_later : (links : List Link) → All (IsLink b.body.wires) links → All (IsLink c.body.wires) links
  links_later links all =
      subst (λ ws. All (IsLink ws) links) (sym wires_later) (All-weaker (IsLink b.body.wires) (IsLink (b.body.wires ++ k.fresh)) (grown_link k.fresh b.body.wires) links all)

pub extends_none : (b : Building) → Extends b b
extends_none b = record {
  fresh = [];
  cells = [];
  links = [];
  body = let none : further [] [] [] b.body ≡ b.body = λ i. record b.body { wires = append-nil b.body.wires i; cells = append-nil b.body.cells i; links = append-nil b.body.links i } in sym none;
  taken = 0;
  next = omega arith;
  names = λ name. omega arith;
  good = λ few. record { wires = All-nil IsWire; cells = All-nil (IsCell b.body.wires); links = All-nil (IsLink b.body.wires) };
}

pub extends_both : (a b c : Building) → Extends a b → Extends b c → Extends a c
extends_both a b c h k = record {
  fresh = h.fresh ++ k.fresh;
  cells = h.cells ++ k.cells;
  links = h.links ++ k.links;
  body =
      k.body
      ∙ ap (further k.fresh k.cells k.links) h.body
      ∙ (λ i. record a.body { wires = append_assoc a.body.wires h.fresh k.fresh i; cells = append_assoc a.body.cells h.cells k.cells i; links = append_assoc a.body.links h.links k.links i });
  taken = h.taken + k.taken;
  next = omega (arith, h.next, k.next);
  names = λ name.
      let split = names_split name a.next h.taken k.taken (h.taken + k.taken) refl in
      let from : times name (made_names (a.next + h.taken) k.taken) ≡ times name (made_names b.next k.taken) = ap (λ z. times name (made_names z k.taken)) (sym h.next) in
      let wires = ap (times name) (map-append (λ (w : Wire). w.name) h.fresh k.fresh) ∙ times_more name (wire_names h.fresh) (wire_names k.fresh) in
      let cells = ap (times name) (map-append (λ (d : Cell). d.name) h.cells k.cells) ∙ times_more name (cell_names h.cells) (cell_names k.cells) in
      omega (arith, split, from, wires, cells, h.names name, k.names name);
  good = λ few.
      let g = h.good (omega (arith, few, k.next)) in
      let i = k.good few in
      record {
        wires = All-append IsWire h.fresh k.fresh g.wires i.wires;
        cells = All-append (IsCell c.body.wires) h.cells k.cells (cells_later b c k h.cells g.cells) i.cells;
        links = All-append (IsLink c.body.wires) h.links k.links (links_later b c k h.links g.links) i.links;
      };
}

-- the whole signal of a wire
module _ (wires : List Wire) (wire : ℕ) (w : Wire) (is : slice_get wires wire ≡ Some w) where
  whole_from : (from n : ℕ) → from + n ≤ w.width → All (IsBitOf wires) (map OnWire (map (λ at. record { wire = wire; at = at }) (range_with_len from n)))
  whole_from from zero h = All-nil (IsBitOf wires)
  whole_from from (suc n) h =
      let here : from < w.width = omega (arith, h) in
      All-cons (IsBitOf wires) (OnWire (record { wire = wire; at = from })) _ (subst (λ o. IsSomeAnd o (λ (v : Wire). from < v.width)) (sym is) here) (whole_from (from + 1) n (omega (arith, h)))

range_long : (from n : ℕ) → length (range_with_len from n) ≡ n
range_long from zero = refl
range_long from (suc n) = omega (arith, range_long (from + 1) n)

whole_long : (wire width : ℕ) → length (whole wire width) ≡ width
whole_long wire width =
    length-map (bits_of_wire wire width) OnWire ∙ length-map (range_with_len 0 width) (λ at. record { wire = wire; at = at }) ∙ range_long 0 width

last_there : (wires : List Wire) (w : Wire) → slice_get (wires ++ w ∷ []) (length wires) ≡ Some w
last_there [] w = refl
last_there (v ∷ wires) w = last_there wires w

pub whole_signal : (wires : List Wire) (w : Wire) → w.width ≤ 1048576 → IsSignal (wires ++ w ∷ []) (whole (length wires) w.width)
whole_signal wires w narrow = record {
  bits = whole_from (wires ++ w ∷ []) (length wires) w (last_there wires w) 0 w.width (omega arith);
  width = omega (arith, whole_long (length wires) w.width, narrow);
}

-- a fresh wire of at least one bit
made_wire : (n width : ℕ) (attributes : List Attribute) → n < 1000000000 → 0 < width → width ≤ 1048576 → AreAttributes attributes → IsWire (inner_wire (made_name n) width attributes)
made_wire n width attributes few some narrow are = record {
  name = made_is_name n few;
  some = some;
  width = narrow;
  offset = refl;
  number = refl;
  inner = λ e. refl;
  attributes = are;
}

pub extends_wire : (width : ℕ) (attributes : List Attribute) (b : Building) → 0 < width → width ≤ 1048576 → AreAttributes attributes → Extends b (fresh_wire width attributes b).1
extends_wire width attributes b some narrow are = record {
  fresh = inner_wire (made_name b.next) width attributes ∷ [];
  cells = [];
  links = [];
  body = λ i. record b.body { wires = b.body.wires ++ inner_wire (made_name b.next) width attributes ∷ []; cells = sym (append-nil b.body.cells) i; links = sym (append-nil b.body.links) i };
  taken = 1;
  next = refl;
  names = λ name. omega arith;
  good = λ few. record {
    wires = All-cons IsWire _ [] (made_wire b.next width attributes (omega (arith, few)) some narrow are) (All-nil IsWire);
    cells = All-nil (IsCell (fresh_wire width attributes b).1.body.wires);
    links = All-nil (IsLink (fresh_wire width attributes b).1.body.wires);
  };
}

-- the type and the parameters of a new cell, and the names of its pins
pub record IsNewCell (kind : List ℕ) (params : List CellParam) (pins : List (List ℕ)) : Type 0 where
  pub kind_name : IsName kind
  pub values : All IsCellParam params
  pub distinct_params : AreDistinct (map (λ (p : CellParam). p.name) params)
  pub distinct_pins : AreDistinct pins

pub no_attributes : AreAttributes []
unfolding IsDistinct
no_attributes = record { each = All-nil IsAttribute; distinct = tt }

-- a new cell with pins over these wires
made_cell : (wires : List Wire) (n : ℕ) (kind : List ℕ) (params : List CellParam) (pins : List Pin) → n < 1000000000 → IsNewCell kind params (map (λ (p : Pin). p.name) pins) → All (IsPin wires) pins
    → IsCell wires (record { kind_name = kind; name = made_name n; params = params; pins = pins; attributes = [] })
made_cell wires n kind params pins few is all = record {
  kind_name = is.kind_name;
  name = made_is_name n few;
  params = is.values;
  distinct_params = is.distinct_params;
  pins = all;
  distinct_pins = is.distinct_pins;
  attributes = no_attributes;
}

pub extends_cell : (kind : List ℕ) (params : List CellParam) (pins : List Pin) (b : Building) → IsNewCell kind params (map (λ (p : Pin). p.name) pins) → All (IsPin b.body.wires) pins → Extends b (new_cell kind params pins b)
extends_cell kind params pins b is all = record {
  fresh = [];
  cells = record { kind_name = kind; name = made_name b.next; params = params; pins = pins; attributes = [] } ∷ [];
  links = [];
  body = λ i. record b.body { wires = sym (append-nil b.body.wires) i; cells = b.body.cells ++ record { kind_name = kind; name = made_name b.next; params = params; pins = pins; attributes = [] } ∷ []; links = sym (append-nil b.body.links) i };
  taken = 1;
  next = refl;
  names = λ name. omega arith;
  good = λ few. record {
    wires = All-nil IsWire;
    cells = All-cons (IsCell b.body.wires) _ [] (made_cell b.body.wires b.next kind params pins (omega (arith, few)) is all) (All-nil (IsCell b.body.wires));
    links = All-nil (IsLink b.body.wires);
  };
}

-- a new cell that drives a fresh wire
pub extends_driver : (kind : List ℕ) (params : List CellParam) (pins : List Pin) (output : List ℕ) (width : ℕ) (b : Building)
    → IsNewCell kind params (map (λ (p : Pin). p.name) (pins ++ pin_of output (whole (length b.body.wires) width) ∷ [])) → All (IsPin b.body.wires) pins → IsName output → 0 < width → width ≤ 1048576
    → Extends b (new_driver kind params pins output width b).1
extends_driver kind params pins output width b is all named some narrow =
    let w : Wire = inner_wire (made_name (b.next + 1)) width [] in
    let out : Pin = pin_of output (whole (length b.body.wires) width) in
    let c : Cell = record { kind_name = kind; name = made_name b.next; params = params; pins = pins ++ out ∷ []; attributes = [] } in
    let wires : List Wire = b.body.wires ++ w ∷ [] in
    record {
      fresh = w ∷ [];
      cells = c ∷ [];
      links = [];
      body = λ i. record b.body { wires = wires; cells = b.body.cells ++ c ∷ []; links = sym (append-nil b.body.links) i };
      taken = 2;
      next = omega arith;
      names = λ name. omega arith;
      good = λ few. record {
        wires = All-cons IsWire w [] (made_wire (b.next + 1) width [] (omega (arith, few)) some narrow no_attributes) (All-nil IsWire);
        cells = All-cons (IsCell wires) c []
            (made_cell wires b.next kind params (pins ++ out ∷ []) (omega (arith, few)) is
            (All-append (IsPin wires) pins (out ∷ []) (All-weaker (IsPin b.body.wires) (IsPin wires) (grown_pin (w ∷ []) b.body.wires) pins all)
            (All-cons (IsPin wires) out [] (record { name = named; sig = whole_signal b.body.wires w narrow }) (All-nil (IsPin wires)))))
            (All-nil (IsCell wires));
        links = All-nil (IsLink wires);
      };
    }

-- the signal of the fresh wire
pub driver_signal : (kind : List ℕ) (params : List CellParam) (pins : List Pin) (output : List ℕ) (width : ℕ) (b : Building) → width ≤ 1048576
    → IsSignal (new_driver kind params pins output width b).1.body.wires (new_driver kind params pins output width b).0
driver_signal kind params pins output width b narrow = whole_signal b.body.wires (inner_wire (made_name (b.next + 1)) width []) narrow

pub wire_signal : (width : ℕ) (attributes : List Attribute) (b : Building) → width ≤ 1048576 → IsSignal (fresh_wire width attributes b).1.body.wires (fresh_wire width attributes b).0
wire_signal width attributes b narrow = whole_signal b.body.wires (inner_wire (made_name b.next) width attributes) narrow

-- a connection
pub extends_link : (left right : List SigBit) (b : Building) → IsSignal b.body.wires left → IsSignal b.body.wires right → Extends b (new_link left right b)
extends_link left right b l r = record {
  fresh = [];
  cells = [];
  links = record { left = left; right = right } ∷ [];
  body = λ i. record b.body { wires = sym (append-nil b.body.wires) i; cells = sym (append-nil b.body.cells) i; links = b.body.links ++ record { left = left; right = right } ∷ [] };
  taken = 0;
  next = omega arith;
  names = λ name. omega arith;
  good = λ few. record {
    wires = All-nil IsWire;
    cells = All-nil (IsCell b.body.wires);
    links = All-cons (IsLink b.body.wires) _ [] (record { left = l; right = r }) (All-nil (IsLink b.body.wires));
  };
}

-- no name stands twice
named_once : (a b : Building) → 0 < a.next → ((name : List ℕ) → 1 ≤ times name (item_names a.body) → made_number name < a.next) → HasReadableItems a.body → (e : Extends a b) → a.next + e.taken ≤ 1000000000 → (name : List ℕ) → times name (item_names (further e.fresh e.cells e.links a.body)) ≤ 1
named_once a b some lower is e short name =
    let old = item_times name a.body in
    let new = item_times name (further e.fresh e.cells e.links a.body) in
    let wires = ap (times name) (map-append (λ (w : Wire). w.name) a.body.wires e.fresh) ∙ times_more name (wire_names a.body.wires) (wire_names e.fresh) in
    let cells = ap (times name) (map-append (λ (d : Cell). d.name) a.body.cells e.cells) ∙ times_more name (cell_names a.body.cells) (cell_names e.cells) in
    let all : times name (item_names (further e.fresh e.cells e.links a.body)) ≤ times name (item_names a.body) + times name (made_names a.next e.taken) = omega (arith, old, new, wires, cells, e.names name) in
    by (times name (item_names a.body)) refl all
  where
    by : (n : ℕ) → times name (item_names a.body) ≡ n → times name (item_names (further e.fresh e.cells e.links a.body)) ≤ times name (item_names a.body) + times name (made_names a.next e.taken) → times name (item_names (further e.fresh e.cells e.links a.body)) ≤ 1
    by zero f h = omega (arith, once_made name a.next e.taken some short, f, h)
    by (suc n) f h =
        omega (arith, none_made name a.next e.taken some short (lower name (omega (arith, f))), times_from_distinct (item_names a.body) is.distinct name, h)

-- a module that a text can give is one with what a step adds, where the names that it has are those of smaller numbers
pub extended_from : (a b : Building) → 0 < a.next → ((name : List ℕ) → 1 ≤ times name (item_names a.body) → made_number name < a.next) → HasReadableItems a.body → Extends a b → b.next ≤ 1000000000 → HasReadableItems b.body
extended_from a b some lower is e few =
    let all = e.good few in
    let wires : List Wire = a.body.wires ++ e.fresh in
    let are : b.body.wires ≡ wires = ap (λ (m : Module). m.wires) e.body in
    subst HasReadableItems (sym e.body) (record {
      id = is.id;
      attributes = is.attributes;
      parameters = is.parameters;
      wires = All-append IsWire a.body.wires e.fresh is.wires all.wires;
      memories = is.memories;
      cells = All-append (IsCell wires) a.body.cells e.cells (All-weaker (IsCell a.body.wires) (IsCell wires) (grown_cell e.fresh a.body.wires) a.body.cells is.cells) (subst (λ ws. All (IsCell ws) e.cells) are all.cells);
      processes = All-weaker (IsProcess a.body.wires) (IsProcess wires) (grown_process e.fresh a.body.wires) a.body.processes is.processes;
      links = All-append (IsLink wires) a.body.links e.links (All-weaker (IsLink a.body.wires) (IsLink wires) (grown_link e.fresh a.body.wires) a.body.links is.links) (subst (λ ws. All (IsLink ws) e.links) are all.links);
      distinct = distinct_from_times (item_names (further e.fresh e.cells e.links a.body)) (λ name. named_once a b some lower is e (omega (arith, few, e.next)) name);
    })

pub extended : (m : Module) (b : Building) → HasReadableItems m → Extends (building_of m) b → b.next ≤ 1000000000 → HasReadableItems b.body
extended m b is e few = extended_from (building_of m) b (omega arith) (λ name h. old_low name m h) is e few
