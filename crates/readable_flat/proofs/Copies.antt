-- The copies of wires, memories and cells are such as a text can give.
use Rattle.std.proofs.Common.{◌≡◌, ℕ, ◌≤◌, Bool, true, false, cond, List, [], ◌∷◌, ◌++◌, length, map, Option, Some, None, refl, sym, ap, subst, arith}
use Rattle.std.specs.List.{All}
use Rattle.std.specs.Str.{bytes_eq}
use Rattle.std.proofs.lemmas.List.Elements.{All-cons, All-head, All-map, All-nil, All-tail, All-weaker}
use Rattle.rtl_sig.specs.Names.{AreDistinct}
use Rattle.cell_types.specs.declared.kind.CellKind.{CellKind}
use Rattle.cell_types.specs.declared.kind.CellKind.TheVariants.{Gate, Memory, Storage, StorageGate, Word}
use Rattle.cell_types.specs.declared.param_name.ParamName.TheVariants.{Memid}
use Rattle.cell_types.specs.ParamName.{param_text}
use Rattle.rtl_ir.specs.declared.cell.Cell.{Cell}
use Rattle.rtl_ir.specs.declared.cell.CellParam.{CellParam}
use Rattle.rtl_ir.specs.declared.cell.Pin.{Pin}
use Rattle.rtl_ir.specs.declared.store.Store.{Store}
use Rattle.rtl_ir.specs.declared.value.Value.{Value}
use Rattle.rtl_ir.specs.declared.value.Value.TheVariants.{Bits, Chars, Int}
use Rattle.rtl_ir.specs.declared.wire.Wire.{Wire}
use Rattle.rtl_ir.specs.Build.{Building}
use Rattle.rtl_ir.specs.Flat.Cell.{cell_kind}
use Rattle.rtl_readable.specs.Readable.{IsCell, IsCellParam, IsConstant, IsName, IsPin, IsStore, IsWire}
use Rattle.flat_pass.specs.Copies.{Copying, copied_params, copied_pin, renamed, renamed_param, renamed_value}
use Rattle.flat_pass.specs.Flat.{copy_name, dotted, next_after, put_all, put_cell, put_store, put_wire, store_copies}
use Rattle.flat_pass.proofs.Closed.{cell_copies, stores_copied, wire_copies}
use Rattle.flat_pass.proofs.Fresh.{all_rises, cell_adds, store_adds, wire_adds}
use Rattle.flat_pass.proofs.Partners.{Paired, WireCopied, store_name}
use Rattle.readable_flat.proofs.Names.{copy_is_name, copy_short, name_chars}
use Rattle.readable_flat.proofs.Signals.{pin_copied}

-- ---- fresh names of the copies so far

pub wires_rise : (instance : List ℕ) (ws : List Wire) (b : Building) → b.next ≤ (put_all (put_wire instance) ws b).next
wires_rise instance ws b = all_rises (put_wire instance) (λ (w : Wire). w.name) instance (λ w b. refl) (wire_adds instance) ws b

pub stores_rise : (instance : List ℕ) (ss : List Store) (b : Building) → b.next ≤ (put_all (put_store instance) ss b).next
stores_rise instance ss b = all_rises (put_store instance) (λ (s : Store). s.name) instance (λ s b. refl) (store_adds instance) ss b

pub cells_rise : (k : Copying) (cs : List Cell) (b : Building) → b.next ≤ (put_all (put_cell k) cs b).next
cells_rise k cs b = all_rises (put_cell k) (λ (c : Cell). c.name) k.instance (λ c b. refl) (cell_adds k) cs b

-- ---- wires and memories

pub wires_read : (instance : List ℕ) (ws : List Wire) (b : Building) → IsName instance → All IsWire ws → (put_all (put_wire instance) ws b).next ≤ 1000000000 → All IsWire (wire_copies instance ws b)
wires_read instance [] b is all few = All-nil IsWire
wires_read instance (w ∷ ws) b is all few =
    let own = All-head IsWire w ws all in
    let low : next_after b (dotted instance w.name) ≤ 1000000000 = omega (arith, few, wires_rise instance ws (put_wire instance w b)) in
    All-cons IsWire _ (wire_copies instance ws (put_wire instance w b))
    (record {
      name = copy_is_name b instance w.name low is own.name;
      some = own.some;
      width = own.width;
      offset = own.offset;
      number = refl;
      inner = λ e. refl;
      attributes = own.attributes;
    })
    (wires_read instance ws (put_wire instance w b) is (All-tail IsWire w ws all) few)

pub stores_read : (instance : List ℕ) (ss : List Store) (b : Building) → IsName instance → All IsStore ss → (put_all (put_store instance) ss b).next ≤ 1000000000 → All IsStore (stores_copied instance ss b)
stores_read instance [] b is all few = All-nil IsStore
stores_read instance (s ∷ ss) b is all few =
    let own = All-head IsStore s ss all in
    let low : next_after b (dotted instance s.name) ≤ 1000000000 = omega (arith, few, stores_rise instance ss (put_store instance s b)) in
    All-cons IsStore _ (stores_copied instance ss (put_store instance s b))
    (record {
      name = copy_is_name b instance s.name low is own.name;
      some = own.some;
      width = own.width;
      size = own.size;
      offset = own.offset;
      attributes = own.attributes;
    })
    (stores_read instance ss (put_store instance s b) is (All-tail IsStore s ss all) few)

-- ---- the string that names a memory

pub renamed_read : (instance : List ℕ) (ss : List Store) (b : Building) (name : List ℕ) → IsName instance → All IsStore ss → (put_all (put_store instance) ss b).next ≤ 1000000000 → IsConstant (Chars name) → IsConstant (Chars (renamed (map store_name ss) (store_copies instance ss b) name))
renamed_read instance [] b name is all few h = h
renamed_read instance (s ∷ ss) b name is all few h =
    by (bytes_eq s.name name) refl
    (renamed_read instance ss (put_store instance s b) name is (All-tail IsStore s ss all) few h)
  where
    new : List ℕ
    new = copy_name b (dotted instance s.name)

    rest : List ℕ
    rest = renamed (map store_name ss) (store_copies instance ss (put_store instance s b)) name

    by : (t : Bool) → bytes_eq s.name name ≡ t → IsConstant (Chars rest) → IsConstant (Chars (cond t new rest))
    by false e later = later
    by true e later =
        let low : next_after b (dotted instance s.name) ≤ 1000000000 = omega (arith, few, stores_rise instance ss (put_store instance s b)) in
        let named : IsName s.name = (All-head IsStore s ss all).name in
        (name_chars new (copy_is_name b instance s.name low is named), omega (arith, copy_short b instance s.name low))

-- ---- parameters and pins

module _ (k : Copying) (strings : (name : List ℕ) → IsConstant (Chars name) → IsConstant (Chars (renamed k.memories k.copies name))) where
  value_read : (v : Value) → IsConstant v → IsConstant (renamed_value k v)
  value_read (Bits bits signed) h = h
  value_read (Int n) h = h
  value_read (Chars name) h = strings name h

  param_read : (p : CellParam) → IsCellParam p → IsCellParam (renamed_param k p)
  param_read p is = by (bytes_eq p.name (param_text Memid))
    where
      by : (t : Bool) → IsCellParam (cond t (record p { value = renamed_value k p.value }) p)
      by true = record { name = is.name; value = value_read p.value is.value }
      by false = is

  pub params_read : (kind : Option CellKind) (params : List CellParam) → All IsCellParam params → All IsCellParam (copied_params k kind params)
  params_read None params all = all
  params_read (Some (Word kind)) params all = all
  params_read (Some (Gate kind)) params all = all
  params_read (Some (Storage kind)) params all = all
  params_read (Some (StorageGate kind)) params all = all
  params_read (Some (Memory kind)) params all =
      All-map IsCellParam (renamed_param k) params (All-weaker IsCellParam (λ (p : CellParam). IsCellParam (renamed_param k p)) param_read params all)

renamed_named : (k : Copying) (p : CellParam) → (renamed_param k p).name ≡ p.name
renamed_named k p = by (bytes_eq p.name (param_text Memid))
  where
    by : (t : Bool) → (cond t (record p { value = renamed_value k p.value }) p).name ≡ p.name
    by true = refl
    by false = refl

all_named : (k : Copying) (params : List CellParam) → map (λ (p : CellParam). p.name) (map (renamed_param k) params) ≡ map (λ (p : CellParam). p.name) params
all_named k [] = refl
all_named k (p ∷ params) = λ i. renamed_named k p i ∷ all_named k params i

params_named : (k : Copying) (kind : Option CellKind) (params : List CellParam) → map (λ (p : CellParam). p.name) (copied_params k kind params) ≡ map (λ (p : CellParam). p.name) params
params_named k None params = refl
params_named k (Some (Word kind)) params = refl
params_named k (Some (Gate kind)) params = refl
params_named k (Some (Storage kind)) params = refl
params_named k (Some (StorageGate kind)) params = refl
params_named k (Some (Memory kind)) params = all_named k params

pins_named : (first : ℕ) (pins : List Pin) → map (λ (p : Pin). p.name) (map (copied_pin first) pins) ≡ map (λ (p : Pin). p.name) pins
pins_named first [] = refl
pins_named first (p ∷ pins) = ap (λ z. p.name ∷ z) (pins_named first pins)

-- ---- cells

module _ (k : Copying) (own new ws : List Wire) (paired : Paired WireCopied ws new) (at : k.first ≡ length own) (strings : (name : List ℕ) → IsConstant (Chars name) → IsConstant (Chars (renamed k.memories k.copies name))) (is : IsName k.instance) where
  pins_read : (pins : List Pin) → All (IsPin ws) pins → All (IsPin (own ++ new)) (map (copied_pin k.first) pins)
  pins_read pins all =
      subst (λ n. All (IsPin (own ++ new)) (map (copied_pin n) pins)) (sym at)
      (All-map (IsPin (own ++ new)) (copied_pin (length own)) pins (All-weaker (IsPin ws) (λ (p : Pin). IsPin (own ++ new) (copied_pin (length own) p)) (pin_copied own new ws paired) pins all))

  pub cells_read : (cs : List Cell) (b : Building) → All (IsCell ws) cs → (put_all (put_cell k) cs b).next ≤ 1000000000 → All (IsCell (own ++ new)) (cell_copies k cs b)
  cells_read [] b all few = All-nil (IsCell (own ++ new))
  cells_read (c ∷ cs) b all few =
      let cell = All-head (IsCell ws) c cs all in
      let low : next_after b (dotted k.instance c.name) ≤ 1000000000 = omega (arith, few, cells_rise k cs (put_cell k c b)) in
      All-cons (IsCell (own ++ new)) _ (cell_copies k cs (put_cell k c b))
      (record {
        kind_name = cell.kind_name;
        name = copy_is_name b k.instance c.name low is cell.name;
        params = params_read k strings (cell_kind c) c.params cell.params;
        distinct_params = subst AreDistinct (sym (params_named k (cell_kind c) c.params)) cell.distinct_params;
        pins = pins_read c.pins cell.pins;
        distinct_pins = subst AreDistinct (sym (pins_named k.first c.pins)) cell.distinct_pins;
        attributes = cell.attributes;
      })
      (cells_read cs (put_cell k c b) (All-tail (IsCell ws) c cs all) few)
