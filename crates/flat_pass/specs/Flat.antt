-- The pass `flatten`: one instance after another is replaced by the body of its module.
use Rattle.std.specs.Prelude.{ℕ, zero, suc, ◌+◌, pos, nat_le, Bool, not, ◌&&◌, List, [], ◌∷◌, ◌++◌, length, map, drop, codes, flat_map, is_none, Option, Some, None, option_map, unwrap_or, if◌then◌else◌}
use Rattle.std.specs.List.{position_or_len}
use Rattle.std.specs.Str.{bytes_eq}
use Rattle.rtl_sig.specs.declared.sig.SigBit.{SigBit}
use Rattle.rtl_sig.specs.Names.{has_name}
use Rattle.rtl_ir.specs.declared.cell.Cell.{Cell}
use Rattle.rtl_ir.specs.declared.cell.Pin.{Pin}
use Rattle.rtl_ir.specs.declared.module.Link.{Link}
use Rattle.rtl_ir.specs.declared.module.Module.{Module}
use Rattle.rtl_ir.specs.declared.ports.PortLine.{PortLine}
use Rattle.rtl_ir.specs.declared.store.Store.{Store}
use Rattle.rtl_ir.specs.declared.wire.Role.{Role}
use Rattle.rtl_ir.specs.declared.wire.Role.TheVariants.{Inner, Input, Output}
use Rattle.rtl_ir.specs.declared.wire.Wire.{Wire}
use Rattle.rtl_ir.specs.Build.{Building, building_of, made_name, module_names, whole}
use Rattle.rtl_ir.specs.Empty.{empty_module}
use Rattle.rtl_ir.specs.Flat.Cell.{cell_kind}
use Rattle.rtl_ir.specs.Flat.Tree.{named}
use Rattle.rtl_ir.specs.Parameters.{signal_at}
use Rattle.rtl_ir.specs.Ports.{ports_of}
use Rattle.rtl_ir.specs.Rules.{has_item}
use Rattle.net_index.specs.Numbering.{bit_count, widths_of}
use Rattle.flat_pass.specs.Copies.{Copying, copied_link, copied_params, copied_pin}

-- the name that a copy is meant to have: the instance's name, a dot, and the item's name without its first byte
abbrev pub dotted : List ℕ → List ℕ → List ℕ
dotted instance name = instance ++ (codes "." ++ drop 1 name)

-- a name is not longer than 1,024 bytes, and no item of a module has it
abbrev pub is_free : Module → List ℕ → Bool
is_free m name = nat_le (length name) 1024 && not (has_name (module_names m) name)

-- the name that a copy gets: the one that it is meant to have where that is free, else a fresh one
abbrev pub copy_name : Building → List ℕ → List ℕ
copy_name b name = if is_free b.body name then name else made_name b.next

-- the number of the next fresh name after that
abbrev pub next_after : Building → List ℕ → ℕ
next_after b name = if is_free b.body name then b.next else b.next + 1

-- the copy of a wire goes last: it is no port, and keeps its other fields
abbrev pub put_wire : List ℕ → Wire → Building → Building
put_wire instance w b = record {
  body = record b.body {
    wires = b.body.wires ++ record w { name = copy_name b (dotted instance w.name); role = Inner; number = pos 0 } ∷ [];
  };
  next = next_after b (dotted instance w.name);
}

-- the copy of a memory goes last
abbrev pub put_store : List ℕ → Store → Building → Building
put_store instance s b = record {
  body = record b.body { memories = b.body.memories ++ record s { name = copy_name b (dotted instance s.name) } ∷ [] };
  next = next_after b (dotted instance s.name);
}

-- the copy of a cell goes last, on the copied wires, and of the copied memory where it is a cell of one
abbrev pub put_cell : Copying → Cell → Building → Building
put_cell k c b = record {
  body = record b.body {
    cells =
        b.body.cells
        ++ record c {
          name = copy_name b (dotted k.instance c.name);
          params = copied_params k (cell_kind c) c.params;
          pins = map (copied_pin k.first) c.pins;
        }
        ∷ [];
  };
  next = next_after b (dotted k.instance c.name);
}

-- items are put one after another
abbrev pub put_all : {A : Type 0} → (A → Building → Building) → List A → Building → Building
put_all put [] b = b
put_all put (x ∷ xs) b = put_all put xs (put x b)

-- connections go last
abbrev pub put_links : List Link → Building → Building
put_links links b = record b { body = record b.body { links = b.body.links ++ links } }

-- the copied wire of a port: an input is driven from the pin, an output drives it
abbrev pub role_links : Role → List SigBit → List SigBit → List Link
role_links Input pin wire = record { left = wire; right = pin } ∷ []
role_links Output pin wire = record { left = pin; right = wire } ∷ []
role_links role pin wire = []

-- the place of the wire of a name
abbrev pub place_of_wire : List Wire → List ℕ → ℕ
place_of_wire wires name = position_or_len (λ (w : Wire). bytes_eq w.name name) wires

-- the same of a pin that has bits; a pin without bits has no connection
abbrev pub pin_links : Role → List SigBit → List SigBit → List Link
pin_links role pin wire = if has_item pin then role_links role pin wire else []

-- the connection of a port, where the copied wires stand from this place on
abbrev pub port_links : ℕ → List Wire → List Pin → PortLine → List Link
port_links first wires pins port =
    pin_links port.role (signal_at pins port.name) (whole (first + place_of_wire wires port.name) port.width)

-- the connections that come with an instance: copies of the child's own, and those of its ports in order of number
abbrev pub links_of : ℕ → Module → List Pin → List Link
links_of first child pins =
    map (copied_link first) child.links ++ flat_map (port_links first child.wires pins) (ports_of child.wires)

-- the names that copies of memories get, one after another
abbrev pub store_copies : List ℕ → List Store → Building → List (List ℕ)
store_copies instance [] b = []
store_copies instance (s ∷ ss) b =
    copy_name b (dotted instance s.name) ∷ store_copies instance ss (put_store instance s b)

-- what the copies of a child's cells go by, where the copied wires stand from this place on and memories come next
abbrev pub copying_of : List ℕ → ℕ → Module → Building → Copying
copying_of instance first child b = record {
  instance = instance;
  first = first;
  memories = map (λ (s : Store). s.name) child.memories;
  copies = store_copies instance child.memories b;
}

-- an instance of a child, whose cell is gone, is replaced by copies of the child's items
unfoldable pub replaced : Module → Cell → Building → Building
replaced child c b =
    let first = length b.body.wires in
    let wired = put_all (put_wire c.name) child.wires b in
    let stored = put_all (put_store c.name) child.memories wired in
    let celled = put_all (put_cell (copying_of c.name first child wired)) child.cells stored in
    put_links (links_of first child c.pins) celled

-- the first instance in the order of cells, and the cells without it
abbrev pub first_instance : List Cell → Option (Cell × List Cell)
first_instance [] = None
first_instance (c ∷ cells) =
    if is_none (cell_kind c) then Some (c, cells)
    else option_map (λ (r : Cell × List Cell). (r.0, c ∷ r.1)) (first_instance cells)

-- the module of a name, one in which there is nothing where none has it
abbrev pub child_of : List Module → List ℕ → Module
child_of below id = unwrap_or (named below id) (empty_module id)

-- a module with other cells
abbrev pub with_cells : List Cell → Building → Building
with_cells cells b = record b { body = record b.body { cells = cells } }

-- the module after one replacement, of this instance before these cells
abbrev pub after_one : List Module → Building → Cell × List Cell → Building
after_one below b r = replaced (child_of below r.0.kind_name) r.0 (with_cells r.1 b)

-- a module that is added to is within the limits on cells, on bits of wires and on the numbers of fresh names
unfoldable pub is_within : Building → Bool
is_within b =
    nat_le (length b.body.cells) 1048576
    && (nat_le (bit_count (widths_of b.body.wires)) 4194304 && nat_le b.next 1000000000)

-- the rest is done with the module after one replacement, where there is an instance and it is within the limits then
abbrev pub turn_by : (Building → Option Module) → List Module → Building → Option (Cell × List Cell) → Option Module
turn_by left below b None = Some b.body
turn_by left below b (Some r) = if is_within (after_one below b r) then left (after_one below b r) else None

-- the module once it has no instance, after at most so many replacements; None where one of them passes a limit or one
-- more is due
unfoldable pub flat_after : ℕ → List Module → Building → Option Module
flat_after zero below b = turn_by (λ after. None) below b (first_instance b.body.cells)
flat_after (suc n) below b = turn_by (flat_after n below) below b (first_instance b.body.cells)

-- the module after the pass, over the modules that it reaches; None where it is over
unfoldable pub flat_of : List Module → Module → Option Module
flat_of below m = flat_after 1048576 below (building_of m)
