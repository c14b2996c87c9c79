-- A module that a pass may be given stays one with other cells and connections that have no faults and drive no bit more often.
use Rattle.std.proofs.Common.{◌≡◌, ◌≤◌, List, [], ◌++◌, length, refl, ap, arith}
use Rattle.rtl_sig.specs.declared.sig.WireBit.{WireBit}
use Rattle.rtl_ir.specs.Drivers.{drive_count, drives_of}
use Rattle.rtl_ir.specs.Fault.{Fault}
use Rattle.rtl_ir.specs.Faults.Bits.{bits_faults}
use Rattle.rtl_ir.specs.Faults.Cells.{cell_faults}
use Rattle.rtl_ir.specs.Faults.Processes.{process_faults}
use Rattle.rtl_ir.specs.Scope.{without_processes}
use Rattle.rtl_ir.specs.Types.{Ports}
use Rattle.rtl_ir.specs.declared.cell.Cell.{Cell}
use Rattle.rtl_ir.specs.declared.module.Link.{Link}
use Rattle.rtl_ir.specs.declared.module.Module.{Module}
use Rattle.net_model.specs.Within.{CellIn, Each, LinkIn}
use Rattle.pass_laws.specs.Bits.{cells_bits, links_bits}
use Rattle.pass_laws.specs.Ready.{IsReady}
use Rattle.pass_laws.specs.Replaces.{IsEven}
use Rattle.pass_laws.proofs.Accesses.{AreAccesses, accesses_stay, cells_access, cells_sound, none_there}
use Rattle.pass_laws.proofs.Alone.{IsSound, links_even, no_link_faults}
use Rattle.pass_laws.proofs.Counting.{count, driven_count, fewer_faults}
use Rattle.pass_laws.proofs.Faultless.{HasNoFaults, IsPlain, no_faults, plain}

-- a module with these cells and connections
abbrev pub with_body : List Cell → List Link → Module → Module
with_body cells links m = record m { cells = cells; links = links }

-- what other cells and connections of a module owe: no faults, wires of the module alone, and no bit driven more often
pub record IsBody (ports : Ports) (m : Module) (cs : List Cell) (ls : List Link) : Type 0 where
  pub cells : Each (IsSound ports) cs
  pub accesses : AreAccesses ports m [] cs
  pub links : Each IsEven ls
  pub cells_within : Each (CellIn (length m.wires)) cs
  pub links_within : Each (LinkIn (length m.wires)) ls
  pub fewer : (b : WireBit) → count b (cells_bits ports cs ++ links_bits ls) ≤ count b (cells_bits ports m.cells ++ links_bits m.links)

-- the cells and the connections of a module that a pass may be given
pub own_cells : (ports : Ports) (m : Module) → IsReady ports m → Each (IsSound ports) m.cells
own_cells ports m ready = cells_sound ports m [] m.cells (no_faults without_processes ports m ready.faultless).cells

pub own_accesses : (ports : Ports) (m : Module) → IsReady ports m → AreAccesses ports m [] m.cells
own_accesses ports m ready = cells_access ports m [] m.cells (no_faults without_processes ports m ready.faultless).cells

pub own_links : (ports : Ports) (m : Module) → IsReady ports m → Each IsEven m.links
own_links ports m ready = links_even m.id 1 m.links (no_faults without_processes ports m ready.faultless).links

pub all_none : {a b c d f g : List Fault} → a ≡ [] → b ≡ [] → c ≡ [] → d ≡ [] → f ≡ [] → g ≡ [] → ((((a ++ b) ++ c) ++ d) ++ f) ++ g ≡ []
all_none a b c d f g = λ i. ((((a i ++ b i) ++ c i) ++ d i) ++ f i) ++ g i

pub ready_with : (ports : Ports) (m : Module) → IsReady ports m → (cells : List Cell) (links : List Link) → IsBody ports m cells links → IsReady ports (with_body cells links m)
ready_with ports m ready cells links body = record {
  faultless = all_none none.wires none.stores cells_none processes (no_link_faults m.id 1 links body.links) bits;
  named = ready.named;
  within = record { cells = body.cells_within; links = body.links_within; processes = ready.within.processes };
  once = λ b. omega (arith, fewer b, ready.once b);
}
  where
    none : HasNoFaults without_processes ports m
    none = no_faults without_processes ports m ready.faultless

    fine : IsPlain m
    fine = plain ports m ready.faultless

    cells_none : cell_faults without_processes ports (with_body cells links m) [] cells ≡ []
    cells_none =
        none_there ports (with_body cells links m) [] cells body.cells (accesses_stay ports m (with_body cells links m) refl [] [] (λ name. refl) cells body.accesses)

    processes : process_faults without_processes ports (with_body cells links m) [] m.processes ≡ []
    processes = ap (process_faults without_processes ports (with_body cells links m) []) fine.processes

    fewer : (b : WireBit) → drive_count (drives_of ports (with_body cells links m)) b ≤ drive_count (drives_of ports m) b
    fewer b =
        let before = driven_count ports m fine.processes (own_links ports m ready) b in
        let after = driven_count ports (with_body cells links m) fine.processes body.links b in
        omega (arith, before, after, body.fewer b)

    bits : bits_faults m.id (drives_of ports (with_body cells links m)) 0 m.wires ≡ []
    bits = fewer_faults m.id (drives_of ports m) (drives_of ports (with_body cells links m)) fewer 0 m.wires none.bits
