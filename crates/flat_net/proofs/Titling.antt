-- Modules that are lent under names of their own.
use Rattle.std.proofs.Common.{◌≡◌, ℕ, zero, suc, ◌<◌, ◌≤◌, ◌-◌, List, [], ◌∷◌, ◌++◌, Bor, Some, drop, get_or, length, map, slice_get, refl, sym, ap, ◌∙◌, arith}
use Rattle.std.proofs.lemmas.List.{length-map}
use Rattle.std.proofs.lemmas.Option.{slice_get-get_or}
use Rattle.rtl_bits.specs.declared.bit.Bit.{Bit}
use Rattle.rtl_sig.specs.declared.sig.SigBit.{SigBit}
use Rattle.rtl_ir.specs.declared.module.Design.{Design}
use Rattle.rtl_ir.specs.declared.module.Module.{Module}
use Rattle.rtl_ir.specs.declared.process.Process.{Process}
use Rattle.rtl_ir.specs.declared.wire.Wire.{Wire}
use Rattle.rtl_ir.specs.Flat.Cell.{Ports, cells_rows}
use Rattle.rtl_ir.specs.Flat.Driver.{Driven}
use Rattle.rtl_ir.specs.Flat.Link.{link_rows}
use Rattle.rtl_ir.specs.Flat.Memory.{memories_rows}
use Rattle.rtl_ir.specs.Flat.Place.{Path}
use Rattle.rtl_ir.specs.Flat.Process.{processes_rows}
use Rattle.rtl_ir.specs.Flat.Rows.{rows_of}
use Rattle.rtl_ir.specs.Flat.Start.{start_of}
use Rattle.rtl_ir.specs.Flat.Tree.{design_ports, in_tree, named}
use Rattle.flat_net.specs.declared.modules.Entry.{Entry}
use Rattle.flat_net.specs.declared.titled.Titled.{Titled}
use Rattle.net_index.specs.Types.{Named, at_name}
use Rattle.flat_net.specs.Tables.{Stands, all_now, ports_in}
use Rattle.flat_net.specs.Titled.{HaveNoProcess, titled_module}
use Rattle.flat_net.proofs.Tabling.{Puts, entry_put}
use Rattle.flat_net.proofs.Treeing.{tree_like}

-- where there is no process, it does not matter in which module they stand
no_rows : (start : SigBit → Bit) (p : Path) (wires : List Wire) (m n : Module) (processes : List Process) → processes ≡ [] → processes_rows start p wires m processes ≡ processes_rows start p wires n processes
no_rows start p wires m n [] none = refl
no_rows start p wires m n (q ∷ processes) none = absurd cc

-- the rows of a module without processes do not tell its name
pub rows_under : (m : Module) (id : List ℕ) → m.processes ≡ [] → (ports : Ports) (p : Path) → rows_of ports p m ≡ rows_of ports p (record m { id = id })
rows_under m id none ports p =
    ap (λ (rows : List Driven). cells_rows (start_of m.wires m.processes) ports p m.wires m.cells ++ (link_rows p m.wires m.links ++ (rows ++ memories_rows p m.wires m.cells m.processes m.memories)))
    (no_rows (start_of m.wires m.processes) p m.wires m (record m { id = id }) m.processes none)

-- and so do not those of the module with its instances
pub tree_under : (d : Design) (n : ℕ) (p : Path) (m : Module) (id : List ℕ) → m.processes ≡ [] → in_tree d (rows_of (design_ports d)) n p m ≡ in_tree d (rows_of (design_ports d)) n p (record m { id = id })
tree_under d n p m id none = tree_like d n p m (record m { id = id }) (rows_under m id none) refl

-- what each of some modules has, the one at a place has
pub plain_at : (modules : List Titled) (at : ℕ) (t : Titled) → HaveNoProcess modules → slice_get modules at ≡ Some t → t.body.now.processes ≡ []
plain_at [] at t h is = absurd cc
plain_at (u ∷ modules) zero t h is = let same : t ≡ u = cc in ap (λ (k : Titled). k.body.now.processes) same ∙ h.0
plain_at (u ∷ modules) (suc at) t h is = plain_at modules at t h.1 is

-- the module at a place
pub titled_at : (modules : List Titled) (at : ℕ) (m : Module) → slice_get (map titled_module modules) at ≡ Some m → (t : Titled) × (slice_get modules at ≡ Some t) × (titled_module t ≡ m)
titled_at [] at m is = absurd cc
titled_at (t ∷ modules) zero m is = (t, refl, cc)
titled_at (t ∷ modules) (suc at) m is = titled_at modules at m is

there : (modules : List Titled) (k : ℕ) (t : Titled) → k < length modules → t ≡ get_or modules k t → slice_get modules k ≡ Some t
there modules k t lt own = slice_get-get_or modules k t lt ∙ ap Some (sym own)

-- the module at a place is the one that is lent there
pub titled_is : (modules : List Titled) (at : ℕ) (t : Titled) (m : Module) → at < length modules → t ≡ get_or modules at t → slice_get (map titled_module modules) at ≡ Some m → titled_module t ≡ m
titled_is modules at t m lt own is =
    let found = titled_at modules at m is in
    let both : Some t ≡ Some found.0 = sym (there modules at t lt own) ∙ found.1 in
    let same : t ≡ found.0 = cc in
    ap titled_module same ∙ found.2

pub plain_got : (modules : List Titled) (at : ℕ) (t : Titled) → HaveNoProcess modules → at < length modules → t ≡ get_or modules at t → t.body.now.processes ≡ []
plain_got modules at t plain lt own = plain_at modules at t plain (there modules at t lt own)

got_titled : (modules : List Titled) (k : ℕ) (t : Titled) → slice_get modules k ≡ Some t → titled_module t ≡ get_or (map titled_module modules) k (titled_module t)
got_titled [] k t is = absurd cc
got_titled (u ∷ modules) zero t is = let same : t ≡ u = cc in ap titled_module same
got_titled (u ∷ modules) (suc k) t is = got_titled modules k t is

-- a module that is lent goes before the others
pub titled_put : (old new : Named Entry) (key : Bor (List ℕ)) (t : Titled) (e : Entry) → Puts old new key e → key.now ≡ t.id.now → e.body.now ≡ t.body.now → all_now e.ports.items ≡ ports_in t.body.now.wires
    → (modules : List Titled) (at : ℕ) → HaveNoProcess modules → 0 < at → at ≤ length modules → t ≡ get_or modules (at - 1) t
    → ((name : List ℕ) → Stands (at_name old name) (named (drop at (map titled_module modules)) name))
    → (name : List ℕ) → Stands (at_name new name) (named (drop (at - 1) (map titled_module modules)) name)
titled_put old new key t e puts keyed body ports modules at plain some within own others =
    let is : slice_get modules (at - 1) ≡ Some t = there modules (at - 1) t (omega (arith, some, within)) own in
    entry_put old new key (titled_module t) e puts keyed
    (record {
      rows = λ over p. ap (rows_of over p) body ∙ rows_under t.body.now t.id.now (plain_at modules (at - 1) t plain is) over p;
      cells = ap (λ (m : Module). m.cells) body;
      ports = ports;
    })
    (map titled_module modules) at some (let long = length-map modules titled_module in omega (arith, within, long)) (got_titled modules (at - 1) t is) others
