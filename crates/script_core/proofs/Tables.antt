-- A module finds in its table of ports what the design has.
use Rattle.std.proofs.Common.{◌≡◌, List, [], ◌∷◌, ◌++◌, Bool, true, false, cond, Option, Some, None, Ordering, Less, Equal, Greater, inl, inr, refl, sym, ap, ◌∙◌}
use Rattle.std.specs.Prelude.{ℕ, map, filter, not, ◌&&◌, ◌||◌}
use Rattle.std.specs.List.{list_any, find}
use Rattle.std.specs.Option.{option_map, is_some}
use Rattle.std.specs.Ordering.{nat_cmp, match_ordering, is_eq}
use Rattle.std.specs.Cmp.Lexicographic.{slice_cmp}
use Rattle.std.specs.Str.{bytes_eq}
use Rattle.std.proofs.lemmas.Map.Text.{is_eq-slice_cmp}
use Rattle.std.proofs.lemmas.Slice.Eq.{bytes_eq-Decides}
use Rattle.cell_types.specs.declared.kind.CellKind.{CellKind}
use Rattle.cell_types.specs.Kind.{kind_of}
use Rattle.rtl_ir.specs.declared.cell.Cell.{Cell}
use Rattle.rtl_ir.specs.declared.module.Module.{Module}
use Rattle.rtl_ir.specs.declared.ports.ModulePorts.{ModulePorts}
use Rattle.rtl_ir.specs.Flat.Cell.{cell_kind, instance_of, instances, listed}
use Rattle.rtl_ir.specs.Flat.Tree.{named, ports_or_none, design_ports as flat_ports, listed_ports, table_ports as flat_table_ports}
use Rattle.rtl_ir.specs.Ports.{place_module, in_name_order, is_library_cell, instantiates, instances_of, ports_of, ports_by_module}
use Rattle.rtl_ir.specs.Types.{table_ports}
use Rattle.net_model.specs.Lists.{In}
use Rattle.net_model.specs.Refine.{AgreeOn}
use Rattle.script_core.specs.Reached.{table_of}

-- equal names
pub same_name : (x y : List ℕ) → bytes_eq x y ≡ true → x ≡ y
same_name x y e = (bytes_eq-Decides x y).0 e

pub name_same : (x : List ℕ) → bytes_eq x x ≡ true
name_same x = (bytes_eq-Decides x x).1 refl

-- a module put in order is found where its name is asked for
pub named_placed : (m : Module) (ms : List Module) (id : List ℕ) → named (place_module m ms) id ≡ cond (bytes_eq m.id id) (Some m) (named ms id)
named_placed m [] id = refl
named_placed m (n ∷ ns) id = by (slice_cmp nat_cmp m.id n.id) refl (named_placed m ns id)
  where
    equal : slice_cmp nat_cmp m.id n.id ≡ Equal → m.id ≡ n.id
    equal e = same_name m.id n.id (sym (is_eq-slice_cmp m.id n.id) ∙ ap is_eq e)

    shadowed : m.id ≡ n.id → (a : Bool) → bytes_eq m.id id ≡ a → cond a (Some m) (named ns id) ≡ cond a (Some m) (cond (bytes_eq n.id id) (Some n) (named ns id))
    shadowed same true e = refl
    shadowed same false e = ap (λ (t : Bool). cond t (Some n) (named ns id)) (sym e ∙ ap (λ (x : List ℕ). bytes_eq x id) same)

    apart : slice_cmp nat_cmp m.id n.id ≡ Greater → bytes_eq m.id id ≡ true → bytes_eq n.id id ≡ true → ⊥
    apart e p q =
        let both : m.id ≡ n.id = same_name m.id id p ∙ sym (same_name n.id id q) in
        let yes : true ≡ false = sym (name_same n.id) ∙ ap (λ (x : List ℕ). bytes_eq x n.id) (sym both) ∙ sym (is_eq-slice_cmp m.id n.id) ∙ ap is_eq e in
        absurd (cc)

    swapped : slice_cmp nat_cmp m.id n.id ≡ Greater → (a b : Bool) → bytes_eq m.id id ≡ a → bytes_eq n.id id ≡ b
        → cond b (Some n) (cond a (Some m) (named ns id)) ≡ cond a (Some m) (cond b (Some n) (named ns id))
    swapped e true true p q = absurd (apart e p q)
    swapped e true false p q = refl
    swapped e false true p q = refl
    swapped e false false p q = refl

    by : (o : Ordering) → slice_cmp nat_cmp m.id n.id ≡ o → named (place_module m ns) id ≡ cond (bytes_eq m.id id) (Some m) (named ns id)
        → named (match_ordering o (m ∷ n ∷ ns) (m ∷ ns) (n ∷ place_module m ns)) id ≡ cond (bytes_eq m.id id) (Some m) (cond (bytes_eq n.id id) (Some n) (named ns id))
    by Less e ih = refl
    by Equal e ih = shadowed (equal e) (bytes_eq m.id id) refl
    by Greater e ih = ap (cond (bytes_eq n.id id) (Some n)) ih ∙ swapped e (bytes_eq m.id id) (bytes_eq n.id id) refl refl

named_ordered : (ms : List Module) (id : List ℕ) → named (in_name_order ms) id ≡ named ms id
named_ordered [] id = refl
named_ordered (m ∷ ms) id = named_placed m (in_name_order ms) id ∙ ap (cond (bytes_eq m.id id) (Some m)) (named_ordered ms id)

-- .. and among the modules that are instantiated, where it is
named_filtered : (cells : List Cell) (ms : List Module) (id : List ℕ) → instantiates cells id ≡ true → named (filter (λ m. instantiates cells m.id) ms) id ≡ named ms id
named_filtered cells [] id h = refl
named_filtered cells (m ∷ ms) id h = by (instantiates cells m.id) (bytes_eq m.id id) refl refl (named_filtered cells ms id h)
  where
    by : (t a : Bool) → instantiates cells m.id ≡ t → bytes_eq m.id id ≡ a → named (filter (λ m. instantiates cells m.id) ms) id ≡ named ms id
        → named (cond t (m ∷ filter (λ m. instantiates cells m.id) ms) (filter (λ m. instantiates cells m.id) ms)) id ≡ cond (bytes_eq m.id id) (Some m) (named ms id)
    by true a e f ih = ap (cond (bytes_eq m.id id) (Some m)) ih
    by false true e f ih =
        let kept : false ≡ true = sym e ∙ ap (instantiates cells) (same_name m.id id f) ∙ h in
        absurd cc
    by false false e f ih = ih ∙ ap (λ (t : Bool). cond t (Some m) (named ms id)) (sym f)

-- the module of an instance, as the table has it
pub named_instance : (modules : List Module) (cells : List Cell) (id : List ℕ) → instantiates cells id ≡ true → named (instances_of modules cells) id ≡ named modules id
named_instance modules cells id h = named_ordered (filter (λ m. instantiates cells m.id) modules) id ∙ named_filtered cells modules id h

-- its ports, as the flat netlist has them
listed_named : (ms : List Module) (id : List ℕ) → listed_ports (map ports_by_module ms) id ≡ ports_or_none (named ms id)
listed_named [] id = refl
listed_named (m ∷ ms) id = by (bytes_eq m.id id) (listed_named ms id)
  where
    by : (t : Bool) → listed_ports (map ports_by_module ms) id ≡ ports_or_none (named ms id) → cond t (ports_of m.wires) (listed_ports (map ports_by_module ms) id) ≡ ports_or_none (cond t (Some m) (named ms id))
    by true ih = refl
    by false ih = ih

pub flat_instance : (modules : List Module) (m : Module) (id : List ℕ) → instantiates m.cells id ≡ true → flat_table_ports (table_of modules m) id ≡ flat_ports (record { modules = modules }) id
flat_instance modules m id h = listed_named (instances_of modules m.cells) id ∙ ap ports_or_none (named_instance modules m.cells id h)

-- .. and as the check has them
tabled_named : (ms : List Module) (id : List ℕ) → table_ports (map ports_by_module ms) id ≡ option_map (λ (m : Module). ports_of m.wires) (named ms id)
tabled_named [] id = refl
tabled_named (m ∷ ms) id = by (bytes_eq m.id id) (tabled_named ms id)
  where
    by : (t : Bool) → table_ports (map ports_by_module ms) id ≡ option_map (λ (m : Module). ports_of m.wires) (named ms id)
        → option_map (λ (n : ModulePorts). n.ports) (cond t (Some (ports_by_module m)) (find (λ (n : ModulePorts). bytes_eq n.id id) (map ports_by_module ms))) ≡ option_map (λ (m : Module). ports_of m.wires) (cond t (Some m) (named ms id))
    by true ih = refl
    by false ih = ih

pub table_instance : (modules : List Module) (m : Module) (id : List ℕ) → instantiates m.cells id ≡ true → table_ports (table_of modules m).modules id ≡ option_map (λ (n : Module). ports_of n.wires) (named modules id)
table_instance modules m id h = tabled_named (instances_of modules m.cells) id ∙ ap (option_map (λ (n : Module). ports_of n.wires)) (named_instance modules m.cells id h)

-- a cell of no kind of the library is an instance
among : (c : Cell) (cells : List Cell) → In c cells → list_any (λ d. bytes_eq c.kind_name d.kind_name) cells ≡ true
among c [] i = absurd i
among c (d ∷ ds) (inl e) = ap (λ (t : Bool). t || list_any (λ k. bytes_eq c.kind_name k.kind_name) ds) (ap (λ (k : Cell). bytes_eq c.kind_name k.kind_name) (sym e) ∙ name_same c.kind_name)
among c (d ∷ ds) (inr i) = by (bytes_eq c.kind_name d.kind_name) (among c ds i)
  where
    by : (t : Bool) → list_any (λ k. bytes_eq c.kind_name k.kind_name) ds ≡ true → (t || list_any (λ k. bytes_eq c.kind_name k.kind_name) ds) ≡ true
    by true h = refl
    by false h = h

pub instantiated : (c : Cell) (cells : List Cell) → In c cells → kind_of c.kind_name ≡ None → instantiates cells c.kind_name ≡ true
unfolding is_library_cell
instantiated c cells i e = ap (λ (k : Option CellKind). not (is_some k) && list_any (λ d. bytes_eq c.kind_name d.kind_name) cells) e ∙ among c cells i

-- the ports of all instances of a module are those of the design
agree_each : (modules : List Module) (m : Module) (cells : List Cell) → ((c : Cell) → In c cells → In c m.cells) → AgreeOn (flat_table_ports (table_of modules m)) (flat_ports (record { modules = modules })) (instances cells)
unfolding cell_kind
agree_each modules m [] h = tt
agree_each modules m (c ∷ cs) h = by (kind_of c.kind_name) refl (agree_each modules m cs (λ d i. h d (inr i)))
  where
    by : (k : Option CellKind) → kind_of c.kind_name ≡ k → AgreeOn (flat_table_ports (table_of modules m)) (flat_ports (record { modules = modules })) (instances cs)
        → AgreeOn (flat_table_ports (table_of modules m)) (flat_ports (record { modules = modules })) (listed (instance_of c k) ++ instances cs)
    by (Some kind) e ih = ih
    by None e ih = (flat_instance modules m c.kind_name (instantiated c m.cells (h c (inl refl)) e), ih)

pub agree : (modules : List Module) (m : Module) → AgreeOn (flat_table_ports (table_of modules m)) (flat_ports (record { modules = modules })) (instances m.cells)
agree modules m = agree_each modules m m.cells (λ c i. i)
