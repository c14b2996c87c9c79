-- The whole netlist of the module that is run.
use Rattle.std.proofs.Common.{◌≡◌, ℕ, suc, ◌<◌, List, [], ◌∷◌, ◌++◌, length, Bor, Some, slice_get, refl, ◌∙◌, ap, subst, map}
use Rattle.std.specs.List.{AllByRecursion}
use Rattle.rtl_ir.specs.declared.module.Design.{Design}
use Rattle.rtl_ir.specs.declared.module.Module.{Module}
use Rattle.rtl_ir.specs.declared.wire.Role.TheVariants.{Input, Output}
use Rattle.rtl_ir.specs.declared.wire.Wire.{Wire}
use Rattle.rtl_ir.specs.Flat.Driver.{Driven}
use Rattle.rtl_ir.specs.Flat.Place.{frame}
use Rattle.rtl_ir.specs.Flat.Tree.{design_ports, driven_rows, given_rows, in_tree, output_places, places, role_points, root}
use Rattle.rtl_ir.specs.Ports.{line_of, ports_of}
use Rattle.flat_net.specs.declared.builder.Builder.{Builder}
use Rattle.flat_net.specs.declared.ends.Ends.{Ends}
use Rattle.flat_net.specs.declared.net.Net.{Net}
use Rattle.flat_net.specs.Adds.{Adds}
use Rattle.flat_net.specs.Ends.{IsEnds}
use Rattle.flat_net.specs.Known.{Known, Extends, nothing}
use Rattle.flat_net.specs.Net.{IsNetOf}
use Rattle.flat_net.specs.Points.{AreApart}
use Rattle.flat_net.specs.Reads.{AreNumbers, AreParts}
use Rattle.flat_net.specs.Tables.{all_now, ports_in}
use Rattle.rtl_ir.specs.Flat.Rows.{rows_of}
use Rattle.flat_net.specs.Within.{ArePartsWithin}
use Rattle.flat_net.proofs.Adding.{Adds-then, Adds-numbers}
use Rattle.flat_net.proofs.Reading.{AreNumbers-kept}

pub ends_are : (a b c : Known) (ends : Ends) (m : Module) (wires : List Wire) (ports : List (Bor Wire)) (lines : List (Bor Wire)) (name id : List ℕ) → Extends a b → Extends b c
    → slice_get a.paths ends.root ≡ Some (frame name id ∷ []) → name ≡ [] → id ≡ m.id → lines ≡ ports → all_now ports ≡ ports_in wires → wires ≡ m.wires
    → AreNumbers b.places ends.inputs (places (role_points Input (frame name id ∷ []) (map line_of (all_now lines))))
    → AreNumbers c.places ends.outputs (places (role_points Output (frame name id ∷ []) (map line_of (all_now lines)))) → IsEnds c ends m
ends_are a b c ends m wires ports lines name id f g path e h same found k inputs outputs =
    let here : frame name id ∷ [] ≡ root m = (λ i. frame (e i) (h i) ∷ []) in
    let all : map line_of (all_now lines) ≡ ports_of m.wires = ap (λ ws. map line_of (all_now ws)) same ∙ ap (map line_of) found ∙ ap ports_of k in
    record {
      root_is = g.paths _ _ (f.paths _ _ path) ∙ ap Some here;
      inputs_are = subst (AreNumbers c.places ends.inputs) (λ i. places (role_points Input (here i) (all i))) (AreNumbers-kept b.places c.places g.places _ _ inputs);
      outputs_are = subst (AreNumbers c.places ends.outputs) (λ i. places (role_points Output (here i) (all i))) outputs;
    }

-- inputs, and then the module with its instances
pub all_added : (a g t : Builder) (k : Known) (given tree : List Driven) → Extends a.places k → Adds (record { places = k; parts = a.parts }) g given → Adds g t tree → Adds a t (given ++ tree)
all_added a g t k given tree e h l = Adds-then a g t given tree (Adds-then a (record { places = k; parts = a.parts }) g [] given (Adds-numbers a _ e refl) h) l

pub is_net : (net : Net) (d : Design) (m : Module) (a b : Builder) (numbers : List ℕ) (at below : ℕ) → slice_get d.modules at ≡ Some m → suc below ≡ length d.modules
    → a.places ≡ nothing → a.parts.items ≡ []
    → Adds a b (given_rows (places (role_points Input (root m) (ports_of m.wires))) 0 ++ in_tree d (rows_of (design_ports d)) (suc below) (root m) m) → AreNumbers b.places.places numbers (output_places m)
    → AreApart b.places.places → length b.places.places ≡ net.count → net.parts ≡ b.parts.items → net.outputs ≡ numbers → IsNetOf net d m b.places.places
is_net net d m a b numbers at below is levels fresh none added outputs apart count parts outs =
    let start : AreParts a.places.places a.parts.items [] = rw none (record { are = refl; within = tt }) in
    let all = added.parts [] start in
    let rows : given_rows (places (role_points Input (root m) (ports_of m.wires))) 0 ++ in_tree d (rows_of (design_ports d)) (suc below) (root m) m ≡ driven_rows d m =
    ap (λ rows. given_rows (places (role_points Input (root m) (ports_of m.wires))) 0 ++ rows) (ap (λ n. in_tree d (rows_of (design_ports d)) n (root m) m) levels) in
    record {
      apart = apart;
      count = count;
      rows = rw parts (all.are ∙ rows);
      within = rw parts (subst (λ n. ArePartsWithin n b.parts.items) count all.within);
      outputs = rw outs outputs.are;
      outputs_within = rw outs (subst (λ n. AllByRecursion (λ number. number < n) numbers) count outputs.within);
    }
