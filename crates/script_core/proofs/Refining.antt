-- What a script makes of a module without faults refines it, and so the cold run of a design refines the design.
use Rattle.std.proofs.Common.{◌≡◌, ◌⊎◌, ⊎_elim, ℕ, suc, zero, Bool, true, false, List, [], ◌∷◌, Option, Some, inl, inr, refl, sym, ap, subst, ◌∙◌}
use Rattle.std.specs.Prelude.{slice_get, map, unwrap_or}
use Rattle.std.specs.Option.{option_map}
use Rattle.rtl_ir.specs.declared.module.Design.{Design}
use Rattle.rtl_ir.specs.declared.module.Module.{Module}
use Rattle.rtl_ir.specs.declared.ports.ModulePorts.{ModulePorts}
use Rattle.rtl_ir.specs.Faults.{check_faults}
use Rattle.rtl_ir.specs.Scope.{everything}
use Rattle.rtl_ir.specs.Flat.Cell.{Ports, instances}
use Rattle.rtl_ir.specs.Flat.Tree.{design_ports}
use Rattle.rtl_ir.specs.Flat.Tree.{table_ports as flat_ports}
use Rattle.rtl_ir.specs.Ports.{instances_of, port_table_of, ports_by_module, ports_of}
use Rattle.rtl_readable.specs.Readable.{IsReadable, IsReadableModule}
use Rattle.rtl_write.specs.PortTables.{ArePorts}
use Rattle.rtl_write.proofs.BodyLaws.{readable_named, body_kept}
use Rattle.rtl_write.proofs.PortTableLemmas.{readable_table}
use Rattle.rtl_write.specs.Text.{body_text, text_of}
use Rattle.rtl_write.specs.Ports.{ports_text}
use Rattle.net_model.specs.Lists.{In}
use Rattle.net_model.specs.Refine.{AgreeOn, EachRefines, IsWellDriven, Refines, RefinesIn}
use Rattle.net_model.proofs.Composing.{each_refines}
use Rattle.check_laws.proofs.Accepted.{accepted}
use Rattle.check_laws.proofs.Readable.{sound}
use Rattle.pass_laws.specs.Pass.{IsPass}
use Rattle.pass_laws.proofs.Agreeing.{driven_agree}
use Rattle.script_core.specs.declared.outcome.Outcome.{Outcome}
use Rattle.script_core.specs.declared.outcome.Outcome.TheVariants.{Done}
use Rattle.script_core.specs.declared.word.Word.{Word}
use Rattle.script_core.specs.Built.{body_name, unnamed, IsValueOf}
use Rattle.script_core.specs.Cold.{named, outcome_of, cold, IsNetlist}
use Rattle.script_core.specs.Reached.{below_of, table_of}
use Rattle.script_core.specs.Words.{flattens}
use Rattle.script_core.proofs.BelowReadable.{readable_below}
use Rattle.script_core.proofs.FlatRuns.{flat_gates, flat_refines, maps_after, outcome_leaves, outcome_same}
use Rattle.script_core.proofs.FlatRuns.{own_gates as flat_own_gates}
use Rattle.script_core.proofs.FoldLemmas.{fold_plain}
use Rattle.script_core.proofs.Processed.{refines_over}
use Rattle.script_core.specs.Fold.{MayGoOn, StartsWithProc, fold_script}
use Rattle.script_core.specs.Keys.{key_of}
use Rattle.script_core.proofs.BuildLemmas.{readable_in}
use Rattle.script_core.proofs.Given.{given_first}
use Rattle.script_core.proofs.Stepping.{fold_leaves, fold_passes}
use Rattle.script_core.proofs.Gating.{fold_gates}
use Rattle.script_core.specs.Mapping.{maps_all}
use Rattle.gate_laws.specs.Instances.{HaveSameInstances}
use Rattle.gate_laws.proofs.Netlists.{gates_netlist}
use Rattle.tech_map.specs.Gates.{HasGatesAlone}
use Rattle.net_model.specs.Gates.{is_gate_netlist}
use Rattle.net_model.specs.Within.{Each}
use Rattle.script_core.proofs.Tables.{agree}
use Rattle.script_core.proofs.Renaming.{fold_renamed}

-- ---- modules of accepted designs

-- a script that does not flatten
module _ (d : Design) (readable : IsReadable d) (none : check_faults d.modules ≡ []) (script : List Word) (stage : StartsWithProc script) (plain : flattens script ≡ false) where
  -- the module of a design under any name, and what the script makes of it
  module_pass : (m : Module) → In m d.modules → (name : List ℕ) (n : Module) → fold_script script (table_of d.modules m) (below_of script d.modules m.cells) (record m { id = name }) ≡ Done n → IsPass (table_of d.modules m) (record m { id = name }) n
  module_pass m i name n e =
      fold_passes script (table_of d.modules m) (record m { id = name }) n stage (given_first d readable none m i name)
      (sym (fold_plain script (table_of d.modules m) (below_of script d.modules m.cells) (record m { id = name }) plain) ∙ e)

  -- under its own name
  pub own_pass : (m : Module) → In m d.modules → (n : Module) → outcome_of script d.modules m ≡ Done n → IsPass (table_of d.modules m) m n
  own_pass m i n e =
      module_pass m i m.id n (fold_renamed m.id script (table_of d.modules m) (below_of script d.modules m.cells) (unnamed m) ∙ e)

  each_pass : (bs cs : List Module) → ((b : Module) → In b bs → In b d.modules) → map (outcome_of script d.modules) bs ≡ map Done cs → EachRefines (design_ports d) bs cs
  each_pass [] [] h e = tt
  each_pass [] (c ∷ cs) h e = absurd cc
  each_pass (b ∷ bs) [] h e = absurd cc
  each_pass (b ∷ bs) (c ∷ cs) h e =
      let first : outcome_of script d.modules b ≡ Done c = cc in
      let rest : map (outcome_of script d.modules) bs ≡ map Done cs = cc in
      let pass = own_pass b (h b (inl refl)) c first in
      let well = (accepted everything d (sound d readable) none).modules b (h b (inl refl)) in
      let ports : Ports = flat_ports (table_of d.modules b) in
      let same = agree d.modules b in
      ((pass.id, pass.ports, well, pass.driven (design_ports d) same well, refines_over b c ports (design_ports d) same pass.refines), each_pass bs cs (λ x i. h x (inr i)) rest)

  pub plain_refines : (n : Design) → IsNetlist (cold script d) n → Refines d n
  plain_refines n e =
      each_refines d.modules n.modules (accepted everything d (sound d readable) none).ids (each_pass d.modules n.modules (λ b i. i) e)

  -- nothing but gates and instances is left, where the script maps all
  own_gates : maps_all script ≡ true → (m : Module) → In m d.modules → (n : Module) → outcome_of script d.modules m ≡ Done n → HasGatesAlone n
  own_gates all m i n e =
      fold_gates script (table_of d.modules m) (record m { id = m.id }) n stage all (given_first d readable none m i m.id)
      (sym (fold_plain script (table_of d.modules m) (below_of script d.modules m.cells) (record m { id = m.id }) plain) ∙ fold_renamed m.id script (table_of d.modules m) (below_of script d.modules m.cells) (unnamed m) ∙ e)

  each_gates : maps_all script ≡ true → (bs cs : List Module) → ((b : Module) → In b bs → In b d.modules) → map (outcome_of script d.modules) bs ≡ map Done cs → HaveSameInstances bs cs × Each HasGatesAlone cs
  each_gates all [] [] h e = (tt, λ n i. absurd i)
  each_gates all [] (c ∷ cs) h e = absurd cc
  each_gates all (b ∷ bs) [] h e = absurd cc
  each_gates all (b ∷ bs) (c ∷ cs) h e =
      let first : outcome_of script d.modules b ≡ Done c = cc in
      let rest : map (outcome_of script d.modules) bs ≡ map Done cs = cc in
      let pass = own_pass b (h b (inl refl)) c first in
      let gates = own_gates all b (h b (inl refl)) c first in
      let later = each_gates all bs cs (λ x i. h x (inr i)) rest in
      ((pass.id, pass.instances, later.0), λ n i. ⊎_elim (λ same. subst HasGatesAlone (sym same) gates) (λ j. later.1 n j) i)

  pub plain_gates : maps_all script ≡ true → (n : Design) → IsNetlist (cold script d) n → is_gate_netlist n ≡ true
  plain_gates all n e =
      let each = each_gates all d.modules n.modules (λ b i. i) e in
      gates_netlist everything d n none each.0 each.1

-- what is so of a module that a script made of a module of a design
pub record IsMade (d : Design) (m n : Module) : Type 0 where
  pub id : m.id ≡ n.id
  pub ports : ports_of m.wires ≡ ports_of n.wires
  -- it may be given to each pass
  pub next : MayGoOn (table_of d.modules m) n
  -- no bit of it has two drivers, over the ports of the design
  pub driven : IsWellDriven (design_ports d) n
  -- it has the instances that the module had, or none
  pub instances : (instances m.cells ≡ instances n.cells) ⊎ (instances n.cells ≡ [])

pub outcome_made : (d : Design) → IsReadable d → check_faults d.modules ≡ [] → (script : List Word) → StartsWithProc script → (m : Module) → In m d.modules → (n : Module) → outcome_of script d.modules m ≡ Done n → IsMade d m n
outcome_made d readable none script stage m i n e = by (flattens script) refl
  where
    by : (t : Bool) → flattens script ≡ t → IsMade d m n
    by true flat =
        let all = outcome_leaves d readable none script flat m i n e in
        let same = outcome_same d readable none script flat m i n e in
        record {
          id = same.0;
          ports = same.1;
          next = all.0;
          driven = driven_agree (flat_ports (table_of d.modules m)) (design_ports d) n
              (subst (AgreeOn (flat_ports (table_of d.modules m)) (design_ports d)) (sym all.1) tt) all.0.driven;
          instances = inr all.1;
        }
    by false plain =
        let pass = own_pass d readable none script stage plain m i n e in
        record {
          id = pass.id;
          ports = pass.ports;
          next = fold_leaves script (table_of d.modules m) (record m { id = m.id }) n stage (given_first d readable none m i m.id)
              (sym (fold_plain script (table_of d.modules m) (below_of script d.modules m.cells) (record m { id = m.id }) plain) ∙ fold_renamed m.id script (table_of d.modules m) (below_of script d.modules m.cells) (unnamed m) ∙ e);
          driven = pass.driven (design_ports d) (agree d.modules m) ((accepted everything d (sound d readable) none).modules m i);
          instances = inl pass.instances;
        }

pub outcome_gates : (d : Design) → IsReadable d → check_faults d.modules ≡ [] → (script : List Word) → StartsWithProc script → maps_all script ≡ true → (m : Module) → In m d.modules → (n : Module) → outcome_of script d.modules m ≡ Done n → HasGatesAlone n
outcome_gates d readable none script stage all m i n e = by (flattens script) refl
  where
    by : (t : Bool) → flattens script ≡ t → HasGatesAlone n
    by true flat = (flat_own_gates d readable none script flat (maps_after script stage flat all) m i n e).0
    by false plain = own_gates d readable none script stage plain all m i n e

-- each script
module _ (d : Design) (readable : IsReadable d) (none : check_faults d.modules ≡ []) (script : List Word) (stage : StartsWithProc script) (n : Design) (run : IsNetlist (cold script d) n) where
  pub cold_refines : Refines d n
  cold_refines = by (flattens script) refl
    where
      by : (t : Bool) → flattens script ≡ t → Refines d n
      by false plain = plain_refines d readable none script stage plain n run
      by true flat = flat_refines d readable none script flat n run

  pub cold_gates : maps_all script ≡ true → is_gate_netlist n ≡ true
  cold_gates all = by (flattens script) refl
    where
      by : (t : Bool) → flattens script ≡ t → is_gate_netlist n ≡ true
      by false plain = plain_gates d readable none script stage plain all n run
      by true flat = flat_gates d readable none script flat (maps_after script stage flat all) n run

-- ---- values of keys

name_is : (m : Module) → IsReadableModule m → IsReadableModule (unnamed m)
name_is m good = readable_named m body_name good refl

module _ (d : Design) (readable : IsReadable d) (at : ℕ) (m : Module) (here : slice_get d.modules at ≡ Some m) (script : List Word) where
  pub stands_in : In m d.modules
  stands_in = by d.modules at here
    where
      by : (ms : List Module) (k : ℕ) → slice_get ms k ≡ Some m → In m ms
      by [] k e = absurd cc
      by (x ∷ xs) zero e = inl cc
      by (x ∷ xs) (suc k) e = inr (by xs k e)

  table_is : port_table_of d.modules at ≡ (table_of d.modules m).modules
  table_is = ap (λ (o : Option Module). map ports_by_module (instances_of d.modules (unwrap_or (option_map (λ (k : Module). k.cells) o) []))) here

  table_good : ArePorts (table_of d.modules m)
  table_good = subst (λ (ts : List ModulePorts). ArePorts (record { modules = ts })) table_is (readable_table d at readable)

  -- the value of a module's key is what the script makes of its body
  pub value_is : (outcome : Outcome) → IsValueOf (key_of d.modules at script) outcome → outcome ≡ fold_script script (table_of d.modules m) (below_of script d.modules m.cells) (unnamed m)
  value_is outcome h =
      h.value (unnamed m) (table_of d.modules m) (below_of script d.modules m.cells) (name_is m (readable_in IsReadableModule d.modules readable.modules m stands_in)) refl table_good
      (readable_below d readable script m.cells)
      (body_kept m body_name ∙ sym (ap (λ (o : Option Module). unwrap_or (option_map body_text o) []) here))
      (ap (λ (ts : List ModulePorts). ports_text (record { modules = ts })) (sym table_is))
      (ap (λ (o : Option Module). text_of (record { modules = below_of script d.modules (unwrap_or (option_map (λ (k : Module). k.cells) o) []) })) (sym here))

  -- .. and so the outcome of the module, under its own name
  pub value_named : (outcome : Outcome) → IsValueOf (key_of d.modules at script) outcome → named m.id outcome ≡ outcome_of script d.modules m
  value_named outcome h = ap (named m.id) (value_is outcome h)

  -- which refines it
  pub value_refines : check_faults d.modules ≡ [] → StartsWithProc script → flattens script ≡ false → (after : Module) → IsValueOf (key_of d.modules at script) (Done after) → (name : List ℕ)
      → RefinesIn (record m { id = name }) (record after { id = name }) (table_of d.modules m)
  value_refines none stage plain after h name =
      let e : fold_script script (table_of d.modules m) (below_of script d.modules m.cells) (record m { id = name }) ≡ Done (record after { id = name }) =
      fold_renamed name script (table_of d.modules m) (below_of script d.modules m.cells) (unnamed m) ∙ ap (named name) (sym (value_is (Done after) h)) in
      (module_pass d readable none script stage plain m stands_in name (record after { id = name }) e).refines
