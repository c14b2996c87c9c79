-- What is read of the texts of a key.
use Rattle.std.proofs.Common.{◌≡◌, ℕ, ◌<◌, Bool, true, false, cond, List, [], drop, length, Some, Result, Ok, Err, refl, sym, ap, subst, ◌∙◌}
use Rattle.std.specs.Prelude.{IfOk, slice_get}
use Rattle.rtl_ir.specs.declared.cell.Cell.{Cell}
use Rattle.rtl_ir.specs.declared.module.Design.{Design}
use Rattle.rtl_ir.specs.Faults.{check_faults}
use Rattle.net_model.specs.Lists.{In}
use Rattle.rtl_ir.specs.declared.module.Module.{Module}
use Rattle.rtl_ir.specs.declared.ports.PortTable.{PortTable}
use Rattle.rtl_ir.specs.Ports.{cells_at, port_table_of}
use Rattle.rtl_readable.specs.Readable.{IsReadable, IsReadableModule}
use Rattle.rtl_read.specs.Reads.{Reads}
use Rattle.rtl_read.proofs.Unique.{one_design}
use Rattle.rtl_write.specs.PortTables.{ArePorts, modules_of}
use Rattle.rtl_write.proofs.BodyLaws.{equal_texts}
use Rattle.rtl_write.proofs.PortLemmas.{table_back}
use Rattle.rtl_write.proofs.PortTableLemmas.{readable_table}
use Rattle.rtl_write.proofs.Trip.{reads_design}
use Rattle.rtl_write.specs.Text.{body_text, text_of}
use Rattle.rtl_write.specs.Ports.{ports_text}
use Rattle.script_core.specs.declared.outcome.Outcome.{Outcome}
use Rattle.script_core.specs.declared.word.Word.{Word}
use Rattle.script_core.specs.Built.{body_name, unnamed, IsValueOf, IsAcceptedKey}
use Rattle.script_core.specs.Keys.{KeyParts, body_text_at, key_of}
use Rattle.script_core.specs.Reached.{below_of, reached_of, table_of}
use Rattle.script_core.specs.Words.{flattens}
use Rattle.script_core.specs.Fold.{AreApplicable, AreFlatApplicable, IsApplicable, StartsWithProc, fold_script}
use Rattle.script_core.proofs.BelowReadable.{readable_below}
use Rattle.script_core.proofs.FlatRuns.{flat_given}
use Rattle.script_core.proofs.Stepping.{stage_applicable}
use Rattle.script_core.proofs.BuildLemmas.{module_at, readable_in}
use Rattle.script_core.proofs.Given.{given_first}

-- what is read of the texts of an accepted key
pub record IsRead (key : KeyParts) (read : Module) (table : PortTable) (below : List Module) : Type 0 where
  -- each module, table and modules that are reached of these texts
  pub only :
      (m : Module) (ports : PortTable) (others : List Module) → IsReadableModule m → m.id ≡ body_name → ArePorts ports →
      IsReadable (record { modules = others }) → body_text m ≡ key.body → ports_text ports ≡ key.ports →
      text_of (record { modules = others }) ≡ key.below → (m ≡ read) × (ports ≡ table) × (others ≡ below)

-- a script may be applied to a module of an accepted design
module _ (d : Design) (readable : IsReadable d) (none : check_faults d.modules ≡ []) (script : List Word) (stage : StartsWithProc script) (m : Module) (i : In m d.modules) where
  first_given : IsApplicable script (table_of d.modules m) (below_of script d.modules m.cells) (unnamed m)
  first_given = by (flattens script)
    where
      by : (t : Bool) → cond t (AreFlatApplicable (drop 2 script) (table_of d.modules m) (cond t (reached_of d.modules m.cells) []) (unnamed m)) (AreApplicable script (table_of d.modules m) (unnamed m))
      by true = flat_given d readable none m i (drop 2 script) body_name
      by false = stage_applicable script (table_of d.modules m) (unnamed m) stage (given_first d readable none m i body_name)

module _ (key : KeyParts) (read : Module) (table : PortTable) (below : Design)
    (body : (m : Module) → IsReadableModule m → key.body ≡ body_text m → read ≡ record m { id = body_name })
    (ports : (t : PortTable) → ArePorts t → key.ports ≡ ports_text t → table ≡ t)
    (others : (d : Design) → IsReadable d → key.below ≡ text_of d → below ≡ d) where
  -- there is nothing else of these texts
  pub read_key : IsRead key read table below.modules
  read_key = record {
    only = λ n t os good name are fine b p o. (
      same n name ∙ sym (body n good (sym b)),
      sym (ports t are (sym p)),
      sym (ap (λ (x : Design). x.modules) (others (record { modules = os }) fine (sym o))),
    );
  }
    where
      same : (n : Module) → n.id ≡ body_name → n ≡ record n { id = body_name }
      same n e = (λ i. record n { id = e i })

  -- the script of an accepted key may be applied to what was read
  pub read_given : IsAcceptedKey key → StartsWithProc key.script → IsApplicable key.script table below.modules read
  read_given is stage =
      let d = is.design in
      let here = module_at d.modules is.at is.in_range in
      let m = here.m in
      let readable = readable_in IsReadableModule d.modules is.readable.modules m here.member in
      let own : read ≡ unnamed m = body m readable (ap (λ (k : KeyParts). k.body) is.same ∙ here.body) in
      let its : table ≡ table_of d.modules m = ports (record { modules = port_table_of d.modules is.at }) (readable_table d is.at is.readable) (ap (λ (k : KeyParts). k.ports) is.same) ∙ ap (λ ts. record { modules = ts }) here.ports in
      let under : below ≡ record { modules = below_of key.script d.modules m.cells } =
      others (record { modules = below_of key.script d.modules m.cells }) (readable_below d is.readable key.script m.cells)
      (ap (λ (k : KeyParts). k.below) is.same ∙ ap (λ (cells : List Cell). text_of (record { modules = below_of key.script d.modules cells })) here.cells) in
      subst (λ (t : PortTable). IsApplicable key.script t below.modules read) (sym its)
      (subst (λ (b : Design). IsApplicable key.script (table_of d.modules m) b.modules read) (sym under)
      (subst (IsApplicable key.script (table_of d.modules m) (below_of key.script d.modules m.cells)) (sym own)
      (first_given d is.readable is.faultless key.script stage m here.member)))

-- a module of an accepted design without its name, its table and the modules that it reaches are what is read of the texts of its key
module _ (d : Design) (at : ℕ) (script : List Word) (readable : IsReadable d) (none : check_faults d.modules ≡ []) (inside : at < length d.modules)
    (body : Module) (ports : PortTable) (below : Design) (is : (m : Module) → slice_get d.modules at ≡ Some m → body ≡ unnamed m)
    (its : ports.modules ≡ port_table_of d.modules at) (under : below.modules ≡ below_of script d.modules (cells_at d.modules at)) where
  abbrev its_ports : PortTable
  its_ports = record { modules = port_table_of d.modules at }

  abbrev its_below : Design
  its_below = record { modules = below_of script d.modules (cells_at d.modules at) }

  only_body : (m : Module) → IsReadableModule m → body_text_at d.modules at ≡ body_text m → body ≡ unnamed m
  only_body m fine e =
      let here = module_at d.modules at inside in
      let good = readable_in IsReadableModule d.modules readable.modules here.m here.member in
      is here.m here.there ∙ ap unnamed ((equal_texts here.m m good fine).0 (sym here.body ∙ e))

  only_ports : (t : PortTable) → ArePorts t → ports_text its_ports ≡ ports_text t → ports ≡ t
  only_ports t fine e =
      ap (λ ms. record { modules = ms }) (its ∙ sym (table_back its_ports (readable_table d at readable)) ∙ ap modules_of e ∙ table_back t fine)

  only_below : (o : Design) → IsReadable o → text_of its_below ≡ text_of o → below ≡ o
  only_below o fine e =
      let good = readable_below d readable script (cells_at d.modules at) in
      ap (λ ms. record { modules = ms }) under
      ∙ one_design (text_of o) its_below o (subst (λ (t : List ℕ). Reads t its_below) e (reads_design its_below good)) (reads_design o fine)

  pub read_there : IsRead (key_of d.modules at script) body ports below.modules
  read_there = read_key (key_of d.modules at script) body ports below only_body only_ports only_below

  pub given_there : StartsWithProc script → IsApplicable script ports below.modules body
  given_there =
      read_given (key_of d.modules at script) body ports below only_body only_ports only_below
      (record { design = d; at = at; readable = readable; faultless = none; in_range = inside; same = refl })

-- the fold over what was read is the value of the key
pub value_of_key : (key : KeyParts) (read : Module) (table : PortTable) (below : List Module) → IsRead key read table below → (outcome : Outcome) → outcome ≡ fold_script key.script table below read → IsValueOf key outcome
value_of_key key read table below is outcome e = record {
  value = λ m t os good name are fine b p o. let only = is.only m t os good name are fine b p o in e ∙ (λ i. fold_script key.script (sym only.1 i) (sym only.2 i) (sym only.0 i));
}

-- .. in each answer that has one
pub value_of_answer : {E : Type 0} (key : KeyParts) (read : Module) (table : PortTable) (below : List Module) → IsRead key read table below → (r : Result Outcome E) → IfOk r (λ outcome. outcome ≡ fold_script key.script table below read) → IfOk r (λ outcome. IsValueOf key outcome)
value_of_answer key read table below is (Ok outcome) e = value_of_key key read table below is outcome e
value_of_answer key read table below is (Err fault) e = tt
