-- The modules of a netlist have no process, and their cells have shapes.
use Rattle.std.proofs.Common.{◌≡◌, List, [], ◌∷◌, inl, inr, map, refl, sym, ◌∙◌}
use Rattle.rtl_ir.specs.declared.module.Design.{Design}
use Rattle.rtl_ir.specs.declared.module.Module.{Module}
use Rattle.rtl_ir.specs.Faults.{check_faults}
use Rattle.rtl_ir.specs.Types.{table_ports}
use Rattle.rtl_readable.specs.Readable.{IsReadable}
use Rattle.net_model.specs.Lists.{In}
use Rattle.net_model.specs.Within.{Each}
use Rattle.pass_laws.proofs.Faultless.{plain}
use Rattle.script_core.specs.declared.outcome.Outcome.{Outcome}
use Rattle.script_core.specs.declared.outcome.Outcome.TheVariants.{Done, Over}
use Rattle.script_core.specs.declared.word.Word.{Word}
use Rattle.script_core.specs.Cold.{cold, outcome_of}
use Rattle.script_core.specs.Reached.{table_of}
use Rattle.script_core.specs.Words.{IsScript}
use Rattle.script_core.proofs.Refining.{outcome_made}
use Rattle.script_core.proofs.Stepping.{starts}
use Rattle.desk_core.specs.Netlist.{done_modules}
use Rattle.desk_core.specs.Shaped.{IsShaped}

-- the modules that are done are outcomes of modules
done_in : (f : Module → Outcome) (ms : List Module) (n : Module) → In n (done_modules (map f ms)) → (m : Module) × In m ms × (f m ≡ Done n)
done_in f [] n i = absurd i
done_in f (m ∷ ms) n i = by (f m) refl i (done_in f ms n)
  where
    by : (o : Outcome) → f m ≡ o → In n (done_modules (o ∷ map f ms)) → (In n (done_modules (map f ms)) → (k : Module) × In k ms × (f k ≡ Done n)) → (k : Module) × In k (m ∷ ms) × (f k ≡ Done n)
    by (Done k) is (inl e) rest = (m, inl refl, is ∙ (let same : k ≡ n = sym e in let it : Done k ≡ Done n = cc in it))
    by (Done k) is (inr j) rest = let later = rest j in (later.0, inr later.1, later.2)
    by (Over word) is j rest = let later = rest j in (later.0, inr later.1, later.2)

-- each module of the netlist
pub shaped_netlist : (d : Design) (script : List Word) → IsReadable d → check_faults d.modules ≡ [] → IsScript script → Each IsShaped (done_modules (cold script d))
shaped_netlist d script readable fine words n i =
    let from = done_in (outcome_of script d.modules) d.modules n i in
    let made = outcome_made d readable fine script (starts script words) from.0 from.1 n from.2 in
    let it = plain (table_ports (table_of d.modules from.0).modules) n made.next.ready.faultless in
    record { processes = it.processes; cells = it.cells }
