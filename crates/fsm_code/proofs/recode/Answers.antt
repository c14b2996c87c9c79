use Rattle.std.proofs.Common.{◌≡◌, sym}
use Rattle.rtl_ir.specs.Flat.Cell.{Ports, instances}
use Rattle.rtl_ir.specs.Ports.{ports_of}
use Rattle.rtl_ir.specs.Types.{table_ports}
use Rattle.net_model.specs.Refine.{IsWellDriven, RefinesIn}
use Rattle.pass_laws.specs.Ready.{IsReady}
use Rattle.fsm_code.specs.Machines.{IsMachineOf}
use Rattle.fsm_code.proofs.Giving.{answer_gives}
use Rattle.fsm_code.proofs.recode.Goals as goal

pub returns-clause-refines : goal.returns-clause-refines
returns-clause-refines c =
    answer_gives c.args.ports.now c.args.module c.args.machine.now (λ after. IsMachineOf c.args.ports.now c.args.module c.args.machine.now → RefinesIn c.args.module after c.args.ports.now) (λ n g. g.refines)
    c.recoded_module.result c.recoded_module.ensures.exact c.recoded_module.ensures.within

pub returns-clause-well_driven : goal.returns-clause-well_driven
returns-clause-well_driven c =
    answer_gives c.args.ports.now c.args.module c.args.machine.now (λ after. (over : Ports) → IsMachineOf c.args.ports.now c.args.module c.args.machine.now → IsWellDriven over c.args.module → IsWellDriven over after) (λ n g over of. (g.formed of).driven over)
    c.recoded_module.result c.recoded_module.ensures.exact c.recoded_module.ensures.within

pub returns-clause-well_formed : goal.returns-clause-well_formed
returns-clause-well_formed c =
    answer_gives c.args.ports.now c.args.module c.args.machine.now (λ after. IsMachineOf c.args.ports.now c.args.module c.args.machine.now → IsReady (table_ports c.args.ports.now.modules) after) (λ n g of. (g.formed of).ready)
    c.recoded_module.result c.recoded_module.ensures.exact c.recoded_module.ensures.within

pub returns-clause-same_id : goal.returns-clause-same_id
returns-clause-same_id c =
    answer_gives c.args.ports.now c.args.module c.args.machine.now (λ after. after.id ≡ c.args.module.id) (λ n g. g.id)
    c.recoded_module.result c.recoded_module.ensures.exact c.recoded_module.ensures.within

pub returns-clause-same_ports : goal.returns-clause-same_ports
returns-clause-same_ports c =
    answer_gives c.args.ports.now c.args.module c.args.machine.now (λ after. ports_of after.wires ≡ ports_of c.args.module.wires) (λ n g. g.ports)
    c.recoded_module.result c.recoded_module.ensures.exact c.recoded_module.ensures.within

pub returns-clause-same_instances : goal.returns-clause-same_instances
returns-clause-same_instances c =
    answer_gives c.args.ports.now c.args.module c.args.machine.now (λ after. IsMachineOf c.args.ports.now c.args.module c.args.machine.now → instances after.cells ≡ instances c.args.module.cells) (λ n g of. sym (g.formed of).same_instances)
    c.recoded_module.result c.recoded_module.ensures.exact c.recoded_module.ensures.within

pub returns-clause-same_memories : goal.returns-clause-same_memories
returns-clause-same_memories c =
    answer_gives c.args.ports.now c.args.module c.args.machine.now (λ after. after.memories ≡ c.args.module.memories) (λ n g. g.memories)
    c.recoded_module.result c.recoded_module.ensures.exact c.recoded_module.ensures.within
