use Rattle.std.proofs.Common.{List, ap, ◌∙◌}
use Rattle.rtl_ir.specs.declared.module.Module.{Module}
use Rattle.rtl_ir.specs.Ports.{cells_at, port_table_of}
use Rattle.script_core.specs.Keys.{key_of}
use Rattle.script_core.specs.Reached.{below_of}
use Rattle.script_core.proofs.Reading.{given_there, read_there, value_of_answer}
use Rattle.script_core.proofs.Stepping.{starts}
use Rattle.script_core.proofs.building.outcome_at.Goals as goal

pub fold-requires : goal.fold-requires
fold-requires c =
    let design = c.args.design.now.design in
    let script = c.args.script.now in
    record {
      applicable = λ is.
          given_there design c.args.module script c.requires.readable c.args.design.now.faultless c.requires.in_range
          c.in_ok-body.body c.in_ok-ports.ports c.in_ok-below.below c.in_ok-body.ensures.value
          (c.in_ok-ports.ensures.value ∙ ap (λ (ms : List Module). port_table_of ms c.args.module) c.requires.table)
          (c.in_ok-below.ensures.value ∙ ap (λ (ms : List Module). below_of script ms (cells_at ms c.args.module)) c.requires.table)
          (starts script is);
    }

pub returns : goal.returns
returns c =
    let design = c.args.design.now.design in
    let script = c.args.script.now in
    let read = read_there design c.args.module script c.requires.readable c.args.design.now.faultless c.requires.in_range
    c.in_ok-body.body c.in_ok-ports.ports c.in_ok-below.below c.in_ok-body.ensures.value
    (c.in_ok-ports.ensures.value ∙ ap (λ (ms : List Module). port_table_of ms c.args.module) c.requires.table)
    (c.in_ok-below.ensures.value ∙ ap (λ (ms : List Module). below_of script ms (cells_at ms c.args.module)) c.requires.table) in
    record { value = value_of_answer (key_of design.modules c.args.module script) c.in_ok-body.body c.in_ok-ports.ports c.in_ok-below.below.modules read c.fold.result c.fold.ensures.exact }
