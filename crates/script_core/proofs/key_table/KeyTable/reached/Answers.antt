use Rattle.std.proofs.Common.{◌≡◌, ◌∙◌, ap, arith, length, refl, sym}
use Rattle.rtl_ir.proofs.PortLemmas.{found_values}
use Rattle.script_core.specs.Reached.{reached_of}
use Rattle.script_core.specs.declared.key_table.Search.{Search}
use Rattle.script_core.proofs.Searches.{begun, less_left, looked, searched}
use Rattle.script_core.proofs.SearchingFinds.{cells_there, first_waits, module_there, none_waits, taken_out}
use Rattle.script_core.proofs.key_table.KeyTable.reached.Goals as goal

pub loop-module-init : goal.loop-module-init
loop-module-init c = λ start e.
    let ms = c.args.self.now.modules.now in
    let s : Search = record { found = c.new.result; waiting = c.push.new.self } in
    begun ms start s c.new.ensures.empty
    (first_waits ms c.args.at start e c.index-self-at.result c.index-self-at.is s c.new-2.result.items _ c.new-2.ensures.items c.in_ok-push.ensures.items (sym c.index-self-at.is))

pub look_at-requires-clause-named : goal.look_at-requires-clause-named
look_at-requires-clause-named c =
    let m = module_there c.args.self.now.modules.now c.args.at c.requires.in_range in
    (c.loop-module.invariant m.0 m.1).named

pub look_at-requires-clause-asked : goal.look_at-requires-clause-asked
look_at-requires-clause-asked c =
    let m = module_there c.args.self.now.modules.now c.args.at c.requires.in_range in
    (c.loop-module.invariant m.0 m.1).asked

pub loop-module-preserved : goal.loop-module-preserved
loop-module-preserved c = λ start e.
    let s : Search = c.loop-module.search in
    let mid : Search = record s { waiting = c.pop.new.self } in
    looked c.args.self.now.modules.now start s mid c.look_at.new.search c.in-Some.module.now (c.loop-module.invariant start e) refl (taken_out s mid c.in-Some.module c.in-Some.ensures.items) c.in_ok-look_at.ensures.looks

pub loop-module-smaller : goal.loop-module-smaller
loop-module-smaller c =
    let m = module_there c.args.self.now.modules.now c.args.at c.requires.in_range in
    let s : Search = c.loop-module.search in
    let mid : Search = record s { waiting = c.pop.new.self } in
    less_left c.args.self.now.modules.now m.0 s mid c.look_at.new.search c.in-Some.module.now (c.loop-module.invariant m.0 m.1) refl (taken_out s mid c.in-Some.module c.in-Some.ensures.items) c.in_ok-look_at.ensures.looks

pub returns : goal.returns
returns c =
    let ms = c.args.self.now.modules.now in
    let m = module_there ms c.args.at c.requires.in_range in
    let s : Search = c.loop-module.search in
    let none : length s.waiting.items ≡ 0 = omega (arith, c.in_default.ensures.cases.0, s.waiting.ok.0) in
    record {
      value = found_values c.collected.result s.found.entries _
          (searched ms m.0 s (c.loop-module.invariant m.0 m.1) (none_waits s none) ∙ ap (reached_of ms) (sym (cells_there ms c.args.at m.0 m.1)))
          c.collected.ensures.value;
    }
