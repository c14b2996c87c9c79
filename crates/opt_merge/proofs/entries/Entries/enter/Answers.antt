use Rattle.std.proofs.Common.{[], ◌∙◌, None, ap, sym}
use Rattle.std.specs.Option.{option_map_or}
use Rattle.rtl_ir.specs.Flat.Start.{start_of}
use Rattle.opt_merge.specs.Entries.{kind_traits, noted_at}
use Rattle.opt_merge.proofs.Entering.{enters_nothing}
use Rattle.opt_merge.proofs.entries.Entries.enter.Goals as goal

pub returns-in_ok-enter_kind-in-Some-clause-enters : goal.returns-in_ok-enter_kind-in-Some-clause-enters
returns-in_ok-enter_kind-in-Some-clause-enters c = λ wires links view.
    c.in_ok-enter_kind-in-Some.ensures.enters wires links view (noted_at (start_of wires []) links c.args.self.now.kinds.items c.args.cells.now)
    (ap (λ o. option_map_or (λ kind. kind_traits (start_of wires []) links kind c.args.cells.now c.args.place) o None) (sym c.kind_at.ensures.value ∙ c.in-Some.is))

pub returns-in-None-clause-enters : goal.returns-in-None-clause-enters
returns-in-None-clause-enters c = λ wires links view.
    enters_nothing (noted_at (start_of wires []) links c.args.self.now.kinds.items c.args.cells.now) c.args.self.now.table c.args.place
    (ap (λ o. option_map_or (λ kind. kind_traits (start_of wires []) links kind c.args.cells.now c.args.place) o None) (sym c.kind_at.ensures.value ∙ c.in-None.is))
