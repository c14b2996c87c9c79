use Rattle.std.proofs.Common.{[], ◌∙◌, Some, ap, arith, sym}
use Rattle.rtl_ir.specs.Flat.Start.{start_of}
use Rattle.opt_merge.specs.Traits.{traits_of}
use Rattle.opt_merge.proofs.Entering.{cell_there, enters_one}
use Rattle.opt_merge.proofs.entries.Entries.enter_kind.Goals as goal

pub returns-clause-enters : goal.returns-clause-enters
returns-clause-enters c = λ wires links view traits own.
    enters_one traits c.args.self.now.table c.put.new.self.table c.args.place (traits_of (start_of wires []) links c.args.kind c.index-cells-place.result)
    (own ∙ cell_there (start_of wires []) links c.args.kind c.args.cells.now c.args.place c.index-cells-place.result (omega (arith, c.if-place-cells.false)) ∙ ap (λ x. Some (traits_of (start_of wires []) links c.args.kind x)) (sym c.index-cells-place.is))
    (c.in_ok-put.ensures.table wires links view).all
