use Rattle.std.proofs.Common.{◌∙◌, subst}
use Rattle.cell_types.specs.declared.pin_name.PinName.TheVariants.{Q}
use Rattle.cell_types.specs.PinName.{pin_text}
use Rattle.rtl_ir.specs.Flat.Point.{points}
use Rattle.rtl_ir.specs.Parameters.{signal_at}
use Rattle.flat_net.specs.Reads.{ArePoints}
use Rattle.flat_net.proofs.Adding.{Adds-part}
use Rattle.flat_net.proofs.Celling.{storage_part, AreReads-kept}
use Rattle.flat_net.proofs.builder.Builder.add_store.Goals as goal

pub returns-clause-rows : goal.returns-clause-rows
returns-clause-rows c = λ p path start is they reads.
    let signal = c.pin_signal-signal.ensures.value ∙ (λ i. signal_at (c.as_slice.ensures.value i) (pin_text Q)) in
    let read = subst (λ s. ArePoints c.points.new.self.places c.in_ok-points.points (points p c.args.scope.now.wires.now s)) signal (c.in_ok-points.ensures.value p path) in
    let part = storage_part _ c.in_ok-new.field-0 _ _ start _ they _ _ _ _ _ c.in_ok-new.ensures.ok c.in_ok-fitting_shape.ensures.value
    (AreReads-kept _ _ _ they c.in_ok-points.ensures.grows.places reads) (c.in_ok-store_bits.ensures.value start is) signal c.as_slice-2.ensures.value read in
    Adds-part _ _ _ _ c.in_ok-points.ensures.grows c.in_ok-push.ensures.items part.0 part.1
