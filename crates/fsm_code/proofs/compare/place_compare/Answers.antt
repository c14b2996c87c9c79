-- A compare in the code, in three cases.
use Rattle.cell_types.specs.declared.pin_name.PinName.TheVariants.{Y}
use Rattle.net_model.specs.Fsm.Find.{at_pin}
use Rattle.fsm_code.specs.Links.{linked}
use Rattle.fsm_code.proofs.Placing.{inverse_is}
use Rattle.fsm_code.proofs.compare.place_compare.Goals as goal

pub returns-in_ok-push_inverse-in-Some : goal.returns-in_ok-push_inverse-in-Some
returns-in_ok-push_inverse-in-Some c = record {
  ok = λ m code b.
      inverse_is m code c.args.cell c.args.equal c.args.bit (at_pin c.args.cell Y) (linked b c.args.links.now) c.args.cells.now.items c.in-Some.bit (c.push_inverse.new.cells.items, linked b c.push_inverse.new.links)
      c.if-equal.false c.in-Some.is (c.in_ok-push_inverse-in-Some.ensures.ok m code b);
}
