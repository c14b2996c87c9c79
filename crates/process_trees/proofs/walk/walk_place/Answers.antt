use Rattle.std.proofs.Common.{◌≡◌, Some, None, if◌then◌else◌, ap, sym}
use Rattle.std.specs.HashMap.{get_by}
use Rattle.rtl_ir.specs.Signals.{same_bit}
use Rattle.process_trees.specs.Lines.{is_bit}
use Rattle.process_trees.specs.Reach.{given_last}
use Rattle.process_trees.proofs.Results.{if_ok}
use Rattle.process_trees.proofs.Walks.{place_on, walked_as}
use Rattle.process_trees.proofs.walk.walk_place.Goals as goal

pub returns-in-Some-clause-walked : goal.returns-in-Some-clause-walked
returns-in-Some-clause-walked c =
    let number : get_by (same_bit c.in-Wire.bit) c.args.numbers.now ≡ Some c.in-Some.at = cc in
    if_ok c.give.result c.give.ensures.gives (λ _ gives.
    walked_as c.args.numbers.now (λ b. given_last (if same_bit c.in-Wire.bit b then Some c.args.source else None)) (λ b. given_last (if is_bit c.args.left b then Some c.args.source else None))
    c.args.walk.now c.give.new.self (λ b. ap (λ l. given_last (if is_bit l b then Some c.args.source else None)) (sym c.in-Wire.is))
    (place_on c.args.numbers.now c.in-Wire.bit c.args.source c.args.walk.now c.give.new.self c.in-Some.at number gives))
