use Rattle.std.proofs.Common.{◌++◌, ◌∷◌, [], sym, subst}
use Rattle.std.specs.Prelude.{Some}
use Rattle.rtl_ir.specs.Follow.{joins}
use Rattle.flat_net.specs.Trees.{AreAssigns, IsFound}
use Rattle.flat_net.proofs.Assigning.{AreAssigns-next, AreAssigns-other}
use Rattle.flat_net.proofs.places.Places.put_assign.Goals as goal

pub returns-in_default-find-clause-value : goal.returns-in_default-find-clause-value
returns-in_default-find-clause-value c = λ p path test js before.
    let bits = c.args.bits.now in
    let found = subst (IsFound bits c.in-Wire.bit) c.in_default-find.is c.find.ensures.found in
    let made = AreAssigns-other test p c.args.scope.now.wires.now bits c.args.self.now.places c.args.assigns.now.items js (record { bit = c.in-Wire.bit; source = c.args.right }) found before in
    subst (λ left. AreAssigns c.args.self.now.places test p c.args.scope.now.wires.now bits c.args.assigns.now.items (js ++ joins (left ∷ []) (c.args.right ∷ []))) (sym c.in-Wire.is) made

pub returns-clause-value : goal.returns-clause-value
returns-clause-value c = λ p path test js before.
    let bits = c.args.bits.now in
    let found = subst (IsFound bits c.in-Wire.bit) c.in-Some.is c.find.ensures.found in
    let here = subst (λ at. IsFound bits c.in-Wire.bit (Some at)) (sym c.in_ok-number_at.ensures.value) found in
    let made =
    AreAssigns-next test p c.args.scope.now.wires.now bits c.args.self.now.places c.point.new.self.places c.args.assigns.now.items c.push.new.self.items js (record { bit = c.in-Wire.bit; source = c.args.right }) (record { at = c.in_ok-number_at.field-0; from = c.in_ok-from.from; tree = c.in_ok-place.field-0 })
    c.in_ok-from.ensures.grows.places here (record { from = c.in_ok-from.ensures.value p path; tree = c.in_ok-place.ensures.value }) c.in_ok-push.ensures.items before in
    subst (λ left. AreAssigns c.point.new.self.places test p c.args.scope.now.wires.now bits c.push.new.self.items (js ++ joins (left ∷ []) (c.args.right ∷ []))) (sym c.in-Wire.is) made
