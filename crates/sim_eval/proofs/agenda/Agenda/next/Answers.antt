use Rattle.std.proofs.Common.{◌∷◌, Bool, [], ap, arith, length, length-append, refl, sym, ◌∙◌}
use Rattle.std.proofs.lemmas.Bool.{true≢false}
use Rattle.std.specs.Global.{Vec}
use Rattle.sim_eval.proofs.Marking.{none_listed, passed_by, taken_off}
use Rattle.sim_eval.proofs.agenda.Agenda.next.Goals as goal

pub returns-then-has_mark-clause-takes : goal.returns-then-has_mark-clause-takes
returns-then-has_mark-clause-takes c =
    taken_off c.args.self.now c.loop-place.self _ c.in-Some.place (c.has_mark.ensures.within c.if-has_mark.true) c.loop-place.invariant.marks c.loop-place.invariant.told c.loop-place.invariant.listed c.loop-place.invariant.shorter refl refl c.in-Some.ensures.items

pub loop-place-preserved : goal.loop-place-preserved
loop-place-preserved c = record {
  marks = c.loop-place.invariant.marks;
  told = c.loop-place.invariant.told;
  listed = λ h. passed_by c.loop-place.self (record c.loop-place.self { places = c.pop.new.self }) c.in-Some.place refl c.in-Some.ensures.items (λ e. true≢false (sym e ∙ (sym c.has_mark.ensures.value ∙ c.if-has_mark.false))) (c.loop-place.invariant.listed h);
  shorter = omega (arith, c.loop-place.invariant.shorter, ap length c.in-Some.ensures.items, length-append c.pop.new.self.items (c.in-Some.place ∷ []));
}

pub returns-clause-none : goal.returns-clause-none
returns-clause-none c = λ e. record {
  marks = ap (λ (v : Vec Bool). v.items) c.loop-place.invariant.marks;
  told = ap (λ (v : Vec Bool). v.items) c.loop-place.invariant.told;
  none = λ h at. none_listed c.loop-place.self.marks.items c.loop-place.self.places.items at (omega (arith, c.in_default.ensures.cases.0)) (c.loop-place.invariant.listed h at);
}
