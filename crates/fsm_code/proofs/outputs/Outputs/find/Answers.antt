-- The output at the place that the table has.
use Rattle.std.proofs.Common.{map, ◌≡◌, length, get_or, ltb, Some, sym, ◌∙◌, ap}
use Rattle.fsm_code.specs.Outputs.{first_output, pair_of}
use Rattle.fsm_code.proofs.Tabling.{found_one, found_past, none_after}
use Rattle.fsm_code.proofs.outputs.Outputs.find.Goals as goal

-- src/outputs.rt:65:5
pub returns-in-Some-get : goal.returns-in-Some-get
returns-in-Some-get c = record {
  value = λ t.
      let list = c.args.self.now.list.items in
      let signal = c.args.signal.now in
      let at : first_output (map pair_of list) 0 signal ≡ Some c.in-Some.at = sym (t signal) ∙ sym c.in_ok-at.ensures.value ∙ c.in-Some.is in
      found_one list c.in-Some.at signal c.in-Some-get.output.now at (c.in-Some-get.ensures.lookup.0 ∙ ap (λ items. ltb c.in-Some.at (length items)) c.deref.ensures.value) (c.in-Some-get.ensures.lookup.1 ∙ ap (λ items. get_or items c.in-Some.at c.in-Some-get.output.now) c.deref.ensures.value);
}

pub returns-in-None-get : goal.returns-in-None-get
returns-in-None-get c = record {
  value = λ t.
      let list = c.args.self.now.list.items in
      let signal = c.args.signal.now in
      let at : first_output (map pair_of list) 0 signal ≡ Some c.in-Some.at = sym (t signal) ∙ sym c.in_ok-at.ensures.value ∙ c.in-Some.is in
      found_past list c.in-Some.at signal at (c.in-None-get.ensures.lookup.0 ∙ ap (λ items. ltb c.in-Some.at (length items)) c.deref.ensures.value);
}

pub returns-in-None : goal.returns-in-None
returns-in-None c = record { value = λ t. none_after c.args.self.now.list.items c.args.signal.now (sym (t c.args.signal.now) ∙ sym c.in_ok-at.ensures.value ∙ c.in-None.is) }
