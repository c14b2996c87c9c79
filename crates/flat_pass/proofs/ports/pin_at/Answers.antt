use Rattle.std.proofs.Common.{rules, ◌<◌, ◌∙◌, ap, sym, map, length}
use Rattle.std.proofs.lemmas.List.{length-map}
use Rattle.rtl_ir.specs.declared.cell.Pin.{Pin}
use Rattle.flat_pass.proofs.Firsts.{found_at, found_none, get_some, signal_first, signal_none, within_copies}
use Rattle.flat_pass.proofs.ports.pin_at.Goals as goal

pub bounds-pins-at : goal.bounds-pins-at
bounds-pins-at c =
    within_copies (map (λ (p : Pin). p.name) c.args.pins.now) c.args.name.now c.in-Some.at (length c.args.pins.now) (c.in-Some.ensures.value (map (λ (p : Pin). p.name) c.args.pins.now) c.requires.places) (sym (length-map c.args.pins.now (λ (p : Pin). p.name)))

pub offset_bounds-pins-at : goal.offset_bounds-pins-at
offset_bounds-pins-at c =
    let inside : c.in-Some.at < length c.args.pins.now = within_copies (map (λ (p : Pin). p.name) c.args.pins.now) c.args.name.now c.in-Some.at (length c.args.pins.now) (c.in-Some.ensures.value (map (λ (p : Pin). p.name) c.args.pins.now) c.requires.places) (sym (length-map c.args.pins.now (λ (p : Pin). p.name))) in
    search (rules, inside)

pub returns-in-Some : goal.returns-in-Some
returns-in-Some c = record {
  value =
      let found = c.in-Some.ensures.value (map (λ (p : Pin). p.name) c.args.pins.now) c.requires.places in
      c.as_slice.ensures.value
      ∙ ap (λ (p : Pin). p.sig) (sym c.index-pins-at.is)
      ∙ sym (signal_first c.args.pins.now c.args.name.now c.in-Some.at c.index-pins-at.result (found_at (map (λ (p : Pin). p.name) c.args.pins.now) c.args.name.now c.in-Some.at found) (get_some c.args.pins.now c.in-Some.at c.index-pins-at.result (within_copies (map (λ (p : Pin). p.name) c.args.pins.now) c.args.name.now c.in-Some.at (length c.args.pins.now) found (sym (length-map c.args.pins.now (λ (p : Pin). p.name)))) c.index-pins-at.is));
}

pub returns-in-None : goal.returns-in-None
returns-in-None c = record {
  value = sym (signal_none c.args.pins.now c.args.name.now (found_none (map (λ (p : Pin). p.name) c.args.pins.now) c.args.name.now (c.in-None.ensures.value (map (λ (p : Pin). p.name) c.args.pins.now) c.requires.places)));
}
