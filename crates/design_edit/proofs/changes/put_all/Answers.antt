use Rattle.std.proofs.Common.{◌+◌, ◌∷◌, ◌∙◌, List, ap, arith, get_or, length, subst, sym}
use Rattle.rtl_ir.specs.declared.module.Module.{Module}
use Rattle.design_edit.specs.Modules.{place_for}
use Rattle.design_edit.proofs.Changing.{Putting, in_turn, put_more, with_one}
use Rattle.design_edit.proofs.Placing.{fewer_first, length_places, place_at}
use Rattle.design_edit.proofs.changes.put_all.Goals as goal

pub bounds-places-number : goal.bounds-places-number
bounds-places-number c =
    let ms = c.args.modules.now.items in
    let es = c.args.edits.items in
    let l = c.loop-edit in
    let turn : Putting ms es l.number (c.in-Some.edit ∷ c.next.new.self.rest.items) l.modules.items l.changes.items =
    subst (λ (rest : List Module). Putting ms es l.number rest l.modules.items l.changes.items) c.in-Some.ensures.steps.0 l.invariant.putting in
    let low = in_turn ms es l.number c.in-Some.edit c.next.new.self.rest.items l.modules.items l.changes.items turn in
    omega (arith, low, ap length c.requires.places, length_places ms es)

pub put_module-old-requires-clause-place : goal.put_module-old-requires-clause-place
put_module-old-requires-clause-place c =
    let ms = c.args.modules.now.items in
    let es = c.args.edits.items in
    let l = c.loop-edit in
    let turn : Putting ms es l.number (c.in-Some.edit ∷ c.next.new.self.rest.items) l.modules.items l.changes.items =
    subst (λ (rest : List Module). Putting ms es l.number rest l.modules.items l.changes.items) c.in-Some.ensures.steps.0 l.invariant.putting in
    ap (λ places. get_or places l.number 0) c.requires.places
    ∙ place_at ms es l.number c.in-Some.edit c.next.new.self.rest.items 0 turn.left
    ∙ ap (λ (all : List Module). place_for all c.in-Some.edit.id) (sym turn.put)

pub put_module-old-requires-clause-room : goal.put_module-old-requires-clause-room
put_module-old-requires-clause-room c =
    let ms = c.args.modules.now.items in
    let es = c.args.edits.items in
    let l = c.loop-edit in
    let turn : Putting ms es l.number (c.in-Some.edit ∷ c.next.new.self.rest.items) l.modules.items l.changes.items =
    subst (λ (rest : List Module). Putting ms es l.number rest l.modules.items l.changes.items) c.in-Some.ensures.steps.0 l.invariant.putting in
    let one = ap length (with_one ms es l.number c.in-Some.edit c.next.new.self.rest.items l.modules.items l.changes.items turn) in
    let fewer = fewer_first ms es (l.number + 1) in
    omega (arith, one, fewer, c.requires.room, l.invariant.room)

pub loop-edit-preserved : goal.loop-edit-preserved
loop-edit-preserved c =
    let ms = c.args.modules.now.items in
    let es = c.args.edits.items in
    let l = c.loop-edit in
    let turn : Putting ms es l.number (c.in-Some.edit ∷ c.next.new.self.rest.items) l.modules.items l.changes.items =
    subst (λ (rest : List Module). Putting ms es l.number rest l.modules.items l.changes.items) c.in-Some.ensures.steps.0 l.invariant.putting in
    record {
      putting = put_more ms es l.number c.in-Some.edit c.next.new.self.rest.items l.modules.items c.put_module-old.new.modules.items l.changes.items c.push_reserved.new.self.items
          (record { at = get_or c.args.places.now l.number 0; old = c.put_module-old.result })
          turn c.put_module-old.ensures.value c.push_reserved.ensures.items c.put_module-old.ensures.back;
      room = c.put_module-old.ensures.capacity ∙ l.invariant.room;
      notes = c.push_reserved.ensures.capacity ∙ l.invariant.notes;
    }
