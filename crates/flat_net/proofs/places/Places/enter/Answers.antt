use Rattle.std.proofs.Common.{◌≡◌, ◌+◌, suc, sym, subst, ◌∙◌, ◌∷◌, Some, slice_get, arith}
use Rattle.rtl_ir.specs.Flat.Place.{frame}
use Rattle.flat_net.specs.Keys.{Fits, known_of}
use Rattle.flat_net.specs.declared.places.FrameKey.{FrameKey}
use Rattle.flat_net.proofs.Keys.{Fits-names, frame_extends, frame_fits, frame_stands, frame_there}
use Rattle.flat_net.proofs.Kept.{Keeps-named, Keeps-twice, distinct-named, within-Keeps}
use Rattle.flat_net.proofs.Results.{on_ok, if_ok}
use Rattle.flat_net.proofs.places.Places.enter.Goals as goal

pub invariant_of-self-in_err-module_name : goal.invariant_of-self-in_err-module_name
invariant_of-self-in_err-module_name c =
    let first = Keeps-named c.self.inside.names c.intern.new.self _ c.in_ok-name.ensures.names in
    subst (λ ns. Fits ns c.self.inside.frames.keys c.self.inside.spots.keys) (sym c.in_err-module_name.ensures.err) (Fits-names _ _ _ _ first (distinct-named c.self.inside.names c.intern.new.self _ c.in_ok-name.ensures.names c.self.invariant.names_apart) c.self.invariant)

pub invariant_of-self-in_err-index : goal.invariant_of-self-in_err-index
invariant_of-self-in_err-index c =
    let distinct = distinct-named c.intern.new.self c.intern-2.new.self _ c.in_ok-module_name.ensures.names (distinct-named c.self.inside.names c.intern.new.self _ c.in_ok-name.ensures.names c.self.invariant.names_apart) in
    let keeps = Keeps-twice c.self.inside.names c.intern.new.self c.intern-2.new.self _ _ c.in_ok-name.ensures.names c.in_ok-module_name.ensures.names in
    subst (λ fs. Fits c.intern-2.new.self fs c.self.inside.spots.keys) (sym c.in_err-index.ensures.err) (Fits-names _ _ _ _ keeps distinct c.self.invariant)

pub invariant_of-self-2 : goal.invariant_of-self-2
invariant_of-self-2 c =
    let second = Keeps-named c.intern.new.self c.intern-2.new.self _ c.in_ok-module_name.ensures.names in
    let distinct = distinct-named c.intern.new.self c.intern-2.new.self _ c.in_ok-module_name.ensures.names (distinct-named c.self.inside.names c.intern.new.self _ c.in_ok-name.ensures.names c.self.invariant.names_apart) in
    let keeps = Keeps-twice c.self.inside.names c.intern.new.self c.intern-2.new.self _ _ c.in_ok-name.ensures.names c.in_ok-module_name.ensures.names in
    let key : FrameKey = record { around = c.args.path; name = c.in_ok-name.field-0.index; module_name = c.in_ok-module_name.field-0.index } in
    frame_fits _ _ _ _ _ c.self.invariant keeps distinct c.args.self.now c.self.view_is key c.in_ok-index.ensures.keys c.requires.in_range
    (within-Keeps _ _ _ second c.in_ok-name.ensures.within) c.in_ok-module_name.ensures.within c.in_ok-index.ensures.unique

pub returns : goal.returns
returns c =
    let second = Keeps-named c.intern.new.self c.intern-2.new.self _ c.in_ok-module_name.ensures.names in
    let distinct = distinct-named c.intern.new.self c.intern-2.new.self _ c.in_ok-module_name.ensures.names (distinct-named c.self.inside.names c.intern.new.self _ c.in_ok-name.ensures.names c.self.invariant.names_apart) in
    let keeps = Keeps-twice c.self.inside.names c.intern.new.self c.intern-2.new.self _ _ c.in_ok-name.ensures.names c.in_ok-module_name.ensures.names in
    let key : FrameKey = record { around = c.args.path; name = c.in_ok-name.field-0.index; module_name = c.in_ok-module_name.field-0.index } in
    let extends = frame_extends _ _ _ _ _ c.self.invariant keeps distinct c.args.self.now c.self.view_is key c.in_ok-index.ensures.keys in
    let fits = frame_fits _ _ _ _ _ c.self.invariant keeps distinct c.args.self.now c.self.view_is key c.in_ok-index.ensures.keys c.requires.in_range
    (within-Keeps _ _ _ second c.in_ok-name.ensures.within) c.in_ok-module_name.ensures.within c.in_ok-index.ensures.unique in
    let stands = frame_stands _ _ _ _ _ c.self.invariant keeps distinct c.args.self.now c.self.view_is key c.in_ok-index.ensures.keys fits c.args.name.now c.args.module_name.now in
    let there = frame_there _ key c.in_ok-index.index c.in_ok-index.ensures.stored in
    let next : 1 + c.in_ok-index.index ≡ suc c.in_ok-index.index = omega arith in
    record {
      grows = on_ok c.number_behind.result extends;
      value = λ p path. if_ok c.number_behind.result c.number_behind.ensures.value
          (λ n is. subst (λ n. slice_get (known_of c.intern-2.new.self c.insert_full.new.self.keys c.self.inside.spots.keys).paths n ≡ Some (frame c.args.name.now c.args.module_name.now ∷ p)) (next ∙ sym is) (stands p c.in_ok-index.index path (second _ _ c.in_ok-name.ensures.text) c.in_ok-module_name.ensures.text there));
    }
