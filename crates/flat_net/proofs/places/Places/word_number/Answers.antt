use Rattle.std.proofs.Common.{◌≡◌, sym, subst, Some, slice_get}
use Rattle.flat_net.specs.Keys.{Fits}
use Rattle.flat_net.proofs.Results.{on_ok, if_ok}
use Rattle.flat_net.specs.declared.places.SpotKey.{SpotKey}
use Rattle.flat_net.proofs.Keys.{Fits-names, spot_extends, spot_fits, spot_stands, spot_there}
use Rattle.flat_net.proofs.Kept.{Keeps-named, distinct-named}
use Rattle.flat_net.proofs.places.Places.word_number.Goals as goal

pub invariant_of-self-in_err-index : goal.invariant_of-self-in_err-index
invariant_of-self-in_err-index c =
    let keeps = Keeps-named c.self.inside.names c.intern.new.self _ c.in_ok-name.ensures.names in
    let distinct = distinct-named c.self.inside.names c.intern.new.self _ c.in_ok-name.ensures.names c.self.invariant.names_apart in
    subst (λ ts. Fits c.intern.new.self c.self.inside.frames.keys ts) (sym c.in_err-index.ensures.err) (Fits-names _ _ _ _ keeps distinct c.self.invariant)

pub invariant_of-self-2 : goal.invariant_of-self-2
invariant_of-self-2 c =
    let keeps = Keeps-named c.self.inside.names c.intern.new.self _ c.in_ok-name.ensures.names in
    let distinct = distinct-named c.self.inside.names c.intern.new.self _ c.in_ok-name.ensures.names c.self.invariant.names_apart in
    let key : SpotKey = record { path = c.args.path; name = c.in_ok-name.field-0.index; address = Some c.args.address; at = c.args.at } in
    spot_fits _ _ _ _ _ c.self.invariant keeps distinct c.args.self.now c.self.view_is key c.in_ok-index.ensures.keys c.requires.in_range c.in_ok-name.ensures.within

pub returns : goal.returns
returns c =
    let keeps = Keeps-named c.self.inside.names c.intern.new.self _ c.in_ok-name.ensures.names in
    let distinct = distinct-named c.self.inside.names c.intern.new.self _ c.in_ok-name.ensures.names c.self.invariant.names_apart in
    let key : SpotKey = record { path = c.args.path; name = c.in_ok-name.field-0.index; address = Some c.args.address; at = c.args.at } in
    let extends = spot_extends _ _ _ _ _ c.self.invariant keeps distinct c.args.self.now c.self.view_is key c.in_ok-index.ensures.keys in
    let stands = spot_stands _ _ _ _ _ c.self.invariant keeps distinct c.args.self.now c.self.view_is key c.in_ok-index.ensures.keys c.args.name.now in
    let there = spot_there _ key c.in_ok-index.index c.in_ok-index.ensures.stored in
    record {
      grows = on_ok c.number_at.result extends;
      value = λ p path. if_ok c.number_at.result c.number_at.ensures.value (λ n is. stands p n path c.in_ok-name.ensures.text (subst (λ n. slice_get c.insert_full.new.self.keys n ≡ Some key) (sym is) there));
    }
