use Rattle.std.proofs.Common.{List, [], ◌∷◌, get_or, map, refl, subst}
use Rattle.rtl_bits.specs.declared.bit.Bit.TheVariants.{S0}
use Rattle.rtl_sig.specs.declared.sig.SigBit.TheVariants.{Fixed}
use Rattle.rtl_ir.specs.Flat.Process.{loaded_row}
use Rattle.rtl_ir.specs.Follow.{source_at}
use Rattle.rtl_ir.specs.declared.follow.Join.{Join}
use Rattle.flat_net.specs.Adds.{Adds}
use Rattle.flat_net.proofs.Adding.{Leads-last, Leads-none, Leads-read}
use Rattle.flat_net.proofs.Kept.{within-Keeps}
use Rattle.flat_net.proofs.Reading.{Extends-refl, Extends-then}
use Rattle.flat_net.proofs.Triggering.{IsControl-kept}
use Rattle.flat_net.proofs.builder.Builder.add_loads.Goals as goal

pub loop-line-init : goal.loop-line-init
loop-line-init c = record { grows = Extends-refl _; rows = λ p path start is e t clock load levels are. Leads-none c.args.self.now _ }

pub add_load-requires : goal.add_load-requires
add_load-requires c = record { in_range = within-Keeps _ _ _ c.loop-line.invariant.grows.paths c.requires.in_range }

pub loop-line-preserved : goal.loop-line-preserved
loop-line-preserved c = record {
  grows = Extends-then _ _ _ c.loop-line.invariant.grows c.in_ok-add_load.ensures.grows;
  rows = λ p path start is e t clock load levels are.
      let g = c.loop-line.invariant.grows in
      let wires = c.args.scope.now.wires.now in
      let row = λ (j : Join). loaded_row start p wires e t (source_at levels j.bit) j in
      let added = c.in_ok-add_load.ensures.rows p (g.paths _ _ path) start is e t (IsControl-kept _ _ g.places p wires c.args.clock e clock) (IsControl-kept _ _ g.places p wires c.args.load t load) in
      let none : Join = record { bit = record { wire = 0; at = 0 }; source = Fixed S0 } in
      let read = subst (λ o. Adds c.loop-line.self c.add_load.new.self (loaded_row start p wires e t o (get_or c.args.lines.now c.loop-line.line-index none) ∷ [])) (c.source_of-from.ensures.value levels are) added in
      Leads-read (λ (ls : List Join). map row ls) (λ l. row l ∷ []) (λ l ls. refl) refl c.args.lines.now c.args.self.now _ c.loop-line.self c.add_load.new.self c.loop-line.line-index none
      c.loop-line-test.true (c.loop-line.invariant.rows p path start is e t clock load levels are) read;
}

pub returns-clause-rows : goal.returns-clause-rows
returns-clause-rows c = λ p path start is e t clock load levels are.
    let row = λ (j : Join). loaded_row start p c.args.scope.now.wires.now e t (source_at levels j.bit) j in
    Leads-last (λ (ls : List Join). map row ls) (λ l. row l ∷ []) (λ l ls. refl) refl c.args.lines.now c.args.self.now _ _ c.loop-line.line-index c.loop-line-test.false
    (c.loop-line.invariant.rows p path start is e t clock load levels are)
