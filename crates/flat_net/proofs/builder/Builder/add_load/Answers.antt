use Rattle.std.proofs.Common.{[], ◌∷◌, subst, sym}
use Rattle.rtl_ir.specs.Flat.Process.{loaded_row}
use Rattle.flat_net.specs.Adds.{Adds}
use Rattle.flat_net.proofs.Kept.{within-Keeps}
use Rattle.flat_net.proofs.Moduling.{Adds-behind}
use Rattle.flat_net.proofs.Results.{if_ok}
use Rattle.flat_net.proofs.Triggering.{IsControl-kept, edge_points, edge_reads, edge_rows, load_points, load_reads, load_rows}
use Rattle.flat_net.proofs.builder.Builder.add_load.Goals as goal

pub add_registers-requires : goal.add_registers-requires
add_registers-requires c = record { in_range = within-Keeps _ _ _ c.in_ok-ad-in-Some.ensures.grows.paths c.requires.in_range }

pub returns-in_ok-ad-in-Some-clause-rows : goal.returns-in_ok-ad-in-Some-clause-rows
returns-in_ok-ad-in-Some-clause-rows c = λ p path start is e l clock load.
    let wires = c.args.scope.now.wires.now in
    let g = c.in_ok-ad-in-Some.ensures.grows in
    let ps = c.point.new.self.places in
    let s = c.in-Some.bit in
    let clock' = IsControl-kept _ ps g.places p wires c.args.clock e clock in
    let load' = IsControl-kept _ ps g.places p wires c.args.load l load in
    let ad = c.in_ok-ad-in-Some.ensures.value p path in
    let made = c.loaded_register-register.ensures.value in
    let js = c.args.line ∷ [] in
    let rows = load_rows p wires start ps _ c.args.clock c.args.load c.in_ok-ad-in-Some.ad e l s made clock' load' js in
    let added =
    Adds-behind c.args.self.now c.add_registers.new.self c.point.new.self _ _ g rows c.add_registers.result
    (c.add_registers.ensures.rows p (g.paths _ _ path) start is (load_points p wires e l s) (load_reads p wires ps _ c.args.clock c.args.load c.in_ok-ad-in-Some.ad e l s made clock' load' ad)) in
    if_ok c.add_registers.result added (λ _ a. subst (λ o. Adds c.args.self.now c.add_registers.new.self (loaded_row start p wires e l o c.args.line ∷ [])) (sym c.in-Some.is) a)

pub returns-in-None-clause-rows : goal.returns-in-None-clause-rows
returns-in-None-clause-rows c = λ p path start is e l clock load.
    let wires = c.args.scope.now.wires.now in
    let ps = c.args.self.now.places.places in
    let made = c.edge_register-register.ensures.value in
    let js = c.args.line ∷ [] in
    let rows = edge_rows p wires start ps _ c.args.clock e made clock js in
    if_ok c.add_registers-in-None.result (c.add_registers-in-None.ensures.rows p path start is (edge_points p wires e) (edge_reads p wires ps _ c.args.clock e made clock))
    (λ _ a. subst (λ o. Adds c.args.self.now c.add_registers-in-None.new.self (loaded_row start p wires e l o c.args.line ∷ [])) (sym c.in-None.is) (subst (Adds c.args.self.now c.add_registers-in-None.new.self) rows a))
