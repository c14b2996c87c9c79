use Rattle.std.proofs.Common.{◌≡◌, ◌+◌, ◌≤◌, ◌<◌, Global, Option, Vec, length, sym, ap, subst, arith}
use Rattle.std.specs.Prelude.{IfSome}
use Rattle.rtl_ir.specs.declared.module.Design.{Design}
use Rattle.script_core.specs.declared.built.Built.{Built}
use Rattle.script_core.specs.declared.key_table.KeyTable.{KeyTable}
use Rattle.desk_core.specs.Beside.{SeesOwn}
use Rattle.desk_core.proofs.Staying.{AreSeenBelow, ok_some, seen_all, seen_goes, seen_stays}
use Rattle.desk_core.proofs.beside.let_go_unseen.Goals.{then-not-stays+in-Some-1, then-not-stays+in-None-1, else-not-stays}
use Rattle.desk_core.proofs.beside.let_go_unseen.Goals as goal

pub loop-at-preserved : goal.loop-at-preserved
loop-at-preserved c =
    let given = c.design.result.now.modules in
    let table : IfSome c.ok-table.result (λ (known : KeyTable). known.modules.now ≡ given) =
    ok_some c.of.result c.ok-table.result (λ (known : KeyTable). known.modules.now ≡ given) c.ok-table.ensures.value c.of.ensures.value in
    let within : c.loop-at.at < length c.loop-at.found.items = omega arith in
    elim c.if-not-stays.branch [
      | then-not-stays+in-Some-1 w ↦ seen_goes c.if-not-stays.found.items within (ap (λ (v : Vec (Option Built) Global). v.items) w.found-is) c.loop-at.invariant
      | then-not-stays+in-None-1 w ↦ seen_goes c.if-not-stays.found.items within (ap (λ (v : Vec (Option Built) Global). v.items) w.found-is) c.loop-at.invariant
      | else-not-stays w ↦
          let own : IfSome c.index.result.now (SeesOwn c.args.design.now.design.modules c.loop-at.at) =
          subst (λ (d : Design). IfSome c.index.result.now (SeesOwn d.modules c.loop-at.at)) c.design.ensures.value (c.stays.ensures.own given table w.if-not-stays.false) in
          subst (λ (v : Vec (Option Built) Global). AreSeenBelow c.args.design.now.design.modules c.args.found.now.items v.items (c.loop-at.at + 1)) (sym w.found-is)
          (seen_stays c.index.result.now c.index.ensures own c.loop-at.invariant)
    ]

pub returns : goal.returns
returns c =
    let past : length c.loop-at.found.items ≤ c.loop-at.at = omega arith in
    record { seen = seen_all past c.loop-at.invariant }
