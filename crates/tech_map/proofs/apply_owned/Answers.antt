use Rattle.rtl_ir.specs.Types.{table_ports}
use Rattle.net_index.specs.Builder.{IsInLimits}
use Rattle.net_model.specs.Within.{Each}
use Rattle.pass_laws.specs.Pass.{IsPass, StaysDriven}
use Rattle.pass_laws.specs.Replaces.{IsOutside}
use Rattle.pass_laws.specs.Stays.{StaysFaultless}
use Rattle.pass_laws.proofs.Promised.{answered, answered_within}
use Rattle.tech_map.specs.Gates.{HasGatesAlone}
use Rattle.tech_map.specs.Techmap.{beside, techmap_of}
use Rattle.tech_map.proofs.Driving.{techmap_driven}
use Rattle.tech_map.proofs.Faultless.{techmap_faultless}
use Rattle.tech_map.proofs.Forming.{ready_whole, takable}
use Rattle.tech_map.proofs.Gates.{techmap_gates}
use Rattle.tech_map.proofs.Promised.{techmap_passes}
use Rattle.tech_map.proofs.apply_owned.Goals as goal

pub mapped-requires : goal.mapped-requires
mapped-requires c = record { whole = ready_whole _ c.args.module c.requires.ready }

pub returns-clause-pass : goal.returns-clause-pass
returns-clause-pass c =
    let m = c.args.module in
    answered_within c.mapped.result (techmap_of m) c.mapped.ensures.exact (IsInLimits (beside m)) c.mapped.ensures.within
    (IsPass c.args.ports.now m) (λ limits. techmap_passes c.args.ports.now m c.requires.ready limits)

pub returns-clause-driven : goal.returns-clause-driven
returns-clause-driven c =
    let m = c.args.module in
    answered_within c.mapped.result (techmap_of m) c.mapped.ensures.exact (IsInLimits (beside m)) c.mapped.ensures.within
    (StaysDriven m) (λ limits. techmap_driven m (takable (table_ports c.args.ports.now.modules) m c.requires.ready) limits.names)

pub returns-clause-faultless : goal.returns-clause-faultless
returns-clause-faultless c =
    let m = c.args.module in
    answered_within c.mapped.result (techmap_of m) c.mapped.ensures.exact (IsInLimits (beside m)) c.mapped.ensures.within
    (StaysFaultless m) (λ _. techmap_faultless (table_ports c.args.ports.now.modules) m c.requires.ready)

pub returns-clause-gates : goal.returns-clause-gates
returns-clause-gates c =
    let m = c.args.module in
    answered c.mapped.result (techmap_of m) c.mapped.ensures.exact
    (λ after. Each IsOutside m.cells → HasGatesAlone after) (techmap_gates m (takable (table_ports c.args.ports.now.modules) m c.requires.ready).whole)
