-- Which rules are left.
use Rattle.std.proofs.Common.{◌≡◌, ◌≤◌, false, sym, subst, arith}
use Rattle.std.specs.Prelude.{count_by}
use Rattle.rtl_ir.specs.Rules.{acting_rules}
use Rattle.rtl_ir.specs.SwitchRules.{root_by_rules}
use Rattle.rtl_ir.specs.declared.module.Module.{Module}
use Rattle.rtl_ir.specs.declared.process.Process.{Process}
use Rattle.rtl_ir.specs.declared.process.SyncRule.{SyncRule}
use Rattle.net_model.proofs.Members.{In-mapped}
use Rattle.net_model.specs.Lists.{In}
use Rattle.net_model.specs.Proc.Latch.{is_always, proc_latch_of, without_always}
use Rattle.proc_laws.specs.Ready.{AreRuled, HaveNoStarts}
use Rattle.sync_laws.proofs.GoodRules.{acting_in}
use Rattle.proc_laws.specs.Kinds.{HaveNoAlways, HaveNoTwoEdges, HaveNoWrites, is_edge_rule}
use Rattle.latch_laws.proofs.Rules.{acting_kept, fewer, kept, not_always, passed, stays}

-- a rule that is left was there, and does not always act
was_there : (m : Module) (q : Process) → In q (proc_latch_of m).processes → (r : SyncRule) → In r q.syncs → (p : Process) × In p m.processes × In r p.syncs × (is_always r.event ≡ false)
was_there m q i r j =
    let f = In-mapped without_always q m.processes i in
    let k = passed stays f.0.syncs r (subst (λ (z : Process). In r z.syncs) f.2 j) in
    (f.0, f.1, k.0, not_always (is_always r.event) k.1)

pub no_always : (m : Module) → HaveNoAlways (proc_latch_of m)
no_always m q i r j = (was_there m q i r (acting_in q.syncs r j)).3

pub ruled : (m : Module) → AreRuled m → AreRuled (proc_latch_of m)
ruled m h q i =
    let f = In-mapped without_always q m.processes i in
    subst (λ (z : Process). root_by_rules z.root ≡ z.root) (sym f.2) (h f.0 f.1)

pub no_starts : (m : Module) → HaveNoStarts m → HaveNoStarts (proc_latch_of m)
no_starts m h q i r j = let w = was_there m q i r j in h w.0 w.1 r w.2

pub no_writes : (m : Module) → HaveNoWrites m → HaveNoWrites (proc_latch_of m)
no_writes m h q i r j = let w = was_there m q i r j in h w.0 w.1 r w.2

pub no_two_edges : (m : Module) → HaveNoTwoEdges m → HaveNoTwoEdges (proc_latch_of m)
no_two_edges m h q i =
    let f = In-mapped without_always q m.processes i in
    let few : count_by is_edge_rule (kept (acting_rules f.0.syncs)) ≤ 1 = omega (arith, h f.0 f.1, fewer is_edge_rule stays (acting_rules f.0.syncs)) in
    subst (λ (z : Process). count_by is_edge_rule (acting_rules z.syncs) ≤ 1) (sym f.2)
    (subst (λ rs. count_by is_edge_rule rs ≤ 1) (sym (acting_kept f.0.syncs)) few)
