-- A process of a module is one of the module with more wires, also without its rules that always act.
use Rattle.std.proofs.Common.{◌≤◌, ℕ}
use Rattle.rtl_ir.specs.Tree.{Switches, NoSwitch, OneSwitch, Cases, NoCase, OneCase}
use Rattle.rtl_ir.specs.declared.module.Link.{Link}
use Rattle.rtl_ir.specs.declared.process.Event.{Event}
use Rattle.rtl_ir.specs.declared.process.Event.TheVariants.{Low, High, Posedge, Negedge, Edge, Global, Init, Always}
use Rattle.rtl_ir.specs.declared.process.Process.{Process}
use Rattle.rtl_ir.specs.declared.process.SyncRule.{SyncRule}
use Rattle.rtl_ir.specs.declared.process.WriteLine.{WriteLine}
use Rattle.net_model.specs.Proc.Latch.{without_always}
use Rattle.net_model.specs.Within.{CasesIn, EventIn, LinkIn, ProcessIn, RuleIn, SwitchesIn, WriteIn}
use Rattle.mux_laws.proofs.FrameTrees.{sig_later}
use Rattle.latch_laws.proofs.Rules.{passed, stays}

module _ (few many : ℕ) (more : few ≤ many) where
  link_wider : (l : Link) → LinkIn few l → LinkIn many l
  link_wider l h = (sig_later few many more l.left h.0, sig_later few many more l.right h.1)

  mutual
    switches_wider : (ss : Switches) → SwitchesIn few ss → SwitchesIn many ss
    switches_wider NoSwitch h = tt
    switches_wider (OneSwitch signal attributes cases rest) h =
        (sig_later few many more signal h.0, (cases_wider cases h.1.0, switches_wider rest h.1.1))

    cases_wider : (cs : Cases) → CasesIn few cs → CasesIn many cs
    cases_wider NoCase h = tt
    cases_wider (OneCase patterns assigns attributes switches rest) h = (
      (λ p i. sig_later few many more p (h.0 p i)),
      ((λ l i. link_wider l (h.1.0 l i)), (switches_wider switches h.1.1.0, cases_wider rest h.1.1.1)),
    )

  event_wider : (e : Event) → EventIn few e → EventIn many e
  event_wider (Low s) h = sig_later few many more s h
  event_wider (High s) h = sig_later few many more s h
  event_wider (Posedge s) h = sig_later few many more s h
  event_wider (Negedge s) h = sig_later few many more s h
  event_wider (Edge s) h = sig_later few many more s h
  event_wider Global h = tt
  event_wider Init h = tt
  event_wider Always h = tt

  write_wider : (l : WriteLine) → WriteIn few l → WriteIn many l
  write_wider l h = record {
    address = sig_later few many more l.address h.address;
    value = sig_later few many more l.value h.value;
    enable = sig_later few many more l.enable h.enable;
  }

  rule_wider : (r : SyncRule) → RuleIn few r → RuleIn many r
  rule_wider r h = record {
    event = event_wider r.event h.event;
    updates = λ l i. link_wider l (h.updates l i);
    writes = λ l i. write_wider l (h.writes l i);
  }

  pub left_wider : (p : Process) → ProcessIn few p → ProcessIn many (without_always p)
  left_wider p h = record {
    assigns = λ l i. link_wider l (h.assigns l i);
    switches = switches_wider p.root.switches h.switches;
    syncs = λ r i. rule_wider r (h.syncs r (passed stays p.syncs r i).0);
  }
