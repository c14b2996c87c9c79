-- A module of an accepted design may be given to the first pass, over its table of ports, whatever its name is.
use Rattle.std.proofs.Common.{◌≡◌, ◌+◌, ℕ, zero, suc, ◌<◌, List, [], ◌∷◌, ◌++◌, length, inl, inr, ⊎_elim, arith, subst, sym}
use Rattle.std.specs.Prelude.{slice_get, IsSomeAnd}
use Rattle.std.specs.List.{All}
use Rattle.std.proofs.lemmas.List.Elements.{All-head, All-tail}
use Rattle.rtl_ir.specs.declared.cell.Cell.{Cell}
use Rattle.rtl_ir.specs.declared.cell.Pin.{Pin}
use Rattle.rtl_ir.specs.declared.module.Design.{Design}
use Rattle.rtl_ir.specs.declared.module.Link.{Link}
use Rattle.rtl_ir.specs.declared.module.Module.{Module}
use Rattle.rtl_ir.specs.declared.process.Process.{Process}
use Rattle.rtl_ir.specs.declared.wire.Wire.{Wire}
use Rattle.rtl_ir.specs.Faults.{check_faults}
use Rattle.rtl_ir.specs.Flat.Cell.{instances}
use Rattle.rtl_ir.specs.Flat.Tree as flat
use Rattle.rtl_ir.specs.Scope.{everything}
use Rattle.rtl_ir.specs.declared.process.Event.{Event}
use Rattle.rtl_ir.specs.declared.process.Event.TheVariants.{Low, High, Posedge, Negedge, Edge, Global, Init, Always}
use Rattle.rtl_ir.specs.declared.process.SyncRule.{SyncRule}
use Rattle.rtl_ir.specs.declared.process.WriteLine.{WriteLine}
use Rattle.rtl_ir.specs.Tree.{Switches, NoSwitch, OneSwitch, Cases, NoCase, OneCase}
use Rattle.rtl_sig.specs.declared.sig.SigBit.{SigBit}
use Rattle.rtl_sig.specs.declared.sig.SigBit.TheVariants as sig
use Rattle.rtl_readable.specs.Readable.{AreCases, AreSwitches, IsBitOf, IsCell, IsEvent, IsLink, IsPin, IsProcess, IsReadable, IsReadableModule, IsRule, IsSomeSignal, IsWrite}
use Rattle.net_model.specs.Lists.{In}
use Rattle.net_model.specs.Refine.{IsWellDriven}
use Rattle.net_model.specs.Within.{BitIn, CasesIn, CellIn, Each, EventIn, IsWithin, LinkIn, ProcessIn, RuleIn, SigIn, SwitchesIn, WriteIn}
use Rattle.proc_laws.specs.Ready as laws
use Rattle.proc_laws.specs.Ready.{HasItsBits, PinsHaveBits, UpdatesHaveBits}
use Rattle.check_laws.proofs.Accepted.{module_well_driven}
use Rattle.check_laws.proofs.Named.{same_ports}
use Rattle.check_laws.proofs.Once.{driven_once}
use Rattle.check_laws.proofs.Readable.{sound}
use Rattle.check_laws.specs.Sound.{IsSoundModule}
use Rattle.pass_laws.proofs.Agreeing.{agree_sym, driven_agree}
use Rattle.pass_laws.proofs.Faultless.{no_faults}
use Rattle.script_core.specs.Reached.{table_of}
use Rattle.proc_laws.proofs.Taking.{accepted_faultless}
use Rattle.script_core.specs.Fold.{MayStart}
use Rattle.sync_laws.specs.Lines.{WritesHaveBits}
use Rattle.rtl_ir.specs.Types.{design_ports, table_ports}
use Rattle.reset_laws.specs.Trees.{TreesHaveBits}
use Rattle.rtl_ir.specs.Assigns.{case_assigns, cases_assigns, switches_assigns}
use Rattle.net_model.proofs.Members.{In-cases}
use Rattle.script_core.proofs.Faultless.{bits_under, faultless_under}
use Rattle.script_core.proofs.Tables.{agree}

each_of : {A : Type 0} (P : A → Type 0) (xs : List A) → All P xs → (x : A) → In x xs → P x
each_of P [] all x i = absurd i
each_of P (y ∷ ys) all x (inl e) = subst P (sym e) (All-head P y ys all)
each_of P (y ∷ ys) all x (inr i) = each_of P ys (All-tail P y ys all) x i

wire_inside : (P : Wire → Type 0) (ws : List Wire) (k : ℕ) → IsSomeAnd (slice_get ws k) P → k < length ws
wire_inside P [] k h = absurd h
wire_inside P (w ∷ ws) zero h = omega arith
wire_inside P (w ∷ ws) (suc k) h = let rest : k < length ws = wire_inside P ws k h in omega (arith, rest)

module _ (ws : List Wire) where
  bit_in : (b : SigBit) → IsBitOf ws b → BitIn (length ws) b
  bit_in (sig.Fixed c) h = tt
  bit_in (sig.Wire b) h = wire_inside (λ w. b.at < w.width) ws b.wire h

  pin_in : (pin : Pin) → IsPin ws pin → SigIn (length ws) pin.sig
  pin_in pin h b i = bit_in b (each_of (IsBitOf ws) pin.sig h.sig.bits b i)

  cell_in : (c : Cell) → IsCell ws c → CellIn (length ws) c
  cell_in c h pin i = pin_in pin (each_of (IsPin ws) c.pins h.pins pin i)

  link_in : (l : Link) → IsLink ws l → LinkIn (length ws) l
  link_in l h = (
    λ b i. bit_in b (each_of (IsBitOf ws) l.left h.left.bits b i),
    λ b i. bit_in b (each_of (IsBitOf ws) l.right h.right.bits b i),
  )

  links_in : (ls : List Link) → All (IsLink ws) ls → Each (LinkIn (length ws)) ls
  links_in ls h l i = link_in l (each_of (IsLink ws) ls h l i)

  some_in : (signal : List SigBit) → IsSomeSignal ws signal → SigIn (length ws) signal
  some_in signal h b i = bit_in b (each_of (IsBitOf ws) signal h.signal.bits b i)

  mutual
    switches_in : (depth : ℕ) (switches : Switches) → AreSwitches ws depth switches → SwitchesIn (length ws) switches
    switches_in depth NoSwitch h = tt
    switches_in depth (OneSwitch signal attributes cases rest) h =
        (some_in signal h.1, (cases_in (depth + 1) cases h.3, switches_in depth rest h.4))

    cases_in : (depth : ℕ) (cases : Cases) → AreCases ws depth cases → CasesIn (length ws) cases
    cases_in depth NoCase h = tt
    cases_in depth (OneCase patterns assigns attributes switches rest) h =
        (λ p i. some_in p (each_of (IsSomeSignal ws) patterns h.0 p i), (links_in assigns h.1, (switches_in depth switches h.3, cases_in depth rest h.4)))

  event_in : (e : Event) → IsEvent ws e → EventIn (length ws) e
  event_in (Low signal) h = some_in signal h
  event_in (High signal) h = some_in signal h
  event_in (Posedge signal) h = some_in signal h
  event_in (Negedge signal) h = some_in signal h
  event_in (Edge signal) h = some_in signal h
  event_in Global h = tt
  event_in Init h = tt
  event_in Always h = tt

  write_in : (line : WriteLine) → IsWrite ws line → WriteIn (length ws) line
  write_in line h = record { address = some_in line.address h.address; value = some_in line.value h.value; enable = some_in line.enable h.enable }

  rule_in : (r : SyncRule) → IsRule ws r → RuleIn (length ws) r
  rule_in r h = record {
    event = event_in r.event h.event;
    updates = links_in r.updates h.updates;
    writes = λ l i. write_in l (each_of (IsWrite ws) r.writes h.writes l i);
  }

  process_in : (p : Process) → IsProcess ws p → ProcessIn (length ws) p
  process_in p h = record {
    assigns = links_in p.root.assigns h.assigns;
    switches = switches_in 0 p.root.switches h.switches;
    syncs = λ r i. rule_in r (each_of (IsRule ws) p.syncs h.rules r i);
  }

  -- bits of pins and updated bits
  bit_of : (b : SigBit) → IsBitOf ws b → laws.IsBitOf ws b
  bit_of (sig.Fixed c) h = tt
  bit_of (sig.Wire b) h = h

  pins_of : (c : Cell) → IsCell ws c → PinsHaveBits ws c
  pins_of c h pin i b j = bit_of b (each_of (IsBitOf ws) pin.sig (each_of (IsPin ws) c.pins h.pins pin i).sig.bits b j)

  updates_of : (r : SyncRule) → IsRule ws r → UpdatesHaveBits ws r
  updates_of r h l i b j = bit_of b (each_of (IsBitOf ws) l.left (each_of (IsLink ws) r.updates h.updates l i).left.bits b j)

  -- bits that assigns name
  left_of : (l : Link) → IsLink ws l → Each (laws.IsBitOf ws) l.left
  left_of l h b i = bit_of b (each_of (IsBitOf ws) l.left h.left.bits b i)

  lefts_of : (ls : List Link) → All (IsLink ws) ls → Each (λ (l : Link). Each (laws.IsBitOf ws) l.left) ls
  lefts_of ls h l i = left_of l (each_of (IsLink ws) ls h l i)

  -- what is so of two lists is so of both together
  each_both : {A : Type 0} (P : A → Type 0) (xs ys : List A) → Each P xs → Each P ys → Each P (xs ++ ys)
  each_both P xs ys f g x i = ⊎_elim (f x) (g x) (In-cases x xs ys i)

  mutual
    switches_lefts : (depth : ℕ) (switches : Switches) → AreSwitches ws depth switches → Each (λ (l : Link). Each (laws.IsBitOf ws) l.left) (switches_assigns switches)
    switches_lefts depth NoSwitch h = λ l i. absurd i
    switches_lefts depth (OneSwitch signal attributes cases rest) h =
        each_both (λ (l : Link). Each (laws.IsBitOf ws) l.left) (cases_assigns cases) (switches_assigns rest) (cases_lefts (depth + 1) cases h.3) (switches_lefts depth rest h.4)

    cases_lefts : (depth : ℕ) (cases : Cases) → AreCases ws depth cases → Each (λ (l : Link). Each (laws.IsBitOf ws) l.left) (cases_assigns cases)
    cases_lefts depth NoCase h = λ l i. absurd i
    cases_lefts depth (OneCase patterns assigns attributes switches rest) h =
        each_both (λ (l : Link). Each (laws.IsBitOf ws) l.left) (assigns ++ switches_assigns switches) (cases_assigns rest)
        (each_both (λ (l : Link). Each (laws.IsBitOf ws) l.left) assigns (switches_assigns switches) (lefts_of assigns h.1) (switches_lefts depth switches h.3)) (cases_lefts depth rest h.4)

  trees_of : (p : Process) → IsProcess ws p → Each (λ (l : Link). Each (laws.IsBitOf ws) l.left) (case_assigns p.root)
  trees_of p h =
      each_both (λ (l : Link). Each (laws.IsBitOf ws) l.left) p.root.assigns (switches_assigns p.root.switches) (lefts_of p.root.assigns h.assigns) (switches_lefts 0 p.root.switches h.switches)

readable_within : (m : Module) → IsReadableModule m → IsWithin m
readable_within m h = record {
  cells = λ c i. cell_in m.wires c (each_of (IsCell m.wires) m.cells h.cells c i);
  links = links_in m.wires m.links h.links;
  processes = λ p i. process_in m.wires p (each_of (IsProcess m.wires) m.processes h.processes p i);
}

readable_bits : (m : Module) → IsReadableModule m → HasItsBits m
readable_bits m h = record {
  pins = λ c i. pins_of m.wires c (each_of (IsCell m.wires) m.cells h.cells c i);
  updates = λ p i r j. updates_of m.wires r (each_of (IsRule m.wires) p.syncs (each_of (IsProcess m.wires) m.processes h.processes p i).rules r j);
}

readable_trees : (m : Module) → IsReadableModule m → TreesHaveBits m
readable_trees m h p i = trees_of m.wires p (each_of (IsProcess m.wires) m.processes h.processes p i)

readable_writes : (m : Module) → IsReadableModule m → WritesHaveBits m
readable_writes m h p i r j l k =
    let rule = each_of (IsRule m.wires) p.syncs (each_of (IsProcess m.wires) m.processes h.processes p i).rules r j in
    let line = each_of (IsWrite m.wires) r.writes rule.writes l k in
    record { address = line.address.some; word = line.value.some }

-- a module stays sound under another name
under : (m : Module) (name : List ℕ) → IsSoundModule m → IsSoundModule (record m { id = name })
under m name own = record { wires = own.wires; memories = own.memories; cells = own.cells; pins = own.pins; links = own.links; processes = own.processes }

-- no bit of a module of an accepted design has two drivers, over its table of ports and under any name
given_driven : (d : Design) → IsReadable d → check_faults d.modules ≡ [] → (m : Module) → In m d.modules → (name : List ℕ) → IsWellDriven (flat.table_ports (table_of d.modules m)) (record m { id = name })
given_driven d readable none m i name =
    let all = sound d readable in
    driven_agree (flat.design_ports d) (flat.table_ports (table_of d.modules m)) (record m { id = name })
    (agree_sym (flat.table_ports (table_of d.modules m)) (flat.design_ports d) (instances m.cells) (agree d.modules m))
    (module_well_driven (design_ports d.modules) (flat.design_ports d) (same_ports d all) (record m { id = name }) (under m name (all.modules m i)) (bits_under d readable none m i name))

pub given_first : (d : Design) → IsReadable d → check_faults d.modules ≡ [] → (m : Module) → In m d.modules → (name : List ℕ) → MayStart (table_of d.modules m) (record m { id = name })
given_first d readable none m i name =
    let good = each_of IsReadableModule d.modules readable.modules m i in
    let within = readable_within m good in
    let bits = readable_bits m good in
    let own = (sound d readable).modules m i in
    let faultless = faultless_under everything d readable none m i name in
    record {
      begins = record {
        ready = record {
          faultless = accepted_faultless (table_ports (table_of d.modules m).modules) (record m { id = name }) faultless;
          named = own.wires;
          within = record { cells = within.cells; links = within.links; processes = within.processes };
          once = driven_once (table_ports (table_of d.modules m).modules) (record m { id = name }) (under m name own) (no_faults everything (table_ports (table_of d.modules m).modules) (record m { id = name }) faultless).bits;
        };
        placed = record { pins = bits.pins; updates = bits.updates };
        trees = readable_trees m good;
        writes = readable_writes m good;
      };
      driven = given_driven d readable none m i name;
      named = own.memories;
    }
