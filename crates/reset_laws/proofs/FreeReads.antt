-- Bits that a process does not read are none that its rows read.
use Rattle.std.proofs.Common.{◌≡◌, ℕ, ◌<◌, Bool, true, false, cond, ◌&&◌, ◌||◌, List, [], ◌∷◌, ◌++◌, length, inl, inr, ⊎_elim, refl, sym, ◌∙◌, ap, subst}
use Rattle.std.specs.Prelude.{flat_map, map, not}
use Rattle.rtl_bits.specs.declared.bit.Bit.{Bit}
use Rattle.rtl_sig.specs.declared.sig.SigBit.{SigBit}
use Rattle.rtl_sig.specs.declared.sig.SigBit.TheVariants.{Fixed, Wire as OnWire}
use Rattle.rtl_sig.specs.declared.sig.WireBit.{WireBit}
use Rattle.rtl_ir.specs.Assigns.{case_assigns, cases_assigns, switches_assigns}
use Rattle.rtl_ir.specs.Flat.Place.{Path, Place, word_place}
use Rattle.rtl_ir.specs.Flat.Point.{At, Constant, Point, bit_place, point}
use Rattle.rtl_ir.specs.Follow.{all_joins}
use Rattle.rtl_ir.specs.declared.follow.Join.{Join}
use Rattle.rtl_ir.specs.Rules.{acting_rules, has_item, has_line, is_init}
use Rattle.rtl_ir.specs.Signals.{wire_bits}
use Rattle.rtl_ir.specs.Tree.{Cases, NoCase, NoSwitch, OneCase, OneSwitch, Switches}
use Rattle.rtl_ir.specs.declared.module.Link.{Link}
use Rattle.rtl_ir.specs.declared.module.Module.{Module}
use Rattle.rtl_ir.specs.declared.process.Event.{Event}
use Rattle.rtl_ir.specs.declared.process.Event.TheVariants.{Low, High, Posedge, Negedge, Edge, Global, Init, Always}
use Rattle.rtl_ir.specs.declared.process.Process.{Process}
use Rattle.rtl_ir.specs.declared.process.SyncRule.{SyncRule}
use Rattle.rtl_ir.specs.declared.process.WriteLine.{WriteLine}
use Rattle.rtl_ir.specs.declared.wire.Wire.{Wire}
use Rattle.net_model.proofs.Members.{In-cases, In-left, In-right}
use Rattle.net_model.specs.Lists.{Distinct, In}
use Rattle.net_model.specs.Proc.Reset.{cases_signals, control_reads, event_signal, process_reads, switches_signals}
use Rattle.net_model.specs.Within.{BitIn, CasesIn, Each, EventIn, LinkIn, ProcessIn, SigIn, SwitchesIn, WriteIn}
use Rattle.build_laws.proofs.RebuildBits.{one_place}
use Rattle.reset_laws.proofs.FrameStep.{IsNone, spot_of}
use Rattle.reset_laws.proofs.ReadLeaves.{wires_in}
use Rattle.reset_laws.proofs.ReadMemories.{LineOk}
use Rattle.reset_laws.proofs.ReadSources.{join_source}

pub in_flat : {A B : Type 0} (f : A → List B) (xs : List A) (x : A) (y : B) → In x xs → In y (f x) → In y (flat_map f xs)
in_flat f [] x y i j = absurd i
in_flat f (z ∷ xs) x y (inl e) j = In-left y (f z) (flat_map f xs) (subst (λ w. In y (f w)) e j)
in_flat f (z ∷ xs) x y (inr i) j = In-right y (f z) (flat_map f xs) (in_flat f xs x y i j)

-- signals of wires of the module
module _ (n : ℕ) where
  both_in : (xs ys : List SigBit) → SigIn n xs → SigIn n ys → SigIn n (xs ++ ys)
  both_in xs ys h k s i = ⊎_elim (h s) (k s) (In-cases s xs ys i)

  flat_in : (qs : List (List SigBit)) → Each (SigIn n) qs → SigIn n (flat_map (λ q. q) qs)
  flat_in [] h s i = absurd i
  flat_in (q ∷ qs) h s i = both_in q (flat_map (λ z. z) qs) (h q (inl refl)) (flat_in qs (λ r j. h r (inr j))) s i

  mutual
    pub signals_in : (switches : Switches) → SwitchesIn n switches → SigIn n (switches_signals switches)
    signals_in NoSwitch h = λ s i. absurd i
    signals_in (OneSwitch signal attributes cases rest) h =
        both_in signal (cases_signals cases ++ switches_signals rest) h.0 (both_in (cases_signals cases) (switches_signals rest) (cases_in cases h.1.0) (signals_in rest h.1.1))

    cases_in : (cases : Cases) → CasesIn n cases → SigIn n (cases_signals cases)
    cases_in NoCase h = λ s i. absurd i
    cases_in (OneCase patterns assigns attributes switches rest) h =
        both_in (flat_map (λ q. q) patterns) (switches_signals switches ++ cases_signals rest) (flat_in patterns h.0)
        (both_in (switches_signals switches) (cases_signals rest) (signals_in switches h.1.1.0) (cases_in rest h.1.1.1))

  mutual
    pub links_in : (switches : Switches) → SwitchesIn n switches → Each (LinkIn n) (switches_assigns switches)
    links_in NoSwitch h = λ l i. absurd i
    links_in (OneSwitch signal attributes cases rest) h =
        λ l i. ⊎_elim (case_links_in cases h.1.0 l) (links_in rest h.1.1 l) (In-cases l (cases_assigns cases) (switches_assigns rest) i)

    case_links_in : (cases : Cases) → CasesIn n cases → Each (LinkIn n) (cases_assigns cases)
    case_links_in NoCase h = λ l i. absurd i
    case_links_in (OneCase patterns assigns attributes switches rest) h =
        λ l i. ⊎_elim
        (λ a. ⊎_elim (h.1.0 l) (links_in switches h.1.1.0 l) (In-cases l assigns (switches_assigns switches) a))
        (case_links_in rest h.1.1.1 l)
        (In-cases l (assigns ++ switches_assigns switches) (cases_assigns rest) i)

  pub root_links_in : (s : Process) → ProcessIn n s → Each (LinkIn n) (case_assigns s.root)
  root_links_in s h l i = ⊎_elim (h.assigns l) (links_in s.root.switches h.switches l) (In-cases l s.root.assigns (switches_assigns s.root.switches) i)

  pub event_in : (e : Event) → EventIn n e → SigIn n (event_signal e)
  event_in (Low signal) h = h
  event_in (High signal) h = h
  event_in (Posedge signal) h = h
  event_in (Negedge signal) h = h
  event_in (Edge signal) h = h
  event_in Global h = λ s i. absurd i
  event_in Init h = λ s i. absurd i
  event_in Always h = λ s i. absurd i

pub acting_in : (rules : List SyncRule) (r : SyncRule) → In r (acting_rules rules) → In r rules
acting_in [] r i = absurd i
acting_in (z ∷ rules) r i = by (has_line z && not (is_init z.event)) i (acting_in rules r)
  where
    by : (t : Bool) → In r (cond t (z ∷ acting_rules rules) (acting_rules rules)) → (In r (acting_rules rules) → In r rules) → In r (z ∷ rules)
    by true (inl e) later = inl e
    by true (inr j) later = inr (later j)
    by false j later = inr (later j)

pub in_acting : (rules : List SyncRule) (r : SyncRule) → In r rules → (has_line r && not (is_init r.event)) ≡ true → In r (acting_rules rules)
in_acting [] r i e = absurd i
in_acting (z ∷ rules) r (inl f) e =
    subst (λ t. In r (cond t (z ∷ acting_rules rules) (acting_rules rules))) (sym (ap (λ (x : SyncRule). has_line x && not (is_init x.event)) (sym f) ∙ e)) (inl f)
in_acting (z ∷ rules) r (inr i) e = by (has_line z && not (is_init z.event)) (in_acting rules r i e)
  where
    by : (t : Bool) → In r (acting_rules rules) → In r (cond t (z ∷ acting_rules rules) (acting_rules rules))
    by true j = inr j
    by false j = j

module _ (m : Module) (gone : List WireBit) (named : Distinct (map (λ (w : Wire). w.name) m.wires)) (low : (b : WireBit) → In b gone → b.wire < length m.wires) (p : Path) where
  abbrev n : ℕ
  n = length m.wires

  -- a point that is none of the bits
  abbrev pub IsClear : Point → Type 0
  IsClear pt = (z : Place) → pt ≡ At z → IsNone m gone z.spot

  abbrev pub Clear : SigBit → Type 0
  Clear s = IsClear (point p m.wires s)

  pub constant_clear : (c : Bit) → IsClear (Constant c)
  constant_clear c z e = absurd (cc)

  pub word_clear : (name : List ℕ) (address at : ℕ) → IsClear (At (word_place p name address at))
  word_clear name address at z e b i f =
      let same : word_place p name address at ≡ z = cc in
      let spot = ap (λ (q : Place). q.spot) same ∙ f in
      absurd (cc)

  -- two bits of one spot are one
  pub one_spot : (b c : WireBit) → b.wire < length m.wires → c.wire < length m.wires → spot_of m b ≡ spot_of m c → b ≡ c
  one_spot b c h k e = one_place p m.wires named b c h k (λ i. record { path = p; spot = e i })

  pub bit_clear : (b : WireBit) → b.wire < length m.wires → (In b gone → ⊥) → IsClear (At (bit_place p m.wires b))
  bit_clear b h k z e c i f =
      let same : bit_place p m.wires b ≡ z = cc in
      let one : b ≡ c = one_spot b c h (low c i) (ap (λ (q : Place). q.spot) same ∙ f) in
      k (subst (λ x. In x gone) (sym one) i)

  pub clear : (s : SigBit) → BitIn (length m.wires) s → ((b : WireBit) → s ≡ OnWire b → In b gone → ⊥) → Clear s
  clear (Fixed c) h k = constant_clear c
  clear (OnWire b) h k = bit_clear b h (k b refl)

  pub signal_clear : (signal : List SigBit) → SigIn (length m.wires) signal → ((b : WireBit) → In (OnWire b) signal → In b gone → ⊥) → Each Clear signal
  signal_clear signal h k s i = clear s (h s i) (λ b e. k b (subst (λ z. In z signal) e i))

  -- a process that reads none of them
  module _ (s : Process) (within : ProcessIn (length m.wires) s) (unread : (b : WireBit) → In b (process_reads s) → In b gone → ⊥) where
    abbrev events : List SigBit
    events = flat_map (λ (r : SyncRule). event_signal r.event) (acting_rules s.syncs)

    abbrev rights : List SigBit
    rights = flat_map (λ (l : Link). l.right) (case_assigns s.root)

    abbrev rule_signals : SyncRule → List SigBit
    rule_signals r = flat_map (λ (l : Link). l.right) r.updates ++ flat_map (λ (w : WriteLine). w.address ++ (w.value ++ w.enable)) r.writes

    abbrev rules_reads : List WireBit
    rules_reads = flat_map (λ (r : SyncRule). wire_bits (flat_map (λ (l : Link). l.right) r.updates ++ flat_map (λ (w : WriteLine). w.address ++ (w.value ++ w.enable)) r.writes)) s.syncs

    control_unread : (b : WireBit) → In (OnWire b) (switches_signals s.root.switches ++ events) → In b gone → ⊥
    control_unread b i = unread b (In-left b (control_reads s) (wire_bits rights ++ rules_reads) (wires_in (switches_signals s.root.switches ++ events) b i))

    rights_unread : (b : WireBit) → In (OnWire b) rights → In b gone → ⊥
    rights_unread b i = unread b (In-right b (control_reads s) (wire_bits rights ++ rules_reads) (In-left b (wire_bits rights) rules_reads (wires_in rights b i)))

    rules_unread : (r : SyncRule) → In r s.syncs → (b : WireBit) → In (OnWire b) (rule_signals r) → In b gone → ⊥
    rules_unread r i b j =
        unread b (In-right b (control_reads s) (wire_bits rights ++ rules_reads) (In-right b (wire_bits rights) rules_reads
        (in_flat (λ (z : SyncRule). wire_bits (rule_signals z)) s.syncs r b i (wires_in (rule_signals r) b j))))

    pub signals_clear : Each Clear (switches_signals s.root.switches)
    signals_clear =
        signal_clear (switches_signals s.root.switches) (signals_in (length m.wires) s.root.switches within.switches)
        (λ b i. control_unread b (In-left (OnWire b) (switches_signals s.root.switches) events i))

    pub rights_clear : (l : Link) → In l (case_assigns s.root) → Each Clear l.right
    rights_clear l i =
        signal_clear l.right (root_links_in (length m.wires) s within l i).1
        (λ b j. rights_unread b (in_flat (λ (z : Link). z.right) (case_assigns s.root) l (OnWire b) i j))

    pub events_clear : (r : SyncRule) → In r (acting_rules s.syncs) → Each Clear (event_signal r.event)
    events_clear r i =
        signal_clear (event_signal r.event) (event_in (length m.wires) r.event (within.syncs r (acting_in s.syncs r i)).event)
        (λ b j. control_unread b (In-right (OnWire b) (switches_signals s.root.switches) events (in_flat (λ (z : SyncRule). event_signal z.event) (acting_rules s.syncs) r (OnWire b) i j)))

    pub sources_clear : (r : SyncRule) → In r (acting_rules s.syncs) → Each (λ (j : Join). Clear j.source) (all_joins r.updates)
    sources_clear r i j k =
        let l = join_source r.updates j k in
        let there = acting_in s.syncs r i in
        clear j.source (((within.syncs r there).updates l.0 l.1).1 j.source l.2)
        (λ b e. rules_unread r there b (In-left (OnWire b) (flat_map (λ (z : Link). z.right) r.updates) (flat_map (λ (w : WriteLine). w.address ++ (w.value ++ w.enable)) r.writes)
        (in_flat (λ (z : Link). z.right) r.updates l.0 (OnWire b) l.1 (subst (λ z. In z l.0.right) e l.2))))

    event_clear : (r : SyncRule) → In r s.syncs → has_item r.writes ≡ true → Each Clear (event_signal r.event)
    event_clear r i h = by (is_init r.event) refl
      where
        has : has_line r ≡ true
        has = always (has_item r.updates) (has_item r.writes) h
          where
            always : (t u : Bool) → u ≡ true → (t || u) ≡ true
            always true u e = refl
            always false u e = e

        starts : (e : Event) → is_init e ≡ true → Each Clear (event_signal e)
        starts Init e = λ x k. absurd k
        starts (Low signal) e = absurd (cc)
        starts (High signal) e = absurd (cc)
        starts (Posedge signal) e = absurd (cc)
        starts (Negedge signal) e = absurd (cc)
        starts (Edge signal) e = absurd (cc)
        starts Global e = absurd (cc)
        starts Always e = absurd (cc)

        by : (t : Bool) → is_init r.event ≡ t → Each Clear (event_signal r.event)
        by true e = starts r.event e
        by false e = events_clear r (in_acting s.syncs r i (λ k. has k && not (e k)))

    pub lines_clear : (r : SyncRule) → In r s.syncs → Each (LineOk IsClear constant_clear p m.wires word_clear r.event) r.writes
    lines_clear r i line j = (
      event_clear r i (some r.writes line j),
      part line.address w.address (λ b k. In-left (OnWire b) line.address (line.value ++ line.enable) k),
      part line.value w.value (λ b k. In-right (OnWire b) line.address (line.value ++ line.enable) (In-left (OnWire b) line.value line.enable k)),
      part line.enable w.enable (λ b k. In-right (OnWire b) line.address (line.value ++ line.enable) (In-right (OnWire b) line.value line.enable k)),
    )
      where
        w : WriteIn (length m.wires) line
        w = (within.syncs r i).writes line j

        some : (lines : List WriteLine) (l : WriteLine) → In l lines → has_item lines ≡ true
        some [] l k = absurd k
        some (z ∷ lines) l k = refl

        part : (signal : List SigBit) → SigIn (length m.wires) signal → ((b : WireBit) → In (OnWire b) signal → In (OnWire b) (line.address ++ (line.value ++ line.enable))) → Each Clear signal
        part signal h k =
            signal_clear signal h (λ b l. rules_unread r i b (In-right (OnWire b) (flat_map (λ (z : Link). z.right) r.updates) (flat_map (λ (x : WriteLine). x.address ++ (x.value ++ x.enable)) r.writes)
            (in_flat (λ (x : WriteLine). x.address ++ (x.value ++ x.enable)) r.writes line (OnWire b) j (k b l))))
