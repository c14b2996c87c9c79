-- The items of a rule stand in their places and no others, and leave the rule that is written.
use Rattle.std.proofs.Common.{◌≡◌, refl, sym, ◌∙◌, ap, subst, ℕ, ◌<◌, true, List, [], ◌∷◌, ◌++◌, length, Some, Ok, arith, append_assoc, append-nil}
use Rattle.rtl_lex.specs.declared.sort.Sort.{Sort}
use Rattle.rtl_lex.specs.declared.sort.Sort.TheVariants as sorts
use Rattle.rtl_lex.specs.Items.{Seen}
use Rattle.rtl_sig.specs.declared.sig.SigBit.{SigBit}
use Rattle.rtl_ir.specs.declared.module.Link.{Link}
use Rattle.rtl_ir.specs.declared.value.Value.{Value}
use Rattle.rtl_ir.specs.declared.value.Attribute.{Attribute}
use Rattle.rtl_ir.specs.declared.process.Event.{Event}
use Rattle.rtl_ir.specs.declared.process.SyncRule.{SyncRule}
use Rattle.rtl_ir.specs.declared.process.WriteLine.{WriteLine}
use Rattle.rtl_ir.specs.declared.wire.Wire.{Wire}
use Rattle.rtl_grammar.specs.declared.expect.Expect.{Expect}
use Rattle.rtl_grammar.specs.declared.expect.Expect.TheVariants as expects
use Rattle.rtl_grammar.specs.Grammar.{after, Derives}
use Rattle.rtl_grammar.specs.Uses.{Use, roles_of, items_of, run, ◌>>=◌}
use Rattle.rtl_grammar.proofs.Reading.{ending, ends}
use Rattle.rtl_read.specs.declared.draft.Draft.{Draft}
use Rattle.rtl_read.specs.declared.draft.PairKind.TheVariants.{Update}
use Rattle.rtl_read.specs.declared.signal.OpenSignal.{OpenSignal}
use Rattle.rtl_read.specs.Act.{act}
use Rattle.rtl_read.specs.Act.Signal.{without_signal}
use Rattle.rtl_read.specs.Act.Sync.{act_sync_body, act_next_write, act_behind_event, act_behind_enable, end_write}
use Rattle.rtl_read.specs.Constant as reader
use Rattle.rtl_read.specs.Signal.{some_bits}
use Rattle.rtl_read.specs.Meaning.Attribute.{no_attributes}
use Rattle.rtl_read.specs.Meaning.Process.{event_of, event_with, plain_rule, with_event, open_write, with_memory, with_address, with_value, close_write}
use Rattle.read_laws.specs.SignalBits.{places_of, placed, where_some}
use Rattle.read_laws.specs.ConstantBits.{is_constant, HasValue}
use Rattle.read_laws.specs.Lines.{AttributeLine, attribute_places, place_behind, pair_places, between_lines}
use Rattle.read_laws.specs.Rules.{EventLine, OnSignal, OnWord, MemoryLine, RuleLine, OneUpdate, OneWrite, WrittenRule, event_on, event_alone, GivesEvent, IsMemoryLine, GivesWrite, GiveLines, GivesRule, event_places, write_places, line_places, rule_places, with_rule, after_rule}
use Rattle.read_laws.proofs.SignalBits.{bind_on, then_runs}
use Rattle.read_laws.proofs.Places.{stands_so, same_uses}
use Rattle.read_laws.proofs.ConstantBits.{is_read, has_constant}
use Rattle.read_laws.proofs.Lines.{fine, one_step, signal_step, Stays, attributes_run, pair_run, behind_all, attributes_stand, pair_stands}

-- ---- the event

on_is : (sort : Sort) (sig : List SigBit) (event : Event) → event_on sort sig ≡ Some event → event_with sig (event_of sort) ≡ event
on_is sorts.Low sig event e = cc
on_is sorts.High sig event e = cc
on_is sorts.Posedge sig event e = cc
on_is sorts.Negedge sig event e = cc
on_is sorts.Edge sig event e = cc
on_is sort sig event e = absurd cc

alone_is : (sort : Sort) (event : Event) → event_alone sort ≡ Some event → event_of sort ≡ event
alone_is sorts.Global event e = cc
alone_is sorts.Init event e = cc
alone_is sorts.Always event e = cc
alone_is sort event e = absurd cc

on_stands : (sort : Sort) (sig : List SigBit) (event : Event) → event_on sort sig ≡ Some event → after expects.SyncEvent sort ≡ Some (expects.Signal ∷ expects.BehindEvent ∷ [])
on_stands sorts.Low sig event e = refl
on_stands sorts.High sig event e = refl
on_stands sorts.Posedge sig event e = refl
on_stands sorts.Negedge sig event e = refl
on_stands sorts.Edge sig event e = refl
on_stands sort sig event e = absurd cc

alone_stands : (sort : Sort) (event : Event) → event_alone sort ≡ Some event → after expects.SyncEvent sort ≡ Some (expects.EndOfLine ∷ [])
alone_stands sorts.Global event e = refl
alone_stands sorts.Init event e = refl
alone_stands sorts.Always event e = refl
alone_stands sort event e = absurd cc

pub some_ok : (bits : List SigBit) (i : Seen) → 0 < length bits → some_bits bits i ≡ Ok bits
some_ok [] i lt = absurd (omega (arith, lt))
some_ok (b ∷ bs) i lt = refl

some_where : (bits : List SigBit) (d : Draft) → 0 < length bits → where_some bits d ≡ Some d
some_where [] d lt = absurd (omega (arith, lt))
some_where (b ∷ bs) d lt = refl

event_run : (e : EventLine) (event : Event) (d : Draft) → GivesEvent d.current.body.wires d.current.wire_names e event → run act (between_lines d) (event_places e) ≡ Ok (with_rule (plain_rule event) (between_lines d))
event_run (OnWord word line) event d g = ap (λ (o : Event). fine (with_rule (plain_rule o) (between_lines d))) (alone_is word.sort event g.1)
event_run (OnSignal word signal line) event d (l, w, (sig, bits, some, is)) =
    let x : Draft = with_rule (plain_rule (event_of word.sort)) (between_lines d) in
    let end : Draft = with_rule (plain_rule event) (between_lines d) in
    let tail : List Use = placed expects.BehindEvent line ∷ [] in
    one_step expects.SyncEvent word (places_of expects.Signal expects.BehindEvent signal ++ tail) (between_lines d) x end refl
    (signal_step signal sig expects.Signal expects.BehindEvent x x end tail refl refl w bits refl
    (λ (s : OpenSignal) (e : s.part ≡ sig).
    let y : Draft = record x { signal = s } in
    let many : 0 < length s.part = subst (λ (b : List SigBit). 0 < length b) (sym e) some in
    bind_on (act expects.BehindEvent line y) (record x { process = with_event s.part x.process }) fine
    (ap (λ (sort : Sort). act_behind_event sort line y) l ∙ bind_on (some_bits s.part line) s.part (λ (b : List SigBit). fine (record (without_signal y) { process = with_event b y.process })) (some_ok s.part line many))
    ∙ ap (λ (b : List SigBit). fine (with_rule (plain_rule (event_with b (event_of word.sort))) (between_lines d))) e
    ∙ ap (λ (o : Event). fine (with_rule (plain_rule o) (between_lines d))) (on_is word.sort sig event is)))

-- ---- a `memwr` line

body_stays : Stays expects.SyncBody
body_stays i x e = ap (λ (sort : Sort). fine (act_sync_body sort x)) e

next_stays : Stays expects.NextWrite
next_stays i x e = ap (λ (sort : Sort). fine (act_next_write sort x)) e

abbrev opened : Draft → Draft
opened x = record x { process = open_write x.attributes.items x.process; attributes = no_attributes }

write_opens : (lines : List AttributeLine) (i : Seen) (x : Draft) → i.sort ≡ sorts.Memwr → act (place_behind expects.SyncBody expects.NextWrite lines) i x ≡ Ok (opened x)
write_opens [] i x e = ap (λ (sort : Sort). fine (act_sync_body sort x)) e
write_opens (a ∷ lines) i x e = ap (λ (sort : Sort). fine (act_next_write sort x)) e

mask_ends : (sort : Sort) (i : Seen) (x : Draft) → is_constant sort ≡ true → act_behind_enable sort i x ≡ (some_bits x.signal.part i >>= λ sig. end_write sig sort i (without_signal x))
mask_ends sorts.Value i x c = refl
mask_ends sorts.Int i x c = refl
mask_ends sorts.Chars i x c = refl
mask_ends sort i x c = absurd cc

mask_does : (i : Seen) (v : Value) (x : Draft) → HasValue i v → 0 < length x.signal.part → act expects.BehindEnable i x ≡ Ok (record (without_signal x) { process = close_write x.signal.part v x.process })
mask_does i v x h lt =
    mask_ends i.sort i x (has_constant i v h)
    ∙ bind_on (some_bits x.signal.part i) x.signal.part (λ (b : List SigBit). end_write b i.sort i (without_signal x)) (some_ok x.signal.part i lt)
    ∙ bind_on (reader.constant i.sort i) v (λ (mask : Value). fine (record (without_signal x) { process = close_write x.signal.part mask x.process })) (is_read i v h)

-- a write by its parts
abbrev made : List Attribute → List ℕ → List SigBit → List SigBit → List SigBit → Value → WriteLine
made attributes memory address value enable mask = record { memory = memory; address = address; value = value; enable = enable; mask = mask; attributes = attributes }

abbrev with_write : WriteLine → Draft → Draft
with_write write d = with_rule (record d.process.rule { writes = d.process.rule.writes ++ write ∷ [] }) (between_lines d)

write_run : (w : MemoryLine) (write : WriteLine) (d : Draft) → GivesWrite d.current.body.wires d.current.wire_names w write → run act (between_lines d) (write_places w) ≡ Ok (with_write write d)
write_run w write d g =
    let end : Draft = with_write write d in
    let x0 : Draft = between_lines d in
    let x1 : Draft = record x0 { attributes = g.all } in
    let x2 : Draft = opened x1 in
    let x3 : Draft = record x2 { process = with_memory w.memory x2.process } in
    let mask : List Use = placed expects.BehindEnable w.mask ∷ placed expects.EndOfLine w.line ∷ [] in
    let enable : List Use = places_of expects.BehindValue expects.BehindEnable w.enable ++ mask in
    let value : List Use = places_of expects.BehindAddress expects.BehindValue w.value ++ enable in
    let address : List Use = places_of expects.Signal expects.BehindAddress w.address ++ value in
    let place : Expect = place_behind expects.SyncBody expects.NextWrite w.attributes in
    then_runs act (attribute_places expects.SyncBody expects.NextWrite w.attributes) (placed place w.word ∷ placed expects.WriteMemory w.memory ∷ address) x0 x1 end
    (attributes_run expects.SyncBody expects.NextWrite w.attributes x0 no_attributes g.all body_stays next_stays g.sorts.attributes g.have)
    (one_step place w.word (placed expects.WriteMemory w.memory ∷ address) x1 x2 end (write_opens w.attributes w.word x1 g.sorts.word)
    (one_step expects.WriteMemory w.memory address x2 x3 end refl
    (signal_step w.address write.address expects.Signal expects.BehindAddress x3 x3 end value refl refl g.sorts.address g.address refl
    (λ (s : OpenSignal) (e : s.part ≡ write.address).
    let x4 : Draft = record x3 { process = with_address s.part x3.process } in
    let many : 0 < length s.part = subst (λ (b : List SigBit). 0 < length b) (sym e) g.some_address in
    signal_step w.value write.value expects.BehindAddress expects.BehindValue (record x3 { signal = s }) x4 end enable refl (some_where s.part x4 many) g.sorts.value g.value refl
    (λ (s' : OpenSignal) (e' : s'.part ≡ write.value).
    let x5 : Draft = record x4 { process = with_value s'.part x4.process } in
    let many' : 0 < length s'.part = subst (λ (b : List SigBit). 0 < length b) (sym e') g.some_value in
    signal_step w.enable write.enable expects.BehindValue expects.BehindEnable (record x4 { signal = s' }) x5 end mask refl (some_where s'.part x5 many') g.sorts.enable g.enable refl
    (λ (t : OpenSignal) (e'' : t.part ≡ write.enable).
    let x6 : Draft = record x5 { signal = t } in
    let many'' : 0 < length t.part = subst (λ (b : List SigBit). 0 < length b) (sym e'') g.some_enable in
    let x7 : Draft = record x5 { process = close_write t.part write.mask x5.process } in
    bind_on (act expects.BehindEnable w.mask x6) x7 fine (mask_does w.mask write.mask x6 g.mask many'')
    ∙ ap (λ (a : List Attribute). fine (with_write (made a w.memory.text s.part s'.part t.part write.mask) d)) (sym g.attributes)
    ∙ ap (λ (m : List ℕ). fine (with_write (made write.attributes m s.part s'.part t.part write.mask) d)) (sym g.memory)
    ∙ ap (λ (b : List SigBit). fine (with_write (made write.attributes write.memory b s'.part t.part write.mask) d)) e
    ∙ ap (λ (b : List SigBit). fine (with_write (made write.attributes write.memory write.address b t.part write.mask) d)) e'
    ∙ ap (λ (b : List SigBit). fine (with_write (made write.attributes write.memory write.address write.value b write.mask) d)) e''))))))

-- ---- the lines

abbrev with_lines : List Link → List WriteLine → SyncRule → SyncRule
with_lines updates writes rule = record rule { updates = rule.updates ++ updates; writes = rule.writes ++ writes }

update_opens : (i : Seen) (x : Draft) → i.sort ≡ sorts.Update → act expects.SyncBody i x ≡ Ok (record x { pair = Update })
update_opens i x e = ap (λ (sort : Sort). fine (act_sync_body sort x)) e

lines_run : (lines : List RuleLine) (updates : List Link) (writes : List WriteLine) (d : Draft) → GiveLines d.current.body.wires d.current.wire_names lines updates writes → run act (between_lines d) (line_places lines) ≡ Ok (with_rule (with_lines updates writes d.process.rule) (between_lines d))
lines_run [] updates writes d g =
    let rule : SyncRule = d.process.rule in
    ap (λ (u : List Link). fine (with_rule (record rule { updates = u }) (between_lines d))) (sym (append-nil rule.updates) ∙ ap (λ (u : List Link). rule.updates ++ u) (sym g.0))
    ∙ ap (λ (v : List WriteLine). fine (with_rule (record rule { updates = rule.updates ++ updates; writes = v }) (between_lines d))) (sym (append-nil rule.writes) ∙ ap (λ (v : List WriteLine). rule.writes ++ v) (sym g.1))
lines_run (OneUpdate p ∷ lines) updates writes d (w, (link, rest, gives, others, is)) =
    let rule : SyncRule = d.process.rule in
    let next : Draft = with_rule (record rule { updates = rule.updates ++ link ∷ [] }) d in
    let shape : (rule.updates ++ link ∷ []) ++ rest ≡ rule.updates ++ updates = append_assoc rule.updates (link ∷ []) rest ∙ ap (λ (u : List Link). rule.updates ++ u) (sym is) in
    then_runs act (pair_places expects.SyncBody p) (line_places lines) (between_lines d) (between_lines next) (with_rule (with_lines updates writes rule) (between_lines d))
    (pair_run expects.SyncBody Update p link (between_lines d) (update_opens p.word (between_lines d) w.0) w.1 w.2 w.3 gives refl)
    (lines_run lines rest writes next others
    ∙ ap (λ (u : List Link). fine (with_rule (record rule { updates = u; writes = rule.writes ++ writes }) (between_lines d))) shape)
lines_run (OneWrite w ∷ lines) updates writes d (write, rest, gives, others, is) =
    let rule : SyncRule = d.process.rule in
    let next : Draft = with_rule (record rule { writes = rule.writes ++ write ∷ [] }) d in
    let shape : (rule.writes ++ write ∷ []) ++ rest ≡ rule.writes ++ writes = append_assoc rule.writes (write ∷ []) rest ∙ ap (λ (v : List WriteLine). rule.writes ++ v) (sym is) in
    then_runs act (write_places w) (line_places lines) (between_lines d) (between_lines next) (with_rule (with_lines updates writes rule) (between_lines d))
    (write_run w write d gives)
    (lines_run lines updates rest next others
    ∙ ap (λ (v : List WriteLine). fine (with_rule (record rule { updates = rule.updates ++ updates; writes = v }) (between_lines d))) shape)

pub parts : (r : WrittenRule) (rule : SyncRule) (d : Draft) → GivesRule d.current.body.wires d.current.wire_names r rule → run act (between_lines d) (rule_places r) ≡ Ok (with_rule rule (between_lines d))
parts r rule d g =
    let next : Draft = with_rule (plain_rule rule.event) d in
    then_runs act (event_places r.event) (line_places r.lines) (between_lines d) (between_lines next) (with_rule rule (between_lines d))
    (event_run r.event rule.event d g.0)
    (lines_run r.lines rule.updates rule.writes next g.1)

pub closes : (i : Seen) (rule : SyncRule) (d : Draft) → i.sort ≡ sorts.Sync → act expects.SyncBody i (with_rule rule d) ≡ Ok (after_rule rule d)
closes i rule d e = ap (λ (sort : Sort). fine (act_sync_body sort (with_rule rule d))) e

-- ---- their places

event_stands : (wires : List Wire) (names : List (List ℕ)) (e : EventLine) (event : Event) (roles : List Expect) (more : List Use) → GivesEvent wires names e event → Derives roles (roles_of more) → Derives (expects.SyncEvent ∷ roles) (roles_of (event_places e ++ more))
event_stands wires names (OnWord word line) event roles more g d = (refl, (expects.EndOfLine ∷ [], alone_stands word.sort event g.1, (refl, ([], ap (after expects.EndOfLine) g.0, d))))
event_stands wires names (OnSignal word signal line) event roles more (l, w, (sig, bits, some, is)) d =
    let places : List Use = places_of expects.Signal expects.BehindEvent signal in
    let tail : List Use = placed expects.BehindEvent line ∷ [] in (
      refl,
      (
        expects.Signal ∷ expects.BehindEvent ∷ [],
        on_stands word.sort sig event is,
        subst (λ (us : List Use). Derives (expects.Signal ∷ expects.BehindEvent ∷ roles) (roles_of us)) (sym (append_assoc places tail more))
            (stands_so signal expects.Signal expects.BehindEvent roles (tail ++ more) refl w (refl, ([], ap (after expects.BehindEvent) l, d))),
      ),
    )

mask_stands : (sort : Sort) → is_constant sort ≡ true → after expects.BehindEnable sort ≡ Some (expects.EndOfLine ∷ [])
mask_stands sorts.Value c = refl
mask_stands sorts.Int c = refl
mask_stands sorts.Chars c = refl
mask_stands sort c = absurd cc

write_stands : (w : MemoryLine) (v : Value) (roles : List Expect) (more : List Use) → IsMemoryLine w → HasValue w.mask v → Derives (expects.SyncBody ∷ roles) (roles_of more) → Derives (expects.SyncBody ∷ roles) (roles_of (write_places w ++ more))
write_stands w v roles more is h d =
    let mask : List Use = placed expects.BehindEnable w.mask ∷ placed expects.EndOfLine w.line ∷ [] in
    let enable : List Use = places_of expects.BehindValue expects.BehindEnable w.enable in
    let value : List Use = places_of expects.BehindAddress expects.BehindValue w.value in
    let address : List Use = places_of expects.Signal expects.BehindAddress w.address in
    let front : List Use = attribute_places expects.SyncBody expects.NextWrite w.attributes in
    let place : Expect = place_behind expects.SyncBody expects.NextWrite w.attributes in
    let head : List Use = placed place w.word ∷ placed expects.WriteMemory w.memory ∷ (address ++ (value ++ (enable ++ mask))) in
    let below : List Expect = expects.SyncBody ∷ roles in
    let shape : (address ++ (value ++ (enable ++ mask))) ++ more ≡ address ++ (value ++ (enable ++ (mask ++ more))) =
    append_assoc address (value ++ (enable ++ mask)) more
    ∙ ap (λ (us : List Use). address ++ us) (append_assoc value (enable ++ mask) more ∙ ap (λ (us : List Use). value ++ us) (append_assoc enable mask more)) in
    let signals : Derives (expects.Signal ∷ expects.BehindAddress ∷ below) (roles_of ((address ++ (value ++ (enable ++ mask))) ++ more)) =
    subst (λ (us : List Use). Derives (expects.Signal ∷ expects.BehindAddress ∷ below) (roles_of us)) (sym shape)
    (stands_so w.address expects.Signal expects.BehindAddress below (value ++ (enable ++ (mask ++ more))) refl is.address
    (stands_so w.value expects.BehindAddress expects.BehindValue below (enable ++ (mask ++ more)) refl is.value
    (stands_so w.enable expects.BehindValue expects.BehindEnable below (mask ++ more) refl is.enable
    (refl, (expects.EndOfLine ∷ [], mask_stands w.mask.sort (has_constant w.mask v h), (refl, ([], ap (after expects.EndOfLine) is.line, d))))))) in
    let rest : Derives (expects.WriteMemory ∷ below) (roles_of (placed expects.WriteMemory w.memory ∷ ((address ++ (value ++ (enable ++ mask))) ++ more))) =
    (refl, (expects.Signal ∷ expects.BehindAddress ∷ [], ap (after expects.WriteMemory) is.memory, signals)) in
    subst (λ (us : List Use). Derives below (roles_of us)) (sym (append_assoc front head more))
    (attributes_stand expects.SyncBody expects.NextWrite w.attributes (expects.SyncBody ∷ []) roles (head ++ more) refl refl is.attributes (word w.attributes (placed expects.WriteMemory w.memory ∷ ((address ++ (value ++ (enable ++ mask))) ++ more)) rest))
  where
    word : (lines : List AttributeLine) (us : List Use) → Derives (expects.WriteMemory ∷ expects.SyncBody ∷ roles) (roles_of us) → Derives (behind_all expects.SyncBody expects.NextWrite (expects.SyncBody ∷ []) lines ++ roles) (roles_of (placed (place_behind expects.SyncBody expects.NextWrite lines) w.word ∷ us))
    word [] us r = (refl, (expects.WriteMemory ∷ expects.SyncBody ∷ [], ap (after expects.SyncBody) is.word, r))
    word (a ∷ lines) us r = (refl, (expects.WriteMemory ∷ [], ap (after expects.NextWrite) is.word, r))

lines_stand : (wires : List Wire) (names : List (List ℕ)) (lines : List RuleLine) (updates : List Link) (writes : List WriteLine) (roles : List Expect) (more : List Use) → GiveLines wires names lines updates writes → Derives (expects.SyncBody ∷ roles) (roles_of more) → Derives (expects.SyncBody ∷ roles) (roles_of (line_places lines ++ more))
lines_stand wires names [] updates writes roles more g d = d
lines_stand wires names (OneUpdate p ∷ lines) updates writes roles more (w, (link, rest, gives, others, is)) d =
    subst (λ (us : List Use). Derives (expects.SyncBody ∷ roles) (roles_of us)) (sym (append_assoc (pair_places expects.SyncBody p) (line_places lines) more))
    (pair_stands expects.SyncBody sorts.Update p roles (line_places lines ++ more) refl w.0 w.1 w.2 w.3 (lines_stand wires names lines rest writes roles more others d))
lines_stand wires names (OneWrite w ∷ lines) updates writes roles more (write, rest, gives, others, is) d =
    subst (λ (us : List Use). Derives (expects.SyncBody ∷ roles) (roles_of us)) (sym (append_assoc (write_places w) (line_places lines) more))
    (write_stands w write.mask roles (line_places lines ++ more) gives.sorts gives.mask (lines_stand wires names lines updates rest roles more others d))

pub stands : (r : WrittenRule) (rule : SyncRule) (wires : List Wire) (names : List (List ℕ)) (roles : List Expect) (more : List Use) → GivesRule wires names r rule → Derives (expects.SyncBody ∷ roles) (roles_of more) → Derives (expects.SyncEvent ∷ expects.SyncBody ∷ roles) (roles_of (rule_places r ++ more))
stands r rule wires names roles more g d =
    subst (λ (us : List Use). Derives (expects.SyncEvent ∷ expects.SyncBody ∷ roles) (roles_of us)) (sym (append_assoc (event_places r.event) (line_places r.lines) more))
    (event_stands wires names r.event rule.event (expects.SyncBody ∷ roles) (line_places r.lines ++ more) g.0 (lines_stand wires names r.lines rule.updates rule.writes roles more g.1 d))

pub only_so : (r : WrittenRule) (rule : SyncRule) (wires : List Wire) (names : List (List ℕ)) (roles : List Expect) (uses more : List Use) → GivesRule wires names r rule → items_of uses ≡ items_of (rule_places r) → Derives (expects.SyncEvent ∷ expects.SyncBody ∷ roles) (roles_of (uses ++ more)) → uses ≡ rule_places r
only_so r rule wires names roles uses more g same d =
    let end : List Use = ending (expects.SyncBody ∷ roles) in
    same_uses uses (rule_places r) more end (expects.SyncEvent ∷ expects.SyncBody ∷ roles) d (stands r rule wires names roles end g (ends (expects.SyncBody ∷ roles))) same
