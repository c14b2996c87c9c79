-- Reading goes over the rules of a process.
use Rattle.std.proofs.Common.{◌≡◌, ℕ, ◌<◌, List, [], ◌∷◌, ◌++◌, length, map, append_assoc, append-nil, Some, Result, Ok, refl, sym, ap, subst, ◌∙◌}
use Rattle.std.specs.Prelude.{codes}
use Rattle.std.specs.List.{All, flat_map}
use Rattle.std.proofs.lemmas.List.Elements.{All-head, All-tail}
use Rattle.rtl_lex.specs.declared.place.Place.{Place}
use Rattle.rtl_lex.specs.declared.sort.Sort.{Sort}
use Rattle.rtl_lex.specs.declared.sort.Sort.TheVariants as sorts
use Rattle.rtl_lex.specs.declared.token.TokenKind.TheVariants as kinds
use Rattle.rtl_lex.specs.Sorts.{word_sort, module_word, option_word, process_word, event_word, mark_sort}
use Rattle.rtl_lex.specs.Items.{Seen}
use Rattle.rtl_sig.specs.Names.{AreDistinct}
use Rattle.rtl_sig.specs.declared.sig.SigBit.{SigBit}
use Rattle.rtl_ir.specs.declared.value.Value.{Value}
use Rattle.rtl_ir.specs.declared.wire.Wire.{Wire}
use Rattle.rtl_ir.specs.declared.module.Link.{Link}
use Rattle.rtl_ir.specs.declared.module.Module.{Module}
use Rattle.rtl_ir.specs.declared.process.Event.{Event}
use Rattle.rtl_ir.specs.declared.process.Event.TheVariants as events
use Rattle.rtl_ir.specs.declared.process.WriteLine.{WriteLine}
use Rattle.rtl_ir.specs.declared.process.SyncRule.{SyncRule}
use Rattle.rtl_grammar.specs.declared.expect.Expect.{Expect}
use Rattle.rtl_grammar.specs.declared.expect.Expect.TheVariants as expects
use Rattle.rtl_grammar.specs.Grammar.{after}
use Rattle.rtl_grammar.specs.Uses.{◌>>=◌}
use Rattle.rtl_read.specs.declared.draft.Draft.{Draft}
use Rattle.rtl_read.specs.declared.draft.PairKind.TheVariants.{Update}
use Rattle.rtl_read.specs.declared.open_module.OpenModule.{OpenModule}
use Rattle.rtl_read.specs.declared.open_process.OpenProcess.{OpenProcess}
use Rattle.rtl_read.specs.declared.read_fault.ReadFault.{ReadFault}
use Rattle.rtl_read.specs.declared.signal.OpenSignal.{OpenSignal}
use Rattle.rtl_read.specs.Signal.{no_signal, some_bits}
use Rattle.rtl_read.specs.Meaning.Process.{plain_rule, plain_write, open_rule, with_event, with_update, open_write, with_address, with_value, close_write}
use Rattle.rtl_read.specs.Act.{act}
use Rattle.rtl_read.specs.Act.Process.{close_process}
use Rattle.rtl_read.specs.Act.Signal.{begin_signal}
use Rattle.rtl_readable.specs.Readable.{IsWire, IsLink, IsSomeSignal, IsEvent, IsWrite, IsRule}
use Rattle.rtl_write.proofs.Printed.{Printed, EndLine}
use Rattle.rtl_write.proofs.Lexing.{seen_at}
use Rattle.rtl_write.proofs.Going.{Goes, goes_none, goes_then, goes_on, goes_line, goes_each, goes_constant, goes_attributes, waiting, TakesAttributes, all_at, okay}
use Rattle.rtl_write.proofs.GoingSignals.{Begins, TakesSlices, IsOver, with_signal, goes_signal}
use Rattle.rtl_write.proofs.GoingCells.{begins_signal}
use Rattle.rtl_write.proofs.GoingPairs.{some_bits_are, goes_pair}
use Rattle.rtl_write.proofs.GoingWires.{at}
use Rattle.rtl_write.proofs.Tokens as tokens
use Rattle.rtl_write.proofs.Tokens.{word}

slices_event : TakesSlices expects.BehindEvent
unfolding mark_sort
slices_event = record { opens = refl; brackets = λ d place. refl }

slices_address : TakesSlices expects.BehindAddress
unfolding mark_sort
slices_address = record { opens = refl; brackets = λ d place. refl }

slices_value : TakesSlices expects.BehindValue
unfolding mark_sort
slices_value = record { opens = refl; brackets = λ d place. refl }

slices_enable : TakesSlices expects.BehindEnable
unfolding mark_sort
slices_enable = record { opens = refl; brackets = λ d place. refl }

-- the value begins where the address ends, and the enable where the value ends
begins_value : (d : Draft) (s : OpenSignal) (sig : List SigBit) → s.part ≡ sig → 0 < length sig → Begins expects.BehindAddress (expects.BehindValue ∷ []) (with_signal s d) (record d { signal = no_signal; process = with_address sig d.process })
unfolding mark_sort
begins_value d s sig part some =
    let on : (i : Seen) → some_bits s.part i ≡ Ok sig = λ i. ap (λ (l : List SigBit). some_bits l i) part ∙ some_bits_are sig i some in
    let then : Sort → Seen → Result (List SigBit) ReadFault → Result Draft ReadFault = λ (sort : Sort) (i : Seen) (r : Result (List SigBit) ReadFault). r >>= λ x. begin_signal sort i (record d { signal = no_signal; process = with_address x d.process }) in
    record {
      name = refl;
      value = refl;
      brace = refl;
      begins_name = λ text place. ap (then sorts.Id (seen_at kinds.Id text place)) (on (seen_at kinds.Id text place));
      begins_value = λ text place. ap (then sorts.Value (seen_at kinds.Value text place)) (on (seen_at kinds.Value text place));
      begins_brace = λ place. ap (then sorts.OpenBrace (seen_at kinds.Mark (123 ∷ []) place)) (on (seen_at kinds.Mark (123 ∷ []) place));
    }

begins_enable : (d : Draft) (s : OpenSignal) (sig : List SigBit) → s.part ≡ sig → 0 < length sig → Begins expects.BehindValue (expects.BehindEnable ∷ []) (with_signal s d) (record d { signal = no_signal; process = with_value sig d.process })
unfolding mark_sort
begins_enable d s sig part some =
    let on : (i : Seen) → some_bits s.part i ≡ Ok sig = λ i. ap (λ (l : List SigBit). some_bits l i) part ∙ some_bits_are sig i some in
    let then : Sort → Seen → Result (List SigBit) ReadFault → Result Draft ReadFault = λ (sort : Sort) (i : Seen) (r : Result (List SigBit) ReadFault). r >>= λ x. begin_signal sort i (record d { signal = no_signal; process = with_value x d.process }) in
    record {
      name = refl;
      value = refl;
      brace = refl;
      begins_name = λ text place. ap (then sorts.Id (seen_at kinds.Id text place)) (on (seen_at kinds.Id text place));
      begins_value = λ text place. ap (then sorts.Value (seen_at kinds.Value text place)) (on (seen_at kinds.Value text place));
      begins_brace = λ place. ap (then sorts.OpenBrace (seen_at kinds.Mark (123 ∷ []) place)) (on (seen_at kinds.Mark (123 ∷ []) place));
    }

-- where the attributes of a `memwr` line may stand
takes_write : (d : Draft) → TakesAttributes expects.SyncBody expects.NextWrite (expects.SyncBody ∷ []) d
unfolding word_sort module_word option_word process_word event_word
takes_write d = record { first = refl; later = refl; keeps_first = λ remarks place. refl; keeps_later = λ remarks place. refl }

module _ {wires : List Wire} (all : All IsWire wires) (distinct : AreDistinct (map (λ w. w.name) wires)) (modules : List Module) (names : List (List ℕ)) (current : OpenModule) (over : IsOver wires (at modules names current)) where
  -- the draft with this open process
  abbrev pub now : OpenProcess → Draft
  now p = record (at modules names current) { process = p }

  over_now : (p : OpenProcess) → IsOver wires (now p)
  over_now p = record { wires_are = over.wires_are; names_are = over.names_are }

  -- ---- events

  -- the signal of an event, and the end of its line
  goes_event_signal : {qs : List Printed} {stack back : List Expect} {e : Draft} (p : OpenProcess) (sig : List SigBit) → IsSomeSignal wires sig → Goes qs stack (now (with_event sig p)) back e
      → Goes (tokens.signal wires sig ++ EndLine ∷ qs) (expects.Signal ∷ expects.BehindEvent ∷ stack) (now p) back e
  goes_event_signal p sig is more =
      let put : Result (List SigBit) ReadFault → Result Draft ReadFault = λ (r : Result (List SigBit) ReadFault). r >>= λ x. okay (now (with_event x p)) in
      goes_signal all distinct sig is.signal refl (begins_signal (now p)) slices_event (over_now p) refl (λ s part braces.
      goes_line [] (now (with_event sig p)) refl (λ text place. ap (λ (l : List SigBit). put (some_bits l (seen_at kinds.Line text place))) part ∙ ap put (some_bits_are sig (seen_at kinds.Line text place) is.some)) more)

  goes_event : {qs : List Printed} {stack back : List Expect} {e : Draft} (p : OpenProcess) (v : Event) → IsEvent wires v → Goes qs stack (now (record p { rule = plain_rule v })) back e
      → Goes (tokens.event wires v ++ EndLine ∷ qs) (expects.SyncEvent ∷ stack) (now p) back e
  unfolding word_sort module_word option_word process_word event_word
  goes_event p (events.Low sig) is more = goes_on (expects.Signal ∷ expects.BehindEvent ∷ []) (λ q. now (open_rule sorts.Low p)) refl (λ q. refl) (λ q. goes_event_signal (open_rule sorts.Low p) sig is more)
  goes_event p (events.High sig) is more = goes_on (expects.Signal ∷ expects.BehindEvent ∷ []) (λ q. now (open_rule sorts.High p)) refl (λ q. refl) (λ q. goes_event_signal (open_rule sorts.High p) sig is more)
  goes_event p (events.Posedge sig) is more = goes_on (expects.Signal ∷ expects.BehindEvent ∷ []) (λ q. now (open_rule sorts.Posedge p)) refl (λ q. refl) (λ q. goes_event_signal (open_rule sorts.Posedge p) sig is more)
  goes_event p (events.Negedge sig) is more = goes_on (expects.Signal ∷ expects.BehindEvent ∷ []) (λ q. now (open_rule sorts.Negedge p)) refl (λ q. refl) (λ q. goes_event_signal (open_rule sorts.Negedge p) sig is more)
  goes_event p (events.Edge sig) is more = goes_on (expects.Signal ∷ expects.BehindEvent ∷ []) (λ q. now (open_rule sorts.Edge p)) refl (λ q. refl) (λ q. goes_event_signal (open_rule sorts.Edge p) sig is more)
  goes_event p events.Global is more = goes_on (expects.EndOfLine ∷ []) (λ q. now (open_rule sorts.Global p)) refl (λ q. refl) (λ q. goes_line [] (now (open_rule sorts.Global p)) refl (λ text place. refl) more)
  goes_event p events.Init is more = goes_on (expects.EndOfLine ∷ []) (λ q. now (open_rule sorts.Init p)) refl (λ q. refl) (λ q. goes_line [] (now (open_rule sorts.Init p)) refl (λ text place. refl) more)
  goes_event p events.Always is more = goes_on (expects.EndOfLine ∷ []) (λ q. now (open_rule sorts.Always p)) refl (λ q. refl) (λ q. goes_line [] (now (open_rule sorts.Always p)) refl (λ text place. refl) more)

  -- ---- lines

  goes_update : (roles : List Expect) (p : OpenProcess) (l : Link) → IsLink wires l → Goes (tokens.update wires l) (expects.SyncBody ∷ roles) (now p) (expects.SyncBody ∷ roles) (now (with_update l p))
  unfolding word_sort module_word option_word process_word event_word
  goes_update roles p l is =
      goes_on (expects.Signal ∷ expects.BehindLeft ∷ expects.SyncBody ∷ []) (λ q. record (now p) { pair = Update }) refl (λ q. refl) (λ q.
      goes_pair all distinct l (now (with_update l p)) (record { wires_are = over.wires_are; names_are = over.names_are }) refl is
      (λ left s e f. ap (λ (x : List SigBit). now (with_update (record { left = x; right = s.part }) p)) e ∙ ap (λ (x : List SigBit). now (with_update (record { left = l.left; right = x }) p)) f)
      goes_none)

  -- an open rule
  abbrev ruled : OpenProcess → Event → List Link → List WriteLine → OpenProcess
  ruled p v updates writes = record p { rule = record { event = v; updates = updates; writes = writes }; write = plain_write [] }

  goes_write_line : (roles : List Expect) (p : OpenProcess) (v : Event) (updates : List Link) (front : List WriteLine) (w : WriteLine) (role : Expect) (body stack : List Expect) → IsWrite wires w
      → after role sorts.Memwr ≡ Some body → body ++ stack ≡ expects.WriteMemory ∷ expects.SyncBody ∷ roles
      → ((place : Place) → act role (seen_at kinds.Word (codes "memwr") place) (waiting w.attributes (now (ruled p v updates front))) ≡ Ok (now (open_write w.attributes (ruled p v updates front))))
      → Goes (tokens.write_line wires w) (role ∷ stack) (waiting w.attributes (now (ruled p v updates front))) (expects.SyncBody ∷ roles) (now (ruled p v updates (front ++ w ∷ [])))
  unfolding word_sort module_word option_word process_word event_word
  goes_write_line roles p v updates front w role body stack is can stacked does =
      let p0 = open_write w.attributes (ruled p v updates front) in
      let p1 : OpenProcess = record p0 { write = record p0.write { memory = w.memory } } in
      let p2 = with_address w.address p1 in
      let p3 = with_value w.value p2 in
      let last = now (ruled p v updates (front ++ w ∷ [])) in
      let back : List Expect = expects.SyncBody ∷ roles in
      let put : List SigBit → Result Value ReadFault → Result Draft ReadFault = λ (sig : List SigBit) (r : Result Value ReadFault). r >>= λ m. okay (now (close_write sig m p3)) in
      let on : Result (List SigBit) ReadFault → Result Value ReadFault → Result Draft ReadFault = λ (b : Result (List SigBit) ReadFault) (r : Result Value ReadFault). b >>= λ sig. put sig r in
      let masks : (s : OpenSignal) (i : Seen) (r : Result Value ReadFault) → s.part ≡ w.enable → r ≡ Ok w.mask → on (some_bits s.part i) r ≡ Ok last = λ s i r part e.
      ap (λ (l : List SigBit). on (some_bits l i) r) part ∙ ap (λ (b : Result (List SigBit) ReadFault). on b r) (some_bits_are w.enable i is.enable.some) ∙ ap (put w.enable) e in
      let line : List Printed = tokens.name w.memory ∷ (tokens.signal wires w.address ++ (tokens.signal wires w.value ++ (tokens.signal wires w.enable ++ tokens.constant w.mask ∷ EndLine ∷ []))) in
      let rest : Goes line (expects.WriteMemory ∷ back) (now p0) back last =
      goes_on (expects.Signal ∷ expects.BehindAddress ∷ []) (λ q. now p1) refl (λ q. refl) (λ q.
      goes_signal all distinct w.address is.address.signal refl (begins_signal (now p1)) slices_address (over_now p1) refl (λ s part braces.
      goes_signal all distinct w.value is.value.signal refl (begins_value (now p1) s w.address part is.address.some) slices_value (over_now p2) refl (λ t part2 braces2.
      goes_signal all distinct w.enable is.enable.signal refl (begins_enable (now p2) t w.value part2 is.value.some) slices_enable (over_now p3) refl (λ u part3 braces3.
      goes_constant w.mask (expects.EndOfLine ∷ []) last is.mask refl refl refl
      (λ text place e. masks u (seen_at kinds.Value text place) _ part3 e) (λ text place e. masks u (seen_at kinds.Int text place) _ part3 e) (λ text place e. masks u (seen_at kinds.Chars text place) _ part3 e)
      (goes_line [] last refl (λ text place. refl) goes_none))))) in
      goes_on body (λ q. now p0) can does (λ q. subst (λ (rs : List Expect). Goes line rs (now p0) back last) (sym stacked) rest)

  goes_write : (roles : List Expect) (p : OpenProcess) (v : Event) (updates : List Link) (front : List WriteLine) (w : WriteLine) → IsWrite wires w
      → Goes (tokens.write wires w) (expects.SyncBody ∷ roles) (now (ruled p v updates front)) (expects.SyncBody ∷ roles) (now (ruled p v updates (front ++ w ∷ [])))
  unfolding word_sort module_word option_word process_word event_word
  goes_write roles p v updates front w is =
      goes_attributes 6 w.attributes expects.SyncBody expects.NextWrite (expects.SyncBody ∷ []) roles (now (ruled p v updates front)) is.attributes (takes_write (now (ruled p v updates front)))
      (goes_write_line roles p v updates front w expects.SyncBody (expects.WriteMemory ∷ expects.SyncBody ∷ []) roles is refl refl (λ place. refl))
      (goes_write_line roles p v updates front w expects.NextWrite (expects.WriteMemory ∷ []) (expects.SyncBody ∷ roles) is refl refl (λ place. refl))

  -- the lines of a rule
  goes_lines : (roles : List Expect) (p : OpenProcess) (r : SyncRule) → IsRule wires r → p.write ≡ plain_write []
      → Goes (flat_map (tokens.update wires) r.updates ++ flat_map (tokens.write wires) r.writes) (expects.SyncBody ∷ roles) (now (record p { rule = plain_rule r.event })) (expects.SyncBody ∷ roles) (now (ruled p r.event r.updates r.writes))
  goes_lines roles p r is plain =
      let start : WriteLine → Draft = λ (w : WriteLine). now (record p { rule = plain_rule r.event; write = w }) in
      let back : List Expect = expects.SyncBody ∷ roles in
      let lines = flat_map (tokens.update wires) r.updates ++ flat_map (tokens.write wires) r.writes in
      subst (λ (w : WriteLine). Goes lines back (start w) back (now (ruled p r.event r.updates r.writes))) (sym plain)
      (goes_then (flat_map (tokens.update wires) r.updates) (flat_map (tokens.write wires) r.writes)
      (goes_each (tokens.update wires) back (λ us. now (ruled p r.event us [])) [] r.updates (λ front l after_it e. goes_update roles (ruled p r.event front []) l (all_at (IsLink wires) front l after_it r.updates e is.updates)))
      (goes_each (tokens.write wires) back (λ ws. now (ruled p r.event r.updates ws)) [] r.writes (λ front w after_it e. goes_write roles p r.event r.updates front w (all_at (IsWrite wires) front w after_it r.writes e is.writes))))

  -- ---- rules, between two of which a draft stands

  -- what has these whole rules, and none open
  abbrev pub ready : OpenProcess → List SyncRule → OpenProcess
  ready p done = record p { syncs = done; rule = plain_rule events.Always; write = plain_write [] }

  record IsBetween (role : Expect) (p : OpenProcess) (whole : OpenProcess) (done : List SyncRule) : Type 0 where
    can_sync : after role sorts.Sync ≡ Some (expects.SyncEvent ∷ expects.SyncBody ∷ [])
    can_end : after role sorts.End ≡ Some (expects.EndOfLine ∷ [])
    does_sync : (place : Place) → act role (seen_at kinds.Word (codes "sync") place) (now p) ≡ Ok (now (ready whole done))
    does_end : (place : Place) → act role (seen_at kinds.Word (codes "end") place) (now p) ≡ Ok (close_process (now (ready whole done)))

  first_rule : (whole : OpenProcess) (done : List SyncRule) → IsBetween expects.ProcessBody (ready whole done) whole done
  unfolding word_sort module_word option_word process_word event_word
  first_rule whole done = record { can_sync = refl; can_end = refl; does_sync = λ place. refl; does_end = λ place. refl }

  behind_rule : (whole : OpenProcess) (done : List SyncRule) (r : SyncRule) → IsBetween expects.SyncBody (record (ready whole done) { rule = r }) whole (done ++ r ∷ [])
  unfolding word_sort module_word option_word process_word event_word
  behind_rule whole done r = record { can_sync = refl; can_end = refl; does_sync = λ place. refl; does_end = λ place. refl }

  goes_rules_from : {qs : List Printed} {roles back : List Expect} {e : Draft} (rest : List SyncRule) (m : ℕ) (role : Expect) (p whole : OpenProcess) (done : List SyncRule) → IsBetween role p whole done → All (IsRule wires) rest
      → Goes qs roles (close_process (now (ready whole (done ++ rest)))) back e → Goes (flat_map (tokens.sync wires) rest ++ word m (codes "end") ∷ EndLine ∷ qs) (role ∷ roles) (now p) back e
  unfolding word_sort module_word option_word process_word event_word
  goes_rules_from {qs = qs} {roles = roles} {back = back} {e = e} [] m role p whole done between each more =
      goes_on (expects.EndOfLine ∷ []) (λ q. close_process (now (ready whole done))) between.can_end between.does_end (λ q.
      goes_line [] (close_process (now (ready whole done))) refl (λ text place. refl) (subst (λ (l : List SyncRule). Goes qs roles (close_process (now (ready whole l))) back e) (append-nil done) more))
  goes_rules_from {qs = qs} {roles = roles} {back = back} {e = e} (r ∷ rest) m role p whole done between each more =
      let end = word m (codes "end") ∷ EndLine ∷ qs in
      let others = flat_map (tokens.sync wires) rest in
      let lines = flat_map (tokens.update wires) r.updates ++ flat_map (tokens.write wires) r.writes in
      let is = All-head (IsRule wires) r rest each in
      let same : done ++ r ∷ rest ≡ (done ++ r ∷ []) ++ rest = sym (append_assoc done (r ∷ []) rest) in
      let rest_goes : Goes (others ++ end) (expects.SyncBody ∷ roles) (now (record (ready whole done) { rule = r })) back e = goes_rules_from rest m expects.SyncBody (record (ready whole done) { rule = r }) whole (done ++ r ∷ []) (behind_rule whole done r) (All-tail (IsRule wires) r rest each)
      (subst (λ (l : List SyncRule). Goes qs roles (close_process (now (ready whole l))) back e) same more) in
      let all_lines : Goes (lines ++ (others ++ end)) (expects.SyncBody ∷ roles) (now (record (ready whole done) { rule = plain_rule r.event })) back e = goes_then lines (others ++ end) (goes_lines roles (ready whole done) r is refl) rest_goes in
      subst (λ (ps : List Printed). Goes ps (role ∷ roles) (now p) back e) (sym (regroup (tokens.event wires r.event) lines others end))
      (goes_on (expects.SyncEvent ∷ expects.SyncBody ∷ []) (λ q. now (ready whole done)) between.can_sync between.does_sync (λ q. goes_event (ready whole done) r.event is.event all_lines))
    where
      regroup : (v l o e : List Printed) → (word 4 (codes "sync") ∷ (v ++ EndLine ∷ l) ++ o) ++ e ≡ word 4 (codes "sync") ∷ (v ++ EndLine ∷ (l ++ (o ++ e)))
      regroup v l o e = ap (λ (x : List Printed). word 4 (codes "sync") ∷ x) (append_assoc (v ++ EndLine ∷ l) o e ∙ append_assoc v (EndLine ∷ l) (o ++ e))

  -- all rules of a process, and its `end`
  pub goes_rules : {qs : List Printed} {roles back : List Expect} {e : Draft} (rest : List SyncRule) (m : ℕ) (whole : OpenProcess) → All (IsRule wires) rest
      → Goes qs roles (close_process (now (ready whole rest))) back e → Goes (flat_map (tokens.sync wires) rest ++ word m (codes "end") ∷ EndLine ∷ qs) (expects.ProcessBody ∷ roles) (now (ready whole [])) back e
  goes_rules rest m whole each more = goes_rules_from rest m expects.ProcessBody (ready whole []) whole [] (first_rule whole []) each more
