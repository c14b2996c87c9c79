-- The words of memories: their bits one by one, and the rows that they are.
use Rattle.std.proofs.Common.{◌≡◌, ℕ, zero, suc, ◌+◌, ◌<◌, Bool, true, false, List, [], ◌∷◌, ◌++◌, length, get_or, take, map, Option, Some, None, slice_get, refl, sym, ◌∙◌, ap, subst, arith, append_assoc}
use Rattle.std.specs.Global.{Box}
use Rattle.std.specs.Prelude.{◌||◌, flat_map, max, nat_abs, if◌then◌else◌}
use Rattle.std.specs.List.{range_with_len}
use Rattle.std.specs.Str.{bytes_eq}
use Rattle.std.proofs.lemmas.List.{map-append, append-nil, take_more, length-take-le}
use Rattle.std.proofs.lemmas.Option.{slice_get_within, get_or_from_slice_get}
use Rattle.rtl_bits.specs.declared.bit.Bit.{Bit}
use Rattle.rtl_sig.specs.declared.sig.SigBit.{SigBit}
use Rattle.cell_types.specs.declared.level.Level.{Level}
use Rattle.cell_types.specs.declared.level.Level.TheVariants.{Low, High}
use Rattle.rtl_ir.specs.declared.cell.Cell.{Cell}
use Rattle.rtl_ir.specs.declared.plan.MemPlan.{MemPlan}
use Rattle.rtl_ir.specs.declared.plan.WritePort.{WritePort as PlanWrite}
use Rattle.rtl_ir.specs.declared.process.Event.{Event}
use Rattle.rtl_ir.specs.declared.process.SyncRule.{SyncRule}
use Rattle.rtl_ir.specs.declared.process.WriteLine.{WriteLine}
use Rattle.rtl_ir.specs.declared.store.Store.{Store}
use Rattle.rtl_ir.specs.declared.wire.Wire.{Wire}
use Rattle.rtl_ir.specs.declared.module.Module.{Module}
use Rattle.rtl_ir.specs.Flat.Access.{Access, accesses_of, cell_accesses, first_trigger, line_access, line_accesses, rule_accesses, next_number, write_trigger}
use Rattle.rtl_ir.specs.Flat.Driver.{Driven, Remembered as RememberedBy}
use Rattle.rtl_ir.specs.Flat.Memory as mem
use Rattle.rtl_ir.specs.Flat.Memory.{port_points, start_word_bit}
use Rattle.rtl_ir.specs.Flat.Place.{Path, Place, word_place}
use Rattle.rtl_ir.specs.Flat.Point.{point, point_at, points}
use Rattle.rtl_ir.specs.Flat.Process.{Trigger}
use Rattle.net_model.specs.Mem.Gather.{clock_bit, gathered, is_rising, write_port}
use Rattle.flat_net.specs.declared.memory.Remembered.{Remembered}
use Rattle.flat_net.specs.declared.memory.WordBit.{WordBit}
use Rattle.flat_net.specs.declared.memory.WritePort.{WritePort}
use Rattle.flat_net.specs.declared.net.Part.TheVariants as part
use Rattle.flat_net.specs.declared.net.Point.{Point}
use Rattle.flat_net.specs.Accesses.{event_of, have_line, next_of, rules_of}
use Rattle.flat_net.specs.Known.{Keeps}
use Rattle.flat_net.specs.Memories.{AreBegins, ArePorts, AreRemembered, Begins, begins_of, begun_row, cell_trigger, edge_level, planned_rows, port_in, trigger_by, word_begins, words_begins}
use Rattle.flat_net.specs.Parts.{part_rows}
use Rattle.flat_net.specs.Points.{place_at, point_of}
use Rattle.flat_net.specs.Reads.{ArePoints}
use Rattle.flat_net.specs.Within.{IsPartWithin, IsPointWithin, IsRememberedWithin, IsWritePortWithin}
use Rattle.flat_net.specs.Words.{Ported, may_follow, ported_of, ports_at, word_row}
use Rattle.flat_net.proofs.Reading.{AreBegins-kept, ArePorts-kept, all_end}

-- ports, one more at the end

pub ArePorts-none : (ps : List Place) → ArePorts ps [] []
ArePorts-none ps = record { are = refl; within = tt }

pub ArePorts-end : (ps qs : List Place) (ports : List WritePort) (they : List Ported) (w : WritePort) (it : Ported) → Keeps ps qs → ArePorts ps ports they → ArePorts qs (w ∷ []) (it ∷ [])
    → ArePorts qs (ports ++ w ∷ []) (they ++ it ∷ [])
ArePorts-end ps qs ports they w it keeps h k =
    let old = ArePorts-kept ps qs keeps ports they h in
    record {
      are = map-append (ported_of qs) ports (w ∷ []) ∙ (λ i. old.are i ++ k.are i);
      within = all_end (IsWritePortWithin (length qs)) ports w old.within k.within.0;
    }

-- a port of three signals
pub port_made : (ps : List Place) (p : Path) (wires : List Wire) (w : WritePort) (it : PlanWrite) (mask : List Bit) (a e d : List Point) → w.number ≡ it.number → w.mask ≡ mask → mask ≡ it.mask → w.address ≡ a → ArePoints ps a (points p wires it.address)
    → w.enable ≡ e → ArePoints ps e (points p wires it.enable) → w.word ≡ d → ArePoints ps d (points p wires it.«data») → ArePorts ps (w ∷ []) (port_in p wires it ∷ [])
port_made ps p wires w it mask a e d number same is at a_read at_e e_read at_d d_read =
    let address = subst (λ xs. ArePoints ps xs (points p wires it.address)) (sym at) a_read in
    let enable = subst (λ xs. ArePoints ps xs (points p wires it.enable)) (sym at_e) e_read in
    let new = subst (λ xs. ArePoints ps xs (points p wires it.«data»)) (sym at_d) d_read in
    record {
      are = (λ i. record { number = number i; mask = (same ∙ is) i; address = address.are i; enable = enable.are i; new = new.are i } ∷ []);
      within = (record { address = address.within; enable = enable.within; word = new.within }, tt);
    }

-- bits of words, one more at the end

pub AreBegins-none : (ps : List Place) → AreBegins ps [] []
AreBegins-none ps = record { are = refl; within = tt }

pub AreBegins-end : (ps qs : List Place) (bits : List WordBit) (they : List Begins) (b : WordBit) (it : Begins) → Keeps ps qs → AreBegins ps bits they
    → slice_get qs b.number ≡ Some it.place → b.start ≡ it.start → b.address ≡ it.address → b.at ≡ it.at → AreBegins qs (bits ++ b ∷ []) (they ++ it ∷ [])
AreBegins-end ps qs bits they b it keeps h place start address at =
    let old = AreBegins-kept ps qs keeps bits they h in
    let there : place_at qs b.number ≡ it.place = get_or_from_slice_get qs b.number it.place _ place in
    record {
      are = map-append (begins_of qs) bits (b ∷ []) ∙ (λ i. old.are i ++ record { place = there i; start = start i; address = address i; at = at i } ∷ []);
      within = all_end (λ (b : WordBit). b.number < length qs) bits b old.within (slice_get_within qs b.number it.place place);
    }

pub word_begins-append : (p : Path) (name : List ℕ) (address at : ℕ) (xs ys : List Bit) → word_begins p name address at (xs ++ ys) ≡ word_begins p name address at xs ++ word_begins p name address (at + length xs) ys
word_begins-append p name address at [] ys = let e : at ≡ at + 0 = omega arith in ap (λ k. word_begins p name address k ys) e
word_begins-append p name address at (x ∷ xs) ys =
    let e : suc at + length xs ≡ at + length (x ∷ xs) = omega arith in
    ap (λ they. record { place = word_place p name address at; start = x; address = address; at = at } ∷ they)
    (word_begins-append p name address (suc at) xs ys ∙ ap (λ k. word_begins p name address (suc at) xs ++ word_begins p name address k ys) e)

pub words_begins-append : (p : Path) (name : List ℕ) (address : ℕ) (xs ys : List (List Bit)) → words_begins p name address (xs ++ ys) ≡ words_begins p name address xs ++ words_begins p name (address + length xs) ys
words_begins-append p name address [] ys = let e : address ≡ address + 0 = omega arith in ap (λ k. words_begins p name k ys) e
words_begins-append p name address (x ∷ xs) ys =
    let e : suc address + length xs ≡ address + length (x ∷ xs) = omega arith in
    let here = word_begins p name address 0 x in
    ap (λ they. here ++ they) (words_begins-append p name (suc address) xs ys ∙ ap (λ k. words_begins p name (suc address) xs ++ words_begins p name k ys) e)
    ∙ sym (append_assoc here (words_begins p name (suc address) xs) (words_begins p name (address + length (x ∷ xs)) ys))

-- the next bit of a word
pub word_next : (ps qs : List Place) (p : Path) (name : List ℕ) (address : ℕ) (word : List Bit) (i : ℕ) (d : Bit) (bits next : List WordBit) (they : List Begins) (b : WordBit) → Keeps ps qs → i < length word
    → AreBegins ps bits (they ++ word_begins p name address 0 (take i word)) → slice_get qs b.number ≡ Some (word_place p name address b.at) → b.start ≡ get_or word i d → b.address ≡ address → b.at ≡ i → next ≡ bits ++ b ∷ []
    → AreBegins qs next (they ++ word_begins p name address 0 (take (i + 1) word))
word_next ps qs p name address word i d bits next they b keeps h made place start at_address at put =
    let taken : length (take i word) ≡ i = length-take-le i word (omega arith) in
    let long : 0 + length (take i word) ≡ i = omega arith in
    let all : they ++ word_begins p name address 0 (take (i + 1) word) ≡ (they ++ word_begins p name address 0 (take i word)) ++ record { place = word_place p name address i; start = get_or word i d; address = address; at = i } ∷ [] =
    ap (λ xs. they ++ word_begins p name address 0 xs) (take_more word i d h)
    ∙ ap (λ xs. they ++ xs) (word_begins-append p name address 0 (take i word) (get_or word i d ∷ []) ∙ ap (λ k. word_begins p name address 0 (take i word) ++ word_begins p name address k (get_or word i d ∷ [])) long)
    ∙ sym (append_assoc they (word_begins p name address 0 (take i word)) _) in
    rw (put, all) (AreBegins-end ps qs bits _ b (record { place = word_place p name address i; start = get_or word i d; address = address; at = i }) keeps made (place ∙ ap (λ k. Some (word_place p name address k)) at) start at_address at)

-- the next word
pub words_next : (ps : List Place) (p : Path) (name : List ℕ) (first address : ℕ) (words : List (List Bit)) (i : ℕ) (word : List Bit) (bits : List WordBit) → i < length words → word ≡ get_or words i word → address ≡ first + i
    → AreBegins ps bits (words_begins p name first (take i words) ++ word_begins p name address 0 word) → AreBegins ps bits (words_begins p name first (take (i + 1) words))
words_next ps p name first address words i word bits h is at made =
    let long : first + length (take i words) ≡ address = ap (λ k. first + k) (length-take-le i words (omega arith)) ∙ sym at in
    let all : words_begins p name first (take (i + 1) words) ≡ words_begins p name first (take i words) ++ word_begins p name address 0 word =
    ap (words_begins p name first) (take_more words i word h)
    ∙ words_begins-append p name first (take i words) (get_or words i word ∷ [])
    ∙ (λ j. words_begins p name first (take i words) ++ (word_begins p name (long j) 0 (sym is j) ++ []))
    ∙ ap (λ xs. words_begins p name first (take i words) ++ xs) (append-nil (word_begins p name address 0 word)) in
    rw all made

-- the next port
pub ports_next : (ps qs : List Place) (p : Path) (wires : List Wire) (writes : List PlanWrite) (i : ℕ) (it : PlanWrite) (ports next : List WritePort) (they : List Ported) (w : WritePort) → Keeps ps qs → i < length writes → it ≡ get_or writes i it
    → ArePorts ps ports (they ++ map (port_in p wires) (take i writes)) → ArePorts qs (w ∷ []) (port_in p wires it ∷ []) → next ≡ ports ++ w ∷ []
    → ArePorts qs next (they ++ map (port_in p wires) (take (i + 1) writes))
ports_next ps qs p wires writes i it ports next they w keeps h is made one put =
    let all : they ++ map (port_in p wires) (take (i + 1) writes) ≡ (they ++ map (port_in p wires) (take i writes)) ++ port_in p wires it ∷ [] =
    ap (λ xs. they ++ map (port_in p wires) xs) (take_more writes i it h)
    ∙ ap (λ xs. they ++ xs) (map-append (port_in p wires) (take i writes) (get_or writes i it ∷ []) ∙ ap (λ x. map (port_in p wires) (take i writes) ++ port_in p wires x ∷ []) (sym is))
    ∙ sym (append_assoc they (map (port_in p wires) (take i writes)) (port_in p wires it ∷ [])) in
    rw (put, all) (ArePorts-end ps qs ports _ w (port_in p wires it) keeps made one)

-- the rows of words

pub remembered_is : (ps : List Place) (p : Path) (wires : List Wire) (t : Trigger) (w : Remembered) (ports : List Ported) (they : List Begins) → point_of ps w.clock ≡ point_at (points p wires t.signal) 0 → IsPointWithin (length ps) w.clock → w.level ≡ t.level
    → ArePorts ps w.ports ports → AreBegins ps w.bits they → AreRemembered ps w (map (begun_row p wires t ports) they)
remembered_is ps p wires t w ports they clock inside level h k = record {
  are = rows w.bits ∙ ap (map (begun_row p wires t ports)) k.are;
  within = record { clock = inside; ports = h.within; bits = k.within };
}
  where
    rows : (bits : List WordBit) → map (word_row ps w) bits ≡ map (begun_row p wires t ports) (map (begins_of ps) bits)
    rows [] = refl
    rows (b ∷ bits) = (λ i. record { place = place_at ps b.number; driver = RememberedBy b.start (clock i) (level i) b.address (ports_at b.at [] (h.are i)) (place_at ps b.number) } ∷ rows bits i)

-- lines

pub next_of-number : (accesses : List Access) → next_of (map write_port accesses) ≡ next_number accesses
next_of-number [] = refl
next_of-number (a ∷ accesses) = ap (max (a.number + 1)) (next_of-number accesses)

lines_none : (name : List ℕ) (event : Event) (n : ℕ) (before : List (Option ℕ)) (lines : List WriteLine) → have_line name lines ≡ false → line_accesses name event n before lines ≡ []
lines_none name event n before [] h = refl
lines_none name event n before (line ∷ lines) h = by (bytes_eq name line.memory) h (lines_none name event n (before ++ None ∷ []) lines)
  where
    by : (t : Bool) → (t || have_line name lines) ≡ false → (have_line name lines ≡ false → line_accesses name event n (before ++ None ∷ []) lines ≡ [])
        → (if t then line_access event n before line ∷ line_accesses name event (n + 1) (before ++ Some n ∷ []) lines else line_accesses name event n (before ++ None ∷ []) lines) ≡ []
    by true e ih = absurd (cc)
    by false e ih = ih e

lines_some : (name : List ℕ) (event : Event) (n : ℕ) (before : List (Option ℕ)) (lines : List WriteLine) (more : List Access) → have_line name lines ≡ true → first_trigger (line_accesses name event n before lines ++ more) ≡ write_trigger event
lines_some name event n before [] more h = absurd (cc)
lines_some name event n before (line ∷ lines) more h = by (bytes_eq name line.memory) h (lines_some name event n (before ++ None ∷ []) lines more)
  where
    by : (t : Bool) → (t || have_line name lines) ≡ true → (have_line name lines ≡ true → first_trigger (line_accesses name event n (before ++ None ∷ []) lines ++ more) ≡ write_trigger event)
        → first_trigger ((if t then line_access event n before line ∷ line_accesses name event (n + 1) (before ++ Some n ∷ []) lines else line_accesses name event n (before ++ None ∷ []) lines) ++ more) ≡ write_trigger event
    by true e ih = refl
    by false e ih = ih e

-- the clock of the first line
rules_none : (name : List ℕ) (n : ℕ) (rules : List SyncRule) → event_of name rules ≡ None → rule_accesses name n rules ≡ []
rules_none name n [] h = refl
rules_none name n (rule ∷ rules) h = by (have_line name rule.writes) refl h (λ k. rules_none name k rules)
  where
    by : (t : Bool) → have_line name rule.writes ≡ t → (if t then Some rule.event else event_of name rules) ≡ None → ((k : ℕ) → event_of name rules ≡ None → rule_accesses name k rules ≡ []) → rule_accesses name n (rule ∷ rules) ≡ []
    by true e some ih = absurd (cc)
    by false e none ih =
        let here = lines_none name rule.event n [] rule.writes e in
        (λ i. here i ++ rule_accesses name (n + length (here i)) rules) ∙ ih (n + 0) none

rules_some : (name : List ℕ) (n : ℕ) (rules : List SyncRule) (event : Event) → event_of name rules ≡ Some event → first_trigger (rule_accesses name n rules) ≡ write_trigger event
rules_some name n [] event h = absurd (cc)
rules_some name n (rule ∷ rules) event h = by (have_line name rule.writes) refl h (λ k. rules_some name k rules event)
  where
    by : (t : Bool) → have_line name rule.writes ≡ t → (if t then Some rule.event else event_of name rules) ≡ Some event → ((k : ℕ) → event_of name rules ≡ Some event → first_trigger (rule_accesses name k rules) ≡ write_trigger event)
        → first_trigger (rule_accesses name n (rule ∷ rules)) ≡ write_trigger event
    by true e is ih =
        let same : rule.event ≡ event = cc in
        lines_some name rule.event n [] rule.writes _ e ∙ ap write_trigger same
    by false e is ih =
        let here = lines_none name rule.event n [] rule.writes e in
        (λ i. first_trigger (here i ++ rule_accesses name (n + length (here i)) rules)) ∙ ih (n + 0) is

level_same : (level : Level) → edge_level (is_rising level) ≡ level
level_same Low = refl
level_same High = refl

bit_same : (p : Path) (wires : List Wire) (signal : List SigBit) → point p wires (clock_bit signal) ≡ point_at (points p wires signal) 0
bit_same p wires [] = refl
bit_same p wires (s ∷ signal) = refl

-- a clock is read as another one
pub record SameClock (p : Path) (wires : List Wire) (t u : Trigger) : Type 0 where
  pub read : point_at (points p wires t.signal) 0 ≡ point_at (points p wires u.signal) 0
  pub level : t.level ≡ u.level

-- the clock of the plan and of the lines is that of the first port
pub clock_same : (p : Path) (wires : List Wire) (m : MemPlan) (name : List ℕ) (n : ℕ) (here : List Access) (rules : List SyncRule) (event : Option Event) → m.clock ≡ clock_bit (first_trigger here).signal → m.rising ≡ is_rising (first_trigger here).level
    → event ≡ event_of name rules → SameClock p wires (trigger_by m (map write_port here) event) (first_trigger (here ++ rule_accesses name n rules))
clock_same p wires m name n (a ∷ here) rules event clock rising e = record {
  read = ap (point p wires) clock ∙ bit_same p wires a.clock.signal;
  level = ap edge_level rising ∙ level_same a.clock.level;
}
clock_same p wires m name n [] rules None clock rising e =
    let none : rule_accesses name n rules ≡ [] = rules_none name n rules (sym e) in
    rw none (record { read = ap (point p wires) clock; level = ap edge_level rising })
clock_same p wires m name n [] rules (Some event) clock rising e =
    let same : first_trigger (rule_accesses name n rules) ≡ write_trigger event = rules_some name n rules event (sym e) in
    record { read = ap (λ (t : Trigger). point_at (points p wires t.signal) 0) (sym same); level = ap (λ (t : Trigger). t.level) (sym same) }

-- ports as the bits of words see them

follows_same : (p : Path) (wires : List Wire) (mask : List Bit) (before : List Access) → map (may_follow mask) (map (port_in p wires) (map write_port before)) ≡ map (mem.may_follow mask) before
follows_same p wires mask [] = refl
follows_same p wires mask (b ∷ before) = ap (λ bs. mem.may_follow mask b ∷ bs) (follows_same p wires mask before)

pub ports_same : (p : Path) (wires : List Wire) (at : ℕ) (before accesses : List Access)
    → ports_at at (map (port_in p wires) (map write_port before)) (map (port_in p wires) (map write_port accesses)) ≡ port_points p wires at before accesses
ports_same p wires at before [] = refl
ports_same p wires at before (a ∷ accesses) =
    let here = port_in p wires (write_port a) in
    let more : map (port_in p wires) (map write_port before) ++ here ∷ [] ≡ map (port_in p wires) (map write_port (before ++ a ∷ [])) =
    sym (ap (map (port_in p wires)) (map-append write_port before (a ∷ [])) ∙ map-append (port_in p wires) (map write_port before) (write_port a ∷ [])) in
    let rest = ap (λ bs. ports_at at bs (map (port_in p wires) (map write_port accesses))) more ∙ ports_same p wires at (before ++ a ∷ []) accesses in
    (λ i. record { address = points p wires a.address; enable = point_at (points p wires a.enable) at; new = point_at (points p wires a.new) at; follows = follows_same p wires a.mask before i } ∷ rest i)

-- the rows of words by the plan are those of the definitions
module _ (p : Path) (wires : List Wire) (s : Store) (accesses : List Access) (inits : List Cell) (t : Trigger) (same : SameClock p wires t (first_trigger accesses)) where
  word_same : (address at n : ℕ)
      → map (begun_row p wires t (map (port_in p wires) (map write_port accesses))) (word_begins p s.name address at (map (start_word_bit inits s.width address) (range_with_len at n)))
      ≡ map (mem.word_row p wires s accesses inits address) (range_with_len at n)
  word_same address at zero = refl
  word_same address at (suc n) =
      let next : suc at ≡ at + 1 = omega arith in
      let rest = subst (λ k. map (begun_row p wires t (map (port_in p wires) (map write_port accesses))) (word_begins p s.name address (suc at) (map (start_word_bit inits s.width address) (range_with_len k n)))
      ≡ map (mem.word_row p wires s accesses inits address) (range_with_len k n)) next (word_same address (suc at) n) in
      let ports = ports_same p wires at [] accesses in
      (λ i. record { place = word_place p s.name address at; driver = RememberedBy (start_word_bit inits s.width address at) (same.read i) (same.level i) address (ports i) (word_place p s.name address at) } ∷ rest i)

  words_same : (first n : ℕ)
      → map (begun_row p wires t (map (port_in p wires) (map write_port accesses))) (words_begins p s.name first (map (λ address. map (start_word_bit inits s.width address) (range_with_len 0 s.width)) (range_with_len first n)))
      ≡ flat_map (λ address. map (mem.word_row p wires s accesses inits address) (range_with_len 0 s.width)) (range_with_len first n)
  words_same first zero = refl
  words_same first (suc n) =
      let here = word_same first 0 s.width in
      let next : suc first ≡ first + 1 = omega arith in
      let words = λ (k : ℕ). map (λ address. map (start_word_bit inits s.width address) (range_with_len 0 s.width)) (range_with_len k n) in
      let rest = subst (λ k. map (begun_row p wires t (map (port_in p wires) (map write_port accesses))) (words_begins p s.name (suc first) (words k))
      ≡ flat_map (λ address. map (mem.word_row p wires s accesses inits address) (range_with_len 0 s.width)) (range_with_len k n)) next (words_same (suc first) n) in
      map-append (begun_row p wires t (map (port_in p wires) (map write_port accesses))) (word_begins p s.name first 0 (map (start_word_bit inits s.width first) (range_with_len 0 s.width))) (words_begins p s.name (suc first) (words (first + 1)))
      ∙ (λ i. here i ++ rest i)

  pub rows_same : (m : MemPlan) (lines : List PlanWrite) → m.writes ++ lines ≡ map write_port accesses → m.words ≡ map (λ address. map (start_word_bit inits s.width address) (range_with_len 0 s.width)) (mem.addresses_of s)
      → map (begun_row p wires t (map (port_in p wires) (m.writes ++ lines))) (words_begins p s.name (nat_abs s.offset) m.words) ≡ mem.word_rows p wires s accesses inits
  rows_same m lines writes words =
      (λ i. map (begun_row p wires t (map (port_in p wires) (writes i))) (words_begins p s.name (nat_abs s.offset) (words i)))
      ∙ words_same (nat_abs s.offset) (nat_abs s.size)

pub remembered_part : (ps : List Place) (box : Box Remembered) (w : Remembered) (rows : List Driven) → box.value ≡ w → AreRemembered ps w rows → (part_rows ps (part.Remembered box) ≡ rows) × IsPartWithin (length ps) (part.Remembered box)
remembered_part ps box w rows e h = (ap (λ (w : Remembered). map (word_row ps w) w.bits) e ∙ h.are, subst (IsRememberedWithin (length ps)) (sym e) h.within)

-- the ports of cells, and behind them those of lines
pub planned_same : (p : Path) (wires : List Wire) (m : Module) (s : Store) (plan : MemPlan) (lines : List PlanWrite) (event : Option Event) → plan ≡ gathered m plan.store s
    → lines ≡ map write_port (rule_accesses s.name (next_of plan.writes) (rules_of m.processes)) → event ≡ event_of s.name (rules_of m.processes)
    → planned_rows p wires s plan lines event ≡ mem.word_rows p wires s (accesses_of s.name m.cells m.processes) (mem.init_cells s.name m.cells)
planned_same p wires m s plan lines event e made first =
    let here = cell_accesses s.name m.cells in
    let writes : plan.writes ≡ map write_port here = ap (λ (x : MemPlan). x.writes) e in
    let next : next_of plan.writes ≡ next_number here = ap next_of writes ∙ next_of-number here in
    let rest = rule_accesses s.name (next_number here) (rules_of m.processes) in
    let lines_are : lines ≡ map write_port rest = made ∙ ap (λ n. map write_port (rule_accesses s.name n (rules_of m.processes))) next in
    let all : plan.writes ++ lines ≡ map write_port (here ++ rest) = (λ i. writes i ++ lines_are i) ∙ sym (map-append write_port here rest) in
    let clock = clock_same p wires plan s.name (next_number here) here (rules_of m.processes) event (ap (λ (x : MemPlan). x.clock) e) (ap (λ (x : MemPlan). x.rising) e) first in
    let same = subst (λ ws. SameClock p wires (trigger_by plan ws event) (first_trigger (here ++ rest))) (sym writes) clock in
    rows_same p wires s (here ++ rest) (mem.init_cells s.name m.cells) (trigger_by plan plan.writes event) same plan lines all (ap (λ (x : MemPlan). x.words) e)

-- the clock of a cell, where lines have none or come behind it
pub cells_first : (m : MemPlan) (writes : List PlanWrite) → trigger_by m writes None ≡ cell_trigger m
cells_first m [] = refl
cells_first m (w ∷ writes) = refl
