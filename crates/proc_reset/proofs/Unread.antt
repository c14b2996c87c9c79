-- Bits that are unread, by sets of what is read and of the bits.
use Rattle.std.proofs.Common.{◌≡◌, ℕ, ◌+◌, Bool, true, false, cond, ◌&&◌, ◌||◌, not, List, [], ◌∷◌, ◌++◌, map, flat_map, ◌==◌, refl, sym, ◌∙◌, ap}
use Rattle.std.specs.List.{list_any}
use Rattle.std.proofs.lemmas.Bool.{eq-eqb, eqb-true, false≢true}
use Rattle.rtl_sig.specs.declared.sig.SigBit.{SigBit}
use Rattle.rtl_sig.specs.declared.sig.SigBit.TheVariants.{Fixed, Wire as OnWire}
use Rattle.rtl_sig.specs.declared.sig.WireBit.{WireBit}
use Rattle.rtl_ir.specs.declared.cell.Cell.{Cell}
use Rattle.rtl_ir.specs.declared.cell.Pin.{Pin}
use Rattle.rtl_ir.specs.declared.module.Link.{Link}
use Rattle.rtl_ir.specs.declared.module.Module.{Module}
use Rattle.rtl_ir.specs.declared.process.Process.{Process}
use Rattle.rtl_ir.specs.declared.wire.Wire.{Wire}
use Rattle.rtl_ir.specs.Assigns.{case_assigns}
use Rattle.rtl_ir.specs.Build.{whole}
use Rattle.rtl_ir.specs.Outputs.{drives_pin, is_output}
use Rattle.rtl_ir.specs.Signals.{bits_of_wire, has_bit, same_bit, wire_bits}
use Rattle.rtl_ir.specs.Types.{Ports, CellType, cell_type}
use Rattle.net_model.specs.Proc.Reset.{are_unread, cell_reads, control_reads, outer_reads, output_bits, process_reads}
use Rattle.proc_reset.specs.Reads.{are_apart, cell_signals, control_signals, fixed_signals, is_among, output_signals, pin_signal, process_signals, rule_signals, sources}

-- ---- the bits of signals

wire_more : (xs ys : List SigBit) → wire_bits (xs ++ ys) ≡ wire_bits xs ++ wire_bits ys
wire_more [] ys = refl
wire_more (Fixed c ∷ xs) ys = wire_more xs ys
wire_more (OnWire b ∷ xs) ys = ap (λ bs. b ∷ bs) (wire_more xs ys)

wire_flat : {A : Type 0} (f : A → List SigBit) (g : A → List WireBit) → ((x : A) → wire_bits (f x) ≡ g x) → (xs : List A) → wire_bits (flat_map f xs) ≡ flat_map g xs
wire_flat f g h [] = refl
wire_flat f g h (x ∷ xs) = wire_more (f x) (flat_map f xs) ∙ (λ i. h x i ++ wire_flat f g h xs i)

wire_each : (bs : List WireBit) → wire_bits (map OnWire bs) ≡ bs
wire_each [] = refl
wire_each (b ∷ bs) = ap (λ cs. b ∷ cs) (wire_each bs)

-- ---- what is read

process_read : (p : Process) → wire_bits (process_signals p) ≡ process_reads p
process_read p =
    wire_more (control_signals p) (sources (case_assigns p.root) ++ flat_map rule_signals p.syncs)
    ∙ ap (λ bs. control_reads p ++ bs)
    (wire_more (sources (case_assigns p.root)) (flat_map rule_signals p.syncs)
    ∙ ap (λ bs. wire_bits (sources (case_assigns p.root)) ++ bs) (wire_flat rule_signals (λ r. wire_bits (rule_signals r)) (λ r. refl) p.syncs))

pin_read : (type : CellType) (pin : Pin) → wire_bits (pin_signal type pin) ≡ cond (drives_pin type pin.name) [] (wire_bits pin.sig)
pin_read type pin = by (drives_pin type pin.name)
  where
    by : (t : Bool) → wire_bits (cond t [] pin.sig) ≡ cond t [] (wire_bits pin.sig)
    by true = refl
    by false = refl

cell_read : (ports : Ports) (c : Cell) → wire_bits (cell_signals ports c) ≡ cell_reads ports c
cell_read ports c =
    let type = cell_type ports c.kind_name in
    wire_flat (pin_signal type) (λ (pin : Pin). cond (drives_pin type pin.name) [] (wire_bits pin.sig)) (pin_read type) c.pins

outputs_read : (at : ℕ) (wires : List Wire) → wire_bits (output_signals at wires) ≡ output_bits at wires
outputs_read at [] = refl
outputs_read at (w ∷ wires) =
    wire_more (cond (is_output w.role) (whole at w.width) []) (output_signals (at + 1) wires)
    ∙ (λ i. by (is_output w.role) i ++ outputs_read (at + 1) wires i)
  where
    by : (t : Bool) → wire_bits (cond t (whole at w.width) []) ≡ cond t (bits_of_wire at w.width) []
    by true = wire_each (bits_of_wire at w.width)
    by false = refl

fixed_read : (ports : Ports) (m : Module) → wire_bits (fixed_signals ports m) ≡ flat_map (λ (l : Link). wire_bits l.right) m.links ++ (flat_map (cell_reads ports) m.cells ++ output_bits 0 m.wires)
fixed_read ports m =
    wire_more (sources m.links) (flat_map (cell_signals ports) m.cells ++ output_signals 0 m.wires)
    ∙ (λ i. wire_flat (λ (l : Link). l.right) (λ (l : Link). wire_bits l.right) (λ l. refl) m.links i
    ++ (wire_more (flat_map (cell_signals ports) m.cells) (output_signals 0 m.wires)
    ∙ (λ j. wire_flat (cell_signals ports) (cell_reads ports) (cell_read ports) m.cells j ++ outputs_read 0 m.wires j)) i)

-- ---- one of these among those

any_more : {A : Type 0} (f : A → Bool) (xs ys : List A) → list_any f (xs ++ ys) ≡ (list_any f xs || list_any f ys)
any_more f [] ys = refl
any_more f (x ∷ xs) ys = by (f x) (any_more f xs ys)
  where
    by : (t : Bool) → list_any f (xs ++ ys) ≡ (list_any f xs || list_any f ys) → (t || list_any f (xs ++ ys)) ≡ ((t || list_any f xs) || list_any f ys)
    by true e = refl
    by false e = e

any_or : {A : Type 0} (f g : A → Bool) (xs : List A) → list_any (λ x. f x || g x) xs ≡ (list_any f xs || list_any g xs)
any_or f g [] = refl
any_or f g (x ∷ xs) = by (f x) (g x) (list_any f xs) (list_any g xs) (any_or f g xs)
  where
    by : (a b s t : Bool) → list_any (λ x. f x || g x) xs ≡ (s || t) → ((a || b) || list_any (λ x. f x || g x) xs) ≡ ((a || s) || (b || t))
    by true b s t e = refl
    by false true true t e = refl
    by false true false t e = refl
    by false false s t e = e

none_any : {A : Type 0} (xs : List A) → list_any (λ x. false) xs ≡ false
none_any [] = refl
none_any (x ∷ xs) = none_any xs

number_flip : (a b : ℕ) → (a == b) ≡ (b == a)
number_flip a b = by (a == b) (b == a) refl refl
  where
    by : (s t : Bool) → (a == b) ≡ s → (b == a) ≡ t → s ≡ t
    by true true e f = refl
    by true false e f = absurd (false≢true (sym f ∙ eq-eqb b a (sym (eqb-true a b e))))
    by false true e f = absurd (false≢true (sym e ∙ eq-eqb a b (sym (eqb-true b a f))))
    by false false e f = refl

bit_flip : (a b : WireBit) → same_bit a b ≡ same_bit b a
bit_flip a b = λ i. number_flip a.wire b.wire i && number_flip a.at b.at i

has_flip : (b : WireBit) (bits : List WireBit) → list_any (λ a. same_bit a b) bits ≡ has_bit bits b
has_flip b bits = λ i. list_any (λ a. bit_flip a b i) bits

-- one of the bits is read, or one that is read is one of the bits
either : (reads bits : List WireBit) → list_any (has_bit reads) bits ≡ list_any (has_bit bits) reads
either [] bits = none_any bits
either (r ∷ reads) bits =
    any_or (λ b. same_bit b r) (has_bit reads) bits ∙ (λ i. has_flip r bits i || either reads bits i)

-- the places of a signal that are among bits
among_read : (bits : List WireBit) (signal : List SigBit) → list_any (is_among bits) signal ≡ list_any (has_bit bits) (wire_bits signal)
among_read bits [] = refl
among_read bits (Fixed c ∷ signal) = among_read bits signal
among_read bits (OnWire b ∷ signal) = ap (λ t. has_bit bits b || t) (among_read bits signal)

processes_read : (bits : List WireBit) (ps : List Process) → list_any (is_among bits) (flat_map process_signals ps) ≡ list_any (has_bit bits) (flat_map process_reads ps)
processes_read bits ps =
    among_read bits (flat_map process_signals ps) ∙ ap (list_any (has_bit bits)) (wire_flat process_signals process_reads process_read ps)

flat_more : {A B : Type 0} (f : A → List B) (xs ys : List A) (g : B → Bool) → list_any g (flat_map f (xs ++ ys)) ≡ (list_any g (flat_map f xs) || list_any g (flat_map f ys))
flat_more f [] ys g = refl
flat_more f (x ∷ xs) ys g =
    any_more g (f x) (flat_map f (xs ++ ys))
    ∙ ap (λ t. list_any g (f x) || t) (flat_more f xs ys g)
    ∙ by (list_any g (f x))
    ∙ ap (λ t. t || list_any g (flat_map f ys)) (sym (any_more g (f x) (flat_map f xs)))
  where
    by : (t : Bool) → (t || (list_any g (flat_map f xs) || list_any g (flat_map f ys))) ≡ ((t || list_any g (flat_map f xs)) || list_any g (flat_map f ys))
    by true = refl
    by false = refl

module _ (ports : Ports) (m : Module) (before after : List Process) (p : Process) (bits : List WireBit) where
  -- the bits that are read by connections, cells and ports, by the processes before and behind, and by tests
  abbrev by_fixed : Bool
  by_fixed = list_any (has_bit (wire_bits (fixed_signals ports m))) bits

  abbrev by_before : Bool
  by_before = list_any (is_among bits) (flat_map process_signals before)

  abbrev by_after : Bool
  by_after = list_any (is_among bits) (flat_map process_signals after)

  abbrev by_control : Bool
  by_control = list_any (is_among bits) (control_signals p)

  outer_is : list_any (has_bit (outer_reads ports m (before ++ after))) bits ≡ (by_fixed || (by_before || by_after))
  outer_is =
      let links = flat_map (λ (l : Link). wire_bits l.right) m.links in
      let cells = flat_map (cell_reads ports) m.cells in
      let others = flat_map process_reads (before ++ after) in
      let outputs = output_bits 0 m.wires in
      either (links ++ (cells ++ (others ++ outputs))) bits
      ∙ any_more (has_bit bits) links (cells ++ (others ++ outputs))
      ∙ ap (λ t. list_any (has_bit bits) links || t) (any_more (has_bit bits) cells (others ++ outputs) ∙ ap (λ t. list_any (has_bit bits) cells || t) (any_more (has_bit bits) others outputs))
      ∙ by (list_any (has_bit bits) links) (list_any (has_bit bits) cells) (list_any (has_bit bits) others) (list_any (has_bit bits) outputs)
      ∙ (λ i. sym fixed i || sides i)
    where
      by : (l c o w : Bool) → (l || (c || (o || w))) ≡ ((l || (c || w)) || o)
      by true c o w = refl
      by false true o w = refl
      by false false true true = refl
      by false false true false = refl
      by false false false true = refl
      by false false false false = refl

      fixed : by_fixed ≡ (list_any (has_bit bits) (flat_map (λ (l : Link). wire_bits l.right) m.links) || (list_any (has_bit bits) (flat_map (cell_reads ports) m.cells) || list_any (has_bit bits) (output_bits 0 m.wires)))
      fixed =
          let links = flat_map (λ (l : Link). wire_bits l.right) m.links in
          let cells = flat_map (cell_reads ports) m.cells in
          let outputs = output_bits 0 m.wires in
          ap (λ reads. list_any (has_bit reads) bits) (fixed_read ports m)
          ∙ either (links ++ (cells ++ outputs)) bits
          ∙ any_more (has_bit bits) links (cells ++ outputs)
          ∙ ap (λ t. list_any (has_bit bits) links || t) (any_more (has_bit bits) cells outputs)

      sides : list_any (has_bit bits) (flat_map process_reads (before ++ after)) ≡ (by_before || by_after)
      sides = flat_more process_reads before after (has_bit bits) ∙ (λ i. sym (processes_read bits before) i || sym (processes_read bits after) i)

  control_is : list_any (has_bit (control_reads p)) bits ≡ by_control
  control_is = either (control_reads p) bits ∙ sym (among_read bits (control_signals p))

  unread_is : (are_unread bits (outer_reads ports m (before ++ after)) && are_unread bits (control_reads p)) ≡ (not (by_fixed || (by_before || by_after)) && not by_control)
  unread_is = λ i. not (outer_is i) && not (control_is i)

  -- a bit is read by connections, cells or ports
  pub fixed_reads : true ≡ by_fixed → false ≡ (are_unread bits (outer_reads ports m (before ++ after)) && are_unread bits (control_reads p))
  fixed_reads e = ap (λ t. not (t || (by_before || by_after)) && not by_control) e ∙ sym unread_is

  -- none is, and the others tell
  pub others_read : false ≡ by_fixed → (free : Bool) → free ≡ are_apart bits before after p → free ≡ (are_unread bits (outer_reads ports m (before ++ after)) && are_unread bits (control_reads p))
  others_read e free f = f ∙ ap (λ t. not (t || (by_before || by_after)) && not by_control) e ∙ sym unread_is
