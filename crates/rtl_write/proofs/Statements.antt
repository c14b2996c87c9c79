-- What the tokens of wires, cells, processes, modules and designs print is their text.
use Rattle.std.proofs.Common.{◌≡◌, ℕ, zero, suc, ◌+◌, arith, List, [], ◌∷◌, ◌++◌, append_assoc, append-nil, Option, Some, None, Bool, true, false, refl, sym, ap, ◌∙◌}
use Rattle.std.specs.Prelude.{◌==◌, ℤ, pos, negsuc, replicate, codes, if◌then◌else◌}
use Rattle.std.specs.List.{flat_map}
use Rattle.std.specs.Fmt.{decimal, signed_decimal}
use Rattle.rtl_sig.specs.declared.sig.SigBit.{SigBit}
use Rattle.rtl_ir.specs.declared.value.Value.{Value}
use Rattle.rtl_ir.specs.declared.value.Attribute.{Attribute}
use Rattle.rtl_ir.specs.declared.wire.Role.{Role}
use Rattle.rtl_ir.specs.declared.wire.Role.TheVariants.{Inner, Input, Output, Inout}
use Rattle.rtl_ir.specs.declared.wire.Wire.{Wire}
use Rattle.rtl_ir.specs.declared.store.Store.{Store}
use Rattle.rtl_ir.specs.declared.cell.CellParam.{CellParam}
use Rattle.rtl_ir.specs.declared.cell.Pin.{Pin}
use Rattle.rtl_ir.specs.declared.cell.Cell.{Cell}
use Rattle.rtl_ir.specs.declared.module.Link.{Link}
use Rattle.rtl_ir.specs.declared.module.Parameter.{Parameter}
use Rattle.rtl_ir.specs.declared.module.Module.{Module}
use Rattle.rtl_ir.specs.declared.module.Design.{Design}
use Rattle.rtl_ir.specs.Tree.{Switches, Cases, NoSwitch, OneSwitch, NoCase, OneCase}
use Rattle.rtl_ir.specs.declared.process.Event.{Event}
use Rattle.rtl_ir.specs.declared.process.Event.TheVariants as events
use Rattle.rtl_ir.specs.declared.process.WriteLine.{WriteLine}
use Rattle.rtl_ir.specs.declared.process.SyncRule.{SyncRule}
use Rattle.rtl_ir.specs.declared.process.Process.{Process}
use Rattle.rtl_write.specs.Constant.{value_text}
use Rattle.rtl_write.specs.Signal.{signal_text}
use Rattle.rtl_write.specs.Text.{indent, attributes_text, default_text, parameter_text, width_option, size_option, offset_option, upto_option, signed_option, role_option, wire_options, wire_text, store_text, cell_param_head, cell_param_text, pin_head, pin_text, cell_text, assign_text, patterns_text, case_head, switch_head, deeper, switches_text, cases_text, event_text, update_text, write_signals, write_text, sync_text, process_text, link_text, inner_text, module_text, text_of}
use Rattle.rtl_write.proofs.Printed.{Printed, EndLine, spelled}
use Rattle.rtl_write.proofs.Tokens as tokens
use Rattle.rtl_write.proofs.Tokens.{name, word}
use Rattle.rtl_write.proofs.Spelling.{spelled_then, spelled_each, printed_constant, spelled_signal, spelled_attributes}

-- lists end to end, from the right
flat_8 : (a b c d e f g h : List ℕ) → a ++ b ++ c ++ d ++ e ++ f ++ g ++ h ≡ a ++ (b ++ (c ++ (d ++ (e ++ (f ++ (g ++ h))))))
flat_8 a b c d e f g h = simp append_assoc

flat_6 : (a b c d e f : List ℕ) → a ++ b ++ c ++ d ++ e ++ f ≡ a ++ (b ++ (c ++ (d ++ (e ++ f))))
flat_6 a b c d e f = simp append_assoc

-- ---- options

spelled_width : (n : ℕ) → spelled (tokens.width_option n) ≡ width_option n
unfolding width_option
spelled_width n = by_default (n == 1)
  where
    by_default : (one : Bool) → spelled (if one then [] else word 1 (codes "width") ∷ tokens.number 1 n ∷ []) ≡ (if one then [] else codes " width " ++ decimal n)
    by_default true = refl
    by_default false = ap (λ (l : List ℕ). codes " width " ++ l) (append-nil (decimal n))

spelled_integer : (front : List ℕ) (z : ℤ) → front ++ spelled (tokens.integer z ∷ []) ≡ front ++ (32 ∷ signed_decimal z)
spelled_integer front z = ap (λ (l : List ℕ). front ++ (32 ∷ l)) (append-nil (signed_decimal z))

spelled_size : (z : ℤ) → spelled (tokens.size_option z) ≡ size_option z
unfolding size_option
spelled_size (pos zero) = refl
spelled_size (pos (suc n)) = spelled_integer (codes " size") (pos (suc n))
spelled_size (negsuc n) = spelled_integer (codes " size") (negsuc n)

spelled_offset : (z : ℤ) → spelled (tokens.offset_option z) ≡ offset_option z
unfolding offset_option
spelled_offset (pos zero) = refl
spelled_offset (pos (suc n)) = spelled_integer (codes " offset") (pos (suc n))
spelled_offset (negsuc n) = spelled_integer (codes " offset") (negsuc n)

spelled_upto : (b : Bool) → spelled (tokens.upto_option b) ≡ upto_option b
unfolding upto_option
spelled_upto true = refl
spelled_upto false = refl

spelled_signed : (b : Bool) → spelled (tokens.signed_option b) ≡ signed_option b
unfolding signed_option
spelled_signed true = refl
spelled_signed false = refl

spelled_role : (r : Role) (z : ℤ) → spelled (tokens.role_option r z) ≡ role_option r z
unfolding role_option
spelled_role Inner z = refl
spelled_role Input z = spelled_integer (codes " input") z
spelled_role Output z = spelled_integer (codes " output") z
spelled_role Inout z = spelled_integer (codes " inout") z

-- ---- wires and memories

spelled_wire : (w : Wire) → spelled (tokens.wire w) ≡ wire_text w
unfolding wire_text wire_options
spelled_wire w = simp (spelled_then, spelled_attributes, spelled_width, spelled_upto, spelled_offset, spelled_role, spelled_signed, append_assoc)

spelled_store : (s : Store) → spelled (tokens.store s) ≡ store_text s
unfolding store_text
spelled_store s = simp (spelled_then, spelled_attributes, spelled_width, spelled_size, spelled_offset, append_assoc)

-- ---- parameters and cells

spelled_default : (v : Option Value) → spelled (tokens.default v) ≡ default_text v ++ codes "\n"
spelled_default None = refl
spelled_default (Some v) = ap (λ (l : List ℕ). l ++ codes "\n") (printed_constant v)

spelled_parameter : (p : Parameter) → spelled (tokens.parameter p) ≡ parameter_text p
unfolding parameter_text
spelled_parameter p = ap (λ (l : List ℕ). codes "  parameter " ++ (p.name ++ l)) (spelled_default p.value) ∙ ap (λ (l : List ℕ). codes "  parameter " ++ l) (sym (append_assoc p.name (default_text p.value) (codes "\n")))

spelled_cell_param : (p : CellParam) → spelled (tokens.cell_param p) ≡ cell_param_text p
unfolding cell_param_text cell_param_head indent
spelled_cell_param p = simp (spelled_then, spelled_signed, printed_constant, append_assoc)

spelled_pin : (wires : List Wire) (p : Pin) → spelled (tokens.pin wires p) ≡ pin_text wires p
unfolding pin_text pin_head indent
spelled_pin wires p = simp (spelled_then, spelled_signal, append_assoc)

spelled_cell : (wires : List Wire) (c : Cell) → spelled (tokens.cell wires c) ≡ cell_text wires c
unfolding cell_text
spelled_cell wires c =
    let params = spelled_each tokens.cell_param cell_param_text spelled_cell_param c.params in
    let pins = spelled_each (tokens.pin wires) (pin_text wires) (spelled_pin wires) c.pins in
    simp (spelled_then, spelled_attributes, params, pins)
    (sym (flat_8 (attributes_text (codes "  ") c.attributes) (codes "  cell ") c.kind_name (32 ∷ c.name) (codes "\n") (flat_map cell_param_text c.params) (flat_map (pin_text wires) c.pins) (codes "  end\n")))

-- ---- trees

-- the right sides of a pair
spelled_pair : (wires : List Wire) (l : Link) → spelled (tokens.pair wires l) ≡ 32 ∷ (signal_text wires l.left ++ (32 ∷ (signal_text wires l.right ++ codes "\n")))
spelled_pair wires l = simp (spelled_then, spelled_signal)

spelled_assign : (wires : List Wire) (n : ℕ) (l : Link) → spelled (tokens.assign wires n l) ≡ assign_text wires (replicate n 32) l
unfolding assign_text
spelled_assign wires n l = ap (λ (t : List ℕ). (replicate n 32 ++ codes "assign") ++ t) (spelled_pair wires l) ∙ simp append_assoc

spelled_pattern : (wires : List Wire) (pattern : List SigBit) → spelled (tokens.mark 1 44 ∷ tokens.signal wires pattern) ≡ codes " , " ++ signal_text wires pattern
spelled_pattern wires pattern = ap (λ (l : List ℕ). 32 ∷ 44 ∷ l) (spelled_signal wires pattern)

spelled_patterns : (wires : List Wire) (patterns : List (List SigBit)) → spelled (tokens.patterns wires patterns) ≡ patterns_text wires patterns
unfolding patterns_text
spelled_patterns wires [] = refl
spelled_patterns wires (first ∷ more) =
    spelled_then (tokens.signal wires first) (tokens.more_patterns wires more)
    ∙ ap (λ (l : List ℕ). l ++ spelled (tokens.more_patterns wires more)) (spelled_signal wires first)
    ∙ ap (λ (l : List ℕ). (32 ∷ signal_text wires first) ++ l) (spelled_each (λ pattern. tokens.mark 1 44 ∷ tokens.signal wires pattern) (λ pattern. codes " , " ++ signal_text wires pattern) (spelled_pattern wires) more)

spelled_case_head : (wires : List Wire) (n : ℕ) (patterns : List (List SigBit)) (remarks : List Attribute) (more : List Printed)
    → spelled (tokens.attributes n remarks ++ (word n (codes "case") ∷ (tokens.patterns wires patterns ++ EndLine ∷ more))) ≡ case_head wires (replicate n 32) patterns remarks ++ spelled more
unfolding case_head
spelled_case_head wires n patterns remarks more = simp (spelled_then, spelled_attributes, spelled_patterns, append_assoc)

spelled_switch_head : (wires : List Wire) (n : ℕ) (sig : List SigBit) (remarks : List Attribute) (more : List Printed)
    → spelled (tokens.attributes n remarks ++ (word n (codes "switch") ∷ (tokens.signal wires sig ++ EndLine ∷ more))) ≡ switch_head wires (replicate n 32) sig remarks ++ spelled more
unfolding switch_head
spelled_switch_head wires n sig remarks more = simp (spelled_then, spelled_attributes, spelled_signal, append_assoc)

blanks_deeper : (n : ℕ) → replicate (n + 2) 32 ≡ deeper (replicate n 32)
blanks_deeper zero = refl
blanks_deeper (suc n) =
    let e : suc n + 2 ≡ suc (n + 2) = omega arith in
    ap (λ (k : ℕ). replicate {A = ℕ} k 32) e ∙ ap (λ (l : List ℕ). 32 ∷ l) (blanks_deeper n)

ended : (h c b r : List ℕ) → h ++ (c ++ ((b ++ codes "end") ++ (10 ∷ r))) ≡ h ++ c ++ b ++ codes "end\n" ++ r
ended h c b r = simp append_assoc

joined : (h a s r : List ℕ) → h ++ (a ++ (s ++ r)) ≡ h ++ a ++ s ++ r
joined h a s r = simp append_assoc

mutual
  unfolding switches_text cases_text

  spelled_switches : (wires : List Wire) (n : ℕ) (s : Switches) → spelled (tokens.switches wires n s) ≡ switches_text wires (replicate n 32) s
  spelled_switches wires n NoSwitch = refl
  spelled_switches wires n (OneSwitch sig remarks all rest) =
      let blanks = replicate {A = ℕ} n 32 in
      let end = word n (codes "end") ∷ EndLine ∷ tokens.switches wires n rest in
      let head = switch_head wires blanks sig remarks in
      let inside : spelled (tokens.cases wires (n + 2) all) ≡ cases_text wires (deeper blanks) all = spelled_cases wires (n + 2) all ∙ ap (λ (b : List ℕ). cases_text wires b all) (blanks_deeper n) in
      let behind : spelled end ≡ (blanks ++ codes "end") ++ (10 ∷ switches_text wires blanks rest) = ap (λ (l : List ℕ). (blanks ++ codes "end") ++ (10 ∷ l)) (spelled_switches wires n rest) in
      spelled_switch_head wires n sig remarks (tokens.cases wires (n + 2) all ++ end)
      ∙ ap (λ (l : List ℕ). head ++ l) (spelled_then (tokens.cases wires (n + 2) all) end ∙ ap (λ (l : List ℕ). l ++ spelled end) inside ∙ ap (λ (l : List ℕ). cases_text wires (deeper blanks) all ++ l) behind)
      ∙ ended head (cases_text wires (deeper blanks) all) blanks (switches_text wires blanks rest)

  spelled_cases : (wires : List Wire) (n : ℕ) (s : Cases) → spelled (tokens.cases wires n s) ≡ cases_text wires (replicate n 32) s
  spelled_cases wires n NoCase = refl
  spelled_cases wires n (OneCase match assigns remarks inner rest) =
      let blanks = replicate {A = ℕ} n 32 in
      let head = case_head wires blanks match remarks in
      let lines = flat_map (tokens.assign wires (n + 2)) assigns in
      let below = tokens.switches wires (n + 2) inner in
      let more = tokens.cases wires n rest in
      let assigns_are : spelled lines ≡ flat_map (assign_text wires (deeper blanks)) assigns = spelled_each (tokens.assign wires (n + 2)) (assign_text wires (replicate (n + 2) 32)) (spelled_assign wires (n + 2)) assigns ∙ ap (λ (b : List ℕ). flat_map (assign_text wires b) assigns) (blanks_deeper n) in
      let below_is : spelled below ≡ switches_text wires (deeper blanks) inner = spelled_switches wires (n + 2) inner ∙ ap (λ (b : List ℕ). switches_text wires b inner) (blanks_deeper n) in
      spelled_case_head wires n match remarks (lines ++ (below ++ more))
      ∙ ap (λ (l : List ℕ). head ++ l) (spelled_then lines (below ++ more) ∙ ap (λ (l : List ℕ). l ++ spelled (below ++ more)) assigns_are)
      ∙ ap (λ (l : List ℕ). head ++ (flat_map (assign_text wires (deeper blanks)) assigns ++ l)) (spelled_then below more ∙ ap (λ (l : List ℕ). l ++ spelled more) below_is ∙ ap (λ (l : List ℕ). switches_text wires (deeper blanks) inner ++ l) (spelled_cases wires n rest))
      ∙ joined head (flat_map (assign_text wires (deeper blanks)) assigns) (switches_text wires (deeper blanks) inner) (cases_text wires blanks rest)

-- ---- processes

spelled_event : (wires : List Wire) (e : Event) → spelled (tokens.event wires e) ≡ 32 ∷ event_text wires e
unfolding event_text
spelled_event wires (events.Low sig) = ap (λ (l : List ℕ). codes " low" ++ l) (spelled_signal wires sig)
spelled_event wires (events.High sig) = ap (λ (l : List ℕ). codes " high" ++ l) (spelled_signal wires sig)
spelled_event wires (events.Posedge sig) = ap (λ (l : List ℕ). codes " posedge" ++ l) (spelled_signal wires sig)
spelled_event wires (events.Negedge sig) = ap (λ (l : List ℕ). codes " negedge" ++ l) (spelled_signal wires sig)
spelled_event wires (events.Edge sig) = ap (λ (l : List ℕ). codes " edge" ++ l) (spelled_signal wires sig)
spelled_event wires events.Global = refl
spelled_event wires events.Init = refl
spelled_event wires events.Always = refl

spelled_update : (wires : List Wire) (l : Link) → spelled (tokens.update wires l) ≡ update_text wires l
unfolding update_text indent
spelled_update wires l = ap (λ (t : List ℕ). codes "      update" ++ t) (spelled_pair wires l) ∙ simp append_assoc

flat_write : (a i w m x y z c e : List ℕ) → a ++ i ++ w ++ (m ++ x ++ y ++ z) ++ c ++ e ≡ a ++ (i ++ (w ++ (m ++ (x ++ (y ++ (z ++ (c ++ e)))))))
flat_write a i w m x y z c e = simp append_assoc

spelled_write : (wires : List Wire) (w : WriteLine) → spelled (tokens.write wires w) ≡ write_text wires w
unfolding write_text write_signals indent
spelled_write wires w =
    simp (spelled_then, spelled_attributes, spelled_signal, printed_constant)
    (sym (flat_write (attributes_text (codes "      ") w.attributes) (codes "      ") (codes "memwr ") w.memory (32 ∷ signal_text wires w.address) (32 ∷ signal_text wires w.value) (32 ∷ signal_text wires w.enable) (32 ∷ value_text w.mask) (codes "\n")))

spelled_sync : (wires : List Wire) (s : SyncRule) → spelled (tokens.sync wires s) ≡ sync_text wires s
unfolding sync_text
spelled_sync wires s =
    let updates = spelled_each (tokens.update wires) (update_text wires) (spelled_update wires) s.updates in
    let writes = spelled_each (tokens.write wires) (write_text wires) (spelled_write wires) s.writes in
    simp (spelled_then, spelled_event, updates, writes, append_assoc)

spelled_process : (wires : List Wire) (p : Process) → spelled (tokens.process wires p) ≡ process_text wires p
unfolding process_text indent
spelled_process wires p =
    let assigns = spelled_each (tokens.assign wires 4) (assign_text wires (codes "    ")) (spelled_assign wires 4) p.root.assigns in
    let tree = spelled_switches wires 4 p.root.switches in
    let syncs = spelled_each (tokens.sync wires) (sync_text wires) (spelled_sync wires) p.syncs in
    simp (spelled_then, spelled_attributes, assigns, tree, syncs)
    (sym (flat_8 (attributes_text (codes "  ") p.attributes) (codes "  process ") p.name (codes "\n") (flat_map (assign_text wires (codes "    ")) p.root.assigns) (switches_text wires (codes "    ") p.root.switches) (flat_map (sync_text wires) p.syncs) (codes "  end\n")))

spelled_link : (wires : List Wire) (l : Link) → spelled (tokens.link wires l) ≡ link_text wires l
unfolding link_text
spelled_link wires l = ap (λ (t : List ℕ). codes "  connect" ++ t) (spelled_pair wires l) ∙ simp append_assoc

-- ---- modules and designs

spelled_inner : (m : Module) → spelled (tokens.inner m) ≡ inner_text m
unfolding inner_text
spelled_inner m =
    let parameters = spelled_each tokens.parameter parameter_text spelled_parameter m.parameters in
    let wires = spelled_each tokens.wire wire_text spelled_wire m.wires in
    let stores = spelled_each tokens.store store_text spelled_store m.memories in
    let cells = spelled_each (tokens.cell m.wires) (cell_text m.wires) (spelled_cell m.wires) m.cells in
    let processes = spelled_each (tokens.process m.wires) (process_text m.wires) (spelled_process m.wires) m.processes in
    let links = spelled_each (tokens.link m.wires) (link_text m.wires) (spelled_link m.wires) m.links in
    simp (spelled_then, parameters, wires, stores, cells, processes, links)
    (sym (flat_6 (flat_map parameter_text m.parameters) (flat_map wire_text m.wires) (flat_map store_text m.memories) (flat_map (cell_text m.wires) m.cells) (flat_map (process_text m.wires) m.processes) (flat_map (link_text m.wires) m.links)))

spelled_module : (m : Module) → spelled (tokens.one_module m) ≡ module_text m
unfolding module_text
spelled_module m =
    let end = word 0 (codes "end") ∷ EndLine ∷ [] in
    let body : spelled (tokens.inner m ++ end) ≡ inner_text m ++ codes "end\n" = spelled_then (tokens.inner m) end ∙ ap (λ (l : List ℕ). l ++ codes "end\n") (spelled_inner m) in
    spelled_then (tokens.attributes 0 m.attributes) (tokens.module_lines m)
    ∙ ap (λ (l : List ℕ). l ++ spelled (tokens.module_lines m)) (spelled_attributes 0 m.attributes)
    ∙ ap (λ (l : List ℕ). attributes_text [] m.attributes ++ (codes "module " ++ (m.id ++ (codes "\n" ++ l)))) body
    ∙ sym (flat_6 (attributes_text [] m.attributes) (codes "module ") m.id (codes "\n") (inner_text m) (codes "end\n"))

-- the tokens of a design print its text
pub spelled_design : (d : Design) → spelled (tokens.tokens_of d) ≡ text_of d
spelled_design d = spelled_each tokens.one_module module_text spelled_module d.modules
