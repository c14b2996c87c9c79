-- Answers by the module of a name.
use Rattle.std.proofs.Common.{◌≡◌, ℕ, List, [], ◌++◌, Option, Some, None, Result, Ok, Err, get_or, sym, ap, ◌∙◌}
use Rattle.std.specs.Prelude.{IfOk, codes}
use Rattle.std.specs.Fmt.{decimal}
use Rattle.std.specs.List.{flat_map}
use Rattle.std.specs.Option.{option_map_or}
use Rattle.std.proofs.lemmas.Option.{slice_get-get_or}
use Rattle.rtl_bits.specs.declared.bit.Bit.{Bit}
use Rattle.rtl_bits.specs.declared.memory.Memory.{Memory}
use Rattle.desk_read.specs.declared.command.Command.TheVariants.{SimNetlist}
use Rattle.desk_read.specs.declared.command.SimAsk.{SimAsk}
use Rattle.rtl_ir.specs.declared.module.Module.{Module}
use Rattle.rtl_ir.specs.Faults.Recursion.{place_named}
use Rattle.rtl_ir.specs.Ports.{ports_of}
use Rattle.rtl_write.specs.Text.{module_text}
use Rattle.design_edit.proofs.Naming.{named_at, place_within, unnamed}
use Rattle.reply_lines.specs.declared.reply.Reply.{Reply}
use Rattle.reply_lines.specs.Lines.{error_reply}
use Rattle.net_model.specs.declared.order.Order.{Order}
use Rattle.sim_trace.specs.Stimulus.{stimulus_of}
use Rattle.desk_core.specs.Answers.{by_module, by_stimulus, port_line, ports_answer, printed_reply, refusal, show_answer, source_answer, source_reply, unchanged}
use Rattle.desk_core.specs.Builds.{asked_by, if_stimulus, present_keys}
use Rattle.desk_core.specs.State.{Answer, State, answer}

pub by_found : (s : State) (name : List ℕ) (at : ℕ) (m : Module) (f : Module → Answer) → Some at ≡ place_named s.design.modules name → m ≡ get_or s.design.modules at m → by_module s name f ≡ f m
by_found s name at m f place is =
    ap (λ (o : Option Module). option_map_or f o (refusal s (codes "18 " ++ name)))
    (named_at s.design.modules name at m (sym place) ∙ slice_get-get_or s.design.modules at m (place_within s.design.modules name at m (sym place)) ∙ ap Some (sym is))

pub by_none : (s : State) (name : List ℕ) (f : Module → Answer) → None ≡ place_named s.design.modules name → by_module s name f ≡ refusal s (codes "18 " ++ name)
by_none s name f place = ap (λ (o : Option Module). option_map_or f o (refusal s (codes "18 " ++ name))) (unnamed s.design.modules name (sym place))

-- a name that no module has
pub unknown : (s : State) (name : List ℕ) (f : Module → Answer) (r : Result Reply Memory) → None ≡ place_named s.design.modules name
    → IfOk r (λ reply. reply ≡ error_reply (codes "18 " ++ name)) → IfOk r (λ reply. answer reply s ≡ by_module s name f)
unknown s name f (Err memory) place is = tt
unknown s name f (Ok reply) place is = ap (λ (r : Reply). answer r s) is ∙ sym (by_none s name f place)

-- the source of a module is shown
pub shown : (s : State) (name : List ℕ) (at : ℕ) (m : Module) (r : Result Reply Memory) → Some at ≡ place_named s.design.modules name → m ≡ get_or s.design.modules at m
    → IfOk r (λ reply. reply ≡ printed_reply (codes "") (module_text m)) → IfOk r (λ reply. answer reply s ≡ show_answer s name)
shown s name at m (Err memory) place is told = tt
shown s name at m (Ok reply) place is told = ap (λ (r : Reply). answer r s) told ∙ sym (by_found s name at m (λ n. unchanged s (printed_reply (codes "") (module_text n))) place is)

-- the ports of a module are listed
pub ported : (s : State) (name : List ℕ) (at : ℕ) (m : Module) (r : Result Reply Memory) → Some at ≡ place_named s.design.modules name → m ≡ get_or s.design.modules at m
    → IfOk r (λ reply. reply ≡ printed_reply [] (flat_map port_line (ports_of m.wires))) → IfOk r (λ reply. answer reply s ≡ ports_answer s name)
ported s name at m (Err memory) place is told = tt
ported s name at m (Ok reply) place is told =
    ap (λ (r : Reply). answer r s) told
    ∙ sym (by_found s name at m (λ n. unchanged s (printed_reply [] (flat_map port_line (ports_of n.wires)))) place is)

-- the source of a module is run
pub sourced : (s : State) (order : Order) (name text : List ℕ) (at : ℕ) (m : Module) (stimulus : List (List Bit)) (r : Result Reply Memory) → Some at ≡ place_named s.design.modules name → m ≡ get_or s.design.modules at m
    → stimulus_of m text ≡ Ok stimulus → IfOk r (λ reply. reply ≡ source_reply s order m stimulus) → IfOk r (λ reply. answer reply s ≡ source_answer s order name text)
sourced s order name text at m stimulus (Err memory) place is reads told = tt
sourced s order name text at m stimulus (Ok reply) place is reads told =
    ap (λ (r : Reply). answer r s) told
    ∙ sym (by_found s name at m (λ n. by_stimulus s (stimulus_of n text) (λ stimulus. unchanged s (source_reply s order n stimulus))) place is
    ∙ ap (λ (o : Result (List (List Bit)) ℕ). by_stimulus s o (λ stimulus. unchanged s (source_reply s order m stimulus))) reads)

-- a line of the stimulus is bad
pub bad_line : (s : State) (name text : List ℕ) (at : ℕ) (m : Module) (number : ℕ) (run : Module → List (List Bit) → Answer) (r : Result Reply Memory) → Some at ≡ place_named s.design.modules name → m ≡ get_or s.design.modules at m
    → stimulus_of m text ≡ Err number → IfOk r (λ reply. reply ≡ error_reply (codes "23 " ++ decimal number))
    → IfOk r (λ reply. answer reply s ≡ by_module s name (λ n. by_stimulus s (stimulus_of n text) (run n)))
bad_line s name text at m number run (Err memory) place is bad told = tt
bad_line s name text at m number run (Ok reply) place is bad told =
    ap (λ (r : Reply). answer r s) told
    ∙ sym (by_found s name at m (λ n. by_stimulus s (stimulus_of n text) (run n)) place is
    ∙ ap (λ (o : Result (List (List Bit)) ℕ). by_stimulus s o (run m)) bad)

-- a reply that is equal to another
pub told_same : (r : Result Reply Memory) (a b : Reply) → a ≡ b → IfOk r (λ reply. reply ≡ a) → IfOk r (λ reply. reply ≡ b)
told_same (Ok reply) a b same is = is ∙ same
told_same (Err memory) a b same is = tt

-- ---- the keys that a run of a module of the netlist asks for

-- none where no module has the name
pub asked_unknown : (s : State) (ask : SimAsk) → None ≡ place_named s.design.modules ask.module → asked_by (SimNetlist ask) s ≡ []
asked_unknown s ask place =
    ap (λ (o : Option Module). option_map_or (λ (n : Module). if_stimulus (stimulus_of n ask.steps) (present_keys s)) o [])
    (unnamed s.design.modules ask.module (sym place))

asked_found : (s : State) (ask : SimAsk) (at : ℕ) (m : Module) → Some at ≡ place_named s.design.modules ask.module → m ≡ get_or s.design.modules at m
    → asked_by (SimNetlist ask) s ≡ if_stimulus (stimulus_of m ask.steps) (present_keys s)
asked_found s ask at m place is =
    ap (λ (o : Option Module). option_map_or (λ (n : Module). if_stimulus (stimulus_of n ask.steps) (present_keys s)) o [])
    (named_at s.design.modules ask.module at m (sym place) ∙ slice_get-get_or s.design.modules at m (place_within s.design.modules ask.module at m (sym place)) ∙ ap Some (sym is))

-- none where a line of the stimulus is bad
pub asked_bad : (s : State) (ask : SimAsk) (at : ℕ) (m : Module) (number : ℕ) → Some at ≡ place_named s.design.modules ask.module → m ≡ get_or s.design.modules at m
    → stimulus_of m ask.steps ≡ Err number → asked_by (SimNetlist ask) s ≡ []
asked_bad s ask at m number place is bad =
    asked_found s ask at m place is ∙ ap (λ (o : Result (List (List Bit)) ℕ). if_stimulus o (present_keys s)) bad

-- all keys of the design where it can be run
pub asked_all : (s : State) (ask : SimAsk) (at : ℕ) (m : Module) (stimulus : List (List Bit)) → Some at ≡ place_named s.design.modules ask.module → m ≡ get_or s.design.modules at m
    → stimulus_of m ask.steps ≡ Ok stimulus → asked_by (SimNetlist ask) s ≡ present_keys s
asked_all s ask at m stimulus place is reads =
    asked_found s ask at m place is ∙ ap (λ (o : Result (List (List Bit)) ℕ). if_stimulus o (present_keys s)) reads
