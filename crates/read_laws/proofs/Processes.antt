-- The items of a process stand in their places and no others, and leave the process that is written.
use Rattle.std.proofs.Common.{◌≡◌, refl, sym, ◌∙◌, ap, subst, ℕ, false, Bool, List, [], ◌∷◌, ◌++◌, Ok, Err, append_assoc}
use Rattle.std.specs.Prelude.{if◌then◌else◌}
use Rattle.rtl_lex.specs.declared.sort.Sort.{Sort}
use Rattle.rtl_lex.specs.declared.sort.Sort.TheVariants as sorts
use Rattle.rtl_lex.specs.Items.{Seen}
use Rattle.rtl_sig.specs.Names.{with_name}
use Rattle.rtl_ir.specs.Tree.{CaseView, switches_of}
use Rattle.rtl_ir.specs.declared.process.Event.TheVariants as events
use Rattle.rtl_ir.specs.declared.process.Process.{Process}
use Rattle.rtl_ir.specs.declared.process.SyncRule.{SyncRule}
use Rattle.rtl_ir.specs.declared.wire.Wire.{Wire}
use Rattle.rtl_grammar.specs.declared.expect.Expect.{Expect}
use Rattle.rtl_grammar.specs.declared.expect.Expect.TheVariants as expects
use Rattle.rtl_grammar.specs.Grammar.{after, Derives}
use Rattle.rtl_grammar.specs.Uses.{Use, roles_of, items_of, run, ◌>>=◌}
use Rattle.rtl_grammar.proofs.Reading.{ending, ends}
use Rattle.rtl_read.specs.declared.draft.Draft.{Draft}
use Rattle.rtl_read.specs.declared.open_module.OpenModule.{OpenModule}
use Rattle.rtl_read.specs.declared.read_fault.ReadFault.TheVariants as faults
use Rattle.rtl_read.specs.Act.{act}
use Rattle.rtl_read.specs.Act.Process.{act_process_body, close_process}
use Rattle.rtl_read.specs.Act.Sync.{act_sync_body}
use Rattle.rtl_read.specs.Meaning.Module.{is_taken, with_process}
use Rattle.rtl_read.specs.Meaning.Process.{plain_process, plain_rule, with_process_name}
use Rattle.rtl_read.specs.Meaning.Tree.{plain_case}
use Rattle.read_laws.specs.SignalBits.{placed}
use Rattle.read_laws.specs.Lines.{between_lines}
use Rattle.read_laws.specs.Rules.{rule_places, with_rule, after_rule}
use Rattle.read_laws.specs.Trees.{body_places, in_case, with_body}
use Rattle.read_laws.specs.Processes.{SyncLines, WrittenProcess, GiveRules, GivesProcess, sync_places, process_places, before_process, after_process}
use Rattle.read_laws.proofs.SignalBits.{then_runs}
use Rattle.read_laws.proofs.Places.{same_uses}
use Rattle.read_laws.proofs.Lines.{fine, one_step}
use Rattle.read_laws.proofs.Rules as rules
use Rattle.read_laws.proofs.Trees as trees
use Rattle.read_laws.proofs.TreePlaces as tree_places

-- ---- the syncs

abbrev with_syncs : List SyncRule → Draft → Draft
with_syncs syncs d = record d { process = record d.process { syncs = syncs; rule = plain_rule events.Always } }

-- behind a rule: it is whole, and so are those behind it
later_run : (more : List SyncLines) (end last : Seen) (rest : List SyncRule) (rule : SyncRule) (d : Draft) → end.sort ≡ sorts.End → GiveRules d.current.body.wires d.current.wire_names more rest → run act (with_rule rule (between_lines d)) (sync_places expects.SyncBody more end last) ≡ Ok (close_process (with_syncs (d.process.syncs ++ rule ∷ rest) (between_lines d)))
later_run [] end last rest rule d e g =
    let x : Draft = with_rule rule (between_lines d) in
    let closed : List SyncRule → Draft = λ (l : List SyncRule). close_process (with_syncs (d.process.syncs ++ rule ∷ l) (between_lines d)) in
    one_step expects.SyncBody end (placed expects.EndOfLine last ∷ []) x (closed []) (closed rest) (ap (λ (sort : Sort). fine (act_sync_body sort x)) e)
    (ap (λ (l : List SyncRule). fine (closed l)) (sym g))
later_run (s ∷ more) end last rest rule d e (word, (next, others, gives, give, is)) =
    let x : Draft = with_rule rule (between_lines d) in
    let y : Draft = after_rule rule d in
    let whole : Draft = close_process (with_syncs (d.process.syncs ++ rule ∷ rest) (between_lines d)) in
    let behind : List Use = sync_places expects.SyncBody more end last in
    let shape : (d.process.syncs ++ rule ∷ []) ++ next ∷ others ≡ d.process.syncs ++ rule ∷ rest = append_assoc d.process.syncs (rule ∷ []) (next ∷ others) ∙ ap (λ (l : List SyncRule). d.process.syncs ++ rule ∷ l) (sym is) in
    one_step expects.SyncBody s.word (rule_places s.rule ++ behind) x (between_lines y) whole (rules.closes s.word rule (between_lines d) word)
    (then_runs act (rule_places s.rule) behind (between_lines y) (with_rule next (between_lines y)) whole (rules.parts s.rule next y gives)
    (later_run more end last others next y e give ∙ ap (λ (l : List SyncRule). fine (close_process (with_syncs l (between_lines d)))) shape))

-- from the first sync on
syncs_run : (syncs : List SyncLines) (end last : Seen) (all : List SyncRule) (d : Draft) → end.sort ≡ sorts.End → GiveRules d.current.body.wires d.current.wire_names syncs all → d.process.syncs ≡ [] → run act (between_lines d) (sync_places expects.ProcessBody syncs end last) ≡ Ok (close_process (with_syncs all (between_lines d)))
syncs_run [] end last all d e g none =
    let x : Draft = between_lines d in
    let closed : List SyncRule → Draft = λ (l : List SyncRule). close_process (with_syncs l x) in
    one_step expects.ProcessBody end (placed expects.EndOfLine last ∷ []) x (closed d.process.syncs) (closed all) (ap (λ (sort : Sort). act_process_body sort end x) e)
    (ap (λ (l : List SyncRule). fine (closed l)) (none ∙ sym g))
syncs_run (s ∷ more) end last all d e (word, (next, others, gives, give, is)) none =
    let x : Draft = between_lines d in
    let whole : Draft = close_process (with_syncs all x) in
    let behind : List Use = sync_places expects.SyncBody more end last in
    one_step expects.ProcessBody s.word (rule_places s.rule ++ behind) x x whole (ap (λ (sort : Sort). act_process_body sort s.word x) word)
    (then_runs act (rule_places s.rule) behind x (with_rule next x) whole (rules.parts s.rule next d gives)
    (later_run more end last others next d e give
    ∙ ap (λ (l : List SyncRule). fine (close_process (with_syncs (l ++ next ∷ others) x))) none
    ∙ ap (λ (l : List SyncRule). fine (close_process (with_syncs l x))) (sym is)))

-- ---- the process

abbrev named : List ℕ → OpenModule → OpenModule
named name m = record m { other_names = with_name m.other_names name }

abbrev made : Process → List ℕ → CaseView → Process
made process name root = record process { name = name; root = root }

pub parts : (p : WrittenProcess) (process : Process) (d : Draft) → GivesProcess d.current.body.wires d.current.wire_names p process → is_taken process.name d.current ≡ false → run act (before_process process d) (process_places p) ≡ Ok (after_process process d)
parts p process d g free =
    let x0 : Draft = before_process process d in
    let x1 : Draft = record x0 { current = named p.name.text d.current; process = with_process_name p.name x0.process } in
    let x2 : Draft = in_case (with_body g.assigns g.switches (plain_case [])) [] x1 in
    let end : Draft = after_process process d in
    let root : CaseView = record { patterns = []; assigns = g.assigns; switches = switches_of g.switches; attributes = [] } in
    let closed : List ℕ → CaseView → Draft = λ (name : List ℕ) (v : CaseView). between_lines (record d { current = with_process (made process name v) (named name d.current); process = plain_process [] }) in
    let body : List Use = body_places expects.ProcessBody expects.NextSwitch p.body in
    let syncs : List Use = sync_places expects.ProcessBody p.syncs p.end p.last in
    let taken : is_taken p.name.text d.current ≡ false = subst (λ (name : List ℕ). is_taken name d.current ≡ false) g.name free in
    one_step expects.ProcessName p.name (placed expects.EndOfLine p.line ∷ (body ++ syncs)) x0 x1 end
    (ap (λ (b : Bool). (if b then Err (faults.Duplicate p.name.place) else Ok (named p.name.text d.current)) >>= λ (m : OpenModule). fine (record x0 { current = m; process = with_process_name p.name x0.process })) taken)
    (one_step expects.EndOfLine p.line (body ++ syncs) x1 x1 end refl
    (then_runs act body syncs x1 x2 end (trees.parts p.body g.assigns g.switches expects.ProcessBody expects.NextSwitch (plain_case []) [] x1 refl g.body)
    (syncs_run p.syncs p.end p.last process.syncs x2 g.end g.rules refl
    ∙ ap (λ (name : List ℕ). fine (closed name root)) (sym g.name)
    ∙ ap (λ (v : CaseView). fine (closed process.name v)) (sym g.root))))

-- ---- its places

later_stand : (wires : List Wire) (names : List (List ℕ)) (more : List SyncLines) (end last : Seen) (all : List SyncRule) (roles : List Expect) (behind : List Use) → end.sort ≡ sorts.End → last.sort ≡ sorts.Line → GiveRules wires names more all → Derives roles (roles_of behind) → Derives (expects.SyncBody ∷ roles) (roles_of (sync_places expects.SyncBody more end last ++ behind))
later_stand wires names [] end last all roles behind e l g d = (refl, (expects.EndOfLine ∷ [], ap (after expects.SyncBody) e, (refl, ([], ap (after expects.EndOfLine) l, d))))
later_stand wires names (s ∷ more) end last all roles behind e l (word, (rule, rest, gives, give, is)) d =
    let front : List Use = rule_places s.rule in
    let others : List Use = sync_places expects.SyncBody more end last in (
      refl,
      (
        expects.SyncEvent ∷ expects.SyncBody ∷ [],
        ap (after expects.SyncBody) word,
        subst (λ (us : List Use). Derives (expects.SyncEvent ∷ expects.SyncBody ∷ roles) (roles_of us)) (sym (append_assoc front others behind))
            (rules.stands s.rule rule wires names roles (others ++ behind) gives (later_stand wires names more end last rest roles behind e l give d)),
      ),
    )

first_stand : (wires : List Wire) (names : List (List ℕ)) (syncs : List SyncLines) (end last : Seen) (all : List SyncRule) (roles : List Expect) (behind : List Use) → end.sort ≡ sorts.End → last.sort ≡ sorts.Line → GiveRules wires names syncs all → Derives roles (roles_of behind) → Derives (expects.ProcessBody ∷ roles) (roles_of (sync_places expects.ProcessBody syncs end last ++ behind))
first_stand wires names [] end last all roles behind e l g d = (refl, (expects.EndOfLine ∷ [], ap (after expects.ProcessBody) e, (refl, ([], ap (after expects.EndOfLine) l, d))))
first_stand wires names (s ∷ more) end last all roles behind e l (word, (rule, rest, gives, give, is)) d =
    let front : List Use = rule_places s.rule in
    let others : List Use = sync_places expects.SyncBody more end last in (
      refl,
      (
        expects.SyncEvent ∷ expects.SyncBody ∷ [],
        ap (after expects.ProcessBody) word,
        subst (λ (us : List Use). Derives (expects.SyncEvent ∷ expects.SyncBody ∷ roles) (roles_of us)) (sym (append_assoc front others behind))
            (rules.stands s.rule rule wires names roles (others ++ behind) gives (later_stand wires names more end last rest roles behind e l give d)),
      ),
    )

pub stands : (p : WrittenProcess) (process : Process) (wires : List Wire) (names : List (List ℕ)) (roles : List Expect) (more : List Use) → GivesProcess wires names p process → Derives roles (roles_of more) → Derives (expects.ProcessName ∷ roles) (roles_of (process_places p ++ more))
stands p process wires names roles more g d =
    let body : List Use = body_places expects.ProcessBody expects.NextSwitch p.body in
    let syncs : List Use = sync_places expects.ProcessBody p.syncs p.end p.last in
    let inner : Derives (expects.ProcessBody ∷ roles) (roles_of ((body ++ syncs) ++ more)) =
    subst (λ (us : List Use). Derives (expects.ProcessBody ∷ roles) (roles_of us)) (sym (append_assoc body syncs more))
    (tree_places.stands p.body g.assigns g.switches wires names 0 expects.ProcessBody expects.NextSwitch roles (syncs ++ more) refl g.body
    (first_stand wires names p.syncs p.end p.last process.syncs roles more g.end g.last g.rules d)) in
    (refl, (expects.EndOfLine ∷ expects.ProcessBody ∷ [], ap (after expects.ProcessName) g.id, (refl, ([], ap (after expects.EndOfLine) g.line, inner))))

pub only_so : (p : WrittenProcess) (process : Process) (wires : List Wire) (names : List (List ℕ)) (roles : List Expect) (uses more : List Use) → GivesProcess wires names p process → items_of uses ≡ items_of (process_places p) → Derives (expects.ProcessName ∷ roles) (roles_of (uses ++ more)) → uses ≡ process_places p
only_so p process wires names roles uses more g same d =
    same_uses uses (process_places p) more (ending roles) (expects.ProcessName ∷ roles) d (stands p process wires names roles (ending roles) g (ends roles)) same
