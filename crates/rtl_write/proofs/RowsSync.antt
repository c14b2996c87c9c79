-- The tokens of syncs leave what is good.
use Rattle.std.proofs.Common.{◌≡◌, List, [], ◌∷◌, Some, Ok, refl}
use Rattle.std.proofs.lemmas.List.Elements.{All-nil, All-push}
use Rattle.rtl_lex.specs.declared.sort.Sort.{Sort}
use Rattle.rtl_lex.specs.declared.sort.Sort.TheVariants as sorts
use Rattle.rtl_lex.specs.Items.{Seen}
use Rattle.rtl_sig.specs.declared.sig.SigBit.{SigBit}
use Rattle.rtl_ir.specs.declared.module.Link.{Link}
use Rattle.rtl_ir.specs.declared.process.Event.{Event}
use Rattle.rtl_ir.specs.declared.process.WriteLine.{WriteLine}
use Rattle.rtl_ir.specs.declared.process.SyncRule.{SyncRule}
use Rattle.rtl_grammar.specs.declared.expect.Expect.{Expect}
use Rattle.rtl_grammar.specs.declared.expect.Expect.TheVariants as expects
use Rattle.rtl_grammar.specs.Uses.{◌>>=◌}
use Rattle.rtl_grammar.specs.Grammar.Sync.{after_sync_event, after_behind_event, after_sync_body, after_next_write, after_write_memory, after_behind_address, after_behind_value, after_behind_enable}
use Rattle.rtl_read.specs.declared.draft.Draft.{Draft}
use Rattle.rtl_read.specs.declared.draft.PairKind.TheVariants.{Update}
use Rattle.rtl_read.specs.declared.open_module.OpenModule.{OpenModule}
use Rattle.rtl_read.specs.declared.open_process.OpenProcess.{OpenProcess}
use Rattle.rtl_read.specs.Constant.{constant}
use Rattle.rtl_read.specs.Signal.{some_bits}
use Rattle.rtl_read.specs.Meaning.Attribute.{no_attributes}
use Rattle.rtl_read.specs.Meaning.Process.{event_of, event_with, plain_rule, open_rule, with_event, with_update, open_write, with_memory, with_address, with_value, close_write}
use Rattle.rtl_read.specs.Act.Signal.{without_signal, begin_signal}
use Rattle.rtl_read.specs.Act.Process.{close_process}
use Rattle.rtl_read.specs.Act.Sync.{act_sync_event, act_behind_event, end_rule, act_next_write, act_sync_body, act_write_memory, act_behind_address, act_behind_value, end_write, act_behind_enable}
use Rattle.rtl_readable.specs.Readable.{IsSignal, IsSomeSignal, IsLink, IsEvent, IsWrite, IsRule}
use Rattle.rtl_write.proofs.Items.{IsGood}
use Rattle.rtl_write.proofs.GoodParts.{Constant, constant_good, none_waiting, are_attributes}
use Rattle.rtl_write.proofs.GoodTrees.{some_good}
use Rattle.rtl_write.proofs.Stages.{Stage, Fits, wires_in, IsProcessSoFar, AtRoot, ThenSignal}
use Rattle.rtl_write.proofs.Drafts.{in_waiting, signal_stage, pair_stage, bracket_stage}
use Rattle.rtl_write.proofs.Rows.{Leaves, leaves_bind}
use Rattle.rtl_write.proofs.RowsSignal.{signal_body, begin_row}
use Rattle.rtl_write.proofs.RowsProcess.{closes}

-- another rule and another line do not matter to what the process has
ruled : (m : OpenModule) (p : OpenProcess) (rule : SyncRule) (write : WriteLine) → IsProcessSoFar m p → IsProcessSoFar m (record p { rule = rule; write = write })
ruled m p rule write is = record { name = is.name; attributes = is.attributes; tree = is.tree; rules = is.rules }

-- ---- the head of a rule

module _ (roles : List Expect) (d : Draft) (at : Stage expects.SyncEvent (Fits roles) d) where
  begun : (sort : Sort) → IsProcessSoFar d.current (open_rule sort d.process)
  begun sort = ruled d.current d.process (plain_rule (event_of sort)) d.process.write at.0.0.1

  rule_good : (event : Event) → IsEvent (wires_in d) event → IsRule (wires_in d) (plain_rule event)
  rule_good event is = record { event = is; updates = All-nil (IsLink (wires_in d)); writes = All-nil (IsWrite (wires_in d)) }

  signalled : (sort : Sort) → ((sig : List SigBit) → IsSomeSignal (wires_in d) sig → IsEvent (wires_in d) (event_with sig (event_of sort))) → Leaves roles (Some (expects.Signal ∷ expects.BehindEvent ∷ [])) (Ok (act_sync_event sort d))
  signalled sort event = signal_stage (Fits (expects.BehindEvent ∷ roles)) (act_sync_event sort d) at.0.0.0 (λ s is. (is, begun sort, at.0.1, (λ sig some. rule_good (event_with sig (event_of sort)) (event sig some)), at.1))

  alone : (sort : Sort) → IsEvent (wires_in d) (event_of sort) → Leaves roles (Some (expects.EndOfLine ∷ [])) (Ok (act_sync_event sort d))
  alone sort is = at.1 (act_sync_event sort d) (((at.0.0.0, begun sort), at.0.1), rule_good (event_of sort) is)

  pub sync_event : (sort : Sort) → Leaves roles (after_sync_event sort) (Ok (act_sync_event sort d))
  sync_event sorts.Low = signalled sorts.Low (λ sig some. some)
  sync_event sorts.High = signalled sorts.High (λ sig some. some)
  sync_event sorts.Posedge = signalled sorts.Posedge (λ sig some. some)
  sync_event sorts.Negedge = signalled sorts.Negedge (λ sig some. some)
  sync_event sorts.Edge = signalled sorts.Edge (λ sig some. some)
  sync_event sorts.Global = alone sorts.Global tt
  sync_event sorts.Init = alone sorts.Init tt
  sync_event sorts.Always = alone sorts.Always tt
  sync_event sort = tt

pub behind_event : (roles : List Expect) (i : Seen) (sort : Sort) (d : Draft) → Stage expects.BehindEvent (Fits roles) d → Leaves roles (after_behind_event sort) (act_behind_event sort i d)
behind_event roles i sorts.OpenIndex d at = bracket_stage (Fits (expects.BehindEvent ∷ roles)) i d at.0 (λ s is. (is, at.1, at.2, at.3, at.4))
behind_event roles i sorts.Line d at =
    leaves_bind roles [] (some_bits d.signal.part i) (λ sig. Ok (record (without_signal d) { process = with_event sig d.process }))
    (λ sig e.
    let some = some_good (wires_in d) d.signal.part sig i at.0.1.part e in
    let p : OpenProcess = with_event sig d.process in
    at.4 (record (without_signal d) { process = p }) ((((at.0.0, refl), ruled d.current d.process p.rule p.write at.1), at.2), at.3 sig some))
behind_event roles i sort d at = tt

-- ---- the lines of a rule

module _ (roles : List Expect) (i : Seen) (d : Draft) (at : Stage expects.SyncBody (Fits roles) d) where
  -- the open rule is whole
  ended : AtRoot (end_rule d)
  ended =
      let is = at.0.0.0.1 in
      ((at.0.0.0.0, record { name = is.name; attributes = is.attributes; tree = is.tree; rules = All-push (IsRule (wires_in d)) d.process.syncs d.process.rule is.rules at.0.1 }), at.0.0.1)

  updates : Leaves roles (Some (expects.Signal ∷ expects.BehindLeft ∷ expects.SyncBody ∷ [])) (Ok (act_sync_body sorts.Update d))
  updates = pair_stage (Fits (expects.SyncBody ∷ roles)) (record d { pair = Update }) at.0.0.0.0 (λ left s is on.
      let link : Link = record { left = left; right = s.part } in
      let p : OpenProcess = with_update link d.process in
      let rule = at.0.1 in (
        (
          (((at.0.0.0.0.0, refl), ruled d.current d.process p.rule p.write at.0.0.0.1), at.0.0.1),
          record { event = rule.event; updates = All-push (IsLink (wires_in d)) d.process.rule.updates link rule.updates (record { left = is; right = on }); writes = rule.writes },
        ),
        at.1,
      ))

  pub sync_body : (sort : Sort) → Leaves roles (after_sync_body sort) (Ok (act_sync_body sort d))
  sync_body sorts.Update = updates
  sync_body sorts.Attribute = (at.0.0.0.0.0.waiting, λ a w. (((((in_waiting d at.0.0.0.0.0 a w, at.0.0.0.0.1), at.0.0.0.1), at.0.0.1), at.0.1), λ e r. (r, at.1)))
  sync_body sorts.Memwr = (((((in_waiting d at.0.0.0.0.0 no_attributes none_waiting, at.0.0.0.0.1), ruled d.current d.process d.process.rule (open_write d.attributes.items d.process).write at.0.0.0.1), at.0.0.1), at.0.1), are_attributes d.attributes at.0.0.0.0.0.waiting, λ e r. (r, at.1))
  sync_body sorts.Sync = (ended, λ e r. (r, at.1))
  sync_body sorts.End = at.1 (close_process (end_rule d)) (closes (end_rule d) ended)
  sync_body sort = tt

pub next_write : (roles : List Expect) (sort : Sort) (d : Draft) → Stage expects.NextWrite (Fits roles) d → Leaves roles (after_next_write sort) (Ok (act_next_write sort d))
next_write roles sorts.Attribute d at = (at.0.0.0.0.0.waiting, λ a w. (((((in_waiting d at.0.0.0.0.0 a w, at.0.0.0.0.1), at.0.0.0.1), at.0.0.1), at.0.1), at.1))
next_write roles sorts.Memwr d at =
    (((((in_waiting d at.0.0.0.0.0 no_attributes none_waiting, at.0.0.0.0.1), ruled d.current d.process d.process.rule (open_write d.attributes.items d.process).write at.0.0.0.1), at.0.0.1), at.0.1), are_attributes d.attributes at.0.0.0.0.0.waiting, at.1)
next_write roles sort d at = tt

-- ---- a line that writes a memory

pub write_memory : (roles : List Expect) (i : Seen) (sort : Sort) (d : Draft) → i.sort ≡ sort → IsGood i → Stage expects.WriteMemory (Fits roles) d → Leaves roles (after_write_memory sort) (Ok (act_write_memory i d))
write_memory roles i sorts.Id d e good at =
    let p : OpenProcess = with_memory i d.process in
    signal_stage (Fits (expects.BehindAddress ∷ roles)) (record d { process = p }) at.0.0.0.0 (λ s is. (is, ruled d.current d.process p.rule p.write at.0.0.0.1, at.0.0.1, at.0.1, at.1, good.name e, at.2))
write_memory roles i sort d e good at = tt

module _ (roles : List Expect) (i : Seen) (d : Draft) (good : IsGood i) (at : Stage expects.BehindAddress (Fits roles) d) where
  abbrev addressed : List SigBit → Draft
  addressed sig = record (without_signal d) { process = with_address sig d.process }

  to_value : (body : List Expect) (sort : Sort) → ((sig : List SigBit) → ThenSignal (Fits (expects.BehindValue ∷ roles)) [] (addressed sig) → Leaves roles (Some body) (begin_signal sort i (addressed sig))) → Leaves roles (Some body) (some_bits d.signal.part i >>= λ sig. begin_signal sort i (addressed sig))
  to_value body sort on =
      leaves_bind roles body (some_bits d.signal.part i) (λ sig. begin_signal sort i (addressed sig))
      (λ sig e.
      let some = some_good (wires_in d) d.signal.part sig i at.0.1.part e in
      let p : OpenProcess = with_address sig d.process in
      on sig (λ s is f. ((at.0.0, is, f), ruled d.current d.process p.rule p.write at.1, at.2, at.3, at.4, at.5, some, at.6)))

  begins : (sort : Sort) (sig : List SigBit) → ThenSignal (Fits (expects.BehindValue ∷ roles)) [] (addressed sig) → Leaves roles (signal_body (expects.BehindValue ∷ []) sort) (begin_signal sort i (addressed sig))
  begins sort sig next = begin_row roles (expects.BehindValue ∷ []) i (addressed sig) (All-nil (IsSignal (wires_in d))) next sort good at.0.0

  pub behind_address : (sort : Sort) → Leaves roles (after_behind_address sort) (act_behind_address sort i d)
  behind_address sorts.OpenIndex = bracket_stage (Fits (expects.BehindAddress ∷ roles)) i d at.0 (λ s is. (is, at.1, at.2, at.3, at.4, at.5, at.6))
  behind_address sorts.Id = to_value (expects.BehindValue ∷ []) sorts.Id (begins sorts.Id)
  behind_address sorts.Value = to_value (expects.BehindValue ∷ []) sorts.Value (begins sorts.Value)
  behind_address sorts.Int = to_value (expects.BehindValue ∷ []) sorts.Int (begins sorts.Int)
  behind_address sorts.Chars = to_value (expects.BehindValue ∷ []) sorts.Chars (begins sorts.Chars)
  behind_address sorts.OpenBrace = to_value (expects.Inside ∷ expects.BehindValue ∷ []) sorts.OpenBrace (begins sorts.OpenBrace)
  behind_address sort = tt

module _ (roles : List Expect) (i : Seen) (d : Draft) (good : IsGood i) (at : Stage expects.BehindValue (Fits roles) d) where
  abbrev valued : List SigBit → Draft
  valued sig = record (without_signal d) { process = with_value sig d.process }

  to_enable : (body : List Expect) (sort : Sort) → ((sig : List SigBit) → ThenSignal (Fits (expects.BehindEnable ∷ roles)) [] (valued sig) → Leaves roles (Some body) (begin_signal sort i (valued sig))) → Leaves roles (Some body) (some_bits d.signal.part i >>= λ sig. begin_signal sort i (valued sig))
  to_enable body sort on =
      leaves_bind roles body (some_bits d.signal.part i) (λ sig. begin_signal sort i (valued sig))
      (λ sig e.
      let some = some_good (wires_in d) d.signal.part sig i at.0.1.part e in
      let p : OpenProcess = with_value sig d.process in
      on sig (λ s is f. ((at.0.0, is, f), ruled d.current d.process p.rule p.write at.1, at.2, at.3, at.4, at.5, at.6, some, at.7)))

  begins_enable : (sort : Sort) (sig : List SigBit) → ThenSignal (Fits (expects.BehindEnable ∷ roles)) [] (valued sig) → Leaves roles (signal_body (expects.BehindEnable ∷ []) sort) (begin_signal sort i (valued sig))
  begins_enable sort sig next = begin_row roles (expects.BehindEnable ∷ []) i (valued sig) (All-nil (IsSignal (wires_in d))) next sort good at.0.0

  pub behind_value : (sort : Sort) → Leaves roles (after_behind_value sort) (act_behind_value sort i d)
  behind_value sorts.OpenIndex = bracket_stage (Fits (expects.BehindValue ∷ roles)) i d at.0 (λ s is. (is, at.1, at.2, at.3, at.4, at.5, at.6, at.7))
  behind_value sorts.Id = to_enable (expects.BehindEnable ∷ []) sorts.Id (begins_enable sorts.Id)
  behind_value sorts.Value = to_enable (expects.BehindEnable ∷ []) sorts.Value (begins_enable sorts.Value)
  behind_value sorts.Int = to_enable (expects.BehindEnable ∷ []) sorts.Int (begins_enable sorts.Int)
  behind_value sorts.Chars = to_enable (expects.BehindEnable ∷ []) sorts.Chars (begins_enable sorts.Chars)
  behind_value sorts.OpenBrace = to_enable (expects.Inside ∷ expects.BehindEnable ∷ []) sorts.OpenBrace (begins_enable sorts.OpenBrace)
  behind_value sort = tt

module _ (roles : List Expect) (i : Seen) (d : Draft) (good : IsGood i) (at : Stage expects.BehindEnable (Fits roles) d) where
  masked : (sort : Sort) → Constant sort → Leaves roles (Some (expects.EndOfLine ∷ [])) (some_bits d.signal.part i >>= λ sig. end_write sig sort i (without_signal d))
  masked sort is =
      leaves_bind roles (expects.EndOfLine ∷ []) (some_bits d.signal.part i) (λ sig. end_write sig sort i (without_signal d))
      (λ sig e.
      let some = some_good (wires_in d) d.signal.part sig i at.0.1.part e in
      leaves_bind roles (expects.EndOfLine ∷ []) (constant sort i) (λ mask. Ok (record (without_signal d) { process = close_write sig mask d.process }))
      (λ mask f.
      let p : OpenProcess = close_write sig mask d.process in
      let write : WriteLine = record d.process.write { enable = sig; mask = mask } in
      let good_write : IsWrite (wires_in d) write = record { memory = at.5; address = at.6; value = at.7; enable = some; mask = constant_good sort i mask is good f; attributes = at.4 } in
      at.8 (record (without_signal d) { process = p }) (
        (((at.0.0, refl), ruled d.current d.process p.rule p.write at.1), at.2),
        record { event = at.3.event; updates = at.3.updates; writes = All-push (IsWrite (wires_in d)) d.process.rule.writes write at.3.writes good_write },
      )))

  pub behind_enable : (sort : Sort) → Leaves roles (after_behind_enable sort) (act_behind_enable sort i d)
  behind_enable sorts.OpenIndex = bracket_stage (Fits (expects.BehindEnable ∷ roles)) i d at.0 (λ s is. (is, at.1, at.2, at.3, at.4, at.5, at.6, at.7, at.8))
  behind_enable sorts.Value = masked sorts.Value tt
  behind_enable sorts.Int = masked sorts.Int tt
  behind_enable sorts.Chars = masked sorts.Chars tt
  behind_enable sort = tt
