-- Whatever a text gives is readable: each token leaves what is good at the places behind it, and so the end does.
use Rattle.std.proofs.Common.{◌≡◌, ℕ, List, [], ◌∷◌, ◌++◌, Option, Some, Result, Ok, Err, false, refl, sym, ap, subst, ◌∙◌, arith}
use Rattle.std.specs.List.{All, IsDistinct}
use Rattle.std.proofs.lemmas.List.Elements.{All-nil, All-head, All-tail}
use Rattle.rtl_lex.specs.Place.{start as text_start}
use Rattle.rtl_lex.specs.Items.{Seen}
use Rattle.rtl_sig.specs.Names.{AreDistinct}
use Rattle.rtl_ir.specs.declared.module.Design.{Design}
use Rattle.rtl_grammar.specs.declared.expect.Expect.{Expect}
use Rattle.rtl_grammar.specs.declared.expect.Expect.TheVariants as expects
use Rattle.rtl_grammar.specs.Grammar.{after, Derives}
use Rattle.rtl_grammar.specs.Uses.{Use, roles_of, items_of, ◌>>=◌, run}
use Rattle.rtl_read.specs.declared.draft.Draft.{Draft}
use Rattle.rtl_read.specs.declared.read_fault.ReadFault.{ReadFault}
use Rattle.rtl_read.specs.Draft.{nothing, design_of}
use Rattle.rtl_read.specs.Act.{act}
use Rattle.rtl_read.specs.Reads.{Reads}
use Rattle.rtl_readable.specs.Readable.{IsReadableModule, IsReadable}
use Rattle.rtl_write.proofs.Items.{IsGood, good_items}
use Rattle.rtl_write.proofs.GoodParts.{none_waiting}
use Rattle.rtl_write.proofs.Stages.{Stage, Fits, Out}
use Rattle.rtl_write.proofs.Rows.{Leaves}
use Rattle.rtl_write.proofs.RowsFile.{start, file_head, autoidx_number, more_modules, next_module, end_of_line, attribute_name, attribute_value}
use Rattle.rtl_write.proofs.RowsModule.{module_name, body, next_item, parameter_name, parameter_value}
use Rattle.rtl_write.proofs.RowsWire.{wire_option, wire_width, wire_offset, port_number, memory_option, memory_width, memory_size, memory_offset}
use Rattle.rtl_write.proofs.RowsCell.{cell_kind, cell_name, cell_body, cell_parameter, cell_parameter_name, cell_parameter_value, pin_name, behind_pin}
use Rattle.rtl_write.proofs.RowsPair.{behind_left, behind_right}
use Rattle.rtl_write.proofs.RowsProcess.{process_name, process_body, next_switch}
use Rattle.rtl_write.proofs.RowsSwitch.{behind_switch, cases, next_case, patterns, behind_pattern, case_body, next_in_case}
use Rattle.rtl_write.proofs.RowsSync.{sync_event, behind_event, sync_body, next_write, write_memory, behind_address, behind_value, behind_enable}
use Rattle.rtl_write.proofs.RowsSignal.{signal, inside_row, behind_inside_row, index, behind, low_index, index_end}

-- a token leaves what is good, wherever it stands
row : (roles : List Expect) (role : Expect) (i : Seen) (d : Draft) → IsGood i → Stage role (Fits roles) d → Leaves roles (after role i.sort) (act role i d)
row roles expects.Start i d good at = start roles i d at i.sort
row roles expects.FileHead i d good at = file_head roles i d at i.sort
row roles expects.AutoidxNumber i d good at = autoidx_number roles i i.sort d at
row roles expects.Modules i d good at = more_modules roles i d at i.sort
row roles expects.NextModule i d good at = next_module roles i d at i.sort
row roles expects.EndOfLine i d good at = end_of_line roles i.sort d at
row roles expects.AttributeName i d good at = attribute_name roles i i.sort d refl good at
row roles expects.AttributeValue i d good at = attribute_value roles i d good at i.sort
row roles expects.ModuleName i d good at = module_name roles i i.sort d refl good at
row roles expects.Body i d good at = body roles i d at i.sort
row roles expects.NextItem i d good at = next_item roles i d at i.sort
row roles expects.ParameterName i d good at = parameter_name roles i i.sort d refl good at
row roles expects.ParameterValue i d good at = parameter_value roles i d good at i.sort
row roles expects.WireOption i d good at = wire_option roles i d at i.sort refl good
row roles expects.WireWidth i d good at = wire_width roles i i.sort d good at
row roles expects.WireOffset i d good at = wire_offset roles i i.sort d good at
row roles expects.PortNumber i d good at = port_number roles i i.sort d good at
row roles expects.MemoryOption i d good at = memory_option roles i d at i.sort refl good
row roles expects.MemoryWidth i d good at = memory_width roles i i.sort d good at
row roles expects.MemorySize i d good at = memory_size roles i i.sort d good at
row roles expects.MemoryOffset i d good at = memory_offset roles i i.sort d good at
row roles expects.CellKind i d good at = cell_kind roles i i.sort d refl good at
row roles expects.CellName i d good at = cell_name roles i i.sort d refl good at
row roles expects.CellBody i d good at = cell_body roles d at i.sort
row roles expects.CellParameter i d good at = cell_parameter roles i d good at i.sort refl
row roles expects.CellParameterName i d good at = cell_parameter_name roles i d good at i.sort refl
row roles expects.CellParameterValue i d good at = cell_parameter_value roles i d good at i.sort
row roles expects.PinName i d good at = pin_name roles i i.sort d refl good at
row roles expects.BehindPin i d good at = behind_pin roles i i.sort d at
row roles expects.BehindLeft i d good at = behind_left roles i d good at i.sort
row roles expects.BehindRight i d good at = behind_right roles i i.sort d at
row roles expects.ProcessName i d good at = process_name roles i i.sort d refl good at
row roles expects.ProcessBody i d good at = process_body roles i d at i.sort
row roles expects.NextSwitch i d good at = next_switch roles i i.sort d at
row roles expects.BehindSwitch i d good at = behind_switch roles i i.sort d at
row roles expects.Cases i d good at = cases roles i d at i.sort
row roles expects.NextCase i d good at = next_case roles i d at i.sort
row roles expects.Patterns i d good at = patterns roles i d good at i.sort
row roles expects.BehindPattern i d good at = behind_pattern roles i d at i.sort
row roles expects.CaseBody i d good at = case_body roles i d at i.sort
row roles expects.NextInCase i d good at = next_in_case roles i d at i.sort
row roles expects.SyncEvent i d good at = sync_event roles d at i.sort
row roles expects.BehindEvent i d good at = behind_event roles i i.sort d at
row roles expects.SyncBody i d good at = sync_body roles i d at i.sort
row roles expects.NextWrite i d good at = next_write roles i.sort d at
row roles expects.WriteMemory i d good at = write_memory roles i i.sort d refl good at
row roles expects.BehindAddress i d good at = behind_address roles i d good at i.sort
row roles expects.BehindValue i d good at = behind_value roles i d good at i.sort
row roles expects.BehindEnable i d good at = behind_enable roles i d good at i.sort
row roles expects.Signal i d good at = signal roles i i.sort d good at
row roles expects.Inside i d good at = inside_row roles i d good at i.sort
row roles expects.BehindInside i d good at = behind_inside_row roles i d good at i.sort
row roles expects.Index i d good at = index roles i i.sort d at
row roles expects.BehindIndex i d good at = behind roles i i.sort d at
row roles expects.LowIndex i d good at = low_index roles i i.sort d at
row roles expects.IndexEnd i d good at = index_end roles i i.sort d at

-- .. and so do tokens one after another
kept : (uses : List Use) (expected : List Expect) (d last : Draft) → All IsGood (items_of uses) → Derives expected (roles_of uses) → Fits expected d → run act d uses ≡ Ok last → Out last
kept [] [] d last good derives fits e =
    let same : d ≡ last = cc in
    subst Out same fits
kept [] (role ∷ roles) d last good derives fits e = absurd derives
kept (u ∷ us) [] d last good derives fits e = absurd derives
kept (u ∷ us) (role ∷ roles) d last good derives fits e =
    let here : Stage u.role (Fits roles) d = subst (λ (r : Expect). Stage r (Fits roles) d) (sym derives.0) fits in
    let after_is : after u.role u.item.sort ≡ Some derives.1.0 = ap (λ (r : Expect). after r u.item.sort) derives.0 ∙ derives.1.1 in
    let leaves : Leaves roles (Some derives.1.0) (act u.role u.item d) = subst (λ (o : Option (List Expect)). Leaves roles o (act u.role u.item d)) after_is (row roles u.role u.item d (All-head IsGood u.item (items_of us) good) here) in
    by (λ next at f. kept us (derives.1.0 ++ roles) next last (All-tail IsGood u.item (items_of us) good) derives.1.2 at f) (act u.role u.item d) leaves e
  where
    by : ((next : Draft) → Fits (derives.1.0 ++ roles) next → run act next us ≡ Ok last → Out last) → (r : Result Draft ReadFault) → Leaves roles (Some derives.1.0) r → (r >>= λ next. run act next us) ≡ Ok last → Out last
    by on (Ok next) leaves f = on next leaves f
    by on (Err fault) leaves f = absurd cc

nothing_out : Out nothing
unfolding IsDistinct
nothing_out = (record { each = All-nil IsReadableModule; ids = refl; distinct = tt; count = omega arith; waiting = none_waiting }, refl)

-- a design that a text gives is readable
pub readable : (text : List ℕ) (design : Design) → Reads text design → IsReadable design
readable text design r =
    let good : All IsGood (items_of r.uses) = good_items (items_of r.uses) text text_start false r.tokens in
    let out : Out r.last = kept r.uses (expects.Start ∷ []) nothing r.last good r.grammar (nothing_out, λ e is. is) r.meant in
    let is : IsReadable (design_of r.last) = record { modules = out.0.each; distinct = subst AreDistinct out.0.ids out.0.distinct; count = out.0.count } in
    subst IsReadable r.design_is is
