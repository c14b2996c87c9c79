-- Whatever is expected, some text ends it.
use Rattle.std.proofs.Common.{List, [], ◌∷◌, ◌++◌, refl}
use Rattle.rtl_lex.specs.declared.sort.Sort.{Sort}
use Rattle.rtl_lex.specs.declared.sort.Sort.TheVariants as sorts
use Rattle.rtl_grammar.specs.declared.expect.Expect.{Expect}
use Rattle.rtl_grammar.specs.declared.expect.Expect.TheVariants.{Start, FileHead, AutoidxNumber, Modules, NextModule, EndOfLine, AttributeName, AttributeValue, ModuleName, Body, NextItem, ParameterName, ParameterValue, WireOption, WireWidth, WireOffset, PortNumber, MemoryOption, MemoryWidth, MemorySize, MemoryOffset, CellKind, CellName, CellBody, CellParameter, CellParameterName, CellParameterValue, PinName, BehindPin, BehindLeft, BehindRight, ProcessName, ProcessBody, NextSwitch, BehindSwitch, Cases, NextCase, Patterns, BehindPattern, CaseBody, NextInCase, SyncEvent, BehindEvent, SyncBody, NextWrite, WriteMemory, BehindAddress, BehindValue, BehindEnable, Signal, Inside, BehindInside, Index, BehindIndex, LowIndex, IndexEnd}
use Rattle.rtl_grammar.specs.Grammar.{Derives}

-- the shortest way to end what is expected
abbrev pub closing : Expect → List (Expect × Sort)
closing Start = (Start, sorts.Line) ∷ (FileHead, sorts.Finish) ∷ []
closing FileHead = (FileHead, sorts.Finish) ∷ []
closing AutoidxNumber = (AutoidxNumber, sorts.Int) ∷ []
closing Modules = (Modules, sorts.Finish) ∷ []
closing NextModule = (NextModule, sorts.Module) ∷ (ModuleName, sorts.Id) ∷ (EndOfLine, sorts.Line) ∷ (Body, sorts.End) ∷ (EndOfLine, sorts.Line) ∷ (Modules, sorts.Finish) ∷ []
closing EndOfLine = (EndOfLine, sorts.Line) ∷ []
closing AttributeName = (AttributeName, sorts.Id) ∷ (AttributeValue, sorts.Int) ∷ (EndOfLine, sorts.Line) ∷ []
closing AttributeValue = (AttributeValue, sorts.Int) ∷ (EndOfLine, sorts.Line) ∷ []
closing ModuleName = (ModuleName, sorts.Id) ∷ (EndOfLine, sorts.Line) ∷ (Body, sorts.End) ∷ (EndOfLine, sorts.Line) ∷ []
closing Body = (Body, sorts.End) ∷ (EndOfLine, sorts.Line) ∷ []
closing NextItem = (NextItem, sorts.Memory) ∷ (MemoryOption, sorts.Id) ∷ (EndOfLine, sorts.Line) ∷ (Body, sorts.End) ∷ (EndOfLine, sorts.Line) ∷ []
closing ParameterName = (ParameterName, sorts.Id) ∷ (ParameterValue, sorts.Line) ∷ []
closing ParameterValue = (ParameterValue, sorts.Line) ∷ []
closing WireOption = (WireOption, sorts.Id) ∷ (EndOfLine, sorts.Line) ∷ []
closing WireWidth = (WireWidth, sorts.Int) ∷ []
closing WireOffset = (WireOffset, sorts.Int) ∷ []
closing PortNumber = (PortNumber, sorts.Int) ∷ []
closing MemoryOption = (MemoryOption, sorts.Id) ∷ (EndOfLine, sorts.Line) ∷ []
closing MemoryWidth = (MemoryWidth, sorts.Int) ∷ []
closing MemorySize = (MemorySize, sorts.Int) ∷ []
closing MemoryOffset = (MemoryOffset, sorts.Int) ∷ []
closing CellKind = (CellKind, sorts.Id) ∷ (CellName, sorts.Id) ∷ (EndOfLine, sorts.Line) ∷ (CellBody, sorts.End) ∷ (EndOfLine, sorts.Line) ∷ []
closing CellName = (CellName, sorts.Id) ∷ (EndOfLine, sorts.Line) ∷ (CellBody, sorts.End) ∷ (EndOfLine, sorts.Line) ∷ []
closing CellBody = (CellBody, sorts.End) ∷ (EndOfLine, sorts.Line) ∷ []
closing CellParameter = (CellParameter, sorts.Id) ∷ (CellParameterValue, sorts.Int) ∷ (EndOfLine, sorts.Line) ∷ []
closing CellParameterName = (CellParameterName, sorts.Id) ∷ (CellParameterValue, sorts.Int) ∷ (EndOfLine, sorts.Line) ∷ []
closing CellParameterValue = (CellParameterValue, sorts.Int) ∷ (EndOfLine, sorts.Line) ∷ []
closing PinName = (PinName, sorts.Id) ∷ (Signal, sorts.Id) ∷ (BehindPin, sorts.Line) ∷ []
closing BehindPin = (BehindPin, sorts.Line) ∷ []
closing BehindLeft = (BehindLeft, sorts.Id) ∷ (BehindRight, sorts.Line) ∷ []
closing BehindRight = (BehindRight, sorts.Line) ∷ []
closing ProcessName = (ProcessName, sorts.Id) ∷ (EndOfLine, sorts.Line) ∷ (ProcessBody, sorts.End) ∷ (EndOfLine, sorts.Line) ∷ []
closing ProcessBody = (ProcessBody, sorts.End) ∷ (EndOfLine, sorts.Line) ∷ []
closing NextSwitch = (NextSwitch, sorts.Switch) ∷ (Signal, sorts.Id) ∷ (BehindSwitch, sorts.Line) ∷ (Cases, sorts.End) ∷ (EndOfLine, sorts.Line) ∷ []
closing BehindSwitch = (BehindSwitch, sorts.Line) ∷ (Cases, sorts.End) ∷ (EndOfLine, sorts.Line) ∷ []
closing Cases = (Cases, sorts.End) ∷ (EndOfLine, sorts.Line) ∷ []
closing NextCase = (NextCase, sorts.Case) ∷ (Patterns, sorts.Line) ∷ (CaseBody, sorts.End) ∷ (EndOfLine, sorts.Line) ∷ []
closing Patterns = (Patterns, sorts.Line) ∷ (CaseBody, sorts.End) ∷ (EndOfLine, sorts.Line) ∷ []
closing BehindPattern = (BehindPattern, sorts.Line) ∷ (CaseBody, sorts.End) ∷ (EndOfLine, sorts.Line) ∷ []
closing CaseBody = (CaseBody, sorts.End) ∷ (EndOfLine, sorts.Line) ∷ []
closing NextInCase = (NextInCase, sorts.Case) ∷ (Patterns, sorts.Line) ∷ (CaseBody, sorts.End) ∷ (EndOfLine, sorts.Line) ∷ []
closing SyncEvent = (SyncEvent, sorts.Always) ∷ (EndOfLine, sorts.Line) ∷ []
closing BehindEvent = (BehindEvent, sorts.Line) ∷ []
closing SyncBody = (SyncBody, sorts.End) ∷ (EndOfLine, sorts.Line) ∷ []
closing NextWrite = (NextWrite, sorts.Memwr) ∷ (WriteMemory, sorts.Id) ∷ (Signal, sorts.Id) ∷ (BehindAddress, sorts.Id) ∷ (BehindValue, sorts.Id) ∷ (BehindEnable, sorts.Int) ∷ (EndOfLine, sorts.Line) ∷ []
closing WriteMemory = (WriteMemory, sorts.Id) ∷ (Signal, sorts.Id) ∷ (BehindAddress, sorts.Id) ∷ (BehindValue, sorts.Id) ∷ (BehindEnable, sorts.Int) ∷ (EndOfLine, sorts.Line) ∷ []
closing BehindAddress = (BehindAddress, sorts.Id) ∷ (BehindValue, sorts.Id) ∷ (BehindEnable, sorts.Int) ∷ (EndOfLine, sorts.Line) ∷ []
closing BehindValue = (BehindValue, sorts.Id) ∷ (BehindEnable, sorts.Int) ∷ (EndOfLine, sorts.Line) ∷ []
closing BehindEnable = (BehindEnable, sorts.Int) ∷ (EndOfLine, sorts.Line) ∷ []
closing Signal = (Signal, sorts.Id) ∷ []
closing Inside = (Inside, sorts.CloseBrace) ∷ []
closing BehindInside = (BehindInside, sorts.CloseBrace) ∷ []
closing Index = (Index, sorts.Int) ∷ (BehindIndex, sorts.CloseIndex) ∷ []
closing BehindIndex = (BehindIndex, sorts.CloseIndex) ∷ []
closing LowIndex = (LowIndex, sorts.Int) ∷ (IndexEnd, sorts.CloseIndex) ∷ []
closing IndexEnd = (IndexEnd, sorts.CloseIndex) ∷ []

abbrev pub closings : List Expect → List (Expect × Sort)
closings [] = []
closings (role ∷ roles) = closing role ++ closings roles

closes_one : (role : Expect) (roles : List Expect) (more : List (Expect × Sort)) → Derives roles more → Derives (role ∷ roles) (closing role ++ more)
closes_one Start roles more d = (refl, (FileHead ∷ [], refl, (refl, ([], refl, d))))
closes_one FileHead roles more d = (refl, ([], refl, d))
closes_one AutoidxNumber roles more d = (refl, ([], refl, d))
closes_one Modules roles more d = (refl, ([], refl, d))
closes_one NextModule roles more d = (refl, (ModuleName ∷ Modules ∷ [], refl, (refl, (EndOfLine ∷ Body ∷ [], refl, (refl, ([], refl, (refl, (EndOfLine ∷ [], refl, (refl, ([], refl, (refl, ([], refl, d))))))))))))
closes_one EndOfLine roles more d = (refl, ([], refl, d))
closes_one AttributeName roles more d = (refl, (AttributeValue ∷ [], refl, (refl, (EndOfLine ∷ [], refl, (refl, ([], refl, d))))))
closes_one AttributeValue roles more d = (refl, (EndOfLine ∷ [], refl, (refl, ([], refl, d))))
closes_one ModuleName roles more d = (refl, (EndOfLine ∷ Body ∷ [], refl, (refl, ([], refl, (refl, (EndOfLine ∷ [], refl, (refl, ([], refl, d))))))))
closes_one Body roles more d = (refl, (EndOfLine ∷ [], refl, (refl, ([], refl, d))))
closes_one NextItem roles more d = (refl, (MemoryOption ∷ Body ∷ [], refl, (refl, (EndOfLine ∷ [], refl, (refl, ([], refl, (refl, (EndOfLine ∷ [], refl, (refl, ([], refl, d))))))))))
closes_one ParameterName roles more d = (refl, (ParameterValue ∷ [], refl, (refl, ([], refl, d))))
closes_one ParameterValue roles more d = (refl, ([], refl, d))
closes_one WireOption roles more d = (refl, (EndOfLine ∷ [], refl, (refl, ([], refl, d))))
closes_one WireWidth roles more d = (refl, ([], refl, d))
closes_one WireOffset roles more d = (refl, ([], refl, d))
closes_one PortNumber roles more d = (refl, ([], refl, d))
closes_one MemoryOption roles more d = (refl, (EndOfLine ∷ [], refl, (refl, ([], refl, d))))
closes_one MemoryWidth roles more d = (refl, ([], refl, d))
closes_one MemorySize roles more d = (refl, ([], refl, d))
closes_one MemoryOffset roles more d = (refl, ([], refl, d))
closes_one CellKind roles more d = (refl, (CellName ∷ [], refl, (refl, (EndOfLine ∷ CellBody ∷ [], refl, (refl, ([], refl, (refl, (EndOfLine ∷ [], refl, (refl, ([], refl, d))))))))))
closes_one CellName roles more d = (refl, (EndOfLine ∷ CellBody ∷ [], refl, (refl, ([], refl, (refl, (EndOfLine ∷ [], refl, (refl, ([], refl, d))))))))
closes_one CellBody roles more d = (refl, (EndOfLine ∷ [], refl, (refl, ([], refl, d))))
closes_one CellParameter roles more d = (refl, (CellParameterValue ∷ [], refl, (refl, (EndOfLine ∷ [], refl, (refl, ([], refl, d))))))
closes_one CellParameterName roles more d = (refl, (CellParameterValue ∷ [], refl, (refl, (EndOfLine ∷ [], refl, (refl, ([], refl, d))))))
closes_one CellParameterValue roles more d = (refl, (EndOfLine ∷ [], refl, (refl, ([], refl, d))))
closes_one PinName roles more d = (refl, (Signal ∷ BehindPin ∷ [], refl, (refl, ([], refl, (refl, ([], refl, d))))))
closes_one BehindPin roles more d = (refl, ([], refl, d))
closes_one BehindLeft roles more d = (refl, (BehindRight ∷ [], refl, (refl, ([], refl, d))))
closes_one BehindRight roles more d = (refl, ([], refl, d))
closes_one ProcessName roles more d = (refl, (EndOfLine ∷ ProcessBody ∷ [], refl, (refl, ([], refl, (refl, (EndOfLine ∷ [], refl, (refl, ([], refl, d))))))))
closes_one ProcessBody roles more d = (refl, (EndOfLine ∷ [], refl, (refl, ([], refl, d))))
closes_one NextSwitch roles more d = (refl, (Signal ∷ BehindSwitch ∷ [], refl, (refl, ([], refl, (refl, (Cases ∷ [], refl, (refl, (EndOfLine ∷ [], refl, (refl, ([], refl, d))))))))))
closes_one BehindSwitch roles more d = (refl, (Cases ∷ [], refl, (refl, (EndOfLine ∷ [], refl, (refl, ([], refl, d))))))
closes_one Cases roles more d = (refl, (EndOfLine ∷ [], refl, (refl, ([], refl, d))))
closes_one NextCase roles more d = (refl, (Patterns ∷ [], refl, (refl, (CaseBody ∷ [], refl, (refl, (EndOfLine ∷ [], refl, (refl, ([], refl, d))))))))
closes_one Patterns roles more d = (refl, (CaseBody ∷ [], refl, (refl, (EndOfLine ∷ [], refl, (refl, ([], refl, d))))))
closes_one BehindPattern roles more d = (refl, (CaseBody ∷ [], refl, (refl, (EndOfLine ∷ [], refl, (refl, ([], refl, d))))))
closes_one CaseBody roles more d = (refl, (EndOfLine ∷ [], refl, (refl, ([], refl, d))))
closes_one NextInCase roles more d = (refl, (Patterns ∷ [], refl, (refl, (CaseBody ∷ [], refl, (refl, (EndOfLine ∷ [], refl, (refl, ([], refl, d))))))))
closes_one SyncEvent roles more d = (refl, (EndOfLine ∷ [], refl, (refl, ([], refl, d))))
closes_one BehindEvent roles more d = (refl, ([], refl, d))
closes_one SyncBody roles more d = (refl, (EndOfLine ∷ [], refl, (refl, ([], refl, d))))
closes_one NextWrite roles more d = (refl, (WriteMemory ∷ [], refl, (refl, (Signal ∷ BehindAddress ∷ [], refl, (refl, ([], refl, (refl, (BehindValue ∷ [], refl, (refl, (BehindEnable ∷ [], refl, (refl, (EndOfLine ∷ [], refl, (refl, ([], refl, d))))))))))))))
closes_one WriteMemory roles more d = (refl, (Signal ∷ BehindAddress ∷ [], refl, (refl, ([], refl, (refl, (BehindValue ∷ [], refl, (refl, (BehindEnable ∷ [], refl, (refl, (EndOfLine ∷ [], refl, (refl, ([], refl, d))))))))))))
closes_one BehindAddress roles more d = (refl, (BehindValue ∷ [], refl, (refl, (BehindEnable ∷ [], refl, (refl, (EndOfLine ∷ [], refl, (refl, ([], refl, d))))))))
closes_one BehindValue roles more d = (refl, (BehindEnable ∷ [], refl, (refl, (EndOfLine ∷ [], refl, (refl, ([], refl, d))))))
closes_one BehindEnable roles more d = (refl, (EndOfLine ∷ [], refl, (refl, ([], refl, d))))
closes_one Signal roles more d = (refl, ([], refl, d))
closes_one Inside roles more d = (refl, ([], refl, d))
closes_one BehindInside roles more d = (refl, ([], refl, d))
closes_one Index roles more d = (refl, (BehindIndex ∷ [], refl, (refl, ([], refl, d))))
closes_one BehindIndex roles more d = (refl, ([], refl, d))
closes_one LowIndex roles more d = (refl, (IndexEnd ∷ [], refl, (refl, ([], refl, d))))
closes_one IndexEnd roles more d = (refl, ([], refl, d))

-- whatever is expected, some text ends it
pub closes : (roles : List Expect) → Derives roles (closings roles)
closes [] = tt
closes (role ∷ roles) = closes_one role roles (closings roles) (closes roles)
