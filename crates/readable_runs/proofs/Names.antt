-- A short name of a memory may be a constant.
use Rattle.rtl_ir.specs.declared.module.Module.{Module}
use Rattle.rtl_readable.specs.Readable.{IsProcess, IsReadableModule, IsRule, IsWrite}
use Rattle.readable_flat.proofs.Names.{name_chars}
use Rattle.readable_passes.specs.Named.{NamesMemories}
use Rattle.readable_passes.proofs.Replaced.{all_each}
use Rattle.readable_runs.specs.Short.{NamesShortMemories}

pub short_named : (m : Module) → IsReadableModule m → NamesShortMemories m → NamesMemories m
short_named m is short p i r j l k =
    let rule = all_each (IsRule m.wires) p.syncs (all_each (IsProcess m.wires) m.processes is.processes p i).rules r j in
    let line = all_each (IsWrite m.wires) r.writes rule.writes l k in
    (name_chars l.memory line.memory, short p i r j l k)
