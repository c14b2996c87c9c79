-- What an index of a module holds.
use Rattle.std.specs.Prelude.{◌≡◌, ℕ, List, Some}
use Rattle.rtl_sig.specs.declared.sig.WireBit.{WireBit}
use Rattle.rtl_ir.specs.declared.module.Module.{Module}
use Rattle.rtl_ir.specs.Types.{Ports}
use Rattle.net_index.specs.declared.index.Index.{Index}
use Rattle.net_index.specs.declared.reader.Reader.{Reader}
use Rattle.net_index.specs.declared.readers.Readers.{Readers}
use Rattle.net_index.specs.Drivers.{AreDrivers}
use Rattle.net_index.specs.Numbering.{number_of, widths_of}
use Rattle.net_index.specs.ReaderSort.{slots_at}
use Rattle.net_index.specs.Readers.{readers_of}

-- the wires have these widths, and each bit of a wire has these readers
pub record AreReaders (readers : Readers) (widths : List ℕ) (wanted : WireBit → List Reader) : Type 0 where
  pub numbering : readers.numbering ≡ widths
  pub slots : (b : WireBit) (number : ℕ) → number_of widths b ≡ Some number →
      slots_at readers.starts.items readers.slots.items number ≡ wanted b

-- the index is that of a module over these ports: it has the module's drivers and the readers of its bits
pub record IsIndex (index : Index) (ports : Ports) (m : Module) : Type 0 where
  pub drivers : AreDrivers index.drivers ports m
  pub readers : AreReaders index.readers (widths_of m.wires) (readers_of ports m)
