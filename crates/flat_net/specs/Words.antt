-- The rows of memories, over the list of the numbered bits.
use Rattle.std.specs.Prelude.{ℕ, Bool, List, [], ◌∷◌, ◌++◌, map, slice_index_or}
use Rattle.rtl_bits.specs.declared.bit.Bit.{Bit}
use Rattle.rtl_bits.specs.declared.bit.Bit.TheVariants.{X}
use Rattle.rtl_bits.specs.Numbers.{is_one}
use Rattle.rtl_ir.specs.Flat.Driver.{Driven, PortPoints, Remembered as RememberedBy, Fetched as FetchedBy}
use Rattle.rtl_ir.specs.Flat.Place.{Place}
use Rattle.rtl_ir.specs.Flat.Point as rtl
use Rattle.rtl_ir.specs.Flat.Point.{point_at}
use Rattle.flat_net.specs.declared.memory.Fetched.{Fetched}
use Rattle.flat_net.specs.declared.memory.ReadPort.{ReadPort}
use Rattle.flat_net.specs.declared.memory.Remembered.{Remembered}
use Rattle.flat_net.specs.declared.memory.WordBit.{WordBit}
use Rattle.flat_net.specs.declared.memory.WritePort.{WritePort}
use Rattle.flat_net.specs.declared.net.Output.{Output}
use Rattle.flat_net.specs.Points.{place_at, point_of, points_of}

-- a write port, as constants and bits
pub record Ported : Type 0 where
  pub number : ℕ
  pub mask : List Bit
  pub address : List rtl.Point
  pub enable : List rtl.Point
  pub new : List rtl.Point

abbrev pub ported_of : List Place → WritePort → Ported
ported_of ps w = record {
  number = w.number;
  mask = w.mask;
  address = points_of ps w.address;
  enable = points_of ps w.enable;
  new = points_of ps w.word;
}

-- whether a port with this mask may follow another one
abbrev pub may_follow : List Bit → Ported → Bool
may_follow mask before = is_one (slice_index_or mask before.number X)

-- a port as a bit at a place of a word sees it, behind these ports
abbrev pub seen_at : ℕ → List Ported → Ported → PortPoints
seen_at at before w = record {
  address = w.address;
  enable = point_at w.enable at;
  new = point_at w.new at;
  follows = map (may_follow w.mask) before;
}

-- the same of several ports in order
abbrev pub ports_at : ℕ → List Ported → List Ported → List PortPoints
ports_at at before [] = []
ports_at at before (w ∷ ports) = seen_at at before w ∷ ports_at at (before ++ w ∷ []) ports

-- a bit of a word
abbrev pub word_row : List Place → Remembered → WordBit → Driven
word_row ps w b = record {
  place = place_at ps b.number;
  driver =
      RememberedBy b.start (point_of ps w.clock) w.level b.address (ports_at b.at [] (map (ported_of ps) w.ports))
      (place_at ps b.number);
}

-- the bit at a place of each word
abbrev pub column_of : List Place → List (List ℕ) → ℕ → List rtl.Point
column_of ps columns at = map (λ number. rtl.At (place_at ps number)) (slice_index_or columns at [])

-- a bit that a read port gives
abbrev pub fetched_row : List Place → Fetched → ReadPort → Output → Driven
fetched_row ps f r o = record {
  place = place_at ps o.number;
  driver = FetchedBy (points_of ps r.address) f.first (column_of ps f.columns o.at);
}

-- the bits that it gives
abbrev pub port_rows : List Place → Fetched → ReadPort → List Driven
port_rows ps f r = map (fetched_row ps f r) r.outputs
