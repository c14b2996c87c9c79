-- What the bits of words have.
use Rattle.std.proofs.Common.{◌≡◌, ◌<◌, List, [], length, get_or, map, sym, ◌∙◌}
use Rattle.rtl_bits.specs.declared.bit.Bit.{Bit}
use Rattle.rtl_bits.specs.declared.bit.Bit.TheVariants.{X}
use Rattle.cell_gate.specs.Control.{pick_of}
use Rattle.rtl_ir.specs.Flat.Place.{Place}
use Rattle.net_model.specs.Order.{Manner}
use Rattle.net_model.specs.Run as run
use Rattle.net_model.specs.Value.{edge_at, value_of}
use Rattle.net_model.specs.Words.{after_ports}
use Rattle.flat_net.specs.declared.memory.Remembered.{Remembered}
use Rattle.flat_net.specs.declared.memory.WordBit.{WordBit}
use Rattle.flat_net.specs.Points.{AreApart, point_of}
use Rattle.flat_net.specs.Words.{ported_of, ports_at, word_row}
use Rattle.sim_eval.specs.Shown.{shown}
use Rattle.sim_eval.proofs.Tables.{found_at}

-- a bit of a word in a step
pub remembered_same : (ps : List Place) (before inputs now : List Bit) (manner : Manner) (w : Remembered) (b : WordBit) (edge value : Bit) → AreApart ps → length ps ≡ length before → b.number < length ps
    → edge ≡ edge_at (shown ps before) (shown ps now) manner.first (point_of ps w.clock) w.level
    → value ≡ pick_of edge (after_ports (shown ps before) b.address [] (ports_at b.at [] (map (ported_of ps) w.ports)) (get_or before b.number X)) (get_or before b.number X)
    → value_of (word_row ps w b).driver (run.Step (shown ps before) inputs manner) (shown ps now) ≡ value
remembered_same ps before inputs now manner w b edge value apart was within e is =
    let old = found_at X ps before b.number apart was within in
    (λ i. pick_of (sym e i) (after_ports (shown ps before) b.address [] (ports_at b.at [] (map (ported_of ps) w.ports)) (old i)) (old i)) ∙ sym is
