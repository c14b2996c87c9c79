-- The time at which a netlist settles.
use Rattle.std.specs.Prelude.{◌≡◌, List, length}
use Rattle.rtl_ir.specs.Flat.Place.{Place}
use Rattle.net_model.specs.Run as run
use Rattle.flat_net.specs.Points.{AreApart}
use Rattle.rtl_bits.specs.declared.bit.Bit.{Bit}
use Rattle.sim_eval.specs.declared.moment.Moment.{Moment}
use Rattle.sim_eval.specs.declared.moment.Moment.TheVariants.{Start, Step}
use Rattle.sim_eval.specs.Shown.{shown}

-- the time, over the list of the numbered bits
abbrev pub time_of : List Place → Moment → run.Time Place
time_of ps Start = run.Start
time_of ps (Step before inputs first order) =
    run.Step (shown ps before.now) inputs.now (record { first = first; order = order })

-- the values of the step before are those of all numbered bits
abbrev pub HasBefore : List Place → Moment → Type 0
HasBefore ps Start = Unit {0}
HasBefore ps (Step before inputs first order) = length ps ≡ length before.now

-- no bit has two numbers, and these values and those of the step before are those of all numbered bits
pub record IsBoard (ps : List Place) (moment : Moment) (values : List Bit) : Type 0 where
  pub apart : AreApart ps
  pub before : HasBefore ps moment
  pub now : length ps ≡ length values
