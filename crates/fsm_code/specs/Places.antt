-- The cells of a machine, as marks of places.
use Rattle.std.specs.Prelude.{◌≡◌, ◌<◌, ℕ, Bool, false, List, length, slice_index_or}
use Rattle.rtl_ir.specs.declared.machine.Machine.{Machine}
use Rattle.net_model.specs.Fsm.Find.{has_place}
use Rattle.fsm_code.specs.declared.marks.Places.{Places}

-- of so many places just these are marked
pub record AreMarks (count : ℕ) (places : List ℕ) (marks : List Bool) : Type 0 where
  pub long : length marks ≡ count
  pub marked : (at : ℕ) → at < count → slice_index_or marks at false ≡ has_place places at

-- the places of a machine among so many cells
pub record ArePlaces (count : ℕ) (machine : Machine) (places : Places) : Type 0 where
  pub flop : places.flop ≡ machine.flop
  pub forks : AreMarks count machine.muxes places.forks.items
  pub compares : AreMarks count machine.compares places.compares.items
