-- A simulation shows what a module settles to, step by step.
use Rattle.std.proofs.Common.{◌≡◌, ◌<◌, ℕ, not, List, [], ◌∷◌, ◌++◌, length, get_or, map, refl, sym, ◌∙◌, ap, subst}
use Rattle.std.specs.Prelude.{Result, Ok, Err, IfOk}
use Rattle.std.specs.List.{AllByRecursion}
use Rattle.rtl_bits.specs.declared.bit.Bit.{Bit}
use Rattle.rtl_bits.specs.declared.bit.Bit.TheVariants.{X}
use Rattle.rtl_ir.specs.declared.module.Design.{Design}
use Rattle.rtl_ir.specs.declared.module.Module.{Module}
use Rattle.rtl_ir.specs.Flat.Place.{Place}
use Rattle.rtl_ir.specs.Flat.Tree.{output_places}
use Rattle.flat_net.specs.declared.net.Part.{Part}
use Rattle.flat_net.specs.Parts.{parts_rows}
use Rattle.flat_net.specs.Points.{place_at, AreApart}
use Rattle.net_model.specs.declared.order.Order.{Order}
use Rattle.net_model.specs.Order.{Manner}
use Rattle.net_model.specs.Run as run
use Rattle.sim_eval.specs.declared.sim.Sim.{Sim}
use Rattle.sim_eval.specs.Advance.{AreLeast}
use Rattle.sim_eval.specs.After.{outputs_after, settled_at, valuation_after}
use Rattle.sim_eval.specs.Shown.{shown}
use Rattle.sim_eval.specs.Sim.{AreAt, AreCounting, IsAt}
use Rattle.sim_eval.proofs.Afterwards.{valuation_more}
use Rattle.sim_eval.proofs.Settling.{least_settled}
use Rattle.sim_eval.proofs.Tables.{found_at}

-- two things that are so of an answer, and what follows
pub if_ok_two : {A E : Type 0} (r : Result A E) (P Q R : A → Type 0) → ((a : A) → P a → Q a → R a) → IfOk r P → IfOk r Q → IfOk r R
if_ok_two (Ok a) P Q R h p q = h a p q
if_ok_two (Err e) P Q R h p q = p

-- how the next step of a simulation is taken
abbrev pub manner_of : Sim → Manner
manner_of sim = record { first = not sim.started; order = sim.order }

-- what is settled before the first step
pub start_at : (order : Order) (d : Design) (m : Module) (ps : List Place) (parts : List Part) (values : List Bit) → AreCounting d m (parts_rows ps parts) → length ps ≡ length values → AreLeast ps run.Start (parts_rows ps parts) values → AreAt ps values (valuation_after order d m [])
start_at order d m ps parts values counting count least = record {
  count = count;
  shown = least_settled d m (parts_rows ps parts) counting run.Start ps values least;
}

-- what is settled in one step more
pub next_at : (order : Order) (d : Design) (m : Module) (stimulus : List (List Bit)) (ps : List Place) (sim : Sim) (before inputs x values : List Bit) (parts : List Part) → IsAt sim order d m stimulus ps → before ≡ sim.values.items → inputs ≡ x → parts ≡ sim.parts → length values ≡ length before → AreLeast ps (run.Step (shown ps before) inputs (manner_of sim)) (parts_rows ps parts) values → AreAt ps values (valuation_after order d m (stimulus ++ x ∷ []))
next_at order d m stimulus ps sim before inputs x values parts at was given same count least = record {
  count = at.values.count ∙ (ap length (sym was) ∙ sym count);
  shown =
      least_settled d m (parts_rows ps sim.parts) at.counting (run.Step (shown ps before) inputs (manner_of sim)) ps values (subst (λ z. AreLeast ps (run.Step (shown ps before) inputs (manner_of sim)) (parts_rows ps z) values) same least)
      ∙ ((λ i. settled_at d m (run.Step (there i) (given i) (record { first = at.started i; order = at.ordered i })))
      ∙ sym (valuation_more order d m stimulus x));
}
  where
    there : shown ps before ≡ valuation_after order d m stimulus
    there = ap (shown ps) was ∙ at.values.shown

-- the values of some numbers are those of their bits
bits_shown : (ps : List Place) (values : List Bit) (numbers : List ℕ) → AreApart ps → length ps ≡ length values → AllByRecursion (λ number. number < length ps) numbers → map (λ number. get_or values number X) numbers ≡ map (shown ps values) (map (place_at ps) numbers)
bits_shown ps values [] apart same h = refl
bits_shown ps values (n ∷ numbers) apart same h =
    λ i. sym (found_at X ps values n apart same h.0) i ∷ bits_shown ps values numbers apart same h.1 i

-- the output vector of a simulation
pub outputs_at : (order : Order) (d : Design) (m : Module) (stimulus : List (List Bit)) (ps : List Place) (values slice : List Bit) (numbers slice_of : List ℕ) → AreApart ps → map (place_at ps) numbers ≡ output_places m → AllByRecursion (λ number. number < length ps) numbers → AreAt ps values (valuation_after order d m stimulus) → slice ≡ values → slice_of ≡ numbers → map (λ number. get_or slice number X) slice_of ≡ outputs_after order d m stimulus
outputs_at order d m stimulus ps values slice numbers slice_of apart places within at e f =
    (λ i. map (λ number. get_or (e i) number X) (f i))
    ∙ (bits_shown ps values numbers apart at.count within
    ∙ (λ i. map (at.shown i) (places i)))
