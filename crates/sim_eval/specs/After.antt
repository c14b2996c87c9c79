-- What the bits of a module have after some steps.
use Rattle.std.specs.Prelude.{Bool, true, false, List, [], ◌∷◌, ◌++◌, map}
use Rattle.rtl_bits.specs.declared.bit.Bit.{Bit}
use Rattle.rtl_ir.specs.declared.module.Design.{Design}
use Rattle.rtl_ir.specs.declared.module.Module.{Module}
use Rattle.rtl_ir.specs.Flat.Place.{Place, place_same}
use Rattle.rtl_ir.specs.Flat.Tree.{flat, output_places}
use Rattle.net_model.specs.declared.order.Order.{Order}
use Rattle.net_model.specs.Run.{Time, Start, Step, settle}
use Rattle.net_model.specs.Valuation.{Valuation}
use Rattle.net_model.specs.Value.{meanings}

-- what the bits of a module of a design settle to at a time
abbrev pub settled_at : Design → Module → Time Place → Valuation
settled_at d m t = settle place_same (meanings (flat d m)) t

-- no vector was given yet
abbrev pub is_first : List (List Bit) → Bool
is_first [] = true
is_first (x ∷ stimulus) = false

-- what they have after these input vectors, in an order of time, from the valuation before
abbrev pub after_from : Order → Design → Module → Valuation → Bool → List (List Bit) → Valuation
after_from order d m before first [] = before
after_from order d m before first (x ∷ stimulus) =
    after_from order d m (settled_at d m (Step before x (record { first = first; order = order }))) false stimulus

-- what they have after these input vectors, in an order of time: before the first one what is settled there, and after one
-- more what is settled in that step
abbrev pub valuation_after : Order → Design → Module → List (List Bit) → Valuation
valuation_after order d m stimulus = after_from order d m (settled_at d m Start) true stimulus

-- the output vector after these input vectors, in an order of time
abbrev pub outputs_after : Order → Design → Module → List (List Bit) → List Bit
outputs_after order d m stimulus = map (valuation_after order d m stimulus) (output_places m)

-- the output vectors of the steps of a stimulus, behind these input vectors
abbrev pub outputs_of_steps : Order → Design → Module → List (List Bit) → List (List Bit) → List (List Bit)
outputs_of_steps order d m given [] = []
outputs_of_steps order d m given (x ∷ stimulus) =
    outputs_after order d m (given ++ x ∷ []) ∷ outputs_of_steps order d m (given ++ x ∷ []) stimulus
