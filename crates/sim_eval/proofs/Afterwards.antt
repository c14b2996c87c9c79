-- Steps one after another are a run.
use Rattle.std.proofs.Common.{◌≡◌, Bool, true, false, List, [], ◌∷◌, ◌++◌, map, refl, sym, ◌∙◌, ap, append_assoc}
use Rattle.std.proofs.lemmas.List.{append-nil}
use Rattle.rtl_bits.specs.declared.bit.Bit.{Bit}
use Rattle.rtl_ir.specs.declared.module.Design.{Design}
use Rattle.rtl_ir.specs.declared.module.Module.{Module}
use Rattle.rtl_ir.specs.Flat.Place.{place_same}
use Rattle.rtl_ir.specs.Flat.Tree.{flat, output_places}
use Rattle.net_model.specs.declared.order.Order.{Order}
use Rattle.net_model.specs.Order.{Manner}
use Rattle.net_model.specs.Refine.{run_of}
use Rattle.net_model.specs.Run.{Start, Step, trace}
use Rattle.net_model.specs.Valuation.{Valuation}
use Rattle.net_model.specs.Value.{meanings}
use Rattle.sim_eval.specs.After.{settled_at, is_first, after_from, valuation_after, outputs_after, outputs_of_steps}

module _ (order : Order) (d : Design) (m : Module) where
  -- how a step is taken in this order, where it is the first or not
  abbrev manner : Bool → Manner
  manner first = record { first = first; order = order }

  -- whether a step behind these is the first one, where that of the first of these would be or not
  abbrev still_first : Bool → List (List Bit) → Bool
  still_first first [] = first
  still_first first (x ∷ stimulus) = false

  after_more : (before : Valuation) (first : Bool) (stimulus : List (List Bit)) (x : List Bit) → after_from order d m before first (stimulus ++ x ∷ []) ≡ settled_at d m (Step (after_from order d m before first stimulus) x (manner (still_first first stimulus)))
  after_more before first [] x = refl
  after_more before first (y ∷ []) x = refl
  after_more before first (y ∷ z ∷ stimulus) x =
      after_more (settled_at d m (Step before y (manner first))) false (z ∷ stimulus) x

  first_same : (stimulus : List (List Bit)) → still_first true stimulus ≡ is_first stimulus
  first_same [] = refl
  first_same (x ∷ stimulus) = refl

  -- what bits have after one vector more
  pub valuation_more : (stimulus : List (List Bit)) (x : List Bit) → valuation_after order d m (stimulus ++ x ∷ []) ≡ settled_at d m (Step (valuation_after order d m stimulus) x (manner (is_first stimulus)))
  valuation_more stimulus x =
      after_more (settled_at d m Start) true stimulus x ∙ ap (λ z. settled_at d m (Step (valuation_after order d m stimulus) x (manner z))) (first_same stimulus)

  pub not_first : (stimulus : List (List Bit)) (x : List Bit) → is_first (stimulus ++ x ∷ []) ≡ false
  not_first [] x = refl
  not_first (y ∷ stimulus) x = refl

  -- the outputs of steps behind some are the trace from there
  steps_trace : (given stimulus : List (List Bit)) → outputs_of_steps order d m given stimulus ≡ trace place_same (meanings (flat d m)) (output_places m) order (valuation_after order d m given) (is_first given) stimulus
  steps_trace given [] = refl
  steps_trace given (x ∷ stimulus) =
      let step : valuation_after order d m (given ++ x ∷ []) ≡ settled_at d m (Step (valuation_after order d m given) x (manner (is_first given))) = valuation_more given x in
      ap (λ z. map (valuation_after order d m (given ++ x ∷ [])) (output_places m) ∷ z) (steps_trace (given ++ x ∷ []) stimulus)
      ∙ (ap (λ z. map z (output_places m) ∷ trace place_same (meanings (flat d m)) (output_places m) order z (is_first (given ++ x ∷ [])) stimulus) step
      ∙ ap (λ z. map (settled_at d m (Step (valuation_after order d m given) x (manner (is_first given)))) (output_places m) ∷ trace place_same (meanings (flat d m)) (output_places m) order (settled_at d m (Step (valuation_after order d m given) x (manner (is_first given)))) z stimulus) (not_first given x))

  pub steps_run : (stimulus : List (List Bit)) → outputs_of_steps order d m [] stimulus ≡ run_of order d m stimulus
  steps_run stimulus = steps_trace [] stimulus

  steps_more : (given stimulus : List (List Bit)) (x : List Bit) → outputs_of_steps order d m given (stimulus ++ x ∷ []) ≡ outputs_of_steps order d m given stimulus ++ outputs_after order d m (given ++ stimulus ++ x ∷ []) ∷ []
  steps_more given [] x =
      ap (λ z. outputs_after order d m (z ++ x ∷ []) ∷ []) (sym (append-nil given))
  steps_more given (y ∷ stimulus) x =
      let rest = outputs_of_steps order d m (given ++ y ∷ []) stimulus in
      ap (λ z. outputs_after order d m (given ++ y ∷ []) ∷ z) (steps_more (given ++ y ∷ []) stimulus x ∙ ap (λ z. rest ++ outputs_after order d m (z ++ x ∷ []) ∷ []) (append_assoc given (y ∷ []) stimulus))

  -- a run of one vector more
  pub run_more : (stimulus : List (List Bit)) (x : List Bit) → run_of order d m (stimulus ++ x ∷ []) ≡ run_of order d m stimulus ++ outputs_after order d m (stimulus ++ x ∷ []) ∷ []
  run_more stimulus x =
      sym (steps_run (stimulus ++ x ∷ [])) ∙ (steps_more [] stimulus x ∙ ap (λ z. z ++ outputs_after order d m (stimulus ++ x ∷ []) ∷ []) (steps_run stimulus))
