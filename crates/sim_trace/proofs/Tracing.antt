-- A trace, step by step.
use Rattle.std.proofs.Common.{◌≡◌, ℕ, zero, suc, ◌+◌, ◌<◌, ◌≤◌, List, [], ◌∷◌, ◌++◌, length, take, get_or, refl, sym, ap, subst, ◌∙◌, append_assoc, add-one, arith}
use Rattle.std.specs.Prelude.{codes}
use Rattle.std.specs.List.{flat_map, sum}
use Rattle.std.proofs.lemmas.List.{append-nil}
use Rattle.rtl_bits.specs.declared.bit.Bit.{Bit}
use Rattle.rtl_ir.specs.declared.module.Design.{Design}
use Rattle.rtl_ir.specs.declared.module.Module.{Module}
use Rattle.rtl_ir.specs.declared.wire.Role.TheVariants.{Output}
use Rattle.rtl_ir.specs.declared.wire.Wire.{Wire}
use Rattle.net_model.specs.declared.order.Order.{Order}
use Rattle.net_model.specs.Refine.{run_of}
use Rattle.sim_eval.specs.declared.sim.Sim.{Sim}
use Rattle.sim_eval.specs.After.{outputs_after}
use Rattle.sim_eval.specs.Sim.{IsSimOf}
use Rattle.sim_eval.proofs.Afterwards.{run_more}
use Rattle.sim_text.specs.Lines.{step_line}
use Rattle.sim_text.specs.Ports.{port_widths}
use Rattle.sim_trace.specs.Steps.{IsFreshOver, IsSimOver}
use Rattle.sim_trace.specs.Stimulus.{trace_text}
use Rattle.sim_trace.proofs.Widths.{outputs_fit}

-- the outputs fit the ports of the module
pub step_fits : (m : Module) (old : Sim) (inputs bits : List Bit) → IsSimOver old m.wires
    → ((order : Order) (d : Design) (n : Module) (stimulus : List (List Bit)) → IsSimOf old order d n stimulus → bits ≡ outputs_after order d n (stimulus ++ inputs ∷ []))
    → length bits ≡ sum (port_widths Output m)
step_fits m old inputs bits h gives =
    outputs_fit h.order h.design h.body (h.stimulus ++ inputs ∷ []) bits (gives h.order h.design h.body h.stimulus h.is)
    ∙ ap (λ (wires : List Wire). sum (port_widths Output (record m { wires = wires }))) h.over

flat_map_snoc : {A : Type 0} (f : A → List ℕ) (xs : List A) (x : A) → flat_map f (xs ++ x ∷ []) ≡ flat_map f xs ++ f x
flat_map_snoc f [] x = append-nil (f x)
flat_map_snoc f (y ∷ xs) x = ap (λ (l : List ℕ). f y ++ l) (flat_map_snoc f xs x) ∙ sym (append_assoc (f y) (flat_map f xs) (f x))

-- the trace of one step more has its line more
pub trace_more : (order : Order) (d : Design) (m : Module) (stimulus : List (List Bit)) (x : List Bit)
    → trace_text order d m (stimulus ++ x ∷ []) ≡ trace_text order d m stimulus ++ (step_line (port_widths Output m) (outputs_after order d m (stimulus ++ x ∷ [])) ++ codes "\n")
trace_more order d m stimulus x =
    ap (flat_map line) (run_more order d m stimulus x) ∙ flat_map_snoc line (run_of order d m stimulus) (outputs_after order d m (stimulus ++ x ∷ []))
  where
    line : List Bit → List ℕ
    line bits = step_line (port_widths Output m) bits ++ codes "\n"

-- a simulation is at a module after the first steps of a stimulus, and their trace is written behind a text
pub record IsTraced (front : List ℕ) (order : Order) (d : Design) (m : Module) (stimulus : List (List Bit)) (sim : Sim) (text : List ℕ) : Type 0 where
  pub at : IsSimOf sim order d m stimulus
  pub written : text ≡ front ++ trace_text order d m stimulus

module _ {A : Type 0} where
  one_more : (xs : List A) (at : ℕ) (x : A) → at < length xs → x ≡ get_or xs at x → take at xs ++ x ∷ [] ≡ take (suc at) xs
  one_more [] at x lt is = absurd (omega arith)
  one_more (y ∷ xs) zero x lt is = ap (λ (z : A). z ∷ []) is
  one_more (y ∷ xs) (suc at) x lt is = ap (λ (l : List A). y ∷ l) (one_more xs at x (omega arith) is)

  whole : (xs : List A) (n : ℕ) → length xs ≤ n → take n xs ≡ xs
  whole [] zero le = refl
  whole [] (suc n) le = refl
  whole (x ∷ xs) zero le = absurd (omega arith)
  whole (x ∷ xs) (suc n) le = ap (λ (l : List A). x ∷ l) (whole xs n (omega arith))

  taken : (xs : List A) (at : ℕ) (x : A) → at < length xs → x ≡ get_or xs at x → take at xs ++ x ∷ [] ≡ take (at + 1) xs
  taken xs at x lt is = rw add-one (one_more xs at x lt is)

pub traced_more : (front : List ℕ) (order : Order) (d : Design) (m : Module) (all : List (List Bit)) (at : ℕ) (x : List Bit) (old new : Sim) (before after : List ℕ) → at < length all
    → x ≡ get_or all at x → IsTraced front order d m (take at all) old before → IsSimOf new order d m (take at all ++ x ∷ [])
    → after ≡ before ++ (step_line (port_widths Output m) (outputs_after order d m (take at all ++ x ∷ [])) ++ codes "\n")
    → IsTraced front order d m (take (at + 1) all) new after
traced_more front order d m all at x old new before after lt is h sim line =
    subst (λ (s : List (List Bit)). IsTraced front order d m s new after) (taken all at x lt is)
    record { at = sim; written = line ∙ ap (λ (t : List ℕ). t ++ last) h.written ∙ append_assoc front (trace_text order d m (take at all)) last ∙ ap (λ (t : List ℕ). front ++ t) (sym (trace_more order d m (take at all) x)) }
  where
    last : List ℕ
    last = step_line (port_widths Output m) (outputs_after order d m (take at all ++ x ∷ [])) ++ codes "\n"

-- before the first step nothing is written
pub traced_none : (front : List ℕ) (order : Order) (d : Design) (m : Module) (sim : Sim) (text : List ℕ) → IsSimOf sim order d m [] → text ≡ front → IsTraced front order d m [] sim text
traced_none front order d m sim text at nothing = record { at = at; written = nothing ∙ sym (append-nil front) }

-- after all steps the trace is written
pub traced_all : (front : List ℕ) (order : Order) (d : Design) (m : Module) (all : List (List Bit)) (n : ℕ) (sim : Sim) (text : List ℕ) → length all ≤ n → IsTraced front order d m (take n all) sim text
    → text ≡ front ++ trace_text order d m all
traced_all front order d m all n sim text le h = h.written ∙ ap (λ (s : List (List Bit)). front ++ trace_text order d m s) (whole all n le)

-- a simulation goes on: at each module with these wires that it was at before the first step it is traced
abbrev pub GoesOn : List ℕ → Sim → List Wire → List (List Bit) → Sim → List ℕ → Type 0
GoesOn front first wires stimulus now text = (order : Order) (d : Design) (m : Module) → m.wires ≡ wires → IsSimOf first order d m [] → IsTraced front order d m stimulus now text

pub goes_over : (front : List ℕ) (first now : Sim) (wires : List Wire) (stimulus : List (List Bit)) (text : List ℕ) → IsFreshOver first wires → GoesOn front first wires stimulus now text
    → IsSimOver now wires
goes_over front first now wires stimulus text h goes = record {
  order = h.order;
  design = h.design;
  body = h.body;
  stimulus = stimulus;
  over = h.over;
  is = (goes h.order h.design h.body h.over h.is).at;
}
