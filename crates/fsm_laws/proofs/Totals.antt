-- All that the module with the code drives: no more than what the module drove and the bits of the fresh wires.
use Rattle.std.proofs.Common.{◌≡◌, ◌≤◌, ℕ, suc, ◌+◌, cond, List, [], ◌∷◌, ◌++◌, length, Some, inl, inr, refl, sym, ◌∙◌, ap, subst, arith}
use Rattle.std.specs.Prelude.{◌==◌, slice_get}
use Rattle.rtl_sig.specs.declared.sig.WireBit.{WireBit}
use Rattle.cell_types.specs.declared.kind.CellKind.{CellKind}
use Rattle.rtl_ir.specs.Build.{first_number}
use Rattle.rtl_ir.specs.Signals.{bits_of_wire}
use Rattle.rtl_ir.specs.Types.{Ports}
use Rattle.rtl_ir.specs.declared.cell.Cell.{Cell}
use Rattle.rtl_ir.specs.declared.machine.Machine.{Machine}
use Rattle.rtl_ir.specs.declared.module.Link.{Link}
use Rattle.rtl_ir.specs.declared.module.Module.{Module}
use Rattle.net_model.specs.Fsm.Code.{Coding}
use Rattle.net_model.specs.Fsm.Find.{has_place, rising_places, whole_wire}
use Rattle.net_model.specs.Within.{Each}
use Rattle.map_laws.specs.Expansion.{bits_from}
use Rattle.pass_laws.proofs.Counting.{cells_more, links_more}
use Rattle.pass_laws.specs.Bits.{cells_bits, links_bits}
use Rattle.pass_laws.specs.Ready.{IsReady}
use Rattle.fsm_laws.specs.Machines.{IsFoundMachine}
use Rattle.fsm_laws.specs.Recoded.{all_links_made, cell_made, cells_made, fresh_wires, links_made, machine_coding, output_wires}
use Rattle.fsm_laws.proofs.Fits.{Fits}
use Rattle.fsm_laws.proofs.Measures.{IsMeasure, forks_sum, one_place, position, sum_both, sum_from}
use Rattle.fsm_laws.proofs.Standing.{Code, Drives, Fresh, IsFit, Same, StandsAt}
use Rattle.fsm_laws.proofs.Comparing.{stands}

-- the sum over cells
abbrev pub weights : (Cell → ℕ) → List Cell → ℕ
weights weight [] = 0
weights weight (c ∷ cs) = weight c + weights weight cs

module _ (weight : Cell → ℕ) where
  weights_more : (xs ys : List Cell) → weights weight (xs ++ ys) ≡ weights weight xs + weights weight ys
  weights_more [] ys = omega arith
  weights_more (x ∷ xs) ys = let later = weights_more xs ys in omega (arith, later)

module _ (ports : Ports) (m : Module) (wire : ℕ) (machine : Machine) (ready : IsReady ports m) (found : IsFoundMachine ports m wire machine) (size : List WireBit → ℕ) (is : IsMeasure size) (weight : Cell → ℕ) (own : (kind : CellKind) (c : Cell) → Fits kind c → weight c ≡ size (cells_bits ports (c ∷ []))) where
  abbrev coding : Coding
  coding = machine_coding m machine (whole_wire wire found.wire)

  abbrev first : ℕ
  first = length m.wires

  abbrev n : ℕ
  n = length machine.states

  fit_weights : (cs : List Cell) → Each IsFit cs → weights weight cs ≡ size (cells_bits ports cs)
  fit_weights [] h = sym is.none
  fit_weights (c ∷ cs) h =
      let fit = h c (inl refl) in
      let here = own fit.0 c fit.1 in
      let later = fit_weights cs (λ d i. h d (inr i)) in
      let all = ap size (cells_more ports (c ∷ []) cs) ∙ is.more (cells_bits ports (c ∷ [])) (cells_bits ports cs) in
      omega (arith, here, later, all)

  -- what may come at a place: the code, and a fresh output
  abbrev share : ℕ → ℕ
  share at = cond (at == machine.flop) (size (bits_of_wire first n)) 0 + cond (has_place found.tree.forks at) (size (bits_of_wire (first + 1 + position machine.muxes at) n)) 0

  drives_low : (at : ℕ) (cell : Cell) (bits : List WireBit) → weight cell ≡ size (cells_bits ports (cell ∷ [])) → Drives ports first n found.tree.forks machine.muxes machine.flop at cell bits → size bits ≤ weight cell + share at
  drives_low at cell bits old (Same e) = let same = ap size e in omega (arith, same, old)
  drives_low at cell bits old (Code here e) =
      let same = ap size e in
      let mine : cond (at == machine.flop) (size (bits_of_wire first n)) 0 ≡ size (bits_of_wire first n) = ap (λ t. cond t (size (bits_of_wire first n)) 0) here in
      omega (arith, same, mine)
  drives_low at cell bits old (Fresh here e) =
      let same = ap size e in
      let mine : cond (has_place found.tree.forks at) (size (bits_of_wire (first + 1 + position machine.muxes at) n)) 0 ≡ size (bits_of_wire (first + 1 + position machine.muxes at) n) = ap (λ t. cond t (size (bits_of_wire (first + 1 + position machine.muxes at) n)) 0) here in
      omega (arith, same, mine)

  place_low : (at : ℕ) (cell : Cell) (here : List Cell) (links : List Link) → StandsAt ports m wire machine ready found at cell here links → weights weight here + size (links_bits links) ≤ weight cell + share at
  place_low at cell here links (inl e) =
      let cells : weights weight here ≡ weight cell + 0 = ap (weights weight) e.0 in
      let more : size (links_bits links) ≡ size [] = ap (λ z. size (links_bits z)) e.1 in
      omega (arith, cells, more, is.none)
  place_low at cell here links (inr r) =
      let cells = fit_weights here r.new in
      let both = is.more (cells_bits ports here) (links_bits links) in
      let low = drives_low at cell (cells_bits ports here ++ links_bits links) (own r.old.0 cell r.old.1) r.drives in
      omega (arith, cells, both, low)

  abbrev IsLow : ℕ → Cell → Type 0
  IsLow at cell = weights weight (cell_made m machine coding at cell) + size (links_bits (links_made m machine coding at cell)) ≤ weight cell + share at

  all_low : (from : ℕ) (cells : List Cell) → ((i : ℕ) (cell : Cell) → slice_get cells i ≡ Some cell → IsLow (from + i) cell)
      → weights weight (cells_made m machine coding from cells) + size (links_bits (all_links_made m machine coding from cells)) ≤ weights weight cells + sum_from share from (length cells)
  all_low from [] h = let none = is.none in omega (arith, none)
  all_low from (cell ∷ cells) h =
      let place : from + 0 ≡ from = omega arith in
      let here : IsLow from cell = subst (λ k. IsLow k cell) place (h 0 cell refl) in
      let rest = all_low (from + 1) cells (λ i c e. let next : from + suc i ≡ from + 1 + i = omega arith in subst (λ k. IsLow k c) next (h (suc i) c e)) in
      let all_cells = weights_more weight (cell_made m machine coding from cell) (cells_made m machine coding (from + 1) cells) in
      let all_links = ap size (links_more (links_made m machine coding from cell) (all_links_made m machine coding (from + 1) cells)) ∙ is.more (links_bits (links_made m machine coding from cell)) (links_bits (all_links_made m machine coding (from + 1) cells)) in
      omega (arith, here, rest, all_cells, all_links)

  shares_low : sum_from share 0 (length m.cells) ≤ size (bits_from first (fresh_wires m machine))
  shares_low =
      let code : ℕ → ℕ = λ at. cond (at == machine.flop) (size (bits_of_wire first n)) 0 in
      let fresh : ℕ → ℕ = λ at. cond (has_place found.tree.forks at) (size (bits_of_wire (first + 1 + position machine.muxes at) n)) 0 in
      let muxes : machine.muxes ≡ rising_places (length m.cells) found.tree.forks = ap (λ (z : Machine). z.muxes) found.made in
      let one = one_place machine.flop (size (bits_of_wire first n)) 0 (length m.cells) in
      let forks : sum_from fresh 0 (length m.cells) ≡ size (bits_from (first + 1) (output_wires n (first_number m + 1) machine.muxes)) =
      subst (λ z. sum_from (λ at. cond (has_place found.tree.forks at) (size (bits_of_wire (first + 1 + position z at) n)) 0) 0 (length m.cells) ≡ size (bits_from (first + 1) (output_wires n (first_number m + 1) z))) (sym muxes)
      (forks_sum found.tree.forks size is n 0 (length m.cells) (first + 1) (first_number m + 1)) in
      let parts = sum_both code fresh 0 (length m.cells) in
      let all = is.more (bits_of_wire first n) (bits_from (first + 1) (output_wires n (first_number m + 1) machine.muxes)) in
      omega (arith, one, forks, parts, all)

  pub total : weights weight (cells_made m machine coding 0 m.cells) + size (links_bits (all_links_made m machine coding 0 m.cells)) ≤ weights weight m.cells + size (bits_from first (fresh_wires m machine))
  total =
      let low = all_low 0 m.cells (λ i cell e. let place : 0 + i ≡ i = omega arith in subst (λ k. IsLow k cell) (sym place) (place_low i cell (cell_made m machine coding i cell) (links_made m machine coding i cell) (stands ports m wire machine ready found i cell e))) in
      let shares = shares_low in
      omega (arith, low, shares)
