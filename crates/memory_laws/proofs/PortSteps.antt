-- Write ports one after another: what stands behind them has no less than the chain, and so than what they make of a bit.
use Rattle.std.proofs.Common.{◌≡◌, ◌<◌, ◌≤◌, ℕ, suc, ◌^◌, Bool, true, false, List, [], ◌∷◌, length, if◌then◌else◌, inl, inr, refl, sym, ◌∙◌, ap, subst, arith}
use Rattle.std.specs.Prelude.{nat_lt}
use Rattle.std.proofs.lemmas.Bool.{ltb-false, ltb-true}
use Rattle.cell_gate.specs.Control.{pick_of}
use Rattle.rtl_bits.proofs.Orders.{Below_trans}
use Rattle.rtl_bits.specs.Knowledge.{Below}
use Rattle.rtl_bits.specs.Tables.{and_of, seen_of}
use Rattle.rtl_bits.specs.declared.bit.Bit.{Bit}
use Rattle.rtl_bits.specs.declared.bit.Bit.TheVariants.{S0, S1}
use Rattle.rtl_sig.specs.declared.sig.SigBit.{SigBit}
use Rattle.rtl_ir.specs.Build.{Building}
use Rattle.rtl_ir.specs.declared.plan.WritePort.{WritePort}
use Rattle.net_model.specs.Lists.{In}
use Rattle.net_model.specs.Mem.Expand.{address_match, port_runs, port_step, ports_step, run_lengths}
use Rattle.net_model.specs.Words.{address_is}
use Rattle.memory_laws.proofs.Chain.{chained, port_hit}
use Rattle.build_laws.proofs.Growing.{Grows, grows_both, grows_none, met_before}
use Rattle.build_laws.proofs.Moments.{AreMet, Moment, seen_all}
use Rattle.memory_laws.proofs.PortBits.{address_misses, zero_and}
use Rattle.memory_laws.proofs.PortCells.{at, match_grows, match_stands}
use Rattle.memory_laws.proofs.PortRuns.{runs_are, runs_grow, runs_long, runs_stand}

-- each port writes words of a width
abbrev pub AreWide : ℕ → List WritePort → Type 0
AreWide n ports = (port : WritePort) → In port ports → length port.enable ≡ n

-- a port, by whether it can reach the address
abbrev pub port_by : Bool → ℕ → WritePort → List SigBit → Building → List SigBit × Building
port_by t address port acc b =
    if t
    then
    (let match = address_match port.address address b in
    port_runs match.0 (run_lengths (length port.enable) port.enable) acc port.data port.enable match.1)
    else (acc, b)

pub port_grows : (address : ℕ) (port : WritePort) (acc : List SigBit) (b : Building) → Grows b (port_step address port acc b).1
port_grows address port acc b = by (nat_lt address (2 ^ length port.address))
  where
    by : (t : Bool) → Grows b (port_by t address port acc b).1
    by true =
        let match = address_match port.address address b in
        grows_both b match.1 _ (match_grows port.address address b) (runs_grow match.0 (run_lengths (length port.enable) port.enable) acc port.data port.enable match.1)
    by false = grows_none b

pub ports_grow : (address : ℕ) (ports : List WritePort) (acc : List SigBit) (b : Building) → Grows b (ports_step address ports acc b).1
ports_grow address [] acc b = grows_none b
ports_grow address (port ∷ ports) acc b =
    let next = port_step address port acc b in
    grows_both b next.1 _ (port_grows address port acc b) (ports_grow address ports next.0 next.1)

pub port_long : (address : ℕ) (port : WritePort) (acc : List SigBit) (b : Building) → length port.enable ≡ length acc → length (port_step address port acc b).0 ≡ length acc
port_long address port acc b wide = by (nat_lt address (2 ^ length port.address))
  where
    by : (t : Bool) → length (port_by t address port acc b).0 ≡ length acc
    by true =
        let match = address_match port.address address b in
        runs_long match.0 (run_lengths (length port.enable) port.enable) acc port.data port.enable match.1 (runs_are (length port.enable) port.enable (omega arith)) (sym wide)
    by false = refl

pub ports_long : (address : ℕ) (ports : List WritePort) (acc : List SigBit) (b : Building) → AreWide (length acc) ports → length (ports_step address ports acc b).0 ≡ length acc
ports_long address [] acc b wide = refl
ports_long address (port ∷ ports) acc b wide =
    let next = port_step address port acc b in
    let long : length next.0 ≡ length acc = port_long address port acc b (wide port (inl refl)) in
    ports_long address ports next.0 next.1 (λ q i. wide q (inr i) ∙ sym long) ∙ long

seen_low : (a : Bit) → Below (seen_of a) a
seen_low S0 = refl
seen_low S1 = refl
seen_low a = tt

module _ (m : Moment) (address : ℕ) where
  seen_long : (signal : List SigBit) → length (seen_all m signal) ≡ length signal
  seen_long [] = refl
  seen_long (s ∷ signal) = ap suc (seen_long signal)

  -- whether a port writes a bit
  abbrev hit : WritePort → ℕ → Bit
  hit port k = port_hit m.path m.wires m.has address k port

  pub port_stands : (port : WritePort) (acc : List SigBit) (b : Building) (g : ℕ → Bit) → length port.enable ≡ length acc → length acc ≤ 65536 → ((k : ℕ) → k < length acc → Below (g k) (at m acc k)) → AreMet m (port_step address port acc b).1.body.cells
      → (k : ℕ) → k < length acc → Below (pick_of (hit port k) (at m port.data k) (g k)) (at m (port_step address port acc b).0 k)
  port_stands port acc b g wide few h met k lt = by (nat_lt address (2 ^ length port.address)) refl met
    where
      by : (t : Bool) → nat_lt address (2 ^ length port.address) ≡ t → AreMet m (port_by t address port acc b).1.body.cells → Below (pick_of (hit port k) (at m port.data k) (g k)) (at m (port_by t address port acc b).0 k)
      by true is met' =
          let match = address_match port.address address b in
          let runs : List ℕ = run_lengths (length port.enable) port.enable in
          let grows = runs_grow match.0 runs acc port.data port.enable match.1 in
          runs_stand m match.0 (address_is (seen_all m port.address) address)
          (match_stands m port.address address b (ltb-true address (2 ^ length port.address) is) (met_before m match.1 _ grows met'))
          runs acc port.data port.enable match.1 g (runs_are (length port.enable) port.enable (omega arith)) (sym wide) few h met' k lt
      by false is met' =
          let over : 2 ^ length port.address ≤ address = ltb-false address (2 ^ length port.address) is in
          let long : 2 ^ length (seen_all m port.address) ≤ address = subst (λ n. 2 ^ n ≤ address) (sym (seen_long port.address)) over in
          let missed : hit port k ≡ S0 = ap (and_of (at m port.enable k)) (address_misses (seen_all m port.address) address long) ∙ zero_and (at m port.enable k) in
          subst (λ z. Below (pick_of z (at m port.data k) (g k)) (at m acc k)) (sym missed)
          (Below_trans (seen_of (g k)) (g k) (at m acc k) (seen_low (g k)) (h k lt))

  pub ports_stand : (ports : List WritePort) (acc : List SigBit) (b : Building) (g : ℕ → Bit) → AreWide (length acc) ports → length acc ≤ 65536 → ((k : ℕ) → k < length acc → Below (g k) (at m acc k)) → AreMet m (ports_step address ports acc b).1.body.cells
      → (k : ℕ) → k < length acc → Below (chained m.path m.wires m.has address k ports (g k)) (at m (ports_step address ports acc b).0 k)
  ports_stand [] acc b g wide few h met k lt = h k lt
  ports_stand (port ∷ ports) acc b g wide few h met k lt =
      let next = port_step address port acc b in
      let here : length port.enable ≡ length acc = wide port (inl refl) in
      let long : length next.0 ≡ length acc = port_long address port acc b here in
      let met' : AreMet m next.1.body.cells = met_before m next.1 _ (ports_grow address ports next.0 next.1) met in
      let few' : length next.0 ≤ 65536 = omega (arith, long, few) in
      let lt' : k < length next.0 = omega (arith, long, lt) in
      ports_stand ports next.0 next.1 (λ j. pick_of (hit port j) (at m port.data j) (g j)) (λ q i. wide q (inr i) ∙ sym long) few'
      (λ j lj. let lj' : j < length acc = omega (arith, long, lj) in port_stands port acc b g here few h met' j lj') met k lt'
