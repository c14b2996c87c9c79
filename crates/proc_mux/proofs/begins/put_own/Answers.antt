use Rattle.std.proofs.Common.{◌≡◌, ◌+◌, ◌&&◌, ◌||◌, ◌∙◌, not, sym, ap, arith, refl}
use Rattle.std.specs.HashSet.{contains}
use Rattle.rtl_ir.specs.Signals.{same_bit}
use Rattle.rtl_sig.specs.declared.sig.WireBit.{WireBit}
use Rattle.proc_mux.specs.Lines.{is_bit}
use Rattle.proc_mux.proofs.Beginning.{own_added}
use Rattle.proc_mux.proofs.begins.put_own.Goals as goal

pub returns-in_ok-insert : goal.returns-in_ok-insert
returns-in_ok-insert c = record {
  begins = λ a b next.
      let bit = c.in-Wire.bit in
      let before : WireBit = record { wire = bit.wire; at = c.in-Some.at } in
      let place : c.in-Some.at + 1 ≡ bit.at = omega (arith, c.in-Some.ensures) in
      own_added a b next bit (contains same_bit c.args.named.now) before refl place (contains same_bit c.args.begins.now b) (contains same_bit c.insert.new.self b) (sym c.if-not-contains.ensures) (c.in_ok-insert.ensures.updates.0 b)
      ∙ ap (λ p. contains same_bit c.args.begins.now b || (is_bit p b && not (contains same_bit c.args.named.now a))) (sym c.in-Wire.is);
}
