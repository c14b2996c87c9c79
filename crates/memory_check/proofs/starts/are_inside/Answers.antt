use Rattle.std.proofs.Common.{◌≡◌, ◌+◌, ◌≤◌, ◌<◌, ◌^◌, ◌∙◌, ◌&&◌, ap, true, sym, arith}
use Rattle.std.specs.Prelude.{nat_abs, nat_le}
use Rattle.std.proofs.lemmas.Bool.{le-leb}
use Rattle.memory_check.proofs.Starting.{inside_some}
use Rattle.memory_check.proofs.starts.are_inside.Goals as goal

pub returns-then-base-first : goal.returns-then-base-first
returns-then-base-first c = record {
  value = λ words cut.
      let first = c.in-Some.first in
      let base = c.from-base.result in
      let size = c.from.result in
      let is_base : base ≡ nat_abs c.args.store.now.offset = grind arith in
      let is_size : size ≡ nat_abs c.args.store.now.size = grind arith in
      let low : base < 2 ^ 32 = omega arith in
      let high : size ≤ 2 ^ 31 = omega arith in
      let reached : nat_le base first ≡ true = le-leb base first c.if-base-first.true in
      ap (λ n. nat_le (first + n) (base + size)) c.from-then-base-first.ensures
      ∙ (λ i. sym reached i && nat_le (first + c.args.count) (base + size))
      ∙ inside_some c.args.store.now c.args.address.now c.args.count words first base size cut c.in-Some.ensures.value is_base is_size low high c.if-count-eq0.false;
}
