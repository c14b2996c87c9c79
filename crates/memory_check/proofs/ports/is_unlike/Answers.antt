use Rattle.std.proofs.Common.{arith}
use Rattle.std.proofs.lemmas.Bool.Decides.{nat_tests}
use Rattle.memory_check.proofs.Shaping.{unlike_address, unlike_width}
use Rattle.memory_check.proofs.ports.is_unlike.Goals as goal

pub returns-then-shape-store : goal.returns-then-shape-store
returns-then-shape-store c = record { value = λ kind d has. unlike_width c.args.shape.now kind c.args.store.now d has c.if-shape-store.true }

pub returns-then-address-eq0 : goal.returns-then-address-eq0
returns-then-address-eq0 c = record { value = λ kind d has. unlike_address c.args.shape.now kind c.args.store.now d has _ c.if-shape-store.false (grind (arith, nat_tests)) }

pub returns-else-address-eq0 : goal.returns-else-address-eq0
returns-else-address-eq0 c = record { value = λ kind d has. unlike_address c.args.shape.now kind c.args.store.now d has _ c.if-shape-store.false (grind (arith, nat_tests)) }
