use Rattle.std.proofs.Common.{◌∙◌, ◌<◌, ◌≤◌, Some, length, ap, arith}
use Rattle.design_edit.specs.Changes.{before_at}
use Rattle.design_edit.proofs.Placing.{last_at, more_at, set_at, set_back}
use Rattle.design_edit.proofs.changes.put_module.Goals as goal

pub returns-then-at-len-clause-value : goal.returns-then-at-len-clause-value
returns-then-at-len-clause-value c =
    let size = c.args.modules.now.ok.0 in
    let within : c.args.at < length c.args.modules.now.items = omega (arith, c.if-at-len.true, c.len.ensures, size) in
    c.replace_at-old.ensures.value ∙ set_at c.args.new c.args.modules.now.items c.args.at c.requires.place within

pub returns-then-at-len-clause-back : goal.returns-then-at-len-clause-back
returns-then-at-len-clause-back c =
    let size = c.args.modules.now.ok.0 in
    let within : c.args.at < length c.args.modules.now.items = omega (arith, c.if-at-len.true, c.len.ensures, size) in
    ap (before_at c.args.at (Some c.replace_at-old.result)) c.replace_at-old.ensures.value ∙ set_back c.args.modules.now.items c.args.at c.args.new c.replace_at-old.result within c.replace_at-old.ensures.old

pub push_reserved-requires : goal.push_reserved-requires
push_reserved-requires c =
    let size = c.args.modules.now.ok.0 in
    let over : length c.args.modules.now.items ≤ c.args.at = omega (arith, c.if-at-len.false, c.len.ensures, size) in
    let longer = more_at c.args.new c.args.modules.now.items c.args.at c.requires.place over in
    omega (arith, longer, c.requires.room, size)

pub returns-clause-value : goal.returns-clause-value
returns-clause-value c =
    let size = c.args.modules.now.ok.0 in
    let over : length c.args.modules.now.items ≤ c.args.at = omega (arith, c.if-at-len.false, c.len.ensures, size) in
    c.push_reserved.ensures.items ∙ last_at c.args.new c.args.modules.now.items c.args.at c.requires.place over
