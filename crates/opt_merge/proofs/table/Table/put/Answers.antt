use Rattle.std.proofs.Common.{◌∙◌, ap}
use Rattle.opt_merge.specs.Table.{at_row, least}
use Rattle.opt_merge.proofs.Updating.{row_put}
use Rattle.opt_merge.proofs.table.Table.put.Goals as goal

pub returns : goal.returns
returns c = record {
  ok = record { all = row_put c.args.row.items c.args.self.now.places c.insert.new.self c.lesser-place.result c.args.at c.in_ok-insert.ensures.updates (c.lesser-place.ensures.value ∙ ap (least c.args.at) (c.get.ensures.value ∙ ap (at_row c.args.self.now) c.as_slice.ensures.value)) };
}
