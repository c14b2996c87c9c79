use Rattle.std.proofs.Common.{ap, not, refl, ◌∙◌}
use Rattle.script_core.specs.declared.key_table.Search.{Search}
use Rattle.script_core.proofs.SearchingFinds.{finds_again, finds_new}
use Rattle.script_core.proofs.key_table.Search.find.Goals as goal

pub returns-in_ok-push : goal.returns-in_ok-push
returns-in_ok-push c =
    let old : Search = c.args.self.now in
    let new : Search = record { found = c.insert.new.self; waiting = c.push.new.self } in
    record {
      finds = finds_new old new c.as_slice.result c.args.module c.as_slice.ensures.value c.requires.named c.in_ok-insert.ensures.entries
          c.in_ok-insert.field-0 c.in_ok-insert.ensures.len (c.is_none.ensures ∙ ap not c.if-is_none.true) c.in_ok-push.ensures.items;
    }

pub returns-else-is_none : goal.returns-else-is_none
returns-else-is_none c =
    let old : Search = c.args.self.now in
    let new : Search = record old { found = c.insert.new.self } in
    record {
      finds = finds_again old new c.as_slice.result c.args.module c.as_slice.ensures.value c.requires.named c.in_ok-insert.ensures.entries
          c.in_ok-insert.field-0 c.in_ok-insert.ensures.old c.in_ok-insert.ensures.len (c.is_none.ensures ∙ ap not c.if-is_none.false) refl;
    }
