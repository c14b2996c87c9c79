use Rattle.std.proofs.Common.{length, ap, ◌∙◌}
use Rattle.std.specs.List.{list_any}
use Rattle.rtl_ir.specs.EventTests.{is_bit}
use Rattle.process_trees.specs.Walk.{HasRoom, rows_of}
use Rattle.process_trees.proofs.Reached.{reached}
use Rattle.process_trees.proofs.reaching.Reaching.of.Goals as goal

pub returns : goal.returns
returns c =
    let bits = c.args.bits.now in
    let room : HasRoom (length bits) c.in_ok-walk.walk = record { sources = c.in_ok-walk.ensures.sources; unset = c.in_ok-walk.ensures.size } in
    let walked = c.in_ok-walk_case.ensures.walked in
    record {
      value = record {
        numbers = c.in_ok-numbers.ensures.numbers;
        size = c.in_ok-sources.ensures.size ∙ (walked.room (length bits) room).sources;
        sources =
            reached c.in_ok-numbers.numbers c.args.root.now bits c.in_ok-walk.walk c.walk_case.new.walk c.in_ok-numbers.ensures.numbers room walked c.in_ok-walk.ensures.none c.in_ok-walk.ensures.unset
            c.in_ok-sources.sources.items c.in_ok-sources.ensures.value;
        read = λ q. c.in_ok-read.ensures.read q ∙ ap (λ rows. list_any (list_any (is_bit q)) (rows_of rows)) c.as_slice.ensures.value;
      };
    }
