use Rattle.std.proofs.Common.{◌≡◌, ◌+◌, ◌∷◌, ◌++◌, [], sym, ◌∙◌, ap}
use Rattle.net_model.proofs.Members.{map-append}
use Rattle.net_model.specs.Proc.Sync.{line_number}
use Rattle.proc_sync.specs.Lines.{numbered_of, numbers_of}
use Rattle.proc_sync.proofs.Counting.{line_put}
use Rattle.proc_sync.proofs.writer.Writer.with_line.Goals as goal

pub invariant_of-result : goal.invariant_of-result
invariant_of-result c = record {
  agree = λ name.
      let more : numbers_of c.push.new.self.items ≡ numbers_of c.args.self.done.items ++ record { memory = c.args.memory.now; number = line_number c.args.self.body.now (numbers_of c.args.self.done.items) c.args.memory.now } ∷ [] =
      ap numbers_of c.in_ok-push.ensures.items
      ∙ map-append numbered_of c.args.self.done.items (record { memory = c.args.memory; number = c.next-number.result } ∷ [])
      ∙ (λ i. numbers_of c.args.self.done.items ++ record { memory = c.args.memory.now; number = c.next-number.ensures.value i } ∷ []) in
      line_put c.args.self.counts c.insert.new.self c.args.memory c.in_ok-above.above c.args.self.body.now (numbers_of c.args.self.done.items) (record { updates = c.in_ok-insert.ensures.updates }) c.args.self.agree
      (c.in_ok-above.ensures.value ∙ ap (λ n. n + 1) c.next-number.ensures.value) name
      ∙ ap (λ ds. line_number c.args.self.body.now ds name) (sym more);
}
