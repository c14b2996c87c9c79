use Rattle.std.proofs.Common.{◌≡◌, ◌∷◌, ◌++◌, [], drop, ◌∙◌, ap}
use Rattle.net_model.specs.Proc.Sync.{line_number, write_cell}
use Rattle.proc_sync.specs.Writer.{body_of, done_of}
use Rattle.proc_sync.proofs.writes.line_step.Goals as goal

pub returns-clause-exact : goal.returns-clause-exact
returns-clause-exact c =
    let number : c.next-number.result ≡ line_number (body_of c.args.writer) (done_of c.args.writer) c.args.line.now.memory =
    c.next-number.ensures.value ∙ ap (line_number (body_of c.args.writer) (done_of c.args.writer)) c.as_slice-memory.ensures.value in
    let built : c.write_cell.new.builder ≡ write_cell c.args.event.now c.args.line.now (line_number (body_of c.args.writer) (done_of c.args.writer) c.args.line.now.memory) (drop c.args.start (done_of c.args.writer)) c.args.builder.now =
    c.in_ok-write_cell.ensures.exact ∙ (λ i. write_cell c.args.event.now c.args.line.now (number i) (c.behind.ensures.value i) c.args.builder.now) in
    let done : done_of c.in_ok-with_line.field-0 ≡ done_of c.args.writer ++ record { memory = c.args.line.now.memory; number = line_number (body_of c.args.writer) (done_of c.args.writer) c.args.line.now.memory } ∷ [] =
    c.in_ok-with_line.ensures.done
    ∙ (λ i. done_of c.args.writer ++ record { memory = c.as_slice-memory.ensures.value i; number = line_number (body_of c.args.writer) (done_of c.args.writer) (c.as_slice-memory.ensures.value i) } ∷ []) in
    λ i. record { building = built i; numbered = done i }
