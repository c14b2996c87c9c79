-- A session over an input, by what each read gives.
use Rattle.std.proofs.Common.{◌≡◌, Ok, Err, take, refl, ap, ◌∙◌, arith, length-take-le}
use Rattle.std.proofs.lemmas.Result.{IfOk-at_ok}
use Rattle.synth_io.specs.declared.input.Next.{Next}
use Rattle.synth_io.specs.declared.input.Next.TheVariants.{Bytes, End, Past}
use Rattle.synth_run.proofs.Holding.{ended_all, ended_cut, past_all, past_cut, stands_broken, stands_failed, stands_first, stands_next, stands_quit}
use Rattle.synth_run.proofs.Limits.{took_kept, took_more, took_past}
use Rattle.synth_run.proofs.session.Session.answer_all.Goals as goal

pub loop-count-init : goal.loop-count-init
loop-count-init g c = record {
  stands = stands_first c.args.self (g.S.Source.left c.args.source.now) (g.K.Sink.held c.args.sink.now) c.args.meter.now c.requires.fresh.2 c.requires.fresh.1;
  piece = c.requires.some;
  source = refl;
  sink = refl;
}

pub overflow_add-taken : goal.overflow_add-taken
overflow_add-taken g c =
    let given : c.in-Ok-Bytes.field-0 ≡ Bytes c.in-Ok-Bytes.count = (rw c.in-Ok-Bytes.is at c.in-Ok-Bytes.field-0-is) in
    let is : c.read_next-next.result ≡ Ok (Bytes c.in-Ok-Bytes.count) = c.in-Ok-Bytes.is ∙ ap (λ (next : Next). Ok next) given in
    let read = c.read_next-next.ensures.bytes c.in-Ok-Bytes.count is in
    omega (arith, read.within)

pub slice_bounds-take_bytes-end : goal.slice_bounds-take_bytes-end
slice_bounds-take_bytes-end g c =
    let given : c.in-Ok-Bytes.field-0 ≡ Bytes c.in-Ok-Bytes.count = (rw c.in-Ok-Bytes.is at c.in-Ok-Bytes.field-0-is) in
    let is : c.read_next-next.result ≡ Ok (Bytes c.in-Ok-Bytes.count) = c.in-Ok-Bytes.is ∙ ap (λ (next : Next). Ok next) given in
    let read = c.read_next-next.ensures.bytes c.in-Ok-Bytes.count is in
    read.held

pub returns-in-Ok-true-clause-ok : goal.returns-in-Ok-true-clause-ok
returns-in-Ok-true-clause-ok g c =
    let given : c.in-Ok-Bytes.field-0 ≡ Bytes c.in-Ok-Bytes.count = (rw c.in-Ok-Bytes.is at c.in-Ok-Bytes.field-0-is) in
    let is : c.read_next-next.result ≡ Ok (Bytes c.in-Ok-Bytes.count) = c.in-Ok-Bytes.is ∙ ap (λ (next : Next). Ok next) given in
    let read = c.read_next-next.ensures.bytes c.in-Ok-Bytes.count is in
    stands_quit c.args.self c.loop-count.self c.take_bytes.new.self (take c.in-Ok-Bytes.count c.read_next-next.new.piece) (g.S.Source.left c.args.source.now) (g.S.Source.left c.loop-count.source) (g.S.Source.left c.read_next-next.new.source)
    (g.K.Sink.held c.args.sink.now) (g.K.Sink.held c.loop-count.sink) (g.K.Sink.held c.take_bytes.new.sink) c.loop-count.taken c.in-Ok-Bytes.count c.args.meter.now c.loop-count.meter c.take_bytes.new.meter
    c.loop-count.invariant.stands read.bytes (length-take-le c.in-Ok-Bytes.count c.read_next-next.new.piece read.held) read.within
    c.requires.fresh.0 (c.in-Ok-true.ensures.ends (ap Ok c.in-Ok-true.field-0-test))

pub returns-in-Ok-true-clause-taken : goal.returns-in-Ok-true-clause-taken
returns-in-Ok-true-clause-taken g c =
    let given : c.in-Ok-Bytes.field-0 ≡ Bytes c.in-Ok-Bytes.count = (rw c.in-Ok-Bytes.is at c.in-Ok-Bytes.field-0-is) in
    let is : c.read_next-next.result ≡ Ok (Bytes c.in-Ok-Bytes.count) = c.in-Ok-Bytes.is ∙ ap (λ (next : Next). Ok next) given in
    let read = c.read_next-next.ensures.bytes c.in-Ok-Bytes.count is in
    took_more c.loop-count.invariant.stands.bytes (g.S.Source.left c.args.source.now) (g.S.Source.left c.loop-count.source) (g.S.Source.left c.read_next-next.new.source) c.loop-count.taken c.loop-count.invariant.stands.taken c.loop-count.invariant.stands.size
    (take c.in-Ok-Bytes.count c.read_next-next.new.piece) c.in-Ok-Bytes.count read.bytes (length-take-le c.in-Ok-Bytes.count c.read_next-next.new.piece read.held) read.within

pub loop-count-preserved : goal.loop-count-preserved
loop-count-preserved g c =
    let given : c.in-Ok-Bytes.field-0 ≡ Bytes c.in-Ok-Bytes.count = (rw c.in-Ok-Bytes.is at c.in-Ok-Bytes.field-0-is) in
    let is : c.read_next-next.result ≡ Ok (Bytes c.in-Ok-Bytes.count) = c.in-Ok-Bytes.is ∙ ap (λ (next : Next). Ok next) given in
    let read = c.read_next-next.ensures.bytes c.in-Ok-Bytes.count is in
    record {
      stands =
          stands_next c.args.self c.loop-count.self c.take_bytes.new.self (take c.in-Ok-Bytes.count c.read_next-next.new.piece) (g.S.Source.left c.args.source.now) (g.S.Source.left c.loop-count.source) (g.S.Source.left c.read_next-next.new.source)
          (g.K.Sink.held c.args.sink.now) (g.K.Sink.held c.loop-count.sink) (g.K.Sink.held c.take_bytes.new.sink) c.loop-count.taken c.in-Ok-Bytes.count c.args.meter.now c.loop-count.meter c.take_bytes.new.meter
          c.loop-count.invariant.stands read.bytes (length-take-le c.in-Ok-Bytes.count c.read_next-next.new.piece read.held) read.within
          c.in-Ok-false.ensures.unended (c.in-Ok-false.ensures.goes_on (ap Ok c.in-Ok-false.field-0-test));
      piece = omega (arith, c.read_next-next.ensures.size, c.loop-count.invariant.piece);
      source =
          IfOk-at_ok (λ _. g.S.Source.faults c.read_next-next.new.source ≡ g.S.Source.faults c.loop-count.source) c.in-Ok-Bytes.is c.read_next-next.ensures.cause.ok
          ∙ c.loop-count.invariant.source;
      sink = c.in-Ok-false.ensures.same (λ e. absurd cc) ∙ c.loop-count.invariant.sink;
    }

pub returns-in-Err-take_bytes-clause-err : goal.returns-in-Err-take_bytes-clause-err
returns-in-Err-take_bytes-clause-err g c =
    let given : c.in-Ok-Bytes.field-0 ≡ Bytes c.in-Ok-Bytes.count = (rw c.in-Ok-Bytes.is at c.in-Ok-Bytes.field-0-is) in
    let is : c.read_next-next.result ≡ Ok (Bytes c.in-Ok-Bytes.count) = c.in-Ok-Bytes.is ∙ ap (λ (next : Next). Ok next) given in
    let read = c.read_next-next.ensures.bytes c.in-Ok-Bytes.count is in
    stands_broken c.args.self c.loop-count.self c.take_bytes.new.self (take c.in-Ok-Bytes.count c.read_next-next.new.piece) (g.S.Source.left c.args.source.now) (g.S.Source.left c.loop-count.source) (g.S.Source.left c.read_next-next.new.source)
    (g.K.Sink.held c.args.sink.now) (g.K.Sink.held c.loop-count.sink) (g.K.Sink.held c.take_bytes.new.sink) c.loop-count.taken c.in-Ok-Bytes.count c.args.meter.now c.loop-count.meter c.take_bytes.new.meter
    c.loop-count.invariant.stands read.bytes (length-take-le c.in-Ok-Bytes.count c.read_next-next.new.piece read.held) read.within
    c.in-Err-take_bytes.stop (λ e. c.in-Err-take_bytes.ensures.source (ap Err e)) c.in-Err-take_bytes.ensures.err

pub returns-in-Err-take_bytes-clause-taken : goal.returns-in-Err-take_bytes-clause-taken
returns-in-Err-take_bytes-clause-taken g c =
    let given : c.in-Ok-Bytes.field-0 ≡ Bytes c.in-Ok-Bytes.count = (rw c.in-Ok-Bytes.is at c.in-Ok-Bytes.field-0-is) in
    let is : c.read_next-next.result ≡ Ok (Bytes c.in-Ok-Bytes.count) = c.in-Ok-Bytes.is ∙ ap (λ (next : Next). Ok next) given in
    let read = c.read_next-next.ensures.bytes c.in-Ok-Bytes.count is in
    took_more c.loop-count.invariant.stands.bytes (g.S.Source.left c.args.source.now) (g.S.Source.left c.loop-count.source) (g.S.Source.left c.read_next-next.new.source) c.loop-count.taken c.loop-count.invariant.stands.taken c.loop-count.invariant.stands.size
    (take c.in-Ok-Bytes.count c.read_next-next.new.piece) c.in-Ok-Bytes.count read.bytes (length-take-le c.in-Ok-Bytes.count c.read_next-next.new.piece read.held) read.within

pub returns-in-Err-take_bytes-clause-sink_count : goal.returns-in-Err-take_bytes-clause-sink_count
returns-in-Err-take_bytes-clause-sink_count g c = λ other. c.in-Err-take_bytes.ensures.same other ∙ c.loop-count.invariant.sink

pub returns-in-Ok-End-clause-ok : goal.returns-in-Ok-End-clause-ok
returns-in-Ok-End-clause-ok g c =
    let given : c.in-Ok-End.field-0 ≡ End = (rw c.in-Ok-End.is at c.in-Ok-End.field-0-is) in
    let is : c.read_next-next.result ≡ Ok (End) = c.in-Ok-End.is ∙ ap (λ (next : Next). Ok next) given in
    let ended = c.read_next-next.ensures.end is in
    ended_all c.args.self c.loop-count.self (g.S.Source.left c.args.source.now) (g.S.Source.left c.loop-count.source) (g.S.Source.left c.read_next-next.new.source) (g.K.Sink.held c.args.sink.now) (g.K.Sink.held c.loop-count.sink) (g.K.Sink.held c.finish.new.sink) c.loop-count.taken
    c.args.meter.now c.loop-count.meter c.finish.new.meter c.loop-count.invariant.stands
    c.requires.fresh.0 ended.0 ended.1 c.finish.result c.finish.ensures.ok

pub returns-in-Ok-End-clause-err : goal.returns-in-Ok-End-clause-err
returns-in-Ok-End-clause-err g c =
    let given : c.in-Ok-End.field-0 ≡ End = (rw c.in-Ok-End.is at c.in-Ok-End.field-0-is) in
    let is : c.read_next-next.result ≡ Ok (End) = c.in-Ok-End.is ∙ ap (λ (next : Next). Ok next) given in
    let ended = c.read_next-next.ensures.end is in
    ended_cut c.args.self c.loop-count.self (g.S.Source.left c.args.source.now) (g.S.Source.left c.loop-count.source) (g.S.Source.left c.read_next-next.new.source) (g.K.Sink.held c.args.sink.now) (g.K.Sink.held c.loop-count.sink) (g.K.Sink.held c.finish.new.sink) c.loop-count.taken
    c.args.meter.now c.loop-count.meter c.finish.new.meter c.loop-count.invariant.stands
    ended.0 ended.1 c.finish.result c.finish.ensures.source c.finish.ensures.err

pub returns-in-Ok-End-clause-taken : goal.returns-in-Ok-End-clause-taken
returns-in-Ok-End-clause-taken g c =
    let given : c.in-Ok-End.field-0 ≡ End = (rw c.in-Ok-End.is at c.in-Ok-End.field-0-is) in
    let is : c.read_next-next.result ≡ Ok (End) = c.in-Ok-End.is ∙ ap (λ (next : Next). Ok next) given in
    let ended = c.read_next-next.ensures.end is in
    took_kept c.loop-count.invariant.stands.bytes (g.S.Source.left c.args.source.now) (g.S.Source.left c.loop-count.source) (g.S.Source.left c.read_next-next.new.source) c.loop-count.taken c.loop-count.invariant.stands.taken c.loop-count.invariant.stands.size c.loop-count.invariant.stands.within ended.0

pub returns-in-Ok-Past-clause-ok : goal.returns-in-Ok-Past-clause-ok
returns-in-Ok-Past-clause-ok g c =
    let given : c.in-Ok-Past.field-0 ≡ Past = (rw c.in-Ok-Past.is at c.in-Ok-Past.field-0-is) in
    let is : c.read_next-next.result ≡ Ok (Past) = c.in-Ok-Past.is ∙ ap (λ (next : Next). Ok next) given in
    let past = c.read_next-next.ensures.past is in
    past_all c.args.self c.loop-count.self (g.S.Source.left c.args.source.now) (g.S.Source.left c.loop-count.source) (g.S.Source.left c.read_next-next.new.source) (g.K.Sink.held c.args.sink.now) (g.K.Sink.held c.loop-count.sink) (g.K.Sink.held c.refuse_long.new.sink) c.loop-count.taken
    c.args.meter.now c.loop-count.meter c.loop-count.meter c.loop-count.invariant.stands
    past.0 past.1 c.requires.fresh.0 c.refuse_long.result c.refuse_long.ensures.ok

pub returns-in-Ok-Past-clause-err : goal.returns-in-Ok-Past-clause-err
returns-in-Ok-Past-clause-err g c =
    let given : c.in-Ok-Past.field-0 ≡ Past = (rw c.in-Ok-Past.is at c.in-Ok-Past.field-0-is) in
    let is : c.read_next-next.result ≡ Ok (Past) = c.in-Ok-Past.is ∙ ap (λ (next : Next). Ok next) given in
    let past = c.read_next-next.ensures.past is in
    past_cut c.args.self c.loop-count.self (g.S.Source.left c.args.source.now) (g.S.Source.left c.loop-count.source) (g.S.Source.left c.read_next-next.new.source) (g.K.Sink.held c.args.sink.now) (g.K.Sink.held c.loop-count.sink) (g.K.Sink.held c.refuse_long.new.sink) c.loop-count.taken
    c.args.meter.now c.loop-count.meter c.loop-count.meter c.loop-count.invariant.stands
    past.0 past.1 c.refuse_long.result c.refuse_long.ensures.source c.refuse_long.ensures.err

pub returns-in-Ok-Past-clause-taken : goal.returns-in-Ok-Past-clause-taken
returns-in-Ok-Past-clause-taken g c =
    let given : c.in-Ok-Past.field-0 ≡ Past = (rw c.in-Ok-Past.is at c.in-Ok-Past.field-0-is) in
    let is : c.read_next-next.result ≡ Ok (Past) = c.in-Ok-Past.is ∙ ap (λ (next : Next). Ok next) given in
    let past = c.read_next-next.ensures.past is in
    took_past c.loop-count.invariant.stands.bytes (g.S.Source.left c.args.source.now) (g.S.Source.left c.loop-count.source) (g.S.Source.left c.read_next-next.new.source) c.loop-count.taken c.loop-count.invariant.stands.taken c.loop-count.invariant.stands.size past.0 past.1

pub returns-in-Err-clause-err : goal.returns-in-Err-clause-err
returns-in-Err-clause-err g c =
    stands_failed c.args.self c.loop-count.self (g.S.Source.left c.args.source.now) (g.S.Source.left c.loop-count.source) (g.S.Source.left c.read_next-next.new.source) (g.K.Sink.held c.args.sink.now) (g.K.Sink.held c.loop-count.sink) (g.K.Sink.held c.loop-count.sink) c.loop-count.taken
    c.args.meter.now c.loop-count.meter c.loop-count.meter c.loop-count.invariant.stands
    c.in-Err.ensures.lost

pub returns-in-Err-clause-taken : goal.returns-in-Err-clause-taken
returns-in-Err-clause-taken g c =
    took_kept c.loop-count.invariant.stands.bytes (g.S.Source.left c.args.source.now) (g.S.Source.left c.loop-count.source) (g.S.Source.left c.read_next-next.new.source) c.loop-count.taken c.loop-count.invariant.stands.taken c.loop-count.invariant.stands.size c.loop-count.invariant.stands.within c.in-Err.ensures.lost
