use Rattle.std.proofs.Common.{◌≡◌, ◌∙◌, ap, length, replicate, subst, sym}
use Rattle.std.proofs.lemmas.List.{length-replicate, take_at}
use Rattle.rtl_bits.specs.declared.bit.Bit.TheVariants.{X}
use Rattle.flat_net.specs.Parts.{parts_rows}
use Rattle.sim_eval.specs.Advance.{AreLeast}
use Rattle.sim_eval.specs.Agenda.{IsWhole}
use Rattle.sim_eval.specs.Moment.{time_of}
use Rattle.sim_eval.specs.Reads.{AreRead}
use Rattle.sim_eval.proofs.Stepping.{settling_whole}
use Rattle.sim_eval.proofs.settle.settle.Goals as goal

pub settle_all-requires-clause-read : goal.settle_all-requires-clause-read
settle_all-requires-clause-read c =
    let start : c.deref_mut.result.now ≡ replicate c.args.count X = c.deref_mut.ensures.value ∙ c.in_ok-now.ensures.items_if_clones_equal (λ y e. e) in
    subst (λ n. AreRead c.args.readers.now c.args.parts.now n) (sym (ap length start ∙ length-replicate c.args.count X)) c.requires.read

pub settle_all-requires-clause-sized : goal.settle_all-requires-clause-sized
settle_all-requires-clause-sized c = c.in_ok-agenda.ensures.whole.marks

pub returns-clause-least : goal.returns-clause-least
returns-clause-least c = λ ps apart same before within.
    let t = time_of ps c.args.moment.now in
    let rows = parts_rows ps c.args.parts.now in
    let start : c.deref_mut.result.now ≡ replicate c.args.count X =
    c.deref_mut.ensures.value ∙ c.in_ok-now.ensures.items_if_clones_equal (λ y e. e) in
    let long : length c.deref_mut.result.now ≡ c.args.count = ap length start ∙ length-replicate c.args.count X in
    let whole = subst (λ n. IsWhole c.in_ok-agenda.agenda (length c.args.parts.now) n) (sym long) c.in_ok-agenda.ensures.whole in
    subst (AreLeast ps t rows) (sym (take_at c.settle_all.new.now _ c.in_ok-now.now.len (c.settle_all.auto.now ∙ c.deref_mut.ensures.len)))
    (c.in_ok-settle_all.ensures.least ps (record { apart = apart; before = before; now = same ∙ sym long }) within (settling_whole ps t c.args.parts.now c.in_ok-agenda.agenda c.deref_mut.result.now c.args.count whole start))
