use Rattle.std.proofs.Common.{◌+◌, drop, subst, sym, List, ℕ}
use Rattle.std.specs.Global.{Vec}
use Rattle.net_index.specs.declared.reader_fill.BitReader.{BitReader}
use Rattle.net_index.proofs.ReaderOnce.{IsLeftOf, link_bit, link_fixed, link_start}
use Rattle.net_index.proofs.reader_links.add_link.Goals as goal
use Rattle.net_index.proofs.reader_links.add_link.Goals.{in-Wire+in_ok-add_once, in_default}

pub loop-at-init : goal.loop-at-init
loop-at-init c = link_start c.args.numbering.now c.args.link c.args.right.now c.args.list.now.items c.args.marks.now c.requires.earlier

pub loop-at-preserved : goal.loop-at-preserved
loop-at-preserved c =
    let w = c.args.numbering.now in
    let old = c.args.list.now.items in
    let now = c.loop-at.list.items in
    let right = c.args.right.now in
    let i = c.loop-at.at in
    elim c.match-right-at.branch [
      | in-Wire+in_ok-add_once b ↦
          let new = b.add_once.new.list.items in
          subst (λ (v : Vec BitReader). IsLeftOf w c.args.link right (drop (i + 1) right) old v.items c.match-right-at.marks) (sym b.list-is)
          (subst (λ (ms : List ℕ). IsLeftOf w c.args.link right (drop (i + 1) right) old new ms) (sym b.marks-is)
          (link_bit w c.args.link right old now new c.loop-at.marks b.add_once.new.marks i b.in-Wire.bit _ c.loop-at-test.true b.in-Wire.is b.in_ok-add_once.ensures.ok c.loop-at.invariant))
      | in_default b ↦
          subst (λ (v : Vec BitReader). IsLeftOf w c.args.link right (drop (i + 1) right) old v.items c.match-right-at.marks) (sym b.list-is)
          (subst (λ (ms : List ℕ). IsLeftOf w c.args.link right (drop (i + 1) right) old now ms) (sym b.marks-is)
          (link_fixed w c.args.link right old now c.loop-at.marks i _ _ c.loop-at-test.true b.in_default.is c.loop-at.invariant))
    ]
