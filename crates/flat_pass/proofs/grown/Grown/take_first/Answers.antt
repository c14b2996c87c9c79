use Rattle.std.proofs.Common.{◌≡◌, ◌-◌, ◌∙◌, [], true, false, sym, subst, rules}
use Rattle.std.specs.Prelude.{is_none}
use Rattle.rtl_ir.specs.Flat.Cell.{cell_kind}
use Rattle.flat_pass.specs.Counts.{AreNames, Counted, count_of}
use Rattle.flat_pass.specs.Grown.{built}
use Rattle.flat_pass.proofs.Visiting.{names_none, names_taken, none_visited, takes, takes_none, visits}
use Rattle.flat_pass.proofs.grown.Grown.take_first.Goals as goal

pub returns-then-is_none-clause-value : goal.returns-then-is_none-clause-value
returns-then-is_none-clause-value c =
    let here : is_none (cell_kind c.in-Some.cell) ≡ true = search rules in
    takes c.loop-cell.self c.release.new.self c.in-Some.cell c.pop_front.new.self.items c.in-Some.ensures.items c.release.ensures.next (built c.args.self.now) c.loop-cell.invariant.same c.loop-cell.invariant.sound here

pub returns-then-is_none-clause-sound : goal.returns-then-is_none-clause-sound
returns-then-is_none-clause-sound c = record {
  names = names_taken c.loop-cell.self c.release.new.self c.in-Some.cell c.pop_front.new.self.items c.in-Some.ensures.items c.release.ensures.next c.loop-cell.invariant.sound
      (subst (λ t. Counted c.loop-cell.self.namer.counts c.release.new.self.counts t (count_of c.loop-cell.self.namer.counts t - 1)) c.as_slice.ensures.value c.in_ok-release.ensures.counts);
  bits = c.loop-cell.invariant.sound.bits;
  library = c.loop-cell.invariant.sound.library;
}

pub loop-cell-preserved : goal.loop-cell-preserved
loop-cell-preserved c =
    let here : is_none (cell_kind c.in-Some.cell) ≡ false = search rules in
    let same = visits c.loop-cell.self c.in-Some.cell c.pop_front.new.self.items c.push.new.self c.in-Some.ensures.items c.in_ok-push.ensures.ok in
    record {
      same = same ∙ c.loop-cell.invariant.same;
      sound = record {
        names = subst (AreNames c.loop-cell.self.namer) (sym same) c.loop-cell.invariant.sound.names;
        bits = c.loop-cell.invariant.sound.bits;
        library = none_visited c.loop-cell.self c.in-Some.cell c.pop_front.new.self.items c.push.new.self c.in-Some.ensures.items c.in_ok-push.ensures.ok c.loop-cell.invariant.sound here;
      };
    }

pub returns-clause-value : goal.returns-clause-value
returns-clause-value c =
    let empty : c.pop_front.new.self.items ≡ [] = search rules in
    takes_none c.loop-cell.self c.pop_front.new.self.items c.in_default.ensures.items (built c.args.self.now) c.loop-cell.invariant.same c.loop-cell.invariant.sound empty

pub returns-clause-sound : goal.returns-clause-sound
returns-clause-sound c = record {
  names = names_none c.loop-cell.self c.pop_front.new.self.items c.in_default.ensures.items c.loop-cell.invariant.sound;
  bits = c.loop-cell.invariant.sound.bits;
  library = c.loop-cell.invariant.sound.library;
}
