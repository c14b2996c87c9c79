use Rattle.std.proofs.Common.{◌≡◌, ℕ, ◌+◌, ◌<◌, ◌++◌, List, Some, length, get_or, take, drop, ap, subst, sym, ◌∙◌, arith}
use Rattle.std.proofs.lemmas.List.{take_at}
use Rattle.net_index.specs.Numbering.{bit_count, number_of, widths_of}
use Rattle.net_index.specs.ReaderFill.{AreBelow}
use Rattle.net_index.specs.ReaderSort.{AreSorted, AreStarts, slots_at}
use Rattle.net_index.specs.Readers.{readers_of}
use Rattle.net_index.proofs.ReaderSlots.{readers_made, starts_made}
use Rattle.net_index.proofs.readers.Readers.of.Goals as goal

pub ends_of-requires-clause-below : goal.ends_of-requires-clause-below
ends_of-requires-clause-below c =
    let has = c.in_ok-list.ensures.value c.requires.typed.0 c.requires.typed.1 in
    subst (λ xs. AreBelow c.count.result xs) (sym c.as_slice-2.ensures.value) (subst (λ n. AreBelow n c.in_ok-list.list.items) (sym c.count.ensures.value) has.below)

pub slots_of-requires-clause-below : goal.slots_of-requires-clause-below
slots_of-requires-clause-below c =
    let has = c.in_ok-list.ensures.value c.requires.typed.0 c.requires.typed.1 in
    let len : length c.as_mut_slice.result.now ≡ c.count.result + 1 = ap length c.as_mut_slice.ensures.value ∙ c.in_ok-ends.ensures.len in
    let bits : c.count.result ≡ bit_count c.in_ok-numbering.numbering = c.count.ensures.value in
    subst (λ xs. AreBelow (length c.as_mut_slice.result.now) xs) (sym c.as_slice-3.ensures.value)
    (λ k d h. let own : (get_or c.in_ok-list.list.items k d).number < bit_count c.in_ok-numbering.numbering = has.below k d h in omega arith)

pub invariant_of-result : goal.invariant_of-result
invariant_of-result c = record {
  ordered =
      let new = c.slots_of.new.ends in
      let len : length c.as_mut_slice.result.now ≡ c.count.result + 1 = ap length c.as_mut_slice.ensures.value ∙ c.in_ok-ends.ensures.len in
      let bits : c.count.result ≡ bit_count c.in_ok-numbering.numbering = c.count.ensures.value in
      let back : take c.in_ok-ends.ends.len (new ++ drop (length new) c.in_ok-ends.ends.items) ≡ new = take_at new (drop (length new) c.in_ok-ends.ends.items) c.in_ok-ends.ends.len (omega arith) in
      subst (λ (ss : List ℕ). AreStarts (bit_count c.in_ok-numbering.numbering) ss c.in_ok-slots.slots.items) (sym back)
      (starts_made c.as_slice-3.result.now (bit_count c.in_ok-numbering.numbering) new c.in_ok-slots.slots.items (omega arith) c.in_ok-slots.ensures.sorted);
}

pub returns : goal.returns
returns c = record {
  value = λ ports are.
      let m = c.args.module.now in
      let new = c.slots_of.new.ends in
      let slots = c.in_ok-slots.slots.items in
      let list = c.in_ok-list.list.items in
      let len : length c.as_mut_slice.result.now ≡ c.count.result + 1 = ap length c.as_mut_slice.ensures.value ∙ c.in_ok-ends.ensures.len in
      let bits : c.count.result ≡ bit_count c.in_ok-numbering.numbering = c.count.ensures.value in
      let same : c.in_ok-numbering.numbering ≡ widths_of m.wires = c.in_ok-numbering.ensures.widths ∙ ap widths_of c.as_slice.ensures.value in
      let back : take c.in_ok-ends.ends.len (new ++ drop (length new) c.in_ok-ends.ends.items) ≡ new = take_at new (drop (length new) c.in_ok-ends.ends.items) c.in_ok-ends.ends.len (omega arith) in
      let sorted : AreSorted list new slots = subst (λ xs. AreSorted xs new slots) c.as_slice-3.ensures.value c.in_ok-slots.ensures.sorted in
      record {
        numbering = same;
        slots = λ b k e.
            subst (λ (ss : List ℕ). slots_at ss slots k ≡ readers_of ports m b) (sym back)
            (readers_made list c.in_ok-numbering.numbering new slots (readers_of ports m) (omega arith) sorted (c.in_ok-list.ensures.value ports are) b k
            (subst (λ (ws : List ℕ). number_of ws b ≡ Some k) (sym same) e));
      };
}
