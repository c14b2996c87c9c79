use Rattle.std.proofs.Common.{◌≡◌, ◌<◌, ◌∙◌, ℕ, false, ap, length, map, refl, subst, sym}
use Rattle.std.specs.Prelude.{flat_map}
use Rattle.std.specs.List.{AllByRecursion}
use Rattle.rtl_ir.specs.Flat.Driver.{Given, Joined, Worked, Stored, Decided}
use Rattle.flat_net.specs.declared.leaves.HeldBit.{HeldBit}
use Rattle.flat_net.specs.declared.memory.WordBit.{WordBit}
use Rattle.flat_net.specs.declared.net.Output.{Output}
use Rattle.flat_net.specs.declared.net.StoreBit.{StoreBit}
use Rattle.flat_net.specs.Parts.{held_row, inputs_of, output_row, part_rows, raced_row, store_row}
use Rattle.flat_net.specs.Picks.{tree_pick, tree_row}
use Rattle.flat_net.specs.Points.{place_at, pins_of, point_of}
use Rattle.flat_net.specs.Within.{IsFetchedWithin, IsHeldBitWithin, IsHeldWithin, IsLogicWithin, IsOutputWithin, IsPartWithin, IsRacedWithin, IsReadPortWithin, IsRememberedWithin, IsStoreWithin, IsTreeWithin}
use Rattle.flat_net.specs.Words.{port_rows, word_row}
use Rattle.sim_eval.specs.First.{IsFirstOf, and_places, firsts, marked, marked_ports, unmarked, unmarked_ports}
use Rattle.sim_eval.specs.Shown.{found}
use Rattle.sim_eval.proofs.Firsts.{first_items, first_single, held_within, ports_marked, ports_unmarked, ports_within, stores_within, within_unmarked}
use Rattle.sim_eval.proofs.Trees.{numbers_within}
use Rattle.sim_eval.proofs.first.first_of_part.Goals as goal

pub returns-in-Given : goal.returns-in-Given
returns-in-Given c = record {
  first = subst (λ z. IsFirstOf c.args.seen.now c.mark.new.seen z c.then_some.result) (sym c.in-Given.is)
      (first_single c.in-Given.output.number (λ ps. Given c.in-Given.output.at) _ _ _ _ _ (λ ps. refl) (λ count h. h) c.mark.ensures.was c.then_some.ensures c.mark.ensures.value);
}

pub returns-in-Joined : goal.returns-in-Joined
returns-in-Joined c = record {
  first = subst (λ z. IsFirstOf c.args.seen.now c.mark-in-Joined.new.seen z c.then_some-in-Joined.result) (sym c.in-Joined.is)
      (first_single c.in-Joined.join.to (λ ps. Joined (point_of ps c.in-Joined.join.from)) _ _ _ _ _ (λ ps. refl) (λ count h. h.0) c.mark-in-Joined.ensures.was c.then_some-in-Joined.ensures c.mark-in-Joined.ensures.value);
}

pub returns-in_ok-cell-in-Logic : goal.returns-in_ok-cell-in-Logic
returns-in_ok-cell-in-Logic c =
    let seen = c.args.seen.now in
    let cell = c.in-Logic.cell.value in
    let outs = c.in_ok-cell-in-Logic.field-0 in
    let number : Output → ℕ = λ o. o.number in
    let were : c.as_slice.result.now ≡ cell.outputs = c.as_slice.ensures.value ∙ ap (λ z. z.outputs) c.deref.ensures in
    let is : outs ≡ unmarked number seen cell.outputs = c.in_ok-cell-in-Logic.ensures.value ∙ ap (unmarked number seen) were in
    let marks : c.first_outputs.new.seen ≡ marked number seen cell.outputs = c.in_ok-cell-in-Logic.ensures.seen ∙ ap (marked number seen) were in
    record {
      first = first_items number (λ ps (o : Output). Worked cell.shape (inputs_of ps cell) o.at) seen c.first_outputs.new.seen c.args.part _ cell.outputs outs
          (λ ps. ap (part_rows ps) c.in-Logic.is)
          (λ ps. ap (λ z. map (output_row ps z.shape (inputs_of ps z)) outs) c.deref_mut.ensures.value)
          (λ count h. let k : IsLogicWithin count cell = subst (IsPartWithin count) c.in-Logic.is h in k.outputs)
          (λ count h.
          let k : IsLogicWithin count cell = subst (IsPartWithin count) c.in-Logic.is h in
          let there : IsLogicWithin count (record cell { outputs = outs }) =
          record { a = k.a; b = k.b; s = k.s; outputs = subst (AllByRecursion (λ (o : Output). o.number < count)) (sym is) (within_unmarked number (λ (o : Output). o.number < count) seen cell.outputs k.outputs) } in
          subst (λ z. IsLogicWithin count (record z { outputs = outs })) (sym c.deref_mut.ensures.value) there)
          is marks;
    }

pub returns-in_ok-cell-in-Storage : goal.returns-in_ok-cell-in-Storage
returns-in_ok-cell-in-Storage c =
    let seen = c.args.seen.now in
    let cell = c.in-Storage.cell.value in
    let outs = c.in_ok-cell-in-Storage.field-0 in
    let number : StoreBit → ℕ = λ b. b.number in
    let were : c.as_slice-in-Storage.result.now ≡ cell.bits = c.as_slice-in-Storage.ensures.value ∙ ap (λ z. z.bits) c.deref-in-Storage.ensures in
    let is : outs ≡ unmarked number seen cell.bits = c.in_ok-cell-in-Storage.ensures.value ∙ ap (unmarked number seen) were in
    let marks : c.first_bits.new.seen ≡ marked number seen cell.bits = c.in_ok-cell-in-Storage.ensures.seen ∙ ap (marked number seen) were in
    record {
      first = first_items number (λ ps (b : StoreBit). Stored b.start cell.shape b.at (pins_of ps b.pins) (place_at ps b.number)) seen c.first_bits.new.seen c.args.part _ cell.bits outs
          (λ ps. ap (part_rows ps) c.in-Storage.is)
          (λ ps. ap (λ z. map (store_row ps z.shape) outs) c.deref_mut-in-Storage.ensures.value)
          (λ count h. stores_within count cell.bits (subst (IsPartWithin count) c.in-Storage.is h))
          (λ count h. subst (AllByRecursion (IsStoreWithin count)) (sym is) (within_unmarked number (IsStoreWithin count) seen cell.bits (subst (IsPartWithin count) c.in-Storage.is h)))
          is marks;
    }

pub returns-in_ok-tree-in-Tree : goal.returns-in_ok-tree-in-Tree
returns-in_ok-tree-in-Tree c =
    let seen = c.args.seen.now in
    let tree = c.in-Tree.tree.value in
    let outs = c.in_ok-tree-in-Tree.field-0 in
    let number : Output → ℕ = λ o. o.number in
    let were : c.as_slice-in-Tree.result.now ≡ tree.outputs = c.as_slice-in-Tree.ensures.value ∙ ap (λ z. z.outputs) c.deref-in-Tree.ensures in
    let is : outs ≡ unmarked number seen tree.outputs = c.in_ok-tree-in-Tree.ensures.value ∙ ap (unmarked number seen) were in
    let marks : c.first_outputs-in-Tree.new.seen ≡ marked number seen tree.outputs = c.in_ok-tree-in-Tree.ensures.seen ∙ ap (marked number seen) were in
    record {
      first = first_items number (λ ps (o : Output). Decided (tree_pick ps tree.root o.at)) seen c.first_outputs-in-Tree.new.seen c.args.part _ tree.outputs outs
          (λ ps. ap (part_rows ps) c.in-Tree.is)
          (λ ps. ap (λ z. map (tree_row ps z.root) outs) c.deref_mut-in-Tree.ensures.value)
          (λ count h. let k : IsTreeWithin count tree = subst (IsPartWithin count) c.in-Tree.is h in numbers_within count tree.width tree.outputs k.outputs)
          (λ count h.
          let k : IsTreeWithin count tree = subst (IsPartWithin count) c.in-Tree.is h in
          let there : IsTreeWithin count (record tree { outputs = outs }) =
          record { root = k.root; outputs = subst (AllByRecursion (IsOutputWithin count tree.width)) (sym is) (within_unmarked number (IsOutputWithin count tree.width) seen tree.outputs k.outputs) } in
          subst (λ z. IsTreeWithin count (record z { outputs = outs })) (sym c.deref_mut-in-Tree.ensures.value) there)
          is marks;
    }

pub returns-in_ok-held-in-Held : goal.returns-in_ok-held-in-Held
returns-in_ok-held-in-Held c =
    let seen = c.args.seen.now in
    let held = c.in-Held.held.value in
    let outs = c.in_ok-held-in-Held.field-0 in
    let number : HeldBit → ℕ = λ b. b.number in
    let were : c.as_slice-in-Held.result.now ≡ held.bits = c.as_slice-in-Held.ensures.value ∙ ap (λ z. z.bits) c.deref-in-Held.ensures in
    let is : outs ≡ unmarked number seen held.bits = c.in_ok-held-in-Held.ensures.value ∙ ap (unmarked number seen) were in
    let marks : c.first_held.new.seen ≡ marked number seen held.bits = c.in_ok-held-in-Held.ensures.seen ∙ ap (marked number seen) were in
    record {
      first = first_items number (λ ps (b : HeldBit). (held_row ps held.tree b).driver) seen c.first_held.new.seen c.args.part _ held.bits outs
          (λ ps. ap (part_rows ps) c.in-Held.is)
          (λ ps. ap (λ z. map (held_row ps z.tree) outs) c.deref_mut-in-Held.ensures.value)
          (λ count h. let k : IsHeldWithin count held = subst (IsPartWithin count) c.in-Held.is h in held_within count held.tree.width held.bits k.bits)
          (λ count h.
          let k : IsHeldWithin count held = subst (IsPartWithin count) c.in-Held.is h in
          let there : IsHeldWithin count (record held { bits = outs }) =
          record { tree = k.tree; bits = subst (AllByRecursion (IsHeldBitWithin count held.tree.width)) (sym is) (within_unmarked number (IsHeldBitWithin count held.tree.width) seen held.bits k.bits) } in
          subst (λ z. IsHeldWithin count (record z { bits = outs })) (sym c.deref_mut-in-Held.ensures.value) there)
          is marks;
    }

pub returns-in_ok-raced-in-Raced : goal.returns-in_ok-raced-in-Raced
returns-in_ok-raced-in-Raced c =
    let seen = c.args.seen.now in
    let raced = c.in-Raced.raced.value in
    let outs = c.in_ok-raced-in-Raced.field-0 in
    let number : HeldBit → ℕ = λ b. b.number in
    let were : c.as_slice-in-Raced.result.now ≡ raced.bits = c.as_slice-in-Raced.ensures.value ∙ ap (λ z. z.bits) c.deref-in-Raced.ensures in
    let is : outs ≡ unmarked number seen raced.bits = c.in_ok-raced-in-Raced.ensures.value ∙ ap (unmarked number seen) were in
    let marks : c.first_held-in-Raced.new.seen ≡ marked number seen raced.bits = c.in_ok-raced-in-Raced.ensures.seen ∙ ap (marked number seen) were in
    record {
      first = first_items number (λ ps (b : HeldBit). (raced_row ps raced b).driver) seen c.first_held-in-Raced.new.seen c.args.part _ raced.bits outs
          (λ ps. ap (part_rows ps) c.in-Raced.is)
          (λ ps. ap (λ z. map (raced_row ps z) outs) c.deref_mut-in-Raced.ensures.value)
          (λ count h. let k : IsRacedWithin count raced = subst (IsPartWithin count) c.in-Raced.is h in held_within count raced.tree.width raced.bits k.bits)
          (λ count h.
          let k : IsRacedWithin count raced = subst (IsPartWithin count) c.in-Raced.is h in
          let there : IsRacedWithin count (record raced { bits = outs }) =
          record { tree = k.tree; clock = k.clock; reset = k.reset; bits = subst (AllByRecursion (IsHeldBitWithin count raced.tree.width)) (sym is) (within_unmarked number (IsHeldBitWithin count raced.tree.width) seen raced.bits k.bits) } in
          subst (λ z. IsRacedWithin count (record z { bits = outs })) (sym c.deref_mut-in-Raced.ensures.value) there)
          is marks;
    }

pub returns-in_ok-words-in-Remembered : goal.returns-in_ok-words-in-Remembered
returns-in_ok-words-in-Remembered c =
    let seen = c.args.seen.now in
    let words = c.in-Remembered.words.value in
    let outs = c.in_ok-words-in-Remembered.field-0 in
    let number : WordBit → ℕ = λ b. b.number in
    let were : c.as_slice-in-Remembered.result.now ≡ words.bits = c.as_slice-in-Remembered.ensures.value ∙ ap (λ z. z.bits) c.deref-in-Remembered.ensures in
    let is : outs ≡ unmarked number seen words.bits = c.in_ok-words-in-Remembered.ensures.value ∙ ap (unmarked number seen) were in
    let marks : c.first_words.new.seen ≡ marked number seen words.bits = c.in_ok-words-in-Remembered.ensures.seen ∙ ap (marked number seen) were in
    record {
      first = first_items number (λ ps (b : WordBit). (word_row ps words b).driver) seen c.first_words.new.seen c.args.part _ words.bits outs
          (λ ps. ap (part_rows ps) c.in-Remembered.is)
          (λ ps. ap (λ z. map (word_row ps z) outs) c.deref_mut-in-Remembered.ensures.value)
          (λ count h. let k : IsRememberedWithin count words = subst (IsPartWithin count) c.in-Remembered.is h in k.bits)
          (λ count h.
          let k : IsRememberedWithin count words = subst (IsPartWithin count) c.in-Remembered.is h in
          let there : IsRememberedWithin count (record words { bits = outs }) =
          record { clock = k.clock; ports = k.ports; bits = subst (AllByRecursion (λ (b : WordBit). b.number < count)) (sym is) (within_unmarked number (λ (b : WordBit). b.number < count) seen words.bits k.bits) } in
          subst (λ z. IsRememberedWithin count (record z { bits = outs })) (sym c.deref_mut-in-Remembered.ensures.value) there)
          is marks;
    }

pub returns-in_ok-fetched-in-Fetched : goal.returns-in_ok-fetched-in-Fetched
returns-in_ok-fetched-in-Fetched c =
    let seen = c.args.seen.now in
    let fetched = c.in-Fetched.fetched.value in
    let outs = c.in_ok-fetched-in-Fetched.field-0 in
    let were : c.as_slice-in-Fetched.result.now ≡ fetched.ports = c.as_slice-in-Fetched.ensures.value ∙ ap (λ z. z.ports) c.deref-in-Fetched.ensures in
    let is : outs ≡ unmarked_ports seen fetched.ports = c.in_ok-fetched-in-Fetched.ensures.value ∙ ap (unmarked_ports seen) were in
    let marks : c.first_ports.new.seen ≡ marked_ports seen fetched.ports = c.in_ok-fetched-in-Fetched.ensures.seen ∙ ap (marked_ports seen) were in
    record {
      first = record {
        rows = λ ps apart same h.
            let k : IsFetchedWithin (length ps) fetched = subst (IsPartWithin (length ps)) c.in-Fetched.is h in
            ap (λ z. flat_map (port_rows ps z) outs) c.deref_mut-in-Fetched.ensures.value
            ∙ ap (flat_map (port_rows ps fetched)) is
            ∙ ports_unmarked fetched ps apart seen fetched.ports same k.ports
            ∙ sym (ap (λ z. firsts (found false ps seen) (part_rows ps z)) c.in-Fetched.is);
        marks = λ ps apart same h.
            let k : IsFetchedWithin (length ps) fetched = subst (IsPartWithin (length ps)) c.in-Fetched.is h in
            ap (found false ps) marks
            ∙ ports_marked fetched ps apart seen fetched.ports same k.ports
            ∙ sym (ap (λ z. and_places (found false ps seen) (part_rows ps z)) c.in-Fetched.is);
        within = λ count h.
            let k : IsFetchedWithin count fetched = subst (IsPartWithin count) c.in-Fetched.is h in
            let there : IsFetchedWithin count (record fetched { ports = outs }) =
            record { columns = k.columns; ports = subst (AllByRecursion (IsReadPortWithin count)) (sym is) (ports_within count seen fetched.ports k.ports) } in
            subst (λ z. IsFetchedWithin count (record z { ports = outs })) (sym c.deref_mut-in-Fetched.ensures.value) there;
      };
    }
