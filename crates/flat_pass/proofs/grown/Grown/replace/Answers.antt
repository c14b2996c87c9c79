use Rattle.std.proofs.Common.{◌≡◌, ◌∙◌, ap, sym, length, map, rules, arith}
use Rattle.rtl_ir.specs.declared.store.Store.{Store}
use Rattle.flat_pass.specs.Flat.{put_all, put_cell, put_store, put_wire, replaced, store_copies}
use Rattle.flat_pass.specs.Grown.{built}
use Rattle.flat_pass.specs.Renames.{copying}
use Rattle.flat_pass.proofs.Puts.{celled, celled_is, celled_next, copies-length, over_below, replaced_is, stored, stored_below, wired, wired_below}
use Rattle.flat_pass.proofs.grown.Grown.replace.Goals as goal

pub returns-in_err-put_wires-clause-over : goal.returns-in_err-put_wires-clause-over
returns-in_err-put_wires-clause-over c = λ e.
    let b = built c.args.self.now in
    let child = c.args.child.now.body.now in
    let inst = c.args.instance.now in
    over_below (put_all (put_wire c.as_slice-name.result.now) c.as_slice.result.now b) (wired child inst b) (replaced child inst b)
    (c.put_wires.ensures.over (search (rules, e, c.from_residual-in_err-put_wires.ensures)))
    (λ i. put_all (put_wire (c.as_slice-name.ensures.value i)) (c.as_slice.ensures.value i) b)
    (wired_below child inst b)

pub returns-in_err-copies-clause-over : goal.returns-in_err-copies-clause-over
returns-in_err-copies-clause-over c = λ e.
    let b = built c.args.self.now in
    let child = c.args.child.now.body.now in
    let inst = c.args.instance.now in
    let w : built c.put_wires.new.self ≡ wired child inst b = c.in_ok-put_wires.ensures.exact ∙ (λ i. put_all (put_wire (c.as_slice-name.ensures.value i)) (c.as_slice.ensures.value i) b) in
    over_below (put_all (put_store c.as_slice-name.result.now) c.as_slice-2.result.now (built c.put_wires.new.self)) (stored child inst b) (replaced child inst b)
    (c.put_stores.ensures.over (search (rules, e, c.from_residual-in_err-copies.ensures)))
    (λ i. put_all (put_store (c.as_slice-name.ensures.value i)) (c.as_slice-2.ensures.value i) (w i))
    (stored_below child inst b)

pub of-requires : goal.of-requires
of-requires c = record {
  paired =
      ap length c.in_ok-copies.ensures.names
      ∙ copies-length c.as_slice-name.result.now c.as_slice-2.result.now (built c.put_wires.new.self)
      ∙ ap length (c.as_slice-2.ensures.value ∙ sym c.as_slice-stores.ensures.value);
}

pub returns-in_err-put_cells-clause-over : goal.returns-in_err-put_cells-clause-over
returns-in_err-put_cells-clause-over c = λ e.
    let b = built c.args.self.now in
    let child = c.args.child.now.body.now in
    let inst = c.args.instance.now in
    let w : built c.put_wires.new.self ≡ wired child inst b = c.in_ok-put_wires.ensures.exact ∙ (λ i. put_all (put_wire (c.as_slice-name.ensures.value i)) (c.as_slice.ensures.value i) b) in
    let s : built c.put_stores.new.self ≡ put_all (put_store inst.name) child.memories (built c.put_wires.new.self) = c.in_ok-copies.ensures.exact ∙ (λ i. put_all (put_store (c.as_slice-name.ensures.value i)) (c.as_slice-2.ensures.value i) (built c.put_wires.new.self)) in
    let names : c.in_ok-copies.copies ≡ store_copies inst.name child.memories (built c.put_wires.new.self) = c.in_ok-copies.ensures.names ∙ (λ i. store_copies (c.as_slice-name.ensures.value i) (c.as_slice-2.ensures.value i) (built c.put_wires.new.self)) in
    let is : copying c.in_ok-renames.renames ≡ record { instance = inst.name; first = c.in_ok-first.first; memories = map (λ (m : Store). m.name) child.memories; copies = c.in_ok-copies.copies } = c.in_ok-renames.ensures.value ∙ (λ i. record { instance = c.as_slice-name.ensures.value i; first = c.in_ok-first.first; memories = map (λ (m : Store). m.name) (c.as_slice-stores.ensures.value i); copies = c.in_ok-copies.copies }) in
    let all = celled_is child inst b c.in_ok-first.first c.in_ok-copies.copies (copying c.in_ok-renames.renames) (built c.put_wires.new.self) (built c.put_stores.new.self) c.in_ok-first.ensures.value w s names is in
    let below = celled_next child inst b in
    over_below (put_all (put_cell (copying c.in_ok-renames.renames)) c.as_slice-3.result.now (built c.put_stores.new.self)) (celled child inst b) (replaced child inst b)
    (c.put_cells.ensures.over (search (rules, e, c.from_residual-in_err-put_cells.ensures)))
    ((λ i. put_all (put_cell (copying c.in_ok-renames.renames)) (c.as_slice-3.ensures.value i) (built c.put_stores.new.self)) ∙ all)
    (omega (arith, below))

pub returns-clause-exact : goal.returns-clause-exact
returns-clause-exact c =
    let b = built c.args.self.now in
    let child = c.args.child.now.body.now in
    let inst = c.args.instance.now in
    let w : built c.put_wires.new.self ≡ wired child inst b = c.in_ok-put_wires.ensures.exact ∙ (λ i. put_all (put_wire (c.as_slice-name.ensures.value i)) (c.as_slice.ensures.value i) b) in
    let s : built c.put_stores.new.self ≡ put_all (put_store inst.name) child.memories (built c.put_wires.new.self) = c.in_ok-copies.ensures.exact ∙ (λ i. put_all (put_store (c.as_slice-name.ensures.value i)) (c.as_slice-2.ensures.value i) (built c.put_wires.new.self)) in
    let names : c.in_ok-copies.copies ≡ store_copies inst.name child.memories (built c.put_wires.new.self) = c.in_ok-copies.ensures.names ∙ (λ i. store_copies (c.as_slice-name.ensures.value i) (c.as_slice-2.ensures.value i) (built c.put_wires.new.self)) in
    let is : copying c.in_ok-renames.renames ≡ record { instance = inst.name; first = c.in_ok-first.first; memories = map (λ (m : Store). m.name) child.memories; copies = c.in_ok-copies.copies } = c.in_ok-renames.ensures.value ∙ (λ i. record { instance = c.as_slice-name.ensures.value i; first = c.in_ok-first.first; memories = map (λ (m : Store). m.name) (c.as_slice-stores.ensures.value i); copies = c.in_ok-copies.copies }) in
    let all = celled_is child inst b c.in_ok-first.first c.in_ok-copies.copies (copying c.in_ok-renames.renames) (built c.put_wires.new.self) (built c.put_stores.new.self) c.in_ok-first.ensures.value w s names is in
    replaced_is child inst b c.in_ok-first.first (built c.put_cells.new.self) (built c.put_links.new.self) c.in_ok-first.ensures.value
    (c.in_ok-put_cells.ensures.exact ∙ (λ i. put_all (put_cell (copying c.in_ok-renames.renames)) (c.as_slice-3.ensures.value i) (built c.put_stores.new.self)) ∙ all)
    c.in_ok-put_links.ensures.exact
