use Rattle.std.proofs.Common.{◌≡◌, arith, List, Bool, length, filter, ◌∙◌, ap, sym}
use Rattle.std.specs.List.{list_all, range_with_len}
use Rattle.net_model.specs.Fsm.Find.{cells_at_places, fits_code}
use Rattle.fsm_find.specs.Order.{is_done}
use Rattle.fsm_find.specs.Readers.{are_read_well}
use Rattle.fsm_find.proofs.Machining.{draft_kept, draft_unread, draft_wide, places_are}
use Rattle.fsm_find.proofs.finder.Finder.of_states.Goals as goal

pub returns-then-not-branch : goal.returns-then-not-branch
returns-then-not-branch c = record {
  exact = λ ports k made is view d.
      let m = c.args.self.now.body.now in
      let state = c.args.candidate.now.view.state in
      let found = c.args.found.items in
      let muxes = c.in_ok-muxes.ensures.value ∙ ap (λ (marks : List Bool). filter (is_done marks) (range_with_len 0 (length marks))) c.as_slice.ensures.value in
      let there = c.as_slice-2.ensures.value ∙ muxes in
      let reads = ap (λ ps. are_read_well ports m ps c.args.candidate.now.flop state) (sym c.as_slice-2.ensures.value) ∙ sym (c.in_ok-is_read_well.ensures.value ports is view (places_are found c.as_slice-2.result.now there)) in
      draft_unread ports m state k c.args.candidate.now.place c.args.candidate.now.flop found c.args.states.items c.args.starts made d c.in_ok-muxes.muxes muxes (reads ∙ c.if-not-branch.true);
}

pub returns-then-not-branch-2 : goal.returns-then-not-branch-2
returns-then-not-branch-2 c = record {
  exact = λ ports k made is view d.
      let m = c.args.self.now.body.now in
      let state = c.args.candidate.now.view.state in
      let found = c.args.found.items in
      let muxes = c.in_ok-muxes.ensures.value ∙ ap (λ (marks : List Bool). filter (is_done marks) (range_with_len 0 (length marks))) c.as_slice.ensures.value in
      let there = c.as_slice-2.ensures.value ∙ muxes in
      let reads = ap (λ ps. are_read_well ports m ps c.args.candidate.now.flop state) (sym c.as_slice-2.ensures.value) ∙ sym (c.in_ok-is_read_well.ensures.value ports is view (places_are found c.as_slice-2.result.now there)) in
      let count : c.len.result ≡ length c.args.states.items = (let k = c.len.ensures in omega (arith, k)) in
      let fits = ap (λ ps. list_all (fits_code (length c.args.states.items)) (cells_at_places m.cells ps)) (sym c.as_slice-3.ensures.value) ∙ ap (λ n. list_all (fits_code n) (cells_at_places m.cells c.as_slice-3.result.now)) (sym count) ∙ sym (c.in_ok-all_fit.ensures.value ports view) in
      draft_wide ports m state k c.args.candidate.now.place c.args.candidate.now.flop found c.args.states.items c.args.starts made d c.in_ok-muxes.muxes muxes (reads ∙ c.if-not-branch.false) (fits ∙ c.if-not-branch-2.true);
}

pub returns : goal.returns
returns c = record {
  exact = λ ports k made is view d.
      let m = c.args.self.now.body.now in
      let state = c.args.candidate.now.view.state in
      let found = c.args.found.items in
      let muxes = c.in_ok-muxes.ensures.value ∙ ap (λ (marks : List Bool). filter (is_done marks) (range_with_len 0 (length marks))) c.as_slice.ensures.value in
      let there = c.as_slice-2.ensures.value ∙ muxes in
      let reads = ap (λ ps. are_read_well ports m ps c.args.candidate.now.flop state) (sym c.as_slice-2.ensures.value) ∙ sym (c.in_ok-is_read_well.ensures.value ports is view (places_are found c.as_slice-2.result.now there)) in
      let count : c.len.result ≡ length c.args.states.items = (let k = c.len.ensures in omega (arith, k)) in
      let fits = ap (λ ps. list_all (fits_code (length c.args.states.items)) (cells_at_places m.cells ps)) (sym c.as_slice-3.ensures.value) ∙ ap (λ n. list_all (fits_code n) (cells_at_places m.cells c.as_slice-3.result.now)) (sym count) ∙ sym (c.in_ok-all_fit.ensures.value ports view) in
      draft_kept ports m state k c.args.candidate.now.place c.args.candidate.now.flop found c.args.states.items c.args.starts made d c.in_ok-muxes.muxes muxes (reads ∙ c.if-not-branch.false) (fits ∙ c.if-not-branch-2.false)
      c.in_ok-flop.flop c.in_ok-flop.ensures.value c.in_ok-compares.compares (c.in_ok-compares.ensures.value ports view) _ c.from_vec.ensures.value;
}
