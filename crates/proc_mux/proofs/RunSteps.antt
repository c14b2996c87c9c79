-- Runs, one after another.
use Rattle.std.proofs.Common.{◌≡◌, ℕ, zero, suc, ◌+◌, ◌<◌, ◌≤◌, List, [], ◌∷◌, ◌++◌, length, drop, get_or, map, sym, ◌∙◌, ap, subst, arith, add-one, append_assoc}
use Rattle.std.specs.Prelude.{unwrap_or}
use Rattle.std.proofs.Math.Seq.{drop-cons}
use Rattle.rtl_bits.specs.declared.bit.Bit.TheVariants.{X}
use Rattle.rtl_sig.specs.declared.sig.SigBit.{SigBit}
use Rattle.rtl_sig.specs.declared.sig.SigBit.TheVariants.{Fixed, Wire as OnWire}
use Rattle.rtl_sig.specs.declared.sig.WireBit.{WireBit}
use Rattle.rtl_ir.specs.Build.{new_link}
use Rattle.rtl_ir.specs.Tree.{CaseView}
use Rattle.net_index.specs.Builder.{PassesLimit}
use Rattle.proc_mux.specs.Givens.{unknowns}
use Rattle.proc_mux.specs.Rows.{tree_given}
use Rattle.match_cells.specs.Trees.{Numbered}
use Rattle.proc_mux.specs.Trees.{run_step, runs_step, switches_value, value_at}
use Rattle.proc_mux.specs.declared.given.Given.{Given}
use Rattle.match_cells.proofs.Growing.{Grows, grows_more, grows_none, link_grows, over_later}
use Rattle.proc_mux.proofs.Walking.{switches_grow}

pub unknown_goes : (run : List WireBit) (at : ℕ) → at < length run → (bits bits' all : List SigBit) → bits' ≡ bits ++ Fixed X ∷ [] → bits ++ unknowns (drop at run) ≡ all → bits' ++ unknowns (drop (at + 1) run) ≡ all
unknown_goes run at h bits bits' all more so =
    let d : WireBit = record { wire = 0; at = 0 } in
    (λ i. more i ++ unknowns (drop (add-one at i) run))
    ∙ append_assoc bits (Fixed X ∷ []) (unknowns (drop (suc at) run))
    ∙ ap (λ bs. bits ++ unknowns bs) (sym (drop-cons run at d h))
    ∙ so

module _ (root : CaseView) (run : List WireBit) (t : Numbered) (given : List Given) (start : List SigBit) (are : given ≡ tree_given root run) (begins : start ≡ unwrap_or (value_at given 0) (unknowns run)) where
  value_is : switches_value given 1 root.switches start t ≡ switches_value (tree_given root run) 1 root.switches (unwrap_or (value_at (tree_given root run) 0) (unknowns run)) t
  value_is = λ i. switches_value (are i) 1 root.switches ((begins ∙ ap (λ gs. unwrap_or (value_at gs 0) (unknowns run)) are) i) t

  pub run_made : (r : List SigBit × Numbered) (signal : List SigBit) → r ≡ switches_value given 1 root.switches start t → signal ≡ map OnWire run → record { building = new_link signal r.0 r.1.building; made = r.1.made } ≡ run_step root run t
  unfolding run_step
  run_made r signal is names =
      let e = is ∙ value_is in
      (λ i. record { building = new_link (names i) (e i).0 (e i).1.building; made = (e i).1.made })

  pub run_over : PassesLimit (switches_value given 1 root.switches start t).1.building → PassesLimit (run_step root run t).building
  unfolding run_step
  run_over over =
      let value = switches_value (tree_given root run) 1 root.switches (unwrap_or (value_at (tree_given root run) 0) (unknowns run)) t in
      over_later value.1.building (new_link (map OnWire run) value.0 value.1.building) (link_grows (map OnWire run) value.0 value.1.building)
      (subst (λ (r : List SigBit × Numbered). PassesLimit r.1.building) value_is over)

pub run_grows : (root : CaseView) (run : List WireBit) (t : Numbered) → Grows t.building (run_step root run t).building
unfolding run_step
run_grows root run t =
    let given = tree_given root run in
    let start = unwrap_or (value_at given 0) (unknowns run) in
    let value = switches_value given 1 root.switches start t in
    grows_more t.building value.1.building (new_link (map OnWire run) value.0 value.1.building) (switches_grow given 1 root.switches start t) (link_grows (map OnWire run) value.0 value.1.building)

pub runs_grow : (root : CaseView) (runs : List (List WireBit)) (t : Numbered) → Grows t.building (runs_step root runs t).building
runs_grow root [] t = grows_none t.building
runs_grow root (run ∷ runs) t = grows_more t.building (run_step root run t).building (runs_step root runs (run_step root run t)).building (run_grows root run t) (runs_grow root runs (run_step root run t))

module _ (root : CaseView) (runs : List (List WireBit)) (at : ℕ) (run : List WireBit) (h : at < length runs) (e : run ≡ get_or runs at run) where
  next : drop at runs ≡ run ∷ drop (suc at) runs
  next = drop-cons runs at run h ∙ ap (λ r. r ∷ drop (suc at) runs) (sym e)

  pub run_goes : (t t' all : Numbered) → t' ≡ run_step root run t → runs_step root (drop at runs) t ≡ all → runs_step root (drop (at + 1) runs) t' ≡ all
  run_goes t t' all made so = (λ i. runs_step root (drop (add-one at i) runs) (made i)) ∙ ap (λ rs. runs_step root rs t) (sym next) ∙ so

  pub runs_over : (t all : Numbered) → runs_step root (drop at runs) t ≡ all → PassesLimit (run_step root run t).building → PassesLimit all.building
  runs_over t all so over =
      let then = run_step root run t in
      subst (λ (s : Numbered). PassesLimit s.building) (ap (λ rs. runs_step root rs t) (sym next) ∙ so)
      (over_later then.building (runs_step root (drop (suc at) runs) then).building (runs_grow root (drop (suc at) runs) then) over)

pub runs_end : (root : CaseView) (runs : List (List WireBit)) (at : ℕ) → length runs ≤ at → (t all : Numbered) → runs_step root (drop at runs) t ≡ all → t ≡ all
runs_end root [] zero h t all so = so
runs_end root [] (suc at) h t all so = so
runs_end root (r ∷ runs) zero h t all so = absurd (omega arith)
runs_end root (r ∷ runs) (suc at) h t all so = runs_end root runs at (omega arith) t all so
