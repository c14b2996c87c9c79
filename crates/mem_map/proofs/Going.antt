-- Runs, ports and words, one more at a place.
use Rattle.std.proofs.Common.{◌≡◌, ℕ, suc, ◌+◌, ◌<◌, List, [], ◌∷◌, ◌++◌, length, take, drop, get_or, add-one, sym, ◌∙◌, ap, subst, append_assoc}
use Rattle.std.proofs.Math.Seq.{drop-cons}
use Rattle.rtl_bits.specs.declared.bit.Bit.{Bit}
use Rattle.rtl_sig.specs.declared.sig.SigBit.{SigBit}
use Rattle.rtl_ir.specs.Build.{Building, fresh_wire}
use Rattle.rtl_ir.specs.declared.plan.MemPlan.{MemPlan}
use Rattle.rtl_ir.specs.declared.plan.ReadPort.{ReadPort}
use Rattle.rtl_ir.specs.declared.plan.WritePort.{WritePort}
use Rattle.net_index.specs.Builder.{PassesLimit}
use Rattle.net_model.specs.Mem.Expand.{Word, low_bit, mux_of_signals, port_runs, port_step, ports_step, read_step, reads_step, run_select, word_step, words_step}
use Rattle.net_model.specs.Proc.Start.{init_attribute}
use Rattle.match_cells.proofs.Growing.{grows_more, over_later}
use Rattle.mem_map.specs.Words.{numbered, word}
use Rattle.mem_map.proofs.Growing.{mux_grows, ports_grow, reads_grow, runs_grow, words_grow}
use Rattle.mem_map.proofs.Numbered.{wires}

pub item_here : {A : Type 0} (xs : List A) (at : ℕ) (x : A) → at < length xs → x ≡ get_or xs at x → drop at xs ≡ x ∷ drop (suc at) xs
item_here xs at x h e = drop-cons xs at x h ∙ ap (λ y. y ∷ drop (suc at) xs) (sym e)

-- what was there already, before what is given next
abbrev pub behind : {A : Type 0} → List A → List A × Building → List A × Building
behind xs r = (xs ++ r.0, r.1)

module _ (words : List Word) (ports : List ReadPort) (at : ℕ) (p : ReadPort) (h : at < length ports) (e : p ≡ get_or ports at p) where
  pub read_goes : (b b' all : Building) → b' ≡ read_step words p b → reads_step words (drop at ports) b ≡ all → reads_step words (drop (at + 1) ports) b' ≡ all
  read_goes b b' all made so =
      (λ i. reads_step words (drop (add-one at i) ports) (made i)) ∙ ap (λ ps. reads_step words ps b) (sym (item_here ports at p h e)) ∙ so

  pub read_over : (b all : Building) → reads_step words (drop at ports) b ≡ all → PassesLimit (read_step words p b) → PassesLimit all
  read_over b all so over =
      let then = read_step words p b in
      subst PassesLimit (ap (λ ps. reads_step words ps b) (sym (item_here ports at p h e)) ∙ so)
      (over_later then (reads_step words (drop (suc at) ports) then) (reads_grow words (drop (suc at) ports) then) over)

module _ (address : ℕ) (ports : List WritePort) (at : ℕ) (p : WritePort) (h : at < length ports) (e : p ≡ get_or ports at p) where
  pub port_goes : (acc acc' : List SigBit) (b b' : Building) (all : List SigBit × Building) → (acc', b') ≡ port_step address p acc b → ports_step address (drop at ports) acc b ≡ all → ports_step address (drop (at + 1) ports) acc' b' ≡ all
  port_goes acc acc' b b' all made so =
      (λ i. ports_step address (drop (add-one at i) ports) (made i).0 (made i).1) ∙ ap (λ ps. ports_step address ps acc b) (sym (item_here ports at p h e)) ∙ so

  pub port_over : (acc : List SigBit) (b : Building) (all : List SigBit × Building) → ports_step address (drop at ports) acc b ≡ all → PassesLimit (port_step address p acc b).1 → PassesLimit all.1
  port_over acc b all so over =
      let then = port_step address p acc b in
      subst PassesLimit (ap (λ ps. (ports_step address ps acc b).1) (sym (item_here ports at p h e)) ∙ ap (λ (r : List SigBit × Building). r.1) so)
      (over_later then.1 (ports_step address (drop (suc at) ports) then.0 then.1).1 (ports_grow address (drop (suc at) ports) then.0 then.1) over)

module _ (plan : MemPlan) (signals : List (List SigBit)) (at : ℕ) (s : List SigBit) (h : at < length signals) (e : s ≡ get_or signals at s) where
  pub word_goes : (address : ℕ) (b b' all : Building) → b' ≡ word_step plan (word address s) b → words_step plan (numbered address (drop at signals)) b ≡ all → words_step plan (numbered (address + 1) (drop (at + 1) signals)) b' ≡ all
  word_goes address b b' all made so =
      (λ i. words_step plan (numbered (address + 1) (drop (add-one at i) signals)) (made i)) ∙ ap (λ ss. words_step plan (numbered address ss) b) (sym (item_here signals at s h e)) ∙ so

  pub word_over : (address : ℕ) (b all : Building) → words_step plan (numbered address (drop at signals)) b ≡ all → PassesLimit (word_step plan (word address s) b) → PassesLimit all
  word_over address b all so over =
      let then = word_step plan (word address s) b in
      subst PassesLimit (ap (λ ss. words_step plan (numbered address ss) b) (sym (item_here signals at s h e)) ∙ so)
      (over_later then (words_step plan (numbered (address + 1) (drop (suc at) signals)) then) (words_grow plan (numbered (address + 1) (drop (suc at) signals)) then) over)

module _ (starts : List (List Bit)) (at : ℕ) (bits : List Bit) (h : at < length starts) (e : bits ≡ get_or starts at bits) where
  pub wire_goes : (signals signals' : List (List SigBit)) (s : List SigBit) (b b' : Building) (all : List (List SigBit) × Building) → (s, b') ≡ fresh_wire (length bits) (init_attribute bits ∷ []) b → signals' ≡ signals ++ s ∷ []
      → behind signals (wires (drop at starts) b) ≡ all → behind signals' (wires (drop (at + 1) starts) b') ≡ all
  wire_goes signals signals' s b b' all made more so =
      let wire = fresh_wire (length bits) (init_attribute bits ∷ []) b in
      let rest = wires (drop (suc at) starts) wire.1 in
      let front : signals' ≡ signals ++ wire.0 ∷ [] = more ∙ ap (λ (r : List SigBit × Building). signals ++ r.0 ∷ []) made in
      (λ i. behind (front i) (wires (drop (add-one at i) starts) (made i).1))
      ∙ ap (λ ss. (ss, rest.1)) (append_assoc signals (wire.0 ∷ []) rest.0)
      ∙ ap (λ ss. behind signals (wires ss b)) (sym (item_here starts at bits h e))
      ∙ so

module _ (m : SigBit) (runs : List ℕ) (at n : ℕ) (here : drop at runs ≡ n ∷ drop (suc at) runs) (acc new enable : List SigBit) (b : Building) (value : List SigBit) (all : List SigBit × Building) (so : behind value (port_runs m (drop at runs) acc new enable b) ≡ all) where
  abbrev select : SigBit × Building
  select = run_select m (low_bit enable) b

  abbrev mux : List SigBit × Building
  mux = mux_of_signals (take n acc) (take n new) select.0 select.1

  abbrev rest : List SigBit × Building
  rest = port_runs m (drop (suc at) runs) (drop n acc) (drop n new) (drop n enable) mux.1

  whole : behind value (mux.0 ++ rest.0, rest.1) ≡ all
  whole = ap (λ ns. behind value (port_runs m ns acc new enable b)) (sym here) ∙ so

  pub mux_over : (s : SigBit) (b1 : Building) → (s, b1) ≡ select → PassesLimit (mux_of_signals (take n acc) (take n new) s b1).1 → PassesLimit all.1
  mux_over s b1 e1 over =
      subst PassesLimit (ap (λ (r : List SigBit × Building). r.1) whole)
      (over_later mux.1 rest.1 (runs_grow m (drop (suc at) runs) (drop n acc) (drop n new) (drop n enable) mux.1)
      (subst (λ (r : SigBit × Building). PassesLimit (mux_of_signals (take n acc) (take n new) r.0 r.1).1) e1 over))

  pub select_over : PassesLimit select.1 → PassesLimit all.1
  select_over over =
      subst PassesLimit (ap (λ (r : List SigBit × Building). r.1) whole)
      (over_later select.1 rest.1
      (grows_more select.1 mux.1 rest.1 (mux_grows (take n acc) (take n new) select.0 select.1) (runs_grow m (drop (suc at) runs) (drop n acc) (drop n new) (drop n enable) mux.1)) over)
