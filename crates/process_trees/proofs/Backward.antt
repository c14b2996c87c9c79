-- Assigns, places and switches are walked from the last one on.
use Rattle.std.proofs.Common.{◌≡◌, ℕ, suc, ◌+◌, ◌<◌, ◌≤◌, List, [], ◌∷◌, length, drop, get_or, min, Option, Some, None, if◌then◌else◌, add-one, refl, sym, ap, ◌∙◌}
use Rattle.std.proofs.Math.Seq.{drop-cons}
use Rattle.std.proofs.lemmas.List.{drop_all}
use Rattle.rtl_sig.specs.declared.sig.SigBit.{SigBit}
use Rattle.rtl_sig.specs.declared.sig.WireBit.{WireBit}
use Rattle.rtl_ir.specs.declared.module.Link.{Link}
use Rattle.rtl_ir.specs.Assigns.{assigned, last_source}
use Rattle.rtl_ir.specs.Follow.{all_joins, joins}
use Rattle.rtl_ir.specs.Tree.{CaseView, SwitchView, switches_of}
use Rattle.rtl_ir.proofs.JoinPlaces.{places_all}
use Rattle.process_trees.specs.declared.walk.Walk.{Walk}
use Rattle.process_trees.specs.Lines.{is_bit}
use Rattle.process_trees.specs.Numbers.{ByBit}
use Rattle.process_trees.specs.Reach.{after, given_last, reach_case, reach_switch, reach_switches, untouched}
use Rattle.process_trees.specs.Walk.{Walked}
use Rattle.process_trees.proofs.Fronts.{front}
use Rattle.process_trees.proofs.Sources.{place_first, source_append}
use Rattle.process_trees.proofs.Walks.{given_after, itself, none_walked, walked_after, walked_as}

module _ (numbers : ByBit ℕ) where
  pub assigns_begin : (assigns : List Link) (at : ℕ) → length assigns ≤ at → (walk : Walk) → Walked numbers (λ b. given_last (assigned (drop at assigns) b)) walk walk
  assigns_begin assigns at h walk =
      walked_as numbers (λ b. untouched) (λ b. given_last (assigned (drop at assigns) b)) walk walk
      (λ b. ap (λ ls. given_last (assigned ls b)) (sym (drop_all at assigns h))) (none_walked numbers walk walk (itself walk))

  pub assigns_step : (assigns : List Link) (at : ℕ) (x : Link) → at < length assigns → x ≡ get_or assigns at x → (old mid new : Walk)
      → Walked numbers (λ b. given_last (assigned (drop (at + 1) assigns) b)) old mid → Walked numbers (λ b. given_last (last_source (joins x.left x.right) b)) mid new
      → Walked numbers (λ b. given_last (assigned (drop at assigns) b)) old new
  assigns_step assigns at x h is old mid new p q =
      let rest = drop (at + 1) assigns in
      walked_as numbers (λ b. after (given_last (assigned rest b)) (given_last (last_source (joins x.left x.right) b))) (λ b. given_last (assigned (drop at assigns) b)) old new
      (λ b.
      given_after (assigned rest b) (last_source (joins x.left x.right) b)
      ∙ ap given_last (sym (source_append (joins x.left x.right) (all_joins rest) b) ∙ ap (λ ls. assigned ls b) (sym (front assigns at x h is))))
      (walked_after numbers (λ b. given_last (assigned rest b)) (λ b. given_last (last_source (joins x.left x.right) b)) old mid new p q)

  pub places_begin : (left right : List SigBit) (at : ℕ) → min (length left) (length right) ≤ at → (walk : Walk)
      → Walked numbers (λ b. given_last (last_source (joins (drop at left) (drop at right)) b)) walk walk
  places_begin left right at h walk =
      walked_as numbers (λ b. untouched) (λ b. given_last (last_source (joins (drop at left) (drop at right)) b)) walk walk
      (λ b. ap (λ js. given_last (last_source js b)) (places_all left right at h [] (joins (drop at left) (drop at right)) refl)) (none_walked numbers walk walk (itself walk))

  pub places_step : (left right : List SigBit) (at : ℕ) (dl dr : SigBit) → at < length left → at < length right → (old mid new : Walk)
      → Walked numbers (λ b. given_last (last_source (joins (drop (at + 1) left) (drop (at + 1) right)) b)) old mid
      → Walked numbers (λ b. given_last (if is_bit (get_or left at dl) b then Some (get_or right at dr) else None)) mid new
      → Walked numbers (λ b. given_last (last_source (joins (drop at left) (drop at right)) b)) old new
  places_step left right at dl dr hl hr old mid new p q =
      let next : suc at ≡ at + 1 = sym (add-one at) in
      let el : drop at left ≡ get_or left at dl ∷ drop (at + 1) left = drop-cons left at dl hl ∙ ap (λ n. get_or left at dl ∷ drop n left) next in
      let er : drop at right ≡ get_or right at dr ∷ drop (at + 1) right = drop-cons right at dr hr ∙ ap (λ n. get_or right at dr ∷ drop n right) next in
      let ls = drop (at + 1) left in
      let rs = drop (at + 1) right in
      let here : WireBit → Option SigBit = λ b. if is_bit (get_or left at dl) b then Some (get_or right at dr) else None in
      walked_as numbers (λ b. after (given_last (last_source (joins ls rs) b)) (given_last (here b))) (λ b. given_last (last_source (joins (drop at left) (drop at right)) b)) old new
      (λ b.
      given_after (last_source (joins ls rs) b) (here b)
      ∙ ap given_last (sym (place_first (get_or left at dl) (get_or right at dr) ls rs b) ∙ (λ i. last_source (joins (sym el i) (sym er i)) b)))
      (walked_after numbers (λ b. given_last (last_source (joins ls rs) b)) (λ b. given_last (here b)) old mid new p q)

  pub switches_begin : (items : List SwitchView) (at : ℕ) → length items ≤ at → (walk : Walk) → Walked numbers (λ b. reach_switches b (switches_of (drop at items))) walk walk
  switches_begin items at h walk =
      walked_as numbers (λ b. untouched) (λ b. reach_switches b (switches_of (drop at items))) walk walk
      (λ b. ap (λ ss. reach_switches b (switches_of ss)) (sym (drop_all at items h))) (none_walked numbers walk walk (itself walk))

  pub switches_step : (items : List SwitchView) (at : ℕ) (x : SwitchView) → at < length items → x ≡ get_or items at x → (old mid new : Walk)
      → Walked numbers (λ b. reach_switches b (switches_of (drop (at + 1) items))) old mid → Walked numbers (λ b. reach_switch b x) mid new
      → Walked numbers (λ b. reach_switches b (switches_of (drop at items))) old new
  switches_step items at x h is old mid new p q =
      let rest = drop (at + 1) items in
      walked_as numbers (λ b. after (reach_switches b (switches_of rest)) (reach_switch b x)) (λ b. reach_switches b (switches_of (drop at items))) old new
      (λ b. ap (λ ss. reach_switches b (switches_of ss)) (sym (front items at x h is)))
      (walked_after numbers (λ b. reach_switches b (switches_of rest)) (λ b. reach_switch b x) old mid new p q)

  pub case_walked_whole : (c : CaseView) (items : List SwitchView) (assigns : List Link) → switches_of items ≡ c.switches → assigns ≡ c.assigns → (old mid new : Walk)
      → Walked numbers (λ b. reach_switches b (switches_of items)) old mid → Walked numbers (λ b. given_last (assigned assigns b)) mid new → Walked numbers (λ b. reach_case b c) old new
  case_walked_whole c items assigns all same old mid new p q =
      walked_as numbers (λ b. after (reach_switches b (switches_of items)) (given_last (assigned assigns b))) (λ b. reach_case b c) old new
      (λ b i. after (reach_switches b (all i)) (given_last (assigned (same i) b)))
      (walked_after numbers (λ b. reach_switches b (switches_of items)) (λ b. given_last (assigned assigns b)) old mid new p q)
