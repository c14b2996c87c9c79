-- What a process drives in the flat netlist is among the bits that the check counts for it.
use Rattle.std.proofs.Common.{◌≡◌, ◌≤◌, ℕ, ◌+◌, Bool, true, false, not, List, [], ◌∷◌, Option, Some, None, refl, sym, ◌∙◌, ap, arith}
use Rattle.std.specs.Prelude.{filter, flat_map, if◌then◌else◌}
use Rattle.std.specs.Option.{is_some}
use Rattle.rtl_sig.specs.declared.sig.SigBit.{SigBit}
use Rattle.rtl_sig.specs.declared.sig.SigBit.TheVariants.{Fixed, Wire as OnWire}
use Rattle.rtl_sig.specs.declared.sig.WireBit.{WireBit}
use Rattle.rtl_ir.specs.Assigns.{left_bits, tree_bits}
use Rattle.rtl_ir.specs.Faults.TwoEdges.{EdgeBit, edge_bit}
use Rattle.rtl_ir.specs.Flat.Process.{edge_trigger, level_trigger}
use Rattle.rtl_ir.specs.Follow.{all_joins, joins, source_at}
use Rattle.rtl_ir.specs.declared.follow.Join.{Join}
use Rattle.rtl_ir.specs.Rules.{acting_rules, beyond, updated_bits, updated_by, without_bit}
use Rattle.rtl_ir.specs.Signals.{same_bit, wire_bits}
use Rattle.rtl_ir.specs.declared.module.Link.{Link}
use Rattle.rtl_ir.specs.declared.process.Event.{Event}
use Rattle.rtl_ir.specs.declared.process.Event.TheVariants.{Low, High, Posedge, Negedge, Edge, Global, Init, Always}
use Rattle.rtl_ir.specs.declared.process.Process.{Process}
use Rattle.rtl_ir.specs.declared.process.SyncRule.{SyncRule}
use Rattle.net_model.proofs.Members.{map-append}
use Rattle.pass_laws.proofs.Counting.{count, count_more}
use Rattle.build_laws.specs.Rebuilds.{checked_bits, driven_bits, join_bits, loaded_bits, one_rule_bits, raced_bits, rules_bits}
use Rattle.pass_laws.proofs.Once.{bit_same}
use Rattle.build_laws.proofs.CountingItems.{times}
use Rattle.build_laws.proofs.RebuildBits.{two_cases}

module _ (x : WireBit) where
  -- places of lines are among the bits of the left sides
  joins_few : (ls rs : List SigBit) → count x (join_bits (joins ls rs)) ≤ count x (wire_bits ls)
  joins_few [] rs = omega arith
  joins_few (l ∷ ls) [] = omega arith
  joins_few (Fixed c ∷ ls) (r ∷ rs) = joins_few ls rs
  joins_few (OnWire b ∷ ls) (r ∷ rs) = omega (arith, joins_few ls rs)

  pub lines_few : (links : List Link) → count x (join_bits (all_joins links)) ≤ count x (left_bits links)
  lines_few [] = omega arith
  lines_few (l ∷ links) =
      let here = ap (count x) (map-append (λ (j : Join). j.bit) (joins l.left l.right) (all_joins links)) ∙ count_more x (join_bits (joins l.left l.right)) (join_bits (all_joins links)) in
      omega (arith, here, count_more x (wire_bits l.left) (left_bits links), joins_few l.left l.right, lines_few links)

  -- what is taken out of bits is one place of one bit
  without_count : (b : WireBit) (bits : List WireBit) → count x bits ≤ times (same_bit b x) + count x (without_bit b bits)
  without_count b [] = omega arith
  without_count b (c ∷ bits) = by (same_bit b c) refl (without_count b bits)
    where
      by : (t : Bool) → same_bit b c ≡ t → count x bits ≤ times (same_bit b x) + count x (without_bit b bits) → count x (c ∷ bits) ≤ times (same_bit b x) + count x (if t then bits else c ∷ without_bit b bits)
      by true e h =
          let same : times (same_bit b x) ≡ times (same_bit c x) = ap (λ z. times (same_bit z x)) ((bit_same b c).0 e) in
          omega (arith, same)
      by false e h = omega (arith, h)

  -- so each bit is among the seen ones and those beyond
  beyond_count : (seen bits : List WireBit) → count x bits ≤ count x seen + count x (beyond seen bits)
  beyond_count [] bits = omega arith
  beyond_count (b ∷ seen) bits = omega (arith, without_count b bits, beyond_count seen (without_bit b bits))

  updated_first : (a : SyncRule) (rules : List SyncRule) → count x (left_bits a.updates) ≤ count x (updated_by (a ∷ rules))
  updated_first a rules =
      omega (arith, count_more x (left_bits a.updates) (beyond (left_bits a.updates) (updated_by rules)))

  updated_later : (a : SyncRule) (rules : List SyncRule) → count x (updated_by rules) ≤ count x (updated_by (a ∷ rules))
  updated_later a rules =
      omega (arith, count_more x (left_bits a.updates) (beyond (left_bits a.updates) (updated_by rules)), beyond_count (left_bits a.updates) (updated_by rules))

  -- a bit without a source is not among the bits of lines
  no_source : (js : List Join) → source_at js x ≡ None → count x (join_bits js) ≡ 0
  no_source [] e = refl
  no_source (j ∷ js) e = by (same_bit j.bit x) e (no_source js)
    where
      by : (t : Bool) → (if t then Some j.source else source_at js x) ≡ None → (source_at js x ≡ None → count x (join_bits js) ≡ 0) → times t + count x (join_bits js) ≡ 0
      by true f later = absurd (cc)
      by false f later = omega (arith, later f)

  -- and one with a source is not among the bits of lines that have none
  others_none : (edges levels : List Join) → is_some (source_at edges x) ≡ true → count x (join_bits (filter (λ (j : Join). not (is_some (source_at edges j.bit))) levels)) ≡ 0
  others_none edges [] e = refl
  others_none edges (j ∷ levels) e = by (is_some (source_at edges j.bit)) refl (others_none edges levels e)
    where
      differ : (t : Bool) → same_bit j.bit x ≡ t → is_some (source_at edges j.bit) ≡ false → times t ≡ 0
      differ false f g = refl
      differ true f g =
          let same : is_some (source_at edges x) ≡ false = ap (λ z. is_some (source_at edges z)) (sym ((bit_same j.bit x).0 f)) ∙ g in
          absurd (cc)

      by : (t : Bool) → is_some (source_at edges j.bit) ≡ t → count x (join_bits (filter (λ (k : Join). not (is_some (source_at edges k.bit))) levels)) ≡ 0 → count x (join_bits (if not t then j ∷ filter (λ (k : Join). not (is_some (source_at edges k.bit))) levels else filter (λ (k : Join). not (is_some (source_at edges k.bit))) levels)) ≡ 0
      by true f h = h
      by false f h = omega (arith, h, differ (same_bit j.bit x) refl f)

  filtered_few : (test : Join → Bool) (js : List Join) → count x (join_bits (filter test js)) ≤ count x (join_bits js)
  filtered_few test [] = omega arith
  filtered_few test (j ∷ js) = by (test j) (filtered_few test js)
    where
      by : (t : Bool) → count x (join_bits (filter test js)) ≤ count x (join_bits js) → count x (join_bits (if t then j ∷ filter test js else filter test js)) ≤ count x (join_bits (j ∷ js))
      by true h = omega (arith, h)
      by false h = omega (arith, h)

  -- an edge beside a level drives what either drives at most
  loaded_few : (n : ℕ) (edges levels : List Join) → count x (join_bits edges) ≤ n → count x (join_bits levels) ≤ n → count x (loaded_bits edges levels) ≤ n
  loaded_few n edges levels h k =
      by (source_at edges x) refl
    where
      others : List Join
      others = filter (λ (j : Join). not (is_some (source_at edges j.bit))) levels

      both : count x (loaded_bits edges levels) ≡ count x (join_bits edges) + count x (join_bits (filter (λ (j : Join). not (is_some (source_at edges j.bit))) levels))
      both = count_more x (join_bits edges) (join_bits (filter (λ (j : Join). not (is_some (source_at edges j.bit))) levels))

      by : (o : Option SigBit) → source_at edges x ≡ o → count x (loaded_bits edges levels) ≤ n
      by (Some s) e = omega (arith, both, h, others_none edges levels (ap is_some e))
      by None e = omega (arith, both, k, no_source edges e, filtered_few (λ (j : Join). not (is_some (source_at edges j.bit))) levels)

  raced_few : (updates : List Join) (a b : Option EdgeBit) → count x (raced_bits updates a b) ≤ count x (join_bits updates)
  raced_few updates (Some a) (Some b) = omega arith
  raced_few updates (Some a) None = omega arith
  raced_few updates None (Some b) = omega arith
  raced_few updates None None = omega arith

  one_few : (updates : List Join) (event : Event) → count x (one_rule_bits updates event) ≤ count x (join_bits updates)
  one_few updates Always = omega arith
  one_few updates Global = omega arith
  one_few updates (Posedge signal) = omega arith
  one_few updates (Negedge signal) = omega arith
  one_few updates (High signal) = omega arith
  one_few updates (Low signal) = omega arith
  one_few updates (Edge signal) = omega arith
  one_few updates Init = omega arith

  rules_few : (rules : List SyncRule) → count x (rules_bits rules) ≤ count x (updated_by rules)
  rules_few [] = omega arith
  rules_few (a ∷ []) =
      omega (arith, one_few (all_joins a.updates) a.event, lines_few a.updates, updated_first a [])
  rules_few (a ∷ b ∷ []) =
      let n : ℕ = count x (updated_by (a ∷ b ∷ [])) in
      let first : count x (join_bits (all_joins a.updates)) ≤ n = omega (arith, lines_few a.updates, updated_first a (b ∷ [])) in
      let second : count x (join_bits (all_joins b.updates)) ≤ n = omega (arith, lines_few b.updates, updated_first b [], updated_later a (b ∷ [])) in
      two_cases (λ bits. count x bits ≤ count x (updated_by (a ∷ b ∷ []))) a b (loaded_few n (all_joins a.updates) (all_joins b.updates) first second) (loaded_few n (all_joins b.updates) (all_joins a.updates) second first)
      (omega (arith, raced_few (all_joins a.updates) (edge_bit a.event) (edge_bit b.event), first))
      (edge_trigger a.event) (edge_trigger b.event) (level_trigger a.event) (level_trigger b.event)
  rules_few (a ∷ b ∷ c ∷ rules) = omega arith

  pub driven_checked : (q : Process) → count x (driven_bits q) ≤ count x (checked_bits q)
  driven_checked q =
      omega (arith, count_more x (tree_bits q.root) (rules_bits (acting_rules q.syncs)), count_more x (tree_bits q.root) (updated_bits q.syncs), rules_few (acting_rules q.syncs))

  pub all_checked : (qs : List Process) → count x (flat_map driven_bits qs) ≤ count x (flat_map checked_bits qs)
  all_checked [] = omega arith
  all_checked (q ∷ qs) =
      omega (arith, count_more x (driven_bits q) (flat_map driven_bits qs), count_more x (checked_bits q) (flat_map checked_bits qs), driven_checked q, all_checked qs)
